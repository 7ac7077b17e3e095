use Rattle.std.proofs.Common.{length, arith}
use Rattle.std.proofs.lemmas.List.{get_or_default}
use Rattle.final_index.proofs.KeptBits.{and-bit}
use Rattle.candidate_sieve.specs.Ordered.{no_pair}
use Rattle.candidate_sieve.proofs.OrderTold.{cut-all, cut-more, cut-start, cut-unknown}
use Rattle.candidate_sieve.proofs.order.SpanOrder.games_at.Goals as goal

pub returns-in_default : goal.returns-in_default
returns-in_default c =
    let s = c.args.self.now in
    cut-unknown s.order c.in_default.is s.base s.pairs.now (length s.pairs.now) c.args.games

pub loop-k-init : goal.loop-k-init
loop-k-init c = cut-start c.args.self.now.order c.args.self.now.base c.args.self.now.pairs.now c.args.games

pub loop-k-preserved : goal.loop-k-preserved
loop-k-preserved c =
    let s = c.args.self.now in
    cut-more s.order c.in-Some.order c.in-Some.is s.base s.pairs.now c.loop-k.k c.args.games c.loop-k.left _ c.loop-k.invariant _ (get_or_default s.pairs.now c.loop-k.k no_pair _ c.loop-k-test.true)
    (λ g e. ((and-bit c.loop-k.left c.word-left.result g).0 e).0)
    (λ g lt e stood. (and-bit c.loop-k.left c.word-left.result g).1 (e, c.word-left.ensures g lt stood))

pub returns-then-left-eq0 : goal.returns-then-left-eq0
returns-then-left-eq0 c =
    let s = c.args.self.now in
    cut-all s.order s.base s.pairs.now c.loop-k.k c.args.games c.loop-k.left (omega (arith, c.loop-k-test.true)) c.loop-k.invariant

pub returns : goal.returns
returns c =
    let s = c.args.self.now in
    cut-all s.order s.base s.pairs.now c.loop-k.k c.args.games c.loop-k.left (omega (arith, c.loop-k.auto.k-end)) c.loop-k.invariant
