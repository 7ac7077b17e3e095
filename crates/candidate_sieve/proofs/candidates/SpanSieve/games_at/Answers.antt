use Rattle.std.proofs.Common.{◌≡◌, ℕ, length, arith, subst}
use Rattle.std.proofs.lemmas.List.{get_or_default}
use Rattle.ready_images.specs.Wants.{no_want}
use Rattle.candidate_sieve.specs.BlockGames.{HaveEach}
use Rattle.candidate_sieve.proofs.GamesTold.{ever_empty-settled, each-next, each-start}
use Rattle.candidate_sieve.proofs.candidates.SpanSieve.games_at.Goals as goal

pub loop-k-init : goal.loop-k-init
loop-k-init c = each-start c.args.self.now.planes.now.games c.args.self.now.base c.args.self.now.wants.now c.args.among

pub loop-k-preserved : goal.loop-k-preserved
loop-k-preserved c =
    each-next c.args.self.now.planes.now.games c.args.self.now.base c.args.self.now.wants.now c.args.among c.loop-k.k c.loop-k.games c.games_with-games.result _ (get_or_default c.args.self.now.wants.now c.loop-k.k no_want _ c.loop-k-test.true) c.loop-k.invariant c.games_with-games.ensures

pub returns-then-is_settled : goal.returns-then-is_settled
returns-then-is_settled c =
    ever_empty-settled c.args.self.now.planes.now c.args.self.now.ever_empty c.args.self.now.base c.args.self.now.wants.now c.args.among c.loop-k.k c.loop-k.games _ (get_or_default c.args.self.now.wants.now c.loop-k.k no_want _ c.loop-k-test.true) c.requires.sieve.ever_empty c.requires.sieve.in_order
    (λ w below. omega (arith, c.requires.sieve.on_board w no_want below, c.requires.some)) c.loop-k.invariant c.loop-k-test.true
    (λ g e. c.is_settled.ensures c.if-is_settled.true g e)

pub returns : goal.returns
returns c =
    let all : c.loop-k.k ≡ length c.args.self.now.wants.now = omega arith in
    subst (λ (n : ℕ). HaveEach c.args.self.now.planes.now.games c.args.self.now.base c.args.self.now.wants.now c.args.among n c.loop-k.games) all c.loop-k.invariant
