use Rattle.std.proofs.Common.{◌≡◌, ℕ, length, arith, subst}
use Rattle.candidate_sieve.proofs.KeptRows.{AreMetTo, met-next, met-start}
use Rattle.candidate_sieve.proofs.kept_words.met_by.Goals as goal

pub loop-k-init : goal.loop-k-init
loop-k-init c = met-start c.args.ready.now.images.shape c.args.ready.now.images.placements c.args.numbers.now c.args.words.now c.args.before c.args.corners.now

pub loop-k-preserved : goal.loop-k-preserved
loop-k-preserved c =
    met-next c.args.ready.now.images.shape c.args.ready.now.images.placements c.args.numbers.now c.args.words.now c.args.before c.args.corners.now c.loop-k.k c.loop-k.met c.games_met-met.result (omega (arith, c.loop-k-test.true, c.requires.count)) c.loop-k.auto.met-fits.fits c.loop-k.invariant c.games_met-met.ensures.those c.games_met-met.ensures.among

pub returns-clause-exact : goal.returns-clause-exact
returns-clause-exact c =
    let all : c.loop-k.k ≡ length c.args.numbers.now = omega (arith, c.loop-k-test.false, c.loop-k.auto.k-end) in
    (subst (λ (n : ℕ). AreMetTo c.args.ready.now.images.shape c.args.ready.now.images.placements c.args.numbers.now c.args.words.now c.args.before c.args.corners.now n c.loop-k.met) all c.loop-k.invariant).exact

pub returns-clause-among : goal.returns-clause-among
returns-clause-among c =
    let all : c.loop-k.k ≡ length c.args.numbers.now = omega (arith, c.loop-k-test.false, c.loop-k.auto.k-end) in
    (subst (λ (n : ℕ). AreMetTo c.args.ready.now.images.shape c.args.ready.now.images.placements c.args.numbers.now c.args.words.now c.args.before c.args.corners.now n c.loop-k.met) all c.loop-k.invariant).among
