use Rattle.std.proofs.Common.{◌≡◌, ℕ, ◌-◌, ◌*◌, ◌%◌, ◌^◌, ◌<◌, set, refl, arith}
use Rattle.kb_bits.proofs.Fronts.{AreFull-start, AreFull-more, AreFull-part, AreFull-none, AreWords-whole, AreWords-part, members-below}
use Rattle.kb_bits.proofs.bit_board.BitBoard.below.Goals as goal

pub loop-k-init : goal.loop-k-init
loop-k-init c = AreFull-start

pub loop-k-preserved : goal.loop-k-preserved
loop-k-preserved c = AreFull-more c.loop-k.words c.loop-k.k c.loop-k.invariant (omega arith)

pub invariant_of-result : goal.invariant_of-result
invariant_of-result c =
    let ended : c.loop-k.k ≡ c.from-full.result = omega arith in
    let filled = AreFull-none c.loop-k.words c.from-full.result (c.args.n % 64) c.if-rest-eq0.true (rw ended at c.loop-k.invariant) in
    AreWords-whole c.loop-k.words c.args.n c.from-full.result (c.args.n % 64) c.from-full.ensures refl filled c.requires c.if-rest-eq0.true

pub returns-then-rest-eq0 : goal.returns-then-rest-eq0
returns-then-rest-eq0 c =
    let ended : c.loop-k.k ≡ c.from-full.result = omega arith in
    let filled = AreFull-none c.loop-k.words c.from-full.result (c.args.n % 64) c.if-rest-eq0.true (rw ended at c.loop-k.invariant) in
    members-below c.loop-k.words c.args.n c.from-full.result (c.args.n % 64) c.from-full.ensures refl filled c.requires

pub invariant_of-result-2 : goal.invariant_of-result-2
invariant_of-result-2 c =
    let ended : c.loop-k.k ≡ c.from-full.result = omega arith in
    let rest : ℕ = c.args.n % 64 in
    let some : 0 < rest = omega arith in
    let words = set c.loop-k.words c.from-full.result (1 * 2 ^ rest % 2 ^ 64 - 1) in
    let filled = AreFull-part c.loop-k.words c.from-full.result (rw ended at c.loop-k.invariant) (omega arith) rest (omega arith) in
    AreWords-part words c.args.n c.from-full.result rest c.from-full.ensures refl filled c.requires some

pub returns : goal.returns
returns c =
    let ended : c.loop-k.k ≡ c.from-full.result = omega arith in
    let rest : ℕ = c.args.n % 64 in
    let some : 0 < rest = omega arith in
    let words = set c.loop-k.words c.from-full.result (1 * 2 ^ rest % 2 ^ 64 - 1) in
    let filled = AreFull-part c.loop-k.words c.from-full.result (rw ended at c.loop-k.invariant) (omega arith) rest (omega arith) in
    members-below words c.args.n c.from-full.result rest c.from-full.ensures refl filled c.requires
