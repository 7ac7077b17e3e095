use Rattle.std.proofs.Common.{arith}
use Rattle.final_index.proofs.KeptBits.{common-more}
use Rattle.final_index.proofs.planes.common.Goals as goal

pub loop-p-preserved : goal.loop-p-preserved
loop-p-preserved c = common-more c.args.word c.args.plane.now c.loop-p.p c.loop-p.common c.loop-p.invariant

pub loop-p-init : goal.loop-p-init
loop-p-init c g = (λ e. (e, λ p lt. absurd (omega (arith, lt))), λ h. h.0)
