use Rattle.std.proofs.Common.{◌<◌, arith}
use Rattle.kb_geometry.specs.Board.{point_count}
use Rattle.final_index.proofs.planes.Planes.ever_empty.Goals as goal

pub returns : goal.returns
returns c g lt =
    let common = c.common.ensures g in (
      λ e.
          let h = common.0 e in
          ((c.present.ensures g lt).0 h.0, λ p below. (c.plane.ensures.words p g below).0 (h.1 p (omega (arith, below, c.plane.ensures.count)))),
      λ h. common.1 ((c.present.ensures g lt).1 h.0, λ p below. let inside : p < point_count c.args.self.now.shape = omega (arith, below, c.plane.ensures.count) in (c.plane.ensures.words p g inside).1 (h.1 p inside)),
    )
