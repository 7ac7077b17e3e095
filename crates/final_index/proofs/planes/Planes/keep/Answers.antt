use Rattle.std.proofs.Common.{ℕ, ◌+◌, ◌<◌, slice_index, bit_and, ap, ◌∙◌, arith}
use Rattle.kb_geometry.specs.Board.{point_count}
use Rattle.final_index.specs.Planes.{HadThere}
use Rattle.final_index.proofs.KeptBits.{kept-told}
use Rattle.final_index.proofs.planes.Planes.keep.Goals as goal

pub returns-clause-kept : goal.returns-clause-kept
returns-clause-kept c k g lt few =
    let inside : c.args.from + k < point_count c.args.self.now.shape = omega (arith, c.requires, lt) in
    kept-told (slice_index c.args.words.now k) (slice_index c.plane.result.now (c.args.from + k)) (slice_index c.cut.new.words k) g (HadThere c.args.self.now.games g c.args.cell (c.args.from + k))
    (c.plane.ensures.words (c.args.from + k) g inside) (c.cut.ensures.each k lt ∙ ap (λ (i : ℕ). bit_and (slice_index c.args.words.now k) (slice_index c.plane.result.now (i + k))) c.from.ensures)
