use Rattle.std.proofs.Common.{ℕ, ◌+◌, ◌<◌, slice_index, bit_and, bit_or, ap, ◌∙◌, arith}
use Rattle.kb_geometry.specs.Board.{point_count}
use Rattle.final_index.specs.Planes.{HadThere}
use Rattle.final_index.proofs.KeptBits.{kept_either-told}
use Rattle.final_index.proofs.planes.Planes.keep_either.Goals as goal

pub returns-clause-kept : goal.returns-clause-kept
returns-clause-kept c k g lt few =
    let inside : c.args.from + k < point_count c.args.self.now.shape = omega (arith, c.requires, lt) in
    kept_either-told (slice_index c.args.words.now k) (slice_index c.plane.result.now (c.args.from + k)) (slice_index c.plane-2.result.now (c.args.from + k)) (slice_index c.cut_by_either.new.words k) g
    (HadThere c.args.self.now.games g c.args.one (c.args.from + k)) (HadThere c.args.self.now.games g c.args.other (c.args.from + k))
    (c.plane.ensures.words (c.args.from + k) g inside) (c.plane-2.ensures.words (c.args.from + k) g inside) (c.cut_by_either.ensures.each k lt ∙ ap (λ (i : ℕ). bit_and (slice_index c.args.words.now k) (bit_or (slice_index c.plane.result.now (i + k)) (slice_index c.plane-2.result.now (i + k)))) c.from.ensures)
