use Rattle.std.proofs.Common.{◌≡◌, ℕ, ◌↔◌, slice_index, subst, sym}
use Rattle.std.specs.Int.{bit_at}
use Rattle.final_index.specs.Planes.{HadThere}
use Rattle.final_index.proofs.planes.Planes.word.Goals as goal

pub returns : goal.returns
returns c g lt =
    subst (λ (i : ℕ). (bit_at (slice_index c.plane.result.now i) g ≡ 1) ↔ HadThere c.args.self.now.games g c.args.cell c.args.point) (sym c.from.ensures) (c.plane.ensures.words c.args.point g c.requires)
