use Rattle.std.proofs.Common.{ℕ, ◌≡◌, ◌∙◌, Option, Some, None, refl}
use Rattle.kb_geometry.specs.declared.shape.Point.{Point}
use Rattle.game_tree.specs.Value.{IsCoordinate}
use Rattle.dyer_signature.specs.Signatures.{IsPair}
use Rattle.dyer_signature.proofs.places.point_of.Goals as goal

no_column : (point : Option Point) (a b : ℕ) → ((n : ℕ) → ¬ IsCoordinate a n) → IsPair point a b → None ≡ point
no_column None a b none pair = refl
no_column (Some p) a b none pair = absurd (none p.x pair.0)

no_row : (point : Option Point) (a b : ℕ) → ((n : ℕ) → ¬ IsCoordinate b n) → IsPair point a b → None ≡ point
no_row None a b none pair = refl
no_row (Some p) a b none pair = absurd (none p.y pair.1)

pub returns-in_err-coordinate : goal.returns-in_err-coordinate
returns-in_err-coordinate c point pair =
    c.from_residual.ensures ∙ no_column point c.args.column c.args.row c.in_err-coordinate.ensures.none pair

pub returns-in_err-coordinate-2 : goal.returns-in_err-coordinate-2
returns-in_err-coordinate-2 c point pair =
    c.from_residual-in_err-coordinate-2.ensures
    ∙ no_row point c.args.column c.args.row c.in_err-coordinate-2.ensures.none pair
