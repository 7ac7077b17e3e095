use Rattle.std.proofs.Common.{◌≡◌, ℕ, ◌<◌, ◌↔◌, subst}
use Rattle.std.specs.Prelude.{Contains}
use Rattle.kb_geometry.specs.Board.{point_count}
use Rattle.kb_geometry.specs.Capture.{cell_at}
use Rattle.capture_board.specs.Walking.{WalkerState}
use Rattle.capture_board.proofs.walker.Walker.points.Goals as goal

pub returns : goal.returns
returns c =
    subst (λ (w : WalkerState). (p : ℕ) → Contains c.points.result.now p ↔ ((p < point_count w.shape) × (cell_at w.position p ≡ c.args.cell))) c.self.view_is
    c.points.ensures
