use Rattle.std.proofs.Common.{◌<◌, ℕ, Some, ap, subst, ◌∙◌}
use Rattle.std.specs.Prelude.{Contains}
use Rattle.kb_geometry.specs.declared.shape.Shape.{Shape}
use Rattle.kb_geometry.specs.declared.stone.Cell.{Cell}
use Rattle.kb_geometry.specs.Board.{point_count}
use Rattle.final_index.specs.Ever.{set_of}
use Rattle.final_index.specs.Planes.{PlaneGames}
use Rattle.segment_store.proofs.block_planes.add_game.Goals as goal

pub push-requires-clause-on_board : goal.push-requires-clause-on_board
push-requires-clause-on_board c =
    subst (λ (s : Shape). (stone : Cell) (p : ℕ) → Contains (set_of c.ever.result.now stone) p → p < point_count s) (c.is_on.ensures.shape.0 c.if-is_on.true ∙ c.shape.ensures) c.ever.ensures.on_board

pub returns-then-is_on : goal.returns-then-is_on
returns-then-is_on c = record {
  shape = ap (λ (p : PlaneGames). p.shape) c.push.ensures;
  added = Some c.ever.result.now;
  games = ap (λ (p : PlaneGames). p.games) c.push.ensures;
  told = (c.is_on.ensures.shape.0 c.if-is_on.true ∙ c.shape.ensures, c.ever.ensures.value);
}
