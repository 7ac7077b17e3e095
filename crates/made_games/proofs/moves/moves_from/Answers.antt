use Rattle.std.proofs.Common.{◌≡◌, ◌++◌, ◌∷◌, [], List, Some, ap, ◌∙◌}
use Rattle.game_tree.specs.declared.node.Move.{Move}
use Rattle.kb_geometry.specs.declared.shape.Point.{Point}
use Rattle.kb_geometry.specs.declared.stone.Colour.{Colour}
use Rattle.made_games.specs.Made.{mover, next_number, point_of}
use Rattle.made_games.proofs.MadeMoves.{moves-more, number-more}
use Rattle.made_games.proofs.moves.moves_from.Goals as goal

pub loop-turn-preserved : goal.loop-turn-preserved
loop-turn-preserved c =
    let kept = c.loop-turn.invariant in
    let items = c.loop-turn.moves.items in
    let turn = c.loop-turn.turn in
    let point : c.point_of.result ≡ point_of (next_number c.loop-turn.number) =
    c.point_of.ensures.value ∙ ap point_of c.next_number-number.ensures.value in record {
      made = c.in_ok-push.ensures.items
          ∙ ap (λ (p : Point). items ++ record { colour = c.mover.result; point = Some p } ∷ []) point
          ∙ ap (λ (m : Colour). items ++ record { colour = m; point = Some (point_of (next_number c.loop-turn.number)) } ∷ []) c.mover.ensures
          ∙ ap (λ (xs : List Move). xs ++ record { colour = mover turn; point = Some (point_of (next_number c.loop-turn.number)) } ∷ []) kept.made
          ∙ moves-more c.args.first turn c.loop-turn.number kept.number;
      number = c.next_number-number.ensures.value ∙ ap next_number kept.number ∙ number-more c.args.first turn;
      below = c.next_number-number.ensures.below;
    }
