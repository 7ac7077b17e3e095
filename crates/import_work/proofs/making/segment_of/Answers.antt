use Rattle.std.proofs.Common.{◌-◌, ◌∙◌, ap, arith, length}
use Rattle.import_work.proofs.MadePieces.{length-made_games, made-is, made-more}
use Rattle.import_work.proofs.making.segment_of.Goals as goal

pub add_finished-requires : goal.add_finished-requires
add_finished-requires c =
    let piece = c.args.piece in
    let count = ap length c.loop-number.invariant.made ∙ length-made_games piece.start piece.first (c.loop-number.number - piece.first) in
    omega (arith, count, c.requires.few)

pub loop-number-preserved : goal.loop-number-preserved
loop-number-preserved c = record {
  begun = omega (arith, c.loop-number.invariant.begun);
  made = made-more c.args.piece.start c.args.piece.first c.loop-number.number c.loop-number.games _ _ c.loop-number.invariant.begun c.loop-number.invariant.made c.in_ok-add_finished.ensures
      (c.in_ok-game.ensures ∙ made-is c.args.piece.start c.loop-number.number _ _ (c.in_ok-clone.ensures.cases ∙ c.in_ok-file.ensures.ok) c.in_ok-tree.ensures.value);
}
