use Rattle.std.proofs.Common.{List, codes, subst, sym}
use Rattle.sgf_reader.specs.declared.collection.Pair.{Pair}
use Rattle.game_tree.specs.Roots.{IsGameFault, first_in}
use Rattle.game_tree.specs.ValueFaults.{IsBoardOf}
use Rattle.game_tree.proofs.NodeValues.{same_error}
use Rattle.game_tree.proofs.WholeGames.{handed-on, no-board, root-first, root-inside, root-there, root-values}
use Rattle.game_tree.proofs.game.build_game.Goals as goal

pub node-root-requires : goal.node-root-requires
node-root-requires c = root-there c.args.text.now c.args.raw.now c.requires.read

pub game_fault-game-requires : goal.game_fault-game-requires
game_fault-game-requires c = record { inside = rw c.pairs-pairs.ensures (root-inside c.args.text.now c.args.raw.now c.requires.read _ _ (root-first c.args.raw.now c.node-root.result (root-there c.args.text.now c.args.raw.now c.requires.read) c.node-root.ensures)) }

pub first_value-requires : goal.first_value-requires
first_value-requires c = record { inside = rw c.pairs-pairs.ensures (root-inside c.args.text.now c.args.raw.now c.requires.read _ _ (root-first c.args.raw.now c.node-root.result (root-there c.args.text.now c.args.raw.now c.requires.read) c.node-root.ensures)) }

pub second_move-requires : goal.second_move-requires
second_move-requires c = record { inside = rw c.pairs-pairs.ensures (root-inside c.args.text.now c.args.raw.now c.requires.read _ _ (root-first c.args.raw.now c.node-root.result (root-there c.args.text.now c.args.raw.now c.requires.read) c.node-root.ensures)) }

pub returns-in-Err-clause-fault : goal.returns-in-Err-clause-fault
returns-in-Err-clause-fault c = λ f e.
    handed-on c.args.text.now c.args.raw.now c.first_fault-fault.result f
    (no-board c.args.text.now c.args.raw.now c.requires.read _ _ (root-first c.args.raw.now c.node-root.result (root-there c.args.text.now c.args.raw.now c.requires.read) c.node-root.ensures) _ _ c.in-Err.size c.first_fault.result c.first_fault-fault.result
    (rw c.pairs-pairs.ensures at c.game_fault-game.ensures) (rw c.pairs-pairs.ensures at c.second_move.ensures) (rw (c.first_value.ensures.value, c.pairs-pairs.ensures) at c.in-Err.ensures.fault)
    c.first_fault.ensures.one c.first_fault.ensures.least c.first_fault.ensures.least_other c.first_fault-fault.ensures.one c.first_fault-fault.ensures.least c.first_fault-fault.ensures.least_other)
    (same_error _ _ e)

pub build_on-requires-clause-root : goal.build_on-requires-clause-root
build_on-requires-clause-root c = root-first c.args.raw.now c.node-root.result (root-there c.args.text.now c.args.raw.now c.requires.read) c.node-root.ensures

pub build_on-requires-clause-board : goal.build_on-requires-clause-board
build_on-requires-clause-board c =
    let root = root-first c.args.raw.now c.node-root.result (root-there c.args.text.now c.args.raw.now c.requires.read) c.node-root.ensures in
    let same = root-values c.args.text.now c.args.raw.now c.requires.read _ _ root in
    subst (λ (ps : List Pair). IsBoardOf c.args.text.now (first_in c.args.text.now ps (codes "SZ")) c.in-Ok.shape) (sym same) (rw (c.first_value.ensures.value, c.pairs-pairs.ensures) at c.in-Ok.ensures.ok)

pub build_on-requires-clause-game : goal.build_on-requires-clause-game
build_on-requires-clause-game c =
    let root = root-first c.args.raw.now c.node-root.result (root-there c.args.text.now c.args.raw.now c.requires.read) c.node-root.ensures in
    let same = root-values c.args.text.now c.args.raw.now c.requires.read _ _ root in
    subst (λ (ps : List Pair). IsGameFault c.args.text.now ps c.game_fault-game.result) (sym same) (rw c.pairs-pairs.ensures at c.game_fault-game.ensures)
