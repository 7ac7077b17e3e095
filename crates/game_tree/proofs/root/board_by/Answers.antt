use Rattle.std.proofs.Common.{refl}
use Rattle.game_tree.specs.ValueFaults.{size}
use Rattle.game_tree.proofs.Passes.{empty_is, not_empty}
use Rattle.game_tree.proofs.Roots.{bad_size, standard_board}
use Rattle.game_tree.proofs.root.board_by.Goals as goal

pub returns-then-is_empty-clause-ok : goal.returns-then-is_empty-clause-ok
returns-then-is_empty-clause-ok c =
    standard_board c.args.text.now c.args.pair _ _ (rw c.bytes_of.ensures at c.trimmed-value.ensures) (empty_is _ c.if-is_empty.ensures) c.standard.ensures.cols c.standard.ensures.rows

pub returns-in-Some-clause-ok : goal.returns-in-Some-clause-ok
returns-in-Some-clause-ok c = size _ (rw c.bytes_of.ensures at c.trimmed-value.ensures) c.in-Some.ensures.some

pub returns-in-None-clause-fault : goal.returns-in-None-clause-fault
returns-in-None-clause-fault c =
    bad_size c.args.text.now c.args.pair _ _ (rw c.bytes_of.ensures at c.trimmed-value.ensures) (not_empty _ c.if-is_empty.ensures) (c.in-None.ensures.none refl) c.fault_at.ensures
