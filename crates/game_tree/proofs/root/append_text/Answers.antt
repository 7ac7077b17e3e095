use Rattle.std.proofs.Common.{sym, arith}
use Rattle.game_tree.proofs.TextBlocks.{no_text, text-no_longer, text_there}
use Rattle.game_tree.proofs.root.append_text.Goals as goal
use Rattle.game_tree.proofs.root.append_text.Goals.{in-Some+in_ok-append_simple_text, in_default}

pub returns-clause-grown : goal.returns-clause-grown
returns-clause-grown c =
    elim c.match-first_value.branch [
      | in-Some+in_ok-append_simple_text w ↦ rw w.texts-is (text_there _ _ _ _ _ (sym w.in-Some.ensures.value) (rw w.bytes_of.ensures at w.in_ok-append_simple_text.ensures))
      | in_default w ↦ rw w.texts-is (no_text _ _ _ (sym w.in_default.ensures.value))
    ]

pub overflow_cast-result : goal.overflow_cast-result
overflow_cast-result c =
    let most = text-no_longer _ _ _ _ (returns-clause-grown c) in omega (arith, most, c.len.ensures, c.requires.room)

pub returns-clause-most : goal.returns-clause-most
returns-clause-most c =
    let most = text-no_longer _ _ _ _ (returns-clause-grown c) in omega (arith, most, c.len.ensures)
