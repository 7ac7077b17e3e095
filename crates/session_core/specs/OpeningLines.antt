-- The printed lines of openings.
use Rattle.std.specs.Prelude.{ℕ, List, ◌++◌}
use Rattle.std.specs.List.{flat_map}
use Rattle.opening_tree.specs.declared.answer.NextMove.{NextMove}
use Rattle.opening_tree.specs.declared.answer.Opening.{Opening}
use Rattle.query_script.specs.declared.opening_text.NodeCounts.{NodeCounts}
use Rattle.query_script.specs.Texts.{next_move_text, position_text}

-- how many entries an opening has, and in games of which result
abbrev pub entries_counted : Opening → NodeCounts
entries_counted o =
    record { count = o.count; black = o.black; white = o.white; other = o.other }

-- at how many nodes a next move was played, and in games of which result
abbrev pub nodes_counted : NextMove → NodeCounts
nodes_counted next =
    record { count = next.count; black = next.black; white = next.white; other = next.other }

-- the line of a next move
abbrev pub next_line : NextMove → List ℕ
next_line next = next_move_text next.colour next.point (nodes_counted next)

-- the lines of an opening: its own, with its first entry, and one for each of its next moves
abbrev pub opening_lines : Opening → List ℕ
opening_lines o =
    position_text (entries_counted o) o.game o.node ++ flat_map next_line o.nexts
