-- For the writer's private functions: the parts of a node's text.
use Rattle.std.specs.Prelude.{ℕ, List, [], ◌++◌, Bool, Option, codes, if◌then◌else◌}
use Rattle.std.specs.Option.{option_map_or}
use Rattle.kb_geometry.specs.declared.shape.Shape.{Shape}
use Rattle.kb_geometry.specs.declared.stone.Cell.{Cell}
use Rattle.game_tree.specs.declared.node.Setup.{Setup}
use Rattle.game_tree.specs.Information.{Information}
use Rattle.sgf_writer.specs.Written.{is_same, rect_text, setter_name, size_text, text_property, value_text}

-- the game's kind, the file format and the size
abbrev pub head_text : Shape → List ℕ
head_text shape = codes "GM[1]FF[4]SZ[" ++ size_text shape ++ codes "]"

-- the texts of the information
abbrev pub information_text : Information → List ℕ
information_text info =
    text_property (codes "PB") info.black ++ text_property (codes "PW") info.white
    ++ text_property (codes "EV") info.event ++ text_property (codes "PC") info.place
    ++ text_property (codes "DT") info.date ++ text_property (codes "RE") info.outcome_text

-- the identifier of a setup, unless the one before has it too
abbrev pub setter_text : Option Cell → Cell → List ℕ
setter_text before cell = if option_map_or (is_same cell) before Bool.false then [] else setter_name
    cell

-- one setup, behind one that sets to this cell, if there is one
abbrev pub setup_text : Option Cell → Setup → List ℕ
setup_text before s = setter_text before s.cell ++ value_text (rect_text s.rect)
