-- The printed texts of statements. Numbers are decimal, and each line ends with a line feed.
use Rattle.std.specs.Prelude.{ℕ, Bool, true, false, List, [], ◌∷◌, ◌++◌, length, codes, Option, Some, None}
use Rattle.std.specs.Fmt.{decimal}
use Rattle.std.specs.List.{flat_map}
use Rattle.kb_geometry.specs.declared.shape.Point.{Point}
use Rattle.kb_geometry.specs.declared.stone.Colour.{Colour}
use Rattle.kb_geometry.specs.declared.stone.Colour.TheVariants as colour
use Rattle.kb_geometry.specs.Symmetry.{number_of_label}
use Rattle.pattern_images.specs.declared.hit.Hit.{Hit}
use Rattle.pattern_images.specs.declared.hit.Next.{Next}
use Rattle.continuation_table.specs.declared.table.Row.{Row}
use Rattle.info_filter.specs.Players.{TableRow}
use Rattle.continuation_table.specs.declared.tally.Tally.{Tally}
use Rattle.continuation_table.specs.Table.{TableView}
use Rattle.query_script.specs.declared.opening_text.NodeCounts.{NodeCounts}
use Rattle.query_script.specs.Bytes.{line_feed}

-- a line: these pieces and a line feed
abbrev pub line_text : List (List ℕ) → List ℕ
line_text [] = line_feed ∷ []
line_text (piece ∷ pieces) = piece ++ line_text pieces

-- `LINE import PATH`
abbrev pub import_text : ℕ → List ℕ → List ℕ
import_text line path = line_text (decimal line ∷ codes " import " ∷ path ∷ [])

-- `LINE make N START`
abbrev pub make_text : ℕ → ℕ → ℕ → List ℕ
make_text line games start = line_text (decimal line ∷ codes " make " ∷ decimal games ∷ codes " "
    ∷ decimal start ∷ [])

-- `LINE wait version V`
abbrev pub wait_text : ℕ → ℕ → List ℕ
wait_text line version = line_text (decimal line ∷ codes " wait version " ∷ decimal version ∷ [])

-- `LINE until K version V`
abbrev pub until_text : ℕ → ℕ → ℕ → List ℕ
until_text line number version = line_text (decimal line ∷ codes " until " ∷ decimal number
    ∷ codes " version " ∷ decimal version ∷ [])

-- `B` or `W`
abbrev pub colour_letter : Colour → List ℕ
colour_letter colour.Black = codes "B"
colour_letter colour.White = codes "W"

-- `now` or `later`
abbrev pub when_word : Bool → List ℕ
when_word true = codes "now"
when_word false = codes "later"

-- how a hit goes on: `-`, or the colour, column and row, and when
abbrev pub next_text : Option Next → List ℕ
next_text None = line_text (codes "-" ∷ [])
next_text (Some next) = line_text (colour_letter next.colour ∷ codes " " ∷ decimal next.x
    ∷ codes " " ∷ decimal next.y ∷ codes " " ∷ when_word next.now ∷ [])

-- `hit GAME NODE X Y LABEL `
abbrev pub hit_head : Hit → List ℕ
hit_head hit = codes "hit "
    ++ (decimal hit.game ++ (codes " "
    ++ (decimal hit.node ++ (codes " "
    ++ (decimal hit.place.x ++ (codes " "
    ++ (decimal hit.place.y ++ (codes " "
    ++ (decimal (number_of_label hit.place.label) ++ codes " ")))))))))

-- `hit GAME NODE X Y LABEL NEXT`
abbrev pub hit_text : Hit → List ℕ
hit_text hit = hit_head hit ++ next_text hit.next

-- `COUNT NOW LATER BLACK WHITE OTHER`
abbrev pub tally_text : Tally → List ℕ
tally_text tally = line_text (decimal tally.count ∷ codes " " ∷ decimal tally.now ∷ codes " "
    ∷ decimal tally.later ∷ codes " " ∷ decimal tally.black ∷ codes " " ∷ decimal tally.white
    ∷ codes " " ∷ decimal tally.other ∷ [])

-- `row COLOUR X Y `
abbrev pub row_head : Row → List ℕ
row_head row = codes "row "
    ++ (colour_letter row.colour
    ++ (codes " " ++ (decimal row.x ++ (codes " " ++ (decimal row.y ++ codes " ")))))

-- `row COLOUR X Y COUNT NOW LATER BLACK WHITE OTHER`
abbrev pub row_text : Row → List ℕ
row_text row = row_head row ++ tally_text row.tally

-- `total COUNT NOW LATER BLACK WHITE OTHER`
abbrev pub total_text : Tally → List ℕ
total_text tally = codes "total " ++ tally_text tally

-- `LINE ASKED version V games G COUNTED N`: the first line of a text that counts something among
-- the games of a version
abbrev pub head_text : ℕ → List ℕ → ℕ → ℕ → List ℕ → ℕ → List ℕ
head_text line asked version games counted count = line_text (decimal line ∷ codes " " ∷ asked
    ∷ codes " version " ∷ decimal version ∷ codes " games " ∷ decimal games ∷ codes " " ∷ counted
    ∷ codes " " ∷ decimal count ∷ [])

-- `LINE search version V games G hits H`
abbrev pub search_head : ℕ → ℕ → ℕ → ℕ → List ℕ
search_head line version games hits =
    head_text line (codes "search") version games (codes "hits") hits

-- the head of a search, its hits, the rows and the totals of their table
abbrev pub search_text : ℕ → ℕ → ℕ → List Hit → TableView → List ℕ
search_text line version games hits table =
    search_head line version games (length hits)
    ++ (flat_map hit_text hits ++ (flat_map row_text table.rows ++ total_text table.totals))

-- `LINE game N version V place P file NAME`
abbrev pub game_head : ℕ → ℕ → ℕ → ℕ → List ℕ → List ℕ
game_head line game version place file = line_text (decimal line ∷ codes " game " ∷ decimal game
    ∷ codes " version " ∷ decimal version ∷ codes " place " ∷ decimal place ∷ codes " file " ∷ file
    ∷ [])

-- `LINE game N version V none`
abbrev pub no_game_text : ℕ → ℕ → ℕ → List ℕ
no_game_text line game version = line_text (decimal line ∷ codes " game " ∷ decimal game
    ∷ codes " version " ∷ decimal version ∷ codes " none" ∷ [])

-- `LINE report collectors N`: the first line of a report of collectors
abbrev pub report_head : ℕ → ℕ → List ℕ
report_head line count =
    line_text (decimal line ∷ codes " report collectors " ∷ decimal count ∷ [])

-- `LINE retire NAME`
abbrev pub retire_text : ℕ → List ℕ → List ℕ
retire_text line name = line_text (decimal line ∷ codes " retire " ∷ name ∷ [])

-- `LINE retire NAME none`
abbrev pub no_retire_text : ℕ → List ℕ → List ℕ
no_retire_text line name =
    line_text (decimal line ∷ codes " retire " ∷ name ∷ codes " none" ∷ [])

-- `LINE watch NAME version V hits H`
abbrev pub watch_text : ℕ → List ℕ → ℕ → ℕ → List ℕ
watch_text line name version hits = line_text (decimal line ∷ codes " watch " ∷ name
    ∷ codes " version " ∷ decimal version ∷ codes " hits " ∷ decimal hits ∷ [])

-- `LINE watch NAME taken`
abbrev pub taken_text : ℕ → List ℕ → List ℕ
taken_text line name = line_text (decimal line ∷ codes " watch " ∷ name ∷ codes " taken" ∷ [])

-- `LINE watched NAME version V games G hits H`
abbrev pub watched_head : ℕ → List ℕ → ℕ → ℕ → ℕ → List ℕ
watched_head line name version games hits = line_text (decimal line ∷ codes " watched " ∷ name
    ∷ codes " version " ∷ decimal version ∷ codes " games " ∷ decimal games ∷ codes " hits "
    ∷ decimal hits ∷ [])

-- the head of a watched search, its hits, the rows and the totals of their table
abbrev pub watched_text : ℕ → List ℕ → ℕ → ℕ → List Hit → TableView → List ℕ
watched_text line name version games hits table =
    watched_head line name version games (length hits)
    ++ (flat_map hit_text hits ++ (flat_map row_text table.rows ++ total_text table.totals))

-- `LINE watched NAME none`
abbrev pub no_watch_text : ℕ → List ℕ → List ℕ
no_watch_text line name =
    line_text (decimal line ∷ codes " watched " ∷ name ∷ codes " none" ∷ [])

-- `LINE kept version V games G kept K`
abbrev pub kept_text : ℕ → ℕ → ℕ → ℕ → List ℕ
kept_text line version games kept =
    head_text line (codes "kept") version games (codes "kept") kept

-- `LINE signature version V games G found F`
abbrev pub signature_head : ℕ → ℕ → ℕ → ℕ → List ℕ
signature_head line version games found =
    head_text line (codes "signature") version games (codes "found") found

-- `game GAME SIGNATURE`
abbrev pub found_game_text : ℕ → List ℕ → List ℕ
found_game_text game signature = line_text (codes "game " ∷ decimal game ∷ codes " " ∷ signature
    ∷ [])

-- `LINE players version V games G names N`
abbrev pub players_head : ℕ → ℕ → ℕ → ℕ → List ℕ
players_head line version games names =
    head_text line (codes "players") version games (codes "names") names

-- `player GAMES WINS LOSSES NAME`
abbrev pub player_text : TableRow → List ℕ
player_text row = line_text (codes "player " ∷ decimal row.games ∷ codes " " ∷ decimal row.wins
    ∷ codes " " ∷ decimal row.losses ∷ codes " " ∷ row.name ∷ [])

-- the head of the players, and a line for each row of their table
abbrev pub players_text : ℕ → ℕ → ℕ → List TableRow → List ℕ
players_text line version games rows =
    players_head line version games (length rows) ++ flat_map player_text rows

-- `LINE doubles version V games G groups N`
abbrev pub doubles_head : ℕ → ℕ → ℕ → ℕ → List ℕ
doubles_head line version games groups =
    head_text line (codes "doubles") version games (codes "groups") groups

-- a number behind a space
abbrev pub spaced : ℕ → List ℕ
spaced number = codes " " ++ decimal number

-- `double SIGNATURE` and the games, each behind a space
abbrev pub double_text : List ℕ → List ℕ → List ℕ
double_text signature games = line_text (codes "double " ∷ signature ∷ flat_map spaced games ∷ [])

-- `LINE opening version V games G positions P`
abbrev pub opening_head : ℕ → ℕ → ℕ → ℕ → List ℕ
opening_head line version games positions =
    head_text line (codes "opening") version games (codes "positions") positions

-- `COUNT BLACK WHITE OTHER`: how many nodes, and in games of which result
abbrev pub counts_text : NodeCounts → List ℕ
counts_text counts = decimal counts.count
    ++ (codes " "
    ++ (decimal counts.black
    ++ (codes " " ++ (decimal counts.white ++ (codes " " ++ decimal counts.other)))))

-- `position COUNT BLACK WHITE OTHER GAME NODE`
abbrev pub position_text : NodeCounts → ℕ → ℕ → List ℕ
position_text counts game node = line_text (codes "position " ∷ counts_text counts ∷ codes " "
    ∷ decimal game ∷ codes " " ∷ decimal node ∷ [])

-- where a next move is: `X Y`, or `pass`
abbrev pub place_text : Option Point → List ℕ
place_text None = codes "pass"
place_text (Some p) = decimal p.x ++ (codes " " ++ decimal p.y)

-- `next COLOUR `
abbrev pub next_move_head : Colour → List ℕ
next_move_head colour = codes "next " ++ (colour_letter colour ++ codes " ")

-- `next COLOUR X Y COUNT BLACK WHITE OTHER`, or `next COLOUR pass COUNT BLACK WHITE OTHER`
abbrev pub next_move_text : Colour → Option Point → NodeCounts → List ℕ
next_move_text colour point counts =
    next_move_head colour ++ line_text (place_text point ∷ codes " " ∷ counts_text counts ∷ [])
