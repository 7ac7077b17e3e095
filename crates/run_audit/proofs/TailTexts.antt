-- What is printed behind the first line of a statement's text: whole lines, none of which begins with a
-- digit.
use Rattle.std.proofs.Common.{◌≡◌, ℕ, Bool, true, false, List, [], ◌∷◌, ◌++◌, Option, Some, None, refl}
use Rattle.std.specs.Prelude.{codes}
use Rattle.std.specs.Fmt.{decimal}
use Rattle.std.specs.List.{flat_map}
use Rattle.kb_geometry.specs.declared.shape.Point.{Point}
use Rattle.kb_geometry.specs.declared.stone.Colour.{Colour}
use Rattle.kb_geometry.specs.declared.stone.Colour.TheVariants as colour
use Rattle.kb_geometry.specs.Symmetry.{number_of_label}
use Rattle.pattern_images.specs.declared.hit.Hit.{Hit}
use Rattle.pattern_images.specs.declared.hit.Next.{Next}
use Rattle.continuation_table.specs.declared.table.Row.{Row}
use Rattle.continuation_table.specs.declared.tally.Tally.{Tally}
use Rattle.continuation_table.specs.Table.{TableView}
use Rattle.hit_collectors.specs.declared.kind.Kind.{Kind}
use Rattle.hit_collectors.specs.declared.kind.Kind.TheVariants as collected
use Rattle.hit_collectors.specs.Reports.{behind_space, report_line, word_of}
use Rattle.hit_collectors.specs.Tallies.{BoxTally}
use Rattle.opening_tree.specs.declared.answer.NextMove.{NextMove}
use Rattle.opening_tree.specs.declared.answer.Opening.{Opening}
use Rattle.query_script.specs.declared.opening_text.NodeCounts.{NodeCounts}
use Rattle.query_script.specs.Texts.{colour_letter, counts_text, double_text, found_game_text, hit_head, hit_text, line_text, next_move_head, next_move_text, next_text, place_text, player_text, position_text, row_head, row_text, spaced, total_text, when_word}
use Rattle.info_filter.specs.Players.{TableRow}
use Rattle.session_core.specs.OpeningLines.{next_line, opening_lines}
use Rattle.run_audit.proofs.LineLists.{AreLines, IsTail, one_line, one_line-append, one_line-concat, one_line-decimal, tail-each, tail-same, tail-then}
use Rattle.run_audit.proofs.PieceLines.{spaced-lines, tail-behind, tail-text}

-- ---- hits and tables

colour-line : (c : Colour) → one_line (colour_letter c) ≡ true
colour-line colour.Black = refl
colour-line colour.White = refl

when-line : (now : Bool) → one_line (when_word now) ≡ true
when-line true = refl
when-line false = refl

-- a hit up to how it goes on
abbrev hit_pieces : Hit → List (List ℕ)
hit_pieces hit = codes "hit " ∷ decimal hit.game ∷ codes " " ∷ decimal hit.node ∷ codes " " ∷ decimal hit.place.x ∷ codes " " ∷ decimal hit.place.y ∷ codes " " ∷ decimal (number_of_label hit.place.label) ∷ codes " " ∷ []

hit-head : (hit : Hit) → one_line (hit_head hit) ≡ true
hit-head hit =
    one_line-concat (hit_pieces hit)
    (refl, (one_line-decimal hit.game, (refl, (one_line-decimal hit.node, (refl, (one_line-decimal hit.place.x, (refl, (one_line-decimal hit.place.y, (refl, (one_line-decimal (number_of_label hit.place.label), (refl, tt)))))))))))

hit-on : (hit : Hit) (next : Option Next) → IsTail (hit_head hit ++ next_text next)
hit-on hit None = tail-behind (hit_head hit) (codes "-" ∷ []) (hit-head hit) (refl, tt) refl
hit-on hit (Some next) =
    tail-behind (hit_head hit) (colour_letter next.colour ∷ codes " " ∷ decimal next.x ∷ codes " " ∷ decimal next.y ∷ codes " " ∷ when_word next.now ∷ []) (hit-head hit)
    (colour-line next.colour, (refl, (one_line-decimal next.x, (refl, (one_line-decimal next.y, (refl, (when-line next.now, tt))))))) refl

hit-tail : (hit : Hit) → IsTail (hit_text hit)
hit-tail hit = hit-on hit hit.next

abbrev tally_pieces : Tally → List (List ℕ)
tally_pieces tally = decimal tally.count ∷ codes " " ∷ decimal tally.now ∷ codes " " ∷ decimal tally.later ∷ codes " " ∷ decimal tally.black ∷ codes " " ∷ decimal tally.white ∷ codes " " ∷ decimal tally.other ∷ []

tally-lines : (tally : Tally) → AreLines (tally_pieces tally)
tally-lines tally =
    (one_line-decimal tally.count, (refl, (one_line-decimal tally.now, (refl, (one_line-decimal tally.later, (refl, (one_line-decimal tally.black, (refl, (one_line-decimal tally.white, (refl, (one_line-decimal tally.other, tt)))))))))))

abbrev row_pieces : Row → List (List ℕ)
row_pieces row = codes "row " ∷ colour_letter row.colour ∷ codes " " ∷ decimal row.x ∷ codes " " ∷ decimal row.y ∷ codes " " ∷ []

row-tail : (row : Row) → IsTail (row_text row)
row-tail row =
    tail-behind (row_head row) (tally_pieces row.tally)
    (one_line-concat (row_pieces row) (refl, (colour-line row.colour, (refl, (one_line-decimal row.x, (refl, (one_line-decimal row.y, (refl, tt)))))))) (tally-lines row.tally) refl

total-tail : (tally : Tally) → IsTail (total_text tally)
total-tail tally = tail-behind (codes "total ") (tally_pieces tally) refl (tally-lines tally) refl

-- hits, and their table
pub found-tail : (hits : List Hit) (table : TableView) → IsTail (flat_map hit_text hits ++ (flat_map row_text table.rows ++ total_text table.totals))
found-tail hits table =
    tail-then (flat_map hit_text hits) (flat_map row_text table.rows ++ total_text table.totals) (tail-each hit_text hits hit-tail)
    (tail-then (flat_map row_text table.rows) (total_text table.totals) (tail-each row_text table.rows row-tail) (total-tail table.totals))

-- ---- openings

counts-line : (counts : NodeCounts) → one_line (counts_text counts) ≡ true
counts-line counts =
    one_line-append (decimal counts.count) (codes " " ++ (decimal counts.black ++ (codes " " ++ (decimal counts.white ++ (codes " " ++ decimal counts.other))))) (one_line-decimal counts.count)
    (one_line-append (decimal counts.black) (codes " " ++ (decimal counts.white ++ (codes " " ++ decimal counts.other))) (one_line-decimal counts.black)
    (one_line-append (decimal counts.white) (codes " " ++ decimal counts.other) (one_line-decimal counts.white) (one_line-decimal counts.other)))

place-line : (point : Option Point) → one_line (place_text point) ≡ true
place-line None = refl
place-line (Some p) = one_line-append (decimal p.x) (codes " " ++ decimal p.y) (one_line-decimal p.x) (one_line-decimal p.y)

position-tail : (counts : NodeCounts) (game node : ℕ) → IsTail (position_text counts game node)
position-tail counts game node =
    tail-text (codes "position " ∷ counts_text counts ∷ codes " " ∷ decimal game ∷ codes " " ∷ decimal node ∷ [])
    (refl, (counts-line counts, (refl, (one_line-decimal game, (refl, (one_line-decimal node, tt)))))) refl

next_move-tail : (c : Colour) (point : Option Point) (counts : NodeCounts) → IsTail (next_move_text c point counts)
next_move-tail c point counts =
    tail-behind (next_move_head c) (place_text point ∷ codes " " ∷ counts_text counts ∷ [])
    (one_line-append (codes "next ") (colour_letter c ++ codes " ") refl (one_line-append (colour_letter c) (codes " ") (colour-line c) refl))
    (place-line point, (refl, (counts-line counts, tt))) refl

next-tail : (next : NextMove) → IsTail (next_line next)
next-tail next = next_move-tail next.colour next.point (record { count = next.count; black = next.black; white = next.white; other = next.other })

pub opening-tail : (o : Opening) → IsTail (opening_lines o)
opening-tail o =
    tail-then (position_text (record { count = o.count; black = o.black; white = o.white; other = o.other }) o.game o.node) (flat_map next_line o.nexts)
    (position-tail (record { count = o.count; black = o.black; white = o.white; other = o.other }) o.game o.node) (tail-each next_line o.nexts next-tail)

-- ---- lists of games and players

pub player-tail : (row : TableRow) → one_line row.name ≡ true → IsTail (player_text row)
player-tail row one =
    tail-text (codes "player " ∷ decimal row.games ∷ codes " " ∷ decimal row.wins ∷ codes " " ∷ decimal row.losses ∷ codes " " ∷ row.name ∷ [])
    (refl, (one_line-decimal row.games, (refl, (one_line-decimal row.wins, (refl, (one_line-decimal row.losses, (refl, (one, tt)))))))) refl

pub found_game-tail : (game : ℕ) (signature : List ℕ) → one_line signature ≡ true → IsTail (found_game_text game signature)
found_game-tail game signature one = tail-text (codes "game " ∷ decimal game ∷ codes " " ∷ signature ∷ []) (refl, (one_line-decimal game, (refl, (one, tt)))) refl

spaced-line : (n : ℕ) → one_line (spaced n) ≡ true
spaced-line n = one_line-append (codes " ") (decimal n) refl (one_line-decimal n)

pub double-tail : (signature : List ℕ) (games : List ℕ) → one_line signature ≡ true → IsTail (double_text signature games)
double-tail signature games one = tail-text (codes "double " ∷ signature ∷ flat_map spaced games ∷ []) (refl, (one, (spaced-lines spaced spaced-line games, tt))) refl

-- ---- boxes

word-line : (k : Kind) → one_line (word_of k) ≡ true
word-line collected.Total = refl
word-line collected.Labels = refl
word-line collected.Phases = refl
word-line collected.Outcomes = refl
word-line collected.Nexts = refl

behind-line : (n : ℕ) → one_line (behind_space n) ≡ true
behind-line n = one_line-append (codes " ") (decimal n) refl (one_line-decimal n)

abbrev box_pieces : BoxTally → List (List ℕ)
box_pieces told = codes "collector " ∷ told.name ∷ codes " " ∷ word_of told.kind ∷ flat_map behind_space told.numbers ∷ []

box-text : (told : BoxTally) → report_line told ≡ line_text (box_pieces told)
box-text told = refl

pub box-tail : (told : BoxTally) → one_line told.name ≡ true → IsTail (report_line told)
box-tail told one =
    tail-same (report_line told) (line_text (box_pieces told)) (box-text told)
    (tail-text (box_pieces told) (refl, (one, (refl, (word-line told.kind, (spaced-lines behind_space behind-line told.numbers, tt))))) refl)
