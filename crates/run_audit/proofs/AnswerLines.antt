-- The texts of the statements that a session answers: whole lines, of which the first alone begins with a
-- digit, and none is that of a report of an import.
use Rattle.std.proofs.Common.{◌≡◌, ◌∙◌, ℕ, zero, suc, ◌^◌, ◌<◌, ◌≤◌, true, false, List, [], ◌∷◌, ◌++◌, Option, Some, None, if◌then◌else◌, length, map, get_or, slice_get, refl, sym, ap, subst, arith}
use Rattle.std.specs.Prelude.{◌≢◌, All, codes}
use Rattle.std.specs.Fmt.{decimal}
use Rattle.std.specs.List.{concat, flat_map, range_with_len}
use Rattle.std.specs.Option.{option_map_or}
use Rattle.std.proofs.lemmas.Bool.{cond_both}
use Rattle.std.proofs.lemmas.List.Elements.{All-append, All-cons, All-head, All-nil, All-push, All-tail, All-weaker}
use Rattle.std.proofs.lemmas.Option.{slice_get-get_or, slice_get_within}
use Rattle.std.proofs.lemmas.Slice.Eq.{bytes_eq-Decides}
use Rattle.kb_geometry.proofs.Lists.{All-flat_map}
use Rattle.game_tree.specs.Information.{HasNoControls, Information}
use Rattle.game_tree.specs.Tree.{IsTree}
use Rattle.info_filter.specs.Players.{IsToldOfPlayer, Side, TableRow, is_side_of, sides_of}
use Rattle.info_filter.proofs.TableRows.{count_something}
use Rattle.node_position.specs.Games.{Game}
use Rattle.info_filter.specs.declared.filter.Filter.{Filter}
use Rattle.kb_geometry.specs.declared.shape.Shape.{Shape}
use Rattle.pattern_images.specs.declared.hit.Hit.{Hit}
use Rattle.pattern_images.specs.declared.query.Query.{Query}
use Rattle.run_audit.specs.Chosen.{BeginsWithoutDigit}
use Rattle.continuation_table.specs.Table.{TableView}
use Rattle.hit_collectors.specs.Tallies.{BoxTally}
use Rattle.hit_collectors.specs.Reports.{report_line}
use Rattle.query_script.specs.Texts.{double_text, found_game_text, head_text, kept_text, no_retire_text, hit_text, import_text, line_text, make_text, no_watch_text, player_text, retire_text, row_text, search_text, taken_text, total_text, until_text, wait_text, watch_text, watched_text}
use Rattle.session_core.specs.Answers.{IsDoublesText, IsGameText, IsKeptText, IsOpeningText, IsPlayersText, IsSearchText, IsSignatureText, View, boxes_text}
use Rattle.session_core.specs.Doubles.{AreKeysOf, DoubleKey, Group, IsKeyOf, begins_group_of, group_from, group_with, groups_of}
use Rattle.session_core.specs.OpeningLines.{opening_lines}
use Rattle.session_core.specs.Signed.{AreGamesFound, FoundGame}
use Rattle.run_audit.proofs.FormLines.{form-line}
use Rattle.run_audit.proofs.LineLists.{IsTail, begins, one_line, one_line-decimal, one_line-from, tail-all, tail-each, tail-line}
use Rattle.run_audit.proofs.PieceLines.{plain-line, plain-text}
use Rattle.run_audit.proofs.OtherLines.{HasNoReport, imported, no_report-same}
use Rattle.run_audit.proofs.TailTexts.{box-tail, double-tail, found-tail, found_game-tail, opening-tail, player-tail}
use Rattle.run_audit.proofs.WrittenLines.{written-behind, written-one}

-- ---- games and boxes without a line feed in their names

-- the game is a tree, and its file's name has no line feed
pub record IsCleanGame (game : Game) : Type 0 where
  pub tree : IsTree game.tree
  pub file : one_line game.file ≡ true

-- the box's name has no line feed
abbrev pub IsCleanBox : BoxTally → Type 0
IsCleanBox told = one_line told.name ≡ true

-- ---- what is listed

controls-line : (text : List ℕ) → HasNoControls text → one_line text ≡ true
controls-line text none = one_line-from text (All-weaker (λ b. 32 ≤ b) (λ b. b ≢ 10) (λ b high e. omega (arith, high, e)) text none)

-- players
abbrev IsCleanSide : Side → Type 0
IsCleanSide side = one_line side.name ≡ true

sides-clean : (games : List Game) → All IsCleanGame games → All IsCleanSide (sides_of (map (λ (g : Game). g.tree.info) games))
sides-clean [] clean = All-nil IsCleanSide
sides-clean (g ∷ games) clean =
    let info = g.tree.info in
    let texts = (All-head IsCleanGame g games clean).tree.texts in
    let rest = sides-clean games (All-tail IsCleanGame g games clean) in
    All-append IsCleanSide (sides_of (info ∷ [])) (sides_of (map (λ (g : Game). g.tree.info) games)) (two-sides info (controls-line info.black texts.black) (controls-line info.white texts.white)) rest
  where
    two-sides : (info : Information) → one_line info.black ≡ true → one_line info.white ≡ true → All IsCleanSide (sides_of (info ∷ []))
    two-sides info black white zero d below = black
    two-sides info black white (suc zero) d below = white
    two-sides info black white (suc (suc k)) d below = absurd (omega (arith, below))

row-clean : (sides : List Side) (row : TableRow) → All IsCleanSide sides → IsToldOfPlayer sides row → IsTail (player_text row)
row-clean sides row clean told =
    let found = count_something (is_side_of row.name) sides (omega (arith, told.some, told.games)) in
    let one : IsCleanSide found.1 = subst IsCleanSide found.3 (clean found.0 found.1 found.2) in
    player-tail row (ap one_line (sym ((bytes_eq-Decides (found.1).name row.name).0 found.4)) ∙ one)

-- games by their signatures
found-clean : (pattern : List ℕ) (games : List Game) (found : List FoundGame) → AreGamesFound pattern games found → All (λ (s : FoundGame). IsTail (found_game_text s.game s.form)) found
found-clean pattern _ _ AreGamesFound.nothing = All-nil (λ (s : FoundGame). IsTail (found_game_text s.game s.form))
found-clean pattern _ _ (AreGamesFound.found {games} {found} game signature form so_far has matches) =
    All-push (λ (s : FoundGame). IsTail (found_game_text s.game s.form)) found (record { game = length games; form = form }) (found-clean pattern games found so_far)
    (found_game-tail (length games) form (form-line game.tree signature form has))
found-clean pattern _ _ (AreGamesFound.left_out {games} {found} game signature form so_far has differs) = found-clean pattern games found so_far

-- groups of double games
abbrev IsCleanGroup : Group → Type 0
IsCleanGroup g = IsTail (double_text g.form g.games)

key-clean : (games : List Game) (keys : List DoubleKey) (k : ℕ) (key : DoubleKey) → AreKeysOf games keys → slice_get keys k ≡ Some key → one_line key.form ≡ true
key-clean games keys k key are is = by games (omega (arith, slice_get_within keys k key is, are.as_many)) (λ game at. are.each k game key at is)
  where
    by : (games : List Game) → k < length games → ((game : Game) → slice_get games k ≡ Some game → IsKeyOf game key) → one_line key.form ≡ true
    by [] below each = absurd (omega (arith, below))
    by (g ∷ games) below each =
        let game = get_or (g ∷ games) k g in
        let has = each game (slice_get-get_or (g ∷ games) k g below) in form-line game.tree has.signature key.form has.signed

groups-clean : (games : List Game) (keys : List DoubleKey) → AreKeysOf games keys → All IsCleanGroup (groups_of keys)
groups-clean games keys are =
    All-flat_map IsCleanGroup (group_from keys) (range_with_len 0 (length keys)) (λ n d below. by (get_or (range_with_len 0 (length keys)) n d) (slice_get keys (get_or (range_with_len 0 (length keys)) n d)) refl)
  where
    by : (k : ℕ) (found : Option DoubleKey) → slice_get keys k ≡ found → All IsCleanGroup (option_map_or (λ key. if begins_group_of keys k key then group_with keys key ∷ [] else []) found [])
    by k None is = All-nil IsCleanGroup
    by k (Some key) is =
        cond_both (begins_group_of keys k key) (group_with keys key ∷ []) [] (All IsCleanGroup)
        (λ e. All-cons IsCleanGroup (group_with keys key) [] (double-tail key.form (group_with keys key).games (key-clean games keys k key are is)) (All-nil IsCleanGroup))
        (λ e. All-nil IsCleanGroup)

-- ---- texts

-- the pieces behind the line's number where something is counted
abbrev head_pieces : List ℕ → ℕ → ℕ → List ℕ → ℕ → List (List ℕ)
head_pieces asked version games counted count =
    codes " " ∷ asked ∷ codes " version " ∷ decimal version ∷ codes " games " ∷ decimal games ∷ codes " " ∷ counted ∷ codes " " ∷ decimal count ∷ []

module _ (line : ℕ) (few : line < 2 ^ 64) (at : ℕ) (at_few : at < 2 ^ 64) where
  abbrev NoReport : List ℕ → Type 0
  NoReport text = HasNoReport line few text

  -- a text that counts something
  counted-no_report : (asked : List ℕ) (version games : ℕ) (counted : List ℕ) (count : ℕ) (tail : List ℕ) → one_line asked ≡ true → one_line counted ≡ true → begins imported (concat (head_pieces asked version games counted count)) ≡ false → IsTail tail →
      NoReport (head_text at asked version games counted count ++ tail)
  counted-no_report asked version games counted count tail one other apart is =
      plain-text line few at (head_pieces asked version games counted count) tail at_few
      (refl, (one, (refl, (one_line-decimal version, (refl, (one_line-decimal games, (refl, (other, (refl, (one_line-decimal count, tt)))))))))) refl apart is

  search-no_report : (version games : ℕ) (hits : List Hit) (table : TableView) → NoReport (search_text at version games hits table)
  search-no_report version games hits table =
      counted-no_report (codes "search") version games (codes "hits") (length hits) (flat_map hit_text hits ++ (flat_map row_text table.rows ++ total_text table.totals)) refl refl refl (found-tail hits table)

  pub searched-no_report : (view : View) (query : Query) (filter : Filter) (hits : List Hit) (text : List ℕ) → IsSearchText at view query filter hits text → NoReport text
  searched-no_report view query filter hits text is =
      no_report-same line few text (search_text at view.version (length view.games) hits is.table) is.text_is (search-no_report view.version (length view.games) hits is.table)

  pub kept-no_report : (view : View) (query : Query) (text : List ℕ) → IsKeptText at view query text → NoReport text
  kept-no_report view query text is =
      no_report-same line few text (kept_text at view.version (length view.games) is.kept) is.text_is
      (plain-line line few at (head_pieces (codes "kept") view.version (length view.games) (codes "kept") is.kept) at_few
      (refl, (refl, (refl, (one_line-decimal view.version, (refl, (one_line-decimal (length view.games), (refl, (refl, (refl, (one_line-decimal is.kept, tt)))))))))) refl refl)

  pub signature-no_report : (view : View) (pattern text : List ℕ) → IsSignatureText at view pattern text → NoReport text
  signature-no_report view pattern text is =
      let tail = flat_map (λ (s : FoundGame). found_game_text s.game s.form) is.found in
      no_report-same line few text (head_text at (codes "signature") view.version (length view.games) (codes "found") (length is.found) ++ tail) is.text_is
      (counted-no_report (codes "signature") view.version (length view.games) (codes "found") (length is.found) tail refl refl refl
      (tail-all (λ (s : FoundGame). found_game_text s.game s.form) is.found (found-clean pattern view.games is.found is.are_found)))

  pub players-no_report : (view : View) (text : List ℕ) → All IsCleanGame view.games → IsPlayersText at view text → NoReport text
  players-no_report view text clean is =
      let sides = sides_of (map (λ (g : Game). g.tree.info) view.games) in
      no_report-same line few text (head_text at (codes "players") view.version (length view.games) (codes "names") (length is.rows) ++ flat_map player_text is.rows) is.text_is
      (counted-no_report (codes "players") view.version (length view.games) (codes "names") (length is.rows) (flat_map player_text is.rows) refl refl refl
      (tail-all player_text is.rows (All-weaker (IsToldOfPlayer sides) (λ (row : TableRow). IsTail (player_text row)) (λ row told. row-clean sides row (sides-clean view.games clean) told) is.rows is.is_table.told)))

  pub doubles-no_report : (view : View) (text : List ℕ) → IsDoublesText at view text → NoReport text
  doubles-no_report view text is =
      let groups = groups_of is.keys in
      let tail = flat_map (λ (g : Group). double_text g.form g.games) groups in
      no_report-same line few text (head_text at (codes "doubles") view.version (length view.games) (codes "groups") (length groups) ++ tail) is.text_is
      (counted-no_report (codes "doubles") view.version (length view.games) (codes "groups") (length groups) tail refl refl refl
      (tail-all (λ (g : Group). double_text g.form g.games) groups (groups-clean view.games is.keys is.are_keys)))

  pub opening-no_report : (view : View) (shape : Shape) (depth least : ℕ) (text : List ℕ) → IsOpeningText at view shape depth least text → NoReport text
  opening-no_report view shape depth least text is =
      no_report-same line few text (head_text at (codes "opening") view.version (length view.games) (codes "positions") (length is.openings) ++ flat_map opening_lines is.openings) is.text_is
      (counted-no_report (codes "opening") view.version (length view.games) (codes "positions") (length is.openings) (flat_map opening_lines is.openings) refl refl refl
      (tail-each opening_lines is.openings opening-tail))

  pub game-no_report : (view : View) (number : ℕ) (text : List ℕ) → All IsCleanGame view.games → IsGameText at view number text → NoReport text
  game-no_report view number _ clean (IsGameText.there game written there is) =
      let one : IsCleanGame game = subst IsCleanGame (there.at game) (clean number game there.in_range) in
      plain-text line few at (codes " game " ∷ decimal number ∷ codes " version " ∷ decimal view.version ∷ codes " place " ∷ decimal game.place ∷ codes " file " ∷ game.file ∷ []) (written ++ 10 ∷ []) at_few
      (refl, (one_line-decimal number, (refl, (one_line-decimal view.version, (refl, (one_line-decimal game.place, (refl, (one.file, tt)))))))) refl refl
      (tail-line written (record { one = written-one game.tree written one.tree is; low = written-behind game.tree written one.tree is }))
  game-no_report view number _ clean (IsGameText.none past) =
      plain-line line few at (codes " game " ∷ decimal number ∷ codes " version " ∷ decimal view.version ∷ codes " none" ∷ []) at_few
      (refl, (one_line-decimal number, (refl, (one_line-decimal view.version, (refl, tt))))) refl refl

  pub boxes-no_report : (boxes : List BoxTally) → All IsCleanBox boxes → NoReport (boxes_text at boxes)
  boxes-no_report boxes clean =
      plain-text line few at (codes " report collectors " ∷ decimal (length boxes) ∷ []) (flat_map report_line boxes) at_few (refl, (one_line-decimal (length boxes), tt)) refl refl
      (tail-all report_line boxes (All-weaker IsCleanBox (λ (told : BoxTally). IsTail (report_line told)) box-tail boxes clean))

  -- ---- lines that name a box or a watched search

  -- a name between two texts
  named-no_report : (before name after : List ℕ) → one_line before ≡ true → one_line name ≡ true → one_line after ≡ true → BeginsWithoutDigit (concat (before ∷ name ∷ after ∷ [])) → begins imported (concat (before ∷ name ∷ after ∷ [])) ≡ false →
      NoReport (line_text (decimal at ∷ before ∷ name ∷ after ∷ []))
  named-no_report before name after first one last ended apart = plain-line line few at (before ∷ name ∷ after ∷ []) at_few (first, (one, (last, tt))) ended apart

  pub retire-no_report : (name : List ℕ) → one_line name ≡ true → NoReport (retire_text at name)
  retire-no_report name one = plain-line line few at (codes " retire " ∷ name ∷ []) at_few (refl, (one, tt)) refl refl

  pub no_retire-no_report : (name : List ℕ) → one_line name ≡ true → NoReport (no_retire_text at name)
  no_retire-no_report name one = named-no_report (codes " retire ") name (codes " none") refl one refl refl refl

  pub watch-no_report : (name : List ℕ) (version hits : ℕ) → one_line name ≡ true → NoReport (watch_text at name version hits)
  watch-no_report name version hits one =
      plain-line line few at (codes " watch " ∷ name ∷ codes " version " ∷ decimal version ∷ codes " hits " ∷ decimal hits ∷ []) at_few
      (refl, (one, (refl, (one_line-decimal version, (refl, (one_line-decimal hits, tt)))))) refl refl

  pub taken-no_report : (name : List ℕ) → one_line name ≡ true → NoReport (taken_text at name)
  taken-no_report name one = named-no_report (codes " watch ") name (codes " taken") refl one refl refl refl

  pub watched-no_report : (name : List ℕ) (version games : ℕ) (hits : List Hit) (table : TableView) → one_line name ≡ true → NoReport (watched_text at name version games hits table)
  watched-no_report name version games hits table one =
      plain-text line few at (codes " watched " ∷ name ∷ codes " version " ∷ decimal version ∷ codes " games " ∷ decimal games ∷ codes " hits " ∷ decimal (length hits) ∷ [])
      (flat_map hit_text hits ++ (flat_map row_text table.rows ++ total_text table.totals)) at_few
      (refl, (one, (refl, (one_line-decimal version, (refl, (one_line-decimal games, (refl, (one_line-decimal (length hits), tt)))))))) refl refl (found-tail hits table)

  pub no_watch-no_report : (name : List ℕ) → one_line name ≡ true → NoReport (no_watch_text at name)
  no_watch-no_report name one = named-no_report (codes " watched ") name (codes " none") refl one refl refl refl

  -- ---- lines of other statements

  pub until-no_report : (number version : ℕ) → NoReport (until_text at number version)
  until-no_report number version =
      plain-line line few at (codes " until " ∷ decimal number ∷ codes " version " ∷ decimal version ∷ []) at_few
      (refl, (one_line-decimal number, (refl, (one_line-decimal version, tt)))) refl refl

  pub wait-no_report : (version : ℕ) → NoReport (wait_text at version)
  wait-no_report version = plain-line line few at (codes " wait version " ∷ decimal version ∷ []) at_few (refl, (one_line-decimal version, tt)) refl refl

  pub import-no_report : (path : List ℕ) → one_line path ≡ true → NoReport (import_text at path)
  import-no_report path one = plain-line line few at (codes " import " ∷ path ∷ []) at_few (refl, (one, tt)) refl refl

  pub make-no_report : (games start : ℕ) → NoReport (make_text at games start)
  make-no_report games start =
      plain-line line few at (codes " make " ∷ decimal games ∷ codes " " ∷ decimal start ∷ []) at_few
      (refl, (one_line-decimal games, (refl, (one_line-decimal start, tt)))) refl refl
