-- The texts of the statements that a session answers, and what they leave behind.
use Rattle.std.specs.Prelude.{◌≡◌, ◌≢◌, ◌⊎◌, ℕ, ◌<◌, ◌≤◌, List, [], ◌∷◌, ◌++◌, length, map, slice_index_or, All, Option, Some, None}
use Rattle.std.specs.List.{flat_map}
use Rattle.kb_geometry.specs.declared.shape.Shape.{Shape}
use Rattle.pattern_images.specs.declared.hit.Hit.{Hit}
use Rattle.pattern_images.specs.declared.query.Query.{Query}
use Rattle.continuation_table.specs.Table.{IsTable, TableView}
use Rattle.sgf_writer.specs.Written.{IsWritten}
use Rattle.query_script.specs.declared.statement.Statement.{Statement}
use Rattle.query_script.specs.declared.statement.Statement.TheVariants as statement
use Rattle.query_script.specs.Bytes.{line_feed}
use Rattle.query_script.specs.Texts.{double_text, doubles_head, game_head, kept_text, no_game_text, no_retire_text, players_text, report_head, no_watch_text, opening_head, retire_text, search_text, signature_head, found_game_text, taken_text, watch_text, watched_text}
use Rattle.hit_collectors.specs.Boxes.{IsFedInPart, IsRetired}
use Rattle.hit_collectors.specs.Reports.{report_line}
use Rattle.hit_collectors.specs.Tallies.{BoxTally}
use Rattle.info_filter.specs.declared.filter.Filter.{Filter}
use Rattle.info_filter.specs.Players.{IsPlayersTable, TableRow}
use Rattle.node_position.specs.Games.{Game}
use Rattle.opening_tree.specs.declared.answer.Opening.{Opening}
use Rattle.opening_tree.specs.Openings.{IsOpenings}
use Rattle.session_core.specs.Doubles.{AreKeysOf, DoubleKey, Group, groups_of}
use Rattle.session_core.specs.OpeningLines.{opening_lines}
use Rattle.session_core.specs.SessionState.{SessionState, Watched, fed_with, with_boxes, with_watches}
use Rattle.session_core.specs.Watches.{ChangesWatches, IsFree, IsWatch, IsWatchAdded, IsWatchAdvanced, fed_by, new_hits}
use Rattle.session_core.specs.declared.watches.NewHits.{NewHits}
use Rattle.search_engine.specs.Hits.{AreHits}
use Rattle.search_engine.specs.KeptGames.{AreKept}
use Rattle.session_core.specs.Signed.{AreGamesFound, FoundGame}

-- What a statement is answered from: the number of a version, and its games.
pub record View : Type 0 where
  pub version : ℕ
  pub games : List Game

-- the text of a search at this line that has these hits: the hits and their table
pub record IsSearchText (line : ℕ) (view : View) (query : Query) (filter : Filter)
    (hits : List Hit) (text : List ℕ) : Type 0 where
  pub table : TableView
  pub are_hits : AreHits query filter view.games hits
  pub is_table : IsTable hits table
  pub text_is : text ≡ search_text line view.version (length view.games) hits table

-- A search at this line: its text, and its hits are given to all boxes.
pub record IsSearched (line : ℕ) (view : View) (query : Query) (filter : Filter)
    (session : SessionState) (text : List ℕ) (after : SessionState) : Type 0 where
  pub hits : List Hit
  pub is_text : IsSearchText line view query filter hits text
  pub fed : after ≡ fed_with hits session

-- the game with this number is there
pub record IsThere (games : List Game) (number : ℕ) (game : Game) : Type 0 where
  pub in_range : number < length games
  pub at : (d : Game) → slice_index_or games number d ≡ game

-- the text of a game: its head and the written tree as one line, or that the version has no such
-- game
pub data IsGameText (line : ℕ) (view : View) (number : ℕ) : List ℕ → Type 0 where
  there : (game : Game) (written : List ℕ) →
      IsThere view.games number game →
      IsWritten game.tree written →
      IsGameText line view number
      (game_head line number view.version game.place game.file ++ (written ++ line_feed ∷ []))
  none : length view.games ≤ number →
      IsGameText line view number (no_game_text line number view.version)

-- the text of a count of kept games
pub record IsKeptText (line : ℕ) (view : View) (query : Query) (text : List ℕ) : Type 0 where
  pub kept : ℕ
  pub are_kept : AreKept query view.games kept
  pub text_is : text ≡ kept_text line view.version (length view.games) kept

-- the text of the games whose signature matches a pattern
pub record IsSignatureText (line : ℕ) (view : View) (pattern : List ℕ)
    (text : List ℕ) : Type 0 where
  pub found : List FoundGame
  pub are_found : AreGamesFound pattern view.games found
  pub text_is : text
      ≡ signature_head line view.version (length view.games) (length found)
      ++ flat_map (λ (s : FoundGame). found_game_text s.game s.form) found

-- the text of the players: their table
pub record IsPlayersText (line : ℕ) (view : View) (text : List ℕ) : Type 0 where
  pub rows : List TableRow
  pub is_table : IsPlayersTable (map (λ (g : Game). g.tree.info) view.games) rows
  pub text_is : text ≡ players_text line view.version (length view.games) rows

-- the text of the groups of double games
pub record IsDoublesText (line : ℕ) (view : View) (text : List ℕ) : Type 0 where
  pub keys : List DoubleKey
  pub are_keys : AreKeysOf view.games keys
  pub text_is : text
      ≡ doubles_head line view.version (length view.games) (length (groups_of keys))
      ++ flat_map (λ (g : Group). double_text g.form g.games) (groups_of keys)

-- the text of openings: how many there are, and the lines of each, in order
abbrev pub openings_text : ℕ → View → List Opening → List ℕ
openings_text line view openings =
    opening_head line view.version (length view.games) (length openings)
    ++ flat_map opening_lines openings

-- the text of the openings of the games on boards of a shape, down to a move number and with at least
-- so many entries
pub record IsOpeningText (line : ℕ) (view : View) (shape : Shape) (depth least : ℕ)
    (text : List ℕ) : Type 0 where
  pub openings : List Opening
  pub are_openings : IsOpenings shape depth least view.games openings
  pub text_is : text ≡ openings_text line view openings

-- the text of a report at this line: how many boxes there are, and the report line of each, in order
abbrev pub boxes_text : ℕ → List BoxTally → List ℕ
boxes_text line boxes = report_head line (length boxes) ++ flat_map report_line boxes

-- A box is retired by its name: the first one that has it is left out, and the others stay as they
-- are; or none has it, and all stay.
pub data IsRetiredBy (line : ℕ) (name : List ℕ) (session : SessionState) : List ℕ →
    SessionState → Type 0 where
  retired : (boxes : List BoxTally) →
      IsRetired (λ (told : BoxTally). told.name) name session.boxes boxes →
      IsRetiredBy line name session (retire_text line name) (with_boxes session boxes)
  none : All (λ (told : BoxTally). told.name ≢ name) session.boxes →
      IsRetiredBy line name session (no_retire_text line name) session

-- A search is watched from now on: its name was free, and its hits are given to all boxes.
pub record IsWatchBegun (line : ℕ) (view : View) (name : List ℕ) (query : Query) (filter : Filter)
    (session : SessionState) (text : List ℕ) (after : SessionState) : Type 0 where
  pub hits : List Hit
  pub watches : List Watched
  pub added : IsWatchAdded name query filter view.games session.watches watches hits
  pub text_is : text ≡ watch_text line name view.version (length hits)
  pub fed : after ≡ fed_with hits (with_watches session watches)

-- A search is watched under this name already, and all stays as it is.
pub record IsWatchTaken (line : ℕ) (name : List ℕ) (session : SessionState) (text : List ℕ)
    (after : SessionState) : Type 0 where
  pub found : IsWatch name session.watches
  pub text_is : text ≡ taken_text line name
  pub same : after ≡ session

-- The search of a name is advanced and told: all its hits and their table. The new hits alone are
-- given to all boxes.
pub record IsWatchTold (line : ℕ) (view : View) (name : List ℕ) (session : SessionState)
    (text : List ℕ) (after : SessionState) : Type 0 where
  pub hits : List Hit
  pub new : List Hit
  pub table : TableView
  pub watches : List Watched
  pub advanced : IsWatchAdvanced name view.games session.watches watches hits new
  pub is_table : IsTable hits table
  pub text_is : text ≡ watched_text line name view.version (length view.games) hits table
  pub fed : after ≡ fed_with new (with_watches session watches)

-- No search is watched under this name, and all stays as it is.
pub record IsWatchMissing (line : ℕ) (name : List ℕ) (session : SessionState) (text : List ℕ)
    (after : SessionState) : Type 0 where
  pub free : IsFree name session.watches
  pub text_is : text ≡ no_watch_text line name
  pub same : after ≡ session

-- The text of a statement over what is seen of the base, by what the statements before it left, and
-- what it leaves. Other statements have none.
abbrev pub IsAnswer : ℕ → View → SessionState → Statement → List ℕ → SessionState → Type 0
IsAnswer line view session (statement.Search query filter) text after =
    IsSearched line view query filter session text after
IsAnswer line view session (statement.Kept query) text after =
    IsKeptText line view query text × (after ≡ session)
IsAnswer line view session (statement.Signature pattern) text after =
    IsSignatureText line view pattern.bytes text × (after ≡ session)
IsAnswer line view session statement.Players text after =
    IsPlayersText line view text × (after ≡ session)
IsAnswer line view session statement.Doubles text after =
    IsDoublesText line view text × (after ≡ session)
IsAnswer line view session (statement.Game number) text after =
    IsGameText line view number text × (after ≡ session)
IsAnswer line view session (statement.Opening shape depth least) text after =
    IsOpeningText line view shape depth least text × (after ≡ session)
IsAnswer line view session statement.Report text after =
    (text ≡ boxes_text line session.boxes) × (after ≡ session)
IsAnswer line view session (statement.Retire name) text after =
    IsRetiredBy line name session text after
IsAnswer line view session (statement.Watch name query filter) text after =
    IsWatchBegun line view name query filter session text after
    ⊎ IsWatchTaken line name session text after
IsAnswer line view session (statement.Watched name) text after =
    IsWatchTold line view name session text after
    ⊎ IsWatchMissing line name session text after
IsAnswer line view session (statement.Import path) text after = ⊥
IsAnswer line view session (statement.Make games start) text after = ⊥
IsAnswer line view session statement.Wait text after = ⊥
IsAnswer line view session (statement.Until number) text after = ⊥
IsAnswer line view session (statement.Together searches) text after = ⊥

-- the statement is answered by a session
abbrev pub IsAnswered : Statement → Type 0
IsAnswered (statement.Search query filter) = Unit {0}
IsAnswered (statement.Kept query) = Unit {0}
IsAnswered (statement.Signature pattern) = Unit {0}
IsAnswered statement.Players = Unit {0}
IsAnswered statement.Doubles = Unit {0}
IsAnswered (statement.Game number) = Unit {0}
IsAnswered (statement.Opening shape depth least) = Unit {0}
IsAnswered statement.Report = Unit {0}
IsAnswered (statement.Retire name) = Unit {0}
IsAnswered (statement.Watch name query filter) = Unit {0}
IsAnswered (statement.Watched name) = Unit {0}
IsAnswered (statement.Import path) = ⊥
IsAnswered (statement.Make games start) = ⊥
IsAnswered statement.Wait = ⊥
IsAnswered (statement.Until number) = ⊥
IsAnswered (statement.Together searches) = ⊥

-- What is left where an answer was refused: all as before, or the boxes were fed in part with hits of
-- which this holds.
abbrev pub IsLeft : (List Hit → Type 0) → SessionState → SessionState → Type 0
IsLeft AreThese session after =
    (after ≡ session)
    ⊎ ((hits : List Hit) × (boxes : List BoxTally) × AreThese hits
    × IsFedInPart hits session.boxes boxes × (after ≡ with_boxes session boxes))

-- the hits with which a statement feeds the boxes that changes no watched search: those of a search
abbrev pub FeedsHits : View → Statement → List Hit → Type 0
FeedsHits view (statement.Search query filter) hits = AreHits query filter view.games hits
FeedsHits view other hits = ⊥

-- What is left where the answer to a statement was refused: what there was, or of a search boxes that
-- were fed in part. Or the watched search that the statement names was added, or advanced to this
-- version, and then the boxes were perhaps fed in part with the hits that are new by it.
abbrev pub IsLeftBehind : View → Statement → SessionState → SessionState → Type 0
IsLeftBehind view own session after =
    IsLeft (FeedsHits view own) session after
    ⊎ ((watches : List Watched) × (new : List Hit)
    × ChangesWatches view.games session.watches own watches new
    × IsLeft (λ hits. hits ≡ new) (with_watches session watches) after)

-- the statement watches a search, or tells a watched one
abbrev pub IsOfWatches : Statement → Type 0
IsOfWatches (statement.Watch name query filter) = Unit {0}
IsOfWatches (statement.Watched name) = Unit {0}
IsOfWatches other = ⊥

-- What a statement of watched searches changes before the boxes are given the hits that are new by it:
-- nothing, or the watched search that it names was added, or advanced to this version.
abbrev pub ChangesUnfed : View → Statement → SessionState → SessionState → Option NewHits → Type 0
ChangesUnfed view own session after None = after ≡ session
ChangesUnfed view own session after (Some new) =
    ChangesWatches view.games session.watches own after.watches (new_hits after.watches new)
    × (after ≡ with_watches session after.watches)

-- The text of a statement of watched searches, and what it leaves while the boxes aren't given yet what
-- is new by it. Once they are, it is answered.
pub record IsAnsweredUnfed (line : ℕ) (view : View) (session : SessionState) (own : Statement)
    (text : List ℕ) (after : SessionState) (new : Option NewHits) : Type 0 where
  pub answered : IsAnswer line view session own text (fed_by new after)
  pub changed : ChangesUnfed view own session after new
