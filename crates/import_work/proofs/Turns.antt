-- Files that are imported one after another, each in its turn.
use Rattle.std.proofs.Common.{◌≡◌, ◌≢◌, ◌⊎◌, ◌≤◌, inl, inr, ℕ, Bool, false, List, [], ◌∷◌, ◌++◌, Option, length, length-append, append-nil, refl, sym, ◌∙◌, ap, subst, arith, append_assoc, map}
use Rattle.std.specs.Prelude.{String, filter, string_bytes}
use Rattle.std.specs.declared.alloc.Global.{Global}
use Rattle.std.proofs.lemmas.List.{map-append, nil_from_length}
use Rattle.std.proofs.lemmas.List.Elements.{filter-append}
use Rattle.std.proofs.lemmas.List.Sums.{sum_by_push}
use Rattle.kb_edges.specs.Files.{File}
use Rattle.game_tree.specs.Tree.{Tree}
use Rattle.node_position.specs.Games.{Game}
use Rattle.import_work.specs.Batches.{AreImportedInTurn, ArePaid, IsImportedFile, games_added, games_told, is_unread, names_in, none, nothing, one_more, unread_in}
use Rattle.import_work.specs.Course.{FileReport, games_from, trees_in}
use Rattle.import_work.specs.Outcome.{with_games}
use Rattle.import_work.specs.Rooms.{AreAdded, AreCountsWithinLimits, IsAdded}
use Rattle.import_work.specs.Steps.{AreMoreFiles}
use Rattle.import_work.specs.declared.outcome.Counts.{Counts}
use Rattle.import_work.specs.declared.outcome.FileOutcome.{FileOutcome}
use Rattle.import_work.specs.declared.outcome.FileOutcome.TheVariants as file
use Rattle.import_work.proofs.FileLemmas.{length-games_from}
use Rattle.import_work.proofs.LostFiles.{paid-later, paid-more}
use Rattle.import_work.proofs.RoomLemmas.{added_counted, cases_unread, trees_in-append, with_games-append, with_games-none, with_file}

-- files that are imported in turn behind others
in_turn-then : (told : Option (List File)) (path : List ℕ) (base : Counts) (first between : ℕ) (reports : List FileReport) (games : List Game) → AreImportedInTurn told path base first reports games between → (more : List FileReport) (own : List Game) (now : ℕ) → AreImportedInTurn told path (with_games base (trees_in games)) between more own now → AreImportedInTurn told path base first (reports ++ more) (games ++ own) now
in_turn-then told path base first between reports games so_far _ _ _ nothing = rw (append-nil reports, append-nil games) so_far
in_turn-then told path base first between reports games so_far _ _ _ (one_more {reports = more} {games = own} {faults = faults} name now outcome trees h is) =
    let line : List FileReport = record { name = name; outcome = outcome } ∷ [] in
    let counts : with_games (with_games base (trees_in games)) (trees_in own) ≡ with_games base (trees_in (games ++ own)) = with_games-append base (trees_in games) (trees_in own) ∙ ap (with_games base) (sym (trees_in-append games own)) in
    let last = one_more name now outcome trees (in_turn-then told path base first between reports games so_far more own faults h) (subst (λ c. IsImportedFile told path name c faults now outcome trees) counts is) in
    subst (λ rs. AreImportedInTurn told path base first rs (games ++ (own ++ games_from name 0 trees)) now) (append_assoc reports more line)
    (subst (λ gs. AreImportedInTurn told path base first ((reports ++ more) ++ line) gs now) (append_assoc games own (games_from name 0 trees)) last)

-- no file, and then more files behind others
pub more_files-none : (told : Option (List File)) (path : List ℕ) (base : Counts) (first : ℕ) (reports : List FileReport) (games : List Game) → AreMoreFiles told path [] base base first first reports reports games games
more_files-none told path base first reports games = record {
  own_reports = [];
  own_games = [];
  in_turn = nothing;
  named = refl;
  reports_are = sym (append-nil reports);
  games_are = sym (append-nil games);
  counted = sym (with_games-none base);
}

module _ (told : Option (List File)) (path : List ℕ) (names : List (List ℕ)) (base counts : Counts) (first before : ℕ) (reports more_reports : List FileReport) (games more_games : List Game) (h : AreMoreFiles told path names base counts first before reports more_reports games more_games) where
  pub more_files-then : (others : List (List ℕ)) (after : Counts) (now : ℕ) (all_reports : List FileReport) (all_games : List Game) → AreMoreFiles told path others counts after before now more_reports all_reports more_games all_games → AreMoreFiles told path (names ++ others) base after first now reports all_reports games all_games
  more_files-then others after now all_reports all_games next =
      let name_of : FileReport → List ℕ = λ r. r.name in
      let own = subst (λ c. AreImportedInTurn told path c before next.own_reports next.own_games now) h.counted next.in_turn in record {
        own_reports = h.own_reports ++ next.own_reports;
        own_games = h.own_games ++ next.own_games;
        in_turn = in_turn-then told path base first before h.own_reports h.own_games h.in_turn next.own_reports next.own_games now own;
        named = map-append name_of h.own_reports next.own_reports ∙ ap (λ ns. ns ++ names_in next.own_reports) h.named ∙ ap (λ ns. names ++ ns) next.named;
        reports_are = next.reports_are ∙ ap (λ rs. rs ++ next.own_reports) h.reports_are ∙ append_assoc reports h.own_reports next.own_reports;
        games_are = next.games_are ∙ ap (λ gs. gs ++ next.own_games) h.games_are ∙ append_assoc games h.own_games next.own_games;
        counted = next.counted ∙ ap (λ (c : Counts). with_games c (trees_in next.own_games)) h.counted
            ∙ with_games-append base (trees_in h.own_games) (trees_in next.own_games)
            ∙ ap (with_games base) (sym (trees_in-append h.own_games next.own_games));
      }

-- the games of files that stand behind no game are counted
pub more_files-counted : (told : Option (List File)) (path : List ℕ) (names : List (List ℕ)) (base counts : Counts) (first before : ℕ) (reports more_reports : List FileReport) (games : List Game) → AreMoreFiles told path names base counts first before reports more_reports [] games → length games ≤ counts.games
more_files-counted told path names base counts first before reports more_reports games h =
    added_counted base counts games (h.counted ∙ ap (λ gs. with_games base (trees_in gs)) (sym h.games_are))

-- ---- the names of files, some at a time

-- the first of the names have had their turn, and the others are left
pub record AreFirstFiles (told : Option (List File)) (path : List ℕ) (names left : List (String Global)) (base counts : Counts) (first before : ℕ) (reports more_reports : List FileReport) (games : List Game) : Type 0 where
  pub done : List (String Global)
  pub parts : names ≡ done ++ left
  pub files : AreMoreFiles told path (map string_bytes done) base counts first before reports more_reports [] games

pub first_files-start : (told : Option (List File)) (path : List ℕ) (names left : List (String Global)) (base : Counts) (first : ℕ) (reports : List FileReport) (games : List Game) → left ≡ names → games ≡ [] → AreFirstFiles told path names left base base first first reports reports games
first_files-start told path names left base first reports games all empty = record {
  done = [];
  parts = sym all;
  files = subst (λ gs. AreMoreFiles told path [] base base first first reports reports [] gs) (sym empty) (more_files-none told path base first reports []);
}

pub first_files-more : (told told_now : Option (List File)) (path : List ℕ) (names left chunk rest : List (String Global)) (base counts after : Counts) (first before now : ℕ) (reports more_reports all_reports : List FileReport) (games more_games : List Game) → told_now ≡ told → left ≡ chunk ++ rest → AreFirstFiles told path names left base counts first before reports more_reports games → AreMoreFiles told_now path (map string_bytes chunk) counts after before now more_reports all_reports games more_games → AreFirstFiles told path names rest base after first now reports all_reports more_games
first_files-more told told_now path names left chunk rest base counts after first before now reports more_reports all_reports games more_games same split h next =
    let here = subst (λ t. AreMoreFiles t path (map string_bytes chunk) counts after before now more_reports all_reports games more_games) same next in
    let both = more_files-then told path (map string_bytes h.done) base counts first before reports more_reports [] games h.files (map string_bytes chunk) after now all_reports more_games here in record {
      done = h.done ++ chunk;
      parts = h.parts ∙ ap (λ ns. h.done ++ ns) split ∙ sym (append_assoc h.done chunk rest);
      files = subst (λ ns. AreMoreFiles told path ns base after first now reports all_reports [] more_games) (sym (map-append string_bytes h.done chunk)) both;
    }

pub first_files-all : (told : Option (List File)) (path : List ℕ) (names left : List (String Global)) (base counts : Counts) (first before : ℕ) (reports more_reports : List FileReport) (games : List Game) → length left ≡ 0 → AreFirstFiles told path names left base counts first before reports more_reports games → AreMoreFiles told path (map string_bytes names) base counts first before reports more_reports [] games
first_files-all told path names left base counts first before reports more_reports games empty h =
    let whole : names ≡ h.done = h.parts ∙ ap (λ ns. h.done ++ ns) (nil_from_length left empty) ∙ append-nil h.done in
    subst (λ ns. AreMoreFiles told path (map string_bytes ns) base counts first before reports more_reports [] games) (sym whole) h.files

-- ---- files that stand behind no others

-- the lines and the games are their own
pub record AreFiles (told : Option (List File)) (path : List ℕ) (names : List (List ℕ)) (before after : Counts) (faults_before faults_now : ℕ) (reports : List FileReport) (games : List Game) : Type 0 where
  pub in_turn : AreImportedInTurn told path before faults_before reports games faults_now
  pub named : names_in reports ≡ names
  pub counted : after ≡ with_games before (trees_in games)

pub files_alone : (told : Option (List File)) (path : List ℕ) (names : List (List ℕ)) (before after : Counts) (faults_before faults_now : ℕ) (reports earlier : List FileReport) (games : List Game) → earlier ≡ [] → AreMoreFiles told path names before after faults_before faults_now earlier reports [] games → AreFiles told path names before after faults_before faults_now reports games
files_alone told path names before after faults_before faults_now reports earlier games empty h =
    let lines : h.own_reports ≡ reports = sym (h.reports_are ∙ ap (λ rs. rs ++ h.own_reports) empty) in
    let own : h.own_games ≡ games = sym h.games_are in record {
      in_turn = subst (λ rs. AreImportedInTurn told path before faults_before rs games faults_now) lines
          (subst (λ gs. AreImportedInTurn told path before faults_before h.own_reports gs faults_now) own h.in_turn);
      named = ap names_in (sym lines) ∙ h.named;
      counted = h.counted ∙ ap (λ gs. with_games before (trees_in gs)) own;
    }

-- ---- what files in their turn tell

-- an outcome tells how many games it adds
added_told : (before : Counts) (outcome : FileOutcome) (trees : List Tree) → IsAdded before outcome trees → games_added outcome ≡ length trees
added_told before (file.Accepted games) trees h = h.0
added_told before (file.Refused of at) trees h = sym (ap length h)
added_told before (file.Full games nodes) trees h = sym (ap length h)
added_told before file.Unread trees h = sym (ap length h)

-- the lines tell as many games as are added
pub games_counted : (told : Option (List File)) (path : List ℕ) (base : Counts) (first : ℕ) (reports : List FileReport) (games : List Game) (now : ℕ) → AreImportedInTurn told path base first reports games now → games_told reports ≡ length games
games_counted told path base first _ _ _ nothing = refl
games_counted told path base first _ _ _ (one_more {reports = reports} {games = games} {faults = before} name now outcome trees so_far is) =
    let had = games_counted told path base first reports games before so_far in
    let more = added_told (with_games base (trees_in games)) outcome trees is.added in
    let counted = sum_by_push (λ (r : FileReport). games_added r.outcome) reports (record { name = name; outcome = outcome }) in
    rw (length-append, length-games_from name 0 trees) (omega (arith, counted, had, more))

-- a file adds no game, or there is room for its games
no_game_or_room : (before : Counts) (outcome : FileOutcome) (trees : List Tree) → IsAdded before outcome trees → (trees ≡ []) ⊎ AreCountsWithinLimits (with_games before trees)
no_game_or_room before (file.Accepted games) trees h = inr h.1
no_game_or_room before (file.Refused of at) trees h = inl h
no_game_or_room before (file.Full games nodes) trees h = inl h
no_game_or_room before file.Unread trees h = inl h

-- no game is added, or a base may have as many as there are then
none_or_room : (told : Option (List File)) (path : List ℕ) (base : Counts) (first : ℕ) (reports : List FileReport) (games : List Game) (now : ℕ) → AreImportedInTurn told path base first reports games now → (games ≡ []) ⊎ AreCountsWithinLimits (with_games base (trees_in games))
none_or_room told path base first _ _ _ nothing = inl refl
none_or_room told path base first _ _ _ (one_more {reports = reports} {games = games} {faults = before} name now outcome trees so_far is) =
    elim (no_game_or_room (with_games base (trees_in games)) outcome trees is.added) [
      | inr room ↦ inr (subst AreCountsWithinLimits (with_file base games name trees) room)
      | inl empty ↦
          let same : games ++ games_from name 0 trees ≡ games = ap (λ ts. games ++ games_from name 0 ts) empty ∙ append-nil games in
          subst (λ gs. (gs ≡ []) ⊎ AreCountsWithinLimits (with_games base (trees_in gs))) (sym same) (none_or_room told path base first reports games before so_far)
    ]

pub room_after : (told : Option (List File)) (path : List ℕ) (base after : Counts) (first : ℕ) (reports : List FileReport) (games : List Game) (now : ℕ) → AreAdded base after (trees_in games) → AreImportedInTurn told path base first reports games now → games ≢ [] → AreCountsWithinLimits after
room_after told path base after first reports games now is h some =
    elim (none_or_room told path base first reports games now h) [
      | inl empty ↦ absurd (some empty)
      | inr room ↦ subst AreCountsWithinLimits (sym is) room
    ]

-- files are added behind no games: then these are few, and they stand behind others
module _ (told : Option (List File)) (path : List ℕ) (names : List (List ℕ)) (base counts : Counts) (first before : ℕ) (reports more_reports : List FileReport) (own : List Game) (h : AreMoreFiles told path names base counts first before reports more_reports [] own) where
  pub more_files-few : length own ≤ 400000
  more_files-few =
      let counted = more_files-counted told path names base counts first before reports more_reports own h in
      elim (none_or_room told path base first h.own_reports h.own_games before h.in_turn) [
        | inl empty ↦ omega (arith, ap length (h.games_are ∙ empty))
        | inr room ↦ let few = subst AreCountsWithinLimits (sym h.counted) room in omega (arith, counted, few.0)
      ]

  pub more_files-behind : (games all : List Game) → all ≡ games ++ own → AreMoreFiles told path names base counts first before reports more_reports games all
  more_files-behind games all pushed = record {
    own_reports = h.own_reports;
    own_games = h.own_games;
    in_turn = h.in_turn;
    named = h.named;
    reports_are = h.reports_are;
    games_are = pushed ∙ ap (λ gs. games ++ gs) h.games_are;
    counted = h.counted;
  }

-- whether a file is unread
unread_is : (outcome : FileOutcome) → outcome ≢ file.Unread → is_unread outcome ≡ false
unread_is (file.Accepted games) other = refl
unread_is (file.Refused of at) other = refl
unread_is (file.Full games nodes) other = refl
unread_is file.Unread other = absurd (other refl)

-- the unread files with one more
pub unread_with : (reports : List FileReport) (name : List ℕ) (outcome : FileOutcome) → unread_in (reports ++ record { name = name; outcome = outcome } ∷ []) ≡ unread_in reports ++ unread_in (record { name = name; outcome = outcome } ∷ [])
unread_with reports name outcome =
    let test : FileReport → Bool = λ r. is_unread r.outcome in
    ap names_in (filter-append test reports (record { name = name; outcome = outcome } ∷ []))
    ∙ map-append (λ (r : FileReport). r.name) (filter test reports) _

pub one_unread : (name : List ℕ) (outcome : FileOutcome) → outcome ≡ file.Unread → unread_in (record { name = name; outcome = outcome } ∷ []) ≡ name ∷ []
one_unread name outcome is = rw is refl

pub one_given : (name : List ℕ) (outcome : FileOutcome) → outcome ≢ file.Unread → unread_in (record { name = name; outcome = outcome } ∷ []) ≡ []
one_given name outcome other = rw (unread_is outcome other) refl

-- the count of faults rose by the files that were lost
pub unread_paid : (told : Option (List File)) (path : List ℕ) (base : Counts) (first : ℕ) (reports : List FileReport) (games : List Game) (now : ℕ) → AreImportedInTurn told path base first reports games now → ArePaid told path (unread_in reports) first now
unread_paid told path base first _ _ _ nothing = (0, none, omega arith)
unread_paid told path base first _ _ _ (one_more {reports = reports} {games = games} {faults = before} name now outcome trees so_far is) =
    let had = unread_paid told path base first reports games before so_far in
    subst (λ us. ArePaid told path us first now) (sym (unread_with reports name outcome))
    (elim (cases_unread outcome) [
      | inl lost ↦ subst (λ us. ArePaid told path (unread_in reports ++ us) first now) (sym (one_unread name outcome lost)) (paid-more told path (unread_in reports) name first before now (is.unread lost) is.later had)
      | inr given ↦ subst (λ us. ArePaid told path (unread_in reports ++ us) first now) (sym (one_given name outcome given))
          (subst (λ us. ArePaid told path us first now) (sym (append-nil (unread_in reports))) (paid-later told path (unread_in reports) first before now is.later had))
    ])
