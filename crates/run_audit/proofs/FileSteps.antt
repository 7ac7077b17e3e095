-- An import of files into the base of an audit, file by file and batch by batch.
use Rattle.std.proofs.Common.{◌≡◌, ◌∙◌, ◌⊎◌, inl, inr, ℕ, suc, ◌+◌, ◌*◌, ◌<◌, ◌≤◌, Bool, true, false, if◌then◌else◌, List, [], ◌∷◌, ◌++◌, length, length-append, map, min, refl, suc-mul, sym, ap, ap₂, subst, append-nil, append_assoc, arith}
use Rattle.std.specs.Prelude.{filter, get_or, take}
use Rattle.std.proofs.lemmas.Bool.{cases_lt}
use Rattle.std.proofs.lemmas.Grind.{flat_map-append}
use Rattle.std.proofs.lemmas.List.{length-map, map-append, nil_from_length}
use Rattle.std.proofs.lemmas.List.Elements.{filter-append}
use Rattle.std.proofs.lemmas.List.Sums.{sum_by-take-drop, sum_by_push}
use Rattle.kb_edges.specs.Files.{File}
use Rattle.game_tree.specs.Tree.{Tree, node_count}
use Rattle.node_position.specs.Games.{Game}
use Rattle.import_work.specs.Batches.{games_added, games_told, line_reports}
use Rattle.import_work.specs.Course.{AreRead, FileReport, Files, ImportFile, games_from, games_of_files, import_file, names_of, reports_of, trees_in}
use Rattle.import_work.specs.Log.{Segment, segments_of}
use Rattle.import_work.specs.Outcome.{HasRoom, IsOutcome, nodes_of_trees, with_games}
use Rattle.import_work.specs.Rooms.{AreCountsWithinLimits, IsAdded}
use Rattle.import_work.specs.declared.batch.FileLine.{FileLine}
use Rattle.import_work.specs.declared.outcome.Counts.{Counts}
use Rattle.import_work.specs.declared.outcome.FileOutcome.{FileOutcome}
use Rattle.import_work.specs.declared.outcome.FileOutcome.TheVariants as file
use Rattle.import_work.proofs.FileLemmas.{length-games_from}
use Rattle.import_work.proofs.ReadFiles.{AreRead-then, counts_after}
use Rattle.import_work.proofs.RoomLemmas.{nodes_of_trees-more, with_file, with_games-none}
use Rattle.import_work.proofs.SegmentLemmas.{segments-more, segments_of-none}
use Rattle.run_audit.specs.Importing.{FilesTo, IsFileAdded, IsFileTold, ReadsBy}
use Rattle.run_audit.specs.Standing.{Kept}

-- ---- the games of one file

-- there is room for one game more of those for which there is room
pub next-room : (before : Counts) (trees yielded : List Tree) (tree : Tree) → HasRoom before trees → yielded ≡ take (length yielded) trees → length yielded < length trees → tree ≡ get_or trees (length yielded) tree
    → (before.games + length yielded + 1 ≤ 400000) × (before.nodes + nodes_of_trees yielded + node_count tree ≤ 67108864)
next-room before trees yielded tree room so_far below is =
    let count : ℕ = length yielded in
    let more = nodes_of_trees-more trees count tree below is in
    let whole = sum_by-take-drop node_count trees (count + 1) in
    let same = ap nodes_of_trees so_far in
    (omega (arith, room.0, below), omega (arith, room.1, more, whole, same))

-- an outcome tells how many games are added
pub added-count : (before : Counts) (outcome : FileOutcome) (trees : List Tree) → IsAdded before outcome trees → length trees ≡ games_added outcome
added-count before (file.Accepted games) trees is = sym is.0
added-count before (file.Refused of at) trees is = ap length is
added-count before (file.Full games nodes) trees is = ap length is
added-count before file.Unread trees is = ap length is

-- and there is room for them
pub added-room : (before : Counts) (outcome : FileOutcome) (trees : List Tree) → IsAdded before outcome trees → (trees ≡ []) ⊎ HasRoom before trees
added-room before (file.Accepted games) trees is = inr is.1
added-room before (file.Refused of at) trees is = inl is
added-room before (file.Full games nodes) trees is = inl is
added-room before file.Unread trees is = inl is

-- one line more tells so many games more
pub told-more : (before after : List FileReport) (one : FileReport) → after ≡ before ++ one ∷ [] → games_told after ≡ games_told before + games_added one.outcome
told-more before after one is = ap games_told is ∙ sum_by_push (λ (r : FileReport). games_added r.outcome) before one

pub add-room : (before : Counts) (trees yielded : List Tree) (tree : Tree) (first games : List Game) (name : List ℕ) → length first ≤ before.games → (trees ≡ []) ⊎ HasRoom before trees → yielded ≡ take (length yielded) trees → length yielded < length trees → tree ≡ get_or trees (length yielded) tree
    → games ≡ first ++ games_from name 0 yielded → length games < 400000
add-room before trees yielded tree first games name few (inl none) so_far below is added = absurd (omega (arith, below, ap length none))
add-room before trees yielded tree first games name few (inr room) so_far below is added =
    omega (arith, (next-room before trees yielded tree room so_far below is).0, few, ap length added, length-append first (games_from name 0 yielded), length-games_from name 0 yielded)

pub counted-next : (before now : Counts) (yielded : List Tree) (tree : Tree) (nodes : ℕ) → now ≡ with_games before yielded → nodes ≡ node_count tree → ◌≡◌ {A = Counts} (record { games = now.games + 1; nodes = now.nodes + nodes }) (with_games before (yielded ++ tree ∷ []))
counted-next before now yielded tree nodes is own =
    let games : now.games + 1 ≡ before.games + length (yielded ++ tree ∷ []) = omega (arith, ap (λ (c : Counts). c.games) is, length-append yielded (tree ∷ [])) in
    let all : now.nodes + nodes ≡ before.nodes + nodes_of_trees (yielded ++ tree ∷ []) = omega (arith, ap (λ (c : Counts). c.nodes) is, sum_by_push node_count yielded tree, own) in
    λ i. record { games = games i; nodes = all i }

-- games are added only where there is room for them
pub room-then : (before after : Counts) (trees : List Tree) (first games : List Game) (name : List ℕ) → (trees ≡ []) ⊎ HasRoom before trees → after ≡ with_games before trees → games ≡ first ++ games_from name 0 trees
    → ((games ≡ first) × (after ≡ before)) ⊎ AreCountsWithinLimits after
room-then before after trees first games name (inl none) counted added =
    inl (added ∙ ap (λ (ts : List Tree). first ++ games_from name 0 ts) none ∙ append-nil first, counted ∙ ap (with_games before) none ∙ with_games-none before)
room-then before after trees first games name (inr room) counted added =
    inr (omega (arith, room.0, ap (λ (c : Counts). c.games) counted), omega (arith, room.1, ap (λ (c : Counts). c.nodes) counted))

-- so is it with one file more
pub room-more : (now after : Counts) (games more : List Game) → (games ≡ []) ⊎ AreCountsWithinLimits now → ((more ≡ games) × (after ≡ now)) ⊎ AreCountsWithinLimits after → (more ≡ []) ⊎ AreCountsWithinLimits after
room-more now after games more (inl none) (inl same) = inl (same.0 ∙ none)
room-more now after games more (inr within) (inl same) = inr (subst AreCountsWithinLimits (sym same.1) within)
room-more now after games more so_far (inr within) = inr within

-- ---- file by file

module _ (all : List File) (path : List ℕ) (is_lost : List ℕ → Bool) (before : Counts) where
  pub reads-start : (lines : List FileLine) (games : List Game) → games ≡ [] → ReadsBy all path is_lost [] before before lines lines games
  reads-start lines games none = record {
    files = [];
    unread = [];
    read = AreRead.nothing;
    named = refl;
    lost_are = refl;
    lines_are = sym (append-nil (line_reports lines));
    games_are = none;
    counted = sym (with_games-none before) ∙ ap (λ (gs : List Game). with_games before (trees_in gs)) (sym none);
  }

  lost_push : (names : List (List ℕ)) (name : List ℕ) → filter is_lost (names ++ name ∷ []) ≡ filter is_lost names ++ filter is_lost (name ∷ [])
  lost_push names name = filter-append is_lost names (name ∷ [])

  lost_one : (name : List ℕ) → is_lost name ≡ true → filter is_lost (name ∷ []) ≡ name ∷ []
  lost_one name is = ap (λ (b : Bool). if b then name ∷ [] else []) is

  read_one : (name : List ℕ) → is_lost name ≡ false → filter is_lost (name ∷ []) ≡ []
  read_one name is = ap (λ (b : Bool). if b then name ∷ [] else []) is

  games_push : (files : List ImportFile) (one : ImportFile) → games_of_files (files ++ one ∷ []) ≡ games_of_files files ++ one.games
  games_push files one = flat_map-append (λ (f : ImportFile). f.games) files (one ∷ []) ∙ ap (λ (gs : List Game). games_of_files files ++ gs) (append-nil one.games)

  module _ (names : List (List ℕ)) (now after : Counts) (lines lines_now lines_after : List FileLine) (games games_after : List Game) (so_far : ReadsBy all path is_lost names before now lines lines_now games) (name : List ℕ) (outcome : FileOutcome)
      (line_is : line_reports lines_after ≡ line_reports lines_now ++ record { name = name; outcome = outcome } ∷ []) where
    lines_more : (trees : List Tree) → line_reports lines_after ≡ line_reports lines ++ reports_of (so_far.files ++ import_file name outcome trees ∷ [])
    lines_more trees =
        line_is
        ∙ ap (λ (l : List FileReport). l ++ record { name = name; outcome = outcome } ∷ []) so_far.lines_are
        ∙ append_assoc (line_reports lines) (reports_of so_far.files) (record { name = name; outcome = outcome } ∷ [])
        ∙ ap (λ (l : List FileReport). line_reports lines ++ l) (sym (map-append (λ (f : ImportFile). f.report) so_far.files (import_file name outcome trees ∷ [])))

    named_more : (trees : List Tree) → names_of (so_far.files ++ import_file name outcome trees ∷ []) ≡ names ++ name ∷ []
    named_more trees = map-append (λ (f : ImportFile). f.report.name) so_far.files (import_file name outcome trees ∷ []) ∙ ap (λ (l : List (List ℕ)). l ++ name ∷ []) so_far.named

    lost_more : is_lost name ≡ true → outcome ≡ file.Unread → after ≡ now → games_after ≡ games → ReadsBy all path is_lost (names ++ name ∷ []) before after lines lines_after games_after
    lost_more lost is same none = record {
      files = so_far.files ++ import_file name outcome [] ∷ [];
      unread = so_far.unread ++ name ∷ [];
      read = subst (λ (o : FileOutcome). AreRead all path before (so_far.files ++ import_file name o [] ∷ []) (so_far.unread ++ name ∷ [])) (sym is) (AreRead.not_read name so_far.read);
      named = named_more [];
      lost_are = ap₂ (λ (a b : List (List ℕ)). a ++ b) so_far.lost_are (sym (lost_one name lost)) ∙ sym (lost_push names name);
      lines_are = lines_more [];
      games_are = none ∙ so_far.games_are ∙ sym (append-nil (games_of_files so_far.files)) ∙ sym (games_push so_far.files (import_file name outcome []));
      counted = same ∙ so_far.counted ∙ ap (λ (gs : List Game). with_games before (trees_in gs)) (sym none);
    }

    read_more : is_lost name ≡ false → IsFileAdded all path name now after outcome games games_after → ReadsBy all path is_lost (names ++ name ∷ []) before after lines lines_after games_after
    read_more kept added = record {
      files = so_far.files ++ import_file name outcome added.trees ∷ [];
      unread = so_far.unread;
      read = AreRead.read name added.bytes outcome added.trees so_far.read added.content (subst (λ (c : Counts). IsOutcome added.bytes c outcome added.trees) now_is added.outcome_is);
      named = named_more added.trees;
      lost_are = so_far.lost_are ∙ sym (append-nil (filter is_lost names)) ∙ ap (λ (l : List (List ℕ)). filter is_lost names ++ l) (sym (read_one name kept)) ∙ sym (lost_push names name);
      lines_are = lines_more added.trees;
      games_are = added.added ∙ ap (λ (gs : List Game). gs ++ games_from name 0 added.trees) so_far.games_are ∙ sym (games_push so_far.files (import_file name outcome added.trees));
      counted =
          added.counted
          ∙ ap (λ (c : Counts). with_games c added.trees) so_far.counted
          ∙ with_file before games name added.trees
          ∙ ap (λ (gs : List Game). with_games before (trees_in gs)) (sym added.added);
    }
      where
        now_is : now ≡ with_games before (trees_in (games_of_files so_far.files))
        now_is = so_far.counted ∙ ap (λ (gs : List Game). with_games before (trees_in gs)) so_far.games_are

    -- one file more
    pub reads-more : (lost : Bool) → is_lost name ≡ lost → IsFileTold all path name now after outcome games games_after lost → ReadsBy all path is_lost (names ++ name ∷ []) before after lines lines_after games_after
    reads-more true is (IsFileTold.lost unread same none) = lost_more is unread same none
    reads-more false is (IsFileTold.read added) = read_more is added

-- ---- batch by batch

-- the next names that come in one batch
pub record IsBatch (batch : ℕ) (left chunk rest : List (List ℕ)) : Type 0 where
  pub cut : left ≡ chunk ++ rest
  pub some : 1 ≤ length chunk
  pub few : length chunk ≤ batch
  pub full : (rest ≡ []) ⊎ (length chunk ≡ batch)

pub batch-next : {A : Type 0} (name : A → List ℕ) (left chunk rest : List A) (size batch : ℕ) → left ≡ chunk ++ rest → length chunk ≡ min size (length left) → 0 < length left → size ≡ batch → 1 ≤ batch → IsBatch batch (map name left) (map name chunk) (map name rest)
batch-next name left chunk rest size batch cut long some same any =
    let counted = length-map chunk name in
    let whole : length left ≡ length chunk + length rest = ap length cut ∙ length-append chunk rest in record {
      cut = ap (map name) cut ∙ map-append name chunk rest;
      some = omega (arith, counted, long, some, same, any);
      few = omega (arith, counted, long, same);
      full = elim (cases_lt 0 (length rest)) [
        | inl more ↦ inr (omega (arith, counted, long, same, whole, more))
        | inr none ↦ inl (ap (map name) (nil_from_length rest (omega (arith, none))))
      ];
    }

module _ (all : List File) (path : List ℕ) (batch : ℕ) (some : 1 ≤ batch) (is_lost : List ℕ → Bool) (names : List (List ℕ)) (before : Kept) where
  pub files-start : (left : List (List ℕ)) (lines : List FileLine) → left ≡ names → lines ≡ [] → FilesTo all path batch is_lost names left before before lines
  files-start left lines all_left none = record {
    done = [];
    parts = sym all_left;
    files = [];
    unread = [];
    read = AreRead.nothing;
    named = refl;
    lost_are = refl;
    lines_are = ap line_reports none;
    ahead = sym (append-nil before.ahead) ∙ ap (λ (l : List Segment). before.ahead ++ l) (sym (segments_of-none batch some));
    held = refl;
    waiting = refl;
    counted = sym (with_games-none before.counts);
    whole = inr (0, omega arith);
  }

  module _ (left chunk rest : List (List ℕ)) (now after : Kept) (lines lines_after : List FileLine) (segment : List Game) (so_far : FilesTo all path batch is_lost names left before now lines)
      (read : ReadsBy all path is_lost chunk now.counts after.counts lines lines_after segment) (cut : left ≡ chunk ++ rest) (some_left : 1 ≤ length chunk) (few : length chunk ≤ batch) (full : (rest ≡ []) ⊎ (length chunk ≡ batch))
      (ahead : after.ahead ≡ now.ahead ++ segment ∷ []) (held : after.held ≡ now.held) (waiting : after.waiting ≡ now.waiting) where
    read_length : length read.files ≡ length chunk
    read_length = sym (length-map read.files (λ (f : ImportFile). f.report.name)) ∙ ap length read.named

    not_done : (left ≡ []) ⊎ ((k : ℕ) × (length so_far.files ≡ k * batch)) → (k : ℕ) × (length so_far.files ≡ k * batch)
    not_done (inl none) = absurd (omega (arith, some_left, ap length (sym none ∙ cut), length-append chunk rest))
    not_done (inr whole) = whole

    then_whole : (rest ≡ []) ⊎ (length chunk ≡ batch) → (rest ≡ []) ⊎ ((k : ℕ) × (length (so_far.files ++ read.files) ≡ k * batch))
    then_whole (inl none) = inl none
    then_whole (inr all_of) =
        let k = not_done so_far.whole in
        inr (suc k.0, omega (arith, length-append so_far.files read.files, k.1, read_length, all_of, suc-mul k.0 batch))

    -- one batch more
    pub files-more : FilesTo all path batch is_lost names rest before after lines_after
    files-more =
        let k = not_done so_far.whole in
        let more = segments-more batch so_far.files read.files k.0 k.1 (omega (arith, read_length, some_left)) (omega (arith, read_length, few)) in record {
          done = so_far.done ++ chunk;
          parts = so_far.parts ∙ ap (λ (l : List (List ℕ)). so_far.done ++ l) cut ∙ sym (append_assoc so_far.done chunk rest);
          files = so_far.files ++ read.files;
          unread = so_far.unread ++ read.unread;
          read = AreRead-then all path before.counts now.counts so_far.files so_far.unread so_far.read so_far.counted read.files read.unread read.read;
          named = map-append (λ (f : ImportFile). f.report.name) so_far.files read.files ∙ ap₂ (λ (a b : List (List ℕ)). a ++ b) so_far.named read.named;
          lost_are = ap₂ (λ (a b : List (List ℕ)). a ++ b) so_far.lost_are read.lost_are ∙ sym (filter-append is_lost so_far.done chunk);
          lines_are =
              read.lines_are
              ∙ ap (λ (l : List FileReport). l ++ reports_of read.files) so_far.lines_are
              ∙ sym (map-append (λ (f : ImportFile). f.report) so_far.files read.files);
          ahead =
              ahead
              ∙ ap₂ (λ (l : List Segment) (gs : List Game). l ++ gs ∷ []) so_far.ahead read.games_are
              ∙ append_assoc before.ahead (segments_of batch (Files so_far.files)) (games_of_files read.files ∷ [])
              ∙ ap (λ (l : List Segment). before.ahead ++ l) (sym more);
          held = held ∙ so_far.held;
          waiting = waiting ∙ so_far.waiting;
          counted =
              read.counted
              ∙ ap (λ (gs : List Game). with_games now.counts (trees_in gs)) read.games_are
              ∙ counts_after before.counts now.counts so_far.files read.files so_far.counted;
          whole = then_whole full;
        }
