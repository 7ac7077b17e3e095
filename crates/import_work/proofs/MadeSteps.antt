-- One step of an import of made games: the next of them become a segment.
use Prim.Native.Nat.{zero}
use Rattle.std.proofs.Common.{◌≡◌, ◌≢◌, ◌⊎◌, inl, inr, ℕ, suc, min, ◌+◌, ◌-◌, ◌*◌, ◌<◌, ◌≤◌, List, [], ◌∷◌, ◌++◌, Option, length, length-append, drop, replicate, take, append-nil, refl, sym, ap, ◌∙◌, subst, arith}
use Rattle.std.proofs.lemmas.Bool.{cases_lt}
use Rattle.std.proofs.lemmas.List.{drop-replicate, length-replicate, length-take, nil_from_length}
use Rattle.std.proofs.lemmas.List.FromFn.{length-map-range_with_len, map-range_with_len_more}
use Rattle.kb_edges.specs.Files.{File}
use Rattle.made_games.specs.Made.{made_tree}
use Rattle.made_games.proofs.MadeMoves.{made-nodes}
use Rattle.import_work.specs.Batches.{full_told}
use Rattle.import_work.specs.Course.{AreMade, HasMade, ImportFile, games_of_files, made_file, made_name, reports_of, trees_in}
use Rattle.import_work.specs.ImportFields.{state_with}
use Rattle.import_work.specs.Imports.{IsStep}
use Rattle.import_work.specs.Log.{Segment}
use Rattle.import_work.specs.Made.{AreAddedFirst, HasRoomForMade, made_game, made_games}
use Rattle.import_work.specs.Outcome.{HasRoom, IsAddedBy, games_after, nodes_after, nodes_of_trees, with_games}
use Rattle.import_work.specs.Rooms.{AreCountsWithinLimits}
use Rattle.import_work.specs.declared.import.Work.TheVariants as work
use Rattle.import_work.specs.declared.outcome.Counts.{Counts}
use Rattle.import_work.specs.declared.outcome.FileOutcome.TheVariants as file
use Rattle.import_work.specs.declared.report.ReportBody.TheVariants as report
use Rattle.import_work.specs.declared.source.Source.TheVariants as source
use Rattle.import_work.proofs.MadeFiles.{games-append, made-counted, made-one}
use Rattle.import_work.proofs.RoomLemmas.{trees_in-append, with_games-append, with_games-none}

module _ (start first : ℕ) (before : Counts) where
  game-more : (n : ℕ) → made_games start first (n + 1) ≡ made_games start first n ++ made_game start (first + n) ∷ []
  game-more n = map-range_with_len_more (made_game start) first n (first + n) refl

  -- a made game has 201 nodes
  one-game : (number : ℕ) → nodes_of_trees (made_tree start number ∷ []) ≡ 201
  one-game number = omega (arith, made-nodes start number)

  -- the counts with made games
  abbrev counts_with : ℕ → Counts
  counts_with n = record { games = before.games + n; nodes = before.nodes + n * 201 }

  pub counts-made : (n : ℕ) → with_games before (trees_in (made_games start first n)) ≡ counts_with n
  counts-made zero =
      let games : before.games ≡ before.games + 0 = omega arith in
      let nodes : before.nodes ≡ before.nodes + 0 * 201 = omega arith in
      with_games-none before ∙ ap (λ g. record { games = g; nodes = before.nodes }) games ∙ ap (λ d. record { games = before.games + 0; nodes = d }) nodes
  counts-made (suc n) =
      let number = first + n in
      let t = made_tree start number in
      let one : n + 1 ≡ suc n = omega arith in
      let own = counts_with n in
      let games : own.games + length (t ∷ []) ≡ before.games + suc n = omega arith in
      let nodes : own.nodes + nodes_of_trees (t ∷ []) ≡ before.nodes + suc n * 201 = omega (arith, one-game number) in
      ap (λ k. with_games before (trees_in (made_games start first k))) (sym one)
      ∙ ap (λ gs. with_games before (trees_in gs)) (game-more n)
      ∙ ap (with_games before) (trees_in-append (made_games start first n) (made_game start number ∷ []))
      ∙ sym (with_games-append before (trees_in (made_games start first n)) (t ∷ []))
      ∙ ap (λ (c : Counts). with_games c (t ∷ [])) (counts-made n)
      ∙ ap (λ g. record { games = g; nodes = own.nodes + nodes_of_trees (t ∷ []) }) games
      ∙ ap (λ d. record { games = before.games + suc n; nodes = d }) nodes

  -- these files are so many made games, of which the first so many are added
  record AreFirst (count added : ℕ) : Type 0 where
    files : List ImportFile
    made : AreMade start first before files
    many : length files ≡ count
    games : games_of_files files ≡ made_games start first added

  counts_of_first : (count added : ℕ) (h : AreFirst count added) → with_games before (trees_in (games_of_files h.files)) ≡ counts_with added
  counts_of_first count added h = ap (λ gs. with_games before (trees_in gs)) h.games ∙ counts-made added

  room-for : (n : ℕ) → HasRoomForMade before (n + 1) → HasRoom (counts_with n) (made_tree start (first + n) ∷ [])
  room-for n room = (omega (arith, room.0), omega (arith, room.1, one-game (first + n)))

  no-room-for : (n number : ℕ) → ¬ HasRoomForMade before (n + 1) → ¬ HasRoom (counts_with n) (made_tree start number ∷ [])
  no-room-for n number none room = none (omega (arith, room.0), omega (arith, room.1, one-game number))

  -- games for which there is room
  all-added : (n : ℕ) → (n ≡ 0) ⊎ HasRoomForMade before n → AreFirst n n
  all-added zero room = record { files = []; made = AreMade.nothing; many = refl; games = refl }
  all-added (suc n) (inl none) = absurd (omega (arith, none))
  all-added (suc n) (inr room) =
      let h = all-added n (fewer n room) in
      let counts = with_games before (trees_in (games_of_files h.files)) in
      let t = made_tree start (first + length h.files) in
      let one : n + 1 ≡ suc n = omega arith in
      let here : HasRoom counts (t ∷ []) =
      subst (λ k. HasRoom counts (made_tree start (first + k) ∷ [])) (sym h.many)
      (subst (λ (c : Counts). HasRoom c (made_tree start (first + n) ∷ [])) (sym (counts_of_first n n h)) (room-for n (omega (arith, room.0), omega (arith, room.1)))) in
      let f = made_file (first + length h.files) (file.Accepted (length (t ∷ []))) (t ∷ []) in record {
        files = h.files ++ f ∷ [];
        made = AreMade.one_more (file.Accepted (length (t ∷ []))) (t ∷ []) h.made (IsAddedBy.accepted here);
        many = length-append h.files (f ∷ []) ∙ omega (arith, h.many);
        games = games-append h.files (f ∷ []) ∙ ap (λ gs. games_of_files h.files ++ gs) (append-nil f.games)
            ∙ ap (λ gs. gs ++ f.games) h.games ∙ ap (λ k. made_games start first n ++ made_game start (first + k) ∷ []) h.many ∙ sym (game-more n) ∙ ap (made_games start first) one;
      }
    where
      fewer : (n : ℕ) → HasRoomForMade before (suc n) → (n ≡ 0) ⊎ HasRoomForMade before n
      fewer n room = inr (omega (arith, room.0), omega (arith, room.1))

  -- and games for which there is none
  then-full : (added : ℕ) → AreFirst added added → ¬ HasRoomForMade before (added + 1) → (n : ℕ) → AreFirst (added + n) added
  then-full added h none zero = record { files = h.files; made = h.made; many = omega (arith, h.many); games = h.games }
  then-full added h none (suc n) =
      let k = then-full added h none n in
      let number = first + length k.files in
      let counts = with_games before (trees_in (games_of_files k.files)) in
      let t = made_tree start number in
      let here : ¬ HasRoom counts (t ∷ []) = subst (λ (c : Counts). ¬ HasRoom c (t ∷ [])) (sym (counts_of_first (added + n) added k)) (no-room-for added number none) in
      let f = made_file number (file.Full (games_after counts (t ∷ [])) (nodes_after counts (t ∷ []))) [] in record {
        files = k.files ++ f ∷ [];
        made = AreMade.one_more (file.Full (games_after counts (t ∷ [])) (nodes_after counts (t ∷ []))) [] k.made (IsAddedBy.full here);
        many = length-append k.files (f ∷ []) ∙ omega (arith, k.many);
        games = games-append k.files (f ∷ []) ∙ append-nil (games_of_files k.files) ∙ k.games;
      }

  -- so many games, of which as many are added as there is room for
  are-first : (count added : ℕ) → added ≤ count → (added ≡ 0) ⊎ HasRoomForMade before added → (added < count → ¬ HasRoomForMade before (added + 1)) → AreFirst count added
  are-first count added few room most = elim (cases_lt added count) [
    | inl fewer ↦
        let all : added + (count - added) ≡ count = omega (arith, fewer) in
        subst (λ n. AreFirst n added) all (then-full added (all-added added room) (most fewer) (count - added))
    | inr whole ↦
        let all : added ≡ count = omega (arith, few, whole) in
        subst (λ n. AreFirst n added) all (all-added added room)
  ]

-- ---- all of them

-- there is room for made games, or there is none
room-made-or-none : (before : Counts) (count : ℕ) → HasRoomForMade before count ⊎ (¬ HasRoomForMade before count)
room-made-or-none before count = elim (cases_lt 400000 (before.games + count)) [
  | inl many ↦ inr (λ room. omega (arith, many, room.0))
  | inr few ↦ elim (cases_lt 67108864 (before.nodes + count * 201)) [
    | inl many ↦ inr (λ room. omega (arith, many, room.1))
    | inr fit ↦ inl (few, fit)
  ]
]

-- the greatest number of them for which there is room
record IsMost (before : Counts) (games : ℕ) : Type 0 where
  added : ℕ
  few : added ≤ games
  room : (added ≡ 0) ⊎ HasRoomForMade before added
  most : added < games → ¬ HasRoomForMade before (added + 1)

most-found : (before : Counts) (games : ℕ) → IsMost before games
most-found before zero = record { added = 0; few = omega arith; room = inl refl; most = λ lt. absurd (omega (arith, lt)) }
most-found before (suc games) =
    let h = most-found before games in
    elim (cases_lt h.added games) [
      | inl fewer ↦ record { added = h.added; few = omega (arith, fewer); room = h.room; most = λ lt. h.most fewer }
      | inr all ↦ elim (room-made-or-none before (suc games)) [
        | inl room ↦ record { added = suc games; few = omega arith; room = inr room; most = λ lt. absurd (omega (arith, lt)) }
        | inr none ↦ record {
          added = h.added;
          few = omega (arith, h.few);
          room = h.room;
          most = λ lt more. none (omega (arith, more.0, all, h.few), omega (arith, more.1, all, h.few));
        }
      ]
    ]

-- the games that are added are the first ones, as many as there is room for
pub added-first : (games seed : ℕ) (before : Counts) (files : List ImportFile) → HasMade games seed before files → (added : ℕ) × AreAddedFirst seed games added before (games_of_files files)
added-first games seed before files h =
    let m = most-found before games in
    let own = are-first seed 0 before games m.added m.few m.room m.most in
    let same : files ≡ own.files = made-one seed 0 before files own.files h.made own.made (h.all ∙ sym own.many) in
    (m.added, record { few = m.few; found_are = ap games_of_files same ∙ own.games; room = m.room; most = m.most })

module _ (games start added full batch count fit : ℕ) (before : Counts) (segment : Segment) where
  -- the next made games become a segment
  pub made_taken : 1 ≤ batch → added + full < games → count ≡ min (games - (added + full)) batch → fit ≤ count → (fit ≡ 0) ⊎ HasRoomForMade before fit → (fit < count → ¬ HasRoomForMade before (fit + 1)) → segment ≡ made_games start (added + full) fit →
      (told : Option (List File)) (faults line number given : ℕ) →
      IsStep told batch (state_with (work.Made (record { games = games; start = start; added = added; full = full })) line number before given)
      (state_with (work.Made (record { games = games; start = start; added = added + fit; full = full + (count - fit) })) line number (record { games = before.games + fit; nodes = before.nodes + fit * 201 }) (given + 1)) segment faults faults
  made_taken any some count_is few room most made told faults line number given =
      let first = added + full in
      let left : ℕ = games - first in
      let h = are-first start first before count fit few room most in
      let own : length segment ≡ fit = ap length made ∙ length-map-range_with_len (made_game start) first fit in
      let games_are : segment ≡ games_of_files h.files = made ∙ sym h.games in
      let fuller : full_told (reports_of h.files) ≡ count - fit = omega (arith, made-counted start first before h.files h.made, h.many, ap length games_are, own) in
      let taken : length (take batch (replicate left made_name)) ≡ min batch left = length-take batch (replicate left made_name) ∙ ap (min batch) (length-replicate left made_name) in
      let rest : replicate (games - (added + fit + (full + (count - fit)))) made_name ≡ drop batch (replicate left made_name) =
      ap (λ n. replicate n made_name) (left_over games first added full fit batch count left refl refl count_is few some) ∙ sym (drop-replicate batch left made_name) in
      let counts : record { games = before.games + fit; nodes = before.nodes + fit * 201 } ≡ with_games before (trees_in segment) =
      sym (ap (λ gs. with_games before (trees_in gs)) made ∙ counts-made start first before fit) in
      let told_now : report.Made (added + fit) (full + (count - fit)) ≡ report.Made (added + length segment) (full + full_told (reports_of h.files)) =
      ap (λ n. report.Made (added + n) (full + (count - fit))) (sym own) ∙ ap (λ n. report.Made (added + length segment) (full + n)) (sym fuller) in
      IsStep.of_made games start (record {
        added = added;
        full = full;
        files = h.files;
        made_from = refl;
        some = λ none. omega (arith, some, sym (length-replicate left made_name) ∙ ap length none);
        told = refl;
        many = omega (arith, h.many, taken, count_is);
        made = h.made;
        segment_is = games_are;
        goes_on = λ i. record { source = source.Made games start; line = line; number = number; left = rest i; body = told_now i; counts = counts i; given = given + 1 };
        room = λ some_game. within room own some_game;
      }) refl
    where
      left_over : (games first added full fit batch count left : ℕ) → first ≡ added + full → left ≡ games - first → count ≡ min left batch → fit ≤ count → first < games → games - (added + fit + (full + (count - fit))) ≡ left - batch
      left_over games first added full fit batch count left is left_is count_is few some = elim (cases_lt left batch) [
        | inl less ↦ omega (arith, is, left_is, count_is, few, some, less)
        | inr more ↦ omega (arith, is, left_is, count_is, few, some, more)
      ]

      within : (fit ≡ 0) ⊎ HasRoomForMade before fit → length segment ≡ fit → segment ≢ [] → AreCountsWithinLimits (record { games = before.games + fit; nodes = before.nodes + fit * 201 })
      within (inl none) own some_game = absurd (some_game (nil_from_length segment (own ∙ none)))
      within (inr room) own some_game = (room.0, room.1)
