-- Files that are read behind others, and the files that weren't read.
use Rattle.std.proofs.Common.{◌≡◌, ℕ, List, [], ◌∷◌, ◌++◌, Some, length, length-append, append-nil, append_assoc, refl, sym, ap, ◌∙◌, subst, arith}
use Rattle.std.specs.Prelude.{All}
use Rattle.std.proofs.lemmas.Grind.{flat_map-append}
use Rattle.std.proofs.lemmas.List.{map_push}
use Rattle.std.proofs.Math.Seq.{drop-append_seam}
use Rattle.std.proofs.lemmas.List.Elements.{All-append, All-drop, All-head, All-nil}
use Rattle.kb_geometry.proofs.Lists.{All-before}
use Rattle.kb_edges.specs.Faults.{RoseBy}
use Rattle.kb_edges.specs.Files.{File, HasFile}
use Rattle.import_work.specs.Batches.{AreLost, ArePaid, unread_in}
use Rattle.import_work.specs.Course.{AreRead, ImportFile, games_of_files, import_file, names_of, reports_of, trees_in}
use Rattle.import_work.specs.Outcome.{IsOutcome, with_games}
use Rattle.import_work.specs.declared.outcome.Counts.{Counts}
use Rattle.import_work.specs.declared.outcome.FileOutcome.TheVariants as file
use Rattle.import_work.proofs.RoomLemmas.{read-not_unread, trees_in-append, with_games-append}
use Rattle.import_work.proofs.Turns.{one_given, one_unread, unread_with}

-- what holds of all holds of the last ones
pub All_behind : {X : Type 0} (P : X → Type 0) (xs ys : List X) → All P (xs ++ ys) → All P ys
All_behind P xs ys each = subst (All P) (drop-append_seam xs ys) (All-drop P (length xs) (xs ++ ys) each)

-- the counts of a base with the games of these files, and of more files
pub counts_after : (base after : Counts) (files more : List ImportFile) → after ≡ with_games base (trees_in (games_of_files files)) → with_games after (trees_in (games_of_files more)) ≡ with_games base (trees_in (games_of_files (files ++ more)))
counts_after base after files more is =
    let games = games_of_files files in
    let behind = games_of_files more in
    ap (λ (c : Counts). with_games c (trees_in behind)) is
    ∙ with_games-append base (trees_in games) (trees_in behind)
    ∙ ap (with_games base) (sym (trees_in-append games behind) ∙ ap trees_in (sym (flat_map-append (λ (f : ImportFile). f.games) files more)))

module _ (all : List File) (path : List ℕ) (base after : Counts) (files : List ImportFile) (unread : List (List ℕ)) (so_far : AreRead all path base files unread) (is : after ≡ with_games base (trees_in (games_of_files files))) where
  -- files are read, and then more files in the base with their games
  pub AreRead-then : (more : List ImportFile) (lost : List (List ℕ)) → AreRead all path after more lost → AreRead all path base (files ++ more) (unread ++ lost)
  AreRead-then _ _ AreRead.nothing = rw (append-nil files, append-nil unread) so_far
  AreRead-then _ _ (AreRead.read {files = before} {unread = lost} name bytes outcome trees h content judged) =
      subst (λ fs. AreRead all path base fs (unread ++ lost)) (append_assoc files before _)
      (AreRead.read name bytes outcome trees (AreRead-then before lost h) content
      (subst (λ (c : Counts). IsOutcome bytes c outcome trees) (counts_after base after files before is) judged))
  AreRead-then _ _ (AreRead.not_read {files = before} {unread = lost} name h) =
      subst (λ fs. AreRead all path base fs (unread ++ (lost ++ name ∷ []))) (append_assoc files before _)
      (subst (λ us. AreRead all path base ((files ++ before) ++ import_file name file.Unread [] ∷ []) us) (append_assoc unread lost (name ∷ []))
      (AreRead.not_read name (AreRead-then before lost h)))

module _ (all : List File) (path : List ℕ) (before : Counts) where
  -- the files that weren't read are those that the report tells so
  pub unread_told : (files : List ImportFile) (unread : List (List ℕ)) → AreRead all path before files unread → unread ≡ unread_in (reports_of files)
  unread_told _ _ AreRead.nothing = refl
  unread_told _ _ (AreRead.read {files = files} {unread = unread} name bytes outcome trees h content is) =
      let f = import_file name outcome trees in
      sym (append-nil unread)
      ∙ ap (λ us. us ++ []) (unread_told files unread h)
      ∙ ap (λ us. unread_in (reports_of files) ++ us) (sym (one_given name outcome (read-not_unread bytes _ outcome trees is)))
      ∙ sym (unread_with (reports_of files) name outcome)
      ∙ ap unread_in (sym (map_push (λ (g : ImportFile). g.report) files f))
  unread_told _ _ (AreRead.not_read {files = files} {unread = unread} name h) =
      let f = import_file name file.Unread [] in
      ap (λ us. us ++ name ∷ []) (unread_told files unread h)
      ∙ ap (λ us. unread_in (reports_of files) ++ us) (sym (one_unread name file.Unread refl))
      ∙ sym (unread_with (reports_of files) name file.Unread)
      ∙ ap unread_in (sym (map_push (λ (g : ImportFile). g.report) files f))

  -- they are some of the files
  pub unread_among : (P : List ℕ → Type 0) (files : List ImportFile) (unread : List (List ℕ)) → AreRead all path before files unread → All P (names_of files) → All P unread
  unread_among P _ _ AreRead.nothing each = All-nil P
  unread_among P _ _ (AreRead.read {files = files} {unread = unread} name bytes outcome trees h content is) each =
      unread_among P files unread h
      (All-before P (names_of files) (name ∷ []) (subst (All P) (map_push (λ (g : ImportFile). g.report.name) files (import_file name outcome trees)) each))
  unread_among P _ _ (AreRead.not_read {files = files} {unread = unread} name h) each =
      let both : All P (names_of files ++ name ∷ []) = subst (All P) (map_push (λ (g : ImportFile). g.report.name) files (import_file name file.Unread [])) each in
      All-append P unread (name ∷ []) (unread_among P files unread h (All-before P (names_of files) (name ∷ []) both)) (All_behind P (names_of files) (name ∷ []) both)

-- where each of the files is there, all that weren't read were lost
pub all_lost : (all : List File) (path : List ℕ) (unread : List (List ℕ)) (count : ℕ) → AreLost (Some all) path unread count → All (HasFile all path) unread → count ≡ length unread
all_lost all path _ _ AreLost.none there = refl
all_lost all path _ _ (AreLost.lost {names = names} {count = count} name are) there =
    let so_far = all_lost all path names count are (All-before (HasFile all path) names (name ∷ []) there) in
    rw length-append (omega (arith, so_far))
all_lost all path _ _ (AreLost.absent {names = names} {count = count} name files is away are) there =
    let same : all ≡ files = cc in
    absurd (away (subst (λ fs. HasFile fs path name) same (All-head (HasFile all path) name [] (All_behind (HasFile all path) names (name ∷ []) there))))

-- so the count of faults rose by as many
pub paid_there : (all : List File) (path : List ℕ) (unread : List (List ℕ)) (first now : ℕ) → ArePaid (Some all) path unread first now → All (HasFile all path) unread → RoseBy (length unread) first now
paid_there all path unread first now (count, are, paid) there = subst (λ n. RoseBy n first now) (all_lost all path unread count are there) paid
