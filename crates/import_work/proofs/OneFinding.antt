-- By one entry of the course an import finds one thing alone.
use Rattle.std.proofs.Common.{◌≡◌, inl, inr, ℕ, false, List, [], ◌∷◌, ◌++◌, Some, get_or, length, take, refl, sym, ap, ◌∙◌, subst, arith}
use Rattle.std.specs.Prelude.{All, AllPairs}
use Rattle.std.proofs.lemmas.Bool.{false≢true}
use Rattle.std.proofs.lemmas.List.{length-map, map_push}
use Rattle.std.proofs.lemmas.List.Elements.{All-head, Contains-get_or}
use Rattle.kb_edges.specs.Files.{File, HasPath}
use Rattle.game_tree.specs.Tree.{Tree}
use Rattle.game_tree.proofs.Parts.{AllPairs-across, AllPairs-front}
use Rattle.kb_geometry.proofs.Lists.{Contains-first, push_not_nil, push_same}
use Rattle.import_work.specs.Course.{AreRead, Files, Finding, FindsFiles, HasTooMany, ImportCourse, ImportFile, IsContent, IsImported, IsUnlisted, Made, TooMany, Unlisted, games_of_files, import_file, names_of, trees_in}
use Rattle.import_work.specs.Outcome.{IsOutcome, with_games}
use Rattle.import_work.specs.declared.outcome.Counts.{Counts}
use Rattle.import_work.specs.declared.outcome.FileOutcome.{FileOutcome}
use Rattle.import_work.specs.declared.outcome.FileOutcome.TheVariants as file
use Rattle.import_work.specs.declared.source.Source.{Source}
use Rattle.import_work.specs.declared.source.Source.TheVariants as source
use Rattle.import_work.proofs.MadeFiles.{made-one}
use Rattle.import_work.proofs.NamesExist.{IsBefore, names-one, names_opposed}
use Rattle.import_work.proofs.OutcomesExist.{outcome-one}
use Rattle.import_work.proofs.ReadFiles.{All_behind, unread_among}

-- the name of a file
abbrev name_of : ImportFile → List ℕ
name_of f = f.report.name

-- the names of files, and of one more
names-push : (files more : List ImportFile) (f g : ImportFile) → names_of (files ++ f ∷ []) ≡ names_of (more ++ g ∷ []) → (names_of files ≡ names_of more) × (name_of f ≡ name_of g)
names-push files more f g same =
    push_same (names_of files) (names_of more) (name_of f) (name_of g)
    (sym (map_push name_of files f) ∙ same ∙ map_push name_of more g)

module _ (all : List File) (path : List ℕ) (before : Counts) where
  -- the bytes of a file are one text
  content-one : (name a b : List ℕ) → IsContent all path name a → IsContent all path name b → a ≡ b
  content-one name a b one other =
      let both : Some one.0 ≡ Some other.0 = sym one.1 ∙ other.1 in
      let same : one.0 ≡ other.0 = cc in
      one.2 ∙ ap (take 16777217) same ∙ sym other.2

  -- one file after the same files is the same
  file-one : (files : List ImportFile) (name a b : List ℕ) (x y : FileOutcome) (xs ys : List Tree) →
      IsContent all path name a → IsContent all path name b →
      IsOutcome a (with_games before (trees_in (games_of_files files))) x xs →
      IsOutcome b (with_games before (trees_in (games_of_files files))) y ys →
      import_file name x xs ≡ import_file name y ys
  file-one files name a b x y xs ys content also one other =
      let counts = with_games before (trees_in (games_of_files files)) in
      let bytes = content-one name a b content also in
      let same = outcome-one b counts x y xs ys (subst (λ c. IsOutcome c counts x xs) bytes one) other in
      ap (λ o. import_file name o xs) same.0 ∙ ap (λ ts. import_file name y ts) same.1

  -- in order, each name once, no file is unread that bears the name of a later one
  not_named : (files : List ImportFile) (unread lost : List (List ℕ)) (name : List ℕ) → AreRead all path before files unread → AllPairs IsBefore (names_of files ++ name ∷ []) → unread ≡ lost ++ name ∷ [] → ⊥
  not_named files unread lost name h order same =
      let earlier : All (λ n. IsBefore n name) (names_of files) =
      λ k d below. AllPairs-across IsBefore (names_of files) (name ∷ []) (get_or (names_of files) k d) name order (Contains-get_or (names_of files) k d below) (Contains-first name []) in
      let each : All (λ n. IsBefore n name) (lost ++ name ∷ []) = subst (All (λ n. IsBefore n name)) same (unread_among all path before (λ n. IsBefore n name) files unread h earlier) in
      let itself : IsBefore name name = All-head (λ n. IsBefore n name) name [] (All_behind (λ n. IsBefore n name) lost (name ∷ []) each) in
      names_opposed name name itself itself

  files-one : (files more : List ImportFile) (unread lost : List (List ℕ)) → AreRead all path before files unread → AreRead all path before more lost → AllPairs IsBefore (names_of files) → unread ≡ lost → names_of files ≡ names_of more → files ≡ more
  files-one _ _ _ _ AreRead.nothing AreRead.nothing order same_lost same = refl
  files-one _ _ _ _ AreRead.nothing (AreRead.read {files} name bytes outcome trees h content is) order same_lost same =
      absurd (push_not_nil (names_of files) name (same ∙ map_push name_of files (import_file name outcome trees)))
  files-one _ _ _ _ AreRead.nothing (AreRead.not_read {unread} name h) order same_lost same = absurd (push_not_nil unread name same_lost)
  files-one _ _ _ _ (AreRead.not_read {unread} name h) AreRead.nothing order same_lost same = absurd (push_not_nil unread name (sym same_lost))
  files-one _ _ _ _ (AreRead.not_read {files} {unread} name h) (AreRead.not_read {files = more} {unread = lost} last k) order same_lost same =
      let f = import_file name file.Unread [] in
      let names = names-push files more f (import_file last file.Unread []) same in
      let first = files-one files more unread lost h k (AllPairs-front IsBefore (names_of files) (name ∷ []) (subst (AllPairs IsBefore) (map_push name_of files f) order)) (push_same unread lost name last same_lost).0 names.0 in
      ap (λ fs. fs ++ f ∷ []) first ∙ ap (λ n. more ++ import_file n file.Unread [] ∷ []) names.1
  files-one _ _ _ _ (AreRead.not_read {files} {unread} name h) (AreRead.read {files = more} {unread = lost} last text kind games k also is_too) order same_lost same =
      let g = import_file last kind games in
      let names = names-push files more (import_file name file.Unread []) g same in
      absurd (not_named more lost unread last k (subst (AllPairs IsBefore) (same ∙ map_push name_of more g) order) (sym same_lost ∙ ap (λ n. unread ++ n ∷ []) names.1))
  files-one _ _ _ _ (AreRead.read {files} name bytes outcome trees h content is) AreRead.nothing order same_lost same =
      absurd (push_not_nil (names_of files) name (sym same ∙ map_push name_of files (import_file name outcome trees)))
  files-one _ _ _ _ (AreRead.read {files} {unread} name bytes outcome trees h content is) (AreRead.not_read {files = more} {unread = lost} last k) order same_lost same =
      let f = import_file name outcome trees in
      let names = names-push files more f (import_file last file.Unread []) same in
      absurd (not_named files unread lost name h (subst (AllPairs IsBefore) (map_push name_of files f) order) (same_lost ∙ ap (λ n. lost ++ n ∷ []) (sym names.1)))
  files-one _ _ _ _ (AreRead.read {files} {unread} name bytes outcome trees h content is) (AreRead.read {files = more} {unread = lost} last text kind games k also is_too) order same_lost same =
      let f = import_file name outcome trees in
      let g = import_file last kind games in
      let names = names-push files more f g same in
      let first = files-one files more unread lost h k (AllPairs-front IsBefore (names_of files) (name ∷ []) (subst (AllPairs IsBefore) (map_push name_of files f) order)) same_lost names.0 in
      let one = file-one more last bytes text outcome kind trees games
      (subst (λ n. IsContent all path n bytes) names.1 content) also
      (subst (λ fs. IsOutcome bytes (with_games before (trees_in (games_of_files fs))) outcome trees) first is) is_too in
      ap (λ fs. fs ++ f ∷ []) first ∙ ap (λ n. more ++ import_file n outcome trees ∷ []) names.1 ∙ ap (λ i. more ++ i ∷ []) one

  -- an import that is unlisted, and not as a loss, has no path
  no_path : (entry : ImportCourse) → IsUnlisted all path entry → entry.unlisted ≡ false → ¬ HasPath all path
  no_path entry (inl (lost, there), none) listed = absurd (false≢true (sym listed ∙ lost))
  no_path entry (inr (kept, gone), none) listed = gone

  -- it can't have too many names and few ones
  not_few : (entry : ImportCourse) (count : ℕ) (files : List ImportFile) → HasTooMany all path count → FindsFiles all path before entry files → ⊥
  not_few entry count files many few =
      let same : length many.names ≡ length files = ap length (names-one all path many.names (names_of files) many.are_names few.names) ∙ length-map files name_of in
      omega (arith, many.counted, many.many, few.few, same)

  -- where there are too many names, nothing is lost
  not_lost : (entry : ImportCourse) (count : ℕ) → IsImported all (source.Under path) before entry (TooMany count) → entry.unlisted ≡ false
  not_lost entry count is = ap (λ (e : ImportCourse). e.unlisted) is.1

  finding_under-one : (entry : ImportCourse) (a b : Finding) → IsImported all (source.Under path) before entry a → IsImported all (source.Under path) before entry b → a ≡ b
  finding_under-one entry Unlisted Unlisted one other = refl
  finding_under-one entry Unlisted (TooMany n) one other = absurd (no_path entry one (not_lost entry n other) other.0.path_there)
  finding_under-one entry Unlisted (Files files) one other = absurd (no_path entry one other.listed other.path_there)
  finding_under-one entry (TooMany m) Unlisted one other = absurd (no_path entry other (not_lost entry m one) one.0.path_there)
  finding_under-one entry (TooMany m) (TooMany n) one other =
      ap TooMany (one.0.counted ∙ ap length (names-one all path one.0.names other.0.names one.0.are_names other.0.are_names) ∙ sym other.0.counted)
  finding_under-one entry (TooMany m) (Files files) one other = absurd (not_few entry m files one.0 other)
  finding_under-one entry (Files files) Unlisted one other = absurd (no_path entry other one.listed one.path_there)
  finding_under-one entry (Files files) (TooMany n) one other = absurd (not_few entry n files other.0 one)
  finding_under-one entry (Files files) (Files more) one other =
      ap Files (files-one files more entry.unread entry.unread one.read other.read one.names.ascending refl (names-one all path (names_of files) (names_of more) one.names other.names))
  finding_under-one entry Unlisted (Made files) one other = absurd other
  finding_under-one entry (TooMany m) (Made files) one other = absurd other
  finding_under-one entry (Files files) (Made more) one other = absurd other
  finding_under-one entry (Made files) b one other = absurd one

finding_made-one : (all : List File) (games seed : ℕ) (before : Counts) (entry : ImportCourse) (a b : Finding) → IsImported all (source.Made games seed) before entry a → IsImported all (source.Made games seed) before entry b → a ≡ b
finding_made-one all games seed before entry (Made files) (Made more) one other = ap Made (made-one seed 0 before files more one.0.made other.0.made (one.0.all ∙ sym other.0.all))
finding_made-one all games seed before entry Unlisted b one other = absurd one
finding_made-one all games seed before entry (TooMany m) b one other = absurd one
finding_made-one all games seed before entry (Files files) b one other = absurd one
finding_made-one all games seed before entry (Made files) Unlisted one other = absurd other
finding_made-one all games seed before entry (Made files) (TooMany n) one other = absurd other
finding_made-one all games seed before entry (Made files) (Files more) one other = absurd other

pub finding-one : (all : List File) (from : Source) (before : Counts) (entry : ImportCourse) (a b : Finding) → IsImported all from before entry a → IsImported all from before entry b → a ≡ b
finding-one all (source.Under path) before entry a b one other = finding_under-one all path before entry a b one other
finding-one all (source.Made games seed) before entry a b one other = finding_made-one all games seed before entry a b one other
