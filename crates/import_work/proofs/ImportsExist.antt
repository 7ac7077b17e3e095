-- Each import can find something, whatever is lost and where nothing is, and the games that it adds
-- are trees.
use Rattle.std.proofs.Common.{◌≡◌, inl, inr, ℕ, ◌+◌, ◌-◌, ◌*◌, ◌/◌, Bool, true, false, cond, List, [], ◌∷◌, ◌++◌, Option, Some, None, length, take, drop, refl, sym, ap, ◌∙◌, subst, append_assoc, arith}
use Rattle.std.specs.Prelude.{All, filter}
use Rattle.std.proofs.lemmas.Bool.{cases_lt, false≢true}
use Rattle.std.proofs.lemmas.Grind.{flat_map-append}
use Rattle.std.proofs.lemmas.List.{append-nil, length-map, map_push, take-append-drop}
use Rattle.std.proofs.lemmas.List.Elements.{All-append, All-cons, All-head, All-nil, All-tail, filter-append}
use Rattle.kb_geometry.proofs.Lists.{All-before}
use Rattle.kb_edges.specs.Files.{File, HasFile, HasPath, content_of}
use Rattle.game_tree.specs.Tree.{IsTree, Tree}
use Rattle.node_position.specs.Games.{Game}
use Rattle.made_games.specs.Made.{made_tree}
use Rattle.made_games.proofs.MadeMoves.{made-tree}
use Rattle.import_work.specs.Course.{AreMade, AreNames, AreRead, Files, Finding, FindsBy, ImportCourse, ImportFile, IsImported, Made, TooMany, Unlisted, games_from, games_of_files, import_file, made_file, made_name, names_found, names_of, nothing_lost, trees_in}
use Rattle.import_work.specs.Log.{games_of_segments, segments_of}
use Rattle.import_work.specs.Outcome.{IsAddedBy, with_games}
use Rattle.import_work.specs.declared.outcome.Counts.{Counts}
use Rattle.import_work.specs.declared.outcome.FileOutcome.{FileOutcome}
use Rattle.import_work.specs.declared.source.Source.{Source}
use Rattle.import_work.specs.declared.source.Source.TheVariants as source
use Rattle.import_work.proofs.MadeFiles.{made-found}
use Rattle.import_work.proofs.FileLemmas.{content_of-there}
use Rattle.import_work.proofs.NameLemmas.{AreNames-there, has_path_or_none}
use Rattle.import_work.proofs.SegmentLemmas.{pieces_joined}
use Rattle.import_work.proofs.NamesExist.{names-exist}
use Rattle.import_work.proofs.OutcomesExist.{outcome-found, outcome-trees}

-- a test that no name passes
pub filter-none : (names : List (List ℕ)) → filter (λ (name : List ℕ). false) names ≡ []
filter-none [] = refl
filter-none (name ∷ names) = filter-none names

-- these files are read, and then those of these names but for those that pass the test
pub record AllRead (all : List File) (path : List ℕ) (before : Counts) (files : List ImportFile) (unread : List (List ℕ)) (is_lost : List ℕ → Bool) (names : List (List ℕ)) : Type 0 where
  pub more : List ImportFile
  pub read : AreRead all path before (files ++ more) (unread ++ filter is_lost names)
  pub named : names_of more ≡ names

module _ (all : List File) (path : List ℕ) (before : Counts) (files : List ImportFile) (unread : List (List ℕ)) (is_lost : List ℕ → Bool) where
  abbrev Reads : List (List ℕ) → Type 0
  Reads names = AllRead all path before files unread is_lost names

  -- the names that pass the test, with one more
  filter-push : (names : List (List ℕ)) (name : List ℕ) (b : Bool) → is_lost name ≡ b → filter is_lost (names ++ name ∷ []) ≡ filter is_lost names ++ cond b (name ∷ []) []
  filter-push names name b is = filter-append is_lost names (name ∷ []) ∙ ap (λ r. filter is_lost names ++ cond r (name ∷ []) []) is

  -- one file more is read
  one-read : (names : List (List ℕ)) (name : List ℕ) (content : Option (List ℕ)) → content_of all path name ≡ content → HasFile all path name → is_lost name ≡ false → Reads names → Reads (names ++ name ∷ [])
  one-read names name None is there kept h = absurd (content_of-there all path name there is)
  one-read names name (Some whole) is there kept h =
      let bytes = take 16777217 whole in
      let found = outcome-found bytes (with_games before (trees_in (games_of_files (files ++ h.more)))) in
      let f = import_file name found.0 found.1 in
      let same : filter is_lost names ≡ filter is_lost (names ++ name ∷ []) = sym (filter-push names name false kept ∙ append-nil (filter is_lost names)) in record {
        more = h.more ++ f ∷ [];
        read =
            subst (λ us. AreRead all path before (files ++ (h.more ++ f ∷ [])) (unread ++ us)) same
            (subst (λ fs. AreRead all path before fs (unread ++ filter is_lost names)) (append_assoc files h.more (f ∷ [])) (AreRead.read name bytes found.0 found.1 h.read (whole, is, refl) found.2));
        named = map_push (λ (g : ImportFile). g.report.name) h.more f ∙ ap (λ ns. ns ++ name ∷ []) h.named;
      }

  -- one file more isn't read
  one-unread : (names : List (List ℕ)) (name : List ℕ) → is_lost name ≡ true → Reads names → Reads (names ++ name ∷ [])
  one-unread names name lost h =
      let f = import_file name FileOutcome.Unread [] in
      let same : (unread ++ filter is_lost names) ++ name ∷ [] ≡ unread ++ filter is_lost (names ++ name ∷ []) =
      append_assoc unread (filter is_lost names) (name ∷ []) ∙ ap (λ us. unread ++ us) (sym (filter-push names name true lost)) in record {
        more = h.more ++ f ∷ [];
        read =
            subst (λ us. AreRead all path before (files ++ (h.more ++ f ∷ [])) us) same
            (subst (λ fs. AreRead all path before fs ((unread ++ filter is_lost names) ++ name ∷ [])) (append_assoc files h.more (f ∷ [])) (AreRead.not_read name h.read));
        named = map_push (λ (g : ImportFile). g.report.name) h.more f ∙ ap (λ ns. ns ++ name ∷ []) h.named;
      }

  next-read : (names : List (List ℕ)) (name : List ℕ) (b : Bool) → is_lost name ≡ b → HasFile all path name → Reads names → Reads (names ++ name ∷ [])
  next-read names name true is there h = one-unread names name is h
  next-read names name false is there h = one-read names name (content_of all path name) refl there is h

  -- files are read one after another
  each-read : (names more : List (List ℕ)) → All (HasFile all path) more → Reads names → Reads (names ++ more)
  each-read names [] there h = subst Reads (sym (append-nil names)) h
  each-read names (name ∷ more) there h =
      let next = next-read names name (is_lost name) refl (All-head (HasFile all path) name more there) h in
      subst Reads (append_assoc names (name ∷ []) more)
      (each-read (names ++ name ∷ []) more (All-tail (HasFile all path) name more there) next)

  pub all-read : (names : List (List ℕ)) → All (HasFile all path) names → AreRead all path before files unread → AllRead all path before files unread is_lost names
  all-read names there so_far =
      let none = subst (AreRead all path before files) (sym (append-nil unread)) so_far in
      each-read [] names there (record { more = []; read = subst (λ fs. AreRead all path before fs (unread ++ [])) (sym (append-nil files)) none; named = refl })

module _ (all : List File) (path : List ℕ) (before : Counts) (is_lost : List ℕ → Bool) where
  abbrev Finds : Bool → Type 0
  Finds lost = FindsBy all (source.Under path) before lost is_lost

  -- an import whose path isn't there
  no-path : (lost : Bool) → ¬ HasPath all path → Finds lost
  no-path lost none = record {
    entry = nothing_lost;
    finding = Unlisted;
    imported = (inr (refl, none), refl);
    unlisted = (λ e. absurd (false≢true e), λ h. absurd (none h.1));
    unread = refl;
  }

  -- an import that is lost as a whole
  whole-lost : HasPath all path → Finds true
  whole-lost there = record {
    entry = record { unlisted = true; unread = [] };
    finding = Unlisted;
    imported = (inl (refl, there), refl);
    unlisted = (λ e. (refl, there), λ h. refl);
    unread = refl;
  }

  -- an import whose names are these
  import-named : (names : List (List ℕ)) → HasPath all path → AreNames all path names → Finds false
  import-named names there are = elim (cases_lt 100000 (length names)) [
    | inl many ↦ record {
      entry = nothing_lost;
      finding = TooMany (length names);
      imported = (record { names = names; path_there = there; are_names = are; counted = refl; many = many }, refl);
      unlisted = (λ e. absurd (false≢true e), λ h. absurd (false≢true h.0));
      unread = refl;
    }
    | inr few ↦
        let h = all-read all path before [] [] is_lost names (AreNames-there all path names are) AreRead.nothing in
        let counted : length h.more ≡ length names = sym (length-map h.more (λ (f : ImportFile). f.report.name)) ∙ ap length h.named in record {
          entry = record { unlisted = false; unread = filter is_lost names };
          finding = Files h.more;
          imported = record { path_there = there; names = subst (AreNames all path) (sym h.named) are; few = omega (arith, counted, few); read = h.read; listed = refl };
          unlisted = (λ e. absurd (false≢true e), λ k. absurd (false≢true k.0));
          unread = ap (filter is_lost) (sym h.named);
        }
  ]

  path-found : (lost : Bool) → Finds lost
  path-found true = elim (has_path_or_none all path) [
    | inl has ↦ whole-lost has
    | inr none ↦ no-path true none
  ]
  path-found false = elim (has_path_or_none all path) [
    | inl has ↦ let names = names-exist all path in import-named names.0 has names.1
    | inr none ↦ no-path false none
  ]

-- an import finds something, whatever is lost
pub import-found : (all : List File) (from : Source) (before : Counts) (lost : Bool) (is_lost : List ℕ → Bool) → FindsBy all from before lost is_lost
import-found all (source.Under path) before lost is_lost = path-found all path before is_lost lost
import-found all (source.Made games seed) before lost is_lost =
    let h = made-found seed 0 before [] AreMade.nothing games in record {
      entry = nothing_lost;
      finding = Made h.more;
      imported = (record { all = h.many; made = h.made }, refl);
      unlisted = (λ e. absurd (false≢true e), λ k. absurd k.1);
      unread = refl;
    }

-- where no loss is given, none is entered
lossless-entry : (entry : ImportCourse) (unlisted : Bool) → entry.unlisted ≡ unlisted → (entry.unlisted ≡ true → false ≡ true) → entry.unread ≡ [] → entry ≡ nothing_lost
lossless-entry entry true is none unread = absurd (false≢true (none is))
lossless-entry entry false is none unread = λ i. record { unlisted = is i; unread = unread i }

-- an import finds something by which nothing is lost
pub lossless-found : (all : List File) (from : Source) (before : Counts) → (finding : Finding) × IsImported all from before nothing_lost finding
lossless-found all from before =
    let h = import-found all from before false (λ name. false) in
    let none : h.entry.unread ≡ [] = h.unread ∙ filter-none (names_found h.finding) in
    (h.finding, subst (λ e. IsImported all from before e h.finding) (lossless-entry h.entry h.entry.unlisted refl (λ e. (h.unlisted.0 e).0) none) h.imported)

-- ---- the games of an import

-- the game's tree is a tree
abbrev pub HasTree : Game → Type 0
HasTree game = IsTree game.tree

-- the games of a file
games-trees : (name : List ℕ) (place : ℕ) (trees : List Tree) → All IsTree trees → All HasTree (games_from name place trees)
games-trees name place [] are = All-nil HasTree
games-trees name place (tree ∷ trees) are =
    All-cons HasTree (record { file = name; place = place; tree = tree }) (games_from name (place + 1) trees)
    (All-head IsTree tree trees are) (games-trees name (place + 1) trees (All-tail IsTree tree trees are))

-- one file more
files-push : (files : List ImportFile) (f : ImportFile) → All HasTree (games_of_files files) → All HasTree f.games → All HasTree (games_of_files (files ++ f ∷ []))
files-push files f are more =
    subst (All HasTree)
    (ap (λ gs. games_of_files files ++ gs) (sym (append-nil f.games)) ∙ sym (flat_map-append (λ (g : ImportFile). g.games) files (f ∷ [])))
    (All-append HasTree (games_of_files files) f.games are more)

read-trees-all : (all : List File) (path : List ℕ) (before : Counts) (files : List ImportFile) (unread : List (List ℕ)) → AreRead all path before files unread → All HasTree (games_of_files files)
read-trees-all all path before _ _ AreRead.nothing = All-nil HasTree
read-trees-all all path before _ _ (AreRead.read {files} {unread} name bytes outcome trees so_far content is) =
    files-push files (import_file name outcome trees) (read-trees-all all path before files unread so_far)
    (games-trees name 0 trees (outcome-trees bytes (with_games before (trees_in (games_of_files files))) outcome trees is))
read-trees-all all path before _ _ (AreRead.not_read {files} {unread} name so_far) =
    files-push files (import_file name FileOutcome.Unread []) (read-trees-all all path before files unread so_far) (All-nil HasTree)

made-trees-all : (start first : ℕ) (before : Counts) (files : List ImportFile) → AreMade start first before files → All HasTree (games_of_files files)
made-trees-all start first before _ AreMade.nothing = All-nil HasTree
made-trees-all start first before _ (AreMade.one_more {files} outcome trees so_far is) =
    files-push files (made_file (first + length files) outcome trees) (made-trees-all start first before files so_far)
    (games-trees made_name (first + length files) trees (added-trees start (first + length files) (with_games before (trees_in (games_of_files files))) outcome trees is))
  where
    added-trees : (start number : ℕ) (before : Counts) (outcome : FileOutcome) (trees : List Tree) → IsAddedBy before (made_tree start number ∷ []) outcome trees → All IsTree trees
    added-trees start number before _ _ (IsAddedBy.full none) = All-nil IsTree
    added-trees start number before _ _ (IsAddedBy.accepted room) = All-cons IsTree (made_tree start number) [] (made-tree start number) (All-nil IsTree)

-- the games of the first files
first-trees : (files : List ImportFile) (n : ℕ) → All HasTree (games_of_files files) → All HasTree (games_of_files (take n files))
first-trees files n are =
    All-before HasTree (games_of_files (take n files)) (games_of_files (drop n files))
    (subst (All HasTree)
    (ap games_of_files (sym (take-append-drop n files)) ∙ flat_map-append (λ (g : ImportFile). g.games) (take n files) (drop n files))
    are)

-- the games of files in batches
batch-trees : (files : List ImportFile) (batch : ℕ) → All HasTree (games_of_files files) → All HasTree (games_of_segments (segments_of batch (Files files)))
batch-trees files batch are =
    let count = (length files + (batch - 1)) / batch in
    subst (All HasTree) (sym (pieces_joined files batch count)) (first-trees files (count * batch) are)

-- the games that an import adds are trees
pub imported-trees : (all : List File) (from : Source) (before : Counts) (entry : ImportCourse) (batch : ℕ) (finding : Finding) → IsImported all from before entry finding → All HasTree (games_of_segments (segments_of batch finding))
imported-trees all from before entry batch Unlisted is = All-nil HasTree
imported-trees all from before entry batch (TooMany names) is = All-nil HasTree
imported-trees all (source.Under path) before entry batch (Files files) is = batch-trees files batch (read-trees-all all path before files entry.unread is.read)
imported-trees all (source.Under path) before entry batch (Made files) is = absurd is
imported-trees all (source.Made games seed) before entry batch (Files files) is = absurd is
imported-trees all (source.Made games seed) before entry batch (Made files) is = batch-trees files batch (made-trees-all seed 0 before files is.0.made)
