-- A listing: the names that a folder's files have under a path, sorted and without repeats.
use Rattle.std.proofs.Common.{◌≡◌, ◌≢◌, ℕ, ◌+◌, ◌<◌, ◌++◌, take, Bool, true, false, cond, List, [], ◌∷◌, length, get_or, map, refl, sym, subst, arith, ◌∙◌, ap}
use Rattle.std.specs.Prelude.{◌&&◌, String, All, AllPairs, Contains, IsPermutation, filter, string_bytes}
use Rattle.std.specs.declared.cmp.Ordering.TheVariants.{Less}
use Rattle.std.specs.Cmp.Lexicographic.{nat_list_eq_equiv, slice_cmp, texts_ties}
use Rattle.std.specs.List.{list_any, dedup, dedup_from, IsDistinct, AllByRecursion}
use Rattle.std.specs.List.Sorted.{IsSorted, IsStrictlySortedBy}
use Rattle.std.specs.List.Retain.{IsFiltered, DiffersFromLast}
use Rattle.std.specs.Ordering.{eq_by_cmp, nat_cmp}
use Rattle.std.specs.Str.{bytes_eq}
use Rattle.std.specs.String.{string_cmp, string_cmp_total, string_eq}
use Rattle.std.specs.declared.alloc.Global.{Global}
use Rattle.std.proofs.lemmas.Bool.{and_parts, and_from}
use Rattle.std.proofs.lemmas.List.{append-nil, get_or-map, length-map, map-append, map_more, map_push}
use Rattle.std.proofs.lemmas.List.Elements.{All-from_recursion, All-contains, All-contains_itself, All-filter, All-map, All-push, Contains-get_or, filter-append, filter_passes}
use Rattle.std.proofs.lemmas.List.Filters.{dedup_is}
use Rattle.std.proofs.lemmas.List.Folds.{Any-from_list_any}
use Rattle.std.proofs.lemmas.List.Kept.{AllPairs-cons, Contains-dedup, Contains-from_dedup, IsStrictlySortedBy-dedup}
use Rattle.std.proofs.lemmas.List.Sorted.{Contains-permutation, IsPermutation-map, IsPermutation-sym}
use Rattle.std.proofs.lemmas.Map.Keys.{IsDistinct-from_sorted}
use Rattle.std.proofs.lemmas.Map.Made.{AllPairs-from_IsDistinct}
use Rattle.std.proofs.lemmas.Map.Views.{any-filter_same}
use Rattle.std.proofs.lemmas.Slice.Eq.{bytes_eq-Decides}
use Rattle.kb_edges.specs.Entries.{file_of, files_of}
use Rattle.kb_edges.specs.declared.file_entry.FileEntry.{FileEntry}
use Rattle.kb_edges.specs.Files.{File, HasFile, IsListing, IsSgfName, is_sgf_name, sgf_names_of}
use Rattle.kb_edges.proofs.Places.{HasFile-any, IsSgfName-decides, has_place, has_place-same}

-- the test by which names are taken from the files
abbrev pub is_listed : List ℕ → File → Bool
is_listed path file = bytes_eq file.path path && is_sgf_name file.name

-- a name of a file under the path that ends in `.sgf`
abbrev pub IsListedName : List File → List ℕ → List ℕ → Type 0
IsListedName files path name = HasFile files path name × IsSgfName name

-- each name that is taken is one
pub sgf_names_of-sound : (files : List File) (path : List ℕ) →
    All (IsListedName files path) (sgf_names_of files path)
sgf_names_of-sound files path = All-map (IsListedName files path) (λ file. file.name) (filter (is_listed path) files) each
  where
    each : All (λ file. IsListedName files path file.name) (filter (is_listed path) files)
    each k d lt =
        let file = get_or (filter (is_listed path) files) k d in
        let among = All-filter (is_listed path) (Contains files) files (All-contains_itself files) k d lt in
        let passes = and_parts (bytes_eq file.path path) (is_sgf_name file.name) (filter_passes (is_listed path) files k d lt) in
        ((among.0, file, among.1, among.2, ((bytes_eq-Decides file.path path).0 passes.0, refl)), (IsSgfName-decides file.name).0 passes.1)

-- each name of a file that ends in `.sgf` is taken
pub sgf_names_of-complete : (files : List File) (path name : List ℕ) →
    HasFile files path name → IsSgfName name → Contains (sgf_names_of files path) name
sgf_names_of-complete files path name has sgf =
    let listed : (file : File) → has_place path name file ≡ true → is_listed path file ≡ true =
    λ file e. let same = has_place-same path name file e in
    and_from (bytes_eq file.path path) (is_sgf_name file.name) ((bytes_eq-Decides file.path path).1 same.0)
    (ap is_sgf_name same.1 ∙ (IsSgfName-decides name).1 sgf) in
    let found : list_any (has_place path name) (filter (is_listed path) files) ≡ true =
    any-filter_same (has_place path name) (is_listed path) true listed files ∙ HasFile-any files path name has in
    let at = Any-from_list_any (has_place path name) (filter (is_listed path) files) found in
    let is : get_or (sgf_names_of files path) at.0 name ≡ name =
    get_or-map (λ file. file.name) (filter (is_listed path) files) at.0 at.1 name at.2
    ∙ ap (λ file. file.name) at.3 ∙ (has_place-same path name at.1 at.4).1 in
    (at.0, subst (λ n. at.0 < n) (sym (length-map (filter (is_listed path) files) (λ file. file.name))) at.2, is)

-- one more file
sgf_names_of-more : (entries : List FileEntry) (path : List ℕ) (i : ℕ) (entry : FileEntry) → i < length entries → entry ≡ get_or entries i entry →
    sgf_names_of (files_of (take (i + 1) entries)) path
    ≡ sgf_names_of (files_of (take i entries)) path ++ map (λ file. file.name) (filter (is_listed path) (file_of entry ∷ []))
sgf_names_of-more entries path i entry lt is =
    let more : files_of (take (i + 1) entries) ≡ files_of (take i entries) ++ file_of entry ∷ [] =
    map_more file_of entries i entry lt ∙ ap (λ e. files_of (take i entries) ++ file_of e ∷ []) (sym is) in
    ap (λ files. sgf_names_of files path) more
    ∙ ap (map (λ file. file.name)) (filter-append (is_listed path) (files_of (take i entries)) (file_of entry ∷ []))
    ∙ map-append (λ file. file.name) (filter (is_listed path) (files_of (take i entries))) (filter (is_listed path) (file_of entry ∷ []))

pub listed_kept : (entries : List FileEntry) (path : List ℕ) (i : ℕ) (entry : FileEntry) (names : List (List ℕ)) → i < length entries → entry ≡ get_or entries i entry →
    is_listed path (file_of entry) ≡ false → names ≡ sgf_names_of (files_of (take i entries)) path → names ≡ sgf_names_of (files_of (take (i + 1) entries)) path
listed_kept entries path i entry names lt is test so_far =
    so_far ∙ sym (sgf_names_of-more entries path i entry lt is
    ∙ ap (λ b. sgf_names_of (files_of (take i entries)) path ++ map (λ file. file.name) (cond b (file_of entry ∷ []) [])) test
    ∙ append-nil (sgf_names_of (files_of (take i entries)) path))

pub listed_pushed : (entries : List FileEntry) (path : List ℕ) (i : ℕ) (entry : FileEntry) (names : List (String Global)) (name : String Global) → i < length entries → entry ≡ get_or entries i entry →
    is_listed path (file_of entry) ≡ true → string_bytes name ≡ string_bytes entry.name →
    map string_bytes names ≡ sgf_names_of (files_of (take i entries)) path → map string_bytes (names ++ name ∷ []) ≡ sgf_names_of (files_of (take (i + 1) entries)) path
listed_pushed entries path i entry names name lt is test same so_far =
    map_push string_bytes names name
    ∙ (λ j. so_far j ++ same j ∷ [])
    ∙ sym (sgf_names_of-more entries path i entry lt is
    ∙ ap (λ b. sgf_names_of (files_of (take i entries)) path ++ map (λ file. file.name) (cond b (file_of entry ∷ []) [])) test)

-- names without repeats as texts
dedup_from-texts : (name : String Global) (names : List (String Global)) →
    map string_bytes (dedup_from string_eq name names) ≡ dedup_from bytes_eq (string_bytes name) (map string_bytes names)
dedup_from-texts name [] = refl
dedup_from-texts name (next ∷ names) =
    elim (string_eq next name) as (λ b.
    map string_bytes (cond b (dedup_from string_eq name names) (name ∷ dedup_from string_eq next names))
    ≡ cond b (dedup_from bytes_eq (string_bytes name) (map string_bytes names)) (string_bytes name ∷ dedup_from bytes_eq (string_bytes next) (map string_bytes names)))
    [ true ↦ dedup_from-texts name names | false ↦ ap (λ rest. string_bytes name ∷ rest) (dedup_from-texts next names) ]

dedup-texts : (names : List (String Global)) → map string_bytes (dedup string_eq names) ≡ dedup bytes_eq (map string_bytes names)
dedup-texts [] = refl
dedup-texts (name ∷ names) = dedup_from-texts name names

-- distinct names are distinct texts
apart-texts : (name : String Global) (names : List (String Global)) →
    AllByRecursion (λ other. eq_by_cmp string_cmp name other ≡ false) names → AllByRecursion (λ other. bytes_eq (string_bytes name) other ≡ false) (map string_bytes names)
apart-texts name [] apart = tt
apart-texts name (other ∷ names) apart =
    (texts_ties (string_bytes name) (string_bytes other) ∙ apart.0, apart-texts name names apart.1)

IsDistinct-texts : (names : List (String Global)) → IsDistinct (eq_by_cmp string_cmp) names → IsDistinct bytes_eq (map string_bytes names)
unfolding IsDistinct
IsDistinct-texts [] distinct = tt
IsDistinct-texts (name ∷ names) distinct = (apart-texts name names distinct.0, IsDistinct-texts names distinct.1)

module _ (names sorted kept : List (String Global)) (moved : IsPermutation names sorted) (filtered : IsFiltered (DiffersFromLast string_eq) [] sorted kept) where
  kept_texts : map string_bytes kept ≡ dedup bytes_eq (map string_bytes sorted)
  kept_texts = ap (map string_bytes) (dedup_is string_eq sorted kept filtered) ∙ dedup-texts sorted

  moved_texts : IsPermutation (map string_bytes names) (map string_bytes sorted)
  moved_texts = IsPermutation-map string_bytes names sorted moved

  -- `sort_unstable` and `dedup` keep each name
  pub sorted-keeps : (name : List ℕ) → Contains (map string_bytes names) name → Contains (map string_bytes kept) name
  sorted-keeps name has = subst (λ all. Contains all name) (sym kept_texts)
      (Contains-dedup nat_list_eq_equiv (λ x y e. (bytes_eq-Decides x y).0 e) (map string_bytes sorted) name
      (Contains-permutation (map string_bytes names) (map string_bytes sorted) name moved_texts has))

  -- they add none
  pub sorted-adds_none : (name : List ℕ) → Contains (map string_bytes kept) name → Contains (map string_bytes names) name
  sorted-adds_none name has = Contains-permutation (map string_bytes sorted) (map string_bytes names) name (IsPermutation-sym _ _ moved_texts)
      (Contains-from_dedup bytes_eq (map string_bytes sorted) name (subst (λ all. Contains all name) kept_texts has))

  -- they leave each name once
  pub sorted-distinct : IsSorted string_cmp sorted → AllPairs (λ x y. x ≢ y) (map string_bytes kept)
  sorted-distinct rises = AllPairs-from_IsDistinct bytes_eq-Decides (map string_bytes kept)
      (IsDistinct-texts kept (subst (IsDistinct (eq_by_cmp string_cmp)) (sym (dedup_is string_eq sorted kept filtered))
      (IsDistinct-from_sorted string_cmp (dedup string_eq sorted)
      (IsStrictlySortedBy-dedup string_cmp_total (λ x y. texts_ties (string_bytes x) (string_bytes y)) sorted rises))))

-- what is above a name is above its text
below-texts : (name : String Global) (names : List (String Global)) → AllByRecursion (λ other. string_cmp name other ≡ Less) names → AllByRecursion (λ other. slice_cmp nat_cmp (string_bytes name) other ≡ Less) (map string_bytes names)
below-texts name [] above = tt
below-texts name (other ∷ names) above = (above.0, below-texts name names above.1)

-- names in strict order are texts in strict order
ascending-texts : (names : List (String Global)) → IsStrictlySortedBy string_cmp names → AllPairs (λ x y. slice_cmp nat_cmp x y ≡ Less) (map string_bytes names)
unfolding IsStrictlySortedBy
ascending-texts [] sorted = λ i j d below within. absurd (omega arith)
ascending-texts (name ∷ names) sorted =
    AllPairs-cons (λ x y. slice_cmp nat_cmp x y ≡ Less) (string_bytes name) (map string_bytes names)
    (All-from_recursion (λ y. slice_cmp nat_cmp (string_bytes name) y ≡ Less) (map string_bytes names) (below-texts name names sorted.0))
    (ascending-texts names sorted.1)

-- `sort_unstable` and `dedup` leave strict order
pub sorted-ascending : (names sorted kept : List (String Global)) → IsPermutation names sorted → IsFiltered (DiffersFromLast string_eq) [] sorted kept → IsSorted string_cmp sorted → AllPairs (λ x y. slice_cmp nat_cmp x y ≡ Less) (map string_bytes kept)
sorted-ascending names sorted kept moved filtered rises = ascending-texts kept (subst (IsStrictlySortedBy string_cmp) (sym (dedup_is string_eq sorted kept filtered))
    (IsStrictlySortedBy-dedup string_cmp_total (λ x y. texts_ties (string_bytes x) (string_bytes y)) sorted rises))

-- names with the same members, each once, are a listing
pub IsListing-from : (files : List File) (path : List ℕ) (taken names : List (List ℕ)) → taken ≡ sgf_names_of files path →
    ((name : List ℕ) → Contains taken name → Contains names name) → ((name : List ℕ) → Contains names name → Contains taken name) →
    AllPairs (λ x y. x ≢ y) names → IsListing files path names
IsListing-from files path taken names is keeps adds_none distinct =
    let listed : (name : List ℕ) → Contains names name → IsListedName files path name =
    λ name has. All-contains (IsListedName files path) (sgf_names_of files path) name (sgf_names_of-sound files path)
    (subst (λ all. Contains all name) is (adds_none name has)) in
    record {
      there = λ name has. (listed name has).0;
      sgf = λ name has. (listed name has).1;
      complete = λ name has sgf. keeps name (subst (λ all. Contains all name) (sym is) (sgf_names_of-complete files path name has sgf));
      distinct = distinct;
    }

-- one more name that ends in `.sgf`
pub sgf_pushed : (names : List (String Global)) (name : String Global) → is_sgf_name (string_bytes name) ≡ true →
    All IsSgfName (map string_bytes names) → All IsSgfName (map string_bytes (names ++ name ∷ []))
sgf_pushed names name test all =
    subst (All IsSgfName) (sym (map_push string_bytes names name))
    (All-push IsSgfName (map string_bytes names) (string_bytes name) all ((IsSgfName-decides (string_bytes name)).0 test))

-- what holds of each of some elements holds of each of those among them
pub All-among : {X : Type 0} (P : X → Type 0) (xs ys : List X) → ((x : X) → Contains ys x → Contains xs x) → All P xs → All P ys
All-among P xs ys among all k d lt = All-contains P xs (get_or ys k d) all (among (get_or ys k d) (Contains-get_or ys k d lt))
