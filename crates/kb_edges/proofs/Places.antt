-- Which files a folder has, as tests and as facts.
use Rattle.std.proofs.Common.{◌≡◌, ℕ, Bool, true, false, cond, List, [], ◌∷◌, ◌-◌, length, take, refl, sym, ◌∙◌, ap}
use Rattle.std.specs.Prelude.{◌↔◌, ◌&&◌, ◌||◌, IsTrue, IsSome, is_some, Any, find, codes}
use Rattle.std.specs.Bool.{Decides}
use Rattle.std.specs.List.{list_any}
use Rattle.std.specs.Option.{option_map, option_copied}
use denote.Ref.{Bor}
use Rattle.std.specs.Str.{bytes_eq}
use Rattle.std.specs.declared.option.Option.{Option}
use Rattle.std.specs.declared.option.Option.TheVariants.{None, Some}
use Rattle.std.proofs.lemmas.Bool.{and_parts, and_from}
use Rattle.std.proofs.lemmas.Bool.Decides.{Decides-eqb}
use Rattle.std.proofs.lemmas.List.Folds.{Any-from_list_any, list_any-from_Any}
use Rattle.std.proofs.lemmas.Slice.Eq.{bytes_eq-Decides, ends_is}
use Rattle.std.specs.String.{string_bytes}
use Rattle.kb_edges.specs.Entries.{file_of, files_of}
use Rattle.kb_edges.specs.Files.{File, HasPath, HasFile, IsSgfName, content_of, is_sgf_name}
use Rattle.kb_edges.specs.declared.file_entry.FileEntry.{FileEntry}

-- what holds of some element holds in a weaker form
pub Any-weaker : {X : Type 0} (P Q : X → Type 0) → ((x : X) → P x → Q x) → (xs : List X) → Any P xs → Any Q xs
Any-weaker P Q weaker xs any = (any.0, any.1, any.2, any.3, weaker any.1 any.4)

-- whether a file has this path and this name
abbrev pub has_place : List ℕ → List ℕ → File → Bool
has_place path name file = bytes_eq file.path path && bytes_eq file.name name

pub has_place-same : (path name : List ℕ) (file : File) → has_place path name file ≡ true → (file.path ≡ path) × (file.name ≡ name)
has_place-same path name file e =
    let parts = and_parts (bytes_eq file.path path) (bytes_eq file.name name) e in
    ((bytes_eq-Decides file.path path).0 parts.0, (bytes_eq-Decides file.name name).0 parts.1)

pub has_place-from : (path name : List ℕ) (file : File) → (file.path ≡ path) × (file.name ≡ name) → has_place path name file ≡ true
has_place-from path name file same =
    and_from (bytes_eq file.path path) (bytes_eq file.name name) ((bytes_eq-Decides file.path path).1 same.0) ((bytes_eq-Decides file.name name).1 same.1)

pub HasFile-any : (files : List File) (path name : List ℕ) → HasFile files path name → list_any (has_place path name) files ≡ true
HasFile-any files path name has =
    list_any-from_Any (has_place path name) files (Any-weaker _ _ (has_place-from path name) files has)

pub any-HasFile : (files : List File) (path name : List ℕ) → list_any (has_place path name) files ≡ true → HasFile files path name
any-HasFile files path name any =
    Any-weaker _ _ (has_place-same path name) files (Any-from_list_any (has_place path name) files any)

-- a file has this path and this name exactly if there is a content
is_some-find : (test : File → Bool) (files : List File) → is_some (option_map (λ file. file.bytes) (find test files)) ≡ list_any test files
is_some-find test [] = refl
is_some-find test (file ∷ files) =
    elim (test file) as (λ b. is_some (option_map (λ f. f.bytes) (cond b (Some file) (find test files))) ≡ (b || list_any test files))
    [ true ↦ refl | false ↦ is_some-find test files ]

pub content_of-there : (files : List File) (path name : List ℕ) → IsSome (content_of files path name) ↔ HasFile files path name
content_of-there files path name = (
  λ some. any-HasFile files path name (sym (is_some-find (has_place path name) files) ∙ some),
  λ has. is_some-find (has_place path name) files ∙ HasFile-any files path name has,
)

-- a test on entries is one on their files
pub list_any-files : (test : File → Bool) (entries : List FileEntry) → list_any (λ entry. test (file_of entry)) entries ≡ list_any test (files_of entries)
list_any-files test [] = refl
list_any-files test (entry ∷ entries) = ap (λ b. test (file_of entry) || b) (list_any-files test entries)

-- the first entry that passes is the first file that does
pub find-files : (test : File → Bool) (entries : List FileEntry) →
    option_map (λ entry. entry.bytes.items) (find (λ entry. test (file_of entry)) entries)
    ≡ option_map (λ file. file.bytes) (find test (files_of entries))
find-files test [] = refl
find-files test (entry ∷ entries) =
    elim (test (file_of entry)) as (λ b.
    option_map (λ e. e.bytes.items) (cond b (Some entry) (find (λ e. test (file_of e)) entries))
    ≡ option_map (λ file. file.bytes) (cond b (Some (file_of entry)) (find test (files_of entries))))
    [ true ↦ refl | false ↦ find-files test entries ]

-- an entry has the path
pub HasPath-decides : (entries : List FileEntry) (path : List ℕ) (r : Bool) →
    r ≡ list_any (λ entry. bytes_eq (string_bytes entry.path) path) entries → IsTrue r ↔ HasPath (files_of entries) path
HasPath-decides entries path r is =
    let same : r ≡ list_any (λ file. bytes_eq file.path path) (files_of entries) = is ∙ list_any-files (λ file. bytes_eq file.path path) entries in (
      λ e. Any-weaker _ _ (λ file h. (bytes_eq-Decides file.path path).0 h) (files_of entries) (Any-from_list_any (λ file. bytes_eq file.path path) (files_of entries) (sym same ∙ e)),
      λ has. same ∙ list_any-from_Any (λ file. bytes_eq file.path path) (files_of entries) (Any-weaker _ _ (λ file h. (bytes_eq-Decides file.path path).1 h) (files_of entries) has),
    )

-- a name ends in `.sgf`
pub IsSgfName-decides : (name : List ℕ) → Decides (is_sgf_name name) (IsSgfName name)
IsSgfName-decides name =
    let ends = ends_is Decides-eqb name (codes ".sgf") (is_sgf_name name) refl in
    (λ e. (take (length name - length (codes ".sgf")) name, ends.0 e), λ is. ends.1 is.0 is.1)

-- what a reference points to
pub option_map-now : (found : Option (Bor FileEntry)) →
    option_map (λ entry. entry.now.bytes.items) found ≡ option_map (λ entry. entry.bytes.items) (option_copied found)
option_map-now None = refl
option_map-now (Some entry) = refl

-- the content of the first file, by what was found among the entries
pub content_of-found : (entries seen : List FileEntry) (path name : List ℕ) (found : Option (Bor FileEntry)) → seen ≡ entries →
    option_copied found ≡ find (λ entry. bytes_eq (string_bytes entry.path) path && bytes_eq (string_bytes entry.name) name) seen →
    content_of (files_of entries) path name ≡ option_map (λ entry. entry.now.bytes.items) found
content_of-found entries seen path name found same is =
    sym (option_map-now found ∙ ap (option_map (λ entry. entry.bytes.items)) is
    ∙ find-files (has_place path name) seen ∙ ap (λ all. content_of (files_of all) path name) same)
