-- The files of a folder. A path, a name and a content are lists of bytes.
use Rattle.std.specs.Prelude.{◌≡◌, ◌≢◌, ℕ, Bool, List, ◌++◌, ◌&&◌, nat_eq, map, filter, find, Any, AllPairs, Contains, codes}
use Rattle.std.specs.List.{ends_with}
use Rattle.std.specs.Option.{option_map}
use Rattle.std.specs.Str.{bytes_eq}
use Rattle.std.specs.declared.option.Option.{Option}

-- A folder is a list of these. Of two with one path and name the first counts.
pub record File : Type 0 where
  pub path : List ℕ
  pub name : List ℕ
  pub bytes : List ℕ

-- some file has this path
abbrev pub HasPath : List File → List ℕ → Type 0
HasPath files path = Any (λ file. file.path ≡ path) files

-- some file has this path and this name
abbrev pub HasFile : List File → List ℕ → List ℕ → Type 0
HasFile files path name = Any (λ file. (file.path ≡ path) × (file.name ≡ name)) files

-- the bytes of the first file with this path and this name, if there is one
abbrev pub content_of : List File → List ℕ → List ℕ → Option (List ℕ)
content_of files path name =
    option_map (λ file. file.bytes)
    (find (λ file. bytes_eq file.path path && bytes_eq file.name name) files)

-- the name ends in `.sgf`, byte for byte; `.sgf` alone does too
abbrev pub IsSgfName : List ℕ → Type 0
IsSgfName name = (stem : List ℕ) × (name ≡ stem ++ codes ".sgf")

-- whether the name ends in `.sgf`
abbrev pub is_sgf_name : List ℕ → Bool
is_sgf_name name = ends_with nat_eq name (codes ".sgf")

-- the names of the files under this path that end in `.sgf`, in the order of the files, with
-- repeats
abbrev pub sgf_names_of : List File → List ℕ → List (List ℕ)
sgf_names_of files path =
    map (λ file. file.name) (filter (λ file. bytes_eq file.path path
    && is_sgf_name file.name) files)

-- the names of the files under this path that end in `.sgf`, each once, in any order
pub record IsListing (files : List File) (path : List ℕ) (names : List (List ℕ)) : Type 0 where
  pub there : (name : List ℕ) → Contains names name → HasFile files path name
  pub sgf : (name : List ℕ) → Contains names name → IsSgfName name
  pub complete : (name : List ℕ) → HasFile files path name → IsSgfName name → Contains names name
  pub distinct : AllPairs (λ x y. x ≢ y) names
