-- The names of an import, and whether its path is there.
use Rattle.std.proofs.Common.{◌≡◌, ◌⊎◌, inl, inr, ℕ, Bool, true, false, List, get_or, refl, sym, ◌∙◌}
use Rattle.std.specs.Prelude.{All, AllPairs, Contains}
use Rattle.std.specs.List.{list_any}
use Rattle.std.specs.Str.{bytes_eq}
use Rattle.std.specs.Cmp.Lexicographic.{slice_cmp}
use Rattle.std.specs.Ordering.{nat_cmp}
use Rattle.std.specs.declared.cmp.Ordering.TheVariants.{Less}
use Rattle.std.proofs.lemmas.Bool.{false≢true}
use Rattle.std.proofs.lemmas.List.Elements.{All-contains, Contains-get_or}
use Rattle.std.proofs.lemmas.List.Folds.{Any-from_list_any, list_any-from_Any}
use Rattle.std.proofs.lemmas.Slice.Eq.{bytes_eq-Decides}
use Rattle.kb_edges.specs.Files.{File, HasFile, HasPath, IsListing, IsSgfName}
use Rattle.kb_edges.proofs.Places.{Any-weaker}
use Rattle.import_work.specs.Course.{AreNames}
use Rattle.import_work.specs.Imports.{AreSortedNames}

-- sorted names of a listing, without repeats, are the names of an import
pub AreNames-from_listing : (files : List File) (path : List ℕ) (listed names : List (List ℕ)) → IsListing files path listed → ((name : List ℕ) → Contains listed name → Contains names name) → ((name : List ℕ) → Contains names name → Contains listed name) → AllPairs (λ x y. slice_cmp nat_cmp x y ≡ Less) names → AreNames files path names
AreNames-from_listing files path listed names h kept none_added ascending = record {
  each = λ name. ((λ has. let was = none_added name has in (h.there name was, h.sgf name was)), λ is. kept name (h.complete name is.0 is.1));
  ascending = ascending;
}

-- they are sorted names
pub sorted_names : (listed names : List (List ℕ)) → All IsSgfName listed → ((name : List ℕ) → Contains names name → Contains listed name) → AllPairs (λ x y. slice_cmp nat_cmp x y ≡ Less) names → AreSortedNames names
sorted_names listed names sgf none_added ascending = record {
  ascending = ascending;
  sgf = λ k d below. All-contains IsSgfName listed (get_or names k d) sgf (none_added (get_or names k d) (Contains-get_or names k d below));
}

-- the names of an import are names of files
pub AreNames-there : (files : List File) (path : List ℕ) (names : List (List ℕ)) → AreNames files path names → All (HasFile files path) names
AreNames-there files path names h k d below = ((h.each (get_or names k d)).0 (Contains-get_or names k d below)).0

-- a file has the path, or none has
has_path_by : (files : List File) (path : List ℕ) (r : Bool) → r ≡ list_any (λ (file : File). bytes_eq file.path path) files → HasPath files path ⊎ (¬ HasPath files path)
has_path_by files path true is =
    inl (Any-weaker _ _ (λ file h. (bytes_eq-Decides file.path path).0 h) files (Any-from_list_any (λ (file : File). bytes_eq file.path path) files (sym is)))
has_path_by files path false is =
    inr (λ has. false≢true (is ∙ list_any-from_Any (λ (file : File). bytes_eq file.path path) files (Any-weaker _ _ (λ file h. (bytes_eq-Decides file.path path).1 h) files has)))

pub has_path_or_none : (files : List File) (path : List ℕ) → HasPath files path ⊎ (¬ HasPath files path)
has_path_or_none files path = has_path_by files path (list_any (λ (file : File). bytes_eq file.path path) files) refl
