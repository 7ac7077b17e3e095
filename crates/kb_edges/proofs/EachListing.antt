-- Each folder and path has a listing: the names with that path that end in `.sgf`, without repeats.
use Rattle.std.proofs.Common.{◌≡◌, ◌≢◌, ℕ, zero, suc, ◌⊎◌, inl, inr, List, [], ◌∷◌, refl, ◌∙◌, sym, subst, arith}
use Rattle.std.specs.Prelude.{AllPairs, Contains}
use Rattle.std.specs.Str.{bytes_eq}
use Rattle.std.proofs.lemmas.Bool.{cases_Bool, false≢true}
use Rattle.std.proofs.lemmas.List.Elements.{Contains-get_or}
use Rattle.std.proofs.lemmas.List.Kept.{AllPairs-cons}
use Rattle.std.proofs.lemmas.Slice.Eq.{bytes_eq-Decides}
use Rattle.kb_edges.specs.Files.{File, IsListing, sgf_names_of}
use Rattle.kb_edges.proofs.Listings.{IsListing-from}

first_of : (name : List ℕ) (names : List (List ℕ)) → Contains (name ∷ names) name
first_of name names = (0, omega arith, refl)

later_of : (name other : List ℕ) (names : List (List ℕ)) → Contains names other → Contains (name ∷ names) other
later_of name other names h = (suc h.0, omega (arith, h.1), h.2)

among : (name other : List ℕ) (names : List (List ℕ)) → Contains (name ∷ names) other → (name ≡ other) ⊎ Contains names other
among name other names (zero, lt, is) = inl is
among name other names (suc k, lt, is) = inr (k, omega arith, is)

same_or_not : (one other : List ℕ) → (one ≡ other) ⊎ (one ≢ other)
same_or_not one other =
    elim (cases_Bool (bytes_eq one other)) [
      | inl e ↦ inl ((bytes_eq-Decides one other).0 e)
      | inr e ↦ inr (λ same. false≢true (sym e ∙ (bytes_eq-Decides one other).1 same))
    ]

there_or_not : (names : List (List ℕ)) (name : List ℕ) → Contains names name ⊎ (¬ Contains names name)
there_or_not [] name = inr (λ h. absurd (omega (arith, h.1)))
there_or_not (other ∷ names) name =
    elim (same_or_not other name) [
      | inl same ↦ inl (0, omega arith, same)
      | inr apart ↦
          elim (there_or_not names name) [
            | inl later ↦ inl (later_of other name names later)
            | inr none ↦ inr (λ h. elim (among other name names h) [ inl same ↦ apart same | inr later ↦ none later ])
          ]
    ]

-- the same names, each once
record AreEachOnce (names once : List (List ℕ)) : Type 0 where
  kept : (name : List ℕ) → Contains names name → Contains once name
  none_added : (name : List ℕ) → Contains once name → Contains names name
  distinct : AllPairs (λ x y. x ≢ y) once

module _ (name : List ℕ) (names once : List (List ℕ)) (are : AreEachOnce names once) where
  once_already : Contains once name → AreEachOnce (name ∷ names) once
  once_already there = record {
    kept = λ other h. elim (among name other names h) [
      | inl same ↦ subst (Contains once) same there
      | inr later ↦ are.kept other later
    ];
    none_added = λ other h. later_of name other names (are.none_added other h);
    distinct = are.distinct;
  }

  once_more : ¬ Contains once name → AreEachOnce (name ∷ names) (name ∷ once)
  once_more none = record {
    kept = λ other h. elim (among name other names h) [
      | inl same ↦ subst (Contains (name ∷ once)) same (first_of name once)
      | inr later ↦ later_of name other once (are.kept other later)
    ];
    none_added = λ other h. elim (among name other once h) [
      | inl same ↦ subst (Contains (name ∷ names)) same (first_of name names)
      | inr later ↦ later_of name other names (are.none_added other later)
    ];
    distinct = AllPairs-cons (λ x y. x ≢ y) name once
        (λ k d lt same. none (subst (Contains once) (sym same) (Contains-get_or once k d lt))) are.distinct;
  }

each_once : (names : List (List ℕ)) → (once : List (List ℕ)) × AreEachOnce names once
each_once [] = (
  [],
  record {
    kept = λ name h. h;
    none_added = λ name h. h;
    distinct = λ i j d low high. absurd (omega arith);
  },
)
each_once (name ∷ names) =
    let rest = each_once names in
    elim (there_or_not rest.0 name) [
      | inl there ↦ (rest.0, once_already name names rest.0 rest.1 there)
      | inr none ↦ (name ∷ rest.0, once_more name names rest.0 rest.1 none)
    ]

pub listing-found : (files : List File) (path : List ℕ) → (names : List (List ℕ)) × IsListing files path names
listing-found files path =
    let once = each_once (sgf_names_of files path) in
    (once.0, IsListing-from files path (sgf_names_of files path) once.0 refl once.1.kept once.1.none_added once.1.distinct)
