-- The entries that a loop goes over, the groups among them and their lines.
use Rattle.std.proofs.Common.{◌≡◌, ◌∙◌, ◌++◌, ◌≤◌, Bool, true, false, Bor, List, [], ◌∷◌, if◌then◌else◌, length, length-append, map, refl, sym, ap, arith}
use Rattle.std.specs.List.{flat_map}
use Rattle.std.specs.Map.Iter.{deref_pair}
use Rattle.std.proofs.lemmas.Grind.{flat_map-append}
use Rattle.std.proofs.lemmas.List.Folds.{flat_map-map}
use Rattle.session_core.specs.declared.doubles.StoredKey.{StoredKey}
use Rattle.session_core.specs.declared.doubles.Numbers.{Numbers}
use Rattle.session_core.specs.Doubles.{Group}
use Rattle.session_core.specs.Grouping.{Entry, entries_of, entry_of, group_in, is_group}

-- what is listed of the entries that were gone over
pub listed_of_all : {A : Type 0} (h : Entry → List A) (shown : List (Bor StoredKey × Bor Numbers)) (entries : List (StoredKey × Numbers)) → map deref_pair shown ≡ entries
    → flat_map (λ (p : Bor StoredKey × Bor Numbers). h (entry_of (p.0.now, p.1.now))) shown ≡ flat_map h (entries_of entries)
listed_of_all h shown entries all =
    sym (flat_map-map (λ e. h (entry_of e)) deref_pair shown)
    ∙ ap (flat_map (λ e. h (entry_of e))) all
    ∙ sym (flat_map-map h entry_of entries)

-- each has one group at most
one_at_most : (e : Entry) → length (group_in e) ≤ 1
one_at_most e = by (is_group e)
  where
    by : (b : Bool) → length {A = Group} (if b then record { form = e.key.form; games = e.games } ∷ [] else []) ≤ 1
    by true = omega arith
    by false = omega arith

pub few_groups : {X : Type 0} (f : X → Entry) (xs : List X) → length (flat_map (λ x. group_in (f x)) xs) ≤ length xs
few_groups f [] = omega arith
few_groups f (x ∷ xs) =
    let one = one_at_most (f x) in
    let rest = few_groups f xs in
    let both = length-append (group_in (f x)) (flat_map (λ y. group_in (f y)) xs) in
    omega (arith, one, rest, both)

pub flat_map-twice : {X Y Z : Type 0} (h : Y → List Z) (f : X → List Y) (xs : List X) → flat_map (λ x. flat_map h (f x)) xs ≡ flat_map h (flat_map f xs)
flat_map-twice h f [] = refl
flat_map-twice h f (x ∷ xs) = ap (λ rest. flat_map h (f x) ++ rest) (flat_map-twice h f xs) ∙ sym (flat_map-append h (f x) (flat_map f xs))
