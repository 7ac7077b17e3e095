-- The entries of the map of keys, with the number of a game more.
use Rattle.std.proofs.Common.{◌≡◌, ◌∙◌, ◌++◌, ℕ, zero, suc, Bool, true, false, if◌then◌else◌, List, [], ◌∷◌, Some, slice_get, sym, ap}
use Rattle.std.specs.List.{AllByRecursion}
use Rattle.std.specs.Map.{keys_of, values_of}
use Rattle.std.specs.declared.alloc.Global.{Global}
use Rattle.std.specs.declared.vec.Vec.{Vec}
use Rattle.indexmap.specs.IndexMap.{insert_entry}
use Rattle.indexmap.specs.Layout.{set_value_at}
use Rattle.session_core.specs.declared.doubles.StoredKey.{StoredKey}
use Rattle.session_core.specs.declared.doubles.Numbers.{Numbers}
use Rattle.session_core.specs.Doubles.{is_same_key}
use Rattle.session_core.specs.Grouping.{Entry, all_of, entries_of, key_of, with_number}

-- the entry with this number is the first one whose key passes
abbrev IsFirst : (StoredKey → Bool) → List (StoredKey × Numbers) → ℕ → Type 0
IsFirst test [] at = ⊥
IsFirst test (e ∷ es) zero = test e.0 ≡ true
IsFirst test (e ∷ es) (suc at) = (test e.0 ≡ false) × IsFirst test es at

-- no key passes
abbrev IsAbsent : (StoredKey → Bool) → List (StoredKey × Numbers) → Type 0
IsAbsent test es = AllByRecursion (λ key. test key ≡ false) (keys_of es)

module _ (same : StoredKey → StoredKey → Bool) (is_same : (a b : StoredKey) → same a b ≡ is_same_key (key_of a) (key_of b)) where
  -- of a key that is there
  pub number_pushed : (es : List (StoredKey × Numbers)) (at : ℕ) (key : StoredKey) (old : Numbers) (others : Vec ℕ Global) (number : ℕ) → IsFirst (same key) es at → slice_get (values_of es) at ≡ Some old → others.items ≡ old.others.items ++ number ∷ []
      → entries_of (set_value_at es at (record { first = old.first; others = others })) ≡ with_number (entries_of es) (key_of key) number
  number_pushed [] at key old others number first is pushed = absurd first
  number_pushed (x ∷ xs) zero key old others number first is pushed =
      let own : x.1 ≡ old = cc (is) in
      let e : is_same_key (key_of key) (key_of x.0) ≡ true = sym (is_same key x.0) ∙ first in
      let games : old.first ∷ others.items ≡ all_of x.1 ++ number ∷ [] = ap (λ rest. old.first ∷ rest) pushed ∙ ap (λ (n : Numbers). all_of n ++ number ∷ []) (sym own) in
      rw e (ap (λ (ns : List ℕ). record { key = key_of x.0; games = ns } ∷ entries_of xs) games)
  number_pushed (x ∷ xs) (suc at) key old others number first is pushed =
      let e : is_same_key (key_of key) (key_of x.0) ≡ false = sym (is_same key x.0) ∙ first.0 in
      rw e (ap (λ (es : List Entry). record { key = key_of x.0; games = all_of x.1 } ∷ es) (number_pushed xs at key old others number first.1 is pushed))

  -- of a new one
  pub number_new : (es : List (StoredKey × Numbers)) (key : StoredKey) (numbers : Numbers) (number : ℕ) → IsAbsent (same key) es → all_of numbers ≡ number ∷ []
      → entries_of (insert_entry same es key numbers) ≡ with_number (entries_of es) (key_of key) number
  number_new [] key numbers number absent is = ap (λ (ns : List ℕ). record { key = key_of key; games = ns } ∷ []) is
  number_new (x ∷ xs) key numbers number absent is =
      let e : is_same_key (key_of key) (key_of x.0) ≡ false = sym (is_same key x.0) ∙ absent.0 in
      let there : entries_of (insert_entry same (x ∷ xs) key numbers) ≡ record { key = key_of x.0; games = all_of x.1 } ∷ entries_of (insert_entry same xs key numbers) =
      ap (λ b. entries_of (if b then (x.0, numbers) ∷ xs else x ∷ insert_entry same xs key numbers)) absent.0 in
      there ∙ rw e (ap (λ (es : List Entry). record { key = key_of x.0; games = all_of x.1 } ∷ es) (number_new xs key numbers number absent.1 is))
