-- The games with one number among ordered entries.
use Rattle.std.proofs.Common.{◌≡◌, ℕ, ◌+◌, ◌-◌, ◌<◌, ◌≤◌, ◌↔◌, List, length, get_or, drop, take, sym, ap, ◌∙◌, arith, inl, inr}
use Rattle.std.specs.Prelude.{Contains}
use Rattle.std.specs.List.Sorted.{IsStrictlyIncreasing}
use Rattle.std.proofs.lemmas.Bool.{cases_lt}
use Rattle.std.proofs.lemmas.List.{get_or-drop, get_or-take, get_or_default, length-drop, length-take-le}
use Rattle.std.proofs.lemmas.List.FromFn.{get_or-map-range_with_len, length-map-range_with_len}
use Rattle.corner_index.specs.CornerGames.{Entry, entry}
use Rattle.corner_index.specs.Entries.{AreOrdered, AreRising, IsFirstBehind, IsFirstFrom, StandsBelow, entries_of}

pub rising : (keys games : List ℕ) → AreOrdered keys games → AreRising keys
rising keys games are i j lt within = elim (are.ordered i j lt within) [
  | inl less ↦ omega (arith, less)
  | inr same ↦ omega (arith, same.0)
]

-- ---- what the entries are
module _ (keys games : List ℕ) where
  abbrev entry_at : ℕ → Entry
  entry_at i = entry (get_or keys i 0) (get_or games i 0)

  pub length-entries : length (entries_of keys games) ≡ length keys
  length-entries = length-map-range_with_len entry_at 0 (length keys)

  entry_there : (i : ℕ) (d : Entry) → i < length keys → get_or (entries_of keys games) i d ≡ entry_at i
  entry_there i d lt = let here : 0 + i ≡ i = omega arith in get_or-map-range_with_len entry_at 0 (length keys) i i d lt here

  pub stands : (key g : ℕ) → Contains (entries_of keys games) (entry key g) → StandsBelow keys games (length keys) key g
  stands key g (i, lt, is) =
      let within : i < length keys = omega (arith, lt, length-entries) in
      let same : entry_at i ≡ entry key g = sym (entry_there i (entry key g) within) ∙ is in
      (i, within, ap (λ (e : Entry). e.key) same, ap (λ (e : Entry). e.game) same)

  pub stood : (key g : ℕ) → StandsBelow keys games (length keys) key g → Contains (entries_of keys games) (entry key g)
  stood key g (i, lt, key_is, game_is) =
      let within : i < length (entries_of keys games) = omega (arith, lt, length-entries) in
      (i, within, entry_there i (entry key g) lt ∙ ap (λ k. entry k (get_or games i 0)) key_is ∙ ap (λ h. entry key h) game_is)

-- ---- those between the first with a number and the first behind it
module _ (keys games : List ℕ) (are : AreOrdered keys games) (key first end : ℕ) (from : IsFirstFrom keys key first) (behind : IsFirstBehind keys key end) where
  abbrev found : List ℕ
  found = take (end - first) (drop first games)

  pub first_le : first ≤ end
  first_le = elim (cases_lt end first) [
    | inr le ↦ le
    | inl lt ↦
        let low = from.before end lt in
        let high = behind.from end (omega arith) (omega (arith, lt, from.most)) in
        absurd (omega (arith, low, high))
  ]

  pub length-found : length found ≡ end - first
  length-found = length-take-le (end - first) (drop first games) (omega (arith, length-drop first games, are.as_many, behind.most, first_le))

  found_there : (k d : ℕ) → k < end - first → get_or found k d ≡ get_or games (first + k) 0
  found_there k d lt =
      get_or-take (end - first) (drop first games) k d lt ∙ get_or-drop first games k d
      ∙ sym (get_or_default games (first + k) 0 d (omega (arith, lt, are.as_many, behind.most, first_le)))

  is_key : (i : ℕ) → first ≤ i → i < end → get_or keys i 0 ≡ key
  is_key i low high =
      let le = behind.before i high in
      let ge = from.from i low (omega (arith, high, behind.most)) in
      omega (arith, le, ge)

  within_range : (i : ℕ) → i < length keys → get_or keys i 0 ≡ key → (first ≤ i) × (i < end)
  within_range i lt is = (
    elim (cases_lt i first) [
      | inl low ↦ let less = from.before i low in absurd (omega (arith, less, is))
      | inr ge ↦ ge
    ],
    elim (cases_lt i end) [
      | inl low ↦ low
      | inr ge ↦ let more = behind.from i ge lt in absurd (omega (arith, more, is))
    ],
  )

  pub found-exact : (g : ℕ) → Contains found g ↔ Contains (entries_of keys games) (entry key g)
  found-exact g = (
    λ (k, lt, is).
        let below : k < end - first = omega (arith, lt, length-found) in
        let in_keys : first + k < length keys = omega (arith, below, behind.most, first_le) in
        stood keys games key g (first + k, in_keys, is_key (first + k) (omega arith) (omega (arith, below, first_le)), sym (found_there k g below) ∙ is),
    λ h.
        let (i, lt, key_is, game_is) = stands keys games key g h in
        let (low, high) = within_range i lt key_is in
        let below : i - first < end - first = omega (arith, low, high) in
        let back : first + (i - first) ≡ i = omega (arith, low) in
        (i - first, omega (arith, below, length-found), found_there (i - first) g below ∙ ap (λ j. get_or games j 0) back ∙ game_is),
  )

  pub found-ascending : IsStrictlyIncreasing found
  found-ascending k lt =
      let below : k + 1 < end - first = omega (arith, lt, length-found) in
      let one = found_there k 0 (omega (arith, below)) in
      let two = found_there (k + 1) 0 below in
      let i_key = is_key (first + k) (omega arith) (omega (arith, below)) in
      let j_key = is_key (first + (k + 1)) (omega arith) (omega (arith, below)) in
      elim (are.ordered (first + k) (first + (k + 1)) (omega arith) (omega (arith, below, behind.most))) [
        | inl less ↦ absurd (omega (arith, less, i_key, j_key))
        | inr same ↦ let less = same.1 in omega (arith, less, one, two)
      ]
