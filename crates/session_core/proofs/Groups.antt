-- The groups of double games are the entries of several games: keys by their first games, one game after another.
use Rattle.std.proofs.Common.{◌≡◌, ◌≢◌, ◌⊎◌, ◌∙◌, ◌+◌, ◌++◌, ◌<◌, ◌≤◌, ◌==◌, ◌&&◌, ℕ, zero, suc, Bool, true, false, cond, if◌then◌else◌, inl, inr, List, [], ◌∷◌, Some, append_assoc, length, refl, sym, ap, subst, slice_get, arith}
use Rattle.std.specs.List.{flat_map}
use Rattle.std.proofs.lemmas.Bool.{eq-eqb, eqb-true, false≢true}
use Rattle.std.proofs.lemmas.Bool.Decides.{eqb_tells}
use Rattle.std.proofs.lemmas.List.{append-nil}
use Rattle.std.proofs.lemmas.Slice.Eq.{bytes_eq-Decides}
use Rattle.kb_geometry.specs.Board.{cols_of, rows_of}
use Rattle.kb_geometry.proofs.Shapes.{shape_same}
use Rattle.session_core.specs.Doubles.{DoubleKey, Group, groups_of, is_first_of_several, is_same_key, numbers_of, tells_a_point}
use Rattle.session_core.specs.Grouping.{Entry, group_in, with_number}
use Rattle.session_core.proofs.Numbered.{flat_map-numbered, numbered, numbered-all, numbered-last, numbered-same, numbers-numbered}

-- ---- keys

both : (s t : Bool) → (s && t) ≡ true → (s ≡ true) × (t ≡ true)
both true t e = (refl, e)
both false t e = absurd (false≢true e)

same_key : (a b : DoubleKey) → is_same_key a b ≡ true → a ≡ b
same_key a b e =
    let parts = both _ _ e in
    let sides = both _ _ parts.0 in
    let shape = shape_same a.shape b.shape (eqb-true _ _ sides.0) (eqb-true _ _ sides.1) in
    let form = (bytes_eq-Decides a.form b.form).0 parts.1 in
    λ i. record { shape = shape i; form = form i }

own_key : (a : DoubleKey) → is_same_key a a ≡ true
own_key a =
    let cols = eq-eqb (cols_of a.shape) (cols_of a.shape) refl in
    let rows = eq-eqb (rows_of a.shape) (rows_of a.shape) refl in
    let form = (bytes_eq-Decides a.form a.form).1 refl in
    λ i. (cols i && rows i) && form i

told_key : (a b : DoubleKey) → ((is_same_key a b ≡ true) × (a ≡ b)) ⊎ ((is_same_key a b ≡ false) × (is_same_key b a ≡ false))
told_key a b = by (is_same_key a b) (is_same_key b a) refl refl
  where
    by : (s t : Bool) → is_same_key a b ≡ s → is_same_key b a ≡ t → ((is_same_key a b ≡ true) × (a ≡ b)) ⊎ ((is_same_key a b ≡ false) × (is_same_key b a ≡ false))
    by true t e f = inl (e, same_key a b e)
    by false false e f = inr (e, f)
    by false true e f =
        let same = same_key b a f in
        absurd (false≢true (sym e ∙ ap (λ (k : DoubleKey). is_same_key a k) same ∙ own_key a))

-- ---- entries by their first games

-- whether the number is the first of these
abbrev is_first : ℕ → List ℕ → Bool
is_first k [] = false
is_first k (n ∷ ns) = k == n

-- the entry of a key with these numbers, if this is the first of them
abbrev entry_for : ℕ → DoubleKey → List ℕ → List Entry
entry_for k key ns = if is_first k ns then record { key = key; games = ns } ∷ [] else []

-- the entry that begins with the game with this number, which has this key
abbrev entry_at : List DoubleKey → ℕ → DoubleKey → List Entry
entry_at keys k key = entry_for k key (numbers_of keys key)

-- the entries of all keys, by their first games
abbrev pub all_entries : List DoubleKey → List Entry
all_entries keys = numbered (entry_at keys) 0 keys

-- ---- one game more

abbrev number_if : DoubleKey → ℕ → DoubleKey → List ℕ
number_if key k x = cond (is_same_key key x) (k ∷ []) []

numbers-push : (keys : List DoubleKey) (key x : DoubleKey) → numbers_of (keys ++ key ∷ []) x ≡ numbers_of keys x ++ cond (is_same_key x key) (length keys ∷ []) []
numbers-push keys key x =
    numbers-numbered (is_same_key x) (keys ++ key ∷ [])
    ∙ numbered-last (number_if x) keys key
    ∙ ap (λ ns. ns ++ number_if x (length keys) key) (sym (numbers-numbered (is_same_key x) keys))

-- the first number of a key stands where the key does
first_there : (key : DoubleKey) (n : ℕ) (xs : List DoubleKey) (j : ℕ) (others : List ℕ) → numbered (number_if key) n xs ≡ j ∷ others → (d : ℕ) × (n + d ≡ j) × (d < length xs) × (slice_get xs d ≡ Some key)
first_there key n [] j others e = absurd cc
first_there key n (x ∷ xs) j others e = elim (told_key key x) [
  | inl (same, is) ↦
      let head : n ∷ numbered (number_if key) (n + 1) xs ≡ j ∷ others = subst (λ b. cond b (n ∷ []) [] ++ numbered (number_if key) (n + 1) xs ≡ j ∷ others) same e in
      let at : n ≡ j = cc (head) in
      (0, omega (arith, at), omega arith, ap (λ k. Some k) (sym is))
  | inr (other, back) ↦
      let tail : numbered (number_if key) (n + 1) xs ≡ j ∷ others = subst (λ b. cond b (n ∷ []) [] ++ numbered (number_if key) (n + 1) xs ≡ j ∷ others) other e in
      let (d, at, lt, is) = first_there key (n + 1) xs j others tail in
      (suc d, omega (arith, at), omega (arith, lt), is)
]

-- an entry of another key is passed by
passed_by : (key x : DoubleKey) (number n : ℕ) (ns : List ℕ) (rest : List Entry) → is_same_key key x ≡ false → with_number (entry_for n x ns ++ rest) key number ≡ entry_for n x ns ++ with_number rest key number
passed_by key x number n ns rest other = by (is_first n ns)
  where
    by : (b : Bool) → with_number ((if b then record { key = x; games = ns } ∷ [] else []) ++ rest) key number ≡ (if b then record { key = x; games = ns } ∷ [] else []) ++ with_number rest key number
    by true = rw other refl
    by false = refl

no_number : (k n : ℕ) → k ≢ n → (k == n) ≡ false
no_number k n ne = elim (eqb_tells k n) [ inl (e, is) ↦ absurd (ne is) | inr (e, is) ↦ e ]

own_number : (k n : ℕ) → k ≡ n → (k == n) ≡ true
own_number k n e = eq-eqb k n e

module _ (keys : List DoubleKey) (key : DoubleKey) where
  abbrev more : List DoubleKey
  more = keys ++ key ∷ []

  numbers-other : (x : DoubleKey) → is_same_key x key ≡ false → numbers_of more x ≡ numbers_of keys x
  numbers-other x other = numbers-push keys key x ∙ ap (λ b. numbers_of keys x ++ cond b (length keys ∷ []) []) other ∙ append-nil (numbers_of keys x)

  numbers-own : numbers_of more key ≡ numbers_of keys key ++ length keys ∷ []
  numbers-own = numbers-push keys key key ∙ ap (λ b. numbers_of keys key ++ cond b (length keys ∷ []) []) (own_key key)

  entry-other : (n : ℕ) (x : DoubleKey) → is_same_key x key ≡ false → entry_at more n x ≡ entry_at keys n x
  entry-other n x other = ap (entry_for n x) (numbers-other x other)

  -- where none of these is the first game of the key, they have the entries that they had
  entries-kept : (n : ℕ) (xs : List DoubleKey) → ((k : ℕ) → n ≤ k → k < n + length xs → (is_first k (numbers_of more key) ≡ false) × (is_first k (numbers_of keys key) ≡ false)) → numbered (entry_at more) n xs ≡ numbered (entry_at keys) n xs
  entries-kept n xs none = numbered-same (entry_at more) (entry_at keys) n xs (λ k x le lt. elim (told_key x key) [
    | inl (same, is) ↦
        let not = none k le lt in
        let nothing : entry_at more k key ≡ entry_at keys k key =
        ap (λ b. if b then record { key = key; games = numbers_of more key } ∷ [] else []) not.0
        ∙ sym (ap (λ b. if b then record { key = key; games = numbers_of keys key } ∷ [] else []) not.1) in
        subst (λ (y : DoubleKey). entry_at more k y ≡ entry_at keys k y) (sym is) nothing
    | inr (other, back) ↦ entry-other k x other
  ])

  -- ---- a new key

  module _ (unseen : numbers_of keys key ≡ []) where
    with-new : (n : ℕ) (xs : List DoubleKey) → with_number (numbered (entry_at keys) n xs) key (length keys) ≡ numbered (entry_at keys) n xs ++ record { key = key; games = length keys ∷ [] } ∷ []
    with-new n [] = refl
    with-new n (x ∷ xs) = elim (told_key key x) [
      | inl (same, is) ↦
          let none : entry_at keys n x ≡ [] = subst (λ (y : DoubleKey). entry_at keys n y ≡ []) is (ap (entry_for n key) unseen) in
          subst (λ (es : List Entry). with_number (es ++ numbered (entry_at keys) (n + 1) xs) key (length keys) ≡ (es ++ numbered (entry_at keys) (n + 1) xs) ++ record { key = key; games = length keys ∷ [] } ∷ []) (sym none) (with-new (n + 1) xs)
      | inr (other, back) ↦
          passed_by key x (length keys) n (numbers_of keys x) (numbered (entry_at keys) (n + 1) xs) other
          ∙ ap (λ es. entry_at keys n x ++ es) (with-new (n + 1) xs)
          ∙ sym (append_assoc (entry_at keys n x) (numbered (entry_at keys) (n + 1) xs) (record { key = key; games = length keys ∷ [] } ∷ []))
    ]

    entries-new : with_number (all_entries keys) key (length keys) ≡ all_entries more
    entries-new =
        let own : numbers_of more key ≡ length keys ∷ [] = numbers-own ∙ ap (λ ns. ns ++ length keys ∷ []) unseen in
        let kept = entries-kept 0 keys (λ k le lt. (ap (is_first k) own ∙ no_number k (length keys) (λ e. omega (arith, e, lt)), ap (is_first k) unseen)) in
        let last : entry_at more (length keys) key ≡ record { key = key; games = length keys ∷ [] } ∷ [] =
        ap (entry_for (length keys) key) own ∙ ap (λ b. if b then record { key = key; games = length keys ∷ [] } ∷ [] else []) (own_number (length keys) (length keys) refl) in
        with-new 0 keys ∙ sym (numbered-last (entry_at more) keys key ∙ (λ i. kept i ++ last i))

  -- ---- a key that was seen

  module _ (j : ℕ) (others : List ℕ) (seen : numbers_of keys key ≡ j ∷ others) where
    seen-more : numbers_of more key ≡ j ∷ (others ++ length keys ∷ [])
    seen-more = numbers-own ∙ ap (λ ns. ns ++ length keys ∷ []) seen

    not-first : (k : ℕ) → k ≢ j → (is_first k (numbers_of more key) ≡ false) × (is_first k (numbers_of keys key) ≡ false)
    not-first k ne = (ap (is_first k) seen-more ∙ no_number k j ne, ap (is_first k) seen ∙ no_number k j ne)

    with-seen : (n : ℕ) (xs : List DoubleKey) (d : ℕ) → slice_get xs d ≡ Some key → n + d ≡ j → with_number (numbered (entry_at keys) n xs) key (length keys) ≡ numbered (entry_at more) n xs
    with-seen n [] d at e = absurd cc
    with-seen n (x ∷ xs) zero at e =
        let is : x ≡ key = cc (at) in
        let first = own_number n j (omega (arith, e)) in
        let before : entry_at keys n x ≡ record { key = key; games = j ∷ others } ∷ [] =
        ap (entry_at keys n) is ∙ ap (entry_for n key) seen ∙ ap (λ b. if b then record { key = key; games = j ∷ others } ∷ [] else []) first in
        let after : entry_at more n x ≡ record { key = key; games = j ∷ (others ++ length keys ∷ []) } ∷ [] =
        ap (entry_at more n) is ∙ ap (entry_for n key) seen-more ∙ ap (λ b. if b then record { key = key; games = j ∷ (others ++ length keys ∷ []) } ∷ [] else []) first in
        let kept = entries-kept (n + 1) xs (λ k le lt. not-first k (λ same. omega (arith, same, le, e))) in
        let there : with_number (record { key = key; games = j ∷ others } ∷ numbered (entry_at keys) (n + 1) xs) key (length keys) ≡ record { key = key; games = j ∷ (others ++ length keys ∷ []) } ∷ numbered (entry_at keys) (n + 1) xs =
        ap (λ b. if b then record { key = key; games = j ∷ (others ++ length keys ∷ []) } ∷ numbered (entry_at keys) (n + 1) xs else record { key = key; games = j ∷ others } ∷ with_number (numbered (entry_at keys) (n + 1) xs) key (length keys)) (own_key key) in
        ap (λ es. with_number (es ++ numbered (entry_at keys) (n + 1) xs) key (length keys)) before ∙ there ∙ (λ i. sym after i ++ sym kept i)
    with-seen n (x ∷ xs) (suc d) at e =
        let rest = with-seen (n + 1) xs d at (omega (arith, e)) in
        elim (told_key key x) [
          | inl (same, is) ↦
              let not = not-first n (λ first. omega (arith, first, e)) in
              let none : entry_at keys n x ≡ [] = subst (λ (y : DoubleKey). entry_at keys n y ≡ []) is (ap (λ b. if b then record { key = key; games = numbers_of keys key } ∷ [] else []) not.1) in
              let none_more : entry_at more n x ≡ [] = subst (λ (y : DoubleKey). entry_at more n y ≡ []) is (ap (λ b. if b then record { key = key; games = numbers_of more key } ∷ [] else []) not.0) in
              ap (λ es. with_number (es ++ numbered (entry_at keys) (n + 1) xs) key (length keys)) none ∙ rest ∙ ap (λ es. es ++ numbered (entry_at more) (n + 1) xs) (sym none_more)
          | inr (other, back) ↦
              passed_by key x (length keys) n (numbers_of keys x) (numbered (entry_at keys) (n + 1) xs) other
              ∙ (λ i. sym (entry-other n x back) i ++ rest i)
        ]

    entries-seen : with_number (all_entries keys) key (length keys) ≡ all_entries more
    entries-seen =
        let (d, at, lt, is) = first_there key 0 keys j others (sym (numbers-numbered (is_same_key key) keys) ∙ seen) in
        let not = not-first (length keys) (λ e. omega (arith, e, at, lt)) in
        let last : entry_at more (length keys) key ≡ [] = ap (λ b. if b then record { key = key; games = numbers_of more key } ∷ [] else []) not.0 in
        with-seen 0 keys d is at
        ∙ sym (append-nil (numbered (entry_at more) 0 keys))
        ∙ ap (λ es. numbered (entry_at more) 0 keys ++ es) (sym last)
        ∙ sym (numbered-last (entry_at more) keys key)

  pub entries-more : with_number (all_entries keys) key (length keys) ≡ all_entries more
  entries-more = by (numbers_of keys key) refl
    where
      by : (ns : List ℕ) → numbers_of keys key ≡ ns → with_number (all_entries keys) key (length keys) ≡ all_entries more
      by [] e = entries-new e
      by (j ∷ others) e = entries-seen j others e

-- ---- groups

group_for : (k : ℕ) (key : DoubleKey) (ns : List ℕ) → flat_map group_in (entry_for k key ns) ≡ (if is_first_of_several k ns && tells_a_point key then record { form = key.form; games = ns } ∷ [] else [])
group_for k key [] = refl
group_for k key (a ∷ []) = by (k == a)
  where
    by : (b : Bool) → flat_map group_in (if b then record { key = key; games = a ∷ [] } ∷ [] else []) ≡ []
    by true = refl
    by false = refl
group_for k key (a ∷ b ∷ ns) = by (k == a)
  where
    by : (t : Bool) → flat_map group_in (if t then record { key = key; games = a ∷ b ∷ ns } ∷ [] else []) ≡ (if t && tells_a_point key then record { form = key.form; games = a ∷ b ∷ ns } ∷ [] else [])
    by true = append-nil (group_in (record { key = key; games = a ∷ b ∷ ns }))
    by false = refl

pub groups-entries : (keys : List DoubleKey) → flat_map group_in (all_entries keys) ≡ groups_of keys
groups-entries keys =
    let one : ℕ → DoubleKey → List Group = λ k key. if is_first_of_several k (numbers_of keys key) && tells_a_point key then record { form = key.form; games = numbers_of keys key } ∷ [] else [] in
    flat_map-numbered group_in (entry_at keys) 0 keys
    ∙ numbered-same (λ k key. flat_map group_in (entry_at keys k key)) one 0 keys (λ k key le lt. group_for k key (numbers_of keys key))
    ∙ sym (numbered-all one keys)
