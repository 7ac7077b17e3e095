-- Two ordered lists of entries joined to one.
use Rattle.std.proofs.Common.{◌≡◌, ℕ, ◌+◌, ◌<◌, ◌≤◌, ◌⊎◌, ◌↔◌, Bool, IsFalse, IsTrue, List, [], ◌∷◌, ◌++◌, length, get_or, replicate, set, take, take_all, refl, sym, ap, ◌∙◌, subst, subst₂, arith, inl, inr}
use Rattle.std.specs.Prelude.{Contains}
use Rattle.std.specs.List.Sorted.{IsStrictlyIncreasing}
use Rattle.std.proofs.Math.Seq.{get_or-append_seam}
use Rattle.std.proofs.lemmas.Bool.{cases_lt}
use Rattle.std.proofs.lemmas.List.{get_or-replicate, get_or_append_left, get_or_default, length-append, length-replicate, length-set, take_more_set}
use Rattle.std.proofs.lemmas.List.Kept.{AllPairs-from_increasing}
use Rattle.corner_index.specs.CornerGames.{AreBelow, AreEntriesOfBoth, entry}
use Rattle.corner_index.specs.Entries.{AreAllBelow, AreListsJoined, AreOrdered, StandsBelow, entries_of}
use Rattle.corner_index.proofs.GamesWith.{stands, stood}

-- an entry comes before another: by its number, and where they have one number by its game
abbrev pub Precedes : ℕ → ℕ → ℕ → ℕ → Type 0
Precedes key g l h = (key < l) ⊎ ((key ≡ l) × (g < h))

precedes-trans : (k g l h m i : ℕ) → Precedes k g l h → Precedes l h m i → Precedes k g m i
precedes-trans k g l h m i one two = elim one [
  | inl less ↦ elim two [
    | inl more ↦ inl (omega (arith, less, more))
    | inr (same, _) ↦ inl (omega (arith, less, same))
  ]
  | inr (same, low) ↦ elim two [
    | inl more ↦ inl (omega (arith, same, more))
    | inr (also, high) ↦ inr (same ∙ also, omega (arith, low, high))
  ]
]

precedes-same : (k g l h m i n j : ℕ) → k ≡ m → g ≡ i → l ≡ n → h ≡ j → Precedes m i n j → Precedes k g l h
precedes-same k g l h m i n j e f p q one = elim one [
  | inl less ↦ inl (omega (arith, less, e, p))
  | inr (same, low) ↦ inr (e ∙ same ∙ sym p, omega (arith, low, f, q))
]

-- ---- one entry more
module _ (keys games : List ℕ) (key game : ℕ) (as_many : length games ≡ length keys) where
  abbrev more_keys : List ℕ
  more_keys = keys ++ key ∷ []

  abbrev more_games : List ℕ
  more_games = games ++ game ∷ []

  length-more : length more_keys ≡ length keys + 1
  length-more = length-append keys (key ∷ [])

  key_before : (k : ℕ) → k < length keys → get_or more_keys k 0 ≡ get_or keys k 0
  key_before k lt = get_or_append_left keys (key ∷ []) 0 k lt

  game_before : (k : ℕ) → k < length keys → get_or more_games k 0 ≡ get_or games k 0
  game_before k lt = get_or_append_left games (game ∷ []) 0 k (omega (arith, lt, as_many))

  key_last : (k : ℕ) → k ≡ length keys → get_or more_keys k 0 ≡ key
  key_last k is = ap (λ n. get_or more_keys n 0) is ∙ get_or-append_seam keys key [] 0

  game_last : (k : ℕ) → k ≡ length keys → get_or more_games k 0 ≡ game
  game_last k is = ap (λ n. get_or more_games n 0) (is ∙ sym as_many) ∙ get_or-append_seam games game [] 0

  last_is : (k : ℕ) → length keys ≤ k → k < length more_keys → k ≡ length keys
  last_is k high lt = omega (arith, high, lt, length-more)

  -- all of them come before an entry
  pub pushed-precede : (l h : ℕ) → ((k : ℕ) → k < length keys → Precedes (get_or keys k 0) (get_or games k 0) l h) → Precedes key game l h →
      (k : ℕ) → k < length more_keys → Precedes (get_or more_keys k 0) (get_or more_games k 0) l h
  pushed-precede l h before new k lt = elim (cases_lt k (length keys)) [
    | inl low ↦ precedes-same _ _ l h _ _ l h (key_before k low) (game_before k low) refl refl (before k low)
    | inr high ↦ precedes-same _ _ l h _ _ l h (key_last k (last_is k high lt)) (game_last k (last_is k high lt)) refl refl new
  ]

  pub pushed-ordered : AreOrdered keys games → ((k : ℕ) → k < length keys → Precedes (get_or keys k 0) (get_or games k 0) key game) → AreOrdered more_keys more_games
  pushed-ordered are before = record {
    as_many = length-append games (game ∷ []) ∙ ap (λ n. n + 1) as_many ∙ sym length-more;
    ordered = λ i j lt within. elim (cases_lt j (length keys)) [
      | inl low ↦
          let i_low : i < length keys = omega (arith, lt, low) in
          precedes-same _ _ _ _ _ _ _ _ (key_before i i_low) (game_before i i_low) (key_before j low) (game_before j low) (are.ordered i j lt low)
      | inr high ↦
          let last = last_is j high within in
          let i_low : i < length keys = omega (arith, lt, last) in
          precedes-same _ _ _ _ _ _ _ _ (key_before i i_low) (game_before i i_low) (key_last j last) (game_last j last) (before i i_low)
    ];
  }

  pub pushed-stands : (l h : ℕ) → StandsBelow more_keys more_games (length more_keys) l h ↔ (StandsBelow keys games (length keys) l h ⊎ ((key ≡ l) × (game ≡ h)))
  pushed-stands l h = (
    λ (k, lt, key_is, game_is). elim (cases_lt k (length keys)) [
      | inl low ↦ inl (k, low, sym (key_before k low) ∙ key_is, sym (game_before k low) ∙ game_is)
      | inr high ↦ inr (sym (key_last k (last_is k high lt)) ∙ key_is, sym (game_last k (last_is k high lt)) ∙ game_is)
    ],
    λ c. elim c [
      | inl (k, lt, key_is, game_is) ↦ (k, omega (arith, lt, length-more), key_before k lt ∙ key_is, game_before k lt ∙ game_is)
      | inr (key_is, game_is) ↦ (length keys, omega (arith, length-more), key_last (length keys) refl ∙ key_is, game_last (length keys) refl ∙ game_is)
    ],
  )

-- the entries up to one place, and the one there
stands-more : (keys games : List ℕ) (i l h : ℕ) → StandsBelow keys games (i + 1) l h ↔ (StandsBelow keys games i l h ⊎ ((get_or keys i 0 ≡ l) × (get_or games i 0 ≡ h)))
stands-more keys games i l h = (
  λ (k, lt, key_is, game_is). elim (cases_lt k i) [
    | inl low ↦ inl (k, low, key_is, game_is)
    | inr high ↦
        let last : i ≡ k = omega (arith, lt, high) in
        inr (ap (λ n. get_or keys n 0) last ∙ key_is, ap (λ n. get_or games n 0) last ∙ game_is)
  ],
  λ c. elim c [
    | inl (k, lt, key_is, game_is) ↦ (k, omega (arith, lt), key_is, game_is)
    | inr (key_is, game_is) ↦ (i, omega arith, key_is, game_is)
  ],
)

-- The first entries of both lists are joined. All of them come before the next one of each list.
pub record IsJoinedTo (a_keys a_games b_keys b_games : List ℕ) (first i j : ℕ) (keys games : List ℕ) : Type 0 where
  pub a_most : i ≤ length a_keys
  pub b_most : j ≤ length b_keys
  pub ordered : AreOrdered keys games
  pub before_a : i < length a_keys → (k : ℕ) → k < length keys → Precedes (get_or keys k 0) (get_or games k 0) (get_or a_keys i 0) (get_or a_games i 0)
  pub before_b : j < length b_keys → (k : ℕ) → k < length keys → Precedes (get_or keys k 0) (get_or games k 0) (get_or b_keys j 0) (first + get_or b_games j 0)
  pub exact : (key g : ℕ) → StandsBelow keys games (length keys) key g ↔ (StandsBelow a_keys a_games i key g ⊎ ((h : ℕ) × StandsBelow b_keys b_games j key h × (g ≡ first + h)))

module _ (a_keys a_games b_keys b_games : List ℕ) (first : ℕ) where
  pub IsJoinedTo-start : IsJoinedTo a_keys a_games b_keys b_games first 0 0 [] []
  IsJoinedTo-start = record {
    a_most = omega arith;
    b_most = omega arith;
    ordered = record { as_many = refl; ordered = λ i j lt within. absurd (omega (arith, within)) };
    before_a = λ some k lt. absurd (omega (arith, lt));
    before_b = λ some k lt. absurd (omega (arith, lt));
    exact = λ key g. (
      λ (k, lt, _, _). absurd (omega (arith, lt)),
      λ c. elim c [
        | inl (k, lt, _, _) ↦ absurd (omega (arith, lt))
        | inr (h, (k, lt, _, _), _) ↦ absurd (omega (arith, lt))
      ],
    );
  }

  module _ (a_ordered : AreOrdered a_keys a_games) (b_ordered : AreOrdered b_keys b_games) (below : AreAllBelow a_games first) (i j : ℕ) (keys games : List ℕ) (are : IsJoinedTo a_keys a_games b_keys b_games first i j keys games) where
    -- the next entry is one of the first list
    pub IsJoinedTo-first : (key game : ℕ) → key ≡ get_or a_keys i 0 → game ≡ get_or a_games i 0 → i < length a_keys → (j < length b_keys → get_or a_keys i 0 ≤ get_or b_keys j 0) →
        IsJoinedTo a_keys a_games b_keys b_games first (i + 1) j (keys ++ key ∷ []) (games ++ game ∷ [])
    IsJoinedTo-first key game key_is game_is some least =
        let many = are.ordered.as_many in
        let small : get_or a_games i 0 < first = below i (omega (arith, some, a_ordered.as_many)) in
        record {
          a_most = omega (arith, some);
          b_most = are.b_most;
          ordered = pushed-ordered keys games key game many are.ordered (λ k lt. precedes-same _ _ _ _ _ _ _ _ refl refl key_is game_is (are.before_a some k lt));
          before_a = λ more.
              let next : Precedes (get_or a_keys i 0) (get_or a_games i 0) (get_or a_keys (i + 1) 0) (get_or a_games (i + 1) 0) = a_ordered.ordered i (i + 1) (omega arith) more in
              pushed-precede keys games key game many _ _ (λ k lt. precedes-trans _ _ _ _ _ _ (are.before_a some k lt) next) (precedes-same _ _ _ _ _ _ _ _ key_is game_is refl refl next);
          before_b = λ other.
              let least_here = least other in
              pushed-precede keys games key game many _ _ (are.before_b other) (elim (cases_lt key (get_or b_keys j 0)) [
                | inl less ↦ inl less
                | inr ge ↦ inr (omega (arith, ge, least_here, key_is), omega (arith, small, game_is))
              ]);
          exact = λ l h. (
            λ c. elim ((pushed-stands keys games key game many l h).0 c) [
              | inl old ↦ elim ((are.exact l h).0 old) [
                | inl of_a ↦ inl ((stands-more a_keys a_games i l h).1 (inl of_a))
                | inr of_b ↦ inr of_b
              ]
              | inr (same_key, same_game) ↦ inl ((stands-more a_keys a_games i l h).1 (inr (sym key_is ∙ same_key, sym game_is ∙ same_game)))
            ],
            λ c. elim c [
              | inl of_a ↦ elim ((stands-more a_keys a_games i l h).0 of_a) [
                | inl old ↦ (pushed-stands keys games key game many l h).1 (inl ((are.exact l h).1 (inl old)))
                | inr (same_key, same_game) ↦ (pushed-stands keys games key game many l h).1 (inr (key_is ∙ same_key, game_is ∙ same_game))
              ]
              | inr of_b ↦ (pushed-stands keys games key game many l h).1 (inl ((are.exact l h).1 (inr of_b)))
            ],
          );
        }

    -- the next entry is one of the second list
    pub IsJoinedTo-second : (key game : ℕ) → key ≡ get_or b_keys j 0 → game ≡ first + get_or b_games j 0 → j < length b_keys → (i < length a_keys → get_or b_keys j 0 < get_or a_keys i 0) →
        IsJoinedTo a_keys a_games b_keys b_games first i (j + 1) (keys ++ key ∷ []) (games ++ game ∷ [])
    IsJoinedTo-second key game key_is game_is some least =
        let many = are.ordered.as_many in
        record {
          a_most = are.a_most;
          b_most = omega (arith, some);
          ordered = pushed-ordered keys games key game many are.ordered (λ k lt. precedes-same _ _ _ _ _ _ _ _ refl refl key_is game_is (are.before_b some k lt));
          before_a = λ other.
              let least_here = least other in
              pushed-precede keys games key game many _ _ (are.before_a other) (inl (omega (arith, least_here, key_is)));
          before_b = λ more.
              let next : Precedes (get_or b_keys j 0) (first + get_or b_games j 0) (get_or b_keys (j + 1) 0) (first + get_or b_games (j + 1) 0) = elim (b_ordered.ordered j (j + 1) (omega arith) more) [
                | inl less ↦ inl less
                | inr (same, low) ↦ inr (same, omega (arith, low))
              ] in
              pushed-precede keys games key game many _ _ (λ k lt. precedes-trans _ _ _ _ _ _ (are.before_b some k lt) next) (precedes-same _ _ _ _ _ _ _ _ key_is game_is refl refl next);
          exact = λ l h. (
            λ c. elim ((pushed-stands keys games key game many l h).0 c) [
              | inl old ↦ elim ((are.exact l h).0 old) [
                | inl of_a ↦ inl of_a
                | inr (g, there, moved) ↦ inr (g, (stands-more b_keys b_games j l g).1 (inl there), moved)
              ]
              | inr (same_key, same_game) ↦ inr (get_or b_games j 0, (stands-more b_keys b_games j l (get_or b_games j 0)).1 (inr (sym key_is ∙ same_key, refl)), sym same_game ∙ game_is)
            ],
            λ c. elim c [
              | inl of_a ↦ (pushed-stands keys games key game many l h).1 (inl ((are.exact l h).1 (inl of_a)))
              | inr (g, there, moved) ↦ elim ((stands-more b_keys b_games j l g).0 there) [
                | inl old ↦ (pushed-stands keys games key game many l h).1 (inl ((are.exact l h).1 (inr (g, old, moved))))
                | inr (same_key, same_game) ↦ (pushed-stands keys games key game many l h).1 (inr (key_is ∙ same_key, game_is ∙ ap (λ n. first + n) same_game ∙ sym moved))
              ]
            ],
          );
        }

  -- when all of both lists are joined
  pub IsJoinedTo-end : (i j : ℕ) (keys games : List ℕ) → IsJoinedTo a_keys a_games b_keys b_games first i j keys games → length a_keys + length b_keys ≤ i + j → AreListsJoined a_keys a_games b_keys b_games first keys games
  IsJoinedTo-end i j keys games are all =
      let i_is : i ≡ length a_keys = omega (arith, all, are.a_most, are.b_most) in
      let j_is : j ≡ length b_keys = omega (arith, all, are.a_most, are.b_most) in
      rw (← i_is, ← j_is) are.exact

-- The first entries of both lists are joined, in lists that have room for all.
pub record IsJoinedIn (a_keys a_games b_keys b_games : List ℕ) (first i j at count : ℕ) (keys games : List ℕ) : Type 0 where
  pub joined : IsJoinedTo a_keys a_games b_keys b_games first i j (take at keys) (take at games)
  pub so_many : i + j ≡ at
  pub keys_count : length keys ≡ count
  pub games_count : length games ≡ count

pub IsJoinedIn-start : (a_keys a_games b_keys b_games : List ℕ) (first count : ℕ) (keys games : List ℕ) → length keys ≡ count → length games ≡ count → IsJoinedIn a_keys a_games b_keys b_games first 0 0 0 count keys games
IsJoinedIn-start a_keys a_games b_keys b_games first count keys games keys_count games_count = record {
  joined = IsJoinedTo-start a_keys a_games b_keys b_games first;
  so_many = refl;
  keys_count = keys_count;
  games_count = games_count;
}

pub IsJoinedIn-first : (a_keys a_games b_keys b_games : List ℕ) (first : ℕ) → AreOrdered a_keys a_games → AreOrdered b_keys b_games → AreAllBelow a_games first → (i j at count : ℕ) (keys games : List ℕ) → IsJoinedIn a_keys a_games b_keys b_games first i j at count keys games → at < count
    → (key game : ℕ) → key ≡ get_or a_keys i 0 → game ≡ get_or a_games i 0 → i < length a_keys → (j < length b_keys → get_or a_keys i 0 ≤ get_or b_keys j 0) → IsJoinedIn a_keys a_games b_keys b_games first (i + 1) j (at + 1) count (set keys at key) (set games at game)
IsJoinedIn-first a_keys a_games b_keys b_games first a_ordered b_ordered below i j at count keys games are left key game key_is game_is some least = record {
  joined = subst₂ (λ (ks gs : List ℕ). IsJoinedTo a_keys a_games b_keys b_games first (i + 1) j ks gs) (sym (take_more_set keys at key (omega (arith, left, are.keys_count)))) (sym (take_more_set games at game (omega (arith, left, are.games_count))))
      (IsJoinedTo-first a_keys a_games b_keys b_games first a_ordered b_ordered below i j (take at keys) (take at games) are.joined key game key_is game_is some least);
  so_many = omega (arith, are.so_many);
  keys_count = length-set keys at key ∙ are.keys_count;
  games_count = length-set games at game ∙ are.games_count;
}

pub IsJoinedIn-second : (a_keys a_games b_keys b_games : List ℕ) (first : ℕ) → AreOrdered a_keys a_games → AreOrdered b_keys b_games → AreAllBelow a_games first → (i j at count : ℕ) (keys games : List ℕ) → IsJoinedIn a_keys a_games b_keys b_games first i j at count keys games → at < count
    → (key game : ℕ) → key ≡ get_or b_keys j 0 → game ≡ first + get_or b_games j 0 → j < length b_keys → (i < length a_keys → get_or b_keys j 0 < get_or a_keys i 0) → IsJoinedIn a_keys a_games b_keys b_games first i (j + 1) (at + 1) count (set keys at key) (set games at game)
IsJoinedIn-second a_keys a_games b_keys b_games first a_ordered b_ordered below i j at count keys games are left key game key_is game_is some least = record {
  joined = subst₂ (λ (ks gs : List ℕ). IsJoinedTo a_keys a_games b_keys b_games first i (j + 1) ks gs) (sym (take_more_set keys at key (omega (arith, left, are.keys_count)))) (sym (take_more_set games at game (omega (arith, left, are.games_count))))
      (IsJoinedTo-second a_keys a_games b_keys b_games first a_ordered b_ordered below i j (take at keys) (take at games) are.joined key game key_is game_is some least);
  so_many = omega (arith, are.so_many);
  keys_count = length-set keys at key ∙ are.keys_count;
  games_count = length-set games at game ∙ are.games_count;
}

-- when the lists are full
pub IsJoinedIn-whole : (a_keys a_games b_keys b_games : List ℕ) (first i j at count : ℕ) (keys games : List ℕ) → IsJoinedIn a_keys a_games b_keys b_games first i j at count keys games → count ≤ at → IsJoinedTo a_keys a_games b_keys b_games first i j keys games
IsJoinedIn-whole a_keys a_games b_keys b_games first i j at count keys games are all =
    subst₂ (λ (ks gs : List ℕ). IsJoinedTo a_keys a_games b_keys b_games first i j ks gs) (take_all at keys (omega (arith, all, are.keys_count))) (take_all at games (omega (arith, all, are.games_count))) are.joined

-- ---- seen as entries

pub entries-joined : (a_keys a_games b_keys b_games : List ℕ) (first : ℕ) (keys games : List ℕ) → AreListsJoined a_keys a_games b_keys b_games first keys games → AreEntriesOfBoth (entries_of a_keys a_games) (entries_of b_keys b_games) first (entries_of keys games)
entries-joined a_keys a_games b_keys b_games first keys games are key g = (
  λ c. elim ((are key g).0 (stands keys games key g c)) [
    | inl there ↦ inl (stood a_keys a_games key g there)
    | inr (h, there, moved) ↦ inr (h, stood b_keys b_games key h there, moved)
  ],
  λ c. elim c [
    | inl of_a ↦ stood keys games key g ((are key g).1 (inl (stands a_keys a_games key g of_a)))
    | inr (h, of_b, moved) ↦ stood keys games key g ((are key g).1 (inr (h, stands b_keys b_games key h of_b, moved)))
  ],
)

pub all_below : (keys games : List ℕ) (count : ℕ) → AreOrdered keys games → AreBelow (entries_of keys games) count → AreAllBelow games count
all_below keys games count are below k lt =
    below (get_or keys k 0) (get_or games k 0) (stood keys games (get_or keys k 0) (get_or games k 0) (k, omega (arith, lt, are.as_many), refl, refl))

-- ---- the entries of one game
module _ (keys : List ℕ) where
  abbrev zeros : List ℕ
  zeros = replicate (length keys) 0

  pub one_game-ordered : IsStrictlyIncreasing keys → AreOrdered keys zeros
  one_game-ordered rises = record {
    as_many = length-replicate (length keys) 0;
    ordered = λ i j lt within. inl (AllPairs-from_increasing keys rises i j 0 lt within);
  }

  pub one_game-exact : (key g : ℕ) → Contains (entries_of keys zeros) (entry key g) ↔ ((g < 1) × Contains keys key)
  one_game-exact key g = (
    λ c.
        let (k, lt, key_is, game_is) = stands keys zeros key g c in
        let none : get_or zeros k 0 ≡ 0 = get_or-replicate (length keys) k 0 0 lt in
        (omega (arith, none, game_is), (k, lt, get_or_default keys k key 0 lt ∙ key_is)),
    λ (small, (k, lt, key_is)).
        let none : get_or zeros k 0 ≡ 0 = get_or-replicate (length keys) k 0 0 lt in
        stood keys zeros key g (k, lt, get_or_default keys k 0 key lt ∙ key_is, omega (arith, none, small)),
  )

-- ---- which list has the next entry, by the answer of the test
module _ (a b tested_a tested_b : List ℕ) (i j : ℕ) (test : Bool) (a_is : tested_a ≡ a) (b_is : tested_b ≡ b) (is : IsTrue test ↔ ((i < length tested_a) × (j < length tested_b → get_or tested_a i 0 ≤ get_or tested_b j 0))) where
  tested : IsTrue test ↔ ((i < length a) × (j < length b → get_or a i 0 ≤ get_or b j 0))
  tested = subst (λ (xs : List ℕ). IsTrue test ↔ ((i < length xs) × (j < length b → get_or xs i 0 ≤ get_or b j 0))) a_is (subst (λ (ys : List ℕ). IsTrue test ↔ ((i < length tested_a) × (j < length ys → get_or tested_a i 0 ≤ get_or ys j 0))) b_is is)

  pub first_is_next : IsTrue test → (i < length a) × (j < length b → get_or a i 0 ≤ get_or b j 0)
  first_is_next on = tested.0 on

  pub second_is_next : IsFalse test → i + j < length a + length b → i ≤ length a → (j < length b) × (i < length a → get_or b j 0 < get_or a i 0)
  second_is_next off left within =
      let not_first : (i < length a) × (j < length b → get_or a i 0 ≤ get_or b j 0) → ⊥ = λ h. let on = tested.1 h in cc in
      let some : j < length b = elim (cases_lt j (length b)) [
        | inl low ↦ low
        | inr high ↦ elim (cases_lt i (length a)) [
          | inl low ↦ absurd (not_first (low, λ lt. absurd (omega (arith, lt, high))))
          | inr full ↦ omega (arith, left, full, high)
        ]
      ] in (
        some,
        λ low. elim (cases_lt (get_or b j 0) (get_or a i 0)) [
          | inl less ↦ less
          | inr ge ↦ absurd (not_first (low, λ lt. ge))
        ],
      )
