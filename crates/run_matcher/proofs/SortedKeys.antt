-- What keys in order stand for, each occurrence once.
use Rattle.std.proofs.Common.{◌≡◌, ◌↔◌, ℕ, ◌+◌, ◌-◌, ◌/◌, ◌<◌, ◌≤◌, inl, inr, List, [], ◌∷◌, ◌++◌, length, get_or, refl, sym, ap, ◌∙◌, arith, subst}
use Rattle.std.specs.Prelude.{AllPairs, Contains, IsPermutation, IsSorted}
use Rattle.std.specs.Ordering.{nat_cmp}
use Rattle.std.proofs.lemmas.Bool.{cases_eq, cases_lt}
use Rattle.std.proofs.lemmas.List.{get_or_default, length-map, map-append}
use Rattle.std.proofs.lemmas.List.Elements.{Contains-append_left, Contains-get_or, Contains-push, Contains-push_cases}
use Rattle.std.proofs.lemmas.List.Quantifiers.{all_pairs_push}
use Rattle.std.proofs.lemmas.List.Sorted.{Contains-permutation, IsPermutation-sym}
use Rattle.std.proofs.lemmas.Map.Keys.{ge_from_not_lt}
use Rattle.kb_geometry.proofs.Lists.{same_order}
use Rattle.capture_board.specs.Deltas.{Deltas}
use Rattle.pattern_images.specs.Placements.{Placement}
use Rattle.pattern_occurrences.specs.declared.occurrence.Occurrence.{Occurrence}
use Rattle.pattern_occurrences.specs.Occurrences.{StandsBefore, occurrences_in}
use Rattle.pattern_occurrences.proofs.OccurrenceLaw.{occurrences-ordered}
use Rattle.run_matcher.specs.GoingOn.{occurrences_of}
use Rattle.run_matcher.specs.Keys.{begun_list, begun_of, occurrence_of, occurrence_number}
use Rattle.run_matcher.specs.declared.begun.Begun.{Begun}
use Rattle.run_matcher.proofs.KeyLists.{begun-of, map-member, member-map, of-begun}

number-order : (a b : ℕ) → a < b → StandsBefore (occurrence_of a) (occurrence_of b)
number-order a b less = elim (cases_lt (a / 65536) (b / 65536)) [
  | inl earlier ↦ inl earlier
  | inr from ↦ inr (omega arith, omega arith)
]

one_way : (x y : Occurrence) → StandsBefore x y → StandsBefore y x → ⊥
one_way x y (inl a) (inl b) = omega arith
one_way x y (inl a) (inr b) = omega (arith, b.0)
one_way x y (inr a) (inl b) = omega (arith, a.0)
one_way x y (inr a) (inr b) = omega (arith, a.1, b.1)

abbrev key_at : List ℕ → ℕ → ℕ
key_at keys i = get_or keys i 0

-- The occurrence of each of the first so many keys is in the list, once and in order. Each has a number
-- before the next one, which is one behind that of the last key.
pub record AreOnceTo (keys : List ℕ) (i next : ℕ) (found : List Begun) : Type 0 where
  pub from : (b : Begun) → Contains found b → Contains (begun_list keys) b
  pub all : (j : ℕ) → j < i → Contains (occurrences_of found) (occurrence_of (occurrence_number (key_at keys j)))
  pub ordered : AllPairs StandsBefore (occurrences_of found)
  pub below : (b : Begun) → Contains found b → (number : ℕ) × (b.occurrence ≡ occurrence_of number) × (number < next)
  pub first : i ≡ 0 → next ≡ 0
  pub last : (j : ℕ) → i ≡ j + 1 → next ≡ occurrence_number (key_at keys j) + 1

pub AreOnceTo-none : (keys : List ℕ) (found : List Begun) → found ≡ [] → AreOnceTo keys 0 0 found
AreOnceTo-none keys found none = record {
  from = λ b h. absurd (omega (arith, h.1, ap length none));
  all = λ j lt. absurd (omega (arith, lt));
  ordered = λ i j d before lt. absurd (omega (arith, lt, length-map found (λ (b : Begun). b.occurrence), ap length none));
  below = λ b h. absurd (omega (arith, h.1, ap length none));
  first = λ e. e;
  last = λ j e. absurd (omega (arith, e));
}

module _ (keys : List ℕ) (sorted : IsSorted nat_cmp keys) (i next key : ℕ) (found : List Begun) (lt : i < length keys) (is : key ≡ get_or keys i key) (so_far : AreOnceTo keys i next found) where
  key-is : key_at keys i ≡ key
  key-is = get_or_default keys i 0 key lt ∙ sym is

  number-is : occurrence_number (key_at keys i) ≡ occurrence_number key
  number-is = ap occurrence_number key-is

  -- one that is there already
  repeated : occurrence_number key < next → (j : ℕ) → i ≡ j + 1 → occurrence_number key ≡ occurrence_number (key_at keys j)
  repeated less j e =
      let rises : key_at keys j ≤ key_at keys (j + 1) = ge_from_not_lt (key_at keys (j + 1)) (key_at keys j) (sorted j 0 (omega arith) (omega (arith, e, lt))) in
      let at_i : key_at keys (j + 1) ≡ key = ap (key_at keys) (sym e) ∙ key-is in
      omega (arith, less, so_far.last j e, rises, at_i)

  before : 0 < i → (j : ℕ) × (i ≡ j + 1)
  before some = (i - 1, omega (arith, some))

  pub once-passed : occurrence_number key < next → AreOnceTo keys (i + 1) next found
  once-passed less =
      let some : 0 < i = elim (cases_eq i 0) [
        | inl none ↦ absurd (omega (arith, less, so_far.first none))
        | inr some ↦ omega (arith, some)
      ] in
      let (k, e) = before some in
      let same = repeated less k e in record {
        from = so_far.from;
        all = λ j below. elim (cases_lt j i) [
          | inl earlier ↦ so_far.all j earlier
          | inr here ↦
              let j_is : j ≡ i = omega (arith, here, below) in
              subst (Contains (occurrences_of found)) (ap occurrence_of (sym same ∙ sym number-is ∙ ap (λ (n : ℕ). occurrence_number (key_at keys n)) (sym j_is))) (so_far.all k (omega (arith, e)))
        ];
        ordered = so_far.ordered;
        below = so_far.below;
        first = λ none. absurd (omega (arith, none));
        last = λ j f.
            let j_is : i ≡ j = omega (arith, f) in
            so_far.last k e ∙ ap (λ (p : ℕ). p + 1) (sym same ∙ sym number-is ∙ ap (λ (n : ℕ). occurrence_number (key_at keys n)) j_is);
      }

  -- one more
  module _ (new : List Begun) (pushed : new ≡ found ++ begun_of key ∷ []) (from : next ≤ occurrence_number key) where
    shown : occurrences_of new ≡ occurrences_of found ++ occurrence_of (occurrence_number key) ∷ []
    shown = ap occurrences_of pushed ∙ map-append (λ (b : Begun). b.occurrence) found (begun_of key ∷ [])

    cases : (P : Begun → Type 0) → ((b : Begun) → Contains found b → P b) → P (begun_of key) → (b : Begun) → Contains new b → P b
    cases P old last b h = elim (Contains-push_cases found (begun_of key) b (subst (λ (bs : List Begun). Contains bs b) pushed h)) [
      | inl was ↦ old b was
      | inr here ↦ subst P here last
    ]

    pub once-more : AreOnceTo keys (i + 1) (occurrence_number key + 1) new
    once-more = record {
      from = cases (Contains (begun_list keys)) so_far.from (member-map begun_of 0 keys key (i, lt, get_or_default keys i key key lt ∙ sym is));
      all = λ j below. subst (λ (os : List Occurrence). Contains os (occurrence_of (occurrence_number (key_at keys j)))) (sym shown) (elim (cases_lt j i) [
        | inl earlier ↦ Contains-append_left (occurrences_of found) (occurrence_of (occurrence_number key) ∷ []) (occurrence_of (occurrence_number (key_at keys j))) (so_far.all j earlier)
        | inr here ↦
            let j_is : j ≡ i = omega (arith, here, below) in
            subst (Contains (occurrences_of found ++ occurrence_of (occurrence_number key) ∷ [])) (ap occurrence_of (sym number-is ∙ ap (λ (n : ℕ). occurrence_number (key_at keys n)) (sym j_is))) (Contains-push (occurrences_of found) (occurrence_of (occurrence_number key)))
      ]);
      ordered = subst (AllPairs StandsBefore) (sym shown)
          (all_pairs_push StandsBefore (occurrences_of found) (occurrence_of (occurrence_number key)) so_far.ordered
          (λ k d inside.
          let (b, there, b_is) = begun-of found (get_or (occurrences_of found) k d) (Contains-get_or (occurrences_of found) k d inside) in
          let (number, o_is, less) = so_far.below b there in
          subst (λ (o : Occurrence). StandsBefore o (occurrence_of (occurrence_number key))) (sym o_is ∙ b_is) (number-order number (occurrence_number key) (omega (arith, less, from)))));
      below = cases (λ (b : Begun). (number : ℕ) × (b.occurrence ≡ occurrence_of number) × (number < occurrence_number key + 1))
          (λ b there. let (number, o_is, less) = so_far.below b there in (number, o_is, omega (arith, less, from)))
          (occurrence_number key, refl, omega arith);
      first = λ none. absurd (omega (arith, none));
      last = λ j f.
          let j_is : i ≡ j = omega (arith, f) in
          ap (λ (p : ℕ). p + 1) (sym number-is ∙ ap (λ (n : ℕ). occurrence_number (key_at keys n)) j_is);
    }

-- all keys
pub once-all : (keys : List ℕ) (i next : ℕ) (found : List Begun) → length keys ≤ i → AreOnceTo keys i next found → (b : Begun) → Contains (begun_list keys) b → Contains (occurrences_of found) b.occurrence
once-all keys i next found whole so_far b h =
    let (key, (j, lt, at), is) = map-member begun_of 0 keys b h in
    let read : key_at keys j ≡ key = get_or_default keys j 0 key lt ∙ at in
    subst (Contains (occurrences_of found)) (ap (λ (n : ℕ). occurrence_of (occurrence_number n)) read ∙ ap (λ (c : Begun). c.occurrence) is) (so_far.all j (omega (arith, lt, whole)))

-- ---- what was gathered, in order

module _ (keys sorted : List ℕ) (moved : IsPermutation keys sorted) (found : List Begun) (from : (b : Begun) → Contains found b → Contains (begun_list sorted) b) where
  members : (a b : List ℕ) → ((key : ℕ) → Contains a key → Contains b key) → (one : Begun) → Contains (begun_list a) one → Contains (begun_list b) one
  members a b through one h =
      let (key, in_a, is) = map-member begun_of 0 a one h in
      subst (Contains (begun_list b)) is (member-map begun_of 0 b key (through key in_a))

  pub from_keys : (b : Begun) → Contains found b → Contains (begun_list keys) b
  from_keys b h = members sorted keys (λ key. Contains-permutation sorted keys key (IsPermutation-sym keys sorted moved)) b (from b h)

  to_sorted : (b : Begun) → Contains (begun_list keys) b → Contains (begun_list sorted) b
  to_sorted b h = members keys sorted (λ key. Contains-permutation keys sorted key moved) b h

  -- if they are the occurrences in a game, then they are these in order
  pub sorted-occurrences : ((b : Begun) → Contains (begun_list sorted) b → Contains (occurrences_of found) b.occurrence) → AllPairs StandsBefore (occurrences_of found) → (deltas : Deltas) (placements : List Placement) → ((o : Occurrence) → Contains (occurrences_of (begun_list keys)) o ↔ Contains (occurrences_in deltas placements) o) → occurrences_of found ≡ occurrences_in deltas placements
  sorted-occurrences all ordered deltas placements same =
      same_order StandsBefore one_way (occurrences_of found) (occurrences_in deltas placements) ordered (occurrences-ordered deltas placements)
      (λ o h. let (b, there, is) = begun-of found o h in (same o).0 (subst (Contains (occurrences_of (begun_list keys))) is (of-begun (begun_list keys) b (from_keys b there))))
      (λ o h. let (b, there, is) = begun-of (begun_list keys) o ((same o).1 h) in subst (Contains (occurrences_of found)) is (all b (to_sorted b there)))
