-- Stretches that are listed one before the other, the latest first.
use Prim.Native.Nat.{zero, min, max}
use Rattle.std.proofs.Common.{◌≡◌, ℕ, suc, ◌+◌, ◌-◌, ◌<◌, ◌≤◌, ◌⊎◌, List, [], ◌∷◌, ◌++◌, length, get_or, sym, ap, subst, arith, inl, inr}
use Rattle.std.proofs.Math.Nat.{le-max_left, le-max_right, min-le_left, min-le_right}
use Rattle.std.proofs.lemmas.Bool.{cases_lt}
use Rattle.std.proofs.lemmas.List.{get_or_append_left, get_or_push, length_push}
use Rattle.capture_index.specs.declared.stretch.Stretch.{Stretch}
use Rattle.capture_index.specs.Stretches.{AreApart}

pub apart-none : (low most : ℕ) (xs : List Stretch) → xs ≡ [] → AreApart low most xs
apart-none low most xs e = record {
  each = λ k d lt. absurd (omega (arith, lt, ap length e));
  falling = λ i j d f less lt. absurd (omega (arith, lt, ap length e));
}

pub apart-lower : (low lowest most : ℕ) (xs : List Stretch) → lowest ≤ low → AreApart low most xs → AreApart lowest most xs
apart-lower low lowest most xs le apart = record {
  each = λ k d lt. let s = apart.each k d lt in (omega (arith, s.0), s.1, s.2);
  falling = apart.falling;
}

pub apart-above : (low most : ℕ) (xs : List Stretch) → AreApart 0 most xs → ((k : ℕ) (d : Stretch) → k < length xs → low ≤ (get_or xs k d).from) → AreApart low most xs
apart-above low most xs apart above = record {
  each = λ k d lt. let s = apart.each k d lt in (above k d lt, s.1, s.2);
  falling = apart.falling;
}

-- one more behind those that are listed
module _ (low lowest most : ℕ) (xs after : List Stretch) (s : Stretch) (pushed : after ≡ xs ++ s ∷ []) (apart : AreApart low most xs) (lower : lowest ≤ low) (from : lowest ≤ s.from) (some : s.from < s.to) (to : s.to ≤ low) (within : s.to ≤ most) where
  each-more : (k : ℕ) (d : Stretch) → k < length (xs ++ s ∷ []) → (lowest ≤ (get_or (xs ++ s ∷ []) k d).from) × ((get_or (xs ++ s ∷ []) k d).from < (get_or (xs ++ s ∷ []) k d).to) × ((get_or (xs ++ s ∷ []) k d).to ≤ most)
  each-more k d lt = elim (cases_lt k (length xs)) [
    | inl before ↦
        let old = apart.each k d before in
        subst (λ (x : Stretch). (lowest ≤ x.from) × (x.from < x.to) × (x.to ≤ most)) (sym (get_or_append_left xs (s ∷ []) d k before)) (omega (arith, old.0), old.1, old.2)
    | inr last ↦
        let here : length xs ≡ k = omega (arith, lt, length_push xs s) in
        subst (λ (x : Stretch). (lowest ≤ x.from) × (x.from < x.to) × (x.to ≤ most)) (sym (get_or_push xs s d k here)) (from, some, within)
  ]

  falling-more : (i j : ℕ) (d e : Stretch) → i < j → j < length (xs ++ s ∷ []) → (get_or (xs ++ s ∷ []) j e).to ≤ (get_or (xs ++ s ∷ []) i d).from
  falling-more i j d e less lt =
      let one = ap (λ (x : Stretch). x.from) (get_or_append_left xs (s ∷ []) d i (omega (arith, less, lt, length_push xs s))) in
      elim (cases_lt j (length xs)) [
        | inl before ↦
            let two = ap (λ (x : Stretch). x.to) (get_or_append_left xs (s ∷ []) e j before) in
            omega (arith, one, two, apart.falling i j d e less before)
        | inr last ↦
            let here : length xs ≡ j = omega (arith, lt, length_push xs s) in
            let two = ap (λ (x : Stretch). x.to) (get_or_push xs s e j here) in
            omega (arith, one, two, to, (apart.each i d (omega arith)).0)
      ]

  pub apart-push : AreApart lowest most after
  apart-push = subst (AreApart lowest most) (sym pushed) (record { each = each-more; falling = falling-more })

-- ---- what a stretch has in common with others
lowest-max : (lowest a b from : ℕ) → from ≡ max a b → (lowest ≤ a) ⊎ (lowest ≤ b) → lowest ≤ from
lowest-max lowest a b from e (inl le) = omega (arith, e, le-max_left a b)
lowest-max lowest a b from e (inr le) = omega (arith, e, le-max_right a b)

least-min : (low a b to : ℕ) → to ≡ min a b → (a ≤ low) ⊎ (b ≤ low) → to ≤ low
least-min low a b to e (inl le) = omega (arith, e, min-le_left a b)
least-min low a b to e (inr le) = omega (arith, e, min-le_right a b)

pub apart-common : (low lowest most start end : ℕ) (stretch s : Stretch) (xs after : List Stretch) → s.from ≡ max stretch.from start → s.to ≡ min stretch.to end → after ≡ xs ++ s ∷ [] → s.from < s.to → stretch.to ≤ most → AreApart low most xs → (stretch.to ≤ low) ⊎ (end ≤ low) → lowest ≤ low → (lowest ≤ stretch.from) ⊎ (lowest ≤ start) → AreApart lowest most after
apart-common low lowest most start end stretch s xs after from_is to_is pushed some within apart past lower from =
    apart-push low lowest most xs after s pushed apart lower (lowest-max lowest stretch.from start s.from from_is from) some (least-min low stretch.to end s.to to_is past)
    (omega (arith, to_is, min-le_left stretch.to end))

-- ---- one stretch that is cut, from its end on
pub record IsApartTo (stretch : Stretch) (next most : ℕ) (found : List Stretch) : Type 0 where
  pub low : ℕ
  pub apart : AreApart low most found
  pub from : stretch.from ≤ low
  pub past : (stretch.to ≤ low) ⊎ (next ≤ low)

pub IsApartTo-none : (stretch : Stretch) (next most : ℕ) (found : List Stretch) → stretch.from < stretch.to → AreApart stretch.to most found → IsApartTo stretch next most found
IsApartTo-none stretch next most found lt apart = record { low = stretch.to; apart = apart; from = omega arith; past = inl (omega arith) }

-- the runs that were passed tell the whole stretch
pub IsApartTo-end : (stretch : Stretch) (next most : ℕ) (found : List Stretch) → IsApartTo stretch next most found → AreApart stretch.from most found
IsApartTo-end stretch next most found to = apart-lower to.low stretch.from most found to.from to.apart

module _ (stretch : Stretch) (next most : ℕ) (found after : List Stretch) (start : ℕ) (to : IsApartTo stretch next most found) (pushed : (low lowest : ℕ) → AreApart low most found → (stretch.to ≤ low) ⊎ (next ≤ low) → lowest ≤ low → (lowest ≤ stretch.from) ⊎ (lowest ≤ start) → AreApart lowest most after) where
  sooner : (after_next : ℕ) → after_next ≤ next → (stretch.to ≤ to.low) ⊎ (next ≤ to.low) → (stretch.to ≤ to.low) ⊎ (after_next ≤ to.low)
  sooner after_next le (inl past) = inl past
  sooner after_next le (inr past) = inr (omega arith)

  pub IsApartTo-more : (after_next : ℕ) → after_next ≡ min next start → IsApartTo stretch after_next most after
  IsApartTo-more after_next e =
      let left = min-le_left next start in
      let right = min-le_right next start in
      elim (cases_lt stretch.from start) [
        | inl inside ↦ elim (cases_lt start to.low) [
          | inl less ↦ record {
            low = start;
            apart = pushed to.low start to.apart to.past (omega arith) (inr (omega arith));
            from = omega arith;
            past = inr (omega (arith, e, right));
          }
          | inr le ↦ record {
            low = to.low;
            apart = pushed to.low to.low to.apart to.past (omega arith) (inr le);
            from = to.from;
            past = sooner after_next (omega (arith, e, left)) to.past;
          }
        ]
        | inr before ↦ record {
          low = stretch.from;
          apart = pushed to.low stretch.from to.apart to.past to.from (inl (omega arith));
          from = omega arith;
          past = inr (omega (arith, e, right, before));
        }
      ]

  pub IsApartTo-all : AreApart stretch.from most after
  IsApartTo-all = pushed to.low stretch.from to.apart to.past to.from (inl (omega arith))

-- ---- all stretches of a list
pub record AreApartFrom (stretches : List Stretch) (count most : ℕ) (found : List Stretch) : Type 0 where
  pub apart : AreApart 0 most found
  pub above : (j k : ℕ) (d e : Stretch) → count ≤ j → j < length stretches → k < length found → (get_or stretches j d).to ≤ (get_or found k e).from

pub AreApartFrom-none : (stretches : List Stretch) (most : ℕ) (found : List Stretch) → found ≡ [] → AreApartFrom stretches 0 most found
AreApartFrom-none stretches most found e = record {
  apart = apart-none 0 most found e;
  above = λ j k d f le lt l. absurd (omega (arith, l, ap length e));
}

pub AreApartFrom-more : (stretches : List Stretch) (i most : ℕ) (found after : List Stretch) (d : Stretch) → i < length stretches → AreApart 0 most stretches → AreApartFrom stretches i most found →
    ((get_or stretches i d).to ≤ most → AreApart (get_or stretches i d).to most found → AreApart (get_or stretches i d).from most after) → AreApartFrom stretches (i + 1) most after
AreApartFrom-more stretches i most found after d lt listed before cut =
    let here = listed.each i d lt in
    let now = cut here.2 (apart-above (get_or stretches i d).to most found before.apart (λ k e l. before.above i k d e (omega arith) lt l)) in
    record {
      apart = apart-lower (get_or stretches i d).from 0 most after (omega arith) now;
      above = λ j k e f le l m. omega (arith, listed.falling i j d e (omega arith) l, (now.each k f m).0);
    }

-- ---- the whole
pub apart-one : (most : ℕ) (cleared now : List Stretch) (s : Stretch) → cleared ≡ [] → now ≡ cleared ++ s ∷ [] → s.from < s.to → s.to ≤ most → AreApart 0 most now
apart-one most cleared now s none pushed some within =
    apart-push most 0 most cleared now s pushed (apart-none most most cleared none) (omega arith) (omega arith) some within within

-- each stretch leaves room for those that are listed before it
room : (most : ℕ) (xs : List Stretch) → AreApart 0 most xs → (k : ℕ) (d : Stretch) → k < length xs → (get_or xs k d).to + k ≤ most
room most xs apart zero d lt = omega (arith, (apart.each 0 d lt).2)
room most xs apart (suc k) d lt =
    let before : k < length xs = omega (arith, lt) in
    omega (arith, room most xs apart k d before, (apart.each k d before).1, apart.falling k (suc k) d d (omega arith) lt)

-- no more are listed than there are nodes
pub apart-few : (most : ℕ) (xs : List Stretch) → AreApart 0 most xs → length xs ≤ most
apart-few most xs apart = elim (cases_lt 0 (length xs)) [
  | inl some ↦
      let d : Stretch = record { from = 0; to = 0 } in
      let last : length xs - 1 < length xs = omega arith in
      omega (arith, some, room most xs apart (length xs - 1) d last, (apart.each (length xs - 1) d last).1)
  | inr none ↦ omega arith
]
