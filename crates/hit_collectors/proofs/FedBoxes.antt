-- A hit is given to a box after others, and hits to a list of boxes one after another.
use Rattle.std.proofs.Common.{◌≡◌, ℕ, suc, ◌+◌, ◌-◌, ◌<◌, ◌≤◌, List, [], ◌∷◌, ◌++◌, length, map, get_or, set, take, drop, sym, ap, ◌∙◌, subst, arith}
use Rattle.std.specs.Prelude.{OnErr, Result, Ok, Err}
use Rattle.std.proofs.Math.Seq.{drop-cons, split_at}
use Rattle.std.proofs.lemmas.Grind.{drop_more_same}
use Rattle.std.proofs.lemmas.List.{append-nil, drop-set-lt, drop_all, get_or-append_right, get_or-drop, get_or-map, length-map, length-take-le, map-set, set-get_or, set_at, set_split, take-append-le, take-map, take_all, take_more}
use Rattle.std.proofs.lemmas.List.Edits.{map_over_more}
use Rattle.pattern_images.specs.declared.hit.Hit.{Hit}
use Rattle.hit_collectors.specs.Boxes.{IsFedInPart, IsPartTaken, IsRefusedAt, all_with_hits}
use Rattle.hit_collectors.specs.Tallies.{BoxTally, with_hits}
use Rattle.hit_collectors.proofs.Counts.{told_more}

-- ---- the hits of one box

module _ (hits : List Hit) (i : ℕ) (hit : Hit) (below : i < length hits) (is : hit ≡ get_or hits i hit) (before now : BoxTally)
    (so_far : now ≡ with_hits (take i hits) before) where
  pub given_next : (new : BoxTally) → new ≡ with_hits (hit ∷ []) now → new ≡ with_hits (take (i + 1) hits) before
  given_next new given =
      given ∙ ap (with_hits (hit ∷ [])) so_far
      ∙ told_more before (take i hits) (hit ∷ [])
      ∙ ap (λ (some : List Hit). with_hits some before) (ap (λ (x : Hit). take i hits ++ x ∷ []) is ∙ sym (take_more hits i hit below))

  pub refused_next : {T E : Type 0} (result : Result T E) (new : BoxTally) → new ≡ now → OnErr result (IsPartTaken hits before new)
  refused_next result new same = elim result as (λ r. OnErr r (IsPartTaken hits before new)) [
    | Ok x ↦ tt
    | Err e ↦ record {
      taken = take i hits;
      refused = hit;
      left = drop (suc i) hits;
      all_hits = split_at hits i hit below ∙ ap (λ (x : Hit). take i hits ++ x ∷ drop (suc i) hits) (sym is);
      told = same ∙ so_far;
    }
  ]

-- ---- the boxes

module _ {A : Type 0} (told : A → BoxTally) (hits : List Hit) (old now : List A) (i : ℕ) (some_box : A) (below : i < length old)
    (same_length : length now ≡ length old) (so_far : map told now ≡ all_with_hits hits (take i (map told old)) ++ drop i (map told old)) where
  within : i < length (map told old)
  within = subst (λ n. i < n) (sym (length-map old told)) below

  reads_now : told (get_or now i some_box) ≡ get_or (map told now) i (told (get_or now i some_box))
  reads_now = sym (get_or-map told now i some_box (told (get_or now i some_box)) (subst (λ n. i < n) (sym same_length) below))

  fed_length : length (all_with_hits hits (take i (map told old))) ≡ i
  fed_length = length-map (take i (map told old)) (with_hits hits) ∙ length-take-le i (map told old) (omega (arith, within))

  pub fed_next : (new : A) → told new ≡ with_hits hits (told (get_or now i some_box)) → map told (set now i new) ≡ all_with_hits hits (take (i + 1) (map told old)) ++ drop (i + 1) (map told old)
  fed_next new fed =
      map-set told now i new
      ∙ ap (set (map told now) i) fed
      ∙ map_over_more (with_hits hits) (map told old) (map told now) i (told (get_or now i some_box)) within so_far reads_now

  -- the box is told alike in both lists
  same_told : told (get_or now i some_box) ≡ get_or (map told old) i (told (get_or now i some_box))
  same_told =
      let d = told (get_or now i some_box) in
      let here : i + (i - i) ≡ i = omega arith in
      reads_now
      ∙ ap (λ (boxes : List BoxTally). get_or boxes i d) so_far
      ∙ get_or-append_right (all_with_hits hits (take i (map told old))) (drop i (map told old)) i i d fed_length (omega arith)
      ∙ get_or-drop i (map told old) (i - i) d
      ∙ ap (λ (k : ℕ). get_or (map told old) k d) here

  pub refused_box : {T E : Type 0} (result : Result T E) (new : A) → IsPartTaken hits (told (get_or now i some_box)) (told new) → OnErr result (IsFedInPart hits (map told old) (map told (set now i new)))
  refused_box result new part = elim result as (λ r. OnErr r (IsFedInPart hits (map told old) (map told (set now i new)))) [
    | Ok x ↦ tt
    | Err e ↦ record {
      earlier = take i (map told old);
      before = told (get_or now i some_box);
      after = told new;
      later = drop (suc i) (map told old);
      boxes = split_at (map told old) i (told (get_or now i some_box)) within ∙ ap (λ (box : BoxTally). take i (map told old) ++ box ∷ drop (suc i) (map told old)) (sym same_told);
      in_part = part;
      told = map-set told now i new
          ∙ ap (λ (boxes : List BoxTally). set boxes i (told new))
          (so_far ∙ ap (λ (rest : List BoxTally). all_with_hits hits (take i (map told old)) ++ rest) (drop-cons (map told old) i (told (get_or now i some_box)) within))
          ∙ set_at (all_with_hits hits (take i (map told old))) (get_or (map told old) i (told (get_or now i some_box))) (drop (suc i) (map told old)) (told new) i fed_length;
    }
  ]

  -- ---- the boxes themselves

  -- the boxes so far tell what those before them told, with the hits
  fed_told : map told (take i now) ≡ all_with_hits hits (map told (take i old))
  fed_told =
      sym (take-map told i now)
      ∙ ap (take i) so_far
      ∙ take-append-le i (all_with_hits hits (take i (map told old))) (drop i (map told old)) (omega (arith, fed_length))
      ∙ take_all i (all_with_hits hits (take i (map told old))) (omega (arith, fed_length))
      ∙ ap (all_with_hits hits) (take-map told i old)

  module _ (later : drop i now ≡ drop i old) where
    same_box : get_or now i some_box ≡ get_or old i some_box
    same_box =
        let here : i + 0 ≡ i = omega arith in
        ap (λ (k : ℕ). get_or now k some_box) (sym here) ∙ sym (get_or-drop i now 0 some_box)
        ∙ ap (λ (boxes : List A). get_or boxes 0 some_box) later
        ∙ get_or-drop i old 0 some_box ∙ ap (λ (k : ℕ). get_or old k some_box) here

    same_later : drop (suc i) now ≡ drop (suc i) old
    same_later =
        let next : i + 1 ≡ suc i = omega arith in
        subst (λ (n : ℕ). drop n now ≡ drop n old) next (drop_more_same now old i later)

    pub refused_at : {T E : Type 0} (result : Result T E) (new : A) → IsPartTaken hits (told (get_or now i some_box)) (told new) → OnErr result (IsRefusedAt told hits old (set now i new))
    refused_at result new part = elim result as (λ r. OnErr r (IsRefusedAt told hits old (set now i new))) [
      | Ok x ↦ tt
      | Err e ↦ record {
        earlier = take i old;
        fed = take i now;
        before = get_or now i some_box;
        after = new;
        later = drop (suc i) old;
        boxes = split_at old i some_box below ∙ ap (λ (box : A). take i old ++ box ∷ drop (suc i) old) (sym same_box);
        in_part = part;
        told = fed_told;
        left = set_split now i new (subst (λ n. i < n) (sym same_length) below) ∙ ap (λ (boxes : List A). take i now ++ new ∷ boxes) same_later;
      }
    ]

module _ {A : Type 0} (old now : List A) (i : ℕ) where
  pub fed_later : (new : A) → drop i now ≡ drop i old → drop (i + 1) (set now i new) ≡ drop (i + 1) old
  fed_later new later = drop-set-lt (i + 1) now i new (omega arith) ∙ drop_more_same now old i later

  pub fed_no_hits : (some_box : A) → now ≡ old → (new : A) → new ≡ get_or now i some_box → set now i new ≡ old
  fed_no_hits some_box same new is = ap (set now i) is ∙ set-get_or now i some_box ∙ same

module _ {A : Type 0} (told : A → BoxTally) (hits : List Hit) (old now : List A) (i : ℕ) where
  pub all_fed : length old ≤ i → map told now ≡ all_with_hits hits (take i (map told old)) ++ drop i (map told old) → map told now ≡ all_with_hits hits (map told old)
  all_fed all so_far =
      let long = length-map old told in
      so_far
      ∙ ap (λ (boxes : List BoxTally). all_with_hits hits boxes ++ drop i (map told old)) (take_all i (map told old) (omega (arith, all, long)))
      ∙ ap (λ (boxes : List BoxTally). all_with_hits hits (map told old) ++ boxes) (drop_all i (map told old) (omega (arith, all, long)))
      ∙ append-nil (all_with_hits hits (map told old))
