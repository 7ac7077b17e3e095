-- The nodes at which noted cells begin, in lists.
use Rattle.std.proofs.Common.{◌≡◌, ℕ, ◌+◌, ◌<◌, ◌↔◌, ◌⊎◌, List, [], ◌++◌, sym, subst, arith, inl, inr}
use Rattle.std.specs.Prelude.{All, Contains, IsPermutation, eqb}
use Rattle.std.specs.List.{dedup}
use Rattle.std.specs.List.Sorted.{IsSorted, IsStrictlyIncreasing}
use Rattle.std.specs.List.Retain.{DiffersFromLast, IsFiltered}
use Rattle.std.specs.Ordering.{nat_cmp}
use Rattle.std.proofs.lemmas.Bool.{cases_lt}
use Rattle.std.proofs.lemmas.List.Elements.{Contains-append_cases, Contains-append_left, Contains-append_right}
use Rattle.std.proofs.lemmas.List.Filters.{dedup_is}
use Rattle.std.proofs.lemmas.List.Kept.{Contains-dedup_nat, Contains-from_dedup}
use Rattle.std.proofs.lemmas.List.Sorted.{Contains-permutation, IsPermutation-sym}
use Rattle.std.proofs.lemmas.Map.Keys.{IsStrictlyIncreasing-dedup}
use Rattle.kb_geometry.specs.declared.stone.Cell.{Cell}
use Rattle.kb_geometry.specs.declared.stone.Cell.TheVariants as stone
use Rattle.kb_geometry.specs.Board.{point_count}
use Rattle.pattern_images.specs.ImageList.{IsPlacedOn, no_placement, placement_at}
use Rattle.pattern_images.specs.Placements.{Placement}
use Rattle.capture_index.specs.NodePositions.{NodePositions, count_in, nodes_where}
use Rattle.candidate_sieve.specs.declared.asked.AskedPoints.{AskedPoints}
use Rattle.candidate_sieve.specs.NodeCandidates.{AreAsked, IsAskedBySome, IsNodeCandidate, noted}
use Rattle.candidate_sieve.specs.Noting.{AreBeginningsAdded, AreBegun, BeginsAt}
use Rattle.candidate_sieve.proofs.CellsTold.{under-lt}

-- the list gains exactly the nodes at which the point begins to have the cell, if it was noted with it
abbrev pub IsBegunBy : NodePositions → AskedPoints → ℕ → Cell → List ℕ → List ℕ → Type 0
IsBegunBy seen points p c before after = (n : ℕ) → Contains after n ↔ (Contains before n ⊎ BeginsAt seen points p c n)

-- the list has exactly the root, and the nodes at which one of the first points begins
abbrev pub AreBegunTo : NodePositions → AskedPoints → ℕ → List ℕ → Type 0
AreBegunTo seen points count nodes = (n : ℕ) → Contains nodes n ↔ (((n ≡ 0) × (0 < count_in seen)) ⊎ ((p : ℕ) × (c : Cell) × (p < count) × BeginsAt seen points p c n))

module _ (seen : NodePositions) (points : AskedPoints) where
  module _ (p : ℕ) where
    pub where_added : (c : Cell) (before after : List ℕ) → Contains (noted points c) p → after ≡ before ++ nodes_where seen p c 0 → IsBegunBy seen points p c before after
    where_added c before after there added n = (
      λ h. elim (Contains-append_cases before (nodes_where seen p c 0) n (subst (λ (xs : List ℕ). Contains xs n) added h)) [
        | inl was ↦ inl was
        | inr begins ↦ inr (there, begins)
      ],
      λ h. subst (λ (xs : List ℕ). Contains xs n) (sym added) (elim h [
        | inl was ↦ Contains-append_left before (nodes_where seen p c 0) n was
        | inr begins ↦ Contains-append_right before (nodes_where seen p c 0) n begins.1
      ]),
    )

    pub begun-each : (before one two after : List ℕ) → IsBegunBy seen points p stone.Empty before one → IsBegunBy seen points p stone.Black one two → IsBegunBy seen points p stone.White two after → AreBeginningsAdded seen points p before after
    begun-each before one two after empty black white n = (
      λ h. elim ((white n).0 h) [
        | inr w ↦ inr (stone.White, w)
        | inl h2 ↦ elim ((black n).0 h2) [
          | inr b ↦ inr (stone.Black, b)
          | inl h1 ↦ elim ((empty n).0 h1) [
            | inr e ↦ inr (stone.Empty, e)
            | inl was ↦ inl was
          ]
        ]
      ],
      λ h. elim h [
        | inl was ↦ (white n).1 (inl ((black n).1 (inl ((empty n).1 (inl was)))))
        | inr some ↦ added n some.0 some.1
      ],
    )
      where
        added : (n : ℕ) (c : Cell) → BeginsAt seen points p c n → Contains after n
        added n stone.Empty b = (white n).1 (inl ((black n).1 (inl ((empty n).1 (inr b)))))
        added n stone.Black b = (white n).1 (inl ((black n).1 (inr b)))
        added n stone.White b = (white n).1 (inr b)

  pub begun-start : (nodes : List ℕ) → ((n : ℕ) → Contains nodes n ↔ ((n ≡ 0) × (0 < count_in seen))) → AreBegunTo seen points 0 nodes
  begun-start nodes root n = (λ h. inl ((root n).0 h), λ h. elim h [ inl is ↦ (root n).1 is | inr some ↦ absurd (omega (arith, some.2)) ])

  pub begun-more : (count : ℕ) (nodes next : List ℕ) → AreBegunTo seen points count nodes → AreBeginningsAdded seen points count nodes next → AreBegunTo seen points (count + 1) next
  begun-more count nodes next so_far now n = (
    λ h. elim ((now n).0 h) [
      | inl was ↦ elim ((so_far n).0 was) [ inl root ↦ inl root | inr some ↦ inr (some.0, some.1, omega (arith, some.2), some.3) ]
      | inr last ↦ inr (count, last.0, omega arith, last.1)
    ],
    λ h. elim h [
      | inl root ↦ (now n).1 (inl ((so_far n).1 (inl root)))
      | inr some ↦ elim (cases_lt some.0 count) [
        | inl before ↦ (now n).1 (inl ((so_far n).1 (inr (some.0, some.1, before, some.3))))
        | inr last ↦
            let here : some.0 ≡ count = omega (arith, some.2, last) in
            (now n).1 (inr (some.1, subst (λ (p : ℕ). BeginsAt seen points p some.1 n) here some.3))
      ]
    ],
  )

  pub begun-end : (count : ℕ) (nodes : List ℕ) → count ≡ point_count seen.shape → AreBegunTo seen points count nodes → AreBegun seen points nodes
  begun-end count nodes all so_far = subst (λ (m : ℕ). AreBegunTo seen points m nodes) all so_far

  -- ---- by the placements
  module _ (placements : List Placement) (placed : All (IsPlacedOn seen.shape) placements) (asked : AreAsked seen.shape placements points) where
    asked-lt : (p : ℕ) (c : Cell) → IsAskedBySome seen.shape placements p c → p < point_count seen.shape
    asked-lt p c (i, lt, (dx, dy, in_cols, in_rows, (asks, at))) =
        let below = under-lt seen.shape (placement_at placements i) (placed i no_placement lt) dx dy in_cols in_rows in
        omega (arith, at, below)

    pub begun-told : (nodes : List ℕ) → AreBegun seen points nodes → (n : ℕ) → Contains nodes n ↔ IsNodeCandidate seen placements n
    begun-told nodes are n = (
      λ h. elim ((are n).0 h) [
        | inl root ↦ inl root
        | inr (p, c, lt, (there, begins)) ↦ inr (p, c, (asked c p).0 there, begins)
      ],
      λ h. (are n).1 (elim h [
        | inl root ↦ inl root
        | inr (p, c, asks, begins) ↦ inr (p, c, asked-lt p c asks, ((asked c p).1 asks, begins))
      ]),
    )

-- ---- sorted, each once
module _ (numbers sorted kept : List ℕ) (moved : IsPermutation numbers sorted) (rises : IsSorted nat_cmp sorted) (filtered : IsFiltered (DiffersFromLast eqb) [] sorted kept) where
  is_dedup : kept ≡ dedup eqb sorted
  is_dedup = dedup_is eqb sorted kept filtered

  pub kept-ascends : IsStrictlyIncreasing kept
  kept-ascends = subst IsStrictlyIncreasing (sym is_dedup) (IsStrictlyIncreasing-dedup sorted rises)

  pub kept-same : (n : ℕ) → Contains kept n ↔ Contains numbers n
  kept-same n = (
    λ h. Contains-permutation sorted numbers n (IsPermutation-sym numbers sorted moved) (Contains-from_dedup eqb sorted n (subst (λ (xs : List ℕ). Contains xs n) is_dedup h)),
    λ h. subst (λ (xs : List ℕ). Contains xs n) (sym is_dedup) (Contains-dedup_nat sorted n (Contains-permutation numbers sorted n moved h)),
  )
