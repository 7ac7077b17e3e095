-- The nodes that begin in stretches are those at which wants begin to be met.
use Rattle.std.proofs.Common.{◌≡◌, ◌↔◌, ◌⊎◌, ℕ, ◌<◌, ◌≤◌, inl, inr, Some, None, Option, List, [], length, get_or, refl, sym, ap, ◌∙◌, arith}
use Rattle.std.specs.Prelude.{All, Contains, IfSome}
use Rattle.std.proofs.lemmas.List.Elements.{Contains-get_or}
use Rattle.std.proofs.lemmas.List.FromFn.{length-map-range_with_len}
use Rattle.capture_board.specs.Deltas.{AreDeltas, Deltas, node_count, position_at}
use Rattle.node_paths.proofs.Ancestors.{parent-lt}
use Rattle.capture_index.specs.declared.stretch.Stretch.{Stretch}
use Rattle.capture_index.specs.NodePositions.{NodePositions, count_in, parent_in, positions_of}
use Rattle.capture_index.specs.Stretches.{AreApart, AreWantedAt, BeginsIn, IsIn, IsOutside}
use Rattle.capture_index.proofs.WantsOfPlacements.{parent_seen-at}
use Rattle.ready_images.specs.declared.want.Want.{Want}
use Rattle.run_matcher.specs.Begins.{BeginAt}

pub count-seen : (deltas : Deltas) → count_in (positions_of deltas) ≡ node_count deltas
count-seen deltas = length-map-range_with_len (position_at deltas) 0 (node_count deltas)

-- the parent of each node is a node
abbrev pub AreParentsThere : NodePositions → Type 0
AreParentsThere seen = (n m : ℕ) → n < count_in seen → parent_in seen n ≡ Some m → m < count_in seen

pub parents-there : (deltas : Deltas) → AreDeltas deltas → AreParentsThere (positions_of deltas)
parents-there deltas are n m lt e =
    let within : n < node_count deltas = omega (arith, count-seen deltas, lt) in
    omega (arith, lt, parent-lt are.parents n m (sym (parent_seen-at deltas n within) ∙ e))

-- ---- stretches that stand apart
module _ (seen : NodePositions) (stretches : List Stretch) (apart : AreApart 0 (count_in seen) stretches) where
  within : (n : ℕ) → IsIn stretches n → n < count_in seen
  within n (k, d, lt, inside) = let each = apart.each k d lt in omega (arith, each.2, inside.1)

  pub begun-few : (nodes : List ℕ) → ((x : ℕ) → Contains nodes x ↔ BeginsIn seen stretches x) → count_in seen ≤ 65536 → All (λ n. n < 65536) nodes
  begun-few nodes begun few k d lt = let b = (begun (get_or nodes k d)).0 (Contains-get_or nodes k d lt) in omega (arith, within (get_or nodes k d) b.inside, few)

  module _ (base : ℕ) (wants : List Want) (told : (n : ℕ) → n < count_in seen → IsIn stretches n ↔ AreWantedAt seen base wants n) where
    unmet : (p : Option ℕ) → ((m : ℕ) → p ≡ Some m → m < count_in seen) → IsOutside stretches p → IfSome p (λ m. ¬ AreWantedAt seen base wants m)
    unmet None there out = tt
    unmet (Some m) there out = λ met. out ((told m (there m refl)).1 met)

    outside : (p : Option ℕ) → ((m : ℕ) → p ≡ Some m → m < count_in seen) → IfSome p (λ m. ¬ AreWantedAt seen base wants m) → IsOutside stretches p
    outside None there none = tt
    outside (Some m) there none = λ inside. none ((told m (there m refl)).0 inside)

    pub begun : AreParentsThere seen → (n : ℕ) → BeginsIn seen stretches n ↔ BeginAt seen base wants n
    begun there n = (
      λ b. let lt = within n b.inside in record { in_range = lt; here = (told n lt).0 b.inside; before = unmet (parent_in seen n) (λ m. there n m lt) b.first },
      λ b. record { inside = (told n b.in_range).1 b.here; first = outside (parent_in seen n) (λ m. there n m b.in_range) b.before },
    )

-- what is added to nothing
pub only-added : (before after : List ℕ) (more : ℕ → Type 0) → before ≡ [] → ((x : ℕ) → Contains after x ↔ (Contains before x ⊎ more x)) → (x : ℕ) → Contains after x ↔ more x
only-added before after more none added x = (
  λ h. elim ((added x).0 h) [
    | inl old ↦ absurd (omega (arith, old.1, ap length none))
    | inr m ↦ m
  ],
  λ m. (added x).1 (inr m),
)
