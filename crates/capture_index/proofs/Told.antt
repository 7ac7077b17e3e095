-- What packed runs tell: the positions at the nodes, and their parents.
use Rattle.std.proofs.Common.{◌≡◌, ℕ, ◌+◌, ◌<◌, ◌≤◌, ◌↔◌, ◌⊎◌, inl, inr, List, [], length, map, Option, None, sym, ◌∙◌, ap, subst, arith}
use Rattle.std.proofs.lemmas.List.{get_or-map, get_or_default, length-map, same_lists}
use Rattle.std.proofs.lemmas.List.FromFn.{fill_by_all, get_or-map-range_with_len, length-map-range_with_len}
use Rattle.std.specs.List.{range_with_len}
use Rattle.std.specs.Prelude.{All, Contains, slice_index_or}
use Rattle.kb_geometry.specs.declared.shape.Shape.{Shape}
use Rattle.kb_geometry.specs.declared.stone.Cell.{Cell}
use Rattle.kb_geometry.specs.declared.stone.Cell.TheVariants as stone
use Rattle.kb_geometry.specs.Board.{point_count}
use Rattle.kb_geometry.specs.Capture.{Position, cell_at}
use Rattle.capture_board.specs.Deltas.{Deltas, node_count, parent_of, position_at}
use Rattle.capture_board.proofs.DeltaPaths.{length-position_at}
use Rattle.capture_index.specs.declared.packed_runs.PackedRuns.{PackedRuns}
use Rattle.capture_index.specs.declared.stretch.Stretch.{Stretch}
use Rattle.ready_images.specs.declared.want.Want.{Want}
use Rattle.capture_index.specs.declared.time.PackedTime.{PackedTime}
use Rattle.capture_index.specs.Begins.{BeginsFor, HasBegun}
use Rattle.capture_index.specs.Branches.{parent_by}
use Rattle.capture_index.specs.Finding.{AreMet, IsRunIndexOf, no_time, packed_cell}
use Rattle.capture_index.specs.Lists.{runs_of}
use Rattle.capture_index.specs.NodePositions.{NodePositions, cell_in, count_in, parent_in, positions_of}
use Rattle.capture_index.specs.Runs.{cell_by}
use Rattle.capture_index.specs.Seen.{GoesOnTo, StaysTo, packed_position, seen_by}
use Rattle.capture_index.specs.Stretches.{AreApart, AreWantedAt, BeginsIn, IsIn, IsOutside, is_wanted}
use Rattle.ready_images.specs.Wants.{no_want}
use Rattle.capture_index.proofs.Branchings.{parents-told}

range-same : {X : Type 0} (d : X) (f g : ℕ → X) (n : ℕ) → ((k : ℕ) → k < n → f k ≡ g k) → map f (range_with_len 0 n) ≡ map g (range_with_len 0 n)
range-same d f g n same = fill_by_all g (map f (range_with_len 0 n)) n d (length-map-range_with_len f 0 n) (λ k lt. get_or-map-range_with_len f 0 n k k d lt (omega arith) ∙ same k lt)

-- ---- one node
module _ (packed : PackedRuns) where
  pub count_in-packed : count_in (seen_by packed) ≡ packed.nodes
  count_in-packed = length-map-range_with_len (packed_position packed) 0 packed.nodes

  pub packed_position-cell : (p n : ℕ) → p < point_count packed.shape → cell_at (packed_position packed n) p ≡ packed_cell packed p n
  packed_position-cell p n lt = get_or-map (λ (time : PackedTime). cell_by (runs_of packed.ends.items packed.runs.items time) n) packed.times.items p no_time stone.Empty (omega (arith, packed.points))

  pub cell_in-packed : (p n : ℕ) → p < point_count packed.shape → n < packed.nodes → cell_in (seen_by packed) p n ≡ packed_cell packed p n
  cell_in-packed p n lt ln =
      ap (λ (q : Position). cell_at q p) (get_or-map-range_with_len (packed_position packed) 0 packed.nodes n n [] ln (omega arith))
      ∙ packed_position-cell p n lt

  pub parent_in-packed : (n : ℕ) → n < packed.nodes → parent_in (seen_by packed) n ≡ parent_by packed.branches.items n
  parent_in-packed n lt = get_or-map-range_with_len (parent_by packed.branches.items) 0 packed.nodes n n None lt (omega arith)

  pub StaysTo-packed : (p n end next : ℕ) → p < point_count packed.shape → end ≤ packed.nodes → StaysTo (packed_cell packed p) end n next → StaysTo (cell_in (seen_by packed) p) end n next
  StaysTo-packed p n end next lt within stays = record {
    more = stays.more;
    most = stays.most;
    stays = λ k from to.
        cell_in-packed p k lt (omega (arith, stays.most, within))
        ∙ stays.stays k from to
        ∙ sym (cell_in-packed p n lt (omega (arith, stays.most, stays.more, within)));
  }

  pub GoesOnTo-packed : (n next : ℕ) → GoesOnTo (parent_by packed.branches.items) packed.nodes n next → GoesOnTo (parent_in (seen_by packed)) (count_in (seen_by packed)) n next
  GoesOnTo-packed n next goes = record {
    more = goes.more;
    most = omega (arith, goes.most, count_in-packed);
    goes_on = λ k from to. parent_in-packed k (omega (arith, goes.most)) ∙ goes.goes_on k from to;
  }

  -- ---- wanted cells
  pub wanted-packed : (base : ℕ) (wants : List Want) (n : ℕ) → All (λ (w : Want). base + w.offset < point_count packed.shape) wants → n < packed.nodes → AreMet packed base wants n ↔ AreWantedAt (seen_by packed) base wants n
  wanted-packed base wants n on_board ln =
      let same : (k : ℕ) → k < length wants → cell_in (seen_by packed) (base + (slice_index_or wants k no_want).offset) n ≡ packed_cell packed (base + (slice_index_or wants k no_want).offset) n =
      λ k lt. cell_in-packed (base + (slice_index_or wants k no_want).offset) n (on_board k no_want lt) ln in (
        λ met k lt. ap (is_wanted (slice_index_or wants k no_want)) (same k lt) ∙ met k lt,
        λ met k lt. sym (ap (is_wanted (slice_index_or wants k no_want)) (same k lt)) ∙ met k lt,
      )

  pub found-packed : (base : ℕ) (wants : List Want) (found : List Stretch) → All (λ (w : Want). base + w.offset < point_count packed.shape) wants → ((n : ℕ) → n < packed.nodes → IsIn found n ↔ AreMet packed base wants n) → (n : ℕ) → n < packed.nodes → IsIn found n ↔ AreWantedAt (seen_by packed) base wants n
  found-packed base wants found on_board told n ln =
      let same = wanted-packed base wants n on_board ln in
      (λ h. same.0 ((told n ln).0 h), λ h. (told n ln).1 (same.1 h))

  -- ---- what begins
  inside-packed : (stretches : List Stretch) (x : ℕ) → All (λ (s : Stretch). s.to ≤ packed.nodes) stretches → IsIn stretches x → x < packed.nodes
  inside-packed stretches x within (k, d, lt, inside) = omega (arith, within k d lt, inside.1)

  pub begins-packed : (stretches : List Stretch) (x : ℕ) → All (λ (s : Stretch). s.to ≤ packed.nodes) stretches → BeginsFor packed.branches.items stretches x ↔ BeginsIn (seen_by packed) stretches x
  begins-packed stretches x within = (
    λ b. record { inside = b.inside; first = subst (IsOutside stretches) (sym (parent_in-packed x (inside-packed stretches x within b.inside))) b.first },
    λ b. record { inside = b.inside; first = subst (IsOutside stretches) (parent_in-packed x (inside-packed stretches x within b.inside)) b.first },
  )

-- ---- the runs of a game
abbrev the_seen : Shape → List (Option ℕ) → List Position → NodePositions
the_seen shape parents positions = record { shape = shape; parents = parents; positions = positions }

same-seen : (s t : Shape) (ps qs : List (Option ℕ)) (xs ys : List Position) → s ≡ t → ps ≡ qs → xs ≡ ys → the_seen s ps xs ≡ the_seen t qs ys
same-seen s t ps qs xs ys e f g = ap (λ (u : Shape). the_seen u ps xs) e ∙ ap (λ (us : List (Option ℕ)). the_seen t us xs) f ∙ ap (the_seen t qs) g

module _ (deltas : Deltas) (packed : PackedRuns) (is : IsRunIndexOf deltas packed) where
  count : length packed.times.items ≡ point_count deltas.shape
  count = packed.points ∙ ap point_count is.shape

  position-told : (n : ℕ) → n < node_count deltas → packed_position packed n ≡ position_at deltas n
  position-told n lt =
      let f : PackedTime → Cell = λ time. cell_by (runs_of packed.ends.items packed.runs.items time) n in
      same_lists (packed_position packed n) (position_at deltas n) (length-map packed.times.items f ∙ count ∙ sym (length-position_at deltas n))
      (λ k d l.
      let within : k < length packed.times.items = omega (arith, l, length-map packed.times.items f) in
      get_or_default (packed_position packed n) k d stone.Empty l
      ∙ packed_position-cell packed k n (omega (arith, packed.points))
      ∙ is.cells k n (omega (arith, count)) lt
      ∙ get_or_default (position_at deltas n) k stone.Empty d (omega (arith, count, length-position_at deltas n)))

  pub seen-told : seen_by packed ≡ positions_of deltas
  seen-told =
      let parents : map (parent_by packed.branches.items) (range_with_len 0 packed.nodes) ≡ map (parent_of deltas) (range_with_len 0 (node_count deltas)) =
      ap (λ (m : ℕ). map (parent_by packed.branches.items) (range_with_len 0 m)) is.nodes
      ∙ range-same None (parent_by packed.branches.items) (parent_of deltas) (node_count deltas) (parents-told deltas packed.branches.items is.are is.branches) in
      let positions : map (packed_position packed) (range_with_len 0 packed.nodes) ≡ map (position_at deltas) (range_with_len 0 (node_count deltas)) =
      ap (λ (m : ℕ). map (packed_position packed) (range_with_len 0 m)) is.nodes
      ∙ range-same [] (packed_position packed) (position_at deltas) (node_count deltas) position-told in
      same-seen packed.shape deltas.shape _ _ _ _ is.shape parents positions

-- ---- as contracts see the runs
module _ (packed : PackedRuns) (seen : NodePositions) (is : seen_by packed ≡ seen) where
  pub nodes-seen : packed.nodes ≡ count_in seen
  nodes-seen = sym (count_in-packed packed) ∙ ap count_in is

  pub points-seen : point_count packed.shape ≡ point_count seen.shape
  points-seen = ap (λ (s : NodePositions). point_count s.shape) is

  pub cell-seen : (p n : ℕ) → p < point_count seen.shape → n < count_in seen → packed_cell packed p n ≡ cell_in seen p n
  cell-seen p n lt ln = sym (cell_in-packed packed p n (omega (arith, points-seen)) (omega (arith, nodes-seen))) ∙ ap (λ (s : NodePositions). cell_in s p n) is

  pub parent-seen : (n : ℕ) → n < count_in seen → parent_by packed.branches.items n ≡ parent_in seen n
  parent-seen n lt = sym (parent_in-packed packed n (omega (arith, nodes-seen))) ∙ ap (λ (s : NodePositions). parent_in s n) is

  pub stays-seen : (p n end next : ℕ) → p < point_count seen.shape → end ≤ count_in seen → StaysTo (packed_cell packed p) end n next → StaysTo (cell_in seen p) end n next
  stays-seen p n end next lt within stays = subst (λ (s : NodePositions). StaysTo (cell_in s p) end n next) is (StaysTo-packed packed p n end next (omega (arith, points-seen)) (omega (arith, within, nodes-seen)) stays)

  pub goes-seen : (n next : ℕ) → GoesOnTo (parent_by packed.branches.items) packed.nodes n next → GoesOnTo (parent_in seen) (count_in seen) n next
  goes-seen n next goes = subst (λ (s : NodePositions). GoesOnTo (parent_in s) (count_in s) n next) is (GoesOnTo-packed packed n next goes)

  pub on_board-seen : (base : ℕ) (wants : List Want) → All (λ (w : Want). base + w.offset < point_count seen.shape) wants → All (λ (w : Want). base + w.offset < point_count packed.shape) wants
  on_board-seen base wants on_board k d lt = omega (arith, on_board k d lt, points-seen)

  pub found-seen : (base : ℕ) (wants : List Want) (found : List Stretch) → All (λ (w : Want). base + w.offset < point_count seen.shape) wants → ((n : ℕ) → n < packed.nodes → IsIn found n ↔ AreMet packed base wants n) → (n : ℕ) → n < count_in seen → IsIn found n ↔ AreWantedAt seen base wants n
  found-seen base wants found on_board told n lt =
      subst (λ (s : NodePositions). IsIn found n ↔ AreWantedAt s base wants n) is (found-packed packed base wants found (on_board-seen base wants on_board) told n (omega (arith, nodes-seen)))

  pub apart-seen : (found : List Stretch) → AreApart 0 packed.nodes found → AreApart 0 (count_in seen) found
  apart-seen found apart = subst (λ (n : ℕ). AreApart 0 n found) nodes-seen apart

  pub begun-seen : (stretches : List Stretch) (before after : List ℕ) → AreApart 0 (count_in seen) stretches → HasBegun packed.branches.items stretches before after → (x : ℕ) → Contains after x ↔ (Contains before x ⊎ BeginsIn seen stretches x)
  begun-seen stretches before after apart begun x =
      let same = begins-packed packed stretches x (λ k d lt. let each = apart.each k d lt in omega (arith, each.2, nodes-seen)) in
      subst (λ (s : NodePositions). Contains after x ↔ (Contains before x ⊎ BeginsIn s stretches x)) is (
        λ h. elim ((begun x).0 h) [ inl old ↦ inl old | inr b ↦ inr (same.0 b) ],
        λ h. (begun x).1 (elim h [ inl old ↦ inl old | inr b ↦ inr (same.1 b) ]),
      )
