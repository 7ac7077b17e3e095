-- A placement holds at a node where its wants are met, behind the number of its upper left point.
use Rattle.std.proofs.Common.{◌≡◌, ◌↔◌, ℕ, ◌+◌, ◌<◌, List, [], None, sym, ap, ◌∙◌, arith, subst}
use Rattle.std.specs.Prelude.{IsTrue, slice_index_or}
use Rattle.std.proofs.lemmas.List.{get_or_default}
use Rattle.std.proofs.lemmas.List.FromFn.{get_or-map-range_with_len}
use Rattle.kb_geometry.specs.Capture.{Position, cell_at}
use Rattle.capture_board.specs.Deltas.{Deltas, node_count, parent_of, position_at}
use Rattle.pattern_images.specs.Holds.{Allows, Holds}
use Rattle.pattern_images.specs.ImageList.{IsPlacedOn}
use Rattle.pattern_images.specs.Placements.{Placement}
use Rattle.ready_images.specs.Wants.{AreWantsOf, base_of, no_want}
use Rattle.ready_images.specs.declared.want.Want.{Want}
use Rattle.ready_images.proofs.WantsOfPlacements.{holds-wanted}
use Rattle.capture_index.specs.NodePositions.{parent_in, positions_of}
use Rattle.capture_index.specs.NodePositions.{cell_in as cell_seen}
use Rattle.capture_index.specs.Stretches.{AreWantedAt, is_wanted}
use Rattle.capture_index.proofs.CellsWanted.{allowed-wanted}

-- what is seen of a game at its nodes
pub cell_seen-at : (deltas : Deltas) (p n : ℕ) → n < node_count deltas → cell_seen (positions_of deltas) p n ≡ cell_at (position_at deltas n) p
cell_seen-at deltas p n lt = ap (λ (q : Position). cell_at q p) (get_or-map-range_with_len (position_at deltas) 0 (node_count deltas) n n [] lt (omega arith))

pub parent_seen-at : (deltas : Deltas) (n : ℕ) → n < node_count deltas → parent_in (positions_of deltas) n ≡ parent_of deltas n
parent_seen-at deltas n lt = get_or-map-range_with_len (parent_of deltas) 0 (node_count deltas) n n None lt (omega arith)

-- the wants of a placement are met at the nodes at which it holds
module _ (deltas : Deltas) (placement : Placement) (placed : IsPlacedOn deltas.shape placement) (wants : List Want) (are : AreWantsOf deltas.shape placement.grid wants) where
  abbrev base : ℕ
  base = base_of deltas.shape placement

  -- the want is met in a position
  abbrev IsAllowed : Position → Want → Type 0
  IsAllowed position w = Allows w.cell (cell_at position (base + w.offset))

  -- a want is met by what is seen at a node, and by the position there
  met-seen : (n k : ℕ) → n < node_count deltas → IsTrue (is_wanted (slice_index_or wants k no_want) (cell_seen (positions_of deltas) (base + (slice_index_or wants k no_want).offset) n)) ↔ IsAllowed (position_at deltas n) (slice_index_or wants k no_want)
  met-seen n k lt =
      let seen = cell_seen-at deltas (base + (slice_index_or wants k no_want).offset) n lt in
      let allowed = allowed-wanted (slice_index_or wants k no_want).cell (cell_at (position_at deltas n) (base + (slice_index_or wants k no_want).offset)) in (
        λ t. allowed.0 (sym (ap (is_wanted (slice_index_or wants k no_want)) seen) ∙ t),
        λ a. ap (is_wanted (slice_index_or wants k no_want)) seen ∙ allowed.1 a,
      )

  pub wanted-holds : (n : ℕ) → n < node_count deltas → AreWantedAt (positions_of deltas) base wants n ↔ Holds deltas.shape (position_at deltas n) placement
  wanted-holds n lt =
      let told = holds-wanted deltas.shape placement placed wants are (position_at deltas n) in (
        λ wanted. told.1 (λ k d less. subst (IsAllowed (position_at deltas n)) (get_or_default wants k no_want d less) ((met-seen n k lt).0 (wanted k less))),
        λ holds k less. (met-seen n k lt).1 (told.0 holds k no_want less),
      )
