-- The sets of a block's games on boards of one shape: a placement is possible in a game where each of its cells was allowed.
use Rattle.std.proofs.Common.{◌≡◌, Option, Some, None, refl, sym, subst, ◌∙◌}
use Rattle.std.specs.Option.{IsSomeAnd}
use Rattle.kb_geometry.specs.declared.shape.Shape.{Shape}
use Rattle.game_tree.specs.Tree.{Tree}
use Rattle.capture_board.specs.Deltas.{Deltas}
use Rattle.node_position.specs.Games.{AreNodeChanges}
use Rattle.pattern_images.specs.ImageList.{IsPlacedOn}
use Rattle.pattern_images.specs.Placements.{Placement}
use Rattle.final_index.specs.declared.ever_sets.EverSets.{EverSets}
use Rattle.candidate_sieve.specs.Candidates.{MeetsCells}
use Rattle.candidate_sieve.specs.Kept.{WereAllowed}
use Rattle.candidate_sieve.proofs.CellsTold.{were-meets}
use Rattle.segment_store.specs.Planes.{IsGameOfPlanes}

-- of the sets of a block's games on boards of one shape, those of a game on such a board
pub possible_where_allowed : (shape : Shape) (tree : Tree) (o : Option EverSets) → IsGameOfPlanes shape tree o → tree.shape ≡ shape → (changes : Deltas) → AreNodeChanges tree changes → (placement : Placement) → IsPlacedOn tree.shape placement → WereAllowed changes placement
    → IsSomeAnd o (λ sets. MeetsCells shape sets placement)
possible_where_allowed shape tree None not same changes of placement placed were = absurd (not same)
possible_where_allowed shape tree (Some sets) is same changes of placement placed were =
    let on : changes.shape ≡ shape = of.lead.same_shape ∙ same in
    subst (λ (s : Shape). MeetsCells s sets placement) on
    (were-meets changes sets (is.1 changes of) placement (subst (λ (s : Shape). IsPlacedOn s placement) (sym of.lead.same_shape) placed) were)

-- a game whose sets are there is on a board of the shape
pub on_shape_where_there : (shape : Shape) (tree : Tree) (o : Option EverSets) → IsGameOfPlanes shape tree o → ¬ (o ≡ None) → tree.shape ≡ shape
on_shape_where_there shape tree None is there = absurd (there refl)
on_shape_where_there shape tree (Some sets) is there = is.0

pub not_none : {A : Type 0} (o : Option A) (P : A → Type 0) → IsSomeAnd o P → ¬ (o ≡ None)
not_none None P h = absurd h
not_none (Some x) P h = λ e. absurd cc
