-- One row after another.
use Rattle.std.proofs.Common.{◌≡◌, ◌+◌, ℕ, [], List, arith, subst, sym}
use Rattle.kb_geometry.specs.Board.{rows_of}
use Rattle.pattern_images.specs.declared.listing.StoredPlace.{StoredPlace}
use Rattle.pattern_images.specs.Listing.{ListsOn}
use Rattle.pattern_images.proofs.ListMoves.{ListsOn-none, ListsOn-more}
use Rattle.pattern_images.proofs.listing.list_places.Goals as goal

pub loop-y-init : goal.loop-y-init
loop-y-init c = subst (λ (stored : List StoredPlace). ListsOn c.args.shape c.args.turns.now 0 0 0 [] 0 0 0 stored) (sym c.new-places.ensures.items) (ListsOn-none c.args.shape c.args.turns.now 0 0 0 [])

pub loop-y-preserved : goal.loop-y-preserved
loop-y-preserved c =
    ListsOn-more c.args.shape c.args.turns.now 0 0 0 c.loop-y.y 0 0 (c.loop-y.y + 1) 0 0 [] c.loop-y.places.items c.list_row.new.places.items c.loop-y.invariant c.in_ok-list_row.ensures

pub returns : goal.returns
returns c =
    let all : c.loop-y.y ≡ rows_of c.args.shape = omega arith in
    subst (λ (n : ℕ). ListsOn c.args.shape c.args.turns.now 0 0 0 [] n 0 0 c.loop-y.places.items) all c.loop-y.invariant
