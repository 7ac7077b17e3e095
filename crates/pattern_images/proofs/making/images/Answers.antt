-- The list of all places, from the first to the last row, is the list of placements.
use Rattle.kb_geometry.specs.Board.{rows_of}
use Rattle.pattern_images.specs.Listing.{IsListedTo}
use Rattle.pattern_images.proofs.ListMoves.{ArePlacements-listed, IsStoredOn-listed, listed_whole}
use Rattle.pattern_images.proofs.making.images.Goals as goal

pub invariant_of-result-2 : goal.invariant_of-result-2
invariant_of-result-2 c =
    let listed : IsListedTo c.args.query.now c.args.shape c.turns.new.grids
    (rows_of c.args.shape) 0 0 c.in_ok-places.places.items =
    listed_whole c.args.query.now c.args.shape c.turns.new.grids c.deref.result.now
    c.in_ok-turns.turns.items c.in_ok-places.places.items c.deref.ensures.value
    c.in_ok-turns.ensures.turns c.in_ok-places.ensures in
    record {
      each = IsStoredOn-listed c.args.query.now c.args.shape c.turns.new.grids
          (rows_of c.args.shape) 0 0 c.in_ok-places.places.items listed;
      ordered = listed.ordered;
      different = c.in_ok-turns.ensures.turns.distinct;
    }

pub returns-clause-placements : goal.returns-clause-placements
returns-clause-placements c =
    let listed : IsListedTo c.args.query.now c.args.shape c.turns.new.grids
    (rows_of c.args.shape) 0 0 c.in_ok-places.places.items =
    listed_whole c.args.query.now c.args.shape c.turns.new.grids c.deref.result.now
    c.in_ok-turns.turns.items c.in_ok-places.places.items c.deref.ensures.value
    c.in_ok-turns.ensures.turns c.in_ok-places.ensures in
    ArePlacements-listed c.args.query.now c.args.shape c.turns.new.grids c.in_ok-places.places.items
    listed
