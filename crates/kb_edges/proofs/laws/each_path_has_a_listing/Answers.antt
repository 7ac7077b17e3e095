use Rattle.kb_edges.proofs.EachListing.{listing-found}
use Rattle.kb_edges.proofs.laws.each_path_has_a_listing.Goals as goal

pub returns : goal.returns
returns c = listing-found
