use Rattle.kb_edges.specs.Entries.{files_of}
use Rattle.kb_edges.proofs.Listings.{IsListing-from}
use Rattle.kb_edges.proofs.lookup.sgf_names.Goals as goal

pub returns : goal.returns
returns c =
    IsListing-from (files_of c.args.files.now) c.args.path.now _ _ c.in_ok-names.ensures
    c.sort_names.ensures.kept c.sort_names.ensures.none_added c.sort_names.ensures.distinct
