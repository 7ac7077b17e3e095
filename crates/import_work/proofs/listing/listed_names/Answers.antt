use Rattle.import_work.proofs.NameLemmas.{AreNames-from_listing, sorted_names}
use Rattle.import_work.proofs.listing.listed_names.Goals as goal

pub returns-clause-sorted : goal.returns-clause-sorted
returns-clause-sorted g c = sorted_names _ _ c.in-Ok.ensures.sgf c.sort_names.ensures.none_added c.sort_names.ensures.ascending

pub returns-clause-told : goal.returns-clause-told
returns-clause-told g c = λ files told.
    (c.in-Ok.ensures.there files told, AreNames-from_listing files _ _ _ (c.in-Ok.ensures.listing files told) c.sort_names.ensures.kept c.sort_names.ensures.none_added c.sort_names.ensures.ascending)
