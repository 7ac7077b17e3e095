use Rattle.pattern_occurrences.proofs.OccurrenceLaw.{occurrences-are, occurrences-ordered}
use Rattle.pattern_occurrences.proofs.laws.the_occurrences_are_where_placements_begin_to_hold.Goals as goal

pub returns : goal.returns
returns c = record { exactly = occurrences-are; ordered = occurrences-ordered }
