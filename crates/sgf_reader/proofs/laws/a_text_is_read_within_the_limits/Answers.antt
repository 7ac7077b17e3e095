use Rattle.sgf_reader.proofs.WithinLimits.{within_limits-no_fault, read-within_limits}
use Rattle.sgf_reader.proofs.laws.a_text_is_read_within_the_limits.Goals as goal

pub returns : goal.returns
returns c text games = (λ h. let limits = read-within_limits games text h in (h.spells, limits.0, limits.1), λ h. within_limits-no_fault games text h.0 h.1 h.2)
