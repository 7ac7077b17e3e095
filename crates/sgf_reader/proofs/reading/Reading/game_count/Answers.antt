use Rattle.std.proofs.Common.{sym, ◌∙◌}
use Rattle.sgf_reader.proofs.ReadingLemmas.{games-ended}
use Rattle.sgf_reader.proofs.reading.Reading.game_count.Goals as goal

pub returns : goal.returns
returns c = let s = c.self.inside in c.len.ensures ∙ s.ends.ok.0 ∙ sym (games-ended _ _ _ _ _ _ _ _ c.self.view_is)
