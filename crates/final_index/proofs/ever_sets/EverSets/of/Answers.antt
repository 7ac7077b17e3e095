use Rattle.final_index.proofs.ever_sets.EverSets.of.Goals as goal

pub returns : goal.returns
returns c = c.gathered.ensures
