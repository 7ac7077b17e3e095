use Rattle.capture_index.proofs.Apart.{apart-few}
use Rattle.capture_index.proofs.Told.{apart-seen, found-seen}
use Rattle.capture_index.proofs.run_index.RunIndex.find.Goals as goal

pub returns-clause-nodes : goal.returns-clause-nodes
returns-clause-nodes c = found-seen c.self.inside.packed c.args.self.now c.self.view_is c.args.base c.args.class.wants.now c.find.new.found.items c.requires c.in_ok-find.ensures.nodes

pub returns-clause-apart : goal.returns-clause-apart
returns-clause-apart c = apart-seen c.self.inside.packed c.args.self.now c.self.view_is c.find.new.found.items c.in_ok-find.ensures.apart

pub returns-clause-few : goal.returns-clause-few
returns-clause-few c = apart-few _ _ (returns-clause-apart c)
