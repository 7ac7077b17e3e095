use Rattle.std.proofs.Common.{◌∙◌}
use Rattle.search_run.proofs.SeenLemmas.{new_last, new_opened}
use Rattle.search_run.proofs.searchers.Searchers.new.Goals as goal

pub invariant_of-result : goal.invariant_of-result
invariant_of-result g c =
    let parts = new_last c.args.publisher.now.opening c.args.searchers.items c.pop.new.self.items c.in-Some.own c.requires.new c.in-Some.ensures.items in record {
      own_opened = parts.0.0 ∙ c.requires.opening;
      block_opened = λ k d below. new_opened c.args.publisher.now.opening c.pop.new.self.items parts.1 k d below ∙ c.requires.opening;
    }

pub returns : goal.returns
returns g c =
    (new_last c.args.publisher.now.opening c.args.searchers.items c.pop.new.self.items c.in-Some.own c.requires.new c.in-Some.ensures.items).0.2
