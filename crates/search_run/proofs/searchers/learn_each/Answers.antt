use Rattle.std.proofs.Common.{◌∙◌, List, subst}
use Rattle.std.proofs.lemmas.List.{take_all}
use Rattle.std.proofs.lemmas.List.Elements.{All-more, All-weaker}
use mathlib.Core.List.{IsPrefix}
use Rattle.kb_geometry.proofs.Prefixes.{prefix_trans}
use Rattle.import_work.specs.Log.{Segment}
use Rattle.node_position.specs.Games.{Game}
use Rattle.version_publisher.specs.declared.state.SearcherState.{SearcherState}
use Rattle.search_run.specs.Seen.{HaveSeenOf}
use Rattle.search_run.proofs.searchers.learn_each.Goals as goal

pub loop-searcher-preserved : goal.loop-searcher-preserved
loop-searcher-preserved c =
    let h = c.loop-searcher.invariant in
    let block = c.args.block.now in
    let i = c.loop-searcher.searcher-index in
    let item = c.searcher-item.result in
    let was = c.loop-searcher.own.learned in
    let now = c.learn.new.self.learned in record {
      opening = c.learn.ensures.same.0 ∙ h.opening;
      seen = c.learn.ensures.same.2 ∙ h.seen;
      learned = All-more (λ (s : SearcherState Game). IsPrefix s.seen now) block i item c.loop-searcher-test.true
          (All-weaker (λ (s : SearcherState Game). IsPrefix s.seen was) (λ (s : SearcherState Game). IsPrefix s.seen now) (λ s seen. prefix_trans s.seen was now seen c.learn.ensures.kept.0) _ h.learned)
          (subst (λ (s : SearcherState Game). IsPrefix s.seen now) c.searcher-item.is (subst (λ (log : List Segment). IsPrefix log now) c.seen.ensures.log c.learn.ensures.kept.1));
    }

pub returns-clause-learned : goal.returns-clause-learned
returns-clause-learned c = subst (HaveSeenOf c.loop-searcher.own.learned) (take_all c.loop-searcher.searcher-index c.args.block.now c.loop-searcher-test.false) c.loop-searcher.invariant.learned
