use Rattle.std.proofs.Common.{List, length, refl, sym, ap, ◌∙◌, arith}
use Rattle.std.proofs.lemmas.List.{take_all}
use Rattle.pattern_images.specs.declared.hit.Hit.{Hit}
use Rattle.hit_collectors.specs.Tallies.{with_hits}
use Rattle.hit_collectors.proofs.Counts.{told_none}
use Rattle.hit_collectors.proofs.FedBoxes.{given_next, refused_next}
use Rattle.hit_collectors.proofs.feeding.feed_box.Goals as goal

pub loop-hit-init : goal.loop-hit-init
loop-hit-init g c = record { told = sym (told_none _); no_hits = λ none. refl }

pub returns-in_err-take-clause-refused : goal.returns-in_err-take-clause-refused
returns-in_err-take-clause-refused g c =
    refused_next c.args.hits.now c.loop-hit.hit-index c.hit-item.result c.loop-hit-test.true c.hit-item.is _ _ c.loop-hit.invariant.told
    c.from_residual.result _ c.in_err-take.ensures.refused

pub returns-in_err-take-clause-no_hits : goal.returns-in_err-take-clause-no_hits
returns-in_err-take-clause-no_hits g c = λ none. absurd (omega (arith, c.loop-hit-test.true, ap length none))

pub loop-hit-preserved : goal.loop-hit-preserved
loop-hit-preserved g c = record {
  told =
      given_next c.args.hits.now c.loop-hit.hit-index c.hit-item.result c.loop-hit-test.true c.hit-item.is _ _ c.loop-hit.invariant.told
      _ c.in_ok-take.ensures.ok;
  no_hits = λ none. absurd (omega (arith, c.loop-hit-test.true, ap length none));
}

pub returns-clause-ok : goal.returns-clause-ok
returns-clause-ok g c =
    c.loop-hit.invariant.told
    ∙ ap (λ (some : List Hit). with_hits some (g.C.Collector.tally c.args.collector.now)) (take_all c.loop-hit.hit-index c.args.hits.now (omega (arith, c.loop-hit-test.false)))
