use Rattle.std.proofs.Common.{slice_set, arith, length-set, [], inl, inr, ◌∙◌, ap}
use Rattle.std.proofs.lemmas.Bool.{cases_eq, cases_lt}
use Rattle.std.proofs.lemmas.List.{get_or-set_other, get_or-set_same, get_or_past}
use Rattle.run_matcher.specs.GoingOn.{occurrences_of}
use Rattle.search_engine.specs.Gathering.{begun_at}
use Rattle.search_engine.proofs.block_occurrences.GameOccurrences.clear.Goals as goal

pub loop-at-preserved : goal.loop-at-preserved
loop-at-preserved c =
    let lists = c.loop-at.self-inside.lists.items in
    let at = c.loop-at.at in record {
      count = omega (arith, c.loop-at.invariant.count, length-set lists at c.clear.new.self);
      none = λ g lt. elim (cases_eq g at) [
        | inl same ↦ ap (begun_at (slice_set lists at c.clear.new.self)) same ∙ get_or-set_same lists at c.clear.new.self [] (omega (arith, c.loop-at-test.true, c.loop-at.invariant.count)) ∙ c.clear.ensures
        | inr other ↦ get_or-set_other lists at g c.clear.new.self [] other ∙ c.loop-at.invariant.none g (omega (arith, lt, other))
      ];
    }

pub returns : goal.returns
returns c = λ g. ap occurrences_of (elim (cases_lt g 64) [
  | inl lt ↦ c.loop-at.invariant.none g (omega (arith, lt, c.loop-at-test.false))
  | inr ge ↦ get_or_past c.loop-at.self-inside.lists.items g [] (omega (arith, ge, c.loop-at.invariant.count))
])
