use Rattle.std.proofs.Common.{◌∙◌, refl, arith}
use Rattle.std.proofs.lemmas.List.{take_all}
use Rattle.import_work.specs.Reads.{nothing}
use Rattle.import_work.proofs.BatchLemmas.{names_more}
use Rattle.import_work.proofs.Texts.{texts-more, text_names-more}
use Rattle.import_work.proofs.read.read_all.Goals as goal

pub loop-name-init : goal.loop-name-init
loop-name-init g c = record {
  same = refl;
  later = omega arith;
  named = rw c.new-files.ensures.items refl;
  read = rw c.new-files.ensures.items nothing;
}

pub loop-name-preserved : goal.loop-name-preserved
loop-name-preserved g c = record {
  same = c.read_one.ensures.same ∙ c.loop-name.invariant.same;
  later = omega (arith, c.loop-name.invariant.later, c.read_one.ensures.later);
  named =
      let name = c.name-item.result in
      rw (names_more c.args.names.now c.loop-name.name-index name c.loop-name-test.true c.name-item.is)
      (rw c.as_str.ensures.value at (text_names-more _ _ _ _ _ c.in_ok-push.ensures.items c.in_ok-file.ensures.named c.loop-name.invariant.named));
  read = texts-more _ _ c.args.path.now _ _ _ _ _ _ _ c.loop-name.invariant.same c.in_ok-push.ensures.items c.in_ok-file.ensures.named c.in_ok-file.ensures.read c.read_one.ensures.later c.loop-name.invariant.read;
}

pub returns-clause-named : goal.returns-clause-named
returns-clause-named g c = rw (take_all c.loop-name.name-index c.args.names.now (omega arith)) at c.loop-name.invariant.named
