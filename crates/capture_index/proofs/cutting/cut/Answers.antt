use Rattle.std.proofs.Common.{sym, ap, subst, ◌↔◌, ◌⊎◌, List}
use Rattle.capture_index.specs.declared.stretch.Stretch.{Stretch}
use Rattle.std.specs.Prelude.{IsTrue}
use Rattle.capture_index.specs.Begins.{AreFalling}
use Rattle.capture_index.specs.Runs.{cell_by}
use Rattle.capture_index.specs.Stretches.{AreApart, IsIn, is_wanted}
use Rattle.capture_index.proofs.CutRuns.{cut-read}
use Rattle.capture_index.proofs.cutting.cut.Goals as goal

pub cut_each-requires : goal.cut_each-requires
cut_each-requires c = subst AreFalling (sym c.as_slice.ensures.value) c.requires

pub returns-clause-nodes : goal.returns-clause-nodes
returns-clause-nodes c n =
    cut-read (IsTrue (is_wanted c.args.want (cell_by c.args.runs.now n))) c.clear.new.self.items c.args.found.now.items c.swap.new.x.items c.cut_each.new.found.items n c.clear.ensures.items (ap (λ v. v.items) c.swap.ensures.x_after)
    (subst (λ (xs : List Stretch). IsIn c.cut_each.new.found.items n ↔ (IsIn c.clear.new.self.items n ⊎ (IsIn xs n × IsTrue (is_wanted c.args.want (cell_by c.args.runs.now n))))) c.as_slice.ensures.value (c.in_ok-cut_each.ensures.nodes n))

pub returns-clause-apart : goal.returns-clause-apart
returns-clause-apart c most apart =
    subst (AreApart 0 most) (sym (ap (λ v. v.items) c.swap.ensures.x_after))
    (c.in_ok-cut_each.ensures.apart most c.clear.ensures.items (subst (AreApart 0 most) (sym c.as_slice.ensures.value) apart))
