use Rattle.std.proofs.Common.{arith, ◌≡◌, ℕ, ◌↔◌, ◌⊎◌, length, refl, subst}
use Rattle.std.specs.Prelude.{IsTrue}
use Rattle.capture_index.specs.Runs.{cell_by}
use Rattle.capture_index.specs.Lists.{IsInFirst}
use Rattle.capture_index.specs.Stretches.{IsIn, is_wanted}
use Rattle.capture_index.proofs.Apart.{AreApartFrom-more, AreApartFrom-none}
use Rattle.capture_index.proofs.CutRuns.{each-more, each-none, told-sooner}
use Rattle.capture_index.proofs.cutting.cut_each.Goals as goal

pub loop-stretch-init : goal.loop-stretch-init
loop-stretch-init c = record {
  within = omega arith;
  behind = λ k d le lt n under. refl;
  nodes_of = λ n. each-none c.args.stretches.now n (IsTrue (is_wanted c.args.want (cell_by c.args.runs.now n))) (IsIn c.args.found.now.items n);
  apart = λ most none apart. AreApartFrom-none c.args.stretches.now most c.args.found.now.items none;
}

pub cut_one-requires-clause-behind : goal.cut_one-requires-clause-behind
cut_one-requires-clause-behind c = c.loop-stretch.invariant.behind c.loop-stretch.stretch-index _ (omega arith) c.loop-stretch-test.true

pub cut_one-requires-clause-some : goal.cut_one-requires-clause-some
cut_one-requires-clause-some c = c.requires.some c.loop-stretch.stretch-index _ c.loop-stretch-test.true

pub loop-stretch-preserved : goal.loop-stretch-preserved
loop-stretch-preserved c = record {
  within = c.in_ok-at.ensures.within;
  behind = λ k d le lt.
      told-sooner c.args.runs.now _ _ _ (c.requires.falling c.loop-stretch.stretch-index k _ d (omega arith) lt) c.in_ok-at.ensures.behind;
  nodes_of = λ n.
      each-more c.args.stretches.now c.loop-stretch.stretch-index _ n c.loop-stretch-test.true (IsTrue (is_wanted c.args.want (cell_by c.args.runs.now n))) (IsIn c.args.found.now.items n) (IsIn c.loop-stretch.found.items n) (IsIn c.cut_one.new.found.items n)
      (c.in_ok-at.ensures.nodes n) (c.loop-stretch.invariant.nodes_of n);
  apart = λ most none apart.
      AreApartFrom-more c.args.stretches.now c.loop-stretch.stretch-index most c.loop-stretch.found.items c.cut_one.new.found.items _ c.loop-stretch-test.true apart (c.loop-stretch.invariant.apart most none apart)
      (c.in_ok-at.ensures.apart most);
}

pub returns-clause-nodes : goal.returns-clause-nodes
returns-clause-nodes c n =
    let all : c.loop-stretch.stretch-index ≡ length c.args.stretches.now = omega arith in
    subst (λ (i : ℕ). IsIn c.loop-stretch.found.items n ↔ (IsIn c.args.found.now.items n ⊎ (IsInFirst i c.args.stretches.now n × IsTrue (is_wanted c.args.want (cell_by c.args.runs.now n))))) all (c.loop-stretch.invariant.nodes_of n)

pub returns-clause-apart : goal.returns-clause-apart
returns-clause-apart c most none apart = (c.loop-stretch.invariant.apart most none apart).apart
