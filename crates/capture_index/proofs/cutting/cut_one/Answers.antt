use Rattle.std.proofs.Common.{◌+◌, arith}
use Rattle.capture_index.proofs.Apart.{IsApartTo-all, IsApartTo-end, IsApartTo-more, IsApartTo-none}
use Rattle.capture_index.proofs.CutRuns.{IsCutTo-all, IsCutTo-end, IsCutTo-more, IsCutTo-none, told-all, told-sooner}
use Rattle.capture_index.proofs.cutting.cut_one.Goals as goal

pub loop-at-init : goal.loop-at-init
loop-at-init c = record {
  from = c.requires.some;
  cut = IsCutTo-none c.args.runs.now c.args.want c.args.stretch c.args.found.now.items c.pass_later-at.result c.pass_later-at.ensures.behind;
  apart = λ most within apart. IsApartTo-none c.args.stretch c.args.stretch.to most c.args.found.now.items c.requires.some apart;
}

pub loop-at-preserved : goal.loop-at-preserved
loop-at-preserved c = record {
  from = c.if-next-stretch.false;
  cut = IsCutTo-more c.args.runs.now c.args.want c.args.stretch c.args.found.now.items c.loop-at.at c.loop-at.next c.loop-at.found.items c.push_common.new.found.items _ c.from-first.result c.min-next.result c.is_wanted.result
      c.loop-at-test.true c.loop-at.invariant.cut c.in_ok-push_common.ensures.nodes c.from-first.ensures c.is_wanted.ensures c.min-next.ensures;
  apart = λ most within apart.
      IsApartTo-more c.args.stretch c.loop-at.next most c.loop-at.found.items c.push_common.new.found.items c.from-first.result (c.loop-at.invariant.apart most within apart)
      (λ low lowest. c.in_ok-push_common.ensures.apart low lowest most within) c.min-next.result c.min-next.ensures;
}

-- the first run that reaches to the stretch's beginning
pub returns-then-next-stretch-clause-nodes : goal.returns-then-next-stretch-clause-nodes
returns-then-next-stretch-clause-nodes c =
    IsCutTo-end c.args.runs.now c.args.want c.args.stretch c.args.found.now.items (c.loop-at.at + 1) c.min-next.result c.push_common.new.found.items c.if-next-stretch.true
    (IsCutTo-more c.args.runs.now c.args.want c.args.stretch c.args.found.now.items c.loop-at.at c.loop-at.next c.loop-at.found.items c.push_common.new.found.items _ c.from-first.result c.min-next.result c.is_wanted.result
    c.loop-at-test.true c.loop-at.invariant.cut c.in_ok-push_common.ensures.nodes c.from-first.ensures c.is_wanted.ensures c.min-next.ensures)

pub returns-then-next-stretch-clause-behind : goal.returns-then-next-stretch-clause-behind
returns-then-next-stretch-clause-behind c = told-sooner c.args.runs.now c.loop-at.at c.args.stretch.from c.loop-at.next (omega (arith, c.loop-at.invariant.from)) c.loop-at.invariant.cut.rest

pub returns-then-next-stretch-clause-apart : goal.returns-then-next-stretch-clause-apart
returns-then-next-stretch-clause-apart c most within apart =
    IsApartTo-end c.args.stretch c.min-next.result most c.push_common.new.found.items
    (IsApartTo-more c.args.stretch c.loop-at.next most c.loop-at.found.items c.push_common.new.found.items c.from-first.result (c.loop-at.invariant.apart most within apart)
    (λ low lowest. c.in_ok-push_common.ensures.apart low lowest most within) c.min-next.result c.min-next.ensures)

-- all runs
pub returns-clause-nodes : goal.returns-clause-nodes
returns-clause-nodes c =
    IsCutTo-all c.args.runs.now c.args.want c.args.stretch c.args.found.now.items c.loop-at.next c.loop-at.found.items c.push_common-2.new.found.items c.loop-at.at c.is_wanted-2.result c.is_wanted-2.ensures
    (omega arith) c.loop-at.invariant.cut c.in_ok-push_common-2.ensures.nodes

pub returns-clause-behind : goal.returns-clause-behind
returns-clause-behind c =
    told-all c.args.runs.now c.loop-at.at c.args.stretch.from (omega arith) (told-sooner c.args.runs.now c.loop-at.at c.args.stretch.from c.loop-at.next (omega (arith, c.loop-at.invariant.from)) c.loop-at.invariant.cut.rest)

pub returns-clause-apart : goal.returns-clause-apart
returns-clause-apart c most within apart =
    IsApartTo-all c.args.stretch c.loop-at.next most c.loop-at.found.items c.push_common-2.new.found.items 0 (c.loop-at.invariant.apart most within apart)
    (λ low lowest. c.in_ok-push_common-2.ensures.apart low lowest most within)
