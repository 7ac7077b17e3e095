use Rattle.std.proofs.Common.{◌<◌, ◌∙◌, List, [], ap, arith, length}
use Rattle.std.specs.Map.{values_of}
use Rattle.std.specs.Prelude.{filter, nat_le}
use Rattle.std.specs.declared.alloc.Global.{Global}
use Rattle.std.specs.declared.vec.Vec.{Vec}
use Rattle.std.proofs.lemmas.List.{take_all}
use Rattle.opening_tree.specs.declared.answer.Opening.{Opening}
use Rattle.opening_tree.specs.Groups.{none_yet}
use Rattle.opening_tree.specs.StoredGroups.{Stored}
use Rattle.opening_tree.proofs.StoredSteps.{listed-more, listed-none}
use Rattle.opening_tree.proofs.openings.listed.Goals.{then-counts-from+in_ok-shown+in_ok-push, else-counts-from}
use Rattle.opening_tree.proofs.openings.listed.Goals as goal

pub returns : goal.returns
returns c =
    let es = c.args.openings.now.entries in
    c.loop-at.invariant ∙ ap (λ (xs : List Stored). filter (λ (o : Opening). nat_le c.args.least o.count) (values_of xs)) (take_all c.loop-at.at es (omega (arith, c.loop-at-test.false, c.len-at-end.ensures)))

pub loop-at-preserved : goal.loop-at-preserved
loop-at-preserved c =
    let es = c.args.openings.now.entries in
    let lt : c.loop-at.at < length es = omega (arith, c.loop-at-test.true, c.len-at-end.ensures) in
    let count = ap (λ (o : Opening). o.count) (c.counts.ensures ([], none_yet 0 0)) in
    elim c.if-counts-from.branch [
      | then-counts-from+in_ok-shown+in_ok-push w ↦
          ap (λ (v : Vec Opening Global). v.items) w.listed-is ∙ w.in_ok-push.ensures.items
          ∙ listed-more c.args.least es c.loop-at.at ([], none_yet 0 0) lt c.loop-at.listed.items _ c.loop-at.invariant (w.in_ok-shown.ensures ([], none_yet 0 0)) (omega (arith, w.if-counts-from.true, c.from.ensures, count))
      | else-counts-from w ↦
          ap (λ (v : Vec Opening Global). v.items) w.listed-is
          ∙ listed-none c.args.least es c.loop-at.at ([], none_yet 0 0) lt c.loop-at.listed.items c.loop-at.invariant (λ le. omega (arith, le, w.if-counts-from.false, c.from.ensures, count))
    ]
