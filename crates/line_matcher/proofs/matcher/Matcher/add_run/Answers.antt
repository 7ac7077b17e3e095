-- The placement at hand is found exactly where it begins to hold.
use Rattle.std.proofs.Common.{sym, ◌∙◌}
use Rattle.line_matcher.specs.Begins.{holds_anew, seen}
use Rattle.line_matcher.proofs.FoundLists.{IsAdded-trans, IsAdded-push, IsAdded-pass}
use Rattle.line_matcher.proofs.matcher.Matcher.add_run.Goals as goal
use Rattle.line_matcher.proofs.matcher.Matcher.add_run.Goals.{then-holds_anew+in_ok-push, else-holds_anew}

pub loop-i-preserved : goal.loop-i-preserved
loop-i-preserved c =
    let images = c.args.self.now.images.now in
    let visit = c.args.visit.now in
    let test = holds_anew images.shape visit.walker.now.position (seen visit.changed) in
    elim c.if-holds_anew.branch [
      | then-holds_anew+in_ok-push w ↦
          rw w.found-is (IsAdded-trans images.placements test visit.node c.loop-i.invariant
          (IsAdded-push images.placements test visit.node c.loop-i.i c.loop-i.found.items w.push.new.self.items (sym c.holds_anew.ensures ∙ w.if-holds_anew.true) w.in_ok-push.ensures.items))
      | else-holds_anew w ↦
          rw w.found-is (IsAdded-trans images.placements test visit.node c.loop-i.invariant
          (IsAdded-pass images.placements test visit.node c.loop-i.i c.loop-i.found.items (sym c.holds_anew.ensures ∙ w.if-holds_anew.false)))
    ]
