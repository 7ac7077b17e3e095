use Rattle.std.proofs.Common.{ℕ, List, ◌∙◌, ap, subst}
use Rattle.kb_geometry.specs.declared.stone.Change.{Change}
use Rattle.kb_geometry.specs.Board.{point_count}
use Rattle.capture_board.specs.Deltas.{changes_of}
use Rattle.final_index.specs.declared.ever_sets.EverSets.{EverSets}
use Rattle.final_index.specs.Gathering.{AreAdded, AreUntouched}
use Rattle.final_index.proofs.GatheredNodes.{AreGathered-root}
use Rattle.final_index.proofs.ever_sets.at_root.Goals as goal

pub returns : goal.returns
returns c =
    let sets : EverSets = record { black = c.empty.result; white = c.empty-2.result; empty = c.untouched.result } in
    let is = c.changes-changes.ensures.value in
    AreGathered-root c.args.deltas.now c.shape.ensures.deltas sets c.requires
    (subst (λ (n : ℕ). AreUntouched n (changes_of c.args.deltas.now 0) c.untouched.result) (c.count.ensures.value ∙ ap point_count c.shape.ensures.value)
    (subst (λ (cs : List Change). AreUntouched c.count.result cs c.untouched.result) is c.untouched.ensures))
    c.empty.ensures c.empty-2.ensures c.add.new.self (subst (λ (cs : List Change). AreAdded sets cs c.add.new.self) is c.add.ensures)
