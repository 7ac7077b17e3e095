use Rattle.std.proofs.Common.{rules, ◌≤◌, ◌∙◌, IsTrue, length, subst, arith}
use Rattle.corner_index.specs.Corners.{HasCorners}
use Rattle.corner_index.proofs.NodeNumbers.{AreNumbersOf-sorted}
use Rattle.corner_index.proofs.numbers.numbers_of.Goals as goal

pub returns : goal.returns
returns c =
    let on : IsTrue c.has_corners.result = search rules in
    let has : HasCorners c.args.deltas.now.shape = subst HasCorners c.shape.ensures.value (c.has_corners.ensures.0 on) in
    let fewer : length c.dedup.new.self.items ≤ length c.in_ok-numbers.numbers.items = omega (arith, c.dedup.ensures.bound, c.dedup.new.self.ok.0, c.in_ok-numbers.numbers.ok.0) in
    let less : length c.dedup-2.new.self.items ≤ length c.sort_unstable.new.self.items = omega (arith, c.dedup-2.ensures.bound, c.dedup-2.new.self.ok.0, c.sort_unstable.new.self.ok.0) in
    AreNumbersOf-sorted c.args.deltas.now c.args.corner c.in_ok-numbers.numbers.items c.dedup.new.self.items c.sort_unstable.new.self.items c.dedup-2.new.self.items (c.in_ok-numbers.ensures ∙ c.requires.nodes has c.args.corner c.requires.corner) has c.shape.ensures.deltas.most
    c.dedup.ensures.filtered fewer c.sort_unstable.ensures.permutation c.sort_unstable.ensures.sorted c.dedup-2.ensures.filtered less
