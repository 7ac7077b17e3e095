use Rattle.std.proofs.Common.{ℕ, List, ◌≡◌, refl, ap, sym, ◌∙◌, arith, rules, set, replicate, subst}
use Rattle.kb_geometry.specs.Board.{point_count}
use Rattle.capture_board.specs.Deltas.{node_count}
use Rattle.capture_index.specs.declared.run.Branch.{Branch}
use Rattle.capture_index.specs.Branches.{AreBranchesTo}
use Rattle.capture_index.proofs.Branchings.{above-told}
use Rattle.capture_index.proofs.Packed.{ArePacked-as, ArePacked-more, ArePacked-none, IsRunIndexOf-packed}
use Rattle.capture_index.proofs.building.pack.Goals as goal

pub loop-p-init : goal.loop-p-init
loop-p-init c =
    let items : c.in_ok-times.times.items ≡ replicate c.from.result c.packed.result = search rules in
    ArePacked-none c.args.growing.now (point_count c.shape-shape.result) c.packed.result c.in_ok-times.times.items c.new-ends.result.items c.new-runs.result.items (c.packed.ensures)
    (items ∙ ap (λ (n : ℕ). replicate n c.packed.result) (c.from.ensures ∙ c.count.ensures.value)) c.new-ends.ensures.items c.new-runs.ensures.items

pub loop-p-preserved : goal.loop-p-preserved
loop-p-preserved c =
    ArePacked-more c.args.growing.now (point_count c.shape-shape.result) c.loop-p.p c.loop-p.times.items _ c.loop-p.ends.items c.pack_point.new.ends.items c.loop-p.runs.items c.pack_point.new.runs.items c.in_ok-time.time
    (omega (arith, c.loop-p-test.true, c.count-p-end.ensures.value)) c.loop-p.invariant c.in_ok-time.ensures (ap (λ (i : ℕ). set c.loop-p.times.items i c.in_ok-time.time) c.from-in-loop-p.ensures)

pub returns : goal.returns
returns c =
    let all : c.loop-p.p ≡ point_count c.args.deltas.now.shape = omega (arith, c.count-p-end.ensures.value, ap point_count c.shape-shape.ensures.value) in
    let branches = subst (λ (bs : List Branch). AreBranchesTo c.args.deltas.now (node_count c.args.deltas.now) bs) (sym c.shrink_to_fit-3.ensures.items) c.requires.branches in
    IsRunIndexOf-packed c.args.deltas.now c.shape-shape.ensures.deltas _ c.args.growing.now (point_count c.shape-shape.result) c.requires.built c.shape-shape.ensures.value c.node_count-nodes.ensures.value branches
    (ArePacked-as c.args.growing.now (point_count c.shape-shape.result) c.loop-p.p (point_count c.args.deltas.now.shape) c.loop-p.times.items c.loop-p.ends.items c.shrink_to_fit.new.self.items c.loop-p.runs.items c.shrink_to_fit-2.new.self.items all c.shrink_to_fit.ensures.items c.shrink_to_fit-2.ensures.items c.loop-p.invariant)

pub invariant_of-result : goal.invariant_of-result
invariant_of-result c =
    let all : c.loop-p.p ≡ point_count c.shape-shape.result = omega (arith, c.count-p-end.ensures.value) in
    let packed = ArePacked-as c.args.growing.now (point_count c.shape-shape.result) c.loop-p.p (point_count c.shape-shape.result) c.loop-p.times.items c.loop-p.ends.items c.shrink_to_fit.new.self.items c.loop-p.runs.items c.shrink_to_fit-2.new.self.items all c.shrink_to_fit.ensures.items c.shrink_to_fit-2.ensures.items c.loop-p.invariant in
    let branches = subst (λ (bs : List Branch). AreBranchesTo c.args.deltas.now (node_count c.args.deltas.now) bs) (sym c.shrink_to_fit-3.ensures.items) c.requires.branches in
    record {
      few = omega (arith, c.node_count-nodes.ensures.most);
      points = packed.counted;
      lists = packed.lists;
      ascending = branches.ascending;
      above = above-told c.args.deltas.now c.shrink_to_fit-3.new.self.items c.shape-shape.ensures.deltas branches;
      within = λ k d lt. omega (arith, (branches.sound _ _ (k, d, lt, refl, refl)).0, c.node_count-nodes.ensures.value);
      words = packed.words;
    }
