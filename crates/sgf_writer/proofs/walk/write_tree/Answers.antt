use Rattle.std.proofs.Common.{◌<◌, ℕ, Option, subst}
use Rattle.std.specs.Prelude.{IfSome}
use Rattle.game_tree.specs.Tree.{node_count}
use Rattle.game_tree.proofs.Trees.{IsGrown-tree}
use Rattle.sgf_writer.specs.Walk.{Follows}
use Rattle.sgf_writer.proofs.Closings.{IsWriting-start, IsWriting-more, IsWriting-end}
use Rattle.sgf_writer.proofs.walk.write_tree.Goals as goal

pub loop-out-init : goal.loop-out-init
loop-out-init c = IsWriting-start c.args.tree.now (IsGrown-tree _ c.requires) c.args.out.now.items c.requires.some

pub loop-out-preserved : goal.loop-out-preserved
loop-out-preserved c =
    let tree = c.args.tree.now in
    let f = c.in_ok-next.ensures.text in
    let follows = subst (λ (o : Option ℕ). Follows tree c.loop-out.n o f.0) c.in-Some.is f.1 in
    let later = subst (λ (o : Option ℕ). IfSome o (λ s. (c.loop-out.n < s) × (s < node_count tree))) c.in-Some.is c.in_ok-next.ensures.later in
    IsWriting-more tree (IsGrown-tree _ c.requires) c.loop-out.n c.in-Some.next c.args.out.now.items c.loop-out.out.items c.write_opening.new.out.items c.write_node.new.out.items c.write_behind.new.out.items f.0 c.loop-out.invariant c.in_ok-write_opening.ensures.ok c.in_ok-write_node.ensures.ok follows f.2 later.1

pub returns-in-None-clause-ok : goal.returns-in-None-clause-ok
returns-in-None-clause-ok c =
    let tree = c.args.tree.now in
    let f = c.in_ok-next.ensures.text in
    let follows = subst (λ (o : Option ℕ). Follows tree c.loop-out.n o f.0) c.in-None.is f.1 in
    IsWriting-end tree (IsGrown-tree _ c.requires) c.loop-out.n c.args.out.now.items c.loop-out.out.items c.write_opening.new.out.items c.write_node.new.out.items c.write_behind.new.out.items f.0 c.loop-out.invariant c.in_ok-write_opening.ensures.ok c.in_ok-write_node.ensures.ok follows f.2
