use Rattle.std.proofs.Common.{◌∙◌, sym}
use Rattle.kb_geometry.proofs.Prefixes.{refused_further}
use Rattle.game_tree.proofs.Trees.{IsGrown-tree}
use Rattle.sgf_writer.proofs.Closings.{IsClosing-start, IsClosing-more, IsClosing-sibling, IsClosing-end, IsClosing-later}
use Rattle.sgf_writer.proofs.walk.write_closings.Goals as goal

pub loop-sibling-init : goal.loop-sibling-init
loop-sibling-init c = IsClosing-start c.args.tree.now c.args.leaf c.args.out.now.items c.requires.in_range

pub returns-in-Some-clause-text : goal.returns-in-Some-clause-text
returns-in-Some-clause-text c =
    IsClosing-sibling c.args.tree.now (IsGrown-tree _ c.requires.tree) c.args.leaf c.loop-sibling.n c.in-Some.sibling c.args.out.now.items c.loop-sibling.out.items c.write_closing.new.out.items c.loop-sibling.invariant c.in_ok-write_closing.ensures.ok (sym c.next_sibling.ensures.value ∙ c.in-Some.is)

pub returns-in-Some-clause-later : goal.returns-in-Some-clause-later
returns-in-Some-clause-later c =
    IsClosing-later c.args.tree.now (IsGrown-tree _ c.requires.tree) c.args.leaf c.loop-sibling.n c.in-Some.sibling c.args.out.now.items c.loop-sibling.out.items c.loop-sibling.invariant (sym c.next_sibling.ensures.value ∙ c.in-Some.is)

pub loop-sibling-preserved : goal.loop-sibling-preserved
loop-sibling-preserved c =
    IsClosing-more c.args.tree.now (IsGrown-tree _ c.requires.tree) c.args.leaf c.loop-sibling.n c.in-Some-parent.parent c.args.out.now.items c.loop-sibling.out.items c.write_closing.new.out.items c.loop-sibling.invariant c.in_ok-write_closing.ensures.ok (sym c.next_sibling.ensures.value ∙ c.in_default.is) (sym c.parent.ensures.value ∙ c.in-Some-parent.is)

pub returns-in-None-clause-text : goal.returns-in-None-clause-text
returns-in-None-clause-text c =
    IsClosing-end c.args.tree.now (IsGrown-tree _ c.requires.tree) c.args.leaf c.loop-sibling.n c.args.out.now.items c.loop-sibling.out.items c.write_closing.new.out.items c.loop-sibling.invariant c.in_ok-write_closing.ensures.ok (sym c.parent.ensures.value ∙ c.in-None.is)

pub returns-in_err-write_closing-clause-refused : goal.returns-in_err-write_closing-clause-refused
returns-in_err-write_closing-clause-refused c = refused_further c.from_residual.result c.args.out.now.items c.loop-sibling.out.items c.write_closing.new.out.items c.loop-sibling.invariant.begins c.in_err-write_closing.ensures.refused
