use Rattle.std.proofs.Common.{◌∙◌, ◌+◌, sym, ap}
use Rattle.std.proofs.Math.Bool.{not}
use Rattle.std.proofs.lemmas.Bool.{ne_eqb}
use Rattle.std.specs.Prelude.{is_some}
use Rattle.game_tree.proofs.Trees.{IsGrown-tree}
use Rattle.sgf_writer.proofs.InBrackets.{in_brackets-first, in_brackets-later}
use Rattle.sgf_writer.proofs.walk.is_in_brackets.Goals as goal

pub returns-then-n-parent : goal.returns-then-n-parent
returns-then-n-parent c =
    ap not (ne_eqb c.args.n (c.in-Some.parent + 1) c.if-n-parent.true)
    ∙ in_brackets-later c.args.tree.now (IsGrown-tree c.args.tree.now c.requires.tree) c.in-Some.parent c.args.n (sym c.parent.ensures.value ∙ c.in-Some.is) c.if-n-parent.true

pub returns-else-n-parent : goal.returns-else-n-parent
returns-else-n-parent c =
    c.is_some.ensures ∙ ap is_some c.next_sibling.ensures.value
    ∙ in_brackets-first c.args.tree.now (IsGrown-tree c.args.tree.now c.requires.tree) c.in-Some.parent c.args.n (sym c.parent.ensures.value ∙ c.in-Some.is) c.if-n-parent.false
