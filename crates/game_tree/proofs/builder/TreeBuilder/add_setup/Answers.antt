use Rattle.std.proofs.Common.{sym, subst, ◌∙◌, ap, arith, List}
use Rattle.game_tree.specs.declared.node.Setup.{Setup}
use Rattle.game_tree.specs.Built.{Built, with_setup}
use Rattle.kb_geometry.specs.Board.{IsOrderedRectOnBoard}
use Rattle.game_tree.specs.Stored.{IsBeginning, shown_built}
use Rattle.game_tree.proofs.StoredGrowth.{shown_built-setup, IsBeginning-setup}
use Rattle.game_tree.proofs.builder.TreeBuilder.add_setup.Goals as goal

pub invariant_of-self-2 : goal.invariant_of-self-2
invariant_of-self-2 c =
    let count = ap (λ (b : Built). b.setup_count) c.self.view_is in
    subst (λ (ss : List Setup). IsBeginning c.self.inside.shape c.self.inside.nodes.items ss c.self.inside.main_line) (sym c.in_ok-push.ensures.items)
    (IsBeginning-setup c.self.inside.shape c.self.inside.nodes.items c.self.inside.setups.items c.self.inside.main_line c.self.invariant c.args.setup (omega (arith, c.requires.room, count))
    (subst (λ (b : Built). IsOrderedRectOnBoard b.shape c.args.setup.rect) (sym c.self.view_is) c.requires.on_board))

pub returns-clause-ok : goal.returns-clause-ok
returns-clause-ok c =
    ap (λ (ss : _). shown_built c.self.inside.shape c.self.inside.nodes.items ss) c.in_ok-push.ensures.items
    ∙ shown_built-setup c.self.inside.nodes.items c.self.inside.setups.items c.self.invariant.ends c.args.setup c.self.inside.shape
    ∙ ap (λ (b : _). with_setup b c.args.setup) c.self.view_is
