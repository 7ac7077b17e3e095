use Rattle.std.proofs.Common.{None, ◌∙◌, ap, subst, sym}
use Rattle.game_tree.specs.Built.{Built, IsNextParent, with_node}
use Rattle.game_tree.specs.Stored.{shown_built}
use Rattle.game_tree.proofs.StoredGrowth.{shown_built-push}
use Rattle.game_tree.proofs.builder.TreeBuilder.add_root.Goals as goal

pub returns-clause-ok : goal.returns-clause-ok
returns-clause-ok c =
    let next : IsNextParent (shown_built c.self.inside.shape c.self.inside.nodes.items c.self.inside.setups.items) None = subst (λ (b : Built). IsNextParent b None) (sym c.self.view_is) c.requires.first in
    ap (λ (ts : _). shown_built c.self.inside.shape ts c.self.inside.setups.items) c.in_ok-push.ensures.items
    ∙ shown_built-push c.self.inside.shape c.self.inside.nodes.items c.self.inside.setups.items
    (record { setups_end = c.len.result; parent = 0; next_sibling = 0; moves_above = 0; played = c.args.played }) None next
    (λ m e. absurd cc) (c.len.ensures ∙ c.self.inside.setups.ok.0) c.self.invariant.ends
    ∙ ap (λ (b : Built). with_node b None c.args.played) c.self.view_is
