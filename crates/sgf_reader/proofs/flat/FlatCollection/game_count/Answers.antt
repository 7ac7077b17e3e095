use Rattle.std.proofs.Common.{length, sym, ap, ◌∙◌}
use Rattle.sgf_reader.specs.declared.collection.Collection.{Collection}
use Rattle.sgf_reader.specs.Flat.{shown_nodes}
use Rattle.sgf_reader.proofs.FlatLists.{length-games}
use Rattle.sgf_reader.proofs.flat.FlatCollection.game_count.Goals as goal

pub returns : goal.returns
returns c =
    let s = c.self.inside in
    c.len.ensures ∙ s.ends.ok.0 ∙ sym (length-games 0 s.ends.items (shown_nodes s.nodes.items s.pairs.items)) ∙ ap (λ (g : Collection). length g.games) c.self.view_is
