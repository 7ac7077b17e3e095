use Rattle.std.proofs.Common.{length, sym, ap, ◌∙◌}
use Rattle.sgf_reader.specs.declared.collection.RawGame.{RawGame}
use Rattle.sgf_reader.proofs.FlatLists.{length-shown}
use Rattle.sgf_reader.proofs.flat.FlatGame.node_count.Goals as goal

pub returns : goal.returns
returns c = sym (length-shown c.self.inside.nodes.now c.self.inside.pairs.now) ∙ ap (λ (g : RawGame). length g.nodes) c.self.view_is
