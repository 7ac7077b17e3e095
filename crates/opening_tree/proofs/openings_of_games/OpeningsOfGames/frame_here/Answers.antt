use Rattle.std.proofs.Common.{◌∙◌, ap, sym}
use Rattle.std.proofs.lemmas.Bool.{false≢true}
use Rattle.kb_geometry.specs.declared.shape.Shape.{Shape}
use Rattle.kb_geometry.specs.Board.{point_count}
use Rattle.opening_tree.specs.Packing.{words_for}
use Rattle.opening_tree.proofs.GoneSteps.{entry-ready, gone-at, gone-skip}
use Rattle.opening_tree.proofs.openings_of_games.OpeningsOfGames.frame_here.Goals as goal

pub add_entry-requires-clause-ready : goal.add_entry-requires-clause-ready
add_entry-requires-clause-ready c =
    let (positions, es, ns, are, to) = c.requires.so_far in
    let at = c.requires.at_node in
    entry-ready c.args.self.now.asked.depth c.args.entry.game c.args.tree.now at.is_tree c.args.deltas.now at.are_changes positions are c.args.entry.node c.requires.in_tree es ns c.args.self.now.openings.entries c.args.self.now.frames.items to
    c.args.self.now.walker at.stands at.here c.turned-turned.result.now c.turned-turned.ensures.shape c.turned-turned.ensures.images c.words.result.now c.words.ensures.cells

pub returns-then-not-is_entry-clause-gone : goal.returns-then-not-is_entry-clause-gone
returns-then-not-is_entry-clause-gone c positions are es ns to =
    let at = c.requires.at_node in
    gone-skip c.args.self.now.asked.depth c.args.entry.game c.args.tree.now at.is_tree c.args.deltas.now at.are_changes positions are c.args.entry.node c.requires.in_tree es ns c.args.self.now.openings.entries c.args.self.now.frames.items to
    (λ is. false≢true (sym c.if-not-is_entry.true ∙ c.is_entry.ensures.1 is)) c.frame_above.result c.frame_above.ensures

pub returns-clause-gone : goal.returns-clause-gone
returns-clause-gone c positions are es ns to =
    let at = c.requires.at_node in
    gone-at c.args.self.now.asked.depth c.args.entry.game c.args.tree.now at.is_tree c.args.deltas.now at.are_changes positions are c.args.entry.node c.requires.in_tree es ns c.args.self.now.openings.entries c.args.self.now.frames.items to
    c.args.self.now.walker at.stands at.here c.turned-turned.result.now c.turned-turned.ensures.shape c.turned-turned.ensures.images c.words.result.now
    (c.is_entry.ensures.0 c.if-not-is_entry.false) c.words.ensures.cells c.least-least.result c.least-least.ensures c.words.ensures.value c.args.entry.outcome at.outcome c.add_entry.new.openings.entries c.in_ok-opening.opening c.in_ok-opening.ensures.added

pub add_entry-requires-clause-width : goal.add_entry-requires-clause-width
add_entry-requires-clause-width c = c.words.ensures.cells.room ∙ ap (λ (s : Shape). words_for (point_count s)) c.turned-turned.ensures.shape ∙ sym c.requires.width
