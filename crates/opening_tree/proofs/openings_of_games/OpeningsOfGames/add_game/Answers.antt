use Rattle.std.proofs.Common.{◌∙◌, ◌++◌, ◌∷◌, [], ap, length, refl, subst, sym}
use Rattle.std.proofs.lemmas.Bool.{false≢true}
use Rattle.node_position.proofs.EachTree.{positions-found}
use Rattle.kb_geometry.specs.declared.shape.Shape.{Shape}
use Rattle.kb_geometry.specs.Board.{point_count}
use Rattle.opening_tree.specs.declared.openings.Asked.{Asked}
use Rattle.opening_tree.specs.Packing.{words_for}
use Rattle.opening_tree.specs.StoredGames.{AreOpeningsOf}
use Rattle.opening_tree.specs.Turned.{TurnedWalk}
use Rattle.opening_tree.proofs.GoneSteps.{game-added, nexts-carried, nexts-start}
use Rattle.opening_tree.proofs.StoredSteps.{openings-elsewhere, ready-game}
use Rattle.opening_tree.proofs.openings_of_games.OpeningsOfGames.add_game.Goals as goal

pub add_entries-requires-clause-board : goal.add_entries-requires-clause-board
add_entries-requires-clause-board c = c.requires.board ∙ sym (c.is_on.ensures.shape.0 c.if-not-is_on.false)

pub add_entries-requires-clause-width : goal.add_entries-requires-clause-width
add_entries-requires-clause-width c = c.requires.width ∙ sym (ap (λ (s : Shape). words_for (point_count s)) (c.is_on.ensures.shape.0 c.if-not-is_on.false))

pub add_entries-requires-clause-so_far : goal.add_entries-requires-clause-so_far
add_entries-requires-clause-so_far c =
    let (first, games, count, are) = c.requires.so_far in
    let is_tree = c.is_on.ensures.tree in (
      are.entries,
      are.nexts,
      ready-game c.args.self.now.asked.shape c.args.self.now.asked.depth c.args.number c.args.game.now is_tree first games count c.requires.most c.args.self.now.openings.entries are (c.is_on.ensures.shape.0 c.if-not-is_on.false),
    )

pub add_nexts-requires : goal.add_nexts-requires
add_nexts-requires c =
    let (first, games, count, are) = c.requires.so_far in
    let is_tree = c.is_on.ensures.tree in
    let (positions, at) = positions-found c.args.game.now.tree is_tree in
    let ready = ready-game c.args.self.now.asked.shape c.args.self.now.asked.depth c.args.number c.args.game.now is_tree first games count c.requires.most c.args.self.now.openings.entries are (c.is_on.ensures.shape.0 c.if-not-is_on.false) in
    let gone = c.in_ok-add_entries.ensures.gone positions at are.entries are.nexts ready in
    let frames = c.add_entries.new.self.frames.items in
    record {
      so_far = (
        positions,
        are.entries ++ gone.1.more,
        are.nexts,
        at,
        nexts-carried c.args.self.now.asked.depth c.add_entries.new.self.asked.depth c.args.game.now.tree positions 0 (are.entries ++ gone.1.more) are.nexts c.add_entries.new.self.openings.entries frames frames
            (sym (ap (λ (a : Asked). a.depth) c.add_entries.ensures.asked)) refl (nexts-start c.args.self.now.asked.depth c.args.number c.args.game.now.tree is_tree positions at are.entries are.nexts c.add_entries.new.self.openings.entries frames gone.0 gone.1),
      );
    }

pub returns-then-not-is_on-clause-added : goal.returns-then-not-is_on-clause-added
returns-then-not-is_on-clause-added c first games count are =
    let is_tree = c.is_on.ensures.tree in
    openings-elsewhere c.args.self.now.asked.shape c.args.self.now.asked.depth c.args.number c.args.game.now is_tree first games count c.requires.most c.args.self.now.openings.entries are
    (λ e. false≢true (sym c.if-not-is_on.true ∙ c.is_on.ensures.shape.1 e))

pub returns-clause-board : goal.returns-clause-board
returns-clause-board c =
    ap (λ (w : TurnedWalk). w.shape) c.add_nexts.ensures.walker ∙ c.in_ok-add_entries.ensures.board ∙ c.is_on.ensures.shape.0 c.if-not-is_on.false ∙ sym (ap (λ (a : Asked). a.shape) (c.add_nexts.ensures.asked ∙ c.add_entries.ensures.asked))

pub returns-clause-added : goal.returns-clause-added
returns-clause-added c first games count are =
    let shape = c.args.self.now.asked.shape in
    let depth = c.args.self.now.asked.depth in
    let on = c.is_on.ensures.shape.0 c.if-not-is_on.false in
    let is_tree = c.is_on.ensures.tree in
    let (positions, at) = positions-found c.args.game.now.tree is_tree in
    let ready = ready-game shape depth c.args.number c.args.game.now is_tree first games count c.requires.most c.args.self.now.openings.entries are on in
    let gone = c.in_ok-add_entries.ensures.gone positions at are.entries are.nexts ready in
    let frames = c.add_entries.new.self.frames.items in
    let new = c.add_entries.new.self.openings.entries in
    let last = c.add_nexts.new.self.openings.entries in
    let same = ap (λ (a : Asked). a.depth) c.add_entries.ensures.asked in
    let es = are.entries ++ gone.1.more in
    let start = nexts-carried depth c.add_entries.new.self.asked.depth c.args.game.now.tree positions 0 es are.nexts new frames frames (sym same) refl
    (nexts-start depth c.args.number c.args.game.now.tree is_tree positions at are.entries are.nexts new frames gone.0 gone.1) in
    let end = nexts-carried c.add_entries.new.self.asked.depth depth c.args.game.now.tree positions (length frames) es are.nexts last frames frames same refl
    (c.in_ok-add_nexts.ensures.gone positions at es are.nexts start) in
    subst (λ (a : Asked). AreOpeningsOf first a.shape a.depth (games ++ c.args.game.now ∷ []) last) (sym (c.add_nexts.ensures.asked ∙ c.add_entries.ensures.asked))
    (game-added shape depth c.args.number c.args.game.now is_tree first games count c.requires.most c.args.self.now.openings.entries are on positions at new last frames gone.0 gone.1 end)
