use Rattle.std.proofs.Common.{◌≡◌, Some, length, sym, ap, ◌∙◌, arith}
use Rattle.std.proofs.lemmas.List.{with_items_is}
use Rattle.kb_geometry.specs.Board.{point_count}
use Rattle.final_index.specs.Planes.{PlaneGames}
use Rattle.final_index.proofs.GamesOfWords.{ArePlaneWords-added, ascend-all, count-few, games_of_words-added, push-seen}
use Rattle.final_index.proofs.planes.Planes.add.Goals as goal

pub note_sets-requires-clause-few : goal.note_sets-requires-clause-few
note_sets-requires-clause-few c =
    count-few c.self.inside.shape (point_count c.self.inside.shape) c.self.inside.present c.self.inside.words.items c.self.inside.count c.args.self.now c.self.view_is c.requires.few

pub note_sets-requires-clause-on_board : goal.note_sets-requires-clause-on_board
note_sets-requires-clause-on_board c = λ stone p is_in.
    let on = c.requires.on_board stone p is_in in
    let same : point_count c.self.inside.shape ≡ point_count c.args.self.now.shape = ap (λ (planes : PlaneGames). point_count planes.shape) c.self.view_is in
    omega (arith, on, same, c.count-points.ensures.value)

pub overflow_shl-self : goal.overflow_shl-self
overflow_shl-self c =
    count-few c.self.inside.shape (point_count c.self.inside.shape) c.self.inside.present c.self.inside.words.items c.self.inside.count c.args.self.now c.self.view_is c.requires.few

pub invariant_of-self : goal.invariant_of-self
invariant_of-self c =
    let few = count-few c.self.inside.shape (point_count c.self.inside.shape) c.self.inside.present c.self.inside.words.items c.self.inside.count c.args.self.now c.self.view_is c.requires.few in
    let is = with_items_is c.self.inside.words c.note_sets.new.words (c.note_sets.ensures.room ∙ ap length c.deref_mut.ensures.value ∙ sym c.self.inside.words.ok.0) in
    let shape = ap (λ (p : PlaneGames). p.shape) c.self.view_is in
    rw is (ArePlaneWords-added (point_count c.self.inside.shape) c.self.inside.count c.self.inside.present c.self.inside.words.items c.self.invariant few c.args.sets.now
    (ascend-all c.args.sets.now c.members_ascend.ensures.ascending c.members_ascend-2.ensures.ascending c.members_ascend-3.ensures.ascending)
    (rw shape c.requires.on_board) c.note_sets.new.words (rw c.count-points.ensures.value at (rw c.deref_mut.ensures.value at c.note_sets.ensures)))

pub returns : goal.returns
returns c =
    let few = count-few c.self.inside.shape (point_count c.self.inside.shape) c.self.inside.present c.self.inside.words.items c.self.inside.count c.args.self.now c.self.view_is c.requires.few in
    let is = with_items_is c.self.inside.words c.note_sets.new.words (c.note_sets.ensures.room ∙ ap length c.deref_mut.ensures.value ∙ sym c.self.inside.words.ok.0) in
    let shape = ap (λ (p : PlaneGames). p.shape) c.self.view_is in
    rw is (push-seen c.self.inside.shape (point_count c.self.inside.shape) c.self.inside.present c.self.inside.words.items c.self.inside.count c.args.self.now c.self.view_is (Some c.args.sets.now) _
    (games_of_words-added (point_count c.self.inside.shape) c.self.inside.count c.self.inside.present c.self.inside.words.items c.self.invariant few c.args.sets.now
    (ascend-all c.args.sets.now c.members_ascend.ensures.ascending c.members_ascend-2.ensures.ascending c.members_ascend-3.ensures.ascending)
    (rw shape c.requires.on_board) c.note_sets.new.words (rw c.count-points.ensures.value at (rw c.deref_mut.ensures.value at c.note_sets.ensures))))
