use Rattle.std.proofs.Common.{◌+◌, ◌<◌, ap, ◌∙◌, sym, subst, arith}
use Rattle.std.proofs.lemmas.List.{with_items_is}
use Rattle.kb_geometry.specs.Board.{point_count}
use Rattle.final_index.specs.Order.{HasGameMore, OrderGames}
use Rattle.final_index.proofs.OrderedBits.{AreOrderWords-more, game-more}
use Rattle.final_index.proofs.order_planes.OrderPlanes.push.Goals as goal

pub note_game-requires-clause-from : goal.note_game-requires-clause-from
note_game-requires-clause-from c = omega (arith, c.in_ok-spans.ensures.from_count, ap point_count c.requires.shape, ap (λ (o : OrderGames). point_count o.shape) c.self.view_is)

pub note_game-requires-clause-below : goal.note_game-requires-clause-below
note_game-requires-clause-below c = omega (arith, c.in_ok-spans.ensures.below_count, ap point_count c.requires.shape, ap (λ (o : OrderGames). point_count o.shape) c.self.view_is)

pub invariant_of-self : goal.invariant_of-self
invariant_of-self c =
    let few : c.self.inside.count < 64 = omega (arith, c.requires.few, ap (λ (o : OrderGames). o.count) c.self.view_is) in
    let gained = rw c.deref_mut.ensures.value at c.note_game.ensures in
    let is = with_items_is c.self.inside.words c.note_game.new.words (gained.room ∙ sym c.self.inside.words.ok.0) in
    rw is (AreOrderWords-more c.self.inside.shape c.self.inside.count c.self.inside.words.items c.note_game.new.words c.in_ok-spans.spans gained c.self.invariant few)

pub returns-clause-ok : goal.returns-clause-ok
returns-clause-ok c =
    let deltas = c.args.deltas.now in
    let same = c.requires.shape ∙ sym (ap (λ (o : OrderGames). o.shape) c.self.view_is) in
    let gained = rw c.deref_mut.ensures.value at c.note_game.ensures in
    let is = with_items_is c.self.inside.words c.note_game.new.words (gained.room ∙ sym c.self.inside.words.ok.0) in
    let more = game-more c.self.inside.shape c.self.inside.count c.self.inside.words.items c.note_game.new.words c.in_ok-spans.spans gained deltas c.in_ok-spans.ensures same in
    rw is (subst (λ (o : OrderGames). HasGameMore deltas o (record { shape = c.self.inside.shape; count = c.self.inside.count + 1; words = c.note_game.new.words })) c.self.view_is more)
