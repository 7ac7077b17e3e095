use Rattle.std.proofs.Common.{ℕ, List, length, arith, sym, ap, ◌∙◌, subst₂}
use Rattle.kb_geometry.specs.Board.{point_count}
use Rattle.final_index.specs.PlaneWords.{HaveBitsOfBoth}
use Rattle.final_index.proofs.GamesOfWords.{ArePlaneWords-joined, count-both, games_of_words-joined, join-seen, same-shape}
use Rattle.final_index.proofs.planes.Planes.join.Goals as goal

pub joined_words-requires-clause-room : goal.joined_words-requires-clause-room
joined_words-requires-clause-room c k i e =
    let few = count-both c.a.inside.shape (point_count c.a.inside.shape) c.a.inside.present c.a.inside.words.items c.a.inside.count c.args.a.now c.a.view_is
    c.b.inside.shape (point_count c.b.inside.shape) c.b.inside.present c.b.inside.words.items c.b.inside.count c.args.b.now c.b.view_is c.requires.few in
    omega (arith, few, c.b.invariant.counted i (c.b.invariant.of_present k i (rw c.as_slice-2.ensures.value at e)))

pub joined-requires-clause-room : goal.joined-requires-clause-room
joined-requires-clause-room c i e =
    let few = count-both c.a.inside.shape (point_count c.a.inside.shape) c.a.inside.present c.a.inside.words.items c.a.inside.count c.args.a.now c.a.view_is
    c.b.inside.shape (point_count c.b.inside.shape) c.b.inside.present c.b.inside.words.items c.b.inside.count c.args.b.now c.b.view_is c.requires.few in
    omega (arith, few, c.b.invariant.counted i e)

pub invariant_of-result : goal.invariant_of-result
invariant_of-result c =
    let few = count-both c.a.inside.shape (point_count c.a.inside.shape) c.a.inside.present c.a.inside.words.items c.a.inside.count c.args.a.now c.a.view_is
    c.b.inside.shape (point_count c.b.inside.shape) c.b.inside.present c.b.inside.words.items c.b.inside.count c.args.b.now c.b.view_is c.requires.few in
    let same = same-shape c.a.inside.shape (point_count c.a.inside.shape) c.a.inside.present c.a.inside.words.items c.a.inside.count c.args.a.now c.a.view_is
    c.b.inside.shape (point_count c.b.inside.shape) c.b.inside.present c.b.inside.words.items c.b.inside.count c.args.b.now c.b.view_is c.requires.same in
    ArePlaneWords-joined (point_count c.a.inside.shape) c.a.inside.count c.a.inside.present c.a.inside.words.items c.a.invariant
    c.b.inside.count c.b.inside.present c.b.inside.words.items (rw same c.b.invariant) few c.joined.result c.joined.ensures c.in_ok-words.words.items
    (subst₂ (λ (xs ys : List ℕ). HaveBitsOfBoth xs ys c.a.inside.count c.in_ok-words.words.items) c.as_slice.ensures.value c.as_slice-2.ensures.value c.in_ok-words.ensures.words)
    (c.in_ok-words.ensures.count ∙ ap length c.as_slice.ensures.value)

pub returns : goal.returns
returns c =
    let few = count-both c.a.inside.shape (point_count c.a.inside.shape) c.a.inside.present c.a.inside.words.items c.a.inside.count c.args.a.now c.a.view_is
    c.b.inside.shape (point_count c.b.inside.shape) c.b.inside.present c.b.inside.words.items c.b.inside.count c.args.b.now c.b.view_is c.requires.few in
    let same = same-shape c.a.inside.shape (point_count c.a.inside.shape) c.a.inside.present c.a.inside.words.items c.a.inside.count c.args.a.now c.a.view_is
    c.b.inside.shape (point_count c.b.inside.shape) c.b.inside.present c.b.inside.words.items c.b.inside.count c.args.b.now c.b.view_is c.requires.same in
    join-seen c.a.inside.shape (point_count c.a.inside.shape) c.a.inside.present c.a.inside.words.items c.a.inside.count c.args.a.now c.a.view_is
    c.b.inside.shape (point_count c.b.inside.shape) c.b.inside.present c.b.inside.words.items c.b.inside.count c.args.b.now c.b.view_is _
    (rw (sym (ap point_count same)) (games_of_words-joined (point_count c.a.inside.shape) c.a.inside.count c.a.inside.present c.a.inside.words.items c.a.invariant
    c.b.inside.count c.b.inside.present c.b.inside.words.items (rw same c.b.invariant) few c.joined.result c.joined.ensures c.in_ok-words.words.items
    (subst₂ (λ (xs ys : List ℕ). HaveBitsOfBoth xs ys c.a.inside.count c.in_ok-words.words.items) c.as_slice.ensures.value c.as_slice-2.ensures.value c.in_ok-words.ensures.words)
    (c.in_ok-words.ensures.count ∙ ap length c.as_slice.ensures.value)))
