use Rattle.std.proofs.Common.{◌≡◌, ◌<◌, ◌+◌, ◌*◌, ◌/◌, ◌∙◌, List, ap, set, subst, sym}
use Rattle.kb_geometry.specs.declared.shape.Shape.{Shape}
use Rattle.kb_geometry.specs.Board.{point_count}
use Rattle.kb_geometry.specs.Capture.{Position}
use Rattle.opening_tree.specs.Frames.{image_in, symmetries_of}
use Rattle.opening_tree.specs.Packing.{words_for}
use Rattle.opening_tree.specs.Turned.{TurnedState}
use Rattle.opening_tree.proofs.TurnedWords.{AreTurned-put, turned-put}
use Rattle.opening_tree.proofs.turned.TurnedPositions.put.Goals as goal

pub invariant_of-self : goal.invariant_of-self
invariant_of-self c =
    let same : c.args.self.now.shape ≡ c.self.inside.shape = sym (ap (λ (t : TurnedState). t.shape) c.self.view_is) in
    let lt = subst (λ (s : Shape). c.args.number < symmetries_of s) same c.requires.number in
    let on = subst (λ (s : Shape). c.args.point < point_count s) same c.requires.on_board in
    let at = (λ i. c.start.ensures i + c.from.ensures i) ∙ ap (λ (s : Shape). words_for (point_count s) * c.args.number + c.args.point / 32) same in
    AreTurned-put c.self.inside.shape c.self.inside.words.items c.self.invariant c.args.number lt c.args.point on c.args.cell (c.start.result + c.from.result) c.with_bits.result c.index.result.now c.place_of.result c.bits_of.result
    at c.index.ensures c.place_of.ensures.value c.bits_of.ensures.value c.with_bits.ensures c.with_bits.type_inv

pub returns-clause-images : goal.returns-clause-images
returns-clause-images c =
    let same : c.args.self.now.shape ≡ c.self.inside.shape = sym (ap (λ (t : TurnedState). t.shape) c.self.view_is) in
    let lt = subst (λ (s : Shape). c.args.number < symmetries_of s) same c.requires.number in
    let on = subst (λ (s : Shape). c.args.point < point_count s) same c.requires.on_board in
    let at = (λ i. c.start.ensures i + c.from.ensures i) ∙ ap (λ (s : Shape). words_for (point_count s) * c.args.number + c.args.point / 32) same in
    turned-put c.self.inside.shape c.self.inside.words.items c.self.invariant c.args.number lt c.args.point on c.args.cell (c.start.result + c.from.result) c.with_bits.result c.index.result.now c.place_of.result c.bits_of.result
    at c.index.ensures c.place_of.ensures.value c.bits_of.ensures.value c.with_bits.ensures c.with_bits.type_inv
    ∙ ap (λ (is : List Position). set is c.args.number (set (image_in is c.args.number) c.args.point c.args.cell)) (ap (λ (t : TurnedState). t.images) c.self.view_is)
