use Rattle.std.proofs.Common.{◌≡◌, ℕ, ◌+◌, List, slice_index, ap, sym, ◌∙◌, subst}
use Rattle.std.specs.Int.{bit_at}
use Rattle.kb_geometry.specs.Board.{point_count}
use Rattle.final_index.specs.Order.{MayHaveStood, OrderGames, side_start}
use Rattle.final_index.proofs.KeptBits.{and-bit}
use Rattle.final_index.proofs.OrderedBits.{bit-further}
use Rattle.final_index.proofs.order_planes.OrderPlanes.keep.Goals as goal

pub returns-clause-part : goal.returns-clause-part
returns-clause-part c = λ k g lt one.
    let both = and-bit (slice_index c.args.words.now k) (slice_index c.as_slice.result.now (c.side_start.result + c.from.result + k)) g in
    (both.0 (sym (ap (λ (w : ℕ). bit_at w g) (c.cut.ensures.each k lt)) ∙ one)).0

pub returns-clause-kept : goal.returns-clause-kept
returns-clause-kept c = λ k g lt one may.
    let first = c.side_start.result + c.from.result in
    let order : OrderGames = record { shape = c.self.inside.shape; count = c.self.inside.count; words = c.self.inside.words.items } in
    let start : c.side_start.result ≡ side_start (point_count c.self.inside.shape) c.in-Some.side = c.side_start.ensures.value ∙ ap (λ (n : ℕ). side_start n c.in-Some.side) c.count.ensures.value in
    let at : first ≡ side_start (point_count c.self.inside.shape) c.in-Some.side + c.args.stone = ap (λ (n : ℕ). n + c.from.result) start ∙ ap (λ (n : ℕ). side_start (point_count c.self.inside.shape) c.in-Some.side + n) c.from.ensures in
    let stood : MayHaveStood order g (c.args.stone + k) (c.args.empty + k) = subst (λ (o : OrderGames). MayHaveStood o g (c.args.stone + k) (c.args.empty + k)) (sym c.self.view_is) may in
    let bit = bit-further order c.in-Some.side c.args.stone c.args.empty k g first c.in-Some.ensures stood at in
    let both = and-bit (slice_index c.args.words.now k) (slice_index c.as_slice.result.now (first + k)) g in
    ap (λ (w : ℕ). bit_at w g) (c.cut.ensures.each k lt) ∙ both.1 (one, ap (λ (ws : List ℕ). bit_at (slice_index ws (first + k)) g) c.as_slice.ensures.value ∙ bit)
