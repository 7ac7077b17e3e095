-- One label after another, and then the next point.
use Rattle.std.proofs.Common.{◌≡◌, ◌+◌, ℕ, arith, subst}
use Rattle.pattern_images.specs.Listing.{ListsOn}
use Rattle.pattern_images.proofs.ListMoves.{ListsOn-none, ListsOn-more, ListsOn-point}
use Rattle.pattern_images.proofs.listing.list_point.Goals as goal

pub loop-number-init : goal.loop-number-init
loop-number-init c = λ shape. ListsOn-none shape c.args.turns.now c.args.p.y c.args.p.x 0 c.args.places.now.items

pub loop-number-preserved : goal.loop-number-preserved
loop-number-preserved c = λ shape.
    ListsOn-more shape c.args.turns.now c.args.p.y c.args.p.x 0 c.args.p.y c.args.p.x c.loop-number.number c.args.p.y c.args.p.x (c.loop-number.number + 1)
    c.args.places.now.items c.loop-number.places.items c.list_label.new.places.items (c.loop-number.invariant shape) (c.in_ok-list_label.ensures shape)

pub returns : goal.returns
returns c = λ shape.
    let all : c.loop-number.number ≡ 16 = omega arith in
    ListsOn-point shape c.args.turns.now c.args.p.y c.args.p.x c.args.p.y c.args.p.x 0 c.args.places.now.items c.loop-number.places.items
    (subst (λ (n : ℕ). ListsOn shape c.args.turns.now c.args.p.y c.args.p.x 0 c.args.places.now.items c.args.p.y c.args.p.x n c.loop-number.places.items) all (c.loop-number.invariant shape))
