-- One point after another, and then the next row.
use Rattle.std.proofs.Common.{◌≡◌, ◌+◌, ℕ, arith, false, subst, true}
use Rattle.kb_geometry.specs.Board.{cols_of}
use Rattle.pattern_images.specs.Listing.{ListsOn}
use Rattle.pattern_images.proofs.ListMoves.{ListsOn-none, ListsOn-more, ListsOn-passed, ListsOn-row}
use Rattle.pattern_images.proofs.listing.list_row.Goals as goal

pub loop-x-init : goal.loop-x-init
loop-x-init c = ListsOn-none c.args.shape c.args.turns.now c.args.y 0 0 c.args.places.now.items

pub loop-x-preserved : goal.loop-x-preserved
loop-x-preserved c =
    ListsOn-more c.args.shape c.args.turns.now c.args.y 0 0 c.args.y c.loop-x.x 0 c.args.y (c.loop-x.x + 1) 0
    c.args.places.now.items c.loop-x.places.items c.list_point.new.places.items c.loop-x.invariant (c.in_ok-list_point.ensures c.args.shape)

pub returns : goal.returns
returns c =
    let all : c.loop-x.x ≡ cols_of c.args.shape = omega arith in
    ListsOn-row c.args.shape c.args.turns.now c.args.y c.args.y 0 0 c.args.places.now.items c.loop-x.places.items
    (subst (λ (n : ℕ). ListsOn c.args.shape c.args.turns.now c.args.y 0 0 c.args.places.now.items c.args.y n 0 c.loop-x.places.items) all c.loop-x.invariant)

pub returns-then-not-is_reached : goal.returns-then-not-is_reached
returns-then-not-is_reached c =
    ListsOn-passed c.args.shape c.args.turns.now c.args.y c.args.places.now.items c.requires.each (λ reached. let no : false ≡ true = c.if-not-is_reached.ensures.1 reached in cc)
