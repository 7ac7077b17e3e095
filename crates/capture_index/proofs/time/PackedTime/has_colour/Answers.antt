use Rattle.std.proofs.Common.{Bool, ◌≡◌, ◌%◌, ◌↔◌, ◌==◌, sym, subst}
use Rattle.std.specs.Prelude.{IsTrue, if◌then◌else◌, not}
use Rattle.kb_geometry.specs.declared.stone.Colour.TheVariants as colour
use Rattle.capture_index.specs.Times.{stone_by}
use Rattle.capture_index.proofs.Times.{black-told, colour-told, white-told}
use Rattle.capture_index.proofs.time.PackedTime.has_colour.Goals as goal

pub returns-then-white : goal.returns-then-white
returns-then-white c =
    colour-told c.args.self c.args.white _
    (subst (λ (w : Bool). IsTrue ((c.args.self.word % 2) == 1) ↔ (stone_by c.args.self.word ≡ (if w then colour.White else colour.Black))) (sym c.if-white.true) (white-told ((c.args.self.word % 2) == 1)))

pub returns-else-white : goal.returns-else-white
returns-else-white c =
    colour-told c.args.self c.args.white _
    (subst (λ (w : Bool). IsTrue (not ((c.args.self.word % 2) == 1)) ↔ (stone_by c.args.self.word ≡ (if w then colour.White else colour.Black))) (sym c.if-white.false) (black-told ((c.args.self.word % 2) == 1)))
