use Rattle.std.proofs.Common.{◌∙◌, ap, sym, arith, ◌/◌}
use Rattle.capture_index.specs.declared.time.Time.TheVariants as time
use Rattle.capture_index.proofs.Times.{told-first, told-many, told-never}
use Rattle.capture_index.proofs.time.PackedTime.unpack.Goals as goal

pub returns-then-self-ge-MANY : goal.returns-then-self-ge-MANY
returns-then-self-ge-MANY c = sym (told-many c.args.self (omega (arith, c.if-self-ge-MANY.true)))

pub returns-then-self : goal.returns-then-self
returns-then-self c = sym (told-never c.args.self (omega (arith, c.if-self.true)) (omega (arith, c.if-self-ge-MANY.false)))

pub returns : goal.returns
returns c = ap (time.First (c.args.self.word / 2)) c.stone_by.ensures ∙ sym (told-first c.args.self (omega (arith, c.if-self.false)))
