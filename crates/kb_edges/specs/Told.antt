-- What one of the outside tells of itself: `None` claims nothing.
use Rattle.std.specs.Prelude.{◌≡◌}
use Rattle.std.specs.declared.option.Option.{Option}
use Rattle.std.specs.declared.option.Option.TheVariants.{Some}

-- where something is told, it has P
abbrev pub IfTold : {A : Type 0} → Option A → (A → Type 0) → Type 0
IfTold {A} told P = (value : A) → told ≡ Some value → P value
