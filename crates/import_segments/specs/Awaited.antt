-- What the lock of receipts awaits: definitions of its private functions.
use Rattle.std.specs.Prelude.{◌≡◌, ℕ, ◌<◌, Bool, false, IfSome, Option, length}
use Rattle.version_publisher.specs.declared.state.ReceiptState.{ReceiptState}
use Rattle.node_position.specs.Games.{Game}

-- A receipt of this number or a greater one is still to come: the import hasn't ended, and no such
-- receipt is there.
abbrev pub IsAwaited : ℕ → Option (ReceiptState Game) → Bool → Type 0
IsAwaited number receipt ended =
    (ended ≡ false) × IfSome receipt (λ (r : ReceiptState Game). length r.log < number)
