-- The symmetries that a board allows are a group: two of them, one after the other, are one of them, and each is undone
-- by one of them.
use Rattle.std.proofs.Common.{◌≡◌, ℕ, ◌<◌, arith}
use Rattle.kb_geometry.specs.declared.shape.Point.{Point}
use Rattle.kb_geometry.specs.declared.shape.Shape.{Shape}
use Rattle.kb_geometry.specs.Board.{IsOnBoard}
use Rattle.kb_geometry.specs.Symmetry.{IsAllowed, inverse_number, moved}
use Rattle.kb_geometry.proofs.Symmetries.{each_symmetry, same_point}

-- one symmetry that moves each point of the board as the first and then the second do
pub record AreJoined (shape : Shape) (first second : ℕ) : Type 0 where
  pub number : ℕ
  pub is_symmetry : number < 8
  pub is_allowed : IsAllowed number shape
  pub same : (p : Point) → IsOnBoard shape p → moved second shape (moved first shape p) ≡ moved number shape p

module _ (shape : Shape) where
  -- both are allowed, so they are joined
  abbrev AreJoinedIf : ℕ → ℕ → Type 0
  AreJoinedIf first second = IsAllowed first shape → IsAllowed second shape → AreJoined shape first second

  after_zero : (second : ℕ) → second < 8 → AreJoinedIf 0 second
  after_zero = each_symmetry (AreJoinedIf 0)
      (λ f s. record { number = 0; is_symmetry = omega arith; is_allowed = λ l. omega arith; same = λ p on. same_point _ _ (omega arith) (omega arith) })
      (λ f s. record { number = 1; is_symmetry = omega arith; is_allowed = λ l. omega arith; same = λ p on. same_point _ _ (omega arith) (omega arith) })
      (λ f s. record { number = 2; is_symmetry = omega arith; is_allowed = λ l. omega arith; same = λ p on. same_point _ _ (omega arith) (omega arith) })
      (λ f s. record { number = 3; is_symmetry = omega arith; is_allowed = λ l. omega arith; same = λ p on. same_point _ _ (omega arith) (omega arith) })
      (λ f s. record { number = 4; is_symmetry = omega arith; is_allowed = λ l. omega arith; same = λ p on. same_point _ _ (omega arith) (omega arith) })
      (λ f s. record { number = 5; is_symmetry = omega arith; is_allowed = λ l. omega arith; same = λ p on. same_point _ _ (omega arith) (omega arith) })
      (λ f s. record { number = 6; is_symmetry = omega arith; is_allowed = λ l. omega arith; same = λ p on. same_point _ _ (omega arith) (omega arith) })
      (λ f s. record { number = 7; is_symmetry = omega arith; is_allowed = λ l. omega arith; same = λ p on. same_point _ _ (omega arith) (omega arith) })

  after_one : (second : ℕ) → second < 8 → AreJoinedIf 1 second
  after_one = each_symmetry (AreJoinedIf 1)
      (λ f s. record { number = 1; is_symmetry = omega arith; is_allowed = λ l. omega arith; same = λ p on. same_point _ _ (omega arith) (omega arith) })
      (λ f s. record { number = 0; is_symmetry = omega arith; is_allowed = λ l. omega arith; same = λ p on. same_point _ _ (omega arith) (omega arith) })
      (λ f s. record { number = 3; is_symmetry = omega arith; is_allowed = λ l. omega arith; same = λ p on. same_point _ _ (omega arith) (omega arith) })
      (λ f s. record { number = 2; is_symmetry = omega arith; is_allowed = λ l. omega arith; same = λ p on. same_point _ _ (omega arith) (omega arith) })
      (λ f s. record { number = 5; is_symmetry = omega arith; is_allowed = λ l. omega arith; same = λ p on. same_point _ _ (omega arith) (omega arith) })
      (λ f s. record { number = 4; is_symmetry = omega arith; is_allowed = λ l. omega arith; same = λ p on. same_point _ _ (omega arith) (omega arith) })
      (λ f s. record { number = 7; is_symmetry = omega arith; is_allowed = λ l. omega arith; same = λ p on. same_point _ _ (omega arith) (omega arith) })
      (λ f s. record { number = 6; is_symmetry = omega arith; is_allowed = λ l. omega arith; same = λ p on. same_point _ _ (omega arith) (omega arith) })

  after_two : (second : ℕ) → second < 8 → AreJoinedIf 2 second
  after_two = each_symmetry (AreJoinedIf 2)
      (λ f s. record { number = 2; is_symmetry = omega arith; is_allowed = λ l. omega arith; same = λ p on. same_point _ _ (omega arith) (omega arith) })
      (λ f s. record { number = 3; is_symmetry = omega arith; is_allowed = λ l. omega arith; same = λ p on. same_point _ _ (omega arith) (omega arith) })
      (λ f s. record { number = 0; is_symmetry = omega arith; is_allowed = λ l. omega arith; same = λ p on. same_point _ _ (omega arith) (omega arith) })
      (λ f s. record { number = 1; is_symmetry = omega arith; is_allowed = λ l. omega arith; same = λ p on. same_point _ _ (omega arith) (omega arith) })
      (λ f s. record { number = 6; is_symmetry = omega arith; is_allowed = λ l. omega arith; same = λ p on. same_point _ _ (omega arith) (omega arith) })
      (λ f s. record { number = 7; is_symmetry = omega arith; is_allowed = λ l. omega arith; same = λ p on. same_point _ _ (omega arith) (omega arith) })
      (λ f s. record { number = 4; is_symmetry = omega arith; is_allowed = λ l. omega arith; same = λ p on. same_point _ _ (omega arith) (omega arith) })
      (λ f s. record { number = 5; is_symmetry = omega arith; is_allowed = λ l. omega arith; same = λ p on. same_point _ _ (omega arith) (omega arith) })

  after_three : (second : ℕ) → second < 8 → AreJoinedIf 3 second
  after_three = each_symmetry (AreJoinedIf 3)
      (λ f s. record { number = 3; is_symmetry = omega arith; is_allowed = λ l. omega arith; same = λ p on. same_point _ _ (omega arith) (omega arith) })
      (λ f s. record { number = 2; is_symmetry = omega arith; is_allowed = λ l. omega arith; same = λ p on. same_point _ _ (omega arith) (omega arith) })
      (λ f s. record { number = 1; is_symmetry = omega arith; is_allowed = λ l. omega arith; same = λ p on. same_point _ _ (omega arith) (omega arith) })
      (λ f s. record { number = 0; is_symmetry = omega arith; is_allowed = λ l. omega arith; same = λ p on. same_point _ _ (omega arith) (omega arith) })
      (λ f s. record { number = 7; is_symmetry = omega arith; is_allowed = λ l. omega arith; same = λ p on. same_point _ _ (omega arith) (omega arith) })
      (λ f s. record { number = 6; is_symmetry = omega arith; is_allowed = λ l. omega arith; same = λ p on. same_point _ _ (omega arith) (omega arith) })
      (λ f s. record { number = 5; is_symmetry = omega arith; is_allowed = λ l. omega arith; same = λ p on. same_point _ _ (omega arith) (omega arith) })
      (λ f s. record { number = 4; is_symmetry = omega arith; is_allowed = λ l. omega arith; same = λ p on. same_point _ _ (omega arith) (omega arith) })

  after_four : (second : ℕ) → second < 8 → AreJoinedIf 4 second
  after_four = each_symmetry (AreJoinedIf 4)
      (λ f s. record { number = 4; is_symmetry = omega arith; is_allowed = λ l. omega arith; same = λ p on. same_point _ _ (omega arith) (omega arith) })
      (λ f s. record { number = 6; is_symmetry = omega arith; is_allowed = λ l. omega arith; same = λ p on. same_point _ _ (omega arith) (omega arith) })
      (λ f s. record { number = 5; is_symmetry = omega arith; is_allowed = λ l. omega arith; same = λ p on. same_point _ _ (omega arith) (omega arith) })
      (λ f s. record { number = 7; is_symmetry = omega arith; is_allowed = λ l. omega arith; same = λ p on. same_point _ _ (omega arith) (omega arith) })
      (λ f s. record { number = 0; is_symmetry = omega arith; is_allowed = λ l. omega arith; same = λ p on. same_point _ _ (omega arith) (omega arith) })
      (λ f s. record { number = 2; is_symmetry = omega arith; is_allowed = λ l. omega arith; same = λ p on. same_point _ _ (omega arith) (omega arith) })
      (λ f s. record { number = 1; is_symmetry = omega arith; is_allowed = λ l. omega arith; same = λ p on. same_point _ _ (omega arith) (omega arith) })
      (λ f s. record { number = 3; is_symmetry = omega arith; is_allowed = λ l. omega arith; same = λ p on. same_point _ _ (omega arith) (omega arith) })

  after_five : (second : ℕ) → second < 8 → AreJoinedIf 5 second
  after_five = each_symmetry (AreJoinedIf 5)
      (λ f s. record { number = 5; is_symmetry = omega arith; is_allowed = λ l. omega arith; same = λ p on. same_point _ _ (omega arith) (omega arith) })
      (λ f s. record { number = 7; is_symmetry = omega arith; is_allowed = λ l. omega arith; same = λ p on. same_point _ _ (omega arith) (omega arith) })
      (λ f s. record { number = 4; is_symmetry = omega arith; is_allowed = λ l. omega arith; same = λ p on. same_point _ _ (omega arith) (omega arith) })
      (λ f s. record { number = 6; is_symmetry = omega arith; is_allowed = λ l. omega arith; same = λ p on. same_point _ _ (omega arith) (omega arith) })
      (λ f s. record { number = 1; is_symmetry = omega arith; is_allowed = λ l. omega arith; same = λ p on. same_point _ _ (omega arith) (omega arith) })
      (λ f s. record { number = 3; is_symmetry = omega arith; is_allowed = λ l. omega arith; same = λ p on. same_point _ _ (omega arith) (omega arith) })
      (λ f s. record { number = 0; is_symmetry = omega arith; is_allowed = λ l. omega arith; same = λ p on. same_point _ _ (omega arith) (omega arith) })
      (λ f s. record { number = 2; is_symmetry = omega arith; is_allowed = λ l. omega arith; same = λ p on. same_point _ _ (omega arith) (omega arith) })

  after_six : (second : ℕ) → second < 8 → AreJoinedIf 6 second
  after_six = each_symmetry (AreJoinedIf 6)
      (λ f s. record { number = 6; is_symmetry = omega arith; is_allowed = λ l. omega arith; same = λ p on. same_point _ _ (omega arith) (omega arith) })
      (λ f s. record { number = 4; is_symmetry = omega arith; is_allowed = λ l. omega arith; same = λ p on. same_point _ _ (omega arith) (omega arith) })
      (λ f s. record { number = 7; is_symmetry = omega arith; is_allowed = λ l. omega arith; same = λ p on. same_point _ _ (omega arith) (omega arith) })
      (λ f s. record { number = 5; is_symmetry = omega arith; is_allowed = λ l. omega arith; same = λ p on. same_point _ _ (omega arith) (omega arith) })
      (λ f s. record { number = 2; is_symmetry = omega arith; is_allowed = λ l. omega arith; same = λ p on. same_point _ _ (omega arith) (omega arith) })
      (λ f s. record { number = 0; is_symmetry = omega arith; is_allowed = λ l. omega arith; same = λ p on. same_point _ _ (omega arith) (omega arith) })
      (λ f s. record { number = 3; is_symmetry = omega arith; is_allowed = λ l. omega arith; same = λ p on. same_point _ _ (omega arith) (omega arith) })
      (λ f s. record { number = 1; is_symmetry = omega arith; is_allowed = λ l. omega arith; same = λ p on. same_point _ _ (omega arith) (omega arith) })

  after_seven : (second : ℕ) → second < 8 → AreJoinedIf 7 second
  after_seven = each_symmetry (AreJoinedIf 7)
      (λ f s. record { number = 7; is_symmetry = omega arith; is_allowed = λ l. omega arith; same = λ p on. same_point _ _ (omega arith) (omega arith) })
      (λ f s. record { number = 5; is_symmetry = omega arith; is_allowed = λ l. omega arith; same = λ p on. same_point _ _ (omega arith) (omega arith) })
      (λ f s. record { number = 6; is_symmetry = omega arith; is_allowed = λ l. omega arith; same = λ p on. same_point _ _ (omega arith) (omega arith) })
      (λ f s. record { number = 4; is_symmetry = omega arith; is_allowed = λ l. omega arith; same = λ p on. same_point _ _ (omega arith) (omega arith) })
      (λ f s. record { number = 3; is_symmetry = omega arith; is_allowed = λ l. omega arith; same = λ p on. same_point _ _ (omega arith) (omega arith) })
      (λ f s. record { number = 1; is_symmetry = omega arith; is_allowed = λ l. omega arith; same = λ p on. same_point _ _ (omega arith) (omega arith) })
      (λ f s. record { number = 2; is_symmetry = omega arith; is_allowed = λ l. omega arith; same = λ p on. same_point _ _ (omega arith) (omega arith) })
      (λ f s. record { number = 0; is_symmetry = omega arith; is_allowed = λ l. omega arith; same = λ p on. same_point _ _ (omega arith) (omega arith) })

  pub joined : (first second : ℕ) → first < 8 → second < 8 → IsAllowed first shape → IsAllowed second shape → AreJoined shape first second
  joined first second lt_first lt_second =
      each_symmetry (λ a. AreJoinedIf a second)
      (after_zero second lt_second)
      (after_one second lt_second)
      (after_two second lt_second)
      (after_three second lt_second)
      (after_four second lt_second)
      (after_five second lt_second)
      (after_six second lt_second)
      (after_seven second lt_second)
      first lt_first

  -- what undoes an allowed symmetry is an allowed one
  pub inverse-lt : (n : ℕ) → n < 8 → inverse_number n < 8
  inverse-lt = each_symmetry (λ n. inverse_number n < 8)
      (omega arith) (omega arith) (omega arith) (omega arith) (omega arith) (omega arith) (omega arith) (omega arith)

  pub inverse-allowed : (n : ℕ) → n < 8 → IsAllowed n shape → IsAllowed (inverse_number n) shape
  inverse-allowed = each_symmetry (λ n. IsAllowed n shape → IsAllowed (inverse_number n) shape)
      (λ a. a) (λ a. a) (λ a. a) (λ a. a) (λ a. a) (λ a l. omega arith) (λ a l. omega arith) (λ a. a)
