-- What the root of a game says.
use Rattle.std.proofs.Common.{◌≡◌, ◌∙◌, ℕ, Option, List, [], refl, sym, subst, codes, Some, None, false, IsTrue}
use Rattle.sgf_reader.specs.declared.fault.FaultKind.TheVariants as kind
use Rattle.sgf_reader.specs.declared.fault.SgfFault.{SgfFault}
use Rattle.sgf_reader.specs.declared.collection.Pair.{Pair}
use Rattle.game_tree.specs.Property.{IsTrimmed, bytes_of, offset_of}
use Rattle.game_tree.specs.Roots.{IsGameFault, IsOtherGame, IsSizeFault, first_in, other_game, same_game}
use Rattle.kb_geometry.specs.declared.shape.Shape.{Shape}
use Rattle.kb_geometry.specs.Board.{cols_of, rows_of}
use Rattle.game_tree.specs.Value.{IsSize}
use Rattle.game_tree.specs.ValueFaults.{IsBoardOf, empty, no_value, size}
use Rattle.game_tree.proofs.Trimming.{IsTrimmed-only}

pub go_if_empty : (text : List ℕ) (pair : Pair) (value : List ℕ) → IsTrimmed (bytes_of text pair.value) value → value ≡ [] → ¬ IsOtherGame text pair
go_if_empty text pair value trimmed is (inner, t, some, other) = some (IsTrimmed-only (bytes_of text pair.value) inner value t trimmed ∙ is)

pub go_if_one : (text : List ℕ) (pair : Pair) (value : List ℕ) → IsTrimmed (bytes_of text pair.value) value → value ≡ codes "1" → ¬ IsOtherGame text pair
go_if_one text pair value trimmed is (inner, t, some, other) = other (IsTrimmed-only (bytes_of text pair.value) inner value t trimmed ∙ is)

-- what the first GM value of a root says
pub no_game_value : (text : List ℕ) (pairs : List Pair) (answer : Option SgfFault) → first_in text pairs (codes "GM") ≡ None → answer ≡ None → IsGameFault text pairs answer
no_game_value text pairs answer none is = subst (IsGameFault text pairs) (sym is) (same_game (λ pair found. absurd (different (sym none ∙ found))))
  where
    different : {pair : Pair} → ¬ (None ≡ Some pair)
    different e = cc

pub same_game_value : (text : List ℕ) (pairs : List Pair) (pair : Pair) → first_in text pairs (codes "GM") ≡ Some pair → ¬ IsOtherGame text pair → IsGameFault text pairs None
same_game_value text pairs pair found go = same_game (λ other there. go_on other (sym found ∙ there))
  where
    go_on : (other : Pair) → Some pair ≡ Some other → ¬ IsOtherGame text other
    go_on other e = let same : pair ≡ other = cc in subst (λ p. ¬ IsOtherGame text p) same go

pub other_game_value : (text : List ℕ) (pairs : List Pair) (pair : Pair) (fault : SgfFault) → first_in text pairs (codes "GM") ≡ Some pair → IsOtherGame text pair → fault ≡ record { kind = kind.NotGo; at = offset_of pair } → IsGameFault text pairs (Some fault)
other_game_value text pairs pair fault found other is = subst (λ f. IsGameFault text pairs (Some f)) (sym is) (other_game pair found other)

pub not_true : ¬ IsTrue false
not_true e = cc

-- ---- the board

-- the board of an empty value
pub standard_board : (text : List ℕ) (pair : Pair) (value : List ℕ) (shape : Shape) → IsTrimmed (bytes_of text pair.value) value → value ≡ [] → cols_of shape ≡ 19 → rows_of shape ≡ 19 → IsBoardOf text (Some pair) shape
standard_board text pair value shape trimmed is cols rows = empty (subst (IsTrimmed (bytes_of text pair.value)) is trimmed) cols rows

-- a value that is no size
pub bad_size : (text : List ℕ) (pair : Pair) (value : List ℕ) (fault : SgfFault) → IsTrimmed (bytes_of text pair.value) value → ¬ (value ≡ []) → ((shape : Shape) → ¬ IsSize value shape) → fault ≡ record { kind = kind.BadSize; at = offset_of pair } → IsSizeFault text (Some pair) fault
bad_size text pair value fault trimmed some none is = (pair, refl, is, λ shape board. no_board shape board refl)
  where
    no_board : {found : Option Pair} (shape : Shape) → IsBoardOf text found shape → ¬ (found ≡ Some pair)
    no_board shape (no_value cols rows) e = cc
    no_board shape (empty {pair = other} t cols rows) e =
        let same : other ≡ pair = cc in
        some (IsTrimmed-only (bytes_of text pair.value) value [] trimmed (subst (λ (p : Pair). IsTrimmed (bytes_of text p.value) []) same t))
    no_board shape (size {pair = other} inner t s) e =
        let same : other ≡ pair = cc in
        none shape (subst (λ v. IsSize v shape) (IsTrimmed-only (bytes_of text pair.value) inner value (subst (λ (p : Pair). IsTrimmed (bytes_of text p.value) inner) same t) trimmed) s)

-- the board where there is no size
pub board_without : (text : List ℕ) (found : Option Pair) (shape : Shape) → found ≡ None → cols_of shape ≡ 19 → rows_of shape ≡ 19 → IsBoardOf text found shape
board_without text found shape is cols rows = subst (λ f. IsBoardOf text f shape) (sym is) (no_value cols rows)
