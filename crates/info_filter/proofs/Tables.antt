-- The players' table of a list of games.
use Rattle.std.proofs.Common.{◌≡◌, ◌+◌, ◌++◌, ◌≤◌, ℕ, Bool, List, [], ◌∷◌, All, refl, sym, ap, subst, arith, inl, inr}
use Rattle.std.proofs.lemmas.List.Elements.{All-cons, All-head, All-nil, All-tail, All-weaker}
use Rattle.game_tree.specs.Information.{Information}
use Rattle.info_filter.specs.Players.{ArePlayerRows, IsPlayersTable, Side, TableRow, black_side, sides_of, white_side}
use Rattle.info_filter.specs.SidesCounted.{AreRowsWithGame, AreRowsWithSide, with_side_counted, with_side}
use Rattle.info_filter.proofs.Entries.{side_of}
use Rattle.info_filter.proofs.TableRows.{empty_or_not, side_added, told_name}

-- a side by its three fields
pub same_side : (name other : List ℕ) (won won' lost lost' : Bool) → name ≡ other → won ≡ won' → lost ≡ lost' → side_of name won lost ≡ side_of other won' lost'
same_side name other won won' lost lost' names wins losses = λ i. record { name = names i; won = wins i; lost = losses i }

-- the sides of one game more
sides_push : (games : List Information) (info : Information) → sides_of (games ++ info ∷ []) ≡ (sides_of games ++ black_side info ∷ []) ++ white_side info ∷ []
sides_push [] info = refl
sides_push (game ∷ games) info = ap (λ (xs : List Side). black_side game ∷ white_side game ∷ xs) (sides_push games info)

game_added : (games : List Information) (info : Information) (old between new : List TableRow) → AreRowsWithSide old (black_side info) between → AreRowsWithSide between (white_side info) new → IsPlayersTable games old → IsPlayersTable (games ++ info ∷ []) new
game_added games info old between new black white table =
    subst (λ (sides : List Side). ArePlayerRows sides new) (sym (sides_push games info))
    (side_added (sides_of games ++ black_side info ∷ []) between new (white_side info) white (side_added (sides_of games) old between (black_side info) black table))

pub game_rows : (info : Information) (old rows between new : List TableRow) → old ≡ rows → AreRowsWithSide rows (black_side info) between → AreRowsWithSide between (white_side info) new → AreRowsWithGame old info new
game_rows info old rows between new same black white = record { between = between; black = subst (λ (rs : List TableRow). AreRowsWithSide rs (black_side info) between) (sym same) black; white = white }

-- the table of a list of games, with one game more
pub table_more : (games : List Information) (info : Information) (old new : List TableRow) → AreRowsWithGame old info new → IsPlayersTable games old → IsPlayersTable (games ++ info ∷ []) new
table_more games info old new added table = game_added games info old added.between new added.black added.white table

-- ---- the number of games of a row, with one side more

abbrev pub AreSmall : ℕ → List TableRow → Type 0
AreSmall most rows = All (λ (row : TableRow). row.games ≤ most) rows

small_with : (most : ℕ) (rows : List TableRow) (side : Side) → AreSmall most rows → AreSmall (most + 1) (with_side rows side)
small_with most [] side small =
    let P = λ (r : TableRow). r.games ≤ most + 1 in
    All-cons P (with_side_counted (record { name = side.name; games = 0; wins = 0; losses = 0 }) side) [] (omega arith) (All-nil P)
small_with most (row ∷ rows) side small =
    let S = λ (r : TableRow). r.games ≤ most in
    let P = λ (r : TableRow). r.games ≤ most + 1 in
    let head : row.games ≤ most = All-head S row rows small in
    elim (told_name side.name row.name) [
      | inl (e, same) ↦ rw e (All-cons P (with_side_counted row side) rows (omega (arith, head)) (All-weaker S P (λ r le. omega (arith, le)) rows (All-tail S row rows small)))
      | inr (e, differ) ↦ rw e (All-cons P row (with_side rows side) (omega (arith, head)) (small_with most rows side (All-tail S row rows small)))
    ]

pub small_added : (most more : ℕ) (old new : List TableRow) (side : Side) → most + 1 ≤ more → AreRowsWithSide old side new → AreSmall most old → AreSmall more new
small_added most more old new side room added small = elim (empty_or_not side.name) [
  | inl nothing ↦ subst (AreSmall more) (sym (added.nameless nothing)) (All-weaker (λ (r : TableRow). r.games ≤ most) (λ (r : TableRow). r.games ≤ more) (λ r le. omega (arith, le, room)) old small)
  | inr named ↦ subst (AreSmall more) (sym (added.named named)) (All-weaker (λ (r : TableRow). r.games ≤ most + 1) (λ (r : TableRow). r.games ≤ more) (λ r le. omega (arith, le, room)) (with_side old side) (small_with most old side small))
]
