-- Work that is done in pieces, side by side: what each piece gives, joined in order.
use Rattle.std.specs.Prelude.{◌≡◌, List, [], ◌++◌, All, IsOk, Result, Ok, Err, Vec}
use Rattle.std.specs.Global.{Global}
use Rattle.std.specs.List.{flat_map}
use Rattle.kb_geometry.specs.declared.memory.NoMemory.{NoMemory}

-- what a piece of work gives, unless memory ran out there
abbrev pub PieceOf : Type 0 → Type 0
PieceOf A = Result (Vec A Global) NoMemory

-- what a piece has, where there was memory for it
abbrev pub items_of_piece : {A : Type 0} → PieceOf A → List A
items_of_piece (Ok given) = given.items
items_of_piece (Err e) = []

-- the list grows by what a piece has, for which there was memory
abbrev pub IsPieceAdded : {A : Type 0} → PieceOf A → List A → List A → Type 0
IsPieceAdded (Ok given) old new = new ≡ old ++ given.items
IsPieceAdded (Err e) old new = ⊥

-- what pieces have, for each of which there was memory
pub record ArePiecesJoined {A : Type 0} (pieces : List (PieceOf A)) (items : List A) : Type 0 where
  pub joined : items ≡ flat_map items_of_piece pieces
  pub good : All (λ (p : PieceOf A). IsOk p) pieces
