-- What pieces have, joined one after another.
use Rattle.std.proofs.Common.{List, [], ◌∷◌, ◌++◌, append-nil, refl, sym, ◌∙◌, ap}
use Rattle.std.proofs.lemmas.List.Concat.{flat_map-append}
use Rattle.std.proofs.lemmas.List.Elements.{All-nil, All-push}
use Rattle.std.specs.List.{flat_map}
use Rattle.std.specs.Prelude.{Ok, Err, IsOk}
use Rattle.kb_geometry.specs.Pieces.{ArePiecesJoined, IsPieceAdded, PieceOf, items_of_piece}

-- nothing is joined yet
pub ArePiecesJoined-none : {A : Type 0} → ArePiecesJoined {A = A} [] []
ArePiecesJoined-none {A} = record { joined = refl; good = All-nil (λ (p : PieceOf A). IsOk p) }

-- one piece more
pub ArePiecesJoined-more : {A : Type 0} (pieces : List (PieceOf A)) (piece : PieceOf A) (old new : List A) → ArePiecesJoined pieces old → IsPieceAdded piece old new → ArePiecesJoined (pieces ++ piece ∷ []) new
ArePiecesJoined-more {A} pieces (Ok given) old new so_far added = record {
  joined = added ∙ ap (λ (xs : List A). xs ++ given.items) so_far.joined ∙ sym (flat_map-append items_of_piece pieces (Ok given ∷ []) ∙ ap (λ (xs : List A). flat_map items_of_piece pieces ++ xs) (append-nil given.items));
  good = All-push (λ (p : PieceOf A). IsOk p) pieces (Ok given) so_far.good refl;
}
ArePiecesJoined-more pieces (Err e) old new so_far added = absurd added
