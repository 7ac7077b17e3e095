-- What is made in pieces, and joined in order.
use Rattle.std.proofs.Common.{◌≡◌, ℕ, suc, ◌<◌, List, [], ◌∷◌, ◌++◌, get_or, length, sym, subst, arith}
use Rattle.std.proofs.lemmas.Bool.{false≢true}
use Rattle.std.proofs.lemmas.List.Concat.{flat_map-cons}
use Rattle.std.specs.List.{flat_map}
use Rattle.std.specs.Prelude.{Ok, Err, IsOk}
use Rattle.kb_geometry.specs.Pieces.{ArePiecesJoined, PieceOf, items_of_piece}
use Rattle.import_work.specs.Pieces.{ArePieces, IsPieceFor}

-- what holds of each job and its piece holds of all jobs and what is joined
module _ {J T A : Type 0} (told : J → List T) (Fits : List T → List A → Type 0) (none : Fits [] []) (then : (ts us : List T) (xs ys : List A) → Fits ts xs → Fits us ys → Fits (ts ++ us) (xs ++ ys))
    (Holds : J → PieceOf A → Type 0) (fits : (job : J) (piece : PieceOf A) → Holds job piece → Fits (told job) (items_of_piece piece)) where
  in_all : (jobs : List J) (pieces : List (PieceOf A)) → length pieces ≡ length jobs → ((n : ℕ) (job : J) (d : PieceOf A) → n < length jobs → Holds (get_or jobs n job) (get_or pieces n d)) → Fits (flat_map told jobs) (flat_map items_of_piece pieces)
  in_all [] [] same each = none
  in_all [] (p ∷ ps) same each = absurd (omega (arith, same))
  in_all (j ∷ js) [] same each = absurd (omega (arith, same))
  in_all (j ∷ js) (p ∷ ps) same each =
      let first = fits j p (each 0 j p (omega arith)) in
      let rest = in_all js ps (omega (arith, same)) (λ n v d lt. each (suc n) v d (omega (arith, lt))) in
      subst (λ ts. Fits ts (flat_map items_of_piece (p ∷ ps))) (sym (flat_map-cons told j js))
      (subst (λ xs. Fits (told j ++ flat_map told js) xs) (sym (flat_map-cons items_of_piece p ps))
      (then (told j) (flat_map told js) (items_of_piece p) (flat_map items_of_piece ps) first rest))

-- a piece for which there was memory
piece-fits : {J T A : Type 0} (told : J → List T) (Fits : List T → List A → Type 0) (job : J) (piece : PieceOf A) → IsPieceFor told Fits job piece × IsOk piece → Fits (told job) (items_of_piece piece)
piece-fits told Fits job (Ok given) h = h.0
piece-fits told Fits job (Err e) h = absurd (false≢true h.1)

-- what is joined fits to what is told of all jobs
pub pieces-fit : {J T A : Type 0} (told : J → List T) (Fits : List T → List A → Type 0) → Fits [] [] → ((ts us : List T) (xs ys : List A) → Fits ts xs → Fits us ys → Fits (ts ++ us) (xs ++ ys)) → (jobs : List J) (pieces : List (PieceOf A)) (items : List A) → ArePieces told Fits jobs pieces → ArePiecesJoined pieces items → Fits (flat_map told jobs) items
pieces-fit {J} {T} {A} told Fits none then jobs pieces items are joined =
    subst (λ xs. Fits (flat_map told jobs) xs) (sym joined.joined)
    (in_all told Fits none then (λ job piece. IsPieceFor told Fits job piece × IsOk piece) (piece-fits told Fits) jobs pieces are.all
    (λ n job d lt. (are.each n job d lt, joined.good n d (omega (arith, lt, are.all)))))
