-- A tree has a signature, and one only.
use Rattle.std.proofs.Common.{◌≡◌, ℕ, ◌+◌, ◌-◌, ◌<◌, List, [], ◌∷◌, Option, Some, None, refl, subst, inl, inr, arith}
use Rattle.std.proofs.lemmas.Bool.{cases_lt}
use Rattle.std.specs.Prelude.{IfSome, slice_index}
use Rattle.kb_geometry.specs.declared.shape.Point.{Point}
use Rattle.kb_geometry.specs.Board.{IsOnBoard}
use Rattle.game_tree.specs.Tree.{IsTree, Tree}
use Rattle.game_tree.specs.Value.{IsCoordinate}
use Rattle.sgf_reader.specs.Bytes.{capital_a, small_a}
use Rattle.dyer_signature.specs.Signatures.{IsPair, IsPointOfMove, IsSignatureOf, TellsAt, move_numbers, question_mark}
use Rattle.dyer_signature.proofs.MainMoves.{IsPointOfMove-only, point-on_board, some_point}
use Rattle.dyer_signature.proofs.Pairs.{each_place, same_bytes}

pub signature-only : (tree : Tree) → IsTree tree → (a b : List ℕ) → IsSignatureOf tree a → IsSignatureOf tree b → a ≡ b
signature-only tree is_tree a b at_a at_b = same_bytes a b at_a.twelve at_b.twelve (λ place lt.
    let (p, is_p, told_p) = at_a.each place lt in
    let (q, is_q, told_q) = at_b.each place lt in
    let same = IsPointOfMove-only tree is_tree (slice_index move_numbers place) q p is_q is_p in
    (p, told_p, subst (λ (o : Option Point). TellsAt b place o) same told_q))

-- each column and row of a board has a letter
some_letter : (n : ℕ) → n < 52 → (letter : ℕ) × IsCoordinate letter n
some_letter n lt = elim (cases_lt n 26) [
  | inl small ↦ (small_a + n, inl (omega arith, refl))
  | inr large ↦ (capital_a + (n - 26), inr (omega arith, omega arith, refl))
]

-- and so each point has two letters
pub some_pair : (p : Option Point) → IfSome p (λ (r : Point). (r.x < 52) × (r.y < 52)) → (a : ℕ) × (b : ℕ) × IsPair p a b
some_pair None inside = (question_mark, question_mark, (refl, refl))
some_pair (Some p) inside =
    let (a, column) = some_letter p.x inside.0 in
    let (b, row) = some_letter p.y inside.1 in
    (a, b, (column, row))

module _ (tree : Tree) (is_tree : IsTree tree) where
  within_letters : (p : Option Point) → IfSome p (λ (r : Point). IsOnBoard tree.shape r) → IfSome p (λ (r : Point). (r.x < 52) × (r.y < 52))
  within_letters None inside = tt
  within_letters (Some p) inside =
      (omega (arith, inside.0, tree.shape.in_range), omega (arith, inside.1, tree.shape.in_range))

  -- the bytes for the move with a number
  record Told (number : ℕ) : Type 0 where
    point : Option Point
    is_point : IsPointOfMove tree number point
    first : ℕ
    second : ℕ
    pair : IsPair point first second

  told : (number : ℕ) → Told number
  told number =
      let (point, is_point) = some_point tree is_tree number in
      let (a, b, pair) = some_pair point (within_letters point (point-on_board tree is_tree number point is_point)) in
      record { point = point; is_point = is_point; first = a; second = b; pair = pair }

  pub some_signature : (bytes : List ℕ) × IsSignatureOf tree bytes
  some_signature =
      let a = told 20 in
      let b = told 40 in
      let c = told 60 in
      let d = told 31 in
      let e = told 51 in
      let f = told 71 in
      let bytes : List ℕ = a.first ∷ a.second ∷ b.first ∷ b.second ∷ c.first ∷ c.second
      ∷ d.first ∷ d.second ∷ e.first ∷ e.second ∷ f.first ∷ f.second ∷ [] in (
        bytes,
        record {
          twelve = refl;
          each = each_place (λ place. (point : Option Point) × IsPointOfMove tree (slice_index move_numbers place) point × TellsAt bytes place point)
              (a.point, a.is_point, a.pair)
              (b.point, b.is_point, b.pair)
              (c.point, c.is_point, c.pair)
              (d.point, d.is_point, d.pair)
              (e.point, e.is_point, e.pair)
              (f.point, f.is_point, f.pair);
        },
      )
