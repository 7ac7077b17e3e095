-- The signature of the first nodes of a tree, as a walk down the main line makes it.
use Rattle.std.proofs.Common.{◌≡◌, ◌≢◌, ◌⊎◌, ℕ, ◌+◌, ◌<◌, ◌≤◌, List, length, Option, Some, None, refl, sym, ◌∙◌, subst, inl, inr, arith}
use Rattle.std.proofs.lemmas.Bool.{cases_eq, cases_lt}
use Rattle.std.specs.Prelude.{IfSome, replicate, slice_index}
use Rattle.kb_geometry.specs.declared.shape.Point.{Point}
use Rattle.kb_geometry.specs.declared.stone.Colour.{Colour}
use Rattle.game_tree.specs.declared.node.Move.{Move}
use Rattle.game_tree.specs.MainLine.{IsOnMainLine}
use Rattle.game_tree.specs.Tree.{IsTree, Tree, move_number_of, node_at, node_count}
use Rattle.dyer_signature.specs.Signatures.{IsMainMove, IsPointOfMove, IsSignatureOf, IsSignatureOn, TellsAt, move_numbers, question_mark}
use Rattle.dyer_signature.proofs.MainMoves.{later_number, main-before, main-in_range, one_node, point-on_board}
use Rattle.dyer_signature.proofs.Pairs.{each_place}

-- the point of the move with a number, if it is played at one of the first nodes
pub data IsPointBefore (tree : Tree) (end number : ℕ) : Option Point → Type 0 where
  played : {point : Option Point} (node : ℕ) (colour : Colour) →
      node < end →
      IsMainMove tree number node (record { colour = colour; point = point }) →
      IsPointBefore tree end number point
  missing : ((node : ℕ) (move : Move) → node < end → ¬ IsMainMove tree number node move) → IsPointBefore tree end number None

-- the signature of the moves at the first nodes
pub record IsSignatureSoFar (tree : Tree) (end : ℕ) (bytes : List ℕ) : Type 0 where
  pub twelve : length bytes ≡ 12
  pub each : (place : ℕ) →
      place < 6 →
      (point : Option Point) × IsPointBefore tree end (slice_index move_numbers place) point × TellsAt bytes place point

-- before the first node no point is told
pub so_far-start : (tree : Tree) → IsSignatureSoFar tree 0 (replicate 12 question_mark)
so_far-start tree = record {
  twelve = refl;
  each = each_place (λ place. (point : Option Point) × IsPointBefore tree 0 (slice_index move_numbers place) point × TellsAt (replicate 12 question_mark) place point)
      (None, IsPointBefore.missing (λ n move lt at. omega arith), (refl, refl))
      (None, IsPointBefore.missing (λ n move lt at. omega arith), (refl, refl))
      (None, IsPointBefore.missing (λ n move lt at. omega arith), (refl, refl))
      (None, IsPointBefore.missing (λ n move lt at. omega arith), (refl, refl))
      (None, IsPointBefore.missing (λ n move lt at. omega arith), (refl, refl))
      (None, IsPointBefore.missing (λ n move lt at. omega arith), (refl, refl));
}

module _ (tree : Tree) where
  -- a node without the move with this number changes nothing
  before-other : (n number : ℕ) (point : Option Point) → ((move : Move) → ¬ IsMainMove tree number n move) → IsPointBefore tree n number point → IsPointBefore tree (n + 1) number point
  before-other n number _ never (IsPointBefore.played node colour lt at) = IsPointBefore.played node colour (omega arith) at
  before-other n number _ never (IsPointBefore.missing none) = IsPointBefore.missing (λ node move lt at. elim (cases_lt node n) [
    | inl below ↦ none node move below at
    | inr here ↦
        let same : node ≡ n = omega arith in
        never move (subst (λ k. IsMainMove tree number k move) same at)
  ])

  -- a node without a move
  pub so_far-pass_by : (n : ℕ) (bytes : List ℕ) → (node_at tree n).played ≡ None → IsSignatureSoFar tree n bytes → IsSignatureSoFar tree (n + 1) bytes
  so_far-pass_by n bytes none so_far = record {
    twelve = so_far.twelve;
    each = λ place below.
        let (point, before, told) = so_far.each place below in
        (point, before-other n _ point (λ move at. let e : None ≡ Some move = sym none ∙ at.played in absurd cc) before, told);
  }

  -- from what was told at the first nodes to the whole signature, where no later node has one of its moves
  before-all : (end number : ℕ) (point : Option Point) → ((n : ℕ) (move : Move) → IsMainMove tree number n move → n < end) → IsPointBefore tree end number point → IsPointOfMove tree number point
  before-all end number _ within (IsPointBefore.played node colour lt at) = IsPointOfMove.played node colour at
  before-all end number _ within (IsPointBefore.missing none) =
      IsPointOfMove.missing (λ n move at. none n move (within n move at) at)

  so_far-all : (end : ℕ) (bytes : List ℕ) → ((place : ℕ) → place < 6 → (n : ℕ) (move : Move) → IsMainMove tree (slice_index move_numbers place) n move → n < end) → IsSignatureSoFar tree end bytes → IsSignatureOf tree bytes
  so_far-all end bytes within so_far = record {
    twelve = so_far.twelve;
    each = λ place below.
        let (point, before, told) = so_far.each place below in
        (point, before-all end _ point (within place below) before, told);
  }

-- the numbers of the six moves are at most 71
numbers-most : (place : ℕ) → place < 6 → slice_index move_numbers place ≤ 71
numbers-most = each_place (λ place. slice_index move_numbers place ≤ 71)
    (omega arith) (omega arith) (omega arith) (omega arith) (omega arith) (omega arith)

module _ (tree : Tree) (is_tree : IsTree tree) where
  -- a point that was told stands for an earlier move
  no_point_yet : (n number : ℕ) (point : Option Point) (move : Move) → IsMainMove tree number n move → IsPointBefore tree n number point → point ≡ None
  no_point_yet n number _ move here (IsPointBefore.played node colour lt at) =
      absurd (omega (arith, one_node tree is_tree number node n _ move at here))
  no_point_yet n number _ move here (IsPointBefore.missing none) = refl

  -- a node with a move or pass
  module _ (n number : ℕ) (old new : List ℕ) (move : Move) (on_main_line : IsOnMainLine tree n) (played : (node_at tree n).played ≡ Some move) (numbered : number ≡ move_number_of tree n) (twelve : length new ≡ 12) (here : (place : ℕ) → place < 6 → slice_index move_numbers place ≡ number → IfSome move.point (λ (p : Point). TellsAt new place (Some p))) (others : (place : ℕ) (told : Option Point) → place < 6 → (slice_index move_numbers place ≢ number) ⊎ (move.point ≡ None) → TellsAt old place told → TellsAt new place told) where
    told_here : (place : ℕ) → place < 6 → slice_index move_numbers place ≡ number → (point : Option Point) → move.point ≡ point → TellsAt old place None → TellsAt new place point
    told_here place below e None is old_told = others place None below (inr is) old_told
    told_here place below e (Some p) is old_told =
        subst (λ (o : Option Point). IfSome o (λ (q : Point). TellsAt new place (Some q))) is (here place below e)

    told_more : (place : ℕ) → place < 6 → (point : Option Point) → IsPointBefore tree n (slice_index move_numbers place) point → TellsAt old place point → (point : Option Point) × IsPointBefore tree (n + 1) (slice_index move_numbers place) point × TellsAt new place point
    told_more place below point before told = elim (cases_eq (slice_index move_numbers place) number) [
      | inl e ↦
          let at : IsMainMove tree (slice_index move_numbers place) n move =
          record { on_main_line = on_main_line; played = played; numbered = sym (e ∙ numbered) } in
          let none = no_point_yet n _ point move at before in
          let old_told = subst (λ (o : Option Point). TellsAt old place o) none told in
          (move.point, IsPointBefore.played n move.colour (omega arith) at, told_here place below e move.point refl old_told)
      | inr ne ↦
          (point, before-other tree n _ point (λ other at. ne (sym at.numbered ∙ sym numbered)) before, others place point below (inl ne) told)
    ]

    pub so_far-more : IsSignatureSoFar tree n old → IsSignatureSoFar tree (n + 1) new
    so_far-more so_far = record {
      twelve = twelve;
      each = λ place below. let (point, before, told) = so_far.each place below in told_more place below point before told;
    }

  -- the walk ends at the last node, behind the main line, or at move 71
  pub so_far-at_end : (bytes : List ℕ) → IsSignatureSoFar tree (node_count tree) bytes → IsSignatureOf tree bytes
  so_far-at_end bytes = so_far-all tree (node_count tree) bytes (λ place below n move at. main-in_range tree is_tree n at.on_main_line)

  pub so_far-behind_main : (n : ℕ) (bytes : List ℕ) → ¬ IsOnMainLine tree n → IsSignatureSoFar tree n bytes → IsSignatureOf tree bytes
  so_far-behind_main n bytes off = so_far-all tree n bytes (λ place below m move at. main-before tree is_tree n m off at.on_main_line)

  pub so_far-at_last : (n : ℕ) (bytes : List ℕ) → 71 ≤ move_number_of tree n → IsSignatureSoFar tree (n + 1) bytes → IsSignatureOf tree bytes
  so_far-at_last n bytes last = so_far-all tree (n + 1) bytes (λ place below m move at. elim (cases_lt m (n + 1)) [
    | inl lt ↦ lt
    | inr le ↦ absurd (omega (arith, later_number tree is_tree n m move (omega arith) at.on_main_line at.played, at.numbered, numbers-most place below))
  ])

  -- the signature of a tree is one on its board
  pub signature-on_board : (bytes : List ℕ) → IsSignatureOf tree bytes → IsSignatureOn tree.shape bytes
  signature-on_board bytes of_tree = record {
    twelve = of_tree.twelve;
    each = λ place below.
        let (point, is_point, told) = of_tree.each place below in
        (point, told, point-on_board tree is_tree _ point is_point);
  }
