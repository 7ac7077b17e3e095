-- No opening counts more entries, or next moves, than there are.
use Rattle.std.proofs.Common.{ℕ, ◌≤◌, Bool, List, [], ◌∷◌, length, map, arith}
use Rattle.std.specs.Prelude.{All, filter}
use Rattle.std.proofs.lemmas.List.Elements.{All-cons, All-filter, All-nil}
use Rattle.std.proofs.lemmas.List.Sums.{count_by-le-length, length-filter}
use Rattle.kb_geometry.specs.declared.shape.Shape.{Shape}
use Rattle.game_tree.specs.declared.node.Move.{Move}
use Rattle.opening_tree.specs.Entries.{Entry}
use Rattle.opening_tree.specs.Groups.{Grouped, IsGroupWithin, IsRowWithin, groups_of}
use Rattle.opening_tree.specs.NextMoves.{NextAt}
use Rattle.kb_geometry.specs.Outcomes.{is_black_win, is_no_win, is_white_win}
use Rattle.opening_tree.specs.Openings.{entries_at, first_entries, is_same_play, is_same_position, nexts_at, nexts_by, opening_of, plays_on, row_of, rows_of}

All-map : {X Y : Type 0} (f : X → Y) (P : Y → Type 0) → ((x : X) → P (f x)) → (xs : List X) → All P (map f xs)
All-map f P each [] = All-nil P
All-map f P each (x ∷ xs) = All-cons P (f x) (map f xs) (each x) (All-map f P each xs)

-- those that pass are no more
few_pass : {X : Type 0} (p : X → Bool) (xs : List X) → length (filter p xs) ≤ length xs
few_pass p xs = omega (arith, length-filter p xs, count_by-le-length p xs)

module _ (most : ℕ) where
  row-within : (q : Move) (nexts : List NextAt) → length nexts ≤ most → IsRowWithin most (row_of q nexts)
  row-within q nexts few = record {
    count = few;
    black = omega (arith, few, count_by-le-length (λ (n : NextAt). is_black_win n.outcome) nexts);
    white = omega (arith, few, count_by-le-length (λ (n : NextAt). is_white_win n.outcome) nexts);
    other = omega (arith, few, count_by-le-length (λ (n : NextAt). is_no_win n.outcome) nexts);
  }

  rows-within : (shape : Shape) (nexts : List NextAt) → length nexts ≤ most → All (IsRowWithin most) (rows_of shape nexts)
  rows-within shape nexts few = All-filter _ (IsRowWithin most) _ (All-map (λ (play : Move). row_of play (nexts_by play nexts)) (IsRowWithin most)
      (λ q. row-within q (nexts_by q nexts) (omega (arith, few, few_pass (λ (n : NextAt). is_same_play q n.played) nexts))) (plays_on shape))

  opening-within : (shape : Shape) (f : Entry) (es : List Entry) (ns : List NextAt) → length es ≤ most → length ns ≤ most → IsGroupWithin most (opening_of shape f es ns)
  opening-within shape f es ns few few_nexts = record {
    count = few;
    black = omega (arith, few, count_by-le-length (λ (e : Entry). is_black_win e.outcome) es);
    white = omega (arith, few, count_by-le-length (λ (e : Entry). is_white_win e.outcome) es);
    other = omega (arith, few, count_by-le-length (λ (e : Entry). is_no_win e.outcome) es);
    rows = rows-within shape ns few_nexts;
  }

  pub groups-within : (shape : Shape) (es : List Entry) (ns : List NextAt) → length es ≤ most → length ns ≤ most → All (λ (g : Grouped). IsGroupWithin most g.opening) (groups_of shape es ns)
  groups-within shape es ns few few_nexts = All-map _ (λ (g : Grouped). IsGroupWithin most g.opening)
      (λ (f : Entry). opening-within shape f (entries_at f.canonical es) (nexts_at f.canonical ns)
      (omega (arith, few, few_pass (λ (e : Entry). is_same_position f.canonical e.canonical) es))
      (omega (arith, few_nexts, few_pass (λ (n : NextAt). is_same_position f.canonical n.canonical) ns))) (first_entries es)
