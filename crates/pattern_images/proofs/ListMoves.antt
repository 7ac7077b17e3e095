-- From the last label at a point to the next point, from the last point of a row to the next row, and from the last row
-- to the whole list.
use Rattle.std.proofs.Common.{◌≡◌, ℕ, ◌+◌, ◌<◌, ◌≤◌, inl, inr, Option, List, [], length, get_or, map, refl, sym, subst, arith, Some, None}
use Rattle.std.specs.Prelude.{All, Any}
use Rattle.std.proofs.lemmas.Bool.{cases_lt}
use Rattle.std.proofs.lemmas.List.{get_or-map, get_or_default, length-map}
use Rattle.std.proofs.lemmas.List.Elements.{All-nil}
use Rattle.kb_geometry.specs.declared.shape.Shape.{Shape}
use Rattle.kb_geometry.specs.Board.{cols_of, rows_of}
use Rattle.pattern_images.specs.declared.listing.StoredPlace.{StoredPlace}
use Rattle.pattern_images.specs.declared.query.Query.{Query}
use Rattle.pattern_images.specs.declared.turn.Turn.{Turn}
use Rattle.pattern_images.specs.Grid.{Grid}
use Rattle.pattern_images.specs.ImageList.{IsPlacedOn}
use Rattle.pattern_images.specs.Listing.{IsEarlier, IsListedTo, IsStoredOn, ListsOn, Reaches, placement_in}
use Rattle.pattern_images.specs.Placements.{ArePlacements, Placement, IsResult, IsSame}
use Rattle.pattern_images.specs.Turns.{AreTurns, HasNoBasePlace, IsTurn}
use Rattle.pattern_images.proofs.Listed.{IsListedTo-move, IsListedTo-none}
use Rattle.pattern_images.proofs.PlacedOn.{IsPlacedOn-result}

-- ---- at a point

point_end : (p : Placement) (y x : ℕ) → p.label < 16 → IsEarlier p y (x + 1) 0 → IsEarlier p y x 16
point_end p y x small (inl above) = inl above
point_end p y x small (inr (row, inl left)) = inr (row, elim (cases_lt p.x x) [ inl lt ↦ inl lt | inr le ↦ inr (omega arith, small) ])
point_end p y x small (inr (row, inr (column, less))) = absurd (omega arith)

point_next : (p : Placement) (y x : ℕ) → IsEarlier p y x 16 → IsEarlier p y (x + 1) 0
point_next p y x (inl above) = inl above
point_next p y x (inr (row, inl left)) = inr (row, inl (omega arith))
point_next p y x (inr (row, inr (column, less))) = inr (row, inl (omega arith))

-- ---- in a row

row_end : (p : Placement) (y cols : ℕ) → p.x < cols → IsEarlier p (y + 1) 0 0 → IsEarlier p y cols 0
row_end p y cols on (inl above) = elim (cases_lt p.y y) [ inl lt ↦ inl lt | inr le ↦ inr (omega arith, inl on) ]
row_end p y cols on (inr (row, inl left)) = absurd (omega arith)
row_end p y cols on (inr (row, inr (column, less))) = absurd (omega arith)

row_next : (p : Placement) (y cols : ℕ) → IsEarlier p y cols 0 → IsEarlier p (y + 1) 0 0
row_next p y cols (inl above) = inl (omega arith)
row_next p y cols (inr (row, inl left)) = inl (omega arith)
row_next p y cols (inr (row, inr (column, less))) = inl (omega arith)

row_on : (p : Placement) (y : ℕ) → IsEarlier p y 0 0 → IsEarlier p (y + 1) 0 0
row_on p y (inl above) = inl (omega arith)
row_on p y (inr (row, inl left)) = absurd (omega arith)
row_on p y (inr (row, inr (column, less))) = absurd (omega arith)

-- a result stands in a row that its turn reaches
reached_by : (query : Query) (shape : Shape) (grids : List Grid) (p : Placement) (o : Option Turn) → IsTurn query shape grids p.label o → IsResult query shape p → Reaches p.y o
reached_by query shape grids p None is result = is p refl result
reached_by query shape grids p (Some turn) is result =
    let inside = ((is.results p refl).0 result).0 in
    (inside.2, inside.3)

module _ (shape : Shape) (turns : List (Option Turn)) where
  -- nothing more
  pub ListsOn-none : (y x label : ℕ) (stored : List StoredPlace) → ListsOn shape turns y x label stored y x label stored
  ListsOn-none y x label stored query grids are listed = listed

  -- one step after another
  pub ListsOn-more : (y x label y' x' label' y'' x'' label'' : ℕ) (before between after : List StoredPlace) →
      ListsOn shape turns y x label before y' x' label' between → ListsOn shape turns y' x' label' between y'' x'' label'' after →
      ListsOn shape turns y x label before y'' x'' label'' after
  ListsOn-more y x label y' x' label' y'' x'' label'' before between after first second query grids are listed = second query grids are (first query grids are listed)

  -- after the last label comes the next point
  pub ListsOn-point : (y x y' x' label' : ℕ) (before after : List StoredPlace) → ListsOn shape turns y' x' label' before y x 16 after → ListsOn shape turns y' x' label' before y (x + 1) 0 after
  ListsOn-point y x y' x' label' before after lists query grids are listed =
      IsListedTo-move query shape grids y x 16 y (x + 1) 0 after (lists query grids are listed)
      (λ p result earlier. point_end p y x result.label.in_range earlier) (λ p earlier. point_next p y x earlier)

  -- after the last point of a row comes the next row
  pub ListsOn-row : (y y' x' label' : ℕ) (before after : List StoredPlace) → ListsOn shape turns y' x' label' before y (cols_of shape) 0 after → ListsOn shape turns y' x' label' before (y + 1) 0 0 after
  ListsOn-row y y' x' label' before after lists query grids are listed =
      IsListedTo-move query shape grids y (cols_of shape) 0 (y + 1) 0 0 after (lists query grids are listed)
      (λ p result earlier. let on = IsPlacedOn-result query shape p result in row_end p y (cols_of shape) (omega arith) earlier)
      (λ p earlier. row_next p y (cols_of shape) earlier)

  -- a row that no turn reaches
  pub ListsOn-passed : (y : ℕ) (stored : List StoredPlace) → length turns ≡ 16 → ¬ Any (Reaches y) turns → ListsOn shape turns y 0 0 stored (y + 1) 0 0 stored
  ListsOn-passed y stored all none query grids are listed =
      IsListedTo-move query shape grids y 0 0 (y + 1) 0 0 stored listed back (λ p earlier. row_on p y earlier)
    where
      here : (p : Placement) → IsResult query shape p → p.y ≡ y → ⊥
      here p result row =
          let below : p.label < length turns = omega (arith, result.label.in_range) in
          none (p.label, get_or turns p.label None, below, get_or_default turns p.label (get_or turns p.label None) None below, subst (λ n. Reaches n (get_or turns p.label None)) row (reached_by query shape grids p (get_or turns p.label None) (are.each p.label below) result))

      back : (p : Placement) → IsResult query shape p → IsEarlier p (y + 1) 0 0 → IsEarlier p y 0 0
      back p result (inl above) = elim (cases_lt p.y y) [ inl lt ↦ inl lt | inr from ↦ absurd (here p result (omega arith)) ]
      back p result (inr (row, inl left)) = absurd (omega arith)
      back p result (inr (row, inr (column, less))) = absurd (omega arith)

-- after the last row the list is whole
pub ArePlacements-listed : (query : Query) (shape : Shape) (grids : List Grid) (stored : List StoredPlace) → IsListedTo query shape grids (rows_of shape) 0 0 stored →
    ArePlacements query shape (map (placement_in grids) stored)
ArePlacements-listed query shape grids stored listed = record {
  complete = λ p result. let on = IsPlacedOn-result query shape p result in listed.complete p result (inl (omega arith));
  sound = listed.sound;
  least = listed.least;
  distinct = listed.distinct;
  ordered = listed.ordered;
}

-- what is listed lies on the board
pub IsStoredOn-listed : (query : Query) (shape : Shape) (grids : List Grid) (y x label : ℕ) (stored : List StoredPlace) → IsListedTo query shape grids y x label stored →
    All (IsStoredOn shape grids) stored
IsStoredOn-listed query shape grids y x label stored listed k d below =
    let on = IsPlacedOn-result query shape (get_or (map (placement_in grids) stored) k (placement_in grids d)) (listed.sound k (placement_in grids d) (omega (arith, length-map stored (placement_in grids)))) in
    (listed.classes k d below, subst (IsPlacedOn shape) (get_or-map (placement_in grids) stored k d (placement_in grids d) below) on)

-- where there is no base place the list is empty
pub ArePlacements-none : (query : Query) (shape : Shape) → HasNoBasePlace query shape → ArePlacements query shape []
ArePlacements-none query shape none = record {
  complete = λ p result. absurd (none result.base result.board result.at_base);
  sound = All-nil (IsResult query shape);
  least = All-nil (λ placement. (result : Placement) → IsResult query shape result → IsSame placement result → placement.label ≤ result.label);
  distinct = λ i j d less below. absurd (omega arith);
  ordered = λ i j d less below. absurd (omega arith);
}

-- from the first place to the last row
pub listed_whole : (query : Query) (shape : Shape) (grids : List Grid) (given turns : List (Option Turn)) (stored : List StoredPlace) → given ≡ turns → AreTurns query shape grids turns →
    ListsOn shape given 0 0 0 [] (rows_of shape) 0 0 stored → IsListedTo query shape grids (rows_of shape) 0 0 stored
listed_whole query shape grids given turns stored same are lists = lists query grids (subst (AreTurns query shape grids) (sym same) are) (IsListedTo-none query shape grids)
