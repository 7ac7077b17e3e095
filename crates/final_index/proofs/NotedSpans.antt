-- From when on points have a stone, and until when they are empty: node by node, change by change.
use Rattle.std.proofs.Common.{◌≡◌, ◌≢◌, ℕ, ◌+◌, ◌<◌, ◌≤◌, ◌⊎◌, List, length, get_or, set, slice_index, Option, None, Some, refl, sym, ◌∙◌, ap, subst, arith, inl, inr}
use Rattle.std.proofs.lemmas.Bool.{cases_lt, cases_eq}
use Rattle.std.proofs.lemmas.List.{get_or_default, get_or-set_other, get_or-set_same}
use Rattle.node_paths.specs.Parents.{MayHaveParent}
use Rattle.kb_geometry.specs.declared.stone.Cell.TheVariants as cell
use Rattle.kb_geometry.specs.declared.stone.Change.{Change}
use Rattle.kb_geometry.specs.Board.{point_count}
use Rattle.kb_geometry.specs.Capture.{cell_at}
use Rattle.capture_board.specs.Deltas.{AreDeltas, Deltas, changes_of, node_count, parent_of, position_at, position_where}
use Rattle.capture_board.proofs.Cells.{cases_cell}
use Rattle.final_index.specs.declared.spans.Spans.{Spans}
use Rattle.final_index.specs.Gathering.{MakesCell}
use Rattle.final_index.specs.Spans.{AreAllNoted, AreSpansTo, IsBackAt, IsNoted, below_at, change_at, from_at}
use Rattle.final_index.proofs.GatheredNodes.{node-cases, node-made, parent-cell, root-cell}

-- ---- the changes of a node

module _ (changes : List Change) (n end : ℕ) where
  pub AreAllNoted-start : (spans : Spans) → AreAllNoted changes 0 n end spans spans
  AreAllNoted-start spans = record {
    from_count = refl;
    below_count = refl;
    from_less = λ p. omega arith;
    stones = λ k lt. absurd (omega (arith, lt));
    below = λ p. inr (inr refl);
    emptied = λ p all. inr (refl, λ k lt. absurd (omega (arith, lt)));
  }

  module _ (before mid after : Spans) (i : ℕ) (so_far : AreAllNoted changes i n end before mid) (noted : IsNoted (change_at changes i) n end mid after) where
    abbrev here : ℕ
    here = (change_at changes i).point

    -- the point of the change
    below-here : (p : ℕ) → p ≡ here → (below_at after p ≡ end) ⊎ (below_at after p ≡ n)
    below-here p at = elim (cases_cell (change_at changes i).new cell.Empty) [
      | inl empty ↦ inl (ap (below_at after) at ∙ noted.empty empty)
      | inr stone ↦ inr (ap (below_at after) at ∙ (noted.stone stone).0)
    ]

    below-more : (p : ℕ) → (below_at after p ≡ end) ⊎ ((below_at after p ≡ n) ⊎ (below_at after p ≡ below_at before p))
    below-more p = elim (cases_eq p here) [
      | inl at ↦ elim (below-here p at) [ inl all ↦ inl all | inr this ↦ inr (inl this) ]
      | inr other ↦
          let same = noted.others p other in
          elim (so_far.below p) [
            | inl all ↦ inl (same ∙ all)
            | inr either ↦ elim either [ inl this ↦ inr (inl (same ∙ this)) | inr was ↦ inr (inr (same ∙ was)) ]
          ]
    ]

    stones-more : (k : ℕ) → k < i + 1 → (change_at changes k).new ≢ cell.Empty → from_at after (change_at changes k).point ≤ n
    stones-more k lt stone = elim (cases_eq k i) [
      | inl last ↦
          let now : (change_at changes i).new ≢ cell.Empty = subst (λ (j : ℕ). (change_at changes j).new ≢ cell.Empty) last stone in
          subst (λ (j : ℕ). from_at after (change_at changes j).point ≤ n) (sym last) (noted.stone now).1
      | inr earlier ↦ omega (arith, so_far.stones k (omega (arith, lt, earlier)) stone, noted.from_less (change_at changes k).point)
    ]

    emptied-more : (p : ℕ) → ((k : ℕ) → k < i + 1 → (change_at changes k).point ≡ p → (change_at changes k).new ≡ cell.Empty) →
        (below_at after p ≡ end) ⊎ ((below_at after p ≡ below_at before p) × ((k : ℕ) → k < i + 1 → (change_at changes k).point ≢ p))
    emptied-more p all = elim (cases_eq p here) [
      | inl at ↦ inl (ap (below_at after) at ∙ noted.empty (all i (omega arith) (sym at)))
      | inr other ↦
          let same = noted.others p other in
          elim (so_far.emptied p (λ k lt. all k (omega (arith, lt)))) [
            | inl is ↦ inl (same ∙ is)
            | inr was ↦ inr (
              same ∙ was.0,
              λ k lt at. elim (cases_eq k i) [
                | inl last ↦ other (sym at ∙ ap (λ (j : ℕ). (change_at changes j).point) last)
                | inr earlier ↦ was.1 k (omega (arith, lt, earlier)) at
              ],
            )
          ]
    ]

    pub AreAllNoted-more : AreAllNoted changes (i + 1) n end before after
    AreAllNoted-more = record {
      from_count = noted.from_count ∙ so_far.from_count;
      below_count = noted.below_count ∙ so_far.below_count;
      from_less = λ p. omega (arith, noted.from_less p, so_far.from_less p);
      stones = stones-more;
      below = below-more;
      emptied = emptied-more;
    }

-- ---- the way back

module _ (o : Option ℕ) (n end before : ℕ) (recent : (before ≡ end) ⊎ (before < n)) where
  -- a number that stays, where it is no greater than the parent
  pub back-under : (m : ℕ) → o ≡ Some m → (before < n → before ≤ m) → IsBackAt o n end before before
  back-under m is under = elim recent [
    | inl all ↦ inl all
    | inr lt ↦ inr (
      refl,
      lt,
      λ k e.
          let same : m ≡ k = cc in
          omega (arith, under lt, same),
    )
  ]

-- the first so many points are gone back with, and one more
module _ (o : Option ℕ) (n end above p : ℕ) (is : o ≡ Some above) (old mid : Spans) (inside : p < length old.empty_below.items) (long : length mid.empty_below.items ≡ length old.empty_below.items)
    (recent : (q : ℕ) → q < length old.empty_below.items → (below_at old q ≡ end) ⊎ (below_at old q < n))
    (back : (q : ℕ) → q < p → IsBackAt o n end (below_at old q) (below_at mid q)) (rest : (q : ℕ) → p ≤ q → below_at mid q ≡ below_at old q) where
  -- its number is behind the parent
  pub back-over : (q : ℕ) → q < p + 1 → IsBackAt o n end (below_at old q) (slice_index (set mid.empty_below.items p end) q)
  back-over q lt = elim (cases_eq q p) [
    | inl here ↦ inl (ap (λ (j : ℕ). slice_index (set mid.empty_below.items p end) j) here ∙ get_or-set_same mid.empty_below.items p end 0 (omega (arith, inside, long)))
    | inr other ↦ subst (λ (b : ℕ). IsBackAt o n end (below_at old q) b) (sym (get_or-set_other mid.empty_below.items p q end 0 other)) (back q (omega (arith, lt, other)))
  ]

  -- the points behind it are as before
  pub rest-over : (q : ℕ) → p + 1 ≤ q → slice_index (set mid.empty_below.items p end) q ≡ below_at old q
  rest-over q le = get_or-set_other mid.empty_below.items p q end 0 (λ here. absurd (omega (arith, here, le))) ∙ rest q (omega (arith, le))

  -- its number is no greater than the parent
  pub back-left : below_at mid p ≤ above → (q : ℕ) → q < p + 1 → IsBackAt o n end (below_at old q) (below_at mid q)
  back-left under q lt = elim (cases_eq q p) [
    | inl here ↦
        let same : below_at mid q ≡ below_at old q = rest q (omega (arith, here)) in
        let at : below_at mid q ≡ below_at mid p = ap (below_at mid) here in
        subst (λ (b : ℕ). IsBackAt o n end (below_at old q) b) (sym same) (back-under o n end (below_at old q) (recent q (omega (arith, here, inside))) above is (λ less. omega (arith, same, at, under)))
    | inr other ↦ back q (omega (arith, lt, other))
  ]

-- ---- node by node

module _ (deltas : Deltas) (are : AreDeltas deltas) where
  pub AreSpansTo-start : (spans : Spans) → length spans.stone_from.items ≡ point_count deltas.shape → length spans.empty_below.items ≡ point_count deltas.shape →
      ((p : ℕ) → p < point_count deltas.shape → below_at spans p ≡ node_count deltas) → AreSpansTo deltas 0 spans
  AreSpansTo-start spans from below all = record {
    from_count = from;
    below_count = below;
    stones = λ p n within lt. absurd (omega (arith, lt));
    empties = λ p n within lt. absurd (omega (arith, lt));
    recent = λ p within. inl (all p within);
  }

  -- a point that is empty above a node, and that the way back left, has no number from before
  came : (n p : ℕ) (o : Option ℕ) → MayHaveParent (parent_of deltas) n o → cell_at (position_where deltas o) p ≡ cell.Empty → (end before mid : ℕ) → IsBackAt o n end before mid → n < end →
      ((m : ℕ) → m < n → cell_at (position_at deltas m) p ≡ cell.Empty → m < before) → n < mid
  came n p None may e end before mid back lt empties = elim back [
    | inl all ↦ omega (arith, all, lt)
    | inr was ↦ absurd (omega (arith, was.1, may))
  ]
  came n p (Some m) may e end before mid back lt empties = elim back [
    | inl all ↦ omega (arith, all, lt)
    | inr was ↦ absurd (omega (arith, was.2 m refl, empties m may.0 e))
  ]

  module _ (n : ℕ) (lt : n < node_count deltas) (old mid after : Spans) (so_far : AreSpansTo deltas n old) (from_same : (p : ℕ) → from_at mid p ≡ from_at old p)
      (back : (p : ℕ) → p < point_count deltas.shape → IsBackAt (parent_of deltas n) n (node_count deltas) (below_at old p) (below_at mid p))
      (changes : List Change) (is : changes ≡ changes_of deltas n) (noted : AreAllNoted changes (length changes) n (node_count deltas) mid after) where
    -- a change of the node, by its number
    made-by : (k p : ℕ) → k < length changes → (change_at changes k).point ≡ p → MakesCell (changes_of deltas n) p (change_at changes k).new
    made-by k p within at = subst (λ (cs : List Change). MakesCell cs p (change_at changes k).new) is (k, change_at changes k, within, get_or_default changes k (change_at changes k) _ within, (at, refl))

    -- and as the list has it
    change-is : (k : ℕ) (c : Change) → k < length (changes_of deltas n) → get_or (changes_of deltas n) k c ≡ c → (k < length changes) × (change_at changes k ≡ c)
    change-is k c within read =
        let inside : k < length changes = subst (λ (cs : List Change). k < length cs) (sym is) within in
        (inside, get_or_default changes k _ c inside ∙ ap (λ (cs : List Change). get_or cs k c) is ∙ read)

    stones-now : (p : ℕ) → p < point_count deltas.shape → cell_at (position_at deltas n) p ≢ cell.Empty → from_at after p ≤ n
    stones-now p within ne = elim (node-cases deltas are n lt p (cell_at (position_at deltas n) p) refl) [
      | inl (k, c, inside, read, (at, new)) ↦
          let (there, this) = change-is k c inside read in
          let stone : (change_at changes k).new ≢ cell.Empty = λ e. ne (sym new ∙ ap (λ (d : Change). d.new) (sym this) ∙ e) in
          let point : (change_at changes k).point ≡ p = ap (λ (d : Change). d.point) this ∙ at in
          subst (λ (q : ℕ). from_at after q ≤ n) point (noted.stones k there stone)
      | inr kept ↦ elim (cases_lt 0 n) [
        | inl pos ↦
            let (m, less, e) = parent-cell deltas are n (parent_of deltas n) pos (are.parents.each n lt) p (cell_at (position_at deltas n) p) kept.1 in
            omega (arith, so_far.stones p m within less (λ empty. ne (sym e ∙ empty)), from_same p, noted.from_less p, less)
        | inr first ↦
            let root : n ≡ 0 = omega (arith, first) in
            absurd (ne (sym kept.1 ∙ root-cell deltas are (parent_of deltas n) (subst (λ (j : ℕ). MayHaveParent (parent_of deltas) j (parent_of deltas n)) root (are.parents.each n lt)) p within))
      ]
    ]

    -- the first node's changes are against the empty board
    empties-now : (p : ℕ) → p < point_count deltas.shape → cell_at (position_at deltas n) p ≡ cell.Empty → n < below_at after p
    empties-now p within e =
        let emptied = noted.emptied p (λ k inside at. sym (node-made deltas are n lt p (change_at changes k).new (made-by k p inside at)).1 ∙ e) in
        elim emptied [
          | inl all ↦ omega (arith, all, lt)
          | inr (same, untouched) ↦ elim (node-cases deltas are n lt p cell.Empty e) [
            | inl (k, c, inside, read, (at, new)) ↦
                let (there, this) = change-is k c inside read in
                absurd (untouched k there (ap (λ (d : Change). d.point) this ∙ at))
            | inr kept ↦
                let now = came n p (parent_of deltas n) (are.parents.each n lt) kept.1 (node_count deltas) (below_at old p) (below_at mid p) (back p within) lt (λ m less empty. so_far.empties p m within less empty) in
                omega (arith, now, same)
          ]
        ]

    -- the number of a point, for the nodes before
    still : (p m : ℕ) → p < point_count deltas.shape → m < n → cell_at (position_at deltas m) p ≡ cell.Empty → m < below_at after p
    still p m within less e =
        let was = so_far.empties p m within less e in
        elim (noted.below p) [
          | inl all ↦ omega (arith, all, lt, less)
          | inr either ↦ elim either [
            | inl this ↦ omega (arith, this, less)
            | inr same ↦ elim (back p within) [
              | inl all ↦ omega (arith, all, same, lt, less)
              | inr kept ↦ omega (arith, kept.0, same, was)
            ]
          ]
        ]

    recent-now : (p : ℕ) → p < point_count deltas.shape → (below_at after p ≡ node_count deltas) ⊎ (below_at after p < n + 1)
    recent-now p within = elim (noted.below p) [
      | inl all ↦ inl all
      | inr either ↦ elim either [
        | inl this ↦ inr (omega (arith, this))
        | inr same ↦ elim (back p within) [
          | inl all ↦ inl (same ∙ all)
          | inr kept ↦ inr (omega (arith, same, kept.0, kept.1))
        ]
      ]
    ]

    pub AreSpansTo-more : length mid.stone_from.items ≡ length old.stone_from.items → length mid.empty_below.items ≡ length old.empty_below.items → AreSpansTo deltas (n + 1) after
    AreSpansTo-more from_long below_long = record {
      from_count = noted.from_count ∙ from_long ∙ so_far.from_count;
      below_count = noted.below_count ∙ below_long ∙ so_far.below_count;
      stones = λ p m within less ne. elim (cases_lt m n) [
        | inl earlier ↦ omega (arith, so_far.stones p m within earlier ne, from_same p, noted.from_less p)
        | inr last ↦
            let at : m ≡ n = omega (arith, last, less) in
            subst (λ (j : ℕ). from_at after p ≤ j) (sym at) (stones-now p within (subst (λ (j : ℕ). cell_at (position_at deltas j) p ≢ cell.Empty) at ne))
      ];
      empties = λ p m within less e. elim (cases_lt m n) [
        | inl earlier ↦ still p m within earlier e
        | inr last ↦
            let at : m ≡ n = omega (arith, last, less) in
            subst (λ (j : ℕ). j < below_at after p) (sym at) (empties-now p within (subst (λ (j : ℕ). cell_at (position_at deltas j) p ≡ cell.Empty) at e))
      ];
      recent = recent-now;
    }
