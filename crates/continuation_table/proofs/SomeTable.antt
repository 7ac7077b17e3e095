-- Each list of hits has a table: one hit after another is added to the row of its continuation, or to a new one.
use Rattle.std.proofs.Common.{◌≡◌, ℕ, ◌<◌, ◌⊎◌, inl, inr, List, [], ◌∷◌, ◌++◌, length, get_or, Option, Some, None, refl, sym, subst, arith}
use Rattle.std.specs.Prelude.{AllPairs}
use Rattle.std.proofs.lemmas.Bool.{cases_eq, cases_lt}
use Rattle.std.proofs.lemmas.List.{append-nil, append_assoc, get_or_default}
use Rattle.kb_geometry.specs.declared.stone.Colour.{Colour}
use Rattle.kb_geometry.specs.declared.stone.Colour.TheVariants as colour
use Rattle.pattern_images.specs.declared.hit.Hit.{Hit}
use Rattle.pattern_images.specs.declared.hit.Next.{Next}
use Rattle.pattern_images.proofs.Tellings.{Told, least_below}
use Rattle.continuation_table.specs.declared.table.Row.{Row}
use Rattle.continuation_table.specs.Counting.{HaveSameNext, IsPlaceIn, IsRowAdded, absent, counted, one_more}
use Rattle.continuation_table.specs.Table.{AreRows, IsRowBefore, IsTable, TableView, tally_of}
use Rattle.continuation_table.proofs.KeptRows.{AreRows-added, AreRows-none, AreRows-start}
use Rattle.continuation_table.proofs.RowOrder.{not_before_from}

-- ---- what can be told of two rows

told_colour : (a b : Colour) → Told (a ≡ b)
told_colour colour.Black colour.Black = inl refl
told_colour colour.Black colour.White = inr (λ e. cc)
told_colour colour.White colour.Black = inr (λ e. cc)
told_colour colour.White colour.White = inl refl

told_same : (a b : Row) → Told (HaveSameNext a b)
told_same a b = elim (told_colour a.colour b.colour) [
  | inr never ↦ inr (λ h. never h.0)
  | inl side ↦ elim (cases_eq a.x b.x) [
    | inr never ↦ inr (λ h. never h.1)
    | inl column ↦ elim (cases_eq a.y b.y) [
      | inr never ↦ inr (λ h. never h.2)
      | inl row ↦ inl (side, column, row)
    ]
  ]
]

-- the order of two points
abbrev IsPointBefore : (x y u v : ℕ) → Type 0
IsPointBefore x y u v = (y < v) ⊎ ((y ≡ v) × (x < u))

told_point : (x y u v : ℕ) → Told (IsPointBefore x y u v)
told_point x y u v = elim (cases_lt y v) [
  | inl above ↦ inl (inl above)
  | inr le ↦ elim (cases_eq y v) [
    | inr other ↦ inr (λ h. elim h [ inl above ↦ omega arith | inr beside ↦ other beside.0 ])
    | inl row ↦ elim (cases_lt x u) [
      | inl left ↦ inl (inr (row, left))
      | inr right ↦ inr (λ h. elim h [ inl above ↦ omega arith | inr beside ↦ omega (arith, beside.1) ])
    ]
  ]
]

abbrev IsKeyBefore : Colour → Colour → Type 0 → Type 0
IsKeyBefore s t P = ((s ≡ colour.Black) × (t ≡ colour.White)) ⊎ ((s ≡ t) × P)

told_key : (s t : Colour) (P : Type 0) → Told P → Told (IsKeyBefore s t P)
told_key colour.Black colour.White P told = inl (inl (refl, refl))
told_key colour.White colour.Black P told = inr (λ h. elim h [
  | inl sides ↦ (let e : colour.White ≡ colour.Black = sides.0 in cc)
  | inr same ↦ (let e : colour.White ≡ colour.Black = same.0 in cc)
])
told_key colour.Black colour.Black P (inl p) = inl (inr (refl, p))
told_key colour.Black colour.Black P (inr never) = inr (λ h. elim h [
  | inl sides ↦ (let e : colour.Black ≡ colour.White = sides.1 in cc)
  | inr same ↦ never same.1
])
told_key colour.White colour.White P (inl p) = inl (inr (refl, p))
told_key colour.White colour.White P (inr never) = inr (λ h. elim h [
  | inl sides ↦ (let e : colour.White ≡ colour.Black = sides.0 in cc)
  | inr same ↦ never same.1
])

told_before : (a b : Row) → Told (IsRowBefore a b)
told_before a b = told_key a.colour b.colour (IsPointBefore a.x a.y b.x b.y) (told_point a.x a.y b.x b.y)

told_not_before : (a b : Row) → Told (IsRowBefore a b → ⊥)
told_not_before a b = elim (told_before a b) [ inl before ↦ inr (λ never. never before) | inr never ↦ inl never ]

-- ---- the place of a new row

module _ (rows : List Row) (ordered : AllPairs IsRowBefore rows) (new : Row) where
  -- the row with this number doesn't come before the new one
  abbrev IsBehind : ℕ → Type 0
  IsBehind k = IsRowBefore (get_or rows k new) new → ⊥

  before_at : (k : ℕ) (d : Row) → k < length rows → (IsBehind k → ⊥) → IsRowBefore (get_or rows k d) new
  before_at k d lt front = elim (told_before (get_or rows k d) new) [
    | inl before ↦ before
    | inr never ↦ absurd (front (subst (λ (r : Row). IsRowBefore r new → ⊥) (get_or_default rows k d new lt) never))
  ]

  some_place : (i : ℕ) × IsPlaceIn rows new i
  some_place = elim (least_below IsBehind (λ k. told_not_before (get_or rows k new) new) (length rows)) [
    | inl (i, lt, behind, front) ↦ (
      i,
      record {
        within = omega arith;
        before = λ k d less. before_at k d (omega arith) (front k less);
        rest = not_before_from rows ordered new i new behind;
      },
    )
    | inr none ↦ (
      length rows,
      record {
        within = omega arith;
        before = λ k d less. before_at k d less (none k less);
        rest = λ k d le less. absurd (omega arith);
      },
    )
  ]

  some_rows : (hit : Hit) → (after : List Row) × IsRowAdded hit rows new after
  some_rows hit =
      let (i, place) = some_place in
      elim (cases_lt i (length rows)) [
        | inr past ↦ (_, absent i place (λ d lt. absurd (omega arith)))
        | inl lt ↦ elim (told_same (get_or rows i new) new) [
          | inl same ↦ (_, one_more i new place lt same)
          | inr other ↦ (
            _,
            absent i place (λ d less same.
                other (subst (λ (r : Row). HaveSameNext r new) (get_or_default rows i d new less) same)),
          )
        ]
      ]

-- ---- one hit after another

more_rows : (hits : List Hit) (rows : List Row) (hit : Hit) → AreRows hits rows → (o : Option Next) → hit.next ≡ o →
    (after : List Row) × AreRows (hits ++ hit ∷ []) after
more_rows hits rows hit are None ends = (rows, AreRows-none hits rows hit are ends)
more_rows hits rows hit are (Some next) goes =
    let new : Row = record { colour = next.colour; x = next.x; y = next.y; tally = counted (tally_of []) hit } in
    let added = some_rows rows are.ordered new hit in
    (added.0, AreRows-added hits rows hit are next goes new (refl, refl, refl) added.0 refl added.1)

rows_from : (rest hits : List Hit) (rows : List Row) → AreRows hits rows → (after : List Row) × AreRows (hits ++ rest) after
rows_from [] hits rows are = (rows, subst (λ (hs : List Hit). AreRows hs rows) (sym (append-nil hits)) are)
rows_from (hit ∷ rest) hits rows are =
    let more = more_rows hits rows hit are hit.next refl in
    let all = rows_from rest (hits ++ hit ∷ []) more.0 more.1 in
    (all.0, subst (λ (hs : List Hit). AreRows hs all.0) (append_assoc hits (hit ∷ []) rest) all.1)

pub some_table : (hits : List Hit) → (table : TableView) × IsTable hits table
some_table hits =
    let found = rows_from hits [] [] AreRows-start in
    (record { rows = found.0; totals = tally_of hits }, record { rows = found.1; totals = refl })
