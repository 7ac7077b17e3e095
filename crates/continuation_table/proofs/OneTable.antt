-- A list of hits has one table only: its rows are in order, and each is told by the hits.
use Rattle.std.proofs.Common.{◌≡◌, ℕ, suc, ◌≤◌, List, [], ◌∷◌, length, Bool, true, false, cond, Option, Some, None, refl, sym, ap, subst, ◌∙◌, arith}
use Rattle.std.specs.Prelude.{Any, Contains, IfSome, filter}
use Rattle.std.proofs.lemmas.List.{get_or_default}
use Rattle.kb_geometry.specs.declared.stone.Colour.{Colour}
use Rattle.pattern_images.specs.declared.hit.Hit.{Hit}
use Rattle.pattern_images.specs.declared.hit.Next.{Next}
use Rattle.kb_geometry.proofs.Lists.{same_order}
use Rattle.continuation_table.specs.declared.table.Row.{Row}
use Rattle.continuation_table.specs.Counting.{HaveSameNext}
use Rattle.continuation_table.specs.Table.{AreRows, IsRowBefore, IsRowOf, IsTable, IsTold, TableView, goes_on, going_on, tally_of}
use Rattle.continuation_table.proofs.KeptRows.{goes_by, goes_by-told}
use Rattle.continuation_table.proofs.RowOrder.{before_irreflexive, before_trans}

-- ---- a list that leaves something has a member that passes

passes_step : (p : Hit → Bool) (h : Hit) (hs : List Hit) (b : Bool) → p h ≡ b →
    (1 ≤ length (filter p hs) → Any (λ (x : Hit). p x ≡ true) hs) →
    1 ≤ length (cond b (h ∷ filter p hs) (filter p hs)) → Any (λ (x : Hit). p x ≡ true) (h ∷ hs)
passes_step p h hs true e later some = (0, h, omega arith, refl, e)
passes_step p h hs false e later some =
    let (k, x, below, is, passes) = later some in (suc k, x, omega arith, is, passes)

some_passes : (p : Hit → Bool) (hits : List Hit) → 1 ≤ length (filter p hits) → Any (λ (x : Hit). p x ≡ true) hits
some_passes p [] some = absurd (omega arith)
some_passes p (h ∷ hs) some = passes_step p h hs (p h) refl (some_passes p hs) some

-- ---- rows of one list are rows of the other

opposed : (a b : Row) → IsRowBefore a b → IsRowBefore b a → ⊥
opposed a b one other = before_irreflexive a (before_trans a b a one other)

same_row : (a b : Row) → a.colour ≡ b.colour → a.x ≡ b.x → a.y ≡ b.y → a.tally ≡ b.tally → a ≡ b
same_row a b side x y tally =
    ap (λ c. record { colour = c; x = a.x; y = a.y; tally = a.tally }) side
    ∙ ap (λ n. record { colour = b.colour; x = n; y = a.y; tally = a.tally }) x
    ∙ ap (λ n. record { colour = b.colour; x = b.x; y = n; tally = a.tally }) y
    ∙ ap (λ t. record { colour = b.colour; x = b.x; y = b.y; tally = t }) tally

-- a continuation that a row tells has its row in the list
row_for : (rows : List Row) (r : Row) (o : Option Next) → goes_by o r ≡ true →
    IfSome o (λ next. Any (IsRowOf next) rows) → Any (λ (q : Row). HaveSameNext q r) rows
row_for rows r None goes has = absurd cc
row_for rows r (Some next) goes (k, q, below, is, of) =
    let told = goes_by-told next r goes in
    (k, q, below, is, (of.0 ∙ sym told.0, of.1 ∙ sym told.1, of.2 ∙ sym told.2))

module _ (hits : List Hit) where
  -- two rows of one continuation that the hits tell are one
  told_same_row : (a b : Row) → HaveSameNext a b → IsTold hits a → IsTold hits b → a ≡ b
  told_same_row a b same one other =
      same_row a b same.0 same.1 same.2
      (one.tally
      ∙ ap (λ (c : Colour). tally_of (going_on c a.x a.y hits)) same.0
      ∙ ap (λ (n : ℕ). tally_of (going_on b.colour n a.y hits)) same.1
      ∙ ap (λ (n : ℕ). tally_of (going_on b.colour b.x n hits)) same.2
      ∙ sym other.tally)

  members : (a b : List Row) → AreRows hits a → AreRows hits b → (r : Row) → Contains a r → Contains b r
  members a b are_a are_b r (k, below, is) =
      let told : IsTold hits r = subst (IsTold hits) is (are_a.sound k r below) in
      let (j, hit, hit_in, hit_is, goes) = some_passes (goes_on r.colour r.x r.y) hits told.some in
      let has : IfSome hit.next (λ next. Any (IsRowOf next) b) =
      subst (λ (h : Hit). IfSome h.next (λ next. Any (IsRowOf next) b)) hit_is (are_b.complete j hit hit_in) in
      let (i, q, i_in, q_is, same) = row_for b r hit.next goes has in
      let q_told : IsTold hits q = subst (IsTold hits) q_is (are_b.sound i q i_in) in
      let one : q ≡ r = told_same_row q r same q_told told in
      (i, i_in, get_or_default b i r q i_in ∙ q_is ∙ one)

  one_rows : (a b : List Row) → AreRows hits a → AreRows hits b → a ≡ b
  one_rows a b are_a are_b =
      same_order IsRowBefore opposed a b are_a.ordered are_b.ordered (members a b are_a are_b) (members b a are_b are_a)

pub one_table : (hits : List Hit) (a b : TableView) → IsTable hits a → IsTable hits b → a ≡ b
one_table hits a b one other =
    ap (λ (rows : List Row). record { rows = rows; totals = a.totals }) (one_rows hits a.rows b.rows one.rows other.rows)
    ∙ ap (λ totals. record { rows = b.rows; totals = totals }) (one.totals ∙ sym other.totals)
