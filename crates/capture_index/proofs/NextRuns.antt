-- How long the cell of a point stays, by its runs.
use Prim.Native.Nat.{min}
use Rattle.std.proofs.Common.{◌≡◌, ℕ, ◌+◌, ◌<◌, ◌≤◌, List, ◌∷◌, length, get_or, drop, refl, sym, ◌∙◌, ap, arith, add-one, drop-cons}
use Rattle.std.proofs.Math.Nat.{min-le_left, min-le_right, le-min}
use Rattle.std.proofs.lemmas.List.{drop_all}
use Rattle.kb_geometry.specs.declared.stone.Cell.TheVariants as stone
use Rattle.capture_index.specs.declared.run.Run.{Run}
use Rattle.capture_index.specs.Runs.{cell_by}
use Rattle.capture_index.specs.Seen.{StaysTo}
use Rattle.capture_index.proofs.Cells.{cell_by-first, cell_by-rest}

-- before the next node the runs behind the first so many tell the cell
pub record AreBehind (runs : List Run) (nodes n count next : ℕ) : Type 0 where
  pub more : n < next
  pub most : next ≤ nodes
  pub rest : (k : ℕ) → k < next → cell_by runs k ≡ cell_by (drop count runs) k

pub AreBehind-none : (runs : List Run) (nodes n : ℕ) → n < nodes → AreBehind runs nodes n 0 nodes
AreBehind-none runs nodes n lt = record { more = lt; most = omega arith; rest = λ k l. refl }

module _ (runs : List Run) (nodes n count next : ℕ) (d : Run) (lt : count < length runs) (behind : AreBehind runs nodes n count next) where
  abbrev run : Run
  run = get_or runs count d

  step : drop count runs ≡ run ∷ drop (count + 1) runs
  step = drop-cons runs count d lt ∙ ap (λ (i : ℕ). run ∷ drop i runs) (sym (add-one count))

  -- a run that begins behind the node
  pub AreBehind-more : (first low : ℕ) → first ≡ run.first → n < first → low ≡ min next first → AreBehind runs nodes n (count + 1) low
  AreBehind-more first low is later e =
      let left = min-le_left next first in
      let right = min-le_right next first in
      let some : n + 1 ≤ min next first = le-min (omega (arith, behind.more)) (omega arith) in
      record {
        more = omega (arith, some, e);
        most = omega (arith, left, e, behind.most);
        rest = λ k l. behind.rest k (omega (arith, left, e, l)) ∙ ap (λ (rs : List Run). cell_by rs k) step ∙ cell_by-rest run (drop (count + 1) runs) k (omega (arith, is, right, e, l));
      }

  -- a run that begins at or before it
  pub StaysTo-run : (first : ℕ) → first ≡ run.first → first ≤ n → StaysTo (cell_by runs) nodes n next
  StaysTo-run first is le =
      let told : (k : ℕ) → n ≤ k → k < next → cell_by runs k ≡ run.cell = λ k from to. behind.rest k to ∙ ap (λ (rs : List Run). cell_by rs k) step ∙ cell_by-first run (drop (count + 1) runs) k (omega (arith, is)) in
      record {
        more = behind.more;
        most = behind.most;
        stays = λ k from to. told k from to ∙ sym (told n (omega arith) behind.more);
      }

-- no run begins at or before it
pub StaysTo-none : (runs : List Run) (nodes n count next : ℕ) → length runs ≤ count → AreBehind runs nodes n count next → StaysTo (cell_by runs) nodes n next
StaysTo-none runs nodes n count next all behind =
    let told : (k : ℕ) → k < next → cell_by runs k ≡ stone.Empty = λ k to. behind.rest k to ∙ ap (λ (rs : List Run). cell_by rs k) (drop_all count runs all) in
    record {
      more = behind.more;
      most = behind.most;
      stays = λ k from to. told k to ∙ sym (told n behind.more);
    }

-- ---- the cell at one node
module _ (runs : List Run) (n count : ℕ) (d : Run) (lt : count < length runs) (rest : cell_by runs n ≡ cell_by (drop count runs) n) where
  abbrev here : Run
  here = get_or runs count d

  one : cell_by runs n ≡ cell_by (here ∷ drop (count + 1) runs) n
  one = rest ∙ ap (λ (rs : List Run). cell_by rs n) (drop-cons runs count d lt ∙ ap (λ (i : ℕ). here ∷ drop i runs) (sym (add-one count)))

  pub cell-there : (first : ℕ) → first ≡ here.first → first ≤ n → here.cell ≡ cell_by runs n
  cell-there first is le = sym (one ∙ cell_by-first here (drop (count + 1) runs) n (omega (arith, is)))

  pub cell-behind : (first : ℕ) → first ≡ here.first → n < first → cell_by runs n ≡ cell_by (drop (count + 1) runs) n
  cell-behind first is lt = one ∙ cell_by-rest here (drop (count + 1) runs) n (omega (arith, is))

pub cell-none : (runs : List Run) (n count : ℕ) → length runs ≤ count → cell_by runs n ≡ cell_by (drop count runs) n → cell_by runs n ≡ stone.Empty
cell-none runs n count all rest = rest ∙ ap (λ (rs : List Run). cell_by rs n) (drop_all count runs all)
