-- Positions that are made on the runs, from a node on.
use Rattle.std.proofs.Common.{◌≡◌, ℕ, ◌<◌, ◌≤◌, List, [], ◌∷◌, length, get_or, set, map, All, refl, sym, ◌∙◌, ap, subst, arith}
use Rattle.std.proofs.Math.Seq.{map-set_same}
use Rattle.std.proofs.lemmas.List.{map-set, get_or-map, get_or_read, length-map}
use Rattle.std.proofs.lemmas.List.Elements.{All-head, All-tail, All-set}
use Rattle.kb_geometry.specs.declared.stone.Cell.{Cell}
use Rattle.capture_index.specs.declared.growing.Link.{Link}
use Rattle.capture_index.specs.declared.run.Run.{Run}
use Rattle.capture_index.specs.Building.{IsMade, IsPut}
use Rattle.capture_index.specs.Links.{AreLinked, runs_from}
use Rattle.capture_index.specs.Runs.{BeginBy, BeginsBy, cell_by, position_by, runs_at}
use Rattle.capture_index.proofs.Cells.{IsPut-more, IsPut-same}

-- the runs of one point are others
pub IsMade-put : (node : ℕ) (cell : Cell) (p : ℕ) (runs : List (List Run)) (rs : List Run) → BeginBy node runs → IsPut node cell (runs_at runs p) rs → IsMade node (set (position_by runs node) p cell) runs (set runs p rs)
IsMade-put node cell p runs rs begun put = record {
  past = λ k lt. map-set_same (λ (xs : List Run). cell_by xs k) runs p rs [] (put.past k lt);
  now = map-set (λ (xs : List Run). cell_by xs node) runs p rs ∙ ap (set (position_by runs node) p) (put.now node (omega arith));
  begun = All-set (BeginsBy node) runs p rs put.begun begun;
}

map-kept : (f g : ℕ → List Run) (most : ℕ) (ats : List ℕ) → All (λ (at : ℕ). at ≤ most) ats → ((at : ℕ) → at ≤ most → f at ≡ g at) → map f ats ≡ map g ats
map-kept f g most [] within same = refl
map-kept f g most (a ∷ more) within same =
    ap (λ (rs : List Run). rs ∷ map f more) (same a (All-head (λ (at : ℕ). at ≤ most) a more within))
    ∙ ap (λ (xs : List (List Run)). g a ∷ xs) (map-kept f g most more (All-tail (λ (at : ℕ). at ≤ most) a more within) same)

-- a number that was read from a list
pub number-read : (xs : List ℕ) (i p x : ℕ) → i ≡ p → p < length xs → x ≡ get_or xs i x → x ≡ get_or xs p 0
number-read xs i p x e lt read = get_or_read xs p x lt (read ∙ ap (λ (n : ℕ). get_or xs n x) e) 0

-- ---- by links
module _ (node : ℕ) (cell : Cell) (p : ℕ) (links : List Link) (last : List ℕ) (linked : AreLinked links last) (runs : List (List Run)) (view : map (runs_from links) last ≡ runs) (begun : BeginBy node runs) (in_range : p < length runs) (first : ℕ) (read : first ≡ get_or last p 0) where
  -- the runs of the point
  of_point : runs_from links first ≡ runs_at runs p
  of_point =
      ap (runs_from links) read
      ∙ sym (get_or-map (runs_from links) last p 0 [] (omega (arith, length-map last (runs_from links), ap length view)))
      ∙ ap (λ (xs : List (List Run)). get_or xs p []) view

  begun-first : BeginsBy node (runs_from links first)
  begun-first = subst (BeginsBy node) (sym of_point) (begun p [] in_range)

  put-links : (more : List Link) (i next : ℕ) → i ≡ p → ((a : ℕ) → a ≤ length links → runs_from more a ≡ runs_from links a) → IsPut node cell (runs_at runs p) (runs_from more next) → IsMade node (set (position_by runs node) p cell) runs (map (runs_from more) (set last i next))
  put-links more i next e kept put =
      subst (λ (xs : List (List Run)). IsMade node (set (position_by runs node) p cell) runs xs)
      (sym (ap (λ (n : ℕ). map (runs_from more) (set last n next)) e
      ∙ map-set (runs_from more) last p next
      ∙ ap (λ (xs : List (List Run)). set xs p (runs_from more next)) (map-kept (runs_from more) (runs_from links) (length links) last linked.within kept ∙ view)))
      (IsMade-put node cell p runs (runs_from more next) begun put)

  module _ (at : ℕ) (past : (k : ℕ) → k < node → cell_by (runs_from links at) k ≡ cell_by (runs_from links first) k) (passes : BeginsBy node (runs_from links first) → BeginsBy node (runs_from links at)) where
    past-point : (k : ℕ) → k < node → cell_by (runs_from links at) k ≡ cell_by (runs_at runs p) k
    past-point k lt = past k lt ∙ ap (λ (rs : List Run). cell_by rs k) of_point

    -- the cell was there already
    pub put-same : (i : ℕ) → i ≡ p → (there : Cell) → ((n k : ℕ) → BeginsBy n (runs_from links at) → n ≤ k → cell_by (runs_from links at) k ≡ there) → there ≡ cell → IsMade node (set (position_by runs node) p cell) runs (map (runs_from links) (set last i at))
    put-same i e there now same =
        put-links links i at e (λ a h. refl)
        (IsPut-same node cell (runs_at runs p) (runs_from links at) past-point (passes begun-first) (λ k le. now node k (passes begun-first) le ∙ same))

    -- a link more
    pub put-more : (more : List Link) (i next : ℕ) → i ≡ p → ((a : ℕ) → a ≤ length links → runs_from more a ≡ runs_from links a) → runs_from more next ≡ record { first = node; cell = cell } ∷ runs_from links at → IsMade node (set (position_by runs node) p cell) runs (map (runs_from more) (set last i next))
    put-more more i next e kept one =
        put-links more i next e kept
        (subst (λ (rs : List Run). IsPut node cell (runs_at runs p) rs) (sym one)
        (IsPut-more node cell (runs_at runs p) (runs_from links at) past-point (passes begun-first)))
