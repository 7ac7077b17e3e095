-- Runs that are linked: a link more leaves those that were there.
use Prim.Native.Nat.{zero}
use Rattle.std.proofs.Common.{◌≡◌, ◌≢◌, ℕ, ◌-◌, ◌<◌, ◌≤◌, suc, List, [], ◌∷◌, ◌++◌, length, get_or, map, refl, sym, ◌∙◌, ap, subst, arith, inl, inr, replicate, append_assoc}
use Rattle.std.proofs.lemmas.Bool.{cases_lt}
use Rattle.std.proofs.lemmas.List.{get_or_append_left, get_or_push, length_push, get_or_read, get_or-map, length-map}
use Rattle.std.proofs.lemmas.List.Elements.{All-head, All-tail}
use Rattle.kb_geometry.specs.declared.stone.Cell.TheVariants as stone
use Rattle.capture_index.specs.declared.growing.Link.{Link}
use Rattle.capture_index.specs.declared.run.Run.{Run}
use Rattle.capture_index.specs.Links.{AreLinks, link_in, run_of, runs_from, runs_within}
use Rattle.capture_index.specs.Runs.{BeginsBy, cell_by}
use Rattle.capture_index.proofs.Cells.{cell_by-first, cell_by-rest}

runs_within-zero : (links : List Link) (most : ℕ) → runs_within links most 0 ≡ []
runs_within-zero links zero = refl
runs_within-zero links (suc most) = refl

-- two lists of links that agree below a number, with room for all links
pub runs-same : (t u : List Link) (count : ℕ) → AreLinks t → count ≤ length t → ((i : ℕ) → i < count → link_in t i ≡ link_in u i) → (a b at : ℕ) → at ≤ count → at ≤ a → at ≤ b → runs_within t a at ≡ runs_within u b at
runs-same t u count links within agree a b zero h la lb = runs_within-zero t a ∙ sym (runs_within-zero u b)
runs-same t u count links within agree zero b (suc i) h la lb = absurd (omega arith)
runs-same t u count links within agree (suc a) zero (suc i) h la lb = absurd (omega arith)
runs-same t u count links within agree (suc a) (suc b) (suc i) h la lb =
    let back : (link_in t i).before ≤ i = links i (omega arith) in
    ap (λ (l : Link). run_of l ∷ runs_within t a (link_in t i).before) (agree i (omega arith))
    ∙ ap (λ (rs : List Run). run_of (link_in u i) ∷ rs)
    (runs-same t u count links within agree a b (link_in t i).before (omega arith) (omega arith) (omega arith)
    ∙ ap (λ (l : Link). runs_within u b l.before) (agree i (omega arith)))

-- a link, and the runs before it
pub runs_from-step : (links : List Link) → AreLinks links → (at : ℕ) → at ≢ 0 → at ≤ length links → runs_from links at ≡ run_of (link_in links (at - 1)) ∷ runs_from links (link_in links (at - 1)).before
runs_from-step links are zero ne h = absurd (ne refl)
runs_from-step links are (suc i) ne h =
    let e : suc i - 1 ≡ i = omega arith in
    let back : (link_in links i).before ≤ i = are i (omega arith) in
    ap (λ (rs : List Run). run_of (link_in links i) ∷ rs) (runs-same links links (length links) are (omega arith) (λ k l. refl) i (link_in links i).before (link_in links i).before (omega arith) back (omega arith))
    ∙ ap (λ (n : ℕ). run_of (link_in links n) ∷ runs_from links (link_in links n).before) (sym e)

-- ---- a link that was read
module _ (links : List Link) (are : AreLinks links) (at : ℕ) (ne : at ≢ 0) (h : at ≤ length links) (link : Link) (read : link ≡ get_or links (at - 1) link) where
  link_is : link ≡ link_in links (at - 1)
  link_is = get_or_read links (at - 1) link (omega (arith, h)) read _

  pub link-step : runs_from links at ≡ run_of link ∷ runs_from links link.before
  link-step = runs_from-step links are at ne h ∙ ap (λ (l : Link). run_of l ∷ runs_from links l.before) (sym link_is)

  pub link-before : link.before < at
  link-before = let back = are (at - 1) (omega arith) in omega (arith, ap (λ (l : Link). l.before) link_is)

  pub passed-past : (node : ℕ) → link.first ≡ node → (k : ℕ) → k < node → cell_by (runs_from links link.before) k ≡ cell_by (runs_from links at) k
  passed-past node e k lt = sym (ap (λ (rs : List Run). cell_by rs k) link-step ∙ cell_by-rest (run_of link) (runs_from links link.before) k (omega arith))

  pub passed-begun : (node : ℕ) → BeginsBy node (runs_from links at) → BeginsBy node (runs_from links link.before)
  passed-begun node begun = All-tail (λ (r : Run). r.first ≤ node) (run_of link) (runs_from links link.before) (subst (BeginsBy node) link-step begun)

  pub cell_from-link : (node k : ℕ) → BeginsBy node (runs_from links at) → node ≤ k → cell_by (runs_from links at) k ≡ link.cell
  cell_from-link node k begun le =
      let first : link.first ≤ node = All-head (λ (r : Run). r.first ≤ node) (run_of link) (runs_from links link.before) (subst (BeginsBy node) link-step begun) in
      ap (λ (rs : List Run). cell_by rs k) link-step ∙ cell_by-first (run_of link) (runs_from links link.before) k (omega arith)

-- ---- a link more
module _ (links : List Link) (are : AreLinks links) (link : Link) (before_is : link.before ≤ length links) where
  agree : (i : ℕ) → i < length links → link_in links i ≡ link_in (links ++ link ∷ []) i
  agree i lt = sym (get_or_append_left links (link ∷ []) _ i lt)

  pub kept-more : (at : ℕ) → at ≤ length links → runs_from (links ++ link ∷ []) at ≡ runs_from links at
  kept-more at h = sym (runs-same links (links ++ link ∷ []) (length links) are (omega arith) agree at at at h (omega arith) (omega arith))

  pub AreLinks-more : AreLinks (links ++ link ∷ [])
  AreLinks-more i lt =
      elim (cases_lt i (length links)) [
        | inl below ↦ let back = are i below in omega (arith, ap (λ (l : Link). l.before) (agree i below))
        | inr last ↦
            let here : length links ≡ i = omega (arith, length_push links link) in
            omega (arith, ap (λ (l : Link). l.before) (get_or_push links link (record { before = 0; first = 0; cell = stone.Empty }) i here))
      ]

  pub runs-more : runs_from (links ++ link ∷ []) (length (links ++ link ∷ [])) ≡ run_of link ∷ runs_from links link.before
  runs-more =
      let len = length_push links link in
      let e : length (links ++ link ∷ []) - 1 ≡ length links = omega (arith, len) in
      runs_from-step (links ++ link ∷ []) AreLinks-more (length (links ++ link ∷ [])) (λ z. absurd (omega (arith, len))) (omega arith)
      ∙ ap (λ (n : ℕ). run_of (link_in (links ++ link ∷ []) n) ∷ runs_from (links ++ link ∷ []) (link_in (links ++ link ∷ []) n).before) e
      ∙ ap (λ (l : Link). run_of l ∷ runs_from (links ++ link ∷ []) l.before) (get_or_push links link _ (length links) refl)
      ∙ ap (λ (rs : List Run). run_of link ∷ rs) (kept-more link.before before_is)

-- ---- the runs of a point
pub point_runs : (links : List Link) (last : List ℕ) (runs : List (List Run)) → map (runs_from links) last ≡ runs → (p i first : ℕ) → i ≡ p → p < length runs → first ≡ get_or last i first → runs_from links first ≡ get_or runs p []
point_runs links last runs view p i first e lt read =
    let within : p < length last = omega (arith, length-map last (runs_from links), ap length view) in
    ap (runs_from links) (get_or_read last p first within (read ∙ ap (λ (n : ℕ). get_or last n first) e) 0)
    ∙ sym (get_or-map (runs_from links) last p 0 [] within)
    ∙ ap (λ (xs : List (List Run)). get_or xs p []) view

pub map-empty : (links : List Link) (n : ℕ) → map (runs_from links) (replicate n 0) ≡ replicate n []
map-empty links zero = refl
map-empty links (suc n) = ap (λ (xs : List (List Run)). [] ∷ xs) (map-empty links n)

-- a run is added, and the one before it is next
pub pushed-more : (links : List Link) (at : ℕ) (link : Link) (runs pushed start : List Run) (rest : List Run) → runs_from links at ≡ run_of link ∷ runs_from links link.before → pushed ≡ runs ++ run_of link ∷ [] → runs ++ runs_from links at ≡ rest → pushed ++ runs_from links link.before ≡ rest
pushed-more links at link runs pushed start rest step push before =
    ap (λ (rs : List Run). rs ++ runs_from links link.before) push
    ∙ append_assoc runs (run_of link ∷ []) (runs_from links link.before)
    ∙ ap (λ (rs : List Run). runs ++ rs) (sym step)
    ∙ before
