-- Changes that are made one after another, and then taken back.
use Rattle.std.proofs.Common.{◌≡◌, ◌≢◌, ℕ, ◌+◌, ◌<◌, ◌≤◌, suc, List, [], ◌∷◌, ◌++◌, length, set, All, refl, sym, ◌∙◌, ap, arith}
use Rattle.std.proofs.lemmas.List.{length-set, set-set, set_comm, set-get_or}
use Rattle.std.proofs.lemmas.List.Elements.{All-head, All-tail, All-weaker}
use Rattle.std.specs.Prelude.{AllPairs}
use Rattle.kb_geometry.specs.declared.stone.Cell.{Cell}
use Rattle.kb_geometry.specs.declared.stone.Cell.TheVariants as cell
use Rattle.kb_geometry.specs.declared.stone.Change.{Change}
use Rattle.kb_geometry.specs.Capture.{Position, cell_at}
use Rattle.capture_board.specs.Changes.{AreChangesOf, with_changes}
use Rattle.capture_board.specs.StoredWalking.{with_old_cells}

-- ---- pairs of a list

pub AllPairs-tail : {X : Type 0} (R : X → X → Type 0) (x : X) (xs : List X) → AllPairs R (x ∷ xs) → AllPairs R xs
AllPairs-tail R x xs pairs = λ i j d low high. pairs (suc i) (suc j) d (omega arith) (omega arith)

pub AllPairs-head : {X : Type 0} (R : X → X → Type 0) (x : X) (xs : List X) → AllPairs R (x ∷ xs) → All (R x) xs
AllPairs-head R x xs pairs = λ k d h. pairs 0 (suc k) d (omega arith) (omega arith)

-- ---- changes that are made

pub with_changes-append : (position : Position) (cs ds : List Change) → with_changes position (cs ++ ds) ≡ with_changes (with_changes position cs) ds
with_changes-append position [] ds = refl
with_changes-append position (c ∷ cs) ds = with_changes-append (set position c.point c.new) cs ds

pub length-with_changes : (position : Position) (cs : List Change) → length (with_changes position cs) ≡ length position
length-with_changes position [] = refl
length-with_changes position (c ∷ cs) = length-with_changes (set position c.point c.new) cs ∙ length-set position c.point c.new

-- a point that no change is on can be set before or after them
pub with_changes-set : (position : Position) (p : ℕ) (x : Cell) (cs : List Change) → All (λ (c : Change). c.point ≢ p) cs → with_changes (set position p x) cs ≡ set (with_changes position cs) p x
with_changes-set position p x [] apart = refl
with_changes-set position p x (c ∷ cs) apart =
    let ne : c.point ≢ p = All-head (λ (d : Change). d.point ≢ p) c cs apart in
    ap (λ q. with_changes q cs) (set_comm position p c.point x c.new (λ e. ne (sym e)))
    ∙ with_changes-set (set position c.point c.new) p x cs (All-tail (λ (d : Change). d.point ≢ p) c cs apart)

-- ---- changes that are taken back

pub with_old_cells-append : (position : Position) (cs ds : List Change) → with_old_cells position (cs ++ ds) ≡ with_old_cells (with_old_cells position cs) ds
with_old_cells-append position [] ds = refl
with_old_cells-append position (c ∷ cs) ds = with_old_cells-append (set position c.point c.old) cs ds

later_apart : (c : Change) (cs : List Change) → AllPairs (λ (a b : Change). a.point < b.point) (c ∷ cs) → All (λ (d : Change). d.point ≢ c.point) cs
later_apart c cs ascending =
    All-weaker (λ (d : Change). c.point < d.point) (λ (d : Change). d.point ≢ c.point) (λ d h e. omega arith) cs
    (AllPairs-head (λ (a b : Change). a.point < b.point) c cs ascending)

taken_back : (before : Position) (cs : List Change) → AllPairs (λ (a b : Change). a.point < b.point) cs → All (λ (c : Change). c.old ≡ cell_at before c.point) cs → with_old_cells (with_changes before cs) cs ≡ before
taken_back before [] ascending old = refl
taken_back before (c ∷ cs) ascending old =
    let same : c.old ≡ cell_at before c.point = All-head (λ (d : Change). d.old ≡ cell_at before d.point) c cs old in
    let back : set (set before c.point c.new) c.point c.old ≡ before =
    set-set before c.point c.new c.old ∙ ap (set before c.point) same ∙ set-get_or before c.point cell.Empty in
    ap (λ q. with_old_cells q cs) (sym (with_changes-set (set before c.point c.new) c.point c.old cs (later_apart c cs ascending)) ∙ ap (λ q. with_changes q cs) back)
    ∙ taken_back before cs (AllPairs-tail (λ (a b : Change). a.point < b.point) c cs ascending) (All-tail (λ (d : Change). d.old ≡ cell_at before d.point) c cs old)

-- taking changes back gives the position from before them
pub with_old_cells-back : (before : Position) (cs : List Change) → AreChangesOf before cs → with_old_cells (with_changes before cs) cs ≡ before
with_old_cells-back before cs changes = taken_back before cs changes.ascending changes.old

-- ---- how many changes there can be

ascending-count : (low most : ℕ) (cs : List Change) → low ≤ most → All (λ (c : Change). low ≤ c.point) cs → All (λ (c : Change). c.point < most) cs → AllPairs (λ (a b : Change). a.point < b.point) cs → length cs + low ≤ most
ascending-count low most [] h from below ascending = omega arith
ascending-count low most (c ∷ cs) h from below ascending =
    let here : c.point < most = All-head (λ (d : Change). d.point < most) c cs below in
    let start : low ≤ c.point = All-head (λ (d : Change). low ≤ d.point) c cs from in
    let rest = ascending-count (c.point + 1) most cs (omega arith)
    (All-weaker (λ (d : Change). c.point < d.point) (λ (d : Change). c.point + 1 ≤ d.point) (λ d l. omega arith) cs (AllPairs-head (λ (a b : Change). a.point < b.point) c cs ascending))
    (All-tail (λ (d : Change). d.point < most) c cs below)
    (AllPairs-tail (λ (a b : Change). a.point < b.point) c cs ascending) in
    omega (arith, rest)

-- a position has at most as many changes as points
pub AreChangesOf-count : (before : Position) (cs : List Change) → AreChangesOf before cs → length cs ≤ length before
AreChangesOf-count before cs changes =
    let count = ascending-count 0 (length before) cs (omega arith) (λ k d h. omega arith) changes.on_board changes.ascending in
    omega (arith, count)
