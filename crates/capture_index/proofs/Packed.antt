-- Runs that are packed as words and lists.
use Prim.Native.Nat.{zero}
use Rattle.std.proofs.Common.{◌≡◌, ◌≢◌, ℕ, ◌+◌, ◌-◌, ◌<◌, ◌≤◌, suc, Bool, false, cond, eqb, List, [], ◌∷◌, ◌++◌, length, get_or, set, replicate, take, drop, refl, sym, ◌∙◌, ap, subst, arith, inl, inr}
use Rattle.std.proofs.lemmas.Bool.{cases_lt, false_from_ne_true, false≢true, eqb-true}
use Rattle.std.proofs.lemmas.List.{length-append, length-drop, length_push, get_or_append_left, get_or_push, drop-append-le, take-append-le, drop_at, take_all, get_or-map, get_or-set_other, length-replicate, length-set}
use Rattle.std.proofs.lemmas.Grind.{get_or-set_at}
use Rattle.std.proofs.lemmas.List.Elements.{All-replicate, All-set, All-weaker}
use Rattle.kb_geometry.specs.Board.{point_count}
use Rattle.kb_geometry.specs.Capture.{Position, cell_at}
use Rattle.capture_board.specs.Deltas.{AreDeltas, Deltas, node_count}
use Rattle.capture_index.specs.declared.packed_runs.PackedRuns.{PackedRuns}
use Rattle.capture_index.specs.Branches.{AreBranchesTo}
use Rattle.capture_index.specs.Building.{AreBuilt}
use Rattle.capture_index.specs.Finding.{IsRunIndexOf, no_time}
use Rattle.std.specs.Prelude.{All, IfSome, None, Option, Some, slice_range}
use Rattle.kb_geometry.specs.declared.stone.Cell.TheVariants as stone
use Rattle.capture_index.specs.declared.run.Run.{Run}
use Rattle.capture_index.specs.declared.time.PackedTime.{PackedTime}
use Rattle.capture_index.specs.declared.time.Time.{Time}
use Rattle.capture_index.specs.declared.time.Time.TheVariants as time
use Rattle.capture_index.specs.declared.growing.Few.{Few}
use Rattle.capture_index.specs.declared.growing.Few.TheVariants as few
use Rattle.capture_index.specs.Packing.{AreFew, IsPacked, IsTimeOfFew, IsTimeOfRun}
use Rattle.capture_index.specs.Times.{is_many, told_by}
use Rattle.capture_index.proofs.Times.{one-told}
use Rattle.capture_index.specs.Runs.{cell_by, runs_at}
use Rattle.capture_index.specs.Lists.{AreLists, IsWord, list_in, list_start, one_run, runs_of, runs_told}

-- where a list begins that isn't the first
start-later : (ends : List ℕ) (k : ℕ) → k ≢ 0 → list_start ends k ≡ get_or ends (k - 1) 0
start-later ends k ne = ap (λ (b : Bool). cond b 0 (get_or ends (k - 1) 0)) (false_from_ne_true (eqb k 0) (λ t. ne (eqb-true k 0 t)))

start-kept : (ends : List ℕ) (e k : ℕ) → k ≤ length ends → list_start (ends ++ e ∷ []) k ≡ list_start ends k
start-kept ends e zero le = refl
start-kept ends e (suc k) le =
    let back : suc k - 1 ≡ k = omega arith in
    start-later (ends ++ e ∷ []) (suc k) (λ z. absurd (omega arith))
    ∙ get_or_append_left ends (e ∷ []) 0 (suc k - 1) (omega arith)
    ∙ sym (start-later ends (suc k) (λ z. absurd (omega arith)))

range-kept : (runs more : List Run) (a b : ℕ) → a ≤ b → b ≤ length runs → slice_range (runs ++ more) a b ≡ slice_range runs a b
range-kept runs more a b le lt =
    ap (take (b - a)) (drop-append-le a runs more (omega arith)) ∙ take-append-le (b - a) (drop a runs) more (omega (arith, length-drop a runs))

range-last : (runs more : List Run) → slice_range (runs ++ more) (length runs) (length (runs ++ more)) ≡ more
range-last runs more =
    let len = length-append runs more in
    ap (take (length (runs ++ more) - length runs)) (drop_at runs more (length runs) refl) ∙ take_all (length (runs ++ more) - length runs) more (omega (arith, len))

-- ---- a word alone
pub IsPacked-one : (point runs : List Run) (ends : List ℕ) (t : Time) (packed : PackedTime) → AreLists ends runs → told_by packed ≡ t → is_many t ≡ false → one_run t ≡ point → IsPacked point ends runs ends runs packed
IsPacked-one point runs ends t packed lists told few one = record {
  lists = lists;
  more = omega arith;
  kept = λ k lt. refl;
  word = λ list is. absurd (false≢true (sym few ∙ ap is_many (sym told ∙ is)));
  tells = ap (runs_told ends runs) told ∙ sym (one-told ends runs t few) ∙ one;
}

pub few-never : (f : Few) → f ≡ few.Never → IsTimeOfFew f time.Never
few-never f is = record { fits = tt; one = refl; tells = λ runs are. sym (subst (AreFew runs) is are) }

pub few-once : (f : Few) (run : Run) → f ≡ few.Once run → (result : Option Time) → IfSome result (IsTimeOfRun run) → IfSome result (IsTimeOfFew f)
few-once f run is None told = told
few-once f run is (Some t) told = record { fits = told.fits; one = told.one; tells = λ runs are. told.tells ∙ sym (subst (AreFew runs) is are) }

-- the number of a list
abbrev list_number : Time → ℕ
list_number (time.First node stone) = 0
list_number (time.Many list) = list
list_number time.Never = 0

-- ---- a list more
module _ (ends : List ℕ) (runs : List Run) (lists : AreLists ends runs) (point after : List Run) (pushed : after ≡ runs ++ point) where
  abbrev ends_after : List ℕ
  ends_after = ends ++ length after ∷ []

  kept-list : (k : ℕ) → k < length ends → list_in ends_after after k ≡ list_in ends runs k
  kept-list k lt =
      let each = lists.each k lt in
      ap (λ (a : ℕ). slice_range after a (get_or ends_after k 0)) (start-kept ends (length after) k (omega arith))
      ∙ ap (λ (b : ℕ). slice_range after (list_start ends k) b) (get_or_append_left ends (length after ∷ []) 0 k lt)
      ∙ ap (λ (rs : List Run). slice_range rs (list_start ends k) (get_or ends k 0)) pushed
      ∙ range-kept runs point (list_start ends k) (get_or ends k 0) each.0 each.1

  last-list : list_in ends_after after (length ends) ≡ point
  last-list =
      ap (λ (a : ℕ). slice_range after a (get_or ends_after (length ends) 0)) (start-kept ends (length after) (length ends) (omega arith) ∙ lists.whole)
      ∙ ap (slice_range after (length runs)) (get_or_push ends (length after) 0 (length ends) refl)
      ∙ ap (λ (rs : List Run). slice_range rs (length runs) (length rs)) pushed
      ∙ range-last runs point

  longer : length runs ≤ length after
  longer = omega (arith, ap length pushed, length-append runs point)

  each-after : (k : ℕ) → k < length ends_after → (list_start ends_after k ≤ get_or ends_after k 0) × (get_or ends_after k 0 ≤ length after)
  each-after k lt =
      elim (cases_lt k (length ends)) [
        | inl before ↦
            let each = lists.each k before in
            let s = start-kept ends (length after) k (omega arith) in
            let g = get_or_append_left ends (length after ∷ []) 0 k before in
            (omega (arith, each.0, s, g), omega (arith, each.1, g, longer))
        | inr last ↦
            let here : length ends ≡ k = omega (arith, length_push ends (length after)) in
            let g = get_or_push ends (length after) 0 k here in
            let s = start-kept ends (length after) k (omega arith) ∙ ap (list_start ends) (sym here) ∙ lists.whole in
            (omega (arith, s, g, longer), omega (arith, g))
      ]

  whole-after : list_start ends_after (length ends_after) ≡ length after
  whole-after =
      let len = length_push ends (length after) in
      let back : length ends_after - 1 ≡ length ends = omega (arith, len) in
      start-later ends_after (length ends_after) (λ z. absurd (omega (arith, len)))
      ∙ ap (λ (i : ℕ). get_or ends_after i 0) back
      ∙ get_or_push ends (length after) 0 (length ends) refl

  pub IsPacked-list : (packed : PackedTime) → told_by packed ≡ time.Many (length ends) → IsPacked point ends runs ends_after after packed
  IsPacked-list packed told = record {
    lists = record { each = each-after; whole = whole-after };
    more = omega (arith, length_push ends (length after));
    kept = kept-list;
    word = λ list is. let e : length ends ≡ list = ap list_number (sym told ∙ is) in omega (arith, e, length_push ends (length after));
    tells = ap (runs_told ends_after after) told ∙ last-list;
  }

-- ---- points that were packed before
pub IsWord-more : (ends more : List ℕ) (packed : PackedTime) → length ends ≤ length more → IsWord ends packed → IsWord more packed
IsWord-more ends more packed le word list is = omega (arith, le, word list is)

runs-kept : (ends grown : List ℕ) (runs runs_after : List Run) (t : Time) → ((k : ℕ) → k < length ends → list_in grown runs_after k ≡ list_in ends runs k) → ((list : ℕ) → t ≡ time.Many list → list < length ends) → runs_told grown runs_after t ≡ runs_told ends runs t
runs-kept ends grown runs runs_after (time.First node stone) kept word = refl
runs-kept ends grown runs runs_after (time.Many list) kept word = kept list (word list refl)
runs-kept ends grown runs runs_after time.Never kept word = refl

-- ---- the first so many points of all
pub record ArePacked (points : List (List Run)) (all count : ℕ) (times : List PackedTime) (ends : List ℕ) (runs : List Run) : Type 0 where
  pub lists : AreLists ends runs
  pub counted : length times ≡ all
  pub words : All (IsWord ends) times
  pub tell : (p : ℕ) (d : PackedTime) → p < count → runs_of ends runs (get_or times p d) ≡ runs_at points p

pub ArePacked-none : (points : List (List Run)) (all : ℕ) (never : PackedTime) (times : List PackedTime) (ends : List ℕ) (runs : List Run) → told_by never ≡ time.Never → times ≡ replicate all never → ends ≡ [] → runs ≡ [] → ArePacked points all 0 times ends runs
ArePacked-none points all never times ends runs told e f g = record {
  lists = record {
    each = λ k lt. absurd (omega (arith, lt, ap length f));
    whole = ap (λ (es : List ℕ). list_start es (length es)) f ∙ sym (ap length g);
  };
  counted = ap length e ∙ length-replicate all never;
  words = subst (All (IsWord ends)) (sym e) (All-replicate (IsWord ends) all never (λ list is. absurd (false≢true (ap is_many (sym told ∙ is)))));
  tell = λ p d lt. absurd (omega (arith, lt));
}

pub ArePacked-more : (points : List (List Run)) (all count : ℕ) (times times_after : List PackedTime) (ends ends_after : List ℕ) (runs runs_after : List Run) (packed : PackedTime) → count < all → ArePacked points all count times ends runs → IsPacked (runs_at points count) ends runs ends_after runs_after packed →
    times_after ≡ set times count packed → ArePacked points all (count + 1) times_after ends_after runs_after
ArePacked-more points all count times times_after ends ends_after runs runs_after packed within before is noted = record {
  lists = is.lists;
  counted = ap length noted ∙ length-set times count packed ∙ before.counted;
  words = subst (All (IsWord ends_after)) (sym noted) (All-set (IsWord ends_after) times count packed is.word (All-weaker (IsWord ends) (IsWord ends_after) (λ t w. IsWord-more ends ends_after t is.more w) times before.words));
  tell = λ p d lt. ap (λ (ts : List PackedTime). runs_of ends_after runs_after (get_or ts p d)) noted ∙ elim (cases_lt p count) [
    | inl old ↦
        ap (runs_of ends_after runs_after) (get_or-set_other times count p packed d (λ same. absurd (omega (arith, old, same))))
        ∙ runs-kept ends ends_after runs runs_after (told_by (get_or times p d)) is.kept (before.words p d (omega (arith, before.counted)))
        ∙ before.tell p d old
    | inr last ↦
        let here : p ≡ count = omega arith in
        ap (runs_of ends_after runs_after) (get_or-set_at times count p packed d here (omega (arith, before.counted)))
        ∙ is.tells
        ∙ ap (runs_at points) (sym here)
  ];
}

-- the same lists, with other names for what they hold
pub ArePacked-as : (points : List (List Run)) (all count count_after : ℕ) (times : List PackedTime) (ends ends_after : List ℕ) (runs runs_after : List Run) → count ≡ count_after → ends_after ≡ ends → runs_after ≡ runs → ArePacked points all count times ends runs → ArePacked points all count_after times ends_after runs_after
ArePacked-as points all count count_after times ends ends_after runs runs_after f g h packed =
    subst (λ (rs : List Run). ArePacked points all count_after times ends_after rs) (sym h)
    (subst (λ (es : List ℕ). ArePacked points all count_after times es runs) (sym g)
    (subst (λ (c : ℕ). ArePacked points all c times ends runs) f packed))

-- ---- the whole index
pub IsRunIndexOf-packed : (deltas : Deltas) (are : AreDeltas deltas) (index : PackedRuns) (points : List (List Run)) (all : ℕ) → AreBuilt deltas (node_count deltas) points → index.shape ≡ deltas.shape → index.nodes ≡ node_count deltas → AreBranchesTo deltas (node_count deltas) index.branches.items → ArePacked points all (point_count deltas.shape) index.times.items index.ends.items index.runs.items → IsRunIndexOf deltas index
IsRunIndexOf-packed deltas are index points all built same nodes branches packed = record {
  are = are;
  branches = branches;
  shape = same;
  nodes = nodes;
  cells = λ p n lt ln.
      ap (λ (rs : List Run). cell_by rs n) (packed.tell p no_time lt)
      ∙ sym (get_or-map (λ (rs : List Run). cell_by rs n) points p [] stone.Empty (omega (arith, built.count)))
      ∙ ap (λ (q : Position). cell_at q p) (built.past n ln);
}
