-- Nodes that are narrowed and cut by one want after another.
use Rattle.kb_geometry.specs.declared.stone.Cell.TheVariants as stone
use Prim.Native.Nat.{min}
use Rattle.std.proofs.Common.{◌≡◌, ℕ, ◌+◌, ◌-◌, ◌<◌, ◌≤◌, ◌↔◌, ◌⊎◌, Bool, true, false, List, [], ◌∷◌, ◌++◌, length, get_or, refl, sym, ◌∙◌, ap, subst, arith, inl, inr, below_more}
use Rattle.std.proofs.Math.Nat.{min-le_left, min-le_right}
use Rattle.std.proofs.lemmas.Bool.{cases_Bool, cases_lt, false≢true}
use Rattle.std.proofs.lemmas.List.{get_or_read}
use Rattle.kb_geometry.specs.Board.{point_count}
use Rattle.kb_geometry.specs.declared.stone.Cell.{Cell}
use Rattle.kb_geometry.specs.Capture.{stone_of}
use Rattle.kb_geometry.specs.declared.stone.Colour.{Colour}
use Rattle.std.specs.Prelude.{IfNone, IfSome, IsTrue, None, Option, Some, slice_index_or}
use Rattle.capture_index.specs.declared.by_lists.Hull.{Hull}
use Rattle.capture_index.specs.declared.by_words.Left.{Left}
use Rattle.capture_index.specs.declared.by_words.Listed.{Listed}
use Rattle.capture_index.specs.declared.packed_runs.PackedRuns.{PackedRuns}
use Rattle.capture_index.specs.declared.run.Run.{Run}
use Rattle.capture_index.specs.declared.stretch.Stretch.{Stretch}
use Rattle.ready_images.specs.declared.want.Want.{Want}
use Rattle.capture_index.specs.declared.time.PackedTime.{PackedTime}
use Rattle.capture_index.specs.declared.time.Time.{Time}
use Rattle.capture_index.specs.declared.time.Time.TheVariants as time
use Rattle.capture_index.specs.Finding.{AreMet, IsCutAt, IsCutBy, IsMet, is_listed, packed_cell, time_at}
use Rattle.capture_index.specs.Hulls.{IsInHull, IsSmaller}
use Rattle.capture_index.specs.Lists.{IsWantedBy, one_run, runs_told, stone_run}
use Rattle.capture_index.specs.Narrowing.{AreListed, IsLeftBy, IsLeftByLists, IsNarrowed, IsOnSide}
use Rattle.capture_index.specs.Runs.{cell_by}
use Rattle.capture_index.specs.Seen.{StaysTo}
use Rattle.capture_index.specs.Stretches.{IsIn, IsWithin, is_wanted}
use Rattle.ready_images.specs.Wants.{no_want}
use Rattle.capture_index.specs.Times.{HasStoneAt, IsColourTold, is_many, told_by}
use Rattle.capture_index.proofs.CellsWanted.{IsOfEmpty, IsOfStone}
use Rattle.capture_index.proofs.Times.{empty-wanted, one-told, other-unwanted, run-before, run-from, stone-stays, stone-there, stone-unwanted, stone-wanted}

-- the word of a point that was read
pub time-read : (index : PackedRuns) (p i : ℕ) (packed : PackedTime) → i ≡ p → p < point_count index.shape → packed ≡ get_or index.times.items i packed → packed ≡ time_at index p
time-read index p i packed e lt read = get_or_read index.times.items p packed (omega (arith, index.points)) (read ∙ ap (λ (k : ℕ). get_or index.times.items k packed) e) _

-- the list of a point is there
pub list-there : (index : PackedRuns) (p list : ℕ) (packed : PackedTime) → packed ≡ time_at index p → p < point_count index.shape → time.Many list ≡ told_by packed → list < length index.ends.items
list-there index p list packed is lt told = index.words p _ (omega (arith, index.points, lt)) list (sym (told ∙ ap told_by is))

-- ---- the cells of a point
module _ (index : PackedRuns) (p : ℕ) (t : Time) (is : t ≡ told_by (time_at index p)) where
  -- which has one run at most
  pub cells-few : is_many t ≡ false → (n : ℕ) → cell_by (one_run t) n ≡ packed_cell index p n
  cells-few few n =
      ap (λ (rs : List Run). cell_by rs n) (one-told index.ends.items index.runs.items t few)
      ∙ ap (λ (u : Time). cell_by (runs_told index.ends.items index.runs.items u) n) is

  -- or any number of them
  pub cells-told : (n : ℕ) → cell_by (runs_told index.ends.items index.runs.items t) n ≡ packed_cell index p n
  cells-told n = ap (λ (u : Time). cell_by (runs_told index.ends.items index.runs.items u) n) is

  pub listed-told : is_listed index p ≡ is_many t
  listed-told = sym (ap is_many is)

pub StaysTo-as : (f g : ℕ → Cell) (nodes n next : ℕ) → ((k : ℕ) → f k ≡ g k) → StaysTo f nodes n next → StaysTo g nodes n next
StaysTo-as f g nodes n next same stays = record {
  more = stays.more;
  most = stays.most;
  stays = λ k from to. sym (same k) ∙ stays.stays k from to ∙ same n;
}

-- ---- one want and one point
module _ (index : PackedRuns) (base : ℕ) (want : Want) (runs : List Run) (same : (n : ℕ) → cell_by runs n ≡ packed_cell index (base + want.offset) n) where
  pub met-wanted : (n : ℕ) → IsWantedBy want runs n → IsMet index base want n
  met-wanted n w = sym (ap (is_wanted want) (same n)) ∙ w

  pub wanted-met : (n : ℕ) → IsMet index base want n → IsWantedBy want runs n
  wanted-met n met = ap (is_wanted want) (same n) ∙ met

-- ---- the nodes at which a point's one run has a wanted cell
pub wanted-side : (want : Want) (node : ℕ) (colour : Colour) (a b : Bool) → a ≡ is_wanted want stone.Empty → b ≡ is_wanted want (stone_of colour) → (n : ℕ) → IsOnSide node a b n ↔ IsWantedBy want (stone_run node colour ∷ []) n
wanted-side want node colour a b empty is n = elim (cases_lt n node) [
  | inl before ↦
      let same = ap (is_wanted want) (run-before node colour n before) ∙ sym empty in
      (λ side. same ∙ side.0 before, λ w. (λ lt. sym same ∙ w, λ le. absurd (omega (arith, before, le))))
  | inr from ↦
      let same = ap (is_wanted want) (run-from node colour n from) ∙ sym is in
      (λ side. same ∙ side.1 from, λ w. (λ lt. absurd (omega (arith, from, lt)), λ le. sym same ∙ w))
]

-- a point that is empty throughout
pub wanted-nowhere : (want : Want) (a : Bool) → a ≡ is_wanted want stone.Empty → (n : ℕ) → IsOnSide 0 a a n ↔ IsWantedBy want [] n
wanted-nowhere want a empty n = (λ side. sym empty ∙ side.1 (omega arith), λ w. (λ lt. empty ∙ w, λ le. empty ∙ w))

pub side-first : (want : Want) (t : Time) (node : ℕ) (colour : Colour) (m : ℕ) (c : Cell) (a b : Bool) → t ≡ time.First node colour → m ≡ node → c ≡ stone_of colour → a ≡ is_wanted want stone.Empty → b ≡ is_wanted want c → (n : ℕ) → IsOnSide m a b n ↔ IsWantedBy want (one_run t) n
side-first want t node colour m c a b is same cell empty allowed n =
    subst (λ (u : Time). IsOnSide m a b n ↔ IsWantedBy want (one_run u) n) (sym is)
    (subst (λ (j : ℕ). IsOnSide j a b n ↔ IsWantedBy want (stone_run node colour ∷ []) n) (sym same)
    (wanted-side want node colour a b empty (allowed ∙ ap (is_wanted want) cell) n))

pub side-none : (want : Want) (t : Time) (a : Bool) → a ≡ is_wanted want stone.Empty → one_run t ≡ [] → (n : ℕ) → IsOnSide 0 a a n ↔ IsWantedBy want (one_run t) n
side-none want t a empty none n = subst (λ (rs : List Run). IsOnSide 0 a a n ↔ IsWantedBy want rs n) (sym none) (wanted-nowhere want a empty n)

-- what is told of one kind of nodes, told of another one that is the same
module _ (nodes : Stretch) (P Q : ℕ → Type 0) (same : (n : ℕ) → P n ↔ Q n) where
  pub some-same : (result : Option Stretch) → IfSome result (IsNarrowed nodes P) → IfSome result (IsNarrowed nodes Q)
  some-same None narrowed = narrowed
  some-same (Some after) narrowed = λ n. (
    λ within. let both_of = (narrowed n).0 within in (both_of.0, (same n).0 both_of.1),
    λ both_of. (narrowed n).1 (both_of.0, (same n).1 both_of.1),
  )

  pub none-same : (result : Option Stretch) → IfNone result ((n : ℕ) → ¬ P n) → IfNone result ((n : ℕ) → IsWithin n nodes → ¬ Q n)
  none-same None none = λ n within q. none n ((same n).1 q)
  none-same (Some after) none = none

-- ---- by words
module _ (index : PackedRuns) (base : ℕ) (wants : List Want) where
  -- no want yet
  pub left-start : (left : Left) (count : ℕ) → left.nodes ≡ record { from = 0; to = index.nodes } → left.listed ≡ record { first = count; end = 0 } → IsLeftBy index base wants 0 left
  left-start left count all none = record {
    kept = λ n in_range met. subst (IsWithin n) (sym all) (omega arith, in_range);
    inside = λ n within. omega (arith, within.1, ap (λ (s : Stretch). s.to) all);
    words = λ n within k lt. absurd (omega arith);
    listed = λ k lt. absurd (omega arith);
    within = omega (arith, ap (λ (l : Listed). l.end) none);
  }

  -- which wants have lists, with one more
  module _ (i : ℕ) (before after : Listed) (so_far : AreListed index base wants i before) where
    pub listed-with : after.first ≡ min before.first i → after.end ≡ i + 1 → AreListed index base wants (i + 1) after
    listed-with first end k lt many = elim (cases_lt k i) [
      | inl less ↦ (omega (arith, (so_far k less many).0, first, min-le_left before.first i), omega (arith, less, end))
      | inr last ↦ (omega (arith, last, first, min-le_right before.first i), omega (arith, lt, end))
    ]

    pub listed-without : is_listed index (base + (slice_index_or wants i no_want).offset) ≡ false → after ≡ before → AreListed index base wants (i + 1) after
    listed-without few same k lt many = subst (λ (l : Listed). (l.first ≤ k) × (k < l.end)) (sym same) (elim (cases_lt k i) [
      | inl less ↦ so_far k less many
      | inr last ↦
          let here : i ≡ k = omega (arith, lt, last) in
          absurd (false≢true (sym few ∙ ap (λ (j : ℕ). is_listed index (base + (slice_index_or wants j no_want).offset)) here ∙ many))
    ])

  module _ (i : ℕ) (lt : i < length wants) where
    abbrev want : Want
    want = slice_index_or wants i no_want

    abbrev point : ℕ
    point = base + want.offset

    abbrev IsMetByWord : ℕ → ℕ → Type 0
    IsMetByWord n k = is_listed index (base + (slice_index_or wants k no_want).offset) ≡ false → IsMet index base (slice_index_or wants k no_want) n

    module _ (before : Left) (left : IsLeftBy index base wants i before) where
      -- a point with a list
      pub left-listed : (listed : Listed) → is_listed index point ≡ true → listed.first ≡ min before.listed.first i → listed.end ≡ i + 1 → IsLeftBy index base wants (i + 1) (record { nodes = before.nodes; listed = listed })
      left-listed listed many first end = record {
        kept = left.kept;
        inside = left.inside;
        words = λ n within. below_more (IsMetByWord n) i (left.words n within) (λ few. absurd (false≢true (sym few ∙ many)));
        listed = listed-with i before.listed listed left.listed first end;
        within = omega (arith, end);
      }

      -- a point with one run at most
      module _ (few : is_listed index point ≡ false) (runs : List Run) (same : (n : ℕ) → cell_by runs n ≡ packed_cell index point n) where
        pub left-narrowed : (after : Stretch) → IsNarrowed before.nodes (IsWantedBy want runs) after → IsLeftBy index base wants (i + 1) (record { nodes = after; listed = before.listed })
        left-narrowed after narrowed = record {
          kept = λ n in_range all. (narrowed n).1 (left.kept n in_range all, wanted-met index base want runs same n (all i lt));
          inside = λ n within. left.inside n ((narrowed n).0 within).0;
          words = λ n within. below_more (IsMetByWord n) i (left.words n ((narrowed n).0 within).0) (λ f. met-wanted index base want runs same n ((narrowed n).0 within).1);
          listed = listed-without i before.listed before.listed left.listed few refl;
          within = omega (arith, left.within);
        }

        pub left-none : ((n : ℕ) → IsWantedBy want runs n → ⊥) → (n : ℕ) → n < index.nodes → AreMet index base wants n → ⊥
        left-none none n in_range all = none n (wanted-met index base want runs same n (all i lt))

-- ---- the points that are to have a stone

-- What is told by so many wants of stones: where all wants are met each point has its stone, so far as
-- words tell, and where each has it all are met.
pub record AreStones (index : PackedRuns) (base : ℕ) (wants : List Want) (count : ℕ) (latest : PackedTime) (listed : Listed) : Type 0 where
  pub kept : (n : ℕ) → n < index.nodes → AreMet index base wants n → HasStoneAt (told_by latest) n
  pub words : (n : ℕ) → HasStoneAt (told_by latest) n → (k : ℕ) → k < count → is_listed index (base + (slice_index_or wants k no_want).offset) ≡ false → IsMet index base (slice_index_or wants k no_want) n
  pub stand : AreListed index base wants count listed
  pub within : listed.end ≤ count

module _ (index : PackedRuns) (base : ℕ) (wants : List Want) where
  pub stones-start : (latest : PackedTime) (first : ℕ) → ((n : ℕ) → HasStoneAt (told_by latest) n) → AreStones index base wants 0 latest (record { first = first; end = 0 })
  stones-start latest first root = record {
    kept = λ n in_range all. root n;
    words = λ n at k lt. absurd (omega arith);
    stand = λ k lt. absurd (omega arith);
    within = omega arith;
  }

  module _ (i : ℕ) (lt : i < length wants) where
    abbrev stone_want : Want
    stone_want = slice_index_or wants i no_want

    abbrev stone_point : ℕ
    stone_point = base + stone_want.offset

    module _ (latest : PackedTime) (listed : Listed) (so_far : AreStones index base wants i latest listed) where
      pub stones-listed : (later : Listed) → is_listed index stone_point ≡ true → later.first ≡ min listed.first i → later.end ≡ i + 1 → AreStones index base wants (i + 1) latest later
      stones-listed later many first end = record {
        kept = so_far.kept;
        words = λ n at k lt_k few. elim (cases_lt k i) [
          | inl less ↦ so_far.words n at k less few
          | inr last ↦
              let here : i ≡ k = omega (arith, lt_k, last) in
              absurd (false≢true (sym few ∙ ap (λ (j : ℕ). is_listed index (base + (slice_index_or wants j no_want).offset)) (sym here) ∙ many))
        ];
        stand = listed-with index base wants i listed later so_far.stand first end;
        within = omega (arith, end);
      }

      module _ (of_stone : IsOfStone stone_want) (time : PackedTime) (is : time ≡ time_at index stone_point) (few : is_many (told_by time) ≡ false) where
        stone_cells : (n : ℕ) → cell_by (one_run (told_by time)) n ≡ packed_cell index stone_point n
        stone_cells = cells-few index stone_point (told_by time) (ap told_by is) few

        pub stones-more : (later : PackedTime) → IsColourTold (is_wanted stone_want stone.White) true (told_by time) → ((n : ℕ) → HasStoneAt (told_by later) n ↔ (HasStoneAt (told_by latest) n × HasStoneAt (told_by time) n)) → AreStones index base wants (i + 1) later listed
        stones-more later told both = record {
          kept = λ n in_range all. (both n).1 (so_far.kept n in_range all, stone-there stone_want of_stone (told_by time) n (wanted-met index base stone_want (one_run (told_by time)) stone_cells n (all i lt)));
          words = λ n at k lt_k few_k. elim (cases_lt k i) [
            | inl less ↦ so_far.words n ((both n).0 at).0 k less few_k
            | inr last ↦
                let here : i ≡ k = omega (arith, lt_k, last) in
                subst (λ (j : ℕ). IsMet index base (slice_index_or wants j no_want) n) here (met-wanted index base stone_want (one_run (told_by time)) stone_cells n (stone-wanted stone_want of_stone (told_by time) told n ((both n).0 at).1))
          ];
          stand = listed-without index base wants i listed listed so_far.stand (listed-told index stone_point (told_by time) (ap told_by is) ∙ few) refl;
          within = omega (arith, so_far.within);
        }

        -- the stone has the other colour
        pub stones-none : IsColourTold (is_wanted stone_want stone.White) false (told_by time) → (n : ℕ) → n < index.nodes → AreMet index base wants n → ⊥
        stones-none told n in_range all = other-unwanted stone_want of_stone (told_by time) told n (wanted-met index base stone_want (one_run (told_by time)) stone_cells n (all i lt))

  pub stones-end : (count last : ℕ) (latest : PackedTime) (listed : Listed) (from to : ℕ) → AreStones index base wants count latest listed → count ≡ last → to ≡ index.nodes → ((n : ℕ) → n < index.nodes → (from ≤ n) ↔ HasStoneAt (told_by latest) n) →
      IsLeftBy index base wants last (record { nodes = record { from = from; to = to }; listed = listed })
  stones-end count last latest listed from to so_far all_of end begin = record {
    kept = λ n in_range all. ((begin n in_range).1 (so_far.kept n in_range all), omega (arith, in_range, end));
    inside = λ n within. omega (arith, within.1, end);
    words = λ n within k lt few. so_far.words n ((begin n (omega (arith, within.1, end))).0 within.0) k (omega (arith, lt, all_of)) few;
    listed = λ k lt. so_far.stand k (omega (arith, lt, all_of));
    within = omega (arith, so_far.within, all_of);
  }

-- ---- the points that are to be empty

-- What is told by so many wants, from one on each of an empty point: at the nodes at which all wants are
-- met no point has its stone, so far as words tell, and at those at which none has it all are met.
pub record AreEmptied (index : PackedRuns) (base : ℕ) (wants : List Want) (empties count : ℕ) (earliest : PackedTime) (listed : Listed) : Type 0 where
  pub kept : (n : ℕ) → n < index.nodes → AreMet index base wants n → ¬ HasStoneAt (told_by earliest) n
  pub words : (n : ℕ) → ¬ HasStoneAt (told_by earliest) n → (k : ℕ) → empties ≤ k → k < count → is_listed index (base + (slice_index_or wants k no_want).offset) ≡ false → IsMet index base (slice_index_or wants k no_want) n
  pub stand : AreListed index base wants count listed
  pub within : listed.end ≤ count

module _ (index : PackedRuns) (base : ℕ) (wants : List Want) (empties : ℕ) where
  pub emptied-start : (left : Left) (earliest : PackedTime) → IsLeftBy index base wants empties left → told_by earliest ≡ time.Never → AreEmptied index base wants empties empties earliest left.listed
  emptied-start left earliest start never = record {
    kept = λ n in_range all. subst (λ (t : Time). ¬ HasStoneAt t n) (sym never) (λ e. e);
    words = λ n none k from lt. absurd (omega (arith, from, lt));
    stand = start.listed;
    within = start.within;
  }

  module _ (i : ℕ) (from : empties ≤ i) (lt : i < length wants) where
    abbrev this : Want
    this = slice_index_or wants i no_want

    abbrev there : ℕ
    there = base + this.offset

    module _ (earliest : PackedTime) (listed : Listed) (so_far : AreEmptied index base wants empties i earliest listed) where
      pub emptied-listed : (later : Listed) → is_listed index there ≡ true → later.first ≡ min listed.first i → later.end ≡ i + 1 → AreEmptied index base wants empties (i + 1) earliest later
      emptied-listed later many first end = record {
        kept = so_far.kept;
        words = λ n none k from_k lt_k few. elim (cases_lt k i) [
          | inl less ↦ so_far.words n none k from_k less few
          | inr last ↦
              let here : i ≡ k = omega (arith, lt_k, last) in
              absurd (false≢true (sym few ∙ ap (λ (j : ℕ). is_listed index (base + (slice_index_or wants j no_want).offset)) (sym here) ∙ many))
        ];
        stand = listed-with index base wants i listed later so_far.stand first end;
        within = omega (arith, end);
      }

      module _ (of_empty : IsOfEmpty this) (time : PackedTime) (is : time ≡ time_at index there) (few : is_many (told_by time) ≡ false) where
        same : (n : ℕ) → cell_by (one_run (told_by time)) n ≡ packed_cell index there n
        same = cells-few index there (told_by time) (ap told_by is) few

        unmet : (n : ℕ) → HasStoneAt (told_by time) n → IsMet index base this n → ⊥
        unmet n at met = stone-unwanted this of_empty (told_by time) n at (wanted-met index base this (one_run (told_by time)) same n met)

        pub emptied-more : (later : PackedTime) → ((n : ℕ) → HasStoneAt (told_by later) n ↔ (HasStoneAt (told_by earliest) n ⊎ HasStoneAt (told_by time) n)) → AreEmptied index base wants empties (i + 1) later listed
        emptied-more later either = record {
          kept = λ n in_range all at. elim ((either n).0 at) [
            | inl old ↦ so_far.kept n in_range all old
            | inr new ↦ unmet n new (all i lt)
          ];
          words = λ n none k from_k lt_k few_k. elim (cases_lt k i) [
            | inl less ↦ so_far.words n (λ at. none ((either n).1 (inl at))) k from_k less few_k
            | inr last ↦
                let here : i ≡ k = omega (arith, lt_k, last) in
                subst (λ (j : ℕ). IsMet index base (slice_index_or wants j no_want) n) here (met-wanted index base this (one_run (told_by time)) same n (empty-wanted this of_empty (told_by time) n (λ at. none ((either n).1 (inr at)))))
          ];
          stand = listed-without index base wants i listed listed so_far.stand (listed-told index there (told_by time) (ap told_by is) ∙ few) refl;
          within = omega (arith, so_far.within);
        }

        -- the stone comes before all others are there
        pub emptied-none : (left : Left) → IsLeftBy index base wants empties left → HasStoneAt (told_by time) left.nodes.from → (n : ℕ) → n < index.nodes → AreMet index base wants n → ⊥
        emptied-none left start at n in_range all = unmet n (stone-stays (told_by time) left.nodes.from n (start.kept n in_range all).0 at) (all i lt)

  -- the stones and the points that are to be empty together
  pub emptied-end : (left : Left) (count : ℕ) (earliest : PackedTime) (listed : Listed) (to : ℕ) → IsLeftBy index base wants empties left → AreEmptied index base wants empties count earliest listed → count ≡ length wants →
      ((n : ℕ) → n < to ↔ ((n < left.nodes.to) × ¬ HasStoneAt (told_by earliest) n)) → IsLeftBy index base wants (length wants) (record { nodes = record { from = left.nodes.from; to = to }; listed = listed })
  emptied-end left count earliest listed to start so_far all_of before = record {
    kept = λ n in_range all. let old = start.kept n in_range all in (old.0, (before n).1 (old.1, so_far.kept n in_range all));
    inside = λ n within. start.inside n (within.0, ((before n).0 within.1).0);
    words = λ n within k lt few. let old = (before n).0 within.1 in elim (cases_lt k empties) [
      | inl stone ↦ start.words n (within.0, old.0) k stone few
      | inr empty ↦ so_far.words n old.1 k empty (omega (arith, lt, all_of)) few
    ];
    listed = λ k lt. so_far.stand k (omega (arith, lt, all_of));
    within = omega (arith, so_far.within, all_of);
  }

-- ---- by lists
module _ (index : PackedRuns) (base : ℕ) (wants : List Want) where
  pub lists-start : (left : Left) → IsLeftBy index base wants (length wants) left → left.nodes.from < left.nodes.to → IsLeftByLists index base wants left.listed.first (record { from = left.nodes.from; to = left.nodes.to; gap = false })
  lists-start left start some = record {
    kept = start.kept;
    inside = let last = start.inside (left.nodes.to - 1) (omega (arith, some), omega (arith, some)) in omega (arith, last);
    some = some;
    words = start.words;
    whole = λ e n within k lt below many. absurd (omega (arith, lt, (start.listed k below many).0));
  }

  module _ (i : ℕ) (lt : i < length wants) (hull : Hull) (so_far : IsLeftByLists index base wants i hull) where
    abbrev one : Want
    one = slice_index_or wants i no_want

    abbrev at : ℕ
    at = base + one.offset

    abbrev IsMetByList : ℕ → ℕ → Type 0
    IsMetByList n k = k < length wants → is_listed index (base + (slice_index_or wants k no_want).offset) ≡ true → IsMet index base (slice_index_or wants k no_want) n

    pub lists-skip : is_listed index at ≡ false → IsLeftByLists index base wants (i + 1) hull
    lists-skip few = record {
      kept = so_far.kept;
      inside = so_far.inside;
      some = so_far.some;
      words = so_far.words;
      whole = λ e n within. below_more (IsMetByList n) i (so_far.whole e n within) (λ below many. absurd (false≢true (sym few ∙ many)));
    }

    module _ (runs : List Run) (same : (n : ℕ) → cell_by runs n ≡ packed_cell index at n) where
      pub lists-more : (after : Hull) → IsSmaller hull (IsWantedBy one runs) after → (after.gap ≡ false → (n : ℕ) → IsInHull after n → IsWantedBy one runs n) → IsLeftByLists index base wants (i + 1) after
      lists-more after smaller whole = record {
        kept = λ n in_range all. smaller.kept n (so_far.kept n in_range all) (wanted-met index base one runs same n (all i lt));
        inside = omega (arith, so_far.inside, smaller.within);
        some = smaller.some;
        words = λ n within. so_far.words n (smaller.inside n within);
        whole = λ e n within. below_more (IsMetByList n) i (so_far.whole (smaller.gap e) n (smaller.inside n within)) (λ below many. met-wanted index base one runs same n (whole e n within));
      }

      pub lists-none : ((n : ℕ) → IsInHull hull n → IsWantedBy one runs n → ⊥) → (n : ℕ) → n < index.nodes → AreMet index base wants n → ⊥
      lists-none none n in_range all = none n (so_far.kept n in_range all) (wanted-met index base one runs same n (all i lt))

  -- those that aren't gone over have no list
  pub lists-end : (left : Left) (i : ℕ) (hull : Hull) → IsLeftBy index base wants (length wants) left → left.listed.end ≤ i → IsLeftByLists index base wants i hull → IsLeftByLists index base wants (length wants) hull
  lists-end left i hull start behind so_far = record {
    kept = so_far.kept;
    inside = so_far.inside;
    some = so_far.some;
    words = so_far.words;
    whole = λ e n within k below lt many. so_far.whole e n within k (omega (arith, behind, (start.listed k lt many).1)) lt many;
  }

-- ---- cut at lists
module _ (index : PackedRuns) (base : ℕ) (wants : List Want) (i : ℕ) (lt : i < length wants) where
  pub IsCutBy-more : (start before after : List Stretch) → IsCutBy index base wants i start before → IsCutAt index base (slice_index_or wants i no_want) before after → IsCutBy index base wants (i + 1) start after
  IsCutBy-more start before after cut here n in_range = (
    λ h. let now = (here n in_range).0 h in
        let old = (cut n in_range).0 now.0 in
        (old.0, below_more (λ k. is_listed index (base + (slice_index_or wants k no_want).offset) ≡ true → IsMet index base (slice_index_or wants k no_want) n) i old.1 now.1),
    λ (first, all). (here n in_range).1 ((cut n in_range).1 (first, λ k l. all k (omega arith)), all i (omega arith)),
  )

-- no stretch is left for the other wants
pub IsCutBy-empty : (index : PackedRuns) (base : ℕ) (wants : List Want) (i : ℕ) → i ≤ length wants → (start after : List Stretch) → length after ≡ 0 → IsCutBy index base wants i start after → IsCutBy index base wants (length wants) start after
IsCutBy-empty index base wants i le start after none cut n in_range = (
  λ (k, d, lt, within). absurd (omega (arith, lt, none)),
  λ (first, all). (cut n in_range).1 (first, λ k l. all k (omega arith)),
)

-- ---- one want
pub IsCutAt-list : (index : PackedRuns) (base : ℕ) (asked : Want) (runs : List Run) → ((n : ℕ) → cell_by runs n ≡ packed_cell index (base + asked.offset) n) → is_listed index (base + asked.offset) ≡ true → (before after : List Stretch) →
    ((n : ℕ) → IsIn after n ↔ (IsIn before n × IsTrue (is_wanted asked (cell_by runs n)))) → IsCutAt index base asked before after
IsCutAt-list index base asked runs same many before after cut n in_range = (
  λ h. let both_of = (cut n).0 h in (both_of.0, λ m. met-wanted index base asked runs same n both_of.1),
  λ (h, all). (cut n).1 (h, wanted-met index base asked runs same n (all many)),
)

pub IsCutAt-none : (index : PackedRuns) (base : ℕ) (asked : Want) → is_listed index (base + asked.offset) ≡ false → (stretches : List Stretch) → IsCutAt index base asked stretches stretches
IsCutAt-none index base asked few stretches n in_range = (λ h. (h, λ m. absurd (false≢true (sym few ∙ m))), λ h. h.0)

-- ---- words and lists together
IsIn-none : (n : ℕ) → IsIn [] n → ⊥
IsIn-none n (k, d, lt, within) = absurd (omega (arith, lt))

pub IsIn-one : (stretch : Stretch) (n : ℕ) → IsIn (stretch ∷ []) n ↔ ((stretch.from ≤ n) × (n < stretch.to))
IsIn-one stretch n = (
  λ (k, d, lt, within). let zero_is : k ≡ 0 = omega (arith, lt) in subst (λ (j : ℕ). IsWithin n (get_or (stretch ∷ []) j d)) zero_is within,
  λ h. (0, stretch, omega arith, h),
)

module _ (index : PackedRuns) (base : ℕ) (wants : List Want) (hull : Hull) (left : IsLeftByLists index base wants (length wants) hull) where
  module _ (cleared now : List Stretch) (none : cleared ≡ []) (pushed : now ≡ cleared ++ record { from = hull.from; to = hull.to } ∷ []) where
    one-stretch : (n : ℕ) → IsIn now n ↔ IsInHull hull n
    one-stretch n = subst (λ (s : List Stretch). IsIn s n ↔ IsInHull hull n) (sym (pushed ∙ ap (λ (s : List Stretch). s ++ record { from = hull.from; to = hull.to } ∷ []) none)) (IsIn-one (record { from = hull.from; to = hull.to }) n)

    -- where no list left a gap
    pub found-whole : hull.gap ≡ false → (n : ℕ) → n < index.nodes → IsIn now n ↔ AreMet index base wants n
    found-whole whole n in_range = (
      λ h k l. let within = (one-stretch n).0 h in elim (cases_Bool (is_listed index (base + (slice_index_or wants k no_want).offset))) [
        | inl many ↦ left.whole whole n within k l l many
        | inr few ↦ left.words n within k l few
      ],
      λ all. (one-stretch n).1 (left.kept n in_range all),
    )

    -- where the stretch was cut at the lists
    pub found-cut : (after : List Stretch) → IsCutBy index base wants (length wants) now after → (n : ℕ) → n < index.nodes → IsIn after n ↔ AreMet index base wants n
    found-cut after cut n in_range = (
      λ h k l. let both_of = (cut n in_range).0 h in elim (cases_Bool (is_listed index (base + (slice_index_or wants k no_want).offset))) [
        | inl many ↦ both_of.1 k l many
        | inr few ↦ left.words n ((one-stretch n).0 both_of.0) k l few
      ],
      λ all. (cut n in_range).1 ((one-stretch n).1 (left.kept n in_range all), λ k l m. all k l),
    )
