-- Changes made one after another, net changes between two positions, and changes taken back.
use Rattle.std.proofs.Common.{◌≡◌, ◌≢◌, ℕ, zero, suc, ◌+◌, ◌<◌, ◌≤◌, ◌⊎◌, inl, inr, List, [], ◌∷◌, length, get_or, set, refl, sym, ap, subst, ◌∙◌, arith}
use Rattle.std.specs.Prelude.{All, AllPairs, Any, Contains}
use Rattle.std.proofs.lemmas.List.{length-set, get_or-set_same, get_or-set_other, get_or_default, ext_get_or}
use Rattle.std.proofs.lemmas.List.Elements.{All-nil, All-cons, All-head, All-tail, All-weaker}
use Rattle.std.proofs.lemmas.Bool.{cases_eq, cases_lt}
use Rattle.kb_geometry.specs.declared.stone.Cell.{Cell}
use Rattle.kb_geometry.specs.declared.stone.Cell.TheVariants as cell
use Rattle.kb_geometry.specs.declared.stone.Change.{Change}
use Rattle.kb_geometry.specs.Capture.{Position, cell_at}
use Rattle.capture_board.specs.Changes.{with_changes, AreChangesOf, LeadFrom, MayBeUndone, IsUndone}
use Rattle.capture_board.proofs.MadeChanges.{AllPairs-head, AllPairs-tail, length-with_changes}

-- ---- a list with something on a point
-- some change is on this point
abbrev pub IsChangedOn : ℕ → List Change → Type 0
IsChangedOn p changes = Any (λ (c : Change). c.point ≡ p) changes

-- no change is on this point
abbrev pub IsUnchangedOn : ℕ → List Change → Type 0
IsUnchangedOn p changes = All (λ (c : Change). c.point ≢ p) changes

pub changed_later : (p : ℕ) (c : Change) (cs : List Change) → IsChangedOn p cs → IsChangedOn p (c ∷ cs)
changed_later p c cs h = (suc h.0, h.1, omega (arith, h.2), h.3, h.4)

changed_or_later : (p : ℕ) (c : Change) (cs : List Change) → (c.point ≡ p) ⊎ (c.point ≢ p) → IsChangedOn p cs ⊎ IsUnchangedOn p cs → IsChangedOn p (c ∷ cs) ⊎ IsUnchangedOn p (c ∷ cs)
changed_or_later p c cs (inl here) rest = inl (zero, c, omega arith, refl, here)
changed_or_later p c cs (inr other) (inl later) = inl (changed_later p c cs later)
changed_or_later p c cs (inr other) (inr none) = inr (All-cons (λ (d : Change). d.point ≢ p) c cs other none)

-- a change is on the point, or none is
pub changed_or_not : (p : ℕ) (changes : List Change) → IsChangedOn p changes ⊎ IsUnchangedOn p changes
changed_or_not p [] = inr (All-nil (λ (d : Change). d.point ≢ p))
changed_or_not p (c ∷ cs) = changed_or_later p c cs (cases_eq c.point p) (changed_or_not p cs)

-- what holds of each change holds of one that is found
pub at_change : (P : Change → Type 0) (changes : List Change) → All P changes → (k : ℕ) (c : Change) → k < length changes → get_or changes k c ≡ c → P c
at_change P changes h k c lt e = rw e at (h k c lt)

-- ---- changes that are made
-- a point without a change keeps its cell
pub with_changes-unchanged : (before : Position) (changes : List Change) (p : ℕ) → IsUnchangedOn p changes → cell_at (with_changes before changes) p ≡ cell_at before p
with_changes-unchanged before [] p none = refl
with_changes-unchanged before (c ∷ cs) p none =
    let other : c.point ≢ p = All-head (λ (d : Change). d.point ≢ p) c cs none in
    with_changes-unchanged (set before c.point c.new) cs p (All-tail (λ (d : Change). d.point ≢ p) c cs none) ∙ get_or-set_other before c.point p c.new cell.Empty (λ e. other (sym e))

-- each changed point has its new cell
pub with_changes-new : (before : Position) (changes : List Change) → All (λ (c : Change). c.point < length before) changes → AllPairs (λ (c d : Change). c.point ≢ d.point) changes → All (λ (c : Change). cell_at (with_changes before changes) c.point ≡ c.new) changes
with_changes-new before [] fits apart = All-nil (λ (c : Change). cell_at before c.point ≡ c.new)
with_changes-new before (c ∷ cs) fits apart =
    let next = set before c.point c.new in
    let after = with_changes next cs in
    let same = length-set before c.point c.new in
    let later : IsUnchangedOn c.point cs = All-weaker (λ (d : Change). c.point ≢ d.point) (λ (d : Change). d.point ≢ c.point) (λ d other e. other (sym e)) cs (AllPairs-head (λ (d e : Change). d.point ≢ e.point) c cs apart) in
    let here : cell_at after c.point ≡ c.new = with_changes-unchanged next cs c.point later ∙ get_or-set_same before c.point c.new cell.Empty (All-head (λ (d : Change). d.point < length before) c cs fits) in
    let fits_next : All (λ (d : Change). d.point < length next) cs = All-weaker (λ (d : Change). d.point < length before) (λ (d : Change). d.point < length next) (λ d lt. omega arith) cs (All-tail (λ (d : Change). d.point < length before) c cs fits) in
    All-cons (λ (d : Change). cell_at after d.point ≡ d.new) c cs here (with_changes-new next cs fits_next (AllPairs-tail (λ (d e : Change). d.point ≢ e.point) c cs apart))

-- ---- net changes
-- the change of a point between two positions
abbrev pub change_of : Position → Position → ℕ → Change
change_of before after p = record { point = p; old = cell_at before p; new = cell_at after p }

same_change : (p q : ℕ) (a b x y : Cell) → p ≡ q → a ≡ b → x ≡ y → ◌≡◌ {A = Change} (record { point = p; old = a; new = x }) (record { point = q; old = b; new = y })
same_change p q a b x y e f g = rw (e, f, g) refl

change_is : (c : Change) (before after : Position) (p : ℕ) → c.point ≡ p → c.old ≡ cell_at before p → c.new ≡ cell_at after p → c ≡ change_of before after p
change_is c before after p e f g = same_change c.point p c.old (cell_at before p) c.new (cell_at after p) e f g

-- no changes lead from a position to itself
pub LeadFrom-none : (position : Position) → LeadFrom position [] position
LeadFrom-none position = record {
  changes_of = record {
    on_board = All-nil (λ (c : Change). c.point < length position);
    ascending = λ i j d before lt. absurd (omega arith);
    old = All-nil (λ (c : Change). c.old ≡ cell_at position c.point);
    differ = All-nil (λ (c : Change). c.old ≢ c.new);
  };
  made = refl;
}

-- as after a clear
pub LeadFrom-cleared : (position : Position) (changes : List Change) → changes ≡ [] → LeadFrom position changes position
LeadFrom-cleared position changes none = rw none (LeadFrom-none position)

module _ (before : Position) (changes : List Change) where
  pub AreChangesOf-apart : AreChangesOf before changes → AllPairs (λ (c d : Change). c.point ≢ d.point) changes
  AreChangesOf-apart are = λ i j d earlier lt. let less = are.ascending i j d earlier lt in omega arith

-- ---- lists of changes by point ascending
abbrev IsBelow : Change → Change → Type 0
IsBelow c d = c.point < d.point

contains_first : (c : Change) (cs : List Change) → Contains (c ∷ cs) c
contains_first c cs = (zero, omega arith, refl)

contains_later : (d c : Change) (cs : List Change) → Contains cs c → Contains (d ∷ cs) c
contains_later d c cs h = (suc h.0, omega (arith, h.1), h.2)

contains_cases : (d c : Change) (cs : List Change) → Contains (d ∷ cs) c → (d ≡ c) ⊎ Contains cs c
contains_cases d c cs (zero, lt, e) = inl e
contains_cases d c cs (suc k, lt, e) = inr (k, omega arith, e)

below_member : (c d : Change) (cs : List Change) → AllPairs IsBelow (c ∷ cs) → Contains cs d → c.point < d.point
below_member c d cs ascending h = at_change (IsBelow c) cs (AllPairs-head IsBelow c cs ascending) h.0 d h.1 h.2

same_first : (c d : Change) (cs ds : List Change) → AllPairs IsBelow (c ∷ cs) → AllPairs IsBelow (d ∷ ds) → (d ≡ c) ⊎ Contains ds c → (c ≡ d) ⊎ Contains cs d → c ≡ d
same_first c d cs ds up down (inl e) other = sym e
same_first c d cs ds up down (inr later) (inl e) = e
same_first c d cs ds up down (inr later) (inr other) = absurd (omega (arith, below_member d c ds down later, below_member c d cs up other))

in_rest : (c d e : Change) (cs ds : List Change) → AllPairs IsBelow (c ∷ cs) → c ≡ d → Contains cs e → (d ≡ e) ⊎ Contains ds e → Contains ds e
in_rest c d e cs ds up same h (inr later) = later
in_rest c d e cs ds up same h (inl here) =
    let less = below_member c e cs up h in
    let equal : c.point ≡ e.point = ap (λ (x : Change). x.point) (same ∙ here) in
    absurd (omega arith)

-- ascending lists with the same members are equal
same_members : (cs ds : List Change) → AllPairs IsBelow cs → AllPairs IsBelow ds → ((e : Change) → Contains cs e → Contains ds e) → ((e : Change) → Contains ds e → Contains cs e) → cs ≡ ds
same_members [] [] up down there back = refl
same_members [] (d ∷ ds) up down there back = let h = back d (contains_first d ds) in absurd (omega (arith, h.1))
same_members (c ∷ cs) [] up down there back = let h = there c (contains_first c cs) in absurd (omega (arith, h.1))
same_members (c ∷ cs) (d ∷ ds) up down there back =
    let first : c ≡ d = same_first c d cs ds up down (contains_cases d c ds (there c (contains_first c cs))) (contains_cases c d cs (back d (contains_first d ds))) in
    let rest : cs ≡ ds = same_members cs ds (AllPairs-tail IsBelow c cs up) (AllPairs-tail IsBelow d ds down) (λ e h. in_rest c d e cs ds up first h (contains_cases d e ds (there e (contains_later c e cs h)))) (λ e h. in_rest d c e ds cs down (sym first) h (contains_cases c e cs (back e (contains_later d e ds h)))) in
    rw (first, rest) refl

-- ---- from one position to another
module _ (before : Position) (changes : List Change) (after : Position) where
  unchanged_or : (p : ℕ) (P : Type 0) → (IsChangedOn p changes → P) → (IsUnchangedOn p changes → P) → IsChangedOn p changes ⊎ IsUnchangedOn p changes → P
  unchanged_or p P some none (inl h) = some h
  unchanged_or p P some none (inr h) = none h

  -- changes of before lead to after where after has each new cell, and before's cell on each other point
  pub LeadFrom-by_points : AreChangesOf before changes → length after ≡ length before → All (λ (c : Change). cell_at after c.point ≡ c.new) changes → ((p : ℕ) → IsUnchangedOn p changes → cell_at after p ≡ cell_at before p) → LeadFrom before changes after
  LeadFrom-by_points are same_length new kept =
      let made = with_changes before changes in
      let new_made = with_changes-new before changes are.on_board (AreChangesOf-apart before changes are) in
      record {
        changes_of = are;
        made = ext_get_or cell.Empty made after (length-with_changes before changes ∙ sym same_length) (λ p lt. unchanged_or p (cell_at made p ≡ cell_at after p)
            (λ h. rw (← h.4) (at_change (λ (c : Change). cell_at made c.point ≡ c.new) changes new_made h.0 h.1 h.2 h.3 ∙ sym (at_change (λ (c : Change). cell_at after c.point ≡ c.new) changes new h.0 h.1 h.2 h.3)))
            (λ h. with_changes-unchanged before changes p h ∙ sym (kept p h))
            (changed_or_not p changes));
      }

  module _ (lead : LeadFrom before changes after) where
    pub LeadFrom-length : length after ≡ length before
    LeadFrom-length = rw (← lead.made) (length-with_changes before changes)

    pub LeadFrom-new : All (λ (c : Change). cell_at after c.point ≡ c.new) changes
    LeadFrom-new = rw (← lead.made) (with_changes-new before changes lead.changes_of.on_board (AreChangesOf-apart before changes lead.changes_of))

    pub LeadFrom-unchanged : (p : ℕ) → IsUnchangedOn p changes → cell_at after p ≡ cell_at before p
    LeadFrom-unchanged p none = rw (← lead.made) (with_changes-unchanged before changes p none)

    -- a change that is found is that of its point
    pub LeadFrom-change : (k : ℕ) (c : Change) → k < length changes → get_or changes k c ≡ c → c ≡ change_of before after c.point
    LeadFrom-change k c lt e =
        let old = at_change (λ (d : Change). d.old ≡ cell_at before d.point) changes lead.changes_of.old k c lt e in
        let new = at_change (λ (d : Change). cell_at after d.point ≡ d.new) changes LeadFrom-new k c lt e in
        change_is c before after c.point refl old (sym new)

    -- a point with a change has another cell afterwards
    pub LeadFrom-differs : (p : ℕ) → IsChangedOn p changes → cell_at before p ≢ cell_at after p
    LeadFrom-differs p h e =
        let old = at_change (λ (d : Change). d.old ≡ cell_at before d.point) changes lead.changes_of.old h.0 h.1 h.2 h.3 in
        let new = at_change (λ (d : Change). cell_at after d.point ≡ d.new) changes LeadFrom-new h.0 h.1 h.2 h.3 in
        at_change (λ (d : Change). d.old ≢ d.new) changes lead.changes_of.differ h.0 h.1 h.2 h.3 (old ∙ (rw h.4 e ∙ new))

    -- net changes are complete: a point that has another cell afterwards has its change
    pub LeadFrom-complete : (p : ℕ) → cell_at before p ≢ cell_at after p → Contains changes (change_of before after p)
    LeadFrom-complete p differs = unchanged_or p (Contains changes (change_of before after p))
        (λ h. let is = LeadFrom-change h.0 h.1 h.2 h.3 in let at = subst (λ (q : ℕ). h.1 ≡ change_of before after q) h.4 is in (h.0, h.2, rw (← at) h.3))
        (λ h. absurd (differs (sym (LeadFrom-unchanged p h))))
        (changed_or_not p changes)

    -- net changes may be taken back
    pub LeadFrom-may_be_undone : MayBeUndone after changes
    LeadFrom-may_be_undone =
        let same = LeadFrom-length in
        record {
          on_board = All-weaker (λ (c : Change). c.point < length before) (λ (c : Change). c.point < length after) (λ c lt. omega arith) changes lead.changes_of.on_board;
          apart = AreChangesOf-apart before changes lead.changes_of;
          new = All-weaker (λ (c : Change). cell_at after c.point ≡ c.new) (λ (c : Change). c.new ≡ cell_at after c.point) (λ c e. sym e) changes LeadFrom-new;
        }

    -- and what is left is the position before them
    pub LeadFrom-undone : (back : Position) → IsUndone after changes back → back ≡ before
    LeadFrom-undone back undone = ext_get_or cell.Empty back before (undone.same_length ∙ LeadFrom-length) (λ p lt. unchanged_or p (cell_at back p ≡ cell_at before p)
        (λ h. rw (← h.4) (at_change (λ (c : Change). cell_at back c.point ≡ c.old) changes undone.back h.0 h.1 h.2 h.3 ∙ at_change (λ (c : Change). c.old ≡ cell_at before c.point) changes lead.changes_of.old h.0 h.1 h.2 h.3))
        (λ h. undone.kept p h ∙ LeadFrom-unchanged p h)
        (changed_or_not p changes))

-- two lists of net changes have the same members
members_of_other : (before : Position) (one other : List Change) (after : Position) → LeadFrom before one after → LeadFrom before other after → (c : Change) → Contains one c → Contains other c
members_of_other before one other after lead led c h =
    let is = LeadFrom-change before one after lead h.0 c h.1 h.2 in
    rw is (LeadFrom-complete before other after led c.point (LeadFrom-differs before one after lead c.point (h.0, c, h.1, h.2, refl)))

-- two positions have at most one list of net changes
pub LeadFrom-unique : (before after : Position) (one other : List Change) → LeadFrom before one after → LeadFrom before other after → one ≡ other
LeadFrom-unique before after one other lead led = same_members one other lead.changes_of.ascending led.changes_of.ascending (members_of_other before one other after lead led) (members_of_other before other one after led lead)

-- ---- changes taken back, one after another
-- after is before with the old cells of the first count changes
pub record AreTakenBack (before : Position) (changes : List Change) (after : Position) (count : ℕ) : Type 0 where
  pub same_length : length after ≡ length before
  pub back : (k : ℕ) (d : Change) → k < count → k < length changes → cell_at after (get_or changes k d).point ≡ (get_or changes k d).old
  pub kept : (p : ℕ) → IsUnchangedOn p changes → cell_at after p ≡ cell_at before p

module _ (before : Position) (changes : List Change) where
  pub AreTakenBack-none : AreTakenBack before changes before 0
  AreTakenBack-none = record { same_length = refl; back = λ k d lt. absurd (omega arith); kept = λ p none. refl }

  module _ (may : MayBeUndone before changes) (after : Position) (n : ℕ) (so_far : AreTakenBack before changes after n) where
    module _ (d : Change) (lt : n < length changes) where
      abbrev nth : Change
      nth = get_or changes n d

      back_at : (k : ℕ) (e : Change) → k < n + 1 → k < length changes → (k < n) ⊎ (n ≤ k) → cell_at (set after nth.point nth.old) (get_or changes k e).point ≡ (get_or changes k e).old
      back_at k e below within (inl earlier) =
          let same = get_or_default changes n d e lt in
          let apart : (get_or changes k e).point ≢ nth.point = λ i. may.apart k n e earlier lt (i ∙ ap (λ (c : Change). c.point) same) in
          get_or-set_other after nth.point (get_or changes k e).point nth.old cell.Empty apart ∙ so_far.back k e earlier within
      back_at k e below within (inr later) =
          let here : k ≡ n = omega arith in
          let same : get_or changes k e ≡ nth = rw here (get_or_default changes n e d lt) in
          let fits : nth.point < length after = omega (arith, so_far.same_length, may.on_board n d lt) in
          rw same (get_or-set_same after nth.point nth.old cell.Empty fits)

      pub AreTakenBack-more : AreTakenBack before changes (set after nth.point nth.old) (n + 1)
      AreTakenBack-more = record {
        same_length = length-set after nth.point nth.old ∙ so_far.same_length;
        back = λ k e below within. back_at k e below within (cases_lt k n);
        kept = λ p none. get_or-set_other after nth.point p nth.old cell.Empty (λ e. none n d lt (sym e)) ∙ so_far.kept p none;
      }

    pub AreTakenBack-all : length changes ≤ n → IsUndone before changes after
    AreTakenBack-all all = record {
      same_length = so_far.same_length;
      back = λ k d lt. so_far.back k d (omega arith) lt;
      kept = so_far.kept;
    }
