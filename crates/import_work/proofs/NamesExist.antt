-- Each folder and path has its names, put in order one after another, and has one list of them.
use Rattle.std.proofs.Common.{◌≡◌, inl, inr, ℕ, List, [], ◌∷◌, get_or, refl, sym, ap, ◌∙◌, subst, arith}
use Rattle.std.specs.Prelude.{All, AllPairs, Contains}
use Rattle.std.specs.Cmp.Lexicographic.{slice_cmp}
use Rattle.std.specs.Ordering.{is_eq, nat_cmp, ordering_reverse}
use Rattle.std.specs.declared.cmp.Ordering.{Ordering}
use Rattle.std.specs.declared.cmp.Ordering.TheVariants.{Less, Equal, Greater}
use Rattle.std.proofs.lemmas.Cmp.{nat_list_cmp_total}
use Rattle.std.proofs.lemmas.List.Elements.{All-contains, All-cons, Contains-get_or}
use Rattle.std.proofs.lemmas.List.Kept.{AllPairs-cons}
use Rattle.std.proofs.lemmas.Map.Text.{is_eq-slice_cmp}
use Rattle.std.proofs.lemmas.Slice.Eq.{bytes_eq-Decides}
use Rattle.kb_geometry.proofs.Lists.{AllPairs-head, AllPairs-tail, Contains-cases, Contains-first, Contains-later, same_order}
use Rattle.kb_edges.specs.Files.{File, sgf_names_of}
use Rattle.kb_edges.proofs.Listings.{IsListedName, sgf_names_of-complete, sgf_names_of-sound}
use Rattle.import_work.specs.Course.{AreNames}

abbrev pub Name : Type 0
Name = List ℕ

-- one name comes before another
abbrev pub IsBefore : Name → Name → Type 0
IsBefore x y = slice_cmp nat_cmp x y ≡ Less

-- ---- lists

-- what holds of each member holds of all
all_members : (P : Name → Type 0) (xs : List Name) → ((n : Name) → Contains xs n → P n) → All P xs
all_members P xs each k d lt = each (get_or xs k d) (Contains-get_or xs k d lt)

-- equal by the order is equal
same_name : (x y : Name) → slice_cmp nat_cmp x y ≡ Equal → x ≡ y
same_name x y e = (bytes_eq-Decides x y).0 (sym (is_eq-slice_cmp x y) ∙ ap is_eq e)

-- the list in order with a name more
record Inserted (x : Name) (sorted : List Name) : Type 0 where
  result : List Name
  ascending : AllPairs IsBefore result
  kept : (n : Name) → Contains (x ∷ sorted) n → Contains result n
  none_added : (n : Name) → Contains result n → Contains (x ∷ sorted) n

module _ (x y : Name) (ys : List Name) (ascends : AllPairs IsBefore (y ∷ ys)) where
  -- it comes before the first one
  inserted-first : IsBefore x y → Inserted x (y ∷ ys)
  inserted-first before =
      let rest : All (IsBefore x) ys = λ k d lt. nat_list_cmp_total.trans x y (get_or ys k d) before (AllPairs-head IsBefore y ys ascends k d lt) in
      record { result = x ∷ y ∷ ys; ascending = AllPairs-cons IsBefore x (y ∷ ys) (All-cons (IsBefore x) y ys before rest) ascends; kept = λ n h. h; none_added = λ n h. h }

  -- it is the first one
  inserted-same : x ≡ y → Inserted x (y ∷ ys)
  inserted-same same = record {
    result = y ∷ ys;
    ascending = ascends;
    kept = λ n h. elim (Contains-cases x n (y ∷ ys) h) [ inl e ↦ subst (λ (m : Name). Contains (y ∷ ys) m) (sym same ∙ e) (Contains-first y ys) | inr inside ↦ inside ];
    none_added = λ n h. Contains-later x n (y ∷ ys) h;
  }

  -- it comes behind the first one
  inserted-behind : IsBefore y x → Inserted x ys → Inserted x (y ∷ ys)
  inserted-behind before rest =
      let each : (n : Name) → Contains rest.result n → IsBefore y n = λ n h. elim (Contains-cases x n ys (rest.none_added n h)) [
        | inl e ↦ subst (IsBefore y) e before
        | inr inside ↦ All-contains (IsBefore y) ys n (AllPairs-head IsBefore y ys ascends) inside
      ] in
      record {
        result = y ∷ rest.result;
        ascending = AllPairs-cons IsBefore y rest.result (all_members (IsBefore y) rest.result each) rest.ascending;
        kept = λ n h. elim (Contains-cases x n (y ∷ ys) h) [
          | inl e ↦ Contains-later y n rest.result (rest.kept n (subst (λ (m : Name). Contains (x ∷ ys) m) e (Contains-first x ys)))
          | inr inside ↦ elim (Contains-cases y n ys inside) [
            | inl e ↦ subst (λ (m : Name). Contains (y ∷ rest.result) m) e (Contains-first y rest.result)
            | inr deeper ↦ Contains-later y n rest.result (rest.kept n (Contains-later x n ys deeper))
          ]
        ];
        none_added = λ n h. elim (Contains-cases y n rest.result h) [
          | inl e ↦ Contains-later x n (y ∷ ys) (subst (λ (m : Name). Contains (y ∷ ys) m) e (Contains-first y ys))
          | inr inside ↦ elim (Contains-cases x n ys (rest.none_added n inside)) [
            | inl e ↦ subst (λ (m : Name). Contains (x ∷ y ∷ ys) m) e (Contains-first x (y ∷ ys))
            | inr deeper ↦ Contains-later x n (y ∷ ys) (Contains-later y n ys deeper)
          ]
        ];
      }

  inserted-by : (o : Ordering) → slice_cmp nat_cmp x y ≡ o → Inserted x ys → Inserted x (y ∷ ys)
  inserted-by Less is rest = inserted-first is
  inserted-by Equal is rest = inserted-same (same_name x y is)
  inserted-by Greater is rest = inserted-behind (nat_list_cmp_total.antisymm y x ∙ ap ordering_reverse is) rest

inserted : (x : Name) (ys : List Name) → AllPairs IsBefore ys → Inserted x ys
inserted x [] ascends = record { result = x ∷ []; ascending = AllPairs-cons IsBefore x [] (λ k d lt. absurd (omega arith)) ascends; kept = λ n h. h; none_added = λ n h. h }
inserted x (y ∷ ys) ascends = inserted-by x y ys ascends (slice_cmp nat_cmp x y) refl (inserted x ys (AllPairs-tail IsBefore y ys ascends))

-- names in order, each once
record Sorted (names : List Name) : Type 0 where
  result : List Name
  ascending : AllPairs IsBefore result
  kept : (n : Name) → Contains names n → Contains result n
  none_added : (n : Name) → Contains result n → Contains names n

sorted : (names : List Name) → Sorted names
sorted [] = record { result = []; ascending = λ i j d lt below. absurd (omega arith); kept = λ n h. h; none_added = λ n h. h }
sorted (x ∷ xs) =
    let rest = sorted xs in
    let more = inserted x rest.result rest.ascending in
    record {
      result = more.result;
      ascending = more.ascending;
      kept = λ n h. more.kept n (elim (Contains-cases x n xs h) [
        | inl e ↦ subst (λ (m : Name). Contains (x ∷ rest.result) m) e (Contains-first x rest.result)
        | inr inside ↦ Contains-later x n rest.result (rest.kept n inside)
      ]);
      none_added = λ n h. elim (Contains-cases x n rest.result (more.none_added n h)) [
        | inl e ↦ subst (λ (m : Name). Contains (x ∷ xs) m) e (Contains-first x xs)
        | inr inside ↦ Contains-later x n xs (rest.none_added n inside)
      ];
    }

-- a folder's names under a path
pub names-exist : (files : List File) (path : List ℕ) → (names : List (List ℕ)) × AreNames files path names
names-exist files path =
    let those = sorted (sgf_names_of files path) in (
      those.result,
      record {
        each = λ name. (
          λ h. All-contains (IsListedName files path) (sgf_names_of files path) name (sgf_names_of-sound files path) (those.none_added name h),
          λ h. those.kept name (sgf_names_of-complete files path name h.0 h.1),
        );
        ascending = those.ascending;
      },
    )

-- ---- one list alone

-- of two names only one is before the other
pub names_opposed : (x y : Name) → IsBefore x y → IsBefore y x → ⊥
names_opposed x y before after =
    let itself : IsBefore x x = nat_list_cmp_total.trans x y x before after in
    absurd (cc (itself, nat_list_cmp_total.antisymm x x ∙ ap ordering_reverse itself))

pub names-one : (files : List File) (path : List ℕ) (a b : List (List ℕ)) → AreNames files path a → AreNames files path b → a ≡ b
names-one files path a b one other =
    same_order IsBefore names_opposed a b one.ascending other.ascending
    (λ n there. (other.each n).1 ((one.each n).0 there))
    (λ n there. (one.each n).1 ((other.each n).0 there))
