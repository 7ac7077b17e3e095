-- The hits in the new games of a version, one part after another.
use Rattle.std.proofs.Common.{◌≡◌, ◌∙◌, ℕ, inl, inr, ◌+◌, ◌-◌, ◌<◌, ◌≤◌, ◌↔◌, List, [], ◌∷◌, ◌++◌, add-zero, ap, append_assoc, arith, drop, get_or, length, length-append, map, refl, subst, sym, take}
use Rattle.std.specs.Prelude.{All}
use Rattle.std.proofs.Math.Seq.{drop-append-add, drop-append_seam, drop-nil, take-append_seam}
use Rattle.std.proofs.lemmas.Bool.{cases_lt}
use Rattle.std.proofs.lemmas.List.{append-nil, drop-append-le, drop_all, length-drop, length-take-le, nil_from_length, take-append-drop}
use Rattle.std.proofs.lemmas.List.Sums.{sum_by-append}
use Rattle.game_tree.specs.Tree.{IsTree, node_count}
use Rattle.node_position.specs.Games.{Game}
use Rattle.pattern_images.specs.declared.hit.Hit.{Hit}
use Rattle.segment_store.specs.Nodes.{nodes_of}
use Rattle.standing_query.specs.Finding.{AreSame, GoesByParts, HasList, HasOneList}
use Rattle.standing_query.specs.NewGames.{AreFoundTo}

-- ---- the rest of two lists, one after the other

pub drop-both : {A : Type 0} (n : ℕ) (xs ys : List A) → drop n (xs ++ ys) ≡ drop n xs ++ drop (n - length xs) ys
drop-both n xs ys = elim (cases_lt n (length xs)) [
  | inl below ↦
      let none : n - length xs ≡ 0 = omega (arith, below) in
      drop-append-le n xs ys (omega (arith, below)) ∙ ap (λ k. drop n xs ++ drop k ys) (sym none)
  | inr past ↦
      let whole : n ≡ length xs + (n - length xs) = omega (arith, past) in
      ap (λ k. drop k (xs ++ ys)) whole ∙ drop-append-add xs ys (n - length xs) ∙ ap (λ zs. zs ++ drop (n - length xs) ys) (sym (drop_all n xs past))
]

-- the nodes of games behind some, in two parts
pub nodes-both : (n : ℕ) (games more : List Game) → nodes_of (drop n (games ++ more)) ≡ nodes_of (drop n games) + nodes_of (drop (n - length games) more)
nodes-both n games more = ap nodes_of (drop-both n games more) ∙ sum_by-append (λ (g : Game). node_count g.tree) (drop n games) (drop (n - length games) more)

-- games that stand in front have at most as many
pub nodes-front : (n : ℕ) (games more : List Game) → nodes_of (drop n games) ≤ nodes_of (drop n (games ++ more))
nodes-front n games more = omega (arith, nodes-both n games more)

-- ---- what is the same

pub same-self : (one : ℕ → List Game → List Hit → Type 0) → AreSame one one
same-self one first games hits = (λ h. h, λ h. h)

pub same-then : (one two three : ℕ → List Game → List Hit → Type 0) → AreSame one two → AreSame two three → AreSame one three
same-then one two three a b first games hits = (λ h. (b first games hits).0 ((a first games hits).0 h), λ h. (a first games hits).1 ((b first games hits).1 h))

pub same-back : (one two : ℕ → List Game → List Hit → Type 0) → AreSame one two → AreSame two one
same-back one two same first games hits = ((same first games hits).1, (same first games hits).0)

-- ---- what is found

module _ (finds : ℕ → List Game → List Hit → Type 0) where
  none_twice : (hits : List Hit) → hits ≡ hits ++ hits → hits ≡ []
  none_twice hits twice = nil_from_length hits (omega (arith, ap length twice, length-append hits hits))

  -- in no games nothing
  pub found-nothing : HasList finds → HasOneList finds → GoesByParts finds → (first : ℕ) → finds first [] []
  found-nothing some one by_parts first =
      let none : All (λ (g : Game). IsTree g.tree) [] = λ k d below. absurd (omega (arith, below)) in
      let (hits, found) = some first [] none in
      let again : finds (first + 0) [] hits = subst (λ n. finds n [] hits) (sym (add-zero first)) found in
      let twice : hits ≡ hits ++ hits = one first [] hits (hits ++ hits) none found (by_parts first [] [] hits hits found again) in
      subst (finds first []) (none_twice hits twice) found

  module _ (covered : ℕ) where
    -- no game yet
    pub to-start : finds covered [] [] → AreFoundTo finds covered [] 0 []
    to-start nothing = record { counted = refl; found = subst (λ gs. finds covered gs []) (sym (drop-nil covered)) nothing }

    module _ (games more : List Game) (count : ℕ) (hits : List Hit) (so_far : AreFoundTo finds covered games count hits) where
      counted_on : (next : ℕ) → next ≡ count + length more → next ≡ length (games ++ more)
      counted_on next is = omega (arith, is, so_far.counted, length-append games more)

      behind : drop covered (games ++ more) ≡ drop covered games ++ drop (covered - count) more
      behind = drop-both covered games more ∙ ap (λ n. drop covered games ++ drop (covered - n) more) (sym so_far.counted)

      -- all of the next games are covered
      pub to-passed : (next : ℕ) → next ≡ count + length more → length more ≤ covered - count → AreFoundTo finds covered (games ++ more) next hits
      to-passed next is all =
          let rest : drop covered games ≡ drop covered (games ++ more) = sym (append-nil (drop covered games)) ∙ ap (λ gs. drop covered games ++ gs) (sym (drop_all (covered - count) more all)) ∙ sym behind in
          record { counted = counted_on next is; found = subst (λ gs. finds covered gs hits) rest so_far.found }

      -- the hits in those that aren't
      pub to-more : GoesByParts finds → (next first : ℕ) (others new : List Hit) → next ≡ count + length more → first ≡ count + (covered - count) → finds first (drop (covered - count) more) others
          → new ≡ hits ++ others → AreFoundTo finds covered (games ++ more) next new
      to-more by_parts next first others new is number found pushed =
          let numbered : first ≡ covered + length (drop covered games) = omega (arith, number, so_far.counted, length-drop covered games) in
          let both = by_parts covered (drop covered games) (drop (covered - count) more) hits others so_far.found (subst (λ n. finds n (drop (covered - count) more) others) numbered found) in
          record { counted = counted_on next is; found = subst (λ gs. finds covered gs new) (sym behind) (subst (finds covered (drop covered games ++ drop (covered - count) more)) (sym pushed) both) }

  -- the hits of the games that are covered, and then those of the others
  pub found-all : GoesByParts finds → (covered : ℕ) (games : List Game) (hits others new : List Hit) → covered ≤ length games → finds 0 (take covered games) hits → finds covered (drop covered games) others → new ≡ hits ++ others → finds 0 games new
  found-all by_parts covered games hits others new le one other pushed =
      let numbered : covered ≡ 0 + length (take covered games) = omega (arith, length-take-le covered games le) in
      let both = by_parts 0 (take covered games) (drop covered games) hits others one (subst (λ n. finds n (drop covered games) others) numbered other) in
      subst (finds 0 games) (sym pushed) (subst (λ gs. finds 0 gs (hits ++ others)) (take-append-drop covered games) both)

-- the same of what finds the same
pub to-same : (one two : ℕ → List Game → List Hit → Type 0) (covered : ℕ) (games : List Game) (count : ℕ) (hits : List Hit) → AreSame one two → AreFoundTo one covered games count hits → AreFoundTo two covered games count hits
to-same one two covered games count hits same to = record { counted = to.counted; found = (same covered (drop covered games) hits).0 to.found }
