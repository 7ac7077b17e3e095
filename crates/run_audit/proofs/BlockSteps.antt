-- The searches of a block, one after another, as the guided output has them.
use Rattle.std.proofs.Common.{◌≡◌, ◌∙◌, ℕ, ◌^◌, ◌<◌, ◌≤◌, List, [], ◌∷◌, ◌++◌, codes, drop, length, max, refl, sym, ap, subst, append-nil, append_assoc, arith}
use Rattle.std.proofs.Math.Seq.{drop-append_seam}
use Rattle.query_script.specs.declared.statement.PlacedSearch.{PlacedSearch}
use Rattle.session_core.specs.Answers.{IsSearched}
use Rattle.session_core.specs.Lawful.{IsNamed, Rules, State, last_of, view_at}
use Rattle.session_core.specs.SessionState.{SessionState}
use Rattle.session_core.proofs.OneAnswer.{search-one}
use Rattle.session_core.proofs.WholeOutputs.{IsReached, trees-at}
use Rattle.run_audit.specs.Chosen.{IsChosen}
use Rattle.run_audit.specs.Guided.{AreGuidedSearches, left_at_number, version_head}
use Rattle.run_audit.specs.Standing.{DepartsIn, DepartsInNumber}
use Rattle.run_audit.proofs.ChosenNumbers.{chosen-allowed, chosen-one}
use Rattle.run_audit.proofs.Departures.{departs-behind, departs-longer}
use Rattle.run_audit.proofs.StatementSteps.{head-departs, number-departs}
use Rattle.run_audit.proofs.TextHeads.{search-names}

-- The first searches of a block were passed: these are left, this is left of the record, the session
-- stands so, and this is the greatest number that was named.
pub record BlockTo (rules : Rules) (s : State) (left : List ℕ) (searches : List PlacedSearch) (session : SessionState) (rest : List PlacedSearch) (here : List ℕ) (now : SessionState) (greatest : ℕ) : Type 0 where
  pub text : List ℕ
  pub stands : left ≡ text ++ here
  pub low : greatest ≤ last_of s
  pub on : (n : ℕ) (more : List ℕ) (after : SessionState) → AreGuidedSearches rules s here rest now n more after → AreGuidedSearches rules s left searches session (max greatest n) (text ++ more) after
  pub only : (n : ℕ) (whole : List ℕ) (after : SessionState) → AreGuidedSearches rules s left searches session n whole after → (m : ℕ) × (more : List ℕ) × AreGuidedSearches rules s here rest now m more after × (whole ≡ text ++ more)

module _ (rules : Rules) (s : State) (h : IsReached s) (few : last_of s < 2 ^ 64) (left : List ℕ) (searches : List PlacedSearch) (session : SessionState) where
  pub block-start : BlockTo rules s left searches session searches left session 0
  block-start = record {
    text = [];
    stands = refl;
    low = omega arith;
    on = λ n more after h. subst (λ (k : ℕ). AreGuidedSearches rules s left searches session k more after) (omega arith) h;
    only = λ n whole after h. (n, whole, h, refl);
  }

  small : (k : ℕ) → IsNamed rules s k → k < 2 ^ 64
  small k named = let to = named.to in omega (arith, to, few)

  module _ (p : PlacedSearch) (ps : List PlacedSearch) (here : List ℕ) (now : SessionState) (greatest : ℕ) (so_far : BlockTo rules s left searches session (p ∷ ps) here now greatest) where
    abbrev number_left : List ℕ
    number_left = left_at_number p.line (codes "search") here

    -- one more
    pub block-more : (n : ℕ) (first more : List ℕ) (between : SessionState) → IsChosen (IsNamed rules s) number_left n → here ≡ first ++ more → IsSearched p.line (view_at s n) p.query p.filter now first between
        → BlockTo rules s left searches session ps more between (max greatest n)
    block-more n first more between chosen is searched =
        let named = chosen-allowed (IsNamed rules s) number_left n chosen in
        let to = named.to in
        let low = so_far.low in
        let rest_is : drop (length first) here ≡ more = ap (drop (length first)) is ∙ drop-append_seam first more in record {
          text = so_far.text ++ first;
          stands = so_far.stands ∙ ap (λ l. so_far.text ++ l) is ∙ sym (append_assoc so_far.text first more);
          low = omega (arith, low, to);
          on = λ m rest after guided.
              let whole = so_far.on (max n m) (first ++ rest) after (n, first, between, m, rest, chosen, searched, subst (λ l. AreGuidedSearches rules s l ps between m rest after) (sym rest_is) guided, refl, refl) in
              subst (λ (k : ℕ). AreGuidedSearches rules s left searches session k ((so_far.text ++ first) ++ rest) after) (omega arith)
              (subst (λ l. AreGuidedSearches rules s left searches session (max greatest (max n m)) l after) (sym (append_assoc so_far.text first rest)) whole);
          only = λ k whole after guided. only_then n first more between chosen searched rest_is k whole after (so_far.only k whole after guided);
        }
      where
        only_then : (n : ℕ) (first more : List ℕ) (between : SessionState) → IsChosen (IsNamed rules s) number_left n → IsSearched p.line (view_at s n) p.query p.filter now first between → drop (length first) here ≡ more →
            (k : ℕ) (whole : List ℕ) (after : SessionState) → (m : ℕ) × (u : List ℕ) × AreGuidedSearches rules s here (p ∷ ps) now m u after × (whole ≡ so_far.text ++ u) →
            (m : ℕ) × (rest : List ℕ) × AreGuidedSearches rules s more ps between m rest after × (whole ≡ (so_far.text ++ first) ++ rest)
        only_then n first more between chosen searched rest_is k whole after (m, u, guided, same) =
            let number = chosen-one (IsNamed rules s) small number_left guided.0 n guided.5 chosen in
            let answer = search-one p.line (view_at s n) (trees-at s h n) p.query p.filter now guided.1 first guided.2 between
            (subst (λ (v : ℕ). IsSearched p.line (view_at s v) p.query p.filter now guided.1 guided.2) number guided.6) searched in
            let rest = subst (λ (from : SessionState). AreGuidedSearches rules s more ps from guided.3 guided.4 after) answer.1
            (subst (λ l. AreGuidedSearches rules s l ps guided.2 guided.3 guided.4 after) (ap (λ (t : List ℕ). drop (length t) here) answer.0 ∙ rest_is) guided.7) in
            (guided.3, guided.4, rest, same ∙ ap (λ l. so_far.text ++ l) (guided.9 ∙ ap (λ t. t ++ guided.4) answer.0) ∙ sym (append_assoc so_far.text first guided.4))

    -- what the next one prints isn't there
    pub block-departs : (count : ℕ) → ((n : ℕ) (first : List ℕ) (between : SessionState) → IsChosen (IsNamed rules s) number_left n → IsSearched p.line (view_at s n) p.query p.filter now first between → DepartsIn here first count)
        → (k : ℕ) (whole : List ℕ) (after : SessionState) → AreGuidedSearches rules s left searches session k whole after → DepartsIn left whole count
    block-departs count departs k whole after guided = departed (so_far.only k whole after guided)
      where
        departed : (m : ℕ) × (u : List ℕ) × AreGuidedSearches rules s here (p ∷ ps) now m u after × (whole ≡ so_far.text ++ u) → DepartsIn left whole count
        departed (m, u, next, same) =
            subst (λ l. DepartsIn left l count) (sym (same ∙ ap (λ l. so_far.text ++ l) next.9))
            (departs-behind left so_far.text here (next.1 ++ next.4) count so_far.stands (departs-longer here next.1 next.4 count (departs next.0 next.1 next.2 next.5 next.6)))

  -- at the end
  pub block-end : (here : List ℕ) (now : SessionState) (greatest : ℕ) → (so_far : BlockTo rules s left searches session [] here now greatest) → AreGuidedSearches rules s left searches session greatest so_far.text now
  block-end here now greatest so_far =
      subst (λ (k : ℕ). AreGuidedSearches rules s left searches session k so_far.text now) (omega arith)
      (subst (λ l. AreGuidedSearches rules s left searches session (max greatest 0) l now) (append-nil so_far.text) (so_far.on 0 [] now (refl, refl, refl)))

-- a search departs where its head does, or its number, or its text over the version
module _ (rules : Rules) (s : State) (few : last_of s < 2 ^ 64) (p : PlacedSearch) (here : List ℕ) (now : SessionState) (count : ℕ) where
  abbrev Departs : Type 0
  Departs = (n : ℕ) (first : List ℕ) (between : SessionState) → IsChosen (IsNamed rules s) (left_at_number p.line (codes "search") here) n → IsSearched p.line (view_at s n) p.query p.filter now first between → DepartsIn here first count

  pub search-head-departs : DepartsIn here (version_head p.line (codes "search")) count → Departs
  search-head-departs departs n first between chosen searched =
      head-departs p.line (codes "search") here first n count (search-names p.line (view_at s n) p.query p.filter now between first searched) departs

  small_number : (k : ℕ) → IsNamed rules s k → k < 2 ^ 64
  small_number k named = let to = named.to in omega (arith, to, few)

  pub number_is : (behind : List ℕ) → here ≡ version_head p.line (codes "search") ++ behind → left_at_number p.line (codes "search") here ≡ behind
  number_is behind is = ap (drop (length (version_head p.line (codes "search")))) is ∙ drop-append_seam (version_head p.line (codes "search")) behind

  pub search-number-departs : (behind : List ℕ) (least : ℕ) → here ≡ version_head p.line (codes "search") ++ behind → IsChosen (IsNamed rules s) behind least → DepartsInNumber behind least count → Departs
  search-number-departs behind least is chosen departs n first between taken searched =
      let same = chosen-one (IsNamed rules s) small_number behind least n chosen (subst (λ l. IsChosen (IsNamed rules s) l n) (number_is behind is) taken) in
      number-departs p.line (codes "search") here behind first n count is (search-names p.line (view_at s n) p.query p.filter now between first searched)
      (subst (λ (k : ℕ). DepartsInNumber behind k count) same departs)

  pub search-text-departs : (behind : List ℕ) (number : ℕ) → here ≡ version_head p.line (codes "search") ++ behind → IsChosen (IsNamed rules s) behind number →
      ((first : List ℕ) (between : SessionState) → IsSearched p.line (view_at s number) p.query p.filter now first between → DepartsIn here first count) → Departs
  search-text-departs behind number is chosen departs n first between taken searched =
      let same = chosen-one (IsNamed rules s) small_number behind n number (subst (λ l. IsChosen (IsNamed rules s) l n) (number_is behind is) taken) chosen in
      departs first between (subst (λ (k : ℕ). IsSearched p.line (view_at s k) p.query p.filter now first between) same searched)
