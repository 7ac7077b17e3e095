-- A block of searches is passed, or the record departs in it, from each state of which one is kept.
use Rattle.std.proofs.Common.{◌≡◌, ◌∙◌, ℕ, Bool, ◌+◌, ◌<◌, ◌≤◌, List, [], ◌∷◌, ◌++◌, All, codes, drop, get_or, length, max, refl, sym, ap, subst, arith}
use Rattle.std.proofs.lemmas.List.{at_drop_all, at_drop_more}
use Rattle.kb_edges.specs.Files.{File}
use Rattle.game_tree.specs.Tree.{IsTree}
use Rattle.node_position.specs.Games.{Game}
use Rattle.version_publisher.specs.declared.state.VersionState.{VersionState}
use Rattle.query_script.specs.declared.statement.Placed.{Placed}
use Rattle.query_script.specs.declared.statement.PlacedSearch.{PlacedSearch}
use Rattle.query_script.specs.declared.statement.Statement.{Statement}
use Rattle.query_script.specs.declared.statement.Statement.TheVariants as statement
use Rattle.session_core.specs.Answers.{IsSearched, View}
use Rattle.session_core.specs.Lawful.{IsNamed, Rules, State, with_floor, with_session}
use Rattle.session_core.specs.SessionState.{SessionState}
use Rattle.session_core.specs.Stores.{view_of}
use Rattle.session_core.proofs.WholeOutputs.{trees-at}
use Rattle.run_audit.specs.Chosen.{IsChosen, StandsAt}
use Rattle.run_audit.specs.Guided.{AreGuidedSearches, IsGuidedPass, version_head}
use Rattle.run_audit.specs.Standing.{DepartsGuided, DepartsIn, DepartsInNumber, FitsTogether, IsKeptOf, IsRaised, IsVersionAt, IsWithin, Kept, PassesGuided, kept_last, least_named}
use Rattle.run_audit.proofs.BlockSteps.{BlockTo, block-departs, block-end, block-more, block-start, number_is, search-head-departs, search-number-departs, search-text-departs}
use Rattle.run_audit.proofs.KeptStates.{chosen-named, kept-few, kept-reached, raised-most, version-view}
use Rattle.run_audit.proofs.OverStates.{named-floor}

-- From each state of which this is kept the first searches were passed.
abbrev pub BlocksTo : Bool → Kept → SessionState → List ℕ → List PlacedSearch → List PlacedSearch → List ℕ → SessionState → ℕ → Type 0
BlocksTo serial kept session left searches rest here now greatest =
    (rules : Rules) (s : State) → rules.serial ≡ serial → IsKeptOf s kept session → BlockTo rules s left searches session rest here now greatest

-- the record departs in the text of a block
abbrev pub DepartsInBlock : Bool → Kept → SessionState → List ℕ → List PlacedSearch → ℕ → Type 0
DepartsInBlock serial kept session left searches count =
    (rules : Rules) (s : State) → rules.serial ≡ serial → IsKeptOf s kept session → (greatest : ℕ) (text : List ℕ) (after : SessionState) →
    AreGuidedSearches rules s left searches session greatest text after → DepartsIn left text count

module _ (serial : Bool) (kept : Kept) (fits : FitsTogether kept) (session : SessionState) (left : List ℕ) (searches : List PlacedSearch) where
  pub blocks-start : BlocksTo serial kept session left searches searches left session 0
  blocks-start rules s is of = block-start rules s (kept-reached s kept session of) (kept-few s kept session of fits) left searches session

  module _ (p : PlacedSearch) (ps : List PlacedSearch) (here : List ℕ) (now : SessionState) (greatest : ℕ) (so_far : BlocksTo serial kept session left searches (p ∷ ps) here now greatest) where
    abbrev head : List ℕ
    head = version_head p.line (codes "search")

    abbrev least : ℕ
    least = least_named serial kept

    pub blocks-head-depart : (count : ℕ) → DepartsIn here head count → DepartsInBlock serial kept session left searches count
    blocks-head-depart count departs rules s is of =
        block-departs rules s (kept-reached s kept session of) (kept-few s kept session of fits) left searches session p ps here now greatest (so_far rules s is of) count
        (search-head-departs rules s (kept-few s kept session of fits) p here now count departs)

    module _ (behind : List ℕ) (stands : here ≡ head ++ behind) where
      taken : (rules : Rules) (s : State) → rules.serial ≡ serial → (of : IsKeptOf s kept session) → (n : ℕ) → IsChosen (IsWithin least (kept_last kept)) behind n → IsChosen (IsNamed rules s) behind n
      taken rules s is of n chosen = chosen-named s kept session of rules behind n (subst (λ (b : Bool). IsChosen (IsWithin (least_named b kept) (kept_last kept)) behind n) (sym is) chosen)

      pub blocks-number-depart : (n count : ℕ) → IsChosen (IsWithin least (kept_last kept)) behind n → DepartsInNumber behind n count → DepartsInBlock serial kept session left searches count
      blocks-number-depart n count chosen departs rules s is of =
          block-departs rules s (kept-reached s kept session of) (kept-few s kept session of fits) left searches session p ps here now greatest (so_far rules s is of) count
          (search-number-departs rules s (kept-few s kept session of fits) p here now count behind n stands (taken rules s is of n chosen) departs)

      module _ (n : ℕ) (within : IsWithin least (kept_last kept) n) (there : StandsAt behind n) (version : VersionState Game) (at : IsVersionAt kept n version) where
        from : kept.held.number ≤ n
        from = let low = within.from in omega (arith, low, named-floor serial kept)

        pub blocks-text-depart : (count : ℕ) → (All (λ (g : Game). IsTree g.tree) (view_of version).games → (first : List ℕ) (between : SessionState) → IsSearched p.line (view_of version) p.query p.filter now first between → DepartsIn here first count)
            → DepartsInBlock serial kept session left searches count
        blocks-text-depart count departs rules s is of =
            let view = version-view s kept session of n version from at in
            block-departs rules s (kept-reached s kept session of) (kept-few s kept session of fits) left searches session p ps here now greatest (so_far rules s is of) count
            (search-text-departs rules s (kept-few s kept session of fits) p here now count behind n stands (taken rules s is of n (IsChosen.read within there))
            (λ first between searched. departs (subst (All (λ (g : Game). IsTree g.tree)) (sym (ap (λ (v : View). v.games) view)) (trees-at s (kept-reached s kept session of) n)) first between
            (subst (λ (v : View). IsSearched p.line v p.query p.filter now first between) (sym view) searched)))

        pub blocks-more : (first more : List ℕ) (between : SessionState) → here ≡ first ++ more → IsSearched p.line (view_of version) p.query p.filter now first between → BlocksTo serial kept session left searches ps more between (max greatest n)
        blocks-more first more between next searched rules s is of =
            let view = version-view s kept session of n version from at in
            block-more rules s (kept-reached s kept session of) (kept-few s kept session of fits) left searches session p ps here now greatest (so_far rules s is of) n first more between
            (subst (λ l. IsChosen (IsNamed rules s) l n) (sym (number_is rules s (kept-few s kept session of fits) p here now 0 behind stands)) (taken rules s is of n (IsChosen.read within there)))
            next (subst (λ (v : View). IsSearched p.line v p.query p.filter now first between) view searched)

-- ---- the next one, and the end

module _ (serial : Bool) (kept : Kept) (session : SessionState) (left : List ℕ) (searches : List PlacedSearch) (here : List ℕ) (now : SessionState) (greatest : ℕ) (i : ℕ) where
  abbrev At : List PlacedSearch → Type 0
  At rest = BlocksTo serial kept session left searches rest here now greatest

  pub blocks-next : (p : PlacedSearch) → i < length searches → p ≡ get_or searches i p → At (drop i searches) → At (p ∷ drop (i + 1) searches)
  blocks-next p below is so_far =
      subst At (at_drop_more (λ (l : List PlacedSearch). l) searches i p below ∙ ap (λ (q : PlacedSearch). q ∷ drop (i + 1) searches) (sym is)) so_far

  pub blocks-over : length searches ≤ i → At (drop i searches) → At []
  blocks-over past so_far = subst At (at_drop_all (λ (l : List PlacedSearch). l) searches i past) so_far

-- the greatest of numbers up to the last is one
pub greatest-low : (a b m last : ℕ) → m ≡ max a b → a ≤ last → b ≤ last → m ≤ last
greatest-low a b m last is one other = omega (arith, is, one, other)

-- a search changes no watched ones
pub search-watches : (line : ℕ) (view : View) (p : PlacedSearch) (session : SessionState) (text : List ℕ) (after : SessionState) → IsSearched line view p.query p.filter session text after → after.watches ≡ session.watches
search-watches line view p session text after searched = ap (λ (s : SessionState). s.watches) searched.fed

-- ---- the whole block

module _ (files : List File) (recorded : List ℕ) (left : List ℕ) (p : Placed) (searches : List PlacedSearch) (own : p.statement ≡ statement.Together searches) (serial : Bool) (rules : Rules) (is : rules.serial ≡ serial) (kept : Kept) (fits : FitsTogether kept) (session : SessionState) where
  pub block-passes : (here : List ℕ) (now : SessionState) (greatest : ℕ) (after : Kept) → BlocksTo serial kept session left searches [] here now greatest → greatest ≤ kept_last kept → IsRaised kept greatest after → PassesGuided files rules recorded left p kept session here after now
  block-passes here now greatest after so_far to raised s of =
      let block = so_far rules s is of in
      let guided = block-end rules s (kept-reached s kept session of) (kept-few s kept session of fits) left searches session here now greatest block in (
        [],
        block.text,
        with_session (with_floor s greatest) now,
        block.stands,
        subst (λ (o : Statement). IsGuidedPass files rules recorded s left p.line o [] block.text (with_session (with_floor s greatest) now)) (sym own)
            (greatest, now, subst (λ (from : SessionState). AreGuidedSearches rules s left searches from greatest block.text now) (sym of.session_is) guided, refl, refl),
        raised-most s kept session of greatest after now to raised,
      )

  pub block-departs-guided : (count : ℕ) → DepartsInBlock serial kept session left searches count → DepartsGuided files rules recorded left p kept session count
  block-departs-guided count departs s of used text next pass =
      let there = subst (λ (o : Statement). IsGuidedPass files rules recorded s left p.line o used text next) own pass in
      departs rules s is of there.0 text there.1 (subst (λ (from : SessionState). AreGuidedSearches rules s left searches from there.0 text there.1) of.session_is there.2)
