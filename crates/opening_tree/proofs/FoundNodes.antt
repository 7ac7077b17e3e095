-- What is found at the nodes of a game: entries and next moves, one node after another.
use Prim.Native.Nat.{zero}
use Rattle.std.proofs.Common.{◌≡◌, ◌≢◌, ℕ, ◌+◌, ◌-◌, ◌<◌, ◌≤◌, List, [], ◌∷◌, ◌++◌, Option, Some, None, suc, refl, sym, ap, ◌∙◌, subst, arith}
use Rattle.std.specs.Prelude.{IfSome}
use Rattle.kb_geometry.specs.declared.stone.Change.{Change}
use Rattle.kb_geometry.specs.declared.stone.Outcome.{Outcome}
use Rattle.kb_geometry.specs.Capture.{Position}
use Rattle.node_paths.proofs.Ancestors.{parent-lt}
use Rattle.game_tree.specs.declared.node.Move.{Move}
use Rattle.game_tree.specs.Position.{ArePositions}
use Rattle.game_tree.specs.Result.{outcome_of}
use Rattle.game_tree.specs.Tree as tree
use Rattle.capture_board.specs.Changes.{AreChangesOf, with_changes}
use Rattle.capture_board.specs.Deltas as deltas
use Rattle.capture_board.proofs.DeltaPaths.{position_at-step}
use Rattle.capture_board.proofs.NetChanges.{LeadFrom-none, LeadFrom-unique}
use Rattle.node_position.specs.Games.{AreNodeChanges}
use Rattle.opening_tree.specs.Entries.{AreEntriesTo, Entry, IsEntryAt, position_in}
use Rattle.opening_tree.specs.GameFrames.{IsChangedWithin, IsNextOf, IsPastAt, IsPastFrom}
use Rattle.opening_tree.specs.NextMoves.{AreNextsTo, IsNextAt, NextAt}
use Rattle.opening_tree.proofs.FramesOfGames.{move_number-above, position-there}

suc_is : (n : ℕ) → suc n ≡ n + 1
suc_is n = omega arith

-- changes that lead nowhere are none
none_from_same : (before : Position) (cs : List Change) → AreChangesOf before cs → with_changes before cs ≡ before → cs ≡ []
none_from_same before cs are made = LeadFrom-unique before before cs [] (record { changes_of = are; made = made }) (LeadFrom-none before)

module _ (depth : ℕ) (game : tree.Tree) (is_tree : tree.IsTree game) (changes : deltas.Deltas) (of : AreNodeChanges game changes) (positions : List Position) (are : ArePositions game positions) (n : ℕ) (lt : n < tree.node_count game) where
  same_parent : deltas.parent_of changes n ≡ tree.parent_of game n
  same_parent = of.lead.parents n lt

  here : deltas.position_at changes n ≡ position_in positions n
  here = position-there depth game is_tree changes of positions are n lt

  module _ (m : ℕ) (e : tree.parent_of game n ≡ Some m) where
    above : deltas.position_where changes (deltas.parent_of changes n) ≡ position_in positions m
    above =
        ap (deltas.position_where changes) (same_parent ∙ e)
        ∙ position-there depth game is_tree changes of positions are m (omega (arith, lt, parent-lt is_tree.parents n m e))

    step : position_in positions n ≡ with_changes (deltas.position_where changes (deltas.parent_of changes n)) (deltas.changes_of changes n)
    step = sym here ∙ position_at-step changes of.net n

    none_there : position_in positions n ≡ position_in positions m → deltas.changes_of changes n ≡ []
    none_there same =
        none_from_same (deltas.position_where changes (deltas.parent_of changes n)) (deltas.changes_of changes n) (of.net.changes n (omega (arith, lt, of.lead.each_node)))
        (sym step ∙ same ∙ sym above)

    -- a node that changes nothing has its parent's position
    pub same_there : deltas.changes_of changes n ≡ [] → position_in positions n ≡ position_in positions m
    same_there none = step ∙ ap (with_changes (deltas.position_where changes (deltas.parent_of changes n))) none ∙ above

  changed-differs : (o : Option ℕ) → tree.parent_of game n ≡ o → IfSome o (λ m. deltas.changes_of changes n ≢ []) → IfSome o (λ m. position_in positions n ≢ position_in positions m)
  changed-differs None e some = tt
  changed-differs (Some m) e some = λ same. some (none_there m e same)

  differs-changed : (o : Option ℕ) → tree.parent_of game n ≡ o → IfSome o (λ m. position_in positions n ≢ position_in positions m) → IfSome o (λ m. deltas.changes_of changes n ≢ [])
  differs-changed None e differ = tt
  differs-changed (Some m) e differ = λ none. differ (same_there m e none)

  pub is_entry : IsChangedWithin depth game changes n → IsEntryAt depth game positions n
  is_entry (within, some) = record {
    within = within;
    changed = changed-differs (tree.parent_of game n) refl (subst (λ (o : Option ℕ). IfSome o (λ m. deltas.changes_of changes n ≢ [])) same_parent some);
  }

  pub no_entry : ¬ IsChangedWithin depth game changes n → ¬ IsEntryAt depth game positions n
  no_entry not is = not (is.within, subst (λ (o : Option ℕ). IfSome o (λ m. deltas.changes_of changes n ≢ [])) (sym same_parent) (differs-changed (tree.parent_of game n) refl is.changed))

  -- ---- entries

  pub entries-skip : (number : ℕ) (entries : List Entry) → AreEntriesTo depth number game positions n entries → ¬ IsChangedWithin depth game changes n → AreEntriesTo depth number game positions (n + 1) entries
  entries-skip number entries to not = subst (λ k. AreEntriesTo depth number game positions k entries) (suc_is n) (AreEntriesTo.left_out to (no_entry not))

-- ---- the nodes past the depth

none-past : (depth : ℕ) (game : tree.Tree) (n : ℕ) → IsPastAt depth game n → (parent : ℕ) (played : Move) → ¬ IsNextAt depth game n parent played
none-past depth game n at parent played is =
    let e : Some at.parent ≡ Some parent = sym at.is_parent ∙ is.is_parent in
    let same : at.parent ≡ parent = cc in
    omega (arith, at.is_past, is.within, ap (tree.move_number_of game) same)

module _ (depth : ℕ) (game : tree.Tree) (is_tree : tree.IsTree game) (positions : List Position) (end : ℕ) (past : IsPastFrom depth game end) where
  pub entries-past : (number : ℕ) (entries : List Entry) (more : ℕ) → end + more ≤ tree.node_count game → AreEntriesTo depth number game positions end entries → AreEntriesTo depth number game positions (end + more) entries
  entries-past number entries zero le to = subst (λ k. AreEntriesTo depth number game positions k entries) (omega arith) to
  entries-past number entries (suc more) le to =
      let at = past.each (end + more) (omega arith) (omega (arith, le)) in
      subst (λ k. AreEntriesTo depth number game positions k entries) (omega arith)
      (AreEntriesTo.left_out (entries-past number entries more (omega (arith, le)) to)
      (λ is. omega (arith, is.within, at.is_past, move_number-above game is_tree (end + more) at.parent at.is_parent)))

  -- no entry comes behind
  pub entries-end : (number : ℕ) (entries : List Entry) → AreEntriesTo depth number game positions end entries → AreEntriesTo depth number game positions (tree.node_count game) entries
  entries-end number entries to =
      let le = past.in_game in
      subst (λ k. AreEntriesTo depth number game positions k entries) (omega (arith, le))
      (entries-past number entries (tree.node_count game - end) (omega (arith, le)) to)

  pub nexts-past : (nexts : List NextAt) (more : ℕ) → end + more ≤ tree.node_count game → AreNextsTo depth game positions end nexts → AreNextsTo depth game positions (end + more) nexts
  nexts-past nexts zero le to = subst (λ k. AreNextsTo depth game positions k nexts) (omega arith) to
  nexts-past nexts (suc more) le to =
      let at = past.each (end + more) (omega arith) (omega (arith, le)) in
      subst (λ k. AreNextsTo depth game positions k nexts) (omega arith)
      (AreNextsTo.left_out (nexts-past nexts more (omega (arith, le)) to) (none-past depth game (end + more) at))

  -- no next move comes behind
  pub nexts-end : (nexts : List NextAt) → AreNextsTo depth game positions end nexts → AreNextsTo depth game positions (tree.node_count game) nexts
  nexts-end nexts to =
      let le = past.in_game in
      subst (λ k. AreNextsTo depth game positions k nexts) (omega (arith, le))
      (nexts-past nexts (tree.node_count game - end) (omega (arith, le)) to)

-- ---- next moves

module _ (depth : ℕ) (game : tree.Tree) (positions : List Position) (n : ℕ) where
  pub nexts-skip : (nexts : List NextAt) → AreNextsTo depth game positions n nexts → ((parent : ℕ) (played : Move) → ¬ IsNextAt depth game n parent played) → AreNextsTo depth game positions (n + 1) nexts
  nexts-skip nexts to not = subst (λ k. AreNextsTo depth game positions k nexts) (suc_is n) (AreNextsTo.left_out to not)

  pub nexts-more : (nexts more : List NextAt) (next : NextAt) → AreNextsTo depth game positions n nexts → IsNextOf depth game positions n next → more ≡ nexts ++ next ∷ [] → AreNextsTo depth game positions (n + 1) more
  nexts-more nexts more next to is pushed =
      let last : ◌≡◌ {A = NextAt} next (record { canonical = next.canonical; played = next.played; outcome = outcome_of game.info.outcome_text }) =
      ap (λ (o : Outcome). record { canonical = next.canonical; played = next.played; outcome = o }) is.outcome in
      subst (λ k. AreNextsTo depth game positions k more) (suc_is n)
      (subst (AreNextsTo depth game positions (suc n)) (sym (pushed ∙ ap (λ e. nexts ++ e ∷ []) last)) (AreNextsTo.next is.parent is.played next.canonical next.played to is.is_next is.is_canonical is.in_frame))
