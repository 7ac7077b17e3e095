-- What is kept of a state of the run, when a version was named, and which numbers may be named there.
use Rattle.std.proofs.Common.{◌≡◌, ◌∙◌, ℕ, ◌+◌, ◌-◌, ◌^◌, ◌<◌, ◌≤◌, if◌then◌else◌, List, ◌++◌, All, drop, length, length-drop, max, min, take, refl, sym, ap, ap₂, subst, arith}
use Rattle.std.proofs.lemmas.List.{drop-drop}
use Rattle.std.proofs.Math.Seq.{take-add}
use Rattle.node_position.specs.Games.{Game}
use Rattle.version_publisher.specs.Contents.{items_in}
use Rattle.version_publisher.specs.declared.state.VersionState.{VersionState}
use Rattle.import_work.specs.Log.{Segment, games_at}
use Rattle.import_segments.proofs.PushedSegments.{items_in-games_of_segments}
use Rattle.query_script.specs.declared.statement.Statement.{Statement}
use Rattle.query_script.specs.declared.statement.Statement.TheVariants as statement
use Rattle.session_core.specs.Answers.{View}
use Rattle.session_core.specs.Lawful.{IsNamed, Rules, State, last_of, view_at, with_floor, with_session}
use Rattle.session_core.specs.SessionState.{SessionState}
use Rattle.session_core.specs.Stores.{view_of}
use Rattle.session_core.specs.Watches.{IsWatchOf}
use Rattle.session_core.proofs.WatchLemmas.{fit-grown}
use Rattle.session_core.proofs.WholeOutputs.{IsReached}
use Rattle.run_audit.specs.Asked.{least_asked}
use Rattle.run_audit.specs.Chosen.{IsChosen}
use Rattle.run_audit.specs.Guided.{MayName}
use Rattle.run_audit.specs.Standing.{FitsFloor, FitsTogether, IsKeptOf, IsRaised, IsVersionAt, IsWithin, Kept, kept_last, least_awaited, least_named}
use Rattle.run_audit.proofs.BaseSteps.{items-append}
use Rattle.run_audit.proofs.ChosenNumbers.{chosen-same, first_of, late_awaited, least_late, named-within, reached-within, within-named}

module _ (s : State) (kept : Kept) (session : SessionState) (of : IsKeptOf s kept session) where
  pub kept-reached : IsReached s
  kept-reached = record { floor = of.within; trees = of.trees }

  pub kept-last : kept_last kept ≡ last_of s
  kept-last = omega (arith, of.floor, of.within, ap length of.ahead, length-drop s.floor s.log)

  pub kept-few : FitsTogether kept → last_of s < 2 ^ 64
  kept-few fits = omega (arith, kept-last, fits.number)

  -- ---- a version is named

  -- the games of the version with this number
  kept_games_at : (n : ℕ) → s.floor ≤ n → items_in kept.held.parts ++ items_in (take (n - kept.held.number) kept.ahead) ≡ games_at s.log n
  kept_games_at n from =
      let count : ℕ = n - s.floor in
      let same : n - kept.held.number ≡ count = ap (λ (k : ℕ). n - k) of.floor in
      let whole : s.floor + count ≡ n = omega (arith, from) in
      ap₂ (λ (games : List Game) (more : List Segment). games ++ items_in more)
      (of.games ∙ sym (items_in-games_of_segments (take s.floor s.log)))
      (ap₂ (λ (k : ℕ) (l : List Segment). take k l) same of.ahead)
      ∙ sym (items-append (take s.floor s.log) (take count (drop s.floor s.log)))
      ∙ ap items_in (sym (take-add s.floor count s.log) ∙ ap (λ (k : ℕ). take k s.log) whole)
      ∙ items_in-games_of_segments (take n s.log)

  -- so it is what is seen of the base in a version with these games
  pub version-view : (n : ℕ) (version : VersionState Game) → kept.held.number ≤ n → IsVersionAt kept n version → view_of version ≡ view_at s n
  version-view n version from at =
      let games = at.games ∙ kept_games_at n (omega (arith, from, of.floor)) in
      let number = at.number_is in
      λ i. record { version = number i; games = games i }

  module _ (n : ℕ) (after : Kept) (from : kept.held.number ≤ n) (to : n ≤ kept_last kept) (raised : IsRaised kept n after) where
    raised_number : after.held.number ≡ n
    raised_number = omega (arith, raised.floor, from)

    -- what is seen of the base there
    pub raised-view : view_of after.held ≡ view_at s n
    raised-view =
        let games =
        raised.held.games
        ∙ ap (λ (k : ℕ). items_in kept.held.parts ++ items_in (take (k - kept.held.number) kept.ahead)) raised_number
        ∙ kept_games_at n (omega (arith, from, of.floor)) in
        λ i. record { version = raised_number i; games = games i }

    -- this is kept of the state after it
    pub raised-kept : (leaves : SessionState) → IsKeptOf (with_session (with_floor s n) leaves) after leaves
    raised-kept leaves =
        let floor : after.held.number ≡ max s.floor n = raised.floor ∙ ap (λ (k : ℕ). max k n) of.floor in
        let rest : ℕ = n - kept.held.number in
        let sum : s.floor + rest ≡ max s.floor n = omega (arith, from, of.floor) in
        let is_n : n ≡ max s.floor n = omega (arith, from, of.floor) in record {
          floor = floor;
          games = ap (λ (v : View). v.games) raised-view ∙ ap (games_at s.log) is_n;
          ahead = raised.ahead ∙ ap (drop rest) of.ahead ∙ drop-drop rest s.floor s.log ∙ ap (λ (k : ℕ). drop k s.log) sum;
          within = omega (arith, of.within, to, kept-last);
          waiting = raised.waiting ∙ of.waiting;
          session_is = refl;
          trees = of.trees;
        }

  -- the greatest of several numbers was named, or none was
  pub raised-most : (n : ℕ) (after : Kept) (leaves : SessionState) → n ≤ kept_last kept → IsRaised kept n after → IsKeptOf (with_session (with_floor s n) leaves) after leaves
  raised-most n after leaves to raised =
      let m : ℕ = max kept.held.number n in
      let up : IsRaised kept m after = record {
        floor = omega (arith, raised.floor);
        held = raised.held;
        ahead = raised.ahead ∙ ap (λ (k : ℕ). drop k kept.ahead) (omega arith);
        counts = raised.counts;
        waiting = raised.waiting;
      } in
      let there = raised-kept m after (omega arith) (omega (arith, to)) up leaves in
      let floor : max s.floor m ≡ max s.floor n = omega (arith, of.floor) in
      subst (λ (k : ℕ). IsKeptOf (record { log = s.log; floor = k; waiting = s.waiting; session = leaves }) after leaves) floor there

  -- ---- the numbers that may be named

  least-named : (rules : Rules) → least_named rules.serial kept ≡ first_of rules.serial s s.floor
  least-named rules = λ i. if rules.serial then kept-last i else of.floor i

  least-awaited : (rules : Rules) (awaited : ℕ) → least_awaited rules.serial kept awaited ≡ first_of rules.serial s (least_late s awaited)
  least-awaited rules awaited = λ i. if rules.serial then kept-last i else max (of.floor i) (min awaited (kept-last i))

  module _ (rules : Rules) where
    within_is : (least other n : ℕ) → least ≡ other → IsWithin least (kept_last kept) n → IsWithin other (last_of s) n
    within_is least other n same w = subst (λ (k : ℕ). IsWithin k (last_of s) n) same (subst (λ (k : ℕ). IsWithin least k n) kept-last w)

    is_within : (least other n : ℕ) → least ≡ other → IsWithin other (last_of s) n → IsWithin least (kept_last kept) n
    is_within least other n same w = subst (λ (k : ℕ). IsWithin k (kept_last kept) n) (sym same) (subst (λ (k : ℕ). IsWithin other k n) (sym kept-last) w)

    named_may : (n : ℕ) → IsWithin (least_named rules.serial kept) (kept_last kept) n → IsNamed rules s n
    named_may n w =
        let le : s.floor ≤ s.floor = omega arith in
        named-within rules s rules.serial s.floor n refl of.within le (within_is (least_named rules.serial kept) (first_of rules.serial s s.floor) n (least-named rules) w)

    may_named : (n : ℕ) → IsNamed rules s n → IsWithin (least_named rules.serial kept) (kept_last kept) n
    may_named n h = is_within (least_named rules.serial kept) (first_of rules.serial s s.floor) n (least-named rules) (within-named rules s rules.serial s.floor n refl h h.from)

    pub within-may : (own : Statement) (n : ℕ) → IsWithin (least_asked rules.serial kept own) (kept_last kept) n → MayName rules s own n
    within-may (statement.Until awaited) n w =
        let least = least_late s awaited in
        let le : s.floor ≤ least = omega arith in
        let there = within_is (least_awaited rules.serial kept awaited) (first_of rules.serial s least) n (least-awaited rules awaited) w in
        record { named = named-within rules s rules.serial least n refl of.within le there; reached = reached-within rules s rules.serial awaited n there }
    within-may (statement.Import path) n w = named_may n w
    within-may (statement.Make games start) n w = named_may n w
    within-may statement.Wait n w = named_may n w
    within-may (statement.Together searches) n w = named_may n w
    within-may (statement.Search query filter) n w = named_may n w
    within-may (statement.Kept query) n w = named_may n w
    within-may (statement.Signature pattern) n w = named_may n w
    within-may statement.Players n w = named_may n w
    within-may statement.Doubles n w = named_may n w
    within-may (statement.Game number) n w = named_may n w
    within-may (statement.Opening shape depth least) n w = named_may n w
    within-may statement.Report n w = named_may n w
    within-may (statement.Retire name) n w = named_may n w
    within-may (statement.Watch name query filter) n w = named_may n w
    within-may (statement.Watched name) n w = named_may n w

    pub may-within : (own : Statement) (n : ℕ) → MayName rules s own n → IsWithin (least_asked rules.serial kept own) (kept_last kept) n
    may-within (statement.Until awaited) n h =
        is_within (least_awaited rules.serial kept awaited) (first_of rules.serial s (least_late s awaited)) n (least-awaited rules awaited)
        (within-named rules s rules.serial (least_late s awaited) n refl h.named (late_awaited rules s awaited n h))
    may-within (statement.Import path) n h = may_named n h
    may-within (statement.Make games start) n h = may_named n h
    may-within statement.Wait n h = may_named n h
    may-within (statement.Together searches) n h = may_named n h
    may-within (statement.Search query filter) n h = may_named n h
    may-within (statement.Kept query) n h = may_named n h
    may-within (statement.Signature pattern) n h = may_named n h
    may-within statement.Players n h = may_named n h
    may-within statement.Doubles n h = may_named n h
    may-within (statement.Game number) n h = may_named n h
    may-within (statement.Opening shape depth least) n h = may_named n h
    may-within statement.Report n h = may_named n h
    may-within (statement.Retire name) n h = may_named n h
    may-within (statement.Watch name query filter) n h = may_named n h
    may-within (statement.Watched name) n h = may_named n h

    -- the number that is taken
    pub chosen-may : (own : Statement) (left : List ℕ) (n : ℕ) → IsChosen (IsWithin (least_asked rules.serial kept own) (kept_last kept)) left n → IsChosen (MayName rules s own) left n
    chosen-may own left n = chosen-same (IsWithin (least_asked rules.serial kept own) (kept_last kept)) (MayName rules s own) (within-may own) (may-within own) left n

    pub chosen-named : (left : List ℕ) (n : ℕ) → IsChosen (IsWithin (least_named rules.serial kept) (kept_last kept)) left n → IsChosen (IsNamed rules s) left n
    chosen-named left n = chosen-same (IsWithin (least_named rules.serial kept) (kept_last kept)) (IsNamed rules s) named_may may_named left n

-- the watched searches fit the version at the floor also when it was raised
pub raised-watched : (kept after : Kept) (n : ℕ) (session leaves : SessionState) → IsRaised kept n after → leaves.watches ≡ session.watches → FitsFloor kept session → FitsFloor after leaves
raised-watched kept after n session leaves raised same fit =
    fit-grown (items_in kept.held.parts) (items_in after.held.parts) leaves (items_in (take (after.held.number - kept.held.number) kept.ahead), sym raised.held.games)
    (subst (All (IsWatchOf (items_in kept.held.parts))) (sym same) fit)
