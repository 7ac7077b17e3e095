-- What a text is, by where its reader stands at its end.
use Rattle.std.proofs.Common.{◌≡◌, ℕ, ◌≤◌, List, length, take, Some, refl, sym, ap, ◌∙◌, subst, arith, inl, inr}
use Rattle.std.proofs.lemmas.List.{take_all}
use Rattle.sgf_reader.specs.declared.collection.Collection.{Collection}
use Rattle.sgf_reader.specs.declared.collection.RawGame.{RawGame}
use Rattle.sgf_reader.specs.declared.fault.FaultKind.{FaultKind}
use Rattle.sgf_reader.specs.declared.fault.FaultKind.TheVariants as kind
use Rattle.sgf_reader.specs.declared.fault.SgfFault.{SgfFault}
use Rattle.sgf_reader.specs.Limits.{most_bytes}
use Rattle.sgf_reader.specs.declared.place.Place as places
use Rattle.sgf_reader.specs.Grammar.{SpelledGame, SpellsGames}
use Rattle.sgf_reader.specs.Faults.{IsLive, HasTreeStart, HasFault, IsFirstFault, HasRead, IsRead}
use Rattle.sgf_reader.specs.Scan.{Scan, Place, Within, Inside, IsOutside, scan, at_start}
use Rattle.sgf_reader.specs.Reading.{View, IsPlaceOutside, IsEndFault, has_ended, has_no_game}
use Rattle.sgf_reader.specs.Stays.{HasReadTo}
use Rattle.sgf_reader.proofs.SpellsOne.{live-scans, spells-scans}
use Rattle.sgf_reader.proofs.ScansSpelled.{scans-spelled}
use Rattle.sgf_reader.proofs.EndFaults.{game_count, shown-within, shown-outside}
use Rattle.sgf_reader.proofs.FirstFaults.{Later, at_no_game, at_ended, at_unexpected, at_limit, at_deep, at_nodes, at_games, later, Comes}
use Rattle.sgf_reader.proofs.TreeStarts.{start-from_within, no_start-from_games}

only_scan : (text : List ℕ) (a b : Scan) → scan at_start 0 text ≡ Some a → scan at_start 0 text ≡ Some b → a ≡ b
only_scan text a b e f = let both : Some a ≡ Some b = sym e ∙ f in cc

inside-not_outside : (i : Inside) → IsOutside (Within i) → ⊥
inside-not_outside i h = elim h [ ]

module _ (text : List ℕ) (v : View) (now : places.Place) (short : length text ≤ most_bytes) (h : HasReadTo text (length text) v now) where
  whole : scan at_start 0 text ≡ Some h.reached
  whole = subst (λ (xs : List ℕ). scan at_start 0 xs ≡ Some h.reached) (take_all (length text) text (omega arith)) h.read.scans

  live : IsLive text
  live = (live-scans text).1 (h.reached, whole)

  -- a fault can stand at the end alone
  at_the_end : (of : FaultKind) (at : ℕ) → HasFault text of at → Later text (length text) of at
  at_the_end of at f = later text (length text) h.reached (omega arith) short h.read of at f

  -- ---- inside a tree

  not_spelled : (i : Inside) → h.reached.place ≡ Within i → (games : List SpelledGame) → ¬ SpellsGames games text
  not_spelled i place games spells =
      let s = (spells-scans games text).0 spells in
      let is = only_scan text h.reached (record { games = games; place = s.0 }) whole s.2 in
      inside-not_outside i (subst IsOutside (sym (ap (λ (u : Scan). u.place) is) ∙ place) s.1)

  start : (i : Inside) → h.reached.place ≡ Within i → HasTreeStart text
  start i place = start-from_within text h.reached.games i (subst (λ (p : Place). scan at_start 0 (take (length text) text) ≡ Some (record { games = h.reached.games; place = p })) place h.read.scans)

  first-ended : HasTreeStart text → (other : FaultKind) (offset : ℕ) → Later text (length text) other offset → Comes kind.Ended (length text) other offset
  first-ended some other offset (at_no_game e not none) = absurd (none some)
  first-ended some other offset (at_ended e not has) = inr (sym e, inl refl)
  first-ended some other offset (at_unexpected inner low dead) = absurd (omega arith)
  first-ended some other offset (at_limit e long) = absurd (omega arith)
  first-ended some other offset (at_deep low g) = absurd (omega (arith, g.there))
  first-ended some other offset (at_nodes low g) = absurd (omega (arith, g.there))
  first-ended some other offset (at_games g low) = absurd (omega (arith, g.there))

  ended-first : (i : Inside) → h.reached.place ≡ Within i → IsFirstFault text kind.Ended (length text)
  ended-first i place = record {
    there = HasFault.ended live (not_spelled i place) (start i place);
    first = λ other offset f. first-ended (start i place) other offset (at_the_end other offset f);
  }

  -- ---- without a game

  none_spelled : length h.reached.games ≡ 0 → (games : List SpelledGame) → ¬ SpellsGames games text
  none_spelled none games spells =
      let s = (spells-scans games text).0 spells in
      let is = only_scan text h.reached (record { games = games; place = s.0 }) whole s.2 in
      let same : length h.reached.games ≡ length games = ap (λ (u : Scan). length u.games) is in
      omega (arith, s.3)

  no_start : IsOutside h.reached.place → length h.reached.games ≡ 0 → ¬ HasTreeStart text
  no_start out none = λ started. no_start-from_games (scans-spelled text h.reached.games h.reached.place out whole) none started.0 started.1 started.2 started.3

  first-none : ¬ HasTreeStart text → (other : FaultKind) (offset : ℕ) → Later text (length text) other offset → Comes kind.NoGame (length text) other offset
  first-none lacks other offset (at_no_game e not none) = inr (sym e, inl refl)
  first-none lacks other offset (at_ended e not has) = absurd (lacks has)
  first-none lacks other offset (at_unexpected inner low dead) = absurd (omega arith)
  first-none lacks other offset (at_limit e long) = absurd (omega arith)
  first-none lacks other offset (at_deep low g) = absurd (omega (arith, g.there))
  first-none lacks other offset (at_nodes low g) = absurd (omega (arith, g.there))
  first-none lacks other offset (at_games g low) = absurd (omega (arith, g.there))

  none-first : IsOutside h.reached.place → length h.reached.games ≡ 0 → IsFirstFault text kind.NoGame (length text)
  none-first out none = record {
    there = HasFault.no_game live (none_spelled none) (no_start out none);
    first = λ other offset f. first-none (no_start out none) other offset (at_the_end other offset f);
  }

  pub end-first : (f : SgfFault) → IsEndFault v now (length text) f → IsFirstFault text f.kind f.at
  end-first f (has_ended phase is) = (let i = shown-within h.shows.place phase is in ended-first i.0 i.1)
  end-first f (has_no_game out none) =
      let shown = game_count v now h.reached h.shows in
      let count : length v.games ≡ 0 = ap length none in
      none-first (shown-outside h.shows.place out) (omega arith)

  -- ---- with games

  spelled : IsOutside h.reached.place → 1 ≤ length h.reached.games → SpellsGames h.reached.games text
  spelled out some = (spells-scans h.reached.games text).1 (h.reached.place, out, whole, some)

  faultless : SpellsGames h.reached.games text → (of : FaultKind) (at : ℕ) → Later text (length text) of at → ⊥
  faultless spells of at (at_no_game e not none) = not h.reached.games spells
  faultless spells of at (at_ended e not has) = not h.reached.games spells
  faultless spells of at (at_unexpected inner low dead) = omega arith
  faultless spells of at (at_limit e long) = omega arith
  faultless spells of at (at_deep low g) = omega (arith, g.there)
  faultless spells of at (at_nodes low g) = omega (arith, g.there)
  faultless spells of at (at_games g low) = omega (arith, g.there)

  pub end-read : (collection : Collection) → collection ≡ record { games = v.games } → 1 ≤ length v.games → IsPlaceOutside now → IsRead text collection
  end-read collection is some out =
      let shown = game_count v now h.reached h.shows in
      let spells = spelled (shown-outside h.shows.place out) (omega arith) in
      let read : HasRead text h.reached.games = record { spells = spells; no_fault = λ of at f. faultless spells of at (at_the_end of at f) } in
      (h.reached.games, read, is ∙ ap (λ (gs : List RawGame). record { games = gs }) h.shows.games)
