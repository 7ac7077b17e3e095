-- What a text is, by where its reader stands at the end, or at the greatest length.
use Rattle.std.proofs.Common.{◌≡◌, ℕ, ◌<◌, ◌≤◌, List, length, take, slice_index, Some, refl, sym, ap, ◌∙◌, subst, arith, inl, inr}
use Rattle.std.proofs.lemmas.Bool.{cases_lt}
use Rattle.std.proofs.lemmas.List.{length-map}
use Rattle.sgf_reader.specs.declared.fault.FaultKind.{FaultKind}
use Rattle.sgf_reader.specs.declared.fault.FaultKind.TheVariants as kind
use Rattle.sgf_reader.specs.declared.fault.ReadError.TheVariants.{Fault}
use Rattle.sgf_reader.specs.declared.fault.SgfFault.{SgfFault}
use Rattle.sgf_reader.specs.Limits.{most_bytes, most_games}
use Rattle.sgf_reader.specs.declared.place.Phase as phases
use Rattle.sgf_reader.specs.declared.place.Place as places
use Rattle.sgf_reader.specs.declared.place.Place.TheVariants as stands
use Rattle.sgf_reader.specs.Grammar.{SpelledGame, raw_game}
use Rattle.sgf_reader.specs.Faults.{HasFault, IsFirstFault}
use Rattle.sgf_reader.specs.Scan.{Scan, Place, Before, Within, Inside, IsOutside, begun, step, within, scan, at_start}
use Rattle.sgf_reader.specs.Reading.{View, ShowsPlace, none_open, may_begin, inside, Shows, IsWithinLimits, few_before, IsPlaceOutside}
use Rattle.sgf_reader.specs.Stays.{HasReadTo, IsNodeNext, IsPastEnd, too_many_games, too_long, StaysAt}
use Rattle.sgf_reader.proofs.LimitLaws.{ScansGameTooMany, game_too_many-at}
use Rattle.sgf_reader.proofs.Ways as ways
use Rattle.sgf_reader.proofs.ReadTo.{scan-more, HasReadTo-up_to}
use Rattle.sgf_reader.proofs.BeforeLaws.{before-back, begun-back}
use Rattle.sgf_reader.proofs.FirstFaults.{Later, at_no_game, at_ended, at_unexpected, at_limit, at_deep, at_nodes, at_games, later, Comes, not_sooner, same_scan}

before-shown : {v : View} {now : places.Place} {from : ℕ} → ShowsPlace v now (Before from) → now ≡ stands.Before from
before-shown (may_begin a b c) = refl

shown-before : {v : View} {now : places.Place} {place : Place} → ShowsPlace v now place → (from : ℕ) → now ≡ stands.Before from → place ≡ Before from
shown-before (none_open a b c) from is = absurd (cc)
shown-before (may_begin a b c) from is = cc
shown-before (inside h) from is = absurd (cc)

pub shown-within : {v : View} {now : places.Place} {place : Place} → ShowsPlace v now place → (phase : phases.Phase) → now ≡ stands.Within phase → (i : Inside) × (place ≡ Within i)
shown-within (none_open a b c) phase is = absurd (cc)
shown-within (may_begin a b c) phase is = absurd (cc)
shown-within (inside {s = i} h) phase is = (i, refl)

pub shown-outside : {v : View} {now : places.Place} {place : Place} → ShowsPlace v now place → IsPlaceOutside now → IsOutside place
shown-outside (none_open a b c) out = IsOutside.outside
shown-outside (may_begin a b c) out = IsOutside.before
shown-outside (inside h) out = absurd out

before-few : {games from : ℕ} → IsWithinLimits games (Before from) → games ≤ most_games
before-few (few_before a) = a

same_bracket : (games others : List SpelledGame) (a b : ℕ) → ways.out games (Before a) ≡ ways.out others (Before b) → a ≡ b
same_bracket games others a b e = let placed : Before a ≡ Before b = ap (λ (u : Scan). u.place) e in cc

pub game_count : (v : View) (now : places.Place) (s : Scan) → Shows v now s → length v.games ≡ length s.games
game_count v now s shows = ap length shows.games ∙ length-map s.games raw_game

-- ---- at the greatest length

module _ (text : List ℕ) (end : ℕ) (v : View) (now : places.Place) (is_end : end ≡ most_bytes) (long : end < length text) (h : HasReadTo text end v now) where
  -- a game past the limit whose bracket was read stands at the reader's place
  bracket_read : (at : ℕ) (g : ScansGameTooMany text at) → at < end → end ≤ g.root → h.reached ≡ ways.out g.games (Before at)
  bracket_read at g less low =
      let begun_at = begun-back text g.root at g.games g.there g.scans in
      let since = before-back text g.root at g.games (omega (arith, g.there)) begun_at.scans in
      same_scan text end h.reached (ways.out g.games (Before at)) h.read.scans (since.same end less low)

  node_next : (at : ℕ) (g : ScansGameTooMany text at) → at < end → end ≤ g.root → IsNodeNext text end
  node_next at g less low =
      let begun_at = begun-back text g.root at g.games g.there g.scans in
      let since = before-back text g.root at g.games (omega (arith, g.there)) begun_at.scans in
      record { semicolon = g.root; behind = low; there = g.there; white = λ k a b. since.white k (omega arith) b; here = begun_at.semicolon }

  Alone : Type 0
  Alone = (from : ℕ) → now ≡ stands.Before from → most_games ≤ length v.games → ¬ IsNodeNext text end

  refuted : Alone → (at : ℕ) (g : ScansGameTooMany text at) → at < end → end ≤ g.root → ⊥
  unfolding Alone
  refuted alone at g less low =
      let is = bracket_read at g less low in
      let place : ShowsPlace v now (Before at) = subst (λ (p : Place). ShowsPlace v now p) (ap (λ (u : Scan). u.place) is) h.shows.place in
      let count : length h.reached.games ≡ length g.games = ap (λ (u : Scan). length u.games) is in
      let shown = game_count v now h.reached h.shows in
      alone at (before-shown place) (omega (arith, g.past)) (node_next at g less low)

  first-long : Alone → (other : FaultKind) (offset : ℕ) → Later text end other offset → Comes kind.TooLong end other offset
  first-long alone other offset (at_no_game e not start) = inl (omega arith)
  first-long alone other offset (at_ended e not start) = inl (omega arith)
  first-long alone other offset (at_unexpected inner low dead) = not_sooner kind.TooLong kind.Unexpected end offset low (λ e. inr refl)
  first-long alone other offset (at_limit e past) = inr (omega arith, inl refl)
  first-long alone other offset (at_deep low g) = not_sooner kind.TooLong kind.TooDeep end offset low (λ e. inr refl)
  first-long alone other offset (at_nodes low g) = not_sooner kind.TooLong kind.TooManyNodes end offset low (λ e. inr refl)
  first-long alone other offset (at_games g low) = elim (cases_lt offset end) [
    | inl less ↦ absurd (refuted alone offset g less low)
    | inr high ↦ not_sooner kind.TooLong kind.TooManyGames end offset high (λ e. inr refl)
  ]

  long-first : Alone → IsFirstFault text kind.TooLong most_bytes
  long-first alone = record {
    there = HasFault.too_long (omega arith);
    first = λ other offset f. subst (λ (k : ℕ). Comes kind.TooLong k other offset) is_end (first-long alone other offset (later text end h.reached (omega arith) (omega arith) h.read other offset f));
  }

  first-many : (from : ℕ) → h.reached.place ≡ Before from → from < end → (other : FaultKind) (offset : ℕ) → Later text end other offset → Comes kind.TooManyGames from other offset
  first-many from place read other offset (at_no_game e not start) = inl (omega arith)
  first-many from place read other offset (at_ended e not start) = inl (omega arith)
  first-many from place read other offset (at_unexpected inner low dead) = inl (omega arith)
  first-many from place read other offset (at_limit e past) = inl (omega arith)
  first-many from place read other offset (at_deep low g) = inl (omega arith)
  first-many from place read other offset (at_nodes low g) = inl (omega arith)
  first-many from place read other offset (at_games g low) = elim (cases_lt offset end) [
    | inl less ↦
        let is : Before from ≡ Before offset = sym place ∙ ap (λ (u : Scan). u.place) (bracket_read offset g less low) in
        inr (cc, inl refl)
    | inr high ↦ inl (omega arith)
  ]

  many-first : (from : ℕ) → now ≡ stands.Before from → most_games ≤ length v.games → IsNodeNext text end → IsFirstFault text kind.TooManyGames from
  many-first from is many next =
      let place = shown-before h.shows.place from is in
      let e : scan at_start 0 (take end text) ≡ Some (ways.out h.reached.games (Before from)) = subst (λ (p : Place). scan at_start 0 (take end text) ≡ Some (ways.out h.reached.games p)) place h.read.scans in
      let read = (before-back text end from h.reached.games (omega arith) e).less in
      let on = HasReadTo-up_to text end next.semicolon v now h next.behind (omega (arith, next.there)) (λ k a b. subst (λ (p : places.Place). StaysAt p (slice_index text k)) (sym is) (next.white k a b)) in
      let there_is = shown-before on.shows.place from is in
      let few : length on.reached.games ≤ most_games = before-few (subst (λ (p : Place). IsWithinLimits (length on.reached.games) p) there_is (on.read.limits next.semicolon on.reached (omega arith) on.read.scans)) in
      let shown = game_count v now on.reached on.shows in
      let goes : step on.reached.games on.reached.place next.semicolon (slice_index text next.semicolon) ≡ within on.reached.games (begun from next.semicolon) = rw (there_is, next.here) refl in
      record {
        there = HasFault.too_many_games ((game_too_many-at text from).1 (record { root = next.semicolon; there = next.there; games = on.reached.games; scans = scan-more text next.semicolon on.reached next.there on.read.scans ∙ goes; past = omega arith }));
        first = λ other offset f. first-many from place read other offset (later text end h.reached (omega arith) (omega arith) h.read other offset f);
      }

  pub past_end-first : (f : SgfFault) → IsPastEnd v now text end (Fault f) → IsFirstFault text f.kind f.at
  unfolding Alone
  past_end-first f (too_many_games from is many next) = many-first from is many next
  past_end-first f (too_long alone) = long-first alone
