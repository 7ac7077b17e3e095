-- The fault at the first byte that leads the scan no further, or past a limit, is the text's first.
use Rattle.std.proofs.Common.{◌≡◌, ℕ, ◌+◌, ◌<◌, ◌≤◌, List, [], ◌∷◌, length, take, slice_index, Option, Some, None, refl, sym, ap, ◌∙◌, subst, arith, inl, inr, length-append}
use Rattle.std.proofs.lemmas.Bool.{cases_lt}
use Rattle.sgf_reader.specs.declared.fault.FaultKind.{FaultKind}
use Rattle.sgf_reader.specs.declared.fault.FaultKind.TheVariants as kind
use Rattle.sgf_reader.specs.declared.fault.SgfFault.{SgfFault}
use Rattle.sgf_reader.specs.Limits.{most_bytes, most_games, most_nodes, most_open}
use Rattle.sgf_reader.specs.Faults.{IsLive, HasFault, IsFirstFault}
use Rattle.sgf_reader.specs.Scan.{Scan, Place, Before, Inside, Opened, InNode, with_node, with_bracket, begun, step, within, scan, at_start}
use Rattle.sgf_reader.specs.Reading.{Fails, refused, too_deep, too_many_nodes, too_many_games}
use Rattle.sgf_reader.specs.Stays.{IsReadTo, FailsIn}
use Rattle.sgf_reader.proofs.SpellsOne.{live-scans}
use Rattle.sgf_reader.proofs.LimitLaws.{too_deep-at, node_too_many-at, game_too_many-at}
use Rattle.sgf_reader.proofs.Ways.{inside, out}
use Rattle.sgf_reader.proofs.ReadTo.{scan-more}
use Rattle.sgf_reader.proofs.BeforeLaws.{before-back, scans-prefix}
use Rattle.sgf_reader.proofs.FirstFaults.{Later, at_no_game, at_ended, at_unexpected, at_limit, at_deep, at_nodes, at_games, later, Comes, not_sooner, same_scan, same_inside, begins_here}

no_scan : (s : Scan) → None ≡ Some s → ⊥
no_scan s e = cc

other_phase : (at : ℕ) → Opened at ≡ InNode → ⊥
other_phase at e = cc

module _ (text : List ℕ) (count : ℕ) (s : Scan) (there : count < length text) (short : count < most_bytes) (read : IsReadTo text count s) where
  -- nothing is scanned past a byte that is refused
  stuck : step s.games s.place count (slice_index text count) ≡ None → (to : ℕ) (t : Scan) → count < to → to ≤ length text → scan at_start 0 (take to text) ≡ Some t → ⊥
  stuck none to t low high e =
      let here = scans-prefix text (count + 1) to t (omega arith) high e in
      no_scan here.0 (sym none ∙ (sym (scan-more text count s there read.scans) ∙ here.1))

  first-refused : step s.games s.place count (slice_index text count) ≡ None → (other : FaultKind) (offset : ℕ) → Later text count other offset → Comes kind.Unexpected count other offset
  first-refused none other offset (at_no_game e not start) = inl (omega arith)
  first-refused none other offset (at_ended e not start) = inl (omega arith)
  first-refused none other offset (at_unexpected within low dead) = not_sooner kind.Unexpected kind.Unexpected count offset low (λ e. inl refl)
  first-refused none other offset (at_limit e long) = inl (omega arith)
  first-refused none other offset (at_deep low h) = absurd (stuck none (offset + 1) (inside h.games h.inside) (omega arith) (omega (arith, h.there)) h.scans)
  first-refused none other offset (at_nodes low h) = absurd (stuck none (offset + 1) (inside h.games h.inside) (omega arith) (omega (arith, h.there)) h.scans)
  first-refused none other offset (at_games h low) = absurd (stuck none (h.root + 1) (inside h.games (begun offset h.root)) (omega arith) (omega (arith, h.there)) h.scans)

  refused-first : step s.games s.place count (slice_index text count) ≡ None → IsFirstFault text kind.Unexpected count
  refused-first none =
      let dead : ¬ IsLive (take (count + 1) text) = λ live. (let t = (live-scans (take (count + 1) text)).0 live in stuck none (count + 1) t.0 (omega arith) (omega arith) t.1) in
      record {
        there = HasFault.unexpected there ((live-scans (take count text)).1 (s, read.scans)) dead;
        first = λ other offset h. first-refused none other offset (later text count s (omega arith) (omega arith) read other offset h);
      }

  -- the byte leads on into a tree, and so is live
  leads_on : (i : Inside) → step s.games s.place count (slice_index text count) ≡ within s.games i → scan at_start 0 (take (count + 1) text) ≡ Some (inside s.games i)
  leads_on i goes = scan-more text count s there read.scans ∙ goes

  not_dead : (i : Inside) → step s.games s.place count (slice_index text count) ≡ within s.games i → (offset : ℕ) → count ≡ offset → ¬ IsLive (take (offset + 1) text) → ⊥
  not_dead i goes offset same dead = dead (subst (λ (k : ℕ). IsLive (take (k + 1) text)) same ((live-scans (take (count + 1) text)).1 (inside s.games i, leads_on i goes)))

  here : (offset : ℕ) (t : Scan) → count ≡ offset → scan at_start 0 (take (offset + 1) text) ≡ Some t → scan at_start 0 (take (count + 1) text) ≡ Some t
  here offset t same e = subst (λ (k : ℕ). scan at_start 0 (take (k + 1) text) ≡ Some t) (sym same) e

  first-deep : (i : Inside) → step s.games s.place count (slice_index text count) ≡ within s.games (with_bracket i count) → (other : FaultKind) (offset : ℕ) → Later text count other offset → Comes kind.TooDeep count other offset
  first-deep i goes other offset (at_no_game e not start) = inl (omega arith)
  first-deep i goes other offset (at_ended e not start) = inl (omega arith)
  first-deep i goes other offset (at_unexpected inner low dead) = not_sooner kind.TooDeep kind.Unexpected count offset low (λ same. absurd (not_dead (with_bracket i count) goes offset same dead))
  first-deep i goes other offset (at_limit e long) = inl (omega arith)
  first-deep i goes other offset (at_deep low h) = not_sooner kind.TooDeep kind.TooDeep count offset low (λ e. inl refl)
  first-deep i goes other offset (at_nodes low h) = not_sooner kind.TooDeep kind.TooManyNodes count offset low (λ same.
      let is = same_inside s.games h.games (with_bracket i count) h.inside (same_scan text (count + 1) _ _ (leads_on (with_bracket i count) goes) (here offset (inside h.games h.inside) same h.scans)) in
      absurd (other_phase count (ap (λ (j : Inside). j.phase) is ∙ h.phase)))
  first-deep i goes other offset (at_games h low) = elim (cases_lt count offset) [
    | inl less ↦ inl less
    | inr past ↦ absurd (other_phase count (ap (λ (j : Inside). j.phase) (begins_here text count s.games (with_bracket i count) there (leads_on (with_bracket i count) goes) offset h low past)))
  ]

  deep-first : (i : Inside) → step s.games s.place count (slice_index text count) ≡ within s.games (with_bracket i count) → length i.parents ≡ most_open → IsFirstFault text kind.TooDeep count
  deep-first i goes most = record {
    there = HasFault.too_deep ((too_deep-at text count).1 (record { there = there; games = s.games; inside = with_bracket i count; scans = leads_on (with_bracket i count) goes; phase = refl; past = omega arith }));
    first = λ other offset h. first-deep i goes other offset (later text count s (omega arith) (omega arith) read other offset h);
  }

  first-nodes : (i : Inside) (opened : Option ℕ) → step s.games s.place count (slice_index text count) ≡ within s.games (with_node i opened count) → length i.nodes ≡ most_nodes → (other : FaultKind) (offset : ℕ) → Later text count other offset → Comes kind.TooManyNodes count other offset
  first-nodes i opened goes most other offset (at_no_game e not start) = inl (omega arith)
  first-nodes i opened goes most other offset (at_ended e not start) = inl (omega arith)
  first-nodes i opened goes most other offset (at_unexpected inner low dead) = not_sooner kind.TooManyNodes kind.Unexpected count offset low (λ same. absurd (not_dead (with_node i opened count) goes offset same dead))
  first-nodes i opened goes most other offset (at_limit e long) = inl (omega arith)
  first-nodes i opened goes most other offset (at_deep low h) = not_sooner kind.TooManyNodes kind.TooDeep count offset low (λ same.
      let is = same_inside s.games h.games (with_node i opened count) h.inside (same_scan text (count + 1) _ _ (leads_on (with_node i opened count) goes) (here offset (inside h.games h.inside) same h.scans)) in
      absurd (other_phase offset (sym (ap (λ (j : Inside). j.phase) is ∙ h.phase))))
  first-nodes i opened goes most other offset (at_nodes low h) = not_sooner kind.TooManyNodes kind.TooManyNodes count offset low (λ e. inl refl)
  first-nodes i opened goes most other offset (at_games h low) = elim (cases_lt count offset) [
    | inl less ↦ inl less
    | inr past ↦
        let is = begins_here text count s.games (with_node i opened count) there (leads_on (with_node i opened count) goes) offset h low past in
        let long : length (with_node i opened count).nodes ≡ 1 = ap (λ (j : Inside). length j.nodes) is in
        let longer = length-append i.nodes (record { opened = opened; at = count; depth = length i.parents; parent = i.last; pairs = [] } ∷ []) in
        absurd (omega arith)
  ]

  nodes-first : (i : Inside) (opened : Option ℕ) → step s.games s.place count (slice_index text count) ≡ within s.games (with_node i opened count) → length i.nodes ≡ most_nodes → IsFirstFault text kind.TooManyNodes count
  nodes-first i opened goes most = record {
    there = HasFault.too_many_nodes ((node_too_many-at text count).1 (record { there = there; games = s.games; inside = with_node i opened count; scans = leads_on (with_node i opened count) goes; phase = refl; before = i.nodes; node = record { opened = opened; at = count; depth = length i.parents; parent = i.last; pairs = [] }; nodes = refl; past = most; here = refl; no_pair = refl }));
    first = λ other offset h. first-nodes i opened goes most other offset (later text count s (omega arith) (omega arith) read other offset h);
  }

  first-games : (from : ℕ) → from < count → step s.games s.place count (slice_index text count) ≡ within s.games (begun from count) → (other : FaultKind) (offset : ℕ) → Later text count other offset → Comes kind.TooManyGames from other offset
  first-games from low_from goes other offset (at_no_game e not start) = inl (omega arith)
  first-games from low_from goes other offset (at_ended e not start) = inl (omega arith)
  first-games from low_from goes other offset (at_unexpected inner low dead) = inl (omega arith)
  first-games from low_from goes other offset (at_limit e long) = inl (omega arith)
  first-games from low_from goes other offset (at_deep low h) = inl (omega arith)
  first-games from low_from goes other offset (at_nodes low h) = inl (omega arith)
  first-games from low_from goes other offset (at_games h low) = elim (cases_lt from offset) [
    | inl less ↦ inl less
    | inr past ↦
        let is = begins_here text count s.games (begun from count) there (leads_on (begun from count) goes) offset h low (omega arith) in
        inr (ap (λ (j : Inside). j.at) is, inl refl)
  ]

  before-less : (from : ℕ) → s.place ≡ Before from → from < count
  before-less from place =
      let e : scan at_start 0 (take count text) ≡ Some (out s.games (Before from)) = subst (λ (p : Place). scan at_start 0 (take count text) ≡ Some (out s.games p)) place read.scans in
      (before-back text count from s.games (omega arith) e).less

  games-first : (from : ℕ) → s.place ≡ Before from → step s.games s.place count (slice_index text count) ≡ within s.games (begun from count) → length s.games ≡ most_games → IsFirstFault text kind.TooManyGames from
  games-first from place goes most = record {
    there = HasFault.too_many_games ((game_too_many-at text from).1 (record { root = count; there = there; games = s.games; scans = leads_on (begun from count) goes; past = most }));
    first = λ other offset h. first-games from (before-less from place) goes other offset (later text count s (omega arith) (omega arith) read other offset h);
  }

  fails-first : (f : SgfFault) → Fails s count (slice_index text count) f → IsFirstFault text f.kind f.at
  fails-first f (refused none) = refused-first none
  fails-first f (too_deep i goes most) = deep-first i goes most
  fails-first f (too_many_nodes i opened goes most) = nodes-first i opened goes most
  fails-first f (too_many_games from place goes most) = games-first from place goes most

-- a fault in the bytes that were read is the text's first
pub IsFirstFault-in : (text : List ℕ) (end : ℕ) (f : SgfFault) → end ≤ length text → end ≤ most_bytes → FailsIn text end f → IsFirstFault text f.kind f.at
IsFirstFault-in text end f there short h = fails-first text h.count h.reached (omega (arith, h.there)) (omega (arith, h.there)) h.read f h.fails
