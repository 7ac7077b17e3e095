-- Which fault of a text is the first.
use Rattle.std.proofs.Common.{◌≡◌, ◌⊎◌, ℕ, ◌+◌, ◌<◌, ◌≤◌, List, [], ◌∷◌, length, take, Some, refl, sym, ap, ◌∙◌, subst, arith, inl, inr, length-append}
use Rattle.std.proofs.Math.Nat.{eq-or-lt_of_le}
use Rattle.std.proofs.lemmas.Bool.{cases_lt}
use Rattle.sgf_reader.specs.declared.fault.FaultKind.{FaultKind}
use Rattle.sgf_reader.specs.declared.fault.FaultKind.TheVariants as kind
use Rattle.sgf_reader.specs.Limits.{most_bytes, most_games, most_nodes, most_open}
use Rattle.sgf_reader.specs.Grammar.{SpelledGame, SpellsGames}
use Rattle.sgf_reader.specs.Faults.{IsLive, HasTreeStart, HasFault}
use Rattle.sgf_reader.specs.Scan.{Scan, Before, Within, Inside, begun, within, scan, at_start}
use Rattle.sgf_reader.specs.Reading.{IsWithinLimits, few_inside}
use Rattle.sgf_reader.specs.Stays.{IsReadTo}
use Rattle.sgf_reader.proofs.SpellsOne.{live-scans}
use Rattle.sgf_reader.proofs.LimitLaws.{ScansTooDeep, ScansNodeTooMany, ScansGameTooMany, too_deep-at, node_too_many-at, game_too_many-at}
use Rattle.sgf_reader.proofs.Ways.{inside, out}
use Rattle.sgf_reader.proofs.BeforeLaws.{before-back, begun-back, scans-prefix}

-- A fault of a text of which the first bytes, so many, are within the limits. It stands there or later, but for the
-- bracket of a game whose `;` stands later.
pub data Later (text : List ℕ) (count : ℕ) : FaultKind → ℕ → Type 0 where
  at_no_game : {at : ℕ} → at ≡ length text → ((games : List SpelledGame) → ¬ SpellsGames games text) → ¬ HasTreeStart text → Later text count kind.NoGame at
  at_ended : {at : ℕ} → at ≡ length text → ((games : List SpelledGame) → ¬ SpellsGames games text) → HasTreeStart text → Later text count kind.Ended at
  at_unexpected : {at : ℕ} → at < length text → count ≤ at → ¬ IsLive (take (at + 1) text) → Later text count kind.Unexpected at
  at_limit : {at : ℕ} → at ≡ most_bytes → most_bytes < length text → Later text count kind.TooLong at
  at_deep : {at : ℕ} → count ≤ at → ScansTooDeep text at → Later text count kind.TooDeep at
  at_nodes : {at : ℕ} → count ≤ at → ScansNodeTooMany text at → Later text count kind.TooManyNodes at
  at_games : {at : ℕ} (h : ScansGameTooMany text at) → count ≤ h.root → Later text count kind.TooManyGames at

deep-limit : {games : ℕ} {s : Inside} → IsWithinLimits games (Within s) → length s.parents ≤ most_open
deep-limit (few_inside a b c) = b

nodes-limit : {games : ℕ} {s : Inside} → IsWithinLimits games (Within s) → length s.nodes ≤ most_nodes
nodes-limit (few_inside a b c) = c

games-limit : {games : ℕ} {s : Inside} → IsWithinLimits games (Within s) → games < most_games
games-limit (few_inside a b c) = a

module _ (text : List ℕ) (count : ℕ) (s : Scan) (there : count ≤ length text) (short : count ≤ most_bytes) (read : IsReadTo text count s) where
  -- what is scanned is live
  scanned-live : (k : ℕ) → k ≤ count → IsLive (take k text)
  scanned-live k low = (live-scans (take k text)).1 (scans-prefix text k count s low there read.scans)

  past-unexpected : (at : ℕ) → at < length text → ¬ IsLive (take (at + 1) text) → Later text count kind.Unexpected at
  past-unexpected at within dead = elim (cases_lt at count) [
    | inl low ↦ absurd (dead (scanned-live (at + 1) (omega arith)))
    | inr high ↦ at_unexpected within high dead
  ]

  past-deep : (at : ℕ) → ScansTooDeep text at → Later text count kind.TooDeep at
  past-deep at h = elim (cases_lt at count) [
    | inl low ↦ (let most = deep-limit (read.limits (at + 1) (inside h.games h.inside) (omega arith) h.scans) in absurd (omega (arith, h.past)))
    | inr high ↦ at_deep high h
  ]

  past-nodes : (at : ℕ) → ScansNodeTooMany text at → Later text count kind.TooManyNodes at
  past-nodes at h = elim (cases_lt at count) [
    | inl low ↦ (let most = nodes-limit (read.limits (at + 1) (inside h.games h.inside) (omega arith) h.scans) in let long = ap length h.nodes ∙ length-append h.before (h.node ∷ []) in absurd (omega (arith, h.past)))
    | inr high ↦ at_nodes high h
  ]

  past-games : (at : ℕ) → ScansGameTooMany text at → Later text count kind.TooManyGames at
  past-games at h = elim (cases_lt h.root count) [
    | inl low ↦ (let most = games-limit (read.limits (h.root + 1) (inside h.games (begun at h.root)) (omega arith) h.scans) in absurd (omega (arith, h.past)))
    | inr high ↦ at_games h high
  ]

  pub later : (of : FaultKind) (at : ℕ) → HasFault text of at → Later text count of at
  later of at (HasFault.no_game live not none) = at_no_game refl not none
  later of at (HasFault.ended live not some) = at_ended refl not some
  later of at (HasFault.unexpected within live dead) = past-unexpected at within dead
  later of at (HasFault.too_long long) = at_limit refl long
  later of at (HasFault.too_deep h) = past-deep at ((too_deep-at text at).0 h)
  later of at (HasFault.too_many_nodes h) = past-nodes at ((node_too_many-at text at).0 h)
  later of at (HasFault.too_many_games h) = past-games at ((game_too_many-at text at).0 h)

-- the fault at this offset comes before the other one, or is it, or is TooLong
abbrev pub Comes : FaultKind → ℕ → FaultKind → ℕ → Type 0
Comes of at other offset = (at < offset) ⊎ ((at ≡ offset) × ((other ≡ of) ⊎ (of ≡ kind.TooLong)))

pub not_sooner : (of other : FaultKind) (at offset : ℕ) → at ≤ offset → (at ≡ offset → (other ≡ of) ⊎ (of ≡ kind.TooLong)) → Comes of at other offset
not_sooner of other at offset low same = elim (eq-or-lt_of_le low) [ inl e ↦ inr (e, same e) | inr less ↦ inl less ]

pub same_scan : (text : List ℕ) (k : ℕ) (a b : Scan) → scan at_start 0 (take k text) ≡ Some a → scan at_start 0 (take k text) ≡ Some b → a ≡ b
same_scan text k a b e f = let both : Some a ≡ Some b = sym e ∙ f in cc

pub same_inside : (games others : List SpelledGame) (i j : Inside) → inside games i ≡ inside others j → i ≡ j
same_inside games others i j e = let places : Within i ≡ Within j = ap (λ (u : Scan). u.place) e in cc

pub not_within : (games others : List SpelledGame) (i : Inside) (from : ℕ) → inside games i ≡ out others (Before from) → ⊥
not_within games others i from e = let places : Within i ≡ Before from = ap (λ (u : Scan). u.place) e in cc

-- a game whose bracket isn't behind this byte begins with it, if the byte leads into a tree
pub begins_here : (text : List ℕ) (count : ℕ) (games : List SpelledGame) (i : Inside) → count < length text → scan at_start 0 (take (count + 1) text) ≡ Some (inside games i) → (at : ℕ) (h : ScansGameTooMany text at) → count ≤ h.root → at ≤ count → i ≡ begun at count
begins_here text count games i there e at h low before = elim (eq-or-lt_of_le low) [
  | inl same ↦
      let other : scan at_start 0 (take (count + 1) text) ≡ Some (inside h.games (begun at count)) = subst (λ (k : ℕ). scan at_start 0 (take (k + 1) text) ≡ Some (inside h.games (begun at k))) (sym same) h.scans in
      same_inside games h.games i (begun at count) (same_scan text (count + 1) _ _ e other)
  | inr less ↦
      let begun_at = begun-back text h.root at h.games h.there h.scans in
      let since = before-back text h.root at h.games (omega (arith, h.there)) begun_at.scans in
      absurd (not_within games h.games i at (same_scan text (count + 1) _ _ e (since.same (count + 1) (omega arith) (omega arith))))
]
