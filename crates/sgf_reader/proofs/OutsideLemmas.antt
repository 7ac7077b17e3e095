-- One byte outside trees leads the reader to what the scan's step gives.
use Rattle.std.proofs.Common.{◌≡◌, ◌≢◌, ◌⊎◌, ℕ, ◌<◌, ◌≤◌, List, [], ◌∷◌, length, map, Some, None, Bool, true, false, refl, ap, ◌∙◌, arith, inl, inr, ◌==◌, if◌then◌else◌}
use Rattle.std.proofs.lemmas.List.{length-map}
use Rattle.std.proofs.lemmas.Bool.{le-leb, lt-leb, ne_eqb}
use Rattle.sgf_reader.specs.declared.fault.FaultKind.TheVariants as kind
use Rattle.sgf_reader.specs.declared.fault.SgfFault.{SgfFault}
use Rattle.sgf_reader.specs.Limits.{most_games, most_nodes}
use Rattle.sgf_reader.specs.declared.place.Phase.TheVariants as at
use Rattle.sgf_reader.specs.declared.place.Place as places
use Rattle.sgf_reader.specs.declared.place.Place.TheVariants as stands
use Rattle.sgf_reader.specs.Grammar.{SpelledGame, raw_game}
use Rattle.sgf_reader.specs.Scan.{Place, Outside, Before, Within, Scan, step, within, begun}
use Rattle.sgf_reader.specs.Reading.{View, with_raw_node, ShowsInside, ShowsPlace, none_open, may_begin, inside, IsWithinLimits, few_outside, few_before, few_inside, Leads, too_many_games, StepsOn, StepFails}

-- a scan outside trees, and the reader that shows it
pub record IsShownOutside (v : View) (at : Place) (s : Scan) : Type 0 where
  pub place : s.place ≡ at
  pub games : v.games ≡ map raw_game s.games
  pub nodes : v.nodes ≡ []
  pub parents : v.parents ≡ []
  pub reading : v.is_reading ≡ false
  pub few : length s.games ≤ most_games

from_outside : {v : View} (games : List SpelledGame) {place : Place} → v.games ≡ map raw_game games → ShowsPlace v stands.Outside place → IsWithinLimits (length games) place → IsShownOutside v Outside (record { games = games; place = place })
from_outside games g (none_open a b c) (few_outside few) = record { place = refl; games = g; nodes = a; parents = b; reading = c; few = few }

from_before : {v : View} {from : ℕ} (games : List SpelledGame) {place : Place} → v.games ≡ map raw_game games → ShowsPlace v (stands.Before from) place → IsWithinLimits (length games) place → IsShownOutside v (Before from) (record { games = games; place = place })
from_before games g (may_begin a b c) (few_before few) = record { place = refl; games = g; nodes = a; parents = b; reading = c; few = few }

-- where a reader outside trees stands behind a byte
abbrev pub behind : ℕ → ℕ → places.Place
behind offset byte = if byte == 40 then stands.Before offset else stands.Outside

leads-by : (v : View) (at : Place) (offset byte : ℕ) (s : Scan) → IsShownOutside v at s → (b : Bool) → step s.games at offset byte ≡ Some (record { games = s.games; place = if b then Before offset else Outside }) → Leads s offset byte v (if b then stands.Before offset else stands.Outside)
leads-by v at offset byte s h true goes = record { next = record { games = s.games; place = Before offset }; goes = ap (λ (p : Place). step s.games p offset byte) h.place ∙ goes; shows = record { games = h.games; place = may_begin h.nodes h.parents h.reading }; limits = few_before {from = offset} h.few }
leads-by v at offset byte s h false goes = record { next = record { games = s.games; place = Outside }; goes = ap (λ (p : Place). step s.games p offset byte) h.place ∙ goes; shows = record { games = h.games; place = none_open h.nodes h.parents h.reading }; limits = few_outside h.few }

pub leads-outside : (v : View) (offset byte : ℕ) (next : places.Place) → next ≡ behind offset byte → StepsOn v stands.Outside offset byte v next
leads-outside v offset byte next is = λ s shows limits.
    let h : IsShownOutside v Outside s = from_outside s.games shows.games shows.place limits in
    rw is (leads-by v Outside offset byte s h (byte == 40) refl)

pub leads-before_white : (v : View) (from offset byte : ℕ) → byte ≤ 32 → StepsOn v (stands.Before from) offset byte v (stands.Before from)
leads-before_white v from offset byte white = λ s shows limits.
    let h : IsShownOutside v (Before from) s = from_before s.games shows.games shows.place limits in
    let goes : step s.games (Before from) offset byte ≡ Some (record { games = s.games; place = Before from }) = rw (le-leb byte 32 white) refl in
    record { next = record { games = s.games; place = Before from }; goes = ap (λ (p : Place). step s.games p offset byte) h.place ∙ goes; shows = record { games = h.games; place = may_begin h.nodes h.parents h.reading }; limits = few_before {from = from} h.few }

pub leads-before : (v : View) (from offset byte : ℕ) (next : places.Place) → 32 < byte → byte ≢ 59 → next ≡ behind offset byte → StepsOn v (stands.Before from) offset byte v next
leads-before v from offset byte next black other is = λ s shows limits.
    let h : IsShownOutside v (Before from) s = from_before s.games shows.games shows.place limits in
    let goes : step s.games (Before from) offset byte ≡ Some (record { games = s.games; place = if byte == 40 then Before offset else Outside }) = rw (lt-leb byte 32 black, ne_eqb byte 59 other) refl in
    rw is (leads-by v (Before from) offset byte s h (byte == 40) goes)

begins : (games : List SpelledGame) (from offset : ℕ) → step games (Before from) offset 59 ≡ within games (begun from offset)
begins games from offset = refl

-- what is read behind the first `;` of a game
abbrev pub with_game : View → View
with_game v = with_raw_node (record { games = v.games; nodes = v.nodes; is_reading = false; parents = None ∷ v.parents; last = None })

shows-begun : (v : View) (from offset : ℕ) → v.nodes ≡ [] → v.parents ≡ [] → ShowsInside (with_game v) at.InNode (begun from offset)
shows-begun v from offset nodes parents = record { nodes = rw nodes refl; parents = rw parents refl; last = rw nodes refl; phase = refl; reading = refl; is_open = omega arith }

pub leads-game : (v read : View) (from offset byte : ℕ) → byte ≡ 59 → read ≡ with_game v → length v.games < most_games → StepsOn v (stands.Before from) offset byte read (stands.Within at.InNode)
leads-game v read from offset byte semicolon by few = λ s shows limits.
    let h : IsShownOutside v (Before from) s = from_before s.games shows.games shows.place limits in
    let goes : step s.games (Before from) offset byte ≡ within s.games (begun from offset) = rw semicolon (begins s.games from offset) in
    let count : length v.games ≡ length s.games = ap length h.games ∙ length-map s.games raw_game in
    rw by (record {
      next = record { games = s.games; place = Within (begun from offset) };
      goes = ap (λ (p : Place). step s.games p offset byte) h.place ∙ goes;
      shows = record { games = h.games; place = inside {s = begun from offset} (shows-begun v from offset h.nodes h.parents) };
      limits = few_inside {s = begun from offset} (omega arith) (omega arith) (omega arith);
    })

pub fails-game : (v : View) (from offset byte : ℕ) (f : SgfFault) → byte ≡ 59 → ((f ≡ record { kind = kind.TooManyGames; at = from }) × (most_games ≤ length v.games)) ⊎ (most_nodes ≤ length v.nodes) → StepFails v (stands.Before from) offset byte f
fails-game v from offset byte f semicolon (inl (is, many)) = λ s shows limits.
    let h : IsShownOutside v (Before from) s = from_before s.games shows.games shows.place limits in
    let goes : step s.games (Before from) offset byte ≡ within s.games (begun from offset) = rw semicolon (begins s.games from offset) in
    let count : length v.games ≡ length s.games = ap length h.games ∙ length-map s.games raw_game in
    let few = h.few in
    rw is (too_many_games from h.place (ap (λ (p : Place). step s.games p offset byte) h.place ∙ goes) (omega arith))
fails-game v from offset byte f semicolon (inr many) = λ s shows limits.
    let h : IsShownOutside v (Before from) s = from_before s.games shows.games shows.place limits in
    let count : length v.nodes ≡ 0 = ap length h.nodes in
    absurd (omega arith)
