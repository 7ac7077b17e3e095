-- What is live and what is spelled, by the scan; a text spells one collection.
use Rattle.std.proofs.Common.{◌≡◌, ◌↔◌, ℕ, ◌≤◌, List, [], ◌∷◌, ◌++◌, length, length-append, sym, ◌∙◌, arith, Some}
use Rattle.sgf_reader.specs.Grammar.{SpellsGames, SpelledGame}
use Rattle.sgf_reader.specs.Faults.{IsLive}
use Rattle.sgf_reader.specs.Scan.{Scan, Place, Outside, IsOutside, outside, scan, at_start}
use Rattle.sgf_reader.proofs.Scans.{Leads, Leads-then, Leads-parts}
use Rattle.sgf_reader.proofs.ScanEnds.{IsCompleted, scan-ends}
use Rattle.sgf_reader.proofs.SpelledScans.{spelled-scans}
use Rattle.sgf_reader.proofs.ScansSpelled.{scans-spelled, same_games}

-- what a completed text spells
pub spells-completed : (text : List ℕ) (s : Scan) → scan at_start 0 text ≡ Some s → (c : IsCompleted s (length text)) → SpellsGames (s.games ++ c.game ∷ []) (text ++ c.rest)
spells-completed text s e c =
    let done : Scan = record { games = s.games ++ c.game ∷ []; place = Outside } in
    let first : Leads at_start 0 text s = record { scans = e } in
    let second : Leads s (length text) c.rest done = record { scans = c.ends } in
    (scans-spelled (text ++ c.rest) (s.games ++ c.game ∷ []) Outside outside (Leads-then (omega arith) first second).scans, omega (arith, length-append s.games (c.game ∷ [])))

live_scans : (text : List ℕ) → IsLive text → (s : Scan) × (scan at_start 0 text ≡ Some s)
live_scans text live =
    let scanned = spelled-scans (text ++ live.0) live.1 live.2.0 in
    let parts = Leads-parts at_start (record { games = live.1; place = scanned.0 }) 0 text live.0 scanned.2 in
    (parts.0, parts.1)

scans_live : (text : List ℕ) → ((s : Scan) × (scan at_start 0 text ≡ Some s)) → IsLive text
scans_live text h =
    let c = scan-ends text h.0 h.1 in
    (c.rest, h.0.games ++ c.game ∷ [], spells-completed text h.0 h.1 c)

-- a text is live where the scan takes all its bytes
pub live-scans : (text : List ℕ) → IsLive text ↔ ((s : Scan) × (scan at_start 0 text ≡ Some s))
live-scans text = (live_scans text, scans_live text)

-- a text spells games where its scan ends outside trees with them, one or more
pub spells-scans : (games : List SpelledGame) (text : List ℕ) → SpellsGames games text ↔ ((place : Place) × IsOutside place × (scan at_start 0 text ≡ Some (record { games = games; place = place })) × (1 ≤ length games))
spells-scans games text = (
  λ h. let scanned = spelled-scans text games h.0 in (scanned.0, scanned.1, scanned.2, h.1),
  λ h. (scans-spelled text games h.0 h.1 h.2, h.3),
)

-- a text spells one collection only
pub spells-one : (text : List ℕ) (a b : List SpelledGame) → SpellsGames a text → SpellsGames b text → a ≡ b
spells-one text a b h k =
    let one = spelled-scans text a h.0 in
    let other = spelled-scans text b k.0 in
    same_games (record { games = a; place = one.0 }) (record { games = b; place = other.0 }) (sym one.2 ∙ other.2)
