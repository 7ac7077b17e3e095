-- Where a tree starts in a text, by the scan and by the grammar.
use Rattle.std.proofs.Common.{◌≡◌, ℕ, zero, suc, ◌+◌, ◌<◌, ◌≤◌, List, [], ◌∷◌, ◌++◌, length, take, slice_index, get_or, Some, refl, sym, ap, ◌∙◌, subst, arith, append_assoc}
use Rattle.std.specs.Prelude.{⊤}
use Rattle.std.proofs.Math.Seq.{take-suc}
use Rattle.std.proofs.lemmas.List.{take_all}
use Rattle.std.proofs.lemmas.List.Elements.{All-append}
use Rattle.sgf_reader.specs.Grammar.{SpelledGame, HasGames, IsWhite, StartsTree}
use Rattle.sgf_reader.specs.Faults.{HasTreeStart}
use Rattle.sgf_reader.specs.Scan.{Scan, Place, Outside, Before, Within, Inside, scan, at_start}
use Rattle.sgf_reader.proofs.Ways.{Way, inside}
use Rattle.sgf_reader.proofs.Reached.{changes}
use Rattle.sgf_reader.proofs.BeforeLaws.{back, change-not_before}

no_bytes : (before white after : List ℕ) → [] ≡ before ++ (40 ∷ white ++ 59 ∷ after) → ⊥
no_bytes [] white after e = cc
no_bytes (b ∷ before) white after e = cc

tail_same : (b c : ℕ) (xs ys : List ℕ) → b ∷ xs ≡ c ∷ ys → xs ≡ ys
tail_same b c xs ys e = cc

-- a text without a game has no tree start
pub no_start-from_games : {at : ℕ} {text : List ℕ} {games : List SpelledGame} → HasGames at text games → length games ≡ 0 → (before rest : List ℕ) → text ≡ before ++ rest → StartsTree rest → ⊥
no_start-from_games (HasGames.end) none before rest is starts = no_bytes before starts.0 starts.1 (is ∙ ap (λ (xs : List ℕ). before ++ xs) starts.3)
no_start-from_games (HasGames.skipped not more) none [] rest is starts = not (subst StartsTree (sym is) starts)
no_start-from_games (HasGames.skipped not more) none (b ∷ before) rest is starts = no_start-from_games more none before rest (tail_same _ b _ _ is) starts
no_start-from_games (HasGames.with_game text rest tree more) none before behind is starts = absurd (omega arith)

-- what of a tree's start the scan has seen: the `(` and white space; all of it
SeenAt : List ℕ → Place → Type 0
SeenAt text Outside = ⊤
SeenAt text (Before from) = (before : List ℕ) × (white : List ℕ) × (text ≡ before ++ 40 ∷ white) × IsWhite white
SeenAt text (Within s) = HasTreeStart text

start-more : (text more : List ℕ) → HasTreeStart text → HasTreeStart (text ++ more)
start-more text more h =
    let t = h.3 in
    let longer : t.0 ++ 59 ∷ (t.1 ++ more) ≡ (t.0 ++ 59 ∷ t.1) ++ more = sym (append_assoc t.0 (59 ∷ t.1) more) in
    let starts : h.1 ++ more ≡ 40 ∷ t.0 ++ 59 ∷ (t.1 ++ more) = ap (λ (xs : List ℕ). xs ++ more) t.3 ∙ ap (λ (xs : List ℕ). 40 ∷ xs) (sym longer) in
    let is : text ++ more ≡ h.0 ++ (h.1 ++ more) = ap (λ (xs : List ℕ). xs ++ more) h.2 ∙ append_assoc h.0 h.1 more in
    (h.0, h.1 ++ more, is, (t.0, t.1 ++ more, t.2, starts))

seen-inside : (text : List ℕ) (place : Place) → HasTreeStart text → ((from : ℕ) → place ≡ Before from → ⊥) → SeenAt text place
unfolding SeenAt
seen-inside text Outside h not = tt
seen-inside text (Before from) h not = absurd (not from refl)
seen-inside text (Within s) h not = h

seen-open : (text : List ℕ) (b from : ℕ) → b ≡ 40 → SeenAt (text ++ b ∷ []) (Before from)
unfolding SeenAt
seen-open text b from is = (text, [], ap (λ (c : ℕ). text ++ c ∷ []) is, λ k d below. absurd (omega arith))

white_at : (b : ℕ) → b ≤ 32 → (k d : ℕ) → k < length (b ∷ []) → get_or (b ∷ []) k d ≤ 32
white_at b h zero d below = h
white_at b h (suc k) d below = absurd (omega arith)

one_white : (b : ℕ) → b ≤ 32 → IsWhite (b ∷ [])
one_white b h = λ k d below. white_at b h k d below

seen-way : (games : List SpelledGame) (at b : ℕ) (place : Place) (t : Scan) (text : List ℕ) → Way games at b place t → SeenAt text place → SeenAt (text ++ b ∷ []) t.place
unfolding SeenAt
seen-way games at b place t text (Way.out_open e) h = seen-open text b at e
seen-way games at b place t text (Way.out_skip e) h = tt
seen-way games at b place t text (Way.before_white e) h =
    let is : text ++ b ∷ [] ≡ h.0 ++ 40 ∷ (h.1 ++ b ∷ []) = ap (λ (xs : List ℕ). xs ++ b ∷ []) h.2 ∙ append_assoc h.0 (40 ∷ h.1) (b ∷ []) in
    (h.0, h.1 ++ b ∷ [], is, All-append (λ (c : ℕ). c ≤ 32) h.1 (b ∷ []) h.3 (one_white b e))
seen-way games at b place t text (Way.before_node e) h =
    let last : b ∷ [] ≡ 59 ∷ [] = ap (λ (c : ℕ). c ∷ []) e in
    let is : text ++ b ∷ [] ≡ h.0 ++ (40 ∷ h.1 ++ 59 ∷ []) = ap (λ (xs : List ℕ). xs ++ b ∷ []) h.2 ∙ (append_assoc h.0 (40 ∷ h.1) (b ∷ []) ∙ ap (λ (xs : List ℕ). h.0 ++ (40 ∷ h.1 ++ xs)) last) in
    (h.0, 40 ∷ h.1 ++ 59 ∷ [], is, (h.1, [], h.3, refl))
seen-way games at b place t text (Way.before_open e) h = seen-open text b at e
seen-way games at b place t text (Way.before_skip e f g) h = tt
seen-way games at b place t text (Way.way_in {s = s} w) h =
    seen-inside (text ++ b ∷ []) t.place (start-more text (b ∷ []) h) (λ from is. change-not_before games s at t from (changes games s at b t w) is)

seen-start : (s : Scan) → Some at_start ≡ Some s → SeenAt [] s.place
unfolding SeenAt
seen-start s e = let same : at_start ≡ s = cc in subst (λ (u : Scan). SeenAt [] u.place) same tt

seen : (text : List ℕ) (count : ℕ) (s : Scan) → count ≤ length text → scan at_start 0 (take count text) ≡ Some s → SeenAt (take count text) s.place
seen text zero s there e = seen-start s e
seen text (suc count) s there e =
    let one : suc count ≡ count + 1 = omega arith in
    let last = back text count s (omega arith) (subst (λ (k : ℕ). scan at_start 0 (take k text) ≡ Some s) one e) in
    let before = seen text count last.s (omega arith) last.scans in
    let split = take-suc text count 0 (omega arith) in
    subst (λ (xs : List ℕ). SeenAt xs s.place) (sym split) (seen-way last.s.games count (slice_index text count) last.s.place s (take count text) last.way before)

-- where the scan of a text ends inside a tree, a tree starts in the text
pub start-from_within : (text : List ℕ) (games : List SpelledGame) (i : Inside) → scan at_start 0 (take (length text) text) ≡ Some (inside games i) → HasTreeStart text
unfolding SeenAt
start-from_within text games i e = subst HasTreeStart (take_all (length text) text (omega arith)) (seen text (length text) (inside games i) (omega arith) e)
