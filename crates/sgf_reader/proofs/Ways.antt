-- The ways in which one byte leads a reader on.
use Rattle.std.proofs.Common.{◌≡◌, ◌≢◌, ◌⊎◌, inl, inr, ℕ, ◌+◌, ◌<◌, ◌≤◌, Bool, true, false, ◌||◌, subst, refl, List, Some, None, Option, if◌then◌else◌, ◌==◌}
use Rattle.std.proofs.lemmas.Bool.{leb-true, leb-false, eqb-true, eqb-false, and_parts, or_cases}
use Rattle.sgf_reader.specs.declared.collection.Span.{Span}
use Rattle.sgf_reader.specs.Grammar.{SpelledGame, IsUpper, IsLetter}
use Rattle.sgf_reader.specs.Scan.{Scan, Place, Outside, Before, Within, Inside, Phase, Opened, InNode, InName, AfterName, InValue, Escaped, AfterValue, AfterTree, is_white, is_upper, is_letter, at_phase, with_pair, with_node, with_bracket, closed, within, begun, step, step_within, step_node, step_between}

-- a reader within a tree
abbrev pub inside : List SpelledGame → Inside → Scan
inside games s = record { games = games; place = Within s }

-- a reader outside trees
abbrev pub out : List SpelledGame → Place → Scan
out games place = record { games = games; place = place }

-- the reader behind a value
abbrev pub behind_value : Inside → Span → ℕ → ℕ → Inside
behind_value s name from at = record { at = s.at; parents = s.parents; last = s.last; nodes = with_pair s.nodes (record { name = name; value = record { from = from; to = at } }); phase = AfterValue name }

-- by `(` or `)`
pub data WayBetween (games : List SpelledGame) (s : Inside) (at b : ℕ) : Scan → Type 0 where
  bracket : b ≡ 40 → WayBetween games s at b (inside games (with_bracket s at))
  close : b ≡ 41 → WayBetween games s at b (closed games s s.parents)

-- by `;`, a letter or a bracket
pub data WayNode (games : List SpelledGame) (s : Inside) (at b : ℕ) : Scan → Type 0 where
  node : b ≡ 59 → WayNode games s at b (inside games (with_node s None at))
  letter : IsLetter b → WayNode games s at b (inside games (at_phase s (InName at (is_upper b))))
  between : {t : Scan} → WayBetween games s at b t → WayNode games s at b t

-- within a tree, by its phase
pub data WayIn (games : List SpelledGame) (s : Inside) (at b : ℕ) : Phase → Scan → Type 0 where
  opened_white : {from : ℕ} → b ≤ 32 → WayIn games s at b (Opened from) (inside games s)
  opened_node : {from : ℕ} → b ≡ 59 → WayIn games s at b (Opened from) (inside games (with_node s (Some from) at))
  node_white : b ≤ 32 → WayIn games s at b InNode (inside games s)
  node_on : {t : Scan} → WayNode games s at b t → WayIn games s at b InNode t
  name_letter : {from : ℕ} {upper : Bool} → IsLetter b → WayIn games s at b (InName from upper) (inside games (at_phase s (InName from (upper || is_upper b))))
  name_white : {from : ℕ} → b ≤ 32 → WayIn games s at b (InName from true) (inside games (at_phase s (AfterName (record { from = from; to = at }))))
  name_value : {from : ℕ} → b ≡ 91 → WayIn games s at b (InName from true) (inside games (at_phase s (InValue (record { from = from; to = at }) (at + 1))))
  after_name_white : {name : Span} → b ≤ 32 → WayIn games s at b (AfterName name) (inside games s)
  after_name_value : {name : Span} → b ≡ 91 → WayIn games s at b (AfterName name) (inside games (at_phase s (InValue name (at + 1))))
  value_end : {name : Span} {from : ℕ} → b ≡ 93 → WayIn games s at b (InValue name from) (inside games (behind_value s name from at))
  value_escape : {name : Span} {from : ℕ} → b ≡ 92 → WayIn games s at b (InValue name from) (inside games (at_phase s (Escaped name from)))
  value_byte : {name : Span} {from : ℕ} → b ≢ 93 → b ≢ 92 → WayIn games s at b (InValue name from) (inside games s)
  escaped : {name : Span} {from : ℕ} → WayIn games s at b (Escaped name from) (inside games (at_phase s (InValue name from)))
  after_value_white : {name : Span} → b ≤ 32 → WayIn games s at b (AfterValue name) (inside games s)
  after_value_value : {name : Span} → b ≡ 91 → WayIn games s at b (AfterValue name) (inside games (at_phase s (InValue name (at + 1))))
  after_value_on : {name : Span} {t : Scan} → WayNode games s at b t → WayIn games s at b (AfterValue name) t
  tree_white : b ≤ 32 → WayIn games s at b AfterTree (inside games s)
  tree_on : {t : Scan} → WayBetween games s at b t → WayIn games s at b AfterTree t

-- anywhere
pub data Way (games : List SpelledGame) (at b : ℕ) : Place → Scan → Type 0 where
  out_open : b ≡ 40 → Way games at b Outside (out games (Before at))
  out_skip : b ≢ 40 → Way games at b Outside (out games Outside)
  before_white : {from : ℕ} → b ≤ 32 → Way games at b (Before from) (out games (Before from))
  before_node : {from : ℕ} → b ≡ 59 → Way games at b (Before from) (inside games (begun from at))
  before_open : {from : ℕ} → b ≡ 40 → Way games at b (Before from) (out games (Before at))
  before_skip : {from : ℕ} → 32 < b → b ≢ 59 → b ≢ 40 → Way games at b (Before from) (out games Outside)
  way_in : {s : Inside} {t : Scan} → WayIn games s at b s.phase t → Way games at b (Within s) t

if_cases : (c : Bool) (x y : Option Scan) (t : Scan) → (if c then x else y) ≡ Some t → ((c ≡ true) × (x ≡ Some t)) ⊎ ((c ≡ false) × (y ≡ Some t))
if_cases true x y t e = inl (refl, e)
if_cases false x y t e = inr (refl, e)

arrive : (P : Scan → Type 0) (u t : Scan) → Some u ≡ Some t → P u → P t
arrive P u t e h = let same : u ≡ t = cc in subst P same h

pub upper-from : (b : ℕ) → is_upper b ≡ true → IsUpper b
upper-from b e = let parts = and_parts _ _ e in (leb-true 65 b parts.0, leb-true b 90 parts.1)

pub letter-from : (b : ℕ) → is_letter b ≡ true → IsLetter b
letter-from b e = elim (or_cases _ _ e) [
  | inl u ↦ inl (upper-from b u)
  | inr l ↦ let parts = and_parts _ _ l in inr (leb-true 97 b parts.0, leb-true b 122 parts.1)
]

module _ (games : List SpelledGame) (s : Inside) (at b : ℕ) (t : Scan) where
  between_ways : step_between games s at b ≡ Some t → WayBetween games s at b t
  between_ways e = elim (if_cases (b == 40) _ _ t e) [
    | inl h ↦ arrive (λ u. WayBetween games s at b u) (inside games (with_bracket s at)) t h.1 (bracket (eqb-true b 40 h.0))
    | inr h ↦ elim (if_cases (b == 41) _ _ t h.1) [
      | inl g ↦ arrive (λ u. WayBetween games s at b u) (closed games s s.parents) t g.1 (close (eqb-true b 41 g.0))
      | inr g ↦ let no : None ≡ Some t = g.1 in absurd (cc)
    ]
  ]

  node_ways : step_node games s at b ≡ Some t → WayNode games s at b t
  node_ways e = elim (if_cases (b == 59) _ _ t e) [
    | inl h ↦ arrive (λ u. WayNode games s at b u) (inside games (with_node s None at)) t h.1 (node (eqb-true b 59 h.0))
    | inr h ↦ elim (if_cases (is_letter b) _ _ t h.1) [
      | inl g ↦ arrive (λ u. WayNode games s at b u) (inside games (at_phase s (InName at (is_upper b)))) t g.1 (letter (letter-from b g.0))
      | inr g ↦ between (between_ways g.1)
    ]
  ]

  value_ways : (phase : Phase) (name : Span) (P : Scan → Type 0) → (b ≤ 32 → P (inside games s)) → (b ≡ 91 → P (inside games (at_phase s (InValue name (at + 1))))) → (other : Option Scan) → (other ≡ Some t → P t) → (if is_white b then within games s else if b == 91 then within games (at_phase s (InValue name (at + 1))) else other) ≡ Some t → P t
  value_ways phase name P white value other others e = elim (if_cases (is_white b) _ _ t e) [
    | inl h ↦ arrive P (inside games s) t h.1 (white (leb-true b 32 h.0))
    | inr h ↦ elim (if_cases (b == 91) _ _ t h.1) [
      | inl g ↦ arrive P (inside games (at_phase s (InValue name (at + 1)))) t g.1 (value (eqb-true b 91 g.0))
      | inr g ↦ others g.1
    ]
  ]

  upper_ways : (from : ℕ) (upper : Bool) → (if upper then (if is_white b then within games (at_phase s (AfterName (record { from = from; to = at }))) else if b == 91 then within games (at_phase s (InValue (record { from = from; to = at }) (at + 1))) else None) else None) ≡ Some t → WayIn games s at b (InName from upper) t
  upper_ways from false e = let no : None ≡ Some t = e in absurd (cc)
  upper_ways from true e = elim (if_cases (is_white b) _ _ t e) [
    | inl h ↦ arrive (λ u. WayIn games s at b (InName from true) u) (inside games (at_phase s (AfterName (record { from = from; to = at })))) t h.1 (name_white (leb-true b 32 h.0))
    | inr h ↦ elim (if_cases (b == 91) _ _ t h.1) [
      | inl g ↦ arrive (λ u. WayIn games s at b (InName from true) u) (inside games (at_phase s (InValue (record { from = from; to = at }) (at + 1)))) t g.1 (name_value (eqb-true b 91 g.0))
      | inr g ↦ let no : None ≡ Some t = g.1 in absurd (cc)
    ]
  ]

  within_ways : (phase : Phase) → step_within games s phase at b ≡ Some t → WayIn games s at b phase t
  within_ways (Opened from) e = elim (if_cases (is_white b) _ _ t e) [
    | inl h ↦ arrive (λ u. WayIn games s at b (Opened from) u) (inside games s) t h.1 (opened_white (leb-true b 32 h.0))
    | inr h ↦ elim (if_cases (b == 59) _ _ t h.1) [
      | inl g ↦ arrive (λ u. WayIn games s at b (Opened from) u) (inside games (with_node s (Some from) at)) t g.1 (opened_node (eqb-true b 59 g.0))
      | inr g ↦ let no : None ≡ Some t = g.1 in absurd (cc)
    ]
  ]
  within_ways InNode e = elim (if_cases (is_white b) _ _ t e) [
    | inl h ↦ arrive (λ u. WayIn games s at b InNode u) (inside games s) t h.1 (node_white (leb-true b 32 h.0))
    | inr h ↦ node_on (node_ways h.1)
  ]
  within_ways (InName from upper) e = elim (if_cases (is_letter b) _ _ t e) [
    | inl h ↦ arrive (λ u. WayIn games s at b (InName from upper) u) (inside games (at_phase s (InName from (upper || is_upper b)))) t h.1 (name_letter (letter-from b h.0))
    | inr h ↦ upper_ways from upper h.1
  ]
  within_ways (AfterName name) e = value_ways (AfterName name) name (λ u. WayIn games s at b (AfterName name) u) (λ h. after_name_white h) (λ h. after_name_value h) None (λ no. absurd (cc)) e
  within_ways (InValue name from) e = elim (if_cases (b == 93) _ _ t e) [
    | inl h ↦ arrive (λ u. WayIn games s at b (InValue name from) u) (inside games (behind_value s name from at)) t h.1 (value_end (eqb-true b 93 h.0))
    | inr h ↦ elim (if_cases (b == 92) _ _ t h.1) [
      | inl g ↦ arrive (λ u. WayIn games s at b (InValue name from) u) (inside games (at_phase s (Escaped name from))) t g.1 (value_escape (eqb-true b 92 g.0))
      | inr g ↦ arrive (λ u. WayIn games s at b (InValue name from) u) (inside games s) t g.1 (value_byte (eqb-false b 93 h.0) (eqb-false b 92 g.0))
    ]
  ]
  within_ways (Escaped name from) e = arrive (λ u. WayIn games s at b (Escaped name from) u) (inside games (at_phase s (InValue name from))) t e escaped
  within_ways (AfterValue name) e = value_ways (AfterValue name) name (λ u. WayIn games s at b (AfterValue name) u) (λ h. after_value_white h) (λ h. after_value_value h) (step_node games s at b) (λ h. after_value_on (node_ways h)) e
  within_ways AfterTree e = elim (if_cases (is_white b) _ _ t e) [
    | inl h ↦ arrive (λ u. WayIn games s at b AfterTree u) (inside games s) t h.1 (tree_white (leb-true b 32 h.0))
    | inr h ↦ tree_on (between_ways h.1)
  ]

out_ways : (games : List SpelledGame) (at b : ℕ) (c : Bool) (P : Scan → Type 0) → (c ≡ true → P (out games (Before at))) → (c ≡ false → P (out games Outside)) → P (record { games = games; place = if c then Before at else Outside })
out_ways games at b true P yes' no' = yes' refl
out_ways games at b false P yes' no' = no' refl

-- each step is one of the ways
pub step-way : (games : List SpelledGame) (place : Place) (at b : ℕ) (t : Scan) → step games place at b ≡ Some t → Way games at b place t
step-way games Outside at b t e = arrive (λ u. Way games at b Outside u) (record { games = games; place = if b == 40 then Before at else Outside }) t e (out_ways games at b (b == 40) (λ u. Way games at b Outside u) (λ h. out_open (eqb-true b 40 h)) (λ h. out_skip (eqb-false b 40 h)))
step-way games (Before from) at b t e = elim (if_cases (is_white b) _ _ t e) [
  | inl h ↦ arrive (λ u. Way games at b (Before from) u) (out games (Before from)) t h.1 (before_white (leb-true b 32 h.0))
  | inr h ↦ elim (if_cases (b == 59) _ _ t h.1) [
    | inl g ↦ arrive (λ u. Way games at b (Before from) u) (inside games (begun from at)) t g.1 (before_node (eqb-true b 59 g.0))
    | inr g ↦ arrive (λ u. Way games at b (Before from) u) (record { games = games; place = if b == 40 then Before at else Outside }) t g.1 (out_ways games at b (b == 40) (λ u. Way games at b (Before from) u) (λ k. before_open (eqb-true b 40 k)) (λ k. before_skip (leb-false b 32 h.0) (eqb-false b 59 g.0) (eqb-false b 40 k)))
  ]
]
step-way games (Within s) at b t e = way_in (within_ways games s at b t s.phase e)
