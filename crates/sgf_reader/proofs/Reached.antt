-- What holds of every place that the scan of a text reaches.
use Rattle.std.proofs.Common.{◌≡◌, ◌⊎◌, inl, inr, ℕ, zero, suc, ◌+◌, ◌<◌, ◌≤◌, Bool, true, ap, sym, subst, refl, ◌∙◌, arith, List, [], ◌∷◌, ◌++◌, length, get_or, take, Some, None, Option, length-take-le, take_all}
use Rattle.std.specs.Prelude.{⊤}
use Rattle.std.proofs.lemmas.List.{take_more}
use Rattle.sgf_reader.specs.declared.collection.Span.{Span}
use Rattle.sgf_reader.specs.Grammar.{SpelledGame}
use Rattle.sgf_reader.specs.Scan.{Scan, Place, Outside, Before, Within, Inside, Phase, Opened, InName, AfterName, InValue, Escaped, AfterValue, at_phase, with_node, with_bracket, closed, step, scan, at_start}
use Rattle.sgf_reader.proofs.Scans.{Leads-parts, Leads-head}
use Rattle.sgf_reader.proofs.Steps.{EndsNode, in_node, after_value, EndsTree, after_node, after_tree}
use Rattle.sgf_reader.proofs.Ways.{WayBetween, bracket, close, WayNode, node, letter, between, WayIn, opened_white, opened_node, node_white, node_on, name_letter, name_white, name_value, after_name_white, after_name_value, value_end, value_escape, value_byte, escaped, after_value_white, after_value_value, after_value_on, tree_white, tree_on, Way, step-way, inside, behind_value}

-- the scan of so many first bytes comes to this reader
pub record Reached (text : List ℕ) (count : ℕ) (s : Scan) : Type 0 where
  pub scans : scan at_start 0 (take count text) ≡ Some s

-- one byte more
pub record Steps (text : List ℕ) (count : ℕ) (s t : Scan) : Type 0 where
  pub fits : count < length text
  pub old : Reached text count s
  pub new : Reached text (count + 1) t
  pub way : (b : ℕ) × Way s.games count b s.place t

reached_more : (text : List ℕ) (count : ℕ) (t : Scan) → count < length text → Reached text (count + 1) t → (s : Scan) × Steps text count s t
reached_more text count t h r =
    let b : ℕ = get_or text count 0 in
    let split : scan at_start 0 (take count text ++ b ∷ []) ≡ Some t = ap (λ (ts : List ℕ). scan at_start 0 ts) (sym (take_more text count 0 h)) ∙ r.scans in
    let parts = Leads-parts at_start t 0 (take count text) (b ∷ []) split in
    let head = Leads-head parts.0 t (0 + length (take count text)) b [] parts.2 in
    let same : head.0 ≡ t = (let e : Some head.0 ≡ Some t = head.2 in cc) in
    let place : 0 + length (take count text) ≡ count = omega (arith, length-take-le count text (omega arith)) in
    let stepped : step parts.0.games parts.0.place count b ≡ Some t = ap (λ (k : ℕ). step parts.0.games parts.0.place k b) (sym place) ∙ head.1 ∙ ap (λ (u : Scan). Some u) same in
    (parts.0, record { fits = h; old = record { scans = parts.1 }; new = r; way = (b, step-way parts.0.games parts.0.place count b t stepped) })

-- what holds at the start, and from each byte to the next, holds everywhere
pub keeps : (text : List ℕ) (P : ℕ → Scan → Type 0) → P 0 at_start → ((count : ℕ) (s t : Scan) → Steps text count s t → P count s → P (count + 1) t) → (count : ℕ) (s : Scan) → count ≤ length text → Reached text count s → P count s
keeps text P start more zero s h r = let e : Some at_start ≡ Some s = r.scans in let same : at_start ≡ s = cc in subst (P 0) same start
keeps text P start more (suc count) s h r =
    let one : suc count ≡ count + 1 = omega arith in
    let last = reached_more text count s (omega arith) (subst (λ (k : ℕ). Reached text k s) one r) in
    subst (λ (k : ℕ). P k s) (sym one) (more count last.0 s last.1 (keeps text P start more count last.0 (omega arith) last.1.old))

-- where the scan of a text comes to is reached by all its bytes
pub reached-whole : (text : List ℕ) (s : Scan) → scan at_start 0 text ≡ Some s → Reached text (length text) s
reached-whole text s e = record { scans = ap (λ (ts : List ℕ). scan at_start 0 ts) (take_all (length text) text (omega arith)) ∙ e }

-- ---- what one byte changes within a tree

-- how the phase moves on within a node
pub data Moves (s : Inside) (at : ℕ) : Phase → Type 0 where
  stays : Moves s at s.phase
  to_name : {upper : Bool} → EndsNode s.phase → Moves s at (InName at upper)
  on_name : {from : ℕ} {old upper : Bool} → s.phase ≡ InName from old → Moves s at (InName from upper)
  named : {from : ℕ} → s.phase ≡ InName from true → Moves s at (AfterName (record { from = from; to = at }))
  named_value : {from : ℕ} → s.phase ≡ InName from true → Moves s at (InValue (record { from = from; to = at }) (at + 1))
  value : {name : Span} → (s.phase ≡ AfterName name) ⊎ (s.phase ≡ AfterValue name) → Moves s at (InValue name (at + 1))
  escape : {name : Span} {from : ℕ} → s.phase ≡ InValue name from → Moves s at (Escaped name from)
  unescape : {name : Span} {from : ℕ} → s.phase ≡ Escaped name from → Moves s at (InValue name from)

-- a node begins: behind a bracket, or behind a node
pub data BeginsNode : Phase → Option ℕ → Type 0 where
  behind_bracket : {from : ℕ} → BeginsNode (Opened from) (Some from)
  behind_node : {phase : Phase} → EndsNode phase → BeginsNode phase None

pub data Change (games : List SpelledGame) (s : Inside) (at : ℕ) : Scan → Type 0 where
  moves : {phase : Phase} → Moves s at phase → Change games s at (inside games (at_phase s phase))
  gains : {name : Span} {from : ℕ} → s.phase ≡ InValue name from → Change games s at (inside games (behind_value s name from at))
  begins : {opened : Option ℕ} → BeginsNode s.phase opened → Change games s at (inside games (with_node s opened at))
  opens : EndsTree s.phase → Change games s at (inside games (with_bracket s at))
  closes : EndsTree s.phase → Change games s at (closed games s s.parents)

module _ (games : List SpelledGame) (s : Inside) (at b : ℕ) where
  between-changes : (t : Scan) → EndsTree s.phase → WayBetween games s at b t → Change games s at t
  between-changes t e (bracket h) = opens e
  between-changes t e (close h) = closes e

  node-changes : (t : Scan) → EndsNode s.phase → WayNode games s at b t → Change games s at t
  node-changes t e (node h) = begins (behind_node e)
  node-changes t e (letter l) = moves (to_name e)
  node-changes t e (between w) = between-changes t (after_node e) w

  way-changes : (phase : Phase) (t : Scan) → s.phase ≡ phase → WayIn games s at b phase t → Change games s at t
  way-changes phase t e (opened_white h) = moves stays
  way-changes phase t e (opened_node {from = from} h) = begins (subst (λ (ph : Phase). BeginsNode ph (Some from)) (sym e) behind_bracket)
  way-changes phase t e (node_white h) = moves stays
  way-changes phase t e (node_on w) = node-changes t (subst EndsNode (sym e) in_node) w
  way-changes phase t e (name_letter l) = moves (on_name e)
  way-changes phase t e (name_white h) = moves (named e)
  way-changes phase t e (name_value h) = moves (named_value e)
  way-changes phase t e (after_name_white h) = moves stays
  way-changes phase t e (after_name_value h) = moves (value (inl e))
  way-changes phase t e (value_end h) = gains e
  way-changes phase t e (value_escape h) = moves (escape e)
  way-changes phase t e (value_byte h g) = moves stays
  way-changes phase t e escaped = moves (unescape e)
  way-changes phase t e (after_value_white h) = moves stays
  way-changes phase t e (after_value_value h) = moves (value (inr e))
  way-changes phase t e (after_value_on w) = node-changes t (subst EndsNode (sym e) after_value) w
  way-changes phase t e (tree_white h) = moves stays
  way-changes phase t e (tree_on w) = between-changes t (subst EndsTree (sym e) after_tree) w

  pub changes : (t : Scan) → WayIn games s at b s.phase t → Change games s at t
  changes t w = way-changes s.phase t refl w

-- ---- a bracket is open wherever the reader is within a tree

abbrev pub HasOpen : Place → Type 0
HasOpen Outside = ⊤
HasOpen (Before from) = ⊤
HasOpen (Within s) = 1 ≤ length s.parents

closed-open : (games : List SpelledGame) (s : Inside) (parents : List (Option ℕ)) → HasOpen (closed games s parents).place
closed-open games s [] = tt
closed-open games s (p ∷ []) = tt
closed-open games s (p ∷ q ∷ parents) = omega arith

change-open : (games : List SpelledGame) (s : Inside) (at : ℕ) (t : Scan) → 1 ≤ length s.parents → Change games s at t → HasOpen t.place
change-open games s at t h (moves m) = h
change-open games s at t h (gains e) = h
change-open games s at t h (begins n) = h
change-open games s at t h (opens e) = omega arith
change-open games s at t h (closes e) = closed-open games s s.parents

-- a bracket stays open
pub way-open : (games : List SpelledGame) (at b : ℕ) (place : Place) (t : Scan) → HasOpen place → Way games at b place t → HasOpen t.place
way-open games at b place t h (Way.out_open e) = tt
way-open games at b place t h (Way.out_skip e) = tt
way-open games at b place t h (Way.before_white e) = tt
way-open games at b place t h (Way.before_node e) = omega arith
way-open games at b place t h (Way.before_open e) = tt
way-open games at b place t h (Way.before_skip e f g) = tt
way-open games at b place t h (Way.way_in {s = s} w) = change-open games s at t h (changes games s at b t w)

pub reached-open : (text : List ℕ) (count : ℕ) (s : Scan) → count ≤ length text → Reached text count s → HasOpen s.place
reached-open text count s h r = keeps text (λ k u. HasOpen u.place) tt (λ k u t st o. way-open u.games k st.way.0 u.place t o st.way.1) count s h r
