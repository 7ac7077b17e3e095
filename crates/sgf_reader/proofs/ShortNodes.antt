-- A node of one letter and one value, read at once.
use Rattle.std.proofs.Common.{◌≡◌, ℕ, ◌+◌, ◌<◌, ◌≤◌, List, length, slice_index, None, true, refl, sym, subst, arith}
use Rattle.std.proofs.lemmas.Bool.{le-leb, lt-leb, ne_eqb}
use Rattle.sgf_reader.specs.declared.collection.Span.{Span}
use Rattle.sgf_reader.specs.declared.fault.FaultKind.TheVariants as kind
use Rattle.sgf_reader.specs.declared.fault.SgfFault.{SgfFault}
use Rattle.sgf_reader.specs.declared.place.Phase.TheVariants as at
use Rattle.sgf_reader.specs.declared.place.Place as places
use Rattle.sgf_reader.specs.declared.place.Place.TheVariants as stands
use Rattle.sgf_reader.specs.declared.turn.Turn.TheVariants as turn
use Rattle.sgf_reader.specs.Grammar.{SpelledGame, IsUpper}
use Rattle.sgf_reader.specs.Limits.{most_nodes}
use Rattle.sgf_reader.specs.Reading.{View, StepsOn, with_raw_node}
use Rattle.sgf_reader.specs.Scan.{Inside, InNode, step_within}
use Rattle.sgf_reader.specs.Stays.{HasReadTo, FailsIn, IsShortNode, place_behind, with_short_node}
use Rattle.sgf_reader.specs.Turn.{apply_turn}
use Rattle.sgf_reader.proofs.ReadTo.{HasReadTo-more, HasReadTo-up_to, FailsIn-next}
use Rattle.sgf_reader.proofs.StepLemmas.{leads-node, leads-to, leads-value, fails-node}

on_semicolon : (v : View) (name : Span) (from byte : ℕ) → byte ≡ 59 → length v.nodes < most_nodes → StepsOn v (stands.Within (at.AfterValue name)) from byte (with_raw_node v) (stands.Within at.InNode)
on_semicolon v name from byte is few =
    subst (λ (b : ℕ). StepsOn v (stands.Within (at.AfterValue name)) from b (with_raw_node v) (stands.Within at.InNode)) (sym is)
    (leads-node v (with_raw_node v) (at.AfterValue name) None from 59 (λ games s. refl) refl few)

letter_means : (games : List SpelledGame) (s : Inside) (offset byte : ℕ) → IsUpper byte → step_within games s InNode offset byte ≡ apply_turn games s offset (turn.To (at.InName offset true))
letter_means games s offset byte (low, high) = rw (lt-leb byte 32 (omega arith), ne_eqb byte 59 (λ e. absurd (omega (arith, low, e))), le-leb 65 byte low, le-leb byte 90 high) refl

on_letter : (v : View) (offset byte : ℕ) → IsUpper byte → StepsOn v (stands.Within at.InNode) offset byte v (stands.Within (at.InName offset true))
on_letter v offset byte is = leads-to v at.InNode (at.InName offset true) offset byte (λ games s. letter_means games s offset byte is) (refl, refl)

on_bracket : (v : View) (from offset byte : ℕ) → byte ≡ 91 → StepsOn v (stands.Within (at.InName from true)) offset byte v (stands.Within (at.InValue (record { from = from; to = offset }) (offset + 1)))
on_bracket v from offset byte is =
    subst (λ (b : ℕ). StepsOn v (stands.Within (at.InName from true)) offset b v (stands.Within (at.InValue (record { from = from; to = offset }) (offset + 1)))) (sym is)
    (leads-to v (at.InName from true) (at.InValue (record { from = from; to = offset }) (offset + 1)) offset 91 (λ games s. refl) (refl, refl))

on_end : (v : View) (from to byte : ℕ) → byte ≡ 93 → StepsOn (with_raw_node v) (stands.Within (at.InValue (record { from = from + 1; to = from + 2 }) (from + 3))) to byte (with_short_node v from to) (place_behind from)
on_end v from to byte is =
    let name : Span = record { from = from + 1; to = from + 2 } in
    subst (λ (b : ℕ). StepsOn (with_raw_node v) (stands.Within (at.InValue name (from + 3))) to b (with_short_node v from to) (place_behind from)) (sym is)
    (leads-value (with_raw_node v) (with_short_node v from to) (at.InValue name (from + 3)) name (from + 3) to 93 (λ games s. refl) refl (λ reading. refl))

-- where a short node begins, this is what it leads to up to its value
value_begins : (text : List ℕ) (from end : ℕ) (v : View) (name : Span) (to : ℕ) → HasReadTo text from v (stands.Within (at.AfterValue name)) → IsShortNode text from end (stands.Within (at.AfterValue name)) to → length v.nodes < most_nodes → end ≤ length text → HasReadTo text (from + 3) (with_raw_node v) (stands.Within (at.InValue (record { from = from + 1; to = from + 2 }) (from + 3)))
value_begins text from end v name to h short few within =
    let order = short.order in
    let below = short.within in
    let begun = with_raw_node v in
    let node = HasReadTo-more text from v begun (stands.Within (at.AfterValue name)) (stands.Within at.InNode) h (omega arith) (on_semicolon v name from (slice_index text from) short.begins few) in
    let letter = HasReadTo-more text (from + 1) begun begun (stands.Within at.InNode) (stands.Within (at.InName (from + 1) true)) node (omega arith) (on_letter begun (from + 1) (slice_index text (from + 1)) short.letter) in
    let two : (from + 1) + 1 ≡ from + 2 = omega arith in
    let named : HasReadTo text (from + 2) begun (stands.Within (at.InName (from + 1) true)) = subst (λ (k : ℕ). HasReadTo text k begun (stands.Within (at.InName (from + 1) true))) two letter in
    let three : (from + 2) + 1 ≡ from + 3 = omega arith in
    let opened = HasReadTo-more text (from + 2) begun begun (stands.Within (at.InName (from + 1) true)) (stands.Within (at.InValue (record { from = from + 1; to = from + 2 }) ((from + 2) + 1))) named (omega arith) (on_bracket begun (from + 1) (from + 2) (slice_index text (from + 2)) short.opens) in
    subst (λ (k : ℕ). HasReadTo text k begun (stands.Within (at.InValue (record { from = from + 1; to = from + 2 }) k))) three opened

-- behind the value of a short node
behind_value : (text : List ℕ) (from end : ℕ) (v : View) (name : Span) (to : ℕ) → HasReadTo text from v (stands.Within (at.AfterValue name)) → IsShortNode text from end (stands.Within (at.AfterValue name)) to → length v.nodes < most_nodes → end ≤ length text → HasReadTo text (to + 1) (with_short_node v from to) (place_behind from)
behind_value text from end v name to h short few within =
    let below = short.within in
    let begun = with_raw_node v in
    let value = stands.Within (at.InValue (record { from = from + 1; to = from + 2 }) (from + 3)) in
    let there = value_begins text from end v name to h short few within in
    let closing = HasReadTo-up_to text (from + 3) to begun value there short.order (omega arith) short.plain in
    HasReadTo-more text to begun (with_short_node v from to) value (place_behind from) closing (omega arith) (on_end v from to (slice_index text to) short.closes)

-- a short node was read
pub HasReadTo-short : (text : List ℕ) (from end : ℕ) (v : View) (now : places.Place) (to : ℕ) → HasReadTo text from v now → IsShortNode text from end now to → length v.nodes < most_nodes → end ≤ length text → HasReadTo text (to + 1) (with_short_node v from to) (place_behind from)
HasReadTo-short text from end v now to h short few within =
    let name = short.behind_value.0 in
    let is = short.behind_value.1 in
    behind_value text from end v name to (subst (λ (p : places.Place). HasReadTo text from v p) is h) (subst (λ (p : places.Place). IsShortNode text from end p to) is short) few within

-- a short node is one too many
pub FailsIn-short : (text : List ℕ) (from end : ℕ) (v : View) (now : places.Place) (to : ℕ) (f : SgfFault) → HasReadTo text from v now → IsShortNode text from end now to → (f ≡ record { kind = kind.TooManyNodes; at = from }) × (most_nodes ≤ length v.nodes) → FailsIn text end f
FailsIn-short text from end v now to f h short fails =
    let name = short.behind_value.0 in
    let behind = stands.Within (at.AfterValue name) in
    let order = short.order in
    let below = short.within in
    let here : HasReadTo text from v behind = subst (λ (p : places.Place). HasReadTo text from v p) short.behind_value.1 h in
    FailsIn-next text end from v behind f here (omega arith)
    (rw short.begins (fails-node v (at.AfterValue name) None from 59 f (λ games s. refl) fails))
