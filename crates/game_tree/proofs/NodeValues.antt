-- One value of a node: what it does, and what is wrong with it.
use Rattle.std.proofs.Common.{◌≡◌, ◌∙◌, ◌+◌, ◌++◌, arith, Ok, ℕ, List, [], Option, Some, None, Err, refl, sym, ap, subst, true, false, IfOk, IsTrue}
use Rattle.std.specs.Prelude.{Result, is_some}
use Rattle.kb_geometry.specs.declared.shape.Point.{Point}
use Rattle.kb_geometry.specs.declared.shape.Rect.{Rect}
use Rattle.kb_geometry.specs.declared.shape.Shape.{Shape}
use Rattle.kb_geometry.specs.declared.stone.Cell.{Cell}
use Rattle.kb_geometry.specs.declared.stone.Colour.{Colour}
use Rattle.sgf_reader.specs.declared.collection.Pair.{Pair}
use Rattle.sgf_reader.specs.declared.fault.FaultKind.{FaultKind}
use Rattle.sgf_reader.specs.declared.fault.FaultKind.TheVariants as kind
use Rattle.sgf_reader.specs.declared.fault.SgfFault.{SgfFault}
use Rattle.game_tree.specs.declared.building.BuildError.{BuildError}
use Rattle.game_tree.specs.declared.building.BuildError.TheVariants.{Fault}
use Rattle.game_tree.specs.declared.node.Move.{Move}
use Rattle.game_tree.specs.declared.property.Property.{Property}
use Rattle.game_tree.specs.declared.property.Property.TheVariants as property
use Rattle.game_tree.specs.NodeValues.{IsValueBad, IsValueRead, no_move, no_setup, plays, second_move, sets, setups_of, with_setups}
use Rattle.std.proofs.lemmas.List.{append-nil}
use Rattle.game_tree.specs.Built.{Built}
use Rattle.game_tree.specs.declared.node.Setup.{Setup}
use Rattle.game_tree.specs.Property.{bytes_of, mover_of, identifier_of, property_by, property_named, setter_of}
use Rattle.game_tree.specs.Value.{IsMoveValue, IsSetupValue}
use Rattle.game_tree.specs.ValueFaults.{IsMove}

-- the fault that an answer carries
pub same_fault : {T : Type 0} (answer : BuildError) (of : FaultKind) (at : ℕ) (f : SgfFault) → answer ≡ Fault (record { kind = of; at = at }) → ◌≡◌ {A = Result T BuildError} (Err answer) (Err (Fault f)) → (f.at ≡ at) × (f.kind ≡ of)
same_fault answer of at f is e =
    let faults : Fault (record { kind = of; at = at }) ≡ Fault f = cc in
    let same : record { kind = of; at = at } ≡ f = cc in
    (ap (λ (g : SgfFault). g.at) (sym same), ap (λ (g : SgfFault). g.kind) (sym same))

-- a side's value is a move
pub move_by : (text : List ℕ) (pair : Pair) (colour : Colour) → mover_of text pair ≡ Some colour → IsMove text pair
move_by text pair colour e = ap is_some e

pub setter_by : (text : List ℕ) (pair : Pair) (cell : Cell) → setter_of text pair ≡ Some cell → IsTrue (is_some (setter_of text pair))
setter_by text pair cell e = ap is_some e

-- the second move of a node
pub bad_second : (text : List ℕ) (shape : Shape) (pair : Pair) (played : Option Move) (of : FaultKind) → true ≡ is_some played → IsMove text pair → of ≡ kind.TwoMoves → IsValueBad text shape pair played of
bad_second text shape pair None of there move is = absurd (cc)
bad_second text shape pair (Some m) of there move is = subst (IsValueBad text shape pair (Some m)) (sym is) (second_move move)

-- a first move that is no move
pub bad_first : (text : List ℕ) (shape : Shape) (pair : Pair) (played : Option Move) (of : FaultKind) → false ≡ is_some played → IsMove text pair → ((move : Option Point) → ¬ IsMoveValue shape (bytes_of text pair.value) move) → of ≡ kind.BadPoint → IsValueBad text shape pair played of
bad_first text shape pair None of there move none is = subst (IsValueBad text shape pair None) (sym is) (no_move move none)
bad_first text shape pair (Some m) of there move none is = absurd (cc)

pub first_move : (text : List ℕ) (shape : Shape) (pair : Pair) (played : Option Move) (colour : Colour) (point : Option Point) → false ≡ is_some played → mover_of text pair ≡ Some colour → IsMoveValue shape (bytes_of text pair.value) point → IsValueRead text shape pair played (Some (record { colour = colour; point = point })) []
first_move text shape pair None colour point there mover move = plays colour point mover move
first_move text shape pair (Some m) colour point there mover move = absurd (cc)

-- what a property does
property_by-moves : (mover : Option Colour) (setter : Option Cell) (colour : Colour) → property_by mover setter ≡ property.Moves colour → mover ≡ Some colour
property_by-moves (Some side) setter colour e = let same : side ≡ colour = cc in ap Some same
property_by-moves None (Some stone) colour e = absurd (cc)
property_by-moves None None colour e = absurd (cc)

property_by-sets : (mover : Option Colour) (setter : Option Cell) (cell : Cell) → property_by mover setter ≡ property.Sets cell → (mover ≡ None) × (setter ≡ Some cell)
property_by-sets (Some side) setter cell e = absurd (cc)
property_by-sets None (Some stone) cell e = let same : stone ≡ cell = cc in (refl, ap Some same)
property_by-sets None None cell e = absurd (cc)

property_by-other : (mover : Option Colour) (setter : Option Cell) → property_by mover setter ≡ property.Other → (mover ≡ None) × (setter ≡ None)
property_by-other (Some side) setter e = absurd (cc)
property_by-other None (Some stone) e = absurd (cc)
property_by-other None None e = (refl, refl)

pub property_moves : (text : List ℕ) (pair : Pair) (found : Property) (colour : Colour) → found ≡ property_named (identifier_of text pair) → found ≡ property.Moves colour → mover_of text pair ≡ Some colour
property_moves text pair found colour is e = property_by-moves _ _ colour (sym is ∙ e)

pub property_sets : (text : List ℕ) (pair : Pair) (found : Property) (cell : Cell) → found ≡ property_named (identifier_of text pair) → found ≡ property.Sets cell → (mover_of text pair ≡ None) × (setter_of text pair ≡ Some cell)
property_sets text pair found cell is e = property_by-sets _ _ cell (sym is ∙ e)

pub property_other : (text : List ℕ) (pair : Pair) (found : Property) → found ≡ property_named (identifier_of text pair) → found ≡ property.Other → (mover_of text pair ≡ None) × (setter_of text pair ≡ None)
property_other text pair found is e = property_by-other _ _ (sym is ∙ e)

-- what a setup's value does
pub setup_done : {T : Type 0} (text : List ℕ) (shape : Shape) (pair : Pair) (played : Option Move) (cell : Cell) (before after : Built) (answer : Result T BuildError) → (mover_of text pair ≡ None) × (setter_of text pair ≡ Some cell) → IfOk answer (λ _. (rect : Option Rect) × IsSetupValue shape (bytes_of text pair.value) rect × (after ≡ with_setups before (setups_of cell rect))) → IfOk answer (λ _. (found : List Setup) × IsValueRead text shape pair played played found × (after ≡ with_setups before found))
setup_done text shape pair played cell before after (Ok x) (mover, setter) (rect, value, is) = (setups_of cell rect, sets cell rect mover setter value, is)
setup_done text shape pair played cell before after (Err e) by done = tt

pub setup_bad : (text : List ℕ) (shape : Shape) (pair : Pair) (played : Option Move) (cell : Cell) (of : FaultKind) → (mover_of text pair ≡ None) × (setter_of text pair ≡ Some cell) → of ≡ kind.BadPoint → ((rect : Option Rect) → ¬ IsSetupValue shape (bytes_of text pair.value) rect) → IsValueBad text shape pair played of
setup_bad text shape pair played cell of (mover, setter) is none = subst (IsValueBad text shape pair played) (sym is) (no_setup mover (setter_by text pair cell setter) none)

-- a builder to which nothing is added
pub nothing_added : (b : Built) → b ≡ with_setups b []
nothing_added b =
    let pending : b.pending ++ [] ≡ b.pending = append-nil b.pending in
    let count : b.setup_count + 0 ≡ b.setup_count = omega arith in
    let e : record { shape = b.shape; nodes = b.nodes; pending = b.pending; setup_count = b.setup_count } ≡ with_setups b [] = cc in e

-- the error that an answer carries
pub same_error : {T : Type 0} (error other : BuildError) → ◌≡◌ {A = Result T BuildError} (Err error) (Err other) → error ≡ other
same_error error other e = cc
