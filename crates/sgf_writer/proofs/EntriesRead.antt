-- What the properties of a written node do, and which of them are found.
use Rattle.std.proofs.Common.{◌≡◌, ◌⊎◌, ℕ, Bool, true, false, cond, List, [], ◌∷◌, ◌++◌, map, Option, Some, None, All, IsTrue, eqb, codes, refl, sym, ◌∙◌, ap, subst, arith, inl, inr}
use Rattle.std.proofs.lemmas.Bool.{cases_Bool}
use Rattle.std.proofs.lemmas.List.Elements.{All-cons, All-head, All-nil, All-tail}
use Rattle.std.proofs.lemmas.List.Sums.{sum_by-cons}
use Rattle.std.specs.Prelude.{IfSome, count_by, filter, find, is_some}
use Rattle.std.specs.Str.{bytes_eq}
use Rattle.kb_geometry.specs.declared.shape.Point.{Point}
use Rattle.kb_geometry.specs.declared.shape.Rect.{Rect}
use Rattle.kb_geometry.specs.declared.shape.Shape.{Shape}
use Rattle.kb_geometry.specs.declared.stone.Cell.{Cell}
use Rattle.kb_geometry.specs.declared.stone.Cell.TheVariants as cell
use Rattle.kb_geometry.specs.declared.stone.Colour.{Colour}
use Rattle.kb_geometry.specs.declared.stone.Colour.TheVariants as colour
use Rattle.kb_geometry.specs.Board.{IsOnBoard, IsOrderedRectOnBoard}
use Rattle.sgf_reader.specs.declared.collection.Pair.{Pair}
use Rattle.game_tree.specs.declared.node.Move.{Move}
use Rattle.game_tree.specs.declared.node.Setup.{Setup}
use Rattle.game_tree.specs.Information.{Information}
use Rattle.game_tree.specs.Property.{bytes_of, is_of, is_upper, mover_named, mover_of, setter_named, setter_of}
use Rattle.game_tree.specs.Tree.{IsNodeOnBoard, Tree, node_at}
use Rattle.game_tree.specs.Trees.{AreSetups, IsPlayedBy}
use Rattle.game_tree.specs.Value.{IsMoveValue, IsSetupValue}
use Rattle.sgf_writer.specs.Written.{escaped, mover_name, setter_name}
use Rattle.sgf_writer.proofs.Entries.{move_entries, node_entries, root_entries, setup_entries, text_entries}
use Rattle.sgf_writer.proofs.Spelling.{Entry, entry_of}
use Rattle.sgf_writer.proofs.ValuesRead.{move-read, setup-read}

-- ---- what properties do

-- the side whose moves the values of this identifier are, and the cell that they set
abbrev mover_at : List ℕ → Option Colour
mover_at name = mover_named (filter is_upper name)

abbrev setter_at : List ℕ → Option Cell
setter_at name = setter_named (filter is_upper name)

-- these properties set these setups and play this move
pub data EntriesDo (shape : Shape) : List Entry → List Setup → Option Move → Type 0 where
  nothing : EntriesDo shape [] [] None
  other : {entry : Entry} {entries : List Entry} {setups : List Setup} {played : Option Move} → setter_at entry.name ≡ None → mover_at entry.name ≡ None → EntriesDo shape entries setups played → EntriesDo shape (entry ∷ entries) setups played
  set : {entry : Entry} {entries : List Entry} {setups : List Setup} {played : Option Move} (c : Cell) (rect : Rect) → setter_at entry.name ≡ Some c → mover_at entry.name ≡ None → IsSetupValue shape entry.value (Some rect) → EntriesDo shape entries setups played → EntriesDo shape (entry ∷ entries) (record { cell = c; rect = rect } ∷ setups) played
  move : {entry : Entry} {entries : List Entry} {setups : List Setup} (c : Colour) (target : Option Point) → setter_at entry.name ≡ None → mover_at entry.name ≡ Some c → IsMoveValue shape entry.value target → EntriesDo shape entries setups None → EntriesDo shape (entry ∷ entries) setups (Some (record { colour = c; point = target }))

setter-itself : (c : Cell) → (setter_at (setter_name c) ≡ Some c) × (mover_at (setter_name c) ≡ None)
setter-itself cell.Empty = (refl, refl)
setter-itself cell.Black = (refl, refl)
setter-itself cell.White = (refl, refl)

mover-itself : (c : Colour) → (setter_at (mover_name c) ≡ None) × (mover_at (mover_name c) ≡ Some c)
mover-itself colour.Black = (refl, refl)
mover-itself colour.White = (refl, refl)

moves-do : (shape : Shape) (played : Option Move) → IfSome played (λ (m : Move). IfSome m.point (λ (p : Point). IsOnBoard shape p)) → EntriesDo shape (move_entries played) [] played
moves-do shape None on = EntriesDo.nothing
moves-do shape (Some m) on = let names = mover-itself m.colour in EntriesDo.move m.colour m.point names.0 names.1 (move-read shape m.point on) EntriesDo.nothing

setups-do : (shape : Shape) (setups : List Setup) (played : Option Move) → All (λ (s : Setup). IsOrderedRectOnBoard shape s.rect) setups → EntriesDo shape (move_entries played) [] played → EntriesDo shape (setup_entries setups ++ move_entries played) setups played
setups-do shape [] played on rest = rest
setups-do shape (s ∷ setups) played on rest =
    let names = setter-itself s.cell in
    EntriesDo.set s.cell s.rect names.0 names.1 (setup-read shape s.rect (All-head (λ (s : Setup). IsOrderedRectOnBoard shape s.rect) s setups on)) (setups-do shape setups played (All-tail (λ (s : Setup). IsOrderedRectOnBoard shape s.rect) s setups on) rest)

text-does : (shape : Shape) (name bytes : List ℕ) (entries : List Entry) (setups : List Setup) (played : Option Move) → setter_at name ≡ None → mover_at name ≡ None → EntriesDo shape entries setups played → EntriesDo shape (text_entries name bytes ++ entries) setups played
text-does shape name [] entries setups played s m rest = rest
text-does shape name (b ∷ bytes) entries setups played s m rest = EntriesDo.other s m rest

root-does : (shape board : Shape) (info : Information) (entries : List Entry) (setups : List Setup) (played : Option Move) → EntriesDo shape entries setups played → EntriesDo shape (root_entries board info entries) setups played
root-does shape board info entries setups played rest =
    EntriesDo.other refl refl (EntriesDo.other refl refl (EntriesDo.other refl refl
    (text-does shape (codes "PB") info.black _ setups played refl refl
    (text-does shape (codes "PW") info.white _ setups played refl refl
    (text-does shape (codes "EV") info.event _ setups played refl refl
    (text-does shape (codes "PC") info.place _ setups played refl refl
    (text-does shape (codes "DT") info.date _ setups played refl refl
    (text-does shape (codes "RE") info.outcome_text entries setups played refl refl rest))))))))

pub node-does : (shape : Shape) (tree : Tree) (n : ℕ) → IsNodeOnBoard shape (node_at tree n) → EntriesDo shape (node_entries tree n) (node_at tree n).setups (node_at tree n).played
node-does shape tree n on =
    let rest = setups-do shape (node_at tree n).setups (node_at tree n).played on.setups (moves-do shape (node_at tree n).played on.played) in
    elim (cases_Bool (eqb n 0)) [
      | inl e ↦ rw e (root-does shape tree.shape tree.info _ (node_at tree n).setups (node_at tree n).played rest)
      | inr e ↦ rw e rest
    ]

-- ---- from properties to pairs

heads : {X : Type 0} (x y : X) (xs ys : List X) → x ∷ xs ≡ y ∷ ys → (x ≡ y) × (xs ≡ ys)
heads {X} x y xs ys e = let head : x ≡ y = cc in let tail : xs ≡ ys = cc in (head, tail)

pub setups-shown : (whole : List ℕ) (shape : Shape) (entries : List Entry) (setups : List Setup) (played : Option Move) → EntriesDo shape entries setups played → (pairs : List Pair) → map (entry_of whole) pairs ≡ entries → AreSetups whole shape pairs setups
setups-shown whole shape entries setups played EntriesDo.nothing [] e = AreSetups.none
setups-shown whole shape entries setups played EntriesDo.nothing (p ∷ pairs) e = absurd cc
setups-shown whole shape entries setups played (EntriesDo.other s m rest) [] e = absurd cc
setups-shown whole shape entries setups played (EntriesDo.other {entry = entry} {entries = others} s m rest) (p ∷ pairs) e =
    let h = heads (entry_of whole p) entry (map (entry_of whole) pairs) others e in
    AreSetups.other (ap (λ (x : Entry). setter_at x.name) h.0 ∙ s) (setups-shown whole shape others setups played rest pairs h.1)
setups-shown whole shape entries setups played (EntriesDo.set c rect s m v rest) [] e = absurd cc
setups-shown whole shape entries setups played (EntriesDo.set {entry = entry} {entries = others} {setups = more} c rect s m v rest) (p ∷ pairs) e =
    let h = heads (entry_of whole p) entry (map (entry_of whole) pairs) others e in
    AreSetups.set c rect (ap (λ (x : Entry). setter_at x.name) h.0 ∙ s) (subst (λ (x : Entry). IsSetupValue shape x.value (Some rect)) (sym h.0) v) (setups-shown whole shape others more played rest pairs h.1)
setups-shown whole shape entries setups played (EntriesDo.move c target s m v rest) [] e = absurd cc
setups-shown whole shape entries setups played (EntriesDo.move {entry = entry} {entries = others} c target s m v rest) (p ∷ pairs) e =
    let h = heads (entry_of whole p) entry (map (entry_of whole) pairs) others e in
    AreSetups.other (ap (λ (x : Entry). setter_at x.name) h.0 ∙ s) (setups-shown whole shape others setups None rest pairs h.1)

pub played-shown : (whole : List ℕ) (shape : Shape) (entries : List Entry) (setups : List Setup) (played : Option Move) → EntriesDo shape entries setups played → (pairs : List Pair) → map (entry_of whole) pairs ≡ entries → IsPlayedBy whole shape pairs played
played-shown whole shape entries setups played EntriesDo.nothing [] e = IsPlayedBy.none
played-shown whole shape entries setups played EntriesDo.nothing (p ∷ pairs) e = absurd cc
played-shown whole shape entries setups played (EntriesDo.other s m rest) [] e = absurd cc
played-shown whole shape entries setups played (EntriesDo.other {entry = entry} {entries = others} s m rest) (p ∷ pairs) e =
    let h = heads (entry_of whole p) entry (map (entry_of whole) pairs) others e in
    IsPlayedBy.other (ap (λ (x : Entry). mover_at x.name) h.0 ∙ m) (played-shown whole shape others setups played rest pairs h.1)
played-shown whole shape entries setups played (EntriesDo.set c rect s m v rest) [] e = absurd cc
played-shown whole shape entries setups played (EntriesDo.set {entry = entry} {entries = others} {setups = more} c rect s m v rest) (p ∷ pairs) e =
    let h = heads (entry_of whole p) entry (map (entry_of whole) pairs) others e in
    IsPlayedBy.other (ap (λ (x : Entry). mover_at x.name) h.0 ∙ m) (played-shown whole shape others more played rest pairs h.1)
played-shown whole shape entries setups played (EntriesDo.move c target s m v rest) [] e = absurd cc
played-shown whole shape entries setups played (EntriesDo.move {entry = entry} {entries = others} c target s m v rest) (p ∷ pairs) e =
    let h = heads (entry_of whole p) entry (map (entry_of whole) pairs) others e in
    IsPlayedBy.move c target (ap (λ (x : Entry). mover_at x.name) h.0 ∙ m) (subst (λ (x : Entry). IsMoveValue shape x.value target) (sym h.0) v) (played-shown whole shape others setups None rest pairs h.1)

-- ---- no value of a node is at fault

-- a value of a setup is one
abbrev pub IsGoodSetup : List ℕ → Shape → Pair → Type 0
IsGoodSetup whole shape p = IsTrue (is_some (setter_of whole p)) → (rect : Option Rect) × IsSetupValue shape (bytes_of whole p.value) rect

-- a value of a move is one
abbrev pub IsGoodMove : List ℕ → Shape → Pair → Type 0
IsGoodMove whole shape p = IsTrue (is_some (mover_of whole p)) → (target : Option Point) × IsMoveValue shape (bytes_of whole p.value) target

pub setups-good : (whole : List ℕ) (shape : Shape) (pairs : List Pair) (setups : List Setup) → AreSetups whole shape pairs setups → All (IsGoodSetup whole shape) pairs
setups-good whole shape pairs setups AreSetups.none = All-nil (IsGoodSetup whole shape)
setups-good whole shape pairs setups (AreSetups.other {pair = p} {pairs = others} e rest) =
    All-cons (IsGoodSetup whole shape) p others (λ t. absurd (let f : true ≡ false = sym t ∙ ap is_some e in cc)) (setups-good whole shape others setups rest)
setups-good whole shape pairs setups (AreSetups.ignored {pair = p} {pairs = others} c e v rest) = All-cons (IsGoodSetup whole shape) p others (λ t. (None, v)) (setups-good whole shape others setups rest)
setups-good whole shape pairs setups (AreSetups.set {pair = p} {pairs = others} {setups = more} c rect e v rest) = All-cons (IsGoodSetup whole shape) p others (λ t. (Some rect, v)) (setups-good whole shape others more rest)

pub moves-good : (whole : List ℕ) (shape : Shape) (pairs : List Pair) (played : Option Move) → IsPlayedBy whole shape pairs played → All (IsGoodMove whole shape) pairs
moves-good whole shape pairs played IsPlayedBy.none = All-nil (IsGoodMove whole shape)
moves-good whole shape pairs played (IsPlayedBy.other {pair = p} {pairs = others} e rest) =
    All-cons (IsGoodMove whole shape) p others (λ t. absurd (let f : true ≡ false = sym t ∙ ap is_some e in cc)) (moves-good whole shape others played rest)
moves-good whole shape pairs played (IsPlayedBy.move {pair = p} {pairs = others} c target e v rest) = All-cons (IsGoodMove whole shape) p others (λ t. (target, v)) (moves-good whole shape others None rest)

-- where nothing is played no value is a move
no_moves : (whole : List ℕ) (shape : Shape) (pairs : List Pair) (played : Option Move) → IsPlayedBy whole shape pairs played → played ≡ None → (pair : Pair) (before after : List Pair) → pairs ≡ before ++ pair ∷ after → is_some (mover_of whole pair) ≡ false
no_moves whole shape pairs played IsPlayedBy.none none pair [] after e = absurd cc
no_moves whole shape pairs played IsPlayedBy.none none pair (b ∷ before) after e = absurd cc
no_moves whole shape pairs played (IsPlayedBy.other {pair = p} {pairs = others} m rest) none pair [] after e =
    let h = heads p pair others after e in ap (λ (x : Pair). is_some (mover_of whole x)) (sym h.0) ∙ ap is_some m
no_moves whole shape pairs played (IsPlayedBy.other {pair = p} {pairs = others} m rest) none pair (b ∷ before) after e =
    let h = heads p b others (before ++ pair ∷ after) e in no_moves whole shape others played rest none pair before after h.1
no_moves whole shape pairs played (IsPlayedBy.move c target m v rest) none pair before after e = absurd cc

-- no move stands before another
pub no_second : (whole : List ℕ) (shape : Shape) (pairs : List Pair) (played : Option Move) → IsPlayedBy whole shape pairs played → (pair : Pair) (before after : List Pair) → pairs ≡ before ++ pair ∷ after → IsTrue (is_some (mover_of whole pair)) → count_by (λ (p : Pair). is_some (mover_of whole p)) before ≡ 0
no_second whole shape pairs played IsPlayedBy.none pair [] after e t = refl
no_second whole shape pairs played IsPlayedBy.none pair (b ∷ before) after e t = absurd cc
no_second whole shape pairs played (IsPlayedBy.other m rest) pair [] after e t = refl
no_second whole shape pairs played (IsPlayedBy.other {pair = p} {pairs = others} m rest) pair (b ∷ before) after e t =
    let h = heads p b others (before ++ pair ∷ after) e in
    let here : ◌≡◌ {A = ℕ} (cond (is_some (mover_of whole b)) 1 0) 0 = ap (λ (x : Pair). cond (is_some (mover_of whole x)) 1 0) (sym h.0) ∙ ap (λ c. cond (is_some c) 1 0) m in
    let others_none = no_second whole shape others played rest pair before after h.1 t in
    sum_by-cons (λ (x : Pair). cond (is_some (mover_of whole x)) 1 0) b before ∙ omega (arith, here, others_none)
no_second whole shape pairs played (IsPlayedBy.move m target v w rest) pair [] after e t = refl
no_second whole shape pairs played (IsPlayedBy.move {pair = p} {pairs = others} m target v w rest) pair (b ∷ before) after e t =
    let h = heads p b others (before ++ pair ∷ after) e in
    let none = no_moves whole shape others None rest refl pair before after h.1 in
    absurd (let f : true ≡ false = sym t ∙ none in cc)

-- ---- the first value of a property

-- whether an identifier is this one, without its lower-case letters
abbrev pub is_named : List ℕ → Entry → Bool
is_named name entry = bytes_eq (filter is_upper entry.name) name

-- the first pair of an identifier, by the properties
pub find-shown : (whole name : List ℕ) (pairs : List Pair) → ((find (is_of whole name) pairs ≡ None) × (find (is_named name) (map (entry_of whole) pairs) ≡ None)) ⊎ ((p : Pair) × (find (is_of whole name) pairs ≡ Some p) × (find (is_named name) (map (entry_of whole) pairs) ≡ Some (entry_of whole p)))
find-shown whole name [] = inl (refl, refl)
find-shown whole name (p ∷ pairs) =
    elim (cases_Bool (is_named name (entry_of whole p))) [
      | inl t ↦ inr (p, rw t refl, rw t refl)
      | inr f ↦ elim (find-shown whole name pairs) [
        | inl none ↦ inl (rw f none.0, rw f none.1)
        | inr found ↦ inr (found.0, rw f found.1, rw f found.2)
      ]
    ]

pub find-skip : (name id bytes : List ℕ) (entries : List Entry) → bytes_eq (filter is_upper id) name ≡ false → find (is_named name) (text_entries id bytes ++ entries) ≡ find (is_named name) entries
find-skip name id [] entries f = refl
find-skip name id (b ∷ bytes) entries f = rw f refl

-- what is found of a text of the information
pub data IsShownText : Option Entry → List ℕ → Type 0 where
  absent : IsShownText None []
  shown : {entry : Entry} {bytes : List ℕ} → entry.value ≡ escaped bytes → IsShownText (Some entry) bytes

pub find-text : (name id bytes : List ℕ) (entries : List Entry) → bytes_eq (filter is_upper id) name ≡ true → find (is_named name) entries ≡ None → IsShownText (find (is_named name) (text_entries id bytes ++ entries)) bytes
find-text name id [] entries t none = subst (λ (o : Option Entry). IsShownText o []) (sym none) absent
find-text name id (b ∷ bytes) entries t none =
    let here : find (is_named name) (text_entries id (b ∷ bytes) ++ entries) ≡ Some (record { name = id; value = escaped (b ∷ bytes) }) = rw t refl in
    subst (λ (o : Option Entry). IsShownText o (b ∷ bytes)) (sym here) (shown refl)

find-move : (name : List ℕ) → ((c : Colour) → bytes_eq (filter is_upper (mover_name c)) name ≡ false) → (played : Option Move) → find (is_named name) (move_entries played) ≡ None
find-move name movers None = refl
find-move name movers (Some m) = rw (movers m.colour) refl

pub find-tail : (name : List ℕ) → ((c : Cell) → bytes_eq (filter is_upper (setter_name c)) name ≡ false) → ((c : Colour) → bytes_eq (filter is_upper (mover_name c)) name ≡ false) → (setups : List Setup) (played : Option Move) → find (is_named name) (setup_entries setups ++ move_entries played) ≡ None
find-tail name setters movers [] played = find-move name movers played
find-tail name setters movers (s ∷ setups) played = rw (setters s.cell) (find-tail name setters movers setups played)
