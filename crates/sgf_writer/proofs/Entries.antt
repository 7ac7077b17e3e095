-- The properties of a written node: how its text is spelled.
use Rattle.std.proofs.Common.{◌≡◌, ◌≢◌, ◌⊎◌, ℕ, ◌+◌, ◌-◌, ◌<◌, ◌≤◌, Bool, true, false, cond, List, [], ◌∷◌, ◌++◌, length, Option, Some, None, All, codes, refl, sym, ◌∙◌, ap, subst, arith, inl, inr, append_assoc, length-append}
use Rattle.std.proofs.lemmas.Bool.{cases_Bool, cases_eq, cases_lt, eq-eqb, ne_eqb, lt-ltb, le-ltb}
use Rattle.std.proofs.lemmas.List.Elements.{All-append, All-cons, All-head, All-nil, All-tail}
use Rattle.std.specs.Prelude.{IfSome, ◌||◌, ◌&&◌, ◌==◌, if◌then◌else◌}
use Rattle.std.specs.Option.{option_map_or}
use Rattle.kb_geometry.specs.declared.shape.Point.{Point}
use Rattle.kb_geometry.specs.declared.shape.Rect.{Rect}
use Rattle.kb_geometry.specs.declared.shape.Shape.{Shape}
use Rattle.kb_geometry.specs.declared.stone.Cell.{Cell}
use Rattle.kb_geometry.specs.declared.stone.Cell.TheVariants as cell
use Rattle.kb_geometry.specs.declared.stone.Colour.{Colour}
use Rattle.kb_geometry.specs.declared.stone.Colour.TheVariants as colour
use Rattle.sgf_reader.specs.declared.collection.Span.{Span}
use Rattle.sgf_reader.specs.Grammar.{IsIdentifier, IsLetter, IsUpper, IsValue, span_of}
use Rattle.game_tree.specs.declared.node.Move.{Move}
use Rattle.game_tree.specs.declared.node.Setup.{Setup}
use Rattle.game_tree.specs.Information.{Information}
use Rattle.game_tree.specs.Property.{bytes_of}
use Rattle.game_tree.specs.Tree.{Tree, node_at}
use Rattle.sgf_writer.specs.Letters.{HasLetter, HasLetters}
use Rattle.sgf_writer.specs.Written.{escaped, is_same, letter_of, move_text, mover_name, point_text, rect_text, setter_name, setups_text, size_text, text_property}
use Rattle.sgf_writer.proofs.Spelling.{Entry, IsRun, Spell, Spell-none, run-none, run-property, run-value}
use Rattle.sgf_writer.proofs.Standing.{Stands, Stands-as, Stands-at, Stands-back, Stands-bytes, Stands-front}

-- ---- the properties of a node

abbrev pub text_entries : List ℕ → List ℕ → List Entry
text_entries name [] = []
text_entries name (b ∷ bytes) = record { name = name; value = escaped (b ∷ bytes) } ∷ []

abbrev pub setup_entries : List Setup → List Entry
setup_entries [] = []
setup_entries (s ∷ ss) = record { name = setter_name s.cell; value = rect_text s.rect } ∷ setup_entries ss

abbrev pub move_entries : Option Move → List Entry
move_entries None = []
move_entries (Some m) = record { name = mover_name m.colour; value = option_map_or point_text m.point [] } ∷ []

-- the texts of the information, and what stands behind them
abbrev pub information_entries : Information → List Entry → List Entry
information_entries info rest =
    text_entries (codes "PB") info.black ++ (text_entries (codes "PW") info.white ++ (text_entries (codes "EV") info.event
    ++ (text_entries (codes "PC") info.place ++ (text_entries (codes "DT") info.date ++ (text_entries (codes "RE") info.outcome_text ++ rest)))))

abbrev pub root_entries : Shape → Information → List Entry → List Entry
root_entries shape info rest =
    record { name = codes "GM"; value = codes "1" } ∷ record { name = codes "FF"; value = codes "4" } ∷ record { name = codes "SZ"; value = size_text shape } ∷ information_entries info rest

abbrev pub node_entries : Tree → ℕ → List Entry
node_entries tree n =
    if n == 0 then root_entries tree.shape tree.info (setup_entries (node_at tree n).setups ++ move_entries (node_at tree n).played)
    else (setup_entries (node_at tree n).setups ++ move_entries (node_at tree n).played)

-- ---- identifiers

pub one_letter : (a : ℕ) → IsUpper a → IsIdentifier (a ∷ [])
one_letter a u = (All-cons IsLetter a [] (inl u) (All-nil IsLetter), (0, a, omega arith, refl, u))

pub two_letters : (a b : ℕ) → IsUpper a → IsUpper b → IsIdentifier (a ∷ b ∷ [])
two_letters a b u v = (All-cons IsLetter a (b ∷ []) (inl u) (All-cons IsLetter b [] (inl v) (All-nil IsLetter)), (0, a, omega arith, refl, u))

setter_identifier : (c : Cell) → IsIdentifier (setter_name c)
setter_identifier cell.Empty = two_letters 65 69 (omega arith, omega arith) (omega arith, omega arith)
setter_identifier cell.Black = two_letters 65 66 (omega arith, omega arith) (omega arith, omega arith)
setter_identifier cell.White = two_letters 65 87 (omega arith, omega arith) (omega arith, omega arith)

mover_identifier : (c : Colour) → IsIdentifier (mover_name c)
mover_identifier colour.Black = one_letter 66 (omega arith, omega arith)
mover_identifier colour.White = one_letter 87 (omega arith, omega arith)

-- ---- values

-- a text without `]` and backslash is a value
abbrev pub IsPlain : List ℕ → Type 0
IsPlain text = All (λ (b : ℕ). (b ≢ 93) × (b ≢ 92)) text

pub value-plain : (text : List ℕ) → IsPlain text → IsValue text
value-plain [] plain = IsValue.nothing
value-plain (b ∷ text) plain =
    let here = All-head (λ (b : ℕ). (b ≢ 93) × (b ≢ 92)) b text plain in
    IsValue.byte here.0 here.1 (value-plain text (All-tail (λ (b : ℕ). (b ≢ 93) × (b ≢ 92)) b text plain))

pub plain-nil : IsPlain []
plain-nil = All-nil (λ (b : ℕ). (b ≢ 93) × (b ≢ 92))

pub plain-cons : (b : ℕ) (text : List ℕ) → b ≢ 93 → b ≢ 92 → IsPlain text → IsPlain (b ∷ text)
plain-cons b text no_bracket no_backslash plain = All-cons (λ (b : ℕ). (b ≢ 93) × (b ≢ 92)) b text (no_bracket, no_backslash) plain

-- what a byte's escaped form is
escaped-byte : (b : ℕ) (text : List ℕ) → ((b == 92) || (b == 93)) ≡ true → escaped (b ∷ text) ≡ 92 ∷ b ∷ escaped text
escaped-byte b text e = ap (λ c. cond c (92 ∷ b ∷ []) (b ∷ []) ++ escaped text) e

escaped-plain : (b : ℕ) (text : List ℕ) → ((b == 92) || (b == 93)) ≡ false → escaped (b ∷ text) ≡ b ∷ escaped text
escaped-plain b text e = ap (λ c. cond c (92 ∷ b ∷ []) (b ∷ []) ++ escaped text) e

-- an escaped byte, or one that is neither `]` nor a backslash
pub escaped-cases : (b : ℕ) (text : List ℕ) → (escaped (b ∷ text) ≡ 92 ∷ b ∷ escaped text) ⊎ ((b ≢ 93) × (b ≢ 92) × (escaped (b ∷ text) ≡ b ∷ escaped text))
escaped-cases b text =
    elim (cases_eq b 92) [
      | inl e ↦ inl (escaped-byte b text (ap (λ c. c || (b == 93)) (eq-eqb b 92 e)))
      | inr ne ↦ elim (cases_eq b 93) [
        | inl e ↦ inl (escaped-byte b text (ap (λ c. c || (b == 93)) (ne_eqb b 92 ne) ∙ eq-eqb b 93 e))
        | inr nf ↦ inr (nf, ne, escaped-plain b text (ap (λ c. c || (b == 93)) (ne_eqb b 92 ne) ∙ ne_eqb b 93 nf))
      ]
    ]

pub value-escaped : (text : List ℕ) → IsValue (escaped text)
value-escaped [] = IsValue.nothing
value-escaped (b ∷ text) =
    elim (escaped-cases b text) [
      | inl e ↦ subst IsValue (sym e) (IsValue.escaped (value-escaped text))
      | inr p ↦ subst IsValue (sym p.2) (IsValue.byte p.0 p.1 (value-escaped text))
    ]

-- the letter of a column or row: what it is, by cases
pub letter-cases : (n : ℕ) → n < 52 → ((n ≤ 25) × (letter_of n ≡ 97 + n)) ⊎ ((26 ≤ n) × (n ≤ 51) × (letter_of n ≡ 65 + (n - 26)))
letter-cases n h =
    elim (cases_lt n 26) [
      | inl low ↦ inl (omega arith, ap (λ c. cond c (97 + n) (65 + (n - 26))) (lt-ltb n 26 low))
      | inr high ↦ inr (omega arith, omega arith, ap (λ c. cond c (97 + n) (65 + (n - 26))) (le-ltb n 26 high))
    ]

pub letter-range : (n : ℕ) → n < 52 → (65 ≤ letter_of n) × (letter_of n ≢ 93) × (letter_of n ≢ 92)
letter-range n h =
    elim (letter-cases n h) [
      | inl p ↦ (omega (arith, p.1), λ e. absurd (omega (arith, p.1, e)), λ e. absurd (omega (arith, p.1, e)))
      | inr p ↦ (omega (arith, p.2), λ e. absurd (omega (arith, p.2, p.1, e)), λ e. absurd (omega (arith, p.2, p.1, e)))
    ]

plain-point : (p : Point) → HasLetter p → IsPlain (point_text p)
plain-point p h =
    let x = letter-range p.x h.0 in
    let y = letter-range p.y h.1 in
    plain-cons (letter_of p.x) (letter_of p.y ∷ []) x.1 x.2 (plain-cons (letter_of p.y) [] y.1 y.2 plain-nil)

-- a rectangle is written by one point where its corners are the same, else by two
pub rect-cases : (r : Rect) → ((r.x0 ≡ r.x1) × (r.y0 ≡ r.y1) × (rect_text r ≡ letter_of r.x0 ∷ letter_of r.y0 ∷ [])) ⊎ (rect_text r ≡ (letter_of r.x0 ∷ letter_of r.y0 ∷ []) ++ 58 ∷ (letter_of r.x1 ∷ letter_of r.y1 ∷ []))
rect-cases r =
    elim (cases_eq r.x0 r.x1) [
      | inl ex ↦ elim (cases_eq r.y0 r.y1) [
        | inl ey ↦ inl (ex, ey, pick true (ap (λ c. c && (r.y0 == r.y1)) (eq-eqb r.x0 r.x1 ex) ∙ eq-eqb r.y0 r.y1 ey))
        | inr ny ↦ inr (pick false (ap (λ c. c && (r.y0 == r.y1)) (eq-eqb r.x0 r.x1 ex) ∙ ne_eqb r.y0 r.y1 ny))
      ]
      | inr nx ↦ inr (pick false (ap (λ c. c && (r.y0 == r.y1)) (ne_eqb r.x0 r.x1 nx)))
    ]
  where
    pick : (b : Bool) → ((r.x0 == r.x1) && (r.y0 == r.y1)) ≡ b → rect_text r ≡ cond b (letter_of r.x0 ∷ letter_of r.y0 ∷ []) ((letter_of r.x0 ∷ letter_of r.y0 ∷ []) ++ 58 ∷ (letter_of r.x1 ∷ letter_of r.y1 ∷ []))
    pick b e = ap (λ c. cond c (letter_of r.x0 ∷ letter_of r.y0 ∷ []) ((letter_of r.x0 ∷ letter_of r.y0 ∷ []) ++ 58 ∷ (letter_of r.x1 ∷ letter_of r.y1 ∷ []))) e

value-rect : (r : Rect) → HasLetters r → IsValue (rect_text r)
value-rect r h =
    let one = plain-point (record { x = r.x0; y = r.y0 }) (h.0, h.1) in
    let other = plain-point (record { x = r.x1; y = r.y1 }) (h.2, h.3) in
    elim (rect-cases r) [
      | inl p ↦ subst IsValue (sym p.2) (value-plain _ one)
      | inr e ↦ subst IsValue (sym e) (value-plain _ (All-append (λ (b : ℕ). (b ≢ 93) × (b ≢ 92)) (letter_of r.x0 ∷ letter_of r.y0 ∷ []) (58 ∷ letter_of r.x1 ∷ letter_of r.y1 ∷ []) one (plain-cons 58 (letter_of r.x1 ∷ letter_of r.y1 ∷ []) (λ f. absurd (omega (arith, f))) (λ f. absurd (omega (arith, f))) other)))
    ]

value-target : (point : Option Point) → IfSome point HasLetter → IsValue (option_map_or point_text point [])
value-target None h = IsValue.nothing
value-target (Some p) h = value-plain (point_text p) (plain-point p h)

-- ---- texts that are spelled

pub Spell-as : (whole a b : List ℕ) (entries : List Entry) → a ≡ b → Spell whole a entries → Spell whole b entries
Spell-as whole a b entries e s = subst (λ (t : List ℕ). Spell whole t entries) e s

regroup_value : (value rest : List ℕ) → 91 ∷ (value ++ 93 ∷ rest) ≡ (91 ∷ (value ++ 93 ∷ [])) ++ rest
regroup_value value rest = simp append_assoc

regroup_property : (id value rest : List ℕ) → id ++ (91 ∷ (value ++ 93 ∷ rest)) ≡ (id ++ (91 ∷ (value ++ 93 ∷ []))) ++ rest
regroup_property id value rest = simp append_assoc

behind_value : {whole : List ℕ} (at k : ℕ) (value rest : List ℕ) → Stands whole at (91 ∷ (value ++ 93 ∷ rest)) → k ≡ at + length value + 2 → Stands whole k rest
behind_value at k value rest stands e =
    Stands-at _ k (omega (arith, length-append value (93 ∷ []))) (Stands-back (91 ∷ (value ++ 93 ∷ [])) rest (Stands-as _ _ (regroup_value value rest) stands))

behind_property : {whole : List ℕ} (at k : ℕ) (id value rest : List ℕ) → Stands whole at (id ++ (91 ∷ (value ++ 93 ∷ rest))) → k ≡ at + length id + length value + 2 → Stands whole k rest
behind_property at k id value rest stands e = behind_value (at + length id) k value rest (Stands-back id (91 ∷ (value ++ 93 ∷ rest)) stands) e

pub spell-property : (whole id value rest : List ℕ) (entries : List Entry) → IsIdentifier id → IsValue value → Spell whole rest entries → Spell whole (id ++ (91 ∷ (value ++ 93 ∷ rest))) (record { name = id; value = value } ∷ entries)
spell-property whole id value rest entries is_id is_value next = λ at stands.
    let k = at + length id + length value + 2 in
    run-property whole at k id value rest entries stands is_id is_value refl (run-none whole (span_of at id) k rest entries (next k (behind_property at k id value rest stands refl)))

pub spell-text : (whole id bytes rest : List ℕ) (entries : List Entry) → IsIdentifier id → Spell whole rest entries → Spell whole (text_property id bytes ++ rest) (text_entries id bytes ++ entries)
spell-text whole id [] rest entries is_id next = next
spell-text whole id (b ∷ bytes) rest entries is_id next =
    Spell-as whole _ _ (record { name = id; value = escaped (b ∷ bytes) } ∷ entries) (regroup_property id (escaped (b ∷ bytes)) rest) (spell-property whole id (escaped (b ∷ bytes)) rest entries is_id (value-escaped (b ∷ bytes)) next)

-- ---- setups

is_same-true : (a b : Cell) → is_same a b ≡ true → a ≡ b
is_same-true cell.Empty cell.Empty e = refl
is_same-true cell.Empty cell.Black e = absurd cc
is_same-true cell.Empty cell.White e = absurd cc
is_same-true cell.Black cell.Empty e = absurd cc
is_same-true cell.Black cell.Black e = refl
is_same-true cell.Black cell.White e = absurd cc
is_same-true cell.White cell.Empty e = absurd cc
is_same-true cell.White cell.Black e = absurd cc
is_same-true cell.White cell.White e = refl

regroup_setup : (id value more tail : List ℕ) → id ++ (91 ∷ (value ++ 93 ∷ (more ++ tail))) ≡ ((id ++ (91 ∷ (value ++ 93 ∷ []))) ++ more) ++ tail
regroup_setup id value more tail = simp append_assoc

abbrev LettersIn : List Setup → Type 0
LettersIn ss = All (λ (s : Setup). HasLetters s.rect) ss

-- a run goes on: the setup has the identifier of the one before, or another
abbrev RunsOn : List ℕ → Setup → List ℕ → List Entry → Type 0
RunsOn whole s rest entries = (name : Span) → bytes_of whole name ≡ setter_name s.cell → (at : ℕ) → Stands whole at rest → IsRun whole name at rest entries

setup_with : (c : Cell) (s : Setup) (ss : List Setup) (tail : List ℕ) (b : Bool) → is_same s.cell c ≡ b → cond b [] (setter_name s.cell) ++ (91 ∷ (rect_text s.rect ++ 93 ∷ (setups_text (Some s.cell) ss ++ tail))) ≡ setups_text (Some c) (s ∷ ss) ++ tail
setup_with c s ss tail b e =
    regroup_setup (cond b [] (setter_name s.cell)) (rect_text s.rect) (setups_text (Some s.cell) ss) tail
    ∙ ap (λ x. ((cond x [] (setter_name s.cell) ++ (91 ∷ (rect_text s.rect ++ 93 ∷ []))) ++ setups_text (Some s.cell) ss) ++ tail) (sym e)

new_setter : (whole : List ℕ) (s : Setup) (rest : List ℕ) (entries : List Entry) → HasLetters s.rect → RunsOn whole s rest entries → Spell whole (setter_name s.cell ++ (91 ∷ (rect_text s.rect ++ 93 ∷ rest))) (record { name = setter_name s.cell; value = rect_text s.rect } ∷ entries)
new_setter whole s rest entries letters later = λ at stands.
    let k = at + length (setter_name s.cell) + length (rect_text s.rect) + 2 in
    let named : bytes_of whole (span_of at (setter_name s.cell)) ≡ setter_name s.cell = Stands-bytes _ _ (setter_name s.cell) (Stands-front (setter_name s.cell) _ stands) refl in
    run-property whole at k (setter_name s.cell) (rect_text s.rect) rest entries stands (setter_identifier s.cell) (value-rect s.rect letters) refl
    (later (span_of at (setter_name s.cell)) named k (behind_property at k (setter_name s.cell) (rect_text s.rect) rest stands refl))

same_setter : (whole : List ℕ) (c : Cell) (s : Setup) (rest : List ℕ) (entries : List Entry) (name : Span) (at : ℕ) → s.cell ≡ c → bytes_of whole name ≡ setter_name c → HasLetters s.rect → RunsOn whole s rest entries → Stands whole at (91 ∷ (rect_text s.rect ++ 93 ∷ rest)) → IsRun whole name at (91 ∷ (rect_text s.rect ++ 93 ∷ rest)) (record { name = setter_name s.cell; value = rect_text s.rect } ∷ entries)
same_setter whole c s rest entries name at same named letters later stands =
    let named_so : bytes_of whole name ≡ setter_name s.cell = named ∙ ap setter_name (sym same) in
    let k = at + length (rect_text s.rect) + 2 in
    let run = run-value whole name at k (rect_text s.rect) rest entries stands (value-rect s.rect letters) refl (later name named_so k (behind_value at k (rect_text s.rect) rest stands refl)) in
    subst (λ (n : List ℕ). IsRun whole name at (91 ∷ (rect_text s.rect ++ 93 ∷ rest)) (record { name = n; value = rect_text s.rect } ∷ entries)) named_so run

-- behind a value of this cell's identifier
setups-run : (whole tail : List ℕ) (after : List Entry) → Spell whole tail after → (ss : List Setup) → LettersIn ss → (c : Cell) (name : Span) → bytes_of whole name ≡ setter_name c → (at : ℕ) → Stands whole at (setups_text (Some c) ss ++ tail) → IsRun whole name at (setups_text (Some c) ss ++ tail) (setup_entries ss ++ after)
setups-run whole tail after next [] letters c name named at stands = run-none whole name at tail after (next at stands)
setups-run whole tail after next (s ∷ ss) letters c name named at stands =
    let here = All-head (λ (s : Setup). HasLetters s.rect) s ss letters in
    let later : RunsOn whole s (setups_text (Some s.cell) ss ++ tail) (setup_entries ss ++ after) = λ name named k stands.
    setups-run whole tail after next ss (All-tail (λ (s : Setup). HasLetters s.rect) s ss letters) s.cell name named k stands in
    elim (cases_Bool (is_same s.cell c)) [
      | inl e ↦
          let text = setup_with c s ss tail true e in
          subst (λ (t : List ℕ). IsRun whole name at t (setup_entries (s ∷ ss) ++ after)) text
          (same_setter whole c s (setups_text (Some s.cell) ss ++ tail) (setup_entries ss ++ after) name at (is_same-true s.cell c e) named here later (Stands-as _ _ (sym text) stands))
      | inr e ↦
          let text = setup_with c s ss tail false e in
          subst (λ (t : List ℕ). IsRun whole name at t (setup_entries (s ∷ ss) ++ after)) text
          (run-none whole name at _ (setup_entries (s ∷ ss) ++ after) (new_setter whole s (setups_text (Some s.cell) ss ++ tail) (setup_entries ss ++ after) here later at (Stands-as _ _ (sym text) stands)))
    ]

pub spell-setups : (whole tail : List ℕ) (after : List Entry) → Spell whole tail after → (ss : List Setup) → LettersIn ss → Spell whole (setups_text None ss ++ tail) (setup_entries ss ++ after)
spell-setups whole tail after next [] letters = next
spell-setups whole tail after next (s ∷ ss) letters =
    Spell-as whole _ _ (setup_entries (s ∷ ss) ++ after) (regroup_setup (setter_name s.cell) (rect_text s.rect) (setups_text (Some s.cell) ss) tail)
    (new_setter whole s (setups_text (Some s.cell) ss ++ tail) (setup_entries ss ++ after) (All-head (λ (s : Setup). HasLetters s.rect) s ss letters)
    (λ name named k stands. setups-run whole tail after next ss (All-tail (λ (s : Setup). HasLetters s.rect) s ss letters) s.cell name named k stands))

pub spell-move : (whole : List ℕ) (played : Option Move) → IfSome played (λ (m : Move). IfSome m.point HasLetter) → Spell whole (move_text played) (move_entries played)
spell-move whole None h = Spell-none whole
spell-move whole (Some m) h = spell-property whole (mover_name m.colour) (option_map_or point_text m.point []) [] [] (mover_identifier m.colour) (value-target m.point h) (Spell-none whole)
