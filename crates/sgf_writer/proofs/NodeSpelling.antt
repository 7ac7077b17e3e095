-- How the text of a whole node is spelled.
use Rattle.std.proofs.Common.{◌≡◌, ◌≢◌, ◌⊎◌, ℕ, ◌<◌, ◌≤◌, Bool, true, false, cond, List, [], ◌∷◌, ◌++◌, Option, Some, None, All, codes, sym, ◌∙◌, ap, subst, arith, inl, inr, append_assoc}
use Rattle.std.proofs.lemmas.Bool.{cases_Bool, cases_eq, eq-eqb, ne_eqb}
use Rattle.std.proofs.lemmas.Fmt.{decimal_is_IsNumeral}
use Rattle.std.proofs.lemmas.List.Elements.{All-append, All-cons, All-nil, All-weaker}
use Rattle.std.proofs.lemmas.Str.Parse.{digit_from_value}
use Rattle.std.specs.Fmt.{decimal}
use Rattle.std.specs.Prelude.{IfSome, if◌then◌else◌, ◌==◌}
use Rattle.std.specs.Str.Parse.{AllDigits}
use Rattle.kb_geometry.specs.declared.shape.Point.{Point}
use Rattle.kb_geometry.specs.declared.shape.Rect.{Rect}
use Rattle.kb_geometry.specs.declared.shape.Shape.{Shape}
use Rattle.kb_geometry.specs.Board.{IsOnBoard, cols_of, rows_of, IsOrderedRectOnBoard}
use Rattle.sgf_reader.specs.Grammar.{IsValue}
use Rattle.game_tree.specs.declared.node.Move.{Move}
use Rattle.game_tree.specs.declared.node.Setup.{Setup}
use Rattle.game_tree.specs.Information.{Information}
use Rattle.game_tree.specs.Tree.{IsTree, Tree, node_at, node_count}
use Rattle.sgf_writer.specs.Letters.{HasLetter, HasLetters}
use Rattle.sgf_writer.specs.Written.{move_text, root_text, setups_text, size_text, text_property}
use Rattle.sgf_writer.proofs.Entries.{Spell-as, information_entries, move_entries, node_entries, plain-cons, root_entries, spell-move, spell-property, spell-setups, spell-text, two_letters, value-plain, plain-nil}
use Rattle.sgf_writer.proofs.Spelling.{Entry, Spell}

-- ---- the size

pub digits-range : (text : List ℕ) → AllDigits 10 text → All (λ (b : ℕ). (48 ≤ b) × (b ≤ 57)) text
digits-range [] digits = All-nil (λ (b : ℕ). (48 ≤ b) × (b ≤ 57))
digits-range (c ∷ cs) digits =
    let range = digit_from_value c digits.0 in
    All-cons (λ (b : ℕ). (48 ≤ b) × (b ≤ 57)) c cs (omega (arith, range), omega (arith, range)) (digits-range cs digits.1)

pub decimal-range : (n : ℕ) → n < 100 → All (λ (b : ℕ). (48 ≤ b) × (b ≤ 57)) (decimal n)
decimal-range n h = digits-range (decimal n) (decimal_is_IsNumeral n (omega arith)).0.1

pub columns-le : (shape : Shape) → (1 ≤ cols_of shape) × (cols_of shape ≤ 52)
columns-le shape = shape.in_range.0

pub rows-le : (shape : Shape) → (1 ≤ rows_of shape) × (rows_of shape ≤ 52)
rows-le shape = shape.in_range.1

-- a size is one number on a square board, else two
pub size-cases : (shape : Shape) → ((cols_of shape ≡ rows_of shape) × (size_text shape ≡ decimal (cols_of shape))) ⊎ (size_text shape ≡ decimal (cols_of shape) ++ 58 ∷ decimal (rows_of shape))
size-cases shape =
    elim (cases_eq (cols_of shape) (rows_of shape)) [
      | inl e ↦ inl (e, pick true (eq-eqb (cols_of shape) (rows_of shape) e))
      | inr ne ↦ inr (pick false (ne_eqb (cols_of shape) (rows_of shape) ne) ∙ append_assoc (decimal (cols_of shape)) (58 ∷ []) (decimal (rows_of shape)))
    ]
  where
    pick : (b : Bool) → (cols_of shape == rows_of shape) ≡ b → size_text shape ≡ cond b (decimal (cols_of shape)) (decimal (cols_of shape) ++ 58 ∷ [] ++ decimal (rows_of shape))
    pick b e = ap (λ c. cond c (decimal (cols_of shape)) (decimal (cols_of shape) ++ 58 ∷ [] ++ decimal (rows_of shape))) e

-- the bytes of a size are digits and a colon
pub size-range : (shape : Shape) → All (λ (b : ℕ). (48 ≤ b) × (b ≤ 58)) (size_text shape)
size-range shape =
    let within = λ (n : ℕ) (h : n < 100). All-weaker (λ (b : ℕ). (48 ≤ b) × (b ≤ 57)) (λ (b : ℕ). (48 ≤ b) × (b ≤ 58)) (λ b r. (r.0, omega arith)) (decimal n) (decimal-range n h) in
    let cols = within (cols_of shape) (omega (arith, (columns-le shape).1)) in
    let rows = within (rows_of shape) (omega (arith, (rows-le shape).1)) in
    elim (size-cases shape) [
      | inl p ↦ subst (λ (t : List ℕ). All (λ (b : ℕ). (48 ≤ b) × (b ≤ 58)) t) (sym p.1) cols
      | inr e ↦
          subst (λ (t : List ℕ). All (λ (b : ℕ). (48 ≤ b) × (b ≤ 58)) t) (sym e)
          (All-append (λ (b : ℕ). (48 ≤ b) × (b ≤ 58)) (decimal (cols_of shape)) (58 ∷ decimal (rows_of shape)) cols (All-cons (λ (b : ℕ). (48 ≤ b) × (b ≤ 58)) 58 (decimal (rows_of shape)) (omega arith, omega arith) rows))
    ]

value-size : (shape : Shape) → IsValue (size_text shape)
value-size shape =
    value-plain (size_text shape) (All-weaker (λ (b : ℕ). (48 ≤ b) × (b ≤ 58)) (λ (b : ℕ). (b ≢ 93) × (b ≢ 92)) (λ b r. (λ e. absurd (omega arith), λ e. absurd (omega arith))) (size_text shape) (size-range shape))

-- ---- the root

regroup_root : (size a b c d e f rest : List ℕ) → 91 ∷ (size ++ 93 ∷ (a ++ (b ++ (c ++ (d ++ (e ++ (f ++ rest))))))) ≡ ((91 ∷ (size ++ 93 ∷ [])) ++ a ++ b ++ c ++ d ++ e ++ f) ++ rest
regroup_root size a b c d e f rest = simp append_assoc

spell-information : (whole rest : List ℕ) (info : Information) (entries : List Entry) → Spell whole rest entries → Spell whole (text_property (codes "PB") info.black ++ (text_property (codes "PW") info.white ++ (text_property (codes "EV") info.event ++ (text_property (codes "PC") info.place ++ (text_property (codes "DT") info.date ++ (text_property (codes "RE") info.outcome_text ++ rest)))))) (information_entries info entries)
spell-information whole rest info entries next =
    spell-text whole (codes "PB") info.black _ _ (two_letters 80 66 (omega arith, omega arith) (omega arith, omega arith))
    (spell-text whole (codes "PW") info.white _ _ (two_letters 80 87 (omega arith, omega arith) (omega arith, omega arith))
    (spell-text whole (codes "EV") info.event _ _ (two_letters 69 86 (omega arith, omega arith) (omega arith, omega arith))
    (spell-text whole (codes "PC") info.place _ _ (two_letters 80 67 (omega arith, omega arith) (omega arith, omega arith))
    (spell-text whole (codes "DT") info.date _ _ (two_letters 68 84 (omega arith, omega arith) (omega arith, omega arith))
    (spell-text whole (codes "RE") info.outcome_text rest entries (two_letters 82 69 (omega arith, omega arith) (omega arith, omega arith)) next)))))

spell-root : (whole rest : List ℕ) (shape : Shape) (info : Information) (entries : List Entry) → Spell whole rest entries → Spell whole (root_text shape info ++ rest) (root_entries shape info entries)
spell-root whole rest shape info entries next =
    Spell-as whole _ _ (root_entries shape info entries)
    (ap (λ t. 71 ∷ 77 ∷ 91 ∷ 49 ∷ 93 ∷ 70 ∷ 70 ∷ 91 ∷ 52 ∷ 93 ∷ 83 ∷ 90 ∷ t) (regroup_root (size_text shape) (text_property (codes "PB") info.black) (text_property (codes "PW") info.white) (text_property (codes "EV") info.event) (text_property (codes "PC") info.place) (text_property (codes "DT") info.date) (text_property (codes "RE") info.outcome_text) rest))
    (spell-property whole (codes "GM") (codes "1") _ _ (two_letters 71 77 (omega arith, omega arith) (omega arith, omega arith)) (value-plain (codes "1") (plain-cons 49 [] (λ e. absurd (omega (arith, e))) (λ e. absurd (omega (arith, e))) plain-nil))
    (spell-property whole (codes "FF") (codes "4") _ _ (two_letters 70 70 (omega arith, omega arith) (omega arith, omega arith)) (value-plain (codes "4") (plain-cons 52 [] (λ e. absurd (omega (arith, e))) (λ e. absurd (omega (arith, e))) plain-nil))
    (spell-property whole (codes "SZ") (size_text shape) _ _ (two_letters 83 90 (omega arith, omega arith) (omega arith, omega arith)) (value-size shape) (spell-information whole rest info entries next))))

-- ---- a node

-- the properties of a node
abbrev pub properties_text : Tree → ℕ → List ℕ
properties_text tree n = (if n == 0 then root_text tree.shape tree.info else []) ++ setups_text None (node_at tree n).setups ++ move_text (node_at tree n).played

pub point-letters : (shape : Shape) (p : Point) → IsOnBoard shape p → HasLetter p
point-letters shape p on = (omega (arith, on.0, (columns-le shape).1), omega (arith, on.1, (rows-le shape).1))

pub rect-letters : (shape : Shape) (r : Rect) → IsOrderedRectOnBoard shape r → HasLetters r
rect-letters shape r on = (
  omega (arith, on.0, on.2, (columns-le shape).1),
  omega (arith, on.1, on.3, (rows-le shape).1),
  omega (arith, on.2, (columns-le shape).1),
  omega (arith, on.3, (rows-le shape).1),
)

played-letters : (shape : Shape) (played : Option Move) → IfSome played (λ (m : Move). IfSome m.point (λ (p : Point). IsOnBoard shape p)) → IfSome played (λ (m : Move). IfSome m.point HasLetter)
played-letters shape None h = h
played-letters shape (Some m) h = go m.point h
  where
    go : (point : Option Point) → IfSome point (λ (p : Point). IsOnBoard shape p) → IfSome point HasLetter
    go None h = tt
    go (Some p) h = point-letters shape p h

pub spell-node : (whole : List ℕ) (tree : Tree) → IsTree tree → (n : ℕ) → n < node_count tree → Spell whole (properties_text tree n) (node_entries tree n)
spell-node whole tree t n h =
    let on = t.on_board n h in
    let letters = All-weaker (λ (s : Setup). IsOrderedRectOnBoard tree.shape s.rect) (λ (s : Setup). HasLetters s.rect) (λ s r. rect-letters tree.shape s.rect r) (node_at tree n).setups on.setups in
    let rest = spell-setups whole (move_text (node_at tree n).played) (move_entries (node_at tree n).played) (spell-move whole (node_at tree n).played (played-letters tree.shape (node_at tree n).played on.played)) (node_at tree n).setups letters in
    elim (cases_Bool (n == 0)) [
      | inl e ↦ rw e (Spell-as whole _ _ _ (sym (append_assoc (root_text tree.shape tree.info) (setups_text None (node_at tree n).setups) (move_text (node_at tree n).played))) (spell-root whole _ tree.shape tree.info _ rest))
      | inr e ↦ rw e rest
    ]
