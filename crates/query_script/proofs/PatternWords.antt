-- The word of a pattern: its bytes are ASCII, and none of them begins the name of an option, or `where`.
use Rattle.std.proofs.Common.{◌≡◌, ◌≢◌, ◌<◌, ◌≤◌, ◌∙◌, ℕ, List, [], ◌∷◌, All, ap, codes, get_or, length, sym, subst, inl, inr, arith}
use Rattle.std.proofs.lemmas.Bool.{cases_eq, cases_lt, ne_eqb}
use Rattle.std.proofs.lemmas.List.{get_or_past}
use Rattle.std.proofs.lemmas.List.Elements.{All-cons, All-nil}
use Rattle.std.proofs.lemmas.Str.{IsUtf8-from_ascii}
use Rattle.std.specs.Str.{IsUtf8}
use Rattle.pattern_images.specs.declared.cell.PatternCell.{PatternCell}
use Rattle.pattern_images.specs.declared.pattern.Pattern.{Pattern}
use Rattle.pattern_images.specs.Grid.{Grid}
use Rattle.pattern_images.specs.Pattern.{grid_of}
use Rattle.pattern_syntax.specs.Faults.{IsFirstPatternFault}
use Rattle.pattern_syntax.specs.Faults.HasPatternFault.{unknown_byte}
use Rattle.pattern_syntax.specs.Text.{SpellsPattern, cell_byte, slash, small_o, small_x}
use Rattle.pattern_syntax.proofs.Bytes.{cell_or_none, each_cell}
use Rattle.pattern_syntax.proofs.Spelled.{spelled-faultless}
use Rattle.query_script.specs.declared.word.Word.{Word}
use Rattle.query_script.specs.Reading.{BeginsFrom, place_of_option}
use Rattle.query_script.specs.Search.{IsPattern}
use Rattle.query_script.specs.Words.{bare}

-- The byte is ASCII and none with which the name of an option begins, or `where`.
pub record IsPlain (byte : ℕ) : Type 0 where
  pub ascii : byte < 128
  pub no_same : byte ≢ 115
  pub no_fixed : byte ≢ 102
  pub no_main : byte ≢ 109
  pub no_board : byte ≢ 98
  pub no_at : byte ≢ 97
  pub no_to : byte ≢ 116
  pub no_where : byte ≢ 119

-- what is below all these letters, or one of `x` and `o`
plain-below : (byte : ℕ) → byte < 97 → IsPlain byte
plain-below byte below = record {
  ascii = omega arith;
  no_same = λ e. omega (arith, e);
  no_fixed = λ e. omega (arith, e);
  no_main = λ e. omega (arith, e);
  no_board = λ e. omega (arith, e);
  no_at = λ e. omega (arith, e);
  no_to = λ e. omega (arith, e);
  no_where = λ e. omega (arith, e);
}

plain-x : IsPlain small_x
plain-x = record {
  ascii = omega arith;
  no_same = λ e. omega (arith, e);
  no_fixed = λ e. omega (arith, e);
  no_main = λ e. omega (arith, e);
  no_board = λ e. omega (arith, e);
  no_at = λ e. omega (arith, e);
  no_to = λ e. omega (arith, e);
  no_where = λ e. omega (arith, e);
}

plain-o : IsPlain small_o
plain-o = record {
  ascii = omega arith;
  no_same = λ e. omega (arith, e);
  no_fixed = λ e. omega (arith, e);
  no_main = λ e. omega (arith, e);
  no_board = λ e. omega (arith, e);
  no_at = λ e. omega (arith, e);
  no_to = λ e. omega (arith, e);
  no_where = λ e. omega (arith, e);
}

cell_byte-plain : (cell : PatternCell) → IsPlain (cell_byte cell)
cell_byte-plain = each_cell (λ cell. IsPlain (cell_byte cell))
    (plain-below _ (omega arith)) (plain-below _ (omega arith)) (plain-below _ (omega arith))
    plain-x plain-o (plain-below _ (omega arith))

-- the bytes of a pattern
spelled-plain : (text : List ℕ) (grid : Grid) → SpellsPattern text grid → (k : ℕ) → IsPlain (get_or text k 0)
spelled-plain text grid spells k = elim (cases_lt k (length text)) [
  | inr past ↦ plain-below (get_or text k 0) (omega (arith, get_or_past text k 0 past))
  | inl inside ↦ elim (cases_eq (get_or text k 0) slash) [
    | inl parts ↦ plain-below (get_or text k 0) (omega arith)
    | inr other ↦ elim (cell_or_none (get_or text k 0)) [
      | inl a_cell ↦ subst IsPlain a_cell.1 (cell_byte-plain a_cell.0)
      | inr none ↦ absurd (spelled-faultless text grid spells k
          (unknown_byte inside (λ known. elim known [ inl parts ↦ other parts | inr a_cell ↦ none a_cell.0 a_cell.1 ])))
    ]
  ]
]

-- a word that isn't UTF-8 is no pattern
pub not_utf8 : (words : List Word) (bytes : List ℕ) → words ≡ bare bytes ∷ [] → ¬ IsUtf8 bytes → (pattern : Pattern) → ¬ IsPattern pattern words
not_utf8 words bytes is other pattern (text, only, spells) =
    let both : bare bytes ∷ [] ≡ bare text ∷ [] = sym is ∙ only in
    let same : text ≡ bytes = cc in
    other (subst IsUtf8 same (IsUtf8-from_ascii text (λ k. (spelled-plain text (grid_of pattern) spells k).ascii)))

-- a word with a fault is no pattern
pub has_fault : (words : List Word) (bytes text : List ℕ) (k : ℕ) → words ≡ bare bytes ∷ [] → text ≡ bytes → IsFirstPatternFault text k → (pattern : Pattern) → ¬ IsPattern pattern words
has_fault words bytes read k is read_is fault pattern (text, only, spells) =
    let both : bare bytes ∷ [] ≡ bare text ∷ [] = sym is ∙ only in
    let same : text ≡ read = cc in
    spelled-faultless read (grid_of pattern) (subst (λ t. SpellsPattern t (grid_of pattern)) same spells) k fault.here

-- a text of such bytes is the name of no option
plain-place : (text : List ℕ) → ((k : ℕ) → IsPlain (get_or text k 0)) → 6 ≤ place_of_option text
plain-place [] plain = omega arith
plain-place (a ∷ []) plain = omega arith
plain-place (a ∷ b ∷ rest) plain =
    let first : IsPlain a = plain 0 in
    rw (
      ne_eqb a 115 first.no_same,
      ne_eqb a 102 first.no_fixed,
      ne_eqb a 109 first.no_main,
      ne_eqb a 98 first.no_board,
      ne_eqb a 97 first.no_at,
      ne_eqb a 116 first.no_to,
    ) (omega arith)

-- the words of a pattern begin with no option
pub pattern-begins : (pattern : Pattern) (words : List Word) → IsPattern pattern words → BeginsFrom 6 words
pattern-begins pattern words (text, only, spells) =
    subst (BeginsFrom 6) (sym only) (plain-place text (spelled-plain text (grid_of pattern) spells))

-- the words of a pattern aren't the bare word `where`
pub pattern-no_where : (pattern : Pattern) (words : List Word) → IsPattern pattern words → All (λ (w : Word). w ≢ bare (codes "where")) words
pattern-no_where pattern words (text, only, spells) =
    subst (All (λ (w : Word). w ≢ bare (codes "where"))) (sym only)
    (All-cons (λ (w : Word). w ≢ bare (codes "where")) (bare text) [] (λ is.
    let same : text ≡ codes "where" = cc in
    (spelled-plain text (grid_of pattern) spells 0).no_where (ap (λ t. get_or t 0 0) same))
    (All-nil (λ (w : Word). w ≢ bare (codes "where"))))
