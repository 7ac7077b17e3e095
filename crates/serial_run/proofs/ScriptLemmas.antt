-- A whole script: what was read of it decides whether it is good, and which line is bad.
use Rattle.std.proofs.Common.{min, take, drop, ◌≡◌, ℕ, suc, ◌+◌, ◌<◌, ◌≤◌, List, [], ◌∷◌, ◌++◌, length, get_or, slice_index, refl, sym, ap, subst, ◌∙◌, append_assoc, arith}
use Prim.Native.Nat.{zero}
use Rattle.std.specs.Prelude.{All, AllPairs, Some, None}
use Rattle.std.proofs.lemmas.Bool.{eq-eqb, eqb-true}
use Rattle.std.proofs.lemmas.List.{get_or-take, length-map, length-take, take_all, drop_all, take-append-drop}
use Rattle.bstr.specs.Text.{lines_of}
use Rattle.bstr.proofs.lemmas.LengthLemmas.{length-lines_of}
use Rattle.bstr.specs.Find.{IsLastByte, is_byte}
use Rattle.query_script.specs.declared.statement.Placed.{Placed}
use Rattle.query_script.specs.Script.{IsPlacedAt, script_lines, without_end}
use Rattle.serial_run.specs.Script.{IsBad, IsCut, IsInGrammar, IsScript, bad_before_cut, not_in_grammar, too_long}

-- how much was read
read_count : (bytes text : List ℕ) → text ≡ take 1048577 bytes → length text ≡ min 1048577 (length bytes)
read_count bytes text is = ap length is ∙ length-take 1048577 bytes

-- what was read is the whole script, if it isn't too long
whole_of_read : (bytes text : List ℕ) → text ≡ take 1048577 bytes → length text ≤ 1048576 → text ≡ bytes
whole_of_read bytes text is short =
    let counted = read_count bytes text is in
    is ∙ take_all 1048577 bytes (omega arith)

-- the byte at a place that was read
byte_of_read : (bytes text : List ℕ) (i : ℕ) → text ≡ take 1048577 bytes → i < 1048577 → slice_index text i ≡ slice_index bytes i
byte_of_read bytes text i is below = ap (λ t. slice_index t i) is ∙ get_or-take 1048577 bytes i 0 below

-- what stands before the cut of what was read stands before the cut of the script
IsCut-read : (bytes text kept : List ℕ) → text ≡ take 1048577 bytes → IsCut text kept → IsCut bytes kept
IsCut-read bytes text kept is cut =
    let counted = read_count bytes text is in
    let behind = drop 1048577 bytes in
    record {
      too_long = omega (arith, cut.too_long);
      rest = cut.rest ++ behind;
      split = sym (take-append-drop 1048577 bytes) ∙ ap (λ t. t ++ behind) (sym is ∙ cut.split) ∙ append_assoc kept cut.rest behind;
      within = cut.within;
      whole_lines = λ i last. sym (byte_of_read bytes text i is (omega (arith, cut.within, last))) ∙ cut.whole_lines i last;
      one_line = λ i from below feed. cut.one_line i from below (byte_of_read bytes text i is (omega arith) ∙ feed);
    }

-- the bad line of what was read is that of the script
pub IsBad-read : (bytes text : List ℕ) (k : ℕ) → text ≡ take 1048577 bytes → IsBad text k → IsBad bytes k
IsBad-read bytes text k is (not_in_grammar short least) =
    subst (λ t. IsBad t k) (whole_of_read bytes text is short) (not_in_grammar short least)
IsBad-read bytes text k is (bad_before_cut kept cut least) = bad_before_cut kept (IsCut-read bytes text kept is cut) least
IsBad-read bytes text k is (too_long kept cut good number) = too_long kept (IsCut-read bytes text kept is cut) good number

-- the statements of what was read are those of the script
pub IsScript-read : (bytes text : List ℕ) (placed : List Placed) → text ≡ take 1048577 bytes → IsScript text placed → IsScript bytes placed
IsScript-read bytes text placed is script = subst (λ t. IsScript t placed) (whole_of_read bytes text is script.0) script

-- a script with statements is in the grammar
pub IsScript-in_grammar : (text : List ℕ) (placed : List Placed) → IsScript text placed → IsInGrammar text
IsScript-in_grammar text placed script = (script.0, script.1.good)

-- a script in the grammar isn't bad
pub good_not_bad : (text : List ℕ) (k : ℕ) → IsInGrammar text → IsBad text k → ⊥
good_not_bad text k good (not_in_grammar short least) = good.1 k least.bad
good_not_bad text k good (bad_before_cut kept cut least) = omega (arith, good.0, cut.too_long)
good_not_bad text k good (too_long kept cut lines number) = omega (arith, good.0, cut.too_long)

-- nothing is left behind a script that is not too long
pub nothing_left : (bytes : List ℕ) → length bytes ≤ 1048576 → drop 1048577 bytes ≡ []
nothing_left bytes short = drop_all 1048577 bytes (omega arith)

-- a line feed that is allowed stands before the limit
pub last_allowed : (text : List ℕ) (last : ℕ) → IsLastByte (is_byte 10) (take 1048576 text) (Some last) → last < 1048576
last_allowed text last is = omega (arith, is.0.high, length-take 1048576 text)

-- what stands up to the last line feed that is allowed
pub IsCut-behind : (text : List ℕ) (last : ℕ) → 1048576 < length text → IsLastByte (is_byte 10) (take 1048576 text) (Some last) → IsCut text (take (last + 1) text)
IsCut-behind text last long is =
    let allowed : length (take 1048576 text) ≡ min 1048576 (length text) = length-take 1048576 text in
    let below = last_allowed text last is in
    let kept : length (take (last + 1) text) ≡ min (last + 1) (length text) = length-take (last + 1) text in
    record {
      too_long = long;
      rest = drop (last + 1) text;
      split = sym (take-append-drop (last + 1) text);
      within = omega arith;
      whole_lines = λ i end.
          let same : i ≡ last = omega arith in
          ap (λ j. slice_index text j) same ∙ sym (get_or-take 1048576 text last 0 below) ∙ eqb-true (slice_index (take 1048576 text) last) 10 is.1;
      one_line = λ i from below_most feed.
          is.0.after i (omega arith) (omega arith) (eq-eqb (slice_index (take 1048576 text) i) 10 (get_or-take 1048576 text i 0 below_most ∙ feed));
    }

-- no line feed is allowed, so nothing stands before the line
pub IsCut-all : (text : List ℕ) → 1048576 < length text → IsLastByte (is_byte 10) (take 1048576 text) None → IsCut text []
IsCut-all text long is =
    let allowed : length (take 1048576 text) ≡ min 1048576 (length text) = length-take 1048576 text in
    record {
      too_long = long;
      rest = text;
      split = refl;
      within = omega arith;
      whole_lines = λ i end. absurd (omega arith);
      one_line = λ i from below feed.
          is i (omega arith) (omega arith) (eq-eqb (slice_index (take 1048576 text) i) 10 (get_or-take 1048576 text i 0 below ∙ feed));
    }

-- each statement stands behind as many lines as statements
line_above : (lines : List (List ℕ)) (placed : List Placed) (d : Placed) → AllPairs (λ (a : Placed) (b : Placed). a.line < b.line) placed → All (IsPlacedAt lines) placed → (k : ℕ) → k < length placed → k < (get_or placed k d).line
line_above lines placed d ordered sound zero below =
    let first = (sound zero d below).from_one in
    omega (arith, first)
line_above lines placed d ordered sound (suc k) below =
    let before = line_above lines placed d ordered sound k (omega arith) in
    let next = ordered k (suc k) d (omega arith) below in
    omega (arith, before, next)

-- there are no more statements than lines
few_statements : (lines : List (List ℕ)) (placed : List Placed) → AllPairs (λ (a : Placed) (b : Placed). a.line < b.line) placed → All (IsPlacedAt lines) placed → length placed ≤ length lines
few_statements lines [] ordered sound = omega arith
few_statements lines (p ∷ ps) ordered sound =
    let above = line_above lines (p ∷ ps) p ordered sound (length ps) (omega arith) in
    let last = (sound (length ps) p (omega arith)).to_last in
    omega (arith, above, last)

-- there are no more statements than bytes
pub IsScript-few : (text : List ℕ) (placed : List Placed) → IsScript text placed → length placed ≤ 1048576
IsScript-few text placed script =
    let few = few_statements (script_lines text) placed script.1.ordered script.1.sound in
    let lines : length (script_lines text) ≡ length (lines_of text) = length-map (lines_of text) without_end in
    omega (arith, script.0, few, lines, length-lines_of text)
