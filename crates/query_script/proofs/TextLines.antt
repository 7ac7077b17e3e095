-- The lines of a text, one after another.
use Rattle.std.proofs.Common.{◌≡◌, zero, ℕ, suc, ◌+◌, ◌<◌, ◌≤◌, List, [], ◌∷◌, length, get_or, map, drop, refl, ap, sym, ◌∙◌, arith, add-one}
use Rattle.std.proofs.lemmas.List.{get_or-map, length-map}
use Rattle.query_script.specs.Lines.{IsLine}
use Rattle.query_script.specs.Progress.{IsLineAt}
use Rattle.query_script.specs.Script.{line_at, without_end}
use Rattle.query_script.specs.declared.line.Line.{Line}

-- what stands at the front of what is left of a list
front_of_rest : (n : ℕ) (lines : List (List ℕ)) (line : List ℕ) (more : List (List ℕ)) → drop n lines ≡ line ∷ more → (n < length lines) × (get_or lines n [] ≡ line) × (drop (suc n) lines ≡ more)
front_of_rest zero [] line more e = cc
front_of_rest zero (l ∷ lines) line more e = (omega arith, cc, cc)
front_of_rest (suc n) [] line more e = cc
front_of_rest (suc n) (l ∷ lines) line more e =
    let h = front_of_rest n lines line more e in
    (omega (arith, h.0), h.1, h.2)

-- Behind n lines the next one has the next number.
pub record IsNext (lines : List (List ℕ)) (n : ℕ) (line : List ℕ) (more : List (List ℕ)) : Type 0 where
  pub to_last : n + 1 ≤ length lines
  pub at : line_at (map without_end lines) (n + 1) ≡ without_end line
  pub rest : drop (n + 1) lines ≡ more

pub next_line : (n : ℕ) (lines : List (List ℕ)) (line : List ℕ) (more : List (List ℕ)) → drop n lines ≡ line ∷ more → IsNext lines n line more
next_line n lines line more e =
    let h = front_of_rest n lines line more e in
    record {
      to_last = omega (arith, h.0);
      at = rw add-one (get_or-map without_end lines n [] [] h.0 ∙ ap without_end h.1);
      rest = rw add-one h.2;
    }

-- nothing is left of a list past its end
none_left : (n : ℕ) (lines : List (List ℕ)) → n ≤ length lines → drop n lines ≡ [] → n ≡ length lines
none_left zero [] within e = refl
none_left zero (l ∷ lines) within e = cc
none_left (suc n) [] within e = absurd (omega arith)
none_left (suc n) (l ∷ lines) within e = ap suc (none_left n lines (omega arith) e)

-- what the next line is, is the script's line with that number
pub line_is_at : (n : ℕ) (lines : List (List ℕ)) (line : List ℕ) (more : List (List ℕ)) (is : Line) → IsNext lines n line more → IsLine (without_end line) is → IsLineAt (map without_end lines) (n + 1) is
line_is_at n lines line more is next h = record {
  to_last = omega (arith, next.to_last, length-map lines without_end);
  line = rw next.at h;
}

-- where nothing is left, all lines of the script are read
pub all_read : (n : ℕ) (lines : List (List ℕ)) → n ≤ length lines → drop n lines ≡ [] → n ≡ length (map without_end lines)
all_read n lines within none = none_left n lines within none ∙ sym (length-map lines without_end)
