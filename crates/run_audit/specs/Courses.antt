-- What is found in a record of the course of its run, in one pass over its lines.
use Rattle.std.specs.Prelude.{◌≡◌, ◌≢◌, ◌↔◌, ◌==◌, ◌&&◌, ◌||◌, ℕ, ◌^◌, ◌<◌, Bool, true, false, not, List, [], ◌∷◌, ◌++◌, codes, drop, length, map, nat_eq, slice_index_or, if◌then◌else◌, All, AllPairs, Contains, Option, Some, None}
use Rattle.std.specs.Borrow.{Bor}
use Rattle.std.specs.Cmp.Lexicographic.{slice_cmp}
use Rattle.std.specs.List.{starts_with}
use Rattle.std.specs.Ordering.{nat_cmp}
use Rattle.std.specs.Str.{bytes_eq}
use Rattle.std.specs.declared.cmp.Ordering.TheVariants.{Less}
use Rattle.query_script.specs.declared.statement.Placed.{Placed}
use Rattle.query_script.specs.declared.statement.Statement.{Statement}
use Rattle.query_script.specs.declared.statement.Statement.TheVariants as statement
use Rattle.run_audit.specs.Shown.{begins_with_digit, files_head, is_shown_unlisted, is_shown_unread, unlisted_line}
use Rattle.run_audit.specs.declared.course.ShownImport.{ShownImport}

-- the names of files that are kept for an import, as lists of bytes
abbrev pub unread_in : ShownImport → List (List ℕ)
unread_in shown = map (λ (name : Bor (List ℕ)). name.now) shown.unread.items

-- What is kept of the import at a line is what a record shows of it: whether it is unlisted, and the
-- names of its files that are unread, in order of their bytes.
pub record ShowsImport (recorded : List ℕ) (shown : ShownImport) : Type 0 where
  pub unlisted : shown.unlisted ≡ is_shown_unlisted recorded shown.line
  pub ascending : AllPairs (λ x y. slice_cmp nat_cmp y x ≢ Less) (unread_in shown)
  pub unread : (name : List ℕ) →
      Contains (unread_in shown) name ↔ (is_shown_unread recorded shown.line name ≡ true)

-- What was seen of an import in the lines of a record so far: whether one told that it is unlisted,
-- whether one told how many files it has, whether the next lines tell its files, and the names that
-- they told as unread.
pub record Seen : Type 0 where
  pub unlisted : Bool
  pub told : Bool
  pub telling : Bool
  pub unread : List (List ℕ)

-- before the first line
abbrev pub nothing_seen : Seen
nothing_seen = record { unlisted = false; told = false; telling = false; unread = [] }

-- the name that a line tells as unread, if it tells one
abbrev pub name_told : List ℕ → List (List ℕ)
name_told line = if starts_with nat_eq line (codes "unread ") then drop 7 line ∷ [] else []

-- the line tells how many files the import at this line of the script has
abbrev pub tells_files : ℕ → List ℕ → Bool
tells_files import line = starts_with nat_eq line (files_head import)

-- what was seen of the import at a line of the script with one line of the record more
abbrev pub seen_with : ℕ → Seen → List ℕ → Seen
seen_with import seen line = if begins_with_digit line then (record {
  unlisted = seen.unlisted || bytes_eq line (unlisted_line import);
  told = seen.told || tells_files import line;
  telling = not seen.told && tells_files import line;
  unread = seen.unread;
}) else (record seen {
  unread = seen.unread ++ (if seen.telling then name_told line else []);
})

-- and with all of these lines
abbrev pub seen_after : ℕ → Seen → List (List ℕ) → Seen
seen_after import seen [] = seen
seen_after import seen (line ∷ lines) = seen_after import (seen_with import seen line) lines

-- the place is this one
abbrev pub is_place : Option ℕ → ℕ → Bool
is_place None at = false
is_place (Some place) at = place == at

-- what is kept of an import of what was seen, where the next lines tell its files or don't
abbrev pub seen_of : ShownImport → Bool → Seen
seen_of shown telling = record {
  unlisted = shown.unlisted;
  told = shown.told;
  telling = telling;
  unread = unread_in shown;
}

-- What is kept of the imports when one line of the record more was seen: of each as much as that line
-- tells. The next lines tell the files of the import at the second place.
pub record SeesLine (line : List ℕ) (before after : List ShownImport) (telling next : Option ℕ)
    : Type 0 where
  pub counted : length after ≡ length before
  pub lines : (at : ℕ) (d : ShownImport) → at < length before →
      (slice_index_or after at d).line ≡ (slice_index_or before at d).line
  pub seen : (at : ℕ) (d : ShownImport) → at < length before →
      seen_of (slice_index_or after at d) (is_place next at)
      ≡ seen_with (slice_index_or before at d).line
      (seen_of (slice_index_or before at d) (is_place telling at)) line

-- The names that are kept of an import are in order of their bytes, and all else is as it was.
pub record HasNamesSorted (before after : ShownImport) : Type 0 where
  pub line : after.line ≡ before.line
  pub unlisted : after.unlisted ≡ before.unlisted
  pub ascending : AllPairs (λ x y. slice_cmp nat_cmp y x ≢ Less) (unread_in after)
  pub names : (name : List ℕ) → Contains (unread_in after) name ↔ Contains (unread_in before) name

-- the lines of the imports of files among these statements, in order
abbrev pub import_lines : List Placed → List ℕ
import_lines [] = []
import_lines (p ∷ ps) = own p.statement ++ import_lines ps
  where
    own : Statement → List ℕ
    own (statement.Import path) = p.line ∷ []
    own other = []

-- what is kept of the imports of files among these statements, in order, is what the record shows of them
pub record ShowsImports (recorded : List ℕ) (placed : List Placed) (shown : List ShownImport)
    : Type 0 where
  pub lines : map (λ (s : ShownImport). s.line) shown ≡ import_lines placed
  pub each : All (ShowsImport recorded) shown

-- the imports stand in order of their lines
abbrev pub AreAscending : List ShownImport → Type 0
AreAscending shown = AllPairs (λ (a : ShownImport) (b : ShownImport). a.line < b.line) shown

-- the lines of the imports are numbers of 64 bits
abbrev pub AreNumbered : List ShownImport → Type 0
AreNumbered shown = All (λ (s : ShownImport). s.line < 2 ^ 64) shown

-- no import stands at this line
abbrev pub IsNoneAt : ℕ → List ShownImport → Type 0
IsNoneAt line shown = All (λ (s : ShownImport). s.line ≢ line) shown

-- an import of files at this line is among those of which it is kept what is shown
pub record IsAmongShown (p : Placed) (shown : List ShownImport) : Type 0 where
  pub ascending : AreAscending shown
  pub among : (path : List ℕ) → p.statement ≡ statement.Import path →
      (s : ShownImport) × Contains shown s × (s.line ≡ p.line)
