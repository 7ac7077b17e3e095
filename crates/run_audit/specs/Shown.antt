-- What a record shows of the course of the run that made it: which imports are unlisted, and which of
-- their files are unread. A record is a list of bytes.
use Rattle.std.specs.Prelude.{◌≡◌, ◌==◌, ℕ, Bool, false, not, List, [], ◌∷◌, ◌++◌, codes, nat_eq, take_while, if◌then◌else◌}
use Rattle.std.specs.Char.{is_ascii_digit}
use Rattle.std.specs.Fmt.{decimal}
use Rattle.std.specs.List.{list_any, slice_split, starts_with}
use Rattle.std.specs.Str.{bytes_eq}
use Rattle.kb_edges.specs.Files.{File}
use Rattle.query_script.specs.Bytes.{line_feed}
use Rattle.import_work.specs.Course.{FindsBy, ImportCourse}
use Rattle.import_work.specs.declared.outcome.Counts.{Counts}
use Rattle.import_work.specs.declared.source.Source.{Source}

-- the lines of a record: its bytes cut at each line feed, the last piece among them
abbrev pub lines_in : List ℕ → List (List ℕ)
lines_in recorded = slice_split (λ b. b == line_feed) recorded

-- whether a line begins with a digit
abbrev pub begins_with_digit : List ℕ → Bool
begins_with_digit [] = false
begins_with_digit (byte ∷ bytes) = is_ascii_digit byte

-- `LINE imported unlisted`, as a line
abbrev pub unlisted_line : ℕ → List ℕ
unlisted_line line = decimal line ++ codes " imported unlisted"

-- `LINE imported files `
abbrev pub files_head : ℕ → List ℕ
files_head line = decimal line ++ codes " imported files "

-- `unread NAME`, as a line
abbrev pub unread_line : List ℕ → List ℕ
unread_line name = codes "unread " ++ name

-- the record has this line
abbrev pub has_line : List (List ℕ) → List ℕ → Bool
has_line lines wanted = list_any (λ line. bytes_eq line wanted) lines

-- Of the lines of a record those that tell the files of the import at a line: they stand behind the
-- first one that begins with `LINE imported files `, and before the next one that begins with a digit.
-- Without such a first line there are none.
abbrev pub lines_told : ℕ → List (List ℕ) → List (List ℕ)
lines_told line [] = []
lines_told line (first ∷ others) =
    if starts_with nat_eq first (files_head line) then
    take_while (λ told. not (begins_with_digit told)) others else lines_told line others

-- whether a record shows the import at a line as unlisted
abbrev pub is_shown_unlisted : List ℕ → ℕ → Bool
is_shown_unlisted recorded line = has_line (lines_in recorded) (unlisted_line line)

-- whether a record shows a file of the import at a line as unread
abbrev pub is_shown_unread : List ℕ → ℕ → List ℕ → Bool
is_shown_unread recorded line name = has_line (lines_told line (lines_in recorded)) (unread_line name)

-- A record shows this entry of the course for the import at a line from a source, in these files and
-- in a base with these counts: the import is unlisted where its path is there and the record shows it
-- so, and of the files that it finds those are unread that the record shows so. All else is read.
pub record IsShown (recorded : List ℕ) (line : ℕ) (files : List File) (from : Source)
    (before : Counts) (entry : ImportCourse) : Type 0 where
  pub finds : FindsBy files from before (is_shown_unlisted recorded line)
      (is_shown_unread recorded line)
  pub entry_is : entry ≡ finds.entry
