-- The rule of the log's book, and what the step that appends an entry tells.
use Rattle.std.specs.Prelude.{ℕ, ◌≡◌, ◌==◌, true, List, [], ◌∷◌, ◌++◌, length, MatchBool}
use Rattle.logbook.specs.Pages.{Cell, Step, View, Book, Named}

-- the book's first word is the length of the log; its second word stays 0
abbrev pub CountsEntries : {A : Type 0} → List Cell → List A → Type 0
CountsEntries cells log = cells ≡ (length log, true) ∷ (0, true) ∷ []

-- the name of the book's first word
abbrev pub length_word : Book → Named
length_word b = record { tracked = true; key = 0; book = b }

-- the entry stands behind all that had been seen, or the word was another and nothing is told
abbrev pub Appends : {A B : Type 0} → Step A → View A B → ℕ → View A B → Type 0
Appends s v found w = MatchBool (found == s.old) (w.0 ≡ v.0 ++ s.ask ∷ []) (Unit {0})
