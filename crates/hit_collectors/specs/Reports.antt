-- The report line of a box.
use Rattle.std.specs.Prelude.{ℕ, List, ◌++◌, codes}
use Rattle.std.specs.List.{flat_map}
use Rattle.std.specs.Fmt.{decimal}
use Rattle.hit_collectors.specs.declared.kind.Kind.{Kind}
use Rattle.hit_collectors.specs.declared.kind.Kind.TheVariants as kind
use Rattle.hit_collectors.specs.Tallies.{BoxTally}

-- the word for a kind
abbrev pub word_of : Kind → List ℕ
word_of kind.Total = codes "total"
word_of kind.Labels = codes "labels"
word_of kind.Phases = codes "phases"
word_of kind.Outcomes = codes "outcomes"
word_of kind.Nexts = codes "nexts"

-- a number behind a space
abbrev pub behind_space : ℕ → List ℕ
behind_space number = codes " " ++ decimal number

-- `collector NAME WORD` and the numbers, each behind a space, and a line feed
abbrev pub report_line : BoxTally → List ℕ
report_line told = codes "collector " ++ (told.name ++ (codes " " ++ (word_of told.kind
    ++ (flat_map behind_space told.numbers ++ codes "\n"))))
