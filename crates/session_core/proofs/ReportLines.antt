-- Counts over what was printed.
use Rattle.std.proofs.Common.{◌≡◌, ◌<◌, ◌≤◌, ℕ, ◌+◌, Bool, cond, List, [], ◌∷◌, ◌++◌, fold, get_or, length, map, take, refl, sym, ◌∙◌, ap, subst}
use Rattle.std.specs.Prelude.{count_by}
use Rattle.std.proofs.lemmas.List.{map_push, take-map, take_more}
use Rattle.std.proofs.lemmas.List.Sums.{sum_by-take-le, sum_by_push}
use Rattle.import_work.specs.Batches.{games_added, games_told, line_report, line_reports}
use Rattle.import_work.specs.Course.{FileReport}
use Rattle.import_work.specs.declared.batch.FileLine.{FileLine}

-- a fold over what a function makes of a list
fold-map : {A X Y : Type 0} (f : X → Y) (step : A → Y → A) (a : A) (xs : List X) → fold step a (map f xs) ≡ fold (λ b x. step b (f x)) a xs
fold-map f step a [] = refl
fold-map f step a (x ∷ xs) = fold-map f step (step a (f x)) xs

-- a count over what a function makes of a list
pub count_by-map : {X Y : Type 0} (f : X → Y) (test : Y → Bool) (xs : List X) → count_by test (map f xs) ≡ count_by (λ x. test (f x)) xs
count_by-map {X} {Y} f test xs = fold-map f (λ (n : ℕ) (y : Y). n + cond (test y) 1 0) 0 xs

-- the games of the first files, and of one file more
abbrev games_in_line : FileReport → ℕ
games_in_line r = games_added r.outcome

pub games_told-taken : (lines : List FileLine) (i : ℕ) (line : FileLine) → i < length lines → line ≡ get_or lines i line → games_told (line_reports (take (i + 1) lines)) ≡ games_told (line_reports (take i lines)) + games_added line.outcome
games_told-taken lines i line below is =
    ap (λ ls. games_told (line_reports ls)) (take_more lines i line below ∙ ap (λ l. take i lines ++ l ∷ []) (sym is))
    ∙ ap games_told (map_push line_report (take i lines) line)
    ∙ sum_by_push games_in_line (line_reports (take i lines)) (line_report line)

-- they are no more than all games
pub games_told-first : (lines : List FileLine) (i : ℕ) → games_told (line_reports (take i lines)) ≤ games_told (line_reports lines)
games_told-first lines i =
    subst (λ rs. games_told rs ≤ games_told (line_reports lines)) (take-map line_report i lines) (sum_by-take-le games_in_line (line_reports lines) i)
