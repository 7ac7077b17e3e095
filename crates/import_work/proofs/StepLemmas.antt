-- One step of an import: the next of its names become a segment.
use Rattle.std.proofs.Common.{◌≡◌, ◌≢◌, inl, inr, ℕ, false, ◌+◌, ◌-◌, ◌<◌, min, List, [], ◌∷◌, ◌++◌, Option, length, length-drop, drop, take, map, refl, sym, ap, ◌∙◌, subst, arith}
use Rattle.std.specs.Prelude.{Bool, String, ◌==◌, string_bytes}
use Rattle.std.specs.declared.alloc.Global.{Global}
use Rattle.std.proofs.lemmas.Bool.{cases_lt, false≢true}
use Rattle.std.proofs.Math.Seq.{drop-append-add}
use Rattle.std.proofs.lemmas.List.{drop-map, drop_all, drop_min, length-map, length-take-le, map-append, take-append-drop, take-map, take_all, take_min}
use Rattle.kb_edges.specs.Files.{File}
use Rattle.import_work.specs.Batches.{AreImportedInTurn, line_reports, names_in, unread_in}
use Rattle.import_work.specs.Course.{FileReport, trees_in}
use Rattle.import_work.specs.Imports.{ImportState, IsStep}
use Rattle.import_work.specs.Log.{Segment}
use Rattle.import_work.specs.Outcome.{with_games}
use Rattle.import_work.specs.Steps.{AreMoreFiles}
use Rattle.import_work.specs.Listings.{body_of}
use Rattle.import_work.specs.declared.batch.FileLine.{FileLine}
use Rattle.import_work.specs.declared.outcome.Counts.{Counts}
use Rattle.import_work.specs.declared.listing.Listing.{Listing}
use Rattle.import_work.specs.declared.listing.Listing.TheVariants as listing
use Rattle.import_work.specs.declared.report.ReportBody.{ReportBody}
use Rattle.import_work.specs.declared.report.ReportBody.TheVariants as report
use Rattle.import_work.specs.declared.source.Source.TheVariants as source
use Rattle.import_work.proofs.LostFiles.{paid_untold}
use Rattle.import_work.proofs.Turns.{room_after, unread_paid}

-- ---- lines and what they tell

abbrev file_line : FileReport → FileLine
file_line r = record { name = r.name; outcome = r.outcome }

lines_back : (lines : List FileLine) → map file_line (line_reports lines) ≡ lines
lines_back [] = refl
lines_back (line ∷ lines) = ap (λ ls. line ∷ ls) (lines_back lines)

own_lines : (own : List FileReport) → line_reports (map file_line own) ≡ own
own_lines [] = refl
own_lines (r ∷ own) = ap (λ rs. r ∷ rs) (own_lines own)

-- lines that tell these reports more are these lines more
more_lines : (lines all : List FileLine) (own : List FileReport) → line_reports all ≡ line_reports lines ++ own → all ≡ lines ++ map file_line own
more_lines lines all own is =
    sym (lines_back all) ∙ ap (map file_line) is ∙ map-append file_line (line_reports lines) own
    ∙ ap (λ ls. ls ++ map file_line own) (lines_back lines)

-- ---- one step

module _ (told : Option (List File)) (path : List ℕ) (line number given batch count : ℕ) (left : List (String Global)) (counts after : Counts) (lines all : List FileLine) (segment : Segment) (before now : ℕ) where
  -- the next names of an import become a segment
  pub step_given : 0 < length left → count ≡ min batch (length left) →
      AreMoreFiles told path (map string_bytes (take count left)) counts after before now (line_reports lines) (line_reports all) [] segment →
      IsStep told batch (record { source = source.Under path; line = line; number = number; left = map string_bytes left; body = report.Files lines; counts = counts; given = given })
      (record { source = source.Under path; line = line; number = number; left = map string_bytes (drop count left); body = report.Files all; counts = after; given = given + 1 }) segment before now
  step_given some count_is h =
      let own : List FileReport = h.own_reports in
      let told_lines : line_reports (map file_line own) ≡ own = own_lines own in
      let games : h.own_games ≡ segment = sym h.games_are in
      let names : map string_bytes (take count left) ≡ take batch (map string_bytes left) = ap (λ n. map string_bytes (take n left)) count_is ∙ ap (map string_bytes) (take_min batch left) ∙ sym (take-map string_bytes batch left) in
      let rest : map string_bytes (drop count left) ≡ drop batch (map string_bytes left) = ap (λ n. map string_bytes (drop n left)) count_is ∙ ap (map string_bytes) (drop_min batch left) ∙ sym (drop-map string_bytes batch left) in
      let counted : after ≡ with_games counts (trees_in segment) = h.counted ∙ ap (λ gs. with_games counts (trees_in gs)) games in
      let turn : AreImportedInTurn told path counts before (line_reports (map file_line own)) segment now = subst (λ rs. AreImportedInTurn told path counts before rs segment now) (sym told_lines) (subst (λ gs. AreImportedInTurn told path counts before own gs now) games h.in_turn) in
      let pushed : all ≡ lines ++ map file_line own = more_lines lines all own h.reports_are in IsStep.of_files path (record {
        lines = lines;
        more = map file_line own;
        under = refl;
        some = λ none. omega (arith, some, sym (length-map left string_bytes) ∙ ap length none);
        listed = refl;
        named = ap names_in told_lines ∙ h.named ∙ names;
        in_turn = turn;
        goes_on = λ i. record { source = source.Under path; line = line; number = number; left = rest i; body = report.Files (pushed i); counts = counted i; given = given + 1 };
        paid = unread_paid told path counts before (line_reports (map file_line own)) segment now turn;
        untold = λ untold. paid_untold told path (unread_in (line_reports (map file_line own))) before now untold (unread_paid told path counts before (line_reports (map file_line own)) segment now turn);
        room = room_after told path counts after before (line_reports (map file_line own)) segment now counted turn;
      })

-- a list that isn't empty, as the test says
pub some_by_test : {X : Type 0} (xs : List X) (empty : Bool) → empty ≡ (length xs == 0) → empty ≡ false → 0 < length xs
some_by_test [] empty is not_empty = absurd (false≢true (sym not_empty ∙ is))
some_by_test (x ∷ xs) empty is not_empty = omega arith

-- the names behind these, and behind more
drop_more : {X : Type 0} (n m : ℕ) (xs : List X) → drop (n + m) xs ≡ drop m (drop n xs)
drop_more n m xs = elim (cases_lt (length xs) n) [
  | inl past ↦ drop_all (n + m) xs (omega (arith, past)) ∙ sym (ap (drop m) (drop_all n xs (omega (arith, past))) ∙ drop_all m [] (omega arith))
  | inr within ↦
      let first : length (take n xs) ≡ n = length-take-le n xs (omega (arith, within)) in
      ap (λ k. drop (k + m) xs) (sym first) ∙ ap (λ ys. drop (length (take n xs) + m) ys) (sym (take-append-drop n xs)) ∙ drop-append-add (take n xs) (drop n xs) m
]

module _ (told : Option (List File)) (path : List ℕ) (line number given batch next count : ℕ) (listed_as : Listing) (names : List (String Global)) (counts after : Counts) (lines all : List FileLine) (segment : Segment) (before now : ℕ) where
  -- the same of the names from the next one on
  pub step_kept : listed_as ≡ listing.Names → 0 < length (drop next names) → count ≡ min batch (length (drop next names)) →
      AreMoreFiles told path (map string_bytes (take count (drop next names))) counts after before now (line_reports lines) (line_reports all) [] segment →
      IsStep told batch (record { source = source.Under path; line = line; number = number; left = map string_bytes (drop next names); body = body_of listed_as lines; counts = counts; given = given })
      (record { source = source.Under path; line = line; number = number; left = map string_bytes (drop (next + count) names); body = body_of listed_as all; counts = after; given = given + 1 }) segment before now
  step_kept listed some count_is h =
      let start : ReportBody → ImportState = λ b. record { source = source.Under path; line = line; number = number; left = map string_bytes (drop next names); body = b; counts = counts; given = given } in
      let end : ReportBody → List (String Global) → ImportState = λ b ns. record { source = source.Under path; line = line; number = number; left = map string_bytes ns; body = b; counts = after; given = given + 1 } in
      subst (λ l. IsStep told batch (start (body_of l lines)) (end (body_of l all) (drop (next + count) names)) segment before now) (sym listed)
      (subst (λ ns. IsStep told batch (start (report.Files lines)) (end (report.Files all) ns) segment before now) (sym (drop_more next count names))
      (step_given told path line number given batch count (drop next names) counts after lines all segment before now some count_is h))

module _ (told : Option (List File)) (path : List ℕ) (line number given batch next count : ℕ) (listed_as : Listing) (names slice : List (String Global)) (counts after : Counts) (lines all : List FileLine) (segment : Segment) (before now : ℕ) where
  abbrev rest : List (String Global)
  rest = take (length slice - next) (drop next slice)

  -- the same as the code takes them
  pub step_taken : slice ≡ names → (names ≢ [] → listed_as ≡ listing.Names) → 0 < length rest → count ≡ min (length rest) batch →
      AreMoreFiles told path (map string_bytes (take count rest)) counts after before now (line_reports lines) (line_reports all) [] segment →
      IsStep told batch (record { source = source.Under path; line = line; number = number; left = map string_bytes (drop next names); body = body_of listed_as lines; counts = counts; given = given })
      (record { source = source.Under path; line = line; number = number; left = map string_bytes (drop (next + count) names); body = body_of listed_as all; counts = after; given = given + 1 }) segment before now
  step_taken same listed some count_is h =
      let left : rest ≡ drop next names = take_all (length slice - next) (drop next slice) (rw length-drop (omega arith)) ∙ ap (drop next) same in
      let some_left : 0 < length (drop next names) = subst (λ ns. 0 < length ns) left some in
      let few : count ≡ min batch (length (drop next names)) = omega (arith, count_is, ap length left) in
      let some_name : names ≢ [] = λ none. omega (arith, some_left, sym (length-drop next names), ap length none) in
      step_kept told path line number given batch next count listed_as names counts after lines all segment before now (listed some_name) some_left few
      (subst (λ ns. AreMoreFiles told path (map string_bytes (take count ns)) counts after before now (line_reports lines) (line_reports all) [] segment) left h)
