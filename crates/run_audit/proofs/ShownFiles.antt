-- The lines of a report that tell files: a file is shown as unread exactly where it is, so that the names
-- that are shown are those that the course has.
use Rattle.std.proofs.Common.{◌≡◌, ◌∙◌, ℕ, Bool, true, false, cond, List, [], ◌∷◌, ◌++◌, map, refl, sym, ap}
use Rattle.std.specs.Prelude.{◌&&◌, ◌||◌, ◌≢◌, All, AllPairs, codes, filter}
use Rattle.std.specs.Fmt.{decimal}
use Rattle.std.specs.List.{concat, flat_map, list_any}
use Rattle.std.specs.Str.{bytes_eq}
use Rattle.std.proofs.lemmas.Bool.{false_from_ne_true, and_right}
use Rattle.std.proofs.lemmas.List.Elements.{All-cons, All-head, All-nil, All-tail, filter_agree}
use Rattle.std.proofs.lemmas.List.Folds.{list_any-append}
use Rattle.std.proofs.lemmas.Slice.Eq.{bytes_eq-Decides}
use Rattle.kb_geometry.proofs.Lists.{AllPairs-head, AllPairs-tail}
use Rattle.sgf_reader.specs.declared.fault.FaultKind.{FaultKind}
use Rattle.sgf_reader.specs.declared.fault.FaultKind.TheVariants as kind
use Rattle.import_work.specs.Batches.{is_unread, unread_in}
use Rattle.import_work.specs.Course.{FileReport}
use Rattle.import_work.specs.declared.outcome.FileOutcome.{FileOutcome}
use Rattle.import_work.specs.declared.outcome.FileOutcome.TheVariants as file
use Rattle.session_core.specs.ImportTexts.{file_text, kind_word}
use Rattle.run_audit.specs.Shown.{has_line, unread_line}
use Rattle.run_audit.proofs.LineLists.{AreTails, AreTails-append, one_line, one_line-append, one_line-concat, one_line-decimal, or-nothing, text_of, text_of-append}
use Rattle.run_audit.proofs.PieceLines.{line_text-is}

-- ---- names that are shown

module _ {X : Type 0} (name : X → List ℕ) (unread : X → Bool) where
  -- whether one of these that is unread has the name
  abbrev shown_in : List X → List ℕ → Bool
  shown_in xs wanted = list_any (λ x. unread x && bytes_eq (name x) wanted) xs

  -- a test that tells the same of each element
  filter-alike : (p q : List ℕ → Bool) (names : List (List ℕ)) → All (λ n. p n ≡ q n) names → filter p names ≡ filter q names
  filter-alike p q [] alike = refl
  filter-alike p q (n ∷ names) alike =
      ap (λ b. cond b (n ∷ filter p names) (filter p names)) (All-head (λ n. p n ≡ q n) n names alike)
      ∙ ap (λ ns. cond (q n) (n ∷ ns) ns) (filter-alike p q names (All-tail (λ n. p n ≡ q n) n names alike))

  -- none of these has the name
  none-shown : (xs : List X) (wanted : List ℕ) → All (λ n. wanted ≢ n) (map name xs) → shown_in xs wanted ≡ false
  none-shown [] wanted apart = refl
  none-shown (x ∷ xs) wanted apart =
      let here : bytes_eq (name x) wanted ≡ false = false_from_ne_true (bytes_eq (name x) wanted) (λ e.
      All-head (λ n. wanted ≢ n) (name x) (map name xs) apart (sym ((bytes_eq-Decides (name x) wanted).0 e))) in
      ap (λ b. b || shown_in xs wanted) (and_right (unread x) (bytes_eq (name x) wanted) here) ∙ none-shown xs wanted (All-tail (λ n. wanted ≢ n) (name x) (map name xs) apart)

  -- the first of these shows its own name as it is
  first-shown : (x : X) (xs : List X) → All (λ n. name x ≢ n) (map name xs) → shown_in (x ∷ xs) (name x) ≡ unread x
  first-shown x xs apart =
      ap (λ b. (unread x && b) || shown_in xs (name x)) ((bytes_eq-Decides (name x) (name x)).1 refl) ∙ ap (λ b. (unread x && true) || b) (none-shown xs (name x) apart) ∙ both (unread x)
    where
      both : (b : Bool) → ((b && true) || false) ≡ b
      both true = refl
      both false = refl

  -- and no other name
  later-shown : (x : X) (xs : List X) (names : List (List ℕ)) → All (λ n. name x ≢ n) names → All (λ n. shown_in (x ∷ xs) n ≡ shown_in xs n) names
  later-shown x xs [] apart = All-nil (λ n. shown_in (x ∷ xs) n ≡ shown_in xs n)
  later-shown x xs (n ∷ names) apart =
      let other = All-head (λ n. name x ≢ n) n names apart in
      let here : bytes_eq (name x) n ≡ false = false_from_ne_true (bytes_eq (name x) n) (λ e. other ((bytes_eq-Decides (name x) n).0 e)) in
      All-cons (λ n. shown_in (x ∷ xs) n ≡ shown_in xs n) n names (ap (λ b. b || shown_in xs n) (and_right (unread x) (bytes_eq (name x) n) here))
      (later-shown x xs names (All-tail (λ n. name x ≢ n) n names apart))

  -- where each has a name of its own, the names that are shown are those of the unread ones
  pub names-shown : (xs : List X) → AllPairs (λ a b. a ≢ b) (map name xs) → filter (shown_in xs) (map name xs) ≡ map name (filter unread xs)
  names-shown [] apart = refl
  names-shown (x ∷ xs) apart =
      let others = AllPairs-head (λ a b. a ≢ b) (name x) (map name xs) apart in
      let rest : filter (shown_in (x ∷ xs)) (map name xs) ≡ map name (filter unread xs) =
      filter-alike (shown_in (x ∷ xs)) (shown_in xs) (map name xs) (later-shown x xs (map name xs) others) ∙ names-shown xs (AllPairs-tail (λ a b. a ≢ b) (name x) (map name xs) apart) in
      ap (λ b. cond b (name x ∷ filter (shown_in (x ∷ xs)) (map name xs)) (filter (shown_in (x ∷ xs)) (map name xs))) (first-shown x xs others)
      ∙ ap (λ ns. cond (unread x) (name x ∷ ns) ns) rest ∙ either (unread x)
    where
      either : (b : Bool) → cond b (name x ∷ map name (filter unread xs)) (map name (filter unread xs)) ≡ map name (cond b (x ∷ filter unread xs) (filter unread xs))
      either true = refl
      either false = refl

-- ---- the lines of files

-- the pieces of a line
abbrev refused_pieces : List ℕ → ℕ → List ℕ → List (List ℕ)
refused_pieces word at name = codes "refused " ∷ word ∷ codes " " ∷ decimal at ∷ codes " " ∷ name ∷ []

abbrev full_pieces : ℕ → ℕ → List ℕ → List (List ℕ)
full_pieces games nodes name = codes "full " ∷ decimal games ∷ codes " " ∷ decimal nodes ∷ codes " " ∷ name ∷ []

-- the line of a file, if it has one
abbrev lines_of_file : List ℕ → FileOutcome → List (List ℕ)
lines_of_file name (file.Accepted games) = []
lines_of_file name (file.Refused of at) = concat (refused_pieces (kind_word of) at name) ∷ []
lines_of_file name (file.Full games nodes) = concat (full_pieces games nodes name) ∷ []
lines_of_file name file.Unread = unread_line name ∷ []

abbrev pub lines_of_reports : List FileReport → List (List ℕ)
lines_of_reports [] = []
lines_of_reports (f ∷ fs) = lines_of_file f.name f.outcome ++ lines_of_reports fs

kind-line : (of : FaultKind) → one_line (kind_word of) ≡ true
kind-line kind.NoGame = refl
kind-line kind.Unexpected = refl
kind-line kind.Ended = refl
kind-line kind.TooLong = refl
kind-line kind.TooDeep = refl
kind-line kind.TooManyNodes = refl
kind-line kind.TooManyGames = refl
kind-line kind.NotGo = refl
kind-line kind.BadSize = refl
kind-line kind.BadPoint = refl
kind-line kind.TwoMoves = refl

file-tails : (name : List ℕ) (outcome : FileOutcome) → one_line name ≡ true → AreTails (lines_of_file name outcome)
file-tails name (file.Accepted games) one = tt
file-tails name (file.Refused of at) one = (
  record {
    one = one_line-concat (refused_pieces (kind_word of) at name) (refl, (kind-line of, (refl, (one_line-decimal at, (refl, (one, tt))))));
    low = refl;
  },
  tt,
)
file-tails name (file.Full games nodes) one = (
  record {
    one = one_line-concat (full_pieces games nodes name) (refl, (one_line-decimal games, (refl, (one_line-decimal nodes, (refl, (one, tt))))));
    low = refl;
  },
  tt,
)
file-tails name file.Unread one = (record { one = one_line-append (codes "unread ") name refl one; low = refl }, tt)

file-text : (name : List ℕ) (outcome : FileOutcome) → file_text (record { name = name; outcome = outcome }) ≡ text_of (lines_of_file name outcome)
file-text name (file.Accepted games) = refl
file-text name (file.Refused of at) = line_text-is (refused_pieces (kind_word of) at name)
file-text name (file.Full games nodes) = line_text-is (full_pieces games nodes name)
file-text name file.Unread = refl

file-shown : (name wanted : List ℕ) (outcome : FileOutcome) → has_line (lines_of_file name outcome) (unread_line wanted) ≡ (is_unread outcome && bytes_eq name wanted)
file-shown name wanted (file.Accepted games) = refl
file-shown name wanted (file.Refused of at) = refl
file-shown name wanted (file.Full games nodes) = refl
file-shown name wanted file.Unread = or-nothing (bytes_eq name wanted)

pub reports-text : (reports : List FileReport) → flat_map file_text reports ≡ text_of (lines_of_reports reports)
reports-text [] = refl
reports-text (f ∷ fs) =
    ap (λ t. t ++ flat_map file_text fs) (file-text f.name f.outcome) ∙ ap (λ t. text_of (lines_of_file f.name f.outcome) ++ t) (reports-text fs)
    ∙ sym (text_of-append (lines_of_file f.name f.outcome) (lines_of_reports fs))

pub reports-tails : (reports : List FileReport) → All (λ (f : FileReport). one_line f.name ≡ true) reports → AreTails (lines_of_reports reports)
reports-tails [] one = tt
reports-tails (f ∷ fs) one =
    AreTails-append (lines_of_file f.name f.outcome) (lines_of_reports fs) (file-tails f.name f.outcome (All-head (λ (f : FileReport). one_line f.name ≡ true) f fs one))
    (reports-tails fs (All-tail (λ (f : FileReport). one_line f.name ≡ true) f fs one))

abbrev name_of : FileReport → List ℕ
name_of f = f.name

abbrev unread_one : FileReport → Bool
unread_one f = is_unread f.outcome

reports-shown : (reports : List FileReport) (wanted : List ℕ) → has_line (lines_of_reports reports) (unread_line wanted) ≡ shown_in name_of unread_one reports wanted
reports-shown [] wanted = refl
reports-shown (f ∷ fs) wanted =
    list_any-append (λ (text : List ℕ). bytes_eq text (unread_line wanted)) (lines_of_file f.name f.outcome) (lines_of_reports fs)
    ∙ ap (λ b. b || has_line (lines_of_reports fs) (unread_line wanted)) (file-shown f.name wanted f.outcome)
    ∙ ap (λ b. (is_unread f.outcome && bytes_eq f.name wanted) || b) (reports-shown fs wanted)

-- the names that such lines show are those of the files that were not read
pub files-shown : (is_shown : List ℕ → Bool) (reports : List FileReport) → AllPairs (λ a b. a ≢ b) (map name_of reports) → ((wanted : List ℕ) → is_shown wanted ≡ has_line (lines_of_reports reports) (unread_line wanted)) →
    filter is_shown (map name_of reports) ≡ unread_in reports
files-shown is_shown reports apart shows =
    filter_agree is_shown (shown_in name_of unread_one reports) (λ wanted. shows wanted ∙ reports-shown reports wanted) (map name_of reports) ∙ names-shown name_of unread_one reports apart
