-- The guided output of a record: the one lawful output that the record calls for. Its course is the one
-- that the record shows, and its numbers are those that the record has where they are printed, as far
-- as these may be named there.
use Rattle.std.specs.Prelude.{◌≡◌, ℕ, max, List, [], ◌∷◌, ◌++◌, length, drop, codes, IfSome, Option, Some, None}
use Rattle.std.specs.Fmt.{decimal}
use Rattle.kb_edges.specs.Files.{File}
use Rattle.hit_collectors.specs.Tallies.{BoxTally}
use Rattle.query_script.specs.declared.statement.Placed.{Placed}
use Rattle.query_script.specs.declared.statement.PlacedSearch.{PlacedSearch}
use Rattle.query_script.specs.declared.statement.Statement.{Statement}
use Rattle.query_script.specs.declared.statement.Statement.TheVariants as statement
use Rattle.import_work.specs.Course.{ImportCourse, trees_in}
use Rattle.import_work.specs.Log.{games_of_segments}
use Rattle.import_work.specs.Outcome.{counts_of}
use Rattle.import_work.specs.declared.source.Source.TheVariants as source
use Rattle.session_core.specs.Answers.{IsSearched}
use Rattle.session_core.specs.Lawful.{IsAwaited, IsNamed, IsPassed, Rules, State, at_start, view_at, waiting_text, with_floor, with_session}
use Rattle.session_core.specs.SessionState.{SessionState}
use Rattle.run_audit.specs.Chosen.{IsChosen, StandsAt}
use Rattle.run_audit.specs.Shown.{IsShown}

-- ---- where a number is printed

-- By what words the text of a statement says what is asked, where it can name a version behind them. The
-- texts that a watched search's name is taken, or that none has it, name no version. Of the other
-- statements a wait names the last one alone; the searches of a block name theirs one by one, and the
-- others name none.
abbrev pub asked_by : Statement → Option (List ℕ)
asked_by (statement.Until number) = Some (codes "until " ++ decimal number)
asked_by (statement.Search query filter) = Some (codes "search")
asked_by (statement.Kept query) = Some (codes "kept")
asked_by (statement.Signature pattern) = Some (codes "signature")
asked_by statement.Players = Some (codes "players")
asked_by statement.Doubles = Some (codes "doubles")
asked_by (statement.Game number) = Some (codes "game " ++ decimal number)
asked_by (statement.Opening shape depth least) = Some (codes "opening")
asked_by (statement.Watch name query filter) = Some (codes "watch " ++ name)
asked_by (statement.Watched name) = Some (codes "watched " ++ name)
asked_by (statement.Import path) = None
asked_by (statement.Make games start) = None
asked_by statement.Wait = None
asked_by (statement.Together searches) = None
asked_by statement.Report = None
asked_by (statement.Retire name) = None

-- `LINE ASKED version `: what stands before the number of a version
abbrev pub version_head : ℕ → List ℕ → List ℕ
version_head line asked = decimal line ++ (codes " " ++ (asked ++ codes " version "))

-- what is left of a record where the number of a version is printed, by what is left of it where the
-- text of that statement or search begins
abbrev pub left_at_number : ℕ → List ℕ → List ℕ → List ℕ
left_at_number line asked left = drop (length (version_head line asked)) left

-- the text at a line names the version with this number, behind these words
pub record NamesBehind (line : ℕ) (asked text : List ℕ) (number : ℕ) : Type 0 where
  pub others : List ℕ
  pub text_is : text ≡ version_head line asked ++ others
  pub stands : StandsAt others number

-- the statement may name the version with this number
abbrev pub MayName : Rules → State → Statement → ℕ → Type 0
MayName rules s (statement.Until awaited) number = IsAwaited rules s awaited number
MayName rules s other number = IsNamed rules s number

-- ---- what a record has to do with the text of a statement

-- Where the text of a statement names a version that may be named, its number is the one that is taken
-- from what is left of the record.
abbrev pub NamesChosen : Rules → State → List ℕ → ℕ → Statement → List ℕ → Type 0
NamesChosen rules s left line own text =
    IfSome (asked_by own) (λ asked. (number : ℕ) → MayName rules s own number →
    NamesBehind line asked text number →
    IsChosen (MayName rules s own) (left_at_number line asked left) number)

-- The entry of the course by which a statement imports files is the one that the record shows. Made
-- games have one entry alone.
abbrev pub UsesShown : List File → List ℕ → State → ℕ → Statement → List ImportCourse → Type 0
UsesShown files recorded s line (statement.Import path) used =
    (entry : ImportCourse) × (used ≡ entry ∷ [])
    × IsShown recorded line files (source.Under path)
    (counts_of (trees_in (games_of_segments s.log))) entry
UsesShown files recorded s line other used = Unit {0}

-- The searches of a block, in order: their texts, the greatest of the numbers that they name, and what
-- was left before them and behind them. Each names the version whose number is taken from the record,
-- by the floor before the block.
abbrev pub AreGuidedSearches : Rules → State → List ℕ → List PlacedSearch → SessionState → ℕ →
    List ℕ → SessionState → Type 0
AreGuidedSearches rules s left [] session greatest text after =
    (greatest ≡ 0) × (text ≡ []) × (after ≡ session)
AreGuidedSearches rules s left (p ∷ ps) session greatest text after =
    (n : ℕ) × (first : List ℕ) × (between : SessionState) × (behind : ℕ) × (rest : List ℕ)
    × IsChosen (IsNamed rules s) (left_at_number p.line (codes "search") left) n
    × IsSearched p.line (view_at s n) p.query p.filter session first between
    × AreGuidedSearches rules s (drop (length first) left) ps between behind rest after
    × (greatest ≡ max n behind) × (text ≡ first ++ rest)

-- ---- the guided output

-- A statement at a line prints this text and leads to the next state, as a lawful output allows it, by
-- the entry of the course that the record shows and with the numbers that are taken from what is left
-- of the record where its text begins.
abbrev pub IsGuidedPass : List File → Rules → List ℕ → State → List ℕ → ℕ → Statement →
    List ImportCourse → List ℕ → State → Type 0
IsGuidedPass files rules recorded s left line (statement.Together searches) used text next =
    (n : ℕ) × (after : SessionState) × AreGuidedSearches rules s left searches s.session n text after
    × (used ≡ []) × (next ≡ with_session (with_floor s n) after)
IsGuidedPass files rules recorded s left line own used text next =
    IsPassed files rules s line own used text next × UsesShown files recorded s line own used
    × NamesChosen rules s left line own text

-- After these statements, by this course, the session stands in this state, and the guided output of a
-- record has this text. The boxes told this at the start.
pub data HasGuided (files : List File) (rules : Rules) (boxes : List BoxTally) (recorded : List ℕ) :
    List ImportCourse → List Placed → State → List ℕ → Type 0 where
  nothing : HasGuided files rules boxes recorded [] [] (at_start boxes) []
  one_more : {course : List ImportCourse} {placed : List Placed} {s : State} {out : List ℕ}
      (used : List ImportCourse) (p : Placed) (next : State) (text : List ℕ) →
      HasGuided files rules boxes recorded course placed s out →
      IsGuidedPass files rules recorded s (drop (length out) recorded) p.line p.statement used text
      next →
      HasGuided files rules boxes recorded (course ++ used) (placed ++ p ∷ []) next (out ++ text)

-- The guided output of a record for these statements, by this course, where the boxes tell this at the
-- start: the texts of all of them, and then the report of an import that isn't joined.
abbrev pub IsGuidedBy : List File → Rules → List BoxTally → List Placed → List ℕ →
    List ImportCourse → List ℕ → Type 0
IsGuidedBy files rules boxes placed recorded course out =
    (s : State) × (text : List ℕ) × HasGuided files rules boxes recorded course placed s text
    × (out ≡ text ++ waiting_text s)

-- the guided output of a record, by whichever course the record shows
abbrev pub IsGuided : List File → Rules → List BoxTally → List Placed → List ℕ → List ℕ → Type 0
IsGuided files rules boxes placed recorded out =
    (course : List ImportCourse) × IsGuidedBy files rules boxes placed recorded course out
