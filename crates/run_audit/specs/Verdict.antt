-- What an audit says of a record.
use Rattle.std.specs.Prelude.{◌≡◌, ◌≢◌, ◌⊎◌, ℕ, ◌<◌, ◌≤◌, List, [], ◌∷◌, length, take, slice_get, codes, All}
use Rattle.std.specs.Fmt.{decimal}
use Rattle.kb_edges.specs.Files.{File}
use Rattle.hit_collectors.specs.Tallies.{BoxTally}
use Rattle.query_script.specs.Bytes.{line_feed}
use Rattle.query_script.specs.Texts.{line_text}
use Rattle.query_script.specs.declared.statement.Placed.{Placed}
use Rattle.import_work.specs.Course.{ImportCourse}
use Rattle.session_core.specs.Lawful.{IsLawful, Rules}
use Rattle.run_audit.specs.Guided.{IsGuided}

-- the most bytes of a record
abbrev pub most_record_bytes : ℕ
most_record_bytes = 268435456

-- `audit lawful`
abbrev pub lawful_text : List ℕ
lawful_text = line_text (codes "audit lawful" ∷ [])

-- `audit departs at K`
abbrev pub departs_text : ℕ → List ℕ
departs_text offset = line_text (codes "audit departs at " ∷ decimal offset ∷ [])

-- `audit too long`
abbrev pub too_long_text : List ℕ
too_long_text = line_text (codes "audit too long" ∷ [])

-- the text is one of the lines of an audit
abbrev pub IsVerdictLine : List ℕ → Type 0
IsVerdictLine text = (text ≡ lawful_text) ⊎ (text ≡ too_long_text)
    ⊎ ((offset : ℕ) × (text ≡ departs_text offset))

-- The least offset at which two texts have different bytes, or at which one of them alone has ended.
pub record PartAt (one other : List ℕ) (offset : ℕ) : Type 0 where
  pub same : take offset one ≡ take offset other
  pub apart : slice_get one offset ≢ slice_get other offset

-- the record is its own guided output
abbrev pub AgreesWhole : List File → Rules → List BoxTally → List Placed → List ℕ → Type 0
AgreesWhole files rules boxes placed recorded = IsGuided files rules boxes placed recorded recorded

-- the record departs from its guided output at this offset
abbrev pub DepartsAt : List File → Rules → List BoxTally → List Placed → List ℕ → ℕ → Type 0
DepartsAt files rules boxes placed recorded offset =
    (guided : List ℕ) × IsGuided files rules boxes placed recorded guided
    × PartAt recorded guided offset

-- What is said of a record for these statements: that it is too long; that it is a lawful output; or
-- where it departs from its guided output.
pub data IsVerdict (files : List File) (rules : Rules) (boxes : List BoxTally)
    (placed : List Placed) (recorded : List ℕ) : List ℕ → Type 0 where
  too_long : most_record_bytes < length recorded →
      IsVerdict files rules boxes placed recorded too_long_text
  lawful : length recorded ≤ most_record_bytes → (course : List ImportCourse) →
      IsLawful files rules boxes course placed recorded →
      IsVerdict files rules boxes placed recorded lawful_text
  departs : length recorded ≤ most_record_bytes → (offset : ℕ) →
      DepartsAt files rules boxes placed recorded offset →
      IsVerdict files rules boxes placed recorded (departs_text offset)

-- no byte of the text is a line feed
abbrev pub IsOneLine : List ℕ → Type 0
IsOneLine text = All (λ b. b ≢ line_feed) text

-- no file's name and no box's name has a line feed
pub record HaveOneLineNames (files : List File) (boxes : List BoxTally) : Type 0 where
  pub files_are : All (λ (f : File). IsOneLine f.name) files
  pub boxes_are : All (λ (told : BoxTally). IsOneLine told.name) boxes

-- the record is no lawful output
abbrev pub IsUnlawful : List File → Rules → List BoxTally → List Placed → List ℕ → Type 0
IsUnlawful files rules boxes placed recorded =
    (course : List ImportCourse) → ¬ IsLawful files rules boxes course placed recorded
