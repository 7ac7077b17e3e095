-- Jobs that are done in pieces, side by side: what each piece gives fits to what is told of its job.
use Rattle.std.specs.Prelude.{◌≡◌, ◌<◌, ℕ, List, IfOk, Vec, length}
use Rattle.std.specs.Global.{Global}
use Rattle.std.specs.List.{flat_map, slice_index_or}
use Rattle.kb_geometry.specs.Pieces.{PieceOf}
use Rattle.import_work.specs.Reads.{FileText, file_texts}
use Rattle.import_work.specs.declared.read.ReadFile.{ReadFile}

-- the files of groups, in order
abbrev pub group_texts : List (Vec ReadFile Global) → List FileText
group_texts groups = flat_map (λ (g : Vec ReadFile Global). file_texts g.items) groups

-- a piece has what fits to what is told of its job
abbrev pub IsPieceFor : {J T A : Type 0} → (J → List T) → (List T → List A → Type 0) → J →
    PieceOf A → Type 0
IsPieceFor told Fits job piece = IfOk piece (λ given. Fits (told job) given.items)

-- there is a piece for each job
pub record ArePieces {J T A : Type 0} (told : J → List T) (Fits : List T → List A → Type 0)
    (jobs : List J) (pieces : List (PieceOf A)) : Type 0 where
  pub all : length pieces ≡ length jobs
  pub each : (n : ℕ) (job : J) (d : PieceOf A) → n < length jobs →
      IsPieceFor told Fits (slice_index_or jobs n job) (slice_index_or pieces n d)
