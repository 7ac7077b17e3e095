-- Files that are read one by one, and judged afterwards.
use Rattle.std.specs.Prelude.{◌≡◌, ◌⊎◌, ◌≤◌, ℕ, List, [], ◌∷◌, ◌++◌, None, Some, map, Vec}
use Rattle.std.specs.Global.{Global}
use Rattle.std.specs.Option.{option_map}
use Rattle.std.specs.declared.option.Option.{Option}
use Rattle.kb_edges.specs.Faults.{Rose}
use Rattle.kb_edges.specs.Files.{File, HasFile}
use Rattle.kb_edges.specs.Told.{IfTold}
use Rattle.import_work.specs.Course.{IsContent}
use Rattle.import_work.specs.declared.read.ReadFile.{ReadFile}

-- a file by its name, and its bytes, if they were read
pub record FileText : Type 0 where
  pub name : List ℕ
  pub bytes : Option (List ℕ)

abbrev pub file_text : ReadFile → FileText
file_text f = record {
  name = f.name;
  bytes = option_map (λ (bytes : Vec ℕ Global). bytes.items) f.bytes;
}

abbrev pub file_texts : List ReadFile → List FileText
file_texts files = map file_text files

abbrev pub text_names : List FileText → List (List ℕ)
text_names texts = map (λ (t : FileText). t.name) texts

-- these bytes were read of a file, or it was not read by a fault or because it isn't there
abbrev pub IsTextOf : Option (List File) → List ℕ → List ℕ → Option (List ℕ) → ℕ → ℕ → Type 0
IsTextOf told path name (Some bytes) faults_before faults_now =
    IfTold told (λ files. IsContent files path name bytes)
IsTextOf told path name None faults_before faults_now = Rose faults_before faults_now
    ⊎ ((files : List File) × (told ≡ Some files) × (¬ HasFile files path name))

-- files that were read, one after another
pub data AreTexts (told : Option (List File)) (path : List ℕ) (faults_before : ℕ) : List FileText →
    ℕ → Type 0 where
  nothing : AreTexts told path faults_before [] faults_before
  one_more : {texts : List FileText} {faults : ℕ} (faults_now : ℕ) (text : FileText) →
      AreTexts told path faults_before texts faults →
      IsTextOf told path text.name text.bytes faults faults_now → faults ≤ faults_now →
      AreTexts told path faults_before (texts ++ text ∷ []) faults_now
