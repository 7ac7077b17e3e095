-- Files that are read one by one.
use Rattle.std.proofs.Common.{◌≡◌, ℕ, ◌≤◌, List, [], ◌∷◌, ◌++◌, Option, sym, ◌∙◌, ap, subst}
use Rattle.std.proofs.lemmas.List.{map_push}
use Rattle.kb_edges.specs.Files.{File}
use Rattle.import_work.specs.Reads.{AreTexts, FileText, IsTextOf, file_text, file_texts, one_more, text_names}
use Rattle.import_work.specs.declared.read.ReadFile.{ReadFile}

-- one file more is read
pub texts-more : (told told_now : Option (List File)) (path : List ℕ) (first before now : ℕ) (files more : List ReadFile) (file : ReadFile) (name : List ℕ) → told_now ≡ told → more ≡ files ++ file ∷ [] → file.name ≡ name → IsTextOf told_now path name (file_text file).bytes before now → before ≤ now → AreTexts told path first (file_texts files) before → AreTexts told path first (file_texts more) now
texts-more told told_now path first before now files more file name same pushed named is later so_far =
    let here = subst (λ t. IsTextOf t path name (file_text file).bytes before now) same is in
    let own = subst (λ n. IsTextOf told path n (file_text file).bytes before now) (sym named) here in
    subst (λ ts. AreTexts told path first ts now) (sym (ap file_texts pushed ∙ map_push file_text files file))
    (one_more now (file_text file) so_far own later)

pub text_names-more : (files more : List ReadFile) (file : ReadFile) (name : List ℕ) (names : List (List ℕ)) → more ≡ files ++ file ∷ [] → file.name ≡ name → text_names (file_texts files) ≡ names → text_names (file_texts more) ≡ names ++ name ∷ []
text_names-more files more file name names pushed named so_far =
    ap text_names (ap file_texts pushed ∙ map_push file_text files file)
    ∙ map_push (λ (t : FileText). t.name) (file_texts files) (file_text file)
    ∙ ap (λ ns. ns ++ file.name ∷ []) so_far
    ∙ ap (λ n. names ++ n ∷ []) named
