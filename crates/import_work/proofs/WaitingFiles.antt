-- Files that were read, and wait until the files before them were judged.
use Rattle.std.proofs.Common.{◌≡◌, ℕ, ◌≤◌, List, [], ◌++◌, Option, length, map, refl, sym, ◌∙◌, ap, subst}
use Rattle.std.specs.Prelude.{String, string_bytes}
use Rattle.std.specs.declared.alloc.Global.{Global}
use Rattle.kb_edges.specs.Files.{File}
use Rattle.node_position.specs.Games.{Game}
use Rattle.import_work.specs.Course.{FileReport}
use Rattle.import_work.specs.Judged.{AreJudgedAs}
use Rattle.import_work.specs.Reads.{AreTexts, FileText, nothing, text_names}
use Rattle.import_work.specs.declared.outcome.Counts.{Counts}
use Rattle.import_work.proofs.Judges.{more_files}
use Rattle.import_work.proofs.Turns.{AreFirstFiles, first_files-more, first_files-start, more_files-behind, more_files-few}

-- The first of the names have had their turn. Behind them the files of some names were read, with these
-- texts, and the rest is left.
pub record HaveTexts (told : Option (List File)) (path : List ℕ) (names rest : List (String Global)) (base counts : Counts) (first now : ℕ) (reports more_reports : List FileReport) (games : List Game) (texts : List FileText) : Type 0 where
  pub waiting : List (String Global)
  pub between : ℕ
  pub files : AreFirstFiles told path names (waiting ++ rest) base counts first between reports more_reports games
  pub named : text_names texts ≡ map string_bytes waiting
  pub read : AreTexts told path between texts now

pub HaveTexts-start : (told : Option (List File)) (path : List ℕ) (names rest : List (String Global)) (base : Counts) (first : ℕ) (reports : List FileReport) (games : List Game) (texts : List FileText) → rest ≡ names → games ≡ [] → texts ≡ [] → HaveTexts told path names rest base base first first reports reports games texts
HaveTexts-start told path names rest base first reports games texts all empty none =
    subst (HaveTexts told path names rest base base first first reports reports games) (sym none) (record {
      waiting = [];
      between = first;
      files = first_files-start told path names rest base first reports games all empty;
      named = refl;
      read = nothing;
    })

module _ (told : Option (List File)) (path : List ℕ) (names rest : List (String Global)) (base counts : Counts) (first now : ℕ) (reports more_reports : List FileReport) (games : List Game) (texts : List FileText) (h : HaveTexts told path names rest base counts first now reports more_reports games texts) (after : Counts) (all_reports : List FileReport) (own : List Game) (judged : AreJudgedAs texts counts after more_reports all_reports [] own) where
  -- what waits is judged
  pub waiting-few : length own ≤ 400000
  waiting-few = more_files-few told path (map string_bytes h.waiting) counts after h.between now more_reports all_reports own (more_files told path (map string_bytes h.waiting) counts after h.between now texts more_reports all_reports [] own h.named h.read judged)

  pub waiting-judged : (all_games : List Game) → all_games ≡ games ++ own → AreFirstFiles told path names rest base after first now reports all_reports all_games
  waiting-judged all_games pushed =
      first_files-more told told path names (h.waiting ++ rest) h.waiting rest base counts after first h.between now reports more_reports all_reports games all_games refl refl h.files
      (more_files-behind told path (map string_bytes h.waiting) counts after h.between now more_reports all_reports own
      (more_files told path (map string_bytes h.waiting) counts after h.between now texts more_reports all_reports [] own h.named h.read judged) games all_games pushed)

-- then the next ones wait
pub waiting-more : (told told_now : Option (List File)) (path : List ℕ) (names left chunk rest : List (String Global)) (base counts : Counts) (first before now : ℕ) (reports more_reports : List FileReport) (games : List Game) (texts : List FileText) → told_now ≡ told → left ≡ chunk ++ rest → AreFirstFiles told path names left base counts first before reports more_reports games → text_names texts ≡ map string_bytes chunk → AreTexts told_now path before texts now → HaveTexts told path names rest base counts first now reports more_reports games texts
waiting-more told told_now path names left chunk rest base counts first before now reports more_reports games texts same split h named read = record {
  waiting = chunk;
  between = before;
  files = subst (λ ns. AreFirstFiles told path names ns base counts first before reports more_reports games) split h;
  named = named;
  read = subst (λ t. AreTexts t path before texts now) same read;
}
