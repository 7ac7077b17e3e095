-- What becomes of files by what was found in them.
use Rattle.std.proofs.Common.{◌≡◌, ℕ, ◌≤◌, List, [], ◌∷◌, ◌++◌, Option, Some, None, append-nil, append_assoc, map, refl, sym, ◌∙◌, ap, subst}
use Rattle.std.specs.Arc.{arc_value}
use Rattle.std.proofs.lemmas.List.Concat.{flat_map-append}
use Rattle.std.proofs.lemmas.List.{map_push}
use Rattle.kb_edges.specs.Files.{File}
use Rattle.game_tree.specs.Tree.{Tree}
use Rattle.node_position.specs.Games.{Game}
use Rattle.import_work.specs.Batches.{AreImportedInTurn, IsImportedFile, line_report, line_reports, names_in}
use Rattle.import_work.specs.Steps.{AreMoreFiles}
use Rattle.kb_geometry.proofs.Lists.{push_not_nil, push_same}
use Rattle.import_work.specs.Course.{FileReport, games_from, trees_in}
use Rattle.import_work.specs.Found.{IsFoundInFile}
use Rattle.import_work.specs.Judged.{AreFoundFiles, AreJudged, AreJudgedAs, HasAllGames, IsFoundFile, IsJudged, IsJudgedAs, files_in, games_found, games_in_files}
use Rattle.import_work.specs.Log.{Segment, games_of_segments}
use Rattle.import_work.specs.declared.found.FoundPiece.{FoundPiece}
use Rattle.import_work.proofs.SegmentLemmas.{games_of_segments-push}
use Rattle.std.specs.Prelude.{IfSome}
use Rattle.import_work.specs.Judged as judge
use Rattle.import_work.specs.Outcome.{HaveGames, nodes_of_trees, refused, with_games}
use Rattle.import_work.specs.Reads.{AreTexts, FileText, IsTextOf, text_names}
use Rattle.import_work.specs.declared.batch.FileLine.{FileLine}
use Rattle.import_work.specs.declared.found.Found.TheVariants as found
use Rattle.import_work.specs.declared.found.FoundFile.{FoundFile}
use Rattle.import_work.specs.declared.outcome.Counts.{Counts}
use Rattle.import_work.specs.declared.outcome.FileOutcome.{FileOutcome}
use Rattle.import_work.specs.declared.outcome.FileOutcome.TheVariants as file
use Rattle.import_work.proofs.RoomLemmas.{IsAdded-outcome, read-not_unread, trees_in-append, with_games-append, with_games-none, with_file}
use Rattle.sgf_reader.specs.declared.fault.FaultKind.{FaultKind}

-- a refused file is refused
refused-not_unread : (of : FaultKind) (at : ℕ) → found.Refused of at ≡ found.Unread → ⊥
refused-not_unread of at is = cc

pub refused_judged : (name : List ℕ) (bytes : Option (List ℕ)) (of : FaultKind) (at : ℕ) (before : Counts) (games : List Game) → IsFoundInFile name bytes (found.Refused of at) → IsJudgedAs (record { name = name; bytes = bytes }) before before (file.Refused of at) games games
refused_judged name None of at before games is = absurd (refused-not_unread of at is)
refused_judged name (Some bytes) of at before games is = record {
  trees = [];
  judged = refused is;
  added = sym (append-nil games);
  counted = sym (with_games-none before);
}

-- games that were found are those of a text
pub record IsTextWithGames (name : List ℕ) (bytes : Option (List ℕ)) (own : List Game) (nodes : ℕ) : Type 0 where
  pub content : List ℕ
  pub trees : List Tree
  pub bytes_are : bytes ≡ Some content
  pub have : HaveGames content trees
  pub own_are : own ≡ games_from name 0 trees
  pub nodes_are : nodes ≡ nodes_of_trees trees
  pub few : nodes ≤ 4294967296

games-not_unread : (own : _) (nodes : ℕ) → found.Games own nodes ≡ found.Unread → ⊥
games-not_unread own nodes is = cc

pub games_told : (name : List ℕ) (bytes : Option (List ℕ)) (own : _) (nodes : ℕ) → IsFoundInFile name bytes (found.Games own nodes) → IsTextWithGames name bytes (map arc_value own.items) nodes
games_told name None own nodes is = absurd (games-not_unread own nodes is)
games_told name (Some bytes) own nodes (trees, have, small, own_are, nodes_are, few) = record {
  content = bytes;
  trees = trees;
  bytes_are = refl;
  have = have;
  own_are = own_are;
  nodes_are = nodes_are;
  few = few;
}

-- the last of files that were found
pub record IsLastFound (texts : List FileText) (files : List FoundFile) (file : FoundFile) : Type 0 where
  pub before : List FileText
  pub last : FileText
  pub parts : texts ≡ before ++ last ∷ []
  pub found : AreFoundFiles before files
  pub last_found : IsFoundFile last file

pub found_last : (texts : List FileText) (files : List FoundFile) (file : FoundFile) → AreFoundFiles texts (files ++ file ∷ []) → IsLastFound texts files file
found_last [] [] file h = absurd h
found_last (text ∷ []) [] file h = record { before = []; last = text; parts = refl; found = tt; last_found = h.0 }
found_last (text ∷ other ∷ texts) [] file h = absurd h.1
found_last [] (first ∷ files) file h = absurd h
found_last (text ∷ texts) (first ∷ files) file h =
    let rest = found_last texts files file h.1 in record {
      before = text ∷ rest.before;
      last = rest.last;
      parts = ap (λ ts. text ∷ ts) rest.parts;
      found = (h.0, rest.found);
      last_found = rest.last_found;
    }

-- nothing is judged yet
pub judged-start : (texts : List FileText) (before : Counts) (reports : List FileReport) (games : List Game) → AreFoundFiles texts [] → AreJudgedAs texts before before reports reports games games
judged-start [] before reports games none = record {
  own_reports = [];
  own_games = [];
  judged = judge.nothing;
  reports_are = sym (append-nil reports);
  games_are = sym (append-nil games);
  counted = sym (with_games-none before);
}
judged-start (text ∷ texts) before reports games none = absurd none

-- one file more is judged
pub judged-more : (texts : List FileText) (files : List FoundFile) (file : FoundFile) (base counts after : Counts) (outcome : FileOutcome) (first : List FileReport) (lines more : List FileLine) (line : FileLine) (start games more_games : List Game)
    → ((before : List FileText) → AreFoundFiles before files → AreJudgedAs before base counts first (line_reports lines) start games)
    → ((text : FileText) → IsFoundInFile text.name text.bytes file.found → IsJudgedAs text counts after outcome games more_games)
    → more ≡ lines ++ line ∷ [] → line.name ≡ file.name → line.outcome ≡ outcome
    → AreFoundFiles texts (files ++ file ∷ []) → AreJudgedAs texts base after first (line_reports more) start more_games
judged-more texts files file base counts after outcome first lines more line start games more_games so_far next pushed named became are =
    let h = found_last texts files file are in
    let text = h.last in
    let had = so_far h.before h.found in
    let one = next text h.last_found.1 in
    let report : FileReport = record { name = text.name; outcome = outcome } in
    let own : line_report line ≡ report = λ i. record { name = (named ∙ h.last_found.0) i; outcome = became i } in
    let lines_are : line_reports more ≡ line_reports lines ++ report ∷ [] = ap line_reports pushed ∙ map_push line_report lines line ∙ ap (λ r. line_reports lines ++ r ∷ []) own in
    let trees = one.trees in
    let judged : IsJudged (with_games base (trees_in had.own_games)) text.bytes outcome trees = subst (λ c. IsJudged c text.bytes outcome trees) had.counted one.judged in
    subst (λ ts. AreJudgedAs ts base after first (line_reports more) start more_games) (sym h.parts)
    (record {
      own_reports = had.own_reports ++ report ∷ [];
      own_games = had.own_games ++ games_from text.name 0 trees;
      judged = judge.one_more text outcome trees had.judged judged;
      reports_are = lines_are ∙ ap (λ rs. rs ++ report ∷ []) had.reports_are ∙ append_assoc first had.own_reports (report ∷ []);
      games_are = one.added ∙ ap (λ gs. gs ++ games_from text.name 0 trees) had.games_are ∙ append_assoc start had.own_games (games_from text.name 0 trees);
      counted = one.counted ∙ ap (λ c. with_games c trees) had.counted ∙ with_file base had.own_games text.name trees;
    })

-- where there was room for each file so far and for one more, all games that were found are added
pub whole-more : (files : List FoundFile) (file : FoundFile) (start games more : List Game) → games ≡ start ++ games_in_files files → more ≡ games ++ games_found file.found → more ≡ start ++ games_in_files (files ++ file ∷ [])
whole-more files file start games more had added =
    let own = games_found file.found in
    added
    ∙ ap (λ gs. gs ++ own) had
    ∙ append_assoc start (games_in_files files) own
    ∙ ap (λ gs. start ++ (games_in_files files ++ gs)) (sym (append-nil own))
    ∙ ap (λ gs. start ++ gs) (sym (flat_map-append (λ (f : FoundFile). games_found f.found) files (file ∷ [])))

-- then the segment of all games has those that were added
pub all_given : (made : Option Segment) (found before own : List Game) → IfSome made (λ (segment : Segment). segment ≡ found) → before ≡ [] → own ≡ before ++ found → IfSome made (λ (segment : Segment). segment ≡ own)
all_given None found before own is none grown = tt
all_given (Some segment) found before own is none grown = is ∙ sym (grown ∙ ap (λ gs. gs ++ found) none)

-- files that were found, those of the first pieces and those of the last
record ArePartedFiles (texts : List FileText) (files others : List FoundFile) : Type 0 where
  front : List FileText
  behind : List FileText
  parts : texts ≡ front ++ behind
  found : AreFoundFiles front files
  others_found : AreFoundFiles behind others

files-parted : (texts : List FileText) (files others : List FoundFile) → AreFoundFiles texts (files ++ others) → ArePartedFiles texts files others
files-parted texts [] others h = record { front = []; behind = texts; parts = refl; found = tt; others_found = h }
files-parted [] (first ∷ files) others h = absurd h
files-parted (text ∷ texts) (first ∷ files) others h =
    let rest = files-parted texts files others h.1 in record {
      front = text ∷ rest.front;
      behind = rest.behind;
      parts = ap (λ ts. text ∷ ts) rest.parts;
      found = (h.0, rest.found);
      others_found = rest.others_found;
    }

-- files that are judged behind others
judged-then : (base : Counts) (texts : List FileText) (reports : List FileReport) (games : List Game) → AreJudged base texts reports games → (others : List FileText) (more : List FileReport) (own : List Game) → AreJudged (with_games base (trees_in games)) others more own → AreJudged base (texts ++ others) (reports ++ more) (games ++ own)
judged-then base texts reports games so_far _ _ _ AreJudged.nothing = rw (append-nil texts, append-nil reports, append-nil games) so_far
judged-then base texts reports games so_far _ _ _ (AreJudged.one_more {texts = others} {reports = more} {games = own} text outcome trees h judged) =
    let line : List FileReport = record { name = text.name; outcome = outcome } ∷ [] in
    let added : List Game = games_from text.name 0 trees in
    let counts : with_games (with_games base (trees_in games)) (trees_in own) ≡ with_games base (trees_in (games ++ own)) = with_games-append base (trees_in games) (trees_in own) ∙ ap (with_games base) (sym (trees_in-append games own)) in
    let last = judge.one_more text outcome trees (judged-then base texts reports games so_far others more own h) (subst (λ c. IsJudged c text.bytes outcome trees) counts judged) in
    subst (λ ts. AreJudged base ts (reports ++ (more ++ line)) (games ++ (own ++ added))) (append_assoc texts others (text ∷ []))
    (subst (λ rs. AreJudged base ((texts ++ others) ++ text ∷ []) rs (games ++ (own ++ added))) (append_assoc reports more line)
    (subst (λ gs. AreJudged base ((texts ++ others) ++ text ∷ []) ((reports ++ more) ++ line) gs) (append_assoc games own added) last))

-- the files of one piece more are judged
pub piece-judged : (texts : List FileText) (pieces : List FoundPiece) (piece : FoundPiece) (base counts after : Counts) (first lines more : List FileReport) (segments all : List Segment) (segment : Segment)
    → ((before : List FileText) → AreFoundFiles before (files_in pieces) → AreJudgedAs before base counts first lines [] (games_of_segments segments))
    → ((own : List FileText) → AreFoundFiles own piece.files.items → AreJudgedAs own counts after lines more [] segment)
    → all ≡ segments ++ segment ∷ [] → AreFoundFiles texts (files_in (pieces ++ piece ∷ [])) → AreJudgedAs texts base after first more [] (games_of_segments all)
piece-judged texts pieces piece base counts after first lines more segments all segment so_far next pushed are =
    let files_are : files_in (pieces ++ piece ∷ []) ≡ files_in pieces ++ piece.files.items = flat_map-append (λ (p : FoundPiece). p.files.items) pieces (piece ∷ []) ∙ ap (λ fs. files_in pieces ++ fs) (append-nil piece.files.items) in
    let cut = files-parted texts (files_in pieces) piece.files.items (subst (AreFoundFiles texts) files_are are) in
    let had = so_far cut.front cut.found in
    let one = next cut.behind cut.others_found in
    let judged : AreJudged (with_games base (trees_in had.own_games)) cut.behind one.own_reports one.own_games = subst (λ c. AreJudged c cut.behind one.own_reports one.own_games) had.counted one.judged in
    subst (λ ts. AreJudgedAs ts base after first more [] (games_of_segments all)) (sym cut.parts)
    (record {
      own_reports = had.own_reports ++ one.own_reports;
      own_games = had.own_games ++ one.own_games;
      judged = judged-then base cut.front had.own_reports had.own_games had.judged cut.behind one.own_reports one.own_games judged;
      reports_are = one.reports_are ∙ ap (λ rs. rs ++ one.own_reports) had.reports_are ∙ append_assoc first had.own_reports one.own_reports;
      games_are = ap games_of_segments pushed ∙ games_of_segments-push segments segment ∙ ap (λ gs. gs ++ segment) had.games_are ∙ ap (λ gs. had.own_games ++ gs) one.games_are;
      counted = one.counted ∙ ap (λ (c : Counts). with_games c (trees_in one.own_games)) had.counted
          ∙ with_games-append base (trees_in had.own_games) (trees_in one.own_games)
          ∙ ap (with_games base) (sym (trees_in-append had.own_games one.own_games));
    })

-- games that are added behind none, in a segment
pub judged-alone : (texts : List FileText) (before after : Counts) (reports more : List FileReport) (games own segment : List Game) → AreJudgedAs texts before after reports more games own → games ≡ [] → segment ≡ own → AreJudgedAs texts before after reports more [] segment
judged-alone texts before after reports more games own segment h none is =
    subst (λ (gs : List Game). AreJudgedAs texts before after reports more [] gs) (sym is)
    (subst (λ (gs : List Game). AreJudgedAs texts before after reports more gs own) none h)

-- no file of a piece is judged yet
pub pieces-start : (texts : List FileText) (before : Counts) (reports : List FileReport) (segments : List Segment) → segments ≡ [] → AreFoundFiles texts [] → AreJudgedAs texts before before reports reports [] (games_of_segments segments)
pieces-start texts before reports segments none are = subst (λ ss. AreJudgedAs texts before before reports reports [] (games_of_segments ss)) (sym none) (judged-start texts before reports [] are)

-- what is told of a file that was read, or wasn't, and judged
file_imported : (told : Option (List File)) (path name : List ℕ) (bytes : Option (List ℕ)) (before : Counts) (first now : ℕ) (outcome : FileOutcome) (trees : List Tree) → IsTextOf told path name bytes first now → first ≤ now → IsJudged before bytes outcome trees → IsImportedFile told path name before first now outcome trees
file_imported told path name None before first now outcome trees text later (is, none) = record {
  found = λ all here other. absurd (other is);
  unread = λ lost. text;
  added = rw (is, none) refl;
  later = later;
}
file_imported told path name (Some bytes) before first now outcome trees text later judged = record {
  found = λ all here other. (bytes, text all here, judged);
  unread = λ lost. absurd (read-not_unread bytes before outcome trees judged lost);
  added = IsAdded-outcome bytes before outcome trees judged;
  later = later;
}

-- files that were read one after another, and judged one after another, are imported in turn
module _ (told : Option (List File)) (path : List ℕ) (base : Counts) (first : ℕ) where
  both : (texts others : List FileText) (now : ℕ) (reports : List FileReport) (games : List Game) → texts ≡ others → AreTexts told path first texts now → AreJudged base others reports games → AreImportedInTurn told path base first reports games now
  both _ _ _ _ _ same AreTexts.nothing AreJudged.nothing = AreImportedInTurn.nothing
  both _ _ _ _ _ same AreTexts.nothing (AreJudged.one_more {texts = others} other outcome trees k judged) = absurd (push_not_nil others other same)
  both _ _ _ _ _ same (AreTexts.one_more {texts = texts} now text h is later) AreJudged.nothing = absurd (push_not_nil texts text (sym same))
  both _ _ _ _ _ same (AreTexts.one_more {texts = texts} {faults = faults} now text h is later) (AreJudged.one_more {texts = others} {reports = reports} {games = games} other outcome trees k judged) =
      let pair = push_same texts others text other same in
      AreImportedInTurn.one_more other.name now outcome trees (both texts others faults reports games pair.0 h k)
      (file_imported told path other.name other.bytes (with_games base (trees_in games)) faults now outcome trees (subst (λ (t : FileText). IsTextOf told path t.name t.bytes faults now) pair.1 is) later judged)

-- the lines tell the files' names
judged_names : (base : Counts) (texts : List FileText) (reports : List FileReport) (games : List Game) → AreJudged base texts reports games → names_in reports ≡ text_names texts
judged_names base _ _ _ AreJudged.nothing = refl
judged_names base _ _ _ (AreJudged.one_more {texts = texts} {reports = reports} {games = games} text outcome trees h judged) =
    map_push (λ (r : FileReport). r.name) reports (record { name = text.name; outcome = outcome })
    ∙ ap (λ ns. ns ++ text.name ∷ []) (judged_names base texts reports games h)
    ∙ sym (map_push (λ (t : FileText). t.name) texts text)

pub more_files : (told : Option (List File)) (path : List ℕ) (names : List (List ℕ)) (before after : Counts) (first now : ℕ) (texts : List FileText) (reports more_reports : List FileReport) (games more_games : List Game) → text_names texts ≡ names → AreTexts told path first texts now → AreJudgedAs texts before after reports more_reports games more_games → AreMoreFiles told path names before after first now reports more_reports games more_games
more_files told path names before after first now texts reports more_reports games more_games named read h = record {
  own_reports = h.own_reports;
  own_games = h.own_games;
  in_turn = both told path before first texts texts now h.own_reports h.own_games refl read h.judged;
  named = judged_names before texts h.own_reports h.own_games h.judged ∙ named;
  reports_are = h.reports_are;
  games_are = h.games_are;
  counted = h.counted;
}
