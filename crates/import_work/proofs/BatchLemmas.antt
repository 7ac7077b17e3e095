-- Files of a batch, where the folder tells its files.
use Rattle.std.proofs.Common.{◌≡◌, ◌≢◌, inl, inr, ℕ, ◌+◌, ◌<◌, List, [], ◌∷◌, ◌++◌, Option, Some, length, map, get_or, take, append-nil, refl, sym, ◌∙◌, ap, subst, arith}
use Rattle.std.specs.Prelude.{String, string_bytes}
use Rattle.std.specs.declared.alloc.Global.{Global}
use Rattle.std.proofs.lemmas.Grind.{flat_map-append}
use Rattle.std.proofs.lemmas.List.{map_more, map_push}
use Rattle.kb_edges.specs.Files.{File}
use Rattle.game_tree.specs.Tree.{Tree}
use Rattle.node_position.specs.Games.{Game}
use Rattle.import_work.specs.Batches.{AreImportedInTurn, IsBatchOf, IsImportedFile, names_in, none, nothing, one_more}
use Rattle.import_work.specs.Course.{AreRead, FileReport, ImportFile, games_from, games_of_files, import_file, names_of, reports_of, trees_in}
use Rattle.import_work.specs.Outcome.{IsOutcome, with_games}
use Rattle.import_work.specs.declared.outcome.Counts.{Counts}
use Rattle.import_work.specs.declared.outcome.FileOutcome.{FileOutcome}
use Rattle.import_work.specs.declared.outcome.FileOutcome.TheVariants as file
use Rattle.import_work.proofs.LostFiles.{paid-later, paid-more}
use Rattle.import_work.proofs.RoomLemmas.{cases_unread, unread_adds_none}

-- nothing is read yet
IsBatchOf-start : (all : List File) (path : List ℕ) (base : Counts) (first : ℕ) → IsBatchOf all path base [] first first [] []
IsBatchOf-start all path base first = record {
  files = [];
  unread = [];
  read = AreRead.nothing;
  named = refl;
  reports_are = refl;
  games_are = refl;
  in_turn = nothing;
  paid = (0, none, omega arith);
}

module _ (all : List File) (path : List ℕ) (base : Counts) (done : List (List ℕ)) (first before now : ℕ) (reports : List FileReport) (games : List Game) (name : List ℕ) (outcome : FileOutcome) (trees : List Tree) (so_far : IsBatchOf all path base done first before reports games) (is : IsImportedFile (Some all) path name (with_games base (trees_in games)) before now outcome trees) where
  abbrev line : FileReport
  line = record { name = name; outcome = outcome }

  -- what is told of files and of one more
  reports_with : (f : ImportFile) → f.report ≡ line → reports_of (so_far.files ++ f ∷ []) ≡ reports ++ line ∷ []
  reports_with f told = map_push (λ (g : ImportFile). g.report) so_far.files f ∙ ap (λ rs. rs ++ f.report ∷ []) so_far.reports_are ∙ ap (λ r. reports ++ r ∷ []) told

  games_with : (f : ImportFile) → games_of_files (so_far.files ++ f ∷ []) ≡ games ++ f.games
  games_with f = flat_map-append (λ (g : ImportFile). g.games) so_far.files (f ∷ []) ∙ ap (λ gs. games_of_files so_far.files ++ gs) (append-nil f.games) ∙ ap (λ gs. gs ++ f.games) so_far.games_are

  names_with : (f : ImportFile) → f.report.name ≡ name → names_of (so_far.files ++ f ∷ []) ≡ done ++ name ∷ []
  names_with f named = map_push (λ (g : ImportFile). g.report.name) so_far.files f ∙ ap (λ ns. ns ++ f.report.name ∷ []) so_far.named ∙ ap (λ n. done ++ n ∷ []) named

  -- a file is read
  batch_read : outcome ≢ file.Unread → IsBatchOf all path base (done ++ name ∷ []) first now (reports ++ line ∷ []) (games ++ games_from name 0 trees)
  batch_read given =
      let f = import_file name outcome trees in
      let h = is.found all refl given in
      let here : with_games base (trees_in games) ≡ with_games base (trees_in (games_of_files so_far.files)) = ap (λ gs. with_games base (trees_in gs)) (sym so_far.games_are) in
      record {
        files = so_far.files ++ f ∷ [];
        unread = so_far.unread;
        read = AreRead.read name h.0 outcome trees so_far.read h.1 (subst (λ c. IsOutcome h.0 c outcome trees) here h.2);
        named = names_with f refl;
        reports_are = reports_with f refl;
        games_are = games_with f;
        in_turn = one_more name now outcome trees so_far.in_turn is;
        paid = paid-later (Some all) path so_far.unread first before now is.later so_far.paid;
      }

  -- a file is not read
  abbrev gone : ImportFile
  gone = import_file name file.Unread []

  batch_unread : outcome ≡ file.Unread → IsBatchOf all path base (done ++ name ∷ []) first now (reports ++ line ∷ []) (games ++ games_from name 0 trees)
  batch_unread lost = record {
    files = so_far.files ++ gone ∷ [];
    unread = so_far.unread ++ name ∷ [];
    read = AreRead.not_read name so_far.read;
    named = names_with gone refl;
    reports_are = reports_with gone (ap (λ (o : FileOutcome). record { name = name; outcome = o }) (sym lost));
    games_are = games_with gone ∙ ap (λ ts. games ++ games_from name 0 ts) (sym (unread_adds_none (with_games base (trees_in games)) outcome trees lost is.added));
    in_turn = one_more name now outcome trees so_far.in_turn is;
    paid = paid-more (Some all) path so_far.unread name first before now (is.unread lost) is.later so_far.paid;
  }

  IsBatchOf-more : IsBatchOf all path base (done ++ name ∷ []) first now (reports ++ line ∷ []) (games ++ games_from name 0 trees)
  IsBatchOf-more = elim (cases_unread outcome) [ inl lost ↦ batch_unread lost | inr given ↦ batch_read given ]

-- files that are imported in turn are a batch
pub batch_in_turn : (all : List File) (path : List ℕ) (base : Counts) (first : ℕ) (reports : List FileReport) (games : List Game) (now : ℕ) → AreImportedInTurn (Some all) path base first reports games now → IsBatchOf all path base (names_in reports) first now reports games
batch_in_turn all path base first _ _ _ nothing = IsBatchOf-start all path base first
batch_in_turn all path base first _ _ _ (one_more {reports = reports} {games = games} {faults = before} name now outcome trees so_far is) =
    subst (λ ns. IsBatchOf all path base ns first now (reports ++ record { name = name; outcome = outcome } ∷ []) (games ++ games_from name 0 trees))
    (sym (map_push (λ (r : FileReport). r.name) reports (record { name = name; outcome = outcome })))
    (IsBatchOf-more all path base (names_in reports) first before now reports games name outcome trees (batch_in_turn all path base first reports games before so_far) is)

-- where the folder tells these files
pub batch_told : (told : Option (List File)) (all : List File) (path : List ℕ) (base : Counts) (names : List (List ℕ)) (first : ℕ) (reports : List FileReport) (games : List Game) (now : ℕ) → told ≡ Some all → names_in reports ≡ names → AreImportedInTurn told path base first reports games now → IsBatchOf all path base names first now reports games
batch_told told all path base names first reports games now here named h =
    subst (λ ns. IsBatchOf all path base ns first now reports games) named
    (batch_in_turn all path base first reports games now (subst (λ t. AreImportedInTurn t path base first reports games now) here h))

-- one name more
pub names_more : (names : List (String Global)) (i : ℕ) (name : String Global) → i < length names → name ≡ get_or names i name → map string_bytes (take (i + 1) names) ≡ map string_bytes (take i names) ++ string_bytes name ∷ []
names_more names i name below is = map_more string_bytes names i name below ∙ ap (λ n. map string_bytes (take i names) ++ string_bytes n ∷ []) (sym is)
