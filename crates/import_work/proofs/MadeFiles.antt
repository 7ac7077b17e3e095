-- Made games, one after another, as files of their own.
use Prim.Native.Nat.{zero}
use Rattle.std.proofs.Common.{◌≡◌, inl, inr, cond, ℕ, suc, ◌+◌, List, [], ◌∷◌, ◌++◌, length, length-append, append-nil, append_assoc, refl, sym, ap, ◌∙◌, subst, arith}
use Rattle.std.proofs.lemmas.Grind.{flat_map-append}
use Rattle.std.proofs.lemmas.List.{map-append}
use Rattle.std.proofs.lemmas.List.Sums.{sum_by-append}
use Rattle.game_tree.specs.Tree.{Tree}
use Rattle.made_games.specs.Made.{made_tree}
use Rattle.import_work.specs.Batches.{full_told, is_full}
use Rattle.import_work.specs.Course.{AreMade, FileReport, ImportFile, games_of_files, made_file, reports_of, trees_in}
use Rattle.import_work.specs.Outcome.{IsAddedBy, games_after, nodes_after, with_games}
use Rattle.import_work.specs.declared.outcome.Counts.{Counts}
use Rattle.import_work.specs.declared.outcome.FileOutcome.{FileOutcome}
use Rattle.import_work.specs.declared.outcome.FileOutcome.TheVariants as file
use Rattle.import_work.proofs.OutcomesExist.{room-or-none}
use Rattle.import_work.proofs.ReadFiles.{counts_after}

-- the games of more files, and for how many there was no room
pub games-append : (files more : List ImportFile) → games_of_files (files ++ more) ≡ games_of_files files ++ games_of_files more
games-append files more = flat_map-append (λ (f : ImportFile). f.games) files more

games-more : (files : List ImportFile) (f : ImportFile) → length (games_of_files (files ++ f ∷ [])) ≡ length (games_of_files files) + length f.games
games-more files f =
    ap length (games-append files (f ∷ []) ∙ ap (λ gs. games_of_files files ++ gs) (append-nil f.games)) ∙ length-append (games_of_files files) f.games

pub full-append : (files more : List ImportFile) → full_told (reports_of (files ++ more)) ≡ full_told (reports_of files) + full_told (reports_of more)
full-append files more =
    ap full_told (map-append (λ (f : ImportFile). f.report) files more)
    ∙ sum_by-append (λ (r : FileReport). cond (is_full r.outcome) 1 0) (reports_of files) (reports_of more)

-- one game more
made-more : (start first : ℕ) (before : Counts) (files : List ImportFile) (number : ℕ) (outcome : FileOutcome) (trees : List Tree) → number ≡ first + length files → AreMade start first before files →
    IsAddedBy (with_games before (trees_in (games_of_files files))) (made_tree start number ∷ []) outcome trees → AreMade start first before (files ++ made_file number outcome trees ∷ [])
made-more start first before files number outcome trees is made added =
    subst (λ n. AreMade start first before (files ++ made_file n outcome trees ∷ [])) (sym is)
    (AreMade.one_more outcome trees made (subst (λ n. IsAddedBy (with_games before (trees_in (games_of_files files))) (made_tree start n ∷ []) outcome trees) is added))

-- games are made, and then more games in the base with them
pub made-then : (start first : ℕ) (base after : Counts) (files : List ImportFile) (next : ℕ) → AreMade start first base files → after ≡ with_games base (trees_in (games_of_files files)) → next ≡ first + length files →
    (more : List ImportFile) → AreMade start next after more → AreMade start first base (files ++ more)
made-then start first base after files next made is at _ AreMade.nothing = rw append-nil made
made-then start first base after files next made is at _ (AreMade.one_more {files = before} outcome trees h added) =
    let own = next + length before in
    let number : own ≡ first + length (files ++ before) = omega (arith, at, length-append files before) in
    subst (AreMade start first base) (append_assoc files before (made_file own outcome trees ∷ []))
    (made-more start first base (files ++ before) own outcome trees number (made-then start first base after files next made is at before h)
    (subst (λ (c : Counts). IsAddedBy c (made_tree start own ∷ []) outcome trees) (counts_after base after files before is) added))

-- what becomes of games in a base
pub added-found : (before : Counts) (games : List Tree) → (outcome : FileOutcome) × (trees : List Tree) × IsAddedBy before games outcome trees
added-found before games = elim (room-or-none before games) [
  | inl room ↦ (file.Accepted (length games), games, IsAddedBy.accepted room)
  | inr none ↦ (file.Full (games_after before games) (nodes_after before games), [], IsAddedBy.full none)
]

-- behind these games so many more are made
pub record MoreMade (start first : ℕ) (before : Counts) (files : List ImportFile) (count : ℕ) : Type 0 where
  pub more : List ImportFile
  pub made : AreMade start first before (files ++ more)
  pub many : length more ≡ count

pub made-found : (start first : ℕ) (before : Counts) (files : List ImportFile) → AreMade start first before files → (count : ℕ) → MoreMade start first before files count
made-found start first before files made zero = record { more = []; made = rw append-nil made; many = refl }
made-found start first before files made (suc count) =
    let h = made-found start first before files made count in
    let all = files ++ h.more in
    let number = first + length all in
    let found = added-found (with_games before (trees_in (games_of_files all))) (made_tree start number ∷ []) in
    let f = made_file number found.0 found.1 in record {
      more = h.more ++ f ∷ [];
      made = subst (AreMade start first before) (append_assoc files h.more (f ∷ [])) (AreMade.one_more found.0 found.1 h.made found.2);
      many = length-append h.more (f ∷ []) ∙ omega (arith, h.many);
    }

-- ---- one alone

-- a game of one number becomes one thing in one base
made_file-one : (number : ℕ) (before : Counts) (games : List Tree) (a b : FileOutcome) (xs ys : List Tree) → IsAddedBy before games a xs → IsAddedBy before games b ys → made_file number a xs ≡ made_file number b ys
made_file-one number before games _ _ _ _ (IsAddedBy.full none) (IsAddedBy.full also) = refl
made_file-one number before games _ _ _ _ (IsAddedBy.full none) (IsAddedBy.accepted room) = absurd (none room)
made_file-one number before games _ _ _ _ (IsAddedBy.accepted room) (IsAddedBy.full none) = absurd (none room)
made_file-one number before games _ _ _ _ (IsAddedBy.accepted room) (IsAddedBy.accepted also) = refl

pub made-one : (start first : ℕ) (before : Counts) (files more : List ImportFile) → AreMade start first before files → AreMade start first before more → length files ≡ length more → files ≡ more
made-one start first before _ _ AreMade.nothing AreMade.nothing same = refl
made-one start first before _ _ AreMade.nothing (AreMade.one_more {files} outcome trees h is) same =
    absurd (omega (arith, same, length-append files (made_file (first + length files) outcome trees ∷ [])))
made-one start first before _ _ (AreMade.one_more {files} outcome trees h is) AreMade.nothing same =
    absurd (omega (arith, same, length-append files (made_file (first + length files) outcome trees ∷ [])))
made-one start first before _ _ (AreMade.one_more {files} outcome trees h is) (AreMade.one_more {files = more} other found k also) same =
    let f = made_file (first + length files) outcome trees in
    let g = made_file (first + length more) other found in
    let fewer : length files ≡ length more = omega (arith, same, length-append files (f ∷ []), length-append more (g ∷ [])) in
    let before_them = made-one start first before files more h k fewer in
    let here : IsAddedBy (with_games before (trees_in (games_of_files more))) (made_tree start (first + length more) ∷ []) outcome trees =
    subst (λ fs. IsAddedBy (with_games before (trees_in (games_of_files fs))) (made_tree start (first + length fs) ∷ []) outcome trees) before_them is in
    let one = made_file-one (first + length more) (with_games before (trees_in (games_of_files more))) (made_tree start (first + length more) ∷ []) outcome other trees found here also in
    ap (λ fs. fs ++ made_file (first + length fs) outcome trees ∷ []) before_them ∙ ap (λ i. more ++ i ∷ []) one

-- ---- what they add

-- each game is added, or there is no room for it
pub made-counted : (start first : ℕ) (before : Counts) (files : List ImportFile) → AreMade start first before files → length (games_of_files files) + full_told (reports_of files) ≡ length files
made-counted start first before _ AreMade.nothing = refl
made-counted start first before _ (AreMade.one_more {files} outcome trees h is) =
    let f = made_file (first + length files) outcome trees in
    let games : length (games_of_files (files ++ f ∷ [])) ≡ length (games_of_files files) + length f.games = games-more files f in
    let full : full_told (reports_of (files ++ f ∷ [])) ≡ full_told (reports_of files) + full_told (f.report ∷ []) = full-append files (f ∷ []) in
    let own : length f.games + full_told (f.report ∷ []) ≡ 1 = one_of_two (first + length files) (with_games before (trees_in (games_of_files files))) (made_tree start (first + length files)) outcome trees is in
    omega (arith, games, full, own, made-counted start first before files h, length-append files (f ∷ []))
  where
    one_of_two : (number : ℕ) (before : Counts) (tree : Tree) (outcome : FileOutcome) (trees : List Tree) → IsAddedBy before (tree ∷ []) outcome trees →
        length (made_file number outcome trees).games + full_told ((made_file number outcome trees).report ∷ []) ≡ 1
    one_of_two number before tree _ _ (IsAddedBy.full none) = refl
    one_of_two number before tree _ _ (IsAddedBy.accepted room) = refl
