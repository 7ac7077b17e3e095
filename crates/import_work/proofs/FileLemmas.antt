-- Files that are read, and their games.
use Rattle.std.proofs.Common.{◌≡◌, ℕ, suc, Bool, true, false, cond, ◌||◌, List, [], ◌∷◌, ◌++◌, Option, Some, None, refl, sym, ◌∙◌, ap, arith, take, length, append_assoc, ◌+◌, ◌≤◌}
use Rattle.std.specs.Prelude.{IsSome, find}
use Rattle.std.specs.List.{list_any}
use Rattle.std.specs.Option.{option_map}
use Rattle.std.proofs.lemmas.Bool.{false≢true}
use Rattle.kb_edges.specs.Files.{File, HasFile, content_of}
use Rattle.kb_edges.specs.Told.{IfTold}
use Rattle.kb_edges.specs.Faults.{RoseBy}
use Rattle.game_tree.specs.Tree.{Tree}
use Rattle.node_position.specs.Games.{Game}
use Rattle.import_work.specs.Course.{IsContent, games_from}
use Rattle.kb_edges.proofs.Places.{HasFile-any, has_place}

-- what passes a test is found
find-some : {X Y : Type 0} (f : X → Y) (test : X → Bool) (xs : List X) → list_any test xs ≡ true → option_map f (find test xs) ≡ None → ⊥
find-some f test [] any none = false≢true any
find-some f test (x ∷ xs) any none =
    (elim (test x) as (λ b. (b || list_any test xs) ≡ true → option_map f (cond b (Some x) (find test xs)) ≡ None → ⊥)
    [ true ↦ λ any none. cc | false ↦ λ any none. find-some f test xs any none ]) any none

-- a file that is there has a content
pub content_of-there : (files : List File) (path name : List ℕ) → HasFile files path name → content_of files path name ≡ None → ⊥
content_of-there files path name there none = find-some (λ (file : File). file.bytes) (has_place path name) files (HasFile-any files path name there) none

-- what was read of a content that is there
read_of : (content : Option (List ℕ)) (given : List ℕ) → IsSome content → IfTold content (λ bytes. given ≡ take 16777217 bytes) → (whole : List ℕ) × (content ≡ Some whole) × (given ≡ take 16777217 whole)
read_of None given there is = absurd (false≢true there)
read_of (Some whole) given there is = (whole, refl, is whole refl)

-- the bytes that were read are those that count
pub IsContent-read : (files : List File) (path name given bytes : List ℕ) → bytes ≡ given → IsSome (content_of files path name) → IfTold (content_of files path name) (λ whole. given ≡ take 16777217 whole) → IsContent files path name bytes
IsContent-read files path name given bytes same there is =
    let h = read_of (content_of files path name) given there is in
    (h.0, h.1, same ∙ h.2)

-- a count that has not fallen rose by nothing
pub rose_by_none : (before now : ℕ) → before ≤ now → RoseBy 0 before now
rose_by_none before now later = omega arith

-- a count that rose twice
pub RoseBy-then : (m n before between now : ℕ) → RoseBy m before between → RoseBy n between now → RoseBy (m + n) before now
RoseBy-then m n before between now first second = omega arith

-- the games of a file, and of one tree more
pub games_from-push : (name : List ℕ) (place : ℕ) (trees : List Tree) (tree : Tree) → games_from name place (trees ++ tree ∷ []) ≡ games_from name place trees ++ record { file = name; place = place + length trees; tree = tree } ∷ []
games_from-push name place [] tree = ap (λ n. record { file = name; place = n; tree = tree } ∷ []) (omega arith)
games_from-push name place (first ∷ trees) tree =
    let placed : place + 1 + length trees ≡ place + length (first ∷ trees) = omega arith in
    ap (λ gs. record { file = name; place = place; tree = first } ∷ gs)
    (games_from-push name (place + 1) trees tree ∙ ap (λ n. games_from name (place + 1) trees ++ record { file = name; place = n; tree = tree } ∷ []) placed)

-- there are as many games as trees
pub length-games_from : (name : List ℕ) (place : ℕ) (trees : List Tree) → length (games_from name place trees) ≡ length trees
length-games_from name place [] = refl
length-games_from name place (tree ∷ trees) = ap suc (length-games_from name (place + 1) trees)

-- a game by its file's name and its place there
pub game_named : {name file : List ℕ} {place number : ℕ} (tree : Tree) → file ≡ name → number ≡ place → ◌≡◌ {A = Game} (record { file = file; place = number; tree = tree }) (record { file = name; place = place; tree = tree })
game_named tree named placed = λ i. record { file = named i; place = placed i; tree = tree }

-- what is told, where something is
pub told_there : {A : Type 0} (told : Option A) → IsSome told → (value : A) × (told ≡ Some value)
told_there None there = absurd (cc there)
told_there (Some value) there = (value, refl)

-- one game more is added
pub added_more : (name : List ℕ) (trees : List Tree) (before so_far more : List Game) (game : Game) (tree : Tree) → so_far ≡ before ++ games_from name 0 trees → more ≡ so_far ++ game ∷ [] → game ≡ record { file = name; place = length trees; tree = tree } → more ≡ before ++ games_from name 0 (trees ++ tree ∷ [])
added_more name trees before so_far more game tree had pushed is =
    let last : List Game = record { file = name; place = length trees; tree = tree } ∷ [] in
    let from_none : 0 + length trees ≡ length trees = omega arith in
    let pieces : games_from name 0 (trees ++ tree ∷ []) ≡ games_from name 0 trees ++ last = games_from-push name 0 trees tree ∙ ap (λ n. games_from name 0 trees ++ record { file = name; place = n; tree = tree } ∷ []) from_none in
    pushed ∙ ap (λ gs. gs ++ game ∷ []) had
    ∙ ap (λ g. (before ++ games_from name 0 trees) ++ g ∷ []) is
    ∙ append_assoc before (games_from name 0 trees) last
    ∙ ap (λ gs. before ++ gs) (sym pieces)
