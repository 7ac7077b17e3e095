-- The words of a search, option by option.
use Rattle.std.proofs.Common.{◌≡◌, ◌<◌, ◌≤◌, ◌+◌, ◌++◌, ℕ, Bool, true, false, List, [], ◌∷◌, Option, Some, None, codes, refl, sym, subst, arith}
use Rattle.kb_geometry.specs.declared.shape.Rect.{Rect}
use Rattle.kb_geometry.specs.declared.shape.Shape.{Shape}
use Rattle.pattern_images.specs.declared.query.Query.{Query}
use Rattle.query_script.specs.declared.search_words.Moves.{Moves}
use Rattle.query_script.specs.declared.word.Word.{Word}
use Rattle.query_script.specs.Reading.{AreFromAt, AreFromBoard, AreFromFixed, AreFromMain, AreFromMoves, AreFromSame, AreMovesOf, AreParted, BeginsFrom, BeginsOtherwise, place_of_option}
use Rattle.query_script.specs.Search.{AreMoves, IsAt, IsBoardOption, IsBody, IsFlag, IsPattern}
use Rattle.query_script.specs.Search.AreMoves.{given, not_given as no_moves}
use Rattle.query_script.specs.Search.IsAt.{not_given as no_place, one_point, rectangle}
use Rattle.query_script.specs.Words.{bare}
use Rattle.query_script.proofs.PatternWords.{pattern-begins}

-- ---- which option the words begin with

pub begins-otherwise : (k : ℕ) (name : List ℕ) (words : List Word) → BeginsFrom k words → place_of_option name < k → BeginsOtherwise name words
begins-otherwise k name words from before more is =
    let at : BeginsFrom k (bare name ∷ more) = subst (BeginsFrom k) is from in
    omega (arith, at, before)

pub begins-earlier : (j k : ℕ) (words : List Word) → j ≤ k → BeginsFrom k words → BeginsFrom j words
begins-earlier j k [] le from = tt
begins-earlier j k (w ∷ words) le from = omega (arith, from)

begins-append : (k : ℕ) (own rest : List Word) → BeginsFrom k own → BeginsFrom k rest → BeginsFrom k (own ++ rest)
begins-append k [] rest one other = other
begins-append k (w ∷ own) rest one other = one

pub flag-begins : (name : List ℕ) (value : Bool) (own : List Word) → IsFlag name value own → BeginsFrom (place_of_option name) own
flag-begins name true own says = subst (BeginsFrom (place_of_option name)) (sym says) (omega arith)
flag-begins name false own says = subst (BeginsFrom (place_of_option name)) (sym says) tt

pub board-begins : (board : Option Shape) (own : List Word) → IsBoardOption board own → BeginsFrom 3 own
board-begins None own says = subst (BeginsFrom 3) (sym says) tt
board-begins (Some shape) own (c, r, is, cols, rows) = subst (BeginsFrom 3) (sym is) (omega arith)

moves-begins : (from to : ℕ) (own : List Word) → AreMoves from to own → BeginsFrom 4 own
moves-begins from to _ (no_moves least most) = tt
moves-begins from to _ (given a b least most ordered bound) = omega arith

at-begins : (at : Option Rect) (own : List Word) → IsAt at own → BeginsFrom 5 own
at-begins _ _ no_place = tt
at-begins _ _ (one_point a b x y) = omega arith
at-begins _ _ (rectangle a b c d x0 y0 x1 y1 wide high) = omega arith

pub parted-begins : {A : Type 0} (Says : A → List Word → Type 0) (k : ℕ) (words : List Word) (value : A) (rest : List Word) → ((own : List Word) → Says value own → BeginsFrom k own) → AreParted Says words value rest → BeginsFrom (1 + k) rest → BeginsFrom k words
parted-begins Says k words value rest begins parted behind =
    subst (BeginsFrom k) (sym parted.split) (begins-append k parted.own rest (begins parted.own parted.says) (begins-earlier k (1 + k) rest (omega arith) behind))

pub from_at-begins : (words : List Word) (query : Query) → AreFromAt words query → BeginsFrom 5 words
from_at-begins words query (rest, parted, pattern) = parted-begins IsAt 5 words query.at rest (at-begins query.at) parted (pattern-begins query.pattern rest pattern)

pub from_moves-begins : (words : List Word) (query : Query) → AreFromMoves words query → BeginsFrom 4 words
from_moves-begins words query (rest, parted, at) = parted-begins AreMovesOf 4 words (record { from = query.from_move; to = query.to_move }) rest (moves-begins query.from_move query.to_move) parted (from_at-begins rest query at)

pub from_board-begins : (words : List Word) (query : Query) → AreFromBoard words query → BeginsFrom 3 words
from_board-begins words query (rest, parted, moves) = parted-begins IsBoardOption 3 words query.board rest (board-begins query.board) parted (from_moves-begins rest query moves)

pub from_main-begins : (words : List Word) (query : Query) → AreFromMain words query → BeginsFrom 2 words
from_main-begins words query (rest, parted, board) = parted-begins (IsFlag (codes "main")) 2 words query.main rest (flag-begins (codes "main") query.main) parted (from_board-begins rest query board)

pub from_fixed-begins : (words : List Word) (query : Query) → AreFromFixed words query → BeginsFrom 1 words
from_fixed-begins words query (rest, parted, main) = parted-begins (IsFlag (codes "fixed")) 1 words query.fixed rest (flag-begins (codes "fixed") query.fixed) parted (from_main-begins rest query main)

-- ---- a search by its options

pub from_same : (words : List Word) (query : Query) → IsBody words query → AreFromSame words query
from_same words query body =
    let at : AreFromAt (body.at ++ body.pattern) query = (body.pattern, record { own = body.at; split = refl; says = body.at_is }, body.pattern_is) in
    let moves : AreFromMoves (body.moves ++ (body.at ++ body.pattern)) query = (body.at ++ body.pattern, record { own = body.moves; split = refl; says = body.moves_are }, at) in
    let board : AreFromBoard (body.board ++ (body.moves ++ (body.at ++ body.pattern))) query = (body.moves ++ (body.at ++ body.pattern), record { own = body.board; split = refl; says = body.board_is }, moves) in
    let main : AreFromMain (body.main ++ (body.board ++ (body.moves ++ (body.at ++ body.pattern)))) query = (body.board ++ (body.moves ++ (body.at ++ body.pattern)), record { own = body.main; split = refl; says = body.main_is }, board) in
    let fixed : AreFromFixed (body.fixed ++ (body.main ++ (body.board ++ (body.moves ++ (body.at ++ body.pattern))))) query = (body.main ++ (body.board ++ (body.moves ++ (body.at ++ body.pattern))), record { own = body.fixed; split = refl; says = body.fixed_is }, main) in
    (body.fixed ++ (body.main ++ (body.board ++ (body.moves ++ (body.at ++ body.pattern)))), record { own = body.same; split = body.in_order; says = body.same_is }, fixed)

-- ---- what stands behind each option, whatever the query

-- the words are one value of an option and others, in this way only
abbrev pub IsOnly : {A : Type 0} → (A → List Word → Type 0) → List ℕ → List Word → A → List Word → Type 0
IsOnly {A} Says name words value rest = (other : A) (others : List Word) → AreParted Says words other others → BeginsOtherwise name others → (other ≡ value) × (others ≡ rest)

pub from_fixed : (words one : List Word) (value : Bool) (query : Query) → IsOnly (IsFlag (codes "same")) (codes "same") words value one → IsBody words query → AreFromFixed one query
from_fixed words one value query only body =
    let (others, parted, fixed) = from_same words query body in
    let found = only query.same others parted (begins-otherwise 1 (codes "same") others (from_fixed-begins others query fixed) (omega arith)) in
    subst (λ l. AreFromFixed l query) found.1 fixed

pub from_main : (words rest : List Word) (value : Bool) (query : Query) → IsOnly (IsFlag (codes "fixed")) (codes "fixed") words value rest → AreFromFixed words query → AreFromMain rest query
from_main words rest value query only (others, parted, main) =
    let found = only query.fixed others parted (begins-otherwise 2 (codes "fixed") others (from_main-begins others query main) (omega arith)) in
    subst (λ l. AreFromMain l query) found.1 main

pub from_board : (words rest : List Word) (value : Bool) (query : Query) → IsOnly (IsFlag (codes "main")) (codes "main") words value rest → AreFromMain words query → AreFromBoard rest query
from_board words rest value query only (others, parted, board) =
    let found = only query.main others parted (begins-otherwise 3 (codes "main") others (from_board-begins others query board) (omega arith)) in
    subst (λ l. AreFromBoard l query) found.1 board

pub from_moves : (words rest : List Word) (value : Option Shape) (query : Query) → IsOnly IsBoardOption (codes "board") words value rest → AreFromBoard words query → AreFromMoves rest query
from_moves words rest value query only (others, parted, moves) =
    let found = only query.board others parted (begins-otherwise 4 (codes "board") others (from_moves-begins others query moves) (omega arith)) in
    subst (λ l. AreFromMoves l query) found.1 moves

pub from_at : (words rest : List Word) (value : Moves) (query : Query) → IsOnly AreMovesOf (codes "moves") words value rest → AreFromMoves words query → AreFromAt rest query
from_at words rest value query only (others, parted, at) =
    let found = only (record { from = query.from_move; to = query.to_move }) others parted (begins-otherwise 5 (codes "moves") others (from_at-begins others query at) (omega arith)) in
    subst (λ l. AreFromAt l query) found.1 at

pub from_pattern : (words rest : List Word) (value : Option Rect) (query : Query) →
    ((at : Option Rect) (others : List Word) → AreParted IsAt words at others → BeginsOtherwise (codes "at") others → BeginsOtherwise (codes "to") others → (at ≡ value) × (others ≡ rest)) → AreFromAt words query → IsPattern query.pattern rest
from_pattern words rest value query only (others, parted, pattern) =
    let begins = pattern-begins query.pattern others pattern in
    let found = only query.at others parted (begins-otherwise 6 (codes "at") others begins (omega arith)) (begins-otherwise 6 (codes "to") others begins (omega arith)) in
    subst (IsPattern query.pattern) found.1 pattern

-- ---- words that are no option where one is needed

pub no_board : (words : List Word) (query : Query) → ((board : Option Shape) (others : List Word) → AreParted IsBoardOption words board others → ¬ BeginsOtherwise (codes "board") others) → ¬ AreFromBoard words query
no_board words query without (others, parted, moves) =
    without query.board others parted (begins-otherwise 4 (codes "board") others (from_moves-begins others query moves) (omega arith))

pub no_moves_there : (words : List Word) (query : Query) → ((moves : Moves) (others : List Word) → AreParted AreMovesOf words moves others → ¬ BeginsOtherwise (codes "moves") others) → ¬ AreFromMoves words query
no_moves_there words query without (others, parted, at) =
    without (record { from = query.from_move; to = query.to_move }) others parted (begins-otherwise 5 (codes "moves") others (from_at-begins others query at) (omega arith))

pub no_place_there : (words : List Word) (query : Query) → ((at : Option Rect) (others : List Word) → AreParted IsAt words at others → BeginsOtherwise (codes "at") others → ¬ BeginsOtherwise (codes "to") others) → ¬ AreFromAt words query
no_place_there words query without (others, parted, pattern) =
    let begins = pattern-begins query.pattern others pattern in
    without query.at others parted (begins-otherwise 6 (codes "at") others begins (omega arith)) (begins-otherwise 6 (codes "to") others begins (omega arith))
