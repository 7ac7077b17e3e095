-- The words of a count of kept games, option by option; and that they spell one at most.
use Rattle.std.proofs.Common.{◌≡◌, ◌⊎◌, ◌++◌, ◌∙◌, Bool, false, List, Option, codes, refl, ap, subst, inl, inr, arith}
use Rattle.kb_geometry.specs.declared.shape.Shape.{Shape}
use Rattle.pattern_images.specs.declared.pattern.Pattern.{Pattern}
use Rattle.pattern_images.specs.declared.query.Query.{Query}
use Rattle.query_script.specs.declared.word.Word.{Word}
use Rattle.query_script.specs.Reading.{AreFromAt, AreKeptFromBoard, AreKeptFromFixed, AreKeptFromSame, AreParted, BeginsFrom, BeginsOtherwise}
use Rattle.query_script.specs.Search.{IsBoardOption, IsFlag, IsKeptBody, IsPattern, most_moves}
use Rattle.query_script.proofs.SearchBodies.{IsOnly, begins-earlier, begins-otherwise, board-begins, flag-begins, from_at-begins, no_place_there, parted-begins}
use Rattle.query_script.proofs.ToldSearches.{BoardOption, FixedOption, HasPlace, SameOption, after_at, flag_in, pattern_once, same_query, told_board_words, told_pattern, told_place_words}

-- ---- which option the words begin with

kept_board-begins : (words : List Word) (query : Query) → AreKeptFromBoard words query → BeginsFrom 3 words
kept_board-begins words query (rest, parted, at) =
    parted-begins IsBoardOption 3 words query.board rest (board-begins query.board) parted (begins-earlier 4 5 rest (omega arith) (from_at-begins rest query at))

kept_fixed-begins : (words : List Word) (query : Query) → AreKeptFromFixed words query → BeginsFrom 1 words
kept_fixed-begins words query (rest, parted, board) =
    parted-begins (IsFlag (codes "fixed")) 1 words query.fixed rest (flag-begins (codes "fixed") query.fixed) parted (begins-earlier 2 3 rest (omega arith) (kept_board-begins rest query board))

-- ---- the options one after the other

kept_same : (words : List Word) (query : Query) → IsKeptBody words query → AreKeptFromSame words query
kept_same words query body =
    let at : AreFromAt (body.at ++ body.pattern) query = (body.pattern, record { own = body.at; split = refl; says = body.at_is }, body.pattern_is) in
    let board : AreKeptFromBoard (body.board ++ (body.at ++ body.pattern)) query = (body.at ++ body.pattern, record { own = body.board; split = refl; says = body.board_is }, at) in
    let fixed : AreKeptFromFixed (body.fixed ++ (body.board ++ (body.at ++ body.pattern))) query = (body.board ++ (body.at ++ body.pattern), record { own = body.fixed; split = refl; says = body.fixed_is }, board) in
    (body.fixed ++ (body.board ++ (body.at ++ body.pattern)), record { own = body.same; split = body.in_order; says = body.same_is }, fixed)

pub kept_fixed : (words one : List Word) (value : Bool) (query : Query) → IsOnly (IsFlag (codes "same")) (codes "same") words value one → IsKeptBody words query →
    (query.same ≡ value) × AreKeptFromFixed one query
kept_fixed words one value query only body =
    let (others, parted, fixed) = kept_same words query body in
    let found = only query.same others parted (begins-otherwise 1 (codes "same") others (kept_fixed-begins others query fixed) (omega arith)) in
    (found.0, subst (λ l. AreKeptFromFixed l query) found.1 fixed)

pub kept_board : (words rest : List Word) (value : Bool) (query : Query) → IsOnly (IsFlag (codes "fixed")) (codes "fixed") words value rest → AreKeptFromFixed words query →
    (query.fixed ≡ value) × AreKeptFromBoard rest query
kept_board words rest value query only (others, parted, board) =
    let found = only query.fixed others parted (begins-otherwise 3 (codes "fixed") others (kept_board-begins others query board) (omega arith)) in
    (found.0, subst (λ l. AreKeptFromBoard l query) found.1 board)

pub kept_at : (words rest : List Word) (value : Option Shape) (query : Query) → IsOnly IsBoardOption (codes "board") words value rest → AreKeptFromBoard words query →
    (query.board ≡ value) × AreFromAt rest query
kept_at words rest value query only (others, parted, at) =
    let found = only query.board others parted (begins-otherwise 5 (codes "board") others (from_at-begins others query at) (omega arith)) in
    (found.0, subst (λ l. AreFromAt l query) found.1 at)

pub no_kept_board : (words : List Word) (query : Query) → ((board : Option Shape) (others : List Word) → AreParted IsBoardOption words board others → ¬ BeginsOtherwise (codes "board") others) → ¬ AreKeptFromBoard words query
no_kept_board words query without (others, parted, at) =
    without query.board others parted (begins-otherwise 5 (codes "board") others (from_at-begins others query at) (omega arith))

-- ---- whether words spell one, and that they spell one at most

abbrev pub HasKeptBody : List Word → Type 0
HasKeptBody words = (query : Query) × IsKeptBody words query × ((other : Query) → IsKeptBody words other → other ≡ query)

module _ (words : List Word) (s : SameOption words) (f : FixedOption s.rest) where
  to_kept_board : (query : Query) → IsKeptBody words query → (query.same ≡ s.value) × (query.fixed ≡ f.value) × AreKeptFromBoard f.rest query
  to_kept_board query body =
      let one = kept_fixed words s.rest s.value query s.only body in
      let two = kept_board s.rest f.rest f.value query f.only one.1 in
      (one.0, two.0, two.1)

  module _ (b : BoardOption f.rest) (p : HasPlace b.rest) where
    to_kept_at : (query : Query) → IsKeptBody words query → (query.board ≡ b.value) × AreFromAt b.rest query
    to_kept_at query body = kept_at f.rest b.rest b.value query b.only (to_kept_board query body).2

    module _ (pattern : Pattern) (is : IsPattern pattern p.rest) where
      abbrev made : Query
      made = record {
        pattern = pattern;
        same = s.value;
        fixed = f.value;
        main = false;
        board = b.value;
        from_move = 0;
        to_move = most_moves;
        at = p.value;
      }

      made-kept : IsKeptBody words made
      made-kept = record {
        same = s.parted.own;
        fixed = f.parted.own;
        board = b.parted.own;
        at = p.parted.own;
        pattern = p.rest;
        in_order = s.parted.split ∙ ap (λ l. s.parted.own ++ l)
            (f.parted.split ∙ ap (λ l. f.parted.own ++ l)
            (b.parted.split ∙ ap (λ l. b.parted.own ++ l) p.parted.split));
        same_is = s.parted.says;
        fixed_is = f.parted.says;
        board_is = b.parted.says;
        at_is = p.parted.says;
        pattern_is = is;
        all_lines = refl;
        from_first = refl;
        to_last = refl;
      }

      made-only : (other : Query) → IsKeptBody words other → other ≡ made
      made-only other body =
          let flags = to_kept_board other body in
          let board = to_kept_at other body in
          let place = after_at other b.rest p board.1 in
          same_query other made (pattern_once p.rest other.pattern pattern place.1 is) flags.0 flags.1 body.all_lines board.0
          body.from_first body.to_last place.0

pub told_kept_body : (words : List Word) → HasKeptBody words ⊎ ((query : Query) → IsKeptBody words query → ⊥)
told_kept_body words =
    let s : SameOption words = flag_in (codes "same") words in
    let f : FixedOption s.rest = flag_in (codes "fixed") s.rest in
    elim (told_board_words f.rest) [
      | inr never ↦ inr (λ query body. no_kept_board f.rest query never (to_kept_board words s f query body).2)
      | inl b ↦ elim (told_place_words b.rest) [
        | inr never ↦ inr (λ query body.
            no_place_there b.rest query never (kept_at f.rest b.rest b.value query b.only (to_kept_board words s f query body).2).1)
        | inl p ↦ elim (told_pattern p.rest) [
          | inr never ↦ inr (λ query body. never query.pattern (after_at query b.rest p (to_kept_at words s f b p query body).1).1)
          | inl (pattern, is) ↦ inl (
            made words s f b p pattern is,
            made-kept words s f b p pattern is,
            made-only words s f b p pattern is,
          )
        ]
      ]
    ]
