-- The words of a search with its conditions part in one way only; whether they spell one can be told, and they spell one at
-- most.
use Rattle.std.proofs.Common.{◌≡◌, ◌≢◌, ◌⊎◌, ◌∙◌, ◌++◌, ℕ, Bool, true, false, List, [], ◌∷◌, Option, Some, None, All, codes, refl, sym, ap, subst, inl, inr, arith}
use Rattle.std.specs.Str.Parse.{AllDigits}
use Rattle.std.proofs.lemmas.List.Elements.{All-append, All-cons, All-nil}
use Rattle.kb_geometry.specs.declared.shape.Rect.{Rect}
use Rattle.kb_geometry.specs.declared.shape.Shape.{Shape}
use Rattle.info_filter.specs.declared.condition.Condition.{Condition}
use Rattle.info_filter.specs.declared.filter.Filter.{Filter}
use Rattle.info_filter.proofs.FirstDates.{split_once}
use Rattle.pattern_images.specs.declared.query.Query.{Query}
use Rattle.query_script.specs.declared.word.Word.{Word}
use Rattle.query_script.specs.Conditions.{AreConditions, IsFilteredBody}
use Rattle.query_script.specs.Conditions.AreConditions.{nothing, one_more}
use Rattle.query_script.specs.Reading.{BeginsWithWhere}
use Rattle.query_script.specs.Search.{AreMoves, IsAt, IsBoardOption, IsBody, IsFlag}
use Rattle.query_script.specs.Search.AreMoves.{given, not_given as no_moves}
use Rattle.query_script.specs.Search.IsAt.{not_given as no_place, one_point, rectangle}
use Rattle.query_script.specs.Words.{IsNumber, bare}
use Rattle.query_script.proofs.PatternWords.{pattern-no_where}
use Rattle.query_script.proofs.ToldConditions.{told_joined}
use Rattle.query_script.proofs.ToldSearches.{apart, same_bare, told_body, told_name}

-- ---- the body has no bare word `where`

abbrev pub IsOther : Word → Type 0
IsOther w = w ≢ bare (codes "where")

-- none of the words is the bare word `where`
abbrev pub HasNoWhere : List Word → Type 0
HasNoWhere words = All IsOther words

number_other : (w : Word) (n : ℕ) → IsNumber w n → IsOther w
number_other w n is where_ =
    let digits : is.digits ≡ codes "where" = same_bare is.digits (codes "where") (sym is.word ∙ where_) in
    let first = subst (AllDigits 10) digits is.decimal.1 in
    omega (arith, first.0)

other_name : (name : List ℕ) → name ≢ codes "where" → IsOther (bare name)
other_name name differ where_ = differ (same_bare name (codes "where") where_)

-- a word in front
in_front : (w : Word) (words : List Word) → IsOther w → HasNoWhere words → HasNoWhere (w ∷ words)
in_front w words first rest = All-cons IsOther w words first rest

nothing_there : HasNoWhere []
nothing_there = All-nil IsOther

flag-no_where : (name : List ℕ) (value : Bool) (own : List Word) → name ≢ codes "where" → IsFlag name value own → HasNoWhere own
flag-no_where name true own differ says = subst HasNoWhere (sym says) (in_front (bare name) [] (other_name name differ) nothing_there)
flag-no_where name false own differ says = subst HasNoWhere (sym says) nothing_there

board-no_where : (board : Option Shape) (own : List Word) → IsBoardOption board own → HasNoWhere own
board-no_where None own says = subst HasNoWhere (sym says) nothing_there
board-no_where (Some shape) own (c, r, is, cols, rows) =
    subst HasNoWhere (sym is)
    (in_front (bare (codes "board")) (c ∷ r ∷ []) (other_name (codes "board") (apart _ _ refl))
    (in_front c (r ∷ []) (number_other c _ cols.0) (in_front r [] (number_other r _ rows.0) nothing_there)))

moves-no_where : (from to : ℕ) (own : List Word) → AreMoves from to own → HasNoWhere own
moves-no_where from to _ (no_moves least most) = nothing_there
moves-no_where from to _ (given a b least most ordered bound) =
    in_front (bare (codes "moves")) (a ∷ b ∷ []) (other_name (codes "moves") (apart _ _ refl))
    (in_front a (b ∷ []) (number_other a from least) (in_front b [] (number_other b to most) nothing_there))

at-no_where : (at : Option Rect) (own : List Word) → IsAt at own → HasNoWhere own
at-no_where _ _ no_place = nothing_there
at-no_where _ _ (one_point {x} {y} a b is_x is_y) =
    in_front (bare (codes "at")) (a ∷ b ∷ []) (other_name (codes "at") (apart _ _ refl))
    (in_front a (b ∷ []) (number_other a x is_x.0) (in_front b [] (number_other b y is_y.0) nothing_there))
at-no_where _ _ (rectangle {x0} {y0} {x1} {y1} a b c d is_x is_y is_x1 is_y1 wide high) =
    in_front (bare (codes "at")) (a ∷ b ∷ bare (codes "to") ∷ c ∷ d ∷ []) (other_name (codes "at") (apart _ _ refl))
    (in_front a (b ∷ bare (codes "to") ∷ c ∷ d ∷ []) (number_other a x0 is_x.0)
    (in_front b (bare (codes "to") ∷ c ∷ d ∷ []) (number_other b y0 is_y.0)
    (in_front (bare (codes "to")) (c ∷ d ∷ []) (other_name (codes "to") (apart _ _ refl))
    (in_front c (d ∷ []) (number_other c x1 is_x1.0) (in_front d [] (number_other d y1 is_y1.0) nothing_there)))))

pub body-no_where : (words : List Word) (query : Query) → IsBody words query → HasNoWhere words
body-no_where words query body =
    subst HasNoWhere (sym body.in_order)
    (All-append IsOther body.same _ (flag-no_where (codes "same") query.same body.same (apart _ _ refl) body.same_is)
    (All-append IsOther body.fixed _ (flag-no_where (codes "fixed") query.fixed body.fixed (apart _ _ refl) body.fixed_is)
    (All-append IsOther body.main _ (flag-no_where (codes "main") query.main body.main (apart _ _ refl) body.main_is)
    (All-append IsOther body.board _ (board-no_where query.board body.board body.board_is)
    (All-append IsOther body.moves _ (moves-no_where query.from_move query.to_move body.moves body.moves_are)
    (All-append IsOther body.at body.pattern (at-no_where query.at body.at body.at_is)
    (pattern-no_where query.pattern body.pattern body.pattern_is)))))))

-- ---- the words part in one way

-- no words, or words from `where` on
abbrev pub AreAsked : List Word → Type 0
AreAsked words = (words ≡ []) ⊎ BeginsWithWhere words

asked_first : (words : List Word) → AreAsked words → (w : Word) (rest : List Word) → words ≡ w ∷ rest → ¬ IsOther w
asked_first words (inl none) w rest is other = let both : [] ≡ w ∷ rest = sym none ∙ is in absurd (cc both)
asked_first words (inr (more, begins)) w rest is other =
    let both : bare (codes "where") ∷ more ≡ w ∷ rest = sym begins ∙ is in
    let first : w ≡ bare (codes "where") = cc in
    other first

joined-asked : (conditions : List Condition) (words : List Word) → AreConditions (codes "where") conditions words → AreAsked words
joined-asked _ _ nothing = inl refl
joined-asked _ _ (one_more {words} c kind value spelled more) = inr (kind ∷ value ∷ words, refl)

-- what a search with its conditions is, where its words are parted
pub filtered_parts : (words body asked : List Word) (query : Query) (filter : Filter) → words ≡ body ++ asked → HasNoWhere body → AreAsked asked →
    IsFilteredBody words query filter → IsBody body query × AreConditions (codes "where") filter.conditions asked
filtered_parts words body asked query filter split before from is =
    let (bodies, askeds) = split_once IsOther is.body body is.asked asked (body-no_where is.body query is.body_is) before
    (asked_first is.asked (joined-asked filter.conditions is.asked is.asked_is)) (asked_first asked from) (sym is.split ∙ split) in
    (subst (λ l. IsBody l query) bodies is.body_is, subst (AreConditions (codes "where") filter.conditions) askeds is.asked_is)

-- words that are parted before the first `where`
record AreCut (words : List Word) : Type 0 where
  body : List Word
  asked : List Word
  split : words ≡ body ++ asked
  before : HasNoWhere body
  from : AreAsked asked

cut : (words : List Word) → AreCut words
cut [] = record { body = []; asked = []; split = refl; before = nothing_there; from = inl refl }
cut (w ∷ words) = elim (told_name (codes "where") (w ∷ words)) [
  | inl (rest, is) ↦ record { body = []; asked = w ∷ words; split = refl; before = nothing_there; from = inr (rest, is) }
  | inr absent ↦
      let more = cut words in
      record {
        body = w ∷ more.body;
        asked = more.asked;
        split = ap (λ l. w ∷ l) more.split;
        before = in_front w more.body (λ is. absent words (ap (λ v. v ∷ words) is)) more.before;
        from = more.from;
      }
]

-- ---- the whole search

-- the search with its conditions that words spell, and no other
abbrev pub HasFilteredBody : List Word → Type 0
HasFilteredBody words = (query : Query) × (filter : Filter) × IsFilteredBody words query filter
    × ((other : Query) (others : Filter) → IsFilteredBody words other others → (other ≡ query) × (others ≡ filter))

same_filter : (f g : Filter) → f.conditions ≡ g.conditions → f ≡ g
same_filter f g conditions = ap (λ (l : List Condition). record { conditions = l }) conditions

pub told_filtered_body : (words : List Word) → HasFilteredBody words ⊎ ((query : Query) (filter : Filter) → IsFilteredBody words query filter → ⊥)
told_filtered_body words =
    let at : AreCut words = cut words in
    elim (told_body at.body) [
      | inr never ↦ inr (λ query filter is. never query (filtered_parts words at.body at.asked query filter at.split at.before at.from is).0)
      | inl (query, spelled, only) ↦ elim (told_joined (codes "where") at.asked) [
        | inr never ↦ inr (λ query filter is. never filter.conditions (filtered_parts words at.body at.asked query filter at.split at.before at.from is).1)
        | inl (conditions, joined, only_these) ↦ inl (
          query,
          record { conditions = conditions },
          record { body = at.body; asked = at.asked; split = at.split; body_is = spelled; asked_is = joined },
          λ other others is.
              let (body_is, asked_is) = filtered_parts words at.body at.asked other others at.split at.before at.from is in
              (only other body_is, same_filter others (record { conditions = conditions }) (only_these others.conditions asked_is)),
        )
      ]
    ]
