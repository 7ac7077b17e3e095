-- Lists that are made game by game, of what fits each game under its number.
use Rattle.std.proofs.Common.{◌≡◌, ◌↔◌, ◌⊎◌, inl, inr, ℕ, ◌<◌, List, [], ◌∷◌, ◌++◌, length, get_or, refl, sym, ap, ◌∙◌, subst, arith}
use Rattle.std.specs.Prelude.{All, AllPairs, Contains}
use Rattle.std.proofs.lemmas.Bool.{cases_lt}
use Rattle.std.proofs.lemmas.List.{get_or_append_left, get_or_default, get_or_push, length_push}
use Rattle.std.proofs.lemmas.List.Elements.{All-append, All-head, All-tail, Contains-append_cases, Contains-append_left, Contains-append_right, Contains-get_or}
use Rattle.std.proofs.lemmas.List.Kept.{AllPairs-cons}
use Rattle.kb_geometry.proofs.Lists.{AllPairs-head, AllPairs-tail, Contains-cases, Contains-first, same_order}
use Rattle.node_position.specs.Games.{Game}
use Rattle.search_engine.specs.Numbered.{IsNumbered}

-- ---- games by their numbers
pub numbered-kept : (games : List Game) (last : Game) (n : ℕ) (game : Game) → IsNumbered games n game → IsNumbered (games ++ last ∷ []) n game
numbered-kept games last n game is =
    (omega (arith, is.0, length_push games last), get_or_append_left games (last ∷ []) game n is.0 ∙ is.1)

pub numbered-last : (games : List Game) (last : Game) → IsNumbered (games ++ last ∷ []) (length games) last
numbered-last games last = (omega (arith, length_push games last), get_or_push games last last (length games) refl)

pub numbered-cases : (games : List Game) (last : Game) (n : ℕ) (game : Game) → IsNumbered (games ++ last ∷ []) n game → IsNumbered games n game ⊎ ((n ≡ length games) × (last ≡ game))
numbered-cases games last n game is = elim (cases_lt n (length games)) [
  | inl old ↦ inl (old, sym (get_or_append_left games (last ∷ []) game n old) ∙ is.1)
  | inr past ↦
      let here : length games ≡ n = omega (arith, is.0, length_push games last, past) in
      inr (sym here, sym (get_or_push games last game n here) ∙ is.1)
]

pub numbered-one : (games : List Game) (n : ℕ) (a b : Game) → IsNumbered games n a → IsNumbered games n b → a ≡ b
numbered-one games n a b one other = sym one.1 ∙ get_or_default games n a b one.0 ∙ other.1

-- ---- pairs
pairs-append : {X : Type 0} (R : X → X → Type 0) (xs ys : List X) → AllPairs R xs → AllPairs R ys → All (λ x. All (R x) ys) xs → AllPairs R (xs ++ ys)
pairs-append R [] ys one other across = other
pairs-append R (x ∷ xs) ys one other across =
    AllPairs-cons R x (xs ++ ys) (All-append (R x) xs ys (AllPairs-head R x xs one) (All-head (λ z. All (R z) ys) x xs across))
    (pairs-append R xs ys (AllPairs-tail R x xs one) other (All-tail (λ z. All (R z) ys) x xs across))

pub pairs-one : {X : Type 0} (R : X → X → Type 0) (x : X) → AllPairs R (x ∷ [])
pairs-one R x i j d less below = absurd (omega arith)

-- ---- lists
-- each element has the number of a game, and what fits the game is in order
module _ {T : Type 0} (number : T → ℕ) (fits : Game → T → Type 0) (before : T → T → Type 0) where
  pub record AreThose (games : List Game) (list : List T) : Type 0 where
    pub exactly : (t : T) → Contains list t ↔ ((game : Game) × IsNumbered games (number t) game × fits game t)
    pub ordered : AllPairs before list

  -- these are what fits the next game
  pub record AreNext (count : ℕ) (game : Game) (more : List T) : Type 0 where
    pub exactly : (t : T) → Contains more t ↔ ((number t ≡ count) × fits game t)
    pub ordered : AllPairs before more

  pub those-none : AreThose [] []
  those-none = record {
    exactly = λ t. (λ h. absurd (omega (arith, h.1)), λ h. absurd (omega (arith, h.1.0)));
    ordered = λ i j d less below. absurd (omega arith);
  }

  pub next-none : (count : ℕ) (game : Game) → ((t : T) → ¬ fits game t) → AreNext count game []
  next-none count game not = record {
    exactly = λ t. (λ h. absurd (omega (arith, h.1)), λ h. absurd (not t h.1));
    ordered = λ i j d less below. absurd (omega arith);
  }

  pub next-one : (count : ℕ) (game : Game) (one : T) → number one ≡ count → fits game one → ((t : T) → number t ≡ count → fits game t → one ≡ t) → AreNext count game (one ∷ [])
  next-one count game one is fit only = record {
    exactly = λ t. (
      λ h. elim (Contains-cases one t [] h) [
        | inl here ↦ (ap number (sym here) ∙ is, subst (fits game) here fit)
        | inr none ↦ absurd (omega (arith, none.1))
      ],
      λ h. subst (Contains (one ∷ [])) (only t h.0 h.1) (Contains-first one []),
    );
    ordered = pairs-one before one;
  }

  pub those-more : ((a b : T) → number a < number b → before a b) → (games : List Game) (list : List T) → AreThose games list → (game : Game) (more : List T) → AreNext (length games) game more → AreThose (games ++ game ∷ []) (list ++ more)
  those-more by_number games list those game more next = record {
    exactly = λ t. (
      λ h. elim (Contains-append_cases list more t h) [
        | inl old ↦ let told = (those.exactly t).0 old in (told.0, numbered-kept games game (number t) told.0 told.1, told.2)
        | inr new ↦
            let told = (next.exactly t).0 new in
            (game, subst (λ n. IsNumbered (games ++ game ∷ []) n game) (sym told.0) (numbered-last games game), told.1)
      ],
      λ h. elim (numbered-cases games game (number t) h.0 h.1) [
        | inl old ↦ Contains-append_left list more t ((those.exactly t).1 (h.0, old, h.2))
        | inr here ↦ Contains-append_right list more t ((next.exactly t).1 (here.0, subst (λ (g : Game). fits g t) (sym here.1) h.2))
      ],
    );
    ordered = pairs-append before list more those.ordered next.ordered (λ k d lt j e below.
        let x = get_or list k d in
        let y = get_or more j e in
        let low = ((those.exactly x).0 (Contains-get_or list k d lt)).1.0 in
        let high = ((next.exactly y).0 (Contains-get_or more j e below)).0 in
        by_number x y (omega (arith, low, high)));
  }

  pub those-same : ((a b : T) → before a b → before b a → ⊥) → (games : List Game) (xs ys : List T) → AreThose games xs → AreThose games ys → xs ≡ ys
  those-same opposed games xs ys one other =
      same_order before opposed xs ys one.ordered other.ordered (λ z h. (other.exactly z).1 ((one.exactly z).0 h)) (λ z h. (one.exactly z).1 ((other.exactly z).0 h))
