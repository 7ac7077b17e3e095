-- The games of planes that are on boards of their shape.
use Rattle.std.proofs.Common.{◌≡◌, ℕ, ◌<◌, ◌↔◌, nat_eq, Bool, cond, List, Option, None, Some, get_or, inl, inr, sym, ap, ◌∙◌, subst, arith}
use Rattle.std.specs.Int.{bit_at}
use Rattle.std.specs.Option.{IsSome, is_some}
use Rattle.std.proofs.lemmas.Bool.{cases_Bool, cases_lt, eq-eqb, eqb-true, false≢true}
use Rattle.std.proofs.lemmas.List.{get_or_past}
use Rattle.std.proofs.lemmas.List.FromFn.{get_or-map-range_with_len}
use Rattle.kb_geometry.specs.declared.shape.Shape.{Shape}
use Rattle.kb_geometry.specs.declared.stone.Cell.TheVariants as cell
use Rattle.final_index.specs.declared.ever_sets.EverSets.{EverSets}
use Rattle.final_index.specs.Planes.{PlaneGames}
use Rattle.final_index.specs.PlaneWords.{ArePlaneWords, game_in, games_of_words, points_with}
use Rattle.final_index.proofs.GamesOfWords.{length-games_of_words}

module _ (points present : ℕ) (words : List ℕ) where
  -- the sets of a game that is present
  abbrev sets_at : ℕ → EverSets
  sets_at g = record {
    black = points_with points words g cell.Black;
    white = points_with points words g cell.White;
    empty = points_with points words g cell.Empty;
  }

  present-game : (g : ℕ) → (bit_at present g ≡ 1) ↔ IsSome (game_in points present words g)
  unfolding game_in
  present-game g = (
    λ e. ap (λ (b : Bool). is_some (cond b (Some (sets_at g)) None)) (eq-eqb (bit_at present g) 1 e),
    λ h. elim (cases_Bool (nat_eq (bit_at present g) 1)) [
      | inl t ↦ eqb-true (bit_at present g) 1 t
      | inr f ↦ absurd (false≢true (sym (ap (λ (b : Bool). is_some (cond b (Some (sets_at g)) None)) f) ∙ h))
    ],
  )

  games_of_words-game : (count k : ℕ) → k < count → get_or (games_of_words points present words count) k None ≡ game_in points present words k
  unfolding games_of_words
  games_of_words-game count k lt = get_or-map-range_with_len (game_in points present words) 0 count k k None lt (omega arith)

  present-bits : (count : ℕ) → ArePlaneWords points count present words → (g : ℕ) → (bit_at present g ≡ 1) ↔ IsSome (get_or (games_of_words points present words count) g None)
  present-bits count are g =
      elim (cases_lt g count) [
        | inl below ↦ subst (λ (o : Option EverSets). (bit_at present g ≡ 1) ↔ IsSome o) (sym (games_of_words-game count g below)) (present-game g)
        | inr past ↦
            let nothing = get_or_past (games_of_words points present words count) g None (omega (arith, length-games_of_words points present words count)) in (
              λ one. absurd (omega (arith, are.counted g one)),
              λ h. absurd (false≢true (sym (ap (λ (o : Option EverSets). is_some o) nothing) ∙ h)),
            )
      ]

  pub present-seen : (count : ℕ) → ArePlaneWords points count present words → (shape : Shape) (now : PlaneGames) → ◌≡◌ {A = PlaneGames} (record { shape = shape; games = games_of_words points present words count }) now → (g : ℕ) → (bit_at present g ≡ 1) ↔ IsSome (get_or now.games g None)
  present-seen count are shape now seen g = subst (λ (v : PlaneGames). (bit_at present g ≡ 1) ↔ IsSome (get_or v.games g None)) seen (present-bits count are g)
