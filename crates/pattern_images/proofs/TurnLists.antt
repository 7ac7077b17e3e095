-- The turns of the labels, one after another, while the rectangles of cells grow.
use Rattle.std.proofs.Common.{◌≡◌, ℕ, ◌+◌, inl, inr, Option, Some, None, List, [], ◌∷◌, ◌++◌, length, get_or, sym, ap, ◌∙◌, subst, arith}
use Rattle.std.proofs.lemmas.Bool.{cases_lt}
use Rattle.std.proofs.lemmas.List.{get_or_append_left, get_or_push, length_push}
use Rattle.kb_geometry.specs.declared.shape.Shape.{Shape}
use Rattle.pattern_images.specs.declared.query.Query.{Query}
use Rattle.pattern_images.specs.declared.turn.Turn.{Turn}
use Rattle.pattern_images.specs.Grid.{Grid}
use Rattle.pattern_images.specs.Turns.{AreTurns, HasGrown, IsTurn}

module _ (query : Query) (shape : Shape) where
  pub AreTurns-none : AreTurns query shape [] []
  AreTurns-none = record { each = λ label below. absurd (omega arith); distinct = λ i j i_in. absurd (omega arith); few = omega arith }

  -- a turn stays one while the rectangles grow
  IsTurn-grown : (before after : List Grid) → HasGrown before after → (label : ℕ) (o : Option Turn) → IsTurn query shape before label o → IsTurn query shape after label o
  IsTurn-grown before after grown label None none = none
  IsTurn-grown before after grown label (Some turn) is =
      let kept = grown.kept turn.class is.class in
      record {
        label = is.label;
        class = kept.0;
        results = λ p label. (
          (λ result. (((is.results p label).0 result).0, ((is.results p label).0 result).1 ∙ sym kept.1)),
          (λ h. (is.results p label).1 (h.0, h.1 ∙ kept.1)),
        );
      }

  -- one turn more
  pub AreTurns-more : (before after : List Grid) (turns : List (Option Turn)) (turn : Option Turn) → AreTurns query shape before turns → HasGrown before after →
      IsTurn query shape after (length turns) turn → AreTurns query shape after (turns ++ turn ∷ [])
  AreTurns-more before after turns turn are grown is = record {
    each = λ label below.
        elim (cases_lt label (length turns)) [
          | inl old ↦ subst (λ (o : Option Turn). IsTurn query shape after label o) (sym (get_or_append_left turns (turn ∷ []) None label old)) (IsTurn-grown before after grown label (get_or turns label None) (are.each label old))
          | inr new ↦
              let last : length turns ≡ label = omega (arith, length_push turns turn) in
              subst (λ (o : Option Turn). IsTurn query shape after label o) (sym (get_or_push turns turn None label last)) (subst (λ (n : ℕ). IsTurn query shape after n turn) last is)
        ];
    distinct = grown.distinct are.distinct;
    few = omega (arith, length_push turns turn, grown.few, are.few);
  }

  -- the same, of lists that are known by equations
  pub AreTurns-start : (grids : List Grid) (turns : List (Option Turn)) → grids ≡ [] → turns ≡ [] → AreTurns query shape grids turns × (length turns ≡ 0)
  AreTurns-start grids turns no_grids no_turns = (
    subst (λ (g : List Grid). AreTurns query shape g turns) (sym no_grids) (subst (λ (t : List (Option Turn)). AreTurns query shape [] t) (sym no_turns) AreTurns-none),
    ap length no_turns,
  )

  pub AreTurns-pushed : (before after : List Grid) (turns turns' : List (Option Turn)) (turn : Option Turn) (number label : ℕ) →
      AreTurns query shape before turns × (length turns ≡ number) → HasGrown before after → label ≡ number → IsTurn query shape after label turn → turns' ≡ turns ++ turn ∷ [] →
      AreTurns query shape after turns' × (length turns' ≡ number + 1)
  AreTurns-pushed before after turns turns' turn number label (are, count) grown same is pushed =
      let here : IsTurn query shape after (length turns) turn = subst (λ (n : ℕ). IsTurn query shape after n turn) (same ∙ sym count) is in (
        subst (λ (t : List (Option Turn)). AreTurns query shape after t) (sym pushed) (AreTurns-more before after turns turn are grown here),
        ap length pushed ∙ length_push turns turn ∙ ap (λ n. n + 1) count,
      )
