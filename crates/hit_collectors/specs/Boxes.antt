-- Lists of boxes: which of them have been fed, and one that is taken out.
use Rattle.std.specs.Prelude.{◌≡◌, ◌≢◌, ℕ, List, ◌∷◌, ◌++◌, map, All}
use Rattle.pattern_images.specs.declared.hit.Hit.{Hit}
use Rattle.hit_collectors.specs.Tallies.{BoxTally, with_hits}

-- what the boxes tell with these hits added to each
abbrev pub all_with_hits : List Hit → List BoxTally → List BoxTally
all_with_hits hits boxes = map (with_hits hits) boxes

-- the box refused one of these hits, and has those before it
pub record IsPartTaken (hits : List Hit) (old new : BoxTally) : Type 0 where
  pub taken : List Hit
  pub refused : Hit
  pub left : List Hit
  pub all_hits : hits ≡ taken ++ refused ∷ left
  pub told : new ≡ with_hits taken old

-- One of the boxes refused a hit: those before it have all hits, it has the hits before that one,
-- and the later boxes have none.
pub record IsFedInPart (hits : List Hit) (old new : List BoxTally) : Type 0 where
  pub earlier : List BoxTally
  pub before : BoxTally
  pub after : BoxTally
  pub later : List BoxTally
  pub boxes : old ≡ earlier ++ before ∷ later
  pub in_part : IsPartTaken hits before after
  pub told : new ≡ all_with_hits hits earlier ++ after ∷ later

-- The same, told of the boxes themselves: the later ones are the boxes that they were, and those
-- before the one that refused a hit stand where they stood, by what each tells.
pub record IsRefusedAt {A : Type 0} (tally : A → BoxTally) (hits : List Hit) (old new : List A)
    : Type 0 where
  pub earlier : List A
  pub fed : List A
  pub before : A
  pub after : A
  pub later : List A
  pub boxes : old ≡ earlier ++ before ∷ later
  pub in_part : IsPartTaken hits (tally before) (tally after)
  pub told : map tally fed ≡ all_with_hits hits (map tally earlier)
  pub left : new ≡ fed ++ after ∷ later

-- The list without the first of its boxes that has this name, where each has a name by this
-- function.
pub record IsRetired {A : Type 0} (named : A → List ℕ) (name : List ℕ) (old new : List A)
    : Type 0 where
  pub earlier : List A
  pub retired : A
  pub later : List A
  pub boxes : old ≡ earlier ++ retired ∷ later
  pub is_named : named retired ≡ name
  pub is_first : All (λ (box : A). named box ≢ name) earlier
  pub others : new ≡ earlier ++ later
