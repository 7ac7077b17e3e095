-- Properties by their identifiers.
use Rattle.std.proofs.Common.{◌≡◌, ◌≢◌, ℕ, List, [], ◌∷◌, false, nat_eq, refl}
use Rattle.std.proofs.Math.Bool.{and-false}
use Rattle.game_tree.specs.declared.property.Property.TheVariants as property
use Rattle.std.specs.Str.{bytes_eq}
use Rattle.game_tree.specs.Property.{property_named}

-- a name of neither one nor two letters is that of no property that does something
pub no_property : (name : List ℕ) → ((a b : ℕ) → (name ≢ a ∷ []) × (name ≢ a ∷ b ∷ [])) → property.Other ≡ property_named name
no_property [] none = refl
no_property (a ∷ []) none = absurd ((none a a).0 refl)
no_property (a ∷ b ∷ []) none = absurd ((none a b).1 refl)
no_property (a ∷ b ∷ c ∷ rest) none = rw (and-false (nat_eq a 66), and-false (nat_eq a 87), and-false (nat_eq b 66), and-false (nat_eq b 87), and-false (nat_eq b 69), and-false (nat_eq a 65)) refl

-- a name of neither one nor two letters is no name of two
pub other_name : (name : List ℕ) (first second : ℕ) → ((a b : ℕ) → (name ≢ a ∷ []) × (name ≢ a ∷ b ∷ [])) → false ≡ bytes_eq name (first ∷ second ∷ [])
other_name [] first second none = refl
other_name (a ∷ []) first second none = absurd ((none a a).0 refl)
other_name (a ∷ b ∷ []) first second none = absurd ((none a b).1 refl)
other_name (a ∷ b ∷ c ∷ rest) first second none = rw (and-false (nat_eq b second), and-false (nat_eq a first)) refl
