-- At how many nodes hits stand.
use Rattle.std.specs.Prelude.{ℕ, ◌+◌, ◌==◌, ◌&&◌, Bool, if◌then◌else◌, List, [], ◌∷◌}
use Rattle.pattern_images.specs.declared.hit.Hit.{Hit}

-- two hits stand at one node of one game
abbrev pub are_at_one_node : Hit → Hit → Bool
are_at_one_node a b = (a.game == b.game) && (a.node == b.node)

-- at how many nodes these hits stand, of which those at one node stand together
abbrev pub hit_nodes : List Hit → ℕ
hit_nodes [] = 0
hit_nodes (a ∷ []) = 1
hit_nodes (a ∷ b ∷ hits) = (if are_at_one_node a b then 0 else 1) + hit_nodes (b ∷ hits)
