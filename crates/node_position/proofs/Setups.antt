-- Setups one after another.
use Rattle.std.proofs.Common.{◌≡◌, ℕ, ◌+◌, ◌<◌, List, [], ◌∷◌, ◌++◌, length, get_or, take, refl, sym, ap, ◌∙◌}
use Rattle.std.proofs.lemmas.List.{take_more}
use Rattle.kb_geometry.specs.declared.shape.Shape.{Shape}
use Rattle.kb_geometry.specs.Capture.{Position, with_rect}
use Rattle.game_tree.specs.declared.node.Setup.{Setup}
use Rattle.game_tree.specs.Position.{set_up_all}

set_up_all-append : (shape : Shape) (position : Position) (some more : List Setup) → set_up_all shape position (some ++ more) ≡ set_up_all shape (set_up_all shape position some) more
set_up_all-append shape position [] more = refl
set_up_all-append shape position (s ∷ ss) more = set_up_all-append shape (with_rect shape position s.cell s.rect) ss more

-- one setup more
pub set_up_all-more : (shape : Shape) (position : Position) (setups : List Setup) (n : ℕ) (d : Setup) → n < length setups → with_rect shape (set_up_all shape position (take n setups)) (get_or setups n d).cell (get_or setups n d).rect ≡ set_up_all shape position (take (n + 1) setups)
set_up_all-more shape position setups n d below =
    sym (ap (set_up_all shape position) (take_more setups n d below) ∙ set_up_all-append shape position (take n setups) (get_or setups n d ∷ []))
