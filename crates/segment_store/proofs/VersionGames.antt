-- The games of parts, one part after another: one part more, and one game more.
use Rattle.std.proofs.Common.{◌≡◌, ◌∙◌, ◌+◌, ◌<◌, ◌++◌, ℕ, List, [], ◌∷◌, Some, append_assoc, get_or, length, map, slice_get, sym, ap, take}
use Rattle.std.proofs.lemmas.List.{append-nil, map-append, take_more}
use Rattle.std.proofs.lemmas.Option.{get_or_from_slice_get, slice_get_within}
use Rattle.version_publisher.specs.Contents.{items_in}
use Rattle.version_publisher.proofs.ReadyStates.{joined-append}

-- the items of one part more
pub part-more : {X A : Type 0} (v : X → List A) (parts : List X) (k : ℕ) (part : X) → k < length parts → part ≡ get_or parts k part → items_in (map v (take (k + 1) parts)) ≡ items_in (map v (take k parts)) ++ v part
part-more v parts k part below at =
    let before = take k parts in
    ap (λ ps. items_in (map v ps)) (take_more parts k part below ∙ ap (λ p. before ++ p ∷ []) (sym at))
    ∙ ap items_in (map-append v before (part ∷ []))
    ∙ joined-append (map v before) (v part ∷ [])
    ∙ ap (λ xs. items_in (map v before) ++ xs) (append-nil (v part))

-- one item more of a list
pub game-more : {X A : Type 0} (v : X → A) (all : List A) (k : ℕ) (x : X) (old before new : List X) → slice_get all k ≡ Some (v x) → map v before ≡ map v old ++ take k all → new ≡ before ++ x ∷ [] → map v new ≡ map v old ++ take (k + 1) all
game-more v all k x old before new found so_far pushed =
    ap (map v) pushed
    ∙ map-append v before (x ∷ [])
    ∙ ap (λ ys. ys ++ v x ∷ []) so_far
    ∙ append_assoc (map v old) (take k all) (v x ∷ [])
    ∙ ap (λ y. map v old ++ (take k all ++ y ∷ [])) (sym (get_or_from_slice_get all k (v x) (v x) found))
    ∙ ap (λ ys. map v old ++ ys) (sym (take_more all k (v x) (slice_get_within all k (v x) found)))
