-- The items of the parts of a version, one part after another.
use Rattle.std.proofs.Common.{◌≡◌, ◌∙◌, ◌+◌, ◌<◌, ◌≤◌, ◌++◌, ℕ, List, [], ◌∷◌, ap, arith, drop, get_or, length, length-append, map, sym, take}
use Rattle.std.proofs.lemmas.List.{append-nil, map-append, take-append-drop, take_more}
use Rattle.version_publisher.specs.Contents.{items_in}
use Rattle.version_publisher.proofs.ReadyStates.{joined-append}

module _ {X A : Type 0} (v : X → List A) (parts : List X) where
  -- those of the first parts, and those of the others
  pub items-cut : (k : ℕ) → items_in (map v parts) ≡ items_in (map v (take k parts)) ++ items_in (map v (drop k parts))
  items-cut k =
      ap (λ ps. items_in (map v ps)) (sym (take-append-drop k parts)) ∙ ap items_in (map-append v (take k parts) (drop k parts))
      ∙ joined-append (map v (take k parts)) (map v (drop k parts))

  module _ (k : ℕ) (part : X) (below : k < length parts) (at : part ≡ get_or parts k part) where
    -- those of one part more
    pub items-more : items_in (map v (take (k + 1) parts)) ≡ items_in (map v (take k parts)) ++ v part
    items-more =
        let before = take k parts in
        ap (λ ps. items_in (map v ps)) (take_more parts k part below ∙ ap (λ p. before ++ p ∷ []) (sym at))
        ∙ ap items_in (map-append v before (part ∷ []))
        ∙ joined-append (map v before) (v part ∷ [])
        ∙ ap (λ xs. items_in (map v before) ++ xs) (append-nil (v part))

    -- these are not more than those of all parts
    pub items-fit : length (items_in (map v (take k parts))) + length (v part) ≤ length (items_in (map v parts))
    items-fit =
        let one = ap length items-more ∙ length-append (items_in (map v (take k parts))) (v part) in
        let all = ap length (items-cut (k + 1)) ∙ length-append (items_in (map v (take (k + 1) parts))) (items_in (map v (drop (k + 1) parts))) in
        omega (arith, one, all)
