-- Whether four words spell an opening can be told, and they spell one at most.
use Rattle.std.proofs.Common.{◌≡◌, ◌≢◌, ◌⊎◌, ◌≤◌, ◌∙◌, ℕ, List, [], ◌∷◌, refl, sym, subst, inl, inr, arith}
use Rattle.std.proofs.lemmas.Bool.{cases_lt}
use Rattle.kb_geometry.specs.declared.shape.Shape.{Shape}
use Rattle.kb_geometry.specs.Board.{cols_of, rows_of}
use Rattle.kb_geometry.proofs.Shapes.{shape_same}
use Rattle.query_script.specs.declared.word.Word.{Word}
use Rattle.query_script.specs.Search.{most_moves}
use Rattle.query_script.specs.Statements.{AreOpeningNumbers, most_number}
use Rattle.query_script.specs.Words.{IsNumber}
use Rattle.query_script.proofs.Numbers.{IsNumber-once}
use Rattle.query_script.proofs.ToldSearches.{same_first, same_rest, told_side, told_up_to}

-- four words, or not
abbrev HasFour : List Word → Type 0
HasFour words = (c : Word) × (r : Word) × (d : Word) × (m : Word) × (words ≡ c ∷ r ∷ d ∷ m ∷ [])

told_four : (words : List Word) → HasFour words ⊎ ((c r d m : Word) → words ≢ c ∷ r ∷ d ∷ m ∷ [])
told_four [] = inr (λ c r d m e. absurd (cc e))
told_four (w ∷ []) = inr (λ c r d m e. let none : [] ≡ r ∷ d ∷ m ∷ [] = same_rest w c [] (r ∷ d ∷ m ∷ []) e in absurd (cc none))
told_four (w ∷ v ∷ []) = inr (λ c r d m e.
    let more : v ∷ [] ≡ r ∷ d ∷ m ∷ [] = same_rest w c (v ∷ []) (r ∷ d ∷ m ∷ []) e in
    let none : [] ≡ d ∷ m ∷ [] = same_rest v r [] (d ∷ m ∷ []) more in
    absurd (cc none))
told_four (w ∷ v ∷ u ∷ []) = inr (λ c r d m e.
    let more : v ∷ u ∷ [] ≡ r ∷ d ∷ m ∷ [] = same_rest w c (v ∷ u ∷ []) (r ∷ d ∷ m ∷ []) e in
    let last : u ∷ [] ≡ d ∷ m ∷ [] = same_rest v r (u ∷ []) (d ∷ m ∷ []) more in
    let none : [] ≡ m ∷ [] = same_rest u d [] (m ∷ []) last in
    absurd (cc none))
told_four (w ∷ v ∷ u ∷ t ∷ []) = inl (w, v, u, t, refl)
told_four (w ∷ v ∷ u ∷ t ∷ s ∷ rest) = inr (λ c r d m e.
    let more : v ∷ u ∷ t ∷ s ∷ rest ≡ r ∷ d ∷ m ∷ [] = same_rest w c (v ∷ u ∷ t ∷ s ∷ rest) (r ∷ d ∷ m ∷ []) e in
    let some : u ∷ t ∷ s ∷ rest ≡ d ∷ m ∷ [] = same_rest v r (u ∷ t ∷ s ∷ rest) (d ∷ m ∷ []) more in
    let last : t ∷ s ∷ rest ≡ m ∷ [] = same_rest u d (t ∷ s ∷ rest) (m ∷ []) some in
    let none : s ∷ rest ≡ [] = same_rest t m (s ∷ rest) [] last in
    absurd (cc none))

-- the words are four that tell these numbers
abbrev pub SpellsOpening : List Word → Shape → ℕ → ℕ → Type 0
SpellsOpening words shape depth least =
    (c : Word) × (r : Word) × (d : Word) × (m : Word) × (words ≡ c ∷ r ∷ d ∷ m ∷ []) × AreOpeningNumbers c r d m shape depth least

-- a number from one to the greatest one
told_least : (w : Word) → ((n : ℕ) × IsNumber w n × (1 ≤ n) × (n ≤ most_number)) ⊎ ((n : ℕ) → IsNumber w n → 1 ≤ n → n ≤ most_number → ⊥)
told_least w = elim (told_up_to w most_number) [
  | inr never ↦ inr (λ n is some few. never n is few)
  | inl (n, is, few) ↦ elim (cases_lt 0 n) [
    | inr none ↦ inr (λ m is_m some _. omega (arith, IsNumber-once w n m is is_m))
    | inl some ↦ inl (n, is, some, few)
  ]
]

told_opening_numbers : (c r d m : Word) → ((shape : Shape) × (depth : ℕ) × (least : ℕ) × AreOpeningNumbers c r d m shape depth least) ⊎ ((shape : Shape) (depth least : ℕ) → AreOpeningNumbers c r d m shape depth least → ⊥)
told_opening_numbers c r d m = elim (told_side c) [
  | inr never ↦ inr (λ shape depth least h. never (cols_of shape) h.cols_are.0 shape.in_range.0)
  | inl (cols, cols_is, cols_side) ↦ elim (told_side r) [
    | inr never ↦ inr (λ shape depth least h. never (rows_of shape) h.rows_are.0 shape.in_range.1)
    | inl (rows, rows_is, rows_side) ↦ elim (told_up_to d most_moves) [
      | inr never ↦ inr (λ shape depth least h. never depth h.depth_is h.depth_bound)
      | inl (depth, depth_is, depth_bound) ↦ elim (told_least m) [
        | inr never ↦ inr (λ shape depth' least h. never least h.least_is h.some h.bound)
        | inl (least, least_is, some, bound) ↦
            let shape : Shape = record { cols = cols; rows = rows; in_range = (cols_side, rows_side) } in
            inl (
              shape,
              depth,
              least,
              record {
                cols_are = (cols_is, cols_side.0, cols_side.1);
                rows_are = (rows_is, rows_side.0, rows_side.1);
                depth_is = depth_is;
                depth_bound = depth_bound;
                least_is = least_is;
                some = some;
                bound = bound;
              },
            )
      ]
    ]
  ]
]

-- the same four words tell the same numbers
same_four : (c r d m a b e f : Word) (shape : Shape) (depth least : ℕ) → c ∷ r ∷ d ∷ m ∷ [] ≡ a ∷ b ∷ e ∷ f ∷ [] → AreOpeningNumbers a b e f shape depth least → AreOpeningNumbers c r d m shape depth least
same_four c r d m a b e f shape depth least both numbers =
    let behind : r ∷ d ∷ m ∷ [] ≡ b ∷ e ∷ f ∷ [] = same_rest c a (r ∷ d ∷ m ∷ []) (b ∷ e ∷ f ∷ []) both in
    let last : d ∷ m ∷ [] ≡ e ∷ f ∷ [] = same_rest r b (d ∷ m ∷ []) (e ∷ f ∷ []) behind in
    let end : m ∷ [] ≡ f ∷ [] = same_rest d e (m ∷ []) (f ∷ []) last in
    let first : c ≡ a = same_first c a (r ∷ d ∷ m ∷ []) (b ∷ e ∷ f ∷ []) both in
    let second : r ≡ b = same_first r b (d ∷ m ∷ []) (e ∷ f ∷ []) behind in
    let third : d ≡ e = same_first d e (m ∷ []) (f ∷ []) last in
    let fourth : m ≡ f = same_first m f [] [] end in
    subst (λ w. AreOpeningNumbers w r d m shape depth least) (sym first)
    (subst (λ w. AreOpeningNumbers a w d m shape depth least) (sym second)
    (subst (λ w. AreOpeningNumbers a b w m shape depth least) (sym third)
    (subst (λ w. AreOpeningNumbers a b e w shape depth least) (sym fourth) numbers)))

numbers_once : (c r d m : Word) (shape other : Shape) (depth deep least few : ℕ) → AreOpeningNumbers c r d m shape depth least → AreOpeningNumbers c r d m other deep few →
    (other ≡ shape) × (deep ≡ depth) × (few ≡ least)
numbers_once c r d m shape other depth deep least few one too = (
  shape_same other shape (IsNumber-once c _ _ too.cols_are.0 one.cols_are.0) (IsNumber-once r _ _ too.rows_are.0 one.rows_are.0),
  IsNumber-once d _ _ too.depth_is one.depth_is,
  IsNumber-once m _ _ too.least_is one.least_is,
)

pub told_opening : (words : List Word) → ((shape : Shape) × (depth : ℕ) × (least : ℕ) × SpellsOpening words shape depth least) ⊎ ((shape : Shape) (depth least : ℕ) → SpellsOpening words shape depth least → ⊥)
told_opening words = elim (told_four words) [
  | inr fewer ↦ inr (λ shape depth least (c, r, d, m, is, numbers). fewer c r d m is)
  | inl (c, r, d, m, is) ↦ elim (told_opening_numbers c r d m) [
    | inl (shape, depth, least, numbers) ↦ inl (shape, depth, least, (c, r, d, m, is, numbers))
    | inr never ↦ inr (λ shape depth least (a, b, e, f, too, numbers).
        never shape depth least (same_four c r d m a b e f shape depth least (sym is ∙ too) numbers))
  ]
]

-- words tell one opening at most
pub opening_once : (words : List Word) (shape other : Shape) (depth deep least few : ℕ) → SpellsOpening words shape depth least → SpellsOpening words other deep few →
    (other ≡ shape) × (deep ≡ depth) × (few ≡ least)
opening_once words shape other depth deep least few (c, r, d, m, is, numbers) (a, b, e, f, too, others) =
    numbers_once c r d m shape other depth deep least few numbers (same_four c r d m a b e f other deep few (sym is ∙ too) others)
