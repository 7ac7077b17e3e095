-- The placements of each class in a list of their own.
use Rattle.std.proofs.Common.{◌≡◌, ◌≢◌, ℕ, ◌+◌, ◌<◌, ◌≤◌, ◌++◌, ◌∷◌, [], List, Global, Vec, get_or, length, map, slice_index, slice_set, sym, ap, ◌∙◌, subst, arith, inl, inr}
use Rattle.std.proofs.Math.Seq.{get_or-append_seam}
use Rattle.std.proofs.lemmas.Bool.{cases_eq, cases_lt}
use Rattle.std.proofs.lemmas.List.{get_or_append_left, get_or_default, get_or_past, get_or-map, get_or-set_other, get_or-set_same, length-map, length_push, map-append, map-set}
use Rattle.pattern_images.specs.ImageList.{AreDistinct, ImageList}
use Rattle.ready_images.specs.Placing.{AreByClass, AreOfClass, ArePlacedTo, list_at}
use Rattle.ready_images.specs.Rows.{HasClass}
use Rattle.ready_images.proofs.PlacementLists.{class-once, placed-more}

-- the lists that vectors hold
abbrev pub lists_of : List (Vec ℕ Global) → List (List ℕ)
lists_of vecs = map (λ (v : Vec ℕ Global). v.items) vecs

-- ---- one list for each class

module _ (vecs : List (Vec ℕ Global)) (at : ℕ) (v : Vec ℕ Global) where
  pub list_at-set_same : at < length vecs → list_at (lists_of (slice_set vecs at v)) at ≡ v.items
  list_at-set_same lt =
      ap (λ (ls : List (List ℕ)). list_at ls at) (map-set (λ (w : Vec ℕ Global). w.items) vecs at v)
      ∙ get_or-set_same (lists_of vecs) at v.items [] (omega (arith, lt, length-map vecs (λ (w : Vec ℕ Global). w.items)))

  pub list_at-set_other : (c : ℕ) → c ≢ at → list_at (lists_of (slice_set vecs at v)) c ≡ list_at (lists_of vecs) c
  list_at-set_other c other =
      ap (λ (ls : List (List ℕ)). list_at ls c) (map-set (λ (w : Vec ℕ Global). w.items) vecs at v)
      ∙ get_or-set_other (lists_of vecs) at c v.items [] other

  pub list_at-read : at < length vecs → v ≡ get_or vecs at v → v.items ≡ list_at (lists_of vecs) at
  list_at-read lt is = ap (λ (w : Vec ℕ Global). w.items) is ∙ sym (get_or-map (λ (w : Vec ℕ Global). w.items) vecs at v [] lt)

-- one empty list more
pub empty-more : (vecs : List (Vec ℕ Global)) (v : Vec ℕ Global) → v.items ≡ [] → ((c : ℕ) → list_at (lists_of vecs) c ≡ []) → (c : ℕ) → list_at (lists_of (vecs ++ v ∷ [])) c ≡ []
empty-more vecs v none before c =
    let lists = lists_of vecs in
    let all : list_at (lists_of (vecs ++ v ∷ [])) c ≡ get_or (lists ++ v.items ∷ []) c [] = ap (λ (ls : List (List ℕ)). list_at ls c) (map-append (λ (w : Vec ℕ Global). w.items) vecs (v ∷ [])) in
    elim (cases_lt c (length lists)) [
      | inl below ↦ all ∙ get_or_append_left lists (v.items ∷ []) [] c below ∙ before c
      | inr from ↦ elim (cases_eq c (length lists)) [
        | inl same ↦ all ∙ ap (λ (k : ℕ). get_or (lists ++ v.items ∷ []) k []) same ∙ get_or-append_seam lists v.items [] [] ∙ none
        | inr other ↦ all ∙ get_or_past (lists ++ v.items ∷ []) c [] (omega (arith, from, other, length_push lists v.items))
      ]
    ]

module _ (images : ImageList) where
  -- no placement yet
  pub by_class-start : (lists : List (List ℕ)) → ((c : ℕ) → list_at lists c ≡ []) → AreByClass images 0 lists
  by_class-start lists none class lt = subst (AreOfClass images class 0) (sym (none class)) (record {
    sound = λ k below. absurd (omega (arith, below));
    complete = λ i below. absurd (omega (arith, below));
    ascending = λ j k less below. absurd (omega (arith, below));
  })

  module _ (different : AreDistinct images.grids) (i c : ℕ) (has : HasClass images i c) where
    -- a placement of another class
    of_class-other : (class : ℕ) (list : List ℕ) → class ≢ c → AreOfClass images class i list → AreOfClass images class (i + 1) list
    of_class-other class list other are = record {
      sound = λ k lt. let h = are.sound k lt in (omega (arith, h.0), h.1);
      complete = λ j lt is. elim (cases_lt j i) [
        | inl below ↦ are.complete j below is
        | inr from ↦
            let same : j ≡ i = omega (arith, lt, from) in
            absurd (other (class-once images different i class c (subst (λ (n : ℕ). HasClass images n class) same is) has))
      ];
      ascending = are.ascending;
    }

    -- a placement of the class
    module _ (list : List ℕ) (are : AreOfClass images c i list) where
      abbrev more : List ℕ
      more = list ++ i ∷ []

      low : (k : ℕ) → k < length list → slice_index more k ≡ slice_index list k
      low k lt = get_or_append_left list (i ∷ []) 0 k lt

      top : slice_index more (length list) ≡ i
      top = get_or-append_seam list i [] 0

      of_class-more : AreOfClass images c (i + 1) more
      of_class-more = record {
        sound = λ k lt. elim (cases_lt k (length list)) [
          | inl below ↦
              let h = are.sound k below in
              subst (λ (n : ℕ). (n < i + 1) × HasClass images n c) (sym (low k below)) (omega (arith, h.0), h.1)
          | inr from ↦
              let same : length list ≡ k = omega (arith, lt, from, length_push list i) in
              subst (λ (m : ℕ). (slice_index more m < i + 1) × HasClass images (slice_index more m) c) same
              (subst (λ (n : ℕ). (n < i + 1) × HasClass images n c) (sym top) (omega arith, has))
        ];
        complete = λ j lt is. elim (cases_lt j i) [
          | inl below ↦ let h = are.complete j below is in (h.0, omega (arith, h.1, length_push list i), low h.0 h.1 ∙ h.2)
          | inr from ↦
              let same : i ≡ j = omega (arith, lt, from) in
              (length list, omega (arith, length_push list i), top ∙ same)
        ];
        ascending = λ j k less lt. elim (cases_lt k (length list)) [
          | inl below ↦
              let before = low j (omega (arith, less, below)) in
              omega (arith, are.ascending j k less below, before, low k below)
          | inr from ↦
              let same : length list ≡ k = omega (arith, lt, from, length_push list i) in
              let inside : j < length list = omega (arith, less, same) in
              let here : slice_index more k ≡ i = subst (λ (m : ℕ). slice_index more m ≡ i) same top in
              omega (arith, (are.sound j inside).0, low j inside, here)
        ];
      }

    -- one placement more, in the list of its class
    pub by_class-more : (lists new : List (List ℕ)) → AreByClass images i lists → list_at new c ≡ list_at lists c ++ i ∷ [] → ((d : ℕ) → d ≢ c → list_at new d ≡ list_at lists d) → AreByClass images (i + 1) new
    by_class-more lists new are here others class lt = elim (cases_eq class c) [
      | inl same ↦
          let own = of_class-more (list_at lists c) (are c has.in_range) in
          subst (λ (d : ℕ). AreOfClass images d (i + 1) (list_at new d)) (sym same) (subst (AreOfClass images c (i + 1)) (sym here) own)
      | inr other ↦ subst (AreOfClass images class (i + 1)) (sym (others class other)) (of_class-other class (list_at lists class) other (are class lt))
    ]

-- ---- the placements of a class, one after another

module _ (images : ImageList) (class : ℕ) (list : List ℕ) (of_class : AreOfClass images class (length images.placements) list) where
  -- the number with this place in the list; behind the list how many placements there are
  abbrev pub number_at : ℕ → ℕ
  number_at k = get_or list k (length images.placements)

  -- where no placement of the class stands between
  placed-on : (a b : ℕ) (numbers : List ℕ) → a ≤ b → ((i : ℕ) → a ≤ i → i < b → i < length images.placements → HasClass images i class → ⊥) → ArePlacedTo images class a numbers → ArePlacedTo images class b numbers
  placed-on a b numbers le none are = record {
    sound = λ k lt.
        let h = are.sound k lt in
        (h.0, (h.1.0, h.1.1, elim h.1.2 [ inl less ↦ inl less | inr here ↦ inr (here.0, omega (arith, here.1, le)) ]));
    complete = λ i c lt has before. elim before [
      | inl less ↦ are.complete i c lt has (inl less)
      | inr here ↦ elim (cases_lt i a) [
        | inl below ↦ are.complete i c lt has (inr (here.0, below))
        | inr from ↦ absurd (none i from here.1 lt (subst (HasClass images i) here.0 has))
      ]
    ];
    once = are.once;
  }

  inside : (k : ℕ) → k < length list → number_at k ≡ slice_index list k
  inside k lt = get_or_default list k (length images.placements) 0 lt

  at-most : (m k : ℕ) → m ≤ k → k < length list → slice_index list m ≤ slice_index list k
  at-most m k le lt = elim (cases_eq m k) [
    | inl same ↦ omega (arith, ap (λ (n : ℕ). slice_index list n) same)
    | inr other ↦ omega (arith, of_class.ascending m k (omega (arith, le, other)) lt)
  ]

  -- what is in the list before a place is less than the number there
  before-next : (m k : ℕ) → m < length list → slice_index list m < number_at k → m < k
  before-next m k lt less = elim (cases_lt m k) [
    | inl below ↦ below
    | inr from ↦ absurd (omega (arith, less, inside k (omega (arith, lt, from)), at-most k m from lt))
  ]

  -- no placement yet
  pub placed-first : (numbers : List ℕ) → ArePlacedTo images class 0 numbers → ArePlacedTo images class (number_at 0) numbers
  placed-first numbers are = placed-on 0 (number_at 0) numbers (omega arith)
      (λ i from below lt has. let h = of_class.complete i lt has in absurd (omega (arith, before-next h.0 0 h.1 (omega (arith, h.2, below)))))
      are

  next-behind : (k i : ℕ) → k < length list → i ≡ slice_index list k → i + 1 ≤ number_at (k + 1)
  next-behind k i lt is = elim (cases_lt (k + 1) (length list)) [
    | inl more ↦ omega (arith, of_class.ascending k (k + 1) (omega arith) more, is, inside (k + 1) more)
    | inr last ↦ omega (arith, (of_class.sound k lt).0, is, get_or_past list (k + 1) (length images.placements) last)
  ]

  -- the next placement
  pub placed-then : (different : AreDistinct images.grids) (k i : ℕ) (numbers : List ℕ) → k < length list → i ≡ slice_index list k → ArePlacedTo images class (number_at k) numbers → ArePlacedTo images class (number_at (k + 1)) (numbers ++ i ∷ [])
  placed-then different k i numbers lt is are =
      let told = of_class.sound k lt in
      let there : number_at k ≡ i = inside k lt ∙ sym is in
      let below : i < length images.placements = omega (arith, told.0, is) in
      let has : HasClass images i class = subst (λ (n : ℕ). HasClass images n class) (sym is) told.1 in
      let more = placed-more images different class i numbers (subst (λ (n : ℕ). ArePlacedTo images class n numbers) there are) below has in
      placed-on (i + 1) (number_at (k + 1)) (numbers ++ i ∷ []) (next-behind k i lt is)
      (λ j from less within own.
      let h = of_class.complete j within own in
      let early : h.0 < k + 1 = before-next h.0 (k + 1) h.1 (omega (arith, h.2, less)) in
      absurd (omega (arith, at-most h.0 k (omega (arith, early)) lt, h.2, is, from)))
      more
