-- The corners that placements cover, in order.
use Rattle.std.proofs.Common.{◌≡◌, ℕ, ◌+◌, ◌-◌, ◌<◌, ◌≤◌, ◌++◌, ◌∷◌, [], List, length, get_or, drop, refl, sym, ◌∙◌, ap, subst, arith, inl, inr}
use Rattle.std.specs.Prelude.{Any, slice_range}
use Rattle.std.specs.List.Sorted.{IsNonDecreasingBy}
use Rattle.std.proofs.lemmas.Bool.{cases_eq, cases_lt}
use Rattle.std.proofs.lemmas.List.{get_or_append_left, get_or_default, get_or_push, get_or-drop, get_or-take, length-drop, length-take-le, length_push}
use Rattle.std.proofs.lemmas.List.Elements.{All-nil, All-push, All-weaker}
use Rattle.std.proofs.lemmas.List.Quantifiers.{all_pairs_push}
use Rattle.pattern_images.specs.ImageList.{ImageList, placement_at}
use Rattle.ready_images.specs.declared.corner_number.CornerNumber.{CornerNumber}
use Rattle.ready_images.specs.Corners.{AreCornersOf, CoversCorner, HasCorners, IsCornerNumber}
use Rattle.ready_images.specs.StoredCorners.{AreCornersTo, IsBefore, IsCornerOf, IsOf, StandsBefore, corner_at, no_corner}

Any-kept : {X : Type 0} (P : X → Type 0) (xs : List X) (y : X) → Any P xs → Any P (xs ++ y ∷ [])
Any-kept P xs y (k, x, below, is, holds) = (k, x, omega (arith, below, length_push xs y), get_or_append_left xs (y ∷ []) x k below ∙ is, holds)

Any-last : {X : Type 0} (P : X → Type 0) (xs : List X) (y : X) → P y → Any P (xs ++ y ∷ [])
Any-last P xs y holds = (length xs, y, omega (arith, length_push xs y), get_or_push xs y y (length xs) refl, holds)

module _ (images : ImageList) where
  -- a board without corners has none that is covered
  pub corners-none : (count : ℕ) → ¬ HasCorners images.shape → AreCornersTo images count 0 []
  corners-none count none = record {
    sound = All-nil (IsCornerOf images);
    before = All-nil (λ (c : CornerNumber). IsBefore count 0 c.placement c.corner);
    complete = λ i corner early few sides covers. absurd (none sides);
    ordered = λ i j d less lt. absurd (omega (arith, lt));
  }

  pub corners-start : AreCornersTo images 0 0 []
  corners-start = record {
    sound = All-nil (IsCornerOf images);
    before = All-nil (λ (c : CornerNumber). IsBefore 0 0 c.placement c.corner);
    complete = λ i corner early few sides covers. elim early [ inl less ↦ absurd (omega (arith, less)) | inr here ↦ absurd (omega (arith, here.1)) ];
    ordered = λ i j d less lt. absurd (omega (arith, lt));
  }

  module _ (count next : ℕ) (corners : List CornerNumber) (are : AreCornersTo images count next corners) where
    -- on to a later corner, where none between is covered
    corners-on : (count' next' : ℕ) → ((i corner : ℕ) → IsBefore count next i corner → IsBefore count' next' i corner) →
        ((i corner : ℕ) → IsBefore count' next' i corner → corner < 4 → CoversCorner images.shape (placement_at images.placements i) corner → IsBefore count next i corner) →
        AreCornersTo images count' next' corners
    corners-on count' next' on back = record {
      sound = are.sound;
      before = All-weaker (λ (c : CornerNumber). IsBefore count next c.placement c.corner) (λ (c : CornerNumber). IsBefore count' next' c.placement c.corner) (λ c early. on c.placement c.corner early) corners are.before;
      complete = λ i corner early few sides covers. are.complete i corner (back i corner early few covers) few sides covers;
      ordered = are.ordered;
    }

    before-more : (i corner : ℕ) → IsBefore count next i corner → IsBefore count (next + 1) i corner
    before-more i corner (inl less) = inl less
    before-more i corner (inr here) = inr (here.0, omega (arith, here.1))

    -- the next corner isn't covered
    pub corners-skip : ¬ CoversCorner images.shape (placement_at images.placements count) next → AreCornersTo images count (next + 1) corners
    corners-skip open_here =
        corners-on count (next + 1) before-more
        (λ i corner early few covers. elim early [
          | inl less ↦ inl less
          | inr here ↦ elim (cases_lt corner next) [
            | inl lower ↦ inr (here.0, lower)
            | inr from ↦
                let same : corner ≡ next = omega (arith, here.1, from) in
                absurd (open_here (subst (λ (n : ℕ). CoversCorner images.shape (placement_at images.placements count) n) same (subst (λ (n : ℕ). CoversCorner images.shape (placement_at images.placements n) corner) here.0 covers)))
          ]
        ])

    -- no corner from this one on is covered, or there is none
    pub corners-next : ((corner : ℕ) → next ≤ corner → corner < 4 → ¬ CoversCorner images.shape (placement_at images.placements count) corner) → AreCornersTo images (count + 1) 0 corners
    corners-next open_here =
        corners-on (count + 1) 0
        (λ i corner early. elim early [ inl less ↦ inl (omega (arith, less)) | inr here ↦ inl (omega (arith, here.0)) ])
        (λ i corner early few covers. elim early [
          | inr here ↦ absurd (omega (arith, here.1))
          | inl less ↦ elim (cases_lt i count) [
            | inl lower ↦ inl lower
            | inr from ↦
                let same : i ≡ count = omega (arith, less, from) in
                elim (cases_lt corner next) [
                  | inl earlier ↦ inr (same, earlier)
                  | inr later ↦ absurd (open_here corner later few (subst (λ (n : ℕ). CoversCorner images.shape (placement_at images.placements n) corner) same covers))
                ]
          ]
        ])

    -- the next corner is covered
    pub corners-more : (c : CornerNumber) → c.placement ≡ count → c.corner ≡ next → count < length images.placements → IsCornerNumber images.shape (placement_at images.placements count) next c.number → AreCornersTo images count (next + 1) (corners ++ c ∷ [])
    corners-more c of at in_range is =
        let own : IsCornerOf images c = record {
          in_range = omega (arith, of, in_range);
          is = subst (λ (n : ℕ). IsCornerNumber images.shape (placement_at images.placements n) c.corner c.number) (sym of) (subst (λ (n : ℕ). IsCornerNumber images.shape (placement_at images.placements count) n c.number) (sym at) is);
        } in
        record {
          sound = All-push (IsCornerOf images) corners c are.sound own;
          before = All-push (λ (d : CornerNumber). IsBefore count (next + 1) d.placement d.corner) corners c
              (All-weaker (λ (d : CornerNumber). IsBefore count next d.placement d.corner) (λ (d : CornerNumber). IsBefore count (next + 1) d.placement d.corner) (λ d early. before-more d.placement d.corner early) corners are.before)
              (inr (of, omega (arith, at)));
          complete = λ i corner early few sides covers.
              let old : IsBefore count next i corner → Any (IsOf i corner) (corners ++ c ∷ []) = λ e. Any-kept (IsOf i corner) corners c (are.complete i corner e few sides covers) in
              elim early [
                | inl less ↦ old (inl less)
                | inr here ↦ elim (cases_lt corner next) [
                  | inl lower ↦ old (inr (here.0, lower))
                  | inr from ↦ Any-last (IsOf i corner) corners c (of ∙ sym here.0, omega (arith, at, here.1, from))
                ]
              ];
          ordered = all_pairs_push StandsBefore corners c are.ordered
              (λ k d lt. elim (are.before k d lt) [
                | inl less ↦ inl (omega (arith, less, of))
                | inr here ↦ inr (here.0 ∙ sym of, omega (arith, here.1, at))
              ]);
        }

-- ---- those of one placement

pub corners-rise : (images : ImageList) (count next : ℕ) (corners : List CornerNumber) → AreCornersTo images count next corners → IsNonDecreasingBy (λ (c : CornerNumber). c.placement) corners
corners-rise images count next corners are i j d le lt = elim (cases_eq i j) [
  | inl same ↦ omega (arith, ap (λ (k : ℕ). (get_or corners k d).placement) same)
  | inr other ↦ elim (are.ordered i j d (omega (arith, le, other)) lt) [
    | inl less ↦ omega (arith, less)
    | inr here ↦ omega (arith, here.0)
  ]
]

-- where the corners of a placement begin, and where those of the next one do
pub bounds-ordered : (corners : List CornerNumber) (i first end : ℕ) → first ≤ length corners → ((k : ℕ) → k < first → (corner_at corners k).placement < i) → ((k : ℕ) → end ≤ k → k < length corners → i + 1 ≤ (corner_at corners k).placement) → first ≤ end
bounds-ordered corners i first end most lower above = elim (cases_lt end first) [
  | inl less ↦ absurd (omega (arith, lower end less, above end (omega arith) (omega (arith, less, most))))
  | inr from ↦ from
]

module _ (images : ImageList) (corners : List CornerNumber) (are : AreCornersTo images (length images.placements) 0 corners) (i first end : ℕ) (in_range : i < length images.placements)
    (lower : (k : ℕ) → k < first → (corner_at corners k).placement < i) (from : (k : ℕ) → first ≤ k → k < length corners → i ≤ (corner_at corners k).placement)
    (before : (k : ℕ) → k < end → (corner_at corners k).placement < i + 1) (above : (k : ℕ) → end ≤ k → k < length corners → i + 1 ≤ (corner_at corners k).placement)
    (most : end ≤ length corners) where
  abbrev part : List CornerNumber
  part = slice_range corners first end

  part-length : length part ≡ end - first
  part-length = length-take-le (end - first) (drop first corners) (omega (arith, most, length-drop first corners))

  part-read : (k : ℕ) (d : CornerNumber) → k < end - first → get_or part k d ≡ get_or corners (first + k) d
  part-read k d lt = get_or-take (end - first) (drop first corners) k d lt ∙ get_or-drop first corners k d

  pub corners-of_one : AreCornersOf images i part
  corners-of_one = record {
    sound = λ k d lt.
        let inside : k < end - first = omega (arith, lt, part-length) in
        let at : first + k < length corners = omega (arith, inside, most) in
        let c : CornerNumber = get_or corners (first + k) d in
        let default : get_or corners (first + k) d ≡ corner_at corners (first + k) = get_or_default corners (first + k) d no_corner at in
        let same : (get_or corners (first + k) d).placement ≡ i = omega (arith, from (first + k) (omega arith) at, before (first + k) (omega (arith, inside)), ap (λ (x : CornerNumber). x.placement) default) in
        let own = are.sound (first + k) d at in
        subst (λ (x : CornerNumber). (x.placement ≡ i) × IsCornerNumber images.shape (placement_at images.placements i) x.corner x.number) (sym (part-read k d inside))
        (same, subst (λ (n : ℕ). IsCornerNumber images.shape (placement_at images.placements n) (get_or corners (first + k) d).corner (get_or corners (first + k) d).number) same own.is);
    complete = λ corner few sides covers.
        let (k, c, lt, is, of) = are.complete i corner (inl in_range) few sides covers in
        let default : corner_at corners k ≡ c = get_or_default corners k no_corner c lt ∙ is in
        let placement : (corner_at corners k).placement ≡ i = ap (λ (x : CornerNumber). x.placement) default ∙ of.0 in
        let behind : first ≤ k = elim (cases_lt k first) [ inl less ↦ absurd (omega (arith, lower k less, placement)) | inr ge ↦ ge ] in
        let early : k < end = elim (cases_lt k end) [ inl less ↦ less | inr ge ↦ absurd (omega (arith, above k ge lt, placement)) ] in
        let inside : k - first < end - first = omega (arith, behind, early) in
        let seat : first + (k - first) ≡ k = omega (arith, behind) in
        (k - first, c, omega (arith, inside, part-length), part-read (k - first) c inside ∙ ap (λ (n : ℕ). get_or corners n c) seat ∙ is, of.1);
  }
