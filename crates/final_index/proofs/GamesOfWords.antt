-- The games that the words of planes hold.
use Rattle.std.proofs.Common.{◌≡◌, ◌≢◌, ℕ, ◌+◌, ◌-◌, ◌*◌, ◌%◌, ◌^◌, ◌<◌, ◌≤◌, ◌↔◌, inl, inr, nat_eq, List, [], ◌∷◌, ◌++◌, length, replicate, slice_index, get_or, Option, None, Some, refl, sym, ap, ap₂, ◌∙◌, subst, subst₂, arith, Contains, length-append, bit_or}
use Rattle.std.specs.Int.{bit_at, w64}
use Rattle.std.specs.List.Sorted.{IsStrictlyIncreasing}
use Rattle.std.specs.Option.{IsSomeAnd}
use Rattle.std.proofs.lemmas.List.{get_or_append_left, get_or-append_right, get_or-replicate, get_or_past, length-replicate, length_push}
use Rattle.std.proofs.Math.Seq.{get_or-append_seam}
use Rattle.std.proofs.lemmas.List.FromFn.{length-map-range_with_len, get_or-map-range_with_len, fill_by_all}
use Rattle.std.proofs.lemmas.Nat.Bits.{bit_at-zero, bit_at_set_same, bit_at_set_other}
use Rattle.std.proofs.lemmas.Bool.{cases_lt, cases_eq, eqb-true, eq-eqb, ne_eqb}
use Rattle.kb_geometry.specs.declared.shape.Shape.{Shape}
use Rattle.kb_geometry.specs.declared.stone.Cell.{Cell}
use Rattle.kb_geometry.specs.declared.stone.Cell.TheVariants as cell
use Rattle.kb_bits.specs.MemberLaws.{Contains-numbers_below, Contains-from_numbers_below, IsStrictlyIncreasing-numbers_below}
use Rattle.kb_bits.proofs.Ascending.{same_from_members}
use Rattle.final_index.specs.declared.ever_sets.EverSets.{EverSets}
use Rattle.final_index.specs.Ever.{set_of}
use Rattle.final_index.specs.Planes.{HadThere, PlaneGames}
use Rattle.final_index.specs.PlaneWords.{HaveBitsOfBoth, ArePlaneWords, AreSetsNoted, HasBitsOfBoth, bit_in, start_of, game_in, games_of_words, points_with}

-- each of the words is 0
zero_words : (n k : ℕ) → slice_index (replicate n 0) k ≡ 0
zero_words n k = elim (cases_lt k n) [ inl lt ↦ get_or-replicate n k 0 0 lt | inr le ↦ get_or_past (replicate n 0) k 0 (simp length-replicate le) ]

-- ---- the points of a game

module _ (points : ℕ) (words : List ℕ) (g : ℕ) (stone : Cell) where
  pub Contains-points_with : (p : ℕ) → Contains (points_with points words g stone) p ↔ ((p < points) × (bit_in points words g stone p ≡ 1))
  unfolding points_with
  Contains-points_with p = (
    λ h. let k = Contains-from_numbers_below points (λ p. nat_eq (bit_in points words g stone p) 1) p h in (k.0, eqb-true (bit_in points words g stone p) 1 k.1),
    λ h. Contains-numbers_below points (λ p. nat_eq (bit_in points words g stone p) 1) p h.0 (eq-eqb (bit_in points words g stone p) 1 h.1),
  )

  IsStrictlyIncreasing-points_with : IsStrictlyIncreasing (points_with points words g stone)
  unfolding points_with
  IsStrictlyIncreasing-points_with = IsStrictlyIncreasing-numbers_below points (λ p. nat_eq (bit_in points words g stone p) 1)

  points_with-is : (xs : List ℕ) → IsStrictlyIncreasing xs → ((p : ℕ) → Contains xs p ↔ ((p < points) × (bit_in points words g stone p ≡ 1))) → points_with points words g stone ≡ xs
  points_with-is xs up same = same_from_members (points_with points words g stone) xs IsStrictlyIncreasing-points_with up
      (λ p. let here = Contains-points_with p in (λ h. (same p).1 (here.0 h), λ h. here.1 ((same p).0 h)))

-- ---- one game

-- the sets whose points have the game's bits
abbrev sets_in : ℕ → List ℕ → ℕ → EverSets
sets_in points words g = record {
  black = points_with points words g cell.Black;
  white = points_with points words g cell.White;
  empty = points_with points words g cell.Empty;
}

set_of-sets_in : (points : ℕ) (words : List ℕ) (g : ℕ) (stone : Cell) → set_of (sets_in points words g) stone ≡ points_with points words g stone
set_of-sets_in points words g cell.Empty = refl
set_of-sets_in points words g cell.Black = refl
set_of-sets_in points words g cell.White = refl

same_sets : (a b : EverSets) → ((stone : Cell) → set_of a stone ≡ set_of b stone) → a ≡ b
same_sets a b same =
    let black = same cell.Black in
    let white = same cell.White in
    let empty = same cell.Empty in
    subst₂ (λ (x y : List ℕ). a ≡ record { black = x; white = y; empty = b.empty }) black white (subst (λ (z : List ℕ). a ≡ record { black = a.black; white = a.white; empty = z }) empty refl)

module _ (points present : ℕ) (words : List ℕ) (g : ℕ) where
  game_in-present : bit_at present g ≡ 1 → game_in points present words g ≡ Some (sets_in points words g)
  unfolding game_in
  game_in-present e = rw (eq-eqb (bit_at present g) 1 e) refl

  game_in-absent : bit_at present g ≢ 1 → game_in points present words g ≡ None
  unfolding game_in
  game_in-absent ne = rw (ne_eqb (bit_at present g) 1 ne) refl

  -- the game with these sets
  game_in-is : bit_at present g ≡ 1 → (sets : EverSets) → ((stone : Cell) → IsStrictlyIncreasing (set_of sets stone)) →
      ((stone : Cell) (p : ℕ) → Contains (set_of sets stone) p ↔ ((p < points) × (bit_in points words g stone p ≡ 1))) → game_in points present words g ≡ Some sets
  game_in-is e sets up same = game_in-present e ∙ ap (λ (s : EverSets). Some s)
      (same_sets (sets_in points words g) sets (λ stone. set_of-sets_in points words g stone ∙ points_with-is points words g stone (set_of sets stone) (up stone) (same stone)))

  -- what is told of the game by its bits
  module _ (there : (k : ℕ) → bit_at (slice_index words k) g ≡ 1 → bit_at present g ≡ 1) (stone : Cell) (p : ℕ) (lt : p < points) where
    pub told_by_bit : (bit_in points words g stone p ≡ 1) ↔ IsSomeAnd (game_in points present words g) (λ sets. Contains (set_of sets stone) p)
    told_by_bit = (
      λ one.
          let is = game_in-present (there (start_of points stone + p) one) in
          let inside = (Contains-points_with points words g stone p).1 (lt, one) in
          subst (λ (game : Option EverSets). IsSomeAnd game (λ sets. Contains (set_of sets stone) p)) (sym is) (subst (λ (ns : List ℕ). Contains ns p) (sym (set_of-sets_in points words g stone)) inside),
      λ h. elim (cases_eq (bit_at present g) 1) [
        | inl e ↦
            let inside = subst (λ (game : Option EverSets). IsSomeAnd game (λ sets. Contains (set_of sets stone) p)) (game_in-present e) h in
            ((Contains-points_with points words g stone p).0 (subst (λ (ns : List ℕ). Contains ns p) (set_of-sets_in points words g stone) inside)).1
        | inr ne ↦ absurd (subst (λ (game : Option EverSets). IsSomeAnd game (λ sets. Contains (set_of sets stone) p)) (game_in-absent ne) h)
      ],
    )

-- games with the same bits are the same
module _ (points present : ℕ) (words : List ℕ) (g : ℕ) (present' : ℕ) (words' : List ℕ) (g' : ℕ) where
  game_in-same : (bit_at present g ≡ 1) ↔ (bit_at present' g' ≡ 1) → ((stone : Cell) (p : ℕ) → (bit_in points words g stone p ≡ 1) ↔ (bit_in points words' g' stone p ≡ 1)) →
      game_in points present words g ≡ game_in points present' words' g'
  game_in-same same bits =
      elim (cases_eq (bit_at present g) 1) [
        | inl e ↦ game_in-is points present words g e (sets_in points words' g')
            (λ stone. subst IsStrictlyIncreasing (sym (set_of-sets_in points words' g' stone)) (IsStrictlyIncreasing-points_with points words' g' stone))
            (λ stone p. subst (λ (ns : List ℕ). Contains ns p ↔ ((p < points) × (bit_in points words g stone p ≡ 1))) (sym (set_of-sets_in points words' g' stone))
            (let there = Contains-points_with points words' g' stone p in (
              λ h. ((there.0 h).0, (bits stone p).1 (there.0 h).1),
              λ h. there.1 (h.0, (bits stone p).0 h.1),
            )))
            ∙ sym (game_in-present points present' words' g' (same.0 e))
        | inr ne ↦ game_in-absent points present words g ne ∙ sym (game_in-absent points present' words' g' (λ e. ne (same.1 e)))
      ]

-- ---- the games

module _ (points present : ℕ) (words : List ℕ) (count : ℕ) where
  pub length-games_of_words : length (games_of_words points present words count) ≡ count
  unfolding games_of_words
  length-games_of_words = length-map-range_with_len (game_in points present words) 0 count

  games_of_words-at : (k : ℕ) (d : Option EverSets) → k < count → get_or (games_of_words points present words count) k d ≡ game_in points present words k
  unfolding games_of_words
  games_of_words-at k d lt = get_or-map-range_with_len (game_in points present words) 0 count k k d lt (omega arith)

  games_of_words-is : (games : List (Option EverSets)) → length games ≡ count → ((k : ℕ) → k < count → get_or games k None ≡ game_in points present words k) → games_of_words points present words count ≡ games
  unfolding games_of_words
  games_of_words-is games long all = sym (fill_by_all (game_in points present words) games count None long all)

-- ---- what the planes are seen as

pub same_view : (shape : Shape) (games games' : List (Option EverSets)) → games ≡ games' → ◌≡◌ {A = PlaneGames} (record { shape = shape; games = games }) (record { shape = shape; games = games' })
same_view shape games games' e = rw e refl

module _ (shape : Shape) (points present : ℕ) (words : List ℕ) (count : ℕ) (now : PlaneGames) (seen : ◌≡◌ {A = PlaneGames} (record { shape = shape; games = games_of_words points present words count }) now) where
  pub count-seen : count ≡ length now.games
  count-seen = sym (length-games_of_words points present words count) ∙ ap (λ (p : PlaneGames). length p.games) seen

  pub count-few : length now.games < 64 → count < 64
  count-few few = omega (arith, count-seen)

  pub push-seen : (game : Option EverSets) (games : List (Option EverSets)) → games ≡ games_of_words points present words count ++ game ∷ [] →
      ◌≡◌ {A = PlaneGames} (record { shape = shape; games = games }) (record { shape = now.shape; games = now.games ++ game ∷ [] })
  push-seen game games e = subst (λ (p : PlaneGames). ◌≡◌ {A = PlaneGames} (record { shape = shape; games = games }) (record { shape = p.shape; games = p.games ++ game ∷ [] })) seen (same_view shape games (games_of_words points present words count ++ game ∷ []) e)

  module _ (shape' : Shape) (points' present' : ℕ) (words' : List ℕ) (count' : ℕ) (other : PlaneGames) (seen' : ◌≡◌ {A = PlaneGames} (record { shape = shape'; games = games_of_words points' present' words' count' }) other) where
    pub count-both : length now.games + length other.games ≤ 64 → count + count' ≤ 64
    count-both few = omega (arith, count-seen, length-games_of_words points' present' words' count', ap (λ (p : PlaneGames). length p.games) seen')

    pub same-shape : now.shape ≡ other.shape → shape ≡ shape'
    same-shape e = ap (λ (p : PlaneGames). p.shape) seen ∙ e ∙ sym (ap (λ (p : PlaneGames). p.shape) seen')

    pub join-seen : (games : List (Option EverSets)) → games ≡ games_of_words points present words count ++ games_of_words points' present' words' count' →
        ◌≡◌ {A = PlaneGames} (record { shape = shape; games = games }) (record { shape = now.shape; games = now.games ++ other.games })
    join-seen games e = subst₂ (λ (p q : PlaneGames). ◌≡◌ {A = PlaneGames} (record { shape = shape; games = games }) (record { shape = p.shape; games = p.games ++ q.games })) seen seen' (same_view shape games (games_of_words points present words count ++ games_of_words points' present' words' count') e)

-- ---- what the functions make

-- no game is present
module _ (points count : ℕ) (few : count ≤ 64) (words : List ℕ) (none : words ≡ replicate (3 * points) 0) where
  no_bit : (k g : ℕ) → bit_at (slice_index words k) g ≡ 0
  no_bit k g = ap (λ (ws : List ℕ). bit_at (slice_index ws k) g) none ∙ ap (λ (w : ℕ). bit_at w g) (zero_words (3 * points) k) ∙ bit_at-zero g

  pub ArePlaneWords-none : ArePlaneWords points count 0 words
  ArePlaneWords-none = record {
    room = ap length none ∙ length-replicate {A = ℕ} (3 * points) 0;
    few = few;
    counted = λ g e. absurd (omega (arith, e, bit_at-zero g));
    of_present = λ k g e. absurd (omega (arith, e, no_bit k g));
  }

  pub games_of_words-none : games_of_words points 0 words count ≡ replicate count None
  games_of_words-none = games_of_words-is points 0 words count (replicate count None) (length-replicate {A = Option EverSets} count None)
      (λ k lt. get_or-replicate {A = Option EverSets} count k None None lt ∙ sym (game_in-absent points 0 words k (λ e. omega (arith, e, bit_at-zero k))))

module _ (points count present : ℕ) (words : List ℕ) (are : ArePlaneWords points count present words) where
  -- the bit of a game in a word tells whether it had the cell
  pub HadThere-bits : (g : ℕ) (stone : Cell) (p : ℕ) → p < points → (bit_in points words g stone p ≡ 1) ↔ HadThere (games_of_words points present words count) g stone p
  HadThere-bits g stone p lt =
      elim (cases_lt g count) [
        | inl below ↦ subst (λ (game : Option EverSets). (bit_in points words g stone p ≡ 1) ↔ IsSomeAnd game (λ sets. Contains (set_of sets stone) p)) (sym (games_of_words-at points present words count g None below))
            (told_by_bit points present words g (λ k. are.of_present k g) stone p lt)
        | inr past ↦
            let nothing = get_or_past (games_of_words points present words count) g None (omega (arith, length-games_of_words points present words count)) in (
              λ one. absurd (omega (arith, are.counted g (are.of_present (start_of points stone + p) g one))),
              λ h. absurd (subst (λ (game : Option EverSets). IsSomeAnd game (λ sets. Contains (set_of sets stone) p)) nothing h),
            )
      ]

  pub HadThere-seen : (shape : Shape) (now : PlaneGames) → ◌≡◌ {A = PlaneGames} (record { shape = shape; games = games_of_words points present words count }) now → (g : ℕ) (stone : Cell) (p : ℕ) → p < points →
      (word : ℕ) → slice_index words (start_of points stone + p) ≡ word → (bit_at word g ≡ 1) ↔ HadThere now.games g stone p
  HadThere-seen shape now seen g stone p lt word is =
      subst (λ (w : ℕ). (bit_at w g ≡ 1) ↔ HadThere now.games g stone p) is
      (subst (λ (v : PlaneGames). (bit_in points words g stone p ≡ 1) ↔ HadThere v.games g stone p) seen (HadThere-bits g stone p lt))

  -- a game behind that isn't on such a board
  module _ (room : count < 64) where
    pub ArePlaneWords-left_out : ArePlaneWords points (count + 1) present words
    ArePlaneWords-left_out = record {
      room = are.room;
      few = omega arith;
      counted = λ g e. omega (arith, are.counted g e);
      of_present = are.of_present;
    }

    pub games_of_words-left_out : games_of_words points present words (count + 1) ≡ games_of_words points present words count ++ None ∷ []
    games_of_words-left_out =
        let long = length-games_of_words points present words count in
        games_of_words-is points present words (count + 1) (games_of_words points present words count ++ None ∷ []) (length_push (games_of_words points present words count) None ∙ ap (λ (n : ℕ). n + 1) long)
        (λ k lt. elim (cases_lt k count) [
          | inl below ↦ get_or_append_left (games_of_words points present words count) (None ∷ []) None k (omega arith) ∙ games_of_words-at points present words count k None below
          | inr last ↦
              let here : length (games_of_words points present words count) ≡ k = omega arith in
              ap (λ (j : ℕ). get_or (games_of_words points present words count ++ None ∷ []) j None) (sym here) ∙ get_or-append_seam (games_of_words points present words count) None [] None
              ∙ sym (game_in-absent points present words k (λ e. omega (arith, are.counted k e)))
        ])

    -- a game behind with its sets
    module _ (sets : EverSets) (up : (stone : Cell) → IsStrictlyIncreasing (set_of sets stone)) (on_board : (stone : Cell) (p : ℕ) → Contains (set_of sets stone) p → p < points) (words' : List ℕ) (noted : AreSetsNoted points sets count words words') where
      abbrev pub present' : ℕ
      present' = bit_or present (1 * 2 ^ count % 2 ^ 64)

      present-now : bit_at present' count ≡ 1
      present-now = bit_at_set_same w64 present count room

      present-other : (g : ℕ) → g ≢ count → bit_at present' g ≡ bit_at present g
      present-other g other = bit_at_set_other w64 present count room g other

      still : (g : ℕ) → bit_at present g ≡ 1 → bit_at present' g ≡ 1
      still g e = elim (cases_eq g count) [ inl here ↦ ap (λ (j : ℕ). bit_at present' j) here ∙ present-now | inr other ↦ present-other g other ∙ e ]

      pub ArePlaneWords-added : ArePlaneWords points (count + 1) present' words'
      ArePlaneWords-added = record {
        room = noted.room ∙ are.room;
        few = omega arith;
        counted = λ g e. elim (cases_eq g count) [
          | inl here ↦ omega arith
          | inr other ↦ omega (arith, are.counted g (sym (present-other g other) ∙ e))
        ];
        of_present = λ k g e. elim ((noted.bits k g).0 e) [
          | inl was ↦ still g (are.of_present k g was)
          | inr now ↦ ap (λ (j : ℕ). bit_at present' j) now.0 ∙ present-now
        ];
      }

      -- an earlier game has the bits that it had
      earlier : (g : ℕ) → g < count → game_in points present words g ≡ game_in points present' words' g
      earlier g lt = game_in-same points present words g present' words' g
          (let same = present-other g (λ e. omega arith) in (λ e. same ∙ e, λ e. sym same ∙ e))
          (λ stone p. (
            λ e. (noted.bits (start_of points stone + p) g).1 (inl e),
            λ e. elim ((noted.bits (start_of points stone + p) g).0 e) [ inl was ↦ was | inr now ↦ absurd (omega (arith, now.0)) ],
          ))

      same_place : (c d : Cell) (p q : ℕ) → p < points → q < points → start_of points c + p ≡ start_of points d + q → (c ≡ d) × (p ≡ q)
      same_place cell.Empty cell.Empty p q one other e = (refl, omega arith)
      same_place cell.Empty cell.Black p q one other e = absurd (omega arith)
      same_place cell.Empty cell.White p q one other e = absurd (omega arith)
      same_place cell.Black cell.Empty p q one other e = absurd (omega arith)
      same_place cell.Black cell.Black p q one other e = (refl, omega arith)
      same_place cell.Black cell.White p q one other e = absurd (omega arith)
      same_place cell.White cell.Empty p q one other e = absurd (omega arith)
      same_place cell.White cell.Black p q one other e = absurd (omega arith)
      same_place cell.White cell.White p q one other e = (refl, omega arith)

      -- the bits of the new game are the points of its sets
      added_bits : (stone : Cell) (p : ℕ) → Contains (set_of sets stone) p ↔ ((p < points) × (bit_in points words' count stone p ≡ 1))
      added_bits stone p = (
        λ h. let lt = on_board stone p h in (lt, (noted.bits (start_of points stone + p) count).1 (inr (refl, (stone, (p, lt, h, refl))))),
        λ h. elim ((noted.bits (start_of points stone + p) count).0 h.1) [
          | inl was ↦ absurd (omega (arith, are.counted count (are.of_present (start_of points stone + p) count was)))
          | inr now ↦
              let place = same_place stone now.1.0 p now.1.1.0 h.0 now.1.1.1 now.1.1.3 in
              subst₂ (λ (c : Cell) (q : ℕ). Contains (set_of sets c) q) (sym place.0) (sym place.1) now.1.1.2
        ],
      )

      pub games_of_words-added : games_of_words points present' words' (count + 1) ≡ games_of_words points present words count ++ Some sets ∷ []
      games_of_words-added =
          let long = length-games_of_words points present words count in
          games_of_words-is points present' words' (count + 1) (games_of_words points present words count ++ Some sets ∷ []) (length_push (games_of_words points present words count) (Some sets) ∙ ap (λ (n : ℕ). n + 1) long)
          (λ k lt. elim (cases_lt k count) [
            | inl below ↦ get_or_append_left (games_of_words points present words count) (Some sets ∷ []) None k (omega arith) ∙ games_of_words-at points present words count k None below ∙ earlier k below
            | inr last ↦
                let here : length (games_of_words points present words count) ≡ k = omega arith in
                let at : count ≡ k = omega arith in
                ap (λ (j : ℕ). get_or (games_of_words points present words count ++ Some sets ∷ []) j None) (sym here) ∙ get_or-append_seam (games_of_words points present words count) (Some sets) [] None
                ∙ sym (game_in-is points present' words' count present-now sets up added_bits) ∙ ap (game_in points present' words') at
          ])

-- ---- the games of two

module _ (points count present : ℕ) (words : List ℕ) (are : ArePlaneWords points count present words) (count' present' : ℕ) (words' : List ℕ) (are' : ArePlaneWords points count' present' words') (few : count + count' ≤ 64)
    (both : ℕ) (joined : HasBitsOfBoth present present' count both) (words'' : List ℕ) (all : HaveBitsOfBoth words words' count words'') (long : length words'' ≡ length words) where
  pub ArePlaneWords-joined : ArePlaneWords points (count + count') both words''
  ArePlaneWords-joined = record {
    room = long ∙ are.room;
    few = few;
    counted = λ g e. elim ((joined g).0 e) [
      | inl one ↦ omega (arith, are.counted g one)
      | inr at ↦ omega (arith, at.1, are'.counted at.0 at.2)
    ];
    of_present = λ k g e. elim ((all k g).0 e) [
      | inl one ↦ (joined g).1 (inl (are.of_present k g one))
      | inr at ↦ (joined g).1 (inr (at.0, at.1, are'.of_present k at.0 at.2))
    ];
  }

  of_first : (g : ℕ) → g < count → game_in points present words g ≡ game_in points both words'' g
  of_first g lt = game_in-same points present words g both words'' g
      (λ e. (joined g).1 (inl e), λ e. elim ((joined g).0 e) [ inl one ↦ one | inr at ↦ absurd (omega (arith, at.1)) ])
      (λ stone p. (
        λ e. (all (start_of points stone + p) g).1 (inl e),
        λ e. elim ((all (start_of points stone + p) g).0 e) [ inl one ↦ one | inr at ↦ absurd (omega (arith, at.1)) ],
      ))

  module _ (g i : ℕ) (at : g ≡ i + count) where
    second_bit : (k : ℕ) → bit_at (slice_index words'' k) g ≡ 1 → bit_at (slice_index words' k) i ≡ 1
    second_bit k e =
        elim ((all k g).0 e) [
          | inl one ↦ absurd (omega (arith, are.counted g (are.of_present k g one)))
          | inr there ↦ let same : there.0 ≡ i = omega (arith, there.1) in subst (λ (j : ℕ). bit_at (slice_index words' k) j ≡ 1) same there.2
        ]

    second_present : bit_at both g ≡ 1 → bit_at present' i ≡ 1
    second_present e =
        elim ((joined g).0 e) [
          | inl one ↦ absurd (omega (arith, are.counted g one))
          | inr there ↦ let same : there.0 ≡ i = omega (arith, there.1) in subst (λ (j : ℕ). bit_at present' j ≡ 1) same there.2
        ]

    of_second : game_in points present' words' i ≡ game_in points both words'' g
    of_second = game_in-same points present' words' i both words'' g
        (λ e. (joined g).1 (inr (i, at, e)), second_present)
        (λ stone p. (λ e. (all (start_of points stone + p) g).1 (inr (i, at, e)), second_bit (start_of points stone + p)))

  pub games_of_words-joined : games_of_words points both words'' (count + count') ≡ games_of_words points present words count ++ games_of_words points present' words' count'
  games_of_words-joined =
      let first = length-games_of_words points present words count in
      let second = length-games_of_words points present' words' count' in
      games_of_words-is points both words'' (count + count') (games_of_words points present words count ++ games_of_words points present' words' count')
      (length-append (games_of_words points present words count) (games_of_words points present' words' count') ∙ ap₂ (λ (m n : ℕ). m + n) first second)
      (λ k lt. elim (cases_lt k count) [
        | inl below ↦ get_or_append_left (games_of_words points present words count) (games_of_words points present' words' count') None k (omega arith) ∙ games_of_words-at points present words count k None below ∙ of_first k below
        | inr from ↦ get_or-append_right (games_of_words points present words count) (games_of_words points present' words' count') count k None first from
            ∙ games_of_words-at points present' words' count' (k - count) None (omega arith) ∙ of_second k (k - count) (omega arith)
      ])

pub ascend-all : (sets : EverSets) → IsStrictlyIncreasing sets.empty → IsStrictlyIncreasing sets.black → IsStrictlyIncreasing sets.white → (stone : Cell) → IsStrictlyIncreasing (set_of sets stone)
ascend-all sets empty black white cell.Empty = empty
ascend-all sets empty black white cell.Black = black
ascend-all sets empty black white cell.White = white
