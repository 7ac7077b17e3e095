-- The numbers of made games in pieces.
use Prim.Native.Nat.{zero}
use Rattle.std.proofs.Common.{◌≡◌, ℕ, ◌+◌, ◌-◌, ◌<◌, ◌≤◌, suc, List, [], ◌∷◌, ◌++◌, All, length, length-append, map, append_assoc, append-nil, refl, sym, ◌∙◌, ap, subst, arith}
use Rattle.std.proofs.lemmas.List.{map-append}
use Rattle.std.proofs.lemmas.List.Concat.{flat_map-append}
use Rattle.std.proofs.lemmas.List.Elements.{All-nil, All-push}
use Rattle.std.proofs.lemmas.List.FromFn.{length-map-range_with_len, map-range_with_len_more}
use Rattle.std.specs.List.{flat_map, range_with_len}
use Rattle.game_tree.specs.Tree.{Tree}
use Rattle.made_games.specs.Made.{made_tree}
use Rattle.node_position.specs.Games.{Game}
use Rattle.import_work.specs.Course.{made_name}
use Rattle.import_work.specs.Made.{made_game, made_games}
use Rattle.import_work.specs.MadePieces.{AreCut, IsInRange, piece_games}
use Rattle.kb_geometry.specs.Pieces.{ArePiecesJoined, PieceOf}
use Rattle.import_work.specs.Pieces.{ArePieces, IsPieceFor}
use Rattle.import_work.specs.declared.making.Piece.{Piece}
use Rattle.import_work.specs.Log.{Segment, games_of_segments}
use Rattle.import_work.proofs.Joined.{pieces-fit}
use Rattle.import_work.proofs.SegmentLemmas.{games_of_segments-append}

-- numbers in two parts
range-parted : (a m n : ℕ) → range_with_len a (m + n) ≡ range_with_len a m ++ range_with_len (a + m) n
range-parted a zero n =
    let count : 0 + n ≡ n = omega arith in
    let from : a ≡ a + 0 = omega arith in
    ap (range_with_len a) count ∙ ap (λ b. range_with_len b n) from
range-parted a (suc m) n =
    let count : suc m + n ≡ suc (m + n) = omega arith in
    let from : (a + 1) + m ≡ a + suc m = omega arith in
    ap (range_with_len a) count ∙ ap (λ (xs : List ℕ). a ∷ xs) (range-parted (a + 1) m n ∙ ap (λ b. range_with_len (a + 1) m ++ range_with_len b n) from)

-- made games in two parts
pub games-parted : (start first own left : ℕ) → own ≤ left → made_games start first own ++ made_games start (first + own) (left - own) ≡ made_games start first left
games-parted start first own left within =
    let all : own + (left - own) ≡ left = omega (arith, within) in
    sym (map-append (made_game start) (range_with_len first own) (range_with_len (first + own) (left - own)))
    ∙ ap (map (made_game start)) (sym (range-parted first own (left - own)) ∙ ap (range_with_len first) all)

-- there are as many made games
pub length-made_games : (start first count : ℕ) → length (made_games start first count) ≡ count
length-made_games start first count = length-map-range_with_len (made_game start) first count

-- a made game by its file's name and its tree
pub made-is : (start number : ℕ) (name : List ℕ) (tree : Tree) → name ≡ made_name → tree ≡ made_tree start number → ◌≡◌ {A = Game} (record { file = name; place = number; tree = tree }) (made_game start number)
made-is start number name tree named is = λ i. record { file = named i; place = number; tree = is i }

-- one made game more
pub made-more : (start first number : ℕ) (so_far more : List Game) (game : Game) → first ≤ number → so_far ≡ made_games start first (number - first) → more ≡ so_far ++ game ∷ [] → game ≡ made_game start number → more ≡ made_games start first (number + 1 - first)
made-more start first number so_far more game begun had pushed is =
    let at : first + (number - first) ≡ number = omega (arith, begun) in
    let count : number - first + 1 ≡ number + 1 - first = omega (arith, begun) in
    pushed ∙ ap (λ (gs : List Game). gs ++ game ∷ []) had
    ∙ ap (λ (g : Game). made_games start first (number - first) ++ g ∷ []) is
    ∙ sym (map-range_with_len_more (made_game start) first (number - first) number at)
    ∙ ap (made_games start first) count

-- The made games from the number `first` on, so many, up to the number `next`, in pieces: behind
-- these so many games are left, and so many pieces for them.
pub record AreCutBefore (start first count : ℕ) (pieces : List Piece) (next left parts : ℕ) :
    Type 0 where
  pub games : flat_map piece_games pieces ++ made_games start next left ≡
      made_games start first count
  pub whole : length pieces + parts ≤ 8
  pub few : left ≤ 400000
  pub ends : next + left ≡ first + count
  pub enough : 0 < left → 0 < parts
  pub each : All IsInRange pieces

pub AreCutBefore-start : (start first count parts : ℕ) → 1 ≤ parts → parts ≤ 8 → count ≤ 400000 → AreCutBefore start first count [] first count parts
AreCutBefore-start start first count parts some most few = record {
  games = refl;
  whole = omega (arith, most);
  few = few;
  ends = refl;
  enough = λ _. some;
  each = All-nil IsInRange;
}

pub AreCutBefore-more : (start first count : ℕ) (pieces more : List Piece) (next left parts own : ℕ) → first + count < 4294967296 → AreCutBefore start first count pieces next left parts → more ≡ pieces ++ record { start = start; first = next; count = own } ∷ []
    → 0 < left → 0 < own → own ≤ left → (parts ≡ 1 → own ≡ left) → AreCutBefore start first count more (next + own) (left - own) (parts - 1)
AreCutBefore-more start first count pieces more next left parts own few before pushed some has within last =
    let piece : Piece = record { start = start; first = next; count = own } in
    let enough : 0 < parts = before.enough some in
    subst (λ (ps : List Piece). AreCutBefore start first count ps (next + own) (left - own) (parts - 1)) (sym pushed) (record {
      games =
          ap (λ (gs : List Game). gs ++ made_games start (next + own) (left - own)) (flat_map-append piece_games pieces (piece ∷ []) ∙ ap (λ (gs : List Game). flat_map piece_games pieces ++ gs) (append-nil (piece_games piece)))
          ∙ append_assoc (flat_map piece_games pieces) (made_games start next own) (made_games start (next + own) (left - own))
          ∙ ap (λ (gs : List Game). flat_map piece_games pieces ++ gs) (games-parted start next own left within)
          ∙ before.games;
      whole = omega (arith, length-append pieces (piece ∷ []), before.whole, enough);
      few = omega (arith, before.few);
      ends = omega (arith, before.ends, within);
      enough = λ rest. grind (arith, rest, enough, last, within);
      each = All-push IsInRange pieces piece before.each (has, omega (arith, before.few, within), omega (arith, before.ends, within, few));
    })

pub AreCutBefore-end : (start first count : ℕ) (pieces : List Piece) (next left parts : ℕ) → AreCutBefore start first count pieces next left parts → left ≡ 0 → AreCut start first count pieces
AreCutBefore-end start first count pieces next left parts before none = record {
  games = sym (append-nil (flat_map piece_games pieces)) ∙ sym (ap (λ k. flat_map piece_games pieces ++ made_games start next k) none) ∙ before.games;
  few = omega (arith, before.whole);
  each = before.each;
}

-- there is a piece for each of these numbers, with the made games of these numbers
abbrev IsMade : List Game → List Segment → Type 0
IsMade told made = games_of_segments made ≡ told

abbrev pub IsMadePiece : Piece → PieceOf Segment → Type 0
IsMadePiece = IsPieceFor piece_games IsMade

abbrev pub AreMadePieces : List Piece → List (PieceOf Segment) → Type 0
AreMadePieces = ArePieces piece_games IsMade

-- what is joined of all pieces is the made games, and it has room
pub pieces-made : (start first count : ℕ) (jobs : List Piece) (pieces : List (PieceOf Segment)) (segments : List Segment) → AreCut start first count jobs → AreMadePieces jobs pieces → ArePiecesJoined pieces segments → games_of_segments segments ≡ made_games start first count
pieces-made start first count jobs pieces segments cut are joined =
    pieces-fit piece_games IsMade refl (λ ts us xs ys (e : games_of_segments xs ≡ ts) (f : games_of_segments ys ≡ us). games_of_segments-append xs ys ∙ ap (λ (gs : List Game). gs ++ games_of_segments ys) e ∙ ap (λ (gs : List Game). ts ++ gs) f) jobs pieces segments are joined ∙ cut.games

pub pieces-room : (start first count : ℕ) (segments : List Segment) → count ≤ 400000 → games_of_segments segments ≡ made_games start first count → length (games_of_segments segments) ≤ 400000
pieces-room start first count segments room are = omega (arith, room, ap length are, length-made_games start first count)

-- a segment alone
pub made-alone : (before segments : List Segment) (segment : Segment) (games : List Game) → before ≡ [] → segments ≡ before ++ segment ∷ [] → segment ≡ games → games_of_segments segments ≡ games
made-alone before segments segment games none pushed is =
    ap games_of_segments (pushed ∙ ap (λ (ss : List Segment). ss ++ segment ∷ []) none) ∙ append-nil segment ∙ is
