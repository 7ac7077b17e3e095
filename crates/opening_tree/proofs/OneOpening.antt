-- Games have one list of entries and one of next moves.
use Rattle.std.proofs.Common.{◌≡◌, ℕ, suc, ◌+◌, ◌<◌, ◌≤◌, List, [], ◌∷◌, ◌++◌, length, Option, Some, None, refl, sym, ap, ◌∙◌, subst, arith}
use Rattle.std.specs.Prelude.{All, IfSome}
use Rattle.std.proofs.lemmas.List.Elements.{All-cons}
use Rattle.kb_geometry.specs.declared.shape.Point.{Point}
use Rattle.kb_geometry.specs.declared.shape.Shape.{Shape}
use Rattle.kb_geometry.specs.Board.{IsOnBoard, number_of}
use Rattle.kb_geometry.specs.Capture.{Position}
use Rattle.kb_geometry.proofs.Lists.{push_not_nil, push_same}
use Rattle.kb_geometry.proofs.Symmetries.{moved-on_board}
use Rattle.game_tree.specs.declared.node.Move.{Move}
use Rattle.game_tree.specs.Result.{outcome_of}
use Rattle.game_tree.specs.Tree.{IsTree, Tree, node_at, node_count}
use Rattle.node_position.specs.Games.{Game}
use Rattle.node_position.proofs.OnePosition.{positions-unique}
use Rattle.opening_tree.specs.declared.answer.Opening.{Opening}
use Rattle.opening_tree.specs.Canonical.{IsCanonicalPosition}
use Rattle.opening_tree.specs.Entries.{AreEntriesTo, Entry, IsEntryAt, position_in}
use Rattle.opening_tree.specs.Games.{AreOfGame, AreOfGames, AreOnBoard}
use Rattle.opening_tree.specs.NextMoves.{AreNextsTo, IsMoveInFrame, IsNextAt, IsPlaceInFrame, IsPointInFrame, NextAt}
use Rattle.opening_tree.specs.Openings.{IsOpenings, openings_of}
use Rattle.opening_tree.proofs.PositionImages.{one_canonical, same_point_from_number}

suc_same : (m n : ℕ) → suc m ≡ suc n → m ≡ n
suc_same m n e = omega (arith, e)

-- ---- entries

module _ (depth number : ℕ) (tree : Tree) (positions : List Position) where
  abbrev entry_of : ℕ → Position → Entry
  entry_of n canonical = record { game = number; node = n; canonical = canonical; outcome = outcome_of tree.info.outcome_text }

  abbrev these : ℕ → List Entry → Type 0
  these = AreEntriesTo depth number tree positions

  same_entries : (m n : ℕ) (a b : List Entry) → these m a → these n b → m ≡ n → a ≡ b
  same_entries _ _ _ _ AreEntriesTo.nothing AreEntriesTo.nothing e = refl
  same_entries _ _ _ _ AreEntriesTo.nothing (AreEntriesTo.entry {n = n} c other is can) e = absurd (omega (arith, e))
  same_entries _ _ _ _ AreEntriesTo.nothing (AreEntriesTo.left_out {n = n} other not) e = absurd (omega (arith, e))
  same_entries _ _ _ _ (AreEntriesTo.entry {n = m} c one is can) AreEntriesTo.nothing e = absurd (omega (arith, e))
  same_entries _ _ _ _ (AreEntriesTo.left_out {n = m} one not) AreEntriesTo.nothing e = absurd (omega (arith, e))
  same_entries _ _ _ _ (AreEntriesTo.entry {n = m} {entries = xs} c one is can) (AreEntriesTo.entry {n = n} {entries = ys} d other was could) e =
      let same = suc_same m n e in
      let before = same_entries m n xs ys one other same in
      let at_one = one_canonical tree.shape (position_in positions n) c d (subst (λ k. IsCanonicalPosition tree.shape (position_in positions k) c) same can) could in
      let last : entry_of m c ≡ entry_of n d = ap (λ k. entry_of k c) same ∙ ap (entry_of n) at_one in
      λ i. before i ++ last i ∷ []
  same_entries _ _ _ _ (AreEntriesTo.entry {n = m} c one is can) (AreEntriesTo.left_out {n = n} other not) e =
      absurd (not (subst (IsEntryAt depth tree positions) (suc_same m n e) is))
  same_entries _ _ _ _ (AreEntriesTo.left_out {n = m} one not) (AreEntriesTo.entry {n = n} d other was could) e =
      absurd (not (subst (IsEntryAt depth tree positions) (sym (suc_same m n e)) was))
  same_entries _ _ _ _ (AreEntriesTo.left_out {n = m} {entries = xs} one not) (AreEntriesTo.left_out {n = n} {entries = ys} other none) e =
      same_entries m n xs ys one other (suc_same m n e)

-- ---- next moves

module _ (shape : Shape) (position canonical : Position) where
  pub frame-on_board : (p q : Point) → IsOnBoard shape p → IsPointInFrame shape position canonical p q → IsOnBoard shape q
  frame-on_board p q on is = subst (IsOnBoard shape) (sym is.is_moved) (moved-on_board shape p on is.number is.brings.is_symmetry is.brings.is_allowed)

  one_point : (p a b : Point) → IsOnBoard shape p → IsPointInFrame shape position canonical p a → IsPointInFrame shape position canonical p b → a ≡ b
  one_point p a b on at_a at_b =
      let low : number_of shape a ≤ number_of shape b = subst (λ (q : Point). number_of shape a ≤ number_of shape q) (sym at_b.is_moved) (at_a.is_least at_b.number at_b.brings) in
      let high : number_of shape b ≤ number_of shape a = subst (λ (q : Point). number_of shape b ≤ number_of shape q) (sym at_a.is_moved) (at_b.is_least at_a.number at_a.brings) in
      same_point_from_number shape a b (frame-on_board p a on at_a) (frame-on_board p b on at_b) (omega (arith, low, high))

  one_place : (p a b : Option Point) → IfSome p (λ (q : Point). IsOnBoard shape q) → IsPlaceInFrame shape position canonical p a → IsPlaceInFrame shape position canonical p b → a ≡ b
  one_place None a b on at_a at_b = at_a ∙ sym at_b
  one_place (Some p) a b on at_a at_b = at_a.1 ∙ ap (λ (q : Point). Some q) (one_point p at_a.0 at_b.0 on at_a.2 at_b.2) ∙ sym at_b.1

  pub one_move : (played a b : Move) → IfSome played.point (λ (q : Point). IsOnBoard shape q) → IsMoveInFrame shape position canonical played a → IsMoveInFrame shape position canonical played b → a ≡ b
  one_move played a b on at_a at_b =
      let colour = at_a.same_colour ∙ sym at_b.same_colour in
      let point = one_place played.point a.point b.point on at_a.place at_b.place in
      λ i. record { colour = colour i; point = point i }

module _ (depth : ℕ) (tree : Tree) (is_tree : IsTree tree) (positions : List Position) where
  abbrev next_of : Position → Move → NextAt
  next_of canonical played = record { canonical = canonical; played = played; outcome = outcome_of tree.info.outcome_text }

  abbrev those : ℕ → List NextAt → Type 0
  those = AreNextsTo depth tree positions

  pub played_on_board : (n : ℕ) (m : Move) → n < node_count tree → (node_at tree n).played ≡ Some m → IfSome m.point (λ (q : Point). IsOnBoard tree.shape q)
  played_on_board n m lt e = subst (λ (o : Option Move). IfSome o (λ (k : Move). IfSome k.point (λ (q : Point). IsOnBoard tree.shape q))) e (is_tree.on_board n lt).played

  -- a node has one parent and plays one move
  one_next : (n p q : ℕ) (a b : Move) → IsNextAt depth tree n p a → IsNextAt depth tree n q b → (p ≡ q) × (a ≡ b)
  one_next n p q a b at_a at_b =
      let parents : Some p ≡ Some q = sym at_a.is_parent ∙ at_b.is_parent in
      let moves : Some a ≡ Some b = sym at_a.plays ∙ at_b.plays in
      (cc, cc)

  same_nexts : (m n : ℕ) (a b : List NextAt) → m ≤ node_count tree → those m a → those n b → m ≡ n → a ≡ b
  same_nexts _ _ _ _ most AreNextsTo.nothing AreNextsTo.nothing e = refl
  same_nexts _ _ _ _ most AreNextsTo.nothing (AreNextsTo.next {n = n} p m c f other is can framed) e = absurd (omega (arith, e))
  same_nexts _ _ _ _ most AreNextsTo.nothing (AreNextsTo.left_out {n = n} other not) e = absurd (omega (arith, e))
  same_nexts _ _ _ _ most (AreNextsTo.next {n = k} p m c f one is can framed) AreNextsTo.nothing e = absurd (omega (arith, e))
  same_nexts _ _ _ _ most (AreNextsTo.left_out {n = k} one not) AreNextsTo.nothing e = absurd (omega (arith, e))
  same_nexts _ _ _ _ most (AreNextsTo.next {n = k} {nexts = xs} p m c f one is can framed) (AreNextsTo.next {n = n} {nexts = ys} q o d g other was could too) e =
      let same = suc_same k n e in
      let before = same_nexts k n xs ys (omega (arith, most)) one other same in
      let here = subst (λ j. IsNextAt depth tree j p m) same is in
      let parts = one_next n p q m o here was in
      let can_here : IsCanonicalPosition tree.shape (position_in positions q) c = subst (λ j. IsCanonicalPosition tree.shape (position_in positions j) c) parts.0 can in
      let at_one : c ≡ d = one_canonical tree.shape (position_in positions q) c d can_here could in
      let moved_parent = subst (λ j. IsMoveInFrame tree.shape (position_in positions j) c m f) parts.0 framed in
      let moved_move = subst (λ (x : Move). IsMoveInFrame tree.shape (position_in positions q) c x f) parts.1 moved_parent in
      let moved_all : IsMoveInFrame tree.shape (position_in positions q) d o f = subst (λ (x : Position). IsMoveInFrame tree.shape (position_in positions q) x o f) at_one moved_move in
      let frame : f ≡ g = one_move tree.shape (position_in positions q) d o f g (played_on_board n o (omega (arith, most, same)) was.plays) moved_all too in
      let last : next_of c f ≡ next_of d g = ap (λ x. next_of x f) at_one ∙ ap (next_of d) frame in
      λ i. before i ++ last i ∷ []
  same_nexts _ _ _ _ most (AreNextsTo.next {n = k} p m c f one is can framed) (AreNextsTo.left_out {n = n} other not) e =
      absurd (not p m (subst (λ j. IsNextAt depth tree j p m) (suc_same k n e) is))
  same_nexts _ _ _ _ most (AreNextsTo.left_out {n = k} one not) (AreNextsTo.next {n = n} q o d g other was could too) e =
      absurd (not q o (subst (λ j. IsNextAt depth tree j q o) (sym (suc_same k n e)) was))
  same_nexts _ _ _ _ most (AreNextsTo.left_out {n = k} {nexts = xs} one not) (AreNextsTo.left_out {n = n} {nexts = ys} other none) e =
      same_nexts k n xs ys (omega (arith, most)) one other (suc_same k n e)

-- ---- games

abbrev Both : Type 0
Both = List Entry × List NextAt

module _ (shape : Shape) (depth number : ℕ) (tree : Tree) (is_tree : IsTree tree) where
  same_in : (a b : List Entry) (c d : List NextAt) → AreOfGame depth number tree a c → AreOfGame depth number tree b d → (a ≡ b) × (c ≡ d)
  same_in a b c d one other =
      let positions = positions-unique tree one.positions other.positions is_tree one.are_positions other.are_positions in
      let entries = subst (λ (ps : List Position). AreEntriesTo depth number tree ps (node_count tree) a) positions one.are_entries in
      let nexts = subst (λ (ps : List Position). AreNextsTo depth tree ps (node_count tree) c) positions one.are_nexts in (
        same_entries depth number tree other.positions (node_count tree) (node_count tree) a b entries other.are_entries refl,
        same_nexts depth tree is_tree other.positions (node_count tree) (node_count tree) c d (omega arith) nexts other.are_nexts refl,
      )

  same_on_board : (a b : List Entry) (c d : List NextAt) → AreOnBoard shape depth number tree a c → AreOnBoard shape depth number tree b d → (a ≡ b) × (c ≡ d)
  same_on_board a b c d (AreOnBoard.on_board e one) (AreOnBoard.on_board f other) = same_in a b c d one other
  same_on_board a _ c _ (AreOnBoard.on_board e one) (AreOnBoard.elsewhere not) = absurd (not e)
  same_on_board _ b _ d (AreOnBoard.elsewhere not) (AreOnBoard.on_board f other) = absurd (not f)
  same_on_board _ _ _ _ (AreOnBoard.elsewhere not) (AreOnBoard.elsewhere none) = (refl, refl)

-- the parts of a claim on a list and one element more
last_of_all : {A : Type 0} (P : A → Type 0) (xs : List A) (x : A) → All P (xs ++ x ∷ []) → All P xs × P x
last_of_all P [] x all = (λ k d below. absurd (omega arith), all 0 x (omega arith))
last_of_all {A} P (y ∷ ys) x all =
    let rest = last_of_all P ys x (λ k d below. all (suc k) d (omega arith)) in
    (All-cons P y ys (all 0 y (omega arith)) rest.0, rest.1)

module _ (first : ℕ) (shape : Shape) (depth : ℕ) where
  pub all-unique : (games more : List Game) (a b : List Entry) (c d : List NextAt) → All (λ (g : Game). IsTree g.tree) games → AreOfGames first shape depth games a c → AreOfGames first shape depth more b d → games ≡ more → (a ≡ b) × (c ≡ d)
  all-unique _ _ _ _ _ _ trees AreOfGames.nothing AreOfGames.nothing e = (refl, refl)
  all-unique _ _ _ _ _ _ trees AreOfGames.nothing (AreOfGames.one_more {games = gs} g es ns other last) e = absurd (push_not_nil gs g e)
  all-unique _ _ _ _ _ _ trees (AreOfGames.one_more {games = gs} g es ns one last) AreOfGames.nothing e = absurd (push_not_nil gs g (sym e))
  all-unique _ _ _ _ _ _ trees (AreOfGames.one_more {games = gs} {entries = xs} {nexts = us} g es ns one last) (AreOfGames.one_more {games = ks} {entries = ys} {nexts = vs} k fs ms other other_last) e =
      let same = push_same gs ks g k e in
      let split = last_of_all (λ (h : Game). IsTree h.tree) gs g trees in
      let before = all-unique gs ks xs ys us vs split.0 one other same.0 in
      let number : first + length ks ≡ first + length gs = ap (λ (hs : List Game). first + length hs) (sym same.0) in
      let moved = subst (λ (h : Game). AreOnBoard shape depth (first + length ks) h.tree fs ms) (sym same.1) other_last in
      let here = subst (λ n. AreOnBoard shape depth n g.tree fs ms) number moved in
      let now = same_on_board shape depth (first + length gs) g.tree split.1 es fs ns ms last here in
      let entries = before.0 in
      let nexts = before.1 in
      let more_entries = now.0 in
      let more_nexts = now.1 in
      ((λ i. entries i ++ more_entries i), (λ i. nexts i ++ more_nexts i))

pub openings-unique : (shape : Shape) (depth least : ℕ) (games : List Game) (a b : List Opening) → All (λ (g : Game). IsTree g.tree) games → IsOpenings shape depth least games a → IsOpenings shape depth least games b → a ≡ b
openings-unique shape depth least games a b trees one other =
    let same = all-unique 0 shape depth games games one.entries other.entries one.nexts other.nexts trees one.are_all other.are_all refl in
    one.are_groups
    ∙ ap (λ (es : List Entry). openings_of shape least es one.nexts) same.0
    ∙ ap (λ (ns : List NextAt). openings_of shape least other.entries ns) same.1
    ∙ sym other.are_groups
