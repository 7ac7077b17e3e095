-- What each byte does at a place of one kind, and how words of letters, white space and values lead a reader on.
use Rattle.std.proofs.Common.{◌≡◌, ◌≢◌, ◌⊎◌, inl, inr, ℕ, ◌+◌, ◌<◌, ◌≤◌, Bool, true, false, ◌||◌, ◌&&◌, ap, sym, subst, refl, ◌∙◌, arith, List, [], ◌∷◌, length, Some, None, Option, ◌==◌, nat_le, All, Any, get_or, zero, suc}
use Rattle.std.proofs.lemmas.Bool.{le-leb, lt-leb, ne_eqb}
use Rattle.std.proofs.lemmas.List.Elements.{All-head, All-tail}
use Rattle.sgf_reader.specs.declared.collection.Span.{Span}
use Rattle.sgf_reader.specs.Grammar.{SpelledGame, SpelledNode, IsUpper, IsLetter, IsWhite, IsValue}
use Rattle.sgf_reader.specs.Scan.{Scan, Within, Inside, Phase, Opened, InNode, InName, AfterName, InValue, Escaped, AfterValue, AfterTree, is_white, is_upper, is_letter, with_node, with_bracket, closed, step}
use Rattle.sgf_reader.proofs.Scans.{Leads, Leads-none, Leads-byte}
use Rattle.sgf_reader.proofs.Ways.{inside}

-- ---- tests of bytes

pub white-tests : (b : ℕ) → b ≤ 32 → (is_white b ≡ true) × (is_letter b ≡ false)
white-tests b h =
    let u : nat_le 65 b ≡ false = lt-leb 65 b (omega arith) in
    let l : nat_le 97 b ≡ false = lt-leb 97 b (omega arith) in
    let no : is_letter b ≡ false = rw (u, l) refl in
    (le-leb b 32 h, no)

pub upper-test : (b : ℕ) → IsUpper b → is_upper b ≡ true
upper-test b h =
    let l : nat_le 65 b ≡ true = le-leb 65 b h.0 in
    let u : nat_le b 90 ≡ true = le-leb b 90 h.1 in
    rw (l, u) refl

or_true : (x : Bool) → (x || true) ≡ true
or_true true = refl
or_true false = refl

letter-test : (b : ℕ) → IsLetter b → is_letter b ≡ true
letter-test b (inl u) = let e = upper-test b u in ap (λ (x : Bool). x || (nat_le 97 b && nat_le b 122)) e
letter-test b (inr s) =
    let l : nat_le 97 b ≡ true = le-leb 97 b s.0 in
    let u : nat_le b 122 ≡ true = le-leb b 122 s.1 in
    let both : (nat_le 97 b && nat_le b 122) ≡ true = rw (l, u) refl in
    ap (λ (x : Bool). is_upper b || x) both ∙ or_true (is_upper b)

letter-range : (b : ℕ) → IsLetter b → ((65 ≤ b) × (b ≤ 90)) ⊎ ((97 ≤ b) × (b ≤ 122))
letter-range b h = h

pub letter-low : (b : ℕ) → IsLetter b → (65 ≤ b) × (b ≢ 91)
letter-low b (inl u) = (u.0, λ e. absurd (omega (arith, u.1, e)))
letter-low b (inr s) = (omega (arith, s.0), λ e. absurd (omega (arith, s.0, e)))

pub letter-tests : (b : ℕ) → IsLetter b → (is_white b ≡ false) × ((b == 59) ≡ false) × ((b == 91) ≡ false) × (is_letter b ≡ true)
letter-tests b h =
    let low = letter-low b h in
    (lt-leb b 32 (omega (arith, low.0)), ne_eqb b 59 (λ e. absurd (omega (arith, low.0, e))), ne_eqb b 91 low.1, letter-test b h)

-- ---- white space

pub white-stays : (s : Scan) → ((at b : ℕ) → b ≤ 32 → step s.games s.place at b ≡ Some s) → (white : List ℕ) (at : ℕ) → IsWhite white → Leads s at white s
white-stays s stay [] at w = Leads-none
white-stays s stay (b ∷ white) at w = Leads-byte (stay at b (All-head (λ (c : ℕ). c ≤ 32) b white w)) (white-stays s stay white (at + 1) (All-tail (λ (c : ℕ). c ≤ 32) b white w))

-- an upper-case letter so far or among these
abbrev pub has_upper : Bool → List ℕ → Bool
has_upper upper [] = upper
has_upper upper (b ∷ bytes) = has_upper (upper || is_upper b) bytes

pub has_upper-true : (bytes : List ℕ) → has_upper true bytes ≡ true
has_upper-true [] = refl
has_upper-true (b ∷ bytes) = has_upper-true bytes

has_upper-at : (bytes : List ℕ) (upper : Bool) (k d : ℕ) → k < length bytes → IsUpper (get_or bytes k d) → has_upper upper bytes ≡ true
has_upper-at [] upper k d h u = absurd (omega arith)
has_upper-at (b ∷ bytes) upper zero d h u = ap (λ (x : Bool). has_upper (upper || x) bytes) (upper-test b u) ∙ ap (λ (x : Bool). has_upper x bytes) (or_true upper) ∙ has_upper-true bytes
has_upper-at (b ∷ bytes) upper (suc k) d h u = has_upper-at bytes (upper || is_upper b) k d (omega arith) u

pub has_upper-any : (bytes : List ℕ) (upper : Bool) → Any IsUpper bytes → has_upper upper bytes ≡ true
has_upper-any bytes upper a = has_upper-at bytes upper a.0 a.1 a.2 (subst IsUpper (sym a.3) a.4)

-- ---- places within a tree

-- behind a node: a value, white space
pub data EndsNode : Phase → Type 0 where
  in_node : EndsNode InNode
  after_value : {name : Span} → EndsNode (AfterValue name)

-- behind nodes or a tree
pub data EndsTree : Phase → Type 0 where
  after_node : {phase : Phase} → EndsNode phase → EndsTree phase
  after_tree : EndsTree AfterTree

module _ (games : List SpelledGame) (a : ℕ) (parents : List (Option ℕ)) (last : Option ℕ) (nodes : List SpelledNode) where
  -- a reader in this phase
  abbrev pub within_at : Phase → Inside
  within_at phase = record { at = a; parents = parents; last = last; nodes = nodes; phase = phase }

  pub node-stays : (phase : Phase) → EndsNode phase → (at b : ℕ) → b ≤ 32 → step games (Within (within_at phase)) at b ≡ Some (inside games (within_at phase))
  node-stays phase in_node at b h = rw ((white-tests b h).0) refl
  node-stays phase after_value at b h = rw ((white-tests b h).0) refl

  pub tree-stays : (phase : Phase) → EndsTree phase → (at b : ℕ) → b ≤ 32 → step games (Within (within_at phase)) at b ≡ Some (inside games (within_at phase))
  tree-stays phase (after_node e) at b h = node-stays phase e at b h
  tree-stays phase after_tree at b h = rw ((white-tests b h).0) refl

  pub node-more : (phase : Phase) → EndsNode phase → (at : ℕ) → step games (Within (within_at phase)) at 59 ≡ Some (inside games (with_node (within_at phase) None at))
  node-more phase in_node at = refl
  node-more phase after_value at = refl

  pub name-more : (phase : Phase) → EndsNode phase → (at b : ℕ) → IsLetter b → step games (Within (within_at phase)) at b ≡ Some (inside games (within_at (InName at (is_upper b))))
  name-more phase in_node at b h = let t = letter-tests b h in rw (t.0, t.1, t.3) refl
  name-more phase after_value at b h = let t = letter-tests b h in rw (t.0, t.2, t.1, t.3) refl

  pub tree-more : (phase : Phase) → EndsTree phase → (at : ℕ) → step games (Within (within_at phase)) at 40 ≡ Some (inside games (with_bracket (within_at phase) at))
  tree-more phase (after_node in_node) at = refl
  tree-more phase (after_node after_value) at = refl
  tree-more phase after_tree at = refl

  pub tree-ends : (phase : Phase) → EndsTree phase → (at : ℕ) → step games (Within (within_at phase)) at 41 ≡ Some (closed games (within_at phase) parents)
  tree-ends phase (after_node in_node) at = refl
  tree-ends phase (after_node after_value) at = refl
  tree-ends phase after_tree at = refl

  pub opened-stays : (from at b : ℕ) → b ≤ 32 → step games (Within (within_at (Opened from))) at b ≡ Some (inside games (within_at (Opened from)))
  opened-stays from at b h = rw ((white-tests b h).0) refl

  pub after_name-stays : (name : Span) (at b : ℕ) → b ≤ 32 → step games (Within (within_at (AfterName name))) at b ≡ Some (inside games (within_at (AfterName name)))
  after_name-stays name at b h = rw ((white-tests b h).0) refl

  pub name_behind : (from at b : ℕ) → b ≤ 32 → step games (Within (within_at (InName from true))) at b ≡ Some (inside games (within_at (AfterName (record { from = from; to = at }))))
  name_behind from at b h = let t = white-tests b h in rw (t.1, t.0) refl

  pub letter-stays : (from : ℕ) (upper : Bool) (at b : ℕ) → IsLetter b → step games (Within (within_at (InName from upper))) at b ≡ Some (inside games (within_at (InName from (upper || is_upper b))))
  letter-stays from upper at b h = rw ((letter-tests b h).3) refl

  pub byte-stays : (name : Span) (from at b : ℕ) → b ≢ 93 → b ≢ 92 → step games (Within (within_at (InValue name from))) at b ≡ Some (inside games (within_at (InValue name from)))
  byte-stays name from at b h g = rw (ne_eqb b 93 h, ne_eqb b 92 g) refl

  -- ---- values and letters

  pub value-leads : (name : Span) (from at : ℕ) (value : List ℕ) → IsValue value → Leads (inside games (within_at (InValue name from))) at value (inside games (within_at (InValue name from)))
  value-leads name from at value IsValue.nothing = Leads-none
  value-leads name from at value (IsValue.byte {b = b} {rest = rest} h g v) = Leads-byte (byte-stays name from at b h g) (value-leads name from (at + 1) rest v)
  value-leads name from at value (IsValue.escaped {b = b} {rest = rest} v) =
      let first : step games (Within (within_at (InValue name from))) at 92 ≡ Some (inside games (within_at (Escaped name from))) = refl in
      let second : step games (Within (within_at (Escaped name from))) (at + 1) b ≡ Some (inside games (within_at (InValue name from))) = refl in
      Leads-byte first (Leads-byte second (value-leads name from (at + 1 + 1) rest v))

  pub letters-lead : (from : ℕ) (upper : Bool) (at : ℕ) (bytes : List ℕ) → All IsLetter bytes → Leads (inside games (within_at (InName from upper))) at bytes (inside games (within_at (InName from (has_upper upper bytes))))
  letters-lead from upper at [] l = Leads-none
  letters-lead from upper at (b ∷ bytes) l = Leads-byte (letter-stays from upper at b (All-head IsLetter b bytes l)) (letters-lead from (upper || is_upper b) (at + 1) bytes (All-tail IsLetter b bytes l))
