-- The first fault of a game's values.
use Rattle.std.proofs.Common.{◌≡◌, ◌≢◌, ◌⊎◌, ◌≤◌, ◌<◌, ◌++◌, ◌∙◌, ℕ, zero, suc, List, [], ◌∷◌, All, Contains, Option, Some, None, refl, sym, ap, subst, arith, length, get_or, inl, inr, codes, true, false, Bool, IfSome, cond}
use Rattle.std.specs.Prelude.{is_some, slice_get}
use Rattle.std.specs.Option.{option_map_or}
use Rattle.std.specs.Str.{bytes_eq}
use Rattle.std.proofs.lemmas.Bool.{cases_order}
use Rattle.std.proofs.lemmas.Grind.{flat_map-append}
use Rattle.std.proofs.lemmas.List.{get_or_default}
use Rattle.std.proofs.lemmas.List.Elements.{All-contains, Contains-append_cases, Contains-append_left, Contains-append_right}
use Rattle.std.proofs.lemmas.Slice.Eq.{bytes_eq-Decides}
use Rattle.kb_geometry.specs.declared.shape.Shape.{Shape}
use Rattle.sgf_reader.specs.declared.collection.Pair.{Pair}
use Rattle.sgf_reader.specs.declared.collection.RawGame.{RawGame}
use Rattle.sgf_reader.specs.declared.collection.RawNode.{RawNode}
use Rattle.sgf_reader.specs.declared.fault.FaultKind.{FaultKind}
use Rattle.sgf_reader.specs.declared.fault.FaultKind.TheVariants as kind
use Rattle.sgf_reader.specs.declared.fault.SgfFault.{SgfFault}
use Rattle.game_tree.specs.GameFaults.{HasGameFault, IsFirstGameFault, in_node, no_size, other_game, second_move}
use Rattle.game_tree.specs.NodeValues.{Ascend, ComesFirst, HasNodeFault, HasPairFault, IsFirstNodeFault, LiesIn, bad_move, bad_setup, second_of_two}
use Rattle.game_tree.specs.Property.{first_pair, identifier_of, is_of, mover_named, mover_of, offset_of, root_pairs, setter_named, setter_of}
use Rattle.game_tree.specs.Roots.{IsGameFault, IsOtherGame, IsSecond, IsSecondMove, IsSizeFault, first_in, one_at_most, same_game, second_stands}
use Rattle.game_tree.specs.Roots as roots
use Rattle.game_tree.proofs.SecondMoves.{second_once}
use Rattle.game_tree.specs.ValueFaults.{IsBoard}
use Rattle.game_tree.proofs.Parts.{AllPairs-across, AllPairs-back, Contains-head, Contains-later}
use Rattle.game_tree.specs.RawGames.{node_pairs}

-- ---- names

-- a value with this identifier has no other
named : (name other : List ℕ) → bytes_eq name other ≡ true → name ≡ other
named name other e = (bytes_eq-Decides name other).0 e

letters_differ : ¬ (codes "SZ" ≡ codes "GM")
letters_differ e = let first : ◌≡◌ {A = ℕ} 83 71 = ap (λ (l : List ℕ). get_or l 0 0) e in omega (arith, first)

-- what does something at a node is neither a GM nor an SZ value
does_nothing : (text : List ℕ) (pair : Pair) → (identifier_of text pair ≡ codes "GM") ⊎ (identifier_of text pair ≡ codes "SZ") → (mover_of text pair ≡ None) × (setter_of text pair ≡ None)
does_nothing text pair (inl e) = (ap mover_named e, ap setter_named e)
does_nothing text pair (inr e) = (ap mover_named e, ap setter_named e)

-- a faulty value of a node does something
acts : (text : List ℕ) (shape : Shape) (before : List Pair) (pair : Pair) (of : FaultKind) → HasPairFault text shape before pair of → ¬ ((mover_of text pair ≡ None) × (setter_of text pair ≡ None))
acts text shape before pair _ (second_of_two is two) (mover, setter) = let never : is_some (mover_of text pair) ≡ false = ap is_some mover in cc
acts text shape before pair _ (bad_move is bad) (mover, setter) = let never : is_some (mover_of text pair) ≡ false = ap is_some mover in cc
acts text shape before pair _ (bad_setup is bad) (mover, setter) = let never : is_some (setter_of text pair) ≡ false = ap is_some setter in cc

-- ---- the first of some values

pub find_there : (text : List ℕ) (pairs : List Pair) (name : List ℕ) (pair : Pair) → first_in text pairs name ≡ Some pair → Contains pairs pair × (identifier_of text pair ≡ name)
find_there text [] name pair e = absurd (cc)
find_there text (p ∷ pairs) name pair e = go (λ later. find_there text pairs name pair later) (is_of text name p) refl e
  where
    go : (first_in text pairs name ≡ Some pair → Contains pairs pair × (identifier_of text pair ≡ name)) → (b : Bool) → is_of text name p ≡ b → cond b (Some p) (first_in text pairs name) ≡ Some pair → Contains (p ∷ pairs) pair × (identifier_of text pair ≡ name)
    go later true so e =
        let same : p ≡ pair = cc in
        (subst (Contains (p ∷ pairs)) same (Contains-head p pairs), named (identifier_of text pair) name (subst (λ q. is_of text name q ≡ true) same so))
    go later false so e = let (there, is) = later e in (Contains-later p pairs pair there, is)

-- what a list of one element more has
cons_cases : (node : RawNode) (rest : List RawNode) (n : RawNode) → Contains (node ∷ rest) n → (node ≡ n) ⊎ Contains rest n
cons_cases node rest n (zero, below, is) = inl is
cons_cases node rest n (suc k, below, is) = inr (k, omega (arith, below), is)

one_found : {found : Option Pair} {p q : Pair} → found ≡ Some p → found ≡ Some q → p ≡ q
one_found e f = cc

-- the first GM value of a root that says nothing else isn't of another game
none_other : (text : List ℕ) (raw : RawGame) → IsGameFault text (root_pairs raw) None → (pair : Pair) → first_pair text raw (codes "GM") ≡ Some pair → ¬ IsOtherGame text pair
none_other text raw (same_game none) pair found = none pair found

-- ---- the values of a game

module _ (text : List ℕ) (raw : RawGame) (inside : All (LiesIn (length text)) (node_pairs raw.nodes)) (ascend : Ascend (node_pairs raw.nodes)) where
  -- a value of a node is one of the game's
  pub in_game : (nodes : List RawNode) (node : RawNode) (pair : Pair) → Contains nodes node → Contains node.pairs pair → Contains (node_pairs nodes) pair
  in_game [] node pair (k, below, is) there = absurd (omega arith)
  in_game (n ∷ nodes) node pair (zero, below, is) there = Contains-append_left n.pairs (node_pairs nodes) pair (subst (λ (m : RawNode). Contains m.pairs pair) (sym is) there)
  in_game (n ∷ nodes) node pair (suc k, below, is) there = Contains-append_right n.pairs (node_pairs nodes) pair (in_game nodes node pair (k, omega (arith, below), is) there)

  bracket : (pair : Pair) → Contains (node_pairs raw.nodes) pair → 1 ≤ pair.value.from
  bracket pair there = (All-contains (LiesIn (length text)) (node_pairs raw.nodes) pair inside there).bracket

  -- the values of a game differ by their offsets
  pub same_value : (p q : Pair) → Contains (node_pairs raw.nodes) p → Contains (node_pairs raw.nodes) q → offset_of p ≡ offset_of q → p ≡ q
  same_value p q (i, below, is_p) (j, short, is_q) same =
      let pairs = node_pairs raw.nodes in
      let at_q : get_or pairs j p ≡ q = get_or_default pairs j p q short ∙ is_q in
      let some_p = bracket p (i, below, is_p) in
      let some_q = bracket q (j, short, is_q) in
      elim (cases_order i j) [
        | inl e ↦ sym is_p ∙ ap (λ k. get_or pairs k p) e ∙ at_q
        | inr apart ↦ elim apart [
          | inl l ↦ absurd (omega (arith, same, some_p, some_q, subst (λ (r : Pair). r.value.from < q.value.from) is_p (subst (λ (r : Pair). (get_or pairs i p).value.from < r.value.from) at_q (ascend i j p l short))))
          | inr l ↦ absurd (omega (arith, same, some_p, some_q, subst (λ (r : Pair). r.value.from < p.value.from) at_q (subst (λ (r : Pair). (get_or pairs j p).value.from < r.value.from) is_p (ascend j i p l below))))
        ]
      ]

  -- the values of a node stand before those of the nodes behind it
  pub earlier : (done : List RawNode) (node : RawNode) (rest : List RawNode) (p q : Pair) → raw.nodes ≡ done ++ node ∷ rest → Contains node.pairs p → Contains (node_pairs rest) q → offset_of p < offset_of q
  earlier done node rest p q is there later =
      let parts : node_pairs raw.nodes ≡ node_pairs done ++ (node.pairs ++ node_pairs rest) = ap node_pairs is ∙ flat_map-append (λ (n : RawNode). n.pairs) done (node ∷ rest) in
      let tail = AllPairs-back (λ (a b : Pair). a.value.from < b.value.from) (node_pairs done) (node.pairs ++ node_pairs rest) (subst Ascend parts ascend) in
      let order = AllPairs-across (λ (a b : Pair). a.value.from < b.value.from) node.pairs (node_pairs rest) p q tail there later in
      let some = bracket p (in_game raw.nodes node p (subst (λ ns. Contains ns node) (sym is) (Contains-append_right done (node ∷ rest) node (Contains-head node rest))) there) in
      omega (arith, order, some)

  -- the value of a fault of a node
  fault_there : (shape : Shape) (node : RawNode) (of : FaultKind) (at : ℕ) (f : HasNodeFault text shape node.pairs of at) → Contains node.pairs f.pair
  fault_there shape node of at f = subst (λ ps. Contains ps f.pair) (sym f.split) (Contains-append_right f.before (f.pair ∷ f.after) f.pair (Contains-head f.pair f.after))

  -- a fault of a node that comes first among the node's, behind nodes without one, comes first among those of all nodes
  pub first_of_nodes : (shape : Shape) (done : List RawNode) (node : RawNode) (rest : List RawNode) (of : FaultKind) (at : ℕ) → raw.nodes ≡ done ++ node ∷ rest → ((n : RawNode) → Contains done n → (other : FaultKind) (offset : ℕ) → ¬ HasNodeFault text shape n.pairs other offset) → IsFirstNodeFault text shape node.pairs of at → (n : RawNode) → Contains raw.nodes n → (other : FaultKind) (offset : ℕ) → HasNodeFault text shape n.pairs other offset → ComesFirst of at other offset
  first_of_nodes shape done node rest of at is clean first n there other offset f =
      elim (Contains-append_cases done (node ∷ rest) n (subst (λ ns. Contains ns n) is there)) [
        | inl before ↦ absurd (clean n before other offset f)
        | inr later ↦ elim (cons_cases node rest n later) [
          | inl same ↦ first.first other offset (subst (λ (m : RawNode). HasNodeFault text shape m.pairs other offset) (sym same) f)
          | inr behind ↦
              let here = first.there in
              let order = earlier done node rest here.pair f.pair is (fault_there shape node of at here) (in_game rest n f.pair behind (fault_there shape n other offset f)) in
              inl (omega (arith, order, here.here, f.here))
        ]
      ]

  -- ---- a game on a board

  module _ (shape : Shape) (board : IsBoard text raw shape) (once : (a b : Shape) → IsBoard text raw a → IsBoard text raw b → a ≡ b) where
    -- what can be wrong with the game: what it is, or a node
    pub on_board_faults : (of : FaultKind) (at : ℕ) → HasGameFault text raw of at → ((pair : Pair) × (first_pair text raw (codes "GM") ≡ Some pair) × IsOtherGame text pair × (of ≡ kind.NotGo) × (at ≡ offset_of pair)) ⊎ ((node : RawNode) × Contains raw.nodes node × HasNodeFault text shape node.pairs of at)
    on_board_faults _ _ (other_game pair found other) = inl (pair, found, other, refl, refl)
    on_board_faults _ _ (no_size pair found none) = absurd (none shape board)
    on_board_faults of at (in_node shape' node board' there f) = inr (node, there, subst (λ s. HasNodeFault text s node.pairs of at) (once shape' shape board' board) f)
    on_board_faults _ _ (second_move node pair there second) = inr (node, there, record { before = second.before; pair = pair; after = second.after; split = second.split; fault = second_of_two second.moves second.counted; here = refl })

    -- no fault where the game is Go and no node has one
    pub clean_game : IsGameFault text (root_pairs raw) None → ((n : RawNode) → Contains raw.nodes n → (other : FaultKind) (offset : ℕ) → ¬ HasNodeFault text shape n.pairs other offset) → (of : FaultKind) (at : ℕ) → ¬ HasGameFault text raw of at
    clean_game go clean of at f =
        elim (on_board_faults of at f) [
          | inl (pair, found, other, _, _) ↦ none_other text raw go pair found other
          | inr (node, there, g) ↦ clean node there of at g
        ]

    -- the first fault of a game that is Go
    pub first_of_game : (done : List RawNode) (node : RawNode) (rest : List RawNode) (of : FaultKind) (at : ℕ) → raw.nodes ≡ done ++ node ∷ rest → IsGameFault text (root_pairs raw) None → ((n : RawNode) → Contains done n → (other : FaultKind) (offset : ℕ) → ¬ HasNodeFault text shape n.pairs other offset) → IsFirstNodeFault text shape node.pairs of at → IsFirstGameFault text raw of at
    first_of_game done node rest of at is go clean first = record {
      there = in_node shape node board (subst (λ ns. Contains ns node) (sym is) (Contains-append_right done (node ∷ rest) node (Contains-head node rest))) first.there;
      first = λ other offset f. elim (on_board_faults other offset f) [
        | inl (pair, found, bad, _, _) ↦ absurd (none_other text raw go pair found bad)
        | inr (n, there, g) ↦ first_of_nodes shape done node rest of at is clean first n there other offset g
      ];
    }

    -- the first fault of a game that is another one
    module _ (root : RawNode) (others : List RawNode) (is : raw.nodes ≡ root ∷ others) (pair : Pair) (found : first_pair text raw (codes "GM") ≡ Some pair) (bad : IsOtherGame text pair) where
      game_value_there : Contains root.pairs pair
      game_value_there = (find_there text root.pairs (codes "GM") pair (ap (λ ns. first_in text (option_map_or (λ (n : RawNode). n.pairs) (slice_get ns 0) []) (codes "GM")) (sym is) ∙ found)).0

      pub other_game_first : ((other : FaultKind) (offset : ℕ) → ¬ HasNodeFault text shape root.pairs other offset) → IsFirstGameFault text raw kind.NotGo (offset_of pair)
      other_game_first clean = record {
        there = other_game pair found bad;
        first = λ other offset f. elim (on_board_faults other offset f) [
          | inl (q, found_q, _, of, at) ↦ inr (ap offset_of (one_found found found_q) ∙ sym at, inl of)
          | inr (n, there, g) ↦ elim (cons_cases root others n (subst (λ ns. Contains ns n) is there)) [
            | inl same ↦ absurd (clean other offset (subst (λ (m : RawNode). HasNodeFault text shape m.pairs other offset) (sym same) g))
            | inr behind ↦ inl (omega (arith, earlier [] root others pair g.pair is (game_value_there) (in_game others n g.pair behind (fault_there shape n other offset g)), g.here))
          ]
        ];
      }

      -- a fault of a root's value stands elsewhere than its GM value
      apart_from_game : (of : FaultKind) (at : ℕ) → HasNodeFault text shape root.pairs of at → at ≢ offset_of pair
      apart_from_game of at f same =
          let named_so = (find_there text root.pairs (codes "GM") pair (ap (λ ns. first_in text (option_map_or (λ (n : RawNode). n.pairs) (slice_get ns 0) []) (codes "GM")) (sym is) ∙ found)).1 in
          let whole = λ (p : Pair). λ (there : Contains root.pairs p). in_game raw.nodes root p (subst (λ ns. Contains ns root) (sym is) (Contains-head root others)) there in
          let one = same_value f.pair pair (whole f.pair (fault_there shape root of at f)) (whole pair game_value_there) (sym f.here ∙ same) in
          acts text shape f.before f.pair of f.fault (subst (λ p. (mover_of text p ≡ None) × (setter_of text p ≡ None)) (sym one) (does_nothing text pair (inl named_so)))

      -- what comes no later than another, and elsewhere, comes first
      before_it : {of other : FaultKind} {at offset : ℕ} → at ≤ offset → at ≢ offset → ComesFirst of at other offset
      before_it {at = at} {offset = offset} le apart = elim (cases_order at offset) [
        | inl e ↦ absurd (apart e)
        | inr side ↦ elim side [ inl l ↦ inl l | inr l ↦ absurd (omega arith) ]
      ]

      -- what comes before a first fault comes before each other
      before_all : {of first other : FaultKind} {at place offset : ℕ} → at < place → ComesFirst first place other offset → ComesFirst of at other offset
      before_all lt (inl l) = inl (omega arith)
      before_all lt (inr (e, _)) = inl (omega (arith, e))

      -- the first of a root's faulty value and its GM value
      pub both_first : (of : FaultKind) (at : ℕ) (result : SgfFault) → IsFirstNodeFault text shape root.pairs of at → (result ≡ record { kind = of; at = at }) ⊎ (result ≡ record { kind = kind.NotGo; at = offset_of pair }) → result.at ≤ at → result.at ≤ offset_of pair → IsFirstGameFault text raw result.kind result.at
      both_first of at result first (inl e) le le_game = subst (λ (r : SgfFault). IsFirstGameFault text raw r.kind r.at) (sym e) (record {
        there = in_node shape root board (subst (λ ns. Contains ns root) (sym is) (Contains-head root others)) first.there;
        first = λ other offset f. elim (on_board_faults other offset f) [
          | inl (q, found_q, _, _, at_q) ↦ before_it (omega (arith, le_game, ap (λ (r : SgfFault). r.at) e, at_q, ap offset_of (one_found found found_q))) (λ same. apart_from_game of at first.there (same ∙ at_q ∙ sym (ap offset_of (one_found found found_q))))
          | inr (n, there, g) ↦ first_of_nodes shape [] root others of at is (λ m none. absurd (no_node m none)) first n there other offset g
        ];
      })
        where
          no_node : (m : RawNode) → ¬ Contains [] m
          no_node m (k, below, same) = omega arith
      both_first of at result first (inr e) le le_game = subst (λ (r : SgfFault). IsFirstGameFault text raw r.kind r.at) (sym e) (record {
        there = other_game pair found bad;
        first = λ other offset f. elim (on_board_faults other offset f) [
          | inl (q, found_q, _, of_q, at_q) ↦ inr (ap offset_of (one_found found found_q) ∙ sym at_q, inl of_q)
          | inr (n, there, g) ↦ before_all (strict (omega (arith, le, ap (λ (r : SgfFault). r.at) e))) (first_of_nodes shape [] root others of at is (λ m none. absurd (no_node m none)) first n there other offset g)
        ];
      })
        where
          no_node : (m : RawNode) → ¬ Contains [] m
          no_node m (k, below, same) = omega arith

          strict : offset_of pair ≤ at → offset_of pair < at
          strict le = elim (cases_order (offset_of pair) at) [
            | inl same ↦ absurd (apart_from_game of at first.there (sym same))
            | inr side ↦ elim side [ inl l ↦ l | inr l ↦ absurd (omega arith) ]
          ]

  -- ---- a game without a board

  module _ (root : RawNode) (others : List RawNode) (is : raw.nodes ≡ root ∷ others) (sized : Pair) (found_size : first_pair text raw (codes "SZ") ≡ Some sized) (none : (shape : Shape) → ¬ IsBoard text raw shape) where
    -- the first of a root's values with this identifier is one of its values
    in_root : (name : List ℕ) (pair : Pair) → first_pair text raw name ≡ Some pair → Contains root.pairs pair × (identifier_of text pair ≡ name)
    in_root name pair found = find_there text root.pairs name pair (ap (λ ns. first_in text (option_map_or (λ (n : RawNode). n.pairs) (slice_get ns 0) []) name) (sym is) ∙ found)

    one_place : (p q : Pair) → Contains root.pairs p → Contains root.pairs q → offset_of p ≡ offset_of q → p ≡ q
    one_place p q there here same =
        let root_there = subst (λ ns. Contains ns root) (sym is) (Contains-head root others) in
        same_value p q (in_game raw.nodes root p root_there there) (in_game raw.nodes root q root_there here) same

    second_there : (pair : Pair) → IsSecond text root.pairs pair → Contains root.pairs pair
    second_there pair second = subst (λ ps. Contains ps pair) (sym second.split) (Contains-append_right second.before (pair ∷ second.after) pair (Contains-head pair second.after))

    -- what the answer is: the size, the game, or a second move
    pub data IsRootFault : FaultKind → ℕ → Type 0 where
      of_size : IsRootFault kind.BadSize (offset_of sized)
      of_game : (pair : Pair) → first_pair text raw (codes "GM") ≡ Some pair → IsOtherGame text pair → IsRootFault kind.NotGo (offset_of pair)
      of_moves : (pair : Pair) → IsSecond text root.pairs pair → IsRootFault kind.TwoMoves (offset_of pair)

    -- it is a fault of the game
    root_fault : (of : FaultKind) (at : ℕ) → IsRootFault of at → HasGameFault text raw of at
    root_fault _ _ of_size = no_size sized found_size none
    root_fault _ _ (of_game pair found bad) = other_game pair found bad
    root_fault _ _ (of_moves pair second) = second_move root pair (subst (λ ns. Contains ns root) (sym is) (Contains-head root others)) second

    root_value : (of : FaultKind) (at : ℕ) → IsRootFault of at → (pair : Pair) × Contains root.pairs pair × (at ≡ offset_of pair)
    root_value _ _ of_size = (sized, (in_root (codes "SZ") sized found_size).0, refl)
    root_value _ _ (of_game pair found bad) = (pair, (in_root (codes "GM") pair found).0, refl)
    root_value _ _ (of_moves pair second) = (pair, second_there pair second, refl)

    -- a GM value isn't the SZ value
    sized_game : (pair : Pair) → first_pair text raw (codes "GM") ≡ Some pair → offset_of sized ≡ offset_of pair → ⊥
    sized_game pair found same =
        let (game_there, game_named) = in_root (codes "GM") pair found in
        let (size_there, size_named) = in_root (codes "SZ") sized found_size in
        let one = one_place sized pair size_there game_there same in
        letters_differ (sym size_named ∙ ap (identifier_of text) one ∙ game_named)

    -- a value that does nothing isn't a second move
    quiet : (pair other : Pair) → (identifier_of text pair ≡ codes "GM") ⊎ (identifier_of text pair ≡ codes "SZ") → Contains root.pairs pair → IsSecond text root.pairs other → offset_of pair ≡ offset_of other → ⊥
    quiet pair other so there second same =
        let one = one_place pair other there (second_there other second) same in
        let still = (does_nothing text pair so).0 in
        let never : is_some (mover_of text other) ≡ false = ap is_some (subst (λ p. mover_of text p ≡ None) one still) in
        let moves = second.moves in cc

    -- two such faults at one place are of one kind
    one_kind : (of other : FaultKind) (at offset : ℕ) → IsRootFault of at → IsRootFault other offset → at ≡ offset → other ≡ of
    one_kind _ _ _ _ of_size of_size same = refl
    one_kind _ _ _ _ of_size (of_game pair found bad) same = absurd (sized_game pair found same)
    one_kind _ _ _ _ of_size (of_moves pair second) same = absurd (quiet sized pair (inr (in_root (codes "SZ") sized found_size).1) (in_root (codes "SZ") sized found_size).0 second same)
    one_kind _ _ _ _ (of_game pair found bad) of_size same = absurd (sized_game pair found (sym same))
    one_kind _ _ _ _ (of_game pair found bad) (of_game other found' bad') same = refl
    one_kind _ _ _ _ (of_game pair found bad) (of_moves other second) same = absurd (quiet pair other (inl (in_root (codes "GM") pair found).1) (in_root (codes "GM") pair found).0 second same)
    one_kind _ _ _ _ (of_moves pair second) of_size same = absurd (quiet sized pair (inr (in_root (codes "SZ") sized found_size).1) (in_root (codes "SZ") sized found_size).0 second (sym same))
    one_kind _ _ _ _ (of_moves pair second) (of_game other found bad) same = absurd (quiet other pair (inl (in_root (codes "GM") other found).1) (in_root (codes "GM") other found).0 second (sym same))
    one_kind _ _ _ _ (of_moves pair second) (of_moves other second') same = refl

    -- what comes no later than each such fault of the root comes first
    pub no_board_first : (of : FaultKind) (at : ℕ) → IsRootFault of at → ((other : FaultKind) (offset : ℕ) → IsRootFault other offset → at ≤ offset) → IsFirstGameFault text raw of at
    no_board_first of at answer least = record { there = root_fault of at answer; first = first }
      where
        beside : (other : FaultKind) (offset : ℕ) → IsRootFault other offset → ComesFirst of at other offset
        beside other offset f = elim (cases_order at offset) [
          | inl same ↦ inr (same, inl (one_kind of other at offset answer f same))
          | inr side ↦ elim side [ inl l ↦ inl l | inr l ↦ absurd (omega (arith, least other offset f)) ]
        ]

        behind : (node : RawNode) (pair : Pair) → Contains others node → IsSecond text node.pairs pair → at < offset_of pair
        behind node pair there second =
            let (value, here, place) = root_value of at answer in
            let order = earlier [] root others value pair is here (in_game others node pair there (subst (λ ps. Contains ps pair) (sym second.split) (Contains-append_right second.before (pair ∷ second.after) pair (Contains-head pair second.after)))) in
            omega (arith, order, place)

        first : (other : FaultKind) (offset : ℕ) → HasGameFault text raw other offset → ComesFirst of at other offset
        first _ _ (other_game pair found bad) = beside kind.NotGo (offset_of pair) (of_game pair found bad)
        first _ _ (no_size pair found board) = subst (λ p. ComesFirst of at kind.BadSize (offset_of p)) (one_found found_size found) (beside kind.BadSize (offset_of sized) of_size)
        first other offset (in_node shape node board there f) = absurd (none shape board)
        first _ _ (second_move node pair there second) = elim (cons_cases root others node (subst (λ ns. Contains ns node) is there)) [
          | inl same ↦ beside kind.TwoMoves (offset_of pair) (of_moves pair (subst (λ (n : RawNode). IsSecond text n.pairs pair) (sym same) second))
          | inr later ↦ inl (behind node pair later second)
        ]

    -- the answer of a game without a board: the first of the size, the game and a second move of the root
    pub without_board : (game second : Option SgfFault) (size between result : SgfFault) → IsGameFault text (root_pairs raw) game → IsSecondMove text root.pairs second → size ≡ record { kind = kind.BadSize; at = offset_of sized } → (between ≡ size) ⊎ (game ≡ Some between) → between.at ≤ size.at → IfSome game (λ (g : SgfFault). between.at ≤ g.at) → (result ≡ between) ⊎ (second ≡ Some result) → result.at ≤ between.at → IfSome second (λ (t : SgfFault). result.at ≤ t.at) → IsFirstGameFault text raw result.kind result.at
    without_board game second size between result game_is second_is size_is one_of le_size le_game last le_between le_second = no_board_first result.kind result.at (answer last) least
      where
        game_part : (g : Option SgfFault) → IsGameFault text (root_pairs raw) g → g ≡ Some between → IsRootFault between.kind between.at
        game_part _ (same_game none_found) e = absurd (cc)
        game_part _ (roots.other_game pair found bad) e = let same : record { kind = kind.NotGo; at = offset_of pair } ≡ between = cc in subst (λ (f : SgfFault). IsRootFault f.kind f.at) same (of_game pair found bad)

        between_part : (between ≡ size) ⊎ (game ≡ Some between) → IsRootFault between.kind between.at
        between_part (inl e) = subst (λ (f : SgfFault). IsRootFault f.kind f.at) (sym (e ∙ size_is)) of_size
        between_part (inr e) = game_part game game_is e

        second_part : (t : Option SgfFault) → IsSecondMove text root.pairs t → t ≡ Some result → IsRootFault result.kind result.at
        second_part _ (one_at_most few) e = absurd (cc)
        second_part _ (second_stands pair stands) e = let same : record { kind = kind.TwoMoves; at = offset_of pair } ≡ result = cc in subst (λ (f : SgfFault). IsRootFault f.kind f.at) same (of_moves pair stands)

        answer : (result ≡ between) ⊎ (second ≡ Some result) → IsRootFault result.kind result.at
        answer (inl e) = subst (λ (f : SgfFault). IsRootFault f.kind f.at) (sym e) (between_part one_of)
        answer (inr e) = second_part second second_is e

        game_least : (g : Option SgfFault) → IsGameFault text (root_pairs raw) g → IfSome g (λ (f : SgfFault). between.at ≤ f.at) → (pair : Pair) → first_pair text raw (codes "GM") ≡ Some pair → IsOtherGame text pair → between.at ≤ offset_of pair
        game_least _ (same_game none_found) le pair found bad = absurd (none_found pair found bad)
        game_least _ (roots.other_game other found' bad') le pair found bad = subst (λ p. between.at ≤ offset_of p) (one_found found' found) le

        second_least : (t : Option SgfFault) → IsSecondMove text root.pairs t → IfSome t (λ (f : SgfFault). result.at ≤ f.at) → (pair : Pair) → IsSecond text root.pairs pair → result.at ≤ offset_of pair
        second_least _ (one_at_most few) le pair stands = absurd (few pair stands)
        second_least _ (second_stands other stands') le pair stands = subst (λ p. result.at ≤ offset_of p) (second_once text root.pairs other pair stands' stands) le

        least : (other : FaultKind) (offset : ℕ) → IsRootFault other offset → result.at ≤ offset
        least _ _ of_size = omega (arith, le_between, le_size, ap (λ (f : SgfFault). f.at) size_is)
        least _ _ (of_game pair found bad) = omega (arith, le_between, game_least game game_is le_game pair found bad)
        least _ _ (of_moves pair stands) = second_least second second_is le_second pair stands
