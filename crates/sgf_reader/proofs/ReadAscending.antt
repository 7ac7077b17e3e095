-- The values of a text stand in ascending order.
use Rattle.std.proofs.Common.{◌≡◌, ℕ, ◌+◌, ◌<◌, ◌≤◌, ap, sym, subst, refl, ◌∙◌, arith, List, [], ◌∷◌, ◌++◌, length, length-append, append_assoc, append-nil, Option, All, AllPairs, flat_map}
use Rattle.std.proofs.lemmas.Grind.{flat_map-append}
use Rattle.std.proofs.lemmas.List.Elements.{All-nil, All-push, All-weaker}
use Rattle.std.proofs.lemmas.List.Quantifiers.{all_pairs_push}
use Rattle.sgf_reader.specs.declared.collection.Span.{Span}
use Rattle.sgf_reader.specs.declared.collection.Pair.{Pair}
use Rattle.sgf_reader.specs.Grammar.{SpelledGame, SpelledNode, HasGames}
use Rattle.sgf_reader.specs.Scan.{Scan, Place, Outside, Before, Within, Inside, Phase, Opened, InNode, InName, AfterName, InValue, Escaped, AfterValue, AfterTree, with_pair, with_node, closed, IsOutside}
use Rattle.sgf_reader.proofs.Ways.{behind_value, Way}
use Rattle.sgf_reader.proofs.SpelledNodes.{with_pair-length}
use Rattle.sgf_reader.proofs.SpelledScans.{spelled-scans}
use Rattle.sgf_reader.proofs.Reached.{Reached, keeps, reached-whole, HasOpen, reached-open, Moves, Change, changes}

-- the values of these nodes
abbrev pub pairs_of_nodes : List SpelledNode → List Pair
pairs_of_nodes nodes = flat_map (λ (node : SpelledNode). node.pairs) nodes

-- the values of these games
abbrev pub all_pairs : List SpelledGame → List Pair
all_pairs games = flat_map (λ (game : SpelledGame). pairs_of_nodes game.nodes) games

-- the first value begins before the second
abbrev pub IsBefore : Pair → Pair → Type 0
IsBefore a b = a.value.from < b.value.from

-- ---- each place

-- the values read begin before this offset
abbrev bound : Phase → ℕ → ℕ
bound (Opened from) count = count
bound InNode count = count
bound (InName from upper) count = count
bound (AfterName name) count = count
bound (InValue name from) count = from
bound (Escaped name from) count = from
bound (AfterValue name) count = count
bound AfterTree count = count

-- in order, and all before this offset
record Ascend (pairs : List Pair) (end : ℕ) : Type 0 where
  order : AllPairs IsBefore pairs
  below : All (λ (pair : Pair). pair.value.from < end) pairs

record AscendIn (count : ℕ) (games : List SpelledGame) (s : Inside) : Type 0 where
  some : 1 ≤ length s.nodes
  fits : bound s.phase count ≤ count
  values : Ascend (all_pairs games ++ pairs_of_nodes s.nodes) (bound s.phase count)

abbrev PlaceAscends : ℕ → List SpelledGame → Place → Type 0
PlaceAscends count games Outside = Ascend (all_pairs games) count
PlaceAscends count games (Before from) = Ascend (all_pairs games) count
PlaceAscends count games (Within s) = AscendIn count games s

ascend-later : (pairs : List Pair) (end more : ℕ) → end ≤ more → Ascend pairs end → Ascend pairs more
ascend-later pairs end more h a = record { order = a.order; below = All-weaker (λ (pair : Pair). pair.value.from < end) (λ (pair : Pair). pair.value.from < more) (λ pair l. omega arith) pairs a.below }

ascend-same : (pairs others : List Pair) (end : ℕ) → pairs ≡ others → Ascend pairs end → Ascend others end
ascend-same pairs others end e a = subst (λ (ps : List Pair). Ascend ps end) e a

ascend-push : (pairs : List Pair) (pair : Pair) (end : ℕ) → pair.value.from < end → Ascend pairs pair.value.from → Ascend (pairs ++ pair ∷ []) end
ascend-push pairs pair end h a = record {
  order = all_pairs_push IsBefore pairs pair a.order (λ k d l. a.below k d l);
  below = All-push (λ (p : Pair). p.value.from < end) pairs pair (ascend-later pairs pair.value.from end (omega arith) a).below h;
}

-- ---- one byte

pair-pairs : (nodes : List SpelledNode) (pair : Pair) → 1 ≤ length nodes → pairs_of_nodes (with_pair nodes pair) ≡ pairs_of_nodes nodes ++ pair ∷ []
pair-pairs [] pair h = absurd (omega arith)
pair-pairs (x ∷ []) pair h = append-nil (x.pairs ++ pair ∷ []) ∙ ap (λ (ps : List Pair). ps ++ pair ∷ []) (sym (append-nil x.pairs))
pair-pairs (x ∷ y ∷ nodes) pair h = ap (λ (ps : List Pair). x.pairs ++ ps) (pair-pairs (y ∷ nodes) pair (omega arith)) ∙ sym (append_assoc x.pairs (pairs_of_nodes (y ∷ nodes)) (pair ∷ []))

node-pairs : (nodes : List SpelledNode) (node : SpelledNode) → node.pairs ≡ [] → pairs_of_nodes (nodes ++ node ∷ []) ≡ pairs_of_nodes nodes
node-pairs nodes node e =
    flat_map-append (λ (n : SpelledNode). n.pairs) nodes (node ∷ [])
    ∙ ap (λ (ps : List Pair). pairs_of_nodes nodes ++ (ps ++ [])) e
    ∙ append-nil (pairs_of_nodes nodes)

game-pairs : (games : List SpelledGame) (game : SpelledGame) → all_pairs games ++ pairs_of_nodes game.nodes ≡ all_pairs (games ++ game ∷ [])
game-pairs games game =
    ap (λ (ps : List Pair). all_pairs games ++ ps) (sym (append-nil (pairs_of_nodes game.nodes)))
    ∙ sym (flat_map-append (λ (g : SpelledGame). pairs_of_nodes g.nodes) games (game ∷ []))

bound-later : (phase : Phase) (count : ℕ) → bound phase count ≤ count → (bound phase count ≤ bound phase (count + 1)) × (bound phase (count + 1) ≤ count + 1)
bound-later (Opened from) count h = (omega arith, omega arith)
bound-later InNode count h = (omega arith, omega arith)
bound-later (InName from upper) count h = (omega arith, omega arith)
bound-later (AfterName name) count h = (omega arith, omega arith)
bound-later (InValue name from) count h = (omega arith, omega arith)
bound-later (Escaped name from) count h = (omega arith, omega arith)
bound-later (AfterValue name) count h = (omega arith, omega arith)
bound-later AfterTree count h = (omega arith, omega arith)

moved-bound : (s : Inside) (count : ℕ) (phase : Phase) → bound s.phase count ≤ count → Moves s count phase → (bound s.phase count ≤ bound phase (count + 1)) × (bound phase (count + 1) ≤ count + 1)
moved-bound s count phase h Moves.stays = bound-later s.phase count h
moved-bound s count phase h (Moves.to_name e) = (omega arith, omega arith)
moved-bound s count phase h (Moves.on_name e) = (omega arith, omega arith)
moved-bound s count phase h (Moves.named e) = (omega arith, omega arith)
moved-bound s count phase h (Moves.named_value e) = (omega arith, omega arith)
moved-bound s count phase h (Moves.value e) = (omega arith, omega arith)
moved-bound s count phase h (Moves.escape {name = name} {from = from} e) = let same : bound s.phase count ≡ from = ap (λ (ph : Phase). bound ph count) e in (omega (arith, same), omega (arith, same))
moved-bound s count phase h (Moves.unescape {name = name} {from = from} e) = let same : bound s.phase count ≡ from = ap (λ (ph : Phase). bound ph count) e in (omega (arith, same), omega (arith, same))

gains-ascend : (games : List SpelledGame) (s : Inside) (count : ℕ) (name : Span) (from : ℕ) → s.phase ≡ InValue name from → AscendIn count games s → AscendIn (count + 1) games (behind_value s name from count)
gains-ascend games s count name from e i =
    let pair : Pair = record { name = name; value = record { from = from; to = count } } in
    let same : bound s.phase count ≡ from = ap (λ (ph : Phase). bound ph count) e in
    let old : Ascend (all_pairs games ++ pairs_of_nodes s.nodes) from = subst (Ascend (all_pairs games ++ pairs_of_nodes s.nodes)) same i.values in
    let is : (all_pairs games ++ pairs_of_nodes s.nodes) ++ pair ∷ [] ≡ all_pairs games ++ pairs_of_nodes (with_pair s.nodes pair) = append_assoc (all_pairs games) (pairs_of_nodes s.nodes) (pair ∷ []) ∙ ap (λ (ps : List Pair). all_pairs games ++ ps) (sym (pair-pairs s.nodes pair i.some)) in
    record {
      some = omega (arith, i.some, with_pair-length s.nodes pair);
      fits = omega arith;
      values = ascend-same ((all_pairs games ++ pairs_of_nodes s.nodes) ++ pair ∷ []) (all_pairs games ++ pairs_of_nodes (with_pair s.nodes pair)) (count + 1) is (ascend-push (all_pairs games ++ pairs_of_nodes s.nodes) pair (count + 1) (omega (arith, same, i.fits)) old);
    }

begins-ascend : (games : List SpelledGame) (s : Inside) (count : ℕ) (opened : Option ℕ) → AscendIn count games s → AscendIn (count + 1) games (with_node s opened count)
begins-ascend games s count opened i =
    let node : SpelledNode = record { opened = opened; at = count; depth = length s.parents; parent = s.last; pairs = [] } in
    record {
      some = omega (arith, length-append s.nodes (node ∷ []));
      fits = omega arith;
      values = ascend-same (all_pairs games ++ pairs_of_nodes s.nodes) (all_pairs games ++ pairs_of_nodes (s.nodes ++ node ∷ [])) (count + 1) (ap (λ (ps : List Pair). all_pairs games ++ ps) (sym (node-pairs s.nodes node refl))) (ascend-later (all_pairs games ++ pairs_of_nodes s.nodes) (bound s.phase count) (count + 1) (omega (arith, i.fits)) i.values);
    }

closed-ascend : (games : List SpelledGame) (s : Inside) (count : ℕ) (parents : List (Option ℕ)) → 1 ≤ length parents → AscendIn count games s → PlaceAscends (count + 1) (closed games s parents).games (closed games s parents).place
closed-ascend games s count [] h i = absurd (omega arith)
closed-ascend games s count (p ∷ []) h i = ascend-same (all_pairs games ++ pairs_of_nodes s.nodes) (all_pairs (games ++ record { at = s.at; nodes = s.nodes } ∷ [])) (count + 1) (game-pairs games (record { at = s.at; nodes = s.nodes })) (ascend-later (all_pairs games ++ pairs_of_nodes s.nodes) (bound s.phase count) (count + 1) (omega (arith, i.fits)) i.values)
closed-ascend games s count (p ∷ q ∷ parents) h i = record { some = i.some; fits = omega arith; values = ascend-later (all_pairs games ++ pairs_of_nodes s.nodes) (bound s.phase count) (count + 1) (omega (arith, i.fits)) i.values }

change-ascend : (games : List SpelledGame) (s : Inside) (count : ℕ) (t : Scan) → 1 ≤ length s.parents → Change games s count t → AscendIn count games s → PlaceAscends (count + 1) t.games t.place
change-ascend games s count t h (Change.moves {phase = phase} m) i =
    let b = moved-bound s count phase i.fits m in
    record { some = i.some; fits = b.1; values = ascend-later (all_pairs games ++ pairs_of_nodes s.nodes) (bound s.phase count) (bound phase (count + 1)) b.0 i.values }
change-ascend games s count t h (Change.gains {name = name} {from = from} e) i = gains-ascend games s count name from e i
change-ascend games s count t h (Change.begins {opened = opened} n) i = begins-ascend games s count opened i
change-ascend games s count t h (Change.opens e) i = record { some = i.some; fits = omega arith; values = ascend-later (all_pairs games ++ pairs_of_nodes s.nodes) (bound s.phase count) (count + 1) (omega (arith, i.fits)) i.values }
change-ascend games s count t h (Change.closes e) i = closed-ascend games s count s.parents h i

way-ascends : (games : List SpelledGame) (count b : ℕ) (place : Place) (t : Scan) → HasOpen place → Way games count b place t → PlaceAscends count games place → PlaceAscends (count + 1) t.games t.place
way-ascends games count b place t h (Way.out_open e) i = ascend-later (all_pairs games) count (count + 1) (omega arith) i
way-ascends games count b place t h (Way.out_skip e) i = ascend-later (all_pairs games) count (count + 1) (omega arith) i
way-ascends games count b place t h (Way.before_white e) i = ascend-later (all_pairs games) count (count + 1) (omega arith) i
way-ascends games count b place t h (Way.before_node {from = from} e) i = record { some = omega arith; fits = omega arith; values = ascend-same (all_pairs games) (all_pairs games ++ []) (count + 1) (sym (append-nil (all_pairs games))) (ascend-later (all_pairs games) count (count + 1) (omega arith) i) }
way-ascends games count b place t h (Way.before_open e) i = ascend-later (all_pairs games) count (count + 1) (omega arith) i
way-ascends games count b place t h (Way.before_skip e f k) i = ascend-later (all_pairs games) count (count + 1) (omega arith) i
way-ascends games count b place t h (Way.way_in {s = s} w) i = change-ascend games s count t h (changes games s count b t w) i

reached-ascends : (text : List ℕ) (count : ℕ) (s : Scan) → count ≤ length text → Reached text count s → PlaceAscends count s.games s.place
reached-ascends text count s h r =
    keeps text (λ k u. PlaceAscends k u.games u.place) (record { order = λ i j d l m. absurd (omega arith); below = All-nil (λ (pair : Pair). pair.value.from < 0) })
    (λ k u t st i. way-ascends u.games k st.way.0 u.place t (reached-open text k u (omega (arith, st.fits)) st.old) st.way.1 i) count s h r

outside-ascends : (count : ℕ) (games : List SpelledGame) (place : Place) → IsOutside place → PlaceAscends count games place → AllPairs IsBefore (all_pairs games)
outside-ascends count games place IsOutside.outside a = a.order
outside-ascends count games place IsOutside.before a = a.order

-- the values of the games that a text has begin one behind the other
pub read-ascending : (text : List ℕ) (games : List SpelledGame) → HasGames 0 text games → AllPairs IsBefore (all_pairs games)
read-ascending text games h =
    let scanned = spelled-scans text games h in
    let last : Scan = record { games = games; place = scanned.0 } in
    outside-ascends (length text) games scanned.0 scanned.1 (reached-ascends text (length text) last (omega arith) (reached-whole text last scanned.2))
