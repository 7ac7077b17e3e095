-- One byte leads the reader to what the scan's step gives.
use Rattle.std.proofs.Common.{◌≡◌, ℕ, suc, ◌<◌, ◌≤◌, List, [], ◌∷◌, ◌++◌, length, map, Option, Some, true, refl, sym, ap, ◌∙◌, subst, arith, length-append}
use Rattle.std.proofs.Common.{Result, Ok, Err}
use Rattle.std.specs.Result.{IsErrAnd}
use Rattle.std.proofs.lemmas.List.{map-append, length-map}
use Rattle.sgf_reader.specs.declared.collection.Span.{Span}
use Rattle.sgf_reader.specs.declared.collection.Pair.{Pair}
use Rattle.sgf_reader.specs.declared.collection.RawNode.{RawNode}
use Rattle.sgf_reader.specs.declared.collection.RawGame.{RawGame}
use Rattle.sgf_reader.specs.declared.fault.FaultKind.TheVariants as kind
use Rattle.sgf_reader.specs.declared.fault.SgfFault.{SgfFault}
use Rattle.sgf_reader.specs.Limits.{most_games, most_nodes, most_open}
use Rattle.sgf_reader.specs.declared.place.Phase as phases
use Rattle.sgf_reader.specs.declared.place.Phase.TheVariants as at
use Rattle.sgf_reader.specs.declared.place.Place as places
use Rattle.sgf_reader.specs.declared.place.Place.TheVariants as stands
use Rattle.sgf_reader.specs.declared.turn.Turn as turns
use Rattle.sgf_reader.specs.declared.turn.Turn.TheVariants as turn
use Rattle.sgf_reader.specs.Grammar.{SpelledGame, SpelledNode, raw_node, raw_game}
use Rattle.sgf_reader.specs.Scan.{Inside, Place, Outside, Within, Scan, Phase, AfterTree, step, step_within, at_phase, with_pair, with_node, with_bracket, closed}
use Rattle.sgf_reader.specs.Turn.{phase_of, apply_turn, is_in_node, StaysInNode, with_value}
use Rattle.sgf_reader.specs.Reading.{View, with_raw_pair, with_raw_node, with_raw_bracket, closed_view, closed_place, ShowsInside, ShowsPlace, none_open, inside, Shows, IsWithinLimits, few_outside, few_inside, Leads, refused, too_deep, too_many_nodes, StepsOn, StepFails}

-- an error that is passed on is the same one
pub same_error : {A B E : Type 0} (q : Result A E) (r : Result B E) (e f : E) → IsErrAnd r (λ x. x ≡ e) → q ≡ Err e → r ≡ Err f → q ≡ Err f
same_error q (Ok x) e f h was is = absurd h
same_error q (Err x) e f h was is = cc

-- a scan inside a tree, and the reader that shows it
pub record IsShown (v : View) (now : phases.Phase) (s : Scan) : Type 0 where
  pub i : Inside
  pub place : s.place ≡ Within i
  pub games : v.games ≡ map raw_game s.games
  pub shows : ShowsInside v now i
  pub few_games : length s.games < most_games
  pub few_open : length i.parents ≤ most_open
  pub few_nodes : length i.nodes ≤ most_nodes

from_parts : {v : View} {now : phases.Phase} (games : List SpelledGame) {place : Place} → v.games ≡ map raw_game games → ShowsPlace v (stands.Within now) place → IsWithinLimits (length games) place → IsShown v now (record { games = games; place = place })
from_parts games g (inside {s = i} shows) (few_inside a b c) = record { i = i; place = refl; games = g; shows = shows; few_games = a; few_open = b; few_nodes = c }

shown : (v : View) (now : phases.Phase) (s : Scan) → Shows v (stands.Within now) s → IsWithinLimits (length s.games) s.place → IsShown v now s
shown v now s h limits = from_parts s.games h.games h.place limits

-- what a turn means to the scan
abbrev pub Means : phases.Phase → ℕ → ℕ → turns.Turn → Type 0
Means now offset byte t = (games : List SpelledGame) (s : Inside) → step_within games s (phase_of now) offset byte ≡ apply_turn games s offset t

goes : (v : View) (now : phases.Phase) (s : Scan) (offset byte : ℕ) (t : turns.Turn) → Means now offset byte t → (h : IsShown v now s) → step s.games s.place offset byte ≡ apply_turn s.games h.i offset t
goes v now s offset byte t means h =
    let here : step_within s.games h.i h.i.phase offset byte ≡ apply_turn s.games h.i offset t = subst (λ (p : Phase). step_within s.games h.i p offset byte ≡ apply_turn s.games h.i offset t) (sym h.shows.phase) (means s.games h.i) in
    ap (λ (p : Place). step s.games p offset byte) h.place ∙ here

pub leads-stay : (v : View) (now : phases.Phase) (offset byte : ℕ) → Means now offset byte turn.Stay → StepsOn v (stands.Within now) offset byte v (stands.Within now)
leads-stay v now offset byte means = λ s shows limits.
    let h = shown v now s shows limits in
    record {
      next = record { games = s.games; place = Within h.i };
      goes = goes v now s offset byte turn.Stay means h;
      shows = record { games = h.games; place = inside h.shows };
      limits = few_inside h.few_games h.few_open h.few_nodes;
    }

pub leads-to : (v : View) (now next : phases.Phase) (offset byte : ℕ) → Means now offset byte (turn.To next) → StaysInNode (is_in_node now) (turn.To next) → StepsOn v (stands.Within now) offset byte v (stands.Within next)
leads-to v now next offset byte means stays = λ s shows limits.
    let h = shown v now s shows limits in
    record {
      next = record { games = s.games; place = Within (at_phase h.i (phase_of next)) };
      goes = goes v now s offset byte (turn.To next) means h;
      shows = record { games = h.games; place = inside (record { nodes = h.shows.nodes; parents = h.shows.parents; last = h.shows.last; phase = refl; reading = h.shows.reading ∙ (stays.0 ∙ sym stays.1); is_open = h.shows.is_open }) };
      limits = few_inside h.few_games h.few_open h.few_nodes;
    }

map-with_pair : (nodes : List SpelledNode) (pair : Pair) → map raw_node (with_pair nodes pair) ≡ with_raw_pair (map raw_node nodes) pair
map-with_pair [] pair = refl
map-with_pair (node ∷ []) pair = refl
map-with_pair (node ∷ other ∷ nodes) pair = ap (λ xs. raw_node node ∷ xs) (map-with_pair (other ∷ nodes) pair)

length-with_pair : (nodes : List SpelledNode) (pair : Pair) → length (with_pair nodes pair) ≡ length nodes
length-with_pair [] pair = refl
length-with_pair (node ∷ []) pair = refl
length-with_pair (node ∷ other ∷ nodes) pair = ap suc (length-with_pair (other ∷ nodes) pair)

few-with_pair : (nodes : List SpelledNode) (pair : Pair) → length nodes ≤ most_nodes → length (with_pair nodes pair) ≤ most_nodes
few-with_pair nodes pair few = rw (length-with_pair nodes pair) few

pub leads-value : (v read : View) (now : phases.Phase) (name : Span) (from offset byte : ℕ) → Means now offset byte (turn.EndValue name from) → StaysInNode (is_in_node now) (turn.EndValue name from) → (v.is_reading ≡ true → read ≡ record { games = v.games; nodes = with_raw_pair v.nodes (record { name = name; value = record { from = from; to = offset } }); is_reading = v.is_reading; parents = v.parents; last = v.last }) → StepsOn v (stands.Within now) offset byte read (stands.Within (at.AfterValue name))
leads-value v read now name from offset byte means stays by = λ s shows limits.
    let h = shown v now s shows limits in
    let pair : Pair = record { name = name; value = record { from = from; to = offset } } in
    let reading = h.shows.reading ∙ stays in
    rw (by reading) (record {
      next = record { games = s.games; place = Within (with_value h.i offset name from) };
      goes = goes v now s offset byte (turn.EndValue name from) means h;
      shows = record { games = h.games; place = inside (record { nodes = ap (λ (xs : List RawNode). with_raw_pair xs pair) h.shows.nodes ∙ sym (map-with_pair h.i.nodes pair); parents = h.shows.parents; last = h.shows.last; phase = refl; reading = reading; is_open = h.shows.is_open }) };
      limits = few_inside {s = with_value h.i offset name from} h.few_games h.few_open (few-with_pair h.i.nodes pair h.few_nodes);
    })

node-more : (raws : List RawNode) (nodes : List SpelledNode) (a b : Option ℕ) → raws ≡ map raw_node nodes → a ≡ b → (opened : Option ℕ) (at depth : ℕ) → raws ++ record { parent = a; pairs = [] } ∷ [] ≡ map raw_node (nodes ++ record { opened = opened; at = at; depth = depth; parent = b; pairs = [] } ∷ [])
node-more raws nodes a b e f opened at depth = rw (e, f) (sym (map-append raw_node nodes (record { opened = opened; at = at; depth = depth; parent = b; pairs = [] } ∷ [])))

both-more : {A : Type 0} (a b : A) (xs ys : List A) → a ≡ b → xs ≡ ys → a ∷ xs ≡ b ∷ ys
both-more a b xs ys e f = cc

pub leads-node : (v read : View) (now : phases.Phase) (opened : Option ℕ) (offset byte : ℕ) → Means now offset byte (turn.BeginNode opened) → read ≡ with_raw_node v → length v.nodes < most_nodes → StepsOn v (stands.Within now) offset byte read (stands.Within at.InNode)
leads-node v read now opened offset byte means by few = λ s shows limits.
    let h = shown v now s shows limits in
    let count : length v.nodes ≡ length h.i.nodes = ap length h.shows.nodes ∙ length-map h.i.nodes raw_node in
    let node : SpelledNode = record { opened = opened; at = offset; depth = length h.i.parents; parent = h.i.last; pairs = [] } in
    let longer = length-append h.i.nodes (node ∷ []) in
    let nodes : (with_raw_node v).nodes ≡ map raw_node (h.i.nodes ++ node ∷ []) = node-more v.nodes h.i.nodes v.last h.i.last h.shows.nodes h.shows.last opened offset (length h.i.parents) in
    rw by (record {
      next = record { games = s.games; place = Within (with_node h.i opened offset) };
      goes = goes v now s offset byte (turn.BeginNode opened) means h;
      shows = record { games = h.games; place = inside (record { nodes = nodes; parents = h.shows.parents; last = ap Some count; phase = refl; reading = refl; is_open = h.shows.is_open }) };
      limits = few_inside {s = with_node h.i opened offset} h.few_games h.few_open (omega arith);
    })

pub fails-node : (v : View) (now : phases.Phase) (opened : Option ℕ) (offset byte : ℕ) (f : SgfFault) → Means now offset byte (turn.BeginNode opened) → (f ≡ record { kind = kind.TooManyNodes; at = offset }) × (most_nodes ≤ length v.nodes) → StepFails v (stands.Within now) offset byte f
fails-node v now opened offset byte f means (is, many) = λ s shows limits.
    let h = shown v now s shows limits in
    let count : length v.nodes ≡ length h.i.nodes = ap length h.shows.nodes ∙ length-map h.i.nodes raw_node in
    let few = h.few_nodes in
    let most : length h.i.nodes ≡ most_nodes = omega arith in
    rw is (too_many_nodes h.i opened (goes v now s offset byte (turn.BeginNode opened) means h) most)

pub leads-open : (v read : View) (now : phases.Phase) (offset byte : ℕ) → Means now offset byte turn.Open → read ≡ with_raw_bracket v → length v.parents < most_open → StepsOn v (stands.Within now) offset byte read (stands.Within (at.Opened offset))
leads-open v read now offset byte means by few = λ s shows limits.
    let h = shown v now s shows limits in
    let count : length v.parents ≡ length h.i.parents = ap length h.shows.parents in
    let some = h.shows.is_open in
    let parents : (with_raw_bracket v).parents ≡ h.i.last ∷ h.i.parents = both-more v.last h.i.last v.parents h.i.parents h.shows.last h.shows.parents in
    rw by (record {
      next = record { games = s.games; place = Within (with_bracket h.i offset) };
      goes = goes v now s offset byte turn.Open means h;
      shows = record { games = h.games; place = inside (record { nodes = h.shows.nodes; parents = parents; last = h.shows.last; phase = refl; reading = refl; is_open = omega arith }) };
      limits = few_inside {s = with_bracket h.i offset} h.few_games (omega arith) h.few_nodes;
    })

pub fails-open : (v : View) (now : phases.Phase) (offset byte : ℕ) (f : SgfFault) → Means now offset byte turn.Open → (f ≡ record { kind = kind.TooDeep; at = offset }) × (most_open ≤ length v.parents) → StepFails v (stands.Within now) offset byte f
fails-open v now offset byte f means (is, many) = λ s shows limits.
    let h = shown v now s shows limits in
    let count : length v.parents ≡ length h.i.parents = ap length h.shows.parents in
    let few = h.few_open in
    let most : length h.i.parents ≡ most_open = omega arith in
    rw is (too_deep h.i (goes v now s offset byte turn.Open means h) most)

pub fails-refused : (v : View) (now : phases.Phase) (offset byte : ℕ) → Means now offset byte turn.Refuse → StepFails v (stands.Within now) offset byte (record { kind = kind.Unexpected; at = offset })
fails-refused v now offset byte means = λ s shows limits.
    let h = shown v now s shows limits in
    refused (goes v now s offset byte turn.Refuse means h)

game-more : (raws : List RawGame) (games : List SpelledGame) (raw_nodes : List RawNode) (nodes : List SpelledNode) → raws ≡ map raw_game games → raw_nodes ≡ map raw_node nodes → (at : ℕ) → raws ++ record { nodes = raw_nodes } ∷ [] ≡ map raw_game (games ++ record { at = at; nodes = nodes } ∷ [])
game-more raws games raw_nodes nodes e f at = rw (e, f) (sym (map-append raw_game games (record { at = at; nodes = nodes } ∷ [])))

parents-cases : (v read : View) (now : phases.Phase) (next : places.Place) (offset byte : ℕ) (s : Scan) (h : IsShown v now s) (parents : List (Option ℕ)) → h.i.parents ≡ parents → 1 ≤ length parents → step s.games s.place offset byte ≡ Some (closed s.games h.i parents) → read ≡ closed_view v parents → next ≡ closed_place parents → Leads s offset byte read next
parents-cases v read now next offset byte s h [] is some goes by to = absurd (omega arith)
parents-cases v read now next offset byte s h (parent ∷ []) is some goes by to =
    let games : v.games ++ record { nodes = v.nodes } ∷ [] ≡ map raw_game (s.games ++ record { at = h.i.at; nodes = h.i.nodes } ∷ []) = game-more v.games s.games v.nodes h.i.nodes h.games h.shows.nodes h.i.at in
    let longer = length-append s.games (record { at = h.i.at; nodes = h.i.nodes } ∷ []) in
    let few = h.few_games in
    rw (by, to) (record { next = record { games = s.games ++ record { at = h.i.at; nodes = h.i.nodes } ∷ []; place = Outside }; goes = goes; shows = record { games = games; place = none_open refl refl refl }; limits = few_outside (omega arith) })
parents-cases v read now next offset byte s h (parent ∷ other ∷ parents) is some goes by to =
    let few = h.few_open in
    let count : length h.i.parents ≡ length (parent ∷ other ∷ parents) = ap length is in
    let after : Inside = record { at = h.i.at; parents = other ∷ parents; last = parent; nodes = h.i.nodes; phase = AfterTree } in
    rw (by, to) (record {
      next = record { games = s.games; place = Within after };
      goes = goes;
      shows = record { games = h.games; place = inside {s = after} (record { nodes = h.shows.nodes; parents = refl; last = refl; phase = refl; reading = refl; is_open = omega arith }) };
      limits = few_inside {s = after} h.few_games (omega arith) h.few_nodes;
    })

pub leads-close : (v read : View) (now : phases.Phase) (next : places.Place) (offset byte : ℕ) → Means now offset byte turn.Close → read ≡ closed_view v v.parents → next ≡ closed_place v.parents → StepsOn v (stands.Within now) offset byte read next
leads-close v read now next offset byte means by to = λ s shows limits.
    let h = shown v now s shows limits in
    let parents = h.shows.parents in
    let read_by : read ≡ closed_view v h.i.parents = by ∙ ap (λ (ps : List (Option ℕ)). closed_view v ps) parents in
    let to_by : next ≡ closed_place h.i.parents = to ∙ ap closed_place parents in
    parents-cases v read now next offset byte s h h.i.parents refl h.shows.is_open (goes v now s offset byte turn.Close means h) read_by to_by
