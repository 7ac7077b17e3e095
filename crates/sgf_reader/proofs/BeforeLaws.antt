-- How a reader comes to stand behind a `(` where a tree may begin, and to a game's first node.
use Rattle.std.proofs.Common.{◌≡◌, ◌⊎◌, ℕ, zero, suc, ◌+◌, ◌<◌, ◌≤◌, List, [], ◌∷◌, ◌++◌, length, take, slice_index, Option, Some, None, option_and_then, refl, sym, ap, ◌∙◌, subst, arith, inl, inr, add-one, add-zero, ◌-◌}
use Rattle.std.specs.Prelude.{⊤}
use Rattle.std.proofs.Math.Seq.{take-suc}
use Rattle.std.proofs.lemmas.Bool.{cases_lt}
use Rattle.sgf_reader.specs.declared.collection.Pair.{Pair}
use Rattle.sgf_reader.specs.Grammar.{SpelledGame, SpelledNode}
use Rattle.sgf_reader.specs.Scan.{Scan, Place, Outside, Before, Within, Inside, with_pair, closed, scan, at_start, begun}
use Rattle.sgf_reader.proofs.Scans.{scan-append}
use Rattle.sgf_reader.proofs.ReadTo.{scan-more}
use Rattle.sgf_reader.proofs.Ways.{Way, step-way, inside, out}
use Rattle.sgf_reader.proofs.Reached.{keeps, Change, changes}

some_or_none : {A : Type 0} (o : Option A) → (o ≡ None) ⊎ ((x : A) × (o ≡ Some x))
some_or_none None = inl refl
some_or_none (Some x) = inr (x, refl)

no_some : {A : Type 0} (y : A) → None ≡ Some y → ⊥
no_some y e = cc

then_some : {A B : Type 0} (f : A → Option B) (o : Option A) (y : B) → option_and_then f o ≡ Some y → (x : A) × (o ≡ Some x)
then_some f None y e = absurd (no_some y e)
then_some f (Some x) y e = (x, refl)

-- the step that led here
pub record Back (text : List ℕ) (count : ℕ) (t : Scan) : Type 0 where
  pub s : Scan
  pub scans : scan at_start 0 (take count text) ≡ Some s
  pub way : Way s.games count (slice_index text count) s.place t

pub back : (text : List ℕ) (count : ℕ) (t : Scan) → count < length text → scan at_start 0 (take (count + 1) text) ≡ Some t → Back text count t
back text count t there e =
    let one = slice_index text count ∷ [] in
    let taken : take (count + 1) text ≡ take count text ++ one = rw add-one (take-suc text count 0 there) in
    let split = sym (scan-append at_start 0 (take count text) one) ∙ (ap (λ (xs : List ℕ). scan at_start 0 xs) (sym taken) ∙ e) in
    let before = then_some (λ (u : Scan). scan u (0 + length (take count text)) one) (scan at_start 0 (take count text)) t split in
    let goes = sym (scan-more text count before.0 there before.1) ∙ e in
    record { s = before.0; scans = before.1; way = step-way before.0.games before.0.place count (slice_index text count) t goes }

-- the first bytes of what was scanned are scanned
pub scans-before : (text : List ℕ) (more count : ℕ) (t : Scan) → count + more ≤ length text → scan at_start 0 (take (count + more) text) ≡ Some t → (s : Scan) × (scan at_start 0 (take count text) ≡ Some s)
scans-before text zero count t there e = (t, rw add-zero at e)
scans-before text (suc more) count t there e =
    let same : count + suc more ≡ (count + more) + 1 = omega arith in
    let last = back text (count + more) t (omega arith) (subst (λ (k : ℕ). scan at_start 0 (take k text) ≡ Some t) same e) in
    scans-before text more count last.s (omega arith) last.scans

pub scans-prefix : (text : List ℕ) (count to : ℕ) (t : Scan) → count ≤ to → to ≤ length text → scan at_start 0 (take to text) ≡ Some t → (s : Scan) × (scan at_start 0 (take count text) ≡ Some s)
scans-prefix text count to t low there e =
    let same : to ≡ count + (to - count) = omega arith in
    scans-before text (to - count) count t (omega arith) (subst (λ (k : ℕ). scan at_start 0 (take k text) ≡ Some t) same e)

-- ---- the first node of a game begins before each later byte

HeadBelow : ℕ → List SpelledNode → Type 0
HeadBelow count [] = ⊥
HeadBelow count (node ∷ nodes) = node.at < count

PlaceBelow : ℕ → Place → Type 0
PlaceBelow count Outside = ⊤
PlaceBelow count (Before from) = ⊤
PlaceBelow count (Within s) = HeadBelow count s.nodes

head-more : (count : ℕ) (nodes : List SpelledNode) → HeadBelow count nodes → HeadBelow (count + 1) nodes
unfolding HeadBelow
head-more count [] h = h
head-more count (node ∷ nodes) h = omega arith

place-more : (count : ℕ) (place : Place) → PlaceBelow count place → PlaceBelow (count + 1) place
unfolding PlaceBelow
place-more count Outside h = h
place-more count (Before from) h = h
place-more count (Within s) h = head-more count s.nodes h

head-pair : (count : ℕ) (nodes : List SpelledNode) (pair : Pair) → HeadBelow count nodes → HeadBelow count (with_pair nodes pair)
unfolding HeadBelow
head-pair count [] pair h = h
head-pair count (node ∷ []) pair h = h
head-pair count (node ∷ other ∷ nodes) pair h = h

head-append : (count : ℕ) (nodes more : List SpelledNode) → HeadBelow count nodes → HeadBelow count (nodes ++ more)
unfolding HeadBelow
head-append count [] more h = absurd h
head-append count (node ∷ nodes) more h = h

closed-below : (count : ℕ) (games : List SpelledGame) (s : Inside) (parents : List (Option ℕ)) → HeadBelow count s.nodes → PlaceBelow count (closed games s parents).place
unfolding PlaceBelow
closed-below count games s [] h = tt
closed-below count games s (parent ∷ []) h = tt
closed-below count games s (parent ∷ other ∷ parents) h = h

change-below : (count : ℕ) (games : List SpelledGame) (s : Inside) (at : ℕ) (t : Scan) → HeadBelow count s.nodes → Change games s at t → PlaceBelow count t.place
unfolding PlaceBelow
change-below count games s at t h (Change.moves m) = h
change-below count games s at t h (Change.gains e) = head-pair count s.nodes _ h
change-below count games s at t h (Change.begins n) = head-append count s.nodes _ h
change-below count games s at t h (Change.opens e) = h
change-below count games s at t h (Change.closes e) = closed-below count games s s.parents h

way-below : (games : List SpelledGame) (at b : ℕ) (place : Place) (t : Scan) → PlaceBelow at place → Way games at b place t → PlaceBelow (at + 1) t.place
unfolding PlaceBelow HeadBelow
way-below games at b place t h (Way.out_open e) = tt
way-below games at b place t h (Way.out_skip e) = tt
way-below games at b place t h (Way.before_white e) = tt
way-below games at b place t h (Way.before_node e) = omega arith
way-below games at b place t h (Way.before_open e) = tt
way-below games at b place t h (Way.before_skip e f g) = tt
way-below games at b place t h (Way.way_in {s = s} w) = place-more at t.place (change-below at games s at t h (changes games s at b t w))

below : (text : List ℕ) (count : ℕ) (s : Scan) → count ≤ length text → scan at_start 0 (take count text) ≡ Some s → PlaceBelow count s.place
unfolding PlaceBelow
below text count s there e = keeps text (λ k u. PlaceBelow k u.place) tt (λ k u t st o. way-below u.games k st.way.0 u.place t o st.way.1) count s there (record { scans = e })

-- a reader at this place, behind these games
pub record StandsAs (s : Scan) (games : List SpelledGame) (place : Place) : Type 0 where
  pub games_are : s.games ≡ games
  pub place_is : s.place ≡ place

not_below : (at : ℕ) → at < at → ⊥
not_below at h = omega arith

-- where a game's first node begins
begun-way : (old : List SpelledGame) (at b : ℕ) (place : Place) (t : Scan) (games : List SpelledGame) (from : ℕ) → PlaceBelow at place → Way old at b place t → t ≡ inside games (begun from at) → StandsAs (out old place) games (Before from) × (b ≡ 59)
unfolding PlaceBelow HeadBelow
begun-way old at b place t games from h (Way.out_open e) is = (let places = ap (λ (u : Scan). u.place) is in absurd (cc))
begun-way old at b place t games from h (Way.out_skip e) is = (let places = ap (λ (u : Scan). u.place) is in absurd (cc))
begun-way old at b place t games from h (Way.before_white e) is = (let places = ap (λ (u : Scan). u.place) is in absurd (cc))
begun-way old at b place t games from h (Way.before_node {from = now} e) is =
    let places : Within (begun now at) ≡ Within (begun from at) = ap (λ (u : Scan). u.place) is in
    let insides : begun now at ≡ begun from at = cc in
    let same : now ≡ from = ap (λ (i : Inside). i.at) insides in
    (record { games_are = ap (λ (u : Scan). u.games) is; place_is = ap Before same }, e)
begun-way old at b place t games from h (Way.before_open e) is = (let places = ap (λ (u : Scan). u.place) is in absurd (cc))
begun-way old at b place t games from h (Way.before_skip e f g) is = (let places = ap (λ (u : Scan). u.place) is in absurd (cc))
begun-way old at b place t games from h (Way.way_in {s = s} w) is =
    let low : PlaceBelow at (Within (begun from at)) = subst (λ (u : Scan). PlaceBelow at u.place) is (change-below at old s at t h (changes old s at b t w)) in
    absurd (not_below at low)

scan_is : (s : Scan) (games : List SpelledGame) (place : Place) → s.games ≡ games → s.place ≡ place → s ≡ out games place
scan_is s games place e f = subst (λ (g : List SpelledGame). s ≡ out g place) e (subst (λ (p : Place). s ≡ out s.games p) f refl)

-- behind a game's first node: it stands behind the `(` and white space
pub record BegunBack (text : List ℕ) (root from : ℕ) (games : List SpelledGame) : Type 0 where
  pub scans : scan at_start 0 (take root text) ≡ Some (out games (Before from))
  pub semicolon : slice_index text root ≡ 59

pub begun-back : (text : List ℕ) (root from : ℕ) (games : List SpelledGame) → root < length text → scan at_start 0 (take (root + 1) text) ≡ Some (inside games (begun from root)) → BegunBack text root from games
begun-back text root from games there e =
    let last = back text root (inside games (begun from root)) there e in
    let h = begun-way last.s.games root (slice_index text root) last.s.place (inside games (begun from root)) games from (below text root last.s (omega arith) last.scans) last.way refl in
    let same : last.s ≡ out games (Before from) = scan_is last.s games (Before from) h.0.games_are h.0.place_is in
    record { scans = last.scans ∙ ap (λ (u : Scan). Some u) same; semicolon = h.1 }

-- ---- a reader behind a `(`

closed-not_before : (games : List SpelledGame) (s : Inside) (parents : List (Option ℕ)) (from : ℕ) → (closed games s parents).place ≡ Before from → ⊥
closed-not_before games s [] from is = cc
closed-not_before games s (parent ∷ []) from is = cc
closed-not_before games s (parent ∷ other ∷ parents) from is = cc

pub change-not_before : (games : List SpelledGame) (s : Inside) (at : ℕ) (t : Scan) (from : ℕ) → Change games s at t → t.place ≡ Before from → ⊥
change-not_before games s at t from (Change.moves m) is = cc
change-not_before games s at t from (Change.gains e) is = cc
change-not_before games s at t from (Change.begins n) is = cc
change-not_before games s at t from (Change.opens e) is = cc
change-not_before games s at t from (Change.closes e) is = closed-not_before games s s.parents from is

before-way : (old : List SpelledGame) (at b : ℕ) (place : Place) (t : Scan) (games : List SpelledGame) (from : ℕ) → Way old at b place t → t ≡ out games (Before from) → (from ≡ at) ⊎ (StandsAs (out old place) games (Before from) × (b ≤ 32))
before-way old at b place t games from (Way.out_open e) is = inl (let places : Before at ≡ Before from = ap (λ (u : Scan). u.place) is in cc)
before-way old at b place t games from (Way.out_skip e) is = (let places = ap (λ (u : Scan). u.place) is in absurd (cc))
before-way old at b place t games from (Way.before_white {from = now} e) is = inr (record { games_are = ap (λ (u : Scan). u.games) is; place_is = ap (λ (u : Scan). u.place) is }, e)
before-way old at b place t games from (Way.before_node e) is = (let places = ap (λ (u : Scan). u.place) is in absurd (cc))
before-way old at b place t games from (Way.before_open e) is = inl (let places : Before at ≡ Before from = ap (λ (u : Scan). u.place) is in cc)
before-way old at b place t games from (Way.before_skip e f g) is = (let places = ap (λ (u : Scan). u.place) is in absurd (cc))
before-way old at b place t games from (Way.way_in {s = s} w) is = absurd (change-not_before old s at t from (changes old s at b t w) (ap (λ (u : Scan). u.place) is))

-- since that `(` the reader stands there, over white space
pub record StandsSince (text : List ℕ) (count from : ℕ) (games : List SpelledGame) : Type 0 where
  pub less : from < count
  pub white : (k : ℕ) → from < k → k < count → slice_index text k ≤ 32
  pub same : (k : ℕ) → from < k → k ≤ count → scan at_start 0 (take k text) ≡ Some (out games (Before from))

no_start : (games : List SpelledGame) (from : ℕ) → Some at_start ≡ Some (out games (Before from)) → ⊥
no_start games from e =
    let same : at_start ≡ out games (Before from) = cc in
    let places = ap (λ (u : Scan). u.place) same in
    cc

since-more : (text : List ℕ) (count from : ℕ) (games : List SpelledGame) → StandsSince text count from games → slice_index text count ≤ 32 → scan at_start 0 (take (suc count) text) ≡ Some (out games (Before from)) → StandsSince text (suc count) from games
since-more text count from games h white e = record {
  less = omega (arith, h.less);
  white = λ k low high. elim (cases_lt k count) [ inl less ↦ h.white k low less | inr past ↦ (let is : count ≡ k = omega arith in subst (λ (m : ℕ). slice_index text m ≤ 32) is white) ];
  same = λ k low high. elim (cases_lt count k) [ inr less ↦ h.same k low less | inl past ↦ (let is : suc count ≡ k = omega arith in subst (λ (m : ℕ). scan at_start 0 (take m text) ≡ Some (out games (Before from))) is e) ];
}

pub before-back : (text : List ℕ) (count from : ℕ) (games : List SpelledGame) → count ≤ length text → scan at_start 0 (take count text) ≡ Some (out games (Before from)) → StandsSince text count from games
before-back text zero from games there e = absurd (no_start games from e)
before-back text (suc count) from games there e =
    let one : suc count ≡ count + 1 = omega arith in
    let last = back text count (out games (Before from)) (omega arith) (subst (λ (k : ℕ). scan at_start 0 (take k text) ≡ Some (out games (Before from))) one e) in
    elim (before-way last.s.games count (slice_index text count) last.s.place (out games (Before from)) games from last.way refl) [
      | inl new ↦ record {
        less = omega arith;
        white = λ k low high. absurd (omega arith);
        same = λ k low high. (let is : suc count ≡ k = omega arith in subst (λ (m : ℕ). scan at_start 0 (take m text) ≡ Some (out games (Before from))) is e);
      }
      | inr old ↦
          let is = scan_is last.s games (Before from) old.0.games_are old.0.place_is in
          let h = before-back text count from games (omega arith) (last.scans ∙ ap (λ (u : Scan). Some u) is) in
          since-more text count from games h old.1 e
    ]
