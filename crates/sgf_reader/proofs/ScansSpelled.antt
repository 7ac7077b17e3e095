-- What the scan reads the grammar spells.
use Rattle.std.proofs.Common.{◌≡◌, ◌≢◌, ◌⊎◌, inl, inr, ℕ, ◌+◌, ◌<◌, ◌≤◌, Bool, true, ◌||◌, ap, sym, subst, refl, ◌∙◌, arith, List, [], ◌∷◌, ◌++◌, length, suc, Some, Option, All, Any, get_or, append_assoc, append-nil, length-append}
use Rattle.std.proofs.lemmas.List.{get_or_at}
use Rattle.std.specs.Prelude.{⊤}
use Rattle.std.proofs.lemmas.Bool.{or_cases}
use Rattle.std.proofs.lemmas.List.Elements.{All-nil, All-cons, All-head, All-tail, All-push}
use Rattle.sgf_reader.specs.Grammar.{HasGames, SpelledGame, SpelledNode, IsWhite, IsUpper, IsLetter, IsIdentifier, IsValue}
use Rattle.sgf_reader.specs.Scan.{Scan, Place, Outside, Before, Within, Inside, Phase, Opened, InNode, InName, AfterName, InValue, Escaped, AfterValue, AfterTree, IsOutside, outside, before, is_upper, closed, scan, at_start}
use Rattle.sgf_reader.proofs.Scans.{Leads-head}
use Rattle.sgf_reader.proofs.Steps.{within_at}
use Rattle.sgf_reader.proofs.Ways.{WayBetween, bracket, close, WayNode, node, letter, between, WayIn, opened_white, opened_node, node_white, node_on, name_letter, name_white, name_value, after_name_white, after_name_value, value_end, value_escape, value_byte, escaped, after_value_white, after_value_value, after_value_on, tree_white, tree_on, Way, out_open, out_skip, before_white, before_node, before_open, before_skip, way_in, step-way, upper-from}
use Rattle.sgf_reader.proofs.Shapes.{Values, Properties, Nodes, Tree, Games, games-marked, Then, Closing, closing-close, closing-tree, nodes-node, nodes-none, properties-none, values-none, values-value, properties-property, tree-begins}
use Rattle.sgf_reader.proofs.SpelledScans.{spelled-scans}

-- ---- what is left to read at each place

-- behind a bracket that closes one of these
abbrev Open : List (Option ℕ) → List ℕ → Type 0
Open [] = Games
Open (parent ∷ parents) = Closing (Open parents)

-- behind a property
abbrev AfterProperty : (List ℕ → Type 0) → List ℕ → Type 0
AfterProperty K = Then Properties (Then Nodes (Closing K))

-- behind a value
abbrev Valued : (List ℕ → Type 0) → List ℕ → Type 0
Valued K = Then Values (AfterProperty K)

-- in a value
record ValueRest (K : List ℕ → Type 0) (text : List ℕ) : Type 0 where
  value : List ℕ
  back : List ℕ
  is : text ≡ value ++ 93 ∷ back
  spelled : IsValue value
  rest : (white : List ℕ) → IsWhite white → Valued K (white ++ back)

-- behind an identifier
record FirstValue (K : List ℕ → Type 0) (text : List ℕ) : Type 0 where
  white : List ℕ
  value : List ℕ
  back : List ℕ
  is : text ≡ white ++ 91 ∷ (value ++ 93 ∷ back)
  blank : IsWhite white
  spelled : IsValue value
  rest : Valued K back

-- in an identifier
record NameRest (K : List ℕ → Type 0) (upper : Bool) (text : List ℕ) : Type 0 where
  letters : List ℕ
  back : List ℕ
  is : text ≡ letters ++ back
  all : All IsLetter letters
  any : (upper ≡ true) ⊎ Any IsUpper letters
  rest : FirstValue K back

-- within a tree
abbrev RestIn : (List ℕ → Type 0) → Phase → List ℕ → Type 0
RestIn K (Opened from) text = (white : List ℕ) → IsWhite white → Then Tree K (40 ∷ (white ++ text))
RestIn K InNode text = (white : List ℕ) → IsWhite white → AfterProperty K (white ++ text)
RestIn K (InName from upper) text = NameRest K upper text
RestIn K (AfterName name) text = (white : List ℕ) → IsWhite white → FirstValue K (white ++ text)
RestIn K (InValue name from) text = ValueRest K text
RestIn K (Escaped name from) text = (b : ℕ) × (back : List ℕ) × (text ≡ b ∷ back) × ValueRest K back
RestIn K (AfterValue name) text = (white : List ℕ) → IsWhite white → Valued K (white ++ text)
RestIn K AfterTree text = (white : List ℕ) → IsWhite white → Closing K (white ++ text)

abbrev RestWithin : List (Option ℕ) → Phase → List ℕ → Type 0
RestWithin [] phase text = ⊤
RestWithin (parent ∷ parents) phase text = RestIn (Open parents) phase text

abbrev RestOf : Place → List ℕ → Type 0
RestOf Outside text = Games text
RestOf (Before from) text = (white : List ℕ) → IsWhite white → Games (40 ∷ (white ++ text))
RestOf (Within s) text = RestWithin s.parents s.phase text

-- ---- white space before

no_white : IsWhite []
no_white = All-nil (λ (c : ℕ). c ≤ 32)

one_white : (b : ℕ) → b ≤ 32 → IsWhite (b ∷ [])
one_white b h = All-cons (λ (c : ℕ). c ≤ 32) b [] h no_white

-- what holds behind any white space holds with one byte of it before
white-more : (F : List ℕ → Type 0) (b : ℕ) (text : List ℕ) → b ≤ 32 → ((white : List ℕ) → IsWhite white → F (white ++ text)) → (white : List ℕ) → IsWhite white → F (white ++ b ∷ text)
white-more F b text h each white w = subst F (append_assoc white (b ∷ []) text) (each (white ++ b ∷ []) (All-push (λ (c : ℕ). c ≤ 32) white b w h))

-- ---- games

games-tree : (text : List ℕ) → Then Tree Games text → Games text
games-tree text t = subst Games (sym t.is) (Games.with_game t.front t.back t.first t.second)

games-other : (b : ℕ) (text : List ℕ) → b ≢ 40 → Games text → Games (b ∷ text)
games-other b text h g = Games.skipped (λ start. let e : b ∷ text ≡ 40 ∷ start.0 ++ 59 ∷ start.1 = start.3 in h (cc)) g

games-white : (white text : List ℕ) → IsWhite white → Games text → Games (white ++ text)
games-white [] text w g = g
games-white (b ∷ white) text w g =
    let low : b ≤ 32 = All-head (λ (c : ℕ). c ≤ 32) b white w in
    games-other b (white ++ text) (λ e. absurd (omega arith)) (games-white white text (All-tail (λ (c : ℕ). c ≤ 32) b white w) g)

same_behind : (b : ℕ) (white text other rest : List ℕ) → IsWhite white → IsWhite other → 32 < b → white ++ b ∷ text ≡ other ++ 59 ∷ rest → b ≡ 59
same_behind b [] text [] rest w o h e = cc
same_behind b [] text (c ∷ other) rest w o h e =
    let low : c ≤ 32 = All-head (λ (c : ℕ). c ≤ 32) c other o in
    let same : b ≡ c = cc in
    absurd (omega arith)
same_behind b (c ∷ white) text [] rest w o h e =
    let low : c ≤ 32 = All-head (λ (c : ℕ). c ≤ 32) c white w in
    let same : c ≡ 59 = cc in
    absurd (omega arith)
same_behind b (c ∷ white) text (d ∷ other) rest w o h e =
    let tails : white ++ b ∷ text ≡ other ++ 59 ∷ rest = cc in
    same_behind b white text other rest (All-tail (λ (c : ℕ). c ≤ 32) c white w) (All-tail (λ (c : ℕ). c ≤ 32) d other o) h tails

-- a bracket, white space and no `;`
games-bracket : (b : ℕ) (white text : List ℕ) → IsWhite white → 32 < b → b ≢ 59 → Games (b ∷ text) → Games (40 ∷ (white ++ b ∷ text))
games-bracket b white text w h not_node g = Games.skipped (λ start. let e : 40 ∷ (white ++ b ∷ text) ≡ 40 ∷ start.0 ++ 59 ∷ start.1 = start.3 in let tails : white ++ b ∷ text ≡ start.0 ++ 59 ∷ start.1 = cc in not_node (same_behind b white text start.0 start.1 w start.2 h tails)) (games-white white (b ∷ text) w g)

-- ---- one byte before

any-head : (b : ℕ) (bytes : List ℕ) → IsUpper b → Any IsUpper (b ∷ bytes)
any-head b bytes u = (0, b, omega arith, refl, u)

any-tail : (b : ℕ) (bytes : List ℕ) → Any IsUpper bytes → Any IsUpper (b ∷ bytes)
any-tail b bytes a = (suc a.0, a.1, omega (arith, a.2), a.3, a.4)

identifier-from : (b : ℕ) (bytes : List ℕ) → IsLetter b → All IsLetter bytes → (is_upper b ≡ true) ⊎ Any IsUpper bytes → IsIdentifier (b ∷ bytes)
identifier-from b bytes l all (inl u) = (All-cons IsLetter b bytes l all, any-head b bytes (upper-from b u))
identifier-from b bytes l all (inr a) = (All-cons IsLetter b bytes l all, any-tail b bytes a)

upper-more : (upper : Bool) (b : ℕ) (bytes : List ℕ) → ((upper || is_upper b) ≡ true) ⊎ Any IsUpper bytes → (upper ≡ true) ⊎ Any IsUpper (b ∷ bytes)
upper-more upper b bytes (inr a) = inr (any-tail b bytes a)
upper-more upper b bytes (inl u) = elim (or_cases upper (is_upper b) u) [
  | inl e ↦ inl e
  | inr e ↦ inr (any-head b bytes (upper-from b e))
]

module _ (games : List SpelledGame) (a : ℕ) (last : Option ℕ) (nodes : List SpelledNode) (p : Option ℕ) (parents : List (Option ℕ)) (at b : ℕ) (text : List ℕ) where
  closing-rest : (s : Inside) (qs : List (Option ℕ)) → RestOf (closed games s (p ∷ qs)).place text → Open qs text
  closing-rest s [] r = r
  closing-rest s (q ∷ qs) r = r [] no_white

  between-rest : (phase : Phase) (t : Scan) → WayBetween games (within_at games a (p ∷ parents) last nodes phase) at b t → RestOf t.place text → (white : List ℕ) → IsWhite white → Closing (Open parents) (white ++ b ∷ text)
  between-rest phase t (bracket e) r white w = subst (λ (c : ℕ). Closing (Open parents) (white ++ c ∷ text)) (sym e) (closing-tree (Open parents) white (40 ∷ text) w (r [] no_white))
  between-rest phase t (close e) r white w = subst (λ (c : ℕ). Closing (Open parents) (white ++ c ∷ text)) (sym e) (closing-close (Open parents) white text w (closing-rest (within_at games a (p ∷ parents) last nodes phase) parents r))

  letter-rest : IsLetter b → NameRest (Open parents) (is_upper b) text → (white : List ℕ) → IsWhite white → AfterProperty (Open parents) (white ++ b ∷ text)
  letter-rest l r white w =
      let f = r.rest in
      let is : text ≡ r.letters ++ (f.white ++ 91 ∷ (f.value ++ 93 ∷ f.back)) = r.is ∙ ap (λ (ts : List ℕ). r.letters ++ ts) f.is in
      subst (λ (ts : List ℕ). AfterProperty (Open parents) (white ++ b ∷ ts)) (sym is)
      (properties-property (Then Nodes (Closing (Open parents))) white (b ∷ r.letters) f.white f.value f.back w (identifier-from b r.letters l r.all r.any) f.blank f.spelled f.rest)

  node-rest : (phase : Phase) (t : Scan) → WayNode games (within_at games a (p ∷ parents) last nodes phase) at b t → RestOf t.place text → (white : List ℕ) → IsWhite white → AfterProperty (Open parents) (white ++ b ∷ text)
  node-rest phase t (node e) r white w = subst (λ (c : ℕ). AfterProperty (Open parents) (white ++ c ∷ text)) (sym e) (properties-none (Then Nodes (Closing (Open parents))) (white ++ 59 ∷ text) (nodes-node (Closing (Open parents)) white text w (r [] no_white)))
  node-rest phase t (letter l) r white w = letter-rest l r white w
  node-rest phase t (between g) r white w = properties-none (Then Nodes (Closing (Open parents))) (white ++ b ∷ text) (nodes-none (Closing (Open parents)) (white ++ b ∷ text) (between-rest phase t g r white w))

  first-value : (white : List ℕ) → IsWhite white → b ≡ 91 → ValueRest (Open parents) text → FirstValue (Open parents) (white ++ b ∷ text)
  first-value white w e r = record {
    white = white;
    value = r.value;
    back = r.back;
    is = ap (λ (c : ℕ). white ++ c ∷ text) e ∙ ap (λ (ts : List ℕ). white ++ 91 ∷ ts) r.is;
    blank = w;
    spelled = r.spelled;
    rest = r.rest [] no_white;
  }

  value-rest : (white : List ℕ) → IsWhite white → b ≡ 91 → ValueRest (Open parents) text → Valued (Open parents) (white ++ b ∷ text)
  value-rest white w e r =
      let f = first-value white w e r in
      subst (Valued (Open parents)) (sym f.is) (values-value (AfterProperty (Open parents)) f.white f.value f.back f.blank f.spelled f.rest)

  value-byte : IsValue [] → b ≢ 93 → b ≢ 92 → ValueRest (Open parents) text → ValueRest (Open parents) (b ∷ text)
  value-byte v h g r = record { value = b ∷ r.value; back = r.back; is = ap (λ (ts : List ℕ). b ∷ ts) r.is; spelled = IsValue.byte h g r.spelled; rest = r.rest }

  value-escaped : (c : ℕ) (back : List ℕ) → b ≡ 92 → text ≡ c ∷ back → ValueRest (Open parents) back → ValueRest (Open parents) (b ∷ text)
  value-escaped c back e f r =
      let is : b ∷ text ≡ 92 ∷ c ∷ (r.value ++ 93 ∷ r.back) = cc (r.is) in
      record { value = 92 ∷ c ∷ r.value; back = r.back; is = is; spelled = IsValue.escaped r.spelled; rest = r.rest }

  way-rest : (from : Phase) (phase : Phase) (t : Scan) → from ≡ phase → WayIn games (within_at games a (p ∷ parents) last nodes from) at b phase t → RestOf t.place text → RestIn (Open parents) phase (b ∷ text)
  way-rest from phase t e (opened_white {from = k} h) r = white-more (λ (ts : List ℕ). Then Tree (Open parents) (40 ∷ ts)) b text h (subst (λ (ph : Phase). RestIn (Open parents) ph text) e r)
  way-rest from phase t e (opened_node h) r = λ white w. subst (λ (c : ℕ). Then Tree (Open parents) (40 ∷ (white ++ c ∷ text))) (sym h) (tree-begins (Open parents) white text w (r [] no_white))
  way-rest from phase t e (node_white h) r = white-more (AfterProperty (Open parents)) b text h (subst (λ (ph : Phase). RestIn (Open parents) ph text) e r)
  way-rest from phase t e (node_on g) r = node-rest from t g r
  way-rest from phase t e (name_letter {upper = upper} l) r = record { letters = b ∷ r.letters; back = r.back; is = ap (λ (ts : List ℕ). b ∷ ts) r.is; all = All-cons IsLetter b r.letters l r.all; any = upper-more upper b r.letters r.any; rest = r.rest }
  way-rest from phase t e (name_white h) r = record { letters = []; back = b ∷ text; is = refl; all = All-nil IsLetter; any = inl refl; rest = r (b ∷ []) (one_white b h) }
  way-rest from phase t e (name_value h) r = record { letters = []; back = b ∷ text; is = refl; all = All-nil IsLetter; any = inl refl; rest = first-value [] no_white h r }
  way-rest from phase t e (after_name_white h) r = white-more (FirstValue (Open parents)) b text h (subst (λ (ph : Phase). RestIn (Open parents) ph text) e r)
  way-rest from phase t e (after_name_value h) r = λ white w. first-value white w h r
  way-rest from phase t e (value_end h) r = record { value = []; back = text; is = ap (λ (c : ℕ). c ∷ text) h; spelled = IsValue.nothing; rest = r }
  way-rest from phase t e (value_escape h) r = value-escaped r.0 r.1 h r.2 r.3
  way-rest from phase t e (value_byte h g) r = value-byte IsValue.nothing h g (subst (λ (ph : Phase). RestIn (Open parents) ph text) e r)
  way-rest from phase t e escaped r = (b, text, refl, r)
  way-rest from phase t e (after_value_white h) r = white-more (Valued (Open parents)) b text h (subst (λ (ph : Phase). RestIn (Open parents) ph text) e r)
  way-rest from phase t e (after_value_value h) r = λ white w. value-rest white w h r
  way-rest from phase t e (after_value_on g) r = λ white w. values-none (AfterProperty (Open parents)) (white ++ b ∷ text) (node-rest from t g r white w)
  way-rest from phase t e (tree_white h) r = white-more (Closing (Open parents)) b text h (subst (λ (ph : Phase). RestIn (Open parents) ph text) e r)
  way-rest from phase t e (tree_on g) r = between-rest from t g r

within-rest : (games : List SpelledGame) (a : ℕ) (parents : List (Option ℕ)) (last : Option ℕ) (nodes : List SpelledNode) (phase : Phase) (at b : ℕ) (text : List ℕ) (t : Scan) → WayIn games (within_at games a parents last nodes phase) at b phase t → RestOf t.place text → RestWithin parents phase (b ∷ text)
within-rest games a [] last nodes phase at b text t way r = tt
within-rest games a (p ∷ parents) last nodes phase at b text t way r = way-rest games a last nodes p parents at b text phase phase t refl way r

-- one byte before what is left
byte-rest : (games : List SpelledGame) (at b : ℕ) (text : List ℕ) (place : Place) (t : Scan) → Way games at b place t → RestOf t.place text → RestOf place (b ∷ text)
byte-rest games at b text place t (out_open e) r = subst (λ (c : ℕ). Games (c ∷ text)) (sym e) (r [] no_white)
byte-rest games at b text place t (out_skip e) r = games-other b text e r
byte-rest games at b text place t (before_white h) r = white-more (λ (ts : List ℕ). Games (40 ∷ ts)) b text h r
byte-rest games at b text place t (before_node e) r = λ white w. subst (λ (c : ℕ). Games (40 ∷ (white ++ c ∷ text))) (sym e) (games-tree (40 ∷ (white ++ 59 ∷ text)) (tree-begins Games white text w (r [] no_white)))
byte-rest games at b text place t (before_open e) r = λ white w. subst (λ (c : ℕ). Games (40 ∷ (white ++ c ∷ text))) (sym e) (games-bracket 40 white text w (omega arith) (λ f. absurd (omega arith)) (r [] no_white))
byte-rest games at b text place t (before_skip h g f) r = λ white w. games-bracket b white text w h g (games-other b text f r)
byte-rest games at b text place t (way_in {s = s} way) r = within-rest games s.at s.parents s.last s.nodes s.phase at b text t way r

-- ---- the whole text

no_node : (white other rest : List ℕ) → IsWhite white → white ≡ other ++ 59 ∷ rest → ⊥
no_node white other rest w e =
    let all : IsWhite (other ++ 59 ∷ rest) = subst (λ (ts : List ℕ). IsWhite ts) e w in
    let low : get_or (other ++ 59 ∷ rest) (length other) 0 ≤ 32 = all (length other) 0 (omega (arith, length-append other (59 ∷ rest))) in
    absurd (omega (arith, get_or_at other 59 rest 0 (length other) refl))

end-rest : (place : Place) → IsOutside place → RestOf place []
end-rest place outside = Games.end
end-rest place before = λ white w. Games.skipped (λ start. let e : 40 ∷ (white ++ []) ≡ 40 ∷ start.0 ++ 59 ∷ start.1 = start.3 in let tails : white ++ [] ≡ start.0 ++ 59 ∷ start.1 = cc in no_node white start.0 start.1 w (sym (append-nil white) ∙ tails)) (games-white white [] w Games.end)

scan-rest : (text : List ℕ) (at : ℕ) (s t : Scan) → scan s at text ≡ Some t → IsOutside t.place → RestOf s.place text
scan-rest [] at s t e o = let same : s ≡ t = cc in subst (λ (u : Scan). RestOf u.place []) (sym same) (end-rest t.place o)
scan-rest (b ∷ text) at s t e o =
    let head = Leads-head s t at b text e in
    byte-rest s.games at b text s.place head.0 (step-way s.games s.place at b head.0 head.1) (scan-rest text (at + 1) head.0 t head.2 o)

-- two scans with one outcome have the same games
pub same_games : (s t : Scan) → Some s ≡ Some t → s.games ≡ t.games
same_games s t e = let same : s ≡ t = cc in ap (λ (u : Scan). u.games) same

-- a text whose scan ends outside trees has the games of the scan
pub scans-spelled : (text : List ℕ) (games : List SpelledGame) (place : Place) → IsOutside place → scan at_start 0 text ≡ Some (record { games = games; place = place }) → HasGames 0 text games
scans-spelled text games place o e =
    let marked = games-marked 0 text (scan-rest text 0 at_start (record { games = games; place = place }) e o) in
    let scanned = spelled-scans text marked.0 marked.1 in
    subst (λ (gs : List SpelledGame). HasGames 0 text gs) (same_games (record { games = marked.0; place = scanned.0 }) (record { games = games; place = place }) (sym scanned.2 ∙ e)) marked.1
