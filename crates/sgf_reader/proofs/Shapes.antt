-- The grammar without marks: which texts are values, properties, nodes, trees and games.
use Rattle.std.proofs.Common.{◌≡◌, ℕ, ◌+◌, ◌-◌, ap, sym, refl, ◌∙◌, arith, List, [], ◌∷◌, ◌++◌, length, Some, None, Option, append_assoc}
use Rattle.sgf_reader.specs.declared.collection.Span.{Span}
use Rattle.sgf_reader.specs.declared.collection.Pair.{Pair}
use Rattle.sgf_reader.specs.Grammar.{SpelledGame, SpelledNode, IsWhite, IsIdentifier, IsValue, AreValues, AreProperties, AreNodes, IsTreeText, AreTreeTexts, HasGames, StartsTree, span_of}

-- values
pub data Values : List ℕ → Type 0 where
  none : Values []
  one_more : (white value rest : List ℕ) → IsWhite white → IsValue value → Values rest → Values (white ++ 91 ∷ value ++ 93 ∷ rest)

-- properties
pub data Properties : List ℕ → Type 0 where
  none : Properties []
  one_more : (white name first value values rest : List ℕ) → IsWhite white → IsIdentifier name → IsWhite first → IsValue value → Values values → Properties rest → Properties (white ++ name ++ (first ++ 91 ∷ value ++ 93 ∷ values) ++ rest)

-- nodes
pub data Nodes : List ℕ → Type 0 where
  none : Nodes []
  one_more : (white properties rest : List ℕ) → IsWhite white → Properties properties → Nodes rest → Nodes (white ++ 59 ∷ properties ++ rest)

mutual
  -- a tree
  pub data Tree : List ℕ → Type 0 where
    in_brackets : (first properties sequence inner white : List ℕ) → IsWhite first → Properties properties → Nodes sequence → Trees inner → IsWhite white → Tree (40 ∷ (first ++ 59 ∷ properties ++ sequence) ++ inner ++ white ++ 41 ∷ [])

  -- trees
  pub data Trees : List ℕ → Type 0 where
    none : Trees []
    one_more : (white text rest : List ℕ) → IsWhite white → Tree text → Trees rest → Trees (white ++ text ++ rest)

-- games
pub data Games : List ℕ → Type 0 where
  end : Games []
  skipped : {b : ℕ} {rest : List ℕ} → ¬ StartsTree (b ∷ rest) → Games rest → Games (b ∷ rest)
  with_game : (text rest : List ℕ) → Tree text → Games rest → Games (text ++ rest)

-- ---- with marks

values-marked : (name : Span) (at : ℕ) (text : List ℕ) → Values text → (pairs : List Pair) × AreValues name at text pairs
values-marked name at text (Values.none) = ([], AreValues.none)
values-marked name at text (Values.one_more white value rest w v vs) =
    let others = values-marked name (at + length (white ++ 91 ∷ value ++ 93 ∷ [])) rest vs in
    (record { name = name; value = span_of (at + length white + 1) value } ∷ others.0, AreValues.one_more white value rest w v others.1)

properties-marked : (at : ℕ) (text : List ℕ) → Properties text → (pairs : List Pair) × AreProperties at text pairs
properties-marked at text (Properties.none) = ([], AreProperties.none)
properties-marked at text (Properties.one_more white name first value values rest w i f v vs ps) =
    let span : Span = span_of (at + length white) name in
    let k : ℕ = at + length (white ++ name) in
    let more = values-marked span (k + length (first ++ 91 ∷ value ++ 93 ∷ [])) values vs in
    let pairs : List Pair = record { name = span; value = span_of (k + length first + 1) value } ∷ more.0 in
    let all : AreValues span k (first ++ 91 ∷ value ++ 93 ∷ values) pairs = AreValues.one_more first value values f v more.1 in
    let others = properties-marked (at + length (white ++ name ++ (first ++ 91 ∷ value ++ 93 ∷ values))) rest ps in
    (pairs ++ others.0, AreProperties.one_more white name (first ++ 91 ∷ value ++ 93 ∷ values) rest pairs others.0 w i all (omega arith) others.1)

nodes-marked : (depth : ℕ) (opened parent : Option ℕ) (number at : ℕ) (text : List ℕ) → Nodes text → (nodes : List SpelledNode) × AreNodes depth opened parent number at text nodes
nodes-marked depth opened parent number at text (Nodes.none) = ([], AreNodes.none)
nodes-marked depth opened parent number at text (Nodes.one_more white properties rest w ps ns) =
    let own = properties-marked (at + length white + 1) properties ps in
    let others = nodes-marked depth None (Some number) (number + 1) (at + length (white ++ 59 ∷ properties)) rest ns in
    (record { opened = opened; at = at + length white; depth = depth; parent = parent; pairs = own.0 } ∷ others.0, AreNodes.one_more white properties rest w own.1 others.1)

mutual
  tree-marked : (depth : ℕ) (parent : Option ℕ) (number at : ℕ) (text : List ℕ) → Tree text → (nodes : List SpelledNode) × IsTreeText depth parent number at text nodes
  tree-marked depth parent number at text (Tree.in_brackets first properties sequence inner white f ps ns ts w) =
      let own = properties-marked (at + 1 + length first + 1) properties ps in
      let others = nodes-marked (depth + 1) None (Some number) (number + 1) (at + 1 + length (first ++ 59 ∷ properties)) sequence ns in
      let nodes : List SpelledNode = record { opened = Some at; at = at + 1 + length first; depth = depth + 1; parent = parent; pairs = own.0 } ∷ others.0 in
      let all : AreNodes (depth + 1) (Some at) parent number (at + 1) (first ++ 59 ∷ properties ++ sequence) nodes = AreNodes.one_more first properties sequence f own.1 others.1 in
      let trees = trees-marked (depth + 1) (Some (number + length nodes - 1)) (number + length nodes) (at + length (40 ∷ (first ++ 59 ∷ properties ++ sequence))) inner ts in
      (nodes ++ trees.0, IsTreeText.in_brackets (first ++ 59 ∷ properties ++ sequence) inner white nodes trees.0 all (omega arith) trees.1 w)

  trees-marked : (depth : ℕ) (parent : Option ℕ) (number at : ℕ) (text : List ℕ) → Trees text → (nodes : List SpelledNode) × AreTreeTexts depth parent number at text nodes
  trees-marked depth parent number at text (Trees.none) = ([], AreTreeTexts.none)
  trees-marked depth parent number at text (Trees.one_more white tree rest w t ts) =
      let one = tree-marked depth parent number (at + length white) tree t in
      let others = trees-marked depth parent (number + length one.0) (at + length (white ++ tree)) rest ts in
      (one.0 ++ others.0, AreTreeTexts.one_more white tree rest one.0 others.0 w one.1 others.1)

-- each shape of games has its marks
pub games-marked : (at : ℕ) (text : List ℕ) → Games text → (games : List SpelledGame) × HasGames at text games
games-marked at text (Games.end) = ([], HasGames.end)
games-marked at text (Games.skipped {rest = rest} skip g) = let others = games-marked (at + 1) rest g in (others.0, HasGames.skipped skip others.1)
games-marked at text (Games.with_game tree rest t g) =
    let one = tree-marked 0 None 0 at tree t in
    let others = games-marked (at + length tree) rest g in
    (record { at = at; nodes = one.0 } ∷ others.0, HasGames.with_game tree rest one.1 others.1)

-- ---- one word and then another

-- a text of the first kind, and behind it one of the second
pub record Then (A B : List ℕ → Type 0) (text : List ℕ) : Type 0 where
  pub front : List ℕ
  pub back : List ℕ
  pub is : text ≡ front ++ back
  pub first : A front
  pub second : B back

-- trees, white space and the bracket that closes them
pub record Closing (K : List ℕ → Type 0) (text : List ℕ) : Type 0 where
  pub inner : List ℕ
  pub white : List ℕ
  pub back : List ℕ
  pub is : text ≡ inner ++ (white ++ 41 ∷ back)
  pub trees : Trees inner
  pub blank : IsWhite white
  pub rest : K back

module _ (K : List ℕ → Type 0) where
  pub closing-close : (white text : List ℕ) → IsWhite white → K text → Closing K (white ++ 41 ∷ text)
  closing-close white text w k = record { inner = []; white = white; back = text; is = refl; trees = Trees.none; blank = w; rest = k }

  pub closing-tree : (white text : List ℕ) → IsWhite white → Then Tree (Closing K) text → Closing K (white ++ text)
  closing-tree white text w t = record {
    inner = white ++ t.front ++ t.second.inner;
    white = t.second.white;
    back = t.second.back;
    is =
        ap (λ (ts : List ℕ). white ++ ts) (t.is ∙ ap (λ (ts : List ℕ). t.front ++ ts) t.second.is)
        ∙ sym (append_assoc white t.front (t.second.inner ++ (t.second.white ++ 41 ∷ t.second.back)))
        ∙ sym (append_assoc (white ++ t.front) t.second.inner (t.second.white ++ 41 ∷ t.second.back));
    trees = Trees.one_more white t.front t.second.inner w t.first t.second.trees;
    blank = t.second.blank;
    rest = t.second.rest;
  }

  -- nodes behind white space and `;`
  pub nodes-node : (white text : List ℕ) → IsWhite white → Then Properties (Then Nodes K) text → Then Nodes K (white ++ 59 ∷ text)
  nodes-node white text w p = record {
    front = white ++ 59 ∷ p.front ++ p.second.front;
    back = p.second.back;
    is =
        ap (λ (ts : List ℕ). white ++ 59 ∷ ts) (p.is ∙ ap (λ (ts : List ℕ). p.front ++ ts) p.second.is)
        ∙ sym (append_assoc white (59 ∷ p.front) (p.second.front ++ p.second.back))
        ∙ sym (append_assoc (white ++ 59 ∷ p.front) p.second.front p.second.back);
    first = Nodes.one_more white p.front p.second.front w p.first p.second.first;
    second = p.second.second;
  }

  pub nodes-none : (text : List ℕ) → K text → Then Nodes K text
  nodes-none text k = record { front = []; back = text; is = refl; first = Nodes.none; second = k }

  pub properties-none : (text : List ℕ) → K text → Then Properties K text
  properties-none text k = record { front = []; back = text; is = refl; first = Properties.none; second = k }

  pub values-none : (text : List ℕ) → K text → Then Values K text
  values-none text k = record { front = []; back = text; is = refl; first = Values.none; second = k }

  -- values behind white space and `[`
  pub values-value : (white value text : List ℕ) → IsWhite white → IsValue value → Then Values K text → Then Values K (white ++ 91 ∷ (value ++ 93 ∷ text))
  values-value white value text w v vs = record {
    front = white ++ 91 ∷ value ++ 93 ∷ vs.front;
    back = vs.back;
    is =
        ap (λ (ts : List ℕ). white ++ 91 ∷ (value ++ 93 ∷ ts)) vs.is
        ∙ sym (append_assoc white (91 ∷ value) (93 ∷ (vs.front ++ vs.back)))
        ∙ sym (append_assoc (white ++ 91 ∷ value) (93 ∷ vs.front) vs.back);
    first = Values.one_more white value vs.front w v vs.first;
    second = vs.second;
  }

  -- a property behind white space
  pub properties-property : (white name first value text : List ℕ) → IsWhite white → IsIdentifier name → IsWhite first → IsValue value → Then Values (Then Properties K) text → Then Properties K (white ++ (name ++ (first ++ 91 ∷ (value ++ 93 ∷ text))))
  properties-property white name first value text w i f v vs =
      let values : List ℕ = first ++ 91 ∷ value ++ 93 ∷ vs.front in
      let tail : first ++ 91 ∷ (value ++ 93 ∷ text) ≡ values ++ (vs.second.front ++ vs.second.back) =
      ap (λ (ts : List ℕ). first ++ 91 ∷ (value ++ 93 ∷ ts)) (vs.is ∙ ap (λ (ts : List ℕ). vs.front ++ ts) vs.second.is)
      ∙ sym (append_assoc first (91 ∷ value) (93 ∷ (vs.front ++ (vs.second.front ++ vs.second.back))))
      ∙ sym (append_assoc (first ++ 91 ∷ value) (93 ∷ vs.front) (vs.second.front ++ vs.second.back)) in
      record {
        front = white ++ name ++ values ++ vs.second.front;
        back = vs.second.back;
        is =
            ap (λ (ts : List ℕ). white ++ (name ++ ts)) tail
            ∙ sym (append_assoc white name (values ++ (vs.second.front ++ vs.second.back)))
            ∙ sym (append_assoc (white ++ name) values (vs.second.front ++ vs.second.back))
            ∙ sym (append_assoc (white ++ name ++ values) vs.second.front vs.second.back);
        first = Properties.one_more white name first value vs.front vs.second.front w i f v vs.first vs.second.first;
        second = vs.second.second;
      }

  -- a tree behind its bracket, white space and `;`
  pub tree-begins : (white text : List ℕ) → IsWhite white → Then Properties (Then Nodes (Closing K)) text → Then Tree K (40 ∷ (white ++ 59 ∷ text))
  tree-begins white text w p =
      let own : List ℕ = white ++ 59 ∷ p.front ++ p.second.front in
      let c = p.second.second in
      let tail : white ++ 59 ∷ text ≡ own ++ (c.inner ++ (c.white ++ 41 ∷ c.back)) =
      ap (λ (ts : List ℕ). white ++ 59 ∷ ts) (p.is ∙ ap (λ (ts : List ℕ). p.front ++ ts) (p.second.is ∙ ap (λ (ts : List ℕ). p.second.front ++ ts) c.is))
      ∙ sym (append_assoc white (59 ∷ p.front) (p.second.front ++ (c.inner ++ (c.white ++ 41 ∷ c.back))))
      ∙ sym (append_assoc (white ++ 59 ∷ p.front) p.second.front (c.inner ++ (c.white ++ 41 ∷ c.back))) in
      record {
        front = 40 ∷ own ++ c.inner ++ c.white ++ 41 ∷ [];
        back = c.back;
        is =
            ap (λ (ts : List ℕ). 40 ∷ ts)
            (tail
            ∙ sym (append_assoc own c.inner (c.white ++ 41 ∷ c.back))
            ∙ sym (append_assoc (own ++ c.inner) c.white (41 ∷ c.back))
            ∙ sym (append_assoc (own ++ c.inner ++ c.white) (41 ∷ []) c.back));
        first = Tree.in_brackets white p.front p.second.front c.inner c.white w p.first p.second.first c.trees c.blank;
        second = c.rest;
      }
