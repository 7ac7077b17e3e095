-- What the grammar spells the scan reads.
use Rattle.std.proofs.Common.{◌≡◌, ◌≢◌, inl, inr, ℕ, ◌+◌, ◌-◌, ◌≤◌, ap, sym, subst, refl, arith, List, [], ◌∷◌, ◌++◌, length, Some, None, Option, length-append, append_assoc, append-nil}
use Rattle.std.specs.Prelude.{⊤}
use Rattle.std.proofs.lemmas.Bool.{cases_eq, cases_lt, ne_eqb, lt-leb}
use Rattle.std.proofs.lemmas.List.Elements.{All-nil, All-cons}
use Rattle.sgf_reader.specs.Grammar.{SpelledGame, SpelledNode, IsWhite, IsTreeText, AreTreeTexts, HasGames, StartsTree}
use Rattle.sgf_reader.specs.Scan.{Scan, Place, Outside, Before, Within, Phase, Opened, AfterTree, IsOutside, outside, before, closed, step, scan, at_start}
use Rattle.sgf_reader.proofs.Scans.{Leads, Leads-none, Leads-byte, Leads-one, Leads-then, Leads-from, Leads-to}
use Rattle.sgf_reader.proofs.Ways.{out}
use Rattle.sgf_reader.proofs.Steps.{EndsTree, after_node, after_tree, within_at, white-stays, white-tests, tree-stays, tree-more, tree-ends, opened-stays}
use Rattle.sgf_reader.proofs.SpelledNodes.{TakesNode, reader, nodes-first}

-- what stands behind a tree's bracket, up to the one that closes it
pub body-leads : (games : List SpelledGame) (a : ℕ) (parent : Option ℕ) (parents : List (Option ℕ)) (s : Scan) (at : ℕ) (sequence inner white : List ℕ) (last : Option ℕ) (nodes more : List SpelledNode) (phase after : Phase) → Leads s at sequence (reader games a (parent ∷ parents) last nodes phase) → Leads (reader games a (parent ∷ parents) last nodes phase) (at + length sequence) inner (reader games a (parent ∷ parents) last more after) → EndsTree after → IsWhite white → Leads s at (sequence ++ inner ++ white ++ 41 ∷ []) (closed games (within_at games a (parent ∷ parents) last more after) (parent ∷ parents))
body-leads games a parent parents s at sequence inner white last nodes more phase after h g e w =
    let trees = Leads-then refl h g in
    let whites = white-stays (reader games a (parent ∷ parents) last more after) (λ k b l. tree-stays games a (parent ∷ parents) last more after e k b l) white (at + length (sequence ++ inner)) w in
    Leads-then refl (Leads-then refl trees whites) (Leads-one (tree-ends games a (parent ∷ parents) last more after e (at + length (sequence ++ inner ++ white))))

mutual
  pub tree-leads : (games : List SpelledGame) (a : ℕ) (p : Option ℕ) (parents : List (Option ℕ)) (parent : Option ℕ) (nodes : List SpelledNode) (phase : Phase) (depth number : ℕ) → depth ≡ length (p ∷ parents) → number ≡ length nodes → EndsTree phase → (at : ℕ) (text : List ℕ) (more : List SpelledNode) → IsTreeText depth parent number at text more → Leads (reader games a (p ∷ parents) parent nodes phase) at text (reader games a (p ∷ parents) parent (nodes ++ more) AfterTree)
  tree-leads games a p parents parent nodes phase depth number ed en e at text more (IsTreeText.in_brackets sequence inner white first inside_it ns some ts w) =
      let takes : TakesNode games (reader games a (parent ∷ p ∷ parents) parent nodes (Opened at)) (within_at games a (parent ∷ p ∷ parents) parent nodes (Opened at)) (Some at) = record { stays = λ k b h. opened-stays games a (parent ∷ p ∷ parents) parent nodes at k b h; takes = λ k. refl } in
      let own = nodes-first games a (parent ∷ p ∷ parents) parent (Some at) nodes (Opened at) (reader games a (parent ∷ p ∷ parents) parent nodes (Opened at)) (depth + 1) number (omega arith) en takes (at + 1) sequence first ns some in
      let trees = trees-lead games a parent (p ∷ parents) (Some (number + length first - 1)) (nodes ++ first) own.0 (depth + 1) (number + length first) (omega arith) (omega (arith, length-append nodes first)) (after_node own.1) (at + length (40 ∷ sequence)) inner inside_it ts in
      let body = body-leads games a parent (p ∷ parents) (reader games a (parent ∷ p ∷ parents) parent nodes (Opened at)) (at + 1) sequence inner white (Some (number + length first - 1)) (nodes ++ first) ((nodes ++ first) ++ inside_it) own.0 trees.0 own.2 (Leads-from (omega arith) trees.2) trees.1 w in
      Leads-to (ap (λ (ns : List SpelledNode). reader games a (p ∷ parents) parent ns AfterTree) (append_assoc nodes first inside_it)) (Leads-byte (tree-more games a (p ∷ parents) parent nodes phase e at) body)

  pub trees-lead : (games : List SpelledGame) (a : ℕ) (p : Option ℕ) (parents : List (Option ℕ)) (parent : Option ℕ) (nodes : List SpelledNode) (phase : Phase) (depth number : ℕ) → depth ≡ length (p ∷ parents) → number ≡ length nodes → EndsTree phase → (at : ℕ) (text : List ℕ) (more : List SpelledNode) → AreTreeTexts depth parent number at text more → (after : Phase) × EndsTree after × Leads (reader games a (p ∷ parents) parent nodes phase) at text (reader games a (p ∷ parents) parent (nodes ++ more) after)
  trees-lead games a p parents parent nodes phase depth number ed en e at text more (AreTreeTexts.none) = (phase, e, Leads-to (ap (λ (ns : List SpelledNode). reader games a (p ∷ parents) parent ns phase) (sym (append-nil nodes))) Leads-none)
  trees-lead games a p parents parent nodes phase depth number ed en e at text more (AreTreeTexts.one_more white tree rest first others w t ts) =
      let whites = white-stays (reader games a (p ∷ parents) parent nodes phase) (λ k b l. tree-stays games a (p ∷ parents) parent nodes phase e k b l) white at w in
      let one = tree-leads games a p parents parent nodes phase depth number ed en e (at + length white) tree first t in
      let next = trees-lead games a p parents parent (nodes ++ first) AfterTree depth (number + length first) ed (omega (arith, length-append nodes first)) after_tree (at + length (white ++ tree)) rest others ts in
      (next.0, next.1, Leads-to (ap (λ (ns : List SpelledNode). reader games a (p ∷ parents) parent ns next.0) (append_assoc nodes first others)) (Leads-then refl (Leads-then refl whites one) next.2))

-- a tree behind its bracket at the top level
root-leads : (games : List SpelledGame) (at : ℕ) (text : List ℕ) (nodes : List SpelledNode) → IsTreeText 0 None 0 at text nodes → (rest : List ℕ) × (text ≡ 40 ∷ rest) × Leads (out games (Before at)) (at + 1) rest (out (games ++ record { at = at; nodes = nodes } ∷ []) Outside)
root-leads games at text nodes (IsTreeText.in_brackets sequence inner white first inside_it ns some ts w) =
    let start : Scan = out games (Before at) in
    let takes : TakesNode games start (within_at games at (None ∷ []) None [] (Opened at)) (Some at) = record { stays = λ k b h. rw ((white-tests b h).0) refl; takes = λ k. refl } in
    let own = nodes-first games at (None ∷ []) None (Some at) [] (Opened at) start (0 + 1) 0 refl refl takes (at + 1) sequence first ns some in
    let trees = trees-lead games at None [] (Some (0 + length first - 1)) first own.0 (0 + 1) (0 + length first) refl (omega arith) (after_node own.1) (at + length (40 ∷ sequence)) inner inside_it ts in
    let body = body-leads games at None [] start (at + 1) sequence inner white (Some (0 + length first - 1)) first (first ++ inside_it) own.0 trees.0 own.2 (Leads-from (omega arith) trees.2) trees.1 w in
    (sequence ++ inner ++ white ++ 41 ∷ [], refl, body)

-- no tree starts behind the bracket that stands before the place
abbrev pub NoStart : Place → List ℕ → Type 0
NoStart Outside text = ⊤
NoStart (Before from) text = (white : List ℕ) (rest : List ℕ) → IsWhite white → text ≡ white ++ 59 ∷ rest → ⊥
NoStart (Within s) text = ⊥

open-leads : (games : List SpelledGame) (place : Place) (text : List ℕ) (at : ℕ) → NoStart place text → step games place at 40 ≡ Some (out games (Before at))
open-leads games Outside text at bare_start = refl
open-leads games (Before from) text at bare_start = refl
open-leads games (Within s) text at bare_start = absurd bare_start

-- a byte at which no tree starts
skip-leads : (games : List SpelledGame) (place : Place) (at b : ℕ) (rest : List ℕ) → NoStart place (b ∷ rest) → ¬ StartsTree (b ∷ rest) → (next : Place) × NoStart next rest × IsOutside next × (step games place at b ≡ Some (out games next))
skip-leads games (Within s) at b rest bare_start skip = absurd bare_start
skip-leads games Outside at b rest bare_start skip = elim (cases_eq b 40) [
  | inl e ↦ (Before at, λ white more w same. skip (white, more, w, cc), before, rw e refl)
  | inr ne ↦ (Outside, tt, outside, rw (ne_eqb b 40 ne) refl)
]
skip-leads games (Before from) at b rest bare_start skip = elim (cases_eq b 40) [
  | inl e ↦ (Before at, λ white more w same. skip (white, more, w, cc), before, rw e refl)
  | inr ne ↦ elim (cases_lt 32 b) [
    | inl h ↦
        let not_node : b ≢ 59 = λ e. bare_start [] rest (All-nil (λ (c : ℕ). c ≤ 32)) (cc) in
        (Outside, tt, outside, rw (lt-leb b 32 h, ne_eqb b 59 not_node, ne_eqb b 40 ne) refl)
    | inr h ↦ (Before from, λ white more w same. bare_start (b ∷ white) more (All-cons (λ (c : ℕ). c ≤ 32) b white h w) (cc), before, rw ((white-tests b h).0) refl)
  ]
]

games-lead : (games : List SpelledGame) (place : Place) → IsOutside place → (at : ℕ) (text : List ℕ) (more : List SpelledGame) → NoStart place text → HasGames at text more → (after : Place) × IsOutside after × Leads (out games place) at text (out (games ++ more) after)
games-lead games place o at text more bare_start (HasGames.end) = (place, o, Leads-to (ap (λ (gs : List SpelledGame). out gs place) (sym (append-nil games))) Leads-none)
games-lead games place o at text more bare_start (HasGames.skipped {b = b} {rest = rest} skip h) =
    let s = skip-leads games place at b rest bare_start skip in
    let next = games-lead games s.0 s.2 (at + 1) rest more s.1 h in
    (next.0, next.1, Leads-byte s.3 next.2)
games-lead games place o at text more bare_start (HasGames.with_game tree rest {nodes = nodes} {games = others} t h) =
    let root = root-leads games at tree nodes t in
    let next = games-lead (games ++ record { at = at; nodes = nodes } ∷ []) Outside outside (at + length tree) rest others tt h in
    let whole : Leads (out games place) at tree (out (games ++ record { at = at; nodes = nodes } ∷ []) Outside) = subst (λ (ts : List ℕ). Leads (out games place) at ts (out (games ++ record { at = at; nodes = nodes } ∷ []) Outside)) (sym root.1) (Leads-byte (open-leads games place (tree ++ rest) at bare_start) root.2) in
    (next.0, next.1, Leads-to (ap (λ (gs : List SpelledGame). out gs next.0) (append_assoc games (record { at = at; nodes = nodes } ∷ []) others)) (Leads-then refl whole next.2))

-- the scan of a text that has these games ends outside trees, with them
pub spelled-scans : (text : List ℕ) (games : List SpelledGame) → HasGames 0 text games → (place : Place) × IsOutside place × (scan at_start 0 text ≡ Some (record { games = games; place = place }))
spelled-scans text games h = let l = games-lead [] Outside outside 0 text games tt h in (l.0, l.1, l.2.scans)
