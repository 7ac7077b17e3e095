-- Each next move is from the canonical position of an entry, so a canonical position without an entry has none.
use Rattle.std.proofs.Common.{◌≡◌, inl, inr, true, false, cond, List, [], ◌∷◌, get_or, refl, sym, ap, ◌∙◌}
use Rattle.std.specs.Prelude.{Any}
use Rattle.std.proofs.lemmas.Bool.{false≢true}
use Rattle.std.proofs.lemmas.List.Elements.{All-head, All-tail}
use Rattle.std.proofs.lemmas.List.Folds.{list_any_at}
use Rattle.kb_geometry.specs.Capture.{Position}
use Rattle.opening_tree.specs.Entries.{Entry}
use Rattle.opening_tree.specs.Groups.{AreFollowing}
use Rattle.opening_tree.specs.NextMoves.{NextAt}
use Rattle.opening_tree.specs.Openings.{is_same_position, nexts_at}
use Rattle.opening_tree.proofs.GroupsGrow.{is_seen}
use Rattle.opening_tree.proofs.SamePositions.{same_position, told}

pub none_played : (c : Position) (es : List Entry) (ns : List NextAt) → AreFollowing es ns → is_seen c es ≡ false → nexts_at c ns ≡ []
none_played c es [] follow unseen = refl
none_played c es (n ∷ ns) follow unseen = elim (told (is_same_position c n.canonical)) [
  | inl t ↦
      let (k, b, lt, at, is) = All-head (λ (m : NextAt). Any (λ (e : Entry). e.canonical ≡ m.canonical) es) n ns follow in
      let same : c ≡ n.canonical = (same_position c n.canonical).0 t in
      let there : is_same_position c (get_or es k b).canonical ≡ true = (same_position c (get_or es k b).canonical).1 (same ∙ sym is ∙ ap (λ (x : Entry). x.canonical) (sym at)) in
      absurd (false≢true (sym unseen ∙ list_any_at (λ (x : Entry). is_same_position c x.canonical) es k b lt there))
  | inr f ↦ ap (λ b. cond b (n ∷ nexts_at c ns) (nexts_at c ns)) f ∙ none_played c es ns (All-tail (λ (m : NextAt). Any (λ (e : Entry). e.canonical ≡ m.canonical) es) n ns follow) unseen
]
