-- A statement that lists games or players has a text, and one only.
use Rattle.std.proofs.Common.{◌≡◌, ◌∙◌, ◌++◌, ℕ, zero, suc, inl, inr, List, [], ◌∷◌, All, Some, append_assoc, arith, length, length-append, map, refl, slice_get, sym, ap, subst}
use Rattle.std.specs.List.{flat_map}
use Rattle.std.proofs.Math.Seq.{get_or-append_seam}
use Rattle.std.proofs.lemmas.List.{append-nil}
use Rattle.std.proofs.lemmas.List.Elements.{All-head, All-tail}
use Rattle.kb_geometry.proofs.Lists.{All-before, push_not_nil, push_same}
use Rattle.game_tree.specs.Tree.{IsTree, Tree}
use Rattle.dyer_signature.specs.Images.{IsCanonicalForm}
use Rattle.dyer_signature.specs.Patterns.{Matches}
use Rattle.dyer_signature.proofs.ImageGroups.{canonical-only}
use Rattle.dyer_signature.proofs.OneSignature.{signature-only, some_signature}
use Rattle.dyer_signature.proofs.SoFar.{signature-on_board}
use Rattle.dyer_signature.proofs.SomeCanonicalForm.{matches_or_not, some_canonical_form}
use Rattle.info_filter.specs.Players.{TableRow, sides_of}
use Rattle.info_filter.proofs.OneTable.{rows_once, rows_some}
use Rattle.node_position.specs.Games.{Game}
use Rattle.query_script.specs.Texts.{double_text, doubles_head, players_text, signature_head, found_game_text}
use Rattle.session_core.specs.Answers.{IsDoublesText, IsPlayersText, IsSignatureText, View}
use Rattle.session_core.specs.Doubles.{AreKeysOf, DoubleKey, Group, IsKeyOf, groups_of}
use Rattle.session_core.specs.Signed.{AreGamesFound, FoundGame, HasSignature}

-- ---- signatures

has_signature : (tree : Tree) → IsTree tree → (signature : List ℕ) × (form : List ℕ) × HasSignature tree signature form
has_signature tree is_tree =
    let (signature, of_tree) = some_signature tree is_tree in
    let (form, canonical) = some_canonical_form tree.shape signature (signature-on_board tree is_tree signature of_tree) in
    (signature, form, record { of_tree = of_tree; canonical = canonical })

pub same_signature : (tree : Tree) → IsTree tree → (a form b form_too : List ℕ) → HasSignature tree a form → HasSignature tree b form_too → (a ≡ b) × (form ≡ form_too)
same_signature tree is_tree a form b form_too one other =
    let same = signature-only tree is_tree a b one.of_tree other.of_tree in
    (same, canonical-only tree.shape a form form_too one.canonical (subst (λ (s : List ℕ). IsCanonicalForm tree.shape s form_too) (sym same) other.canonical))

abbrev pub AreTrees : List Game → Type 0
AreTrees games = All (λ (g : Game). IsTree g.tree) games

pub last_tree : (games : List Game) (game : Game) → AreTrees (games ++ game ∷ []) → IsTree game.tree
last_tree games game trees =
    subst (λ (g : Game). IsTree g.tree) (get_or-append_seam games game [] game) (trees (length games) game (omega (arith, length-append games (game ∷ []))))

-- ---- the games that are found

module _ (pattern : List ℕ) where
  pub found_from : (done rest : List Game) (found : List FoundGame) → AreTrees rest → AreGamesFound pattern done found → (more : List FoundGame) × AreGamesFound pattern (done ++ rest) more
  found_from done [] found trees are = (found, subst (λ games. AreGamesFound pattern games found) (sym (append-nil done)) are)
  found_from done (game ∷ rest) found trees are =
      let is_tree = All-head (λ (g : Game). IsTree g.tree) game rest trees in
      let others = All-tail (λ (g : Game). IsTree g.tree) game rest trees in
      let (signature, form, has) = has_signature game.tree is_tree in
      let next : (new : List FoundGame) × AreGamesFound pattern (done ++ game ∷ []) new = elim (matches_or_not game.tree.shape signature pattern (signature-on_board game.tree is_tree signature has.of_tree)) [
        | inl matches ↦ (found ++ record { game = length done; form = form } ∷ [], AreGamesFound.found game signature form are has matches)
        | inr differs ↦ (found, AreGamesFound.left_out game signature form are has differs)
      ] in
      let all = found_from (done ++ game ∷ []) rest next.0 others next.1 in
      (all.0, subst (λ games. AreGamesFound pattern games all.0) (append_assoc done (game ∷ []) rest) all.1)

  found_once : (games more : List Game) (a b : List FoundGame) → AreTrees games → AreGamesFound pattern games a → AreGamesFound pattern more b → games ≡ more → a ≡ b
  found_once _ _ _ _ trees AreGamesFound.nothing AreGamesFound.nothing e = refl
  found_once _ _ _ _ trees AreGamesFound.nothing (AreGamesFound.found {games = ks} k t g other had it) e = absurd (push_not_nil ks k e)
  found_once _ _ _ _ trees AreGamesFound.nothing (AreGamesFound.left_out {games = ks} k t g other had not) e = absurd (push_not_nil ks k e)
  found_once _ _ _ _ trees (AreGamesFound.found {games = gs} h s f one has matches) AreGamesFound.nothing e = absurd (push_not_nil gs h (sym e))
  found_once _ _ _ _ trees (AreGamesFound.left_out {games = gs} h s f one has not) AreGamesFound.nothing e = absurd (push_not_nil gs h (sym e))
  found_once _ _ _ _ trees (AreGamesFound.found {games = gs} {found = xs} h s f one has matches) (AreGamesFound.found {games = ks} {found = ys} k t g other had it) e =
      let same = push_same gs ks h k e in
      let before = found_once gs ks xs ys (All-before (λ (x : Game). IsTree x.tree) gs (h ∷ []) trees) one other same.0 in
      let signed = same_signature h.tree (last_tree gs h trees) s f t g has (subst (λ (x : Game). HasSignature x.tree t g) (sym same.1) had) in
      let games = same.0 in
      let form = signed.1 in
      λ i. before i ++ record { game = length (games i); form = form i } ∷ []
  found_once _ _ _ _ trees (AreGamesFound.found {games = gs} h s f one has matches) (AreGamesFound.left_out {games = ks} k t g other had not) e =
      let same = push_same gs ks h k e in
      let signed = same_signature h.tree (last_tree gs h trees) s f t g has (subst (λ (x : Game). HasSignature x.tree t g) (sym same.1) had) in
      absurd (not (subst (λ (x : Game). Matches x.tree.shape t pattern) same.1 (subst (λ (x : List ℕ). Matches h.tree.shape x pattern) signed.0 matches)))
  found_once _ _ _ _ trees (AreGamesFound.left_out {games = gs} h s f one has not) (AreGamesFound.found {games = ks} k t g other had it) e =
      let same = push_same gs ks h k e in
      let signed = same_signature h.tree (last_tree gs h trees) s f t g has (subst (λ (x : Game). HasSignature x.tree t g) (sym same.1) had) in
      absurd (not (subst (λ (x : List ℕ). Matches h.tree.shape x pattern) (sym signed.0) (subst (λ (x : Game). Matches x.tree.shape t pattern) (sym same.1) it)))
  found_once _ _ _ _ trees (AreGamesFound.left_out {games = gs} {found = xs} h s f one has not) (AreGamesFound.left_out {games = ks} {found = ys} k t g other had none) e =
      found_once gs ks xs ys (All-before (λ (x : Game). IsTree x.tree) gs (h ∷ []) trees) one other (push_same gs ks h k e).0

-- ---- the keys of games

key_more : (game : Game) (games : List Game) (key : DoubleKey) (keys : List DoubleKey) → IsKeyOf game key → AreKeysOf games keys → (k : ℕ) (g : Game) (x : DoubleKey) → slice_get (game ∷ games) k ≡ Some g → slice_get (key ∷ keys) k ≡ Some x → IsKeyOf g x
key_more game games key keys first rest zero g x at is =
    let same : game ≡ g = cc (at) in
    let one : key ≡ x = cc (is) in
    subst (λ (h : Game). IsKeyOf h x) same (subst (λ (k : DoubleKey). IsKeyOf game k) one first)
key_more game games key keys first rest (suc k) g x at is = rest.each k g x at is

keys_some : (games : List Game) → AreTrees games → (keys : List DoubleKey) × AreKeysOf games keys
keys_some [] trees = ([], record { as_many = refl; each = λ k g x at is. absurd cc })
keys_some (game ∷ games) trees =
    let (signature, form, has) = has_signature game.tree (All-head (λ (g : Game). IsTree g.tree) game games trees) in
    let (keys, are) = keys_some games (All-tail (λ (g : Game). IsTree g.tree) game games trees) in
    let key : DoubleKey = record { shape = game.tree.shape; form = form } in
    let first : IsKeyOf game key = record { shape = refl; signature = signature; signed = has } in
    (key ∷ keys, record { as_many = ap suc are.as_many; each = key_more game games key keys first are })

keys_tail : (game : Game) (games : List Game) (key : DoubleKey) (keys : List DoubleKey) → AreKeysOf (game ∷ games) (key ∷ keys) → AreKeysOf games keys
keys_tail game games key keys are = record { as_many = omega (arith, are.as_many); each = λ k g x at is. are.each (suc k) g x at is }

keys_once : (games : List Game) → AreTrees games → (a b : List DoubleKey) → AreKeysOf games a → AreKeysOf games b → a ≡ b
keys_once [] trees [] [] one other = refl
keys_once [] trees (x ∷ xs) b one other = absurd (omega (arith, one.as_many))
keys_once [] trees [] (y ∷ ys) one other = absurd (omega (arith, other.as_many))
keys_once (game ∷ games) trees [] b one other = absurd (omega (arith, one.as_many))
keys_once (game ∷ games) trees (x ∷ xs) [] one other = absurd (omega (arith, other.as_many))
keys_once (game ∷ games) trees (x ∷ xs) (y ∷ ys) one other =
    let is_tree = All-head (λ (g : Game). IsTree g.tree) game games trees in
    let first = one.each 0 game x refl refl in
    let second = other.each 0 game y refl refl in
    let shape = first.shape ∙ sym second.shape in
    let form = (same_signature game.tree is_tree first.signature x.form second.signature y.form first.signed second.signed).1 in
    let rest = keys_once games (All-tail (λ (g : Game). IsTree g.tree) game games trees) xs ys (keys_tail game games x xs one) (keys_tail game games y ys other) in
    λ i. record { shape = shape i; form = form i } ∷ rest i

-- ---- the texts

module _ (line : ℕ) (view : View) (trees : All (λ (g : Game). IsTree g.tree) view.games) where
  pub signature-text : (pattern : List ℕ) → (text : List ℕ) × IsSignatureText line view pattern text
  signature-text pattern =
      let (found, are) = found_from pattern [] view.games [] trees AreGamesFound.nothing in
      (_, record { found = found; are_found = are; text_is = refl })

  pub signature-one : (pattern a b : List ℕ) → IsSignatureText line view pattern a → IsSignatureText line view pattern b → a ≡ b
  signature-one pattern a b one other =
      one.text_is
      ∙ ap (λ (found : List FoundGame). signature_head line view.version (length view.games) (length found) ++ flat_map (λ (s : FoundGame). found_game_text s.game s.form) found)
      (found_once pattern view.games view.games one.found other.found trees one.are_found other.are_found refl)
      ∙ sym other.text_is

  pub players-text : (text : List ℕ) × IsPlayersText line view text
  players-text =
      let (rows, are) = rows_some (sides_of (map (λ (g : Game). g.tree.info) view.games)) in
      (_, record { rows = rows; is_table = are; text_is = refl })

  pub players-one : (a b : List ℕ) → IsPlayersText line view a → IsPlayersText line view b → a ≡ b
  players-one a b one other =
      one.text_is
      ∙ ap (λ (rows : List TableRow). players_text line view.version (length view.games) rows)
      (rows_once (sides_of (map (λ (g : Game). g.tree.info) view.games)) one.rows other.rows one.is_table other.is_table)
      ∙ sym other.text_is

  pub doubles-text : (text : List ℕ) × IsDoublesText line view text
  doubles-text =
      let (keys, are) = keys_some view.games trees in
      (_, record { keys = keys; are_keys = are; text_is = refl })

  pub doubles-one : (a b : List ℕ) → IsDoublesText line view a → IsDoublesText line view b → a ≡ b
  doubles-one a b one other =
      one.text_is
      ∙ ap (λ (keys : List DoubleKey). doubles_head line view.version (length view.games) (length (groups_of keys)) ++ flat_map (λ (g : Group). double_text g.form g.games) (groups_of keys))
      (keys_once view.games trees one.keys other.keys one.are_keys other.are_keys)
      ∙ sym other.text_is
