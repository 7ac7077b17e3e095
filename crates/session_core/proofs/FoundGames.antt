-- The games that are found by their signatures, one game after another.
use Rattle.std.proofs.Common.{◌≡◌, ◌∙◌, ◌+◌, ◌<◌, ◌≤◌, ◌++◌, ◌↔◌, ℕ, zero, suc, List, [], ◌∷◌, get_or, length, map, sym, ap, subst, take, arith}
use Rattle.std.specs.Borrow.{Bor}
use Rattle.std.specs.Option.{option_map_or}
use Rattle.std.specs.List.{AllZip, flat_map}
use Rattle.std.proofs.lemmas.List.{flat_map_more, length-map, length-take-le, map-append, take_more}
use Rattle.std.proofs.lemmas.Option.{slice_get-get_or}
use Rattle.std.proofs.lemmas.Slice.Zip.{AllZip-long, all_zipped_more}
use Rattle.game_tree.specs.Tree.{IsTree}
use Rattle.dyer_signature.specs.declared.bytes.Signature.{Signature}
use Rattle.dyer_signature.specs.Patterns.{Matches}
use Rattle.dyer_signature.proofs.ImageGroups.{matches-image}
use Rattle.dyer_signature.proofs.SoFar.{signature-on_board}
use Rattle.node_position.specs.Games.{Game}
use Rattle.query_script.specs.Texts.{found_game_text}
use Rattle.segment_store.specs.Finished.{IsCanonicalOf}
use Rattle.session_core.specs.Listing.{AreFormsOf, form_at, found_at, found_text, borrowed_games}
use Rattle.session_core.specs.Signed.{AreGamesFound, FoundGame, HasSignature}

-- the relation of two lists holds at each place
pub zipped_at : {A B : Type 0} (R : A → B → Type 0) (xs : List A) (ys : List B) (n : ℕ) (x : A) (y : B) → AllZip R xs ys → n < length xs → R (get_or xs n x) (get_or ys n y)
zipped_at R [] ys n x y all below = absurd (omega (arith, below))
zipped_at R (a ∷ xs) [] n x y all below = absurd all
zipped_at R (a ∷ xs) (b ∷ ys) zero x y all below = all.0
zipped_at R (a ∷ xs) (b ∷ ys) (suc n) x y all below = zipped_at R xs ys n x y all.1 (omega (arith, below))

-- there are not more than a version may have
pub few_games : (slice games : List (Bor Game)) (all : List Game) (count : ℕ) → slice ≡ games → borrowed_games games ≡ all → count ≡ length all → count ≤ 400000 → length slice ≤ 400000
few_games slice games all count same are counted most = omega (arith, ap length same, length-map games (λ (g : Bor Game). g.now), ap length are, counted, most)

-- the canonical form that is kept of a game
form-is : (forms : List Signature) (n : ℕ) (d : Signature) → n < length forms → form_at forms n ≡ (get_or forms n d).bytes
form-is forms n d within = ap (λ o. option_map_or (λ (s : Signature). s.bytes) o []) (slice_get-get_or forms n d within)

-- the form of one game more
pub forms-next : (games : List (Bor Game)) (n : ℕ) (game : Bor Game) (forms new : List Signature) (form : Signature) → n < length games → game ≡ get_or games n game → AreFormsOf (take n games) forms → IsCanonicalOf game.now.tree form.bytes → new ≡ forms ++ form ∷ [] → AreFormsOf (take (n + 1) games) new
forms-next games n game forms new form below at are is pushed =
    let next : take (n + 1) games ≡ take n games ++ game ∷ [] = take_more games n game below ∙ ap (λ (g : Bor Game). take n games ++ g ∷ []) (sym at) in
    subst (λ (list : List Signature). AreFormsOf (take (n + 1) games) list) (sym pushed)
    (subst (λ (gs : List (Bor Game)). AreFormsOf gs (forms ++ form ∷ [])) (sym next)
    (all_zipped_more (λ (g : Bor Game) (s : Signature). IsCanonicalOf g.now.tree s.bytes) (take n games) forms game form are is))

-- there are as many forms as games
pub forms-long : (games : List (Bor Game)) (forms : List Signature) → AreFormsOf games forms → length forms ≡ length games
forms-long games forms are = AllZip-long (λ (g : Bor Game) (form : Signature). IsCanonicalOf g.now.tree form.bytes) games forms are

module _ (games : List (Bor Game)) (forms : List Signature) (n : ℕ) (game : Bor Game) (d : Signature) (are : AreFormsOf games forms) (below : n < length games) (at : game ≡ get_or games n game) where
  abbrev pub form : Signature
  form = get_or forms n d

  within : n < length forms
  within = omega (arith, below, forms-long games forms are)

  -- the form that is kept is that of the game
  pub form-of : IsCanonicalOf game.now.tree form.bytes
  form-of = subst (λ (g : Bor Game). IsCanonicalOf g.now.tree form.bytes) (sym at) (zipped_at (λ (g : Bor Game) (s : Signature). IsCanonicalOf g.now.tree s.bytes) games forms n game d are below)

  -- the first games with the next one
  games-next : borrowed_games (take (n + 1) games) ≡ borrowed_games (take n games) ++ game.now ∷ []
  games-next =
      ap borrowed_games (take_more games n game below ∙ ap (λ (g : Bor Game). take n games ++ g ∷ []) (sym at))
      ∙ map-append (λ (g : Bor Game). g.now) (take n games) (game ∷ [])

  length-before : length (borrowed_games (take n games)) ≡ n
  length-before = length-map (take n games) (λ (g : Bor Game). g.now) ∙ length-take-le n games (omega (arith, below))

  found-is : record { game = length (borrowed_games (take n games)); form = form.bytes } ≡ found_at forms n
  found-is = let same = sym (form-is forms n d within) in λ i. record { game = length-before i; form = same i }

  module _ (tree : IsTree game.now.tree) (pattern : List ℕ) where
    signed : HasSignature game.now.tree form-of.signature form.bytes
    signed = record { of_tree = form-of.of_tree; canonical = form-of.canonical }

    -- the canonical form matches where the signature does
    same_matches : Matches game.now.tree.shape form.bytes pattern ↔ Matches game.now.tree.shape form-of.signature pattern
    same_matches =
        matches-image game.now.tree.shape form-of.signature form.bytes pattern
        (signature-on_board game.now.tree tree form-of.signature form-of.of_tree) form-of.canonical.is_image

    pub found-more : (found new : List ℕ) → AreGamesFound pattern (borrowed_games (take n games)) (map (found_at forms) found) → Matches game.now.tree.shape form.bytes pattern → new ≡ found ++ n ∷ []
        → AreGamesFound pattern (borrowed_games (take (n + 1) games)) (map (found_at forms) new)
    found-more found new so_far matches pushed =
        let one_more = AreGamesFound.found game.now form-of.signature form.bytes so_far signed (same_matches.0 matches) in
        let list : map (found_at forms) new ≡ map (found_at forms) found ++ found_at forms n ∷ [] = ap (map (found_at forms)) pushed ∙ map-append (found_at forms) found (n ∷ []) in
        let told = subst (λ (f : FoundGame). AreGamesFound pattern (borrowed_games (take n games) ++ game.now ∷ []) (map (found_at forms) found ++ f ∷ [])) found-is one_more in
        subst (λ gs. AreGamesFound pattern gs (map (found_at forms) new)) (sym games-next)
        (subst (λ fs. AreGamesFound pattern (borrowed_games (take n games) ++ game.now ∷ []) fs) (sym list) told)

    pub found-left_out : (found new : List ℕ) → AreGamesFound pattern (borrowed_games (take n games)) (map (found_at forms) found) → ¬ Matches game.now.tree.shape form.bytes pattern → new ≡ found
        → AreGamesFound pattern (borrowed_games (take (n + 1) games)) (map (found_at forms) new)
    found-left_out found new so_far differs same =
        let left_out = AreGamesFound.left_out game.now form-of.signature form.bytes so_far signed (λ matches. differs (same_matches.1 matches)) in
        subst (λ gs. AreGamesFound pattern gs (map (found_at forms) new)) (sym games-next)
        (subst (λ (ns : List ℕ). AreGamesFound pattern (borrowed_games (take n games) ++ game.now ∷ []) (map (found_at forms) ns)) (sym same) left_out)

-- one line more
pub line-more : (forms : List Signature) (found : List ℕ) (k : ℕ) (d : Signature) (old out new : List ℕ) → k < length found → get_or found k 0 < length forms
    → out ≡ old ++ flat_map (found_text forms) (take k found) → new ≡ out ++ found_game_text (get_or found k 0) (get_or forms (get_or found k 0) d).bytes → new ≡ old ++ flat_map (found_text forms) (take (k + 1) found)
line-more forms found k d old out new lt within before printed =
    let n = get_or found k 0 in
    let form = get_or forms n d in
    let line : found_game_text n form.bytes ≡ found_text forms n = ap (found_game_text n) (sym (form-is forms n d within)) in
    printed
    ∙ ap (λ o. o ++ found_game_text n form.bytes) before
    ∙ ap (λ l. (old ++ flat_map (found_text forms) (take k found)) ++ l) line
    ∙ flat_map_more (found_text forms) old (take k found) n
    ∙ ap (λ ns. old ++ flat_map (found_text forms) ns) (sym (take_more found k 0 lt))
