-- The texts of listed games and players, from what was printed.
use Rattle.std.proofs.Common.{◌≡◌, ◌∙◌, ◌++◌, ℕ, zero, suc, List, [], ◌∷◌, Some, append_assoc, length, map, refl, slice_get, sym, ap, subst}
use Rattle.std.specs.Borrow.{Bor}
use Rattle.std.specs.List.{flat_map}
use Rattle.std.specs.Prelude.{Result, OnOk}
use Rattle.std.proofs.lemmas.List.{length-map}
use Rattle.std.proofs.lemmas.List.Folds.{flat_map-map}
use Rattle.dyer_signature.specs.declared.bytes.Signature.{Signature}
use Rattle.game_tree.specs.Information.{Information}
use Rattle.indexmap.proofs.MapLemmas.{OnOk-map}
use Rattle.info_filter.specs.Players.{IsPlayersTable, TableRow}
use Rattle.node_position.specs.Games.{Game}
use Rattle.query_script.specs.Texts.{double_text, doubles_head, found_game_text, players_text, signature_head}
use Rattle.session_core.specs.Answers.{IsDoublesText, IsPlayersText, IsSignatureText, View}
use Rattle.session_core.specs.Doubles.{AreKeysOf, DoubleKey, Group, IsKeyOf, groups_of}
use Rattle.session_core.specs.Grouping.{key_with, keys_with}
use Rattle.session_core.specs.Listing.{AreFormsOf, found_at, found_text, borrowed_games, infos_of}
use Rattle.session_core.specs.Signed.{AreGamesFound, FoundGame}

infos-same : (games : List (Bor Game)) → infos_of games ≡ map (λ (g : Game). g.tree.info) (borrowed_games games)
infos-same [] = refl
infos-same (g ∷ gs) = ap (λ (rest : List Information). g.now.tree.info ∷ rest) (infos-same gs)

-- the text of the players was appended
pub IsPlayersText-printed : {T E : Type 0} (result : Result T E) (line : ℕ) (view : View) (version count : ℕ) (games : List (Bor Game)) (rows : List TableRow) (old new : List ℕ)
    → version ≡ view.version → count ≡ length view.games → borrowed_games games ≡ view.games → IsPlayersTable (infos_of games) rows → OnOk result (new ≡ old ++ players_text line version count rows)
    → OnOk result ((text : List ℕ) × IsPlayersText line view text × (new ≡ old ++ text))
IsPlayersText-printed result line view version count games rows old new own counted all table printed =
    OnOk-map result _ _ (λ same. (
      players_text line version count rows,
      record {
        rows = rows;
        is_table = subst (λ (infos : List Information). IsPlayersTable infos rows) (infos-same games ∙ ap (map (λ (g : Game). g.tree.info)) all) table;
        text_is = λ i. players_text line (own i) (counted i) rows;
      },
      same,
    )) printed

-- ---- the groups of double games

length-keys : (games : List (Bor Game)) (forms : List Signature) → AreFormsOf games forms → length (keys_with games forms) ≡ length (borrowed_games games)
length-keys [] [] are = refl
length-keys [] (s ∷ ss) are = absurd are
length-keys (g ∷ gs) [] are = absurd are
length-keys (g ∷ gs) (s ∷ ss) are = ap suc (length-keys gs ss are.1)

-- the keys are those of the games
kept_key : (games : List (Bor Game)) (forms : List Signature) → AreFormsOf games forms → (k : ℕ) (game : Game) (key : DoubleKey) → slice_get (borrowed_games games) k ≡ Some game → slice_get (keys_with games forms) k ≡ Some key → IsKeyOf game key
kept_key [] forms are k game key at is = absurd cc
kept_key (g ∷ gs) [] are k game key at is = absurd are
kept_key (g ∷ gs) (s ∷ ss) are zero game key at is =
    let own = are.0 in
    let same : g.now ≡ game = cc (at) in
    let one : key_with g.now s ≡ key = cc (is) in
    let here : IsKeyOf g.now (key_with g.now s) = record { shape = refl; signature = own.signature; signed = record { of_tree = own.of_tree; canonical = own.canonical } } in
    subst (λ (x : Game). IsKeyOf x key) same (subst (λ (k : DoubleKey). IsKeyOf g.now k) one here)
kept_key (g ∷ gs) (s ∷ ss) are (suc k) game key at is = kept_key gs ss are.1 k game key at is

AreKeysOf-kept : (games : List (Bor Game)) (forms : List Signature) → AreFormsOf games forms → AreKeysOf (borrowed_games games) (keys_with games forms)
AreKeysOf-kept games forms are = record { as_many = length-keys games forms are; each = kept_key games forms are }

pub IsDoublesText-printed : (line : ℕ) (view : View) (version count : ℕ) (games : List (Bor Game)) (forms : List Signature) (old new : List ℕ) → version ≡ view.version → count ≡ length view.games → borrowed_games games ≡ view.games → AreFormsOf games forms
    → new ≡ (old ++ doubles_head line version count (length (groups_of (keys_with games forms)))) ++ flat_map (λ (g : Group). double_text g.form g.games) (groups_of (keys_with games forms))
    → (text : List ℕ) × IsDoublesText line view text × (new ≡ old ++ text)
IsDoublesText-printed line view version count games forms old new own counted all are printed =
    let keys = keys_with games forms in
    let head = doubles_head line version count (length (groups_of keys)) in
    let lines = flat_map (λ (g : Group). double_text g.form g.games) (groups_of keys) in (
      head ++ lines,
      record {
        keys = keys;
        are_keys = subst (λ (gs : List Game). AreKeysOf gs keys) all (AreKeysOf-kept games forms are);
        text_is = λ i. doubles_head line (own i) (counted i) (length (groups_of keys)) ++ lines;
      },
      printed ∙ append_assoc old head lines,
    )

-- ---- the games found by their signatures

pub IsSignatureText-printed : {T E : Type 0} (result : Result T E) (line : ℕ) (view : View) (version count long : ℕ) (games : List (Bor Game)) (forms : List Signature) (pattern numbers old between new : List ℕ)
    → version ≡ view.version → count ≡ length view.games → long ≡ length numbers → borrowed_games games ≡ view.games → AreGamesFound pattern (borrowed_games games) (map (found_at forms) numbers)
    → between ≡ old ++ signature_head line version count long → OnOk result (new ≡ between ++ flat_map (found_text forms) numbers)
    → OnOk result ((text : List ℕ) × IsSignatureText line view pattern text × (new ≡ old ++ text))
IsSignatureText-printed result line view version count long games forms pattern numbers old between new own counted as_many all are head_is printed =
    let found = map (found_at forms) numbers in
    let head = signature_head line version count long in
    let lines = flat_map (λ (s : FoundGame). found_game_text s.game s.form) found in
    let same_lines : lines ≡ flat_map (found_text forms) numbers = flat_map-map (λ (s : FoundGame). found_game_text s.game s.form) (found_at forms) numbers in
    let head_same : head ≡ signature_head line view.version (length view.games) (length found) =
    (λ i. signature_head line (own i) (counted i) long) ∙ ap (signature_head line view.version (length view.games)) (as_many ∙ sym (length-map numbers (found_at forms))) in
    OnOk-map result _ _ (λ same. (
      head ++ lines,
      record { found = found; are_found = subst (λ (gs : List Game). AreGamesFound pattern gs found) all are; text_is = ap (λ h. h ++ lines) head_same },
      same ∙ ap (λ b. b ++ flat_map (found_text forms) numbers) head_is ∙ append_assoc old head (flat_map (found_text forms) numbers) ∙ ap (λ ls. old ++ (head ++ ls)) (sym same_lines),
    )) printed
