-- Definitions of the private functions that list games and players.
use Rattle.std.specs.Prelude.{ℕ, List, [], map, slice_get}
use Rattle.std.specs.Borrow.{Bor}
use Rattle.std.specs.List.{AllZip}
use Rattle.std.specs.Option.{option_map_or}
use Rattle.dyer_signature.specs.declared.bytes.Signature.{Signature}
use Rattle.game_tree.specs.Information.{Information}
use Rattle.node_position.specs.Games.{Game}
use Rattle.query_script.specs.Texts.{found_game_text}
use Rattle.segment_store.specs.Finished.{IsCanonicalOf}
use Rattle.session_core.specs.Signed.{FoundGame}

-- the games behind references
abbrev pub borrowed_games : List (Bor Game) → List Game
borrowed_games games = map (λ (g : Bor Game). g.now) games

-- the information of each game
abbrev pub infos_of : List (Bor Game) → List Information
infos_of games = map (λ (g : Bor Game). g.now.tree.info) games

-- these are the canonical forms of the signatures of games, in their order
abbrev pub AreFormsOf : List (Bor Game) → List Signature → Type 0
AreFormsOf games forms = AllZip (λ (g : Bor Game) (form : Signature).
    IsCanonicalOf g.now.tree form.bytes) games forms

-- the canonical form of the game with a number
abbrev pub form_at : List Signature → ℕ → List ℕ
form_at forms number =
    option_map_or (λ (form : Signature). form.bytes) (slice_get forms number) []

-- the line for the game with a number
abbrev pub found_text : List Signature → ℕ → List ℕ
found_text forms number = found_game_text number (form_at forms number)

-- the game with a number, which was found
abbrev pub found_at : List Signature → ℕ → FoundGame
found_at forms number = record { game = number; form = form_at forms number }
