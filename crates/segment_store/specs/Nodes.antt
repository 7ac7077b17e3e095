-- The nodes of games.
use Rattle.std.specs.Prelude.{ℕ, List, sum_by}
use Rattle.game_tree.specs.Tree.{node_count}
use Rattle.node_position.specs.Games.{Game}

-- how many nodes all these games have
abbrev pub nodes_of : List Game → ℕ
nodes_of games = sum_by (λ (g : Game). node_count g.tree) games
