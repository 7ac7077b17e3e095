-- What becomes of a file by its bytes, and by the games and nodes that the base has before it.
use Rattle.std.specs.Prelude.{◌⊎◌, ℕ, ◌+◌, ◌≤◌, List, [], length, sum_by}
use Rattle.sgf_reader.specs.declared.collection.Collection.{Collection}
use Rattle.sgf_reader.specs.declared.fault.FaultKind.{FaultKind}
use Rattle.sgf_reader.specs.Faults.{IsFirstFault, IsRead}
use Rattle.game_tree.specs.Tree.{Tree, node_count}
use Rattle.game_tree.specs.Trees.{AreTreesOf}
use Rattle.game_tree.specs.ValueFaults.{HasValueFault, IsFirstValueFault}
use Rattle.import_work.specs.declared.outcome.Counts.{Counts}
use Rattle.import_work.specs.declared.outcome.FileOutcome.{FileOutcome}
use Rattle.import_work.specs.declared.outcome.FileOutcome.TheVariants as file

-- The bytes have this fault at this offset: the first one of their syntax, or, where there is none,
-- of their values.
abbrev pub IsFaulty : List ℕ → FaultKind → ℕ → Type 0
IsFaulty bytes of at = IsFirstFault bytes of at
    ⊎ ((collection : Collection) × IsRead bytes collection
    × IsFirstValueFault bytes collection of at)

-- The bytes have no fault, and these are their games.
abbrev pub HaveGames : List ℕ → List Tree → Type 0
HaveGames bytes trees = (collection : Collection) × IsRead bytes collection
    × ((of : FaultKind) (at : ℕ) → ¬ HasValueFault bytes collection of at)
    × AreTreesOf bytes collection trees

-- how many nodes these trees have
abbrev pub nodes_of_trees : List Tree → ℕ
nodes_of_trees trees = sum_by node_count trees

-- games and nodes, with those of these games
abbrev pub games_after : Counts → List Tree → ℕ
games_after before trees = before.games + length trees

abbrev pub nodes_after : Counts → List Tree → ℕ
nodes_after before trees = before.nodes + nodes_of_trees trees

-- the counts of a base with these games more
abbrev pub with_games : Counts → List Tree → Counts
with_games before trees = record {
  games = games_after before trees;
  nodes = nodes_after before trees;
}

-- the counts of a base with these games
abbrev pub counts_of : List Tree → Counts
counts_of trees = record { games = length trees; nodes = nodes_of_trees trees }

-- there is room for these games in the base, which has at most 400,000 games and 67,108,864 nodes
abbrev pub HasRoom : Counts → List Tree → Type 0
HasRoom before trees = (games_after before trees ≤ 400000) × (nodes_after before trees ≤ 67108864)

-- What becomes of a file that was read, and the games that it adds. A file is refused with its
-- fault if it has one. Else it is accepted where there is room in the base for its games.
pub data IsOutcome (bytes : List ℕ) (before : Counts) : FileOutcome → List Tree → Type 0 where
  refused : {of : FaultKind} {at : ℕ} → IsFaulty bytes of at →
      IsOutcome bytes before (file.Refused of at) []
  full : (trees : List Tree) → HaveGames bytes trees → ¬ HasRoom before trees →
      IsOutcome bytes before (file.Full (games_after before trees) (nodes_after before trees)) []
  accepted : {trees : List Tree} → HaveGames bytes trees → HasRoom before trees →
      IsOutcome bytes before (file.Accepted (length trees)) trees

-- Of these games all are added where there is room for them, else none.
pub data IsAddedBy (before : Counts) (games : List Tree) : FileOutcome → List Tree → Type 0 where
  full : ¬ HasRoom before games →
      IsAddedBy before games (file.Full (games_after before games) (nodes_after before games)) []
  accepted : HasRoom before games → IsAddedBy before games (file.Accepted (length games)) games
