-- What becomes of a text that is read and built.
use Rattle.std.specs.Prelude.{ℕ, List, [], ◌∷◌}
use Rattle.sgf_reader.specs.declared.collection.Collection.{Collection}
use Rattle.sgf_reader.specs.declared.fault.FaultKind.{FaultKind}
use Rattle.sgf_reader.specs.Faults.{IsRead}
use Rattle.game_tree.specs.Tree.{Tree}
use Rattle.game_tree.specs.Trees.{AreTreesOf}
use Rattle.game_tree.specs.ValueFaults.{HasValueFault}

-- The text has no fault, neither of its syntax nor of its values, and the trees of its collection
-- are this one.
pub record IsReadBack (text : List ℕ) (tree : Tree) : Type 0 where
  pub collection : Collection
  pub read : IsRead text collection
  pub no_fault : (of : FaultKind) (at : ℕ) → ¬ HasValueFault text collection of at
  pub built : AreTreesOf text collection (tree ∷ [])
