-- A file has an outcome in each base, and one alone; the games that it adds are trees.
use Rattle.std.proofs.Common.{◌≡◌, ◌⊎◌, inl, inr, ℕ, List, [], length, refl, sym, ap, ◌∙◌, subst, arith}
use Rattle.std.specs.Prelude.{All}
use Rattle.std.proofs.lemmas.Bool.{cases_lt}
use Rattle.std.proofs.lemmas.List.Elements.{All-nil}
use Rattle.sgf_reader.specs.declared.collection.Collection.{Collection}
use Rattle.sgf_reader.specs.declared.fault.FaultKind.{FaultKind}
use Rattle.sgf_reader.specs.Faults.{IsRead}
use Rattle.sgf_reader.specs.Grammar.{collection_of}
use Rattle.sgf_reader.proofs.OneFault.{first_fault-one}
use Rattle.sgf_reader.proofs.ReadOrFault.{read-or-fault}
use Rattle.sgf_reader.proofs.SpellsOne.{spells-one}
use Rattle.game_tree.specs.Tree.{IsTree, Tree}
use Rattle.game_tree.specs.Trees.{AreTreesOf}
use Rattle.game_tree.specs.ValueFaults.{IsFirstValueFault}
use Rattle.game_tree.proofs.OneFault.{first_value_fault-one}
use Rattle.game_tree.proofs.OneTree.{AreTreesOf-only}
use Rattle.game_tree.proofs.ReadTrees.{read-trees}
use Rattle.game_tree.proofs.TreesOrFault.{trees-or-fault}
use Rattle.import_work.specs.declared.outcome.Counts.{Counts}
use Rattle.import_work.specs.declared.outcome.FileOutcome.{FileOutcome}
use Rattle.import_work.specs.declared.outcome.FileOutcome.TheVariants as file
use Rattle.import_work.specs.Outcome.{HasRoom, HaveGames, IsFaulty, IsOutcome, games_after, nodes_after}

-- there is room for games, or there is none
pub room-or-none : (before : Counts) (trees : List Tree) → HasRoom before trees ⊎ (¬ HasRoom before trees)
room-or-none before trees = elim (cases_lt 400000 (games_after before trees)) [
  | inl many ↦ inr (λ room. omega (arith, many, room.0))
  | inr few ↦ elim (cases_lt 67108864 (nodes_after before trees)) [
    | inl many ↦ inr (λ room. omega (arith, many, room.1))
    | inr fit ↦ inl (few, fit)
  ]
]

-- what becomes of a file with these games
outcome-of : (bytes : List ℕ) (before : Counts) (trees : List Tree) → HaveGames bytes trees → (outcome : FileOutcome) × (added : List Tree) × IsOutcome bytes before outcome added
outcome-of bytes before trees have = elim (room-or-none before trees) [
  | inl room ↦ (file.Accepted (length trees), trees, IsOutcome.accepted have room)
  | inr none ↦ (file.Full (games_after before trees) (nodes_after before trees), [], IsOutcome.full trees have none)
]

pub outcome-found : (bytes : List ℕ) (before : Counts) → (outcome : FileOutcome) × (trees : List Tree) × IsOutcome bytes before outcome trees
outcome-found bytes before = elim (read-or-fault bytes) [
  | inl (games, read) ↦ elim (trees-or-fault bytes (collection_of games) (games, read, refl)) [
    | inl (trees, are, none) ↦ outcome-of bytes before trees (collection_of games, (games, read, refl), none, are)
    | inr (of, at, first) ↦ (file.Refused of at, [], IsOutcome.refused (inr (collection_of games, (games, read, refl), first)))
  ]
  | inr (of, at, first) ↦ (file.Refused of at, [], IsOutcome.refused (inl first))
]

-- ---- one alone

-- a text is read as one collection
read-one : (text : List ℕ) (c d : Collection) → IsRead text c → IsRead text d → c ≡ d
read-one text c d one other = one.2 ∙ ap collection_of (spells-one text one.0 other.0 one.1.spells other.1.spells) ∙ sym other.2

faulty-one : (bytes : List ℕ) (of other : FaultKind) (at offset : ℕ) → IsFaulty bytes of at → IsFaulty bytes other offset → (of ≡ other) × (at ≡ offset)
faulty-one bytes of other at offset (inl first) (inl also) = first_fault-one bytes of other at offset first also
faulty-one bytes of other at offset (inl first) (inr (c, read, value)) = absurd (read.1.no_fault of at first.there)
faulty-one bytes of other at offset (inr (c, read, value)) (inl also) = absurd (read.1.no_fault other offset also.there)
faulty-one bytes of other at offset (inr (c, read, value)) (inr (d, too, also)) =
    first_value_fault-one bytes d of other at offset (subst (λ k. IsFirstValueFault bytes k of at) (read-one bytes c d read too) value) also

games-one : (bytes : List ℕ) (xs ys : List Tree) → HaveGames bytes xs → HaveGames bytes ys → xs ≡ ys
games-one bytes xs ys have also =
    AreTreesOf-only bytes also.0 xs ys (subst (λ k. AreTreesOf bytes k xs) (read-one bytes have.0 also.0 have.1 also.1) have.3) also.3

-- bytes with a fault have no games
no_games : (bytes : List ℕ) (of : FaultKind) (at : ℕ) (trees : List Tree) → IsFaulty bytes of at → HaveGames bytes trees → ⊥
no_games bytes of at trees (inl first) have = have.1.1.no_fault of at first.there
no_games bytes of at trees (inr (c, read, value)) have =
    have.2 of at (subst (λ k. IsFirstValueFault bytes k of at) (read-one bytes c have.0 read have.1) value).there

-- an outcome, and the games that it adds
record Result : Type 0 where
  outcome : FileOutcome
  trees : List Tree

abbrev result_of : FileOutcome → List Tree → Result
result_of outcome trees = record { outcome = outcome; trees = trees }

abbrev refused_by : FaultKind → ℕ → Result
refused_by of at = record { outcome = file.Refused of at; trees = [] }

abbrev full_by : Counts → List Tree → Result
full_by before trees = record { outcome = file.Full (games_after before trees) (nodes_after before trees); trees = [] }

abbrev accepted_by : List Tree → Result
accepted_by trees = record { outcome = file.Accepted (length trees); trees = trees }

module _ (bytes : List ℕ) (before : Counts) where
  one_result : (a b : FileOutcome) (xs ys : List Tree) → IsOutcome bytes before a xs → IsOutcome bytes before b ys → result_of a xs ≡ result_of b ys
  one_result _ _ _ _ (IsOutcome.refused {of} {at} first) (IsOutcome.refused {of = other} {at = offset} also) =
      let same = faulty-one bytes of other at offset first also in
      ap (λ k. refused_by k at) same.0 ∙ ap (λ n. refused_by other n) same.1
  one_result _ _ _ _ (IsOutcome.refused {of} {at} first) (IsOutcome.full ys have none) = absurd (no_games bytes of at ys first have)
  one_result _ _ _ _ (IsOutcome.refused {of} {at} first) (IsOutcome.accepted {trees = ys} have room) = absurd (no_games bytes of at ys first have)
  one_result _ _ _ _ (IsOutcome.full xs have none) (IsOutcome.refused {of} {at} first) = absurd (no_games bytes of at xs first have)
  one_result _ _ _ _ (IsOutcome.full xs have none) (IsOutcome.full ys also too) = ap (full_by before) (games-one bytes xs ys have also)
  one_result _ _ _ _ (IsOutcome.full xs have none) (IsOutcome.accepted {trees = ys} also room) =
      absurd (none (subst (HasRoom before) (games-one bytes ys xs also have) room))
  one_result _ _ _ _ (IsOutcome.accepted {trees = xs} have room) (IsOutcome.refused {of} {at} first) = absurd (no_games bytes of at xs first have)
  one_result _ _ _ _ (IsOutcome.accepted {trees = xs} have room) (IsOutcome.full ys also none) =
      absurd (none (subst (HasRoom before) (games-one bytes xs ys have also) room))
  one_result _ _ _ _ (IsOutcome.accepted {trees = xs} have room) (IsOutcome.accepted {trees = ys} also too) = ap accepted_by (games-one bytes xs ys have also)

  pub outcome-one : (a b : FileOutcome) (xs ys : List Tree) → IsOutcome bytes before a xs → IsOutcome bytes before b ys → (a ≡ b) × (xs ≡ ys)
  outcome-one a b xs ys one other =
      let same = one_result a b xs ys one other in
      (ap (λ (r : Result). r.outcome) same, ap (λ (r : Result). r.trees) same)

-- the games that a file adds are trees
pub outcome-trees : (bytes : List ℕ) (before : Counts) (outcome : FileOutcome) (trees : List Tree) → IsOutcome bytes before outcome trees → All IsTree trees
outcome-trees bytes before _ _ (IsOutcome.refused first) = All-nil IsTree
outcome-trees bytes before _ _ (IsOutcome.full trees have none) = All-nil IsTree
outcome-trees bytes before _ _ (IsOutcome.accepted {trees} have room) = read-trees bytes have.0 trees have.1 have.3
