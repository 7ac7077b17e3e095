-- The openings of the entries and next moves so far, by the words of their canonical positions.
use Prim.Native.Nat.{zero}
use Rattle.std.specs.Prelude.{◌≡◌, ◌≢◌, ℕ, suc, List, [], ◌∷◌, map, All}
use Rattle.kb_geometry.specs.declared.stone.Outcome.{Outcome}
use Rattle.game_tree.specs.declared.node.Move.{Move}
use Rattle.opening_tree.specs.declared.answer.Opening.{Opening}
use Rattle.opening_tree.specs.declared.groups.EntryAt.{EntryAt}
use Rattle.opening_tree.specs.Entries.{Entry}
use Rattle.opening_tree.specs.Groups.{Grouped, IsGroupWithin, with_group, with_groups}
use Rattle.opening_tree.specs.NextMoves.{NextAt}
use Rattle.opening_tree.specs.Packing.{AreCells, cells_of}

-- an opening with the words of its canonical position
abbrev pub Stored : Type 0
Stored = List ℕ × Opening

-- the opening with its canonical position, on a board of so many points
abbrev pub group_shown : ℕ → Stored → Grouped
group_shown points e = record {
  canonical = cells_of points e.0;
  opening = e.1;
}

-- the openings with their canonical positions
abbrev pub groups_shown : ℕ → List Stored → List Grouped
groups_shown points entries = map (group_shown points) entries

-- the words are positions of so many points
abbrev pub AreKeys : ℕ → List Stored → Type 0
AreKeys points entries = All (λ (e : Stored). AreCells points e.0) entries

-- An opening of more games can be added to those that there are: its words are a position, and no count
-- comes to its end.
pub record IsReadyForGroup (points : ℕ) (more : Stored) (stored : List Stored) : Type 0 where
  pub keys : AreKeys points stored
  pub key : AreCells points more.0
  pub room : All (λ (g : Grouped). IsGroupWithin 18446744073709551615 g.opening)
      (with_group (groups_shown points stored) (group_shown points more))

-- the same for all openings of more games
pub record IsReadyForGroups (points : ℕ) (more stored : List Stored) : Type 0 where
  pub keys : AreKeys points stored
  pub more_keys : AreKeys points more
  pub room : All (λ (g : Grouped). IsGroupWithin 18446744073709551615 g.opening)
      (with_groups (groups_shown points stored) (groups_shown points more))

-- ---- one entry

-- an entry whose canonical position is packed in these words
abbrev pub entry_shown : ℕ → List ℕ → EntryAt → Entry
entry_shown points words e = record {
  game = e.game;
  node = e.node;
  canonical = cells_of points words;
  outcome = e.outcome;
}

-- An entry with a canonical position in these words can be added: no count comes to its end.
pub record IsReadyForEntry (points : ℕ) (words : List ℕ) (stored : List Stored) : Type 0 where
  pub keys : AreKeys points stored
  pub key : AreCells points words
  pub room : All (λ (g : Grouped). IsGroupWithin 18446744073709551614 g.opening)
      (groups_shown points stored)

-- the opening with a number is the first one whose key are these words
abbrev pub IsKeyAt : List Stored → ℕ → List ℕ → Type 0
IsKeyAt [] at words = ⊥
IsKeyAt (e ∷ es) zero words = e.0 ≡ words
IsKeyAt (e ∷ es) (suc at) words = (e.0 ≢ words) × IsKeyAt es at words

-- the openings keep their numbers
abbrev pub AreKeptIn : List Stored → List Stored → Type 0
AreKeptIn before after = (at : ℕ) (words : List ℕ) → IsKeyAt before at words → IsKeyAt after at words

-- ---- one next move

-- a next move from the canonical position that is packed in these words
abbrev pub next_shown : ℕ → List ℕ → Move → Outcome → NextAt
next_shown points words played outcome = record {
  canonical = cells_of points words;
  played = played;
  outcome = outcome;
}
