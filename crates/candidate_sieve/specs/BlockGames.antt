-- The games of a block that have the cells of a placement: definitions for private functions.
use Rattle.std.specs.Prelude.{◌≡◌, ◌≢◌, ◌⊎◌, ◌↔◌, ℕ, ◌+◌, ◌-◌, ◌<◌, ◌≤◌, ◌++◌, ◌∷◌, [], All, List, Option, length, slice_index, slice_index_or, slice_range}
use Rattle.std.specs.Int.{bit_at}
use Rattle.kb_geometry.specs.declared.stone.Cell.{Cell}
use Rattle.kb_geometry.specs.declared.stone.Cell.TheVariants as cell
use Rattle.kb_geometry.specs.Board.{point_count}
use Rattle.pattern_images.specs.declared.cell.PatternCell.TheVariants as kind
use Rattle.pattern_images.specs.Holds.{Allows}
use Rattle.ready_images.specs.declared.row.Row.{Row}
use Rattle.ready_images.specs.declared.want.Want.{Want}
use Rattle.ready_images.specs.Rows.{row_at}
use Rattle.ready_images.specs.Wants.{no_want, rank_of, want_at}
use Rattle.final_index.specs.declared.ever_sets.EverSets.{EverSets}
use Rattle.final_index.specs.Planes.{HadThere, PlaneGames}
use Rattle.candidate_sieve.specs.declared.candidates.Candidate.{Candidate}
use Rattle.candidate_sieve.specs.declared.candidates.SpanSieve.{SpanSieve}
use Rattle.candidate_sieve.specs.declared.order.SpanOrder.{SpanOrder}
use Rattle.candidate_sieve.specs.Ordered.{IsCutInOrder}

-- game g had a cell on the point that the want allows, if the want asks anything
abbrev pub HadWanted : List (Option EverSets) → ℕ → Want → ℕ → Type 0
HadWanted games g want p = want.cell ≢ kind.Any →
    (c : Cell) × Allows want.cell c × HadThere games g c p

-- so for the first so many wants, whose points stand behind a base
abbrev pub HadEach : List (Option EverSets) → ℕ → List Want → ℕ → ℕ → Type 0
HadEach games base wants count g = (k : ℕ) → k < count →
    HadWanted games g (slice_index_or wants k no_want)
    (base + (slice_index_or wants k no_want).offset)

-- the games of the word are those of some games that had the first so many wants
abbrev pub HaveEach : List (Option EverSets) → ℕ → List Want → ℕ → ℕ → ℕ → Type 0
HaveEach games base wants among count word =
    (g : ℕ) → g < 64 → (bit_at word g ≡ 1) ↔ ((bit_at among g ≡ 1)
    × HadEach games base wants count g)

-- in the games of the word each point of the board was empty at some node
abbrev pub AreEverEmpty : PlaneGames → ℕ → Type 0
AreEverEmpty planes word = (g p : ℕ) → g < 64 → bit_at word g ≡ 1 →
    p < point_count planes.shape → HadThere planes.games g cell.Empty p

-- The sieve is of placements behind so many points: these are on the board, as what the placements ask
-- leads to points of the board, and stones are asked first.
pub record IsSieve (sieve : SpanSieve) : Type 0 where
  pub ever_empty : AreEverEmpty sieve.planes.now sieve.ever_empty
  pub in_order : (j k : ℕ) → j < k → k < length sieve.wants.now →
      rank_of (want_at sieve.wants.now j).cell ≤ rank_of (want_at sieve.wants.now k).cell
  pub on_board : All (λ (w : Want). sieve.base + w.offset + sieve.count
      ≤ point_count sieve.planes.now.shape) sieve.wants.now
  pub small : sieve.base + sieve.count ≤ 65536

-- the list has gained a candidate with these games, if there is one: the placement with number k in
-- the row
abbrev pub IsAddedFor : Row → ℕ → ℕ → ℕ → List Candidate → List Candidate → Type 0
IsAddedFor row k i games old new = ((games ≡ 0) × (new ≡ old))
    ⊎ ((0 < games) × (new ≡ old ++ record {
      placement = i;
      base = row.base + k;
      class = row.class;
      games = games;
    } ∷ []))

-- The list has gained, for each of the first so many placements of a row, a candidate with its games,
-- if there is one.
pub data AreAddedFor (row : Row) (numbers words : List ℕ)
    (old : List Candidate) : ℕ → List Candidate → Type 0 where
  nothing : AreAddedFor row numbers words old 0 old
  one_more : (k : ℕ) (now next : List Candidate) → AreAddedFor row numbers words old k now →
      IsAddedFor row k (slice_index numbers k) (slice_index words k) now next →
      AreAddedFor row numbers words old (k + 1) next

-- The word has those of some games that had the wants behind a base, but perhaps not those of them that
-- can't have it by the order of stones.
pub record IsSieved (games : List (Option EverSets)) (wants : List Want) (among : ℕ)
    (order : SpanOrder) (base word : ℕ) : Type 0 where
  pub had : ℕ
  pub have : HaveEach games base wants among (length wants) had
  pub cut : IsCutInOrder order.order base order.pairs.now (length order.pairs.now) had word

-- The rows from one number to the one before another are of one class, and stand on the board between
-- the base of the first and the end of the last.
pub record IsSpanOf (rows : List Row) (first end : ℕ) : Type 0 where
  pub some : first < end
  pub within : end ≤ length rows
  pub classes : (r : ℕ) → first ≤ r → r < end → (row_at rows r).class ≡ (row_at rows first).class
  pub from : (r : ℕ) → first ≤ r → r < end → (row_at rows first).base ≤ (row_at rows r).base
  pub to : (q r : ℕ) → end ≡ q + 1 → first ≤ r → r < end →
      (row_at rows r).base + (row_at rows r).count ≤ (row_at rows q).base + (row_at rows q).count

-- so many words reach from the base of the first row to the end of the last
abbrev pub AreWordsOfSpan : List Row → ℕ → ℕ → ℕ → Type 0
AreWordsOfSpan rows first end count = (q : ℕ) → end ≡ q + 1 →
    (row_at rows q).base + (row_at rows q).count ≤ (row_at rows first).base + count

-- the numbers of a row's placements
abbrev pub numbers_in : List ℕ → Row → List ℕ
numbers_in numbers row = slice_range numbers row.start (row.start + row.count)

-- the words of a row's placements, where the first word is that of a base
abbrev pub words_in : List ℕ → ℕ → Row → List ℕ
words_in words base row = slice_range words (row.base - base) (row.base - base + row.count)

-- The list has gained, for each placement of the rows from one number to the one before another, a
-- candidate with its games, if there is one. The first word is that of the first row's base.
pub data AreRowsAdded (rows : List Row) (numbers words : List ℕ) (first : ℕ)
    (old : List Candidate) : ℕ → List Candidate → Type 0 where
  none_yet : AreRowsAdded rows numbers words first old first old
  row_more : (r : ℕ) (now next : List Candidate) → first ≤ r →
      AreRowsAdded rows numbers words first old r now →
      AreAddedFor (row_at rows r) (numbers_in numbers (row_at rows r))
      (words_in words (row_at rows first).base (row_at rows r)) now (row_at rows r).count next →
      AreRowsAdded rows numbers words first old (r + 1) next
