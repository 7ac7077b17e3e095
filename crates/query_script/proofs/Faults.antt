-- Which lines of a script are bad, as far as it is read.
use Rattle.std.proofs.Common.{◌≡◌, ◌⊎◌, ⊎_elim, inl, inr, ℕ, ◌+◌, ◌<◌, ◌≤◌, List, [], ◌∷◌, length, refl, arith}
use Rattle.std.proofs.Math.Nat.{eq-or-lt_of_le}
use Rattle.std.proofs.lemmas.Bool.{cases_lt, cases_order}
use Rattle.std.proofs.lemmas.List.{get_or_past}
use Rattle.std.proofs.lemmas.List.Elements.{All-nil}
use Rattle.query_script.specs.Lines.{IsLine}
use Rattle.query_script.specs.Progress.{IsBlockBegun}
use Rattle.query_script.specs.Script.{IsBadLine, IsFaultyLine, IsLeastBadLine, IsInBlock, block_inside_block, ends_empty_block, ends_no_block, line_at, never_ended, one_search_too_many, spells_nothing, statement_inside_block}
use Rattle.query_script.specs.Statements.{SpellsEnd, SpellsTogether}
use Rattle.query_script.specs.Words as words
use Rattle.query_script.specs.Words.{AreWords, IsBlank}
use Rattle.query_script.specs.declared.line.Line.{Line}
use Rattle.query_script.specs.declared.line.Line.TheVariants as line
use Rattle.query_script.specs.declared.statement.Placed.{Placed}
use Rattle.query_script.specs.declared.statement.Statement.{Statement}
use Rattle.query_script.specs.declared.statement.Statement.TheVariants as statement
use Rattle.query_script.specs.declared.word.Word.{Word}
use Rattle.query_script.proofs.LineWords.{AreWords-once}

-- a number below the next one
pub lt_or_same : (m k : ℕ) → m < k + 1 → (m < k) ⊎ (m ≡ k)
lt_or_same m k h = ⊎_elim (λ same. inr same) (λ below. inl below) (eq-or-lt_of_le (omega arith))

-- an empty line has no word
no_word : {w : Word} {more : List Word} → ¬ AreWords [] (w ∷ more)
no_word {w} {more} h =
    let same : w ∷ more ≡ [] = AreWords-once [] (w ∷ more) [] h (words.none (All-nil IsBlank)) in
    cc

module _ (lines : List (List ℕ)) where
  -- no line behind the last one ends a block
  pub no_end_past : (k : ℕ) → length lines < k → ¬ SpellsEnd (line_at lines k)
  no_end_past k past ends =
      let none : line_at lines k ≡ [] = get_or_past ([] ∷ lines) k [] (omega arith) in
      no_word (rw none at ends)

  -- no line stands before the first one, so none begins a block there
  pub no_block_before_first : (j : ℕ) → ¬ IsInBlock lines j 1
  no_block_before_first j within =
      let zeroth : j ≡ 0 = omega (arith, within.before) in
      no_word (rw zeroth at within.begins)

  -- outside blocks, a line that begins none leaves none open
  pub outside_after : (k : ℕ) → ((j : ℕ) → ¬ IsInBlock lines j k) → ¬ SpellsTogether (line_at lines k) → (j : ℕ) → ¬ IsInBlock lines j (k + 1)
  outside_after k outside none j within =
      ⊎_elim (λ below. outside j (record { before = below; begins = within.begins; goes_on = λ m after before. within.goes_on m after (omega arith) }))
      (λ same. none (rw same at within.begins))
      (lt_or_same j k within.before)

  -- one line more that is not bad
  pub good_after : (k : ℕ) → ((m : ℕ) → m < k → ¬ IsBadLine lines m) → ¬ IsFaultyLine lines k → (m : ℕ) → m < k + 1 → ¬ IsBadLine lines m
  good_after k good fine m below bad =
      ⊎_elim (λ before. good m before bad) (λ same. fine (rw same at bad.faulty)) (lt_or_same m k below)

  -- a bad line before which none is bad
  pub least_bad : (k : ℕ) → 1 ≤ k → k ≤ length lines → ((m : ℕ) → m < k → ¬ IsBadLine lines m) → IsFaultyLine lines k → IsLeastBadLine lines k
  least_bad k from_one to_last good faulty = record { bad = record { from_one = from_one; to_last = to_last; faulty = faulty }; least = good }

  -- a skipped line is not bad
  pub skipped_fine : (k : ℕ) → IsLine (line_at lines k) line.Skipped → ¬ IsFaultyLine lines k
  skipped_fine k is (spells_nothing some _ _ _) = some is.0
  skipped_fine k is (ends_no_block ends _) = is.2 ends
  skipped_fine k is (ends_empty_block j ends _ _) = is.2 ends
  skipped_fine k is (one_search_too_many j query filter spelled _ _) = is.3 (statement.Search query filter) spelled
  skipped_fine k is (block_inside_block j begins _) = is.1 begins
  skipped_fine k is (statement_inside_block j s spelled _ _) = is.3 s spelled
  skipped_fine k is (never_ended begins _) = is.1 begins

  -- a statement outside blocks is not bad
  pub alone_fine : (k : ℕ) (s : Statement) → ((j : ℕ) → ¬ IsInBlock lines j k) → IsLine (line_at lines k) (line.Statement s) → ¬ IsFaultyLine lines k
  alone_fine k s outside is (spells_nothing _ _ _ nothing) = nothing s is.0
  alone_fine k s outside is (ends_no_block ends _) = is.3 ends
  alone_fine k s outside is (ends_empty_block j ends _ _) = is.3 ends
  alone_fine k s outside is (one_search_too_many j query filter _ within _) = outside j within
  alone_fine k s outside is (block_inside_block j begins _) = is.2 begins
  alone_fine k s outside is (statement_inside_block j other _ _ within) = outside j within
  alone_fine k s outside is (never_ended begins _) = is.2 begins

  -- the first line of a block that has an end is not bad
  pub ended_fine : (j e : ℕ) → ((i : ℕ) → ¬ IsInBlock lines i j) → IsLine (line_at lines j) line.Together → j < e → SpellsEnd (line_at lines e) → ¬ IsFaultyLine lines j
  ended_fine j e outside is behind end (spells_nothing _ other _ _) = other is.0
  ended_fine j e outside is behind end (ends_no_block ends _) = is.2 ends
  ended_fine j e outside is behind end (ends_empty_block i ends _ _) = is.2 ends
  ended_fine j e outside is behind end (one_search_too_many i query filter spelled _ _) = is.3 (statement.Search query filter) spelled
  ended_fine j e outside is behind end (block_inside_block i _ within) = outside i within
  ended_fine j e outside is behind end (statement_inside_block i s spelled _ _) = is.3 s spelled
  ended_fine j e outside is behind end (never_ended _ none) = none e behind end

  module _ (j k : ℕ) (placed : List Placed) (begun : IsBlockBegun lines j k placed) where
    -- each line of the block stands in it, and line k, too
    pub within_begun : (m : ℕ) → j < m → m ≤ k → IsInBlock lines j m
    within_begun m after to = record { before = after; begins = begun.begins.0; goes_on = λ n behind below. begun.goes_on n behind (omega arith) }

    -- the block goes on behind a line that doesn't end it
    pub begun_after : ¬ SpellsEnd (line_at lines k) → IsBlockBegun lines j (k + 1) placed
    begun_after goes_on = record {
      read = begun.read;
      to_last = begun.to_last;
      begins = begun.begins;
      before = omega (arith, begun.before);
      goes_on = λ m after below. ⊎_elim (λ before. begun.goes_on m after before) (λ same. rw same goes_on) (lt_or_same m k below);
    }

    -- no bad line stands before line m, if none stands in the block before it and the block has an end
    pub good_before : (m e : ℕ) → ((i : ℕ) → j < i → i < m → ¬ IsFaultyLine lines i) → j < e → SpellsEnd (line_at lines e) → (i : ℕ) → i < m → ¬ IsBadLine lines i
    good_before m e good behind end i below bad =
        elim (cases_order i j) [
          | inr (inl before) ↦ begun.read.good i before bad
          | inl same ↦ ended_fine j e begun.read.outside begun.begins behind end (rw same at bad.faulty)
          | inr (inr after) ↦ good i after below bad.faulty
        ]

    -- the block's first line is the least bad line, if no line ends it
    pub least_first : ((m : ℕ) → k ≤ m → ¬ SpellsEnd (line_at lines m)) → IsLeastBadLine lines j
    least_first none =
        least_bad j begun.read.from_one begun.to_last begun.read.good
        (never_ended begun.begins.0 (λ m after. ⊎_elim (λ before. begun.goes_on m after before) (λ past. none m past) (cases_lt m k)))

    -- line k stands in no other block, if no line of this one is bad
    pub one_block : ((m : ℕ) → j < m → m < k → ¬ IsFaultyLine lines m) → (i : ℕ) → IsInBlock lines i k → i ≡ j
    one_block good i within =
        elim (cases_order i j) [
          | inr (inl before) ↦ absurd (begun.read.outside i (record { before = before; begins = within.begins; goes_on = λ m after below. within.goes_on m after (omega (arith, begun.before)) }))
          | inl same ↦ same
          | inr (inr after) ↦ absurd (good i after within.before (block_inside_block j within.begins (within_begun i after (omega (arith, within.before)))))
        ]

-- a line that is another one than the end of a block doesn't end it
pub no_other_end : {text : List ℕ} (is : Line) → IsLine text is → ¬ (is ≡ line.End) → ¬ SpellsEnd text
no_other_end line.Skipped h other = h.2
no_other_end line.Together h other = h.2
no_other_end line.End h other = absurd (other refl)
no_other_end (line.Statement s) h other = h.3
no_other_end line.Bad h other = h.2
