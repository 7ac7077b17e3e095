-- Reading a block of a script: what each kind of line does inside it, and what is known at the end.
use Rattle.std.proofs.Common.{◌≡◌, ⊎_elim, inl, inr, ℕ, ◌+◌, ◌<◌, ◌≤◌, List, [], ◌∷◌, ◌++◌, length, get_or, map, refl, ap, sym, arith}
use Rattle.std.proofs.lemmas.Bool.{cases_order}
use Rattle.std.proofs.lemmas.List.{length-map, length_push}
use Rattle.std.proofs.lemmas.List.Elements.{All-map, All-nil, All-push, All-weaker}
use Rattle.std.proofs.lemmas.List.Quantifiers.{Any-push}
use Rattle.std.specs.List.{Any}
use Rattle.kb_geometry.proofs.Lists.{Any-kept}
use Rattle.pattern_images.specs.declared.query.Query.{Query}
use Rattle.info_filter.specs.declared.filter.Filter.{Filter}
use Rattle.query_script.specs.Lines.{IsLine}
use Rattle.query_script.specs.Progress.{AreReadBefore, IsBlockBegun, IsBroken, IsReadInside, IsLineAt, IsPlacedBefore, IsSearchBefore}
use Rattle.query_script.specs.Script.{AreSearchesBetween, AreSearchesOf, IsFaultyLine, IsLeastBadLine, IsSearch, IsSearchBetween, IsSearchOf, IsInBlock, IsStatementAt, block_inside_block, ends_empty_block, ends_no_block, line_at, most_searches, never_ended, one_search_too_many, spells_nothing, statement_inside_block}
use Rattle.query_script.specs.Statements.{SpellsEnd}
use Rattle.query_script.specs.declared.line.Line.{Line}
use Rattle.query_script.specs.declared.line.Line.TheVariants as line
use Rattle.query_script.specs.declared.statement.Placed.{Placed}
use Rattle.query_script.specs.declared.statement.PlacedSearch.{PlacedSearch}
use Rattle.query_script.specs.declared.statement.Statement.{Statement}
use Rattle.query_script.specs.declared.statement.Statement.TheVariants as statement
use Rattle.query_script.proofs.Faults.{begun_after, good_before, least_bad, least_first, lt_or_same, no_end_past, one_block, skipped_fine, within_begun}
use Rattle.query_script.proofs.LineStatements.{SpellsStatement-search}
use Rattle.query_script.proofs.PlacedLists.{as_many, lines_ascend, one_of, placed_before, placed_in_order, searches_before, searches_in_order}
use Rattle.query_script.proofs.ReadOutside.{stands_cases}

module _ (lines : List (List ℕ)) where
  -- the next line begins a block
  pub begin_block : (first : ℕ) (placed : List Placed) → AreReadBefore lines first placed →
      IsLineAt lines first line.Together → IsReadInside lines (first + 1) placed first []
  begin_block first placed h at = record {
    begun = record { read = h; to_last = at.to_last; begins = at.line; before = omega arith; goes_on = λ m after below. absurd (omega arith) };
    good = λ m after below. absurd (omega arith);
    few = omega arith;
    ordered = λ i j d less within. absurd (omega arith);
    sound = All-nil (IsSearchBefore lines first (first + 1));
    complete = λ m after below spelled. absurd (omega arith);
  }

  -- the whole block as a statement
  abbrev pub placed_block : ℕ → List PlacedSearch → Placed
  placed_block first searches = record { line = first; statement = statement.Together searches }

  module _ (k : ℕ) (placed : List Placed) (first : ℕ) (searches : List PlacedSearch)
      (h : IsReadInside lines k placed first searches) where
    within : IsInBlock lines first k
    within = within_begun lines first k placed h.begun k h.begun.before (omega arith)

    one : (i : ℕ) → IsInBlock lines i k → i ≡ first
    one = one_block lines first k placed h.begun h.good

    -- a search between the first line of the block and line k is one of those so far
    found : (m : ℕ) → IsSearchBetween lines first k m → Any (λ (s : PlacedSearch). s.line ≡ m) searches
    found m at = h.complete m at.behind at.before (at.query, at.filter, at.spelled)

    -- one line more that is not bad, and ends no block
    good_next : ¬ IsFaultyLine lines k → (m : ℕ) → first < m → m < k + 1 → ¬ IsFaultyLine lines m
    good_next fine m after below = ⊎_elim (λ before. h.good m after before) (λ same. rw same fine) (lt_or_same m k below)

    -- the next line is skipped
    pub skip_inside : IsLineAt lines k line.Skipped → IsReadInside lines (k + 1) placed first searches
    skip_inside at = record {
      begun = begun_after lines first k placed h.begun at.line.2;
      good = good_next (skipped_fine lines k at.line);
      few = h.few;
      ordered = h.ordered;
      sound = searches_before first k (k + 1) searches (omega arith) h.sound;
      complete = λ m after below spelled. ⊎_elim (λ before. h.complete m after before spelled)
          (λ same. absurd (at.line.3 (statement.Search spelled.0 spelled.1) (rw same at spelled.2)))
          (lt_or_same m k below);
    }

    -- so many searches stand between as are read, or fewer
    no_more : (count : ℕ) → AreSearchesBetween lines first k count → count ≤ length searches
    no_more count many =
        let most = as_many many.numbers searches many.ascending h.ordered (λ i below. found (get_or many.numbers i 0) (many.searches i 0 below)) in
        omega (arith, many.count_is)

    -- a search is not bad where there is room for it
    search_fine : (query : Query) (filter : Filter) → length searches < most_searches → IsLine (line_at lines k) (line.Statement (statement.Search query filter)) → ¬ IsFaultyLine lines k
    search_fine query filter room is (spells_nothing _ _ _ nothing) = nothing (statement.Search query filter) is.0
    search_fine query filter room is (ends_no_block ends _) = is.3 ends
    search_fine query filter room is (ends_empty_block j ends _ _) = is.3 ends
    search_fine query filter room is (one_search_too_many j other _ spelled inside many) =
        let same = one j inside in
        let most = no_more most_searches (rw same at many) in
        omega arith
    search_fine query filter room is (block_inside_block j begins _) = is.2 begins
    search_fine query filter room is (statement_inside_block j s spelled other _) = other (SpellsStatement-search (line_at lines k) s (statement.Search query filter) spelled is.0 (query, filter, refl))
    search_fine query filter room is (never_ended begins _) = is.2 begins

    -- the next line is a search
    pub search_inside : (query : Query) (filter : Filter) → length searches < most_searches →
        IsLineAt lines k (line.Statement (statement.Search query filter)) →
        IsReadInside lines (k + 1) placed first (searches ++ record { line = k; query = query; filter = filter } ∷ [])
    search_inside query filter room at =
        let s : PlacedSearch = record { line = k; query = query; filter = filter } in
        record {
          begun = begun_after lines first k placed h.begun at.line.3;
          good = good_next (search_fine query filter room at.line);
          few = omega (arith, length_push searches s);
          ordered = searches_in_order s searches h.ordered h.sound;
          sound = All-push (IsSearchBefore lines first (k + 1)) searches s
              (searches_before first k (k + 1) searches (omega arith) h.sound)
              (record { before = omega arith; search = record { there = at.to_last; within = within; spelled = at.line.0 } });
          complete = λ m behind below spelled. ⊎_elim
              (λ before. Any-kept (λ (s : PlacedSearch). s.line ≡ m) searches s (h.complete m behind before spelled))
              (λ same. Any-push (λ (s : PlacedSearch). s.line ≡ m) searches s (sym same))
              (lt_or_same m k below);
        }

    -- the end of a block that has a search is not bad
    end_fine : 1 ≤ length searches → IsLine (line_at lines k) line.End → ¬ IsFaultyLine lines k
    end_fine some is (spells_nothing _ _ other _) = other is.0
    end_fine some is (ends_no_block _ none) = none first within
    end_fine some is (ends_empty_block j _ inside none) =
        let some_search = one_of (IsSearchBefore lines first k) searches some h.sound in
        let search = some_search.1.search in
        let same = one j inside in
        none some_search.0.line (record {
          behind = rw same search.within.before;
          before = some_search.1.before;
          query = some_search.0.query;
          filter = some_search.0.filter;
          spelled = search.spelled;
        })
    end_fine some is (one_search_too_many j query filter spelled _ _) = is.3 (statement.Search query filter) spelled
    end_fine some is (block_inside_block j begins _) = is.2 begins
    end_fine some is (statement_inside_block j s spelled _ _) = is.3 s spelled
    end_fine some is (never_ended begins _) = is.2 begins

    -- the searches so far are those of the block, if line k ends it
    all_searches : IsLine (line_at lines k) line.End → AreSearchesOf lines first searches
    all_searches is = record {
      ordered = h.ordered;
      sound = All-weaker (IsSearchBefore lines first k) (IsSearchOf lines first) (λ s at. at.search) searches h.sound;
      complete = λ m query filter to inside spelled. elim (cases_order m k) [
        | inl same ↦ absurd (is.3 (statement.Search query filter) (rw same at spelled))
        | inr (inl before) ↦ h.complete m inside.before before (query, filter, spelled)
        | inr (inr after) ↦ absurd (inside.goes_on k h.begun.before after is.0)
      ];
    }

    -- nothing else stands in the block
    nothing_else : IsLine (line_at lines k) line.End → (m : ℕ) (s : Statement) → first < m → m < k + 1 → ¬ IsStatementAt lines m s
    nothing_else is m s after below stands = ⊎_elim
        (λ alone. alone.outside first (within_begun lines first k placed h.begun m after (omega arith)))
        (λ begins. ⊎_elim (λ before. h.good m after before (block_inside_block first begins (within_begun lines first k placed h.begun m after (omega arith))))
        (λ same. is.2 (rw same at begins)) (lt_or_same m k below))
        (stands_cases {lines = lines} {k = m} s stands)

    -- the next line ends the block
    pub end_inside : 1 ≤ length searches → IsLineAt lines k line.End → AreReadBefore lines (k + 1) (placed ++ placed_block first searches ∷ [])
    end_inside some at =
        let read = h.begun.read in
        let behind = h.begun.before in
        record {
          from_one = omega arith;
          outside = λ i inside. ⊎_elim (λ before. inside.goes_on k before (omega arith) at.line.0) (λ same. at.line.2 (rw same at inside.begins)) (lt_or_same i k inside.before);
          good = good_before lines first k placed h.begun (k + 1) k (good_next (end_fine some at.line)) behind at.line.0;
          ordered = placed_in_order (placed_block first searches) placed read.ordered read.sound;
          sound = All-push (IsPlacedBefore lines (k + 1)) placed (placed_block first searches) (placed_before first (k + 1) placed (omega arith) read.sound)
              (record { before = omega arith; placed = record { from_one = read.from_one; to_last = h.begun.to_last; stands = (h.begun.begins.0, all_searches at.line) } });
          complete = λ m s from below stands. elim (cases_order m first) [
            | inl same ↦ Any-push (λ (p : Placed). p.line ≡ m) placed (placed_block first searches) (sym same)
            | inr (inl before) ↦ Any-kept (λ (p : Placed). p.line ≡ m) placed (placed_block first searches) (read.complete m s from before stands)
            | inr (inr after) ↦ absurd (nothing_else at.line m s after below stands)
          ];
        }

    -- the next line ends the block, which has no search
    pub end_too_early : searches ≡ [] → IsLineAt lines k line.End → IsLeastBadLine lines k
    end_too_early none at =
        let behind = h.begun.before in
        let nothing : (m : ℕ) → ¬ IsSearchBetween lines first k m = λ m search. let some = found m search in omega (arith, ap length none, some.2) in
        least_bad lines k (omega arith) at.to_last (good_before lines first k placed h.begun k k h.good behind at.line.0) (ends_empty_block first at.line.0 within nothing)

    -- the next line is bad, and it doesn't end the block
    breaks : IsFaultyLine lines k → k ≤ length lines → ¬ SpellsEnd (line_at lines k) → IsBroken lines (k + 1) placed first k
    breaks faulty to_last other = record {
      begun = begun_after lines first k placed h.begun other;
      behind = h.begun.before;
      to_last = to_last;
      good = h.good;
      faulty = faulty;
    }

    pub block_again : IsLineAt lines k line.Together → IsBroken lines (k + 1) placed first k
    block_again at = breaks (block_inside_block first at.line.0 within) at.to_last at.line.2

    pub nothing_spelled : IsLineAt lines k line.Bad → IsBroken lines (k + 1) placed first k
    nothing_spelled at = breaks (spells_nothing at.line.0 at.line.1 at.line.2 at.line.3) at.to_last at.line.2

    pub other_statement : (s : Statement) → ¬ IsSearch s → IsLineAt lines k (line.Statement s) → IsBroken lines (k + 1) placed first k
    other_statement s other at = breaks (statement_inside_block first s at.line.0 other within) at.to_last at.line.3

    -- the searches so far stand between the first line and line k
    pub between : AreSearchesBetween lines first k (length searches)
    between = record {
      numbers = map (λ (s : PlacedSearch). s.line) searches;
      ascending = lines_ascend searches h.ordered;
      searches = All-map (IsSearchBetween lines first k) (λ (s : PlacedSearch). s.line) searches
          (All-weaker (IsSearchBefore lines first k) (λ (s : PlacedSearch). IsSearchBetween lines first k s.line)
          (λ s at. record { behind = at.search.within.before; before = at.before; query = s.query; filter = s.filter; spelled = at.search.spelled }) searches h.sound);
      count_is = length-map searches (λ (s : PlacedSearch). s.line);
    }

    -- one search more than a block may have
    pub no_room : (query : Query) (filter : Filter) → most_searches ≤ length searches → IsLineAt lines k (line.Statement (statement.Search query filter)) → IsBroken lines (k + 1) placed first k
    no_room query filter full at =
        let few = h.few in
        let count : length searches ≡ most_searches = omega arith in
        breaks (one_search_too_many first query filter at.line.0 within (rw count at between)) at.to_last at.line.3

  module _ (k : ℕ) (placed : List Placed) (j bad : ℕ) (h : IsBroken lines k placed j bad) where
    -- behind a bad line of the block no line counts but its end
    pub still_broken : (is : Line) → ¬ SpellsEnd (line_at lines k) → IsLineAt lines k is → IsBroken lines (k + 1) placed j bad
    still_broken is other at = record {
      begun = begun_after lines j k placed h.begun other;
      behind = h.behind;
      to_last = h.to_last;
      good = h.good;
      faulty = h.faulty;
    }

    pub end_broken : IsLineAt lines k line.End → IsLeastBadLine lines bad
    end_broken at =
        let behind = h.behind in
        least_bad lines bad (omega arith) h.to_last (good_before lines j k placed h.begun bad k h.good h.begun.before at.line.0) h.faulty

  -- no line is left, and the block has no end
  pub never_ends : (j : ℕ) (placed : List Placed) → IsBlockBegun lines j (length lines + 1) placed → IsLeastBadLine lines j
  never_ends j placed begun = least_first lines j (length lines + 1) placed begun (λ m past. no_end_past lines m (omega arith))
