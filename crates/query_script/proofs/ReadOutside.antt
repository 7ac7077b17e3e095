-- Reading a script outside blocks: what each kind of line does, and what is known at the end.
use Rattle.std.proofs.Common.{◌≡◌, ◌⊎◌, ⊎_elim, inl, inr, ℕ, ◌+◌, List, [], ◌∷◌, ◌++◌, length, sym, arith}
use Rattle.std.proofs.lemmas.List.Elements.{All-nil, All-push, All-weaker}
use Rattle.std.proofs.lemmas.List.Quantifiers.{Any-push}
use Rattle.kb_geometry.proofs.Lists.{Any-kept}
use Rattle.query_script.specs.Progress.{AreReadBefore, IsLineAt, IsPlacedBefore}
use Rattle.query_script.specs.Script.{AreStatements, IsLeastBadLine, IsPlacedAt, IsInBlock, StandsAlone, IsStatementAt, ends_no_block, line_at, spells_nothing}
use Rattle.query_script.specs.Statements.{SpellsStatement, SpellsTogether}
use Rattle.query_script.specs.declared.line.Line.TheVariants as line
use Rattle.query_script.specs.declared.statement.Placed.{Placed}
use Rattle.query_script.specs.declared.statement.Statement.{Statement}
use Rattle.query_script.specs.declared.statement.Statement.TheVariants as statement
use Rattle.query_script.proofs.Faults.{alone_fine, good_after, least_bad, lt_or_same, no_block_before_first, outside_after, skipped_fine}
use Rattle.query_script.proofs.PlacedLists.{placed_before, placed_in_order}

-- what stands at a line stands there alone or is a block that begins there
pub stands_cases : {lines : List (List ℕ)} {k : ℕ} (s : Statement) → IsStatementAt lines k s → StandsAlone lines k s ⊎ SpellsTogether (line_at lines k)
stands_cases (statement.Import path) h = inl h
stands_cases (statement.Make games start) h = inl h
stands_cases statement.Wait h = inl h
stands_cases (statement.Until number) h = inl h
stands_cases (statement.Search query filter) h = inl h
stands_cases (statement.Together searches) h = inr h.0
stands_cases (statement.Kept query) h = inl h
stands_cases (statement.Signature pattern) h = inl h
stands_cases statement.Players h = inl h
stands_cases statement.Doubles h = inl h
stands_cases (statement.Game number) h = inl h
stands_cases (statement.Opening shape depth least) h = inl h
stands_cases statement.Report h = inl h
stands_cases (statement.Retire name) h = inl h
stands_cases (statement.Watch name query filter) h = inl h
stands_cases (statement.Watched name) h = inl h

-- what a line outside blocks spells stands there alone
stands_there : {lines : List (List ℕ)} {k : ℕ} (s : Statement) → SpellsStatement (line_at lines k) s → ((j : ℕ) → ¬ IsInBlock lines j k) → IsStatementAt lines k s
stands_there (statement.Import path) h outside = record { spelled = h; outside = outside }
stands_there (statement.Make games start) h outside = record { spelled = h; outside = outside }
stands_there statement.Wait h outside = record { spelled = h; outside = outside }
stands_there (statement.Until number) h outside = record { spelled = h; outside = outside }
stands_there (statement.Search query filter) h outside = record { spelled = h; outside = outside }
stands_there (statement.Together searches) h outside = absurd h.2
stands_there (statement.Kept query) h outside = record { spelled = h; outside = outside }
stands_there (statement.Signature pattern) h outside = record { spelled = h; outside = outside }
stands_there statement.Players h outside = record { spelled = h; outside = outside }
stands_there statement.Doubles h outside = record { spelled = h; outside = outside }
stands_there (statement.Game number) h outside = record { spelled = h; outside = outside }
stands_there (statement.Opening shape depth least) h outside = record { spelled = h; outside = outside }
stands_there statement.Report h outside = record { spelled = h; outside = outside }
stands_there (statement.Retire name) h outside = record { spelled = h; outside = outside }
stands_there (statement.Watch name query filter) h outside = record { spelled = h; outside = outside }
stands_there (statement.Watched name) h outside = record { spelled = h; outside = outside }

module _ (lines : List (List ℕ)) where
  -- nothing is read yet
  pub read-none : AreReadBefore lines 1 []
  read-none = record {
    from_one = omega arith;
    outside = no_block_before_first lines;
    good = λ m below bad. omega (arith, bad.from_one);
    ordered = λ i j d less within. absurd (omega arith);
    sound = All-nil (IsPlacedBefore lines 1);
    complete = λ m s from below stands. absurd (omega arith);
  }

  module _ (k : ℕ) (placed : List Placed) (h : AreReadBefore lines k placed) where
    -- the next line is skipped
    pub read-skipped : IsLineAt lines k line.Skipped → AreReadBefore lines (k + 1) placed
    read-skipped at = record {
      from_one = omega (arith, h.from_one);
      outside = outside_after lines k h.outside at.line.1;
      good = good_after lines k h.good (skipped_fine lines k at.line);
      ordered = h.ordered;
      sound = placed_before k (k + 1) placed (omega arith) h.sound;
      complete = λ m s from below stands. ⊎_elim (λ before. h.complete m s from before stands)
          (λ same. absurd (⊎_elim (λ alone. at.line.3 s alone.spelled) (λ begins. at.line.1 begins) (stands_cases {lines = lines} {k = k} s (rw same at stands))))
          (lt_or_same m k below);
    }

    -- a line outside blocks that ends one
    pub ends_outside : IsLineAt lines k line.End → IsLeastBadLine lines k
    ends_outside at = least_bad lines k h.from_one at.to_last h.good (ends_no_block at.line.0 h.outside)

    -- a line outside blocks that is bad by itself
    pub bad_outside : IsLineAt lines k line.Bad → IsLeastBadLine lines k
    bad_outside at = least_bad lines k h.from_one at.to_last h.good (spells_nothing at.line.0 at.line.1 at.line.2 at.line.3)

  -- the next line is a statement
  pub read-statement : (p : Placed) (placed : List Placed) → AreReadBefore lines p.line placed → IsLineAt lines p.line (line.Statement p.statement) → AreReadBefore lines (p.line + 1) (placed ++ p ∷ [])
  read-statement p placed h at = record {
    from_one = omega (arith, h.from_one);
    outside = outside_after lines p.line h.outside at.line.2;
    good = good_after lines p.line h.good (alone_fine lines p.line p.statement h.outside at.line);
    ordered = placed_in_order p placed h.ordered h.sound;
    sound = All-push (IsPlacedBefore lines (p.line + 1)) placed p (placed_before p.line (p.line + 1) placed (omega arith) h.sound)
        (record { before = omega arith; placed = record { from_one = h.from_one; to_last = at.to_last; stands = stands_there p.statement at.line.0 h.outside } });
    complete = λ m s from below stands. ⊎_elim
        (λ before. Any-kept (λ (q : Placed). q.line ≡ m) placed p (h.complete m s from before stands))
        (λ same. Any-push (λ (q : Placed). q.line ≡ m) placed p (sym same))
        (lt_or_same m p.line below);
  }

  -- all lines are read
  pub read-all : (placed : List Placed) → AreReadBefore lines (length lines + 1) placed → AreStatements lines placed
  read-all placed h = record {
    good = λ k bad. h.good k (omega (arith, bad.to_last)) bad;
    ordered = h.ordered;
    sound = All-weaker (IsPlacedBefore lines (length lines + 1)) (IsPlacedAt lines) (λ p at. at.placed) placed h.sound;
    complete = λ k s from to stands. h.complete k s from (omega arith) stands;
  }
