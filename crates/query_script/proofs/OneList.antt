-- Lines have one list of statements and one least bad line, and not both.
use Rattle.std.proofs.Common.{◌≡◌, ◌<◌, ◌∙◌, ℕ, inl, inr, List, [], ◌∷◌, codes, length, get_or, refl, ap, subst, arith}
use Rattle.std.specs.List.{AllPairs, Any}
use Rattle.std.specs.Prelude.{Contains}
use Rattle.std.proofs.lemmas.Bool.{cases_lt}
use Rattle.std.proofs.lemmas.List.{get_or_default}
use Rattle.pattern_images.specs.declared.query.Query.{Query}
use Rattle.info_filter.specs.declared.filter.Filter.{Filter}
use Rattle.kb_geometry.proofs.Lists.{same_order}
use Rattle.query_script.specs.declared.statement.Placed.{Placed}
use Rattle.query_script.specs.declared.statement.PlacedSearch.{PlacedSearch}
use Rattle.query_script.specs.declared.statement.Statement.{Statement}
use Rattle.query_script.specs.declared.statement.Statement.TheVariants as statement
use Rattle.query_script.specs.Script.{AreSearchesOf, AreStatements, IsLeastBadLine, IsPlacedAt, IsSearchOf, StandsAlone, IsStatementAt, line_at}
use Rattle.query_script.specs.Statements.{IsStatement, SpellsStatement, SpellsSearch, SpellsTogether}
use Rattle.query_script.specs.Words.{bare}
use Rattle.query_script.proofs.LineStatements.{no_name}
use Rattle.query_script.proofs.LineWords.{AreWords-once}
use Rattle.query_script.proofs.ToldStatements.{statement_once}

pub one_bad_line : (lines : List (List ℕ)) (j k : ℕ) → IsLeastBadLine lines j → IsLeastBadLine lines k → j ≡ k
one_bad_line lines j k one other = elim (cases_lt j k) [
  | inl less ↦ absurd (other.least j less one.bad)
  | inr le ↦ elim (cases_lt k j) [ inl less ↦ absurd (one.least k less other.bad) | inr ge ↦ omega arith ]
]

-- a line spells one statement at most
spells_once : (text : List ℕ) (s t : Statement) → SpellsStatement text s → SpellsStatement text t → s ≡ t
spells_once text s t (words, are, is) (others, are_others, is_other) =
    statement_once words s t is (subst (λ l. IsStatement l t) (AreWords-once text others words are_others are) is_other)

same_search : (p q : Query) (f g : Filter) → statement.Search p f ≡ statement.Search q g → (p ≡ q) × (f ≡ g)
same_search p q f g e = (cc, cc)

search_once : (text : List ℕ) (p q : Query) (f g : Filter) → SpellsSearch text p f → SpellsSearch text q g → (p ≡ q) × (f ≡ g)
search_once text p q f g one other = same_search p q f g (spells_once text (statement.Search p f) (statement.Search q g) one other)

-- a line that begins a block spells no statement
not_both : (text : List ℕ) (s : Statement) → SpellsTogether text → SpellsStatement text s → ⊥
not_both text s together (words, are, is) =
    no_name words [] (codes "together") s refl (AreWords-once text words (bare (codes "together") ∷ []) are together) is

-- ---- lists in order of lines

module _ {X : Type 0} (line_of : X → ℕ) where
  -- each member of the one list stands in the other
  all_there : (a b : List X) → ((k : ℕ) (d : X) → k < length a → Any (λ (y : X). y ≡ get_or a k d) b) →
      (x : X) → Contains a x → Contains b x
  all_there a b each x (k, below, is) =
      let (j, y, j_in, j_is, same) = each k x below in
      (j, j_in, get_or_default b j x y j_in ∙ j_is ∙ same ∙ is)

  pub one_order : (a b : List X) →
      AllPairs (λ (x : X) (y : X). line_of x < line_of y) a → AllPairs (λ (x : X) (y : X). line_of x < line_of y) b →
      ((k : ℕ) (d : X) → k < length a → Any (λ (y : X). y ≡ get_or a k d) b) →
      ((k : ℕ) (d : X) → k < length b → Any (λ (y : X). y ≡ get_or b k d) a) → a ≡ b
  one_order a b a_order b_order there back =
      same_order (λ (x : X) (y : X). line_of x < line_of y) (λ x y less more. omega arith) a b a_order b_order
      (all_there a b there) (all_there b a back)

-- ---- the searches of a block

module _ (lines : List (List ℕ)) (first : ℕ) where
  same_placed_search : (s t : PlacedSearch) → s.line ≡ t.line → s.query ≡ t.query → s.filter ≡ t.filter → s ≡ t
  same_placed_search s t line query filter =
      ap (λ n. record { line = n; query = s.query; filter = s.filter }) line
      ∙ ap (λ (q : Query). record { line = t.line; query = q; filter = s.filter }) query
      ∙ ap (λ (f : Filter). record { line = t.line; query = t.query; filter = f }) filter

  search_same : (s t : PlacedSearch) → IsSearchOf lines first s → IsSearchOf lines first t → t.line ≡ s.line → t ≡ s
  search_same s t one other same =
      let both = search_once (line_at lines s.line) t.query s.query t.filter s.filter
      (subst (λ n. SpellsSearch (line_at lines n) t.query t.filter) same other.spelled) one.spelled in
      same_placed_search t s same both.0 both.1

  searches_there : (a b : List PlacedSearch) → AreSearchesOf lines first a → AreSearchesOf lines first b →
      (k : ℕ) (d : PlacedSearch) → k < length a → Any (λ (t : PlacedSearch). t ≡ get_or a k d) b
  searches_there a b are_a are_b k d below =
      let s : PlacedSearch = get_or a k d in
      let is : IsSearchOf lines first s = are_a.sound k d below in
      let (j, t, j_in, j_is, same) = are_b.complete s.line s.query s.filter is.there is.within is.spelled in
      (j, t, j_in, j_is, search_same s t is (subst (IsSearchOf lines first) j_is (are_b.sound j t j_in)) same)

  one_block_list : (a b : List PlacedSearch) → AreSearchesOf lines first a → AreSearchesOf lines first b → a ≡ b
  one_block_list a b are_a are_b =
      one_order (λ (s : PlacedSearch). s.line) a b are_a.ordered are_b.ordered
      (searches_there a b are_a are_b) (searches_there b a are_b are_a)

-- ---- the statements

module _ (lines : List (List ℕ)) where
  -- what stands alone at a line is its statement, and no block
  alone_once : (k : ℕ) (s t : Statement) → StandsAlone lines k s → IsStatementAt lines k t → s ≡ t
  alone_once k s (statement.Import path) one other = spells_once (line_at lines k) s (statement.Import path) one.spelled other.spelled
  alone_once k s (statement.Make games start) one other = spells_once (line_at lines k) s (statement.Make games start) one.spelled other.spelled
  alone_once k s statement.Wait one other = spells_once (line_at lines k) s statement.Wait one.spelled other.spelled
  alone_once k s (statement.Until number) one other = spells_once (line_at lines k) s (statement.Until number) one.spelled other.spelled
  alone_once k s (statement.Search query filter) one other = spells_once (line_at lines k) s (statement.Search query filter) one.spelled other.spelled
  alone_once k s (statement.Together searches) one other = absurd (not_both (line_at lines k) s other.0 one.spelled)
  alone_once k s (statement.Kept query) one other = spells_once (line_at lines k) s (statement.Kept query) one.spelled other.spelled
  alone_once k s (statement.Signature pattern) one other = spells_once (line_at lines k) s (statement.Signature pattern) one.spelled other.spelled
  alone_once k s statement.Players one other = spells_once (line_at lines k) s statement.Players one.spelled other.spelled
  alone_once k s statement.Doubles one other = spells_once (line_at lines k) s statement.Doubles one.spelled other.spelled
  alone_once k s (statement.Game number) one other = spells_once (line_at lines k) s (statement.Game number) one.spelled other.spelled
  alone_once k s (statement.Opening shape depth least) one other = spells_once (line_at lines k) s (statement.Opening shape depth least) one.spelled other.spelled
  alone_once k s statement.Report one other = spells_once (line_at lines k) s statement.Report one.spelled other.spelled
  alone_once k s (statement.Retire name) one other = spells_once (line_at lines k) s (statement.Retire name) one.spelled other.spelled
  alone_once k s (statement.Watch name query filter) one other = spells_once (line_at lines k) s (statement.Watch name query filter) one.spelled other.spelled
  alone_once k s (statement.Watched name) one other = spells_once (line_at lines k) s (statement.Watched name) one.spelled other.spelled

  block_once : (k : ℕ) (searches : List PlacedSearch) (t : Statement) → IsStatementAt lines k (statement.Together searches) → IsStatementAt lines k t →
      statement.Together searches ≡ t
  block_once k searches (statement.Import path) one other = absurd (not_both (line_at lines k) (statement.Import path) one.0 other.spelled)
  block_once k searches (statement.Make games start) one other = absurd (not_both (line_at lines k) (statement.Make games start) one.0 other.spelled)
  block_once k searches statement.Wait one other = absurd (not_both (line_at lines k) statement.Wait one.0 other.spelled)
  block_once k searches (statement.Until number) one other = absurd (not_both (line_at lines k) (statement.Until number) one.0 other.spelled)
  block_once k searches (statement.Search query filter) one other = absurd (not_both (line_at lines k) (statement.Search query filter) one.0 other.spelled)
  block_once k searches (statement.Together others) one other = ap (λ l. statement.Together l) (one_block_list lines k searches others one.1 other.1)
  block_once k searches (statement.Kept query) one other = absurd (not_both (line_at lines k) (statement.Kept query) one.0 other.spelled)
  block_once k searches (statement.Signature pattern) one other = absurd (not_both (line_at lines k) (statement.Signature pattern) one.0 other.spelled)
  block_once k searches statement.Players one other = absurd (not_both (line_at lines k) statement.Players one.0 other.spelled)
  block_once k searches statement.Doubles one other = absurd (not_both (line_at lines k) statement.Doubles one.0 other.spelled)
  block_once k searches (statement.Game number) one other = absurd (not_both (line_at lines k) (statement.Game number) one.0 other.spelled)
  block_once k searches (statement.Opening shape depth least) one other = absurd (not_both (line_at lines k) (statement.Opening shape depth least) one.0 other.spelled)
  block_once k searches statement.Report one other = absurd (not_both (line_at lines k) statement.Report one.0 other.spelled)
  block_once k searches (statement.Retire name) one other = absurd (not_both (line_at lines k) (statement.Retire name) one.0 other.spelled)
  block_once k searches (statement.Watch name query filter) one other = absurd (not_both (line_at lines k) (statement.Watch name query filter) one.0 other.spelled)
  block_once k searches (statement.Watched name) one other = absurd (not_both (line_at lines k) (statement.Watched name) one.0 other.spelled)

  stands_once : (k : ℕ) (s t : Statement) → IsStatementAt lines k s → IsStatementAt lines k t → s ≡ t
  stands_once k (statement.Import path) t one other = alone_once k (statement.Import path) t one other
  stands_once k (statement.Make games start) t one other = alone_once k (statement.Make games start) t one other
  stands_once k statement.Wait t one other = alone_once k statement.Wait t one other
  stands_once k (statement.Until number) t one other = alone_once k (statement.Until number) t one other
  stands_once k (statement.Search query filter) t one other = alone_once k (statement.Search query filter) t one other
  stands_once k (statement.Together searches) t one other = block_once k searches t one other
  stands_once k (statement.Kept query) t one other = alone_once k (statement.Kept query) t one other
  stands_once k (statement.Signature pattern) t one other = alone_once k (statement.Signature pattern) t one other
  stands_once k statement.Players t one other = alone_once k statement.Players t one other
  stands_once k statement.Doubles t one other = alone_once k statement.Doubles t one other
  stands_once k (statement.Game number) t one other = alone_once k (statement.Game number) t one other
  stands_once k (statement.Opening shape depth least) t one other = alone_once k (statement.Opening shape depth least) t one other
  stands_once k statement.Report t one other = alone_once k statement.Report t one other
  stands_once k (statement.Retire name) t one other = alone_once k (statement.Retire name) t one other
  stands_once k (statement.Watch name query filter) t one other = alone_once k (statement.Watch name query filter) t one other
  stands_once k (statement.Watched name) t one other = alone_once k (statement.Watched name) t one other

  same_placed : (p q : Placed) → p.line ≡ q.line → p.statement ≡ q.statement → p ≡ q
  same_placed p q line statement =
      ap (λ n. record { line = n; statement = p.statement }) line ∙ ap (λ (s : Statement). record { line = q.line; statement = s }) statement

  placed_same : (p q : Placed) → IsPlacedAt lines p → IsPlacedAt lines q → q.line ≡ p.line → q ≡ p
  placed_same p q one other same =
      same_placed q p same
      (stands_once p.line q.statement p.statement (subst (λ n. IsStatementAt lines n q.statement) same other.stands) one.stands)

  placed_there : (a b : List Placed) → AreStatements lines a → AreStatements lines b →
      (k : ℕ) (d : Placed) → k < length a → Any (λ (q : Placed). q ≡ get_or a k d) b
  placed_there a b are_a are_b k d below =
      let p : Placed = get_or a k d in
      let is : IsPlacedAt lines p = are_a.sound k d below in
      let (j, q, j_in, j_is, same) = are_b.complete p.line p.statement is.from_one is.to_last is.stands in
      (j, q, j_in, j_is, placed_same p q is (subst (IsPlacedAt lines) j_is (are_b.sound j q j_in)) same)

  pub one_list : (a b : List Placed) → AreStatements lines a → AreStatements lines b → a ≡ b
  one_list a b are_a are_b =
      one_order (λ (p : Placed). p.line) a b are_a.ordered are_b.ordered
      (placed_there a b are_a are_b) (placed_there b a are_b are_a)

  pub not_both_answers : (placed : List Placed) (k : ℕ) → AreStatements lines placed → IsLeastBadLine lines k → ⊥
  not_both_answers placed k are bad = are.good k bad.bad
