-- What is asked for the searches of a block, and the answers to it.
use Rattle.std.proofs.Common.{◌≡◌, ℕ, ◌+◌, ◌<◌, List, [], ◌∷◌, ◌++◌, ◌∙◌, ap, arith, get_or, inl, inr, length, subst, sym}
use Rattle.std.specs.Borrow.{Bor}
use Rattle.std.specs.List.{AllZip}
use Rattle.std.proofs.lemmas.Bool.{cases_eq}
use Rattle.std.proofs.lemmas.List.{get_or_append_left, get_or_push, get_or_read, length-append}
use Rattle.std.proofs.lemmas.Slice.Zip.{AllZip-long}
use Rattle.node_position.specs.Games.{Game}
use Rattle.version_publisher.specs.Contents.{items_in}
use Rattle.version_publisher.specs.declared.state.VersionState.{VersionState}
use Rattle.pattern_images.specs.declared.query.Query.{Query}
use Rattle.info_filter.specs.declared.filter.Filter.{Filter}
use Rattle.query_script.specs.declared.statement.PlacedSearch.{PlacedSearch}
use Rattle.continuation_table.specs.Table.{IsTable}
use Rattle.search_engine.specs.declared.answer.Answer.{Answer}
use Rattle.search_engine.specs.declared.several.Asked.{Asked}
use Rattle.search_engine.specs.Answers.{IsAnswerOf}
use Rattle.search_engine.specs.Hits.{AreHits}
use Rattle.session_core.proofs.FoundGames.{zipped_at}
use Rattle.serial_run.specs.Block.{AreAskedFor, IsAskedFor}

-- the first so many searches are asked for
pub record AreAskedTo (searches : List PlacedSearch) (versions : List (Bor (VersionState Game))) (count : ℕ) (asked : List Asked) : Type 0 where
  pub as_many : length asked ≡ count
  pub each : (i : ℕ) (p : PlacedSearch) (v : Bor (VersionState Game)) (a : Asked) → i < count → IsAskedFor (get_or searches i p) (get_or versions i v) (get_or asked i a)

-- one search more
pub AreAskedTo-more : (searches : List PlacedSearch) (versions : List (Bor (VersionState Game))) (count : ℕ) (asked new : List Asked) (one : Asked) (placed : PlacedSearch) (version : Bor (VersionState Game)) → count < length searches → count < length versions → placed ≡ get_or searches count placed → version ≡ get_or versions count version → IsAskedFor placed version one → new ≡ asked ++ one ∷ [] → AreAskedTo searches versions count asked → AreAskedTo searches versions (count + 1) new
AreAskedTo-more searches versions count asked new one placed version below under placed_is version_is is pushed are = record {
  as_many = subst (λ (list : List Asked). length list ≡ count + 1) (sym pushed) (omega (arith, length-append asked (one ∷ []), are.as_many));
  each = λ i p v a lt. elim (cases_eq i count) [
    | inl same ↦
        subst (λ k. IsAskedFor (get_or searches k p) (get_or versions k v) (get_or new k a)) (sym same)
        (subst (λ (x : PlacedSearch). IsAskedFor x (get_or versions count v) (get_or new count a)) (get_or_read searches count placed below placed_is p)
        (subst (λ (x : Bor (VersionState Game)). IsAskedFor placed x (get_or new count a)) (get_or_read versions count version under version_is v)
        (subst (λ (list : List Asked). IsAskedFor placed version (get_or list count a)) (sym pushed)
        (subst (λ (x : Asked). IsAskedFor placed version x) (sym (get_or_push asked one a count are.as_many)) is))))
    | inr other ↦
        let inside : i < length asked = omega (arith, lt, other, are.as_many) in
        subst (λ (list : List Asked). IsAskedFor (get_or searches i p) (get_or versions i v) (get_or list i a)) (sym pushed)
        (subst (λ (x : Asked). IsAskedFor (get_or searches i p) (get_or versions i v) x) (sym (get_or_append_left asked (one ∷ []) a i inside)) (are.each i p v a (omega (arith, inside, are.as_many))))
  ];
}

-- there are as many answers as searches
pub answers_as_many : (searches : List PlacedSearch) (versions : List (Bor (VersionState Game))) (asked given : List Asked) (answers : List Answer) → AreAskedFor searches versions asked → given ≡ asked → AllZip IsAnswerOf given answers → length answers ≡ length searches
answers_as_many searches versions asked given answers are same answered = AllZip-long IsAnswerOf given answers answered ∙ (ap (λ (list : List Asked). length list) same ∙ are.as_many)

-- an element of a list that has one
some_of : {A : Type 0} (xs : List A) (i : ℕ) → i < length xs → A
some_of [] i lt = absurd (omega (arith, lt))
some_of (x ∷ xs) i lt = x

-- the answer to a search over a version is that of the search that was asked for
answer_asked_for : (placed : PlacedSearch) (version : Bor (VersionState Game)) (asked : Asked) (answer : Answer) → IsAskedFor placed version asked → IsAnswerOf asked answer → AreHits placed.query placed.filter (items_in version.now.parts) answer.hits.items × IsTable answer.hits.items answer.table
answer_asked_for placed version asked answer is answered = (
  subst (λ (q : Query). AreHits q placed.filter (items_in version.now.parts) answer.hits.items) is.query_is
      (subst (λ (f : Filter). AreHits asked.query.now f (items_in version.now.parts) answer.hits.items) is.filter_is
      (subst (λ (v : VersionState Game). AreHits asked.query.now asked.filter.now (items_in v.parts) answer.hits.items) is.version_is answered.hits)),
  answered.table,
)

-- the answer in a place is that of the search there over the version there
pub answer_at : (searches : List PlacedSearch) (versions : List (Bor (VersionState Game))) (asked given : List Asked) (answers : List Answer) → AreAskedFor searches versions asked → given ≡ asked → AllZip IsAnswerOf given answers
    → (i : ℕ) (placed : PlacedSearch) (version : Bor (VersionState Game)) (answer d : Answer) → i < length searches → placed ≡ get_or searches i placed → version ≡ get_or versions i version → answer ≡ get_or answers i d → AreHits placed.query placed.filter (items_in version.now.parts) answer.hits.items × IsTable answer.hits.items answer.table
answer_at searches versions asked given answers are same answered i placed version answer d below placed_is version_is answer_is =
    let inside : i < length asked = omega (arith, below, are.as_many) in
    let a = some_of asked i inside in
    let all = subst (λ (list : List Asked). AllZip IsAnswerOf list answers) same answered in
    answer_asked_for placed version (get_or asked i a) answer
    (subst (λ (x : PlacedSearch). IsAskedFor x version (get_or asked i a)) (sym placed_is)
    (subst (λ (x : Bor (VersionState Game)). IsAskedFor (get_or searches i placed) x (get_or asked i a)) (sym version_is) (are.each i placed version a inside)))
    (subst (λ (x : Answer). IsAnswerOf (get_or asked i a) x) (sym answer_is) (zipped_at IsAnswerOf asked answers i a d all inside))
