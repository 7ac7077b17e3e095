use Rattle.std.proofs.Common.{◌≡◌, ◌∙◌, List, ap, ℕ}
use Rattle.std.specs.Prelude.{Err, Ok, OnErr, OnOk, Result}
use Rattle.info_filter.specs.declared.filter.Filter.{Filter}
use Rattle.pattern_images.specs.declared.hit.Hit.{Hit}
use Rattle.pattern_images.specs.declared.query.Query.{Query}
use Rattle.session_core.specs.Answers.{IsLeft, IsSearched, View}
use Rattle.session_core.specs.SessionState.{SessionState}
use Rattle.session_core.proofs.WatchAnswers.{fit-unwatched, left-watches}
use Rattle.run_tests.proofs.refused.report_after_refusal.Goals as goal

-- a search leaves what is watched, also where it is refused
search-watches : {T E : Type 0} (result : Result T E) (line : ℕ) (view : View) (query : Query) (filter : Filter) (session after : SessionState) (IsAppended : List ℕ → Type 0) (AreThese : List Hit → Type 0) →
    OnOk result ((text : List ℕ) × IsSearched line view query filter session text after × IsAppended text) → OnErr result (IsLeft AreThese session after) → after.watches ≡ session.watches
search-watches (Ok x) line view query filter session after IsAppended AreThese (text, searched, appended) left = ap (λ (s : SessionState). s.watches) searched.fed
search-watches (Err e) line view query filter session after IsAppended AreThese ok left = left-watches AreThese session after left

pub answer-requires-clause-fit : goal.answer-requires-clause-fit
answer-requires-clause-fit g c = λ lifetimes bounds.
    let done = c.answer_search-done in
    fit-unwatched _ done.new.self
    (search-watches done.result _ _ _ _ _ done.new.self _ _ done.ensures.ok done.ensures.left
    ∙ ap (λ (s : SessionState). s.watches) c.new-session.ensures)
