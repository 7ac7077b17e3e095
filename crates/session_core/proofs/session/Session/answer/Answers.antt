use Rattle.std.proofs.Common.{inl}
use Rattle.std.proofs.lemmas.Result.{on_err_weaker}
use Rattle.indexmap.proofs.MapLemmas.{OnOk-map}
use Rattle.session_core.proofs.session.Session.answer.Goals as goal

pub returns-in-Search-clause-left : goal.returns-in-Search-clause-left
returns-in-Search-clause-left g c = on_err_weaker c.answer_search.result (λ left. rw c.in-Search.is (inl left)) c.answer_search.ensures.left

pub returns-in-Retire-clause-ok : goal.returns-in-Retire-clause-ok
returns-in-Retire-clause-ok g c =
    OnOk-map c.retire_box.result _ _ (λ retired. rw (c.in-Retire.is, ← c.self-in-Retire.view_is) (rw c.as_str.ensures at (retired c.self-in-Retire.inside.watches.items))) c.retire_box.ensures.ok
