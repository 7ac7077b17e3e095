use Rattle.std.proofs.Common.{◌≡◌, List, ap, map, refl}
use Rattle.std.proofs.lemmas.Result.{on_err_weaker}
use Rattle.pattern_images.specs.declared.hit.Hit.{Hit}
use Rattle.session_core.specs.SessionState.{SessionState, Watched, session_of}
use Rattle.session_core.specs.Watches.{new_hits}
use Rattle.session_core.proofs.AnswerTexts.{IsLeft-fed}
use Rattle.session_core.proofs.session.Session.feed_new.Goals as goal

pub returns-in-Some-clause-left : goal.returns-in-Some-clause-left
returns-in-Some-clause-left g c =
    let boxes = map (λ b. g.C.Collector.tally b) c.feed_boxes.new.boxes.items in
    let hits = new_hits c.args.self.now.watches c.in-Some.new in
    on_err_weaker c.feed_boxes.result (λ left. rw c.in-Some.is left)
    (IsLeft-fed c.feed_boxes.result (λ (these : List Hit). these ≡ hits) hits c.args.self.now _ boxes refl
    (ap (λ (watches : List Watched). session_of boxes watches) (ap (λ (s : SessionState). s.watches) c.self.view_is))
    (rw (← ap (λ (s : SessionState). s.boxes) c.self.view_is, ← ap (λ (s : SessionState). s.watches) c.self.view_is) (rw (c.hits_of.ensures, c.deref.ensures.value) at c.feed_boxes.ensures.refused)))
