use Rattle.std.proofs.Common.{◌≡◌, List, ap, map, refl}
use Rattle.pattern_images.specs.declared.hit.Hit.{Hit}
use Rattle.session_core.specs.SessionState.{SessionState, Watched, session_of}
use Rattle.session_core.proofs.AnswerTexts.{IsLeft-fed}
use Rattle.session_core.proofs.WatchSteps.{fed-alone}
use Rattle.session_core.proofs.session.Session.feed.Goals as goal

pub returns-clause-fed : goal.returns-clause-fed
returns-clause-fed g c =
    let boxes = map (λ b. g.C.Collector.tally b) c.feed_boxes.new.boxes.items in
    fed-alone c.feed_boxes.result c.args.answer.now.hits.items c.args.self.now _ boxes
    (ap (λ (watches : List Watched). session_of boxes watches) (ap (λ (s : SessionState). s.watches) c.self.view_is))
    (rw (← ap (λ (s : SessionState). s.boxes) c.self.view_is) (rw c.deref.ensures.value at c.feed_boxes.ensures.ok))

pub returns-clause-left : goal.returns-clause-left
returns-clause-left g c =
    let boxes = map (λ b. g.C.Collector.tally b) c.feed_boxes.new.boxes.items in
    IsLeft-fed c.feed_boxes.result (λ (hits : List Hit). hits ≡ c.args.answer.now.hits.items) c.args.answer.now.hits.items c.args.self.now _ boxes refl
    (ap (λ (watches : List Watched). session_of boxes watches) (ap (λ (s : SessionState). s.watches) c.self.view_is))
    (rw (← ap (λ (s : SessionState). s.boxes) c.self.view_is) (rw c.deref.ensures.value at c.feed_boxes.ensures.refused))
