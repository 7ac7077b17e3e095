use Rattle.std.proofs.Common.{◌≡◌, [], ◌∷◌, sym, ap, subst, ◌∙◌}
use Rattle.std.proofs.lemmas.Result.{IfOk-weaker}
use Rattle.version_publisher.specs.Contents.{IsConsistent, book_name_of}
use Rattle.version_publisher.specs.Replicas.{content_of}
use Rattle.version_publisher.proofs.Prefixes.{prefix_into}
use Rattle.version_publisher.proofs.RuleSteps.{looks, look_opening, look_read, look_keeps}
use Rattle.version_publisher.proofs.reading.enter.Goals as goal

pub enter_as-requires : goal.enter_as-requires
enter_as-requires g c = looks (content_of g.P.Part.items) g.P.Part.MOST _ _

pub version_of-found-requires-clause-consistent : goal.version_of-found-requires-clause-consistent
version_of-found-requires-clause-consistent g c κs h = subst (λ b. IsConsistent g.P.Part.MOST (content_of g.P.Part.items b)) (sym c.get.ensures) c.in-Ok.ensures.1.1

pub returns-clause-reader : goal.returns-clause-reader
returns-clause-reader g c = look_keeps g.P.Part.MOST _ _ _ (content_of g.P.Part.items c.in-Ok.reading.part.value) c.requires.one c.in-Ok.ensures.1 c.leave.ensures.1

pub returns-clause-read : goal.returns-clause-read
returns-clause-read g c =
    let replica = c.in-Ok.reading.part.value in
    let same : c.get.result.now ≡ replica = c.get.ensures in
    let mine = look_opening g.P.Part.MOST _ _ _ (content_of g.P.Part.items replica) c.requires.one c.in-Ok.ensures.1 c.leave.ensures.1 in
    let kept = look_keeps g.P.Part.MOST _ _ _ (content_of g.P.Part.items replica) c.requires.one c.in-Ok.ensures.1 c.leave.ensures.1 in
    let read = look_read g.P.Part.MOST _ _ _ (content_of g.P.Part.items replica) c.requires.one c.in-Ok.ensures.1 c.leave.ensures.1 in
    IfOk-weaker c.version_of-found.result _ _
    (λ t h.
    let found = h.1 ∙ (ap (λ b. b.token.log) same ∙ sym read) in
    (mine ∙ (ap (λ b. book_name_of b.token.book ∷ []) (sym same) ∙ ap (λ z. z ∷ []) (sym h.0)), found, h.2, h.3, (λ log p. prefix_into log _ _ _ p kept.1 found)))
    c.version_of-found.ensures
