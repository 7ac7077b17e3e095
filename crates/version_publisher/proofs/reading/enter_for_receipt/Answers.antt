use Rattle.std.proofs.Common.{◌≡◌, [], ◌∷◌, sym, ap, ◌∙◌}
use Rattle.version_publisher.specs.Contents.{book_name_of}
use Rattle.version_publisher.specs.Replicas.{content_of}
use Rattle.version_publisher.proofs.RuleSteps.{looks, look_opening, look_read, look_keeps}
use Rattle.version_publisher.proofs.reading.enter_for_receipt.Goals as goal

pub enter_as-requires : goal.enter_as-requires
enter_as-requires g c = looks (content_of g.P.Part.items) g.P.Part.MOST _ _

pub returns-clause-reader : goal.returns-clause-reader
returns-clause-reader g c = look_keeps g.P.Part.MOST _ _ _ (content_of g.P.Part.items c.in-Ok.reading.part.value) c.requires.one c.in-Ok.ensures.1 c.leave.ensures.1

pub returns-clause-read : goal.returns-clause-read
returns-clause-read g c =
    let replica = c.in-Ok.reading.part.value in
    let same : c.get-replica.result.now ≡ replica = c.get-replica.ensures in
    let mine = look_opening g.P.Part.MOST _ _ _ (content_of g.P.Part.items replica) c.requires.one c.in-Ok.ensures.1 c.leave.ensures.1 in
    let read = look_read g.P.Part.MOST _ _ _ (content_of g.P.Part.items replica) c.requires.one c.in-Ok.ensures.1 c.leave.ensures.1 in (
      mine ∙ (ap (λ b. book_name_of b.token.book ∷ []) (sym same) ∙ ap (λ z. z ∷ []) (sym c.new-found.ensures.opening)),
      c.new-found.ensures.log ∙ (ap (λ b. b.token.log) same ∙ sym read),
    )
