use Rattle.std.proofs.Common.{◌≡◌, List, subst, sym}
use Rattle.indexmap.proofs.MapLemmas.{OnOk-map}
use Rattle.pattern_images.specs.declared.hit.Hit.{Hit}
use Rattle.search_engine.specs.Hits.{AreHits}
use Rattle.version_publisher.specs.Contents.{items_in}
use Rattle.session_core.specs.Stores.{view_of}
use Rattle.session_core.proofs.AnswerTexts.{IsLeft-weaker}
use Rattle.session_core.proofs.session.Session.answer_search.Goals as goal

pub returns-clause-ok : goal.returns-clause-ok
returns-clause-ok g c =
    OnOk-map c.deliver.result _ _
    (λ searched. searched (view_of c.args.version.now) c.args.query.now c.args.filter.now c.number.ensures c.game_count.ensures.value c.in_ok-answer.ensures.hits c.in_ok-answer.ensures.table)
    c.deliver.ensures.searched

pub returns-clause-left : goal.returns-clause-left
returns-clause-left g c =
    IsLeft-weaker c.deliver.result (λ (hits : List Hit). hits ≡ c.in_ok-answer.answer.hits.items) (AreHits c.args.query.now c.args.filter.now (items_in c.args.version.now.parts)) c.args.self.now _
    (λ hits same. subst (AreHits c.args.query.now c.args.filter.now (items_in c.args.version.now.parts)) (sym same) c.in_ok-answer.ensures.hits)
    c.deliver.ensures.left
