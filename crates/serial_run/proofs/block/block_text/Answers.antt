use Rattle.std.proofs.Common.{◌<◌, [], ◌∷◌, ◌++◌, arith, length, map, subst, sym, take}
use Rattle.std.proofs.lemmas.List.{map-append, take_all}
use Rattle.session_core.specs.Stores.{view_of}
use Rattle.serial_run.specs.Steps.{AreAnsweredFrom}
use Rattle.serial_run.proofs.BlockAnswers.{answer_at, answers_as_many}
use Rattle.serial_run.proofs.RunLemmas.{taken_more}
use Rattle.serial_run.proofs.StatementLemmas.{AreAnsweredFrom-more}
use Rattle.serial_run.proofs.block.block_text.Goals as goal

pub index-requires : goal.index-requires
index-requires g c =
    let as_many = answers_as_many c.args.searches.now c.args.versions.now c.in_ok-asked.asked.items c.deref.result.now c.in_ok-answers.answers.items c.in_ok-asked.ensures c.deref.ensures.value c.in_ok-answers.ensures in
    omega (arith, c.loop-i-test.true, as_many, c.in_ok-answers.answers.ok.0)

pub deliver-requires-clause-hits : goal.deliver-requires-clause-hits
deliver-requires-clause-hits g c =
    let is = answer_at c.args.searches.now c.args.versions.now c.in_ok-asked.asked.items c.deref.result.now c.in_ok-answers.answers.items c.in_ok-asked.ensures c.deref.ensures.value c.in_ok-answers.ensures c.loop-i.i c.index-searches-i.result c.index-versions-i.result c.index.result.now _ c.loop-i-test.true c.index-searches-i.is c.index-versions-i.is c.index.ensures in
    is.0

pub deliver-requires-clause-table : goal.deliver-requires-clause-table
deliver-requires-clause-table g c =
    let is = answer_at c.args.searches.now c.args.versions.now c.in_ok-asked.asked.items c.deref.result.now c.in_ok-answers.answers.items c.in_ok-asked.ensures c.deref.ensures.value c.in_ok-answers.ensures c.loop-i.i c.index-searches-i.result c.index-versions-i.result c.index.result.now _ c.loop-i-test.true c.index-searches-i.is c.index-versions-i.is c.index.ensures in
    is.1

pub loop-i-preserved : goal.loop-i-preserved
loop-i-preserved g c =
    let i = c.loop-i.i in
    let searches = c.args.searches.now in
    let versions = c.args.versions.now in
    let p = c.index-searches-i.result in
    let v = c.index-versions-i.result in
    let below : i < length versions = omega (arith, c.loop-i-test.true, c.requires) in
    let found = c.in_ok-deliver.ensures in
    rw (taken_more searches i p c.loop-i-test.true c.index-searches-i.is, taken_more versions i v below c.index-versions-i.is, found.2)
    (subst (λ views. AreAnsweredFrom views (take i searches ++ p ∷ []) c.args.session.now (c.loop-i.text.items ++ found.0) c.deliver.new.session) (sym (map-append (λ v. view_of v.now) (take i versions) (v ∷ [])))
    (AreAnsweredFrom-more (map (λ v. view_of v.now) (take i versions)) (view_of v.now) (take i searches) p c.args.session.now c.loop-i.session c.deliver.new.session c.loop-i.text.items found.0 c.loop-i.invariant found.1))

pub returns : goal.returns
returns g c =
    let i = c.loop-i.i in
    let searches = c.args.searches.now in
    let versions = c.args.versions.now in
    subst (λ vs. AreAnsweredFrom (map (λ v. view_of v.now) vs) searches c.args.session.now c.loop-i.text.items c.loop-i.session) (take_all i versions (omega (arith, c.loop-i-test.false, c.requires)))
    (subst (λ ps. AreAnsweredFrom (map (λ v. view_of v.now) (take i versions)) ps c.args.session.now c.loop-i.text.items c.loop-i.session) (take_all i searches c.loop-i-test.false) c.loop-i.invariant)
