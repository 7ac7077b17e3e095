use Rattle.std.proofs.Common.{◌≡◌, ◌∙◌, [], ◌∷◌, ◌++◌, ap, arith, length, map, replicate, subst}
use Rattle.std.proofs.lemmas.List.{length-map, length-replicate, map-append, replicate_more}
use Rattle.std.proofs.lemmas.Result.{IfOk-weaker}
use Rattle.session_core.specs.Stores.{view_of}
use Rattle.serial_run.specs.Steps.{AreAnsweredFrom}
use Rattle.serial_run.proofs.StatementLemmas.{seen-alike}
use Rattle.serial_run.proofs.statement_text.block_at.Goals as goal

pub loop-preserved : goal.loop-preserved
loop-preserved g c =
    let view = view_of c.args.version.now in
    ap (map (λ v. view_of v.now)) c.in_ok-push.ensures.items
    ∙ map-append (λ v. view_of v.now) c.loop.versions.items (c.args.version ∷ [])
    ∙ ap (λ views. views ++ view ∷ []) c.loop.invariant
    ∙ replicate_more c.loop.index view

pub block_text-requires-after_bounds : goal.block_text-requires-after_bounds
block_text-requires-after_bounds g c = λ lifetimes bounds.
    let view = view_of c.args.version.now in
    let count : c.loop.index ≡ length c.args.searches.now = omega (arith, c.loop.auto.index-end, c.loop-test.false) in
    omega (arith, count, ap length c.deref.ensures.value, length-map c.loop.versions.items (λ v. view_of v.now), ap length c.loop.invariant, length-replicate c.loop.index view)

pub returns : goal.returns
returns g c =
    let searches = c.args.searches.now in
    let view = view_of c.args.version.now in
    let count : c.loop.index ≡ length searches = omega (arith, c.loop.auto.index-end, c.loop-test.false) in
    let alike = ap (map (λ v. view_of v.now)) c.deref.ensures.value ∙ c.loop.invariant ∙ ap (λ n. replicate n view) count ∙ seen-alike view searches in
    IfOk-weaker c.block_text.result _ _
    (λ text is. subst (λ views. AreAnsweredFrom views searches c.args.session.now text.items c.block_text.new.session) alike is)
    c.block_text.ensures
