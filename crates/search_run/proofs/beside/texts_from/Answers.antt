use Rattle.std.proofs.Common.{◌∙◌, [], ◌∷◌, ◌++◌, ap, arith, length, map, subst, sym, take}
use Rattle.std.proofs.lemmas.List.{length-map, map-append, take_all}
use Rattle.std.proofs.lemmas.Result.{IfOk-weaker}
use Rattle.session_core.specs.Stores.{view_of}
use Rattle.serial_run.specs.Steps.{AreAnsweredFrom}
use Rattle.serial_run.proofs.RunLemmas.{taken_more}
use Rattle.search_run.proofs.beside.texts_from.Goals as goal

pub loop-version-preserved : goal.loop-version-preserved
loop-version-preserved g c =
    let versions = c.args.versions.now in
    let i = c.loop-version.version-index in
    let v = c.version-item.result in
    ap (map (λ v. view_of v.now)) c.in_ok-push.ensures.items
    ∙ map-append (λ v. view_of v.now) c.loop-version.each.items _
    ∙ ap (λ views. views ++ view_of v ∷ []) c.loop-version.invariant
    ∙ sym (ap (map view_of) (taken_more versions i v c.loop-version-test.true c.version-item.is) ∙ map-append view_of (take i versions) (v ∷ []))

pub block_text-requires-after_bounds : goal.block_text-requires-after_bounds
block_text-requires-after_bounds g c = λ lifetimes bounds.
    let versions = c.args.versions.now in
    let i = c.loop-version.version-index in
    let whole = take_all i versions c.loop-version-test.false in
    omega (arith, c.requires, ap length c.deref.ensures.value, length-map c.loop-version.each.items (λ v. view_of v.now), ap length c.loop-version.invariant, length-map (take i versions) view_of, ap length whole)

pub returns : goal.returns
returns g c =
    let versions = c.args.versions.now in
    let alike = ap (map (λ v. view_of v.now)) c.deref.ensures.value ∙ c.loop-version.invariant ∙ ap (map view_of) (take_all c.loop-version.version-index versions c.loop-version-test.false) in
    IfOk-weaker c.block_text.result _ _
    (λ text is. subst (λ views. AreAnsweredFrom views c.args.searches.now c.args.session.now text.items c.block_text.new.session) alike is)
    c.block_text.ensures
