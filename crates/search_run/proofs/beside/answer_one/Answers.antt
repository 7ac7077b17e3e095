use Rattle.std.proofs.Common.{[], ℕ, ◌∷◌, subst}
use Rattle.query_script.specs.declared.statement.Placed.{Placed}
use Rattle.search_run.specs.Beside.{HasAnswered, StopsBeside}
use Rattle.search_run.specs.Seen.{HaveSeen}
use Rattle.search_run.proofs.BesideLemmas.{placed_block}
use Rattle.serial_run.proofs.RunLemmas.{after_error}
use Rattle.search_run.proofs.beside.answer_one.Goals as goal

pub returns-in_ok-version-in-Together-clause-answered : goal.returns-in_ok-version-in-Together-clause-answered
returns-in_ok-version-in-Together-clause-answered g c = λ before written. λ batch.
    let at = c.args.searchers.now in
    let now = c.answer_block.new.searchers in
    subst (λ (p : Placed). HasAnswered batch (HaveSeen at.own at.block.items) c.args.held.number c.args.session.now (p ∷ []) (HaveSeen now.own now.block.items) c.in_ok-version-in-Together.version.number c.answer_block.new.session before (g.K.Sink.written c.answer_block.new.out))
    (placed_block c.args.placed.now c.in-Together.searches c.in-Together.is)
    (rw c.as_slice-searches.ensures at (c.in_ok-version-in-Together.ensures.answered before written c.args.placed.now.line batch))

pub returns-in_err-version-in-Together-clause-stopped : goal.returns-in_err-version-in-Together-clause-stopped
returns-in_err-version-in-Together-clause-stopped g c = λ before written.
    let at = c.args.searchers.now in
    let now = c.answer_block.new.searchers in
    let stops : (batch : ℕ) → StopsBeside batch (HaveSeen at.own at.block.items) c.args.held.number c.args.session.now (c.args.placed.now ∷ []) (HaveSeen now.own now.block.items) before (g.K.Sink.written c.answer_block.new.out) = λ batch.
    subst (λ (p : Placed). StopsBeside batch (HaveSeen at.own at.block.items) c.args.held.number c.args.session.now (p ∷ []) (HaveSeen now.own now.block.items) before (g.K.Sink.written c.answer_block.new.out))
    (placed_block c.args.placed.now c.in-Together.searches c.in-Together.is)
    (rw c.as_slice-searches.ensures at (c.in_err-version-in-Together.ensures.stopped before written c.args.placed.now.line batch)) in
    after_error _ _ stops
