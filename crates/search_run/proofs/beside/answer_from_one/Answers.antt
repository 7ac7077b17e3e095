use Rattle.std.proofs.Common.{[], ℕ, ◌∷◌, arith, subst, sym}
use Rattle.version_publisher.specs.Contents.{items_in}
use Rattle.session_core.specs.Watches.{WatchesFit}
use Rattle.session_core.proofs.WatchLemmas.{fit-grown}
use Rattle.search_run.specs.Beside.{Reaches, StopsBeside}
use Rattle.search_run.specs.Seen.{HaveSeen}
use Rattle.search_run.proofs.BesideLemmas.{goes-on}
use Rattle.search_run.proofs.SeenLemmas.{items-grown, prefix_length, seen_before}
use Rattle.serial_run.proofs.RunLemmas.{after_error}
use Rattle.search_run.proofs.StoppedRuns.{stops-none, stops-one}
use Rattle.search_run.proofs.beside.answer_from_one.Goals as goal

pub returns-in_err-version-clause-seen : goal.returns-in_err-version-clause-seen
returns-in_err-version-clause-seen g c = seen_before _ _ _ _ c.version_for.ensures.grows c.version_for.ensures.block

pub returns-in_default-clause-seen : goal.returns-in_default-clause-seen
returns-in_default-clause-seen g c = seen_before _ _ _ _ c.version_for.ensures.grows c.version_for.ensures.block

pub returns-in_err-text-clause-seen : goal.returns-in_err-text-clause-seen
returns-in_err-text-clause-seen g c = seen_before _ _ _ _ c.version_for.ensures.grows c.version_for.ensures.block

pub returns-in_err-write_all-clause-seen : goal.returns-in_err-write_all-clause-seen
returns-in_err-write_all-clause-seen g c = seen_before _ _ _ _ c.version_for.ensures.grows c.version_for.ensures.block

pub returns-clause-seen : goal.returns-clause-seen
returns-clause-seen g c = seen_before _ _ _ _ c.version_for.ensures.grows c.version_for.ensures.block

pub returns-clause-answered : goal.returns-clause-answered
returns-clause-answered g c = λ before written. λ batch.
    let own = c.args.searchers.now.own in
    let block = c.args.searchers.now.block.items in
    let own_now = c.version_for.new.searchers.own in
    let block_now = c.version_for.new.searchers.block.items in
    let of = rw c.in-Some.is at c.in_ok-version.ensures.version in
    let reaches = rw c.in-Some.is at c.in_ok-version.ensures.reaches in
    let grows = c.version_for.ensures.grows in
    let longer = prefix_length own.seen own_now.seen grows in record {
      text = c.in_ok-text.text.items;
      goes_on = goes-on batch (HaveSeen own block) (HaveSeen own_now block_now) c.args.held.number c.args.session.now c.version_text.new.session c.args.placed.now c.in_ok-text.text.items c.in-Some.version own_now.seen
          (seen_before own own_now block block_now grows c.version_for.ensures.block) (λ log seen. seen.own_seen) of (omega (arith, c.requires.held.number, longer)) (rw c.in-Some.is at c.in_ok-version.ensures.leaves)
          (subst (Reaches c.args.placed.now.statement) of.number reaches) c.in_ok-text.ensures.text;
      written_is = rw c.deref.ensures.value at (c.in_ok-write_all.ensures.whole before written);
    }

pub returns-in_err-version-clause-stopped : goal.returns-in_err-version-clause-stopped
returns-in_err-version-clause-stopped g c = λ before written.
    let stops : (batch : ℕ) → StopsBeside batch (HaveSeen c.args.searchers.now.own c.args.searchers.now.block.items) c.args.held.number c.args.session.now (c.args.placed.now ∷ []) (HaveSeen c.version_for.new.searchers.own c.version_for.new.searchers.block.items) before (g.K.Sink.written c.args.out.now) = λ batch. stops-none batch _ _ _ _ _ before _ (seen_before _ _ _ _ c.version_for.ensures.grows c.version_for.ensures.block) written in
    after_error _ _ stops

pub returns-in_err-text-clause-stopped : goal.returns-in_err-text-clause-stopped
returns-in_err-text-clause-stopped g c = λ before written.
    let stops : (batch : ℕ) → StopsBeside batch (HaveSeen c.args.searchers.now.own c.args.searchers.now.block.items) c.args.held.number c.args.session.now (c.args.placed.now ∷ []) (HaveSeen c.version_for.new.searchers.own c.version_for.new.searchers.block.items) before (g.K.Sink.written c.args.out.now) = λ batch. stops-none batch _ _ _ _ _ before _ (seen_before _ _ _ _ c.version_for.ensures.grows c.version_for.ensures.block) written in
    after_error _ _ stops

pub returns-in_err-write_all-clause-stopped : goal.returns-in_err-write_all-clause-stopped
returns-in_err-write_all-clause-stopped g c = λ before written.
    let own = c.args.searchers.now.own in
    let block = c.args.searchers.now.block.items in
    let own_now = c.version_for.new.searchers.own in
    let block_now = c.version_for.new.searchers.block.items in
    let of = rw c.in-Some.is at c.in_ok-version.ensures.version in
    let reaches = rw c.in-Some.is at c.in_ok-version.ensures.reaches in
    let grows = c.version_for.ensures.grows in
    let longer = prefix_length own.seen own_now.seen grows in
    let text = c.in_ok-text.text.items in
    let part = rw c.deref.ensures.value at (c.in_err-write_all.ensures.part before written) in
    let stops : (batch : ℕ) → StopsBeside batch (HaveSeen own block) c.args.held.number c.args.session.now (c.args.placed.now ∷ []) (HaveSeen own_now block_now) before (g.K.Sink.written c.write_all.new.out) = λ batch. stops-one batch (HaveSeen own block) (HaveSeen own_now block_now) c.args.held.number c.in-Some.version.number c.args.session.now c.version_text.new.session c.args.placed.now text part.0 before _
    (goes-on batch (HaveSeen own block) (HaveSeen own_now block_now) c.args.held.number c.args.session.now c.version_text.new.session c.args.placed.now text c.in-Some.version own_now.seen
    (seen_before own own_now block block_now grows c.version_for.ensures.block) (λ log seen. seen.own_seen) of (omega (arith, c.requires.held.number, longer)) (rw c.in-Some.is at c.in_ok-version.ensures.leaves)
    (subst (Reaches c.args.placed.now.statement) of.number reaches) c.in_ok-text.ensures.text) part.1 part.2 in
    after_error _ _ stops

pub version_text-requires-clause-fit : goal.version_text-requires-clause-fit
version_text-requires-clause-fit g c = λ lifetimes bounds.
    let before = c.args.searchers.now.own.seen in
    let now = c.version_for.new.searchers.own.seen in
    let of = rw c.in-Some.is at c.in_ok-version.ensures.version in
    subst (λ games. WatchesFit games c.args.session.now) (sym of.games)
    (fit-grown (items_in before) (items_in now) c.args.session.now (items-grown before now c.version_for.ensures.grows) c.requires.fit)

pub returns-in_default-clause-fit : goal.returns-in_default-clause-fit
returns-in_default-clause-fit g c =
    let before = c.args.searchers.now.own.seen in
    let now = c.version_for.new.searchers.own.seen in
    fit-grown (items_in before) (items_in now) c.args.session.now (items-grown before now c.version_for.ensures.grows) c.requires.fit

pub returns-clause-fit : goal.returns-clause-fit
returns-clause-fit g c =
    let of = rw c.in-Some.is at c.in_ok-version.ensures.version in
    subst (λ games. WatchesFit games c.version_text.new.session) of.games c.in_ok-text.ensures.fit
