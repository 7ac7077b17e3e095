use Rattle.std.proofs.Common.{[], ℕ, ◌∷◌, arith, subst}
use Rattle.std.proofs.lemmas.List.Elements.{All-weaker}
use mathlib.Core.List.{IsPrefix}
use Rattle.node_position.specs.Games.{Game}
use Rattle.version_publisher.specs.Contents.{items_in}
use Rattle.version_publisher.specs.declared.state.SearcherState.{SearcherState}
use Rattle.session_core.proofs.WatchLemmas.{fit-grown}
use Rattle.search_run.specs.Beside.{StopsBeside, block_at}
use Rattle.search_run.specs.Seen.{HaveSeen, HaveSeenOf, IsLookedAt}
use Rattle.serial_run.proofs.FittingWatches.{block-fits}
use Rattle.serial_run.proofs.RunLemmas.{after_error}
use Rattle.search_run.proofs.StoppedRuns.{stops-none, stops-one}
use Rattle.search_run.proofs.BesideLemmas.{IsBetween, block-goes-on, looked-between}
use Rattle.search_run.proofs.SeenLemmas.{items-grown, prefix_length, seen-before-block}
use Rattle.search_run.proofs.beside.answer_block.Goals as goal

pub returns-in_err-version-clause-seen : goal.returns-in_err-version-clause-seen
returns-in_err-version-clause-seen g c = seen-before-block _ _ _ _ _ (subst (λ (o : SearcherState Game). IsPrefix o.seen c.catch_up.new.self.own.seen) c.look_each.ensures.own c.catch_up.ensures.grows) c.look_each.ensures.seen c.catch_up.ensures.block

pub returns-in_err-text-clause-seen : goal.returns-in_err-text-clause-seen
returns-in_err-text-clause-seen g c = seen-before-block _ _ _ _ _ (subst (λ (o : SearcherState Game). IsPrefix o.seen c.catch_up.new.self.own.seen) c.look_each.ensures.own c.catch_up.ensures.grows) c.look_each.ensures.seen c.catch_up.ensures.block

pub returns-in_err-write_all-clause-seen : goal.returns-in_err-write_all-clause-seen
returns-in_err-write_all-clause-seen g c = seen-before-block _ _ _ _ _ (subst (λ (o : SearcherState Game). IsPrefix o.seen c.catch_up.new.self.own.seen) c.look_each.ensures.own c.catch_up.ensures.grows) c.look_each.ensures.seen c.catch_up.ensures.block

pub returns-clause-seen : goal.returns-clause-seen
returns-clause-seen g c = seen-before-block _ _ _ _ _ (subst (λ (o : SearcherState Game). IsPrefix o.seen c.catch_up.new.self.own.seen) c.look_each.ensures.own c.catch_up.ensures.grows) c.look_each.ensures.seen c.catch_up.ensures.block

pub returns-clause-answered : goal.returns-clause-answered
returns-clause-answered g c = λ before written. λ line batch.
    let own = c.args.searchers.now.own in
    let block = c.args.searchers.now.block.items in
    let looked = c.look_each.new.self.block.items in
    let now = c.catch_up.new.self.own in
    let block_now = c.catch_up.new.self.block.items in
    let floor = c.args.held.number in
    let versions = c.in_ok-versions.versions.items in
    let grows = subst (λ (o : SearcherState Game). IsPrefix o.seen now.seen) c.look_each.ensures.own c.catch_up.ensures.grows in
    let caught = subst (HaveSeenOf now.seen) c.catch_up.ensures.block c.in_ok-version.ensures.caught in
    let all = All-weaker (IsLookedAt own.seen looked) (IsBetween floor now.seen) (λ v h. looked-between own.seen now.seen looked floor v c.requires.held.number grows caught h) versions c.in_ok-versions.ensures.found in record {
      text = c.in_ok-text.text.items;
      goes_on = block-goes-on batch (HaveSeen own block) (HaveSeen now block_now) floor c.args.session.now c.texts_from.new.session line c.args.searches.now c.in_ok-text.text.items c.in_ok-version.version now.seen
          (seen-before-block own now block looked block_now grows c.look_each.ensures.seen c.catch_up.ensures.block) (λ log seen. seen.own_seen) c.in_ok-version.ensures.version (omega (arith, c.requires.held.number, prefix_length own.seen now.seen grows)) versions all (rw c.deref.ensures.value at c.in_ok-text.ensures);
      written_is = rw c.deref-2.ensures.value at (c.in_ok-write_all.ensures.whole before written);
    }

pub returns-in_err-versions-clause-stopped : goal.returns-in_err-versions-clause-stopped
returns-in_err-versions-clause-stopped g c = λ before written.
    let stops : (line batch : ℕ) → StopsBeside batch (HaveSeen c.args.searchers.now.own c.args.searchers.now.block.items) c.args.held.number c.args.session.now (block_at line c.args.searches.now ∷ []) (HaveSeen c.look_each.new.self.own c.look_each.new.self.block.items) before (g.K.Sink.written c.args.out.now) = λ line batch. stops-none batch _ _ _ _ _ before _ (λ log h. record { own_seen = subst (λ (o : SearcherState Game). IsPrefix o.seen log) c.look_each.ensures.own h.own_seen; block_seen = c.look_each.ensures.seen log h.block_seen }) written in
    after_error _ _ stops

pub returns-in_err-version-clause-stopped : goal.returns-in_err-version-clause-stopped
returns-in_err-version-clause-stopped g c = λ before written.
    let stops : (line batch : ℕ) → StopsBeside batch (HaveSeen c.args.searchers.now.own c.args.searchers.now.block.items) c.args.held.number c.args.session.now (block_at line c.args.searches.now ∷ []) (HaveSeen c.catch_up.new.self.own c.catch_up.new.self.block.items) before (g.K.Sink.written c.args.out.now) = λ line batch. stops-none batch _ _ _ _ _ before _ (seen-before-block _ _ _ _ _ (subst (λ (o : SearcherState Game). IsPrefix o.seen c.catch_up.new.self.own.seen) c.look_each.ensures.own c.catch_up.ensures.grows) c.look_each.ensures.seen c.catch_up.ensures.block) written in
    after_error _ _ stops

pub returns-in_err-text-clause-stopped : goal.returns-in_err-text-clause-stopped
returns-in_err-text-clause-stopped g c = λ before written.
    let stops : (line batch : ℕ) → StopsBeside batch (HaveSeen c.args.searchers.now.own c.args.searchers.now.block.items) c.args.held.number c.args.session.now (block_at line c.args.searches.now ∷ []) (HaveSeen c.catch_up.new.self.own c.catch_up.new.self.block.items) before (g.K.Sink.written c.args.out.now) = λ line batch. stops-none batch _ _ _ _ _ before _ (seen-before-block _ _ _ _ _ (subst (λ (o : SearcherState Game). IsPrefix o.seen c.catch_up.new.self.own.seen) c.look_each.ensures.own c.catch_up.ensures.grows) c.look_each.ensures.seen c.catch_up.ensures.block) written in
    after_error _ _ stops

pub returns-in_err-write_all-clause-stopped : goal.returns-in_err-write_all-clause-stopped
returns-in_err-write_all-clause-stopped g c = λ before written.
    let own = c.args.searchers.now.own in
    let block = c.args.searchers.now.block.items in
    let looked = c.look_each.new.self.block.items in
    let now = c.catch_up.new.self.own in
    let block_now = c.catch_up.new.self.block.items in
    let floor = c.args.held.number in
    let versions = c.in_ok-versions.versions.items in
    let text = c.in_ok-text.text.items in
    let grows = subst (λ (o : SearcherState Game). IsPrefix o.seen now.seen) c.look_each.ensures.own c.catch_up.ensures.grows in
    let caught = subst (HaveSeenOf now.seen) c.catch_up.ensures.block c.in_ok-version.ensures.caught in
    let all = All-weaker (IsLookedAt own.seen looked) (IsBetween floor now.seen) (λ v h. looked-between own.seen now.seen looked floor v c.requires.held.number grows caught h) versions c.in_ok-versions.ensures.found in
    let part = rw c.deref-2.ensures.value at (c.in_err-write_all.ensures.part before written) in
    let stops : (line batch : ℕ) → StopsBeside batch (HaveSeen own block) c.args.held.number c.args.session.now (block_at line c.args.searches.now ∷ []) (HaveSeen now block_now) before (g.K.Sink.written c.write_all.new.out) = λ line batch. stops-one batch (HaveSeen own block) (HaveSeen now block_now) floor c.in_ok-version.version.number c.args.session.now c.texts_from.new.session (block_at line c.args.searches.now) text part.0 before _
    (block-goes-on batch (HaveSeen own block) (HaveSeen now block_now) floor c.args.session.now c.texts_from.new.session line c.args.searches.now text c.in_ok-version.version now.seen
    (seen-before-block own now block looked block_now grows c.look_each.ensures.seen c.catch_up.ensures.block) (λ log seen. seen.own_seen) c.in_ok-version.ensures.version (omega (arith, c.requires.held.number, prefix_length own.seen now.seen grows)) versions all (rw c.deref.ensures.value at c.in_ok-text.ensures)) part.1 part.2 in
    after_error _ _ stops

pub returns-clause-fit : goal.returns-clause-fit
returns-clause-fit g c =
    let before = c.args.searchers.now.own.seen in
    let now = c.catch_up.new.self.own.seen in
    let grows = subst (λ (o : SearcherState Game). IsPrefix o.seen now) c.look_each.ensures.own c.catch_up.ensures.grows in
    block-fits (items_in now) _ _ c.args.session.now c.texts_from.new.session c.in_ok-text.text.items
    (fit-grown (items_in before) (items_in now) c.args.session.now (items-grown before now grows) c.requires.fit)
    (rw c.deref.ensures.value at c.in_ok-text.ensures)
