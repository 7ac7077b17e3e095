use Rattle.std.proofs.Common.{◌≡◌, ◌<◌, arith, get_or, length}
use Rattle.std.proofs.lemmas.List.{get_or_default}
use Rattle.std.proofs.lemmas.Result.{IfOk-weaker}
use Rattle.node_position.specs.Games.{Game}
use Rattle.version_publisher.specs.declared.state.SearcherState.{SearcherState}
use Rattle.search_run.proofs.SeenLemmas.{looked-at, seen-less}
use Rattle.search_run.proofs.searchers.look_at.Goals as goal

pub returns-clause-version : goal.returns-clause-version
returns-clause-version c =
    let below : c.args.place < length c.args.block.now = omega (arith, c.if-place-block.false) in
    IfOk-weaker c.look_later.result _ _ (λ version is. looked-at c.args.own.now.seen c.args.block.now c.args.place c.look_later.new.searcher version below is) c.look_later.ensures.version

pub returns-clause-seen : goal.returns-clause-seen
returns-clause-seen c = λ log h.
    let block = c.args.block.now in
    let place = c.args.place in
    let d0 = c.index-block-place.result in
    let old = get_or block place d0 in
    let below : place < length block = omega (arith, c.if-place-block.false) in
    let is : (d : SearcherState Game) → get_or block place d ≡ old = λ d. get_or_default block place d d0 below in
    seen-less block place old c.look_later.new.searcher below is c.look_later.ensures.grows log h
