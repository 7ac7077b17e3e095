use Rattle.std.proofs.Common.{◌∷◌, [], ap, arith, length, length-append}
use Rattle.std.proofs.lemmas.List.Elements.{All-nil, All-push, All-weaker}
use Rattle.search_run.specs.Seen.{IsLookedAt}
use Rattle.search_run.proofs.SeenLemmas.{looked-later}
use Rattle.search_run.proofs.searchers.look_each.Goals as goal

pub loop-place-init : goal.loop-place-init
loop-place-init c = record {
  count = ap length c.new-versions.ensures.items;
  opened = c.requires.opened;
  seen = λ log h. h;
  found = rw c.new-versions.ensures.items (All-nil (IsLookedAt c.args.own.now.seen c.args.block.now));
}

pub returns-in_err-version-clause-seen : goal.returns-in_err-version-clause-seen
returns-in_err-version-clause-seen c = λ log h. c.loop-place.invariant.seen log (c.look_at.ensures.seen log h)

pub returns-in_err-push-clause-seen : goal.returns-in_err-push-clause-seen
returns-in_err-push-clause-seen c = λ log h. c.loop-place.invariant.seen log (c.look_at.ensures.seen log h)

pub loop-place-preserved : goal.loop-place-preserved
loop-place-preserved c =
    let h = c.loop-place.invariant in
    let own = c.args.own.now.seen in
    let now = c.look_at.new.block in
    let version = c.in_ok-version.version in record {
      count = rw c.in_ok-push.ensures.items (omega (arith, length-append c.loop-place.versions.items (version ∷ []), h.count));
      opened = c.look_at.ensures.same;
      seen = λ log seen. h.seen log (c.look_at.ensures.seen log seen);
      found = rw c.in_ok-push.ensures.items (All-push (IsLookedAt own now) c.loop-place.versions.items version
          (All-weaker (IsLookedAt own c.loop-place.block) (IsLookedAt own now) (λ v looked. looked-later own c.loop-place.block now v c.look_at.ensures.seen looked) c.loop-place.versions.items h.found)
          c.in_ok-version.ensures.version);
    }

pub returns-clause-seen : goal.returns-clause-seen
returns-clause-seen c = c.loop-place.invariant.seen
