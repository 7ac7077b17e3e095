use Rattle.std.proofs.Common.{refl, subst, arith}
use Rattle.std.proofs.lemmas.List.{take_all}
use Rattle.std.proofs.lemmas.List.Elements.{All-more}
use Rattle.pattern_images.specs.ImageList.{placement_at}
use Rattle.continuation_table.specs.Descending.{AllowsChange, AreAllowed}
use Rattle.continuation_table.proofs.changes.are_allowed.Goals as goal

pub loop-change-preserved : goal.loop-change-preserved
loop-change-preserved c =
    All-more (AllowsChange c.args.images.now.shape (placement_at c.args.images.now.placements c.args.i)) c.args.changes.now
    c.loop-change.change-index _ c.loop-change-test.true c.loop-change.invariant (c.allows_change.ensures.0 c.if-not-allows_change.false)

pub returns : goal.returns
returns c =
    let whole = take_all c.loop-change.change-index c.args.changes.now (omega (arith, c.loop-change-test.false)) in (
      λ t. subst (AreAllowed c.args.images.now.shape (placement_at c.args.images.now.placements c.args.i)) whole
          c.loop-change.invariant,
      λ b. refl,
    )
