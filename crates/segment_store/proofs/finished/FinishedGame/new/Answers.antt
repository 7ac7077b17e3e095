use Rattle.std.proofs.Common.{ap, subst, ◌∙◌}
use Rattle.kb_geometry.specs.declared.shape.Shape.{Shape}
use Rattle.game_tree.specs.Result.{outcome_of}
use Rattle.info_filter.specs.Day.{IsDayOf}
use Rattle.dyer_signature.specs.Images.{IsCanonicalForm}
use Rattle.dyer_signature.specs.Signatures.{IsSignatureOn}
use Rattle.segment_store.specs.Finished.{IsOfItsTree}
use Rattle.segment_store.proofs.OneTree.{AreIndexesOf-changes}
use Rattle.segment_store.proofs.finished.FinishedGame.new.Goals as goal

pub invariant_of-result : goal.invariant_of-result
invariant_of-result c =
    let kept = c.in_ok-indexes.indexes in
    let form = c.canonical-canonical.result.bytes in
    let own : IsOfItsTree c.args.tree c.args.deltas c.day_of-day.result c.outcome-outcome.result form = record {
      is_tree = c.shape.ensures.tree;
      are_changes = c.requires;
      is_day = subst (λ date. IsDayOf date c.day_of-day.result) (c.date.ensures ∙ ap (λ i. i.date) c.info.ensures) c.day_of-day.ensures;
      is_outcome = c.outcome-outcome.ensures ∙ ap (λ i. outcome_of i.outcome_text) c.info-2.ensures;
      is_canonical = record {
        signature = c.signature.result.bytes;
        of_tree = c.signature.ensures.value;
        canonical = subst (λ (s : Shape). IsCanonicalForm s c.signature.result.bytes form) c.shape.ensures.value c.canonical-canonical.ensures.least;
        on_board = subst (λ (s : Shape). IsSignatureOn s form) c.shape.ensures.value c.canonical-canonical.ensures.on_board;
      };
    } in (
      own,
      AreIndexesOf-changes c.args.tree c.args.deltas c.shape.ensures.tree c.requires kept.ever kept.runs kept.corners c.in_ok-indexes.ensures.sets c.in_ok-indexes.ensures.runs c.in_ok-indexes.ensures.corners,
    )
