use Rattle.std.proofs.Common.{◌≡◌, ◌∙◌, [], ◌∷◌, All, ap, arith, length, length-append, map, refl, rules, subst, sym}
use Rattle.std.specs.Prelude.{string_bytes}
use Rattle.std.specs.Slice.Iter.{chunks_rest}
use Rattle.std.proofs.lemmas.Grind.{common_steps}
use Rattle.std.proofs.lemmas.List.{map-append, nil_from_length}
use Rattle.kb_edges.specs.Files.{HasFile}
use Rattle.kb_geometry.proofs.Lists.{All-before}
use Rattle.import_work.proofs.ReadFiles.{All_behind}
use Rattle.import_work.specs.declared.outcome.Counts.{Counts}
use Rattle.run_audit.specs.Importing.{FilesTo, ReadsBy}
use Rattle.run_audit.specs.Shown.{is_shown_unread}
use Rattle.run_audit.specs.Standing.{Kept}
use Rattle.run_audit.proofs.FileSteps.{batch-next, files-more, files-start}
use Rattle.run_audit.proofs.importing.import_names.Goals as goal

pub loop-chunk-init : goal.loop-chunk-init
loop-chunk-init g c =
    let all_left : chunks_rest c.into_iter-chunk-iterator.result ≡ c.args.names.now = ap chunks_rest c.into_iter-chunk-iterator.ensures.into_iter_gives ∙ c.chunks-chunk-items.ensures.rest in record {
      can_next = search rules;
      finite = tt;
      size = search rules;
      same = refl;
      later = omega arith;
      fits = c.requires.fits;
      number = omega (arith, ap length all_left);
      held = refl;
      told = first_of (search rules, grind (arith, common_steps));
      there = λ all told. subst (λ l. All (HasFile all c.args.path.now) (map string_bytes l)) (sym all_left) (c.requires.there all told);
      files = λ all told recorded shows.
          files-start all c.args.path.now c.args.batch c.requires.some (is_shown_unread recorded c.args.shown.now.line) (map string_bytes c.args.names.now) c.args.base.now _ _ (ap (map string_bytes) all_left) (first_of (search rules, grind (arith, common_steps)));
    }

pub segment_of-requires : goal.segment_of-requires
segment_of-requires g c = record {
  there = λ all told.
      All-before (HasFile all c.args.path.now) (map string_bytes c.in-Some.chunk.now) (map string_bytes (chunks_rest c.next.new.self))
      (subst (All (HasFile all c.args.path.now)) (ap (map string_bytes) c.in-Some.ensures.steps.1.0 ∙ map-append string_bytes c.in-Some.chunk.now (chunks_rest c.next.new.self)) (c.loop-chunk.invariant.there all (sym c.loop-chunk.invariant.same ∙ told)));
}

pub loop-chunk-preserved : goal.loop-chunk-preserved
loop-chunk-preserved g c =
    let h = c.loop-chunk.invariant in
    let steps = c.in-Some.ensures.steps in
    let next = batch-next string_bytes (chunks_rest c.loop-chunk.chunk-iterator) c.in-Some.chunk.now (chunks_rest c.next.new.self) _ c.args.batch steps.1.0 steps.1.1 steps.1.2 h.size c.requires.some in
    let added = c.in_ok-add.ensures.added in record {
      can_next = search rules;
      finite = tt;
      size = steps.0 ∙ h.size;
      same = c.segment_of.ensures.same ∙ h.same;
      later = omega (arith, h.later, c.segment_of.ensures.later);
      fits = c.in_ok-add.ensures.fits;
      number = omega (arith, h.number, ap (λ (k : Kept). k.held.number) added, ap (λ (k : Kept). length k.ahead) added, length-append c.loop-chunk.base.ahead (c.in_ok-segment.segment ∷ []), ap length steps.1.0, length-append c.in-Some.chunk.now (chunks_rest c.next.new.self), steps.1.1, steps.1.2, h.size, c.requires.some);
      held = ap (λ (k : Kept). k.held) added ∙ h.held;
      told = omega (arith, h.told, c.in_ok-segment.ensures.told, ap (λ (k : Counts). k.games) c.counts-counts.ensures, ap (λ (k : Kept). k.counts.games) added);
      there = λ all told.
          All_behind (HasFile all c.args.path.now) (map string_bytes c.in-Some.chunk.now) (map string_bytes (chunks_rest c.next.new.self)) (subst (All (HasFile all c.args.path.now)) next.cut (h.there all told));
      files = λ all told recorded shows.
          files-more all c.args.path.now c.args.batch c.requires.some (is_shown_unread recorded c.args.shown.now.line) (map string_bytes c.args.names.now) c.args.base.now _ _ _ c.loop-chunk.base c.add.new.self _ _ c.in_ok-segment.segment (h.files all told recorded shows)
          (subst (λ (k : Counts). ReadsBy all c.args.path.now (is_shown_unread recorded c.args.shown.now.line) (map string_bytes c.in-Some.chunk.now) c.loop-chunk.base.counts k c.loop-chunk.lines.items c.segment_of.new.lines.items c.in_ok-segment.segment)
          (sym (ap (λ (k : Kept). k.counts) added)) (rw c.counts-counts.ensures at c.in_ok-segment.ensures.read all (h.same ∙ told) recorded shows))
          next.cut next.some next.few next.full (ap (λ (k : Kept). k.ahead) added) (ap (λ (k : Kept). k.held) added) (ap (λ (k : Kept). k.waiting) added);
    }

pub returns-clause-imported : goal.returns-clause-imported
returns-clause-imported g c = λ all told recorded shows.
    subst (λ l. FilesTo all c.args.path.now c.args.batch (is_shown_unread recorded c.args.shown.now.line) (map string_bytes c.args.names.now) (map string_bytes l) c.args.base.now c.loop-chunk.base c.loop-chunk.lines.items)
    (nil_from_length (chunks_rest c.loop-chunk.chunk-iterator) c.in-None.ensures.steps.1.0) (c.loop-chunk.invariant.files all told recorded shows)
