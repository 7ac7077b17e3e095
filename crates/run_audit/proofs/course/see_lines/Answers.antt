use Rattle.std.proofs.Common.{rules, tests, ◌≡◌, ◌∙◌, ◌<◌, List, [], ◌∷◌, ℕ, ap, false, map, subst, sym}
use Rattle.std.specs.Borrow.{Bor}
use Rattle.std.specs.Prelude.{IfSome, slice_index_or, ◌==◌}
use Rattle.std.proofs.lemmas.List.{map-append}
use Rattle.std.specs.Slice.Iter as slice
use Rattle.query_script.specs.Bytes.{line_feed}
use Rattle.run_audit.specs.Courses.{is_place, seen_after, seen_of}
use Rattle.run_audit.proofs.PieceSteps.{pieces-seen}
use Rattle.run_audit.proofs.SeenLines.{SeenTo, seen-more}
use Rattle.run_audit.proofs.course.see_lines.Goals as goal

pub loop-line-preserved : goal.loop-line-preserved
loop-line-preserved c =
    let before = map (λ (line : Bor (List ℕ)). line.now) c.loop-line.yielded in
    record {
      within = subst (λ (n : ℕ). IfSome c.in_ok-telling.telling (λ at. at < n)) c.loop-line.invariant.so_far.counted c.in_ok-telling.ensures.within;
      so_far = subst (SeenTo c.args.shown.now c.see_line.new.shown c.in_ok-telling.telling) (sym (map-append (λ (line : Bor (List ℕ)). line.now) c.loop-line.yielded (c.in-Some.line ∷ [])))
          (seen-more c.args.shown.now c.loop-line.shown c.see_line.new.shown c.loop-line.telling c.in_ok-telling.telling before c.in-Some.line.now c.loop-line.invariant.so_far c.see_line.ensures.counted c.see_line.ensures.lines c.in_ok-telling.ensures.seen);
    }

pub returns-clause-seen : goal.returns-clause-seen
returns-clause-seen c = λ ascending numbered at d below.
    let made = c.into_iter-line-iterator.ensures.into_iter_gives in
    let all = pieces-seen _ _ _ (λ (b : ℕ). b == line_feed) c.args.recorded.now c.loop-line.yielded c.loop-line.yielded_by c.next.result c.in-None.is c.next.ensures.steps
    (rw made c.split-line-items.ensures.rest) (rw made c.split-line-items.ensures.done) (ap slice.split_callee made ∙ c.split-line-items.ensures.closure) (λ x r q k. search (rules, tests)) in (
      is_place c.loop-line.telling at,
      subst (λ (lines : List (List ℕ)). seen_of (slice_index_or c.loop-line.shown at d) (is_place c.loop-line.telling at) ≡ seen_after (slice_index_or c.args.shown.now at d).line (seen_of (slice_index_or c.args.shown.now at d) false) lines)
          all (c.loop-line.invariant.so_far.seen ascending numbered at d below),
    )
