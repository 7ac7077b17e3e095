use Rattle.std.proofs.Common.{◌≡◌, ◌∙◌, ◌++◌, refl, ap, arith, length, rules}
use Rattle.std.specs.Slice.Iter.{chunks_rest}
use Rattle.import_work.specs.Log.{games_of_segments}
use Rattle.import_work.specs.Reads.{file_texts}
use Rattle.import_work.proofs.Turns.{first_files-all, more_files-few}
use Rattle.import_work.proofs.WaitingFiles.{HaveTexts-start, waiting-few, waiting-judged, waiting-more}
use Rattle.import_work.proofs.batch.import_names.Goals as goal

pub loop-chunk-init : goal.loop-chunk-init
loop-chunk-init g c = record {
  can_next = search rules;
  finite = tt;
  same = refl;
  later = omega arith;
  files = HaveTexts-start _ c.args.path.now c.args.names.now _ c.args.before _ _ _ _ (ap chunks_rest c.into_iter-chunk-iterator.ensures.into_iter_gives ∙ c.chunks-chunk-items.ensures.rest) (ap games_of_segments c.new-segments.ensures.items) (ap file_texts c.new-waiting.ensures.items);
}

pub judge_all-requires : goal.judge_all-requires
judge_all-requires g c = c.in_ok-pieces.ensures.found.games

pub in_one-requires : goal.in_one-requires
in_one-requires g c = waiting-few _ c.args.path.now _ _ _ _ _ _ _ _ _ _ c.loop-chunk.invariant.files _ _ _ (c.in_ok-parts.ensures _ c.in_ok-pieces.ensures.found.files)

pub loop-chunk-preserved : goal.loop-chunk-preserved
loop-chunk-preserved g c =
    let steps = c.in-Some.ensures.steps in
    let pushed = c.in_ok-push_games.ensures ∙ ap (λ gs. games_of_segments c.loop-chunk.segments.items ++ gs) c.in_ok-in_one.ensures in
    record {
      can_next = search rules;
      finite = tt;
      same = c.find_and_read.ensures.same ∙ c.loop-chunk.invariant.same;
      later = omega (arith, c.loop-chunk.invariant.later, c.find_and_read.ensures.later);
      files = waiting-more _ _ c.args.path.now c.args.names.now _ c.in-Some.chunk.now (chunks_rest c.next.new.self) c.args.before _ _ _ _ _ _ _ _ c.loop-chunk.invariant.same steps.1.0
          (waiting-judged _ c.args.path.now _ _ _ _ _ _ _ _ _ _ c.loop-chunk.invariant.files _ _ _ (c.in_ok-parts.ensures _ c.in_ok-pieces.ensures.found.files) _ pushed)
          c.in_ok-pieces.ensures.named c.in_ok-pieces.ensures.read;
    }

pub judge_all-requires-2 : goal.judge_all-requires-2
judge_all-requires-2 g c = c.in_ok-pieces-2.ensures.games

pub in_one-requires-2 : goal.in_one-requires-2
in_one-requires-2 g c = waiting-few _ c.args.path.now _ _ _ _ _ _ _ _ _ _ c.loop-chunk.invariant.files _ _ _ (c.in_ok-parts-2.ensures _ c.in_ok-pieces-2.ensures.files)

pub in_one-requires-3 : goal.in_one-requires-3
in_one-requires-3 g c =
    let none : length (chunks_rest c.loop-chunk.chunk-iterator) ≡ 0 = c.in-None.ensures.steps.1.0 in
    let pushed = c.in_ok-push_games-2.ensures ∙ ap (λ gs. games_of_segments c.loop-chunk.segments.items ++ gs) c.in_ok-in_one-2.ensures in
    more_files-few _ _ _ _ _ _ _ _ _ _ (first_files-all _ _ c.args.names.now _ _ _ _ _ _ _ _ none
    (waiting-judged _ c.args.path.now _ _ _ _ _ _ _ _ _ _ c.loop-chunk.invariant.files _ _ _ (c.in_ok-parts-2.ensures _ c.in_ok-pieces-2.ensures.files) _ pushed))

pub returns-clause-imported : goal.returns-clause-imported
returns-clause-imported g c =
    let none : length (chunks_rest c.loop-chunk.chunk-iterator) ≡ 0 = c.in-None.ensures.steps.1.0 in
    let pushed = c.in_ok-push_games-2.ensures ∙ ap (λ gs. games_of_segments c.loop-chunk.segments.items ++ gs) c.in_ok-in_one-2.ensures in
    rw (← c.in_ok-segment.ensures) at (first_files-all _ _ c.args.names.now _ _ _ _ _ _ _ _ none
    (waiting-judged _ c.args.path.now _ _ _ _ _ _ _ _ _ _ c.loop-chunk.invariant.files _ _ _ (c.in_ok-parts-2.ensures _ c.in_ok-pieces-2.ensures.files) _ pushed))
