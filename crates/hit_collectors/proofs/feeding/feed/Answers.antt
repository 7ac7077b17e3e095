use Rattle.std.proofs.Common.{refl, arith}
use Rattle.hit_collectors.proofs.FedBoxes.{all_fed, fed_later, fed_next, fed_no_hits, refused_at, refused_box}
use Rattle.hit_collectors.proofs.feeding.feed.Goals as goal

pub loop-i-init : goal.loop-i-init
loop-i-init g c = record { told = refl; later = refl; no_hits = λ none. refl }

pub returns-in_err-feed_box-clause-refused : goal.returns-in_err-feed_box-clause-refused
returns-in_err-feed_box-clause-refused g c =
    refused_box (λ b. g.C.Collector.tally b) c.args.hits.now c.args.boards.now c.loop-i.boards c.loop-i.i c.index-boards-i.result
    c.loop-i-test.true c.loop-i.auto.boards c.loop-i.invariant.told c.from_residual.result c.feed_box.new.collector c.in_err-feed_box.ensures.refused

pub returns-in_err-feed_box-clause-later : goal.returns-in_err-feed_box-clause-later
returns-in_err-feed_box-clause-later g c =
    refused_at (λ b. g.C.Collector.tally b) c.args.hits.now c.args.boards.now c.loop-i.boards c.loop-i.i c.index-boards-i.result
    c.loop-i-test.true c.loop-i.auto.boards c.loop-i.invariant.told c.loop-i.invariant.later c.from_residual.result c.feed_box.new.collector c.in_err-feed_box.ensures.refused

pub returns-in_err-feed_box-clause-no_hits : goal.returns-in_err-feed_box-clause-no_hits
returns-in_err-feed_box-clause-no_hits g c = λ none.
    fed_no_hits c.args.boards.now c.loop-i.boards c.loop-i.i c.index-boards-i.result (c.loop-i.invariant.no_hits none) c.feed_box.new.collector (c.feed_box.ensures.no_hits none)

pub loop-i-preserved : goal.loop-i-preserved
loop-i-preserved g c = record {
  told =
      fed_next (λ b. g.C.Collector.tally b) c.args.hits.now c.args.boards.now c.loop-i.boards c.loop-i.i c.index-boards-i.result
      c.loop-i-test.true c.loop-i.auto.boards c.loop-i.invariant.told c.feed_box.new.collector c.in_ok-feed_box.ensures.ok;
  later = fed_later c.args.boards.now c.loop-i.boards c.loop-i.i c.feed_box.new.collector c.loop-i.invariant.later;
  no_hits = λ none.
      fed_no_hits c.args.boards.now c.loop-i.boards c.loop-i.i c.index-boards-i.result (c.loop-i.invariant.no_hits none) c.feed_box.new.collector (c.in_ok-feed_box.ensures.no_hits none);
}

pub returns-clause-ok : goal.returns-clause-ok
returns-clause-ok g c =
    all_fed (λ b. g.C.Collector.tally b) c.args.hits.now c.args.boards.now c.loop-i.boards c.loop-i.i (omega (arith, c.loop-i-test.false, c.loop-i.auto.boards)) c.loop-i.invariant.told
