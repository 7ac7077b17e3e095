use Rattle.std.proofs.Common.{◌≡◌, ◌<◌, length, sym, ap, ◌∙◌, subst, arith}
use Rattle.std.proofs.lemmas.List.{get_or_default, length-set}
use Rattle.final_index.specs.declared.spans.Spans.{Spans}
use Rattle.final_index.specs.Spans.{IsBackAt, below_at}
use Rattle.final_index.proofs.NotedSpans.{back-left, back-over, rest-over}
use Rattle.final_index.proofs.spans.Spans.go_back.Goals as goal
use Rattle.final_index.proofs.spans.Spans.go_back.Goals.{else-index-above, then-index-above}

pub loop-p-preserved : goal.loop-p-preserved
loop-p-preserved c =
    let old = c.args.self.now in
    let mid = c.loop-p.self in
    let so_far = c.loop-p.invariant in
    let inside : c.loop-p.p < length old.empty_below.items = omega (arith, c.loop-p-test.true, c.len-p-end.ensures) in
    let within : c.loop-p.p < length mid.empty_below.items = omega (arith, inside, so_far.count) in
    elim c.if-index-above.branch [
      | then-index-above w ↦ record {
        from = ap (λ (s : Spans). s.stone_from.items) w.self-is ∙ so_far.from;
        count = ap (λ (s : Spans). length s.empty_below.items) w.self-is ∙ length-set mid.empty_below.items c.loop-p.p c.args.end ∙ so_far.count;
        back = λ q lt. subst (λ (s : Spans). IsBackAt c.args.parent c.args.n c.args.end (below_at old q) (below_at s q)) (sym w.self-is)
            (back-over c.args.parent c.args.n c.args.end c.in-Some.above c.loop-p.p c.in-Some.is old mid inside so_far.count c.requires.recent so_far.back so_far.rest q lt);
        rest = λ q le. ap (λ (s : Spans). below_at s q) w.self-is
            ∙ rest-over c.args.parent c.args.n c.args.end c.in-Some.above c.loop-p.p c.in-Some.is old mid inside so_far.count c.requires.recent so_far.back so_far.rest q le;
      }
      | else-index-above w ↦
          let is : c.index.result.now ≡ below_at mid c.loop-p.p = c.index.ensures ∙ get_or_default mid.empty_below.items c.loop-p.p _ 0 within in
          record {
            from = ap (λ (s : Spans). s.stone_from.items) w.self-is ∙ so_far.from;
            count = ap (λ (s : Spans). length s.empty_below.items) w.self-is ∙ so_far.count;
            back = λ q lt. subst (λ (s : Spans). IsBackAt c.args.parent c.args.n c.args.end (below_at old q) (below_at s q)) (sym w.self-is)
                (back-left c.args.parent c.args.n c.args.end c.in-Some.above c.loop-p.p c.in-Some.is old mid inside so_far.count c.requires.recent so_far.back so_far.rest (omega (arith, w.if-index-above.false, is)) q lt);
            rest = λ q le. ap (λ (s : Spans). below_at s q) w.self-is ∙ so_far.rest q (omega (arith, le));
          }
    ]
