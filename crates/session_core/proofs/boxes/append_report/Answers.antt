use Rattle.std.proofs.Common.{◌++◌, ◌∙◌, ℕ, ap, arith, length, map, sym}
use Rattle.std.proofs.lemmas.List.{length-map, take_all}
use Rattle.std.specs.List.{flat_map}
use Rattle.hit_collectors.specs.Reports.{report_line}
use Rattle.query_script.specs.Texts.{report_head}
use Rattle.session_core.proofs.boxes.append_report.Goals as goal

pub returns-clause-ok : goal.returns-clause-ok
returns-clause-ok g c =
    let boxes = c.args.boxes.now in
    let out = c.args.out.now.items in
    c.loop-collector.invariant
    ∙ ap (λ bs. out ++ (report_head c.args.line (length boxes) ++ flat_map report_line (map (λ b. g.C.Collector.tally b) bs))) (take_all c.loop-collector.collector-index boxes (omega arith))
    ∙ ap (λ (n : ℕ). out ++ (report_head c.args.line n ++ flat_map report_line (map (λ b. g.C.Collector.tally b) boxes))) (sym (length-map boxes (λ b. g.C.Collector.tally b)))
