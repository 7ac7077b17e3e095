use Rattle.std.proofs.Common.{◌≡◌, ◌++◌, length, map, take}
use Rattle.std.specs.List.{flat_map}
use Rattle.hit_collectors.specs.Reports.{report_line}
use Rattle.query_script.specs.Texts.{report_head}
use Rattle.session_core.proofs.boxes.append_report.Given as goal

abbrev pub invariant-loop-collector : goal.invariant-loop-collector
invariant-loop-collector g l =
    l.out.items ≡ l.fn.out.items ++ (report_head l.line (length l.boxes) ++ flat_map report_line (map (λ b. g.C.Collector.tally b) (take l.collector-index l.boxes)))
