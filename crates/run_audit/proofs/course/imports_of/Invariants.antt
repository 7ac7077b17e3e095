use Rattle.std.proofs.Common.{◌≡◌, All, false, map, take}
use Rattle.run_audit.specs.Courses.{AreNumbered, import_lines, nothing_seen, seen_of}
use Rattle.run_audit.specs.declared.course.ShownImport.{ShownImport}
use Rattle.run_audit.proofs.course.imports_of.Given as goal

-- the imports among the statements so far are listed, and nothing is seen of them
abbrev pub invariant-loop-p : goal.invariant-loop-p
invariant-loop-p l = record {
  lines : map (λ (s : ShownImport). s.line) l.shown.items ≡ import_lines (take l.p-index l.placed);
  nothing : All (λ (s : ShownImport). seen_of s false ≡ nothing_seen) l.shown.items;
  numbered : AreNumbered l.shown.items;
}
