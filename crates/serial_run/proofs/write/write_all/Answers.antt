use Rattle.std.proofs.Common.{◌++◌, Some, ap, arith, append_assoc, drop, sym, take, ◌∙◌}
use Rattle.std.proofs.lemmas.List.{take-append-drop, take_rest}
use Rattle.serial_run.proofs.write.write_all.Goals as goal

pub loop-rest-preserved : goal.loop-rest-preserved
loop-rest-preserved g c = record {
  later = omega (arith, c.loop-rest.invariant.later, c.in_ok-count.ensures.later);
  so_far = λ before told.
      let h = c.loop-rest.invariant.so_far before told in
      let rest = c.loop-rest.rest.now in
      let n = c.in_ok-count.count in (
        h.0 ++ take n rest,
        rw take_rest (h.1 ∙ ap (λ xs. h.0 ++ xs) (sym (take-append-drop n rest)) ∙ sym (append_assoc h.0 (take n rest) (drop n rest))),
        c.in_ok-count.ensures.appended (before ++ h.0) h.2 ∙ ap Some (append_assoc before h.0 (take n rest)),
      );
}
