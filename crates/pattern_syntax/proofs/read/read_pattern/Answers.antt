-- What was read so far has no fault, so what stands in the way is the first one, and what was read to the end is spelled.
use Rattle.std.proofs.Common.{◌≡◌, ◌+◌, ◌<◌, ◌++◌, ℕ, Ok, inl, List, length, get_or, sym, ap, ◌∙◌, subst, arith}
use Rattle.std.specs.Option.{option_to_list}
use Rattle.std.proofs.lemmas.List.{map-id}
use Rattle.std.proofs.lemmas.Iterator.Adapters.{fact_from_extend, YieldsList-from_once}
use Rattle.pattern_images.specs.declared.cell.PatternCell.{PatternCell}
use Rattle.pattern_images.specs.Pattern.{grid_of}
use Rattle.pattern_syntax.specs.Faults.{HasPatternFault, IsFirstPatternFault}
use Rattle.pattern_syntax.specs.Reading.{IsPatternReadTo}
use Rattle.pattern_syntax.proofs.ReadTo.{first_fault, fault_at_end, spells-size, spells-made, answered}
use Rattle.pattern_syntax.proofs.read.read_pattern.Goals as goal

pub returns-in_default-clause-fault : goal.returns-in_default-clause-fault
returns-in_default-clause-fault c = λ f is.
    let lt : c.loop-at.at < length c.args.text.now = omega (arith, c.as_bytes-byte-items.ensures.len) in
    let byte : get_or c.args.text.now c.loop-at.at 0 ≡ get_or c.as_bytes-byte-items.result.now c.loop-at.at 0 = ap (λ text. get_or text c.loop-at.at 0) (sym c.as_bytes-byte-items.ensures.value) in
    let fault : HasPatternFault c.args.text.now c.loop-at.at = c.in_default.ensures c.args.text.now c.loop-at.at c.loop-at.cells.items c.loop-at.invariant lt byte in
    answered c.args.text.now c.loop-at.at f (first_fault c.args.text.now c.loop-at.at c.loop-at.progress c.loop-at.cells.items c.loop-at.invariant fault) is

pub loop-at-preserved : goal.loop-at-preserved
loop-at-preserved c =
    let lt : c.loop-at.at < length c.args.text.now = omega (arith, c.as_bytes-byte-items.ensures.len) in
    let byte : get_or c.args.text.now c.loop-at.at 0 ≡ get_or c.as_bytes-byte-items.result.now c.loop-at.at 0 = ap (λ text. get_or text c.loop-at.at 0) (sym c.as_bytes-byte-items.ensures.value) in
    let more : IsPatternReadTo c.args.text.now (c.loop-at.at + 1) c.in-Some.step.next (c.loop-at.cells.items ++ option_to_list c.in-Some.step.cell) =
    c.in-Some.ensures c.args.text.now c.loop-at.at c.loop-at.cells.items c.loop-at.invariant lt byte in
    let cells : c.extend.new.self.items ≡ c.loop-at.cells.items ++ option_to_list c.in-Some.step.cell =
    fact_from_extend {E = ℕ} (λ x. x) (Ok c.in_ok-extend.field-0) c.in_ok-extend.ensures.ran (λ it b. YieldsList-from_once c.in-Some.step.cell b.0)
    (λ xs e h. h.0 ∙ ap (λ l. c.loop-at.cells.items ++ l) (sym (map-id xs) ∙ e)) in
    subst (λ (l : List PatternCell). IsPatternReadTo c.args.text.now (c.loop-at.at + 1) c.in-Some.step.next l) (sym cells) more

pub returns-in_default-size-clause-fault : goal.returns-in_default-size-clause-fault
returns-in_default-size-clause-fault c = λ f is.
    let end : c.loop-at.at ≡ length c.args.text.now = omega (arith, c.as_bytes-byte-items.ensures.len, c.loop-at.invariant.rows.within) in
    let fault : HasPatternFault c.args.text.now c.loop-at.at = fault_at_end c.args.text.now c.loop-at.at c.loop-at.progress c.loop-at.cells.items c.loop-at.invariant (inl end) c.in_default-size.ensures in
    answered c.args.text.now (length c.args.text.now) f (subst (IsFirstPatternFault c.args.text.now) end (first_fault c.args.text.now c.loop-at.at c.loop-at.progress c.loop-at.cells.items c.loop-at.invariant fault)) is

pub returns-clause-ok : goal.returns-clause-ok
returns-clause-ok c =
    let end : c.loop-at.at ≡ length c.args.text.now = omega (arith, c.as_bytes-byte-items.ensures.len, c.loop-at.invariant.rows.within) in
    let spells = spells-size c.args.text.now c.loop-at.at c.loop-at.progress c.loop-at.cells.items c.loop-at.invariant c.in-Some-size.size c.in-Some-size.ensures end in
    spells-made c.args.text.now (grid_of c.in-Some-new.pattern) c.cols.result c.rows.result c.in-Some-size.size c.loop-at.cells.items spells c.cols.ensures.value c.rows.ensures.value c.in-Some-new.ensures.made
