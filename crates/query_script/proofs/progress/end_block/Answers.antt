use Rattle.std.proofs.Common.{◌≡◌, ◌≤◌, length, subst, arith}
use Rattle.std.proofs.lemmas.Bool.Decides.{nat_tests}
use Rattle.std.proofs.lemmas.List.{nil_from_length}
use Rattle.query_script.specs.Script.{IsLeastBadLine}
use Rattle.query_script.proofs.Errors.{same_bad_line}
use Rattle.query_script.proofs.ReadInside.{end_inside, end_too_early}
use Rattle.query_script.proofs.progress.end_block.Goals as goal

pub returns-then-is_empty-clause-bad_line : goal.returns-then-is_empty-clause-bad_line
returns-then-is_empty-clause-bad_line c = λ k is lines h at.
    let none : length c.args.block.searches.items ≡ 0 = grind (arith, nat_tests) in
    subst (IsLeastBadLine lines) (same_bad_line is) (end_too_early lines c.args.number c.args.placed.now.items c.args.block.line c.args.block.searches.items h (nil_from_length c.args.block.searches.items none) at)

pub returns-clause-read : goal.returns-clause-read
returns-clause-read c = λ lines h at.
    let some : 1 ≤ length c.args.block.searches.items = grind (arith, nat_tests) in
    rw (c.in_ok-push.ensures.items, c.new.ensures) (end_inside lines c.args.number c.args.placed.now.items c.args.block.line c.args.block.searches.items h some at)
