use Rattle.std.proofs.Common.{◌≡◌, ◌+◌, ℕ, length, slice_index_or, subst, arith}
use Rattle.std.proofs.lemmas.List.{get_or_default}
use Rattle.pattern_images.specs.declared.cell.PatternCell.{PatternCell}
use Rattle.pattern_images.specs.declared.cell.PatternCell.TheVariants as cell
use Rattle.candidate_sieve.specs.Noting.{AreNoted, AsksOn}
use Rattle.candidate_sieve.proofs.NotedPoints.{AsksBelow, noted-more, noted-start}
use Rattle.candidate_sieve.proofs.asked.AskedPoints.add_row.Goals as goal

pub loop-cell-init : goal.loop-cell-init
loop-cell-init c = record {
  at = omega arith;
  noted = noted-start (λ k. AsksOn (slice_index_or c.args.cells.now k cell.Any) (c.args.start + k)) c.args.self.now;
}

pub add_cell-requires : goal.add_cell-requires
add_cell-requires c = omega (arith, c.requires, c.loop-cell.invariant.at, c.loop-cell-test.true)

pub loop-cell-preserved : goal.loop-cell-preserved
loop-cell-preserved c =
    let i = c.loop-cell.cell-index in
    record {
      at = omega (arith, c.loop-cell.invariant.at);
      noted = noted-more (λ k. AsksOn (slice_index_or c.args.cells.now k cell.Any) (c.args.start + k)) c.args.self.now c.loop-cell.self c.add_cell.new.self i c.loop-cell.invariant.noted
          (subst (λ (p : ℕ). AreNoted c.loop-cell.self (AsksOn (slice_index_or c.args.cells.now i cell.Any) p) c.add_cell.new.self) c.loop-cell.invariant.at
          (subst (λ (d : PatternCell). AreNoted c.loop-cell.self (AsksOn d c.loop-cell.point) c.add_cell.new.self) (get_or_default c.args.cells.now i cell.Empty cell.Any c.loop-cell-test.true) c.add_cell.ensures));
    }

pub returns : goal.returns
returns c =
    let all : c.loop-cell.cell-index ≡ length c.args.cells.now = omega (arith, c.loop-cell-test.false, c.loop-cell.auto.cell-index-end) in
    subst (λ (n : ℕ). AreNoted c.args.self.now (AsksBelow (λ k. AsksOn (slice_index_or c.args.cells.now k cell.Any) (c.args.start + k)) n) c.loop-cell.self) all c.loop-cell.invariant.noted
