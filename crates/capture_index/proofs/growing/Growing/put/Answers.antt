use Rattle.std.proofs.Common.{ℕ, ◌≤◌, length, sym, ◌∙◌, ap, arith}
use Rattle.std.proofs.lemmas.List.Elements.{All-weaker}
use Rattle.capture_board.proofs.Cells.{same_cell}
use Rattle.std.proofs.lemmas.List.{length-map}
use Rattle.capture_index.specs.Links.{runs_from}
use Rattle.capture_index.proofs.Made.{number-read, put-same, put-more}
use Rattle.capture_index.proofs.growing.Growing.put.Goals as goal

pub returns-then-eq-clause-made : goal.returns-then-eq-clause-made
returns-then-eq-clause-made c =
    put-same c.args.node c.args.cell c.args.point c.self.inside.links.items c.self.inside.last.items c.self.invariant c.args.self.now c.self.view_is c.requires.begun c.requires.in_range c.index.result.now (number-read c.self.inside.last.items c.from.result c.args.point _ c.from.ensures (omega (arith, c.requires.in_range, length-map c.self.inside.last.items (runs_from c.self.inside.links.items), ap length c.self.view_is)) c.index.ensures) c.passed-at.result c.passed-at.ensures.past c.passed-at.ensures.begun
    c.from-then-eq.result c.from-then-eq.ensures c.cell_from.result c.cell_from.ensures (same_cell c.cell_from.result c.args.cell (sym c.eq.ensures ∙ c.if-eq.true))

pub invariant_of-self-in_err-next : goal.invariant_of-self-in_err-next
invariant_of-self-in_err-next c = record {
  back = c.push_link.ensures.linked;
  within = All-weaker (λ (at : ℕ). at ≤ length c.self.inside.links.items) (λ (at : ℕ). at ≤ length c.push_link.new.links.items) (λ at h. omega (arith, c.push_link.ensures.more)) c.self.inside.last.items c.self.invariant.within;
}

pub returns-clause-made : goal.returns-clause-made
returns-clause-made c =
    put-more c.args.node c.args.cell c.args.point c.self.inside.links.items c.self.inside.last.items c.self.invariant c.args.self.now c.self.view_is c.requires.begun c.requires.in_range c.index.result.now (number-read c.self.inside.last.items c.from.result c.args.point _ c.from.ensures (omega (arith, c.requires.in_range, length-map c.self.inside.last.items (runs_from c.self.inside.links.items), ap length c.self.view_is)) c.index.ensures) c.passed-at.result c.passed-at.ensures.past c.passed-at.ensures.begun
    c.push_link.new.links.items c.from-2.result c.in_ok-next.next c.from-2.ensures c.push_link.ensures.kept c.in_ok-next.ensures.runs
