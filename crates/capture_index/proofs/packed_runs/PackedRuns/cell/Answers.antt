use Rattle.std.proofs.Common.{ℕ, List, ◌+◌, ◌≡◌, ◌∷◌, [], ◌∙◌, ap, arith, sym}
use Rattle.capture_index.specs.declared.run.Run.{Run}
use Rattle.capture_index.specs.declared.time.Time.TheVariants as time
use Rattle.capture_index.specs.Finding.{packed_cell}
use Rattle.capture_index.specs.Runs.{cell_by}
use Rattle.capture_index.specs.Times.{told_by}
use Rattle.capture_index.proofs.Narrowing.{cells-told, list-there}
use Rattle.capture_index.proofs.packed_runs.PackedRuns.cell.Goals as goal

pub list-requires : goal.list-requires
list-requires c = list-there c.args.self.now (0 + c.args.point) c.in-Many.list c.time_of.result c.time_of.ensures (omega (arith, c.requires)) (sym c.in-Many.is ∙ c.unpack.ensures)

pub returns-in-First : goal.returns-in-First
returns-in-First c =
    let p : 0 + c.args.point ≡ c.args.point = omega arith in
    let is = sym c.in-First.is ∙ c.unpack.ensures ∙ ap told_by c.time_of.ensures in
    c.cell_at.ensures ∙ ap (λ (r : Run). cell_by (r ∷ []) c.args.node) c.run_of.ensures ∙ cells-told c.args.self.now (0 + c.args.point) (time.First c.in-First.first c.in-First.stone) is c.args.node
    ∙ ap (λ (j : ℕ). packed_cell c.args.self.now j c.args.node) p

pub returns-in-Many : goal.returns-in-Many
returns-in-Many c =
    let p : 0 + c.args.point ≡ c.args.point = omega arith in
    let is = sym c.in-Many.is ∙ c.unpack.ensures ∙ ap told_by c.time_of.ensures in
    c.cell_at-in-Many.ensures ∙ ap (λ (rs : List Run). cell_by rs c.args.node) c.list.ensures ∙ cells-told c.args.self.now (0 + c.args.point) (time.Many c.in-Many.list) is c.args.node
    ∙ ap (λ (j : ℕ). packed_cell c.args.self.now j c.args.node) p

pub returns-in-Never : goal.returns-in-Never
returns-in-Never c =
    let p : 0 + c.args.point ≡ c.args.point = omega arith in
    let is = sym c.in-Never.is ∙ c.unpack.ensures ∙ ap told_by c.time_of.ensures in
    cells-told c.args.self.now (0 + c.args.point) time.Never is c.args.node ∙ ap (λ (j : ℕ). packed_cell c.args.self.now j c.args.node) p
