use Rattle.std.proofs.Common.{List, ◌+◌, ◌∷◌, [], ◌∙◌, ap, arith, sym}
use Rattle.capture_index.specs.declared.run.Run.{Run}
use Rattle.capture_index.specs.declared.time.Time.TheVariants as time
use Rattle.capture_index.specs.Finding.{packed_cell}
use Rattle.capture_index.specs.Runs.{cell_by}
use Rattle.capture_index.specs.Times.{told_by}
use Rattle.capture_index.proofs.Narrowing.{StaysTo-as, cells-told, list-there}
use Rattle.capture_index.proofs.packed_runs.PackedRuns.next_run.Goals as goal

pub list-requires : goal.list-requires
list-requires c = list-there c.args.self.now (c.args.base + c.args.offset) c.in-Many.list c.time_of.result c.time_of.ensures c.requires.point (sym c.in-Many.is ∙ c.unpack.ensures)

pub returns-in-First : goal.returns-in-First
returns-in-First c =
    let p = c.args.base + c.args.offset in
    let is = sym c.in-First.is ∙ c.unpack.ensures ∙ ap told_by c.time_of.ensures in
    StaysTo-as (cell_by (c.run_of.result ∷ [])) (packed_cell c.args.self.now p) c.args.end c.args.node c.next_of_run.result
    (λ k. ap (λ (r : Run). cell_by (r ∷ []) k) c.run_of.ensures ∙ cells-told c.args.self.now p (time.First c.in-First.first c.in-First.stone) is k) c.next_of_run.ensures

pub returns-in-Many : goal.returns-in-Many
returns-in-Many c =
    let p = c.args.base + c.args.offset in
    let is = sym c.in-Many.is ∙ c.unpack.ensures ∙ ap told_by c.time_of.ensures in
    StaysTo-as (cell_by c.list.result.now) (packed_cell c.args.self.now p) c.args.end c.args.node c.next_run.result
    (λ k. ap (λ (rs : List Run). cell_by rs k) c.list.ensures ∙ cells-told c.args.self.now p (time.Many c.in-Many.list) is k) c.next_run.ensures

pub returns-in-Never : goal.returns-in-Never
returns-in-Never c =
    let p = c.args.base + c.args.offset in
    let is = sym c.in-Never.is ∙ c.unpack.ensures ∙ ap told_by c.time_of.ensures in
    record {
      more = c.requires.before;
      most = omega arith;
      stays = λ k from to. sym (cells-told c.args.self.now p time.Never is k) ∙ cells-told c.args.self.now p time.Never is c.args.node;
    }
