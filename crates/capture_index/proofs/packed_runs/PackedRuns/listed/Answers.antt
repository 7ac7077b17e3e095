use Rattle.std.proofs.Common.{List, ◌+◌, ◌∙◌, ap, sym}
use Rattle.capture_index.specs.declared.run.Run.{Run}
use Rattle.capture_index.specs.declared.time.Time.TheVariants as time
use Rattle.capture_index.specs.Runs.{cell_by}
use Rattle.capture_index.specs.Times.{told_by}
use Rattle.capture_index.proofs.Narrowing.{cells-told, list-there, listed-told}
use Rattle.capture_index.proofs.packed_runs.PackedRuns.listed.Goals as goal

pub list-requires : goal.list-requires
list-requires c = list-there c.args.self.now (c.args.base + c.args.offset) c.in-Many.list c.time_of.result c.time_of.ensures c.requires (sym c.in-Many.is ∙ c.unpack.ensures)

pub returns-in-First-clause-none : goal.returns-in-First-clause-none
returns-in-First-clause-none c = listed-told c.args.self.now (c.args.base + c.args.offset) (time.First c.in-First.node c.in-First.stone) (sym c.in-First.is ∙ c.unpack.ensures ∙ ap told_by c.time_of.ensures)

pub returns-in-Many-clause-some : goal.returns-in-Many-clause-some
returns-in-Many-clause-some c =
    let is = sym c.in-Many.is ∙ c.unpack.ensures ∙ ap told_by c.time_of.ensures in
    let p = c.args.base + c.args.offset in (
      listed-told c.args.self.now p (time.Many c.in-Many.list) is,
      λ n. ap (λ (rs : List Run). cell_by rs n) c.list.ensures ∙ cells-told c.args.self.now p (time.Many c.in-Many.list) is n,
    )

pub returns-in-Never-clause-none : goal.returns-in-Never-clause-none
returns-in-Never-clause-none c = listed-told c.args.self.now (c.args.base + c.args.offset) time.Never (sym c.in-Never.is ∙ c.unpack.ensures ∙ ap told_by c.time_of.ensures)
