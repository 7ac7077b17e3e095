use Rattle.std.proofs.Common.{ℕ, ap, sym, ◌∙◌, ◌∷◌, arith, length}
use Rattle.std.proofs.lemmas.List.{length-map}
use Rattle.capture_index.specs.Links.{run_of, runs_from}
use Rattle.capture_index.proofs.Linked.{link-step, point_runs}
use Rattle.capture_index.proofs.growing.Growing.few.Goals as goal

pub returns-then-link-eq0 : goal.returns-then-link-eq0
returns-then-link-eq0 c =
    let links = c.self.inside.links.items in
    sym (point_runs links c.self.inside.last.items c.args.self.now c.self.view_is c.args.point c.from.result c.index-at.result.now c.from.ensures c.requires c.index-at.ensures)
    ∙ link-step links c.self.invariant.back c.index-at.result.now c.if-at-eq0.false (omega (arith, c.index-at.ensures, c.self.invariant.within c.from.result c.index-at.result.now (omega (arith, c.from.ensures, c.requires, length-map c.self.inside.last.items (runs_from links), ap length c.self.view_is)))) c.index-link.result.now c.index-link.ensures
    ∙ ap (λ (n : ℕ). run_of c.index-link.result.now ∷ runs_from links n) c.if-link-eq0.true
