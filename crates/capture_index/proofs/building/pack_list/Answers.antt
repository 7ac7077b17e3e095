use Rattle.std.proofs.Common.{ℕ, List, ◌≡◌, ◌++◌, ◌∷◌, [], length, subst, ap, sym, ◌∙◌, rules}
use Rattle.capture_index.specs.declared.time.Time.TheVariants as time
use Rattle.capture_index.specs.Packing.{IsPacked}
use Rattle.capture_index.specs.Runs.{runs_at}
use Rattle.capture_index.proofs.Packed.{IsPacked-list}
use Rattle.capture_index.proofs.building.pack_list.Goals as goal

pub returns : goal.returns
returns c =
    let number : c.len-list.result ≡ length c.args.ends.now.items = search rules in
    let total : c.len-2.result ≡ length c.push_runs.new.runs.items = search rules in
    let grown : c.push.new.self.items ≡ c.args.ends.now.items ++ length c.push_runs.new.runs.items ∷ [] = c.in_ok-push.ensures.items ∙ ap (λ (n : ℕ). c.args.ends.now.items ++ n ∷ []) total in
    subst (λ (es : List ℕ). IsPacked (runs_at c.args.growing.now c.args.point) c.args.ends.now.items c.args.runs.now.items es c.push_runs.new.runs.items c.packed.result) (sym grown)
    (IsPacked-list c.args.ends.now.items c.args.runs.now.items c.requires.lists (runs_at c.args.growing.now c.args.point) c.push_runs.new.runs.items c.in_ok-push_runs.ensures c.packed.result (c.packed.ensures ∙ ap time.Many number))
