use Rattle.std.proofs.Common.{◌≡◌, ◌++◌, ◌∙◌, ℕ, List, Ok, sym, ap, map-id}
use Rattle.std.proofs.lemmas.Iterator.Adapters.{fact_from_extend}
use Rattle.std.proofs.lemmas.Iterator.Consumers.{YieldsList-from_first}
use Rattle.capture_index.specs.NodePositions.{nodes_where}
use Rattle.candidate_sieve.proofs.BegunLists.{where_added}
use Rattle.candidate_sieve.proofs.nodes.add_where.Goals as goal

pub returns : goal.returns
returns c =
    let items : c.extend.new.self.items ≡ c.args.nodes.now.items ++ nodes_where c.args.runs.now c.args.point c.args.cell 0 =
    fact_from_extend {E = ℕ} (λ x. x) (Ok c.in_ok-extend.field-0) c.in_ok-extend.ensures.ran (λ it b. YieldsList-from_first (λ (x : ℕ). x) (λ (rest : List ℕ). rest) (nodes_where c.args.runs.now c.args.point c.args.cell 0) (b ∙ c.nodes_where.ensures))
    (λ xs e h. h.0 ∙ ap (λ (l : List ℕ). c.args.nodes.now.items ++ l) (sym (map-id xs) ∙ e)) in
    where_added c.args.runs.now c.args.points.now c.args.point c.args.cell c.args.nodes.now.items c.extend.new.self.items (c.has.ensures.0 c.if-not-has.false) items
