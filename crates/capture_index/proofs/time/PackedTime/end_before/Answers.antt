-- The first node with a stone, or none.
use Rattle.std.proofs.Common.{◌∙◌, subst, sym}
use Rattle.capture_index.specs.declared.time.Time.{Time}
use Rattle.capture_index.specs.Times.{HasStoneAt, told_by}
use Rattle.capture_index.proofs.Times.{end-first, end-none}
use Rattle.capture_index.proofs.time.PackedTime.end_before.Goals as goal

pub returns-in-First : goal.returns-in-First
returns-in-First c = end-first (told_by c.args.self) c.in-First.node c.in-First.stone c.args.to c.min.result c.from.result (sym c.unpack.ensures ∙ c.in-First.is) c.from.ensures c.min.ensures

pub returns-in-Many : goal.returns-in-Many
returns-in-Many c = end-none (told_by c.args.self) c.args.to (λ n. subst (λ (t : Time). ¬ HasStoneAt t n) (sym (sym c.unpack.ensures ∙ c.in-Many.is)) (λ e. e))

pub returns-in-Never : goal.returns-in-Never
returns-in-Never c = end-none (told_by c.args.self) c.args.to (λ n. subst (λ (t : Time). ¬ HasStoneAt t n) (sym (sym c.unpack.ensures ∙ c.in-Never.is)) (λ e. e))
