use Rattle.std.proofs.Common.{◌∙◌, subst, sym}
use Rattle.capture_index.specs.declared.time.Time.{Time}
use Rattle.capture_index.specs.Times.{HasStoneAt, told_by}
use Rattle.capture_index.proofs.Times.{begin-first, begin-none}
use Rattle.capture_index.proofs.time.PackedTime.begin_before.Goals as goal

pub returns-in-First : goal.returns-in-First
returns-in-First c n lt = begin-first (told_by c.args.self) c.in-First.node c.in-First.stone c.from.result (sym c.unpack.ensures ∙ c.in-First.is) c.from.ensures n

pub returns-in-Many : goal.returns-in-Many
returns-in-Many c = begin-none (told_by c.args.self) c.args.end (λ n. subst (λ (t : Time). ¬ HasStoneAt t n) (sym (sym c.unpack.ensures ∙ c.in-Many.is)) (λ e. e))

pub returns-in-Never : goal.returns-in-Never
returns-in-Never c = begin-none (told_by c.args.self) c.args.end (λ n. subst (λ (t : Time). ¬ HasStoneAt t n) (sym (sym c.unpack.ensures ∙ c.in-Never.is)) (λ e. e))
