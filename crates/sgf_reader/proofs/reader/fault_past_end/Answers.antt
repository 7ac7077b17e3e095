use Rattle.std.proofs.Common.{arith, rules}
use Rattle.std.proofs.lemmas.Bool.{false≢true}
use Rattle.sgf_reader.specs.Stays.{too_many_games, too_long}
use Rattle.sgf_reader.proofs.reader.fault_past_end.Goals as goal

pub returns-in_default : goal.returns-in_default
returns-in_default c = rw c.fault.ensures (too_long (λ from is many next. c.in_default.not-Before from is))

pub returns-then-game_count : goal.returns-then-game_count
returns-then-game_count c =
    rw c.fault-then-game_count.ensures (too_long (λ from is many next. omega (arith, c.game_count.ensures)))

pub returns-then-not-is_node_next : goal.returns-then-not-is_node_next
returns-then-not-is_node_next c =
    rw c.fault-then-not-is_node_next.ensures (too_long (λ from is many next. false≢true (c.if-not-is_node_next.ensures.1 next)))

pub returns : goal.returns
returns c =
    rw c.fault-2.ensures (too_many_games c.in-Before.from c.in-Before.is (omega (arith, c.game_count.ensures)) (c.if-not-is_node_next.ensures.0 (search rules)))
