use Rattle.candidate_sieve.proofs.OrderTold.{stands-in-order}
use Rattle.candidate_sieve.proofs.laws.a_placement_that_holds_stands_in_order.Goals as goal

pub returns : goal.returns
returns c = λ deltas order placement g n same has placed lt holds. stands-in-order deltas order placement g n same has placed lt holds
