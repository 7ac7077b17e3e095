use Rattle.std.proofs.lemmas.Nat.Bits.{bit_at_ones}
use Rattle.final_index.proofs.order_planes.OrderPlanes.word.Goals as goal

pub returns-in-None : goal.returns-in-None
returns-in-None c = λ g lt may. bit_at_ones 64 g lt
