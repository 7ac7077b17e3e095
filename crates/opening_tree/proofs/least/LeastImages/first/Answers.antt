use Rattle.opening_tree.proofs.LeastBits.{least-first}
use Rattle.opening_tree.proofs.least.LeastImages.first.Goals as goal

pub returns : goal.returns
returns c images = least-first images
