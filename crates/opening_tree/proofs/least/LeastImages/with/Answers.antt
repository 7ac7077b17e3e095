use Rattle.opening_tree.proofs.LeastBits.{least-alike, least-moved}
use Rattle.opening_tree.proofs.least.LeastImages.with.Goals as goal

pub returns-in-Less : goal.returns-in-Less
returns-in-Less c images are stands = least-moved images c.args.number c.requires c.args.self are (stands.less c.in-Less.is)

pub returns-in-Equal : goal.returns-in-Equal
returns-in-Equal c images are stands = least-alike images c.args.number c.requires c.args.self are (stands.equal c.in-Equal.is)
