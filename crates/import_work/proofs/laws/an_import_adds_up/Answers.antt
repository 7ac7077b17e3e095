use Rattle.import_work.proofs.GivenSegments.{adds_up}
use Rattle.import_work.proofs.laws.an_import_adds_up.Goals as goal

pub returns : goal.returns
returns c = λ told batch start now segments first last any given. adds_up told batch start first now segments last any given
