use Rattle.kb_geometry.proofs.Setups.{with_rect-inside, with_rect-outside}
use Rattle.kb_geometry.proofs.laws.a_setup_sets_its_rectangle_alone.Goals as goal

pub returns-clause-inside : goal.returns-clause-inside
returns-clause-inside c = with_rect-inside

pub returns-clause-outside : goal.returns-clause-outside
returns-clause-outside c = with_rect-outside
