use Rattle.ready_images.proofs.WantsOfPlacements.{holds-wanted, wants-on_board}
use Rattle.ready_images.proofs.laws.a_placement_holds_where_its_wants_are_met.Goals as goal

pub returns-clause-on_board : goal.returns-clause-on_board
returns-clause-on_board c = λ shape placement wants placed are. wants-on_board shape placement placed wants are

pub returns-clause-holds : goal.returns-clause-holds
returns-clause-holds c = λ shape placement wants placed are. holds-wanted shape placement placed wants are
