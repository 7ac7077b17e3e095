use Rattle.std.proofs.Common.{refl}
use Rattle.final_index.specs.Planes.{HadThere}
use Rattle.final_index.proofs.KeptBits.{kept-told}
use Rattle.candidate_sieve.proofs.candidates.games_with_cell.Goals as goal

pub returns : goal.returns
returns c = λ g lt. kept-told c.args.games c.word.result _ g (HadThere c.args.planes.now.games g c.args.cell c.args.point) (c.word.ensures g lt) refl
