use Rattle.std.proofs.Common.{refl}
use Rattle.final_index.specs.Planes.{HadThere}
use Rattle.final_index.proofs.KeptBits.{kept_either-told}
use Rattle.candidate_sieve.proofs.candidates.games_with_either.Goals as goal

pub returns : goal.returns
returns c = λ g lt. kept_either-told c.args.games c.word.result c.word-2.result _ g (HadThere c.args.planes.now.games g c.args.one c.args.point) (HadThere c.args.planes.now.games g c.args.other c.args.point) (c.word.ensures g lt) (c.word-2.ensures g lt) refl
