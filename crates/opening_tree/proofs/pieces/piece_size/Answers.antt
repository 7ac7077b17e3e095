use Rattle.std.proofs.Common.{◌*◌, ◌≤◌, arith, rules}
use Rattle.std.proofs.lemmas.Grind.{common_steps}
use Rattle.opening_tree.proofs.StoredJoin.{enough}
use Rattle.opening_tree.proofs.pieces.piece_size.Goals as goal

pub returns-clause-few_pieces : goal.returns-clause-few_pieces
returns-clause-few_pieces c =
    let few : c.max-pieces.result ≤ 8 = first_of (search rules, grind (arith, common_steps)) in
    let whole : c.args.games ≤ c.div_ceil-2.result * c.max-pieces.result = first_of (search rules, grind (arith, common_steps)) in
    let large : c.div_ceil-2.result ≤ c.max.result = first_of (search rules, grind (arith, common_steps)) in
    omega (arith, large, enough c.args.games c.max-pieces.result c.div_ceil-2.result whole few)
