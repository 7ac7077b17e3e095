use Rattle.query_script.proofs.SearchWords.{moves-absent, moves-present}
use Rattle.query_script.proofs.search_words.moves_of.Goals as goal

pub returns-in_default-clause-parted : goal.returns-in_default-clause-parted
returns-in_default-clause-parted c = moves-absent _

pub returns-clause-parted : goal.returns-clause-parted
returns-clause-parted c =
    let (from, to, ordered, most) = c.in_ok-moves.ensures.some in
    moves-present _ _ _ _ _ _ c.in-Some.ensures.some c.in_ok-from.ensures.some from to ordered most
