use Rattle.std.proofs.Common.{subst}
use Rattle.sgf_reader.specs.declared.collection.Collection.{Collection}
use Rattle.game_tree.specs.ValueFaults.{IsFirstValueFault}
use Rattle.game_tree.proofs.building.build.Goals as goal

pub returns-clause-fault : goal.returns-clause-fault
returns-clause-fault c = λ f e.
    subst (λ (collection : Collection). IsFirstValueFault c.args.text.now collection f.kind f.at) c.in_ok-flat.ensures (c.build_flat.ensures.fault f e)
