use Rattle.std.proofs.Common.{◌≤◌, length}
use Rattle.import_work.specs.Outcome.{HaveGames, IsFaulty, refused}
use Rattle.import_work.proofs.RoomLemmas.{IsOutcome-in_room}
use Rattle.import_work.proofs.outcome.outcome_of.Goals as goal

pub returns-in-Ok-Refused : goal.returns-in-Ok-Refused
returns-in-Ok-Refused c =
    let faulty : IsFaulty c.args.bytes.now c.in-Ok-Refused.kind c.in-Ok-Refused.at = rw c.in-Ok-Refused.field-0-is at c.in-Ok-Refused.ensures in
    rw (c.new.ensures.items) (refused faulty)

pub returns-in-Ok-Games : goal.returns-in-Ok-Games
returns-in-Ok-Games c =
    let told : HaveGames c.args.bytes.now c.in-Ok-Games.trees.items × (length c.in-Ok-Games.trees.items ≤ 65536) = rw c.in-Ok-Games.field-0-is at c.in-Ok-Games.ensures in
    IsOutcome-in_room c.args.bytes.now c.args.before c.in-Ok-Games.trees.items c.in_room.result.0 c.in_room.result.1.items told.0 c.in_room.ensures
