use Rattle.capture_index.proofs.Packed.{few-never, few-once}
use Rattle.capture_index.proofs.building.one_time.Goals as goal

pub returns-in-Never : goal.returns-in-Never
returns-in-Never c = few-never c.args.few c.in-Never.is

pub returns-in-Once : goal.returns-in-Once
returns-in-Once c = few-once c.args.few c.in-Once.run' c.in-Once.is c.time_of_run.result c.time_of_run.ensures
