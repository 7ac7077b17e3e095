use Rattle.std.proofs.Common.{◌≡◌, ◌+◌, ◌++◌, take}
use Rattle.version_publisher.specs.Contents.{items_in}
use Rattle.run_audit.proofs.base.Base.version_at.Given as goal

-- so many segments are behind the version at the floor
abbrev pub invariant-loop-at : goal.invariant-loop-at
invariant-loop-at l = record {
  number_is : l.version.number ≡ l.self.held.number + l.at;
  games : items_in l.version.parts ≡ items_in l.self.held.parts ++ items_in (take l.at l.self.ahead);
}
