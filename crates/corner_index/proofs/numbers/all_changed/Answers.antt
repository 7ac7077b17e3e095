use Rattle.std.proofs.Common.{◌≡◌, set, arith}
use Rattle.corner_index.specs.Corners.{corner_number}
use Rattle.corner_index.proofs.NodeNumbers.{each_of_four, one_stands}
use Rattle.corner_index.proofs.numbers.all_changed.Goals as goal

pub changed-requires-clause-before : goal.changed-requires-clause-before
changed-requires-clause-before c = (c.requires.before.0, one_stands c.args.shape c.args.numbers c.args.change c.requires.before.0 c.requires.before.1 0 (omega arith))

pub changed-requires-2-clause-before : goal.changed-requires-2-clause-before
changed-requires-2-clause-before c = (c.requires.before.0, one_stands c.args.shape c.args.numbers c.args.change c.requires.before.0 c.requires.before.1 1 (omega arith))

pub changed-requires-3-clause-before : goal.changed-requires-3-clause-before
changed-requires-3-clause-before c = (c.requires.before.0, one_stands c.args.shape c.args.numbers c.args.change c.requires.before.0 c.requires.before.1 2 (omega arith))

pub changed-requires-4-clause-before : goal.changed-requires-4-clause-before
changed-requires-4-clause-before c = (c.requires.before.0, one_stands c.args.shape c.args.numbers c.args.change c.requires.before.0 c.requires.before.1 3 (omega arith))

pub returns : goal.returns
returns c = λ p stand.
    each_of_four (λ corner number. number ≡ corner_number corner c.args.shape (set p c.args.change.point c.args.change.new)) _
    (c.changed.ensures p (one_stands c.args.shape c.args.numbers c.args.change p stand 0 (omega arith)))
    (c.changed-2.ensures p (one_stands c.args.shape c.args.numbers c.args.change p stand 1 (omega arith)))
    (c.changed-3.ensures p (one_stands c.args.shape c.args.numbers c.args.change p stand 2 (omega arith)))
    (c.changed-4.ensures p (one_stands c.args.shape c.args.numbers c.args.change p stand 3 (omega arith)))
