-- What lawful words of the command line say of an import.
use Rattle.std.proofs.Common.{ℕ, ◌≤◌, List, arith}
use Rattle.query_script.specs.CommandWords.{AreLawful, AsksForBatch}
use Rattle.query_script.specs.declared.command_words.Words.{Words}

-- files come into the base at least one at a time
asked_some : (batch : ℕ) (words : List (List ℕ)) → AsksForBatch batch words → 1 ≤ batch
asked_some batch _ (AsksForBatch.apart digits is) = is.some
asked_some batch _ (AsksForBatch.joined digits is) = is.some

pub batch_some : (words : List (List ℕ)) (read : Words) → AreLawful words read → 1 ≤ read.batch
batch_some _ _ AreLawful.none = omega arith
batch_some _ _ AreLawful.serial = omega arith
batch_some _ _ (AreLawful.batch {words = words} {batch = batch} asks) = asked_some batch words asks
batch_some _ _ (AreLawful.serial_then_batch {words = words} {batch = batch} asks) = asked_some batch words asks
batch_some _ _ (AreLawful.batch_then_serial {words = words} {batch = batch} asks) = asked_some batch words asks

-- and at most 4,096
asked_few : (batch : ℕ) (words : List (List ℕ)) → AsksForBatch batch words → batch ≤ 4096
asked_few batch _ (AsksForBatch.apart digits is) = is.few
asked_few batch _ (AsksForBatch.joined digits is) = is.few

pub batch_few : (words : List (List ℕ)) (read : Words) → AreLawful words read → read.batch ≤ 4096
batch_few _ _ AreLawful.none = omega arith
batch_few _ _ AreLawful.serial = omega arith
batch_few _ _ (AreLawful.batch {words = words} {batch = batch} asks) = asked_few batch words asks
batch_few _ _ (AreLawful.serial_then_batch {words = words} {batch = batch} asks) = asked_few batch words asks
batch_few _ _ (AreLawful.batch_then_serial {words = words} {batch = batch} asks) = asked_few batch words asks
