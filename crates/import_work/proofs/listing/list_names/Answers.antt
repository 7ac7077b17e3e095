use Rattle.import_work.proofs.listing.list_names.Goals as goal

pub returns-in-Ok-Some-clause-told : goal.returns-in-Ok-Some-clause-told
returns-in-Ok-Some-clause-told g c = λ files told.
    let there = rw c.in-Ok-Some.field-0-is at (c.in-Ok-Some.ensures.told files told) in
    c.few_names.ensures.told files c.args.path.now there.0 there.1
