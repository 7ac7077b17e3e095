use Rattle.segment_store.proofs.segment.Segment.with_corner.Goals as goal

pub returns-clause-exact : goal.returns-clause-exact
returns-clause-exact c g =
    let own = c.corner_index.ensures c.args.corner c.requires c.args.key g in
    let found = c.games_with.ensures.exact g in
    (λ h. own.0 (found.0 h), λ h. found.1 (own.1 h))
