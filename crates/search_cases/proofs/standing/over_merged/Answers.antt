use Rattle.std.proofs.Common.{◌∙◌, subst, sym}
use Rattle.search_cases.specs.Watching.{Covers}
use Rattle.search_cases.proofs.CoveredGames.{fits-joined, in_one}
use Rattle.search_cases.proofs.standing.over_merged.Goals as goal

pub loop-part-init : goal.loop-part-init
loop-part-init g c =
    let watched = c.args.watched.now in
    subst (λ gs. Covers watched.query watched.filter gs watched.standing) (sym (c.in_ok-whole.ensures ∙ c.new.ensures)) c.requires

pub go_on-requires : goal.go_on-requires
go_on-requires g c =
    let watched = c.loop-part.watched in
    fits-joined watched.query watched.filter watched.standing c.loop-part.whole _ _ _ c.in_ok-joined.ensures c.in_ok-version.ensures c.loop-part.invariant
