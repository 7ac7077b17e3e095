use Rattle.std.proofs.Common.{◌≡◌, ◌+◌, ◌<◌, arith, subst, sym, ◌∙◌}
use Rattle.std.specs.Int.{bit_at}
use Rattle.std.proofs.lemmas.Nat.Bits.{bit_at-zero}
use Rattle.std.proofs.lemmas.Option.{slice_get_within}
use Rattle.search_engine.specs.Items.{games_of_item}
use Rattle.search_engine.proofs.CutLists.{slice_get-drop}
use Rattle.search_engine.proofs.GamesSearched.{AreHitsFrom-refused}
use Rattle.search_engine.proofs.StepsTaken.{AreStepsIn-none}
use Rattle.search_engine.proofs.NodesVisited.{AreVisited-none}
use Rattle.search_engine.proofs.search_items.Searcher.add_block.Goals as goal

pub returns-then-accepted-eq0-clause-hits : goal.returns-then-accepted-eq0-clause-hits
returns-then-accepted-eq0-clause-hits g c covered =
    let skip = c.args.item.now.skip in
    AreHitsFrom-refused c.args.item.now.first c.args.self.now.ready.now.query c.args.self.now.filter.now c.args.hits.now.items (games_of_item c.args.item.now)
    (λ k game at accepts.
    let there = sym (slice_get-drop skip c.args.item.now.block.now k) ∙ at in
    let few : skip + k < 64 = omega (arith, c.len.ensures.value, c.len.ensures.most, slice_get_within c.args.item.now.block.now (skip + k) game there) in
    let bit = (c.accepted_games-accepted.ensures (skip + k) game (omega arith) few there).1 accepts in
    absurd (omega (arith, bit_at-zero (skip + k), subst (λ word. bit_at word (skip + k) ≡ 1) c.if-accepted-eq0.true bit)))

pub returns-then-accepted-eq0-clause-visited : goal.returns-then-accepted-eq0-clause-visited
returns-then-accepted-eq0-clause-visited g c = AreVisited-none c.args.hits.now.items c.args.steps.now

pub returns-then-accepted-eq0-clause-steps : goal.returns-then-accepted-eq0-clause-steps
returns-then-accepted-eq0-clause-steps g c = AreStepsIn-none c.args.self.now.ready.now.query (games_of_item c.args.item.now) c.args.steps.now

pub returns-in_err-gather-clause-steps : goal.returns-in_err-gather-clause-steps
returns-in_err-gather-clause-steps g c = AreStepsIn-none c.args.self.now.ready.now.query (games_of_item c.args.item.now) c.args.steps.now

pub add_found-requires-clause-gathered : goal.add_found-requires-clause-gathered
add_found-requires-clause-gathered g c = c.in_ok-gather.ensures.gathered c.args.self.now.filter.now c.args.item.now.skip c.accepted_games-accepted.ensures
