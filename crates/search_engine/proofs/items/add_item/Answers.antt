use Rattle.std.proofs.Common.{◌≡◌, ◌+◌, ◌-◌, ap, arith, refl, rules}
use Rattle.search_engine.proofs.ItemLists.{AreItems-cut, AreItems-passed}
use Rattle.search_engine.proofs.items.add_item.Goals as goal

pub returns-then-skip-len : goal.returns-then-skip-len
returns-then-skip-len c base games before so_far is number =
    let skip : c.saturating_sub-skip.result ≡ c.args.from - c.args.at = search rules in
    AreItems-passed base c.args.from games before c.args.items.now.items so_far c.args.at number c.args.block.now (omega (arith, skip, c.if-skip-len.true, c.len.ensures.value))

pub returns : goal.returns
returns c base games before so_far is number =
    let skip : c.saturating_sub-skip.result ≡ c.args.from - c.args.at = search rules in
    let ahead : c.saturating_sub.result ≡ c.args.at - c.args.from = search rules in
    AreItems-cut base c.args.from games before c.args.items.now.items so_far c.args.at number c.args.block.now c.args.first is c.push.new.self.items _ c.in_ok-push.ensures.items (ap (λ n. c.args.first + n) ahead) skip refl
