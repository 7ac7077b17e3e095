use Rattle.std.proofs.Common.{◌≡◌, ℕ, List, length, sym, ◌∙◌, ap, subst, rules, ◌≤◌}
use Rattle.capture_index.specs.declared.growing.Link.{Link}
use Rattle.capture_index.specs.Links.{runs_from}
use Rattle.capture_index.proofs.Linked.{kept-more, runs-more}
use Rattle.capture_index.proofs.growing.push_link.Goals as goal

pub returns-clause-kept : goal.returns-clause-kept
returns-clause-kept c =
    subst (λ (ls : List Link). (at : ℕ) → at ≤ length c.args.links.now.items → runs_from ls at ≡ runs_from c.args.links.now.items at) (sym c.in_ok-push.ensures.items)
    (kept-more c.args.links.now.items c.requires.linked _ c.requires.within)

pub returns-clause-runs : goal.returns-clause-runs
returns-clause-runs c =
    let number : c.len-2.result ≡ length c.push.new.self.items = search rules in
    ap (runs_from c.push.new.self.items) number
    ∙ ap (λ (ls : List Link). runs_from ls (length ls)) c.in_ok-push.ensures.items
    ∙ runs-more c.args.links.now.items c.requires.linked _ c.requires.within
