use Rattle.std.proofs.Common.{ap, subst, ◌∙◌}
use mathlib.Core.List.{IsPrefix}
use Rattle.version_publisher.proofs.Prefixes.{prefix_shorter}
use Rattle.version_publisher.proofs.receipt.Receipt.begins.Goals as goal

pub returns : goal.returns
returns g c =
    let both = c.learn.new.self.log in
    let this : IsPrefix c.args.self.now.log both = subst (λ l. IsPrefix l both) (ap (λ s. s.log) c.again-both.ensures ∙ ap (λ s. s.log) c.self.view_is) c.learn.ensures.2 in
    let that : IsPrefix c.args.longer.now.log both = subst (λ l. IsPrefix l both) (ap (λ s. s.log) c.longer.view_is) c.learn.ensures.3 in
    prefix_shorter c.args.self.now.log c.args.longer.now.log both this that c.requires.shorter
