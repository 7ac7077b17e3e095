use Rattle.std.proofs.Common.{◌∷◌, ◌∙◌, ap, refl, sym}
use Rattle.indexmap.proofs.MapLemmas.{Found-position, Missing-position}
use Rattle.session_core.specs.Grouping.{entries_of}
use Rattle.session_core.proofs.KeyEntries.{number_new, number_pushed}
use Rattle.session_core.proofs.doubles.add_game.Goals as goal

pub returns-in_ok-push-in-Some : goal.returns-in_ok-push-in-Some
returns-in_ok-push-in-Some c =
    let found = Found-position _ c.args.by_key.now.entries c.in-Some.at (sym c.in-Some.ensures.index) in
    number_pushed _ (λ a b. refl) c.args.by_key.now.entries c.in-Some.at c.args.key c.index_mut.result.now c.push.new.self c.args.number found.first c.index_mut.ensures.value c.in_ok-push-in-Some.ensures.items

pub returns-in_ok-insert-in-None : goal.returns-in_ok-insert-in-None
returns-in_ok-insert-in-None c =
    let missing = Missing-position _ c.args.by_key.now.entries (sym c.in-None.ensures.index) in
    ap entries_of c.in_ok-insert-in-None.ensures.entries
    ∙ number_new _ (λ a b. refl) c.args.by_key.now.entries c.args.key _ c.args.number missing.absent (ap (λ ns. c.args.number ∷ ns) c.new.ensures.items)
