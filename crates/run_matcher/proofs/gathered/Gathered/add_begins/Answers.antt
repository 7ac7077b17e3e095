-- The keys of what begins in stretches.
use Rattle.std.proofs.Common.{◌∙◌, ◌++◌, ◌<◌, ℕ, List, ap, map, arith, subst, sym}
use Rattle.std.specs.Prelude.{All}
use Rattle.capture_index.specs.Stretches.{BeginsIn}
use Rattle.run_matcher.specs.Keys.{end_number, key_of}
use Rattle.run_matcher.proofs.BegunNodes.{begun-few, only-added}
use Rattle.run_matcher.proofs.KeyLists.{begun-kept}
use Rattle.run_matcher.proofs.OccurrencesOfOne.{begins-added, known-added}
use Rattle.run_matcher.proofs.gathered.Gathered.add_begins.Goals as goal

pub known_end-requires : goal.known_end-requires
known_end-requires c = λ k d lt. let each = c.requires.apart.each k d lt in omega (arith, each.2, c.in_ok-push_begins.ensures.most)

pub push_keys-requires-clause-nodes : goal.push_keys-requires-clause-nodes
push_keys-requires-clause-nodes c =
    let nodes = c.push_begins.new.nodes.items in
    let begun = only-added c.clear.new.self.items nodes (BeginsIn c.args.runs.now c.args.stretches.now) c.clear.ensures.items c.in_ok-push_begins.ensures.begun in
    subst (λ (ns : List ℕ). All (λ n. n < 65536) ns) (sym c.deref.ensures.value)
    (begun-few c.args.runs.now c.args.stretches.now c.requires.apart nodes begun (omega (arith, c.in_ok-push_begins.ensures.most)))

pub returns-clause-occurrences : goal.returns-clause-occurrences
returns-clause-occurrences c =
    let nodes = c.push_begins.new.nodes.items in
    let begun = only-added c.clear.new.self.items nodes (BeginsIn c.args.runs.now c.args.stretches.now) c.clear.ensures.items c.in_ok-push_begins.ensures.begun in
    begins-added c.args.runs.now c.args.stretches.now c.args.placement c.known_end.result nodes c.self.inside.keys.items c.push_keys.new.keys.items c.args.self.now c.requires.placement c.known_end.ensures.few begun
    (c.in_ok-push_keys.ensures.added ∙ ap (λ (ns : List ℕ). c.self.inside.keys.items ++ map (key_of c.args.placement (end_number c.known_end.result)) ns) c.deref.ensures.value) c.self.view_is

pub returns-clause-go_on : goal.returns-clause-go_on
returns-clause-go_on c =
    let nodes = c.push_begins.new.nodes.items in
    let begun = only-added c.clear.new.self.items nodes (BeginsIn c.args.runs.now c.args.stretches.now) c.clear.ensures.items c.in_ok-push_begins.ensures.begun in
    known-added c.args.runs.now c.args.stretches.now c.args.placement c.known_end.result nodes c.self.inside.keys.items c.push_keys.new.keys.items c.args.self.now c.requires.placement c.known_end.ensures.few begun
    (c.in_ok-push_keys.ensures.added ∙ ap (λ (ns : List ℕ). c.self.inside.keys.items ++ map (key_of c.args.placement (end_number c.known_end.result)) ns) c.deref.ensures.value) c.self.view_is c.known_end.ensures.inside

pub returns-in_err-push_keys-clause-kept : goal.returns-in_err-push_keys-clause-kept
returns-in_err-push_keys-clause-kept c = begun-kept c.self.inside.keys.items c.push_keys.new.keys.items c.args.self.now c.self.view_is c.in_err-push_keys.ensures.kept

pub returns-clause-kept : goal.returns-clause-kept
returns-clause-kept c = begun-kept c.self.inside.keys.items c.push_keys.new.keys.items c.args.self.now c.self.view_is c.in_ok-push_keys.ensures.kept
