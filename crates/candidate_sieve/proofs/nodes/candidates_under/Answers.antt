use Rattle.std.proofs.Common.{All, subst}
use Rattle.kb_geometry.specs.declared.shape.Shape.{Shape}
use Rattle.pattern_images.specs.ImageList.{IsPlacedOn}
use Rattle.candidate_sieve.specs.NodeCandidates.{AreAsked}
use Rattle.candidate_sieve.proofs.BegunLists.{begun-told, kept-ascends, kept-same}
use Rattle.candidate_sieve.proofs.nodes.candidates_under.Goals as goal

pub returns-clause-ascending : goal.returns-clause-ascending
returns-clause-ascending c = kept-ascends c.in_ok-nodes.nodes.items c.sort_unstable.new.self.items c.dedup.new.self.items c.sort_unstable.ensures.permutation c.sort_unstable.ensures.sorted c.dedup.ensures.filtered

pub returns-clause-exact : goal.returns-clause-exact
returns-clause-exact c n =
    let images = c.args.images.now in
    let same = kept-same c.in_ok-nodes.nodes.items c.sort_unstable.new.self.items c.dedup.new.self.items c.sort_unstable.ensures.permutation c.sort_unstable.ensures.sorted c.dedup.ensures.filtered n in
    let told = begun-told c.args.runs.now c.args.points.now images.placements
    (subst (λ (s : Shape). All (IsPlacedOn s) images.placements) c.requires.shape c.shape.ensures.images.placed)
    (subst (λ (s : Shape). AreAsked s images.placements c.args.points.now) c.requires.shape c.requires.points)
    c.in_ok-nodes.nodes.items c.in_ok-nodes.ensures n in
    (λ h. told.0 (same.0 h), λ h. same.1 (told.1 h))
