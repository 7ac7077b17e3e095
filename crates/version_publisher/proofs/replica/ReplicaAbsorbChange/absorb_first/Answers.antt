use Rattle.std.proofs.Common.{rules, ◌≡◌, sym, ap, ◌∙◌, map}
use Rattle.std.proofs.lemmas.Result.{MatchResult-weaker}
use Rattle.std.specs.Arc.{arc_value}
use Rattle.version_publisher.specs.declared.replica.Change.TheVariants.{Append}
use Rattle.version_publisher.proofs.PartLists.{map_appended_clones, map_merged_last}
use Rattle.version_publisher.specs.Contents.{content}
use Rattle.version_publisher.specs.Replicas.{content_of, changed}
use Rattle.version_publisher.proofs.replica.ReplicaAbsorbChange.absorb_first.Goals as goal

pub returns-in_ok-extend_from_slice-in-Append-clause-absorbed : goal.returns-in_ok-extend_from_slice-in-Append-clause-absorbed
returns-in_ok-extend_from_slice-in-Append-clause-absorbed g c =
    let e : c.as_slice.result.now ≡ c.in-Append.parts.items = search rules in
    let parts = map_appended_clones arc_value g.P.Part.items c.args.self.now.parts.items c.extend_from_slice.new.self.items c.as_slice.result.now c.in-Append.parts.items c.in_ok-extend_from_slice-in-Append.ensures.items e in
    let grew : content_of g.P.Part.items record { number = c.in-Append.number; parts = c.extend_from_slice.new.self; token = c.again.result } ≡ changed g.P.Part.items (content_of g.P.Part.items c.args.self.now) (Append c.in-Append.parts c.in-Append.number c.in-Append.token) =
    λ i. content c.in-Append.number (parts i) (c.again.ensures i).log (c.again.ensures i).book in
    grew ∙ ap (changed g.P.Part.items (content_of g.P.Part.items c.args.self.now)) (sym c.in-Append.is)

pub returns-in-MergeLast-clause-absorbed : goal.returns-in-MergeLast-clause-absorbed
returns-in-MergeLast-clause-absorbed g c =
    let now = c.args.self.now in
    let items = g.P.Part.items in
    MatchResult-weaker c.merge_last.result c.merge_last.ensures
    (λ u e. (λ i. content now.number (map_merged_last arc_value items now.parts.items c.merge_last.new.parts.items (arc_value c.in-MergeLast.part) e i) now.token.log now.token.book) ∙ ap (changed items (content_of items now)) (sym c.in-MergeLast.is))
    (λ u e. λ i. content now.number (map (λ a. items (arc_value a)) (e i)) now.token.log now.token.book)
