use Rattle.std.proofs.Common.{rules, arith, ◌≡◌, ◌<◌, [], ◌∷◌, ◌++◌, map, drop, fold, length, ap, ◌∙◌}
use Rattle.std.proofs.lemmas.Grind.{fold-append, common_steps}
use Rattle.std.proofs.lemmas.List.{append-nil}
use Rattle.std.specs.Arc.{arc_value}
use Rattle.version_publisher.specs.declared.replica.Change.{Change}
use Rattle.version_publisher.specs.declared.replica.Change.TheVariants.{Append}
use Rattle.version_publisher.specs.Replicas.{content_of, changed}
use Rattle.version_publisher.specs.Contents.{extended}
use Rattle.version_publisher.proofs.PartLists.{pending_queued}
use Rattle.version_publisher.proofs.ReadyStates.{ready_queued, ready_along}
use Rattle.version_publisher.proofs.handles.queue_waiting.Goals as goal

pub returns-in-Ok-clause-ready : goal.returns-in-Ok-clause-ready
returns-in-Ok-clause-ready g c =
    let items = g.P.Part.items in
    let w = c.args.writer.now in
    let start = content_of items w.desk.shown.value in
    let next = fold (changed items) start (drop w.behind w.log.items) in
    let growth : Change g.row.P.Denot g.row.P-Item.Denot = Append c.replace.result c.count.result c.again.result in
    let shown : content_of items c.append.new.self.desk.shown.value ≡ start = ap (λ d. content_of items d.shown.value) c.append.ensures.desk in
    let went : fold (changed items) (content_of items c.append.new.self.desk.shown.value) (drop c.append.new.self.behind c.append.new.self.log.items) ≡ changed items next growth =
    (λ i. fold (changed items) (shown i) (c.in-Ok.ensures.pending i)) ∙ fold-append (changed items) start (drop w.behind w.log.items) (growth ∷ []) in
    let is : changed items next growth ≡ extended next (length c.args.end.now.token.log) (map (λ a. items (arc_value a)) c.args.waiting.now.items) c.args.end.now.token.log c.args.end.now.token.book =
    λ i. extended next (c.count.ensures i) (map (λ a. items (arc_value a)) (c.replace.ensures.value i).items) (c.again.ensures i).log (c.again.ensures i).book in
    let none : c.replace.new.dest.items ≡ [] = search rules in
    ready_along _ _ _ _ _ _ _ _ _ (ready_queued _ start next _ _ _ c.requires) shown (went ∙ is) (ap (map (λ a. items (arc_value a))) none)

pub returns-in-Ok-clause-parts : goal.returns-in-Ok-clause-parts
returns-in-Ok-clause-parts g c =
    let items = g.P.Part.items in
    let w = c.args.writer.now in
    let start = content_of items w.desk.shown.value in
    let next = fold (changed items) start (drop w.behind w.log.items) in
    let growth : Change g.row.P.Denot g.row.P-Item.Denot = Append c.replace.result c.count.result c.again.result in
    let shown : content_of items c.append.new.self.desk.shown.value ≡ start = ap (λ d. content_of items d.shown.value) c.append.ensures.desk in
    let went : fold (changed items) (content_of items c.append.new.self.desk.shown.value) (drop c.append.new.self.behind c.append.new.self.log.items) ≡ changed items next growth =
    (λ i. fold (changed items) (shown i) (c.in-Ok.ensures.pending i)) ∙ fold-append (changed items) start (drop w.behind w.log.items) (growth ∷ []) in
    let none : c.replace.new.dest.items ≡ [] = search rules in
    (λ i. (went i).parts ++ map (λ a. items (arc_value a)) (none i)) ∙ (append-nil _ ∙ (λ i. next.parts ++ map (λ a. items (arc_value a)) (c.replace.ensures.value i).items))

pub returns-in-Ok-clause-pending : goal.returns-in-Ok-clause-pending
returns-in-Ok-clause-pending g c =
    let none : c.replace.new.dest.items ≡ [] = search rules in
    let some : 0 < length c.args.waiting.now.items = first_of (search rules, grind (arith, common_steps)) in
    pending_queued _ _ _ _ _ c.in-Ok.ensures.pending none some
