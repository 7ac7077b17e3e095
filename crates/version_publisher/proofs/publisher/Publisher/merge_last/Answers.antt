use Rattle.std.proofs.Common.{◌≡◌, ◌++◌, ◌∷◌, ◌||◌, [], false, map, drop, fold, refl, sym, ap, subst, ◌∙◌, Result, Ok, Err, MatchResult}
use Rattle.std.specs.Arc.{arc_value}
use Rattle.left_right.specs.Sides.{view}
use Rattle.version_publisher.specs.declared.state.Content.{Content}
use Rattle.version_publisher.specs.declared.state.Knowledge.{Knowledge}
use Rattle.version_publisher.specs.declared.replica.Change.TheVariants.{MergeLast}
use Rattle.version_publisher.specs.Contents.{is_nonempty, merged_content, last_two_joined, IsEmptyOrAmong, IsReady}
use Rattle.version_publisher.specs.Replicas.{content_of, changed, content_after}
use Rattle.version_publisher.proofs.PartLists.{both_empty}
use Rattle.version_publisher.proofs.ReadyStates.{ready_merged, ready_along}
use Rattle.version_publisher.proofs.publisher.Publisher.merge_last.Goals as goal

either_way : {X Y C : Type 0} (r : Result X Y) {P : X → Type 0} {Q : Y → Type 0} → MatchResult r P Q → ((x : X) → P x → C) → ((y : Y) → Q y → C) → C
either_way (Ok x) m f h = f x m
either_way (Err y) m f h = h y m

pub invariant_of-self : goal.invariant_of-self
invariant_of-self g c =
    let items = g.P.Part.items in
    let most = g.P.Part.MOST in
    let w = c.self.inside.writer in
    let ops = drop w.behind w.log.items in
    let left = c.self.inside.waiting.items in
    let all = c.self.inside.end.token in
    let x = items (arc_value c.args.merged) in
    let idle : (is_nonempty ops || is_nonempty left) ≡ false = ap (λ s. s.has_pending) c.self.view_is ∙ c.requires.idle in
    let none = both_empty ops left idle in
    let start = content_of items w.desk.shown.value in
    let shown : content_of items c.append.new.self.desk.shown.value ≡ start = ap (λ d. content_of items d.shown.value) c.append.ensures.desk in
    let known : view c.append.new.self.desk.place ≡ view w.desk.place = ap (λ d. view d.place) c.append.ensures.desk in
    let gone : map (λ a. items (arc_value a)) left ≡ [] = ap (map (λ a. items (arc_value a))) none.1 in
    let ready : IsReady most start start [] all.log all.book = ready_along most start start (content_after items w.desk.shown.value ops) start (map (λ a. items (arc_value a)) left) [] all.log all.book c.self.invariant.1 refl (sym (ap (content_after items w.desk.shown.value) none.0)) (sym gone) in
    let last : x ≡ last_two_joined start.parts = c.requires.items ∙ ap last_two_joined (ap (λ s. s.parts) (sym c.self.view_is)) in (
      (
        ap (λ (v : Knowledge g.row.P-Item.Denot). v.openings) known ∙ c.self.invariant.0.0,
        subst (λ (t : Content g.row.P-Item.Denot × Knowledge g.row.P-Item.Denot). IsEmptyOrAmong t.0.log t.1.published) (λ i. (sym shown i, sym known i)) c.self.invariant.0.1,
      ),
      either_way c.append.result c.append.ensures.pending
          (λ u p. ready_along most start _ (merged_content start x) _ [] _ all.log all.book (ready_merged most start all.log all.book x last ready) shown
          (λ i. fold (changed items) (shown i) ((p ∙ ap (λ z. z ++ MergeLast c.args.merged ∷ []) none.0) i)) gone)
          (λ y q. ready_along most start _ _ _ _ _ all.log all.book c.self.invariant.1 shown (λ i. fold (changed items) (shown i) (q.1 i)) refl),
    )
