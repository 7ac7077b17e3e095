use Rattle.std.proofs.Common.{rules, arith, ◌≡◌, ◌+◌, [], ◌∷◌, ◌++◌, length, ap, ◌∙◌, length-append}
use Rattle.std.proofs.lemmas.Grind.{common_steps}
use Rattle.std.proofs.lemmas.List.Elements.{All-append, All-cons, All-nil, All-same}
use Rattle.version_publisher.specs.declared.state.SearcherState.{SearcherState}
use Rattle.version_publisher.specs.Contents.{IsNewSearcher}
use Rattle.version_publisher.proofs.opening.new_searchers.Goals as goal

pub loop-i-preserved : goal.loop-i-preserved
loop-i-preserved g c =
    let P : SearcherState g.row.P-Item.Denot → Type 0 = IsNewSearcher c.args.empty.now.opening in
    let before = c.loop-i.searchers.items in
    let kept = c.loop-i.invariant.kept in
    let same = c.new_reader.ensures.same in
    let items : c.push.new.self.items ≡ before ++ c.new.result ∷ [] = first_of (search rules, grind (arith, common_steps)) in
    let long : length c.push.new.self.items ≡ c.loop-i.i + 1 = omega (arith, ap length items, length-append before (c.new.result ∷ []), c.loop-i.invariant.long) in record {
      kept = (same.0 ∙ kept.0, same.1 ∙ kept.1, same.2 ∙ kept.2, same.3 ∙ kept.3);
      long = long;
      new = All-same P _ _ items (All-append P before (c.new.result ∷ []) c.loop-i.invariant.new (All-cons P c.new.result [] c.new.ensures (All-nil P)));
    }
