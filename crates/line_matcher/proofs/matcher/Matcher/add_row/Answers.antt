-- Left of the area and right of it nothing begins to hold.
use Rattle.std.proofs.Common.{ℕ, ◌+◌, ◌*◌, ◌<◌, ◌≤◌, ◌∙◌, ◌≡◌, length, slice_index, subst, ap, arith}
use Rattle.kb_geometry.specs.declared.shape.Shape.{Shape}
use Rattle.kb_geometry.specs.Board.{cols_of, point_count}
use Rattle.line_matcher.specs.Begins.{AreOccurrencesAdded, holds_anew, seen}
use Rattle.line_matcher.proofs.Areas.{at_point, row_left, row_right, start_le}
use Rattle.line_matcher.proofs.FoundLists.{IsAdded-trans}
use Rattle.line_matcher.proofs.matcher.Matcher.add_row.Goals as goal

pub loop-x-init : goal.loop-x-init
loop-x-init c =
    let images = c.args.self.now.images.now in
    row_left images c.args.self.now.made.placed c.args.self.now.starts.items c.args.self.now.made.starts_are c.args.visit.now c.args.area c.requires.near c.requires.area c.args.y c.requires.row c.args.found.now.items

pub add_run-requires : goal.add_run-requires
add_run-requires c =
    let images = c.args.self.now.images.now in
    let starts = c.args.self.now.starts.items in
    let placed = c.args.self.now.made.placed in
    let are = c.args.self.now.made.starts_are in
    let p = c.number-first.result in
    let lt : p < point_count images.shape = subst (λ (s : Shape). p < point_count s) c.shape.ensures.value c.number-first.ensures.in_range in
    let from_is : c.start-from.result ≡ slice_index starts p = c.start-from.ensures in
    let to_is : c.start-to.result ≡ slice_index starts (p + 1) = c.start-to.ensures in
    let le : slice_index starts p ≤ slice_index starts (p + 1) = start_le images placed starts are p (p + 1) (omega arith) (omega arith) in
    let most : slice_index starts (p + 1) ≤ length images.placements = (are.each (p + 1) (omega arith)).most in
    record {
      ordered = omega arith;
      in_range = omega arith;
      first = λ i low high. at_point images placed starts are p i lt (omega arith) (omega arith);
      shape = c.requires.shape;
    }

pub loop-x-preserved : goal.loop-x-preserved
loop-x-preserved c =
    let images = c.args.self.now.images.now in
    let starts = c.args.self.now.starts.items in
    let test = holds_anew images.shape c.args.visit.now.walker.now.position (seen c.args.visit.now.changed) in
    let row_start = c.args.y * cols_of images.shape in
    let p = c.number-first.result in
    let here : p ≡ row_start + c.loop-x.x = c.number-first.ensures.value ∙ ap (λ (s : Shape). c.args.y * cols_of s + c.loop-x.x) c.shape.ensures.value in
    let next : p + 1 ≡ row_start + (c.loop-x.x + 1) = omega arith in
    let from_is : c.start-from.result ≡ slice_index starts (row_start + c.loop-x.x) = c.start-from.ensures ∙ ap (slice_index starts) here in
    let to_is : c.start-to.result ≡ slice_index starts (row_start + (c.loop-x.x + 1)) = c.start-to.ensures ∙ ap (slice_index starts) next in
    IsAdded-trans images.placements test c.args.visit.now.node c.loop-x.invariant
    (subst (λ (from : ℕ). AreOccurrencesAdded images.placements test c.args.visit.now.node from (slice_index starts (row_start + (c.loop-x.x + 1))) c.loop-x.found.items c.add_run.new.found.items) from_is
    (subst (λ (to : ℕ). AreOccurrencesAdded images.placements test c.args.visit.now.node c.start-from.result to c.loop-x.found.items c.add_run.new.found.items) to_is c.in_ok-add_run.ensures))

pub returns : goal.returns
returns c =
    let images = c.args.self.now.images.now in
    IsAdded-trans images.placements (holds_anew images.shape c.args.visit.now.walker.now.position (seen c.args.visit.now.changed)) c.args.visit.now.node c.loop-x.invariant
    (row_right images c.args.self.now.made.placed c.args.self.now.starts.items c.args.self.now.made.starts_are c.args.visit.now c.args.area c.requires.near c.requires.area c.args.y c.requires.row c.loop-x.x c.loop-x.found.items (omega arith))
