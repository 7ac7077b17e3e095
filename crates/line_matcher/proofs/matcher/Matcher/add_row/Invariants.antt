use Rattle.std.proofs.Common.{◌+◌, ◌*◌, slice_index}
use Rattle.kb_geometry.specs.Board.{cols_of}
use Rattle.line_matcher.specs.Visits.{IsFoundAt}
use Rattle.line_matcher.proofs.matcher.Matcher.add_row.Given as goal

-- the upper left points so far
abbrev pub invariant-loop-x : goal.invariant-loop-x
invariant-loop-x l =
    let start = l.y * cols_of l.self.images.now.shape in
    IsFoundAt l.self.images.now l.visit (slice_index l.self.starts.items start) (slice_index l.self.starts.items (start + l.x)) l.initial.found.items l.found.items
