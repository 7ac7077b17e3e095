use Rattle.std.proofs.Common.{◌*◌, slice_index}
use Rattle.kb_geometry.specs.Board.{cols_of}
use Rattle.line_matcher.specs.Visits.{IsFoundAt}
use Rattle.line_matcher.proofs.matcher.Matcher.add_area.Given as goal

-- the rows so far
abbrev pub invariant-loop-y : goal.invariant-loop-y
invariant-loop-y l =
    IsFoundAt l.self.images.now l.visit 0 (slice_index l.self.starts.items (l.y * cols_of l.self.images.now.shape)) l.initial.found.items l.found.items
