use Rattle.std.proofs.Common.{◌≡◌, ◌^◌}
use Rattle.pattern_images.specs.ImageList.{placement_at}
use Rattle.ready_images.specs.StoredCorners.{IsNumberTo}
use Rattle.ready_images.proofs.corners.corner_number.Given as goal

-- the places so far, and the power of the next one
abbrev pub invariant-loop-place : goal.invariant-loop-place
invariant-loop-place l = record {
  number : IsNumberTo l.images.shape (placement_at l.images.placements l.i) l.corner l.place l.number;
  power : l.power ≡ 3 ^ l.place;
}
