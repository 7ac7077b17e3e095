use Rattle.kb_geometry.specs.Symmetry.{number_of_symmetry}
use Rattle.dyer_signature.proofs.Turnings.{IsMovedBelow}
use Rattle.dyer_signature.proofs.images.image_under.Given as goal

abbrev pub invariant-loop-place : goal.invariant-loop-place
invariant-loop-place l = IsMovedBelow l.shape (number_of_symmetry l.symmetry) l.place l.s.bytes l.image.bytes
