-- A label below 8 keeps the colours.
use Rattle.std.proofs.Common.{◌≡◌, true, false, sym}
use Rattle.kb_geometry.specs.Symmetry.{number_of_label}
use Rattle.pattern_images.proofs.Turned.{labelled_cell-kept}
use Rattle.pattern_images.proofs.turning.labelled.Goals as goal

pub returns-else-exchanged : goal.returns-else-exchanged
returns-else-exchanged c =
    sym (labelled_cell-kept (number_of_label c.args.label) c.args.cell (λ h. let no : false ≡ true = c.if-exchanged.ensures.1 h in cc))
