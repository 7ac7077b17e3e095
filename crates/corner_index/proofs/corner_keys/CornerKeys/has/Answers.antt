use Rattle.std.proofs.Common.{◌↔◌, Bool, List, ℕ, IsTrue, sym, subst}
use Rattle.std.specs.Prelude.{Contains, is_ok}
use Rattle.corner_index.specs.Corners.{keys_of}
use Rattle.corner_index.proofs.ToldKeys.{found-iff}
use Rattle.corner_index.proofs.corner_keys.CornerKeys.has.Goals as goal

pub returns : goal.returns
returns c =
    subst (λ (b : Bool). IsTrue b ↔ Contains (keys_of c.args.self.now c.args.corner) c.args.key) (sym c.is_ok.ensures.value)
    (subst (λ (xs : List ℕ). IsTrue (is_ok c.binary_search.result) ↔ Contains xs c.args.key) c.of_corner-keys.ensures.value
    (found-iff c.of_corner-keys.result.now c.of_corner-keys.ensures.ascending c.args.key c.binary_search.result c.binary_search.ensures.position))
