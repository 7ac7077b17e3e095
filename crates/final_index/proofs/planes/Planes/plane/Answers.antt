use Rattle.std.proofs.Common.{◌≡◌, ◌+◌, ◌-◌, ◌<◌, List, ℕ, take, drop, slice_index, ap, sym, ◌∙◌, arith}
use Rattle.kb_geometry.specs.Board.{point_count}
use Rattle.final_index.specs.Planes.{PlaneGames}
use Rattle.final_index.specs.PlaneWords.{start_of}
use Rattle.final_index.proofs.GamesOfWords.{HadThere-seen}
use Rattle.final_index.proofs.KeptBits.{sliced-word}
use Rattle.final_index.proofs.planes.Planes.plane.Goals as goal

pub returns-clause-words : goal.returns-clause-words
returns-clause-words c p g lt =
    let shape = ap (λ (p : PlaneGames). p.shape) c.self.view_is in
    let inside : p < point_count c.self.inside.shape = rw shape lt in
    let start = c.start_of-start.result in
    let below : p < c.from.result = omega (arith, c.from.ensures, c.count-points.ensures.value, inside) in
    let at : start_of (point_count c.self.inside.shape) c.args.cell + p ≡ start + p =
    ap (λ (n : ℕ). start_of n c.args.cell + p) (sym c.count-points.ensures.value) ∙ ap (λ (s : ℕ). s + p) (sym c.start_of-start.ensures.value) in
    let read : slice_index c.self.inside.words.items (start_of (point_count c.self.inside.shape) c.args.cell + p) ≡ slice_index (take (start + c.from.result - start) (drop start c.deref.result.now)) p =
    ap (slice_index c.self.inside.words.items) at ∙ ap (λ (ws : List ℕ). slice_index ws (start + p)) (sym c.deref.ensures.value) ∙ sym (sliced-word c.deref.result.now start c.from.result p below) in
    HadThere-seen (point_count c.self.inside.shape) c.self.inside.count c.self.inside.present c.self.inside.words.items c.self.invariant c.self.inside.shape c.args.self.now c.self.view_is
    g c.args.cell p inside (slice_index (take (start + c.from.result - start) (drop start c.deref.result.now)) p) read
