use Prim.Native.Nat.{min}
use Rattle.std.proofs.Common.{◌*◌, ◌+◌, ◌/◌, ◌≤◌, arith}
use Rattle.std.proofs.Math.Nat.{le-min, min-le_left, min-le_right}
use Rattle.std.proofs.lemmas.Bool.{lt-ltb, ltb-true}
use Rattle.capture_index.proofs.Times.{stone-words}
use Rattle.capture_index.proofs.time.PackedTime.has_stone_at.Goals as goal

pub returns : goal.returns
returns c =
    let words = stone-words c.args.self c.args.node in
    let low = min-le_left c.args.node 16382 in
    let high = min-le_right c.args.node 16382 in (
      λ test.
          let lt = ltb-true c.from.result (2 * c.min.result + 2) test in
          words.1 (omega (arith, lt, c.from.ensures, c.min.ensures, high), omega (arith, lt, c.from.ensures, c.min.ensures, low)),
      λ at.
          let h = words.0 at in
          let least : c.args.self.word / 2 ≤ min c.args.node 16382 = le-min (omega (arith, h.1)) (omega (arith, h.0)) in
          lt-ltb c.from.result (2 * c.min.result + 2) (omega (arith, least, c.from.ensures, c.min.ensures)),
    )
