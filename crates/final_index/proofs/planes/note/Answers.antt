use Rattle.std.proofs.Common.{◌≡◌, ◌≤◌, ◌+◌, ◌*◌, ℕ, subst, arith}
use Rattle.final_index.specs.PlaneWords.{AreNoted}
use Rattle.final_index.proofs.NotedBits.{AreNoted-all, AreNoted-more, AreNoted-start}
use Rattle.final_index.proofs.planes.note.Goals as goal

pub loop-part-init : goal.loop-part-init
loop-part-init c = AreNoted-start c.args.points c.args.cell c.args.members.now c.args.game c.args.words.now

pub note_window-requires-clause-within : goal.note_window-requires-clause-within
note_window-requires-clause-within c = λ k lt bit.
    let inside = c.requires.on_board _ ((c.window.ensures k lt).0 bit) in
    omega (arith, inside, c.start_of-start.ensures.room, c.loop-part.invariant.room, c.requires.room, c.from.ensures)

pub loop-part-preserved : goal.loop-part-preserved
loop-part-preserved c =
    let more = AreNoted-more c.args.points c.args.cell c.args.members.now c.args.game c.args.words.now (64 * c.loop-part.part) (c.start_of-start.result + c.from.result) c.window.result c.loop-part.words c.note_window.new.words c.loop-part.invariant (omega (arith, c.start_of-start.ensures.value, c.from.ensures)) c.window.ensures c.note_window.ensures in
    let next : 64 * c.loop-part.part + 64 ≡ 64 * (c.loop-part.part + 1) = omega arith in
    subst (λ (p : ℕ). AreNoted c.args.points p c.args.cell c.args.members.now c.args.game c.args.words.now c.note_window.new.words) next more

pub returns : goal.returns
returns c =
    let all : c.args.points ≤ 64 * c.loop-part.part = omega (arith, c.loop-part-test.false) in
    AreNoted-all c.args.points c.args.cell c.args.members.now c.args.game c.args.words.now (64 * c.loop-part.part) c.loop-part.words c.loop-part.invariant all c.requires.on_board
