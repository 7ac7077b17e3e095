use Rattle.std.proofs.Common.{◌∙◌, Some, ap, arith, drop, length-append, length-drop}
use Rattle.std.proofs.lemmas.List.{length-take}
use Rattle.serial_run.proofs.ReadLemmas.{drop_of_none, piece_added, read_full, read_to_end}
use Rattle.serial_run.proofs.read.read_text.Goals as goal
use Rattle.serial_run.proofs.read.read_text.Goals.{else-loop-buffer-test, then-loop-buffer-test+in_ok-read_piece+then-branch-eq0}

pub loop-buffer-preserved : goal.loop-buffer-preserved
loop-buffer-preserved g c = record {
  room = omega (arith, length-append c.read_piece.new.piece (drop c.min-room.result c.loop-buffer.buffer), length-drop c.min-room.result c.loop-buffer.buffer, length-take c.min-room.result c.loop-buffer.buffer, c.read_piece.auto.piece, c.loop-buffer.invariant.room);
  most = omega (arith, c.in_ok-read_piece.ensures.len, c.in_ok-read_piece.ensures.bound, length-take c.min-room.result c.loop-buffer.buffer, c.loop-buffer.invariant.most, c.min-room.ensures);
  later = omega (arith, c.loop-buffer.invariant.later, c.in_ok-read_piece.ensures.later);
  so_far = λ bytes told.
      let h = c.loop-buffer.invariant.so_far bytes told in
      let n = c.in_ok-read_piece.field-0 in
      (drop n h.0, c.in_ok-read_piece.ensures.taken h.0 h.1, piece_added bytes c.loop-buffer.text.items h.0 c.read_piece.new.text.items n h.2 (c.in_ok-read_piece.ensures.added h.0 h.1));
}

pub returns-clause-text : goal.returns-clause-text
returns-clause-text g c = λ bytes told.
    let h = c.loop-buffer.invariant.so_far bytes told in
    elim c.loop-buffer-test.branch [
      | else-loop-buffer-test w ↦ rw w.text-is (read_full bytes c.loop-buffer.text.items h.0 1048577 h.2 (omega (arith, c.loop-buffer.invariant.most))).0
      | then-loop-buffer-test+in_ok-read_piece+then-branch-eq0 w ↦
          let n = w.in_ok-read_piece.field-0 in
          rw w.text-is (read_to_end bytes w.read_piece.new.text.items (drop n h.0) 1048577 (piece_added bytes c.loop-buffer.text.items h.0 w.read_piece.new.text.items n h.2 (w.in_ok-read_piece.ensures.added h.0 h.1)) (drop_of_none n h.0 (w.in_ok-read_piece.ensures.end h.0 h.1 w.if-branch-eq0.true)) (omega (arith, w.in_ok-read_piece.ensures.len, c.loop-buffer.invariant.most))).0
    ]

pub returns-clause-left : goal.returns-clause-left
returns-clause-left g c = λ bytes told.
    let h = c.loop-buffer.invariant.so_far bytes told in
    elim c.loop-buffer-test.branch [
      | else-loop-buffer-test w ↦ rw w.script-is (h.1 ∙ ap Some (read_full bytes c.loop-buffer.text.items h.0 1048577 h.2 (omega (arith, c.loop-buffer.invariant.most))).1)
      | then-loop-buffer-test+in_ok-read_piece+then-branch-eq0 w ↦
          let n = w.in_ok-read_piece.field-0 in
          rw w.script-is (w.in_ok-read_piece.ensures.taken h.0 h.1 ∙ ap Some (read_to_end bytes w.read_piece.new.text.items (drop n h.0) 1048577 (piece_added bytes c.loop-buffer.text.items h.0 w.read_piece.new.text.items n h.2 (w.in_ok-read_piece.ensures.added h.0 h.1)) (drop_of_none n h.0 (w.in_ok-read_piece.ensures.end h.0 h.1 w.if-branch-eq0.true)) (omega (arith, w.in_ok-read_piece.ensures.len, c.loop-buffer.invariant.most))).1)
    ]
