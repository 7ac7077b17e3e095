use Rattle.std.proofs.Common.{ap, Err, arith}
use Rattle.game_tree.proofs.BuiltGames.{of_text}
use Rattle.game_tree.proofs.NodeValues.{same_error}
use Rattle.game_tree.proofs.WholeGames.{all-clean, built-some, others-bad, root-bad, root-built, root-next, root-parent, shallow, simple-texts, tree-built}
use Rattle.game_tree.proofs.game.build_on.Goals as goal

pub read_root-requires-clause-parent : goal.read_root-requires-clause-parent
read_root-requires-clause-parent c = root-parent c.args.text.now c.args.raw.now c.requires.read _ _ c.requires.root

pub read_root-requires-clause-room : goal.read_root-requires-clause-room
read_root-requires-clause-room c =
    let next = root-next c.args.text.now c.args.raw.now c.requires.read _ _ c.requires.root c.args.shape in
    let room = next.room in omega (arith, room)

pub read_root-requires-clause-inside : goal.read_root-requires-clause-inside
read_root-requires-clause-inside c = (root-next c.args.text.now c.args.raw.now c.requires.read _ _ c.requires.root c.args.shape).inside

pub read_root-requires-clause-ascending : goal.read_root-requires-clause-ascending
read_root-requires-clause-ascending c = (root-next c.args.text.now c.args.raw.now c.requires.read _ _ c.requires.root c.args.shape).ascending

pub returns-in-Err-clause-fault : goal.returns-in-Err-clause-fault
returns-in-Err-clause-fault c = λ f e.
    root-bad c.args.text.now c.args.raw.now c.requires.read _ _ c.requires.root c.args.shape c.requires.board c.args.game f c.requires.game (c.in-Err.ensures.fault f (ap Err (same_error _ _ e)))

pub read_others-requires-clause-root : goal.read_others-requires-clause-root
read_others-requires-clause-root c =
    root-built c.args.text.now c.args.raw.now c.requires.read _ _ c.requires.root c.args.shape c.read_root.new.builder (rw c.in_ok-builder.ensures at (c.in_default.ensures.ok.1))

pub returns-in-Err-read_others-clause-fault : goal.returns-in-Err-read_others-clause-fault
returns-in-Err-read_others-clause-fault c = λ f e.
    others-bad c.args.text.now c.args.raw.now c.requires.read _ _ c.requires.root c.args.shape c.requires.board c.args.game f c.requires.game c.in_default.ensures.ok.0 (c.in-Err-read_others.ensures.fault f (ap Err (same_error _ _ e)))

pub information-requires : goal.information-requires
information-requires c = record {
  inside = rw c.pairs.ensures (root-next c.args.text.now c.args.raw.now c.requires.read _ _ c.requires.root c.args.shape).inside;
  short = (of_text c.args.text.now c.args.raw.now c.requires.read).2;
}

pub finish-requires-clause-depth : goal.finish-requires-clause-depth
finish-requires-clause-depth c =
    shallow c.args.text.now c.args.raw.now c.requires.read _ _ c.requires.root c.args.shape c.requires.board c.read_others.new.builder c.in-Ok.info c.in_default-read_others.ensures.ok c.is_grown.ensures.grown

pub finish-requires-clause-texts : goal.finish-requires-clause-texts
finish-requires-clause-texts c = simple-texts c.args.text.now _ c.in-Ok.info c.in-Ok.ensures

pub returns-in-Ok-clause-no_fault : goal.returns-in-Ok-clause-no_fault
returns-in-Ok-clause-no_fault c =
    all-clean c.args.text.now c.args.raw.now c.requires.read _ _ c.requires.root c.args.shape c.requires.board c.args.game c.read_others.new.builder c.requires.game c.in_default.ensures.ok.0 c.in_default-read_others.ensures.ok

pub finish-requires-clause-some : goal.finish-requires-clause-some
finish-requires-clause-some c =
    built-some c.args.text.now c.args.raw.now c.requires.read _ _ c.requires.root c.args.shape c.requires.board c.read_others.new.builder c.in_default-read_others.ensures.ok

pub returns-in-Ok-clause-ok : goal.returns-in-Ok-clause-ok
returns-in-Ok-clause-ok c =
    tree-built c.args.text.now c.args.raw.now c.requires.read _ _ c.requires.root c.args.shape c.requires.board c.read_others.new.builder c.in-Ok.info _ c.in_default-read_others.ensures.ok (rw c.pairs.ensures at c.in-Ok.ensures) c.finish.ensures.value
