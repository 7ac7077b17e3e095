use Rattle.std.proofs.Common.{◌+◌, ◌∙◌, arith, subst, sym}
use Rattle.std.proofs.lemmas.Bool.{false≢true}
use Rattle.dyer_signature.specs.declared.bytes.Signature.{Signature}
use Rattle.dyer_signature.proofs.SoFar.{IsSignatureSoFar, signature-on_board, so_far-at_end, so_far-at_last, so_far-behind_main, so_far-more, so_far-pass_by, so_far-start}
use Rattle.dyer_signature.proofs.main_line.signature.Goals as goal
use Rattle.dyer_signature.proofs.main_line.signature.Goals.{in-Some+else-number-ge-LAST_MOVE, in_default}

pub loop-n-init : goal.loop-n-init
loop-n-init c = so_far-start c.args.tree.now

pub returns-then-not-is_main-clause-value : goal.returns-then-not-is_main-clause-value
returns-then-not-is_main-clause-value c =
    so_far-behind_main c.args.tree.now c.node_count-n-end.ensures.tree c.loop-n.n _
    (λ on. false≢true (sym c.if-not-is_main.true ∙ c.is_main.ensures.1 on)) c.loop-n.invariant

pub returns-then-not-is_main-clause-on_board : goal.returns-then-not-is_main-clause-on_board
returns-then-not-is_main-clause-on_board c =
    signature-on_board c.args.tree.now c.node_count-n-end.ensures.tree _ (returns-then-not-is_main-clause-value c)

pub returns-then-number-ge-LAST_MOVE-clause-value :
    goal.returns-then-number-ge-LAST_MOVE-clause-value
returns-then-number-ge-LAST_MOVE-clause-value c =
    so_far-at_last c.args.tree.now c.node_count-n-end.ensures.tree c.loop-n.n _ (omega (arith, c.move_number-number.ensures))
    (so_far-more c.args.tree.now c.node_count-n-end.ensures.tree c.loop-n.n c.move_number-number.result
    c.loop-n.signature.bytes _ c.in-Some.played (c.is_main.ensures.0 c.if-not-is_main.false)
    (sym c.played.ensures.value ∙ c.in-Some.is) c.move_number-number.ensures c.with_move-signature.ensures.twelve
    c.with_move-signature.ensures.here c.with_move-signature.ensures.others c.loop-n.invariant)

pub returns-then-number-ge-LAST_MOVE-clause-on_board :
    goal.returns-then-number-ge-LAST_MOVE-clause-on_board
returns-then-number-ge-LAST_MOVE-clause-on_board c =
    signature-on_board c.args.tree.now c.node_count-n-end.ensures.tree _ (returns-then-number-ge-LAST_MOVE-clause-value c)

pub loop-n-preserved : goal.loop-n-preserved
loop-n-preserved c =
    elim c.match-played.branch [
      | in-Some+else-number-ge-LAST_MOVE w ↦
          subst (λ (s : Signature). IsSignatureSoFar c.args.tree.now (c.loop-n.n + 1) s.bytes) (sym w.signature-is)
          (so_far-more c.args.tree.now c.node_count-n-end.ensures.tree c.loop-n.n w.move_number-number.result
          c.loop-n.signature.bytes _ w.in-Some.played (c.is_main.ensures.0 c.if-not-is_main.false)
          (sym c.played.ensures.value ∙ w.in-Some.is) w.move_number-number.ensures w.with_move-signature.ensures.twelve
          w.with_move-signature.ensures.here w.with_move-signature.ensures.others c.loop-n.invariant)
      | in_default w ↦
          subst (λ (s : Signature). IsSignatureSoFar c.args.tree.now (c.loop-n.n + 1) s.bytes) (sym w.signature-is)
          (so_far-pass_by c.args.tree.now c.loop-n.n _ (sym c.played.ensures.value ∙ w.in_default.is) c.loop-n.invariant)
    ]

pub returns-clause-value : goal.returns-clause-value
returns-clause-value c =
    so_far-at_end c.args.tree.now c.node_count-n-end.ensures.tree _
    (subst (λ n. IsSignatureSoFar c.args.tree.now n c.loop-n.signature.bytes)
    (omega (arith, c.node_count-n-end.ensures.value)) c.loop-n.invariant)

pub returns-clause-on_board : goal.returns-clause-on_board
returns-clause-on_board c =
    signature-on_board c.args.tree.now c.node_count-n-end.ensures.tree _ (returns-clause-value c)
