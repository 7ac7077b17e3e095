use Rattle.std.proofs.Common.{refl, ◌∙◌}
use Rattle.node_position.proofs.Setups.{set_up_all-more}
use Rattle.node_position.proofs.building.set_up.Goals as goal

pub loop-setup-init : goal.loop-setup-init
loop-setup-init c = record { shape = refl; position = refl; changes = λ base h. h }

pub set-requires-clause-on_board : goal.set-requires-clause-on_board
set-requires-clause-on_board c = rw c.loop-setup.invariant.shape (c.requires.on_board c.loop-setup.setup-index _ c.loop-setup-test.true)

pub set-requires-clause-leads : goal.set-requires-clause-leads
set-requires-clause-leads c = (c.requires.leads.0, c.loop-setup.invariant.changes c.requires.leads.0 c.requires.leads.1)

pub loop-setup-preserved : goal.loop-setup-preserved
loop-setup-preserved c = record {
  shape = c.set.ensures.shape ∙ c.loop-setup.invariant.shape;
  position = c.set.ensures.position ∙ rw (c.loop-setup.invariant.shape, c.loop-setup.invariant.position) (set_up_all-more c.args.board.now.shape c.args.board.now.position c.args.setups.now c.loop-setup.setup-index _ c.loop-setup-test.true);
  changes = λ base h. c.set.ensures.changes base (c.loop-setup.invariant.changes base h);
}
