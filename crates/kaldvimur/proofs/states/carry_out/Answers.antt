-- `kaldvimur::states::carry_out` meets its contract: the cells held, the list carried out on them, and lent again.
use Rattle.kaldvimur.proofs.Scanning.{carries}
use Rattle.kaldvimur.proofs.states.carry_out.Goals as goal

pub returns : goal.returns
returns c =
    let A = c.args in
    carries A.cells.now _ _ _ _ _ A.inputs.now A.state.now _ _ c.requires.room.0 c.requires.room.1 c.hold.ensures (rw (c.node_at.ensures.0, c.node_at.ensures.1) at c.run_list-steps.ensures) c.lend.ensures
