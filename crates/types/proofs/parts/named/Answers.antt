-- `types::parts::named` meets its contract.
use Rattle.types.proofs.Naming.{named_right, named_missing, named_other}
use Rattle.types.proofs.parts.named.Goals as goal
use Rattle.types.proofs.parts.named.Goals.{in-Some+else-is_array-subscripted, in_default}

pub returns-then-is_array-subscripted : goal.returns-then-is_array-subscripted
returns-then-is_array-subscripted c =
    let A = c.args in
    let node = c.declaration-declared.ensures in
    named_right A.vars.text.now A.vars.pool.now A.vars.table.now A.place A.sub c.typed_unless.result A.subscripted
    _ c.in-Some.ensures _ node.1 c.is_array.result (rw node.0 at c.is_array.ensures)
    c.type_of.result (rw node.0 at c.type_of.ensures) c.if-is_array-subscripted.true c.typed_unless.ensures

pub returns : goal.returns
returns c =
    let A = c.args in
    let own = rw c.with_fault.ensures at c.typed_unless-2.ensures in
    elim c.match-find.branch [
      | in-Some+else-is_array-subscripted w ↦
          let node = w.declaration-declared.ensures in
          named_other A.vars.text.now A.vars.pool.now A.vars.table.now A.place A.sub _ A.subscripted _ w.in-Some.ensures _ node.1 w.is_array.result
          (rw node.0 at w.is_array.ensures) w.if-is_array-subscripted.false own
      | in_default w ↦ named_missing A.vars.text.now A.vars.pool.now A.vars.table.now A.place A.sub _ A.subscripted w.in_default.ensures own
    ]
