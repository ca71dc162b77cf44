-- `unwind::cases::compared` meets its contract.
use native.Mathlib.Omega.{arith}
use Rattle.unwind.proofs.Spells.{spelt_compared}
use Rattle.unwind.proofs.cases.compared.Goals as goal

pub returns : goal.returns
returns c =
    spelt_compared c.args.out.now _ _ c.args.n.pool.now c.args.count _ _ _ _ c.args.n.at c.args.o c.args.sel c.args.root (omega (arith, c.requires))
    c.operator_number-kind.ensures.small c.operator_number-kind.ensures.is c.from.ensures c.number_at-m.ensures c.emit.ensures
