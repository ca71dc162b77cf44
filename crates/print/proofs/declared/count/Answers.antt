-- `k` of the first `v` are of the section.
use Rattle.std.proofs.Common.{arith, sym, refl, ap, ap₂, ◌≡◌, ◌∙◌, ◌+◌, ◌≤◌, Bool, true, false, length}
use mathlib.Core.Bool.{cond}
use mir.Val.{bool_byte}
use Rattle.print.proofs.Sections.{of_none, next_count}
use Rattle.print.proofs.declared.count.Goals as goal

one : (b : Bool) → (bool_byte b ≡ cond b 1 0) × (bool_byte b ≤ 1)
one true = (refl, omega arith)
one false = (refl, omega arith)

pub loop-v-init : goal.loop-v-init
loop-v-init c =
    (omega arith, λ t. sym (ap length (of_none t c.args.vars.pool.now c.args.vars.table.now c.args.section)))

pub loop-v-preserved : goal.loop-v-preserved
loop-v-preserved c =
    let (e, most) = one c.is_of.result in
    let k = c.from-k.ensures ∙ e ∙ ap (λ b. cond b 1 0) c.is_of.ensures in
    (omega (arith, c.from-k.ensures, most), λ t. ap₂ ◌+◌ (c.loop-v.invariant.1 t) k ∙ sym (next_count t c.args.vars.pool.now c.args.vars.table.now c.args.section c.loop-v.v))
