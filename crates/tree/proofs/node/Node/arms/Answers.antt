-- Each kind by the form that it picks.
use mathlib.Core.Path.{◌≡◌, refl, sym, ap, ◌∙◌}
use Prim.Native.Nat.{◌-◌}
use lib.ListN.{get_or, get_or-eq_default}
use native.Mathlib.Omega.{arith}
use Rattle.tree.specs.Trees.{arms_forms}
use Rattle.tree.specs.declared.kinds.Arms.TheVariants as V
use Rattle.tree.proofs.Frames.{no_arms}
use Rattle.tree.proofs.Views.{arms_is, no_more_arms}
use Rattle.tree.proofs.node.Node.arms.Goals as goal

pub returns-in-49 : goal.returns-in-49
unfolding arms_forms
returns-in-49 c =
    let A = c.args.self in
    arms_is A.pool.now A.at 49 V.Otherwise _ (omega arith) (sym c.word.ensures ∙ c.in-49.is) refl (λ t. refl) (λ l. l)

pub returns-in-0-to-48 : goal.returns-in-0-to-48
unfolding arms_forms
returns-in-0-to-48 c =
    let A = c.args.self in
    let z : c.word.result - 48 ≡ 0 = omega arith in
    arms_is A.pool.now A.at c.word.result V.Arm _ (omega arith) (sym c.word.ensures) (ap (λ k. get_or arms_forms k no_arms) z)
    (λ t. refl) (λ l. l)

pub returns-then-self-eq0 : goal.returns-then-self-eq0
returns-then-self-eq0 c = no_more_arms c.args.self.pool.now c.args.self.at (λ l. absurd (omega arith))

pub returns-in_default : goal.returns-in_default
unfolding arms_forms
returns-in_default c =
    no_more_arms c.args.self.pool.now c.args.self.at (λ l. get_or-eq_default arms_forms no_arms (omega (arith, c.word.ensures)))
