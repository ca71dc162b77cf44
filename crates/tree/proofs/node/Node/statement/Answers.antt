-- Each kind by the form that it picks.
use mathlib.Core.Path.{◌≡◌, refl, sym, ap, ◌∙◌}
use Prim.Native.Nat.{◌-◌}
use lib.ListN.{get_or, get_or-eq_default}
use native.Mathlib.Omega.{arith}
use Rattle.tree.specs.Trees.{front_forms}
use Rattle.tree.specs.declared.kinds.Statement.TheVariants as V
use Rattle.tree.proofs.Frames.{skip}
use Rattle.tree.proofs.Views.{statement_is, no_statement, selected}
use Rattle.tree.proofs.node.Node.statement.Goals as goal

pub returns-in-41 : goal.returns-in-41
unfolding front_forms
returns-in-41 c =
    let A = c.args.self in
    statement_is A.pool.now A.at 41 V.Choice _ (omega arith) (sym c.word.ensures ∙ c.in-41.is) refl (λ t l. refl) (λ l. l)

pub returns-in-42 : goal.returns-in-42
returns-in-42 c =
    let A = c.args.self in
    statement_is A.pool.now A.at 42 V.Selection _ (omega arith) (sym c.word.ensures ∙ c.in-42.is) refl
    (λ t l. selected t A.pool.now A.at l (omega arith)) (λ l. l)

pub returns-in-43 : goal.returns-in-43
unfolding front_forms
returns-in-43 c =
    let A = c.args.self in
    statement_is A.pool.now A.at 43 V.Loop _ (omega arith) (sym c.word.ensures ∙ c.in-43.is) refl (λ t l. refl) (λ l. l)

pub returns-in-44 : goal.returns-in-44
unfolding front_forms
returns-in-44 c =
    let A = c.args.self in
    statement_is A.pool.now A.at 44 V.List _ (omega arith) (sym c.word.ensures ∙ c.in-44.is) refl (λ t l. refl) (λ l. l)

pub returns-in-0-to-40 : goal.returns-in-0-to-40
unfolding front_forms
returns-in-0-to-40 c =
    let A = c.args.self in
    let z : c.word.result - 40 ≡ 0 = omega arith in
    statement_is A.pool.now A.at c.word.result V.Assignment _ (omega arith) (sym c.word.ensures) (ap (λ k. get_or front_forms k skip) z)
    (λ t l. refl) (λ l. l)

pub returns-then-self-eq0 : goal.returns-then-self-eq0
returns-then-self-eq0 c = no_statement c.args.self.pool.now c.args.self.at (λ l. absurd (omega arith))

pub returns-in_default : goal.returns-in_default
unfolding front_forms
returns-in_default c =
    no_statement c.args.self.pool.now c.args.self.at (λ l. get_or-eq_default front_forms skip (omega (arith, c.word.ensures)))
