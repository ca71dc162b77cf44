-- Each kind by the form that it picks.
use mathlib.Core.Bool.{true, false}
use mathlib.Core.Path.{refl, sym, ◌∙◌}
use native.Mathlib.Omega.{arith}
use Rattle.tree.specs.Trees.{expr_forms}
use Rattle.tree.specs.declared.kinds.Expression.TheVariants as V
use Rattle.tree.proofs.Views.{expression_is, no_expression, number_kind, binary_kind, other_kind}
use Rattle.tree.proofs.node.Node.expression.Goals as goal

pub returns-in-3 : goal.returns-in-3
unfolding expr_forms
returns-in-3 c =
    let A = c.args.self in
    expression_is A.pool.now A.at 3 (V.Truth false) _ (sym c.kind.ensures ∙ c.in-3.is) (omega arith) refl (λ t. refl) (λ l. l)

pub returns-in-4 : goal.returns-in-4
unfolding expr_forms
returns-in-4 c =
    let A = c.args.self in
    expression_is A.pool.now A.at 4 (V.Truth true) _ (sym c.kind.ensures ∙ c.in-4.is) (omega arith) refl (λ t. refl) (λ l. l)

pub returns-in-5 : goal.returns-in-5
unfolding expr_forms
returns-in-5 c =
    let A = c.args.self in
    expression_is A.pool.now A.at 5 V.Variable _ (sym c.kind.ensures ∙ c.in-5.is) (omega arith) refl (λ t. refl) (λ l. l)

pub returns-in-6 : goal.returns-in-6
unfolding expr_forms
returns-in-6 c =
    let A = c.args.self in
    expression_is A.pool.now A.at 6 V.Element _ (sym c.kind.ensures ∙ c.in-6.is) (omega arith) refl (λ t. refl) (λ l. l)

pub returns-in-7 : goal.returns-in-7
unfolding expr_forms
returns-in-7 c =
    let A = c.args.self in
    expression_is A.pool.now A.at 7 V.Minus _ (sym c.kind.ensures ∙ c.in-7.is) (omega arith) refl (λ t. refl) (λ l. l)

pub returns-in-8 : goal.returns-in-8
unfolding expr_forms
returns-in-8 c =
    let A = c.args.self in
    expression_is A.pool.now A.at 8 V.Complement _ (sym c.kind.ensures ∙ c.in-8.is) (omega arith) refl (λ t. refl) (λ l. l)

pub returns-in-9 : goal.returns-in-9
unfolding expr_forms
returns-in-9 c =
    let A = c.args.self in
    expression_is A.pool.now A.at 9 V.Brackets _ (sym c.kind.ensures ∙ c.in-9.is) (omega arith) refl (λ t. refl) (λ l. l)

pub returns-in-10 : goal.returns-in-10
unfolding expr_forms
returns-in-10 c =
    let A = c.args.self in
    rw (c.type_with.ensures, c.type_with-in-10.ensures, c.word-w.ensures)
    (expression_is A.pool.now A.at 10 (V.Conversion _ _) _ (sym c.kind.ensures ∙ c.in-10.is) (omega arith) refl (λ t. refl) (λ l. l))

pub returns-in-1 : goal.returns-in-1
returns-in-1 c =
    let A = c.args.self in
    expression_is A.pool.now A.at c.kind.result V.Number _ (sym c.kind.ensures) (omega arith)
    (number_kind c.kind.result (omega arith) (omega arith)) (λ t. refl) (λ l. l)

pub returns-in-Some : goal.returns-in-Some
returns-in-Some c =
    let A = c.args.self in
    expression_is A.pool.now A.at c.kind.result (V.Binary c.in-Some.o) _ (sym c.kind.ensures) (omega arith)
    (binary_kind c.kind.result c.in-Some.o (omega arith) (sym c.operator_with.ensures ∙ c.in-Some.is)) (λ t. refl) (λ l. l)

pub returns-in-None : goal.returns-in-None
returns-in-None c = no_expression c.args.self.pool.now c.args.self.at c.kind.result (sym c.kind.ensures)
    (other_kind c.kind.result (omega arith) (sym c.operator_with.ensures ∙ c.in-None.is))

pub returns-in-0 : goal.returns-in-0
unfolding expr_forms
returns-in-0 c = no_expression c.args.self.pool.now c.args.self.at 0 (sym c.kind.ensures ∙ c.in-0.is) refl
