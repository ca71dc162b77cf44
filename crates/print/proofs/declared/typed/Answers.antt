-- By the section and the bounds.
use Rattle.std.proofs.Common.{arith, rules, sym, ◌≡◌, ◌∙◌}
use Rattle.paper.specs.declared.Kind.TheVariants.{Output}
use Rattle.print.proofs.Laws.{none, named}
use Rattle.print.proofs.Sections.{typing_alone, typing_none}
use Rattle.print.proofs.declared.typed.Goals as goal

pub returns-then-not-is_array : goal.returns-then-not-is_array
returns-then-not-is_array c =
    let N = c.args.n in
    let one = c.child.ensures in
    let two = c.child-then-not-is_array.ensures in
    named (λ k. typing_alone N.pool.now N.at _ _ c.section_of-section.ensures c.type_of-t.ensures k _ (λ e. let h = rw e at c.eq.ensures in cc)
    (sym c.is_array.ensures ∙ c.if-not-is_array.true) (rw (one.0, one.1) at two.1)) (rw (two.0, one.0) at c.valued.ensures)

pub returns-then-eq-2 : goal.returns-then-eq-2
returns-then-eq-2 c =
    let N = c.args.n in
    let output : c.section_of-section.result ≡ Output = search rules in
    named (λ k. typing_none N.pool.now N.at _ _ c.section_of-section.ensures c.type_of-t.ensures k output (sym c.is_array.ensures ∙ c.if-not-is_array.false)) (none _ _ (omega arith))
