-- The measure is the node: a child is an earlier one.
use mathlib.Core.Path.{sym, ap}
use lib.ListN.{set}
use lib.Seq.{set_out}
use Rattle.plain.proofs.Markings.{nothing_marks, assign_marks, choice_marks, list_marks}
use Rattle.plain.proofs.+mark.Goals as goal

pub returns-in-Nothing : goal.returns-in-Nothing
returns-in-Nothing t c = nothing_marks _ _ c.in-Nothing.ensures _

pub returns-in-Choice : goal.returns-in-Choice
returns-in-Choice t c =
    choice_marks _ _ c.in-Choice.ensures _ _ _ (rw (c.child.ensures.0, c.child.ensures.1) at c.mark.ensures) (rw (c.child-in-Choice.ensures.0, c.child-in-Choice.ensures.1) at c.mark-in-Choice.ensures)

pub returns-in-List : goal.returns-in-List
returns-in-List t c =
    list_marks _ _ c.in-List.ensures _ _ _
    (rw (c.child-in-List.ensures.0, c.child-in-List.ensures.1) at c.mark-in-List.ensures)
    (rw (c.child-in-List-2.ensures.0, c.child-in-List-2.ensures.1) at c.mark-in-List-2.ensures)

pub returns-then-c-marks : goal.returns-then-c-marks
returns-then-c-marks t c =
    assign_marks _ _ c.in-Assignment.ensures _ _ (ap (λ x. set c.args.marks.now x.0 1) c.cell_of-c.ensures)

pub returns-else-c-marks : goal.returns-else-c-marks
returns-else-c-marks t c =
    assign_marks _ _ c.in-Assignment.ensures _ _
    (sym (set_out c.args.marks.now _ 1 (rw (ap (λ x. x.0) c.cell_of-c.ensures) at c.if-c-marks.false)))
