-- The measure is the node: a child is an earlier one.
use native.Mathlib.Omega.{arith}
use Rattle.plain.proofs.Figures.{nothing_figure, assign_figure, choice_figure, list_figure}
use Rattle.plain.proofs.+figure_of.Goals as goal

pub returns-in-Nothing : goal.returns-in-Nothing
returns-in-Nothing t c = nothing_figure _ _ c.in-Nothing.ensures

pub returns-in-Assignment : goal.returns-in-Assignment
returns-in-Assignment t c = assign_figure _ _ c.in-Assignment.ensures

pub returns-in-Choice : goal.returns-in-Choice
returns-in-Choice t c =
    choice_figure _ _ c.in-Choice.ensures _ _ _
    (rw (c.child.ensures.0, c.child.ensures.1) at c.figure_of-a.ensures)
    (rw (c.child-in-Choice.ensures.0, c.child-in-Choice.ensures.1) at c.figure_of-b.ensures)
    (omega (arith, c.min.ensures, c.max.ensures))

pub returns-in-List : goal.returns-in-List
returns-in-List t c =
    list_figure _ _ c.in-List.ensures _ _ _
    (rw (c.child-in-List.ensures.0, c.child-in-List.ensures.1) at c.figure_of-a-in-List.ensures)
    (rw (c.child-in-List-2.ensures.0, c.child-in-List-2.ensures.1) at c.figure_of-b-in-List.ensures)
    (omega (arith, c.min-in-List.ensures))
