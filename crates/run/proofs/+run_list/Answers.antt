-- The measure is the node: a child is an earlier one.
use mathlib.Core.Path.{ap, ap₂, ◌∙◌}
use lib.ListN.{set}
use Rattle.run.proofs.Lists.{nothing_runs, assign_runs, if_runs, both_runs}
use Rattle.run.proofs.+run_list.Goals as goal

pub returns-in-Nothing : goal.returns-in-Nothing
returns-in-Nothing t c = nothing_runs _ _ c.in-Nothing.ensures _

pub returns-in-Choice : goal.returns-in-Choice
returns-in-Choice t c =
    if_runs _ _ c.in-Choice.ensures _ _ _ _ _ c.branch-n.ensures.1 (rw c.branch-n.ensures.0 at c.run_list-steps.ensures) c.min.ensures

pub returns-in-List : goal.returns-in-List
returns-in-List t c =
    both_runs _ _ c.in-List.ensures _ _ _ _ _ _
    (rw (c.child-in-List.ensures.0, c.child-in-List.ensures.1) at c.run_list-first.ensures)
    (rw (c.child-in-List-2.ensures.0, c.child-in-List-2.ensures.1) at c.run_list-second.ensures)
    c.min-in-List.ensures

pub returns-in-Assignment : goal.returns-in-Assignment
returns-in-Assignment t c =
    assign_runs _ _ c.in-Assignment.ensures _ _
    (c.store.ensures ∙ ap₂ (set _) (ap (λ x. x.0) c.cell_of.ensures) (rw (c.child.ensures.0, c.child.ensures.1) at c.value_at-v.ensures))
