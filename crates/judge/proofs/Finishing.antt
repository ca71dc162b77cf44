-- 8 and 9 of the program that is sound so far, and the accepted program in its buffers.
use mathlib.Core.Path.{◌≡◌, refl, sym, ap, subst, ◌∙◌}
use mathlib.Core.List.{List}
use Prim.Native.Nat.{ℕ, ◌*◌, ◌≤◌, ◌<◌}
use native.Mathlib.Omega.{arith}
use lib.ListN.{length, take, replicate}
use Rattle.std.specs.Prelude.{Result, Ok, Err}
use Rattle.paper.specs.declared.Refusal.{Refusal}
use Rattle.paper.specs.Refusals.{given, Gives, ◌>>=◌}
use Rattle.paper.specs.Source as S
use Rattle.paper.specs.Source.{Program}
use Rattle.paper.specs.Names.{Variable, find, variables_of, cells_of}
use Rattle.paper.specs.Unwinding.{no_selector, unwind, unwound_program}
use Rattle.paper.specs.Judge.{judge}
use Rattle.demands.proofs.Cells.{find_inside}
use Rattle.tree.specs.Nodes.{child_of}
use Rattle.tree.specs.Trees.{front_at, program_at}
use Rattle.variables.specs.Table.{listed_in}
use Rattle.judge.specs.declared.Judged.{Judged}
use Rattle.judge.specs.declared.rules.Ruled.{Ruled}
use Rattle.unwind.specs.declared.lists.Walk.{Walk}
use Rattle.judge.specs.Rules.{sound, Keeps}
use Rattle.judge.specs.Judged.{Stands}
use Rattle.judge.proofs.Gives.{stops, gave}
use Rattle.unwind.specs.Parts.{Inside}
use Rattle.unwind.specs.Walks.{said, Goes, ProgramDid}
use Rattle.judge.proofs.Firsts.{accepted, unwound, judge_begins}

-- a refusal by 1 to 7 is the answer
pub refused_early : (t p table q : List ℕ) (e : Refusal) → Gives (Keeps t p table) (sound t) (Err e) → Gives (Stands t p table q) (judge t) (Err e)
refused_early t p table q e h =
    subst (λ a. Gives (Stands t p table q) a (Err e)) (sym (judge_begins t)) (stops (Keeps t p table) (Stands t p table q) unwound (sound t) e h)

module _ (t p table : List ℕ) (r : Ruled) (i : Gives (Keeps t p table) (sound t) (Ok r)) where
  -- the program that is sound so far
  pub there : (pr : Program) × (sound t ≡ given pr) × Keeps t p table pr r
  there = gave (Keeps t p table) (sound t) r i

  abbrev pr : Program
  pr = there.0

  kept : Keeps t p table pr r
  kept = there.2

  -- ---- the walk

  module _ (old new : List ℕ) (u : Result Walk Refusal) (d : ProgramDid t p (take (4 * r.variables) table) r.cells r.root old new u) where
    abbrev vs : List Variable
    vs = listed_in t p (take (4 * r.variables) table)

    inside : Inside r.cells vs
    inside s v f = omega (arith, kept.cells, find_inside pr.declared s v (ap (find s) (sym kept.variables) ∙ f))

    body_is : front_at t p (child_of p r.root 2) S.done ≡ pr.body
    unfolding program_at
    body_is = ap (λ (x : Program). x.body) kept.program

    walk_is : said new u ≡ unwound_program pr
    unfolding unwound_program
    walk_is =
        d.is inside (kept.cells ∙ ap (λ vs. length (cells_of vs)) (sym kept.variables))
        ∙ ap (λ vs. unwind vs (front_at t p (child_of p r.root 2) S.done) (replicate r.cells 0) no_selector 0) kept.variables
        ∙ ap (λ k. unwind (variables_of pr.declared) k (replicate r.cells 0) no_selector 0) body_is
        ∙ ap (λ n. unwind (variables_of pr.declared) pr.body (replicate n 0) no_selector 0) kept.cells

    judge_is : judge t ≡ (said new u >>= accepted pr)
    judge_is =
        judge_begins t
        ∙ ap (λ a. a >>= unwound) there.1
        ∙ ap (λ o. o >>= accepted pr) (sym walk_is)

  -- 8 and 9
  pub refused_walking : (old new : List ℕ) (e : Refusal) → ProgramDid t p (take (4 * r.variables) table) r.cells r.root old new (Err e)
      → Gives (Stands t p table new) (judge t) (Err e)
  refused_walking old new e d =
      subst (λ a. Gives (Stands t p table new) a (Err e)) (sym (judge_is old new (Err e) d)) refl

  -- the accepted program
  abbrev pub whole : Walk → Judged
  whole w = record { root = r.root; variables = r.variables; cells = r.cells; list = w.root; weight = w.weight }

  pub stands : (old new : List ℕ) (w : Walk) → ProgramDid t p (take (4 * r.variables) table) r.cells r.root old new (Ok w) → 48016 ≤ length old
      → Gives (Stands t p table new) (judge t) (Ok (whole w))
  stands old new w d l =
      let goes : Goes 0 0 w = d.goes in
      subst (λ a. Gives (Stands t p table new) a (Ok (whole w))) (sym (judge_is old new (Ok w) d))
      (record {
        root = kept.root;
        program = kept.program;
        room = kept.room;
        variables = kept.variables;
        cells = kept.cells;
        few = kept.few;
        list = omega (arith, goes.root, goes.grown, goes.light, d.long, l);
        plain = refl;
        weight = refl;
        light = goes.light;
      })
