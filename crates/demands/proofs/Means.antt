-- What it is for plain statements to mean a run: they run as it does, have types, leave the variables of the FORs around alone, and weigh what was counted.
use mathlib.Core.Path.{◌≡◌, refl, sym, ap, ◌∙◌}
use mathlib.Core.Bool.{Bool, true, false, true≢false}
use mathlib.Core.Option.{Option, some}
use mathlib.Core.List.{List}
use Prim.Native.Nat.{ℕ, ◌+◌, ◌≤◌}
use native.Mathlib.Omega.{arith}
use borrow.Author.Tests.{ne_eqb}
use lib.Dec.{eqb}
use lib.IntN.{ℤ, pos}
use lib.ListN.{length}
use Rattle.paper.specs.declared.Cell.{Cell}
use Rattle.paper.specs.Types.{encode, decode}
use Rattle.paper.specs.Words.{same_bytes}
use Rattle.paper.specs.Source.{Name, Declared}
use Rattle.paper.specs.Names.{Variable, Info, variables_of, cells_of, find, is_among}
use Rattle.paper.specs.Plain.{Stmts, State, Ran, value_of, run, weight, assigns, ◌⨾◌}
use Rattle.paper.specs.Meaning.{variable_cell, cell_of_variable, ◌>>=◌}
use Rattle.paper.specs.Unwinding.{Unwound, Selector, no_selector}
use Rattle.demands.proofs.Answers.{bind_some}
use Rattle.demands.proofs.Typed.{WellTyped}
use Rattle.demands.proofs.Cells.{CellOf, same_bytes_eq, variable_cell_lem, find_apart}
use Rattle.demands.proofs.PlainRuns.{run-⨾, assigns-⨾, weight-⨾, welltyped-⨾, run_keeps, run_length}
use Rattle.demands.proofs.Expressions.{Agree}

abbrev pub Vars : List Declared → List Variable
Vars ds = variables_of ds

abbrev pub Infos : List Declared → List Info
Infos ds = cells_of (variables_of ds)

-- the selector's value
abbrev pub selected : Selector → State → ℤ
selected sel s = decode sel.ty (value_of s sel.plain)

-- no assignment names a variable of the FORs around
abbrev pub Keeps : List Declared → List Name → Stmts → Type 0
Keeps ds loops p = (n : Name) (c : Cell) → is_among n loops ≡ true → variable_cell (Vars ds) n ≡ some c → assigns p c.0 ≡ false

-- the run f is that of p, where the states agree on the variables of the FORs around and the selector is worth z
abbrev pub Runs : List Declared → List Name → State → Selector → ℤ → (Ran → Option Ran) → Stmts → Type 0
Runs ds loops env sel z f p = (r : Ran) → length r.state ≡ length (Infos ds) → Agree (Vars ds) loops env r.state → selected sel r.state ≡ z
    → f r ≡ some (run p r)

-- u is what a walk from the weight w gave for the run f, in a CASE whose selector is worth z
pub record Means (ds : List Declared) (loops : List Name) (env : State) (sel : Selector) (z : ℤ) (f : Ran → Option Ran) (w : ℕ) (u : Unwound) : Type 0 where
  pub same : Runs ds loops env sel z f u.plain
  pub typed : WellTyped (Infos ds) u.plain
  pub keeps : Keeps ds loops u.plain
  pub weighed : u.weight ≡ w + weight (length (Infos ds)) u.plain
  pub light : w ≤ 3000 → u.weight ≤ 3000

-- outside a CASE there is nothing to select
pub none_selected : (s : State) → selected no_selector s ≡ pos 0
unfolding decode encode value_of
none_selected s = refl

-- what keeps the FORs' variables keeps the agreement
pub still_agree : (ds : List Declared) (loops : List Name) (env : State) (p : Stmts) (r : Ran) → Keeps ds loops p
    → Agree (Vars ds) loops env r.state → Agree (Vars ds) loops env (run p r).state
still_agree ds loops env p r k g n c a e = g n c a e ∙ sym (run_keeps p r c.0 (k n c a e))

keeps-⨾ : (ds : List Declared) (loops : List Name) (p q : Stmts) → Keeps ds loops p → Keeps ds loops q → Keeps ds loops (p ⨾ q)
keeps-⨾ ds loops p q h k n c a e = assigns-⨾ p q c.0 ∙ rw (h n c a e) (k n c a e)

-- one run behind another
pub then : {ds : List Declared} {loops : List Name} {env : State} {sel : Selector} {z : ℤ} {f g : Ran → Option Ran} {w : ℕ} {u y : Unwound}
    → Means ds loops env sel z f w u
    → Means ds loops env no_selector (pos 0) g u.weight y
    → Means ds loops env sel z (λ r. f r >>= g) w (record { plain = u.plain ⨾ y.plain; weight = y.weight })
then {ds} {loops} {env} {sel} {z} {f} {g} {w} {u} {y} a b =
    record {
      same = λ r l ag s.
          rw (a.same r l ag s)
          (b.same (run u.plain r) (run_length u.plain r ∙ l) (still_agree ds loops env u.plain r a.keeps ag) (none_selected _)
          ∙ ap some (sym (run-⨾ u.plain y.plain r)));
      typed = welltyped-⨾ (Infos ds) u.plain y.plain a.typed b.typed;
      keeps = keeps-⨾ ds loops u.plain y.plain a.keeps b.keeps;
      weighed = b.weighed ∙ rw (a.weighed, weight-⨾ (length (Infos ds)) u.plain y.plain) (omega arith);
      light = λ h. b.light (a.light h);
    }

-- the same statements mean another run that they run as
pub restated : {ds : List Declared} {loops : List Name} {env : State} {sel sel' : Selector} {z z' : ℤ} {f g : Ran → Option Ran} {w : ℕ} {u : Unwound}
    → Means ds loops env sel z f w u → Runs ds loops env sel' z' g u.plain → Means ds loops env sel' z' g w u
restated a same = record { same = same; typed = a.typed; keeps = a.keeps; weighed = a.weighed; light = a.light }

-- the same run, spelled otherwise
pub respelled : {ds : List Declared} {loops : List Name} {env : State} {sel : Selector} {z : ℤ} {f g : Ran → Option Ran} {w : ℕ} {u : Unwound}
    → ((r : Ran) → Agree (Vars ds) loops env r.state → g r ≡ f r)
    → Means ds loops env sel z f w u → Means ds loops env sel z g w u
respelled e a = restated a (λ r l ag s. e r ag ∙ a.same r l ag s)

-- what needs no selector means the same in any CASE
pub anywhere : {ds : List Declared} {loops : List Name} {env : State} {sel : Selector} {z : ℤ} {f : Ran → Option Ran} {w : ℕ} {u : Unwound}
    → Means ds loops env no_selector (pos 0) f w u → Means ds loops env sel z f w u
anywhere a = restated a (λ r l g s. a.same r l g (none_selected r.state))

-- ---- a cell that is none of the FORs' variables

among_apart : (loops : List Name) (m n : Name) → is_among m loops ≡ false → is_among n loops ≡ true → same_bytes m n ≡ false
among_apart loops m n h k = go (same_bytes m n) refl
  where
    go : (b : Bool) → same_bytes m n ≡ b → same_bytes m n ≡ false
    go false e = e
    go true e = let s = same_bytes_eq m n e in let z : true ≡ false = sym k ∙ rw (← s) h in absurd (true≢false z)

pub free_cell : (ds : List Declared) (loops : List Name) (m : Name) (v : Variable) (c : Cell)
    → find m (Vars ds) ≡ some v → CellOf v c → is_among m loops ≡ false
    → (n : Name) (d : Cell) → is_among n loops ≡ true → variable_cell (Vars ds) n ≡ some d → eqb c.0 d.0 ≡ false
free_cell ds loops m v c f k free n d a e =
    let g = bind_some (find n (Vars ds)) cell_of_variable d e in
    ne_eqb c.0 d.0
    (find_apart ds m n v g.0 f g.1 (among_apart loops m n free a) c d k (variable_cell_lem g.0 d g.2))
