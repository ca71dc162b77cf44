-- What holds of all places of a program, and of 0, holds of the place at which its walk is refused with 8 or 9.
use mathlib.Core.Bool.{Bool, true, false, cond}
use mathlib.Core.Option.{Option, none, some}
use mathlib.Core.List.{List}
use Prim.Native.Nat.{ℕ, zero, suc, ◌+◌}
use lib.Dec.{leb}
use lib.IntN.{ℤ, ◌+ℤ◌}
use lib.ListN.{length, replicate}
use Rattle.paper.specs.declared.Ty.{Ty}
use Rattle.paper.specs.declared.Ty.TheVariants.{Dint as DINT}
use Rattle.paper.specs.declared.Cell.{Cell}
use Rattle.paper.specs.declared.Why.TheVariants.{TooHeavy}
use Rattle.paper.specs.Refusals.{Answer, refused, given}
use Rattle.paper.specs.Types.{encode}
use Rattle.paper.specs.Source as S
use Rattle.paper.specs.Source.{Expr, Stmts, Program}
use Rattle.paper.specs.Names.{Variable, find, variables_of, cells_of}
use Rattle.paper.specs.Typing.{is_zero, type_in, operand_type}
use Rattle.paper.specs.Plain.{State, store, parts}
use Rattle.paper.specs.Meaning.{passed, enough, cell_of, cell_of_variable, whole_value}
use Rattle.paper.specs.Unwinding as U
use Rattle.paper.specs.Unwinding.{Unwound, Selector}
use Rattle.demands.proofs.Placed.{Expression, Statements, Whole, Answers, stopped, gave, Any, then, of_two}
use Rattle.demands.proofs.PlacedHeights.{first_at}

module _ (P : ℕ → Type 0) where
  -- refused at a place that P holds of, or given
  abbrev Ends : {A : Type 0} → Answer A → Type 0
  Ends o = Answers P Any o

  heavier_at : {p : ℕ} (n w : ℕ) → P p → Ends (U.heavier p n w)
  heavier_at {p} n w h = go (leb (w + n) 3000)
    where
      go : (b : Bool) → Ends (cond b (given (w + n)) (refused TooHeavy p))
      go true = gave tt
      go false = stopped h

  found_at : {A : Type 0} {p : ℕ} (o : Option A) → P p → Ends (U.found p o)
  found_at none h = stopped h
  found_at (some a) h = gave tt

  -- ---- FOR

  -- a pass, for any value and weight
  abbrev Body : (ℤ → ℕ → Answer Unwound) → Type 0
  Body body = (z : ℤ) (w : ℕ) → Ends (body z w)

  turns_at : (n : ℕ) (pass : ℤ → ℕ → Answer Unwound) (c b v : ℤ) (w : ℕ) → Body pass → Ends (U.turns n pass c b v w)
  unfolding U.turns
  turns_at zero pass c b v w h = gave tt
  turns_at (suc n) pass c b v w h =
      then (h v w) λ x _.
      of_two (passed c b (v +ℤ c))
      (gave tt)
      (then (turns_at n pass c b (v +ℤ c) x.weight h) λ y _. gave tt)

  pass_at : {p : ℕ} (t : Ty) (cell : Cell) (body : ℤ → ℕ → Answer Unwound) → P p → Body body → Body (U.pass_of p t cell body)
  unfolding U.pass_of
  pass_at t cell body hp h v w = then (heavier_at 1 w hp) λ w _. then (h v w) λ x _. gave tt

  looped_at : {p : ℕ} (t : Ty) (cell : Cell) (body : ℤ → ℕ → Answer Unwound) (c b a : ℤ) (w : ℕ) → P p → Body body
      → Ends (U.looped p t cell body c b a w)
  unfolding U.looped
  looped_at {p} t cell body c b a w hp h =
      of_two (is_zero c)
      (stopped hp)
      (of_two (passed c b a)
      (then (heavier_at 1 w hp) λ w _. gave tt)
      (turns_at (enough a b) (U.pass_of p t cell body) c b a w (pass_at t cell body hp h)))

  -- ---- expressions

  bracket_at : (x : Expr) → Expression P x → P (U.bracket_of x)
  bracket_at (S.number p z) h = h
  bracket_at (S.truth p b) h = h
  bracket_at (S.variable p n) h = h
  bracket_at (S.element p n q i) h = h.1
  bracket_at (S.minus p e) h = h.0
  bracket_at (S.complement p e) h = h.0
  bracket_at (S.binary p o l r) h = h.0
  bracket_at (S.conversion p t u e) h = h.0
  bracket_at (S.brackets p e) h = h.0

  module _ (vs : List Variable) where
    cell_at : (env : State) (x : Expr) → Expression P x → Ends (U.cell_in vs env x)
    unfolding U.cell_in
    cell_at env x h = found_at (cell_of vs env x) (bracket_at x h)

    plain_at : (env : State) (t : Ty) (e : Expr) → Expression P e → Ends (U.plain_of vs env t e)
    unfolding U.plain_of
    plain_at env t (S.number p z) h = gave tt
    plain_at env t (S.truth p b) h = gave tt
    plain_at env t (S.variable p n) h = then (cell_at env (S.variable p n) h) λ c _. gave tt
    plain_at env t (S.element p n q i) h = then (cell_at env (S.element p n q i) h) λ c _. gave tt
    plain_at env t (S.minus p e) h = then (plain_at env t e h.1) λ x _. gave tt
    plain_at env t (S.complement p e) h = then (plain_at env DINT e h.1) λ x _. gave tt
    plain_at env t (S.binary p o l r) h =
        let u : Ty = operand_type vs t o l r in
        then (plain_at env u l h.1) λ x _. then (plain_at env u r h.2) λ y _. gave tt
    plain_at env t (S.conversion p u v e) h = then (plain_at env u e h.1) λ x _. gave tt
    plain_at env t (S.brackets p e) h = plain_at env t e h.1

    -- ---- statements

    -- outside a CASE the selector's place is 0
    module _ (outside : P 0) where
      unwind_at : (s : Stmts) (env : State) (sel : Selector) (w : ℕ) → Statements P s → P sel.place
          → Ends (U.unwind vs s env sel w)
      unfolding U.unwind
      unwind_at S.done env sel w h hs = gave tt
      unwind_at (S.assign x q e k) env sel w h hs =
          then (cell_at env x h.0) λ c _.
          then (plain_at env (type_in vs DINT x) e h.2) λ v _.
          then (heavier_at (parts v) w (first_at P x h.0)) λ w _.
          then (unwind_at k env U.no_selector w h.3 outside) λ r _.
          gave tt
      unwind_at (S.choice p q c a b k) env sel w h hs =
          then (plain_at env DINT c h.2) λ v _.
          then (heavier_at (parts v) w h.1) λ w _.
          then (unwind_at a env U.no_selector w h.3 outside) λ x _.
          then (unwind_at b env U.no_selector x.weight h.4 outside) λ y _.
          then (heavier_at _ y.weight h.1) λ w _.
          then (unwind_at k env U.no_selector w h.5 outside) λ r _.
          gave tt
      unwind_at (S.select p s a k) env sel w h hs =
          then (plain_at env DINT s h.1) λ v _.
          then (unwind_at a env (record { place = p; plain = v; ty = type_in vs DINT s }) w h.2 h.0) λ x _.
          then (unwind_at k env U.no_selector x.weight h.3 outside) λ r _.
          gave tt
      unwind_at (S.arm ls a k) env sel w h hs =
          then (heavier_at (parts (U.tests_of sel ls)) w hs) λ w _.
          then (unwind_at a env U.no_selector w h.1 outside) λ x _.
          then (unwind_at k env sel x.weight h.2 hs) λ y _.
          then (heavier_at _ y.weight hs) λ w _.
          gave tt
      unwind_at (S.loop p q n a b c body k) env sel w h hs =
          then (found_at (find n vs) h.0) λ v _.
          then (found_at (cell_of_variable v) h.0) λ cell _.
          then (found_at (whole_value vs env v.declared.ty c) h.0) λ by _.
          then (found_at (whole_value vs env v.declared.ty a) h.0) λ from _.
          then (found_at (whole_value vs env v.declared.ty b) h.0) λ to _.
          then (looped_at v.declared.ty cell _ by to from w h.0 λ z w.
          unwind_at body (store cell (encode v.declared.ty z) env) U.no_selector w h.5 outside) λ x _.
          then (unwind_at k env U.no_selector x.weight h.6 outside) λ r _.
          gave tt

  pub walk_at : (pr : Program) → P 0 → Whole P pr → Ends (U.unwound_program pr)
  unfolding U.unwound_program
  walk_at pr z h =
      let vs : List Variable = variables_of pr.declared in
      unwind_at vs z pr.body (replicate (length (cells_of vs)) 0) U.no_selector 0 h.body z
