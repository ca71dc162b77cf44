-- Statements of the form of typed plain ones have no fault of names, types and heights, and unwind to the plain ones.
use mathlib.Core.Path.{◌≡◌, refl, sym, ap, ◌∙◌}
use mathlib.Core.Bool.{true, false, false≢true}
use mathlib.Core.Option.{Option, some, some_inj}
use mathlib.Core.List.{List, []}
use Prim.Native.Nat.{ℕ, ◌+◌, ◌≤◌}
use native.Mathlib.Omega.{arith}
use borrow.Author.Tests.{le-leb, le-ltb}
use lib.ListN.{length, get_elem?}
use Rattle.paper.specs.declared.Ty.{Ty}
use Rattle.paper.specs.declared.Ty.TheVariants.{Bool as BOOL, Dint as DINT}
use Rattle.paper.specs.declared.Cell.{Cell}
use Rattle.paper.specs.Refusals.{given}
use Rattle.paper.specs.Source as S
use Rattle.paper.specs.Names as N
use Rattle.paper.specs.Names.{Variable, Info, cells_of}
use Rattle.paper.specs.Typing as T
use Rattle.paper.specs.Typing.{Settled, judged, type_in}
use Rattle.paper.specs.Heights as H
use Rattle.paper.specs.Plain.{Expr, read, Stmts, done, assign, choice, State, parts, cells_within, weight}
use Rattle.paper.specs.Unwinding as U
use Rattle.paper.specs.Unwinding.{Unwound, Selector, no_selector}
use Rattle.demands.proofs.TypeFacts.{same_refl}
use Rattle.demands.proofs.Typed.{Typed, WellTyped}
use Rattle.demands.proofs.Cells.{info_of}
use Rattle.demands.proofs.Expressions.{Placed}
use Rattle.again.proofs.Forms.{At, Spelt, alone, element, Form, as_read, Forms, as_done, as_assign, as_choice, height}
use Rattle.again.proofs.Sure.{is_open, Sure, AllLow}
use Rattle.again.proofs.RejudgedExpressions.{same_height, no_subscripts, all_known, judged_form, closed, settled_form}
use Rattle.again.proofs.RewoundExpressions.{cell_again, type_in_form, plain_again}

-- ---- heights

measured : {vs : List Variable} {x : Expr} {e : S.Expr} → Form vs x e → height x ≤ 32 → H.measured e ≡ []
unfolding H.measured
measured {x = x} f h = rw (same_height f, le-ltb 32 (height x) h, no_subscripts f) refl

pub not_high : {vs : List Variable} {p : Stmts} {s : S.Stmts} → Forms vs p s → AllLow p → (n : ℕ) → H.statement_faults s n ≡ []
unfolding H.statement_faults
not_high as_done l n = refl
not_high (as_assign y f k) l n = rw (no_subscripts (as_read y), measured f l.0.1, not_high k l.1 1) refl
not_high (as_choice f a b k) l n = rw (measured f l.0.1, not_high a l.1 1, not_high b l.2 1, not_high k l.3 1) refl

module _ (vs : List Variable) (placed : Placed vs) where
  abbrev is : List Info
  is = cells_of vs

  -- ---- names

  not_input : (v : Variable) (c : Cell) (i : Info) → At vs v c → get_elem? is c.0 ≡ some i → i.is_input ≡ false → N.is_input vs v.declared.name ≡ false
  unfolding N.is_input
  not_input v c i h e o =
      let same : info_of v ≡ i = some_inj.0 (sym (placed v.declared.name v h.found c h.cell) ∙ e) in
      rw (h.found, N.is_input) (ap (λ (j : Info). j.is_input) same ∙ o)

  assignable : (c : Cell) (y : S.Expr) (i : Info) → Spelt vs c y → get_elem? is c.0 ≡ some i → i.is_input ≡ false → N.assigned vs [] y ≡ []
  unfolding N.assigned N.is_among
  assignable c y i (alone v a b) e o = rw (not_input v c i a e o) refl
  assignable c y i (element v a lo b hi h x f) e o = rw (not_input v c i h e o) refl

  pub well_named : {p : Stmts} {s : S.Stmts} → Forms vs p s → WellTyped is p → N.statement_faults vs s [] ≡ []
  unfolding N.statement_faults
  well_named as_done t = refl
  well_named (as_assign {c = c} {y = y} h f k) t =
      rw (all_known vs (as_read h), assignable c y t.0.0 h t.0.1 t.0.2.0, all_known vs f, well_named k t.1) refl
  well_named (as_choice f a b k) t = rw (all_known vs f, well_named a t.1, well_named b t.2, well_named k t.3) refl

  -- ---- types

  demanded : (t : Ty) (p : ℕ) (s : Settled) → s.faults ≡ [] → s.ty ≡ t → T.demand_faults t p s ≡ []
  demanded t p s f e = rw (f, e, same_refl t) refl

  -- a condition is BOOL whatever is offered
  never_open : (x : Expr) (s : Ty) → Typed is x BOOL → Sure x → is_open x ≡ true → s ≡ BOOL
  never_open x s t h o = absurd (false≢true (sym (closed vs placed x t h) ∙ o))

  assigned_well : (q : ℕ) (c : Cell) (y : S.Expr) (x : Expr) (e : S.Expr) (t : Ty) → Spelt vs c y → Form vs x e → Typed is (read c) t → Typed is x t → Sure x
      → T.assign_faults q e (judged vs [] y) (judged vs [] e) ≡ []
  unfolding T.settled is_open
  assigned_well q c y x e t h f tc tx s =
      let settled = settled_form vs placed t t f tx s (λ _. refl) in
      rw (judged_form vs placed t (as_read h) tc tt) (demanded t q _ settled.0 settled.1)

  pub well_typed : {p : Stmts} {s : S.Stmts} → Forms vs p s → WellTyped is p → AllLow p → (sel : Option Ty) → T.statement_faults vs s [] sel ≡ []
  unfolding T.statement_faults
  well_typed as_done t l sel = refl
  well_typed (as_assign {c = c} {x = x} {y = y} {e = e} {q = q} h f k) t l sel =
      rw (assigned_well q c y x e t.0.0.ty h f (t.0.0, t.0.1, refl) t.0.2.1 l.0.0, well_typed k t.1 l.1 (some DINT)) refl
  well_typed (as_choice {x = x} {p = p} f a b k) t l sel =
      let settled = settled_form vs placed BOOL DINT f t.0 l.0.0 (never_open x DINT t.0 l.0.0) in
      rw (
        demanded BOOL p _ settled.0 settled.1,
        well_typed a t.1 l.1 (some DINT),
        well_typed b t.2 l.2 (some DINT),
        well_typed k t.3 l.3 (some DINT),
      ) refl

  -- ---- the walk

  -- the plain statements, w and their weight
  abbrev walked : Stmts → ℕ → Unwound
  walked p w = record { plain = p; weight = w + weight (length is) p }

  light : (p n w : ℕ) → w + n ≤ 3000 → U.heavier p n w ≡ given (w + n)
  light p n w h = rw (le-leb (w + n) 3000 h) refl

  found_cell : (env : State) (c : Cell) (y : S.Expr) → Spelt vs c y → U.cell_in vs env y ≡ given c
  unfolding U.cell_in
  found_cell env c y h = rw (cell_again vs env c y h, U.cell_in) refl

  target_type : (c : Cell) (y : S.Expr) (t : Ty) → Spelt vs c y → Typed is (read c) t → type_in vs DINT y ≡ t
  unfolding is_open
  target_type c y t h ty = type_in_form vs placed t DINT (as_read h) ty tt (λ k. absurd (false≢true k))

  pub walks : {p : Stmts} {s : S.Stmts} → Forms vs p s → WellTyped is p → AllLow p → (env : State) (sel : Selector) (w : ℕ)
      → w + weight (length is) p ≤ 3000 → U.unwind vs s env sel w ≡ given (walked p w)
  unfolding U.unwind weight
  walks as_done t l env sel w h = ap (λ m. given (record { plain = done; weight = m })) (omega arith)
  walks (as_assign {c = c} {x = x} {r = r} {y = y} {e = e} h f k) t l env sel w b =
      let u = t.0.0.ty in
      rw (
        found_cell env c y h,
        target_type c y u h (t.0.0, t.0.1, refl),
        plain_again vs placed env u u f t.0.2.1 l.0.0 (λ _. refl),
        light (H.first_word y) (parts x) w (omega arith),
        walks k t.1 l.1 env no_selector (w + parts x) (omega arith),
      )
      (ap (λ m. given (record { plain = assign c x r; weight = m })) (omega arith))
  walks (as_choice {x = x} {a = a} {b = b} {r = r} {e = e} {q = q} f ha hb k) t l env sel w h =
      let n = length is in
      let w₁ = w + parts x in
      let w₂ = w₁ + weight n a in
      let w₃ = w₂ + weight n b in
      let w₄ = w₃ + cells_within n a b in
      rw (
        plain_again vs placed env DINT BOOL f t.0 l.0.0 (never_open x DINT t.0 l.0.0),
        light q (parts x) w (omega arith),
        walks ha t.1 l.1 env no_selector w₁ (omega arith),
        walks hb t.2 l.2 env no_selector w₂ (omega arith),
        light q (cells_within n a b) w₃ (omega arith),
        walks k t.3 l.3 env no_selector w₄ (omega arith),
      )
      (ap (λ m. given (record { plain = choice x a b r; weight = m })) (omega arith))
