-- The head of a FOR: its variable's cell, its values, and when there is one.
use mathlib.Core.Path.{◌≡◌, refl, sym, ap, ◌∙◌}
use mathlib.Core.Bool.{Bool, true, false, cond, ◌&&◌}
use mathlib.Core.Option.{Option, none, some, some_inj}
use mathlib.Core.List.{List}
use Prim.Native.Nat.{ℕ, zero, suc, ◌+◌, ◌%◌, ◌^◌, ◌≤◌, ◌<◌}
use native.Mathlib.Omega.{arith}
use borrow.Author.Tests.{leb-true, ne_eqb}
use lib.Dec.{leb}
use lib.IntN.{ℤ, pos, negsuc, nat_abs}
use lib.ListN.{length}
use mir.Syntax.{w64}
use mir.Val.{SFits, of_z}
use Rattle.paper.specs.declared.Ty.{Ty}
use Rattle.std.specs.Prelude.{Some, None}
use Rattle.paper.specs.declared.Cell.{Cell}
use Rattle.paper.specs.Types.{width, signed, reading, decode}
use Rattle.paper.specs.Source as S
use Rattle.paper.specs.Source.{Name}
use Rattle.paper.specs.Names.{Variable, find}
use Rattle.paper.specs.Typing.{is_zero, type_of_name, type_in}
use Rattle.paper.specs.Plain.{State}
use Rattle.paper.specs.Meaning.{◌>>=◌, cell_of_variable, variable_cell, value, whole_value}
use Rattle.tree.specs.Nodes.{child_of}
use Rattle.tree.specs.Trees.{place_at, name_at, expr_at}
use Rattle.constants.proofs.Types.{type_of_name_lem}
use Rattle.value.proofs.Residues.{modulus_small, wrapped_below}
use Rattle.unwind.specs.Parts.{Inside}
use Rattle.unwind.specs.Loops.{Worked, head_in, head_at, Small, HeadDid}
use Rattle.unwind.proofs.Insides.{none_some, variable_inside}
use Rattle.unwind.proofs.Values.{small_fits, back, back_small}

-- ---- values are small

decode_small : (t : Ty) (r : ℕ) → Small (decode t r)
unfolding decode
decode_small t r = go (signed t) (leb (2 ^ width t) (x + x)) refl
  where
    x : ℕ
    x = r % 2 ^ width t

    go : (s b : Bool) → leb (2 ^ width t) (x + x) ≡ b → nat_abs (reading (s && b) (2 ^ width t) x) < 4294967296
    go true true e = omega (arith, leb-true (2 ^ width t) (x + x) e, modulus_small t, wrapped_below t r)
    go true false e = omega (arith, modulus_small t, wrapped_below t r)
    go false b e = omega (arith, modulus_small t, wrapped_below t r)

whole_small : (vs : List Variable) (env : State) (t : Ty) (e : S.Expr) (z : ℤ) → some z ≡ whole_value vs env t e → Small z
unfolding whole_value
whole_small vs env t e z h = go (value vs env t e) h
  where
    go : (o : Option ℕ) → some z ≡ (o >>= λ x. some (decode (type_in vs t e) x)) → Small z
    go none h = none_some (sym h)
    go (some x) h = rw (some_inj.0 h) (decode_small (type_in vs t e) x)

-- ---- the machine's test for zero

is_zero_bits : (z : ℤ) → SFits w64 z → of_z w64 z ≡ 0 → is_zero z ≡ true
is_zero_bits (pos zero) f e = refl
is_zero_bits (pos (suc n)) f e = absurd (omega arith)
is_zero_bits (negsuc n) f e = absurd (omega (arith, f.sfits))

not_zero_bits : (z : ℤ) → (of_z w64 z ≡ 0 → ⊥) → is_zero z ≡ false
not_zero_bits (pos zero) h = absurd (h refl)
not_zero_bits (pos (suc n)) h = ne_eqb (suc n) 0 (λ e. omega arith)
not_zero_bits (negsuc n) h = refl

-- ---- from what is looked up to the head

module _ (vs : List Variable) (env : State) (n : Name) (A B C : S.Expr) where
  module _ (t : Ty) (cell : Cell) (ecell : some cell ≡ variable_cell vs n) (et : t ≡ type_of_name vs n) where
    abbrev head : ℤ → ℤ → ℤ → Worked
    head by from to = record { ty = t; cell = cell; by = by; from = from; to = to }

    abbrev at : Ty → Cell → Option Worked
    at u c =
        whole_value vs env u C >>= λ by.
        whole_value vs env u A >>= λ from.
        whole_value vs env u B >>= λ to. cond (is_zero by) none (some (record { ty = u; cell = c; by = by; from = from; to = to }))

    abbrev last : ℤ → ℤ → ℤ → Option Worked
    last by from to = cond (is_zero by) none (some (head by from to))

    named : at t cell ≡ head_in vs env n A B C
    named = go (find n vs) refl
      where
        go : (f : Option Variable) → find n vs ≡ f → at t cell ≡ head_in vs env n A B C
        go none e = none_some (sym (ecell ∙ ap (λ f. f >>= cell_of_variable) e))
        go (some v) e =
            ap (λ u. at u cell) (et ∙ sym (type_of_name_lem vs n v e))
            ∙ ap (λ o. o >>= at v.declared.ty) (ecell ∙ ap (λ f. f >>= cell_of_variable) e)
            ∙ sym (ap (λ f. f >>= λ v. cell_of_variable v >>= at v.declared.ty) e)

    pub no_step : none ≡ whole_value vs env t C → none ≡ head_in vs env n A B C
    no_step h = ap (λ o. o >>= λ by. whole_value vs env t A >>= λ from. whole_value vs env t B >>= last by from) h ∙ named

    module _ (by : ℤ) (eby : some by ≡ whole_value vs env t C) where
      with_step : (whole_value vs env t A >>= λ from. whole_value vs env t B >>= last by from) ≡ head_in vs env n A B C
      with_step = ap (λ o. o >>= λ by. whole_value vs env t A >>= λ from. whole_value vs env t B >>= last by from) eby ∙ named

      pub no_start : none ≡ whole_value vs env t A → none ≡ head_in vs env n A B C
      no_start h = ap (λ o. o >>= λ from. whole_value vs env t B >>= last by from) h ∙ with_step

      module _ (from : ℤ) (efrom : some from ≡ whole_value vs env t A) where
        with_start : (whole_value vs env t B >>= last by from) ≡ head_in vs env n A B C
        with_start = ap (λ o. o >>= λ from. whole_value vs env t B >>= last by from) efrom ∙ with_step

        pub no_end : none ≡ whole_value vs env t B → none ≡ head_in vs env n A B C
        no_end h = ap (λ o. o >>= last by from) h ∙ with_start

        module _ (to : ℤ) (eto : some to ≡ whole_value vs env t B) where
          with_end : last by from to ≡ head_in vs env n A B C
          with_end = ap (λ o. o >>= last by from) eto ∙ with_start

          pub step_zero : is_zero by ≡ true → none ≡ head_in vs env n A B C
          step_zero h = ap (λ b. cond b none (some (head by from to))) (sym h) ∙ with_end

          pub all_there : is_zero by ≡ false → some (head by from to) ≡ head_in vs env n A B C
          all_there h = ap (λ b. cond b none (some (head by from to))) (sym h) ∙ with_end

          pub all_small : Small by × Small from × Small to
          all_small = (whole_small vs env t C by eby, whole_small vs env t A from efrom, whole_small vs env t B to eto)

-- ---- at a node

module _ (vs : List Variable) (t p : List ℕ) (env : State) (i h g n x y z : ℕ)
    (eh : h ≡ child_of p i 1) (eg : g ≡ child_of p h 1) (en : n ≡ place_at p h) (ex : x ≡ child_of p h 2) (ey : y ≡ child_of p g 1) (ez : z ≡ child_of p g 2) where
  abbrev of : ℕ → S.Expr
  of j = expr_at t p j

  head_at_lem : head_in vs env (name_at t n) (of y) (of z) (of x) ≡ head_at vs t p env i
  head_at_lem = rw (ex, ey, ez, en, eg, eh)

  abbrev named-cell : Option Cell
  named-cell = variable_cell vs (name_at t n)

  abbrev here : Option Worked
  here = head_in vs env (name_at t n) (of y) (of z) (of x)

  none_did : (Inside (length env) vs → none ≡ here) → HeadDid vs t p env i None
  none_did h = record { stands = tt; is = λ ins. h ins ∙ head_at_lem }

  module _ (cell : ℕ) (ty : Ty) (ecell : some (record { 0 = cell }) ≡ named-cell) (et : ty ≡ type_of_name vs (name_at t n)) where
    pub no_step_did : none ≡ whole_value vs env ty (of x) → HeadDid vs t p env i None
    no_step_did h = none_did (λ ins. no_step vs env (name_at t n) (of y) (of z) (of x) ty _ ecell et h)

    module _ (by : ℤ) (eby : some by ≡ whole_value vs env ty (of x)) where
      pub no_start_did : none ≡ whole_value vs env ty (of y) → HeadDid vs t p env i None
      no_start_did h = none_did (λ ins. no_start vs env (name_at t n) (of y) (of z) (of x) ty _ ecell et by eby h)

      module _ (from : ℤ) (efrom : some from ≡ whole_value vs env ty (of y)) where
        pub no_end_did : none ≡ whole_value vs env ty (of z) → HeadDid vs t p env i None
        no_end_did h = none_did (λ ins. no_end vs env (name_at t n) (of y) (of z) (of x) ty _ ecell et by eby from efrom h)

        module _ (to : ℤ) (eto : some to ≡ whole_value vs env ty (of z)) where
          small : Small by × Small from × Small to
          small = all_small vs env (name_at t n) (of y) (of z) (of x) ty _ ecell et by eby from efrom to eto

          pub beyond_did : length env ≤ cell → HeadDid vs t p env i None
          beyond_did l = none_did (λ ins. absurd (omega (arith, variable_inside vs (length env) ins (record { 0 = cell }) (name_at t n) (sym ecell))))

          pub zero_did : of_z w64 by ≡ 0 → HeadDid vs t p env i None
          zero_did e =
              none_did (λ ins. step_zero vs env (name_at t n) (of y) (of z) (of x) ty _ ecell et by eby from efrom to eto (is_zero_bits by (small_fits by small.0) e))

          pub head_did : (q : ℕ) → q ≡ place_at p i → cell < length env → (of_z w64 by ≡ 0 → ⊥)
              → HeadDid vs t p env i (Some (record { place = q; cell = cell; ty = ty; by = back by; from = back from; to = back to }))
          head_did q eq l e =
              let steps = not_zero_bits by e in
              rw (back_small by small.0, back_small from small.1, back_small to small.2)
              (record {
                stands = record { place = eq; inside = l; steps = steps; small = small };
                is = λ ins. all_there vs env (name_at t n) (of y) (of z) (of x) ty _ ecell et by eby from efrom to eto steps ∙ head_at_lem;
              })
