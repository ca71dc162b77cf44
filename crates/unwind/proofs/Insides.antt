-- The cell of a name or an element, where there is one, is among the cells of its variable.
use mathlib.Core.Path.{◌≡◌, refl, sym, ap}
use mathlib.Core.Bool.{Bool, true, false, cond, ◌&&◌, false≢true}
use mathlib.Core.Option.{Option, none, some, some_inj}
use mathlib.Core.List.{List}
use Prim.Native.Nat.{ℕ, zero, suc, ◌+◌, ◌-◌, ◌≤◌, ◌<◌}
use native.Mathlib.Omega.{arith}
use borrow.Author.Tests.{leb-true, le-ltb}
use lib.Dec.{leb}
use lib.IntN.{ℤ, pos, negsuc, nat_abs, ◌-ℤ◌}
use lib.Signed.{le_z}
use Rattle.paper.specs.declared.Cell.{Cell}
use Rattle.paper.specs.declared.Ty.TheVariants.{Dint as DINT}
use Rattle.paper.specs.declared.Why.TheVariants.{BadWalk}
use Rattle.paper.specs.Refusals.{refused, given}
use Rattle.paper.specs.Source as S
use Rattle.paper.specs.Source.{Name, Bounds, single, array}
use Rattle.paper.specs.Names.{Variable, size_of, find}
use Rattle.paper.specs.Plain.{State}
use Rattle.paper.specs.Meaning.{cell_of_variable, cell_of_element, variable_cell, element_cell, whole_value, cell_of, ◌>>=◌ as ◌then◌}
use Rattle.paper.specs.Unwinding.{bracket_of, cell_in}
use Rattle.unwind.specs.Parts.{Inside}

pub none_some : {A X : Type 0} {a : A} → none ≡ some a → X
none_some e = let z : ◌≡◌ {A = ℕ} 0 1 = cc in absurd (omega arith)

pub both_true : (a b : Bool) → (a && b) ≡ true → (a ≡ true) × (b ≡ true)
both_true true b e = (refl, e)
both_true false b e = absurd (false≢true e)

-- ---- one variable

element_inside : (lo hi : ℕ) (z : ℤ) → (le_z (pos lo) z && le_z z (pos hi)) ≡ true → nat_abs (z -ℤ pos lo) < suc hi - lo
element_inside zero hi (pos a) h = omega (arith, leb-true a hi (both_true (leb zero a) (leb a hi) h).1)
element_inside (suc lo) hi (pos a) h =
    let both = both_true (leb (suc lo) a) (leb a hi) h in
    let low : suc lo ≤ a = leb-true (suc lo) a both.0 in
    rw (le-ltb a (suc lo) low) (omega (arith, leb-true a hi both.1))
element_inside zero hi (negsuc a) h = absurd (false≢true h)
element_inside (suc lo) hi (negsuc a) h = absurd (false≢true h)

module _ (v : Variable) (c : Cell) where
  abbrev Within : Type 0
  Within = c.0 < v.first + size_of v.declared.bounds

  variable_within : cell_of_variable v ≡ some c → Within
  variable_within h = go v.declared.bounds refl
    where
      go : (b : Bounds) → v.declared.bounds ≡ b → Within
      go single e =
          let i : c ≡ record { 0 = v.first } = sym (some_inj.0 (rw e at h)) in
          rw e (omega (arith, ap (λ (x : Cell). x.0) i))
      go (array p lo q hi) e = none_some (rw e at h)

  element_within : (z : ℤ) → cell_of_element v z ≡ some c → Within
  element_within z h = go v.declared.bounds refl
    where
      among : (lo hi : ℕ) → size_of v.declared.bounds ≡ suc hi - lo → (b : Bool) → (le_z (pos lo) z && le_z z (pos hi)) ≡ b
          → cond b (some (record { 0 = v.first + nat_abs (z -ℤ pos lo) })) none ≡ some c → Within
      among lo hi e true t h =
          let is : c.0 ≡ v.first + nat_abs (z -ℤ pos lo) = ap (λ (x : Cell). x.0) (sym (some_inj.0 h)) in
          rw e (omega (arith, element_inside lo hi z t, is))
      among lo hi e false t h = none_some h

      go : (b : Bounds) → v.declared.bounds ≡ b → Within
      go single e = none_some (rw e at h)
      go (array p lo q hi) e = among lo hi (rw e) (le_z (pos lo) z && le_z z (pos hi)) refl (rw e at h)

-- ---- all

module _ (vs : List Variable) (size : ℕ) (ins : Inside size vs) (c : Cell) where
  pub variable_inside : (n : Name) → variable_cell vs n ≡ some c → c.0 < size
  variable_inside n h = go (find n vs) refl h
    where
      go : (f : Option Variable) → find n vs ≡ f → (f then cell_of_variable) ≡ some c → c.0 < size
      go none e h = none_some h
      go (some v) e h = omega (arith, ins n v e, variable_within v c h)

  element_inside_of : (n : Name) (z : Option ℤ) → element_cell vs n z ≡ some c → c.0 < size
  element_inside_of n none h = none_some h
  element_inside_of n (some z) h = go (find n vs) refl h
    where
      go : (f : Option Variable) → find n vs ≡ f → (f then λ v. cell_of_element v z) ≡ some c → c.0 < size
      go none e h = none_some h
      go (some v) e h = omega (arith, ins n v e, element_within v c z h)

  pub cell_inside : (env : State) (e : S.Expr) → cell_of vs env e ≡ some c → c.0 < size
  unfolding cell_of
  cell_inside env (S.number p z) h = none_some h
  cell_inside env (S.truth p b) h = none_some h
  cell_inside env (S.variable p n) h = variable_inside n h
  cell_inside env (S.element p n q i) h = element_inside_of n (whole_value vs env DINT i) h
  cell_inside env (S.minus p e) h = none_some h
  cell_inside env (S.complement p e) h = none_some h
  cell_inside env (S.binary p o l r) h = none_some h
  cell_inside env (S.conversion p t u e) h = none_some h
  cell_inside env (S.brackets p e) h = none_some h

-- ---- the cell looked for

module _ (vs : List Variable) (env : State) (e : S.Expr) where
  pub cell_given : (c : Cell) → some c ≡ cell_of vs env e → cell_in vs env e ≡ given c
  unfolding cell_in
  cell_given c h = rw (sym h) refl

  pub cell_refused : none ≡ cell_of vs env e → cell_in vs env e ≡ refused BadWalk (bracket_of e)
  unfolding cell_in
  cell_refused h = rw (sym h) refl
