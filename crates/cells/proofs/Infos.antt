-- Cells by their numbers: one way and back.
use mathlib.Core.Path.{◌≡◌, refl, ap₂, ◌∙◌}
use mathlib.Core.Bool.{Bool, true, false, cond}
use mathlib.Core.Option.{some}
use mathlib.Core.List.{List, [], ◌∷◌, map}
use Prim.Native.Nat.{ℕ, zero, suc, ◌+◌, ◌/◌, ◌%◌}
use lib.Dec.{eqb}
use lib.ListN.{get_or, get_elem?}
use Rattle.paper.specs.declared.Ty.{Ty}
use Rattle.paper.specs.declared.Ty.TheVariants.{Bool as BOOL, Int as INT, Uint as UINT, Dint as DINT, Udint as UDINT}
use Rattle.paper.specs.Types.{tag}
use Rattle.paper.specs.Names.{Info}
use Rattle.paper.specs.Tables.{types, infos_of}
use Rattle.demands.proofs.Answers.{none_some, bind_some}
use Rattle.cells.specs.Numbers.{info_of, number_of, Says}

found_at : {A : Type 0} (l : List A) (n : ℕ) (a d : A) → get_elem? l n ≡ some a → get_or l n d ≡ a
found_at [] n a d h = none_some h
found_at (x ∷ l) zero a d h = cc
found_at (x ∷ l) (suc n) a d h = found_at l n a d h

pub infos_map : (xs : List ℕ) (is : List Info) → infos_of xs ≡ some is → map info_of xs ≡ is
unfolding infos_of
infos_map [] is h = cc
infos_map (x ∷ xs) is h =
    let (t, e, k) = bind_some (get_elem? types (x % 8)) _ is h in
    let (js, f, g) = bind_some (infos_of xs) _ is k in
    let r : ◌≡◌ {A = List Info} (record { ty = t; is_input = eqb (x / 8 % 2) 1 } ∷ js) is = cc in
    ap₂ (λ u l. record { ty = u; is_input = eqb (x / 8 % 2) 1 } ∷ l) (found_at types (x % 8) t BOOL e) (infos_map xs js f) ∙ r

-- what holds of the cells read one by one
pub says : (xs : List ℕ) (P : List Info → Type 0) → P (map info_of xs) → Says xs P
says xs P h is e = rw (infos_map xs is e) at h

-- ---- and back

number_back : (t : Ty) (b : Bool) → (get_elem? types ((tag t + cond b 8 0) % 8) ≡ some t) × (eqb ((tag t + cond b 8 0) / 8 % 2) 1 ≡ b)
number_back BOOL true = (refl, refl)
number_back BOOL false = (refl, refl)
number_back INT true = (refl, refl)
number_back INT false = (refl, refl)
number_back UINT true = (refl, refl)
number_back UINT false = (refl, refl)
number_back DINT true = (refl, refl)
number_back DINT false = (refl, refl)
number_back UDINT true = (refl, refl)
number_back UDINT false = (refl, refl)

pub infos_back : (is : List Info) → infos_of (map number_of is) ≡ some is
unfolding infos_of
infos_back [] = refl
infos_back (i ∷ is) =
    let (t, b) = number_back i.ty i.is_input in
    rw (t, b, infos_back is)
