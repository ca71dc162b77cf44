-- The cells' infos by their numbers, one by one.
use mathlib.Core.Path.{◌≡◌, refl, sym, subst}
use mathlib.Core.Option.{Option, none, some}
use mathlib.Core.List.{List, [], ◌∷◌}
use Prim.Native.Nat.{ℕ, zero, suc, ◌/◌, ◌%◌, ◌≤◌, ◌<◌}
use native.Mathlib.Omega.{arith}
use lib.Dec.{eqb}
use lib.ListN.{length, get_or, drop, get_elem?, drop_of_length-le}
use lib.Seq.{drop-cons}
use Rattle.paper.specs.declared.Ty.{Ty}
use Rattle.paper.specs.declared.Ty.TheVariants.{Bool as BOOL, Int as INT, Uint as UINT, Dint as DINT, Udint as UDINT}
use Rattle.paper.specs.Types.{tag}
use Rattle.paper.specs.Names.{Info}
use Rattle.paper.specs.Meaning.{◌>>=◌}
use Rattle.paper.specs.Tables.{types, infos_of}
use Rattle.table.specs.Walks.{Says}

tag_at : (n : ℕ) (t : Ty) → get_elem? types n ≡ some t → tag t ≡ n
tag_at zero t e = let h : t ≡ BOOL = cc in rw h
tag_at (suc zero) t e = let h : t ≡ INT = cc in rw h
tag_at (suc (suc zero)) t e = let h : t ≡ UINT = cc in rw h
tag_at (suc (suc (suc zero))) t e = let h : t ≡ DINT = cc in rw h
tag_at (suc (suc (suc (suc zero)))) t e = let h : t ≡ UDINT = cc in rw h
tag_at (suc (suc (suc (suc (suc n))))) t e = let z : ◌≡◌ {A = ℕ} 0 1 = cc in absurd (omega arith)

-- the first, and the others
record First (x : ℕ) (xs : List ℕ) (is : List Info) : Type 0 where
  info : Info
  rest : List Info
  whole : is ≡ info ∷ rest
  says : Says x info
  more : infos_of xs ≡ some rest

first_of : (x : ℕ) (xs : List ℕ) (is : List Info) → infos_of (x ∷ xs) ≡ some is → First x xs is
unfolding infos_of
first_of x xs is e = go (get_elem? types (x % 8)) refl (infos_of xs) refl e
  where
    go : (o : Option Ty) → get_elem? types (x % 8) ≡ o → (q : Option (List Info)) → infos_of xs ≡ q
        → (o >>= λ t. q >>= λ js. some (record { ty = t; is_input = eqb (x / 8 % 2) 1 } ∷ js)) ≡ some is → First x xs is
    go none a q b d = let z : ◌≡◌ {A = ℕ} 0 1 = cc in absurd (omega arith)
    go (some t) a none b d = let z : ◌≡◌ {A = ℕ} 0 1 = cc in absurd (omega arith)
    go (some t) a (some js) b d =
        record {
          info = record { ty = t; is_input = eqb (x / 8 % 2) 1 };
          rest = js;
          whole = cc;
          says = (tag_at (x % 8) t a, refl);
          more = b;
        }

-- from a place on: what holds of a first one and the others, each read, holds of all
pub by_first : (infos : List ℕ) (i : ℕ) (is : List Info) → i < length infos → infos_of (drop i infos) ≡ some is → (P : List Info → Type 0)
    → ((j : Info) (js : List Info) → Says (get_or infos i 0) j → infos_of (drop (suc i) infos) ≡ some js → P (j ∷ js)) → P is
by_first infos i is l e P h =
    let f = first_of _ _ is (rw (drop-cons infos i 0 l) at e) in
    subst P (sym f.whole) (h f.info f.rest f.says f.more)

pub none_at : (infos : List ℕ) (i : ℕ) (is : List Info) → length infos ≤ i → infos_of (drop i infos) ≡ some is → is ≡ []
unfolding infos_of
none_at infos i is l e = let d : infos_of [] ≡ some is = rw (drop_of_length-le infos l) at e in cc
