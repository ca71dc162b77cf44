-- What typing leaves in the plain form of an expression without faults; and that it is as high as the expression.
use mathlib.Core.Path.{◌≡◌, refl, sym, ap, ◌∙◌}
use mathlib.Core.Bool.{Bool, true, false, ◌&&◌, false≢true}
use mathlib.Core.Option.{Option, none, some}
use mathlib.Core.List.{List}
use Prim.Native.Nat.{ℕ, suc}
use Rattle.paper.specs.declared.Ty.{Ty}
use Rattle.paper.specs.declared.Ty.TheVariants.{Bool as BOOL, Dint as DINT}
use Rattle.paper.specs.declared.Op.{Op}
use Rattle.paper.specs.Refusals.{given, ◌>>=◌}
use Rattle.paper.specs.Types.{sort_of, is_arithmetic}
use Rattle.paper.specs.Source as S
use Rattle.paper.specs.Source.{Name}
use Rattle.paper.specs.Names.{Variable}
use Rattle.paper.specs.Typing as T
use Rattle.paper.specs.Typing.{judged, type_of, type_in, operand_type}
use Rattle.paper.specs.Heights as H
use Rattle.paper.specs.Plain.{Expr, number, truth, read, minus, complement, binary, conversion, State}
use Rattle.paper.specs.Unwinding.{cell_in, plain_of}
use Rattle.demands.proofs.Answers.{given_same, bind_given}
use Rattle.demands.proofs.Judgements.{operand_type_lem}
use Rattle.demands.proofs.Fits.{Operands, Converted, Fits, fit_number, fit_minus, fit_complement, fit_binary, fit_conversion, fit_brackets}
use Rattle.again.proofs.Forms.{height}
use Rattle.again.proofs.Sure.{is_open, Sure}

abbrev pub is_none : Option Ty → Bool
is_none none = true
is_none (some t) = false

-- what is known of the plain form x of e
pub record SureForm (vs : List Variable) (e : S.Expr) (x : Expr) : Type 0 where
  pub sure : Sure x
  pub open' : is_open x ≡ is_none (type_of vs e)
  pub high : height x ≡ H.height e

no_type : (o : Option Ty) → is_none o ≡ true → o ≡ none
no_type none h = refl
no_type (some t) h = absurd (false≢true h)

-- an operator is open where it is arithmetic on open operands
open_both : (a : Bool) (m n : Option Ty) → (a && (is_none m && is_none n)) ≡ is_none (elim a [ true ↦ T.either m n | false ↦ some BOOL ])
open_both true none n = refl
open_both true (some t) n = refl
open_both false m n = refl

module _ (vs : List Variable) (loops : List Name) (env : State) where
  binary_sure : (t : Ty) (p : ℕ) (o : Op) (l r : S.Expr) (x y : Expr) → SureForm vs l x → SureForm vs r y
      → SureForm vs (S.binary p o l r) (binary o (operand_type vs t o l r) x y)
  unfolding is_open height H.height type_of
  binary_sure t p o l r x y f g =
      record {
        sure = (
          f.sure,
          g.sure,
          λ a ol or.
              operand_type_lem vs t o l r none none (no_type (type_of vs l) (sym f.open' ∙ ol)) (no_type (type_of vs r) (sym g.open' ∙ or)) ∙ rw a refl,
        );
        open' = rw (f.open', g.open') (open_both (is_arithmetic (sort_of o)) (type_of vs l) (type_of vs r));
        high = rw (f.high, g.high) refl;
      }

  pub sure_form : (t : Ty) (e : S.Expr) (x : Expr) → Fits vs loops t e → plain_of vs env t e ≡ given x → SureForm vs e x
  unfolding judged plain_of is_open height H.height type_of
  sure_form t (S.number p z) x h k =
      let e : x ≡ number t z = cc in
      rw e (record { sure = (h.offered refl, fit_number t p z h); open' = refl; high = refl })
  sure_form t (S.truth p b) x h k =
      let e : x ≡ truth b = cc in
      rw e (record { sure = tt; open' = refl; high = refl })
  sure_form t (S.variable p n) x h k =
      let (c, f, e) = bind_given (cell_in vs env (S.variable p n)) (λ c. given (read c)) x k in
      rw (← given_same e) (record { sure = tt; open' = refl; high = refl })
  sure_form t (S.element p n q i) x h k =
      let (c, f, e) = bind_given (cell_in vs env (S.element p n q i)) (λ c. given (read c)) x k in
      rw (← given_same e) (record { sure = tt; open' = refl; high = refl })
  sure_form t (S.minus p e) x h k =
      let (y, f, k') = bind_given (plain_of vs env t e) (λ y. given (minus (type_in vs t e) y)) x k in
      let r = sure_form t e y (fit_minus vs loops t p e h).0 f in
      rw (← given_same k') (record { sure = r.sure; open' = r.open'; high = ap suc r.high })
  sure_form t (S.complement p e) x h k =
      let (y, f, k') = bind_given (plain_of vs env DINT e) (λ y. given (complement y)) x k in
      let r = sure_form DINT e y (fit_complement vs loops t p e h).0 f in
      rw (← given_same k') (record { sure = r.sure; open' = refl; high = ap suc r.high })
  sure_form t (S.binary p o l r) x h k =
      let u : Ty = operand_type vs t o l r in
      let m : Operands vs u o l r (judged vs loops l) (judged vs loops r) = fit_binary vs loops t p o l r h in
      let (y, f, k') = bind_given (plain_of vs env u l) (λ y. plain_of vs env u r >>= λ z. given (binary o u y z)) x k in
      let (z, f', k'') = bind_given (plain_of vs env u r) (λ z. given (binary o u y z)) x k' in
      rw (← given_same k'') (binary_sure t p o l r y z (sure_form u l y m.left.fit f) (sure_form u r z m.right.fit f'))
  sure_form t (S.conversion p u v e) x h k =
      let c : Converted vs u v e (judged vs loops e) = fit_conversion vs loops t p u v e h in
      let (y, f, k') = bind_given (plain_of vs env u e) (λ y. given (conversion u v y)) x k in
      let r = sure_form u e y c.fit f in
      rw (← given_same k') (record { sure = r.sure; open' = refl; high = ap suc r.high })
  sure_form t (S.brackets p e) x h k =
      let r = sure_form t e x (fit_brackets vs loops t p e h) k in
      record { sure = r.sure; open' = r.open'; high = r.high }
