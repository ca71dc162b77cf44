-- The plain form of what has a type of its own.
use mathlib.Core.Path.{◌≡◌, refl, ap, ap₂}
use mathlib.Core.Bool.{true, false≢true}
use mathlib.Core.List.{List}
use Rattle.paper.specs.declared.Ty.{Ty}
use Rattle.paper.specs.Refusals.{given, ◌>>=◌}
use Rattle.paper.specs.Source as S
use Rattle.paper.specs.Source.{Expr}
use Rattle.paper.specs.Names.{Variable}
use Rattle.paper.specs.Typing.{type_of}
use Rattle.paper.specs.Plain.{State, minus, binary}
use Rattle.paper.specs.Unwinding.{plain_of}
use Rattle.constants.specs.Answers.{is_typed}
use Rattle.constants.proofs.Types.{own_in, own_operands}

-- the plain form of what has a type of its own is the same whatever is offered
pub own_plain : (vs : List Variable) (env : State) (t u : Ty) (e : Expr) → is_typed (type_of vs e) ≡ true → plain_of vs env t e ≡ plain_of vs env u e
unfolding type_of plain_of
own_plain vs env t u (S.number p z) h = absurd (false≢true h)
own_plain vs env t u (S.truth p b) h = refl
own_plain vs env t u (S.variable p n) h = refl
own_plain vs env t u (S.element p n q i) h = refl
own_plain vs env t u (S.minus p e) h = ap₂ (λ o v. o >>= λ x. given (minus v x)) (own_plain vs env t u e h) (own_in vs t u e h)
own_plain vs env t u (S.complement p e) h = refl
own_plain vs env t u (S.binary p o l r) h =
    ap (λ v. plain_of vs env v l >>= λ x. plain_of vs env v r >>= λ y. given (binary o v x y)) (own_operands vs t u p o l r h)
own_plain vs env t u (S.conversion p v w e) h = refl
own_plain vs env t u (S.brackets p e) h = own_plain vs env t u e h
