-- What a node of ST0 is by its kind, from the forms of the definitions.
use mathlib.Core.Path.{◌≡◌, sym, ap, ◌∙◌}
use mathlib.Core.Bool.{false}
use mathlib.Core.List.{List}
use Prim.Native.Nat.{ℕ, ◌-◌, ◌<◌}
use native.Mathlib.Omega.{arith}
use Rattle.std.proofs.Common.{Some, None, slice_get, inl, inr}
use Rattle.std.proofs.lemmas.Bool.{cases_lt}
use Rattle.std.proofs.lemmas.Option.{get_or_from_slice_get, slice_get_within, slice_get-get_or, none-some}
use Rattle.paper.specs.declared.Op.{Op}
use Rattle.paper.specs.declared.Op.TheVariants.{Or}
use Rattle.paper.specs.Plain.{binary}
use Rattle.tree.specs.Nodes.{kind_of}
use Rattle.tree.specs.Trees.{operators}
use Rattle.plain.specs.Flat.{type_at}
use Rattle.plain.specs.Kinds.{operand, IsExpression}
use Rattle.plain.specs.declared.kinds.Expression.TheVariants as E
use Rattle.plain.proofs.Exprs.{some_node, at_false, at_binary}

module _ (p : List ℕ) (i k : ℕ) (is : k ≡ kind_of p i) where
  -- an operator, if its number has one
  pub operated : (o : Op) → 10 < k → slice_get operators (k - 11) ≡ Some o → IsExpression p i (E.Binary o)
  operated o l e =
      let m = slice_get_within operators (k - 11) o e in
      record {
        tree = at_binary p i k is l (omega arith) ∙ ap (λ o. binary o (type_at p i) (operand p i 1) (operand p i 2)) (get_or_from_slice_get operators (k - 11) o Or e);
        some = some_node p i k is (omega arith);
      }

  pub beyond : 10 < k → slice_get operators (k - 11) ≡ None → IsExpression p i (E.Truth false)
  beyond l e =
      let m : 24 < k =
      elim (cases_lt (k - 11) 14) [
        | inl m ↦ absurd (none-some _ (sym e ∙ slice_get-get_or operators (k - 11) Or m))
        | inr m ↦ omega arith
      ] in
      record { tree = at_false p i k is (omega arith) (omega arith) (omega arith) (omega arith) (λ h n. m); some = tt }
