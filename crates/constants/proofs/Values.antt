-- The value and the cell of the expression of a node, from those of its operands.
use mathlib.Core.Path.{◌≡◌, refl, sym, ap, ap₂, subst, ◌∙◌}
use mathlib.Core.Bool.{Bool, true, false, not}
use mathlib.Core.Logic.{◌⊎◌, inl, inr}
use mathlib.Core.Option as Math
use mathlib.Core.Option.{none, some}
use Rattle.std.proofs.Common.{Option, Some, None, IfSome}
use Rattle.std.proofs.lemmas.Option.{IfSome_then}
use mathlib.Core.List.{List}
use Prim.Native.Nat.{ℕ}
use lib.IntN.{ℤ}
use Rattle.paper.specs.declared.Ty.{Ty}
use Rattle.paper.specs.declared.Ty.TheVariants.{Bool as BOOL, Dint as DINT}
use Rattle.paper.specs.declared.Op.{Op}
use Rattle.paper.specs.declared.Cell.{Cell}
use Rattle.paper.specs.Types.{encode, decode, negate, convert, bit, is_true, sort_of, gives}
use Rattle.paper.specs.Source.{Expr, number, truth, variable, element, minus, complement, binary, conversion, brackets}
use Rattle.paper.specs.Names.{Variable}
use Rattle.paper.specs.Typing.{type_of, type_in, operand_type}
use Rattle.paper.specs.Plain.{look}
use Rattle.paper.specs.Meaning.{◌>>=◌, operate, variable_cell, element_cell, value, whole_value, cell_of}
use Rattle.tree.specs.Trees.{name_at, place_at, whole_at, expr_at}
use Rattle.tree.specs.Kinds.{operand, expression_of, IsExpression}
use Rattle.tree.specs.declared.kinds.Expression.{Expression}
use Rattle.tree.specs.declared.kinds.Expression.TheVariants.{Nothing, Number, Truth, Variable as Name, Element, Minus, Complement, Brackets, Conversion, Binary}
use Rattle.constants.specs.declared.Valued.{Valued}
use Rattle.constants.specs.declared.Celled.{Celled}
use Rattle.constants.specs.Answers.{valued, NamedCell, CellIn, ValueIn, is_typed, Offers}
use Rattle.constants.proofs.Types.{two_in, known_in, own_in, own_operands, offered_as, offered_in, name_type}

-- ---- what has a type of its own

-- its value is the same whatever is offered
own_value : (vs : List Variable) (s : List ℕ) (t u : Ty) (e : Expr) → is_typed (type_of vs e) ≡ true → value vs s t e ≡ value vs s u e
unfolding type_of value
own_value vs s t u (number p z) h = cc
own_value vs s t u (truth p b) h = refl
own_value vs s t u (variable p n) h = refl
own_value vs s t u (element p n q i) h = refl
own_value vs s t u (minus p e) h = ap₂ (λ x v. x >>= λ n. some (negate v n)) (own_value vs s t u e h) (own_in vs t u e h)
own_value vs s t u (complement p e) h = refl
own_value vs s t u (binary p o l r) h =
    ap (λ v. value vs s v l >>= λ m. value vs s v r >>= λ n. operate o v m n) (own_operands vs t u p o l r h)
own_value vs s t u (conversion p v w e) h = refl
own_value vs s t u (brackets p e) h = own_value vs s t u e h

-- ---- nodes

module _ (vs : List Variable) (s t p : List ℕ) (i : ℕ) where
  abbrev here : Expr
  here = expr_at t p i

  abbrev left : Expr
  left = operand p i t 1

  abbrev right : Expr
  right = operand p i t 2

  -- ---- cells

  -- q is the place of the name
  named_is : (e : Expression) → IsExpression p i e → (e ≡ Name) ⊎ (e ≡ Element) → (q : ℕ) (o : Math.Option Cell) (x : Option Celled) → q ≡ place_at p i
      → o ≡ cell_of vs s here → NamedCell vs (name_at t q) o x → CellIn vs s here x
  named_is e v h q o x k l g =
      record {
        cell = g.cell ∙ l;
        ty = IfSome_then x g.ty (λ c f w. known_in vs w here c.ty (name_type vs t p i e v h q c.ty f k));
      }

  pub variable_is : IsExpression p i Name → (q : ℕ) (x : Option Celled) → q ≡ place_at p i → NamedCell vs (name_at t q) (variable_cell vs (name_at t q)) x
      → CellIn vs s here x
  unfolding cell_of
  variable_is v q x k g =
      named_is Name v (inl refl) q _ x k (ap (λ q. variable_cell vs (name_at t q)) k ∙ sym (ap (cell_of vs s) (v.tree t))) g

  -- z is its subscript
  element_at : IsExpression p i Element → (q : ℕ) (z : Math.Option ℤ) → q ≡ place_at p i → z ≡ whole_value vs s DINT left
      → element_cell vs (name_at t q) z ≡ cell_of vs s here
  unfolding cell_of
  element_at v q z k l = ap₂ (λ q z. element_cell vs (name_at t q) z) k l ∙ sym (ap (cell_of vs s) (v.tree t))

  pub element_is : IsExpression p i Element → (q : ℕ) (z : ℤ) (x : Option Celled) → q ≡ place_at p i → some z ≡ whole_value vs s DINT left
      → NamedCell vs (name_at t q) (element_cell vs (name_at t q) (some z)) x → CellIn vs s here x
  element_is v q z x k l g = named_is Element v (inr refl) q _ x k (element_at v q (some z) k l) g

  pub element_none : IsExpression p i Element → none ≡ whole_value vs s DINT left → CellIn vs s here None
  element_none v l = record { cell = element_at v (place_at p i) none refl l; ty = tt }

  pub no_cell : (e : Expression) → IsExpression p i e → (e ≡ Name → ⊥) → (e ≡ Element → ⊥) → CellIn vs s here None
  unfolding cell_of
  no_cell Nothing v n l = record { cell = sym (ap (cell_of vs s) (v.tree t)); ty = tt }
  no_cell Number v n l = record { cell = sym (ap (cell_of vs s) (v.tree t)); ty = tt }
  no_cell (Truth b) v n l = record { cell = sym (ap (cell_of vs s) (v.tree t)); ty = tt }
  no_cell Name v n l = absurd (n refl)
  no_cell Element v n l = absurd (l refl)
  no_cell Minus v n l = record { cell = sym (ap (cell_of vs s) (v.tree t)); ty = tt }
  no_cell Complement v n l = record { cell = sym (ap (cell_of vs s) (v.tree t)); ty = tt }
  no_cell Brackets v n l = record { cell = sym (ap (cell_of vs s) (v.tree t)); ty = tt }
  no_cell (Conversion u w) v n l = record { cell = sym (ap (cell_of vs s) (v.tree t)); ty = tt }
  no_cell (Binary o) v n l = record { cell = sym (ap (cell_of vs s) (v.tree t)); ty = tt }

  module _ (u : Ty) where
    -- by what the node is
    by_view : (e : Expression) → IsExpression p i e → (x : Option Valued) → ValueIn vs s u (expression_of p i t e) x → ValueIn vs s u here x
    by_view e v x h = subst (λ a. ValueIn vs s u a x) (sym (v.tree t)) h

    -- ---- leaves

    module _ (r : Valued) where
      pub nil_is : IsExpression p i Nothing → r.residue ≡ bit false → r.ty ≡ BOOL → ValueIn vs s u here (Some r)
      unfolding value type_of type_in
      nil_is v h k = by_view Nothing v (Some r) (record { value = ap some h; ty = k })

      pub truth_is : (b : Bool) → IsExpression p i (Truth b) → r.residue ≡ bit b → r.ty ≡ BOOL → ValueIn vs s u here (Some r)
      unfolding value type_of type_in
      truth_is b v h k = by_view (Truth b) v (Some r) (record { value = ap some h; ty = k })

      pub number_is : IsExpression p i Number → r.residue ≡ encode u (whole_at p i) → r.ty ≡ u → ValueIn vs s u here (Some r)
      unfolding value type_of type_in
      number_is v h k = by_view Number v (Some r) (record { value = ap some h; ty = k })

    cell_value : (e : Expression) → IsExpression p i e → (e ≡ Name) ⊎ (e ≡ Element) → (cell_of vs s here >>= λ c. some (look s c)) ≡ value vs s u here
    unfolding value cell_of whole_value
    cell_value e v h =
        elim h [
          | inl w ↦ subst (λ a. (cell_of vs s a >>= λ c. some (look s c)) ≡ value vs s u a) (sym ((rw w at v).tree t)) refl
          | inr w ↦ subst (λ a. (cell_of vs s a >>= λ c. some (look s c)) ≡ value vs s u a) (sym ((rw w at v).tree t)) refl
        ]

    pub cell_is : (e : Expression) → IsExpression p i e → (e ≡ Name) ⊎ (e ≡ Element) → (c : Celled) (r : Valued)
        → r.residue ≡ look s (record { 0 = c.cell }) → r.ty ≡ c.ty → CellIn vs s here (Some c) → ValueIn vs s u here (Some r)
    cell_is e v h c r k l g =
        record {
          value = ap some k ∙ ap (λ o. o >>= λ c. some (look s c)) g.cell ∙ cell_value e v h;
          ty = l ∙ g.ty u;
        }

    pub cell_none : (e : Expression) → IsExpression p i e → (e ≡ Name) ⊎ (e ≡ Element) → CellIn vs s here None → ValueIn vs s u here None
    cell_none e v h g = record { value = ap (λ o. o >>= λ c. some (look s c)) g.cell ∙ cell_value e v h; ty = tt }

    -- ---- one operand: no value of it, and so none of the whole; or the value x

    pub minus_none : IsExpression p i Minus → ValueIn vs s u left None → ValueIn vs s u here None
    unfolding value
    minus_none v g = by_view Minus v None (record { value = ap (λ y. y >>= λ n. some (negate (type_in vs u left) n)) g.value; ty = tt })

    pub complement_none : IsExpression p i Complement → ValueIn vs s DINT left None → ValueIn vs s u here None
    unfolding value
    complement_none v g = by_view Complement v None (record { value = ap (λ y. y >>= λ n. some (bit (not (is_true n)))) g.value; ty = tt })

    pub conversion_none : (a b : Ty) → IsExpression p i (Conversion a b) → ValueIn vs s a left None → ValueIn vs s u here None
    unfolding value
    conversion_none a b v g = by_view (Conversion a b) v None (record { value = ap (λ y. y >>= λ n. some (convert a b n)) g.value; ty = tt })

    pub brackets_is : (x : Option Valued) → IsExpression p i Brackets → ValueIn vs s u left x → ValueIn vs s u here x
    unfolding value type_of type_in
    brackets_is x v g = by_view Brackets v x (record { value = g.value; ty = g.ty })

    module _ (x r : Valued) where
      pub minus_is : IsExpression p i Minus → r.residue ≡ negate x.ty x.residue → r.ty ≡ x.ty → ValueIn vs s u left (Some x) → ValueIn vs s u here (Some r)
      unfolding value type_of type_in
      minus_is v h k g =
          by_view Minus v (Some r)
          (record {
            value = ap some (h ∙ ap (λ w. negate w x.residue) g.ty) ∙ ap (λ y. y >>= λ n. some (negate (type_in vs u left) n)) g.value;
            ty = k ∙ g.ty;
          })

      pub complement_is : IsExpression p i Complement → r.residue ≡ bit (not (is_true x.residue)) → r.ty ≡ BOOL → ValueIn vs s DINT left (Some x)
          → ValueIn vs s u here (Some r)
      unfolding value type_of type_in
      complement_is v h k g =
          by_view Complement v (Some r) (record { value = ap some h ∙ ap (λ y. y >>= λ n. some (bit (not (is_true n)))) g.value; ty = k })

      pub conversion_is : (a b : Ty) → IsExpression p i (Conversion a b) → r.residue ≡ convert a b x.residue → r.ty ≡ b → ValueIn vs s a left (Some x)
          → ValueIn vs s u here (Some r)
      unfolding value type_of type_in
      conversion_is a b v h k g =
          by_view (Conversion a b) v (Some r) (record { value = ap some h ∙ ap (λ y. y >>= λ n. some (convert a b n)) g.value; ty = k })

    -- ---- two operands of the type that the first turns out to have, where a was offered to it

    module _ (o : Op) (v : IsExpression p i (Binary o)) (a : Ty) (offers : Offers vs u o left right a) where
      abbrev both : Ty
      both = operand_type vs u o left right

      binary_value : (x : Math.Option ℕ) → x ≡ value vs s a left → (x >>= λ m. value vs s both right >>= λ n. operate o both m n) ≡ value vs s u here
      unfolding value
      binary_value x h =
          ap (λ z. z >>= λ m. value vs s both right >>= λ n. operate o both m n)
          (h ∙ offered_as vs u o left right a offers (λ b. value vs s b left) (own_value vs s a both left))
          ∙ sym (ap (value vs s u) (v.tree t))

      pub no_first : ValueIn vs s a left None → ValueIn vs s u here None
      no_first g = record { value = binary_value none g.value; ty = tt }

      module _ (x : Valued) (g : ValueIn vs s a left (Some x)) where
        of_both : x.ty ≡ both
        of_both = g.ty ∙ offered_in vs u o left right a offers

        second_value : (y : Math.Option ℕ) → y ≡ value vs s x.ty right → (y >>= λ b. operate o x.ty x.residue b) ≡ value vs s u here
        second_value y h =
            ap (λ z. z >>= λ b. operate o x.ty x.residue b) h
            ∙ ap (λ w. value vs s w right >>= λ b. operate o w x.residue b) of_both
            ∙ binary_value (some x.residue) g.value

        pub no_second : ValueIn vs s x.ty right None → ValueIn vs s u here None
        no_second h = record { value = second_value none h.value; ty = tt }

        pub binary_is : (y : Valued) (r : Option Valued) → ValueIn vs s x.ty right (Some y) → valued r ≡ operate o x.ty x.residue y.residue
            → IfSome r (λ z. z.ty ≡ gives (sort_of o) x.ty) → ValueIn vs s u here r
        binary_is y r h k l =
            record {
              value = k ∙ second_value (some y.residue) h.value;
              ty =
                  IfSome_then r l
                  (λ z f. f ∙ ap (gives (sort_of o)) of_both ∙ two_in vs (place_at p i) o left right u ∙ sym (ap (type_in vs u) (v.tree t)));
            }

-- ---- what is made of values

module _ (vs : List Variable) (s : List ℕ) (t : Ty) (e : Expr) where
  pub whole_none : ValueIn vs s t e None → none ≡ whole_value vs s t e
  unfolding whole_value
  whole_none g = ap (λ y. y >>= λ n. some (decode (type_in vs t e) n)) g.value

  -- z is the value as a whole number
  pub whole_is : (x : Valued) (z : ℤ) → ValueIn vs s t e (Some x) → z ≡ decode x.ty x.residue → some z ≡ whole_value vs s t e
  unfolding whole_value
  whole_is x z g f = ap some (f ∙ ap (λ v. decode v x.residue) g.ty) ∙ ap (λ y. y >>= λ n. some (decode (type_in vs t e) n)) g.value

-- no value of a part, and so none of the whole
pub ruleset nothing_of_nothing = (element_none, no_cell, cell_none, minus_none, complement_none, whole_none)

pub ruleset nothing_of_two = (no_first, no_second)
