-- An expression without faults: its plain form has a type, and the value that the expression has as written.
use mathlib.Core.Path.{◌≡◌, refl, sym, ap, ◌∙◌}
use mathlib.Core.Bool.{Bool, true, false, cond, ◌&&◌, false≢true}
use mathlib.Core.Option.{Option, none, some}
use mathlib.Core.List.{List, []}
use Prim.Native.Nat.{ℕ}
use lib.IntN.{ℤ}
use lib.ListN.{get_elem?}
use Rattle.paper.specs.declared.Ty.{Ty}
use Rattle.paper.specs.declared.Op.{Op}
use Rattle.paper.specs.declared.Ty.TheVariants.{Bool as BOOL, Dint as DINT}
use Rattle.paper.specs.declared.Cell.{Cell}
use Rattle.paper.specs.Refusals.{given, ◌>>=◌}
use Rattle.paper.specs.Types.{signed, is_integer, fits, divides, decode, apply}
use Rattle.paper.specs.Source as S
use Rattle.paper.specs.Source.{Name, Declared}
use Rattle.paper.specs.Names.{Variable, variables_of, cells_of, find, is_among}
use Rattle.paper.specs.Typing.{Judged, numbers, is_zero, type_of, type_of_name, judged, settled, is_scan_op, is_constant, type_in, operand_type}
use Rattle.paper.specs.Plain.{Expr, number, truth, read, minus, complement, binary, conversion, State, look, value_of}
use Rattle.paper.specs.Meaning as M
use Rattle.paper.specs.Meaning.{variable_cell, element_cell, cell_of_variable, cell_of_element, operate, value, whole_value, cell_of}
use Rattle.paper.specs.Unwinding.{cell_in, plain_of}
use Rattle.demands.proofs.Truths.{and_true}
use Rattle.demands.proofs.Answers.{given_same, bind_given, bind_some, found_given}
use Rattle.demands.proofs.Typed.{Typed, NonZero}
use Rattle.paper.proofs.Residues.{decode_encode}
use Rattle.demands.proofs.Cells.{info_of, CellOf, variable_cell_lem, element_cell_lem, find_info}
use Rattle.demands.proofs.Judgements.{found_type, binary_type}
use Rattle.demands.proofs.Fits.{Fit, Divisor, Operands, Converted, Fits, fit_type, fit_number, fit_element, fit_minus, fit_complement, fit_binary, fit_conversion, fit_brackets}

-- two states agree on the variables of the FORs around
abbrev pub Agree : List Variable → List Name → State → State → Type 0
Agree vs loops env s = (n : Name) (c : Cell) → is_among n loops ≡ true → variable_cell vs n ≡ some c → look env c ≡ look s c

-- the expression has no fault where t is offered, and t is an integer type where it is needed
pub record Faultless (vs : List Variable) (loops : List Name) (t : Ty) (e : S.Expr) : Type 0 where
  pub none_found : (settled vs loops t e).faults ≡ []
  pub offered : judged vs loops e ≡ numbers → is_integer t ≡ true

-- as the walk's judgement says it
pub fit_of : (vs : List Variable) (loops : List Name) (t : Ty) (e : S.Expr) → Faultless vs loops t e → Fits vs loops t e
unfolding settled
fit_of vs loops t e h = record { none_found = h.none_found; offered = h.offered }

-- what is worked out of scan constants is the same in both states
pub constant_same : (vs : List Variable) (loops : List Name) (env s : State) → Agree vs loops env s
    → (t : Ty) (e : S.Expr) → is_constant loops e ≡ true → value vs env t e ≡ value vs s t e
unfolding is_constant value
constant_same vs loops env s g t (S.number p z) h = refl
constant_same vs loops env s g t (S.truth p b) h = absurd (false≢true h)
constant_same vs loops env s g t (S.variable p n) h = go (variable_cell vs n) refl
  where
    go : (o : Option Cell) → variable_cell vs n ≡ o
        → (M.◌>>=◌ o (λ c. some (look env c))) ≡ (M.◌>>=◌ o (λ c. some (look s c)))
    go none k = refl
    go (some c) k = rw (g n c h k) refl
constant_same vs loops env s g t (S.element p n q i) h = absurd (false≢true h)
constant_same vs loops env s g t (S.minus p e) h = rw (constant_same vs loops env s g t e h) refl
constant_same vs loops env s g t (S.complement p e) h = absurd (false≢true h)
constant_same vs loops env s g t (S.binary p o l r) h =
    let (two, right) = and_true (is_scan_op o && is_constant loops l) (is_constant loops r) h in
    let (scan, left) = and_true (is_scan_op o) (is_constant loops l) two in
    let u : Ty = operand_type vs t o l r in
    rw (constant_same vs loops env s g u l left, constant_same vs loops env s g u r right) refl
constant_same vs loops env s g t (S.conversion p u v e) h = rw (constant_same vs loops env s g u e h) refl
constant_same vs loops env s g t (S.brackets p e) h = constant_same vs loops env s g t e h

-- and so is the whole number that it stands for
pub constant_whole : (vs : List Variable) (loops : List Name) (env s : State) → Agree vs loops env s
    → (t : Ty) (e : S.Expr) → is_constant loops e ≡ true → whole_value vs env t e ≡ whole_value vs s t e
unfolding whole_value
constant_whole vs loops env s g t e h = rw (constant_same vs loops env s g t e h, whole_value) refl

-- the type that typing settled
pub settled_type : (vs : List Variable) (loops : List Name) (t : Ty) (e : S.Expr) → Faultless vs loops t e
    → (settled vs loops t e).ty ≡ type_in vs t e
unfolding settled
settled_type vs loops t e h = fit_type vs loops t e (fit_of vs loops t e h)

-- what the plain form of an expression is worth
pub record PlainForm (vs : List Variable) (s : State) (t : Ty) (e : S.Expr) (x : Expr) : Type 0 where
  pub typed : Typed (cells_of vs) x (type_in vs t e)
  pub same : value vs s t e ≡ some (value_of s x)

-- ---- the plain form of each kind of expression, from those of its parts

-- an operator whose divisor isn't zero has a value
operate_some : (o : Op) (u : Ty) (a b : ℕ) → (divides o ≡ true → is_zero (decode u b) ≡ false)
    → operate o u a b ≡ some (apply o u a b)
operate_some o u a b h = go (divides o) h
  where
    go : (d : Bool) → (d ≡ true → is_zero (decode u b) ≡ false)
        → cond (d && is_zero (decode u b)) none (some (apply o u a b)) ≡ some (apply o u a b)
    go true h = rw (h refl) refl
    go false h = refl

module _ (vs : List Variable) (s : State) where
  minus_form : (t : Ty) (p : ℕ) (e : S.Expr) (x : Expr) → signed (type_in vs t e) ≡ true → PlainForm vs s t e x
      → PlainForm vs s t (S.minus p e) (minus (type_in vs t e) x)
  unfolding value value_of type_in type_of
  minus_form t p e x h f = record { typed = (refl, h, f.typed); same = rw f.same refl }

  complement_form : (t : Ty) (p : ℕ) (e : S.Expr) (x : Expr) → BOOL ≡ type_in vs DINT e → PlainForm vs s DINT e x
      → PlainForm vs s t (S.complement p e) (complement x)
  unfolding value value_of type_in type_of
  complement_form t p e x h f = record { typed = (refl, rw (← h) at f.typed); same = rw f.same refl }

  conversion_form : (t : Ty) (p : ℕ) (u v : Ty) (e : S.Expr) (x : Expr) (j : Judged) → Converted vs u v e j
      → PlainForm vs s u e x
      → PlainForm vs s t (S.conversion p u v e) (conversion u v x)
  unfolding value value_of type_in type_of
  conversion_form t p u v e x j h f =
      record {
        typed = (refl, h.from_integer, h.to_integer, h.other, rw (← h.type) at f.typed);
        same = rw f.same refl;
      }

  -- a divisor's plain form is a number, and its value isn't zero
  abbrev Divides : Ty → Expr → Type 0
  Divides u y = NonZero y × (is_zero (decode u (value_of s y)) ≡ false)

  number_divides : (u : Ty) (p : ℕ) (z : ℤ) → is_zero z ≡ false → Fit u (S.number p z) numbers → Divides u (number u z)
  unfolding value_of
  number_divides u p z n h =
      let f : fits u z ≡ true = fit_number u p z h in
      ((n, f), rw (decode_encode u z f) n)

  divisor_form : (loops : List Name) (env : State) (u : Ty) (r : S.Expr) (y : Expr) → Divisor r → Fits vs loops u r
      → plain_of vs env u r ≡ given y → Divides u y
  unfolding judged plain_of
  divisor_form loops env u r y d h q =
      let p : plain_of vs env u (S.number d.place d.value) ≡ given y = rw d.is at q in
      let k : y ≡ number u d.value = cc in
      rw k (number_divides u d.place d.value d.nonzero (rw d.is at h))

  binary_form_lem : (t : Ty) (p : ℕ) (o : Op) (l r : S.Expr) (j k : Judged) (x y : Expr)
      → Operands vs (operand_type vs t o l r) o l r j k
      → (divides o ≡ true → Divides (operand_type vs t o l r) y)
      → PlainForm vs s (operand_type vs t o l r) l x
      → PlainForm vs s (operand_type vs t o l r) r y
      → PlainForm vs s t (S.binary p o l r) (binary o (operand_type vs t o l r) x y)
  unfolding value value_of
  binary_form_lem t p o l r j k x y h d f g =
      record {
        typed =
            (sym (binary_type vs t p o l r), h.taken, rw h.left.type at f.typed, rw h.right.type at g.typed, λ e. (d e).0);
        same = rw (f.same, g.same) (operate_some o (operand_type vs t o l r) (value_of s x) (value_of s y) (λ e. (d e).1));
      }

-- the cells of every variable have its info
abbrev pub Placed : List Variable → Type 0
Placed vs = (n : Name) (v : Variable) → find n vs ≡ some v
    → (c : Cell) → CellOf v c → get_elem? (cells_of vs) c.0 ≡ some (info_of v)

module _ (vs : List Variable) (s : State) (a : Placed vs) where
  -- a cell of a variable has the variable's type
  cell_typed : (n : Name) (v : Variable) (c : Cell) → find n vs ≡ some v → CellOf v c
      → Typed (cells_of vs) (read c) (type_of_name vs n)
  cell_typed n v c f h = (info_of v, a n v f c h, sym (found_type vs n v f))

  variable_form : (t : Ty) (p : ℕ) (n : Name) (c : Cell) → variable_cell vs n ≡ some c
      → PlainForm vs s t (S.variable p n) (read c)
  unfolding value value_of type_in type_of
  variable_form t p n c h =
      let (v, f, k) = bind_some (find n vs) cell_of_variable c h in
      record { typed = cell_typed n v c f (variable_cell_lem v c k); same = rw h refl }

  element_form : (t : Ty) (p : ℕ) (n : Name) (q : ℕ) (i : S.Expr) (c : Cell)
      → element_cell vs n (whole_value vs s DINT i) ≡ some c
      → PlainForm vs s t (S.element p n q i) (read c)
  unfolding value value_of type_in type_of whole_value
  element_form t p n q i c h =
      let (z, w, k) = bind_some (whole_value vs s DINT i) (λ z. M.◌>>=◌ (find n vs) (λ v. cell_of_element v z)) c h in
      let (v, f, m) = bind_some (find n vs) (λ v. cell_of_element v z) c k in
      record { typed = cell_typed n v c f (element_cell_lem v z c m); same = rw h refl }

-- ---- all of an expression

module _ (vs : List Variable) (a : Placed vs) (loops : List Name) (env s : State) (g : Agree vs loops env s) where
  fit_form : (t : Ty) (e : S.Expr) (x : Expr) → Fits vs loops t e → plain_of vs env t e ≡ given x → PlainForm vs s t e x
  unfolding judged plain_of cell_in cell_of value value_of type_in type_of
  fit_form t (S.number p z) x h k =
      let e : x ≡ number t z = cc in
      rw e (record { typed = refl; same = refl })
  fit_form t (S.truth p b) x h k =
      let e : x ≡ truth b = cc in
      rw e (record { typed = refl; same = refl })
  fit_form t (S.variable p n) x h k =
      let (c, f, e) = bind_given (cell_in vs env (S.variable p n)) (λ c. given (read c)) x k in
      rw (← given_same e) (variable_form vs s a t p n c (found_given p (variable_cell vs n) c f))
  fit_form t (S.element p n q i) x h k =
      let (c, f, e) = bind_given (cell_in vs env (S.element p n q i)) (λ c. given (read c)) x k in
      let same = constant_whole vs loops env s g DINT i (fit_element vs loops t p n q i h) in
      let cell = sym (ap (element_cell vs n) same) ∙ found_given q (cell_of vs env (S.element p n q i)) c f in
      rw (← given_same e) (element_form vs s a t p n q i c cell)
  fit_form t (S.minus p e) x h k =
      let (fit, sign) = fit_minus vs loops t p e h in
      let (y, f, k') = bind_given (plain_of vs env t e) (λ y. given (minus (type_in vs t e) y)) x k in
      rw (← given_same k') (minus_form vs s t p e y sign (fit_form t e y fit f))
  fit_form t (S.complement p e) x h k =
      let (fit, type) = fit_complement vs loops t p e h in
      let (y, f, k') = bind_given (plain_of vs env DINT e) (λ y. given (complement y)) x k in
      rw (← given_same k') (complement_form vs s t p e y type (fit_form DINT e y fit f))
  fit_form t (S.binary p o l r) x h k =
      let u : Ty = operand_type vs t o l r in
      let m : Operands vs u o l r (judged vs loops l) (judged vs loops r) = fit_binary vs loops t p o l r h in
      let (y, f, k') = bind_given (plain_of vs env u l) (λ y. plain_of vs env u r >>= λ z. given (binary o u y z)) x k in
      let (z, f', k'') = bind_given (plain_of vs env u r) (λ z. given (binary o u y z)) x k' in
      rw (← given_same k'')
      (binary_form_lem vs s t p o l r _ _ y z m
      (λ d. divisor_form vs s loops env u r z (m.divisor d) m.right.fit f')
      (fit_form u l y m.left.fit f)
      (fit_form u r z m.right.fit f'))
  fit_form t (S.conversion p u v e) x h k =
      let c : Converted vs u v e (judged vs loops e) = fit_conversion vs loops t p u v e h in
      let (y, f, k') = bind_given (plain_of vs env u e) (λ y. given (conversion u v y)) x k in
      rw (← given_same k') (conversion_form vs s t p u v e y _ c (fit_form u e y c.fit f))
  fit_form t (S.brackets p e) x h k =
      let f : PlainForm vs s t e x = fit_form t e x (fit_brackets vs loops t p e h) k in
      record { typed = f.typed; same = f.same }

module _ (ds : List Declared) where
  pub plain_form : (loops : List Name) (env s : State) → Agree (variables_of ds) loops env s
      → (t : Ty) (e : S.Expr) (x : Expr) → Faultless (variables_of ds) loops t e
      → plain_of (variables_of ds) env t e ≡ given x
      → PlainForm (variables_of ds) s t e x
  plain_form loops env s g t e x h p =
      fit_form (variables_of ds) (find_info ds) loops env s g t e x (fit_of (variables_of ds) loops t e h) p
