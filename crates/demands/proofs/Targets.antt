-- The target of an assignment: the variable whose cell it is, free to be assigned.
use mathlib.Core.Path.{◌≡◌, refl, sym, ap, ◌∙◌}
use mathlib.Core.Bool.{false, ◌||◌}
use mathlib.Core.Option.{some}
use mathlib.Core.List.{List, [], ◌∷◌}
use Prim.Native.Nat.{ℕ}
use lib.IntN.{ℤ}
use Rattle.paper.specs.declared.Ty.{Ty}
use Rattle.paper.specs.declared.Ty.TheVariants.{Dint as DINT}
use Rattle.paper.specs.declared.Cell.{Cell}
use Rattle.paper.specs.Source.{Name, Expr, number, truth, variable, element, minus, complement, binary, conversion, brackets, Bounds, single, array}
use Rattle.paper.specs.Names.{Variable, find, is_among, is_input, assigned}
use Rattle.paper.specs.Typing.{Judged, typed, unless, judged, of_name, of_element, subscript_faults, settle, is_constant, type_of, type_in, type_of_name, assign_faults}
use Rattle.paper.specs.Plain.{State}
use Rattle.paper.specs.Meaning.{cell_of_variable, cell_of_element, whole_value, cell_of, ◌>>=◌}
use Rattle.demands.proofs.Truths.{or_false}
use Rattle.demands.proofs.Answers.{none_some, bind_some, no_fault, no_fault_else, no_fault_at, test_passed}
use Rattle.demands.proofs.Cells.{info_of, CellOf, variable_cell_lem, element_cell_lem}
use Rattle.demands.proofs.Judgements.{found_type}
use Rattle.demands.proofs.Expressions.{Agree, constant_whole}

-- only a variable that is no array has one cell of its own
single_variable : (v : Variable) (c : Cell) → cell_of_variable v ≡ some c → v.declared.bounds ≡ single
single_variable v c h = go v.declared.bounds refl
  where
    go : (b : Bounds) → v.declared.bounds ≡ b → v.declared.bounds ≡ single
    go single e = e
    go (array p lo q hi) e = none_some (rw e at h)

-- only an array has elements
pub record IsArray (v : Variable) : Type 0 where
  pub place : ℕ
  pub lo : ℕ
  pub place' : ℕ
  pub hi : ℕ
  pub is : v.declared.bounds ≡ array place lo place' hi

array_element : (v : Variable) (z : ℤ) (c : Cell) → cell_of_element v z ≡ some c → IsArray v
array_element v z c h = go v.declared.bounds refl
  where
    go : (b : Bounds) → v.declared.bounds ≡ b → IsArray v
    go single e = none_some (rw e at h)
    go (array p lo q hi) e = record { place = p; lo = lo; place' = q; hi = hi; is = e }

pub record Aims (vs : List Variable) (loops : List Name) (x : Expr) (c : Cell) : Type 0 where
  pub name : Name
  pub var : Variable
  pub found : find name vs ≡ some var
  pub cell : CellOf var c
  pub type : type_in vs DINT x ≡ var.declared.ty
  pub writable : (info_of var).is_input ≡ false
  pub free : is_among name loops ≡ false

module _ (vs : List Variable) (loops : List Name) where
  -- the kind of a name that is found
  found_input : (n : Name) (v : Variable) → find n vs ≡ some v → is_input vs n ≡ (info_of v).is_input
  unfolding is_input
  found_input n v f = rw (f, is_input) refl

  found_aims : (n : Name) (x : Expr) (v : Variable) (c : Cell) → find n vs ≡ some v → CellOf v c
      → type_in vs DINT x ≡ type_of_name vs n
      → (is_input vs n || is_among n loops) ≡ false
      → Aims vs loops x c
  found_aims n x v c f k t h =
      let both = or_false (is_input vs n) (is_among n loops) h in
      record {
        name = n;
        var = v;
        found = f;
        cell = k;
        type = t ∙ found_type vs n v f;
        writable = sym (found_input n v f) ∙ both.0;
        free = both.1;
      }

  pub aims : (env : State) (x : Expr) (c : Cell) → cell_of vs env x ≡ some c → assigned vs loops x ≡ [] → Aims vs loops x c
  unfolding cell_of assigned type_in type_of
  aims env (number p z) c h a = none_some h
  aims env (truth p b) c h a = none_some h
  aims env (variable p n) c h a =
      let f = bind_some (find n vs) cell_of_variable c h in
      found_aims n (variable p n) f.0 c f.1 (variable_cell_lem f.0 c f.2) refl (no_fault_at p _ a)
  aims env (element p n q i) c h a =
      let i' = bind_some (whole_value vs env DINT i) (λ z. find n vs >>= λ v. cell_of_element v z) c h in
      let f = bind_some (find n vs) (λ v. cell_of_element v i'.0) c i'.2 in
      found_aims n (element p n q i) f.0 c f.1 (element_cell_lem f.0 i'.0 c f.2) refl (no_fault_at p _ a)
  aims env (minus p e) c h a = none_some h
  aims env (complement p e) c h a = none_some h
  aims env (binary p o l r) c h a = none_some h
  aims env (conversion p t u e) c h a = none_some h
  aims env (brackets p e) c h a = none_some h

  -- ---- where its value was judged without fault

  pub record Aimed (env : State) (x : Expr) (c : Cell) : Type 0 where
    pub judged_as : judged vs loops x ≡ typed (type_in vs DINT x)
    pub same_cell : (s : State) → Agree vs loops env s → cell_of vs s x ≡ some c

  judged_variable : (p : ℕ) (n : Name) (v : Variable) (c : Cell) → find n vs ≡ some v → cell_of_variable v ≡ some c
      → judged vs loops (variable p n) ≡ typed v.declared.ty
  unfolding judged of_name
  judged_variable p n v c f h = rw (f, of_name, single_variable v c h) refl

  -- the faults of a subscript behind the `[` at q
  abbrev faults_in : ℕ → Expr → List ℕ
  faults_in q i = subscript_faults loops q i (settle DINT i (judged vs loops i))

  judged_element : (p : ℕ) (n : Name) (q : ℕ) (i : Expr) (v : Variable) → find n vs ≡ some v → IsArray v
      → judged vs loops (element p n q i) ≡ unless (faults_in q i) v.declared.ty
  unfolding judged of_element
  judged_element p n q i v f b = rw (f, of_element, b.is) refl

  -- a target that is judged as an element has a faultless subscript
  faultless_subscript : (q : ℕ) (e : Expr) (j : Judged) (ps : List ℕ) (t : Ty) → assign_faults q e (unless ps t) j ≡ [] → ps ≡ []
  faultless_subscript q e j [] t a = refl
  faultless_subscript q e j (p ∷ ps) t a = (no_fault (p ∷ ps) _ a).0

  pub aimed : (env : State) (x : Expr) (c : Cell) (q : ℕ) (e : Expr) (j : Judged) → cell_of vs env x ≡ some c
      → assign_faults q e (judged vs loops x) j ≡ [] → Aimed env x c
  unfolding cell_of type_in type_of
  aimed env (number p z) c q e j h a = none_some h
  aimed env (truth p b) c q e j h a = none_some h
  aimed env (variable p n) c q e j h a =
      let f = bind_some (find n vs) cell_of_variable c h in
      record {
        judged_as = judged_variable p n f.0 c f.1 f.2 ∙ ap typed (sym (found_type vs n f.0 f.1));
        same_cell = λ s g. h;
      }
  aimed env (element p n p' i) c q e j h a =
      let i' = bind_some (whole_value vs env DINT i) (λ z. find n vs >>= λ v. cell_of_element v z) c h in
      let f = bind_some (find n vs) (λ v. cell_of_element v i'.0) c i'.2 in
      let is = judged_element p n p' i f.0 f.1 (array_element f.0 i'.0 c f.2) in
      let None-found = faultless_subscript q e j (faults_in p' i) f.0.declared.ty (rw is at a) in
      let constant = test_passed p' (is_constant loops i) (no_fault_else (settle DINT i (judged vs loops i)).faults _ None-found).1 in
      record {
        judged_as = is ∙ rw None-found (ap typed (sym (found_type vs n f.0 f.1)));
        same_cell = λ s g. rw (← constant_whole vs loops env s g DINT i constant) h;
      }
  aimed env (minus p x) c q e j h a = none_some h
  aimed env (complement p x) c q e j h a = none_some h
  aimed env (binary p o l r) c q e j h a = none_some h
  aimed env (conversion p t u x) c q e j h a = none_some h
  aimed env (brackets p x) c q e j h a = none_some h
