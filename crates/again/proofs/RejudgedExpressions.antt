-- An expression of the form of a typed plain one: its names are known, its types are those, and it unwinds to the plain one.
use mathlib.Core.Path.{◌≡◌, refl, sym, ap, ◌∙◌}
use mathlib.Core.Bool.{Bool, true, false, not, cond, ◌&&◌, ◌||◌, and-false, false≢true}
use mathlib.Core.Option.{none, some, some_inj}
use mathlib.Core.List.{List, []}
use Prim.Native.Nat.{ℕ, suc}
use Rattle.paper.specs.declared.Ty.{Ty}
use Rattle.paper.specs.declared.Ty.TheVariants.{Bool as BOOL, Dint as DINT}
use Rattle.paper.specs.declared.Op.{Op}
use Rattle.paper.specs.declared.Cell.{Cell}
use Rattle.paper.specs.Types.{signed, same_ty, is_integer, Sort, arithmetic, order, equality, logic, sort_of, takes, gives, is_arithmetic, divides}
use Rattle.paper.specs.Source as S
use Rattle.paper.specs.Names as N
use Rattle.paper.specs.Names.{Variable, cells_of, at}
use Rattle.paper.specs.Typing as T
use Rattle.paper.specs.Typing.{Judged, numbers, typed, divisor_fault, is_good_divisor, is_zero, number_faults, Settled, settle, judged}
use Rattle.paper.specs.Heights as H
use Rattle.paper.specs.Plain.{Expr, number, truth, read, minus, complement, binary, conversion}
use Rattle.demands.proofs.Truths.{and_true}
use Rattle.demands.proofs.TypeFacts.{same_refl, integer_numbers}
use Rattle.demands.proofs.Typed.{Typed, NonZero}
use Rattle.demands.proofs.Cells.{info_of}
use Rattle.demands.proofs.Expressions.{Placed}
use Rattle.again.proofs.Forms.{At, Spelt, alone, element, Form, as_number, as_truth, as_read, as_minus, as_complement, as_binary, as_conversion, height}
use Rattle.again.proofs.Sure.{is_open, Sure}

-- ---- heights

pub same_height : {vs : List Variable} {x : Expr} {e : S.Expr} → Form vs x e → H.height e ≡ height x
unfolding H.height height
same_height as_number = refl
same_height as_truth = refl
same_height (as_read (alone v a e)) = refl
same_height (as_read (element v a lo b hi h e f)) = refl
same_height (as_minus f) = ap suc (same_height f)
same_height (as_complement f) = ap suc (same_height f)
same_height (as_binary f g) = rw (same_height f, same_height g) refl
same_height (as_conversion f) = ap suc (same_height f)

-- subscripts are numbers
pub no_subscripts : {vs : List Variable} {x : Expr} {e : S.Expr} → Form vs x e → H.subscripts e ≡ []
unfolding H.subscripts H.height
no_subscripts as_number = refl
no_subscripts as_truth = refl
no_subscripts (as_read (alone v a e)) = refl
no_subscripts (as_read (element v a lo b hi h e f)) = refl
no_subscripts (as_minus f) = no_subscripts f
no_subscripts (as_complement f) = no_subscripts f
no_subscripts (as_binary f g) = rw (no_subscripts f, no_subscripts g) refl
no_subscripts (as_conversion f) = no_subscripts f

-- ---- names

module _ (vs : List Variable) where
  known : (v : Variable) (c : Cell) → At vs v c → N.is_known vs v.declared.name ≡ true
  unfolding N.is_known
  known v c h = rw (h.found, N.is_known) refl

  pub all_known : {x : Expr} {e : S.Expr} → Form vs x e → N.unknown vs e ≡ []
  unfolding N.unknown
  all_known as_number = refl
  all_known as_truth = refl
  all_known (as_read (alone v a e)) = rw (known v _ a) refl
  all_known (as_read (element v a lo b hi h e f)) = rw (known v _ h) refl
  all_known (as_minus f) = all_known f
  all_known (as_complement f) = all_known f
  all_known (as_binary f g) = rw (all_known f, all_known g) refl
  all_known (as_conversion f) = all_known f

-- ---- types

-- what typing says of it
abbrev pub judged_as : Bool → Ty → Judged
judged_as b t = cond b numbers (typed t)

pub arithmetic_gives : (k : Sort) (u : Ty) → is_arithmetic k ≡ true → gives k u ≡ u
arithmetic_gives arithmetic u a = refl
arithmetic_gives order u a = absurd (false≢true a)
arithmetic_gives equality u a = absurd (false≢true a)
arithmetic_gives logic u a = absurd (false≢true a)

-- numbers have integer types
pub open_integer : (is : List N.Info) (x : Expr) (t : Ty) → Typed is x t → Sure x → is_open x ≡ true → is_integer t ≡ true
unfolding is_open
open_integer is (number u z) t ty s o = rw ty at s.0
open_integer is (truth b) t ty s o = absurd (false≢true o)
open_integer is (read c) t ty s o = absurd (false≢true o)
open_integer is (minus u e) t ty s o = rw ty.0 at (open_integer is e u ty.2 s o)
open_integer is (complement e) t ty s o = absurd (false≢true o)
open_integer is (binary p u l r) t ty s o =
    let (a, b) = and_true (is_arithmetic (sort_of p)) (is_open l && is_open r) o in
    let i = open_integer is l u ty.2 s.0 (and_true (is_open l) (is_open r) b).0 in
    rw (sym (arithmetic_gives (sort_of p) u a) ∙ ty.0) at i
open_integer is (conversion u v e) t ty s o = absurd (false≢true o)

-- a divisor is a number that is not zero
good_divisor : {vs : List Variable} {y : Expr} {e : S.Expr} (o : Op) → Form vs y e → (divides o ≡ true → NonZero y)
    → (divisor_fault o e ≡ []) × (is_good_divisor o e ≡ true)
good_divisor {vs} {y} {e} o f h = go (divides o) f h
  where
    go : {y : Expr} {e : S.Expr} (b : Bool) → Form vs y e → (b ≡ true → NonZero y)
        → (cond {A = List ℕ} b (elim (T.plain_number e) [ none ↦ [] | some n ↦ at n.place (is_zero n.value) ]) [] ≡ [])
        × ((not b || elim (T.plain_number e) [ none ↦ false | some n ↦ true ]) ≡ true)
    go false f h = (refl, refl)
    go true as_number h = (rw (h refl).0 refl, refl)
    go true as_truth h = absurd (h refl)
    go true (as_read s) h = absurd (h refl)
    go true (as_minus f) h = absurd (h refl)
    go true (as_complement f) h = absurd (h refl)
    go true (as_binary f g) h = absurd (h refl)
    go true (as_conversion f) h = absurd (h refl)

-- both operands have the type u, and the operator takes it
operated_good : (p : ℕ) (o : Op) (r : S.Expr) (x y : Settled) (u : Ty) → x.faults ≡ [] → y.faults ≡ [] → x.ty ≡ u → y.ty ≡ u
    → takes (sort_of o) u ≡ true → divisor_fault o r ≡ [] → is_good_divisor o r ≡ true → T.operated p o r x y ≡ typed (gives (sort_of o) u)
operated_good p o r x y u fx fy tx ty k d g = rw (fx, fy, tx, ty, d, same_refl u, k, g) refl

-- numbers only, of the type t
number_form_lem : {vs : List Variable} (is : List N.Info) {x : Expr} {e : S.Expr} (t : Ty) → Form vs x e → Typed is x t → Sure x → is_open x ≡ true
    → number_faults t e ≡ []
unfolding number_faults is_open
number_form_lem is t as_number ty s o = rw (← ty, s.1) refl
number_form_lem is t as_truth ty s o = absurd (false≢true o)
number_form_lem is t (as_read h) ty s o = absurd (false≢true o)
number_form_lem is t (as_minus f) ty s o =
    rw (number_form_lem is t f (rw ty.0 at ty.2) s o, rw ty.0 at ty.1) refl
number_form_lem is t (as_complement f) ty s o = absurd (false≢true o)
number_form_lem is t (as_binary {o = p} {t = u} {x = x} {y = y} f g) ty s o =
    let (a, b) = and_true (is_arithmetic (sort_of p)) (is_open x && is_open y) o in
    let (l, r) = and_true (is_open x) (is_open y) b in
    let same = sym (arithmetic_gives (sort_of p) u a) ∙ ty.0 in
    let (fault, good) = good_divisor p g ty.4 in
    rw (number_form_lem is t f (rw same at ty.2) s.0 l, number_form_lem is t g (rw same at ty.3) s.1 r, fault, good) refl
number_form_lem is t (as_conversion f) ty s o = absurd (false≢true o)

-- what typing settles where s is offered
settle_open : (t s : Ty) (e : S.Expr) (o : Bool) → (o ≡ true → is_integer t ≡ true) → (o ≡ true → number_faults t e ≡ []) → (o ≡ true → s ≡ t)
    → ((settle s e (judged_as o t)).faults ≡ []) × ((settle s e (judged_as o t)).ty ≡ t)
settle_open t s e true i n h = rw (h refl, integer_numbers t (i refl)) (n refl, refl)
settle_open t s e false i n h = (refl, refl)

-- an operator, whose two operands have the type u
judged_joined : (p : ℕ) (o : Op) (u : Ty) (d e : S.Expr) (l r : Bool)
    → (l ≡ true → is_integer u ≡ true) → (l ≡ true → number_faults u d ≡ [])
    → (r ≡ true → is_integer u ≡ true) → (r ≡ true → number_faults u e ≡ [])
    → (is_arithmetic (sort_of o) ≡ false → l ≡ true → r ≡ true → u ≡ DINT)
    → takes (sort_of o) u ≡ true → divisor_fault o e ≡ [] → is_good_divisor o e ≡ true
    → T.joined p o d e (judged_as l u) (judged_as r u) ≡ judged_as (is_arithmetic (sort_of o) && (l && r)) (gives (sort_of o) u)
judged_joined p o u d e true true il nl ir nr dint k f g = go (is_arithmetic (sort_of o)) refl
  where
    go : (b : Bool) → is_arithmetic (sort_of o) ≡ b
        → cond b numbers (T.operated p o e (settle DINT d numbers) (settle DINT e numbers)) ≡ judged_as (b && true) (gives (sort_of o) u)
    go true a = refl
    go false a =
        let is = dint a refl refl in
        operated_good p o e (settle DINT d numbers) (settle DINT e numbers) u (rw is at (nl refl)) (rw is at (nr refl)) (sym is) (sym is) k f g
judged_joined p o u d e true false il nl ir nr dint k f g =
    let same = integer_numbers u (il refl) in
    rw and-false (operated_good p o e (settle u d numbers) (settle u e (typed u)) u (rw same (nl refl)) refl same refl k f g)
judged_joined p o u d e false true il nl ir nr dint k f g =
    let same = integer_numbers u (ir refl) in
    rw and-false (operated_good p o e (settle u d (typed u)) (settle u e numbers) u refl (rw same (nr refl)) refl same k f g)
judged_joined p o u d e false false il nl ir nr dint k f g =
    rw and-false (operated_good p o e (settle u d (typed u)) (settle u e (typed u)) u refl refl refl refl k f g)

negated_good : (p : ℕ) (t : Ty) (o : Bool) → signed t ≡ true → T.negated p (judged_as o t) ≡ judged_as o t
negated_good p t true h = refl
negated_good p t false h = rw h refl

converted_good : (p : ℕ) (t u : Ty) (s : Settled) → s.faults ≡ [] → s.ty ≡ t → is_integer t ≡ true → is_integer u ≡ true → same_ty t u ≡ false
    → T.converted p t u s ≡ typed u
converted_good p t u s f e i j d = rw (f, e, same_refl t, i, j, d) refl

module _ (vs : List Variable) (placed : Placed vs) where
  abbrev is : List N.Info
  is = cells_of vs

  -- the type of a cell is its variable's
  cell_type : (v : Variable) (c : Cell) (t : Ty) → At vs v c → Typed is (read c) t → v.declared.ty ≡ t
  cell_type v c t h ty =
      let same : info_of v ≡ ty.0 = some_inj.0 (sym (placed v.declared.name v h.found c h.cell) ∙ ty.1) in
      ap (λ (i : N.Info). i.ty) same ∙ ty.2

  -- what is BOOL is not open
  pub closed : (x : Expr) → Typed is x BOOL → Sure x → is_open x ≡ false
  closed x ty s = go (is_open x) refl
    where
      go : (b : Bool) → is_open x ≡ b → is_open x ≡ false
      go true e = absurd (false≢true (open_integer is x BOOL ty s e))
      go false e = e

  -- a cell, by itself or as an element
  judged_cell : (c : Cell) (e : S.Expr) (t : Ty) → Spelt vs c e → Typed is (read c) t → judged vs [] e ≡ typed t
  unfolding judged T.of_name T.of_element number_faults T.is_constant
  judged_cell c e t (alone v a b) ty = rw (a.found, T.of_name, b, cell_type v c t a ty) refl
  judged_cell c e t (element v a lo b hi h x f) ty = rw (h.found, T.of_element, x, f, cell_type v c t h ty) refl

  pub judged_form : {x : Expr} {e : S.Expr} (t : Ty) → Form vs x e → Typed is x t → Sure x → judged vs [] e ≡ judged_as (is_open x) t
  unfolding judged is_open
  judged_form t as_number ty s = refl
  judged_form t as_truth ty s = ap typed ty
  judged_form t (as_read h) ty s = judged_cell _ _ t h ty
  judged_form t (as_minus {t = u} {x = x} {q = q} f) ty s =
      rw (judged_form u f ty.2 s) (negated_good q u (is_open x) ty.1 ∙ ap (judged_as (is_open x)) ty.0)
  judged_form t (as_complement {x = x} f) ty s = rw (judged_form BOOL f ty.1 s, closed x ty.1 s) (ap typed ty.0)
  judged_form t (as_binary {o = o} {t = u} {x = x} {y = y} {d = d} {e = e} {q = q} f g) ty s =
      let (fault, good) = good_divisor o g ty.4 in
      rw (judged_form u f ty.2 s.0, judged_form u g ty.3 s.1)
      (judged_joined q o u d e (is_open x) (is_open y)
      (open_integer is x u ty.2 s.0) (number_form_lem is u f ty.2 s.0)
      (open_integer is y u ty.3 s.1) (number_form_lem is u g ty.3 s.1)
      s.2 ty.1 fault good
      ∙ ap (judged_as (is_arithmetic (sort_of o) && (is_open x && is_open y))) ty.0)
  judged_form t (as_conversion {t = a} {u = b} {x = x} {e = e} {p = p} f) ty s =
      let (fault, type) = settle_open a a e (is_open x) (open_integer is x a ty.4 s) (number_form_lem is a f ty.4 s) (λ _. refl) in
      rw (judged_form a f ty.4 s) (converted_good p a b _ fault type ty.1 ty.2 ty.3 ∙ ap typed ty.0)

  -- where s is offered, its own type if it is open
  pub settled_form : {x : Expr} {e : S.Expr} (t s : Ty) → Form vs x e → Typed is x t → Sure x → (is_open x ≡ true → s ≡ t)
      → ((T.settled vs [] s e).faults ≡ []) × ((T.settled vs [] s e).ty ≡ t)
  unfolding T.settled
  settled_form {x} {e} t s f ty h o =
      rw (judged_form t f ty h) (settle_open t s e (is_open x) (open_integer is x t ty h) (number_form_lem is t f ty h) o)
