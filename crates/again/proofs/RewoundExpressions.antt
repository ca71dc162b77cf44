-- An expression of the form of a typed plain one unwinds to it.
use mathlib.Core.Path.{◌≡◌, refl, sym, ap, ◌∙◌}
use mathlib.Core.Bool.{Bool, true, false, cond, ◌&&◌, false≢true}
use mathlib.Core.Option.{none, some}
use mathlib.Core.List.{List, []}
use Prim.Native.Nat.{ℕ, zero, suc, ◌+◌, ◌-◌, ◌<◌}
use native.Mathlib.Omega.{arith}
use borrow.Author.Tests.{le-leb, le-ltb}
use lib.IntN.{pos, nat_abs, ◌-ℤ◌}
use Rattle.paper.specs.declared.Ty.{Ty}
use Rattle.paper.specs.declared.Ty.TheVariants.{Bool as BOOL, Dint as DINT}
use Rattle.paper.specs.declared.Op.{Op}
use Rattle.paper.specs.declared.Cell.{Cell}
use Rattle.paper.specs.Refusals.{given}
use Rattle.paper.specs.Types.{sort_of, is_arithmetic}
use Rattle.paper.specs.Source as S
use Rattle.paper.specs.Names.{Variable, cells_of}
use Rattle.paper.specs.Typing as T
use Rattle.paper.specs.Typing.{type_of, type_in, operand_type}
use Rattle.paper.specs.Plain.{Expr, number, State}
use Rattle.paper.specs.Meaning.{cell_of, whole_value, value}
use Rattle.paper.specs.Unwinding.{cell_in, plain_of}
use Rattle.paper.proofs.Residues.{decode_encode}
use Rattle.demands.proofs.Typed.{Typed}
use Rattle.demands.proofs.Truths.{and_true}
use Rattle.demands.proofs.Judgements.{Tells, judged_tells, type_in_lem, operand_type_lem}
use Rattle.demands.proofs.Expressions.{Placed}
use Rattle.again.proofs.Forms.{Spelt, alone, element, Form, as_number, as_truth, as_read, as_minus, as_complement, as_binary, as_conversion}
use Rattle.again.proofs.Sure.{is_open, Sure}
use Rattle.again.proofs.RejudgedExpressions.{arithmetic_gives, judged_as, closed, judged_form}

-- ---- cells

-- how far an element stands behind the first
distance : (lo k : ℕ) → nat_abs (pos (lo + k) -ℤ pos lo) ≡ k
distance zero k = omega arith
distance (suc lo) k = rw (le-ltb (suc lo + k) (suc lo) (omega arith)) (omega arith)

pub cell_again : (vs : List Variable) (env : State) (c : Cell) (e : S.Expr) → Spelt vs c e → cell_of vs env e ≡ some c
unfolding cell_of whole_value value type_in type_of
cell_again vs env c e (alone v a b) =
    rw (a.found, b) (ap (λ (n : ℕ). some (record { 0 = n })) (let size : a.cell.at < 1 = rw b at a.cell.inside in omega (arith, a.cell.is)))
cell_again vs env c e (element v a lo b hi h x f) =
    let k = c.0 - v.first in
    let size : h.cell.at < suc hi - lo = rw x at h.cell.inside in
    let there = h.cell.is in
    rw (decode_encode DINT (pos (lo + k)) f, h.found, x, le-leb lo (lo + k) (omega arith), le-leb (lo + k) hi (omega arith), distance lo k)
    (ap (λ (n : ℕ). some (record { 0 = n })) (omega arith))

bracket_type : (vs : List Variable) (s : Ty) (r : ℕ) (e : S.Expr) → type_in vs s (S.brackets r e) ≡ type_in vs s e
unfolding type_in type_of
bracket_type vs s r e = refl

module _ (vs : List Variable) (placed : Placed vs) where
  -- its type is that of the plain one, or none where it is open
  type_form : {x : Expr} {e : S.Expr} (t : Ty) → Form vs x e → Typed (cells_of vs) x t → Sure x
      → type_of vs e ≡ cond (is_open x) none (some t)
  type_form {x} {e} t f ty s = go (is_open x) (rw (judged_form vs placed t f ty s) at (judged_tells vs [] e))
    where
      go : (o : Bool) → Tells (type_of vs e) (judged_as o t) → type_of vs e ≡ cond o none (some t)
      go true h = h
      go false h = h

  pub type_in_form : {x : Expr} {e : S.Expr} (t s : Ty) → Form vs x e → Typed (cells_of vs) x t → Sure x → (is_open x ≡ true → s ≡ t)
      → type_in vs s e ≡ t
  type_in_form {x} {e} t s f ty h o = type_in_lem vs s e _ (type_form t f ty h) ∙ go (is_open x) o
    where
      go : (b : Bool) → (b ≡ true → s ≡ t) → ◌≡◌ {A = Ty} (elim (cond b none (some t)) [ none ↦ s | some u ↦ u ]) t
      go true k = k refl
      go false k = refl

  -- the operands' type is the plain operator's
  operand_form : (o : Op) (s u : Ty) {x y : Expr} {d e : S.Expr} → Form vs x d → Form vs y e
      → Typed (cells_of vs) x u → Typed (cells_of vs) y u → Sure x → Sure y
      → (is_arithmetic (sort_of o) ≡ false → is_open x ≡ true → is_open y ≡ true → u ≡ DINT)
      → ((is_arithmetic (sort_of o) && (is_open x && is_open y)) ≡ true → s ≡ u)
      → operand_type vs s o d e ≡ u
  operand_form o s u {x} {y} {d} {e} f g tx ty hx hy dint same =
      operand_type_lem vs s o d e _ _ (type_form u f tx hx) (type_form u g ty hy) ∙ go (is_open x) (is_open y) (is_arithmetic (sort_of o)) dint same
    where
      go : (a b c : Bool) → (c ≡ false → a ≡ true → b ≡ true → u ≡ DINT) → ((c && (a && b)) ≡ true → s ≡ u)
          → ◌≡◌ {A = Ty} (elim (T.either (cond a none (some u)) (cond b none (some u))) [ none ↦ cond c s DINT | some v ↦ v ]) u
      go true true true dint same = same refl
      go true true false dint same = sym (dint refl refl refl)
      go true false c dint same = refl
      go false b c dint same = refl

  pub plain_again : (env : State) (s t : Ty) {x : Expr} {e : S.Expr} → Form vs x e → Typed (cells_of vs) x t → Sure x
      → (is_open x ≡ true → s ≡ t) → plain_of vs env s e ≡ given x
  unfolding plain_of cell_in is_open
  plain_again env s t (as_number {z = z}) ty h o = ap given (ap (λ u. number u z) (o refl ∙ sym ty))
  plain_again env s t as_truth ty h o = refl
  plain_again env s t (as_read {c = c} (alone {p = p} v a e)) ty k o =
      rw (cell_again vs env c (S.variable p v.declared.name) (alone v a e)) refl
  plain_again env s t (as_read {c = c} (element {p = p} {q = q} {r = r} v a lo b hi h e f)) ty k o =
      let i = S.number r (pos (lo + (c.0 - v.first))) in
      rw (cell_again vs env c (S.element p v.declared.name q i) (element v a lo b hi h e f)) refl
  plain_again env s t (as_minus {t = u} {x = x} {e = e} {r = r} f) ty h o =
      let same : is_open x ≡ true → s ≡ u = λ k. o k ∙ sym ty.0 in
      rw (plain_again env s u f ty.2 h same, bracket_type vs s r e, type_in_form u s f ty.2 h same) refl
  plain_again env s t (as_complement {x = x} f) ty h o =
      rw (plain_again env DINT BOOL f ty.1 h (λ k. absurd (false≢true (sym (closed vs placed x ty.1 h) ∙ k)))) refl
  plain_again env s t (as_binary {o = op} {t = u} {x = x} {y = y} {d = d} {e = e} f g) ty h o =
      let same : (is_arithmetic (sort_of op) && (is_open x && is_open y)) ≡ true → s ≡ u = λ k.
      o k ∙ sym ty.0 ∙ arithmetic_gives (sort_of op) u (and_true (is_arithmetic (sort_of op)) (is_open x && is_open y) k).0 in
      let is = operand_form op s u f g ty.2 ty.3 h.0 h.1 h.2 same in
      rw (is, plain_again env u u f ty.2 h.0 (λ _. refl), plain_again env u u g ty.3 h.1 (λ _. refl)) refl
  plain_again env s t (as_conversion {t = u} f) ty h o = rw (plain_again env u u f ty.4 h (λ _. refl)) refl
