-- The test of a CASE arm is sure, and as high as refusal 7 measures it.
use mathlib.Core.Path.{◌≡◌, refl, sym, ◌∙◌}
use mathlib.Core.Bool.{true, false, not, false≢true}
use mathlib.Core.Option.{some}
use mathlib.Core.List.{List, [], ◌∷◌}
use Prim.Native.Nat.{ℕ, ◌≤◌}
use native.Mathlib.Omega.{arith}
use borrow.Author.Tests.{ltb-false}
use lib.Dec.{ltb}
use Rattle.paper.specs.declared.Ty.TheVariants.{Bool as BOOL, Dint as DINT}
use Rattle.paper.specs.declared.Op.TheVariants.{Or}
use Rattle.paper.specs.Types.{is_integer, fits}
use Rattle.paper.specs.Source.{Label, one, range}
use Rattle.paper.specs.Names.{at}
use Rattle.paper.specs.Typing.{label_faults, labels_faults}
use Rattle.paper.specs.Heights as H
use Rattle.paper.specs.Plain.{Expr, number, truth, read, minus, complement, binary, conversion}
use Rattle.paper.specs.Unwinding.{Selector, no_selector, test_of, or_tests, tests_of}
use Rattle.demands.proofs.Answers.{no_fault, no_fault_at, test_passed}
use Rattle.again.proofs.Forms.{height}
use Rattle.again.proofs.Sure.{is_open, Sure, Low}

-- a selector of height h, whose plain form is sure
pub record SureSelector (sel : Selector) (h : ℕ) : Type 0 where
  pub sure : Sure sel.plain
  pub integer : is_integer sel.ty ≡ true
  pub open_dint : is_open sel.plain ≡ true → sel.ty ≡ DINT
  pub high : height sel.plain ≡ h

pub none_sure : SureSelector no_selector 1
unfolding height fits
none_sure = record { sure = (refl, refl); integer = refl; open_dint = λ _. refl; high = refl }

height_some : (x : Expr) → 1 ≤ height x
unfolding height
height_some (number t z) = omega arith
height_some (truth b) = omega arith
height_some (read c) = omega arith
height_some (minus t e) = omega arith
height_some (complement e) = omega arith
height_some (binary o t l r) = omega arith
height_some (conversion t u e) = omega arith

pub low_enough : (p h : ℕ) → H.too_high p h ≡ [] → h ≤ 32
low_enough p h e = ltb-false 32 h (no_fault_at p (ltb 32 h) e)

module _ (sel : Selector) (h : ℕ) (s : SureSelector sel h) where
  -- one label
  record SureTest (x : Expr) (n : ℕ) : Type 0 where
    sure : Sure x
    closed : is_open x ≡ false
    high : height x ≡ n

  test_sure : (l : Label) → label_faults sel.ty l ≡ [] → SureTest (test_of sel l) (H.test_height h l)
  unfolding is_open height
  test_sure (one p a) f =
      let some-height = height_some sel.plain in
      let is = s.high in
      record {
        sure = (s.sure, (s.integer, test_passed p (fits sel.ty a) f), λ _ o _. s.open_dint o);
        closed = refl;
        high = omega arith;
      }
  test_sure (range p a q b) f =
      let (low, up) = no_fault (at p (not (fits sel.ty a))) (at q (not (fits sel.ty b))) f in
      let some-height = height_some sel.plain in
      let is = s.high in
      record {
        sure = (
          (s.sure, (s.integer, test_passed p (fits sel.ty a) low), λ _ o _. s.open_dint o),
          (s.sure, (s.integer, test_passed q (fits sel.ty b) up), λ _ o _. s.open_dint o),
          λ _ o _. absurd (false≢true o),
        );
        closed = refl;
        high = omega arith;
      }

  or_sure : (x : Expr) (n : ℕ) (ls : List Label) → SureTest x n → labels_faults (some sel.ty) ls ≡ []
      → SureTest (or_tests sel x ls) (H.joined_height h n ls)
  unfolding is_open height or_tests H.joined_height labels_faults
  or_sure x n [] t f = t
  or_sure x n (l ∷ ls) t f =
      let (own, rest) = no_fault (label_faults sel.ty l) (labels_faults (some sel.ty) ls) f in
      let u = test_sure l own in
      or_sure (binary Or BOOL x (test_of sel l)) _ ls
      (record {
        sure = (t.sure, u.sure, λ _ o _. absurd (false≢true (sym t.closed ∙ o)));
        closed = refl;
        high = rw (t.high, u.high) refl;
      }) rest

  pub tests_low : (ls : List Label) → labels_faults (some sel.ty) ls ≡ [] → H.arm_faults h ls ≡ [] → Low (tests_of sel ls)
  unfolding tests_of height labels_faults
  tests_low [] f g = (tt, omega arith)
  tests_low (l ∷ ls) f g =
      let (own, rest) = no_fault (label_faults sel.ty l) (labels_faults (some sel.ty) ls) f in
      let r = or_sure (test_of sel l) (H.test_height h l) ls (test_sure l own) rest in
      (r.sure, rw r.high (low_enough (H.label_place l) _ g))
