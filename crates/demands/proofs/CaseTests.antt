-- The test of a CASE arm holds exactly where one of its labels matches, and it is BOOL.
use mathlib.Core.Path.{◌≡◌, refl, ◌∙◌}
use mathlib.Core.Bool.{Bool, true, false, not, ◌||◌, or_assoc, or-false, false≢true}
use mathlib.Core.Option.{some}
use mathlib.Core.List.{List, [], ◌∷◌}
use Prim.Native.Nat.{ℕ}
use lib.IntN.{ℤ}
use Rattle.paper.specs.declared.Ty.{Ty}
use Rattle.paper.specs.declared.Ty.TheVariants.{Bool as BOOL}
use Rattle.paper.specs.declared.Op.TheVariants.{Or}
use Rattle.paper.specs.Types.{is_integer, fits, encode, decode, bit, is_true, apply}
use Rattle.paper.specs.Source.{Label, one, range}
use Rattle.paper.specs.Names.{Info, at}
use Rattle.paper.specs.Typing.{label_faults, labels_faults}
use Rattle.paper.specs.Plain.{Expr, binary, State, value_of}
use Rattle.paper.specs.Meaning.{matches, matches_any}
use Rattle.paper.specs.Unwinding.{Selector, test_of, or_tests, tests_of}
use Rattle.demands.proofs.Answers.{no_fault, test_passed}
use Rattle.demands.proofs.Typed.{Typed}
use Rattle.paper.proofs.Residues.{decode_encode}

-- ---- labels without faults

-- a label without fault has the value that its number stands for
label_value : (t : Ty) (p : ℕ) (a : ℤ) → at p (not (fits t a)) ≡ [] → decode t (encode t a) ≡ a
label_value t p a h = decode_encode t a (test_passed p (fits t a) h)

module _ (t : Ty) (l : Label) (ls : List Label) (h : labels_faults (some t) (l ∷ ls) ≡ []) where
  first_faultless : label_faults t l ≡ []
  unfolding labels_faults
  first_faultless = (no_fault (label_faults t l) (labels_faults (some t) ls) h).0

  rest_faultless : labels_faults (some t) ls ≡ []
  unfolding labels_faults
  rest_faultless = (no_fault (label_faults t l) (labels_faults (some t) ls) h).1

-- ---- the test holds where a label matches

is_true_bit : (b : Bool) → is_true (bit b) ≡ b
is_true_bit true = refl
is_true_bit false = refl

module _ (s : State) (sel : Selector) (z : ℤ) (d : decode sel.ty (value_of s sel.plain) ≡ z) where
  -- one label
  test_matches : (l : Label) → label_faults sel.ty l ≡ [] → is_true (value_of s (test_of sel l)) ≡ matches z l
  unfolding value_of apply
  test_matches (one p a) h = rw (is_true_bit, d, label_value sel.ty p a h)
  test_matches (range p a q b) h =
      let t : Ty = sel.ty in
      let (low, high) = no_fault (at p (not (fits t a))) (at q (not (fits t b))) h in
      simp (is_true_bit, d, label_value t p a low, label_value t q b high)

  -- the OR of a test e and those of the labels behind
  or_tests_lem : (e : Expr) (ls : List Label)
      → labels_faults (some sel.ty) ls ≡ []
      → is_true (value_of s (or_tests sel e ls)) ≡ is_true (value_of s e) || matches_any z ls
  unfolding value_of apply or_tests matches_any
  or_tests_lem e [] h = rw or-false
  or_tests_lem e (l ∷ ls) h =
      or_tests_lem (binary Or BOOL e (test_of sel l)) ls (rest_faultless sel.ty l ls h)
      ∙ rw (is_true_bit, test_matches l (first_faultless sel.ty l ls h), or_assoc)

pub tests_match : (s : State) (sel : Selector) (z : ℤ) (ls : List Label)
    → decode sel.ty (value_of s sel.plain) ≡ z
    → labels_faults (some sel.ty) ls ≡ []
    → is_true (value_of s (tests_of sel ls)) ≡ matches_any z ls
unfolding value_of tests_of matches_any
tests_match s sel z [] d h = refl
tests_match s sel z (l ∷ ls) d h =
    or_tests_lem s sel z d (test_of sel l) ls (rest_faultless sel.ty l ls h)
    ∙ rw (test_matches s sel z d l (first_faultless sel.ty l ls h))

-- ---- the test is BOOL

-- an operator without divisor asks nothing of its right side
undivided : {A : Type 0} → false ≡ true → A
undivided e = absurd (false≢true e)

module _ (is : List Info) (sel : Selector) (t : Typed is sel.plain sel.ty) (i : is_integer sel.ty ≡ true) where
  test_typed : (l : Label) → Typed is (test_of sel l) BOOL
  test_typed (one p a) = (refl, refl, t, refl, undivided)
  test_typed (range p a q b) = (refl, refl, (refl, i, t, refl, undivided), (refl, i, t, refl, undivided), undivided)

  -- the OR of a test e and those of the labels behind
  or_typed : (e : Expr) (ls : List Label) → Typed is e BOOL → Typed is (or_tests sel e ls) BOOL
  unfolding or_tests
  or_typed e [] b = b
  or_typed e (l ∷ ls) b = or_typed (binary Or BOOL e (test_of sel l)) ls (refl, refl, b, test_typed l, undivided)

pub tests_typed : (is : List Info) (sel : Selector) (ls : List Label)
    → Typed is sel.plain sel.ty → is_integer sel.ty ≡ true
    → Typed is (tests_of sel ls) BOOL
unfolding tests_of
tests_typed is sel [] t i = refl
tests_typed is sel (l ∷ ls) t i = or_typed is sel t i (test_of sel l) ls (test_typed is sel t i l)
