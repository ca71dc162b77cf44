-- Runs of ST0: lists one behind another, cells that stay, types kept, steps within the figure.
use mathlib.Core.Path.{◌≡◌, refl, ◌∙◌, sym}
use mathlib.Core.Bool.{Bool, true, false, not, ◌||◌, or_assoc}
use mathlib.Core.Option.{some}
use mathlib.Core.List.{List, [], ◌∷◌}
use Prim.Native.Nat.{ℕ, zero, suc, ◌+◌, ◌^◌, ◌<◌, ◌≤◌, max}
use native.Mathlib.Omega.{arith}
use borrow.Author.Tests.{eqb-false}
use lib.Dec.{eqb}
use lib.ListN.{length, get_or, set, get_elem?, length-set}
use lib.Seq.{get_or-set_other}
use Rattle.paper.specs.declared.Ty.{Ty}
use Rattle.paper.specs.Types.{width, is_true}
use Rattle.paper.specs.Names.{Info}
use Rattle.paper.specs.Plain.{Expr, number, truth, read, minus, complement, binary, conversion, Stmts, done, assign, choice, State, Ran, carried, tested, value_of, run, figure, weight, assigns, ◌⨾◌}
use Rattle.demands.specs.InTypes.{InType, InTypes}
use Rattle.demands.proofs.Truths.{or_false}
use Rattle.demands.proofs.Answers.{none_some}
use Rattle.demands.proofs.Typed.{Typed, WellTyped}
use Rattle.paper.proofs.Residues.{encode_below, bit_below, apply_below}

-- ---- one list behind another

pub run-⨾ : (p q : Stmts) (r : Ran) → run (p ⨾ q) r ≡ run q (run p r)
unfolding run ◌⨾◌
run-⨾ done q r = refl
run-⨾ (assign c e k) q r = run-⨾ k q _
run-⨾ (choice c a b k) q r = run-⨾ k q _

pub assigns-⨾ : (p q : Stmts) (i : ℕ) → assigns (p ⨾ q) i ≡ assigns p i || assigns q i
unfolding assigns ◌⨾◌
assigns-⨾ done q i = refl
assigns-⨾ (assign c e k) q i = rw (assigns-⨾ k q i, or_assoc)
assigns-⨾ (choice c a b k) q i = rw (assigns-⨾ k q i) (sym (or_assoc (assigns a i || assigns b i) (assigns k i) (assigns q i)))

pub weight-⨾ : (n : ℕ) (p q : Stmts) → weight n (p ⨾ q) ≡ weight n p + weight n q
unfolding weight ◌⨾◌
weight-⨾ n done q = omega arith
weight-⨾ n (assign c e k) q = omega (arith, weight-⨾ n k q)
weight-⨾ n (choice c a b k) q = omega (arith, weight-⨾ n k q)

pub welltyped-⨾ : (is : List Info) (p q : Stmts) → WellTyped is p → WellTyped is q → WellTyped is (p ⨾ q)
unfolding ◌⨾◌
welltyped-⨾ is done q h k = k
welltyped-⨾ is (assign c e p) q h k = (h.0, welltyped-⨾ is p q h.1 k)
welltyped-⨾ is (choice c a b p) q h k = (h.0, h.1, h.2, welltyped-⨾ is p q h.3 k)

-- ---- what a run keeps

-- of two runs the one that a test takes
abbrev pub taken : Bool → Ran → Ran → Ran
taken v x y = elim v [ true ↦ x | false ↦ y ]

-- how far an IF's branch comes
abbrev branch : Expr → Stmts → Stmts → Ran → Ran
branch c a b r = taken (is_true (value_of r.state c)) (run a (tested r)) (run b (tested r))

-- what holds after either branch holds after the one that runs
after_branch : (P : Ran → Type 0) (c : Expr) (a b : Stmts) (r : Ran) → P (run a (tested r)) → P (run b (tested r)) → P (branch c a b r)
after_branch P c a b r h k =
    elim (is_true (value_of r.state c)) as (λ t. P (taken t (run a (tested r)) (run b (tested r)))) [
      | true ↦ h
      | false ↦ k
    ]

-- a cell that no assignment names keeps its value
pub run_keeps : (p : Stmts) (r : Ran) (i : ℕ) → assigns p i ≡ false → get_or (run p r).state i 0 ≡ get_or r.state i 0
unfolding run assigns
run_keeps done r i h = refl
run_keeps (assign c e k) r i h =
    let (apart, nk) = or_false (eqb c.0 i) (assigns k i) h in
    run_keeps k _ i nk ∙ get_or-set_other r.state c.0 i _ 0 (λ q. eqb-false c.0 i apart (sym q))
run_keeps (choice c a b k) r i h =
    let (nab, nk) = or_false (assigns a i || assigns b i) (assigns k i) h in
    let (na, nb) = or_false (assigns a i) (assigns b i) nab in
    run_keeps k _ i nk
    ∙ after_branch (λ x. get_or x.state i 0 ≡ get_or r.state i 0) c a b r
    (run_keeps a (tested r) i na)
    (run_keeps b (tested r) i nb)

pub run_length : (p : Stmts) (r : Ran) → length (run p r).state ≡ length r.state
unfolding run
run_length done r = refl
run_length (assign c e k) r = run_length k _ ∙ length-set r.state c.0 _
run_length (choice c a b k) r =
    run_length k _
    ∙ after_branch (λ x. length x.state ≡ length r.state) c a b r (run_length a (tested r)) (run_length b (tested r))

pub run_steps : (p : Stmts) (r : Ran) → (run p r).steps ≤ r.steps + figure p
unfolding run figure
run_steps done r = omega arith
run_steps (assign c e k) r = omega (arith, run_steps k (carried c (value_of r.state e) r))
run_steps (choice c a b k) r =
    let n : ℕ = suc (r.steps + max (figure a) (figure b)) in
    let first : (branch c a b r).steps ≤ n =
    after_branch (λ x. x.steps ≤ n) c a b r (omega (arith, run_steps a (tested r))) (omega (arith, run_steps b (tested r))) in
    omega (arith, run_steps k (branch c a b r))

-- ---- values in their types

-- a cell's value lies in the cell's type
in_get : (is : List Info) (s : State) (k : ℕ) (i : Info) → InTypes is s → get_elem? is k ≡ some i → InType i (get_or s k 0)
in_get [] [] k i h e = none_some e
in_get [] (v ∷ s) k i h e = absurd h
in_get (j ∷ is) [] k i h e = absurd h
in_get (j ∷ is) (v ∷ s) zero i h e = let q : j ≡ i = cc in rw q at h.0
in_get (j ∷ is) (v ∷ s) (suc k) i h e = in_get is s k i h.1 e

-- a value of the cell's type may be put into the cell
in_set : (is : List Info) (s : State) (k : ℕ) (i : Info) (v : ℕ)
    → InTypes is s → get_elem? is k ≡ some i → InType i v → InTypes is (set s k v)
in_set [] [] k i v h e f = tt
in_set [] (w ∷ s) k i v h e f = absurd h
in_set (j ∷ is) [] k i v h e f = absurd h
in_set (j ∷ is) (w ∷ s) zero i v h e f = let q : i ≡ j = cc in (rw q at f, h.1)
in_set (j ∷ is) (w ∷ s) (suc k) i v h e f = (h.0, in_set is s k i v h.1 e f)

-- the value of a typed expression lies in its type
pub value_in_type : (is : List Info) (s : State) (e : Expr) (t : Ty) → InTypes is s → Typed is e t → value_of s e < 2 ^ width t
unfolding value_of
value_in_type is s (number u z) t h k = rw (← k) (encode_below u z)
value_in_type is s (truth b) t h k = rw (← k) (bit_below b)
value_in_type is s (read c) t h k = rw (← k.2) (in_get is s c.0 k.0 h k.1)
value_in_type is s (minus u e) t h k = rw (← k.0) (encode_below u _)
value_in_type is s (complement e) t h k = rw (← k.0) (bit_below (not (is_true (value_of s e))))
value_in_type is s (binary o u l r) t h k = rw (← k.0) (apply_below o u (value_of s l) (value_of s r))
value_in_type is s (conversion u v e) t h k = rw (← k.0) (encode_below v _)

pub run_in_types : (is : List Info) (p : Stmts) (r : Ran) → WellTyped is p → InTypes is r.state → InTypes is (run p r).state
unfolding run
run_in_types is done r h k = k
run_in_types is (assign c e p) r h k =
    let (i, at, target) = h.0 in
    run_in_types is p _ h.1 (in_set is r.state c.0 i _ k at (value_in_type is r.state e i.ty k target.1))
run_in_types is (choice c a b p) r h k =
    run_in_types is p _ h.3
    (after_branch (λ x. InTypes is x.state) c a b r (run_in_types is a (tested r) h.1 k) (run_in_types is b (tested r) h.2 k))
