-- A typed plain program, sure and low, can be written and read.
use mathlib.Core.Bool.{false≢true}
use mathlib.Core.List.{List}
use Prim.Native.Nat.{◌+◌, ◌*◌, ◌≤◌, ◌<◌}
use native.Mathlib.Omega.{arith}
use lib.ListN.{length}
use Rattle.paper.specs.declared.Ty.{Ty}
use Rattle.paper.specs.declared.Ty.TheVariants.{Bool as BOOL}
use Rattle.paper.specs.declared.Cell.{Cell}
use Rattle.paper.specs.Names.{Variable, Info, cells_of}
use Rattle.paper.specs.Plain.{Expr, number, truth, read, minus, complement, binary, conversion, Stmts, done, assign, choice}
use Rattle.demands.proofs.Lists.{some_inside}
use Rattle.demands.proofs.Typed.{Typed, WellTyped}
use Rattle.again.proofs.Forms.{brackets, height}
use Rattle.again.proofs.Printed.{Printed}
use Rattle.again.proofs.Sure.{Sure, AllLow}
use Rattle.again.proofs.SpelledNumbers.{fits_small}
use Rattle.again.proofs.SpelledExpressions.{Writable}
use Rattle.again.proofs.SpelledStatements.{WritableAll}
use Rattle.again.proofs.RereadExpressions.{NoNumber, Readable}
use Rattle.again.proofs.RereadStatements.{ReadableAll}

-- two brackets at most for an operator, and one for an element
few_brackets : (x : Expr) → 1 + brackets x ≤ 2 * height x
unfolding brackets height
few_brackets (number t z) = omega arith
few_brackets (truth b) = omega arith
few_brackets (read c) = omega arith
few_brackets (minus t e) = omega (arith, few_brackets e)
few_brackets (complement e) = omega (arith, few_brackets e)
few_brackets (binary o t l r) = omega (arith, few_brackets l, few_brackets r)
few_brackets (conversion t u e) = omega (arith, few_brackets e)

-- what is BOOL is no number
no_number : (is : List Info) (x : Expr) → Typed is x BOOL → Sure x → NoNumber x
no_number is (number t z) ty s = false≢true (rw ty at s.0)
no_number is (truth b) ty s = tt
no_number is (read c) ty s = tt
no_number is (minus t e) ty s = tt
no_number is (complement e) ty s = tt
no_number is (binary o t l r) ty s = tt
no_number is (conversion t u e) ty s = tt

module _ (vs : List Variable) (cells : (c : Cell) → c.0 < length (cells_of vs) → Printed vs c) where
  abbrev is : List Info
  is = cells_of vs

  readable : (x : Expr) (t : Ty) → Typed is x t → Sure x → Readable vs x
  readable (number u z) t ty s = tt
  readable (truth b) t ty s = tt
  readable (read c) t ty s = cells c (some_inside is c.0 ty.0 ty.1)
  readable (minus u e) t ty s = readable e u ty.2 s
  readable (complement e) t ty s = (no_number is e ty.1 s, readable e BOOL ty.1 s)
  readable (binary o u l r) t ty s = (readable l u ty.2 s.0, readable r u ty.3 s.1)
  readable (conversion u v e) t ty s = readable e u ty.4 s

  writable : (x : Expr) (t : Ty) → Typed is x t → Sure x → Writable x
  writable (number u z) t ty s = fits_small u z s.1
  writable (truth b) t ty s = tt
  writable (read c) t ty s = tt
  writable (minus u e) t ty s = writable e u ty.2 s
  writable (complement e) t ty s = writable e BOOL ty.1 s
  writable (binary o u l r) t ty s = (writable l u ty.2 s.0, writable r u ty.3 s.1)
  writable (conversion u v e) t ty s = ((ty.1, ty.2, ty.3), writable e u ty.4 s)

  pub readable_all : (p : Stmts) → WellTyped is p → AllLow p → ReadableAll vs p
  readable_all done t l = tt
  readable_all (assign c e k) t l = (
    cells c (some_inside is c.0 t.0.0 t.0.1),
    (readable e t.0.0.ty t.0.2.1 l.0.0, let b = few_brackets e in let h = l.0.1 in omega arith),
    readable_all k t.1 l.1,
  )
  readable_all (choice c a b k) t l = (
    (readable c BOOL t.0 l.0.0, let n = few_brackets c in let h = l.0.1 in omega arith),
    readable_all a t.1 l.1,
    readable_all b t.2 l.2,
    readable_all k t.3 l.3,
  )

  pub writable_all : (p : Stmts) → WellTyped is p → AllLow p → WritableAll p
  writable_all done t l = tt
  writable_all (assign c e k) t l = (writable e t.0.0.ty t.0.2.1 l.0.0, writable_all k t.1 l.1)
  writable_all (choice c a b k) t l =
      (writable c BOOL t.0 l.0.0, writable_all a t.1 l.1, writable_all b t.2 l.2, writable_all k t.3 l.3)
