-- What acceptance gives: declarations that can be printed, and plain statements that are typed, sure, low and shallow.
use mathlib.Core.Path.{◌≡◌, refl}
use mathlib.Core.Bool.{Bool, true, false, not}
use mathlib.Core.List.{List, [], ◌∷◌}
use Prim.Native.Nat.{ℕ, ◌≤◌}
use native.Mathlib.Omega.{arith}
use lib.IntN.{pos}
use lib.ListN.{length, replicate}
use Rattle.paper.specs.declared.Ty.{Ty}
use Rattle.paper.specs.declared.Ty.TheVariants.{Dint as DINT}
use Rattle.paper.specs.Types.{is_integer, fits, for_numbers}
use Rattle.paper.specs.Source.{Bounds, single, array, Initial, nothing, value, flag, Declared, Program}
use Rattle.paper.specs.Names as N
use Rattle.paper.specs.Names.{variables_of, cells_of}
use Rattle.paper.specs.Typing as T
use Rattle.paper.specs.Heights.{height_faults}
use Rattle.paper.specs.Plain.{weight}
use Rattle.paper.specs.Unwinding.{Unwound, no_selector, unwound_program}
use Rattle.paper.specs.Judge.{Sound}
use Rattle.demands.specs.InTypes.{All}
use Rattle.demands.proofs.Answers.{no_fault, cons_nil, test_passed}
use Rattle.demands.proofs.Typed.{WellTyped}
use Rattle.demands.proofs.Accepted.{Accepted}
use Rattle.demands.proofs.Theorem.{walk_means}
use Rattle.again.proofs.Forms.{depth}
use Rattle.again.proofs.Alike.{ShapedDeclared}
use Rattle.again.proofs.Sure.{AllLow}
use Rattle.again.proofs.SpelledNumbers.{fits_small}
use Rattle.again.proofs.SpelledPrograms.{SmallBounds, SmallInitial, Writes}
use Rattle.again.proofs.AlikeDeclarations.{WellDeclared, all_declared}
use Rattle.again.proofs.SureTests.{none_sure}
use Rattle.again.proofs.SureStatements.{sure_walk}
use Rattle.again.proofs.NestedReading.{nested}
use Rattle.again.proofs.NamedReading.{IsName, named_program}

small_bounds : (b : Bounds) → T.bounds_faults b ≡ [] → SmallBounds b
small_bounds single h = tt
small_bounds (array p lo q hi) h =
    let (low, high) = no_fault (N.at p (not (fits DINT (pos lo)))) (N.at q (not (fits DINT (pos hi)))) h in
    (fits_small DINT (pos lo) (test_passed p (fits DINT (pos lo)) low), fits_small DINT (pos hi) (test_passed q (fits DINT (pos hi)) high))

small_initial : (t : Ty) (v : Initial) → T.initial_faults t v ≡ [] → SmallInitial v
small_initial t nothing h = tt
small_initial t (value q p z) h = fits_small (for_numbers t) z (go (fits (for_numbers t) z) h)
  where
    go : (b : Bool) → ◌≡◌ {A = List ℕ} (elim b [ true ↦ N.at q (not (is_integer t)) | false ↦ p ∷ [] ]) [] → b ≡ true
    go true h = refl
    go false h = cons_nil h
small_initial t (flag q b) h = tt

-- what acceptance gives of a declaration
abbrev pub Declares : Declared → Type 0
Declares d = (IsName d.name × ShapedDeclared d) × WellDeclared d

both_hold : (P Q : Declared → Type 0) (ds : List Declared) → All P ds → All Q ds → All (λ d. P d × Q d) ds
both_hold P Q [] h k = tt
both_hold P Q (d ∷ ds) h k = ((h.0, k.0), both_hold P Q ds h.1 k.1)

pub writes : (d : Declared) → Declares d → Writes d
writes d h = record { named = h.0.0; bounds = small_bounds d.bounds h.1.bounds; initial = small_initial d.ty d.initial h.1.initial; shaped = h.0.1 }

-- ---- all of it

-- what acceptance gives
pub record Facts (pr : Program) (u : Unwound) : Type 0 where
  pub own : IsName pr.name
  pub declares : All Declares pr.declared
  pub once : N.declaration_faults [] 0 pr.declared ≡ []
  pub typed : WellTyped (cells_of (variables_of pr.declared)) u.plain
  pub low : AllLow u.plain
  pub shallow : depth u.plain ≤ 32
  pub weighed : u.weight ≡ weight (length (cells_of (variables_of pr.declared))) u.plain
  pub light : u.weight ≤ 3000

pub facts : (text : List ℕ) (a : Sound) (k : Accepted text a) → Facts k.program k.walked
unfolding height_faults unwound_program
facts text a k =
    let pr = k.program in
    let ds = pr.declared in
    let vs = variables_of ds in
    let names = named_program text k.words pr k.spelled k.read in
    let means = walk_means text a k in
    let within = sure_walk vs pr.body [] (replicate (length (cells_of vs)) 0) no_selector 1 0 k.walked none_sure
    (record { named = k.named; typed = k.typed; low = k.low; walk = k.walk }) in
    let deep = nested k.words pr k.read in
    let shallow = within.shallow in
    let weighed = means.weighed in
    record {
      own = names.own;
      declares = both_hold _ WellDeclared ds names.declared (all_declared ds k.valued);
      once = k.declared;
      typed = means.typed;
      low = within.low;
      shallow = omega arith;
      weighed = omega arith;
      light = means.light (omega arith);
    }
