-- The walk of a program's body.
use mathlib.Core.Path.{◌≡◌, refl, sym, ap, subst, ◌∙◌}
use mathlib.Core.List.{List, ◌∷◌}
use Prim.Native.Nat.{ℕ, zero, suc, ◌≤◌}
use native.Mathlib.Omega.{arith}
use lib.ListN.{length, take, replicate, length-replicate}
use Rattle.paper.specs.Source as S
use Rattle.paper.specs.Plain.{State}
use Rattle.paper.specs.Unwinding.{no_selector, unwind}
use Rattle.tree.specs.Nodes.{child_of}
use Rattle.tree.specs.Trees as T
use Rattle.variables.specs.Table.{listed_in}
use Rattle.std.specs.Prelude.{Result}
use Rattle.paper.specs.declared.Refusal.{Refusal}
use Rattle.unwind.specs.declared.lists.Walk.{Walk}
use Rattle.unwind.specs.Walks.{said, UnwindDid, ProgramDid}
use Rattle.unwind.proofs.Fronts.{front_done}

-- the state of n cells before the first statement
abbrev pub zeros : ℕ → State
zeros n = replicate n 0

-- the first n of m copies
take_zeros : (n m : ℕ) → n ≤ m → take n (zeros m) ≡ zeros n
take_zeros zero m l = refl
take_zeros (suc n) zero l = absurd (omega arith)
take_zeros (suc n) (suc m) l = ap (λ xs. 0 ∷ xs) (take_zeros n m (omega arith))

zeros_length : (n : ℕ) → length (zeros n) ≡ n
zeros_length n = length-replicate n 0

pub start : (n : ℕ) → n ≤ 64 → take n (zeros 64) ≡ zeros n
start n l = take_zeros n 64 l

pub program_did : (t p tab : List ℕ) (cells i j : ℕ) (env env₁ : State) (old new : List ℕ) (r : Result Walk Refusal) → j ≡ child_of p i 2 → env ≡ zeros cells
    → UnwindDid (listed_in t p tab) t p env env₁ old new j 0 0 r → ProgramDid t p tab cells i old new r
program_did t p tab cells i j env env₁ old new r ej e did =
    let d = subst (λ s. UnwindDid (listed_in t p tab) t p s env₁ old new j 0 0 r) e did in
    let s = zeros_length cells in
    let vs = listed_in t p tab in
    record {
      long = did.long;
      goes = did.goes;
      is = λ ins size.
          sym (front_done vs (zeros cells) (T.front_at t p j) 0 (said new r)
          (d.front (λ n v h. rw s (ins n v h)) (s ∙ size)) no_selector)
          ∙ ap (λ k. unwind vs (T.front_at t p k S.done) (zeros cells) no_selector 0) ej;
    }
