-- Printing, one after the other.
use mathlib.Core.Path.{◌≡◌, refl, sym, ap, ◌∙◌}
use mathlib.Core.List.{List, [], ◌∷◌, ◌++◌, append_assoc, append-nil}
use Prim.Native.Nat.{ℕ, suc, ◌+◌, ◌≤◌, ◌<◌, min}
use native.Mathlib.Nat.{add-zero}
use native.Mathlib.Numerals.{add-one}
use native.Mathlib.Omega.{arith}
use lib.ListN.{length, take, get_or, set, length-append}
use lib.Seq.{sets, sets-eq, length-sets, take-suc}
use Rattle.print.specs.Printed.{limit, Printed}

-- stores in a row
sets_append : (xs ys l : List ℕ) (i : ℕ) → sets l i (xs ++ ys) ≡ sets (sets l i xs) (i + length xs) ys
sets_append [] ys l i = rw (add-zero i)
sets_append (x ∷ xs) ys l i =
    let e : suc i + length xs ≡ i + suc (length xs) = omega arith in
    sets_append xs ys (set l i x) (suc i) ∙ ap (λ j. sets (sets (set l i x) (suc i) xs) j ys) e

-- a run of stores prints
pub stored : (old new : List ℕ) (at : ℕ) (bs : List ℕ) (r : ℕ) → new ≡ sets old at bs → r ≡ min limit (at + length bs)
    → Printed old new at (λ k. bs ++ k) r
stored old new at bs r e p =
    record {
      law = λ k. ap (λ b. b ++ k) (sym (append-nil bs));
      place = rw (append-nil bs) p;
      size = ap length e ∙ length-sets old at bs;
      written = rw (append-nil bs) (λ f l. e ∙ sets-eq bs old at f);
    }

-- nothing
pub none : (old : List ℕ) (at : ℕ) → at ≤ limit → Printed old old at (λ k. k) at
none old at h = stored old old at [] at refl (omega arith)

-- the same bytes by another name
pub named : {old new : List ℕ} {at r : ℕ} {f g : List ℕ → List ℕ} → ((k : List ℕ) → g k ≡ f k) → Printed old new at f r → Printed old new at g r
named {old} {new} {at} {r} {f} {g} e p =
    record {
      law = λ k. e k ∙ p.law k ∙ ap (λ b. b ++ k) (sym (e []));
      place = rw (e []) p.place;
      size = p.size;
      written = rw (e []) p.written;
    }

-- f and then g
infixr 5 ◌then◌
pub ◌then◌ : {old mid new : List ℕ} {at a r : ℕ} {f g : List ℕ → List ℕ}
    → Printed old mid at f a → Printed mid new a g r → Printed old new at (λ k. f (g k)) r
◌then◌ {old} {mid} {new} {at} {a} {r} {f} {g} p q =
    let both : f (g []) ≡ f [] ++ g [] = p.law (g []) in
    let n : length (f [] ++ g []) ≡ length (f []) + length (g []) = length-append (f []) (g []) in
    record {
      law = λ k. p.law (g k) ∙ ap (λ b. f [] ++ b) (q.law k) ∙ sym (append_assoc (f []) (g []) k) ∙ ap (λ b. b ++ k) (sym both);
      place = rw (both, n) (omega (arith, p.place, q.place));
      size = q.size ∙ p.size;
      written = rw both (λ i l.
          let fits : at + (length (f []) + length (g [])) ≤ length old = rw n at i in
          let here : a ≡ at + length (f []) = omega (arith, p.place) in
          let one : mid ≡ sets old at (f []) = p.written (omega arith) l ∙ sym (sets-eq (f []) old at (omega arith)) in
          let s = p.size in
          q.written (omega arith) (omega arith)
          ∙ sym (sets-eq (g []) mid a (omega arith))
          ∙ rw (one, here) (sym (sets_append (f []) (g []) old at))
          ∙ sets-eq (f [] ++ g []) old at i);
    }

-- one byte more of a list
pub more : {old mid new : List ℕ} {at a r b : ℕ} (xs : List ℕ) (i : ℕ) → i < length xs → b ≡ get_or xs i 0
    → Printed old mid at (λ k. take i xs ++ k) a → Printed mid new a (λ k. b ∷ k) r → Printed old new at (λ k. take (i + 1) xs ++ k) r
more xs i l e p q =
    named (λ k. rw (add-one i, take-suc xs i 0, append_assoc, e)) (p then q)
