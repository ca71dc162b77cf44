-- A number of no more than 32 bits: its distance from 0 in 64 bits, its node, and the variable set to it.
use mathlib.Core.Path.{◌≡◌, refl, ap, ap₂, subst, ◌∙◌}
use mathlib.Core.Bool.{true, false}
use mathlib.Core.List.{List}
use Prim.Native.Nat.{ℕ, zero, suc, ◌+◌, ◌*◌, ◌/◌, ◌%◌, ◌≤◌}
use native.Mathlib.Omega.{arith}
use borrow.Author.Tests.{ltb-true}
use lib.IntN.{ℤ, pos, negsuc, neg_ℤ, nat_abs}
use lib.Signed.{lt_z, pos-nat_abs}
use lib.ListN.{length}
use Rattle.paper.specs.declared.Ty.{Ty}
use Rattle.std.specs.Prelude.{Ok}
use Rattle.paper.specs.Refusals.{Answer}
use Rattle.paper.specs.Types.{tag}
use Rattle.paper.specs.Plain.{number, assign, done}
use Rattle.paper.specs.Unwinding.{Unwound, unwound}
use Rattle.tree.proofs.Decodes.{same_less, same_trans}
use Rattle.value.proofs.Residues.{not_below}
use Rattle.plain.specs.Flat.{list_at}
use Rattle.plain.proofs.Forms.{put_assign}
use Rattle.unwind.specs.declared.loops.Head.{Head}
use Rattle.unwind.specs.Parts.{Holds, Emitted}
use Rattle.unwind.specs.Walks.{Spelt}
use Rattle.unwind.specs.Loops.{cell_of_head, SetDid}
use Rattle.unwind.proofs.Spells.{spelt_whole}
use Rattle.unwind.proofs.Walking.{light}

-- ---- its node

two_words : (m : ℕ) → m % 65536 + 65536 * (m / 65536) ≡ m
two_words m = omega arith

below_zero : (z : ℤ) → lt_z z (pos 0) ≡ true → neg_ℤ (pos (nat_abs z)) ≡ z
below_zero (pos zero) h = refl
below_zero (pos (suc n)) h = absurd (omega (arith, ltb-true (suc n) 0 h))
below_zero (negsuc n) h = refl

-- y is z as it is read back from its bits
module _ (old new : List ℕ) (n m c r : ℕ) (t : Ty) (z y : ℤ) (is : y ≡ z) (em : m ≡ nat_abs y) (ec : c ≡ tag t) where
  pub spelt_below : lt_z y (pos 0) ≡ true → Emitted old new n 2 (m % 65536) (m / 65536) c r → Spelt old new n 1 (number t z) r
  spelt_below h e =
      subst (λ x. Spelt old new n 1 (number t x) r) (ap (λ k. neg_ℤ (pos k)) (two_words m ∙ em) ∙ below_zero y h ∙ is)
      (spelt_whole old new n 2 (m % 65536) (m / 65536) c r t ec (omega arith) (omega arith) e)

  pub spelt_above : lt_z y (pos 0) ≡ false → Emitted old new n 1 (m % 65536) (m / 65536) c r → Spelt old new n 1 (number t z) r
  spelt_above h e =
      subst (λ x. Spelt old new n 1 (number t x) r) (ap pos (two_words m ∙ em) ∙ pos-nat_abs y (not_below y h) ∙ is)
      (spelt_whole old new n 1 (m % 65536) (m / 65536) c r t ec (omega arith) (omega arith) e)

-- ---- the variable set

module _ (old : List ℕ) (h : Head) (v : ℤ) (n w : ℕ) where
  abbrev set_to : ℕ → Answer Unwound
  set_to m = unwound (assign (cell_of_head h) (number h.ty v) done) m

  pub set_good : (mid new : List ℕ) (s m z : ℕ) (y : ℤ) → y ≡ v → Spelt old mid n 1 (number h.ty y) s → Emitted mid new s 40 h.cell s 0 m
      → z ≡ w + 1 → z ≤ 3000 → n ≤ 4 * w → 48016 ≤ length old → SetDid old new h v n w (Ok (record { count = m; root = m; weight = z }))
  set_good mid new s m z y is d e ez l k f =
      let before = d.ends (omega arith) in
      let at : s ≡ n + 1 = before.0 in
      let room : Holds mid (s + 1) = omega (arith, d.long) in
      let wrote = e.wrote room in
      let last : m ≡ s + 1 = wrote.0 in
      record {
        long = e.long ∙ d.long;
        same = same_trans old mid new n d.same (same_less mid new s n e.same d.more);
        good = (omega arith, omega arith, ez, omega arith);
        is = ap₂ unwound
            (ap₂ list_at wrote.1 last
            ∙ put_assign mid (s + 1) h.cell s 0 (omega arith) room done (omega arith)
            ∙ ap (λ x. assign (cell_of_head h) x done) (before.1 ∙ ap (number h.ty) is))
            ez
            ∙ light h.place 1 w set_to (omega arith);
      }
