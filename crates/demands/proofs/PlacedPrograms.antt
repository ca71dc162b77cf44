-- What holds of the words' places holds of all places of the program that is read, and of a refusal's.
use mathlib.Core.Bool.{◌&&◌}
use mathlib.Core.List.{List, [], ◌∷◌}
use Prim.Native.Nat.{ℕ, zero, suc, ◌+◌, ◌*◌}
use lib.ListN.{length}
use Rattle.paper.specs.declared.Ty.{Ty}
use Rattle.paper.specs.declared.Kind.{Kind}
use Rattle.paper.specs.Words.{Token}
use Rattle.paper.specs.Source.{Bounds, Initial, Named, Declared}
use Rattle.paper.specs.Reading as R
use Rattle.demands.specs.InTypes.{All}
use Rattle.demands.proofs.Lists.{both_all}
use Rattle.demands.proofs.ShortWords.{Short}
use Rattle.demands.proofs.Placed.{Words, ArrayBounds, InitialValue, Declaration, Whole, Answers, stopped, gave, Reads, then, of_two, of_option, here_at, behind_at, expect_at, taken_at, taken_name}
use Rattle.demands.proofs.PlacedStatements.{signed_at, list_at_lem}

abbrev Names : (ℕ → Type 0) → List Named → Type 0
Names P ns = All (λ n. P n.place × Short n.name) ns

abbrev Declarations : (ℕ → Type 0) → List Declared → Type 0
Declarations P ds = All (Declaration P) ds

module _ (P : ℕ → Type 0) where
  names_at : (f : ℕ) {ts : List Token} → Words P ts → Reads P (Names P) (R.names f ts)
  unfolding R.names
  names_at zero h = stopped (here_at h)
  names_at (suc f) h =
      then (taken_name h) λ s hs.
      of_two (R.sees "," s.rest)
      (then (names_at f (behind_at hs.1)) λ r hr. gave (((here_at h, hs.0), hr.0), hr.1))
      (gave (((here_at h, hs.0), tt), hs.1))

  bounds_at_lem : (k : Kind) {ts : List Token} → Words P ts → Reads P (ArrayBounds P) (R.bounds_part k ts)
  bounds_at_lem k {ts} h =
      of_two (R.holds_arrays k && R.sees "ARRAY" ts)
      (then (expect_at "[" (behind_at h)) λ os ho.
      then (taken_at R.a_number ho) λ lo hlo.
      then (expect_at ".." hlo.1) λ to ht.
      then (taken_at R.a_number ht) λ hi hhi.
      then (expect_at "]" hhi.1) λ cs hc.
      then (expect_at "OF" hc) λ fs hf.
      gave ((here_at ho, here_at ht), hf))
      (gave (tt, h))

  initial_at_lem : (k : Kind) (b : Bounds) {ts : List Token} → Words P ts → Reads P (InitialValue P) (R.initial_part k b ts)
  initial_at_lem k b {ts} h =
      of_two (R.holds_values k b && R.sees ":=" ts)
      (of_option (R.a_truth (R.next (R.behind ts)))
      (then (signed_at P (behind_at h)) λ z hz. gave ((here_at h, here_at (behind_at h)), hz.1))
      (λ b. gave (here_at h, behind_at (behind_at h))))
      (gave (tt, h))

  -- each of the names with what they share
  declare_at : (k : Kind) (t : Ty) (b : Bounds) (v : Initial) (ns : List Named) → ArrayBounds P b → InitialValue P v → Names P ns
      → Declarations P (R.declare k t b v ns)
  unfolding R.declare
  declare_at k t b v [] hb hv h = tt
  declare_at k t b v (n ∷ ns) hb hv h = (record { place = h.0.0; short = h.0.1; bounds = hb; initial = hv }, declare_at k t b v ns hb hv h.1)

  declaration_at_lem : (f : ℕ) (k : Kind) {ts : List Token} → Words P ts → Reads P (Declarations P) (R.declaration f k ts)
  unfolding R.declaration
  declaration_at_lem f k h =
      then (names_at f h) λ ns hn.
      then (expect_at ":" hn.1) λ cs hc.
      then (bounds_at_lem k hc) λ b hb.
      then (taken_at R.a_type hb.1) λ t ht.
      then (initial_at_lem k b.it ht.1) λ v hv.
      then (expect_at ";" hv.1) λ es he.
      gave (declare_at k t.it b.it v.it ns.it hb.0 hv.0 hn.0, he)

  section_at_lem : (f : ℕ) (k : Kind) {ts : List Token} → Words P ts → Reads P (Declarations P) (R.section f k ts)
  unfolding R.section
  section_at_lem zero k h = stopped (here_at h)
  section_at_lem (suc f) k h =
      then (declaration_at_lem f k h) λ d hd.
      of_two (R.sees "END_VAR" d.rest)
      (gave (hd.0, behind_at hd.1))
      (then (section_at_lem f k hd.1) λ r hr. gave (both_all (Declaration P) d.it r.it hd.0 hr.0, hr.1))

  sections_at : (f : ℕ) {ts : List Token} → Words P ts → Reads P (Declarations P) (R.sections f ts)
  unfolding R.sections
  sections_at zero h = stopped (here_at h)
  sections_at (suc f) {ts} h =
      of_option (R.kind_of ts) (gave (tt, h)) λ k.
      then (section_at_lem f k (behind_at h)) λ d hd.
      then (sections_at f hd.1) λ r hr.
      gave (both_all (Declaration P) d.it r.it hd.0 hr.0, hr.1)

  pub program_at_lem : {ts : List Token} → Words P ts → Answers P (Whole P) (R.program_of ts)
  unfolding R.program R.program_of
  program_at_lem {ts} h =
      let f : ℕ = 32 * length ts + 32 in
      then (expect_at "PROGRAM" h) λ ns hn.
      then (taken_name hn) λ n hm.
      then (sections_at f hm.1) λ d hd.
      then (list_at_lem P f 0 hd.1) λ b hb.
      then (expect_at "END_PROGRAM" hb.1) λ es he.
      of_two (R.is_ending (R.next es))
      (gave (record { own = hm.0; declared = hd.0; body = hb.0 }))
      (stopped (here_at he))
