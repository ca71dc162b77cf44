-- The place of every refusal of a text lies within the text.
use mathlib.Core.Path.{◌≡◌, refl}
use mathlib.Core.Bool.{Bool, true, false, cond}
use mathlib.Core.Option.{Option, none, some}
use mathlib.Core.List.{List}
use Prim.Native.Nat.{ℕ, ◌≤◌, min}
use native.Mathlib.Omega.{arith}
use borrow.Author.Tests.{leb-true}
use lib.Dec.{leb}
use lib.ListN.{length}
use Rattle.paper.specs.declared.Why.{Why}
use Rattle.paper.specs.declared.Why.TheVariants.{TooLong, BadName, BadType, TooHigh}
use Rattle.paper.specs.Refusals.{refused, given}
use Rattle.paper.specs.Judge.{smallest, faultless, short_enough, judge}
use Rattle.demands.specs.Places.{Within, PlacesWithin}
use Rattle.demands.proofs.Placed.{Places, empty, more, Answers, stopped, gave, refused_at, Any, then}
use Rattle.demands.proofs.PlacedWords.{words_at_lem}
use Rattle.demands.proofs.PlacedPrograms.{program_at_lem}
use Rattle.demands.proofs.PlacedNames.{name_faults_at}
use Rattle.demands.proofs.PlacedTypes.{type_faults_at}
use Rattle.demands.proofs.PlacedHeights.{height_faults_at}
use Rattle.demands.proofs.PlacedWalks.{walk_at}

module _ (text : List ℕ) where
  abbrev P : ℕ → Type 0
  P p = Within text p

  start_at : P 0
  start_at = omega arith

  -- a longer text is refused at 0
  short_at : Answers P (λ _. length text ≤ 8192) (short_enough text)
  short_at = go (leb (length text) 8192) refl
    where
      go : (b : Bool) → leb (length text) 8192 ≡ b
          → Answers P {A = Unit {0}} (λ _. length text ≤ 8192) (cond b (given tt) (refused TooLong 0))
      go true e = gave (leb-true (length text) 8192 e)
      go false e = stopped start_at

  -- the smallest of places, if there is one
  abbrev Least : Option ℕ → Type 0
  Least none = Unit {0}
  Least (some p) = P p

  smallest_at : {ps : List ℕ} → Places P ps → Least (smallest ps)
  unfolding smallest
  smallest_at empty = tt
  smallest_at (more {p = p} {ps = ps} h hs) = go (smallest ps) (smallest_at hs)
    where
      go : (o : Option ℕ) → Least o → Least (elim o [ none ↦ some p | some q ↦ some (min p q) ])
      go none k = h
      go (some q) k = omega arith

  faultless_at : (w : Why) {ps : List ℕ} → Places P ps → Answers P Any (faultless w ps)
  faultless_at w {ps} h = go (smallest ps) (smallest_at h)
    where
      go : (o : Option ℕ) → Least o → Answers P {A = Unit {0}} Any (elim o [ none ↦ given tt | some p ↦ refused w p ])
      go none k = gave tt
      go (some p) k = stopped k

  judge_at : Answers P Any (judge text)
  unfolding judge
  judge_at =
      then short_at λ _ short.
      then (words_at_lem P text (λ q h. omega arith)) λ ts hs.
      then (program_at_lem P hs) λ pr h.
      then (faultless_at BadName (name_faults_at P pr h)) λ _ _.
      then (faultless_at BadType (type_faults_at P pr h)) λ _ _.
      then (faultless_at TooHigh (height_faults_at P pr h)) λ _ _.
      then (walk_at P pr start_at h) λ u _.
      gave tt

pub place_within : PlacesWithin
place_within text w p e = refused_at w p (rw e at (judge_at text))
