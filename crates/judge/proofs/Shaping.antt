-- 1 to 7 of a text: its shape first, then the rules of the program that was read.
use mathlib.Core.Path.{◌≡◌, refl, subst}
use mathlib.Core.List.{List}
use Prim.Native.Nat.{ℕ, ◌+◌, ◌*◌, ◌≤◌}
use native.Mathlib.Omega.{arith}
use lib.ListN.{length}
use Rattle.std.specs.Prelude.{Result, Ok}
use Rattle.paper.specs.declared.Refusal.{Refusal}
use Rattle.paper.specs.Refusals.{Answer, refused, given, Gives, ◌>>=◌}
use Rattle.paper.specs.Words.{Token, words_of}
use Rattle.paper.specs.Source.{Program}
use Rattle.paper.specs.Reading.{program_of}
use Rattle.paper.specs.Judge.{short_enough}
use Rattle.paper.proofs.Counts.{few_declared}
use Rattle.tree.specs.Trees.{program_at}
use Rattle.shaped.specs.Shapes.{shaped, Stands}
use Rattle.judge.specs.declared.rules.Ruled.{Ruled}
use Rattle.judge.specs.Rules.{ruled, sound, TextFits, Fits, Keeps}
use Rattle.judge.proofs.Gives.{goes, gave}

few_in : (t : List ℕ) (a : Answer (Unit {0})) (b : Answer (List Token)) (pr : Program) → words_of t ≡ b → (a >>= λ x. (b >>= program_of)) ≡ given pr
    → length pr.declared ≤ length t
few_in t (refused w q) b pr e h = absurd (let z : ◌≡◌ {A = ℕ} 0 1 = cc in omega arith)
few_in t (given x) (refused w q) pr e h = absurd (let z : ◌≡◌ {A = ℕ} 0 1 = cc in omega arith)
few_in t (given x) (given ts) pr e h = few_declared t ts pr e h

module _ (t p : List ℕ) (root : ℕ) (d : Gives (Stands t p) (shaped t) (Ok root)) where
  there : (x : Program) × (shaped t ≡ given x) × Stands t p x root
  there = gave (Stands t p) (shaped t) root d

  pub by_rules : (table : List ℕ) (r : Result Ruled Refusal) → Gives (Keeps t p table) (ruled (program_at t p root)) r → Gives (Keeps t p table) (sound t) r
  by_rules table r h =
      goes (Stands t p) (Keeps t p table) ruled (shaped t) root r d
      (λ x e s. subst (λ pr. Gives (Keeps t p table) (ruled pr) r) s.program h)

  module _ (old table scratch : List ℕ) (room : TextFits t old table scratch) where
    pub lies : length p ≡ length old → (4 * root + 4 ≤ length p) × (root ≤ length scratch)
    lies same =
        let s = there.2 in
        (omega (arith, s.few, room.tree s.short), omega (arith, s.few, room.names s.short))

    pub fits : Fits t p table scratch root
    fits =
        let (x, e, s) = there in
        let few : length x.declared ≤ length t = few_in t (short_enough t) (words_of t) x refl e in
        let same : program_at t p root ≡ x = s.program in
        record { names = rw same (omega (arith, room.names s.short)); variables = rw same (omega (arith, room.variables s.short)) }
