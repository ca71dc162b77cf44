-- The program that was judged in lent arrays.
use mathlib.Core.Path.{◌≡◌, ap}
use mathlib.Core.List.{List}
use Prim.Native.Nat.{ℕ}
use Rattle.std.specs.Prelude.{Ok, Err}
use Rattle.paper.specs.declared.Refusal.{Refusal}
use Rattle.paper.specs.Refusals.{Answer, refused, given, refusal, Gives}
use Rattle.paper.specs.Judge.{Sound, judge}
use Rattle.judge.specs.Judged.{Stands}
use Rattle.kaldvimur.specs.declared.arrays.Program.{Program}
use Rattle.kaldvimur.specs.Arrays.{Holds, In}

module _ (t : List ℕ) (x : Program) where
  pub standing : Gives (Holds t) (judge t) (Ok x) → In x (λ p table q j. Gives (Stands t p table q) (judge t) (Ok j))
  standing = go (judge t)
    where
      go : (a : Answer Sound) → Gives (Holds t) a (Ok x) → In x (λ p table q j. Gives (Stands t p table q) a (Ok j))
      go (refused w p) h = absurd cc
      go (given a) h = h

  pub held : In x (λ p table q j. Gives (Stands t p table q) (judge t) (Ok j)) → Gives (Holds t) (judge t) (Ok x)
  held = go (judge t)
    where
      go : (a : Answer Sound) → In x (λ p table q j. Gives (Stands t p table q) a (Ok j)) → Gives (Holds t) a (Ok x)
      go (refused w p) h = absurd cc
      go (given a) h = h

pub refused_judging : (t p table q : List ℕ) (e : Refusal) → Gives (Stands t p table q) (judge t) (Err e) → Gives (Holds t) (judge t) (Err e)
refused_judging t p table q e = go (judge t)
  where
    go : (a : Answer Sound) → Gives (Stands t p table q) a (Err e) → Gives (Holds t) a (Err e)
    go (refused w p) h = let same : e ≡ refusal w p = cc in ap Err same
    go (given a) h = absurd h
