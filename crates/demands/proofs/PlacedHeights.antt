-- What holds of all places of a program holds of the places of its faults of refusal 7.
use mathlib.Core.List.{List, [], ◌∷◌}
use Prim.Native.Nat.{ℕ}
use lib.Dec.{ltb}
use Rattle.paper.specs.Source as S
use Rattle.paper.specs.Source.{Expr, Label, Stmts, Program}
use Rattle.paper.specs.Heights as H
use Rattle.demands.specs.InTypes.{All}
use Rattle.demands.proofs.Placed.{Places, empty, join, at_place, Expression, OneLabel, Statements, Whole}

module _ (P : ℕ → Type 0) where
  pub first_at : (e : Expr) → Expression P e → P (H.first_word e)
  unfolding H.first_word
  first_at (S.number p z) h = h
  first_at (S.truth p b) h = h
  first_at (S.variable p s) h = h
  first_at (S.element p s q i) h = h.0
  first_at (S.minus p e) h = h.0
  first_at (S.complement p e) h = h.0
  first_at (S.binary p o l r) h = first_at l h.1
  first_at (S.conversion p t u e) h = h.0
  first_at (S.brackets p e) h = h.0

  high_at : (e : Expr) → Expression P e → Places P (H.too_high (H.first_word e) (H.height e))
  high_at e h = at_place P (first_at e h) (ltb 32 (H.height e))

  subscripts_at : (e : Expr) → Expression P e → Places P (H.subscripts e)
  unfolding H.subscripts
  subscripts_at (S.number p z) h = empty
  subscripts_at (S.truth p b) h = empty
  subscripts_at (S.variable p s) h = empty
  subscripts_at (S.element p s q i) h = join (high_at i h.2) (subscripts_at i h.2)
  subscripts_at (S.minus p e) h = subscripts_at e h.1
  subscripts_at (S.complement p e) h = subscripts_at e h.1
  subscripts_at (S.binary p o l r) h = join (subscripts_at l h.1) (subscripts_at r h.2)
  subscripts_at (S.conversion p t u e) h = subscripts_at e h.1
  subscripts_at (S.brackets p e) h = subscripts_at e h.1

  measured_at : (e : Expr) → Expression P e → Places P (H.measured e)
  unfolding H.measured
  measured_at e h = join (high_at e h) (subscripts_at e h)

  label_at : (l : Label) → OneLabel P l → P (H.label_place l)
  label_at (S.one p a) h = h
  label_at (S.range p a q b) h = h.0

  arm_at : (n : ℕ) (ls : List Label) → All (OneLabel P) ls → Places P (H.arm_faults n ls)
  arm_at n [] h = empty
  arm_at n (l ∷ ls) h = at_place P (label_at l h.0) (ltb 32 (H.joined_height n (H.test_height n l) ls))

  statements_at_lem : (s : Stmts) (n : ℕ) → Statements P s → Places P (H.statement_faults s n)
  unfolding H.statement_faults
  statements_at_lem S.done n h = empty
  statements_at_lem (S.assign x q e k) n h =
      join (join (subscripts_at x h.0) (measured_at e h.2)) (statements_at_lem k 1 h.3)
  statements_at_lem (S.choice p q c a b k) n h =
      join (join (join (measured_at c h.2) (statements_at_lem a 1 h.3)) (statements_at_lem b 1 h.4)) (statements_at_lem k 1 h.5)
  statements_at_lem (S.select p s a k) n h =
      join (join (subscripts_at s h.1) (statements_at_lem a (H.height s) h.2)) (statements_at_lem k 1 h.3)
  statements_at_lem (S.arm ls a k) n h = join (join (arm_at n ls h.0) (statements_at_lem a 1 h.1)) (statements_at_lem k n h.2)
  statements_at_lem (S.loop p q v a b c body k) n h =
      join
      (join (join (join (measured_at a h.2) (measured_at b h.3)) (measured_at c h.4)) (statements_at_lem body 1 h.5))
      (statements_at_lem k 1 h.6)

  pub height_faults_at : (pr : Program) → Whole P pr → Places P (H.height_faults pr)
  unfolding H.height_faults
  height_faults_at pr h = statements_at_lem pr.body 1 h.body
