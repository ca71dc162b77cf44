-- What holds of all places of a program holds of the places of its faults of refusal 5.
use mathlib.Core.Bool.{not, ◌||◌}
use mathlib.Core.List.{List, [], ◌∷◌}
use Prim.Native.Nat.{ℕ, ◌+◌}
use lib.Dec.{ltb}
use Rattle.paper.specs.Source as S
use Rattle.paper.specs.Source.{Name, Expr, Stmts, Declared, Program}
use Rattle.paper.specs.Names as N
use Rattle.paper.specs.Names.{Variable, variables_of}
use Rattle.demands.specs.InTypes.{All}
use Rattle.demands.proofs.Placed.{Places, empty, join, at_place, Expression, Statements, Declaration, Whole}

module _ (P : ℕ → Type 0) where
  declarations_at : (before : List Name) (n : ℕ) (ds : List Declared) → All (Declaration P) ds
      → Places P (N.declaration_faults before n ds)
  unfolding N.declaration_faults
  declarations_at before n [] h = empty
  declarations_at before n (d ∷ ds) h =
      let m : ℕ = n + N.size_of d.bounds in
      join
      (at_place P h.0.place (N.is_among d.name before || N.reversed d.bounds || ltb 64 m))
      (declarations_at (d.name ∷ before) m ds h.1)

  module _ (vs : List Variable) where
    unknown_at_lem : (e : Expr) → Expression P e → Places P (N.unknown vs e)
    unfolding N.unknown
    unknown_at_lem (S.number p z) h = empty
    unknown_at_lem (S.truth p b) h = empty
    unknown_at_lem (S.variable p s) h = at_place P h (not (N.is_known vs s))
    unknown_at_lem (S.element p s q i) h = join (at_place P h.0 (not (N.is_known vs s))) (unknown_at_lem i h.2)
    unknown_at_lem (S.minus p e) h = unknown_at_lem e h.1
    unknown_at_lem (S.complement p e) h = unknown_at_lem e h.1
    unknown_at_lem (S.binary p o l r) h = join (unknown_at_lem l h.1) (unknown_at_lem r h.2)
    unknown_at_lem (S.conversion p t u e) h = unknown_at_lem e h.1
    unknown_at_lem (S.brackets p e) h = unknown_at_lem e h.1

    assigned_at : (loops : List Name) (x : Expr) → Expression P x → Places P (N.assigned vs loops x)
    unfolding N.assigned
    assigned_at loops (S.number p z) h = empty
    assigned_at loops (S.truth p b) h = empty
    assigned_at loops (S.variable p s) h = at_place P h (N.is_input vs s || N.is_among s loops)
    assigned_at loops (S.element p s q i) h = at_place P h.0 (N.is_input vs s || N.is_among s loops)
    assigned_at loops (S.minus p e) h = empty
    assigned_at loops (S.complement p e) h = empty
    assigned_at loops (S.binary p o l r) h = empty
    assigned_at loops (S.conversion p t u e) h = empty
    assigned_at loops (S.brackets p e) h = empty

    statements_at_lem : (s : Stmts) (loops : List Name) → Statements P s → Places P (N.statement_faults vs s loops)
    unfolding N.statement_faults
    statements_at_lem S.done loops h = empty
    statements_at_lem (S.assign x q e k) loops h =
        join (join (join (unknown_at_lem x h.0) (assigned_at loops x h.0)) (unknown_at_lem e h.2)) (statements_at_lem k loops h.3)
    statements_at_lem (S.choice p q c a b k) loops h =
        join (join (join (unknown_at_lem c h.2) (statements_at_lem a loops h.3)) (statements_at_lem b loops h.4))
        (statements_at_lem k loops h.5)
    statements_at_lem (S.select p s a k) loops h =
        join (join (unknown_at_lem s h.1) (statements_at_lem a loops h.2)) (statements_at_lem k loops h.3)
    statements_at_lem (S.arm ls a k) loops h = join (statements_at_lem a loops h.1) (statements_at_lem k loops h.2)
    statements_at_lem (S.loop p q v a b c body k) loops h =
        join
        (join
        (join
        (join
        (join (at_place P h.1 (not (N.can_loop vs v) || N.is_among v loops)) (unknown_at_lem a h.2))
        (unknown_at_lem b h.3))
        (unknown_at_lem c h.4))
        (statements_at_lem body (v ∷ loops) h.5))
        (statements_at_lem k loops h.6)

  pub name_faults_at : (pr : Program) → Whole P pr → Places P (N.name_faults pr)
  unfolding N.name_faults
  name_faults_at pr h =
      join
      (declarations_at [] 0 pr.declared h.declared)
      (statements_at_lem (variables_of pr.declared) pr.body [] h.body)
