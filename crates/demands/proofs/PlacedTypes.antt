-- What holds of all places of a program holds of the places of its faults of refusal 6.
use mathlib.Core.Bool.{Bool, true, false, not, cond, ◌&&◌}
use mathlib.Core.Option.{Option, none, some}
use mathlib.Core.List.{List, [], ◌∷◌}
use Prim.Native.Nat.{ℕ}
use lib.IntN.{pos}
use Rattle.paper.specs.declared.Ty.{Ty}
use Rattle.paper.specs.declared.Ty.TheVariants.{Bool as BOOL, Dint as DINT}
use Rattle.paper.specs.declared.Op.{Op}
use Rattle.paper.specs.Types.{signed, same_ty, is_integer, fits, sort_of, takes, gives, is_arithmetic, divides, for_numbers}
use Rattle.paper.specs.Source as S
use Rattle.paper.specs.Source.{Name, Expr, Label, Stmts, Bounds, Initial, Declared, Program}
use Rattle.paper.specs.Names.{Variable, variables_of, at}
use Rattle.paper.specs.Typing as T
use Rattle.paper.specs.Typing.{Judged, faulty, numbers, typed, faults_of, Settled, settle}
use Rattle.demands.specs.InTypes.{All}
use Rattle.demands.proofs.Judgements.{by_name}
use Rattle.demands.proofs.Placed.{Places, empty, more, join, or_else_lem, at_place, Expression, OneLabel, Statements, ArrayBounds, InitialValue, Declaration, Whole}

module _ (P : ℕ → Type 0) where
  -- ---- numbers, brackets and arithmetic only

  divisor_at : (o : Op) (r : Expr) → Expression P r → Places P (T.divisor_fault o r)
  divisor_at o r h = go (divides o)
    where
      plain : (r : Expr) → Expression P r
          → Places P (elim (T.plain_number r) [ none ↦ [] | some n ↦ at n.place (T.is_zero n.value) ])
      plain (S.number p z) h = at_place P h (T.is_zero z)
      plain (S.truth p b) h = empty
      plain (S.variable p s) h = empty
      plain (S.element p s q i) h = empty
      plain (S.minus p e) h = empty
      plain (S.complement p e) h = empty
      plain (S.binary p o l r) h = empty
      plain (S.conversion p t u e) h = empty
      plain (S.brackets p e) h = empty

      go : (b : Bool)
          → Places P (cond b (elim (T.plain_number r) [ none ↦ [] | some n ↦ at n.place (T.is_zero n.value) ]) [])
      go true = plain r h
      go false = empty

  numbers_at : (t : Ty) (e : Expr) → Expression P e → Places P (T.number_faults t e)
  unfolding T.number_faults
  numbers_at t (S.number p z) h = at_place P h (not (fits t z))
  numbers_at t (S.truth p b) h = empty
  numbers_at t (S.variable p s) h = empty
  numbers_at t (S.element p s q i) h = empty
  numbers_at t (S.minus p e) h = or_else_lem (numbers_at t e h.1) (at_place P h.0 (not (signed t)))
  numbers_at t (S.complement p e) h = empty
  numbers_at t (S.binary p o l r) h =
      or_else_lem
      (join (join (numbers_at t l h.1) (numbers_at t r h.2)) (divisor_at o r h.2))
      (at_place P h.0 (not (T.is_good_divisor o r)))
  numbers_at t (S.conversion p u v e) h = empty
  numbers_at t (S.brackets p e) h = numbers_at t e h.1

  -- ---- judgements

  abbrev Judgement : Judged → Type 0
  Judgement j = Places P (faults_of j)

  unless_at : {ps : List ℕ} (t : Ty) → Places P ps → Judgement (T.unless ps t)
  unless_at t empty = empty
  unless_at t (more h hs) = more h hs

  settle_at : (t : Ty) (e : Expr) (j : Judged) → Expression P e → Judgement j → Places P (settle t e j).faults
  settle_at t e (faulty ps) he h = h
  settle_at t e numbers he h = numbers_at (for_numbers t) e he
  settle_at t e (typed u) he h = empty

  demand_at : (t : Ty) {p : ℕ} (s : Settled) → P p → Places P s.faults → Places P (T.demand_faults t p s)
  demand_at t s hp h = or_else_lem h (at_place P hp (not (same_ty t s.ty)))

  negated_at : {p : ℕ} (j : Judged) → P p → Judgement j → Judgement (T.negated p j)
  negated_at (faulty ps) hp h = h
  negated_at numbers hp h = empty
  negated_at (typed t) hp h = unless_at t (at_place P hp (not (signed t)))

  converted_at : {p : ℕ} (t u : Ty) (s : Settled) → P p → Places P s.faults → Judgement (T.converted p t u s)
  converted_at t u s hp h =
      unless_at u (or_else_lem h (at_place P hp (not (same_ty t s.ty && is_integer t && is_integer u && not (same_ty t u)))))

  -- an operator, where t is offered to both sides
  operated_at : {p : ℕ} (o : Op) (l r : Expr) (t : Ty) (j k : Judged) → P p → Expression P l → Expression P r → Judgement j → Judgement k
      → Judgement (T.operated p o r (settle t l j) (settle t r k))
  operated_at o l r t j k hp hl hr hj hk =
      let v : Ty = (settle t l j).ty in
      unless_at (gives (sort_of o) v)
      (or_else_lem
      (join (join (settle_at t l j hl hj) (settle_at t r k hr hk)) (divisor_at o r hr))
      (at_place P hp (not (same_ty v (settle t r k).ty && takes (sort_of o) v && T.is_good_divisor o r))))

  joined_at : {p : ℕ} (o : Op) (l r : Expr) (j k : Judged) → P p → Expression P l → Expression P r → Judgement j → Judgement k
      → Judgement (T.joined p o l r j k)
  joined_at o l r (faulty ps) k hp hl hr hj hk = join hj hk
  joined_at o l r numbers (faulty qs) hp hl hr hj hk = hk
  joined_at {p} o l r numbers numbers hp hl hr hj hk = go (is_arithmetic (sort_of o))
    where
      go : (b : Bool) → Judgement (cond b numbers (T.operated p o r (settle DINT l numbers) (settle DINT r numbers)))
      go true = empty
      go false = operated_at o l r DINT numbers numbers hp hl hr hj hk
  joined_at o l r numbers (typed u) hp hl hr hj hk = operated_at o l r u numbers (typed u) hp hl hr hj hk
  joined_at o l r (typed t) (faulty qs) hp hl hr hj hk = hk
  joined_at o l r (typed t) numbers hp hl hr hj hk = operated_at o l r t (typed t) numbers hp hl hr hj hk
  joined_at o l r (typed t) (typed u) hp hl hr hj hk = operated_at o l r t (typed t) (typed u) hp hl hr hj hk

  label_at : (t : Ty) (l : Label) → OneLabel P l → Places P (T.label_faults t l)
  label_at t (S.one p a) h = at_place P h (not (fits t a))
  label_at t (S.range p a q b) h = join (at_place P h.0 (not (fits t a))) (at_place P h.1 (not (fits t b)))

  labels_at_lem : (o : Option Ty) (ls : List Label) → All (OneLabel P) ls → Places P (T.labels_faults o ls)
  unfolding T.labels_faults
  labels_at_lem none ls h = empty
  labels_at_lem (some t) [] h = empty
  labels_at_lem (some t) (l ∷ ls) h = join (label_at t l h.0) (labels_at_lem (some t) ls h.1)

  assign_at_lem : {q : ℕ} (e : Expr) (x j : Judged) → P q → Expression P e → Judgement x → Judgement j
      → Places P (T.assign_faults q e x j)
  assign_at_lem e (faulty ps) j hq he hx hj = join hx hj
  assign_at_lem e numbers j hq he hx hj = more hq hj
  assign_at_lem e (typed t) j hq he hx hj = demand_at t (settle t e j) hq (settle_at t e j he hj)

  module _ (vs : List Variable) where
    judged_at : (loops : List Name) (e : Expr) → Expression P e → Judgement (T.judged vs loops e)
    unfolding T.judged T.of_name T.of_element
    judged_at loops (S.number p z) h = empty
    judged_at loops (S.truth p b) h = empty
    judged_at loops (S.variable p s) h =
        by_name vs s Judgement (faulty (p ∷ [])) typed (λ u. faulty (p ∷ [])) (more h empty) empty (more h empty)
    judged_at loops (S.element p s q i) h =
        let j : Judged = T.judged vs loops i in
        let ps : List ℕ = T.subscript_faults loops q i (settle DINT i j) in
        let hs : Places P ps =
        or_else_lem (settle_at DINT i j h.2 (judged_at loops i h.2)) (at_place P h.1 (not (T.is_constant loops i)))
        in
        by_name vs s Judgement (faulty (p ∷ ps)) (λ u. faulty (p ∷ ps)) (T.unless ps) (more h.0 hs) (more h.0 hs)
        (unless_at (T.type_of_name vs s) hs)
    judged_at loops (S.minus p e) h = negated_at (T.judged vs loops e) h.0 (judged_at loops e h.1)
    judged_at loops (S.complement p e) h =
        let j : Judged = T.judged vs loops e in
        unless_at BOOL (demand_at BOOL (settle DINT e j) h.0 (settle_at DINT e j h.1 (judged_at loops e h.1)))
    judged_at loops (S.binary p o l r) h =
        joined_at o l r (T.judged vs loops l) (T.judged vs loops r) h.0 h.1 h.2
        (judged_at loops l h.1)
        (judged_at loops r h.2)
    judged_at loops (S.conversion p t u e) h =
        let j : Judged = T.judged vs loops e in
        converted_at t u (settle t e j) h.0 (settle_at t e j h.1 (judged_at loops e h.1))
    judged_at loops (S.brackets p e) h = judged_at loops e h.1

    settled_at : (loops : List Name) (t : Ty) (e : Expr) → Expression P e → Places P (T.settled vs loops t e).faults
    unfolding T.settled
    settled_at loops t e h = settle_at t e (T.judged vs loops e) h (judged_at loops e h)

    -- ---- statements

    loop_at : (loops : List Name) {p : ℕ} (t : Ty) (a b c : Expr) → P p → Expression P a → Expression P b → Expression P c
        → Places P (T.loop_faults vs loops p t a b c)
    loop_at loops t a b c hp ha hb hc =
        let bound : Expr → Bool = λ e. T.is_bound loops t e (T.settled vs loops t e) in
        or_else_lem
        (join (join (settled_at loops t a ha) (settled_at loops t b hb)) (settled_at loops t c hc))
        (at_place P hp (not (bound a && bound b && bound c)))

    statements_at_lem : (s : Stmts) (loops : List Name) (sel : Option Ty) → Statements P s → Places P (T.statement_faults vs s loops sel)
    unfolding T.statement_faults
    statements_at_lem S.done loops sel h = empty
    statements_at_lem (S.assign x q e k) loops sel h =
        join
        (assign_at_lem e (T.judged vs loops x) (T.judged vs loops e) h.1 h.2 (judged_at loops x h.0) (judged_at loops e h.2))
        (statements_at_lem k loops (some DINT) h.3)
    statements_at_lem (S.choice p q c a b k) loops sel h =
        join
        (join
        (join
        (demand_at BOOL (T.settled vs loops DINT c) h.0 (settled_at loops DINT c h.2))
        (statements_at_lem a loops (some DINT) h.3))
        (statements_at_lem b loops (some DINT) h.4))
        (statements_at_lem k loops (some DINT) h.5)
    statements_at_lem (S.select p s a k) loops sel h =
        let x : Settled = T.settled vs loops DINT s in
        join
        (join
        (or_else_lem (settled_at loops DINT s h.1) (at_place P h.0 (not (is_integer x.ty))))
        (statements_at_lem a loops (T.label_type (T.selector_faults p x) x.ty) h.2))
        (statements_at_lem k loops (some DINT) h.3)
    statements_at_lem (S.arm ls a k) loops sel h =
        join (join (labels_at_lem sel ls h.0) (statements_at_lem a loops (some DINT) h.1)) (statements_at_lem k loops sel h.2)
    statements_at_lem (S.loop p q v a b c body k) loops sel h =
        join
        (join
        (loop_at loops (T.type_of_name vs v) a b c h.0 h.2 h.3 h.4)
        (statements_at_lem body (v ∷ loops) (some DINT) h.5))
        (statements_at_lem k loops (some DINT) h.6)

  -- ---- declarations

  bounds_at_lem : (b : Bounds) → ArrayBounds P b → Places P (T.bounds_faults b)
  bounds_at_lem S.single h = empty
  bounds_at_lem (S.array p lo q hi) h =
      join (at_place P h.0 (not (fits DINT (pos lo)))) (at_place P h.1 (not (fits DINT (pos hi))))

  initial_at_lem : (t : Ty) (v : Initial) → InitialValue P v → Places P (T.initial_faults t v)
  initial_at_lem t S.nothing h = empty
  initial_at_lem t (S.value q p z) h = go (fits (for_numbers t) z)
    where
      go : (b : Bool) → Places P (elim b [ true ↦ at q (not (is_integer t)) | false ↦ p ∷ [] ])
      go true = at_place P h.0 (not (is_integer t))
      go false = more h.1 empty
  initial_at_lem t (S.flag q b) h = at_place P h (is_integer t)

  declarations_at : (ds : List Declared) → All (Declaration P) ds → Places P (T.declaration_faults ds)
  unfolding T.declaration_faults
  declarations_at [] h = empty
  declarations_at (d ∷ ds) h =
      join
      (join (bounds_at_lem d.bounds h.0.bounds) (initial_at_lem d.ty d.initial h.0.initial))
      (declarations_at ds h.1)

  pub type_faults_at : (pr : Program) → Whole P pr → Places P (T.type_faults pr)
  unfolding T.type_faults
  type_faults_at pr h =
      join
      (declarations_at pr.declared h.declared)
      (statements_at_lem (variables_of pr.declared) pr.body [] (some DINT) h.body)
