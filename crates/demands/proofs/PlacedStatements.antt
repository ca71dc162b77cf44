-- What holds of the words' places holds of all places of the statements that are read, and of a refusal's.
use mathlib.Core.Bool.{Bool, true, false, cond}
use mathlib.Core.List.{List}
use Prim.Native.Nat.{ℕ, zero, suc}
use Prim.Native.String.{String}
use lib.Dec.{leb}
use lib.IntN.{ℤ}
use Rattle.paper.specs.declared.Why.TheVariants.{TooDeep}
use Rattle.paper.specs.Refusals.{Answer, refused, given}
use Rattle.paper.specs.Words.{Token}
use Rattle.paper.specs.Source as S
use Rattle.paper.specs.Source.{Stmts}
use Rattle.paper.specs.Reading as R
use Rattle.paper.specs.Reading.{here, Start}
use Rattle.demands.specs.InTypes.{All}
use Rattle.demands.proofs.Placed.{Words, Expression, OneLabel, Statements, Answers, stopped, gave, Any, Reads, then, of_two, of_option, here_at, behind_at, expect_at, taken_at}
use Rattle.demands.proofs.PlacedExpressions.{primary_at, expression_at}

-- a statement, as what it puts in front of a list
abbrev pub Front : (ℕ → Type 0) → (Stmts → Stmts) → Type 0
Front P s = (k : Stmts) → Statements P k → Statements P (s k)

module _ (P : ℕ → Type 0) where
  pub signed_at : {ts : List Token} → Words P ts → Reads P {A = ℤ} Any (R.signed_number ts)
  signed_at {ts} h =
      of_two (R.sees "-" ts)
      (then (taken_at R.a_number (behind_at h)) λ n hn. gave (tt, hn.1))
      (then (taken_at R.a_number h) λ n hn. gave (tt, hn.1))

  label_at : {ts : List Token} → Words P ts → Reads P (OneLabel P) (R.label ts)
  label_at h =
      then (signed_at h) λ a ha.
      of_two (R.sees ".." a.rest)
      (then (signed_at (behind_at ha.1)) λ b hb. gave ((here_at h, here_at (behind_at ha.1)), hb.1))
      (gave (here_at h, ha.1))

  labels_at_lem : (f : ℕ) {ts : List Token} → Words P ts → Reads P (All (OneLabel P)) (R.labels f ts)
  unfolding R.labels
  labels_at_lem zero h = stopped (here_at h)
  labels_at_lem (suc f) h =
      then (label_at h) λ l hl.
      of_two (R.sees "," l.rest)
      (then (labels_at_lem f (behind_at hl.1)) λ ls hs. gave ((hl.0, hs.0), hs.1))
      (gave ((hl.0, tt), hl.1))

  assignment_at_lem : (f : ℕ) {ts : List Token} → Words P ts → Reads P (Front P) (R.assignment f ts)
  assignment_at_lem f h =
      then (primary_at P f 0 h) λ x hx.
      then (expect_at ":=" hx.1) λ bs hb.
      then (expression_at P f 0 1 hb) λ e he.
      gave ((λ k hk. (hx.0, here_at hx.1, he.0, hk)), he.1)

  step_at : (f p : ℕ) → P p → {ts : List Token} → Words P ts → Reads P (Expression P) (R.step f p ts)
  step_at f p hp {ts} h = of_two (R.sees "BY" ts) (expression_at P f 0 1 (behind_at h)) (gave (hp, h))

  started_at : (depth : ℕ) {ts : List Token} → Words P ts → Answers P {A = Start} Any (R.started depth ts)
  started_at depth {ts} h = of_option (R.start_of ts) (stopped (here_at h)) (λ s. go s (leb depth 32))
    where
      go : (s : Start) (b : Bool) → Answers P {A = Start} Any (cond b (given s) (refused TooDeep (here ts)))
      go s true = gave tt
      go s false = stopped (here_at h)

  -- a statement by its first word
  of_start : {A : Type 0} {Q : A → Type 0} {n i c r e : Answer A} (s : Start)
      → Answers P Q n → Answers P Q i → Answers P Q c → Answers P Q r → Answers P Q e
      → Answers P Q (elim s [ R.at_name ↦ n | R.at_if ↦ i | R.at_case ↦ c | R.at_for ↦ r | R.at_empty ↦ e ])
  of_start R.at_name n i c r e = n
  of_start R.at_if n i c r e = i
  of_start R.at_case n i c r e = c
  of_start R.at_for n i c r e = r
  of_start R.at_empty n i c r e = e

  mutual
    unfolding R.list

    pub list_at_lem : (f depth : ℕ) {ts : List Token} → Words P ts → Reads P (Statements P) (R.list f depth ts)
    list_at_lem zero depth h = stopped (here_at h)
    list_at_lem (suc f) depth h =
        then (statement_at f depth h) λ s hs.
        then (expect_at ";" hs.1) λ cs hc.
        then (more_at f depth hc) λ r hr.
        gave (hs.0 r.it hr.0, hr.1)

    more_at : (f depth : ℕ) {ts : List Token} → Words P ts → Reads P (Statements P) (R.more f depth ts)
    more_at zero depth h = stopped (here_at h)
    more_at (suc f) depth {ts} h = of_option (R.start_of ts) (gave (tt, h)) (λ s. list_at_lem f depth h)

    statement_at : (f depth : ℕ) {ts : List Token} → Words P ts → Reads P (Front P) (R.statement f depth ts)
    statement_at zero depth h = stopped (here_at h)
    statement_at (suc f) depth h =
        then (started_at depth h) λ s _.
        of_start s
        (assignment_at_lem f h)
        (branch_at f depth (here_at h) (here_at h) (behind_at h))
        (cases_at f depth (here_at h) (behind_at h))
        (repeat_at_lem f depth (here_at h) (behind_at h))
        (gave ((λ k hk. hk), h))

    branch_at : (f depth : ℕ) {p q : ℕ} → P p → P q → {ts : List Token} → Words P ts → Reads P (Front P) (R.branch f depth p q ts)
    branch_at zero depth hp hq h = stopped (here_at h)
    branch_at (suc f) depth hp hq h =
        then (expression_at P f 0 1 h) λ c hc.
        then (expect_at "THEN" hc.1) λ ts ht.
        then (list_at_lem f (suc depth) ht) λ a ha.
        then (otherwise_at f depth hq ha.1) λ b hb.
        gave ((λ k hk. (hp, hq, hc.0, ha.0, hb.0, hk)), hb.1)

    otherwise_at : (f depth : ℕ) {q : ℕ} → P q → {ts : List Token} → Words P ts → Reads P (Statements P) (R.otherwise f depth q ts)
    otherwise_at zero depth hq h = stopped (here_at h)
    otherwise_at (suc f) depth hq {ts} h =
        of_two (R.sees "ELSIF" ts)
        (then (branch_at f (suc depth) (here_at h) hq (behind_at h)) λ s hs. gave (hs.0 S.done tt, hs.1))
        (else_part_at f depth "END_IF" h)

    else_part_at : (f depth : ℕ) (close : String) {ts : List Token} → Words P ts → Reads P (Statements P) (R.else_part f depth close ts)
    else_part_at zero depth close h = stopped (here_at h)
    else_part_at (suc f) depth close h =
        then (else_list_at f depth h) λ b hb.
        then (expect_at close hb.1) λ es he.
        gave (hb.0, he)

    else_list_at : (f depth : ℕ) {ts : List Token} → Words P ts → Reads P (Statements P) (R.else_list f depth ts)
    else_list_at zero depth h = stopped (here_at h)
    else_list_at (suc f) depth {ts} h = of_two (R.sees "ELSE" ts) (list_at_lem f (suc depth) (behind_at h)) (gave (tt, h))

    cases_at : (f depth : ℕ) {p : ℕ} → P p → {ts : List Token} → Words P ts → Reads P (Front P) (R.cases f depth p ts)
    cases_at zero depth hp h = stopped (here_at h)
    cases_at (suc f) depth hp h =
        then (expression_at P f 0 1 h) λ s hs.
        then (expect_at "OF" hs.1) λ os ho.
        then (arms_at_lem f depth ho) λ a ha.
        gave ((λ k hk. (hp, hs.0, ha.0, hk)), ha.1)

    arms_at_lem : (f depth : ℕ) {ts : List Token} → Words P ts → Reads P (Statements P) (R.arms f depth ts)
    arms_at_lem zero depth h = stopped (here_at h)
    arms_at_lem (suc f) depth h =
        then (labels_at_lem f h) λ ls hl.
        then (expect_at ":" hl.1) λ cs hc.
        then (list_at_lem f (suc depth) hc) λ a ha.
        then (more_arms_at f depth ha.1) λ b hb.
        gave ((hl.0, ha.0, hb.0), hb.1)

    more_arms_at : (f depth : ℕ) {ts : List Token} → Words P ts → Reads P (Statements P) (R.more_arms f depth ts)
    more_arms_at zero depth h = stopped (here_at h)
    more_arms_at (suc f) depth {ts} h = of_two (R.starts_label ts) (arms_at_lem f (suc depth) h) (else_part_at f depth "END_CASE" h)

    repeat_at_lem : (f depth : ℕ) {p : ℕ} → P p → {ts : List Token} → Words P ts → Reads P (Front P) (R.repeat f depth p ts)
    repeat_at_lem zero depth hp h = stopped (here_at h)
    repeat_at_lem (suc f) depth {p} hp h =
        then (taken_at R.a_name h) λ v hv.
        then (expect_at ":=" hv.1) λ bs hbs.
        then (expression_at P f 0 1 hbs) λ a ha.
        then (expect_at "TO" ha.1) λ ts ht.
        then (expression_at P f 0 1 ht) λ b hb.
        then (step_at f p hp hb.1) λ c hc.
        then (expect_at "DO" hc.1) λ ds hd.
        then (list_at_lem f (suc depth) hd) λ body hy.
        then (expect_at "END_FOR" hy.1) λ es he.
        gave ((λ k hk. (hp, here_at h, ha.0, hb.0, hc.0, hy.0, hk)), he)
