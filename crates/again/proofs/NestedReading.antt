-- Statements that are read nest no deeper than refusal 4 lets them.
use mathlib.Core.Path.{◌≡◌, refl}
use mathlib.Core.Bool.{Bool, true, false, cond}
use mathlib.Core.List.{List}
use Prim.Native.Nat.{ℕ, zero, suc, ◌+◌, ◌*◌, ◌≤◌, max}
use Prim.Native.String.{String}
use native.Mathlib.Omega.{arith}
use borrow.Author.Tests.{leb-true}
use lib.Dec.{leb}
use lib.ListN.{length}
use Rattle.paper.specs.declared.Why.TheVariants.{TooDeep}
use Rattle.paper.specs.Refusals.{Answer, refused, given}
use Rattle.paper.specs.Words.{Token}
use Rattle.paper.specs.Source as S
use Rattle.paper.specs.Source.{Stmts, Program}
use Rattle.paper.specs.Reading as R
use Rattle.paper.specs.Reading.{Read, here, behind, Start}
use Rattle.demands.proofs.Placed.{Answers, stopped, gave, given_at, Any, then, of_two, of_option}

-- how deep the lists within statements stand
unfoldable pub nest : S.Stmts → ℕ
nest S.done = 0
nest (S.assign x q e k) = nest k
nest (S.choice p q c a b k) = max (suc (max (nest a) (nest b))) (nest k)
nest (S.select p s a k) = max (nest a) (nest k)
nest (S.arm ls a k) = suc (max (nest a) (nest k))
nest (S.loop p q v a b c body k) = max (suc (nest body)) (nest k)

-- Q of what is read, if something is
abbrev Gets : {A : Type 0} (Q : A → Type 0) → Answer (Read A) → Type 0
Gets Q o = Answers Any (λ x. Q x.it) o

pub whatever : {A : Type 0} (o : Answer A) → Answers Any Any o
whatever (refused w p) = stopped tt
whatever (given a) = gave tt

-- statements at the depth d, and one in front of others
abbrev At : ℕ → Stmts → Type 0
At d s = nest s + d ≤ 32

abbrev Front : ℕ → (Stmts → Stmts) → Type 0
Front d g = (k : Stmts) → At d k → At d (g k)

started_at : (d : ℕ) (ts : List Token) → Answers Any {A = Start} (λ _. d ≤ 32) (R.started d ts)
started_at d ts = of_option (R.start_of ts) (stopped tt) (λ s. go s (leb d 32) refl)
  where
    go : (s : Start) (b : Bool) → leb d 32 ≡ b → Answers Any {A = Start} (λ _. d ≤ 32) (cond b (given s) (refused TooDeep (here ts)))
    go s true e = gave (leb-true d 32 e)
    go s false e = stopped tt

-- with what was known before
kept : {d : ℕ} {o : Answer (Read (Stmts → Stmts))} → Gets (Front d) o → d ≤ 32 → Gets (λ g. Front d g × (d ≤ 32)) o
kept (stopped h) k = stopped tt
kept (gave h) k = gave (h, k)

assignment_at_lem : (f d : ℕ) (ts : List Token) → Gets (Front d) (R.assignment f ts)
unfolding nest
assignment_at_lem f d ts =
    then (whatever (R.primary f 0 ts)) λ x _.
    then (whatever (R.expect ":=" x.rest)) λ us _.
    then (whatever (R.expression f 0 1 us)) λ e _.
    gave (λ k h. h)

-- a statement by its first word
of_start : {A : Type 0} {Q : A → Type 0} {n i c r e : Answer A} (s : Start)
    → Answers Any Q n → Answers Any Q i → Answers Any Q c → Answers Any Q r → Answers Any Q e
    → Answers Any Q (elim s [ R.at_name ↦ n | R.at_if ↦ i | R.at_case ↦ c | R.at_for ↦ r | R.at_empty ↦ e ])
of_start R.at_name n i c r e = n
of_start R.at_if n i c r e = i
of_start R.at_case n i c r e = c
of_start R.at_for n i c r e = r
of_start R.at_empty n i c r e = e

mutual
  unfolding R.list nest

  pub list_at_lem : (f d : ℕ) (ts : List Token) → Gets (At d) (R.list f d ts)
  list_at_lem zero d ts = stopped tt
  list_at_lem (suc f) d ts =
      then (statement_at f d ts) λ s hs.
      then (whatever (R.expect ";" s.rest)) λ us _.
      then (more_at f d us hs.1) λ r hr.
      gave (hs.0 r.it hr)

  more_at : (f d : ℕ) (ts : List Token) → d ≤ 32 → Gets (At d) (R.more f d ts)
  more_at zero d ts h = stopped tt
  more_at (suc f) d ts h = of_option (R.start_of ts) (gave (omega arith)) (λ s. list_at_lem f d ts)

  statement_at : (f d : ℕ) (ts : List Token) → Gets (λ g. Front d g × (d ≤ 32)) (R.statement f d ts)
  statement_at zero d ts = stopped tt
  statement_at (suc f) d ts =
      then (started_at d ts) λ s h.
      of_start s
      (kept (assignment_at_lem f d ts) h)
      (kept (branch_at f d (here ts) (here ts) (behind ts)) h)
      (kept (cases_at f d (here ts) (behind ts)) h)
      (kept (repeat_at_lem f d (here ts) (behind ts)) h)
      (gave ((λ k x. x), h))

  branch_at : (f d p q : ℕ) (ts : List Token) → Gets (Front d) (R.branch f d p q ts)
  branch_at zero d p q ts = stopped tt
  branch_at (suc f) d p q ts =
      then (whatever (R.expression f 0 1 ts)) λ c _.
      then (whatever (R.expect "THEN" c.rest)) λ us _.
      then (list_at_lem f (suc d) us) λ a ha.
      then (otherwise_at f d q a.rest (omega arith)) λ b hb.
      gave (λ k hk. omega arith)

  otherwise_at : (f d q : ℕ) (ts : List Token) → suc d ≤ 32 → Gets (At (suc d)) (R.otherwise f d q ts)
  otherwise_at zero d q ts h = stopped tt
  otherwise_at (suc f) d q ts h =
      of_two (R.sees "ELSIF" ts)
      (then (branch_at f (suc d) (here ts) q (behind ts)) λ s hs. gave (hs S.done (omega arith)))
      (else_part_at f d "END_IF" ts h)

  else_part_at : (f d : ℕ) (close : String) (ts : List Token) → suc d ≤ 32 → Gets (At (suc d)) (R.else_part f d close ts)
  else_part_at zero d close ts h = stopped tt
  else_part_at (suc f) d close ts h =
      then (else_list_at f d ts h) λ b hb.
      then (whatever (R.expect close b.rest)) λ us _.
      gave hb

  else_list_at : (f d : ℕ) (ts : List Token) → suc d ≤ 32 → Gets (At (suc d)) (R.else_list f d ts)
  else_list_at zero d ts h = stopped tt
  else_list_at (suc f) d ts h = of_two (R.sees "ELSE" ts) (list_at_lem f (suc d) (behind ts)) (gave (omega arith))

  cases_at : (f d p : ℕ) (ts : List Token) → Gets (Front d) (R.cases f d p ts)
  cases_at zero d p ts = stopped tt
  cases_at (suc f) d p ts =
      then (whatever (R.expression f 0 1 ts)) λ s _.
      then (whatever (R.expect "OF" s.rest)) λ us _.
      then (arms_at_lem f d us) λ a ha.
      gave (λ k hk. omega arith)

  arms_at_lem : (f d : ℕ) (ts : List Token) → Gets (At d) (R.arms f d ts)
  arms_at_lem zero d ts = stopped tt
  arms_at_lem (suc f) d ts =
      then (whatever (R.labels f ts)) λ ls _.
      then (whatever (R.expect ":" ls.rest)) λ us _.
      then (list_at_lem f (suc d) us) λ a ha.
      then (more_arms_at f d a.rest (omega arith)) λ b hb.
      gave (omega arith)

  more_arms_at : (f d : ℕ) (ts : List Token) → suc d ≤ 32 → Gets (At (suc d)) (R.more_arms f d ts)
  more_arms_at zero d ts h = stopped tt
  more_arms_at (suc f) d ts h = of_two (R.starts_label ts) (arms_at_lem f (suc d) ts) (else_part_at f d "END_CASE" ts h)

  repeat_at_lem : (f d p : ℕ) (ts : List Token) → Gets (Front d) (R.repeat f d p ts)
  repeat_at_lem zero d p ts = stopped tt
  repeat_at_lem (suc f) d p ts =
      then (whatever (R.taken R.a_name ts)) λ v _.
      then (whatever (R.expect ":=" v.rest)) λ us _.
      then (whatever (R.expression f 0 1 us)) λ a _.
      then (whatever (R.expect "TO" a.rest)) λ vs _.
      then (whatever (R.expression f 0 1 vs)) λ b _.
      then (whatever (R.step f p b.rest)) λ c _.
      then (whatever (R.expect "DO" c.rest)) λ ws _.
      then (list_at_lem f (suc d) ws) λ body hb.
      then (whatever (R.expect "END_FOR" body.rest)) λ es _.
      gave (λ k hk. omega arith)

pub nested : (ts : List Token) (pr : Program) → R.program_of ts ≡ given pr → nest pr.body ≤ 32
unfolding R.program R.program_of
nested ts pr e = let h = given_at pr (rw e at program_at_lem) in omega arith
  where
    program_at_lem : Answers Any (λ (pr : Program). nest pr.body + 0 ≤ 32) (R.program_of ts)
    program_at_lem =
        let f : ℕ = 32 * length ts + 32 in
        then (whatever (R.expect "PROGRAM" ts)) λ us _.
        then (whatever (R.taken R.a_name us)) λ n _.
        then (whatever (R.sections f n.rest)) λ d _.
        then (list_at_lem f 0 d.rest) λ b hb.
        then (whatever (R.expect "END_PROGRAM" b.rest)) λ vs _.
        of_two (R.is_ending (R.next vs)) (gave hb) (stopped tt)
