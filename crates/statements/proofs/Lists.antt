-- Laws of reading a list of statements: the first of them, its semicolon, and what comes behind.
use mathlib.Core.Path.{◌≡◌, refl, sym, ap, subst, ◌∙◌}
use mathlib.Core.Bool.{Bool, true, false}
use mathlib.Core.Option.{Option, none, some}
use mathlib.Core.List.{List}
use Prim.Native.Nat.{ℕ, zero, suc, ◌+◌, ◌≤◌, ◌<◌}
use native.Mathlib.Omega.{arith}
use native.Mathlib.Numerals.{add-one}
use lib.ListN.{length}
use Rattle.std.specs.Prelude.{Result, Ok, Err, IfOk}
use Rattle.std.proofs.lemmas.Result.{IfOk-weaker}
use Rattle.paper.specs.declared.Refusal.{Refusal}
use Rattle.paper.specs.Refusals.{Answer, refused, given, ◌>>=◌}
use Rattle.paper.specs.Words.{Token}
use Rattle.paper.specs.Source.{Stmts, done}
use Rattle.paper.specs.Reading as R
use Rattle.paper.specs.Reading.{Read, ok, Start}
use Rattle.words.specs.declared.Word.{Word}
use Rattle.words.specs.Denoted.{IsWord}
use Rattle.tree.specs.Trees.{front_at}
use Rattle.tree.proofs.Frames.{front_nil, front_same}
use Rattle.expressions.specs.declared.Parsed.{Parsed}
use Rattle.expressions.specs.Reads.{Answered, Ends, Runs, ExpectDid}
use Rattle.expressions.proofs.Tokens.{key_semicolon}
use Rattle.expressions.proofs.Answers.{done as ends}
use Rattle.expressions.proofs.Nodes.{both_same}
use Rattle.statements.specs.Lists.{StartsIs, is_some, list_at, LinkedDid, ListDid, StatementDid}
use Rattle.statements.proofs.Runs.{assoc}
use Rattle.statements.proofs.Parts.{Part, part, did, stepped, part_bad, part_good, past_bad, past}
use Rattle.statements.proofs.Starting.{start_some}

abbrev onto : (Stmts → Stmts) → Answer (Read Stmts) → Answer (Read Stmts)
onto F s = s >>= λ x. ok (F x.it) x.rest

onto_both : (F G H : Stmts → Stmts) → ((k : Stmts) → H k ≡ F (G k)) → (s : Answer (Read Stmts)) → onto F (onto G s) ≡ onto H s
onto_both F G H e (refused w p) = refl
onto_both F G H e (given x) = ap (λ y. ok y x.rest) (sym (e x.it))

-- behind a semicolon
abbrev behind_one : (Stmts → Stmts) → ℕ → ℕ → (Stmts → Stmts) → List Token → Answer (Read Stmts)
behind_one F depth f G us = onto F (onto G (R.more f depth us))

list_step : (F : Stmts → Stmts) (depth f : ℕ) (ts : List Token)
    → onto F (R.list (suc f) depth ts) ≡ (R.statement f depth ts >>= λ a. (R.expect ";" a.rest >>= λ us. behind_one F depth f a.it us))
unfolding R.list
list_step F depth f ts = go (R.statement f depth ts)
  where
    tail : Read (Stmts → Stmts) → Answer (Read Stmts)
    tail a = R.expect ";" a.rest >>= λ us. onto a.it (R.more f depth us)

    go : (s : Answer (Read (Stmts → Stmts)))
        → onto F (s >>= λ a. (R.expect ";" a.rest >>= λ us. (R.more f depth us >>= λ r. ok (a.it r.it) r.rest)))
        ≡ (s >>= λ a. (R.expect ";" a.rest >>= λ us. behind_one F depth f a.it us))
    go (refused w p) = refl
    go (given a) = assoc (R.expect ";" a.rest) (λ us. onto a.it (R.more f depth us)) (λ x. ok (F x.it) x.rest)

more_none : (f depth : ℕ) (us : List Token) (x : Option Start) → R.start_of us ≡ x → is_some x ≡ false → R.more (suc f) depth us ≡ ok done us
unfolding R.list
more_none f depth us none h e = rw (h, R.more)
more_none f depth us (some s) h e = let z : ◌≡◌ {A = ℕ} 0 1 = cc in absurd (omega arith)

more_some : (f depth : ℕ) (us : List Token) (x : Option Start) → R.start_of us ≡ x → is_some x ≡ true → R.more (suc f) depth us ≡ R.list f depth us
unfolding R.list
more_some f depth us (some s) h e = rw (h, R.more)
more_some f depth us none h e = let z : ◌≡◌ {A = ℕ} 0 1 = cc in absurd (omega arith)

module _ (t : List ℕ) (at depth : ℕ) (F G : Stmts → Stmts) (w : Word) (i : IsWord t at w) (b : Bool) (st : StartsIs w.class b) (D : ℕ → Stmts) where
  behind_stop : (m c : ℕ) → b ≡ false → D m ≡ F (G done)
      → Runs D t at 0 0 (λ f ts. behind_one F depth f G ts) (Ok (record { at = at; count = c; root = m }))
  behind_stop m c e d ts h zero l = absurd (omega arith)
  behind_stop m c e d ts h (suc f) l =
      rw (more_none f depth ts (R.start_of ts) refl (sym (start_some t at w i ts h b st) ∙ e))
      (ends D t 0 (length ts) (F (G done)) ts at c m d h (omega arith))

  behind_on : (r : Result Parsed Refusal) (H : Stmts → Stmts) → ((k : Stmts) → H k ≡ F (G k)) → b ≡ true → Runs D t at 1 14 (λ f ts. onto H (R.list f depth ts)) r
      → Runs D t at 1 15 (λ f ts. behind_one F depth f G ts) r
  behind_on r H eh e x ts h zero l = absurd (omega arith)
  behind_on r H eh e x ts h (suc f) l =
      rw (more_some f depth ts (R.start_of ts) refl (sym (start_some t at w i ts h b st) ∙ e), onto_both F G H eh (R.list f depth ts))
      (x ts h f (omega arith))

module _ {t old mid : List ℕ} {at n : ℕ} (depth before : ℕ) where
  pub list_bad : {y : Refusal} → StatementDid t old mid at depth n (Err y) → ListDid t old mid at depth n before (Err y)
  list_bad Q = (tt, did Q.within (stepped (list_step (front_at t old before) depth) (part_bad (part Q) _ 1) (omega arith)))

  module _ {q : Parsed} (Q : StatementDid t old mid at depth n (Ok q)) where
    pub list_open : {y : Refusal} → ExpectDid t q.at 60 (Err y) → ListDid t old mid at depth n before (Err y)
    list_open E = (
      tt,
      did (omega (arith, Q.within, E.within))
          (stepped (list_step (front_at t old before) depth) (part_good (part Q) _ (past_bad ";" key_semicolon E _ 1) (omega arith)) (omega arith)),
    )

    -- the statement linked to those before it, and the word behind its semicolon
    module _ {l : Parsed} (E : ExpectDid t q.at 60 (Ok l.at)) {o : ℕ} {new : List ℕ} (L : LinkedDid mid new o q.count before q.root l) (lb : before ≤ n)
        {w : Word} (i : IsWord t l.at w) (b : Bool) (st : StartsIs w.class b) where
      front : (k : Stmts) → front_at t new l.root k ≡ front_at t old before (front_at t mid q.root k)
      front k = L.front t k ∙ front_same t old mid n before Q.same lb (front_at t mid q.root k)

      pub list_stop : b ≡ false → ListDid t old new at depth n before (Ok l)
      list_stop e =
          let F = front_at t old before in
          let s = E.step refl refl in
          let P : Part (list_at t) t mid new l.at q.count 0 0 (λ f us. behind_one F depth f (front_at t mid q.root) us) (Ok l)
          = record { more = L.more; same = L.same; runs = behind_stop t l.at depth F (front_at t mid q.root) w i b st (list_at t new) l.root l.count e (front done) } in (
            omega (arith, Q.within, E.within, L.few, L.first),
            did (omega (arith, Q.within, E.within, L.more, L.few, L.first, L.rooted))
                (stepped (list_step F depth) (part_good (part Q) _ (past ";" key_semicolon E _ P) (omega arith)) (omega arith)),
          )

      pub list_on : {last : List ℕ} {r : Result Parsed Refusal} → b ≡ true → ListDid t new last l.at depth l.count l.root r → ListDid t old last at depth n before r
      list_on {last} {r} e N =
          let F = front_at t old before in
          let P : Part (list_at t) t mid last l.at q.count 1 15 (λ f us. behind_one F depth f (front_at t mid q.root) us) r
          = record {
            more = IfOk-weaker r _ _ (λ p b. omega (arith, L.more, b)) (part N.1).more;
            same = both_same q.count l.count mid new last L.same L.more N.1.same;
            runs = behind_on t l.at depth F (front_at t mid q.root) w i b st (list_at t last) r (front_at t new l.root) front e N.1.runs;
          } in (
            spare r N.0 N.1.within,
            did (ends_there r N.0 N.1.within) (stepped (list_step F depth) (part_good (part Q) _ (past ";" key_semicolon E _ P) (omega arith)) (omega arith)),
          )
        where
          spare : (r : Result Parsed Refusal) → IfOk r (λ p. p.count + l.at < l.count + p.at + l.root) → Ends (length t) l.at l.count r
              → IfOk r (λ p. p.count + at < n + p.at + before)
          spare (Ok p) x y = let s = E.step refl refl in omega (arith, s, Q.within, E.within, L.more, L.few, L.first, L.rooted, x, y)
          spare (Err p) x y = tt

          ends_there : (r : Result Parsed Refusal) → IfOk r (λ p. p.count + l.at < l.count + p.at + l.root) → Ends (length t) l.at l.count r → Ends (length t) at n r
          ends_there (Ok p) x y = let s = E.step refl refl in omega (arith, s, Q.within, E.within, L.more, L.few, L.first, L.rooted, x, y)
          ends_there (Err p) x y = let s = E.step refl refl in omega (arith, s, Q.within, E.within, y)

-- a whole list, from nil on, one deeper
onto_nil : (F : Stmts → Stmts) → ((k : Stmts) → F k ≡ k) → (s : Answer (Read Stmts)) → onto F s ≡ s
onto_nil F e (refused w p) = refl
onto_nil F e (given x) = ap (λ y. ok y x.rest) (e x.it)

pub whole : {t old new : List ℕ} {at n : ℕ} (depth : ℕ) {r : Result Parsed Refusal} → ListDid t old new at (depth + 1) n 0 r
    → Part (list_at t) t old new at n 1 14 (λ f ts. R.list f (suc depth) ts) r
whole {t} {old} {new} depth {r} L =
    record {
      more = (part L.1).more;
      same = L.1.same;
      runs = λ ts h f l. subst (λ s. Answered (list_at t new) t 1 (length ts) s r)
          (onto_nil (front_at t old 0) (front_nil t old) (R.list f (depth + 1) ts) ∙ ap (λ d. R.list f d ts) (add-one depth)) (L.1.runs ts h f l);
    }
