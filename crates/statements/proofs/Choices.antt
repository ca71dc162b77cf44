-- Laws of reading an IF: its lists, ELSIF, ELSE and the closing word.
use mathlib.Core.Path.{◌≡◌, refl, sym, ap, ◌∙◌}
use mathlib.Core.Bool.{true, false}
use mathlib.Core.List.{List}
use Prim.Native.Nat.{ℕ, zero, suc, ◌+◌, ◌≤◌}
use Prim.Native.String.{String}
use native.Mathlib.Omega.{arith}
use native.Mathlib.Numerals.{add-one}
use lib.ListN.{length}
use Rattle.std.specs.Prelude.{Result, Ok, Err}
use Rattle.paper.specs.declared.Refusal.{Refusal}
use Rattle.paper.specs.Refusals.{Answer, refused, given, ◌>>=◌}
use Rattle.paper.specs.Words.{Token}
use Rattle.paper.specs.Source.{Expr, Stmts, done, choice}
use Rattle.paper.specs.Reading as R
use Rattle.paper.specs.Reading.{Read, ok}
use Rattle.words.specs.declared.Word.{Word}
use Rattle.words.specs.Denoted.{words_at, IsWord}
use Rattle.tree.specs.Nodes.{written}
use Rattle.tree.specs.Trees.{front_at}
use Rattle.tree.proofs.Frames.{front_nil}
use Rattle.expressions.specs.declared.Parsed.{Parsed}
use Rattle.expressions.specs.Reads.{Ends, Answered, Runs, Did, ExpectDid, ExpressionDid}
use Rattle.expressions.proofs.Tokens.{key_then, key_elsif, key_else, key_end_if}
use Rattle.expressions.proofs.Answers.{weaken, done as done_at, pass_bad, pass_good, expect_one}
use Rattle.expressions.proofs.Reached.{later}
use Rattle.expressions.proofs.Steps.{next, sees_it, sees_other, passed}
use Rattle.statements.specs.Lists.{Two, list_at, ListDid, BranchDid, BranchesDid, OtherwiseDid, ClosingDid}
use Rattle.statements.proofs.Runs.{assoc, cong}
use Rattle.statements.proofs.Rooms.{Spare, ended}
use Rattle.statements.proofs.Parts.{Part, part, did, weaker, part_bad, part_good, past_bad, past, node, stays}
use Rattle.statements.proofs.Headed.{Headed, headed_good}
use Rattle.statements.proofs.Lists.{whole}
use Rattle.statements.proofs.Nodes.{choice_node, two_node, two_place}

abbrev pub two_of : ℕ → ℕ → ℕ → List Token → Answer (Read Two)
two_of depth q f ts = R.list f (suc depth) ts >>= λ a. R.otherwise f depth q a.rest >>= λ b. ok (record { first = a.it; second = b.it }) b.rest

abbrev pub chosen : ℕ → ℕ → Expr → Two → Stmts → Stmts
chosen p q c x = choice p q c x.first x.second

pub branch_step : (depth p q f : ℕ) (ts : List Token)
    → R.branch (suc f) depth p q ts ≡ (R.expression f 0 1 ts >>= λ c. (R.expect "THEN" c.rest >>= λ us. (two_of depth q f us >>= λ x. ok (chosen p q c.it x.it) x.rest)))
unfolding R.list
branch_step depth p q f ts =
    cong (R.expression f 0 1 ts) _ _ (λ c. cong (R.expect "THEN" c.rest) _ _ (λ us.
    cong (R.list f (suc depth) us) _ _ (λ a. sym (assoc (R.otherwise f depth q a.rest) _ _)) ∙ sym (assoc (R.list f (suc depth) us) _ _)))

abbrev pub branch_shape : ℕ → ℕ → ℕ → Headed Two
branch_shape depth p q =
    record {
      reads = λ f ts. R.branch f depth p q ts;
      key = "THEN";
      class = 12;
      is = key_then;
      third = two_of depth q;
      rank = 14;
      low = omega arith;
      mk = chosen p q;
      step = branch_step depth p q;
    }

module _ {t old mid new last : List ℕ} {at n : ℕ} (depth p q : ℕ) {c b : Parsed} {o : ℕ} where
  pub branch_good : ExpressionDid t old mid at 1 0 n (Ok c) → ExpectDid t c.at 12 (Ok o) → BranchesDid t mid new o depth c.count q (Ok b)
      → Spare t new at n b.at b.count → last ≡ written new (b.count + 1) 41 c.root b.root p
      → BranchDid t old last at depth n p q (Ok (record { at = b.at; count = b.count + 1; root = b.count + 1 }))
  branch_good C E B S e =
      headed_good (branch_shape depth p q) C E B.0 41 p S e
      (choice_node t mid new last c.count b.count c.root b.root p B.0.same C.within.rooted (omega (arith, C.within, B.0.within)) B.0.within.rooted S.pool q B.1 e)

-- ---- the two lists

module _ {t old mid new : List ℕ} {at n : ℕ} (depth q : ℕ) {a b : Parsed} where
  pub branches_good : ListDid t old mid at (depth + 1) n 0 (Ok a) → OtherwiseDid t mid new a.at depth a.count q (Ok b) → {last : List ℕ} → Spare t new at n b.at b.count
      → last ≡ written new (b.count + 1) 45 a.root b.root q
      → BranchesDid t old last at depth n q (Ok (record { at = b.at; count = b.count + 1; root = b.count + 1 }))
  branches_good A B {last} S e =
      let l : a.root ≤ b.count = omega (arith, A.1.within, B.within) in
      let two = two_node t mid new last a.count b.count a.root b.root q B.same A.1.within.rooted l B.within.rooted S.pool e in (
        did (ended S)
            (weaker (part_good (whole depth A) _ (part_good (part B) _ (node 45 a.root b.root q e two) (omega arith)) (omega arith)) (omega arith)),
        two_place t mid new last a.count b.count a.root b.root q B.same A.1.within.rooted l B.within.rooted S.pool e,
      )

-- ---- ELSIF, ELSE and the closing word

module _ (f depth : ℕ) (ts : List Token) where
  otherwise_1 : (q : ℕ) → R.sees "ELSIF" ts ≡ true
      → R.otherwise (suc f) depth q ts ≡ (R.branch f (suc depth) (R.here ts) q (R.behind ts) >>= λ s. ok (s.it done) s.rest)
  unfolding R.list
  otherwise_1 q e = rw (e, R.otherwise)

  otherwise_0 : (q : ℕ) → R.sees "ELSIF" ts ≡ false → R.otherwise (suc f) depth q ts ≡ R.else_part f depth "END_IF" ts
  unfolding R.list
  otherwise_0 q e = rw (e, R.otherwise)

  else_list_1 : R.sees "ELSE" ts ≡ true → R.else_list (suc f) depth ts ≡ R.list f (suc depth) (R.behind ts)
  unfolding R.list
  else_list_1 e = rw (e, R.else_list)

  else_list_0 : R.sees "ELSE" ts ≡ false → R.else_list (suc f) depth ts ≡ ok done ts
  unfolding R.list
  else_list_0 e = rw (e, R.else_list)

  else_1 : (s : String) → R.sees "ELSE" ts ≡ true
      → R.else_part (suc (suc f)) depth s ts ≡ (R.list f (suc depth) (R.behind ts) >>= λ b. (R.expect s b.rest >>= λ us. ok b.it us))
  unfolding R.list
  else_1 s e = ap (λ x. x >>= λ b. (R.expect s b.rest >>= λ us. ok b.it us)) (else_list_1 e)

  else_0 : (s : String) → R.sees "ELSE" ts ≡ false → R.else_part (suc (suc f)) depth s ts ≡ (R.expect s ts >>= λ us. ok done us)
  unfolding R.list
  else_0 s e = ap (λ x. x >>= λ b. (R.expect s b.rest >>= λ us. ok b.it us)) (else_list_0 e)

module _ {t old new : List ℕ} {at n : ℕ} (depth q : ℕ) {w : Word} (i : IsWord t at w) {r : Result Parsed Refusal} where
  pub otherwise_elsif : w.class ≡ 13 → BranchDid t old new w.end (depth + 1) n w.at q r → OtherwiseDid t old new at depth n q r
  otherwise_elsif e B = record { within = later _ _ _ _ (omega (arith, i.from, i.on)) r B.within; same = B.same; runs = go }
    where
      first : (ts : List Token) (s : Answer (Read (Stmts → Stmts))) (r : Result Parsed Refusal) → length ts ≡ suc (length (R.behind ts))
          → Answered (front_at t new) t 1 (length (R.behind ts)) s r → Answered (list_at t new) t 1 (length ts) (s >>= λ a. ok (a.it done) a.rest) r
      first ts (refused v k) r g a = a
      first ts (given a) (Ok q) g b = (ap (λ F. F done) b.0, b.1, omega (arith, b.2))
      first ts (given a) (Err y) g b = b

      go : Runs (list_at t new) t at 1 9 (λ f ts. R.otherwise f depth q ts) r
      go ts h zero l = absurd (omega arith)
      go ts h (suc f) l =
          let b = passed t at w i ts h 13 e refl in
          let y = rw (add-one depth) at (B.runs (R.behind ts) b.0 f (omega arith)) in
          rw (otherwise_1 f depth ts q (sees_it t at w i ts h "ELSIF" 13 key_elsif e), (next t at w i ts h).here)
          (first ts (R.branch f (suc depth) w.at q (R.behind ts)) r b.1 y)

  pub otherwise_plain : (w.class ≡ 13 → ⊥) → ClosingDid t old new at depth n 15 r → OtherwiseDid t old new at depth n q r
  otherwise_plain e K = let C = K.1 "END_IF" key_end_if in record { within = C.within; same = C.same; runs = go }
    where
      go : Runs (list_at t new) t at 1 9 (λ f ts. R.otherwise f depth q ts) r
      go ts h zero l = absurd (omega arith)
      go ts h (suc f) l = rw (otherwise_0 f depth ts q (sees_other t at w i ts h "ELSIF" 13 key_elsif e)) ((K.1 "END_IF" key_end_if).runs ts h f (omega arith))

-- no ELSE: the closing word alone
module _ (t old : List ℕ) (at depth : ℕ) (w : Word) (i : IsWord t at w) (g : w.class ≡ 14 → ⊥) (r : Result Parsed Refusal) where
  ends_plain : (s : String) → ((ts : List Token) → words_at t at ≡ given ts → Answered (list_at t old) t 1 (length ts) (R.expect s ts >>= λ us. ok done us) r)
      → Runs (list_at t old) t at 1 8 (λ f ts. R.else_part f depth s ts) r
  ends_plain s x ts h zero l = absurd (omega arith)
  ends_plain s x ts h (suc zero) l = absurd (omega arith)
  ends_plain s x ts h (suc (suc f)) l = rw (else_0 f depth ts s (sees_other t at w i ts h "ELSE" 14 key_else g)) (x ts h)

module _ {t old : List ℕ} {at n : ℕ} (depth c : ℕ) {w : Word} (i : IsWord t at w) where
  pub closing_none : {y : Refusal} → (w.class ≡ 14 → ⊥) → ExpectDid t at c (Err y) → ClosingDid t old old at depth n c (Err y)
  closing_none {y} g E = (
    λ u v. tt,
    λ s key. record {
      within = E.within;
      same = λ k h. refl;
      runs = ends_plain t old at depth w i g _ s (λ ts h. pass_bad (list_at t old) t 1 (length ts) (R.expect s ts) _ y (E.taken ts h s key));
    },
  )

  pub closing_plain : {p : ℕ} → (w.class ≡ 14 → ⊥) → ExpectDid t at c (Ok p) → ClosingDid t old old at depth n c (Ok (record { at = p; count = n; root = 0 }))
  closing_plain {p} g E = (
    λ u v. omega (arith, E.step u v),
    λ s key. record {
      within = omega (arith, E.within);
      same = λ k h. refl;
      runs = ends_plain t old at depth w i g _ s (λ ts h. pass_good (list_at t old) t 1 (length ts) (R.expect s ts) _ p _ (E.taken ts h s key)
          (λ us v b. done_at (list_at t old) t 1 (length ts) done us p n 0 (front_nil t old done) b (omega (arith, expect_one s ts us v))));
    },
  )

  -- an ELSE list, and the closing word behind it
  module _ (e : w.class ≡ 14) {new : List ℕ} where
    else_on : (s : String) {r : Result Parsed Refusal} → Ends (length t) at n r
        → Part (list_at t) t old new w.end n 1 14 (λ f ts. R.list f (suc depth) ts >>= λ b. (R.expect s b.rest >>= λ us. ok b.it us)) r
        → Did (list_at t) t old new at n 1 8 (λ f ts. R.else_part f depth s ts) r
    else_on s {r} v P = record { within = v; same = P.same; runs = go }
      where
        go : Runs (list_at t new) t at 1 8 (λ f ts. R.else_part f depth s ts) r
        go ts h zero l = absurd (omega arith)
        go ts h (suc zero) l = absurd (omega arith)
        go ts h (suc (suc f)) l =
            let p = passed t at w i ts h 14 e refl in
            rw (else_1 f depth ts s (sees_it t at w i ts h "ELSE" 14 key_else e))
            (weaken (list_at t new) t 1 (length ts) 1 (length (R.behind ts)) (R.list f (suc depth) (R.behind ts) >>= λ b. (R.expect s b.rest >>= λ us. ok b.it us)) r (omega arith)
            (P.runs (R.behind ts) p.0 f (omega arith)))

    pub closing_bad : {y : Refusal} → ListDid t old new w.end (depth + 1) n 0 (Err y) → ClosingDid t old new at depth n c (Err y)
    closing_bad B = (λ u v. tt, λ s key. else_on s (omega (arith, i.from, i.on, B.1.within)) (part_bad (whole depth B) _ 1))

    module _ {b : Parsed} (B : ListDid t old new w.end (depth + 1) n 0 (Ok b)) where
      pub closing_open : {y : Refusal} → ExpectDid t b.at c (Err y) → ClosingDid t old new at depth n c (Err y)
      closing_open E = (
        λ u v. tt,
        λ s key.
            else_on s (omega (arith, i.from, i.on, B.1.within, E.within))
            (weaker (part_good (whole depth B) _ (past_bad s key E _ 1) (omega arith)) (omega arith)),
      )

      pub closing_good : {o : ℕ} → ExpectDid t b.at c (Ok o) → ClosingDid t old new at depth n c (Ok (record { at = o; count = b.count; root = b.root }))
      closing_good E = (
        λ u v. omega (arith, i.from, i.on, B.0, B.1.within, E.within),
        λ s key.
            else_on s (omega (arith, i.from, i.on, B.1.within, E.within))
            (weaker (part_good (whole depth B) _ (past s key E _ (stays refl)) (omega arith)) (omega arith)),
      )
