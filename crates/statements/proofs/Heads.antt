-- Laws of reading the head of a FOR: its bounds, its step, and the whole of it.
use mathlib.Core.Path.{◌≡◌, refl, sym, ap, ap₂, subst, ◌∙◌}
use mathlib.Core.Option.{Option, none, some}
use mathlib.Core.List.{List}
use Prim.Native.Nat.{ℕ, ◌+◌, ◌*◌, ◌≤◌, ◌<◌}
use native.Mathlib.Omega.{arith}
use lib.IntN.{pos}
use lib.ListN.{length}
use Rattle.std.specs.Prelude.{Result, Ok, Err}
use Rattle.paper.specs.declared.Refusal.{Refusal}
use Rattle.paper.specs.declared.Why.TheVariants.{BadShape}
use Rattle.paper.specs.Refusals.{Answer, refusal, ◌>>=◌}
use Rattle.paper.specs.Words.{Token}
use Rattle.paper.specs.Source as S
use Rattle.paper.specs.Source.{Expr, Name}
use Rattle.paper.specs.Reading as R
use Rattle.paper.specs.Reading.{Read, ok}
use Rattle.words.specs.declared.Word.{Word}
use Rattle.words.specs.Denoted.{IsWord}
use Rattle.tree.specs.Nodes.{written}
use Rattle.tree.specs.Trees.{expr_at, name_at}
use Rattle.tree.proofs.Frames.{Framed, first_same, second_same, expr_same}
use Rattle.tree.proofs.Forms.{put_first, put_second, put_place, put_number}
use Rattle.tree.proofs.Puts.{written_same}
use Rattle.expressions.specs.declared.Parsed.{Parsed}
use Rattle.expressions.specs.Reads.{Ends, Answered, Runs, Room, ExpectDid, ExpressionDid}
use Rattle.expressions.proofs.Tokens.{key_becomes, key_to, key_by, key_do}
use Rattle.expressions.proofs.Moves.{class_moves}
use Rattle.expressions.proofs.Reached.{later}
use Rattle.expressions.proofs.Steps.{next, here}
use Rattle.statements.specs.Lists.{Pair, pair_at, Head, head_at, BoundsDid, StepDid, HeadDid}
use Rattle.statements.proofs.Runs.{assoc, made}
use Rattle.statements.proofs.Rooms.{Spare, ended}
use Rattle.statements.proofs.Parts.{Part, part, did, weaker, part_bad, part_good, past_bad, past, node}
use Rattle.statements.proofs.Ways.{a_name_lem, no_name, runs_behind, runs_sees, runs_other}

-- a whole expression
abbrev whole : ℕ → List Token → Answer (Read Expr)
whole f ts = R.expression f 0 1 ts

-- ---- := a TO b

abbrev to_end : Expr → ℕ → List Token → Answer (Read Pair)
to_end a f vs = whole f vs >>= λ b. ok (record { from = a; to = b.it }) b.rest

abbrev from_end : ℕ → List Token → Answer (Read Pair)
from_end f us = whole f us >>= λ a. R.expect "TO" a.rest >>= λ vs. to_end a.it f vs

abbrev pub bounded : ℕ → List Token → Answer (Read Pair)
bounded f ts = R.expect ":=" ts >>= λ us. from_end f us

-- the node of two expressions
pair_same : (t : List ℕ) → Framed (pair_at t)
pair_same t old new n i h l =
    ap₂ (λ x y. record { from = x; to = y }) (first_same (expr_at t) (expr_same t) old new n i h l) (second_same (expr_at t) (expr_same t) old new n i h l)

pair_put : (t p : List ℕ) (n k a b c : ℕ) → 4 * n + 4 ≤ length p → a < n → b < n
    → pair_at t (written p n k a b c) n ≡ record { from = expr_at t p a; to = expr_at t p b }
pair_put t p n k a b c fits x y =
    ap₂ (λ x y. record { from = x; to = y }) (put_first p n k a b c fits (expr_at t) (expr_same t) x) (put_second p n k a b c fits (expr_at t) (expr_same t) y)

module _ {t old : List ℕ} {at n : ℕ} where
  pub bounds_bad : {y : Refusal} → ExpectDid t at 54 (Err y) → BoundsDid t old old at n (Err y)
  bounds_bad E = did E.within (weaker (past_bad ":=" key_becomes E _ 1) (omega arith))

  module _ {o : ℕ} (E : ExpectDid t at 54 (Ok o)) {mid : List ℕ} where
    pub bounds_from : {y : Refusal} → ExpressionDid t old mid o 1 0 n (Err y) → BoundsDid t old mid at n (Err y)
    bounds_from A = did (omega (arith, E.within, A.within)) (weaker (past ":=" key_becomes E _ (part_bad (part A) _ 1)) (omega arith))

    module _ {a : Parsed} (A : ExpressionDid t old mid o 1 0 n (Ok a)) where
      pub bounds_to : {y : Refusal} → ExpectDid t a.at 19 (Err y) → BoundsDid t old mid at n (Err y)
      bounds_to F =
          did (omega (arith, E.within, A.within, F.within))
          (weaker (past ":=" key_becomes E _ (part_good (part A) _ (past_bad "TO" key_to F _ 1) (omega arith))) (omega arith))

      module _ {u : ℕ} (F : ExpectDid t a.at 19 (Ok u)) {new : List ℕ} where
        pub bounds_half : {y : Refusal} → ExpressionDid t mid new u 1 0 a.count (Err y) → BoundsDid t old new at n (Err y)
        bounds_half B =
            did (omega (arith, E.within, A.within, F.within, B.within))
            (weaker (past ":=" key_becomes E _ (part_good (part A) _ (past "TO" key_to F _ (part_bad (part B) _ 1)) (omega arith))) (omega arith))

        pub bounds_good : {b : Parsed} → ExpressionDid t mid new u 1 0 a.count (Ok b) → {last : List ℕ} → Spare t new at n b.at b.count
            → last ≡ written new (b.count + 1) 47 a.root b.root 0
            → BoundsDid t old last at n (Ok (record { at = b.at; count = b.count + 1; root = b.count + 1 }))
        bounds_good {b} B S e =
            let d = ap (λ p. pair_at t p (b.count + 1)) e
            ∙ pair_put t new (b.count + 1) 47 a.root b.root 0 S.pool (omega (arith, A.within, B.within)) (omega (arith, B.within))
            ∙ ap (λ x. record { from = x; to = expr_at t new b.root }) (expr_same t mid new a.count a.root B.same A.within.rooted) in
            did (ended S)
            (weaker (past ":=" key_becomes E _ (part_good (part A) _ (past "TO" key_to F _ (part_good (part B) _ (node 47 a.root b.root 0 e d) (omega arith))) (omega arith))) (omega arith))

-- ---- c, or 1 at the place p

module _ (D : ℕ → Expr) (t : List ℕ) (at p : ℕ) (w : Word) (i : IsWord t at w) where
  by_says : (r : Result Parsed Refusal) → w.class ≡ 20 → Runs D t w.end 1 5 whole r → Runs D t at 0 6 (λ f ts. R.step f p ts) r
  by_says r ec y =
      runs_sees D t at 0 6 w i "BY" 20 key_by (λ f ts. whole f (R.behind ts)) (λ f ts. ok (S.number p (pos 1)) ts) r ec
      (runs_behind D t at 0 6 w i (λ f ts us. whole f us) 20 1 5 r ec refl (omega arith) (omega arith) (λ ts h. y))

  one_says : (m : ℕ) → (w.class ≡ 20 → ⊥) → D m ≡ S.number p (pos 1)
      → Runs D t at 0 6 (λ f ts. R.step f p ts) (Ok (record { at = at; count = m; root = m }))
  one_says m ec d =
      runs_other D t at 0 6 w i "BY" 20 key_by (λ f ts. whole f (R.behind ts)) (λ f ts. ok (S.number p (pos 1)) ts) _ ec
      (made D t at 6 (S.number p (pos 1)) m m d)

module _ {t old new : List ℕ} {at n : ℕ} (p : ℕ) {w : Word} (i : IsWord t at w) where
  pub step_by : {r : Result Parsed Refusal} → w.class ≡ 20 → ExpressionDid t old new w.end 1 0 n r → StepDid t old new at n p r
  step_by {r} e X =
      record { within = later _ _ _ _ (omega (arith, i.from, i.on)) r X.within; same = X.same; runs = by_says (expr_at t new) t at p w i r e X.runs }

  pub step_one : (w.class ≡ 20 → ⊥) → Room t old at n → n < at → new ≡ written old (n + 1) 1 1 0 p
      → StepDid t old new at n p (Ok (record { at = at; count = n + 1; root = n + 1 }))
  step_one e room l en =
      record {
        within = omega (arith, room);
        same = rw en (written_same old (n + 1) 1 1 0 p n (omega arith));
        runs = one_says (expr_at t new) t at p w i (n + 1) e (ap (λ q. expr_at t q (n + 1)) en ∙ put_number t old (n + 1) 1 0 p (omega arith) (omega (arith, room)));
      }

-- ---- v := a TO b [BY c] DO

-- behind the bounds, of a FOR at p whose name v stands at c
abbrev tail : ℕ → ℕ → Name → ℕ → Read Pair → Answer (Read Head)
tail p c v f g =
    R.step f p g.rest >>= λ s. R.expect "DO" s.rest >>= λ ds.
    ok (record { place = c; name = v; from = g.it.from; to = g.it.to; by = s.it }) ds

abbrev behind_name : ℕ → ℕ → List Token → Option Name → Answer (Read Head)
behind_name f p ts o =
    ◌>>=◌ {A = Read Name} (elim o [ none ↦ R.broken ts | some s ↦ ok s (R.behind ts) ]) (λ v.
    R.expect ":=" v.rest >>= λ us. whole f us >>= λ a. R.expect "TO" a.rest >>= λ vs. whole f vs >>= λ b.
    R.step f p b.rest >>= λ s. R.expect "DO" s.rest >>= λ ds.
    ok (record { place = R.here ts; name = v.it; from = a.it; to = b.it; by = s.it }) ds)

grouped : (f p c : ℕ) (v : Name) (us : List Token) → (bounded f us >>= tail p c v f)
    ≡ (R.expect ":=" us >>= λ us. whole f us >>= λ a. R.expect "TO" a.rest >>= λ vs. whole f vs >>= λ b.
    R.step f p b.rest >>= λ s. R.expect "DO" s.rest >>= λ ds.
    ok (record { place = c; name = v; from = a.it; to = b.it; by = s.it }) ds)
grouped f p c v us = simp assoc

-- its node
head_put : (t p : List ℕ) (n a b c : ℕ) → 4 * n + 4 ≤ length p → a < n → b < n
    → head_at t (written p n 46 a b c) n ≡ record { place = c; name = name_at t c; from = (pair_at t p a).from; to = (pair_at t p a).to; by = expr_at t p b }
head_put t p n a b c fits x y =
    rw (put_place p n 46 a b c fits, put_second p n 46 a b c fits (expr_at t) (expr_same t) y)
    (ap (λ g. record { place = c; name = name_at t c; from = g.from; to = g.to; by = expr_at t p b }) (put_first p n 46 a b c fits (pair_at t) (pair_same t) x))

module _ {t old : List ℕ} {at n : ℕ} (p : ℕ) {w : Word} (i : IsWord t at w) where
  pub head_none : (w.class ≡ 1 → ⊥) → HeadDid t old old at n p (Err (refusal BadShape w.at))
  head_none e =
      record {
        within = omega (arith, i.from, i.on, i.to);
        same = λ k h. refl;
        runs = λ ts h f l. subst (λ o. Answered (head_at t old) t 1 (length ts) (behind_name f p ts o) (Err (refusal BadShape w.at))) (sym (no_name t at w i ts h e)) (here t at w i ts h BadShape);
      }

  module _ (e : w.class ≡ 1) where
    name_on : {new : List ℕ} {d j : ℕ} {r : Result Parsed Refusal} → Ends (length t) at n r
        → Part (head_at t) t old new w.end n d j (λ f us. bounded f us >>= tail p w.at (name_at t w.at) f) r → j ≤ 24 → HeadDid t old new at n p r
    name_on {new} {d} {j} {r} v P low =
        record {
          within = v;
          same = P.same;
          runs = λ ts h f l.
              let g = grouped f p (R.here ts) (name_at t w.at) (R.behind ts) in
              let u = runs_behind (head_at t new) t at 1 8 w i (λ f ts us. bounded f us >>= tail p w.at (name_at t w.at) f) 1 d j r e refl (omega arith) (omega arith) (λ ts h. P.runs) ts h f l in
              subst (λ o. Answered (head_at t new) t 1 (length ts) (behind_name f p ts o) r) (sym (a_name_lem t at w i ts h e)) (rw (← g, (next t at w i ts h).here) u);
        }

    module _ {mid : List ℕ} where
      pub head_bounds : {y : Refusal} → BoundsDid t old mid w.end n (Err y) → HeadDid t old mid at n p (Err y)
      head_bounds G = name_on (omega (arith, i.from, i.on, G.within)) (part_bad (part G) _ 0) (omega arith)

      module _ {g : Parsed} (G : BoundsDid t old mid w.end n (Ok g)) {new : List ℕ} where
        pub head_step : {y : Refusal} → StepDid t mid new g.at g.count p (Err y) → HeadDid t old new at n p (Err y)
        head_step C =
            let m = class_moves t at w i 1 e refl refl in
            name_on (omega (arith, i.from, G.within, C.within)) (part_good (part G) _ (part_bad (part C) _ 0) (omega arith)) (omega arith)

        module _ {c : Parsed} (C : StepDid t mid new g.at g.count p (Ok c)) where
          pub head_do : {y : Refusal} → ExpectDid t c.at 21 (Err y) → HeadDid t old new at n p (Err y)
          head_do E =
              let m = class_moves t at w i 1 e refl refl in
              name_on (omega (arith, i.from, G.within, C.within, E.within))
              (part_good (part G) _ (part_good (part C) _ (past_bad "DO" key_do E _ 0) (omega arith)) (omega arith)) (omega arith)

          pub head_good : {o : ℕ} → ExpectDid t c.at 21 (Ok o) → {last : List ℕ} → Spare t new at n o c.count
              → last ≡ written new (c.count + 1) 46 g.root c.root w.at
              → HeadDid t old last at n p (Ok (record { at = o; count = c.count + 1; root = c.count + 1 }))
          head_good E S en =
              let d = ap (λ q. head_at t q (c.count + 1)) en
              ∙ head_put t new (c.count + 1) g.root c.root w.at S.pool (omega (arith, G.within, C.within)) (omega (arith, C.within))
              ∙ ap (λ x. record { place = w.at; name = name_at t w.at; from = x.from; to = x.to; by = expr_at t new c.root }) (pair_same t mid new g.count g.root C.same G.within.rooted) in
              name_on (ended S)
              (part_good (part G) _ (part_good (part C) _ (past "DO" key_do E _ (node 46 g.root c.root w.at en d)) (omega arith)) (omega arith)) (omega arith)
