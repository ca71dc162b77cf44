-- Laws of reading a CASE: its arms, and the arms behind one.
use mathlib.Core.Path.{◌≡◌, refl, sym, ◌∙◌}
use mathlib.Core.Bool.{true, false}
use mathlib.Core.List.{List, [], ◌++◌}
use mathlib.Core.Logic.{◌⊎◌, inl, inr}
use Prim.Native.Nat.{ℕ, zero, suc, ◌+◌, ◌≤◌}
use native.Mathlib.Omega.{arith}
use native.Mathlib.Numerals.{add-one}
use Rattle.std.specs.Prelude.{Result, Ok, Err}
use Rattle.paper.specs.declared.Refusal.{Refusal}
use Rattle.paper.specs.Refusals.{Answer, refused, given, ◌>>=◌}
use Rattle.paper.specs.Words.{Token}
use Rattle.paper.specs.Source.{Label, Stmts, select, arm}
use Rattle.paper.specs.Reading as R
use Rattle.paper.specs.Reading.{Read, ok}
use Rattle.words.specs.declared.Word.{Word}
use Rattle.words.specs.Denoted.{words_at, IsWord}
use Rattle.tree.specs.Nodes.{written}
use Rattle.tree.specs.Trees.{labels_at, arms_at}
use Rattle.tree.proofs.Frames.{labels_nil}
use Rattle.expressions.specs.declared.Parsed.{Parsed}
use Rattle.expressions.specs.Reads.{Runs, ExpectDid, ExpressionDid}
use Rattle.expressions.proofs.Tokens.{key_of_lem, key_minus, key_end_case}
use Rattle.expressions.proofs.Steps.{sees_it, sees_other, a_number_lem, no_number}
use Rattle.expressions.proofs.Nodes.{both_same}
use Rattle.statements.specs.Lists.{ListDid, ClosingDid, CasesDid, ArmsDid, MoreArmsDid, LabelsDid}
use Rattle.statements.proofs.Runs.{assoc, cong}
use Rattle.statements.proofs.Rooms.{Spare, ended}
use Rattle.statements.proofs.Parts.{Part, part, did, stepped, part_bad, part_good, node}
use Rattle.statements.proofs.Headed.{Headed, headed_good}
use Rattle.statements.proofs.Lists.{whole}
use Rattle.statements.proofs.Nodes.{select_node, arm_node, else_node}

pub cases_step : (depth p f : ℕ) (ts : List Token)
    → R.cases (suc f) depth p ts ≡ (R.expression f 0 1 ts >>= λ c. (R.expect "OF" c.rest >>= λ us. (R.arms f depth us >>= λ a. ok (select p c.it a.it) a.rest)))
unfolding R.list
cases_step depth p f ts = refl

abbrev pub cases_shape : ℕ → ℕ → Headed Stmts
cases_shape depth p =
    record {
      reads = λ f ts. R.cases f depth p ts;
      key = "OF";
      class = 10;
      is = key_of_lem;
      third = λ f ts. R.arms f depth ts;
      rank = 9;
      low = omega arith;
      mk = select p;
      step = cases_step depth p;
    }

module _ {t old mid new last : List ℕ} {at n : ℕ} (depth p : ℕ) {c b : Parsed} {o : ℕ} where
  pub cases_good : ExpressionDid t old mid at 1 0 n (Ok c) → ExpectDid t c.at 10 (Ok o) → ArmsDid t mid new o depth c.count (Ok b)
      → Spare t new at n b.at b.count → last ≡ written new (b.count + 1) 42 c.root b.root p
      → CasesDid t old last at depth n p (Ok (record { at = b.at; count = b.count + 1; root = b.count + 1 }))
  cases_good C E B S e =
      headed_good (cases_shape depth p) C E B 42 p S e
      (select_node t mid new last c.count b.count c.root b.root p B.same C.within.rooted (omega (arith, C.within, B.within)) B.within.rooted S.pool e)

-- ---- an arm: its labels, its list, and what comes behind

abbrev labelled : (List Label) → ℕ → List Token → Answer (Read (List Label))
labelled ls f ts = R.labels f ts >>= λ l. R.expect ":" l.rest >>= λ us. ok (ls ++ l.it) us

arms_step_lem : (ls : List Label) → ls ≡ [] → (depth f : ℕ) (ts : List Token)
    → R.arms (suc f) depth ts
    ≡ (labelled ls f ts >>= λ l. (R.list f (suc depth) l.rest >>= λ a. (R.more_arms f depth a.rest >>= λ b. ok (arm l.it a.it b.it) b.rest)))
unfolding R.list
arms_step_lem ls e depth f ts =
    rw e (cong (R.labels f ts) _ _ (λ l. sym (assoc (R.expect ":" l.rest) _ _)) ∙ sym (assoc (R.labels f ts) _ _))

module _ {t old : List ℕ} {at n : ℕ} (depth : ℕ) where
  stepped_arms : {new : List ℕ} {r : Result Parsed Refusal} {e : ℕ}
      → Part (arms_at t) t old new at n e 0 (λ f ts. labelled (labels_at old 0) f ts >>= λ l. (R.list f (suc depth) l.rest >>= λ a. (R.more_arms f depth a.rest >>= λ b. ok (arm l.it a.it b.it) b.rest))) r
      → 1 ≤ e → Part (arms_at t) t old new at n 1 9 (λ f ts. R.arms f depth ts) r
  stepped_arms P l = stepped (arms_step_lem (labels_at old 0) (labels_nil old) depth) P (omega arith)

module _ {t old mid : List ℕ} {at n : ℕ} (depth : ℕ) where
  pub arms_bad : {y : Refusal} → LabelsDid t old mid at n 0 (Err y) → ArmsDid t old mid at depth n (Err y)
  arms_bad L = did L.within (stepped_arms depth (part_bad (part L) _ 1) (omega arith))

  module _ {l : Parsed} (L : LabelsDid t old mid at n 0 (Ok l)) {new : List ℕ} where
    pub arms_half : {y : Refusal} → ListDid t mid new l.at (depth + 1) l.count 0 (Err y) → ArmsDid t old new at depth n (Err y)
    arms_half A =
        did (omega (arith, L.within, A.1.within)) (stepped_arms depth (part_good (part L) _ (part_bad (whole depth A) _ 1) (omega arith)) (omega arith))

    module _ {a : Parsed} (A : ListDid t mid new l.at (depth + 1) l.count 0 (Ok a)) {last : List ℕ} where
      pub arms_rest : {y : Refusal} → MoreArmsDid t new last a.at depth a.count (Err y) → ArmsDid t old last at depth n (Err y)
      arms_rest B =
          did (omega (arith, L.within, A.1.within, B.within))
          (stepped_arms depth (part_good (part L) _ (part_good (whole depth A) _ (part_bad (part B) _ 1) (omega arith)) (omega arith)) (omega arith))

      pub arms_good : {b : Parsed} → MoreArmsDid t new last a.at depth a.count (Ok b) → {end : List ℕ} → Spare t last at n b.at b.count
          → end ≡ written last (b.count + 1) 48 l.root a.root b.root
          → ArmsDid t old end at depth n (Ok (record { at = b.at; count = b.count + 1; root = b.count + 1 }))
      arms_good {b} B {end} S e =
          let m = both_same l.count a.count mid new last A.1.same A.1.within.more B.same in
          let v : l.root ≤ b.count = omega (arith, L.within, A.1.within, B.within) in
          let w : a.root ≤ b.count = omega (arith, A.1.within, B.within) in
          let d = arm_node t mid last end l.count b.count l.root a.root b.root m L.within.rooted v w S.pool new a.count B.same A.1.within.rooted B.within.rooted e in
          did (ended S)
          (stepped_arms depth (part_good (part L) _ (part_good (whole depth A) _ (part_good (part B) _ (node 48 l.root a.root b.root e d) (omega arith)) (omega arith)) (omega arith)) (omega arith))

-- ---- the arms behind one

module _ (f depth : ℕ) (ts : List Token) where
  more_arms_1 : R.starts_label ts ≡ true → R.more_arms (suc f) depth ts ≡ R.arms f (suc depth) ts
  unfolding R.list
  more_arms_1 e = rw (e, R.more_arms)

  more_arms_0 : R.starts_label ts ≡ false → R.more_arms (suc f) depth ts ≡ R.else_part f depth "END_CASE" ts
  unfolding R.list
  more_arms_0 e = rw (e, R.more_arms)

module _ {t old new : List ℕ} {at n : ℕ} (depth : ℕ) {w : Word} (i : IsWord t at w) {r : Result Parsed Refusal} where
  -- an arm begins with a number or with a minus
  arms_on : ((ts : List Token) → words_at t at ≡ given ts → R.starts_label ts ≡ true) → ArmsDid t old new at (depth + 1) n r → MoreArmsDid t old new at depth n r
  arms_on y A = record { within = A.within; same = A.same; runs = go }
    where
      go : Runs (arms_at t new) t at 1 10 (λ f ts. R.more_arms f depth ts) r
      go ts h zero l = absurd (omega arith)
      go ts h (suc f) l = rw (more_arms_1 f depth ts (y ts h), ← add-one depth) (A.runs ts h f (omega arith))

  pub more_arms_next : (w.class ≡ 2) ⊎ (w.class ≡ 69) → ArmsDid t old new at (depth + 1) n r → MoreArmsDid t old new at depth n r
  more_arms_next (inl e) A = arms_on (λ ts h. rw (a_number_lem t at w i ts h e, R.starts_label)) A
  more_arms_next (inr e) A = arms_on (λ ts h. rw (no_number t at w i ts h (λ z. omega arith), sees_it t at w i ts h "-" 69 key_minus e, R.starts_label)) A

-- ---- the ELSE list, in a node of its own

same_reading : (s : Answer (Read Stmts)) → s ≡ (s >>= λ x. ok x.it x.rest)
same_reading (refused v p) = refl
same_reading (given x) = refl

module _ {t old : List ℕ} {at n : ℕ} (depth : ℕ) {w : Word} (i : IsWord t at w) (e : w.class ≡ 2 → ⊥) (g : w.class ≡ 69 → ⊥) where
  -- read as ELSE and END_CASE
  else_step : {last : List ℕ} {r : Result Parsed Refusal} → Part (arms_at t) t old last at n 1 8 (λ f ts. R.else_part f depth "END_CASE" ts >>= λ x. ok x.it x.rest) r
      → Part (arms_at t) t old last at n 1 10 (λ f ts. R.more_arms f depth ts) r
  else_step {last} {r} P = record { more = P.more; same = P.same; runs = go }
    where
      go : Runs (arms_at t last) t at 1 10 (λ f ts. R.more_arms f depth ts) r
      go ts h zero l = absurd (omega arith)
      go ts h (suc f) l =
          let y : R.starts_label ts ≡ false = rw (no_number t at w i ts h e, sees_other t at w i ts h "-" 69 key_minus g, R.starts_label) in
          rw (more_arms_0 f depth ts y, same_reading (R.else_part f depth "END_CASE" ts)) (P.runs ts h f (omega arith))

  module _ {mid : List ℕ} where
    pub more_arms_bad : {y : Refusal} → ClosingDid t old mid at depth n 17 (Err y) → MoreArmsDid t old mid at depth n (Err y)
    more_arms_bad K = let C = K.1 "END_CASE" key_end_case in did C.within (else_step (part_bad (part C) _ 1))

    pub more_arms_plain : {b : Parsed} → ClosingDid t old mid at depth n 17 (Ok b) → {new : List ℕ} → Spare t mid at n b.at b.count
        → new ≡ written mid (b.count + 1) 49 b.root 0 0 → MoreArmsDid t old new at depth n (Ok (record { at = b.at; count = b.count + 1; root = b.count + 1 }))
    more_arms_plain {b} K {new} S en =
        let C = K.1 "END_CASE" key_end_case in
        did (ended S)
        (else_step (part_good (part C) _ (node 49 b.root 0 0 en (else_node t mid new b.count b.root C.within.rooted S.pool en)) (omega arith)))
