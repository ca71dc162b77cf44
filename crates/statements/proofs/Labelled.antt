-- Laws of reading a label of a CASE, and the labels of an arm: one for each way on.
use mathlib.Core.Path.{◌≡◌, refl, sym, ap, ap₂, subst, ◌∙◌}
use mathlib.Core.Bool.{Bool, true, false}
use mathlib.Core.List.{List, [], ◌∷◌, ◌++◌, append_assoc}
use Prim.Native.Nat.{ℕ, zero, suc, ◌+◌, ◌*◌, ◌≤◌, ◌<◌}
use native.Mathlib.Omega.{arith}
use lib.Dec.{eqb}
use lib.IntN.{ℤ}
use lib.ListN.{length}
use Rattle.std.specs.Prelude.{Result, Ok, Err}
use Rattle.paper.specs.declared.Refusal.{Refusal}
use Rattle.paper.specs.declared.Why.TheVariants.{BadShape}
use Rattle.paper.specs.Refusals.{Answer, refused, given, refusal, ◌>>=◌}
use Rattle.paper.specs.Words.{Token}
use Rattle.paper.specs.Source.{Label, one, range}
use Rattle.paper.specs.Reading as R
use Rattle.paper.specs.Reading.{Read, ok}
use Rattle.words.specs.declared.Word.{Word}
use Rattle.words.specs.Denoted.{words_at, IsWord}
use Rattle.tree.specs.Nodes.{Same, written, word_of}
use Rattle.tree.specs.Trees.{label_at, labels_at, place_at, whole_at}
use Rattle.tree.proofs.Frames.{place_same, whole_same, labels_same}
use Rattle.tree.proofs.Forms.{put_range, put_labels}
use Rattle.expressions.specs.declared.Parsed.{Parsed}
use Rattle.expressions.specs.Reads.{Answered, Runs}
use Rattle.expressions.proofs.Tokens.{key_range, key_comma, key_colon}
use Rattle.expressions.proofs.Answers.{weaken, done, bind_bad, bind_good}
use Rattle.expressions.proofs.Reached.{further}
use Rattle.expressions.proofs.Steps.{sees_it, sees_other, passed}
use Rattle.expressions.proofs.Nodes.{both_same, put_same}
use Rattle.statements.specs.Lists.{Whole, whole_node, SignedNumberDid, LabelDid, LabelsDid}
use Rattle.statements.proofs.Runs.{made_bad, made_good, assoc, made}
use Rattle.statements.proofs.Rooms.{Spare, ended}
use Rattle.statements.proofs.Ways.{expect_bad, expect_good}
use Rattle.statements.proofs.Numbers.{plain, numbered}

-- ---- a label

one_node : (p : List ℕ) (i : ℕ) → eqb (word_of p i 0) 31 ≡ false → (c : ℕ) (v : ℤ) → whole_node p i ≡ plain c v → label_at p i ≡ one c v
one_node p i z c v e = rw z (ap₂ one (ap (λ x. x.place) e) (ap (λ x. x.value) e))

module _ (D : ℕ → Label) (t : List ℕ) (at : ℕ) (C : ℕ → Whole) where
  label_bad_says : (y : Refusal) → Runs C t at 1 0 (λ f ts. numbered ts (R.signed_number ts)) (Err y) → Runs D t at 1 0 (λ f ts. R.label ts) (Err y)
  label_bad_says y x ts h f l = made_bad D t 1 (length ts) C 1 (length ts) (R.signed_number ts) (plain (R.here ts)) _ y (x ts h f l)

  module _ (q : Parsed) (x : Runs C t at 1 0 (λ f ts. numbered ts (R.signed_number ts)) (Ok q)) (w : Word) (i : IsWord t q.at w) where
    label_one_says : (w.class ≡ 55 → ⊥) → ((c : ℕ) (v : ℤ) → C q.root ≡ plain c v → D q.root ≡ one c v) → Runs D t at 1 0 (λ f ts. R.label ts) (Ok q)
    label_one_says ec d ts h f l =
        made_good D t 1 (length ts) C 1 (length ts) (R.signed_number ts) (plain (R.here ts)) _ q (Ok q) (x ts h f l)
        (λ v us e b g. rw (sees_other t q.at w i us b ".." 55 key_range ec) (d (R.here ts) v e, b, g))

    module _ (ec : w.class ≡ 55) (B : ℕ → Whole) where
      label_half_says : (y : Refusal) → Runs B t w.end 1 0 (λ f ts. numbered ts (R.signed_number ts)) (Err y) → Runs D t at 1 0 (λ f ts. R.label ts) (Err y)
      label_half_says y z ts h f l =
          made_good D t 1 (length ts) C 1 (length ts) (R.signed_number ts) (plain (R.here ts)) _ q (Err y) (x ts h f l)
          (λ v us e b g.
          let p = passed t q.at w i us b 55 ec refl in
          let vs = R.behind us in
          rw (sees_it t q.at w i us b ".." 55 key_range ec)
          (made_bad D t 1 (length ts) B 1 (length vs) (R.signed_number vs) (plain (R.here vs)) _ y (z vs p.0 f (omega arith))))

      label_range_says : (o : Parsed) → Runs B t w.end 1 0 (λ f ts. numbered ts (R.signed_number ts)) (Ok o) → (m : ℕ)
          → D m ≡ range (C q.root).place (C q.root).value (B o.root).place (B o.root).value
          → Runs D t at 1 0 (λ f ts. R.label ts) (Ok (record { at = o.at; count = m; root = m }))
      label_range_says o z m d ts h f l =
          made_good D t 1 (length ts) C 1 (length ts) (R.signed_number ts) (plain (R.here ts)) _ q _ (x ts h f l)
          (λ v us e b g.
          let p = passed t q.at w i us b 55 ec refl in
          let vs = R.behind us in
          rw (sees_it t q.at w i us b ".." 55 key_range ec)
          (made_good D t 1 (length ts) B 1 (length vs) (R.signed_number vs) (plain (R.here vs)) _ o _ (z vs p.0 f (omega arith))
          (λ u ws k a j.
          done D t 1 (length ts) (range (R.here ts) v (R.here vs) u) ws o.at m m
          (d ∙ ap₂ (λ c b. range c.place c.value b.place b.value) e k) a (omega arith))))

module _ {t old mid : List ℕ} {at n : ℕ} where
  pub label_bad : {y : Refusal} → SignedNumberDid t old mid at n (Err y) → LabelDid t old mid at n (Err y)
  label_bad {y} A = record { within = A.0.within; same = A.0.same; runs = label_bad_says (label_at mid) t at (whole_node mid) y A.0.runs }

  module _ {a : Parsed} (A : SignedNumberDid t old mid at n (Ok a)) {w : Word} (i : IsWord t a.at w) where
    pub label_one : (w.class ≡ 55 → ⊥) → LabelDid t old mid at n (Ok a)
    label_one e =
        record { within = A.0.within; same = A.0.same; runs = label_one_says (label_at mid) t at (whole_node mid) a A.0.runs w i e (one_node mid a.root A.1) }

    module _ (e : w.class ≡ 55) {new : List ℕ} where
      pub label_half : {y : Refusal} → SignedNumberDid t mid new w.end a.count (Err y) → LabelDid t old new at n (Err y)
      label_half {y} B =
          record {
            within = omega (arith, A.0.within, i.from, i.on, B.0.within);
            same = both_same n a.count old mid new A.0.same A.0.within.more B.0.same;
            runs = label_half_says (label_at new) t at (whole_node mid) a A.0.runs w i e (whole_node new) y B.0.runs;
          }

      pub label_range : {b : Parsed} → SignedNumberDid t mid new w.end a.count (Ok b) → {last : List ℕ} → Spare t new at n b.at b.count
          → last ≡ written new (b.count + 1) 31 a.root b.root 0
          → LabelDid t old last at n (Ok (record { at = b.at; count = b.count + 1; root = b.count + 1 }))
      label_range {b} B {last} S en =
          let m = b.count + 1 in
          let l : a.root ≤ a.count = A.0.within.rooted in
          record {
            within = ended S;
            same = put_same n m 31 a.root b.root 0 old new last (both_same n a.count old mid new A.0.same A.0.within.more B.0.same) (omega (arith, S)) en;
            runs = label_range_says (label_at last) t at (whole_node mid) a A.0.runs w i e (whole_node new) b B.0.runs m
                (ap (λ p. label_at p m) en
                ∙ put_range new m a.root b.root 0 (omega arith) S.pool (omega (arith, B.0.within)) (omega (arith, B.0.within))
                ∙ ap₂ (λ p v. range p v (place_at new b.root) (whole_at new b.root)) (place_same mid new a.count a.root B.0.same l) (whole_same mid new a.count a.root B.0.same l));
          }

-- ---- labels

abbrev closed : List Label → Read (List Label) → Answer (Read (List Label))
closed xs ls = R.expect ":" ls.rest >>= λ us. ok (xs ++ ls.it) us

abbrev listed : List Label → ℕ → List Token → Answer (Read (List Label))
listed xs f ts = R.labels f ts >>= closed xs

-- behind a label, by whether a comma follows
abbrev after : ℕ → Label → List Token → Bool → Answer (Read (List Label))
after f l us b = elim b [ true ↦ (R.labels f (R.behind us) >>= λ ls. ok (l ∷ ls.it) ls.rest) | false ↦ ok (l ∷ []) us ]

labels_step_lem : (f : ℕ) (ts : List Token) → R.labels (suc f) ts ≡ (R.label ts >>= λ l. after f l.it l.rest (R.sees "," l.rest))
unfolding R.labels
labels_step_lem f ts = refl

listed_step : (xs : List Label) (f : ℕ) (ts : List Token)
    → listed xs (suc f) ts ≡ (R.label ts >>= λ l. after f l.it l.rest (R.sees "," l.rest) >>= closed xs)
listed_step xs f ts = ap (λ s. s >>= closed xs) (labels_step_lem f ts) ∙ assoc (R.label ts) (λ l. after f l.it l.rest (R.sees "," l.rest)) (closed xs)

-- one label more before the others
listed_more : (xs : List Label) (l : Label) (s : Answer (Read (List Label)))
    → (s >>= closed (xs ++ l ∷ [])) ≡ ((s >>= λ ls. ok (l ∷ ls.it) ls.rest) >>= closed xs)
listed_more xs l (refused w p) = refl
listed_more xs l (given x) = ap (λ ys. R.expect ":" x.rest >>= λ us. ok ys us) (append_assoc xs (l ∷ []) x.it)

module _ (D : ℕ → List Label) (t : List ℕ) (at : ℕ) (C : ℕ → Label) (xs : List Label) where
  labels_bad_says : (y : Refusal) → Runs C t at 1 0 (λ f ts. R.label ts) (Err y) → Runs D t at 1 0 (λ f ts. listed xs f ts) (Err y)
  labels_bad_says y x ts h zero l = absurd (omega arith)
  labels_bad_says y x ts h (suc f) l =
      rw (listed_step xs f ts) (bind_bad D t 1 (length ts) C 1 (length ts) (R.label ts) _ y (x ts h (suc f) l))

  module _ (q : Parsed) (x : Runs C t at 1 0 (λ f ts. R.label ts) (Ok q)) (w : Word) (i : IsWord t q.at w) where
    -- the label, and then what follows it
    behind_label : (r : Result Parsed Refusal) (b : Bool) → ((us : List Token) → words_at t q.at ≡ given us → R.sees "," us ≡ b)
        → ((f : ℕ) (us : List Token) → words_at t q.at ≡ given us → 16 * length us + 1 < f → Answered D t 0 (length us) (after f (C q.root) us b >>= closed xs) r)
        → Runs D t at 1 0 (λ f ts. listed xs f ts) r
    behind_label r b e y ts h zero l = absurd (omega arith)
    behind_label r b e y ts h (suc f) l =
        rw (listed_step xs f ts)
        (bind_good D t 1 (length ts) C 1 (length ts) (R.label ts) (λ l. after f l.it l.rest (R.sees "," l.rest) >>= closed xs) q r (x ts h (suc f) l)
        (λ us a g.
        subst (λ b. Answered D t 1 (length ts) (after f (C q.root) us b >>= closed xs) r) (sym (e us a))
        (weaken D t 1 (length ts) 0 (length us) (after f (C q.root) us b >>= closed xs) r (omega arith) (y f us a (omega arith)))))

    labels_none_says : (w.class ≡ 61 → ⊥) → (w.class ≡ 59 → ⊥) → Runs D t at 1 0 (λ f ts. listed xs f ts) (Err (refusal BadShape w.at))
    labels_none_says ec ed =
        behind_label _ false (λ us a. sees_other t q.at w i us a "," 61 key_comma ec)
        (λ f us a l. expect_bad D t q.at 0 1 w i ":" 59 key_colon (λ f us vs. ok (xs ++ C q.root ∷ []) vs) ed us a f l)

    labels_end_says : (m : ℕ) → w.class ≡ 59 → D m ≡ xs ++ C q.root ∷ []
        → Runs D t at 1 0 (λ f ts. listed xs f ts) (Ok (record { at = w.end; count = m; root = m }))
    labels_end_says m ed d =
        behind_label _ false (λ us a. sees_other t q.at w i us a "," 61 key_comma (λ ec. omega arith))
        (λ f us a l.
        expect_good D t q.at 0 1 w i ":" 59 key_colon (λ f us vs. ok (xs ++ C q.root ∷ []) vs) _ 0 0 ed refl (omega arith) (omega arith)
        (λ us a. made D t w.end 0 (xs ++ C q.root ∷ []) m m d) us a f l)

    labels_more_says : (r : Result Parsed Refusal) → w.class ≡ 61 → Runs D t w.end 1 0 (λ f ts. listed (xs ++ C q.root ∷ []) f ts) r → Runs D t at 1 0 (λ f ts. listed xs f ts) r
    labels_more_says r ec y =
        behind_label r true (λ us a. sees_it t q.at w i us a "," 61 key_comma ec)
        (λ f us a l.
        let p = passed t q.at w i us a 61 ec refl in
        let vs = R.behind us in
        rw (← listed_more xs (C q.root) (R.labels f vs))
        (weaken D t 0 (length us) 1 (length vs) (listed (xs ++ C q.root ∷ []) f vs) r (omega arith) (y vs p.0 f (omega arith))))

module _ {t old mid : List ℕ} {at n : ℕ} (before : ℕ) where
  pub labels_bad : {y : Refusal} → LabelDid t old mid at n (Err y) → LabelsDid t old mid at n before (Err y)
  labels_bad {y} L = record { within = L.within; same = L.same; runs = labels_bad_says (labels_at mid) t at (label_at mid) (labels_at old before) y L.runs }

  module _ {l : Parsed} (L : LabelDid t old mid at n (Ok l)) {w : Word} (i : IsWord t l.at w) where
    pub labels_none : (w.class ≡ 61 → ⊥) → (w.class ≡ 59 → ⊥) → LabelsDid t old mid at n before (Err (refusal BadShape w.at))
    labels_none e g =
        record {
          within = omega (arith, L.within, i.from, i.on, i.to);
          same = L.same;
          runs = labels_none_says (labels_at mid) t at (label_at mid) (labels_at old before) l L.runs w i e g;
        }

    -- its node, behind those of the labels before
    module _ (lb : before ≤ n) (S : Spare t mid at n w.end l.count) {new : List ℕ} (en : new ≡ written mid (l.count + 1) 32 before l.root 0) where
      has : labels_at new (l.count + 1) ≡ labels_at old before ++ label_at mid l.root ∷ []
      has =
          ap (λ p. labels_at p (l.count + 1)) en
          ∙ put_labels mid (l.count + 1) before l.root 0 (omega arith) S.pool (omega (arith, L.within)) (omega (arith, L.within))
          ∙ ap (λ xs. xs ++ label_at mid l.root ∷ []) (labels_same old mid n before L.same lb)

      stands : Same n old new
      stands = put_same n (l.count + 1) 32 before l.root 0 old mid new L.same (omega (arith, S)) en

      pub labels_end : w.class ≡ 59 → LabelsDid t old new at n before (Ok (record { at = w.end; count = l.count + 1; root = l.count + 1 }))
      labels_end e =
          record {
            within = ended S;
            same = stands;
            runs = labels_end_says (labels_at new) t at (label_at mid) (labels_at old before) l L.runs w i (l.count + 1) e has;
          }

      pub labels_more : {last : List ℕ} {r : Result Parsed Refusal} → w.class ≡ 61 → LabelsDid t new last w.end (l.count + 1) (l.count + 1) r → LabelsDid t old last at n before r
      labels_more {last} {r} e M =
          record {
            within = further _ _ _ (record { at = w.end; count = l.count + 1; root = l.count + 1 }) (ended S) r M.within;
            same = both_same n (l.count + 1) old new last stands (omega (arith, S)) M.same;
            runs = labels_more_says (labels_at last) t at (label_at mid) (labels_at old before) l L.runs w i r e (rw has at M.runs);
          }
