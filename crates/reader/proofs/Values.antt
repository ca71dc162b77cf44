-- Reading a declared value.
use mathlib.Core.Path.{◌≡◌, refl, sym, ap, ap₂, subst, ◌∙◌}
use mathlib.Core.Bool.{Bool, true, false, cond, ◌&&◌}
use mathlib.Core.Option.{none, some}
use mathlib.Core.List.{List}
use Prim.Native.Nat.{ℕ, ◌+◌, ◌*◌, ◌≤◌, ◌<◌}
use native.Mathlib.Omega.{arith}
use lib.Dec.{eqb}
use lib.ListN.{length}
use borrow.Author.Tests.{eq-eqb, ne_eqb, eqb-true}
use Rattle.std.specs.Prelude.{Result, Ok, Err}
use Rattle.paper.specs.declared.Refusal.{Refusal}
use Rattle.paper.specs.Refusals.{Answer, given, ◌>>=◌}
use Rattle.paper.specs.Words.{Token}
use Rattle.paper.specs.Source as S
use Rattle.paper.specs.Source.{Initial}
use Rattle.paper.specs.Reading as R
use Rattle.paper.specs.Reading.{Read, ok}
use Rattle.words.specs.declared.Word.{Word}
use Rattle.words.specs.Denoted.{words_at, folded, IsWord}
use Rattle.tree.specs.Nodes.{Same, written}
use Rattle.tree.specs.Trees.{initial_at}
use Rattle.tree.proofs.Puts.{written_same}
use Rattle.tree.proofs.Forms.{put_flag, put_value}
use Rattle.expressions.specs.declared.Parsed.{Parsed}
use Rattle.expressions.specs.Reads.{Answered, Did, Room}
use Rattle.statements.specs.Lists.{Whole, whole_node, SignedNumberDid}
use Rattle.reader.specs.Declarations.{InitialDid, InitialPartDid}
use Rattle.expressions.proofs.Nodes.{both_same}
use Rattle.expressions.proofs.Tokens.{Next, next_of, truth_class, key_becomes}
use Rattle.expressions.proofs.Answers.{weaken}
use Rattle.expressions.proofs.Moves.{class_moves}
use Rattle.expressions.proofs.Reached.{later}
use Rattle.statements.proofs.Runs.{made_bad, made_good}
use Rattle.reader.proofs.Answers.{sees_class, leafed, stay}
use Rattle.reader.proofs.Bounds.{and_false}

module _ (p : ℕ) (ts : List Token) where
  flag_next : (v : Bool) → R.a_truth (R.next ts) ≡ some v → R.initial_of p ts ≡ ok (S.flag p v) (R.behind ts)
  flag_next v h = rw (h, R.initial_of)

  value_next : R.a_truth (R.next ts) ≡ none → R.initial_of p ts ≡ (R.signed_number ts >>= λ z. ok (S.value p (R.here ts) z.it) z.rest)
  value_next h = rw (h, R.initial_of)

truth_is : (t : List ℕ) (ts : List Token) (w : Word) → Next t ts w
    → R.a_truth (R.next ts) ≡ cond (eqb w.class 33) (some true) (cond (eqb w.class 34) (some false) none)
truth_is t ts w N = ap R.a_truth N.next ∙ truth_class w.class w.value (folded t w.at w.end)

flag_class : (v : Bool) (c : ℕ) → c ≡ cond v 33 34 → cond (eqb c 33) (some true) (cond (eqb c 34) (some false) none) ≡ some v
flag_class true c h = rw h
flag_class false c h = rw h

flag_moves : (v : Bool) (t : List ℕ) (at : ℕ) (w : Word) → IsWord t at w → w.class ≡ cond v 33 34 → w.at < w.end
flag_moves true t at w i h = class_moves t at w i 33 h refl refl
flag_moves false t at w i h = class_moves t at w i 34 h refl refl

flag_word : (v : Bool) (c : ℕ) → c ≡ cond v 33 34 → eqb c 0 ≡ false
flag_word true c h = rw h
flag_word false c h = rw h

-- TRUE or FALSE
pub initial_flag : {t old new : List ℕ} {at n p : ℕ} {w : Word} (v : Bool) → IsWord t at w → w.class ≡ cond v 33 34 → 4 * (n + 1) + 4 ≤ length old
    → new ≡ written old (n + 1) (cond v 37 36) 0 0 p → InitialDid t old new at n p (Ok (record { at = w.end; count = n + 1; root = n + 1 }))
initial_flag {t} {old} {new} {at} {n} {p} {w} v i h fits en =
    record { within = omega (arith, D.within); same = D.same; runs = λ ts g. D.runs ts g (16 * length ts + 1) (omega arith) }
  where
    kept : Same n old new
    kept = rw en (written_same old (n + 1) (cond v 37 36) 0 0 p n (omega arith))

    node : initial_at new (n + 1) ≡ S.flag p v
    node = rw en (put_flag old (n + 1) 0 0 p (omega arith) fits v)

    D : Did initial_at t old new at n 1 0 (λ f ts. R.initial_of p ts) (Ok (record { at = w.end; count = n + 1; root = n + 1 }))
    D =
        leafed i (flag_moves v t at w i h) (flag_word v w.class h) kept
        (λ ts f l g N. flag_next p ts v (truth_is t ts w N ∙ flag_class v w.class h) ∙ ap (λ x. ok x (R.behind ts)) (sym node))

-- a number
module _ {t : List ℕ} {at : ℕ} (p : ℕ) {w : Word} (i : IsWord t at w) (no_true : w.class ≡ 33 → ⊥) (no_false : w.class ≡ 34 → ⊥) where
  no_truth : (ts : List Token) → words_at t at ≡ given ts → R.initial_of p ts ≡ (R.signed_number ts >>= λ z. ok (S.value p (R.here ts) z.it) z.rest)
  no_truth ts h =
      value_next p ts
      (truth_is t ts w (next_of t at ts w i h)
      ∙ ap₂ (λ a b. cond a (some true) (cond b (some false) none)) (ne_eqb w.class 33 no_true) (ne_eqb w.class 34 no_false))

module _ {t old mid : List ℕ} {at n : ℕ} (p : ℕ) {w : Word} (some_at : 0 < at) (i : IsWord t at w) (no_true : w.class ≡ 33 → ⊥) (no_false : w.class ≡ 34 → ⊥) where
  pub initial_bad : {y : Refusal} → SignedNumberDid t old mid at n (Err y) → InitialDid t old mid at n p (Err y)
  initial_bad {y} Z =
      record {
        within = omega (arith, Z.0.within);
        same = Z.0.same;
        runs = λ ts g. rw (no_truth p i no_true no_false ts g)
            (made_bad (initial_at mid) t 1 (length ts) (whole_node mid) 1 (length ts) (R.signed_number ts) (λ b. record { place = R.here ts; value = b }) _ y
            (Z.0.runs ts g (16 * length ts + 1) (omega arith)));
      }

  pub initial_good : {z : Parsed} → SignedNumberDid t old mid at n (Ok z) → {new : List ℕ} → 4 * (z.count + 1) + 4 ≤ length mid → new ≡ written mid (z.count + 1) 35 z.root 0 p
      → InitialDid t old new at n p (Ok (record { at = z.at; count = z.count + 1; root = z.count + 1 }))
  initial_good {z} Z {new} fits en =
      let N = z.count + 1 in
      let node : initial_at new N ≡ S.value p (whole_node mid z.root).place (whole_node mid z.root).value =
      rw en (put_value mid N z.root 0 p (omega arith) fits (omega (arith, Z.0.within))) in
      record {
        within = omega (arith, Z.0.within);
        same = both_same n z.count old mid new Z.0.same Z.0.within.more (rw en (written_same mid N 35 z.root 0 p z.count (omega arith)));
        runs = λ ts g. rw (no_truth p i no_true no_false ts g)
            (made_good (initial_at new) t 1 (length ts) (whole_node mid) 1 (length ts) (R.signed_number ts) (λ b. record { place = R.here ts; value = b })
            (λ z. ok (S.value p (R.here ts) z.it) z.rest) z _
            (Z.0.runs ts g (16 * length ts + 1) (omega arith))
            (λ b us x v l. (node ∙ ap (λ (y : Whole). S.value p y.place y.value) x, v, l)));
      }

-- ---- if one comes next

abbrev pub part_of : Bool → List Token → Answer (Read Initial)
part_of b ts = elim b [ true ↦ R.initial_of (R.here ts) (R.behind ts) | false ↦ ok Initial.nothing ts ]

module _ {t old : List ℕ} {at n : ℕ} {allowed : Bool} {w : Word} (room : Room t old at n) (i : IsWord t at w) where
  pub initial_some : {new : List ℕ} {r : Result Parsed Refusal} → allowed ≡ true → w.class ≡ 54 → InitialDid t old new w.end n w.at r → InitialPartDid t old new at allowed n r
  initial_some {new} {r} ea ec I =
      let moves = class_moves t at w i 54 ec refl refl in
      record {
        within = later _ _ _ _ (omega (arith, i.from, moves)) r I.within;
        same = I.same;
        runs = λ ts h f l.
            let N = next_of t at ts w i h in
            let less = N.less (rw ec refl) in
            let b : (allowed && R.sees ":=" ts) ≡ true = ap₂ (λ x y. x && y) ea (sees_class ":=" 54 key_becomes t ts w N ∙ eq-eqb w.class 54 ec) in
            let e : part_of (allowed && R.sees ":=" ts) ts ≡ R.initial_of w.at (R.behind ts) = ap (λ x. part_of x ts) b ∙ ap (λ x. R.initial_of x (R.behind ts)) N.here in
            subst (λ a. Answered (initial_at new) t 0 (length ts) a r) (sym e)
            (weaken (initial_at new) t 0 (length ts) 1 (length (R.behind ts)) (R.initial_of w.at (R.behind ts)) r (omega arith) (I.runs (R.behind ts) (N.behind (rw ec refl))));
      }

  pub initial_none : (allowed ≡ true → w.class ≡ 54 → ⊥) → InitialPartDid t old old at allowed n (Ok (record { at = at; count = n; root = 0 }))
  initial_none h =
      stay room i (omega arith)
      (λ ts f l N.
      ap (λ x. part_of x ts)
      (and_false allowed (R.sees ":=" ts) (λ a b. h a (eqb-true w.class 54 (sym (sees_class ":=" 54 key_becomes t ts w N) ∙ b)))))
