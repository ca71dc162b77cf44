-- Reading a type with what stands round it.
use mathlib.Core.Path.{◌≡◌, refl, sym, ap, ap₂, subst, ◌∙◌}
use mathlib.Core.Bool.{Bool, false, cond, ◌&&◌}
use mathlib.Core.List.{List}
use Prim.Native.Nat.{ℕ, zero, suc, ◌+◌, ◌*◌, ◌≤◌, ◌<◌}
use native.Mathlib.Omega.{arith}
use lib.Dec.{eqb}
use lib.ListN.{length, get_or}
use borrow.Author.Tests.{ne_eqb}
use Rattle.paper.specs.declared.Ty.{Ty}
use Rattle.paper.specs.declared.Ty.TheVariants.{Bool as BOOL}
use Rattle.paper.specs.declared.Kind.{Kind}
use Rattle.paper.specs.declared.Kind.TheVariants.{Input, Output, Other}
use Rattle.std.specs.Prelude.{None, Some, Result, Ok, Err}
use Rattle.paper.specs.declared.Refusal.{Refusal}
use Rattle.paper.specs.declared.Why.TheVariants.{BadShape}
use Rattle.paper.specs.Refusals.{Answer, given, refusal, ◌>>=◌}
use Rattle.paper.specs.Words.{Token}
use Rattle.paper.specs.Types.{tag}
use Rattle.paper.specs.Source.{Bounds, single, array, Initial}
use Rattle.paper.specs.Reading as R
use Rattle.paper.specs.Reading.{Read, ok}
use Rattle.words.specs.declared.Word.{Word}
use Rattle.words.specs.Denoted.{words_at, IsWord}
use Rattle.tree.specs.Nodes.{Same, written, word_of, child_of}
use Rattle.tree.specs.Trees.{types, place_at, wide, bounds_at, initial_at}
use Rattle.tree.proofs.Puts.{written_same}
use Rattle.tree.proofs.Frames.{bounds_same, initial_same}
use Rattle.tree.proofs.Forms.{put_place, put_first, put_second}
use Rattle.expressions.specs.declared.Parsed.{Parsed}
use Rattle.expressions.specs.Reads.{Answered, IsType, ExpectDid}
use Rattle.reader.specs.Declarations.{Typing, typing_at, typing_of, BoundsPartDid, InitialPartDid, TypingDid}
use Rattle.expressions.proofs.Nodes.{both_same}
use Rattle.expressions.proofs.Tokens.{next_of, key_semicolon}
use Rattle.expressions.proofs.Moves.{type_class}
use Rattle.expressions.proofs.Primaries.{types_tag}
use Rattle.expressions.proofs.Steps.{here}
use Rattle.expressions.proofs.Answers.{bind_bad, bind_good}
use Rattle.reader.proofs.Answers.{expect_bad, expect_good, taken_none, taken_some}
use Rattle.reader.proofs.Values.{part_of}

-- ---- whether a value may stand

values_array : (k : Kind) (p lo q hi : ℕ) → R.holds_values k (array p lo q hi) ≡ false
values_array Input p lo q hi = refl
values_array Output p lo q hi = refl
values_array Other p lo q hi = refl

-- the root of the bounds tells
may_value : (p : List ℕ) (k : Kind) (i : ℕ) → ((i ≡ 0 → ⊥) → word_of p i 0 ≡ 34) → (a : Bool)
    → (i ≡ 0 → a ≡ R.holds_values k single) → ((i ≡ 0 → ⊥) → a ≡ false) → R.holds_values k (bounds_at p i) ≡ a
may_value p k zero w a x y = sym (x refl)
may_value p k (suc i) w a x y =
    let z : suc i ≡ 0 → ⊥ = λ e. omega arith in
    let e : bounds_at p (suc i) ≡ array (place_at p (child_of p (suc i) 1)) (wide p (child_of p (suc i) 1)) (place_at p (child_of p (suc i) 2)) (wide p (child_of p (suc i) 2)) =
    ap (λ b. cond b (array (place_at p (child_of p (suc i) 1)) (wide p (child_of p (suc i) 1)) (place_at p (child_of p (suc i) 2)) (wide p (child_of p (suc i) 2))) single)
    (ap (λ v. eqb v 34) (ap (λ c. cond c 0 (word_of p (suc i) 0)) (ne_eqb (suc i) 0 z) ∙ w z)) in
    ap (R.holds_values k) e ∙ values_array k _ _ _ _ ∙ sym (y z)

-- ---- type [:= value];

-- what comes behind the value, the type and the bounds
abbrev pub behind_value : Ty → Bounds → Initial → List Token → Answer (Read Typing)
behind_value ty b v us = R.expect ";" us >>= λ s. ok (record { ty = ty; bounds = b; initial = v }) s

abbrev pub behind_type : Kind → Bounds → Ty → List Token → Answer (Read Typing)
behind_type k b ty us = R.initial_part k b us >>= λ v. behind_value ty b v.it v.rest

abbrev pub behind_bounds : Kind → Bounds → List Token → Answer (Read Typing)
behind_bounds k b us = R.taken R.a_type us >>= λ ty. behind_type k b ty.it ty.rest

module _ {t old m1 : List ℕ} {at n : ℕ} (k : Kind) where
  pub typing_1 : {y : Refusal} → BoundsPartDid t old m1 at k n (Err y) → TypingDid t old m1 at k n (Err y)
  typing_1 {y} B = (
    record {
      within = B.0.within;
      same = B.0.same;
      runs = λ ts h f l.
          bind_bad (typing_at m1) t 1 (length ts) (bounds_at m1) 0 (length ts) (R.bounds_part k ts)
          (λ x. behind_bounds k x.it x.rest) y (B.0.runs ts h f l);
    },
    tt,
  )

  module _ {b : Parsed} (B : BoundsPartDid t old m1 at k n (Ok b)) {w : Word} (i : IsWord t b.at w) where
    to_type : (D : ℕ → Typing) (r : Result Parsed Refusal) (ts : List Token) → words_at t at ≡ given ts
        → ((us : List Token) → words_at t b.at ≡ given us → length us ≤ length ts → Answered D t 1 (length ts) (behind_bounds k (bounds_at m1 b.root) us) r)
        → Answered D t 1 (length ts) (typing_of k ts) r
    to_type D r ts h g =
        bind_good D t 1 (length ts) (bounds_at m1) 0 (length ts) (R.bounds_part k ts)
        (λ x. behind_bounds k x.it x.rest) b r (B.0.runs ts h (16 * length ts + 1) (omega arith)) (λ us v l. g us v (omega arith))

    pub typing_2 : IsType w.class None → TypingDid t old m1 at k n (Err (refusal BadShape w.at))
    typing_2 z = (
      record {
        within = omega (arith, B.0.within, i.from, i.on, i.to);
        same = B.0.same;
        runs = λ ts h f l. to_type (typing_at m1) (Err (refusal BadShape w.at)) ts h
            (λ us v g.
            rw (taken_none R.a_type us (ap R.a_type (next_of t b.at us w i v).next ∙ z _ _)) (here t b.at w i us v BadShape));
      },
      tt,
    )

    module _ {a : Bool} {ty : Ty} (is : IsType w.class (Some ty)) (if-nil : b.root ≡ 0 → a ≡ R.holds_values k single) (if_some : (b.root ≡ 0 → ⊥) → a ≡ false) where
      moves : w.at < w.end
      moves = let c = type_class w.class ty is in i.moves c.0 c.1

      may : R.holds_values k (bounds_at m1 b.root) ≡ a
      may = may_value m1 k b.root B.1 a if-nil if_some

      to_value : (D : ℕ → Typing) (r : Result Parsed Refusal) (ts : List Token) → words_at t at ≡ given ts
          → ((us : List Token) → words_at t w.end ≡ given us → length us + 1 ≤ length ts
          → Answered D t 1 (length ts) (part_of (a && R.sees ":=" us) us >>= λ x. behind_value ty (bounds_at m1 b.root) x.it x.rest) r)
          → Answered D t 1 (length ts) (typing_of k ts) r
      to_value D r ts h g =
          to_type D r ts h
          (λ us v l.
          let N = next_of t b.at us w i v in
          let z = (type_class w.class ty is).1 in
          let less = N.less z in
          rw (taken_some R.a_type us ty
          (ap R.a_type N.next ∙ is _ _))
          (subst (λ c. Answered D t 1 (length ts) (part_of (c && R.sees ":=" (R.behind us)) (R.behind us) >>= λ x. behind_value ty (bounds_at m1 b.root) x.it x.rest) r)
          (sym may) (g (R.behind us) (N.behind z) (omega arith))))

      pub typing_3 : {m2 : List ℕ} {y : Refusal} → InitialPartDid t m1 m2 w.end a b.count (Err y) → TypingDid t old m2 at k n (Err y)
      typing_3 {m2} {y} J = (
        record {
          within = omega (arith, B.0.within, J.within, i.from, moves);
          same = both_same n b.count old m1 m2 B.0.same B.0.within.more J.same;
          runs = λ ts h f l. to_value (typing_at m2) (Err y) ts h
              (λ us x g.
              bind_bad (typing_at m2) t 1 (length ts) (initial_at m2) 0 (length us) (part_of (a && R.sees ":=" us) us)
              (λ x. behind_value ty (bounds_at m1 b.root) x.it x.rest) y (J.runs us x (16 * length us + 1) (omega arith)));
        },
        tt,
      )

      module _ {m2 : List ℕ} {v : Parsed} (J : InitialPartDid t m1 m2 w.end a b.count (Ok v)) where
        kept : Same n old m2
        kept = both_same n b.count old m1 m2 B.0.same B.0.within.more J.same

        to_end : (D : ℕ → Typing) (r : Result Parsed Refusal) (ts : List Token) → words_at t at ≡ given ts
            → ((us : List Token) → words_at t v.at ≡ given us → length us + 1 ≤ length ts
            → Answered D t 1 (length ts) (behind_value ty (bounds_at m1 b.root) (initial_at m2 v.root) us) r)
            → Answered D t 1 (length ts) (typing_of k ts) r
        to_end D r ts h g =
            to_value D r ts h
            (λ us x l.
            bind_good D t 1 (length ts) (initial_at m2) 0 (length us) (part_of (a && R.sees ":=" us) us)
            (λ x. behind_value ty (bounds_at m1 b.root) x.it x.rest) v r (J.runs us x (16 * length us + 1) (omega arith))
            (λ vs y m. g vs y (omega arith)))

        pub typing_4 : {y : Refusal} → ExpectDid t v.at 60 (Err y) → TypingDid t old m2 at k n (Err y)
        typing_4 {y} E = (
          record {
            within = omega (arith, B.0.within, J.within, i.from, moves, E.within);
            same = kept;
            runs = λ ts h f l. to_end (typing_at m2) (Err y) ts h (λ us x g. expect_bad E ";" key_semicolon (typing_at m2) 1 (length ts) (λ s. ok _ s) us x);
          },
          tt,
        )

        pub typing_5 : {e : ℕ} → ExpectDid t v.at 60 (Ok e) → {new : List ℕ} → 4 * (v.count + 1) + 4 ≤ length m2
            → new ≡ written m2 (v.count + 1) 30 b.root v.root (tag ty)
            → TypingDid t old new at k n (Ok (record { at = e; count = v.count + 1; root = v.count + 1 }))
        typing_5 {e} E {new} fits en =
            let N = v.count + 1 in
            let lb : b.root < N = omega (arith, B.0.within, J.within) in
            let lv : v.root < N = omega (arith, J.within) in
            let eb : bounds_at new (child_of new N 1) ≡ bounds_at m1 b.root =
            rw en (put_first m2 N 30 b.root v.root (tag ty) fits bounds_at bounds_same lb)
            ∙ bounds_same m1 m2 b.count b.root J.same B.0.within.rooted in
            let ev : initial_at new (child_of new N 2) ≡ initial_at m2 v.root =
            rw en (put_second m2 N 30 b.root v.root (tag ty) fits initial_at initial_same lv) in
            let et : word_of new N 3 ≡ tag ty = rw en (put_place m2 N 30 b.root v.root (tag ty) fits) in
            let node : typing_at new N ≡ record { ty = ty; bounds = bounds_at m1 b.root; initial = initial_at m2 v.root } =
            ap₂ (λ x y. record { ty = get_or types (word_of new N 3) BOOL; bounds = x; initial = y }) eb ev
            ∙ ap (λ x. record { ty = x; bounds = bounds_at m1 b.root; initial = initial_at m2 v.root }) (ap (λ x. get_or types x BOOL) et ∙ types_tag ty) in (
              record {
                within = omega (arith, B.0.within, J.within, i.from, moves, E.within, E.step refl refl);
                same = both_same n v.count old m2 new kept (omega (arith, B.0.within, J.within)) (rw en (written_same m2 N 30 b.root v.root (tag ty) v.count (omega arith)));
                runs = λ ts h f l. to_end (typing_at new) _ ts h
                    (λ us x g. expect_good E ";" key_semicolon (typing_at new) 1 (length ts) (λ s. ok _ s) us x _ (λ vs y m. (node, y, omega arith)));
              },
              omega (arith, B.0.within, J.within, i.from, moves, E.within, E.step refl refl),
            )
