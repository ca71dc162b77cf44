-- Reading an array's bounds.
use mathlib.Core.Path.{◌≡◌, refl, ap, ap₂, subst, ◌∙◌}
use mathlib.Core.Bool.{Bool, true, false, ◌&&◌}
use mathlib.Core.List.{List}
use Prim.Native.Nat.{ℕ, ◌+◌, ◌*◌, ◌≤◌, ◌<◌}
use native.Mathlib.Omega.{arith}
use lib.Dec.{eqb}
use lib.ListN.{length}
use borrow.Author.Tests.{eq-eqb, eqb-true}
use Rattle.paper.specs.declared.Kind.{Kind}
use Rattle.std.specs.Prelude.{Result, Ok, Err, MatchResult}
use Rattle.std.proofs.lemmas.Result.{IfOk-weaker}
use Rattle.paper.specs.declared.Refusal.{Refusal}
use Rattle.paper.specs.Refusals.{Answer, given, ◌>>=◌}
use Rattle.paper.specs.Words.{Token}
use Rattle.paper.specs.Source.{Bounds, array}
use Rattle.paper.specs.Reading as R
use Rattle.paper.specs.Reading.{Read, ok}
use Rattle.words.specs.declared.Word.{Word}
use Rattle.words.specs.Denoted.{words_at, IsWord}
use Rattle.tree.specs.Nodes.{Same, written}
use Rattle.tree.specs.Trees.{bounds_at}
use Rattle.tree.proofs.Puts.{written_same, written_word0}
use Rattle.tree.proofs.Frames.{Framed, place_same, wide_same}
use Rattle.tree.proofs.Forms.{put_bounds}
use Rattle.expressions.specs.declared.Parsed.{Parsed}
use Rattle.expressions.specs.Reads.{Between, Answered, Room, ExpectDid}
use Rattle.reader.specs.Declarations.{Natural, natural_at, NumberDid, ArrayEndDid, ArrayBoundsDid, BoundsPartDid}
use Rattle.expressions.proofs.Nodes.{both_same}
use Rattle.expressions.proofs.Tokens.{Next, next_of, key_square, key_square_end, key_range, key_of_lem, key_array}
use Rattle.expressions.proofs.Reached.{later}
use Rattle.expressions.proofs.Answers.{weaken, pass_bad, pass_good}
use Rattle.statements.proofs.Runs.{assoc}
use Rattle.reader.proofs.Answers.{expect_bad, expect_good, both_bad, both_good, both_less, sees_class, stay}
use Rattle.reader.proofs.Naming.{number_then_bad, number_then_good}

-- ---- ] OF

pub end_bad : {t : List ℕ} {at : ℕ} {y : Refusal} → ExpectDid t at 65 (Err y) → ArrayEndDid t at (Err y)
end_bad {t} {at} {y} E =
    record { within = E.within; step = tt; taken = λ ts h. both_bad t (R.expect "]" ts) (λ us. R.expect "OF" us) y (E.taken ts h "]" key_square_end) }

pub end_good : {t : List ℕ} {at p : ℕ} {r : Result ℕ Refusal} → ExpectDid t at 65 (Ok p) → ExpectDid t p 10 r → ArrayEndDid t at r
end_good {t} {at} {p} {r} E F =
    record {
      within = on_to r F.within;
      step = IfOk-weaker r _ _ (λ q x. omega (arith, E.within, x)) (F.step refl refl);
      taken = λ ts h.
          both_good t (R.expect "]" ts) (λ us. R.expect "OF" us) p r (E.taken ts h "]" key_square_end) (λ us w. F.taken us w "OF" key_of_lem);
    }
  where
    on_to : (r : Result ℕ Refusal) → MatchResult r (Between p (length t)) (λ y. Between p (length t) y.place) → MatchResult r (Between at (length t)) (λ y. Between at (length t) y.place)
    on_to (Ok q) x = omega (arith, E.within, x)
    on_to (Err y) x = omega (arith, E.within, x)

-- ---- [lo..hi] OF

natural_same : Framed natural_at
natural_same old new n i h l = ap₂ (λ p x. record { place = p; value = x }) (place_same old new n i h l) (wide_same old new n i h l)

abbrev array_of : Natural → Natural → Bounds
array_of x y = array x.place x.value y.place y.value

-- what comes behind the second number, the `..`, the first number and the `[`
abbrev behind_hi : Natural → Natural → List Token → Answer (Read Bounds)
behind_hi x y vs = R.expect "]" vs >>= λ close. R.expect "OF" close >>= λ of. ok (array_of x y) of

abbrev behind_to : Natural → List Token → Answer (Read Bounds)
behind_to x us = R.taken R.a_number us >>= λ hi. behind_hi x (record { place = R.here us; value = hi.it }) hi.rest

abbrev behind_lo : Natural → List Token → Answer (Read Bounds)
behind_lo x us = R.expect ".." us >>= λ to. behind_to x to

abbrev behind_open : List Token → Answer (Read Bounds)
behind_open us = R.taken R.a_number us >>= λ lo. behind_lo (record { place = R.here us; value = lo.it }) lo.rest

module _ {t old : List ℕ} {at n : ℕ} (room : Room t old at n) where
  pub array_1 : {y : Refusal} → ExpectDid t at 64 (Err y) → ArrayBoundsDid t old old at n (Err y)
  array_1 O = (
    record {
      within = O.within;
      same = λ j l. refl;
      runs = λ ts h f l. expect_bad O "[" key_square (bounds_at old) 1 (length ts) behind_open ts h;
    },
    tt,
  )

  module _ {o : ℕ} (O : ExpectDid t at 64 (Ok o)) where
    -- up to the first number
    to_lo : (D : ℕ → Bounds) (r : Result Parsed Refusal) (ts : List Token) → words_at t at ≡ given ts
        → ((us : List Token) → words_at t o ≡ given us → length us ≤ length ts → Answered D t 1 (length ts) (behind_open us) r)
        → Answered D t 1 (length ts) (R.bounds_of ts) r
    to_lo D r ts h g = expect_good O "[" key_square D 1 (length ts) behind_open ts h r g

    pub array_2 : {m1 : List ℕ} {y : Refusal} → NumberDid t old m1 o n (Err y) → ArrayBoundsDid t old m1 at n (Err y)
    array_2 {m1} {y} L = (
      record {
        within = omega (arith, O.within, O.step refl refl, L.within);
        same = L.same;
        runs = λ ts h f l. to_lo (bounds_at m1) (Err y) ts h (λ us w g. number_then_bad (bounds_at m1) 1 (length ts) behind_lo us w L);
      },
      tt,
    )

    module _ {m1 : List ℕ} {lo : Parsed} (L : NumberDid t old m1 o n (Ok lo)) where
      -- up to the `..`
      to_range : (D : ℕ → Bounds) (r : Result Parsed Refusal) (ts : List Token) → words_at t at ≡ given ts
          → ((us : List Token) → words_at t lo.at ≡ given us → length us + 1 ≤ length ts → Answered D t 1 (length ts) (behind_lo (natural_at m1 lo.root) us) r)
          → Answered D t 1 (length ts) (R.bounds_of ts) r
      to_range D r ts h g =
          to_lo D r ts h (λ us w l. number_then_good D 1 (length ts) behind_lo us w L r (λ vs v m. g vs v (omega arith)))

      pub array_3 : {y : Refusal} → ExpectDid t lo.at 55 (Err y) → ArrayBoundsDid t old m1 at n (Err y)
      array_3 {y} X = (
        record {
          within = omega (arith, O.within, L.within, X.within);
          same = L.same;
          runs = λ ts h f l. to_range (bounds_at m1) (Err y) ts h (λ us w g. expect_bad X ".." key_range (bounds_at m1) 1 (length ts) (behind_to _) us w);
        },
        tt,
      )

      module _ {d : ℕ} (X : ExpectDid t lo.at 55 (Ok d)) where
        to_hi : (D : ℕ → Bounds) (r : Result Parsed Refusal) (ts : List Token) → words_at t at ≡ given ts
            → ((us : List Token) → words_at t d ≡ given us → length us + 1 ≤ length ts → Answered D t 1 (length ts) (behind_to (natural_at m1 lo.root) us) r)
            → Answered D t 1 (length ts) (R.bounds_of ts) r
        to_hi D r ts h g =
            to_range D r ts h (λ us w l. expect_good X ".." key_range D 1 (length ts) (behind_to _) us w r (λ vs v m. g vs v (omega arith)))

        pub array_4 : {m2 : List ℕ} {y : Refusal} → NumberDid t m1 m2 d lo.count (Err y) → ArrayBoundsDid t old m2 at n (Err y)
        array_4 {m2} {y} H = (
          record {
            within = omega (arith, O.within, L.within, X.within, H.within);
            same = both_same n lo.count old m1 m2 L.same L.within.more H.same;
            runs = λ ts h f l. to_hi (bounds_at m2) (Err y) ts h (λ us w g. number_then_bad (bounds_at m2) 1 (length ts) (behind_hi _) us w H);
          },
          tt,
        )

        module _ {m2 : List ℕ} {hi : Parsed} (H : NumberDid t m1 m2 d lo.count (Ok hi)) where
          kept : Same n old m2
          kept = both_same n lo.count old m1 m2 L.same L.within.more H.same

          to_end : (D : ℕ → Bounds) (r : Result Parsed Refusal) (ts : List Token) → words_at t at ≡ given ts
              → ((us : List Token) → words_at t hi.at ≡ given us → length us + 1 ≤ length ts
              → Answered D t 1 (length ts) ((R.expect "]" us >>= λ c. R.expect "OF" c) >>= λ of. ok (array_of (natural_at m1 lo.root) (natural_at m2 hi.root)) of) r)
              → Answered D t 1 (length ts) (R.bounds_of ts) r
          to_end D r ts h g =
              to_hi D r ts h (λ us w l. number_then_good D 1 (length ts) (behind_hi _) us w H r
              (λ vs v m. subst (λ a. Answered D t 1 (length ts) a r) (assoc (R.expect "]" vs) _ _) (g vs v (omega arith))))

          pub array_5 : {y : Refusal} → ArrayEndDid t hi.at (Err y) → ArrayBoundsDid t old m2 at n (Err y)
          array_5 {y} E = (
            record {
              within = omega (arith, O.within, L.within, X.within, H.within, E.within);
              same = kept;
              runs = λ ts h f l. to_end (bounds_at m2) (Err y) ts h (λ us w g. pass_bad (bounds_at m2) t 1 (length ts) (R.expect "]" us >>= λ c. R.expect "OF" c) (λ of. ok _ of) y (E.taken us w));
            },
            tt,
          )

          pub array_6 : {e : ℕ} → ArrayEndDid t hi.at (Ok e) → {new : List ℕ} → 4 * (hi.count + 1) + 4 ≤ length m2 → new ≡ written m2 (hi.count + 1) 34 lo.root hi.root 0
              → ArrayBoundsDid t old new at n (Ok (record { at = e; count = hi.count + 1; root = hi.count + 1 }))
          array_6 {e} E {new} fits en =
              let N = hi.count + 1 in
              let low : lo.root < N = omega (arith, L.within, H.within) in
              let high : hi.root < N = omega (arith, H.within) in
              let node : bounds_at new N ≡ array_of (natural_at m1 lo.root) (natural_at m2 hi.root) =
              rw en
              (put_bounds m2 N lo.root hi.root 0 (omega arith) fits low high
              ∙ ap (λ x. array_of x (natural_at m2 hi.root)) (natural_same m1 m2 lo.count lo.root H.same L.within.rooted)) in (
                record {
                  within = omega (arith, O.within, O.step refl refl, L.within, X.within, X.step refl refl, H.within, E.within, E.step);
                  same = both_same n hi.count old m2 new kept (omega (arith, L.within, H.within)) (rw en (written_same m2 N 34 lo.root hi.root 0 hi.count (omega arith)));
                  runs = λ ts h f l.
                      to_end (bounds_at new) _ ts h
                      (λ us w g. pass_good (bounds_at new) t 1 (length ts) (R.expect "]" us >>= λ c. R.expect "OF" c) (λ of. ok _ of) e _ (E.taken us w)
                      (λ vs x v. (node, v, omega (arith, both_less "]" "OF" us vs x))));
                },
                rw en (written_word0 m2 N 34 lo.root hi.root 0 fits),
              )

-- ---- if they come next

pub and_false : (a b : Bool) → (a ≡ true → b ≡ true → ⊥) → (a && b) ≡ false
and_false true true h = absurd (h refl refl)
and_false true false h = refl
and_false false b h = refl

module _ (k : Kind) (ts : List Token) where
  part_some : (R.holds_arrays k && R.sees "ARRAY" ts) ≡ true → R.bounds_part k ts ≡ R.bounds_of (R.behind ts)
  part_some h = rw (h, R.bounds_part)

  part_none : (R.holds_arrays k && R.sees "ARRAY" ts) ≡ false → R.bounds_part k ts ≡ ok Bounds.single ts
  part_none h = rw (h, R.bounds_part)

module _ {t old : List ℕ} {at n : ℕ} (k : Kind) {w : Word} (room : Room t old at n) (i : IsWord t at w) where
  asked : (ts : List Token) → Next t ts w → (R.holds_arrays k && R.sees "ARRAY" ts) ≡ (R.holds_arrays k && eqb w.class 9)
  asked ts N = ap (λ b. R.holds_arrays k && b) (sees_class "ARRAY" 9 key_array t ts w N)

  pub bounds_some : {new : List ℕ} {r : Result Parsed Refusal} → R.holds_arrays k ≡ true → w.class ≡ 9 → ArrayBoundsDid t old new w.end n r → BoundsPartDid t old new at k n r
  bounds_some {new} {r} ek ec B = (
    record {
      within = later _ _ _ _ (omega (arith, i.from, i.on)) r B.0.within;
      same = B.0.same;
      runs = λ ts h f l.
          let N = next_of t at ts w i h in
          let less = N.less (rw ec refl) in
          rw (part_some k ts (asked ts N ∙ ap₂ (λ a b. a && b) ek (eq-eqb w.class 9 ec)))
          (weaken (bounds_at new) t 0 (length ts) 1 (length (R.behind ts)) (R.bounds_of (R.behind ts)) r (omega arith) (B.0.runs (R.behind ts) (N.behind (rw ec refl)) f (omega arith)));
    },
    IfOk-weaker r _ _ (λ q x z. x) B.1,
  )

  pub bounds_none : (R.holds_arrays k ≡ true → w.class ≡ 9 → ⊥) → BoundsPartDid t old old at k n (Ok (record { at = at; count = n; root = 0 }))
  bounds_none h = (
    stay room i (omega arith)
        (λ ts f l N. part_none k ts (asked ts N ∙ and_false _ _ (λ a b. h a (eqb-true w.class 9 b)))),
    λ x. absurd (x refl),
  )
