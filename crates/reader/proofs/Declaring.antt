-- Reading a declaration: names, and what they share.
use mathlib.Core.Path.{◌≡◌, refl, sym, ap, subst, ◌∙◌, fun_ext}
use mathlib.Core.List.{List, ◌++◌}
use Prim.Native.Nat.{ℕ, ◌+◌, ◌*◌, ◌≤◌, ◌<◌}
use native.Mathlib.Omega.{arith}
use lib.ListN.{length, get_or}
use denote.Enum.Declared.{tag_of}
use Rattle.paper.specs.contracts.Kind.{the_type}
use Rattle.paper.specs.declared.Kind.{Kind}
use Rattle.paper.specs.declared.Kind.TheVariants.{Input, Output, Other}
use Rattle.std.specs.Prelude.{Result, Ok, Err}
use Rattle.paper.specs.declared.Refusal.{Refusal}
use Rattle.paper.specs.Refusals.{Answer, given, ◌>>=◌}
use Rattle.paper.specs.Words.{Token}
use Rattle.paper.specs.Source.{Named, Declared}
use Rattle.paper.specs.Reading as R
use Rattle.paper.specs.Reading.{Read, ok}
use Rattle.words.specs.Denoted.{words_at}
use Rattle.tree.specs.Nodes.{written}
use Rattle.tree.specs.Trees.{kinds, names_at, declaration_at}
use Rattle.tree.proofs.Puts.{written_same}
use Rattle.tree.proofs.Frames.{names_same, names_nil}
use Rattle.tree.proofs.Forms.{put_declaration}
use Rattle.expressions.specs.declared.Parsed.{Parsed}
use Rattle.expressions.specs.Reads.{Answered, ExpectDid}
use Rattle.reader.specs.Declarations.{Typing, typing_at, typing_of, TypingDid, NamesDid, DeclarationDid}
use Rattle.expressions.proofs.Nodes.{both_same}
use Rattle.expressions.proofs.Tokens.{key_colon}
use Rattle.expressions.proofs.Answers.{bind_bad, bind_good}
use Rattle.statements.proofs.Runs.{assoc, made_bad, made_good}
use Rattle.reader.proofs.Answers.{expect_bad, expect_good}
use Rattle.reader.proofs.Typings.{behind_value, behind_type, behind_bounds}

abbrev declare_of : Kind → List Named → Typing → List Declared
declare_of k ns y = R.declare k y.ty y.bounds y.initial ns

-- behind the colon it is the type's part
abbrev behind_colon : Kind → List Named → List Token → Answer (Read (List Declared))
behind_colon k ns us = typing_of k us >>= λ y. ok (declare_of k ns y.it) y.rest

abbrev behind_names : Kind → List Named → List Token → Answer (Read (List Declared))
behind_names k ns us = R.expect ":" us >>= λ vs. behind_colon k ns vs

module _ (k : Kind) (ns : List Named) where
  abbrev last : Read Typing → Answer (Read (List Declared))
  last y = ok (declare_of k ns y.it) y.rest

  flat : (us : List Token)
      → (R.bounds_part k us >>= λ b. R.taken R.a_type b.rest >>= λ ty. R.initial_part k b.it ty.rest >>= λ v. R.expect ";" v.rest >>= λ s.
      ok (R.declare k ty.it b.it v.it ns) s) ≡ behind_colon k ns us
  flat us =
      sym
      (assoc (R.bounds_part k us) (λ b. behind_bounds k b.it b.rest) last
      ∙ ap (λ h. R.bounds_part k us >>= h) (fun_ext (λ b.
      assoc (R.taken R.a_type b.rest) (λ ty. behind_type k b.it ty.it ty.rest) last
      ∙ ap (λ h. R.taken R.a_type b.rest >>= h) (fun_ext (λ ty.
      assoc (R.initial_part k b.it ty.rest) (λ v. behind_value ty.it b.it v.it v.rest) last
      ∙ ap (λ h. R.initial_part k b.it ty.rest >>= h) (fun_ext (λ v.
      assoc (R.expect ";" v.rest) (λ s. ok (record { ty = ty.it; bounds = b.it; initial = v.it }) s) last)))))))

declaration_is : (f : ℕ) (k : Kind) (ts : List Token) → R.declaration f k ts ≡ (R.names f ts >>= λ ns. behind_names k ns.it ns.rest)
unfolding R.declaration
declaration_is f k ts =
    ap (λ h. R.names f ts >>= h) (fun_ext (λ ns. ap (λ h. R.expect ":" ns.rest >>= h) (fun_ext (λ us. flat k ns.it us))))

-- a kind's place among the three
kind_number : (k : Kind) → get_or kinds (tag_of the_type k) Other ≡ k
kind_number Input = refl
kind_number Output = refl
kind_number Other = refl

module _ {t old m1 : List ℕ} {at n : ℕ} (k : Kind) where
  pub declaration_1 : {y : Refusal} → NamesDid t old m1 at n 0 (Err y) → DeclarationDid t old m1 at k n (Err y)
  declaration_1 {y} Q = (
    record {
      within = Q.within;
      same = Q.same;
      runs = λ ts h f l. rw (declaration_is f k ts)
          (made_bad (declaration_at t m1) t 1 (length ts) (names_at t m1) 1 (length ts) (R.names f ts) (λ x. names_at t old 0 ++ x)
          (λ ns. behind_names k ns.it ns.rest) y (Q.runs ts h f (omega arith)));
    },
    tt,
  )

  module _ {q : Parsed} (Q : NamesDid t old m1 at n 0 (Ok q)) where
    to_colon : (D : ℕ → List Declared) (r : Result Parsed Refusal) (ts : List Token) → words_at t at ≡ given ts → (f : ℕ) → 16 * length ts + 1 < f
        → ((us : List Token) → words_at t q.at ≡ given us → length us + 1 ≤ length ts → Answered D t 1 (length ts) (behind_names k (names_at t m1 q.root) us) r)
        → Answered D t 1 (length ts) (R.declaration f k ts) r
    to_colon D r ts h f l g =
        rw (declaration_is f k ts)
        (made_good D t 1 (length ts) (names_at t m1) 1 (length ts) (R.names f ts) (λ x. names_at t old 0 ++ x)
        (λ ns. behind_names k ns.it ns.rest) q r (Q.runs ts h f (omega arith))
        (λ ns us x w m. subst (λ y. Answered D t 1 (length ts) (behind_names k y us) r) (x ∙ ap (λ y. y ++ ns) (names_nil t old)) (g us w m)))

    pub declaration_2 : {y : Refusal} → ExpectDid t q.at 59 (Err y) → DeclarationDid t old m1 at k n (Err y)
    declaration_2 {y} C = (
      record {
        within = omega (arith, Q.within, C.within);
        same = Q.same;
        runs = λ ts h f l. to_colon (declaration_at t m1) (Err y) ts h f l
            (λ us w g. expect_bad C ":" key_colon (declaration_at t m1) 1 (length ts) (behind_colon k (names_at t m1 q.root)) us w);
      },
      tt,
    )

    module _ {c : ℕ} (C : ExpectDid t q.at 59 (Ok c)) where
      to_typing : (D : ℕ → List Declared) (r : Result Parsed Refusal) (ts : List Token) → words_at t at ≡ given ts → (f : ℕ) → 16 * length ts + 1 < f
          → ((us : List Token) → words_at t c ≡ given us → length us + 1 ≤ length ts → Answered D t 1 (length ts) (behind_colon k (names_at t m1 q.root) us) r)
          → Answered D t 1 (length ts) (R.declaration f k ts) r
      to_typing D r ts h f l g =
          to_colon D r ts h f l
          (λ us w m. expect_good C ":" key_colon D 1 (length ts) (behind_colon k (names_at t m1 q.root)) us w r (λ vs x o. g vs x (omega arith)))

      pub declaration_3 : {m2 : List ℕ} {y : Refusal} → TypingDid t m1 m2 c k q.count (Err y) → DeclarationDid t old m2 at k n (Err y)
      declaration_3 {m2} {y} Y = (
        record {
          within = omega (arith, Q.within, C.within, Y.0.within);
          same = both_same n q.count old m1 m2 Q.same Q.within.more Y.0.same;
          runs = λ ts h f l. to_typing (declaration_at t m2) (Err y) ts h f l
              (λ us w g.
              bind_bad (declaration_at t m2) t 1 (length ts) (typing_at m2) 1 (length us) (typing_of k us)
              (λ x. ok (declare_of k (names_at t m1 q.root) x.it) x.rest) y (Y.0.runs us w (16 * length us + 1) (omega arith)));
        },
        tt,
      )

      pub declaration_4 : {m2 : List ℕ} {y : Parsed} → TypingDid t m1 m2 c k q.count (Ok y) → {new : List ℕ} → 4 * (y.count + 1) + 4 ≤ length m2
          → new ≡ written m2 (y.count + 1) 38 q.root y.root (tag_of the_type k)
          → DeclarationDid t old new at k n (Ok (record { at = y.at; count = y.count + 1; root = y.count + 1 }))
      declaration_4 {m2} {y} Y {new} fits en =
          let N = y.count + 1 in
          let lq : q.root < N = omega (arith, Q.within, Y.0.within) in
          let ly : y.root < N = omega (arith, Y.0.within) in
          let node : declaration_at t new N ≡ declare_of k (names_at t m1 q.root) (typing_at m2 y.root) =
          rw en
          (put_declaration t m2 N q.root y.root (tag_of the_type k) (omega arith) fits lq ly
          ∙ ap (λ x. R.declare x (typing_at m2 y.root).ty (typing_at m2 y.root).bounds (typing_at m2 y.root).initial (names_at t m2 q.root)) (kind_number k)
          ∙ ap (λ ns. declare_of k ns (typing_at m2 y.root)) (names_same t m1 m2 q.count q.root Y.0.same Q.within.rooted)) in (
            record {
              within = omega (arith, Q.within, C.within, C.step refl refl, Y.0.within, Y.1);
              same = both_same n y.count old m2 new (both_same n q.count old m1 m2 Q.same Q.within.more Y.0.same) (omega (arith, Q.within, Y.0.within))
                  (rw en (written_same m2 N 38 q.root y.root (tag_of the_type k) y.count (omega arith)));
              runs = λ ts h f l. to_typing (declaration_at t new) _ ts h f l
                  (λ us w g.
                  bind_good (declaration_at t new) t 1 (length ts) (typing_at m2) 1 (length us) (typing_of k us)
                  (λ x. ok (declare_of k (names_at t m1 q.root) x.it) x.rest) y _
                  (Y.0.runs us w (16 * length us + 1) (omega arith)) (λ vs x m. (node, x, omega arith)));
            },
            omega (arith, Q.within, C.within, C.step refl refl, Y.0.within, Y.1),
          )
