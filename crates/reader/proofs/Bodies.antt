-- Reading the program behind its name, up to END_PROGRAM.
use mathlib.Core.Path.{◌≡◌, refl, ap, subst, ◌∙◌}
use mathlib.Core.List.{List, ◌++◌}
use Prim.Native.Nat.{ℕ, ◌+◌, ◌*◌, ◌≤◌, ◌<◌}
use native.Mathlib.Omega.{arith}
use lib.ListN.{length}
use Rattle.std.specs.Prelude.{Result, Ok, Err}
use Rattle.paper.specs.declared.Refusal.{Refusal}
use Rattle.paper.specs.Refusals.{Answer, given, ◌>>=◌}
use Rattle.paper.specs.Words.{Token}
use Rattle.paper.specs.Source.{Name, Stmts, Declared, Program, done}
use Rattle.paper.specs.Reading as R
use Rattle.paper.specs.Reading.{Read, ok}
use Rattle.words.specs.Denoted.{words_at}
use Rattle.tree.specs.Nodes.{Same, written}
use Rattle.tree.specs.Trees.{name_at, declared_at, front_at, program_at}
use Rattle.tree.proofs.Puts.{written_same, written_word0}
use Rattle.tree.proofs.Frames.{declared_same, declared_nil, front_nil}
use Rattle.tree.proofs.Forms.{put_program}
use Rattle.expressions.specs.declared.Parsed.{Parsed}
use Rattle.expressions.specs.Reads.{Answered, ExpectDid}
use Rattle.expressions.proofs.Nodes.{both_same}
use Rattle.expressions.proofs.Tokens.{key_end_program}
use Rattle.statements.specs.Lists.{list_at, ListDid}
use Rattle.reader.specs.Declarations.{SectionsDid, body_of, BodyDid}
use Rattle.statements.proofs.Runs.{made_good}
use Rattle.reader.proofs.Answers.{expect_bad, expect_good}

abbrev pub behind_list : Name → List Declared → Stmts → List Token → Answer (Read Program)
behind_list s ds b us = R.expect "END_PROGRAM" us >>= λ end. ok (record { name = s; declared = ds; body = b }) end

abbrev pub behind_sections : Name → ℕ → List Declared → List Token → Answer (Read Program)
behind_sections s f ds us = R.list f 0 us >>= λ b. behind_list s ds b.it b.rest

module _ {t old m1 : List ℕ} {at : ℕ} (p : ℕ) where
  module _ {d : Parsed} (S : SectionsDid t old m1 at 0 0 (Ok d)) where
    abbrev declared : List Declared
    declared = declared_at t m1 d.root

    -- on to the statement list
    to_list : (D : ℕ → Program) (r : Result Parsed Refusal) (ts : List Token) → words_at t at ≡ given ts → (f : ℕ) → 16 * length ts + 15 < f
        → ((us : List Token) → words_at t d.at ≡ given us → length us ≤ length ts → Answered D t 1 (length ts) (behind_sections (name_at t p) f declared us) r)
        → Answered D t 1 (length ts) (body_of (name_at t p) f ts) r
    to_list D r ts h f l g =
        made_good D t 1 (length ts) (declared_at t m1) 0 (length ts) (R.sections f ts) (λ ds. declared_at t old 0 ++ ds)
        (λ x. behind_sections (name_at t p) f x.it x.rest) d r (S.runs ts h f (omega arith))
        (λ ds us e x m.
        subst (λ y. Answered D t 1 (length ts) (behind_sections (name_at t p) f y us) r) (e ∙ ap (λ y. y ++ ds) (declared_nil t old)) (g us x (omega arith)))

    module _ {m2 : List ℕ} {b : Parsed} (L : ListDid t m1 m2 d.at 0 d.count 0 (Ok b)) where
      abbrev body : Stmts
      body = front_at t m2 b.root done

      kept : Same 0 old m2
      kept = both_same 0 d.count old m1 m2 S.same (omega arith) L.1.same

      -- on to END_PROGRAM
      to_end : (D : ℕ → Program) (r : Result Parsed Refusal) (ts : List Token) → words_at t at ≡ given ts → (f : ℕ) → 16 * length ts + 15 < f
          → ((us : List Token) → words_at t b.at ≡ given us → length us + 1 ≤ length ts → Answered D t 1 (length ts) (behind_list (name_at t p) declared body us) r)
          → Answered D t 1 (length ts) (body_of (name_at t p) f ts) r
      to_end D r ts h f l g =
          to_list D r ts h f l
          (λ us x m.
          made_good D t 1 (length ts) (list_at t m2) 1 (length us) (R.list f 0 us) (λ k. front_at t m1 0 k)
          (λ y. behind_list (name_at t p) declared y.it y.rest) b r (L.1.runs us x f (omega arith))
          (λ k vs q y n.
          subst (λ o. Answered D t 1 (length ts) (behind_list (name_at t p) declared o vs) r) (q ∙ front_nil t m1 k) (g vs y (omega arith))))

      -- END_PROGRAM is missing
      pub body_3 : {y : Refusal} → ExpectDid t b.at 4 (Err y) → BodyDid t old m2 at p (Err y)
      body_3 {y} E = (
        record {
          within = omega (arith, S.within, L.1.within, E.within);
          same = kept;
          runs = λ ts h f l. to_end (program_at t m2) (Err y) ts h f l
              (λ us x m. expect_bad E "END_PROGRAM" key_end_program (program_at t m2) 1 (length ts) (λ o. ok _ o) us x);
        },
        tt,
      )

      -- the node of the whole
      pub body_4 : {e : ℕ} → ExpectDid t b.at 4 (Ok e) → {new : List ℕ} → 4 * (b.count + 1) + 4 ≤ length m2
          → new ≡ written m2 (b.count + 1) 29 d.root b.root p → BodyDid t old new at p (Ok (record { at = e; count = b.count + 1; root = b.count + 1 }))
      body_4 {e} E {new} fits en =
          let N = b.count + 1 in
          let ld : d.root < N = omega (arith, S.within, L.1.within) in
          let lb : b.root < N = omega (arith, L.1.within) in
          let node : program_at t new N ≡ record { name = name_at t p; declared = declared; body = body } =
          rw en
          (put_program t m2 N d.root b.root p (omega arith) fits 29 ld lb
          ∙ ap (λ ds. record { name = name_at t p; declared = ds; body = body }) (declared_same t m1 m2 d.count d.root L.1.same S.within.rooted)) in (
            record {
              within = omega (arith, S.within, L.1.within, E.within, E.step refl refl);
              same = both_same 0 b.count old m2 new kept (omega arith) (rw en (written_same m2 N 29 d.root b.root p b.count (omega arith)));
              runs = λ ts h f l. to_end (program_at t new) _ ts h f l
                  (λ us x m. expect_good E "END_PROGRAM" key_end_program (program_at t new) 1 (length ts) (λ o. ok _ o) us x _ (λ vs y n. (node, y, omega arith)));
            },
            record { some = omega arith; last = refl; kind = rw en (written_word0 m2 N 29 d.root b.root p fits) },
          )
