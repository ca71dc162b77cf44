-- What starts a statement, by the class of the next word.
use mathlib.Core.Path.{◌≡◌, refl, sym, ap, ap₂, ◌∙◌}
use mathlib.Core.Bool.{Bool, true, false, cond, ◌||◌}
use mathlib.Core.Option.{Option, none, some}
use mathlib.Core.List.{List, [], ◌∷◌}
use Prim.Native.Nat.{ℕ}
use lib.Dec.{eqb}
use Rattle.paper.specs.Refusals.{given}
use Rattle.paper.specs.Words.{Token, bytes}
use Rattle.paper.specs.Reading as R
use Rattle.words.specs.declared.Word.{Word}
use Rattle.words.specs.Denoted.{words_at, denoted, folded, IsWord}
use Rattle.expressions.proofs.Tokens.{name_class, key_if, key_case, key_for, key_semicolon}
use Rattle.expressions.proofs.Steps.{next}
use Rattle.statements.specs.Lists.{StartsIs, is_some}

abbrev begins : Option (List ℕ) → Bool → Bool → Bool → Bool → Bool
begins o b d e f =
    is_some {A = R.Start}
    (elim o [
      | some x ↦ some R.at_name
      | none ↦ cond b (some R.at_if) (cond d (some R.at_case) (cond e (some R.at_for) (cond f (some R.at_empty) none)))
    ])

begins_any : (s : List ℕ) (a b d e f : Bool) → begins (cond a (some s) none) b d e f ≡ ((((a || b) || d) || e) || f)
begins_any s true b d e f = refl
begins_any s false true d e f = refl
begins_any s false false true e f = refl
begins_any s false false false true f = refl
begins_any s false false false false true = refl
begins_any s false false false false false = refl

pub start_of_lem : (c n p : ℕ) (s : List ℕ) (ts : List Token)
    → is_some (R.start_of (record { word = denoted c s n; place = p } ∷ ts)) ≡ ((((eqb c 1 || eqb c 11) || eqb c 16) || eqb c 18) || eqb c 60)
start_of_lem c n p s ts =
    let k : List ℕ → Bool = λ z. R.is_key z (denoted c s n) in
    ap (λ o. begins o (k (bytes "IF")) (k (bytes "CASE")) (k (bytes "FOR")) (k (bytes ";"))) (name_class c n s)
    ∙ ap₂ (λ b d. begins (cond (eqb c 1) (some s) none) b d (k (bytes "FOR")) (k (bytes ";"))) (key_if c s n) (key_case c s n)
    ∙ ap₂ (λ e f. begins (cond (eqb c 1) (some s) none) (eqb c 11) (eqb c 16) e f) (key_for c s n) (key_semicolon c s n)
    ∙ begins_any s (eqb c 1) (eqb c 11) (eqb c 16) (eqb c 18) (eqb c 60)

-- the same of the words from a place on
module _ (t : List ℕ) (at : ℕ) (w : Word) (i : IsWord t at w) (ts : List Token) (h : words_at t at ≡ given ts) where
  start_is : R.start_of ts ≡ R.start_of (record { word = denoted w.class (folded t w.at w.end) w.value; place = 0 } ∷ [])
  start_is = ap (λ v. R.start_of (record { word = v; place = 0 } ∷ [])) (next t at w i ts h).next

  pub start_some : (b : Bool) → StartsIs w.class b → b ≡ is_some (R.start_of ts)
  start_some b st = st (folded t w.at w.end) w.value 0 [] ∙ ap is_some (sym start_is)
