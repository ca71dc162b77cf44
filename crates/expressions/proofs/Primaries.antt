-- Laws of reading a primary, one for each way on: what its first word is decides.
use mathlib.Core.Path.{◌≡◌, refl, sym, ap, ap₂, ◌∙◌}
use mathlib.Core.Bool.{Bool, true, false, cond}
use mathlib.Core.Option.{none}
use mathlib.Core.List.{List, [], ◌∷◌}
use Prim.Native.Nat.{ℕ, zero, suc, ◌+◌, ◌*◌, ◌/◌, ◌%◌, ◌<◌}
use native.Mathlib.Omega.{arith}
use lib.Dec.{eqb}
use lib.IntN.{pos}
use lib.ListN.{length, get_or}
use borrow.Author.Tests.{ne_eqb}
use Rattle.std.specs.Prelude.{Option, None, Some, Result, Ok}
use Rattle.std.proofs.lemmas.Option.{none-some, same_Some}
use Rattle.paper.specs.declared.Ty.{Ty}
use Rattle.paper.specs.declared.Ty.TheVariants.{Bool as BOOL, Int as INT, Uint as UINT, Dint as DINT, Udint as UDINT}
use Rattle.paper.specs.declared.Refusal.{Refusal}
use Rattle.paper.specs.Refusals.{given, ◌>>=◌}
use Rattle.paper.specs.Words as W
use Rattle.paper.specs.Words.{Token, bytes}
use Rattle.paper.specs.Types.{tag}
use Rattle.paper.specs.Source as S
use Rattle.paper.specs.Source.{Expr}
use Rattle.paper.specs.Reading as R
use Rattle.paper.specs.Reading.{ok}
use Rattle.words.specs.declared.Word.{Word}
use Rattle.words.specs.Denoted.{words_at, denoted, folded, entries, IsWord}
use Rattle.tree.specs.Trees.{types, name_at}
use Rattle.expressions.specs.declared.Parsed.{Parsed}
use Rattle.expressions.specs.Reads.{Runs, IsConversion, as_conversion, wrapped}
use Rattle.expressions.proofs.Tokens.{name_here, name_class, truth_class}
use Rattle.expressions.proofs.Answers.{weaken, done}
use Rattle.expressions.proofs.Steps.{next, passed, no_number, bracketed_0}

-- ---- conversions

-- a number for each type, and back
pub types_tag : (u : Ty) → get_or types (tag u) BOOL ≡ u
types_tag BOOL = refl
types_tag INT = refl
types_tag UINT = refl
types_tag DINT = refl
types_tag UDINT = refl

tag_small : (u : Ty) → tag u < 8
tag_small BOOL = omega arith
tag_small INT = omega arith
tag_small UINT = omega arith
tag_small DINT = omega arith
tag_small UDINT = omega arith

module _ (f nest p : ℕ) (us : List Token) where
  abbrev at_word : W.Word → List Token
  at_word x = record { word = x; place = p } ∷ us

  primary_named : (s : S.Name) → R.primary (suc f) nest (at_word (W.name s)) ≡ R.named f nest (at_word (W.name s)) s
  unfolding R.operand
  primary_named s = refl

  primary_numbered : (n : ℕ) → R.primary (suc f) nest (at_word (W.number n)) ≡ ok (S.number p (pos n)) us
  unfolding R.operand
  primary_numbered n = refl

  primary_truthful : (b : Bool) → R.primary (suc f) nest (at_word (W.truth b)) ≡ ok (S.truth p b) us
  unfolding R.operand
  primary_truthful b = refl

  primary_converted : (x : W.Word) (c : ℕ) → as_conversion x ≡ Some c
      → R.primary (suc f) nest (at_word x) ≡ (R.bracketed f nest us >>= λ a. ok (wrapped 10 c p a.it) a.rest)
  unfolding R.operand
  primary_converted (W.name s) c h = absurd (none-some c h)
  primary_converted (W.number n) c h = absurd (none-some c h)
  primary_converted (W.truth b) c h = absurd (none-some c h)
  primary_converted (W.type u) c h = absurd (none-some c h)
  primary_converted (W.conversion u v) c h =
      let i : (8 * tag u + tag v) / 8 ≡ tag u = omega (arith, tag_small v) in
      let j : (8 * tag u + tag v) % 8 ≡ tag v = omega (arith, tag_small v) in
      rw (← same_Some _ _ h, i, j, types_tag u, types_tag v)
  primary_converted (W.operator o) c h = absurd (none-some c h)
  primary_converted (W.key k) c h = absurd (none-some c h)
  primary_converted W.ending c h = absurd (none-some c h)

  no_brackets : (g : ℕ) (x : W.Word) → R.is_key (bytes "(") x ≡ false → R.bracketed g nest (at_word x) ≡ R.broken (at_word x)
  unfolding R.operand
  no_brackets zero x h = refl
  no_brackets (suc g) x h = bracketed_0 g nest (at_word x) h

  -- of any other word, brackets are asked for
  primary_bracketed : (x : W.Word) → R.a_name x ≡ none → R.a_number x ≡ none → R.a_truth x ≡ none → as_conversion x ≡ None
      → R.primary (suc f) nest (at_word x) ≡ (R.bracketed f nest (at_word x) >>= λ a. ok (wrapped 9 0 p a.it) a.rest)
  unfolding R.operand
  primary_bracketed (W.name s) a b c d = let z : ◌≡◌ {A = ℕ} 0 1 = cc in absurd (omega arith)
  primary_bracketed (W.number n) a b c d = let z : ◌≡◌ {A = ℕ} 0 1 = cc in absurd (omega arith)
  primary_bracketed (W.truth v) a b c d = let z : ◌≡◌ {A = ℕ} 0 1 = cc in absurd (omega arith)
  primary_bracketed (W.type u) a b c d = rw (no_brackets f (W.type u) refl)
  primary_bracketed (W.conversion u v) a b c d = absurd (none-some _ (sym d))
  primary_bracketed (W.operator o) a b c d = rw (no_brackets f (W.operator o) refl)
  primary_bracketed (W.key k) a b c d = refl
  primary_bracketed W.ending a b c d = rw (no_brackets f W.ending refl)

-- ---- the ways on

front : (ts : List Token) (x : W.Word) (p : ℕ) → 0 < length ts → R.next ts ≡ x → R.here ts ≡ p → ts ≡ record { word = x; place = p } ∷ R.behind ts
front [] x p l e g = absurd (omega arith)
front (k ∷ ts) x p l e g = ap₂ (λ y q. record { word = y; place = q } ∷ ts) e g

denoted_truth : (s : List ℕ) (n : ℕ) (b : Bool) → denoted (cond b 33 34) s n ≡ W.truth b
unfolding denoted entries W.reserved W.signs
denoted_truth s n true = refl
denoted_truth s n false = refl

denoted_number : (s : List ℕ) (n : ℕ) → denoted 2 s n ≡ W.number n
unfolding denoted
denoted_number s n = refl

module _ (t : List ℕ) (at nest : ℕ) (w : Word) (i : IsWord t at w) (D : ℕ → Expr) where
  -- the words with the first as x
  first : (ts : List Token) (h : words_at t at ≡ given ts) (x : W.Word) → R.next ts ≡ x → ts ≡ record { word = x; place = w.at } ∷ R.behind ts
  first ts h x e = front ts x w.at (next t at w i ts h).some_left e (next t at w i ts h).here

  denotes : (ts : List Token) (h : words_at t at ≡ given ts) (c : ℕ) (x : W.Word) → w.class ≡ c
      → denoted c (folded t w.at w.end) w.value ≡ x → R.next ts ≡ x
  denotes ts h c x e d = (next t at w i ts h).next ∙ rw e d

  pub primary_name : (r : Result Parsed Refusal) → w.class ≡ 1
      → Runs D t w.end 0 0 (λ f ts. R.named f nest (record { word = W.name (name_at t w.at); place = w.at } ∷ ts) (name_at t w.at)) r
      → Runs D t at 1 1 (λ f ts. R.primary f nest ts) r
  primary_name r e x ts h zero l = absurd (omega arith)
  primary_name r e x ts h (suc f) l =
      let s = name_at t w.at in
      let us = R.behind ts in
      let b = passed t at w i ts h 1 e refl in
      rw (first ts h (W.name s) (name_here t at ts w i h e), primary_named f nest w.at us s)
      (weaken D t 1 (suc (length us)) 0 (length us) (R.named f nest (record { word = W.name s; place = w.at } ∷ us) s) r (omega arith) (x us b.0 f (omega arith)))

  pub primary_number : (m : ℕ) → w.class ≡ 2 → D m ≡ S.number w.at (pos w.value)
      → Runs D t at 1 1 (λ f ts. R.primary f nest ts) (Ok (record { at = w.end; count = m; root = m }))
  primary_number m e d ts h zero l = absurd (omega arith)
  primary_number m e d ts h (suc f) l =
      let n = denotes ts h 2 _ e (denoted_number _ _) in
      let b = passed t at w i ts h 2 e refl in
      rw (first ts h (W.number w.value) n, primary_numbered f nest w.at (R.behind ts) w.value)
      (done D t 1 (suc (length (R.behind ts))) _ _ w.end m m d b.0 (omega arith))

  pub primary_truth : (v : Bool) (m : ℕ) → w.class ≡ cond v 33 34 → D m ≡ S.truth w.at v
      → Runs D t at 1 1 (λ f ts. R.primary f nest ts) (Ok (record { at = w.end; count = m; root = m }))
  primary_truth v m e d ts h zero l = absurd (omega arith)
  primary_truth v m e d ts h (suc f) l =
      let n = denotes ts h (cond v 33 34) _ e (denoted_truth _ _ v) in
      let b = passed t at w i ts h (cond v 33 34) e (go v) in
      rw (first ts h (W.truth v) n, primary_truthful f nest w.at (R.behind ts) v)
      (done D t 1 (suc (length (R.behind ts))) _ _ w.end m m d b.0 (omega arith))
    where
      go : (v : Bool) → eqb (cond v 33 34) 0 ≡ false
      go true = refl
      go false = refl

  coded : (c : Option ℕ) → IsConversion w.class c → (ts : List Token) → words_at t at ≡ given ts → as_conversion (R.next ts) ≡ c
  coded c k ts h = ap as_conversion (next t at w i ts h).next ∙ sym (k _ _)

  pub primary_conversion : (c : ℕ) → IsConversion w.class (Some c) → (r : Result Parsed Refusal) → eqb w.class 0 ≡ false
      → Runs D t w.end 1 0 (λ f ts. R.bracketed f nest ts >>= λ a. ok (wrapped 10 c w.at a.it) a.rest) r
      → Runs D t at 1 1 (λ f ts. R.primary f nest ts) r
  primary_conversion c k r y x ts h zero l = absurd (omega arith)
  primary_conversion c k r y x ts h (suc f) l =
      let us = R.behind ts in
      let b = passed t at w i ts h w.class refl y in
      rw (first ts h (R.next ts) refl, primary_converted f nest w.at us (R.next ts) c (coded (Some c) k ts h))
      (weaken D t 1 (suc (length us)) 1 (length us) (R.bracketed f nest us >>= λ a. ok (wrapped 10 c w.at a.it) a.rest) r (omega arith)
      (x us b.0 f (omega arith)))

  pub primary_brackets : IsConversion w.class None → (r : Result Parsed Refusal)
      → (w.class ≡ 1 → ⊥) → (w.class ≡ 2 → ⊥) → (w.class ≡ 33 → ⊥) → (w.class ≡ 34 → ⊥)
      → Runs D t at 1 0 (λ f ts. R.bracketed f nest ts >>= λ a. ok (wrapped 9 0 w.at a.it) a.rest) r
      → Runs D t at 1 1 (λ f ts. R.primary f nest ts) r
  primary_brackets k r n1 n2 n3 n4 x ts h zero l = absurd (omega arith)
  primary_brackets k r n1 n2 n3 n4 x ts h (suc f) l =
      let e = (next t at w i ts h).next in
      let q = first ts h (R.next ts) refl in
      let a1 : R.a_name (R.next ts) ≡ none = rw (e, name_class w.class, ne_eqb w.class 1 n1) in
      let a3 : R.a_truth (R.next ts) ≡ none = rw (e, truth_class w.class, ne_eqb w.class 33 n3, ne_eqb w.class 34 n4) in
      let s = primary_bracketed f nest w.at (R.behind ts) (R.next ts) a1 (no_number t at w i ts h n2) a3 (coded None k ts h) in
      let v : R.primary (suc f) nest ts ≡ (R.bracketed f nest ts >>= λ a. ok (wrapped 9 0 w.at a.it) a.rest) =
      ap (R.primary (suc f) nest) q ∙ s ∙ ap (λ us. R.bracketed f nest us >>= λ a. ok (wrapped 9 0 w.at a.it) a.rest) (sym q) in
      rw v (x ts h f (omega arith))
