-- The words of a printed expression, read: an expression of its form.
use mathlib.Core.Path.{◌≡◌, refl}
use mathlib.Core.Bool.{true, false}
use mathlib.Core.Option.{none, some}
use mathlib.Core.List.{List, ◌∷◌}
use Prim.Native.Nat.{ℕ, suc, ◌+◌, ◌-◌, ◌≤◌, ◌<◌, max}
use native.Mathlib.Omega.{arith}
use borrow.Author.Tests.{lt-ltb}
use lib.Dec.{leb}
use lib.IntN.{pos, negsuc}
use Rattle.paper.specs.declared.Ty.{Ty}
use Rattle.paper.specs.declared.Ty.TheVariants.{Dint as DINT}
use Rattle.paper.specs.declared.Op.{Op}
use Rattle.paper.specs.declared.Op.TheVariants.{Mul, Div, Mod, Add, Sub, Lt, Gt, Le, Ge, Eq, Ne, And, Xor, Or}
use Rattle.paper.specs.declared.Cell.{Cell}
use Rattle.paper.specs.Refusals.{Answer}
use Rattle.paper.specs.Types.{fits}
use Rattle.paper.specs.Words as W
use Rattle.paper.specs.Words.{Word, Token, bytes, same_bytes}
use Rattle.paper.specs.Source as S
use Rattle.paper.specs.Source.{single, array}
use Rattle.paper.specs.Names.{Variable}
use Rattle.paper.specs.Reading as R
use Rattle.paper.specs.Reading.{Read, ok}
use Rattle.paper.specs.Plain.{Expr, number, truth, read, minus, complement, binary, conversion}
use Rattle.again.proofs.Says.{key, Says, says, Gives, gives, then, expects, Fuel, any, one, less, more}
use Rattle.again.proofs.Wordings.{operator_word, cell_words, expression_words}
use Rattle.again.proofs.Printed.{Printed, begins}
use Rattle.again.proofs.Forms.{At, Spelt, alone, element, Form, as_number, as_truth, as_read, as_minus, as_complement, as_binary, as_conversion, brackets}

-- behind an operand: no `[`; behind an expression: no operator either
abbrev pub NoSubscript : Word → Type 0
NoSubscript w = R.is_key (bytes "[") w ≡ false

abbrev pub NoOperator : Word → Type 0
NoOperator w = R.an_operator w ≡ none

-- how many calls stand in one another
unfoldable pub calls : Expr → ℕ
calls (number t z) = 2
calls (truth b) = 2
calls (read c) = 7
calls (minus t e) = suc (suc (suc (suc (suc (suc (suc (suc (calls e))))))))
calls (complement e) = suc (suc (suc (suc (suc (calls e)))))
calls (binary o t l r) = suc (suc (suc (suc (suc (suc (max (calls l) (calls r)))))))
calls (conversion t u e) = suc (suc (suc (suc (calls e))))

calls_some : (x : Expr) → 1 ≤ calls x
unfolding calls
calls_some (number t z) = omega arith
calls_some (truth b) = omega arith
calls_some (read c) = omega arith
calls_some (minus t e) = omega arith
calls_some (complement e) = omega arith
calls_some (binary o t l r) = omega arith
calls_some (conversion t u e) = omega arith

-- no number, which a NOT can't stand before
abbrev pub NoNumber : Expr → Type 0
NoNumber (number t z) = ⊥
NoNumber (truth b) = Unit {0}
NoNumber (read c) = Unit {0}
NoNumber (minus t e) = Unit {0}
NoNumber (complement e) = Unit {0}
NoNumber (binary o t l r) = Unit {0}
NoNumber (conversion t u e) = Unit {0}

-- what is asked of the word for an operator
operator_word_lem : (o : Op) → (R.an_operator (operator_word o) ≡ some o) × NoSubscript (operator_word o) × (leb 1 (R.level o) ≡ true)
unfolding bytes same_bytes
operator_word_lem Mul = (refl, refl, refl)
operator_word_lem Div = (refl, refl, refl)
operator_word_lem Mod = (refl, refl, refl)
operator_word_lem Add = (refl, refl, refl)
operator_word_lem Sub = (refl, refl, refl)
operator_word_lem Lt = (refl, refl, refl)
operator_word_lem Gt = (refl, refl, refl)
operator_word_lem Le = (refl, refl, refl)
operator_word_lem Ge = (refl, refl, refl)
operator_word_lem Eq = (refl, refl, refl)
operator_word_lem Ne = (refl, refl, refl)
operator_word_lem And = (refl, refl, refl)
operator_word_lem Xor = (refl, refl, refl)
operator_word_lem Or = (refl, refl, refl)

-- ---- the steps between operands

-- where no operator follows, an operand is the whole expression
alone_in : {Q : S.Expr → Type 0} {w : Word} {k : List Word} (f nest least : ℕ) (ts : List Token) → NoOperator w → Fuel 1 f
    → Gives Q (w ∷ k) (R.operand f nest ts) → Gives Q (w ∷ k) (R.expression (suc f) nest least ts)
unfolding R.operand
alone_in {Q} {w} {k} f nest least ts o fuel g = then g λ x q s. stop f fuel x.it x.rest q s
  where
    stop : (f : ℕ) → Fuel 1 f → (a : S.Expr) (us : List Token) → Q a → Says (w ∷ k) us → Gives Q (w ∷ k) (R.joined f nest least a us)
    stop f (one fuel) a us q (says s) = rw (o, R.joined) (gives q (says s))

-- an expression in brackets
in_brackets : {Q : S.Expr → Type 0} {k : List Word} (f nest p : ℕ) (ts : List Token) → nest < 64
    → Gives Q (key ")" ∷ k) (R.expression f (suc nest) 1 ts)
    → Gives Q k (R.bracketed (suc f) nest (record { word = key "("; place = p } ∷ ts))
unfolding R.operand bytes same_bytes
in_brackets f nest p ts n g = rw (lt-ltb nest 64 n, R.bracketed) (then g λ x q s. expects ")" s λ us s. gives q s)

abbrev token : Word → ℕ → Token
token w p = record { word = w; place = p }

-- ---- what is read from each kind of operand, by what is read from its parts

module _ {Q T : S.Expr → Type 0} {k : List Word} (f nest p q : ℕ) (ts : List Token) (n : nest < 64)
    (g : Gives Q (key ")" ∷ k) (R.expression f (suc nest) 1 ts)) where
  brackets_of : ((e : S.Expr) → Q e → T (S.brackets p e))
      → Gives T k (R.operand (suc (suc (suc f))) nest (token (key "(") p ∷ ts))
  unfolding R.operand bytes same_bytes
  brackets_of h = then {f = λ e. ok (S.brackets p e.it) e.rest} (in_brackets f nest p ts n g) λ x q s. gives (h x.it q) s

  minus_of : ((e : S.Expr) → Q e → T (S.minus p (S.brackets q e)))
      → Gives T k (R.operand (suc (suc (suc f))) nest (token (key "-") p ∷ token (key "(") q ∷ ts))
  unfolding R.operand bytes same_bytes
  minus_of h =
      then {f = λ e. ok (S.minus p e.it) e.rest}
      (then {R = λ e. T (S.minus p e)} {f = λ e. ok (S.brackets q e.it) e.rest} (in_brackets f nest q ts n g) λ x q s. gives (h x.it q) s)
      λ x q s. gives q s

  conversion_of : (t u : Ty) → ((e : S.Expr) → Q e → T (S.conversion p t u e))
      → Gives T k (R.operand (suc (suc (suc f))) nest (token (W.conversion t u) p ∷ token (key "(") q ∷ ts))
  unfolding R.operand bytes same_bytes
  conversion_of t u h =
      then {f = λ e. ok (S.conversion p t u e.it) e.rest} (in_brackets f nest q ts n g) λ x q s. gives (h x.it q) s

complement_of : {Q T : S.Expr → Type 0} {k : List Word} (f nest p : ℕ) (ts : List Token) → ((e : S.Expr) → Q e → T (S.complement p e))
    → Gives Q k (R.primary f nest ts) → Gives T k (R.operand (suc f) nest (token (key "NOT") p ∷ ts))
unfolding R.operand bytes same_bytes
complement_of f nest p ts h g = then {f = λ e. ok (S.complement p e.it) e.rest} g λ x q s. gives (h x.it q) s

-- an operand, an operator and an operand
joined_of : {Q Q' T : S.Expr → Type 0} {w : Word} {k l : List Word} (o : Op) (f nest : ℕ) (ts : List Token) → NoOperator w → Fuel 1 f
    → ((p : ℕ) (d e : S.Expr) → Q d → Q' e → T (S.binary p o d e))
    → Gives Q (operator_word o ∷ l) (R.operand (suc (suc f)) nest ts)
    → ((us : List Token) → Says l us → Gives Q' (w ∷ k) (R.operand f nest us))
    → Gives T (w ∷ k) (R.expression (suc (suc (suc f))) nest 1 ts)
unfolding R.operand
joined_of {Q} {Q'} {T} {w} {k} {l} o f nest ts stop fuel h a b = then a λ x q s. operator x.it x.rest q s
  where
    last : (f : ℕ) → Fuel 1 f → (e : S.Expr) (us : List Token) → T e → Says (w ∷ k) us → Gives T (w ∷ k) (R.joined f nest 1 e us)
    last f (one fuel) e us t (says s) = rw (stop, R.joined) (gives t (says s))

    operator : (d : S.Expr) (us : List Token) → Q d → Says (operator_word o ∷ l) us → Gives T (w ∷ k) (R.joined (suc (suc f)) nest 1 d us)
    operator d us q (says {p = p} {ts = vs} s) =
        let is = operator_word_lem o in
        rw (is.0, R.joined, is.2)
        (then {f = λ r. R.joined (suc f) nest 1 (S.binary p o d r.it) r.rest}
        (alone_in f nest (suc (R.level o)) vs stop fuel (b vs s))
        λ x q' s. last (suc f) (one (less 0 (omega arith) fuel)) (S.binary p o d x.it) x.rest (h p d x.it q q') s)

module _ (vs : List Variable) where
  abbrev pub Readable : Expr → Type 0
  Readable (number t z) = Unit {0}
  Readable (truth b) = Unit {0}
  Readable (read c) = Printed vs c
  Readable (minus t e) = Readable e
  Readable (complement e) = NoNumber e × Readable e
  Readable (binary o t l r) = Readable l × Readable r
  Readable (conversion t u e) = Readable e

  -- ---- cells

  pub primary_cell : (c : Cell) (f nest : ℕ) {w : Word} {k : List Word} {ts : List Token} → Printed vs c → nest < 64 → NoSubscript w
      → Fuel 6 f → Says (cell_words vs c.0 (w ∷ k)) ts → Gives (Spelt vs c) (w ∷ k) (R.primary f nest ts)
  unfolding R.operand bytes same_bytes
  primary_cell c f nest {w} {k} {ts} h n b fuel s = go h.var h.at h.small h.var.declared.bounds refl f ts fuel (rw (h.words (w ∷ k)) at s)
    where
      go : (v : Variable) → At vs v c
          → ((a lo b hi : ℕ) → v.declared.bounds ≡ array a lo b hi → fits DINT (pos (lo + (c.0 - v.first))) ≡ true)
          → (x : S.Bounds) → v.declared.bounds ≡ x → (f : ℕ) (ts : List Token) → Fuel 6 f
          → Says (elim x [
            | single ↦ W.name v.declared.name ∷ w ∷ k
            | array p lo q hi ↦ W.name v.declared.name ∷ key "[" ∷ W.number (lo + (c.0 - v.first)) ∷ key "]" ∷ w ∷ k
          ]) ts
          → Gives (Spelt vs c) (w ∷ k) (R.primary f nest ts)
      go v a small single e f ts (one (one fuel)) (says (says s)) = rw (b, R.named) (gives (alone v a e) (says s))
      go v a small (array p lo q hi) e f ts (one (one (one (one (one (one fuel)))))) (says (says (says (says s)))) =
          rw (lt-ltb nest 64 n, R.named) (gives (element v p lo q hi a e (small p lo q hi e)) s)

  -- a name has no sign before it
  name_operand : (n : S.Name) (f nest : ℕ) {k : List Word} {ts : List Token} → Says (W.name n ∷ k) ts
      → R.operand (suc f) nest ts ≡ R.primary f nest ts
  unfolding R.operand
  name_operand n f nest (says s) = refl

  operand_cell : (c : Cell) (f nest : ℕ) {w : Word} {k : List Word} {ts : List Token} → Printed vs c → nest < 64 → NoSubscript w
      → Fuel 6 f → Says (cell_words vs c.0 (w ∷ k)) ts → Gives (Spelt vs c) (w ∷ k) (R.operand (suc f) nest ts)
  operand_cell c f nest {w} {k} h n b fuel s =
      rw (name_operand _ f nest (rw (begins vs c (w ∷ k) h).is at s)) (primary_cell c f nest h n b fuel s)

  -- ---- expressions

  as_form : {c : Cell} {k : List Word} {o : Answer (Read S.Expr)} → Gives (Spelt vs c) k o → Gives (Form vs (read c)) k o
  as_form (gives q s) = gives (as_read q) s

  -- but for a number, an operand has no sign before it
  no_sign : (x : Expr) (f nest : ℕ) (k : List Word) {ts : List Token} → NoNumber x → Readable x → Says (expression_words vs x k) ts
      → R.operand (suc f) nest ts ≡ R.primary f nest ts
  unfolding R.operand bytes same_bytes expression_words
  no_sign (number t z) f nest k n r s = absurd n
  no_sign (truth v) f nest k n r (says s) = refl
  no_sign (read c) f nest k n r s = name_operand _ f nest (rw (begins vs c k r).is at s)
  no_sign (minus t e) f nest k n r (says s) = refl
  no_sign (complement e) f nest k n r (says s) = refl
  no_sign (binary o t l e) f nest k n r (says s) = refl
  no_sign (conversion t u e) f nest k n r (says s) = refl

  pub operand : (x : Expr) (f nest : ℕ) {w : Word} {k : List Word} {ts : List Token} → Readable x → nest + brackets x ≤ 64
      → NoSubscript w → Fuel (calls x) f → Says (expression_words vs x (w ∷ k)) ts → Gives (Form vs x) (w ∷ k) (R.operand f nest ts)
  unfolding R.operand bytes same_bytes brackets calls expression_words
  operand (number t (pos n)) f nest r h b (one (one fuel)) (says s) = gives as_number s
  operand (number t (negsuc n)) f nest r h b (one (one fuel)) (says (says s)) = gives as_number s
  operand (truth v) f nest r h b (one (one fuel)) (says s) = gives as_truth s
  operand (read c) f nest r h b (one fuel) s = as_form (operand_cell c _ nest r (omega arith) b fuel s)
  operand (minus t e) f nest {w} {k} r h b (one (one (one (one (one (one (one (one {f = g} fuel)))))))) (says {p = p} (says {p = q} (says {p = a} {ts = ts} s))) =
      let inner = operand e g (suc (suc nest)) r (omega arith) refl fuel s in
      let us : List Token = token (key "-") q ∷ token (key "(") a ∷ ts in
      let sign : Gives (λ d. Form vs (minus t e) (S.brackets p d)) (key ")" ∷ w ∷ k) (R.operand (suc (suc (suc (suc g)))) (suc nest) us) =
      minus_of (suc g) (suc nest) q a ts (omega arith) (alone_in g (suc (suc nest)) 1 ts refl (less 1 (calls_some e) fuel) inner) (λ d. as_minus) in
      brackets_of (suc (suc (suc (suc (suc g))))) nest p 0 us (omega arith)
      (alone_in (suc (suc (suc (suc g)))) (suc nest) 1 us refl (one any) sign)
      (λ d q. q)
  operand (complement e) f nest {w} {k} r h b (one (one (one (one (one {f = g} fuel))))) (says {p = p} (says {p = q} {ts = ts} s)) =
      let inner = operand e (suc g) (suc nest) r.1 (omega arith) refl (more fuel) s in
      let sign : Gives (λ d. Form vs (complement e) (S.brackets p d)) (key ")" ∷ w ∷ k) (R.operand (suc g) (suc nest) (token (key "NOT") q ∷ ts)) =
      complement_of g (suc nest) q ts (λ d. as_complement) (rw (no_sign e g (suc nest) _ r.0 r.1 s) at inner) in
      brackets_of (suc (suc g)) nest p 0 _ (omega arith) (alone_in (suc g) (suc nest) 1 (token (key "NOT") q ∷ ts) refl (one any) sign) (λ d q. q)
  operand (binary o t l e) f nest {w} {k} r h b (one (one (one (one (one (one {f = g} fuel)))))) (says {p = p} {ts = ts} s) =
      let left = operand l (suc (suc g)) (suc nest) r.0 (omega arith) (operator_word_lem o).1 (more (more (less (calls l) (omega arith) fuel))) s in
      let both : Gives (λ d. Form vs (binary o t l e) (S.brackets p d)) (key ")" ∷ w ∷ k) (R.expression (suc (suc (suc g))) (suc nest) 1 ts) =
      joined_of o g (suc nest) ts refl (less 1 (let c = calls_some l in omega arith) fuel) (λ q d e. as_binary) left
      (λ us s. operand e g (suc nest) r.1 (omega arith) refl (less (calls e) (omega arith) fuel) s) in
      brackets_of (suc (suc (suc g))) nest p 0 ts (omega arith) both (λ d q. q)
  operand (conversion t u e) f nest r h b (one (one (one (one {f = g} fuel)))) (says {p = p} (says {p = q} {ts = ts} s)) =
      conversion_of (suc g) nest p q ts (omega arith)
      (alone_in g (suc nest) 1 ts refl (less 1 (calls_some e) fuel) (operand e g (suc nest) r (omega arith) refl fuel s))
      t u (λ d. as_conversion)

  pub expression : (x : Expr) (f nest : ℕ) {w : Word} {k : List Word} {ts : List Token} → Readable x → nest + brackets x ≤ 64
      → NoSubscript w → NoOperator w → Fuel (suc (calls x)) f → Says (expression_words vs x (w ∷ k)) ts
      → Gives (Form vs x) (w ∷ k) (R.expression f nest 1 ts)
  expression x f nest {ts = ts} r h b o (one {f = g} fuel) s = alone_in g nest 1 ts o (less 1 (calls_some x) fuel) (operand x g nest r h b fuel s)
