-- A property of places that holds of every place: of a list, of words, of the tree and of an answer. Beside it, names are short.
use mathlib.Core.Bool.{Bool, true, false}
use mathlib.Core.Option.{Option, none, some}
use mathlib.Core.List.{List, [], ◌∷◌, ◌++◌}
use Prim.Native.Nat.{ℕ}
use Prim.Native.String.{String}
use borrow.Author.Tests.{leb-true}
use lib.ListN.{length}
use Rattle.paper.specs.declared.Why.{Why}
use Rattle.paper.specs.Refusals.{Answer, refused, given, ◌>>=◌}
use Rattle.paper.specs.Words as W
use Rattle.paper.specs.Words.{Token, Word}
use Rattle.paper.specs.Source as S
use Rattle.paper.specs.Source.{Expr, Label, Stmts, Bounds, Initial, Declared, Program}
use Rattle.paper.specs.Names.{at}
use Rattle.paper.specs.Typing.{or_else}
use Rattle.paper.specs.Reading as R
use Rattle.paper.specs.Reading.{Read, here, behind}
use Rattle.demands.specs.InTypes.{All}
use Rattle.demands.proofs.ShortWords.{Short, ShortWord}

-- ---- lists of places

pub data Places (P : ℕ → Type 0) : List ℕ → Type 0 where
  empty : Places P []
  more : {p : ℕ} {ps : List ℕ} → P p → Places P ps → Places P (p ∷ ps)

module _ {P : ℕ → Type 0} where
  pub join : {ps qs : List ℕ} → Places P ps → Places P qs → Places P (ps ++ qs)
  join empty k = k
  join (more h hs) k = more h (join hs k)

  -- a rule's own fault counts only where its parts have none
  pub or_else_lem : {ps qs : List ℕ} → Places P ps → Places P qs → Places P (or_else ps qs)
  or_else_lem empty k = k
  or_else_lem (more h hs) k = more h hs

module _ (P : ℕ → Type 0) where
  -- the place of a test, where it holds
  pub at_place : {p : ℕ} → P p → (b : Bool) → Places P (at p b)
  at_place h true = more h empty
  at_place h false = empty

-- ---- words: their places, and 0, which is answered where none is left

pub data Words (P : ℕ → Type 0) : List Token → Type 0 where
  over : P 0 → Words P []
  word : {t : Token} {ts : List Token} → P t.place → ShortWord t.word → Words P ts → Words P (t ∷ ts)

-- ---- the tree

module _ (P : ℕ → Type 0) where
  abbrev pub Expression : Expr → Type 0
  Expression (S.number p z) = P p
  Expression (S.truth p b) = P p
  Expression (S.variable p s) = P p
  Expression (S.element p s q i) = P p × P q × Expression i
  Expression (S.minus p e) = P p × Expression e
  Expression (S.complement p e) = P p × Expression e
  Expression (S.binary p o l r) = P p × Expression l × Expression r
  Expression (S.conversion p t u e) = P p × Expression e
  Expression (S.brackets p e) = P p × Expression e

  abbrev pub OneLabel : Label → Type 0
  OneLabel (S.one p a) = P p
  OneLabel (S.range p a q b) = P p × P q

  abbrev pub Statements : Stmts → Type 0
  Statements S.done = Unit {0}
  Statements (S.assign x q e k) = Expression x × P q × Expression e × Statements k
  Statements (S.choice p q c a b k) = P p × P q × Expression c × Statements a × Statements b × Statements k
  Statements (S.select p s a k) = P p × Expression s × Statements a × Statements k
  Statements (S.arm ls a k) = All OneLabel ls × Statements a × Statements k
  Statements (S.loop p q v a b c body k) =
      P p × P q × Expression a × Expression b × Expression c × Statements body × Statements k

  abbrev pub ArrayBounds : Bounds → Type 0
  ArrayBounds S.single = Unit {0}
  ArrayBounds (S.array p lo q hi) = P p × P q

  abbrev pub InitialValue : Initial → Type 0
  InitialValue S.nothing = Unit {0}
  InitialValue (S.value p q z) = P p × P q
  InitialValue (S.flag p b) = P p

  pub record Declaration (d : Declared) : Type 0 where
    pub place : P d.place
    pub short : Short d.name
    pub bounds : ArrayBounds d.bounds
    pub initial : InitialValue d.initial

  pub record Whole (pr : Program) : Type 0 where
    pub own : Short pr.name
    pub declared : All Declaration pr.declared
    pub body : Statements pr.body

-- ---- answers

-- P of a refusal's place, or Q of what is given
pub data Answers (P : ℕ → Type 0) {A : Type 0} (Q : A → Type 0) : Answer A → Type 0 where
  stopped : {w : Why} {p : ℕ} → P p → Answers P Q (refused w p)
  gave : {a : A} → Q a → Answers P Q (given a)

pub refused_at : {P : ℕ → Type 0} {A : Type 0} {Q : A → Type 0} (w : Why) (p : ℕ) → Answers P Q (refused w p) → P p
refused_at w p (stopped h) = h

pub given_at : {P : ℕ → Type 0} {A : Type 0} {Q : A → Type 0} (a : A) → Answers P Q (given a) → Q a
given_at a (gave h) = h

-- whatever is given
abbrev pub Any : {A : Type 0} → A → Type 0
Any a = Unit {0}

-- Q of what has been read, and P of the words that are left
abbrev pub Left : (P : ℕ → Type 0) {A : Type 0} (Q : A → Type 0) → Read A → Type 0
Left P Q x = Q x.it × Words P x.rest

abbrev pub Reads : (P : ℕ → Type 0) {A : Type 0} (Q : A → Type 0) → Answer (Read A) → Type 0
Reads P Q o = Answers P (Left P Q) o

module _ {P : ℕ → Type 0} where
  -- one stage after another
  pub then : {A B : Type 0} {Q : A → Type 0} {R : B → Type 0} {o : Answer A} {f : A → Answer B}
      → Answers P Q o → ((a : A) → Q a → Answers P R (f a)) → Answers P R (o >>= f)
  then (stopped h) g = stopped h
  then (gave {a = a} h) g = g a h

  module _ {A : Type 0} {Q : A → Type 0} where
    pub of_two : {x y : Answer A} (b : Bool) → Answers P Q x → Answers P Q y → Answers P Q (elim b [ true ↦ x | false ↦ y ])
    of_two true h k = h
    of_two false h k = k

    pub of_option : {B : Type 0} {x : Answer A} {f : B → Answer A} (o : Option B) → Answers P Q x → ((b : B) → Answers P Q (f b))
        → Answers P Q (elim o [ none ↦ x | some b ↦ f b ])
    of_option none h k = h
    of_option (some b) h k = k b

  -- ---- the next word

  pub here_at : {ts : List Token} → Words P ts → P (here ts)
  here_at (over z) = z
  here_at (word h s k) = h

  pub behind_at : {ts : List Token} → Words P ts → Words P (behind ts)
  behind_at (over z) = over z
  behind_at (word h s k) = k

  pub expect_at : (k : String) {ts : List Token} → Words P ts → Answers P (Words P) (R.expect k ts)
  expect_at k {ts} h = of_two (R.sees k ts) (gave (behind_at h)) (stopped (here_at h))

  pub taken_at : {A : Type 0} (a : Word → Option A) {ts : List Token} → Words P ts → Reads P Any (R.taken a ts)
  taken_at a {ts} h = of_option (a (R.next ts)) (stopped (here_at h)) (λ x. gave (tt, behind_at h))

  pub taken_name : {ts : List Token} → Words P ts → Reads P Short (R.taken R.a_name ts)
  taken_name (over z) = stopped z
  taken_name (word {t = t} {ts = ts} h s k) = go t.word s
    where
      go : (w : Word) → ShortWord w → Reads P Short (elim (R.a_name w) [ none ↦ R.broken (t ∷ ts) | some x ↦ R.ok x ts ])
      go (W.name n) e = gave (leb-true (length n) 24 e, k)
      go (W.number n) e = stopped h
      go (W.truth b) e = stopped h
      go (W.type u) e = stopped h
      go (W.conversion u v) e = stopped h
      go (W.operator o) e = stopped h
      go (W.key n) e = stopped h
      go W.ending e = stopped h
