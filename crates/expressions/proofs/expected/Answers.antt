-- `expressions::expected` meets its contract: the next word of a text is the next of its words.
use mathlib.Core.Path.{◌≡◌, sym, ap, ◌∙◌}
use mathlib.Core.Bool.{false, false≢true}
use mathlib.Core.List.{List, []}
use Prim.Native.Nat.{ℕ}
use Prim.Native.String.{String}
use native.Mathlib.Omega.{arith}
use borrow.Author.Tests.{eq-eqb, ne_eqb}
use lib.Dec.{eqb}
use Rattle.std.specs.Prelude.{Ok}
use Rattle.paper.specs.Refusals.{given}
use Rattle.paper.specs.Words.{Token, bytes}
use Rattle.paper.specs.Reading as R
use Rattle.words.specs.declared.Word.{Word}
use Rattle.words.specs.Denoted.{words_at, denoted, IsWord}
use Rattle.expressions.specs.Reads.{KeyIs, ExpectDid}
use Rattle.expressions.proofs.Tokens.{next_of}
use Rattle.expressions.proofs.expected.Goals as goal

-- the ending is no key
never-ending : (s : String) (c : ℕ) → KeyIs s c → eqb c 0 ≡ false
unfolding denoted
never-ending s c k = ne_eqb c 0 (λ e. false≢true (k 0 [] 0 ∙ eq-eqb 0 c (sym e)))

module _ (t : List ℕ) (at c : ℕ) (w : Word) (i : IsWord t at w) where
  sees-class : (ts : List Token) → words_at t at ≡ given ts → (s : String) → KeyIs s c → R.sees s ts ≡ eqb w.class c
  sees-class ts h s k = ap (R.is_key (bytes s)) (next_of t at ts w i h).next ∙ k w.class _ _

  -- the class came
  came : w.class ≡ c → ExpectDid t at c (Ok w.end)
  came e =
      record {
        within = record { from = omega (arith, i.from, i.on); to = i.to };
        step = λ p q. omega (arith, i.from, i.moves (rw e p) (rw e q));
        taken = λ ts h s k. rw (sees-class ts h s k, eq-eqb w.class c e, R.expect) ((next_of t at ts w i h).behind (rw e (never-ending s c k)));
      }

pub returns-then-w-class : goal.returns-then-w-class
returns-then-w-class c t at i =
    let A = c.args in came t at A.class A.w i c.if-w-class.true
