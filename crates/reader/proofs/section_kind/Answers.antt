-- The kind of section that a word begins.
use mathlib.Core.Path.{◌≡◌, ap, ◌∙◌}
use mathlib.Core.Bool.{cond}
use mathlib.Core.Option.{Option, none, some}
use mathlib.Core.List.{List, ◌∷◌}
use Prim.Native.Nat.{ℕ}
use native.Mathlib.Omega.{arith}
use lib.Dec.{eqb}
use borrow.Author.Tests.{ne_eqb}
use Rattle.paper.specs.declared.Kind.{Kind}
use Rattle.paper.specs.declared.Kind.TheVariants.{Input, Output, Other}
use Rattle.paper.specs.Words.{Token}
use Rattle.paper.specs.Reading as R
use Rattle.words.specs.Denoted.{denoted}
use Rattle.expressions.proofs.Tokens.{key_var_input, key_var_output, key_var}
use Rattle.reader.proofs.section_kind.Goals as goal

-- by the class
abbrev said : ℕ → Option Kind
said c = cond (eqb c 5) (some Input) (cond (eqb c 6) (some Output) (cond (eqb c 7) (some Other) none))

kind_said : (c : ℕ) (s : List ℕ) (n p : ℕ) (ts : List Token) → R.kind_of (record { word = denoted c s n; place = p } ∷ ts) ≡ said c
kind_said c s n p ts = rw (key_var_input c s n, key_var_output c s n, key_var c s n)

pub returns-in-5 : goal.returns-in-5
returns-in-5 c s n p ts =
    kind_said c.args.class s n p ts ∙ ap said c.in-5.is

pub returns-in-6 : goal.returns-in-6
returns-in-6 c s n p ts =
    kind_said c.args.class s n p ts ∙ ap said c.in-6.is

pub returns-in-7 : goal.returns-in-7
returns-in-7 c s n p ts =
    kind_said c.args.class s n p ts ∙ ap said c.in-7.is

pub returns-in_default : goal.returns-in_default
returns-in_default c s n p ts =
    kind_said c.args.class s n p ts ∙ rw (ne_eqb c.args.class 5 (λ e. omega (arith, c.in_default)), ne_eqb c.args.class 6 (λ e. omega (arith, c.in_default)), ne_eqb c.args.class 7 (λ e. omega (arith, c.in_default)))
