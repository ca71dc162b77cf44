-- Each operator by its own function.
use mathlib.Core.Bool.{Bool, true, false, not, beq}
use mathlib.Core.Path.{◌≡◌, refl, ◌∙◌}
use Rattle.paper.specs.Types.{is_true, differ, apply}
use Rattle.value.proofs.apply.Goals as goal

-- the machine's exclusive or
unlike : (p q : Bool) → not (beq p q) ≡ differ p q
unlike true true = refl
unlike true false = refl
unlike false true = refl
unlike false false = refl

pub returns-in-Mul : goal.returns-in-Mul
unfolding apply
returns-in-Mul c =
    c.product.ensures ∙ rw c.in-Mul.is

pub returns-in-Div : goal.returns-in-Div
unfolding apply
returns-in-Div c =
    c.quotient_of.ensures ∙ rw c.in-Div.is

pub returns-in-Mod : goal.returns-in-Mod
unfolding apply
returns-in-Mod c =
    c.remainder_of.ensures ∙ rw c.in-Mod.is

pub returns-in-Add : goal.returns-in-Add
unfolding apply
returns-in-Add c =
    c.sum.ensures ∙ rw c.in-Add.is

pub returns-in-Sub : goal.returns-in-Sub
unfolding apply
returns-in-Sub c =
    c.difference.ensures ∙ rw c.in-Sub.is

pub returns-in-Lt : goal.returns-in-Lt
unfolding apply
returns-in-Lt c =
    (rw c.is_less.ensures at c.bit_of.ensures) ∙ rw c.in-Lt.is

pub returns-in-Gt : goal.returns-in-Gt
unfolding apply
returns-in-Gt c =
    (rw c.is_less-in-Gt.ensures at c.bit_of-in-Gt.ensures) ∙ rw c.in-Gt.is

pub returns-in-Le : goal.returns-in-Le
unfolding apply
returns-in-Le c =
    (rw c.is_at_most.ensures at c.bit_of-in-Le.ensures) ∙ rw c.in-Le.is

pub returns-in-Ge : goal.returns-in-Ge
unfolding apply
returns-in-Ge c =
    (rw c.is_at_most-in-Ge.ensures at c.bit_of-in-Ge.ensures) ∙ rw c.in-Ge.is

pub returns-in-Eq : goal.returns-in-Eq
unfolding apply
returns-in-Eq c =
    (rw c.is_same.ensures at c.bit_of-in-Eq.ensures) ∙ rw c.in-Eq.is

pub returns-in-Ne : goal.returns-in-Ne
unfolding apply
returns-in-Ne c =
    (rw c.is_same-in-Ne.ensures at c.bit_of-in-Ne.ensures) ∙ rw c.in-Ne.is

pub returns-in-And : goal.returns-in-And
unfolding apply
returns-in-And c =
    (rw (c.is_true.ensures, c.is_true-in-And.ensures) at c.bit_of-in-And.ensures) ∙ rw c.in-And.is

pub returns-in-Xor : goal.returns-in-Xor
unfolding apply
returns-in-Xor c =
    let a = c.args.a in
    let b = c.args.b in
    (rw (c.is_true-in-Xor.ensures, c.is_true-in-Xor-2.ensures, unlike (is_true a) (is_true b)) at c.bit_of-in-Xor.ensures) ∙ rw c.in-Xor.is

pub returns-in-Or : goal.returns-in-Or
unfolding apply
returns-in-Or c =
    (rw (c.is_true-in-Or.ensures, c.is_true-in-Or-2.ensures) at c.bit_of-in-Or.ensures) ∙ rw c.in-Or.is
