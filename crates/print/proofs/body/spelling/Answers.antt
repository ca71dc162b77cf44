-- By the operator.
use Rattle.paper.specs.Words.{bytes}
use Rattle.print.proofs.body.spelling.Goals as goal

pub returns-in-Mul : goal.returns-in-Mul
unfolding bytes
returns-in-Mul c =
    rw c.in-Mul.is

pub returns-in-Div : goal.returns-in-Div
unfolding bytes
returns-in-Div c =
    rw c.in-Div.is

pub returns-in-Mod : goal.returns-in-Mod
unfolding bytes
returns-in-Mod c =
    rw c.in-Mod.is

pub returns-in-Add : goal.returns-in-Add
unfolding bytes
returns-in-Add c =
    rw c.in-Add.is

pub returns-in-Sub : goal.returns-in-Sub
unfolding bytes
returns-in-Sub c =
    rw c.in-Sub.is

pub returns-in-Lt : goal.returns-in-Lt
unfolding bytes
returns-in-Lt c =
    rw c.in-Lt.is

pub returns-in-Gt : goal.returns-in-Gt
unfolding bytes
returns-in-Gt c =
    rw c.in-Gt.is

pub returns-in-Le : goal.returns-in-Le
unfolding bytes
returns-in-Le c =
    rw c.in-Le.is

pub returns-in-Ge : goal.returns-in-Ge
unfolding bytes
returns-in-Ge c =
    rw c.in-Ge.is

pub returns-in-Eq : goal.returns-in-Eq
unfolding bytes
returns-in-Eq c =
    rw c.in-Eq.is

pub returns-in-Ne : goal.returns-in-Ne
unfolding bytes
returns-in-Ne c =
    rw c.in-Ne.is

pub returns-in-And : goal.returns-in-And
unfolding bytes
returns-in-And c =
    rw c.in-And.is

pub returns-in-Xor : goal.returns-in-Xor
unfolding bytes
returns-in-Xor c =
    rw c.in-Xor.is

pub returns-in-Or : goal.returns-in-Or
unfolding bytes
returns-in-Or c =
    rw c.in-Or.is
