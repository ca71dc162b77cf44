-- `words::sign_at` meets its contract: the first two bytes say which sign it is.
use mathlib.Core.Path.{refl}
use native.Mathlib.Omega.{arith}
use borrow.Author.Tests.{ne_eqb}
use Rattle.words.proofs.Pieces.{sign_cut, sign_here, bad_here}
use Rattle.words.proofs.sign_at.Goals as goal

pub returns-then-class : goal.returns-then-class
returns-then-class c =
    let b = c.byte_at in
    let k = c.sign_class-class in
    rw c.bad.ensures (refl, λ i. bad_here c.args.text.now c.args.at c.requires b.result k.result i b.ensures k.ensures c.if-class.true)

pub overflow_add-result : goal.overflow_add-result
overflow_add-result c =
    let b = c.byte_at in
    let k = c.sign_class-class in
    let inside = (sign_cut c.args.text.now c.args.at b.result k.result c.sign_length.result c.requires b.ensures k.ensures c.if-class.false c.sign_length.ensures).1 in
    omega (arith, c.well_formed)

pub returns : goal.returns
returns c =
    let b = c.byte_at in
    let k = c.sign_class-class in (
      ne_eqb k.result 1 (λ q. omega (arith, k.ensures.high)),
      λ i. sign_here c.args.text.now c.args.at c.requires b.result k.result c.sign_length.result i b.ensures k.ensures c.if-class.false c.sign_length.ensures,
    )
