-- `words::signs::sign_class` meets its contract: in each arm the list of signs is searched by computing.
use mathlib.Core.Path.{refl, sym}
use mathlib.Core.List.{List, [], ◌∷◌}
use Prim.Native.Nat.{ℕ}
use native.Mathlib.Omega.{arith}
use borrow.Author.Tests.{ne_eqb}
use Rattle.paper.specs.Words.{bytes, reserved, signs, begins, sign_piece}
use Rattle.words.specs.Keys.{singly}
use Rattle.words.specs.Denoted.{entries}
use Rattle.words.proofs.Listed.{is_sign, no_sign}
use Rattle.words.proofs.signs.sign_class.Goals as goal

-- the first bytes of signs, in the order of the code
abbrev keys : List ℕ
keys = 58 ∷ 46 ∷ 60 ∷ 62 ∷ 59 ∷ 44 ∷ 40 ∷ 41 ∷ 91 ∷ 93 ∷ 42 ∷ 47 ∷ 43 ∷ 45 ∷ 61 ∷ 38 ∷ []

pub returns-then-b-eq61 : goal.returns-then-b-eq61
unfolding bytes reserved signs begins sign_piece entries
returns-then-b-eq61 c =
    is_sign 58 61 c.in-58.is c.if-b-eq61.true (omega arith) refl

pub returns-else-b-eq61 : goal.returns-else-b-eq61
unfolding bytes reserved signs begins sign_piece entries
returns-else-b-eq61 c =
    is_sign 58 _ c.in-58.is refl (omega arith) (rw (ne_eqb 61 c.args.b (λ q. c.if-b-eq61.false (sym q)), sign_piece))

pub returns-then-b-eq46 : goal.returns-then-b-eq46
unfolding bytes reserved signs begins sign_piece entries
returns-then-b-eq46 c =
    is_sign 46 46 c.in-46.is c.if-b-eq46.true (omega arith) refl

pub returns-else-b-eq46 : goal.returns-else-b-eq46
unfolding bytes reserved signs begins sign_piece entries
returns-else-b-eq46 c =
    is_sign 46 _ c.in-46.is refl (omega arith) (rw (ne_eqb 46 c.args.b (λ q. c.if-b-eq46.false (sym q)), sign_piece))

pub returns-then-b-eq61-2 : goal.returns-then-b-eq61-2
unfolding bytes reserved signs begins sign_piece entries
returns-then-b-eq61-2 c =
    is_sign 60 61 c.in-60.is c.if-b-eq61-2.true (omega arith) refl

pub returns-then-b-eq62 : goal.returns-then-b-eq62
unfolding bytes reserved signs begins sign_piece entries
returns-then-b-eq62 c =
    is_sign 60 62 c.in-60.is c.if-b-eq62.true (omega arith) refl

pub returns-else-b-eq62 : goal.returns-else-b-eq62
unfolding bytes reserved signs begins sign_piece entries
returns-else-b-eq62 c =
    is_sign 60 _ c.in-60.is refl (omega arith) (rw (ne_eqb 61 c.args.b (λ q. c.if-b-eq61-2.false (sym q)), ne_eqb 62 c.args.b (λ q. c.if-b-eq62.false (sym q)), sign_piece))

pub returns-then-b-eq61-3 : goal.returns-then-b-eq61-3
unfolding bytes reserved signs begins sign_piece entries
returns-then-b-eq61-3 c =
    is_sign 62 61 c.in-62.is c.if-b-eq61-3.true (omega arith) refl

pub returns-else-b-eq61-3 : goal.returns-else-b-eq61-3
unfolding bytes reserved signs begins sign_piece entries
returns-else-b-eq61-3 c =
    is_sign 62 _ c.in-62.is refl (omega arith) (rw (ne_eqb 61 c.args.b (λ q. c.if-b-eq61-3.false (sym q)), sign_piece))

pub returns-in-59 : goal.returns-in-59
unfolding bytes reserved signs begins sign_piece entries
returns-in-59 c =
    is_sign 59 _ c.in-59.is refl (omega arith) refl

pub returns-in-44 : goal.returns-in-44
unfolding bytes reserved signs begins sign_piece entries
returns-in-44 c =
    is_sign 44 _ c.in-44.is refl (omega arith) refl

pub returns-in-40 : goal.returns-in-40
unfolding bytes reserved signs begins sign_piece entries
returns-in-40 c =
    is_sign 40 _ c.in-40.is refl (omega arith) refl

pub returns-in-41 : goal.returns-in-41
unfolding bytes reserved signs begins sign_piece entries
returns-in-41 c =
    is_sign 41 _ c.in-41.is refl (omega arith) refl

pub returns-in-91 : goal.returns-in-91
unfolding bytes reserved signs begins sign_piece entries
returns-in-91 c =
    is_sign 91 _ c.in-91.is refl (omega arith) refl

pub returns-in-93 : goal.returns-in-93
unfolding bytes reserved signs begins sign_piece entries
returns-in-93 c =
    is_sign 93 _ c.in-93.is refl (omega arith) refl

pub returns-in-42 : goal.returns-in-42
unfolding bytes reserved signs begins sign_piece entries
returns-in-42 c =
    is_sign 42 _ c.in-42.is refl (omega arith) refl

pub returns-in-47 : goal.returns-in-47
unfolding bytes reserved signs begins sign_piece entries
returns-in-47 c =
    is_sign 47 _ c.in-47.is refl (omega arith) refl

pub returns-in-43 : goal.returns-in-43
unfolding bytes reserved signs begins sign_piece entries
returns-in-43 c =
    is_sign 43 _ c.in-43.is refl (omega arith) refl

pub returns-in-45 : goal.returns-in-45
unfolding bytes reserved signs begins sign_piece entries
returns-in-45 c =
    is_sign 45 _ c.in-45.is refl (omega arith) refl

pub returns-in-61 : goal.returns-in-61
unfolding bytes reserved signs begins sign_piece entries
returns-in-61 c =
    is_sign 61 _ c.in-61.is refl (omega arith) refl

pub returns-in-38 : goal.returns-in-38
unfolding bytes reserved signs begins sign_piece entries
returns-in-38 c =
    is_sign 38 _ c.in-38.is refl (omega arith) refl

pub returns-in_default : goal.returns-in_default
unfolding bytes reserved signs begins sign_piece entries
returns-in_default c =
    record { high = omega arith; sign = no_sign (singly keys) signs c.args.a (c.args.b ∷ []) refl c.in_default.in_default-own.rest }
