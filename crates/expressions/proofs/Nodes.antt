-- What the nodes that reading writes stand for.
use mathlib.Core.Path.{◌≡◌, refl, ◌∙◌}
use mathlib.Core.Bool.{Bool, true, false, cond}
use mathlib.Core.List.{List}
use Prim.Native.Nat.{ℕ, ◌+◌, ◌*◌, ◌/◌, ◌%◌, ◌≤◌, ◌<◌}
use native.Mathlib.Omega.{arith}
use lib.Dec.{eqb}
use lib.IntN.{pos, neg_ℤ}
use lib.ListN.{length, get_or}
use borrow.Author.Tests.{eqb-true, eqb-false}
use Rattle.paper.specs.declared.Ty.TheVariants.{Bool as BOOL}
use Rattle.paper.specs.declared.Op.TheVariants.{Or}
use Rattle.paper.specs.Source as S
use Rattle.tree.specs.Nodes.{written, Same}
use Rattle.tree.specs.Trees.{types, operators, name_at, expr_forms, expr_at}
use Rattle.tree.proofs.Frames.{expr_form, expr_same, same_less, same_trans}
use Rattle.tree.proofs.Puts.{written_same, written_word0, written_word2}
use Rattle.tree.proofs.Forms.{put_place, put_first, put_number, put_negative, put_truth, put_variable, put_element, put_minus, put_complement, put_brackets, put_binary}
use Rattle.expressions.specs.Reads.{unary, wrapped}

-- what one part leaves and another leaves of that
pub both_same : (n m : ℕ) (old mid new : List ℕ) → Same n old mid → n ≤ m → Same m mid new → Same n old new
both_same n m old mid new s l r = same_trans old mid new n s (same_less mid new m n r l)

-- what a put leaves of what stood before
pub put_same : (n m k a b c : ℕ) (old mid new : List ℕ) → Same n old mid → n < m → new ≡ written mid m k a b c → Same n old new
put_same n m k a b c old mid new s l e = same_trans old mid new n s (rw e (written_same mid m k a b c n l))

-- a number's value in two words
value : (v : ℕ) → v % 65536 + 65536 * (v / 65536) ≡ v
value v = omega arith

module _ (t old new : List ℕ) (n v c : ℕ) (some : 0 < n) (fits : 4 * n + 4 ≤ length old) where
  pub put_plain : new ≡ written old n 1 (v % 65536) (v / 65536) c → expr_at t new n ≡ S.number c (pos v)
  put_plain e = rw (e, put_number t old n (v % 65536) (v / 65536) c some fits, value v)

  pub put_below : new ≡ written old n 2 (v % 65536) (v / 65536) c → expr_at t new n ≡ S.number c (neg_ℤ (pos v))
  put_below e = rw (e, put_negative t old n (v % 65536) (v / 65536) c some fits, value v)

module _ (t old new : List ℕ) (n a b c : ℕ) (some : 0 < n) (fits : 4 * n + 4 ≤ length old) where
  pub put_flag : (v : Bool) → new ≡ written old n (cond v 4 3) a b c → expr_at t new n ≡ S.truth c v
  put_flag v e = rw e (put_truth t old n a b c some fits v)

  pub put_name : new ≡ written old n 5 a b c → expr_at t new n ≡ S.variable c (name_at t c)
  put_name e = rw e (put_variable t old n a b c some fits)

  pub put_indexed : a < n → new ≡ written old n 6 a b c → expr_at t new n ≡ S.element c (name_at t c) b (expr_at t old a)
  put_indexed x e = rw e (put_element t old n a b c some fits x)

  -- the left operand stood before the right one was read
  pub put_joined : (o m : ℕ) (was : List ℕ) → Same m was old → a ≤ m → m < n → b < n → o < 14 → new ≡ written old n (11 + o) a b c
      → expr_at t new n ≡ S.binary c (get_or operators o Or) (expr_at t was a) (expr_at t old b)
  put_joined o m was s l x y h e =
      rw (e, ← expr_same t was old m a s l) (put_binary t old n a b c some fits o h (omega arith) y)

  pub put_unary : (k : ℕ) → 7 ≤ k → k ≤ 8 → a < n → new ≡ written old n k a b c → expr_at t new n ≡ unary k c (expr_at t old a)
  put_unary k l h x e = go (eqb k 7) refl
    where
      go : (u : Bool) → eqb k 7 ≡ u → expr_at t new n ≡ cond u (S.minus c (expr_at t old a)) (S.complement c (expr_at t old a))
      go true q = let z : k ≡ 7 = eqb-true k 7 q in rw (e, z) (put_minus t old n a b c some fits x)
      go false q = let z : k ≡ 8 = omega (arith, eqb-false k 7 q) in rw (e, z) (put_complement t old n a b c some fits x)

  conversion_put : a < n → expr_at t (written old n 10 a b c) n ≡ wrapped 10 b c (expr_at t old a)
  unfolding expr_forms
  conversion_put x =
      expr_form t (written old n 10 a b c) n 10 _ some (written_word0 old n 10 a b c fits) refl
      ∙ rw (put_first old n 10 a b c fits (expr_at t) (expr_same t) x, written_word2 old n 10 a b c fits, put_place old n 10 a b c fits)

  pub put_wrapped : (k : ℕ) → 9 ≤ k → k ≤ 10 → a < n → new ≡ written old n k a b c → expr_at t new n ≡ wrapped k b c (expr_at t old a)
  put_wrapped k l h x e = go (eqb k 9) refl
    where
      go : (u : Bool) → eqb k 9 ≡ u
          → expr_at t new n ≡ cond u (S.brackets c (expr_at t old a)) (S.conversion c (get_or types (b / 8) BOOL) (get_or types (b % 8) BOOL) (expr_at t old a))
      go true q = let z : k ≡ 9 = eqb-true k 9 q in rw (e, z) (put_brackets t old n a b c some fits x)
      go false q = let z : k ≡ 10 = omega (arith, eqb-false k 9 q) in rw (e, z) (conversion_put x)
