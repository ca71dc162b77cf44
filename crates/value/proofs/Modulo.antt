-- Numbers that differ by a multiple of m, and integers that differ from a number so: sums, negations and products of such do again.
-- So the residue of what is computed from values is what is computed from their residues.
use mathlib.Core.Path.{◌≡◌, refl, sym, ap, ◌∙◌}
use mathlib.Core.Bool.{Bool, true, false, cond}
use Prim.Native.Nat.{ℕ, zero, suc, ◌+◌, ◌-◌, ◌*◌, ◌/◌, ◌%◌, ◌<◌}
use native.Mathlib.Nat.{add-mul, mul-add, mul_assoc, mul_comm, mul-zero, mod-lt, mod-eq_of_lt, mod-add-div', add-mul-mod_self_right}
use native.Mathlib.Omega.{arith}
use borrow.Author.Tests.{ltb-true, ltb-false}
use lib.Dec.{ltb}
use lib.IntN.{ℤ, pos, negsuc, neg_ℤ, sub_ℕ, ◌+ℤ◌, ◌*ℤ◌}
use Rattle.paper.specs.Types.{residue, reading}

-- u and v differ by a multiple of m
pub record Alike (m u v : ℕ) : Type 0 where
  pub up : ℕ
  pub down : ℕ
  pub same : u + up * m ≡ v + down * m

-- so do the integer z and the number n: n stands for z
abbrev Differ : ℕ → ℤ → ℕ → Type 0
Differ m (pos p) n = Alike m n p
Differ m (negsuc q) n = Alike m (n + suc q) 0

pub record Stands (m : ℕ) (z : ℤ) (n : ℕ) : Type 0 where
  pub by : Differ m z n

module _ {m : ℕ} where
  -- ---- numbers

  alike_sym : {u v : ℕ} → Alike m u v → Alike m v u
  alike_sym h = record { up = h.down; down = h.up; same = sym h.same }

  alike_add : {u v w x : ℕ} → Alike m u v → Alike m w x → Alike m (u + w) (v + x)
  alike_add g h =
      record {
        up = g.up + h.up;
        down = g.down + h.down;
        same = omega (arith, add-mul g.up h.up m, add-mul g.down h.down m);
      }

  alike_cancel : {u v : ℕ} (w : ℕ) → Alike m (u + w) (v + w) → Alike m u v
  alike_cancel w h = record { up = h.up; down = h.down; same = omega arith }

  alike_trans : {u v w : ℕ} → Alike m u v → Alike m v w → Alike m u w
  alike_trans {u} {v} {w} g h =
      let s = alike_add g h in
      alike_cancel v (record { up = s.up; down = s.down; same = omega arith })

  pub alike_mul : {u v : ℕ} (c : ℕ) → Alike m u v → Alike m (c * u) (c * v)
  alike_mul {u} {v} c h =
      record {
        up = c * h.up;
        down = c * h.down;
        same = rw (mul_assoc c h.up m, mul_assoc c h.down m, ← (mul-add c u (h.up * m)), ← (mul-add c v (h.down * m))) (ap (λ (n : ℕ). c * n) h.same);
      }

  -- a number and its remainder
  alike_mod : (n : ℕ) → Alike m n (n % m)
  alike_mod n = record { up = 0; down = n / m; same = omega (arith, mod-add-div' n m) }

  same_mod : {u v : ℕ} → Alike m u v → u % m ≡ v % m
  same_mod {u} {v} h =
      sym (add-mul-mod_self_right u h.up m) ∙ ap (λ (n : ℕ). n % m) h.same ∙ add-mul-mod_self_right v h.down m

-- ---- integers and numbers, by the signs

module _ (m : ℕ) where
  -- p - q
  differ_sub : (p q n : ℕ) → Alike m (n + q) p → Differ m (sub_ℕ p q) n
  differ_sub p q n h = go (ltb p q) refl
    where
      go : (s : Bool) → ltb p q ≡ s → Differ m (cond s (negsuc (q - suc p)) (pos (p - q))) n
      go true e = record { up = h.up; down = h.down; same = omega (arith, ltb-true p q e) }
      go false e = record { up = h.up; down = h.down; same = omega (arith, ltb-false p q e) }

  differ_add : (x y : ℤ) (a b : ℕ) → Differ m x a → Differ m y b → Differ m (x +ℤ y) (a + b)
  differ_add (pos p) (pos q) a b g h = alike_add g h
  differ_add (pos p) (negsuc q) a b g h =
      let s = alike_add g h in
      differ_sub p (suc q) (a + b) (record { up = s.up; down = s.down; same = omega arith })
  differ_add (negsuc p) (pos q) a b g h =
      let s = alike_add g h in
      differ_sub q (suc p) (a + b) (record { up = s.up; down = s.down; same = omega arith })
  differ_add (negsuc p) (negsuc q) a b g h =
      let s = alike_add g h in
      record { up = s.up; down = s.down; same = omega arith }

  -- -p
  differ_minus : (p c : ℕ) → Alike m (c + p) 0 → Differ m (neg_ℤ (pos p)) c
  differ_minus zero c h = record { up = h.up; down = h.down; same = omega arith }
  differ_minus (suc p) c h = h

  differ_negate : (x : ℤ) (a c : ℕ) → Differ m x a → Alike m (c + a) 0 → Differ m (neg_ℤ x) c
  differ_negate (pos p) a c g h =
      differ_minus p c (alike_trans (alike_add (record { up = 0; down = 0; same = refl }) (alike_sym g)) h)
  differ_negate (negsuc q) a c g h =
      let s = alike_trans h (alike_sym g) in
      alike_cancel a (record { up = s.up; down = s.down; same = omega arith })

  -- a product with a negative: b and Q are each other's opposites
  cross : {a p : ℕ} (b Q : ℕ) → Alike m a p → Alike m (b + Q) 0 → Alike m (a * b + p * Q) 0
  cross {a} {p} b Q g h =
      let s = alike_add (alike_mul a h) (alike_mul Q (alike_sym g)) in
      alike_cancel (a * Q) (record { up = s.up; down = s.down; same = omega (arith, mul-add a b Q, mul-zero a, mul_comm Q p, mul_comm Q a) })

  differ_mul : (x y : ℤ) (a b : ℕ) → Differ m x a → Differ m y b → Differ m (x *ℤ y) (a * b)
  differ_mul (pos p) (pos q) a b g h =
      alike_trans (alike_mul a h) (rw (mul_comm a q, mul_comm p q) (alike_mul q g))
  differ_mul (pos p) (negsuc q) a b g h = differ_minus (p * suc q) (a * b) (cross b (suc q) g h)
  differ_mul (negsuc p) (pos q) a b g h =
      differ_minus (suc p * q) (a * b) (rw (mul_comm a b, mul_comm (suc p) q) (cross a (suc p) h g))
  differ_mul (negsuc p) (negsuc q) a b g h =
      let s = alike_add (alike_mul a h) (alike_sym (alike_mul (suc q) g)) in
      alike_cancel (a * suc q)
      (record {
        up = s.up;
        down = s.down;
        same = omega (arith, mul-add a b (suc q), mul-zero a, mul-zero (suc q), mul-add (suc q) a (suc p), mul_comm (suc q) a, mul_comm (suc q) (suc p));
      })

module _ {m : ℕ} where
  pub stands_add : {x y : ℤ} {a b : ℕ} → Stands m x a → Stands m y b → Stands m (x +ℤ y) (a + b)
  stands_add {x} {y} {a} {b} g h = record { by = differ_add m x y a b g.by h.by }

  pub stands_mul : {x y : ℤ} {a b : ℕ} → Stands m x a → Stands m y b → Stands m (x *ℤ y) (a * b)
  stands_mul {x} {y} {a} {b} g h = record { by = differ_mul m x y a b g.by h.by }

  -- the opposite, up to a multiple of m
  pub stands_negate : {x : ℤ} {a : ℕ} (c : ℕ) → Stands m x a → Alike m (c + a) 0 → Stands m (neg_ℤ x) c
  stands_negate {x} {a} c g h = record { by = differ_negate m x a c g.by h }

  -- ---- residues

  -- the remainder of a number that stands for z is the residue of z
  pub residue_stands : (z : ℤ) {n : ℕ} → 0 < m → Stands m z n → n % m ≡ residue m z
  residue_stands (pos p) k h = same_mod h.by
  residue_stands (negsuc q) {n} k h =
      let r = m - suc (q % m) in
      let s = alike_add h.by (alike_sym (alike_mod q)) in
      let l = mod-lt q k in
      let a : Alike m n r = record { up = s.up + 1; down = s.down; same = omega (arith, add-mul s.up 1 m) } in
      same_mod a ∙ mod-eq_of_lt {n = r} {m = m} (omega arith)

  -- a number stands for what its remainder is read as, with or without a sign
  pub reading_stands : (s : Bool) (a : ℕ) → 0 < m → Stands m (reading s m (a % m)) a
  reading_stands true a k =
      let h = alike_mod {m = m} a in
      let l = mod-lt a k in
      record { by = record { up = h.up; down = h.down + 1; same = omega (arith, add-mul h.down 1 m) } }
  reading_stands false a k = record { by = alike_mod a }
