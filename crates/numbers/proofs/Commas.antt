-- Values parted by commas, one by one.
use mathlib.Core.Path.{◌≡◌, refl, sym, ap, ◌∙◌}
use mathlib.Core.Bool.{false}
use mathlib.Core.List.{List, [], ◌∷◌, ◌++◌, append_assoc}
use Prim.Native.Nat.{ℕ, ◌+◌, ◌-◌, ◌<◌}
use native.Mathlib.Numerals.{add-one}
use native.Mathlib.Omega.{arith}
use lib.IntN.{ℤ, pos, nat_abs}
use lib.ListN.{length, get_or, drop, set, length-set, length-drop}
use lib.Seq.{take-suc, take-add, take-suc-set, drop-set-lt, drop-drop, get_or-set_same, get_or-drop}
use Rattle.paper.specs.Words.{is_digit}
use Rattle.numbers.specs.declared.Whole.{Whole}
use Rattle.numbers.specs.declared.Listed.{Listed}
use Rattle.numbers.specs.Spellings.{Signed, Spelled, one, more, Begun, start, comma, IsWhole, Read}

-- a comma and a number more
one_more : {s t : List ℕ} {zs : List ℤ} {z : ℤ} → Spelled s zs → Signed t z → Spelled (s ++ (44 ∷ t)) (zs ++ (z ∷ []))
one_more (one a) b = more a (one b)
one_more (more a r) b = rw append_assoc (more a (one_more r b))

-- the number that must follow
followed : {s t : List ℕ} {zs : List ℤ} {z : ℤ} → Begun s zs → Signed t z → Spelled (s ++ t) (zs ++ (z ∷ []))
followed start b = one b
followed (comma r) b = rw append_assoc (one_more r b)

-- v values put, which have c bytes
abbrev pub put : ℕ → ℕ → Listed
put v c = record { values = v; count = c }

-- no digit follows that belongs to the last value
abbrev pub DigitsEnd : List ℕ → List ℤ → ℕ → ℕ → Type 0
DigitsEnd s new v c = c < length s → nat_abs (get_or new (v - 1) (pos 0)) < 1000000000 → is_digit (get_or s c 0) ≡ false

module _ (s : List ℕ) (old : List ℤ) where
  pub nothing_read : Read Begun s old old (put 0 0)
  nothing_read = record { room = omega arith; within = omega arith; kept = refl; behind = refl; read = start }

  module _ (new : List ℤ) (v c : ℕ) where
    -- one value more, which all its digits belong to
    module _ (u : List ℕ) (w : Whole) (z : ℤ) (h : Read Begun s old new (put v c)) (l : v < length new) (e : u ≡ drop c s) (p : IsWhole u w) (d : z ≡ w.value) where
      pub value_read : Read Spelled s old (set new v z) (put (v + 1) (c + w.count))
      value_read =
          record {
            room = omega (arith, h.kept);
            within = omega (arith, p.within, ap length e, length-drop c s, h.within);
            kept = length-set new v z ∙ h.kept;
            behind = drop-set-lt (v + 1) new v z (omega arith) ∙ sym (drop-drop 1 v new) ∙ ap (drop 1) h.behind ∙ drop-drop 1 v old;
            read = rw (take-add c w.count s, add-one v, take-suc-set new v z l, ← e, d) (followed h.read p.spelled);
          }

      pub digits_end : DigitsEnd s (set new v z) (v + 1) (c + w.count)
      digits_end m n =
          let i : v + 1 - 1 ≡ v = omega arith in
          let small : nat_abs w.value < 1000000000 = rw (i, get_or-set_same new v z (pos 0) l, d) at n in
          rw (← get_or-drop c s w.count 0, ← e) (p.stops (omega (arith, ap length e, length-drop c s)) small)

    -- a comma behind the values
    pub comma_read : Read Spelled s old new (put v c) → c < length s → get_or s c 0 ≡ 44 → Read Begun s old new (put v (c + 1))
    comma_read h l e =
        record {
          room = h.room;
          within = omega arith;
          kept = h.kept;
          behind = h.behind;
          read = rw (add-one c, take-suc s c 0 l, e) (comma h.read);
        }
