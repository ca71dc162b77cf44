-- Digits at the front of bytes, one by one.
use mathlib.Core.Path.{◌≡◌, sym, ap, ◌∙◌}
use mathlib.Core.Bool.{true}
use mathlib.Core.List.{List, ◌++◌}
use Prim.Native.Nat.{ℕ, ◌+◌, ◌-◌, ◌*◌, ◌≤◌, ◌<◌}
use native.Mathlib.Numerals.{add-one}
use native.Mathlib.Omega.{arith}
use borrow.Author.Tests.{leb-true}
use lib.Dec.{leb}
use lib.ListN.{length, get_or, take, drop, length-take, length-drop, take-append-drop}
use lib.Seq.{take-suc, take_all}
use Rattle.paper.specs.Words.{is_digit}
use Rattle.pack.specs.declared.Spelled.{Spelled}
use Rattle.pack.specs.Records.{Decimal, more, Spells, IsAlone, Line}
use Rattle.pack.proofs.Beginnings.{both}

-- the bytes of digits
pub range : (c : ℕ) → is_digit c ≡ true → (48 ≤ c) × (c ≤ 57)
range c h = let b = both (leb 48 c) (leb c 57) h in (leb-true 48 c b.0, leb-true c 57 b.1)

-- what a part holds that goes up to the end
pub rest : (s : List ℕ) (k : ℕ) → take (length s - k) (drop k s) ≡ drop k s
rest s k = take_all (length s - k) (drop k s) (simp length-drop (omega arith))

-- a line is put together from its parts: k digits, the word w, and the second number with its LF
pub joined : (w s v : List ℕ) (p : ℕ) (r : Spelled) → Spells s r → drop r.count s ≡ w ++ v → IsAlone v p → Line w s r.value p
joined w s v p r f e a =
    record {
      first = take r.count s;
      second = a.front;
      number = f.digits;
      place = a.digits;
      some = simp length-take (omega (arith, f.some, f.within));
      some_more = a.some;
      whole = sym (take-append-drop r.count s) ∙ ap (λ (t : List ℕ). take r.count s ++ t) (e ∙ ap (λ (t : List ℕ). w ++ t) a.whole);
    }

-- one digit more
pub one_more : (s : List ℕ) (i n : ℕ) → i < length s → is_digit (get_or s i 0) ≡ true → Decimal (take i s) n
    → Decimal (take (i + 1) s) (n * 10 + (get_or s i 0 - 48))
one_more s i n h g d = rw (add-one i, take-suc s i 0 h) (more d (get_or s i 0) g)
