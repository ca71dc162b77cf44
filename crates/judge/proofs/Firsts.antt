-- `sound` is how `judge` begins: what follows works on the program that is sound so far.
use mathlib.Core.Path.{◌≡◌, refl}
use mathlib.Core.List.{List}
use Prim.Native.Nat.{ℕ}
use Rattle.paper.specs.declared.Why.TheVariants.{BadName, BadType, TooHigh}
use Rattle.paper.specs.Refusals.{Answer, refused, given, ◌>>=◌}
use Rattle.paper.specs.Words.{Token, words_of}
use Rattle.paper.specs.Source.{Program}
use Rattle.paper.specs.Reading.{program_of}
use Rattle.paper.specs.Names.{variables_of, cells_of, name_faults}
use Rattle.paper.specs.Typing.{type_faults}
use Rattle.paper.specs.Heights.{height_faults}
use Rattle.paper.specs.Unwinding.{Unwound, unwound_program}
use Rattle.paper.specs.Judge.{Sound, short_enough, faultless, judge}
use Rattle.judge.specs.Rules.{sound}

-- the accepted program, once it is unwound
abbrev pub accepted : Program → Unwound → Answer Sound
accepted pr u =
    let vs = variables_of pr.declared in
    given (record { program = pr; variables = vs; cells = cells_of vs; plain = u.plain; weight = u.weight })

-- 8 and 9
abbrev pub unwound : Program → Answer Sound
unwound pr = unwound_program pr >>= accepted pr

three : {A : Type 0} (a b c : Answer (Unit {0})) (pr : Program) (k : Program → Answer A)
    → (a >>= λ x. (b >>= λ y. (c >>= λ z. k pr))) ≡ ((a >>= λ x. (b >>= λ y. (c >>= λ z. given pr))) >>= k)
three (refused w q) b c pr k = refl
three (given x) (refused w q) c pr k = refl
three (given x) (given y) (refused w q) pr k = refl
three (given x) (given y) (given z) pr k = refl

module _ {A : Type 0} (f g h : Program → Answer (Unit {0})) (k : Program → Answer A) where
  read : (p : Answer Program)
      → (p >>= λ pr. (f pr >>= λ x. (g pr >>= λ y. (h pr >>= λ z. k pr))))
      ≡ ((p >>= λ pr. (f pr >>= λ x. (g pr >>= λ y. (h pr >>= λ z. given pr)))) >>= k)
  read (refused w q) = refl
  read (given pr) = three (f pr) (g pr) (h pr) pr k

  begins : (a : Answer (Unit {0})) (b : Answer (List Token)) (p : List Token → Answer Program)
      → (a >>= λ s. (b >>= λ ts. (p ts >>= λ pr. (f pr >>= λ x. (g pr >>= λ y. (h pr >>= λ z. k pr))))))
      ≡ ((a >>= λ s. (b >>= p)) >>= (λ pr. (f pr >>= λ x. (g pr >>= λ y. (h pr >>= λ z. given pr)))) >>= k)
  begins (refused w q) b p = refl
  begins (given s) (refused w q) p = refl
  begins (given s) (given ts) p = read (p ts)

pub judge_begins : (t : List ℕ) → judge t ≡ (sound t >>= unwound)
unfolding judge
judge_begins t =
    begins (λ pr. faultless BadName (name_faults pr)) (λ pr. faultless BadType (type_faults pr)) (λ pr. faultless TooHigh (height_faults pr)) unwound
    (short_enough t) (words_of t) program_of
