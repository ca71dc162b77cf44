-- A print as it is expected, and read again.
use Rattle.std.specs.Prelude.{◌≡◌, List, ℕ, ◌≤◌, length, replicate, Result}
use Rattle.paper.specs.declared.Why.{Why}
use Rattle.paper.specs.declared.Accepted.{Accepted}
use Rattle.paper.specs.declared.Refusal.{Refusal}
use Rattle.paper.specs.Refusals.{refused, given, number_of}
use Rattle.paper.specs.Judge.{Sound, judge, verdict, print_of, print_into}
use Rattle.pack.specs.Records.{numbered}
use Rattle.tally.specs.declared.Answer.{Answer}
use Rattle.tally.specs.declared.Answer.TheVariants as A

-- x is accepted, is its own print, and has the verdict v
abbrev pub Again : List ℕ → Result Accepted Refusal → Type 0
Again x v = (b : Sound) × (judge x ≡ given b) × (print_of b ≡ x) × (verdict x ≡ v)

-- the print x of the text t is the one expected; where it is no longer than a text may be, reading it again changes nothing
abbrev pub PrintedAs : List ℕ → List ℕ → List ℕ → Type 0
PrintedAs t x expected = (x ≡ expected) × (length x ≤ 8192 → Again x (verdict t))

-- the refusal of the text t with room for 65,536 bytes; passed only where its print is the one expected
pub record Answered (t expected : List ℕ) (r : Answer) : Type 0 where
  pub bad : (w : Why) (p : ℕ) → print_into t (replicate 65536 0) ≡ refused w p → r ≡ A.Refused (numbered (number_of w) p)
  pub good : r ≡ A.Passed → (a : Sound) × (judge t ≡ given a) × PrintedAs t (print_of a) expected
