-- What is expected as far as some number, and the counts of texts.
use Rattle.std.specs.Prelude.{◌≡◌, ◌≢◌, Bool, true, false, not, ◌&&◌, ◌||◌, cond, List, ℕ, ◌+◌, ◌≤◌, eqb, leb, Option, None, Some}
use Rattle.paper.specs.Refusals as P
use Rattle.paper.specs.Refusals.{refused, given, number_of}
use Rattle.pack.specs.declared.Expected.{Expected}
use Rattle.pack.specs.declared.Expected.TheVariants as E
use Rattle.pack.specs.declared.Refused as R
use Rattle.pack.specs.Records.{numbered, IsExpected}
use Rattle.tally.specs.declared.Answer.{Answer}
use Rattle.tally.specs.declared.Answer.TheVariants.{Passed, Refused, Unclear}
use Rattle.tally.specs.declared.Answers.{Answers}
use Rattle.tally.specs.declared.Tally.{Tally}

-- a refusal's number and its place, or none
abbrev pub Says : {A : Type 0} → P.Answer A → Answer → Type 0
Says (refused w p) r = r ≡ Refused (numbered (number_of w) p)
Says (given x) r = r ≡ Passed

-- a refusal that is expected is one of those up to `last`; 0 at 0 is none
abbrev pub is_compared : ℕ → R.Refused → Bool
is_compared last r = leb r.number last && (not (eqb r.number 0) || not (eqb r.place 0))

-- what is expected, where every answer but the refusals up to `last` counts as none
abbrev pub wanted_of : ℕ → Option Expected → Answer
wanted_of last (Some E.Print) = Passed
wanted_of last (Some (E.Refused r)) = cond (is_compared last r) (Refused r) Passed
wanted_of last None = Unclear

abbrev pub IsWanted : List ℕ → ℕ → Answer → Type 0
IsWanted s last r = (e : Option Expected) × IsExpected s e × (r ≡ wanted_of last e)

-- one text more is tried, and one more differs unless the answers are the same
pub record Tallied (t : Tally) (a : Answers) (r : Tally) : Type 0 where
  pub tried : r.tried ≡ t.tried + 1
  pub same : a.ours ≡ a.wanted → r.differ ≡ t.differ
  pub other : a.ours ≢ a.wanted → r.differ ≡ t.differ + 1
  pub more : r.more ≡ true
  pub fewer : r.differ ≤ r.tried

-- if there may be more, one more is tried; else none is
pub record Went (t r : Tally) : Type 0 where
  pub tried : r.more ≡ true → r.tried ≡ t.tried + 1
  pub ended : r.more ≡ false → (r.tried ≡ t.tried) × (r.differ ≡ t.differ)
  pub fewer : r.differ ≤ r.tried
