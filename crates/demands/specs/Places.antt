-- Where a text is refused.
use Rattle.std.specs.Prelude.{◌≡◌, List, ℕ, ◌≤◌, length}
use Rattle.paper.specs.declared.Why.{Why}
use Rattle.paper.specs.Refusals.{refused}
use Rattle.paper.specs.Judge.{judge}

-- at a byte of the text or right behind its last; a text too long to be read is refused at 0
pub record Within (text : List ℕ) (p : ℕ) : Type 0 where
  pub in_text : p ≤ length text
  pub in_limit : p ≤ 8192

-- whatever the text and the refusal
abbrev pub PlacesWithin : Type 0
PlacesWithin = (text : List ℕ) (w : Why) (p : ℕ) → judge text ≡ refused w p → Within text p
