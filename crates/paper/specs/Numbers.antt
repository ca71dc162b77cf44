-- A type by its number.
use Rattle.std.specs.Prelude.{◌≡◌, ℕ, ◌≤◌, Result, MatchResult}
use Rattle.paper.specs.declared.Ty.{Ty}
use Rattle.paper.specs.declared.UnknownType.{UnknownType}
use Rattle.paper.specs.Types.{tag}

-- r is the type with the number n, or says that no type has it
abbrev pub Numbers : ℕ → Result Ty UnknownType → Type 0
Numbers n r = MatchResult r (λ t. tag t ≡ n) (λ e. (e.0 ≡ n) × (5 ≤ n))
