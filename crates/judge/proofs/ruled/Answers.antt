-- `judge::ruled` meets its contract: the shape, then the rules.
use Rattle.judge.proofs.Shaping.{by_rules, fits}
use Rattle.judge.proofs.ruled.Goals as goal

pub returns : goal.returns
returns c =
    let d = c.in_ok-root.ensures in
    by_rules _ _ _ d _ _ (c.rules.ensures (fits _ _ _ d _ _ _ c.requires))
