-- What a walk promises: the soonest of the faults so far and of those that it finds.
use Rattle.std.specs.Prelude.{◌≡◌, Bool, not, ◌&&◌, ◌||◌, List, ◌∷◌, ◌++◌, ℕ, ◌<◌, get_or, Option}
use Rattle.paper.specs.declared.Kind.TheVariants.{Input}
use Rattle.paper.specs.Types.{is_integer}
use Rattle.paper.specs.Source.{done}
use Rattle.paper.specs.Names.{Variable, same_kind, is_array, at, is_among, is_known, is_input, can_loop, unknown, assigned, statement_faults}
use Rattle.faults.specs.Soonest.{soonest, sooner}
use Rattle.tree.specs.Nodes.{child_of}
use Rattle.tree.specs.Trees.{name_at, place_at, expr_at, front_at, arms_at}
use Rattle.variables.specs.Table.{type_at, section_at, bounds_in, names_to}

-- the soonest so far, and the faults ps
unfoldable pub after : Option ℕ → List ℕ → Option ℕ
after best ps = sooner best (soonest ps)

-- what a FOR may run over, by the node of the declaration
abbrev pub loopable : List ℕ → ℕ → Bool
loopable p j = is_integer (type_at p j) && not (same_kind Input (section_at p j)) && not (is_array (bounds_in p j))

-- ---- the faults of the body: vs are the variables, t is the text, p the pool, ls the places of the FORs around, d of them

module _ (vs : List Variable) (t : List ℕ) where
  -- a name at a place
  abbrev pub unknown_name : ℕ → List ℕ
  unknown_name q = at q (not (is_known vs (name_at t q)))

  module _ (ls : List ℕ) (d : ℕ) where
    -- a name that is no target: an input's, or a loop variable's
    abbrev pub fixed_name : ℕ → Bool
    fixed_name q = is_input vs (name_at t q) || is_among (name_at t q) (names_to t ls d)

    -- a name that no FOR may run over here
    abbrev pub bad_loop : ℕ → Bool
    bad_loop q = not (can_loop vs (name_at t q)) || is_among (name_at t q) (names_to t ls d)

    abbrev pub loop_name : ℕ → List ℕ
    loop_name q = at q (bad_loop q)

  module _ (p : List ℕ) where
    abbrev pub unknown_at : ℕ → List ℕ
    unknown_at i = unknown vs (expr_at t p i)

    module _ (ls : List ℕ) (d : ℕ) where
      abbrev pub target_at : ℕ → List ℕ
      target_at i = assigned vs (names_to t ls d) (expr_at t p i)

      -- the head of a FOR: its variable, bounds and step
      abbrev pub head_at : ℕ → List ℕ
      head_at h =
          loop_name ls d (place_at p h)
          ++ unknown_at (child_of p (child_of p h 1) 1) ++ unknown_at (child_of p (child_of p h 1) 2) ++ unknown_at (child_of p h 2)

      abbrev pub assignment_at : ℕ → ℕ → List ℕ
      assignment_at a b = unknown_at a ++ target_at a ++ unknown_at b

      abbrev pub statements_at : ℕ → List ℕ
      statements_at i = statement_faults vs (front_at t p i done) (names_to t ls d)

      abbrev pub arm_faults_at : ℕ → List ℕ
      arm_faults_at i = statement_faults vs (arms_at t p i) (names_to t ls d)

      -- the two lists of an IF
      abbrev pub branches_at : ℕ → List ℕ
      branches_at j = statements_at (child_of p j 1) ++ statements_at (child_of p j 2)

      -- a FOR, with the head h and the body b
      abbrev pub repeat_at : ℕ → ℕ → List ℕ
      repeat_at h b =
          head_at h
          ++ statement_faults vs (front_at t p b done) (name_at t (place_at p h) ∷ names_to t ls d)

-- the first d words stand
abbrev pub Kept : ℕ → List ℕ → List ℕ → Type 0
Kept d old new = (k : ℕ) → k < d → get_or new k 0 ≡ get_or old k 0
