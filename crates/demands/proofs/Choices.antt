-- IF and CASE: their plain forms mean what they do as written.
use mathlib.Core.Path.{◌≡◌, refl, ◌∙◌}
use mathlib.Core.Bool.{Bool, true, false}
use mathlib.Core.Option.{Option, some}
use mathlib.Core.List.{List, []}
use Prim.Native.Nat.{ℕ}
use native.Mathlib.Omega.{arith}
use lib.IntN.{ℤ, pos}
use lib.ListN.{length}
use Rattle.paper.specs.declared.Ty.TheVariants.{Bool as BOOL, Dint as DINT}
use Rattle.paper.specs.Refusals.{given}
use Rattle.paper.specs.Types.{is_integer, decode, is_true}
use Rattle.paper.specs.Source as S
use Rattle.paper.specs.Source.{Name, Declared}
use Rattle.paper.specs.Typing.{labels_faults, settled, demand_faults, type_in}
use Rattle.paper.specs.Plain.{Expr, done, choice, State, Ran, value_of, run, weight, assigns, parts, tested, cells_within}
use Rattle.paper.specs.Meaning as M
use Rattle.paper.specs.Meaning.{◌>>=◌}
use Rattle.paper.specs.Unwinding.{Unwound, Selector, no_selector, plain_of, tests_of}
use Rattle.demands.proofs.Answers.{Heavier}
use Rattle.demands.proofs.Typed.{Typed}
use Rattle.demands.proofs.PlainRuns.{taken}
use Rattle.demands.proofs.CaseTests.{tests_match, tests_typed}
use Rattle.demands.proofs.Expressions.{Agree, Faultless, PlainForm, plain_form}
use Rattle.demands.proofs.Means.{Vars, Infos, selected, Means, none_selected, restated, anywhere}
use Rattle.demands.proofs.Assignments.{demanded}

-- one of two runs, by a test
abbrev pub branched : Bool → (Ran → Option Ran) → (Ran → Option Ran) → Ran → Option Ran
branched t f g r = elim t [ true ↦ f (tested r) | false ↦ g (tested r) ]

branch_same : (t : Bool) (f g : Ran → Option Ran) (r x y : Ran) → f (tested r) ≡ some x → g (tested r) ≡ some y
    → branched t f g r ≡ some (taken t x y)
branch_same true f g r x y h k = h
branch_same false f g r x y h k = k

module _ (ds : List Declared) (loops : List Name) (env : State) (sel : Selector) (z : ℤ) where
  -- an IF of ST0, where h is the run by its test
  pub branch_means : (test : Expr) (h f g : Ran → Option Ran) (w w₁ w₂ : ℕ) (x y : Unwound)
      → Typed (Infos ds) test BOOL
      → Heavier (parts test) w w₁
      → Means ds loops env no_selector (pos 0) f w₁ x
      → Means ds loops env sel z g x.weight y
      → Heavier (cells_within (length (Infos ds)) x.plain y.plain) y.weight w₂
      → ((r : Ran) → Agree (Vars ds) loops env r.state → selected sel r.state ≡ z
      → h r ≡ branched (is_true (value_of r.state test)) f g r)
      → Means ds loops env sel z h w (record { plain = choice test x.plain y.plain done; weight = w₂ })
  unfolding run assigns weight
  branch_means test h f g w w₁ w₂ x y t h₁ a b h₂ e =
      let p = h₁.is in
      let q = h₂.is in
      let a' = a.weighed in
      let b' = b.weighed in
      record {
        same = λ r l ag s.
            e r ag s
            ∙ branch_same (is_true (value_of r.state test)) f g r _ _
            (a.same (tested r) l ag (none_selected r.state))
            (b.same (tested r) l ag s);
        typed = (t, a.typed, b.typed, tt);
        keeps = λ n c m k. rw (a.keeps n c m k, b.keeps n c m k) refl;
        weighed = omega arith;
        light = λ _. h₂.light;
      }

  -- IF
  pub if_means : (c : S.Expr) (f g : Ran → Option Ran) (p w w₁ w₂ : ℕ) (v : Expr) (x y : Unwound)
      → plain_of (Vars ds) env DINT c ≡ given v
      → Heavier (parts v) w w₁
      → Means ds loops env no_selector (pos 0) f w₁ x
      → Means ds loops env no_selector (pos 0) g x.weight y
      → Heavier (cells_within (length (Infos ds)) x.plain y.plain) y.weight w₂
      → demand_faults BOOL p (settled (Vars ds) loops DINT c) ≡ []
      → Means ds loops env sel z (λ r. M.value (Vars ds) r.state DINT c >>= λ b. branched (is_true b) f g r) w
      (record { plain = choice v x.plain y.plain done; weight = w₂ })
  if_means c f g p w w₁ w₂ v x y hv h₁ a b h₂ hd =
      let k = demanded (Vars ds) loops BOOL DINT p c hd (λ _. refl) in
      let form : (s : State) → Agree (Vars ds) loops env s → PlainForm (Vars ds) s DINT c v =
      λ s g'. plain_form ds loops env s g' DINT c v k.0 hv in
      branch_means v (λ r. M.value (Vars ds) r.state DINT c >>= λ b. branched (is_true b) f g r) f g w w₁ w₂ x y
      (rw k.1 at (form env (λ _ _ _ _. refl)).typed) h₁ a (anywhere b) h₂
      (λ r g' s. rw (form r.state g').same refl)

  -- an arm of a CASE
  pub arm_means : (ls : List S.Label) (f g : Ran → Option Ran) (w w₁ w₂ : ℕ) (x y : Unwound)
      → Typed (Infos ds) sel.plain sel.ty → is_integer sel.ty ≡ true
      → labels_faults (some sel.ty) ls ≡ []
      → Heavier (parts (tests_of sel ls)) w w₁
      → Means ds loops env no_selector (pos 0) f w₁ x
      → Means ds loops env sel z g x.weight y
      → Heavier (cells_within (length (Infos ds)) x.plain y.plain) y.weight w₂
      → Means ds loops env sel z (branched (M.matches_any z ls) f g) w
      (record { plain = choice (tests_of sel ls) x.plain y.plain done; weight = w₂ })
  arm_means ls f g w w₁ w₂ x y t i hl h₁ a b h₂ =
      branch_means (tests_of sel ls) (branched (M.matches_any z ls) f g) f g w w₁ w₂ x y (tests_typed (Infos ds) sel ls t i) h₁ a b h₂
      (λ r g' s. rw (tests_match r.state sel z ls s hl) refl)

  -- CASE, whose arms mean G at each value of the selector
  pub select_means : (p : ℕ) (e : S.Expr) (v : Expr) (G : ℤ → Ran → Option Ran) (w : ℕ) (x : Unwound)
      → Faultless (Vars ds) loops DINT e
      → plain_of (Vars ds) env DINT e ≡ given v
      → ((y : ℤ) → Means ds loops env (record { place = p; plain = v; ty = type_in (Vars ds) DINT e }) y (G y) w x)
      → Means ds loops env sel z (λ r. M.whole_value (Vars ds) r.state DINT e >>= λ y. G y r) w x
  unfolding M.whole_value
  select_means p e v G w x f hv arms =
      restated (arms (pos 0))
      (λ r l g s.
      rw (plain_form ds loops env r.state g DINT e v f hv).same
      ((arms (decode (type_in (Vars ds) DINT e) (value_of r.state v))).same r l g refl))
