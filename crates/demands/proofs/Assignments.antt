-- An assignment: its plain form means what it does as written.
use mathlib.Core.Path.{◌≡◌, refl, sym, ◌∙◌}
use mathlib.Core.Bool.{true}
use mathlib.Core.Option.{Option, some}
use mathlib.Core.List.{List, []}
use Prim.Native.Nat.{ℕ}
use native.Mathlib.Omega.{arith}
use lib.IntN.{ℤ}
use Rattle.paper.specs.declared.Ty.{Ty}
use Rattle.paper.specs.declared.Ty.TheVariants.{Dint as DINT}
use Rattle.paper.specs.declared.Cell.{Cell}
use Rattle.paper.specs.Refusals.{given}
use Rattle.paper.specs.Types.{is_integer}
use Rattle.paper.specs.Source as S
use Rattle.paper.specs.Source.{Name, Declared}
use Rattle.paper.specs.Names.{Variable, assigned}
use Rattle.paper.specs.Typing.{numbers, judged, settled, demand_faults, assign_faults, type_in}
use Rattle.paper.specs.Plain.{Expr, done, assign, State, Ran, run, weight, assigns, parts, carried}
use Rattle.paper.specs.Meaning as M
use Rattle.paper.specs.Meaning.{◌>>=◌}
use Rattle.paper.specs.Unwinding.{Selector, plain_of}
use Rattle.demands.proofs.Answers.{Heavier}
use Rattle.demands.proofs.TypeFacts.{numbers_integer}
use Rattle.demands.proofs.Cells.{info_of, find_info}
use Rattle.demands.proofs.Fits.{demand_none}
use Rattle.demands.proofs.Expressions.{Agree, Faultless, PlainForm, settled_type, plain_form}
use Rattle.demands.proofs.Targets.{aims, aimed}
use Rattle.demands.proofs.Means.{Vars, Means, free_cell}

-- numbers that take the type that is demanded take an integer type
pub offered_own : (vs : List Variable) (loops : List Name) (t : Ty) (e : S.Expr)
    → t ≡ (settled vs loops t e).ty → judged vs loops e ≡ numbers → is_integer t ≡ true
unfolding settled
offered_own vs loops t e h n = numbers_integer t (sym (rw (n, settled) at h))

-- what is demanded of an expression and not faulted
pub demanded : (vs : List Variable) (loops : List Name) (d t : Ty) (p : ℕ) (e : S.Expr)
    → demand_faults d p (settled vs loops t e) ≡ [] → (judged vs loops e ≡ numbers → is_integer t ≡ true)
    → Faultless vs loops t e × (type_in vs t e ≡ d)
demanded vs loops d t p e h o =
    let k = demand_none d p (settled vs loops t e) h in
    let f : Faultless vs loops t e = record { none_found = k.0; offered = o } in
    (f, sym (settled_type vs loops t e f) ∙ sym k.1)

module _ (ds : List Declared) (loops : List Name) (env : State) (sel : Selector) (z : ℤ) where
  abbrev pub assign_run : (x e : S.Expr) → Ran → Option Ran
  assign_run x e r =
      M.cell_of (Vars ds) r.state x >>= λ c. M.value (Vars ds) r.state (type_in (Vars ds) DINT x) e >>= λ v. some (carried c v r)

  pub assign_means : (x e : S.Expr) (q w w' : ℕ) (c : Cell) (v : Expr)
      → M.cell_of (Vars ds) env x ≡ some c
      → plain_of (Vars ds) env (type_in (Vars ds) DINT x) e ≡ given v
      → Heavier (parts v) w w'
      → assigned (Vars ds) loops x ≡ []
      → assign_faults q e (judged (Vars ds) loops x) (judged (Vars ds) loops e) ≡ []
      → Means ds loops env sel z (assign_run x e) w (record { plain = assign c v done; weight = w' })
  unfolding weight assigns run settled
  assign_means x e q w w' c v hc hv hw ha ht =
      let t = type_in (Vars ds) DINT x in
      let a = aims (Vars ds) loops env x c hc ha in
      let b = aimed (Vars ds) loops env x c q e (judged (Vars ds) loops e) hc ht in
      let d : demand_faults t q (settled (Vars ds) loops t e) ≡ [] = rw b.judged_as at ht in
      let k = demanded (Vars ds) loops t t q e d (offered_own (Vars ds) loops t e (demand_none t q (settled (Vars ds) loops t e) d).1) in
      let form : (s : State) → Agree (Vars ds) loops env s → PlainForm (Vars ds) s t e v =
      λ s g. plain_form ds loops env s g t e v k.0 hv in
      record {
        same = λ r l g s. rw (b.same_cell r.state g, (form r.state g).same) refl;
        typed = ((info_of a.var, find_info ds a.name a.var a.found c a.cell, (a.writable, rw (k.1 ∙ a.type) at (form env (λ _ _ _ _. refl)).typed)), tt);
        keeps = λ n d m h. rw (free_cell ds loops a.name a.var c a.found a.cell a.free n d m h) refl;
        weighed = hw.is ∙ omega arith;
        light = λ _. hw.light;
      }
