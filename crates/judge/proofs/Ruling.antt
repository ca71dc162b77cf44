-- 5 to 7 of a program: each stage answers by the soonest of its faults.
use mathlib.Core.Path.{◌≡◌, refl, sym, ap, ◌∙◌}
use mathlib.Core.Option.{Option, none, some}
use mathlib.Core.List.{List, []}
use Prim.Native.Nat.{ℕ, ◌+◌, ◌*◌, ◌≤◌}
use native.Mathlib.Omega.{arith}
use lib.ListN.{length, take}
use Rattle.std.specs.Prelude.{Result, Ok, Err}
use Rattle.std.specs.Prelude as Std
use Rattle.paper.specs.declared.Why.{Why}
use Rattle.paper.specs.declared.Why.TheVariants.{BadName, BadType, TooHigh}
use Rattle.paper.specs.declared.Refusal.{Refusal}
use Rattle.paper.specs.Refusals.{Answer, refused, given, Gives, ◌>>=◌}
use Rattle.paper.specs.Source.{Program}
use Rattle.paper.specs.Names.{variables_of, cells_of, name_faults, declaration_faults, statement_faults}
use Rattle.paper.specs.Typing.{type_faults}
use Rattle.paper.specs.Heights.{height_faults}
use Rattle.paper.specs.Judge.{smallest, faultless}
use Rattle.demands.proofs.Answers.{no_fault}
use Rattle.demands.proofs.Cells.{few_cells}
use Rattle.tree.specs.Trees.{program_at}
use Rattle.faults.specs.Soonest.{soonest}
use Rattle.faults.proofs.Soonest.{soonest_empty}
use Rattle.names.specs.declared.Named.{Named}
use Rattle.names.specs.Judged.{Judges, Judged}
use Rattle.names.proofs.Listed.{listed_all}
use Rattle.types.specs.Statements.{faults_at}
use Rattle.types.proofs.Programs.{type_faults_lem}
use Rattle.judge.specs.declared.rules.Ruled.{Ruled}
use Rattle.judge.specs.Rules.{ruled, Fits, Keeps, Passes}
use Rattle.judge.proofs.Gives.{stops, goes}

-- no fault is found
clear : (w : Why) (ps : List ℕ) (u : Unit {0}) → Gives (λ sound done. Unit {0}) (faultless w ps) (Ok u) → ps ≡ []
unfolding soonest
clear w ps u h = soonest_empty ps (go (smallest ps) refl h)
  where
    go : (o : Option ℕ) → smallest ps ≡ o → Gives {A = Unit {0}} (λ sound done. Unit {0}) (elim o [ none ↦ given tt | some p ↦ refused w p ]) (Ok u) → soonest ps ≡ Std.None
    go none e h = rw e refl
    go (some p) e h = absurd cc

module _ (t p old new scratch : List ℕ) (root : ℕ) (n : Named) (fits : Fits t p old scratch root) (j : Judged t p old new (length scratch) root n) where
  abbrev pr : Program
  pr = program_at t p root

  judges : Judges t p new pr n
  judges = j.judges fits.names fits.variables

  abbrev Kept : Answer Program → Result Ruled Refusal → Type 0
  Kept a r = Gives (Keeps t p new) a r

  pub bad_name : (e : Refusal) → Passes BadName n.first (Err e) → Kept (ruled pr) (Err e)
  bad_name e h = stops _ _ _ (faultless BadName (name_faults pr)) e (h (name_faults pr) judges.first)

  module _ (u : Unit {0}) (named : Passes BadName n.first (Ok u)) (y : Std.Option ℕ) (typed : y ≡ soonest (faults_at t p (take (4 * n.count) new) root)) where
    -- behind 5
    behind_names : (r : Result Ruled Refusal)
        → Kept (faultless BadType (type_faults pr) >>= λ typed. faultless TooHigh (height_faults pr) >>= λ low. given pr) r
        → Kept (ruled pr) r
    behind_names r h = goes _ _ _ (faultless BadName (name_faults pr)) u r (named (name_faults pr) judges.first) (λ x e d. h)

    same : y ≡ soonest (type_faults pr)
    same = typed ∙ ap soonest (type_faults_lem t p (take (4 * n.count) new) root judges.part)

    pub bad_type : (e : Refusal) → Passes BadType y (Err e) → Kept (ruled pr) (Err e)
    bad_type e h = behind_names (Err e) (stops _ _ _ (faultless BadType (type_faults pr)) e (h (type_faults pr) same))

    module _ (v : Unit {0}) (sound : Passes BadType y (Ok v)) (z : Std.Option ℕ) (low : z ≡ soonest (height_faults pr)) where
      behind_types : (r : Result Ruled Refusal) → Kept (faultless TooHigh (height_faults pr) >>= λ low. given pr) r → Kept (ruled pr) r
      behind_types r h = behind_names r (goes _ _ _ (faultless BadType (type_faults pr)) v r (sound (type_faults pr) same) (λ x e d. h))

      pub too_high : (e : Refusal) → Passes TooHigh z (Err e) → Kept (ruled pr) (Err e)
      too_high e h = behind_types (Err e) (stops _ _ _ (faultless TooHigh (height_faults pr)) e (h (height_faults pr) low))

      few : length (cells_of (variables_of pr.declared)) ≤ 64
      unfolding name_faults
      few =
          let none = clear BadName (name_faults pr) u (named (name_faults pr) judges.first) in
          few_cells pr.declared (no_fault (declaration_faults [] 0 pr.declared) (statement_faults (variables_of pr.declared) pr.body []) none).0

      -- the program with its variables is sound so far
      pub keeps : (w : Unit {0}) → Passes TooHigh z (Ok w) → 4 * root + 4 ≤ length p → length new ≡ length old
          → Kept (ruled pr) (Ok (record { root = root; variables = n.count; cells = n.cells }))
      keeps w h lies long =
          let room : 4 * n.count ≤ length new = omega (arith, j.most, long) in
          let cells : n.cells ≡ length (cells_of (variables_of pr.declared)) = omega (arith, judges.cells, few) in
          behind_types _ (goes _ _ _ (faultless TooHigh (height_faults pr)) w _ (h (height_faults pr) low) (λ x e d. record {
            root = lies;
            program = refl;
            room = room;
            variables = listed_all t p new pr n judges room few;
            cells = cells;
            few = omega (arith, cells, few);
          }))
