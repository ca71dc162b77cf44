-- The walk of a CASE, from those of its selector and its arms.
use mathlib.Core.Path.{◌≡◌, refl, sym, ap, ap₂, ◌∙◌}
use mathlib.Core.List.{List}
use Prim.Native.Nat.{ℕ}
use Rattle.paper.specs.declared.Ty.TheVariants.{Dint as DINT}
use Rattle.std.specs.Prelude.{Result, Ok, Err}
use Rattle.paper.specs.declared.Refusal.{Refusal}
use Rattle.paper.specs.Refusals.{Answer, ◌>>=◌}
use Rattle.paper.specs.Source as S
use Rattle.paper.specs.Names.{Variable}
use Rattle.paper.specs.Typing.{type_in}
use Rattle.paper.specs.Plain.{Expr, State}
use Rattle.paper.specs.Unwinding.{Unwound, plain_of, unwind}
use Rattle.tree.specs.Nodes.{child_of}
use Rattle.tree.specs.Kinds.{IsStatement}
use Rattle.tree.specs.declared.kinds.Statement.TheVariants as K
use Rattle.tree.specs.Trees as T
use Rattle.tree.proofs.Decodes.{same_trans}
use Rattle.unwind.specs.declared.parts.Part.{Part}
use Rattle.unwind.specs.declared.lists.Walk.{Walk}
use Rattle.unwind.specs.declared.cases.Selector as Stand
use Rattle.unwind.specs.Parts.{PlainDid}
use Rattle.unwind.specs.Walks.{said, Front, UnwindDid}
use Rattle.unwind.specs.Arms.{selecting, ArmsDid}
use Rattle.unwind.proofs.Fronts.{front_as, front_is, select_front_lem}
use Rattle.unwind.proofs.Choosing.{part_refused}
use Rattle.unwind.proofs.Emits.{ends_of}

module _ (vs : List Variable) (t p : List ℕ) (env : State) (i n w : ℕ) (old : List ℕ) (kind : IsStatement p i K.Selection)
    (mid : List ℕ) (c : ℕ) (ec : c ≡ child_of p i 1) where
  abbrev E : S.Expr
  E = T.expr_at t p (child_of p i 1)

  abbrev from : Answer Expr → Answer Unwound
  from o = o >>= λ x. unwind vs (T.arms_at t p (child_of p i 2)) env (record { place = T.place_at p i; plain = x; ty = type_in vs DINT E }) w

  -- the answer, from that of the selector
  fronts : (new : List ℕ) (r : Result Walk Refusal) (o : Answer Expr) → o ≡ plain_of vs env DINT (T.expr_at t p c) → said new r ≡ from o
      → Front vs env (T.front_at t p i) w (said new r)
  fronts new r o own e =
      front_as vs env _ (T.front_at t p i) w _ (kind.list t)
      (front_is vs env _ w _ _ (sym (e ∙ ap from (own ∙ ap (λ k. plain_of vs env DINT (T.expr_at t p k)) ec))) (select_front_lem vs env _ _ _ w))

  pub selector_refused : (e : Refusal) → PlainDid vs t p env DINT c old mid n (Err e) → UnwindDid vs t p env env old mid i n w (Err e)
  selector_refused e looked =
      record {
        kept = refl;
        long = looked.long;
        same = looked.same;
        goes = tt;
        front = λ ins size. fronts mid (Err e) looked.own (looked.is ins) (part_refused mid n looked.own e looked.parted _);
      }

  pub select_did : (v : Part) → PlainDid vs t p env DINT c old mid n (Ok v) → (s : Stand.Selector) → s.place ≡ T.place_at p i → s.ty ≡ v.ty
      → (chosen : S.Expr) → chosen ≡ T.expr_at t p c → (env₁ : State) (new : List ℕ) (j : ℕ) → j ≡ child_of p i 2 → (r : Result Walk Refusal) → ArmsDid vs t p env env₁ mid new s chosen j n w r → UnwindDid vs t p env env₁ old new i n w r
  select_did v looked s ep et chosen is env₁ new j ej r d =
      let g = ends_of mid n looked.own v looked.parted in
      let ty : s.ty ≡ type_in vs DINT E = et ∙ looked.part.typed ∙ ap (λ k. type_in vs DINT (T.expr_at t p k)) ec in
      record {
        kept = d.kept;
        long = d.long ∙ looked.long;
        same = same_trans old mid new n looked.same d.same;
        goes = d.goes;
        front = λ ins size.
            fronts new r looked.own (looked.is ins)
            (d.is ins size g.0 (ap (plain_of vs env DINT) is ∙ sym (looked.is ins) ∙ g.1)
            ∙ ap (λ k. unwind vs (T.arms_at t p k) env (selecting s g.0) w) ej
            ∙ ap₂ (λ q u. unwind vs (T.arms_at t p (child_of p i 2)) env (record { place = q; plain = g.0; ty = u }) w) ep ty
            ∙ sym (ap from g.1));
      }
