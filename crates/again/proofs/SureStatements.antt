-- What a walk gives for statements without faults: sure expressions, low enough, and IFs no deeper than the lists they come from.
use mathlib.Core.Path.{◌≡◌, refl, sym, ap, ◌∙◌, subst}
use mathlib.Core.Bool.{Bool, true, false, not, ◌&&◌, ◌||◌, false≢true}
use mathlib.Core.Option.{Option, none, some}
use mathlib.Core.List.{List, [], ◌∷◌, ◌++◌}
use Prim.Native.Nat.{ℕ, ◌≤◌}
use native.Mathlib.Omega.{arith}
use borrow.Author.Tests.{not-false}
use lib.IntN.{ℤ}
use Rattle.paper.specs.declared.Ty.{Ty}
use Rattle.paper.specs.declared.Ty.TheVariants.{Bool as BOOL, Dint as DINT}
use Rattle.paper.specs.declared.Kind.TheVariants.{Input}
use Rattle.paper.specs.Refusals.{given}
use Rattle.paper.specs.Types.{is_integer, fits, encode, decode, same_ty}
use Rattle.paper.specs.Source as S
use Rattle.paper.specs.Source.{Name}
use Rattle.paper.specs.Names as N
use Rattle.paper.specs.Names.{Variable, same_kind, find, is_among}
use Rattle.paper.specs.Typing as T
use Rattle.paper.specs.Typing.{Settled, judged, settled, type_of, type_in}
use Rattle.paper.specs.Heights as H
use Rattle.paper.specs.Plain.{Expr, State, store}
use Rattle.paper.specs.Meaning.{whole_value, value}
use Rattle.paper.specs.Unwinding as U
use Rattle.paper.specs.Unwinding.{Unwound, Selector, no_selector}
use Rattle.paper.proofs.Residues.{decode_fits}
use Rattle.demands.proofs.Truths.{and_true, or_false}
use Rattle.demands.proofs.Answers.{given_same, bind_some, no_fault, no_fault₃, no_fault₄, no_fault_else, no_fault_at, test_passed}
use Rattle.demands.proofs.TypeFacts.{same_eq}
use Rattle.demands.proofs.Judgements.{found_type, type_in_lem}
use Rattle.demands.proofs.Fits.{Fits, demand_none}
use Rattle.demands.proofs.Expressions.{Faultless, fit_of, settled_type}
use Rattle.demands.proofs.Assignments.{offered_own, demanded}
use Rattle.demands.proofs.Targets.{aimed}
use Rattle.demands.proofs.Walks.{selector_of, body_of, assign_walk, choice_walk, select_walk, arm_walk, loop_walk}
use Rattle.again.proofs.Forms.{depth}
use Rattle.again.proofs.Sure.{Low}
use Rattle.again.proofs.SureExpressions.{is_none, SureForm, sure_form}
use Rattle.again.proofs.SureTests.{SureSelector, none_sure, low_enough, tests_low}
use Rattle.again.proofs.NestedReading.{nest}
use Rattle.again.proofs.SureLoops.{Within, then, done_within, looped_within}

-- ---- what typing asked

module _ (vs : List Variable) (loops : List Name) where
  -- what an assignment demands of its right side
  assigned_fit : (t : Ty) (x : S.Expr) (q : ℕ) (e : S.Expr) → judged vs loops x ≡ T.typed t
      → T.assign_faults q e (judged vs loops x) (judged vs loops e) ≡ [] → Fits vs loops t e
  unfolding settled
  assigned_fit t x q e j h =
      let d : T.demand_faults t q (settled vs loops t e) ≡ [] = rw j at h in
      fit_of vs loops t e (demanded vs loops t t q e d (offered_own vs loops t e (demand_none t q (settled vs loops t e) d).1)).0

  -- a bound of a FOR over a variable of the type t
  bound_type : (t : Ty) (e : S.Expr) → is_integer t ≡ true → (settled vs loops t e).faults ≡ [] → T.is_bound loops t e (settled vs loops t e) ≡ true
      → type_in vs t e ≡ t
  bound_type t e i f b =
      let same = same_eq t (settled vs loops t e).ty (and_true (T.is_constant loops e) (same_ty t (settled vs loops t e).ty) b).1 in
      sym (same ∙ settled_type vs loops t e (record { none_found = f; offered = λ _. i }))

  -- all three bounds of a FOR
  bounds_type : (p : ℕ) (t : Ty) (a b c : S.Expr) → is_integer t ≡ true → T.loop_faults vs loops p t a b c ≡ [] → (type_in vs t a ≡ t) × (type_in vs t b ≡ t)
  bounds_type p t a b c i h =
      let x = settled vs loops t a in
      let y = settled vs loops t b in
      let z = settled vs loops t c in
      let bound : S.Expr → Settled → Bool = T.is_bound loops t in
      let (parts, own) = no_fault_else (x.faults ++ y.faults ++ z.faults) (N.at p (not (bound a x && bound b y && bound c z))) h in
      let (fx, fy, fz) = no_fault₃ x.faults y.faults z.faults parts in
      let (two, hc) = and_true (bound a x && bound b y) (bound c z) (test_passed p _ own) in
      let (ha, hb) = and_true (bound a x) (bound b y) two in
      (bound_type t a i fx ha, bound_type t b i fy hb)

-- a bound's value is of its type
whole_fits : (vs : List Variable) (env : State) (t : Ty) (e : S.Expr) (z : ℤ) → type_in vs t e ≡ t → whole_value vs env t e ≡ some z → fits t z ≡ true
unfolding whole_value
whole_fits vs env t e z h k =
    let (r, _, is) = bind_some (value vs env t e) (λ x. some (decode (type_in vs t e) x)) z k in
    let same : decode (type_in vs t e) r ≡ z = cc in
    subst (λ y. fits t y ≡ true) (ap (λ v. decode v r) (sym h) ∙ same) (decode_fits t r)

-- what is measured is low enough
measured_low : (e : S.Expr) → H.measured e ≡ [] → H.height e ≤ 32
unfolding H.measured
measured_low e h = low_enough (H.first_word e) (H.height e) (no_fault (H.too_high (H.first_word e) (H.height e)) (H.subscripts e) h).0

module _ (vs : List Variable) where
  -- what is asked of statements: no fault of names, types and heights, and that the walk gave u
  pub record Sound (loops : List Name) (env : State) (sel : Selector) (h : ℕ) (st : S.Stmts) (w : ℕ) (u : Unwound) : Type 0 where
    pub named : N.statement_faults vs st loops ≡ []
    pub typed : T.statement_faults vs st loops (some sel.ty) ≡ []
    pub low : H.statement_faults st h ≡ []
    pub walk : U.unwind vs st env sel w ≡ given u

  -- an expression's plain form is sure and low
  low_form : (loops : List Name) (env : State) (t : Ty) (e : S.Expr) (x : Expr) → Fits vs loops t e → U.plain_of vs env t e ≡ given x → H.measured e ≡ [] → Low x
  low_form loops env t e x f k m = let r = sure_form vs loops env t e x f k in (r.sure, rw r.high (measured_low e m))

  -- the selector of a CASE
  selector_sure : (loops : List Name) (env : State) (p : ℕ) (s : S.Expr) (x : Expr) → SureForm vs s x → is_integer (type_in vs DINT s) ≡ true
      → SureSelector (selector_of vs env p s x) (H.height s)
  selector_sure loops env p s x r i =
      record { sure = r.sure; integer = i; open_dint = λ o. go (type_of vs s) refl (sym r.open' ∙ o); high = r.high }
    where
      go : (m : Option Ty) → type_of vs s ≡ m → is_none (type_of vs s) ≡ true → type_in vs DINT s ≡ DINT
      go none e h = type_in_lem vs DINT s none e
      go (some t) e h = absurd (false≢true (rw e at h))

  -- a FOR's variable has an integer type
  loop_integer : (loops : List Name) (n : Name) (v : Variable) → find n vs ≡ some v → (not (N.can_loop vs n) || is_among n loops) ≡ false
      → is_integer v.declared.ty ≡ true
  unfolding N.can_loop
  loop_integer loops n v f h =
      let can = not-false (N.can_loop vs n) (or_false (not (N.can_loop vs n)) (is_among n loops) h).0 in
      let fit = rw (f, N.can_loop) at can in
      let output = not (same_kind Input v.declared.kind) in
      let single = not (N.is_array v.declared.bounds) in
      (and_true (is_integer v.declared.ty) output (and_true (is_integer v.declared.ty && output) single fit).0).0

  pub sure_walk : (st : S.Stmts) (loops : List Name) (env : State) (sel : Selector) (h w : ℕ) (u : Unwound)
      → SureSelector sel h → Sound loops env sel h st w u → Within (nest st) u
  unfolding U.unwind N.statement_faults T.statement_faults H.statement_faults nest depth
  sure_walk S.done loops env sel h w u ok f = rw (← given_same f.walk) (done_within 0 w)
  sure_walk (S.assign x q e k) loops env sel h w u ok f =
      let a = assign_walk vs env x e q k sel w u f.walk in
      let (n₁, n₂, n₃, n₄) = no_fault₄ (N.unknown vs x) (N.assigned vs loops x) (N.unknown vs e) (N.statement_faults vs k loops) f.named in
      let (t₁, t₂) = no_fault (T.assign_faults q e (judged vs loops x) (judged vs loops e)) (T.statement_faults vs k loops (some DINT)) f.typed in
      let (h₁, h₂, h₃) = no_fault₃ (H.subscripts x) (H.measured e) (H.statement_faults k 1) f.low in
      let b = aimed vs loops env x a.cell q e (judged vs loops e) a.at_cell t₁ in
      let fit = assigned_fit vs loops (type_in vs DINT x) x q e b.judged_as t₁ in
      let rest = sure_walk k loops env no_selector 1 a.then_weight a.rest none_sure (record { named = n₄; typed = t₂; low = h₃; walk = a.walk }) in
      rw (← a.is) (record { low = (low_form loops env (type_in vs DINT x) e a.value fit a.plain h₂, rest.low); shallow = rest.shallow })
  sure_walk (S.choice p q c a b k) loops env sel h w u ok f =
      let x = choice_walk vs env p q c a b k sel w u f.walk in
      let (n₁, n₂, n₃, n₄) = no_fault₄ (N.unknown vs c) (N.statement_faults vs a loops) (N.statement_faults vs b loops) (N.statement_faults vs k loops) f.named in
      let faults : S.Stmts → List ℕ = λ s. T.statement_faults vs s loops (some DINT) in
      let (t₁, t₂, t₃, t₄) = no_fault₄ (T.demand_faults BOOL p (settled vs loops DINT c)) (faults a) (faults b) (faults k) f.typed in
      let (h₁, h₂, h₃, h₄) = no_fault₄ (H.measured c) (H.statement_faults a 1) (H.statement_faults b 1) (H.statement_faults k 1) f.low in
      let test = low_form loops env DINT c x.test (fit_of vs loops DINT c (demanded vs loops BOOL DINT p c t₁ (λ _. refl)).0) x.plain h₁ in
      let ra = sure_walk a loops env no_selector 1 x.then_weight x.yes' none_sure (record { named = n₂; typed = t₂; low = h₂; walk = x.walk_yes }) in
      let rb = sure_walk b loops env no_selector 1 x.yes'.weight x.no' none_sure (record { named = n₃; typed = t₃; low = h₃; walk = x.walk_no }) in
      let rest = sure_walk k loops env no_selector 1 x.end_weight x.rest none_sure (record { named = n₄; typed = t₄; low = h₄; walk = x.walk }) in
      let da = ra.shallow in
      let db = rb.shallow in
      let dk = rest.shallow in
      rw (← x.is) (record { low = (test, ra.low, rb.low, rest.low); shallow = omega arith })
  sure_walk (S.select p s a k) loops env sel h w u ok f =
      let x = select_walk vs env p s a k sel w u f.walk in
      let own = selector_of vs env p s x.value in
      let y = settled vs loops DINT s in
      let ps = T.selector_faults p y in
      let (n₁, n₂, n₃) = no_fault₃ (N.unknown vs s) (N.statement_faults vs a loops) (N.statement_faults vs k loops) f.named in
      let (t₁, t₂, t₃) = no_fault₃ ps (T.statement_faults vs a loops (T.label_type ps y.ty)) (T.statement_faults vs k loops (some DINT)) f.typed in
      let (h₁, h₂, h₃) = no_fault₃ (H.subscripts s) (H.statement_faults a (H.height s)) (H.statement_faults k 1) f.low in
      let (faultless, integer) = no_fault_else y.faults (N.at p (not (is_integer y.ty))) t₁ in
      let sound : Faultless vs loops DINT s = record { none_found = faultless; offered = λ _. refl } in
      let same = settled_type vs loops DINT s sound in
      let labelled : T.statement_faults vs a loops (some (type_in vs DINT s)) ≡ [] = rw (t₁, same) at t₂ in
      let chosen = selector_sure loops env p s x.value (sure_form vs loops env DINT s x.value (fit_of vs loops DINT s sound) x.plain) (rw same at (test_passed p (is_integer y.ty) integer)) in
      let arms = sure_walk a loops env own (H.height s) w x.arms chosen (record { named = n₂; typed = labelled; low = h₂; walk = x.walk_arms }) in
      let rest = sure_walk k loops env no_selector 1 x.arms.weight x.rest none_sure (record { named = n₃; typed = t₃; low = h₃; walk = x.walk }) in
      rw (← x.is) (then _ (omega arith) (omega arith) arms rest)
  sure_walk (S.arm ls a k) loops env sel h w u ok f =
      let x = arm_walk vs env ls a k sel w u f.walk in
      let (n₁, n₂) = no_fault (N.statement_faults vs a loops) (N.statement_faults vs k loops) f.named in
      let (t₁, t₂, t₃) = no_fault₃ (T.labels_faults (some sel.ty) ls) (T.statement_faults vs a loops (some DINT)) (T.statement_faults vs k loops (some sel.ty)) f.typed in
      let (h₁, h₂, h₃) = no_fault₃ (H.arm_faults h ls) (H.statement_faults a 1) (H.statement_faults k h) f.low in
      let ra = sure_walk a loops env no_selector 1 x.then_weight x.yes' none_sure (record { named = n₁; typed = t₂; low = h₂; walk = x.walk_yes }) in
      let rk = sure_walk k loops env sel h x.yes'.weight x.no' ok (record { named = n₂; typed = t₃; low = h₃; walk = x.walk_no }) in
      let da = ra.shallow in
      let dk = rk.shallow in
      rw (← x.is) (record { low = (tests_low sel h ok ls t₁ h₁, ra.low, rk.low, tt); shallow = omega arith })
  sure_walk (S.loop p q n a b c body k) loops env sel h w u ok f =
      let x = loop_walk vs env p q n a b c body k sel w u f.walk in
      let own = N.at q (not (N.can_loop vs n) || is_among n loops) in
      let (n₁, n₂, n₃) = no_fault₃ (own ++ N.unknown vs a ++ N.unknown vs b ++ N.unknown vs c) (N.statement_faults vs body (n ∷ loops)) (N.statement_faults vs k loops) f.named in
      let (n₄, n₅, n₆, n₇) = no_fault₄ own (N.unknown vs a) (N.unknown vs b) (N.unknown vs c) n₁ in
      let (t₁, t₂, t₃) = no_fault₃ (T.loop_faults vs loops p (T.type_of_name vs n) a b c) (T.statement_faults vs body (n ∷ loops) (some DINT)) (T.statement_faults vs k loops (some DINT)) f.typed in
      let (h₁, h₂, h₃) = no_fault₃ (H.measured a ++ H.measured b ++ H.measured c) (H.statement_faults body 1) (H.statement_faults k 1) f.low in
      let t = x.var.declared.ty in
      let integer = loop_integer loops n x.var x.is_found (no_fault_at q _ n₄) in
      let (ta, tb) = bounds_type vs loops p t a b c integer (rw (found_type vs n x.var x.is_found) at t₁) in
      let inner : (z : ℤ) (w : ℕ) (y : Unwound) → body_of vs env body x.var x.cell z w ≡ given y → Within (nest body) y =
      λ z w y e.
      sure_walk body (n ∷ loops) (store x.cell (encode t z) env) no_selector 1 w y none_sure (record { named = n₂; typed = t₂; low = h₂; walk = e }) in
      let passes = looped_within p (nest body) t x.cell (body_of vs env body x.var x.cell) integer inner x.by x.to x.from w x.passes
      (whole_fits vs env t b x.to tb x.is_to) (whole_fits vs env t a x.from ta x.is_from) x.walk_passes in
      let rest = sure_walk k loops env no_selector 1 x.passes.weight x.rest none_sure (record { named = n₃; typed = t₃; low = h₃; walk = x.walk }) in
      rw (← x.is) (then _ (omega arith) (omega arith) passes rest)
