-- Unwinding keeps the meaning: what a walk gives for a list of statements without faults means what the list does as written.
use mathlib.Core.Path.{◌≡◌, refl, sym, ◌∙◌}
use mathlib.Core.Bool.{Bool, true, false, not, ◌&&◌, ◌||◌}
use mathlib.Core.Option.{Option, none, some}
use mathlib.Core.List.{List, [], ◌∷◌, ◌++◌}
use Prim.Native.Nat.{ℕ}
use borrow.Author.Tests.{not-true, not-false}
use lib.IntN.{ℤ, pos}
use lib.ListN.{length, length-set}
use Rattle.paper.specs.declared.Ty.{Ty}
use Rattle.paper.specs.declared.Ty.TheVariants.{Bool as BOOL, Dint as DINT}
use Rattle.paper.specs.declared.Cell.{Cell}
use Rattle.paper.specs.Refusals.{given}
use Rattle.paper.specs.Types.{is_integer, encode, is_true}
use Rattle.paper.specs.Source as S
use Rattle.paper.specs.Source.{Name, Declared}
use Rattle.paper.specs.Names as N
use Rattle.paper.specs.Names.{Variable, find, is_among}
use Rattle.paper.specs.Typing as T
use Rattle.paper.specs.Typing.{judged, settled, type_in}
use Rattle.paper.specs.Plain.{State, Ran, carried, ◌⨾◌, store}
use Rattle.paper.specs.Meaning as M
use Rattle.paper.specs.Meaning.{◌>>=◌}
use Rattle.paper.specs.Unwinding as U
use Rattle.paper.specs.Unwinding.{Unwound, Selector, no_selector}
use Rattle.demands.proofs.Truths.{and_true, or_false}
use Rattle.demands.proofs.Answers.{given_same, no_fault, no_fault₃, no_fault₄, no_fault_else, no_fault_at, test_passed}
use Rattle.demands.proofs.Typed.{Typed}
use Rattle.demands.proofs.Cells.{info_of}
use Rattle.demands.proofs.Expressions.{Faultless, constant_whole, settled_type, plain_form}
use Rattle.demands.proofs.Means.{Vars, Infos, Means, then, respelled, anywhere}
use Rattle.demands.proofs.Assignments.{assign_means}
use Rattle.demands.proofs.Choices.{branched, if_means, arm_means, select_means}
use Rattle.demands.proofs.Loops.{LoopVariable, done_means, looped_means}
use Rattle.demands.proofs.Walks.{selector_of, body_of, assign_walk, choice_walk, select_walk, arm_walk, loop_walk}

-- a selector whose plain form has its type, an integer's
pub record Selects (ds : List Declared) (sel : Selector) : Type 0 where
  pub typed : Typed (Infos ds) sel.plain sel.ty
  pub integer : is_integer sel.ty ≡ true

pub none_selects : (ds : List Declared) → Selects ds no_selector
none_selects ds = record { typed = refl; integer = refl }

-- ---- runs as written, spelled as one run behind another

bind_bind : {A B C : Type 0} (o : Option A) (f : A → Option B) (g : B → Option C) → (o >>= λ a. f a >>= g) ≡ (o >>= f >>= g)
bind_bind none f g = refl
bind_bind (some a) f g = refl

carry_then : (o : Option Cell) (p : Option ℕ) (r : Ran) (g : Ran → Option Ran)
    → (o >>= λ c. p >>= λ v. g (carried c v r)) ≡ (o >>= (λ c. p >>= λ v. some (carried c v r)) >>= g)
carry_then none p r g = refl
carry_then (some c) none r g = refl
carry_then (some c) (some v) r g = refl

module _ (ds : List Declared) where
  -- what is asked of a list: no fault of its names or types, and that the walk gave u
  pub record Walked (loops : List Name) (env : State) (sel : Selector) (st : S.Stmts) (w : ℕ) (u : Unwound) : Type 0 where
    pub named : N.statement_faults (Vars ds) st loops ≡ []
    pub typed : T.statement_faults (Vars ds) st loops (some sel.ty) ≡ []
    pub walk : U.unwind (Vars ds) st env sel w ≡ given u

  -- the variable of a FOR without faults
  loop_variable : (loops : List Name) (n : Name) (v : Variable) (c : Cell) → find n (Vars ds) ≡ some v → M.cell_of_variable v ≡ some c
      → (not (N.can_loop (Vars ds) n) || is_among n loops) ≡ false → LoopVariable ds loops n v c
  unfolding N.can_loop
  loop_variable loops n v c f e h =
      let (can, free) = or_false (not (N.can_loop (Vars ds) n)) (is_among n loops) h in
      let fit = rw (f, N.can_loop) at (not-false (N.can_loop (Vars ds) n) can) in
      let (either, single) = and_true (is_integer v.declared.ty && not (info_of v).is_input) (not (N.is_array v.declared.bounds)) fit in
      let (integer, output) = and_true (is_integer v.declared.ty) (not (info_of v).is_input) either in
      record { found = f; cell = e; writable = not-true (info_of v).is_input output; free = free }

  -- a, b and c of a FOR without faults are scan constants
  loop_constants : (loops : List Name) (p : ℕ) (t : Ty) (a b c : S.Expr) → T.loop_faults (Vars ds) loops p t a b c ≡ []
      → (T.is_constant loops a ≡ true) × (T.is_constant loops b ≡ true) × (T.is_constant loops c ≡ true)
  loop_constants loops p t a b c h =
      let x = settled (Vars ds) loops t a in
      let y = settled (Vars ds) loops t b in
      let z = settled (Vars ds) loops t c in
      let bound : S.Expr → T.Settled → Bool = T.is_bound loops t in
      let (parts_none, own) = no_fault_else (x.faults ++ y.faults ++ z.faults) (N.at p (not (bound a x && bound b y && bound c z))) h in
      let (ab, hc) = and_true (bound a x && bound b y) (bound c z) (test_passed p _ own) in
      let (ha, hb) = and_true (bound a x) (bound b y) ab in
      ((and_true (T.is_constant loops a) _ ha).0, (and_true (T.is_constant loops b) _ hb).0, (and_true (T.is_constant loops c) _ hc).0)

  pub unwinds : (st : S.Stmts) (loops : List Name) (env : State) (sel : Selector) (z : ℤ) (w : ℕ) (u : Unwound)
      → Selects ds sel → length env ≡ length (Infos ds) → Walked loops env sel st w u
      → Means ds loops env sel z (M.run (Vars ds) st z) w u
  unfolding U.unwind M.run N.statement_faults T.statement_faults ◌⨾◌
  unwinds S.done loops env sel z w u ok long h = rw (← given_same h.walk) (anywhere (done_means ds loops env w))
  unwinds (S.assign x q e k) loops env sel z w u ok long h =
      let vs = Vars ds in
      let a = assign_walk vs env x e q k sel w u h.walk in
      let (n₁, n₂, n₃, n₄) = no_fault₄ (N.unknown vs x) (N.assigned vs loops x) (N.unknown vs e) (N.statement_faults vs k loops) h.named in
      let (t₁, t₂) = no_fault (T.assign_faults q e (judged vs loops x) (judged vs loops e)) (T.statement_faults vs k loops (some DINT)) h.typed in
      let rest = unwinds k loops env no_selector (pos 0) a.then_weight a.rest (none_selects ds) long
      (record { named = n₄; typed = t₂; walk = a.walk }) in
      rw (← a.is)
      (respelled
      (λ r g. carry_then (M.cell_of vs r.state x) (M.value vs r.state (type_in vs DINT x) e) r (M.run vs k (pos 0)))
      (then (assign_means ds loops env sel z x e q w a.then_weight a.cell a.value a.at_cell a.plain a.heavy n₂ t₁) rest))
  unwinds (S.choice p q c a b k) loops env sel z w u ok long h =
      let vs = Vars ds in
      let x = choice_walk vs env p q c a b k sel w u h.walk in
      let (n₁, n₂, n₃, n₄) = no_fault₄ (N.unknown vs c) (N.statement_faults vs a loops) (N.statement_faults vs b loops) (N.statement_faults vs k loops) h.named in
      let faults : S.Stmts → List ℕ = λ s. T.statement_faults vs s loops (some DINT) in
      let (t₁, t₂, t₃, t₄) = no_fault₄ (T.demand_faults BOOL p (settled vs loops DINT c)) (faults a) (faults b) (faults k) h.typed in
      let ma = unwinds a loops env no_selector (pos 0) x.then_weight x.yes' (none_selects ds) long
      (record { named = n₂; typed = t₂; walk = x.walk_yes }) in
      let mb = unwinds b loops env no_selector (pos 0) x.yes'.weight x.no' (none_selects ds) long
      (record { named = n₃; typed = t₃; walk = x.walk_no }) in
      let rest = unwinds k loops env no_selector (pos 0) x.end_weight x.rest (none_selects ds) long
      (record { named = n₄; typed = t₄; walk = x.walk }) in
      let ra = M.run vs a (pos 0) in
      let rb = M.run vs b (pos 0) in
      rw (← x.is)
      (respelled (λ r g. bind_bind (M.value vs r.state DINT c) (λ v. branched (is_true v) ra rb r) (M.run vs k (pos 0)))
      (then
      (if_means ds loops env sel z c ra rb p w x.then_weight x.end_weight x.test x.yes' x.no' x.plain x.heavy ma mb x.heavy_end t₁)
      rest))
  unwinds (S.select p s a k) loops env sel z w u ok long h =
      let vs = Vars ds in
      let t = type_in vs DINT s in
      let x = select_walk vs env p s a k sel w u h.walk in
      let own = selector_of vs env p s x.value in
      let y = settled vs loops DINT s in
      let ps = T.selector_faults p y in
      let (n₁, n₂, n₃) = no_fault₃ (N.unknown vs s) (N.statement_faults vs a loops) (N.statement_faults vs k loops) h.named in
      let (t₁, t₂, t₃) = no_fault₃ ps (T.statement_faults vs a loops (T.label_type ps y.ty)) (T.statement_faults vs k loops (some DINT)) h.typed in
      let (faultless, integer) = no_fault_else y.faults (N.at p (not (is_integer y.ty))) t₁ in
      let f : Faultless vs loops DINT s = record { none_found = faultless; offered = λ _. refl } in
      let same = settled_type vs loops DINT s f in
      let labelled : T.statement_faults vs a loops (some t) ≡ [] = rw (t₁, same) at t₂ in
      let chosen : Selects ds own =
      record {
        typed = (plain_form ds loops env env (λ _ _ _ _. refl) DINT s x.value f x.plain).typed;
        integer = rw same at (test_passed p (is_integer y.ty) integer);
      } in
      let arms : (i : ℤ) → Means ds loops env own i (M.run vs a i) w x.arms =
      λ i. unwinds a loops env own i w x.arms chosen long (record { named = n₂; typed = labelled; walk = x.walk_arms }) in
      let rest = unwinds k loops env no_selector (pos 0) x.arms.weight x.rest (none_selects ds) long
      (record { named = n₃; typed = t₃; walk = x.walk }) in
      rw (← x.is)
      (respelled (λ r g. bind_bind (M.whole_value vs r.state DINT s) (λ i. M.run vs a i r) (M.run vs k (pos 0)))
      (then (select_means ds loops env sel z p s x.value (M.run vs a) w x.arms f x.plain arms) rest))
  unwinds (S.arm ls a k) loops env sel z w u ok long h =
      let vs = Vars ds in
      let x = arm_walk vs env ls a k sel w u h.walk in
      let (n₁, n₂) = no_fault (N.statement_faults vs a loops) (N.statement_faults vs k loops) h.named in
      let (t₁, t₂, t₃) = no_fault₃ (T.labels_faults (some sel.ty) ls) (T.statement_faults vs a loops (some DINT)) (T.statement_faults vs k loops (some sel.ty)) h.typed in
      let ma = unwinds a loops env no_selector (pos 0) x.then_weight x.yes' (none_selects ds) long
      (record { named = n₁; typed = t₂; walk = x.walk_yes }) in
      let mk = unwinds k loops env sel z x.yes'.weight x.no' ok long (record { named = n₂; typed = t₃; walk = x.walk_no }) in
      rw (← x.is)
      (arm_means ds loops env sel z ls (M.run vs a (pos 0)) (M.run vs k z) w x.then_weight x.end_weight x.yes' x.no'
      ok.typed ok.integer t₁ x.heavy ma mk x.heavy_end)
  unwinds (S.loop p q n a b c body k) loops env sel z w u ok long h =
      let vs = Vars ds in
      let x = loop_walk vs env p q n a b c body k sel w u h.walk in
      let own = N.at q (not (N.can_loop vs n) || is_among n loops) in
      let (n₁, n₂, n₃) = no_fault₃ (own ++ N.unknown vs a ++ N.unknown vs b ++ N.unknown vs c) (N.statement_faults vs body (n ∷ loops)) (N.statement_faults vs k loops) h.named in
      let (n₄, n₅, n₆, n₇) = no_fault₄ own (N.unknown vs a) (N.unknown vs b) (N.unknown vs c) n₁ in
      let (t₁, t₂, t₃) = no_fault₃ (T.loop_faults vs loops p (T.type_of_name vs n) a b c) (T.statement_faults vs body (n ∷ loops) (some DINT)) (T.statement_faults vs k loops (some DINT)) h.typed in
      let (ca, cb, cc') = loop_constants loops p (T.type_of_name vs n) a b c t₁ in
      let is = loop_variable loops n x.var x.cell x.is_found x.at_cell (no_fault_at q _ n₄) in
      let t = x.var.declared.ty in
      let inner : (i : ℤ) (w : ℕ) (y : Unwound) → body_of vs env body x.var x.cell i w ≡ given y
      → Means ds (n ∷ loops) (store x.cell (encode t i) env) no_selector (pos 0) (M.run vs body (pos 0)) w y =
      λ i w y e.
      unwinds body (n ∷ loops) (store x.cell (encode t i) env) no_selector (pos 0) w y (none_selects ds)
      (length-set env x.cell.0 (encode t i) ∙ long) (record { named = n₂; typed = t₂; walk = e }) in
      let passes = looped_means ds loops env n x.var x.cell is long (M.run vs body (pos 0)) (body_of vs env body x.var x.cell) inner
      p x.by x.to x.from w x.passes x.walk_passes in
      let rest = unwinds k loops env no_selector (pos 0) x.passes.weight x.rest (none_selects ds) long
      (record { named = n₃; typed = t₃; walk = x.walk }) in
      rw (← x.is)
      (respelled
      (λ r g.
      rw (
        x.is_found,
        x.at_cell,
        sym (constant_whole vs loops env r.state g t c cc') ∙ x.is_by,
        sym (constant_whole vs loops env r.state g t a ca) ∙ x.is_from,
        sym (constant_whole vs loops env r.state g t b cb) ∙ x.is_to,
      ) refl)
      (then (anywhere passes) rest))
