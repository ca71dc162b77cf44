-- The passes of a FOR walked, one behind another.
use mathlib.Core.Path.{◌≡◌, refl, sym, ap, ap₂, subst, fun_ext, ◌∙◌}
use mathlib.Core.Bool.{Bool, true, false}
use mathlib.Core.List.{List}
use Prim.Native.Nat.{ℕ, zero, suc, ◌+◌, ◌<◌, min}
use native.Mathlib.Omega.{arith}
use lib.IntN.{ℤ, ◌+ℤ◌, ◌-ℤ◌, nat_abs}
use lib.ListN.{length, set, length-set}
use lib.Seq.{set-set}
use Rattle.paper.specs.declared.Cell.{Cell}
use Rattle.paper.specs.declared.Ty.{Ty}
use Rattle.std.specs.Prelude.{Result, Ok, Err}
use Rattle.std.proofs.lemmas.Result.{IfOk-weaker}
use Rattle.paper.specs.declared.Refusal.{Refusal}
use Rattle.paper.specs.declared.Why.{Why}
use Rattle.paper.specs.Refusals.{Answer, refused, given, ◌>>=◌}
use Rattle.paper.specs.Types.{encode}
use Rattle.paper.specs.Source as S
use Rattle.paper.specs.Names.{Variable, cells_of}
use Rattle.paper.specs.Plain.{Stmts, State, number, assign, done, ◌⨾◌}
use Rattle.paper.specs.Meaning.{passed}
use Rattle.paper.specs.Unwinding.{Unwound, unwound, heavier, no_selector, turns, pass_of, unwind}
use Rattle.paper.proofs.Residues.{nearer}
use Rattle.tree.specs.Nodes.{Same}
use Rattle.tree.specs.Trees as T
use Rattle.tree.proofs.Decodes.{same_less, same_trans}
use Rattle.plain.specs.Flat.{list_at}
use Rattle.plain.proofs.Frames.{list_same}
use Rattle.unwind.specs.declared.lists.Walk.{Walk}
use Rattle.unwind.specs.declared.loops.Head.{Head}
use Rattle.unwind.specs.Parts.{Inside}
use Rattle.unwind.specs.Walks.{said, Goes, Linked, behind, UnwindDid}
use Rattle.unwind.specs.Loops.{cell_of_head, SetDid, body_of, turns_from, TurnsReady, TurnsDid}
use Rattle.unwind.proofs.Walking.{weighs}
use Rattle.unwind.proofs.Fronts.{behind_both, front_done}
use Rattle.unwind.proofs.Values.{next_small, back, next_back, passed_back}

-- ---- answers

-- the first of two stages refuses, where the second does not
first_refused : {A B : Type 0} (o : Answer A) (f : A → B) (y : Why) (q : ℕ) → (o >>= λ a. given (f a)) ≡ refused y q → o ≡ refused y q
first_refused (refused u z) f y q h = cc
first_refused (given a) f y q h = let z : ◌≡◌ {A = ℕ} 0 1 = cc in absurd (omega arith)

plain_in : Answer Unwound → Stmts
plain_in (refused y q) = done
plain_in (given x) = x.plain

-- ---- one pass

module _ (q : ℕ) (ty : Ty) (cell : Cell) (body : ℤ → ℕ → Answer Unwound) (v : ℤ) (w : ℕ) where
  pass_heavy : (y : Why) (z : ℕ) → heavier q 1 w ≡ refused y z → pass_of q ty cell body v w ≡ refused y z
  unfolding pass_of
  pass_heavy y z e = ap (λ o. o >>= λ m. body v m >>= λ x. unwound (assign cell (number ty v) x.plain) x.weight) e

  pass_body : (m : ℕ) (o : Answer Unwound) → heavier q 1 w ≡ given m → body v m ≡ o
      → pass_of q ty cell body v w ≡ (o >>= λ x. unwound (assign cell (number ty v) x.plain) x.weight)
  unfolding pass_of
  pass_body m o e h =
      ap (λ o. o >>= λ m. body v m >>= λ x. unwound (assign cell (number ty v) x.plain) x.weight) e
      ∙ ap (λ o. o >>= λ x. unwound (assign cell (number ty v) x.plain) x.weight) h

-- ---- all passes

module _ (pass : ℤ → ℕ → Answer Unwound) (c b v : ℤ) (w : ℕ) where
  turns_stop : (f : ℕ) (y : Why) (q : ℕ) → 0 < f → pass v w ≡ refused y q → turns f pass c b v w ≡ refused y q
  unfolding turns
  turns_stop zero y q l e = absurd (omega arith)
  turns_stop (suc f) y q l e = rw e

  turns_last : (f : ℕ) (x : Unwound) → 0 < f → pass v w ≡ given x → passed c b (v +ℤ c) ≡ true → turns f pass c b v w ≡ given x
  unfolding turns
  turns_last zero x l e h = absurd (omega arith)
  turns_last (suc f) x l e h = rw (e, h)

  turns_more : (f : ℕ) (x : Unwound) → pass v w ≡ given x → passed c b (v +ℤ c) ≡ false
      → turns (suc f) pass c b v w ≡ behind x (turns f pass c b (v +ℤ c) x.weight)
  unfolding turns
  turns_more f x e h = rw (e, h)

-- ---- the passes left to go

-- what the passes from z on leave, behind the list of x, is what those from v on leave
abbrev pub Carries : List Variable → List ℕ → List ℕ → State → State → List ℕ → List ℕ → Head → ℕ → ℤ → ℤ → ℕ → ℕ → ℕ → Walk → Type 0
Carries vs t p env mid old new h body v z n w before x =
    (env' : State) (end : List ℕ) (r : Result Walk Refusal) → TurnsDid vs t p mid env' new end h z body x.count x.weight x.root r
    → TurnsDid vs t p env env' old end h v body n w before r

-- ---- the passes as the definition has them

module _ (vs : List Variable) (t p : List ℕ) {env : State} {old : List ℕ} {h : Head} {v : ℤ} {body n w before : ℕ} (ready : TurnsReady env old h v body n w before) where
  abbrev in_body : ℤ → ℕ → Answer Unwound
  in_body = body_of vs t p env h body

  abbrev pass : ℤ → ℕ → Answer Unwound
  pass = pass_of h.place h.ty (cell_of_head h) in_body

  abbrev sofar : Unwound
  sofar = record { plain = list_at old before; weight = w }

  -- where the pass refuses, all does
  refusal : (y : Why) (q f : ℕ) → nat_abs (h.to -ℤ v) < f → pass v w ≡ refused y q
      → refused y q ≡ behind sofar (turns_from vs t p env h body f v w)
  refusal y q f l e = sym (ap (behind sofar) (turns_stop pass h.by h.to v w f y q (omega arith) e))

  -- no weight left for the variable
  pub set_stops : {new : List ℕ} {e : Refusal} → SetDid old new h v n w (Err e) → TurnsDid vs t p env env old new h v body n w before (Err e)
  set_stops d =
      record {
        kept = refl;
        only = λ x. refl;
        long = d.long;
        same = d.same;
        goes = tt;
        turned = λ ins size f l.
            refusal _ _ f l (pass_heavy h.place h.ty (cell_of_head h) in_body v w _ _ (first_refused (heavier h.place 1 w) _ _ _ (sym d.is)));
      }

  -- ---- the variable set and the body walked

  module _ {m1 : List ℕ} {e : ℕ} {s : Walk} (d : SetDid old m1 h v n w (Ok s)) (put : e ≡ encode h.ty v) where
    light : heavier h.place 1 w ≡ given (w + 1)
    light = weighs h.place 1 w (omega (arith, d.good))

    module _ {m2 : List ℕ} {env1 : State} {r : Result Walk Refusal} (did : UnwindDid vs t p (set env h.cell e) env1 m1 m2 body s.count s.weight r) where
      env_long : length env1 ≡ length env
      env_long = ap length did.kept ∙ length-set env h.cell e

      env_only : (x : ℕ) → set env1 h.cell x ≡ set env h.cell x
      env_only x = ap (λ en. set en h.cell x) did.kept ∙ set-set env h.cell e x

      body_same : Same n old m2
      body_same = same_trans old m1 m2 n d.same (same_less m1 m2 s.count n did.same (omega (arith, d.good)))

      body_said : Inside (length env) vs → length env ≡ length (cells_of vs) → in_body v (w + 1) ≡ said m2 r
      body_said ins size =
          let long = length-set env h.cell e in
          ap₂ (λ en m. unwind vs (T.front_at t p body S.done) en no_selector m) (ap (set env h.cell) (sym put)) (sym d.good.2)
          ∙ front_done vs (set env h.cell e) (T.front_at t p body) s.weight (said m2 r)
          (did.front (subst (λ l. Inside l vs) (sym long) ins) (long ∙ size)) no_selector

      pass_said : Inside (length env) vs → length env ≡ length (cells_of vs)
          → pass v w ≡ (said m2 r >>= λ x. unwound (assign (cell_of_head h) (number h.ty v) x.plain) x.weight)
      pass_said ins size = pass_body h.place h.ty (cell_of_head h) in_body v w (w + 1) (said m2 r) light (body_said ins size)

    pub body_stops : {m2 : List ℕ} {env1 : State} {f : Refusal} → UnwindDid vs t p (set env h.cell e) env1 m1 m2 body s.count s.weight (Err f) → TurnsDid vs t p env env1 old m2 h v body n w before (Err f)
    body_stops did =
        record {
          kept = env_long did;
          only = env_only did;
          long = did.long ∙ d.long;
          same = body_same did;
          goes = tt;
          turned = λ ins size f l. refusal _ _ f l (pass_said did ins size);
        }

    -- ---- one pass put behind those so far

    module _ {m2 : List ℕ} {env1 : State} {b : Walk} (did : UnwindDid vs t p (set env h.cell e) env1 m1 m2 body s.count s.weight (Ok b)) {m3 m4 : List ℕ} {x y : Walk} (first : Linked m2 m3 b.count s.root b.root b.weight x)
        (second : Linked m3 m4 x.count before x.root x.weight y) where
      goes_body : Goes s.count s.weight b
      goes_body = did.goes

      abbrev own : Unwound
      own = record { plain = assign (cell_of_head h) (number h.ty v) (list_at m2 b.root); weight = b.weight }

      pass_good : Inside (length env) vs → length env ≡ length (cells_of vs) → pass v w ≡ given own
      pass_good ins size = pass_said did ins size

      set_list : list_at m1 s.root ≡ assign (cell_of_head h) (number h.ty v) done
      unfolding plain_in
      set_list =
          ap plain_in
          (d.is
          ∙ ap (λ (o : Answer ℕ). o >>= λ m. unwound (assign (cell_of_head h) (number h.ty v) done) m) light)

      first_same : Same n old m3
      first_same =
          same_trans old m2 m3 n (body_same did)
          (same_less m2 m3 b.count n first.same (omega (arith, d.good, goes_body.more)))

      passed_same : Same n old m4
      passed_same =
          same_trans old m3 m4 n first_same
          (same_less m3 m4 x.count n second.same (omega (arith, d.good, goes_body.more, first.more)))

      before_kept : list_at m3 before ≡ list_at old before
      before_kept = list_same done old m3 n before first_same ready.first

      lists : list_at m4 y.root ≡ list_at old before ⨾ own.plain
      unfolding ◌⨾◌
      lists =
          second.list
          ∙ ap₂ ◌⨾◌ before_kept
          (first.list
          ∙ ap (λ k. k ⨾ list_at m2 b.root)
          (list_same done m1 m2 s.count s.root did.same (omega (arith, d.good)) ∙ set_list))

      said_last : said m4 (Ok y) ≡ behind sofar (given own)
      said_last = ap₂ unwound lists (second.weight ∙ first.weight)

      -- a pass weighs at least 1
      pub passed_goes : Goes (n + min 1 before) w y
      passed_goes =
          let a = d.good in
          let g : Goes s.count s.weight b = did.goes in
          record {
            more = omega (arith, a.0, g.more, first.more, second.more);
            root = second.root;
            heavy = omega (arith, a.2, g.heavy, first.weight, second.weight);
            light = omega (arith, g.light, first.weight, second.weight);
            grown = omega (arith, a.0, a.1, a.2, g.grown, first.grown, first.weight, second.grown, second.weight);
          }

      passed_long : length m4 ≡ length old
      passed_long = second.long ∙ first.long ∙ did.long ∙ d.long

      -- the next value as it comes back
      abbrev next : ℤ
      next = back (v +ℤ back h.by)

      ends : (end : Bool) → passed (back h.by) (back h.to) next ≡ end → passed h.by h.to (v +ℤ h.by) ≡ end
      ends end e = passed_back h.by h.to v end ready.small.0 ready.small.2 ready.small.1 e

      pub last_pass : passed (back h.by) (back h.to) next ≡ true → TurnsDid vs t p env env1 old m4 h v body n w before (Ok y)
      last_pass end =
          record {
            kept = env_long did;
            only = env_only did;
            long = passed_long;
            same = passed_same;
            goes = passed_goes;
            turned = λ ins size f l.
                said_last
                ∙ sym (ap (behind sofar) (turns_last pass h.by h.to v w f own (omega arith) (pass_good ins size) (ends true end)));
          }

      module _ (goes_on : passed (back h.by) (back h.to) next ≡ false) where
        more : passed h.by h.to (v +ℤ h.by) ≡ false
        more = ends false goes_on

        next_is : next ≡ v +ℤ h.by
        next_is = next_back v h.by ready.small.1 ready.small.0

        pub turns_ready : TurnsReady env1 m4 h next body y.count y.weight y.root
        turns_ready =
            subst (λ z. TurnsReady env1 m4 h z body y.count y.weight y.root) (sym next_is) there
          where
            there : TurnsReady env1 m4 h (v +ℤ h.by) body y.count y.weight y.root
            there =
                let r = ready.ready in
                let g = passed_goes in
                let long = passed_long in
                record {
                  low = ready.low;
                  cells = omega (arith, ready.cells, env_long did);
                  inside = omega (arith, ready.inside, env_long did);
                  steps = ready.steps;
                  small = (ready.small.0, next_small h.by v h.to ready.steps ready.small.0 ready.small.1 ready.small.2 more, ready.small.2);
                  within = more;
                  first = second.root;
                  ready = (omega (arith, r.0, g.grown), g.light, omega (arith, r.2, long), omega (arith, r.3, long));
                }

        -- from the environment that the body leaves the passes are the same
        bodies_same : body_of vs t p env1 h body ≡ in_body
        bodies_same =
            fun_ext (λ z. fun_ext (λ m. ap (λ en. unwind vs (T.front_at t p body S.done) en no_selector m) (env_only did (encode h.ty z))))

        pub more_passes : Carries vs t p env env1 old m4 h body v next n w before y
        more_passes env2 m5 r there =
            record {
              kept = rest.kept ∙ env_long did;
              only = λ x. rest.only x ∙ env_only did x;
              long = rest.long ∙ passed_long;
              same = same_trans old m4 m5 n passed_same (same_less m4 m5 y.count n rest.same (omega (arith, passed_goes.more)));
              goes = IfOk-weaker r _ _ further rest.goes;
              turned = λ ins size f l. turned f ins size l;
            }
          where
            rest : TurnsDid vs t p env1 env2 m4 m5 h (v +ℤ h.by) body y.count y.weight y.root r
            rest = subst (λ u. TurnsDid vs t p env1 env2 m4 m5 h u body y.count y.weight y.root r) next_is there

            further : (z : Walk) → Goes (y.count + min 1 y.root) y.weight z → Goes (n + min 1 before) w z
            further z g =
                let one = passed_goes in
                record {
                  more = omega (arith, one.more, g.more);
                  root = g.root;
                  heavy = omega (arith, one.heavy, g.heavy);
                  light = g.light;
                  grown = omega (arith, one.grown, g.grown);
                }

            then : (f : ℕ) → Inside (length env) vs → length env ≡ length (cells_of vs) → nat_abs (h.to -ℤ (v +ℤ h.by)) < f
                → said m5 r ≡ behind (record { plain = list_at old before ⨾ own.plain; weight = b.weight }) (turns f pass h.by h.to (v +ℤ h.by) b.weight)
            then f ins size l =
                rest.turned (subst (λ k. Inside k vs) (sym (env_long did)) ins) (env_long did ∙ size) f l
                ∙ ap₂ behind (ap₂ (λ k m. record { plain = k; weight = m }) lists (second.weight ∙ first.weight))
                (ap₂ (λ g m. turns f (pass_of h.place h.ty (cell_of_head h) g) h.by h.to (v +ℤ h.by) m) bodies_same (second.weight ∙ first.weight))

            turned : (f : ℕ) → Inside (length env) vs → length env ≡ length (cells_of vs) → nat_abs (h.to -ℤ v) < f
                → said m5 r ≡ behind sofar (turns_from vs t p env h body f v w)
            turned zero ins size l = absurd (omega arith)
            turned (suc f) ins size l =
                let near = nearer h.by h.to v ready.steps ready.within more in
                then f ins size (omega (arith, near, l))
                ∙ sym (behind_both sofar own (turns f pass h.by h.to (v +ℤ h.by) b.weight))
                ∙ sym (ap (behind sofar) (turns_more pass h.by h.to v w f own (pass_good ins size) more))
