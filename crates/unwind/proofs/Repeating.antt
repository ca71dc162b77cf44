-- A FOR at a node walked, and what it puts in front of a list.
use mathlib.Core.Path.{◌≡◌, refl, sym, ap, ap₂, subst, ◌∙◌}
use mathlib.Core.Bool.{Bool, true, false, cond}
use mathlib.Core.Option.{Option, none, some}
use mathlib.Core.List.{List}
use Prim.Native.Nat.{ℕ, ◌+◌, ◌*◌, ◌-◌, ◌<◌, min}
use native.Mathlib.Omega.{arith}
use lib.IntN.{ℤ}
use lib.ListN.{length, get_or, set}
use lib.Seq.{set-get_or}
use Rattle.paper.specs.declared.Cell.{Cell}
use Rattle.paper.specs.declared.Ty.{Ty}
use Rattle.std.specs.Prelude.{Result, Err, Some, None}
use Rattle.std.proofs.lemmas.Result.{IfOk-weaker}
use Rattle.paper.specs.declared.Refusal.{Refusal}
use Rattle.paper.specs.declared.Why.TheVariants.{BadWalk}
use Rattle.paper.specs.Refusals.{Answer, refused, refusal, ◌>>=◌}
use Rattle.paper.specs.Types.{encode}
use Rattle.paper.specs.Source as S
use Rattle.paper.specs.Source.{Name}
use Rattle.paper.specs.Names.{Variable, find, cells_of}
use Rattle.paper.specs.Typing.{is_zero}
use Rattle.paper.specs.Plain.{State, store}
use Rattle.paper.specs.Meaning as M
use Rattle.paper.specs.Meaning.{passed, enough, cell_of_variable, whole_value}
use Rattle.paper.specs.Unwinding.{Unwound, found, no_selector, turns, pass_of, looped, unwind}
use Rattle.tree.specs.Nodes.{child_of}
use Rattle.tree.specs.Kinds.{IsStatement}
use Rattle.tree.specs.declared.kinds.Statement.TheVariants as K
use Rattle.tree.specs.Trees as T
use Rattle.tree.specs.Trees.{place_at, name_at, front_forms}
use Rattle.tree.proofs.Frames.{child_less}
use Rattle.plain.proofs.Lists.{list_nil}
use Rattle.unwind.specs.declared.lists.Walk.{Walk}
use Rattle.unwind.specs.declared.loops.Head.{Head}
use Rattle.unwind.specs.Parts.{Inside}
use Rattle.unwind.specs.Walks.{said, Goes, setting, behind, Front, Walks, UnwindDid}
use Rattle.unwind.specs.Loops.{Worked, head_in, head_at, cell_of_head, worked, Stands, HeadDid, SetDid, turns_from, TurnsReady, TurnsDid}
use Rattle.unwind.proofs.Fronts.{behind_none, front_as, front_is}
use Rattle.unwind.proofs.Values.{back, back_small}

-- ---- in front of a list

module _ (vs : List Variable) (env : State) (p : ℕ) (body : S.Stmts) (w : ℕ) where
  -- with the head worked out
  abbrev loop_with : Worked → Answer Unwound
  loop_with x =
      looped p x.ty x.cell (λ z m. unwind vs body (store x.cell (encode x.ty z) env) no_selector m) x.by x.to x.from w

  abbrev loop_of : Option Worked → Answer Unwound
  loop_of o = found p o >>= loop_with

  module _ (k : S.Stmts) where
    abbrev then : Answer Unwound → Answer Unwound
    then o = o >>= λ z. behind z (unwind vs k env no_selector z.weight)

    -- a step of zero is refused as the head is
    last : (x : Worked) → then (loop_with x) ≡ then (loop_of (cond (is_zero x.by) none (some x)))
    unfolding looped
    last x = go (is_zero x.by) refl
      where
        go : (b : Bool) → is_zero x.by ≡ b → then (loop_with x) ≡ then (loop_of (cond b none (some x)))
        go true e = rw (e, looped)
        go false e = refl

    stage : {A : Type 0} (o : Option A) (f : A → Answer Unwound) (g : A → Option Worked)
        → ((a : A) → f a ≡ then (loop_of (g a))) → (found p o >>= f) ≡ then (loop_of (M.◌>>=◌ o g))
    stage none f g h = refl
    stage (some a) f g h = h a

  loop_front_lem : (q : ℕ) (n : Name) (a b c : S.Expr) → Front vs env (S.loop p q n a b c body) w (loop_of (head_in vs env n a b c))
  unfolding unwind
  loop_front_lem q n a b c k deaf sel =
      stage k (find n vs) _ _ (λ v.
      stage k (cell_of_variable v) _ _ (λ cell.
      stage k (whole_value vs env v.declared.ty c) _ _ (λ by.
      stage k (whole_value vs env v.declared.ty a) _ _ (λ from.
      stage k (whole_value vs env v.declared.ty b) _ _ (λ to.
      last k (record { ty = v.declared.ty; cell = cell; by = by; from = from; to = to }))))))

module _ (q : ℕ) (t : Ty) (cell : Cell) (body : ℤ → ℕ → Answer Unwound) (c b a : ℤ) (w : ℕ) (steps : is_zero c ≡ false) where
  looped_set : passed c b a ≡ true → looped q t cell body c b a w ≡ setting q t cell a w
  unfolding looped
  looped_set h = rw (steps, looped, h)

  looped_turns : passed c b a ≡ false → looped q t cell body c b a w ≡ turns (enough a b) (pass_of q t cell body) c b a w
  unfolding looped
  looped_turns h = rw (steps, looped, h)

-- ---- at a node

module _ (vs : List Variable) (t p : List ℕ) (env : State) (i : ℕ) (old : List ℕ) (n w : ℕ) (kind : IsStatement p i K.Loop) where
  abbrev body : S.Stmts
  body = T.front_at t p (child_of p i 2) S.done

  abbrev own : Option Worked → Answer Unwound
  own = loop_of vs env (place_at p i) body w

  head_front : (o : Option Worked) (r : Answer Unwound) → o ≡ head_at vs t p env i → own o ≡ r → Front vs env (T.front_at t p i) w r
  head_front o r e q =
      let j = child_of p i 1 in
      let g = child_of p j 1 in
      front_is vs env (T.front_at t p i) w _ r (ap own (sym e) ∙ q)
      (front_as vs env _ (T.front_at t p i) w _ (kind.list t)
      (loop_front_lem vs env (place_at p i) body w (place_at p j) (name_at t (place_at p j)) (T.expr_at t p (child_of p g 1)) (T.expr_at t p (child_of p g 2)) (T.expr_at t p (child_of p j 2))))

  -- 8 at the FOR
  pub no_head : HeadDid vs t p env i None → (q : ℕ) → q ≡ place_at p i → UnwindDid vs t p env env old old i n w (Err (refusal BadWalk q))
  no_head d q eq =
      record {
        kept = refl;
        long = refl;
        same = λ j s. refl;
        goes = tt;
        front = λ ins size. head_front none _ (d.is ins) (ap (refused BadWalk) (sym eq));
      }

  module _ {h : Head} (d : HeadDid vs t p env i (Some h)) where
    stands : Stands (place_at p i) (length env) h
    stands = d.stands

    abbrev bodies : ℤ → ℕ → Answer Unwound
    bodies z m = unwind vs body (store (cell_of_head h) (encode h.ty z) env) no_selector m

    loop_did : (r : Answer Unwound) → Inside (length env) vs
        → looped h.place h.ty (cell_of_head h) bodies h.by h.to h.from w ≡ r → Front vs env (T.front_at t p i) w r
    loop_did r ins q =
        head_front (some (worked h)) r (d.is ins)
        (ap (λ at. looped at h.ty (cell_of_head h) bodies h.by h.to h.from w) (sym stands.place) ∙ q)

    from_back : back h.from ≡ h.from
    from_back = back_small h.from stands.small.1

    at_once : (e : Bool) → passed (back h.by) (back h.to) (back h.from) ≡ e → passed h.by h.to h.from ≡ e
    at_once e k =
        sym (ap (λ c. passed c h.to h.from) (back_small h.by stands.small.0))
        ∙ sym (ap₂ (passed (back h.by)) (back_small h.to stands.small.2) from_back)
        ∙ k

    -- no pass: one assignment
    pub no_pass : {new : List ℕ} {r : Result Walk Refusal} → passed (back h.by) (back h.to) (back h.from) ≡ true
        → SetDid old new h (back h.from) n w r → UnwindDid vs t p env env old new i n w r
    no_pass {new} {r} e d' =
        let s = subst (λ z. SetDid old new h z n w r) from_back d' in
        record {
          kept = refl;
          long = s.long;
          same = s.same;
          goes = IfOk-weaker r _ _ went s.good;
          front = λ ins size.
              loop_did (said new r) ins
              (looped_set h.place h.ty (cell_of_head h) bodies h.by h.to h.from w stands.steps (at_once true e) ∙ sym s.is);
        }
      where
        went : (x : Walk) → (x.count ≡ n + 2) × (x.root ≡ n + 2) × (x.weight ≡ w + 1) × (w < 3000) → Goes n w x
        went x g = record { more = omega arith; root = omega arith; heavy = omega arith; light = omega arith; grown = omega arith }

    module _ (c : ℕ) (ec : c ≡ child_of p i 2) (within : passed (back h.by) (back h.to) (back h.from) ≡ false) where
      pub passes_fall : 4194304 * (3001 - w) + 32 * c < 4194304 * (3001 - w) + 32 * i
      passes_fall = omega (arith, child_less p i 2 kind.some)

      pub passes_ready : Walks env old i n w → TurnsReady env old h (back h.from) c n w 0
      passes_ready r =
          let low = child_less p i 2 kind.some in
          subst (λ z. TurnsReady env old h z c n w 0) (sym from_back)
          (record {
            low = omega (arith, r.0, low, ec);
            cells = r.2;
            inside = stands.inside;
            steps = stands.steps;
            small = stands.small;
            within = at_once false within;
            first = omega arith;
            ready = (omega (arith, r.1.0), r.1.1, r.1.2, r.1.3);
          })

      -- the passes, and the variable's own value in the environment again
      pub all_passes : {env' : State} {new : List ℕ} {r : Result Walk Refusal} → TurnsDid vs t p env env' old new h (back h.from) c n w 0 r
          → UnwindDid vs t p env (set env' h.cell (get_or env h.cell 0)) old new i n w r
      all_passes {env'} {new} {r} did =
          record {
            kept = s.only (get_or env h.cell 0) ∙ set-get_or env h.cell 0;
            long = s.long;
            same = s.same;
            goes = IfOk-weaker r _ _ went s.goes;
            front = λ ins size. loop_did (said new r) ins (said_all ins size);
          }
        where
          s : TurnsDid vs t p env env' old new h h.from c n w 0 r
          s = subst (λ z. TurnsDid vs t p env env' old new h z c n w 0 r) from_back did

          went : (x : Walk) → Goes (n + min 1 0) w x → Goes n w x
          went x g =
              record { more = omega (arith, g.more); root = g.root; heavy = g.heavy; light = g.light; grown = omega (arith, g.grown) }

          said_all : Inside (length env) vs → length env ≡ length (cells_of vs)
              → looped h.place h.ty (cell_of_head h) bodies h.by h.to h.from w ≡ said new r
          said_all ins size =
              let f = enough h.from h.to in
              looped_turns h.place h.ty (cell_of_head h) bodies h.by h.to h.from w stands.steps (at_once false within)
              ∙ sym (s.turned ins size f (omega arith)
              ∙ ap (λ k. behind (record { plain = k; weight = w }) (turns_from vs t p env h c f h.from w)) (list_nil old)
              ∙ behind_none w (turns_from vs t p env h c f h.from w)
              ∙ ap (λ j. turns_from vs t p env h j f h.from w) ec)
