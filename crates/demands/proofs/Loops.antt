-- FOR: its passes, one behind another, mean what the loop does as written.
use mathlib.Core.Path.{◌≡◌, refl, sym, ap, ◌∙◌}
use mathlib.Core.Bool.{Bool, true, false, or-true}
use mathlib.Core.Option.{Option, some}
use mathlib.Core.List.{List, ◌∷◌}
use Prim.Native.Nat.{ℕ, zero, suc, ◌<◌}
use native.Mathlib.Omega.{arith}
use borrow.Author.Tests.{eqb-true, eqb-false}
use lib.Dec.{eqb}
use lib.IntN.{ℤ, pos, ◌+ℤ◌, ◌-ℤ◌, nat_abs}
use lib.ListN.{length, get_or, set, length-set, get_elem?}
use lib.Seq.{get_or-set_same, get_or-set_other}
use Rattle.paper.specs.declared.Cell.{Cell}
use Rattle.paper.specs.Refusals as R
use Rattle.paper.specs.Refusals.{Answer, given}
use Rattle.paper.specs.Types.{encode}
use Rattle.paper.specs.Words.{same_bytes}
use Rattle.paper.specs.Source.{Name, Declared}
use Rattle.paper.specs.Names.{Variable, find, is_among}
use Rattle.paper.specs.Typing.{is_zero}
use Rattle.paper.specs.Plain.{number, done, assign, State, Ran, value_of, run, weight, assigns, parts, carried, ◌⨾◌, store}
use Rattle.paper.specs.Meaning as M
use Rattle.paper.specs.Meaning.{variable_cell, ◌>>=◌, passed, enough}
use Rattle.paper.specs.Unwinding as U
use Rattle.paper.specs.Unwinding.{Unwound, no_selector}
use Rattle.demands.proofs.Answers.{refused_given, given_same, bind_given, heavier_given}
use Rattle.demands.proofs.Lists.{some_inside}
use Rattle.paper.proofs.Residues.{nearer}
use Rattle.demands.proofs.Cells.{info_of, CellOf, same_bytes_eq, variable_cell_lem, find_info}
use Rattle.demands.proofs.Expressions.{Agree}
use Rattle.demands.proofs.Means.{Vars, Infos, Means, none_selected, then, restated, respelled, free_cell}

-- the loop's variable: v, found by the name n, no input, free to be a loop's, with the cell c
pub record LoopVariable (ds : List Declared) (loops : List Name) (n : Name) (v : Variable) (c : Cell) : Type 0 where
  pub found : find n (Vars ds) ≡ some v
  pub cell : M.cell_of_variable v ≡ some c
  pub writable : (info_of v).is_input ≡ false
  pub free : is_among n loops ≡ false

-- two states set alike at c agree where they did before, and at c
set_alike : (s t : State) (c d e : ℕ) → c < length s → c < length t → (¬ (d ≡ c) → get_or s d 0 ≡ get_or t d 0)
    → get_or (set s c e) d 0 ≡ get_or (set t c e) d 0
set_alike s t c d e hs ht h = go (eqb d c) refl
  where
    go : (b : Bool) → eqb d c ≡ b → get_or (set s c e) d 0 ≡ get_or (set t c e) d 0
    go true q =
        let p = eqb-true d c q in
        rw p (get_or-set_same s c e 0 hs ∙ sym (get_or-set_same t c e 0 ht))
    go false q =
        let apart : ¬ (d ≡ c) = eqb-false d c q in
        get_or-set_other s c d e 0 apart ∙ h apart ∙ sym (get_or-set_other t c d e 0 apart)

-- nothing to do
pub done_means : (ds : List Declared) (loops : List Name) (env : State) (w : ℕ)
    → Means ds loops env no_selector (pos 0) some w (record { plain = done; weight = w })
unfolding run assigns weight
done_means ds loops env w =
    record { same = λ r l g s. refl; typed = tt; keeps = λ n c a e. refl; weighed = omega arith; light = λ h. h }

-- behind a pass x: the loop ends, or goes on with what `rest` gives
turned : Bool → Unwound → (ℕ → Answer Unwound) → Answer Unwound
turned t x rest = elim t [ true ↦ given x | false ↦ R.◌>>=◌ (rest x.weight) λ y. U.unwound (x.plain ⨾ y.plain) y.weight ]

turn_means : {ds : List Declared} {loops : List Name} {env : State} (t : Bool) (f g : Ran → Option Ran) (w : ℕ) (x u : Unwound) (rest : ℕ → Answer Unwound)
    → Means ds loops env no_selector (pos 0) f w x
    → ((y : Unwound) → t ≡ false → rest x.weight ≡ given y → Means ds loops env no_selector (pos 0) g x.weight y)
    → turned t x rest ≡ given u
    → Means ds loops env no_selector (pos 0) (λ r. f r >>= λ y. elim t [ true ↦ some y | false ↦ g y ]) w u
unfolding turned
turn_means true f g w x u rest a b h =
    rw (← given_same h) (restated a (λ r l ag s. rw (a.same r l ag s) refl))
turn_means false f g w x u rest a b h =
    let k = bind_given (rest x.weight) (λ y. U.unwound (x.plain ⨾ y.plain) y.weight) u h in
    rw (← given_same k.2) (then a (b k.0 refl k.1))

module _ (ds : List Declared) (loops : List Name) (env : State) (n : Name) (v : Variable) (c : Cell)
    (is : LoopVariable ds loops n v c) (long : length env ≡ length (Infos ds)) where
  -- a run with the loop's variable at z
  abbrev put : ℤ → Ran → Ran
  put z r = carried c (encode v.declared.ty z) r

  -- and the state that the walk sets
  abbrev set_in : ℤ → State
  set_in z = store c (encode v.declared.ty z) env

  own : CellOf v c
  own = variable_cell_lem v c is.cell

  info : get_elem? (Infos ds) c.0 ≡ some (info_of v)
  info = find_info ds n v is.found c own

  inside : c.0 < length (Infos ds)
  inside = some_inside (Infos ds) c.0 (info_of v) info

  -- its name has no other cell
  own_cell : (m : Name) (d : Cell) → m ≡ n → variable_cell (Vars ds) m ≡ some d → d.0 ≡ c.0
  own_cell m d p e =
      let k : variable_cell (Vars ds) n ≡ some c = rw is.found is.cell in
      let q : ◌≡◌ {A = Option Cell} (some d) (some c) = sym (rw p at e) ∙ k in
      ap (λ (x : Cell). x.0) cc

  -- of the names that a body keeps, all but the loop's own are kept around it
  around : (m : Name) (d : Cell) → is_among m (n ∷ loops) ≡ true → variable_cell (Vars ds) m ≡ some d → ¬ (d.0 ≡ c.0)
      → is_among m loops ≡ true
  unfolding is_among
  around m d a e apart = go (same_bytes m n) refl
    where
      go : (b : Bool) → same_bytes m n ≡ b → is_among m loops ≡ true
      go true q = absurd (apart (own_cell m d (same_bytes_eq m n q) e))
      go false q = rw q at a

  -- the loop's variable set in both, they agree on it too
  agree_set : (z : ℤ) (s : State) → length s ≡ length (Infos ds) → Agree (Vars ds) loops env s
      → Agree (Vars ds) (n ∷ loops) (set_in z) (store c (encode v.declared.ty z) s)
  agree_set z s l g m d a e =
      set_alike env s c.0 d.0 (encode v.declared.ty z) (rw long inside) (rw l inside)
      (λ apart. g m d (around m d a e apart) e)

  -- B gives what means F, with the loop's variable at z
  abbrev Bodies : (Ran → Option Ran) → (ℤ → ℕ → Answer Unwound) → Type 0
  Bodies F B = (z : ℤ) (w : ℕ) (x : Unwound) → B z w ≡ given x → Means ds (n ∷ loops) (set_in z) no_selector (pos 0) F w x

  -- one pass
  pass_means : (F : Ran → Option Ran) (B : ℤ → ℕ → Answer Unwound) → Bodies F B → (p : ℕ) (z : ℤ) (w : ℕ) (u : Unwound)
      → U.pass_of p v.declared.ty c B z w ≡ given u
      → Means ds loops env no_selector (pos 0) (λ r. F (put z r)) w u
  unfolding U.pass_of run assigns weight parts value_of is_among
  pass_means F B body p z w u h =
      let t = v.declared.ty in
      let a = bind_given (U.heavier p 1 w) (λ w₁. R.◌>>=◌ (B z w₁) λ x. U.unwound (assign c (number t z) x.plain) x.weight) u h in
      let b = bind_given (B z a.0) (λ x. U.unwound (assign c (number t z) x.plain) x.weight) u a.2 in
      let heavy = heavier_given p 1 w a.0 a.1 in
      let m = body z a.0 b.0 b.1 in
      let weighed = m.weighed in
      let is-heavy = heavy.is in
      rw (← given_same b.2)
      record {
        same = λ r l g s. m.same (put z r) (length-set r.state c.0 (encode t z) ∙ l) (agree_set z r.state l g) (none_selected (put z r).state);
        typed = ((info_of v, info, (is.writable, refl)), m.typed);
        keeps = λ k d q e.
            rw (free_cell ds loops n v c is.found own is.free k d q e)
            (m.keeps k d (rw q (or-true (same_bytes k n))) e);
        weighed = omega arith;
        light = λ _. m.light heavy.light;
      }

  -- without a pass the loop is one pass with nothing to do in it
  no_pass_means : (p : ℕ) (z : ℤ) (w : ℕ) (u : Unwound)
      → R.◌>>=◌ (U.heavier p 1 w) (λ w₁. U.unwound (assign c (number v.declared.ty z) done) w₁) ≡ given u
      → Means ds loops env no_selector (pos 0) (λ r. some (put z r)) w u
  unfolding U.pass_of
  no_pass_means p z w u h =
      pass_means some (λ z w. U.unwound done w)
      (λ z w x e. rw (← given_same e) (done_means ds (n ∷ loops) _ w)) p z w u h

  module _ (F : Ran → Option Ran) (B : ℤ → ℕ → Answer Unwound) (body : Bodies F B) where
    -- pass behind pass, as long as m allows
    turns_mean : (p m : ℕ) (by to z : ℤ) (w : ℕ) (u : Unwound)
        → is_zero by ≡ false → passed by to z ≡ false → nat_abs (to -ℤ z) < m
        → U.turns m (U.pass_of p v.declared.ty c B) by to z w ≡ given u
        → Means ds loops env no_selector (pos 0) (M.turns m put F by to z) w u
    unfolding U.turns M.turns turned
    turns_mean p zero by to z w u hz hp hm h = absurd (omega arith)
    turns_mean p (suc m) by to z w u hz hp hm h =
        let pass = U.pass_of p v.declared.ty c B in
        let rest : ℕ → Answer Unwound = U.turns m pass by to (z +ℤ by) in
        let a = bind_given (pass z w) (λ x. turned (passed by to (z +ℤ by)) x rest) u h in
        turn_means (passed by to (z +ℤ by)) (λ r. F (put z r)) (M.turns m put F by to (z +ℤ by)) w a.0 u rest
        (pass_means F B body p z w a.0 a.1)
        (λ y e k.
        let closer = nearer by to z hz hp e in
        turns_mean p m by to (z +ℤ by) a.0.weight y hz e (omega arith) k)
        a.2

    -- all of a FOR
    pub looped_means : (p : ℕ) (by to from : ℤ) (w : ℕ) (u : Unwound)
        → U.looped p v.declared.ty c B by to from w ≡ given u
        → Means ds loops env no_selector (pos 0) (M.looped put F by to from) w u
    unfolding U.looped M.looped
    looped_means p by to from w u h = go (is_zero by) refl (passed by to from) refl
      where
        go : (s : Bool) → is_zero by ≡ s → (t : Bool) → passed by to from ≡ t
            → Means ds loops env no_selector (pos 0) (M.looped put F by to from) w u
        go true e t k = refused_given (rw (e, U.looped) at h)
        go false e true k =
            respelled (λ r g. rw (e, M.looped, k) refl) (no_pass_means p from w u (rw (e, U.looped, k) at h))
        go false e false k =
            let h' : U.turns (enough from to) (U.pass_of p v.declared.ty c B) by to from w ≡ given u = rw (e, U.looped, k) at h in
            respelled (λ r g. rw (e, M.looped, k) refl)
            (turns_mean p (enough from to) by to from w u e k (omega arith) h')
