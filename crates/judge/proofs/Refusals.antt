-- Unwinding refuses by 8 or 9 only.
use mathlib.Core.Path.{◌≡◌, refl}
use mathlib.Core.Logic.{◌⊎◌, inl, inr}
use mathlib.Core.Bool.{Bool, true, false, cond}
use mathlib.Core.Option.{Option, none, some}
use mathlib.Core.List.{List}
use Prim.Native.Nat.{ℕ, zero, suc, ◌+◌}
use lib.Dec.{leb}
use lib.IntN.{ℤ, ◌+ℤ◌}
use lib.ListN.{length}
use Rattle.paper.specs.declared.Ty.{Ty}
use Rattle.paper.specs.declared.Ty.TheVariants.{Dint as DINT}
use Rattle.paper.specs.declared.Cell.{Cell}
use Rattle.paper.specs.declared.Why.TheVariants.{BadWalk, TooHeavy}
use Rattle.paper.specs.Refusals.{Answer, refused, given, number_of, ◌>>=◌}
use Rattle.paper.specs.Types.{encode}
use Rattle.paper.specs.Source as S
use Rattle.paper.specs.Source.{Program}
use Rattle.paper.specs.Names.{Variable, find, cells_of}
use Rattle.paper.specs.Heights.{first_word}
use Rattle.paper.specs.Typing.{is_zero, type_in, operand_type}
use Rattle.paper.specs.Plain.{State, store, parts, number, done, assign, cells_within, ◌⨾◌}
use Rattle.paper.specs.Meaning.{passed, enough, cell_of_variable, whole_value, cell_of}
use Rattle.paper.specs.Unwinding.{Unwound, unwound, heavier, found, Selector, no_selector, tests_of, turns, pass_of, looped, cell_in, plain_of, unwind, unwound_program}

-- refused by 8 or 9, if at all
abbrev pub Walked : {A : Type 0} → Answer A → Type 0
Walked (refused w q) = (number_of w ≡ 8) ⊎ (number_of w ≡ 9)
Walked (given x) = Unit {0}

bound : {A B : Type 0} (a : Answer A) (f : A → Answer B) → Walked a → ((x : A) → Walked (f x)) → Walked (a >>= f)
bound (refused w q) f h g = h
bound (given x) f h g = g x

found_walked : {A : Type 0} (p : ℕ) (o : Option A) → Walked (found p o)
found_walked p none = inl refl
found_walked p (some a) = tt

heavier_walked : (p n w : ℕ) → Walked (heavier p n w)
heavier_walked p n w = go (leb (w + n) 3000)
  where
    go : (b : Bool) → Walked (cond b (given (w + n)) (refused TooHeavy p))
    go true = tt
    go false = inr refl

turns_walked : (n : ℕ) (pass : ℤ → ℕ → Answer Unwound) → ((v : ℤ) (w : ℕ) → Walked (pass v w)) → (c b v : ℤ) (w : ℕ)
    → Walked (turns n pass c b v w)
unfolding turns
turns_walked zero pass h c b v w = tt
turns_walked (suc n) pass h c b v w =
    bound (pass v w) _ (h v w) (λ x. go x (turns n pass c b (v +ℤ c) x.weight) (turns_walked n pass h c b (v +ℤ c) x.weight) (passed c b (v +ℤ c)))
  where
    go : (x : Unwound) (o : Answer Unwound) → Walked o → (b : Bool)
        → Walked {A = Unwound} (elim b [ true ↦ given x | false ↦ (o >>= λ y. unwound (x.plain ⨾ y.plain) y.weight) ])
    go x o h true = tt
    go x o h false = bound o _ h (λ y. tt)

looped_walked : (p : ℕ) (t : Ty) (cell : Cell) (body : ℤ → ℕ → Answer Unwound) → ((v : ℤ) (w : ℕ) → Walked (body v w)) → (c b a : ℤ) (w : ℕ)
    → Walked (looped p t cell body c b a w)
unfolding looped pass_of
looped_walked p t cell body h c b a w = go (is_zero c) (passed c b a)
  where
    one : (v : ℤ) (w : ℕ) → Walked (pass_of p t cell body v w)
    one v w = bound (heavier p 1 w) _ (heavier_walked p 1 w) (λ w. bound (body v w) _ (h v w) (λ x. tt))

    go : (z y : Bool)
        → Walked {A = Unwound} (elim z [
          | true ↦ refused BadWalk p
          | false ↦ elim y [
            | true ↦ (heavier p 1 w >>= λ w. unwound (assign cell (number t a) done) w)
            | false ↦ turns (enough a b) (pass_of p t cell body) c b a w
          ]
        ])
    go true y = inl refl
    go false true = bound (heavier p 1 w) _ (heavier_walked p 1 w) (λ w. tt)
    go false false = turns_walked (enough a b) (pass_of p t cell body) one c b a w

module _ (vs : List Variable) where
  cell_walked : (env : State) (x : S.Expr) → Walked (cell_in vs env x)
  unfolding cell_in
  cell_walked env x = found_walked _ (cell_of vs env x)

  plain_walked : (env : State) (t : Ty) (e : S.Expr) → Walked (plain_of vs env t e)
  unfolding plain_of
  plain_walked env t (S.number p z) = tt
  plain_walked env t (S.truth p b) = tt
  plain_walked env t (S.variable p n) = bound (cell_in vs env (S.variable p n)) _ (cell_walked env (S.variable p n)) (λ c. tt)
  plain_walked env t (S.element p n q i) = bound (cell_in vs env (S.element p n q i)) _ (cell_walked env (S.element p n q i)) (λ c. tt)
  plain_walked env t (S.minus p e) = bound (plain_of vs env t e) _ (plain_walked env t e) (λ x. tt)
  plain_walked env t (S.complement p e) = bound (plain_of vs env DINT e) _ (plain_walked env DINT e) (λ x. tt)
  plain_walked env t (S.binary p o l r) =
      let u = operand_type vs t o l r in
      bound (plain_of vs env u l) _ (plain_walked env u l) (λ x. bound (plain_of vs env u r) _ (plain_walked env u r) (λ y. tt))
  plain_walked env t (S.conversion p u v e) = bound (plain_of vs env u e) _ (plain_walked env u e) (λ x. tt)
  plain_walked env t (S.brackets p e) = plain_walked env t e

  walked : (k : S.Stmts) (env : State) (sel : Selector) (w : ℕ) → Walked (unwind vs k env sel w)
  unfolding unwind
  walked S.done env sel w = tt
  walked (S.assign x q e k) env sel w =
      bound (cell_in vs env x) _ (cell_walked env x) λ c.
      bound (plain_of vs env (type_in vs DINT x) e) _ (plain_walked env (type_in vs DINT x) e) λ v.
      bound (heavier (first_word x) (parts v) w) _ (heavier_walked (first_word x) (parts v) w) λ w.
      bound (unwind vs k env no_selector w) _ (walked k env no_selector w) λ r. tt
  walked (S.choice p q c a b k) env sel w =
      bound (plain_of vs env DINT c) _ (plain_walked env DINT c) λ v.
      bound (heavier q (parts v) w) _ (heavier_walked q (parts v) w) λ w.
      bound (unwind vs a env no_selector w) _ (walked a env no_selector w) λ x.
      bound (unwind vs b env no_selector x.weight) _ (walked b env no_selector x.weight) λ y.
      let n = cells_within (length (cells_of vs)) x.plain y.plain in
      bound (heavier q n y.weight) _ (heavier_walked q n y.weight) λ w.
      bound (unwind vs k env no_selector w) _ (walked k env no_selector w) λ r. tt
  walked (S.select p s a k) env sel w =
      bound (plain_of vs env DINT s) _ (plain_walked env DINT s) λ v.
      let inner : Selector = record { place = p; plain = v; ty = type_in vs DINT s } in
      bound (unwind vs a env inner w) _ (walked a env inner w) λ x.
      bound (unwind vs k env no_selector x.weight) _ (walked k env no_selector x.weight) λ r. tt
  walked (S.arm ls a k) env sel w =
      let n = parts (tests_of sel ls) in
      bound (heavier sel.place n w) _ (heavier_walked sel.place n w) λ w.
      bound (unwind vs a env no_selector w) _ (walked a env no_selector w) λ x.
      bound (unwind vs k env sel x.weight) _ (walked k env sel x.weight) λ y.
      let m = cells_within (length (cells_of vs)) x.plain y.plain in
      bound (heavier sel.place m y.weight) _ (heavier_walked sel.place m y.weight) λ w. tt
  walked (S.loop p q n a b c body k) env sel w =
      bound (found p (find n vs)) _ (found_walked p (find n vs)) λ v.
      bound (found p (cell_of_variable v)) _ (found_walked p (cell_of_variable v)) λ cell.
      let t = v.declared.ty in
      bound (found p (whole_value vs env t c)) _ (found_walked p (whole_value vs env t c)) λ by.
      bound (found p (whole_value vs env t a)) _ (found_walked p (whole_value vs env t a)) λ from.
      bound (found p (whole_value vs env t b)) _ (found_walked p (whole_value vs env t b)) λ to.
      let pass : ℤ → ℕ → Answer Unwound = λ z w. unwind vs body (store cell (encode t z) env) no_selector w in
      bound (looped p t cell pass by to from w) _
      (looped_walked p t cell pass (λ z w. walked body (store cell (encode t z) env) no_selector w) by to from w) λ x.
      bound (unwind vs k env no_selector x.weight) _ (walked k env no_selector x.weight) λ r. tt

pub program_walked : (pr : Program) → Walked (unwound_program pr)
unfolding unwound_program
program_walked pr = walked _ pr.body _ no_selector 0
