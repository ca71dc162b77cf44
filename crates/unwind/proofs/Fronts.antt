-- What statements put in front of a list, walked: nothing, two of them, an IF, a CASE.
use mathlib.Core.Path.{◌≡◌, refl, sym, ap, ap₂, subst, ◌∙◌}
use mathlib.Core.List.{List}
use Prim.Native.Nat.{ℕ}
use lib.ListN.{length}
use Rattle.paper.specs.declared.Ty.TheVariants.{Dint as DINT}
use Rattle.paper.specs.Refusals.{Answer, refused, given, ◌>>=◌}
use Rattle.paper.specs.Source as S
use Rattle.paper.specs.Names.{Variable, cells_of}
use Rattle.paper.specs.Typing.{type_in}
use Rattle.paper.specs.Plain.{Expr, Stmts, State, choice, done, parts, ◌⨾◌}
use Rattle.paper.specs.Unwinding.{Unwound, unwound, heavier, Selector, no_selector, plain_of, unwind}
use Rattle.plain.proofs.Lists.{join_assoc, join_done}
use Rattle.unwind.specs.Walks.{behind, Deaf, Front, joining}

-- ---- one list behind another

pub behind_none : (w : ℕ) (o : Answer Unwound) → behind (record { plain = done; weight = w }) o ≡ o
unfolding ◌⨾◌
behind_none w (refused y q) = refl
behind_none w (given x) = refl

behind_done : (o : Answer Unwound) → (o >>= λ x. behind x (unwound done x.weight)) ≡ o
behind_done (refused y q) = refl
behind_done (given x) = ap (λ p. unwound p x.weight) (join_done x.plain)

pub behind_both : (x y : Unwound) (o : Answer Unwound) → behind x (behind y o) ≡ behind (record { plain = x.plain ⨾ y.plain; weight = y.weight }) o
behind_both x y (refused v q) = refl
behind_both x y (given z) = ap (λ p. unwound p z.weight) (sym (join_assoc x.plain y.plain z.plain))

-- f then comes behind both
behind_bind : (x : Unwound) (b : Answer Unwound) (f : ℕ → Answer Unwound)
    → behind x (b >>= λ y. behind y (f y.weight)) ≡ (behind x b >>= λ z. behind z (f z.weight))
behind_bind x (refused v q) f = refl
behind_bind x (given y) f = behind_both x y (f y.weight)

-- ---- in front of a list

module _ (vs : List Variable) (env : State) where
  pub front_as : (f g : S.Stmts → S.Stmts) (w : ℕ) (o : Answer Unwound) → ((k : S.Stmts) → g k ≡ f k) → Front vs env f w o → Front vs env g w o
  front_as f g w o e h k deaf sel = ap (λ s. unwind vs s env sel w) (e k) ∙ h k deaf sel

  pub front_is : (f : S.Stmts → S.Stmts) (w : ℕ) (o q : Answer Unwound) → o ≡ q → Front vs env f w o → Front vs env f w q
  front_is f w o q e h = subst (Front vs env f w) e h

  pub front_none : (w : ℕ) → Front vs env (λ k. k) w (unwound done w)
  front_none w k deaf sel = deaf (record { plain = done; weight = w }) refl sel ∙ sym (behind_none w (unwind vs k env no_selector w))

  -- g behind f, from the weight that f gives
  pub front_two : (f g : S.Stmts → S.Stmts) (w : ℕ) (a b : Answer Unwound) → Front vs env f w a
      → ((x : Unwound) → a ≡ given x → Front vs env g x.weight b) → Front vs env (λ k. f (g k)) w (a >>= λ x. behind x b)
  front_two f g w a b first second k deaf sel =
      first (g k)
      (λ x e s. second x e k (later x e) s ∙ sym (second x e k (later x e) no_selector)) sel
      ∙ go a refl
    where
      later : (x : Unwound) → a ≡ given x → Deaf vs env b k
      later x e y h s =
          deaf (record { plain = x.plain ⨾ y.plain; weight = y.weight })
          (ap₂ (λ (a b : Answer Unwound). a >>= λ x. behind x b) e h) s

      go : (o : Answer Unwound) → a ≡ o
          → (o >>= λ x. behind x (unwind vs (g k) env no_selector x.weight))
          ≡ ((o >>= λ x. behind x b) >>= λ z. behind z (unwind vs k env no_selector z.weight))
      go (refused y q) e = refl
      go (given x) e =
          ap (behind x) (second x e k (later x e) no_selector) ∙ behind_bind x b (λ m. unwind vs k env no_selector m)

  -- in front of the empty list
  pub front_done : (f : S.Stmts → S.Stmts) (w : ℕ) (o : Answer Unwound) → Front vs env f w o → (sel : Selector) → unwind vs (f S.done) env sel w ≡ o
  unfolding unwind
  front_done f w o h sel = h S.done (λ x e s. refl) sel ∙ behind_done o

  -- ---- IF

  abbrev pub choice_of : ℕ → S.Expr → S.Stmts → S.Stmts → ℕ → Answer Unwound
  choice_of q c a b w =
      plain_of vs env DINT c >>= λ v.
      heavier q (parts v) w >>= λ m.
      unwind vs a env no_selector m >>= λ x.
      unwind vs b env no_selector x.weight >>= λ y. joining (length (cells_of vs)) q v x.plain y.plain y.weight

  module _ (k : S.Stmts) where
    abbrev then : Answer Unwound → Answer Unwound
    then o = o >>= λ z. behind z (unwind vs k env no_selector z.weight)

    last : (v : Expr) (x y : Stmts) (o : Answer ℕ)
        → (o >>= λ m. unwind vs k env no_selector m >>= λ r. unwound (choice v x y r.plain) r.weight) ≡ then (o >>= λ m. unwound (choice v x y done) m)
    unfolding ◌⨾◌
    last v x y (refused u q) = refl
    last v x y (given m) = refl

    -- a first stage, where the others are so
    stage : {A : Type 0} (o : Answer A) (f g : A → Answer Unwound) → ((a : A) → f a ≡ then (g a)) → (o >>= f) ≡ then (o >>= g)
    stage (refused u q) f g h = refl
    stage (given a) f g h = h a

  pub choice_front_lem : (p q : ℕ) (c : S.Expr) (a b : S.Stmts) (w : ℕ) → Front vs env (S.choice p q c a b) w (choice_of q c a b w)
  unfolding unwind
  choice_front_lem p q c a b w k deaf sel =
      stage k (plain_of vs env DINT c) _ _ (λ v.
      stage k (heavier q (parts v) w) _ _ (λ m.
      stage k (unwind vs a env no_selector m) _ _ (λ x.
      stage k (unwind vs b env no_selector x.weight) _ _ (λ y.
      last k v x.plain y.plain (heavier q _ y.weight)))))

  -- ---- CASE

  abbrev pub select_of : ℕ → S.Expr → S.Stmts → ℕ → Answer Unwound
  select_of p s a w = plain_of vs env DINT s >>= λ v. unwind vs a env (record { place = p; plain = v; ty = type_in vs DINT s }) w

  pub select_front_lem : (p : ℕ) (s : S.Expr) (a : S.Stmts) (w : ℕ) → Front vs env (S.select p s a) w (select_of p s a w)
  unfolding unwind
  select_front_lem p s a w k deaf sel = stage k (plain_of vs env DINT s) _ _ (λ v. refl)
