-- 'ST0': the program unwound, by 8 and 9 in one walk. `env` is a state of which only the variables of the FORs around count.
use Rattle.std.specs.Prelude.{true, false, cond, List, [], ◌∷◌, ℕ, zero, suc, ◌+◌, leb, ℤ, pos, ◌+ℤ◌, replicate, length}
use Rattle.std.proofs.Math.Option.{Option, none, some}
use Rattle.paper.specs.declared.Ty.{Ty}
use Rattle.paper.specs.declared.Ty.TheVariants.{Bool as BOOL, Dint as DINT}
use Rattle.paper.specs.declared.Op.TheVariants.{Le, Ge, Eq, And, Or}
use Rattle.paper.specs.declared.Cell.{Cell}
use Rattle.paper.specs.declared.Why.TheVariants.{BadWalk, TooHeavy}
use Rattle.paper.specs.Refusals.{Answer, refused, given, ◌>>=◌}
use Rattle.paper.specs.Types.{encode}
use Rattle.paper.specs.Source as S
use Rattle.paper.specs.Source.{Label, one, range, Program}
use Rattle.paper.specs.Names.{Variable, find, variables_of, cells_of}
use Rattle.paper.specs.Heights.{first_word}
use Rattle.paper.specs.Typing.{is_zero, type_in, operand_type}
use Rattle.paper.specs.Plain.{Expr, number, truth, read, minus, complement, binary, conversion, Stmts, done, assign, choice, State, store, parts, cells_within, ◌⨾◌}
use Rattle.paper.specs.Meaning.{passed, enough, cell_of_variable, whole_value, cell_of}

-- what a walk gives: the plain statements, and the weight so far
pub record Unwound : Type 0 where
  pub plain : Stmts
  pub weight : ℕ

abbrev pub unwound : Stmts → ℕ → Answer Unwound
unwound p w = given (record { plain = p; weight = w })

-- 9 at the written statement, as soon as the weight passes 3,000
abbrev pub heavier : ℕ → ℕ → ℕ → Answer ℕ
heavier p n w = cond (leb (w + n) 3000) (given (w + n)) (refused TooHeavy p)

-- 8 at p
abbrev pub found : {A : Type 0} → ℕ → Option A → Answer A
found p none = refused BadWalk p
found p (some a) = given a

-- ---- a CASE arm's test

-- the selector of the CASE around: its place, its plain form and its type
pub record Selector : Type 0 where
  pub place : ℕ
  pub plain : Expr
  pub ty : Ty

-- ST0, 'tests': equal to the label, or between the two ends of a range
abbrev pub test_of : Selector → Label → Expr
test_of s (one p a) = binary Eq s.ty s.plain (number s.ty a)
test_of s (range p a q b) =
    binary And BOOL (binary Ge s.ty s.plain (number s.ty a)) (binary Le s.ty s.plain (number s.ty b))

-- ST0, 'joined': one more label behind the test so far
unfoldable pub or_tests : Selector → Expr → List Label → Expr
or_tests s e [] = e
or_tests s e (l ∷ ls) = or_tests s (binary Or BOOL e (test_of s l)) ls

unfoldable pub tests_of : Selector → List Label → Expr
tests_of s [] = truth false
tests_of s (l ∷ ls) = or_tests s (test_of s l) ls

-- outside a CASE
abbrev pub no_selector : Selector
no_selector = record { place = 0; plain = number DINT (pos 0); ty = DINT }

-- ---- FOR

-- `pass` gives `v := value;` and the body; then the next value, until that has passed b
unfoldable pub turns : ℕ → (ℤ → ℕ → Answer Unwound) → ℤ → ℤ → ℤ → ℕ → Answer Unwound
turns zero pass c b v w = unwound done w
turns (suc n) pass c b v w =
    pass v w >>= λ x.
    elim (passed c b (v +ℤ c)) [
      | true ↦ given x
      | false ↦ (turns n pass c b (v +ℤ c) x.weight >>= λ y. unwound (x.plain ⨾ y.plain) y.weight)
    ]

-- one pass: `v := value;`, which weighs 1, and the body
unfoldable pub pass_of : ℕ → Ty → Cell → (ℤ → ℕ → Answer Unwound) → ℤ → ℕ → Answer Unwound
pass_of p t cell body v w =
    heavier p 1 w >>= λ w. body v w >>= λ x. unwound (assign cell (number t v) x.plain) x.weight

-- the step is tested first; without a pass there is one `v := a;`
unfoldable pub looped : ℕ → Ty → Cell → (ℤ → ℕ → Answer Unwound) → ℤ → ℤ → ℤ → ℕ → Answer Unwound
looped p t cell body c b a w =
    elim (is_zero c) [
      | true ↦ refused BadWalk p
      | false ↦ elim (passed c b a) [
        | true ↦ (heavier p 1 w >>= λ w. unwound (assign cell (number t a) done) w)
        | false ↦ turns (enough a b) (pass_of p t cell body) c b a w
      ]
    ]

-- the place of an element's `[`
abbrev pub bracket_of : S.Expr → ℕ
bracket_of (S.number p z) = p
bracket_of (S.truth p b) = p
bracket_of (S.variable p n) = p
bracket_of (S.element p n q i) = q
bracket_of (S.minus p e) = p
bracket_of (S.complement p e) = p
bracket_of (S.binary p o l r) = p
bracket_of (S.conversion p t u e) = p
bracket_of (S.brackets p e) = p

module _ (vs : List Variable) where
  -- ST0, 'subscript': the cell meant; refusal 8 at its `[` where there is none
  unfoldable pub cell_in : State → S.Expr → Answer Cell
  cell_in env x = found (bracket_of x) (cell_of vs env x)

  -- an expression where t is offered, its subscripts looked at from the left
  unfoldable pub plain_of : State → Ty → S.Expr → Answer Expr
  plain_of env t (S.number p z) = given (number t z)
  plain_of env t (S.truth p b) = given (truth b)
  plain_of env t (S.variable p n) = cell_in env (S.variable p n) >>= λ c. given (read c)
  plain_of env t (S.element p n q i) = cell_in env (S.element p n q i) >>= λ c. given (read c)
  plain_of env t (S.minus p e) = plain_of env t e >>= λ x. given (minus (type_in vs t e) x)
  plain_of env t (S.complement p e) = plain_of env DINT e >>= λ x. given (complement x)
  plain_of env t (S.binary p o l r) =
      let u = operand_type vs t o l r in
      plain_of env u l >>= λ x. plain_of env u r >>= λ y. given (binary o u x y)
  plain_of env t (S.conversion p u v e) = plain_of env u e >>= λ x. given (conversion u v x)
  plain_of env t (S.brackets p e) = plain_of env t e

  -- ---- statements, in unwound order; w is the weight so far

  unfoldable pub unwind : S.Stmts → State → Selector → ℕ → Answer Unwound
  unwind S.done env sel w = unwound done w
  unwind (S.assign x q e k) env sel w = do
    c ← cell_in env x
    v ← plain_of env (type_in vs DINT x) e
    w ← heavier (first_word x) (parts v) w
    r ← unwind k env no_selector w
    unwound (assign c v r.plain) r.weight
  unwind (S.choice p q c a b k) env sel w = do
    v ← plain_of env DINT c
    w ← heavier q (parts v) w
    x ← unwind a env no_selector w
    y ← unwind b env no_selector x.weight
    w ← heavier q (cells_within (length (cells_of vs)) x.plain y.plain) y.weight
    r ← unwind k env no_selector w
    unwound (choice v x.plain y.plain r.plain) r.weight
  unwind (S.select p s a k) env sel w = do
    v ← plain_of env DINT s
    x ← unwind a env (record { place = p; plain = v; ty = type_in vs DINT s }) w
    r ← unwind k env no_selector x.weight
    unwound (x.plain ⨾ r.plain) r.weight
  unwind (S.arm ls a k) env sel w = do
    w ← heavier sel.place (parts (tests_of sel ls)) w
    x ← unwind a env no_selector w
    y ← unwind k env sel x.weight
    w ← heavier sel.place (cells_within (length (cells_of vs)) x.plain y.plain) y.weight
    unwound (choice (tests_of sel ls) x.plain y.plain done) w
  unwind (S.loop p q n a b c body k) env sel w = do
    v ← found p (find n vs)
    cell ← found p (cell_of_variable v)
    let t = v.declared.ty
    by ← found p (whole_value vs env t c)
    from ← found p (whole_value vs env t a)
    to ← found p (whole_value vs env t b)
    x ← looped p t cell (λ z w. unwind body (store cell (encode t z) env) no_selector w) by to from w
    r ← unwind k env no_selector x.weight
    unwound (x.plain ⨾ r.plain) r.weight

unfoldable pub unwound_program : Program → Answer Unwound
unwound_program pr =
    let vs = variables_of pr.declared in
    unwind vs pr.body (replicate (length (cells_of vs)) 0) no_selector 0
