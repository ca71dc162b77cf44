-- A walk that gave something, taken apart: what each of its stages gave, form by form of statement.
use mathlib.Core.Path.{◌≡◌}
use mathlib.Core.Option.{some}
use mathlib.Core.List.{List}
use Prim.Native.Nat.{ℕ}
use lib.IntN.{ℤ}
use lib.ListN.{length}
use Rattle.paper.specs.declared.Ty.TheVariants.{Dint as DINT}
use Rattle.paper.specs.declared.Cell.{Cell}
use Rattle.paper.specs.Refusals.{Answer, given, ◌>>=◌}
use Rattle.paper.specs.Types.{encode}
use Rattle.paper.specs.Source as S
use Rattle.paper.specs.Source.{Name}
use Rattle.paper.specs.Names.{Variable, cells_of, find}
use Rattle.paper.specs.Typing.{type_in}
use Rattle.paper.specs.Heights.{first_word}
use Rattle.paper.specs.Plain.{Expr, assign, choice, done, State, store, parts, cells_within, ◌⨾◌}
use Rattle.paper.specs.Meaning.{cell_of_variable, whole_value, cell_of}
use Rattle.paper.specs.Unwinding.{Unwound, unwound, Selector, no_selector, heavier, found, bracket_of, cell_in, plain_of, tests_of, looped, unwind}
use Rattle.demands.proofs.Answers.{given_same, bind_given, found_given, Heavier, heavier_given}

module _ (vs : List Variable) (env : State) where
  -- the walk of what follows, from the weight w
  abbrev pub Rest : S.Stmts → ℕ → Unwound → Type 0
  Rest k w r = unwind vs k env no_selector w ≡ given r

  pub record AssignWalk (x e : S.Expr) (k : S.Stmts) (w : ℕ) (u : Unwound) : Type 0 where
    pub cell : Cell
    pub value : Expr
    pub then_weight : ℕ
    pub rest : Unwound
    pub at_cell : cell_of vs env x ≡ some cell
    pub plain : plain_of vs env (type_in vs DINT x) e ≡ given value
    pub heavy : Heavier (parts value) w then_weight
    pub walk : Rest k then_weight rest
    pub is : ◌≡◌ {A = Unwound} (record { plain = assign cell value rest.plain; weight = rest.weight }) u

  pub assign_walk : (x e : S.Expr) (q : ℕ) (k : S.Stmts) (sel : Selector) (w : ℕ) (u : Unwound)
      → unwind vs (S.assign x q e k) env sel w ≡ given u → AssignWalk x e k w u
  unfolding unwind cell_in
  assign_walk x e q k sel w u h =
      let last : Cell → Expr → Unwound → Answer Unwound = λ c v r. unwound (assign c v r.plain) r.weight in
      let third : Cell → Expr → ℕ → Answer Unwound = λ c v w. unwind vs k env no_selector w >>= last c v in
      let second : Cell → Expr → Answer Unwound = λ c v. heavier (first_word x) (parts v) w >>= third c v in
      let first : Cell → Answer Unwound = λ c. plain_of vs env (type_in vs DINT x) e >>= second c in
      let (c, hc, h₁) = bind_given (cell_in vs env x) first u h in
      let (v, hv, h₂) = bind_given (plain_of vs env (type_in vs DINT x) e) (second c) u h₁ in
      let (w₁, hw, h₃) = bind_given (heavier (first_word x) (parts v) w) (third c v) u h₂ in
      let (r, hr, h₄) = bind_given (unwind vs k env no_selector w₁) (last c v) u h₃ in
      record {
        cell = c;
        value = v;
        then_weight = w₁;
        rest = r;
        at_cell = found_given (bracket_of x) (cell_of vs env x) c hc;
        plain = hv;
        heavy = heavier_given (first_word x) (parts v) w w₁ hw;
        walk = hr;
        is = given_same {a = record { plain = assign c v r.plain; weight = r.weight }} h₄;
      }

  -- an IF's cells, of the cells of all variables
  abbrev pub within : Unwound → Unwound → ℕ
  within x y = cells_within (length (cells_of vs)) x.plain y.plain

  pub record ChoiceWalk (c : S.Expr) (a b k : S.Stmts) (w : ℕ) (u : Unwound) : Type 0 where
    pub test : Expr
    pub then_weight : ℕ
    pub yes' : Unwound
    pub no' : Unwound
    pub end_weight : ℕ
    pub rest : Unwound
    pub plain : plain_of vs env DINT c ≡ given test
    pub heavy : Heavier (parts test) w then_weight
    pub walk_yes : Rest a then_weight yes'
    pub walk_no : Rest b yes'.weight no'
    pub heavy_end : Heavier (within yes' no') no'.weight end_weight
    pub walk : Rest k end_weight rest
    pub is : ◌≡◌ {A = Unwound} (record { plain = choice test yes'.plain no'.plain rest.plain; weight = rest.weight }) u

  pub choice_walk : (p q : ℕ) (c : S.Expr) (a b k : S.Stmts) (sel : Selector) (w : ℕ) (u : Unwound)
      → unwind vs (S.choice p q c a b k) env sel w ≡ given u → ChoiceWalk c a b k w u
  unfolding unwind
  choice_walk p q c a b k sel w u h =
      let fifth : Expr → Unwound → Unwound → Unwound → Answer Unwound =
      λ v x y r. unwound (choice v x.plain y.plain r.plain) r.weight in
      let fourth : Expr → Unwound → Unwound → ℕ → Answer Unwound = λ v x y w. unwind vs k env no_selector w >>= fifth v x y in
      let third : Expr → Unwound → Unwound → Answer Unwound = λ v x y. heavier q (within x y) y.weight >>= fourth v x y in
      let second : Expr → Unwound → Answer Unwound = λ v x. unwind vs b env no_selector x.weight >>= third v x in
      let first : Expr → ℕ → Answer Unwound = λ v w. unwind vs a env no_selector w >>= second v in
      let start : Expr → Answer Unwound = λ v. heavier q (parts v) w >>= first v in
      let (v, hv, h₁) = bind_given (plain_of vs env DINT c) start u h in
      let (w₁, hw, h₂) = bind_given (heavier q (parts v) w) (first v) u h₁ in
      let (x, hx, h₃) = bind_given (unwind vs a env no_selector w₁) (second v) u h₂ in
      let (y, hy, h₄) = bind_given (unwind vs b env no_selector x.weight) (third v x) u h₃ in
      let (w₂, he, h₅) = bind_given (heavier q (within x y) y.weight) (fourth v x y) u h₄ in
      let (r, hr, h₆) = bind_given (unwind vs k env no_selector w₂) (fifth v x y) u h₅ in
      record {
        test = v;
        then_weight = w₁;
        yes' = x;
        no' = y;
        end_weight = w₂;
        rest = r;
        plain = hv;
        heavy = heavier_given q (parts v) w w₁ hw;
        walk_yes = hx;
        walk_no = hy;
        heavy_end = heavier_given q (within x y) y.weight w₂ he;
        walk = hr;
        is = given_same {a = record { plain = choice v x.plain y.plain r.plain; weight = r.weight }} h₆;
      }

  -- the selector of a CASE at p
  abbrev pub selector_of : ℕ → S.Expr → Expr → Selector
  selector_of p s v = record { place = p; plain = v; ty = type_in vs DINT s }

  pub record SelectWalk (p : ℕ) (s : S.Expr) (a k : S.Stmts) (w : ℕ) (u : Unwound) : Type 0 where
    pub value : Expr
    pub arms : Unwound
    pub rest : Unwound
    pub plain : plain_of vs env DINT s ≡ given value
    pub walk_arms : unwind vs a env (selector_of p s value) w ≡ given arms
    pub walk : Rest k arms.weight rest
    pub is : ◌≡◌ {A = Unwound} (record { plain = arms.plain ⨾ rest.plain; weight = rest.weight }) u

  pub select_walk : (p : ℕ) (s : S.Expr) (a k : S.Stmts) (sel : Selector) (w : ℕ) (u : Unwound)
      → unwind vs (S.select p s a k) env sel w ≡ given u → SelectWalk p s a k w u
  unfolding unwind
  select_walk p s a k sel w u h =
      let second : Unwound → Unwound → Answer Unwound = λ x r. unwound (x.plain ⨾ r.plain) r.weight in
      let first : Unwound → Answer Unwound = λ x. unwind vs k env no_selector x.weight >>= second x in
      let start : Expr → Answer Unwound = λ v. unwind vs a env (selector_of p s v) w >>= first in
      let (v, hv, h₁) = bind_given (plain_of vs env DINT s) start u h in
      let (x, hx, h₂) = bind_given (unwind vs a env (selector_of p s v) w) first u h₁ in
      let (r, hr, h₃) = bind_given (unwind vs k env no_selector x.weight) (second x) u h₂ in
      record { value = v; arms = x; rest = r; plain = hv; walk_arms = hx; walk = hr; is = given_same {a = record { plain = x.plain ⨾ r.plain; weight = r.weight }} h₃ }

  pub record ArmWalk (ls : List S.Label) (a k : S.Stmts) (sel : Selector) (w : ℕ) (u : Unwound) : Type 0 where
    pub then_weight : ℕ
    pub yes' : Unwound
    pub no' : Unwound
    pub end_weight : ℕ
    pub heavy : Heavier (parts (tests_of sel ls)) w then_weight
    pub walk_yes : Rest a then_weight yes'
    pub walk_no : unwind vs k env sel yes'.weight ≡ given no'
    pub heavy_end : Heavier (within yes' no') no'.weight end_weight
    pub is : ◌≡◌ {A = Unwound} (record { plain = choice (tests_of sel ls) yes'.plain no'.plain done; weight = end_weight }) u

  pub arm_walk : (ls : List S.Label) (a k : S.Stmts) (sel : Selector) (w : ℕ) (u : Unwound)
      → unwind vs (S.arm ls a k) env sel w ≡ given u → ArmWalk ls a k sel w u
  unfolding unwind
  arm_walk ls a k sel w u h =
      let p = sel.place in
      let third : Unwound → Unwound → ℕ → Answer Unwound = λ x y w. unwound (choice (tests_of sel ls) x.plain y.plain done) w in
      let second : Unwound → Unwound → Answer Unwound = λ x y. heavier p (within x y) y.weight >>= third x y in
      let first : Unwound → Answer Unwound = λ x. unwind vs k env sel x.weight >>= second x in
      let start : ℕ → Answer Unwound = λ w. unwind vs a env no_selector w >>= first in
      let (w₁, hw, h₁) = bind_given (heavier p (parts (tests_of sel ls)) w) start u h in
      let (x, hx, h₂) = bind_given (unwind vs a env no_selector w₁) first u h₁ in
      let (y, hy, h₃) = bind_given (unwind vs k env sel x.weight) (second x) u h₂ in
      let (w₂, he, h₄) = bind_given (heavier p (within x y) y.weight) (third x y) u h₃ in
      record {
        then_weight = w₁;
        yes' = x;
        no' = y;
        end_weight = w₂;
        heavy = heavier_given p (parts (tests_of sel ls)) w w₁ hw;
        walk_yes = hx;
        walk_no = hy;
        heavy_end = heavier_given p (within x y) y.weight w₂ he;
        is = given_same {a = record { plain = choice (tests_of sel ls) x.plain y.plain done; weight = w₂ }} h₄;
      }

  -- the walk of a FOR's body with v at i
  abbrev pub body_of : S.Stmts → Variable → Cell → ℤ → ℕ → Answer Unwound
  body_of body v d i w = unwind vs body (store d (encode v.declared.ty i) env) no_selector w

  pub record LoopWalk (p : ℕ) (n : Name) (a b c : S.Expr) (body k : S.Stmts) (w : ℕ) (u : Unwound) : Type 0 where
    pub var : Variable
    pub cell : Cell
    pub by : ℤ
    pub from : ℤ
    pub to : ℤ
    pub passes : Unwound
    pub rest : Unwound
    pub is_found : find n vs ≡ some var
    pub at_cell : cell_of_variable var ≡ some cell
    pub is_by : whole_value vs env var.declared.ty c ≡ some by
    pub is_from : whole_value vs env var.declared.ty a ≡ some from
    pub is_to : whole_value vs env var.declared.ty b ≡ some to
    pub walk_passes : looped p var.declared.ty cell (body_of body var cell) by to from w ≡ given passes
    pub walk : Rest k passes.weight rest
    pub is : ◌≡◌ {A = Unwound} (record { plain = passes.plain ⨾ rest.plain; weight = rest.weight }) u

  pub loop_walk : (p q : ℕ) (n : Name) (a b c : S.Expr) (body k : S.Stmts) (sel : Selector) (w : ℕ) (u : Unwound)
      → unwind vs (S.loop p q n a b c body k) env sel w ≡ given u → LoopWalk p n a b c body k w u
  unfolding unwind
  loop_walk p q n a b c body k sel w u h =
      let last : Unwound → Unwound → Answer Unwound = λ x r. unwound (x.plain ⨾ r.plain) r.weight in
      let sixth : Unwound → Answer Unwound = λ x. unwind vs k env no_selector x.weight >>= last x in
      let fifth : Variable → Cell → ℤ → ℤ → ℤ → Answer Unwound =
      λ v d by from to. looped p v.declared.ty d (body_of body v d) by to from w >>= sixth in
      let fourth : Variable → Cell → ℤ → ℤ → Answer Unwound =
      λ v d by from. found p (whole_value vs env v.declared.ty b) >>= fifth v d by from in
      let third : Variable → Cell → ℤ → Answer Unwound =
      λ v d by. found p (whole_value vs env v.declared.ty a) >>= fourth v d by in
      let second : Variable → Cell → Answer Unwound =
      λ v d. found p (whole_value vs env v.declared.ty c) >>= third v d in
      let first : Variable → Answer Unwound = λ v. found p (cell_of_variable v) >>= second v in
      let (v, hv, h₁) = bind_given (found p (find n vs)) first u h in
      let (d, hd, h₂) = bind_given (found p (cell_of_variable v)) (second v) u h₁ in
      let (by, hb, h₃) = bind_given (found p (whole_value vs env v.declared.ty c)) (third v d) u h₂ in
      let (from, hf, h₄) = bind_given (found p (whole_value vs env v.declared.ty a)) (fourth v d by) u h₃ in
      let (to, ht, h₅) = bind_given (found p (whole_value vs env v.declared.ty b)) (fifth v d by from) u h₄ in
      let (x, hx, h₆) = bind_given (looped p v.declared.ty d (body_of body v d) by to from w) sixth u h₅ in
      let (r, hr, h₇) = bind_given (unwind vs k env no_selector x.weight) (last x) u h₆ in
      record {
        var = v;
        cell = d;
        by = by;
        from = from;
        to = to;
        passes = x;
        rest = r;
        is_found = found_given p (find n vs) v hv;
        at_cell = found_given p (cell_of_variable v) d hd;
        is_by = found_given p (whole_value vs env v.declared.ty c) by hb;
        is_from = found_given p (whole_value vs env v.declared.ty a) from hf;
        is_to = found_given p (whole_value vs env v.declared.ty b) to ht;
        walk_passes = hx;
        walk = hr;
        is = given_same {a = record { plain = x.plain ⨾ r.plain; weight = r.weight }} h₇;
      }
