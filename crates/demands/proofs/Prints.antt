-- A print is short, and a figure is at most the weight.
use mathlib.Core.Path.{◌≡◌, subst}
use mathlib.Core.Bool.{Bool, true, false, cond, ◌&&◌}
use mathlib.Core.List.{List, [], ◌∷◌, ◌++◌, append_assoc}
use Prim.Native.Nat.{ℕ, zero, suc, ◌+◌, ◌*◌, ◌-◌, ◌/◌, ◌%◌, ◌≤◌}
use Prim.Native.String.{String}
use native.Mathlib.Omega.{arith}
use lib.Dec.{ltb, leb}
use lib.IntN.{ℤ, pos, negsuc}
use lib.ListN.{length, length-append}
use Rattle.paper.specs.declared.Ty.{Ty}
use Rattle.paper.specs.declared.Ty.TheVariants.{Bool as BOOL, Int as INT, Uint as UINT, Dint as DINT, Udint as UDINT}
use Rattle.paper.specs.declared.Kind.{Kind}
use Rattle.paper.specs.declared.Kind.TheVariants.{Input, Output, Other}
use Rattle.paper.specs.declared.Op.{Op}
use Rattle.paper.specs.declared.Op.TheVariants.{Mul, Div, Mod, Add, Sub, Lt, Gt, Le, Ge, Eq, Ne, And, Xor, Or}
use Rattle.paper.specs.Refusals.{given}
use Rattle.paper.specs.Words.{bytes, type_name, conversion_name}
use Rattle.paper.specs.Source.{Name, Bounds, single, array, Initial, nothing, value, flag, Declared}
use Rattle.paper.specs.Names.{Variable, size_of, same_kind, of_kind, printed, placed, variables_of, cells_of}
use Rattle.paper.specs.Plain.{Expr, number, truth, read, minus, complement, binary, conversion, Stmts, done, assign, choice, parts, figure, weight}
use Rattle.paper.specs.Printing as P
use Rattle.paper.proofs.Counts.{few_declared}
use Rattle.paper.specs.Judge.{Sound, judge, print_of}
use Rattle.demands.specs.InTypes.{All}
use Rattle.demands.proofs.Lists.{both_all}
use Rattle.demands.proofs.ShortWords.{Short}
use Rattle.demands.proofs.ShortNames.{ShortDeclared, short_names}
use Rattle.demands.proofs.Accepted.{accepted}
use Rattle.demands.proofs.Theorem.{walk_means}

-- ---- the figure

has_parts : (e : Expr) → 1 ≤ parts e
unfolding parts
has_parts (number t z) = omega arith
has_parts (truth b) = omega arith
has_parts (read c) = omega arith
has_parts (minus t e) = omega arith
has_parts (complement e) = omega arith
has_parts (binary o t l r) = omega arith
has_parts (conversion t u e) = omega arith

-- an assignment's and a condition's expression have a part each
pub low_figure : (p : Stmts) (n : ℕ) → figure p ≤ weight n p
unfolding figure weight
low_figure done n = omega arith
low_figure (assign c e k) n = omega (arith, has_parts e, low_figure k n)
low_figure (choice c a b k) n = omega (arith, has_parts c, low_figure a n, low_figure b n, low_figure k n)

-- ---- a few bytes in front of k

digits_few : (f n : ℕ) (k : List ℕ) → length (P.digits f n k) ≤ f + length k
unfolding P.digits
digits_few zero n k = omega arith
digits_few (suc f) n k = go (ltb n 10) (digits_few f (n / 10) ((48 + n % 10) ∷ k))
  where
    go : (b : Bool) → length (P.digits f (n / 10) ((48 + n % 10) ∷ k)) ≤ f + suc (length k)
        → length {A = ℕ} (elim b [ true ↦ (48 + n) ∷ k | false ↦ P.digits f (n / 10) ((48 + n % 10) ∷ k) ]) ≤ suc f + length k
    go true h = omega arith
    go false h = omega arith

whole_few : (z : ℤ) (k : List ℕ) → length (P.whole z k) ≤ 11 + length k
unfolding bytes
whole_few (pos n) k = omega (arith, digits_few 10 n k)
whole_few (negsuc n) k = omega (arith, digits_few 10 (suc n) k)

truth_few : (b : Bool) (k : List ℕ) → length (P.truth_value b k) ≤ 5 + length k
unfolding bytes
truth_few true k = omega arith
truth_few false k = omega arith

type_few : (t : Ty) (k : List ℕ) → length (type_name t ++ k) ≤ 5 + length k
unfolding type_name bytes
type_few BOOL k = omega arith
type_few INT k = omega arith
type_few UINT k = omega arith
type_few DINT k = omega arith
type_few UDINT k = omega arith

conversion_few : (t u : Ty) (k : List ℕ) → length (conversion_name t u ++ k) ≤ 14 + length k
unfolding conversion_name bytes
conversion_few t u k = simp append_assoc (omega (arith, type_few t (bytes "_TO_" ++ (type_name u ++ k)), type_few u k))

sign_few : (o : Op) (k : List ℕ) → length (P.put (P.sign o) k) ≤ 5 + length k
unfolding bytes
sign_few Mul k = omega arith
sign_few Div k = omega arith
sign_few Mod k = omega arith
sign_few Add k = omega arith
sign_few Sub k = omega arith
sign_few Lt k = omega arith
sign_few Gt k = omega arith
sign_few Le k = omega arith
sign_few Ge k = omega arith
sign_few Eq k = omega arith
sign_few Ne k = omega arith
sign_few And k = omega arith
sign_few Xor k = omega arith
sign_few Or k = omega arith

name_few : (s : Name) (k : List ℕ) → Short s → length (s ++ k) ≤ 24 + length k
name_few s k h = omega (arith, length-append s k)

-- ---- cells, expressions, statements

abbrev ShortVariables : List Variable → Type 0
ShortVariables vs = All (λ v. Short v.declared.name) vs

cell_few : (vs : List Variable) → ShortVariables vs → (i : ℕ) (k : List ℕ) → length (P.cell vs i k) ≤ 36 + length k
unfolding P.cell bytes
cell_few [] h i k = omega arith
cell_few (v ∷ vs) h i k = go (leb v.first i && ltb i (v.first + size_of v.declared.bounds)) (cell_few vs h.1 i k)
  where
    of_bounds_lem : (b : Bounds)
        → length {A = ℕ} (elim b [
          | single ↦ v.declared.name ++ k
          | array p lo q hi ↦ v.declared.name ++ P.put "[" (P.natural (lo + (i - v.first)) (P.put "]" k))
        ]) ≤ 36 + length k
    of_bounds_lem single = omega (arith, name_few v.declared.name k h.0)
    of_bounds_lem (array p lo q hi) =
        let m = lo + (i - v.first) in
        omega (arith, name_few v.declared.name (P.put "[" (P.natural m (P.put "]" k))) h.0, digits_few 10 m (P.put "]" k))

    go : (b : Bool) → length (P.cell vs i k) ≤ 36 + length k
        → length {A = ℕ} (elim b [ true ↦ P.cell_of_variable v i k | false ↦ P.cell vs i k ]) ≤ 36 + length k
    go true r = of_bounds_lem v.declared.bounds
    go false r = r

module _ (vs : List Variable) (h : ShortVariables vs) where
  expression_few : (e : Expr) (k : List ℕ) → length (P.expression vs e k) ≤ 36 * parts e + length k
  unfolding P.expression parts bytes
  expression_few (number t z) k = omega (arith, whole_few z k)
  expression_few (truth b) k = omega (arith, truth_few b k)
  expression_few (read c) k = omega (arith, cell_few vs h c.0 k)
  expression_few (minus t e) k = omega (arith, expression_few e (P.put "))" k))
  expression_few (complement e) k = omega (arith, expression_few e (P.put ")" k))
  expression_few (binary o t l r) k =
      let right = P.expression vs r (P.put ")" k) in
      omega (arith, expression_few l (P.put (P.sign o) right), sign_few o right, expression_few r (P.put ")" k))
  expression_few (conversion t u e) k =
      omega (arith, conversion_few t u (P.put "(" (P.expression vs e (P.put ")" k))), expression_few e (P.put ")" k))

  -- one empty statement at most for a list, and ELSE at most
  or_empty_few : (a : Stmts) (k : List ℕ) → length (P.or_empty a k (P.statements vs a k)) ≤ 2 + length (P.statements vs a k)
  unfolding P.statements bytes
  or_empty_few done k = omega arith
  or_empty_few (assign c e r) k = omega arith
  or_empty_few (choice c a b r) k = omega arith

  else_few : (b : Stmts) (k : List ℕ) → length (P.else_of b k (P.statements vs b k)) ≤ 5 + length (P.statements vs b k)
  unfolding P.statements bytes
  else_few done k = omega arith
  else_few (assign c e r) k = omega arith
  else_few (choice c a b r) k = omega arith

  statements_few : (n : ℕ) (p : Stmts) (k : List ℕ) → length (P.statements vs p k) ≤ 80 * weight n p + length k
  unfolding P.statements weight bytes
  statements_few n done k = omega arith
  statements_few n (assign c e r) k =
      let behind = P.line ";" (P.statements vs r k) in
      omega (
        arith,
        has_parts e,
        cell_few vs h c.0 (P.put " := " (P.expression vs e behind)),
        expression_few e behind,
        statements_few n r k,
      )
  statements_few n (choice c a b r) k =
      let end = P.line "END_IF;" (P.statements vs r k) in
      let otherwise = P.else_of b end (P.statements vs b end) in
      let body = P.line " THEN" (P.or_empty a otherwise (P.statements vs a otherwise)) in
      omega (
        arith,
        has_parts c,
        expression_few c body,
        or_empty_few a otherwise,
        statements_few n a otherwise,
        else_few b end,
        statements_few n b end,
        statements_few n r k,
      )

-- ---- declarations

initial_few : (t : Ty) (v : Initial) (k : List ℕ) → length (P.initial_of t v k) ≤ 11 + length k
unfolding bytes
initial_few BOOL nothing k = omega arith
initial_few INT nothing k = omega arith
initial_few UINT nothing k = omega arith
initial_few DINT nothing k = omega arith
initial_few UDINT nothing k = omega arith
initial_few t (value q p z) k = whole_few z k
initial_few t (flag q b) k = omega (arith, truth_few b k)

valued_few : (d : Declared) (k : List ℕ) → length (type_name d.ty ++ P.put " := " (P.initial_of d.ty d.initial (P.line ";" k))) ≤ 40 + length k
unfolding bytes
valued_few d k =
    let first = P.initial_of d.ty d.initial (P.line ";" k) in
    omega (arith, type_few d.ty (P.put " := " first), initial_few d.ty d.initial (P.line ";" k))

declaration_few : (x : Kind) (b : Bounds) (d : Declared) (k : List ℕ) → length (P.declaration_of x b d k) ≤ 40 + length k
unfolding bytes
declaration_few Input b d k = omega (arith, type_few d.ty (P.line ";" k))
declaration_few Output single d k = valued_few d k
declaration_few Other single d k = valued_few d k
declaration_few Output (array p lo q hi) d k = omega arith
declaration_few Other (array p lo q hi) d k =
    let type = type_name d.ty ++ P.line ";" k in
    let upper = P.natural hi (P.put "] OF " type) in
    omega (arith, digits_few 10 lo (P.put ".." upper), digits_few 10 hi (P.put "] OF " type), type_few d.ty (P.line ";" k))

declarations_few : (ds : List Declared) (k : List ℕ) → ShortDeclared ds → length (P.declarations ds k) ≤ 67 * length ds + length k
unfolding P.declarations bytes
declarations_few [] k h = omega arith
declarations_few (d ∷ ds) k h =
    let own = P.declaration_of d.kind d.bounds d (P.declarations ds k) in
    omega (
      arith,
      name_few d.name (P.put " : " own) h.0,
      declaration_few d.kind d.bounds d (P.declarations ds k),
      declarations_few ds k h.1,
    )

-- of any of the three words for a section
section_few : (s : String) → length (bytes s) ≤ 10 → (ds : List Declared) (k : List ℕ) → ShortDeclared ds
    → length (P.section s ds k) ≤ 67 * length ds + 19 + length k
unfolding bytes
section_few s l [] k h = omega arith
section_few s l (d ∷ ds) k h =
    let rest = P.declarations (d ∷ ds) (P.line "END_VAR" k) in
    omega (arith, length-append (bytes s) (10 ∷ rest), declarations_few (d ∷ ds) (P.line "END_VAR" k) h)

-- the declarations of a kind are no more, and have short names too
record Some (cs ds : List Declared) : Type 0 where
  few : length cs ≤ length ds
  short : ShortDeclared cs

of_kind_some : (x : Kind) (ds : List Declared) → ShortDeclared ds → Some (of_kind x ds) ds
unfolding of_kind
of_kind_some x [] h = record { few = omega arith; short = tt }
of_kind_some x (d ∷ ds) h = go (same_kind x d.kind) (of_kind_some x ds h.1)
  where
    go : (b : Bool) → Some (of_kind x ds) ds → Some (cond b (d ∷ of_kind x ds) (of_kind x ds)) (d ∷ ds)
    go true r = record { few = omega (arith, r.few); short = (h.0, r.short) }
    go false r = record { few = omega (arith, r.few); short = r.short }

sections_few : (ds : List Declared) (k : List ℕ) → ShortDeclared ds → length (P.sections ds k) ≤ 201 * length ds + 57 + length k
unfolding P.sections bytes
sections_few ds k h =
    let i = of_kind_some Input ds h in
    let o = of_kind_some Output ds h in
    let v = of_kind_some Other ds h in
    let last = P.section "VAR" (of_kind Other ds) k in
    let middle = P.section "VAR_OUTPUT" (of_kind Output ds) last in
    omega (
      arith,
      section_few "VAR_INPUT" (omega arith) (of_kind Input ds) middle i.short,
      section_few "VAR_OUTPUT" (omega arith) (of_kind Output ds) last o.short,
      section_few "VAR" (omega arith) (of_kind Other ds) k v.short,
    )

-- ---- a program

placed_short : (n : ℕ) (ds : List Declared) → ShortDeclared ds → ShortVariables (placed n ds)
unfolding placed
placed_short n [] h = tt
placed_short n (d ∷ ds) h = (h.0, placed_short (n + size_of d.bounds) ds h.1)

variables_short : (ds : List Declared) → ShortDeclared ds → ShortVariables (variables_of ds)
unfolding variables_of printed
variables_short ds h =
    let x = of_kind Input ds in
    let y = of_kind Output ds in
    let z = of_kind Other ds in
    let short : (k : Kind) → ShortDeclared (of_kind k ds) = λ k. (of_kind_some k ds h).short in
    placed_short 0 (x ++ y ++ z) (both_all _ (x ++ y) z (both_all _ x y (short Input) (short Output)) (short Other))

print_few : (s : Name) (ds : List Declared) (n : ℕ) (p : Stmts) → Short s → ShortDeclared ds
    → length (P.print s ds (variables_of ds) p) ≤ 201 * length ds + 80 * weight n p + 104
unfolding P.print bytes
print_few s ds n p h k =
    let vs = variables_of ds in
    let end = P.line "END_PROGRAM" [] in
    let body = P.or_empty p end (P.statements vs p end) in
    omega (
      arith,
      name_few s (10 ∷ P.sections ds body) h,
      sections_few ds body k,
      or_empty_few vs (variables_short ds k) p end,
      statements_few vs (variables_short ds k) n p end,
    )

-- a short text of little weight has a short print
pub short_print : (text : List ℕ) (a : Sound) → judge text ≡ given a → length (print_of a) ≤ 2000000
unfolding print_of
short_print text a h =
    let k = accepted text a h in
    let pr = k.program in
    let u = k.walked in
    let names = short_names text k.words pr k.spelled k.read in
    let means = walk_means text a k in
    subst (λ (b : Sound). length (print_of b) ≤ 2000000) k.is
    (omega (
      arith,
      k.short,
      few_declared text k.words pr k.spelled k.read,
      print_few pr.name pr.declared (length (cells_of (variables_of pr.declared))) u.plain names.own names.declared,
      means.weighed,
      means.light (omega arith),
    ))

-- and a small figure
pub few_steps : (text : List ℕ) (a : Sound) → judge text ≡ given a → figure a.plain ≤ 3000
few_steps text a h =
    let k = accepted text a h in
    let u = k.walked in
    let means = walk_means text a k in
    subst (λ (b : Sound). figure b.plain ≤ 3000) k.is
    (omega (arith, means.weighed, means.light (omega arith), low_figure u.plain (length (cells_of (variables_of k.program.declared)))))
