-- Declared names and cells, and refusal 5.
use Rattle.std.specs.Prelude.{Bool, true, false, not, cond, ◌&&◌, ◌||◌, List, [], ◌∷◌, ◌++◌, ℕ, suc, ◌+◌, ◌-◌, ltb, eqb, replicate}
use Rattle.std.proofs.Math.Option.{Option, none, some}
use Rattle.paper.specs.declared.Ty.{Ty}
use Rattle.paper.specs.declared.Kind.{Kind}
use Rattle.paper.specs.declared.Kind.TheVariants.{Input, Output, Other}
use Rattle.paper.specs.Types.{is_integer}
use Rattle.paper.specs.Words.{same_bytes}
use Rattle.paper.specs.Source.{Name, Expr, number, truth, variable, element, minus, complement, binary, conversion, brackets, Stmts, done, assign, choice, select, arm, loop, Bounds, single, array, Named, Declared, Program}

-- ---- variables and their cells

-- a declared variable and its first cell
pub record Variable : Type 0 where
  pub declared : Declared
  pub first : ℕ

-- The text, 'one cell': an array has a cell for each element, any other variable has one
abbrev pub size_of : Bounds → ℕ
size_of single = 1
size_of (array p lo q hi) = suc hi - lo

abbrev pub kind_tag : Kind → ℕ
kind_tag Input = 0
kind_tag Output = 1
kind_tag Other = 2

abbrev pub same_kind : Kind → Kind → Bool
same_kind k l = eqb (kind_tag k) (kind_tag l)

-- the declarations of one kind, in order of declaration
unfoldable pub of_kind : Kind → List Declared → List Declared
of_kind k [] = []
of_kind k (d ∷ ds) = cond (same_kind k d.kind) (d ∷ of_kind k ds) (of_kind k ds)

-- ST0 in print, 'order': inputs first, then outputs, then the rest
unfoldable pub printed : List Declared → List Declared
printed ds = of_kind Input ds ++ of_kind Output ds ++ of_kind Other ds

-- ST0 in print, 'numbered': each variable behind the cells of those before it, from n on
unfoldable pub placed : ℕ → List Declared → List Variable
placed n [] = []
placed n (d ∷ ds) = record { declared = d; first = n } ∷ placed (n + size_of d.bounds) ds

unfoldable pub variables_of : List Declared → List Variable
variables_of ds = placed 0 (printed ds)

-- what is known of a cell from its declaration
pub record Info : Type 0 where
  pub ty : Ty
  pub is_input : Bool

unfoldable pub cells_of : List Variable → List Info
cells_of [] = []
cells_of (v ∷ vs) =
    replicate (size_of v.declared.bounds) (record { ty = v.declared.ty; is_input = same_kind Input v.declared.kind })
    ++ cells_of vs

-- the variable of a name
unfoldable pub find : Name → List Variable → Option Variable
find s [] = none
find s (v ∷ vs) = elim (same_bytes s v.declared.name) [ true ↦ some v | false ↦ find s vs ]

-- ---- 5: the places of all faults

-- p, where the test holds
abbrev pub at : ℕ → Bool → List ℕ
at p true = p ∷ []
at p false = []

unfoldable pub is_among : Name → List Name → Bool
is_among s [] = false
is_among s (n ∷ ns) = same_bytes s n || is_among s ns

abbrev pub is_array : Bounds → Bool
is_array single = false
is_array (array p lo q hi) = true

abbrev pub reversed : Bounds → Bool
reversed single = false
reversed (array p lo q hi) = ltb hi lo

-- refusal 5 of declarations: a name again, bounds the wrong way round, too many cells; `before` are the names so far, n the cells
unfoldable pub declaration_faults : List Name → ℕ → List Declared → List ℕ
declaration_faults before n [] = []
declaration_faults before n (d ∷ ds) =
    let m = n + size_of d.bounds in
    at d.place (is_among d.name before || reversed d.bounds || ltb 64 m) ++ declaration_faults (d.name ∷ before) m ds

-- the name of a variable or an element
abbrev pub named : Expr → Option Named
named (number p z) = none
named (truth p b) = none
named (variable p s) = some (record { place = p; name = s })
named (element p s q i) = some (record { place = p; name = s })
named (minus p e) = none
named (complement p e) = none
named (binary p o l r) = none
named (conversion p t u e) = none
named (brackets p e) = none

module _ (vs : List Variable) where
  unfoldable pub is_known : Name → Bool
  is_known s = elim (find s vs) [ none ↦ false | some v ↦ true ]

  unfoldable pub is_input : Name → Bool
  is_input s = elim (find s vs) [ none ↦ false | some v ↦ same_kind Input v.declared.kind ]

  -- Types, 'loop variable': what a FOR may run over
  unfoldable pub can_loop : Name → Bool
  can_loop s =
      elim (find s vs) [
        | none ↦ false
        | some v ↦
            is_integer v.declared.ty && not (same_kind Input v.declared.kind) && not (is_array v.declared.bounds)
      ]

  -- unknown names of an expression
  unfoldable pub unknown : Expr → List ℕ
  unknown (number p z) = []
  unknown (truth p b) = []
  unknown (variable p s) = at p (not (is_known s))
  unknown (element p s q i) = at p (not (is_known s)) ++ unknown i
  unknown (minus p e) = unknown e
  unknown (complement p e) = unknown e
  unknown (binary p o l r) = unknown l ++ unknown r
  unknown (conversion p t u e) = unknown e
  unknown (brackets p e) = unknown e

  -- refusal 5 of a target: an input, or a variable that one of the FORs around runs over
  unfoldable pub assigned : List Name → Expr → List ℕ
  assigned loops x = elim (named x) [ none ↦ [] | some n ↦ at n.place (is_input n.name || is_among n.name loops) ]

  unfoldable pub statement_faults : Stmts → List Name → List ℕ
  statement_faults done loops = []
  statement_faults (assign x q e k) loops = unknown x ++ assigned loops x ++ unknown e ++ statement_faults k loops
  statement_faults (choice p q c a b k) loops =
      unknown c ++ statement_faults a loops ++ statement_faults b loops ++ statement_faults k loops
  statement_faults (select p s a k) loops = unknown s ++ statement_faults a loops ++ statement_faults k loops
  statement_faults (arm ls a k) loops = statement_faults a loops ++ statement_faults k loops
  statement_faults (loop p q v a b c body k) loops =
      at q (not (can_loop v) || is_among v loops)
      ++ unknown a ++ unknown b ++ unknown c
      ++ statement_faults body (v ∷ loops)
      ++ statement_faults k loops

unfoldable pub name_faults : Program → List ℕ
name_faults pr =
    declaration_faults [] 0 pr.declared
    ++ statement_faults (variables_of pr.declared) pr.body []
