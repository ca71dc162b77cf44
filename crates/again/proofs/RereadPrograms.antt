-- The words of a print, read: a program of its form.
use mathlib.Core.Path.{◌≡◌, refl}
use mathlib.Core.Bool.{true, false}
use mathlib.Core.List.{List, [], ◌∷◌}
use Prim.Native.Nat.{ℕ, ◌+◌, ◌*◌, ◌≤◌}
use Prim.Native.String.{String}
use native.Mathlib.Omega.{arith}
use lib.IntN.{pos, negsuc}
use lib.ListN.{length}
use Rattle.paper.specs.declared.Ty.{Ty}
use Rattle.paper.specs.declared.Ty.TheVariants.{Bool as BOOL, Int as INT, Uint as UINT, Dint as DINT, Udint as UDINT}
use Rattle.paper.specs.declared.Kind.{Kind}
use Rattle.paper.specs.declared.Kind.TheVariants.{Input, Output, Other}
use Rattle.paper.specs.declared.Cell.{Cell}
use Rattle.paper.specs.Refusals.{Answer, given, ◌>>=◌}
use Rattle.paper.specs.Words as W
use Rattle.paper.specs.Words.{Word, Token, bytes, same_bytes}
use Rattle.paper.specs.Source as S
use Rattle.paper.specs.Source.{Name, Bounds, single, array, Initial, nothing, value, flag, Declared, Program}
use Rattle.paper.specs.Names.{Variable, of_kind, printed}
use Rattle.paper.specs.Reading as R
use Rattle.paper.specs.Reading.{Read}
use Rattle.paper.specs.Plain.{Expr, number, truth, read, minus, complement, binary, conversion, Stmts, done, assign, choice}
use Rattle.again.proofs.Says.{key, Says, over, says, Gives, gives, fuel}
use Rattle.again.proofs.Wordings.{operator_word, cell_words, or_semicolon, else_words, expression_words, statement_words, initial_words, declared_words, declaration_words, section_words, sections_words, program_words}
use Rattle.again.proofs.Printed.{Printed, begins}
use Rattle.again.proofs.Forms.{Forms, depth}
use Rattle.again.proofs.Alike.{Alikes}
use Rattle.again.proofs.RereadExpressions.{Readable, calls}
use Rattle.again.proofs.RereadStatements.{ReadableAll, calls_of, list}
use Rattle.again.proofs.RereadDeclarations.{OfKind, NoSection, sections_of}

-- ---- a text's words bound the calls

says_length : {ws : List Word} {ts : List Token} → Says ws ts → length ts ≡ length ws
says_length over = refl
says_length (says s) = let h = says_length s in omega arith

module _ (vs : List Variable) where
  long_cell : (c : Cell) (k : List Word) → Printed vs c → 1 + length k ≤ length (cell_words vs c.0 k)
  long_cell c k h = let x = begins vs c k h in rw x.is (let l = x.long in omega arith)

  long_expression : (x : Expr) (k : List Word) → Readable vs x → calls x + 8 * length k ≤ 8 * length (expression_words vs x k)
  unfolding calls expression_words
  long_expression (number t (pos n)) k r = omega arith
  long_expression (number t (negsuc n)) k r = omega arith
  long_expression (truth b) k r = omega arith
  long_expression (read c) k r = omega (arith, long_cell c k r)
  long_expression (minus t e) k r = omega (arith, long_expression e (key ")" ∷ key ")" ∷ k) r)
  long_expression (complement e) k r = omega (arith, long_expression e (key ")" ∷ k) r.1)
  long_expression (binary o t l e) k r =
      omega (
        arith,
        long_expression l (operator_word o ∷ expression_words vs e (key ")" ∷ k)) r.0,
        long_expression e (key ")" ∷ k) r.1,
      )
  long_expression (conversion t u e) k r = omega (arith, long_expression e (key ")" ∷ k) r)

  long_list : (p : Stmts) (k : List Word) → length (statement_words vs p k) ≤ length (or_semicolon p k (statement_words vs p k))
  unfolding statement_words
  long_list done k = omega arith
  long_list (assign c e r) k = omega arith
  long_list (choice c a b r) k = omega arith

  long_else : (p : Stmts) (k : List Word) → length (statement_words vs p k) ≤ length (else_words p k (statement_words vs p k))
  unfolding statement_words
  long_else done k = omega arith
  long_else (assign c e r) k = omega arith
  long_else (choice c a b r) k = omega arith

  long_statements : (p : Stmts) (k : List Word) → ReadableAll vs p → calls_of p + 16 * length k ≤ 16 * length (statement_words vs p k) + 2
  unfolding calls_of statement_words
  long_statements done k r = omega arith
  long_statements (assign c e p) k r =
      let after = key ";" ∷ statement_words vs p k in
      omega (arith, long_cell c (key ":=" ∷ expression_words vs e after) r.0, long_expression e after r.1.0, long_statements p k r.2)
  long_statements (choice c a b p) k r =
      let end = key "END_IF" ∷ key ";" ∷ statement_words vs p k in
      let otherwise = else_words b end (statement_words vs b end) in
      let body = key "THEN" ∷ or_semicolon a otherwise (statement_words vs a otherwise) in
      omega (
        arith,
        long_expression c body r.0.0,
        long_list a otherwise,
        long_statements a otherwise r.1,
        long_else b end,
        long_statements b end r.2,
        long_statements p k r.3,
      )

long_initial : (t : Ty) (v : Initial) (k : List Word) → length k ≤ length (initial_words t v k)
long_initial BOOL nothing k = omega arith
long_initial INT nothing k = omega arith
long_initial UINT nothing k = omega arith
long_initial DINT nothing k = omega arith
long_initial UDINT nothing k = omega arith
long_initial t (value q p (pos n)) k = omega arith
long_initial t (value q p (negsuc n)) k = omega arith
long_initial t (flag q b) k = omega arith

long_declared : (x : Kind) (b : Bounds) (t : Ty) (v : Initial) (k : List Word) → length k ≤ length (declared_words x b t v k)
long_declared Input b t v k = omega arith
long_declared Output single t v k = omega (arith, long_initial t v (key ";" ∷ k))
long_declared Output (array p lo q hi) t v k = omega arith
long_declared Other single t v k = omega (arith, long_initial t v (key ";" ∷ k))
long_declared Other (array p lo q hi) t v k = omega arith

long_declarations : (ds : List Declared) (k : List Word) → length ds + length k ≤ length (declaration_words ds k)
unfolding declaration_words
long_declarations [] k = omega arith
long_declarations (d ∷ ds) k =
    omega (arith, long_declarations ds k, long_declared d.kind d.bounds d.ty d.initial (declaration_words ds k))

long_section : (c : String) (ds : List Declared) (k : List Word) → length ds + length k ≤ length (section_words c ds k)
long_section c [] k = omega arith
long_section c (d ∷ ds) k = omega (arith, long_declarations (d ∷ ds) (key "END_VAR" ∷ k))

long_sections : (ds : List Declared) (k : List Word)
    → length (of_kind Input ds) + length (of_kind Output ds) + length (of_kind Other ds) + length k ≤ length (sections_words ds k)
unfolding sections_words
long_sections ds k =
    let last = section_words "VAR" (of_kind Other ds) k in
    let middle = section_words "VAR_OUTPUT" (of_kind Output ds) last in
    omega (
      arith,
      long_section "VAR_INPUT" (of_kind Input ds) middle,
      long_section "VAR_OUTPUT" (of_kind Output ds) last,
      long_section "VAR" (of_kind Other ds) k,
    )

-- ---- a program

-- the program read, in the form of this name, these declarations and statements
pub record Reread (vs : List Variable) (n : Name) (ds : List Declared) (p : Stmts) (o : Answer Program) : Type 0 where
  pub program : Program
  pub is : o ≡ given program
  pub name : program.name ≡ n
  pub declared : Alikes (printed ds) program.declared
  pub body : Forms vs p program.body

-- behind what was read
then_read : {A : Type 0} {Q : A → Type 0} {k : List Word} {o : Answer (Read A)} {f : Read A → Answer Program}
    (vs : List Variable) (n : Name) (ds : List Declared) (p : Stmts)
    → Gives Q k o → ((x : Read A) → Q x.it → Says k x.rest → Reread vs n ds p (f x)) → Reread vs n ds p (o >>= f)
then_read vs n ds p (gives {a = a} {ts = ts} q s) g = g (record { it = a; rest = ts }) q s

-- END_PROGRAM and nothing after
end_of : (vs : List Variable) (n : Name) (ds : List Declared) (p : Stmts) (es : List Declared) (b : S.Stmts) (ts : List Token)
    → Alikes (printed ds) es → Forms vs p b → Says (key "END_PROGRAM" ∷ W.ending ∷ []) ts
    → Reread vs n ds p
    (R.expect "END_PROGRAM" ts >>= λ end. elim (R.is_ending (R.next end)) [
      | true ↦ given (record { name = n; declared = es; body = b })
      | false ↦ R.broken end
    ])
unfolding bytes same_bytes
end_of vs n ds p es b ts d f (says (says s)) = record { program = _; is = refl; name = refl; declared = d; body = f }

-- a list begins no section
list_no_section : (vs : List Variable) (p : Stmts) (k : List Word) → NoSection k → ReadableAll vs p
    → NoSection (or_semicolon p k (statement_words vs p k))
unfolding statement_words bytes same_bytes
list_no_section vs done k n r = refl
list_no_section vs (assign c e p) k n r =
    rw (begins vs c (key ":=" ∷ expression_words vs e (key ";" ∷ statement_words vs p k)) r.0).is refl
list_no_section vs (choice c a b p) k n r = refl

pub reread : (vs : List Variable) (n : Name) (ds : List Declared) (p : Stmts) (ts : List Token)
    → ((x : Kind) → OfKind x (of_kind x ds)) → ReadableAll vs p → depth p ≤ 32
    → Says (program_words n ds vs p) ts → Reread vs n ds p (R.program_of ts)
unfolding program_words R.program_of R.program bytes same_bytes
reread vs n ds p ts h r d (says (says {ts = us} s)) =
    let end = key "END_PROGRAM" ∷ W.ending ∷ [] in
    let body = or_semicolon p end (statement_words vs p end) in
    let f : ℕ = 32 * length ts + 32 in
    let long : length us ≡ length (sections_words ds body) = says_length s in
    let many = long_sections ds body in
    let calls = long_statements vs p end r in
    let first = long_list vs p end in
    then_read vs n ds p (sections_of ds f body us (list_no_section vs p end refl r) h (fuel _ f (omega arith)) s) λ x q s.
    then_read vs n ds p (list vs p f 0 end x.rest r (omega arith) refl (fuel (calls_of p) f (omega arith)) s) λ y g s.
    end_of vs n ds p x.it y.it y.rest q g s
