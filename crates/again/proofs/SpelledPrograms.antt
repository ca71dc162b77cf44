-- The print of a program, cut into words.
use mathlib.Core.Path.{refl}
use mathlib.Core.Bool.{false}
use mathlib.Core.List.{List, [], ◌∷◌, ◌++◌}
use Prim.Native.Nat.{ℕ, suc, ◌≤◌}
use Prim.Native.String.{String}
use native.Mathlib.Omega.{arith}
use lib.IntN.{nat_abs}
use Rattle.paper.specs.declared.Ty.{Ty}
use Rattle.paper.specs.declared.Ty.TheVariants.{Bool as BOOL, Int as INT, Uint as UINT, Dint as DINT, Udint as UDINT}
use Rattle.paper.specs.declared.Kind.{Kind}
use Rattle.paper.specs.declared.Kind.TheVariants.{Input, Output, Other}
use Rattle.paper.specs.Words as W
use Rattle.paper.specs.Words.{Word, bytes, words_from, piece_of, type_name}
use Rattle.paper.specs.Source.{Name, Bounds, single, array, Initial, nothing, value, flag, Declared}
use Rattle.paper.specs.Names.{Variable, of_kind}
use Rattle.paper.specs.Printing as P
use Rattle.paper.specs.Plain.{Stmts}
use Rattle.demands.specs.InTypes.{All}
use Rattle.again.proofs.Says.{key}
use Rattle.again.proofs.Wordings.{initial_words, declared_words, declaration_words, section_words, sections_words, program_words}
use Rattle.again.proofs.Alike.{Shaped, ShapedDeclared}
use Rattle.again.proofs.Spells.{Spells, step, spells_end, Ends}
use Rattle.again.proofs.SpelledNumbers.{natural_word, whole_words_lem}
use Rattle.again.proofs.SpelledNames.{RunWord, run_word, type_word}
use Rattle.again.proofs.SpelledExpressions.{truth_words}
use Rattle.again.proofs.SpelledStatements.{WritableAll, becomes, semicolon, list_words, statement_words_lem}
use Rattle.again.proofs.RereadStatements.{ReadableAll}

-- ---- words and line ends

colon : (k : List ℕ) (ws : List Word) → Spells k ws → Spells (P.put " : " k) (key ":" ∷ ws)
unfolding words_from piece_of bytes W.begins W.sign_piece W.signs
colon k ws h p = step (suc p) (h _)

array_words : (k : List ℕ) (ws : List Word) → Spells k ws → Spells (P.put "ARRAY[" k) (key "ARRAY" ∷ key "[" ∷ ws)
unfolding words_from piece_of bytes W.begins W.sign_piece W.signs W.run_of W.name_piece W.look_up W.reserved W.same_bytes W.parted W.type_name W.conversion_name
array_words k ws h p = step p (step (suc (suc (suc (suc (suc p))))) (h _))

dots : (k : List ℕ) (ws : List Word) → Spells k ws → Spells (P.put ".." k) (key ".." ∷ ws)
unfolding words_from piece_of bytes W.begins W.sign_piece W.signs
dots k ws h p = step p (h _)

of_words : (k : List ℕ) (ws : List Word) → Spells k ws → Spells (P.put "] OF " k) (key "]" ∷ key "OF" ∷ ws)
unfolding words_from piece_of bytes W.begins W.sign_piece W.signs W.run_of W.name_piece W.look_up W.reserved W.same_bytes W.parted W.type_name W.conversion_name
of_words k ws h p = step p (step (suc (suc p)) (h _))

input_word : (k : List ℕ) (ws : List Word) → Spells k ws → Spells (P.line "VAR_INPUT" k) (key "VAR_INPUT" ∷ ws)
unfolding words_from piece_of bytes W.begins W.sign_piece W.signs W.run_of W.name_piece W.look_up W.reserved W.same_bytes W.parted W.type_name W.conversion_name
input_word k ws h p = step p (h _)

output_word : (k : List ℕ) (ws : List Word) → Spells k ws → Spells (P.line "VAR_OUTPUT" k) (key "VAR_OUTPUT" ∷ ws)
unfolding words_from piece_of bytes W.begins W.sign_piece W.signs W.run_of W.name_piece W.look_up W.reserved W.same_bytes W.parted W.type_name W.conversion_name
output_word k ws h p = step p (h _)

var_word : (k : List ℕ) (ws : List Word) → Spells k ws → Spells (P.line "VAR" k) (key "VAR" ∷ ws)
unfolding words_from piece_of bytes W.begins W.sign_piece W.signs W.run_of W.name_piece W.look_up W.reserved W.same_bytes W.parted W.type_name W.conversion_name
var_word k ws h p = step p (h _)

end_var_word : (k : List ℕ) (ws : List Word) → Spells k ws → Spells (P.line "END_VAR" k) (key "END_VAR" ∷ ws)
unfolding words_from piece_of bytes W.begins W.sign_piece W.signs W.run_of W.name_piece W.look_up W.reserved W.same_bytes W.parted W.type_name W.conversion_name
end_var_word k ws h p = step p (h _)

program_word : (k : List ℕ) (ws : List Word) → Spells k ws → Spells (P.put "PROGRAM " k) (key "PROGRAM" ∷ ws)
unfolding words_from piece_of bytes W.begins W.sign_piece W.signs W.run_of W.name_piece W.look_up W.reserved W.same_bytes W.parted W.type_name W.conversion_name
program_word k ws h p = step p (h _)

end_program_word : (k : List ℕ) (ws : List Word) → Spells k ws → Spells (P.line "END_PROGRAM" k) (key "END_PROGRAM" ∷ ws)
unfolding words_from piece_of bytes W.begins W.sign_piece W.signs W.run_of W.name_piece W.look_up W.reserved W.same_bytes W.parted W.type_name W.conversion_name
end_program_word k ws h p = step p (h _)

line_end : (k : List ℕ) (ws : List Word) → Spells k ws → Spells (10 ∷ k) ws
unfolding words_from piece_of
line_end k ws h p = h (suc p)

-- ---- declarations

abbrev pub SmallBounds : Bounds → Type 0
SmallBounds single = Unit {0}
SmallBounds (array p lo q hi) = (lo ≤ 4294967295) × (hi ≤ 4294967295)

abbrev pub SmallInitial : Initial → Type 0
SmallInitial nothing = Unit {0}
SmallInitial (value q p z) = nat_abs z ≤ 4294967295
SmallInitial (flag q b) = Unit {0}

pub record Writes (d : Declared) : Type 0 where
  pub named : RunWord d.name (W.name d.name)
  pub bounds : SmallBounds d.bounds
  pub initial : SmallInitial d.initial
  pub shaped : ShapedDeclared d

initial_words_lem : (t : Ty) (v : Initial) (k : List ℕ) (ws : List Word) → SmallInitial v → Ends k → Spells k ws
    → Spells (P.initial_of t v k) (initial_words t v ws)
unfolding P.digits bytes
initial_words_lem BOOL nothing k ws s e h = truth_words false k ws e h
initial_words_lem INT nothing k ws s e h = natural_word 0 k (omega arith) e h
initial_words_lem UINT nothing k ws s e h = natural_word 0 k (omega arith) e h
initial_words_lem DINT nothing k ws s e h = natural_word 0 k (omega arith) e h
initial_words_lem UDINT nothing k ws s e h = natural_word 0 k (omega arith) e h
initial_words_lem t (value q p z) k ws s e h = whole_words_lem z k s e h
initial_words_lem t (flag q b) k ws s e h = truth_words b k ws e h

valued_words : (d : Declared) (k : List ℕ) (ws : List Word) → SmallInitial d.initial → Spells k ws
    → Spells (type_name d.ty ++ P.put " := " (P.initial_of d.ty d.initial (P.line ";" k)))
    (W.type d.ty ∷ key ":=" ∷ initial_words d.ty d.initial (key ";" ∷ ws))
unfolding bytes
valued_words d k ws s h =
    run_word (type_name d.ty) _ (W.type d.ty) (type_word d.ty) refl
    (becomes _ _ (initial_words_lem d.ty d.initial _ _ s refl (semicolon k ws h)))

declared_words_lem : (x : Kind) (b : Bounds) (d : Declared) (k : List ℕ) (ws : List Word) → SmallBounds b → SmallInitial d.initial → Shaped x b d.initial
    → Spells k ws → Spells (P.declaration_of x b d k) (declared_words x b d.ty d.initial ws)
unfolding bytes
declared_words_lem Input b d k ws s i x h = run_word (type_name d.ty) _ (W.type d.ty) (type_word d.ty) refl (semicolon k ws h)
declared_words_lem Output single d k ws s i x h = valued_words d k ws i h
declared_words_lem Output (array p lo q hi) d k ws s i x h = h
declared_words_lem Other single d k ws s i x h = valued_words d k ws i h
declared_words_lem Other (array p lo q hi) d k ws s i x h =
    let type = run_word (type_name d.ty) _ (W.type d.ty) (type_word d.ty) refl (semicolon k ws h) in
    let upper = natural_word hi _ s.1 refl (of_words _ _ type) in
    array_words _ _ (natural_word lo _ s.0 refl (dots _ _ upper))

declaration_words_lem : (ds : List Declared) (k : List ℕ) (ws : List Word) → All Writes ds → Spells k ws
    → Spells (P.declarations ds k) (declaration_words ds ws)
unfolding P.declarations declaration_words bytes
declaration_words_lem [] k ws w h = h
declaration_words_lem (d ∷ ds) k ws w h =
    run_word d.name _ (W.name d.name) w.0.named refl
    (colon _ _ (declared_words_lem d.kind d.bounds d _ _ w.0.bounds w.0.initial w.0.shaped (declaration_words_lem ds k ws w.1 h)))

section_words_lem : (c : String) → ((k : List ℕ) (ws : List Word) → Spells k ws → Spells (P.line c k) (key c ∷ ws))
    → (ds : List Declared) (k : List ℕ) (ws : List Word) → All Writes ds → Spells k ws → Spells (P.section c ds k) (section_words c ds ws)
section_words_lem c f [] k ws w h = h
section_words_lem c f (d ∷ ds) k ws w h = f _ _ (declaration_words_lem (d ∷ ds) _ _ w (end_var_word k ws h))

sections_words_lem : (ds : List Declared) (k : List ℕ) (ws : List Word) → ((x : Kind) → All Writes (of_kind x ds)) → Spells k ws
    → Spells (P.sections ds k) (sections_words ds ws)
unfolding P.sections sections_words
sections_words_lem ds k ws w h =
    section_words_lem "VAR_INPUT" input_word (of_kind Input ds) _ _ (w Input)
    (section_words_lem "VAR_OUTPUT" output_word (of_kind Output ds) _ _ (w Output)
    (section_words_lem "VAR" var_word (of_kind Other ds) k ws (w Other) h))

-- ---- a program

pub print_words : (n : Name) (ds : List Declared) (vs : List Variable) (p : Stmts) → RunWord n (W.name n)
    → ((x : Kind) → All Writes (of_kind x ds)) → ReadableAll vs p → WritableAll p
    → Spells (P.print n ds vs p) (program_words n ds vs p)
unfolding P.print program_words
print_words n ds vs p h d r w =
    let end = end_program_word [] (W.ending ∷ []) spells_end in
    let body = list_words p _ _ _ _ end (statement_words_lem vs p _ _ r w end) in
    program_word _ _ (run_word n _ (W.name n) h refl (line_end _ _ (sections_words_lem ds _ _ d body)))
