-- The print of statements, cut into words.
use mathlib.Core.Path.{refl}
use mathlib.Core.List.{List, ◌∷◌}
use Prim.Native.Nat.{ℕ, suc}
use Rattle.paper.specs.Words as W
use Rattle.paper.specs.Words.{Word, bytes, words_from, piece_of}
use Rattle.paper.specs.Names.{Variable}
use Rattle.paper.specs.Printing as P
use Rattle.paper.specs.Plain.{Stmts, done, assign, choice}
use Rattle.again.proofs.Says.{key}
use Rattle.again.proofs.Wordings.{or_semicolon, else_words, statement_words}
use Rattle.again.proofs.Spells.{Spells, step}
use Rattle.again.proofs.SpelledExpressions.{Writable, cell_words_lem, expression_words_lem}
use Rattle.again.proofs.RereadStatements.{ReadableAll}

abbrev pub WritableAll : Stmts → Type 0
WritableAll done = Unit {0}
WritableAll (assign c e k) = Writable e × WritableAll k
WritableAll (choice c a b k) = Writable c × WritableAll a × WritableAll b × WritableAll k

-- ---- words and line ends

pub becomes : (k : List ℕ) (ws : List Word) → Spells k ws → Spells (P.put " := " k) (key ":=" ∷ ws)
unfolding words_from piece_of bytes W.begins W.sign_piece W.signs
becomes k ws h p = step (suc p) (h _)

pub semicolon : (k : List ℕ) (ws : List Word) → Spells k ws → Spells (P.line ";" k) (key ";" ∷ ws)
unfolding words_from piece_of bytes W.begins W.sign_piece W.signs
semicolon k ws h p = step p (h _)

if_word : (k : List ℕ) (ws : List Word) → Spells k ws → Spells (P.put "IF " k) (key "IF" ∷ ws)
unfolding words_from piece_of bytes W.begins W.sign_piece W.signs W.run_of W.name_piece W.look_up W.reserved W.same_bytes W.parted W.type_name W.conversion_name
if_word k ws h p = step p (h _)

then_word : (k : List ℕ) (ws : List Word) → Spells k ws → Spells (P.line " THEN" k) (key "THEN" ∷ ws)
unfolding words_from piece_of bytes W.begins W.sign_piece W.signs W.run_of W.name_piece W.look_up W.reserved W.same_bytes W.parted W.type_name W.conversion_name
then_word k ws h p = step (suc p) (h _)

else_word : (k : List ℕ) (ws : List Word) → Spells k ws → Spells (P.line "ELSE" k) (key "ELSE" ∷ ws)
unfolding words_from piece_of bytes W.begins W.sign_piece W.signs W.run_of W.name_piece W.look_up W.reserved W.same_bytes W.parted W.type_name W.conversion_name
else_word k ws h p = step p (h _)

end_if_words : (k : List ℕ) (ws : List Word) → Spells k ws → Spells (P.line "END_IF;" k) (key "END_IF" ∷ key ";" ∷ ws)
unfolding words_from piece_of bytes W.begins W.sign_piece W.signs W.run_of W.name_piece W.look_up W.reserved W.same_bytes W.parted W.type_name W.conversion_name
end_if_words k ws h p = step p (step (suc (suc (suc (suc (suc (suc p)))))) (h _))

-- ---- statements

pub list_words : (p : Stmts) (k s : List ℕ) (ws vs : List Word) → Spells k ws → Spells s vs → Spells (P.or_empty p k s) (or_semicolon p ws vs)
list_words done k s ws vs h x = semicolon k ws h
list_words (assign c e r) k s ws vs h x = x
list_words (choice c a b r) k s ws vs h x = x

else_words_lem : (p : Stmts) (k s : List ℕ) (ws vs : List Word) → Spells k ws → Spells s vs → Spells (P.else_of p k s) (else_words p ws vs)
else_words_lem done k s ws vs h x = h
else_words_lem (assign c e r) k s ws vs h x = else_word s vs x
else_words_lem (choice c a b r) k s ws vs h x = else_word s vs x

module _ (vs : List Variable) where
  pub statement_words_lem : (p : Stmts) (k : List ℕ) (ws : List Word) → ReadableAll vs p → WritableAll p → Spells k ws
      → Spells (P.statements vs p k) (statement_words vs p ws)
  unfolding P.statements statement_words bytes
  statement_words_lem done k ws r w h = h
  statement_words_lem (assign c e p) k ws r w h =
      let rest = semicolon _ _ (statement_words_lem p k ws r.2 w.1 h) in
      cell_words_lem vs c _ _ r.0 refl (becomes _ _ (expression_words_lem vs e _ _ r.1.0 w.0 refl rest))
  statement_words_lem (choice c a b p) k ws r w h =
      let end = end_if_words _ _ (statement_words_lem p k ws r.3 w.3 h) in
      let otherwise = else_words_lem b _ _ _ _ end (statement_words_lem b _ _ r.2 w.2 end) in
      let body = list_words a _ _ _ _ otherwise (statement_words_lem a _ _ r.1 w.1 otherwise) in
      if_word _ _ (expression_words_lem vs c _ _ r.0.0 w.0 refl (then_word _ _ body))
