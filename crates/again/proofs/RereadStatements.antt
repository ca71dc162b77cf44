-- The words of printed statements, read: a list of their form.
use mathlib.Core.Path.{◌≡◌, refl}
use mathlib.Core.Option.{none, some}
use mathlib.Core.List.{List, [], ◌∷◌}
use Prim.Native.Nat.{ℕ, suc, ◌+◌, ◌≤◌, max}
use native.Mathlib.Omega.{arith}
use borrow.Author.Tests.{le-leb}
use Rattle.paper.specs.declared.Cell.{Cell}
use Rattle.paper.specs.Refusals.{given}
use Rattle.paper.specs.Words as W
use Rattle.paper.specs.Words.{Word, Token, bytes, same_bytes}
use Rattle.paper.specs.Source as S
use Rattle.paper.specs.Names.{Variable}
use Rattle.paper.specs.Reading as R
use Rattle.paper.specs.Reading.{Start}
use Rattle.paper.specs.Plain.{Expr, Stmts, done, assign, choice}
use Rattle.again.proofs.Says.{key, Says, says, Gives, gives, then, expects, Fuel, one, less, more}
use Rattle.again.proofs.Wordings.{cell_words, or_semicolon, else_words, expression_words, statement_words}
use Rattle.again.proofs.Printed.{Printed, begins}
use Rattle.again.proofs.Forms.{Forms, as_done, as_assign, as_choice, brackets, depth}
use Rattle.again.proofs.RereadExpressions.{Readable, calls, primary_cell, expression}

-- the words k begin no statement
abbrev pub NoStart : List Word → Type 0
NoStart [] = ⊥
NoStart (w ∷ k) = R.start_of (record { word = w; place = 0 } ∷ []) ≡ none

no_start : (k : List Word) (ts : List Token) → NoStart k → Says k ts → R.start_of ts ≡ none
no_start [] ts h s = absurd h
no_start (w ∷ k) ts h (says s) = h

-- what follows the THEN list
else_no_start : (b : Stmts) (k s : List Word) → NoStart k → NoStart (else_words b k s)
unfolding bytes same_bytes
else_no_start done k s h = h
else_no_start (assign c e r) k s h = refl
else_no_start (choice c a b r) k s h = refl

-- how many calls stand in one another
unfoldable pub calls_of : Stmts → ℕ
calls_of done = 2
calls_of (assign c e r) = suc (suc (suc (suc (suc (suc (suc (suc (suc (max (calls e) (calls_of r))))))))))
calls_of (choice c a b r) =
    suc (suc (suc (suc (suc (suc (suc (suc (max (calls c) (max (calls_of a) (max (calls_of b) (calls_of r)))))))))))

-- a statement that may stand at the depth d
started : (d : ℕ) (ts : List Token) (s : Start) → R.start_of ts ≡ some s → d ≤ 32 → R.started d ts ≡ given s
started d ts s h l = rw (h, R.started, le-leb d 32 l) refl

module _ (vs : List Variable) where
  abbrev Fit : Expr → Type 0
  Fit e = Readable vs e × (brackets e ≤ 64)

  abbrev pub ReadableAll : Stmts → Type 0
  ReadableAll done = Unit {0}
  ReadableAll (assign c e k) = Printed vs c × Fit e × ReadableAll k
  ReadableAll (choice c a b k) = Fit c × ReadableAll a × ReadableAll b × ReadableAll k

  -- a statement, as what it puts in front of a list of the form of r
  abbrev Front : Stmts → Stmts → (S.Stmts → S.Stmts) → Type 0
  Front p r g = (s : S.Stmts) → Forms vs r s → Forms vs p (g s)

  -- a cell begins with a name
  cell_starts : (c : Cell) (k : List Word) (ts : List Token) → Printed vs c → Says (cell_words vs c.0 k) ts → R.start_of ts ≡ some R.at_name
  cell_starts c k ts h s = name_starts (rw (begins vs c k h).is at s)
    where
      name_starts : {n : S.Name} {u : List Word} {ts : List Token} → Says (W.name n ∷ u) ts → R.start_of ts ≡ some R.at_name
      name_starts (says s) = refl

  assignment_of : (c : Cell) (e : Expr) (r : Stmts) (f d : ℕ) (k : List Word) (ts : List Token) → Printed vs c → Fit e → d ≤ 32 → Fuel 6 f
      → Fuel (suc (calls e)) f
      → Says (cell_words vs c.0 (key ":=" ∷ expression_words vs e (key ";" ∷ k))) ts
      → Gives (Front (assign c e r) r) (key ";" ∷ k) (R.statement (suc f) d ts)
  unfolding R.list bytes same_bytes
  assignment_of c e r f d k ts h x l fuel fuel' s =
      rw (started d ts R.at_name (cell_starts c _ ts h s) l, R.statement)
      (then (primary_cell vs c f 0 h (omega arith) refl fuel s) λ y q s.
      expects ":=" s λ us s.
      then (expression vs e f 0 x.0 (omega arith) refl refl fuel' s) λ z q' s.
      gives (λ t ht. as_assign q q' ht) s)

  -- IF, a condition, the two lists, END_IF
  choice_of_lem : (c : Expr) (a b r : Stmts) (f d : ℕ) (k l m : List Word) (p : ℕ) (ts : List Token) → Fit c → d ≤ 32
      → Fuel (suc (calls c)) f
      → Says (expression_words vs c (key "THEN" ∷ l)) ts
      → ((us : List Token) → Says l us → Gives (Forms vs a) k (R.list f (suc d) us))
      → ((us : List Token) → Says k us → Gives (Forms vs b) m (R.otherwise f d p us))
      → Gives (Front (choice c a b r) r) m (R.statement (suc (suc f)) d (record { word = key "IF"; place = p } ∷ ts))
  unfolding R.list bytes same_bytes
  choice_of_lem c a b r f d k l m p ts x h fuel s ga gb =
      rw (le-leb d 32 h, R.statement)
      (then (expression vs c f 0 x.0 (omega arith) refl refl fuel s) λ y q s.
      expects "THEN" s λ us s.
      then (ga us s) λ u qa s.
      then (gb u.rest s) λ v qb s.
      gives (λ t ht. as_choice q qa qb ht) s)

  -- a list from its first statement and the rest
  list_of : (p r : Stmts) (f d : ℕ) (k l : List Word) (ts : List Token)
      → Gives (Front p r) (key ";" ∷ l) (R.statement f d ts)
      → ((us : List Token) → Says l us → Gives (Forms vs r) k (R.more f d us))
      → Gives (Forms vs p) k (R.list (suc f) d ts)
  unfolding R.list
  list_of p r f d k l ts g h = then g λ x q s. expects ";" s λ us s. then (h us s) λ y q' s. gives (q y.it q') s

  -- nothing more
  no_more : (f d : ℕ) (k : List Word) (ts : List Token) → NoStart k → Says k ts → Gives (Forms vs done) k (R.more (suc f) d ts)
  unfolding R.list
  no_more f d k ts n s = rw (no_start k ts n s, R.more) (gives as_done s)

  -- an empty statement
  empty_of : (f d : ℕ) (k : List Word) (ts : List Token) → d ≤ 32 → Says (key ";" ∷ k) ts
      → Gives (Front done done) (key ";" ∷ k) (R.statement (suc f) d ts)
  unfolding R.list bytes same_bytes
  empty_of f d k ts h (says s) = rw (le-leb d 32 h, R.statement) (gives (λ t ht. ht) (says s))

  -- the rest of a list: nothing, or a list again
  more_of : (p : Stmts) (f d : ℕ) (k : List Word) (ts : List Token) → ReadableAll p → NoStart k
      → Says (statement_words vs p k) ts
      → ((us : List Token) → Says (or_semicolon p k (statement_words vs p k)) us → Gives (Forms vs p) k (R.list f d us))
      → Gives (Forms vs p) k (R.more (suc f) d ts)
  unfolding R.list statement_words bytes same_bytes
  more_of done f d k ts r n s g = no_more f d k ts n s
  more_of (assign c e p) f d k ts r n s g = rw (cell_starts c _ ts r.0 s, R.more) (g ts s)
  more_of (choice c a b p) f d k ts r n (says s) g = g _ (says s)

  -- ELSE and its list, or nothing, up to END_IF
  otherwise_of : (b : Stmts) (f d q : ℕ) (k : List Word) (ts : List Token)
      → Says (else_words b (key "END_IF" ∷ k) (statement_words vs b (key "END_IF" ∷ k))) ts
      → ((us : List Token) → Says (or_semicolon b (key "END_IF" ∷ k) (statement_words vs b (key "END_IF" ∷ k))) us
      → Gives (Forms vs b) (key "END_IF" ∷ k) (R.list f (suc d) us))
      → Gives (Forms vs b) k (R.otherwise (suc (suc (suc f))) d q ts)
  unfolding R.list bytes same_bytes
  otherwise_of done f d q k ts (says s) g = gives as_done s
  otherwise_of (assign c e p) f d q k ts (says {ts = us} s) g = then (g us s) λ x q s. expects "END_IF" s λ us s. gives q s
  otherwise_of (choice c a b p) f d q k ts (says {ts = us} s) g = then (g us s) λ x q s. expects "END_IF" s λ us s. gives q s

  pub list : (p : Stmts) (f d : ℕ) (k : List Word) (ts : List Token) → ReadableAll p → d + depth p ≤ 32 → NoStart k → Fuel (calls_of p) f
      → Says (or_semicolon p k (statement_words vs p k)) ts → Gives (Forms vs p) k (R.list f d ts)
  unfolding R.list statement_words calls_of depth bytes same_bytes
  list done f d k ts r h n (one (one {f = g} fuel)) s =
      list_of done done (suc g) d k k ts (empty_of g d k ts (omega arith) s) (λ us s. no_more g d k us n s)
  list (assign c e p) f d k ts r h n (one (one {f = g} fuel)) s =
      list_of (assign c e p) p (suc g) d k _ ts
      (assignment_of c e p g d _ ts r.0 r.1 (omega arith) (less 6 (omega arith) fuel) (less (suc (calls e)) (omega arith) fuel) s)
      (λ us s. more_of p g d k us r.2 n s λ us s. list p g d k us r.2 h n (less (calls_of p) (omega arith) fuel) s)
  list (choice c a b p) f d k ts r h n (one (one (one (one (one (one {f = g} fuel)))))) (says {p = q} {ts = us} s) =
      let after = statement_words vs p k in
      let end = key "END_IF" ∷ key ";" ∷ after in
      let otherwise = else_words b end (statement_words vs b end) in
      list_of (choice c a b p) p (suc (suc (suc (suc (suc g))))) d k after ts
      (choice_of_lem c a b p (suc (suc (suc g))) d otherwise (or_semicolon a otherwise (statement_words vs a otherwise)) (key ";" ∷ after) q us
      r.0 (omega arith) (less (suc (calls c)) (omega arith) (more (more (more fuel)))) s
      (λ us s.
      list a (suc (suc (suc g))) (suc d) otherwise us r.1 (omega arith) (else_no_start b end (statement_words vs b end) refl)
      (less (calls_of a) (omega arith) (more (more (more fuel)))) s)
      (λ us s.
      otherwise_of b g d q (key ";" ∷ after) us s λ us s.
      list b g (suc d) end us r.2 (omega arith) refl (less (calls_of b) (omega arith) fuel) s))
      (λ us s.
      more_of p (suc (suc (suc (suc g)))) d k us r.3 n s λ us s.
      list p (suc (suc (suc (suc g)))) d k us r.3 (omega arith) n (less (calls_of p) (omega arith) (more (more (more (more fuel))))) s)
