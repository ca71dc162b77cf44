-- Declarations and sections.
use mathlib.Core.Path.{◌≡◌, refl, sym, ap, ◌∙◌}
use mathlib.Core.Bool.{Bool, true, false, cond}
use mathlib.Core.List.{List, [], ◌∷◌, ◌++◌}
use Prim.Native.Nat.{ℕ, ◌+◌}
use native.Mathlib.Numerals.{add-one}
use Prim.Native.String.{String}
use lib.ListN.{length, length-append}
use Rattle.paper.specs.declared.Ty.{Ty}
use Rattle.paper.specs.declared.Ty.TheVariants.{Bool as BOOL, Int as INT, Uint as UINT, Dint as DINT, Udint as UDINT}
use Rattle.paper.specs.declared.Kind.{Kind}
use Rattle.paper.specs.declared.Kind.TheVariants.{Input, Output, Other}
use Rattle.paper.specs.Words.{bytes, type_name}
use Rattle.paper.specs.Types.{same_ty}
use Rattle.paper.specs.Source.{Bounds, single, array, nothing, Declared}
use Rattle.paper.specs.Names.{same_kind, of_kind, is_array}
use Rattle.paper.specs.Printing.{put, line, initial_of, declaration_of, declarations, section, sections}
use Rattle.tree.specs.Nodes.{word_of, child_of}
use Rattle.tree.specs.Trees.{initial_at}
use Rattle.variables.specs.Table.{type_at, section_at, bounds_in, node_in, name_in, entry_at, entries}
use Rattle.print.specs.Parts.{of_section, is_of, declared_in, typing, headed}

-- ---- values

-- what stands for none
pub zero_of : (t : Ty) (k : List ℕ) → same_ty t BOOL ≡ false → initial_of t nothing k ≡ put "0" k
zero_of BOOL k e = cc
zero_of INT k e = refl
zero_of UINT k e = refl
zero_of DINT k e = refl
zero_of UDINT k e = refl

-- ---- declarations, by their section and their bounds

module _ (d : Declared) (k : List ℕ) where
  alone : (s : Kind) (b : Bounds) → (s ≡ Input → ⊥) → is_array b ≡ false
      → declaration_of s b d k ≡ type_name d.ty ++ put " := " (initial_of d.ty d.initial (line ";" k))
  alone Input b n e = absurd (n refl)
  alone Output single n e = refl
  alone Other single n e = refl
  alone Output (array p lo q hi) n e = cc
  alone Other (array p lo q hi) n e = cc

  no_array : (s : Kind) (b : Bounds) → s ≡ Output → is_array b ≡ true → declaration_of s b d k ≡ k
  no_array Input b n e = cc
  no_array Output single n e = cc
  no_array Output (array p lo q hi) n e = refl
  no_array Other b n e = cc

-- the same of a declaration's node, from what its words say
module _ (p : List ℕ) (j : ℕ) (s : Kind) (t : Ty) (is : s ≡ section_at p j) (type : t ≡ type_at p j) (k : List ℕ) where
  abbrev d : Declared
  d = declared_in p j

  pub typing_alone : (i : ℕ) → (s ≡ Input → ⊥) → is_array (bounds_in p j) ≡ false → i ≡ child_of p (child_of p j 2) 2
      → typing p j k ≡ type_name t ++ put " := " (initial_of t (initial_at p i) (line ";" k))
  typing_alone i n e a = rw (type, a) (alone d k (section_at p j) (bounds_in p j) (λ z. n (is ∙ z)) e)

  pub typing_none : s ≡ Output → is_array (bounds_in p j) ≡ true → typing p j k ≡ k
  typing_none n e = no_array d k (section_at p j) (bounds_in p j) (sym is ∙ n) e

-- the name and the place of a declaration change nothing
pub typed_alike : (s : Kind) (b : Bounds) (d e : Declared) (k : List ℕ) → d.ty ≡ e.ty → d.initial ≡ e.initial
    → declaration_of s b d k ≡ declaration_of s b e k
typed_alike Input b d e k t i = rw t
typed_alike Output single d e k t i = rw (t, i)
typed_alike Output (array p lo q hi) d e k t i = refl
typed_alike Other single d e k t i = rw (t, i)
typed_alike Other (array p lo q hi) d e k t i = rw t

-- ---- lists of them

pub one_of : (s : Kind) (d : Declared) → same_kind s d.kind ≡ true → of_kind s (d ∷ []) ≡ d ∷ []
unfolding of_kind
one_of s d e = rw (e, of_kind)

pub none_of : (s : Kind) (d : Declared) → same_kind s d.kind ≡ false → of_kind s (d ∷ []) ≡ []
unfolding of_kind
none_of s d e = rw (e, of_kind)

count_of : (s : Kind) (d : Declared) (b : Bool) → same_kind s d.kind ≡ b → length (of_kind s (d ∷ [])) ≡ cond b 1 0
count_of s d true e = ap length (one_of s d e)
count_of s d false e = ap length (none_of s d e)

of_append : (s : Kind) (xs ys : List Declared) → of_kind s (xs ++ ys) ≡ of_kind s xs ++ of_kind s ys
unfolding of_kind
of_append s [] ys = refl
of_append s (x ∷ xs) ys = go (same_kind s x.kind) (of_append s xs ys)
  where
    go : (b : Bool) → of_kind s (xs ++ ys) ≡ of_kind s xs ++ of_kind s ys
        → cond b (x ∷ of_kind s (xs ++ ys)) (of_kind s (xs ++ ys)) ≡ cond b (x ∷ of_kind s xs) (of_kind s xs) ++ of_kind s ys
    go true e = ap (λ l. x ∷ l) e
    go false e = e

declarations_append : (xs ys : List Declared) (k : List ℕ) → declarations (xs ++ ys) k ≡ declarations xs (declarations ys k)
unfolding declarations
declarations_append [] ys k = refl
declarations_append (x ∷ xs) ys k =
    ap (λ l. x.name ++ put " : " (declaration_of x.kind x.bounds x l)) (declarations_append xs ys k)

pub no_declarations : (k : List ℕ) → declarations [] k ≡ k
unfolding declarations
no_declarations k = refl

pub one_declaration : (d : Declared) (k : List ℕ) → declarations (d ∷ []) k ≡ d.name ++ put " : " (declaration_of d.kind d.bounds d k)
unfolding declarations
one_declaration d k = refl

module _ (t p tab : List ℕ) (s : Kind) where
  pub of_none : of_section t p tab s 0 ≡ []
  unfolding entries of_kind
  of_none = refl

  of_next : (n : ℕ) → of_section t p tab s (n + 1) ≡ of_section t p tab s n ++ of_kind s (entry_at t p tab n ∷ [])
  unfolding entries
  of_next n = ap (of_section t p tab s) (add-one n) ∙ of_append s (entries t p tab n) (entry_at t p tab n ∷ [])

  pub next_printed : (n : ℕ) (k : List ℕ) → declarations (of_section t p tab s (n + 1)) k
      ≡ declarations (of_section t p tab s n) (declarations (of_kind s (entry_at t p tab n ∷ [])) k)
  next_printed n k =
      ap (λ l. declarations l k) (of_next n) ∙ declarations_append (of_section t p tab s n) (of_kind s (entry_at t p tab n ∷ [])) k

  pub next_count : (n : ℕ) → length (of_section t p tab s (n + 1))
      ≡ length (of_section t p tab s n) + cond (same_kind s (entry_at t p tab n).kind) 1 0
  next_count n =
      ap length (of_next n) ∙ length-append (of_section t p tab s n) (of_kind s (entry_at t p tab n ∷ []))
      ∙ ap (λ m. length (of_section t p tab s n) + m) (count_of s (entry_at t p tab n) _ refl)

  -- the variable n, from what its words say
  pub variable_printed : (n j : ℕ) → is_of p tab s n ≡ true → j ≡ node_in p (word_of tab n 1) → (k : List ℕ)
      → declarations (of_kind s (entry_at t p tab n ∷ [])) k ≡ name_in t tab n ++ put " : " (typing p j k)
  variable_printed n j e d k =
      let v = entry_at t p tab n in
      ap (λ l. declarations l k) (one_of s v e)
      ∙ one_declaration v k
      ∙ rw d (ap (λ l. v.name ++ put " : " l) (typed_alike v.kind v.bounds v (declared_in p (node_in p (word_of tab n 1))) k refl refl))

  pub variable_passed : (n : ℕ) → is_of p tab s n ≡ false → (k : List ℕ) → declarations (of_kind s (entry_at t p tab n ∷ [])) k ≡ k
  variable_passed n e k = ap (λ l. declarations l k) (none_of s (entry_at t p tab n) e) ∙ no_declarations k

-- ---- sections

pub headed_some : (h : List ℕ) (ds : List Declared) (k : List ℕ) → (length ds ≡ 0 → ⊥) → headed h ds k ≡ h ++ declarations ds (line "END_VAR" k)
headed_some h [] k e = absurd (e refl)
headed_some h (d ∷ ds) k e = refl

section_headed : (s : String) (h : List ℕ) (ds : List Declared) (k : List ℕ) → ((k : List ℕ) → line s k ≡ h ++ k) → section s ds k ≡ headed h ds k
section_headed s h [] k e = refl
section_headed s h (d ∷ ds) k e = e _

pub sections_headed : (ds : List Declared) (k : List ℕ) → sections ds k
    ≡ headed (bytes "VAR_INPUT\n") (of_kind Input ds) (headed (bytes "VAR_OUTPUT\n") (of_kind Output ds) (headed (bytes "VAR\n") (of_kind Other ds) k))
unfolding sections bytes
sections_headed ds k =
    let other = section "VAR" (of_kind Other ds) k in
    let outputs = section "VAR_OUTPUT" (of_kind Output ds) other in
    section_headed "VAR_INPUT" (bytes "VAR_INPUT\n") (of_kind Input ds) outputs (λ k. refl)
    ∙ ap (headed (bytes "VAR_INPUT\n") (of_kind Input ds))
    (section_headed "VAR_OUTPUT" (bytes "VAR_OUTPUT\n") (of_kind Output ds) other (λ k. refl)
    ∙ ap (headed (bytes "VAR_OUTPUT\n") (of_kind Output ds)) (section_headed "VAR" (bytes "VAR\n") (of_kind Other ds) k (λ k. refl)))
