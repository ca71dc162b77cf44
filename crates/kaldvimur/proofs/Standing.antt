-- The print of the program that stands in the buffers is that of the accepted one.
use mathlib.Core.Path.{◌≡◌, refl, sym, ap, ◌∙◌, subst}
use mathlib.Core.List.{List, [], ◌∷◌, ◌++◌, append-nil}
use Prim.Native.Nat.{ℕ, zero, suc, ◌+◌, ◌*◌, ◌/◌, ◌≤◌}
use native.Mathlib.Nat.{zero-add}
use native.Mathlib.Omega.{arith}
use lib.ListN.{length, take}
use Rattle.paper.specs.Refusals.{given}
use Rattle.paper.specs.Source.{Program, Name, Declared}
use Rattle.paper.specs.Names.{Variable, size_of, printed, placed, variables_of}
use Rattle.paper.specs.Plain.{Stmts}
use Rattle.paper.specs.Printing as P
use Rattle.paper.specs.Judge.{Sound, judge, print_of, over}
use Rattle.tree.specs.Nodes.{word_of}
use Rattle.tree.specs.Trees.{name_at, program_at}
use Rattle.variables.specs.Table.{entry_at, entries, listed_to, listed_in}
use Rattle.plain.specs.Flat.{list_at}
use Rattle.print.specs.Printed.{limit, Printed}
use Rattle.print.proofs.Laws.{named}
use Rattle.demands.proofs.Accepted.{accepted}
use Rattle.demands.proofs.Prints.{short_print}
use Rattle.judge.specs.declared.Judged.{Judged}
use Rattle.judge.specs.Judged.{Stands}
use Rattle.kaldvimur.specs.Prints.{Prints, Counts}
use Rattle.kaldvimur.proofs.Orders.{sections_printed}

-- ---- the declarations of variables

declarations : List Variable → List Declared
declarations [] = []
declarations (v ∷ vs) = v.declared ∷ declarations vs

declarations_append : (us vs : List Variable) → declarations (us ++ vs) ≡ declarations us ++ declarations vs
unfolding declarations
declarations_append [] vs = refl
declarations_append (u ∷ us) vs = ap (λ (l : List Declared). u.declared ∷ l) (declarations_append us vs)

declarations_placed : (n : ℕ) (ds : List Declared) → declarations (placed n ds) ≡ ds
unfolding declarations placed
declarations_placed n [] = refl
declarations_placed n (d ∷ ds) = ap (λ (l : List Declared). d ∷ l) (declarations_placed (n + size_of d.bounds) ds)

declarations_listed : (t p tab : List ℕ) (n : ℕ) → declarations (listed_to t p tab n) ≡ entries t p tab n
unfolding declarations listed_to entries
declarations_listed t p tab zero = refl
declarations_listed t p tab (suc n) =
    declarations_append (listed_to t p tab n) (record { declared = entry_at t p tab n; first = word_of tab n 2 } ∷ [])
    ∙ ap (λ (l : List Declared). l ++ entry_at t p tab n ∷ []) (declarations_listed t p tab n)

-- ---- the print

-- an accepted program's variables are those of its declarations
own_variables : (t : List ℕ) (a : Sound) → judge t ≡ given a → a.variables ≡ variables_of a.program.declared
own_variables t a h = subst (λ (b : Sound). b.variables ≡ variables_of b.program.declared) (accepted t a h).is refl

print_in_order : (n : Name) (ds : List Declared) (vs : List Variable) (s : Stmts) → P.print n (printed ds) vs s ≡ P.print n ds vs s
unfolding P.print
print_in_order n ds vs s = rw (sections_printed ds (P.or_empty s (P.line "END_PROGRAM" []) (P.statements vs s (P.line "END_PROGRAM" []))))

stands_print : (t p table q : List ℕ) (j : Judged) (a : Sound) → judge t ≡ given a → Stands t p table q a j
    → let tab = take (4 * j.variables) table in
    print_of a ≡ P.print (name_at t (word_of p j.root 3)) (entries t p tab (length tab / 4)) (listed_in t p tab) (list_at q j.list)
unfolding print_of program_at listed_in variables_of
stands_print t p table q j a h s =
    let tab = take (4 * j.variables) table in
    let ds = a.program.declared in
    let name : name_at t (word_of p j.root 3) ≡ a.program.name = ap (λ (x : Program). x.name) s.program in
    let listed : declarations (listed_in t p tab) ≡ printed ds =
    ap declarations (s.variables ∙ own_variables t a h) ∙ declarations_placed 0 (printed ds) in
    let order : entries t p tab (length tab / 4) ≡ printed ds = sym (declarations_listed t p tab (length tab / 4)) ∙ listed in
    rw (name, order, s.variables, s.plain) (sym (print_in_order a.program.name ds a.variables a.plain))

pub prints : (t p table q : List ℕ) (j : Judged) (name : ℕ) (old new : List ℕ) (r : ℕ) → name ≡ word_of p j.root 3
    → let tab = take (4 * j.variables) table in
    Printed old new 0 (λ k. P.print (name_at t name) (entries t p tab (length tab / 4)) (listed_in t p tab) (list_at q j.list) ++ k) r
    → Prints t p table q j old new r
prints t p table q j name old new r e d a h s =
    named (λ k. ap (λ (l : List ℕ). l ++ k) (stands_print t p table q j a h s)) (rw e at d)

-- ---- no place is cut off, and the bytes are written where they have room

pub counts : (t p table q : List ℕ) (j : Judged) (old new : List ℕ) (r : ℕ) → Prints t p table q j old new r → Counts t p table q j r
counts t p table q j old new r d a h s =
    let place = rw (append-nil (print_of a)) at (d a h s).place in
    omega (arith, place, short_print t a h)

pub written : {old new : List ℕ} {r : ℕ} (bs : List ℕ) → Printed old new 0 (λ k. bs ++ k) r → length bs ≤ length old → length old ≤ limit
    → new ≡ over bs old
written {old} {new} {r} bs d f l = (rw (append-nil bs, zero-add (length bs)) at d.written) f l
