-- Refusal 5 of a program, from its declarations and its body.
use mathlib.Core.Path.{◌≡◌, refl, ap, ◌∙◌}
use mathlib.Core.Bool.{cond}
use mathlib.Core.List.{List, [], ◌∷◌}
use Prim.Native.Nat.{ℕ, suc, ◌+◌, ◌*◌, ◌/◌, ◌%◌, ◌≤◌}
use native.Mathlib.Omega.{arith}
use lib.ListN.{length, take, length-append}
use lib.Seq.{length-take-le, get_or-take, take_all}
use Rattle.std.specs.Prelude.{Option, None}
use Rattle.paper.specs.declared.Kind.{Kind}
use Rattle.paper.specs.declared.Kind.TheVariants.{Input, Output, Other}
use Rattle.paper.specs.Source.{Declared, done}
use Rattle.paper.specs.Names.{same_kind, of_kind, printed, placed, variables_of, cells_of, declaration_faults, statement_faults, name_faults}
use Rattle.tree.specs.Nodes.{child_of}
use Rattle.tree.specs.Trees.{declared_at, front_at, program_at}
use Rattle.variables.specs.Table.{entries, variables_in, names_to}
use Rattle.names.specs.declared.declared.Seen.{Seen}
use Rattle.names.specs.declared.table.Filled.{Filled}
use Rattle.names.specs.Walks.{after, statements_at}
use Rattle.names.specs.Declares.{cells_with, DeclaresAll}
use Rattle.names.specs.Fills.{FillsAll}
use Rattle.names.specs.Judged.{Judges, Judged}
use Rattle.names.proofs.After.{then}
use Rattle.names.proofs.Filling.{entries_kept}
use Rattle.names.proofs.Listed.{cells_all}

-- ---- every declaration is of one kind

one_kind : (k : Kind) (d : Declared) (a b c : List Declared) (n : ℕ) → length a + length b + length c ≡ n
    → length (cond (same_kind Input k) (d ∷ a) a) + length (cond (same_kind Output k) (d ∷ b) b) + length (cond (same_kind Other k) (d ∷ c) c) ≡ suc n
one_kind Input d a b c n h = omega arith
one_kind Output d a b c n h = omega arith
one_kind Other d a b c n h = omega arith

kinds_length : (ds : List Declared) → length (of_kind Input ds) + length (of_kind Output ds) + length (of_kind Other ds) ≡ length ds
unfolding of_kind
kinds_length [] = refl
kinds_length (d ∷ ds) = one_kind d.kind d (of_kind Input ds) (of_kind Output ds) (of_kind Other ds) (length ds) (kinds_length ds)

printed_length : (ds : List Declared) → length (printed ds) ≡ length ds
unfolding printed
printed_length ds = simp length-append (kinds_length ds)

-- ---- the program

-- nothing declared yet
abbrev none : Seen
none = record { count = 0; cells = 0; best = None }

module _ (t p old new scratch places : List ℕ) (root : ℕ) (first : Option ℕ) (f : Filled) (s : Seen)
    (most : f.count ≤ length old / 4) (same : length new ≡ length old) (fills : FillsAll t p old new (child_of p root 1) f)
    (declares : DeclaresAll t p scratch places (child_of p root 1) none s)
    (body : first ≡ after s.best (statements_at (variables_in t p (take (4 * f.count) new)) t p places 0 (child_of p root 2))) where
  abbrev ds : List Declared
  ds = declared_at t p (child_of p root 1)

  abbrev b : ℕ
  b = child_of p root 2

  module _ (seen : length ds ≤ length scratch) (room : length ds ≤ length old / 4) where
    all_listed : entries t p new f.count ≡ printed ds
    all_listed = fills.listed ∙ take_all (length old / 4) (printed ds) (omega (arith, printed_length ds))

    in_part : variables_in t p (take (4 * f.count) new) ≡ variables_of ds
    unfolding variables_in variables_of
    in_part =
        let n : length (take (4 * f.count) new) / 4 ≡ f.count = omega (arith, length-take-le (4 * f.count) new (omega arith)) in
        ap (λ n. placed 0 (entries t p (take (4 * f.count) new) n)) n
        ∙ ap (placed 0)
        (entries_kept t p f.count new (take (4 * f.count) new) (λ k l. get_or-take (4 * f.count) new k 0 l) ∙ all_listed)

    celled : f.cells ≡ length (cells_of (variables_of ds)) % 65536
    unfolding variables_of
    celled = fills.cells ∙ ap (λ n. n % 65536) (ap (cells_with 0) all_listed ∙ omega (arith, cells_all 0 (printed ds)))

    judges : Judges t p new (program_at t p root) (record { first = first; count = f.count; cells = f.cells })
    unfolding program_at variables_of name_faults after names_to
    judges =
        record {
          first =
              then None s.best first (declaration_faults [] 0 ds) (statement_faults (variables_of ds) (front_at t p b done) []) _
              (declares (omega arith)).soonest
              (body ∙ ap (λ vs. after s.best (statement_faults vs (front_at t p b done) [])) in_part)
              refl;
          variables = ap (placed 0) all_listed;
          part = in_part;
          firsts = fills.firsts;
          cells = celled;
        }

  pub judged : Judged t p old new (length scratch) root (record { first = first; count = f.count; cells = f.cells })
  unfolding program_at
  judged = record { most = omega arith; judges = λ l m. judges l m }
