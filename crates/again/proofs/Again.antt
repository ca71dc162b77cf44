-- Demand 2, second sentence: what an accepted program prints is accepted as the same program.
use mathlib.Core.Path.{◌≡◌, refl, sym, ap, ◌∙◌, subst}
use mathlib.Core.Option.{some}
use mathlib.Core.List.{List, []}
use Prim.Native.Nat.{ℕ, ◌+◌, ◌≤◌, ◌<◌}
use native.Mathlib.Omega.{arith}
use borrow.Author.Tests.{le-leb}
use lib.ListN.{length, replicate}
use Rattle.std.specs.Prelude.{Ok}
use Rattle.paper.specs.declared.Ty.TheVariants.{Dint as DINT}
use Rattle.paper.specs.declared.Cell.{Cell}
use Rattle.paper.specs.Refusals.{Answer, given}
use Rattle.paper.specs.Words.{Token, words_of}
use Rattle.paper.specs.Source.{Name, Declared, Program}
use Rattle.paper.specs.Reading.{program_of}
use Rattle.paper.specs.Names.{Variable, of_kind, printed, placed, variables_of, cells_of, name_faults}
use Rattle.paper.specs.Typing.{type_faults}
use Rattle.paper.specs.Heights.{height_faults}
use Rattle.paper.specs.Plain.{Stmts, figure, weight}
use Rattle.paper.specs.Printing as P
use Rattle.paper.specs.Unwinding.{Unwound, no_selector, unwound_program}
use Rattle.paper.specs.Judge as J
use Rattle.paper.specs.Judge.{Sound, smallest, judge, print_of, start_of, verdict}
use Rattle.demands.specs.InTypes.{All}
use Rattle.demands.proofs.Typed.{WellTyped}
use Rattle.demands.proofs.Cells.{find_info, few_cells}
use Rattle.demands.proofs.Expressions.{Placed}
use Rattle.demands.proofs.Accepted.{sound_of, accepted}
use Rattle.again.specs.Again.{Same, Again, ReadAgain}
use Rattle.again.proofs.Says.{Says}
use Rattle.again.proofs.Wordings.{program_words}
use Rattle.again.proofs.Forms.{Forms}
use Rattle.again.proofs.Alike.{Alikes}
use Rattle.again.proofs.Spells.{Lexes, lexed}
use Rattle.again.proofs.SpelledPrograms.{Writes, print_words}
use Rattle.again.proofs.RereadPrograms.{Reread, reread}
use Rattle.again.proofs.Printed.{Printed}
use Rattle.again.proofs.PrintedCells.{Named, printed_cell}
use Rattle.again.proofs.Distinct.{Distinct, distinct, none_reversed, faultless, distinct_printed}
use Rattle.again.proofs.AlikeVariables.{cells_alike, start_alike, sections_print, cell_print, statements_print, forms_alike}
use Rattle.again.proofs.AlikeDeclarations.{of_kind_all, all_map, printed_all, in_order_lem, kinds_alike, distinct_alike, reversed_alike, WellDeclared, types_alike}
use Rattle.again.proofs.Legible.{readable_all, writable_all}
use Rattle.again.proofs.RejudgedStatements.{not_high, well_named, well_typed, walks}
use Rattle.again.proofs.Facts.{Declares, writes, Facts, facts}

-- ---- a text that passes every stage

accepts : (text : List ℕ) (ts : List Token) (pr : Program) (u : Unwound) → length text ≤ 8192 → words_of text ≡ given ts → program_of ts ≡ given pr
    → name_faults pr ≡ [] → type_faults pr ≡ [] → height_faults pr ≡ [] → unwound_program pr ≡ given u → judge text ≡ given (sound_of pr u)
unfolding judge smallest
accepts text ts pr u l w r n t h k = rw (le-leb (length text) 8192 l, w, r, n, t, h, k) refl

-- the same program has the same four numbers
same_verdict : (text again : List ℕ) (a b : Sound) → judge text ≡ given a → judge again ≡ given b → Same a b → verdict again ≡ verdict text
unfolding verdict
same_verdict text again a b h k s =
    let one : verdict again ≡ Ok (J.accepted b) = rw (k, verdict) refl in
    let two : verdict text ≡ Ok (J.accepted a) = rw (h, verdict) refl in
    one ∙ rw (s.print, s.cells, s.weight, s.plain) (sym two)

-- declarations alike and the same statements print alike
print_alike : (m n : Name) (ds es : List Declared) (p : Stmts) → m ≡ n → Alikes (printed ds) es
    → P.print m es (placed 0 es) p ≡ P.print n ds (placed 0 (printed ds)) p
unfolding P.print
print_alike m n ds es p e h =
    let end = P.line "END_PROGRAM" [] in
    let vs = placed 0 (printed ds) in
    rw (
      e,
      statements_print vs (placed 0 es) (λ i k. cell_print 0 i k h) p end,
      sections_print ds es (P.or_empty p end (P.statements vs p end)) (kinds_alike ds h),
    ) refl

-- ---- one accepted program

module _ (pr : Program) (u : Unwound) (f : Facts pr u) where
  abbrev ds : List Declared
  ds = pr.declared

  abbrev vs : List Variable
  vs = placed 0 (printed ds)

  abbrev plain : Stmts
  plain = u.plain

  typed_plain : WellTyped (cells_of vs) plain
  unfolding variables_of
  typed_plain = f.typed

  named_printed : All Named (printed ds)
  named_printed = printed_all Named ds (all_map Declares Named ds (λ d h. (h.0.0, h.1.bounds)) f.declares)

  distinct_names : Distinct (printed ds)
  distinct_names = distinct_printed ds (distinct ds f.once)

  cells : (c : Cell) → c.0 < length (cells_of vs) → Printed vs c
  cells c h = printed_cell (printed ds) c distinct_names named_printed h

  -- the print is cut into its words
  cut : Lexes (program_words pr.name ds vs plain) (words_of (P.print pr.name ds vs plain))
  unfolding words_of
  cut =
      print_words pr.name ds vs plain f.own
      (λ x. all_map _ Writes (of_kind x ds) (λ d h. writes d h.1) (of_kind_all Declares x ds f.declares))
      (readable_all vs cells plain typed_plain f.low) (writable_all vs cells plain typed_plain f.low) 0

  -- and the words are read
  tree : (ts : List Token) → Says (program_words pr.name ds vs plain) ts → Reread vs pr.name ds plain (program_of ts)
  tree ts s =
      reread vs pr.name ds plain ts
      (λ x. all_map _ _ (of_kind x ds) (λ d h. (h.0, h.1.0.1)) (of_kind_all Declares x ds f.declares))
      (readable_all vs cells plain typed_plain f.low) f.shallow s

  -- ---- the program read again

  module _ (ts : List Token) (r : Reread vs pr.name ds plain (program_of ts)) where
    abbrev es : List Declared
    es = r.program.declared

    abbrev ws : List Variable
    ws = placed 0 es

    same_variables : variables_of es ≡ ws
    unfolding variables_of
    same_variables = ap (placed 0) (in_order_lem ds r.declared)

    same_cells : cells_of ws ≡ cells_of vs
    same_cells = cells_alike 0 r.declared

    lies : Placed ws
    lies = subst Placed same_variables (find_info es)

    forms : Forms ws plain r.program.body
    forms = forms_alike 0 r.declared r.body

    typed_again : WellTyped (cells_of ws) plain
    typed_again = subst (λ l. WellTyped l plain) (sym same_cells) typed_plain

    abbrev walked_again : Unwound
    walked_again = record { plain = plain; weight = 0 + weight (length (cells_of ws)) plain }

    few : length (cells_of ws) ≤ 64
    unfolding variables_of
    few = subst (λ l. length l ≤ 64) (sym same_cells) (few_cells ds f.once)

    no_name_fault : name_faults r.program ≡ []
    unfolding name_faults
    no_name_fault =
        let reversed = printed_all _ ds (none_reversed [] 0 ds f.once) in
        rw (
          faultless es (distinct_alike r.declared distinct_names) (reversed_alike r.declared reversed) few,
          same_variables,
          well_named ws lies forms typed_again,
        ) refl

    no_type_fault : type_faults r.program ≡ []
    unfolding type_faults
    no_type_fault =
        let well = printed_all WellDeclared ds (all_map Declares WellDeclared ds (λ d h. h.1) f.declares) in
        rw (types_alike r.declared well, same_variables, well_typed ws lies forms typed_again f.low (some DINT)) refl

    no_height_fault : height_faults r.program ≡ []
    unfolding height_faults
    no_height_fault = not_high forms f.low 1

    same_weight : 0 + weight (length (cells_of ws)) plain ≡ u.weight
    unfolding variables_of
    same_weight = rw same_cells (let h = f.weighed in omega arith)

    walk_again : unwound_program r.program ≡ given walked_again
    unfolding unwound_program
    walk_again =
        rw same_variables (walks ws lies forms typed_again f.low (replicate (length (cells_of ws)) 0) no_selector 0 (rw same_weight f.light))

    same : Same (sound_of pr u) (sound_of r.program walked_again)
    unfolding print_of variables_of
    same =
        record {
          plain = refl;
          cells = ap cells_of same_variables ∙ same_cells;
          weight = same_weight;
          start = ap start_of same_variables ∙ start_alike 0 r.declared;
          name = r.name;
          print =
              ap (λ l. P.print r.program.name es l plain) same_variables
              ∙ print_alike r.program.name pr.name ds es plain r.name r.declared;
        }

    accepted_again : words_of (print_of (sound_of pr u)) ≡ given ts → length (print_of (sound_of pr u)) ≤ 8192
        → judge (print_of (sound_of pr u)) ≡ given (sound_of r.program walked_again)
    accepted_again w l =
        accepts (print_of (sound_of pr u)) ts r.program walked_again l w r.is no_name_fault no_type_fault no_height_fault walk_again

  reads_again : (text : List ℕ) → judge text ≡ given (sound_of pr u) → length (print_of (sound_of pr u)) ≤ 8192 → Again text (sound_of pr u)
  unfolding print_of variables_of
  reads_again text h l = go (words_of (print_of (sound_of pr u))) refl cut
    where
      go : (o : Answer (List Token)) → words_of (print_of (sound_of pr u)) ≡ o → Lexes (program_words pr.name ds vs plain) o → Again text (sound_of pr u)
      go o e (lexed {ts = ts} s) =
          let r = tree ts s in
          let b = sound_of r.program (walked_again ts r) in
          record {
            program = b;
            accepted = accepted_again ts r e l;
            same = same ts r;
            four_numbers = same_verdict text (print_of (sound_of pr u)) (sound_of pr u) b h (accepted_again ts r e l) (same ts r);
          }

-- ---- any accepted text

pub read_again : ReadAgain
read_again text a h l =
    let k = accepted text a h in
    subst (λ (b : Sound). judge text ≡ given b → length (print_of b) ≤ 8192 → Again text b) k.is
    (reads_again k.program k.walked (facts text a k) text) h l
