-- An assignment walked, and what it puts in front of a list.
use mathlib.Core.Path.{◌≡◌, refl, sym, ap, ap₂, ◌∙◌}
use mathlib.Core.List.{List}
use Prim.Native.Nat.{ℕ, ◌*◌, ◌≤◌}
use lib.ListN.{length}
use Rattle.paper.specs.declared.Cell.{Cell}
use Rattle.paper.specs.declared.Ty.TheVariants.{Dint as DINT}
use Rattle.std.specs.Prelude.{Result, Ok}
use Rattle.paper.specs.declared.Refusal.{Refusal}
use Rattle.paper.specs.Refusals.{Answer, refused, given, ◌>>=◌}
use Rattle.paper.specs.Source as S
use Rattle.paper.specs.Names.{Variable}
use Rattle.paper.specs.Heights.{first_word}
use Rattle.paper.specs.Typing.{type_in}
use Rattle.paper.specs.Plain.{Expr, State, assign, done, parts, ◌⨾◌}
use Rattle.paper.specs.Unwinding.{Unwound, unwound, heavier, no_selector, cell_in, plain_of, unwind}
use Rattle.tree.specs.Nodes.{child_of}
use Rattle.tree.specs.Trees.{expr_at}
use Rattle.tree.proofs.Decodes.{same_less, same_trans}
use Rattle.unwind.specs.declared.parts.Part.{Part}
use Rattle.unwind.specs.declared.lists.Walk.{Walk}
use Rattle.constants.specs.declared.Celled.{Celled}
use Rattle.unwind.specs.Parts.{PlainDid, CellDid}
use Rattle.unwind.specs.Walks.{WalkDid, assigning, AssignedDid, assign_of, assign_at, behind, Front}
use Rattle.unwind.proofs.Emits.{ends_of}

module _ (vs : List Variable) (t p : List ℕ) (env : State) (i n w x : ℕ) (ex : x ≡ child_of p i 1) (old : List ℕ) where
  -- from the target and the right side
  abbrev from : Answer Cell → Answer Unwound
  from o =
      o >>= λ c.
      plain_of vs env (type_in vs DINT (expr_at t p (child_of p i 1))) (expr_at t p (child_of p i 2)) >>= λ v.
      heavier (first_word (expr_at t p (child_of p i 1))) (parts v) w >>= λ w. unwound (assign c v done) w

  target : (o : Answer Cell) → o ≡ cell_in vs env (expr_at t p x) → from o ≡ assign_at vs t p env i w
  target o e = ap from e ∙ ap (λ j. from (cell_in vs env (expr_at t p j))) ex

  module _ (c : Celled) (at : CellDid vs env (expr_at t p x) (Ok c)) (mid : List ℕ) (y : ℕ) (ey : y ≡ child_of p i 2) where
    abbrev X : S.Expr
    X = expr_at t p (child_of p i 1)

    abbrev cell : Cell
    cell = record { 0 = c.cell }

    -- from the right side
    right_side : (o : Answer Expr) → o ≡ plain_of vs env c.ty (expr_at t p y)
        → assigning (first_word X) cell w o ≡ from (given cell)
    right_side o e =
        let type_is : c.ty ≡ type_in vs DINT X = at.cell.1 DINT ∙ ap (λ j. type_in vs DINT (expr_at t p j)) ex in
        ap (assigning (first_word X) cell w) (e ∙ ap₂ (λ u j. plain_of vs env u (expr_at t p j)) type_is ey)

    pub assign_did : (v : Part) → PlainDid vs t p env c.ty y old mid n (Ok v) → (q : ℕ) → q ≡ first_word (expr_at t p x)
        → (new : List ℕ) (r : Result Walk Refusal) → AssignedDid mid new q cell w v r → n ≤ 4 * w → WalkDid vs (length env) old new n w (assign_at vs t p env i w) r
    assign_did v d q eq new r a l =
        let g = ends_of mid n d.own v d.parted in
        let did = a.does n g.0 g.2 l d.part.more in
        record {
          long = a.long ∙ d.long;
          same = same_trans old mid new n d.same (same_less mid new v.count n a.same d.part.more);
          goes = did.0;
          is = λ ins s.
              did.1
              ∙ ap (λ q. assigning q cell w (given g.0)) (eq ∙ ap (λ j. first_word (expr_at t p j)) ex)
              ∙ right_side _ (sym g.1 ∙ d.is ins)
              ∙ target _ (at.is ins);
        }

-- ---- in front of a list

module _ (vs : List Variable) (env : State) where
  rest : (w : ℕ) (c : Cell) (v : Expr) (k : S.Stmts) → (o : Answer ℕ)
      → (o >>= λ m. unwind vs k env no_selector m >>= λ r. unwound (assign c v r.plain) r.weight)
      ≡ ((o >>= λ m. unwound (assign c v done) m) >>= λ x. behind x (unwind vs k env no_selector x.weight))
  unfolding ◌⨾◌
  rest w c v k (refused y q) = refl
  rest w c v k (given m) = refl

  right : (q w : ℕ) (c : Cell) (k : S.Stmts) → (o : Answer Expr)
      → (o >>= λ v. heavier q (parts v) w >>= λ m. unwind vs k env no_selector m >>= λ r. unwound (assign c v r.plain) r.weight)
      ≡ ((o >>= λ v. heavier q (parts v) w >>= λ m. unwound (assign c v done) m) >>= λ x. behind x (unwind vs k env no_selector x.weight))
  right q w c k (refused y z) = refl
  right q w c k (given v) = rest w c v k (heavier q (parts v) w)

  left : (q w : ℕ) (b : Answer Expr) (k : S.Stmts) → (o : Answer Cell)
      → (o >>= λ c. b >>= λ v. heavier q (parts v) w >>= λ m. unwind vs k env no_selector m >>= λ r. unwound (assign c v r.plain) r.weight)
      ≡ ((o >>= λ c. b >>= λ v. heavier q (parts v) w >>= λ m. unwound (assign c v done) m) >>= λ x. behind x (unwind vs k env no_selector x.weight))
  left q w b k (refused y z) = refl
  left q w b k (given c) = right q w c k b

  pub assign_front : (x : S.Expr) (q : ℕ) (e : S.Expr) (w : ℕ) → Front vs env (S.assign x q e) w (assign_of vs env x e w)
  unfolding unwind
  assign_front x q e w k deaf sel = left (first_word x) w (plain_of vs env (type_in vs DINT x) e) k (cell_in vs env x)
