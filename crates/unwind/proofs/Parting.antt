-- The plain form of a node, written behind those of its children.
use mathlib.Core.Path.{◌≡◌, refl, sym, ap, ap₂, subst, ◌∙◌}
use mathlib.Core.Bool.{Bool, false}
use mathlib.Core.Option.{none, some}
use mathlib.Core.List.{List}
use Prim.Native.Nat.{ℕ, suc, ◌+◌, ◌*◌, ◌/◌, ◌%◌, ◌≤◌, ◌<◌, min}
use native.Mathlib.Omega.{arith}
use lib.ListN.{length, get_or}
use Rattle.paper.specs.declared.Ty.{Ty}
use Rattle.paper.specs.declared.Ty.TheVariants.{Bool as BOOL}
use Rattle.paper.specs.declared.Op.TheVariants.{Or}
use Rattle.std.specs.Prelude.{Result, Ok, Err}
use Rattle.paper.specs.declared.Why.TheVariants.{BadWalk}
use Rattle.paper.specs.declared.Refusal.{Refusal}
use Rattle.paper.specs.Refusals.{Answer, refused, given, refusal, ◌>>=◌}
use Rattle.paper.specs.Types.{tag, sort_of, gives}
use Rattle.paper.specs.Names.{Variable}
use Rattle.paper.specs.Typing.{type_in, operand_type}
use Rattle.paper.specs.Plain.{Expr, State, parts, read, minus, complement, binary, conversion}
use Rattle.paper.specs.Meaning.{cell_of}
use Rattle.paper.specs.Unwinding.{bracket_of, plain_of}
use Rattle.tree.specs.Nodes.{child_of, written}
use Rattle.tree.specs.Trees.{types, operators, expr_at}
use Rattle.plain.specs.Flat as F
use Rattle.plain.proofs.Forms.{put_read, put_minus, put_complement, put_conversion, put_binary}
use Rattle.unwind.specs.declared.parts.Part.{Part}
use Rattle.unwind.specs.Parts.{Holds, Inside, Emitted, PartDid, PlainDid, CellDid, ReadDid}
use Rattle.paper.specs.Source as S
use Rattle.paper.specs.declared.Op.{Op}
use Rattle.paper.specs.declared.Ty.TheVariants.{Int as INT, Uint as UINT, Dint as DINT, Udint as UDINT}
use Rattle.paper.specs.Plain.{number, truth}
use Rattle.tree.specs.Kinds.{operand, IsExpression}
use Rattle.tree.specs.Trees.{whole_at}
use Rattle.tree.specs.declared.kinds.Expression.TheVariants.{Nothing, Number, Truth, Minus, Complement, Brackets, Conversion, Binary}
use Rattle.unwind.specs.Walks.{Spelt}
use Rattle.constants.specs.declared.Celled.{Celled}
use Rattle.constants.specs.Answers.{Offers}
use Rattle.constants.proofs.Types.{two_in, offered_as, offered_in}
use Rattle.unwind.proofs.Emits.{type_tag, spelt_one, leaf_did, one_did, two_did, refused_did, stopped, stopped_second}
use Rattle.unwind.proofs.Exprs.{nil_plain, number_plain, truth_plain, minus_plain, complement_plain, brackets_plain, conversion_plain, binary_plain, nil_in, number_in, truth_in, minus_in, complement_in, brackets_in, conversion_in}
use Rattle.unwind.proofs.Settling.{own_plain}
use Rattle.unwind.proofs.Insides.{cell_inside, cell_given, cell_refused}

-- another answer that is the same, and another type
pub did_as : (vs : List Variable) (size : ℕ) (old new : List ℕ) (n : ℕ) (o q : Answer Expr) (u s : Ty) (r : Result Part Refusal) → q ≡ o → s ≡ u
    → PartDid vs size old new n o u r → PartDid vs size old new n q s r
did_as vs size old new n o q u s r e f d = subst (λ o. PartDid vs size old new n o s r) (sym e) (subst (λ u. PartDid vs size old new n o u r) (sym f) d)

-- ---- a cell, or none, or one beyond the end

module _ (vs : List Variable) (env : State) (e : S.Expr) where
  no_did : (f : Refusal) → f ≡ refusal BadWalk (bracket_of e) → (Inside (length env) vs → none ≡ cell_of vs env e) → CellDid vs env e (Err f)
  no_did f ef none_there = record { cell = ef; is = λ ins. ap (λ f. refused f.why f.place) ef ∙ sym (cell_refused vs env e (none_there ins)) }

  pub none_did : (f : Refusal) → f ≡ refusal BadWalk (bracket_of e) → none ≡ cell_of vs env e → CellDid vs env e (Err f)
  none_did f ef h = no_did f ef (λ ins. h)

  pub beyond_did : (f : Refusal) → f ≡ refusal BadWalk (bracket_of e) → (c : ℕ) → some (record { 0 = c }) ≡ cell_of vs env e → length env ≤ c → CellDid vs env e (Err f)
  beyond_did f ef c h l = no_did f ef (λ ins. absurd (omega (arith, cell_inside vs (length env) ins (record { 0 = c }) env e (sym h))))

  pub cell_did : (c : Celled) → some (record { 0 = c.cell }) ≡ cell_of vs env e → ((u : Ty) → c.ty ≡ type_in vs u e) → c.cell < length env → CellDid vs env e (Ok c)
  cell_did c h ty l = record { cell = (l, ty); is = λ ins. sym (cell_given vs env e _ h) }

-- the read of it
module _ (vs : List Variable) (t p : List ℕ) (env : State) (i : ℕ) (old : List ℕ) (n : ℕ) where
  abbrev there : S.Expr
  there = expr_at t p i

  pub unread_did : (f : Refusal) → CellDid vs env there (Err f) → ReadDid vs t p env i old old n (Err f)
  unread_did f d u =
      refused_did vs (length env) old n _ _ f (λ ins. sym (ap (λ o. o >>= λ c. given (read c)) (d.is ins)))

  pub read_did : (c : Celled) → CellDid vs env there (Ok c) → (new : List ℕ) (m : ℕ) (r : Part) → Emitted old new n 5 c.cell 0 0 m
      → r.count ≡ m → r.parts ≡ min 3001 1 → r.ty ≡ c.ty → ReadDid vs t p env i old new n (Ok r)
  unfolding parts
  read_did c d new m r e last one ty u =
      let x = read (record { 0 = c.cell }) in
      leaf_did old new n m x r (spelt_one old new n 5 c.cell 0 0 m x e (λ h. put_read old (n + 1) _ 0 0 (omega arith) h)) last one refl
      vs (length env) _ _ (λ ins. sym (ap (λ o. o >>= λ c. given (read c)) (d.is ins))) (ty ∙ d.cell.1 u)

-- ---- leaves

module _ (vs : List Variable) (t p : List ℕ) (env : State) (u : Ty) (i : ℕ) (old new : List ℕ) (n : ℕ) where
  pub nil_did : IsExpression p i Nothing → (r : Part) → Spelt old new n 1 (truth false) r.count → r.parts ≡ min 3001 1 → r.ty ≡ BOOL → PlainDid vs t p env u i old new n (Ok r)
  unfolding parts
  nil_did v r e one ty =
      leaf_did old new n r.count (truth false) r e refl one refl vs (length env) _ _ (λ ins. nil_plain vs t p i u env v) (ty ∙ nil_in vs t p i u v)

  pub truth_did : (b : Bool) → IsExpression p i (Truth b) → (r : Part) → Spelt old new n 1 (truth b) r.count → r.parts ≡ min 3001 1 → r.ty ≡ BOOL → PlainDid vs t p env u i old new n (Ok r)
  unfolding parts
  truth_did b v r e one ty =
      leaf_did old new n r.count (truth b) r e refl one refl vs (length env) _ _ (λ ins. truth_plain vs t p i u env b v) (ty ∙ truth_in vs t p i u b v)

  pub number_did : IsExpression p i Number → (m : ℕ) (r : Part) → Spelt old new n 1 (number u (whole_at p i)) m → r.count ≡ m → r.parts ≡ min 3001 1 → r.ty ≡ u → PlainDid vs t p env u i old new n (Ok r)
  unfolding parts
  number_did v m r e last one ty =
      leaf_did old new n m _ r e last one refl vs (length env) _ _ (λ ins. number_plain vs t p i u env v) (ty ∙ number_in vs t p i u v)

-- ---- one operand

-- the two types of a conversion, from one word
tag_small : (t : Ty) → tag t < 8
tag_small BOOL = omega arith
tag_small INT = omega arith
tag_small UINT = omega arith
tag_small DINT = omega arith
tag_small UDINT = omega arith

module _ (a b : Ty) (w : ℕ) (ew : w ≡ 8 * tag a + tag b) where
  first_type : get_or types (w / 8) BOOL ≡ a
  first_type = let e : w / 8 ≡ tag a = omega (arith, ew, tag_small a, tag_small b) in ap (λ m. get_or types m BOOL) e ∙ type_tag a

  second_type : get_or types (w % 8) BOOL ≡ b
  second_type = let e : w % 8 ≡ tag b = omega (arith, ew, tag_small a, tag_small b) in ap (λ m. get_or types m BOOL) e ∙ type_tag b

module _ (vs : List Variable) (t p : List ℕ) (env : State) (u : Ty) (i : ℕ) (old mid : List ℕ) (n : ℕ) where
  -- the operand, where v is offered
  abbrev Inner : Ty → Result Part Refusal → Type 0
  Inner v r = PlainDid vs t p env v (child_of p i 1) old mid n r

  abbrev Whole : List ℕ → Result Part Refusal → Type 0
  Whole new r = PlainDid vs t p env u i old new n r

  pub brackets_did : IsExpression p i Brackets → (r : Result Part Refusal) → Inner u r → Whole mid r
  brackets_did v r d = did_as vs (length env) old mid n _ _ _ _ r (brackets_plain vs t p i u env v) (sym (brackets_in vs t p i u v)) d

  module _ (f : Refusal) where
    pub minus_stop : IsExpression p i Minus → Inner u (Err f) → Whole mid (Err f)
    minus_stop v d = did_as vs (length env) old mid n _ _ _ _ (Err f) (minus_plain vs t p i u env v) refl (stopped _ _ d)

    pub complement_stop : IsExpression p i Complement → Inner DINT (Err f) → Whole mid (Err f)
    complement_stop v d = did_as vs (length env) old mid n _ _ _ _ (Err f) (complement_plain vs t p i u env v) refl (stopped _ _ d)

    pub conversion_stop : (a b : Ty) → IsExpression p i (Conversion a b) → Inner a (Err f) → Whole mid (Err f)
    conversion_stop a b v d = did_as vs (length env) old mid n _ _ _ _ (Err f) (conversion_plain vs t p i u env a b v) refl (stopped _ _ d)

  module _ (x : Part) (new : List ℕ) (w : ℕ) (r : Part) (counted : r.parts ≡ min 3001 (x.parts + 1)) where
    abbrev Over : ℕ → Type 0
    Over k = Emitted mid new x.count k x.count w (tag x.ty) r.count

    one_as : (k : ℕ) (v : Ty) (g : Expr → Expr) → Over k → ((e : Expr) → parts (g e) ≡ suc (parts e))
        → ((j : ℕ) → 0 < j → Holds mid j → x.count < j → F.expr_at (written mid j k x.count w (tag x.ty)) j ≡ g (F.expr_at mid x.count))
        → plain_of vs env u (expr_at t p i) ≡ (plain_of vs env v (operand p i t 1) >>= λ e. given (g e)) → r.ty ≡ type_in vs u (expr_at t p i)
        → Inner v (Ok x) → Whole new (Ok r)
    one_as k v g wr z put eq ty d =
        did_as vs (length env) old new n _ _ _ _ (Ok r) eq refl
        (one_did mid new n k w (tag x.ty) r.count x r wr refl counted g z put vs (length env) old _ _ _ ty d)

    pub minus_did : IsExpression p i Minus → Inner u (Ok x) → Over 7 → r.ty ≡ x.ty → Whole new (Ok r)
    unfolding parts
    minus_did v d wr ty =
        one_as 7 u (minus (type_in vs u (operand p i t 1))) wr (λ e. refl)
        (λ j s f l. put_minus mid j x.count w (tag x.ty) s f l ∙ ap (λ q. minus q (F.expr_at mid x.count)) (type_tag x.ty ∙ d.part.typed))
        (minus_plain vs t p i u env v) (ty ∙ d.part.typed ∙ minus_in vs t p i u v) d

    pub complement_did : IsExpression p i Complement → Inner DINT (Ok x) → Over 8 → r.ty ≡ BOOL → Whole new (Ok r)
    unfolding parts
    complement_did v d wr ty =
        one_as 8 DINT complement wr (λ e. refl) (λ j s f l. put_complement mid j x.count w (tag x.ty) s f l)
        (complement_plain vs t p i u env v) (ty ∙ complement_in vs t p i u v) d

    pub conversion_did : (a b : Ty) → IsExpression p i (Conversion a b) → Inner a (Ok x) → w ≡ 8 * tag a + tag b → Over 10 → r.ty ≡ b → Whole new (Ok r)
    unfolding parts
    conversion_did a b v d ew wr ty =
        one_as 10 a (conversion a b) wr (λ e. refl)
        (λ j s f l.
        put_conversion mid j x.count w (tag x.ty) s f l
        ∙ ap₂ (λ c d. conversion c d (F.expr_at mid x.count)) (first_type a b w ew) (second_type a b w ew))
        (conversion_plain vs t p i u env a b v) (ty ∙ conversion_in vs t p i u a b v) d

-- ---- two

module _ (vs : List Variable) (t p : List ℕ) (env : State) (u : Ty) (i : ℕ) (o : Op) (kind : IsExpression p i (Binary o)) (v : Ty)
    (ev : Offers vs u o (operand p i t 1) (operand p i t 2) v) where
  -- the type of both
  abbrev both : Ty
  both = operand_type vs u o (operand p i t 1) (operand p i t 2)

  binary_is : plain_of vs env u (expr_at t p i)
      ≡ (plain_of vs env v (operand p i t 1) >>= λ x. plain_of vs env both (operand p i t 2) >>= λ y. given (binary o both x y))
  binary_is =
      binary_plain vs t p i u env o kind
      ∙ ap (λ a. a >>= λ x. plain_of vs env both (operand p i t 2) >>= λ y. given (binary o both x y))
      (sym (offered_as vs u o (operand p i t 1) (operand p i t 2) v ev (λ v. plain_of vs env v (operand p i t 1)) (own_plain vs env v both (operand p i t 1))))

  module _ (old front : List ℕ) (n : ℕ) where
    pub binary_stop : (f : Refusal) → PlainDid vs t p env v (child_of p i 1) old front n (Err f) → PlainDid vs t p env u i old front n (Err f)
    binary_stop f d = did_as vs (length env) old front n _ _ _ _ (Err f) binary_is refl (stopped _ _ d)

    module _ (x : Part) (d : PlainDid vs t p env v (child_of p i 1) old front n (Ok x)) (mid : List ℕ) where
      ty_both : x.ty ≡ both
      ty_both = d.part.typed ∙ offered_in vs u o (operand p i t 1) (operand p i t 2) v ev

      pub binary_stop_second : (f : Refusal) → PlainDid vs t p env x.ty (child_of p i 2) front mid x.count (Err f) → PlainDid vs t p env u i old mid n (Err f)
      binary_stop_second f d₂ =
          did_as vs (length env) old mid n _ _ _ _ (Err f) binary_is refl
          (stopped_second _ _ d (subst (λ s. PlainDid vs t p env s (child_of p i 2) front mid x.count (Err f)) ty_both d₂))

      pub binary_did : (new : List ℕ) (k c m : ℕ) (y r : Part) → k < 14 → get_or operators k Or ≡ o → c ≡ tag x.ty
          → PlainDid vs t p env x.ty (child_of p i 2) front mid x.count (Ok y) → Emitted mid new y.count (11 + k) x.count y.count c m → r.count ≡ m
          → r.parts ≡ min 3001 (x.parts + y.parts + 1) → r.ty ≡ gives (sort_of o) x.ty → PlainDid vs t p env u i old new n (Ok r)
      unfolding parts
      binary_did new k c m y r l ek ec d₂ wr last counted ty =
          did_as vs (length env) old new n _ _ _ _ (Ok r) binary_is
          (ap (type_in vs u) (kind.tree t) ∙ sym (two_in vs _ o (operand p i t 1) (operand p i t 2) u) ∙ ap (gives (sort_of o)) (sym ty_both) ∙ sym ty)
          (two_did front mid new n (11 + k) c m x y r wr last counted
          (binary o both) (λ d e. refl)
          (λ j s f g h.
          put_binary mid j x.count y.count c s f k l g h
          ∙ ap₂ (λ o q. binary o q (F.expr_at mid x.count) (F.expr_at mid y.count)) ek (ap (λ m. get_or types m BOOL) ec ∙ type_tag x.ty ∙ ty_both))
          vs (length env) old _ _ _ _ r.ty refl d (subst (λ s. PlainDid vs t p env s (child_of p i 2) front mid x.count (Ok y)) ty_both d₂))
