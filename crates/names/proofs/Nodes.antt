-- What is declared at a node, from what is declared at its children.
use mathlib.Core.Path.{◌≡◌, refl, sym, ap, ◌∙◌}
use mathlib.Core.Bool.{Bool, true, false, cond}
use mathlib.Core.List.{List, [], ◌∷◌, ◌++◌}
use Prim.Native.Nat.{ℕ, suc, ◌<◌}
use denote.Enum.Bare.{sameb}
use lib.ListN.{length}
use Rattle.paper.specs.contracts.Kind.{the_type}
use Rattle.paper.specs.declared.Ty.{Ty}
use Rattle.paper.specs.declared.Kind.{Kind}
use Rattle.paper.specs.declared.Kind.TheVariants.{Input, Output, Other}
use Rattle.paper.specs.Source.{Bounds, Initial, Named, Declared}
use Rattle.paper.specs.Reading.{declare}
use Rattle.paper.specs.Names.{same_kind, of_kind}
use Rattle.tree.specs.Nodes.{child_of}
use Rattle.tree.specs.Trees.{name_at, place_at, names_at, declaration_at, declared_at}
use Rattle.tree.proofs.Frames.{stepped, names_node, names_step, declared_node, declared_step}

-- what each of some names is declared as
module _ (k : Kind) (ty : Ty) (b : Bounds) (v : Initial) where
  pub declare_append : (ns ms : List Named) → declare k ty b v (ns ++ ms) ≡ declare k ty b v ns ++ declare k ty b v ms
  unfolding declare
  declare_append [] ms = refl
  declare_append (n ∷ ns) ms = ap (λ ds. record { place = n.place; name = n.name; kind = k; ty = ty; bounds = b; initial = v } ∷ ds) (declare_append ns ms)

  pub declare_length : (ns : List Named) → length (declare k ty b v ns) ≡ length ns
  unfolding declare
  declare_length [] = refl
  declare_length (n ∷ ns) = ap suc (declare_length ns)

  pub declare_none : declare k ty b v [] ≡ []
  unfolding declare
  declare_none = refl

  pub declare_one : (n : Named) → declare k ty b v (n ∷ []) ≡ record { place = n.place; name = n.name; kind = k; ty = ty; bounds = b; initial = v } ∷ []
  unfolding declare
  declare_one n = refl

-- ---- those of one kind

-- two kinds compared, as Rattle derives it
pub same_kinds : (k l : Kind) → sameb the_type k l ≡ same_kind l k
same_kinds Input Input = refl
same_kinds Input Output = refl
same_kinds Input Other = refl
same_kinds Output Input = refl
same_kinds Output Output = refl
same_kinds Output Other = refl
same_kinds Other Input = refl
same_kinds Other Output = refl
same_kinds Other Other = refl

module _ (k : Kind) where
  pub kind_append : (ds es : List Declared) → of_kind k (ds ++ es) ≡ of_kind k ds ++ of_kind k es
  unfolding of_kind
  kind_append [] es = refl
  kind_append (d ∷ ds) es = go (same_kind k d.kind) (kind_append ds es)
    where
      go : (b : Bool) → of_kind k (ds ++ es) ≡ of_kind k ds ++ of_kind k es
          → cond b (d ∷ of_kind k (ds ++ es)) (of_kind k (ds ++ es)) ≡ cond b (d ∷ of_kind k ds) (of_kind k ds) ++ of_kind k es
      go true h = ap (λ xs. d ∷ xs) h
      go false h = h

  module _ (l : Kind) (ty : Ty) (b : Bounds) (v : Initial) where
    pub kind_same : (ns : List Named) → same_kind k l ≡ true → of_kind k (declare l ty b v ns) ≡ declare l ty b v ns
    unfolding of_kind declare
    kind_same [] e = refl
    kind_same (n ∷ ns) e =
        rw e (ap (λ ds. record { place = n.place; name = n.name; kind = l; ty = ty; bounds = b; initial = v } ∷ ds) (kind_same ns e))

    pub kind_other : (ns : List Named) → same_kind k l ≡ false → of_kind k (declare l ty b v ns) ≡ []
    unfolding of_kind declare
    kind_other [] e = refl
    kind_other (n ∷ ns) e = rw e (kind_other ns e)

-- ---- nodes

module _ (t p : List ℕ) where
  -- the names before and one more
  pub names_are : (i q : ℕ) → 0 < i → q ≡ place_at p i → names_at t p i ≡ names_at t p (child_of p i 1) ++ record { place = q; name = name_at t q } ∷ []
  names_are i q some w =
      stepped (names_at t p) (λ j. names_step t p j (names_at t p)) (names_node t p) i some
      ∙ ap (λ z. names_at t p (child_of p i 1) ++ record { place = z; name = name_at t z } ∷ []) (sym w)

  -- the declarations before and one more
  pub declared_are : (d : ℕ) → 0 < d → declared_at t p d ≡ declared_at t p (child_of p d 1) ++ declaration_at t p (child_of p d 2)
  declared_are d some = stepped (declared_at t p) (λ j. declared_step t p j (declared_at t p)) (declared_node t p) d some
