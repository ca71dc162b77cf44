-- The own faults of statements, from the judgements of their parts.
use mathlib.Core.Path.{◌≡◌, sym, ap, ap₂, ◌∙◌}
use mathlib.Core.Bool.{Bool, not, ◌&&◌}
use mathlib.Core.Option.{none, some}
use mathlib.Core.List.{List, [], ◌∷◌, ◌++◌}
use Prim.Native.Nat.{ℕ, ◌<◌}
use Rattle.std.specs.Prelude.{Option}
use Rattle.std.specs.Bool.{then_some}
use Rattle.std.specs.Option.{option_or}
use Rattle.paper.specs.declared.Ty.{Ty}
use Rattle.paper.specs.declared.Ty.TheVariants.{Dint as DINT}
use Rattle.paper.specs.Source.{Name, Label}
use Rattle.paper.specs.Names.{Variable, find, at}
use Rattle.paper.specs.Typing as T
use Rattle.tree.specs.Nodes.{child_of}
use Rattle.tree.specs.Trees.{label_at, labels_at}
use Rattle.tree.proofs.Frames.{stepped, labels_step, labels_node, labels_nil}
use Rattle.faults.specs.Soonest.{soonest, sooner}
use Rattle.faults.proofs.Soonest.{sooner_none, sooner_comm, sooner_assoc, soonest_none, soonest_append, soonest_or_else, soonest_at}
use Rattle.types.specs.declared.body.Limit.{Limit}
use Rattle.types.specs.Statements.{Limits}

-- ---- FOR

pub type_found : (vs : List Variable) (s : Name) (v : Variable) → find s vs ≡ some v → v.declared.ty ≡ T.type_of_name vs s
unfolding T.type_of_name
type_found vs s v e = sym (ap (λ o. elim o as (λ _. Ty) [ none ↦ DINT | some w ↦ w.declared.ty ]) e)

pub type_missing : (vs : List Variable) (s : Name) → find s vs ≡ none → DINT ≡ T.type_of_name vs s
unfolding T.type_of_name
type_missing vs s e = sym (ap (λ o. elim o as (λ _. Ty) [ none ↦ DINT | some w ↦ w.declared.ty ]) e)

pub head_is : (q : ℕ) (n : Option ℕ) (g : Bool) (x y z : Limit) (u v w : T.Settled) (a b c : Bool) → Limits x u a → Limits y v b → Limits z w c
    → n ≡ sooner (sooner x.first y.first) z.first → g ≡ (x.good && y.good && z.good)
    → option_or n (then_some (not g) q) ≡ soonest (T.or_else (u.faults ++ v.faults ++ w.faults) (at q (not (a && b && c))))
head_is q n g x y z u v w a b c hx hy hz hn hg =
    let parts : n ≡ soonest (u.faults ++ v.faults ++ w.faults) =
    hn ∙ rw (hx.first, hy.first, hz.first, soonest_append (u.faults ++ v.faults) w.faults, soonest_append u.faults v.faults) in
    let good : g ≡ (a && b && c) = hg ∙ rw (hx.sound, hy.sound, hz.sound) in
    ap₂ (λ m t. option_or m (then_some (not t) q)) parts good
    ∙ ap (option_or (soonest (u.faults ++ v.faults ++ w.faults))) (sym (soonest_at q (not (a && b && c))))
    ∙ sym (soonest_or_else (u.faults ++ v.faults ++ w.faults) (at q (not (a && b && c))))

-- ---- labels

labels_append : (u : Ty) (ls : List Label) (l : Label)
    → soonest (T.labels_faults (some u) (ls ++ l ∷ [])) ≡ sooner (soonest (T.labels_faults (some u) ls)) (soonest (T.label_faults u l))
unfolding T.labels_faults
labels_append u [] l =
    soonest_append (T.label_faults u l) []
    ∙ ap (sooner (soonest (T.label_faults u l))) soonest_none
    ∙ sooner_none (soonest (T.label_faults u l))
    ∙ ap (λ n. sooner n (soonest (T.label_faults u l))) (sym soonest_none)
labels_append u (m ∷ ls) l =
    soonest_append (T.label_faults u m) (T.labels_faults (some u) (ls ++ l ∷ []))
    ∙ ap (sooner (soonest (T.label_faults u m))) (labels_append u ls l)
    ∙ sym (sooner_assoc (soonest (T.label_faults u m)) (soonest (T.labels_faults (some u) ls)) (soonest (T.label_faults u l)))
    ∙ ap (λ n. sooner n (soonest (T.label_faults u l))) (sym (soonest_append (T.label_faults u m) (T.labels_faults (some u) ls)))

module _ (p : List ℕ) (u : Ty) where
  pub labels_none : (i : ℕ) (best : Option ℕ) → i ≡ 0 → best ≡ sooner best (soonest (T.labels_faults (some u) (labels_at p i)))
  unfolding T.labels_faults
  labels_none i best e =
      sym (ap (λ ls. sooner best (soonest (T.labels_faults (some u) ls))) (ap (labels_at p) e ∙ labels_nil p) ∙ ap (sooner best) soonest_none ∙ sooner_none best)

  -- the last label first
  pub labels_more : (i : ℕ) (best x y : Option ℕ) → 0 < i → x ≡ soonest (T.label_faults u (label_at p (child_of p i 2))) → y ≡ sooner best x
      → sooner y (soonest (T.labels_faults (some u) (labels_at p (child_of p i 1)))) ≡ sooner best (soonest (T.labels_faults (some u) (labels_at p i)))
  labels_more i best x y s hx hy =
      let before = soonest (T.labels_faults (some u) (labels_at p (child_of p i 1))) in
      let node = stepped (labels_at p) (λ j. labels_step p j (labels_at p)) (labels_node p) i s in
      ap (λ n. sooner n before) hy
      ∙ sooner_assoc best x before
      ∙ ap (sooner best)
      (sooner_comm x before
      ∙ ap (sooner before) hx
      ∙ sym (ap (λ ls. soonest (T.labels_faults (some u) ls)) node ∙ labels_append u (labels_at p (child_of p i 1)) (label_at p (child_of p i 2))))

-- those that hear a type, or none
pub labels_unheard : (p : List ℕ) (i : ℕ) (best : Option ℕ) → best ≡ sooner best (soonest (T.labels_faults none (labels_at p i)))
unfolding T.labels_faults
labels_unheard p i best = sym (ap (sooner best) soonest_none ∙ sooner_none best)
