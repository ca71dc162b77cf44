-- Names with and without subscript, by what the table of variables has.
use mathlib.Core.Path.{◌≡◌, refl, sym, ap, ◌∙◌}
use mathlib.Core.Bool.{Bool, true, false, not, beq, true≢false}
use mathlib.Core.Logic.{◌⊎◌, inl, inr}
use mathlib.Core.Option.{none, some}
use mathlib.Core.List.{List, [], ◌∷◌}
use Prim.Native.Nat.{ℕ}
use Rattle.std.specs.Prelude.{Option, Some}
use Rattle.paper.specs.declared.Ty.{Ty}
use Rattle.paper.specs.declared.Ty.TheVariants.{Bool as BOOL}
use Rattle.paper.specs.Source.{Name, Bounds, single, array}
use Rattle.paper.specs.Names.{Variable, find, is_array}
use Rattle.paper.specs.Typing as T
use Rattle.tree.specs.Nodes.{word_of}
use Rattle.tree.specs.Trees.{name_at}
use Rattle.faults.specs.Soonest.{soonest, sooner}
use Rattle.faults.proofs.Soonest.{soonest_none, soonest_more, sooner_comm}
use Rattle.variables.specs.Table.{type_at, bounds_in, node_in, variables_in, Found, Missing}
use Rattle.types.specs.declared.parts.Judged.{Judged}
use Rattle.types.specs.Says.{Says}
use Rattle.types.specs.Joins.{Unless, NamedAs}

same_bool : (a b : Bool) → beq a b ≡ true → a ≡ b
same_bool true true h = refl
same_bool true false h = cc
same_bool false true h = cc
same_bool false false h = refl

other_bool : (a b : Bool) → beq a b ≡ false → a ≡ not b
other_bool true true h = cc
other_bool true false h = refl
other_bool false true h = refl
other_bool false false h = cc

module _ (vs : List Variable) (q : ℕ) (s : Name) where
  -- there is no such variable, or it is an array against what is asked
  abbrev Wrong : Bool → Type 0
  Wrong b = (find s vs ≡ none) ⊎ ((v : Variable) × (find s vs ≡ some v) × (is_array v.declared.bounds ≡ not b))

  name_right : (v : Variable) → find s vs ≡ some v → is_array v.declared.bounds ≡ false → T.of_name vs q s ≡ T.typed v.declared.ty
  unfolding T.of_name
  name_right v e a = rw (e, T.of_name) (go v.declared.bounds a)
    where
      go : (b : Bounds) → is_array b ≡ false
          → elim b [ single ↦ T.typed v.declared.ty | array p lo q' hi ↦ T.faulty (q ∷ []) ] ≡ T.typed v.declared.ty
      go single a = refl
      go (array p lo q' hi) a = absurd (true≢false a)

  name_wrong : Wrong false → T.of_name vs q s ≡ T.faulty (q ∷ [])
  unfolding T.of_name
  name_wrong (inl e) = rw (e, T.of_name)
  name_wrong (inr (v, e, a)) = rw (e, T.of_name) (go v.declared.bounds a)
    where
      go : (b : Bounds) → is_array b ≡ true
          → elim b [ single ↦ T.typed v.declared.ty | array p lo q' hi ↦ T.faulty (q ∷ []) ] ≡ T.faulty (q ∷ [])
      go single a = absurd (true≢false (sym a))
      go (array p lo q' hi) a = refl

  element_right : (v : Variable) (ps : List ℕ) → find s vs ≡ some v → is_array v.declared.bounds ≡ true
      → T.of_element vs q s ps ≡ T.unless ps v.declared.ty
  unfolding T.of_element
  element_right v ps e a = rw (e, T.of_element) (go v.declared.bounds a)
    where
      go : (b : Bounds) → is_array b ≡ true
          → elim b [ single ↦ T.faulty (q ∷ ps) | array p lo q' hi ↦ T.unless ps v.declared.ty ] ≡ T.unless ps v.declared.ty
      go single a = absurd (true≢false (sym a))
      go (array p lo q' hi) a = refl

  element_wrong : (ps : List ℕ) → Wrong true → T.of_element vs q s ps ≡ T.faulty (q ∷ ps)
  unfolding T.of_element
  element_wrong ps (inl e) = rw (e, T.of_element)
  element_wrong ps (inr (v, e, a)) = rw (e, T.of_element) (go v.declared.bounds a)
    where
      go : (b : Bounds) → is_array b ≡ false
          → elim b [ single ↦ T.faulty (q ∷ ps) | array p lo q' hi ↦ T.unless ps v.declared.ty ] ≡ T.faulty (q ∷ ps)
      go single a = refl
      go (array p lo q' hi) a = absurd (true≢false a)

-- the name's own fault, beside those of its subscript
own_fault : (q : ℕ) (sub : Option ℕ) (ps : List ℕ) (r : Judged) → Unless (sooner sub (Some q)) BOOL r → sub ≡ soonest ps → Says r (T.faulty (q ∷ ps))
own_fault q sub ps r h e =
    h (q ∷ ps) (sooner_comm sub (Some q) ∙ ap (sooner (Some q)) e ∙ sym (soonest_more q ps))

module _ (t p tab : List ℕ) (q : ℕ) (sub : Option ℕ) (r : Judged) (b : Bool) where
  abbrev vs : List Variable
  vs = variables_in t p tab

  abbrev s : Name
  s = name_at t q

  right : (c : Bool) (w : Variable) → find s vs ≡ some w → is_array w.declared.bounds ≡ c → Unless sub w.declared.ty r → NamedAs t p tab q c sub r
  right false w f a h = λ e. rw (name_right vs q s w f a) (h [] (e ∙ sym soonest_none))
  right true w f a h = λ ps e. rw (element_right vs q s w ps f a) (h ps e)

  wrong : (c : Bool) → Wrong vs q s c → Unless (sooner sub (Some q)) BOOL r → NamedAs t p tab q c sub r
  wrong false w h = λ e. rw (name_wrong vs q s w) (own_fault q sub [] r h (e ∙ sym soonest_none))
  wrong true w h = λ ps e. rw (element_wrong vs q s ps w) (own_fault q sub ps r h e)

  pub named_missing : Missing t tab q → Unless (sooner sub (Some q)) BOOL r → NamedAs t p tab q b sub r
  named_missing m h = wrong b (inl (m.declared p)) h

  -- it is the variable v, whose declaration is the node j, an array where a says so
  module _ (v : ℕ) (found : Found t tab q v) (j : ℕ) (node : j ≡ node_in p (word_of tab v 1)) (a : Bool) (is : a ≡ is_array (bounds_in p j)) where
    array_is : is_array (bounds_in p (node_in p (word_of tab v 1))) ≡ a
    array_is = ap (λ n. is_array (bounds_in p n)) (sym node) ∙ sym is

    pub named_right : (u : Ty) → u ≡ type_at p j → beq a b ≡ true → Unless sub u r → NamedAs t p tab q b sub r
    named_right u e same h =
        let (m, f) = found.declared p in
        right b _ f (array_is ∙ same_bool a b same) (rw (e ∙ ap (type_at p) node) at h)

    pub named_other : beq a b ≡ false → Unless (sooner sub (Some q)) BOOL r → NamedAs t p tab q b sub r
    named_other other h =
        let (m, f) = found.declared p in
        wrong b (inr (_, f, array_is ∙ other_bool a b other)) h
