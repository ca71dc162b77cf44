-- What is known of the variable of a name, once it is found.
use mathlib.Core.Path.{◌≡◌}
use mathlib.Core.Bool.{false}
use mathlib.Core.List.{List}
use Prim.Native.Nat.{ℕ}
use Rattle.std.specs.Prelude.{Option, None, Some, is_some}
use Rattle.paper.specs.declared.Kind.TheVariants.{Input}
use Rattle.paper.specs.Source.{Name}
use Rattle.paper.specs.Names.{Variable, same_kind, is_known, is_input, can_loop}
use Rattle.tree.specs.Nodes.{word_of}
use Rattle.tree.specs.Trees.{name_at}
use Rattle.variables.specs.Table.{node_in, section_at, variables_in, Found, Missing, Seeks}
use Rattle.names.specs.Walks.{loopable}

module _ (t p tab : List ℕ) (place : ℕ) where
  abbrev vs : List Variable
  vs = variables_in t p tab

  abbrev name : Name
  name = name_at t place

  pub known_seeks : (o : Option ℕ) → Seeks t tab place o → is_some o ≡ is_known vs name
  unfolding is_known
  known_seeks None f = rw (f.declared p, is_known)
  known_seeks (Some r) f = rw ((f.declared p).1, is_known)

  module _ (r : ℕ) (f : Found t tab place r) where
    pub input_found : same_kind Input (section_at p (node_in p (word_of tab r 1))) ≡ is_input vs name
    unfolding is_input
    input_found = rw ((f.declared p).1, is_input)

    pub loop_found : loopable p (node_in p (word_of tab r 1)) ≡ can_loop vs name
    unfolding can_loop
    loop_found = rw ((f.declared p).1, can_loop)

  module _ (f : Missing t tab place) where
    pub input_missing : false ≡ is_input vs name
    unfolding is_input
    input_missing = rw (f.declared p, is_input)

    pub loop_missing : false ≡ can_loop vs name
    unfolding can_loop
    loop_missing = rw (f.declared p, can_loop)
