-- What is read of a node depends on earlier nodes only: words, children, and any decode by fuel.
use mathlib.Core.Path.{◌≡◌, refl, sym, ap, ◌∙◌}
use mathlib.Core.Bool.{Bool, true, false, cond}
use mathlib.Core.List.{List, [], ◌∷◌, map}
use Prim.Native.Nat.{ℕ, zero, suc, ◌+◌, ◌*◌, ◌≤◌, ◌<◌}
use native.Mathlib.Omega.{arith}
use lib.Dec.{ltb}
use lib.ListN.{get_or}
use borrow.Author.Tests.{ltb-true, lt-ltb, le-ltb}
use Rattle.tree.specs.Nodes.{word_of, child_of, Same}

-- ---- words and children

-- a reading that depends on the nodes up to its own only
abbrev pub Framed : {X : Type 0} → (List ℕ → ℕ → X) → Type 0
Framed f = (old new : List ℕ) (n i : ℕ) → Same n old new → i ≤ n → f new i ≡ f old i

-- fewer nodes stand too, and through two changes
pub same_less : (old new : List ℕ) (n i : ℕ) → Same n old new → i ≤ n → Same i old new
same_less old new n i h l k s = h k (omega arith)

pub same_trans : (p q r : List ℕ) (n : ℕ) → Same n p q → Same n q r → Same n p r
same_trans p q r n h g k s = g k s ∙ h k s

pub word_same : (k : ℕ) → k < 4 → Framed (λ p i. word_of p i k)
word_same k s old new n i h l = h (4 * i + k) (omega arith)

-- a child is an earlier node, and nil's is nil
pub child_less : (p : List ℕ) (i k : ℕ) → 0 < i → child_of p i k < i
child_less p i k h = go (ltb (word_of p i k) i) refl
  where
    go : (t : Bool) → ltb (word_of p i k) i ≡ t → cond t (word_of p i k) 0 < i
    go true e = ltb-true _ _ e
    go false e = h

pub child_most : (p : List ℕ) (i k : ℕ) → child_of p i k ≤ i
child_most p i k = go (ltb (word_of p i k) i) refl
  where
    go : (t : Bool) → ltb (word_of p i k) i ≡ t → cond t (word_of p i k) 0 ≤ i
    go true e = let l : word_of p i k < i = ltb-true _ _ e in omega arith
    go false e = omega arith

-- a word that is an earlier node is the child, and any other is nil
pub child_is : (p : List ℕ) (i k a : ℕ) → word_of p i k ≡ a → a < i → child_of p i k ≡ a
child_is p i k a e l = ap (λ w. cond (ltb w i) w 0) e ∙ ap (λ b. cond b a 0) (lt-ltb a i l)

pub child_none : (p : List ℕ) (i k : ℕ) → i ≤ word_of p i k → child_of p i k ≡ 0
child_none p i k l = ap (λ b. cond b (word_of p i k) 0) (le-ltb (word_of p i k) i l)

-- what is read of a child is framed as what is read
pub child_same : {X : Type 0} (f : List ℕ → ℕ → X) → Framed f → (k : ℕ) → k < 4 → Framed (λ p i. f p (child_of p i k))
child_same f g k s old new n i h l =
    ap (λ w. f new (cond (ltb w i) w 0)) (word_same k s old new n i h l)
    ∙ g old new n (child_of old i k) h (omega (arith, child_most old i k))

-- the child itself, and what is read of the first and of the second
pub child_node_same : (k : ℕ) → k < 4 → Framed (λ p i. child_of p i k)
child_node_same = child_same (λ p i. i) (λ old new n i h l. refl)

pub first_same : {X : Type 0} (f : List ℕ → ℕ → X) → Framed f → Framed (λ p i. f p (child_of p i 1))
first_same f g = child_same f g 1 (omega arith)

pub second_same : {X : Type 0} (f : List ℕ → ℕ → X) → Framed f → Framed (λ p i. f p (child_of p i 2))
second_same f g = child_same f g 2 (omega arith)

-- ---- any decode

-- a step reads its own node and earlier ones
abbrev pub Local : {X : Type 0} → (List ℕ → ℕ → (ℕ → X) → X) → Type 0
Local {X} step =
    (old new : List ℕ) (i : ℕ) (x y : ℕ → X) → 0 < i → Same i old new → ((j : ℕ) → j < i → y j ≡ x j) → step new i y ≡ step old i x

-- a decode by fuel that takes such steps
pub record Decode {X : Type 0} (from : ℕ → List ℕ → ℕ → X) (step : List ℕ → ℕ → (ℕ → X) → X) : Type 0 where
  pub last : X
  pub out : (p : List ℕ) (i : ℕ) → from zero p i ≡ last
  pub end : (f : ℕ) (p : List ℕ) → from (suc f) p zero ≡ last
  pub more : (f : ℕ) (p : List ℕ) (i : ℕ) → from (suc f) p (suc i) ≡ step p (suc i) (from f p)
  pub local : Local step

module _ {X : Type 0} {from : ℕ → List ℕ → ℕ → X} {step : List ℕ → ℕ → (ℕ → X) → X} (d : Decode from step) where
  -- neither fuel nor later nodes matter
  agree : (f g : ℕ) (old new : List ℕ) (i : ℕ) → i ≤ f → i ≤ g → Same i old new → from f new i ≡ from g old i
  agree zero zero old new i l m h = d.out new i ∙ sym (d.out old i)
  agree zero (suc g) old new zero l m h = d.out new zero ∙ sym (d.end g old)
  agree zero (suc g) old new (suc i) l m h = absurd (omega arith)
  agree (suc f) zero old new zero l m h = d.end f new ∙ sym (d.out old zero)
  agree (suc f) zero old new (suc i) l m h = absurd (omega arith)
  agree (suc f) (suc g) old new zero l m h = d.end f new ∙ sym (d.end g old)
  agree (suc f) (suc g) old new (suc i) l m h =
      d.more f new i
      ∙ d.local old new (suc i) (from g old) (from f new) (omega arith) h
      (λ j s. agree f g old new j (omega arith) (omega arith) (same_less old new (suc i) j h (omega arith)))
      ∙ sym (d.more g old i)

  -- one step, from the whole decodes of the nodes below
  pub decode_node : (p : List ℕ) (i : ℕ) → from (suc i) p (suc i) ≡ step p (suc i) (λ j. from j p j)
  decode_node p i =
      d.more i p i
      ∙ d.local p p (suc i) (λ j. from j p j) (from i p) (omega arith) (λ k s. refl)
      (λ j s. agree i j p p j (omega arith) (omega arith) (λ k s. refl))

  pub decode_same : Framed (λ p i. from i p i)
  decode_same old new n i h l = agree i i old new i (omega arith) (omega arith) (same_less old new n i h l)

-- what is read below an earlier node, by two readings that agree there
pub sub_same : {X : Type 0} (old new : List ℕ) (i : ℕ) (x y : ℕ → X) → ((j : ℕ) → j < i → y j ≡ x j)
    → Same i old new → (f : List ℕ → ℕ → ℕ) → Framed f → f old i < i → y (f new i) ≡ x (f old i)
sub_same old new i x y e h f g l = ap y (g old new i i h (omega arith)) ∙ e (f old i) l

-- the same below a child
pub kid_same : {X : Type 0} (old new : List ℕ) (i : ℕ) (x y : ℕ → X) → ((j : ℕ) → j < i → y j ≡ x j)
    → Same i old new → 0 < i → (k : ℕ) → k < 4 → y (child_of new i k) ≡ x (child_of old i k)
kid_same old new i x y e h s k b = sub_same old new i x y e h _ (child_node_same k b) (child_less old i k s)

-- what holds of each node from 1 on
pub stepped : {X : Type 0} (f g : ℕ → X) → ((i : ℕ) → f (suc i) ≡ g (suc i)) → (n : ℕ) → 0 < n → f n ≡ g n
stepped f g h zero s = absurd (omega arith)
stepped f g h (suc n) s = h n

-- what holds of each form holds of the one that a kind picks
infixr 5 ◌&◌
pub data All {A : Type 0} (P : A → Type 0) : List A → Type 0 where
  none : All P []
  ◌&◌ : {x : A} {xs : List A} → P x → All P xs → All P (x ∷ xs)

pub each : {A : Type 0} (P : A → Type 0) (d : A) → P d → (xs : List A) → All P xs → (w : ℕ) → P (get_or xs w d)
each P d p [] none w = p
each P d p (x ∷ xs) (a & more) zero = a
each P d p (x ∷ xs) (a & more) (suc w) = each P d p xs more w

pub all_map : {A B : Type 0} (P : B → Type 0) (f : A → B) → ((a : A) → P (f a)) → (xs : List A) → All P (map f xs)
all_map P f h [] = none
all_map P f h (x ∷ xs) = h x & all_map P f h xs
