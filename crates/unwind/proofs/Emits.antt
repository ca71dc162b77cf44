-- Nodes of an expression just written, one a part.
use mathlib.Core.Path.{◌≡◌, refl, sym, ap, ap₂, subst, ◌∙◌}
use mathlib.Core.List.{List}
use Prim.Native.Nat.{ℕ, suc, ◌+◌, ◌≤◌, ◌<◌, min}
use native.Mathlib.Omega.{arith}
use lib.ListN.{length, get_or}
use Rattle.paper.specs.declared.Ty.{Ty}
use Rattle.paper.specs.declared.Ty.TheVariants.{Bool as BOOL, Int as INT, Uint as UINT, Dint as DINT, Udint as UDINT}
use Rattle.std.specs.Prelude.{Ok, Err}
use Rattle.paper.specs.declared.Refusal.{Refusal}
use Rattle.paper.specs.Refusals.{Answer, refused, given, refusal, Gives, ◌>>=◌}
use Rattle.paper.specs.Types.{tag}
use Rattle.paper.specs.Names.{Variable}
use Rattle.paper.specs.Plain.{Expr, parts}
use Rattle.tree.specs.Nodes.{Same, written}
use Rattle.tree.specs.Trees.{types}
use Rattle.tree.proofs.Decodes.{same_less, same_trans}
use Rattle.plain.specs.Flat.{expr_at}
use Rattle.plain.proofs.Frames.{expr_same}
use Rattle.unwind.specs.declared.parts.Part.{Part}
use Rattle.unwind.specs.Walks.{Spelt}
use Rattle.unwind.specs.Parts.{Holds, Inside, Emitted, Ends, Parted, PartDid}

-- a type by its number
pub type_tag : (t : Ty) → get_or types (tag t) BOOL ≡ t
type_tag BOOL = refl
type_tag INT = refl
type_tag UINT = refl
type_tag DINT = refl
type_tag UDINT = refl

-- ---- answers

-- what is given is not refused
pub given_refused : {P T E : Type 0} {v : T} {e : E} → Ok v ≡ Err e → P
given_refused e = let z : ◌≡◌ {A = ℕ} 0 1 = cc in absurd (omega arith)

pub ends_of : (new : List ℕ) (n : ℕ) (o : Answer Expr) (v : Part) → Parted new n o (Ok v) → (x : Expr) × (o ≡ given x) × Ends new n x v
ends_of new n (refused w q) v h = given_refused h
ends_of new n (given x) v h = (x, refl, h)

-- and what is refused is not given
pub refused_of : {A T : Type 0} (P : A → T → Type 0) (o : Answer A) (e : Refusal) → Gives P o (Err e) → o ≡ refused e.why e.place
refused_of P (refused w q) e h = let same : e ≡ refusal w q = cc in sym (ap (λ e. refused e.why e.place) same)
refused_of P (given x) e h = absurd h

-- ---- one node

pub spelt_one : (old new : List ℕ) (n k a b c r : ℕ) (x : Expr) → Emitted old new n k a b c r
    → (Holds old (n + 1) → expr_at (written old (n + 1) k a b c) (n + 1) ≡ x) → Spelt old new n 1 x r
spelt_one old new n k a b c r x e put =
    record {
      more = e.more;
      most = e.most;
      holds = e.holds;
      long = e.long;
      same = e.same;
      ends = λ h. let w = e.wrote h in (w.0, ap₂ expr_at w.1 w.0 ∙ put h);
    }

-- ---- a leaf

pub leaf_did : (old new : List ℕ) (n m : ℕ) (x : Expr) (r : Part) → Spelt old new n 1 x m → r.count ≡ m → r.parts ≡ min 3001 1 → parts x ≡ 1
    → (vs : List Variable) (size : ℕ) (o : Answer Expr) (u : Ty) → (Inside size vs → o ≡ given x) → r.ty ≡ u → PartDid vs size old new n o u (Ok r)
leaf_did old new n m x r e last one s vs size o u eo eu =
    record {
      long = e.long;
      same = e.same;
      part = record { more = omega (arith, e.more); holds = omega (arith, e.holds); small = omega arith; typed = eu };
      own = given x;
      parted = record {
        counted = one ∙ ap (min 3001) (sym s);
        ends = λ h.
            let g = e.ends (omega (arith, e.long)) in
            let end : m ≡ n + 1 = g.0 in
            (omega arith, ap (expr_at new) last ∙ g.1);
      };
      is = λ i. sym (eo i);
    }

-- ---- an operator over one operand and over two

min_one : (a : ℕ) → min 3001 (min 3001 a + 1) ≡ min 3001 (suc a)
min_one a = omega arith

min_two : (a b : ℕ) → min 3001 (min 3001 a + min 3001 b + 1) ≡ min 3001 (suc (a + b))
min_two a b = omega arith

module _ (mid new : List ℕ) (n k b c m : ℕ) (x r : Part) (emitted : Emitted mid new x.count k x.count b c m) (last : r.count ≡ m) (counted : r.parts ≡ min 3001 (x.parts + 1))
    (g : Expr → Expr) (size : (e : Expr) → parts (g e) ≡ suc (parts e))
    (put : (m : ℕ) → 0 < m → Holds mid m → x.count < m → expr_at (written mid m k x.count b c) m ≡ g (expr_at mid x.count)) where
  wr : Emitted mid new x.count k x.count b c r.count
  wr = subst (Emitted mid new x.count k x.count b c) (sym last) emitted

  one_ends : (e : Expr) → Ends mid n e x → Ends new n (g e) r
  one_ends e h =
      record {
        counted = counted ∙ ap (λ p. min 3001 (p + 1)) h.counted ∙ min_one (parts e) ∙ ap (min 3001) (sym (size e));
        ends = λ room.
            let f : Holds mid (n + parts e) = omega (arith, wr.long, size e) in
            let before = h.ends f in
            let at : x.count ≡ n + parts e = before.0 in
            let fits : Holds mid (x.count + 1) = omega (arith, wr.long, size e) in
            let wrote = wr.wrote fits in
            let end : r.count ≡ x.count + 1 = wrote.0 in (
              omega (arith, end, at, size e),
              ap₂ expr_at wrote.1 end ∙ put (x.count + 1) (omega arith) fits (omega arith) ∙ ap g before.1,
            );
      }

  one_parted : (o : Answer Expr) → Parted mid n o (Ok x) → Parted new n (o >>= λ e. given (g e)) (Ok r)
  one_parted (refused w q) h = given_refused h
  one_parted (given e) h = one_ends e h

  pub one_did : (vs : List Variable) (size : ℕ) (old : List ℕ) (o : Answer Expr) (u v : Ty) → r.ty ≡ v → PartDid vs size old mid n o u (Ok x)
      → PartDid vs size old new n (o >>= λ e. given (g e)) v (Ok r)
  one_did vs size old o u v ty d =
      record {
        long = wr.long ∙ d.long;
        same = same_trans old mid new n d.same (same_less mid new x.count n wr.same d.part.more);
        part = record { more = omega (arith, d.part.more, wr.more); holds = wr.holds; small = omega arith; typed = ty };
        own = d.own >>= λ e. given (g e);
        parted = one_parted d.own d.parted;
        is = λ i. ap (λ a. a >>= λ e. given (g e)) (d.is i);
      }

module _ (first mid new : List ℕ) (n k c m : ℕ) (x y r : Part) (emitted : Emitted mid new y.count k x.count y.count c m) (last : r.count ≡ m)
    (counted : r.parts ≡ min 3001 (x.parts + y.parts + 1))
    (g : Expr → Expr → Expr) (size : (d e : Expr) → parts (g d e) ≡ suc (parts d + parts e))
    (put : (m : ℕ) → 0 < m → Holds mid m → x.count < m → y.count < m
    → expr_at (written mid m k x.count y.count c) m ≡ g (expr_at mid x.count) (expr_at mid y.count)) where
  over : Emitted mid new y.count k x.count y.count c r.count
  over = subst (Emitted mid new y.count k x.count y.count c) (sym last) emitted

  module _ (kept : Same x.count first mid) (long : length mid ≡ length first) (later : x.count ≤ y.count) where
    two_ends : (l e : Expr) → Ends first n l x → Ends mid x.count e y → Ends new n (g l e) r
    two_ends l e h i =
        record {
          counted = counted ∙ ap₂ (λ p q. min 3001 (p + q + 1)) h.counted i.counted ∙ min_two (parts l) (parts e) ∙ ap (min 3001) (sym (size l e));
          ends = λ room.
              let f : Holds first (n + parts l) = omega (arith, over.long, size l e) in
              let before = h.ends f in
              let at : x.count ≡ n + parts l = before.0 in
              let f₂ : Holds mid (x.count + parts e) = omega (arith, over.long, size l e) in
              let behind = i.ends f₂ in
              let at₂ : y.count ≡ x.count + parts e = behind.0 in
              let fits : Holds mid (y.count + 1) = omega (arith, over.long, size l e) in
              let wrote = over.wrote fits in
              let end : r.count ≡ y.count + 1 = wrote.0 in (
                omega (arith, end, at, at₂, size l e),
                ap₂ expr_at wrote.1 end
                    ∙ put (y.count + 1) (omega arith) fits (omega arith) (omega arith)
                    ∙ ap₂ g (expr_same first mid x.count x.count kept (omega arith) ∙ before.1) behind.1,
              );
        }

    two_parted : (o q : Answer Expr) → Parted first n o (Ok x) → Parted mid x.count q (Ok y) → Parted new n (o >>= λ d. q >>= λ e. given (g d e)) (Ok r)
    two_parted (refused w at) q h i = given_refused h
    two_parted (given l) (refused w at) h i = given_refused i
    two_parted (given l) (given e) h i = two_ends l e h i

  pub two_did : (vs : List Variable) (size : ℕ) (old : List ℕ) (o q : Answer Expr) (t u v : Ty) → r.ty ≡ v → PartDid vs size old first n o t (Ok x)
      → PartDid vs size first mid x.count q u (Ok y) → PartDid vs size old new n (o >>= λ d. q >>= λ e. given (g d e)) v (Ok r)
  two_did vs size old o q t u v ty d i =
      record {
        long = over.long ∙ i.long ∙ d.long;
        same = same_trans old first new n d.same
            (same_trans first mid new n (same_less first mid x.count n i.same d.part.more) (same_less mid new y.count n over.same (omega (arith, d.part.more, i.part.more))));
        part = record { more = omega (arith, d.part.more, i.part.more, over.more); holds = over.holds; small = omega arith; typed = ty };
        own = d.own >>= λ l. i.own >>= λ e. given (g l e);
        parted = two_parted i.same i.long i.part.more d.own i.own d.parted i.parted;
        is = λ j. ap₂ (λ a b. a >>= λ l. b >>= λ e. given (g l e)) (d.is j) (i.is j);
      }

-- ---- what was refused

-- where nothing was written
pub refused_did : (vs : List Variable) (size : ℕ) (old : List ℕ) (n : ℕ) (o : Answer Expr) (u : Ty) (e : Refusal) → (Inside size vs → o ≡ refused e.why e.place)
    → PartDid vs size old old n o u (Err e)
refused_did vs size old n o u e h =
    record { long = refl; same = λ j s. refl; part = tt; own = refused e.why e.place; parted = refl; is = λ ins. sym (h ins) }

module _ {vs : List Variable} {size : ℕ} {n : ℕ} {o : Answer Expr} {u : Ty} {e : Refusal} where
  -- whatever comes after it
  pub stopped : {old new : List ℕ} (f : Expr → Answer Expr) (s : Ty) → PartDid vs size old new n o u (Err e) → PartDid vs size old new n (o >>= f) s (Err e)
  stopped {old} {new} f s d =
      record { long = d.long; same = d.same; part = tt; own = d.own >>= f; parted = go d.own d.parted; is = λ i. ap (λ a. a >>= f) (d.is i) }
    where
      go : (o : Answer Expr) → Parted new n o (Err e) → Parted new n (o >>= f) (Err e)
      go (refused w q) h = h
      go (given x) h = absurd h

  -- behind a first that was given
  pub stopped_second : {old first mid : List ℕ} {x : Part} {q : Answer Expr} {t : Ty} (g : Expr → Expr → Expr) (s : Ty) → PartDid vs size old first n o u (Ok x)
      → PartDid vs size first mid x.count q t (Err e) → PartDid vs size old mid n (o >>= λ d. q >>= λ e. given (g d e)) s (Err e)
  stopped_second {old} {first} {mid} {x} g s d i =
      record {
        long = i.long ∙ d.long;
        same = same_trans old first mid n d.same (same_less first mid x.count n i.same d.part.more);
        part = tt;
        own = d.own >>= λ l. i.own >>= λ r. given (g l r);
        parted = go d.own i.own d.parted i.parted;
        is = λ j. ap₂ (λ a b. a >>= λ l. b >>= λ r. given (g l r)) (d.is j) (i.is j);
      }
    where
      go : (o q : Answer Expr) → Parted first n o (Ok x) → Parted mid x.count q (Err e) → Parted mid n (o >>= λ d. q >>= λ e. given (g d e)) (Err e)
      go (refused w a) q h i = given_refused h
      go (given l) (refused w a) h i = i
      go (given l) (given r) h i = absurd i
