-- The faults of a statement's node, from those of its children.
use mathlib.Core.Path.{◌≡◌, refl, sym, ap, ◌∙◌}
use mathlib.Core.List.{List, [], ◌∷◌, ◌++◌, append_assoc, append-nil}
use Prim.Native.Nat.{ℕ, zero, suc, ◌+◌, ◌-◌, ◌≤◌, ◌<◌}
use lib.ListN.{length, get_or, take, set}
use Rattle.paper.specs.Source.{Name, Stmts, done}
use Rattle.paper.specs.Names.{Variable, statement_faults}
use Rattle.tree.specs.Nodes.{word_of, child_of}
use Rattle.tree.specs.Trees.{name_at, place_at, FrontForm, front_forms, front_from, front_at, arms_at}
use Rattle.tree.specs.Kinds.{statement_of, arms_of, IsStatement, IsArms}
use Rattle.tree.specs.declared.kinds.Statement.{Statement}
use Rattle.tree.specs.declared.kinds.Statement.TheVariants as F
use Rattle.tree.specs.declared.kinds.Arms.{Arms}
use Rattle.tree.specs.declared.kinds.Arms.TheVariants as A
use Rattle.tree.proofs.Decodes.{All, none, ◌&◌, each}
use Rattle.tree.proofs.Frames.{skip}
use Rattle.variables.specs.Table.{names_to}
use Rattle.names.specs.Walks.{unknown_at, head_at, assignment_at, statements_at, branches_at, repeat_at, arm_faults_at, Kept}
use Rattle.names.proofs.Places.{names_kept, names_take, names_set}

-- ---- what follows a list

module _ (vs : List Variable) where
  -- the faults of a list stand before those of what follows it
  abbrev Leads : (Stmts → Stmts) → Type 0
  Leads f = (k : Stmts) (ls : List Name) → statement_faults vs (f k) ls ≡ statement_faults vs (f done) ls ++ statement_faults vs k ls

  abbrev LeadsForm : FrontForm → Type 0
  LeadsForm f = (t p : List ℕ) (i : ℕ) (sub : ℕ → Stmts → Stmts) → ((j : ℕ) → Leads (sub j)) → Leads (f t p i sub)

  skip_leads : LeadsForm skip
  unfolding statement_faults
  skip_leads t p i sub h k ls = refl

  list_leads : LeadsForm (get_or front_forms 4 skip)
  unfolding front_forms
  list_leads t p i sub h k ls =
      let a = child_of p i 1 in
      let b = child_of p i 2 in
      h a (sub b k) ls
      ∙ ap (λ xs. statement_faults vs (sub a done) ls ++ xs) (h b k ls)
      ∙ sym (append_assoc (statement_faults vs (sub a done) ls) (statement_faults vs (sub b done) ls) (statement_faults vs k ls))
      ∙ ap (λ xs. xs ++ statement_faults vs k ls) (sym (h a (sub b done) ls))

  assign_leads : LeadsForm (get_or front_forms 0 skip)
  unfolding front_forms statement_faults
  assign_leads t p i sub h k ls = simp append_assoc

  choice_leads : LeadsForm (get_or front_forms 1 skip)
  unfolding front_forms statement_faults
  choice_leads t p i sub h k ls = simp append_assoc

  select_leads : LeadsForm (get_or front_forms 2 skip)
  unfolding front_forms statement_faults
  select_leads t p i sub h k ls = simp append_assoc

  repeat_leads : LeadsForm (get_or front_forms 3 skip)
  unfolding front_forms statement_faults
  repeat_leads t p i sub h k ls = simp append_assoc

  fronts_lead : All LeadsForm front_forms
  unfolding front_forms
  fronts_lead = assign_leads & choice_leads & select_leads & repeat_leads & list_leads & none

  from_leads : (f : ℕ) (t p : List ℕ) (i : ℕ) → Leads (front_from f t p i)
  unfolding front_from statement_faults
  from_leads zero t p i k ls = refl
  from_leads (suc f) t p zero k ls = refl
  from_leads (suc f) t p (suc i) k ls =
      each LeadsForm skip skip_leads front_forms fronts_lead (word_of p (suc i) 0 - 40) t p (suc i) (front_from f t p) (from_leads f t p) k ls

  front_leads : (t p : List ℕ) (i : ℕ) → Leads (front_at t p i)
  unfolding front_at
  front_leads t p i = from_leads i t p i

-- ---- after a change of the places behind the first d

module _ (vs : List Variable) (t p old new : List ℕ) (d i : ℕ) (h : Kept d old new) where
  pub statements_kept : statements_at vs t p new d i ≡ statements_at vs t p old d i
  statements_kept = ap (statement_faults vs (front_at t p i done)) (names_kept t d old new h)

  pub arms_kept : arm_faults_at vs t p new d i ≡ arm_faults_at vs t p old d i
  arms_kept = ap (statement_faults vs (arms_at t p i)) (names_kept t d old new h)

-- ---- nodes

module _ (vs : List Variable) (t p ls : List ℕ) (d i : ℕ) where
  abbrev names : List Name
  names = names_to t ls d

  abbrev a : ℕ
  a = child_of p i 1

  abbrev b : ℕ
  b = child_of p i 2

  -- by those of what the node is
  statements_by : (s : Statement) → IsStatement p i s → statements_at vs t p ls d i ≡ statement_faults vs (statement_of p i t done s) names
  statements_by s v = ap (λ k. statement_faults vs k names) (v.list t done)

  arms_by : (x : Arms) → IsArms p i x → arm_faults_at vs t p ls d i ≡ statement_faults vs (arms_of p i t x) names
  arms_by x v = ap (λ k. statement_faults vs k names) (v.list t)

  pub no_statements : IsStatement p i F.Nothing → statements_at vs t p ls d i ≡ []
  unfolding statement_faults
  no_statements v = statements_by F.Nothing v

  pub assignment_faults : IsStatement p i F.Assignment → statements_at vs t p ls d i ≡ assignment_at vs t p ls d a b
  unfolding statement_faults
  assignment_faults v = statements_by F.Assignment v ∙ simp append-nil

  pub choice_faults : IsStatement p i F.Choice → statements_at vs t p ls d i ≡ unknown_at vs t p a ++ branches_at vs t p ls d b
  unfolding statement_faults
  choice_faults v = statements_by F.Choice v ∙ simp append-nil (append_assoc (unknown_at vs t p a) _ _)

  pub select_faults : IsStatement p i F.Selection → statements_at vs t p ls d i ≡ unknown_at vs t p a ++ arm_faults_at vs t p ls d b
  unfolding statement_faults
  select_faults v = statements_by F.Selection v ∙ simp append-nil

  pub repeat_faults : IsStatement p i F.Loop → statements_at vs t p ls d i ≡ repeat_at vs t p ls d a b
  unfolding statement_faults
  repeat_faults v = statements_by F.Loop v ∙ simp append-nil

  -- the first part is walked last, with other places behind the first d
  pub list_faults : (mid : List ℕ) → Kept d ls mid → IsStatement p i F.List
      → statements_at vs t p ls d i ≡ statements_at vs t p mid d a ++ statements_at vs t p ls d b
  list_faults mid h v =
      rw (statements_kept vs t p ls mid d a h) (statements_by F.List v ∙ front_leads vs t p a (front_at t p b done) names)

  -- the arms behind the first are walked with other places behind the first d
  pub arm_faults_lem : (mid : List ℕ) → Kept d ls mid → IsArms p i A.Arm
      → arm_faults_at vs t p ls d i ≡ statements_at vs t p ls d b ++ arm_faults_at vs t p mid d (child_of p i 3)
  unfolding statement_faults
  arm_faults_lem mid h v = rw (arms_kept vs t p ls mid d (child_of p i 3) h) (arms_by A.Arm v)

  pub else_faults : IsArms p i A.Otherwise → arm_faults_at vs t p ls d i ≡ statements_at vs t p ls d a
  else_faults v = arms_by A.Otherwise v

  pub no_arms : IsArms p i A.Nothing → arm_faults_at vs t p ls d i ≡ []
  unfolding statement_faults
  no_arms v = arms_by A.Nothing v

-- ---- the parts that are lent the first d places

module _ (vs : List Variable) (t p ls : List ℕ) (d : ℕ) (l : d ≤ length ls) where
  abbrev part : List ℕ
  part = take d ls

  pub part_head : (h : ℕ) → head_at vs t p part (length part) h ≡ head_at vs t p ls d h
  part_head h = rw (names_take t d ls l)

  pub part_assignment : (a b : ℕ) → assignment_at vs t p part (length part) a b ≡ assignment_at vs t p ls d a b
  part_assignment a b = rw (names_take t d ls l)

-- the body of a FOR whose variable stands at q
pub inner_statements : (vs : List Variable) (t p ls : List ℕ) (d b q h : ℕ) → d < length ls → q ≡ place_at p h
    → statements_at vs t p (set ls d q) (d + 1) b ≡ statement_faults vs (front_at t p b done) (name_at t (place_at p h) ∷ names_to t ls d)
inner_statements vs t p ls d b q h l e =
    ap (statement_faults vs (front_at t p b done)) (names_set t d ls q l ∙ ap (λ q. name_at t q ∷ names_to t ls d) e)
