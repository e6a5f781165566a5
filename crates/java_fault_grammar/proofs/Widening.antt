-- What stands with fewer types in each other stands with more.
use Rattle.std.proofs.Common.{◌≡◌, ◌≤◌, ◌+◌, ◌-◌, ℕ, zero, suc, List, [], ◌∷◌, length, map, refl, subst, arith}
use Rattle.std.proofs.lemmas.List.{length-append}
use Rattle.std.specs.List.{AllByRecursion}
use Rattle.java_member_grammar.specs.declared.heads.JMemberHead.TheVariants as head
use Rattle.java_unit_grammar.specs.declared.statements.JBody.{JBody}
use Rattle.java_unit_grammar.specs.declared.statements.JCase.{JCase}
use Rattle.java_unit_grammar.specs.declared.statements.JCaseGroup.{JCaseGroup}
use Rattle.java_unit_grammar.specs.declared.statements.JCatch.{JCatch}
use Rattle.java_unit_grammar.specs.declared.statements.JMember.{JMember, out-JMember}
use Rattle.java_unit_grammar.specs.declared.statements.JStatement.{JStatement}
use Rattle.java_unit_grammar.specs.declared.statements.JBody.TheOpen.{JMember-F}
use Rattle.java_unit_grammar.specs.Tokens.{joined, whole_member_tokens}
use Rattle.java_unit_grammar.specs.Standing.{Owner, owner_of, NodeStands, steps, top_stands, file_stands, TopStands, FileStands}
use Rattle.java_unit_grammar.proofs.LawsToCite.{all_wider}

abbrev pub Layer : Type 0
Layer = JMember-F JBody JMember JStatement JCase JCaseGroup JCatch

module _ (Q R : Owner → JMember → Type 0) (f : (owner : Owner) (x : JMember) → Q owner x → R owner x) where
  pub top_wider : (owner : Owner) (x : Layer) → top_stands (NodeStands steps) Q owner x → top_stands (NodeStands steps) R owner x
  top_wider owner (JMember-F.Declared h bodies end) s = s
  top_wider owner (JMember-F.Bodied h left xs right) s = s
  top_wider owner (JMember-F.Type h left cs bodies xs right) s = (s.0, s.1, s.2, s.3, all_wider (Q (owner_of h)) (R (owner_of h)) (f (owner_of h)) xs s.4)

  file_wider : (x : Layer) → file_stands (NodeStands steps) Q x → file_stands (NodeStands steps) R x
  file_wider (JMember-F.Declared head.Empty bodies end) s = s
  file_wider (JMember-F.Declared (head.Field mods x) bodies end) s = absurd s
  file_wider (JMember-F.Declared (head.Method mods params result n at formals throws) bodies end) s = absurd s
  file_wider (JMember-F.Declared (head.Constructor mods n at formals throws) bodies end) s = absurd s
  file_wider (JMember-F.Declared (head.Initializer static) bodies end) s = absurd s
  file_wider (JMember-F.Bodied h left xs right) s = absurd s
  file_wider (JMember-F.Type h left cs bodies xs right) s = (s.0, s.1, s.2, s.3, all_wider (Q (owner_of h)) (R (owner_of h)) (f (owner_of h)) xs s.4)

more : (n : ℕ) (owner : Owner) (x : JMember) → TopStands n owner x → TopStands (suc n) owner x
unfolding TopStands
more zero owner x s = absurd s
more (suc n) owner x s = top_wider (TopStands n) (TopStands (suc n)) (more n) owner (out-JMember x) s

by : (k n m : ℕ) (owner : Owner) (x : JMember) → k + n ≡ m → TopStands n owner x → TopStands m owner x
by zero n m owner x e s = let same : n ≡ m = omega (arith, e) in subst (λ z. TopStands z owner x) same s
by (suc k) n m owner x e s = let same : suc (k + n) ≡ m = omega (arith, e) in subst (λ z. TopStands z owner x) same (more (k + n) owner x (by k n (k + n) owner x refl s))

pub tops_wider : (n m : ℕ) (owner : Owner) (x : JMember) → n ≤ m → TopStands n owner x → TopStands m owner x
tops_wider n m owner x h s = by (m - n) n m owner x (omega (arith, h)) s

pub files_wider : (n m : ℕ) (x : JMember) → n ≤ m → FileStands n x → FileStands m x
files_wider n m x h s = file_wider (TopStands n) (TopStands m) (λ owner y t. tops_wider n m owner y h t) (out-JMember x) s

-- ---- no more types stand in each other than a member has tokens

abbrev pub Top : Owner → JMember → Type 0
Top owner x = TopStands (length (whole_member_tokens x)) owner x

abbrev pub InFile : JMember → Type 0
InFile x = FileStands (length (whole_member_tokens x)) x

pub tops_in : (owner : Owner) (xs : List JMember) (k : ℕ) → AllByRecursion (Top owner) xs → length (joined (map whole_member_tokens xs)) ≤ k → AllByRecursion (TopStands k owner) xs
tops_in owner [] k all le = tt
tops_in owner (x ∷ xs) k all le =
    let l = length-append (whole_member_tokens x) (joined (map whole_member_tokens xs)) in
    (tops_wider (length (whole_member_tokens x)) k owner x (omega (arith, l, le)) all.0, tops_in owner xs k all.1 (omega (arith, l, le)))

pub files_in : (xs : List JMember) (k : ℕ) → AllByRecursion InFile xs → length (joined (map whole_member_tokens xs)) ≤ k → AllByRecursion (FileStands k) xs
files_in [] k all le = tt
files_in (x ∷ xs) k all le =
    let l = length-append (whole_member_tokens x) (joined (map whole_member_tokens xs)) in
    (files_wider (length (whole_member_tokens x)) k x (omega (arith, l, le)) all.0, files_in xs k all.1 (omega (arith, l, le)))
