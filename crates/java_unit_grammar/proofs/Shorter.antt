-- Types that stand in each other are no more than the tokens of the outermost.
use Rattle.std.proofs.Common.{◌≤◌, ℕ, zero, suc, List, [], ◌∷◌, ◌++◌, length, map, Option, ap, sym, ◌∙◌, subst, arith}
use Rattle.std.proofs.lemmas.List.{length-append}
use Rattle.std.specs.List.{AllByRecursion}
use Rattle.java_tree.specs.declared.tokens.Position.{Position}
use Rattle.java_tree.specs.declared.tokens.Mark.TheVariants as m
use Rattle.java_tree.specs.Seen.{Token, Tokens}
use Rattle.java_member_grammar.specs.declared.heads.JMemberHead.TheVariants as head
use Rattle.java_member_grammar.specs.declared.heads.JTypeHead.{JTypeHead}
use Rattle.java_member_grammar.specs.declared.lines.JConstants.{JConstants}
use Rattle.java_member_grammar.specs.Heads.{type_head_tokens}
use Rattle.java_unit_grammar.specs.declared.statements.JBody.{JBody}
use Rattle.java_unit_grammar.specs.declared.statements.JMember.{JMember, out-JMember, roll-JMember, roll-out-JMember}
use Rattle.java_unit_grammar.specs.declared.statements.JMember.TheVariants as member
use Rattle.java_unit_grammar.specs.declared.statements.JBody.TheOpen.{JMember-F}
use Rattle.java_unit_grammar.specs.Tokens.{joined, constants_by, body_tokens, whole_member_tokens}
use Rattle.java_unit_grammar.specs.Standing.{Owner, owner_of, NodeStands, TopStands, FileStands, top_stands, file_stands, steps}
use Rattle.java_unit_grammar.proofs.Texts.{tokens_Type}
use Rattle.java_unit_grammar.proofs.MemberSoundness.{Layer}
use Rattle.java_unit_grammar.proofs.Whole.{tops_begin}

-- The members of a type are shorter than it.
members_shorter : (x : JTypeHead) (left : Position) (cs : Option JConstants) (bodies : List JBody) (xs : List JMember) (right : Position) (k : ℕ)
    → length (whole_member_tokens (roll-JMember (JMember-F.Type x left cs bodies xs right))) ≤ k → suc (length (joined (map whole_member_tokens xs))) ≤ k
members_shorter x left cs bodies xs right k h =
    let C : Tokens = constants_by cs (map body_tokens bodies) in
    let M : Tokens = joined (map whole_member_tokens xs) in
    let last : Tokens = Token.Sign m.CloseCurly right ∷ [] in
    let e = ap length (ap whole_member_tokens (member.rolls-Type x left cs bodies xs right) ∙ tokens_Type x left cs bodies xs right) in
    let a = length-append (type_head_tokens x) (Token.Sign m.OpenCurly left ∷ (C ++ (M ++ last))) in
    let b = length-append C (M ++ last) in
    let c = length-append M last in
    omega (arith, h, e, a, b, c)

module _ (P Q : JMember → Type 0) (k : ℕ) (f : (x : JMember) → P x → length (whole_member_tokens x) ≤ k → Q x) where
  each : (xs : List JMember) → AllByRecursion P xs → length (joined (map whole_member_tokens xs)) ≤ k → AllByRecursion Q xs
  each [] all h = tt
  each (x ∷ xs) all h =
      let l = length-append (whole_member_tokens x) (joined (map whole_member_tokens xs)) in
      (f x all.0 (omega (arith, l, h)), each xs all.1 (omega (arith, l, h)))

module _ (n k : ℕ) (nested : (owner : Owner) (x : JMember) → TopStands n owner x → length (whole_member_tokens x) ≤ k → TopStands k owner x) where
  members_in : (owner : Owner) (xs : List JMember) → AllByRecursion (TopStands n owner) xs → length (joined (map whole_member_tokens xs)) ≤ k → AllByRecursion (TopStands k owner) xs
  members_in owner xs all h = each (TopStands n owner) (TopStands k owner) k (nested owner) xs all h

  top_layer : (owner : Owner) (layer : Layer) → top_stands (NodeStands steps) (TopStands n) owner layer → length (whole_member_tokens (roll-JMember layer)) ≤ suc k → top_stands (NodeStands steps) (TopStands k) owner layer
  top_layer owner (JMember-F.Declared x bodies end) s h = s
  top_layer owner (JMember-F.Bodied x left xs right) s h = s
  top_layer owner (JMember-F.Type x left cs bodies xs right) s h =
      let l = members_shorter x left cs bodies xs right (suc k) h in (s.0, s.1, s.2, s.3, members_in (owner_of x) xs s.4 (omega (arith, l)))

  file_layer : (layer : Layer) → file_stands (NodeStands steps) (TopStands n) layer → length (whole_member_tokens (roll-JMember layer)) ≤ k → file_stands (NodeStands steps) (TopStands k) layer
  file_layer (JMember-F.Declared head.Empty bodies end) s h = s
  file_layer (JMember-F.Declared (head.Field mods x) bodies end) s h = absurd s
  file_layer (JMember-F.Declared (head.Method mods params result name nat formals throws) bodies end) s h = absurd s
  file_layer (JMember-F.Declared (head.Constructor mods name nat formals throws) bodies end) s h = absurd s
  file_layer (JMember-F.Declared (head.Initializer static) bodies end) s h = absurd s
  file_layer (JMember-F.Bodied x left xs right) s h = absurd s
  file_layer (JMember-F.Type x left cs bodies xs right) s h =
      let l = members_shorter x left cs bodies xs right k h in (s.0, s.1, s.2, s.3, members_in (owner_of x) xs s.4 (omega (arith, l)))

rolled : (x : JMember) (k : ℕ) → length (whole_member_tokens x) ≤ k → length (whole_member_tokens (roll-JMember (out-JMember x))) ≤ k
rolled x k h = subst (λ (z : JMember). length (whole_member_tokens z) ≤ k) (sym (roll-out-JMember x)) h

-- A member stands in as many types as it has tokens, or more.
pub top_enough : (n k : ℕ) (owner : Owner) (x : JMember) → TopStands n owner x → length (whole_member_tokens x) ≤ k → TopStands k owner x
unfolding TopStands
top_enough zero k owner x s h = absurd s
top_enough (suc n) zero owner x s h = let full = (tops_begin (suc n) owner x s).full in absurd (omega (arith, h, full))
top_enough (suc n) (suc k) owner x s h = top_layer n k (top_enough n k) owner (out-JMember x) s (rolled x (suc k) h)

pub file_enough : (n k : ℕ) (x : JMember) → FileStands n x → length (whole_member_tokens x) ≤ k → FileStands k x
file_enough n k x s h = file_layer n k (top_enough n k) (out-JMember x) s (rolled x k h)

pub files_enough : (n k : ℕ) (xs : List JMember) → AllByRecursion (FileStands n) xs → length (joined (map whole_member_tokens xs)) ≤ k → AllByRecursion (FileStands k) xs
files_enough n k xs all h = each (FileStands n) (FileStands k) k (file_enough n k) xs all h
