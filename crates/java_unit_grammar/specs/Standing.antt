-- Which statements, members and units stand: their forms, and how deep they are.
use Rattle.std.specs.Prelude.{◌≡◌, ◌≤◌, ◌-◌, ℕ, zero, suc, Bool, true, false, List, [], ◌∷◌, length, map, Option, Some, None}
use Rattle.std.specs.List.{AllByRecursion}
use Rattle.java_tree.specs.declared.tokens.Position.{Position}
use Rattle.java_tree.specs.Seen.{Token, Tokens, pieces}
use Rattle.java_tree.specs.declared.exprs.JExpr.{JExpr}
use Rattle.java_tree.specs.Trees.{tokens, any_level, TypeStands, Stands, max_depth}
use Rattle.java_statement_grammar.specs.declared.declarations.JDeclarator.{JDeclarator}
use Rattle.java_statement_grammar.specs.declared.statements.JSimple.{JSimple}
use Rattle.java_statement_grammar.specs.declared.statements.JSimple.TheVariants as simple
use Rattle.java_statement_grammar.specs.Heads.{simple_tokens, for_tokens, lock_tokens, switch_tokens, SimpleStands, ForStands, LockStands, SwitchStands}
use Rattle.java_member_grammar.specs.declared.homes.JHome.{JHome}
use Rattle.java_member_grammar.specs.declared.homes.JHome.TheVariants as home
use Rattle.java_member_grammar.specs.declared.heads.JMemberHead.{JMemberHead}
use Rattle.java_member_grammar.specs.declared.heads.JMemberHead.TheVariants as head
use Rattle.java_member_grammar.specs.declared.heads.JTypeHead.{JTypeHead}
use Rattle.java_member_grammar.specs.declared.heads.JTypeHead.TheVariants as kind
use Rattle.java_member_grammar.specs.declared.lines.JConstants.{JConstants}
use Rattle.java_member_grammar.specs.Heads.{member_tokens, constants_tokens, MemberStands, TypeHeadStands, ConstantsStand}
use Rattle.java_member_grammar.specs.Modifiers.{type_fits, class_member_fits, interface_member_fits}
use Rattle.java_unit_grammar.specs.declared.statements.JBody.{JBody, out-JBody}
use Rattle.java_unit_grammar.specs.declared.statements.JCase.{JCase, out-JCase}
use Rattle.java_unit_grammar.specs.declared.statements.JCaseGroup.{JCaseGroup, out-JCaseGroup}
use Rattle.java_unit_grammar.specs.declared.statements.JCatch.{JCatch, out-JCatch}
use Rattle.java_unit_grammar.specs.declared.statements.JMember.{JMember, out-JMember}
use Rattle.java_unit_grammar.specs.declared.statements.JStatement.{JStatement, out-JStatement, fold-JStatement}
use Rattle.java_unit_grammar.specs.declared.statements.JBody.TheOpen.{JBody-F, JCase-F, JCaseGroup-F, JCatch-F, JMember-F, JStatement-F}
use Rattle.java_unit_grammar.specs.Tokens.{joined, filled, body_tokens, statement_tokens, whole_member_tokens, unit_tokens}
use Rattle.java_unit_grammar.specs.declared.units.JUnit.{JUnit}
use Rattle.java_unit_grammar.specs.Levels.{Levels, all_levels, value_levels, levels, simple_levels, for_levels, lock_levels, switch_levels, declaration_levels, constants_levels}

-- ---- an `if` without `else` at the end, to which a following `else` would belong (JLS 14.5)

abbrev pub ends_open_by : JStatement-F Bool Bool Bool Bool Bool Bool → Bool
ends_open_by (JStatement-F.If at lp test bodies rp then_) = true
ends_open_by (JStatement-F.IfElse at lp test bodies rp then_ else_at else_) = else_
ends_open_by (JStatement-F.Labeled n at colon body) = body
ends_open_by (JStatement-F.While at lp test bodies rp body) = body
ends_open_by (JStatement-F.For at lp head bodies rp body) = body
ends_open_by _ = false

unfoldable pub ends_open : JStatement → Bool
ends_open = fold-JStatement Bool Bool Bool Bool Bool Bool (λ x. false) (λ x. false) ends_open_by (λ x. false) (λ x. false) (λ x. false)

-- ---- where a statement stands

-- first in the block of a constructor, in a block or a group of a switch, or alone as the part of another statement
pub data Role : Type 0 where
  First : Role
  Inner : Role
  Sole : Role

abbrev pub may_stand : Role → JSimple → Bool
may_stand Role.First x = true
may_stand Role.Inner (simple.ThisCall at lp args commas rp) = false
may_stand Role.Inner (simple.SuperCall at lp args commas rp) = false
may_stand Role.Inner x = true
may_stand Role.Sole (simple.Declaration x) = false
may_stand Role.Sole (simple.ThisCall at lp args commas rp) = false
may_stand Role.Sole (simple.SuperCall at lp args commas rp) = false
may_stand Role.Sole x = true

-- whose member it is: of a class or an enum, by its name where it has one, or of an interface
pub data Owner : Type 0 where
  Class : Option (List ℕ) → Owner
  Interface : Owner

abbrev pub owner_of : JTypeHead → Owner
owner_of (kind.Class mods at n nat params above faces) = Owner.Class (Some n)
owner_of (kind.Interface mods at n nat params above) = Owner.Interface
owner_of (kind.Enum mods at n nat faces) = Owner.Class (Some n)

abbrev pub home_of : Owner → JHome
home_of (Owner.Class n) = home.Class
home_of Owner.Interface = home.Interface

abbrev pub member_fits : Owner → Bool → JMemberHead → Bool
member_fits (Owner.Class n) has_body x = class_member_fits n has_body x
member_fits Owner.Interface has_body x = interface_member_fits has_body x

-- ---- bodies of a head

-- whether a body is a block of statements
abbrev pub is_block_by : JBody-F JBody JMember JStatement JCase JCaseGroup JCatch → Bool
is_block_by (JBody-F.Statements xs) = true
is_block_by (JBody-F.Members xs) = false

abbrev pub is_block : JBody → Bool
is_block x = is_block_by (out-JBody x)

-- of each span, whether it is that of a block
abbrev pub spans : Tokens → List Bool
spans [] = []
spans (Token.ArrowBody at body ∷ ts) = true ∷ spans ts
spans (Token.CloseBody at body ∷ ts) = false ∷ spans ts
spans (t ∷ ts) = spans ts

-- of each span, how many tokens it counts
abbrev pub counts : Tokens → List ℕ
counts [] = []
counts (Token.ArrowBody at body ∷ ts) = (body.to - body.from) ∷ counts ts
counts (Token.CloseBody at body ∷ ts) = (body.to - body.from) ∷ counts ts
counts (t ∷ ts) = counts ts

-- Each body is that of a span and has as many tokens as it counts, and the spans count the tokens of the head.
pub record AreBodies (text : Tokens) (bodies : List JBody) : Type 0 where
  pub each : map is_block bodies ≡ spans text
  pub counted : map length (map body_tokens bodies) ≡ counts text
  pub numbered : text ≡ pieces (length (filled text (map body_tokens bodies))) (filled text (map body_tokens bodies))

pub data Node : Type 0 where
  Body : JBody → Node
  Case : JCase → Node
  Statement : Role → JStatement → Node
  Member : Owner → JMember → Node

-- Each body stands as deep as its level leaves room, where what holds it may be suc d deep.
abbrev pub bodies_stand : (ℕ → Node → Type 0) → ℕ → Levels → List JBody → Type 0
bodies_stand P d levels [] = Unit {0}
bodies_stand P d [] (x ∷ xs) = ⊥
bodies_stand P d (level ∷ levels) (x ∷ xs) = P (suc (suc d) - level) (Node.Body x) × bodies_stand P d levels xs

pub record HeadStands (P : ℕ → Node → Type 0) (d : ℕ) (text : Tokens) (levels : Levels) (bodies : List JBody) : Type 0 where
  pub are : AreBodies text bodies
  pub stand : bodies_stand P d levels bodies

abbrev pub all_stand : (ℕ → Node → Type 0) → ℕ → Role → List JStatement → Type 0
all_stand P d place xs = AllByRecursion (λ x. P d (Node.Statement place x)) xs

-- the statements of the block of a constructor
abbrev pub first_stand : (ℕ → Node → Type 0) → ℕ → List JStatement → Type 0
first_stand P d [] = Unit {0}
first_stand P d (x ∷ xs) = P d (Node.Statement Role.First x) × all_stand P d Role.Inner xs

-- ---- by cases: what is suc d deep at most, where `P e` says that a part stands that is e deep at most

-- A block is one deeper than its statements.
abbrev pub block_stands : (ℕ → Node → Type 0) → ℕ → List JStatement → Type 0
block_stands P zero xs = ⊥
block_stands P (suc d) xs = all_stand P d Role.Inner xs

abbrev pub first_block_stands : (ℕ → Node → Type 0) → ℕ → List JStatement → Type 0
first_block_stands P zero xs = ⊥
first_block_stands P (suc d) xs = first_stand P d xs

-- the block of a constructor, or of another member
abbrev pub member_block : (ℕ → Node → Type 0) → ℕ → JMemberHead → List JStatement → Type 0
member_block P d (head.Constructor mods n at formals throws) xs = first_block_stands P d xs
member_block P d _ xs = block_stands P d xs

abbrev pub member_levels : JMemberHead → Levels
member_levels (head.Field mods x) = declaration_levels x
member_levels _ = []

-- The constants stand exactly where the type is an enum, and their arguments at depth 1.
abbrev pub constants_stand : (ℕ → Node → Type 0) → JTypeHead → Option JConstants → List JBody → Type 0
constants_stand P (kind.Enum mods at n nat faces) (Some x) bodies = ConstantsStand max_depth x × HeadStands P 199 (constants_tokens x) (constants_levels x) bodies
constants_stand P (kind.Enum mods at n nat faces) None bodies = ⊥
constants_stand P _ None bodies = bodies ≡ []
constants_stand P _ (Some x) bodies = ⊥

-- Labels that stand together are of one group, so that only the last group of a switch may hold no statement (JLS 14.11).
abbrev pub full_before : List JCaseGroup → Type 0
full_before [] = Unit {0}
full_before (x ∷ []) = Unit {0}
full_before (x ∷ y ∷ xs) = (1 ≤ length (out-JCaseGroup x).statements) × full_before (y ∷ xs)

-- Members follow the constants of an enum only behind a `;`.
abbrev pub follow_end : Option Position → List JMember → Type 0
follow_end None members = members ≡ []
follow_end (Some at) members = Unit {0}

abbrev pub follow : Option JConstants → List JMember → Type 0
follow None members = Unit {0}
follow (Some x) members = follow_end x.end members

module _ (P : ℕ → Node → Type 0) (d : ℕ) where
  abbrev pub body_stands : JBody-F JBody JMember JStatement JCase JCaseGroup JCatch → Type 0
  body_stands (JBody-F.Statements xs) = all_stand P d Role.Inner xs
  body_stands (JBody-F.Members xs) = AllByRecursion (λ x. P (suc d) (Node.Member (Owner.Class None) x)) xs

  abbrev pub case_stands : JCase-F JBody JMember JStatement JCase JCaseGroup JCatch → Type 0
  case_stands x = SwitchStands (suc d) x.label × HeadStands P d (switch_tokens x.label) (switch_levels x.label) x.bodies

  abbrev pub group_stands : JCaseGroup-F JBody JMember JStatement JCase JCaseGroup JCatch → Type 0
  group_stands x = (1 ≤ length x.labels) × AllByRecursion (λ y. P d (Node.Case y)) x.labels × all_stand P d Role.Inner x.statements

  abbrev pub catch_stands : JCatch-F JBody JMember JStatement JCase JCaseGroup JCatch → Type 0
  catch_stands x = TypeStands d x.caught.kind × block_stands P d x.statements

  abbrev pub condition_stands : JExpr → List JBody → Type 0
  condition_stands x bodies = Stands d any_level x × HeadStands P d (tokens x) (map suc (levels x)) bodies

  abbrev pub sole_stands : JStatement → Type 0
  sole_stands x = P d (Node.Statement Role.Sole x)

  -- A try has a catch or a `finally`; before an `else` no `if` is open.
  abbrev pub statement_stands : Role → JStatement-F JBody JMember JStatement JCase JCaseGroup JCatch → Type 0
  statement_stands place (JStatement-F.Simple x bodies end) = (may_stand place x ≡ true) × SimpleStands d x × HeadStands P d (simple_tokens x) (simple_levels x) bodies
  statement_stands place (JStatement-F.Block left xs right) = all_stand P d Role.Inner xs
  statement_stands place (JStatement-F.Labeled n at colon body) = sole_stands body
  statement_stands place (JStatement-F.If at lp test bodies rp then_) = condition_stands test bodies × sole_stands then_
  statement_stands place (JStatement-F.IfElse at lp test bodies rp then_ else_at else_) =
      condition_stands test bodies × sole_stands then_ × (ends_open then_ ≡ false) × sole_stands else_
  statement_stands place (JStatement-F.While at lp test bodies rp body) = condition_stands test bodies × sole_stands body
  statement_stands place (JStatement-F.Do at body while_at lp test bodies rp end) = sole_stands body × condition_stands test bodies
  statement_stands place (JStatement-F.For at lp head bodies rp body) = ForStands d head × HeadStands P d (for_tokens head) (for_levels head) bodies × sole_stands body
  statement_stands place (JStatement-F.Switch at lp subject bodies rp left groups right) =
      condition_stands subject bodies × AllByRecursion (λ x. group_stands (out-JCaseGroup x)) groups × full_before groups
  statement_stands place (JStatement-F.Synchronized at lp lock bodies rp left xs right) =
      LockStands d lock × HeadStands P d (lock_tokens lock) (lock_levels lock) bodies × block_stands P d xs
  statement_stands place (JStatement-F.Try at left xs right catches) =
      block_stands P d xs × (1 ≤ length catches) × AllByRecursion (λ x. catch_stands (out-JCatch x)) catches
  statement_stands place (JStatement-F.TryFinally at left xs right catches finally_at last_left lasts last_right) =
      block_stands P d xs × AllByRecursion (λ x. catch_stands (out-JCatch x)) catches × block_stands P d lasts

  -- a member that stands in an expression
  abbrev pub member_stands : Owner → JMember-F JBody JMember JStatement JCase JCaseGroup JCatch → Type 0
  member_stands owner (JMember-F.Declared head bodies end) =
      (member_fits owner false head ≡ true) × MemberStands d d head × HeadStands P d (member_tokens head) (member_levels head) bodies
  member_stands owner (JMember-F.Bodied head left xs right) = (member_fits owner true head ≡ true) × MemberStands d d head × member_block P d head xs
  member_stands owner (JMember-F.Type head left constants bodies members right) =
      (type_fits (home_of owner) head ≡ true) × TypeHeadStands d head × constants_stand P head constants bodies × follow constants members
      × AllByRecursion (λ x. P d (Node.Member (owner_of head) x)) members

abbrev pub node_stands : (ℕ → Node → Type 0) → ℕ → Node → Type 0
node_stands P d (Node.Body x) = body_stands P d (out-JBody x)
node_stands P d (Node.Case x) = case_stands P d (out-JCase x)
node_stands P d (Node.Statement place x) = statement_stands P d place (out-JStatement x)
node_stands P d (Node.Member owner x) = member_stands P d owner (out-JMember x)

-- It stands at a depth of at most the second number; the first bounds the steps to its leaves.
unfoldable pub NodeStands : ℕ → ℕ → Node → Type 0
NodeStands zero d x = ⊥
NodeStands (suc n) zero x = ⊥
NodeStands (suc n) (suc d) x = node_stands (NodeStands n) d x

-- The statement spells the tokens, with a depth of at most d.
pub record StatementSpells (n d : ℕ) (place : Role) (x : JStatement) (text : Tokens) : Type 0 where
  pub stands : NodeStands n d (Node.Statement place x)
  pub same : statement_tokens x ≡ text

-- The statements spell the tokens between the braces of a block, each with a depth of at most d.
pub record StatementsSpell (n d : ℕ) (xs : List JStatement) (text : Tokens) : Type 0 where
  pub stand : all_stand (NodeStands n) d Role.Inner xs
  pub same : joined (map statement_tokens xs) ≡ text

-- The members spell the tokens of the body of an anonymous class, each with a depth of at most d.
pub record MembersSpell (n d : ℕ) (xs : List JMember) (text : Tokens) : Type 0 where
  pub stand : AllByRecursion (λ x. NodeStands n d (Node.Member (Owner.Class None) x)) xs
  pub same : joined (map whole_member_tokens xs) ≡ text

-- ---- members that stand in no expression: their bodies and initializers at depth 1

abbrev pub initial_levels : JDeclarator → Levels
initial_levels x = value_levels x.value

abbrev pub top_levels : JMemberHead → Levels
top_levels (head.Field mods x) = all_levels (map initial_levels x.names)
top_levels _ = []

module _ (P : ℕ → Node → Type 0) (Q : Owner → JMember → Type 0) where
  abbrev pub type_stands : JHome → JTypeHead → Option JConstants → List JBody → List JMember → Type 0
  type_stands place head constants bodies members =
      (type_fits place head ≡ true) × TypeHeadStands max_depth head × constants_stand P head constants bodies × follow constants members
      × AllByRecursion (Q (owner_of head)) members

  abbrev pub top_stands : Owner → JMember-F JBody JMember JStatement JCase JCaseGroup JCatch → Type 0
  top_stands owner (JMember-F.Declared head bodies end) =
      (member_fits owner false head ≡ true) × MemberStands max_depth (suc max_depth) head × HeadStands P 199 (member_tokens head) (top_levels head) bodies
  top_stands owner (JMember-F.Bodied head left xs right) =
      (member_fits owner true head ≡ true) × MemberStands max_depth (suc max_depth) head × member_block P max_depth head xs
  top_stands owner (JMember-F.Type head left constants bodies members right) = type_stands (home_of owner) head constants bodies members

  -- a type at the top of a file, or a `;` there
  abbrev pub file_stands : JMember-F JBody JMember JStatement JCase JCaseGroup JCatch → Type 0
  file_stands (JMember-F.Declared head.Empty bodies end) = bodies ≡ []
  file_stands (JMember-F.Type head left constants bodies members right) = type_stands home.File head constants bodies members
  file_stands _ = ⊥

-- As many steps as a depth of 200 leaves room for: a body, a member of it and its block at each level, and the last leaf. The arguments of
-- an enum's constants begin at depth 1 again; where they stand in each other this number bounds them too (own rule).
unfoldable pub steps : ℕ
steps = 602

-- The number bounds the types that stand in each other.
unfoldable pub TopStands : ℕ → Owner → JMember → Type 0
TopStands zero owner x = ⊥
TopStands (suc n) owner x = top_stands (NodeStands steps) (TopStands n) owner (out-JMember x)

abbrev pub FileStands : ℕ → JMember → Type 0
FileStands n x = file_stands (NodeStands steps) (TopStands n) (out-JMember x)

-- The unit spells the tokens of a file. Each type leaves tokens behind, so that their number bounds the types in each other.
pub record UnitSpells (unit : JUnit) (text : Tokens) : Type 0 where
  pub stands : AllByRecursion (FileStands (length text)) unit.types
  pub same : unit_tokens unit ≡ text
