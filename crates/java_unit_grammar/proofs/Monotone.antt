-- What stands in a number of steps stands in more.
use Rattle.std.proofs.Common.{◌≡◌, ◌≤◌, ◌+◌, ◌-◌, ℕ, zero, suc, List, [], ◌∷◌, Option, Some, None, refl, subst, arith}
use Rattle.std.specs.List.{AllByRecursion}
use Rattle.java_tree.specs.Seen.{Tokens}
use Rattle.java_tree.specs.declared.exprs.JExpr.{JExpr}
use Rattle.java_member_grammar.specs.declared.heads.JMemberHead.{JMemberHead}
use Rattle.java_member_grammar.specs.declared.heads.JMemberHead.TheVariants as head
use Rattle.java_member_grammar.specs.declared.heads.JTypeHead.{JTypeHead}
use Rattle.java_member_grammar.specs.declared.heads.JTypeHead.TheVariants as kind
use Rattle.java_member_grammar.specs.declared.lines.JConstants.{JConstants}
use Rattle.java_unit_grammar.specs.declared.statements.JBody.{JBody, out-JBody}
use Rattle.java_unit_grammar.specs.declared.statements.JCase.{JCase, out-JCase}
use Rattle.java_unit_grammar.specs.declared.statements.JCaseGroup.{JCaseGroup, out-JCaseGroup}
use Rattle.java_unit_grammar.specs.declared.statements.JCatch.{JCatch, out-JCatch}
use Rattle.java_unit_grammar.specs.declared.statements.JMember.{JMember, out-JMember}
use Rattle.java_unit_grammar.specs.declared.statements.JStatement.{JStatement, out-JStatement}
use Rattle.java_unit_grammar.specs.declared.statements.JBody.TheOpen.{JBody-F, JCase-F, JCaseGroup-F, JCatch-F, JMember-F, JStatement-F}
use Rattle.java_unit_grammar.specs.Levels.{Levels}
use Rattle.java_unit_grammar.specs.Standing.{Role, Owner, owner_of, Node, bodies_stand, HeadStands, all_stand, first_stand, block_stands, first_block_stands, member_block, constants_stand, body_stands, case_stands, group_stands, catch_stands, condition_stands, statement_stands, member_stands, node_stands, NodeStands}

pub all_wider : {A : Type 0} (P Q : A → Type 0) → ((x : A) → P x → Q x) → (xs : List A) → AllByRecursion P xs → AllByRecursion Q xs
all_wider P Q f [] all = tt
all_wider P Q f (x ∷ xs) all = (f x all.0, all_wider P Q f xs all.1)

module _ (P Q : ℕ → Node → Type 0) (f : (d : ℕ) (x : Node) → P d x → Q d x) where
  bodies_wider : (d : ℕ) (ls : Levels) (xs : List JBody) → bodies_stand P d ls xs → bodies_stand Q d ls xs
  bodies_wider d ls [] s = tt
  bodies_wider d [] (x ∷ xs) s = absurd s
  bodies_wider d (l ∷ ls) (x ∷ xs) s = (f (suc (suc d) - l) (Node.Body x) s.0, bodies_wider d ls xs s.1)

  head_wider : (d : ℕ) (text : Tokens) (ls : Levels) (xs : List JBody) → HeadStands P d text ls xs → HeadStands Q d text ls xs
  head_wider d text ls xs s = record { are = s.are; stand = bodies_wider d ls xs s.stand }

  statements_wider : (d : ℕ) (place : Role) (xs : List JStatement) → all_stand P d place xs → all_stand Q d place xs
  statements_wider d place xs all = all_wider (λ x. P d (Node.Statement place x)) (λ x. Q d (Node.Statement place x)) (λ x s. f d (Node.Statement place x) s) xs all

  first_wider : (d : ℕ) (xs : List JStatement) → first_stand P d xs → first_stand Q d xs
  first_wider d [] s = tt
  first_wider d (x ∷ xs) s = (f d (Node.Statement Role.First x) s.0, statements_wider d Role.Inner xs s.1)

  block_wider : (d : ℕ) (xs : List JStatement) → block_stands P d xs → block_stands Q d xs
  block_wider zero xs s = absurd s
  block_wider (suc d) xs s = statements_wider d Role.Inner xs s

  first_block_wider : (d : ℕ) (xs : List JStatement) → first_block_stands P d xs → first_block_stands Q d xs
  first_block_wider zero xs s = absurd s
  first_block_wider (suc d) xs s = first_wider d xs s

  member_block_wider : (d : ℕ) (x : JMemberHead) (xs : List JStatement) → member_block P d x xs → member_block Q d x xs
  member_block_wider d (head.Constructor mods n at formals throws) xs s = first_block_wider d xs s
  member_block_wider d head.Empty xs s = block_wider d xs s
  member_block_wider d (head.Field mods x) xs s = block_wider d xs s
  member_block_wider d (head.Method mods params result n at formals throws) xs s = block_wider d xs s
  member_block_wider d (head.Initializer static) xs s = block_wider d xs s

  constants_wider : (x : JTypeHead) (cs : Option JConstants) (xs : List JBody) → constants_stand P x cs xs → constants_stand Q x cs xs
  constants_wider (kind.Enum mods at n nat faces) (Some c) xs s = (s.0, head_wider 199 _ _ xs s.1)
  constants_wider (kind.Enum mods at n nat faces) None xs s = absurd s
  constants_wider (kind.Class mods at n nat params above faces) None xs s = s
  constants_wider (kind.Class mods at n nat params above faces) (Some c) xs s = absurd s
  constants_wider (kind.Interface mods at n nat params above) None xs s = s
  constants_wider (kind.Interface mods at n nat params above) (Some c) xs s = absurd s

  module _ (d : ℕ) where
    body_wider : (x : JBody-F JBody JMember JStatement JCase JCaseGroup JCatch) → body_stands P d x → body_stands Q d x
    body_wider (JBody-F.Statements xs) s = statements_wider d Role.Inner xs s
    body_wider (JBody-F.Members xs) s =
        all_wider (λ x. P (suc d) (Node.Member (Owner.Class None) x)) (λ x. Q (suc d) (Node.Member (Owner.Class None) x)) (λ x s. f (suc d) (Node.Member (Owner.Class None) x) s) xs s

    case_wider : (x : JCase-F JBody JMember JStatement JCase JCaseGroup JCatch) → case_stands P d x → case_stands Q d x
    case_wider x s = (s.0, head_wider d _ _ x.bodies s.1)

    group_wider : (x : JCaseGroup-F JBody JMember JStatement JCase JCaseGroup JCatch) → group_stands P d x → group_stands Q d x
    group_wider x s = (s.0, all_wider (λ y. P d (Node.Case y)) (λ y. Q d (Node.Case y)) (λ y t. f d (Node.Case y) t) x.labels s.1, statements_wider d Role.Inner x.statements s.2)

    catch_wider : (x : JCatch-F JBody JMember JStatement JCase JCaseGroup JCatch) → catch_stands P d x → catch_stands Q d x
    catch_wider x s = (s.0, block_wider d x.statements s.1)

    condition_wider : (x : JExpr) (xs : List JBody) → condition_stands P d x xs → condition_stands Q d x xs
    condition_wider x xs s = (s.0, head_wider d _ _ xs s.1)

    sole : (x : JStatement) → P d (Node.Statement Role.Sole x) → Q d (Node.Statement Role.Sole x)
    sole x s = f d (Node.Statement Role.Sole x) s

    catches : (xs : List JCatch) → AllByRecursion (λ x. catch_stands P d (out-JCatch x)) xs → AllByRecursion (λ x. catch_stands Q d (out-JCatch x)) xs
    catches xs all = all_wider (λ x. catch_stands P d (out-JCatch x)) (λ x. catch_stands Q d (out-JCatch x)) (λ x s. catch_wider (out-JCatch x) s) xs all

    statement_wider : (place : Role) (x : JStatement-F JBody JMember JStatement JCase JCaseGroup JCatch) → statement_stands P d place x → statement_stands Q d place x
    statement_wider place (JStatement-F.Simple x bodies end) s = (s.0, s.1, head_wider d _ _ bodies s.2)
    statement_wider place (JStatement-F.Block left xs right) s = statements_wider d Role.Inner xs s
    statement_wider place (JStatement-F.Labeled n at colon body) s = sole body s
    statement_wider place (JStatement-F.If at lp test bodies rp then_) s = (condition_wider test bodies s.0, sole then_ s.1)
    statement_wider place (JStatement-F.IfElse at lp test bodies rp then_ else_at else_) s = (condition_wider test bodies s.0, sole then_ s.1, s.2, sole else_ s.3)
    statement_wider place (JStatement-F.While at lp test bodies rp body) s = (condition_wider test bodies s.0, sole body s.1)
    statement_wider place (JStatement-F.Do at body while_at lp test bodies rp end) s = (sole body s.0, condition_wider test bodies s.1)
    statement_wider place (JStatement-F.For at lp head bodies rp body) s = (s.0, head_wider d _ _ bodies s.1, sole body s.2)
    statement_wider place (JStatement-F.Switch at lp subject bodies rp left groups right) s =
        (condition_wider subject bodies s.0, all_wider (λ x. group_stands P d (out-JCaseGroup x)) (λ x. group_stands Q d (out-JCaseGroup x)) (λ x t. group_wider (out-JCaseGroup x) t) groups s.1, s.2)
    statement_wider place (JStatement-F.Synchronized at lp lock bodies rp left xs right) s = (s.0, head_wider d _ _ bodies s.1, block_wider d xs s.2)
    statement_wider place (JStatement-F.Try at left xs right cs) s = (block_wider d xs s.0, s.1, catches cs s.2)
    statement_wider place (JStatement-F.TryFinally at left xs right cs finally_at last_left lasts last_right) s = (block_wider d xs s.0, catches cs s.1, block_wider d lasts s.2)

    member_wider : (owner : Owner) (x : JMember-F JBody JMember JStatement JCase JCaseGroup JCatch) → member_stands P d owner x → member_stands Q d owner x
    member_wider owner (JMember-F.Declared head bodies end) s = (s.0, s.1, head_wider d _ _ bodies s.2)
    member_wider owner (JMember-F.Bodied head left xs right) s = (s.0, s.1, member_block_wider d head xs s.2)
    member_wider owner (JMember-F.Type head left constants bodies members right) s =
        (s.0, s.1, constants_wider head constants bodies s.2, s.3, all_wider (λ x. P d (Node.Member (owner_of head) x)) (λ x. Q d (Node.Member (owner_of head) x)) (λ x t. f d (Node.Member (owner_of head) x) t) members s.4)

    node_wider : (x : Node) → node_stands P d x → node_stands Q d x
    node_wider (Node.Body x) s = body_wider (out-JBody x) s
    node_wider (Node.Case x) s = case_wider (out-JCase x) s
    node_wider (Node.Statement place x) s = statement_wider place (out-JStatement x) s
    node_wider (Node.Member owner x) s = member_wider owner (out-JMember x) s

more : (n d : ℕ) (x : Node) → NodeStands n d x → NodeStands (suc n) d x
unfolding NodeStands
more zero d x s = absurd s
more (suc n) zero x s = absurd s
more (suc n) (suc d) x s = node_wider (NodeStands n) (NodeStands (suc n)) (more n) d x s

by : (k n m d : ℕ) (x : Node) → k + n ≡ m → NodeStands n d x → NodeStands m d x
by zero n m d x e s = let same : n ≡ m = omega (arith, e) in subst (λ z. NodeStands z d x) same s
by (suc k) n m d x e s = let same : suc (k + n) ≡ m = omega (arith, e) in subst (λ z. NodeStands z d x) same (more (k + n) d x (by k n (k + n) d x refl s))

-- in at least as many
pub wider : (n m d : ℕ) (x : Node) → n ≤ m → NodeStands n d x → NodeStands m d x
wider n m d x h s = by (m - n) n m d x (omega (arith, h)) s
