-- How many steps what stands at a depth takes at most: 3 for each level, and 602 for each time that depth begins anew.
use Rattle.std.proofs.Common.{◌≡◌, ◌≤◌, ◌<◌, ◌+◌, ◌-◌, ◌*◌, ℕ, zero, suc, max, List, [], ◌∷◌, map, Option, Some, None, ap, sym, ◌∙◌, arith}
use Rattle.std.specs.List.{AllByRecursion}
use Rattle.java_tree.specs.Seen.{Tokens}
use Rattle.java_tree.specs.declared.exprs.JExpr.{JExpr}
use Rattle.java_tree.specs.Trees.{deepest, max_depth}
use Rattle.java_member_grammar.specs.declared.heads.JMemberHead.{JMemberHead}
use Rattle.java_member_grammar.specs.declared.heads.JMemberHead.TheVariants as head
use Rattle.java_member_grammar.specs.declared.heads.JTypeHead.{JTypeHead}
use Rattle.java_member_grammar.specs.declared.heads.JTypeHead.TheVariants as kind
use Rattle.java_member_grammar.specs.declared.lines.JConstants.{JConstants}
use Rattle.java_unit_grammar.specs.declared.statements.JBody.{JBody, out-JBody, roll-JBody, roll-out-JBody, fold-roll-JBody}
use Rattle.java_unit_grammar.specs.declared.statements.JCase.{JCase, out-JCase, roll-out-JCase, fold-roll-JCase}
use Rattle.java_unit_grammar.specs.declared.statements.JCaseGroup.{JCaseGroup, out-JCaseGroup, roll-out-JCaseGroup, fold-JCaseGroup, fold-roll-JCaseGroup}
use Rattle.java_unit_grammar.specs.declared.statements.JCatch.{JCatch, out-JCatch, roll-out-JCatch, fold-JCatch, fold-roll-JCatch}
use Rattle.java_unit_grammar.specs.declared.statements.JMember.{JMember, out-JMember, roll-JMember, roll-out-JMember, fold-roll-JMember}
use Rattle.java_unit_grammar.specs.declared.statements.JStatement.{JStatement, out-JStatement, roll-JStatement, roll-out-JStatement, fold-roll-JStatement}
use Rattle.java_unit_grammar.specs.declared.statements.JBody.TheOpen.{JBody-F, JMember-F, JStatement-F}
use Rattle.java_unit_grammar.specs.Levels.{Levels, levels, constants_levels}
use Rattle.java_unit_grammar.specs.Restarts.{body_by, member_by, statement_by, case_by, group_by, catch_by, body_restarts, case_restarts, statement_restarts, member_restarts, restarts}
use Rattle.java_unit_grammar.specs.Standing.{Role, Owner, owner_of, Node, bodies_stand, HeadStands, all_stand, first_stand, block_stands, first_block_stands, member_block, constants_stand, body_stands, case_stands, group_stands, catch_stands, condition_stands, statement_stands, member_stands, node_stands, NodeStands, steps}
use Rattle.java_unit_grammar.proofs.Above.{Above, parts, simple_above, for_above, lock_above, switch_above, member_above, constants_above}

-- ---- restarts by the layer of a node

unfoldable group_restarts : JCaseGroup → ℕ
group_restarts = fold-JCaseGroup ℕ ℕ ℕ ℕ ℕ ℕ body_by member_by statement_by case_by group_by catch_by

unfoldable catch_restarts : JCatch → ℕ
catch_restarts = fold-JCatch ℕ ℕ ℕ ℕ ℕ ℕ body_by member_by statement_by case_by group_by catch_by

abbrev bodies_deep : List JBody → ℕ
bodies_deep xs = deepest (map body_restarts xs)

abbrev statements_deep : List JStatement → ℕ
statements_deep xs = deepest (map statement_restarts xs)

abbrev members_deep : List JMember → ℕ
members_deep xs = deepest (map member_restarts xs)

abbrev catches_deep : List JCatch → ℕ
catches_deep xs = deepest (map catch_restarts xs)

abbrev constants_deep : List JBody → ℕ
constants_deep xs = deepest (map suc (map body_restarts xs))

abbrev body_deep : JBody-F JBody JMember JStatement JCase JCaseGroup JCatch → ℕ
body_deep (JBody-F.Statements xs) = statements_deep xs
body_deep (JBody-F.Members xs) = members_deep xs

body_is : (x : JBody-F JBody JMember JStatement JCase JCaseGroup JCatch) → body_restarts (roll-JBody x) ≡ body_deep x
unfolding body_restarts case_restarts statement_restarts member_restarts group_restarts catch_restarts
body_is (JBody-F.Statements xs) = fold-roll-JBody ℕ ℕ ℕ ℕ ℕ ℕ body_by member_by statement_by case_by group_by catch_by (JBody-F.Statements xs)
body_is (JBody-F.Members xs) = fold-roll-JBody ℕ ℕ ℕ ℕ ℕ ℕ body_by member_by statement_by case_by group_by catch_by (JBody-F.Members xs)

abbrev member_deep : JMember-F JBody JMember JStatement JCase JCaseGroup JCatch → ℕ
member_deep (JMember-F.Declared head bodies end) = bodies_deep bodies
member_deep (JMember-F.Bodied head left xs right) = statements_deep xs
member_deep (JMember-F.Type head left constants bodies members right) = max (constants_deep bodies) (members_deep members)

member_is : (x : JMember-F JBody JMember JStatement JCase JCaseGroup JCatch) → member_restarts (roll-JMember x) ≡ member_deep x
unfolding body_restarts case_restarts statement_restarts member_restarts group_restarts catch_restarts
member_is (JMember-F.Declared head bodies end) = fold-roll-JMember ℕ ℕ ℕ ℕ ℕ ℕ body_by member_by statement_by case_by group_by catch_by (JMember-F.Declared head bodies end)
member_is (JMember-F.Bodied head left xs right) = fold-roll-JMember ℕ ℕ ℕ ℕ ℕ ℕ body_by member_by statement_by case_by group_by catch_by (JMember-F.Bodied head left xs right)
member_is (JMember-F.Type head left constants bodies members right) = fold-roll-JMember ℕ ℕ ℕ ℕ ℕ ℕ body_by member_by statement_by case_by group_by catch_by (JMember-F.Type head left constants bodies members right)

abbrev statement_deep : JStatement-F JBody JMember JStatement JCase JCaseGroup JCatch → ℕ
statement_deep (JStatement-F.Simple x bodies end) = bodies_deep bodies
statement_deep (JStatement-F.Block left xs right) = statements_deep xs
statement_deep (JStatement-F.Labeled n at colon body) = statement_restarts body
statement_deep (JStatement-F.If at lp test bodies rp then_) = max (bodies_deep bodies) (statement_restarts then_)
statement_deep (JStatement-F.IfElse at lp test bodies rp then_ else_at else_) = max (bodies_deep bodies) (max (statement_restarts then_) (statement_restarts else_))
statement_deep (JStatement-F.While at lp test bodies rp body) = max (bodies_deep bodies) (statement_restarts body)
statement_deep (JStatement-F.Do at body while_at lp test bodies rp end) = max (statement_restarts body) (bodies_deep bodies)
statement_deep (JStatement-F.For at lp head bodies rp body) = max (bodies_deep bodies) (statement_restarts body)
statement_deep (JStatement-F.Switch at lp subject bodies rp left groups right) = max (bodies_deep bodies) (deepest (map group_restarts groups))
statement_deep (JStatement-F.Synchronized at lp lock bodies rp left xs right) = max (bodies_deep bodies) (statements_deep xs)
statement_deep (JStatement-F.Try at left xs right catches) = max (statements_deep xs) (catches_deep catches)
statement_deep (JStatement-F.TryFinally at left xs right catches finally_at last_left lasts last_right) = max (statements_deep xs) (max (catches_deep catches) (statements_deep lasts))

statement_is : (x : JStatement-F JBody JMember JStatement JCase JCaseGroup JCatch) → statement_restarts (roll-JStatement x) ≡ statement_deep x
unfolding body_restarts case_restarts statement_restarts member_restarts group_restarts catch_restarts
statement_is (JStatement-F.Simple x bodies end) = fold-roll-JStatement ℕ ℕ ℕ ℕ ℕ ℕ body_by member_by statement_by case_by group_by catch_by (JStatement-F.Simple x bodies end)
statement_is (JStatement-F.Block left xs right) = fold-roll-JStatement ℕ ℕ ℕ ℕ ℕ ℕ body_by member_by statement_by case_by group_by catch_by (JStatement-F.Block left xs right)
statement_is (JStatement-F.Labeled n at colon body) = fold-roll-JStatement ℕ ℕ ℕ ℕ ℕ ℕ body_by member_by statement_by case_by group_by catch_by (JStatement-F.Labeled n at colon body)
statement_is (JStatement-F.If at lp test bodies rp then_) = fold-roll-JStatement ℕ ℕ ℕ ℕ ℕ ℕ body_by member_by statement_by case_by group_by catch_by (JStatement-F.If at lp test bodies rp then_)
statement_is (JStatement-F.IfElse at lp test bodies rp then_ else_at else_) = fold-roll-JStatement ℕ ℕ ℕ ℕ ℕ ℕ body_by member_by statement_by case_by group_by catch_by (JStatement-F.IfElse at lp test bodies rp then_ else_at else_)
statement_is (JStatement-F.While at lp test bodies rp body) = fold-roll-JStatement ℕ ℕ ℕ ℕ ℕ ℕ body_by member_by statement_by case_by group_by catch_by (JStatement-F.While at lp test bodies rp body)
statement_is (JStatement-F.Do at body while_at lp test bodies rp end) = fold-roll-JStatement ℕ ℕ ℕ ℕ ℕ ℕ body_by member_by statement_by case_by group_by catch_by (JStatement-F.Do at body while_at lp test bodies rp end)
statement_is (JStatement-F.For at lp head bodies rp body) = fold-roll-JStatement ℕ ℕ ℕ ℕ ℕ ℕ body_by member_by statement_by case_by group_by catch_by (JStatement-F.For at lp head bodies rp body)
statement_is (JStatement-F.Switch at lp subject bodies rp left groups right) = fold-roll-JStatement ℕ ℕ ℕ ℕ ℕ ℕ body_by member_by statement_by case_by group_by catch_by (JStatement-F.Switch at lp subject bodies rp left groups right)
statement_is (JStatement-F.Synchronized at lp lock bodies rp left xs right) = fold-roll-JStatement ℕ ℕ ℕ ℕ ℕ ℕ body_by member_by statement_by case_by group_by catch_by (JStatement-F.Synchronized at lp lock bodies rp left xs right)
statement_is (JStatement-F.Try at left xs right catches) = fold-roll-JStatement ℕ ℕ ℕ ℕ ℕ ℕ body_by member_by statement_by case_by group_by catch_by (JStatement-F.Try at left xs right catches)
statement_is (JStatement-F.TryFinally at left xs right catches finally_at last_left lasts last_right) = fold-roll-JStatement ℕ ℕ ℕ ℕ ℕ ℕ body_by member_by statement_by case_by group_by catch_by (JStatement-F.TryFinally at left xs right catches finally_at last_left lasts last_right)

case_is : (x : JCase) → case_restarts x ≡ bodies_deep (out-JCase x).bodies
unfolding body_restarts case_restarts statement_restarts member_restarts group_restarts catch_restarts
case_is x = ap case_restarts (sym (roll-out-JCase x)) ∙ fold-roll-JCase ℕ ℕ ℕ ℕ ℕ ℕ body_by member_by statement_by case_by group_by catch_by (out-JCase x)

group_is : (x : JCaseGroup) → group_restarts x ≡ max (deepest (map case_restarts (out-JCaseGroup x).labels)) (statements_deep (out-JCaseGroup x).statements)
unfolding body_restarts case_restarts statement_restarts member_restarts group_restarts catch_restarts
group_is x = ap group_restarts (sym (roll-out-JCaseGroup x)) ∙ fold-roll-JCaseGroup ℕ ℕ ℕ ℕ ℕ ℕ body_by member_by statement_by case_by group_by catch_by (out-JCaseGroup x)

catch_is : (x : JCatch) → catch_restarts x ≡ statements_deep (out-JCatch x).statements
unfolding body_restarts case_restarts statement_restarts member_restarts group_restarts catch_restarts
catch_is x = ap catch_restarts (sym (roll-out-JCatch x)) ∙ fold-roll-JCatch ℕ ℕ ℕ ℕ ℕ ℕ body_by member_by statement_by case_by group_by catch_by (out-JCatch x)

-- ---- the steps that a node takes at a depth

abbrev height : ℕ → Node → ℕ
height d (Node.Body x) = 3 * d + 1
height d (Node.Case x) = 3 * d + 2
height d (Node.Statement place x) = 3 * d + 2
height d (Node.Member owner x) = 3 * d

abbrev need : ℕ → Node → ℕ
need d x = 602 * restarts x + height d x

-- the items of a list, each with at most c restarts
each : {A : Type 0} (P Q : A → Type 0) (of : A → ℕ) (c : ℕ) → ((x : A) → of x ≤ c → P x → Q x) → (xs : List A) → deepest (map of xs) ≤ c → AllByRecursion P xs → AllByRecursion Q xs
each P Q of c f [] h all = tt
each P Q of c f (x ∷ xs) h all =
    let first : of x ≤ c = omega (arith, h) in
    let others : deepest (map of xs) ≤ c = omega (arith, h) in
    (f x first all.0, each P Q of c f xs others all.1)

lower : (ns : List ℕ) (c : ℕ) → deepest (map suc ns) ≤ suc c → deepest ns ≤ c
lower [] c h = omega arith
lower (n ∷ ns) c h =
    let first : n ≤ c = omega (arith, h) in
    let others : deepest (map suc ns) ≤ suc c = omega (arith, h) in
    let more = lower ns c others in
    omega (arith, first, more)

-- ---- what takes fewer than k steps by the one stands by the other

module _ (P Q : ℕ → Node → Type 0) (k : ℕ) (f : (d : ℕ) (x : Node) → need d x < k → d ≤ 200 → P d x → Q d x) where
  -- bodies at a level of at least m
  bodies : (d m c : ℕ) (ls : Levels) (xs : List JBody) → AllByRecursion (λ l. m ≤ l) ls → bodies_deep xs ≤ c → 602 * c + (3 * (suc (suc d) - m) + 1) < k → suc (suc d) - m ≤ 200
      → bodies_stand P d ls xs → bodies_stand Q d ls xs
  bodies d m c ls [] above h room low s = tt
  bodies d m c [] (x ∷ xs) above h room low s = absurd s
  bodies d m c (l ∷ ls) (x ∷ xs) above h room low s =
      let at = above.0 in
      let first : body_restarts x ≤ c = omega (arith, h) in
      let others : bodies_deep xs ≤ c = omega (arith, h) in
      let depth : suc (suc d) - l ≤ suc (suc d) - m = omega (arith, at) in
      (f (suc (suc d) - l) (Node.Body x) (omega (arith, first, depth, room)) (omega (arith, depth, low)) s.0, bodies d m c ls xs above.1 others room low s.1)

  head_at : (d m c : ℕ) (text : Tokens) (ls : Levels) (xs : List JBody) → Above m ls → bodies_deep xs ≤ c → 602 * c + (3 * (suc (suc d) - m) + 1) < k → suc (suc d) - m ≤ 200
      → HeadStands P d text ls xs → HeadStands Q d text ls xs
  head_at d m c text ls xs above h room low s = record { are = s.are; stand = bodies d m c ls xs above.each h room low s.stand }

  constant_bodies : (c : ℕ) (ls : Levels) (xs : List JBody) → Above 1 ls → constants_deep xs ≤ c → 602 * c ≤ k → bodies_stand P 199 ls xs → bodies_stand Q 199 ls xs
  constant_bodies c ls [] above h room s = tt
  constant_bodies zero ls (x ∷ xs) above h room s = absurd (omega (arith, h))
  constant_bodies (suc c) ls (x ∷ xs) above h room s =
      bodies 199 1 c ls (x ∷ xs) above.each (lower (map body_restarts (x ∷ xs)) c h) (omega (arith, room)) (omega arith) s

  constants_at : (c : ℕ) (x : JTypeHead) (cs : Option JConstants) (xs : List JBody) → constants_deep xs ≤ c → 602 * c ≤ k → constants_stand P x cs xs → constants_stand Q x cs xs
  constants_at c (kind.Enum mods at n nat faces) (Some y) xs h room s = (s.0, record { are = s.1.are; stand = constant_bodies c (constants_levels y) xs (constants_above y) h room s.1.stand })
  constants_at c (kind.Enum mods at n nat faces) None xs h room s = absurd s
  constants_at c (kind.Class mods at n nat params above faces) None xs h room s = s
  constants_at c (kind.Class mods at n nat params above faces) (Some y) xs h room s = absurd s
  constants_at c (kind.Interface mods at n nat params above) None xs h room s = s
  constants_at c (kind.Interface mods at n nat params above) (Some y) xs h room s = absurd s

  -- ---- lists

  members : (d c : ℕ) (owner : Owner) (xs : List JMember) → members_deep xs ≤ c → 602 * c + 3 * d < k → d ≤ 200
      → AllByRecursion (λ x. P d (Node.Member owner x)) xs → AllByRecursion (λ x. Q d (Node.Member owner x)) xs
  members d c owner xs h room low s =
      each (λ x. P d (Node.Member owner x)) (λ x. Q d (Node.Member owner x)) member_restarts c (λ x t. f d (Node.Member owner x) (omega (arith, t, room)) low) xs h s

  module _ (d c : ℕ) (room : 602 * c + (3 * d + 2) < k) (low : d ≤ 200) where
    statement : (place : Role) (x : JStatement) → statement_restarts x ≤ c → P d (Node.Statement place x) → Q d (Node.Statement place x)
    statement place x h s = f d (Node.Statement place x) (omega (arith, h, room)) low s

    statements : (place : Role) (xs : List JStatement) → statements_deep xs ≤ c → all_stand P d place xs → all_stand Q d place xs
    statements place xs h s = each (λ x. P d (Node.Statement place x)) (λ x. Q d (Node.Statement place x)) statement_restarts c (statement place) xs h s

    first_statements : (xs : List JStatement) → statements_deep xs ≤ c → first_stand P d xs → first_stand Q d xs
    first_statements [] h s = tt
    first_statements (x ∷ xs) h s =
        let first : statement_restarts x ≤ c = omega (arith, h) in
        let others : statements_deep xs ≤ c = omega (arith, h) in
        (statement Role.First x first s.0, statements Role.Inner xs others s.1)

  block : (d c : ℕ) (xs : List JStatement) → statements_deep xs ≤ c → 602 * c + (3 * d + 2) < k → d ≤ 200 → block_stands P d xs → block_stands Q d xs
  block zero c xs h room low s = absurd s
  block (suc d) c xs h room low s = statements d c (omega (arith, room)) (omega (arith, low)) Role.Inner xs h s

  first_block : (d c : ℕ) (xs : List JStatement) → statements_deep xs ≤ c → 602 * c + (3 * d + 2) < k → d ≤ 200 → first_block_stands P d xs → first_block_stands Q d xs
  first_block zero c xs h room low s = absurd s
  first_block (suc d) c xs h room low s = first_statements d c (omega (arith, room)) (omega (arith, low)) xs h s

  block_of : (d c : ℕ) (x : JMemberHead) (xs : List JStatement) → statements_deep xs ≤ c → 602 * c + (3 * d + 2) < k → d ≤ 200 → member_block P d x xs → member_block Q d x xs
  block_of d c (head.Constructor mods n at formals throws) xs h room low s = first_block d c xs h room low s
  block_of d c head.Empty xs h room low s = block d c xs h room low s
  block_of d c (head.Field mods x) xs h room low s = block d c xs h room low s
  block_of d c (head.Method mods params result n at formals throws) xs h room low s = block d c xs h room low s
  block_of d c (head.Initializer static) xs h room low s = block d c xs h room low s

  -- ---- what is suc d deep at most, with c restarts at most

  body_at : (d c : ℕ) (x : JBody-F JBody JMember JStatement JCase JCaseGroup JCatch) → body_deep x ≤ c → 602 * c + (3 * suc d + 1) ≤ k → suc d ≤ 200 → body_stands P d x → body_stands Q d x
  body_at d c (JBody-F.Statements xs) h room low s = statements d c (omega (arith, room)) (omega (arith, low)) Role.Inner xs h s
  body_at d c (JBody-F.Members xs) h room low s = members (suc d) c (Owner.Class None) xs h (omega (arith, room)) low s

  member_at : (d c : ℕ) (owner : Owner) (x : JMember-F JBody JMember JStatement JCase JCaseGroup JCatch) → member_deep x ≤ c → 602 * c + 3 * suc d ≤ k → suc d ≤ 200 → member_stands P d owner x → member_stands Q d owner x
  member_at d c owner (JMember-F.Declared head bodies end) h room low s =
      (s.0, s.1, head_at d 2 c _ _ bodies (member_above head) h (omega (arith, room)) (omega (arith, low)) s.2)
  member_at d c owner (JMember-F.Bodied head left xs right) h room low s = (s.0, s.1, block_of d c head xs h (omega (arith, room)) (omega (arith, low)) s.2)
  member_at d c owner (JMember-F.Type head left constants bodies xs right) h room low s =
      let here : constants_deep bodies ≤ c = omega (arith, h) in
      let inner : members_deep xs ≤ c = omega (arith, h) in
      (s.0, s.1, constants_at c head constants bodies here (omega (arith, room)) s.2, s.3, members d c (owner_of head) xs inner (omega (arith, room)) (omega (arith, low)) s.4)

  module _ (d c : ℕ) (room : 602 * c + (3 * suc d + 2) ≤ k) (low : suc d ≤ 200) where
    abbrev inner_room : 602 * c + (3 * d + 2) < k
    inner_room = omega (arith, room)

    abbrev inner_low : d ≤ 200
    inner_low = omega (arith, low)

    head_of : (text : Tokens) (ls : Levels) (xs : List JBody) → Above 1 ls → bodies_deep xs ≤ c → HeadStands P d text ls xs → HeadStands Q d text ls xs
    head_of text ls xs above h s = head_at d 1 c text ls xs above h (omega (arith, room)) (omega (arith, low)) s

    condition : (x : JExpr) (xs : List JBody) → bodies_deep xs ≤ c → condition_stands P d x xs → condition_stands Q d x xs
    condition x xs h s = (s.0, head_of _ _ xs (parts (levels x)) h s.1)

    sole : (x : JStatement) → statement_restarts x ≤ c → P d (Node.Statement Role.Sole x) → Q d (Node.Statement Role.Sole x)
    sole x h s = statement d c inner_room inner_low Role.Sole x h s

    block_at : (xs : List JStatement) → statements_deep xs ≤ c → block_stands P d xs → block_stands Q d xs
    block_at xs h s = block d c xs h inner_room inner_low s

    case_at : (x : JCase) → case_restarts x ≤ c → case_stands P d (out-JCase x) → case_stands Q d (out-JCase x)
    case_at x h s = let e = case_is x in (s.0, head_of _ _ (out-JCase x).bodies (switch_above (out-JCase x).label) (omega (arith, e, h)) s.1)

    label : (x : JCase) → case_restarts x ≤ c → P d (Node.Case x) → Q d (Node.Case x)
    label x h s = f d (Node.Case x) (omega (arith, h, room)) inner_low s

    group : (x : JCaseGroup) → group_restarts x ≤ c → group_stands P d (out-JCaseGroup x) → group_stands Q d (out-JCaseGroup x)
    group x h s =
        let e = group_is x in (
          s.0,
          each (λ y. P d (Node.Case y)) (λ y. Q d (Node.Case y)) case_restarts c label (out-JCaseGroup x).labels (omega (arith, e, h)) s.1,
          statements d c inner_room inner_low Role.Inner (out-JCaseGroup x).statements (omega (arith, e, h)) s.2,
        )

    caught : (x : JCatch) → catch_restarts x ≤ c → catch_stands P d (out-JCatch x) → catch_stands Q d (out-JCatch x)
    caught x h s = let e = catch_is x in (s.0, block_at (out-JCatch x).statements (omega (arith, e, h)) s.1)

    catches : (xs : List JCatch) → catches_deep xs ≤ c → AllByRecursion (λ x. catch_stands P d (out-JCatch x)) xs → AllByRecursion (λ x. catch_stands Q d (out-JCatch x)) xs
    catches xs h s = each (λ x. catch_stands P d (out-JCatch x)) (λ x. catch_stands Q d (out-JCatch x)) catch_restarts c caught xs h s

    groups_at : (xs : List JCaseGroup) → deepest (map group_restarts xs) ≤ c → AllByRecursion (λ x. group_stands P d (out-JCaseGroup x)) xs → AllByRecursion (λ x. group_stands Q d (out-JCaseGroup x)) xs
    groups_at xs h s = each (λ x. group_stands P d (out-JCaseGroup x)) (λ x. group_stands Q d (out-JCaseGroup x)) group_restarts c group xs h s

    statement_at : (place : Role) (x : JStatement-F JBody JMember JStatement JCase JCaseGroup JCatch) → statement_deep x ≤ c → statement_stands P d place x → statement_stands Q d place x
    statement_at place (JStatement-F.Simple x bodies end) h s = (s.0, s.1, head_of _ _ bodies (simple_above x) h s.2)
    statement_at place (JStatement-F.Block left xs right) h s = statements d c inner_room inner_low Role.Inner xs h s
    statement_at place (JStatement-F.Labeled n at colon body) h s = sole body h s
    statement_at place (JStatement-F.If at lp test bodies rp then_) h s = (condition test bodies (omega (arith, h)) s.0, sole then_ (omega (arith, h)) s.1)
    statement_at place (JStatement-F.IfElse at lp test bodies rp then_ else_at else_) h s =
        (condition test bodies (omega (arith, h)) s.0, sole then_ (omega (arith, h)) s.1, s.2, sole else_ (omega (arith, h)) s.3)
    statement_at place (JStatement-F.While at lp test bodies rp body) h s = (condition test bodies (omega (arith, h)) s.0, sole body (omega (arith, h)) s.1)
    statement_at place (JStatement-F.Do at body while_at lp test bodies rp end) h s = (sole body (omega (arith, h)) s.0, condition test bodies (omega (arith, h)) s.1)
    statement_at place (JStatement-F.For at lp head bodies rp body) h s = (s.0, head_of _ _ bodies (for_above head) (omega (arith, h)) s.1, sole body (omega (arith, h)) s.2)
    statement_at place (JStatement-F.Switch at lp subject bodies rp left groups right) h s = (condition subject bodies (omega (arith, h)) s.0, groups_at groups (omega (arith, h)) s.1, s.2)
    statement_at place (JStatement-F.Synchronized at lp lock bodies rp left xs right) h s = (s.0, head_of _ _ bodies (lock_above lock) (omega (arith, h)) s.1, block_at xs (omega (arith, h)) s.2)
    statement_at place (JStatement-F.Try at left xs right cs) h s = (block_at xs (omega (arith, h)) s.0, s.1, catches cs (omega (arith, h)) s.2)
    statement_at place (JStatement-F.TryFinally at left xs right cs finally_at last_left lasts last_right) h s =
        (block_at xs (omega (arith, h)) s.0, catches cs (omega (arith, h)) s.1, block_at lasts (omega (arith, h)) s.2)

  node : (d : ℕ) (x : Node) → need (suc d) x ≤ k → suc d ≤ 200 → node_stands P d x → node_stands Q d x
  node d (Node.Body x) room low s =
      let e = ap body_restarts (roll-out-JBody x) in
      let i = body_is (out-JBody x) in
      body_at d (body_restarts x) (out-JBody x) (omega (arith, e, i)) room low s
  node d (Node.Case x) room low s = case_at d (case_restarts x) room low x (omega arith) s
  node d (Node.Statement place x) room low s =
      let e = ap statement_restarts (roll-out-JStatement x) in
      let i = statement_is (out-JStatement x) in
      statement_at d (statement_restarts x) room low place (out-JStatement x) (omega (arith, e, i)) s
  node d (Node.Member owner x) room low s =
      let e = ap member_restarts (roll-out-JMember x) in
      let i = member_is (out-JMember x) in
      member_at d (member_restarts x) owner (out-JMember x) (omega (arith, e, i)) room low s

needs_some : (d : ℕ) (x : Node) → 1 ≤ need (suc d) x
needs_some d (Node.Body x) = omega arith
needs_some d (Node.Case x) = omega arith
needs_some d (Node.Statement place x) = omega arith
needs_some d (Node.Member owner x) = omega arith

within : (n k d : ℕ) (x : Node) → NodeStands n d x → need d x ≤ k → d ≤ 200 → NodeStands k d x
unfolding NodeStands
within zero k d x s h low = absurd s
within (suc n) k zero x s h low = absurd s
within (suc n) zero (suc d) x s h low = let some = needs_some d x in absurd (omega (arith, some, h))
within (suc n) (suc k) (suc d) x s h low =
    node (NodeStands n) (NodeStands k) (suc k) (λ e y room l t. within n k e y t (omega (arith, room)) l) d x h low s

needs_most : (d e : ℕ) (x : Node) → d ≤ 200 → restarts x ≤ e → need d x ≤ 602 * suc e
needs_most d e (Node.Body x) low h = omega (arith, low, h)
needs_most d e (Node.Case x) low h = omega (arith, low, h)
needs_most d e (Node.Statement place x) low h = omega (arith, low, h)
needs_most d e (Node.Member owner x) low h = omega (arith, low, h)

pub enough : (n d e : ℕ) (x : Node) → d ≤ max_depth → restarts x ≤ e → NodeStands n d x → NodeStands (602 * suc e) d x
enough n d e x low h s = within n (602 * suc e) d x s (needs_most d e x low h) low

-- where depth begins nowhere anew
pub enough_once : (n d : ℕ) (x : Node) → d ≤ max_depth → restarts x ≡ 0 → NodeStands n d x → NodeStands steps d x
unfolding steps
enough_once n d x low h s = within n 602 d x s (needs_most d 0 x low (omega (arith, h))) low
