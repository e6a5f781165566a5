-- Reading statements and members from the tokens of a file: the tree, and the tokens after it.
use Rattle.std.specs.Prelude.{ℕ, zero, suc, ◌-◌, Bool, true, false, not, if◌then◌else◌, List, [], ◌∷◌, ◌++◌, length, map, Option, Some, None}
use Rattle.java_tree.specs.declared.tokens.Position.{Position}
use Rattle.java_tree.specs.declared.tokens.Mark.TheVariants as m
use Rattle.java_tree.specs.declared.tokens.Keyword.{Keyword}
use Rattle.java_tree.specs.declared.tokens.Keyword.TheVariants as w
use Rattle.java_tree.specs.Seen.{Token, Tokens}
use Rattle.java_tree.specs.declared.exprs.JExpr.{JExpr}
use Rattle.java_tree.specs.Trees.{any_level, max_depth}
use Rattle.java_expr_grammar.specs.Reading.{Reader, ◌>>=◌, whole, open_round, close, colon, open_curly, typed_read, read}
use Rattle.java_statement_grammar.specs.Reading.{semicolon, simple_read, for_read, lock_read, switch_read}
use Rattle.java_member_grammar.specs.declared.homes.JHome.{JHome}
use Rattle.java_member_grammar.specs.declared.homes.JHome.TheVariants as home
use Rattle.java_member_grammar.specs.declared.heads.JMemberHead.{JMemberHead}
use Rattle.java_member_grammar.specs.declared.heads.JMemberHead.TheVariants as head
use Rattle.java_member_grammar.specs.declared.heads.JTypeHead.{JTypeHead}
use Rattle.java_member_grammar.specs.declared.heads.JTypeHead.TheVariants as kind
use Rattle.java_member_grammar.specs.declared.lines.JConstants.{JConstants}
use Rattle.java_member_grammar.specs.declared.lines.JPackage.{JPackage}
use Rattle.java_member_grammar.specs.declared.lines.JImport.{JImport}
use Rattle.java_member_grammar.specs.Modifiers.{type_fits}
use Rattle.java_member_grammar.specs.Reading.{before_semicolon, before_block, type_head, constants, package_line, import_line}
use Rattle.java_unit_grammar.specs.declared.statements.JBody.{JBody}
use Rattle.java_unit_grammar.specs.declared.statements.JBody.TheVariants as body
use Rattle.java_unit_grammar.specs.declared.statements.JCase.{JCase, roll-JCase}
use Rattle.java_unit_grammar.specs.declared.statements.JCaseGroup.{JCaseGroup, roll-JCaseGroup}
use Rattle.java_unit_grammar.specs.declared.statements.JCatch.{JCatch, roll-JCatch}
use Rattle.java_unit_grammar.specs.declared.statements.JMember.{JMember}
use Rattle.java_unit_grammar.specs.declared.statements.JMember.TheVariants as member
use Rattle.java_unit_grammar.specs.declared.statements.JStatement.{JStatement}
use Rattle.java_unit_grammar.specs.declared.statements.JStatement.TheVariants as st
use Rattle.java_unit_grammar.specs.Levels.{Levels, levels, simple_levels, for_levels, lock_levels, switch_levels, constants_levels}
use Rattle.java_unit_grammar.specs.Cutting.{Stop, cut}
use Rattle.java_unit_grammar.specs.Standing.{Role, may_stand, Owner, owner_of, home_of, member_fits, member_levels, top_levels, spans, steps}

-- ---- lists

abbrev pub close_curly : Reader Position
close_curly (Token.Sign m.CloseCurly at ∷ rest) = Some (at, rest)
close_curly _ = None

abbrev pub is_end : Tokens → Bool
is_end [] = true
is_end _ = false

abbrev pub begins_close : Tokens → Bool
begins_close (Token.Sign m.CloseCurly at ∷ rest) = true
begins_close _ = false

abbrev pub begins_case : Tokens → Bool
begins_case (Token.Word w.Case at ∷ rest) = true
begins_case (Token.Word w.Default at ∷ rest) = true
begins_case _ = false

abbrev pub begins_catch : Tokens → Bool
begins_catch (Token.Word w.Catch at ∷ rest) = true
begins_catch _ = false

abbrev pub no_case : Tokens → Bool
no_case ts = not (begins_case ts)

abbrev pub no_catch : Tokens → Bool
no_catch ts = not (begins_catch ts)

abbrev pub ends_group : Tokens → Bool
ends_group (Token.Word w.Case at ∷ rest) = true
ends_group (Token.Word w.Default at ∷ rest) = true
ends_group (Token.Sign m.CloseCurly at ∷ rest) = true
ends_group _ = false

-- items until what stops them comes, at most as many as the number says
unfoldable pub many : {A : Type 0} → (Tokens → Bool) → Reader A → ℕ → Reader (List A)
many stop item zero ts = if stop ts then Some ([], ts) else None
many stop item (suc n) ts = if stop ts then Some ([], ts) else (item ts >>= λ x. many stop item n x.1 >>= λ xs. Some (x.0 ∷ xs.0, xs.1))

abbrev pub until : {A : Type 0} → (Tokens → Bool) → Reader A → Reader (List A)
until stop item ts = many stop item (length ts) ts

-- in braces
pub record Braced (A : Type 0) : Type 0 where
  pub opens : Position
  pub items : List A
  pub closes : Position

unfoldable pub braced : {A : Type 0} → Reader (List A) → Reader (Braced A)
braced list ts = do
  lc ← open_curly ts
  xs ← list lc.1
  rc ← close_curly xs.1
  Some (record { opens = lc.0; items = xs.0; closes = rc.0 }, rc.1)

-- ---- readers at a depth, of which those of one step are made from those of a step less

pub record Readers : Type 0 where
  -- a body, where the flag says whether it is a block
  pub body : ℕ → Bool → Tokens → Option JBody
  pub label : ℕ → Reader JCase
  pub statement : ℕ → Role → Reader JStatement
  pub member : ℕ → Owner → Reader JMember

-- ---- heads with their bodies, where what holds them may be suc d deep

abbrev pub bodies_by : (ℕ → Bool → Tokens → Option JBody) → ℕ → Levels → List Bool → List Tokens → Option (List JBody)
bodies_by reads d ls ks [] = Some []
bodies_by reads d [] ks (t ∷ ts) = None
bodies_by reads d (l ∷ ls) [] (t ∷ ts) = None
bodies_by reads d (l ∷ ls) (k ∷ ks) (t ∷ ts) = reads (suc (suc d) - l) k t >>= λ x. bodies_by reads d ls ks ts >>= λ xs. Some (x ∷ xs)

pub record Headed (H : Type 0) : Type 0 where
  pub head : H
  pub bodies : List JBody

unfoldable pub head_read : {H : Type 0} → (ℕ → Bool → Tokens → Option JBody) → ℕ → Stop → (Tokens → Option H) → (H → Levels) → Reader (Headed H)
head_read reads d stop of levels ts = do
  c ← cut stop ts
  x ← of c.text
  xs ← bodies_by reads d (levels x) (spans c.text) c.bodies
  Some (record { head = x; bodies = xs }, c.rest)

-- in parentheses
pub record Rounded (H : Type 0) : Type 0 where
  pub opens : Position
  pub head : H
  pub bodies : List JBody
  pub closes : Position

unfoldable pub rounded : {H : Type 0} → (ℕ → Bool → Tokens → Option JBody) → ℕ → (Tokens → Option H) → (H → Levels) → Reader (Rounded H)
rounded reads d of levels ts = do
  lp ← open_round ts
  x ← head_read reads d Stop.Close of levels lp.1
  rp ← close x.1
  Some (record { opens = lp.0; head = x.0.head; bodies = x.0.bodies; closes = rp.0 }, rp.1)

abbrev pub condition_levels : JExpr → Levels
condition_levels x = map suc (levels x)

abbrev pub while_word : Reader Position
while_word (Token.Word w.While at ∷ rest) = Some (at, rest)
while_word _ = None

abbrev pub catch_word : Reader Position
catch_word (Token.Word w.Catch at ∷ rest) = Some (at, rest)
catch_word _ = None

abbrev pub before_curly : Tokens → Tokens × Tokens
before_curly [] = ([], [])
before_curly (Token.Sign m.OpenCurly at ∷ rest) = ([], Token.Sign m.OpenCurly at ∷ rest)
before_curly (x ∷ rest) = (x ∷ (before_curly rest).0, (before_curly rest).1)

-- whether a `;` or a `=` comes before the first `{`
abbrev pub goes_declared : Tokens → Bool
goes_declared [] = false
goes_declared (Token.Sign m.OpenCurly at ∷ rest) = false
goes_declared (Token.Sign m.Semicolon at ∷ rest) = true
goes_declared (Token.Sign m.Assign at ∷ rest) = true
goes_declared (x ∷ rest) = goes_declared rest

-- whether what declares a type comes behind modifiers
abbrev pub goes_type : Tokens → Bool
goes_type (Token.Sign m.At at ∷ Token.Id n p ∷ rest) = goes_type rest
goes_type (Token.Word w.Class at ∷ rest) = true
goes_type (Token.Word w.Interface at ∷ rest) = true
goes_type (Token.Word w.Enum at ∷ rest) = true
goes_type (Token.Word word at ∷ rest) = goes_type rest
goes_type _ = false

-- the `;` behind constants where it stands
abbrev pub constants_end : Tokens → Tokens × Tokens
constants_end (Token.Sign m.Semicolon at ∷ rest) = (Token.Sign m.Semicolon at ∷ [], rest)
constants_end ts = ([], ts)

-- what stands between the braces of a type
pub record Inside : Type 0 where
  pub constants : Option JConstants
  pub bodies : List JBody
  pub members : List JMember

abbrev pub members_behind : Option Position → Reader (List JMember) → Reader (List JMember)
members_behind None list ts = Some ([], ts)
members_behind (Some at) list ts = list ts

module _ (R : Readers) where
  -- ---- blocks

  abbrev pub inner_list : ℕ → Reader (List JStatement)
  inner_list d = until begins_close (R.statement d Role.Inner)

  unfoldable pub block : ℕ → Reader (Braced JStatement)
  block zero ts = None
  block (suc d) ts = braced (inner_list d) ts

  unfoldable pub first_list : ℕ → Reader (List JStatement)
  first_list d ts =
      if begins_close ts then Some ([], ts) else (R.statement d Role.First ts >>= λ x. inner_list d x.1 >>= λ xs. Some (x.0 ∷ xs.0, xs.1))

  unfoldable pub first_block : ℕ → Reader (Braced JStatement)
  first_block zero ts = None
  first_block (suc d) ts = braced (first_list d) ts

  -- ---- what is suc d deep at most

  module _ (d : ℕ) where
    unfoldable pub body_step : Bool → Tokens → Option JBody
    body_step true ts = whole (until is_end (R.statement d Role.Inner) ts) >>= λ xs. Some (body.Statements xs)
    body_step false ts = whole (until is_end (R.member (suc d) (Owner.Class None)) ts) >>= λ xs. Some (body.Members xs)

    unfoldable pub label_step : Reader JCase
    label_step ts = do
      c ← cut Stop.Colon ts
      end ← colon c.rest
      x ← switch_read (suc d) (c.text ++ Token.Sign m.Colon end.0 ∷ [])
      xs ← bodies_by R.body d (switch_levels x) (spans c.text) c.bodies
      Some (roll-JCase (record { label = x; bodies = xs }), end.1)

    abbrev pub condition : Reader (Rounded JExpr)
    condition = rounded R.body d (λ ts. whole (read d any_level ts)) condition_levels

    abbrev pub sole : Reader JStatement
    sole = R.statement d Role.Sole

    unfoldable pub simple : Role → Reader JStatement
    simple place ts = do
      x ← head_read R.body d Stop.Semicolon (simple_read d) simple_levels ts
      end ← semicolon x.1
      if may_stand place x.0.head then Some (st.Simple x.0.head x.0.bodies end.0, end.1) else None

    unfoldable pub block_statement : Reader JStatement
    block_statement ts = braced (inner_list d) ts >>= λ x. Some (st.Block x.0.opens x.0.items x.0.closes, x.1)

    unfoldable pub labeled : List ℕ → Position → Position → Reader JStatement
    labeled n at colon ts = sole ts >>= λ x. Some (st.Labeled n at colon x.0, x.1)

    unfoldable pub else_read : Position → Rounded JExpr → JStatement → Position → Reader JStatement
    else_read at x then_ else_at ts = sole ts >>= λ y. Some (st.IfElse at x.opens x.head x.bodies x.closes then_ else_at y.0, y.1)

    abbrev pub if_end : Position → Rounded JExpr → JStatement → Reader JStatement
    if_end at x then_ (Token.Word w.Else else_at ∷ rest) = else_read at x then_ else_at rest
    if_end at x then_ ts = Some (st.If at x.opens x.head x.bodies x.closes then_, ts)

    unfoldable pub if_read : Position → Reader JStatement
    if_read at ts = condition ts >>= λ x. sole x.1 >>= λ y. if_end at x.0 y.0 y.1

    unfoldable pub while_read : Position → Reader JStatement
    while_read at ts = condition ts >>= λ x. sole x.1 >>= λ y. Some (st.While at x.0.opens x.0.head x.0.bodies x.0.closes y.0, y.1)

    unfoldable pub do_read : Position → Reader JStatement
    do_read at ts = do
      y ← sole ts
      again ← while_word y.1
      x ← condition again.1
      end ← semicolon x.1
      Some (st.Do at y.0 again.0 x.0.opens x.0.head x.0.bodies x.0.closes end.0, end.1)

    unfoldable pub loop_read : Position → Reader JStatement
    loop_read at ts = rounded R.body d (for_read d) for_levels ts >>= λ x. sole x.1 >>= λ y. Some (st.For at x.0.opens x.0.head x.0.bodies x.0.closes y.0, y.1)

    -- at least one label
    unfoldable pub group_read : Reader JCaseGroup
    group_read ts =
        if begins_case ts then
        (until no_case (R.label d) ts >>= λ xs. until ends_group (R.statement d Role.Inner) xs.1 >>= λ ys.
        Some (roll-JCaseGroup (record { labels = xs.0; statements = ys.0 }), ys.1))
        else None

    unfoldable pub switch_statement : Position → Reader JStatement
    switch_statement at ts = do
      x ← condition ts
      groups ← braced (until begins_close group_read) x.1
      Some (st.Switch at x.0.opens x.0.head x.0.bodies x.0.closes groups.0.opens groups.0.items groups.0.closes, groups.1)

    unfoldable pub synchronized : Position → Reader JStatement
    synchronized at ts = do
      x ← rounded R.body d (lock_read d) lock_levels ts
      ys ← block d x.1
      Some (st.Synchronized at x.0.opens x.0.head x.0.bodies x.0.closes ys.0.opens ys.0.items ys.0.closes, ys.1)

    unfoldable pub catch_read : Reader JCatch
    catch_read ts = do
      at ← catch_word ts
      lp ← open_round at.1
      x ← typed_read (suc d) lp.1
      rp ← close x.1
      ys ← block d rp.1
      Some (roll-JCatch (record { at = at.0; opens = lp.0; caught = x.0; closes = rp.0; left = ys.0.opens; statements = ys.0.items; right = ys.0.closes }), ys.1)

    unfoldable pub finally_read : Position → Braced JStatement → List JCatch → Position → Reader JStatement
    finally_read at x catches last ts =
        block d ts >>= λ y. Some (st.TryFinally at x.opens x.items x.closes catches last y.0.opens y.0.items y.0.closes, y.1)

    -- A try has a catch or a `finally`.
    abbrev pub try_alone : Position → Braced JStatement → List JCatch → Reader JStatement
    try_alone at x [] ts = None
    try_alone at x catches ts = Some (st.Try at x.opens x.items x.closes catches, ts)

    abbrev pub try_end : Position → Braced JStatement → List JCatch → Reader JStatement
    try_end at x catches (Token.Word w.Finally last ∷ rest) = finally_read at x catches last rest
    try_end at x catches ts = try_alone at x catches ts

    unfoldable pub try_read : Position → Reader JStatement
    try_read at ts = block d ts >>= λ x. until no_catch catch_read x.1 >>= λ ys. try_end at x.0 ys.0 ys.1

    abbrev pub worded : Role → Keyword → Position → Reader JStatement
    worded place w.If at rest = if_read at rest
    worded place w.While at rest = while_read at rest
    worded place w.Do at rest = do_read at rest
    worded place w.For at rest = loop_read at rest
    worded place w.Switch at rest = switch_statement at rest
    worded place w.Synchronized at rest = synchronized at rest
    worded place w.Try at rest = try_read at rest
    worded place word at rest = simple place (Token.Word word at ∷ rest)

    abbrev pub statement_step : Role → Reader JStatement
    statement_step place (Token.Sign m.OpenCurly at ∷ rest) = block_statement (Token.Sign m.OpenCurly at ∷ rest)
    statement_step place (Token.Word word at ∷ rest) = worded place word at rest
    statement_step place (Token.Id n at ∷ Token.Sign m.Colon colon ∷ rest) = labeled n at colon rest
    statement_step place ts = simple place ts

  -- ---- members. Their types are d deep at most, their values less than e, and what holds them suc h.

  unfoldable pub declared : ℕ → ℕ → ℕ → (JMemberHead → Levels) → Owner → Reader JMember
  declared d e h levels owner ts = do
    x ← head_read R.body h Stop.Semicolon (before_semicolon d e) levels ts
    end ← semicolon x.1
    if member_fits owner false x.0.head then Some (member.Declared x.0.head x.0.bodies end.0, end.1) else None

  abbrev pub member_block : ℕ → JMemberHead → Reader (Braced JStatement)
  member_block h (head.Constructor mods n at formals throws) ts = first_block h ts
  member_block h _ ts = block h ts

  unfoldable pub bodied : ℕ → ℕ → ℕ → Owner → Reader JMember
  bodied d e h owner ts = do
    x ← before_block d e (before_curly ts).0
    ys ← member_block h x (before_curly ts).1
    if member_fits owner true x then Some (member.Bodied x ys.0.opens ys.0.items ys.0.closes, ys.1) else None

  unfoldable pub constants_list : Reader (Headed JConstants)
  constants_list ts = do
    c ← cut Stop.Constants ts
    x ← constants max_depth (c.text ++ (constants_end c.rest).0)
    xs ← bodies_by R.body 199 (constants_levels x) (spans c.text) c.bodies
    Some (record { head = x; bodies = xs }, (constants_end c.rest).1)

  unfoldable pub enum_inside : Reader (List JMember) → Reader Inside
  enum_inside list ts = do
    x ← constants_list ts
    ys ← members_behind x.0.head.end list x.1
    Some (record { constants = Some x.0.head; bodies = x.0.bodies; members = ys.0 }, ys.1)

  unfoldable pub plain_inside : Reader (List JMember) → Reader Inside
  plain_inside list ts = list ts >>= λ ys. Some (record { constants = None; bodies = []; members = ys.0 }, ys.1)

  abbrev pub inside : JTypeHead → Reader (List JMember) → Reader Inside
  inside (kind.Enum mods at n nat faces) list ts = enum_inside list ts
  inside _ list ts = plain_inside list ts

  unfoldable pub typed : ℕ → (Owner → Reader JMember) → JHome → Reader JMember
  typed d nested place ts = do
    x ← type_head d (before_curly ts).0
    lc ← open_curly (before_curly ts).1
    y ← inside x (until begins_close (nested (owner_of x))) lc.1
    rc ← close_curly y.1
    if type_fits place x then Some (member.Type x lc.0 y.0.constants y.0.bodies y.0.members rc.0, rc.1) else None

  unfoldable pub member_step : ℕ → Owner → Reader JMember
  member_step d owner ts =
      if goes_declared ts then declared d d d member_levels owner ts
      else (if goes_type ts then typed d (R.member d) (home_of owner) ts else bodied d d d owner ts)

  -- ---- a step

  abbrev pub body_at : ℕ → Bool → Tokens → Option JBody
  body_at zero is_block ts = None
  body_at (suc d) is_block ts = body_step d is_block ts

  abbrev pub label_at : ℕ → Reader JCase
  label_at zero ts = None
  label_at (suc d) ts = label_step d ts

  abbrev pub statement_at : ℕ → Role → Reader JStatement
  statement_at zero place ts = None
  statement_at (suc d) place ts = statement_step d place ts

  abbrev pub member_at : ℕ → Owner → Reader JMember
  member_at zero owner ts = None
  member_at (suc d) owner ts = member_step d owner ts

abbrev pub more_readers : Readers → Readers
more_readers R = record { body = body_at R; label = label_at R; statement = statement_at R; member = member_at R }

abbrev pub no_readers : Readers
no_readers = record { body = λ d is_block ts. None; label = λ d ts. None; statement = λ d place ts. None; member = λ d owner ts. None }

-- The number bounds the steps.
unfoldable pub readers : ℕ → Readers
readers zero = no_readers
readers (suc n) = more_readers (readers n)

unfoldable pub statement_read : ℕ → ℕ → Role → Reader JStatement
statement_read n d place = (readers n).statement d place

-- ---- members that stand in no expression, and units

unfoldable pub top_step : Readers → (Owner → Reader JMember) → Owner → Reader JMember
top_step R nested owner ts =
    if goes_declared ts then declared R max_depth (suc max_depth) 199 top_levels owner ts
    else (if goes_type ts then typed R max_depth nested (home_of owner) ts else bodied R max_depth (suc max_depth) max_depth owner ts)

unfoldable pub tops : ℕ → Owner → Reader JMember
tops zero owner ts = None
tops (suc n) owner ts = top_step (readers steps) (tops n) owner ts

-- a type at the top of a file, or a `;` there
unfoldable pub file_read : ℕ → Reader JMember
file_read n (Token.Sign m.Semicolon at ∷ rest) = Some (member.Declared head.Empty [] at, rest)
file_read n ts = typed (readers steps) max_depth (tops n) home.File ts

-- the tokens as far as the first `;`
abbrev pub line : Tokens → Tokens × Tokens
line [] = ([], [])
line (Token.Sign m.Semicolon at ∷ rest) = (Token.Sign m.Semicolon at ∷ [], rest)
line (x ∷ rest) = (x ∷ (line rest).0, (line rest).1)

abbrev pub begins_package : Tokens → Bool
begins_package (Token.Word w.Package at ∷ rest) = true
begins_package _ = false

abbrev pub begins_import : Tokens → Bool
begins_import (Token.Word w.Import at ∷ rest) = true
begins_import _ = false

abbrev pub no_import : Tokens → Bool
no_import ts = not (begins_import ts)

unfoldable pub package_read : Reader (Option JPackage)
package_read ts = if begins_package ts then (package_line (line ts).0 >>= λ x. Some (Some x, (line ts).1)) else Some (None, ts)

unfoldable pub import_read : Reader JImport
import_read ts = import_line (line ts).0 >>= λ x. Some (x, (line ts).1)

-- what a file declares
pub record Declared : Type 0 where
  pub within : Option JPackage
  pub imports : List JImport
  pub types : List JMember

unfoldable pub unit_read : ℕ → Tokens → Option Declared
unit_read n ts = do
  first ← package_read ts
  imports ← until no_import import_read first.1
  types ← whole (until is_end (file_read n) imports.1)
  Some (record { within = first.0; imports = imports.0; types = types })
