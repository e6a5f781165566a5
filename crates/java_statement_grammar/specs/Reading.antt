-- Reading the heads of statements from lists of tokens, in which bodies count as one with the token before them.
use Rattle.std.specs.Prelude.{ℕ, zero, suc, Bool, true, false, if◌then◌else◌, [], ◌∷◌, Option, Some, None}
use Rattle.java_tree.specs.declared.tokens.Position.{Position}
use Rattle.java_tree.specs.declared.tokens.Mark.TheVariants as m
use Rattle.java_tree.specs.declared.tokens.Keyword.{Keyword}
use Rattle.java_tree.specs.declared.tokens.Keyword.TheVariants as w
use Rattle.java_tree.specs.Seen.{Token, Tokens}
use Rattle.java_tree.specs.declared.types.JType.{JType}
use Rattle.java_tree.specs.declared.types.JQualified.{JQualified}
use Rattle.java_tree.specs.declared.exprs.JExpr.{JExpr}
use Rattle.java_tree.specs.Trees.{init_level, any_level}
use Rattle.java_expr_grammar.specs.Reading.{Reader, Listed, ◌>>=◌, maybe, whole, is_some, comma, close, colon, ident, dotted, qualified, primitive_by, type_read, base_read, typed_read, some_by, args_from, read}
use Rattle.java_statement_grammar.specs.declared.declarations.JValue.{JValue}
use Rattle.java_statement_grammar.specs.declared.declarations.JDeclarator.{JDeclarator}
use Rattle.java_statement_grammar.specs.declared.declarations.JDeclaration.{JDeclaration}
use Rattle.java_statement_grammar.specs.declared.statements.JLabelName.{JLabelName}
use Rattle.java_statement_grammar.specs.declared.statements.JSimple.{JSimple}
use Rattle.java_statement_grammar.specs.declared.statements.JSimple.TheVariants as simple
use Rattle.java_statement_grammar.specs.declared.statements.JForStart.{JForStart}
use Rattle.java_statement_grammar.specs.declared.statements.JForStart.TheVariants as start
use Rattle.java_statement_grammar.specs.declared.statements.JForHead.{JForHead}
use Rattle.java_statement_grammar.specs.declared.statements.JForHead.TheVariants as for
use Rattle.java_statement_grammar.specs.declared.statements.JLock.{JLock}
use Rattle.java_statement_grammar.specs.declared.statements.JLock.TheVariants as lock
use Rattle.java_statement_grammar.specs.declared.statements.JSwitchLabel.{JSwitchLabel}
use Rattle.java_statement_grammar.specs.declared.statements.JSwitchLabel.TheVariants as label
use Rattle.java_statement_grammar.specs.Heads.{is_statement}

-- ---- which comes first. No statement that is an expression begins with a name with dots and then a name, `<` or `[` `]`.

abbrev pub declares : Tokens → Bool
declares (Token.Id n at ∷ rest) = true
declares (Token.Sign m.Less at ∷ rest) = true
declares (Token.Sign m.OpenSquare o ∷ Token.Sign m.CloseSquare c ∷ rest) = true
declares _ = false

abbrev pub word_declares : Keyword → Bool
word_declares w.Final = true
word_declares word = is_some (primitive_by word)

-- whether a declaration comes first
abbrev pub begins_declaration : Tokens → Bool
begins_declaration (Token.Word word at ∷ rest) = word_declares word
begins_declaration (Token.Id n at ∷ rest) = declares (dotted rest).1
begins_declaration _ = false

abbrev pub semicolon : Reader Position
semicolon (Token.Sign m.Semicolon at ∷ rest) = Some (at, rest)
semicolon _ = None

-- ---- declarations

abbrev pub value_by : ℕ → Reader (Option JValue)
value_by d (Token.Sign m.Assign at ∷ rest) = read d init_level rest >>= λ x. Some (Some (record { at = at; tree = x.0 }), x.1)
value_by d ts = Some (None, ts)

-- a declarator with a depth of at most the number
unfoldable pub declarator_read : ℕ → Reader JDeclarator
declarator_read zero ts = None
declarator_read (suc d) ts = do
  n ← ident ts
  value ← value_by d n.1
  Some (record { name = n.0.name; at = n.0.at; value = value.0 }, value.1)

unfoldable pub declaration_of : ℕ → Option Position → JType → Reader JDeclaration
declaration_of d is_final kind ts = do
  names ← some_by comma (declarator_read d) ts
  Some (record { is_final = is_final; kind = kind; names = names.0.0; commas = names.0.1 }, names.1)

abbrev pub final_first : Tokens → Option Position × Tokens
final_first (Token.Word w.Final at ∷ rest) = (Some at, rest)
final_first ts = (None, ts)

unfoldable pub declaration_read : ℕ → Reader JDeclaration
declaration_read d ts = type_read d (final_first ts).1 >>= λ kind. declaration_of d (final_first ts).0 kind.0 kind.1

-- ---- what stands before a `;`

-- one that may be a statement
unfoldable pub statement_read : ℕ → Reader JExpr
statement_read d ts = read d any_level ts >>= λ x. (if is_statement x.0 then Some x else None)

unfoldable pub expression : ℕ → Tokens → Option JSimple
expression d ts = whole (statement_read d ts) >>= λ x. Some (simple.Expression x)

unfoldable pub declaration : ℕ → Tokens → Option JSimple
declaration d ts = whole (declaration_read d ts) >>= λ x. Some (simple.Declaration x)

abbrev pub plain : ℕ → Tokens → Option JSimple
plain d ts = if begins_declaration ts then declaration d ts else expression d ts

abbrev pub label_of : Tokens → Option (Option JLabelName)
label_of [] = Some None
label_of (Token.Id n at ∷ []) = Some (Some (record { name = n; at = at }))
label_of _ = None

abbrev pub value_of : ℕ → Tokens → Option (Option JExpr)
value_of d [] = Some None
value_of d ts = whole (read d any_level ts) >>= λ x. Some (Some x)

-- the arguments and the `)` behind them
unfoldable pub args_read : ℕ → Reader (Listed JExpr × Position)
args_read d ts = do
  args ← args_from (type_read d) (base_read (suc d)) (typed_read d) (read d) ts
  rp ← close args.1
  Some ((args.0, rp.0), rp.1)

unfoldable pub this_call : ℕ → Position → Position → Tokens → Option JSimple
this_call d at lp ts = whole (args_read d ts) >>= λ x. Some (simple.ThisCall at lp x.0.0 x.0.1 x.1)

unfoldable pub super_call : ℕ → Position → Position → Tokens → Option JSimple
super_call d at lp ts = whole (args_read d ts) >>= λ x. Some (simple.SuperCall at lp x.0.0 x.0.1 x.1)

abbrev pub behind_this : ℕ → Position → Tokens → Option JSimple
behind_this d at (Token.Sign m.OpenRound lp ∷ rest) = this_call d at lp rest
behind_this d at rest = expression d (Token.Word w.This at ∷ rest)

abbrev pub behind_super : ℕ → Position → Tokens → Option JSimple
behind_super d at (Token.Sign m.OpenRound lp ∷ rest) = super_call d at lp rest
behind_super d at rest = expression d (Token.Word w.Super at ∷ rest)

unfoldable pub worded : ℕ → Keyword → Position → Tokens → Option JSimple
worded d w.Break at rest = label_of rest >>= λ x. Some (simple.Break at x)
worded d w.Continue at rest = label_of rest >>= λ x. Some (simple.Continue at x)
worded d w.Return at rest = value_of d rest >>= λ x. Some (simple.Return at x)
worded d w.Throw at rest = whole (read d any_level rest) >>= λ x. Some (simple.Throw at x)
worded d w.This at rest = behind_this d at rest
worded d w.Super at rest = behind_super d at rest
worded d word at rest = plain d (Token.Word word at ∷ rest)

-- with parts at a depth of at most the number
unfoldable pub simple_read : ℕ → Tokens → Option JSimple
simple_read d [] = Some simple.Empty
simple_read d (Token.Word word at ∷ rest) = worded d word at rest
simple_read d ts = plain d ts

-- ---- loops

abbrev pub ends_expressions : Tokens → Bool
ends_expressions [] = true
ends_expressions (Token.Sign m.Semicolon at ∷ rest) = true
ends_expressions _ = false

-- expressions with commas between them, up to a `;` or the end
unfoldable pub expressions : ℕ → Reader (Listed JExpr)
expressions d ts = if ends_expressions ts then Some (([], []), ts) else some_by comma (statement_read d) ts

abbrev pub condition : ℕ → Reader (Option JExpr)
condition d ts = maybe (semicolon ts) (read d any_level ts >>= λ x. Some (Some x.0, x.1)) (λ c. Some (None, ts))

unfoldable pub basic : ℕ → JForStart → Reader JForHead
basic d start ts = do
  first ← semicolon ts
  test ← condition d first.1
  second ← semicolon test.1
  updates ← expressions d second.1
  Some (for.Basic start first.0 test.0 second.0 updates.0.0 updates.0.1, updates.1)

-- behind the type: a name and `:`, or declarators
abbrev pub walks : Tokens → Bool
walks (Token.Id n at ∷ Token.Sign m.Colon p ∷ rest) = true
walks _ = false

unfoldable pub each : ℕ → Option Position → JType → Reader JForHead
each d is_final kind ts = do
  n ← ident ts
  at ← colon n.1
  walked ← read d any_level at.1
  Some (for.Each is_final kind n.0.name n.0.at at.0 walked.0, walked.1)

unfoldable pub declared : ℕ → Option Position → JType → Reader JForHead
declared d is_final kind ts = declaration_of d is_final kind ts >>= λ x. basic d (start.Declaration x.0) x.1

unfoldable pub for_declared : ℕ → Reader JForHead
for_declared d ts = type_read d (final_first ts).1 >>= λ kind.
    (if walks kind.1 then each d (final_first ts).0 kind.0 kind.1 else declared d (final_first ts).0 kind.0 kind.1)

unfoldable pub for_plain : ℕ → Reader JForHead
for_plain d ts = expressions d ts >>= λ x. basic d (start.Expressions x.0.0 x.0.1) x.1

unfoldable pub for_read : ℕ → Tokens → Option JForHead
for_read d ts = whole (if begins_declaration ts then for_declared d ts else for_plain d ts)

-- ---- locks, and labels of a switch

abbrev pub class_of : JQualified → Tokens → Option JLock
class_of q (Token.Sign m.Dot dot ∷ Token.Word w.Class at ∷ []) = Some (lock.Class q dot at)
class_of q _ = None

abbrev pub class_lock : Tokens → Option JLock
class_lock (Token.Id n at ∷ rest) = class_of (qualified n at rest).0 (qualified n at rest).1
class_lock _ = None

unfoldable pub lock_read : ℕ → Tokens → Option JLock
lock_read d ts = maybe (class_lock ts) (whole (read d any_level ts) >>= λ x. Some (lock.Expression x)) (λ x. Some x)

unfoldable pub case_of : ℕ → Position → Reader JSwitchLabel
case_of d at ts = do
  value ← read d any_level ts
  end ← colon value.1
  Some (label.Case at value.0 end.0, end.1)

abbrev pub switch_step : ℕ → Reader JSwitchLabel
switch_step d (Token.Word w.Case at ∷ rest) = case_of d at rest
switch_step d (Token.Word w.Default at ∷ rest) = colon rest >>= λ c. Some (label.Default at c.0, c.1)
switch_step d _ = None

-- a label with a depth of at most the number
unfoldable pub switch_read : ℕ → Tokens → Option JSwitchLabel
switch_read zero ts = None
switch_read (suc d) ts = whole (switch_step d ts)
