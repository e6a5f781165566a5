-- Which tokens the heads of statements spell, and which stand: their parts at a depth of at most a number.
use Rattle.std.specs.Prelude.{◌≡◌, ◌≤◌, ℕ, zero, suc, Bool, true, false, List, [], ◌∷◌, ◌++◌, length, map, Option, Some, None}
use Rattle.std.specs.List.{AllByRecursion}
use Rattle.java_tree.specs.declared.tokens.Position.{Position}
use Rattle.java_tree.specs.declared.tokens.Mark.TheVariants as m
use Rattle.java_tree.specs.declared.tokens.Keyword.TheVariants as w
use Rattle.java_tree.specs.Seen.{Token, Tokens}
use Rattle.java_tree.specs.declared.exprs.PrefixOp.{PrefixOp}
use Rattle.java_tree.specs.declared.exprs.PrefixOp.TheVariants as prefix
use Rattle.java_tree.specs.declared.exprs.JExpr.{JExpr, out-JExpr}
use Rattle.java_tree.specs.declared.exprs.JExpr.TheOpen.{JExpr-F}
use Rattle.java_tree.specs.Trees.{listed, AreBetween, final_tokens, type_tokens, qualified_tokens, tokens, init_level, any_level, TypeStands, Stands}
use Rattle.java_statement_grammar.specs.declared.declarations.JValue.{JValue}
use Rattle.java_statement_grammar.specs.declared.declarations.JDeclarator.{JDeclarator}
use Rattle.java_statement_grammar.specs.declared.declarations.JDeclaration.{JDeclaration}
use Rattle.java_statement_grammar.specs.declared.statements.JLabelName.{JLabelName}
use Rattle.java_statement_grammar.specs.declared.statements.JSimple.{JSimple}
use Rattle.java_statement_grammar.specs.declared.statements.JSimple.TheVariants as simple
use Rattle.java_statement_grammar.specs.declared.statements.JForStart.{JForStart}
use Rattle.java_statement_grammar.specs.declared.statements.JForStart.TheVariants as start
use Rattle.java_statement_grammar.specs.declared.statements.JForHead.{JForHead}
use Rattle.java_statement_grammar.specs.declared.statements.JForHead.TheVariants as for
use Rattle.java_statement_grammar.specs.declared.statements.JLock.{JLock}
use Rattle.java_statement_grammar.specs.declared.statements.JLock.TheVariants as lock
use Rattle.java_statement_grammar.specs.declared.statements.JSwitchLabel.{JSwitchLabel}
use Rattle.java_statement_grammar.specs.declared.statements.JSwitchLabel.TheVariants as label

-- ---- declarations

abbrev pub value_tokens : Option JValue → Tokens
value_tokens None = []
value_tokens (Some x) = Token.Sign m.Assign x.at ∷ tokens x.tree

abbrev pub declarator_tokens : JDeclarator → Tokens
declarator_tokens x = Token.Id x.name x.at ∷ value_tokens x.value

abbrev pub declaration_tokens : JDeclaration → Tokens
declaration_tokens x = final_tokens x.is_final ++ (type_tokens x.kind ++ listed x.commas (map declarator_tokens x.names))

abbrev pub value_stands : ℕ → Option JValue → Type 0
value_stands d None = Unit {0}
value_stands d (Some x) = Stands d init_level x.tree

-- A declarator is one deeper than its value.
unfoldable pub DeclaratorStands : ℕ → JDeclarator → Type 0
DeclaratorStands zero x = ⊥
DeclaratorStands (suc d) x = value_stands d x.value

pub record DeclarationStands (d : ℕ) (x : JDeclaration) : Type 0 where
  pub kind : TypeStands d x.kind
  pub some_name : 1 ≤ length x.names
  pub between : AreBetween x.commas x.names
  pub all : AllByRecursion (DeclaratorStands d) x.names

-- ---- statements

abbrev pub steps : PrefixOp → Bool
steps prefix.Increment = true
steps prefix.Decrement = true
steps _ = false

abbrev pub is_statement_by : JExpr-F JExpr → Bool
is_statement_by (JExpr-F.Assign left op at right) = true
is_statement_by (JExpr-F.Prefix op at inner) = steps op
is_statement_by (JExpr-F.Postfix left op at) = true
is_statement_by (JExpr-F.Call n at lp args commas rp) = true
is_statement_by (JExpr-F.SuperCall above dot n at lp args commas rp) = true
is_statement_by (JExpr-F.Method left dot n at lp args commas rp) = true
is_statement_by (JExpr-F.New at made lp args commas rp body) = true
is_statement_by _ = false

-- whether it may be a statement (JLS 14.8)
unfoldable pub is_statement : JExpr → Bool
is_statement x = is_statement_by (out-JExpr x)

pub record StatementStands (d : ℕ) (x : JExpr) : Type 0 where
  pub stands : Stands d any_level x
  pub form : is_statement x ≡ true

abbrev pub label_tokens : Option JLabelName → Tokens
label_tokens None = []
label_tokens (Some x) = Token.Id x.name x.at ∷ []

abbrev pub maybe_tokens : Option JExpr → Tokens
maybe_tokens None = []
maybe_tokens (Some x) = tokens x

abbrev pub args_tokens : Position → List JExpr → List Position → Position → Tokens
args_tokens lp args commas rp = Token.Sign m.OpenRound lp ∷ (listed commas (map tokens args) ++ Token.Sign m.CloseRound rp ∷ [])

abbrev pub simple_tokens : JSimple → Tokens
simple_tokens simple.Empty = []
simple_tokens (simple.Declaration x) = declaration_tokens x
simple_tokens (simple.Expression x) = tokens x
simple_tokens (simple.Break at x) = Token.Word w.Break at ∷ label_tokens x
simple_tokens (simple.Continue at x) = Token.Word w.Continue at ∷ label_tokens x
simple_tokens (simple.Return at x) = Token.Word w.Return at ∷ maybe_tokens x
simple_tokens (simple.Throw at x) = Token.Word w.Throw at ∷ tokens x
simple_tokens (simple.ThisCall at lp args commas rp) = Token.Word w.This at ∷ args_tokens lp args commas rp
simple_tokens (simple.SuperCall at lp args commas rp) = Token.Word w.Super at ∷ args_tokens lp args commas rp

abbrev pub maybe_stands : ℕ → Option JExpr → Type 0
maybe_stands d None = Unit {0}
maybe_stands d (Some x) = Stands d any_level x

-- its parts at a depth of at most the number
abbrev pub SimpleStands : ℕ → JSimple → Type 0
SimpleStands d (simple.Declaration x) = DeclarationStands d x
SimpleStands d (simple.Expression x) = StatementStands d x
SimpleStands d (simple.Return at x) = maybe_stands d x
SimpleStands d (simple.Throw at x) = Stands d any_level x
SimpleStands d (simple.ThisCall at lp args commas rp) = AreBetween commas args × AllByRecursion (Stands d any_level) args
SimpleStands d (simple.SuperCall at lp args commas rp) = AreBetween commas args × AllByRecursion (Stands d any_level) args
SimpleStands d _ = Unit {0}

-- The statement spells the tokens, with parts at a depth of at most the number.
pub record SimpleSpells (d : ℕ) (x : JSimple) (text : Tokens) : Type 0 where
  pub stands : SimpleStands d x
  pub same : simple_tokens x ≡ text

-- ---- loops

abbrev pub start_tokens : JForStart → Tokens
start_tokens (start.Declaration x) = declaration_tokens x
start_tokens (start.Expressions xs commas) = listed commas (map tokens xs)

abbrev pub for_tokens : JForHead → Tokens
for_tokens (for.Basic start first condition second updates commas) =
    start_tokens start ++ Token.Sign m.Semicolon first ∷ (maybe_tokens condition ++ Token.Sign m.Semicolon second ∷ listed commas (map tokens updates))
for_tokens (for.Each is_final kind n at colon walked) =
    final_tokens is_final ++ (type_tokens kind ++ Token.Id n at ∷ Token.Sign m.Colon colon ∷ tokens walked)

abbrev pub StartStands : ℕ → JForStart → Type 0
StartStands d (start.Declaration x) = DeclarationStands d x
StartStands d (start.Expressions xs commas) = AreBetween commas xs × AllByRecursion (StatementStands d) xs

abbrev pub ForStands : ℕ → JForHead → Type 0
ForStands d (for.Basic start first condition second updates commas) =
    StartStands d start × maybe_stands d condition × AreBetween commas updates × AllByRecursion (StatementStands d) updates
ForStands d (for.Each is_final kind n at colon walked) = TypeStands d kind × Stands d any_level walked

-- The head spells the tokens, with parts at a depth of at most the number.
pub record ForSpells (d : ℕ) (x : JForHead) (text : Tokens) : Type 0 where
  pub stands : ForStands d x
  pub same : for_tokens x ≡ text

-- ---- locks, and labels of a switch

abbrev pub lock_tokens : JLock → Tokens
lock_tokens (lock.Expression x) = tokens x
lock_tokens (lock.Class q dot at) = qualified_tokens q ++ Token.Sign m.Dot dot ∷ Token.Word w.Class at ∷ []

abbrev pub LockStands : ℕ → JLock → Type 0
LockStands d (lock.Expression x) = Stands d any_level x
LockStands d (lock.Class q dot at) = Unit {0}

-- The lock spells the tokens, with a depth of at most the number.
pub record LockSpells (d : ℕ) (x : JLock) (text : Tokens) : Type 0 where
  pub stands : LockStands d x
  pub same : lock_tokens x ≡ text

abbrev pub switch_tokens : JSwitchLabel → Tokens
switch_tokens (label.Case at x colon) = Token.Word w.Case at ∷ (tokens x ++ Token.Sign m.Colon colon ∷ [])
switch_tokens (label.Default at colon) = Token.Word w.Default at ∷ Token.Sign m.Colon colon ∷ []

-- A label is one deeper than its value.
unfoldable pub SwitchStands : ℕ → JSwitchLabel → Type 0
SwitchStands zero x = ⊥
SwitchStands (suc d) (label.Case at x colon) = Stands d any_level x
SwitchStands (suc d) (label.Default at colon) = Unit {0}

-- The label spells the tokens, with a depth of at most the number.
pub record SwitchSpells (d : ℕ) (x : JSwitchLabel) (text : Tokens) : Type 0 where
  pub stands : SwitchStands d x
  pub same : switch_tokens x ≡ text
