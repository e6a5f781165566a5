-- A head has as many levels as spans, so that each of its bodies has one.
use Rattle.std.proofs.Common.{◌≡◌, ℕ, zero, suc, true, false, ◌++◌, List, [], ◌∷◌, length, map, Option, Some, None, refl, ap, sym, ◌∙◌, subst, arith}
use Rattle.std.specs.List.{AllByRecursion}
use Rattle.java_tree.specs.declared.tokens.Position.{Position}
use Rattle.java_tree.specs.declared.tokens.Mark.{Mark}
use Rattle.java_tree.specs.declared.tokens.Mark.TheVariants as m
use Rattle.java_tree.specs.Seen.{Token}
use Rattle.java_tree.specs.declared.tokens.Keyword.{Keyword}
use Rattle.java_tree.specs.declared.exprs.BinaryOp.{BinaryOp}
use Rattle.java_tree.specs.declared.exprs.BinaryOp.TheVariants as op
use Rattle.java_tree.specs.declared.exprs.AssignOp.{AssignOp}
use Rattle.java_tree.specs.declared.exprs.AssignOp.TheVariants as assign
use Rattle.java_tree.specs.declared.exprs.Span.{Span}
use Rattle.java_tree.specs.declared.exprs.JCreated.{JCreated}
use Rattle.java_tree.specs.declared.exprs.JCreated.TheVariants as created
use Rattle.java_tree.specs.declared.exprs.JTypedParam.{JTypedParam}
use Rattle.java_tree.specs.declared.exprs.JParam.{JParam}
use Rattle.java_tree.specs.declared.exprs.JParams.{JParams}
use Rattle.java_tree.specs.declared.exprs.JParams.TheVariants as params
use Rattle.java_tree.specs.declared.types.JDotted.{JDotted}
use Rattle.java_tree.specs.declared.types.JBrackets.{JBrackets}
use Rattle.java_tree.specs.declared.types.JType.{JType, out-JType, map-JType}
use Rattle.java_tree.specs.declared.types.JType.TheOpen.{JType-F}
use Rattle.java_tree.specs.declared.exprs.JExpr.{JExpr, out-JExpr, map-JExpr, fold_out-JExpr}
use Rattle.java_tree.specs.declared.exprs.JExpr.TheOpen.{JExpr-F}
use Rattle.java_tree.specs.Seen.{Tokens}
use Rattle.java_tree.specs.Trees.{more_tokens, listed, AreBetween, operator_tokens, assign_tokens, init_level, any_level, tokens, tokens_by, type_tokens, type_tokens_by, type_stands_by, TypeStands, TypedStands, stands_by, Stands, params_stand, created_stands, dotted_tokens, qualified_tokens, brackets_tokens, param_tokens, final_tokens, typed_tokens, params_tokens, created_tokens, args_close, trailing, braces_tokens}
use Rattle.std.proofs.lemmas.List.{length-append, length-map}
use Rattle.java_statement_grammar.specs.declared.declarations.JValue.{JValue}
use Rattle.java_statement_grammar.specs.declared.declarations.JDeclarator.{JDeclarator}
use Rattle.java_statement_grammar.specs.declared.declarations.JDeclaration.{JDeclaration}
use Rattle.java_statement_grammar.specs.declared.statements.JLabelName.{JLabelName}
use Rattle.java_statement_grammar.specs.declared.statements.JSimple.{JSimple}
use Rattle.java_statement_grammar.specs.declared.statements.JSimple.TheVariants as simple
use Rattle.java_statement_grammar.specs.declared.statements.JForStart.{JForStart}
use Rattle.java_statement_grammar.specs.declared.statements.JForStart.TheVariants as start
use Rattle.java_statement_grammar.specs.declared.statements.JForHead.{JForHead}
use Rattle.java_statement_grammar.specs.declared.statements.JForHead.TheVariants as for
use Rattle.java_statement_grammar.specs.declared.statements.JLock.{JLock}
use Rattle.java_statement_grammar.specs.declared.statements.JLock.TheVariants as lock
use Rattle.java_statement_grammar.specs.declared.statements.JSwitchLabel.{JSwitchLabel}
use Rattle.java_statement_grammar.specs.declared.statements.JSwitchLabel.TheVariants as label
use Rattle.java_statement_grammar.specs.Heads.{value_tokens, declarator_tokens, declaration_tokens, value_stands, DeclaratorStands, DeclarationStands, StatementStands, label_tokens, maybe_tokens, simple_tokens, maybe_stands, SimpleStands, start_tokens, for_tokens, StartStands, ForStands, lock_tokens, LockStands, switch_tokens, SwitchStands}
use Rattle.java_expr_grammar.proofs.LawsToCite.{tokens_out, type_tokens_out, Any, any}
use Rattle.java_unit_grammar.specs.Levels.{Levels, all_levels, body_level, levels_by, levels, list_levels, maybe_levels, value_levels, declarator_levels, declaration_levels, simple_levels, start_levels, for_levels, lock_levels, switch_levels}
use Rattle.java_member_grammar.specs.declared.modifiers.ModifierKind.{ModifierKind}
use Rattle.java_member_grammar.specs.declared.modifiers.ModifierKind.TheVariants as modifier
use Rattle.java_member_grammar.specs.declared.modifiers.JModifier.{JModifier}
use Rattle.java_member_grammar.specs.declared.heads.JMemberHead.{JMemberHead}
use Rattle.java_member_grammar.specs.declared.heads.JMemberHead.TheVariants as head
use Rattle.java_member_grammar.specs.declared.lines.JArguments.{JArguments}
use Rattle.java_member_grammar.specs.declared.lines.JConstant.{JConstant}
use Rattle.java_member_grammar.specs.declared.lines.JConstants.{JConstants}
use Rattle.java_member_grammar.specs.Heads.{modifier_tokens, modifiers_tokens, member_tokens, arguments_tokens, constant_tokens, constants_tokens, end_tokens, FieldStands, MemberStands, arguments_stand, ConstantStands, ConstantsStand}
use Rattle.java_unit_grammar.specs.Standing.{spans, member_levels, top_levels, initial_levels}
use Rattle.java_unit_grammar.specs.Levels.{arguments_levels, constant_levels, constants_levels}
use Rattle.java_unit_grammar.proofs.Quiet.{Quiet, member_quiet}

pub levels_out : (x : JExpr) → levels x ≡ levels_by (map-JExpr JExpr Levels levels (out-JExpr x))
unfolding levels
levels_out x = fold_out-JExpr Levels levels_by x

pub record Counts (ls : Levels) (ts : Tokens) : Type 0 where
  pub same : length ls ≡ length (spans ts)

spans_both : (a b : Tokens) → spans (a ++ b) ≡ spans a ++ spans b
spans_both [] b = refl
spans_both (Token.ArrowBody at s ∷ a) b = ap (λ l. true ∷ l) (spans_both a b)
spans_both (Token.CloseBody at s ∷ a) b = ap (λ l. false ∷ l) (spans_both a b)
spans_both (Token.Sign mark at ∷ a) b = spans_both a b
spans_both (Token.Word word at ∷ a) b = spans_both a b
spans_both (Token.Id n at ∷ a) b = spans_both a b
spans_both (Token.Literal x at ∷ a) b = spans_both a b

none : Counts [] []
none = record { same = refl }

both : {a b : Levels} {x y : Tokens} → Counts a x → Counts b y → Counts (a ++ b) (x ++ y)
both {a} {b} {x} {y} f g = record {
  same =
      let l = length-append a b in
      let k = ap length (spans_both x y) in
      let j = length-append (spans x) (spans y) in
      let i = f.same in
      let h = g.same in
      omega (arith, l, k, j, i, h);
}

deep : {a : Levels} {x : Tokens} → Counts a x → Counts (map suc a) x
deep {a} {x} f = record { same = length-map a suc ∙ f.same }

sign : {a : Levels} {x : Tokens} {mark : Mark} {at : Position} → Counts a x → Counts a (Token.Sign mark at ∷ x)
sign f = record { same = f.same }

word : {a : Levels} {x : Tokens} {keyword : Keyword} {at : Position} → Counts a x → Counts a (Token.Word keyword at ∷ x)
word f = record { same = f.same }

name : {a : Levels} {x : Tokens} {n : List ℕ} {at : Position} → Counts a x → Counts a (Token.Id n at ∷ x)
name f = record { same = f.same }

-- tokens without spans before and behind
before : {a : Levels} {x y : Tokens} → Counts [] x → Counts a y → Counts a (x ++ y)
before f g = both f g

behind : {a : Levels} {x y : Tokens} → Counts a x → Counts [] y → Counts a (x ++ y)
behind {a} {x} {y} f g = record {
  same =
      let k = ap length (spans_both x y) in
      let j = length-append (spans x) (spans y) in
      let i = f.same in
      let h = g.same in
      omega (arith, k, j, i, h);
}

module _ (A : Type 0) (text : A → Tokens) (of : A → Levels) (P : A → Type 0) (counts : (x : A) → P x → Counts (of x) (text x)) where
  more_counts : (ps : List Position) (xs : List A) → length ps ≡ length xs → AllByRecursion P xs → Counts (all_levels (map of xs)) (more_tokens ps (map text xs))
  more_counts [] [] l all = none
  more_counts [] (x ∷ xs) l all = absurd (omega (arith, l))
  more_counts (p ∷ ps) [] l all = none
  more_counts (p ∷ ps) (x ∷ xs) l all = sign (both (counts x all.0) (more_counts ps xs (omega (arith, l)) all.1))

  listed_counts : (ps : List Position) (xs : List A) → AreBetween ps xs → AllByRecursion P xs → Counts (all_levels (map of xs)) (listed ps (map text xs))
  listed_counts ps [] l all = none
  listed_counts ps (x ∷ xs) l all = both (counts x all.0) (more_counts ps xs l all.1)

operator_counts : (op : BinaryOp) (at : Position) → Counts [] (operator_tokens op at)
operator_counts op.OrElse at = record { same = refl }
operator_counts op.AndAlso at = record { same = refl }
operator_counts op.BitOr at = record { same = refl }
operator_counts op.BitXor at = record { same = refl }
operator_counts op.BitAnd at = record { same = refl }
operator_counts op.Equal at = record { same = refl }
operator_counts op.NotEqual at = record { same = refl }
operator_counts op.Less at = record { same = refl }
operator_counts op.LessEqual at = record { same = refl }
operator_counts op.Greater at = record { same = refl }
operator_counts (op.GreaterEqual second) at = record { same = refl }
operator_counts op.ShiftLeft at = record { same = refl }
operator_counts (op.ShiftRight second) at = record { same = refl }
operator_counts (op.ShiftUnsigned second third) at = record { same = refl }
operator_counts op.Add at = record { same = refl }
operator_counts op.Subtract at = record { same = refl }
operator_counts op.Multiply at = record { same = refl }
operator_counts op.Divide at = record { same = refl }
operator_counts op.Remainder at = record { same = refl }

assign_counts : (op : AssignOp) (at : Position) → Counts [] (assign_tokens op at)
assign_counts assign.Plain at = record { same = refl }
assign_counts assign.Add at = record { same = refl }
assign_counts assign.Subtract at = record { same = refl }
assign_counts assign.Multiply at = record { same = refl }
assign_counts assign.Divide at = record { same = refl }
assign_counts assign.Remainder at = record { same = refl }
assign_counts assign.ShiftLeft at = record { same = refl }
assign_counts (assign.ShiftRight second third) at = record { same = refl }
assign_counts (assign.ShiftUnsigned second third fourth) at = record { same = refl }
assign_counts assign.BitAnd at = record { same = refl }
assign_counts assign.BitOr at = record { same = refl }
assign_counts assign.BitXor at = record { same = refl }

dotted_counts : (xs : List JDotted) → Counts [] (dotted_tokens xs)
dotted_counts [] = none
dotted_counts (x ∷ xs) = sign (name (dotted_counts xs))

brackets_counts : (xs : List JBrackets) → Counts [] (brackets_tokens xs)
brackets_counts [] = none
brackets_counts (x ∷ xs) = sign (sign (brackets_counts xs))

-- items without spans
module _ (A : Type 0) (text : A → Tokens) (P : A → Type 0) (counts : (x : A) → P x → Counts [] (text x)) where
  plain_more : (ps : List Position) (xs : List A) → AllByRecursion P xs → Counts [] (more_tokens ps (map text xs))
  plain_more [] xs all = none
  plain_more (p ∷ ps) [] all = none
  plain_more (p ∷ ps) (x ∷ xs) all = sign (before (counts x all.0) (plain_more ps xs all.1))

  plain_listed : (ps : List Position) (xs : List A) → AllByRecursion P xs → Counts [] (listed ps (map text xs))
  plain_listed ps [] all = none
  plain_listed ps (x ∷ xs) all = before (counts x all.0) (plain_more ps xs all.1)

type_layer : (d : ℕ) → ((x : JType) → TypeStands d x → Counts [] (type_tokens x)) → (x : JType-F JType) → type_stands_by (TypeStands d) x → Counts [] (type_tokens_by (map-JType JType Tokens type_tokens x))
type_layer d h (JType-F.Primitive p at) s = word none
type_layer d h (JType-F.Class q) s = name (dotted_counts q.rest)
type_layer d h (JType-F.Applied q lp args commas j rp) s = before {x = qualified_tokens q} (name (dotted_counts q.rest)) (sign (before (plain_listed JType type_tokens (TypeStands d) h commas args s.2) (sign none)))
type_layer d h (JType-F.Array element brackets) s = before (h element s.2) (brackets_counts brackets)

type_counts : (d : ℕ) (x : JType) → TypeStands d x → Counts [] (type_tokens x)
unfolding TypeStands
type_counts zero x s = absurd s
type_counts (suc d) x s = subst (Counts []) (sym (type_tokens_out x)) (type_layer d (type_counts d) (out-JType x) s)

final_counts : (is_final : Option Position) → Counts [] (final_tokens is_final)
final_counts None = none
final_counts (Some at) = word none

typed_counts : (d : ℕ) (p : JTypedParam) → TypedStands d p → Counts [] (typed_tokens p)
unfolding TypedStands
typed_counts zero p s = absurd s
typed_counts (suc d) p s = before (final_counts p.is_final) (before (type_counts d p.kind s) (name none))

params_count : (d : ℕ) (ps : JParams) → params_stand (TypedStands d) ps → Counts [] (params_tokens ps)
params_count d (params.One p) s = name none
params_count d (params.Several lp ps commas rp) s = sign (before (plain_listed JParam param_tokens Any (λ p s. name none) commas ps (any ps)) (sign none))
params_count d (params.Typed lp ps commas rp) s = sign (before (plain_listed JTypedParam typed_tokens (TypedStands d) (typed_counts d) commas ps s.1) (sign none))

created_counts : (d : ℕ) (x : JCreated) → created_stands d x → Counts [] (created_tokens x)
created_counts d (created.Type x) s = type_counts (suc d) x s.0
created_counts d (created.Inferred q lp j close) s = before {x = qualified_tokens q} (name (dotted_counts q.rest)) (sign (sign none))

close_counts : (rp : Position) (body : Option Span) → Counts (body_level body) (args_close rp body ∷ [])
close_counts rp None = record { same = refl }
close_counts rp (Some body) = record { same = refl }

trailing_counts : (more : Option Position) → Counts [] (trailing more)
trailing_counts None = none
trailing_counts (Some at) = sign none

module _ (d : ℕ) (h : (l : ℕ) (x : JExpr) → Stands d l x → Counts (levels x) (tokens x)) where
  all_count : (l : ℕ) (commas : List Position) (xs : List JExpr) → AreBetween commas xs → AllByRecursion (Stands d l) xs → Counts (all_levels (map levels xs)) (listed commas (map tokens xs))
  all_count l commas xs b all = listed_counts JExpr tokens levels (Stands d l) (h l) commas xs b all

  args_count : (lp rp : Position) (commas : List Position) (xs : List JExpr) → AreBetween commas xs → AllByRecursion (Stands d any_level) xs
      → Counts (all_levels (map levels xs)) (Token.Sign m.OpenRound lp ∷ (listed commas (map tokens xs) ++ Token.Sign m.CloseRound rp ∷ []))
  args_count lp rp commas xs b all = sign (behind (all_count any_level commas xs b all) (sign none))

  braces_count : (lc : Position) (inits : List JExpr) (commas : List Position) (more : Option Position) (rc : Position) → AreBetween commas inits → AllByRecursion (Stands d init_level) inits
      → Counts (all_levels (map levels inits)) (braces_tokens lc (map tokens inits) commas more rc)
  braces_count lc inits commas more rc b all = sign (behind (all_count init_level commas inits b all) (before (trailing_counts more) (sign none)))

  layer_counts : (x : JExpr-F JExpr) → stands_by d (TypeStands d) (TypedStands d) (Stands d) x → Counts (levels_by (map-JExpr JExpr Levels levels x)) (tokens_by (map-JExpr JExpr Tokens tokens x))
  layer_counts (JExpr-F.Name x at) s = name none
  layer_counts (JExpr-F.Literal x at) s = record { same = refl }
  layer_counts (JExpr-F.This at) s = word none
  layer_counts (JExpr-F.Paren lp inner rp) s = deep (sign (behind (h _ inner s) (sign none)))
  layer_counts (JExpr-F.Call x at lp args commas rp) s = deep (name (args_count lp rp commas args s.0 s.1))
  layer_counts (JExpr-F.SuperCall above dot x at lp args commas rp) s = deep (word (sign (name (args_count lp rp commas args s.0 s.1))))
  layer_counts (JExpr-F.Field left dot x at) s = deep (behind (h _ left s) (sign (name none)))
  layer_counts (JExpr-F.Method left dot x at lp args commas rp) s = deep (both (h _ left s.0) (sign (name (args_count lp rp commas args s.1 s.2))))
  layer_counts (JExpr-F.Element left lp index rp) s = deep (both (h _ left s.0) (sign (behind (h _ index s.2) (sign none))))
  layer_counts (JExpr-F.Postfix left op at) s = deep (behind (h _ left s) (sign none))
  layer_counts (JExpr-F.Instanceof left at to) s = deep (behind (h _ left s.0) (word (type_counts d to s.1)))
  layer_counts (JExpr-F.Prefix op at inner) s = deep (sign (h _ inner s))
  layer_counts (JExpr-F.MinusLeast minus literal at) s = record { same = refl }
  layer_counts (JExpr-F.Cast lp to rp inner) s = deep (sign (before (type_counts d to s.0) (sign (h _ inner s.1))))
  layer_counts (JExpr-F.Binary left op at right) s = deep (both (h _ left s.0) (before (operator_counts op at) (h _ right s.1)))
  layer_counts (JExpr-F.Conditional left question then_ colon else_) s = deep (both (h _ left s.0) (sign (both (h _ then_ s.1) (sign (h _ else_ s.2)))))
  layer_counts (JExpr-F.Assign left op at right) s = deep (both (h _ left s.0) (before (assign_counts op at) (h _ right s.2)))
  layer_counts (JExpr-F.Lambda params arrow body) s = deep (before (params_count d params s.0) (sign (h _ body s.1)))
  layer_counts (JExpr-F.LambdaBlock params arrow body) s = before {a = 2 ∷ []} {y = Token.ArrowBody arrow body ∷ []} (params_count d params s.0) (record { same = refl })
  layer_counts (JExpr-F.New at made lp args commas rp body) s = word (before (created_counts d made s.0) (sign (both (deep (all_count any_level commas args s.1 s.2)) (close_counts rp body))))
  layer_counts (JExpr-F.NewArray at of lb size rb more) s = deep (word (before (type_counts (suc d) of s.0) (sign (behind (h _ size s.2) (sign (brackets_counts more))))))
  layer_counts (JExpr-F.NewFilled at of brackets lc inits commas more rc) s =
      deep (word (before (type_counts (suc d) of s.0) (before (brackets_counts brackets) (braces_count lc inits commas more rc s.3 s.4))))
  layer_counts (JExpr-F.Braces lc inits commas more rc) s = deep (braces_count lc inits commas more rc s.0 s.1)

pub expr_counts : (d l : ℕ) (x : JExpr) → Stands d l x → Counts (levels x) (tokens x)
unfolding Stands
expr_counts zero l x s = absurd s
expr_counts (suc d) l x s =
    let C : Levels → Type 0 = λ ls. Counts ls (tokens x) in
    let D : Tokens → Type 0 = λ ts. Counts (levels_by (map-JExpr JExpr Levels levels (out-JExpr x))) ts in
    subst C (sym (levels_out x)) (subst D (sym (tokens_out x)) (layer_counts d (expr_counts d) (out-JExpr x) s.1))

-- ---- heads

value_counts : (d : ℕ) (x : Option JValue) → value_stands d x → Counts (value_levels x) (value_tokens x)
value_counts d None s = none
value_counts d (Some x) s = sign (expr_counts d init_level x.tree s)

declarator_counts : (d : ℕ) (x : JDeclarator) → DeclaratorStands d x → Counts (declarator_levels x) (declarator_tokens x)
unfolding DeclaratorStands
declarator_counts zero x s = absurd s
declarator_counts (suc d) x s = deep (name (value_counts d x.value s))

initial_counts : (d : ℕ) (x : JDeclarator) → DeclaratorStands d x → Counts (value_levels x.value) (declarator_tokens x)
unfolding DeclaratorStands
initial_counts zero x s = absurd s
initial_counts (suc d) x s = name (value_counts d x.value s)

declaration_counts : (d : ℕ) (x : JDeclaration) → DeclarationStands d x → Counts (declaration_levels x) (declaration_tokens x)
declaration_counts d x s =
    before (final_counts x.is_final) (before (type_counts d x.kind s.kind) (deep (listed_counts JDeclarator declarator_tokens declarator_levels (DeclaratorStands d) (declarator_counts d) x.commas x.names s.between s.all)))

maybe_counts : (d : ℕ) (x : Option JExpr) → maybe_stands d x → Counts (maybe_levels x) (maybe_tokens x)
maybe_counts d None s = none
maybe_counts d (Some x) s = expr_counts d any_level x s

break_counts : (x : Option JLabelName) → Counts [] (label_tokens x)
break_counts None = none
break_counts (Some x) = name none

exprs_count : (d : ℕ) (commas : List Position) (xs : List JExpr) → AreBetween commas xs → AllByRecursion (Stands d any_level) xs → Counts (list_levels xs) (listed commas (map tokens xs))
exprs_count d commas xs b all = listed_counts JExpr tokens levels (Stands d any_level) (expr_counts d any_level) commas xs b all

pub simple_counts : (d : ℕ) (x : JSimple) → SimpleStands d x → Counts (simple_levels x) (simple_tokens x)
simple_counts d simple.Empty s = none
simple_counts d (simple.Declaration x) s = declaration_counts d x s
simple_counts d (simple.Expression x) s = deep (expr_counts d any_level x s.stands)
simple_counts d (simple.Break at x) s = word (break_counts x)
simple_counts d (simple.Continue at x) s = word (break_counts x)
simple_counts d (simple.Return at x) s = deep (word (maybe_counts d x s))
simple_counts d (simple.Throw at x) s = deep (word (expr_counts d any_level x s))
simple_counts d (simple.ThisCall at lp args commas rp) s = deep (word (sign (behind (exprs_count d commas args s.0 s.1) (sign none))))
simple_counts d (simple.SuperCall at lp args commas rp) s = deep (word (sign (behind (exprs_count d commas args s.0 s.1) (sign none))))

statements_count : (d : ℕ) (commas : List Position) (xs : List JExpr) → AreBetween commas xs → AllByRecursion (StatementStands d) xs → Counts (list_levels xs) (listed commas (map tokens xs))
statements_count d commas xs b all = listed_counts JExpr tokens levels (StatementStands d) (λ x s. expr_counts d any_level x s.stands) commas xs b all

start_counts : (d : ℕ) (x : JForStart) → StartStands d x → Counts (start_levels x) (start_tokens x)
start_counts d (start.Declaration x) s = declaration_counts d x s
start_counts d (start.Expressions xs commas) s = deep (statements_count d commas xs s.0 s.1)

pub for_counts : (d : ℕ) (x : JForHead) → ForStands d x → Counts (for_levels x) (for_tokens x)
for_counts d (for.Basic start first condition second updates commas) s =
    both (start_counts d start s.0) (sign (both (deep (maybe_counts d condition s.1)) (sign (deep (statements_count d commas updates s.2 s.3)))))
for_counts d (for.Each is_final kind n at colon walked) s = deep (before (final_counts is_final) (before (type_counts d kind s.0) (name (sign (expr_counts d any_level walked s.1)))))

pub lock_counts : (d : ℕ) (x : JLock) → LockStands d x → Counts (lock_levels x) (lock_tokens x)
lock_counts d (lock.Expression x) s = deep (expr_counts d any_level x s)
lock_counts d (lock.Class q dot at) s = before {x = qualified_tokens q} (name (dotted_counts q.rest)) (sign (word none))

pub switch_counts : (d : ℕ) (x : JSwitchLabel) → SwitchStands d x → Counts (switch_levels x) (switch_tokens x)
unfolding SwitchStands
switch_counts zero x s = absurd s
switch_counts (suc d) (label.Case at x colon) s = deep (word (behind (expr_counts d any_level x s) (sign none)))
switch_counts (suc d) (label.Default at colon) s = word (sign none)

-- ---- fields, and the constants of an enum

modifiers_count : (xs : List JModifier) → Counts [] (modifiers_tokens xs)
modifiers_count [] = none
modifiers_count (x ∷ xs) = before (by x.kind x.at) (modifiers_count xs)
  where
    by : (kind : ModifierKind) (at : Position) → Counts [] (modifier_tokens (record { kind = kind; at = at }))
    by modifier.Public at = word none
    by modifier.Protected at = word none
    by modifier.Private at = word none
    by modifier.Abstract at = word none
    by modifier.Static at = word none
    by modifier.Final at = word none
    by modifier.Synchronized at = word none
    by modifier.Volatile at = word none
    by modifier.Default at = word none
    by (modifier.Override p) at = sign (name none)

field_counts : (d e : ℕ) (mods : List JModifier) (x : JDeclaration) → FieldStands d e x → Counts (declaration_levels x) (modifiers_tokens mods ++ declaration_tokens x)
field_counts d e mods x s =
    before (modifiers_count mods) (before (final_counts x.is_final) (before (type_counts d x.kind s.kind)
    (deep (listed_counts JDeclarator declarator_tokens declarator_levels (DeclaratorStands e) (declarator_counts e) x.commas x.names s.between s.all))))

top_field_counts : (d e : ℕ) (mods : List JModifier) (x : JDeclaration) → FieldStands d e x → Counts (all_levels (map initial_levels x.names)) (modifiers_tokens mods ++ declaration_tokens x)
top_field_counts d e mods x s =
    before (modifiers_count mods) (before (final_counts x.is_final) (before (type_counts d x.kind s.kind)
    (listed_counts JDeclarator declarator_tokens initial_levels (DeclaratorStands e) (initial_counts e) x.commas x.names s.between s.all)))

-- the head of a member that is no field
quiet_counts : (ts : Tokens) → Quiet ts → Counts [] ts
quiet_counts [] q = none
quiet_counts (Token.Sign mark at ∷ ts) q = sign (quiet_counts ts q.1)
quiet_counts (Token.Word keyword at ∷ ts) q = word (quiet_counts ts q.1)
quiet_counts (Token.Id n at ∷ ts) q = name (quiet_counts ts q.1)
quiet_counts (Token.Literal x at ∷ ts) q = record { same = (quiet_counts ts q.1).same }
quiet_counts (Token.ArrowBody at span ∷ ts) q = let e = q.0 in absurd (cc e)
quiet_counts (Token.CloseBody at span ∷ ts) q = let e = q.0 in absurd (cc e)

pub member_counts : (d e : ℕ) (x : JMemberHead) → MemberStands d e x → Counts (member_levels x) (member_tokens x)
member_counts d e (head.Field mods x) s = field_counts d e mods x s
member_counts d e head.Empty s = none
member_counts d e (head.Method mods params result n at formals throws) s = quiet_counts _ (member_quiet d e (head.Method mods params result n at formals throws) refl s)
member_counts d e (head.Constructor mods n at formals throws) s = quiet_counts _ (member_quiet d e (head.Constructor mods n at formals throws) refl s)
member_counts d e (head.Initializer static) s = quiet_counts _ (member_quiet d e (head.Initializer static) refl s)

pub top_counts : (d e : ℕ) (x : JMemberHead) → MemberStands d e x → Counts (top_levels x) (member_tokens x)
top_counts d e (head.Field mods x) s = top_field_counts d e mods x s
top_counts d e head.Empty s = none
top_counts d e (head.Method mods params result n at formals throws) s = quiet_counts _ (member_quiet d e (head.Method mods params result n at formals throws) refl s)
top_counts d e (head.Constructor mods n at formals throws) s = quiet_counts _ (member_quiet d e (head.Constructor mods n at formals throws) refl s)
top_counts d e (head.Initializer static) s = quiet_counts _ (member_quiet d e (head.Initializer static) refl s)

arguments_count : (d : ℕ) (x : Option JArguments) → arguments_stand d x → Counts (arguments_levels x) (arguments_tokens x)
arguments_count d None s = none
arguments_count d (Some x) s = sign (behind (exprs_count d x.commas x.items s.0 s.1) (sign none))

end_counts : (x : Option Position) → Counts [] (end_tokens x)
end_counts None = none
end_counts (Some at) = sign none

pub constants_count : (d : ℕ) (x : JConstants) → ConstantsStand d x → Counts (constants_levels x) (constants_tokens x)
constants_count d x s =
    behind (listed_counts JConstant constant_tokens constant_levels (ConstantStands d) (λ y t. name (arguments_count d y.arguments t)) x.commas x.items s.0 s.1) (before (trailing_counts x.more) (end_counts x.end))
