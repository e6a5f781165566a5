-- The first token of a tree, and that its brackets match.
use Rattle.std.proofs.Common.{◌≡◌, ◌≤◌, ℕ, zero, suc, Bool, true, false, not, ◌++◌, List, [], ◌∷◌, length, map, Option, Some, None, refl, ap, sym, ◌∙◌, subst, append_assoc, arith}
use Rattle.std.specs.List.{AllByRecursion}
use Rattle.java_tree.specs.declared.tokens.Position.{Position}
use Rattle.java_tree.specs.declared.tokens.Mark.{Mark}
use Rattle.java_tree.specs.declared.tokens.Mark.TheVariants as m
use Rattle.java_tree.specs.Seen.{Token}
use Rattle.java_tree.specs.declared.exprs.PrefixOp.{PrefixOp}
use Rattle.java_tree.specs.declared.exprs.PrefixOp.TheVariants as prefix
use Rattle.java_tree.specs.declared.tokens.Keyword.{Keyword}
use Rattle.java_tree.specs.declared.tokens.Keyword.TheVariants as w
use Rattle.java_tree.specs.declared.exprs.PostfixOp.{PostfixOp}
use Rattle.java_tree.specs.declared.exprs.PostfixOp.TheVariants as postfix
use Rattle.java_tree.specs.declared.exprs.BinaryOp.{BinaryOp}
use Rattle.java_tree.specs.declared.exprs.BinaryOp.TheVariants as op
use Rattle.java_tree.specs.declared.exprs.AssignOp.{AssignOp}
use Rattle.java_tree.specs.declared.exprs.AssignOp.TheVariants as assign
use Rattle.java_tree.specs.declared.exprs.Span.{Span}
use Rattle.java_tree.specs.declared.exprs.JLiteral.{JLiteral}
use Rattle.java_tree.specs.declared.exprs.JCreated.{JCreated}
use Rattle.java_tree.specs.declared.exprs.JCreated.TheVariants as created
use Rattle.java_tree.specs.declared.exprs.JTypedParam.{JTypedParam}
use Rattle.java_tree.specs.declared.exprs.JParam.{JParam}
use Rattle.java_tree.specs.declared.exprs.JParams.{JParams}
use Rattle.java_tree.specs.declared.exprs.JParams.TheVariants as params
use Rattle.java_tree.specs.declared.types.JDotted.{JDotted}
use Rattle.java_tree.specs.declared.types.JQualified.{JQualified}
use Rattle.java_tree.specs.declared.types.JBrackets.{JBrackets}
use Rattle.java_tree.specs.declared.types.JType.{JType, out-JType, map-JType, fold_out-JType}
use Rattle.java_tree.specs.declared.types.JType.TheOpen.{JType-F}
use Rattle.java_tree.specs.declared.exprs.JExpr.{JExpr, out-JExpr, map-JExpr, fold_out-JExpr}
use Rattle.java_tree.specs.declared.exprs.JExpr.TheOpen.{JExpr-F}
use Rattle.java_tree.specs.Seen.{Tokens}
use Rattle.java_tree.specs.Trees.{more_tokens, listed, closing, AreBetween, prefix_mark, postfix_mark, operator_tokens, assign_tokens, level, init_level, any_level, top, top_by, tokens, tokens_by, type_tokens, type_tokens_by, type_stands_by, TypeStands, TypedStands, stands_by, Stands, params_stand, created_stands, begins_sign, is_least, dotted_tokens, qualified_tokens, brackets_tokens, param_tokens, final_tokens, typed_tokens, params_tokens, created_tokens, args_close, trailing, braces_tokens}
use Rattle.java_expr_grammar.specs.Reading.{after_close, begins_primitive, begins_operand, begins_names, ends_name, begins_inferred, begins_inferred_by, dotted, closes, is_some}

pub tokens_out : (x : JExpr) → tokens x ≡ tokens_by (map-JExpr JExpr Tokens tokens (out-JExpr x))
unfolding tokens
tokens_out x = fold_out-JExpr Tokens tokens_by x

pub type_tokens_out : (x : JType) → type_tokens x ≡ type_tokens_by (map-JType JType Tokens type_tokens (out-JType x))
unfolding type_tokens
type_tokens_out x = fold_out-JType Tokens type_tokens_by x

abbrev pub starts_mark : Mark → Bool
starts_mark m.OpenRound = true
starts_mark m.Plus = true
starts_mark m.Minus = true
starts_mark m.Not = true
starts_mark m.PlusPlus = true
starts_mark m.MinusMinus = true
starts_mark m.Tilde = true
starts_mark _ = false

abbrev pub starts_word : Keyword → Bool
starts_word w.This = true
starts_word w.Super = true
starts_word w.New = true
starts_word _ = false

-- whether an expression may begin so, which is no list of values in braces
abbrev pub starts : Token → Bool
starts (Token.Id n at) = true
starts (Token.Literal literal at) = not (is_least literal)
starts (Token.Word word at) = starts_word word
starts (Token.Sign mark at) = starts_mark mark
starts _ = false

pub record First (ts : Tokens) : Type 0 where
  pub head : Token
  pub tail : Tokens
  pub is : ts ≡ head ∷ tail
  pub starts : starts head ≡ true

here : (x : Token) (ts : Tokens) → starts x ≡ true → First (x ∷ ts)
here x ts h = record { head = x; tail = ts; is = refl; starts = h }

pub further : (a b : Tokens) → First a → First (a ++ b)
further a b f = record { head = f.head; tail = f.tail ++ b; is = ap (λ r. r ++ b) f.is; starts = f.starts }

prefix_starts : (op : PrefixOp) → starts_mark (prefix_mark op) ≡ true
prefix_starts prefix.Plus = refl
prefix_starts prefix.Minus = refl
prefix_starts prefix.Increment = refl
prefix_starts prefix.Decrement = refl
prefix_starts prefix.Complement = refl
prefix_starts prefix.Not = refl

params_first : (ps : JParams) (rest : Tokens) → First (params_tokens ps ++ rest)
params_first (params.One p) rest = here _ _ refl
params_first (params.Several lp ps commas rp) rest = here _ _ refl
params_first (params.Typed lp ps commas rp) rest = here _ _ refl

level_pos : (op : BinaryOp) → 1 ≤ level op
level_pos op.OrElse = omega arith
level_pos op.AndAlso = omega arith
level_pos op.BitOr = omega arith
level_pos op.BitXor = omega arith
level_pos op.BitAnd = omega arith
level_pos op.Equal = omega arith
level_pos op.NotEqual = omega arith
level_pos op.Less = omega arith
level_pos op.LessEqual = omega arith
level_pos op.Greater = omega arith
level_pos (op.GreaterEqual second) = omega arith
level_pos op.ShiftLeft = omega arith
level_pos (op.ShiftRight second) = omega arith
level_pos (op.ShiftUnsigned second third) = omega arith
level_pos op.Add = omega arith
level_pos op.Subtract = omega arith
level_pos op.Multiply = omega arith
level_pos op.Divide = omega arith
level_pos op.Remainder = omega arith

not_least : (literal : JLiteral) → is_least literal ≡ false → not (is_least literal) ≡ true
not_least literal h = rw h refl

layer_first : (d : ℕ) → ((l : ℕ) (x : JExpr) → 1 ≤ l → Stands d l x → First (tokens x)) → (x : JExpr-F JExpr) → 1 ≤ top_by x → stands_by d (TypeStands d) (TypedStands d) (Stands d) x
    → First (tokens_by (map-JExpr JExpr Tokens tokens x))
layer_first d h (JExpr-F.Name n at) g s = here _ _ refl
layer_first d h (JExpr-F.Literal literal at) g s = here _ _ (not_least literal s)
layer_first d h (JExpr-F.This at) g s = here _ _ refl
layer_first d h (JExpr-F.Paren lp inner rp) g s = here _ _ refl
layer_first d h (JExpr-F.Call n at lp args commas rp) g s = here _ _ refl
layer_first d h (JExpr-F.SuperCall above dot n at lp args commas rp) g s = here _ _ refl
layer_first d h (JExpr-F.Field left dot n at) g s = further _ _ (h _ left (omega arith) s)
layer_first d h (JExpr-F.Method left dot n at lp args commas rp) g s = further _ _ (h _ left (omega arith) s.0)
layer_first d h (JExpr-F.Element left lp index rp) g s = further _ _ (h _ left (omega arith) s.0)
layer_first d h (JExpr-F.Postfix left op at) g s = further _ _ (h _ left (omega arith) s)
layer_first d h (JExpr-F.Instanceof left at to) g s = further _ _ (h _ left (omega arith) s.0)
layer_first d h (JExpr-F.Prefix op at inner) g s = here _ _ (prefix_starts op)
layer_first d h (JExpr-F.MinusLeast minus literal at) g s = here _ _ refl
layer_first d h (JExpr-F.Cast lp to rp inner) g s = here _ _ refl
layer_first d h (JExpr-F.Binary left op at right) g s = further _ _ (h _ left (level_pos op) s.0)
layer_first d h (JExpr-F.Conditional left question then_ colon else_) g s = further _ _ (h _ left (omega arith) s.0)
layer_first d h (JExpr-F.Assign left op at right) g s = further _ _ (h _ left (omega arith) s.0)
layer_first d h (JExpr-F.Lambda params arrow body) g s = params_first params _
layer_first d h (JExpr-F.LambdaBlock params arrow body) g s = params_first params _
layer_first d h (JExpr-F.New at made lp args commas rp body) g s = here _ _ refl
layer_first d h (JExpr-F.NewArray at of lb size rb more) g s = here _ _ refl
layer_first d h (JExpr-F.NewFilled at of brackets lc inits commas more rc) g s = here _ _ refl
layer_first d h (JExpr-F.Braces lc inits commas more rc) g s = absurd (omega arith)

pub first : (d l : ℕ) (x : JExpr) → 1 ≤ l → Stands d l x → First (tokens x)
unfolding Stands top
first zero l x g s = absurd s
first (suc d) l x g s = rw (tokens_out x) (layer_first d (first d) (out-JExpr x) (omega (arith, s.0)) s.1)

-- whether an expression or a list of values in braces may begin so
abbrev pub begins : Token → Bool
begins (Token.Sign m.OpenCurly at) = true
begins token = starts token

pub record Begins (ts : Tokens) : Type 0 where
  pub head : Token
  pub tail : Tokens
  pub is : ts ≡ head ∷ tail
  pub begins : begins head ≡ true

starts_begins : (x : Token) → starts x ≡ true → begins x ≡ true
starts_begins (Token.Sign m.OpenCurly at) h = refl
starts_begins (Token.Sign _ at) h = h
starts_begins (Token.Id n at) h = h
starts_begins (Token.Literal literal at) h = h
starts_begins (Token.Word word at) h = h
starts_begins (Token.ArrowBody at body) h = h
starts_begins (Token.CloseBody at body) h = h

first_begins : (ts : Tokens) → First ts → Begins ts
first_begins ts f = record { head = f.head; tail = f.tail; is = f.is; begins = starts_begins f.head f.starts }

layer_begins : (d : ℕ) (x : JExpr-F JExpr) → stands_by d (TypeStands d) (TypedStands d) (Stands d) x → Begins (tokens_by (map-JExpr JExpr Tokens tokens x))
layer_begins d (JExpr-F.Braces lc inits commas more rc) s = record { head = Token.Sign m.OpenCurly lc; tail = _; is = refl; begins = refl }
layer_begins d (JExpr-F.Binary left op at right) s = first_begins _ (layer_first d (first d) (JExpr-F.Binary left op at right) (level_pos op) s)
layer_begins d x s = first_begins _ (layer_first d (first d) x (omega arith) s)

pub begins_any : (d l : ℕ) (x : JExpr) → Stands d l x → Begins (tokens x)
unfolding Stands
begins_any zero l x s = absurd s
begins_any (suc d) l x s = rw (tokens_out x) (layer_begins d (out-JExpr x) s.1)

sign_head : (x : Token) (ts us : Tokens) → begins_sign (x ∷ ts) ≡ begins_sign (x ∷ us)
sign_head (Token.Sign mark at) ts us = refl
sign_head (Token.Id n at) ts us = refl
sign_head (Token.Literal n at) ts us = refl
sign_head (Token.Word word at) ts us = refl
sign_head (Token.ArrowBody at body) ts us = refl
sign_head (Token.CloseBody at body) ts us = refl

pub sign_same : (a b : Tokens) → First a → begins_sign (a ++ b) ≡ begins_sign a
sign_same a b f = rw f.is (sign_head f.head (f.tail ++ b) f.tail)

unsigned : (x : Token) (ts us : Tokens) → starts x ≡ true → begins_sign (x ∷ us) ≡ false → begins_operand (x ∷ ts) ≡ true
unsigned (Token.Id n at) ts us s h = refl
unsigned (Token.Literal n at) ts us s h = refl
unsigned (Token.Sign m.OpenRound at) ts us s h = refl
unsigned (Token.Sign m.Not at) ts us s h = refl
unsigned (Token.Sign m.Tilde at) ts us s h = refl
unsigned (Token.Sign _ at) ts us s h = absurd (cc)
unsigned (Token.Word w.This at) ts us s h = refl
unsigned (Token.Word w.Super at) ts us s h = refl
unsigned (Token.Word w.New at) ts us s h = refl
unsigned (Token.Word _ at) ts us s h = absurd (cc s)
unsigned (Token.ArrowBody at body) ts us s h = absurd (cc s)
unsigned (Token.CloseBody at body) ts us s h = absurd (cc s)

pub operand_first : (a b : Tokens) → First a → begins_sign a ≡ false → begins_operand (a ++ b) ≡ true
operand_first a b f h = rw f.is (unsigned f.head _ _ f.starts (rw f.is at h))

not_primitive : (x : Token) (ts : Tokens) → starts x ≡ true → begins_primitive (x ∷ ts) ≡ false
not_primitive (Token.Id n at) ts s = refl
not_primitive (Token.Literal n at) ts s = refl
not_primitive (Token.Sign _ at) ts s = refl
not_primitive (Token.Word w.This at) ts s = refl
not_primitive (Token.Word w.Super at) ts s = refl
not_primitive (Token.Word w.New at) ts s = refl
not_primitive (Token.Word _ at) ts s = absurd (cc s)
not_primitive (Token.ArrowBody at body) ts s = absurd (cc s)
not_primitive (Token.CloseBody at body) ts s = absurd (cc s)

pub primitive_first : (a b : Tokens) → First a → begins_primitive (a ++ b) ≡ false
primitive_first a b f = rw f.is (not_primitive f.head _ f.starts)

-- ---- brackets match

pub record Skips (a : Tokens) : Type 0 where
  pub go : (n : ℕ) (rest : Tokens) → after_close n (a ++ rest) ≡ after_close n rest

none : Skips []
none = record { go = λ n rest. refl }

after_both : {a b : Tokens} → Skips a → Skips b → Skips (a ++ b)
after_both {a} {b} f g = record { go = λ n rest. rw (append_assoc a b rest) (f.go n (b ++ rest) ∙ g.go n rest) }

-- a token that is no bracket
abbrev is_plain_mark : Mark → Bool
is_plain_mark m.OpenRound = false
is_plain_mark m.CloseRound = false
is_plain_mark _ = true

abbrev is_plain : Token → Bool
is_plain (Token.Sign mark at) = is_plain_mark mark
is_plain (Token.CloseBody at body) = false
is_plain _ = true

plain_step : (x : Token) (n : ℕ) (rest : Tokens) → is_plain x ≡ true → after_close n (x ∷ rest) ≡ after_close n rest
unfolding after_close
plain_step (Token.Id x at) n rest h = refl
plain_step (Token.Literal x at) n rest h = refl
plain_step (Token.Word x at) n rest h = refl
plain_step (Token.ArrowBody at body) n rest h = refl
plain_step (Token.CloseBody at body) n rest h = absurd (cc h)
plain_step (Token.Sign m.OpenRound at) n rest h = absurd (cc h)
plain_step (Token.Sign m.CloseRound at) n rest h = absurd (cc h)
plain_step (Token.Sign _ at) n rest h = refl

then_plain : {x : Token} {a : Tokens} → is_plain x ≡ true → Skips a → Skips (x ∷ a)
then_plain {x} {a} h f = record { go = λ n rest. plain_step x n (a ++ rest) h ∙ f.go n rest }

opened : (lp rp : Position) (a b : Tokens) → Skips a → Skips b → Skips (Token.Sign m.OpenRound lp ∷ (a ++ Token.Sign m.CloseRound rp ∷ b))
unfolding after_close
opened lp rp a b f g = record { go = λ n rest. rw (append_assoc a (Token.Sign m.CloseRound rp ∷ b) rest) (f.go (suc n) (Token.Sign m.CloseRound rp ∷ (b ++ rest)) ∙ g.go n rest) }

-- arguments, and the `)` behind them
args_opened : (lp rp : Position) (body : Option Span) (a : Tokens) → Skips a → Skips (Token.Sign m.OpenRound lp ∷ (a ++ args_close rp body ∷ []))
unfolding after_close
args_opened lp rp None a f = opened lp rp a [] f none
args_opened lp rp (Some body) a f = record { go = λ n rest. rw (append_assoc a (Token.CloseBody rp body ∷ []) rest) (f.go (suc n) (Token.CloseBody rp body ∷ rest)) }

module _ (A : Type 0) (text : A → Tokens) (P : A → Type 0) (skips : (x : A) → P x → Skips (text x)) where
  more_skips : (ps : List Position) (xs : List A) → AllByRecursion P xs → Skips (more_tokens ps (map text xs))
  more_skips [] xs all = none
  more_skips (p ∷ ps) [] all = none
  more_skips (p ∷ ps) (x ∷ xs) all = then_plain refl (after_both (skips x all.0) (more_skips ps xs all.1))

  listed_skips : (ps : List Position) (xs : List A) → AllByRecursion P xs → Skips (listed ps (map text xs))
  listed_skips ps [] all = none
  listed_skips ps (x ∷ xs) all = after_both (skips x all.0) (more_skips ps xs all.1)

operator_skips : (op : BinaryOp) (at : Position) → Skips (operator_tokens op at)
operator_skips op.OrElse at = then_plain refl none
operator_skips op.AndAlso at = then_plain refl none
operator_skips op.BitOr at = then_plain refl none
operator_skips op.BitXor at = then_plain refl none
operator_skips op.BitAnd at = then_plain refl none
operator_skips op.Equal at = then_plain refl none
operator_skips op.NotEqual at = then_plain refl none
operator_skips op.Less at = then_plain refl none
operator_skips op.LessEqual at = then_plain refl none
operator_skips op.Greater at = then_plain refl none
operator_skips (op.GreaterEqual second) at = then_plain refl (then_plain refl none)
operator_skips op.ShiftLeft at = then_plain refl none
operator_skips (op.ShiftRight second) at = then_plain refl (then_plain refl none)
operator_skips (op.ShiftUnsigned second third) at = then_plain refl (then_plain refl (then_plain refl none))
operator_skips op.Add at = then_plain refl none
operator_skips op.Subtract at = then_plain refl none
operator_skips op.Multiply at = then_plain refl none
operator_skips op.Divide at = then_plain refl none
operator_skips op.Remainder at = then_plain refl none

assign_skips : (op : AssignOp) (at : Position) → Skips (assign_tokens op at)
assign_skips assign.Plain at = then_plain refl none
assign_skips assign.Add at = then_plain refl none
assign_skips assign.Subtract at = then_plain refl none
assign_skips assign.Multiply at = then_plain refl none
assign_skips assign.Divide at = then_plain refl none
assign_skips assign.Remainder at = then_plain refl none
assign_skips assign.ShiftLeft at = then_plain refl none
assign_skips (assign.ShiftRight second third) at = then_plain refl (then_plain refl (then_plain refl none))
assign_skips (assign.ShiftUnsigned second third fourth) at = then_plain refl (then_plain refl (then_plain refl (then_plain refl none)))
assign_skips assign.BitAnd at = then_plain refl none
assign_skips assign.BitOr at = then_plain refl none
assign_skips assign.BitXor at = then_plain refl none

prefix_plain : (op : PrefixOp) → is_plain_mark (prefix_mark op) ≡ true
prefix_plain prefix.Plus = refl
prefix_plain prefix.Minus = refl
prefix_plain prefix.Increment = refl
prefix_plain prefix.Decrement = refl
prefix_plain prefix.Complement = refl
prefix_plain prefix.Not = refl

postfix_plain : (op : PostfixOp) → is_plain_mark (postfix_mark op) ≡ true
postfix_plain postfix.Increment = refl
postfix_plain postfix.Decrement = refl

closing_plain : (j : Bool) → is_plain_mark (closing j) ≡ true
closing_plain true = refl
closing_plain false = refl

dotted_skips : (xs : List JDotted) → Skips (dotted_tokens xs)
dotted_skips [] = none
dotted_skips (x ∷ xs) = then_plain refl (then_plain refl (dotted_skips xs))

qualified_skips : (q : JQualified) → Skips (qualified_tokens q)
qualified_skips q = then_plain refl (dotted_skips q.rest)

brackets_skips : (xs : List JBrackets) → Skips (brackets_tokens xs)
brackets_skips [] = none
brackets_skips (x ∷ xs) = then_plain refl (then_plain refl (brackets_skips xs))

type_layer_skips : (d : ℕ) → ((x : JType) → TypeStands d x → Skips (type_tokens x)) → (x : JType-F JType) → type_stands_by (TypeStands d) x → Skips (type_tokens_by (map-JType JType Tokens type_tokens x))
type_layer_skips d h (JType-F.Primitive p at) s = then_plain refl none
type_layer_skips d h (JType-F.Class q) s = qualified_skips q
type_layer_skips d h (JType-F.Applied q lp args commas j rp) s =
    after_both (qualified_skips q) (then_plain refl (after_both (listed_skips JType type_tokens (TypeStands d) h commas args s.2) (then_plain (closing_plain j) none)))
type_layer_skips d h (JType-F.Array element brackets) s = after_both (h element s.2) (brackets_skips brackets)

pub type_skips : (d : ℕ) (x : JType) → TypeStands d x → Skips (type_tokens x)
unfolding TypeStands
type_skips zero x s = absurd s
type_skips (suc d) x s = subst Skips (sym (type_tokens_out x)) (type_layer_skips d (type_skips d) (out-JType x) s)

final_skips : (is_final : Option Position) → Skips (final_tokens is_final)
final_skips None = none
final_skips (Some at) = then_plain refl none

typed_one_skips : (d : ℕ) (p : JTypedParam) → TypedStands d p → Skips (typed_tokens p)
unfolding TypedStands
typed_one_skips zero p s = absurd s
typed_one_skips (suc d) p s = after_both (final_skips p.is_final) (after_both (type_skips d p.kind s) (then_plain refl none))

pub typed_skips : (d : ℕ) (ps : List JTypedParam) (commas : List Position) → AllByRecursion (TypedStands d) ps → Skips (listed commas (map typed_tokens ps))
typed_skips d ps commas all = listed_skips JTypedParam typed_tokens (TypedStands d) (typed_one_skips d) commas ps all

abbrev pub Any : JParam → Type 0
Any p = Unit {0}

pub any : (ps : List JParam) → AllByRecursion Any ps
any [] = tt
any (p ∷ ps) = (tt, any ps)

pub ident_skips : (ps : List JParam) (commas : List Position) → Skips (listed commas (map param_tokens ps))
ident_skips ps commas = listed_skips JParam param_tokens Any (λ p s. then_plain refl none) commas ps (any ps)

params_skips : (d : ℕ) (ps : JParams) → params_stand (TypedStands d) ps → Skips (params_tokens ps)
params_skips d (params.One p) s = then_plain refl none
params_skips d (params.Several lp ps commas rp) s = opened lp rp _ [] (ident_skips ps commas) none
params_skips d (params.Typed lp ps commas rp) s = opened lp rp _ [] (typed_skips d ps commas s.1) none

created_skips : (d : ℕ) (x : JCreated) → created_stands d x → Skips (created_tokens x)
created_skips d (created.Type x) s = type_skips (suc d) x s.0
created_skips d (created.Inferred q lp j close) s = after_both (qualified_skips q) (then_plain refl (then_plain (closing_plain j) none))

trailing_skips : (more : Option Position) → Skips (trailing more)
trailing_skips None = none
trailing_skips (Some at) = then_plain refl none

module _ (d : ℕ) (h : (l : ℕ) (x : JExpr) → Stands d l x → Skips (tokens x)) where
  all_skip : (l : ℕ) (commas : List Position) (xs : List JExpr) → AllByRecursion (Stands d l) xs → Skips (listed commas (map tokens xs))
  all_skip l commas xs all = listed_skips JExpr tokens (Stands d l) (h l) commas xs all

  braces_skips : (lc : Position) (inits : List JExpr) (commas : List Position) (more : Option Position) (rc : Position) → AllByRecursion (Stands d init_level) inits
      → Skips (braces_tokens lc (map tokens inits) commas more rc)
  braces_skips lc inits commas more rc all = then_plain refl (after_both (all_skip init_level commas inits all) (after_both (trailing_skips more) (then_plain refl none)))

  layer_skips : (x : JExpr-F JExpr) → stands_by d (TypeStands d) (TypedStands d) (Stands d) x → Skips (tokens_by (map-JExpr JExpr Tokens tokens x))
  layer_skips (JExpr-F.Name x at) s = then_plain refl none
  layer_skips (JExpr-F.Literal x at) s = then_plain refl none
  layer_skips (JExpr-F.This at) s = then_plain refl none
  layer_skips (JExpr-F.Paren lp inner rp) s = opened lp rp _ [] (h _ inner s) none
  layer_skips (JExpr-F.Call x at lp args commas rp) s = then_plain refl (opened lp rp _ [] (all_skip any_level commas args s.1) none)
  layer_skips (JExpr-F.SuperCall above dot x at lp args commas rp) s = then_plain refl (then_plain refl (then_plain refl (opened lp rp _ [] (all_skip any_level commas args s.1) none)))
  layer_skips (JExpr-F.Field left dot x at) s = after_both (h _ left s) (then_plain refl (then_plain refl none))
  layer_skips (JExpr-F.Method left dot x at lp args commas rp) s = after_both (h _ left s.0) (then_plain refl (then_plain refl (opened lp rp _ [] (all_skip any_level commas args s.2) none)))
  layer_skips (JExpr-F.Element left lp index rp) s = after_both (h _ left s.0) (then_plain refl (after_both (h _ index s.2) (then_plain refl none)))
  layer_skips (JExpr-F.Postfix left op at) s = after_both (h _ left s) (then_plain (postfix_plain op) none)
  layer_skips (JExpr-F.Instanceof left at to) s = after_both (h _ left s.0) (then_plain refl (type_skips d to s.1))
  layer_skips (JExpr-F.Prefix op at inner) s = then_plain (prefix_plain op) (h _ inner s)
  layer_skips (JExpr-F.MinusLeast minus literal at) s = then_plain refl (then_plain refl none)
  layer_skips (JExpr-F.Cast lp to rp inner) s = opened lp rp _ _ (type_skips d to s.0) (h _ inner s.1)
  layer_skips (JExpr-F.Binary left op at right) s = after_both (h _ left s.0) (after_both (operator_skips op at) (h _ right s.1))
  layer_skips (JExpr-F.Conditional left question then_ colon else_) s = after_both (h _ left s.0) (then_plain refl (after_both (h _ then_ s.1) (then_plain refl (h _ else_ s.2))))
  layer_skips (JExpr-F.Assign left op at right) s = after_both (h _ left s.0) (after_both (assign_skips op at) (h _ right s.2))
  layer_skips (JExpr-F.Lambda params arrow body) s = after_both (params_skips d params s.0) (then_plain refl (h _ body s.1))
  layer_skips (JExpr-F.LambdaBlock params arrow body) s = after_both (params_skips d params s.0) (then_plain refl none)
  layer_skips (JExpr-F.New at made lp args commas rp body) s = then_plain refl (after_both (created_skips d made s.0) (args_opened lp rp body _ (all_skip any_level commas args s.2)))
  layer_skips (JExpr-F.NewArray at of lb size rb more) s =
      then_plain refl (after_both (type_skips (suc d) of s.0) (then_plain refl (after_both (h _ size s.2) (then_plain refl (brackets_skips more)))))
  layer_skips (JExpr-F.NewFilled at of brackets lc inits commas more rc) s =
      then_plain refl (after_both (type_skips (suc d) of s.0) (after_both (brackets_skips brackets) (braces_skips lc inits commas more rc s.4)))
  layer_skips (JExpr-F.Braces lc inits commas more rc) s = braces_skips lc inits commas more rc s.1

pub skips : (d l : ℕ) (x : JExpr) → Stands d l x → Skips (tokens x)
unfolding Stands
skips zero l x s = absurd s
skips (suc d) l x s = subst Skips (sym (tokens_out x)) (layer_skips d (skips d) (out-JExpr x) s.1)

-- ---- the first token of a type or a parameter

abbrev pub names : Token → Bool
names (Token.Id n at) = true
names (Token.Word word at) = true
names _ = false

pub record Named (ts : Tokens) : Type 0 where
  pub head : Token
  pub tail : Tokens
  pub is : ts ≡ head ∷ tail
  pub names : names head ≡ true

named : (x : Token) (ts : Tokens) → names x ≡ true → Named (x ∷ ts)
named x ts h = record { head = x; tail = ts; is = refl; names = h }

pub longer : (a b : Tokens) → Named a → Named (a ++ b)
longer a b f = record { head = f.head; tail = f.tail ++ b; is = ap (λ r. r ++ b) f.is; names = f.names }

type_layer_named : (d : ℕ) → ((x : JType) → TypeStands d x → Named (type_tokens x)) → (x : JType-F JType) → type_stands_by (TypeStands d) x → Named (type_tokens_by (map-JType JType Tokens type_tokens x))
type_layer_named d h (JType-F.Primitive p at) s = named _ _ refl
type_layer_named d h (JType-F.Class q) s = named _ _ refl
type_layer_named d h (JType-F.Applied q lp args commas j rp) s = named _ _ refl
type_layer_named d h (JType-F.Array element brackets) s = longer _ _ (h element s.2)

pub type_named : (d : ℕ) (x : JType) → TypeStands d x → Named (type_tokens x)
unfolding TypeStands
type_named zero x s = absurd s
type_named (suc d) x s = rw (type_tokens_out x) (type_layer_named d (type_named d) (out-JType x) s)

final_named : (is_final : Option Position) (ts : Tokens) → Named ts → Named (final_tokens is_final ++ ts)
final_named None ts f = f
final_named (Some at) ts f = named _ _ refl

pub typed_named : (d : ℕ) (p : JTypedParam) → TypedStands d p → Named (typed_tokens p)
unfolding TypedStands
typed_named zero p s = absurd s
typed_named (suc d) p s = final_named p.is_final _ (longer _ _ (type_named d p.kind s))

-- ---- names in parentheses, or parameters with types

pub names_begin : (p : JParam) (ps : List JParam) (commas : List Position) (rp : Position) (rest : Tokens) → AreBetween commas (p ∷ ps)
    → begins_names (listed commas (map param_tokens (p ∷ ps)) ++ Token.Sign m.CloseRound rp ∷ rest) ≡ true
names_begin p [] [] rp rest b = refl
names_begin p [] (c ∷ commas) rp rest b = absurd (omega (arith, b))
names_begin p (x ∷ ps) [] rp rest b = absurd (omega (arith, b))
names_begin p (x ∷ ps) (c ∷ commas) rp rest b = refl

-- whether a comma or a `)` comes first
abbrev ends_names : Tokens → Bool
ends_names (Token.Sign mark at ∷ rest) = ends_name mark
ends_names _ = false

dotted_no_names : (n : List ℕ) (at : Position) (xs : List JDotted) (rest : Tokens) → ends_names rest ≡ false → begins_names (Token.Id n at ∷ (dotted_tokens xs ++ rest)) ≡ false
dotted_no_names n at [] (Token.Sign mark p ∷ rest) h = h
dotted_no_names n at [] _ h = refl
dotted_no_names n at (x ∷ xs) rest h = refl

brackets_no_end : (xs : List JBrackets) (rest : Tokens) → ends_names rest ≡ false → ends_names (brackets_tokens xs ++ rest) ≡ false
brackets_no_end [] rest h = h
brackets_no_end (x ∷ xs) rest h = refl

abbrev NoNames : Tokens → Type 0
NoNames text = (rest : Tokens) → ends_names rest ≡ false → begins_names (text ++ rest) ≡ false

type_layer_no_names : (d : ℕ) → ((x : JType) → TypeStands d x → NoNames (type_tokens x)) → (x : JType-F JType) → type_stands_by (TypeStands d) x → NoNames (type_tokens_by (map-JType JType Tokens type_tokens x))
type_layer_no_names d h (JType-F.Primitive p at) s rest q = refl
type_layer_no_names d h (JType-F.Class n) s rest q = dotted_no_names n.name n.at n.rest rest q
type_layer_no_names d h (JType-F.Applied n lp args commas j rp) s rest q =
    rw (append_assoc (dotted_tokens n.rest) (Token.Sign m.Less lp ∷ (listed commas (map type_tokens args) ++ Token.Sign (closing j) rp ∷ [])) rest) (dotted_no_names n.name n.at n.rest _ refl)
type_layer_no_names d h (JType-F.Array element brackets) s rest q =
    rw (append_assoc (type_tokens element) (brackets_tokens brackets) rest) (h element s.2 (brackets_tokens brackets ++ rest) (brackets_no_end brackets rest q))

type_no_names : (d : ℕ) (x : JType) → TypeStands d x → NoNames (type_tokens x)
unfolding TypeStands
type_no_names zero x s rest q = absurd s
type_no_names (suc d) x s rest q = rw (type_tokens_out x) (type_layer_no_names d (type_no_names d) (out-JType x) s rest q)

final_no_names : (is_final : Option Position) (ts rest : Tokens) → begins_names (ts ++ rest) ≡ false → begins_names ((final_tokens is_final ++ ts) ++ rest) ≡ false
final_no_names None ts rest h = h
final_no_names (Some at) ts rest h = refl

typed_no_names : (d : ℕ) (p : JTypedParam) → TypedStands d p → (rest : Tokens) → begins_names (typed_tokens p ++ rest) ≡ false
unfolding TypedStands
typed_no_names zero p s rest = absurd s
typed_no_names (suc d) p s rest =
    final_no_names p.is_final _ rest (rw (append_assoc (type_tokens p.kind) (Token.Id p.name p.at ∷ []) rest) (type_no_names d p.kind s (Token.Id p.name p.at ∷ rest) refl))

pub typed_begin : (d : ℕ) (ps : List JTypedParam) (commas : List Position) (rp : Position) (rest : Tokens) → AllByRecursion (TypedStands d) ps
    → begins_names (listed commas (map typed_tokens ps) ++ Token.Sign m.CloseRound rp ∷ rest) ≡ false
typed_begin d [] commas rp rest all = refl
typed_begin d (p ∷ ps) commas rp rest all =
    rw (append_assoc (typed_tokens p) (more_tokens commas (map typed_tokens ps)) (Token.Sign m.CloseRound rp ∷ rest)) (typed_no_names d p all.0 _)

-- ---- a name with `<` and `>` behind it, or a type

pub dotted_past : (xs : List JDotted) (rest : Tokens) → (dotted (dotted_tokens xs ++ rest)).1 ≡ (dotted rest).1
unfolding dotted
dotted_past [] rest = refl
dotted_past (x ∷ xs) rest = dotted_past xs rest

-- whether `<` and `>` come behind the dots and names that come first
abbrev pub goes_inferred : Tokens → Bool
goes_inferred ts = begins_inferred_by (dotted ts).1

name_inferred : (q : JQualified) (rest : Tokens) → begins_inferred (qualified_tokens q ++ rest) ≡ goes_inferred rest
name_inferred q rest = ap begins_inferred_by (dotted_past q.rest rest)

closing_closes : (j : Bool) (close : Position) (rest : Tokens) → is_some (closes (Token.Sign (closing j) close ∷ rest)) ≡ true
closing_closes true close rest = refl
closing_closes false close rest = refl

less_inferred : (lp : Position) (rest : Tokens) → goes_inferred (Token.Sign m.Less lp ∷ rest) ≡ is_some (closes rest)
unfolding dotted
less_inferred lp rest = refl

pub inferred_begins : (q : JQualified) (lp : Position) (j : Bool) (close : Position) (rest : Tokens) → begins_inferred (created_tokens (created.Inferred q lp j close) ++ rest) ≡ true
inferred_begins q lp j close rest =
    ap begins_inferred (append_assoc (qualified_tokens q) (Token.Sign m.Less lp ∷ Token.Sign (closing j) close ∷ []) rest)
    ∙ name_inferred q _ ∙ less_inferred lp _ ∙ closing_closes j close rest

no_closes : (ts : Tokens) → Named ts → is_some (closes ts) ≡ false
no_closes ts f = rw f.is (no_head f.head f.tail f.names)
  where
    no_head : (x : Token) (ts : Tokens) → names x ≡ true → is_some (closes (x ∷ ts)) ≡ false
    no_head (Token.Sign mark at) ts h = absurd (cc h)
    no_head _ ts h = refl

args_no_close : (d : ℕ) (args : List JType) (commas : List Position) (rest : Tokens) → 1 ≤ length args → AllByRecursion (TypeStands d) args
    → is_some (closes (listed commas (map type_tokens args) ++ rest)) ≡ false
args_no_close d [] commas rest h all = absurd (omega (arith, h))
args_no_close d (x ∷ xs) commas rest h all = no_closes _ (longer _ rest (longer _ _ (type_named d x all.0)))

brackets_inferred : (xs : List JBrackets) (rest : Tokens) → goes_inferred rest ≡ false → goes_inferred (brackets_tokens xs ++ rest) ≡ false
unfolding dotted
brackets_inferred [] rest h = h
brackets_inferred (x ∷ xs) rest h = refl

abbrev NotInferred : Tokens → Type 0
NotInferred text = (rest : Tokens) → goes_inferred rest ≡ false → begins_inferred (text ++ rest) ≡ false

type_layer_inferred : (d : ℕ) → ((x : JType) → TypeStands d x → NotInferred (type_tokens x)) → (x : JType-F JType) → type_stands_by (TypeStands d) x → NotInferred (type_tokens_by (map-JType JType Tokens type_tokens x))
type_layer_inferred d h (JType-F.Primitive p at) s rest q = refl
type_layer_inferred d h (JType-F.Class n) s rest q = name_inferred n rest ∙ q
type_layer_inferred d h (JType-F.Applied n lp args commas j rp) s rest q =
    ap begins_inferred (append_assoc (qualified_tokens n) (Token.Sign m.Less lp ∷ (listed commas (map type_tokens args) ++ Token.Sign (closing j) rp ∷ [])) rest)
    ∙ name_inferred n _ ∙ less_inferred lp _
    ∙ rw (append_assoc (listed commas (map type_tokens args)) (Token.Sign (closing j) rp ∷ []) rest) (args_no_close d args commas _ s.0 s.2)
type_layer_inferred d h (JType-F.Array element brackets) s rest q =
    rw (append_assoc (type_tokens element) (brackets_tokens brackets) rest) (h element s.2 (brackets_tokens brackets ++ rest) (brackets_inferred brackets rest q))

pub type_inferred : (d : ℕ) (x : JType) → TypeStands d x → (rest : Tokens) → goes_inferred rest ≡ false → begins_inferred (type_tokens x ++ rest) ≡ false
unfolding TypeStands
type_inferred zero x s rest q = absurd s
type_inferred (suc d) x s rest q = rw (type_tokens_out x) (type_layer_inferred d (type_inferred d) (out-JType x) s rest q)
