-- What comes first: a declaration, a call of a constructor, the name of a class with `class` behind it, or none of these.
use Rattle.std.proofs.Common.{◌≡◌, ◌≤◌, ℕ, zero, suc, Bool, true, false, ◌++◌, List, [], ◌∷◌, map, Option, Some, None, refl, ap, sym, ◌∙◌, subst, append_assoc, arith}
use Rattle.java_tree.specs.declared.tokens.Position.{Position}
use Rattle.java_tree.specs.declared.tokens.Mark.TheVariants as m
use Rattle.java_tree.specs.declared.tokens.Keyword.TheVariants as w
use Rattle.java_tree.specs.Seen.{Token, Tokens}
use Rattle.java_tree.specs.declared.types.Primitive.{Primitive}
use Rattle.java_tree.specs.declared.types.Primitive.TheVariants as primitive
use Rattle.java_tree.specs.declared.types.JQualified.{JQualified}
use Rattle.java_tree.specs.declared.types.JBrackets.{JBrackets}
use Rattle.java_tree.specs.declared.types.JType.{JType, out-JType, map-JType}
use Rattle.java_tree.specs.declared.types.JType.TheOpen.{JType-F}
use Rattle.java_tree.specs.declared.exprs.PostfixOp.{PostfixOp}
use Rattle.java_tree.specs.declared.exprs.PostfixOp.TheVariants as postfix
use Rattle.java_tree.specs.declared.exprs.BinaryOp.{BinaryOp}
use Rattle.java_tree.specs.declared.exprs.BinaryOp.TheVariants as op
use Rattle.java_tree.specs.declared.exprs.AssignOp.{AssignOp}
use Rattle.java_tree.specs.declared.exprs.AssignOp.TheVariants as assign
use Rattle.java_tree.specs.declared.exprs.JParams.{JParams}
use Rattle.java_tree.specs.declared.exprs.JParams.TheVariants as params
use Rattle.java_tree.specs.declared.exprs.JExpr.{JExpr, out-JExpr, map-JExpr}
use Rattle.java_tree.specs.declared.exprs.JExpr.TheOpen.{JExpr-F}
use Rattle.java_tree.specs.Trees.{listed, closing, primitive_word, brackets_tokens, qualified_tokens, type_tokens, type_tokens_by, type_stands_by, TypeStands, TypedStands, postfix_mark, operator_tokens, assign_tokens, any_level, primary_level, postfix_level, top, top_by, final_tokens, params_tokens, tokens, tokens_by, stands_by, Stands}
use Rattle.java_expr_grammar.specs.Reading.{dotted}
use Rattle.java_expr_grammar.proofs.LawsToCite.{First, further, first, starts, tokens_out, type_tokens_out, dotted_past, level_small}
use Rattle.java_statement_grammar.specs.Heads.{is_statement, is_statement_by, StatementStands}
use Rattle.java_statement_grammar.specs.Reading.{declares, word_declares, begins_declaration, class_of, class_lock}

-- ---- no statement that is an expression begins with a declaration, or calls a constructor

abbrev begins_round : Tokens → Bool
begins_round (Token.Sign m.OpenRound lp ∷ rest) = true
begins_round _ = false

-- whether `this` or `super` with a `(` behind it comes first
abbrev pub constructs : Tokens → Bool
constructs (Token.Word w.This at ∷ rest) = begins_round rest
constructs (Token.Word w.Super at ∷ rest) = begins_round rest
constructs _ = false

-- neither comes first
abbrev pub Plain : Tokens → Type 0
Plain ts = (begins_declaration ts ≡ false) × (constructs ts ≡ false)

-- so that neither comes of it with what stands before
abbrev Follows : Tokens → Type 0
Follows rest = (declares (dotted rest).1 ≡ false) × (begins_round rest ≡ false)

abbrev StaysPlain : Tokens → Type 0
StaysPlain text = (rest : Tokens) → Follows rest → Plain (text ++ rest)

behind : (a b rest : Tokens) → Plain (a ++ (b ++ rest)) → Plain ((a ++ b) ++ rest)
behind a b rest h = subst Plain (sym (append_assoc a b rest)) h

square_follows : (lb : Position) (ts : Tokens) → First ts → Follows (Token.Sign m.OpenSquare lb ∷ ts)
unfolding dotted
square_follows lb ts f = subst (λ ts. Follows (Token.Sign m.OpenSquare lb ∷ ts)) (sym f.is) (no_pair f.head f.tail f.starts, refl)
  where
    no_pair : (x : Token) (ts : Tokens) → starts x ≡ true → declares (Token.Sign m.OpenSquare lb ∷ x ∷ ts) ≡ false
    no_pair (Token.Sign m.CloseSquare at) ts h = absurd (cc h)
    no_pair _ ts h = refl

postfix_follows : (op : PostfixOp) (at : Position) (rest : Tokens) → Follows (Token.Sign (postfix_mark op) at ∷ rest)
unfolding dotted
postfix_follows postfix.Increment at rest = (refl, refl)
postfix_follows postfix.Decrement at rest = (refl, refl)

assign_follows : (op : AssignOp) (at : Position) (right rest : Tokens) → Follows ((assign_tokens op at ++ right) ++ rest)
unfolding dotted
assign_follows assign.Plain at right rest = (refl, refl)
assign_follows assign.Add at right rest = (refl, refl)
assign_follows assign.Subtract at right rest = (refl, refl)
assign_follows assign.Multiply at right rest = (refl, refl)
assign_follows assign.Divide at right rest = (refl, refl)
assign_follows assign.Remainder at right rest = (refl, refl)
assign_follows assign.ShiftLeft at right rest = (refl, refl)
assign_follows (assign.ShiftRight second third) at right rest = (refl, refl)
assign_follows (assign.ShiftUnsigned second third fourth) at right rest = (refl, refl)
assign_follows assign.BitAnd at right rest = (refl, refl)
assign_follows assign.BitOr at right rest = (refl, refl)
assign_follows assign.BitXor at right rest = (refl, refl)

-- the forms down the left side, which stand at the level of a postfix
module _ (d : ℕ) (h : (l : ℕ) (x : JExpr) → postfix_level ≤ l → Stands d l x → StaysPlain (tokens x)) where
  spine : (x : JExpr-F JExpr) → postfix_level ≤ top_by x → stands_by d (TypeStands d) (TypedStands d) (Stands d) x → StaysPlain (tokens_by (map-JExpr JExpr Tokens tokens x))
  unfolding dotted
  spine (JExpr-F.Name n at) g s rest q = (q.0, refl)
  spine (JExpr-F.Literal n at) g s rest q = (refl, refl)
  spine (JExpr-F.This at) g s rest q = (refl, q.1)
  spine (JExpr-F.Paren lp inner rp) g s rest q = (refl, refl)
  spine (JExpr-F.Call n at lp args commas rp) g s rest q = (refl, refl)
  spine (JExpr-F.SuperCall above dot n at lp args commas rp) g s rest q = (refl, refl)
  spine (JExpr-F.Field left dot n at) g s rest q = behind (tokens left) _ rest (h primary_level left (omega arith) s (Token.Sign m.Dot dot ∷ Token.Id n at ∷ rest) (q.0, refl))
  spine (JExpr-F.Method left dot n at lp args commas rp) g s rest q =
      behind (tokens left) _ rest (h primary_level left (omega arith) s.0 (Token.Sign m.Dot dot ∷ Token.Id n at ∷ Token.Sign m.OpenRound lp ∷ ((listed commas (map tokens args) ++ Token.Sign m.CloseRound rp ∷ []) ++ rest)) (refl, refl))
  spine (JExpr-F.Element left lb index rb) g s rest q =
      behind (tokens left) _ rest (h primary_level left (omega arith) s.0 (Token.Sign m.OpenSquare lb ∷ ((tokens index ++ Token.Sign m.CloseSquare rb ∷ []) ++ rest))
      (square_follows lb _ (further _ rest (further (tokens index) _ (first d any_level index (omega arith) s.2)))))
  spine (JExpr-F.Postfix left op at) g s rest q = behind (tokens left) _ rest (h postfix_level left (omega arith) s (Token.Sign (postfix_mark op) at ∷ rest) (postfix_follows op at rest))
  spine (JExpr-F.Prefix op at inner) g s rest q = absurd (omega arith)
  spine (JExpr-F.MinusLeast minus literal at) g s rest q = absurd (omega arith)
  spine (JExpr-F.Cast lp to rp inner) g s rest q = absurd (omega arith)
  spine (JExpr-F.Binary left op at right) g s rest q = absurd (omega (arith, level_small op))
  spine (JExpr-F.Instanceof left at to) g s rest q = absurd (omega arith)
  spine (JExpr-F.Conditional left question then_ colon else_) g s rest q = absurd (omega arith)
  spine (JExpr-F.Assign left op at right) g s rest q = absurd (omega arith)
  spine (JExpr-F.Lambda params arrow body) g s rest q = absurd (omega arith)
  spine (JExpr-F.LambdaBlock params arrow body) g s rest q = absurd (omega arith)
  spine (JExpr-F.New at made lp args commas rp body) g s rest q = (refl, refl)
  spine (JExpr-F.NewArray at of lb size rb more) g s rest q = (refl, refl)
  spine (JExpr-F.NewFilled at of brackets lc inits commas more rc) g s rest q = (refl, refl)
  spine (JExpr-F.Braces lc inits commas more rc) g s rest q = absurd (omega arith)

stays_plain : (d l : ℕ) (x : JExpr) → postfix_level ≤ l → Stands d l x → StaysPlain (tokens x)
unfolding Stands top
stays_plain zero l x g s rest q = absurd s
stays_plain (suc d) l x g s rest q = subst (λ text. Plain (text ++ rest)) (sym (tokens_out x)) (spine d (stays_plain d) (out-JExpr x) (omega (arith, s.0)) s.1 rest q)

layer_plain : (d : ℕ) (x : JExpr-F JExpr) → is_statement_by x ≡ true → stands_by d (TypeStands d) (TypedStands d) (Stands d) x
    → (rest : Tokens) → Plain (tokens_by (map-JExpr JExpr Tokens tokens x) ++ rest)
unfolding dotted
layer_plain d (JExpr-F.Assign left op at right) i s rest =
    behind (tokens left) _ rest (stays_plain d primary_level left (omega arith) s.0 ((assign_tokens op at ++ tokens right) ++ rest) (assign_follows op at (tokens right) rest))
layer_plain d (JExpr-F.Prefix op at inner) i s rest = (refl, refl)
layer_plain d (JExpr-F.Postfix left op at) i s rest =
    behind (tokens left) _ rest (stays_plain d postfix_level left (omega arith) s (Token.Sign (postfix_mark op) at ∷ rest) (postfix_follows op at rest))
layer_plain d (JExpr-F.Call n at lp args commas rp) i s rest = (refl, refl)
layer_plain d (JExpr-F.SuperCall above dot n at lp args commas rp) i s rest = (refl, refl)
layer_plain d (JExpr-F.Method left dot n at lp args commas rp) i s rest =
    behind (tokens left) _ rest (stays_plain d primary_level left (omega arith) s.0 (Token.Sign m.Dot dot ∷ Token.Id n at ∷ Token.Sign m.OpenRound lp ∷ ((listed commas (map tokens args) ++ Token.Sign m.CloseRound rp ∷ []) ++ rest)) (refl, refl))
layer_plain d (JExpr-F.New at made lp args commas rp body) i s rest = (refl, refl)
layer_plain d _ i s rest = absurd (cc i)

statement_layer : (d : ℕ) (x : JExpr) → Stands d any_level x → is_statement x ≡ true → (rest : Tokens) → Plain (tokens x ++ rest)
unfolding Stands is_statement
statement_layer zero x s i rest = absurd s
statement_layer (suc d) x s i rest = subst (λ text. Plain (text ++ rest)) (sym (tokens_out x)) (layer_plain d (out-JExpr x) i s.1 rest)

-- A statement that is an expression is plain, whatever follows.
pub statement_plain : (d : ℕ) (x : JExpr) → StatementStands d x → (rest : Tokens) → Plain (tokens x ++ rest)
statement_plain d x s rest = statement_layer d x s.stands s.form rest

-- ---- no expression begins with the name of a class with `class` behind it

abbrev ends_class : Tokens → Bool
ends_class (Token.Sign m.Dot dot ∷ Token.Word w.Class at ∷ rest) = true
ends_class _ = false

abbrev names_class : Tokens → Bool
names_class (Token.Id n at ∷ rest) = ends_class (dotted rest).1
names_class _ = false

abbrev NoClass : Tokens → Type 0
NoClass text = (rest : Tokens) → ends_class (dotted rest).1 ≡ false → names_class (text ++ rest) ≡ false

class_behind : (a b rest : Tokens) → names_class (a ++ (b ++ rest)) ≡ false → names_class ((a ++ b) ++ rest) ≡ false
class_behind a b rest h = ap names_class (append_assoc a b rest) ∙ h

operator_no_class : (op : BinaryOp) (at : Position) (right rest : Tokens) → ends_class (dotted ((operator_tokens op at ++ right) ++ rest)).1 ≡ false
unfolding dotted
operator_no_class op.OrElse at right rest = refl
operator_no_class op.AndAlso at right rest = refl
operator_no_class op.BitOr at right rest = refl
operator_no_class op.BitXor at right rest = refl
operator_no_class op.BitAnd at right rest = refl
operator_no_class op.Equal at right rest = refl
operator_no_class op.NotEqual at right rest = refl
operator_no_class op.Less at right rest = refl
operator_no_class op.LessEqual at right rest = refl
operator_no_class op.Greater at right rest = refl
operator_no_class (op.GreaterEqual second) at right rest = refl
operator_no_class op.ShiftLeft at right rest = refl
operator_no_class (op.ShiftRight second) at right rest = refl
operator_no_class (op.ShiftUnsigned second third) at right rest = refl
operator_no_class op.Add at right rest = refl
operator_no_class op.Subtract at right rest = refl
operator_no_class op.Multiply at right rest = refl
operator_no_class op.Divide at right rest = refl
operator_no_class op.Remainder at right rest = refl

assign_no_class : (op : AssignOp) (at : Position) (right rest : Tokens) → ends_class (dotted ((assign_tokens op at ++ right) ++ rest)).1 ≡ false
unfolding dotted
assign_no_class assign.Plain at right rest = refl
assign_no_class assign.Add at right rest = refl
assign_no_class assign.Subtract at right rest = refl
assign_no_class assign.Multiply at right rest = refl
assign_no_class assign.Divide at right rest = refl
assign_no_class assign.Remainder at right rest = refl
assign_no_class assign.ShiftLeft at right rest = refl
assign_no_class (assign.ShiftRight second third) at right rest = refl
assign_no_class (assign.ShiftUnsigned second third fourth) at right rest = refl
assign_no_class assign.BitAnd at right rest = refl
assign_no_class assign.BitOr at right rest = refl
assign_no_class assign.BitXor at right rest = refl

postfix_no_class : (op : PostfixOp) (at : Position) (rest : Tokens) → ends_class (dotted (Token.Sign (postfix_mark op) at ∷ rest)).1 ≡ false
unfolding dotted
postfix_no_class postfix.Increment at rest = refl
postfix_no_class postfix.Decrement at rest = refl

params_no_class : (ps : JParams) (ts rest : Tokens) → ends_class (dotted (ts ++ rest)).1 ≡ false → names_class ((params_tokens ps ++ ts) ++ rest) ≡ false
params_no_class (params.One p) ts rest h = h
params_no_class (params.Several lp ps commas rp) ts rest h = refl
params_no_class (params.Typed lp ps commas rp) ts rest h = refl

module _ (d : ℕ) (h : (l : ℕ) (x : JExpr) → Stands d l x → NoClass (tokens x)) where
  class_layer : (x : JExpr-F JExpr) → stands_by d (TypeStands d) (TypedStands d) (Stands d) x → NoClass (tokens_by (map-JExpr JExpr Tokens tokens x))
  unfolding dotted
  class_layer (JExpr-F.Name n at) s rest q = q
  class_layer (JExpr-F.Literal n at) s rest q = refl
  class_layer (JExpr-F.This at) s rest q = refl
  class_layer (JExpr-F.Paren lp inner rp) s rest q = refl
  class_layer (JExpr-F.Call n at lp args commas rp) s rest q = refl
  class_layer (JExpr-F.SuperCall above dot n at lp args commas rp) s rest q = refl
  class_layer (JExpr-F.Field left dot n at) s rest q = class_behind (tokens left) _ rest (h _ left s (Token.Sign m.Dot dot ∷ Token.Id n at ∷ rest) q)
  class_layer (JExpr-F.Method left dot n at lp args commas rp) s rest q =
      class_behind (tokens left) _ rest (h _ left s.0 (Token.Sign m.Dot dot ∷ Token.Id n at ∷ Token.Sign m.OpenRound lp ∷ ((listed commas (map tokens args) ++ Token.Sign m.CloseRound rp ∷ []) ++ rest)) refl)
  class_layer (JExpr-F.Element left lb index rb) s rest q =
      class_behind (tokens left) _ rest (h _ left s.0 (Token.Sign m.OpenSquare lb ∷ ((tokens index ++ Token.Sign m.CloseSquare rb ∷ []) ++ rest)) refl)
  class_layer (JExpr-F.Postfix left op at) s rest q = class_behind (tokens left) _ rest (h _ left s (Token.Sign (postfix_mark op) at ∷ rest) (postfix_no_class op at rest))
  class_layer (JExpr-F.Prefix op at inner) s rest q = refl
  class_layer (JExpr-F.MinusLeast minus literal at) s rest q = refl
  class_layer (JExpr-F.Cast lp to rp inner) s rest q = refl
  class_layer (JExpr-F.Binary left op at right) s rest q = class_behind (tokens left) _ rest (h _ left s.0 ((operator_tokens op at ++ tokens right) ++ rest) (operator_no_class op at (tokens right) rest))
  class_layer (JExpr-F.Instanceof left at to) s rest q = class_behind (tokens left) _ rest (h _ left s.0 (Token.Word w.Instanceof at ∷ (type_tokens to ++ rest)) refl)
  class_layer (JExpr-F.Conditional left question then_ colon else_) s rest q =
      class_behind (tokens left) _ rest (h _ left s.0 (Token.Sign m.Question question ∷ ((tokens then_ ++ Token.Sign m.Colon colon ∷ tokens else_) ++ rest)) refl)
  class_layer (JExpr-F.Assign left op at right) s rest q = class_behind (tokens left) _ rest (h _ left s.0 ((assign_tokens op at ++ tokens right) ++ rest) (assign_no_class op at (tokens right) rest))
  class_layer (JExpr-F.Lambda params arrow body) s rest q = params_no_class params (Token.Sign m.Arrow arrow ∷ tokens body) rest refl
  class_layer (JExpr-F.LambdaBlock params arrow body) s rest q = params_no_class params (Token.ArrowBody arrow body ∷ []) rest refl
  class_layer (JExpr-F.New at made lp args commas rp body) s rest q = refl
  class_layer (JExpr-F.NewArray at of lb size rb more) s rest q = refl
  class_layer (JExpr-F.NewFilled at of brackets lc inits commas more rc) s rest q = refl
  class_layer (JExpr-F.Braces lc inits commas more rc) s rest q = refl

no_class : (d l : ℕ) (x : JExpr) → Stands d l x → NoClass (tokens x)
unfolding Stands
no_class zero l x s rest q = absurd s
no_class (suc d) l x s rest q = subst (λ text. names_class (text ++ rest) ≡ false) (sym (tokens_out x)) (class_layer d (no_class d) (out-JExpr x) s.1 rest q)

of_none : (q : JQualified) (ts : Tokens) → ends_class ts ≡ false → class_of q ts ≡ None
of_none q (Token.Sign m.Dot dot ∷ Token.Word w.Class at ∷ []) h = absurd (cc h)
of_none q _ h = refl

lock_none : (ts : Tokens) → names_class ts ≡ false → class_lock ts ≡ None
lock_none (Token.Id n at ∷ rest) h = of_none _ (dotted rest).1 h
lock_none _ h = refl

nothing_ends : ends_class (dotted []).1 ≡ false
unfolding dotted
nothing_ends = refl

-- No expression is a class that is locked.
pub no_class_lock : (d l : ℕ) (x : JExpr) → Stands d l x → class_lock (tokens x ++ []) ≡ None
no_class_lock d l x s = lock_none (tokens x ++ []) (no_class d l x s [] nothing_ends)

-- ---- a declaration begins with `final` or its type

primitive_declares : (p : Primitive) → word_declares (primitive_word p) ≡ true
primitive_declares primitive.Byte = refl
primitive_declares primitive.Short = refl
primitive_declares primitive.Char = refl
primitive_declares primitive.Int = refl
primitive_declares primitive.Long = refl
primitive_declares primitive.Boolean = refl

brackets_declare : (xs : List JBrackets) (rest : Tokens) → declares (dotted rest).1 ≡ true → declares (dotted (brackets_tokens xs ++ rest)).1 ≡ true
unfolding dotted
brackets_declare [] rest h = h
brackets_declare (x ∷ xs) rest h = refl

abbrev Declares : Tokens → Type 0
Declares text = (rest : Tokens) → declares (dotted rest).1 ≡ true → begins_declaration (text ++ rest) ≡ true

type_layer_declares : (d : ℕ) → ((x : JType) → TypeStands d x → Declares (type_tokens x)) → (x : JType-F JType) → type_stands_by (TypeStands d) x
    → Declares (type_tokens_by (map-JType JType Tokens type_tokens x))
unfolding dotted
type_layer_declares d h (JType-F.Primitive p at) s rest q = primitive_declares p
type_layer_declares d h (JType-F.Class n) s rest q = ap declares (dotted_past n.rest rest) ∙ q
type_layer_declares d h (JType-F.Applied n lp args commas j close) s rest q =
    ap begins_declaration (append_assoc (qualified_tokens n) (Token.Sign m.Less lp ∷ (listed commas (map type_tokens args) ++ Token.Sign (closing j) close ∷ [])) rest)
    ∙ ap declares (dotted_past n.rest (Token.Sign m.Less lp ∷ ((listed commas (map type_tokens args) ++ Token.Sign (closing j) close ∷ []) ++ rest)))
type_layer_declares d h (JType-F.Array element pairs) s rest q =
    ap begins_declaration (append_assoc (type_tokens element) (brackets_tokens pairs) rest) ∙ h element s.2 (brackets_tokens pairs ++ rest) (brackets_declare pairs rest q)

type_declares : (d : ℕ) (x : JType) → TypeStands d x → Declares (type_tokens x)
unfolding TypeStands
type_declares zero x s rest q = absurd s
type_declares (suc d) x s rest q =
    subst (λ text. begins_declaration (text ++ rest) ≡ true) (sym (type_tokens_out x)) (type_layer_declares d (type_declares d) (out-JType x) s rest q)

-- where what follows the type begins with a name
pub kind_declares : (d : ℕ) (is_final : Option Position) (kind : JType) → TypeStands d kind → (rest : Tokens) → declares (dotted rest).1 ≡ true
    → begins_declaration (final_tokens is_final ++ (type_tokens kind ++ rest)) ≡ true
kind_declares d None kind s rest h = type_declares d kind s rest h
kind_declares d (Some at) kind s rest h = refl
