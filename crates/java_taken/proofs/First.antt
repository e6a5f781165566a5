-- The first token of a form, by its cases.
use Rattle.std.proofs.Common.{◌≡◌, ◌≤◌, [], ◌∷◌, ◌++◌, length, refl, ap, ◌∙◌, subst, arith}
use Rattle.java_tree.specs.declared.tokens.Position.{Position}
use Rattle.java_tree.specs.declared.exprs.JParams.{JParams}
use Rattle.java_tree.specs.declared.exprs.JParams.TheVariants as params
use Rattle.java_tree.specs.declared.types.JType.{JType, roll-JType, out-JType, map-JType, fold-roll-JType, ind-JType}
use Rattle.java_tree.specs.declared.types.JType.TheOpen.{JType-F}
use Rattle.java_tree.specs.declared.exprs.JExpr.{JExpr, roll-JExpr, out-JExpr, map-JExpr, fold-roll-JExpr, ind-JExpr}
use Rattle.java_tree.specs.declared.exprs.JExpr.TheOpen.{JExpr-F}
use Rattle.java_tree.specs.Seen.{Token, Tokens}
use Rattle.java_tree.specs.Trees.{tokens, tokens_by, type_tokens, type_tokens_by, params_tokens}
use Rattle.java_expr_grammar.proofs.LawsToCite.{tokens_out, type_tokens_out}
use Rattle.java_taken.specs.Places.{first_or, first_of, nowhere, first_at, type_at, params_at}

pub joined_first : (a b : Tokens) (p : Position) → first_or (a ++ b) p ≡ first_or a (first_or b p)
joined_first [] b p = refl
joined_first (x ∷ a) b p = refl

pub first_same : (a b : Tokens) (p q : Position) → 1 ≤ length a → first_or (a ++ b) p ≡ first_or a q
first_same [] b p q some = absurd (omega arith)
first_same (x ∷ a) b p q some = refl

has : (x : Token) (ts : Tokens) → 1 ≤ length (x ∷ ts)
has x ts = omega arith

more : (a b : Tokens) → 1 ≤ length a → 1 ≤ length (a ++ b)
more [] b some = absurd (omega arith)
more (x ∷ a) b some = has x (a ++ b)

params_some : (x : JParams) (b : Tokens) → 1 ≤ length (params_tokens x ++ b)
params_some (params.One p) b = omega arith
params_some (params.Several lp ps commas rp) b = omega arith
params_some (params.Typed lp ps commas rp) b = omega arith

-- ---- types

type_some_by : (y : JType-F ((x : JType) × (1 ≤ length (type_tokens x)))) → 1 ≤ length (type_tokens_by (map-JType JType Tokens type_tokens (map-JType ((x : JType) × (1 ≤ length (type_tokens x))) JType (λ x. x.0) y)))
type_some_by (JType-F.Primitive p at) = omega arith
type_some_by (JType-F.Class q) = omega arith
type_some_by (JType-F.Applied q lp args commas is_joined close) = omega arith
type_some_by (JType-F.Array element brackets) = more _ _ element.1

type_rolled : (x : JType-F JType) → type_tokens (roll-JType x) ≡ type_tokens_by (map-JType JType Tokens type_tokens x)
unfolding type_tokens
type_rolled x = fold-roll-JType Tokens type_tokens_by x

pub type_some : (x : JType) → 1 ≤ length (type_tokens x)
type_some = ind-JType (λ x. 1 ≤ length (type_tokens x)) (λ x y is. subst (λ (z : JType-F JType). 1 ≤ length (type_tokens (roll-JType z))) is
    (rw (type_rolled (map-JType ((x : JType) × (1 ≤ length (type_tokens x))) JType (λ x. x.0) y)) (type_some_by y)))

abbrev pub type_first : JType-F Position → Position
type_first (JType-F.Primitive p at) = at
type_first (JType-F.Class q) = q.at
type_first (JType-F.Applied q lp args commas is_joined close) = q.at
type_first (JType-F.Array element brackets) = element

type_layer : (x : JType-F JType) → first_of (type_tokens_by (map-JType JType Tokens type_tokens x)) ≡ type_first (map-JType JType Position type_at x)
unfolding type_at
type_layer (JType-F.Primitive p at) = refl
type_layer (JType-F.Class q) = refl
type_layer (JType-F.Applied q lp args commas is_joined close) = refl
type_layer (JType-F.Array element brackets) = first_same (type_tokens element) _ nowhere nowhere (type_some element)

pub type_out : (x : JType) → type_at x ≡ type_first (map-JType JType Position type_at (out-JType x))
unfolding type_at
type_out x = ap first_of (type_tokens_out x) ∙ type_layer (out-JType x)

-- ---- expressions

abbrev Part : Type 0
Part = (x : JExpr) × (1 ≤ length (tokens x))

some_by : (y : JExpr-F Part) → 1 ≤ length (tokens_by (map-JExpr JExpr Tokens tokens (map-JExpr Part JExpr (λ x. x.0) y)))
some_by (JExpr-F.Name n at) = omega arith
some_by (JExpr-F.Literal literal at) = omega arith
some_by (JExpr-F.This at) = omega arith
some_by (JExpr-F.Paren lp inner rp) = omega arith
some_by (JExpr-F.Call n at lp args commas rp) = omega arith
some_by (JExpr-F.SuperCall above dot n at lp args commas rp) = omega arith
some_by (JExpr-F.Field left dot n at) = more _ _ left.1
some_by (JExpr-F.Method left dot n at lp args commas rp) = more _ _ left.1
some_by (JExpr-F.Element left lp index rp) = more _ _ left.1
some_by (JExpr-F.Postfix left op at) = more _ _ left.1
some_by (JExpr-F.Prefix op at inner) = omega arith
some_by (JExpr-F.MinusLeast minus literal at) = omega arith
some_by (JExpr-F.Cast lp to rp inner) = omega arith
some_by (JExpr-F.Binary left op at right) = more _ _ left.1
some_by (JExpr-F.Instanceof left at to) = more _ _ left.1
some_by (JExpr-F.Conditional left question then_ colon else_) = more _ _ left.1
some_by (JExpr-F.Assign left op at right) = more _ _ left.1
some_by (JExpr-F.Lambda params arrow body) = params_some params _
some_by (JExpr-F.LambdaBlock params arrow body) = params_some params _
some_by (JExpr-F.New at made lp args commas rp body) = omega arith
some_by (JExpr-F.NewArray at of lb size rb more) = omega arith
some_by (JExpr-F.NewFilled at of brackets lc inits commas more rc) = omega arith
some_by (JExpr-F.Braces lc inits commas more rc) = omega arith

rolled : (x : JExpr-F JExpr) → tokens (roll-JExpr x) ≡ tokens_by (map-JExpr JExpr Tokens tokens x)
unfolding tokens
rolled x = fold-roll-JExpr Tokens tokens_by x

pub some : (x : JExpr) → 1 ≤ length (tokens x)
some = ind-JExpr (λ x. 1 ≤ length (tokens x)) (λ x y is. subst (λ (z : JExpr-F JExpr). 1 ≤ length (tokens (roll-JExpr z))) is
    (rw (rolled (map-JExpr Part JExpr (λ x. x.0) y)) (some_by y)))

abbrev pub first_by : JExpr-F Position → Position
first_by (JExpr-F.Name n at) = at
first_by (JExpr-F.Literal literal at) = at
first_by (JExpr-F.This at) = at
first_by (JExpr-F.Paren lp inner rp) = lp
first_by (JExpr-F.Call n at lp args commas rp) = at
first_by (JExpr-F.SuperCall above dot n at lp args commas rp) = above
first_by (JExpr-F.Field left dot n at) = left
first_by (JExpr-F.Method left dot n at lp args commas rp) = left
first_by (JExpr-F.Element left lp index rp) = left
first_by (JExpr-F.Postfix left op at) = left
first_by (JExpr-F.Prefix op at inner) = at
first_by (JExpr-F.MinusLeast minus literal at) = minus
first_by (JExpr-F.Cast lp to rp inner) = lp
first_by (JExpr-F.Binary left op at right) = left
first_by (JExpr-F.Instanceof left at to) = left
first_by (JExpr-F.Conditional left question then_ colon else_) = left
first_by (JExpr-F.Assign left op at right) = left
first_by (JExpr-F.Lambda params arrow body) = params_at params
first_by (JExpr-F.LambdaBlock params arrow body) = params_at params
first_by (JExpr-F.New at made lp args commas rp body) = at
first_by (JExpr-F.NewArray at of lb size rb more) = at
first_by (JExpr-F.NewFilled at of brackets lc inits commas more rc) = at
first_by (JExpr-F.Braces lc inits commas more rc) = lc

params_first : (x : JParams) (b : Tokens) → first_of (params_tokens x ++ b) ≡ params_at x
params_first (params.One p) b = refl
params_first (params.Several lp ps commas rp) b = refl
params_first (params.Typed lp ps commas rp) b = refl

of_left : (x : JExpr) (b : Tokens) → first_of (tokens x ++ b) ≡ first_at x
unfolding first_at
of_left x b = first_same (tokens x) b nowhere nowhere (some x)

layer : (x : JExpr-F JExpr) → first_of (tokens_by (map-JExpr JExpr Tokens tokens x)) ≡ first_by (map-JExpr JExpr Position first_at x)
layer (JExpr-F.Name n at) = refl
layer (JExpr-F.Literal literal at) = refl
layer (JExpr-F.This at) = refl
layer (JExpr-F.Paren lp inner rp) = refl
layer (JExpr-F.Call n at lp args commas rp) = refl
layer (JExpr-F.SuperCall above dot n at lp args commas rp) = refl
layer (JExpr-F.Field left dot n at) = of_left left _
layer (JExpr-F.Method left dot n at lp args commas rp) = of_left left _
layer (JExpr-F.Element left lp index rp) = of_left left _
layer (JExpr-F.Postfix left op at) = of_left left _
layer (JExpr-F.Prefix op at inner) = refl
layer (JExpr-F.MinusLeast minus literal at) = refl
layer (JExpr-F.Cast lp to rp inner) = refl
layer (JExpr-F.Binary left op at right) = of_left left _
layer (JExpr-F.Instanceof left at to) = of_left left _
layer (JExpr-F.Conditional left question then_ colon else_) = of_left left _
layer (JExpr-F.Assign left op at right) = of_left left _
layer (JExpr-F.Lambda params arrow body) = params_first params _
layer (JExpr-F.LambdaBlock params arrow body) = params_first params _
layer (JExpr-F.New at made lp args commas rp body) = refl
layer (JExpr-F.NewArray at of lb size rb more) = refl
layer (JExpr-F.NewFilled at of brackets lc inits commas more rc) = refl
layer (JExpr-F.Braces lc inits commas more rc) = refl

of_tokens : (x : JExpr) → first_at x ≡ first_of (tokens x)
unfolding first_at
of_tokens x = refl

pub first_out : (x : JExpr) → first_at x ≡ first_by (map-JExpr JExpr Position first_at (out-JExpr x))
first_out x = of_tokens x ∙ ap first_of (tokens_out x) ∙ layer (out-JExpr x)
