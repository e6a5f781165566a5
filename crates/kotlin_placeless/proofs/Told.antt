-- What is told of words, and of expressions that are names, at the place of what was made.
use Rattle.std.proofs.Common.{◌≡◌, Option, Some, refl, ap, sym, subst, ◌∙◌}
use Rattle.std.specs.Option.{option_map}
use Rattle.kotlin_tree.specs.declared.places.Position.{Position}
use Rattle.kotlin_tree.specs.declared.tokens.Keyword.{Keyword}
use Rattle.kotlin_tree.specs.declared.tokens.Keyword.TheVariants as h
use Rattle.kotlin_tree.specs.declared.tokens.Word.{Word}
use Rattle.kotlin_tree.specs.declared.tokens.Word.TheVariants as o
use Rattle.kotlin_tree.specs.declared.tokens.TokenKind.{TokenKind}
use Rattle.kotlin_tree.specs.declared.tokens.TokenKind.TheVariants as q
use Rattle.kotlin_tree.specs.declared.tokens.KToken.{KToken}
use Rattle.kotlin_tree.specs.declared.types.KQualified.{KQualified}
use Rattle.kotlin_tree.specs.declared.types.KType.{KType, out-KType, map-KType, out-roll-KType, roll-out-KType}
use Rattle.kotlin_tree.specs.declared.types.KType.TheOpen.{KType-F}
use Rattle.kotlin_tree.specs.declared.expressions.KExpr.{KExpr, roll-KExpr, out-KExpr, map-KExpr, out-roll-KExpr, roll-out-KExpr, fold-roll-KExpr}
use Rattle.kotlin_tree.specs.declared.expressions.KExpr.TheOpen.{KExpr-F}
use Rattle.kotlin_tree.specs.declared.expressions.KExpr.TheFolds.{ind-KExpr}
use Rattle.kotlin_tree.specs.declared.expressions.KChoice.{KChoice}
use Rattle.kotlin_tree.specs.declared.statements.KStmt.{KStmt}
use Rattle.kotlin_tree.specs.declared.statements.KBranch.{KBranch}
use Rattle.kotlin_tree.specs.declared.statements.KCatch.{KCatch}
use Rattle.kotlin_tree.specs.UpToPlaces.{made, unplaced_name, unplaced_dotted, unplaced_qualified, unplaced_modifier_kind, unplaced_word}
use Rattle.kotlin_grammar.specs.Meaning.{Unread, asked_by, asked, chain_by, chain, is_target_by, is_target, modifier_word, modifier_of, annotation_word, annotation_by, annotation_of, class_keyword, class_word_of, fun_class_keyword, fun_class_word_of}
use Rattle.kotlin_placeless.specs.Placeless.{type_layer, expression_layer, placeless_type, placeless_expression, placeless_statement, placeless_choice, placeless_branch, placeless_catch, placeless_token}
use Rattle.kotlin_placeless.proofs.Parts.{carried, one_more}
use Rattle.kotlin_placeless.proofs.Trees.{type_rolled, type_Plain, type_Applied, expression_rolled}

modifier_by : (x : Word) → modifier_word x ≡ option_map unplaced_modifier_kind (modifier_word x)
modifier_by o.Private = refl
modifier_by o.Abstract = refl
modifier_by o.Open = refl
modifier_by o.Override = refl
modifier_by o.Const = refl
modifier_by _ = refl

pub modifier_made : (x : TokenKind) → modifier_of x ≡ option_map unplaced_modifier_kind (modifier_of x)
modifier_made (q.Word x) = modifier_by x
modifier_made _ = refl

annotation_at : (p : Position) (x : Word) → annotation_word made x ≡ option_map unplaced_modifier_kind (annotation_word p x)
annotation_at p o.JvmStatic = refl
annotation_at p o.JvmField = refl
annotation_at p o.SynchronizedMethod = refl
annotation_at p o.Volatile = refl
annotation_at p _ = refl

annotation_told : (p : Position) (x : TokenKind) → annotation_by made x ≡ option_map unplaced_modifier_kind (annotation_by p x)
annotation_told p (q.Word x) = annotation_at p x
annotation_told p _ = refl

pub annotation_made : (t : KToken) → annotation_of (placeless_token t) ≡ option_map unplaced_modifier_kind (annotation_of t)
annotation_made t = annotation_told t.position t.kind

class_by : (x : Keyword) → class_keyword x ≡ option_map unplaced_word (class_keyword x)
class_by h.Class = refl
class_by h.Interface = refl
class_by _ = refl

pub class_word_made : (x : TokenKind) → class_word_of x ≡ option_map unplaced_word (class_word_of x)
class_word_made (q.Keyword x) = class_by x
class_word_made _ = refl

fun_by : (p : Position) (x : Keyword) → fun_class_keyword made x ≡ option_map unplaced_word (fun_class_keyword p x)
fun_by p h.Class = refl
fun_by p h.Interface = refl
fun_by p _ = refl

pub fun_word_made : (p : Position) (x : TokenKind) → fun_class_word_of made x ≡ option_map unplaced_word (fun_class_word_of p x)
fun_word_made p (q.Keyword x) = fun_by p x
fun_word_made p _ = refl

-- ---- types

asked_layer : (p : Position) (x : KType-F KType) → asked_by made (type_layer (map-KType KType KType placeless_type x)) ≡ placeless_type (asked_by p x)
asked_layer p (KType-F.Plain x question variable) = sym (type_Plain x (Some p) variable)
asked_layer p (KType-F.Applied x angles arguments commas question) = sym (type_Applied x angles arguments commas (Some p))

out_type : (x : KType) → out-KType (placeless_type x) ≡ type_layer (map-KType KType KType placeless_type (out-KType x))
out_type x =
    ap (λ z. out-KType (placeless_type z)) (sym (roll-out-KType x)) ∙ ap out-KType (type_rolled (out-KType x)) ∙ out-roll-KType (type_layer (map-KType KType KType placeless_type (out-KType x)))

pub asked_made : (p : Position) (x : KType) → placeless_type (asked p x) ≡ asked made (placeless_type x)
unfolding asked
asked_made p x = sym (ap (asked_by made) (out_type x) ∙ asked_layer p (out-KType x))

-- ---- expressions

abbrev layer_made : KExpr-F KExpr KStmt KChoice KBranch KCatch → KExpr-F KExpr KStmt KChoice KBranch KCatch
layer_made x = expression_layer (map-KExpr KExpr KStmt KChoice KBranch KCatch KExpr KStmt KChoice KBranch KCatch placeless_expression placeless_statement placeless_choice placeless_branch placeless_catch x)

out_expression : (x : KExpr) → out-KExpr (placeless_expression x) ≡ layer_made (out-KExpr x)
out_expression x = ap (λ z. out-KExpr (placeless_expression z)) (sym (roll-out-KExpr x)) ∙ ap out-KExpr (expression_rolled (out-KExpr x)) ∙ out-roll-KExpr (layer_made (out-KExpr x))

target_layer : (x : KExpr-F KExpr KStmt KChoice KBranch KCatch) → is_target_by (layer_made x) ≡ is_target_by x
target_layer (KExpr-F.Literal x at) = refl
target_layer (KExpr-F.Name x) = refl
target_layer (KExpr-F.This at) = refl
target_layer (KExpr-F.Paren round inner) = refl
target_layer (KExpr-F.Call x types round arguments commas) = refl
target_layer (KExpr-F.SuperCall at x round arguments commas) = refl
target_layer (KExpr-F.Field object dot x) = refl
target_layer (KExpr-F.Method object dot x types round arguments commas) = refl
target_layer (KExpr-F.Element array square index) = refl
target_layer (KExpr-F.Postfix operand o at) = refl
target_layer (KExpr-F.Prefix o at operand) = refl
target_layer (KExpr-F.As value at kind) = refl
target_layer (KExpr-F.Is value at kind) = refl
target_layer (KExpr-F.Binary left o at right) = refl
target_layer (KExpr-F.IfValue at condition value else_at other) = refl
target_layer (KExpr-F.WhenValue at subject curly choices else_at other) = refl
target_layer (KExpr-F.Lambda face curly names statements) = refl
target_layer (KExpr-F.Run at curly statements) = refl
target_layer (KExpr-F.Class x at) = refl

pub target_same : (x : KExpr) → is_target (placeless_expression x) ≡ is_target x
unfolding is_target
target_same x = ap is_target_by (out_expression x) ∙ target_layer (out-KExpr x)

abbrev Chained : KExpr → Type 0
Chained x = chain (placeless_expression x) ≡ option_map unplaced_qualified (chain x)

abbrev G : Type 0
G = (x : KExpr) × Chained x

abbrev S : Type 0
S = KStmt × Unread

abbrev C : Type 0
C = KChoice × Unread

abbrev B : Type 0
B = KBranch × Unread

abbrev K : Type 0
K = KCatch × Unread

abbrev first : KExpr-F G S C B K → KExpr-F KExpr KStmt KChoice KBranch KCatch
first z = map-KExpr G S C B K KExpr KStmt KChoice KBranch KCatch (λ x. x.0) (λ x. x.0) (λ x. x.0) (λ x. x.0) (λ x. x.0) z

abbrev read_chain : KExpr-F KExpr KStmt KChoice KBranch KCatch → Option KQualified
read_chain x = chain_by (map-KExpr KExpr KStmt KChoice KBranch KCatch (Option KQualified) Unread Unread Unread Unread chain (λ _. tt) (λ _. tt) (λ _. tt) (λ _. tt) x)

chain_rolled : (x : KExpr-F KExpr KStmt KChoice KBranch KCatch) → chain (roll-KExpr x) ≡ read_chain x
unfolding chain
chain_rolled x = fold-roll-KExpr (Option KQualified) Unread Unread Unread Unread chain_by (λ _. tt) (λ _. tt) (λ _. tt) (λ _. tt) x

chain_layer : (z : KExpr-F G S C B K) → read_chain (layer_made (first z)) ≡ option_map unplaced_qualified (read_chain (first z))
chain_layer (KExpr-F.Literal x at) = refl
chain_layer (KExpr-F.Name x) = refl
chain_layer (KExpr-F.This at) = refl
chain_layer (KExpr-F.Paren round inner) = refl
chain_layer (KExpr-F.Call x types round arguments commas) = refl
chain_layer (KExpr-F.SuperCall at x round arguments commas) = refl
chain_layer (KExpr-F.Field object dot x) =
    carried unplaced_qualified unplaced_qualified (chain object.0) (chain (placeless_expression object.0)) _ _ object.1 (λ q.
    ap (λ z. Some (record { first = unplaced_name q.first; rest = z })) (sym (one_more unplaced_dotted q.rest (record { dot = dot; name = x }))))
chain_layer (KExpr-F.Method object dot x types round arguments commas) = refl
chain_layer (KExpr-F.Element array square index) = refl
chain_layer (KExpr-F.Postfix operand o at) = refl
chain_layer (KExpr-F.Prefix o at operand) = refl
chain_layer (KExpr-F.As value at kind) = refl
chain_layer (KExpr-F.Is value at kind) = refl
chain_layer (KExpr-F.Binary left o at right) = refl
chain_layer (KExpr-F.IfValue at condition value else_at other) = refl
chain_layer (KExpr-F.WhenValue at subject curly choices else_at other) = refl
chain_layer (KExpr-F.Lambda face curly names statements) = refl
chain_layer (KExpr-F.Run at curly statements) = refl
chain_layer (KExpr-F.Class x at) = refl

chain_step : (z : KExpr-F G S C B K) → Chained (roll-KExpr (first z))
chain_step z =
    ap chain (expression_rolled (first z)) ∙ chain_rolled (layer_made (first z)) ∙ chain_layer z ∙ ap (option_map unplaced_qualified) (sym (chain_rolled (first z)))

pub chain_made : (x : KExpr) → chain (placeless_expression x) ≡ option_map unplaced_qualified (chain x)
chain_made = ind-KExpr Chained (λ x. Unread) (λ x. Unread) (λ x. Unread) (λ x. Unread)
    (λ x z is. subst (λ (u : KExpr-F KExpr KStmt KChoice KBranch KCatch). Chained (roll-KExpr u)) is (chain_step z))
    (λ x z is. tt) (λ x z is. tt) (λ x z is. tt) (λ x z is. tt)
