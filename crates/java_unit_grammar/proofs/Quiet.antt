-- The heads of members and types hold no braces, no `;` and no `=` but those of the values of a field; and they pass.
use Rattle.std.proofs.Common.{◌≡◌, ℕ, zero, suc, Bool, true, false, List, [], ◌∷◌, ◌++◌, map, Option, Some, None, refl, ap, sym, ◌∙◌, subst, append_assoc}
use Rattle.std.proofs.lemmas.List.{append-nil}
use Rattle.std.specs.List.{AllByRecursion}
use Rattle.java_tree.specs.declared.tokens.Position.{Position}
use Rattle.java_tree.specs.declared.tokens.Mark.{Mark}
use Rattle.java_tree.specs.declared.tokens.Mark.TheVariants as m
use Rattle.java_tree.specs.declared.tokens.Keyword.{Keyword}
use Rattle.java_tree.specs.declared.tokens.Keyword.TheVariants as w
use Rattle.java_tree.specs.Seen.{Token, Tokens}
use Rattle.java_tree.specs.declared.types.Primitive.{Primitive}
use Rattle.java_tree.specs.declared.types.Primitive.TheVariants as primitive
use Rattle.java_tree.specs.declared.types.JDotted.{JDotted}
use Rattle.java_tree.specs.declared.types.JBrackets.{JBrackets}
use Rattle.java_tree.specs.declared.types.JType.{JType, out-JType, map-JType}
use Rattle.java_tree.specs.declared.types.JType.TheOpen.{JType-F}
use Rattle.java_tree.specs.declared.exprs.JTypedParam.{JTypedParam}
use Rattle.java_tree.specs.declared.exprs.JExpr.{JExpr}
use Rattle.java_tree.specs.Trees.{more_tokens, listed, closing, dotted_tokens, qualified_tokens, brackets_tokens, primitive_word, type_tokens, type_tokens_by, type_stands_by, TypeStands, TypedStands, final_tokens, typed_tokens, tokens, any_level, Stands, trailing}
use Rattle.java_expr_grammar.proofs.LawsToCite.{type_tokens_out}
use Rattle.java_statement_grammar.specs.declared.declarations.JValue.{JValue}
use Rattle.java_statement_grammar.specs.declared.declarations.JDeclarator.{JDeclarator}
use Rattle.java_statement_grammar.specs.declared.declarations.JDeclaration.{JDeclaration}
use Rattle.java_statement_grammar.specs.Heads.{value_tokens, declarator_tokens, declaration_tokens, DeclaratorStands}
use Rattle.java_member_grammar.specs.declared.modifiers.ModifierKind.{ModifierKind}
use Rattle.java_member_grammar.specs.declared.modifiers.ModifierKind.TheVariants as modifier
use Rattle.java_member_grammar.specs.declared.modifiers.JModifier.{JModifier}
use Rattle.java_member_grammar.specs.declared.parts.JBound.{JBound}
use Rattle.java_member_grammar.specs.declared.parts.JTypeParam.{JTypeParam}
use Rattle.java_member_grammar.specs.declared.parts.JTypeParams.{JTypeParams}
use Rattle.java_member_grammar.specs.declared.parts.JFormals.{JFormals}
use Rattle.java_member_grammar.specs.declared.parts.JTypeList.{JTypeList}
use Rattle.java_member_grammar.specs.declared.heads.JResult.{JResult}
use Rattle.java_member_grammar.specs.declared.heads.JResult.TheVariants as result
use Rattle.java_member_grammar.specs.declared.heads.JMemberHead.{JMemberHead}
use Rattle.java_member_grammar.specs.declared.heads.JMemberHead.TheVariants as head
use Rattle.java_member_grammar.specs.declared.heads.JTypeHead.{JTypeHead}
use Rattle.java_member_grammar.specs.declared.heads.JTypeHead.TheVariants as kind
use Rattle.java_member_grammar.specs.declared.lines.JArguments.{JArguments}
use Rattle.java_member_grammar.specs.declared.lines.JConstant.{JConstant}
use Rattle.java_member_grammar.specs.declared.lines.JConstants.{JConstants}
use Rattle.java_member_grammar.specs.Heads.{modifier_tokens, modifiers_tokens, bound_tokens, type_param_tokens, type_params_tokens, formals_tokens, list_tokens, result_tokens, member_tokens, type_head_tokens, arguments_tokens, constant_tokens, bound_stands, TypeParamStands, type_params_stand, formals_stand, list_stands, result_stands, FieldStands, MemberStands, may_precede, TypeHeadStands, arguments_stand, ConstantStands, ConstantsStand}
use Rattle.java_unit_grammar.specs.Tokens.{filled}
use Rattle.java_unit_grammar.specs.Cutting.{Stop}
use Rattle.java_unit_grammar.specs.Reading as r
use Rattle.java_unit_grammar.proofs.Passing.{Passes, none, weak, both, plainly, opened, listed_passes, closing_plain, type_passes, final_passes, all_typed_pass, trailing_passes, expr_begun, listed_begun, declarator_passes}

-- ---- tokens without braces, `;`, `=`

abbrev pub is_quiet_mark : Mark → Bool
is_quiet_mark m.OpenCurly = false
is_quiet_mark m.CloseCurly = false
is_quiet_mark m.Semicolon = false
is_quiet_mark m.Assign = false
is_quiet_mark _ = true

abbrev pub is_quiet : Token → Bool
is_quiet (Token.Sign mark at) = is_quiet_mark mark
is_quiet (Token.ArrowBody at span) = false
is_quiet (Token.CloseBody at span) = false
is_quiet _ = true

abbrev pub Quiet : Tokens → Type 0
Quiet [] = Unit {0}
Quiet (x ∷ ts) = (is_quiet x ≡ true) × Quiet ts

quiet_both : (a b : Tokens) → Quiet a → Quiet b → Quiet (a ++ b)
quiet_both [] b f g = g
quiet_both (x ∷ a) b f g = (f.0, quiet_both a b f.1 g)

module _ (A : Type 0) (text : A → Tokens) (P : A → Type 0) (quiets : (x : A) → P x → Quiet (text x)) where
  more_quiet : (ps : List Position) (xs : List A) → AllByRecursion P xs → Quiet (more_tokens ps (map text xs))
  more_quiet [] xs all = tt
  more_quiet (p ∷ ps) [] all = tt
  more_quiet (p ∷ ps) (x ∷ xs) all = (refl, quiet_both (text x) (more_tokens ps (map text xs)) (quiets x all.0) (more_quiet ps xs all.1))

  listed_quiet : (ps : List Position) (xs : List A) → AllByRecursion P xs → Quiet (listed ps (map text xs))
  listed_quiet ps [] all = tt
  listed_quiet ps (x ∷ xs) all = quiet_both (text x) (more_tokens ps (map text xs)) (quiets x all.0) (more_quiet ps xs all.1)

dotted_quiet : (xs : List JDotted) → Quiet (dotted_tokens xs)
dotted_quiet [] = tt
dotted_quiet (x ∷ xs) = (refl, (refl, dotted_quiet xs))

brackets_quiet : (xs : List JBrackets) → Quiet (brackets_tokens xs)
brackets_quiet [] = tt
brackets_quiet (x ∷ xs) = (refl, (refl, brackets_quiet xs))

closing_quiet : (j : Bool) → is_quiet_mark (closing j) ≡ true
closing_quiet true = refl
closing_quiet false = refl

type_layer_quiet : (d : ℕ) → ((x : JType) → TypeStands d x → Quiet (type_tokens x)) → (x : JType-F JType) → type_stands_by (TypeStands d) x → Quiet (type_tokens_by (map-JType JType Tokens type_tokens x))
type_layer_quiet d h (JType-F.Primitive p at) s = (refl, tt)
type_layer_quiet d h (JType-F.Class q) s = (refl, dotted_quiet q.rest)
type_layer_quiet d h (JType-F.Applied q lp args commas j rp) s =
    quiet_both (qualified_tokens q) _ (refl, dotted_quiet q.rest) (refl, quiet_both _ _ (listed_quiet JType type_tokens (TypeStands d) h commas args s.2) (closing_quiet j, tt))
type_layer_quiet d h (JType-F.Array element brackets) s = quiet_both _ _ (h element s.2) (brackets_quiet brackets)

type_quiet : (d : ℕ) (x : JType) → TypeStands d x → Quiet (type_tokens x)
unfolding TypeStands
type_quiet zero x s = absurd s
type_quiet (suc d) x s = subst Quiet (sym (type_tokens_out x)) (type_layer_quiet d (type_quiet d) (out-JType x) s)

final_quiet : (is_final : Option Position) → Quiet (final_tokens is_final)
final_quiet None = tt
final_quiet (Some at) = (refl, tt)

typed_quiet : (d : ℕ) (p : JTypedParam) → TypedStands d p → Quiet (typed_tokens p)
unfolding TypedStands
typed_quiet zero p s = absurd s
typed_quiet (suc d) p s = quiet_both _ _ (final_quiet p.is_final) (quiet_both _ _ (type_quiet d p.kind s) (refl, tt))

modifier_quiet : (kind : ModifierKind) (at : Position) → Quiet (modifier_tokens (record { kind = kind; at = at }))
modifier_quiet modifier.Public at = (refl, tt)
modifier_quiet modifier.Protected at = (refl, tt)
modifier_quiet modifier.Private at = (refl, tt)
modifier_quiet modifier.Abstract at = (refl, tt)
modifier_quiet modifier.Static at = (refl, tt)
modifier_quiet modifier.Final at = (refl, tt)
modifier_quiet modifier.Synchronized at = (refl, tt)
modifier_quiet modifier.Volatile at = (refl, tt)
modifier_quiet modifier.Default at = (refl, tt)
modifier_quiet (modifier.Override p) at = (refl, (refl, tt))

modifiers_quiet : (xs : List JModifier) → Quiet (modifiers_tokens xs)
modifiers_quiet [] = tt
modifiers_quiet (x ∷ xs) = quiet_both (modifier_tokens x) (modifiers_tokens xs) (modifier_quiet x.kind x.at) (modifiers_quiet xs)

bound_quiet : (d : ℕ) (x : Option JBound) → bound_stands d x → Quiet (bound_tokens x)
bound_quiet d None s = tt
bound_quiet d (Some x) s = (refl, type_quiet d x.kind s)

type_param_quiet : (d : ℕ) (x : JTypeParam) → TypeParamStands d x → Quiet (type_param_tokens x)
unfolding TypeParamStands
type_param_quiet zero x s = absurd s
type_param_quiet (suc d) x s = (refl, bound_quiet d x.bound s)

type_params_quiet : (d : ℕ) (x : Option JTypeParams) → type_params_stand d x → Quiet (type_params_tokens x)
type_params_quiet d None s = tt
type_params_quiet d (Some x) s = (refl, quiet_both _ _ (listed_quiet JTypeParam type_param_tokens (TypeParamStands d) (type_param_quiet d) x.commas x.items s.2) (closing_quiet x.is_joined, tt))

formals_quiet : (d : ℕ) (x : JFormals) → formals_stand d x → Quiet (formals_tokens x)
formals_quiet d x s = (refl, quiet_both _ _ (listed_quiet JTypedParam typed_tokens (TypedStands d) (typed_quiet d) x.commas x.items s.1) (refl, tt))

list_quiet : (d : ℕ) (word : Keyword) (x : Option JTypeList) → list_stands d x → Quiet (list_tokens word x)
list_quiet d word None s = tt
list_quiet d word (Some x) s = (refl, listed_quiet JType type_tokens (TypeStands d) (type_quiet d) x.commas x.items s.2)

result_quiet : (d : ℕ) (x : JResult) → result_stands d x → Quiet (result_tokens x)
result_quiet d (result.Void at) s = (refl, tt)
result_quiet d (result.Type x) s = type_quiet d x s

-- the head of a member that is no field
pub member_quiet : (d e : ℕ) (x : JMemberHead) → may_precede true x ≡ true → MemberStands d e x → Quiet (member_tokens x)
member_quiet d e head.Empty h s = tt
member_quiet d e (head.Field mods x) h s = absurd (cc h)
member_quiet d e (head.Method mods params result n at formals throws) h s =
    quiet_both _ _ (modifiers_quiet mods)
    (quiet_both _ _ (type_params_quiet d params s.0) (quiet_both _ _ (result_quiet d result s.1) (refl, quiet_both (formals_tokens formals) (list_tokens w.Throws throws) (formals_quiet d formals s.2) (list_quiet d w.Throws throws s.3))))
member_quiet d e (head.Constructor mods n at formals throws) h s = quiet_both _ _ (modifiers_quiet mods) (refl, quiet_both (formals_tokens formals) (list_tokens w.Throws throws) (formals_quiet d formals s.0) (list_quiet d w.Throws throws s.1))
member_quiet d e (head.Initializer None) h s = tt
member_quiet d e (head.Initializer (Some at)) h s = (refl, tt)

pub head_quiet : (d : ℕ) (x : JTypeHead) → TypeHeadStands d x → Quiet (type_head_tokens x)
head_quiet d (kind.Class mods at n nat params above faces) s =
    quiet_both _ _ (modifiers_quiet mods) (refl, (refl, quiet_both _ _ (type_params_quiet d params s.0) (quiet_both _ _ (bound_quiet d above s.1) (list_quiet d w.Implements faces s.2))))
head_quiet d (kind.Interface mods at n nat params above) s = quiet_both _ _ (modifiers_quiet mods) (refl, (refl, quiet_both _ _ (type_params_quiet d params s.0) (list_quiet d w.Extends above s.1)))
head_quiet d (kind.Enum mods at n nat faces) s = quiet_both _ _ (modifiers_quiet mods) (refl, (refl, list_quiet d w.Implements faces s))

-- ---- what the reader sees of them

quiet_declared : (x : Token) (ts : Tokens) → is_quiet x ≡ true → r.goes_declared (x ∷ ts) ≡ r.goes_declared ts
quiet_declared (Token.Sign m.OpenCurly at) ts h = absurd (cc h)
quiet_declared (Token.Sign m.Semicolon at) ts h = absurd (cc h)
quiet_declared (Token.Sign m.Assign at) ts h = absurd (cc h)
quiet_declared (Token.Sign _ at) ts h = refl
quiet_declared (Token.Word word at) ts h = refl
quiet_declared (Token.Id n at) ts h = refl
quiet_declared (Token.Literal x at) ts h = refl
quiet_declared (Token.ArrowBody at span) ts h = refl
quiet_declared (Token.CloseBody at span) ts h = refl

pub declared_past : (a b : Tokens) → Quiet a → r.goes_declared (a ++ b) ≡ r.goes_declared b
declared_past [] b f = refl
declared_past (x ∷ a) b f = quiet_declared x (a ++ b) f.0 ∙ declared_past a b f.1

quiet_curly : (x : Token) (ts : Tokens) → is_quiet x ≡ true → r.before_curly (x ∷ ts) ≡ (x ∷ (r.before_curly ts).0, (r.before_curly ts).1)
quiet_curly (Token.Sign m.OpenCurly at) ts h = absurd (cc h)
quiet_curly (Token.Sign _ at) ts h = refl
quiet_curly (Token.Word word at) ts h = refl
quiet_curly (Token.Id n at) ts h = refl
quiet_curly (Token.Literal x at) ts h = refl
quiet_curly (Token.ArrowBody at span) ts h = refl
quiet_curly (Token.CloseBody at span) ts h = refl

pub curly_past : (a : Tokens) (at : Position) (b : Tokens) → Quiet a → r.before_curly (a ++ Token.Sign m.OpenCurly at ∷ b) ≡ (a, Token.Sign m.OpenCurly at ∷ b)
curly_past [] at b f = refl
curly_past (x ∷ a) at b f = quiet_curly x (a ++ Token.Sign m.OpenCurly at ∷ b) f.0 ∙ ap (λ (p : Tokens × Tokens). (x ∷ p.0, p.1)) (curly_past a at b f.1)

quiet_filled : (x : Token) (ts : Tokens) (bs : List Tokens) → is_quiet x ≡ true → filled (x ∷ ts) bs ≡ x ∷ filled ts bs
quiet_filled (Token.Sign mark at) ts bs h = refl
quiet_filled (Token.Word word at) ts bs h = refl
quiet_filled (Token.Id n at) ts bs h = refl
quiet_filled (Token.Literal x at) ts bs h = refl
quiet_filled (Token.ArrowBody at span) ts bs h = absurd (cc h)
quiet_filled (Token.CloseBody at span) ts bs h = absurd (cc h)

pub filled_past : (a b : Tokens) (bs : List Tokens) → Quiet a → filled (a ++ b) bs ≡ a ++ filled b bs
filled_past [] b bs f = refl
filled_past (x ∷ a) b bs f = quiet_filled x (a ++ b) bs f.0 ∙ ap (λ (l : Tokens). x ∷ l) (filled_past a b bs f.1)

quiet_close : (x : Token) (ts : Tokens) → is_quiet x ≡ true → r.begins_close (x ∷ ts) ≡ false
quiet_close (Token.Sign m.CloseCurly at) ts h = absurd (cc h)
quiet_close (Token.Sign _ at) ts h = refl
quiet_close (Token.Word word at) ts h = refl
quiet_close (Token.Id n at) ts h = refl
quiet_close (Token.Literal x at) ts h = refl
quiet_close (Token.ArrowBody at span) ts h = refl
quiet_close (Token.CloseBody at span) ts h = refl

pub close_past : (a b : Tokens) → Quiet a → r.begins_close b ≡ false → r.begins_close (a ++ b) ≡ false
close_past [] b f h = h
close_past (x ∷ a) b f h = quiet_close x (a ++ b) f.0

-- ---- fields

value_declares : (v : Option JValue) (more : Tokens) (bs : List Tokens) (us : Tokens) → r.goes_declared (filled more bs ++ us) ≡ true → r.goes_declared (filled (value_tokens v ++ more) bs ++ us) ≡ true
value_declares None more bs us h = h
value_declares (Some v) more bs us h = refl

names_declare : (names : List JDeclarator) (commas : List Position) (bs : List Tokens) (end : Position) (rest : Tokens)
    → r.goes_declared (filled (more_tokens commas (map declarator_tokens names)) bs ++ Token.Sign m.Semicolon end ∷ rest) ≡ true
names_declare names [] bs end rest = refl
names_declare [] (p ∷ ps) bs end rest = refl
names_declare (x ∷ xs) (p ∷ ps) bs end rest = value_declares x.value (more_tokens ps (map declarator_tokens xs)) bs (Token.Sign m.Semicolon end ∷ rest) (names_declare xs ps bs end rest)

listed_declare : (names : List JDeclarator) (commas : List Position) (bs : List Tokens) (end : Position) (rest : Tokens)
    → r.goes_declared (filled (listed commas (map declarator_tokens names)) bs ++ Token.Sign m.Semicolon end ∷ rest) ≡ true
listed_declare [] commas bs end rest = refl
listed_declare (x ∷ xs) commas bs end rest = value_declares x.value (more_tokens commas (map declarator_tokens xs)) bs (Token.Sign m.Semicolon end ∷ rest) (names_declare xs commas bs end rest)

listed_close : (names : List JDeclarator) (commas : List Position) (bs : List Tokens) (end : Position) (rest : Tokens)
    → r.begins_close (filled (listed commas (map declarator_tokens names)) bs ++ Token.Sign m.Semicolon end ∷ rest) ≡ false
listed_close [] commas bs end rest = refl
listed_close (x ∷ xs) commas bs end rest = refl

-- the head of a member before a `;` with its bodies and the `;`
pub record Declares (ts : Tokens) : Type 0 where
  pub goes : r.goes_declared ts ≡ true
  pub runs : r.begins_close ts ≡ false

declares_past : (a b : Tokens) → Quiet a → Declares b → Declares (a ++ b)
declares_past a b f s = record { goes = declared_past a b f ∙ s.goes; runs = close_past a b f s.runs }

quiet_head : (a : Tokens) (bs : List Tokens) (end : Position) (rest : Tokens) → Quiet a → Declares (filled a bs ++ Token.Sign m.Semicolon end ∷ rest)
quiet_head a bs end rest f =
    let e : filled a bs ≡ a ++ filled [] bs = ap (λ (l : Tokens). filled l bs) (sym (append-nil a)) ∙ filled_past a [] bs f in
    let flat : filled a bs ≡ a = e ∙ append-nil a in
    subst (λ (l : Tokens). Declares (l ++ Token.Sign m.Semicolon end ∷ rest)) (sym flat) (declares_past a (Token.Sign m.Semicolon end ∷ rest) f (record { goes = refl; runs = refl }))

field_head : (d e : ℕ) (mods : List JModifier) (x : JDeclaration) (bs : List Tokens) (end : Position) (rest : Tokens) → FieldStands d e x
    → Declares (filled (modifiers_tokens mods ++ declaration_tokens x) bs ++ Token.Sign m.Semicolon end ∷ rest)
field_head d e mods x bs end rest s =
    let M : Tokens = modifiers_tokens mods in
    let F : Tokens = final_tokens x.is_final in
    let T : Tokens = type_tokens x.kind in
    let N : Tokens = listed x.commas (map declarator_tokens x.names) in
    let a : Tokens = M ++ (F ++ T) in
    let q : Quiet a = quiet_both M (F ++ T) (modifiers_quiet mods) (quiet_both F T (final_quiet x.is_final) (type_quiet d x.kind s.kind)) in
    let flat : M ++ (F ++ (T ++ N)) ≡ a ++ N = ap (λ (l : Tokens). M ++ l) (sym (append_assoc F T N)) ∙ sym (append_assoc M (F ++ T) N) in
    let names : Declares (filled N bs ++ Token.Sign m.Semicolon end ∷ rest) = record { goes = listed_declare x.names x.commas bs end rest; runs = listed_close x.names x.commas bs end rest } in
    let same : filled (M ++ (F ++ (T ++ N))) bs ++ Token.Sign m.Semicolon end ∷ rest ≡ a ++ (filled N bs ++ Token.Sign m.Semicolon end ∷ rest) =
    ap (λ (l : Tokens). l ++ Token.Sign m.Semicolon end ∷ rest) (ap (λ (l : Tokens). filled l bs) flat ∙ filled_past a N bs q) ∙ append_assoc a (filled N bs) (Token.Sign m.Semicolon end ∷ rest) in
    subst Declares (sym same) (declares_past a (filled N bs ++ Token.Sign m.Semicolon end ∷ rest) q names)

pub member_declares : (d e : ℕ) (x : JMemberHead) (bs : List Tokens) (end : Position) (rest : Tokens) → may_precede false x ≡ true → MemberStands d e x
    → Declares (filled (member_tokens x) bs ++ Token.Sign m.Semicolon end ∷ rest)
member_declares d e head.Empty bs end rest h s = record { goes = refl; runs = refl }
member_declares d e (head.Field mods x) bs end rest h s = field_head d e mods x bs end rest s
member_declares d e (head.Method mods params result n at formals throws) bs end rest h s =
    let x : JMemberHead = head.Method mods params result n at formals throws in quiet_head (member_tokens x) bs end rest (member_quiet d e x refl s)
member_declares d e (head.Constructor mods n at formals throws) bs end rest h s = absurd (cc h)
member_declares d e (head.Initializer static) bs end rest h s = absurd (cc h)

-- ---- whether they declare a type

modifier_type : (kind : ModifierKind) (at : Position) (ts : Tokens) → r.goes_type (modifier_tokens (record { kind = kind; at = at }) ++ ts) ≡ r.goes_type ts
modifier_type modifier.Public at ts = refl
modifier_type modifier.Protected at ts = refl
modifier_type modifier.Private at ts = refl
modifier_type modifier.Abstract at ts = refl
modifier_type modifier.Static at ts = refl
modifier_type modifier.Final at ts = refl
modifier_type modifier.Synchronized at ts = refl
modifier_type modifier.Volatile at ts = refl
modifier_type modifier.Default at ts = refl
modifier_type (modifier.Override p) at ts = refl

modifiers_type : (xs : List JModifier) (ts : Tokens) → r.goes_type (modifiers_tokens xs ++ ts) ≡ r.goes_type ts
modifiers_type [] ts = refl
modifiers_type (x ∷ xs) ts = ap r.goes_type (append_assoc (modifier_tokens x) (modifiers_tokens xs) ts) ∙ modifier_type x.kind x.at (modifiers_tokens xs ++ ts) ∙ modifiers_type xs ts

brackets_type : (xs : List JBrackets) (ts : Tokens) → r.goes_type ts ≡ false → r.goes_type (brackets_tokens xs ++ ts) ≡ false
brackets_type [] ts h = h
brackets_type (x ∷ xs) ts h = refl

primitive_type : (p : Primitive) (at : Position) (ts : Tokens) → r.goes_type (Token.Word (primitive_word p) at ∷ ts) ≡ r.goes_type ts
primitive_type primitive.Byte at ts = refl
primitive_type primitive.Short at ts = refl
primitive_type primitive.Char at ts = refl
primitive_type primitive.Int at ts = refl
primitive_type primitive.Long at ts = refl
primitive_type primitive.Boolean at ts = refl

type_layer_type : (d : ℕ) → ((x : JType) → TypeStands d x → (ts : Tokens) → r.goes_type ts ≡ false → r.goes_type (type_tokens x ++ ts) ≡ false) → (x : JType-F JType) → type_stands_by (TypeStands d) x
    → (ts : Tokens) → r.goes_type ts ≡ false → r.goes_type (type_tokens_by (map-JType JType Tokens type_tokens x) ++ ts) ≡ false
type_layer_type d h (JType-F.Primitive p at) s ts g = primitive_type p at ts ∙ g
type_layer_type d h (JType-F.Class q) s ts g = refl
type_layer_type d h (JType-F.Applied q lp args commas j rp) s ts g = refl
type_layer_type d h (JType-F.Array element brackets) s ts g =
    ap r.goes_type (append_assoc (type_tokens element) (brackets_tokens brackets) ts) ∙ h element s.2 (brackets_tokens brackets ++ ts) (brackets_type brackets ts g)

type_type : (d : ℕ) (x : JType) → TypeStands d x → (ts : Tokens) → r.goes_type ts ≡ false → r.goes_type (type_tokens x ++ ts) ≡ false
unfolding TypeStands
type_type zero x s ts g = absurd s
type_type (suc d) x s ts g = ap (λ (l : Tokens). r.goes_type (l ++ ts)) (type_tokens_out x) ∙ type_layer_type d (type_type d) (out-JType x) s ts g

result_type : (d : ℕ) (x : JResult) → result_stands d x → (ts : Tokens) → r.goes_type ts ≡ false → r.goes_type (result_tokens x ++ ts) ≡ false
result_type d (result.Void at) s ts g = g
result_type d (result.Type x) s ts g = type_type d x s ts g

params_type : (params : Option JTypeParams) (ts : Tokens) → r.goes_type ts ≡ false → r.goes_type (type_params_tokens params ++ ts) ≡ false
params_type None ts h = h
params_type (Some x) ts h = refl

pub member_no_type : (d e : ℕ) (x : JMemberHead) (at : Position) (ts : Tokens) → may_precede true x ≡ true → MemberStands d e x → r.goes_type (member_tokens x ++ Token.Sign m.OpenCurly at ∷ ts) ≡ false
member_no_type d e head.Empty at ts h s = refl
member_no_type d e (head.Field mods x) at ts h s = absurd (cc h)
member_no_type d e (head.Method mods params result n nat formals throws) at ts h s =
    let end : Tokens = Token.Sign m.OpenCurly at ∷ ts in
    let M : Tokens = modifiers_tokens mods in
    let A : Tokens = type_params_tokens params in
    let B : Tokens = result_tokens result in
    let C : Tokens = Token.Id n nat ∷ (formals_tokens formals ++ list_tokens w.Throws throws) in
    ap r.goes_type (append_assoc M (A ++ (B ++ C)) end ∙ ap (λ (l : Tokens). M ++ l) (append_assoc A (B ++ C) end ∙ ap (λ (l : Tokens). A ++ l) (append_assoc B C end)))
    ∙ modifiers_type mods (A ++ (B ++ (C ++ end)))
    ∙ params_type params (B ++ (C ++ end)) (result_type d result s.1 (C ++ end) refl)
member_no_type d e (head.Constructor mods n nat formals throws) at ts h s =
    let end : Tokens = Token.Sign m.OpenCurly at ∷ ts in
    let C : Tokens = Token.Id n nat ∷ (formals_tokens formals ++ list_tokens w.Throws throws) in
    ap r.goes_type (append_assoc (modifiers_tokens mods) C end) ∙ modifiers_type mods (C ++ end)
member_no_type d e (head.Initializer None) at ts h s = refl
member_no_type d e (head.Initializer (Some p)) at ts h s = refl

pub head_is_type : (x : JTypeHead) (ts : Tokens) → r.goes_type (type_head_tokens x ++ ts) ≡ true
head_is_type (kind.Class mods at n nat params above faces) ts = ap r.goes_type (append_assoc (modifiers_tokens mods) _ ts) ∙ modifiers_type mods _
head_is_type (kind.Interface mods at n nat params above) ts = ap r.goes_type (append_assoc (modifiers_tokens mods) _ ts) ∙ modifiers_type mods _
head_is_type (kind.Enum mods at n nat faces) ts = ap r.goes_type (append_assoc (modifiers_tokens mods) _ ts) ∙ modifiers_type mods _

-- ---- they pass

module _ (stop : Stop) where
  modifier_passes : (kind : ModifierKind) (at : Position) → Passes stop (modifier_tokens (record { kind = kind; at = at }))
  modifier_passes modifier.Public at = plainly stop refl (none stop)
  modifier_passes modifier.Protected at = plainly stop refl (none stop)
  modifier_passes modifier.Private at = plainly stop refl (none stop)
  modifier_passes modifier.Abstract at = plainly stop refl (none stop)
  modifier_passes modifier.Static at = plainly stop refl (none stop)
  modifier_passes modifier.Final at = plainly stop refl (none stop)
  modifier_passes modifier.Synchronized at = plainly stop refl (none stop)
  modifier_passes modifier.Volatile at = plainly stop refl (none stop)
  modifier_passes modifier.Default at = plainly stop refl (none stop)
  modifier_passes (modifier.Override p) at = plainly stop refl (plainly stop refl (none stop))

  modifiers_pass : (xs : List JModifier) → Passes stop (modifiers_tokens xs)
  modifiers_pass [] = none stop
  modifiers_pass (x ∷ xs) = both stop (modifier_passes x.kind x.at) (modifiers_pass xs)

  bound_passes : (d : ℕ) (x : Option JBound) → bound_stands d x → Passes stop (bound_tokens x)
  bound_passes d None s = none stop
  bound_passes d (Some x) s = plainly stop refl (type_passes stop d x.kind s)

  type_param_passes : (d : ℕ) (x : JTypeParam) → TypeParamStands d x → Passes stop (type_param_tokens x)
  unfolding TypeParamStands
  type_param_passes zero x s = absurd s
  type_param_passes (suc d) x s = plainly stop refl (bound_passes d x.bound s)

  type_params_pass : (d : ℕ) (x : Option JTypeParams) → type_params_stand d x → Passes stop (type_params_tokens x)
  type_params_pass d None s = none stop
  type_params_pass d (Some x) s =
      plainly stop refl (both stop (listed_passes stop JTypeParam type_param_tokens (TypeParamStands d) (type_param_passes d) x.commas x.items s.2) (plainly stop (closing_plain x.is_joined) (none stop)))

  formals_pass : (d : ℕ) (x : JFormals) → formals_stand d x → Passes stop (formals_tokens x)
  formals_pass d x s = opened stop x.opens x.closes _ [] (weak stop (all_typed_pass stop d x.items x.commas s.1)) (none stop)

  list_passes : (d : ℕ) (word : Keyword) (x : Option JTypeList) → list_stands d x → Passes stop (list_tokens word x)
  list_passes d word None s = none stop
  list_passes d word (Some x) s = plainly stop refl (listed_passes stop JType type_tokens (TypeStands d) (type_passes stop d) x.commas x.items s.2)

  result_passes : (d : ℕ) (x : JResult) → result_stands d x → Passes stop (result_tokens x)
  result_passes d (result.Void at) s = plainly stop refl (none stop)
  result_passes d (result.Type x) s = type_passes stop d x s

  pub member_passes : (d e : ℕ) (x : JMemberHead) → MemberStands d e x → Passes stop (member_tokens x)
  member_passes d e head.Empty s = none stop
  member_passes d e (head.Field mods x) s =
      both stop (modifiers_pass mods)
      (both stop (final_passes stop x.is_final) (both stop (type_passes stop d x.kind s.kind) (listed_passes stop JDeclarator declarator_tokens (DeclaratorStands e) (declarator_passes stop e) x.commas x.names s.all)))
  member_passes d e (head.Method mods params result n at formals throws) s =
      both stop (modifiers_pass mods)
      (both stop (type_params_pass d params s.0) (both stop (result_passes d result s.1) (plainly stop refl (both stop (formals_pass d formals s.2) (list_passes d w.Throws throws s.3)))))
  member_passes d e (head.Constructor mods n at formals throws) s = both stop (modifiers_pass mods) (plainly stop refl (both stop (formals_pass d formals s.0) (list_passes d w.Throws throws s.1)))
  member_passes d e (head.Initializer None) s = none stop
  member_passes d e (head.Initializer (Some at)) s = plainly stop refl (none stop)

  arguments_pass : (d : ℕ) (x : Option JArguments) → arguments_stand d x → Passes stop (arguments_tokens x)
  arguments_pass d None s = none stop
  arguments_pass d (Some x) s = opened stop x.opens x.closes _ [] (listed_begun stop JExpr tokens (Stands d any_level) (expr_begun stop d any_level) x.commas x.items s.1) (none stop)

  constant_passes : (d : ℕ) (x : JConstant) → ConstantStands d x → Passes stop (constant_tokens x)
  constant_passes d x s = plainly stop refl (arguments_pass d x.arguments s)

  -- the constants of an enum without the `;` behind them
  pub constants_pass : (d : ℕ) (x : JConstants) → ConstantsStand d x → Passes stop (listed x.commas (map constant_tokens x.items) ++ trailing x.more)
  constants_pass d x s = both stop (listed_passes stop JConstant constant_tokens (ConstantStands d) (constant_passes d) x.commas x.items s.1) (trailing_passes stop x.more)
