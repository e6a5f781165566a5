-- A tree of which each token stands at the place of what was made is, up to places, the tree itself.
use Rattle.std.proofs.Common.{◌≡◌, false, List, [], ◌∷◌, map, Option, Some, None, refl, ap, sym, subst, ◌∙◌}
use Rattle.std.specs.Option.{option_map}
use Rattle.kotlin_tree.specs.declared.places.Position.{Position}
use Rattle.kotlin_tree.specs.declared.places.Brackets.{Brackets}
use Rattle.kotlin_tree.specs.declared.types.KName.{KName}
use Rattle.kotlin_tree.specs.declared.types.KQualified.{KQualified}
use Rattle.kotlin_tree.specs.declared.types.KTypeArguments.{KTypeArguments}
use Rattle.kotlin_tree.specs.declared.types.KType.{KType, roll-KType, map-KType, fold-roll-KType, ind-KType}
use Rattle.kotlin_tree.specs.declared.types.KType.TheOpen.{KType-F}
use Rattle.kotlin_tree.specs.declared.types.KType.TheVariants as ty
use Rattle.kotlin_tree.specs.declared.expressions.KLambdaNames.{KLambdaNames}
use Rattle.kotlin_tree.specs.declared.expressions.KExpr.{KExpr, roll-KExpr, map-KExpr, fold-roll-KExpr}
use Rattle.kotlin_tree.specs.declared.expressions.KExpr.TheOpen.{KExpr-F, KStmt-F, KChoice-F, KBranch-F, KCatch-F}
use Rattle.kotlin_tree.specs.declared.expressions.KExpr.TheFolds.{map-KStmt, map-KChoice, map-KBranch, map-KCatch, fold-roll-KStmt, fold-roll-KChoice, fold-roll-KBranch, fold-roll-KCatch, ind-KExpr, ind-KStmt}
use Rattle.kotlin_tree.specs.declared.expressions.KExpr.TheViews.{roll-KStmt}
use Rattle.kotlin_tree.specs.declared.expressions.KExpr.TheVariants as e
use Rattle.kotlin_tree.specs.declared.expressions.KChoice.{KChoice, roll-KChoice, fold-KChoice}
use Rattle.kotlin_tree.specs.declared.statements.KDeclared.{KDeclared}
use Rattle.kotlin_tree.specs.declared.statements.KLabel.{KLabel}
use Rattle.kotlin_tree.specs.declared.statements.KTarget.{KTarget}
use Rattle.kotlin_tree.specs.declared.statements.KBlock.{KBlock}
use Rattle.kotlin_tree.specs.declared.statements.KStmt.{KStmt}
use Rattle.kotlin_tree.specs.declared.statements.KStmt.TheVariants as s
use Rattle.kotlin_tree.specs.declared.statements.KBranch.{KBranch, roll-KBranch, fold-KBranch}
use Rattle.kotlin_tree.specs.declared.statements.KCatch.{KCatch, roll-KCatch, fold-KCatch}
use Rattle.kotlin_tree.specs.declared.members.KModifierKind.{KModifierKind}
use Rattle.kotlin_tree.specs.declared.members.KModifierKind.TheVariants as modifier
use Rattle.kotlin_tree.specs.declared.members.KModifier.{KModifier}
use Rattle.kotlin_tree.specs.declared.members.KParam.{KParam}
use Rattle.kotlin_tree.specs.declared.members.KParams.{KParams}
use Rattle.kotlin_tree.specs.declared.members.KTyped.{KTyped}
use Rattle.kotlin_tree.specs.declared.members.KValue.{KValue}
use Rattle.kotlin_tree.specs.declared.members.KPrivateSet.{KPrivateSet}
use Rattle.kotlin_tree.specs.declared.members.KDelegation.{KDelegation}
use Rattle.kotlin_tree.specs.declared.members.KMember.{KMember, roll-KMember, map-KMember, fold-roll-KMember, ind-KMember}
use Rattle.kotlin_tree.specs.declared.members.KMember.TheOpen.{KMember-F}
use Rattle.kotlin_tree.specs.declared.members.KMember.TheVariants as mb
use Rattle.kotlin_tree.specs.declared.files.KTypeParam.{KTypeParam}
use Rattle.kotlin_tree.specs.declared.files.KTypeParams.{KTypeParams}
use Rattle.kotlin_tree.specs.declared.files.KSuper.{KSuper}
use Rattle.kotlin_tree.specs.declared.files.KSupers.{KSupers}
use Rattle.kotlin_tree.specs.declared.files.KClassWord.{KClassWord}
use Rattle.kotlin_tree.specs.declared.files.KClassWord.TheVariants as word
use Rattle.kotlin_tree.specs.declared.files.KClass.{KClass}
use Rattle.kotlin_tree.specs.declared.files.KPackage.{KPackage}
use Rattle.kotlin_tree.specs.declared.files.KImport.{KImport}
use Rattle.kotlin_tree.specs.declared.files.KFile.{KFile}
use Rattle.kotlin_tree.specs.UpToPlaces.{made, made_brackets, made_head, made_else, made_class, made_super, made_finally, made_companion, made_private_set, unplaced_name, unplaced_dotted, unplaced_qualified, unplaced_type_by, unplaced_type, unplaced_arguments, unplaced_lambda_names, unplaced_declared, unplaced_label, unplaced_target, unplaced_expression_by, unplaced_statement_by, unplaced_choice_by, unplaced_branch_by, unplaced_catch_by, unplaced_expression, unplaced_statement, unplaced_block, unplaced_modifier_kind, unplaced_modifier, unplaced_param, unplaced_params, unplaced_typed, unplaced_value, unplaced_delegation, unplaced_member_by, unplaced_member, unplaced_type_param, unplaced_type_params, unplaced_super, unplaced_supers, unplaced_word, unplaced_class, unplaced_package, unplaced_import, unplaced_file}
use Rattle.kotlin_placeless.specs.Placeless as p
use Rattle.kotlin_placeless.specs.Placeless.{at_made, brackets_made, type_layer, placeless_type, placeless_arguments, placeless_declared, placeless_expression, placeless_statement, placeless_choice, placeless_branch, placeless_catch, placeless_block, placeless_param, placeless_params, placeless_typed, placeless_value, placeless_setter, placeless_delegation, member_layer, placeless_member, placeless_type_param, placeless_type_params, placeless_super, placeless_supers, placeless_class, placeless_file}

two : {A B C : Type 0} (f : A → B → C) {a c : A} {b d : B} → a ≡ c → b ≡ d → f a b ≡ f c d
two f {a} {c} {b} {d} h i = ap (λ z. f z b) h ∙ ap (f c) i

three : {A B C D : Type 0} (f : A → B → C → D) {a b : A} {c d : B} {g h : C} → a ≡ b → c ≡ d → g ≡ h → f a c g ≡ f b d h
three f {a} {b} {c} {d} {g} {h} i j k = ap (λ z. f z c g) i ∙ two (f b) j k

four : {A B C D E : Type 0} (f : A → B → C → D → E) {a b : A} {c d : B} {g h : C} {k l : D} → a ≡ b → c ≡ d → g ≡ h → k ≡ l → f a c g k ≡ f b d h l
four f {a} {b} {c} {d} {g} {h} {k} {l} i j m n = ap (λ z. f z c g k) i ∙ three (f b) j m n

-- what is done to a list twice
twice : {A B : Type 0} (f : A → A) (g h : A → B) → ((x : A) → g (f x) ≡ h x) → (xs : List A) → map g (map f xs) ≡ map h xs
twice f g h e [] = refl
twice f g h e (x ∷ xs) = two (λ y ys. y ∷ ys) (e x) (twice f g h e xs)

some_twice : {A B : Type 0} (f : A → A) (g h : A → B) → ((x : A) → g (f x) ≡ h x) → (x : Option A) → option_map g (option_map f x) ≡ option_map h x
some_twice f g h e None = refl
some_twice f g h e (Some x) = ap Some (e x)

-- ---- names and types

names_same : (xs : List KName) → map unplaced_name (map unplaced_name xs) ≡ map unplaced_name xs
names_same xs = twice unplaced_name unplaced_name unplaced_name (λ x. refl) xs

qualified_same : (x : KQualified) → unplaced_qualified (unplaced_qualified x) ≡ unplaced_qualified x
qualified_same x = ap {B = KQualified} (λ z. record { first = unplaced_name x.first; rest = z }) (twice unplaced_dotted unplaced_dotted unplaced_dotted (λ y. refl) x.rest)

asked_same : (x : Option Position) → option_map (λ (y : Position). made) (option_map at_made x) ≡ option_map (λ (y : Position). made) x
asked_same None = refl
asked_same (Some x) = refl

abbrev Y : Type 0
Y = (x : KType) × (unplaced_type (placeless_type x) ≡ unplaced_type x)

all_Y : (xs : List Y) → map unplaced_type (map placeless_type (map (λ (x : Y). x.0) xs)) ≡ map unplaced_type (map (λ (x : Y). x.0) xs)
all_Y [] = refl
all_Y (x ∷ xs) = two (λ y ys. y ∷ ys) x.1 (all_Y xs)

type_unplaced : (x : KType-F KType) → unplaced_type (roll-KType x) ≡ unplaced_type_by (map-KType KType KType unplaced_type x)
unfolding unplaced_type
type_unplaced x = fold-roll-KType KType unplaced_type_by x

type_placeless : (x : KType-F KType) → placeless_type (roll-KType x) ≡ roll-KType (type_layer (map-KType KType KType placeless_type x))
unfolding placeless_type
type_placeless x = fold-roll-KType KType p.type_by x

type_forms : (z : KType-F Y) → unplaced_type_by (map-KType KType KType unplaced_type (type_layer (map-KType KType KType placeless_type (map-KType Y KType (λ x. x.0) z)))) ≡ unplaced_type_by (map-KType KType KType unplaced_type (map-KType Y KType (λ x. x.0) z))
type_forms (KType-F.Plain x question variable) = two (λ (a : KQualified) (b : Option Position). ty.Plain a b false) (qualified_same x) (asked_same question)
type_forms (KType-F.Applied x angles arguments commas question) = three (λ (a : KQualified) (b : List KType) (c : Option Position). ty.Applied a made_brackets b [] c) (qualified_same x) (all_Y arguments) (asked_same question)

type_same : (x : KType) → unplaced_type (placeless_type x) ≡ unplaced_type x
type_same = ind-KType (λ x. unplaced_type (placeless_type x) ≡ unplaced_type x) (λ x z is. subst (λ (u : KType-F KType). unplaced_type (placeless_type (roll-KType u)) ≡ unplaced_type (roll-KType u)) is
    (ap unplaced_type (type_placeless (map-KType Y KType (λ x. x.0) z)) ∙ type_unplaced (type_layer (map-KType KType KType placeless_type (map-KType Y KType (λ x. x.0) z))) ∙ type_forms z ∙ sym (type_unplaced (map-KType Y KType (λ x. x.0) z))))

arguments_same : (x : Option KTypeArguments) → option_map unplaced_arguments (option_map placeless_arguments x) ≡ option_map unplaced_arguments x
arguments_same x = some_twice placeless_arguments unplaced_arguments unplaced_arguments (λ y. ap {B = KTypeArguments} (λ z. record { angles = made_brackets; items = z; commas = [] }) (twice placeless_type unplaced_type unplaced_type type_same y.items)) x

lambda_same : (x : KLambdaNames) → unplaced_lambda_names (p.placeless_names x) ≡ unplaced_lambda_names x
lambda_same x = ap {B = KLambdaNames} (λ z. record { items = z; commas = []; arrow = None }) (names_same x.items)

declared_same : (x : KDeclared) → unplaced_declared (placeless_declared x) ≡ unplaced_declared x
declared_same x = ap {B = KDeclared} (λ z. record { word = x.word; at = made; name = unplaced_name x.name; colon = made; kind = z }) (type_same x.kind)

label_same : (x : Option KLabel) → option_map unplaced_label (option_map unplaced_label x) ≡ option_map unplaced_label x
label_same x = some_twice unplaced_label unplaced_label unplaced_label (λ y. refl) x

target_same : (x : Option KTarget) → option_map unplaced_target (option_map unplaced_target x) ≡ option_map unplaced_target x
target_same x = some_twice unplaced_target unplaced_target unplaced_target (λ y. refl) x

-- ---- expressions and statements

unfoldable unplaced_choice : KChoice → KChoice
unplaced_choice = fold-KChoice KExpr KStmt KChoice KBranch KCatch unplaced_expression_by unplaced_statement_by unplaced_choice_by unplaced_branch_by unplaced_catch_by

unfoldable unplaced_branch : KBranch → KBranch
unplaced_branch = fold-KBranch KExpr KStmt KChoice KBranch KCatch unplaced_expression_by unplaced_statement_by unplaced_choice_by unplaced_branch_by unplaced_catch_by

unfoldable unplaced_catch : KCatch → KCatch
unplaced_catch = fold-KCatch KExpr KStmt KChoice KBranch KCatch unplaced_expression_by unplaced_statement_by unplaced_choice_by unplaced_branch_by unplaced_catch_by

abbrev E : Type 0
E = (x : KExpr) × (unplaced_expression (placeless_expression x) ≡ unplaced_expression x)

abbrev S : Type 0
S = (x : KStmt) × (unplaced_statement (placeless_statement x) ≡ unplaced_statement x)

abbrev C : Type 0
C = (x : KChoice) × (unplaced_choice (placeless_choice x) ≡ unplaced_choice x)

abbrev B : Type 0
B = (x : KBranch) × (unplaced_branch (placeless_branch x) ≡ unplaced_branch x)

abbrev K : Type 0
K = (x : KCatch) × (unplaced_catch (placeless_catch x) ≡ unplaced_catch x)

all_E : (xs : List E) → map unplaced_expression (map placeless_expression (map (λ (x : E). x.0) xs)) ≡ map unplaced_expression (map (λ (x : E). x.0) xs)
all_E [] = refl
all_E (x ∷ xs) = two (λ y ys. y ∷ ys) x.1 (all_E xs)

all_S : (xs : List S) → map unplaced_statement (map placeless_statement (map (λ (x : S). x.0) xs)) ≡ map unplaced_statement (map (λ (x : S). x.0) xs)
all_S [] = refl
all_S (x ∷ xs) = two (λ y ys. y ∷ ys) x.1 (all_S xs)

all_C : (xs : List C) → map unplaced_choice (map placeless_choice (map (λ (x : C). x.0) xs)) ≡ map unplaced_choice (map (λ (x : C). x.0) xs)
all_C [] = refl
all_C (x ∷ xs) = two (λ y ys. y ∷ ys) x.1 (all_C xs)

all_B : (xs : List B) → map unplaced_branch (map placeless_branch (map (λ (x : B). x.0) xs)) ≡ map unplaced_branch (map (λ (x : B). x.0) xs)
all_B [] = refl
all_B (x ∷ xs) = two (λ y ys. y ∷ ys) x.1 (all_B xs)

all_K : (xs : List K) → map unplaced_catch (map placeless_catch (map (λ (x : K). x.0) xs)) ≡ map unplaced_catch (map (λ (x : K). x.0) xs)
all_K [] = refl
all_K (x ∷ xs) = two (λ y ys. y ∷ ys) x.1 (all_K xs)

expr_unplaced : (x : KExpr-F KExpr KStmt KChoice KBranch KCatch) → unplaced_expression (roll-KExpr x) ≡ unplaced_expression_by (map-KExpr KExpr KStmt KChoice KBranch KCatch KExpr KStmt KChoice KBranch KCatch unplaced_expression unplaced_statement unplaced_choice unplaced_branch unplaced_catch x)
unfolding unplaced_expression unplaced_statement unplaced_choice unplaced_branch unplaced_catch
expr_unplaced x = fold-roll-KExpr KExpr KStmt KChoice KBranch KCatch unplaced_expression_by unplaced_statement_by unplaced_choice_by unplaced_branch_by unplaced_catch_by x

expr_placeless : (x : KExpr-F KExpr KStmt KChoice KBranch KCatch) → placeless_expression (roll-KExpr x) ≡ p.expression_by (map-KExpr KExpr KStmt KChoice KBranch KCatch KExpr KStmt KChoice KBranch KCatch placeless_expression placeless_statement placeless_choice placeless_branch placeless_catch x)
unfolding placeless_expression placeless_statement placeless_choice placeless_branch placeless_catch
expr_placeless x = fold-roll-KExpr KExpr KStmt KChoice KBranch KCatch p.expression_by p.statement_by p.choice_by p.branch_by p.catch_by x

stmt_unplaced : (x : KStmt-F KExpr KStmt KChoice KBranch KCatch) → unplaced_statement (roll-KStmt x) ≡ unplaced_statement_by (map-KStmt KExpr KStmt KChoice KBranch KCatch KExpr KStmt KChoice KBranch KCatch unplaced_expression unplaced_statement unplaced_choice unplaced_branch unplaced_catch x)
unfolding unplaced_expression unplaced_statement unplaced_choice unplaced_branch unplaced_catch
stmt_unplaced x = fold-roll-KStmt KExpr KStmt KChoice KBranch KCatch unplaced_expression_by unplaced_statement_by unplaced_choice_by unplaced_branch_by unplaced_catch_by x

stmt_placeless : (x : KStmt-F KExpr KStmt KChoice KBranch KCatch) → placeless_statement (roll-KStmt x) ≡ p.statement_by (map-KStmt KExpr KStmt KChoice KBranch KCatch KExpr KStmt KChoice KBranch KCatch placeless_expression placeless_statement placeless_choice placeless_branch placeless_catch x)
unfolding placeless_expression placeless_statement placeless_choice placeless_branch placeless_catch
stmt_placeless x = fold-roll-KStmt KExpr KStmt KChoice KBranch KCatch p.expression_by p.statement_by p.choice_by p.branch_by p.catch_by x

choice_unplaced : (x : KChoice-F KExpr KStmt KChoice KBranch KCatch) → unplaced_choice (roll-KChoice x) ≡ unplaced_choice_by (map-KChoice KExpr KStmt KChoice KBranch KCatch KExpr KStmt KChoice KBranch KCatch unplaced_expression unplaced_statement unplaced_choice unplaced_branch unplaced_catch x)
unfolding unplaced_expression unplaced_statement unplaced_choice unplaced_branch unplaced_catch
choice_unplaced x = fold-roll-KChoice KExpr KStmt KChoice KBranch KCatch unplaced_expression_by unplaced_statement_by unplaced_choice_by unplaced_branch_by unplaced_catch_by x

choice_placeless : (x : KChoice-F KExpr KStmt KChoice KBranch KCatch) → placeless_choice (roll-KChoice x) ≡ p.choice_by (map-KChoice KExpr KStmt KChoice KBranch KCatch KExpr KStmt KChoice KBranch KCatch placeless_expression placeless_statement placeless_choice placeless_branch placeless_catch x)
unfolding placeless_expression placeless_statement placeless_choice placeless_branch placeless_catch
choice_placeless x = fold-roll-KChoice KExpr KStmt KChoice KBranch KCatch p.expression_by p.statement_by p.choice_by p.branch_by p.catch_by x

branch_unplaced : (x : KBranch-F KExpr KStmt KChoice KBranch KCatch) → unplaced_branch (roll-KBranch x) ≡ unplaced_branch_by (map-KBranch KExpr KStmt KChoice KBranch KCatch KExpr KStmt KChoice KBranch KCatch unplaced_expression unplaced_statement unplaced_choice unplaced_branch unplaced_catch x)
unfolding unplaced_expression unplaced_statement unplaced_choice unplaced_branch unplaced_catch
branch_unplaced x = fold-roll-KBranch KExpr KStmt KChoice KBranch KCatch unplaced_expression_by unplaced_statement_by unplaced_choice_by unplaced_branch_by unplaced_catch_by x

branch_placeless : (x : KBranch-F KExpr KStmt KChoice KBranch KCatch) → placeless_branch (roll-KBranch x) ≡ p.branch_by (map-KBranch KExpr KStmt KChoice KBranch KCatch KExpr KStmt KChoice KBranch KCatch placeless_expression placeless_statement placeless_choice placeless_branch placeless_catch x)
unfolding placeless_expression placeless_statement placeless_choice placeless_branch placeless_catch
branch_placeless x = fold-roll-KBranch KExpr KStmt KChoice KBranch KCatch p.expression_by p.statement_by p.choice_by p.branch_by p.catch_by x

catch_unplaced : (x : KCatch-F KExpr KStmt KChoice KBranch KCatch) → unplaced_catch (roll-KCatch x) ≡ unplaced_catch_by (map-KCatch KExpr KStmt KChoice KBranch KCatch KExpr KStmt KChoice KBranch KCatch unplaced_expression unplaced_statement unplaced_choice unplaced_branch unplaced_catch x)
unfolding unplaced_expression unplaced_statement unplaced_choice unplaced_branch unplaced_catch
catch_unplaced x = fold-roll-KCatch KExpr KStmt KChoice KBranch KCatch unplaced_expression_by unplaced_statement_by unplaced_choice_by unplaced_branch_by unplaced_catch_by x

catch_placeless : (x : KCatch-F KExpr KStmt KChoice KBranch KCatch) → placeless_catch (roll-KCatch x) ≡ p.catch_by (map-KCatch KExpr KStmt KChoice KBranch KCatch KExpr KStmt KChoice KBranch KCatch placeless_expression placeless_statement placeless_choice placeless_branch placeless_catch x)
unfolding placeless_expression placeless_statement placeless_choice placeless_branch placeless_catch
catch_placeless x = fold-roll-KCatch KExpr KStmt KChoice KBranch KCatch p.expression_by p.statement_by p.choice_by p.branch_by p.catch_by x

expr_forms : (z : KExpr-F E S C B K) → unplaced_expression_by (map-KExpr KExpr KStmt KChoice KBranch KCatch KExpr KStmt KChoice KBranch KCatch unplaced_expression unplaced_statement unplaced_choice unplaced_branch unplaced_catch (p.expression_layer (map-KExpr KExpr KStmt KChoice KBranch KCatch KExpr KStmt KChoice KBranch KCatch placeless_expression placeless_statement placeless_choice placeless_branch placeless_catch (map-KExpr E S C B K KExpr KStmt KChoice KBranch KCatch (λ x. x.0) (λ x. x.0) (λ x. x.0) (λ x. x.0) (λ x. x.0) z)))) ≡ unplaced_expression_by (map-KExpr KExpr KStmt KChoice KBranch KCatch KExpr KStmt KChoice KBranch KCatch unplaced_expression unplaced_statement unplaced_choice unplaced_branch unplaced_catch (map-KExpr E S C B K KExpr KStmt KChoice KBranch KCatch (λ x. x.0) (λ x. x.0) (λ x. x.0) (λ x. x.0) (λ x. x.0) z))
expr_forms (KExpr-F.Literal x at) = refl
expr_forms (KExpr-F.Name x) = refl
expr_forms (KExpr-F.This at) = refl
expr_forms (KExpr-F.Paren round v) = ap (e.Paren made_brackets) v.1
expr_forms (KExpr-F.Call x types round vs commas) = two (λ (a : Option KTypeArguments) (b : List KExpr). e.Call (unplaced_name x) a made_brackets b []) (arguments_same types) (all_E vs)
expr_forms (KExpr-F.SuperCall at x round vs commas) = ap (λ (b : List KExpr). e.SuperCall made_super (unplaced_name x) made_brackets b []) (all_E vs)
expr_forms (KExpr-F.Field v dot x) = ap (λ (a : KExpr). e.Field a made (unplaced_name x)) v.1
expr_forms (KExpr-F.Method v dot x types round vs commas) = three (λ (a : KExpr) (b : Option KTypeArguments) (c : List KExpr). e.Method a made (unplaced_name x) b made_brackets c []) v.1 (arguments_same types) (all_E vs)
expr_forms (KExpr-F.Element v square u) = two (λ (a b : KExpr). e.Element a made_brackets b) v.1 u.1
expr_forms (KExpr-F.Postfix v o at) = ap (λ (a : KExpr). e.Postfix a o made) v.1
expr_forms (KExpr-F.Prefix o at v) = ap (λ (a : KExpr). e.Prefix o made a) v.1
expr_forms (KExpr-F.As v at kind) = two (λ (a : KExpr) (b : KType). e.As a made b) v.1 (type_same kind)
expr_forms (KExpr-F.Is v at kind) = two (λ (a : KExpr) (b : KType). e.Is a made b) v.1 (type_same kind)
expr_forms (KExpr-F.Binary v o at u) = two (λ (a b : KExpr). e.Binary a o made b) v.1 u.1
expr_forms (KExpr-F.IfValue at v u else_at w) = three (λ (a b c : KExpr). e.IfValue made_head a b made c) v.1 u.1 w.1
expr_forms (KExpr-F.WhenValue at v curly cs else_at u) = three (λ (a : KExpr) (b : List KChoice) (c : KExpr). e.WhenValue made_head a made_brackets b made_else c) v.1 (all_C cs) u.1
expr_forms (KExpr-F.Lambda face curly names xs) = three (λ (a : KType) (b : KLambdaNames) (c : List KStmt). e.Lambda a made_brackets b c) (type_same face) (lambda_same names) (all_S xs)
expr_forms (KExpr-F.Run at curly xs) = ap (λ (a : List KStmt). e.Run made made_brackets a) (all_S xs)
expr_forms (KExpr-F.Class x at) = ap (λ (a : KQualified). e.Class a made_class) (qualified_same x)

stmt_forms : (z : KStmt-F E S C B K) → unplaced_statement_by (map-KStmt KExpr KStmt KChoice KBranch KCatch KExpr KStmt KChoice KBranch KCatch unplaced_expression unplaced_statement unplaced_choice unplaced_branch unplaced_catch (p.statement_layer (map-KStmt KExpr KStmt KChoice KBranch KCatch KExpr KStmt KChoice KBranch KCatch placeless_expression placeless_statement placeless_choice placeless_branch placeless_catch (map-KStmt E S C B K KExpr KStmt KChoice KBranch KCatch (λ x. x.0) (λ x. x.0) (λ x. x.0) (λ x. x.0) (λ x. x.0) z)))) ≡ unplaced_statement_by (map-KStmt KExpr KStmt KChoice KBranch KCatch KExpr KStmt KChoice KBranch KCatch unplaced_expression unplaced_statement unplaced_choice unplaced_branch unplaced_catch (map-KStmt E S C B K KExpr KStmt KChoice KBranch KCatch (λ x. x.0) (λ x. x.0) (λ x. x.0) (λ x. x.0) (λ x. x.0) z))
stmt_forms (KStmt-F.Commented comments x) = x.1
stmt_forms (KStmt-F.Declared x) = ap s.Declared (declared_same x)
stmt_forms (KStmt-F.Local x at v) = two (λ (a : KDeclared) (b : KExpr). s.Local a made b) (declared_same x) v.1
stmt_forms (KStmt-F.Expression v) = ap s.Expression v.1
stmt_forms (KStmt-F.Assign v at u) = two (λ (a b : KExpr). s.Assign a made b) v.1 u.1
stmt_forms (KStmt-F.While l at v curly xs) = three (λ (a : Option KLabel) (b : KExpr) (c : List KStmt). s.While a made_head b made_brackets c) (label_same l) v.1 (all_S xs)
stmt_forms (KStmt-F.DoWhile l do_at curly xs at v) = three (λ (a : Option KLabel) (b : List KStmt) (c : KExpr). s.DoWhile a made made_brackets b made_head c) (label_same l) (all_S xs) v.1
stmt_forms (KStmt-F.For l at x in_at v curly xs) = three (λ (a : Option KLabel) (b : KExpr) (c : List KStmt). s.For a made_head (unplaced_name x) made b made_brackets c) (label_same l) v.1 (all_S xs)
stmt_forms (KStmt-F.ForRange l at x in_at v until_at u curly xs) = four (λ (a : Option KLabel) (b c : KExpr) (d : List KStmt). s.ForRange a made_head (unplaced_name x) made b made c made_brackets d) (label_same l) v.1 u.1 (all_S xs)
stmt_forms (KStmt-F.If at v curly xs) = two (λ (a : KExpr) (b : List KStmt). s.If made_head a made_brackets b) v.1 (all_S xs)
stmt_forms (KStmt-F.IfElse at v curly xs else_at other ys) = three (λ (a : KExpr) (b c : List KStmt). s.IfElse made_head a made_brackets b made made_brackets c) v.1 (all_S xs) (all_S ys)
stmt_forms (KStmt-F.IfElseIf at v curly xs else_at x) = three (λ (a : KExpr) (b : List KStmt) (c : KStmt). s.IfElseIf made_head a made_brackets b made c) v.1 (all_S xs) x.1
stmt_forms (KStmt-F.When at v curly bs else_at other ys) = three (λ (a : KExpr) (b : List KBranch) (c : List KStmt). s.When made_head a made_brackets b made_else made_brackets c) v.1 (all_B bs) (all_S ys)
stmt_forms (KStmt-F.Break at to) = ap (s.Break made) (target_same to)
stmt_forms (KStmt-F.Continue at to) = ap (s.Continue made) (target_same to)
stmt_forms (KStmt-F.Return at to) = ap (s.Return made) (target_same to)
stmt_forms (KStmt-F.Give at to v) = two (λ (a : Option KTarget) (b : KExpr). s.Give made a b) (target_same to) v.1
stmt_forms (KStmt-F.Throw at v) = ap (s.Throw made) v.1
stmt_forms (KStmt-F.Try at curly xs ks) = two (λ (a : List KStmt) (b : List KCatch). s.Try made made_brackets a b) (all_S xs) (all_K ks)
stmt_forms (KStmt-F.TryFinally at curly xs ks last_at ys) = three (λ (a : List KStmt) (b : List KCatch) (c : List KStmt). s.TryFinally made made_brackets a b made_finally c) (all_S xs) (all_K ks) (all_S ys)
stmt_forms (KStmt-F.Synchronized at v curly xs) = two (λ (a : KExpr) (b : List KStmt). s.Synchronized made_head a made_brackets b) v.1 (all_S xs)

expr_layer : (z : KExpr-F E S C B K) → unplaced_expression (placeless_expression (roll-KExpr (map-KExpr E S C B K KExpr KStmt KChoice KBranch KCatch (λ x. x.0) (λ x. x.0) (λ x. x.0) (λ x. x.0) (λ x. x.0) z))) ≡ unplaced_expression (roll-KExpr (map-KExpr E S C B K KExpr KStmt KChoice KBranch KCatch (λ x. x.0) (λ x. x.0) (λ x. x.0) (λ x. x.0) (λ x. x.0) z))
expr_layer z =
    let y = map-KExpr E S C B K KExpr KStmt KChoice KBranch KCatch (λ x. x.0) (λ x. x.0) (λ x. x.0) (λ x. x.0) (λ x. x.0) z in
    ap unplaced_expression (expr_placeless y) ∙ expr_unplaced (p.expression_layer (map-KExpr KExpr KStmt KChoice KBranch KCatch KExpr KStmt KChoice KBranch KCatch placeless_expression placeless_statement placeless_choice placeless_branch placeless_catch (y))) ∙ expr_forms z ∙ sym (expr_unplaced y)

stmt_layer : (z : KStmt-F E S C B K) → unplaced_statement (placeless_statement (roll-KStmt (map-KStmt E S C B K KExpr KStmt KChoice KBranch KCatch (λ x. x.0) (λ x. x.0) (λ x. x.0) (λ x. x.0) (λ x. x.0) z))) ≡ unplaced_statement (roll-KStmt (map-KStmt E S C B K KExpr KStmt KChoice KBranch KCatch (λ x. x.0) (λ x. x.0) (λ x. x.0) (λ x. x.0) (λ x. x.0) z))
stmt_layer z =
    let y = map-KStmt E S C B K KExpr KStmt KChoice KBranch KCatch (λ x. x.0) (λ x. x.0) (λ x. x.0) (λ x. x.0) (λ x. x.0) z in
    ap unplaced_statement (stmt_placeless y) ∙ stmt_unplaced (p.statement_layer (map-KStmt KExpr KStmt KChoice KBranch KCatch KExpr KStmt KChoice KBranch KCatch placeless_expression placeless_statement placeless_choice placeless_branch placeless_catch (y))) ∙ stmt_forms z ∙ sym (stmt_unplaced y)

choice_layer : (z : KChoice-F E S C B K) → unplaced_choice (placeless_choice (roll-KChoice (map-KChoice E S C B K KExpr KStmt KChoice KBranch KCatch (λ x. x.0) (λ x. x.0) (λ x. x.0) (λ x. x.0) (λ x. x.0) z))) ≡ unplaced_choice (roll-KChoice (map-KChoice E S C B K KExpr KStmt KChoice KBranch KCatch (λ x. x.0) (λ x. x.0) (λ x. x.0) (λ x. x.0) (λ x. x.0) z))
choice_layer z =
    let y = map-KChoice E S C B K KExpr KStmt KChoice KBranch KCatch (λ x. x.0) (λ x. x.0) (λ x. x.0) (λ x. x.0) (λ x. x.0) z in
    ap unplaced_choice (choice_placeless y)
    ∙ choice_unplaced (record { labels = map placeless_expression (map (λ (x : E). x.0) z.labels); commas = p.all_made z.commas; arrow = made; value = placeless_expression z.value.0 })
    ∙ two (λ (a : List KExpr) (b : KExpr). roll-KChoice (record { labels = a; commas = []; arrow = made; value = b })) (all_E z.labels) z.value.1 ∙ sym (choice_unplaced y)

branch_layer : (z : KBranch-F E S C B K) → unplaced_branch (placeless_branch (roll-KBranch (map-KBranch E S C B K KExpr KStmt KChoice KBranch KCatch (λ x. x.0) (λ x. x.0) (λ x. x.0) (λ x. x.0) (λ x. x.0) z))) ≡ unplaced_branch (roll-KBranch (map-KBranch E S C B K KExpr KStmt KChoice KBranch KCatch (λ x. x.0) (λ x. x.0) (λ x. x.0) (λ x. x.0) (λ x. x.0) z))
branch_layer z =
    let y = map-KBranch E S C B K KExpr KStmt KChoice KBranch KCatch (λ x. x.0) (λ x. x.0) (λ x. x.0) (λ x. x.0) (λ x. x.0) z in
    ap unplaced_branch (branch_placeless y)
    ∙ branch_unplaced (record { labels = map placeless_expression (map (λ (x : E). x.0) z.labels); commas = p.all_made z.commas; arrow = made; curly = made_brackets; statements = map placeless_statement (map (λ (x : S). x.0) z.statements) })
    ∙ two (λ (a : List KExpr) (b : List KStmt). roll-KBranch (record { labels = a; commas = []; arrow = made; curly = made_brackets; statements = b })) (all_E z.labels) (all_S z.statements) ∙ sym (branch_unplaced y)

catch_layer : (z : KCatch-F E S C B K) → unplaced_catch (placeless_catch (roll-KCatch (map-KCatch E S C B K KExpr KStmt KChoice KBranch KCatch (λ x. x.0) (λ x. x.0) (λ x. x.0) (λ x. x.0) (λ x. x.0) z))) ≡ unplaced_catch (roll-KCatch (map-KCatch E S C B K KExpr KStmt KChoice KBranch KCatch (λ x. x.0) (λ x. x.0) (λ x. x.0) (λ x. x.0) (λ x. x.0) z))
catch_layer z =
    let y = map-KCatch E S C B K KExpr KStmt KChoice KBranch KCatch (λ x. x.0) (λ x. x.0) (λ x. x.0) (λ x. x.0) (λ x. x.0) z in
    ap unplaced_catch (catch_placeless y)
    ∙ catch_unplaced (record { at = made_head; name = unplaced_name z.name; colon = made; kind = placeless_type z.kind; curly = made_brackets; statements = map placeless_statement (map (λ (x : S). x.0) z.statements) })
    ∙ two (λ (a : KType) (b : List KStmt). roll-KCatch (record { at = made_head; name = unplaced_name z.name; colon = made; kind = a; curly = made_brackets; statements = b })) (type_same z.kind) (all_S z.statements) ∙ sym (catch_unplaced y)

expression_same : (x : KExpr) → unplaced_expression (placeless_expression x) ≡ unplaced_expression x
expression_same = ind-KExpr (λ x. unplaced_expression (placeless_expression x) ≡ unplaced_expression x) (λ x. unplaced_statement (placeless_statement x) ≡ unplaced_statement x) (λ x. unplaced_choice (placeless_choice x) ≡ unplaced_choice x) (λ x. unplaced_branch (placeless_branch x) ≡ unplaced_branch x) (λ x. unplaced_catch (placeless_catch x) ≡ unplaced_catch x)
    (λ x z is. subst (λ (u : KExpr-F KExpr KStmt KChoice KBranch KCatch). unplaced_expression (placeless_expression (roll-KExpr u)) ≡ unplaced_expression (roll-KExpr u)) is (expr_layer z))
    (λ x z is. subst (λ (u : KStmt-F KExpr KStmt KChoice KBranch KCatch). unplaced_statement (placeless_statement (roll-KStmt u)) ≡ unplaced_statement (roll-KStmt u)) is (stmt_layer z))
    (λ x z is. subst (λ (u : KChoice-F KExpr KStmt KChoice KBranch KCatch). unplaced_choice (placeless_choice (roll-KChoice u)) ≡ unplaced_choice (roll-KChoice u)) is (choice_layer z))
    (λ x z is. subst (λ (u : KBranch-F KExpr KStmt KChoice KBranch KCatch). unplaced_branch (placeless_branch (roll-KBranch u)) ≡ unplaced_branch (roll-KBranch u)) is (branch_layer z))
    (λ x z is. subst (λ (u : KCatch-F KExpr KStmt KChoice KBranch KCatch). unplaced_catch (placeless_catch (roll-KCatch u)) ≡ unplaced_catch (roll-KCatch u)) is (catch_layer z))

statement_same : (x : KStmt) → unplaced_statement (placeless_statement x) ≡ unplaced_statement x
statement_same = ind-KStmt (λ x. unplaced_expression (placeless_expression x) ≡ unplaced_expression x) (λ x. unplaced_statement (placeless_statement x) ≡ unplaced_statement x) (λ x. unplaced_choice (placeless_choice x) ≡ unplaced_choice x) (λ x. unplaced_branch (placeless_branch x) ≡ unplaced_branch x) (λ x. unplaced_catch (placeless_catch x) ≡ unplaced_catch x)
    (λ x z is. subst (λ (u : KExpr-F KExpr KStmt KChoice KBranch KCatch). unplaced_expression (placeless_expression (roll-KExpr u)) ≡ unplaced_expression (roll-KExpr u)) is (expr_layer z))
    (λ x z is. subst (λ (u : KStmt-F KExpr KStmt KChoice KBranch KCatch). unplaced_statement (placeless_statement (roll-KStmt u)) ≡ unplaced_statement (roll-KStmt u)) is (stmt_layer z))
    (λ x z is. subst (λ (u : KChoice-F KExpr KStmt KChoice KBranch KCatch). unplaced_choice (placeless_choice (roll-KChoice u)) ≡ unplaced_choice (roll-KChoice u)) is (choice_layer z))
    (λ x z is. subst (λ (u : KBranch-F KExpr KStmt KChoice KBranch KCatch). unplaced_branch (placeless_branch (roll-KBranch u)) ≡ unplaced_branch (roll-KBranch u)) is (branch_layer z))
    (λ x z is. subst (λ (u : KCatch-F KExpr KStmt KChoice KBranch KCatch). unplaced_catch (placeless_catch (roll-KCatch u)) ≡ unplaced_catch (roll-KCatch u)) is (catch_layer z))

-- ---- members

block_same : (x : KBlock) → unplaced_block (placeless_block x) ≡ unplaced_block x
block_same x = ap {B = KBlock} (λ z. record { curly = made_brackets; statements = z }) (twice placeless_statement unplaced_statement unplaced_statement statement_same x.statements)

body_same : (x : Option KBlock) → option_map unplaced_block (option_map placeless_block x) ≡ option_map unplaced_block x
body_same x = some_twice placeless_block unplaced_block unplaced_block block_same x

kind_same : (x : KModifierKind) → unplaced_modifier_kind (unplaced_modifier_kind x) ≡ unplaced_modifier_kind x
kind_same (modifier.JvmStatic at) = refl
kind_same (modifier.JvmField at) = refl
kind_same (modifier.Synchronized at) = refl
kind_same (modifier.Volatile at) = refl
kind_same modifier.Private = refl
kind_same modifier.Abstract = refl
kind_same modifier.Open = refl
kind_same modifier.Override = refl
kind_same modifier.Const = refl

modifiers_same : (xs : List KModifier) → map unplaced_modifier (map unplaced_modifier xs) ≡ map unplaced_modifier xs
modifiers_same xs = twice unplaced_modifier unplaced_modifier unplaced_modifier (λ x. ap {B = KModifier} (λ z. record { kind = z; at = made }) (kind_same x.kind)) xs

params_same : (x : KParams) → unplaced_params (placeless_params x) ≡ unplaced_params x
params_same x = ap {B = KParams} (λ z. record { round = made_brackets; items = z; commas = [] })
    (twice placeless_param unplaced_param unplaced_param (λ y. ap {B = KParam} (λ z. record { name = unplaced_name y.name; colon = made; kind = z }) (type_same y.kind)) x.items)

typed_same : (x : Option KTyped) → option_map unplaced_typed (option_map placeless_typed x) ≡ option_map unplaced_typed x
typed_same x = some_twice placeless_typed unplaced_typed unplaced_typed (λ y. ap {B = KTyped} (λ z. record { colon = made; kind = z }) (type_same y.kind)) x

value_same : (x : Option KValue) → option_map unplaced_value (option_map placeless_value x) ≡ option_map unplaced_value x
value_same x = some_twice placeless_value unplaced_value unplaced_value (λ y. ap {B = KValue} (λ z. record { at = made; tree = z }) (expression_same y.tree)) x

setter_same : (x : Option KPrivateSet) → option_map (λ (y : KPrivateSet). made_private_set) (option_map placeless_setter x) ≡ option_map (λ (y : KPrivateSet). made_private_set) x
setter_same None = refl
setter_same (Some x) = refl

delegation_same : (x : Option KDelegation) → option_map unplaced_delegation (option_map placeless_delegation x) ≡ option_map unplaced_delegation x
delegation_same x = some_twice placeless_delegation unplaced_delegation unplaced_delegation (λ y.
    ap {B = KDelegation} (λ z. record { colon = made; called = y.called; at = made; round = made_brackets; arguments = z; commas = [] }) (twice placeless_expression unplaced_expression unplaced_expression expression_same y.arguments)) x

abbrev Part : Type 0
Part = (x : KMember) × (unplaced_member (placeless_member x) ≡ unplaced_member x)

parts_same : (xs : List Part) → map unplaced_member (map placeless_member (map (λ (x : Part). x.0) xs)) ≡ map unplaced_member (map (λ (x : Part). x.0) xs)
parts_same [] = refl
parts_same (x ∷ xs) = two (λ y ys. y ∷ ys) x.1 (parts_same xs)

member_unplaced : (x : KMember-F KMember) → unplaced_member (roll-KMember x) ≡ unplaced_member_by (map-KMember KMember KMember unplaced_member x)
unfolding unplaced_member
member_unplaced x = fold-roll-KMember KMember unplaced_member_by x

member_placeless : (x : KMember-F KMember) → placeless_member (roll-KMember x) ≡ p.member_by (map-KMember KMember KMember placeless_member x)
unfolding placeless_member
member_placeless x = fold-roll-KMember KMember p.member_by x

member_forms : (z : KMember-F Part) → unplaced_member_by (map-KMember KMember KMember unplaced_member (member_layer (map-KMember KMember KMember placeless_member (map-KMember Part KMember (λ x. x.0) z)))) ≡ unplaced_member_by (map-KMember KMember KMember unplaced_member (map-KMember Part KMember (λ x. x.0) z))
member_forms (KMember-F.Commented comments x) = x.1
member_forms (KMember-F.Property ms x value setter) = four mb.Property (modifiers_same ms) (declared_same x) (value_same value) (setter_same setter)
member_forms (KMember-F.Init at body) = ap (mb.Init made) (block_same body)
member_forms (KMember-F.Function ms at x ps result body) =
    four (λ (a : List KModifier) (b : KParams) (c : Option KTyped) (d : Option KBlock). mb.Function a made (unplaced_name x) b c d) (modifiers_same ms) (params_same ps) (typed_same result) (body_same body)
member_forms (KMember-F.Constructor ms at ps first body) =
    four (λ (a : List KModifier) (b : KParams) (c : Option KDelegation) (d : KBlock). mb.Constructor a made b c d) (modifiers_same ms) (params_same ps) (delegation_same first) (block_same body)
member_forms (KMember-F.Companion at xs) = ap (mb.Companion made_companion) (parts_same xs)

member_same : (x : KMember) → unplaced_member (placeless_member x) ≡ unplaced_member x
member_same = ind-KMember (λ x. unplaced_member (placeless_member x) ≡ unplaced_member x) (λ x z is. subst (λ (u : KMember-F KMember). unplaced_member (placeless_member (roll-KMember u)) ≡ unplaced_member (roll-KMember u)) is
    (ap unplaced_member (member_placeless (map-KMember Part KMember (λ x. x.0) z)) ∙ member_unplaced (member_layer (map-KMember KMember KMember placeless_member (map-KMember Part KMember (λ x. x.0) z))) ∙ member_forms z ∙ sym (member_unplaced (map-KMember Part KMember (λ x. x.0) z))))

-- ---- classes and files

word_same : (x : KClassWord) → unplaced_word (unplaced_word x) ≡ unplaced_word x
word_same word.Class = refl
word_same word.Interface = refl
word_same (word.FunClass at) = refl
word_same (word.FunInterface at) = refl

type_params_same : (x : Option KTypeParams) → option_map unplaced_type_params (option_map placeless_type_params x) ≡ option_map unplaced_type_params x
type_params_same x = some_twice placeless_type_params unplaced_type_params unplaced_type_params (λ y. ap {B = KTypeParams} (λ z. record { angles = made_brackets; items = z; commas = [] })
    (twice placeless_type_param unplaced_type_param unplaced_type_param (λ y. ap {B = KTypeParam} (λ z. record { name = unplaced_name y.name; bound = z }) (typed_same y.bound)) y.items)) x

round_same : (x : Option Brackets) → option_map (λ (y : Brackets). made_brackets) (option_map brackets_made x) ≡ option_map (λ (y : Brackets). made_brackets) x
round_same None = refl
round_same (Some x) = refl

super_same : (x : KSuper) → unplaced_super (placeless_super x) ≡ unplaced_super x
super_same x = two {C = KSuper} (λ (a : KType) (b : Option Brackets). record { kind = a; round = b }) (type_same x.kind) (round_same x.round)

supers_same : (x : Option KSupers) → option_map unplaced_supers (option_map placeless_supers x) ≡ option_map unplaced_supers x
supers_same x = some_twice placeless_supers unplaced_supers unplaced_supers (λ y. ap {B = KSupers} (λ z. record { colon = made; items = z; commas = [] }) (twice placeless_super unplaced_super unplaced_super super_same y.items)) x

class_same : (x : KClass) → unplaced_class (placeless_class x) ≡ unplaced_class x
class_same x =
    let f : List KModifier → KClassWord → Option KTypeParams → Option KSupers → List KMember → KClass = λ a b c d e.
    record { comments = []; modifiers = a; word = b; at = made; name = unplaced_name x.name; params = c; supers = d; curly = made_brackets; members = e } in
    ap (λ z. f z (unplaced_word (unplaced_word x.word)) (option_map unplaced_type_params (option_map placeless_type_params x.params)) (option_map unplaced_supers (option_map placeless_supers x.supers)) (map unplaced_member (map placeless_member x.members))) (modifiers_same x.modifiers)
    ∙ four (f (map unplaced_modifier x.modifiers)) (word_same x.word) (type_params_same x.params) (supers_same x.supers) (twice placeless_member unplaced_member unplaced_member member_same x.members)

package_same : (x : KPackage) → unplaced_package (unplaced_package x) ≡ unplaced_package x
package_same x = ap {B = KPackage} (λ z. record { at = made; name = z }) (qualified_same x.name)

import_same : (x : KImport) → unplaced_import (unplaced_import x) ≡ unplaced_import x
import_same x = ap {B = KImport} (λ z. record { at = made; name = z }) (qualified_same x.name)

pub file_same : (x : KFile) → unplaced_file (placeless_file x) ≡ unplaced_file x
unfolding unplaced_file placeless_file
file_same x = three {D = KFile} (λ (a : Option KPackage) (b : List KImport) (c : List KClass). record { path = x.path; «package» = a; imports = b; classes = c })
    (some_twice unplaced_package unplaced_package unplaced_package package_same x.package) (twice unplaced_import unplaced_import unplaced_import import_same x.imports)
    (twice placeless_class unplaced_class unplaced_class class_same x.classes)
