-- Comments make no difference up to places.
use Rattle.std.proofs.Common.{◌≡◌, List, [], ◌∷◌, map, Option, Some, None, refl, ap, sym, ◌∙◌, subst}
use Rattle.std.specs.Option.{option_map}
use Rattle.kotlin_tree.specs.declared.expressions.KExpr.{KExpr, roll-KExpr, map-KExpr, fold-roll-KExpr}
use Rattle.kotlin_tree.specs.declared.expressions.KExpr.TheOpen.{KExpr-F, KStmt-F, KChoice-F, KBranch-F, KCatch-F}
use Rattle.kotlin_tree.specs.declared.expressions.KChoice.{KChoice, roll-KChoice, map-KChoice, fold-roll-KChoice}
use Rattle.kotlin_tree.specs.declared.statements.KStmt.{KStmt, roll-KStmt, map-KStmt, fold-roll-KStmt}
use Rattle.kotlin_tree.specs.declared.statements.KBranch.{KBranch, roll-KBranch, map-KBranch, fold-roll-KBranch}
use Rattle.kotlin_tree.specs.declared.statements.KCatch.{KCatch, roll-KCatch, map-KCatch, fold-roll-KCatch}
use Rattle.kotlin_text_laws.proofs.Unique.{unique_expression, unique_statement}
use Rattle.kotlin_text_laws.proofs.Twice.{twice_expression, twice_statement, twice_choice, twice_branch, twice_catch}
use Rattle.kotlin_tree.specs.declared.statements.KBlock.{KBlock}
use Rattle.kotlin_tree.specs.declared.members.KValue.{KValue}
use Rattle.kotlin_tree.specs.declared.members.KPrivateSet.{KPrivateSet}
use Rattle.kotlin_tree.specs.declared.members.KDelegation.{KDelegation}
use Rattle.kotlin_tree.specs.declared.members.KMember.{KMember, roll-KMember, map-KMember, ind-KMember}
use Rattle.kotlin_tree.specs.declared.members.KMember.TheOpen.{KMember-F}
use Rattle.kotlin_tree.specs.declared.members.KMember.TheVariants as mb
use Rattle.kotlin_tree.specs.declared.files.KClass.{KClass}
use Rattle.kotlin_tree.specs.declared.files.KFile.{KFile}
use Rattle.kotlin_tree.specs.UpToPlaces.{made, made_brackets, made_companion, made_private_set, unplaced_name, unplaced_declared, unplaced_expression_by, unplaced_statement_by, unplaced_choice_by, unplaced_branch_by, unplaced_catch_by, unplaced_expression, unplaced_statement, unplaced_block, unplaced_modifier, unplaced_params, unplaced_typed, unplaced_value, unplaced_delegation, unplaced_member_by, unplaced_member, unplaced_type_params, unplaced_supers, unplaced_word, unplaced_class, unplaced_package, unplaced_import, unplaced_file, SameUpToPlaces}
use Rattle.kotlin_text_laws.specs.Uncommented.{uncommented_statement_by, uncommented_expression, uncommented_statement, uncommented_choice, uncommented_branch, uncommented_catch, uncommented_block, uncommented_value, uncommented_delegation, uncommented_member_by, uncommented_member, uncommented_class, uncommented_file}
use Rattle.kotlin_text_laws.proofs.Text.{unplaced_choice, unplaced_branch, unplaced_catch}
use Rattle.kotlin_text_laws.proofs.Files.{unplaced_at, uncommented_at}

expression_layer : (x : KExpr-F KExpr KStmt KChoice KBranch KCatch) → unplaced_expression (roll-KExpr x) ≡ unplaced_expression_by (map-KExpr KExpr KStmt KChoice KBranch KCatch KExpr KStmt KChoice KBranch KCatch unplaced_expression unplaced_statement unplaced_choice unplaced_branch unplaced_catch x)
unfolding unplaced_expression unplaced_statement
expression_layer x = fold-roll-KExpr KExpr KStmt KChoice KBranch KCatch unplaced_expression_by unplaced_statement_by unplaced_choice_by unplaced_branch_by unplaced_catch_by x

statement_layer : (x : KStmt-F KExpr KStmt KChoice KBranch KCatch) → unplaced_statement (roll-KStmt x) ≡ unplaced_statement_by (map-KStmt KExpr KStmt KChoice KBranch KCatch KExpr KStmt KChoice KBranch KCatch unplaced_expression unplaced_statement unplaced_choice unplaced_branch unplaced_catch x)
unfolding unplaced_expression unplaced_statement
statement_layer x = fold-roll-KStmt KExpr KStmt KChoice KBranch KCatch unplaced_expression_by unplaced_statement_by unplaced_choice_by unplaced_branch_by unplaced_catch_by x

choice_layer : (x : KChoice-F KExpr KStmt KChoice KBranch KCatch) → unplaced_choice (roll-KChoice x) ≡ unplaced_choice_by (map-KChoice KExpr KStmt KChoice KBranch KCatch KExpr KStmt KChoice KBranch KCatch unplaced_expression unplaced_statement unplaced_choice unplaced_branch unplaced_catch x)
unfolding unplaced_expression unplaced_statement
choice_layer x = fold-roll-KChoice KExpr KStmt KChoice KBranch KCatch unplaced_expression_by unplaced_statement_by unplaced_choice_by unplaced_branch_by unplaced_catch_by x

branch_layer : (x : KBranch-F KExpr KStmt KChoice KBranch KCatch) → unplaced_branch (roll-KBranch x) ≡ unplaced_branch_by (map-KBranch KExpr KStmt KChoice KBranch KCatch KExpr KStmt KChoice KBranch KCatch unplaced_expression unplaced_statement unplaced_choice unplaced_branch unplaced_catch x)
unfolding unplaced_expression unplaced_statement
branch_layer x = fold-roll-KBranch KExpr KStmt KChoice KBranch KCatch unplaced_expression_by unplaced_statement_by unplaced_choice_by unplaced_branch_by unplaced_catch_by x

catch_layer : (x : KCatch-F KExpr KStmt KChoice KBranch KCatch) → unplaced_catch (roll-KCatch x) ≡ unplaced_catch_by (map-KCatch KExpr KStmt KChoice KBranch KCatch KExpr KStmt KChoice KBranch KCatch unplaced_expression unplaced_statement unplaced_choice unplaced_branch unplaced_catch x)
unfolding unplaced_expression unplaced_statement
catch_layer x = fold-roll-KCatch KExpr KStmt KChoice KBranch KCatch unplaced_expression_by unplaced_statement_by unplaced_choice_by unplaced_branch_by unplaced_catch_by x

statement_opened : (x : KStmt-F KExpr KStmt KChoice KBranch KCatch) → unplaced_statement (uncommented_statement_by x) ≡ unplaced_statement_by (map-KStmt KExpr KStmt KChoice KBranch KCatch KExpr KStmt KChoice KBranch KCatch unplaced_expression unplaced_statement unplaced_choice unplaced_branch unplaced_catch x)
statement_opened (KStmt-F.Commented comments statement) = refl
statement_opened (KStmt-F.Declared x) = statement_layer (KStmt-F.Declared x)
statement_opened (KStmt-F.Local x at value) = statement_layer (KStmt-F.Local x at value)
statement_opened (KStmt-F.Expression x) = statement_layer (KStmt-F.Expression x)
statement_opened (KStmt-F.Assign target at value) = statement_layer (KStmt-F.Assign target at value)
statement_opened (KStmt-F.While label at condition curly statements) = statement_layer (KStmt-F.While label at condition curly statements)
statement_opened (KStmt-F.DoWhile label do_at curly statements at condition) = statement_layer (KStmt-F.DoWhile label do_at curly statements at condition)
statement_opened (KStmt-F.For label at x in_at values curly statements) = statement_layer (KStmt-F.For label at x in_at values curly statements)
statement_opened (KStmt-F.ForRange label at x in_at first until_at end curly statements) = statement_layer (KStmt-F.ForRange label at x in_at first until_at end curly statements)
statement_opened (KStmt-F.If at condition curly statements) = statement_layer (KStmt-F.If at condition curly statements)
statement_opened (KStmt-F.IfElse at condition curly statements else_at other_curly others) = statement_layer (KStmt-F.IfElse at condition curly statements else_at other_curly others)
statement_opened (KStmt-F.IfElseIf at condition curly statements else_at other) = statement_layer (KStmt-F.IfElseIf at condition curly statements else_at other)
statement_opened (KStmt-F.When at subject curly branches else_at other_curly others) = statement_layer (KStmt-F.When at subject curly branches else_at other_curly others)
statement_opened (KStmt-F.Break at target) = statement_layer (KStmt-F.Break at target)
statement_opened (KStmt-F.Continue at target) = statement_layer (KStmt-F.Continue at target)
statement_opened (KStmt-F.Return at target) = statement_layer (KStmt-F.Return at target)
statement_opened (KStmt-F.Give at target value) = statement_layer (KStmt-F.Give at target value)
statement_opened (KStmt-F.Throw at value) = statement_layer (KStmt-F.Throw at value)
statement_opened (KStmt-F.Try at curly statements catches) = statement_layer (KStmt-F.Try at curly statements catches)
statement_opened (KStmt-F.TryFinally at curly statements catches last_at last) = statement_layer (KStmt-F.TryFinally at curly statements catches last_at last)
statement_opened (KStmt-F.Synchronized at lock curly statements) = statement_layer (KStmt-F.Synchronized at lock curly statements)

expression_twice : (x : KExpr-F KExpr KStmt KChoice KBranch KCatch) → unplaced_expression (uncommented_expression (roll-KExpr x)) ≡ unplaced_expression_by (map-KExpr KExpr KStmt KChoice KBranch KCatch KExpr KStmt KChoice KBranch KCatch (λ z. unplaced_expression (uncommented_expression z)) (λ z. unplaced_statement (uncommented_statement z)) (λ z. unplaced_choice (uncommented_choice z)) (λ z. unplaced_branch (uncommented_branch z)) (λ z. unplaced_catch (uncommented_catch z)) x)
unfolding uncommented_expression uncommented_statement uncommented_choice uncommented_branch uncommented_catch
expression_twice x = ap unplaced_expression (fold-roll-KExpr KExpr KStmt KChoice KBranch KCatch roll-KExpr uncommented_statement_by roll-KChoice roll-KBranch roll-KCatch x) ∙ expression_layer (map-KExpr KExpr KStmt KChoice KBranch KCatch KExpr KStmt KChoice KBranch KCatch uncommented_expression uncommented_statement uncommented_choice uncommented_branch uncommented_catch x) ∙ ap unplaced_expression_by (twice_expression KExpr KStmt KChoice KBranch KCatch uncommented_expression uncommented_statement uncommented_choice uncommented_branch uncommented_catch unplaced_expression unplaced_statement unplaced_choice unplaced_branch unplaced_catch x)

statement_twice : (x : KStmt-F KExpr KStmt KChoice KBranch KCatch) → unplaced_statement (uncommented_statement (roll-KStmt x)) ≡ unplaced_statement_by (map-KStmt KExpr KStmt KChoice KBranch KCatch KExpr KStmt KChoice KBranch KCatch (λ z. unplaced_expression (uncommented_expression z)) (λ z. unplaced_statement (uncommented_statement z)) (λ z. unplaced_choice (uncommented_choice z)) (λ z. unplaced_branch (uncommented_branch z)) (λ z. unplaced_catch (uncommented_catch z)) x)
unfolding uncommented_expression uncommented_statement uncommented_choice uncommented_branch uncommented_catch
statement_twice x = ap unplaced_statement (fold-roll-KStmt KExpr KStmt KChoice KBranch KCatch roll-KExpr uncommented_statement_by roll-KChoice roll-KBranch roll-KCatch x) ∙ statement_opened (map-KStmt KExpr KStmt KChoice KBranch KCatch KExpr KStmt KChoice KBranch KCatch uncommented_expression uncommented_statement uncommented_choice uncommented_branch uncommented_catch x) ∙ ap unplaced_statement_by (twice_statement KExpr KStmt KChoice KBranch KCatch uncommented_expression uncommented_statement uncommented_choice uncommented_branch uncommented_catch unplaced_expression unplaced_statement unplaced_choice unplaced_branch unplaced_catch x)

choice_twice : (x : KChoice-F KExpr KStmt KChoice KBranch KCatch) → unplaced_choice (uncommented_choice (roll-KChoice x)) ≡ unplaced_choice_by (map-KChoice KExpr KStmt KChoice KBranch KCatch KExpr KStmt KChoice KBranch KCatch (λ z. unplaced_expression (uncommented_expression z)) (λ z. unplaced_statement (uncommented_statement z)) (λ z. unplaced_choice (uncommented_choice z)) (λ z. unplaced_branch (uncommented_branch z)) (λ z. unplaced_catch (uncommented_catch z)) x)
unfolding uncommented_expression uncommented_statement uncommented_choice uncommented_branch uncommented_catch
choice_twice x = ap unplaced_choice (fold-roll-KChoice KExpr KStmt KChoice KBranch KCatch roll-KExpr uncommented_statement_by roll-KChoice roll-KBranch roll-KCatch x) ∙ choice_layer (map-KChoice KExpr KStmt KChoice KBranch KCatch KExpr KStmt KChoice KBranch KCatch uncommented_expression uncommented_statement uncommented_choice uncommented_branch uncommented_catch x) ∙ ap unplaced_choice_by (twice_choice KExpr KStmt KChoice KBranch KCatch uncommented_expression uncommented_statement uncommented_choice uncommented_branch uncommented_catch unplaced_expression unplaced_statement unplaced_choice unplaced_branch unplaced_catch x)

branch_twice : (x : KBranch-F KExpr KStmt KChoice KBranch KCatch) → unplaced_branch (uncommented_branch (roll-KBranch x)) ≡ unplaced_branch_by (map-KBranch KExpr KStmt KChoice KBranch KCatch KExpr KStmt KChoice KBranch KCatch (λ z. unplaced_expression (uncommented_expression z)) (λ z. unplaced_statement (uncommented_statement z)) (λ z. unplaced_choice (uncommented_choice z)) (λ z. unplaced_branch (uncommented_branch z)) (λ z. unplaced_catch (uncommented_catch z)) x)
unfolding uncommented_expression uncommented_statement uncommented_choice uncommented_branch uncommented_catch
branch_twice x = ap unplaced_branch (fold-roll-KBranch KExpr KStmt KChoice KBranch KCatch roll-KExpr uncommented_statement_by roll-KChoice roll-KBranch roll-KCatch x) ∙ branch_layer (map-KBranch KExpr KStmt KChoice KBranch KCatch KExpr KStmt KChoice KBranch KCatch uncommented_expression uncommented_statement uncommented_choice uncommented_branch uncommented_catch x) ∙ ap unplaced_branch_by (twice_branch KExpr KStmt KChoice KBranch KCatch uncommented_expression uncommented_statement uncommented_choice uncommented_branch uncommented_catch unplaced_expression unplaced_statement unplaced_choice unplaced_branch unplaced_catch x)

catch_twice : (x : KCatch-F KExpr KStmt KChoice KBranch KCatch) → unplaced_catch (uncommented_catch (roll-KCatch x)) ≡ unplaced_catch_by (map-KCatch KExpr KStmt KChoice KBranch KCatch KExpr KStmt KChoice KBranch KCatch (λ z. unplaced_expression (uncommented_expression z)) (λ z. unplaced_statement (uncommented_statement z)) (λ z. unplaced_choice (uncommented_choice z)) (λ z. unplaced_branch (uncommented_branch z)) (λ z. unplaced_catch (uncommented_catch z)) x)
unfolding uncommented_expression uncommented_statement uncommented_choice uncommented_branch uncommented_catch
catch_twice x = ap unplaced_catch (fold-roll-KCatch KExpr KStmt KChoice KBranch KCatch roll-KExpr uncommented_statement_by roll-KChoice roll-KBranch roll-KCatch x) ∙ catch_layer (map-KCatch KExpr KStmt KChoice KBranch KCatch KExpr KStmt KChoice KBranch KCatch uncommented_expression uncommented_statement uncommented_choice uncommented_branch uncommented_catch x) ∙ ap unplaced_catch_by (twice_catch KExpr KStmt KChoice KBranch KCatch uncommented_expression uncommented_statement uncommented_choice uncommented_branch uncommented_catch unplaced_expression unplaced_statement unplaced_choice unplaced_branch unplaced_catch x)

pub expression_beside : (x : KExpr) → unplaced_expression (uncommented_expression x) ≡ unplaced_expression x
expression_beside x = unique_expression KExpr KStmt KChoice KBranch KCatch unplaced_expression_by unplaced_statement_by unplaced_choice_by unplaced_branch_by unplaced_catch_by (λ z. unplaced_expression (uncommented_expression z)) (λ z. unplaced_statement (uncommented_statement z)) (λ z. unplaced_choice (uncommented_choice z)) (λ z. unplaced_branch (uncommented_branch z)) (λ z. unplaced_catch (uncommented_catch z)) expression_twice statement_twice choice_twice branch_twice catch_twice x ∙ sym (unique_expression KExpr KStmt KChoice KBranch KCatch unplaced_expression_by unplaced_statement_by unplaced_choice_by unplaced_branch_by unplaced_catch_by unplaced_expression unplaced_statement unplaced_choice unplaced_branch unplaced_catch expression_layer statement_layer choice_layer branch_layer catch_layer x)

pub statement_beside : (x : KStmt) → unplaced_statement (uncommented_statement x) ≡ unplaced_statement x
statement_beside x = unique_statement KExpr KStmt KChoice KBranch KCatch unplaced_expression_by unplaced_statement_by unplaced_choice_by unplaced_branch_by unplaced_catch_by (λ z. unplaced_expression (uncommented_expression z)) (λ z. unplaced_statement (uncommented_statement z)) (λ z. unplaced_choice (uncommented_choice z)) (λ z. unplaced_branch (uncommented_branch z)) (λ z. unplaced_catch (uncommented_catch z)) expression_twice statement_twice choice_twice branch_twice catch_twice x ∙ sym (unique_statement KExpr KStmt KChoice KBranch KCatch unplaced_expression_by unplaced_statement_by unplaced_choice_by unplaced_branch_by unplaced_catch_by unplaced_expression unplaced_statement unplaced_choice unplaced_branch unplaced_catch expression_layer statement_layer choice_layer branch_layer catch_layer x)

expressions_beside : (xs : List KExpr) → map unplaced_expression (map uncommented_expression xs) ≡ map unplaced_expression xs
expressions_beside [] = refl
expressions_beside (x ∷ xs) = ap (λ z. z ∷ map unplaced_expression (map uncommented_expression xs)) (expression_beside x) ∙ ap (λ z. unplaced_expression x ∷ z) (expressions_beside xs)

statements_beside : (xs : List KStmt) → map unplaced_statement (map uncommented_statement xs) ≡ map unplaced_statement xs
statements_beside [] = refl
statements_beside (x ∷ xs) = ap (λ z. z ∷ map unplaced_statement (map uncommented_statement xs)) (statement_beside x) ∙ ap (λ z. unplaced_statement x ∷ z) (statements_beside xs)

-- ---- members

block_beside : (x : KBlock) → unplaced_block (uncommented_block x) ≡ unplaced_block x
block_beside x = ap {B = KBlock} (λ z. record { curly = made_brackets; statements = z }) (statements_beside x.statements)

body_beside : (x : Option KBlock) → option_map unplaced_block (option_map uncommented_block x) ≡ option_map unplaced_block x
body_beside None = refl
body_beside (Some x) = ap Some (block_beside x)

value_beside : (x : Option KValue) → option_map unplaced_value (option_map uncommented_value x) ≡ option_map unplaced_value x
value_beside None = refl
value_beside (Some x) = ap {B = Option KValue} (λ z. Some (record { at = made; tree = z })) (expression_beside x.tree)

delegation_beside : (x : Option KDelegation) → option_map unplaced_delegation (option_map uncommented_delegation x) ≡ option_map unplaced_delegation x
delegation_beside None = refl
delegation_beside (Some x) = ap {B = Option KDelegation} (λ z. Some (record { colon = made; called = x.called; at = made; round = made_brackets; arguments = z; commas = [] })) (expressions_beside x.arguments)

abbrev Part : Type 0
Part = (x : KMember) × (unplaced_member (uncommented_member x) ≡ unplaced_member x)

parts_beside : (xs : List Part) → map unplaced_member (map uncommented_member (map (λ (x : Part). x.0) xs)) ≡ map unplaced_member (map (λ (x : Part). x.0) xs)
parts_beside [] = refl
parts_beside (x ∷ xs) = ap (λ z. z ∷ map unplaced_member (map uncommented_member (map (λ (x : Part). x.0) xs))) x.1 ∙ ap (λ z. unplaced_member x.0 ∷ z) (parts_beside xs)

variant : (x : KMember) (y : KMember-F KMember) → roll-KMember y ≡ x → unplaced_member x ≡ unplaced_member_by (map-KMember KMember KMember unplaced_member y)
variant x y is = ap unplaced_member (sym is) ∙ unplaced_at y

member_parts : (y : KMember-F Part) → unplaced_member (uncommented_member_by (map-KMember KMember KMember uncommented_member (map-KMember Part KMember (λ x. x.0) y))) ≡ unplaced_member_by (map-KMember KMember KMember unplaced_member (map-KMember Part KMember (λ x. x.0) y))
member_parts (KMember-F.Commented comments member) = member.1
member_parts (KMember-F.Property modifiers declared value setter) =
    variant _ (KMember-F.Property modifiers declared (option_map uncommented_value value) setter) (mb.rolls-Property modifiers declared (option_map uncommented_value value) setter)
    ∙ ap (λ z. mb.Property (map unplaced_modifier modifiers) (unplaced_declared declared) z (option_map (λ (x : KPrivateSet). made_private_set) setter)) (value_beside value)
member_parts (KMember-F.Init at body) = variant _ (KMember-F.Init at (uncommented_block body)) (mb.rolls-Init at (uncommented_block body)) ∙ ap (mb.Init made) (block_beside body)
member_parts (KMember-F.Function modifiers at x params result body) =
    variant _ (KMember-F.Function modifiers at x params result (option_map uncommented_block body)) (mb.rolls-Function modifiers at x params result (option_map uncommented_block body))
    ∙ ap (mb.Function (map unplaced_modifier modifiers) made (unplaced_name x) (unplaced_params params) (option_map unplaced_typed result)) (body_beside body)
member_parts (KMember-F.Constructor modifiers at params first body) =
    variant _ (KMember-F.Constructor modifiers at params (option_map uncommented_delegation first) (uncommented_block body)) (mb.rolls-Constructor modifiers at params (option_map uncommented_delegation first) (uncommented_block body))
    ∙ ap (λ z. mb.Constructor (map unplaced_modifier modifiers) made (unplaced_params params) z (unplaced_block (uncommented_block body))) (delegation_beside first)
    ∙ ap (mb.Constructor (map unplaced_modifier modifiers) made (unplaced_params params) (option_map unplaced_delegation first)) (block_beside body)
member_parts (KMember-F.Companion at members) =
    variant _ (KMember-F.Companion at (map uncommented_member (map (λ (x : Part). x.0) members))) (mb.rolls-Companion at (map uncommented_member (map (λ (x : Part). x.0) members)))
    ∙ ap (mb.Companion made_companion) (parts_beside members)

member_beside : (x : KMember) → unplaced_member (uncommented_member x) ≡ unplaced_member x
member_beside = ind-KMember (λ x. unplaced_member (uncommented_member x) ≡ unplaced_member x) (λ x y is. subst (λ (z : KMember-F KMember). unplaced_member (uncommented_member (roll-KMember z)) ≡ unplaced_member (roll-KMember z)) is
    (ap unplaced_member (uncommented_at (map-KMember Part KMember (λ x. x.0) y)) ∙ member_parts y ∙ sym (unplaced_at (map-KMember Part KMember (λ x. x.0) y))))

members_beside : (xs : List KMember) → map unplaced_member (map uncommented_member xs) ≡ map unplaced_member xs
members_beside [] = refl
members_beside (x ∷ xs) = ap (λ z. z ∷ map unplaced_member (map uncommented_member xs)) (member_beside x) ∙ ap (λ z. unplaced_member x ∷ z) (members_beside xs)

-- ---- classes and files

class_beside : (x : KClass) → unplaced_class (uncommented_class x) ≡ unplaced_class x
class_beside x = ap {B = KClass} (λ z. record { comments = []; modifiers = map unplaced_modifier x.modifiers; word = unplaced_word x.word; at = made; name = unplaced_name x.name; params = option_map unplaced_type_params x.params; supers = option_map unplaced_supers x.supers; curly = made_brackets; members = z }) (members_beside x.members)

classes_beside : (xs : List KClass) → map unplaced_class (map uncommented_class xs) ≡ map unplaced_class xs
classes_beside [] = refl
classes_beside (x ∷ xs) = ap (λ z. z ∷ map unplaced_class (map uncommented_class xs)) (class_beside x) ∙ ap (λ z. unplaced_class x ∷ z) (classes_beside xs)

pub file_beside : (x : KFile) → SameUpToPlaces (uncommented_file x) x
unfolding unplaced_file uncommented_file
file_beside x = ap {B = KFile} (λ z. record { path = x.path; «package» = option_map unplaced_package x.«package»; imports = map unplaced_import x.imports; classes = z }) (classes_beside x.classes)
