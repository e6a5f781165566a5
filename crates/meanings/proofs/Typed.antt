-- The Kotlin of a well typed file is well typed, and its canonical text spells it.
use Rattle.std.proofs.Common.{◌≡◌, ℕ, pos, Bool, true, false, List, [], ◌∷◌, Option, Some, None, map, if◌then◌else◌, refl, sym, ap, ◌∙◌, subst}
use Rattle.std.specs.Prelude.{option_map}
use Rattle.std.specs.List.{cons_option}
use Rattle.java_tree.specs.declared.tokens.Position.{Position}
use Rattle.j2k_base.specs.declared.constants.Const.TheVariants as const
use Rattle.j2k_base.specs.declared.constants.Value.TheVariants as constant
use Rattle.java_typed.specs.declared.exprs.TExpr.{TExpr, roll-TExpr, ind-TExpr}
use Rattle.java_typed.specs.declared.exprs.TExpr.TheOpen.{TExpr-F}
use Rattle.java_typed.specs.declared.units.TUnit.{TUnit}
use Rattle.meanings.specs.declared.kotlin.KClass.{KClass}
use Rattle.meanings.specs.declared.kotlin.KExpr.TheOpen.{KExpr-F}
use Rattle.meanings.specs.Taken.{operator_of, is_taken, Statement, Declares, Prints, Untaken, are_taken, MainMethod, MainClass, class_in, AllTaken}
use Rattle.meanings.specs.Convert.{expression_of, statement_of, main_of, class_of, files_of}
use Rattle.meanings.specs.Values.{Name, same_name, is_among, Differ}
use Rattle.meanings.specs.Static.{KType, IntType, Static, declared, declared_local, with_local, type_of, IsTyped, MainHasTypes, ClassHasTypes, AllHaveTypes, class_names, main_static}
use Rattle.meanings.specs.JTyped.{known_by, Knows, AreTyped, MainIsTyped, ClassIsTyped, AllAreTyped, class_names as java_class_names}
use Rattle.meanings.specs.JNamed.{named_by, level_by as java_level_by, level_of as java_level_of, IsNamed, AreNamed, MainIsNamed, ClassIsNamed}
use Rattle.meanings.specs.KSpells.{stands_by, level_by, level_of, IsExpression, AreStatements, IsMain, IsClass}
use Rattle.meanings.specs.Laws.{TypesAreKept, SpellingIsKept}
use Rattle.meanings.proofs.Layers.{both_are, java_induct, java_here, java_in_paren, java_in_binary, java_level_at, layer_of, convert_at, type_at, level_at, every_local, every_number, every_paren, every_binary}
use Rattle.meanings.proofs.Units.{MainTaken, ClassTaken, unit_taken}

-- the declared types are `Int` at the locals, and no other local is declared
record Fits (locals : List Name) (static : Static) : Type 0 where
  known : (name : Name) → is_among locals name ≡ true → declared static name ≡ Some IntType
  unknown : (name : Name) → is_among locals name ≡ false → declared_local static name ≡ None

declares : (b : Bool) (known : Bool) (o : Option KType) → (known ≡ true → o ≡ Some IntType) → (if b then true else known) ≡ true → (if b then Some IntType else o) ≡ Some IntType
declares true known o h e = refl
declares false known o h e = h e

hides : (b : Bool) (known : Bool) (o : Option KType) → (known ≡ false → o ≡ None) → (if b then true else known) ≡ false → (if b then Some IntType else o) ≡ None
hides true known o h e = cc
hides false known o h e = h e

fits_more : (locals : List Name) (static : Static) (name : Name) → Fits locals static → Fits (name ∷ locals) (with_local static name IntType)
fits_more locals static name h = record {
  known = λ other e. declares (same_name name other) (is_among locals other) (declared static other) (h.known other) e;
  unknown = λ other e. hides (same_name name other) (is_among locals other) (declared_local static other) (h.unknown other) e;
}

-- a literal of n
abbrev literal : ℕ → Position → TExpr-F TExpr
literal n at = TExpr-F.Literal (constant.Number (const.Int (pos n))) at

expression_typed : (locals : List Name) (e : TExpr) → is_taken e ≡ true → (static : Static) → Fits locals static → Knows locals e → type_of (expression_of e) static ≡ Some IntType
unfolding Knows
expression_typed locals = java_induct (λ e. (static : Static) → Fits locals static → Knows locals e → type_of (expression_of e) static ≡ Some IntType) (record {
  local = λ name at k static h known. rw (convert_at (TExpr-F.Local name at k), type_at (KExpr-F.Local name)) (h.known name (java_here (known_by locals) (TExpr-F.Local name at k) known));
  number = λ n at static h known. rw (convert_at (literal n at), type_at (KExpr-F.Number n)) refl;
  paren = λ at e typed static h known. rw (convert_at (TExpr-F.Paren at e), type_at (KExpr-F.Paren (expression_of e))) (typed static h (java_in_paren (known_by locals) at e known));
  binary = λ a o at b is left right static h known.
      let parts = java_in_binary (known_by locals) a b o at known in
      rw (convert_at (TExpr-F.Binary a o at b), type_at (KExpr-F.Binary (expression_of a) (operator_of o) (expression_of b)), left static h parts.0, right static h parts.1) refl;
})

statements_typed : (parameter : Name) (locals : List Name) (static : Static) → Fits locals static → (body : List Statement) → are_taken body ≡ true → AreTyped parameter locals body → IsTyped static (map statement_of body)
statements_typed parameter locals static h [] taken typed = tt
statements_typed parameter locals static h (Declares name e ∷ body) taken typed = let parts = both_are (is_taken e) (are_taken body) taken in (
  h.unknown name typed.1,
  expression_typed locals e parts.0 static h typed.2,
  statements_typed parameter (name ∷ locals) (with_local static name IntType) (fits_more locals static name h) body parts.1 typed.3,
)
statements_typed parameter locals static h (Prints e ∷ body) taken typed =
    let parts = both_are (is_taken e) (are_taken body) taken in (expression_typed locals e parts.0 static h typed.0, statements_typed parameter locals static h body parts.1 typed.1)
statements_typed parameter locals static h (Untaken ∷ body) taken typed = absurd typed

main_typed : (class : Name) (main : Option MainMethod) → MainTaken main → MainIsTyped main → MainHasTypes class (option_map main_of main)
main_typed class None taken typed = tt
main_typed class (Some main) taken typed = statements_typed main.parameter [] (main_static class main.parameter) (record { known = λ name e. cc; unknown = λ name e. refl }) main.body taken typed

class_typed : (class : Option MainClass) → ClassTaken class → ClassIsTyped class → ClassHasTypes (option_map class_of class)
class_typed None taken typed = tt
class_typed (Some class) taken typed = main_typed class.name class.main taken typed

all_typed : (units : List TUnit) → AllTaken units → AllAreTyped units → AllHaveTypes (files_of units)
all_typed [] taken typed = tt
all_typed (unit ∷ units) taken typed = (class_typed (class_in unit) (unit_taken unit taken.0) typed.0, all_typed units taken.1 typed.1)

name_kept : (class : Option MainClass) → option_map (λ (class : KClass). class.name) (option_map class_of class) ≡ option_map (λ (class : MainClass). class.name) class
name_kept None = refl
name_kept (Some class) = refl

names_kept : (files : List TUnit) → class_names (files_of files) ≡ java_class_names files
names_kept [] = refl
names_kept (file ∷ files) = ap (λ (name : Option Name). cons_option name (class_names (files_of files))) (name_kept (class_in file)) ∙ ap (cons_option (option_map (λ (class : MainClass). class.name) (class_in file))) (names_kept files)

pub types_are_kept : TypesAreKept
types_are_kept files taken typed = record { classes = all_typed files taken typed.classes; names = subst Differ (sym (names_kept files)) typed.names }

-- ---- names, literals and operands

layer_level : (x : TExpr-F TExpr) → level_by (layer_of x) ≡ java_level_by x
layer_level (TExpr-F.Literal v at) = refl
layer_level (TExpr-F.Local name at k) = refl
layer_level (TExpr-F.Paren at inner) = refl
layer_level (TExpr-F.Binary left o at right) = refl
layer_level (TExpr-F.Null at) = refl
layer_level (TExpr-F.Constant v inner) = refl
layer_level (TExpr-F.This at is_written k) = refl
layer_level (TExpr-F.Static first member at k) = refl
layer_level (TExpr-F.Field object member at k) = refl
layer_level (TExpr-F.Length array at) = refl
layer_level (TExpr-F.Element array index k) = refl
layer_level (TExpr-F.StaticCall first member at arguments k) = refl
layer_level (TExpr-F.VirtualCall object member at arguments k) = refl
layer_level (TExpr-F.ExactCall object is_super member at arguments k) = refl
layer_level (TExpr-F.Through object inner) = refl
layer_level (TExpr-F.Step is_prefix o at target k) = refl
layer_level (TExpr-F.Unary o at inner) = refl
layer_level (TExpr-F.Concat left at right) = refl
layer_level (TExpr-F.Same left is_equal at right) = refl
layer_level (TExpr-F.Instanceof inner at k) = refl
layer_level (TExpr-F.Cast at k inner) = refl
layer_level (TExpr-F.Convert c inner) = refl
layer_level (TExpr-F.Conditional test one other k) = refl
layer_level (TExpr-F.Assign target at e) = refl
layer_level (TExpr-F.Compound target o k at e) = refl
layer_level (TExpr-F.Append target at e) = refl
layer_level (TExpr-F.Lambda lambda inner) = refl
layer_level (TExpr-F.LambdaBlock lambda number) = refl
layer_level (TExpr-F.New at k member arguments body) = refl
layer_level (TExpr-F.NewArray at k size) = refl
layer_level (TExpr-F.NewFilled at k elements) = refl

level_at_layer : (x : TExpr-F TExpr) → level_of (expression_of (roll-TExpr x)) ≡ java_level_of (roll-TExpr x)
level_at_layer x = rw (convert_at x, level_at (layer_of x), java_level_at x) (layer_level x)

level_kept : (e : TExpr) → level_of (expression_of e) ≡ java_level_of e
level_kept = ind-TExpr (λ e. level_of (expression_of e) ≡ java_level_of e) (λ x y is. level_at_layer x)

expression_named : (e : TExpr) → is_taken e ≡ true → IsNamed e → IsExpression (expression_of e)
unfolding IsNamed IsExpression
expression_named = java_induct (λ e. IsNamed e → IsExpression (expression_of e)) (record {
  local = λ name at k h. rw (convert_at (TExpr-F.Local name at k)) (every_local stands_by name (java_here named_by (TExpr-F.Local name at k) h));
  number = λ n at h. rw (convert_at (literal n at)) (every_number stands_by n (java_here named_by (literal n at) h));
  paren = λ at e named h. rw (convert_at (TExpr-F.Paren at e)) (every_paren stands_by (expression_of e) tt (named (java_in_paren named_by at e h)));
  binary = λ a o at b is left right h.
      let here = java_here named_by (TExpr-F.Binary a o at b) h in
      let parts = java_in_binary named_by a b o at h in
      rw (convert_at (TExpr-F.Binary a o at b))
      (every_binary stands_by (expression_of a) (expression_of b) (operator_of o) (rw (level_kept a) here.0, rw (level_kept b) here.1) (left parts.0) (right parts.1));
})

statements_named : (body : List Statement) → are_taken body ≡ true → AreNamed body → AreStatements (map statement_of body)
statements_named [] taken h = tt
statements_named (Declares name e ∷ body) taken h = let parts = both_are (is_taken e) (are_taken body) taken in (h.0, expression_named e parts.0 h.1, statements_named body parts.1 h.2)
statements_named (Prints e ∷ body) taken h = let parts = both_are (is_taken e) (are_taken body) taken in (expression_named e parts.0 h.0, statements_named body parts.1 h.1)
statements_named (Untaken ∷ body) taken h = absurd h

main_named : (main : Option MainMethod) → MainTaken main → MainIsNamed main → IsMain (option_map main_of main)
main_named None taken h = tt
main_named (Some main) taken h = (h.0, statements_named main.body taken h.1)

class_named : (class : Option MainClass) → ClassTaken class → ClassIsNamed class → IsClass (option_map class_of class)
class_named None taken h = tt
class_named (Some class) taken h = (h.0, main_named class.main taken h.1)

pub spelling_is_kept : SpellingIsKept
spelling_is_kept unit taken h = record { parts = h.parts; class = class_named (class_in unit) (unit_taken unit taken) h.class; text = refl }
