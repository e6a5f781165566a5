-- The texts of this form enter no body, so every larger depth gives the same thread in both languages.
use Rattle.std.proofs.Common.{ℕ, List, [], ◌∷◌, map, subst}
use Rattle.java_typed.specs.declared.exprs.TExpr.{TExpr, roll-TExpr, map-TExpr, ind-TExpr}
use Rattle.java_typed.specs.declared.exprs.TExpr.TheOpen.{TExpr-F}
use Rattle.meanings.specs.Taken.{Statement, Declares, Prints, Untaken, MainMethod, MainClass}
use Rattle.meanings.specs.declared.kotlin.KExpr.{KExpr}
use Rattle.meanings.specs.declared.kotlin.KExpr.TheOpen.{KExpr-F}
use Rattle.meanings.specs.declared.kotlin.KStmt.{KStmt}
use Rattle.meanings.specs.declared.kotlin.KStmt.TheVariants as ks
use Rattle.meanings.specs.declared.kotlin.KMain.{KMain}
use Rattle.meanings.specs.declared.kotlin.KClass.{KClass}
use Rattle.meanings.specs.Values.{Name, Int, Value, is_null}
use Rattle.meanings.specs.Outcome.{Meaning, torn}
use Rattle.meanings.specs.Values.{Torn}
use Rattle.meanings.specs.Operators.{operation}
use Rattle.meanings.specs.Machine.{Place, print_line}
use Rattle.meanings.specs.Program.{Body}
use Rattle.meanings.specs.Static.{KType, is_non_null, Static, declared, past, extended}
use Rattle.meanings.specs.Java.{java_by, java_expr, java_stmt, java_main, java_method, java_program}
use Rattle.meanings.specs.Kotlin.{used, kotlin_expr, kotlin_stmt, kotlin_stmts, kotlin_main, kotlin_method, kotlin_program}
use Rattle.std.specs.Prelude.{Option, Some, None, option_map, filter_map, ◌&&◌}
use Rattle.std.specs.List.{cons_option}
use Rattle.meanings.specs.Laws.{SameAtEveryDepth}
use Rattle.meanings.proofs.Layers.{java_at, kotlin_induct, kotlin_at}
use Rattle.meanings.proofs.Depth.{asks, Within, with_bodies, AllWithin, none, more, bind_within, step_within, pure_within, local_within, assign_within, if_within, print_line_within, arithmetic_within, binary_within, sequence_within, WithinTexts, WithinProgram, deeper}

torn_within : {A : Type 0} {w : ℕ} → Within w (torn {A = A}) torn
torn_within = record { by = λ s l. asks Torn }

-- ---- Java

module _ {w : ℕ} (p q : Place) (prints : (v : Value) → Within w (print_line p v) (print_line q v)) where
  abbrev Case : Type 0
  Case = (e : TExpr) × Within w (java_expr p e) (java_expr q e)

  -- each form, from its parts
  form_within : (y : TExpr-F Case) →
      Within w (java_by p (map-TExpr TExpr (Meaning Value) (java_expr p) (map-TExpr Case TExpr (λ e. e.0) y))) (java_by q (map-TExpr TExpr (Meaning Value) (java_expr q) (map-TExpr Case TExpr (λ e. e.0) y)))
  form_within (TExpr-F.Literal v at) = pure_within _
  form_within (TExpr-F.Constant v inner) = pure_within _
  form_within (TExpr-F.Local name at k) = local_within name
  form_within (TExpr-F.Paren at inner) = inner.1
  form_within (TExpr-F.Binary left o at right) = binary_within (arithmetic_within o Int Int) left.1 right.1
  form_within (TExpr-F.Null at) = torn_within
  form_within (TExpr-F.This at is_written k) = torn_within
  form_within (TExpr-F.Static first member at k) = torn_within
  form_within (TExpr-F.Field object member at k) = torn_within
  form_within (TExpr-F.Length array at) = torn_within
  form_within (TExpr-F.Element array index k) = torn_within
  form_within (TExpr-F.StaticCall first member at arguments k) = torn_within
  form_within (TExpr-F.VirtualCall object member at arguments k) = torn_within
  form_within (TExpr-F.ExactCall object is_super member at arguments k) = torn_within
  form_within (TExpr-F.Through object inner) = torn_within
  form_within (TExpr-F.Step is_prefix o at target k) = torn_within
  form_within (TExpr-F.Unary o at inner) = torn_within
  form_within (TExpr-F.Concat left at right) = torn_within
  form_within (TExpr-F.Same left is_equal at right) = torn_within
  form_within (TExpr-F.Instanceof inner at k) = torn_within
  form_within (TExpr-F.Cast at k inner) = torn_within
  form_within (TExpr-F.Convert c inner) = torn_within
  form_within (TExpr-F.Conditional test one other k) = torn_within
  form_within (TExpr-F.Assign target at e) = torn_within
  form_within (TExpr-F.Compound target o k at e) = torn_within
  form_within (TExpr-F.Append target at e) = torn_within
  form_within (TExpr-F.Lambda lambda inner) = torn_within
  form_within (TExpr-F.LambdaBlock lambda number) = torn_within
  form_within (TExpr-F.New at k member arguments body) = torn_within
  form_within (TExpr-F.NewArray at k size) = torn_within
  form_within (TExpr-F.NewFilled at k elements) = torn_within

  java_expr_within : (e : TExpr) → Within w (java_expr p e) (java_expr q e)
  java_expr_within = ind-TExpr (λ e. Within w (java_expr p e) (java_expr q e)) (λ x y is.
      subst (λ (z : TExpr-F TExpr). Within w (java_expr p (roll-TExpr z)) (java_expr q (roll-TExpr z))) is
      (rw (java_at p (map-TExpr Case TExpr (λ e. e.0) y), java_at q (map-TExpr Case TExpr (λ e. e.0) y)) (form_within y)))

  java_stmt_within : (s : Statement) → Within w (java_stmt p s) (java_stmt q s)
  java_stmt_within (Declares name e) = bind_within (java_expr_within e) (assign_within name)
  java_stmt_within (Prints e) = bind_within (java_expr_within e) prints
  java_stmt_within Untaken = torn_within

  java_stmts_within : (body : List Statement) → AllWithin w (map (java_stmt p) body) (map (java_stmt q) body)
  java_stmts_within [] = none
  java_stmts_within (s ∷ body) = more (java_stmt_within s) (java_stmts_within body)

java_method_within : (class : Name) (main : Option MainMethod) (bodies : List Body) → WithinTexts bodies → WithinTexts (cons_option (option_map (java_main class) main) bodies)
java_method_within class None bodies h = h
java_method_within class (Some main) bodies h = (record { by = λ w p {b} {b'} h. sequence_within (java_stmts_within (with_bodies p b) (with_bodies p b') (print_line_within p h) main.body) }, h)

java_methods_within : (classes : List MainClass) → WithinTexts (filter_map java_method classes)
java_methods_within [] = tt
java_methods_within (class ∷ classes) = java_method_within class.name class.main _ (java_methods_within classes)

java_within : (classes : List MainClass) → WithinProgram (java_program classes)
java_within classes = record {
  methods = java_methods_within classes;
  constructors = tt;
  lambdas = tt;
  initializers = tt;
}

pub java_at_every_depth : (classes : List MainClass) → SameAtEveryDepth (java_program classes)
java_at_every_depth classes = deeper (java_within classes)

-- ---- Kotlin

used_within : {w : ℕ} (type : Option KType) (v : Value) → Within w (used type v) (used type v)
used_within None v = pure_within v
used_within (Some type) v = if_within (is_non_null type && is_null v) torn_within (pure_within v)

module _ {w : ℕ} (p q : Place) (prints : (v : Value) → Within w (print_line p v) (print_line q v)) where
  kotlin_expr_within : (e : KExpr) (static : Static) → Within w (kotlin_expr e static p) (kotlin_expr e static q)
  kotlin_expr_within = kotlin_induct (λ e. (static : Static) → Within w (kotlin_expr e static p) (kotlin_expr e static q)) (record {
    local = λ name static. rw (kotlin_at (KExpr-F.Local name)) (bind_within (local_within name) (used_within (declared static name)));
    number = λ n static. rw (kotlin_at (KExpr-F.Number n)) (pure_within _);
    paren = λ e within static. rw (kotlin_at (KExpr-F.Paren e)) (within static);
    binary = λ a operator b left right static.
        rw (kotlin_at (KExpr-F.Binary a operator b)) (binary_within (arithmetic_within (operation operator) _ _) (left static) (right (past a static)));
  })

  kotlin_stmt_within : (static : Static) (s : KStmt) → Within w (kotlin_stmt s static p) (kotlin_stmt s static q)
  kotlin_stmt_within static (ks.Val name e) = bind_within (kotlin_expr_within e static) (assign_within name)
  kotlin_stmt_within static (ks.Print e) = bind_within (kotlin_expr_within e static) prints

  kotlin_stmts_within : (static : Static) (body : List KStmt) → Within w (kotlin_stmts body static p) (kotlin_stmts body static q)
  kotlin_stmts_within static [] = pure_within tt
  kotlin_stmts_within static (s ∷ body) = step_within (kotlin_stmt_within static s) (kotlin_stmts_within (extended static s) body)

kotlin_method_within : (class : Name) (main : Option KMain) (bodies : List Body) → WithinTexts bodies → WithinTexts (cons_option (option_map (kotlin_main class) main) bodies)
kotlin_method_within class None bodies h = h
kotlin_method_within class (Some main) bodies h = (record { by = λ w p {b} {b'} h. kotlin_stmts_within (with_bodies p b) (with_bodies p b') (print_line_within p h) _ main.body }, h)

kotlin_methods_within : (classes : List KClass) → WithinTexts (filter_map kotlin_method classes)
kotlin_methods_within [] = tt
kotlin_methods_within (class ∷ classes) = kotlin_method_within class.name class.main _ (kotlin_methods_within classes)

kotlin_within : (classes : List KClass) → WithinProgram (kotlin_program classes)
kotlin_within classes = record {
  methods = kotlin_methods_within classes;
  constructors = tt;
  lambdas = tt;
  initializers = tt;
}

pub kotlin_at_every_depth : (classes : List KClass) → SameAtEveryDepth (kotlin_program classes)
kotlin_at_every_depth classes = deeper (kotlin_within classes)
