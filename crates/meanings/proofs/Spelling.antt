-- Bytes spell at most one Kotlin file of this form.
use Rattle.std.proofs.Common.{◌≡◌, ℕ, false, List, [], ◌∷◌, ◌++◌, Option, Some, None, refl, sym, ap, ◌∙◌, append_assoc}
use Rattle.std.proofs.lemmas.List.{append_cancel_left, append-nil}
use Rattle.std.specs.Prelude.{slice_index}
use Rattle.std.specs.List.{flat_map}
use Rattle.meanings.specs.declared.kotlin.TheConstants.{KOTLIN_PACKAGE, KOTLIN_DOT, KOTLIN_PACKAGE_END, KOTLIN_EMPTY_LINE, KOTLIN_CLASS, KOTLIN_CLASS_OPEN, KOTLIN_MAIN, KOTLIN_MAIN_OPEN, KOTLIN_VAL, KOTLIN_IS, KOTLIN_VAL_END, KOTLIN_PRINT, KOTLIN_PRINT_END, KOTLIN_MAIN_END, KOTLIN_CLASS_END}
use Rattle.meanings.specs.declared.kotlin.KExpr.{KExpr}
use Rattle.meanings.specs.declared.kotlin.KStmt.{KStmt}
use Rattle.meanings.specs.declared.kotlin.KStmt.TheVariants.{Val, Print}
use Rattle.meanings.specs.declared.kotlin.KMain.{KMain}
use Rattle.meanings.specs.declared.kotlin.KClass.{KClass}
use Rattle.meanings.specs.declared.kotlin.KFile.{KFile}
use Rattle.meanings.specs.KText.{is_word_byte, name_text, expression_text, statement_text, main_text, class_text, part_text, package_text, file_text, KText}
use Rattle.meanings.specs.Values.{Name}
use Rattle.meanings.specs.KSpells.{AreNames, AreStatements, IsMain, IsClass, SpellsOne}
use Rattle.meanings.proofs.Words.{Stops, name_cut, differ}
use Rattle.meanings.proofs.Expressions.{expression_same}

-- ---- statements

-- what stands behind the statements
abbrev foot : List ℕ
foot = KOTLIN_MAIN_END.now ++ KOTLIN_CLASS_END.now

abbrev body : List KStmt → List ℕ
body main = flat_map statement_text main ++ foot

five : (a b c d e r : List ℕ) → (a ++ b ++ c ++ d ++ e) ++ r ≡ a ++ (b ++ (c ++ (d ++ (e ++ r))))
five a b c d e r = simp append_assoc

three : (a b c r : List ℕ) → (a ++ b ++ c) ++ r ≡ a ++ (b ++ (c ++ r))
three a b c r = simp append_assoc

val_text : (name : Name) (e : KExpr) (more : List KStmt) → body (Val name e ∷ more) ≡ KOTLIN_VAL.now ++ (name_text name ++ (KOTLIN_IS.now ++ (expression_text e ++ (10 ∷ body more))))
val_text name e more =
    append_assoc (statement_text (Val name e)) (flat_map statement_text more) foot
    ∙ five KOTLIN_VAL.now (name_text name) KOTLIN_IS.now (expression_text e) KOTLIN_VAL_END.now (body more)

print_text : (e : KExpr) (more : List KStmt) → body (Print e ∷ more) ≡ KOTLIN_PRINT.now ++ (expression_text e ++ (41 ∷ (10 ∷ body more)))
print_text e more =
    append_assoc (statement_text (Print e)) (flat_map statement_text more) foot
    ∙ three KOTLIN_PRINT.now (expression_text e) KOTLIN_PRINT_END.now (body more)

at_eight : {x y : List ℕ} → x ≡ y → slice_index x 8 ≡ slice_index y 8
at_eight e = ap (λ (l : List ℕ). slice_index l 8) e

at_twelve : {x y : List ℕ} → x ≡ y → slice_index x 12 ≡ slice_index y 12
at_twelve e = ap (λ (l : List ℕ). slice_index l 12) e

-- a byte that neither goes on a word nor begins an operator
line_end_stops : is_word_byte 10 ≡ false
line_end_stops = refl

statements_same : (main other : List KStmt) → AreStatements main → AreStatements other → body main ≡ body other → main ≡ other
statements_same [] [] h g e = refl
statements_same [] (Val name f ∷ other) h g e = absurd (differ 125 32 refl (at_eight (e ∙ val_text name f other)))
statements_same [] (Print f ∷ other) h g e = absurd (differ 125 32 refl (at_eight (e ∙ print_text f other)))
statements_same (Val name f ∷ main) [] h g e = absurd (differ 32 125 refl (at_eight (sym (val_text name f main) ∙ e)))
statements_same (Print f ∷ main) [] h g e = absurd (differ 32 125 refl (at_eight (sym (print_text f main) ∙ e)))
statements_same (Val name f ∷ main) (Print k ∷ other) h g e = absurd (differ 118 112 refl (at_twelve (sym (val_text name f main) ∙ e ∙ print_text k other)))
statements_same (Print f ∷ main) (Val name k ∷ other) h g e = absurd (differ 112 118 refl (at_twelve (sym (print_text f main) ∙ e ∙ val_text name k other)))
statements_same (Val x f ∷ main) (Val y k ∷ other) h g e =
    let names : (x ≡ y) × (KOTLIN_IS.now ++ (expression_text f ++ (10 ∷ body main)) ≡ KOTLIN_IS.now ++ (expression_text k ++ (10 ∷ body other))) =
    name_cut x y (KOTLIN_IS.now ++ (expression_text f ++ (10 ∷ body main))) (KOTLIN_IS.now ++ (expression_text k ++ (10 ∷ body other))) h.0 g.0 refl refl
    (append_cancel_left KOTLIN_VAL.now _ _ (sym (val_text x f main) ∙ e ∙ val_text y k other)) in
    let values : (f ≡ k) × (body main ≡ body other) =
    expression_same 10 (body main) (body other) refl (differ 10 32 refl) f k h.1 g.1 (append_cancel_left KOTLIN_IS.now _ _ names.1) in
    let first : x ≡ y = names.0 in
    let value : f ≡ k = values.0 in
    let rest : main ≡ other = statements_same main other h.2 g.2 values.1 in cc
statements_same (Print f ∷ main) (Print k ∷ other) h g e =
    let values : (f ≡ k) × (10 ∷ body main ≡ 10 ∷ body other) =
    expression_same 41 (10 ∷ body main) (10 ∷ body other) refl (differ 41 32 refl) f k h.0 g.0 (append_cancel_left KOTLIN_PRINT.now _ _ (sym (print_text f main) ∙ e ∙ print_text k other)) in
    let value : f ≡ k = values.0 in
    let rest : main ≡ other = statements_same main other h.1 g.1 (append_cancel_left (10 ∷ []) (body main) (body other) values.1) in cc

-- ---- a class

-- what stands behind the opening brace
abbrev members : Option KMain → List ℕ
members main = main_text main ++ KOTLIN_CLASS_END.now

abbrev mains : Name → List KStmt → List ℕ
mains parameter main = KOTLIN_MAIN.now ++ (name_text parameter ++ (KOTLIN_MAIN_OPEN.now ++ body main))

members_text : (main : KMain) → members (Some main) ≡ mains main.parameter main.body
members_text main = regrouped KOTLIN_MAIN.now (name_text main.parameter) KOTLIN_MAIN_OPEN.now (flat_map statement_text main.body) KOTLIN_MAIN_END.now KOTLIN_CLASS_END.now
  where
    regrouped : (a b c d e f : List ℕ) → (a ++ b ++ c ++ d ++ e) ++ f ≡ a ++ (b ++ (c ++ (d ++ (e ++ f))))
    regrouped a b c d e f = simp append_assoc

abbrev main_with : Name → List KStmt → KMain
main_with parameter main = record { parameter = parameter; body = main }

main_same : (main other : KMain) → IsMain (Some main) → IsMain (Some other) → mains main.parameter main.body ≡ mains other.parameter other.body → main ≡ other
main_same main other h g e =
    let names : (main.parameter ≡ other.parameter) × (KOTLIN_MAIN_OPEN.now ++ body main.body ≡ KOTLIN_MAIN_OPEN.now ++ body other.body) =
    name_cut main.parameter other.parameter (KOTLIN_MAIN_OPEN.now ++ body main.body) (KOTLIN_MAIN_OPEN.now ++ body other.body) h.0 g.0 refl refl
    (append_cancel_left KOTLIN_MAIN.now _ _ e) in
    let statements : main.body ≡ other.body = statements_same main.body other.body h.1 g.1 (append_cancel_left KOTLIN_MAIN_OPEN.now _ _ names.1) in
    ap (λ (x : Name). main_with x main.body) names.0 ∙ ap (λ (x : List KStmt). main_with other.parameter x) statements

at_zero : {x y : List ℕ} → x ≡ y → slice_index x 0 ≡ slice_index y 0
at_zero e = ap (λ (l : List ℕ). slice_index l 0) e

members_same : (main other : Option KMain) → IsMain main → IsMain other → members main ≡ members other → main ≡ other
members_same None None h g e = refl
members_same None (Some other) h g e = absurd (differ 125 32 refl (at_zero (e ∙ members_text other)))
members_same (Some main) None h g e = absurd (differ 32 125 refl (at_zero (sym (members_text main) ∙ e)))
members_same (Some main) (Some other) h g e = ap Some (main_same main other h g (sym (members_text main) ∙ e ∙ members_text other))

abbrev class_with : Name → Option KMain → KClass
class_with name main = record { name = name; main = main }

class_before : (class : KClass) → class_text class ≡ KOTLIN_CLASS.now ++ (name_text class.name ++ (KOTLIN_CLASS_OPEN.now ++ members class.main))
class_before class = regrouped KOTLIN_CLASS.now (name_text class.name) KOTLIN_CLASS_OPEN.now (main_text class.main) KOTLIN_CLASS_END.now
  where
    regrouped : (a b c d e : List ℕ) → a ++ b ++ c ++ d ++ e ≡ a ++ (b ++ (c ++ (d ++ e)))
    regrouped a b c d e = simp append_assoc

class_same : (class other : KClass) → IsClass (Some class) → IsClass (Some other) → class_text class ≡ class_text other → class ≡ other
class_same class other h g e =
    let names : (class.name ≡ other.name) × (KOTLIN_CLASS_OPEN.now ++ members class.main ≡ KOTLIN_CLASS_OPEN.now ++ members other.main) =
    name_cut class.name other.name (KOTLIN_CLASS_OPEN.now ++ members class.main) (KOTLIN_CLASS_OPEN.now ++ members other.main) h.0 g.0 refl refl
    (append_cancel_left KOTLIN_CLASS.now _ _ (sym (class_before class) ∙ e ∙ class_before other)) in
    let main : class.main ≡ other.main = members_same class.main other.main h.1 g.1 (append_cancel_left KOTLIN_CLASS_OPEN.now _ _ names.1) in
    ap (λ (x : Name). class_with x class.main) names.0 ∙ ap (λ (x : Option KMain). class_with other.name x) main

-- ---- a package

-- further parts of a name, and the end of its line
abbrev parts_before : List Name → List ℕ → List ℕ
parts_before parts r = flat_map part_text parts ++ (10 ∷ r)

part_before : (name : Name) (parts : List Name) (r : List ℕ) → parts_before (name ∷ parts) r ≡ 46 ∷ (name_text name ++ parts_before parts r)
part_before name parts r = append_assoc (part_text name) (flat_map part_text parts) (10 ∷ r)

parts_stop : (parts : List Name) (r : List ℕ) → Stops (parts_before parts r)
parts_stop [] r = refl
parts_stop (name ∷ parts) r = refl

parts_same : (parts others : List Name) (r s : List ℕ) → AreNames parts → AreNames others → parts_before parts r ≡ parts_before others s → (parts ≡ others) × (r ≡ s)
parts_same [] [] r s h g e = (refl, append_cancel_left (10 ∷ []) r s e)
parts_same [] (name ∷ others) r s h g e = absurd (differ 10 46 refl (at_zero e))
parts_same (name ∷ parts) [] r s h g e = absurd (differ 46 10 refl (at_zero e))
parts_same (x ∷ parts) (y ∷ others) r s h g e =
    let names : (x ≡ y) × (parts_before parts r ≡ parts_before others s) =
    name_cut x y (parts_before parts r) (parts_before others s) h.0 g.0 (parts_stop parts r) (parts_stop others s)
    (append_cancel_left KOTLIN_DOT.now _ _ (sym (part_before x parts r) ∙ e ∙ part_before y others s)) in
    let first : x ≡ y = names.0 in
    let rest : (parts ≡ others) × (r ≡ s) = parts_same parts others r s h.1 g.1 names.1 in
    let same : parts ≡ others = rest.0 in (cc, rest.1)

package_before : (first : Name) (parts : List Name) (r : List ℕ) → package_text first parts ++ r ≡ KOTLIN_PACKAGE.now ++ (name_text first ++ parts_before parts r)
package_before first parts r = regrouped KOTLIN_PACKAGE.now (name_text first) (flat_map part_text parts) KOTLIN_PACKAGE_END.now r
  where
    regrouped : (a b c d r : List ℕ) → (a ++ b ++ c ++ d) ++ r ≡ a ++ (b ++ (c ++ (d ++ r)))
    regrouped a b c d r = simp append_assoc

package_same : (x y : Name) (parts others : List Name) (r s : List ℕ) → AreNames (x ∷ parts) → AreNames (y ∷ others) →
    package_text x parts ++ r ≡ package_text y others ++ s → (x ∷ parts ≡ y ∷ others) × (r ≡ s)
package_same x y parts others r s h g e =
    let names : (x ≡ y) × (parts_before parts r ≡ parts_before others s) =
    name_cut x y (parts_before parts r) (parts_before others s) h.0 g.0 (parts_stop parts r) (parts_stop others s)
    (append_cancel_left KOTLIN_PACKAGE.now _ _ (sym (package_before x parts r) ∙ e ∙ package_before y others s)) in
    let first : x ≡ y = names.0 in
    let rest : (parts ≡ others) × (r ≡ s) = parts_same parts others r s h.1 g.1 names.1 in
    let same : parts ≡ others = rest.0 in (cc, rest.1)

-- ---- a file

-- what stands behind the package header
abbrev after_header : Option KClass → List ℕ
after_header None = []
after_header (Some class) = KOTLIN_EMPTY_LINE.now ++ class_text class

file_before : (first : Name) (parts : List Name) (class : Option KClass) → file_text (first ∷ parts) class ≡ package_text first parts ++ after_header class
file_before first parts None = sym (append-nil (package_text first parts))
file_before first parts (Some class) = append_assoc (package_text first parts) KOTLIN_EMPTY_LINE.now (class_text class)

after_same : (class other : Option KClass) → IsClass class → IsClass other → after_header class ≡ after_header other → class ≡ other
after_same None None h g e = refl
after_same None (Some other) h g e = absurd (cc)
after_same (Some class) None h g e = absurd (cc)
after_same (Some class) (Some other) h g e = ap Some (class_same class other h g (append_cancel_left KOTLIN_EMPTY_LINE.now _ _ e))

file_same : (names names' : List Name) (class class' : Option KClass) → AreNames names → AreNames names' → IsClass class → IsClass class' →
    file_text names class ≡ file_text names' class' → (names ≡ names') × (class ≡ class')
file_same [] [] None None hn gn h g e = (refl, refl)
file_same [] [] None (Some other) hn gn h g e = absurd (cc)
file_same [] [] (Some class) None hn gn h g e = absurd (cc)
file_same [] [] (Some class) (Some other) hn gn h g e = (refl, ap Some (class_same class other h g e))
file_same [] (y ∷ others) None class' hn gn h g e = let begins : [] ≡ package_text y others ++ after_header class' = e ∙ file_before y others class' in absurd (cc)
file_same [] (y ∷ others) (Some class) class' hn gn h g e = absurd (differ 99 112 refl (at_zero (e ∙ file_before y others class')))
file_same (x ∷ parts) [] class None hn gn h g e = let begins : package_text x parts ++ after_header class ≡ [] = sym (file_before x parts class) ∙ e in absurd (cc)
file_same (x ∷ parts) [] class (Some other) hn gn h g e = absurd (differ 112 99 refl (at_zero (sym (file_before x parts class) ∙ e)))
file_same (x ∷ parts) (y ∷ others) class class' hn gn h g e =
    let headers : (x ∷ parts ≡ y ∷ others) × (after_header class ≡ after_header class') =
    package_same x y parts others (after_header class) (after_header class') hn gn (sym (file_before x parts class) ∙ e ∙ file_before y others class') in
    (headers.0, after_same class class' h g headers.1)

abbrev file_with : List Name → Option KClass → KFile
file_with names class = record { «package» = names; class = class }

pub spells_one : SpellsOne
unfolding KText
spells_one file other bytes h g =
    let parts : (file.package ≡ other.package) × (file.class ≡ other.class) =
    file_same file.package other.package file.class other.class h.parts g.parts h.class g.class (sym h.text ∙ g.text) in
    ap (λ (x : List Name). file_with x file.class) parts.0 ∙ ap (λ (x : Option KClass). file_with other.package x) parts.1
