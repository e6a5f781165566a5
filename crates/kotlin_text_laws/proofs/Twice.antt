-- What is done with each part of a form twice is done in one.
use Rattle.std.proofs.Common.{◌≡◌, map, refl, ap, ◌∙◌}
use Rattle.std.proofs.lemmas.Simd.{map-map}
use Rattle.kotlin_tree.specs.declared.expressions.KExpr.{KExpr, map-KExpr}
use Rattle.kotlin_tree.specs.declared.expressions.KExpr.TheOpen.{KExpr-F, KStmt-F, KChoice-F, KBranch-F, KCatch-F}
use Rattle.kotlin_tree.specs.declared.expressions.KChoice.{KChoice, map-KChoice}
use Rattle.kotlin_tree.specs.declared.statements.KStmt.{KStmt, map-KStmt}
use Rattle.kotlin_tree.specs.declared.statements.KBranch.{KBranch, map-KBranch}
use Rattle.kotlin_tree.specs.declared.statements.KCatch.{KCatch, map-KCatch}

module _ (A1 A2 A3 A4 A5 : Type 0)
    (f1 : KExpr → KExpr) (f2 : KStmt → KStmt) (f3 : KChoice → KChoice) (f4 : KBranch → KBranch) (f5 : KCatch → KCatch)
    (g1 : KExpr → A1) (g2 : KStmt → A2) (g3 : KChoice → A3) (g4 : KBranch → A4) (g5 : KCatch → A5)
  where
    pub twice_expression : (x : KExpr-F KExpr KStmt KChoice KBranch KCatch) → map-KExpr KExpr KStmt KChoice KBranch KCatch A1 A2 A3 A4 A5 g1 g2 g3 g4 g5 (map-KExpr KExpr KStmt KChoice KBranch KCatch KExpr KStmt KChoice KBranch KCatch f1 f2 f3 f4 f5 x) ≡ map-KExpr KExpr KStmt KChoice KBranch KCatch A1 A2 A3 A4 A5 (λ z. g1 (f1 z)) (λ z. g2 (f2 z)) (λ z. g3 (f3 z)) (λ z. g4 (f4 z)) (λ z. g5 (f5 z)) x
    twice_expression (KExpr-F.Literal x at) = refl
    twice_expression (KExpr-F.Name x) = refl
    twice_expression (KExpr-F.This at) = refl
    twice_expression (KExpr-F.Paren round inner) = refl
    twice_expression (KExpr-F.Call x types round arguments commas) = ap {B = KExpr-F A1 A2 A3 A4 A5} (λ z. KExpr-F.Call x types round z commas) (map-map g1 f1 arguments)
    twice_expression (KExpr-F.SuperCall at x round arguments commas) = ap {B = KExpr-F A1 A2 A3 A4 A5} (λ z. KExpr-F.SuperCall at x round z commas) (map-map g1 f1 arguments)
    twice_expression (KExpr-F.Field object dot x) = refl
    twice_expression (KExpr-F.Method object dot x types round arguments commas) = ap {B = KExpr-F A1 A2 A3 A4 A5} (λ z. KExpr-F.Method (g1 (f1 object)) dot x types round z commas) (map-map g1 f1 arguments)
    twice_expression (KExpr-F.Element array square index) = refl
    twice_expression (KExpr-F.Postfix operand o at) = refl
    twice_expression (KExpr-F.Prefix o at operand) = refl
    twice_expression (KExpr-F.As value at kind) = refl
    twice_expression (KExpr-F.Is value at kind) = refl
    twice_expression (KExpr-F.Binary left o at right) = refl
    twice_expression (KExpr-F.IfValue at condition value else_at other) = refl
    twice_expression (KExpr-F.WhenValue at subject curly choices else_at other) = ap {B = KExpr-F A1 A2 A3 A4 A5} (λ z. KExpr-F.WhenValue at (g1 (f1 subject)) curly z else_at (g1 (f1 other))) (map-map g3 f3 choices)
    twice_expression (KExpr-F.Lambda face curly names statements) = ap {B = KExpr-F A1 A2 A3 A4 A5} (λ z. KExpr-F.Lambda face curly names z) (map-map g2 f2 statements)
    twice_expression (KExpr-F.Run at curly statements) = ap {B = KExpr-F A1 A2 A3 A4 A5} (λ z. KExpr-F.Run at curly z) (map-map g2 f2 statements)
    twice_expression (KExpr-F.Class x at) = refl

    pub twice_statement : (x : KStmt-F KExpr KStmt KChoice KBranch KCatch) → map-KStmt KExpr KStmt KChoice KBranch KCatch A1 A2 A3 A4 A5 g1 g2 g3 g4 g5 (map-KStmt KExpr KStmt KChoice KBranch KCatch KExpr KStmt KChoice KBranch KCatch f1 f2 f3 f4 f5 x) ≡ map-KStmt KExpr KStmt KChoice KBranch KCatch A1 A2 A3 A4 A5 (λ z. g1 (f1 z)) (λ z. g2 (f2 z)) (λ z. g3 (f3 z)) (λ z. g4 (f4 z)) (λ z. g5 (f5 z)) x
    twice_statement (KStmt-F.Commented comments statement) = refl
    twice_statement (KStmt-F.Declared x) = refl
    twice_statement (KStmt-F.Local x at value) = refl
    twice_statement (KStmt-F.Expression x) = refl
    twice_statement (KStmt-F.Assign target at value) = refl
    twice_statement (KStmt-F.While label at condition curly statements) = ap {B = KStmt-F A1 A2 A3 A4 A5} (λ z. KStmt-F.While label at (g1 (f1 condition)) curly z) (map-map g2 f2 statements)
    twice_statement (KStmt-F.DoWhile label do_at curly statements at condition) = ap {B = KStmt-F A1 A2 A3 A4 A5} (λ z. KStmt-F.DoWhile label do_at curly z at (g1 (f1 condition))) (map-map g2 f2 statements)
    twice_statement (KStmt-F.For label at x in_at values curly statements) = ap {B = KStmt-F A1 A2 A3 A4 A5} (λ z. KStmt-F.For label at x in_at (g1 (f1 values)) curly z) (map-map g2 f2 statements)
    twice_statement (KStmt-F.ForRange label at x in_at first until_at end curly statements) = ap {B = KStmt-F A1 A2 A3 A4 A5} (λ z. KStmt-F.ForRange label at x in_at (g1 (f1 first)) until_at (g1 (f1 end)) curly z) (map-map g2 f2 statements)
    twice_statement (KStmt-F.If at condition curly statements) = ap {B = KStmt-F A1 A2 A3 A4 A5} (λ z. KStmt-F.If at (g1 (f1 condition)) curly z) (map-map g2 f2 statements)
    twice_statement (KStmt-F.IfElse at condition curly statements else_at other_curly others) = ap {B = KStmt-F A1 A2 A3 A4 A5} (λ z. KStmt-F.IfElse at (g1 (f1 condition)) curly z else_at other_curly (map g2 (map f2 others))) (map-map g2 f2 statements) ∙ ap {B = KStmt-F A1 A2 A3 A4 A5} (λ z. KStmt-F.IfElse at (g1 (f1 condition)) curly (map (λ z. g2 (f2 z)) statements) else_at other_curly z) (map-map g2 f2 others)
    twice_statement (KStmt-F.IfElseIf at condition curly statements else_at other) = ap {B = KStmt-F A1 A2 A3 A4 A5} (λ z. KStmt-F.IfElseIf at (g1 (f1 condition)) curly z else_at (g2 (f2 other))) (map-map g2 f2 statements)
    twice_statement (KStmt-F.When at subject curly branches else_at other_curly others) = ap {B = KStmt-F A1 A2 A3 A4 A5} (λ z. KStmt-F.When at (g1 (f1 subject)) curly z else_at other_curly (map g2 (map f2 others))) (map-map g4 f4 branches) ∙ ap {B = KStmt-F A1 A2 A3 A4 A5} (λ z. KStmt-F.When at (g1 (f1 subject)) curly (map (λ z. g4 (f4 z)) branches) else_at other_curly z) (map-map g2 f2 others)
    twice_statement (KStmt-F.Break at target) = refl
    twice_statement (KStmt-F.Continue at target) = refl
    twice_statement (KStmt-F.Return at target) = refl
    twice_statement (KStmt-F.Give at target value) = refl
    twice_statement (KStmt-F.Throw at value) = refl
    twice_statement (KStmt-F.Try at curly statements catches) = ap {B = KStmt-F A1 A2 A3 A4 A5} (λ z. KStmt-F.Try at curly z (map g5 (map f5 catches))) (map-map g2 f2 statements) ∙ ap {B = KStmt-F A1 A2 A3 A4 A5} (λ z. KStmt-F.Try at curly (map (λ z. g2 (f2 z)) statements) z) (map-map g5 f5 catches)
    twice_statement (KStmt-F.TryFinally at curly statements catches last_at last) = ap {B = KStmt-F A1 A2 A3 A4 A5} (λ z. KStmt-F.TryFinally at curly z (map g5 (map f5 catches)) last_at (map g2 (map f2 last))) (map-map g2 f2 statements) ∙ ap {B = KStmt-F A1 A2 A3 A4 A5} (λ z. KStmt-F.TryFinally at curly (map (λ z. g2 (f2 z)) statements) z last_at (map g2 (map f2 last))) (map-map g5 f5 catches) ∙ ap {B = KStmt-F A1 A2 A3 A4 A5} (λ z. KStmt-F.TryFinally at curly (map (λ z. g2 (f2 z)) statements) (map (λ z. g5 (f5 z)) catches) last_at z) (map-map g2 f2 last)
    twice_statement (KStmt-F.Synchronized at lock curly statements) = ap {B = KStmt-F A1 A2 A3 A4 A5} (λ z. KStmt-F.Synchronized at (g1 (f1 lock)) curly z) (map-map g2 f2 statements)

    pub twice_choice : (x : KChoice-F KExpr KStmt KChoice KBranch KCatch) → map-KChoice KExpr KStmt KChoice KBranch KCatch A1 A2 A3 A4 A5 g1 g2 g3 g4 g5 (map-KChoice KExpr KStmt KChoice KBranch KCatch KExpr KStmt KChoice KBranch KCatch f1 f2 f3 f4 f5 x) ≡ map-KChoice KExpr KStmt KChoice KBranch KCatch A1 A2 A3 A4 A5 (λ z. g1 (f1 z)) (λ z. g2 (f2 z)) (λ z. g3 (f3 z)) (λ z. g4 (f4 z)) (λ z. g5 (f5 z)) x
    twice_choice x = ap {B = KChoice-F A1 A2 A3 A4 A5} (λ z. record { labels = z; commas = x.commas; arrow = x.arrow; value = g1 (f1 x.value) }) (map-map g1 f1 x.labels)

    pub twice_branch : (x : KBranch-F KExpr KStmt KChoice KBranch KCatch) → map-KBranch KExpr KStmt KChoice KBranch KCatch A1 A2 A3 A4 A5 g1 g2 g3 g4 g5 (map-KBranch KExpr KStmt KChoice KBranch KCatch KExpr KStmt KChoice KBranch KCatch f1 f2 f3 f4 f5 x) ≡ map-KBranch KExpr KStmt KChoice KBranch KCatch A1 A2 A3 A4 A5 (λ z. g1 (f1 z)) (λ z. g2 (f2 z)) (λ z. g3 (f3 z)) (λ z. g4 (f4 z)) (λ z. g5 (f5 z)) x
    twice_branch x = ap {B = KBranch-F A1 A2 A3 A4 A5} (λ z. record { labels = z; commas = x.commas; arrow = x.arrow; curly = x.curly; statements = map g2 (map f2 x.statements) }) (map-map g1 f1 x.labels) ∙ ap {B = KBranch-F A1 A2 A3 A4 A5} (λ z. record { labels = map (λ z. g1 (f1 z)) x.labels; commas = x.commas; arrow = x.arrow; curly = x.curly; statements = z }) (map-map g2 f2 x.statements)

    pub twice_catch : (x : KCatch-F KExpr KStmt KChoice KBranch KCatch) → map-KCatch KExpr KStmt KChoice KBranch KCatch A1 A2 A3 A4 A5 g1 g2 g3 g4 g5 (map-KCatch KExpr KStmt KChoice KBranch KCatch KExpr KStmt KChoice KBranch KCatch f1 f2 f3 f4 f5 x) ≡ map-KCatch KExpr KStmt KChoice KBranch KCatch A1 A2 A3 A4 A5 (λ z. g1 (f1 z)) (λ z. g2 (f2 z)) (λ z. g3 (f3 z)) (λ z. g4 (f4 z)) (λ z. g5 (f5 z)) x
    twice_catch x = ap {B = KCatch-F A1 A2 A3 A4 A5} (λ z. record { at = x.at; name = x.name; colon = x.colon; kind = x.kind; curly = x.curly; statements = z }) (map-map g2 f2 x.statements)
