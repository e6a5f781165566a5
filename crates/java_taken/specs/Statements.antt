-- What a statement of `main` is judged to be after the declarations of locals.
use Rattle.std.specs.Prelude.{ℕ, Bool, true, false, ◌&&◌, not, if◌then◌else◌, List, [], ◌∷◌, ◌++◌, Option, Some, None, codes}
use Rattle.std.specs.Str.{bytes_eq}
use Rattle.java_tree.specs.declared.tokens.Position.{Position}
use Rattle.java_tree.specs.declared.types.Primitive.TheVariants as primitive
use Rattle.java_tree.specs.declared.types.JType.{JType, out-JType}
use Rattle.java_tree.specs.declared.types.JType.TheOpen.{JType-F}
use Rattle.java_tree.specs.declared.exprs.JExpr.{JExpr, out-JExpr}
use Rattle.java_tree.specs.declared.exprs.JExpr.TheOpen.{JExpr-F}
use Rattle.java_statement_grammar.specs.declared.declarations.JValue.{JValue}
use Rattle.java_statement_grammar.specs.declared.declarations.JDeclarator.{JDeclarator}
use Rattle.java_statement_grammar.specs.declared.statements.JSimple.{JSimple}
use Rattle.java_statement_grammar.specs.declared.statements.JSimple.TheVariants as simple
use Rattle.java_unit_grammar.specs.declared.statements.JBody.{JBody}
use Rattle.java_unit_grammar.specs.declared.statements.JCase.{JCase}
use Rattle.java_unit_grammar.specs.declared.statements.JCaseGroup.{JCaseGroup}
use Rattle.java_unit_grammar.specs.declared.statements.JCatch.{JCatch}
use Rattle.java_unit_grammar.specs.declared.statements.JMember.{JMember}
use Rattle.java_unit_grammar.specs.declared.statements.JStatement.{JStatement, out-JStatement}
use Rattle.java_unit_grammar.specs.declared.statements.JBody.TheOpen.{JStatement-F}
use Rattle.java_typed.specs.declared.types.ClassRef.TheVariants as class
use Rattle.java_typed.specs.declared.types.TResult.TheVariants as result
use Rattle.java_typed.specs.declared.types.TWritten.{TWritten}
use Rattle.java_typed.specs.declared.members.MemberRef.{MemberRef}
use Rattle.java_typed.specs.declared.exprs.TExpr.{TExpr}
use Rattle.java_typed.specs.declared.exprs.TExpr.TheVariants as t
use Rattle.java_typed.specs.declared.statements.TBody.{TBody}
use Rattle.java_typed.specs.declared.statements.TBody.TheOpen.{TStatement-F}
use Rattle.java_typed.specs.declared.statements.TCaseGroup.{TCaseGroup}
use Rattle.java_typed.specs.declared.statements.TCatch.{TCatch}
use Rattle.java_typed.specs.declared.statements.TSimple.TheVariants as does
use Rattle.java_typed.specs.declared.statements.TStatement.{TStatement, out-TStatement}
use Rattle.java_typed.specs.declared.statements.TStatement.TheVariants as made
use Rattle.java_taken.specs.Judged.{Judged, ◌>>=◌}
use Rattle.java_taken.specs.Names.{is_variable, contains_name}
use Rattle.java_taken.specs.Places.{statement_at}
use Rattle.java_taken.specs.Expressions.{int_type, expression}

-- the name of a local: none of a class of the project, of the parameter, or of a local that is declared before (JLS 6.4)
abbrev pub may_declare : List (List ℕ) → List ℕ → List (List ℕ) → List ℕ → Bool
may_declare classes parameter names name =
    is_variable name && not (contains_name classes name) && not (bytes_eq name parameter) && not (contains_name names name)

-- `System.out` (JLS 6.5.6.2)
abbrev pub is_system_by : JExpr-F JExpr → Bool
is_system_by (JExpr-F.Name name at) = bytes_eq name (codes "System")
is_system_by _ = false

unfoldable pub is_system : JExpr → Bool
is_system x = is_system_by (out-JExpr x)

abbrev pub is_out_by : JExpr-F JExpr → Bool
is_out_by (JExpr-F.Field left dot name at) = is_system left && bytes_eq name (codes "out")
is_out_by _ = false

unfoldable pub is_out : JExpr → Bool
is_out x = is_out_by (out-JExpr x)

abbrev pub is_int_by : JType-F JType → Bool
is_int_by (JType-F.Primitive primitive.Int at) = true
is_int_by _ = false

-- `int` (JLS 4.2)
abbrev pub is_int : JType → Bool
is_int x = is_int_by (out-JType x)

-- ---- the trees

-- `int`, which names no reference type
abbrev pub int_written : TWritten
int_written = record { kind = int_type; places = [] }

-- `int x = e;`, from its first token; the name, and where it stands
abbrev pub declares : Position → List ℕ → Position → TExpr → TStatement
declares at name name_at e =
    made.Simple at (does.Locals (record { name = name; at = name_at; kind = int_written; is_final = false; value = Some e } ∷ [])) []

-- `println` of an int, a member of System in the library
abbrev pub println : MemberRef
println = record { class = class.Library 16; place = 8 }

-- `System.out.println(e);`, from its first token; where the method's name stands
abbrev pub prints : Position → Position → TExpr → TStatement
prints at name_at e = made.Simple at (does.Value (t.StaticCall at println name_at (e ∷ []) result.Void)) []

-- After the declarations of the names; the first token of the statement stands at the position.
module _ (names : List (List ℕ)) (at : Position) where
  -- `System.out.println(e);` (JLS 14.8, 15.12)
  abbrev pub printed : Position → List JExpr → Judged TStatement
  printed name_at (x ∷ []) = expression names x >>= λ e. Judged.Typed (prints at name_at e)
  printed name_at _ = Judged.Open at

  abbrev pub called : JExpr-F JExpr → Judged TStatement
  called (JExpr-F.Method left dot name name_at lp args commas rp) = if is_out left && bytes_eq name (codes "println") then printed name_at args else Judged.Open at
  called _ = Judged.Open at

-- The first two are the names of the project's classes and that of the parameter.
module _ (classes : List (List ℕ)) (parameter : List ℕ) (names : List (List ℕ)) (at : Position) where
  -- a name with its value, whose name comes first (JLS 14.4.2)
  abbrev pub valued : JDeclarator → Option JValue → Judged TStatement
  valued x None = Judged.Open at
  valued x (Some value) =
      if may_declare classes parameter names x.name then expression names value.tree >>= (λ e. Judged.Typed (declares at x.name x.at e)) else Judged.Open x.at

  -- `int x = e;` (JLS 14.4)
  abbrev pub declared : Option Position → Bool → List JDeclarator → Judged TStatement
  declared None true (x ∷ []) = valued x x.value
  declared _ _ _ = Judged.Open at

  abbrev pub simple_of : JSimple → Judged TStatement
  simple_of (simple.Declaration x) = declared x.is_final (is_int x.kind) x.names
  simple_of (simple.Expression x) = called names at (out-JExpr x)
  simple_of _ = Judged.Open at

  abbrev pub statement_of : JStatement-F JBody JMember JStatement JCase JCaseGroup JCatch → Judged TStatement
  statement_of (JStatement-F.Simple x bodies end) = simple_of x
  statement_of _ = Judged.Open at

-- the name that a statement declares, if it does
abbrev pub declared_by : TStatement-F TBody TStatement TCaseGroup TCatch → Option (List ℕ)
declared_by (TStatement-F.Simple at (does.Locals (d ∷ [])) bodies) = Some d.name
declared_by _ = None

abbrev pub with_declared : List (List ℕ) → Option (List ℕ) → List (List ℕ)
with_declared names None = names
with_declared names (Some name) = if contains_name names name then names else names ++ name ∷ []

-- the names that are declared after a statement
unfoldable pub names_after : List (List ℕ) → TStatement → List (List ℕ)
names_after names s = with_declared names (declared_by (out-TStatement s))

module _ (classes : List (List ℕ)) (parameter : List ℕ) where
  unfoldable pub statement : List (List ℕ) → JStatement → Judged TStatement
  statement names x = statement_of classes parameter names (statement_at x) (out-JStatement x)

  -- the statements of a block (JLS 14.2)
  abbrev pub statements : List (List ℕ) → List JStatement → Judged (List TStatement)
  statements names [] = Judged.Typed []
  statements names (x ∷ xs) = statement names x >>= λ s. statements (names_after names s) xs >>= λ more. Judged.Typed (s ∷ more)
