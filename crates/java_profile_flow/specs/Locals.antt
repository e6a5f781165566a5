-- The rule on locals of the groups of a switch: Kotlin's groups are blocks (own rule), so that a local of one isn't in scope in another,
-- where Java's is (JLS 6.3).
use Rattle.std.specs.Prelude.{ℕ, zero, suc, Bool, true, bytes_eq, List, [], ◌∷◌, ◌++◌, map, Option, Some, None, length, slice_get}
use Rattle.std.specs.List.{flat_map, list_any}
use Rattle.java_tree.specs.declared.tokens.Position.{Position}
use Rattle.java_typed.specs.declared.types.TWritten.{TWritten}
use Rattle.java_typed.specs.declared.exprs.TExpr.{TExpr}
use Rattle.java_typed.specs.declared.exprs.TExpr.TheOpen.{TExpr-F}
use Rattle.java_typed.specs.declared.statements.TDeclarator.{TDeclarator}
use Rattle.java_typed.specs.declared.statements.TSimple.{TSimple}
use Rattle.java_typed.specs.declared.statements.TSimple.TheVariants as simple
use Rattle.java_typed.specs.declared.statements.TBody.{TBody, fold-TBody, map-TBody}
use Rattle.java_typed.specs.declared.statements.TBody.TheOpen.{TBody-F, TStatement-F, TCaseGroup-F, TCatch-F}
use Rattle.java_typed.specs.declared.statements.TBody.TheFolds.{map-TStatement, map-TCaseGroup, map-TCatch}
use Rattle.java_typed.specs.declared.statements.TStatement.{TStatement, fold-TStatement}
use Rattle.java_typed.specs.declared.units.TClass.{TClass}
use Rattle.java_walks.specs.Parts.{collected}
use Rattle.java_walks.specs.Texts as texts
use Rattle.java_walks.specs.Texts.{of_class}
use Rattle.java_profile.specs.Faults.{Fault, P10, told}

-- a local where it is named
pub record LocalUse : Type 0 where
  pub name : List ℕ
  pub at : Position

abbrev pub uses_by : TExpr-F Bool → List LocalUse
uses_by (TExpr-F.Local name at kind) = record { name = name; at = at } ∷ []
uses_by _ = []

-- also in a constant expression
abbrev pub uses_of : TExpr → List LocalUse
uses_of x = (collected (λ y. true) uses_by x).told

abbrev pub no_type : TWritten → List LocalUse
no_type w = []

-- ---- what stands in an anonymous class, by its place among the classes of the unit, and by how many stand around one another at most

module _ (classes : List TClass) where
  abbrev pub found_uses : (ℕ → List LocalUse) → Option TClass → List LocalUse
  found_uses inner None = []
  found_uses inner (Some c) = of_class uses_of no_type inner c

  abbrev pub uses_within : ℕ → ℕ → List LocalUse
  uses_within zero place = []
  uses_within (suc depth) place = found_uses (uses_within depth) (slice_get classes place)

  abbrev pub anonymous_uses : ℕ → List LocalUse
  anonymous_uses = uses_within (length classes)

-- ---- statements

-- what is named in a text, which locals it declares whose scopes go on behind it, and its faults
pub record Text : Type 0 where
  pub uses : List LocalUse
  pub declares : List (List ℕ)
  pub faults : List Fault

abbrev pub names_of : TSimple → List (List ℕ)
names_of (simple.Locals ds) = map (λ (d : TDeclarator). d.name) ds
names_of _ = []

abbrev pub is_among : List (List ℕ) → List ℕ → Bool
is_among names name = list_any (λ x. bytes_eq x name) names

abbrev pub all_faults : List Text → List Fault
all_faults xs = flat_map (λ (x : Text). x.faults) xs

abbrev pub all_declared : List Text → List (List ℕ)
all_declared xs = flat_map (λ (x : Text). x.declares) xs

abbrev pub all_uses : List Text → List LocalUse
all_uses xs = flat_map (λ (x : Text). x.uses) xs

-- each use of a local of a group in the groups behind it, at the name
abbrev pub crossed : List Text → List Fault
crossed [] = []
crossed (g ∷ more) = flat_map (λ (u : LocalUse). told (is_among g.declares u.name) P10 u.at) (all_uses more) ++ crossed more

module _ (inner : ℕ → List LocalUse) where
  abbrev pub used_by : TStatement-F Text Text Text Text → List LocalUse
  used_by x = texts.statement_by uses_of no_type inner (map-TStatement Text Text Text Text (List LocalUse) (List LocalUse) (List LocalUse) (List LocalUse) (λ b. b.uses) (λ s. s.uses) (λ g. g.uses) (λ c. c.uses) x)

  abbrev pub declared_by : TStatement-F Text Text Text Text → List (List ℕ)
  declared_by (TStatement-F.Simple at x bodies) = names_of x
  declared_by _ = []

  abbrev pub faults_by : TStatement-F Text Text Text Text → List Fault
  faults_by (TStatement-F.Simple at x bodies) = all_faults bodies
  faults_by (TStatement-F.Block at xs right) = all_faults xs
  faults_by (TStatement-F.Labeled at own x) = x.faults
  faults_by (TStatement-F.If at c bodies x) = all_faults bodies ++ x.faults
  faults_by (TStatement-F.IfElse at c bodies x y) = all_faults bodies ++ (x.faults ++ y.faults)
  faults_by (TStatement-F.While at c bodies x) = all_faults bodies ++ x.faults
  faults_by (TStatement-F.Do at x c bodies) = x.faults ++ all_faults bodies
  faults_by (TStatement-F.For at start c updates bodies x) = all_faults bodies ++ x.faults
  faults_by (TStatement-F.Each at variable xs bodies x) = all_faults bodies ++ x.faults
  faults_by (TStatement-F.Switch at x bodies gs) = crossed gs ++ (all_faults bodies ++ all_faults gs)
  faults_by (TStatement-F.Synchronized at x bodies xs) = all_faults bodies ++ all_faults xs
  faults_by (TStatement-F.Try at xs catches last lasts) = all_faults xs ++ (all_faults catches ++ all_faults lasts)

  abbrev pub statement_by : TStatement-F Text Text Text Text → Text
  statement_by x = record { uses = used_by x; declares = declared_by x; faults = faults_by x }

  abbrev pub body_faults : TBody-F Text Text Text Text → List Fault
  body_faults (TBody-F.Statements xs) = all_faults xs
  body_faults (TBody-F.Class number) = []

  abbrev pub body_by : TBody-F Text Text Text Text → Text
  body_by x = record {
    uses = texts.body_by uses_of no_type inner (map-TBody Text Text Text Text (List LocalUse) (List LocalUse) (List LocalUse) (List LocalUse) (λ b. b.uses) (λ s. s.uses) (λ g. g.uses) (λ c. c.uses) x);
    declares = [];
    faults = body_faults x;
  }

  abbrev pub group_by : TCaseGroup-F Text Text Text Text → Text
  group_by x = record {
    uses = texts.group_by uses_of no_type inner (map-TCaseGroup Text Text Text Text (List LocalUse) (List LocalUse) (List LocalUse) (List LocalUse) (λ b. b.uses) (λ s. s.uses) (λ g. g.uses) (λ c. c.uses) x);
    declares = all_declared x.statements;
    faults = all_faults x.statements;
  }

  abbrev pub catch_by : TCatch-F Text Text Text Text → Text
  catch_by x = record {
    uses = texts.catch_by uses_of no_type inner (map-TCatch Text Text Text Text (List LocalUse) (List LocalUse) (List LocalUse) (List LocalUse) (λ b. b.uses) (λ s. s.uses) (λ g. g.uses) (λ c. c.uses) x);
    declares = [];
    faults = all_faults x.statements;
  }

  unfoldable pub text_of : TStatement → Text
  text_of = fold-TStatement Text Text Text Text body_by statement_by group_by catch_by

  unfoldable pub body_of : TBody → Text
  body_of = fold-TBody Text Text Text Text body_by statement_by group_by catch_by

  abbrev pub statements_faults : List TStatement → List Fault
  statements_faults xs = all_faults (map text_of xs)

  abbrev pub bodies_faults : List TBody → List Fault
  bodies_faults bs = all_faults (map body_of bs)
