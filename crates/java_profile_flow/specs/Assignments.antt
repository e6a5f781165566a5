-- The assignments that stand in an expression, and the rule on the arguments of `this(..)` and `super(..)`.
use Rattle.std.specs.Prelude.{ℕ, Bool, false, bytes_eq, List, [], ◌∷◌, Option, Some, None, if◌then◌else◌}
use Rattle.std.specs.List.{flat_map, list_any}
use Rattle.java_tree.specs.declared.tokens.Position.{Position}
use Rattle.java_typed.specs.declared.types.TWritten.{TWritten}
use Rattle.java_typed.specs.declared.exprs.TExpr.{TExpr, map-TExpr}
use Rattle.java_typed.specs.declared.exprs.TExpr.TheOpen.{TExpr-F}
use Rattle.java_typed.specs.declared.units.TParam.{TParam}
use Rattle.java_typed.specs.declared.units.TConstructor.{TConstructor}
use Rattle.java_typed.specs.Reading.{first_by}
use Rattle.flow.specs.Acts.{Skip}
use Rattle.java_flow.specs.Variables.{Variable, Local, Simple, OfThis, Distant, JavaAct}
use Rattle.java_flow.specs.Expressions.{Said, Named, said_by}
use Rattle.java_walks.specs.Parts.{collected}
use Rattle.java_walks.specs.Texts.{of_call}
use Rattle.java_profile.specs.Faults.{Fault, P19, told}

-- what is assigned, and the first token of the assignment
pub record Assigned : Type 0 where
  pub variable : Variable
  pub first : Position

-- of a part: what it names, and its first token
pub record Part : Type 0 where
  pub said : Said
  pub first : Position

abbrev pub no_body : ℕ → JavaAct
no_body n = Skip

abbrev pub part_by : TExpr-F Part → Part
part_by x = record { said = said_by no_body (map-TExpr Part Said (λ p. p.said) x); first = first_by (map-TExpr Part Position (λ p. p.first) x) }

abbrev pub assigned_as : Option Named → Position → List Assigned
assigned_as None first = []
assigned_as (Some n) first = record { variable = n.variable; first = first } ∷ []

-- `=`, the compound operators, `++` and `--` (JLS 15.26, 15.14.2, 15.15.1)
abbrev pub assigns_by : TExpr-F Part → List Assigned
assigns_by (TExpr-F.Assign target at v) = assigned_as target.said.named target.first
assigns_by (TExpr-F.Compound target o kind at v) = assigned_as target.said.named target.first
assigns_by (TExpr-F.Append target at v) = assigned_as target.said.named target.first
assigns_by (TExpr-F.Step is_prefix o at target kind) = assigned_as target.said.named (if is_prefix then at else target.first)
assigns_by _ = []

-- of an expression and of all in it
abbrev pub assignments : TExpr → List Assigned
assignments x = (collected part_by assigns_by x).told

-- ---- Kotlin's parameters are read-only, and a copy stands in the body, behind the call (Kotlin specification, function declaration)

abbrev pub is_param : List TParam → Variable → Bool
is_param ps (Local name) = list_any (λ (p : TParam). bytes_eq p.name name) ps
is_param ps (Simple m) = false
is_param ps (OfThis m) = false
is_param ps (Distant m) = false

abbrev pub params_assigned : List TParam → List Assigned → List Fault
params_assigned ps xs = flat_map (λ (x : Assigned). told (is_param ps x.variable) P19 x.first) xs

abbrev pub call_faults : TConstructor → List Fault
call_faults k = params_assigned k.params (of_call assignments (λ (w : TWritten). []) (λ number. []) k.call)
