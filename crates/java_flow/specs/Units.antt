-- The faults of assignment and reachability in a unit, each at its place.
use Rattle.std.specs.Prelude.{ℕ, ◌+◌, suc, Bool, true, false, ◌==◌, List, [], ◌∷◌, ◌++◌, map, length, slice_get, Option, Some, None, if◌then◌else◌}
use Rattle.std.specs.List.{list_any}
use Rattle.java_tree.specs.declared.tokens.Position.{Position}
use Rattle.java_typed.specs.declared.types.ClassRef.{ClassRef}
use Rattle.java_typed.specs.declared.types.ClassRef.TheVariants as class
use Rattle.java_typed.specs.declared.types.TWritten.{TWritten}
use Rattle.java_typed.specs.declared.members.MemberRef.{MemberRef}
use Rattle.java_typed.specs.declared.statements.TBody.{TBody}
use Rattle.java_typed.specs.declared.units.TBlock.{TBlock}
use Rattle.java_typed.specs.declared.units.TField.{TField}
use Rattle.java_typed.specs.declared.units.TMethod.{TMethod}
use Rattle.java_typed.specs.declared.units.TFirstCall.{TFirstCall}
use Rattle.java_typed.specs.declared.units.TFirstCall.TheVariants as call
use Rattle.java_typed.specs.declared.units.TConstructor.{TConstructor}
use Rattle.java_typed.specs.declared.units.TInitializer.{TInitializer}
use Rattle.java_typed.specs.declared.units.TInitializer.TheVariants as part
use Rattle.java_typed.specs.declared.units.TClass.{TClass}
use Rattle.java_typed.specs.declared.units.TUnit.{TUnit}
use Rattle.flow.specs.Acts.{Skip, Then}
use Rattle.flow.specs.Analyses.{Reads, Assigns, Reaches}
use Rattle.java_flow.specs.Variables.{JavaUse, JavaAct}
use Rattle.java_flow.specs.Statements.{body, statements, value, values}
use Rattle.java_flow.specs.Faults.{unreachable_statements, can_end}
use Rattle.java_flow.specs.Scopes.{Scope, inner_of, inner_scopes, scopes, value_scopes, values_scopes}
use Rattle.java_flow.specs.Locals.{unassigned, assigned_twice, captured_in_vain, param_scopes}
use Rattle.java_flow.specs.Fields.{static_part, instance_part, constructor_body, unassigned_field, assigned_twice_field, assigned_elsewhere, forward_references, assigned_from_afar}
use Rattle.java_flow.specs.Anonymous.{anonymous}

-- F1 to F5
pub data FlowCode : Type 0 where
  NotAssigned : FlowCode
  AssignedTwice : FlowCode
  Unreachable : FlowCode
  MissingReturn : FlowCode
  NotEffectivelyFinal : FlowCode

abbrev pub number_of : FlowCode → ℕ
number_of NotAssigned = 1
number_of AssignedTwice = 2
number_of Unreachable = 3
number_of MissingReturn = 4
number_of NotEffectivelyFinal = 5

pub record FlowFault : Type 0 where
  pub code : FlowCode
  pub at : Position

-- a name that is read or assigned, or the first token of a statement
abbrev pub place_of : JavaUse → Position
place_of (Reads v at) = at
place_of (Assigns v at) = at
place_of (Reaches at) = at

abbrev pub told : FlowCode → List JavaUse → List FlowFault
told code xs = map (λ x. record { code = code; at = place_of x }) xs

-- ---- a text

abbrev pub scope_faults : List Scope → List FlowFault
scope_faults [] = []
scope_faults (s ∷ more) = told NotAssigned (unassigned s) ++ (told AssignedTwice (assigned_twice s) ++ (told NotEffectivelyFinal (captured_in_vain s) ++ scope_faults more))

abbrev pub text_faults : JavaAct → List Scope → List FlowFault
text_faults x locals = told Unreachable (unreachable_statements x) ++ scope_faults locals

-- ---- a class

-- a final field of the project; those of the library are all final (JLS 4.12.4)
abbrev pub final_field : Option TField → Bool
final_field None = false
final_field (Some f) = f.modifiers.is_final

abbrev pub final_of : Option TClass → ℕ → Bool
final_of None place = false
final_of (Some c) place = final_field (slice_get c.fields place)

module _ (all : List TClass) where
  abbrev pub is_final : MemberRef → Bool
  is_final m = by m.class
    where
      by : ClassRef → Bool
      by (class.Library row) = true
      by (class.Project number) = final_of (slice_get all number) m.place

  -- the class's place among all classes, and what the anonymous classes of its unit do later
  module _ (number : ℕ) (inner : ℕ → JavaAct) (c : TClass) where
    abbrev pub afar : JavaAct → List FlowFault
    afar x = told AssignedTwice (assigned_from_afar is_final number x)

    abbrev pub bodies_do : List TBody → List JavaAct
    bodies_do bodies = map (body inner) bodies

    abbrev pub bodies_scopes : List TBody → List Scope
    bodies_scopes bodies = inner_scopes (map (inner_of inner) bodies)

    -- A value of a field, and a block, which must be able to complete normally (JLS 8.6, 8.7).
    abbrev pub part_faults : TInitializer → List FlowFault
    part_faults (part.Value place x bodies) = text_faults (value (bodies_do bodies) x) (value_scopes (bodies_do bodies) x ++ bodies_scopes bodies)
    part_faults (part.Block at is_static xs) =
        text_faults (statements inner xs) (scopes inner xs) ++ (if can_end (statements inner xs) then [] else record { code = Unreachable; at = at } ∷ [])

    abbrev pub parts_faults : List TInitializer → List FlowFault
    parts_faults [] = []
    parts_faults (x ∷ more) = part_faults x ++ parts_faults more

    -- the arguments of the constructor that is called first
    abbrev pub arguments_do : TFirstCall → JavaAct
    arguments_do call.Nothing = Skip
    arguments_do (call.This at m arguments bodies) = values (bodies_do bodies) arguments
    arguments_do (call.Super at is_written m arguments bodies) = values (bodies_do bodies) arguments

    abbrev pub arguments_scopes : TFirstCall → List Scope
    arguments_scopes call.Nothing = []
    arguments_scopes (call.This at m arguments bodies) = values_scopes (bodies_do bodies) arguments ++ bodies_scopes bodies
    arguments_scopes (call.Super at is_written m arguments bodies) = values_scopes (bodies_do bodies) arguments ++ bodies_scopes bodies

    abbrev pub constructor_text : TConstructor → JavaAct
    constructor_text k = Then (arguments_do k.call) (constructor_body number inner c k)

    abbrev pub constructor_faults : TConstructor → List FlowFault
    constructor_faults k =
        text_faults (constructor_text k) (param_scopes (constructor_text k) k.params ++ (arguments_scopes k.call ++ scopes inner k.block.statements))
        ++ afar (constructor_text k)

    abbrev pub constructors_faults : List TConstructor → List FlowFault
    constructors_faults [] = []
    constructors_faults (k ∷ more) = constructor_faults k ++ constructors_faults more

    -- a body that must give a value can't end without one (JLS 8.4.7)
    abbrev pub ends : TMethod → TBlock → List FlowFault
    ends m block = by m.result
      where
        by : Option TWritten → List FlowFault
        by None = []
        by (Some kind) = if can_end (statements inner block.statements) then record { code = MissingReturn; at = block.closes } ∷ [] else []

    abbrev pub method_faults : TMethod → List FlowFault
    method_faults m = by m.block
      where
        by : Option TBlock → List FlowFault
        by None = []
        by (Some block) =
            text_faults (statements inner block.statements) (param_scopes (statements inner block.statements) m.params ++ scopes inner block.statements)
            ++ (ends m block ++ afar (statements inner block.statements))

    abbrev pub methods_faults : List TMethod → List FlowFault
    methods_faults [] = []
    methods_faults (m ∷ more) = method_faults m ++ methods_faults more

    -- ---- fields

    abbrev pub gives : ℕ → TInitializer → Bool
    gives place (part.Value n x bodies) = n == place
    gives place (part.Block at is_static xs) = false

    abbrev pub has_value : ℕ → Bool
    has_value place = list_any (gives place) c.initializers

    -- a final field is assigned once, by its value or elsewhere
    abbrev pub final_faults : ℕ → TField → List FlowFault
    final_faults place f =
        if has_value place then told AssignedTwice (assigned_elsewhere number inner c place f)
        else (told NotAssigned (unassigned_field number inner c place f) ++ told AssignedTwice (assigned_twice_field number inner c place f))

    abbrev pub nothing : ℕ → JavaAct
    nothing n = Skip

    abbrev pub field_faults : ℕ → TField → List FlowFault
    field_faults place f = (if f.modifiers.is_final then final_faults place f else []) ++ told NotAssigned (forward_references number nothing c place f)

    abbrev pub fields_faults : ℕ → List TField → List FlowFault
    fields_faults place [] = []
    fields_faults place (f ∷ more) = field_faults place f ++ fields_faults (suc place) more

    abbrev pub class_faults : List FlowFault
    class_faults =
        fields_faults 0 c.fields
        ++ (parts_faults c.initializers ++ (afar (Then (static_part number inner c) (instance_part number inner c)) ++ (constructors_faults c.constructors ++ methods_faults c.methods)))

  -- ---- the classes of a unit, from their places on

  abbrev pub classes_faults : (ℕ → JavaAct) → ℕ → List TClass → List FlowFault
  classes_faults inner number [] = []
  classes_faults inner number (c ∷ more) = class_faults number inner c ++ classes_faults inner (suc number) more

  -- those of each unit
  abbrev pub units_faults : ℕ → List TUnit → List (List FlowFault)
  units_faults first [] = []
  units_faults first (u ∷ more) = classes_faults (anonymous first u.classes) first u.classes ∷ units_faults (first + length u.classes) more

abbrev pub all_classes : List TUnit → List TClass
all_classes [] = []
all_classes (u ∷ more) = u.classes ++ all_classes more

-- the faults of each unit of a project
abbrev pub project_faults : List TUnit → List (List FlowFault)
project_faults units = units_faults (all_classes units) 0 units
