-- What is at fault with the fields of a class, over what is done when the class or an object is made (JLS 8.3.3, 8.6 to 8.8, 16).
use Rattle.std.specs.Prelude.{ℕ, Bool, true, false, not, ◌&&◌, ◌==◌, nat_lt, List, [], ◌∷◌, ◌++◌, map, Option, Some, None, slice_get, if◌then◌else◌}
use Rattle.std.specs.List.{filter}
use Rattle.java_tree.specs.declared.tokens.Position.{Position}
use Rattle.java_typed.specs.declared.types.ClassRef.TheVariants as class
use Rattle.java_typed.specs.declared.members.MemberRef.{MemberRef}
use Rattle.java_typed.specs.declared.exprs.TExpr.{TExpr}
use Rattle.java_typed.specs.declared.statements.TBody.{TBody}
use Rattle.java_typed.specs.declared.units.TBlock.{TBlock}
use Rattle.java_typed.specs.declared.units.TField.{TField}
use Rattle.java_typed.specs.declared.units.TMethod.{TMethod}
use Rattle.java_typed.specs.declared.units.TFirstCall.{TFirstCall}
use Rattle.java_typed.specs.declared.units.TFirstCall.TheVariants as first
use Rattle.java_typed.specs.declared.units.TConstructor.{TConstructor}
use Rattle.java_typed.specs.declared.units.TInitializer.{TInitializer}
use Rattle.java_typed.specs.declared.units.TInitializer.TheVariants as part
use Rattle.java_typed.specs.declared.units.TClass.{TClass}
use Rattle.flow.specs.Acts.{Skip, Does, Then, Block}
use Rattle.flow.specs.Standing.{stands}
use Rattle.flow.specs.Analyses.{Reads, Assigns, Reaches}
use Rattle.java_flow.specs.Variables.{Variable, Local, Simple, OfThis, Distant, Out, is_field, same_class, same_member, JavaUse, JavaAct}
use Rattle.java_flow.specs.Statements.{body, statements, value, values}
use Rattle.java_flow.specs.Faults.{unassigned_reads, assigned_again}
use Rattle.java_flow.specs.Locals.{assigns_elsewhere}

-- the class's place among all classes, and what the bodies of anonymous classes do later
module _ (number : ℕ) (inner : ℕ → JavaAct) (c : TClass) where
  abbrev pub member : ℕ → MemberRef
  member place = record { class = class.Project number; place = place }

  abbrev pub static_field : Option TField → Bool
  static_field None = false
  static_field (Some f) = f.modifiers.is_static

  abbrev pub equal : Bool → Bool → Bool
  equal true b = b
  equal false b = not b

  -- ---- what is done

  -- the field's value, and then the field has it (JLS 8.3.2)
  abbrev pub field_given : ℕ → TExpr → List TBody → Option TField → JavaAct
  field_given place x bodies None = Skip
  field_given place x bodies (Some f) = Then (value (map (body inner) bodies) x) (Does (Assigns (Simple (member place)) f.at))

  -- an initializer, where it is of the static part as asked
  abbrev pub part_does : Bool → TInitializer → JavaAct
  part_does is_static (part.Value place x bodies) = if equal is_static (static_field (slice_get c.fields place)) then field_given place x bodies (slice_get c.fields place) else Skip
  part_does is_static (part.Block at b xs) = if equal is_static b then statements inner xs else Skip

  abbrev pub parts_do : Bool → List TInitializer → JavaAct
  parts_do is_static [] = Skip
  parts_do is_static (x ∷ more) = Then (part_does is_static x) (parts_do is_static more)

  -- when the class is initialized (JLS 12.4.2), and the initializers of an object (JLS 12.5)
  abbrev pub static_part : JavaAct
  static_part = parts_do true c.initializers

  abbrev pub instance_part : JavaAct
  instance_part = parts_do false c.initializers

  -- `return` ends a constructor (JLS 14.17)
  abbrev pub constructor_body : TConstructor → JavaAct
  constructor_body k = Block Out (statements inner k.block.statements)

  -- a constructor begins behind the initializers, or behind another constructor of the class (JLS 8.8.7.1, 12.5)
  abbrev pub constructor_does : TConstructor → TFirstCall → JavaAct
  constructor_does k first.Nothing = Then instance_part (constructor_body k)
  constructor_does k (first.This at m arguments bodies) = Then (values (map (body inner) bodies) arguments) (constructor_body k)
  constructor_does k (first.Super at is_written m arguments bodies) = Then (values (map (body inner) bodies) arguments) (Then instance_part (constructor_body k))

  -- behind `this(..)` all fields are assigned
  abbrev pub is_behind_this : TFirstCall → Bool
  is_behind_this first.Nothing = false
  is_behind_this (first.This at m arguments bodies) = true
  is_behind_this (first.Super at is_written m arguments bodies) = false

  abbrev pub method_does : TMethod → JavaAct
  method_does m = by m.block
    where
      by : Option TBlock → JavaAct
      by None = Skip
      by (Some block) = statements inner block.statements

  -- ---- a final field without initializer, by its place (JLS 8.3.1.2)

  module _ (place : ℕ) (f : TField) where
    abbrev pub is_it : Variable → Bool
    is_it = is_field (member place)

    -- at the end it must be assigned, as if it were read at its name
    abbrev pub ended : JavaAct → JavaAct
    ended x = Then x (Does (Reads (Simple (member place)) f.at))

    abbrev pub all_unassigned : List TConstructor → List JavaUse
    all_unassigned [] = []
    all_unassigned (k ∷ more) =
        (if is_behind_this k.call then [] else unassigned_reads is_it false (ended (constructor_does k k.call))) ++ all_unassigned more

    -- the reads that don't find it assigned, and its name where an end doesn't
    abbrev pub unassigned_field : List JavaUse
    unassigned_field = if f.modifiers.is_static then unassigned_reads is_it false (ended static_part) else all_unassigned c.constructors

    abbrev pub again_in_constructors : Bool → List TConstructor → List JavaUse
    again_in_constructors unassigned [] = []
    again_in_constructors unassigned (k ∷ more) = assigned_again is_it (unassigned && not (is_behind_this k.call)) (constructor_does k k.call) ++ again_in_constructors unassigned more

    abbrev pub again_in_methods : List TMethod → List JavaUse
    again_in_methods [] = []
    again_in_methods (m ∷ more) = assigned_again is_it false (method_does m) ++ again_in_methods more

    -- The assignments that don't find it unassigned: it is so before the static part, or before each constructor that doesn't begin
    -- with `this(..)`, and before no other text.
    abbrev pub assigned_twice_field : List JavaUse
    assigned_twice_field = assigned_again is_it f.modifiers.is_static static_part ++ (again_in_constructors (not f.modifiers.is_static) c.constructors ++ again_in_methods c.methods)

    -- one with an initializer takes no other assignment
    abbrev pub in_constructors : List TConstructor → List JavaUse
    in_constructors [] = []
    in_constructors (k ∷ more) = stands (constructor_does k k.call) ++ in_constructors more

    abbrev pub in_methods : List TMethod → List JavaUse
    in_methods [] = []
    in_methods (m ∷ more) = stands (method_does m) ++ in_methods more

    abbrev pub assigned_elsewhere : List JavaUse
    assigned_elsewhere = filter (assigns_elsewhere is_it f.at) (stands static_part ++ (stands instance_part ++ (in_constructors c.constructors ++ in_methods c.methods)))

    -- ---- forward references (JLS 8.3.3): reads by its simple name before its declaration or in its own initializer, other than in
    -- bodies of anonymous classes, so that these are asked with an `inner` that does nothing

    abbrev pub reads_before : Position → JavaUse → Bool
    reads_before at (Reads (Simple m) p) = same_member (member place) m && nat_lt p.offset at.offset
    reads_before at (Reads _ p) = false
    reads_before at (Assigns v p) = false
    reads_before at (Reaches p) = false

    abbrev pub reads_simply : JavaUse → Bool
    reads_simply (Reads (Simple m) p) = same_member (member place) m
    reads_simply (Reads _ p) = false
    reads_simply (Assigns v p) = false
    reads_simply (Reaches p) = false

    abbrev pub own_part : List TInitializer → JavaAct
    own_part [] = Skip
    own_part (part.Value n x bodies ∷ more) = if n == place then value (map (body inner) bodies) x else own_part more
    own_part (part.Block at b xs ∷ more) = own_part more

    abbrev pub forward_references : List JavaUse
    forward_references = filter (reads_before f.at) (stands (parts_do f.modifiers.is_static c.initializers)) ++ filter reads_simply (stands (own_part c.initializers))

-- An assignment to a final field in another way than by its simple name or `this` is refused, and so is one in the text of
-- another class than the one that declares it (JLS 8.3.1.2, 15.26, 16).
module _ (is_final : MemberRef → Bool) (number : ℕ) where
  abbrev pub is_refused : Variable → Bool
  is_refused (Local name) = false
  is_refused (Simple m) = is_final m && not (same_class m.class (class.Project number))
  is_refused (OfThis m) = is_final m && not (same_class m.class (class.Project number))
  is_refused (Distant m) = is_final m

  abbrev pub assigns_refused : JavaUse → Bool
  assigns_refused (Assigns v p) = is_refused v
  assigns_refused (Reads v p) = false
  assigns_refused (Reaches p) = false

  abbrev pub assigned_from_afar : JavaAct → List JavaUse
  assigned_from_afar x = filter assigns_refused (stands x)
