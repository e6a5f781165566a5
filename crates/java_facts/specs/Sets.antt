-- Whether a field without initializer is set before it is read (JLS 16).
use Rattle.std.specs.Prelude.{ℕ, Bool, true, false, ◌&&◌, List, [], ◌∷◌, if◌then◌else◌}
use Rattle.java_typed.specs.declared.members.MemberRef.{MemberRef}
use Rattle.java_typed.specs.declared.units.TField.{TField}
use Rattle.java_typed.specs.declared.units.TConstructor.{TConstructor}
use Rattle.java_typed.specs.declared.units.TClass.{TClass}
use Rattle.flow.specs.Acts.{Then, Does}
use Rattle.flow.specs.Analyses.{Reads}
use Rattle.java_flow.specs.Variables.{Variable, Local, Simple, OfThis, Distant, JavaAct, is_field, same_member}
use Rattle.java_flow.specs.Fields.{member, static_part, constructor_does, is_behind_this}
use Rattle.java_flow.specs.Faults.{unassigned_reads}
use Rattle.java_flow.specs.Locals.{is_empty}

-- `this.f` counts as `f`, and of a static so does `C.f`, whatever class is named before it
abbrev pub is_static_field : MemberRef → Variable → Bool
is_static_field m (Simple n) = same_member m n
is_static_field m (OfThis n) = same_member m n
is_static_field m (Distant n) = same_member m n
is_static_field m (Local name) = false

-- the class's place among all classes, and what the bodies of anonymous classes do later
module _ (number : ℕ) (inner : ℕ → JavaAct) (c : TClass) where
  -- it is assigned at each read and at the end
  abbrev pub is_assigned : (Variable → Bool) → MemberRef → TField → JavaAct → Bool
  is_assigned is m f x = is_empty (unassigned_reads is false (Then x (Does (Reads (Simple m) f.at))))

  -- in each constructor that doesn't begin with `this(..)`
  abbrev pub each_assigns : ℕ → TField → List TConstructor → Bool
  each_assigns place f [] = true
  each_assigns place f (k ∷ more) = (if is_behind_this number inner c k.call then true else is_assigned (is_field (member number inner c place)) (member number inner c place) f (constructor_does number inner c k k.call)) && each_assigns place f more

  abbrev pub is_set : ℕ → TField → Bool
  is_set place f = if f.modifiers.is_static then is_assigned (is_static_field (member number inner c place)) (member number inner c place) f (static_part number inner c) else each_assigns place f c.constructors
