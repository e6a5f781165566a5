-- What a name of a body may mean (JLS 6.5), by what is in scope there.
use Rattle.std.specs.Prelude.{◌≡◌, ◌⊎◌, ◌||◌, ℕ, Bool, true, false, List, [], ◌∷◌}
use Rattle.java_tree.specs.declared.tokens.Position.{Position}
use Rattle.java_name_uses.specs.declared.uses.Sign.{Sign}
use Rattle.java_name_uses.specs.declared.uses.Sign.TheVariants as sign
use Rattle.java_name_uses.specs.declared.uses.Word.{Word}
use Rattle.java_name_uses.specs.declared.uses.Word.TheVariants as w
use Rattle.java_name_uses.specs.declared.uses.Naming.{Naming}
use Rattle.java_name_uses.specs.declared.uses.Naming.TheVariants as n
use Rattle.java_name_uses.specs.declared.uses.Use.{Use}
use Rattle.java_name_uses.specs.declared.uses.Use.TheVariants as use_
use Rattle.java_type_names.specs.declared.places.Place.{Place}
use Rattle.java_type_names.specs.declared.places.Place.TheVariants as p
use Rattle.java_scopes.specs.declared.states.Answer.{Answer}
use Rattle.java_scopes.specs.declared.states.Answer.TheVariants as a
use Rattle.java_scopes.specs.declared.states.Current.{Current}
use Rattle.java_scopes.specs.declared.states.Current.TheVariants as c
use Rattle.java_scopes.specs.declared.states.State.{State}
use Rattle.java_scopes.specs.Scopes.{Setting, has_label, has_local, has_no_object, in_lambda, is_later, may_break, may_continue, may_jump, step}

-- one member of the name, which may be named where there is no object only if it is static; of a class that isn't built yet any
abbrev pub IsMember : Bool → Answer → Type 0
IsMember no_object a.Static = Unit {0}
IsMember no_object a.Instance = no_object ≡ false
IsMember no_object a.Open = Unit {0}
IsMember no_object a.Absent = ⊥
IsMember no_object a.Several = ⊥

-- one class, or a package
abbrev pub IsPlace : Place → Type 0
IsPlace p.Package = Unit {0}
IsPlace (p.Class class) = Unit {0}
IsPlace (p.Lost lost) = ⊥
IsPlace (p.Ambiguous lost) = ⊥

-- what was read is a value: no package and no class (JLS 6.5.1)
abbrev pub IsValue : Current → Type 0
IsValue (c.Begun place last) = ⊥
IsValue _ = Unit {0}

-- the name of a type ended at a class (JLS 6.5.5)
abbrev pub IsTypeName : Current → Type 0
IsTypeName (c.Begun p.Package last) = ⊥
IsTypeName _ = Unit {0}

-- of what stands alone, an expression is a value and a type a class
abbrev pub IsSigned : State → Sign → Type 0
IsSigned s sign.Value = IsValue s.current
IsSigned s sign.TypeEnd = IsTypeName s.current
IsSigned s _ = Unit {0}

-- a field, and where there is none of the name a class or a package
abbrev pub IsFieldOr : Bool → Place → Answer → Type 0
IsFieldOr no_object place a.Absent = IsPlace place
IsFieldOr no_object place found = IsMember no_object found

module _ (g : Setting) (s : State) where
  -- a local in scope, else a field, else a class or a package (JLS 6.4.1, 6.5.2)
  abbrev pub IsExpression : List ℕ → Position → Type 0
  IsExpression name at = (has_local name s.locals ≡ true) ⊎ IsFieldOr (has_no_object g s.frames) (g.first_type name at) (g.field name)

  -- behind a value it is found with the types
  abbrev pub IsSelected : List ℕ → Position → Current → Type 0
  IsSelected name at c.This = IsMember false (g.field name)
  IsSelected name at (c.Begun p.Package last) = IsPlace (g.next_part s.text p.Package name at)
  IsSelected name at (c.Begun (p.Class class) last) = IsMember true (g.class_field class name)
  IsSelected name at _ = Unit {0}

  abbrev pub IsSelectedMethod : List ℕ → Current → Type 0
  IsSelectedMethod name c.This = IsMember false (g.method name)
  IsSelectedMethod name (c.Begun p.Package last) = ⊥
  IsSelectedMethod name (c.Begun (p.Class class) last) = IsMember true (g.class_method class name)
  IsSelectedMethod name _ = Unit {0}

  -- a type parameter, which nothing static sees, or a class or a package (JLS 6.5.5, 8.1.2)
  abbrev pub IsType : List ℕ → Position → Type 0
  IsType name at = ((g.is_type_parameter name ≡ true) × (g.is_static ≡ false)) ⊎ IsPlace (g.first_type name at)

  -- behind a class stands nothing
  abbrev pub IsTypePart : List ℕ → Position → Current → Type 0
  IsTypePart name at (c.Begun place last) = IsPlace (g.next_part s.text place name at)
  IsTypePart name at c.Value = ⊥
  IsTypePart name at _ = Unit {0}

  -- A method is one that is taken. A variable or a label is new in its scope, and a jump has its target (JLS 6.4, 14.7, 14.15,
  -- 14.16).
  abbrev pub IsNamed : Naming → List ℕ → Position → Type 0
  IsNamed n.Type name at = IsType name at
  IsNamed n.TypePart name at = IsTypePart name at s.current
  IsNamed n.Expression name at = IsExpression name at
  IsNamed n.Selected name at = IsSelected name at s.current
  IsNamed n.Method name at = (is_later name ≡ false) × IsMember (has_no_object g s.frames) (g.method name)
  IsNamed n.SelectedMethod name at = (is_later name ≡ false) × IsSelectedMethod name s.current
  IsNamed n.SuperMethod name at = (is_later name ≡ false) × IsMember false (g.super_method name)
  IsNamed n.Variable name at = (has_local name s.locals ≡ false) × (g.is_reserved name ≡ false)
  IsNamed n.Label name at = has_label name s.frames ≡ false
  IsNamed n.BreakTo name at = may_jump name false false s.frames ≡ true
  IsNamed n.ContinueTo name at = may_jump name true false s.frames ≡ true

  -- `this` and `super` have an object, a jump its target, and a `return` a method, a constructor or a lambda (JLS 14.17, 15.8.3)
  abbrev pub IsWord : Word → Type 0
  IsWord w.This = has_no_object g s.frames ≡ false
  IsWord w.Super = has_no_object g s.frames ≡ false
  IsWord w.Break = may_break false s.frames ≡ true
  IsWord w.Continue = may_continue false s.frames ≡ true
  IsWord w.Return = (g.may_return || in_lambda s.frames) ≡ true
  IsWord w.NotBuilt = ⊥

  -- a use has a meaning
  abbrev pub IsMeant : Use → Type 0
  IsMeant (use_.Sign x) = IsSigned s x
  IsMeant (use_.Word x at) = IsWord x
  IsMeant (use_.Name x name at) = IsNamed x name at

-- each use of a text, from what is in scope before it
abbrev pub AllMeant : Setting → State → List Use → Type 0
AllMeant g s [] = Unit {0}
AllMeant g s (x ∷ xs) = IsMeant g s x × AllMeant g (step g s x) xs
