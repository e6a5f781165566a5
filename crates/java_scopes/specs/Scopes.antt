-- What is in scope at each name of a body, and the faults of the names (JLS 6.3 to 6.5, 14.7, 14.15 to 14.17).
use Rattle.std.specs.Prelude.{◌≡◌, ℕ, Bool, true, false, ◌||◌, not, if◌then◌else◌, List, [], ◌∷◌, ◌++◌, length, take, reverse, is_some, codes}
use Rattle.std.specs.Str.{bytes_eq}
use Rattle.std.specs.List.{list_any}
use Rattle.java_tree.specs.declared.tokens.Position.{Position}
use Rattle.java_name_uses.specs.declared.uses.Sign.{Sign}
use Rattle.java_name_uses.specs.declared.uses.Sign.TheVariants as sign
use Rattle.java_name_uses.specs.declared.uses.Word.{Word}
use Rattle.java_name_uses.specs.declared.uses.Word.TheVariants as w
use Rattle.java_name_uses.specs.declared.uses.Naming.{Naming}
use Rattle.java_name_uses.specs.declared.uses.Naming.TheVariants as n
use Rattle.java_name_uses.specs.declared.uses.Use.{Use}
use Rattle.java_name_uses.specs.declared.uses.Use.TheVariants as use_
use Rattle.java_classes.specs.declared.faults.NameFault.{NameFault}
use Rattle.java_type_names.specs.declared.classes.Meant.{Meant}
use Rattle.java_type_names.specs.declared.places.Place.{Place}
use Rattle.java_type_names.specs.declared.places.Place.TheVariants as p
use Rattle.java_tables.specs.Names.{declared}
use Rattle.java_scopes.specs.declared.states.Frame.{Frame}
use Rattle.java_scopes.specs.declared.states.Frame.TheVariants as f
use Rattle.java_scopes.specs.declared.states.Opened.{Opened}
use Rattle.java_scopes.specs.declared.states.Answer.{Answer}
use Rattle.java_scopes.specs.declared.states.Answer.TheVariants as a
use Rattle.java_scopes.specs.declared.states.Current.{Current}
use Rattle.java_scopes.specs.declared.states.Current.TheVariants as c
use Rattle.java_scopes.specs.declared.states.State.{State}

-- what the class around a body, its file and its project tell
pub record Setting : Type 0 where
  pub unit : ℕ
  -- no object of the class (JLS 8.1.3, 15.8.3)
  pub is_static : Bool
  -- a method, a constructor or a lambda's body, and no initializer (JLS 14.17)
  pub may_return : Bool
  -- a variable may not have the name (own rule)
  pub is_reserved : List ℕ → Bool
  pub is_type_parameter : List ℕ → Bool
  pub first_type : List ℕ → Position → Place
  pub next_part : List ℕ → Place → List ℕ → Position → Place
  -- a member of the class by its name (JLS 8.2, 9.2)
  pub field : List ℕ → Answer
  pub method : List ℕ → Answer
  -- a method of what stands above the class
  pub super_method : List ℕ → Answer
  -- a member of another class by its name, where it may be seen from here (JLS 6.6)
  pub class_field : Meant → List ℕ → Answer
  pub class_method : Meant → List ℕ → Answer

-- ---- states

-- locals with the places of their declarations
abbrev pub Locals : Type 0
Locals = List (List ℕ × Position)

abbrev pub now : State → Current → State
now s current = record s { current = current }

abbrev pub with_locals : State → Locals → State
with_locals s locals = record s { locals = locals; current = c.Value }

abbrev pub with_frames : State → List Opened → State
with_frames s frames = record s { frames = frames; current = c.Value }

-- a fault at a place
abbrev pub at_fault : Setting → State → Position → ℕ → State
at_fault g s at code = record s { faults = s.faults ++ record { unit = g.unit; at = at; number = code } ∷ []; current = c.Unknown }

abbrev pub fault_where : Setting → Bool → Position → ℕ → State → State
fault_where g is at code s = if is then at_fault g s at code else s

abbrev pub has_local : List ℕ → Locals → Bool
has_local name locals = is_some (declared name locals)

-- ---- scopes that open and close

abbrev pub opened : Frame → State → State
opened frame s = with_frames s (s.frames ++ record { frame = frame; locals = length s.locals } ∷ [])

-- the innermost scope ends, and the locals of it (JLS 6.3)
abbrev pub closed_by : State → List Opened → State
closed_by s [] = s
closed_by s (last ∷ before) = record s { locals = take last.locals s.locals; frames = reverse before; current = c.Value }

abbrev pub closed : State → State
closed s = closed_by s (reverse s.frames)

-- the scope that was opened last is this one, and these locals were declared in it
abbrev pub is_behind : State → Frame → Locals → State → Type 0
is_behind s frame more inside =
    (inside.locals ≡ s.locals ++ more) × (inside.frames ≡ s.frames ++ record { frame = frame; locals = length s.locals } ∷ [])

-- ---- labels and jumps; the frames from the outside to the inside

-- a jump without a label may mean a loop or a switch around it, and leads out of no lambda (JLS 14.15, 15.27.2)
abbrev pub breaks : Bool → Frame → Bool
breaks out f.Loop = true
breaks out f.Switch = true
breaks out f.Lambda = false
breaks out f.Block = out
breaks out f.Arguments = out
breaks out (f.Label name) = out

abbrev pub may_break : Bool → List Opened → Bool
may_break out [] = out
may_break out (o ∷ more) = may_break (breaks out o.frame) more

-- a loop (JLS 14.16)
abbrev pub continues : Bool → Frame → Bool
continues out f.Loop = true
continues out f.Lambda = false
continues out f.Switch = out
continues out f.Block = out
continues out f.Arguments = out
continues out (f.Label name) = out

abbrev pub may_continue : Bool → List Opened → Bool
may_continue out [] = out
may_continue out (o ∷ more) = may_continue (continues out o.frame) more

abbrev pub is_loop : Frame → Bool
is_loop f.Loop = true
is_loop _ = false

-- what stands directly in a statement
abbrev pub begins_loop : List Opened → Bool
begins_loop [] = false
begins_loop (o ∷ more) = is_loop o.frame

-- whether a jump may mean the label, by what the frames further out tell and whether the jump finds what it needs in
-- the labeled statement
abbrev pub labels : List ℕ → Bool → Bool → Frame → Bool
labels name fits out (f.Label label) = if bytes_eq label name then fits else out
labels name fits out f.Lambda = false
labels name fits out f.Block = out
labels name fits out f.Loop = out
labels name fits out f.Switch = out
labels name fits out f.Arguments = out

-- a label around it, which of a `continue` is that of a loop (JLS 14.15, 14.16)
abbrev pub may_jump : List ℕ → Bool → Bool → List Opened → Bool
may_jump name needs_loop out [] = out
may_jump name needs_loop out (o ∷ more) = may_jump name needs_loop (labels name (not needs_loop || begins_loop more) out o.frame) more

abbrev pub is_label : List ℕ → Frame → Bool
is_label name (f.Label label) = bytes_eq label name
is_label name f.Block = false
is_label name f.Loop = false
is_label name f.Switch = false
is_label name f.Lambda = false
is_label name f.Arguments = false

-- in a labeled statement no other bears the label (JLS 14.7)
abbrev pub has_label : List ℕ → List Opened → Bool
has_label name frames = list_any (λ o. is_label name o.frame) frames

abbrev pub is_lambda : Frame → Bool
is_lambda f.Lambda = true
is_lambda _ = false

abbrev pub is_arguments : Frame → Bool
is_arguments f.Arguments = true
is_arguments _ = false

abbrev pub in_lambda : List Opened → Bool
in_lambda frames = list_any (λ o. is_lambda o.frame) frames

abbrev pub in_arguments : List Opened → Bool
in_arguments frames = list_any (λ o. is_arguments o.frame) frames

-- there is no object: in what is static, and in the arguments of `this(..)` and `super(..)` (JLS 8.1.3, 8.8.7.1)
abbrev pub has_no_object : Setting → List Opened → Bool
has_no_object g frames = g.is_static || in_arguments frames

-- ---- what a name means

-- a member by its simple name: an instance member needs an object (JLS 6.5.6.1, 15.12.3)
abbrev pub answered : Setting → State → Position → Bool → Answer → State
answered g s at no_object a.Absent = at_fault g s at 1
answered g s at no_object a.Static = now s c.Value
answered g s at no_object a.Instance = if no_object then at_fault g s at 1 else now s c.Value
answered g s at no_object a.Several = at_fault g s at 4
answered g s at no_object a.Open = now s c.Unknown

abbrev pub begun_by : Setting → State → Position → Place → State
begun_by g s at (p.Lost lost) = at_fault g s lost 1
begun_by g s at (p.Ambiguous lost) = at_fault g s lost 4
begun_by g s at p.Package = now s (c.Begun p.Package at)
begun_by g s at (p.Class class) = now s (c.Begun (p.Class class) at)

abbrev pub begun : Setting → State → List ℕ → Position → Place → State
begun g s text at place = begun_by g (record s { text = text }) at place

-- the first identifier where an expression may stand: a field in scope, else a class, else a package (JLS 6.5.2)
abbrev pub field_or_type : Setting → State → List ℕ → Position → Answer → State
field_or_type g s name at a.Absent = begun g s name at (g.first_type name at)
field_or_type g s name at found = answered g s at (has_no_object g s.frames) found

-- a local in scope shadows fields (JLS 6.4.1)
abbrev pub expression : Setting → State → List ℕ → Position → State
expression g s name at = if has_local name s.locals then now s c.Value else field_or_type g s name at (g.field name)

abbrev pub text_behind : List ℕ → List ℕ → List ℕ
text_behind text name = (text ++ codes ".") ++ name

-- one more identifier of such a name
abbrev pub extended : Setting → State → Place → List ℕ → Position → State
extended g s place name at = begun g s (text_behind s.text name) at (g.next_part s.text place name at)

-- behind a package stands a class or a package, behind a class a static field (JLS 6.5.6.2); a field of another value is
-- found with the types
abbrev pub selected : Setting → State → List ℕ → Position → Current → State
selected g s name at c.Value = now s c.Value
selected g s name at c.Unknown = now s c.Unknown
selected g s name at c.Super = now s c.Unknown
selected g s name at c.This = answered g s at false (g.field name)
selected g s name at (c.Begun p.Package last) = extended g s p.Package name at
selected g s name at (c.Begun (p.Class class) last) = answered g s at true (g.class_field class name)
selected g s name at (c.Begun (p.Lost lost) last) = now s c.Unknown
selected g s name at (c.Begun (p.Ambiguous lost) last) = now s c.Unknown

abbrev pub selected_method : Setting → State → List ℕ → Position → Current → State
selected_method g s name at c.Value = now s c.Value
selected_method g s name at c.Unknown = now s c.Value
selected_method g s name at c.Super = now s c.Value
selected_method g s name at c.This = answered g s at false (g.method name)
selected_method g s name at (c.Begun p.Package last) = at_fault g s last 1
selected_method g s name at (c.Begun (p.Class class) last) = answered g s at true (g.class_method class name)
selected_method g s name at (c.Begun (p.Lost lost) last) = now s c.Value
selected_method g s name at (c.Begun (p.Ambiguous lost) last) = now s c.Value

-- `wait`, `notify` and `notifyAll` aren't built yet
abbrev pub is_later : List ℕ → Bool
is_later name = bytes_eq name (codes "wait") || (bytes_eq name (codes "notify") || bytes_eq name (codes "notifyAll"))

abbrev pub called : Setting → State → List ℕ → Position → State → State
called g s name at meant = if is_later name then at_fault g s at 0 else meant

abbrev pub simple_call : Setting → State → List ℕ → Position → State
simple_call g s name at = called g s name at (answered g s at (has_no_object g s.frames) (g.method name))

abbrev pub selected_call : Setting → State → List ℕ → Position → State
selected_call g s name at = called g s name at (selected_method g s name at s.current)

abbrev pub super_call : Setting → State → List ℕ → Position → State
super_call g s name at = called g s name at (answered g s at false (g.super_method name))

-- a package or a class is no value (JLS 6.5.1)
abbrev pub used : Setting → State → Current → State
used g s (c.Begun place last) = at_fault g s last 1
used g s c.Value = now s c.Value
used g s c.This = now s c.Value
used g s c.Super = now s c.Value
used g s c.Unknown = now s c.Value

-- ---- types (JLS 6.5.5)

-- A type parameter is in scope in what isn't static (JLS 8.1.2).
abbrev pub type_first : Setting → State → List ℕ → Position → State
type_first g s name at =
    if g.is_type_parameter name then (if g.is_static then at_fault g s at 1 else now s c.Value) else begun g s name at (g.first_type name at)

abbrev pub type_part : Setting → State → List ℕ → Position → Current → State
type_part g s name at (c.Begun place last) = extended g s place name at
type_part g s name at c.Value = at_fault g s at 1
type_part g s name at c.This = now s c.Unknown
type_part g s name at c.Super = now s c.Unknown
type_part g s name at c.Unknown = now s c.Unknown

-- a package is no type
abbrev pub type_end : Setting → State → Current → State
type_end g s (c.Begun p.Package last) = now (at_fault g s last 1) c.Value
type_end g s _ = now s c.Value

-- ---- declarations

-- no local is declared in the scope of another of its name (JLS 6.4), the first is meant
abbrev pub variable : Setting → State → List ℕ → Position → State
variable g s name at =
    fault_where g (g.is_reserved name) at 5
    (if has_local name s.locals then at_fault g s at 2 else with_locals s (s.locals ++ (name, at) ∷ []))

abbrev pub labeled : Setting → State → List ℕ → Position → State
labeled g s name at = opened (f.Label name) (fault_where g (has_label name s.frames) at 2 s)

-- ---- one use after the other

abbrev pub signed : Setting → State → Sign → State
signed g s sign.Open = opened f.Block s
signed g s sign.OpenLoop = opened f.Loop s
signed g s sign.OpenSwitch = opened f.Switch s
signed g s sign.OpenLambda = opened f.Lambda s
signed g s sign.OpenArguments = opened f.Arguments s
signed g s sign.Close = closed s
signed g s sign.Value = used g s s.current
signed g s sign.TypeEnd = type_end g s s.current
signed g s sign.Block = s
signed g s sign.Skipped = s

-- `this` and `super` (JLS 15.8.3, 15.12.1)
abbrev pub object : Setting → State → Current → Position → State
object g s current at = if has_no_object g s.frames then at_fault g s at 1 else now s current

abbrev pub not_built : Setting → State → Position → State
not_built g s at = now (at_fault g s at 0) c.Value

-- to a label
abbrev pub jump : Setting → State → Bool → List ℕ → Position → State
jump g s needs_loop name at = fault_where g (not (may_jump name needs_loop false s.frames)) at 1 s

abbrev pub worded : Setting → State → Word → Position → State
worded g s w.This at = object g s c.This at
worded g s w.Super at = object g s c.Super at
worded g s w.Break at = fault_where g (not (may_break false s.frames)) at 1 s
worded g s w.Continue at = fault_where g (not (may_continue false s.frames)) at 1 s
worded g s w.Return at = fault_where g (not (g.may_return || in_lambda s.frames)) at 1 s
worded g s w.NotBuilt at = not_built g s at

abbrev pub named : Setting → State → Naming → List ℕ → Position → State
named g s n.Type name at = type_first g s name at
named g s n.TypePart name at = type_part g s name at s.current
named g s n.Expression name at = expression g s name at
named g s n.Selected name at = selected g s name at s.current
named g s n.Method name at = simple_call g s name at
named g s n.SelectedMethod name at = selected_call g s name at
named g s n.SuperMethod name at = super_call g s name at
named g s n.Variable name at = variable g s name at
named g s n.Label name at = labeled g s name at
named g s n.BreakTo name at = jump g s false name at
named g s n.ContinueTo name at = jump g s true name at

abbrev pub step : Setting → State → Use → State
step g s (use_.Sign x) = signed g s x
step g s (use_.Word x at) = worded g s x at
step g s (use_.Name x name at) = named g s x name at

-- what is in scope, and what is at fault, behind a text
abbrev pub run : Setting → State → List Use → State
run g s [] = s
run g s (x ∷ xs) = run g (step g s x) xs

-- before a body
abbrev pub first : State
first = record { locals = []; frames = []; current = c.Value; text = []; faults = [] }

-- the faults of the names of a body
abbrev pub faults_of : Setting → List Use → List NameFault
faults_of g xs = (run g first xs).faults
