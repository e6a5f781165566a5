-- What one use does to the locals and the scopes.
use Rattle.std.proofs.Common.{◌≡◌, ℕ, suc, Bool, true, false, List, [], ◌∷◌, ◌++◌, cond, not, ◌||◌, refl, ap, sym, ◌∙◌, length, take}
use Rattle.std.specs.Prelude.{reverse}
use Rattle.std.proofs.lemmas.List.{reverse-append}
use Rattle.java_tree.specs.declared.tokens.Position.{Position}
use Rattle.java_name_uses.specs.declared.uses.Sign.{Sign}
use Rattle.java_name_uses.specs.declared.uses.Sign.TheVariants as sign
use Rattle.java_name_uses.specs.declared.uses.Word.{Word}
use Rattle.java_name_uses.specs.declared.uses.Word.TheVariants as w
use Rattle.java_name_uses.specs.declared.uses.Naming.{Naming}
use Rattle.java_name_uses.specs.declared.uses.Naming.TheVariants as n
use Rattle.java_name_uses.specs.declared.uses.Use.{Use}
use Rattle.java_name_uses.specs.declared.uses.Use.TheVariants as use_
use Rattle.java_type_names.specs.declared.places.Place.{Place}
use Rattle.java_type_names.specs.declared.places.Place.TheVariants as p
use Rattle.java_scopes.specs.declared.states.Answer.{Answer}
use Rattle.java_scopes.specs.declared.states.Answer.TheVariants as a
use Rattle.java_scopes.specs.declared.states.Current.{Current}
use Rattle.java_scopes.specs.declared.states.Current.TheVariants as c
use Rattle.java_scopes.specs.declared.states.Frame.{Frame}
use Rattle.java_scopes.specs.declared.states.Frame.TheVariants as f
use Rattle.java_scopes.specs.declared.states.Opened.{Opened}
use Rattle.java_scopes.specs.declared.states.State.{State}
use Rattle.java_scopes.specs.Scopes.{Setting, Locals, now, with_locals, at_fault, fault_where, has_local, closed_by, has_no_object, answered, begun, extended, field_or_type, expression, selected, selected_method, is_later, called, used, type_first, type_part, type_end, variable, has_label, in_lambda, may_break, may_continue, may_jump, opened, signed, object, worded, named, step}
use Rattle.java_name_meanings.specs.Extents.{behind_use, one_less}

-- the locals, and the scopes, the innermost first
abbrev pub Shape : Type 0
Shape = Locals × List Opened

abbrev pub shape : State → Shape
shape s = (s.locals, reverse s.frames)

abbrev pub ended : Shape → Shape
ended (locals, []) = (locals, [])
ended (locals, o ∷ frames) = (take o.locals locals, frames)

abbrev Same : State → State → Type 0
Same s t = shape t ≡ shape s

twice : (xs : List Opened) → reverse (reverse xs) ≡ xs
twice [] = refl
twice (x ∷ xs) = ap reverse (reverse-append (x ∷ []) xs) ∙ reverse-append (reverse xs) (x ∷ []) ∙ ap (λ l. x ∷ l) (twice xs)

pub data Effect (s : Shape) (x : Use) (t : Shape) : Type 0 where
  Stay : ((depth : ℕ) → behind_use depth x ≡ depth) → t ≡ s → Effect s x t
  Begin : (o : Opened) → o.locals ≡ length s.0 → ((depth : ℕ) → behind_use depth x ≡ suc depth) → t ≡ (s.0, o ∷ s.1) → Effect s x t
  End : ((depth : ℕ) → behind_use depth x ≡ one_less depth) → t ≡ ended s → Effect s x t
  Come : (name : List ℕ) (at : Position) → x ≡ use_.Name n.Variable name at → t ≡ (s.0 ++ (name, at) ∷ [], s.1) → Effect s x t

one_of : (s : State) (b : Bool) (x y : State) → Same s x → Same s y → Same s (cond b x y)
one_of s true x y h k = h
one_of s false x y h k = k

module _ (g : Setting) where
  where_same : (s : State) (b : Bool) (at : Position) (code : ℕ) → Same s (fault_where g b at code s)
  where_same s true at code = refl
  where_same s false at code = refl

  answered_same : (s : State) (at : Position) (missing : Bool) (x : Answer) → Same s (answered g s at missing x)
  answered_same s at missing a.Absent = refl
  answered_same s at missing a.Static = refl
  answered_same s at missing a.Instance = one_of s missing (at_fault g s at 1) (now s c.Value) refl refl
  answered_same s at missing a.Several = refl
  answered_same s at missing a.Open = refl

  begun_same : (s : State) (text : List ℕ) (at : Position) (x : Place) → Same s (begun g s text at x)
  begun_same s text at (p.Lost lost) = refl
  begun_same s text at (p.Ambiguous lost) = refl
  begun_same s text at p.Package = refl
  begun_same s text at (p.Class class) = refl

  field_same : (s : State) (name : List ℕ) (at : Position) (x : Answer) → Same s (field_or_type g s name at x)
  field_same s name at a.Absent = begun_same s name at (g.first_type name at)
  field_same s name at a.Static = refl
  field_same s name at a.Instance = answered_same s at (has_no_object g s.frames) a.Instance
  field_same s name at a.Several = refl
  field_same s name at a.Open = refl

  expression_same : (s : State) (name : List ℕ) (at : Position) → Same s (expression g s name at)
  expression_same s name at = one_of s (has_local name s.locals) (now s c.Value) (field_or_type g s name at (g.field name)) refl (field_same s name at (g.field name))

  extended_same : (s : State) (place : Place) (name : List ℕ) (at : Position) → Same s (extended g s place name at)
  extended_same s place name at = begun_same s _ at (g.next_part s.text place name at)

  selected_same : (s : State) (name : List ℕ) (at : Position) (x : Current) → Same s (selected g s name at x)
  selected_same s name at c.Value = refl
  selected_same s name at c.Unknown = refl
  selected_same s name at c.Super = refl
  selected_same s name at c.This = answered_same s at false (g.field name)
  selected_same s name at (c.Begun p.Package last) = extended_same s p.Package name at
  selected_same s name at (c.Begun (p.Class class) last) = answered_same s at true (g.class_field class name)
  selected_same s name at (c.Begun (p.Lost lost) last) = refl
  selected_same s name at (c.Begun (p.Ambiguous lost) last) = refl

  method_same : (s : State) (name : List ℕ) (at : Position) (x : Current) → Same s (selected_method g s name at x)
  method_same s name at c.Value = refl
  method_same s name at c.Unknown = refl
  method_same s name at c.Super = refl
  method_same s name at c.This = answered_same s at false (g.method name)
  method_same s name at (c.Begun p.Package last) = refl
  method_same s name at (c.Begun (p.Class class) last) = answered_same s at true (g.class_method class name)
  method_same s name at (c.Begun (p.Lost lost) last) = refl
  method_same s name at (c.Begun (p.Ambiguous lost) last) = refl

  called_same : (s : State) (name : List ℕ) (at : Position) (meant : State) → Same s meant → Same s (called g s name at meant)
  called_same s name at meant h = one_of s (is_later name) (at_fault g s at 0) meant refl h

  used_same : (s : State) (x : Current) → Same s (used g s x)
  used_same s (c.Begun place last) = refl
  used_same s c.Value = refl
  used_same s c.This = refl
  used_same s c.Super = refl
  used_same s c.Unknown = refl

  type_first_same : (s : State) (name : List ℕ) (at : Position) → Same s (type_first g s name at)
  type_first_same s name at =
      one_of s (g.is_type_parameter name) (cond g.is_static (at_fault g s at 1) (now s c.Value)) (begun g s name at (g.first_type name at))
      (one_of s g.is_static (at_fault g s at 1) (now s c.Value) refl refl) (begun_same s name at (g.first_type name at))

  type_part_same : (s : State) (name : List ℕ) (at : Position) (x : Current) → Same s (type_part g s name at x)
  type_part_same s name at (c.Begun place last) = extended_same s place name at
  type_part_same s name at c.Value = refl
  type_part_same s name at c.This = refl
  type_part_same s name at c.Super = refl
  type_part_same s name at c.Unknown = refl

  type_end_same : (s : State) (x : Current) → Same s (type_end g s x)
  type_end_same s (c.Begun p.Package last) = refl
  type_end_same s (c.Begun (p.Class class) last) = refl
  type_end_same s (c.Begun (p.Lost lost) last) = refl
  type_end_same s (c.Begun (p.Ambiguous lost) last) = refl
  type_end_same s c.Value = refl
  type_end_same s c.This = refl
  type_end_same s c.Super = refl
  type_end_same s c.Unknown = refl

  object_same : (s : State) (x : Current) (at : Position) → Same s (object g s x at)
  object_same s x at = one_of s (has_no_object g s.frames) (at_fault g s at 1) (now s x) refl refl

  worded_same : (s : State) (x : Word) (at : Position) → Same s (worded g s x at)
  worded_same s w.This at = object_same s c.This at
  worded_same s w.Super at = object_same s c.Super at
  worded_same s w.Break at = where_same s (not (may_break false s.frames)) at 1
  worded_same s w.Continue at = where_same s (not (may_continue false s.frames)) at 1
  worded_same s w.Return at = where_same s (not (g.may_return || in_lambda s.frames)) at 1
  worded_same s w.NotBuilt at = refl

  closed_effect : (s : State) (frames : List Opened) → reverse s.frames ≡ frames → Effect (shape s) (use_.Sign sign.Close) (shape (closed_by s frames))
  closed_effect s [] is = End (λ depth. refl) (ap (λ fs. (s.locals, fs)) is ∙ sym (ap (λ fs. ended (s.locals, fs)) is))
  closed_effect s (last ∷ before) is =
      End (λ depth. refl) (ap (λ fs. (take last.locals s.locals, fs)) (twice before) ∙ sym (ap (λ fs. ended (s.locals, fs)) is))

  opened_shape : (s : State) (frame : Frame) → shape (opened frame s) ≡ (s.locals, record { frame = frame; locals = length s.locals } ∷ reverse s.frames)
  opened_shape s frame = ap (λ fs. (s.locals, fs)) (reverse-append s.frames (record { frame = frame; locals = length s.locals } ∷ []))

  begins : (s : State) (x : Use) (frame : Frame) → ((depth : ℕ) → behind_use depth x ≡ suc depth) → Effect (shape s) x (shape (opened frame s))
  begins s x frame one = Begin (record { frame = frame; locals = length s.locals }) refl one (opened_shape s frame)

  signed_effect : (s : State) (x : Sign) → Effect (shape s) (use_.Sign x) (shape (signed g s x))
  signed_effect s sign.Open = begins s (use_.Sign sign.Open) f.Block (λ depth. refl)
  signed_effect s sign.OpenLoop = begins s (use_.Sign sign.OpenLoop) f.Loop (λ depth. refl)
  signed_effect s sign.OpenSwitch = begins s (use_.Sign sign.OpenSwitch) f.Switch (λ depth. refl)
  signed_effect s sign.OpenLambda = begins s (use_.Sign sign.OpenLambda) f.Lambda (λ depth. refl)
  signed_effect s sign.OpenArguments = begins s (use_.Sign sign.OpenArguments) f.Arguments (λ depth. refl)
  signed_effect s sign.Close = closed_effect s (reverse s.frames) refl
  signed_effect s sign.Value = Stay (λ depth. refl) (used_same s s.current)
  signed_effect s sign.TypeEnd = Stay (λ depth. refl) (type_end_same s s.current)
  signed_effect s sign.Block = Stay (λ depth. refl) refl
  signed_effect s sign.Skipped = Stay (λ depth. refl) refl

  module _ (s : State) (name : List ℕ) (at : Position) where
    abbrev one_more : State
    one_more = with_locals s (s.locals ++ (name, at) ∷ [])

    pub declared_shape : has_local name s.locals ≡ false → shape (variable g s name at) ≡ (s.locals ++ (name, at) ∷ [], reverse s.frames)
    declared_shape h =
        where_same (cond (has_local name s.locals) (at_fault g s at 2) one_more) (g.is_reserved name) at 5
        ∙ ap (λ b. shape (cond b (at_fault g s at 2) one_more)) h

    variable_effect : (b : Bool) → has_local name s.locals ≡ b → Effect (shape s) (use_.Name n.Variable name at) (shape (variable g s name at))
    variable_effect true h =
        Stay (λ depth. refl) (where_same (cond (has_local name s.locals) (at_fault g s at 2) one_more) (g.is_reserved name) at 5
        ∙ ap (λ b. shape (cond b (at_fault g s at 2) one_more)) h)
    variable_effect false h = Come name at refl (declared_shape h)

  label_effect : (s : State) (name : List ℕ) (at : Position) (b : Bool) →
      Effect (shape s) (use_.Name n.Label name at) (shape (opened (f.Label name) (fault_where g b at 2 s)))
  label_effect s name at true = Begin (record { frame = f.Label name; locals = length s.locals }) refl (λ depth. refl) (opened_shape s (f.Label name))
  label_effect s name at false = Begin (record { frame = f.Label name; locals = length s.locals }) refl (λ depth. refl) (opened_shape s (f.Label name))

  named_effect : (s : State) (x : Naming) (name : List ℕ) (at : Position) → Effect (shape s) (use_.Name x name at) (shape (named g s x name at))
  named_effect s n.Type name at = Stay (λ depth. refl) (type_first_same s name at)
  named_effect s n.TypePart name at = Stay (λ depth. refl) (type_part_same s name at s.current)
  named_effect s n.Expression name at = Stay (λ depth. refl) (expression_same s name at)
  named_effect s n.Selected name at = Stay (λ depth. refl) (selected_same s name at s.current)
  named_effect s n.Method name at =
      Stay (λ depth. refl) (called_same s name at (answered g s at (has_no_object g s.frames) (g.method name)) (answered_same s at (has_no_object g s.frames) (g.method name)))
  named_effect s n.SelectedMethod name at = Stay (λ depth. refl) (called_same s name at (selected_method g s name at s.current) (method_same s name at s.current))
  named_effect s n.SuperMethod name at = Stay (λ depth. refl) (called_same s name at (answered g s at false (g.super_method name)) (answered_same s at false (g.super_method name)))
  named_effect s n.Variable name at = variable_effect s name at (has_local name s.locals) refl
  named_effect s n.Label name at = label_effect s name at (has_label name s.frames)
  named_effect s n.BreakTo name at = Stay (λ depth. refl) (where_same s (not (may_jump name false false s.frames)) at 1)
  named_effect s n.ContinueTo name at = Stay (λ depth. refl) (where_same s (not (may_jump name true false s.frames)) at 1)

  pub effect : (s : State) (x : Use) → Effect (shape s) x (shape (step g s x))
  effect s (use_.Sign x) = signed_effect s x
  effect s (use_.Word x at) = Stay (λ depth. refl) (worded_same s x at)
  effect s (use_.Name x name at) = named_effect s x name at
