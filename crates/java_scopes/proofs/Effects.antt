-- What one use of a name does to the locals in scope.
use Rattle.std.proofs.Common.{◌≡◌, ℕ, zero, suc, Bool, true, false, List, [], ◌∷◌, ◌++◌, ◌⊎◌, inl, inr, Option, Some, None, take, cond, refl, ap, sym, subst, ◌∙◌}
use Rattle.std.specs.Prelude.{reverse, is_some}
use Rattle.std.specs.Str.{bytes_eq}
use Rattle.std.specs.Option.{option_or}
use Rattle.std.proofs.lemmas.Slice.Eq.{bytes_eq-Decides}
use Rattle.java_tree.specs.declared.tokens.Position.{Position}
use Rattle.java_tables.specs.Names.{declared}
use Rattle.java_tables.proofs.LawsToCite.{declared-append}
use Rattle.java_name_uses.specs.declared.uses.Sign.{Sign}
use Rattle.java_name_uses.specs.declared.uses.Sign.TheVariants as sign
use Rattle.java_name_uses.specs.declared.uses.Word.{Word}
use Rattle.java_name_uses.specs.declared.uses.Word.TheVariants as w
use Rattle.java_name_uses.specs.declared.uses.Naming.{Naming}
use Rattle.java_name_uses.specs.declared.uses.Naming.TheVariants as n
use Rattle.java_name_uses.specs.declared.uses.Use.{Use}
use Rattle.java_name_uses.specs.declared.uses.Use.TheVariants as use_
use Rattle.java_type_names.specs.declared.places.Place.{Place}
use Rattle.java_type_names.specs.declared.places.Place.TheVariants as p
use Rattle.java_scopes.specs.declared.states.Answer.{Answer}
use Rattle.java_scopes.specs.declared.states.Answer.TheVariants as a
use Rattle.java_scopes.specs.declared.states.Current.{Current}
use Rattle.java_scopes.specs.declared.states.Current.TheVariants as c
use Rattle.java_scopes.specs.declared.states.Opened.{Opened}
use Rattle.java_scopes.specs.declared.states.State.{State}
use Rattle.java_scopes.specs.Scopes.{Setting, Locals, now, with_locals, at_fault, fault_where, has_local, closed_by, has_no_object, answered, begun, extended, field_or_type, expression, selected, selected_method, is_later, called, used, type_first, type_part, type_end, variable, has_label, signed, object, worded, named, step, run, first}
use Rattle.java_scopes.specs.Locals.{IsIn, AreApart}

-- ---- the locals stay, the last of them go, or one comes

abbrev Same : State → State → Type 0
Same s t = t.locals ≡ s.locals

data Effect (s : State) (x : Use) (t : State) : Type 0 where
  Stay : Same s t → Effect s x t
  Leave : (k : ℕ) → t.locals ≡ take k s.locals → Effect s x t
  Come : (name : List ℕ) (at : Position) → x ≡ use_.Name n.Variable name at → has_local name s.locals ≡ false → t.locals ≡ s.locals ++ (name, at) ∷ [] → Effect s x t

one_of : (s : State) (b : Bool) (x y : State) → Same s x → Same s y → Same s (cond b x y)
one_of s true x y h k = h
one_of s false x y h k = k

module _ (g : Setting) where
  where_same : (s : State) (b : Bool) (at : Position) (code : ℕ) → Same s (fault_where g b at code s)
  where_same s true at code = refl
  where_same s false at code = refl

  answered_same : (s : State) (at : Position) (missing : Bool) (x : Answer) → Same s (answered g s at missing x)
  answered_same s at missing a.Absent = refl
  answered_same s at missing a.Static = refl
  answered_same s at missing a.Instance = one_of s missing (at_fault g s at 1) (now s c.Value) refl refl
  answered_same s at missing a.Several = refl
  answered_same s at missing a.Open = refl

  begun_same : (s : State) (text : List ℕ) (at : Position) (x : Place) → Same s (begun g s text at x)
  begun_same s text at (p.Lost lost) = refl
  begun_same s text at (p.Ambiguous lost) = refl
  begun_same s text at p.Package = refl
  begun_same s text at (p.Class class) = refl

  field_same : (s : State) (name : List ℕ) (at : Position) (x : Answer) → Same s (field_or_type g s name at x)
  field_same s name at a.Absent = begun_same s name at (g.first_type name at)
  field_same s name at a.Static = refl
  field_same s name at a.Instance = answered_same s at (has_no_object g s.frames) a.Instance
  field_same s name at a.Several = refl
  field_same s name at a.Open = refl

  expression_same : (s : State) (name : List ℕ) (at : Position) → Same s (expression g s name at)
  expression_same s name at = one_of s (has_local name s.locals) (now s c.Value) (field_or_type g s name at (g.field name)) refl (field_same s name at (g.field name))

  extended_same : (s : State) (place : Place) (name : List ℕ) (at : Position) → Same s (extended g s place name at)
  extended_same s place name at = begun_same s _ at (g.next_part s.text place name at)

  selected_same : (s : State) (name : List ℕ) (at : Position) (x : Current) → Same s (selected g s name at x)
  selected_same s name at c.Value = refl
  selected_same s name at c.Unknown = refl
  selected_same s name at c.Super = refl
  selected_same s name at c.This = answered_same s at false (g.field name)
  selected_same s name at (c.Begun p.Package last) = extended_same s p.Package name at
  selected_same s name at (c.Begun (p.Class class) last) = answered_same s at true (g.class_field class name)
  selected_same s name at (c.Begun (p.Lost lost) last) = refl
  selected_same s name at (c.Begun (p.Ambiguous lost) last) = refl

  method_same : (s : State) (name : List ℕ) (at : Position) (x : Current) → Same s (selected_method g s name at x)
  method_same s name at c.Value = refl
  method_same s name at c.Unknown = refl
  method_same s name at c.Super = refl
  method_same s name at c.This = answered_same s at false (g.method name)
  method_same s name at (c.Begun p.Package last) = refl
  method_same s name at (c.Begun (p.Class class) last) = answered_same s at true (g.class_method class name)
  method_same s name at (c.Begun (p.Lost lost) last) = refl
  method_same s name at (c.Begun (p.Ambiguous lost) last) = refl

  called_same : (s : State) (name : List ℕ) (at : Position) (meant : State) → Same s meant → Same s (called g s name at meant)
  called_same s name at meant h = one_of s (is_later name) (at_fault g s at 0) meant refl h

  used_same : (s : State) (x : Current) → Same s (used g s x)
  used_same s (c.Begun place last) = refl
  used_same s c.Value = refl
  used_same s c.This = refl
  used_same s c.Super = refl
  used_same s c.Unknown = refl

  type_first_same : (s : State) (name : List ℕ) (at : Position) → Same s (type_first g s name at)
  type_first_same s name at =
      one_of s (g.is_type_parameter name) (cond g.is_static (at_fault g s at 1) (now s c.Value)) (begun g s name at (g.first_type name at))
      (one_of s g.is_static (at_fault g s at 1) (now s c.Value) refl refl) (begun_same s name at (g.first_type name at))

  type_part_same : (s : State) (name : List ℕ) (at : Position) (x : Current) → Same s (type_part g s name at x)
  type_part_same s name at (c.Begun place last) = extended_same s place name at
  type_part_same s name at c.Value = refl
  type_part_same s name at c.This = refl
  type_part_same s name at c.Super = refl
  type_part_same s name at c.Unknown = refl

  type_end_same : (s : State) (x : Current) → Same s (type_end g s x)
  type_end_same s (c.Begun p.Package last) = refl
  type_end_same s (c.Begun (p.Class class) last) = refl
  type_end_same s (c.Begun (p.Lost lost) last) = refl
  type_end_same s (c.Begun (p.Ambiguous lost) last) = refl
  type_end_same s c.Value = refl
  type_end_same s c.This = refl
  type_end_same s c.Super = refl
  type_end_same s c.Unknown = refl

  object_same : (s : State) (x : Current) (at : Position) → Same s (object g s x at)
  object_same s x at = one_of s (has_no_object g s.frames) (at_fault g s at 1) (now s x) refl refl

  worded_same : (s : State) (x : Word) (at : Position) → Same s (worded g s x at)
  worded_same s w.This at = object_same s c.This at
  worded_same s w.Super at = object_same s c.Super at
  worded_same s w.Break at = where_same s _ at 1
  worded_same s w.Continue at = where_same s _ at 1
  worded_same s w.Return at = where_same s _ at 1
  worded_same s w.NotBuilt at = refl

  closed_effect : (s : State) (x : Use) (frames : List Opened) → Effect s x (closed_by s frames)
  closed_effect s x [] = Stay refl
  closed_effect s x (last ∷ before) = Leave last.locals refl

  signed_effect : (s : State) (x : Sign) → Effect s (use_.Sign x) (signed g s x)
  signed_effect s sign.Open = Stay refl
  signed_effect s sign.OpenLoop = Stay refl
  signed_effect s sign.OpenSwitch = Stay refl
  signed_effect s sign.OpenLambda = Stay refl
  signed_effect s sign.OpenArguments = Stay refl
  signed_effect s sign.Close = closed_effect s (use_.Sign sign.Close) (reverse s.frames)
  signed_effect s sign.Value = Stay (used_same s s.current)
  signed_effect s sign.TypeEnd = Stay (type_end_same s s.current)
  signed_effect s sign.Block = Stay refl
  signed_effect s sign.Skipped = Stay refl

  module _ (s : State) (name : List ℕ) (at : Position) where
    abbrev one_more : State
    one_more = with_locals s (s.locals ++ (name, at) ∷ [])

    variable_effect : (b : Bool) → has_local name s.locals ≡ b → Effect s (use_.Name n.Variable name at) (variable g s name at)
    variable_effect true h =
        Stay (where_same (cond (has_local name s.locals) (at_fault g s at 2) one_more) (g.is_reserved name) at 5
        ∙ ap (λ b. (cond b (at_fault g s at 2) one_more).locals) h)
    variable_effect false h =
        Come name at refl h (where_same (cond (has_local name s.locals) (at_fault g s at 2) one_more) (g.is_reserved name) at 5
        ∙ ap (λ b. (cond b (at_fault g s at 2) one_more).locals) h)

  named_effect : (s : State) (x : Naming) (name : List ℕ) (at : Position) → Effect s (use_.Name x name at) (named g s x name at)
  named_effect s n.Type name at = Stay (type_first_same s name at)
  named_effect s n.TypePart name at = Stay (type_part_same s name at s.current)
  named_effect s n.Expression name at = Stay (expression_same s name at)
  named_effect s n.Selected name at = Stay (selected_same s name at s.current)
  named_effect s n.Method name at =
      Stay (called_same s name at (answered g s at (has_no_object g s.frames) (g.method name)) (answered_same s at (has_no_object g s.frames) (g.method name)))
  named_effect s n.SelectedMethod name at = Stay (called_same s name at (selected_method g s name at s.current) (method_same s name at s.current))
  named_effect s n.SuperMethod name at = Stay (called_same s name at (answered g s at false (g.super_method name)) (answered_same s at false (g.super_method name)))
  named_effect s n.Variable name at = variable_effect s name at (has_local name s.locals) refl
  named_effect s n.Label name at = Stay (where_same s (has_label name s.frames) at 2)
  named_effect s n.BreakTo name at = Stay (where_same s _ at 1)
  named_effect s n.ContinueTo name at = Stay (where_same s _ at 1)

  effect : (s : State) (x : Use) → Effect s x (step g s x)
  effect s (use_.Sign x) = signed_effect s x
  effect s (use_.Word x at) = Stay (worded_same s x at)
  effect s (use_.Name x name at) = named_effect s x name at

-- ---- each local was declared

either : {A B C : Type 0} → (A → C) → (B → C) → A ⊎ B → C
either f g (inl x) = f x
either f g (inr y) = g y

in_take : {A : Type 0} (x : A) (k : ℕ) (xs : List A) → IsIn x (take k xs) → IsIn x xs
in_take x zero [] h = h
in_take x zero (y ∷ ys) h = absurd h
in_take x (suc k) [] h = h
in_take x (suc k) (y ∷ ys) (inl h) = inl h
in_take x (suc k) (y ∷ ys) (inr h) = inr (in_take x k ys h)

in_more : {A : Type 0} (x y : A) (xs : List A) → IsIn x (xs ++ y ∷ []) → IsIn x xs ⊎ (x ≡ y)
in_more x y [] (inl h) = inr h
in_more x y [] (inr h) = inl h
in_more x y (z ∷ zs) (inl h) = inl (inl h)
in_more x y (z ∷ zs) (inr h) = either (λ k. inl (inr k)) inr (in_more x y zs h)

moved : {xs ys : Locals} (l : List ℕ × Position) → ys ≡ xs → IsIn l ys → IsIn l xs
moved l h inside = subst (IsIn l) h inside

-- behind one use
declared_by : (s : State) (x : Use) (t : State) (l : List ℕ × Position) → Effect s x t → IsIn l t.locals → IsIn l s.locals ⊎ (use_.Name n.Variable l.0 l.1 ≡ x)
declared_by s x t l (Stay h) inside = inl (moved l h inside)
declared_by s x t l (Leave k h) inside = inl (in_take l k s.locals (moved l h inside))
declared_by s x t l (Come name at is new h) inside =
    either inl (λ same. inr (ap (λ (y : List ℕ × Position). use_.Name n.Variable y.0 y.1) same ∙ sym is)) (in_more l (name, at) s.locals (moved l h inside))

declared_in : (g : Setting) (s : State) (xs : List Use) (l : List ℕ × Position) → IsIn l (run g s xs).locals → IsIn l s.locals ⊎ IsIn (use_.Name n.Variable l.0 l.1) xs
declared_in g s [] l inside = inl inside
declared_in g s (x ∷ xs) l inside =
    either (λ h. either inl (λ same. inr (inl same)) (declared_by s x (step g s x) l (effect g s x) h)) (λ h. inr (inr h)) (declared_in g (step g s x) xs l inside)

pub declared_before : (g : Setting) (xs : List Use) (l : List ℕ × Position) → IsIn l (run g first xs).locals → IsIn (use_.Name n.Variable l.0 l.1) xs
declared_before g xs l inside = either (λ h. absurd h) (λ h. h) (declared_in g first xs l inside)

-- ---- no two locals in scope have one name

-- a look-up of a name in one more row
head_false : (b : Bool) (v : Position) (o : Option Position) → is_some (cond b (Some v) o) ≡ false → b ≡ false
head_false true v o h = h
head_false false v o h = refl

tail_false : (b : Bool) (v : Position) (o : Option Position) → is_some (cond b (Some v) o) ≡ false → is_some o ≡ false
tail_false true v o h = cc
tail_false false v o h = h

skip : (b : Bool) (v : Position) (o : Option Position) → b ≡ false → is_some o ≡ false → is_some (cond b (Some v) o) ≡ false
skip b v o h k = ap (λ x. is_some (cond x (Some v) o)) h ∙ k

neither : (o q : Option Position) → is_some o ≡ false → is_some q ≡ false → is_some (option_or o q) ≡ false
neither None q h k = k
neither (Some v) q h k = h

turned_by : (xs ys : List ℕ) (b : Bool) → bytes_eq ys xs ≡ b → bytes_eq xs ys ≡ false → bytes_eq ys xs ≡ false
turned_by xs ys false is h = is
turned_by xs ys true is h = is ∙ sym ((bytes_eq-Decides xs ys).1 (sym ((bytes_eq-Decides ys xs).0 is))) ∙ h

turned_false : (xs ys : List ℕ) → bytes_eq xs ys ≡ false → bytes_eq ys xs ≡ false
turned_false xs ys h = turned_by xs ys (bytes_eq ys xs) refl h

taken_false : (name : List ℕ) (k : ℕ) (xs : Locals) → has_local name xs ≡ false → has_local name (take k xs) ≡ false
taken_false name zero [] h = h
taken_false name zero (x ∷ xs) h = refl
taken_false name (suc k) [] h = h
taken_false name (suc k) (x ∷ xs) h =
    skip (bytes_eq name x.0) x.1 (declared name (take k xs)) (head_false (bytes_eq name x.0) x.1 (declared name xs) h)
    (taken_false name k xs (tail_false (bytes_eq name x.0) x.1 (declared name xs) h))

apart_take : (k : ℕ) (xs : Locals) → AreApart xs → AreApart (take k xs)
apart_take zero [] h = h
apart_take zero (x ∷ xs) h = record {}
apart_take (suc k) [] h = h
apart_take (suc k) (x ∷ xs) h = (taken_false x.0 k xs h.0, apart_take k xs h.1)

more_false : (name : List ℕ) (xs : Locals) (l : List ℕ × Position) → has_local name xs ≡ false → bytes_eq name l.0 ≡ false → has_local name (xs ++ l ∷ []) ≡ false
more_false name xs l h k =
    ap is_some (declared-append name xs (l ∷ [])) ∙ neither (declared name xs) (declared name (l ∷ [])) h (skip (bytes_eq name l.0) l.1 None k refl)

apart_more : (xs : Locals) (l : List ℕ × Position) → AreApart xs → has_local l.0 xs ≡ false → AreApart (xs ++ l ∷ [])
apart_more [] l h new = (refl, record {})
apart_more (x ∷ xs) l h new = (
  more_false x.0 xs l h.0 (turned_false l.0 x.0 (head_false (bytes_eq l.0 x.0) x.1 (declared l.0 xs) new)),
  apart_more xs l h.1 (tail_false (bytes_eq l.0 x.0) x.1 (declared l.0 xs) new),
)

apart_by : (s : State) (x : Use) (t : State) → Effect s x t → AreApart s.locals → AreApart t.locals
apart_by s x t (Stay h) apart = subst AreApart (sym h) apart
apart_by s x t (Leave k h) apart = subst AreApart (sym h) (apart_take k s.locals apart)
apart_by s x t (Come name at is new h) apart = subst AreApart (sym h) (apart_more s.locals (name, at) apart new)

apart_in : (g : Setting) (s : State) (xs : List Use) → AreApart s.locals → AreApart (run g s xs).locals
apart_in g s [] apart = apart
apart_in g s (x ∷ xs) apart = apart_in g (step g s x) xs (apart_by s x (step g s x) (effect g s x) apart)

pub are_apart : (g : Setting) (xs : List Use) → AreApart (run g first xs).locals
are_apart g xs = apart_in g first xs (record {})
