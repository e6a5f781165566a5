-- What one use does: it has a meaning, or it is a fault.
use Rattle.std.proofs.Common.{◌≡◌, ℕ, Bool, true, false, List, [], ◌∷◌, ◌++◌, inl, inr, cond, ◌||◌, refl, ap, sym, ◌∙◌, length, append_assoc, append-nil, length-append, arith, not, ◌+◌}
use Rattle.std.specs.Prelude.{reverse}
use Rattle.java_tree.specs.declared.tokens.Position.{Position}
use Rattle.java_classes.specs.declared.faults.NameFault.{NameFault}
use Rattle.java_name_uses.specs.declared.uses.Sign.{Sign}
use Rattle.java_name_uses.specs.declared.uses.Sign.TheVariants as sign
use Rattle.java_name_uses.specs.declared.uses.Word.{Word}
use Rattle.java_name_uses.specs.declared.uses.Word.TheVariants as w
use Rattle.java_name_uses.specs.declared.uses.Naming.{Naming}
use Rattle.java_name_uses.specs.declared.uses.Naming.TheVariants as n
use Rattle.java_name_uses.specs.declared.uses.Use.{Use}
use Rattle.java_name_uses.specs.declared.uses.Use.TheVariants as use_
use Rattle.java_type_names.specs.declared.places.Place.{Place}
use Rattle.java_type_names.specs.declared.places.Place.TheVariants as p
use Rattle.java_scopes.specs.declared.states.Answer.{Answer}
use Rattle.java_scopes.specs.declared.states.Answer.TheVariants as a
use Rattle.java_scopes.specs.declared.states.Current.{Current}
use Rattle.java_scopes.specs.declared.states.Current.TheVariants as c
use Rattle.java_scopes.specs.declared.states.Opened.{Opened}
use Rattle.java_scopes.specs.declared.states.State.{State}
use Rattle.java_scopes.specs.Scopes.{Setting, answered, at_fault, begun, called, closed_by, expression, fault_where, field_or_type, has_label, has_local, has_no_object, in_lambda, is_later, labeled, may_break, may_continue, may_jump, named, now, object, run, selected, selected_method, signed, step, type_end, type_first, type_part, used, variable, with_locals, worded}
use Rattle.java_name_meanings.specs.Meanings.{AllMeant, IsExpression, IsFieldOr, IsMeant, IsMember, IsNamed, IsPlace, IsSelected, IsSelectedMethod, IsSigned, IsType, IsTypeName, IsTypePart, IsValue, IsWord}

data Outcome (s t : State) (M : Type 0) : Type 0 where
  Fine : t.faults ≡ s.faults → M → Outcome s t M
  Faulty : (f : NameFault) (more : List NameFault) → t.faults ≡ s.faults ++ f ∷ more → Outcome s t M

one_of : {M : Type 0} (s : State) (b : Bool) (x y : State) → (b ≡ true → Outcome s x M) → (b ≡ false → Outcome s y M) → Outcome s (cond b x y) M
one_of s true x y h k = h refl
one_of s false x y h k = k refl

module _ (g : Setting) where
  -- a fault where something is true
  where_by : {M : Type 0} (s : State) (b : Bool) (at : Position) (code : ℕ) → (b ≡ false → M) → Outcome s (fault_where g b at code s) M
  where_by s b at code fine = one_of s b (at_fault g s at code) s (λ h. Faulty _ [] refl) (λ h. Fine refl (fine h))

  answered_by : (s : State) (at : Position) (missing : Bool) (x : Answer) → Outcome s (answered g s at missing x) (IsMember missing x)
  answered_by s at missing a.Absent = Faulty _ [] refl
  answered_by s at missing a.Static = Fine refl (record {})
  answered_by s at missing a.Instance = one_of s missing (at_fault g s at 1) (now s c.Value) (λ h. Faulty _ [] refl) (λ h. Fine refl h)
  answered_by s at missing a.Several = Faulty _ [] refl
  answered_by s at missing a.Open = Fine refl (record {})

  begun_is : (s : State) (text : List ℕ) (at : Position) (x : Place) → Outcome s (begun g s text at x) (IsPlace x)
  begun_is s text at (p.Lost lost) = Faulty _ [] refl
  begun_is s text at (p.Ambiguous lost) = Faulty _ [] refl
  begun_is s text at p.Package = Fine refl (record {})
  begun_is s text at (p.Class class) = Fine refl (record {})

  field_by : (s : State) (name : List ℕ) (at : Position) (x : Answer) → Outcome s (field_or_type g s name at x) (IsFieldOr (has_no_object g s.frames) (g.first_type name at) x)
  field_by s name at a.Absent = begun_is s name at (g.first_type name at)
  field_by s name at a.Static = Fine refl (record {})
  field_by s name at a.Instance = answered_by s at (has_no_object g s.frames) a.Instance
  field_by s name at a.Several = Faulty _ [] refl
  field_by s name at a.Open = Fine refl (record {})

  onward : {M N : Type 0} (s t : State) → (M → N) → Outcome s t M → Outcome s t N
  onward s t f (Fine h m) = Fine h (f m)
  onward s t f (Faulty x more h) = Faulty x more h

  expression_by : (s : State) (name : List ℕ) (at : Position) → Outcome s (expression g s name at) (IsExpression g s name at)
  expression_by s name at =
      one_of s (has_local name s.locals) (now s c.Value) (field_or_type g s name at (g.field name)) (λ h. Fine refl (inl h))
      (λ h. onward s (field_or_type g s name at (g.field name)) inr (field_by s name at (g.field name)))

  selected_by : (s : State) (name : List ℕ) (at : Position) (x : Current) → Outcome s (selected g s name at x) (IsSelected g s name at x)
  selected_by s name at c.Value = Fine refl (record {})
  selected_by s name at c.Unknown = Fine refl (record {})
  selected_by s name at c.Super = Fine refl (record {})
  selected_by s name at c.This = answered_by s at false (g.field name)
  selected_by s name at (c.Begun p.Package last) = begun_is s _ at (g.next_part s.text p.Package name at)
  selected_by s name at (c.Begun (p.Class class) last) = answered_by s at true (g.class_field class name)
  selected_by s name at (c.Begun (p.Lost lost) last) = Fine refl (record {})
  selected_by s name at (c.Begun (p.Ambiguous lost) last) = Fine refl (record {})

  method_by : (s : State) (name : List ℕ) (at : Position) (x : Current) → Outcome s (selected_method g s name at x) (IsSelectedMethod g s name x)
  method_by s name at c.Value = Fine refl (record {})
  method_by s name at c.Unknown = Fine refl (record {})
  method_by s name at c.Super = Fine refl (record {})
  method_by s name at c.This = answered_by s at false (g.method name)
  method_by s name at (c.Begun p.Package last) = Faulty _ [] refl
  method_by s name at (c.Begun (p.Class class) last) = answered_by s at true (g.class_method class name)
  method_by s name at (c.Begun (p.Lost lost) last) = Fine refl (record {})
  method_by s name at (c.Begun (p.Ambiguous lost) last) = Fine refl (record {})

  called_by : {M : Type 0} (s : State) (name : List ℕ) (at : Position) (meant : State) → Outcome s meant M → Outcome s (called g s name at meant) ((is_later name ≡ false) × M)
  called_by s name at meant h = one_of s (is_later name) (at_fault g s at 0) meant (λ k. Faulty _ [] refl) (λ k. onward s meant (λ m. (k, m)) h)

  used_by : (s : State) (x : Current) → Outcome s (used g s x) (IsValue x)
  used_by s (c.Begun place last) = Faulty _ [] refl
  used_by s c.Value = Fine refl (record {})
  used_by s c.This = Fine refl (record {})
  used_by s c.Super = Fine refl (record {})
  used_by s c.Unknown = Fine refl (record {})

  type_by : (s : State) (name : List ℕ) (at : Position) → Outcome s (type_first g s name at) (IsType g s name at)
  type_by s name at =
      one_of s (g.is_type_parameter name) (cond g.is_static (at_fault g s at 1) (now s c.Value)) (begun g s name at (g.first_type name at))
      (λ h. one_of s g.is_static (at_fault g s at 1) (now s c.Value) (λ k. Faulty _ [] refl) (λ k. Fine refl (inl (h, k))))
      (λ h. onward s (begun g s name at (g.first_type name at)) inr (begun_is s name at (g.first_type name at)))

  type_part_by : (s : State) (name : List ℕ) (at : Position) (x : Current) → Outcome s (type_part g s name at x) (IsTypePart g s name at x)
  type_part_by s name at (c.Begun place last) = begun_is s _ at (g.next_part s.text place name at)
  type_part_by s name at c.Value = Faulty _ [] refl
  type_part_by s name at c.This = Fine refl (record {})
  type_part_by s name at c.Super = Fine refl (record {})
  type_part_by s name at c.Unknown = Fine refl (record {})

  type_end_by : (s : State) (x : Current) → Outcome s (type_end g s x) (IsTypeName x)
  type_end_by s (c.Begun p.Package last) = Faulty _ [] refl
  type_end_by s (c.Begun (p.Class class) last) = Fine refl (record {})
  type_end_by s (c.Begun (p.Lost lost) last) = Fine refl (record {})
  type_end_by s (c.Begun (p.Ambiguous lost) last) = Fine refl (record {})
  type_end_by s c.Value = Fine refl (record {})
  type_end_by s c.This = Fine refl (record {})
  type_end_by s c.Super = Fine refl (record {})
  type_end_by s c.Unknown = Fine refl (record {})

  not_false : (b : Bool) → not b ≡ false → b ≡ true
  not_false true h = refl
  not_false false h = cc

  object_by : (s : State) (x : Current) (at : Position) → Outcome s (object g s x at) (has_no_object g s.frames ≡ false)
  object_by s x at = one_of s (has_no_object g s.frames) (at_fault g s at 1) (now s x) (λ h. Faulty _ [] refl) (λ h. Fine refl h)

  word_by : (s : State) (x : Word) (at : Position) → Outcome s (worded g s x at) (IsWord g s x)
  word_by s w.This at = object_by s c.This at
  word_by s w.Super at = object_by s c.Super at
  word_by s w.Break at = where_by s (not (may_break false s.frames)) at 1 (not_false (may_break false s.frames))
  word_by s w.Continue at = where_by s (not (may_continue false s.frames)) at 1 (not_false (may_continue false s.frames))
  word_by s w.Return at = where_by s (not (g.may_return || in_lambda s.frames)) at 1 (not_false (g.may_return || in_lambda s.frames))
  word_by s w.NotBuilt at = Faulty _ [] refl

  closed_is : (s : State) (frames : List Opened) → Outcome s (closed_by s frames) (Unit {0})
  closed_is s [] = Fine refl (record {})
  closed_is s (last ∷ before) = Fine refl (record {})

  sign_by : (s : State) (x : Sign) → Outcome s (signed g s x) (IsSigned s x)
  sign_by s sign.Open = Fine refl (record {})
  sign_by s sign.OpenLoop = Fine refl (record {})
  sign_by s sign.OpenSwitch = Fine refl (record {})
  sign_by s sign.OpenLambda = Fine refl (record {})
  sign_by s sign.OpenArguments = Fine refl (record {})
  sign_by s sign.Close = closed_is s (reverse s.frames)
  sign_by s sign.Value = used_by s s.current
  sign_by s sign.TypeEnd = type_end_by s s.current
  sign_by s sign.Block = Fine refl (record {})
  sign_by s sign.Skipped = Fine refl (record {})

  abbrev noted : Position → ℕ → List NameFault
  noted at code = record { unit = g.unit; at = at; number = code } ∷ []

  -- a fault behind what an inner state has
  behind : {M N : Type 0} (s t : State) (b : Bool) (at : Position) (code : ℕ) → (M → b ≡ false → N) → Outcome s t M → Outcome s (fault_where g b at code t) N
  behind s t true at code f (Fine h m) = Faulty _ [] (ap (λ xs. xs ++ noted at code) h)
  behind s t false at code f (Fine h m) = Fine h (f m refl)
  behind s t true at code f (Faulty x more h) = Faulty x (more ++ noted at code) (ap (λ xs. xs ++ noted at code) h ∙ append_assoc s.faults (x ∷ more) (noted at code))
  behind s t false at code f (Faulty x more h) = Faulty x more h

  variable_by : (s : State) (name : List ℕ) (at : Position) → Outcome s (variable g s name at) ((has_local name s.locals ≡ false) × (g.is_reserved name ≡ false))
  variable_by s name at =
      behind s (cond (has_local name s.locals) (at_fault g s at 2) (with_locals s (s.locals ++ (name, at) ∷ []))) (g.is_reserved name) at 5 (λ h k. (h, k))
      (one_of s (has_local name s.locals) (at_fault g s at 2) (with_locals s (s.locals ++ (name, at) ∷ [])) (λ h. Faulty _ [] refl) (λ h. Fine refl h))

  label_by : (s : State) (name : List ℕ) (at : Position) (b : Bool) → Outcome s (fault_where g b at 2 s) (b ≡ false)
  label_by s name at b = where_by s b at 2 (λ h. h)

  opened_too : {M : Type 0} (s t u : State) → u.faults ≡ t.faults → Outcome s t M → Outcome s u M
  opened_too s t u same (Fine h m) = Fine (same ∙ h) m
  opened_too s t u same (Faulty x more h) = Faulty x more (same ∙ h)

  name_by : (s : State) (x : Naming) (name : List ℕ) (at : Position) → Outcome s (named g s x name at) (IsNamed g s x name at)
  name_by s n.Type name at = type_by s name at
  name_by s n.TypePart name at = type_part_by s name at s.current
  name_by s n.Expression name at = expression_by s name at
  name_by s n.Selected name at = selected_by s name at s.current
  name_by s n.Method name at =
      called_by s name at (answered g s at (has_no_object g s.frames) (g.method name)) (answered_by s at (has_no_object g s.frames) (g.method name))
  name_by s n.SelectedMethod name at = called_by s name at (selected_method g s name at s.current) (method_by s name at s.current)
  name_by s n.SuperMethod name at = called_by s name at (answered g s at false (g.super_method name)) (answered_by s at false (g.super_method name))
  name_by s n.Variable name at = variable_by s name at
  name_by s n.Label name at =
      opened_too s (fault_where g (has_label name s.frames) at 2 s) (labeled g s name at) refl (label_by s name at (has_label name s.frames))
  name_by s n.BreakTo name at = where_by s (not (may_jump name false false s.frames)) at 1 (not_false (may_jump name false false s.frames))
  name_by s n.ContinueTo name at = where_by s (not (may_jump name true false s.frames)) at 1 (not_false (may_jump name true false s.frames))

  outcome : (s : State) (x : Use) → Outcome s (step g s x) (IsMeant g s x)
  outcome s (use_.Sign x) = sign_by s x
  outcome s (use_.Word x at) = word_by s x at
  outcome s (use_.Name x name at) = name_by s x name at

  -- ---- faults stay

  abbrev Grown : State → State → Type 0
  Grown s t = (more : List NameFault) × (t.faults ≡ s.faults ++ more)

  grown_by : {M : Type 0} (s t : State) → Outcome s t M → Grown s t
  grown_by s t (Fine h m) = ([], h ∙ sym (append-nil s.faults))
  grown_by s t (Faulty x more h) = (x ∷ more, h)

  joined : (s t u : State) → Grown s t → Grown t u → Grown s u
  joined s t u h k = (h.0 ++ k.0, k.1 ∙ ap (λ xs. xs ++ k.0) h.1 ∙ append_assoc s.faults h.0 k.0)

  grown : (s : State) (xs : List Use) → Grown s (run g s xs)
  grown s [] = ([], sym (append-nil s.faults))
  grown s (x ∷ xs) = joined s (step g s x) (run g (step g s x) xs) (grown_by s (step g s x) (outcome s x)) (grown (step g s x) xs)

  none_more : (s t u : State) (f : NameFault) (more : List NameFault) → t.faults ≡ s.faults ++ f ∷ more → Grown t u → u.faults ≡ s.faults → ⊥
  none_more s t u f more faulty rest same =
      let long : length u.faults ≡ length t.faults + length rest.0 = ap length rest.1 ∙ length-append t.faults rest.0 in
      let more_than : length t.faults ≡ length s.faults + length (f ∷ more) = ap length faulty ∙ length-append s.faults (f ∷ more) in
      let equal : length u.faults ≡ length s.faults = ap length same in
      omega (arith, long, more_than, equal)

  meant_by : (s : State) (x : Use) (xs : List Use) → ((run g (step g s x) xs).faults ≡ (step g s x).faults → AllMeant g (step g s x) xs) →
      (run g (step g s x) xs).faults ≡ s.faults → Outcome s (step g s x) (IsMeant g s x) → IsMeant g s x × AllMeant g (step g s x) xs
  meant_by s x xs further same (Fine h m) = (m, further (same ∙ sym h))
  meant_by s x xs further same (Faulty f more h) = absurd (none_more s (step g s x) (run g (step g s x) xs) f more h (grown (step g s x) xs) same)

  all_from : (s : State) (xs : List Use) → (run g s xs).faults ≡ s.faults → AllMeant g s xs
  all_from s [] h = record {}
  all_from s (x ∷ xs) h = meant_by s x xs (all_from (step g s x) xs) h (outcome s x)

pub all_meant : (g : Setting) (s : State) (xs : List Use) → (run g s xs).faults ≡ s.faults → AllMeant g s xs
all_meant g s xs h = all_from g s xs h
