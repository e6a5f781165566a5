-- What a jump may mean.
use Rattle.std.proofs.Common.{◌≡◌, ◌⊎◌, inl, inr, ℕ, Bool, true, false, ◌||◌, not, List, [], ◌∷◌, cond, refl, ap, sym, ◌∙◌}
use Rattle.std.specs.Str.{bytes_eq}
use Rattle.std.proofs.lemmas.Slice.Eq.{bytes_eq-Decides}
use Rattle.java_scopes.specs.declared.states.Frame.{Frame}
use Rattle.java_scopes.specs.declared.states.Frame.TheVariants as f
use Rattle.java_scopes.specs.declared.states.Opened.{Opened}
use Rattle.java_scopes.specs.Scopes.{breaks, continues, labels, may_break, may_continue, may_jump, begins_loop, is_lambda, in_lambda}
use Rattle.java_scopes.specs.Targets.{Encloses, Here, Further, IsBreakable, IsLoop, IsLabelOf}

neither : (a b : Bool) → a ≡ false → b ≡ false → (a || b) ≡ false
neither true b h k = h
neither false b h k = k

first_not : (a b : Bool) → (a || b) ≡ false → a ≡ false
first_not true b h = h
first_not false b h = refl

second_not : (a b : Bool) → (a || b) ≡ false → b ≡ false
second_not true b h = cc
second_not false b h = h

-- a walk from the outside to the inside, which a scope may grant and a lambda ends
module _ (grants : Bool → Frame → List Opened → Bool) (P : Frame → List Opened → Type 0) (walk : Bool → List Opened → Bool)
    (known : (out : Bool) (frame : Frame) (more : List Opened) → grants out frame more ≡ true → ((out ≡ true) × (is_lambda frame ≡ false)) ⊎ P frame more)
    (ends : (out : Bool) → walk out [] ≡ out)
    (goes : (out : Bool) (o : Opened) (more : List Opened) → walk out (o ∷ more) ≡ walk (grants out o.frame more) more) where
  now : (out : Bool) (o : Opened) (more : List Opened) → in_lambda more ≡ false → ((out ≡ true) × (is_lambda o.frame ≡ false)) ⊎ P o.frame more →
      ((out ≡ true) × (in_lambda (o ∷ more) ≡ false)) ⊎ Encloses P (o ∷ more)
  now out o more none (inl h) = inl (h.0, neither (is_lambda o.frame) (in_lambda more) h.1 none)
  now out o more none (inr h) = inr (Here h none)

  next : (out : Bool) (o : Opened) (more : List Opened) → ((grants out o.frame more ≡ true) × (in_lambda more ≡ false)) ⊎ Encloses P more →
      ((out ≡ true) × (in_lambda (o ∷ more) ≡ false)) ⊎ Encloses P (o ∷ more)
  next out o more (inl h) = now out o more h.1 (known out o.frame more h.0)
  next out o more (inr h) = inr (Further h)

  found : (out : Bool) (frames : List Opened) → walk out frames ≡ true → ((out ≡ true) × (in_lambda frames ≡ false)) ⊎ Encloses P frames
  found out [] h = inl (sym (ends out) ∙ h, refl)
  found out (o ∷ more) h = next out o more (found (grants out o.frame more) more (sym (goes out o more) ∙ h))

  only : (frames : List Opened) → ((false ≡ true) × (in_lambda frames ≡ false)) ⊎ Encloses P frames → Encloses P frames
  only frames (inl h) = cc
  only frames (inr h) = h

  pub has_target : (frames : List Opened) → walk false frames ≡ true → Encloses P frames
  has_target frames h = only frames (found false frames h)

  module _ (holds : (frame : Frame) (more : List Opened) → is_lambda frame ≡ false → grants true frame more ≡ true)
      (gives : (out : Bool) (frame : Frame) (more : List Opened) → P frame more → grants out frame more ≡ true) where
    stays : (frames : List Opened) → in_lambda frames ≡ false → walk true frames ≡ true
    stays [] h = ends true
    stays (o ∷ more) h =
        goes true o more ∙ ap (λ b. walk b more) (holds o.frame more (first_not (is_lambda o.frame) (in_lambda more) h))
        ∙ stays more (second_not (is_lambda o.frame) (in_lambda more) h)

    pub is_target : (out : Bool) (frames : List Opened) → Encloses P frames → walk out frames ≡ true
    is_target out [] h = elim h [ ]
    is_target out (o ∷ more) (Here h none) = goes out o more ∙ ap (λ b. walk b more) (gives out o.frame more h) ∙ stays more none
    is_target out (o ∷ more) (Further h) = goes out o more ∙ is_target (grants out o.frame more) more h

-- ---- `break`

breaks_known : (out : Bool) (frame : Frame) (more : List Opened) → breaks out frame ≡ true → ((out ≡ true) × (is_lambda frame ≡ false)) ⊎ IsBreakable frame more
breaks_known out f.Loop more h = inr (inl refl)
breaks_known out f.Switch more h = inr (inr refl)
breaks_known out f.Lambda more h = cc
breaks_known out f.Block more h = inl (h, refl)
breaks_known out f.Arguments more h = inl (h, refl)
breaks_known out (f.Label name) more h = inl (h, refl)

breaks_holds : (frame : Frame) (more : List Opened) → is_lambda frame ≡ false → breaks true frame ≡ true
breaks_holds f.Loop more h = refl
breaks_holds f.Switch more h = refl
breaks_holds f.Lambda more h = cc
breaks_holds f.Block more h = refl
breaks_holds f.Arguments more h = refl
breaks_holds (f.Label name) more h = refl

breaks_gives : (out : Bool) (frame : Frame) (more : List Opened) → IsBreakable frame more → breaks out frame ≡ true
breaks_gives out frame more (inl h) = ap (breaks out) h
breaks_gives out frame more (inr h) = ap (breaks out) h

pub break_has_target : (frames : List Opened) → may_break false frames ≡ true → Encloses IsBreakable frames
break_has_target = has_target (λ out frame more. breaks out frame) IsBreakable may_break breaks_known (λ out. refl) (λ out o more. refl)

pub break_is_taken : (frames : List Opened) → Encloses IsBreakable frames → may_break false frames ≡ true
break_is_taken = is_target (λ out frame more. breaks out frame) IsBreakable may_break breaks_known (λ out. refl) (λ out o more. refl) breaks_holds breaks_gives false

-- ---- `continue`

continues_known : (out : Bool) (frame : Frame) (more : List Opened) → continues out frame ≡ true → ((out ≡ true) × (is_lambda frame ≡ false)) ⊎ IsLoop frame more
continues_known out f.Loop more h = inr refl
continues_known out f.Switch more h = inl (h, refl)
continues_known out f.Lambda more h = cc
continues_known out f.Block more h = inl (h, refl)
continues_known out f.Arguments more h = inl (h, refl)
continues_known out (f.Label name) more h = inl (h, refl)

continues_holds : (frame : Frame) (more : List Opened) → is_lambda frame ≡ false → continues true frame ≡ true
continues_holds f.Loop more h = refl
continues_holds f.Switch more h = refl
continues_holds f.Lambda more h = cc
continues_holds f.Block more h = refl
continues_holds f.Arguments more h = refl
continues_holds (f.Label name) more h = refl

continues_gives : (out : Bool) (frame : Frame) (more : List Opened) → IsLoop frame more → continues out frame ≡ true
continues_gives out frame more h = ap (continues out) h

pub continue_has_target : (frames : List Opened) → may_continue false frames ≡ true → Encloses IsLoop frames
continue_has_target = has_target (λ out frame more. continues out frame) IsLoop may_continue continues_known (λ out. refl) (λ out o more. refl)

pub continue_is_taken : (frames : List Opened) → Encloses IsLoop frames → may_continue false frames ≡ true
continue_is_taken = is_target (λ out frame more. continues out frame) IsLoop may_continue continues_known (λ out. refl) (λ out o more. refl) continues_holds continues_gives false

-- ---- to a label

module _ (name : List ℕ) (needs_loop : Bool) where
  abbrev labels_at : Bool → Frame → List Opened → Bool
  labels_at out frame more = labels name (not needs_loop || begins_loop more) out frame

  label_known : (label : List ℕ) (out : Bool) (more : List Opened) (same : Bool) → bytes_eq label name ≡ same →
      cond same (not needs_loop || begins_loop more) out ≡ true →
      ((out ≡ true) × (is_lambda (f.Label label) ≡ false)) ⊎ IsLabelOf name needs_loop (f.Label label) more
  label_known label out more true is h = inr (ap f.Label ((bytes_eq-Decides label name).0 is), h)
  label_known label out more false is h = inl (h, refl)

  labels_known : (out : Bool) (frame : Frame) (more : List Opened) → labels_at out frame more ≡ true → ((out ≡ true) × (is_lambda frame ≡ false)) ⊎ IsLabelOf name needs_loop frame more
  labels_known out f.Loop more h = inl (h, refl)
  labels_known out f.Switch more h = inl (h, refl)
  labels_known out f.Lambda more h = cc
  labels_known out f.Block more h = inl (h, refl)
  labels_known out f.Arguments more h = inl (h, refl)
  labels_known out (f.Label label) more h = label_known label out more (bytes_eq label name) refl h

  pub jump_has_target : (frames : List Opened) → may_jump name needs_loop false frames ≡ true → Encloses (IsLabelOf name needs_loop) frames
  jump_has_target = has_target labels_at (IsLabelOf name needs_loop) (may_jump name needs_loop) labels_known (λ out. refl) (λ out o more. refl)
