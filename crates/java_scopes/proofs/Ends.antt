-- The end of a scope.
use Rattle.std.proofs.Common.{◌≡◌, List, [], ◌∷◌, length, take, refl, ap, ◌∙◌}
use Rattle.std.specs.Prelude.{reverse}
use Rattle.std.proofs.lemmas.List.{reverse-append}
use Rattle.std.proofs.Math.Seq.{take-append_seam}
use Rattle.java_scopes.specs.declared.states.Frame.{Frame}
use Rattle.java_scopes.specs.declared.states.Opened.{Opened}
use Rattle.java_scopes.specs.declared.states.State.{State}
use Rattle.java_scopes.specs.Scopes.{Locals, closed, closed_by, is_behind}

twice : (xs : List Opened) → reverse (reverse xs) ≡ xs
twice [] = refl
twice (x ∷ xs) = ap reverse (reverse-append (x ∷ []) xs) ∙ reverse-append (reverse xs) (x ∷ []) ∙ ap (λ l. x ∷ l) (twice xs)

module _ (s inside : State) (frame : Frame) (more : Locals) (h : is_behind s frame more inside) where
  abbrev last : Opened
  last = record { frame = frame; locals = length s.locals }

  turned : reverse inside.frames ≡ last ∷ reverse s.frames
  turned = ap reverse h.1 ∙ reverse-append s.frames (last ∷ [])

  pub same_locals : (closed inside).locals ≡ s.locals
  same_locals = ap (λ fs. (closed_by inside fs).locals) turned ∙ ap (take (length s.locals)) h.0 ∙ take-append_seam s.locals more

  pub same_frames : (closed inside).frames ≡ s.frames
  same_frames = ap (λ fs. (closed_by inside fs).frames) turned ∙ twice s.frames
