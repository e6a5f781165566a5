-- What a jump may mean (JLS 14.15, 14.16).
use Rattle.std.specs.Prelude.{◌≡◌, ◌⊎◌, ℕ, Bool, true, false, ◌||◌, not, List, ◌∷◌}
use Rattle.java_scopes.specs.declared.states.Frame.{Frame}
use Rattle.java_scopes.specs.declared.states.Frame.TheVariants as f
use Rattle.java_scopes.specs.declared.states.Opened.{Opened}
use Rattle.java_scopes.specs.Scopes.{begins_loop, in_lambda}

-- Among the scopes around a place, the outermost first, is one of which something holds, by what stands further in; and no
-- lambda stands between (JLS 15.27.2).
pub data Encloses (P : Frame → List Opened → Type 0) : List Opened → Type 0 where
  Here : {o : Opened} {more : List Opened} → P o.frame more → in_lambda more ≡ false → Encloses P (o ∷ more)
  Further : {o : Opened} {more : List Opened} → Encloses P more → Encloses P (o ∷ more)

-- a loop or a switch
abbrev pub IsBreakable : Frame → List Opened → Type 0
IsBreakable frame more = (frame ≡ f.Loop) ⊎ (frame ≡ f.Switch)

abbrev pub IsLoop : Frame → List Opened → Type 0
IsLoop frame more = frame ≡ f.Loop

-- the label, and where a loop is needed, the loop that it stands at
abbrev pub IsLabelOf : List ℕ → Bool → Frame → List Opened → Type 0
IsLabelOf name needs_loop frame more = (frame ≡ f.Label name) × ((not needs_loop || begins_loop more) ≡ true)
