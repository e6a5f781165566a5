-- K7 and K9 of functions: an override keeps the parameters of what it overrides and may narrow the result; what is overridden is
-- open, and `override` stands exactly where something is (Kotlin specification, "Overriding").
use Rattle.std.specs.Prelude.{◌≡◌, Bool, true, false, ◌&&◌, ◌||◌, if◌then◌else◌, List, [], ◌∷◌, ◌++◌, Option, Some, None}
use Rattle.std.specs.List.{filter}
use Rattle.kotlin_tree.specs.declared.places.Position.{Position}
use Rattle.kotlin_types.specs.Supertypes.{is_subtype}
use Rattle.kotlin_typing.specs.declared.tables.KCallable.{KCallable}
use Rattle.kotlin_typing.specs.declared.tables.KTables.{KTables}
use Rattle.kotlin_typing.specs.Notes.{Notes, noted}
use Rattle.kotlin_project.specs.Members.{Function, Openness, Final, Open, Abstract}
use Rattle.kotlin_declarations.specs.Inherited.{overrides}
use Rattle.std.specs.Prelude.{ℕ}

abbrev pub is_final : Openness → Bool
is_final Final = true
is_final Open = false
is_final Abstract = false

abbrev pub narrows : KTables → KCallable → Function → Bool
narrows w m f = is_subtype w.classes m.result f.callable.result

-- against one that it overrides: K9 where that is final, K7 where the result isn't below
abbrev pub against : KTables → List ℕ → Position → KCallable → Function → Notes
against w path at m f =
    (if is_final f.openness then noted path 9 at else [])
    ++ (if narrows w m f then [] else noted path 7 at)

abbrev pub against_all : KTables → List ℕ → Position → KCallable → List Function → Notes
against_all w path at m [] = []
against_all w path at m (f ∷ fs) = against w path at m f ++ against_all w path at m fs

-- with `override` or without, and what it overrides
abbrev pub override_by : KTables → List ℕ → Position → KCallable → Bool → List Function → Notes
override_by w path at m false [] = []
override_by w path at m true [] = noted path 7 at
override_by w path at m false (f ∷ fs) = noted path 7 at
override_by w path at m true (f ∷ fs) = against_all w path at m (f ∷ fs)

abbrev pub overridden : KCallable → List Function → List Function
overridden m above = filter (overrides m) above

abbrev pub override_notes : KTables → List ℕ → Position → KCallable → Bool → List Function → Notes
override_notes w path at m is_override above = override_by w path at m is_override (overridden m above)

-- ---- what it comes to that nothing is noted

-- an override of each of these
pub record Overrides (w : KTables) (m : KCallable) (f : Function) : Type 0 where
  pub overridable : is_final f.openness ≡ false
  pub narrower : is_subtype w.classes m.result f.callable.result ≡ true

abbrev pub OverridesAll : KTables → KCallable → List Function → Type 0
OverridesAll w m [] = Unit {0}
OverridesAll w m (f ∷ fs) = Overrides w m f × OverridesAll w m fs
