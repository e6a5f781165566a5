-- Nothing is noted of the names of classes exactly where no two have one.
use Rattle.std.proofs.Common.{◌≡◌, ◌↔◌, Bool, true, false, List, [], ◌∷◌, ◌++◌, refl, sym, ap, ◌∙◌}
use Rattle.std.specs.Prelude.{if◌then◌else◌}
use Rattle.judged.specs.Notes.{faults_in}
use Rattle.judged.proofs.LawsToCite.{faults_in-append}
use Rattle.kotlin_typing.specs.Notes.{noted}
use Rattle.kotlin_typing.proofs.LawsToCite.{clean_left, clean_right}
use Rattle.kotlin_project.specs.Declared.{Declared}
use Rattle.kotlin_project.specs.Twice.{AreApart, again, is_again, twice_from}

not_again : (d : Declared) (b : Bool) → faults_in (if b then noted d.file.path 2 d.class.name.at else []) ≡ [] → b ≡ false
not_again d true h = cc
not_again d false h = refl

unnoted : (d : Declared) (b : Bool) → b ≡ false → faults_in (if b then noted d.file.path 2 d.class.name.at else []) ≡ []
unnoted d true h = cc
unnoted d false h = refl

pub apart_told : (before ds : List Declared) → faults_in (twice_from before ds) ≡ [] → AreApart before ds
apart_told before [] h = tt
apart_told before (d ∷ ds) h = (
  not_again d (is_again before d) (clean_left (again before d) (twice_from (before ++ d ∷ []) ds) h),
  apart_told (before ++ d ∷ []) ds (clean_right (again before d) (twice_from (before ++ d ∷ []) ds) h),
)

apart_clean : (before ds : List Declared) → AreApart before ds → faults_in (twice_from before ds) ≡ []
apart_clean before [] h = refl
apart_clean before (d ∷ ds) h =
    faults_in-append (again before d) (twice_from (before ++ d ∷ []) ds)
    ∙ (ap (λ z. z ++ faults_in (twice_from (before ++ d ∷ []) ds)) (unnoted d (is_again before d) h.0) ∙ apart_clean (before ++ d ∷ []) ds h.1)

pub apart : (ds : List Declared) → (faults_in (twice_from [] ds) ≡ []) ↔ AreApart [] ds
apart ds = (apart_told [] ds, apart_clean [] ds)
