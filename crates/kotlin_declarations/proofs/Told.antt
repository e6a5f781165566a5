-- What it comes to that nothing is noted of declarations.
use Rattle.std.proofs.Common.{◌≡◌, ℕ, Bool, true, false, not, List, [], ◌∷◌, ◌++◌, refl}
use Rattle.std.specs.Prelude.{◌&&◌, if◌then◌else◌}
use Rattle.judged.specs.Notes.{faults_in}
use Rattle.kotlin_tree.specs.declared.places.Position.{Position}
use Rattle.kotlin_tree.specs.declared.files.KFile.{KFile}
use Rattle.kotlin_types.specs.declared.kinds.KKind.{KKind}
use Rattle.kotlin_typing.specs.declared.tables.KCallable.{KCallable}
use Rattle.kotlin_typing.specs.declared.tables.KTables.{KTables}
use Rattle.kotlin_typing.specs.Notes.{noted}
use Rattle.kotlin_typing.proofs.LawsToCite.{clean_left, clean_right}
use Rattle.kotlin_project.specs.Declared.{Numbered}
use Rattle.kotlin_project.specs.Members.{Function}
use Rattle.kotlin_project.specs.Tables.{Library}
use Rattle.kotlin_declarations.specs.Overrides.{Overrides, OverridesAll, against, against_all, is_final, narrows, overridden, override_by, override_notes}
use Rattle.kotlin_declarations.specs.Heads.{cycle_notes, is_above_itself}
use Rattle.kotlin_declarations.specs.Classes.{abstract_notes, accessors_notes, class_notes, head_notes, leaves_open, open_notes, own_notes, twice_notes}

where_noted : (path : List ℕ) (n : ℕ) (at : Position) (b : Bool) → faults_in (if b then noted path n at else []) ≡ [] → b ≡ false
where_noted path n at true h = cc
where_noted path n at false h = refl

else_noted : (path : List ℕ) (n : ℕ) (at : Position) (b : Bool) → faults_in (if b then [] else noted path n at) ≡ [] → b ≡ true
else_noted path n at true h = refl
else_noted path n at false h = cc

against_told : (w : KTables) (path : List ℕ) (at : Position) (m : KCallable) (f : Function) → faults_in (against w path at m f) ≡ [] → Overrides w m f
against_told w path at m f h = record {
  overridable = where_noted path 9 at (is_final f.openness) (clean_left (if is_final f.openness then noted path 9 at else []) (if narrows w m f then [] else noted path 7 at) h);
  narrower = else_noted path 7 at (narrows w m f) (clean_right (if is_final f.openness then noted path 9 at else []) (if narrows w m f then [] else noted path 7 at) h);
}

all_told : (w : KTables) (path : List ℕ) (at : Position) (m : KCallable) (fs : List Function) → faults_in (against_all w path at m fs) ≡ [] → OverridesAll w m fs
all_told w path at m [] h = tt
all_told w path at m (f ∷ fs) h = (
  against_told w path at m f (clean_left (against w path at m f) (against_all w path at m fs) h),
  all_told w path at m fs (clean_right (against w path at m f) (against_all w path at m fs) h),
)

override_by_told : (w : KTables) (path : List ℕ) (at : Position) (m : KCallable) (fs : List Function) → faults_in (override_by w path at m true fs) ≡ [] → OverridesAll w m fs
override_by_told w path at m [] h = tt
override_by_told w path at m (f ∷ fs) h = all_told w path at m (f ∷ fs) h

none_by_told : (w : KTables) (path : List ℕ) (at : Position) (m : KCallable) (fs : List Function) → faults_in (override_by w path at m false fs) ≡ [] → fs ≡ []
none_by_told w path at m [] h = refl
none_by_told w path at m (f ∷ fs) h = cc

pub overrides_told : (w : KTables) (path : List ℕ) (at : Position) (m : KCallable) (above : List Function) → faults_in (override_notes w path at m true above) ≡ [] → OverridesAll w m (overridden m above)
overrides_told w path at m above h = override_by_told w path at m (overridden m above) h

pub none_told : (w : KTables) (path : List ℕ) (at : Position) (m : KCallable) (above : List Function) → faults_in (override_notes w path at m false above) ≡ [] → overridden m above ≡ []
none_told w path at m above h = none_by_told w path at m (overridden m above) h

pub open_told : (path : List ℕ) (at : Position) (all : List Function) → faults_in (open_notes path at false all) ≡ [] → leaves_open all ≡ false
open_told path at all h = where_noted path 8 at (leaves_open all) h

pub cycle_told : (w : KTables) (path : List ℕ) (at : Position) (x : KKind) → faults_in (cycle_notes w path at x) ≡ [] → is_above_itself w x ≡ false
cycle_told w path at x h = where_noted path 9 at (is_above_itself w x) h

module _ (library : Library) (files : List KFile) (n : Numbered) where
  pub head_clean : faults_in (class_notes library files n) ≡ [] → faults_in (head_notes library files n) ≡ []
  head_clean h = clean_left (head_notes library files n) (abstract_notes library files n ++ (own_notes library files n ++ (twice_notes library files n ++ accessors_notes library files n))) h

  behind_head : faults_in (class_notes library files n) ≡ [] → faults_in (abstract_notes library files n ++ (own_notes library files n ++ (twice_notes library files n ++ accessors_notes library files n))) ≡ []
  behind_head h = clean_right (head_notes library files n) (abstract_notes library files n ++ (own_notes library files n ++ (twice_notes library files n ++ accessors_notes library files n))) h

  pub abstract_clean : faults_in (class_notes library files n) ≡ [] → faults_in (abstract_notes library files n) ≡ []
  abstract_clean h = clean_left (abstract_notes library files n) (own_notes library files n ++ (twice_notes library files n ++ accessors_notes library files n)) (behind_head h)

  behind_abstract : faults_in (class_notes library files n) ≡ [] → faults_in (own_notes library files n ++ (twice_notes library files n ++ accessors_notes library files n)) ≡ []
  behind_abstract h = clean_right (abstract_notes library files n) (own_notes library files n ++ (twice_notes library files n ++ accessors_notes library files n)) (behind_head h)

  pub own_clean : faults_in (class_notes library files n) ≡ [] → faults_in (own_notes library files n) ≡ []
  own_clean h = clean_left (own_notes library files n) (twice_notes library files n ++ accessors_notes library files n) (behind_abstract h)

  behind_own : faults_in (class_notes library files n) ≡ [] → faults_in (twice_notes library files n ++ accessors_notes library files n) ≡ []
  behind_own h = clean_right (own_notes library files n) (twice_notes library files n ++ accessors_notes library files n) (behind_abstract h)

  pub twice_clean : faults_in (class_notes library files n) ≡ [] → faults_in (twice_notes library files n) ≡ []
  twice_clean h = clean_left (twice_notes library files n) (accessors_notes library files n) (behind_own h)

  pub accessors_clean : faults_in (class_notes library files n) ≡ [] → faults_in (accessors_notes library files n) ≡ []
  accessors_clean h = clean_right (twice_notes library files n) (accessors_notes library files n) (behind_own h)
