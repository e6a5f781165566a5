-- The rules on types that are written.
use Rattle.std.specs.Prelude.{ℕ, zero, suc, Bool, true, false, not, ◌&&◌, ◌||◌, ◌==◌, List, [], ◌∷◌, ◌++◌, length, Option, Some, None, slice_get}
use Rattle.std.specs.List.{flat_map}
use Rattle.java_tree.specs.declared.tokens.Position.{Position}
use Rattle.java_lib.specs.Library as lib
use Rattle.java_lib.specs.Classes.{params_of}
use Rattle.java_lib.specs.Classes as numbers
use Rattle.java_typed.specs.declared.types.ClassRef.{ClassRef}
use Rattle.java_typed.specs.declared.types.ClassRef.TheVariants as class
use Rattle.java_typed.specs.declared.types.TType.{TType, out-TType, fold-TType}
use Rattle.java_typed.specs.declared.types.TType.TheOpen.{TType-F}
use Rattle.java_typed.specs.declared.types.TWritten.{TWritten}
use Rattle.java_typed.specs.declared.units.TClass.{TClass}
use Rattle.java_facts.specs.Kinds.{class_sort}
use Rattle.java_profile.specs.Faults.{Fault, P1, P2, P13, told}
use Rattle.java_profile.specs.Statements.{is_text_or_box}

-- ---- supertypes (own rule: of the library's classes Kotlin's are other classes, with other members to override)

abbrev pub or_next : (ℕ → Bool) → Option ℕ → Bool
or_next next None = false
or_next next (Some n) = next n

-- a throwable, at most so many steps below Throwable
abbrev pub is_throwable_in : ℕ → ℕ → Bool
is_throwable_in zero n = false
is_throwable_in (suc steps) n = n == lib.throwable_class || or_next (is_throwable_in steps) (numbers.above_of n)

abbrev pub is_throwable : ℕ → Bool
is_throwable n = is_throwable_in (length lib.classes) n

abbrev pub may_be_above : ClassRef → Bool
may_be_above (class.Library n) = n == lib.object_class || n == lib.runnable_class || is_throwable n
may_be_above (class.Project n) = true

abbrev pub may_stand_above : TType-F TType → Bool
may_stand_above (TType-F.Class c arguments) = may_be_above c
may_stand_above _ = true

abbrev pub at_name : List Position → Bool → List Fault
at_name [] b = []
at_name (at ∷ more) b = told b P1 at

abbrev pub super_faults : TWritten → List Fault
super_faults w = at_name w.places (not (may_stand_above (out-TType w.kind)))

-- ---- raw types (JLS 4.8: Kotlin has none), and keys of maps (own rule: of other keys `equals` and `hashCode` of the project would
-- run within the library)

-- a reference type where it is named
pub record Mention : Type 0 where
  pub is_raw : Bool
  pub is_wrong_key : Bool

-- of a type: whether it may be a key, and the reference types in it from the outside to the inside and from left to right
pub record Named : Type 0 where
  pub is_key : Bool
  pub mentions : List Mention

abbrev pub plain : Mention
plain = record { is_raw = false; is_wrong_key = false }

abbrev pub no_arguments : {A : Type 0} → List A → Bool
no_arguments [] = true
no_arguments (x ∷ more) = false

-- the first is the key itself
abbrev pub marked : Bool → List Mention → List Mention
marked b [] = []
marked b (m ∷ more) = record { is_raw = m.is_raw; is_wrong_key = b } ∷ more

abbrev pub keyed : Bool → List Named → List Mention
keyed is_map [] = []
keyed true (k ∷ more) = marked (not k.is_key) k.mentions ++ flat_map (λ x. x.mentions) more
keyed false (k ∷ more) = k.mentions ++ flat_map (λ x. x.mentions) more

module _ (classes : List TClass) where
  abbrev pub has_params : Option TClass → Bool
  has_params None = false
  has_params (Some c) = not (length c.type_params == 0)

  abbrev pub is_generic : ClassRef → Bool
  is_generic (class.Library n) = not (params_of n == 0)
  is_generic (class.Project n) = has_params (slice_get classes n)

  abbrev pub is_map : ClassRef → Bool
  is_map (class.Library n) = n == lib.hash_map_class || n == lib.map_class
  is_map (class.Project n) = false

  abbrev pub named_by : TType-F Named → Named
  named_by (TType-F.Number kind) = record { is_key = false; mentions = [] }
  named_by TType-F.Boolean = record { is_key = false; mentions = [] }
  named_by TType-F.Null = record { is_key = false; mentions = [] }
  named_by (TType-F.Class c arguments) = record {
    is_key = is_text_or_box (class_sort c);
    mentions = record { is_raw = is_generic c && no_arguments arguments; is_wrong_key = false } ∷ keyed (is_map c) arguments;
  }
  named_by (TType-F.Variable c place) = record { is_key = false; mentions = plain ∷ [] }
  named_by (TType-F.Array element) = record { is_key = false; mentions = plain ∷ element.mentions }

  unfoldable pub named : TType → Named
  named = fold-TType Named named_by

  -- each at its place; where nothing is written nothing is told
  abbrev pub mentions_faults : List Mention → List Position → List Fault
  mentions_faults [] places = []
  mentions_faults (m ∷ more) [] = []
  mentions_faults (m ∷ more) (at ∷ places) = told m.is_raw P2 at ++ (told m.is_wrong_key P13 at ++ mentions_faults more places)

  abbrev pub written_faults : TWritten → List Fault
  written_faults w = mentions_faults (named w.kind).mentions w.places
