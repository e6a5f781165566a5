-- What is declared in a program, and what is known of a world by its types.
use Rattle.std.specs.Prelude.{◌≡◌, ◌⊎◌, ℕ, ℤ, ◌<◌, ◌==◌, Bool, true, false, List, [], ◌∷◌, length, Option, Some, None, slice_get, slice_index_or, if◌then◌else◌}
use Rattle.meanings.specs.Values.{Name, same_name, ClassName, Field, same_field, Site, same_site, Kind, Value, Null, Integer, Units, Object, Array, Captured, Elements}
use Rattle.meanings.specs.Outcome.{Locals, get}
use Rattle.meanings.specs.Static.{KType, IntType, StringType, ClassType, ArrayType, Nullable}
use Rattle.meanings.specs.World.{World, ClassState, Untouched, Running, IsReady, IsFailed, state_of, content_at, stored}

-- a method or a constructor: the names and types of its parameters, and its result's
pub record Signature : Type 0 where
  pub site : Site
  pub parameters : List (Name × KType)
  pub result : KType

-- What is declared in a program. A place is required where it must be stored before it is read: its default isn't of its type.
pub record Table : Type 0 where
  pub methods : List Signature
  pub constructors : List Signature
  pub field_type : Field → KType
  pub required : Field → Bool
  -- the required fields of an object of a class, inherited ones among them
  pub needs : ClassName → Field → Bool
  pub static_type : Field → KType
  pub static_required : Field → Bool
  -- the required statics of a class
  pub needs_static : ClassName → Field → Bool
  -- the initializers of a calm class call nothing (own rule)
  pub calm : ClassName → Bool
  -- a class is the other or stands below it
  pub below : ClassName → ClassName → Bool
  -- the fields and statics whose default is not null
  pub defaults : List (Field × Value)

-- the signature of a site
abbrev pub find : List Signature → Site → Option Signature
find [] site = None
find (m ∷ ms) site = if same_site m.site site then Some m else find ms site

-- the type of a parameter
abbrev pub type_in : List (Name × KType) → Name → Option KType
type_in [] name = None
type_in (e ∷ rows) name = if same_name e.0 name then Some e.1 else type_in rows name

-- a default is of its type
abbrev pub Fits : Value → KType → Type 0
Fits v (Nullable type) = v ≡ Null
Fits v IntType = (kind : Kind) × (z : ℤ) × (v ≡ Integer kind z)
Fits v _ = ⊥

-- the default of each place that isn't required is of its type
pub record TypedDefaults (t : Table) : Type 0 where
  pub fields : (f : Field) → t.required f ≡ false → Fits (stored t.defaults f Null) (t.field_type f)
  pub statics : (f : Field) → t.static_required f ≡ false → Fits (stored t.defaults f Null) (t.static_type f)

-- ---- what is known of a world

-- what an object was made as: a typed view of the heap, which the values of a world don't carry
pub data Made : Type 0 where
  AnInstance : ClassName → Made
  AnArrayFor : KType → ℕ → Made

-- a world with what each of its objects was made as
pub record Known : Type 0 where
  pub shapes : List Made
  pub world : World

-- the field was stored
abbrev pub is_stored : List (Field × Value) → Field → Bool
is_stored [] f = false
is_stored (e ∷ more) f = if same_field e.0 f then true else is_stored more f

-- the fields that were stored in the object of a number
abbrev pub fields_at : Known → ℕ → List (Field × Value)
fields_at K k = (content_at K.world.heap (Some k)).fields

-- the elements of the array of a number
abbrev pub elements_at : Known → ℕ → List Value
elements_at K k = (content_at K.world.heap (Some k)).elements

-- the thread of this number runs the initialization
abbrev pub is_mine : ℕ → ClassState → Bool
is_mine i Untouched = false
is_mine i (Running owner) = owner == i
is_mine i IsReady = false
is_mine i IsFailed = false

-- what stays true, whichever thread goes on
pub record Later (K K' : Known) : Type 0 where
  pub shapes : (k : ℕ) (m : Made) → slice_get K.shapes k ≡ Some m → slice_get K'.shapes k ≡ Some m
  pub fields : (k : ℕ) (f : Field) → is_stored (fields_at K k) f ≡ true → is_stored (fields_at K' k) f ≡ true
  pub statics : (f : Field) → is_stored K.world.statics f ≡ true → is_stored K'.world.statics f ≡ true

-- what the other threads do between two steps of this one
pub record Between (i : ℕ) (K K' : Known) : Type 0 where
  pub later : Later K K'
  pub mine : (class : ClassName) → is_mine i (state_of K.world.classes class) ≡ is_mine i (state_of K'.world.classes class)

module _ (t : Table) where
  -- an object of the class or below it, each of whose required fields was stored
  pub record IsInstance (K : Known) (v : Value) (class : ClassName) : Type 0 where
    pub own : ClassName
    pub number : ℕ
    pub captured : Captured
    pub is : v ≡ Object own number captured
    pub shape : slice_get K.shapes number ≡ Some (AnInstance own)
    pub below : t.below own class ≡ true
    pub whole : (f : Field) → t.needs own f ≡ true → is_stored (fields_at K number) f ≡ true

  -- an array that was made for elements of this type
  pub record IsArray (K : Known) (v : Value) (type : KType) : Type 0 where
    pub elements : Elements
    pub size : ℕ
    pub number : ℕ
    pub is : v ≡ Array elements size number
    pub shape : slice_get K.shapes number ≡ Some (AnArrayFor type size)

  -- a number of some kind
  pub record IsNumber (v : Value) : Type 0 where
    pub kind : Kind
    pub whole : ℤ
    pub is : v ≡ Integer kind whole

  -- a String
  pub record IsText (v : Value) : Type 0 where
    pub units : List ℕ
    pub is : v ≡ Units units

  -- a value is of a type
  abbrev pub Has : Known → Value → KType → Type 0
  Has K v IntType = IsNumber v
  Has K v StringType = IsText v
  Has K v (ClassType class) = IsInstance K v class
  Has K v (ArrayType type) = IsArray K v type
  Has K v (Nullable type) = (v ≡ Null) ⊎ Has K v type

  -- an array has its length, and each element is of its type
  pub record ArrayOk (K : Known) (k : ℕ) (type : KType) (size : ℕ) : Type 0 where
    pub count : length (elements_at K k) ≡ size
    pub each : (j : ℕ) → j < size → Has K (slice_index_or (elements_at K k) j Null) type

  -- Each stored value has the type of its place, and a class that is ready has its required statics.
  pub record Ok (K : Known) : Type 0 where
    pub size : length K.shapes ≡ length K.world.heap
    pub defaults : K.world.defaults ≡ t.defaults
    pub fields : (k : ℕ) (f : Field) (other : Value) → is_stored (fields_at K k) f ≡ true → Has K (stored (fields_at K k) f other) (t.field_type f)
    pub statics : (f : Field) (other : Value) → is_stored K.world.statics f ≡ true → Has K (stored K.world.statics f other) (t.static_type f)
    pub arrays : (k : ℕ) (type : KType) (size : ℕ) → slice_get K.shapes k ≡ Some (AnArrayFor type size) → ArrayOk K k type size
    pub ready : (class : ClassName) → state_of K.world.classes class ≡ IsReady → (f : Field) → t.needs_static class f ≡ true → is_stored K.world.statics f ≡ true

  -- what a step leaves
  pub record Moved (K K' : Known) : Type 0 where
    pub ok : Ok K'
    pub later : Later K K'

  -- values of these parameters
  abbrev pub HasAll : Known → List Value → List (Name × KType) → Type 0
  HasAll K [] [] = Unit {0}
  HasAll K (v ∷ vs) (p ∷ ps) = Has K v p.1 × HasAll K vs ps
  HasAll K _ _ = ⊥

  -- each parameter has its type
  abbrev pub Holds : Known → Locals → List (Name × KType) → Type 0
  Holds K l parameters = (x : Name) (type : KType) → type_in parameters x ≡ Some type → Has K (get l x) type
