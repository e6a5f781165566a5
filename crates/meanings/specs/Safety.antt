-- Programs whose typing keeps Torn away: what a part may ask, whatever the world answers.
use Rattle.std.specs.Prelude.{◌≡◌, ◌≢◌, ℕ, Bool, true, false, List, [], ◌∷◌, map, Some, None, slice_get}
use Rattle.meanings.specs.Values.{Name, same_name, ClassName, same_class, Field, Site, Value, Object, Captured, Step, Torn, Start, Answer}
use Rattle.meanings.specs.Outcome.{Locals, get, Jump, Exits, Returns, Throws, Outcome, Asks, Busy, Gives, Jumps, Meaning}
use Rattle.meanings.specs.Static.{KType, Nullable}
use Rattle.meanings.specs.Machine.{Bodies}
use Rattle.meanings.specs.Program.{Program, Body, Initializer, Start as ThreadStart, Enters, Runs, place, thread, thread_at}
use Rattle.meanings.specs.World.{World, ClassState, state_of, answer}
use Rattle.meanings.specs.Runs.{Thread, run, NeverTorn}
use Rattle.meanings.specs.Laws.{SameAtEveryDepth}
use Rattle.meanings.specs.Objects.{this_name}
use Rattle.meanings.specs.Tables.{Signature, Table, find, type_in, Made, AnInstance, Known, is_stored, fields_at, is_mine, Between, Has, HasAll, Holds, Ok, Moved}

-- a part's outcome by the answers to come
abbrev pub Plan : Type 0 → Type 0
Plan A = List Answer → Outcome A

-- the outcome of a meaning from these locals, with this much of n
abbrev pub at : {A : Type 0} → Meaning A → Locals → ℕ → Plan A
at m l n xs = m (record { locals = l; answers = xs; n = n })

-- a step that is no Torn and starts no thread
abbrev pub Fine : Step → Type 0
Fine p = (p ≢ Torn) × ((v : Value) → p ≢ Start v)

-- a later world, in which more was made
abbrev pub with_made : Known → (List Made → List Made) → World → Known
with_made K grow w = record { shapes = grow K.shapes; world = w }

module _ (t : Table) (i : ℕ) where
  -- Whatever the others do and the world answers, the part asks fine steps that keep each world Ok, and ends as Q and J say.
  pub data Safe {A : Type 0} (Q : Known → A → Locals → Type 0) (J : Known → Jump → Locals → Type 0) : Known → Plan A → Type 0 where
    asks : {K : Known} {b : Plan A} (p : Step) (grow : List Made → List Made) → b [] ≡ Asks p → Fine p
        → ((K' : Known) → Between i K K' → Ok t K' → (w : World) (a : Answer) → answer K'.world i p ≡ Some (w, a) → Moved t K' (with_made K' grow w))
        → ((K' : Known) → Between i K K' → Ok t K' → (w : World) (a : Answer) → answer K'.world i p ≡ Some (w, a) → Safe Q J (with_made K' grow w) (λ xs. b (a ∷ xs)))
        → Safe Q J K b
    is_busy : {K : Known} {b : Plan A} → ((xs : List Answer) → b xs ≡ Busy) → Safe Q J K b
    gives : {K : Known} {b : Plan A} (a : A) (l : Locals) (n : ℕ) → ((xs : List Answer) → b xs ≡ Gives a (record { locals = l; answers = xs; n = n })) → Q K a l → Safe Q J K b
    jumps : {K : Known} {b : Plan A} (j : Jump) (l : Locals) (n : ℕ) → ((xs : List Answer) → b xs ≡ Jumps j (record { locals = l; answers = xs; n = n })) → J K j l → Safe Q J K b

  -- a meaning from these locals, with this much of n
  pub record Sound {A : Type 0} (Q : Known → A → Locals → Type 0) (J : Known → Jump → Locals → Type 0) (K : Known) (m : Meaning A) (l : Locals) (n : ℕ) : Type 0 where
    pub by : Safe Q J K (at m l n)

  -- the required statics of a class are stored
  abbrev pub Settled : Known → ClassName → Type 0
  Settled K class = (f : Field) → t.needs_static class f ≡ true → is_stored K.world.statics f ≡ true

  -- this thread initializes no calm class
  abbrev pub FreeIn : List (ClassName × ClassState) → Type 0
  FreeIn classes = (class : ClassName) → t.calm class ≡ true → is_mine i (state_of classes class) ≡ false

  -- none but this one
  abbrev pub FreeButIn : ClassName → List (ClassName × ClassState) → Type 0
  FreeButIn own classes = (class : ClassName) → same_class own class ≡ false → t.calm class ≡ true → is_mine i (state_of classes class) ≡ false

  -- how a body ends
  abbrev pub Ends : KType → Known → Unit {0} → Locals → Type 0
  Ends result K u l = FreeIn K.world.classes × ((type : KType) × (result ≡ Nullable type))

  -- how it is left
  abbrev pub Leaves : KType → Known → Jump → Locals → Type 0
  Leaves result K (Returns v) l = FreeIn K.world.classes × Has t K v result
  Leaves result K (Throws v) l = FreeIn K.world.classes
  Leaves result K (Exits e) l = ⊥

  -- by an exception alone
  abbrev pub OnlyThrows : Known → Jump → Locals → Type 0
  OnlyThrows K (Returns v) l = ⊥
  OnlyThrows K (Throws v) l = FreeIn K.world.classes
  OnlyThrows K (Exits e) l = ⊥

  -- how initializers are left
  abbrev pub Started : ClassName → Known → Jump → Locals → Type 0
  Started class K (Returns v) l = FreeButIn class K.world.classes × Settled K class
  Started class K (Throws v) l = FreeButIn class K.world.classes
  Started class K (Exits e) l = ⊥

  -- the bodies that a text enters do what the table says of them
  pub record BodiesOk (b : Bodies) : Type 0 where
    pub method : (site : Site) (m : Signature) → find t.methods site ≡ Some m → (K : Known) (n : ℕ) (vs : List Value) → FreeIn K.world.classes → Settled K m.site.class → HasAll t K vs m.parameters
        → Sound (Ends m.result) (Leaves m.result) K (b.method site vs) [] n
    pub constructor : (site : Site) (m : Signature) → find t.constructors site ≡ Some m → (K : Known) (n k : ℕ) (captured : Captured) (vs : List Value) → FreeIn K.world.classes → Settled K m.site.class
        → slice_get K.shapes k ≡ Some (AnInstance m.site.class) → HasAll t K vs m.parameters
        → Sound (λ K' u l. FreeIn K'.world.classes × ((f : Field) → t.needs m.site.class f ≡ true → is_stored (fields_at K' k) f ≡ true)) OnlyThrows K (b.constructor site (Object m.site.class k captured ∷ vs)) [] n
    pub initializer : (class : ClassName) (K : Known) (n : ℕ) → FreeButIn class K.world.classes
        → Sound (λ K' u l. FreeButIn class K'.world.classes × Settled K' class) (Started class) K (b.initializer class) [] n

  -- the object of a construction has its required fields
  abbrev pub Whole : ClassName → ℕ → Known → Unit {0} → Locals → Type 0
  Whole class k K u l = FreeIn K.world.classes × ((f : Field) → t.needs class f ≡ true → is_stored (fields_at K k) f ≡ true)

-- ---- typed programs

-- no two parameters are one name
abbrev pub Different : List (Name × KType) → Type 0
Different [] = Unit {0}
Different (p ∷ ps) = ((y : Name) → same_name p.0 y ≡ true → type_in ps y ≡ None) × Different ps

-- the names of parameters
abbrev pub names_of : List (Name × KType) → List Name
names_of parameters = map (λ p. p.0) parameters

-- a name that is no parameter has no value yet
abbrev pub Unset : Locals → List (Name × KType) → Type 0
Unset l parameters = (x : Name) → type_in parameters x ≡ None → get l x ≡ get [] x

-- the one where the test holds, else the other
abbrev pub By : Bool → Type 0 → Type 0 → Type 0
By true P Q = P
By false P Q = Q

module _ (t : Table) (program : Program) where
  -- the text of a method does what its signature says, in each thread
  pub record TypedMethod (m : Signature) (body : Body) : Type 0 where
    pub site : body.site ≡ m.site
    pub parameters : body.parameters ≡ names_of m.parameters
    pub different : Different m.parameters
    pub text : (i : ℕ) (b : Bodies) → BodiesOk t i b → (K : Known) (l : Locals) (n : ℕ) → FreeIn t i K.world.classes → Settled t i K m.site.class → Holds t K l m.parameters → Unset l m.parameters →
        Sound t i (Ends t i m.result) (Leaves t i m.result) K (body.text (place program b m.site.class)) l n

  -- so does that of a constructor, which leaves its object with the required fields
  pub record TypedConstructor (m : Signature) (body : Body) : Type 0 where
    pub site : body.site ≡ m.site
    pub parameters : body.parameters ≡ this_name ∷ names_of m.parameters
    pub different : Different m.parameters
    pub no_this : type_in m.parameters this_name ≡ None
    pub text : (i : ℕ) (b : Bodies) → BodiesOk t i b → (K : Known) (l : Locals) (n k : ℕ) (captured : Captured) → FreeIn t i K.world.classes → Settled t i K m.site.class →
        get l this_name ≡ Object m.site.class k captured → slice_get K.shapes k ≡ Some (AnInstance m.site.class) → Holds t K l m.parameters →
        Sound t i (Whole t i m.site.class k) (OnlyThrows t i) K (body.text (place program b m.site.class)) l n

  -- the initializers of a class leave it with its required statics
  pub record TypedInitializer (first : Initializer) : Type 0 where
    pub text : (i : ℕ) (b : Bodies) → BodiesOk t i b → (K : Known) (n : ℕ) → FreeButIn t i first.class K.world.classes →
        Sound t i (λ K' u l. FreeButIn t i first.class K'.world.classes × Settled t i K' first.class) (Started t i first.class) K (first.text (place program b first.class)) [] n

  -- body by body
  abbrev pub AllMethods : List Signature → List Body → Type 0
  AllMethods [] [] = Unit {0}
  AllMethods (m ∷ ms) (body ∷ bodies) = TypedMethod m body × AllMethods ms bodies
  AllMethods _ _ = ⊥

  abbrev pub AllConstructors : List Signature → List Body → Type 0
  AllConstructors [] [] = Unit {0}
  AllConstructors (m ∷ ms) (body ∷ bodies) = TypedConstructor m body × AllConstructors ms bodies
  AllConstructors _ _ = ⊥

  -- class by class; a class without initializers has no required static
  abbrev pub AllInitializers : List Initializer → ClassName → Type 0
  AllInitializers [] class = (f : Field) → t.needs_static class f ≡ true → ⊥
  AllInitializers (first ∷ rest) class = By (same_class first.class class) (TypedInitializer first) (AllInitializers rest class)

  -- the texts of a program do what the table says; a class with a required static is calm and isn't idle
  pub record TypedProgram : Type 0 where
    pub methods : AllMethods t.methods program.methods
    pub constructors : AllConstructors t.constructors program.constructors
    pub initializers : (class : ClassName) → AllInitializers program.initializers class
    pub calm : (class : ClassName) (f : Field) → t.needs_static class f ≡ true → t.calm class ≡ true
    pub idle : (class : ClassName) (f : Field) → t.needs_static class f ≡ true → program.is_idle class ≡ false

-- a thread enters a method of the table, with values of its parameters
abbrev pub EntersWell : Table → Known → ThreadStart → Type 0
EntersWell t K (Enters site vs) = (m : Signature) × (find t.methods site ≡ Some m) × HasAll t K vs m.parameters
EntersWell t K (Runs v) = ⊥

-- so does each thread, which had no answer yet
abbrev pub AllEnter : Table → Known → List Thread → Type 0
AllEnter t K [] = Unit {0}
AllEnter t K (thread ∷ ts) = EntersWell t K thread.start × (thread.had ≡ []) × AllEnter t K ts

-- No run of a typed program asks Torn: for each first world, threads, bound and schedule, with bodies to each depth, and so where the depth doesn't matter.
pub record Untorn (program : Program) (K : Known) (ts : List Thread) : Type 0 where
  pub at_depth : (d n : ℕ) (schedule : List ℕ) → NeverTorn (run (thread_at program d) n K.world ts schedule)
  pub whole : SameAtEveryDepth program → (n : ℕ) (schedule : List ℕ) → NeverTorn (run (thread program) n K.world ts schedule)

abbrev pub NeverTornWhereTyped : Type 0
NeverTornWhereTyped = (t : Table) (program : Program) → TypedProgram t program → (K : Known) → Ok t K → K.world.classes ≡ [] → (ts : List Thread) → AllEnter t K ts → Untorn program K ts
