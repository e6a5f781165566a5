-- When a part of Kotlin does what a part of Java does.
use Rattle.std.specs.Prelude.{◌≡◌, ◌≢◌, ℕ, ◌&&◌, Bool, true, false, nat_lt, List, [], ◌∷◌}
use Rattle.meanings.specs.Values.{Name, ClassName, Site, Value, Step, Torn, Answer}
use Rattle.meanings.specs.Outcome.{Locals, get, State, Exit, Exits, Returns, Throws, Outcome, Asks, Busy, Gives, Jumps, Meaning}
use Rattle.meanings.specs.Machine.{Bodies, Place, apart}
use Rattle.meanings.specs.Program.{Program, Body, Initializer, Start, Next, thread}

-- a name of the conversion's own begins with a digit
abbrev pub is_fresh : Name → Bool
is_fresh [] = false
is_fresh (b ∷ name) = nat_lt 47 b && nat_lt b 58

-- the n-th of them
abbrev pub fresh : ℕ → Name
fresh n = 48 ∷ n ∷ []

-- the same situation, but for fresh names
pub record Alike (s t : State) : Type 0 where
  pub answers : s.answers ≡ t.answers
  pub n : s.n ≡ t.n
  pub locals : (x : Name) → is_fresh x ≡ false → get s.locals x ≡ get t.locals x

-- which fresh names keep their values
abbrev pub Kept : Type 0
Kept = ℕ → Bool

-- the kept names have the values that they had
pub record Keeps (kept : Kept) (before after : Locals) : Type 0 where
  pub at : (k : ℕ) → kept k ≡ true → get after (fresh k) ≡ get before (fresh k)

-- which exit of Kotlin, with the locals after it, stands for which of Java, and which names are kept there
pub record Exiting (kept : Kept) : Type 0 where
  pub low : Kept
  pub stands : Exit → Locals → Exit → Bool

-- what is kept by both
abbrev pub both : Kept → Kept → Kept
both kept low k = kept k && low k

-- an exit of Kotlin stands for one of Java, and what is kept there has the values that it had
pub record Stand {kept : Kept} (x : Exiting kept) (e : Exit) (before after : Locals) (e' : Exit) : Type 0 where
  pub is : x.stands e after e' ≡ true
  pub keeps : Keeps (both kept x.low) before after

-- where no exit comes
abbrev pub no_exits : {kept : Kept} → Exiting kept
no_exits = record { low = λ k. true; stands = λ e c e'. false }

-- The outcome of a part of Kotlin, from the locals `before`, and that of a part of Java. Nothing is said where Kotlin asks Torn,
-- nor where Java's part is undefined, which is written as Torn too.
pub data Same (kept : Kept) (x : Exiting kept) (before : Locals) {A : Type 0} : Outcome A → Outcome A → Type 0 where
  asks : (p : Step) → Same kept x before (Asks p) (Asks p)
  busy : Same kept x before Busy Busy
  gives : (a : A) {s t : State} → Alike s t → Keeps kept before s.locals → Same kept x before (Gives a s) (Gives a t)
  exits : {e e' : Exit} {s t : State} → Alike s t → Stand x e before s.locals e' → Same kept x before (Jumps (Exits e) s) (Jumps (Exits e') t)
  returns : (v : Value) {s t : State} → Alike s t → Keeps kept before s.locals → Same kept x before (Jumps (Returns v) s) (Jumps (Returns v) t)
  throws : (v : Value) {s t : State} → Alike s t → Keeps kept before s.locals → Same kept x before (Jumps (Throws v) s) (Jumps (Throws v) t)
  torn : (o : Outcome A) → Same kept x before (Asks Torn) o
  unreached : (o : Outcome A) → Same kept x before o (Asks Torn)

-- in every situation
pub record SameMeaning (kept : Kept) (x : Exiting kept) {A : Type 0} (k j : Meaning A) : Type 0 where
  pub by : {s t : State} → Alike s t → Same kept x s.locals (k s) (j t)

-- part by part
pub data AllSame (kept : Kept) (x : Exiting kept) {A : Type 0} : List (Meaning A) → List (Meaning A) → Type 0 where
  none : AllSame kept x [] []
  more : {k j : Meaning A} {ks js : List (Meaning A)} → SameMeaning kept x k j → AllSame kept x ks js → AllSame kept x (k ∷ ks) (j ∷ js)

-- what two texts call, as a caller sees it
pub record SameBodies (k j : Bodies) : Type 0 where
  pub method : (site : Site) (vs : List Value) (kept : Kept) (x : Exiting kept) → SameMeaning kept x (apart (k.method site vs)) (apart (j.method site vs))
  pub constructor : (site : Site) (vs : List Value) (kept : Kept) (x : Exiting kept) → SameMeaning kept x (apart (k.constructor site vs)) (apart (j.constructor site vs))
  pub lambda : (site : Site) (us vs : List Value) (kept : Kept) (x : Exiting kept) → SameMeaning kept x (apart (k.lambda site us vs)) (apart (j.lambda site us vs))
  pub initializer : (class : ClassName) (kept : Kept) (x : Exiting kept) → SameMeaning kept x (apart (k.initializer class)) (apart (j.initializer class))

-- a place of Kotlin and one of Java
pub record SamePlace (k j : Place) : Type 0 where
  pub bodies : SameBodies k.bodies j.bodies
  pub touches : (class : ClassName) → k.touches class ≡ j.touches class
  pub resolves : (site : Site) (v : Value) → k.resolves site v ≡ j.resolves site v
  pub classes : k.classes ≡ j.classes

-- ---- programs

-- a body begins with no fresh name
abbrev pub none_kept : Kept
none_kept k = false

-- none of these names is fresh
abbrev pub AllOld : List Name → Type 0
AllOld [] = Unit {0}
AllOld (x ∷ xs) = (is_fresh x ≡ false) × AllOld xs

-- two texts do the same at places that are the same
pub record SameText (k j : Place → Meaning (Unit {0})) : Type 0 where
  pub at : {p q : Place} → SamePlace p q → SameMeaning none_kept no_exits (k p) (j q)

-- two bodies stand at one place, take the same parameters and do the same
pub record SameBody (k j : Body) : Type 0 where
  pub site : k.site ≡ j.site
  pub parameters : k.parameters ≡ j.parameters
  pub old : AllOld j.parameters
  pub text : SameText k.text j.text

-- body by body
pub data SameTexts : List Body → List Body → Type 0 where
  no_texts : SameTexts [] []
  a_text : {k j : Body} {ks js : List Body} → SameBody k j → SameTexts ks js → SameTexts (k ∷ ks) (j ∷ js)

-- class by class
pub data SameInitializers : List Initializer → List Initializer → Type 0 where
  no_initializers : SameInitializers [] []
  an_initializer : {k j : Initializer} {ks js : List Initializer} → k.class ≡ j.class → SameText k.text j.text → SameInitializers ks js → SameInitializers (k ∷ ks) (j ∷ js)

-- the texts of two programs do the same, and the classes are the same
pub record SameProgram (k j : Program) : Type 0 where
  pub methods : SameTexts k.methods j.methods
  pub constructors : SameTexts k.constructors j.constructors
  pub lambdas : SameTexts k.lambdas j.lambdas
  pub initializers : SameInitializers k.initializers j.initializers
  pub is_idle : (class : ClassName) → k.is_idle class ≡ j.is_idle class
  pub touches : (own class : ClassName) → k.touches own class ≡ j.touches own class
  pub resolves : (site : Site) (v : Value) → k.resolves site v ≡ j.resolves site v
  pub classes : k.classes ≡ j.classes

-- where the texts of two programs do the same, so do their threads, unless one asks Torn
abbrev pub SameThreadsOf : Type 0
SameThreadsOf = (k j : Program) → SameProgram k j → (start : Start) (answers : List Answer) (n : ℕ) →
    thread k start answers n ≢ Next Torn → thread j start answers n ≢ Next Torn → thread k start answers n ≡ thread j start answers n
