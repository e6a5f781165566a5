-- The runs of initializers and constructors, as far as what they use says what they may do.
use Rattle.std.specs.Prelude.{◌≡◌, Bool, true, false, List, [], ◌∷◌, ◌++◌, Option, Some, None}
use Rattle.facts.specs.Uses.{Use, Reads, Writes, Calls, ThisField, This, Further, Uses, Among, both}
use Rattle.facts.specs.Items.{Done, Stores, Does, items_use}
use Rattle.facts.specs.Classes.{Class, find}

pub data Event (C N : Type 0) : Type 0 where
  -- a static is read, and stored
  Fetches : C → N → Event C N
  Stored : C → N → Event C N
  -- the initialization of another class begins
  Begins : C → Event C N
  -- other text of the project begins to run: a method, a constructor, a lambda
  Enters : Event C N
  -- a field of `this` is read or stored
  OwnField : Event C N
  -- `this` is handed on, so that other text may come by it
  Shows : Event C N
  -- other text uses the object that is being made
  Meets : Event C N

module _ {C N : Type 0} where
  -- what other text does to the object that is being made: nothing, unless it was shown
  pub data Others : Bool → List (Event C N) → Type 0 where
    nothing : (b : Bool) → Others b []
    meets : (es : List (Event C N)) → Others true es → Others true (Meets ∷ es)

  -- A use in the text of a class does this; the flags tell whether `this` was shown before and is behind it.
  pub data Acts (own : C) : Use C N → Bool → List (Event C N) → Bool → Type 0 where
    reads : (c : C) (f : N) (b : Bool) → Acts own (Reads c f) b (Fetches c f ∷ []) b
    writes : (c : C) (f : N) (b : Bool) → Acts own (Writes c f) b (Stored c f ∷ []) b
    -- a use of another class's static may begin its initialization, which is other text
    reads_first : (c : C) (f : N) (b : Bool) (es : List (Event C N)) → (own ≡ c → ⊥) → Others b es → Acts own (Reads c f) b (Begins c ∷ es ++ Fetches c f ∷ []) b
    writes_first : (c : C) (f : N) (b : Bool) (es : List (Event C N)) → (own ≡ c → ⊥) → Others b es → Acts own (Writes c f) b (Begins c ∷ es ++ Stored c f ∷ []) b
    calls : (c : C) (m : N) (b : Bool) (es : List (Event C N)) → Others b es → Acts own (Calls c m) b (Enters ∷ es) b
    calls_first : (c : C) (m : N) (b : Bool) (es : List (Event C N)) → Others b es → Acts own (Calls c m) b (Begins c ∷ Enters ∷ es) b
    this_field : (b : Bool) → Acts own ThisField b (OwnField ∷ []) b
    this : (b : Bool) → Acts own This b (Shows ∷ []) true
    further : (b : Bool) → Acts own Further b [] b
    further_enters : (b : Bool) (es : List (Event C N)) → Others b es → Acts own Further b (Enters ∷ es) b

  -- a run of a part: some of what it uses, in any order and however often
  pub data Runs (own : C) (uses : Uses C N) : Bool → List (Event C N) → Bool → Type 0 where
    ends : (b : Bool) → Runs own uses b [] b
    acts : (x : Use C N) (b d e : Bool) (es fs : List (Event C N)) → Among x uses → Acts own x b es d → Runs own uses d fs e → Runs own uses b (es ++ fs) e

  -- initializers one after another, which an exception may end at any moment
  pub data Initializes (own : C) : List (Done C N) → Bool → List (Event C N) → Bool → Type 0 where
    ends : (ds : List (Done C N)) (b : Bool) → Initializes own ds b [] b
    breaks : (name : N) (uses : Uses C N) (ds : List (Done C N)) (b d : Bool) (es : List (Event C N)) → Runs own uses b es d → Initializes own (Stores name uses ∷ ds) b es d
    stores : (name : N) (uses : Uses C N) (ds : List (Done C N)) (b d e : Bool) (es fs : List (Event C N)) → Runs own uses b es d → Initializes own ds d fs e → Initializes own (Stores name uses ∷ ds) b (es ++ Stored own name ∷ fs) e
    does : (uses : Uses C N) (ds : List (Done C N)) (b d e : Bool) (es fs : List (Event C N)) → Runs own uses b es d → Initializes own ds d fs e → Initializes own (Does uses ∷ ds) b (es ++ fs) e

module _ {C N : Type 0} (same_class : C → C → Bool) (classes : List (Class C N)) where
  -- what the initializers of a class do in a language, where its defaults lead or not
  module _ (does : Class C N → List (Done C N)) where
    mutual
      -- the initialization of a class, behind that of the class above
      pub data Initialization : C → List (Event C N) → Type 0 where
        unlisted : (c : C) → find same_class classes c ≡ None → Initialization c []
        begins : (c : C) (x : Class C N) (d : Bool) (es fs : List (Event C N)) → find same_class classes c ≡ Some x → Above x.above es → Initializes x.name (does x) false fs d → Initialization c (es ++ fs)

      pub data Above : Option C → List (Event C N) → Type 0 where
        none : Above None []
        already : (c : C) → Above (Some c) []
        first : (c : C) (es : List (Event C N)) → Initialization c es → Above (Some c) es

  mutual
    -- The construction of an object: arguments, the constructor of the class above, and what the class's own constructors and
    -- initializers do.
    pub data Construction : C → Bool → List (Event C N) → Bool → Type 0 where
      unlisted : (c : C) (b : Bool) → find same_class classes c ≡ None → Construction c b [] b
      constructs : (c : C) (x : Class C N) (b d e f : Bool) (es fs gs : List (Event C N)) → find same_class classes c ≡ Some x → Runs x.name x.constructors b es d → Super x.above d fs e → Runs x.name (both x.constructors (items_use x.fields)) e gs f → Construction c b (es ++ (fs ++ gs)) f

    pub data Super : Option C → Bool → List (Event C N) → Bool → Type 0 where
      none : (b : Bool) → Super None b [] b
      first : (c : C) (b d : Bool) (es : List (Event C N)) → Construction c b es d → Super (Some c) b es d

-- ---- what runs are said to do

module _ {C N : Type 0} where
  -- nothing but reads and stores of statics
  abbrev pub OnlyStatics : List (Event C N) → Type 0
  OnlyStatics [] = Unit {0}
  OnlyStatics (Fetches c f ∷ es) = OnlyStatics es
  OnlyStatics (Stored c f ∷ es) = OnlyStatics es
  OnlyStatics (_ ∷ es) = ⊥

  -- each static that is read is one of those
  abbrev pub ReadsOf : (C → N → Type 0) → List (Event C N) → Type 0
  ReadsOf These [] = Unit {0}
  ReadsOf These (Fetches c f ∷ es) = These c f × ReadsOf These es
  ReadsOf These (_ ∷ es) = ReadsOf These es

  -- the object isn't handed on, and no other text uses it
  abbrev pub Hidden : List (Event C N) → Type 0
  Hidden [] = Unit {0}
  Hidden (Shows ∷ es) = ⊥
  Hidden (Meets ∷ es) = ⊥
  Hidden (_ ∷ es) = Hidden es
