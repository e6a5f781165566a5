-- Objects and classes: construction, initializers, class initialization and calls do in Kotlin what they do in Java.
use Rattle.std.proofs.Common.{ℕ, List, [], ◌∷◌, Option, Some, None, refl}
use Rattle.meanings.specs.Values.{ClassName, Field, Site, Value, NoMore, AnObject, Alloc, Built, Put, Lib}
use Rattle.meanings.specs.Outcome.{Meaning, pure}
use Rattle.meanings.specs.Machine.{Place, sequence}
use Rattle.meanings.specs.Objects.{this_name, make, First, Nothing, This, Super, Row, constructs, initialized, constructed, put_own, static_text}
use Rattle.meanings.specs.Same.{no_exits, Kept, Exiting, SameMeaning, SamePlace}
use Rattle.meanings.proofs.SameLaws.{bind_same, step_same, pure_same, ask_value_same, ask_done_same, self_same, assign_same, apart_same, construct_same, touch_same}

-- what constructors do first
pub data SameFirst {kept : Kept} (x : Exiting kept) : First → First → Type 0 where
  no_first : SameFirst x Nothing Nothing
  this_first : (site : Site) {args args' : Meaning (List Value)} → SameMeaning kept x args args' → SameFirst x (This site args) (This site args')
  super_first : (site : Site) {args args' : Meaning (List Value)} → SameMeaning kept x args args' → SameFirst x (Super site args) (Super site args')
  row_first : (row : ℕ) {args args' : Meaning (List Value)} → SameMeaning kept x args args' → SameFirst x (Row row args) (Row row args')

-- the initializers in the order of the text; those that make no step may stand elsewhere (an unset property stands first in Kotlin)
pub data SameInits {kept : Kept} (x : Exiting kept) : List (Meaning (Unit {0})) → List (Meaning (Unit {0})) → Type 0 where
  no_inits : SameInits x [] []
  an_init : {m n : Meaning (Unit {0})} {ms ns : List (Meaning (Unit {0}))} → SameMeaning kept x m n → SameInits x ms ns → SameInits x (m ∷ ms) (n ∷ ns)
  kotlin_skips : {ms ns : List (Meaning (Unit {0}))} → SameInits x ms ns → SameInits x (pure tt ∷ ms) ns
  java_skips : {ms ns : List (Meaning (Unit {0}))} → SameInits x ms ns → SameInits x ms (pure tt ∷ ns)

module _ {kept : Kept} {x : Exiting kept} {k j : Place} (p : SamePlace k j) where
  -- ---- objects

  pub make_same : (class : ClassName) (site : Site) {args args' : Meaning (List Value)} → SameMeaning kept x args args' → SameMeaning kept x (make k class site args) (make j class site args')
  make_same class site ms =
      bind_same (step_same (touch_same p class) ms) (λ vs. bind_same (ask_value_same (Alloc (AnObject class NoMore))) (λ v. step_same (step_same (construct_same p site (v ∷ vs)) (ask_done_same (Built v))) (pure_same v)))

  -- ---- constructors

  constructs_same : (site : Site) {args args' : Meaning (List Value)} → SameMeaning kept x args args' → SameMeaning kept x (constructs k site args) (constructs j site args')
  constructs_same site ms = bind_same ms (λ vs. bind_same self_same (λ v. construct_same p site (v ∷ vs)))

  pub initialized_same : {inits inits' : Meaning (Unit {0})} → SameMeaning kept no_exits inits inits' → SameMeaning kept x (initialized inits) (initialized inits')
  initialized_same m = bind_same self_same (λ v. step_same (apart_same {kept' = kept} {x' = no_exits} (step_same (assign_same this_name v refl) m)) (pure_same tt))

  pub constructed_same : {f g : First} {inits inits' body body' : Meaning (Unit {0})} → SameFirst x f g → SameMeaning kept no_exits inits inits' → SameMeaning kept x body body' → SameMeaning kept x (constructed k f inits body) (constructed j g inits' body')
  constructed_same no_first inits body = step_same (initialized_same inits) body
  constructed_same (this_first site args) inits body = step_same (constructs_same site args) body
  constructed_same (super_first site args) inits body = step_same (step_same (constructs_same site args) (initialized_same inits)) body
  constructed_same (row_first row args) inits body = step_same (step_same (bind_same args (λ vs. bind_same self_same (λ v. ask_done_same (Lib row (v ∷ vs))))) (initialized_same inits)) body

  -- ---- initializers

  pub put_own_same : (field : Field) {e e' : Meaning Value} → SameMeaning kept x e e' → SameMeaning kept x (put_own field e) (put_own field e')
  put_own_same field m = bind_same m (λ v. bind_same self_same (λ o. ask_done_same (Put o field v)))

  pub inits_same : {ms ns : List (Meaning (Unit {0}))} → SameInits x ms ns → SameMeaning kept x (sequence ms) (sequence ns)
  inits_same no_inits = pure_same tt
  inits_same (an_init m ms) = step_same m (inits_same ms)
  inits_same (kotlin_skips ms) = let h = inits_same ms in record { by = λ al. h.by al }
  inits_same (java_skips ms) = let h = inits_same ms in record { by = λ al. h.by al }

  -- ---- class initialization: the superclass is touched first, in both

  pub static_text_same : (above : Option ClassName) {inits inits' : Meaning (Unit {0})} → SameMeaning kept x inits inits' → SameMeaning kept x (static_text k above inits) (static_text j above inits')
  static_text_same None m = m
  static_text_same (Some above) m = step_same (touch_same p above) m
