-- The facts of classes, each with those above it.
use Rattle.std.specs.Prelude.{◌≡◌, ℕ, zero, suc, Bool, true, false, not, ◌&&◌, ◌||◌, List, [], ◌∷◌, Option, Some, None, if◌then◌else◌}
use Rattle.facts.specs.Uses.{Uses, Writes, ThisField, one, keeps_this}
use Rattle.facts.specs.Items.{Item, Reading, java, kotlin, done, items_use, nothing_done, calm_items, with_unset, no_name}
use Rattle.facts.specs.Layout.{laid}

pub record Class (C N : Type 0) : Type 0 where
  pub name : C
  pub above : Option C
  pub is_interface : Bool
  -- the initializers of the class and of its objects
  pub statics : List (Item C N)
  pub fields : List (Item C N)
  -- what its constructors use, and whether they or the initializers of its objects call an accessor on `this`, which in the uses
  -- is the field that it stands for
  pub constructors : Uses C N
  pub calls_accessor : Bool

-- a test tells each class as itself and from all others
pub record TellsApart {C : Type 0} (same_class : C → C → Bool) : Type 0 where
  pub self : (c : C) → same_class c c ≡ true
  pub apart : (c d : C) → (c ≡ d → ⊥) → same_class c d ≡ false

-- what holds of the class above, if there is one
abbrev pub above_by : {C : Type 0} → (C → Bool) → Option C → Bool
above_by of None = true
above_by of (Some name) = of name

module _ {C N : Type 0} (same_class : C → C → Bool) where
  -- a class that isn't listed is none of the project
  abbrev pub find : List (Class C N) → C → Option (Class C N)
  find [] name = None
  find (x ∷ more) name = if same_class x.name name then Some x else find more name

  -- ---- what holds of a class and of those above it, of which there are fewer than n

  abbrev pub with_above : (Class C N → Bool) → (C → Bool) → Option (Class C N) → Bool
  with_above own of None = true
  with_above own of (Some x) = own x && above_by of x.above

  abbrev pub throughout : (Class C N → Bool) → List (Class C N) → ℕ → C → Bool
  throughout own classes zero name = false
  throughout own classes (suc n) name = with_above own (throughout own classes n) (find classes name)

-- stores into a static of a class, and into a field of `this`
abbrev pub stores_static : {C N : Type 0} → C → N → Uses C N
stores_static class name = one (Writes class name)

abbrev pub stores_field : {C N : Type 0} → N → Uses C N
stores_field name = one ThisField

-- What is asked of one class: whether its own static initializers are calm, what they do, and whether its constructors and the
-- initializers of its objects keep `this`.
pub record Language (C N : Type 0) : Type 0 where
  pub is_calm : Class C N → Bool
  pub reads : (N → Uses C N) → Reading C N
  pub keeps : Class C N → Bool

module _ {C N : Type 0} (same_class : C → C → Bool) (same : N → N → Bool) where
  abbrev pub own_keeps : Class C N → Bool
  own_keeps x = x.constructors keeps_this && items_use x.fields keeps_this

  abbrev pub in_java : Language C N
  in_java = record {
    is_calm = λ x. calm_items same (same_class x.name) (with_unset same (same_class x.name) x.statics no_name) x.statics;
    reads = java;
    keeps = λ x. own_keeps x && not x.calls_accessor;
  }

  -- where each field has a value or is declared, none is unset, and there are no accessors
  abbrev pub in_kotlin : Language C N
  in_kotlin = record { is_calm = λ x. calm_items same (same_class x.name) no_name x.statics; reads = kotlin; keeps = own_keeps }

  module _ (l : Language C N) (classes : List (Class C N)) (n : ℕ) where
    -- In the constructors and the initializers of the objects of the class and of those above it `this` is nowhere but before the
    -- name of a field.
    abbrev pub closed : C → Bool
    closed = throughout same_class l.keeps classes n

    -- the static initializers of the class and of those above it use nothing but their own statics that stand earlier
    abbrev pub calm : C → Bool
    calm = throughout same_class l.is_calm classes n

    -- whether a default of a class may lead, of its statics and of the fields of its objects
    abbrev pub statics_lead : Class C N → Bool
    statics_lead x = above_by calm x.above

    abbrev pub fields_lead : Class C N → Bool
    fields_lead x = above_by closed x.above

    -- what the static initializers of one class do
    abbrev pub statics_do : Class C N → Bool
    statics_do x = nothing_done (done (l.reads (stores_static x.name)) (statics_lead x) x.statics)

    -- the class and those above it have no static initializers but constants and leading defaults
    abbrev pub idle : C → Bool
    idle = throughout same_class statics_do classes n

    abbrev pub is_interface_by : Option (Class C N) → Bool
    is_interface_by None = true
    is_interface_by (Some x) = x.is_interface

    -- whether a use of a static of a class, at a place in the text of another, may begin its initialization
    abbrev pub touches : C → C → Bool
    touches here class = not (idle class || is_interface_by (find same_class classes class) || (same_class here class && calm class))

    -- the class as it is laid out
    abbrev pub laid_class : Class C N → Class C N
    laid_class x = record {
      name = x.name;
      above = x.above;
      is_interface = x.is_interface;
      statics = laid (stores_static x.name) (statics_lead x) x.statics;
      fields = laid stores_field (fields_lead x) x.fields;
      constructors = x.constructors;
      calls_accessor = false;
    }
