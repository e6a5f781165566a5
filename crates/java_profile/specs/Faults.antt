-- Rules of the profile, and where they are broken. Each refuses Java that is legal, and whose Kotlin would be none or would do something
-- else.
use Rattle.std.specs.Prelude.{ℕ, Bool, true, false, List, [], ◌∷◌}
use Rattle.java_tree.specs.declared.tokens.Position.{Position}

pub data Rule : Type 0 where
  -- a class below one of the library other than Object, Runnable and the throwables
  P1 : Rule
  -- a generic class without type arguments (JLS 4.8)
  P2 : Rule
  -- a cast or a test to a type variable or a type with arguments, an array of either
  P3 : Rule
  -- an array where one of another component type is expected, a cast of arrays
  P4 : Rule
  -- `==` of two references, of which one is a String, a box, an Object or of a type variable
  P5 : Rule
  -- a lock on a String or a box
  P6 : Rule
  -- a static member through an expression, an instance constant other than by its simple name
  P7 : Rule
  -- a text of a value that has none of its own
  P8 : Rule
  -- `?:` of a box and a primitive value
  P9 : Rule
  -- a local of a group of a switch in another group
  P10 : Rule
  -- a field of an interface that is no constant
  P11 : Rule
  -- a package-private method that a subclass in another package declares again
  P12 : Rule
  -- keys of maps, and receivers of `equals`, that Kotlin compares otherwise
  P13 : Rule
  -- two methods or constructors that calls could confuse
  P14 : Rule
  -- a field that hides one of a superclass, and `message` in a throwable
  P15 : Rule
  -- an unset field below a class that isn't closed, an unset static below one that isn't calm
  P16 : Rule
  P17 : Rule
  -- what can't be kept behind the jumps out of a synchronized block, and a final field in a switch that falls through
  P18 : Rule
  -- an assignment to a parameter in the arguments of `this(..)` or `super(..)`
  P19 : Rule
  -- more than 100 parameters, more than 1,000 labels of a switch
  P20 : Rule

abbrev pub number_of : Rule → ℕ
number_of P1 = 1
number_of P2 = 2
number_of P3 = 3
number_of P4 = 4
number_of P5 = 5
number_of P6 = 6
number_of P7 = 7
number_of P8 = 8
number_of P9 = 9
number_of P10 = 10
number_of P11 = 11
number_of P12 = 12
number_of P13 = 13
number_of P14 = 14
number_of P15 = 15
number_of P16 = 16
number_of P17 = 17
number_of P18 = 18
number_of P19 = 19
number_of P20 = 20

pub record Fault : Type 0 where
  pub rule : Rule
  pub at : Position

abbrev pub fault : Rule → Position → Fault
fault rule at = record { rule = rule; at = at }

-- where a rule is broken, at a place
abbrev pub told : Bool → Rule → Position → List Fault
told true rule at = fault rule at ∷ []
told false rule at = []
