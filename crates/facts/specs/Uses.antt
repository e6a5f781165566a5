-- What a part of a program uses, in words of no language.
use Rattle.std.specs.Prelude.{◌≡◌, Bool, true, false, not, ◌&&◌, List, [], ◌∷◌}

-- C are the classes, N the names of the members of one class
pub data Use (C N : Type 0) : Type 0 where
  -- of a static that is no constant, by its declaration, whatever class is named before it
  Reads : C → N → Use C N
  Writes : C → N → Use C N
  -- of a static method of the project
  Calls : C → N → Use C N
  -- `this` before the name of a field, and any other `this`
  ThisField : Use C N
  This : Use C N
  -- What no fact allows: other calls, new objects of the project's classes, new arrays, lambdas, class literals, members and
  -- elements of a value, texts of a value of the project.
  Further : Use C N

-- The uses of a part, by what each test says of them: whether all pass. Their order and number don't count.
abbrev pub Uses : Type 0 → Type 0 → Type 0
Uses C N = (Use C N → Bool) → Bool

module _ {C N : Type 0} where
  abbrev pub none : Uses C N
  none test = true

  abbrev pub one : Use C N → Uses C N
  one x test = test x

  abbrev pub both : Uses C N → Uses C N → Uses C N
  both a b test = a test && b test

  abbrev pub all : List (Uses C N) → Uses C N
  all [] = none
  all (x ∷ more) = both x (all more)

  abbrev pub where_so : Bool → Uses C N → Uses C N
  where_so true uses = uses
  where_so false uses = none

  -- a use is among those of a part: it passes whatever all of them pass
  abbrev pub Among : Use C N → Uses C N → Type 0
  Among x uses = (test : Use C N → Bool) → uses test ≡ true → test x ≡ true

  -- ---- `this`

  abbrev pub is_no_this : Use C N → Bool
  is_no_this ThisField = false
  is_no_this This = false
  is_no_this _ = true

  -- whether a part names `this`
  abbrev pub mentions_this : Uses C N → Bool
  mentions_this uses = not (uses is_no_this)

  -- `this` is nowhere but before the name of a field
  abbrev pub keeps_this : Use C N → Bool
  keeps_this This = false
  keeps_this _ = true

  -- a lambda, and the `this` that it captures
  abbrev pub lambda : Bool → Uses C N
  lambda captures = both (one Further) (where_so captures (one This))

-- Of an expression: whether it is the word `this`, a constant of value 0, false or '\0', the literal null, and what it uses.
pub record Used (C N : Type 0) : Type 0 where
  pub is_this : Bool
  pub is_zero : Bool
  pub is_null : Bool
  pub uses : Uses C N

module _ {C N : Type 0} where
  abbrev pub using : Uses C N → Used C N
  using uses = record { is_this = false; is_zero = false; is_null = false; uses = uses }

  abbrev pub this_used : Used C N
  this_used = record { is_this = true; is_zero = false; is_null = false; uses = one This }

  abbrev pub null_used : Used C N
  null_used = record { is_this = false; is_zero = false; is_null = true; uses = none }

  -- a constant expression uses nothing
  abbrev pub constant_used : Bool → Used C N
  constant_used is_zero = record { is_this = false; is_zero = is_zero; is_null = false; uses = none }

  -- in parentheses a constant and null are the same, and `this` is no longer the word before a dot
  abbrev pub paren_used : Used C N → Used C N
  paren_used e = record { is_this = false; is_zero = e.is_zero; is_null = e.is_null; uses = e.uses }

  -- a field of a value
  abbrev pub member_uses : Bool → Uses C N → Uses C N
  member_uses true uses = one ThisField
  member_uses false uses = both uses (one Further)

  abbrev pub member : Used C N → Uses C N
  member e = member_uses e.is_this e.uses
