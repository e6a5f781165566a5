-- The rows of the library, which have no project code in them.
use Rattle.std.specs.Prelude.{List, []}
use Rattle.meanings.specs.Values.{Field, Value, Answer}

-- An object on the heap: the fields that were stored, the newest first, and what it holds:
-- the elements of an array, or what an object of the library is made of.
pub record Content : Type 0 where
  pub fields : List (Field × Value)
  pub elements : List Value

-- what a call of the library makes of the heap, and its answer
abbrev pub Row : Type 0
Row = List Content → List Value → List Content × Answer

-- there is no row yet
abbrev pub library : List Row
library = []
