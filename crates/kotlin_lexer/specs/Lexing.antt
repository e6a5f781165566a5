-- What the answer of the lexer is.
use Rattle.std.specs.Prelude.{ℕ, List}
use Rattle.j2k_base.specs.declared.places.Fault as faults
use Rattle.j2k_base.specs.declared.places.Phase.TheVariants.{KL}
use Rattle.kotlin_lexer.specs.declared.found.Code.{Code}
use Rattle.kotlin_lexer.specs.declared.found.Code.TheVariants.{Utf8, Character, Form, Large}
use Rattle.kotlin_lexer.specs.declared.found.LexFault.{LexFault}

-- the number of a fault's code (own rule)
abbrev pub number_of : Code → ℕ
number_of Utf8 = 1
number_of Character = 2
number_of Form = 3
number_of Large = 4

-- a fault of the file of a path (own rule)
abbrev pub fault_in : List ℕ → LexFault → faults.Fault
fault_in path f = record {
  phase = KL;
  number = number_of f.code;
  place = record { path = path; offset = f.position.offset; line = f.position.line; column = f.position.column };
}
