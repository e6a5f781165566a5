-- The exit status of a run.
use Rattle.std.specs.Prelude.{ℕ}
use Rattle.j2k_tool.specs.declared.status.Status.{Status}
use Rattle.j2k_tool.specs.declared.status.Status.TheVariants.{Done, Refused, Usage, ReadFault, WriteFault, NoMemory, NotEmpty, TooLarge, OutFault}

abbrev pub number_of : Status → ℕ
number_of Done = 0
number_of Refused = 1
number_of Usage = 2
number_of ReadFault = 3
number_of WriteFault = 4
number_of NoMemory = 5
number_of NotEmpty = 6
number_of TooLarge = 7
number_of OutFault = 8
