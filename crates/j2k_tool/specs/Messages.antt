-- What is printed.
use Rattle.std.specs.Prelude.{ℕ, List}
use Rattle.j2k_tool.specs.declared.answers.Message.{Message}
use Rattle.j2k_tool.specs.declared.answers.Message.TheVariants.{Fixed, Made}

abbrev pub message_text : Message → List ℕ
message_text (Fixed text) = text.now
message_text (Made text) = text
