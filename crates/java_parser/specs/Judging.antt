-- What is found of a file.
use Rattle.std.specs.Prelude.{◌≡◌, List, Some, length}
use Rattle.java_tree.specs.declared.tokens.JToken.{JToken}
use Rattle.java_tree.specs.Seen.{seen}
use Rattle.java_unit_grammar.specs.Reading as r
use Rattle.java_unit_parser.specs.declared.files.Declared.{Declared}
use Rattle.java_unit_parser.specs.Files.{declared_seen}
use Rattle.java_parser.specs.declared.parsing.Judged.{Judged}
use Rattle.java_parser.specs.declared.parsing.Judged.TheVariants as j
use Rattle.java_parser.specs.Spelling.{HasNoFlaw, IsFaulty}

-- No bracket of the file is at fault, and this is read.
pub record IsRead (list : List JToken) (x : Declared) : Type 0 where
  pub whole : HasNoFlaw (seen list)
  pub read : r.unit_read (length list) (seen list) ≡ declared_seen (Some x)

abbrev pub IsJudged : List JToken → Judged → Type 0
IsJudged list (j.Unit x) = IsRead list x
IsJudged list (j.Fault fault n) = IsFaulty list fault n
