-- What a file declares of which every run is spelled.
use Rattle.std.specs.Prelude.{◌≡◌, List, ◌++◌, length, map, Option}
use Rattle.std.specs.List.{AllByRecursion}
use Rattle.java_tree.specs.Seen.{Tokens}
use Rattle.java_member_grammar.specs.declared.lines.JPackage.{JPackage}
use Rattle.java_member_grammar.specs.declared.lines.JImport.{JImport}
use Rattle.java_member_grammar.specs.Heads.{import_tokens}
use Rattle.java_unit_grammar.specs.declared.statements.JMember.{JMember}
use Rattle.java_unit_grammar.specs.Tokens.{joined, whole_member_tokens, package_part}
use Rattle.java_unit_grammar.specs.Standing.{FileStands}

-- The package line, the imports and the types spell the tokens, and the types stand.
pub record Assembled (ts : Tokens) : Type 0 where
  pub within : Option JPackage
  pub imports : List JImport
  pub types : List JMember
  pub stand : AllByRecursion (FileStands (length ts)) types
  pub same : package_part within ++ (joined (map import_tokens imports) ++ joined (map whole_member_tokens types)) ≡ ts
