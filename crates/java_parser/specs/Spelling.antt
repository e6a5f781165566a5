-- What spells a file, and where a file that nothing spells is at fault.
use Rattle.std.specs.Prelude.{◌≡◌, ℕ, List}
use Rattle.j2k_base.specs.declared.places.Fault as faults
use Rattle.j2k_base.specs.declared.places.Phase.TheVariants.{S}
use Rattle.java_tree.specs.declared.tokens.Position.{Position}
use Rattle.java_tree.specs.declared.tokens.JToken.{JToken}
use Rattle.java_tree.specs.declared.tokens.Tokens as files
use Rattle.java_tree.specs.Seen as t
use Rattle.java_tree.specs.Seen.{seen}
use Rattle.java_brackets.specs.declared.flaws.Flaw.{Flaw}
use Rattle.java_brackets.specs.declared.flaws.Flaw.TheVariants as w
use Rattle.java_brackets.specs.Brackets.{IsFirst, IsFlawed}
use Rattle.java_unit_grammar.specs.declared.units.JUnit.{JUnit}
use Rattle.java_unit_grammar.specs.Standing.{UnitSpells}
use Rattle.java_fault_grammar.specs.Walk.{IsFault}
use Rattle.java_parser.specs.declared.faults.SyntaxFault.{SyntaxFault}
use Rattle.java_parser.specs.declared.faults.SyntaxFault.TheVariants as f

-- each bracket has a partner, and at most 200 are open at once
abbrev pub HasNoFlaw : t.Tokens → Type 0
HasNoFlaw ts = (n : ℕ) (flaw : Flaw) → ¬ IsFlawed ts n flaw

-- The unit spells the tokens of the file, and holds its path and its comments.
pub record JSpells (unit : JUnit) (file : files.Tokens) : Type 0 where
  pub whole : HasNoFlaw (seen file.list)
  pub spelled : UnitSpells unit (seen file.list)
  pub path : unit.path ≡ file.path
  pub comments : unit.comments ≡ file.comments

-- The file is at fault, at the token of a number: at its first bracket with no partner, or its first that opens where 200 are open,
-- whichever comes first; and where there is none, but no unit spells the file, at the first run that no form of its place spells.
abbrev pub IsFaulty : List JToken → SyntaxFault → ℕ → Type 0
IsFaulty list f.Unmatched n = IsFirst (seen list) n w.Lonely
IsFaulty list f.TooDeep n = IsFirst (seen list) n w.TooDeep
IsFaulty list f.NoForm n = HasNoFlaw (seen list) × ((unit : JUnit) → ¬ UnitSpells unit (seen list)) × IsFault (seen list) n

abbrev pub number_of : SyntaxFault → ℕ
number_of f.Unmatched = 1
number_of f.NoForm = 2
number_of f.TooDeep = 3

-- the fault at a position of the file of a path (own rule)
abbrev pub fault_in : List ℕ → SyntaxFault → Position → faults.Fault
fault_in path fault at = record {
  phase = S;
  number = number_of fault;
  place = record { path = path; offset = at.offset; line = at.line; column = at.column };
}

abbrev pub of_flaw : Flaw → SyntaxFault
of_flaw w.Lonely = f.Unmatched
of_flaw w.TooDeep = f.TooDeep
