-- What the Java files of a project spell, or the first fault of their text.
use Rattle.std.specs.Prelude.{◌≡◌, ◌<◌, ◌-◌, ◌^◌, ◌⊎◌, ℕ, List, [], ◌∷◌, ◌++◌, length, All, slice_get, Option, Some, None, Result, Ok, Err}
use Rattle.j2k_base.specs.declared.places.Fault.{Fault}
use Rattle.j2k_base.specs.declared.series.SourceFile.{SourceFile}
use Rattle.java_tree.specs.declared.tokens.JToken.{JToken}
use Rattle.java_tree.specs.declared.tokens.Tokens.{Tokens}
use Rattle.java_lexer.specs.declared.found.LexFault.{LexFault}
use Rattle.java_lexer.specs.Cutting.{Lexes, Faults}
use Rattle.java_lexer.specs.Lexing as tokens
use Rattle.java_unit_grammar.specs.declared.units.JUnit.{JUnit}
use Rattle.java_parser.specs.declared.faults.SyntaxFault.{SyntaxFault}
use Rattle.java_parser.specs.Spelling as spelling
use Rattle.java_parser.specs.Spelling.{JSpells, IsFaulty}
use Rattle.java_project.specs.declared.files.Found.{Found}
use Rattle.java_project.specs.declared.files.Found.TheVariants as found
use Rattle.java_project.specs.declared.project.Firsts.{Firsts}

-- ---- one file

-- the tokens and comments of a file (JLS 3)
pub record HasTokens (file : SourceFile) (tokens : Tokens) : Type 0 where
  pub path : tokens.path ≡ file.path
  pub lexes : Lexes file.bytes tokens.list tokens.comments

-- the unit that it spells (JLS 7.3)
pub record HasUnit (file : SourceFile) (unit : JUnit) : Type 0 where
  pub tokens : Tokens
  pub has : HasTokens file tokens
  pub spells : JSpells unit tokens

-- it has no tokens (own rule)
pub record HasTokenFault (file : SourceFile) (fault : Fault) : Type 0 where
  pub found : LexFault
  pub faults : Faults file.bytes found
  pub is : fault ≡ tokens.fault_in file.path found

-- its tokens spell no unit (own rule)
pub record HasSpellingFault (file : SourceFile) (fault : Fault) : Type 0 where
  pub tokens : Tokens
  pub has : HasTokens file tokens
  pub found : SyntaxFault
  pub number : ℕ
  pub token : JToken
  pub faulty : IsFaulty tokens.list found number
  pub stands : slice_get tokens.list number ≡ Some token
  pub is : fault ≡ spelling.fault_in tokens.path found token.position

-- ---- files

-- Each file is short enough that its places are numbers of 32 bits (own rule).
abbrev pub AreShort : List SourceFile → Type 0
AreShort files = All (λ file. length file.bytes < 2 ^ 32 - 1) files

-- a unit for each file, in their order
abbrev pub AreUnits : List SourceFile → List JUnit → Type 0
AreUnits [] [] = Unit {0}
AreUnits (file ∷ files) (unit ∷ units) = HasUnit file unit × AreUnits files units
AreUnits [] (unit ∷ units) = ⊥
AreUnits (file ∷ files) [] = ⊥

-- Here `faults file fault` says that a file has the fault.

-- it has none
abbrev pub HasNone : (SourceFile → Fault → Type 0) → SourceFile → Type 0
HasNone faults file = (fault : Fault) → faults file fault → ⊥

-- none of the files has one
abbrev pub NoneIn : (SourceFile → Fault → Type 0) → List SourceFile → Type 0
NoneIn faults [] = Unit {0}
NoneIn faults (file ∷ files) = HasNone faults file × NoneIn faults files

-- it is the fault of the first of the files that has one
abbrev pub FirstIn : (SourceFile → Fault → Type 0) → List SourceFile → Fault → Type 0
FirstIn faults [] fault = ⊥
FirstIn faults (file ∷ files) fault = faults file fault ⊎ (HasNone faults file × FirstIn faults files fault)

-- ---- projects

-- every file spells its unit
abbrev pub IsSpelled : List SourceFile → List JUnit → Type 0
IsSpelled files units = AreUnits files units

-- The first fault of text is one of tokens, and where no file has one, one of spelling; of each kind that of the first file that has
-- one (own rule).
abbrev pub IsRefused : List SourceFile → Fault → Type 0
IsRefused files fault =
    FirstIn HasTokenFault files fault
    ⊎ (NoneIn HasTokenFault files × FirstIn HasSpellingFault files fault)

-- ---- file after file

-- what is found of a file
abbrev pub IsFound : SourceFile → Found → Type 0
IsFound file (found.Tokens fault) = HasTokenFault file fault
IsFound file (found.Spelling fault) = HasSpellingFault file fault
IsFound file (found.Unit unit) = HasUnit file unit

-- a first fault, or none
abbrev pub IsFirst : (SourceFile → Fault → Type 0) → List SourceFile → Option Fault → Type 0
IsFirst faults files None = NoneIn faults files
IsFirst faults files (Some fault) = FirstIn faults files fault

-- the first fault of each kind among files, and where there is none the units
pub record AreFirsts (files : List SourceFile) (firsts : Firsts) : Type 0 where
  pub tokens : IsFirst HasTokenFault files firsts.tokens
  pub spelling : IsFirst HasSpellingFault files firsts.spelling
  pub units : firsts.tokens ≡ None → firsts.spelling ≡ None → AreUnits files firsts.units

-- the fault of each kind that is found, and the units
abbrev pub token_fault : Found → Option Fault
token_fault (found.Tokens fault) = Some fault
token_fault (found.Spelling fault) = None
token_fault (found.Unit unit) = None

abbrev pub spelling_fault : Found → Option Fault
spelling_fault (found.Tokens fault) = None
spelling_fault (found.Spelling fault) = Some fault
spelling_fault (found.Unit unit) = None

abbrev pub with_found : List JUnit → Found → List JUnit
with_found units (found.Tokens fault) = units
with_found units (found.Spelling fault) = units
with_found units (found.Unit unit) = units ++ unit ∷ []

-- the first of two that there is
abbrev pub earliest : Option Fault → Option Fault → Option Fault
earliest None b = b
earliest (Some a) b = Some a

-- with what is found of one more file
abbrev pub added : Firsts → Found → Firsts
added firsts found = record {
  tokens = earliest firsts.tokens (token_fault found);
  spelling = earliest firsts.spelling (spelling_fault found);
  units = with_found firsts.units found;
}

-- the first fault where there is one, else the units
abbrev pub told : Option Fault → List JUnit → Result (List JUnit) Fault
told None units = Ok units
told (Some fault) units = Err fault

abbrev pub outcome : Firsts → Result (List JUnit) Fault
outcome firsts = told (earliest firsts.tokens firsts.spelling) firsts.units
