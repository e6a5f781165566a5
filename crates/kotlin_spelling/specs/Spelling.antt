-- Which file bytes spell, and which is the first fault of bytes that spell none.
use Rattle.std.specs.Prelude.{◌≡◌, ◌⊎◌, ℕ, ◌-◌, List, [], ◌∷◌, length, take, slice_get, Option, Some, None}
use Rattle.j2k_base.specs.declared.places.Fault.{Fault}
use Rattle.j2k_base.specs.declared.places.Phase.TheVariants as phase
use Rattle.kotlin_tree.specs.declared.places.Position.{Position}
use Rattle.kotlin_tree.specs.declared.tokens.KToken.{KToken}
use Rattle.kotlin_tree.specs.declared.files.KClass.{KClass}
use Rattle.kotlin_tree.specs.declared.files.KFile.{KFile}
use Rattle.kotlin_brackets.specs.declared.flaws.Flaw.{Flaw}
use Rattle.kotlin_brackets.specs.declared.flaws.Flaw.TheVariants as flaw
use Rattle.kotlin_brackets.specs.Brackets.{IsFirst, IsFirstFlaw}
use Rattle.kotlin_lexer.specs.declared.found.LexFault.{LexFault}
use Rattle.kotlin_lexer.specs.Cutting.{Lexes, Faults}
use Rattle.kotlin_lexer.specs.Lexing.{fault_in}
use Rattle.kotlin_grammar.specs.Files.{Tokens, Content, SpellsFile, pieces, first_flaw}

-- all tokens but the last, which is the end of the file
abbrev pub before_end : Tokens → Tokens
before_end ts = take (length ts - 1) ts

abbrev pub with_first : Option KClass → List KClass → List KClass
with_first None cs = cs
with_first (Some c) cs = c ∷ cs

-- the file of a path that holds so much
abbrev pub file_of : List ℕ → Content → KFile
file_of path x = record { path = path; «package» = x.head.package_line; imports = x.head.imports; classes = with_first x.head.first_class x.classes }

-- The bytes are the tokens of the file: their brackets pair, no more than 1,600 are open at once, and the pieces between spell
-- the package line, the imports and the classes.
pub record Spells (path : List ℕ) (file : KFile) (bytes : List ℕ) : Type 0 where
  pub tokens : Tokens
  pub lexes : Lexes bytes tokens
  pub paired : IsFirstFlaw tokens None
  pub content : Content
  pub spelled : SpellsFile content (before_end tokens)
  pub is : file ≡ file_of path content

-- ---- faults

-- a bracket without a partner, a piece that nothing spells, a bracket that is too deep (own rule)
abbrev pub flaw_number : Flaw → ℕ
flaw_number flaw.Lonely = 1
flaw_number flaw.TooDeep = 3

abbrev pub unspelled_number : ℕ
unspelled_number = 2

abbrev pub fault_at : List ℕ → ℕ → Position → Fault
fault_at path n p = record { phase = phase.KS; number = n; place = record { path = path; offset = p.offset; line = p.line; column = p.column } }

-- The bytes are no tokens from here on.
pub record NoTokens (path bytes : List ℕ) (fault : Fault) : Type 0 where
  pub found : LexFault
  pub first : Faults bytes found
  pub is : fault ≡ fault_in path found

-- They are tokens, and this bracket is the first at fault.
pub record NoPairs (path bytes : List ℕ) (fault : Fault) : Type 0 where
  pub tokens : Tokens
  pub lexes : Lexes bytes tokens
  pub number : ℕ
  pub flaw : Flaw
  pub first : IsFirst tokens number flaw
  pub token : KToken
  pub there : slice_get tokens number ≡ Some token
  pub is : fault ≡ fault_at path (flaw_number flaw) token.position

-- Their brackets pair, and here begins the first piece that nothing spells.
pub record NoTree (path bytes : List ℕ) (fault : Fault) : Type 0 where
  pub tokens : Tokens
  pub lexes : Lexes bytes tokens
  pub paired : IsFirstFlaw tokens None
  pub place : Position
  pub first : first_flaw (pieces 0 [] (before_end tokens)) ≡ Some place
  pub is : fault ≡ fault_at path unspelled_number place

-- The first fault of the bytes.
abbrev pub FirstFault : List ℕ → List ℕ → Fault → Type 0
FirstFault path bytes fault = NoTokens path bytes fault ⊎ NoPairs path bytes fault ⊎ NoTree path bytes fault
