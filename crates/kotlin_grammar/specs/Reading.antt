-- Which tokens spell a class, and which the first piece of a file.
use Rattle.std.specs.Prelude.{◌≡◌, ℕ, ◌+◌, ◌*◌, List, [], ◌∷◌, length, Option, Some, None}
use Rattle.grammar.specs.declared.symbols.Symbol.TheVariants as y
use Rattle.grammar.specs.Grammar.{Grammar, Derives}
use Rattle.grammar.specs.Machine.{run, ◌>>=◌}
use Rattle.kotlin_tree.specs.declared.tokens.KToken.{KToken}
use Rattle.kotlin_tree.specs.declared.files.KClass.{KClass}
use Rattle.kotlin_tree.specs.declared.files.KPackage.{KPackage}
use Rattle.kotlin_tree.specs.declared.files.KImport.{KImport}
use Rattle.kotlin_grammar.specs.declared.letters.Term.{Term}
use Rattle.kotlin_grammar.specs.declared.letters.Form.{Form}
use Rattle.kotlin_grammar.specs.declared.letters.Form.TheVariants as f
use Rattle.kotlin_grammar.specs.declared.letters.Way.{Way}
use Rattle.kotlin_grammar.specs.declared.letters.Act.{Act}
use Rattle.kotlin_grammar.specs.declared.ahead.Letter.{Letter}
use Rattle.kotlin_grammar.specs.declared.built.Built.{Built}
use Rattle.kotlin_grammar.specs.Table.{Symbols}
use Rattle.kotlin_grammar.specs.Ahead.{Letters, letters}
use Rattle.kotlin_grammar.specs.Kotlin.{kotlin, by_kind}
use Rattle.kotlin_grammar.specs.Parts.{empty, last_class, last_package, last_imports}
use Rattle.kotlin_grammar.specs.Meaning.{taken}
use Rattle.kotlin_grammar.specs.Depth.{acts}

-- the grammar of the profile with its trees
abbrev pub profile : Grammar Letter Term Form Way Act Built
profile = kotlin taken acts

abbrev pub start : Form → Symbols
start n = y.Form n ∷ []

-- The letters are written in the form, which builds this of nothing: each form in any of its ways.
pub record Makes (n : Form) (ls : Letters) (b : Built) : Type 0 where
  pub steps : ℕ
  pub derives : Derives profile steps (start n) empty ls b

-- The tokens spell the class.
pub record SpellsClass (c : KClass) (ts : List KToken) : Type 0 where
  pub built : Built
  pub makes : Makes f.ClassForm (letters ts) built
  pub holds : (rest : Built) × (last_class built ≡ Some (c, rest))

-- what the first piece of a file holds
pub record Head : Type 0 where
  pub package_line : Option KPackage
  pub imports : List KImport
  pub first_class : Option KClass

abbrev pub class_by : Option (KClass × Built) → Option KClass
class_by None = None
class_by (Some x) = Some x.0

abbrev pub head_of : Built → Option Head
head_of b = do
  imports ← last_imports b
  line ← last_package imports.1
  Some (record { package_line = line.0; imports = imports.0; first_class = class_by (last_class line.1) })

-- The tokens spell the first piece: the package line, the imports, and a class where one stands.
pub record SpellsHead (h : Head) (ts : List KToken) : Type 0 where
  pub built : Built
  pub makes : Makes f.FileHead (letters ts) built
  pub holds : head_of built ≡ Some h

-- ---- what the machine reads

-- as many steps as the letters pay for
abbrev pub steps_for : Letters → ℕ
steps_for ls = 128 * length ls + 100

unfoldable pub made_of : Form → Letters → Option Built
made_of n ls = run profile by_kind (steps_for ls) (start n) empty ls

unfoldable pub class_of : List KToken → Option KClass
class_of ts = do
  b ← made_of f.ClassForm (letters ts)
  class_by (last_class b)

unfoldable pub first_of : List KToken → Option Head
first_of ts = do
  b ← made_of f.FileHead (letters ts)
  head_of b
