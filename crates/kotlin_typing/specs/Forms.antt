-- What is known of an expression and of a statement, and lists of statements.
use Rattle.std.specs.Prelude.{ℕ, Bool, true, false, if◌then◌else◌, List, [], ◌∷◌, ◌++◌, Option, Some, None}
use Rattle.kotlin_tree.specs.declared.places.Position.{Position}
use Rattle.kotlin_types.specs.declared.kinds.KKind.{KKind}
use Rattle.kotlin_types.specs.Types.{is_sure, unit}
use Rattle.kotlin_types.specs.Supertypes.{is_subtype}
use Rattle.kotlin_typing.specs.declared.scope.KLocal.{KLocal}
use Rattle.kotlin_typing.specs.declared.scope.KScope.{KScope}
use Rattle.kotlin_typing.specs.declared.tables.KTables.{KTables}
use Rattle.kotlin_typing.specs.Notes.{Notes, Typed, fault, faulty}
use Rattle.kotlin_typing.specs.Scopes.{declared, nearest}
use Rattle.kotlin_typing.specs.Written.{Path}

-- what may be assigned to: its type, and whether it may be at that place
pub record Stored : Type 0 where
  pub kind : KKind
  pub is_open : Bool

-- Of an expression: its first token; the name with dots that it spells; whether it is `this`; its type at a place, with what is
-- noted of it; and what it is as the target of an assignment.
pub record Form : Type 0 where
  pub first : Position
  pub path : Option Path
  pub is_this : Bool
  pub judge : KScope → Typed KKind
  pub target : KScope → Typed Stored

-- Of a statement: the variable that it declares, where its name stands, the type that it gives as the last statement of a
-- `run`, and what is noted of it at a place.
pub record Line : Type 0 where
  pub declares : Option KLocal
  pub at : Position
  pub gives : KScope → Option KKind
  pub notes : KScope → Notes

-- Of an alternative of a `when` that gives a value, of one that doesn't, and of a catch.
pub record Choice : Type 0 where
  pub labels : List Form
  pub value : Form

pub record Branch : Type 0 where
  pub labels : List Form
  pub lines : List Line

pub record Catch : Type 0 where
  pub notes : KScope → Notes

-- ---- a value in its place

abbrev pub judged : KScope → Form → Typed KKind
judged s x = x.judge s

abbrev pub mismatch : KScope → Position → Bool → Notes
mismatch s at true = []
mismatch s at false = fault s 3 at

abbrev pub fits : KTables → KScope → Position → KKind → Option KKind → Notes
fits w s at want None = []
fits w s at want (Some k) = mismatch s at (is_subtype w.classes k want)

-- where a type is wanted, what has no subtype of it is K3
abbrev pub as_wanted : KTables → Form → KScope → KKind → Notes
as_wanted w x s want = (x.judge s).notes ++ fits w s x.first want (x.judge s).result

abbrev pub as_placed : KTables → Form → KScope → Option KKind → Notes
as_placed w x s None = (x.judge s).notes
as_placed w x s (Some want) = as_wanted w x s want

abbrev pub all_wanted : KTables → List Form → KScope → KKind → Notes
all_wanted w [] s want = []
all_wanted w (x ∷ xs) s want = as_wanted w x s want ++ all_wanted w xs s want

abbrev pub sure_by : KScope → Position → Option KKind → Notes
sure_by s at None = []
sure_by s at (Some k) = if is_sure k then [] else fault s 4 at

-- where a value that may be null needs `!!`
abbrev pub as_sure : Form → KScope → Notes
as_sure x s = (x.judge s).notes ++ sure_by s x.first (x.judge s).result

abbrev pub kind_or : {A : Type 0} → KScope → ℕ → Position → Option A → Typed A
kind_or s number at None = faulty s number at
kind_or s number at (Some a) = record { result = Some a; notes = [] }

-- what is noted before a judgement
abbrev pub behind : {A : Type 0} → Notes → Typed A → Typed A
behind notes j = record { result = j.result; notes = notes ++ j.notes }

-- ---- names that are declared

-- a variable may bear the name of a parameter, and of no other variable in scope
abbrev pub twice_by : KScope → Position → Option KLocal → Notes
twice_by s at None = []
twice_by s at (Some row) = if row.is_parameter then [] else fault s 2 at

abbrev pub twice_named : KScope → Position → List ℕ → Notes
twice_named s at name = twice_by s at (nearest name s.locals)

abbrev pub twice : KScope → Position → Option KLocal → Notes
twice s at None = []
twice s at (Some row) = twice_named s at row.name

-- ---- lists of statements: each stands behind the one before

abbrev pub scope_after : List Line → KScope → KScope
scope_after [] s = s
scope_after (x ∷ xs) s = scope_after xs (declared s x.declares)

abbrev pub line_notes : Line → KScope → Notes
line_notes x s = x.notes s ++ twice s x.at x.declares

abbrev pub lines_notes : List Line → KScope → Notes
lines_notes [] s = []
lines_notes (x ∷ xs) s = line_notes x s ++ lines_notes xs (declared s x.declares)

-- the type of the last
abbrev pub last_gives : List Line → KScope → Option KKind
last_gives [] s = Some unit
last_gives (x ∷ []) s = x.gives s
last_gives (x ∷ y ∷ ys) s = last_gives (y ∷ ys) (declared s x.declares)
