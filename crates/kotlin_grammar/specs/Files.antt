-- Which tokens spell a file, piece by piece, and where the first piece stands that nothing spells.
use Rattle.std.specs.Prelude.{◌≡◌, ℕ, suc, ◌-◌, ◌++◌, Bool, true, false, if◌then◌else◌, nat_eq, List, [], ◌∷◌, Option, Some, None}
use Rattle.grammar.specs.Machine.{◌>>=◌}
use Rattle.kotlin_tree.specs.declared.places.Position.{Position}
use Rattle.kotlin_tree.specs.declared.tokens.Gap.{Gap}
use Rattle.kotlin_tree.specs.declared.tokens.Gap.TheVariants as gap
use Rattle.kotlin_tree.specs.declared.tokens.Mark.{Mark}
use Rattle.kotlin_tree.specs.declared.tokens.Mark.TheVariants as m
use Rattle.kotlin_tree.specs.declared.tokens.TokenKind.{TokenKind}
use Rattle.kotlin_tree.specs.declared.tokens.TokenKind.TheVariants as q
use Rattle.kotlin_tree.specs.declared.tokens.KToken.{KToken}
use Rattle.kotlin_tree.specs.declared.files.KClass.{KClass}
use Rattle.kotlin_grammar.specs.Ahead.{with_gap, without_line}
use Rattle.kotlin_grammar.specs.Reading.{Head, SpellsClass, SpellsHead, class_of, first_of}

abbrev pub Tokens : Type 0
Tokens = List KToken

-- ---- pieces: one ends at each `}` behind which no bracket is open, and the last at the end of the file

abbrev pub opens : Mark → Bool
opens m.OpenRound = true
opens m.OpenSquare = true
opens m.OpenCurly = true
opens _ = false

abbrev pub closes : Mark → Bool
closes m.CloseRound = true
closes m.CloseSquare = true
closes m.CloseCurly = true
closes _ = false

abbrev pub is_close_curly : Mark → Bool
is_close_curly m.CloseCurly = true
is_close_curly _ = false

-- how many brackets are open behind a token
abbrev pub open_behind : ℕ → TokenKind → ℕ
open_behind n (q.Mark x) = if opens x then suc n else (if closes x then n - 1 else n)
open_behind n _ = n

abbrev pub ends_piece : ℕ → TokenKind → Bool
ends_piece n (q.Mark x) = if is_close_curly x then nat_eq (n - 1) 0 else false
ends_piece n _ = false

-- with so many brackets open and these tokens of a piece before them
unfoldable pub pieces : ℕ → Tokens → Tokens → List Tokens
pieces n piece [] = piece ∷ []
pieces n piece (t ∷ ts) =
    if ends_piece n t.kind then (piece ++ t ∷ []) ∷ pieces 0 [] ts else pieces (open_behind n t.kind) (piece ++ t ∷ []) ts

-- ---- what spells a file

-- ends may stand before a class
abbrev pub apart : Tokens → Tokens
apart [] = []
apart (t ∷ ts) = with_gap gap.Plain t ∷ ts

-- line ends may stand before the first token of a file
abbrev pub begun : Tokens → Tokens
begun [] = []
begun (t ∷ ts) = with_gap (without_line t.gap) t ∷ ts

-- The pieces spell the classes, one each; a piece without tokens spells none.
unfoldable pub SpellsClasses : List KClass → List Tokens → Type 0
SpellsClasses cs [] = cs ≡ []
SpellsClasses cs ([] ∷ ps) = SpellsClasses cs ps
SpellsClasses [] ((t ∷ ts) ∷ ps) = ⊥
SpellsClasses (c ∷ cs) ((t ∷ ts) ∷ ps) = SpellsClass c (apart (t ∷ ts)) × SpellsClasses cs ps

-- what a file holds but for its path
pub record Content : Type 0 where
  pub head : Head
  pub classes : List KClass

-- The pieces spell the file.
unfoldable pub SpellsPieces : Content → List Tokens → Type 0
SpellsPieces x [] = ⊥
SpellsPieces x (p ∷ ps) = SpellsHead x.head (begun p) × SpellsClasses x.classes ps

-- The tokens spell the file.
abbrev pub SpellsFile : Content → Tokens → Type 0
SpellsFile x ts = SpellsPieces x (pieces 0 [] ts)

-- ---- what is read

unfoldable pub classes_of : List Tokens → Option (List KClass)
classes_of [] = Some []
classes_of ([] ∷ ps) = classes_of ps
classes_of ((t ∷ ts) ∷ ps) = do
  c ← class_of (apart (t ∷ ts))
  cs ← classes_of ps
  Some (c ∷ cs)

unfoldable pub content_of : List Tokens → Option Content
content_of [] = None
content_of (p ∷ ps) = do
  head ← first_of (begun p)
  classes ← classes_of ps
  Some (record { head = head; classes = classes })

abbrev pub flaw_by : Option KClass → Position → Option Position → Option Position
flaw_by None at more = Some at
flaw_by (Some c) at more = more

-- where the first class stands that nothing spells
unfoldable pub flaw_of : List Tokens → Option Position
flaw_of [] = None
flaw_of ([] ∷ ps) = flaw_of ps
flaw_of ((t ∷ ts) ∷ ps) = flaw_by (class_of (apart (t ∷ ts))) t.position (flaw_of ps)

abbrev pub head_flaw : Option Head → Tokens → Option Position → Option Position
head_flaw None [] more = more
head_flaw None (t ∷ ts) more = Some t.position
head_flaw (Some h) p more = more

-- where the first piece stands that nothing spells
unfoldable pub first_flaw : List Tokens → Option Position
first_flaw [] = None
first_flaw (p ∷ ps) = head_flaw (first_of (begun p)) p (flaw_of ps)
