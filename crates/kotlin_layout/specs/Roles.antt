-- What a text consists of: tokens by what they are in the tree, and what stands between them.
use Rattle.std.specs.Prelude.{◌≡◌, ℕ, Bool, true, false, List, [], ◌∷◌, ◌++◌, map, Option, Some, None}
use Rattle.std.specs.List.{flat_map}
use Rattle.kotlin_tree.specs.declared.tokens.Mark.{Mark}
use Rattle.kotlin_tree.specs.declared.tokens.Mark.TheVariants as mark
use Rattle.kotlin_tree.specs.declared.tokens.Keyword.{Keyword}
use Rattle.kotlin_tree.specs.declared.tokens.Word.{Word}
use Rattle.kotlin_tree.specs.declared.expressions.KLiteral.{KLiteral}
use Rattle.kotlin_layout.specs.declared.glyphs.Glyph.{Glyph}
use Rattle.kotlin_layout.specs.declared.glyphs.Glyph.TheVariants as glyph

pub data Role : Type 0 where
  Fixed : Glyph → Role
  Name : List ℕ → Role
  Literal : KLiteral → Role
  Comment : List ℕ → Role

abbrev pub Roles : Type 0
Roles = List Role

abbrev pub Glyphs : Type 0
Glyphs = List Glyph

abbrev pub fixed : Glyphs → Roles
fixed xs = map Role.Fixed xs

abbrev pub name : List ℕ → Roles
name n = Role.Name n ∷ []

-- ---- lists: the first part, and each other one behind a separator

abbrev pub more_roles : Glyphs → List Roles → Roles
more_roles between [] = []
more_roles between (part ∷ parts) = fixed between ++ (part ++ more_roles between parts)

abbrev pub listed : Glyphs → List Roles → Roles
listed between [] = []
listed between (part ∷ parts) = part ++ more_roles between parts

-- a comma and a blank
abbrev pub comma : Glyphs
comma = glyph.Mark mark.Comma ∷ glyph.Blank ∷ []

-- `;` and a blank
abbrev pub next : Glyphs
next = glyph.Semicolon ∷ glyph.Blank ∷ []

-- a separator, unless it is the first time
abbrev pub between : Bool → Glyphs → Roles
between true xs = []
between false xs = fixed xs

abbrev pub joined : List Roles → Roles
joined [] = []
joined (part ∷ parts) = part ++ joined parts

-- each part on a line of its own
abbrev pub lines : List Roles → Roles
lines [] = []
lines (part ∷ parts) = fixed (glyph.Line ∷ []) ++ (part ++ lines parts)

-- ` {`, the parts on lines of their own, one level deeper, and `}` on a line of its own
abbrev pub opened : Glyphs
opened = glyph.Blank ∷ glyph.Mark mark.OpenCurly ∷ glyph.Deeper ∷ []

abbrev pub closed : Glyphs
closed = glyph.Shallower ∷ glyph.Line ∷ glyph.Mark mark.CloseCurly ∷ []

abbrev pub block : List Roles → Roles
block parts = fixed opened ++ lines parts ++ fixed closed
