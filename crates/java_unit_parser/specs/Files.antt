-- What the readers of a file answer, and a function value that reads members.
use Rattle.std.specs.Prelude.{◌<◌, ◌^◌, ℕ, List, length, Option, Some, None, Result}
use Rattle.std.specs.Borrow.{Bor}
use Rattle.std.specs.declared.alloc.Global.{Global}
use Rattle.j2k_base.specs.declared.errors.NoMemory.{NoMemory}
use Rattle.java_tree.specs.Seen.{Tokens}
use Rattle.java_expr_grammar.specs.Reading.{◌>>=◌, whole}
use Rattle.java_member_grammar.specs.declared.lines.JPackage.{JPackage}
use Rattle.java_member_grammar.specs.declared.lines.JImport.{JImport}
use Rattle.java_token_cursor.specs.declared.piece.Piece.{Piece}
use Rattle.java_token_cursor.specs.Shown.{shown}
use Rattle.java_type_parser.specs.Gives.{Gives}
use Rattle.java_unit_grammar.specs.declared.statements.JMember.{JMember}
use Rattle.java_unit_grammar.specs.Reading as r
use Rattle.java_modifier_rules.specs.declared.fits.Owner.{Owner}
use Rattle.java_modifier_rules.specs.Fits.{owner_seen}
use Rattle.java_block_parser.specs.Asks.{Shorter, found}
use Rattle.java_unit_parser.specs.declared.files.Declared.{Declared}

-- A function value reads members of which at most n stand in each other.
pub record Nests (n : ℕ) (pre : Global → Bor (List Piece) → Owner → ℕ → Type 0)
    (post : Global → Bor (List Piece) → Owner → ℕ → Result (Option (JMember × Bor (List Piece))) NoMemory → Type 0) : Type 0 where
  pub callable : (alloc : Global) (ts : Bor (List Piece)) (owner : Owner) → length ts.now < 2 ^ 32 → pre alloc ts owner n
  pub reads : (alloc : Global) (ts : Bor (List Piece)) (owner : Owner) (x : Result (Option (JMember × Bor (List Piece))) NoMemory) → post alloc ts owner n x
      → Gives found (Shorter ts.now) (r.tops n (owner_seen owner) (shown ts.now)) x

-- what a file declares, as reading gives it
abbrev pub one_seen : Declared → r.Declared
one_seen x = record { within = x.within; imports = x.imports; types = x.types }

abbrev pub declared_seen : Option Declared → Option r.Declared
declared_seen None = None
declared_seen (Some x) = Some (one_seen x)

-- the types of a file behind its lines
abbrev pub types_behind : ℕ → Option JPackage → List JImport → Tokens → Option r.Declared
types_behind n within imports ts = whole (r.until r.is_end (r.file_read n) ts) >>= λ xs. Some (record { within = within; imports = imports; types = xs })

-- the imports and the types behind the line of the package
abbrev pub imports_behind : ℕ → Option JPackage → Tokens → Option r.Declared
imports_behind n within ts = r.until r.no_import r.import_read ts >>= λ x. types_behind n within x.0 x.1
