-- Heads with their bodies, a step at a time.
use Rattle.std.specs.Prelude.{◌≡◌, ◌≤◌, ◌<◌, ◌^◌, ℕ, Bool, List, [], ◌∷◌, ◌++◌, length, Option, Some, None}
use Rattle.std.specs.Borrow.{Bor}
use Rattle.java_tree.specs.Seen.{Tokens}
use Rattle.java_tree.specs.Trees.{any_level}
use Rattle.java_tree.specs.declared.exprs.JExpr.{JExpr}
use Rattle.java_tree.specs.declared.tokens.Position.{Position}
use Rattle.java_expr_grammar.specs.Reading.{Read, Reader, ◌>>=◌, close, read, whole}
use Rattle.java_unit_grammar.specs.Cutting.{Cut}
use Rattle.java_unit_grammar.specs.Levels.{Levels}
use Rattle.java_unit_grammar.specs.Standing.{spans}
use Rattle.java_unit_grammar.specs.Reading.{Headed, Readers, Rounded, bodies_by}
use Rattle.java_unit_grammar.specs.declared.statements.JBody.{JBody}
use Rattle.java_token_cursor.specs.declared.piece.Piece.{Piece}
use Rattle.java_body_cuts.specs.declared.cutting.CutFound.{CutFound}

-- Each text has fewer than 2 ^ 32 pieces.
abbrev pub AllSmall : List (Bor (List Piece)) → Type 0
AllSmall [] = Unit {0}
AllSmall (t ∷ ts) = (length t.now < 2 ^ 32) × AllSmall ts

-- what is cut off pieces
abbrev pub CutFits : List Piece → CutFound → Type 0
CutFits ts x = (length x.rest.now ≤ length ts) × AllSmall x.bodies.items

-- the expression that all of the tokens are
abbrev pub condition_read : ℕ → Tokens → Option JExpr
condition_read d ts = whole (read d any_level ts)

-- the first level and the first kind, and those behind them
abbrev pub next_level : List ℕ → List Bool → Option ((ℕ × Bool) × (List ℕ × List Bool))
next_level [] ks = None
next_level (l ∷ ls) [] = None
next_level (l ∷ ls) (k ∷ ks) = Some ((l, k), (ls, ks))

abbrev pub parted_levels : Option ((ℕ × Bool) × (Bor (List ℕ) × Bor (List Bool))) → Option ((ℕ × Bool) × (List ℕ × List Bool))
parted_levels None = None
parted_levels (Some x) = Some (x.0, (x.1.0.now, x.1.1.now))

-- bodies that begin with these
abbrev pub onto_all : List JBody → Option (List JBody) → Option (List JBody)
onto_all xs o = o >>= λ ys. Some (xs ++ ys)

abbrev pub TextParts : List (Bor (List Piece)) → Option (Bor (List Piece) × Bor (List (Bor (List Piece)))) → Type 0
TextParts ts None = ts ≡ []
TextParts ts (Some x) = ts ≡ x.0 ∷ x.1.now

-- ---- a head that was cut off

-- its bodies at those levels
abbrev pub cut_bodies : Readers → ℕ → Levels → Cut → Option (List JBody)
cut_bodies R d ls c = bodies_by R.body d ls (spans c.text) c.bodies

-- the head with its bodies, and what follows
abbrev pub cut_bodied : {H : Type 0} → Readers → ℕ → (H → Levels) → H → Cut → Read (Headed H)
cut_bodied R d levels x c = cut_bodies R d (levels x) c >>= λ xs. Some (record { head = x; bodies = xs }, c.rest)

-- the head with its bodies, from its text
abbrev pub cut_head : {H : Type 0} → Readers → ℕ → (Tokens → Option H) → (H → Levels) → Cut → Read (Headed H)
cut_head R d of levels c = of c.text >>= λ x. cut_bodied R d levels x c

-- the end of what stands in parentheses
abbrev pub rounded_end : {H : Type 0} → Position → H → List JBody → Reader (Rounded H)
rounded_end opens x xs ts = close ts >>= λ c. Some (record { opens = opens; head = x; bodies = xs; closes = c.0 }, c.1)
