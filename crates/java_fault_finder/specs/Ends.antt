-- Runs and what they consist of, as the definition of runs has them.
use Rattle.std.specs.Prelude.{◌≡◌, ◌≤◌, ◌+◌, ℕ, List, [], ◌∷◌, length, Option, Some, None}
use Rattle.std.specs.Borrow.{Bor}
use Rattle.java_tree.specs.Seen.{Tokens}
use Rattle.java_token_cursor.specs.declared.piece.Piece.{Piece}
use Rattle.java_token_cursor.specs.Shown.{shown}
use Rattle.java_fault_grammar.specs.Runs as r
use Rattle.java_fault_finder.specs.declared.places.End.{End}
use Rattle.java_fault_finder.specs.declared.places.End.TheVariants as e
use Rattle.java_fault_finder.specs.declared.places.Kind.{Kind}
use Rattle.java_fault_finder.specs.declared.places.Kind.TheVariants as k
use Rattle.java_fault_finder.specs.declared.places.Place.{Place}
use Rattle.java_fault_finder.specs.declared.places.Turn.{Turn}
use Rattle.java_fault_finder.specs.declared.places.Turn.TheVariants as t
use Rattle.java_fault_finder.specs.declared.ends.Run.{Run}
use Rattle.java_fault_finder.specs.declared.ends.Step.{Step}
use Rattle.java_fault_finder.specs.declared.ends.Step.TheVariants as s

abbrev pub end_seen : End → r.End
end_seen e.Semicolon = r.End.Semicolon
end_seen e.Body = r.End.Body
end_seen e.Block = r.End.Block
end_seen e.Level = r.End.Level

abbrev pub kind_seen : Kind → r.Kind
kind_seen k.OpenCurly = r.Kind.OpenCurly
kind_seen k.CloseCurly = r.Kind.CloseCurly
kind_seen k.Opens = r.Kind.Opens
kind_seen k.Closes = r.Kind.Closes
kind_seen k.Semicolon = r.Kind.Semicolon
kind_seen k.Assign = r.Kind.Assign
kind_seen k.Declares = r.Kind.Declares
kind_seen k.Other = r.Kind.Other

abbrev pub place_seen : Place → r.Place
place_seen p = record { depth = p.depth; ends = p.ends; is_type = p.is_type; has_value = p.has_value }

abbrev pub turn_seen : Turn → r.Turn
turn_seen (t.On p) = r.Turn.On (place_seen p)
turn_seen (t.Stop end) = r.Turn.Stop (end_seen end)
turn_seen t.Left = r.Turn.Left

-- at most one bracket more is open
abbrev pub Deeper : ℕ → Turn → Type 0
Deeper n (t.On p) = p.depth ≤ n + 1
Deeper n _ = Unit {0}

abbrev pub run_seen : Run → r.Run
run_seen x = record { text = shown x.text.now; end = end_seen x.end; rest = shown x.rest.now }

-- what the first token is, and those behind it
abbrev pub kinded : Tokens → Option (r.Kind × Tokens)
kinded [] = None
kinded (x ∷ ts) = Some (r.kind x, ts)

abbrev pub KindFound : List Piece → Option (Kind × Bor (List Piece)) → Type 0
KindFound ts None = kinded (shown ts) ≡ None
KindFound ts (Some x) = kinded (shown ts) ≡ Some (kind_seen x.0, shown x.1.now)

-- What is left of the run after a step: how long it is, and what ends it.
abbrev pub Steps : Place → List Piece → Step → Type 0
Steps p ts (s.On q rest) =
    (length (r.run_from (place_seen p) (shown ts)).text ≡ length (r.run_from (place_seen q) (shown rest.now)).text + 1)
    × ((r.run_from (place_seen p) (shown ts)).end ≡ (r.run_from (place_seen q) (shown rest.now)).end)
    × (q.depth ≤ p.depth + 1)
    × (length ts ≡ length rest.now + 1)
Steps p ts (s.Stop end) =
    (length (r.run_from (place_seen p) (shown ts)).text ≡ 1) × ((r.run_from (place_seen p) (shown ts)).end ≡ end_seen end) × (1 ≤ length ts)
Steps p ts s.Left = (length (r.run_from (place_seen p) (shown ts)).text ≡ 0) × ((r.run_from (place_seen p) (shown ts)).end ≡ r.End.Level)
