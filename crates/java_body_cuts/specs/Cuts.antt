-- Heads as the code cuts them, a piece at a time.
use Rattle.std.specs.Prelude.{◌≡◌, ◌≤◌, ◌<◌, ◌+◌, ◌-◌, ℕ, List, [], ◌∷◌, ◌++◌, length, map, take, drop, Option, Some, None}
use Rattle.std.specs.Borrow.{Bor}
use Rattle.java_tree.specs.declared.tokens.Mark.TheVariants as m
use Rattle.java_tree.specs.declared.tokens.Position.{Position}
use Rattle.java_tree.specs.declared.tokens.JToken.{JToken}
use Rattle.java_tree.specs.Seen.{Token, Tokens, token_seen, seen, body}
use Rattle.java_token_cursor.specs.declared.piece.Piece.{Piece}
use Rattle.java_token_cursor.specs.Shown.{shown, piece_shown}
use Rattle.java_token_cursor.specs.Bodies.{closing}
use Rattle.java_unit_grammar.specs.Cutting as c
use Rattle.java_body_cuts.specs.declared.stops.Stop.{Stop}
use Rattle.java_body_cuts.specs.declared.stops.Stop.TheVariants as stop
use Rattle.java_body_cuts.specs.declared.stops.Weight.{Weight}
use Rattle.java_body_cuts.specs.declared.stops.Weight.TheVariants as weight
use Rattle.java_body_cuts.specs.declared.stops.Opener.{Opener}
use Rattle.java_body_cuts.specs.declared.stops.Opener.TheVariants as o
use Rattle.java_body_cuts.specs.declared.bodies.Turn.{Turn}
use Rattle.java_body_cuts.specs.declared.bodies.Turn.TheVariants as turn
use Rattle.java_body_cuts.specs.declared.bodies.BodyFound.{BodyFound}
use Rattle.java_body_cuts.specs.declared.bodies.Bodied.{Bodied}
use Rattle.java_body_cuts.specs.declared.cutting.CutFound.{CutFound}
use Rattle.java_body_cuts.specs.declared.cutting.Step.{Step}
use Rattle.java_body_cuts.specs.declared.cutting.Step.TheVariants as step

-- ---- tokens

abbrev pub stop_seen : Stop → c.Stop
stop_seen stop.Semicolon = c.Stop.Semicolon
stop_seen stop.Close = c.Stop.Close
stop_seen stop.Colon = c.Stop.Colon
stop_seen stop.Constants = c.Stop.Constants

abbrev pub weight_seen : Weight → c.Weight
weight_seen weight.Opens = c.Weight.Opens
weight_seen weight.Closes = c.Weight.Closes
weight_seen weight.Other = c.Weight.Other

abbrev pub opener : Token → Opener
opener (Token.Sign m.Arrow at) = o.Arrow at
opener (Token.Sign m.CloseRound at) = o.Close at
opener _ = o.Other

abbrev pub TokenParts : List JToken → Option (Bor JToken × Bor (List JToken)) → Type 0
TokenParts ts None = seen ts ≡ []
TokenParts ts (Some x) = (seen ts ≡ token_seen x.0.now ∷ seen x.1.now) × (length ts ≡ length x.1.now + 1)

abbrev pub Parts : List Piece → Option (Piece × Bor (List Piece)) → Type 0
Parts ts None = shown ts ≡ []
Parts ts (Some x) = (shown ts ≡ piece_shown x.0 ∷ shown x.1.now) × (length ts ≡ length x.1.now + 1)

-- ---- bodies

abbrev pub Turns : ℕ → List Piece → Turn → Type 0
Turns n ts turn.End = closing n (shown ts) ≡ None
Turns n ts (turn.Closed at rest) = (closing n (shown ts) ≡ Some (at, shown rest.now)) × (length ts ≡ length rest.now + 1)
Turns n ts (turn.Go k rest) = (closing n (shown ts) ≡ closing k (shown rest.now)) × (k ≤ n + 1) × (length ts ≡ length rest.now + 1)

-- the body whose `{` stands before the pieces
abbrev pub HasInside : ℕ → Position → List Piece → Option BodyFound → Type 0
HasInside end opens ts None = body end (Token.Sign m.OpenCurly opens ∷ shown ts) ≡ None
HasInside end opens ts (Some x) =
    (body end (Token.Sign m.OpenCurly opens ∷ shown ts) ≡ Some (x.span, shown x.rest.now))
    × (shown x.inside.now ≡ take (x.span.to - x.span.from) (shown ts)) × (length x.rest.now < length ts)

-- the body whose `{` comes first
abbrev pub HasBody : ℕ → List Piece → Option BodyFound → Type 0
HasBody end ts None = body end (shown ts) ≡ None
HasBody end ts (Some x) =
    (body end (shown ts) ≡ Some (x.span, shown x.rest.now))
    × (shown x.inside.now ≡ take (x.span.to - x.span.from) (drop 1 (shown ts))) × (length x.rest.now < length ts)

abbrev pub HasBehind : Token → ℕ → List Piece → Option Bodied → Type 0
HasBehind x end ts None = c.behind x end (shown ts) ≡ None
HasBehind x end ts (Some b) =
    (c.behind x end (shown ts) ≡ Some (b.body.span, shown b.body.rest.now)) × (c.with_span x b.body.span ≡ piece_shown b.piece)
    × (shown b.body.inside.now ≡ take (b.body.span.to - b.body.span.from) (drop 1 (shown ts))) × (length b.body.rest.now < length ts)

-- ---- heads

abbrev pub all_shown : List (Bor (List Piece)) → List Tokens
all_shown = map (λ (x : Bor (List Piece)). shown x.now)

abbrev pub inside_shown : Option (Bor (List Piece)) → List Tokens
inside_shown None = []
inside_shown (Some x) = shown x.now ∷ []

abbrev pub cut_seen : CutFound → c.Cut
cut_seen x = record { text = shown x.text.items; bodies = all_shown x.bodies.items; rest = shown x.rest.now }

-- a head that begins with these tokens and bodies
abbrev pub before : Tokens → List Tokens → Option c.Cut → Option c.Cut
before xs ys None = None
before xs ys (Some x) = Some (record { text = xs ++ x.text; bodies = ys ++ x.bodies; rest = x.rest })

-- the rest of a head, behind tokens where n are open
unfoldable pub cut_from : c.Stop → ℕ → ℕ → Tokens → Option c.Cut
cut_from stop end n ts = c.cut_by stop (length ts) end n ts

abbrev pub Steps : c.Stop → ℕ → ℕ → List Piece → Step → Type 0
Steps stop end n ts step.Ends = cut_from stop end n (shown ts) ≡ Some (record { text = []; bodies = []; rest = shown ts })
Steps stop end n ts step.Fails = cut_from stop end n (shown ts) ≡ None
Steps stop end n ts (step.Goes x) =
    (cut_from stop end n (shown ts) ≡ before (piece_shown x.piece ∷ []) (inside_shown x.inside) (cut_from stop end x.depth (shown x.rest.now)))
    × (x.depth ≤ n + 1) × (length x.rest.now < length ts)
