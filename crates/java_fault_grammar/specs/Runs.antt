-- How a file is cut into runs of tokens: each stands outside of all brackets, or directly in the body of a type, and the
-- brackets that open in it belong to it.
use Rattle.std.specs.Prelude.{ℕ, zero, suc, Bool, true, false, not, if◌then◌else◌, [], ◌∷◌}
use Rattle.java_tree.specs.declared.tokens.Mark.TheVariants as m
use Rattle.java_tree.specs.declared.tokens.Keyword.TheVariants as w
use Rattle.java_tree.specs.Seen.{Token, Tokens}

-- what ends a run: a `;`, the `{` of a type's body, the `}` of a `{` before which no `=` stood in the run, or the end of its level
pub data End : Type 0 where
  Semicolon : End
  Body : End
  Block : End
  Level : End

-- the run with what ends it (which at the end of a level is nothing), and what follows
pub record Run : Type 0 where
  pub text : Tokens
  pub end : End
  pub rest : Tokens

pub data Kind : Type 0 where
  OpenCurly : Kind
  CloseCurly : Kind
  Opens : Kind
  Closes : Kind
  Semicolon : Kind
  Assign : Kind
  Declares : Kind
  Other : Kind

abbrev pub kind : Token → Kind
kind (Token.Sign m.OpenCurly at) = Kind.OpenCurly
kind (Token.Sign m.CloseCurly at) = Kind.CloseCurly
kind (Token.Sign m.OpenRound at) = Kind.Opens
kind (Token.Sign m.OpenSquare at) = Kind.Opens
kind (Token.Sign m.CloseRound at) = Kind.Closes
kind (Token.Sign m.CloseSquare at) = Kind.Closes
kind (Token.Sign m.Semicolon at) = Kind.Semicolon
kind (Token.Sign m.Assign at) = Kind.Assign
kind (Token.Word w.Class at) = Kind.Declares
kind (Token.Word w.Interface at) = Kind.Declares
kind (Token.Word w.Enum at) = Kind.Declares
kind _ = Kind.Other

-- where a run is: how many of its brackets are open, whether the `}` of the outermost ends it, and whether outside of its
-- brackets there came `class`, `interface` or `enum` with no `=` before it, and a `=`
pub record Place : Type 0 where
  pub depth : ℕ
  pub ends : Bool
  pub is_type : Bool
  pub has_value : Bool

abbrev pub start : Place
start = record { depth = 0; ends = false; is_type = false; has_value = false }

pub data Turn : Type 0 where
  On : Place → Turn
  -- with this token
  Stop : End → Turn
  -- before this token
  Left : Turn

abbrev pub outside : Bool → Bool → Kind → Turn
outside t v Kind.OpenCurly =
    if t then Turn.Stop End.Body else Turn.On (record { depth = 1; ends = not v; is_type = t; has_value = v })
outside t v Kind.CloseCurly = Turn.Left
outside t v Kind.Opens = Turn.On (record { depth = 1; ends = false; is_type = t; has_value = v })
outside t v Kind.Closes = Turn.Left
outside t v Kind.Semicolon = Turn.Stop End.Semicolon
outside t v Kind.Assign = Turn.On (record { depth = 0; ends = false; is_type = t; has_value = true })
outside t false Kind.Declares = Turn.On (record { depth = 0; ends = false; is_type = true; has_value = false })
outside t true Kind.Declares = Turn.On (record { depth = 0; ends = false; is_type = t; has_value = true })
outside t v Kind.Other = Turn.On (record { depth = 0; ends = false; is_type = t; has_value = v })

-- A `}` closes the outermost bracket, or one of others.
abbrev pub closed : ℕ → Bool → Bool → Bool → Turn
closed zero true t v = Turn.Stop End.Block
closed n e t v = Turn.On (record { depth = n; ends = e; is_type = t; has_value = v })

-- where suc n brackets are open
abbrev pub inside : ℕ → Bool → Bool → Bool → Kind → Turn
inside n e t v Kind.OpenCurly = Turn.On (record { depth = suc (suc n); ends = e; is_type = t; has_value = v })
inside n e t v Kind.Opens = Turn.On (record { depth = suc (suc n); ends = e; is_type = t; has_value = v })
inside n e t v Kind.CloseCurly = closed n e t v
inside n e t v Kind.Closes = Turn.On (record { depth = n; ends = e; is_type = t; has_value = v })
inside n e t v kind = Turn.On (record { depth = suc n; ends = e; is_type = t; has_value = v })

abbrev pub turned_by : ℕ → Bool → Bool → Bool → Kind → Turn
turned_by zero e t v k = outside t v k
turned_by (suc n) e t v k = inside n e t v k

abbrev pub turned : Place → Kind → Turn
turned p k = turned_by p.depth p.ends p.is_type p.has_value k

abbrev pub with_token : Token → Run → Run
with_token x r = record { text = x ∷ r.text; end = r.end; rest = r.rest }

abbrev pub run_turn : Token → Tokens → Turn → (Place → Run) → Run
run_turn x ts (Turn.On p) go = with_token x (go p)
run_turn x ts (Turn.Stop end) go = record { text = x ∷ []; end = end; rest = ts }
run_turn x ts Turn.Left go = record { text = []; end = End.Level; rest = x ∷ ts }

unfoldable pub run_from : Place → Tokens → Run
run_from p [] = record { text = []; end = End.Level; rest = [] }
run_from p (x ∷ ts) = run_turn x ts (turned p (kind x)) (λ q. run_from q ts)

-- the run that begins the tokens
abbrev pub run : Tokens → Run
run = run_from start
