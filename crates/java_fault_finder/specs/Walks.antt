-- What forms do where they stand, and what a walk from run to run finds.
use Rattle.std.specs.Prelude.{◌≡◌, ℕ, Bool, true, false, if◌then◌else◌, List, [], ◌∷◌, map, reverse, Option, Some, None, is_some}
use Rattle.std.specs.Borrow.{Bor}
use Rattle.java_tree.specs.declared.tokens.Mark.TheVariants as m
use Rattle.java_tree.specs.Seen.{Token, Tokens}
use Rattle.java_expr_grammar.specs.Reading.{◌>>=◌, whole, open_curly}
use Rattle.java_token_cursor.specs.declared.piece.Piece.{Piece}
use Rattle.java_token_cursor.specs.Shown.{shown}
use Rattle.java_member_grammar.specs.declared.homes.JHome.{JHome}
use Rattle.java_member_grammar.specs.Modifiers.{type_fits}
use Rattle.java_member_grammar.specs.declared.heads.JTypeHead.{JTypeHead}
use Rattle.java_member_grammar.specs.declared.heads.JTypeHead.TheVariants as kind
use Rattle.java_unit_grammar.specs.Standing.{Owner, steps}
use Rattle.java_unit_grammar.specs.Reading.{readers, close_curly, constants_list}
use Rattle.java_fault_grammar.specs.Walk as w
use Rattle.java_fault_grammar.specs.Forms.{form_at, form_read, constants_by}
use Rattle.java_fault_finder.specs.declared.states.Spot.{Spot}
use Rattle.java_fault_finder.specs.declared.states.Spot.TheVariants as s
use Rattle.java_fault_finder.specs.declared.states.Opened.{Opened}
use Rattle.java_fault_finder.specs.declared.states.Opened.TheVariants as o
use Rattle.java_fault_finder.specs.declared.states.Passed.{Passed}
use Rattle.java_fault_finder.specs.declared.states.Passed.TheVariants as p
use Rattle.java_fault_finder.specs.declared.states.State.{State}

abbrev pub spot_seen : Spot → w.Spot
spot_seen s.Start = w.Spot.Start
spot_seen s.Lines = w.Spot.Lines
spot_seen s.Top = w.Spot.Top
spot_seen s.Constants = w.Spot.Constants
spot_seen s.Member = w.Spot.Member

abbrev pub opened_seen : Opened → Owner
opened_seen (o.Class n) = Owner.Class (Some n)
opened_seen o.Interface = Owner.Interface

-- the innermost first
unfoldable pub around_seen : List Opened → List Owner
around_seen xs = reverse (map opened_seen xs)

abbrev pub state_seen : State → w.State
state_seen x = record { spot = spot_seen x.spot; around = around_seen x.around.items }

-- ---- what forms do

abbrev pub opened_of : JTypeHead → Opened
opened_of (kind.Class mods at n nat params above faces) = o.Class n
opened_of (kind.Interface mods at n nat params above) = o.Interface
opened_of (kind.Enum mods at n nat faces) = o.Class n

abbrev pub is_enum : JTypeHead → Bool
is_enum (kind.Enum mods at n nat faces) = true
is_enum _ = false

abbrev pub passed_of : w.Form → Passed
passed_of (w.Form.Package x) = p.Line
passed_of (w.Form.Import x) = p.Line
passed_of (w.Form.Head x left) = p.Opens (opened_of x) (is_enum x)
passed_of (w.Form.Member x) = p.Member
passed_of (w.Form.Constants x bodies) = p.Constants
passed_of (w.Form.Ends at) = p.Ends

abbrev pub inner : Bool → w.Spot
inner true = w.Spot.Constants
inner false = w.Spot.Member

-- where members stand
abbrev pub level : List Owner → w.Spot
level [] = w.Spot.Top
level (x ∷ xs) = w.Spot.Member

abbrev pub behind : List Owner → List Owner
behind [] = []
behind (x ∷ xs) = xs

-- where the next run stands
abbrev pub after : w.State → Passed → w.State
after s p.Line = record { spot = w.Spot.Lines; around = s.around }
after s (p.Opens x e) = record { spot = inner e; around = opened_seen x ∷ s.around }
after s p.Member = record { spot = level s.around; around = s.around }
after s p.Constants = record { spot = w.Spot.Member; around = s.around }
after s p.Ends = record { spot = level (behind s.around); around = behind s.around }

-- ---- reading

abbrev pub does : Option w.Form → Option Passed
does o = o >>= λ x. Some (passed_of x)

-- whether a `{` is all
abbrev pub lone_curly : Tokens → Bool
lone_curly ts = is_some (whole (open_curly ts))

-- what the head of a type does where it stands
abbrev pub fitting : JHome → JTypeHead → Option Passed
fitting place x = if type_fits place x then Some (p.Opens (opened_of x) (is_enum x)) else None

-- what the form does that the tokens of a run spell
unfoldable pub passed_at : w.State → Tokens → Option Passed
passed_at s text = does (form_at s.spot s.around text)

-- what the form does that begins the tokens, and what follows it
unfoldable pub pass_read : w.State → Tokens → Option (Passed × Tokens)
pass_read s ts = form_read s ts >>= λ x. Some (passed_of x.0, x.1)

abbrev pub passed_found : Passed × Bor (List Piece) → Passed × Tokens
passed_found x = (x.0, shown x.1.now)

abbrev pub same : {A : Type 0} → A → A
same x = x

abbrev pub closed : Tokens → Option Tokens
closed (Token.Sign m.CloseCurly at ∷ rest) = Some rest
closed _ = None

abbrev pub end_by : w.Spot → List Owner → Tokens → Option Tokens
end_by w.Spot.Member (owner ∷ around) ts = closed ts
end_by spot around ts = None

-- what follows the `}` of a type's body that comes first
abbrev pub end_read : w.State → Tokens → Option Tokens
end_read s ts = end_by s.spot s.around ts

abbrev pub HasRest : Option Tokens → Option (Bor (List Piece)) → Type 0
HasRest read None = read ≡ None
HasRest read (Some rest) = read ≡ Some (shown rest.now)

-- how many tokens the reader of constants asks for behind them
abbrev pub room : w.Spot → ℕ
room w.Spot.Constants = 1
room _ = 0

-- whether a `}` is all
abbrev pub lone_end : Tokens → Bool
lone_end ts = is_some (whole (close_curly ts))

-- whether the tokens are the constants of an enum with a `}` behind them
abbrev pub are_constants : Tokens → Bool
are_constants ts = is_some (constants_list (readers steps) ts >>= λ x. constants_by x)

-- ---- what a walk finds

-- Each run of the tokens is spelled.
pub record IsWalked (ts : Tokens) : Type 0 where
  pub forms : List w.Form
  pub state : w.State
  pub leads : w.Lead w.start ts forms state []

abbrev pub Walked : Tokens → Option ℕ → Type 0
Walked ts None = IsWalked ts
Walked ts (Some i) = w.IsFault ts i
