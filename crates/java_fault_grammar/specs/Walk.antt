-- The first run of a file that no form of its place spells.
use Rattle.std.specs.Prelude.{◌≡◌, ◌<◌, ◌-◌, ℕ, true, List, [], ◌∷◌, ◌++◌, length, map}
use Rattle.java_tree.specs.declared.tokens.Position.{Position}
use Rattle.java_tree.specs.declared.tokens.Mark.TheVariants as m
use Rattle.java_tree.specs.Seen.{Token, Tokens}
use Rattle.java_tree.specs.Trees.{max_depth}
use Rattle.java_member_grammar.specs.declared.homes.JHome.{JHome}
use Rattle.java_member_grammar.specs.declared.homes.JHome.TheVariants as home
use Rattle.java_member_grammar.specs.declared.heads.JMemberHead.TheVariants as head
use Rattle.java_member_grammar.specs.declared.heads.JTypeHead.{JTypeHead}
use Rattle.java_member_grammar.specs.declared.heads.JTypeHead.TheVariants as kind
use Rattle.java_member_grammar.specs.declared.lines.JConstants.{JConstants}
use Rattle.java_member_grammar.specs.declared.lines.JPackage.{JPackage}
use Rattle.java_member_grammar.specs.declared.lines.JImport.{JImport}
use Rattle.java_member_grammar.specs.Heads.{type_head_tokens, constants_tokens, package_tokens, import_tokens, TypeHeadStands, ConstantsStand}
use Rattle.java_member_grammar.specs.Modifiers.{type_fits}
use Rattle.java_unit_grammar.specs.declared.statements.JBody.{JBody}
use Rattle.java_unit_grammar.specs.declared.statements.JMember.{JMember, out-JMember}
use Rattle.java_unit_grammar.specs.declared.statements.JBody.TheOpen.{JMember-F}
use Rattle.java_unit_grammar.specs.declared.statements.JStatement.{JStatement}
use Rattle.java_unit_grammar.specs.declared.statements.JCase.{JCase}
use Rattle.java_unit_grammar.specs.declared.statements.JCaseGroup.{JCaseGroup}
use Rattle.java_unit_grammar.specs.declared.statements.JCatch.{JCatch}
use Rattle.java_unit_grammar.specs.Levels.{constants_levels}
use Rattle.java_unit_grammar.specs.Tokens.{filled, body_tokens, whole_member_tokens}
use Rattle.java_unit_grammar.specs.Standing.{Owner, owner_of, home_of, NodeStands, HeadStands, steps, top_stands}
use Rattle.java_fault_grammar.specs.Runs.{run}

-- where a run stands: first in a file, behind package and import lines alone, elsewhere outside of types, first in the body of
-- an enum, elsewhere in the body of a type
pub data Spot : Type 0 where
  Start : Spot
  Lines : Spot
  Top : Spot
  Constants : Spot
  Member : Spot

-- a spot, and whose bodies are open there, the innermost first
pub record State : Type 0 where
  pub spot : Spot
  pub around : List Owner

abbrev pub start : State
start = record { spot = Spot.Start; around = [] }

-- what a run is: a package line, an import line, the head of a type with its `{`, another member, or the constants of an enum with
-- the bodies of their arguments. The `}` of a type's body is no run.
pub data Form : Type 0 where
  Package : JPackage → Form
  Import : JImport → Form
  Head : JTypeHead → Position → Form
  Member : JMember → Form
  Constants : JConstants → List JBody → Form
  Ends : Position → Form

abbrev pub form_tokens : Form → Tokens
form_tokens (Form.Package x) = package_tokens x
form_tokens (Form.Import x) = import_tokens x
form_tokens (Form.Head x left) = type_head_tokens x ++ Token.Sign m.OpenCurly left ∷ []
form_tokens (Form.Member x) = whole_member_tokens x
form_tokens (Form.Constants x bodies) = filled (constants_tokens x) (map body_tokens bodies)
form_tokens (Form.Ends at) = Token.Sign m.CloseCurly at ∷ []

-- ---- which forms a place takes

-- a `;` outside of types
abbrev pub is_empty : JMember-F JBody JMember JStatement JCase JCaseGroup JCatch → Type 0
is_empty (JMember-F.Declared head.Empty bodies end) = bodies ≡ []
is_empty _ = ⊥

-- a member that is no type
abbrev pub own_stands : Owner → JMember-F JBody JMember JStatement JCase JCaseGroup JCatch → Type 0
own_stands owner (JMember-F.Type head left constants bodies members right) = ⊥
own_stands owner x = top_stands (NodeStands steps) (λ owner x. ⊥) owner x

abbrev pub head_stands : JHome → JTypeHead → Type 0
head_stands place x = (type_fits place x ≡ true) × TypeHeadStands max_depth x

abbrev pub takes_outside : Form → Type 0
takes_outside (Form.Head x left) = head_stands home.File x
takes_outside (Form.Member x) = is_empty (out-JMember x)
takes_outside _ = ⊥

abbrev pub takes_line : Form → Type 0
takes_line (Form.Import x) = Unit {0}
takes_line f = takes_outside f

abbrev pub takes_first : Form → Type 0
takes_first (Form.Package x) = Unit {0}
takes_first f = takes_line f

abbrev pub takes_constants : Form → Type 0
takes_constants (Form.Constants x bodies) = ConstantsStand max_depth x × HeadStands (NodeStands steps) 199 (constants_tokens x) (constants_levels x) bodies
takes_constants _ = ⊥

abbrev pub takes_inside : List Owner → Form → Type 0
takes_inside (owner ∷ around) (Form.Head x left) = head_stands (home_of owner) x
takes_inside (owner ∷ around) (Form.Member x) = own_stands owner (out-JMember x)
takes_inside (owner ∷ around) (Form.Ends at) = Unit {0}
takes_inside _ _ = ⊥

abbrev pub takes_at : Spot → List Owner → Form → Type 0
takes_at Spot.Start around f = takes_first f
takes_at Spot.Lines around f = takes_line f
takes_at Spot.Top around f = takes_outside f
takes_at Spot.Constants around f = takes_constants f
takes_at Spot.Member around f = takes_inside around f

abbrev pub takes : State → Form → Type 0
takes s f = takes_at s.spot s.around f

-- ---- from run to run

abbrev pub inner_spot : JTypeHead → Spot
inner_spot (kind.Enum mods at n nat faces) = Spot.Constants
inner_spot _ = Spot.Member

abbrev pub outer : List Owner → State
outer [] = record { spot = Spot.Top; around = [] }
outer (x ∷ []) = record { spot = Spot.Top; around = [] }
outer (x ∷ around) = record { spot = Spot.Member; around = around }

abbrev pub behind_member : List Owner → State
behind_member [] = record { spot = Spot.Top; around = [] }
behind_member around = record { spot = Spot.Member; around = around }

-- where the next run stands
abbrev pub next : State → Form → State
next s (Form.Package x) = record { spot = Spot.Lines; around = s.around }
next s (Form.Import x) = record { spot = Spot.Lines; around = s.around }
next s (Form.Head x left) = record { spot = inner_spot x; around = owner_of x ∷ s.around }
next s (Form.Member x) = behind_member s.around
next s (Form.Constants x bodies) = record { spot = Spot.Member; around = s.around }
next s (Form.Ends at) = outer s.around

-- whether the form is all of the run that begins the tokens
abbrev pub IsRun : Form → Tokens → Type 0
IsRun (Form.Ends at) ts = Unit {0}
IsRun f ts = (run ts).text ≡ form_tokens f

-- The form stands at its spot, and spells the run that begins the tokens; the rest follows it.
pub record Stands (s : State) (f : Form) (ts rest : Tokens) : Type 0 where
  pub taken : takes s f
  pub whole : IsRun f ts
  pub same : ts ≡ form_tokens f ++ rest

-- The forms spell the runs of the tokens one by one, from one state to another; the rest follows them.
abbrev pub Lead : State → Tokens → List Form → State → Tokens → Type 0
Lead s ts [] t rest = (s ≡ t) × (ts ≡ rest)
Lead s ts (f ∷ fs) t rest = (mid : Tokens) × Stands s f ts mid × Lead (next s f) mid fs t rest

-- The runs before the token of a number are spelled, and the one that it begins isn't.
pub record IsFault (ts : Tokens) (i : ℕ) : Type 0 where
  pub forms : List Form
  pub state : State
  pub rest : Tokens
  pub leads : Lead start ts forms state rest
  pub number : i ≡ length ts - length rest
  pub begins : i < length ts
  pub unspelled : (f : Form) (behind : Tokens) → Stands state f rest behind → ⊥

-- Every run of the tokens is spelled, and no body of a type is open behind them.
pub record IsSpelled (ts : Tokens) : Type 0 where
  pub forms : List Form
  pub state : State
  pub leads : Lead start ts forms state []
  pub ended : state.around ≡ []
