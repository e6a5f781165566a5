-- Reading the form that spells the run which begins the tokens, and what follows it.
use Rattle.std.specs.Prelude.{suc, if◌then◌else◌, List, [], ◌∷◌, ◌++◌, Option, Some, None}
use Rattle.java_tree.specs.declared.tokens.Mark.TheVariants as m
use Rattle.java_tree.specs.Seen.{Token, Tokens}
use Rattle.java_tree.specs.Trees.{max_depth}
use Rattle.java_expr_grammar.specs.Reading.{◌>>=◌, maybe, whole, open_curly}
use Rattle.java_member_grammar.specs.declared.homes.JHome.{JHome}
use Rattle.java_member_grammar.specs.declared.homes.JHome.TheVariants as home
use Rattle.java_member_grammar.specs.declared.heads.JMemberHead.TheVariants as head
use Rattle.java_member_grammar.specs.Modifiers.{type_fits}
use Rattle.java_member_grammar.specs.Reading.{type_head, package_line, import_line}
use Rattle.java_unit_grammar.specs.declared.statements.JMember.TheVariants as member
use Rattle.java_unit_grammar.specs.Standing.{Owner, home_of, top_levels, steps}
use Rattle.java_unit_grammar.specs.Reading.{Headed, close_curly, before_curly, goes_declared, goes_type, readers, declared, bodied, constants_list}
use Rattle.java_member_grammar.specs.declared.lines.JConstants.{JConstants}
use Rattle.java_fault_grammar.specs.Runs.{run}
use Rattle.java_fault_grammar.specs.Walk.{Spot, State, Form}

-- ---- what the tokens of a run spell

unfoldable pub head_form : JHome → Tokens → Option Form
head_form place text = do
  x ← type_head max_depth (before_curly text).0
  left ← whole (open_curly (before_curly text).1)
  if type_fits place x then Some (Form.Head x left) else None

-- a `;` alone
abbrev pub semicolon_form : Tokens → Option Form
semicolon_form (Token.Sign m.Semicolon at ∷ []) = Some (Form.Member (member.Declared head.Empty [] at))
semicolon_form _ = None

abbrev pub import_form : Tokens → Option Form
import_form text = maybe (import_line text) (semicolon_form text) (λ x. Some (Form.Import x))

abbrev pub package_form : Tokens → Option Form
package_form text = maybe (package_line text) (import_form text) (λ x. Some (Form.Package x))

-- outside of types, where `other` reads what is no head of a type
abbrev pub outside_form : (Tokens → Option Form) → Tokens → Option Form
outside_form other text = if goes_type text then head_form home.File text else other text

-- a `}` behind the constants, which their reader asks for
abbrev pub end : Token
end = Token.Sign m.CloseCurly (record { offset = 0; line = 0; column = 0 })

abbrev pub constants_by : Headed JConstants × Tokens → Option Form
constants_by (x, Token.Sign m.CloseCurly at ∷ []) = Some (Form.Constants x.head x.bodies)
constants_by _ = None

unfoldable pub constants_form : Tokens → Option Form
constants_form text = constants_list (readers steps) (text ++ end ∷ []) >>= λ x. constants_by x

abbrev pub declared_form : Owner → Tokens → Option Form
declared_form owner text = whole (declared (readers steps) max_depth (suc max_depth) 199 top_levels owner text) >>= λ x. Some (Form.Member x)

abbrev pub bodied_form : Owner → Tokens → Option Form
bodied_form owner text = whole (bodied (readers steps) max_depth (suc max_depth) max_depth owner text) >>= λ x. Some (Form.Member x)

unfoldable pub inside_form : Owner → Tokens → Option Form
inside_form owner text =
    if goes_declared text then declared_form owner text
    else (if goes_type text then head_form (home_of owner) text else bodied_form owner text)

abbrev pub member_form : List Owner → Tokens → Option Form
member_form [] text = None
member_form (owner ∷ around) text = inside_form owner text

abbrev pub form_at : Spot → List Owner → Tokens → Option Form
form_at Spot.Start around text = outside_form package_form text
form_at Spot.Lines around text = outside_form import_form text
form_at Spot.Top around text = outside_form semicolon_form text
form_at Spot.Constants around text = constants_form text
form_at Spot.Member around text = member_form around text

-- ---- the form of the run that begins the tokens, or the `}` of a type's body, and what follows

unfoldable pub run_read : Spot → List Owner → Tokens → Option (Form × Tokens)
run_read spot around ts = form_at spot around (run ts).text >>= λ f. Some (f, (run ts).rest)

abbrev pub member_read : List Owner → Tokens → Option (Form × Tokens)
member_read [] ts = None
member_read (owner ∷ around) ts = maybe (close_curly ts) (run_read Spot.Member (owner ∷ around) ts) (λ c. Some (Form.Ends c.0, c.1))

abbrev pub read_at : Spot → List Owner → Tokens → Option (Form × Tokens)
read_at Spot.Member around ts = member_read around ts
read_at spot around ts = run_read spot around ts

abbrev pub form_read : State → Tokens → Option (Form × Tokens)
form_read s ts = read_at s.spot s.around ts
