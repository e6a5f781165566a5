-- What the forms do that runs spell.
use Rattle.std.proofs.Common.{◌≡◌, suc, Bool, true, false, cond, List, [], ◌∷◌, ◌++◌, length, Option, Some, None, is_some, refl, ap, sym, ◌∙◌}
use Rattle.java_tree.specs.declared.tokens.Position.{Position}
use Rattle.java_tree.specs.declared.tokens.Mark.TheVariants as m
use Rattle.java_tree.specs.Seen.{Token, Tokens}
use Rattle.java_tree.specs.Trees.{max_depth}
use Rattle.java_expr_grammar.specs.Reading.{Read, ◌>>=◌, maybe, whole, open_curly}
use Rattle.java_token_cursor.proofs.LawsToCite.{shown_more}
use Rattle.java_expr_grammar.proofs.LawsToCite.{some_same}
use Rattle.java_statement_grammar.specs.Reading.{semicolon}
use Rattle.java_member_grammar.specs.declared.homes.JHome.{JHome}
use Rattle.java_member_grammar.specs.declared.homes.JHome.TheVariants as home
use Rattle.java_member_grammar.specs.declared.heads.JTypeHead.{JTypeHead}
use Rattle.java_member_grammar.specs.declared.lines.JPackage.{JPackage}
use Rattle.java_member_grammar.specs.declared.lines.JImport.{JImport}
use Rattle.java_member_grammar.specs.Modifiers.{type_fits}
use Rattle.java_member_grammar.specs.Reading.{type_head, package_line, import_line}
use Rattle.java_unit_grammar.specs.declared.statements.JMember.{JMember}
use Rattle.java_member_grammar.specs.declared.lines.JConstants.{JConstants}
use Rattle.java_unit_grammar.specs.Standing.{Owner, home_of, top_levels, steps}
use Rattle.java_unit_grammar.specs.Reading.{Headed, is_end, before_curly, goes_declared, goes_type, readers, declared, bodied, constants_list}
use Rattle.java_fault_grammar.specs.Walk as w
use Rattle.java_fault_grammar.specs.Forms as f
use Rattle.java_fault_finder.specs.declared.states.Opened.{Opened}
use Rattle.java_fault_finder.specs.declared.states.Passed.TheVariants as p
use Rattle.java_fault_finder.specs.Walks.{opened_seen, around_seen, opened_of, is_enum, does, lone_curly, fitting}
use Rattle.java_fault_finder.proofs.Passing.{around_none, around_push}

-- ---- a `{` alone

pub lone_none : (ts : Tokens) → open_curly ts ≡ None → lone_curly ts ≡ false
lone_none ts e = ap (λ (o : Read Position). is_some (whole o)) e

pub lone_some : (ts rest : Tokens) (at : Position) → open_curly ts ≡ Some (at, rest) → lone_curly ts ≡ is_end rest
lone_some ts rest at e = ap (λ (o : Read Position). is_some (whole o)) e ∙ by rest
  where
    by : (us : Tokens) → is_some (whole (Option.Some (at, us))) ≡ is_end us
    by [] = refl
    by (x ∷ us) = refl

pub ruleset lone = (lone_none, lone_some)

-- ---- heads of types

abbrev Halves : Type 0
Halves = Tokens × Tokens

abbrev form_of : JHome → Halves → Option w.Form
form_of place h = type_head max_depth h.0 >>= λ x. whole (open_curly h.1) >>= λ left. cond (type_fits place x) (Some (w.Form.Head x left)) None

form_is : (place : JHome) (text : Tokens) (h : Halves) → h ≡ before_curly text → f.head_form place text ≡ form_of place h
unfolding f.head_form
form_is place text h e = ap (form_of place) (sym e)

alone_by : (place : JHome) (o : Option JTypeHead) (after : Option Position) → is_some after ≡ false → does (o >>= λ x. after >>= λ left. cond (type_fits place x) (Option.Some (w.Form.Head x left)) None) ≡ None
alone_by place None after e = refl
alone_by place (Some x) None e = refl
alone_by place (Some x) (Some left) e = absurd (cc e)

pub head_alone : (place : JHome) (text before after : Tokens) → (before, after) ≡ before_curly text → lone_curly after ≡ false → does (f.head_form place text) ≡ None
head_alone place text before after e none = ap does (form_is place text (before, after) e) ∙ alone_by place (type_head max_depth before) (whole (open_curly after)) none

pub head_none : (place : JHome) (text before after : Tokens) → (before, after) ≡ before_curly text → type_head max_depth before ≡ None → does (f.head_form place text) ≡ None
head_none place text before after e none =
    ap does (form_is place text (before, after) e)
    ∙ ap (λ (o : Option JTypeHead). does (o >>= λ x. whole (open_curly after) >>= λ left. cond (type_fits place x) (Option.Some (w.Form.Head x left)) None)) none

fits_by : (place : JHome) (x : JTypeHead) (left : Position) (b : Bool) → type_fits place x ≡ b → does (cond b (Option.Some (w.Form.Head x left)) None) ≡ fitting place x
fits_by place x left true e = ap (λ (b : Bool). cond b (Option.Some (p.Opens (opened_of x) (is_enum x))) None) (sym e)
fits_by place x left false e = ap (λ (b : Bool). cond b (Option.Some (p.Opens (opened_of x) (is_enum x))) None) (sym e)

some_by : (place : JHome) (x : JTypeHead) (after : Option Position) → is_some after ≡ true → does (after >>= λ left. cond (type_fits place x) (Option.Some (w.Form.Head x left)) None) ≡ fitting place x
some_by place x None e = absurd (cc e)
some_by place x (Some left) e = fits_by place x left (type_fits place x) refl

pub head_some : (place : JHome) (text before after : Tokens) (x : JTypeHead) → (before, after) ≡ before_curly text → lone_curly after ≡ true → type_head max_depth before ≡ Some x → does (f.head_form place text) ≡ fitting place x
head_some place text before after x e lone some =
    ap does (form_is place text (before, after) e)
    ∙ ap (λ (o : Option JTypeHead). does (o >>= λ x. whole (open_curly after) >>= λ left. cond (type_fits place x) (Option.Some (w.Form.Head x left)) None)) some
    ∙ some_by place x (whole (open_curly after)) lone

pub ruleset heads = (head_alone, head_none, head_some)

-- ---- lines

differ : true ≡ false → ⊥
differ e = cc e

pub semicolon_none : (ts : Tokens) → semicolon ts ≡ None → does (f.semicolon_form ts) ≡ None
semicolon_none (Token.Sign m.Semicolon at ∷ ts) e = absurd (cc e)
semicolon_none _ e = refl

pub semicolon_end : (ts rest : Tokens) (at : Position) → semicolon ts ≡ Some (at, rest) → is_end rest ≡ true → does (f.semicolon_form ts) ≡ Some p.Member
semicolon_end (Token.Sign m.Semicolon at ∷ []) rest p e h = refl
semicolon_end (Token.Sign m.Semicolon at ∷ x ∷ ts) rest p e h =
    let same : (at, x ∷ ts) ≡ (p, rest) = some_same e in
    let b : is_end (x ∷ ts) ≡ true = ap (λ (y : Position × Tokens). is_end y.1) same ∙ h in
    absurd (differ (sym b))
semicolon_end _ rest p e h = absurd (cc e)

pub semicolon_more : (ts rest : Tokens) (at : Position) → semicolon ts ≡ Some (at, rest) → is_end rest ≡ false → does (f.semicolon_form ts) ≡ None
semicolon_more (Token.Sign m.Semicolon at ∷ []) rest p e h =
    let same : (at, []) ≡ (p, rest) = some_same e in
    let b : true ≡ false = ap (λ (y : Position × Tokens). is_end y.1) same ∙ h in
    absurd (differ b)
semicolon_more (Token.Sign m.Semicolon at ∷ x ∷ ts) rest p e h = refl
semicolon_more _ rest p e h = absurd (cc e)

pub import_none : (ts : Tokens) → import_line ts ≡ None → does (f.import_form ts) ≡ does (f.semicolon_form ts)
import_none ts e = ap (λ (o : Option JImport). does (maybe o (f.semicolon_form ts) (λ x. Some (w.Form.Import x)))) e

pub import_some : (ts : Tokens) (x : JImport) → import_line ts ≡ Some x → does (f.import_form ts) ≡ Some p.Line
import_some ts x e = ap (λ (o : Option JImport). does (maybe o (f.semicolon_form ts) (λ x. Some (w.Form.Import x)))) e

pub package_none : (ts : Tokens) → package_line ts ≡ None → does (f.package_form ts) ≡ does (f.import_form ts)
package_none ts e = ap (λ (o : Option JPackage). does (maybe o (f.import_form ts) (λ x. Some (w.Form.Package x)))) e

pub package_some : (ts : Tokens) (x : JPackage) → package_line ts ≡ Some x → does (f.package_form ts) ≡ Some p.Line
package_some ts x e = ap (λ (o : Option JPackage). does (maybe o (f.import_form ts) (λ x. Some (w.Form.Package x)))) e

pub ruleset lines = (semicolon_none, semicolon_end, semicolon_more, import_none, import_some, package_none, package_some)

-- ---- outside of types

pub outside_type : (other : Tokens → Option w.Form) (ts : Tokens) → goes_type ts ≡ true → does (f.outside_form other ts) ≡ does (f.head_form home.File ts)
outside_type other ts e = ap (λ (b : Bool). does (cond b (f.head_form home.File ts) (other ts))) e

pub outside_other : (other : Tokens → Option w.Form) (ts : Tokens) → goes_type ts ≡ false → does (f.outside_form other ts) ≡ does (other ts)
outside_other other ts e = ap (λ (b : Bool). does (cond b (f.head_form home.File ts) (other ts))) e

pub ruleset outside = (outside_type, outside_other)

-- ---- what is asked

member_asked : (o : Option JMember) (b : Bool) → b ≡ is_some (o >>= λ y. Some (w.Form.Member y)) → does (o >>= λ y. Some (w.Form.Member y)) ≡ cond b (Option.Some p.Member) None
member_asked None b e = ap (λ (z : Bool). cond z (Option.Some p.Member) None) (sym e)
member_asked (Some y) b e = ap (λ (z : Bool). cond z (Option.Some p.Member) None) (sym e)

pub declared_asked : (owner : Owner) (ts : Tokens) (b : Bool) → b ≡ is_some (f.declared_form owner ts) → does (f.declared_form owner ts) ≡ cond b (Option.Some p.Member) None
declared_asked owner ts b e = member_asked (whole (declared (readers steps) max_depth (suc max_depth) 199 top_levels owner ts)) b e

pub bodied_asked : (owner : Owner) (ts : Tokens) (b : Bool) → b ≡ is_some (f.bodied_form owner ts) → does (f.bodied_form owner ts) ≡ cond b (Option.Some p.Member) None
bodied_asked owner ts b e = member_asked (whole (bodied (readers steps) max_depth (suc max_depth) max_depth owner ts)) b e

constants_by_asked : (y : Headed JConstants × Tokens) (b : Bool) → b ≡ is_some (f.constants_by y) → does (f.constants_by y) ≡ cond b (Option.Some p.Constants) None
constants_by_asked (x, Token.Sign m.CloseCurly at ∷ []) b e = ap (λ (z : Bool). cond z (Option.Some p.Constants) None) (sym e)
constants_by_asked _ b e = ap (λ (z : Bool). cond z (Option.Some p.Constants) None) (sym e)

constants_made : (o : Option (Headed JConstants × Tokens)) (b : Bool) → b ≡ is_some (o >>= λ x. f.constants_by x) → does (o >>= λ x. f.constants_by x) ≡ cond b (Option.Some p.Constants) None
constants_made None b e = ap (λ (z : Bool). cond z (Option.Some p.Constants) None) (sym e)
constants_made (Some y) b e = constants_by_asked y b e

pub constants_asked : (text ts : Tokens) (b : Bool) → ts ≡ text ++ f.end ∷ [] → b ≡ is_some (constants_list (readers steps) ts >>= λ x. f.constants_by x) → does (f.constants_form text) ≡ cond b (Option.Some p.Constants) None
unfolding f.constants_form
constants_asked text ts b same e =
    ap (λ (l : Tokens). does (constants_list (readers steps) l >>= λ x. f.constants_by x)) (sym same) ∙ constants_made (constants_list (readers steps) ts) b e

pub ruleset asks = (declared_asked, bodied_asked, constants_asked)

pub ruleset behind = (shown_more)

-- ---- among members

pub inside_declared : (owner : Owner) (ts : Tokens) → goes_declared ts ≡ true → does (f.inside_form owner ts) ≡ does (f.declared_form owner ts)
unfolding f.inside_form
inside_declared owner ts e = rw e refl

pub inside_type : (owner : Owner) (ts : Tokens) → goes_declared ts ≡ false → goes_type ts ≡ true → does (f.inside_form owner ts) ≡ does (f.head_form (home_of owner) ts)
unfolding f.inside_form
inside_type owner ts e t = rw (e, t) refl

pub inside_bodied : (owner : Owner) (ts : Tokens) → goes_declared ts ≡ false → goes_type ts ≡ false → does (f.inside_form owner ts) ≡ does (f.bodied_form owner ts)
unfolding f.inside_form
inside_bodied owner ts e t = rw (e, t) refl

pub ruleset inside = (inside_declared, inside_type, inside_bodied)

-- ---- whose members

pub around_last : (xs front : List Opened) (x : Opened) (ts : Tokens) → xs ≡ front ++ x ∷ [] → f.member_form (around_seen xs) ts ≡ f.inside_form (opened_seen x) ts
around_last xs front x ts e = ap (λ (l : List Opened). f.member_form (around_seen l) ts) e ∙ ap (λ (l : List Owner). f.member_form l ts) (around_push front x)

pub around_empty : (xs : List Opened) (ts : Tokens) → length xs ≡ 0 → f.member_form (around_seen xs) ts ≡ None
around_empty [] ts e = ap (λ (l : List Owner). f.member_form l ts) around_none
around_empty (x ∷ xs) ts e = absurd (cc e)

pub ruleset around = (around_last, around_empty)
