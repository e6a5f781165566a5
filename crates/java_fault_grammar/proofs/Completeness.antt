-- What stands of a form is read.
use Rattle.std.proofs.Common.{◌≡◌, ◌≤◌, suc, true, false, List, [], ◌∷◌, ◌++◌, length, map, Option, Some, None, refl, ap, sym, ◌∙◌, subst, append_assoc, arith}
use Rattle.std.proofs.lemmas.List.{append-nil, length-append}
use Rattle.java_tree.specs.declared.tokens.Position.{Position}
use Rattle.java_tree.specs.declared.tokens.Mark.TheVariants as m
use Rattle.java_tree.specs.Seen.{Token, Tokens}
use Rattle.java_tree.specs.Trees.{max_depth}
use Rattle.java_expr_grammar.proofs.LawsToCite.{some_same}
use Rattle.java_member_grammar.specs.declared.homes.JHome.{JHome}
use Rattle.java_member_grammar.specs.declared.homes.JHome.TheVariants as home
use Rattle.java_member_grammar.specs.declared.heads.JMemberHead.{JMemberHead}
use Rattle.java_member_grammar.specs.declared.heads.JMemberHead.TheVariants as head
use Rattle.java_member_grammar.specs.declared.heads.JTypeHead.{JTypeHead}
use Rattle.java_member_grammar.specs.declared.lines.JPackage.{JPackage}
use Rattle.java_member_grammar.specs.declared.lines.JImport.{JImport}
use Rattle.java_member_grammar.specs.Heads.{member_tokens, type_head_tokens, package_tokens, import_tokens}
use Rattle.java_member_grammar.proofs.LawsToCite.{type_is_read, package_is_read, import_is_read}
use Rattle.java_unit_grammar.specs.declared.statements.JBody.{JBody}
use Rattle.java_unit_grammar.specs.declared.statements.JStatement.{JStatement}
use Rattle.java_unit_grammar.specs.declared.statements.JMember.{JMember, out-JMember, roll-JMember, roll-out-JMember}
use Rattle.java_unit_grammar.specs.declared.statements.JMember.TheVariants as member
use Rattle.java_unit_grammar.specs.declared.statements.JBody.TheOpen.{JMember-F}
use Rattle.java_unit_grammar.specs.Tokens.{joined, filled, braced, body_tokens, statement_tokens, whole_member_tokens}
use Rattle.java_unit_grammar.specs.Standing.{Owner, home_of, NodeStands, top_levels, steps}
use Rattle.java_unit_grammar.specs.Reading as r
use Rattle.java_unit_grammar.proofs.LawsToCite.{tokens_Declared, tokens_Bodied, declared_past, curly_past, head_quiet, head_is_type, member_quiet, member_no_type, Layer, fits_precede, declared_again, bodied_again, constants_again, declared_goes, curly_declared, Begins_by, member_begins, agains}
use Rattle.java_fault_grammar.specs.Runs.{run}
use Rattle.java_fault_grammar.specs.Walk.{Spot, State, Form, form_tokens, is_empty, own_stands, head_stands, takes_outside, takes_line, takes_first, takes_constants, takes_inside, takes_at, IsRun, Stands}
use Rattle.java_fault_grammar.specs.Forms as f
use Rattle.java_fault_grammar.proofs.Runs.{run_rest, run_open}

-- ---- heads of types

abbrev head_text : JTypeHead → Position → Tokens
head_text x left = type_head_tokens x ++ Token.Sign m.OpenCurly left ∷ []

head_again : (place : JHome) (x : JTypeHead) (left : Position) → head_stands place x → f.head_form place (head_text x left) ≡ Some (Form.Head x left)
unfolding f.head_form
head_again place x left s = rw (curly_past (type_head_tokens x) left [] (head_quiet max_depth x s.1), type_is_read max_depth (type_head_tokens x) x s.1 refl, s.0) refl

typed_again : (other : Tokens → Option Form) (x : JTypeHead) (left : Position) → head_stands home.File x → f.outside_form other (head_text x left) ≡ Some (Form.Head x left)
typed_again other x left s = rw (head_is_type x (Token.Sign m.OpenCurly left ∷ [])) (head_again home.File x left s)

-- ---- outside of types

record Takes_semicolon (read : Tokens → Option Form) : Type 0 where
  reads : (at : Position) → read (Token.Sign m.Semicolon at ∷ []) ≡ Some (Form.Member (member.Declared head.Empty [] at))

empty_layer : (read : Tokens → Option Form) → Takes_semicolon read → (layer : Layer) → is_empty layer → read (whole_member_tokens (roll-JMember layer)) ≡ Some (Form.Member (roll-JMember layer))
empty_layer read h (JMember-F.Declared head.Empty xs at) s =
    let G : JMember → Type 0 = λ z. read (whole_member_tokens z) ≡ Some (Form.Member z) in
    subst G (sym (member.rolls-Declared head.Empty xs at))
    (ap read (tokens_Declared head.Empty xs at) ∙ h.reads at ∙ ap (λ (l : List JBody). Option.Some (Form.Member (member.Declared head.Empty l at))) (sym s))
empty_layer read h (JMember-F.Declared (head.Field mods x) xs at) s = absurd s
empty_layer read h (JMember-F.Declared (head.Method mods params result name nat formals throws) xs at) s = absurd s
empty_layer read h (JMember-F.Declared (head.Constructor mods name nat formals throws) xs at) s = absurd s
empty_layer read h (JMember-F.Declared (head.Initializer static) xs at) s = absurd s
empty_layer read h (JMember-F.Bodied x left xs right) s = absurd s
empty_layer read h (JMember-F.Type x left cs bodies xs right) s = absurd s

empty_again : (read : Tokens → Option Form) → Takes_semicolon read → (x : JMember) → is_empty (out-JMember x) → read (whole_member_tokens x) ≡ Some (Form.Member x)
empty_again read h x s = subst (λ (z : JMember). read (whole_member_tokens z) ≡ Some (Form.Member z)) (roll-out-JMember x) (empty_layer read h (out-JMember x) s)

empty_size : (layer : Layer) → is_empty layer → 1 ≤ length (whole_member_tokens (roll-JMember layer))
empty_size (JMember-F.Declared head.Empty xs at) s =
    let e = ap length (ap whole_member_tokens (member.rolls-Declared head.Empty xs at) ∙ tokens_Declared head.Empty xs at) in omega (arith, e)
empty_size (JMember-F.Declared (head.Field mods x) xs at) s = absurd s
empty_size (JMember-F.Declared (head.Method mods params result name nat formals throws) xs at) s = absurd s
empty_size (JMember-F.Declared (head.Constructor mods name nat formals throws) xs at) s = absurd s
empty_size (JMember-F.Declared (head.Initializer static) xs at) s = absurd s
empty_size (JMember-F.Bodied x left xs right) s = absurd s
empty_size (JMember-F.Type x left cs bodies xs right) s = absurd s

pub empty_full : (x : JMember) → is_empty (out-JMember x) → 1 ≤ length (whole_member_tokens x)
empty_full x s = subst (λ (z : JMember). 1 ≤ length (whole_member_tokens z)) (roll-out-JMember x) (empty_size (out-JMember x) s)

outside_again : (other : Tokens → Option Form) → Takes_semicolon (f.outside_form other) → (form : Form) → takes_outside form → f.outside_form other (form_tokens form) ≡ Some form
outside_again other h (Form.Head x left) s = typed_again other x left s
outside_again other h (Form.Member x) s = empty_again (f.outside_form other) h x s
outside_again other h (Form.Package x) s = absurd s
outside_again other h (Form.Import x) s = absurd s
outside_again other h (Form.Constants x bodies) s = absurd s
outside_again other h (Form.Ends at) s = absurd s

import_again : (x : JImport) → f.import_form (import_tokens x) ≡ Some (Form.Import x)
import_again x = rw (import_is_read (import_tokens x) x refl) refl

package_again : (x : JPackage) → f.package_form (package_tokens x) ≡ Some (Form.Package x)
package_again x = rw (package_is_read (package_tokens x) x refl) refl

line_again : (form : Form) → takes_line form → f.outside_form f.import_form (form_tokens form) ≡ Some form
line_again (Form.Import x) s = import_again x
line_again (Form.Head x left) s = typed_again f.import_form x left s
line_again (Form.Member x) s = empty_again (f.outside_form f.import_form) (record { reads = λ at. refl }) x s
line_again (Form.Package x) s = absurd s
line_again (Form.Constants x bodies) s = absurd s
line_again (Form.Ends at) s = absurd s

first_again : (form : Form) → takes_first form → f.outside_form f.package_form (form_tokens form) ≡ Some form
first_again (Form.Package x) s = package_again x
first_again (Form.Import x) s = import_again x
first_again (Form.Head x left) s = typed_again f.package_form x left s
first_again (Form.Member x) s = empty_again (f.outside_form f.package_form) (record { reads = λ at. refl }) x s
first_again (Form.Constants x bodies) s = absurd s
first_again (Form.Ends at) s = absurd s

-- ---- the constants of an enum

constants_form_again : (form : Form) → takes_constants form → f.constants_form (form_tokens form) ≡ Some form
unfolding f.constants_form
constants_form_again (Form.Constants x bodies) s =
    rw (constants_again (NodeStands steps) (r.readers steps) (agains steps) x bodies x.end (f.end ∷ []) refl (λ e. refl) s.0 s.1) refl
constants_form_again (Form.Package x) s = absurd s
constants_form_again (Form.Import x) s = absurd s
constants_form_again (Form.Head x left) s = absurd s
constants_form_again (Form.Member x) s = absurd s
constants_form_again (Form.Ends at) s = absurd s

-- ---- members

module _ (owner : Owner) where
  declared_again_in : (x : JMemberHead) (xs : List JBody) (end : Position) → own_stands owner (JMember-F.Declared x xs end)
      → f.inside_form owner (filled (member_tokens x) (map body_tokens xs) ++ Token.Sign m.Semicolon end ∷ []) ≡ Some (Form.Member (member.Declared x xs end))
  unfolding f.inside_form
  declared_again_in x xs end s =
      let text : Tokens = filled (member_tokens x) (map body_tokens xs) ++ Token.Sign m.Semicolon end ∷ [] in
      let g = declared_goes (NodeStands steps) (r.readers steps) (agains steps) max_depth (suc max_depth) owner x xs end [] s.0 s.1 in
      let a = declared_again (NodeStands steps) (r.readers steps) (agains steps) max_depth (suc max_depth) 199 top_levels owner x xs end [] s.0 s.1 s.2 in
      ap (f.inside_form owner) (sym (append-nil text)) ∙ rw (g.goes, a) refl

  bodied_again_in : (x : JMemberHead) (left : Position) (xs : List JStatement) (right : Position) → own_stands owner (JMember-F.Bodied x left xs right)
      → f.inside_form owner (member_tokens x ++ braced left (map statement_tokens xs) right) ≡ Some (Form.Member (member.Bodied x left xs right))
  unfolding f.inside_form
  bodied_again_in x left xs right s =
      let text : Tokens = member_tokens x ++ braced left (map statement_tokens xs) right in
      let may = fits_precede owner true x s.0 in
      let inner : Tokens = joined (map statement_tokens xs) ++ Token.Sign m.CloseCurly right ∷ [] in
      let g = curly_declared (NodeStands steps) (r.readers steps) (agains steps) (member_tokens x) left inner [] (member_quiet max_depth (suc max_depth) x may s.1) in
      let t : r.goes_type (text ++ []) ≡ false =
      ap r.goes_type (append_assoc (member_tokens x) (braced left (map statement_tokens xs) right) []) ∙ member_no_type max_depth (suc max_depth) x left (inner ++ []) may s.1 in
      let a = bodied_again (NodeStands steps) (r.readers steps) (agains steps) max_depth (suc max_depth) max_depth owner x left xs right [] s.0 s.1 s.2 in
      ap (f.inside_form owner) (sym (append-nil text)) ∙ rw (g, t, a) refl

  own_layer : (layer : Layer) → own_stands owner layer → f.inside_form owner (whole_member_tokens (roll-JMember layer)) ≡ Some (Form.Member (roll-JMember layer))
  own_layer (JMember-F.Declared x xs end) s =
      let G : JMember → Type 0 = λ z. f.inside_form owner (whole_member_tokens z) ≡ Some (Form.Member z) in
      subst G (sym (member.rolls-Declared x xs end)) (ap (f.inside_form owner) (tokens_Declared x xs end) ∙ declared_again_in x xs end s)
  own_layer (JMember-F.Bodied x left xs right) s =
      let G : JMember → Type 0 = λ z. f.inside_form owner (whole_member_tokens z) ≡ Some (Form.Member z) in
      subst G (sym (member.rolls-Bodied x left xs right)) (ap (f.inside_form owner) (tokens_Bodied x left xs right) ∙ bodied_again_in x left xs right s)
  own_layer (JMember-F.Type x left cs bodies xs right) s = absurd s

  own_again : (x : JMember) → own_stands owner (out-JMember x) → f.inside_form owner (whole_member_tokens x) ≡ Some (Form.Member x)
  own_again x s = subst (λ (z : JMember). f.inside_form owner (whole_member_tokens z) ≡ Some (Form.Member z)) (roll-out-JMember x) (own_layer (out-JMember x) s)

  inner_head_again : (x : JTypeHead) (left : Position) → head_stands (home_of owner) x → f.inside_form owner (head_text x left) ≡ Some (Form.Head x left)
  unfolding f.inside_form
  inner_head_again x left s =
      let g : r.goes_declared (head_text x left) ≡ false = declared_past (type_head_tokens x) (Token.Sign m.OpenCurly left ∷ []) (head_quiet max_depth x s.1) in
      rw (g, head_is_type x (Token.Sign m.OpenCurly left ∷ [])) (head_again (home_of owner) x left s)

  own_begins : (layer : Layer) → own_stands owner layer → Begins_by max_depth (suc max_depth) owner layer
  own_begins (JMember-F.Declared x xs at) s = (s.0, s.1)
  own_begins (JMember-F.Bodied x left xs right) s = (s.0, s.1)
  own_begins (JMember-F.Type x left cs bodies xs right) s = absurd s

  pub own_full : (x : JMember) → own_stands owner (out-JMember x) → 1 ≤ length (whole_member_tokens x)
  own_full x s = (member_begins (NodeStands steps) (r.readers steps) (agains steps) max_depth (suc max_depth) owner x (own_begins (out-JMember x) s)).full

pub head_full : (x : JTypeHead) (left : Position) → 1 ≤ length (head_text x left)
head_full x left = let l = length-append (type_head_tokens x) (Token.Sign m.OpenCurly left ∷ []) in omega (arith, l)

-- ---- a run

run_read_again : (spot : Spot) (around : List Owner) (form : Form) (ts rest : Tokens) → f.form_at spot around (form_tokens form) ≡ Some form → (run ts).text ≡ form_tokens form → ts ≡ form_tokens form ++ rest
    → f.run_read spot around ts ≡ Some (form, rest)
unfolding f.run_read
run_read_again spot around form ts rest reads text same = rw (text, run_rest ts (form_tokens form) rest text same, reads) refl

member_read_again : (owner : Owner) (around : List Owner) (form : Form) (ts rest : Tokens) → f.inside_form owner (form_tokens form) ≡ Some form → 1 ≤ length (form_tokens form) → (run ts).text ≡ form_tokens form
    → ts ≡ form_tokens form ++ rest → f.member_read (owner ∷ around) ts ≡ Some (form, rest)
member_read_again owner around form ts rest reads full text same =
    let l = ap length text in
    rw (run_open ts (omega (arith, l, full))) (run_read_again Spot.Member (owner ∷ around) form ts rest reads text same)

outside_run : (form : Form) (ts : Tokens) → takes_outside form → IsRun form ts → (run ts).text ≡ form_tokens form
outside_run (Form.Head x left) ts s h = h
outside_run (Form.Member x) ts s h = h
outside_run (Form.Package x) ts s h = absurd s
outside_run (Form.Import x) ts s h = absurd s
outside_run (Form.Constants x bodies) ts s h = absurd s
outside_run (Form.Ends at) ts s h = absurd s

line_run : (form : Form) (ts : Tokens) → takes_line form → IsRun form ts → (run ts).text ≡ form_tokens form
line_run (Form.Import x) ts s h = h
line_run (Form.Head x left) ts s h = h
line_run (Form.Member x) ts s h = h
line_run (Form.Package x) ts s h = absurd s
line_run (Form.Constants x bodies) ts s h = absurd s
line_run (Form.Ends at) ts s h = absurd s

first_run : (form : Form) (ts : Tokens) → takes_first form → IsRun form ts → (run ts).text ≡ form_tokens form
first_run (Form.Package x) ts s h = h
first_run (Form.Import x) ts s h = h
first_run (Form.Head x left) ts s h = h
first_run (Form.Member x) ts s h = h
first_run (Form.Constants x bodies) ts s h = absurd s
first_run (Form.Ends at) ts s h = absurd s

constants_run : (form : Form) (ts : Tokens) → takes_constants form → IsRun form ts → (run ts).text ≡ form_tokens form
constants_run (Form.Constants x bodies) ts s h = h
constants_run (Form.Package x) ts s h = absurd s
constants_run (Form.Import x) ts s h = absurd s
constants_run (Form.Head x left) ts s h = absurd s
constants_run (Form.Member x) ts s h = absurd s
constants_run (Form.Ends at) ts s h = absurd s

inside_again : (owner : Owner) (around : List Owner) (form : Form) (ts rest : Tokens) → takes_inside (owner ∷ around) form → IsRun form ts → ts ≡ form_tokens form ++ rest
    → f.member_read (owner ∷ around) ts ≡ Some (form, rest)
inside_again owner around (Form.Head x left) ts rest s h same = member_read_again owner around (Form.Head x left) ts rest (inner_head_again owner x left s) (head_full x left) h same
inside_again owner around (Form.Member x) ts rest s h same = member_read_again owner around (Form.Member x) ts rest (own_again owner x s) (own_full owner x s) h same
inside_again owner around (Form.Ends at) ts rest s h same = ap (f.member_read (owner ∷ around)) same
inside_again owner around (Form.Package x) ts rest s h same = absurd s
inside_again owner around (Form.Import x) ts rest s h same = absurd s
inside_again owner around (Form.Constants x bodies) ts rest s h same = absurd s

no_owner : (form : Form) → takes_inside [] form → ⊥
no_owner (Form.Package x) s = s
no_owner (Form.Import x) s = s
no_owner (Form.Head x left) s = s
no_owner (Form.Member x) s = s
no_owner (Form.Constants x bodies) s = s
no_owner (Form.Ends at) s = s

read_at_again : (spot : Spot) (around : List Owner) (form : Form) (ts rest : Tokens) → takes_at spot around form → IsRun form ts → ts ≡ form_tokens form ++ rest → f.read_at spot around ts ≡ Some (form, rest)
read_at_again Spot.Start around form ts rest s h same = run_read_again Spot.Start around form ts rest (first_again form s) (first_run form ts s h) same
read_at_again Spot.Lines around form ts rest s h same = run_read_again Spot.Lines around form ts rest (line_again form s) (line_run form ts s h) same
read_at_again Spot.Top around form ts rest s h same =
    run_read_again Spot.Top around form ts rest (outside_again f.semicolon_form (record { reads = λ at. refl }) form s) (outside_run form ts s h) same
read_at_again Spot.Constants around form ts rest s h same = run_read_again Spot.Constants around form ts rest (constants_form_again form s) (constants_run form ts s h) same
read_at_again Spot.Member [] form ts rest s h same = absurd (no_owner form s)
read_at_again Spot.Member (owner ∷ around) form ts rest s h same = inside_again owner around form ts rest s h same

-- What stands is read.
pub form_again : (s : State) (form : Form) (ts rest : Tokens) → Stands s form ts rest → f.form_read s ts ≡ Some (form, rest)
form_again s form ts rest i = read_at_again s.spot s.around form ts rest i.taken i.whole i.same

-- where nothing is read, nothing stands
pub unread : (s : State) (ts : Tokens) → f.form_read s ts ≡ None → (form : Form) (rest : Tokens) → Stands s form ts rest → ⊥
unread s ts none form rest i = let a = form_again s form ts rest i in let c : None ≡ Some (form, rest) = sym none ∙ a in absurd (cc c)

pub form_one : (s : State) (f g : Form) (ts rest more : Tokens) → Stands s f ts rest → Stands s g ts more → (f ≡ g) × (rest ≡ more)
form_one s x y ts rest more i j =
    let e : (x, rest) ≡ (y, more) = some_same (sym (form_again s x ts rest i) ∙ form_again s y ts more j) in
    (ap (λ (p : Form × Tokens). p.0) e, ap (λ (p : Form × Tokens). p.1) e)
