-- What is read of a form stands.
use Rattle.std.proofs.Common.{◌≡◌, suc, List, [], ◌∷◌, ◌++◌, map, Option, Some, inl, inr, refl, ap, sym, ◌∙◌, subst}
use Rattle.std.proofs.lemmas.List.{append-nil}
use Rattle.java_tree.specs.declared.tokens.Position.{Position}
use Rattle.java_tree.specs.declared.tokens.Mark.TheVariants as m
use Rattle.java_tree.specs.Seen.{Token, Tokens}
use Rattle.java_tree.specs.Trees.{max_depth}
use Rattle.java_expr_grammar.specs.Reading.{whole, open_curly}
use Rattle.java_expr_grammar.proofs.LawsToCite.{bind_some, guard_some, cond_is, maybe_is, some_same}
use Rattle.java_statement_grammar.proofs.LawsToCite.{whole_only}
use Rattle.java_member_grammar.specs.declared.homes.JHome.{JHome}
use Rattle.java_member_grammar.specs.declared.homes.JHome.TheVariants as home
use Rattle.java_member_grammar.specs.declared.heads.JMemberHead.TheVariants as head
use Rattle.java_member_grammar.specs.declared.heads.JTypeHead.{JTypeHead}
use Rattle.java_member_grammar.specs.declared.lines.JConstants.{JConstants}
use Rattle.java_member_grammar.specs.Heads.{type_head_tokens, constants_tokens}
use Rattle.java_member_grammar.specs.Modifiers.{type_fits}
use Rattle.java_member_grammar.specs.Reading.{type_head, package_line, import_line}
use Rattle.java_member_grammar.proofs.LawsToCite.{type_is_spelled, package_is_spelled, import_is_spelled}
use Rattle.java_unit_grammar.specs.declared.statements.JMember.{JMember}
use Rattle.java_unit_grammar.specs.declared.statements.JMember.TheVariants as member
use Rattle.java_unit_grammar.specs.declared.statements.JBody.TheOpen.{JMember-F}
use Rattle.java_unit_grammar.specs.Tokens.{filled, body_tokens, whole_member_tokens}
use Rattle.java_unit_grammar.specs.Standing.{Owner, home_of, NodeStands, top_levels, steps}
use Rattle.java_unit_grammar.specs.Reading as r
use Rattle.java_unit_grammar.proofs.LawsToCite.{tokens_Declared, out_member, open_curly_only, close_curly_only, MemberIs, declared_sound, bodied_sound, ConstantsAre, constants_sound, sounds}
use Rattle.java_fault_grammar.specs.Runs.{run}
use Rattle.java_fault_grammar.specs.Walk.{Spot, State, Form, form_tokens, is_empty, own_stands, head_stands, takes_outside, takes_line, takes_first, takes_constants, takes_inside, takes_at, Stands}
use Rattle.java_fault_grammar.specs.Forms as f
use Rattle.java_fault_grammar.proofs.Runs.{run_parts, is_run}

-- a form that stands, where P says which do, and spells the text
pub record Formed (P : Form → Type 0) (text : Tokens) (form : Form) : Type 0 where
  pub takes : P form
  pub same : form_tokens form ≡ text

curly_text : (ts : Tokens) → ts ≡ (r.before_curly ts).0 ++ (r.before_curly ts).1
curly_text [] = refl
curly_text (Token.Sign m.OpenCurly at ∷ rest) = refl
curly_text (x ∷ rest) = ap (λ (l : Tokens). x ∷ l) (curly_text rest)

head_sound : (place : JHome) (P : Form → Type 0) → ((x : JTypeHead) (left : Position) → head_stands place x → P (Form.Head x left)) → (text : Tokens) (form : Form) → f.head_form place text ≡ Some form → Formed P text form
unfolding f.head_form
head_sound place P builds text form e =
    let a = bind_some (type_head max_depth (r.before_curly text).0) _ _ e in
    let b = bind_some (whole (open_curly (r.before_curly text).1)) _ _ a.2 in
    let g = guard_some (type_fits place a.0) _ form b.2 in
    let i = type_is_spelled max_depth (r.before_curly text).0 a.0 a.1 in
    let o = open_curly_only (r.before_curly text).1 (b.0, []) (whole_only (open_curly (r.before_curly text).1) b.0 b.1) in
    subst (Formed P text) (some_same g.1) (record {
      takes = builds a.0 b.0 (g.0, i.1);
      same = ap (λ (l : Tokens). type_head_tokens a.0 ++ l) (sym o) ∙ ap (λ (l : Tokens). l ++ (r.before_curly text).1) i.0 ∙ sym (curly_text text);
    })

semicolon_sound : (P : Form → Type 0) → ((f : Form) → takes_outside f → P f) → (text : Tokens) (form : Form) → f.semicolon_form text ≡ Some form → Formed P text form
semicolon_sound P wider (Token.Sign m.Semicolon at ∷ []) form e =
    let x : JMember = member.Declared head.Empty [] at in
    subst (Formed P (Token.Sign m.Semicolon at ∷ [])) (some_same e) (record {
      takes = wider (Form.Member x) (subst is_empty (sym (out_member (JMember-F.Declared head.Empty [] at) x (member.rolls-Declared head.Empty [] at))) refl);
      same = tokens_Declared head.Empty [] at;
    })
semicolon_sound P wider _ form e = absurd (cc e)

import_sound : (P : Form → Type 0) → ((f : Form) → takes_line f → P f) → ((f : Form) → takes_outside f → P f) → (text : Tokens) (form : Form) → f.import_form text ≡ Some form → Formed P text form
import_sound P wider outside text form e = elim (maybe_is (import_line text) _ _ (Some form) e) [
  | inl h ↦ semicolon_sound P outside text form h.1
  | inr h ↦ subst (Formed P text) (some_same h.2) (record { takes = wider (Form.Import h.0) tt; same = import_is_spelled text h.0 h.1 })
]

package_sound : (P : Form → Type 0) → ((f : Form) → takes_first f → P f) → ((f : Form) → takes_line f → P f) → ((f : Form) → takes_outside f → P f) → (text : Tokens) (form : Form)
    → f.package_form text ≡ Some form → Formed P text form
package_sound P wider line outside text form e = elim (maybe_is (package_line text) _ _ (Some form) e) [
  | inl h ↦ import_sound P line outside text form h.1
  | inr h ↦ subst (Formed P text) (some_same h.2) (record { takes = wider (Form.Package h.0) tt; same = package_is_spelled text h.0 h.1 })
]

outside_sound : (P : Form → Type 0) (other : Tokens → Option Form) → ((f : Form) → takes_outside f → P f) → ((text : Tokens) (form : Form) → other text ≡ Some form → Formed P text form) → (text : Tokens) (form : Form)
    → f.outside_form other text ≡ Some form → Formed P text form
outside_sound P other outside others text form e = elim (cond_is (r.goes_type text) _ _ _ e) [
  | inl h ↦ head_sound home.File P (λ x left s. outside (Form.Head x left) s) text form h.1
  | inr h ↦ others text form h.1
]

outside_line : (f : Form) → takes_outside f → takes_line f
outside_line (Form.Package x) s = absurd s
outside_line (Form.Import x) s = absurd s
outside_line (Form.Head x left) s = s
outside_line (Form.Member x) s = s
outside_line (Form.Constants x bodies) s = absurd s
outside_line (Form.Ends at) s = absurd s

line_first : (f : Form) → takes_line f → takes_first f
line_first (Form.Package x) s = absurd s
line_first (Form.Import x) s = tt
line_first (Form.Head x left) s = s
line_first (Form.Member x) s = s
line_first (Form.Constants x bodies) s = absurd s
line_first (Form.Ends at) s = absurd s

outside_first : (f : Form) → takes_outside f → takes_first f
outside_first f s = line_first f (outside_line f s)

-- ---- the constants of an enum

constants_by_sound : (text : Tokens) (y : r.Headed JConstants × Tokens) (form : Form) → ConstantsAre (NodeStands steps) (r.readers steps) (sounds steps) (text ++ f.end ∷ []) y → f.constants_by y ≡ Some form
    → Formed takes_constants text form
constants_by_sound text (x, Token.Sign m.CloseCurly at ∷ []) form i e =
    let T : Tokens = filled (constants_tokens x.head) (map body_tokens x.bodies) in
    subst (Formed takes_constants text) (some_same e) (record { takes = (i.head, i.bodies); same = sym (ends text T at i.same) })
  where
    ends : (a b : Tokens) (at : Position) → a ++ f.end ∷ [] ≡ b ++ Token.Sign m.CloseCurly at ∷ [] → a ≡ b
    ends [] [] at h = refl
    ends [] (y ∷ []) at h = absurd (cc h)
    ends [] (y ∷ z ∷ b) at h = absurd (cc h)
    ends (x ∷ []) [] at h = absurd (cc h)
    ends (x ∷ z ∷ a) [] at h = absurd (cc h)
    ends (x ∷ a) (y ∷ b) at h = let hd : x ≡ y = cc h in let tl : a ++ f.end ∷ [] ≡ b ++ Token.Sign m.CloseCurly at ∷ [] = cc h in let t = ends a b at tl in cc
constants_by_sound text _ form i e = absurd (cc e)

constants_form_sound : (text : Tokens) (form : Form) → f.constants_form text ≡ Some form → Formed takes_constants text form
unfolding f.constants_form
constants_form_sound text form e =
    let a = bind_some (r.constants_list (r.readers steps) (text ++ f.end ∷ [])) _ _ e in
    constants_by_sound text a.0 form (constants_sound (NodeStands steps) (r.readers steps) (sounds steps) (text ++ f.end ∷ []) a.0 a.1) a.2

-- ---- members

module _ (owner : Owner) (around : List Owner) where
  abbrev P : Form → Type 0
  P = takes_inside (owner ∷ around)

  member_sound : (text : Tokens) (y : JMember × Tokens) (form : Form) → MemberIs (own_stands owner) text y → y.1 ≡ [] → Option.Some (Form.Member y.0) ≡ Some form → Formed P text form
  member_sound text y form i none e =
      subst (Formed P text) (some_same e) (record {
        takes = i.stands;
        same = sym (append-nil (whole_member_tokens y.0)) ∙ ap (λ (l : Tokens). whole_member_tokens y.0 ++ l) (sym none) ∙ sym i.same;
      })

  declared_form_sound : (text : Tokens) (form : Form) → f.declared_form owner text ≡ Some form → Formed P text form
  declared_form_sound text form e =
      let read = r.declared (r.readers steps) max_depth (suc max_depth) 199 top_levels owner text in
      let a = bind_some (whole read) _ _ e in
      let i = declared_sound (NodeStands steps) (r.readers steps) (sounds steps) max_depth (suc max_depth) 199 top_levels owner (own_stands owner) (λ x bodies end fits stands heads. (fits, stands, heads)) text (a.0, [])
      (whole_only read a.0 a.1) in
      member_sound text (a.0, []) form i refl a.2

  bodied_form_sound : (text : Tokens) (form : Form) → f.bodied_form owner text ≡ Some form → Formed P text form
  bodied_form_sound text form e =
      let read = r.bodied (r.readers steps) max_depth (suc max_depth) max_depth owner text in
      let a = bind_some (whole read) _ _ e in
      let i = bodied_sound (NodeStands steps) (r.readers steps) (sounds steps) max_depth (suc max_depth) max_depth owner (own_stands owner) (λ x left xs right fits stands block. (fits, stands, block)) text (a.0, [])
      (whole_only read a.0 a.1) in
      member_sound text (a.0, []) form i refl a.2

  inside_sound : (text : Tokens) (form : Form) → f.inside_form owner text ≡ Some form → Formed P text form
  unfolding f.inside_form
  inside_sound text form e = elim (cond_is (r.goes_declared text) _ _ _ e) [
    | inl h ↦ declared_form_sound text form h.1
    | inr h ↦ elim (cond_is (r.goes_type text) _ _ _ h.1) [
      | inl g ↦ head_sound (home_of owner) P (λ x left s. s) text form g.1
      | inr g ↦ bodied_form_sound text form g.1
    ]
  ]

-- ---- at any spot

form_at_sound : (spot : Spot) (around : List Owner) (text : Tokens) (form : Form) → f.form_at spot around text ≡ Some form → Formed (takes_at spot around) text form
form_at_sound Spot.Start around text form e = outside_sound takes_first f.package_form outside_first (package_sound takes_first (λ f s. s) line_first outside_first) text form e
form_at_sound Spot.Lines around text form e = outside_sound takes_line f.import_form outside_line (import_sound takes_line (λ f s. s) outside_line) text form e
form_at_sound Spot.Top around text form e = outside_sound takes_outside f.semicolon_form (λ f s. s) (semicolon_sound takes_outside (λ f s. s)) text form e
form_at_sound Spot.Constants around text form e = let i = constants_form_sound text form e in record { takes = i.takes; same = i.same }
form_at_sound Spot.Member [] text form e = absurd (cc e)
form_at_sound Spot.Member (owner ∷ around) text form e = inside_sound owner around text form e

run_read_sound : (spot : Spot) (around : List Owner) (ts : Tokens) (y : Form × Tokens) → f.run_read spot around ts ≡ Some y → Stands (record { spot = spot; around = around }) y.0 ts y.1
unfolding f.run_read
run_read_sound spot around ts y e =
    let s : State = record { spot = spot; around = around } in
    let a = bind_some (f.form_at spot around (run ts).text) _ _ e in
    let i = form_at_sound spot around (run ts).text a.0 a.1 in
    subst (λ (z : Form × Tokens). Stands s z.0 ts z.1) (some_same a.2) (record {
      taken = i.takes;
      whole = is_run a.0 ts (sym i.same);
      same = run_parts ts ∙ ap (λ (l : Tokens). l ++ (run ts).rest) (sym i.same);
    })

member_read_sound : (around : List Owner) (ts : Tokens) (y : Form × Tokens) → f.member_read around ts ≡ Some y → Stands (record { spot = Spot.Member; around = around }) y.0 ts y.1
member_read_sound [] ts y e = absurd (cc e)
member_read_sound (owner ∷ around) ts y e =
    let s : State = record { spot = Spot.Member; around = owner ∷ around } in
    elim (maybe_is (r.close_curly ts) _ _ (Some y) e) [
      | inl h ↦ run_read_sound Spot.Member (owner ∷ around) ts y h.1
      | inr h ↦ subst (λ (z : Form × Tokens). Stands s z.0 ts z.1) (some_same h.2) (record { taken = tt; whole = tt; same = close_curly_only ts h.0 h.1 })
    ]

read_at_sound : (spot : Spot) (around : List Owner) (ts : Tokens) (y : Form × Tokens) → f.read_at spot around ts ≡ Some y → Stands (record { spot = spot; around = around }) y.0 ts y.1
read_at_sound Spot.Start around ts y e = run_read_sound Spot.Start around ts y e
read_at_sound Spot.Lines around ts y e = run_read_sound Spot.Lines around ts y e
read_at_sound Spot.Top around ts y e = run_read_sound Spot.Top around ts y e
read_at_sound Spot.Constants around ts y e = run_read_sound Spot.Constants around ts y e
read_at_sound Spot.Member around ts y e = member_read_sound around ts y e

-- What is read stands.
pub form_sound : (s : State) (ts : Tokens) (form : Form) (rest : Tokens) → f.form_read s ts ≡ Some (form, rest) → Stands s form ts rest
form_sound s ts form rest e = let i = read_at_sound s.spot s.around ts (form, rest) e in record { taken = i.taken; whole = i.whole; same = i.same }
