-- Members: their tokens stand apart.
use Rattle.std.proofs.Common.{◌≡◌, ℕ, Bool, true, false, List, [], ◌∷◌, ◌++◌, map, Option, Some, None, refl, sym, subst}
use Rattle.std.specs.Prelude.{nat_eq, if◌then◌else◌}
use Rattle.kotlin_tree.specs.declared.tokens.Mark.TheVariants as m
use Rattle.kotlin_tree.specs.declared.tokens.Keyword.TheVariants as k
use Rattle.kotlin_tree.specs.declared.tokens.Word.{Word}
use Rattle.kotlin_tree.specs.declared.tokens.Word.TheVariants as w
use Rattle.kotlin_tree.specs.declared.places.Position.{Position}
use Rattle.kotlin_tree.specs.declared.types.KName.{KName}
use Rattle.kotlin_tree.specs.declared.statements.KBlock.{KBlock}
use Rattle.kotlin_tree.specs.declared.statements.KDeclared.{KDeclared}
use Rattle.kotlin_tree.specs.declared.members.KModifierKind.{KModifierKind}
use Rattle.kotlin_tree.specs.declared.members.KModifierKind.TheVariants as modifier
use Rattle.kotlin_tree.specs.declared.members.KModifier.{KModifier}
use Rattle.kotlin_tree.specs.declared.members.KParam.{KParam}
use Rattle.kotlin_tree.specs.declared.members.KParams.{KParams}
use Rattle.kotlin_tree.specs.declared.members.KTyped.{KTyped}
use Rattle.kotlin_tree.specs.declared.members.KValue.{KValue}
use Rattle.kotlin_tree.specs.declared.members.KPrivateSet.{KPrivateSet}
use Rattle.kotlin_tree.specs.declared.members.KCalled.{KCalled}
use Rattle.kotlin_tree.specs.declared.members.KCalled.TheVariants as called
use Rattle.kotlin_tree.specs.declared.members.KDelegation.{KDelegation}
use Rattle.kotlin_tree.specs.declared.members.KMember.{KMember, roll-KMember, map-KMember, fold-roll-KMember, ind-KMember}
use Rattle.kotlin_tree.specs.declared.members.KMember.TheOpen.{KMember-F}
use Rattle.kotlin_lexer.specs.Nesting.{Open}
use Rattle.kotlin_layout.specs.declared.glyphs.Glyph.TheVariants as g
use Rattle.kotlin_layout.specs.Parens.{free_place}
use Rattle.kotlin_layout.specs.Roles.{Role, Roles, fixed, name, listed, comma, block}
use Rattle.kotlin_layout.specs.Shown.{declared_roles, expression_roles, statement_roles, block_roles, rank, modifier_glyphs, if_ranked, ranked, modifiers_roles, param_roles, params_roles, result_roles, value_roles, setter_roles, body_roles, called_word, above, delegation_roles, member_by, member_roles}
use Rattle.kotlin_lexed_text.specs.Lexable.{front, is_other, ends_word, ends_mark, is_lexable}
use Rattle.kotlin_text_apart.proofs.Parts.{both, and_true, calm, Calm, Flows, Stands, flowing, behind, seq, name_flows, in_round_flows, AllFlow, AllStand, comma_flows, block_flows, block_calm, line_goes, commented_goes, typed}
use Rattle.kotlin_text_apart.proofs.Expressions.{arguments_flows}
use Rattle.kotlin_text_apart.proofs.Statements.{typed_name, declared_flows}
use Rattle.kotlin_text_apart.proofs.Induction.{expression_good, expressions_good, statements_stand}

-- whatever stands behind it
abbrev pub Leads : Roles → Type 0
Leads A = (o : Open) (zs : Roles) → is_lexable o zs ≡ true → is_lexable o (A ++ zs) ≡ true

-- where it is empty, what stands behind it stands behind what is before it
abbrev pub Calms : Roles → Type 0
Calms B = (zs : Roles) → calm (front zs) ≡ true → calm (front (B ++ zs)) ≡ true

pub leads_both : (A B : Roles) → Leads A → Leads B → Leads (A ++ B)
leads_both A B a b o zs h = behind o A B zs (a o (B ++ zs) (b o zs h))

pub led : (A R : Roles) → Leads A → Flows R → Flows (A ++ R)
led A R a r = record { goes = λ o zs c h. behind o A R zs (a o (R ++ zs) (r.goes o zs c h)) }

pub after : (A B : Roles) → Flows A → Calms B → Flows B → Flows (A ++ B)
after A B a c b = record { goes = λ o zs e h. behind o A B zs (a.goes o (B ++ zs) (c zs e) (b.goes o zs e h)) }

pub stands_after : (A B : Roles) → Flows A → Calms B → Stands B → Stands (A ++ B)
stands_after A B a c b = record { goes = λ o zs free e h. behind o A B zs (a.goes o (B ++ zs) (c zs e) (b.goes o zs free e h)) }

pub nothing_flows : Flows []
nothing_flows = record { goes = λ o zs c h. h }

-- ---- modifiers

modifier_leads : (x : KModifierKind) → Leads (fixed (modifier_glyphs x))
unfolding is_lexable front ends_mark
modifier_leads (modifier.JvmStatic at) o zs h = h
modifier_leads (modifier.JvmField at) o zs h = h
modifier_leads (modifier.Synchronized at) o zs h = h
modifier_leads (modifier.Volatile at) o zs h = h
modifier_leads modifier.Private o zs h = h
modifier_leads modifier.Abstract o zs h = h
modifier_leads modifier.Open o zs h = h
modifier_leads modifier.Override o zs h = h
modifier_leads modifier.Const o zs h = h

modifier_by : (v : Bool) (x : KModifierKind) → Leads (if v then fixed (modifier_glyphs x) else [])
modifier_by true x = modifier_leads x
modifier_by false x = λ o zs h. h

ranked_lead : (xs : List KModifier) (r : ℕ) → Leads (ranked xs r)
ranked_lead [] r o zs h = h
ranked_lead (x ∷ xs) r o zs h = behind o (if_ranked r x) (ranked xs r) zs (modifier_by (nat_eq (rank x.kind) r) x.kind o (ranked xs r ++ zs) (ranked_lead xs r o zs h))

pub modifiers_lead : (xs : List KModifier) → Leads (modifiers_roles xs)
modifiers_lead xs =
    let r : (n : ℕ) → Leads (ranked xs n) = ranked_lead xs in
    let a1 = leads_both (ranked xs 0) (ranked xs 1) (r 0) (r 1) in
    let a2 = leads_both (ranked xs 0 ++ ranked xs 1) (ranked xs 2) a1 (r 2) in
    let a3 = leads_both (ranked xs 0 ++ ranked xs 1 ++ ranked xs 2) (ranked xs 3) a2 (r 3) in
    let a4 = leads_both (ranked xs 0 ++ ranked xs 1 ++ ranked xs 2 ++ ranked xs 3) (ranked xs 4) a3 (r 4) in
    let a5 = leads_both (ranked xs 0 ++ ranked xs 1 ++ ranked xs 2 ++ ranked xs 3 ++ ranked xs 4) (ranked xs 5) a4 (r 5) in
    let a6 = leads_both (ranked xs 0 ++ ranked xs 1 ++ ranked xs 2 ++ ranked xs 3 ++ ranked xs 4 ++ ranked xs 5) (ranked xs 6) a5 (r 6) in
    let a7 = leads_both (ranked xs 0 ++ ranked xs 1 ++ ranked xs 2 ++ ranked xs 3 ++ ranked xs 4 ++ ranked xs 5 ++ ranked xs 6) (ranked xs 7) a6 (r 7) in
    leads_both (ranked xs 0 ++ ranked xs 1 ++ ranked xs 2 ++ ranked xs 3 ++ ranked xs 4 ++ ranked xs 5 ++ ranked xs 6 ++ ranked xs 7) (ranked xs 8) a7 (r 8)

-- ---- parts of members

params_all : (xs : List KParam) → AllFlow (map param_roles xs)
params_all [] = tt
params_all (x ∷ xs) = (typed_name x.name.name x.kind, params_all xs)

params_flow : (x : KParams) → Flows (params_roles x)
params_flow x = in_round_flows (listed comma (map param_roles x.items)) (comma_flows (map param_roles x.items) (params_all x.items))

params_calm : (x : KParams) → Calm (params_roles x)
unfolding front
params_calm x zs = refl

result_calms : (x : Option KTyped) → Calms (result_roles x)
unfolding front
result_calms None zs c = c
result_calms (Some x) zs c = refl

result_flows : (x : Option KTyped) → Flows (result_roles x)
unfolding is_lexable front ends_mark
result_flows None = nothing_flows
result_flows (Some x) = record { goes = λ o zs c h. (typed x.kind).flows.goes o zs c h }

value_calms : (x : Option KValue) → Calms (value_roles x)
unfolding front
value_calms None zs c = c
value_calms (Some x) zs c = refl

value_flows : (x : Option KValue) → Flows (value_roles x)
unfolding is_lexable front ends_mark
value_flows None = nothing_flows
value_flows (Some x) = record { goes = λ o zs c h. ((expression_good x.tree).flows free_place).goes o zs c h }

setter_calms : (x : Option KPrivateSet) → Calms (setter_roles x)
unfolding front
setter_calms None zs c = c
setter_calms (Some x) zs c = refl

setter_goes : (o : Open) (zs : Roles) → calm (front zs) ≡ true → is_lexable o zs ≡ true
    → is_lexable o (Role.Fixed (g.Word w.Private) ∷ Role.Fixed g.Blank ∷ Role.Fixed (g.Word w.Set) ∷ Role.Fixed g.Shallower ∷ zs) ≡ true
unfolding is_lexable front
setter_goes o zs c h = and_true (ends_word (front zs)) (is_lexable o zs) (both (ends_word (front zs)) (is_other 61 (front zs)) c).0 h

setter_stands : (x : Option KPrivateSet) → Stands (setter_roles x)
unfolding is_lexable
setter_stands None = record { goes = λ o zs free c h. h }
setter_stands (Some x) = record {
  goes = λ o zs free c h.
      line_goes o (Role.Fixed (g.Word w.Private) ∷ Role.Fixed g.Blank ∷ Role.Fixed (g.Word w.Set) ∷ Role.Fixed g.Shallower ∷ zs) free (setter_goes o zs c h);
}

block_of : (x : KBlock) → Flows (block_roles x)
block_of x = block_flows (map statement_roles x.statements) (statements_stand x.statements)

body_calms : (x : Option KBlock) → Calms (body_roles x)
unfolding front
body_calms None zs c = c
body_calms (Some x) zs c = refl

body_flows : (x : Option KBlock) → Flows (body_roles x)
body_flows None = nothing_flows
body_flows (Some x) = block_of x

called_leads : (x : KCalled) (vs : Roles) (o : Open) → is_lexable o (Role.Fixed (g.Mark m.OpenRound) ∷ vs) ≡ true
    → is_lexable o (fixed (above ++ called_word x ∷ []) ++ (Role.Fixed (g.Mark m.OpenRound) ∷ vs)) ≡ true
unfolding is_lexable front ends_mark
called_leads called.This vs o h = h
called_leads called.Super vs o h = h

delegation_calms : (x : Option KDelegation) → Calms (delegation_roles x)
unfolding front
delegation_calms None zs c = c
delegation_calms (Some x) zs c = refl

delegation_flows : (x : Option KDelegation) → Flows (delegation_roles x)
delegation_flows None = nothing_flows
delegation_flows (Some x) = record {
  goes = λ o zs c h.
      let vs = map expression_roles x.arguments in
      called_leads x.called _ o ((arguments_flows vs (expressions_good x.arguments)).goes o zs c h);
}

-- ---- the forms

word_flows : (x : Word) → Flows (fixed (g.Word x ∷ []))
unfolding is_lexable
word_flows x = record { goes = λ o zs c h. and_true (ends_word (front zs)) (is_lexable o zs) (both (ends_word (front zs)) (is_other 61 (front zs)) c).0 h }

fun_leads : Leads (fixed (g.Keyword k.Fun ∷ g.Blank ∷ []))
unfolding is_lexable front
fun_leads o zs h = h

commented_stands : (comments : List (List ℕ)) (R : Roles) → Stands R → Stands (member_by (KMember-F.Commented comments R))
commented_stands comments R r = record { goes = λ o zs free c h. commented_goes comments R o zs free (r.goes o zs free c h) }

property_stands : (ms : List KModifier) (x : KDeclared) (value : Option KValue) (setter : Option KPrivateSet) → Stands (member_by (KMember-F.Property ms x value setter))
property_stands ms x value setter =
    let a = modifiers_roles ms in
    let b = declared_roles x in
    let c = value_roles value in
    stands_after (a ++ b ++ c) (setter_roles setter) (after (a ++ b) c (led a b (modifiers_lead ms) (declared_flows x)) (value_calms value) (value_flows value)) (setter_calms setter) (setter_stands setter)

init_stands : (at : Position) (body : KBlock) → Stands (member_by (KMember-F.Init at body))
unfolding front
init_stands at body = flowing _ (seq (fixed (g.Word w.Init ∷ [])) (block_roles body) (word_flows w.Init) (λ zs. refl) (block_of body))

function_stands : (ms : List KModifier) (at : Position) (x : KName) (ps : KParams) (result : Option KTyped) (body : Option KBlock) → Stands (member_by (KMember-F.Function ms at x ps result body))
function_stands ms at x ps result body =
    let a = modifiers_roles ms in
    let b = fixed (g.Keyword k.Fun ∷ g.Blank ∷ []) in
    let n = name x.name in
    let p = params_roles ps in
    let r = result_roles result in
    flowing _ (after (a ++ b ++ n ++ p ++ r) (body_roles body)
    (after (a ++ b ++ n ++ p) r (seq (a ++ b ++ n) p (led (a ++ b) n (leads_both a b (modifiers_lead ms) fun_leads) (name_flows x.name)) (params_calm ps) (params_flow ps)) (result_calms result) (result_flows result))
    (body_calms body) (body_flows body))

constructor_stands : (ms : List KModifier) (at : Position) (ps : KParams) (first : Option KDelegation) (body : KBlock) → Stands (member_by (KMember-F.Constructor ms at ps first body))
constructor_stands ms at ps first body =
    let a = modifiers_roles ms in
    let b = fixed (g.Word w.Constructor ∷ []) in
    let p = params_roles ps in
    let d = delegation_roles first in
    flowing _ (seq (a ++ b ++ p ++ d) (block_roles body)
    (after (a ++ b ++ p) d (seq (a ++ b) p (led a b (modifiers_lead ms) (word_flows w.Constructor)) (params_calm ps) (params_flow ps)) (delegation_calms first) (delegation_flows first))
    (block_calm (map statement_roles body.statements)) (block_of body))

object_flows : (ps : List Roles) → AllStand ps → Flows (fixed (g.Word w.Companion ∷ g.Blank ∷ g.Keyword k.Object ∷ []) ++ block ps)
unfolding is_lexable front
object_flows ps all = record { goes = λ o zs c h. (block_flows ps all).goes o zs c h }

-- ---- every member

abbrev Part : Type 0
Part = (x : KMember) × Stands (member_roles x)

abbrev parts : List Part → List Roles
parts xs = map member_roles (map (λ (x : Part). x.0) xs)

parts_stand : (xs : List Part) → AllStand (parts xs)
parts_stand [] = tt
parts_stand (x ∷ xs) = (x.1, parts_stand xs)

member_layer : (x : KMember-F Part) → Stands (member_by (map-KMember KMember Roles member_roles (map-KMember Part KMember (λ x. x.0) x)))
member_layer (KMember-F.Commented comments x) = commented_stands comments (member_roles x.0) x.1
member_layer (KMember-F.Property ms x value setter) = property_stands ms x value setter
member_layer (KMember-F.Init at body) = init_stands at body
member_layer (KMember-F.Function ms at x ps result body) = function_stands ms at x ps result body
member_layer (KMember-F.Constructor ms at ps first body) = constructor_stands ms at ps first body
member_layer (KMember-F.Companion at xs) = flowing _ (object_flows (parts xs) (parts_stand xs))

member_at : (x : KMember-F KMember) → member_roles (roll-KMember x) ≡ member_by (map-KMember KMember Roles member_roles x)
unfolding member_roles
member_at x = fold-roll-KMember Roles member_by x

pub member_stands : (x : KMember) → Stands (member_roles x)
member_stands = ind-KMember (λ x. Stands (member_roles x)) (λ x z is. subst (λ (u : KMember-F KMember). Stands (member_roles (roll-KMember u))) is
    (subst Stands (sym (member_at (map-KMember Part KMember (λ x. x.0) z))) (member_layer z)))

pub members_stand : (xs : List KMember) → AllStand (map member_roles xs)
members_stand [] = tt
members_stand (x ∷ xs) = (member_stands x, members_stand xs)
