-- Heads of members: what is read is spelled so, and what is spelled so is read.
use Rattle.std.proofs.Common.{◌≡◌, ◌≤◌, ℕ, zero, suc, Bool, true, false, not, ◌++◌, List, [], ◌∷◌, length, map, Option, Some, None, inl, inr, refl, ap, sym, ◌∙◌, subst, append_assoc, arith}
use Rattle.std.specs.List.{AllByRecursion}
use Rattle.std.proofs.lemmas.List.{append-nil}
use Rattle.java_tree.specs.declared.tokens.Position.{Position}
use Rattle.java_tree.specs.declared.tokens.Mark.TheVariants as m
use Rattle.java_tree.specs.declared.tokens.Keyword.{Keyword}
use Rattle.java_tree.specs.declared.tokens.Keyword.TheVariants as w
use Rattle.java_tree.specs.Seen.{Token, Tokens}
use Rattle.java_tree.specs.declared.types.Primitive.{Primitive}
use Rattle.java_tree.specs.declared.types.JType.{JType}
use Rattle.java_tree.specs.declared.exprs.JParam.{JParam}
use Rattle.java_tree.specs.Trees.{listed, more_tokens, AreBetween, param_tokens, final_tokens, type_tokens, TypeStands}
use Rattle.java_expr_grammar.specs.Reading as r
use Rattle.java_expr_grammar.specs.Reading.{Read, ◌>>=◌, maybe, whole, is_some}
use Rattle.java_expr_grammar.proofs.LawsToCite.{bind_some, cond_is, maybe_is, some_same, both_true, type_sound, type_again, ident_only, begins_less, EndsType}
use Rattle.java_expr_grammar.proofs.LawsToCite.Lists as lists
use Rattle.java_statement_grammar.specs.declared.declarations.JValue.{JValue}
use Rattle.java_statement_grammar.specs.declared.declarations.JDeclarator.{JDeclarator}
use Rattle.java_statement_grammar.specs.declared.declarations.JDeclaration.{JDeclaration}
use Rattle.java_statement_grammar.specs.Heads.{value_tokens, declarator_tokens, DeclaratorStands}
use Rattle.java_statement_grammar.specs.Reading.{declarator_read, declaration_of}
use Rattle.java_statement_grammar.proofs.LawsToCite.{whole_only, three, declarator_sound, names_again, names_end}
use Rattle.java_member_grammar.specs.declared.modifiers.JModifier.{JModifier}
use Rattle.java_member_grammar.specs.declared.parts.JTypeParams.{JTypeParams}
use Rattle.java_member_grammar.specs.declared.parts.JFormals.{JFormals}
use Rattle.java_member_grammar.specs.declared.parts.JTypeList.{JTypeList}
use Rattle.java_member_grammar.specs.declared.heads.JResult.{JResult}
use Rattle.java_member_grammar.specs.declared.heads.JResult.TheVariants as result
use Rattle.java_member_grammar.specs.declared.heads.JMemberHead.{JMemberHead}
use Rattle.java_member_grammar.specs.declared.heads.JMemberHead.TheVariants as head
use Rattle.java_member_grammar.specs.Heads.{modifiers_tokens, type_params_tokens, formals_tokens, list_tokens, result_tokens, member_tokens, type_params_stand, formals_stand, list_stands, result_stands, FieldStands, MemberStands, may_precede}
use Rattle.java_member_grammar.specs.Reading.{modifier_by, modifiers, type_params, formals, throws, constructor, method, begins_call, field, typed_member, result_member, declared_member, member_of, before_semicolon, before_block}
use Rattle.java_member_grammar.specs.Modifiers.{class_member_fits, interface_member_fits}
use Rattle.java_member_grammar.proofs.Modified.{modifiers_text, modifiers_again, begins_modifier}
use Rattle.java_member_grammar.proofs.Clauses.{type_params_sound, type_params_again, formals_sound, formals_again, throws_sound, throws_again}

-- ---- what is read is spelled so

-- It is spelled by what was read, and stands.
abbrev Heads : ℕ → ℕ → Tokens → JMemberHead × Tokens → Type 0
Heads d e ts x = (ts ≡ member_tokens x.0 ++ x.1) × MemberStands d e x.0

-- the parameters and `throws` behind a name
record Called (d : ℕ) (ts : Tokens) (params : JFormals) (faults : Option JTypeList) (rest : Tokens) : Type 0 where
  same : ts ≡ formals_tokens params ++ (list_tokens w.Throws faults ++ rest)
  params_stand : formals_stand d params
  faults_stand : list_stands d faults

called : (d : ℕ) (ts : Tokens) (params : JFormals × Tokens) (faults : Option JTypeList × Tokens) → formals d ts ≡ Some params → throws d params.1 ≡ Some faults → Called d ts params.0 faults.0 faults.1
called d ts params faults p f =
    let i = formals_sound d ts params p in
    let k = throws_sound d params.1 faults f in
    record { same = i.0 ∙ ap (λ r. formals_tokens params.0 ++ r) k.0; params_stand = i.1; faults_stand = k.1 }

constructor_sound : (d e : ℕ) (mods : List JModifier) (n : List ℕ) (at : Position) (ts : Tokens) (x : JMemberHead × Tokens) → constructor d mods n at ts ≡ Some x
    → Heads d e (modifiers_tokens mods ++ Token.Id n at ∷ ts) x
unfolding constructor
constructor_sound d e mods n at ts x h =
    let p = bind_some (formals d ts) _ _ h in
    let f = bind_some (throws d p.0.1) _ _ p.2 in
    let c = called d ts p.0 f.0 p.1 f.1 in
    subst (Heads d e (modifiers_tokens mods ++ Token.Id n at ∷ ts)) (some_same f.2) (
      ap (λ r. modifiers_tokens mods ++ Token.Id n at ∷ r) c.same ∙ sym (three (modifiers_tokens mods) (Token.Id n at ∷ formals_tokens p.0.0) (list_tokens w.Throws f.0.0) f.0.1),
      (c.params_stand, c.faults_stand),
    )

five : (a b c e f g : Tokens) → (a ++ (b ++ (c ++ (e ++ f)))) ++ g ≡ a ++ (b ++ (c ++ (e ++ (f ++ g))))
five a b c e f g = append_assoc a (b ++ (c ++ (e ++ f))) g ∙ ap (λ r. a ++ r) (append_assoc b (c ++ (e ++ f)) g ∙ ap (λ r. b ++ r) (three c e f g))

method_sound : (d e : ℕ) (mods : List JModifier) (params : Option JTypeParams) (kind : JResult) (n : JParam) (ts : Tokens) (x : JMemberHead × Tokens)
    → type_params_stand d params → result_stands d kind → method d mods params kind n ts ≡ Some x
    → Heads d e (modifiers_tokens mods ++ (type_params_tokens params ++ (result_tokens kind ++ (param_tokens n ++ ts)))) x
unfolding method
method_sound d e mods params kind n ts x good is h =
    let p = bind_some (formals d ts) _ _ h in
    let f = bind_some (throws d p.0.1) _ _ p.2 in
    let c = called d ts p.0 f.0 p.1 f.1 in
    subst (Heads d e (modifiers_tokens mods ++ (type_params_tokens params ++ (result_tokens kind ++ (param_tokens n ++ ts))))) (some_same f.2) (
      ap (λ r. modifiers_tokens mods ++ (type_params_tokens params ++ (result_tokens kind ++ (param_tokens n ++ r)))) c.same
          ∙ sym (five (modifiers_tokens mods) (type_params_tokens params) (result_tokens kind) (Token.Id n.name n.at ∷ formals_tokens p.0.0) (list_tokens w.Throws f.0.0) f.0.1),
      (good, is, c.params_stand, c.faults_stand),
    )

field_sound : (d e : ℕ) (mods : List JModifier) (kind : JType) (ts : Tokens) (x : JMemberHead × Tokens) → TypeStands d kind → field e mods kind ts ≡ Some x
    → Heads d e (modifiers_tokens mods ++ (type_tokens kind ++ ts)) x
unfolding field declaration_of
field_sound d e mods kind ts x good h =
    let a = bind_some (declaration_of e None kind ts) _ _ h in
    let n = bind_some (r.some_by r.comma (declarator_read e) ts) _ _ a.1 in
    let all = lists.some_sound JDeclarator (declarator_read e) declarator_tokens (DeclaratorStands e) (declarator_sound e) ts n.0 n.1 in
    let P : JMemberHead × Tokens → Type 0 = Heads d e (modifiers_tokens mods ++ (type_tokens kind ++ ts)) in
    let Q : JDeclaration × Tokens → Type 0 = λ x. P (head.Field mods x.0, x.1) in
    subst P (some_same a.2) (subst Q (some_same n.2) (
      ap (λ r. modifiers_tokens mods ++ (type_tokens kind ++ r)) all.same ∙ sym (three (modifiers_tokens mods) (type_tokens kind) (listed n.0.0.1 (map declarator_tokens n.0.0.0)) n.0.1),
      record { no_final = refl; kind = good; some_name = all.full; between = all.between; all = all.all },
    ))

-- behind the type
typed_sound : (d e : ℕ) (mods : List JModifier) (params : Option JTypeParams) (kind : JType) (ts : Tokens) (x : JMemberHead × Tokens)
    → type_params_stand d params → TypeStands d kind → typed_member d e mods params kind ts ≡ Some x
    → Heads d e (modifiers_tokens mods ++ (type_params_tokens params ++ (type_tokens kind ++ ts))) x
unfolding typed_member
typed_sound d e mods params kind ts x good is h = elim (cond_is (begins_call ts) (r.ident ts >>= λ n. method d mods params (result.Type kind) n.0 n.1) (maybe params (field e mods kind ts) (λ x. None)) (Some x) h) [
  | inl a ↦ (let n = bind_some (r.ident ts) _ _ a.1 in
      subst (λ us. Heads d e (modifiers_tokens mods ++ (type_params_tokens params ++ (type_tokens kind ++ us))) x) (sym (ident_only ts n.0 n.1))
      (method_sound d e mods params (result.Type kind) n.0.0 n.0.1 x good is n.2))
  | inr a ↦ elim (maybe_is params (field e mods kind ts) (λ x. None) (Some x) a.1) [
    | inl b ↦ subst (λ (params : Option JTypeParams). Heads d e (modifiers_tokens mods ++ (type_params_tokens params ++ (type_tokens kind ++ ts))) x) (sym b.0) (field_sound d e mods kind ts x is b.1)
    | inr b ↦ absurd (cc b.2)
  ]
]

-- behind the type parameters
result_sound : (d e : ℕ) (mods : List JModifier) (params : Option JTypeParams) (ts : Tokens) (x : JMemberHead × Tokens) → type_params_stand d params → result_member d e mods params ts ≡ Some x
    → Heads d e (modifiers_tokens mods ++ (type_params_tokens params ++ ts)) x
result_sound d e mods params (Token.Word w.Void at ∷ rest) x good h =
    let n = bind_some (r.ident rest) _ _ h in
    subst (λ us. Heads d e (modifiers_tokens mods ++ (type_params_tokens params ++ (Token.Word w.Void at ∷ us))) x) (sym (ident_only rest n.0 n.1))
    (method_sound d e mods params (result.Void at) n.0.0 n.0.1 x good tt n.2)
result_sound d e mods params ts x good h =
    let k = bind_some (r.type_read d ts) _ _ h in
    let i = type_sound d ts k.0 k.1 in
    subst (λ us. Heads d e (modifiers_tokens mods ++ (type_params_tokens params ++ us)) x) (sym i.0) (typed_sound d e mods params k.0.0 k.0.1 x good i.1 k.2)

-- behind the modifiers
of_sound : (d e : ℕ) (mods : List JModifier) (ts : Tokens) (x : JMemberHead × Tokens) → member_of d e mods ts ≡ Some x → Heads d e (modifiers_tokens mods ++ ts) x
unfolding member_of declared_member
of_sound d e mods ts x h = elim (cond_is (begins_call ts) (r.ident ts >>= λ n. constructor d mods n.0.name n.0.at n.1) (declared_member d e mods ts) (Some x) h) [
  | inl a ↦ (let n = bind_some (r.ident ts) _ _ a.1 in
      subst (λ us. Heads d e (modifiers_tokens mods ++ us) x) (sym (ident_only ts n.0 n.1)) (constructor_sound d e mods n.0.0.name n.0.0.at n.0.1 x n.2))
  | inr a ↦ (let p = bind_some (type_params d ts) _ _ a.1 in
      let i = type_params_sound d ts p.0 p.1 in
      subst (λ us. Heads d e (modifiers_tokens mods ++ us) x) (sym i.0) (result_sound d e mods p.0.0 p.0.1 x i.1 p.2))
]

-- It spells the tokens, and stands.
abbrev Spells : ℕ → ℕ → Tokens → JMemberHead → Type 0
Spells d e ts x = (member_tokens x ≡ ts) × MemberStands d e x

abbrev member : ℕ → ℕ → Tokens → Option JMemberHead
member d e ts = whole (member_of d e (modifiers ts).0 (modifiers ts).1)

member_sound : (d e : ℕ) (ts : Tokens) (x : JMemberHead) → member d e ts ≡ Some x → Spells d e ts x
member_sound d e ts x h =
    let i = of_sound d e (modifiers ts).0 (modifiers ts).1 (x, []) (whole_only (member_of d e (modifiers ts).0 (modifiers ts).1) x h) in
    (sym (modifiers_text ts ∙ i.0 ∙ append-nil (member_tokens x)), i.1)

-- What is read before a `;` is spelled so, and stands.
pub semicolon_is_spelled : (d e : ℕ) (ts : Tokens) (x : JMemberHead) → before_semicolon d e ts ≡ Some x → (member_tokens x ≡ ts) × MemberStands d e x
unfolding before_semicolon
semicolon_is_spelled d e [] x h = subst (Spells d e []) (some_same h) (refl, tt)
semicolon_is_spelled d e ts x h = member_sound d e ts x h

-- What is read before a block is spelled so, and stands.
pub block_is_spelled : (d e : ℕ) (ts : Tokens) (x : JMemberHead) → before_block d e ts ≡ Some x → (member_tokens x ≡ ts) × MemberStands d e x
unfolding before_block
block_is_spelled d e [] x h = subst (Spells d e []) (some_same h) (refl, tt)
block_is_spelled d e (Token.Word w.Static at ∷ []) x h = subst (Spells d e (Token.Word w.Static at ∷ [])) (some_same h) (refl, tt)
block_is_spelled d e ts x h = member_sound d e ts x h

-- ---- what is spelled so is read

constructor_again : (d : ℕ) (mods : List JModifier) (n : List ℕ) (at : Position) (params : JFormals) (faults : Option JTypeList) → formals_stand d params → list_stands d faults
    → constructor d mods n at (formals_tokens params ++ list_tokens w.Throws faults) ≡ Some (head.Constructor mods n at params faults, [])
unfolding constructor
constructor_again d mods n at params faults p f = rw (formals_again d params p (list_tokens w.Throws faults), throws_again d faults f) refl

method_again : (d : ℕ) (mods : List JModifier) (params : Option JTypeParams) (kind : JResult) (n : JParam) (parameters : JFormals) (faults : Option JTypeList)
    → formals_stand d parameters → list_stands d faults
    → method d mods params kind n (formals_tokens parameters ++ list_tokens w.Throws faults) ≡ Some (head.Method mods params kind n.name n.at parameters faults, [])
unfolding method
method_again d mods params kind n parameters faults p f = rw (formals_again d parameters p (list_tokens w.Throws faults), throws_again d faults f) refl

-- what comes behind the modifiers, and begins with no call
record Opens (ts : Tokens) : Type 0 where
  modifier : begins_modifier ts ≡ false
  call : begins_call ts ≡ false
  less : begins_less ts ≡ false

abbrev begins_name : Tokens → Bool
begins_name (Token.Id n at ∷ rest) = true
begins_name _ = false

primitive_opens : (word : Keyword) → is_some (r.primitive_by word) ≡ true → is_some (modifier_by word) ≡ false
primitive_opens w.Byte h = refl
primitive_opens w.Short h = refl
primitive_opens w.Char h = refl
primitive_opens w.Int h = refl
primitive_opens w.Long h = refl
primitive_opens w.Boolean h = refl
primitive_opens _ h = absurd (cc h)

primitive_is : (found : Option Primitive) (at : Position) (rest : Tokens) (x : JType × Tokens) → r.primitive_at found at rest ≡ Some x → is_some found ≡ true
primitive_is None at rest x h = absurd (cc h)
primitive_is (Some p) at rest x h = refl

-- A type opens a member, where a name follows.
type_opens : (d : ℕ) (ts : Tokens) (x : JType × Tokens) → r.type_read d ts ≡ Some x → begins_name x.1 ≡ true → Opens ts
unfolding r.type_read r.base_step r.dotted r.brackets
type_opens zero ts x h n = absurd (cc h)
type_opens (suc d) (Token.Id name at ∷ Token.Sign m.OpenRound lp ∷ rest) x h n = absurd (cc (n, ap (λ (x : JType × Tokens). begins_name x.1) (some_same h)))
type_opens (suc d) (Token.Id name at ∷ rest) x h n = record { modifier = refl; call = refl; less = refl }
type_opens (suc d) (Token.Word word at ∷ rest) x h n =
    let k = bind_some (r.primitive_at (r.primitive_by word) at rest) _ _ h in
    record { modifier = primitive_opens word (primitive_is (r.primitive_by word) at rest k.0 k.1); call = refl; less = refl }
type_opens (suc d) _ x h n = absurd (cc h)

not_void : (d e : ℕ) (mods : List JModifier) (params : Option JTypeParams) (ts : Tokens) (x : JType × Tokens) → r.type_read d ts ≡ Some x
    → result_member d e mods params ts ≡ typed_member d e mods params x.0 x.1
unfolding r.type_read r.base_step
not_void zero e mods params ts x h = absurd (cc h)
not_void (suc d) e mods params (Token.Word w.Void at ∷ rest) x h = absurd (cc h)
not_void (suc d) e mods params _ x h = ap (λ (o : Option (JType × Tokens)). o >>= λ x. typed_member (suc d) e mods params x.0 x.1) h

-- the result and what follows it
abbrev results : JResult → List ℕ → Position → JFormals → Option JTypeList → Tokens
results kind n at parameters faults = result_tokens kind ++ Token.Id n at ∷ (formals_tokens parameters ++ list_tokens w.Throws faults)

result_type : (d : ℕ) (kind : JType) (n : List ℕ) (at : Position) (rest : Tokens) → TypeStands d kind
    → r.type_read d (type_tokens kind ++ Token.Id n at ∷ rest) ≡ Some (kind, Token.Id n at ∷ rest)
result_type d kind n at rest s = type_again d kind s (Token.Id n at ∷ rest) (refl, refl, refl)

result_opens : (d : ℕ) (kind : JResult) (n : List ℕ) (at : Position) (parameters : JFormals) (faults : Option JTypeList) → result_stands d kind → Opens (results kind n at parameters faults)
result_opens d (result.Void p) n at parameters faults s = record { modifier = refl; call = refl; less = refl }
result_opens d (result.Type kind) n at parameters faults s =
    type_opens d _ (kind, Token.Id n at ∷ (formals_tokens parameters ++ list_tokens w.Throws faults)) (result_type d kind n at (formals_tokens parameters ++ list_tokens w.Throws faults) s) refl

result_again : (d e : ℕ) (mods : List JModifier) (params : Option JTypeParams) (kind : JResult) (n : List ℕ) (at : Position) (parameters : JFormals) (faults : Option JTypeList)
    → result_stands d kind → formals_stand d parameters → list_stands d faults
    → result_member d e mods params (results kind n at parameters faults) ≡ Some (head.Method mods params kind n at parameters faults, [])
unfolding typed_member
result_again d e mods params (result.Void p) n at parameters faults s f l = method_again d mods params (result.Void p) (record { name = n; at = at }) parameters faults f l
result_again d e mods params (result.Type kind) n at parameters faults s f l =
    not_void d e mods params _ (kind, Token.Id n at ∷ (formals_tokens parameters ++ list_tokens w.Throws faults)) (result_type d kind n at (formals_tokens parameters ++ list_tokens w.Throws faults) s)
    ∙ method_again d mods params (result.Type kind) (record { name = n; at = at }) parameters faults f l

-- the type parameters and what follows them
params_modifier : (params : Option JTypeParams) (ts : Tokens) → Opens ts → begins_modifier (type_params_tokens params ++ ts) ≡ false
params_modifier None ts o = o.modifier
params_modifier (Some x) ts o = refl

params_call : (params : Option JTypeParams) (ts : Tokens) → Opens ts → begins_call (type_params_tokens params ++ ts) ≡ false
params_call None ts o = o.call
params_call (Some x) ts o = refl

declared_again : (d e : ℕ) (mods : List JModifier) (params : Option JTypeParams) (ts : Tokens) → type_params_stand d params → Opens ts
    → member_of d e mods (type_params_tokens params ++ ts) ≡ result_member d e mods params ts
unfolding member_of declared_member
declared_again d e mods params ts s o = rw (params_call params ts o, type_params_again d params s ts o.less) refl

-- behind the modifiers
from_modifiers : (d e : ℕ) (mods : List JModifier) (ts : Tokens) (x : JMemberHead) → begins_modifier ts ≡ false → member_of d e mods ts ≡ Some (x, []) → member d e (modifiers_tokens mods ++ ts) ≡ Some x
from_modifiers d e mods ts x h is =
    ap (λ (y : List JModifier × Tokens). whole (member_of d e y.0 y.1)) (modifiers_again mods ts h) ∙ ap (λ (o : Read JMemberHead). whole o) is

round_again : (d e : ℕ) (mods : List JModifier) (n : List ℕ) (at : Position) (params : JFormals) (faults : Option JTypeList) → formals_stand d params → list_stands d faults
    → member d e (member_tokens (head.Constructor mods n at params faults)) ≡ Some (head.Constructor mods n at params faults)
unfolding member_of
round_again d e mods n at params faults p f =
    from_modifiers d e mods (Token.Id n at ∷ (formals_tokens params ++ list_tokens w.Throws faults)) _ refl (constructor_again d mods n at params faults p f)

whole_method : (d e : ℕ) (mods : List JModifier) (params : Option JTypeParams) (kind : JResult) (n : List ℕ) (at : Position) (parameters : JFormals) (faults : Option JTypeList)
    → MemberStands d e (head.Method mods params kind n at parameters faults)
    → member d e (member_tokens (head.Method mods params kind n at parameters faults)) ≡ Some (head.Method mods params kind n at parameters faults)
whole_method d e mods params kind n at parameters faults s =
    let o = result_opens d kind n at parameters faults s.1 in
    from_modifiers d e mods (type_params_tokens params ++ results kind n at parameters faults) _ (params_modifier params _ o)
    (declared_again d e mods params _ s.0 o ∙ result_again d e mods params kind n at parameters faults s.1 s.2 s.3)

-- ---- fields

after_name : (name : List ℕ) (at : Position) (value : Option JValue) (commas : List Position) (texts : List Tokens) → begins_call (Token.Id name at ∷ (value_tokens value ++ more_tokens commas texts)) ≡ false
after_name name at (Some x) commas texts = refl
after_name name at None [] texts = refl
after_name name at None (p ∷ ps) [] = refl
after_name name at None (p ∷ ps) (text ∷ texts) = refl

names_no_call : (names : List JDeclarator) (commas : List Position) → 1 ≤ length names → begins_call (listed commas (map declarator_tokens names)) ≡ false
names_no_call [] commas some = refl
names_no_call (n ∷ ns) commas some = after_name n.name n.at n.value commas (map declarator_tokens ns)

names_name : (names : List JDeclarator) (commas : List Position) → 1 ≤ length names → begins_name (listed commas (map declarator_tokens names)) ≡ true
names_name [] commas some = absurd (omega (arith, some))
names_name (n ∷ ns) commas some = refl

field_again : (e : ℕ) (mods : List JModifier) (kind : JType) (names : List JDeclarator) (commas : List Position) → 1 ≤ length names → AreBetween commas names → AllByRecursion (DeclaratorStands e) names
    → field e mods kind (listed commas (map declarator_tokens names)) ≡ Some (head.Field mods (record { is_final = None; kind = kind; names = names; commas = commas }), [])
unfolding field declaration_of
field_again e mods kind names commas some b all =
    let read : r.some_by r.comma (declarator_read e) (listed commas (map declarator_tokens names)) ≡ Some ((names, commas), []) =
    ap (r.some_by r.comma (declarator_read e)) (sym (append-nil (listed commas (map declarator_tokens names)))) ∙ names_again e names commas [] some b all refl in
    rw read refl

plain_again : (d e : ℕ) (mods : List JModifier) (kind : JType) (names : List JDeclarator) (commas : List Position)
    → TypeStands d kind → 1 ≤ length names → AreBetween commas names → AllByRecursion (DeclaratorStands e) names
    → member d e (modifiers_tokens mods ++ (type_tokens kind ++ listed commas (map declarator_tokens names)))
    ≡ Some (head.Field mods (record { is_final = None; kind = kind; names = names; commas = commas }))
unfolding typed_member
plain_again d e mods kind names commas s some b all =
    let text : Tokens = listed commas (map declarator_tokens names) in
    let t : r.type_read d (type_tokens kind ++ text) ≡ Some (kind, text) = type_again d kind s text (subst EndsType (append-nil text) (names_end names commas [] some)) in
    let o : Opens (type_tokens kind ++ text) = type_opens d (type_tokens kind ++ text) (kind, text) t (names_name names commas some) in
    from_modifiers d e mods (type_tokens kind ++ text) _ o.modifier
    (declared_again d e mods None (type_tokens kind ++ text) tt o ∙ not_void d e mods None (type_tokens kind ++ text) (kind, text) t ∙ rw (names_no_call names commas some) (field_again e mods kind names commas some b all))

whole_field : (d e : ℕ) (mods : List JModifier) (x : JDeclaration) → FieldStands d e x → member d e (member_tokens (head.Field mods x)) ≡ Some (head.Field mods x)
whole_field d e mods x s =
    let P : Option Position → Type 0 = λ is_final. member d e (modifiers_tokens mods ++ (final_tokens is_final ++ (type_tokens x.kind ++ listed x.commas (map declarator_tokens x.names))))
    ≡ Some (head.Field mods (record { is_final = is_final; kind = x.kind; names = x.names; commas = x.commas })) in
    subst P (sym s.no_final) (plain_again d e mods x.kind x.names x.commas s.kind s.some_name s.between s.all)

-- ---- before a `;`, and before a block

no_member : (d e : ℕ) (mods : List JModifier) → member_of d e mods [] ≡ None
unfolding member_of declared_member r.type_read r.base_step
no_member zero e mods = refl
no_member (suc d) e mods = refl

semicolon_is : (d e : ℕ) (ts : Tokens) (x : JMemberHead) → member d e ts ≡ Some x → before_semicolon d e ts ≡ Some x
unfolding before_semicolon modifiers
semicolon_is d e [] x h = absurd (cc (h, ap (λ (o : Read JMemberHead). whole o) (no_member d e [])))
semicolon_is d e (t ∷ ts) x h = h

block_is : (d e : ℕ) (ts : Tokens) (x : JMemberHead) → member d e ts ≡ Some x → before_block d e ts ≡ Some x
unfolding before_block modifiers
block_is d e [] x h = absurd (cc (h, ap (λ (o : Read JMemberHead). whole o) (no_member d e [])))
block_is d e (Token.Word w.Static at ∷ []) x h = absurd (cc (h, ap (λ (o : Read JMemberHead). whole o) (no_member d e _)))
block_is d e _ x h = h

semicolon_again : (d e : ℕ) (x : JMemberHead) → may_precede false x ≡ true → MemberStands d e x → before_semicolon d e (member_tokens x) ≡ Some x
unfolding before_semicolon
semicolon_again d e head.Empty p s = refl
semicolon_again d e (head.Field mods x) p s = semicolon_is d e _ _ (whole_field d e mods x s)
semicolon_again d e (head.Method mods params kind n at parameters faults) p s = semicolon_is d e _ _ (whole_method d e mods params kind n at parameters faults s)
semicolon_again d e (head.Constructor mods n at params faults) p s = absurd (cc p)
semicolon_again d e (head.Initializer static) p s = absurd (cc p)

-- What is spelled so before a `;` is read.
pub semicolon_is_read : (d e : ℕ) (ts : Tokens) (x : JMemberHead) → may_precede false x ≡ true → MemberStands d e x → member_tokens x ≡ ts → before_semicolon d e ts ≡ Some x
semicolon_is_read d e ts x p s same = subst (λ ts. before_semicolon d e ts ≡ Some x) same (semicolon_again d e x p s)

initializer_again : (d e : ℕ) (static : Option Position) → before_block d e (member_tokens (head.Initializer static)) ≡ Some (head.Initializer static)
unfolding before_block
initializer_again d e None = refl
initializer_again d e (Some at) = refl

block_again : (d e : ℕ) (x : JMemberHead) → may_precede true x ≡ true → MemberStands d e x → before_block d e (member_tokens x) ≡ Some x
block_again d e head.Empty p s = absurd (cc p)
block_again d e (head.Field mods x) p s = absurd (cc p)
block_again d e (head.Method mods params kind n at parameters faults) p s = block_is d e _ _ (whole_method d e mods params kind n at parameters faults s)
block_again d e (head.Constructor mods n at params faults) p s = block_is d e _ _ (round_again d e mods n at params faults s.0 s.1)
block_again d e (head.Initializer static) p s = initializer_again d e static

-- What is spelled so before a block is read.
pub block_is_read : (d e : ℕ) (ts : Tokens) (x : JMemberHead) → may_precede true x ≡ true → MemberStands d e x → member_tokens x ≡ ts → before_block d e ts ≡ Some x
block_is_read d e ts x p s same = subst (λ ts. before_block d e ts ≡ Some x) same (block_again d e x p s)

-- ---- what fits in a class or an interface may precede its `;` or its block

pub class_precedes : (name : Option (List ℕ)) (has_body : Bool) (x : JMemberHead) → class_member_fits name has_body x ≡ true → may_precede has_body x ≡ true
class_precedes name has_body head.Empty h = h
class_precedes name has_body (head.Field mods x) h = (both_true (not has_body) _ h).0
class_precedes name has_body (head.Method mods params result n at formals throws) h = refl
class_precedes name has_body (head.Constructor mods n at formals throws) h = (both_true has_body _ h).0
class_precedes name has_body (head.Initializer static) h = h

pub interface_precedes : (has_body : Bool) (x : JMemberHead) → interface_member_fits has_body x ≡ true → may_precede has_body x ≡ true
interface_precedes has_body head.Empty h = h
interface_precedes has_body (head.Field mods x) h = (both_true (not has_body) _ h).0
interface_precedes has_body (head.Method mods params result n at formals throws) h = refl
interface_precedes has_body _ h = absurd (cc h)
