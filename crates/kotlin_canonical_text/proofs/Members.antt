-- Members: each is derived where its parts are.
use Rattle.std.proofs.Common.{◌≡◌, ℕ, true, false, List, [], ◌∷◌, ◌++◌, map, Option, Some, None, refl, ap, sym, subst, ◌∙◌, append_assoc}
use Rattle.std.proofs.lemmas.List.{append-nil}
use Rattle.std.specs.Prelude.{if◌then◌else◌, ◌&&◌}
use Rattle.std.specs.Option.{option_map}
use Rattle.grammar.specs.declared.symbols.Symbol.TheVariants as y
use Rattle.kotlin_tree.specs.declared.places.Position.{Position}
use Rattle.kotlin_tree.specs.declared.tokens.Gap.TheVariants as gap
use Rattle.kotlin_tree.specs.declared.tokens.Mark.TheVariants as m
use Rattle.kotlin_tree.specs.declared.tokens.Keyword.TheVariants as kw
use Rattle.kotlin_tree.specs.declared.tokens.Word.TheVariants as o
use Rattle.kotlin_tree.specs.declared.tokens.TokenKind.TheVariants as q
use Rattle.kotlin_tree.specs.declared.types.KName.{KName}
use Rattle.kotlin_tree.specs.declared.expressions.KExpr.{KExpr}
use Rattle.kotlin_tree.specs.UpToPlaces.{made, made_brackets}
use Rattle.kotlin_layout.specs.declared.glyphs.Glyph.TheVariants as g
use Rattle.kotlin_layout.specs.Parens.{free_place, list_place}
use Rattle.kotlin_layout.specs.Roles.{Role, Roles, fixed, listed, more_roles, comma}
use Rattle.kotlin_layout.specs.Shown.{arguments_roles, type_roles}
use Rattle.kotlin_grammar.specs.declared.letters.Kind.TheVariants as k
use Rattle.kotlin_grammar.specs.declared.letters.Form.TheVariants as f
use Rattle.kotlin_grammar.specs.declared.letters.Term.TheVariants as t
use Rattle.kotlin_grammar.specs.declared.letters.Way.TheVariants as w
use Rattle.kotlin_grammar.specs.declared.letters.Act.TheVariants as a
use Rattle.kotlin_grammar.specs.declared.built.Built.{Built}
use Rattle.kotlin_grammar.specs.Table.{Symbols, written, accepts}
use Rattle.kotlin_grammar.specs.Ahead.{Letters, letters, letter_by, named, word_kind as kind_of_word, mark_kind, keyword_kind, names_follow, stands, is_less, is_at, is_curly, is_arrow}
use Rattle.kotlin_grammar.specs.Taking.{takes, relaxed}
use Rattle.kotlin_grammar.specs.Meaning.{taken}
use Rattle.kotlin_canonical_text.specs.Tokens.{token, tokens}
use Rattle.kotlin_tree.specs.declared.statements.KVariability.{KVariability}
use Rattle.kotlin_tree.specs.declared.statements.KVariability.TheVariants as variability
use Rattle.kotlin_tree.specs.declared.statements.KDeclared.{KDeclared}
use Rattle.kotlin_tree.specs.declared.statements.KBlock.{KBlock}
use Rattle.kotlin_tree.specs.declared.members.KModifier.{KModifier}
use Rattle.kotlin_tree.specs.declared.members.KParam.{KParam}
use Rattle.kotlin_tree.specs.declared.members.KParams.{KParams}
use Rattle.kotlin_tree.specs.declared.members.KTyped.{KTyped}
use Rattle.kotlin_tree.specs.declared.members.KValue.{KValue}
use Rattle.kotlin_tree.specs.declared.members.KPrivateSet.{KPrivateSet}
use Rattle.kotlin_tree.specs.declared.members.KCalled.{KCalled}
use Rattle.kotlin_tree.specs.declared.members.KCalled.TheVariants as called
use Rattle.kotlin_tree.specs.declared.members.KDelegation.{KDelegation}
use Rattle.kotlin_tree.specs.declared.members.KCompanionAt.{KCompanionAt}
use Rattle.kotlin_tree.specs.declared.members.KMember.{KMember, roll-KMember, map-KMember, fold-roll-KMember, ind-KMember}
use Rattle.kotlin_tree.specs.declared.members.KMember.TheOpen.{KMember-F}
use Rattle.kotlin_tree.specs.UpToPlaces.{made_private_set}
use Rattle.kotlin_layout.specs.Roles.{lines, block as block_of, opened as opened_glyphs, closed as closed_glyphs}
use Rattle.kotlin_layout.specs.Shown.{comment_roles, declared_roles, variability_word, assigns, modifiers_roles, param_roles, params_roles, result_roles, value_roles, setter_roles, body_roles, block_roles, delegation_roles, called_word, above, expression_roles, statement_roles}
use Rattle.kotlin_grammar.specs.Ahead.{curly_kind, set_ahead}
use Rattle.kotlin_canonical_text.specs.Canonical.{Piece, Operand, roles_of, roles_at, tree_of, depth_of, all_readable, all_at, commas_of, commas_behind, arguments_at, deepest_at, block_depth, block_readable, type_piece, declared_tree, operand}
use Rattle.kotlin_canonical_text.specs.Members.{modifiers_tree, param_tree, params_tree, params_readable, typed_tree, typed_readable, shown_in, block_tree, body_readable, value_tree, value_readable, operands_of, delegation_tree, delegation_readable, member_piece, member}
use Rattle.kotlin_canonical_text.proofs.Names.{L, Free, takes_name, named_plain}
use Rattle.kotlin_canonical_text.proofs.Firsts.{begins_name, relaxed_plain}
use Rattle.kotlin_canonical_text.proofs.Types.{both, Tight}
use Rattle.kotlin_canonical_text.proofs.Levels.{After, after_letter, quiet}
use Rattle.kotlin_canonical_text.proofs.Expressions.{AllRead, close_round, round_args}
use Rattle.kotlin_canonical_text.proofs.Blocks.{block_read, behind_closing, closing, closed_curly, closed_inside, plain_curly, takes_curly}
use Rattle.kotlin_canonical_text.proofs.Statements.{typed, declared_read, assigned, tight_assign, comments_line}
use Rattle.kotlin_canonical_text.proofs.Lambdas.{curly_facts}
use Rattle.kotlin_canonical_text.proofs.Induction.{expression_good}
use Rattle.kotlin_canonical_text.proofs.Shown.{expression_shown, expressions_shown, statements_shown}
use Rattle.kotlin_canonical_text.proofs.Derived.{all_stand}
use Rattle.kotlin_canonical_text.proofs.Modifiers.{Lead, leads, lead_less, lead_line, lead_arrow, lead_unnamed, lead_ends, lead_after, word_lead, modifiers_lead, modifiers_read}
use Rattle.kotlin_canonical_text.proofs.Steps.{Der, way, take, take_blank, act}
use Rattle.kotlin_canonical_text.proofs.Acts.{place, tok, nm, block, decl}
use Rattle.kotlin_canonical_text.proofs.MemberActs.{mods, typed as typed_built, value, setter, params, pl, pl_only, body, deleg, member as member_built, members, acts_NoModifiers, acts_Typed, acts_Untyped, acts_NoMembers, acts_AddMember, acts_Init, acts_Companion, acts_Value, acts_NoValue, acts_Setter, acts_NoSetter, acts_Property, acts_NoParams, acts_AddParam, acts_Params, acts_Body, acts_NoBody, acts_Function, acts_Delegation, acts_NoDelegation, acts_Constructor}
use Rattle.kotlin_canonical_text.proofs.Acts.{acts_AddComma}

-- ---- what stands first

var_lead : (x : KVariability) (z : Roles) → Lead (Role.Fixed (variability_word x) ∷ z)
unfolding letters tokens keyword_kind names_follow accepts leads
var_lead variability.Val z = record { kind = k.Val; front = token (q.Keyword kw.Val) gap.Plain; more = L gap.Plain z; is = λ h. refl; ok = refl; unnamed = refl }
var_lead variability.Var z = record { kind = k.Var; front = token (q.Keyword kw.Var) gap.Plain; more = L gap.Plain z; is = λ h. refl; ok = refl; unnamed = refl }

fun_lead : (z : Roles) → Lead (Role.Fixed (g.Keyword kw.Fun) ∷ z)
unfolding letters tokens keyword_kind names_follow accepts leads
fun_lead z = record { kind = k.Fun; front = token (q.Keyword kw.Fun) gap.Plain; more = L gap.Plain z; is = λ h. refl; ok = refl; unnamed = refl }

constructor_lead : (z : Roles) → Lead (Role.Fixed (g.Word o.Constructor) ∷ Role.Fixed (g.Mark m.OpenRound) ∷ z)
unfolding letters tokens kind_of_word named mark_kind names_follow accepts leads
constructor_lead z = record { kind = k.ConstructorWord; front = token (q.Word o.Constructor) gap.Plain; more = L gap.Plain (Role.Fixed (g.Mark m.OpenRound) ∷ z); is = λ h. refl; ok = refl; unnamed = refl }

companion_lead : (z : Roles) → Lead (Role.Fixed (g.Word o.Companion) ∷ Role.Fixed g.Blank ∷ Role.Fixed (g.Keyword kw.Object) ∷ z)
unfolding letters tokens kind_of_word named keyword_kind names_follow accepts leads
companion_lead z = record { kind = k.CompanionWord; front = token (q.Word o.Companion) gap.Plain; more = L gap.Plain (Role.Fixed (g.Keyword kw.Object) ∷ z); is = λ h. refl; ok = refl; unnamed = refl }

-- a block behind something
abbrev curly : Roles → Roles
curly z = Role.Fixed g.Blank ∷ Role.Fixed (g.Mark m.OpenCurly) ∷ z

pub curly_behind : (z : Roles) → (stands is_less (L gap.Plain (curly z)) ≡ false) × (stands is_at (L gap.Plain (curly z)) ≡ false) × (names_follow true (L gap.Plain (curly z)) ≡ false)
unfolding letters tokens mark_kind
curly_behind z = let f = curly_facts (stands is_arrow (L gap.Plain z)) (names_follow false (L gap.Plain z)) (L gap.Plain z) in (f.0, f.1, f.2)

init_kind : (z : Roles) → kind_of_word o.Init (L gap.Plain (curly z)) ≡ k.InitWord
unfolding kind_of_word
init_kind z = named_plain k.InitWord (L gap.Plain (curly z)) (curly_behind z).0 (curly_behind z).1

init_lead : (z : Roles) → Lead (Role.Fixed (g.Word o.Init) ∷ curly z)
unfolding tokens leads
init_lead z = word_lead o.Init (Role.Fixed (g.Mark m.OpenCurly) ∷ z) (ap leads (init_kind z)) (curly_behind z).2

takes_init : (z : Roles) (b : Built) → takes taken (t.Only k.InitWord) b (L gap.Plain (Role.Fixed (g.Word o.Init) ∷ curly z)) ≡ Some (place b, L gap.Plain (curly z))
unfolding takes letters tokens accepts taken
takes_init z b = ap (λ c. takes taken (t.Only k.InitWord) b (letter_by c (token (q.Word o.Init) gap.Plain) ∷ L gap.Plain (curly z))) (init_kind z)

-- ---- a block of a member

member_block : (x : KBlock) (s : Symbols) (b : Built) (r : Roles) (new : Built) → block_readable (shown_in x) ≡ true
    → Der s (block (block_depth (shown_in x)) (block_tree x) b) (L gap.Plain r) new → Der (y.Form f.Block ∷ s) b (L gap.Plain (block_roles x ++ r)) new
member_block x s b r new readable h = subst (λ z. Der (y.Form f.Block ∷ s) b (L gap.Plain (block_of z ++ r)) new) (statements_shown x.statements)
    (block_read (shown_in x) s b r new (all_stand x.statements) readable h)

-- ---- parameters

tight_comma : (z : Roles) → Tight (Role.Fixed (g.Mark m.Comma) ∷ z)
unfolding letters tokens mark_kind
tight_comma z = (refl, refl)

tight_round : (z : Roles) → Tight (close_round z)
unfolding letters tokens mark_kind
tight_round z = (refl, refl)

colon_free : (z : Roles) → Free (L gap.Plain (Role.Fixed (g.Mark m.Colon) ∷ z))
unfolding letters tokens mark_kind
colon_free z = refl

colon_calm : (z : Roles) → stands is_curly (L gap.Plain (Role.Fixed (g.Mark m.Colon) ∷ z)) ≡ false
unfolding letters tokens mark_kind
colon_calm z = refl

param_read : (x : KParam) (xs : List KParam) (cs : List Position) (s : Symbols) (b : Built) (r : Roles) (new : Built) → (type_piece x.kind).readable ≡ true → Tight r
    → Der s (pl (xs ++ param_tree x ∷ []) cs b) (L gap.Plain r) new → Der (y.Form f.Param ∷ s) (pl xs cs b) (L gap.Plain (param_roles x ++ r)) new
unfolding written
param_read x xs cs s b r new readable tight h =
    let z = Role.Fixed g.Blank ∷ (type_roles x.kind ++ r) in
    way w.ParamOne (take (takes_name x.name.name (Role.Fixed (g.Mark m.Colon) ∷ z) (pl xs cs b) (colon_free z) (λ is. colon_calm z))
    (typed x.kind _ (nm x.name.name (pl xs cs b)) r new readable tight
    (act (acts_AddParam xs cs x.name.name (depth_of (type_piece x.kind)) (tree_of (type_piece x.kind)) b) h)))

abbrev more_params : List KParam → Roles
more_params xs = more_roles comma (map param_roles xs)

tight_params : (xs : List KParam) (r : Roles) → Tight (more_params xs ++ close_round r)
unfolding letters tokens mark_kind
tight_params [] r = (refl, refl)
tight_params (x ∷ xs) r = (refl, refl)

params_more : (ps : List KParam) (xs : List KParam) (cs : List Position) (s : Symbols) (b : Built) (r : Roles) (new : Built) → params_readable ps ≡ true
    → Der s (pl (xs ++ map param_tree ps) (cs ++ commas_behind ps) b) (L gap.Plain (close_round r)) new → Der (y.Form f.MoreParams ∷ s) (pl xs cs b) (L gap.Plain (more_params ps ++ close_round r)) new
unfolding written takes letters tokens accepts taken mark_kind
params_more [] xs cs s b r new readable h = way w.ParamsEnd
    (subst (λ u. Der s (pl u cs b) (L gap.Plain (close_round r)) new) (append-nil xs)
    (subst (λ u. Der s (pl (xs ++ []) u b) (L gap.Plain (close_round r)) new) (append-nil cs) h))
params_more (x ∷ ps) xs cs s b r new readable h =
    let halves = both (type_piece x.kind).readable (params_readable ps) readable in
    let z = more_params ps ++ close_round r in
    subst (λ u. Der (y.Form f.MoreParams ∷ s) (pl xs cs b) (L gap.Plain (Role.Fixed (g.Mark m.Comma) ∷ Role.Fixed g.Blank ∷ u)) new) (sym (append_assoc (param_roles x) (more_params ps) (close_round r)))
    (way w.ParamsMore (take_blank (relaxed_plain (Role.Name x.name.name ∷ []) (Role.Fixed (g.Mark m.Colon) ∷ Role.Fixed g.Blank ∷ (type_roles x.kind ++ z)) (begins_name x.name.name [] (Role.Fixed (g.Mark m.Colon) ∷ Role.Fixed g.Blank ∷ (type_roles x.kind ++ z)))) refl
    (act (acts_AddComma cs (pl_only xs b))
    (param_read x xs (cs ++ made ∷ []) _ b z new halves.0 (tight_params ps r)
    (params_more ps (xs ++ param_tree x ∷ []) (cs ++ made ∷ []) s b r new halves.1
    (subst (λ u. Der s (pl u ((cs ++ made ∷ []) ++ commas_behind ps) b) (L gap.Plain (close_round r)) new) (sym (append_assoc xs (param_tree x ∷ []) (map param_tree ps)))
    (subst (λ u. Der s (pl (xs ++ param_tree x ∷ map param_tree ps) u b) (L gap.Plain (close_round r)) new) (sym (append_assoc cs (made ∷ []) (commas_behind ps))) h)))))))

param_list : (ps : List KParam) (s : Symbols) (b : Built) (r : Roles) (new : Built) → params_readable ps ≡ true
    → Der s (pl (map param_tree ps) (commas_of ps) b) (L gap.Plain (close_round r)) new → Der (y.Form f.ParamList ∷ s) (pl [] [] b) (L gap.Plain (listed comma (map param_roles ps) ++ close_round r)) new
unfolding written
param_list [] s b r new readable h = way w.ParamsNone h
param_list (x ∷ ps) s b r new readable h =
    let halves = both (type_piece x.kind).readable (params_readable ps) readable in
    rw (append_assoc (param_roles x) (more_params ps) (close_round r))
    (way w.ParamsSome (param_read x [] [] _ b (more_params ps ++ close_round r) new halves.0 (tight_params ps r)
    (params_more ps (param_tree x ∷ []) [] s b r new halves.1 h)))

params_read : (x : KParams) (s : Symbols) (b : Built) (r : Roles) (new : Built) → params_readable x.items ≡ true
    → Der s (params (params_tree x) b) (L gap.Plain r) new → Der (y.Form f.Params ∷ s) b (L gap.Plain (params_roles x ++ r)) new
unfolding written takes letters tokens accepts taken mark_kind
params_read x s b r new readable h = rw (append_assoc (listed comma (map param_roles x.items)) (fixed (g.Mark m.CloseRound ∷ [])) r)
    (way w.ParamsWhole (take refl (act (acts_NoParams (place b))
    (param_list x.items _ (place b) r new readable
    (take refl (act (acts_Params (map param_tree x.items) (commas_of x.items) b) h))))))

-- ---- results, bodies, values, setters

result_read : (x : Option KTyped) (s : Symbols) (b : Built) (r : Roles) (new : Built) → typed_readable x ≡ true → Tight r
    → Der s (typed_built (option_map typed_tree x) b) (L gap.Plain r) new → Der (y.Form f.Typed ∷ s) b (L gap.Plain (result_roles x ++ r)) new
unfolding written
result_read None s b r new readable tight h = way w.TypedNone (act (acts_Untyped b) h)
result_read (Some x) s b r new readable tight h = way w.TypedSome (typed x.kind _ b r new readable tight (act (acts_Typed (depth_of (type_piece x.kind)) (tree_of (type_piece x.kind)) b) h))

body_read : (x : Option KBlock) (s : Symbols) (b : Built) (r : Roles) (new : Built) → body_readable x ≡ true
    → Der s (body (option_map block_tree x) b) (L gap.Plain r) new → Der (y.Form f.Body ∷ s) b (L gap.Plain (body_roles x ++ r)) new
unfolding written
body_read None s b r new readable h = way w.BodyNone (act (acts_NoBody b) h)
body_read (Some x) s b r new readable h = way w.BodySome (member_block x _ b r new readable (act (acts_Body (block_depth (shown_in x)) (block_tree x) b) h))

tight_body : (x : Option KBlock) (r : Roles) → Tight r → Tight (body_roles x ++ r)
tight_body None r tight = tight
tight_body (Some x) r tight = subst Tight (sym (append_assoc (fixed opened_glyphs ++ lines (map statement_roles x.statements)) (fixed closed_glyphs) r))
    ((curly_behind (Role.Fixed g.Deeper ∷ (lines (map statement_roles x.statements) ++ (fixed closed_glyphs ++ r)))).0, (curly_behind (Role.Fixed g.Deeper ∷ (lines (map statement_roles x.statements) ++ (fixed closed_glyphs ++ r)))).1)

value_read : (x : Option KValue) (s : Symbols) (b : Built) (r : Roles) (new : Built) → value_readable x ≡ true → After free_place (L gap.Plain r)
    → Der s (value (option_map value_tree x) b) (L gap.Plain r) new → Der (y.Form f.Value ∷ s) b (L gap.Plain (value_roles x ++ r)) new
unfolding written
value_read None s b r new readable after h = way w.ValueNone (act (acts_NoValue b) h)
value_read (Some x) s b r new readable after h =
    subst (λ u. Der (y.Form f.Value ∷ s) b (L gap.Plain ((fixed assigns ++ u free_place) ++ r)) new) (expression_shown x.tree)
    (way w.ValueSome (assigned (operand x.tree) _ b r new (expression_good x.tree) readable after
    (act (acts_Value ((operand x.tree).depth free_place) ((operand x.tree).tree free_place) b) h)))

set_seen : (r : Roles) → Tight r → L gap.Plain (setter_roles (Some made_private_set) ++ r) ≡ (record { kind = k.PrivateSet; token = token (q.Word o.Private) gap.Line } ∷ record { kind = k.SetWord; token = token (q.Word o.Set) gap.Plain } ∷ L gap.Plain r)
unfolding letters tokens kind_of_word
set_seen r tight = ap (λ c. private_by (letter_by c (token (q.Word o.Set) gap.Plain) ∷ L gap.Plain r)) (named_plain k.SetWord (L gap.Plain r) tight.0 tight.1)
  where
    private_by : Letters → Letters
    private_by ls = letter_by (if set_ahead ls then k.PrivateSet else named k.PrivateWord ls) (token (q.Word o.Private) gap.Line) ∷ ls

tight_setter : (x : Option KPrivateSet) (r : Roles) → Tight r → Tight (setter_roles x ++ r)
tight_setter None r tight = tight
tight_setter (Some x) r tight = (ap (stands is_less) (set_seen r tight), ap (stands is_at) (set_seen r tight))

after_setter : (x : Option KPrivateSet) (r : Roles) → Tight r → After free_place (L gap.Plain r) → After free_place (L gap.Plain (setter_roles x ++ r))
unfolding quiet
after_setter None r tight after = after
after_setter (Some x) r tight after = subst (After free_place) (sym (set_seen r tight)) (after_letter free_place _ _ refl)

setter_read : (x : Option KPrivateSet) (s : Symbols) (b : Built) (r : Roles) (new : Built) → Tight r
    → Der s (setter (option_map (λ (x : KPrivateSet). made_private_set) x) b) (L gap.Plain r) new → Der (y.Form f.Setter ∷ s) b (L gap.Plain (setter_roles x ++ r)) new
unfolding written takes accepts taken
setter_read None s b r new tight h = way w.SetterNone (act (acts_NoSetter b) h)
setter_read (Some x) s b r new tight h = subst (λ u. Der (y.Form f.Setter ∷ s) b u new) (sym (set_seen r tight)) (way w.SetterSome (take refl (take refl (act (acts_Setter b) h))))

tight_value : (x : Option KValue) (r : Roles) → Tight r → Tight (value_roles x ++ r)
tight_value None r tight = tight
tight_value (Some x) r tight = tight_assign (expression_roles x.tree free_place ++ r)

-- ---- members

-- What is shown of a member is read as it. Comments may stand before it.
pub record Kept (x : Piece KMember) : Type 0 where
  pub front : Roles
  pub body : Roles
  pub same : x.roles ≡ front ++ body
  pub line : (z : Roles) → L gap.Line (front ++ z) ≡ L gap.Line z
  pub lead : x.readable ≡ true → (z : Roles) → Lead (body ++ z)
  pub reads : x.readable ≡ true → (s : Symbols) (b : Built) (r : Roles) (new : Built) → Tight r → After free_place (L gap.Plain r) → Der s (member_built x.tree b) (L gap.Plain r) new
      → Der (y.Form f.Member ∷ s) b (L gap.Plain (body ++ r)) new

uncommented : (x : Piece KMember) → (x.readable ≡ true → (z : Roles) → Lead (x.roles ++ z))
    → (x.readable ≡ true → (s : Symbols) (b : Built) (r : Roles) (new : Built) → Tight r → After free_place (L gap.Plain r) → Der s (member_built x.tree b) (L gap.Plain r) new → Der (y.Form f.Member ∷ s) b (L gap.Plain (x.roles ++ r)) new) → Kept x
uncommented x lead reads = record { front = []; body = x.roles; same = refl; line = λ z. refl; lead = lead; reads = reads }

property_kept : (ms : List KModifier) (x : KDeclared) (v : Option KValue) (p : Option KPrivateSet) → Kept (member_piece (KMember-F.Property ms x v p))
unfolding written
property_kept ms x v p =
    let M = modifiers_roles ms in
    let D = declared_roles x in
    let V = value_roles v in
    let S = setter_roles p in
    let apart : (r : Roles) → ((((M ++ D) ++ V) ++ S) ++ r) ≡ (M ++ (D ++ (V ++ (S ++ r)))) = λ r. append_assoc ((M ++ D) ++ V) S r ∙ append_assoc (M ++ D) V (S ++ r) ∙ append_assoc M D (V ++ (S ++ r)) in
    uncommented (member_piece (KMember-F.Property ms x v p))
    (λ is z. subst Lead (sym (apart z)) (modifiers_lead ms (D ++ (V ++ (S ++ z))) (var_lead x.word _)))
    (λ is s b r new tight after h.
    let parts = both (type_piece x.kind).readable (value_readable v) is in
    subst (λ u. Der (y.Form f.Member ∷ s) b (L gap.Plain u) new) (sym (apart r))
    (way w.MemberModified (act (acts_NoModifiers b)
    (modifiers_read ms _ b (D ++ (V ++ (S ++ r))) new (var_lead x.word _)
    (way w.ModifiedProperty (declared_read x _ (mods (modifiers_tree ms) b) (V ++ (S ++ r)) new parts.0 (tight_value v (S ++ r) (tight_setter p r tight))
    (value_read v _ (decl (depth_of (type_piece x.kind)) (declared_tree x) (mods (modifiers_tree ms) b)) (S ++ r) new parts.1 (after_setter p r tight after)
    (setter_read p _ _ r new tight
    (act (acts_Property (modifiers_tree ms) (depth_of (type_piece x.kind)) (declared_tree x) (option_map value_tree v) (option_map (λ (x : KPrivateSet). made_private_set) p) b) h)))))))))

init_kept : (at : Position) (x : KBlock) → Kept (member_piece (KMember-F.Init at x))
unfolding written
init_kept at x = uncommented (member_piece (KMember-F.Init at x))
    (λ is z. init_lead _)
    (λ is s b r new tight after h. way w.MemberInit (take (takes_init _ b) (member_block x _ (place b) r new is (act (acts_Init (block_depth (shown_in x)) (block_tree x) b) h))))

round_free : (z : Roles) → Free (L gap.Plain (Role.Fixed (g.Mark m.OpenRound) ∷ z))
unfolding letters tokens mark_kind
round_free z = refl

round_calm : (z : Roles) → stands is_curly (L gap.Plain (Role.Fixed (g.Mark m.OpenRound) ∷ z)) ≡ false
unfolding letters tokens mark_kind
round_calm z = refl

function_kept : (ms : List KModifier) (at : Position) (x : KName) (ps : KParams) (result : Option KTyped) (v : Option KBlock) → Kept (member_piece (KMember-F.Function ms at x ps result v))
unfolding written takes letters tokens accepts taken keyword_kind
function_kept ms at x ps result v =
    let M = modifiers_roles ms in
    let F = fixed (g.Keyword kw.Fun ∷ g.Blank ∷ []) in
    let N = Role.Name x.name ∷ [] in
    let P = params_roles ps in
    let R = result_roles result in
    let B = body_roles v in
    let apart : (r : Roles) → ((((((M ++ F) ++ N) ++ P) ++ R) ++ B) ++ r) ≡ (M ++ (F ++ (N ++ (P ++ (R ++ (B ++ r)))))) = λ r.
    append_assoc ((((M ++ F) ++ N) ++ P) ++ R) B r ∙ append_assoc (((M ++ F) ++ N) ++ P) R (B ++ r) ∙ append_assoc ((M ++ F) ++ N) P (R ++ (B ++ r)) ∙ append_assoc (M ++ F) N (P ++ (R ++ (B ++ r))) ∙ append_assoc M F (N ++ (P ++ (R ++ (B ++ r)))) in
    uncommented (member_piece (KMember-F.Function ms at x ps result v))
    (λ is z. subst Lead (sym (apart z)) (modifiers_lead ms (F ++ (N ++ (P ++ (R ++ (B ++ z))))) (fun_lead _)))
    (λ is s b r new tight after h.
    let a = both (params_readable ps.items && typed_readable result) (body_readable v) is in
    let c = both (params_readable ps.items) (typed_readable result) a.0 in
    let b0 = mods (modifiers_tree ms) b in
    let b1 = nm x.name (place b0) in
    subst (λ u. Der (y.Form f.Member ∷ s) b (L gap.Plain u) new) (sym (apart r))
    (way w.MemberModified (act (acts_NoModifiers b)
    (modifiers_read ms _ b (F ++ (N ++ (P ++ (R ++ (B ++ r))))) new (fun_lead _)
    (way w.ModifiedFunction (take refl (take (takes_name x.name (P ++ (R ++ (B ++ r))) (place b0) (round_free ((listed comma (map param_roles ps.items) ++ fixed (g.Mark m.CloseRound ∷ [])) ++ (R ++ (B ++ r)))) (λ is. round_calm ((listed comma (map param_roles ps.items) ++ fixed (g.Mark m.CloseRound ∷ [])) ++ (R ++ (B ++ r)))))
    (params_read ps _ b1 (R ++ (B ++ r)) new c.0
    (result_read result _ (params (params_tree ps) b1) (B ++ r) new c.1 (tight_body v r tight)
    (body_read v _ _ r new a.1
    (act (acts_Function (modifiers_tree ms) x.name (params_tree ps) (option_map typed_tree result) (option_map block_tree v) b) h)))))))))))

unfoldable pub AllKept : List (Piece KMember) → Type 0
AllKept [] = Unit {0}
AllKept (x ∷ xs) = Kept x × AllKept xs

abbrev lines_of : List (Piece KMember) → Roles
lines_of xs = lines (map roles_of xs)

module _ (x : Piece KMember) (h : Kept x) (readable : x.readable ≡ true) (z : Roles) where
  at_line : L gap.Line (x.roles ++ z) ≡ L gap.Line (h.body ++ z)
  at_line = ap (λ u. L gap.Line (u ++ z)) h.same ∙ ap (L gap.Line) (append_assoc h.front h.body z) ∙ h.line (h.body ++ z)

  lead_here : Lead (h.body ++ z)
  lead_here = h.lead readable z

  tight_line : Tight (Role.Fixed g.Line ∷ (x.roles ++ z))
  unfolding tokens
  tight_line = (ap (stands is_less) at_line ∙ lead_less (h.body ++ z) lead_here gap.Line, ap (stands is_at) (at_line ∙ lead_here.is gap.Line))

  after_line : After free_place (L gap.Plain (Role.Fixed g.Line ∷ (x.roles ++ z)))
  unfolding tokens
  after_line = subst (After free_place) (sym at_line) (lead_after (h.body ++ z) lead_here)

tight_closing : (r : Roles) → Tight (closing r)
unfolding letters tokens mark_kind
tight_closing r = (refl, refl)

tight_members : (xs : List (Piece KMember)) (r : Roles) → AllKept xs → all_readable xs ≡ true → Tight (lines_of xs ++ closing r)
unfolding AllKept
tight_members [] r all readable = tight_closing r
tight_members (x ∷ xs) r all readable = subst Tight (sym (ap (λ u. Role.Fixed g.Line ∷ u) (append_assoc x.roles (lines_of xs) (closing r)))) (tight_line x all.0 (both x.readable (all_readable xs) readable).0 (lines_of xs ++ closing r))

after_members : (xs : List (Piece KMember)) (r : Roles) → AllKept xs → all_readable xs ≡ true → After free_place (L gap.Plain (lines_of xs ++ closing r))
unfolding AllKept
after_members [] r all readable = (behind_closing r).after free_place
after_members (x ∷ xs) r all readable = subst (λ u. After free_place (L gap.Plain u)) (sym (ap (λ u. Role.Fixed g.Line ∷ u) (append_assoc x.roles (lines_of xs) (closing r)))) (after_line x all.0 (both x.readable (all_readable xs) readable).0 (lines_of xs ++ closing r))

members_more : (xs : List (Piece KMember)) (found : List KMember) (s : Symbols) (b : Built) (r : Roles) (new : Built) → AllKept xs → all_readable xs ≡ true
    → Der s (members (found ++ map tree_of xs) b) (L gap.Plain (closing r)) new → Der (y.Form f.MoreMembers ∷ s) (members found b) (L gap.Plain (lines_of xs ++ closing r)) new
unfolding written tokens AllKept
members_more [] found s b r new all readable h = way w.MembersEnd (subst (λ z. Der s (members z b) (L gap.Plain (closing r)) new) (append-nil found) h)
members_more (x ∷ xs) found s b r new all readable h =
    let halves = both x.readable (all_readable xs) readable in
    let z = lines_of xs ++ closing r in
    rw (append_assoc x.roles (lines_of xs) (closing r))
    (way w.MembersMore (take (ap (takes taken t.MemberEnds (members found b)) (at_line x all.0 halves.0 z) ∙ lead_ends (all.0.body ++ z) (lead_here x all.0 halves.0 z) (members found b))
    (way w.NextMemberSome (all.0.reads halves.0 _ (members found b) z new (tight_members xs r all.1 halves.1) (after_members xs r all.1 halves.1)
    (act (acts_AddMember found x.tree b)
    (members_more xs (found ++ x.tree ∷ []) s b r new all.1 halves.1
    (subst (λ u. Der s (members u b) (L gap.Plain (closing r)) new) (sym (append_assoc found (x.tree ∷ []) (map tree_of xs))) h)))))))

members_read : (xs : List (Piece KMember)) (s : Symbols) (b : Built) (r : Roles) (new : Built) → AllKept xs → all_readable xs ≡ true
    → Der s (members (map tree_of xs) b) (L gap.Plain (closing r)) new → Der (y.Form f.Members ∷ s) (members [] b) (relaxed (L gap.Plain (lines_of xs ++ closing r))) new
unfolding written tokens AllKept
members_read [] s b r new all readable h = way w.MembersNone (subst (λ u. Der s (members [] b) u new) (sym (closed_inside r)) h)
members_read (x ∷ xs) s b r new all readable h =
    let halves = both x.readable (all_readable xs) readable in
    let z = lines_of xs ++ closing r in
    subst (λ u. Der (y.Form f.Members ∷ s) (members [] b) u new)
    (sym (ap (λ u. relaxed (L gap.Line u)) (append_assoc x.roles (lines_of xs) (closing r)) ∙ ap relaxed (at_line x all.0 halves.0 z) ∙ lead_line (all.0.body ++ z) (lead_here x all.0 halves.0 z)))
    (way w.MembersSome (all.0.reads halves.0 _ (members [] b) z new (tight_members xs r all.1 halves.1) (after_members xs r all.1 halves.1)
    (act (acts_AddMember [] x.tree b)
    (members_more xs (x.tree ∷ []) s b r new all.1 halves.1 h))))

members_curly : (xs : List (Piece KMember)) (r : Roles) → AllKept xs → all_readable xs ≡ true → curly_kind (L gap.Plain (lines_of xs ++ closing r)) ≡ k.OpenCurly
unfolding tokens AllKept
members_curly [] r all readable = closed_curly r
members_curly (x ∷ xs) r all readable =
    let halves = both x.readable (all_readable xs) readable in
    let z = lines_of xs ++ closing r in
    let l = lead_here x all.0 halves.0 z in
    ap (λ u. curly_kind (L gap.Line u)) (append_assoc x.roles (lines_of xs) (closing r)) ∙ ap curly_kind (at_line x all.0 halves.0 z)
    ∙ plain_curly (L gap.Line (all.0.body ++ z)) (lead_arrow (all.0.body ++ z) l) (lead_unnamed (all.0.body ++ z) l)

-- members in braces
pub members_braced : (xs : List (Piece KMember)) (s : Symbols) (b : Built) (r : Roles) (new : Built) → AllKept xs → all_readable xs ≡ true
    → Der s (place (members (map tree_of xs) (place b))) (L gap.Plain r) new
    → Der (y.Term (t.Only k.OpenCurly) ∷ y.Act a.NoMembers ∷ y.Form f.Members ∷ y.Term (t.Only k.CloseCurly) ∷ s) b (L gap.Plain (Role.Fixed g.Blank ∷ Role.Fixed (g.Mark m.OpenCurly) ∷ Role.Fixed g.Deeper ∷ (lines_of xs ++ closing r))) new
unfolding takes letters tokens accepts taken mark_kind
members_braced xs s b r new all readable h = take (takes_curly (Role.Fixed g.Deeper ∷ (lines_of xs ++ closing r)) b (members_curly xs r all readable))
    (act (acts_NoMembers (place b)) (members_read xs _ (place b) r new all readable (take refl h)))

delegation_by : (o : KCalled) (xs : List Operand) (s : Symbols) (b : Built) (r : Roles) (new : Built) → AllRead xs → all_at list_place xs ≡ true
    → Der s (deleg (Some (record { colon = made; called = o; at = made; round = made_brackets; arguments = arguments_at xs; commas = commas_of xs })) b) (L gap.Plain r) new
    → Der (y.Form f.Delegation ∷ s) b (L gap.Plain ((fixed (above ++ called_word o ∷ []) ++ arguments_roles (map roles_at xs)) ++ r)) new
unfolding written takes letters tokens accepts taken mark_kind keyword_kind
delegation_by called.This xs s b r new all readable h = way w.DelegationSome (take refl (take refl (round_args xs _ (tok (q.Keyword kw.This) (place b)) r new all readable (act (acts_Delegation (q.Keyword kw.This) (deepest_at xs) (arguments_at xs) (commas_of xs) called.This b refl) h))))
delegation_by called.Super xs s b r new all readable h = way w.DelegationSome (take refl (take refl (round_args xs _ (tok (q.Keyword kw.Super) (place b)) r new all readable (act (acts_Delegation (q.Keyword kw.Super) (deepest_at xs) (arguments_at xs) (commas_of xs) called.Super b refl) h))))

-- `:`, `this` or `super`, and arguments
delegation_read : (x : Option KDelegation) (s : Symbols) (b : Built) (r : Roles) (new : Built) → delegation_readable x ≡ true
    → Der s (deleg (option_map delegation_tree x) b) (L gap.Plain r) new → Der (y.Form f.Delegation ∷ s) b (L gap.Plain (delegation_roles x ++ r)) new
unfolding written AllRead
delegation_read None s b r new readable h = way w.DelegationNone (act (acts_NoDelegation b) h)
delegation_read (Some x) s b r new readable h =
    subst (λ u. Der (y.Form f.Delegation ∷ s) b (L gap.Plain ((fixed (above ++ called_word x.called ∷ []) ++ arguments_roles u) ++ r)) new) (expressions_shown x.arguments)
    (delegation_by x.called (operands_of x.arguments) s b r new (all_read x.arguments) readable h)
  where
    all_read : (xs : List KExpr) → AllRead (map operand xs)
    all_read [] = tt
    all_read (x ∷ xs) = (expression_good x, all_read xs)

companion_kept : (at : KCompanionAt) (xs : List (Piece KMember)) → AllKept xs → Kept (member_piece (KMember-F.Companion at xs))
unfolding written takes letters tokens accepts taken keyword_kind kind_of_word named
companion_kept at xs all = uncommented (member_piece (KMember-F.Companion at xs))
    (λ is z. companion_lead _)
    (λ is s b r new tight after h. subst (λ u. Der (y.Form f.Member ∷ s) b (L gap.Plain (Role.Fixed (g.Word o.Companion) ∷ Role.Fixed g.Blank ∷ Role.Fixed (g.Keyword kw.Object) ∷ Role.Fixed g.Blank ∷ Role.Fixed (g.Mark m.OpenCurly) ∷ Role.Fixed g.Deeper ∷ u)) new) (sym (append_assoc (lines_of xs) (fixed closed_glyphs) r))
    (way w.MemberCompanion (take refl (take refl (members_braced xs _ (place (place b)) r new all is
    (act (acts_Companion (map tree_of xs) b) h))))))

commented_kept : (xs : List (List ℕ)) (x : Piece KMember) → Kept x → Kept (member_piece (KMember-F.Commented xs x))
commented_kept xs x h = record {
  front = comment_roles xs ++ h.front;
  body = h.body;
  same = ap (λ z. comment_roles xs ++ z) h.same ∙ sym (append_assoc (comment_roles xs) h.front h.body);
  line = λ z. ap (L gap.Line) (append_assoc (comment_roles xs) h.front z) ∙ comments_line xs (h.front ++ z) ∙ h.line z;
  lead = h.lead;
  reads = h.reads;
}

constructor_kept : (ms : List KModifier) (at : Position) (ps : KParams) (first : Option KDelegation) (v : KBlock) → Kept (member_piece (KMember-F.Constructor ms at ps first v))
unfolding written takes letters tokens accepts taken kind_of_word named mark_kind
constructor_kept ms at ps first v =
    let M = modifiers_roles ms in
    let F = fixed (g.Word o.Constructor ∷ []) in
    let P = params_roles ps in
    let R = delegation_roles first in
    let B = block_roles v in
    let apart : (r : Roles) → (((((M ++ F) ++ P) ++ R) ++ B) ++ r) ≡ (M ++ (F ++ (P ++ (R ++ (B ++ r))))) = λ r.
    append_assoc (((M ++ F) ++ P) ++ R) B r ∙ append_assoc ((M ++ F) ++ P) R (B ++ r) ∙ append_assoc (M ++ F) P (R ++ (B ++ r)) ∙ append_assoc M F (P ++ (R ++ (B ++ r))) in
    uncommented (member_piece (KMember-F.Constructor ms at ps first v))
    (λ is z. subst Lead (sym (apart z)) (modifiers_lead ms (F ++ (P ++ (R ++ (B ++ z)))) (constructor_lead _)))
    (λ is s b r new tight after h.
    let a = both (params_readable ps.items && delegation_readable first) (block_readable (shown_in v)) is in
    let c = both (params_readable ps.items) (delegation_readable first) a.0 in
    let b0 = mods (modifiers_tree ms) b in
    subst (λ u. Der (y.Form f.Member ∷ s) b (L gap.Plain u) new) (sym (apart r))
    (way w.MemberModified (act (acts_NoModifiers b)
    (modifiers_read ms _ b (F ++ (P ++ (R ++ (B ++ r)))) new (constructor_lead _)
    (way w.ModifiedConstructor (take refl
    (params_read ps _ (place b0) (R ++ (B ++ r)) new c.0
    (delegation_read first _ _ (B ++ r) new c.1
    (member_block v _ _ r new a.1
    (act (acts_Constructor (modifiers_tree ms) (params_tree ps) (option_map delegation_tree first) (block_depth (shown_in v)) (block_tree v) b) h))))))))))

abbrev Part : Type 0
Part = (x : KMember) × Kept (member x)

parts_kept : (xs : List Part) → AllKept (map member (map (λ (x : Part). x.0) xs))
unfolding AllKept
parts_kept [] = tt
parts_kept (x ∷ xs) = (x.1, parts_kept xs)

pub member_at : (x : KMember-F KMember) → member (roll-KMember x) ≡ member_piece (map-KMember KMember (Piece KMember) member x)
unfolding member
member_at x = fold-roll-KMember (Piece KMember) member_piece x

member_layer : (x : KMember-F Part) → Kept (member_piece (map-KMember KMember (Piece KMember) member (map-KMember Part KMember (λ x. x.0) x)))
member_layer (KMember-F.Commented comments x) = commented_kept comments (member x.0) x.1
member_layer (KMember-F.Property ms x v p) = property_kept ms x v p
member_layer (KMember-F.Init at x) = init_kept at x
member_layer (KMember-F.Function ms at x ps result v) = function_kept ms at x ps result v
member_layer (KMember-F.Constructor ms at ps first v) = constructor_kept ms at ps first v
member_layer (KMember-F.Companion at xs) = companion_kept at (map member (map (λ (x : Part). x.0) xs)) (parts_kept xs)

pub member_kept : (x : KMember) → Kept (member x)
member_kept = ind-KMember (λ x. Kept (member x)) (λ x z is. subst (λ (u : KMember-F KMember). Kept (member (roll-KMember u))) is
    (subst Kept (sym (member_at (map-KMember Part KMember (λ x. x.0) z))) (member_layer z)))
