-- Classes: the tokens of the canonical text of a class spell it.
use Rattle.std.proofs.Common.{◌≡◌, ℕ, true, false, List, [], ◌∷◌, ◌++◌, map, Option, Some, None, refl, ap, sym, subst, ◌∙◌, append_assoc}
use Rattle.std.proofs.lemmas.List.{append-nil}
use Rattle.std.specs.Prelude.{if◌then◌else◌, ◌&&◌, not}
use Rattle.std.specs.Option.{option_map}
use Rattle.grammar.specs.declared.symbols.Symbol.TheVariants as y
use Rattle.kotlin_tree.specs.declared.places.Position.{Position}
use Rattle.kotlin_tree.specs.declared.places.Brackets.{Brackets}
use Rattle.kotlin_tree.specs.declared.tokens.Gap.TheVariants as gap
use Rattle.kotlin_tree.specs.declared.tokens.Mark.TheVariants as m
use Rattle.kotlin_tree.specs.declared.tokens.Keyword.TheVariants as kw
use Rattle.kotlin_tree.specs.declared.tokens.TokenKind.TheVariants as q
use Rattle.kotlin_tree.specs.declared.types.KType.{KType}
use Rattle.kotlin_tree.specs.UpToPlaces.{made, made_brackets}
use Rattle.kotlin_layout.specs.declared.glyphs.Glyph.TheVariants as g
use Rattle.kotlin_layout.specs.Roles.{Role, Roles, fixed, listed, more_roles, comma}
use Rattle.kotlin_layout.specs.Shown.{in_angles}
use Rattle.kotlin_grammar.specs.declared.letters.Kind.TheVariants as k
use Rattle.kotlin_grammar.specs.declared.letters.Form.TheVariants as f
use Rattle.kotlin_grammar.specs.declared.letters.Way.TheVariants as w
use Rattle.kotlin_grammar.specs.declared.built.Built.{Built}
use Rattle.kotlin_grammar.specs.Table.{Symbols, written, accepts}
use Rattle.kotlin_grammar.specs.Ahead.{letters, mark_kind, keyword_kind, arguments_ahead, names_follow, stands, is_at, is_curly}
use Rattle.kotlin_grammar.specs.Taking.{takes}
use Rattle.kotlin_grammar.specs.Meaning.{taken}
use Rattle.kotlin_canonical_text.specs.Tokens.{token, tokens}
use Rattle.kotlin_tree.specs.declared.members.KTyped.{KTyped}
use Rattle.kotlin_tree.specs.declared.members.KMember.{KMember, roll-KMember, map-KMember, fold-roll-KMember, ind-KMember}
use Rattle.kotlin_tree.specs.declared.members.KMember.TheOpen.{KMember-F}
use Rattle.kotlin_tree.specs.declared.files.KTypeParam.{KTypeParam}
use Rattle.kotlin_tree.specs.declared.files.KTypeParams.{KTypeParams}
use Rattle.kotlin_tree.specs.declared.files.KSuper.{KSuper}
use Rattle.kotlin_tree.specs.declared.files.KSupers.{KSupers}
use Rattle.kotlin_tree.specs.declared.files.KClassWord.{KClassWord}
use Rattle.kotlin_tree.specs.declared.files.KClassWord.TheVariants as class
use Rattle.kotlin_tree.specs.declared.files.KClass.{KClass}
use Rattle.kotlin_tree.specs.UpToPlaces.{unplaced_word}
use Rattle.std.specs.Prelude.{bytes_eq, codes}
use Rattle.kotlin_layout.specs.Roles.{lines, name, block as block_of, opened as opened_glyphs, closed as closed_glyphs}
use Rattle.kotlin_layout.specs.Shown.{above, bound_roles, type_param_roles, type_params_roles, super_call, super_roles, supers_roles, class_words, modifiers_roles, member_roles, member_by}
use Rattle.kotlin_grammar.specs.Parts.{empty, with_class, last_class}
use Rattle.kotlin_grammar.specs.Reading.{SpellsClass, start}
use Rattle.kotlin_grammar.specs.declared.built.ClassHead.{ClassHead}
use Rattle.kotlin_canonical_text.specs.Canonical.{Piece, is_some, roles_of, tree_of, depth_of, all_readable, commas_of, commas_behind, type_piece}
use Rattle.kotlin_canonical_text.specs.Members.{modifiers_tree, typed_tree, typed_readable, member, member_piece, type_param_tree, type_params_readable, type_params_tree, params_of_type, super_tree, supers_each, supers_tree, supers_readable, class_tree, class_readable, bare_class_roles}
use Rattle.kotlin_canonical_text.proofs.Names.{L, Free, not_run, takes_name, takes_any_name}
use Rattle.kotlin_canonical_text.proofs.Firsts.{First, begins_name, begins_more, relaxed_plain}
use Rattle.kotlin_canonical_text.proofs.Types.{both, not_true, type_good, type_shown, Tight}
use Rattle.kotlin_canonical_text.proofs.Statements.{typed}
use Rattle.kotlin_canonical_text.proofs.Members.{AllKept, member_kept, members_braced, member_at, curly_behind}
use Rattle.kotlin_canonical_text.proofs.Modifiers.{Lead, leads, modifiers_lead, modifiers_read}
use Rattle.kotlin_canonical_text.proofs.Steps.{Der, done, way, take, take_blank, act}
use Rattle.kotlin_canonical_text.proofs.Acts.{place, nm, kind, acts_AddComma}
use Rattle.kotlin_canonical_text.proofs.MemberActs.{mods, typed as typed_built, tpl, tpl_only, tparams, spl, spl_only, supers, cword, klass, acts_NoModifiers, acts_Typed, acts_Untyped, acts_NoTypeParams, acts_AddTypeParam, acts_TypeParams, acts_NoneOfTypeParams, acts_NoSupers, acts_AddSuper, acts_AddCalledSuper, acts_Supers, acts_NoneOfSupers, acts_ClassWord, acts_FunClassWord, acts_Class}

-- ---- what stands between parts

tight_comma : (z : Roles) → Tight (Role.Fixed (g.Mark m.Comma) ∷ z)
unfolding letters tokens mark_kind
tight_comma z = (refl, refl)

tight_greater : (z : Roles) → Tight (Role.Fixed (g.Mark m.Greater) ∷ z)
unfolding letters tokens mark_kind
tight_greater z = (refl, refl)

tight_round : (z : Roles) → Tight (Role.Fixed (g.Mark m.OpenRound) ∷ z)
unfolding letters tokens mark_kind
tight_round z = (refl, refl)

tight_colon : (z : Roles) → Tight (Role.Fixed g.Blank ∷ Role.Fixed (g.Mark m.Colon) ∷ z)
unfolding letters tokens mark_kind
tight_colon z = (refl, refl)

-- ---- type parameters

bound_read : (x : Option KTyped) (s : Symbols) (b : Built) (r : Roles) (new : Built) → typed_readable x ≡ true → Tight r
    → Der s (typed_built (option_map typed_tree x) b) (L gap.Plain r) new → Der (y.Form f.Typed ∷ s) b (L gap.Plain (bound_roles x ++ r)) new
unfolding written tokens
bound_read None s b r new readable tight h = way w.TypedNone (act (acts_Untyped b) h)
bound_read (Some x) s b r new readable tight h = way w.TypedSome (typed x.kind _ b r new readable tight (act (acts_Typed (depth_of (type_piece x.kind)) (tree_of (type_piece x.kind)) b) h))

bound_free : (x : Option KTyped) (r : Roles) → Tight r → Free (L gap.Plain (bound_roles x ++ r))
unfolding letters tokens mark_kind
bound_free None r tight = ap (λ z. if z then arguments_ahead (L gap.Plain r) else stands is_at (L gap.Plain r)) tight.0 ∙ tight.1
bound_free (Some x) r tight = refl

bound_calm : (x : Option KTyped) (r : Roles) → stands is_curly (L gap.Plain r) ≡ false → stands is_curly (L gap.Plain (bound_roles x ++ r)) ≡ false
unfolding letters tokens mark_kind
bound_calm None r calm = calm
bound_calm (Some x) r calm = refl

abbrev greater : Roles → Roles
greater r = Role.Fixed (g.Mark m.Greater) ∷ r

type_param_read : (x : KTypeParam) (xs : List KTypeParam) (cs : List Position) (s : Symbols) (b : Built) (r : Roles) (new : Built) → typed_readable x.bound ≡ true → Tight r → stands is_curly (L gap.Plain r) ≡ false
    → Der s (tpl (xs ++ type_param_tree x ∷ []) cs b) (L gap.Plain r) new → Der (y.Form f.TypeParam ∷ s) (tpl xs cs b) (L gap.Plain (type_param_roles x ++ r)) new
unfolding written
type_param_read x xs cs s b r new readable tight calm h =
    way w.TypeParamOne (take (takes_name x.name.name (bound_roles x.bound ++ r) (tpl xs cs b) (bound_free x.bound r tight) (λ is. bound_calm x.bound r calm))
    (bound_read x.bound _ (nm x.name.name (tpl xs cs b)) r new readable tight
    (act (acts_AddTypeParam xs cs x.name.name (option_map typed_tree x.bound) b) h)))

abbrev more_type_params : List KTypeParam → Roles
more_type_params xs = more_roles comma (map type_param_roles xs)

tight_more : (xs : List KTypeParam) (r : Roles) → Tight (more_type_params xs ++ greater r)
unfolding letters tokens mark_kind
tight_more [] r = (refl, refl)
tight_more (x ∷ xs) r = (refl, refl)

calm_more : (xs : List KTypeParam) (r : Roles) → stands is_curly (L gap.Plain (more_type_params xs ++ greater r)) ≡ false
unfolding letters tokens mark_kind
calm_more [] r = refl
calm_more (x ∷ xs) r = refl

type_params_more : (ps : List KTypeParam) (xs : List KTypeParam) (cs : List Position) (s : Symbols) (b : Built) (r : Roles) (new : Built) → type_params_readable ps ≡ true
    → Der s (tpl (xs ++ map type_param_tree ps) (cs ++ commas_behind ps) b) (L gap.Plain (greater r)) new → Der (y.Form f.MoreTypeParams ∷ s) (tpl xs cs b) (L gap.Plain (more_type_params ps ++ greater r)) new
unfolding written takes letters tokens accepts taken mark_kind
type_params_more [] xs cs s b r new readable h = way w.TypeParamsEnd
    (subst (λ u. Der s (tpl u cs b) (L gap.Plain (greater r)) new) (append-nil xs)
    (subst (λ u. Der s (tpl (xs ++ []) u b) (L gap.Plain (greater r)) new) (append-nil cs) h))
type_params_more (x ∷ ps) xs cs s b r new readable h =
    let halves = both (typed_readable x.bound) (type_params_readable ps) readable in
    let z = more_type_params ps ++ greater r in
    subst (λ u. Der (y.Form f.MoreTypeParams ∷ s) (tpl xs cs b) (L gap.Plain (Role.Fixed (g.Mark m.Comma) ∷ Role.Fixed g.Blank ∷ u)) new) (sym (append_assoc (type_param_roles x) (more_type_params ps) (greater r)))
    (way w.TypeParamsMore (take_blank (relaxed_plain (Role.Name x.name.name ∷ []) (bound_roles x.bound ++ z) (begins_name x.name.name [] (bound_roles x.bound ++ z))) refl
    (act (acts_AddComma cs (tpl_only xs b))
    (type_param_read x xs (cs ++ made ∷ []) _ b z new halves.0 (tight_more ps r) (calm_more ps r)
    (type_params_more ps (xs ++ type_param_tree x ∷ []) (cs ++ made ∷ []) s b r new halves.1
    (subst (λ u. Der s (tpl u ((cs ++ made ∷ []) ++ commas_behind ps) b) (L gap.Plain (greater r)) new) (sym (append_assoc xs (type_param_tree x ∷ []) (map type_param_tree ps)))
    (subst (λ u. Der s (tpl (xs ++ type_param_tree x ∷ map type_param_tree ps) u b) (L gap.Plain (greater r)) new) (sym (append_assoc cs (made ∷ []) (commas_behind ps))) h)))))))

angles_read : (ps : List KTypeParam) (s : Symbols) (b : Built) (r : Roles) (new : Built) → is_some ps ≡ true → type_params_readable ps ≡ true
    → Der s (tparams (Some (record { angles = made_brackets; items = map type_param_tree ps; commas = commas_of ps })) b) (L gap.Plain r) new
    → Der (y.Form f.TypeParams ∷ s) b (L gap.Plain (in_angles (map type_param_roles ps) ++ r)) new
unfolding written takes letters tokens accepts taken mark_kind
angles_read [] s b r new some readable h = absurd (cc some)
angles_read (x ∷ ps) s b r new some readable h =
    let halves = both (typed_readable x.bound) (type_params_readable ps) readable in
    subst (λ u. Der (y.Form f.TypeParams ∷ s) b (L gap.Plain (Role.Fixed (g.Mark m.Less) ∷ u)) new) (sym (append_assoc (type_param_roles x ++ more_type_params ps) (fixed (g.Mark m.Greater ∷ [])) r ∙ append_assoc (type_param_roles x) (more_type_params ps) (greater r)))
    (way w.TypeParamsSome (take refl (act (acts_NoTypeParams (place b))
    (type_param_read x [] [] _ (place b) (more_type_params ps ++ greater r) new halves.0 (tight_more ps r) (calm_more ps r)
    (type_params_more ps (type_param_tree x ∷ []) [] _ (place b) r new halves.1
    (take refl (act (acts_TypeParams (map type_param_tree (x ∷ ps)) (commas_of (x ∷ ps)) b) h)))))))

type_params_read : (x : Option KTypeParams) (s : Symbols) (b : Built) (r : Roles) (new : Built) → params_of_type x ≡ true
    → Der s (tparams (option_map type_params_tree x) b) (L gap.Plain r) new → Der (y.Form f.TypeParams ∷ s) b (L gap.Plain (type_params_roles x ++ r)) new
unfolding written
type_params_read None s b r new readable h = way w.TypeParamsNone (act (acts_NoneOfTypeParams b) h)
type_params_read (Some x) s b r new readable h = let halves = both (is_some x.items) (type_params_readable x.items) readable in angles_read x.items s b r new halves.0 halves.1 h

-- ---- supertypes

tight_call : (x : Option Brackets) (r : Roles) → Tight r → Tight (super_call x ++ r)
unfolding letters tokens mark_kind
tight_call None r tight = tight
tight_call (Some x) r tight = (refl, refl)

super_round : (round : Option Brackets) (d : ℕ) (T : KType) (xs : List KSuper) (cs : List Position) (s : Symbols) (b : Built) (r : Roles) (new : Built)
    → Der s (spl (xs ++ record { kind = T; round = option_map (λ (y : Brackets). made_brackets) round } ∷ []) cs b) (L gap.Plain r) new
    → Der (y.Form f.SuperRound ∷ s) (kind d T (spl xs cs b)) (L gap.Plain (super_call round ++ r)) new
unfolding written takes letters tokens accepts taken mark_kind
super_round None d T xs cs s b r new h = way w.SuperPlain (act (acts_AddSuper xs cs d T b) h)
super_round (Some x) d T xs cs s b r new h = way w.SuperCalled (take refl (take refl (act (acts_AddCalledSuper xs cs d T b) h)))

super_read : (x : KSuper) (xs : List KSuper) (cs : List Position) (s : Symbols) (b : Built) (r : Roles) (new : Built) → (type_piece x.kind).readable ≡ true → Tight r
    → Der s (spl (xs ++ super_tree x ∷ []) cs b) (L gap.Plain r) new → Der (y.Form f.Super ∷ s) (spl xs cs b) (L gap.Plain (super_roles x ++ r)) new
unfolding written
super_read x xs cs s b r new readable tight h =
    subst (λ u. Der (y.Form f.Super ∷ s) (spl xs cs b) (L gap.Plain ((u ++ super_call x.round) ++ r)) new) (type_shown x.kind)
    (subst (λ u. Der (y.Form f.Super ∷ s) (spl xs cs b) (L gap.Plain u) new) (sym (append_assoc (type_piece x.kind).roles (super_call x.round) r))
    (way w.SuperOne ((type_good x.kind).reads readable _ (spl xs cs b) (super_call x.round ++ r) new (tight_call x.round r tight)
    (super_round x.round (type_piece x.kind).depth (type_piece x.kind).tree xs cs s b r new h))))

abbrev more_supers : List KSuper → Roles
more_supers xs = more_roles comma (map super_roles xs)

tight_supers : (xs : List KSuper) (r : Roles) → Tight r → Tight (more_supers xs ++ r)
unfolding letters tokens mark_kind
tight_supers [] r tight = tight
tight_supers (x ∷ xs) r tight = (refl, refl)

super_begins : (x : KSuper) (r : Roles) → First (super_roles x) r
super_begins x r = subst (λ u. First (u ++ super_call x.round) r) (type_shown x.kind) (begins_more (type_piece x.kind).roles (super_call x.round) (type_good x.kind).begins r)

supers_more : (ps : List KSuper) (xs : List KSuper) (cs : List Position) (s : Symbols) (b : Built) (r : Roles) (new : Built) → supers_each ps ≡ true → Tight r
    → Der s (spl (xs ++ map super_tree ps) (cs ++ commas_behind ps) b) (L gap.Plain r) new → Der (y.Form f.MoreSupers ∷ s) (spl xs cs b) (L gap.Plain (more_supers ps ++ r)) new
unfolding written takes letters tokens accepts taken mark_kind
supers_more [] xs cs s b r new readable tight h = way w.SupersEnd
    (subst (λ u. Der s (spl u cs b) (L gap.Plain r) new) (append-nil xs)
    (subst (λ u. Der s (spl (xs ++ []) u b) (L gap.Plain r) new) (append-nil cs) h))
supers_more (x ∷ ps) xs cs s b r new readable tight h =
    let halves = both (type_piece x.kind).readable (supers_each ps) readable in
    let z = more_supers ps ++ r in
    rw (append_assoc (super_roles x) (more_supers ps) r)
    (way w.SupersMore (take_blank (relaxed_plain (super_roles x) z (super_begins x z)) refl
    (act (acts_AddComma cs (spl_only xs b))
    (super_read x xs (cs ++ made ∷ []) _ b z new halves.0 (tight_supers ps r tight)
    (supers_more ps (xs ++ super_tree x ∷ []) (cs ++ made ∷ []) s b r new halves.1 tight
    (subst (λ u. Der s (spl u ((cs ++ made ∷ []) ++ commas_behind ps) b) (L gap.Plain r) new) (sym (append_assoc xs (super_tree x ∷ []) (map super_tree ps)))
    (subst (λ u. Der s (spl (xs ++ super_tree x ∷ map super_tree ps) u b) (L gap.Plain r) new) (sym (append_assoc cs (made ∷ []) (commas_behind ps))) h)))))))

listed_supers : (ps : List KSuper) (s : Symbols) (b : Built) (r : Roles) (new : Built) → is_some ps ≡ true → supers_each ps ≡ true → Tight r
    → Der s (supers (Some (record { colon = made; items = map super_tree ps; commas = commas_of ps })) b) (L gap.Plain r) new
    → Der (y.Form f.Supers ∷ s) b (L gap.Plain ((fixed above ++ listed comma (map super_roles ps)) ++ r)) new
unfolding written takes letters tokens accepts taken mark_kind
listed_supers [] s b r new some readable tight h = absurd (cc some)
listed_supers (x ∷ ps) s b r new some readable tight h =
    let halves = both (type_piece x.kind).readable (supers_each ps) readable in
    let z = more_supers ps ++ r in
    rw (append_assoc (super_roles x) (more_supers ps) r)
    (way w.SupersSome (take_blank (relaxed_plain (super_roles x) z (super_begins x z)) refl (act (acts_NoSupers (place b))
    (super_read x [] [] _ (place b) z new halves.0 (tight_supers ps r tight)
    (supers_more ps (super_tree x ∷ []) [] _ (place b) r new halves.1 tight
    (act (acts_Supers (map super_tree (x ∷ ps)) (commas_of (x ∷ ps)) b) h))))))

supers_read : (x : Option KSupers) (s : Symbols) (b : Built) (r : Roles) (new : Built) → supers_readable x ≡ true → Tight r
    → Der s (supers (option_map supers_tree x) b) (L gap.Plain r) new → Der (y.Form f.Supers ∷ s) b (L gap.Plain (supers_roles x ++ r)) new
unfolding written
supers_read None s b r new readable tight h = way w.SupersNone (act (acts_NoneOfSupers b) h)
supers_read (Some x) s b r new readable tight h = let halves = both (is_some x.items) (supers_each x.items) readable in listed_supers x.items s b r new halves.0 halves.1 tight h

-- ---- the words of a class

class_lead : (x : KClassWord) (z : Roles) → Lead (fixed (class_words x) ++ z)
unfolding letters tokens keyword_kind names_follow accepts leads
class_lead class.Class z = record { kind = k.Class; front = token (q.Keyword kw.Class) gap.Plain; more = L gap.Plain z; is = λ h. refl; ok = refl; unnamed = refl }
class_lead class.Interface z = record { kind = k.Interface; front = token (q.Keyword kw.Interface) gap.Plain; more = L gap.Plain z; is = λ h. refl; ok = refl; unnamed = refl }
class_lead (class.FunClass at) z = record { kind = k.Fun; front = token (q.Keyword kw.Fun) gap.Plain; more = L gap.Plain (Role.Fixed (g.Keyword kw.Class) ∷ z); is = λ h. refl; ok = refl; unnamed = refl }
class_lead (class.FunInterface at) z = record { kind = k.Fun; front = token (q.Keyword kw.Fun) gap.Plain; more = L gap.Plain (Role.Fixed (g.Keyword kw.Interface) ∷ z); is = λ h. refl; ok = refl; unnamed = refl }

abbrev head_made : KClassWord → ClassHead
head_made x = record { word = unplaced_word x; at = made }

class_word_read : (x : KClassWord) (s : Symbols) (b : Built) (z : Roles) (new : Built) → Der s (cword (head_made x) b) (L gap.Plain z) new → Der (y.Form f.ClassWord ∷ s) b (L gap.Plain (fixed (class_words x) ++ z)) new
unfolding written takes letters tokens accepts taken keyword_kind
class_word_read class.Class s b z new h = way w.ClassPlain (take refl (act (acts_ClassWord (q.Keyword kw.Class) class.Class b refl) h))
class_word_read class.Interface s b z new h = way w.ClassPlain (take refl (act (acts_ClassWord (q.Keyword kw.Interface) class.Interface b refl) h))
class_word_read (class.FunClass at) s b z new h = way w.ClassFun (take refl (take refl (act (acts_FunClassWord (q.Keyword kw.Class) (class.FunClass made) b refl) h)))
class_word_read (class.FunInterface at) s b z new h = way w.ClassFun (take refl (take refl (act (acts_FunClassWord (q.Keyword kw.Interface) (class.FunInterface made) b refl) h)))

-- ---- what is shown of a member is its roles

abbrev Seen : Type 0
Seen = (x : KMember) × ((member x).roles ≡ member_roles x)

seen_each : (xs : List Seen) → map roles_of (map member (map (λ (x : Seen). x.0) xs)) ≡ map member_roles (map (λ (x : Seen). x.0) xs)
seen_each [] = refl
seen_each (x ∷ xs) = ap (λ u. u ∷ map roles_of (map member (map (λ (x : Seen). x.0) xs))) x.1 ∙ ap (λ u. member_roles x.0 ∷ u) (seen_each xs)

seen_layer : (x : KMember-F Seen) → (member_piece (map-KMember KMember (Piece KMember) member (map-KMember Seen KMember (λ x. x.0) x))).roles ≡ member_by (map-KMember KMember Roles member_roles (map-KMember Seen KMember (λ x. x.0) x))
seen_layer (KMember-F.Commented comments x) = ap (λ u. member_by (KMember-F.Commented comments u)) x.1
seen_layer (KMember-F.Property ms x v p) = refl
seen_layer (KMember-F.Init at x) = refl
seen_layer (KMember-F.Function ms at x ps result v) = refl
seen_layer (KMember-F.Constructor ms at ps first v) = refl
seen_layer (KMember-F.Companion at xs) = ap (λ u. member_by (KMember-F.Companion at u)) (seen_each xs)

roles_rolled : (x : KMember-F KMember) → member_roles (roll-KMember x) ≡ member_by (map-KMember KMember Roles member_roles x)
unfolding member_roles
roles_rolled x = fold-roll-KMember Roles member_by x

member_shown : (x : KMember) → (member x).roles ≡ member_roles x
member_shown = ind-KMember (λ x. (member x).roles ≡ member_roles x) (λ x z is. subst (λ (u : KMember-F KMember). (member (roll-KMember u)).roles ≡ member_roles (roll-KMember u)) is
    (ap (λ (u : Piece KMember). u.roles) (member_at (map-KMember Seen KMember (λ x. x.0) z)) ∙ seen_layer z ∙ sym (roles_rolled (map-KMember Seen KMember (λ x. x.0) z))))

members_shown : (xs : List KMember) → map roles_of (map member xs) ≡ map member_roles xs
members_shown [] = refl
members_shown (x ∷ xs) = ap (λ u. u ∷ map roles_of (map member xs)) (member_shown x) ∙ ap (λ u. member_roles x ∷ u) (members_shown xs)

all_kept : (xs : List KMember) → AllKept (map member xs)
unfolding AllKept
all_kept [] = tt
all_kept (x ∷ xs) = (member_kept x, all_kept xs)

-- ---- a class

abbrev braces : List (Piece KMember) → Roles → Roles
braces xs r = Role.Fixed g.Blank ∷ Role.Fixed (g.Mark m.OpenCurly) ∷ Role.Fixed g.Deeper ∷ (lines (map roles_of xs) ++ (fixed closed_glyphs ++ r))

tight_braces : (xs : List (Piece KMember)) (r : Roles) → Tight (braces xs r)
tight_braces xs r = let t = curly_behind (Role.Fixed g.Deeper ∷ (lines (map roles_of xs) ++ (fixed closed_glyphs ++ r))) in (t.0, t.1)

at_supers : (x : Option KSupers) (r : Roles) → stands is_at (L gap.Plain r) ≡ false → stands is_at (L gap.Plain (supers_roles x ++ r)) ≡ false
unfolding letters tokens mark_kind
at_supers None r is = is
at_supers (Some x) r is = refl

at_params : (x : Option KTypeParams) (r : Roles) → stands is_at (L gap.Plain r) ≡ false → stands is_at (L gap.Plain (type_params_roles x ++ r)) ≡ false
unfolding letters tokens mark_kind
at_params None r is = is
at_params (Some x) r is = refl

class_parts : (x : KClass) (s : Symbols) (b : Built) (r : Roles) (new : Built) → bytes_eq x.name.name (codes "run") ≡ false → params_of_type x.params ≡ true → supers_readable x.supers ≡ true → all_readable (map member x.members) ≡ true
    → Der s (klass (class_tree x) b) (L gap.Plain r) new
    → Der (y.Form f.ClassForm ∷ s) b (L gap.Plain (modifiers_roles x.modifiers ++ (fixed (class_words x.word) ++ (Role.Name x.name.name ∷ (type_params_roles x.params ++ (supers_roles x.supers ++ braces (map member x.members) r)))))) new
unfolding written class_tree
class_parts x s b r new calm typed_ok supers_ok members_ok h =
    let xs = map member x.members in
    let z = type_params_roles x.params ++ (supers_roles x.supers ++ braces xs r) in
    let b0 = mods (modifiers_tree x.modifiers) b in
    let b1 = cword (head_made x.word) b0 in
    let b2 = tparams (option_map type_params_tree x.params) (nm x.name.name b1) in
    way w.ClassWhole (act (acts_NoModifiers b)
    (modifiers_read x.modifiers _ b (fixed (class_words x.word) ++ (Role.Name x.name.name ∷ z)) new (class_lead x.word (Role.Name x.name.name ∷ z))
    (class_word_read x.word _ b0 (Role.Name x.name.name ∷ z) new
    (take (takes_any_name x.name.name z b1 (at_params x.params (supers_roles x.supers ++ braces xs r) (at_supers x.supers (braces xs r) (tight_braces xs r).1)) (λ is. absurd (not_run x.name.name calm is)))
    (type_params_read x.params _ (nm x.name.name b1) (supers_roles x.supers ++ braces xs r) new typed_ok
    (supers_read x.supers _ b2 (braces xs r) new supers_ok (tight_braces xs r)
    (members_braced xs _ (supers (option_map supers_tree x.supers) b2) r new (all_kept x.members) members_ok
    (act (acts_Class (modifiers_tree x.modifiers) (head_made x.word) x.name.name (option_map type_params_tree x.params) (option_map supers_tree x.supers) (map tree_of xs) b) h))))))))

class_apart : (M W N T S : Roles) (xs : List Roles) (r : Roles) → ((((((M ++ W) ++ N) ++ T) ++ S) ++ block_of xs) ++ r) ≡ (M ++ (W ++ (N ++ (T ++ (S ++ (Role.Fixed g.Blank ∷ Role.Fixed (g.Mark m.OpenCurly) ∷ Role.Fixed g.Deeper ∷ (lines xs ++ (fixed closed_glyphs ++ r))))))))
class_apart M W N T S xs r =
    append_assoc ((((M ++ W) ++ N) ++ T) ++ S) (block_of xs) r ∙ append_assoc (((M ++ W) ++ N) ++ T) S (block_of xs ++ r) ∙ append_assoc ((M ++ W) ++ N) T (S ++ (block_of xs ++ r))
    ∙ append_assoc (M ++ W) N (T ++ (S ++ (block_of xs ++ r))) ∙ append_assoc M W (N ++ (T ++ (S ++ (block_of xs ++ r))))
    ∙ ap (λ u. M ++ (W ++ (N ++ (T ++ (S ++ u))))) (append_assoc (fixed opened_glyphs ++ lines xs) (fixed closed_glyphs) r)

bare_behind : (x : KClass) (r : Roles) → (bare_class_roles x ++ r) ≡ (modifiers_roles x.modifiers ++ (fixed (class_words x.word) ++ (Role.Name x.name.name ∷ (type_params_roles x.params ++ (supers_roles x.supers ++ braces (map member x.members) r)))))
unfolding bare_class_roles
bare_behind x r =
    class_apart (modifiers_roles x.modifiers) (fixed (class_words x.word)) (name x.name.name) (type_params_roles x.params) (supers_roles x.supers) (map member_roles x.members) r
    ∙ ap (λ u. modifiers_roles x.modifiers ++ (fixed (class_words x.word) ++ (Role.Name x.name.name ∷ (type_params_roles x.params ++ (supers_roles x.supers ++ (Role.Fixed g.Blank ∷ Role.Fixed (g.Mark m.OpenCurly) ∷ Role.Fixed g.Deeper ∷ (lines u ++ (fixed closed_glyphs ++ r))))))))
    (sym (members_shown x.members))

-- a class stands first
pub class_leads : (x : KClass) (r : Roles) → Lead (bare_class_roles x ++ r)
class_leads x r =
    let z = Role.Name x.name.name ∷ (type_params_roles x.params ++ (supers_roles x.supers ++ braces (map member x.members) r)) in
    subst Lead (sym (bare_behind x r)) (modifiers_lead x.modifiers (fixed (class_words x.word) ++ z) (class_lead x.word z))

pub class_read : (x : KClass) (s : Symbols) (b : Built) (r : Roles) (new : Built) → class_readable x ≡ true
    → Der s (klass (class_tree x) b) (L gap.Plain r) new → Der (y.Form f.ClassForm ∷ s) b (L gap.Plain (bare_class_roles x ++ r)) new
unfolding class_readable
class_read x s b r new readable h =
    let a = both (not (bytes_eq x.name.name (codes "run")) && params_of_type x.params && supers_readable x.supers) (all_readable (map member x.members)) readable in
    let c = both (not (bytes_eq x.name.name (codes "run")) && params_of_type x.params) (supers_readable x.supers) a.0 in
    let d = both (not (bytes_eq x.name.name (codes "run"))) (params_of_type x.params) c.0 in
    subst (λ u. Der (y.Form f.ClassForm ∷ s) b (L gap.Plain u) new) (sym (bare_behind x r)) (class_parts x s b r new (not_true _ d.0) d.1 c.1 a.1 h)

pub class_spelled : (x : KClass) → class_readable x ≡ true → SpellsClass (class_tree x) (tokens gap.Plain (bare_class_roles x))
unfolding letters tokens with_class last_class empty
class_spelled x readable =
    let built = klass (class_tree x) empty in
    let d = subst (λ u. Der (start f.ClassForm) empty (L gap.Plain u) built) (append-nil (bare_class_roles x)) (class_read x [] empty [] built readable (done built)) in
    record { built = built; makes = record { steps = d.steps; derives = d.derives }; holds = (empty, refl) }
