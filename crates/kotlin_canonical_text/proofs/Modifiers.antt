-- Modifiers: their tokens are derived in their order, and what stands first of a member is seen from the left.
use Rattle.std.proofs.Common.{◌≡◌, ℕ, Bool, true, false, List, [], ◌∷◌, ◌++◌, Some, None, refl, ap, sym, subst, ◌∙◌, append_assoc}
use Rattle.std.proofs.lemmas.List.{append-nil}
use Rattle.std.specs.Prelude.{if◌then◌else◌, ◌&&◌, nat_eq}
use Rattle.grammar.specs.declared.symbols.Symbol.TheVariants as y
use Rattle.kotlin_tree.specs.declared.tokens.Gap.{Gap}
use Rattle.kotlin_tree.specs.declared.tokens.Gap.TheVariants as gap
use Rattle.kotlin_tree.specs.declared.tokens.Mark.TheVariants as m
use Rattle.kotlin_tree.specs.declared.tokens.Word.{Word}
use Rattle.kotlin_tree.specs.declared.tokens.Word.TheVariants as o
use Rattle.kotlin_tree.specs.declared.tokens.TokenKind.TheVariants as q
use Rattle.kotlin_tree.specs.declared.tokens.KToken.{KToken}
use Rattle.kotlin_tree.specs.declared.members.KModifierKind.{KModifierKind}
use Rattle.kotlin_tree.specs.declared.members.KModifierKind.TheVariants as modifier
use Rattle.kotlin_tree.specs.declared.members.KModifier.{KModifier}
use Rattle.kotlin_tree.specs.UpToPlaces.{made, unplaced_modifier, unplaced_modifier_kind}
use Rattle.kotlin_layout.specs.declared.glyphs.Glyph.TheVariants as g
use Rattle.kotlin_layout.specs.Roles.{Role, Roles, fixed}
use Rattle.kotlin_layout.specs.Shown.{rank, modifier_glyphs, if_ranked, ranked, modifiers_roles}
use Rattle.kotlin_grammar.specs.declared.letters.Kind.{Kind}
use Rattle.kotlin_grammar.specs.declared.letters.Kind.TheVariants as k
use Rattle.kotlin_grammar.specs.declared.letters.Form.TheVariants as f
use Rattle.kotlin_grammar.specs.declared.letters.Term.TheVariants as t
use Rattle.kotlin_grammar.specs.declared.letters.Way.TheVariants as w
use Rattle.kotlin_grammar.specs.declared.built.Built.{Built}
use Rattle.kotlin_grammar.specs.declared.ahead.Spot.TheVariants as sp
use Rattle.kotlin_grammar.specs.declared.ahead.Step.TheVariants as st
use Rattle.kotlin_layout.specs.Parens.{free_place}
use Rattle.kotlin_grammar.specs.Table.{Symbols, written, accepts}
use Rattle.kotlin_grammar.specs.Ahead.{Letters, letters, letter_by, named, word_kind as kind_of_word, mark_kind, arguments_ahead, names_follow, names_on, stands, is_less, is_at, is_set, is_arrow, is_plain, is_semicolon, set_ahead, arguments_follow, goes_on, opens, step, blank_before, without_line, with_gap}
use Rattle.kotlin_grammar.specs.Taking.{takes, relaxed, broken}
use Rattle.kotlin_grammar.specs.Meaning.{taken}
use Rattle.kotlin_canonical_text.specs.Tokens.{token, tokens}
use Rattle.kotlin_canonical_text.specs.Members.{modifier_at, modifiers_at, modifiers_tree}
use Rattle.kotlin_canonical_text.proofs.Names.{L}
use Rattle.kotlin_canonical_text.proofs.Levels.{After}
use Rattle.kotlin_canonical_text.proofs.Steps.{Der, way, take, take_blank, act}
use Rattle.kotlin_canonical_text.proofs.Acts.{place, tok}
use Rattle.kotlin_canonical_text.proofs.MemberActs.{mods, acts_AddModifier, acts_AddAnnotation}

-- the kinds with which a member or a class begins
unfoldable pub leads : Kind → Bool
leads k.At = true
leads k.LabelModifier = true
leads k.PrivateWord = true
leads k.ModifierWord = true
leads k.CompanionWord = true
leads k.InitWord = true
leads k.ConstructorWord = true
leads k.Class = true
leads k.Fun = true
leads k.Interface = true
leads k.Val = true
leads k.Var = true
leads _ = false

-- What stands first of a member or a class.
pub record Lead (z : Roles) : Type 0 where
  pub kind : Kind
  pub front : KToken
  pub more : Letters
  pub is : (h : Gap) → L h z ≡ record { kind = kind; token = with_gap h front } ∷ more
  pub ok : leads kind ≡ true
  pub unnamed : names_follow false (record { kind = kind; token = with_gap gap.Plain front } ∷ more) ≡ false

leads_less : (c : Kind) → leads c ≡ true → is_less c ≡ false
unfolding leads
leads_less k.Less h = absurd (cc h)
leads_less _ h = refl

leads_arrow : (c : Kind) → leads c ≡ true → is_arrow c ≡ false
unfolding leads
leads_arrow k.Arrow h = absurd (cc h)
leads_arrow _ h = refl

leads_set : (c : Kind) → leads c ≡ true → is_set c ≡ false
unfolding leads
leads_set k.SetWord h = absurd (cc h)
leads_set _ h = refl

leads_ends : (c : Kind) → leads c ≡ true → accepts t.MemberEnds (broken c) ≡ true
unfolding leads accepts
leads_ends k.PrivateSet h = absurd (cc h)
leads_ends k.While h = absurd (cc h)
leads_ends _ h = refl

leads_named : (c : Kind) → leads c ≡ true → (more : Bool → Bool) → names_on true c more ≡ false
unfolding leads
leads_named k.Comma h more = absurd (cc h)
leads_named k.Arrow h more = absurd (cc h)
leads_named _ h more = refl

and_no : (b c : Bool) → c ≡ false → (b && c) ≡ false
and_no true c is = is
and_no false c is = refl

semicolon_no : (h : Gap) (b : Bool) → b ≡ false → (if is_semicolon h then false else b) ≡ false
semicolon_no gap.Plain b is = is
semicolon_no gap.Line b is = is
semicolon_no gap.Semicolon b is = refl

module _ (z : Roles) (l : Lead z) where
  pub lead_less : (h : Gap) → stands is_less (L h z) ≡ false
  lead_less h = ap (stands is_less) (l.is h) ∙ and_no (is_plain h) (is_less l.kind) (leads_less l.kind l.ok)

  pub lead_set : set_ahead (L gap.Plain z) ≡ false
  lead_set = ap set_ahead (l.is gap.Plain) ∙ leads_set l.kind l.ok

  pub lead_solid : relaxed (L gap.Plain z) ≡ L gap.Plain z
  lead_solid = ap relaxed (l.is gap.Plain) ∙ sym (l.is gap.Plain)

  pub lead_line : relaxed (L gap.Line z) ≡ L gap.Plain z
  lead_line = ap relaxed (l.is gap.Line) ∙ sym (l.is gap.Plain)

  pub lead_named : (h : Gap) → names_follow true (L h z) ≡ false
  unfolding names_follow
  lead_named h = ap (names_follow true) (l.is h) ∙ semicolon_no h _ (leads_named l.kind l.ok (λ b. names_follow b l.more))

  pub lead_arrow : stands is_arrow (L gap.Line z) ≡ false
  lead_arrow = ap (stands is_arrow) (l.is gap.Line)

  pub lead_unnamed : names_follow false (L gap.Line z) ≡ false
  unfolding names_follow
  lead_unnamed = ap (names_follow false) (l.is gap.Line) ∙ l.unnamed

  pub lead_ends : (b : Built) → takes taken t.MemberEnds b (L gap.Line z) ≡ Some (b, L gap.Plain z)
  unfolding takes
  lead_ends b =
      ap (takes taken t.MemberEnds b) (l.is gap.Line)
      ∙ ap (λ u. if u then Some (b, record { kind = l.kind; token = with_gap gap.Plain l.front } ∷ l.more) else None) (leads_ends l.kind l.ok)
      ∙ ap (λ u. Some (b, u)) (sym (l.is gap.Plain))

leads_step : (c : Kind) → leads c ≡ true → step sp.Name c ≡ st.Out
unfolding leads
leads_step k.Dot h = absurd (cc h)
leads_step k.Less h = absurd (cc h)
leads_step k.Question h = absurd (cc h)
leads_step k.Comma h = absurd (cc h)
leads_step k.Greater h = absurd (cc h)
leads_step _ h = refl

-- what stands behind the member before it
pub lead_after : (z : Roles) (l : Lead z) → After free_place (L gap.Line z)
unfolding arguments_follow
lead_after z l = subst (After free_place) (sym (l.is gap.Line)) (record {
  free = refl;
  calm = refl;
  plain = λ h. refl;
  stops = λ h n. ap (λ u. goes_on u n (λ p i. arguments_follow p i l.more) (opens l.more)) (leads_step l.kind l.ok);
})

-- ---- a modifier

gap_by : (b : Bool) (h : Gap) → b ≡ false → (if b then without_line h else h) ≡ h
gap_by true h is = absurd (cc is)
gap_by false h is = refl

leads_blank : (c : Kind) → leads c ≡ true → blank_before c ≡ false
unfolding leads
leads_blank k.Dot h = absurd (cc h)
leads_blank k.Colon h = absurd (cc h)
leads_blank k.AndAnd h = absurd (cc h)
leads_blank k.OrOr h = absurd (cc h)
leads_blank k.OpenCurly h = absurd (cc h)
leads_blank k.OpenParameters h = absurd (cc h)
leads_blank k.CloseCurly h = absurd (cc h)
leads_blank k.Catch h = absurd (cc h)
leads_blank k.FinallyWord h = absurd (cc h)
leads_blank k.Else h = absurd (cc h)
leads_blank _ h = refl

if_no : (b more : Bool) → more ≡ false → (if b then more else false) ≡ false
if_no true more h = h
if_no false more h = refl

-- a word that leads, before what leads
pub word_lead : (x : Word) (z : Roles) → leads (kind_of_word x (L gap.Plain z)) ≡ true → names_follow true (L gap.Plain z) ≡ false → Lead (Role.Fixed (g.Word x) ∷ Role.Fixed g.Blank ∷ z)
unfolding letters tokens names_follow
word_lead x z ok named = record {
  kind = kind_of_word x (L gap.Plain z);
  front = token (q.Word x) gap.Plain;
  more = L gap.Plain z;
  is = λ h. ap (λ u. record { kind = kind_of_word x (L gap.Plain z); token = token (q.Word x) u } ∷ L gap.Plain z) (gap_by (blank_before (kind_of_word x (L gap.Plain z))) h (leads_blank (kind_of_word x (L gap.Plain z)) ok));
  ok = ok;
  unnamed = if_no (accepts t.Name (kind_of_word x (L gap.Plain z))) (names_follow true (L gap.Plain z)) named;
}

modifier_by : (a b v : Bool) → a ≡ false → accepts t.Modifier (if a then (if b then k.NameArguments else k.NameLess) else (if v then k.LabelModifier else k.ModifierWord)) ≡ true
unfolding accepts
modifier_by true b v is = absurd (cc is)
modifier_by false b true is = refl
modifier_by false b false is = refl

modifier_leads : (a b v : Bool) → a ≡ false → leads (if a then (if b then k.NameArguments else k.NameLess) else (if v then k.LabelModifier else k.ModifierWord)) ≡ true
unfolding leads
modifier_leads true b v is = absurd (cc is)
modifier_leads false b true is = refl
modifier_leads false b false is = refl

private_leads : (e a b v : Bool) → e ≡ false → a ≡ false → leads (if e then k.PrivateSet else (if a then (if b then k.NameArguments else k.NameLess) else (if v then k.LabelModifier else k.PrivateWord))) ≡ true
unfolding leads
private_leads true a b v h is = absurd (cc h)
private_leads false true b v h is = absurd (cc is)
private_leads false false b true h is = refl
private_leads false false b false h is = refl

private_by : (e a b v : Bool) (c : Built) (ls : Letters) → e ≡ false → a ≡ false
    → takes taken t.Modifier c (letter_by (if e then k.PrivateSet else (if a then (if b then k.NameArguments else k.NameLess) else (if v then k.LabelModifier else k.PrivateWord))) (token (q.Word o.Private) gap.Plain) ∷ ls) ≡ Some (tok (q.Word o.Private) c, relaxed ls)
unfolding takes accepts taken
private_by true a b v c ls h is = absurd (cc h)
private_by false true b v c ls h is = absurd (cc is)
private_by false false b true c ls h is = refl
private_by false false b false c ls h is = refl

word_by : (a b v : Bool) (x : Word) (c : Built) (ls : Letters) → a ≡ false
    → takes taken t.Modifier c (letter_by (if a then (if b then k.NameArguments else k.NameLess) else (if v then k.LabelModifier else k.ModifierWord)) (token (q.Word x) gap.Plain) ∷ ls) ≡ Some (tok (q.Word x) c, relaxed ls)
unfolding takes accepts taken
word_by true b v x c ls is = absurd (cc is)
word_by false b true x c ls is = refl
word_by false b false x c ls is = refl

annotation_takes : (a b v : Bool) (x : Word) (c : Built) (ls : Letters) → a ≡ false
    → takes taken t.Annotation c (letter_by (if a then (if b then k.NameArguments else k.NameLess) else (if v then k.LabelAnnotation else k.AnnotationWord)) (token (q.Word x) gap.Plain) ∷ ls) ≡ Some (tok (q.Word x) c, relaxed ls)
unfolding takes accepts taken
annotation_takes true b v x c ls is = absurd (cc is)
annotation_takes false b true x c ls is = refl
annotation_takes false b false x c ls is = refl

at_lead : (z : Roles) → Lead (Role.Fixed (g.Mark m.At) ∷ z)
unfolding letters tokens mark_kind names_follow accepts leads
at_lead z = record { kind = k.At; front = token (q.Mark m.At) gap.Plain; more = L gap.Plain z; is = λ h. refl; ok = refl; unnamed = refl }

abbrev glyphs_of : KModifierKind → Roles
glyphs_of x = fixed (modifier_glyphs x)

modifier_lead : (x : KModifierKind) (z : Roles) → Lead z → Lead (glyphs_of x ++ z)
unfolding kind_of_word named
modifier_lead (modifier.JvmStatic at) z l = at_lead _
modifier_lead (modifier.JvmField at) z l = at_lead _
modifier_lead (modifier.Synchronized at) z l = at_lead _
modifier_lead (modifier.Volatile at) z l = at_lead _
modifier_lead modifier.Private z l = word_lead o.Private z (private_leads (set_ahead (L gap.Plain z)) (stands is_less (L gap.Plain z)) (arguments_ahead (L gap.Plain z)) (stands is_at (L gap.Plain z)) (lead_set z l) (lead_less z l gap.Plain)) (lead_named z l gap.Plain)
modifier_lead modifier.Abstract z l = word_lead o.Abstract z (modifier_leads (stands is_less (L gap.Plain z)) (arguments_ahead (L gap.Plain z)) (stands is_at (L gap.Plain z)) (lead_less z l gap.Plain)) (lead_named z l gap.Plain)
modifier_lead modifier.Open z l = word_lead o.Open z (modifier_leads (stands is_less (L gap.Plain z)) (arguments_ahead (L gap.Plain z)) (stands is_at (L gap.Plain z)) (lead_less z l gap.Plain)) (lead_named z l gap.Plain)
modifier_lead modifier.Override z l = word_lead o.Override z (modifier_leads (stands is_less (L gap.Plain z)) (arguments_ahead (L gap.Plain z)) (stands is_at (L gap.Plain z)) (lead_less z l gap.Plain)) (lead_named z l gap.Plain)
modifier_lead modifier.Const z l = word_lead o.Const z (modifier_leads (stands is_less (L gap.Plain z)) (arguments_ahead (L gap.Plain z)) (stands is_at (L gap.Plain z)) (lead_less z l gap.Plain)) (lead_named z l gap.Plain)

abbrev modifier_made : KModifierKind → KModifier
modifier_made x = record { kind = unplaced_modifier_kind x; at = made }

modifier_read : (x : KModifierKind) (xs : List KModifier) (s : Symbols) (b : Built) (z : Roles) (new : Built) → Lead z
    → Der (y.Form f.Modifiers ∷ s) (mods (xs ++ modifier_made x ∷ []) b) (L gap.Plain z) new → Der (y.Form f.Modifiers ∷ s) (mods xs b) (L gap.Plain (glyphs_of x ++ z)) new
unfolding written takes letters tokens accepts taken mark_kind kind_of_word named
modifier_read (modifier.JvmStatic at) xs s b z new l h = way w.ModifiersAt (take refl (take_blank (lead_solid z l) (annotation_takes (stands is_less (L gap.Plain z)) (arguments_ahead (L gap.Plain z)) (stands is_at (L gap.Plain z)) o.JvmStatic (place (mods xs b)) (L gap.Plain z) (lead_less z l gap.Plain)) (act (acts_AddAnnotation xs (q.Word o.JvmStatic) (modifier.JvmStatic made) b refl) h)))
modifier_read (modifier.JvmField at) xs s b z new l h = way w.ModifiersAt (take refl (take_blank (lead_solid z l) (annotation_takes (stands is_less (L gap.Plain z)) (arguments_ahead (L gap.Plain z)) (stands is_at (L gap.Plain z)) o.JvmField (place (mods xs b)) (L gap.Plain z) (lead_less z l gap.Plain)) (act (acts_AddAnnotation xs (q.Word o.JvmField) (modifier.JvmField made) b refl) h)))
modifier_read (modifier.Synchronized at) xs s b z new l h = way w.ModifiersAt (take refl (take_blank (lead_solid z l) (annotation_takes (stands is_less (L gap.Plain z)) (arguments_ahead (L gap.Plain z)) (stands is_at (L gap.Plain z)) o.SynchronizedMethod (place (mods xs b)) (L gap.Plain z) (lead_less z l gap.Plain)) (act (acts_AddAnnotation xs (q.Word o.SynchronizedMethod) (modifier.Synchronized made) b refl) h)))
modifier_read (modifier.Volatile at) xs s b z new l h = way w.ModifiersAt (take refl (take_blank (lead_solid z l) (annotation_takes (stands is_less (L gap.Plain z)) (arguments_ahead (L gap.Plain z)) (stands is_at (L gap.Plain z)) o.Volatile (place (mods xs b)) (L gap.Plain z) (lead_less z l gap.Plain)) (act (acts_AddAnnotation xs (q.Word o.Volatile) (modifier.Volatile made) b refl) h)))
modifier_read modifier.Private xs s b z new l h = way w.ModifiersWord (take_blank (lead_solid z l) (private_by (set_ahead (L gap.Plain z)) (stands is_less (L gap.Plain z)) (arguments_ahead (L gap.Plain z)) (stands is_at (L gap.Plain z)) (mods xs b) (L gap.Plain z) (lead_set z l) (lead_less z l gap.Plain)) (act (acts_AddModifier xs (q.Word o.Private) modifier.Private b refl) h))
modifier_read modifier.Abstract xs s b z new l h = way w.ModifiersWord (take_blank (lead_solid z l) (word_by (stands is_less (L gap.Plain z)) (arguments_ahead (L gap.Plain z)) (stands is_at (L gap.Plain z)) o.Abstract (mods xs b) (L gap.Plain z) (lead_less z l gap.Plain)) (act (acts_AddModifier xs (q.Word o.Abstract) modifier.Abstract b refl) h))
modifier_read modifier.Open xs s b z new l h = way w.ModifiersWord (take_blank (lead_solid z l) (word_by (stands is_less (L gap.Plain z)) (arguments_ahead (L gap.Plain z)) (stands is_at (L gap.Plain z)) o.Open (mods xs b) (L gap.Plain z) (lead_less z l gap.Plain)) (act (acts_AddModifier xs (q.Word o.Open) modifier.Open b refl) h))
modifier_read modifier.Override xs s b z new l h = way w.ModifiersWord (take_blank (lead_solid z l) (word_by (stands is_less (L gap.Plain z)) (arguments_ahead (L gap.Plain z)) (stands is_at (L gap.Plain z)) o.Override (mods xs b) (L gap.Plain z) (lead_less z l gap.Plain)) (act (acts_AddModifier xs (q.Word o.Override) modifier.Override b refl) h))
modifier_read modifier.Const xs s b z new l h = way w.ModifiersWord (take_blank (lead_solid z l) (word_by (stands is_less (L gap.Plain z)) (arguments_ahead (L gap.Plain z)) (stands is_at (L gap.Plain z)) o.Const (mods xs b) (L gap.Plain z) (lead_less z l gap.Plain)) (act (acts_AddModifier xs (q.Word o.Const) modifier.Const b refl) h))

-- ---- the modifiers of a rank

if_lead : (b : Bool) (x : KModifierKind) (z : Roles) → Lead z → Lead ((if b then glyphs_of x else []) ++ z)
if_lead true x z l = modifier_lead x z l
if_lead false x z l = l

ranked_lead : (xs : List KModifier) (r : ℕ) (z : Roles) → Lead z → Lead (ranked xs r ++ z)
ranked_lead [] r z l = l
ranked_lead (x ∷ xs) r z l = subst Lead (sym (append_assoc (if_ranked r x) (ranked xs r) z)) (if_lead (nat_eq (rank x.kind) r) x.kind (ranked xs r ++ z) (ranked_lead xs r z l))

if_read : (c : Bool) (x : KModifier) (xs : List KModifier) (s : Symbols) (b : Built) (z : Roles) (new : Built) → Lead z
    → Der (y.Form f.Modifiers ∷ s) (mods (xs ++ (if c then unplaced_modifier x ∷ [] else [])) b) (L gap.Plain z) new → Der (y.Form f.Modifiers ∷ s) (mods xs b) (L gap.Plain ((if c then glyphs_of x.kind else []) ++ z)) new
if_read true x xs s b z new l h = modifier_read x.kind xs s b z new l h
if_read false x xs s b z new l h = subst (λ u. Der (y.Form f.Modifiers ∷ s) (mods u b) (L gap.Plain z) new) (append-nil xs) h

ranked_read : (ms : List KModifier) (r : ℕ) (xs : List KModifier) (s : Symbols) (b : Built) (z : Roles) (new : Built) → Lead z
    → Der (y.Form f.Modifiers ∷ s) (mods (xs ++ modifiers_at ms r) b) (L gap.Plain z) new → Der (y.Form f.Modifiers ∷ s) (mods xs b) (L gap.Plain (ranked ms r ++ z)) new
ranked_read [] r xs s b z new l h = subst (λ u. Der (y.Form f.Modifiers ∷ s) (mods u b) (L gap.Plain z) new) (append-nil xs) h
ranked_read (x ∷ ms) r xs s b z new l h =
    rw (append_assoc (if_ranked r x) (ranked ms r) z)
    (if_read (nat_eq (rank x.kind) r) x xs s b (ranked ms r ++ z) new (ranked_lead ms r z l)
    (ranked_read ms r (xs ++ modifier_at r x) s b z new l
    (subst (λ u. Der (y.Form f.Modifiers ∷ s) (mods u b) (L gap.Plain z) new) (sym (append_assoc xs (modifier_at r x) (modifiers_at ms r))) h)))

-- ---- all modifiers, in their order

pub modifiers_apart : (ms : List KModifier) (z : Roles) → (modifiers_roles ms ++ z) ≡ (ranked ms 0 ++ (ranked ms 1 ++ (ranked ms 2 ++ (ranked ms 3 ++ (ranked ms 4 ++ (ranked ms 5 ++ (ranked ms 6 ++ (ranked ms 7 ++ (ranked ms 8 ++ z)))))))))
modifiers_apart ms z =
    append_assoc (((((((ranked ms 0 ++ ranked ms 1) ++ ranked ms 2) ++ ranked ms 3) ++ ranked ms 4) ++ ranked ms 5) ++ ranked ms 6) ++ ranked ms 7) (ranked ms 8) z
    ∙ append_assoc ((((((ranked ms 0 ++ ranked ms 1) ++ ranked ms 2) ++ ranked ms 3) ++ ranked ms 4) ++ ranked ms 5) ++ ranked ms 6) (ranked ms 7) (ranked ms 8 ++ z)
    ∙ append_assoc (((((ranked ms 0 ++ ranked ms 1) ++ ranked ms 2) ++ ranked ms 3) ++ ranked ms 4) ++ ranked ms 5) (ranked ms 6) (ranked ms 7 ++ (ranked ms 8 ++ z))
    ∙ append_assoc ((((ranked ms 0 ++ ranked ms 1) ++ ranked ms 2) ++ ranked ms 3) ++ ranked ms 4) (ranked ms 5) (ranked ms 6 ++ (ranked ms 7 ++ (ranked ms 8 ++ z)))
    ∙ append_assoc (((ranked ms 0 ++ ranked ms 1) ++ ranked ms 2) ++ ranked ms 3) (ranked ms 4) (ranked ms 5 ++ (ranked ms 6 ++ (ranked ms 7 ++ (ranked ms 8 ++ z))))
    ∙ append_assoc ((ranked ms 0 ++ ranked ms 1) ++ ranked ms 2) (ranked ms 3) (ranked ms 4 ++ (ranked ms 5 ++ (ranked ms 6 ++ (ranked ms 7 ++ (ranked ms 8 ++ z)))))
    ∙ append_assoc (ranked ms 0 ++ ranked ms 1) (ranked ms 2) (ranked ms 3 ++ (ranked ms 4 ++ (ranked ms 5 ++ (ranked ms 6 ++ (ranked ms 7 ++ (ranked ms 8 ++ z))))))
    ∙ append_assoc (ranked ms 0) (ranked ms 1) (ranked ms 2 ++ (ranked ms 3 ++ (ranked ms 4 ++ (ranked ms 5 ++ (ranked ms 6 ++ (ranked ms 7 ++ (ranked ms 8 ++ z)))))))

pub modifiers_lead : (ms : List KModifier) (z : Roles) → Lead z → Lead (modifiers_roles ms ++ z)
modifiers_lead ms z l = subst Lead (sym (modifiers_apart ms z)) (ranked_lead ms 0 (ranked ms 1 ++ (ranked ms 2 ++ (ranked ms 3 ++ (ranked ms 4 ++ (ranked ms 5 ++ (ranked ms 6 ++ (ranked ms 7 ++ (ranked ms 8 ++ z)))))))) (ranked_lead ms 1 (ranked ms 2 ++ (ranked ms 3 ++ (ranked ms 4 ++ (ranked ms 5 ++ (ranked ms 6 ++ (ranked ms 7 ++ (ranked ms 8 ++ z))))))) (ranked_lead ms 2 (ranked ms 3 ++ (ranked ms 4 ++ (ranked ms 5 ++ (ranked ms 6 ++ (ranked ms 7 ++ (ranked ms 8 ++ z)))))) (ranked_lead ms 3 (ranked ms 4 ++ (ranked ms 5 ++ (ranked ms 6 ++ (ranked ms 7 ++ (ranked ms 8 ++ z))))) (ranked_lead ms 4 (ranked ms 5 ++ (ranked ms 6 ++ (ranked ms 7 ++ (ranked ms 8 ++ z)))) (ranked_lead ms 5 (ranked ms 6 ++ (ranked ms 7 ++ (ranked ms 8 ++ z))) (ranked_lead ms 6 (ranked ms 7 ++ (ranked ms 8 ++ z)) (ranked_lead ms 7 (ranked ms 8 ++ z) (ranked_lead ms 8 z l)))))))))

pub modifiers_read : (ms : List KModifier) (s : Symbols) (b : Built) (z : Roles) (new : Built) → Lead z → Der s (mods (modifiers_tree ms) b) (L gap.Plain z) new → Der (y.Form f.Modifiers ∷ s) (mods [] b) (L gap.Plain (modifiers_roles ms ++ z)) new
unfolding written
modifiers_read ms s b z new l h = subst (λ u. Der (y.Form f.Modifiers ∷ s) (mods [] b) (L gap.Plain u) new) (sym (modifiers_apart ms z))
    (ranked_read ms 0 [] s b (ranked ms 1 ++ (ranked ms 2 ++ (ranked ms 3 ++ (ranked ms 4 ++ (ranked ms 5 ++ (ranked ms 6 ++ (ranked ms 7 ++ (ranked ms 8 ++ z)))))))) new (ranked_lead ms 1 (ranked ms 2 ++ (ranked ms 3 ++ (ranked ms 4 ++ (ranked ms 5 ++ (ranked ms 6 ++ (ranked ms 7 ++ (ranked ms 8 ++ z))))))) (ranked_lead ms 2 (ranked ms 3 ++ (ranked ms 4 ++ (ranked ms 5 ++ (ranked ms 6 ++ (ranked ms 7 ++ (ranked ms 8 ++ z)))))) (ranked_lead ms 3 (ranked ms 4 ++ (ranked ms 5 ++ (ranked ms 6 ++ (ranked ms 7 ++ (ranked ms 8 ++ z))))) (ranked_lead ms 4 (ranked ms 5 ++ (ranked ms 6 ++ (ranked ms 7 ++ (ranked ms 8 ++ z)))) (ranked_lead ms 5 (ranked ms 6 ++ (ranked ms 7 ++ (ranked ms 8 ++ z))) (ranked_lead ms 6 (ranked ms 7 ++ (ranked ms 8 ++ z)) (ranked_lead ms 7 (ranked ms 8 ++ z) (ranked_lead ms 8 z l))))))))
    (ranked_read ms 1 (modifiers_at ms 0) s b (ranked ms 2 ++ (ranked ms 3 ++ (ranked ms 4 ++ (ranked ms 5 ++ (ranked ms 6 ++ (ranked ms 7 ++ (ranked ms 8 ++ z))))))) new (ranked_lead ms 2 (ranked ms 3 ++ (ranked ms 4 ++ (ranked ms 5 ++ (ranked ms 6 ++ (ranked ms 7 ++ (ranked ms 8 ++ z)))))) (ranked_lead ms 3 (ranked ms 4 ++ (ranked ms 5 ++ (ranked ms 6 ++ (ranked ms 7 ++ (ranked ms 8 ++ z))))) (ranked_lead ms 4 (ranked ms 5 ++ (ranked ms 6 ++ (ranked ms 7 ++ (ranked ms 8 ++ z)))) (ranked_lead ms 5 (ranked ms 6 ++ (ranked ms 7 ++ (ranked ms 8 ++ z))) (ranked_lead ms 6 (ranked ms 7 ++ (ranked ms 8 ++ z)) (ranked_lead ms 7 (ranked ms 8 ++ z) (ranked_lead ms 8 z l)))))))
    (ranked_read ms 2 (modifiers_at ms 0 ++ modifiers_at ms 1) s b (ranked ms 3 ++ (ranked ms 4 ++ (ranked ms 5 ++ (ranked ms 6 ++ (ranked ms 7 ++ (ranked ms 8 ++ z)))))) new (ranked_lead ms 3 (ranked ms 4 ++ (ranked ms 5 ++ (ranked ms 6 ++ (ranked ms 7 ++ (ranked ms 8 ++ z))))) (ranked_lead ms 4 (ranked ms 5 ++ (ranked ms 6 ++ (ranked ms 7 ++ (ranked ms 8 ++ z)))) (ranked_lead ms 5 (ranked ms 6 ++ (ranked ms 7 ++ (ranked ms 8 ++ z))) (ranked_lead ms 6 (ranked ms 7 ++ (ranked ms 8 ++ z)) (ranked_lead ms 7 (ranked ms 8 ++ z) (ranked_lead ms 8 z l))))))
    (ranked_read ms 3 ((modifiers_at ms 0 ++ modifiers_at ms 1) ++ modifiers_at ms 2) s b (ranked ms 4 ++ (ranked ms 5 ++ (ranked ms 6 ++ (ranked ms 7 ++ (ranked ms 8 ++ z))))) new (ranked_lead ms 4 (ranked ms 5 ++ (ranked ms 6 ++ (ranked ms 7 ++ (ranked ms 8 ++ z)))) (ranked_lead ms 5 (ranked ms 6 ++ (ranked ms 7 ++ (ranked ms 8 ++ z))) (ranked_lead ms 6 (ranked ms 7 ++ (ranked ms 8 ++ z)) (ranked_lead ms 7 (ranked ms 8 ++ z) (ranked_lead ms 8 z l)))))
    (ranked_read ms 4 (((modifiers_at ms 0 ++ modifiers_at ms 1) ++ modifiers_at ms 2) ++ modifiers_at ms 3) s b (ranked ms 5 ++ (ranked ms 6 ++ (ranked ms 7 ++ (ranked ms 8 ++ z)))) new (ranked_lead ms 5 (ranked ms 6 ++ (ranked ms 7 ++ (ranked ms 8 ++ z))) (ranked_lead ms 6 (ranked ms 7 ++ (ranked ms 8 ++ z)) (ranked_lead ms 7 (ranked ms 8 ++ z) (ranked_lead ms 8 z l))))
    (ranked_read ms 5 ((((modifiers_at ms 0 ++ modifiers_at ms 1) ++ modifiers_at ms 2) ++ modifiers_at ms 3) ++ modifiers_at ms 4) s b (ranked ms 6 ++ (ranked ms 7 ++ (ranked ms 8 ++ z))) new (ranked_lead ms 6 (ranked ms 7 ++ (ranked ms 8 ++ z)) (ranked_lead ms 7 (ranked ms 8 ++ z) (ranked_lead ms 8 z l)))
    (ranked_read ms 6 (((((modifiers_at ms 0 ++ modifiers_at ms 1) ++ modifiers_at ms 2) ++ modifiers_at ms 3) ++ modifiers_at ms 4) ++ modifiers_at ms 5) s b (ranked ms 7 ++ (ranked ms 8 ++ z)) new (ranked_lead ms 7 (ranked ms 8 ++ z) (ranked_lead ms 8 z l))
    (ranked_read ms 7 ((((((modifiers_at ms 0 ++ modifiers_at ms 1) ++ modifiers_at ms 2) ++ modifiers_at ms 3) ++ modifiers_at ms 4) ++ modifiers_at ms 5) ++ modifiers_at ms 6) s b (ranked ms 8 ++ z) new (ranked_lead ms 8 z l)
    (ranked_read ms 8 (((((((modifiers_at ms 0 ++ modifiers_at ms 1) ++ modifiers_at ms 2) ++ modifiers_at ms 3) ++ modifiers_at ms 4) ++ modifiers_at ms 5) ++ modifiers_at ms 6) ++ modifiers_at ms 7) s b z new l
    (way w.ModifiersEnd h))))))))))
