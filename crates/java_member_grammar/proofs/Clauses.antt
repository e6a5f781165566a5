-- What heads are made of: what is read is spelled so, and what is spelled so is read.
use Rattle.std.proofs.Common.{◌≡◌, ◌≤◌, ℕ, zero, suc, Bool, true, false, ◌++◌, List, [], ◌∷◌, length, map, Option, Some, None, inl, inr, refl, ap, sym, ◌∙◌, subst, append_assoc, arith}
use Rattle.std.specs.List.{AllByRecursion}
use Rattle.std.proofs.lemmas.List.{append-nil}
use Rattle.java_tree.specs.declared.tokens.Position.{Position}
use Rattle.java_tree.specs.declared.tokens.Mark.TheVariants as m
use Rattle.java_tree.specs.declared.tokens.Keyword.{Keyword}
use Rattle.java_tree.specs.declared.tokens.Keyword.TheVariants as w
use Rattle.java_tree.specs.Seen.{Token, Tokens}
use Rattle.java_tree.specs.declared.types.JType.{JType}
use Rattle.java_tree.specs.declared.exprs.JTypedParam.{JTypedParam}
use Rattle.java_tree.specs.Trees.{listed, AreBetween, closing, param_tokens, typed_tokens, type_tokens, TypeStands, TypedStands}
use Rattle.java_expr_grammar.specs.Reading as r
use Rattle.java_expr_grammar.specs.Reading.{Reader, Listed, ◌>>=◌, maybe}
use Rattle.java_expr_grammar.proofs.LawsToCite.{bind_some, maybe_is, some_same, type_sound, type_again, typed_sound, typed_again, ident_only, closes_only, closes_again, EndsType, begins_less, Named, names, longer, typed_named, close_only}
use Rattle.java_expr_grammar.proofs.LawsToCite.Lists as lists
use Rattle.java_member_grammar.specs.declared.parts.JBound.{JBound}
use Rattle.java_member_grammar.specs.declared.parts.JTypeParam.{JTypeParam}
use Rattle.java_member_grammar.specs.declared.parts.JTypeParams.{JTypeParams}
use Rattle.java_member_grammar.specs.declared.parts.JFormals.{JFormals}
use Rattle.java_member_grammar.specs.declared.parts.JTypeList.{JTypeList}
use Rattle.java_member_grammar.specs.Heads.{bound_tokens, type_param_tokens, type_params_tokens, formals_tokens, list_tokens, bound_stands, TypeParamStands, type_params_stand, formals_stand, list_stands}
use Rattle.java_member_grammar.specs.Reading.{bound, type_param, type_params_of, type_params, formals, types_behind, throws, implements, extends_list}

-- ---- what is read is spelled so

pub bound_sound : (d : ℕ) (ts : Tokens) (x : Option JBound × Tokens) → bound d ts ≡ Some x → (ts ≡ bound_tokens x.0 ++ x.1) × bound_stands d x.0
bound_sound d (Token.Word w.Extends at ∷ rest) x e =
    let a = bind_some (r.type_read d rest) _ _ e in
    let i = type_sound d rest a.0 a.1 in
    let P : Option JBound × Tokens → Type 0 = λ x. (Token.Word w.Extends at ∷ rest ≡ bound_tokens x.0 ++ x.1) × bound_stands d x.0 in
    subst P (some_same a.2) (ap (λ r. Token.Word w.Extends at ∷ r) i.0, i.1)
bound_sound d ts x e = let P : Option JBound × Tokens → Type 0 = λ x. (ts ≡ bound_tokens x.0 ++ x.1) × bound_stands d x.0 in subst P (some_same e) (refl, tt)

type_param_sound : (d : ℕ) (ts : Tokens) (x : JTypeParam × Tokens) → type_param d ts ≡ Some x → (ts ≡ type_param_tokens x.0 ++ x.1) × TypeParamStands d x.0
unfolding type_param TypeParamStands
type_param_sound zero ts x e = absurd (cc e)
type_param_sound (suc d) ts x e =
    let n = bind_some (r.ident ts) _ _ e in
    let b = bind_some (bound d n.0.1) _ _ n.2 in
    let i = bound_sound d n.0.1 b.0 b.1 in
    let P : JTypeParam × Tokens → Type 0 = λ x. (ts ≡ type_param_tokens x.0 ++ x.1) × TypeParamStands (suc d) x.0 in
    subst P (some_same b.2) (ident_only ts n.0 n.1 ∙ ap (λ r. param_tokens n.0.0 ++ r) i.0, i.1)

-- behind the `<`
params_of_sound : (d : ℕ) (lt : Position) (ts : Tokens) (x : JTypeParams × Tokens) → type_params_of d lt ts ≡ Some x
    → (Token.Sign m.Less lt ∷ ts ≡ type_params_tokens (Some x.0) ++ x.1) × type_params_stand d (Some x.0)
unfolding type_params_of
params_of_sound d lt ts x e =
    let a = bind_some (r.some_by r.comma (type_param d) ts) _ _ e in
    let c = bind_some (r.closes a.0.1) _ _ a.2 in
    let all = lists.some_sound JTypeParam (type_param d) type_param_tokens (TypeParamStands d) (type_param_sound d) ts a.0 a.1 in
    let items : Tokens = listed a.0.0.1 (map type_param_tokens a.0.0.0) in
    let P : JTypeParams × Tokens → Type 0 = λ x. (Token.Sign m.Less lt ∷ ts ≡ type_params_tokens (Some x.0) ++ x.1) × type_params_stand d (Some x.0) in
    subst P (some_same c.2) (
      ap (λ r. Token.Sign m.Less lt ∷ r)
          (all.same ∙ ap (λ r. items ++ r) (closes_only a.0.1 c.0 c.1) ∙ sym (append_assoc items (Token.Sign (closing c.0.0.0) c.0.0.1 ∷ []) c.0.1)),
      (all.full, all.between, all.all),
    )

pub type_params_sound : (d : ℕ) (ts : Tokens) (x : Option JTypeParams × Tokens) → type_params d ts ≡ Some x → (ts ≡ type_params_tokens x.0 ++ x.1) × type_params_stand d x.0
type_params_sound d (Token.Sign m.Less lt ∷ rest) x e =
    let a = bind_some (type_params_of d lt rest) _ _ e in
    let P : Option JTypeParams × Tokens → Type 0 = λ x. (Token.Sign m.Less lt ∷ rest ≡ type_params_tokens x.0 ++ x.1) × type_params_stand d x.0 in
    subst P (some_same a.2) (params_of_sound d lt rest a.0 a.1)
type_params_sound d ts x e =
    let P : Option JTypeParams × Tokens → Type 0 = λ x. (ts ≡ type_params_tokens x.0 ++ x.1) × type_params_stand d x.0 in
    subst P (some_same e) (refl, tt)

open_only : (ts : Tokens) (c : Position × Tokens) → r.open_round ts ≡ Some c → ts ≡ Token.Sign m.OpenRound c.0 ∷ c.1
open_only (Token.Sign m.OpenRound at ∷ rest) c e = let same : (at, rest) ≡ c = some_same e in ap (λ (x : Position × Tokens). Token.Sign m.OpenRound x.0 ∷ x.1) same
open_only _ c e = absurd (cc e)

abbrev typed_from : ℕ → Reader (Listed JTypedParam)
typed_from d = r.typed_from (r.type_read d) (r.base_read (suc d)) (r.typed_read d) (r.read d)

typed_from_sound : (d : ℕ) (ts : Tokens) (x : Listed JTypedParam × Tokens) → typed_from d ts ≡ Some x
    → (ts ≡ listed x.0.1 (map typed_tokens x.0.0) ++ x.1) × AreBetween x.0.1 x.0.0 × AllByRecursion (TypedStands d) x.0.0
unfolding r.typed_from
typed_from_sound d ts x e =
    let P : Listed JTypedParam × Tokens → Type 0 = λ x. (ts ≡ listed x.0.1 (map typed_tokens x.0.0) ++ x.1) × AreBetween x.0.1 x.0.0 × AllByRecursion (TypedStands d) x.0.0 in
    elim (maybe_is (r.close ts) _ _ _ e) [
      | inl a ↦ (let all = lists.some_sound JTypedParam (r.typed_read d) typed_tokens (TypedStands d) (typed_sound d) ts x a.1 in (all.same, all.between, all.all))
      | inr a ↦ subst P (some_same a.2) (refl, refl, tt)
    ]

pub formals_sound : (d : ℕ) (ts : Tokens) (x : JFormals × Tokens) → formals d ts ≡ Some x → (ts ≡ formals_tokens x.0 ++ x.1) × formals_stand d x.0
unfolding formals
formals_sound d ts x e =
    let o = bind_some (r.open_round ts) _ _ e in
    let a = bind_some (typed_from d o.0.1) _ _ o.2 in
    let c = bind_some (r.close a.0.1) _ _ a.2 in
    let i = typed_from_sound d o.0.1 a.0 a.1 in
    let items : Tokens = listed a.0.0.1 (map typed_tokens a.0.0.0) in
    let P : JFormals × Tokens → Type 0 = λ x. (ts ≡ formals_tokens x.0 ++ x.1) × formals_stand d x.0 in
    subst P (some_same c.2) (
      open_only ts o.0 o.1
          ∙ ap (λ r. Token.Sign m.OpenRound o.0.0 ∷ r) (i.0 ∙ ap (λ r. items ++ r) (close_only a.0.1 c.0 c.1) ∙ sym (append_assoc items (Token.Sign m.CloseRound c.0.0 ∷ []) c.0.1)),
      (i.1, i.2),
    )

-- behind the word
behind_sound : (d : ℕ) (word : Keyword) (at : Position) (ts : Tokens) (x : Option JTypeList × Tokens) → (types_behind d at ts >>= λ x. Some (Some x.0, x.1)) ≡ Some x
    → (Token.Word word at ∷ ts ≡ list_tokens word x.0 ++ x.1) × list_stands d x.0
unfolding types_behind
behind_sound d word at ts x e =
    let a = bind_some (types_behind d at ts) _ _ e in
    let b = bind_some (r.some_by r.comma (r.type_read d) ts) _ _ a.1 in
    let all = lists.some_sound JType (r.type_read d) type_tokens (TypeStands d) (type_sound d) ts b.0 b.1 in
    let P : Option JTypeList × Tokens → Type 0 = λ x. (Token.Word word at ∷ ts ≡ list_tokens word x.0 ++ x.1) × list_stands d x.0 in
    let Q : JTypeList × Tokens → Type 0 = λ x. P (Some x.0, x.1) in
    subst P (some_same a.2) (subst Q (some_same b.2) (ap (λ r. Token.Word word at ∷ r) all.same, (all.full, all.between, all.all)))

pub throws_sound : (d : ℕ) (ts : Tokens) (x : Option JTypeList × Tokens) → throws d ts ≡ Some x → (ts ≡ list_tokens w.Throws x.0 ++ x.1) × list_stands d x.0
throws_sound d (Token.Word w.Throws at ∷ rest) x e = behind_sound d w.Throws at rest x e
throws_sound d ts x e = let P : Option JTypeList × Tokens → Type 0 = λ x. (ts ≡ list_tokens w.Throws x.0 ++ x.1) × list_stands d x.0 in subst P (some_same e) (refl, tt)

pub implements_sound : (d : ℕ) (ts : Tokens) (x : Option JTypeList × Tokens) → implements d ts ≡ Some x → (ts ≡ list_tokens w.Implements x.0 ++ x.1) × list_stands d x.0
implements_sound d (Token.Word w.Implements at ∷ rest) x e = behind_sound d w.Implements at rest x e
implements_sound d ts x e = let P : Option JTypeList × Tokens → Type 0 = λ x. (ts ≡ list_tokens w.Implements x.0 ++ x.1) × list_stands d x.0 in subst P (some_same e) (refl, tt)

pub extends_sound : (d : ℕ) (ts : Tokens) (x : Option JTypeList × Tokens) → extends_list d ts ≡ Some x → (ts ≡ list_tokens w.Extends x.0 ++ x.1) × list_stands d x.0
extends_sound d (Token.Word w.Extends at ∷ rest) x e = behind_sound d w.Extends at rest x e
extends_sound d ts x e = let P : Option JTypeList × Tokens → Type 0 = λ x. (ts ≡ list_tokens w.Extends x.0 ++ x.1) × list_stands d x.0 in subst P (some_same e) (refl, tt)

-- ---- what is spelled so is read

abbrev pub begins_extends : Tokens → Bool
begins_extends (Token.Word w.Extends at ∷ rest) = true
begins_extends _ = false

-- nothing that goes on with a type, or with a bound that isn't there
abbrev pub EndsBound : Tokens → Type 0
EndsBound ts = EndsType ts × (begins_extends ts ≡ false)

no_bound : (d : ℕ) (ts : Tokens) → begins_extends ts ≡ false → bound d ts ≡ Some (None, ts)
no_bound d (Token.Word w.Extends at ∷ rest) h = absurd (cc h)
no_bound d _ h = refl

pub bound_again : (d : ℕ) (x : Option JBound) → bound_stands d x → (rest : Tokens) → EndsBound rest → bound d (bound_tokens x ++ rest) ≡ Some (x, rest)
bound_again d None s rest q = no_bound d rest q.1
bound_again d (Some x) s rest q = rw (type_again d x.kind s rest q.0) refl

type_param_again : (d : ℕ) (x : JTypeParam) → TypeParamStands d x → (rest : Tokens) → EndsBound rest → type_param d (type_param_tokens x ++ rest) ≡ Some (x, rest)
unfolding type_param TypeParamStands
type_param_again zero x s rest q = absurd s
type_param_again (suc d) x s rest q = rw (bound_again d x.bound s rest q) refl

closing_ends : (is_joined : Bool) (at : Position) (rest : Tokens) → EndsBound (Token.Sign (closing is_joined) at ∷ rest)
closing_ends true at rest = ((refl, refl, refl), refl)
closing_ends false at rest = ((refl, refl, refl), refl)

closing_no_comma : (is_joined : Bool) (at : Position) (rest : Tokens) → r.comma (Token.Sign (closing is_joined) at ∷ rest) ≡ None
closing_no_comma true at rest = refl
closing_no_comma false at rest = refl

params_again : (d : ℕ) (xs : List JTypeParam) (commas : List Position) (is_joined : Bool) (at : Position) (rest : Tokens) → 1 ≤ length xs → AreBetween commas xs → AllByRecursion (TypeParamStands d) xs
    → r.some_by r.comma (type_param d) (listed commas (map type_param_tokens xs) ++ Token.Sign (closing is_joined) at ∷ rest) ≡ Some ((xs, commas), Token.Sign (closing is_joined) at ∷ rest)
params_again d [] commas is_joined at rest some b all = absurd (omega (arith, some))
params_again d (x ∷ xs) commas is_joined at rest some b all =
    lists.some_again JTypeParam (type_param d) type_param_tokens (TypeParamStands d) EndsBound (λ at rest. ((refl, refl, refl), refl)) (type_param_again d)
    x xs commas (Token.Sign (closing is_joined) at ∷ rest) b all (closing_ends is_joined at rest) (closing_no_comma is_joined at rest)

params_of_again : (d : ℕ) (x : JTypeParams) → type_params_stand d (Some x) → (rest : Tokens)
    → type_params_of d x.opens (listed x.commas (map type_param_tokens x.items) ++ Token.Sign (closing x.is_joined) x.closes ∷ rest) ≡ Some (x, rest)
unfolding type_params_of
params_of_again d x s rest = rw (params_again d x.items x.commas x.is_joined x.closes rest s.0 s.1 s.2, closes_again x.is_joined x.closes rest) refl

no_params : (d : ℕ) (ts : Tokens) → begins_less ts ≡ false → type_params d ts ≡ Some (None, ts)
no_params d (Token.Sign m.Less lt ∷ rest) h = absurd (cc h)
no_params d _ h = refl

pub type_params_again : (d : ℕ) (x : Option JTypeParams) → type_params_stand d x → (rest : Tokens) → begins_less rest ≡ false → type_params d (type_params_tokens x ++ rest) ≡ Some (x, rest)
type_params_again d None s rest q = no_params d rest q
type_params_again d (Some x) s rest q =
    rw (append_assoc (listed x.commas (map type_param_tokens x.items)) (Token.Sign (closing x.is_joined) x.closes ∷ []) rest, params_of_again d x s rest) refl

named_no_close : (ts : Tokens) → Named ts → r.close ts ≡ None
named_no_close ts f = rw f.is (no_close f.head f.tail f.names)
  where
    no_close : (x : Token) (ts : Tokens) → names x ≡ true → r.close (x ∷ ts) ≡ None
    no_close (Token.Sign m.CloseRound at) ts h = absurd (cc h)
    no_close _ ts h = refl

typed_from_again : (d : ℕ) (xs : List JTypedParam) (commas : List Position) (at : Position) (rest : Tokens) → AreBetween commas xs → AllByRecursion (TypedStands d) xs
    → typed_from d (listed commas (map typed_tokens xs) ++ Token.Sign m.CloseRound at ∷ rest) ≡ Some ((xs, commas), Token.Sign m.CloseRound at ∷ rest)
unfolding r.typed_from
typed_from_again d [] commas at rest b all = rw b refl
typed_from_again d (x ∷ xs) commas at rest b all =
    rw (named_no_close (listed commas (map typed_tokens (x ∷ xs)) ++ Token.Sign m.CloseRound at ∷ rest) (longer _ _ (longer _ _ (typed_named d x all.0))))
    (lists.some_again JTypedParam (r.typed_read d) typed_tokens (TypedStands d) (λ rest. Unit {0}) (λ at rest. tt) (λ x s rest q. typed_again d x s rest)
    x xs commas (Token.Sign m.CloseRound at ∷ rest) b all tt refl)

pub formals_again : (d : ℕ) (x : JFormals) → formals_stand d x → (rest : Tokens) → formals d (formals_tokens x ++ rest) ≡ Some (x, rest)
unfolding formals
formals_again d x s rest =
    rw (append_assoc (listed x.commas (map typed_tokens x.items)) (Token.Sign m.CloseRound x.closes ∷ []) rest, typed_from_again d x.items x.commas x.closes rest s.0 s.1) refl

-- Types behind a word are read up to the end.
types_again : (d : ℕ) (xs : List JType) (commas : List Position) → 1 ≤ length xs → AreBetween commas xs → AllByRecursion (TypeStands d) xs
    → r.some_by r.comma (r.type_read d) (listed commas (map type_tokens xs)) ≡ Some ((xs, commas), [])
types_again d [] commas some b all = absurd (omega (arith, some))
types_again d (x ∷ xs) commas some b all =
    ap (r.some_by r.comma (r.type_read d)) (sym (append-nil (listed commas (map type_tokens (x ∷ xs)))))
    ∙ lists.some_again JType (r.type_read d) type_tokens (TypeStands d) EndsType (λ at rest. (refl, refl, refl)) (type_again d) x xs commas [] b all (refl, refl, refl) refl

behind_again : (d : ℕ) (x : JTypeList) → list_stands d (Some x) → types_behind d x.at (listed x.commas (map type_tokens x.items)) ≡ Some (x, [])
unfolding types_behind
behind_again d x s = rw (types_again d x.items x.commas s.0 s.1 s.2) refl

pub throws_again : (d : ℕ) (x : Option JTypeList) → list_stands d x → throws d (list_tokens w.Throws x) ≡ Some (x, [])
throws_again d None s = refl
throws_again d (Some x) s = rw (behind_again d x s) refl

pub implements_again : (d : ℕ) (x : Option JTypeList) → list_stands d x → implements d (list_tokens w.Implements x) ≡ Some (x, [])
implements_again d None s = refl
implements_again d (Some x) s = rw (behind_again d x s) refl

pub extends_again : (d : ℕ) (x : Option JTypeList) → list_stands d x → extends_list d (list_tokens w.Extends x) ≡ Some (x, [])
extends_again d None s = refl
extends_again d (Some x) s = rw (behind_again d x s) refl
