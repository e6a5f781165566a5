-- Types: their tokens are derived, and passed where arguments of types are looked for.
use Rattle.std.proofs.Common.{◌≡◌, ℕ, suc, Bool, true, false, List, [], ◌∷◌, ◌++◌, map, Option, Some, None, refl, ap, sym, subst, ◌∙◌, append_assoc, ◌⊎◌, inl, inr}
use Rattle.std.proofs.lemmas.List.{append-nil}
use Rattle.std.specs.Prelude.{if◌then◌else◌, ◌&&◌, not, max, bytes_eq, codes}
use Rattle.grammar.specs.declared.symbols.Symbol.TheVariants as y
use Rattle.kotlin_tree.specs.declared.places.Position.{Position}
use Rattle.kotlin_tree.specs.declared.places.Brackets.{Brackets}
use Rattle.kotlin_tree.specs.declared.tokens.Gap.TheVariants as gap
use Rattle.kotlin_tree.specs.declared.tokens.Mark.TheVariants as m
use Rattle.kotlin_tree.specs.declared.types.KDotted.{KDotted}
use Rattle.kotlin_tree.specs.declared.types.KQualified.{KQualified}
use Rattle.kotlin_tree.specs.declared.types.KType.{KType, out-KType, roll-KType, map-KType, fold-roll-KType, out-roll-KType, ind-KType}
use Rattle.kotlin_tree.specs.declared.types.KType.TheOpen.{KType-F}
use Rattle.kotlin_tree.specs.declared.types.KType.TheVariants as ty
use Rattle.kotlin_tree.specs.UpToPlaces.{made, made_brackets, unplaced_qualified, unplaced_dotted}
use Rattle.kotlin_layout.specs.declared.glyphs.Glyph.TheVariants as g
use Rattle.kotlin_layout.specs.Roles.{Role, Roles, fixed, listed, more_roles, comma, joined}
use Rattle.kotlin_layout.specs.Shown.{dotted_roles, qualified_roles, if_there, in_angles, type_by, type_roles}
use Rattle.kotlin_grammar.specs.declared.letters.Kind.TheVariants as k
use Rattle.kotlin_grammar.specs.declared.letters.Term.TheVariants as t
use Rattle.kotlin_grammar.specs.declared.letters.Form.TheVariants as f
use Rattle.kotlin_grammar.specs.declared.letters.Way.TheVariants as w
use Rattle.kotlin_grammar.specs.declared.letters.Act.TheVariants as a
use Rattle.kotlin_grammar.specs.declared.built.Built.{Built}
use Rattle.kotlin_grammar.specs.declared.ahead.Spot.{Spot}
use Rattle.kotlin_grammar.specs.declared.ahead.Spot.TheVariants as at
use Rattle.kotlin_grammar.specs.declared.ahead.Step.TheVariants as st
use Rattle.kotlin_grammar.specs.Table.{Symbols, written, accepts}
use Rattle.kotlin_grammar.specs.Ahead.{letters, kind_of, mark_kind, stands, is_less, is_at, arguments_ahead, arguments_follow, names_follow, goes_on, opens}
use Rattle.kotlin_grammar.specs.Taking.{takes}
use Rattle.kotlin_grammar.specs.Meaning.{taken, asked, asked_by}
use Rattle.kotlin_canonical_text.specs.Tokens.{tokens, name_token}
use Rattle.kotlin_canonical_text.specs.Canonical.{Piece, fits, deepest, commas_behind, commas_of, is_some, roles_of, tree_of, depth_of, all_readable, last_behind, asked_if, type_piece_by, type_piece}
use Rattle.kotlin_canonical_text.proofs.Names.{L, name_made, name_ident, not_run, Calm, ident_type, ident_less, takes_type_name, takes_applied, before_less}
use Rattle.kotlin_canonical_text.proofs.Firsts.{Begins, Unnamed, begins_name, relaxed_plain, any_type, pass_name, unnamed_name}
use Rattle.kotlin_canonical_text.proofs.Steps.{Der, way, take, take_blank, act, Fits}
use Rattle.kotlin_canonical_text.proofs.Acts.{place, qual, kind, kinds, kinds_only, args, dotted, acts_Qualified, acts_AddDotted, acts_PlainType, acts_AppliedType, acts_Ask, acts_NoTypes, acts_AddType, acts_TypeArguments, acts_AddComma}

pub both : (a b : Bool) → (a && b) ≡ true → (a ≡ true) × (b ≡ true)
both true true h = (refl, refl)
both true false h = absurd (cc h)
both false b h = absurd (cc h)

pub not_true : (a : Bool) → not a ≡ true → a ≡ false
not_true true h = absurd (cc h)
not_true false h = refl

-- Neither `<` nor `@` stands behind a type.
abbrev pub Tight : Roles → Type 0
Tight r = (stands is_less (L gap.Plain r) ≡ false) × (stands is_at (L gap.Plain r) ≡ false)

abbrev pub is_open : Spot → Bool
is_open at.Type = false
is_open _ = true

-- Looking along a type ends at a spot behind it.
pub record Passed (xs : Roles) : Type 0 where
  pub spot : Spot
  pub is : is_open spot ≡ true
  pub pass : (n : ℕ) (r : Roles) → Tight r → arguments_follow at.Type n (L gap.Plain (xs ++ r)) ≡ arguments_follow spot n (L gap.Plain r)

-- What is shown of a type is read as it.
pub record TypeGood (x : Piece KType) : Type 0 where
  pub begins : Begins x.roles
  pub passed : x.readable ≡ true → Passed x.roles
  pub unnamed : Unnamed x.roles
  pub reads : x.readable ≡ true → (s : Symbols) (b : Built) (r : Roles) (new : Built) → Tight r → Der s (kind x.depth x.tree b) (L gap.Plain r) new
      → Der (y.Form f.Type ∷ s) b (L gap.Plain (x.roles ++ r)) new

-- ---- names with dots

abbrev pub path : List KDotted → Roles
path xs = joined (map dotted_roles xs)

pub tight_path : (xs : List KDotted) (r : Roles) → Tight r → Tight (path xs ++ r)
unfolding letters tokens mark_kind
tight_path [] r tight = tight
tight_path (x ∷ xs) r tight = (refl, refl)

calm_path : (n : List ℕ) (xs : List KDotted) (r : Roles) → bytes_eq (last_behind n xs) (codes "run") ≡ false → Calm (name_token n) (L gap.Plain (path xs ++ r))
unfolding letters tokens mark_kind
calm_path n [] r other = λ is. absurd (not_run n other is)
calm_path n (x ∷ xs) r other = λ is. refl

abbrev pub more_dots : KQualified → List KDotted → KQualified
more_dots q xs = record { first = q.first; rest = q.rest ++ map unplaced_dotted xs }

dots_plain : (xs : List KDotted) (q : KQualified) (n : List ℕ) (s : Symbols) (b : Built) (r : Roles) (new : Built) → bytes_eq (last_behind n xs) (codes "run") ≡ false → Tight r
    → Der s (kind 1 (ty.Plain (more_dots q xs) None false) b) (L gap.Plain r) new → Der (y.Form f.PathMore ∷ s) (qual q b) (L gap.Plain (path xs ++ r)) new
unfolding written takes letters tokens accepts taken mark_kind
dots_plain [] q n s b r new other tight h = way w.PathEnd (act (acts_PlainType q b)
    (subst (λ z. Der s (kind 1 (ty.Plain (record { first = q.first; rest = z }) None false) b) (L gap.Plain r) new) (append-nil q.rest) h))
dots_plain (x ∷ xs) q n s b r new other tight h = way w.PathDot (take_blank (relaxed_plain (Role.Name x.name.name ∷ []) (path xs ++ r) (begins_name x.name.name [] (path xs ++ r))) refl
    (way w.NextPlain (take (takes_type_name x.name.name (path xs ++ r) (place (qual q b)) (tight_path xs r tight).0 (tight_path xs r tight).1 (calm_path x.name.name xs r other))
    (act (acts_AddDotted q x.name.name b)
    (dots_plain xs (dotted q x.name.name) x.name.name s b r new other tight
    (subst (λ z. Der s (kind 1 (ty.Plain (record { first = q.first; rest = z }) None false) b) (L gap.Plain r) new) (sym (append_assoc q.rest (unplaced_dotted x ∷ []) (map unplaced_dotted xs))) h))))))

-- ---- a question mark behind a type

abbrev pub question_roles : Option Position → Roles
question_roles question = if_there question (g.Mark m.Question ∷ [])

tight_question : (question : Option Position) (r : Roles) → Tight r → Tight (question_roles question ++ r)
unfolding letters tokens mark_kind
tight_question None r tight = tight
tight_question (Some p) r tight = (refl, refl)

pub asked_plain : (q : KQualified) → asked made (ty.Plain q None false) ≡ ty.Plain q (Some made) false
unfolding asked
asked_plain q = ap (λ z. asked_by made (out-KType z)) (sym (ty.rolls-Plain q None false)) ∙ ap (asked_by made) (out-roll-KType (KType-F.Plain q None false))

pub asked_applied : (q : KQualified) (angles : Brackets) (xs : List KType) (cs : List Position) → asked made (ty.Applied q angles xs cs None) ≡ ty.Applied q angles xs cs (Some made)
unfolding asked
asked_applied q angles xs cs = ap (λ z. asked_by made (out-KType z)) (sym (ty.rolls-Applied q angles xs cs None)) ∙ ap (asked_by made) (out-roll-KType (KType-F.Applied q angles xs cs None))

nullable_plain : (question : Option Position) (q : KQualified) (s : Symbols) (b : Built) (r : Roles) (new : Built)
    → Der s (kind 1 (ty.Plain q (asked_if question) false) b) (L gap.Plain r) new → Der (y.Form f.Nullable ∷ s) (kind 1 (ty.Plain q None false) b) (L gap.Plain (question_roles question ++ r)) new
unfolding written takes letters tokens accepts taken mark_kind
nullable_plain None q s b r new h = way w.NullableNone h
nullable_plain (Some p) q s b r new h = way w.NullableSome (take refl (act (acts_Ask 1 (ty.Plain q None false) b ∙ ap (λ z. Some (kind 1 z b)) (asked_plain q)) h))

nullable_applied : (question : Option Position) (d : ℕ) (q : KQualified) (xs : List KType) (cs : List Position) (s : Symbols) (b : Built) (r : Roles) (new : Built)
    → Der s (kind d (ty.Applied q made_brackets xs cs (asked_if question)) b) (L gap.Plain r) new
    → Der (y.Form f.Nullable ∷ s) (kind d (ty.Applied q made_brackets xs cs None) b) (L gap.Plain (question_roles question ++ r)) new
unfolding written takes letters tokens accepts taken mark_kind
nullable_applied None d q xs cs s b r new h = way w.NullableNone h
nullable_applied (Some p) d q xs cs s b r new h =
    way w.NullableSome (take refl (act (acts_Ask d (ty.Applied q made_brackets xs cs None) b ∙ ap (λ z. Some (kind d z b)) (asked_applied q made_brackets xs cs)) h))

-- ---- plain types

plain_passes : (n : List ℕ) (xs : List KDotted) (i : ℕ) (r : Roles) → accepts t.AnyName (kind_of (name_token (last_behind n xs)) (L gap.Plain r)) ≡ true
    → arguments_follow at.Type i (L gap.Plain (Role.Name n ∷ (path xs ++ r))) ≡ arguments_follow at.Name i (L gap.Plain r)
unfolding letters tokens mark_kind arguments_follow
plain_passes n [] i r is = pass_name i n r is
plain_passes n (x ∷ xs) i r is =
    pass_name i n (path (x ∷ xs) ++ r) (any_type _ (ident_type (name_token n) (L gap.Plain (path (x ∷ xs) ++ r)) refl refl (name_ident n) (λ h. refl)))
    ∙ plain_passes x.name.name xs i r is

abbrev question_spot : Spot → Option Position → Spot
question_spot spot None = spot
question_spot spot (Some p) = at.Asked

open_question : (spot : Spot) (question : Option Position) → is_open spot ≡ true → is_open (question_spot spot question) ≡ true
open_question spot None is = is
open_question spot (Some p) is = refl

pass_question : (spot : Spot) (question : Option Position) (i : ℕ) (r : Roles) → spot ≡ at.Name ⊎ spot ≡ at.Closed
    → arguments_follow spot i (L gap.Plain (question_roles question ++ r)) ≡ arguments_follow (question_spot spot question) i (L gap.Plain r)
unfolding letters tokens mark_kind arguments_follow
pass_question spot None i r is = refl
pass_question at.Name (Some p) i r is = refl
pass_question at.Closed (Some p) i r is = refl
pass_question at.Type (Some p) i r (inl is) = absurd (cc is)
pass_question at.Type (Some p) i r (inr is) = absurd (cc is)
pass_question at.Asked (Some p) i r (inl is) = absurd (cc is)
pass_question at.Asked (Some p) i r (inr is) = absurd (cc is)

unnamed_path : (xs : List KDotted) (question : Option Position) (r : Roles) → names_follow true (L gap.Plain r) ≡ false → names_follow true (L gap.Plain (path xs ++ (question_roles question ++ r))) ≡ false
unfolding letters tokens mark_kind names_follow
unnamed_path [] None r h = h
unnamed_path [] (Some p) r h = refl
unnamed_path (x ∷ xs) question r h = refl

plain_reads : (x : KQualified) (question : Option Position) (s : Symbols) (b : Built) (r : Roles) (new : Built) → bytes_eq (last_behind x.first.name x.rest) (codes "run") ≡ false → Tight r
    → Der s (kind 1 (ty.Plain (unplaced_qualified x) (asked_if question) false) b) (L gap.Plain r) new
    → Der (y.Form f.Type ∷ s) b (L gap.Plain (Role.Name x.first.name ∷ ((path x.rest ++ question_roles question) ++ r))) new
unfolding written
plain_reads x question s b r new calm tight h =
    let r2 = question_roles question ++ r in
    let n = x.first.name in
    rw (append_assoc (path x.rest) (question_roles question) r)
    (way w.TypeWhole (way w.PathPlain (take (takes_type_name n (path x.rest ++ r2) b (tight_path x.rest r2 (tight_question question r tight)).0 (tight_path x.rest r2 (tight_question question r tight)).1
    (calm_path n x.rest r2 calm))
    (act (acts_Qualified n b)
    (dots_plain x.rest (record { first = name_made n; rest = [] }) n (y.Form f.Nullable ∷ s) b r2 new calm (tight_question question r tight)
    (nullable_plain question (unplaced_qualified x) s b r new h))))))

plain_good : (x : KQualified) (question : Option Position) (variable : Bool) → TypeGood (type_piece_by (KType-F.Plain x question variable))
unfolding written
plain_good x question variable =
    let n = x.first.name in
    let apart : (r : Roles) → ((path x.rest ++ question_roles question) ++ r) ≡ path x.rest ++ (question_roles question ++ r) = λ r. append_assoc (path x.rest) (question_roles question) r in
    record {
      begins = begins_name n (path x.rest ++ question_roles question);
      passed = λ readable. record {
        spot = question_spot at.Name question;
        is = open_question at.Name question refl;
        pass = λ i r tight.
            ap (λ z. arguments_follow at.Type i (L gap.Plain (Role.Name n ∷ z))) (apart r)
            ∙ plain_passes n x.rest i (question_roles question ++ r)
            (any_type _ (ident_type (name_token (last_behind n x.rest)) (L gap.Plain (question_roles question ++ r)) (tight_question question r tight).0 (tight_question question r tight).1
            (name_ident (last_behind n x.rest)) (λ is. absurd (not_run (last_behind n x.rest) (not_true _ readable) is))))
            ∙ pass_question at.Name question i r (inl refl);
      };
      unnamed = λ r h. ap (λ z. names_follow false (L gap.Plain (Role.Name n ∷ z))) (apart r) ∙ unnamed_name n (path x.rest ++ (question_roles question ++ r)) (unnamed_path x.rest question r h);
      reads = λ readable s b r new tight h. plain_reads x question s b r new (not_true _ readable) tight h;
    }

-- ---- arguments of types

pub AllGood : List (Piece KType) → Type 0
AllGood [] = Unit {0}
AllGood (x ∷ xs) = TypeGood x × AllGood xs

abbrev greater : Roles → Roles
greater r = Role.Fixed (g.Mark m.Greater) ∷ r

abbrev more_arguments : List (Piece KType) → Roles
more_arguments xs = more_roles comma (map roles_of xs)

tight_more : (xs : List (Piece KType)) (r : Roles) → Tight (more_arguments xs ++ greater r)
unfolding letters tokens mark_kind
tight_more [] r = (refl, refl)
tight_more (x ∷ xs) r = (refl, refl)

types_more : (xs : List (Piece KType)) (d : ℕ) (found : List KType) (cs : List Position) (s : Symbols) (b : Built) (r : Roles) (new : Built) → AllGood xs → all_readable xs ≡ true
    → Der s (kinds (deepest d (map depth_of xs)) (found ++ map tree_of xs) (cs ++ commas_behind xs) b) (L gap.Plain (greater r)) new
    → Der (y.Form f.MoreTypes ∷ s) (kinds d found cs b) (L gap.Plain (more_arguments xs ++ greater r)) new
unfolding written takes letters tokens accepts taken mark_kind AllGood
types_more [] d found cs s b r new good readable h = way w.TypesEnd
    (subst (λ z. Der s (kinds d z cs b) (L gap.Plain (greater r)) new) (append-nil found)
    (subst (λ z. Der s (kinds d (found ++ []) z b) (L gap.Plain (greater r)) new) (append-nil cs) h))
types_more (x ∷ xs) d found cs s b r new good readable h =
    let halves = both x.readable (all_readable xs) readable in
    rw (append_assoc x.roles (more_arguments xs) (greater r))
    (way w.TypesMore
    (take_blank (relaxed_plain x.roles (more_arguments xs ++ greater r) (good.0.begins (more_arguments xs ++ greater r))) refl
    (act (acts_AddComma cs (kinds_only d found b))
    (good.0.reads halves.0 _ (kinds d found (cs ++ made ∷ []) b) (more_arguments xs ++ greater r) new (tight_more xs r)
    (act (acts_AddType d found (cs ++ made ∷ []) x.depth x.tree b)
    (types_more xs (max x.depth d) (found ++ x.tree ∷ []) (cs ++ made ∷ []) s b r new good.1 halves.1
    (subst (λ z. Der s (kinds (deepest (max x.depth d) (map depth_of xs)) z ((cs ++ made ∷ []) ++ commas_behind xs) b) (L gap.Plain (greater r)) new) (sym (append_assoc found (x.tree ∷ []) (map tree_of xs)))
    (subst (λ z. Der s (kinds (deepest (max x.depth d) (map depth_of xs)) (found ++ x.tree ∷ map tree_of xs) z b) (L gap.Plain (greater r)) new) (sym (append_assoc cs (made ∷ []) (commas_behind xs))) h))))))))

pub arguments_read : (xs : List (Piece KType)) (s : Symbols) (b : Built) (r : Roles) (new : Built) → is_some xs ≡ true → AllGood xs → all_readable xs ≡ true
    → Der s (args (deepest 0 (map depth_of xs)) (record { angles = made_brackets; items = map tree_of xs; commas = commas_of xs }) b) (L gap.Plain r) new
    → Der (y.Form f.TypeArguments ∷ s) b (L gap.Plain (in_angles (map roles_of xs) ++ r)) new
unfolding written takes letters tokens accepts taken mark_kind AllGood
arguments_read [] s b r new some good readable h = absurd (cc some)
arguments_read (x ∷ xs) s b r new some good readable h =
    let halves = both x.readable (all_readable xs) readable in
    rw (append_assoc (x.roles ++ more_arguments xs) (Role.Fixed (g.Mark m.Greater) ∷ []) r, append_assoc x.roles (more_arguments xs) (greater r))
    (way w.TypeArgumentsWhole (take refl
    (act (acts_NoTypes (place b))
    (good.0.reads halves.0 _ (kinds 0 [] [] (place b)) (more_arguments xs ++ greater r) new (tight_more xs r)
    (act (acts_AddType 0 [] [] x.depth x.tree (place b))
    (types_more xs (max x.depth 0) (x.tree ∷ []) [] _ (place b) r new good.1 halves.1
    (take refl (act (acts_TypeArguments (deepest (max x.depth 0) (map depth_of xs)) (x.tree ∷ map tree_of xs) (commas_behind xs) b) h))))))))

-- what stands behind the last argument
abbrev pub behind_greater : ℕ → Roles → Bool
behind_greater i r = goes_on st.Close i (λ p j. arguments_follow p j (L gap.Plain r)) (opens (L gap.Plain r))

close_spot : (spot : Spot) (i : ℕ) (r : Roles) → is_open spot ≡ true → arguments_follow spot i (L gap.Plain (greater r)) ≡ behind_greater i r
unfolding letters tokens mark_kind arguments_follow
close_spot at.Type i r is = absurd (cc is)
close_spot at.Name i r is = refl
close_spot at.Closed i r is = refl
close_spot at.Asked i r is = refl

comma_spot : (spot : Spot) (i : ℕ) (r : Roles) → is_open spot ≡ true → arguments_follow spot i (L gap.Plain (Role.Fixed (g.Mark m.Comma) ∷ Role.Fixed g.Blank ∷ r)) ≡ arguments_follow at.Type i (L gap.Plain r)
unfolding letters tokens mark_kind arguments_follow
comma_spot at.Type i r is = absurd (cc is)
comma_spot at.Name i r is = refl
comma_spot at.Closed i r is = refl
comma_spot at.Asked i r is = refl

pass_more : (spot : Spot) (xs : List (Piece KType)) (i : ℕ) (r : Roles) → is_open spot ≡ true → AllGood xs → all_readable xs ≡ true → arguments_follow spot i (L gap.Plain (more_arguments xs ++ greater r)) ≡ behind_greater i r
unfolding AllGood
pass_more spot [] i r is good readable = close_spot spot i r is
pass_more spot (x ∷ xs) i r is good readable =
    let halves = both x.readable (all_readable xs) readable in
    let p = good.0.passed halves.0 in
    ap (λ z. arguments_follow spot i (L gap.Plain (Role.Fixed (g.Mark m.Comma) ∷ Role.Fixed g.Blank ∷ z))) (append_assoc x.roles (more_arguments xs) (greater r))
    ∙ comma_spot spot i (x.roles ++ (more_arguments xs ++ greater r)) is
    ∙ p.pass i (more_arguments xs ++ greater r) (tight_more xs r)
    ∙ pass_more p.spot xs i r p.is good.1 halves.1

pub pass_arguments : (xs : List (Piece KType)) (i : ℕ) (r : Roles) → is_some xs ≡ true → AllGood xs → all_readable xs ≡ true
    → arguments_follow at.Type i (L gap.Plain ((listed comma (map roles_of xs) ++ fixed (g.Mark m.Greater ∷ [])) ++ r)) ≡ behind_greater i r
unfolding AllGood
pass_arguments [] i r some good readable = absurd (cc some)
pass_arguments (x ∷ xs) i r some good readable =
    let halves = both x.readable (all_readable xs) readable in
    let p = good.0.passed halves.0 in
    ap (λ z. arguments_follow at.Type i (L gap.Plain z)) (append_assoc (x.roles ++ more_arguments xs) (fixed (g.Mark m.Greater ∷ [])) r ∙ append_assoc x.roles (more_arguments xs) (greater r))
    ∙ p.pass i (more_arguments xs ++ greater r) (tight_more xs r)
    ∙ pass_more p.spot xs i r p.is good.1 halves.1

-- ---- types with arguments

abbrev pub less : Roles → Roles
less r = Role.Fixed (g.Mark m.Less) ∷ r

tight_dots : (xs : List KDotted) (x : KDotted) (r : Roles) → Tight (path (x ∷ xs) ++ r)
unfolding letters tokens mark_kind
tight_dots xs x r = (refl, refl)

dots_applied : (xs : List KDotted) (x : KDotted) (q : KQualified) (s : Symbols) (b : Built) (r : Roles) (new : Built)
    → Der (y.Form f.TypeArguments ∷ y.Act a.AppliedType ∷ s) (qual (more_dots q (x ∷ xs)) b) (L gap.Plain (less r)) new
    → Der (y.Form f.PathMore ∷ s) (qual q b) (L gap.Plain (path (x ∷ xs) ++ less r)) new
unfolding written takes letters tokens accepts taken mark_kind
dots_applied [] x q s b r new h = way w.PathDot (take_blank (relaxed_plain (Role.Name x.name.name ∷ []) (less r) (begins_name x.name.name [] (less r))) refl
    (way w.NextApplied (take (takes_applied x.name.name r (place (qual q b))) (act (acts_AddDotted q x.name.name b) h))))
dots_applied (z ∷ xs) x q s b r new h = way w.PathDot (take_blank (relaxed_plain (Role.Name x.name.name ∷ []) (path (z ∷ xs) ++ less r) (begins_name x.name.name [] (path (z ∷ xs) ++ less r))) refl
    (way w.NextPlain (take (takes_type_name x.name.name (path (z ∷ xs) ++ less r) (place (qual q b)) (tight_dots xs z (less r)).0 (tight_dots xs z (less r)).1 (λ is. refl))
    (act (acts_AddDotted q x.name.name b)
    (dots_applied xs z (dotted q x.name.name) s b r new
    (subst (λ u. Der (y.Form f.TypeArguments ∷ y.Act a.AppliedType ∷ s) (qual (record { first = q.first; rest = u }) b) (L gap.Plain (less r)) new) (sym (append_assoc q.rest (unplaced_dotted x ∷ []) (map unplaced_dotted (z ∷ xs)))) h))))))

path_applied : (x : KQualified) (s : Symbols) (b : Built) (r : Roles) (new : Built)
    → Der (y.Form f.TypeArguments ∷ y.Act a.AppliedType ∷ s) (qual (unplaced_qualified x) b) (L gap.Plain (less r)) new
    → (rest : List KDotted) → rest ≡ x.rest → Der (y.Form f.TypePath ∷ s) b (L gap.Plain (Role.Name x.first.name ∷ (path rest ++ less r))) new
unfolding written takes letters tokens accepts taken mark_kind
path_applied x s b r new h [] is = way w.PathApplied (take (takes_applied x.first.name r b) (act (acts_Qualified x.first.name b)
    (subst (λ u. Der (y.Form f.TypeArguments ∷ y.Act a.AppliedType ∷ s) (qual (record { first = name_made x.first.name; rest = map unplaced_dotted u }) b) (L gap.Plain (less r)) new) (sym is) h)))
path_applied x s b r new h (z ∷ xs) is = way w.PathPlain (take (takes_type_name x.first.name (path (z ∷ xs) ++ less r) b (tight_dots xs z (less r)).0 (tight_dots xs z (less r)).1 (λ is. refl))
    (act (acts_Qualified x.first.name b)
    (dots_applied xs z (record { first = name_made x.first.name; rest = [] }) s b r new
    (subst (λ u. Der (y.Form f.TypeArguments ∷ y.Act a.AppliedType ∷ s) (qual (record { first = name_made x.first.name; rest = map unplaced_dotted u }) b) (L gap.Plain (less r)) new) (sym is) h))))

less_any : (n : List ℕ) (r : Roles) → accepts t.AnyName (kind_of (name_token n) (L gap.Plain (less r))) ≡ true
unfolding accepts
less_any n r = ap (accepts t.AnyName) (ident_less (name_token n) r (name_ident n)) ∙ any_by (arguments_ahead (before_less r))
  where
    any_by : (b : Bool) → accepts t.AnyName (if b then k.NameArguments else k.NameLess) ≡ true
    any_by true = refl
    any_by false = refl

opens_less : (i : ℕ) (r : Roles) → arguments_follow at.Name i (L gap.Plain (less r)) ≡ arguments_follow at.Type (suc i) (L gap.Plain r)
unfolding letters tokens mark_kind arguments_follow
opens_less i r = refl

less_unnamed : (xs : List KDotted) (r : Roles) → names_follow true (L gap.Plain (path xs ++ less r)) ≡ false
unfolding letters tokens mark_kind names_follow
less_unnamed [] r = refl
less_unnamed (x ∷ xs) r = refl

module _ (x : KQualified) (angles : Brackets) (xs : List (Piece KType)) (commas : List Position) (question : Option Position) (good : AllGood xs) where
  abbrev listed_types : Roles
  listed_types = listed comma (map roles_of xs) ++ fixed (g.Mark m.Greater ∷ [])

  applied_apart : (r : Roles) → (((path x.rest ++ in_angles (map roles_of xs)) ++ question_roles question) ++ r) ≡ path x.rest ++ less (listed_types ++ (question_roles question ++ r))
  applied_apart r =
      append_assoc (path x.rest ++ in_angles (map roles_of xs)) (question_roles question) r
      ∙ append_assoc (path x.rest) (in_angles (map roles_of xs)) (question_roles question ++ r)

  applied_reads : is_some xs ≡ true → all_readable xs ≡ true → Fits (deepest 0 (map depth_of xs)) → (s : Symbols) (b : Built) (r : Roles) (new : Built)
      → Der s (kind (suc (deepest 0 (map depth_of xs))) (ty.Applied (unplaced_qualified x) made_brackets (map tree_of xs) (commas_of xs) (asked_if question)) b) (L gap.Plain r) new
      → Der (y.Form f.Type ∷ s) b (L gap.Plain (Role.Name x.first.name ∷ (((path x.rest ++ in_angles (map roles_of xs)) ++ question_roles question) ++ r))) new
  unfolding written
  applied_reads some readable fit s b r new h =
      let d = deepest 0 (map depth_of xs) in
      subst (λ z. Der (y.Form f.Type ∷ s) b (L gap.Plain (Role.Name x.first.name ∷ z)) new) (sym (applied_apart r))
      (way w.TypeWhole (path_applied x (y.Form f.Nullable ∷ s) b (listed_types ++ (question_roles question ++ r)) new
      (arguments_read xs _ (qual (unplaced_qualified x) b) (question_roles question ++ r) new some good readable
      (act (acts_AppliedType (unplaced_qualified x) d (record { angles = made_brackets; items = map tree_of xs; commas = commas_of xs }) b fit)
      (nullable_applied question (suc d) (unplaced_qualified x) (map tree_of xs) (commas_of xs) s b r new h))) x.rest refl))

  abbrev type_readable : Type 0
  type_readable = (type_piece_by (KType-F.Applied x angles xs commas question)).readable ≡ true

  applied_good : TypeGood (type_piece_by (KType-F.Applied x angles xs commas question))
  applied_good =
      let n = x.first.name in
      let parts : type_readable → (is_some xs ≡ true) × (all_readable xs ≡ true) × Fits (deepest 0 (map depth_of xs)) = λ h.
      let a = both (is_some xs && all_readable xs) (fits (deepest 0 (map depth_of xs))) h in
      let b = both (is_some xs) (all_readable xs) a.0 in
      (b.0, b.1, a.1) in
      record {
        begins = begins_name n ((path x.rest ++ in_angles (map roles_of xs)) ++ question_roles question);
        passed = λ readable. record {
          spot = question_spot at.Closed question;
          is = open_question at.Closed question refl;
          pass = λ i r tight.
              ap (λ z. arguments_follow at.Type i (L gap.Plain (Role.Name n ∷ z))) (applied_apart r)
              ∙ plain_passes n x.rest i (less (listed_types ++ (question_roles question ++ r))) (less_any (last_behind n x.rest) (listed_types ++ (question_roles question ++ r)))
              ∙ opens_less i (listed_types ++ (question_roles question ++ r))
              ∙ pass_arguments xs (suc i) (question_roles question ++ r) (parts readable).0 good (parts readable).1
              ∙ pass_question at.Closed question i r (inr refl);
        };
        unnamed = λ r h. ap (λ z. names_follow false (L gap.Plain (Role.Name n ∷ z))) (applied_apart r)
            ∙ unnamed_name n (path x.rest ++ less (listed_types ++ (question_roles question ++ r))) (less_unnamed x.rest (listed_types ++ (question_roles question ++ r)));
        reads = λ readable s b r new tight h. applied_reads (parts readable).0 (parts readable).1 (parts readable).2 s b r new h;
      }

-- ---- all types

abbrev Part : Type 0
Part = (x : KType) × TypeGood (type_piece x)

pub piece_at : (x : KType-F KType) → type_piece (roll-KType x) ≡ type_piece_by (map-KType KType (Piece KType) type_piece x)
unfolding type_piece
piece_at x = fold-roll-KType (Piece KType) type_piece_by x

parts_good : (xs : List Part) → AllGood (map type_piece (map (λ (x : Part). x.0) xs))
unfolding AllGood
parts_good [] = tt
parts_good (x ∷ xs) = (x.1, parts_good xs)

layer_good : (x : KType-F Part) → TypeGood (type_piece_by (map-KType KType (Piece KType) type_piece (map-KType Part KType (λ x. x.0) x)))
layer_good (KType-F.Plain x question variable) = plain_good x question variable
layer_good (KType-F.Applied x angles arguments commas question) = applied_good x angles (map type_piece (map (λ (x : Part). x.0) arguments)) commas question (parts_good arguments)

pub type_good : (x : KType) → TypeGood (type_piece x)
type_good = ind-KType (λ x. TypeGood (type_piece x)) (λ x z is. subst (λ (u : KType-F KType). TypeGood (type_piece (roll-KType u))) is
    (subst TypeGood (sym (piece_at (map-KType Part KType (λ x. x.0) z))) (layer_good z)))

-- ---- what is shown of a type is its roles

abbrev Shown : Type 0
Shown = (x : KType) × ((type_piece x).roles ≡ type_roles x)

shown_each : (xs : List Shown) → map roles_of (map type_piece (map (λ (x : Shown). x.0) xs)) ≡ map type_roles (map (λ (x : Shown). x.0) xs)
shown_each [] = refl
shown_each (x ∷ xs) = ap (λ z. z ∷ map roles_of (map type_piece (map (λ (x : Shown). x.0) xs))) x.1 ∙ ap (λ z. type_roles x.0 ∷ z) (shown_each xs)

roles_at : (x : KType-F KType) → type_roles (roll-KType x) ≡ type_by (map-KType KType Roles type_roles x)
unfolding type_roles
roles_at x = fold-roll-KType Roles type_by x

shown_layer : (x : KType-F Shown) → (type_piece_by (map-KType KType (Piece KType) type_piece (map-KType Shown KType (λ x. x.0) x))).roles ≡ type_by (map-KType KType Roles type_roles (map-KType Shown KType (λ x. x.0) x))
shown_layer (KType-F.Plain x question variable) = refl
shown_layer (KType-F.Applied x angles arguments commas question) = ap (λ z. qualified_roles x ++ in_angles z ++ if_there question (g.Mark m.Question ∷ [])) (shown_each arguments)

pub type_shown : (x : KType) → (type_piece x).roles ≡ type_roles x
type_shown = ind-KType (λ x. (type_piece x).roles ≡ type_roles x) (λ x z is. subst (λ (u : KType-F KType). (type_piece (roll-KType u)).roles ≡ type_roles (roll-KType u)) is
    (ap (λ (u : Piece KType). u.roles) (piece_at (map-KType Shown KType (λ x. x.0) z)) ∙ shown_layer z ∙ sym (roles_at (map-KType Shown KType (λ x. x.0) z))))

pub types_shown : (xs : List KType) → map roles_of (map type_piece xs) ≡ map type_roles xs
types_shown [] = refl
types_shown (x ∷ xs) = ap (λ z. z ∷ map roles_of (map type_piece xs)) (type_shown x) ∙ ap (λ z. type_roles x ∷ z) (types_shown xs)

pub types_good : (xs : List KType) → AllGood (map type_piece xs)
unfolding AllGood
types_good [] = tt
types_good (x ∷ xs) = (type_good x, types_good xs)
