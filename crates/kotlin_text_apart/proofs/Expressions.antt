-- Expressions: their tokens stand apart, also behind an operator that stands before them.
use Rattle.std.proofs.Common.{◌≡◌, ℕ, zero, Bool, true, false, List, [], ◌∷◌, ◌++◌, map, Option, Some, None, refl, ap, sym, subst, ◌∙◌, append_assoc}
use Rattle.std.proofs.lemmas.List.{append-nil}
use Rattle.std.specs.Prelude.{◌&&◌, ◌||◌, nat_lt, if◌then◌else◌}
use Rattle.kotlin_tree.specs.declared.tokens.Mark.TheVariants as m
use Rattle.kotlin_tree.specs.declared.tokens.Keyword.{Keyword}
use Rattle.kotlin_tree.specs.declared.tokens.Keyword.TheVariants as k
use Rattle.kotlin_tree.specs.declared.places.Brackets.{Brackets}
use Rattle.kotlin_tree.specs.declared.places.Position.{Position}
use Rattle.kotlin_tree.specs.declared.types.KName.{KName}
use Rattle.kotlin_tree.specs.declared.types.KQualified.{KQualified}
use Rattle.kotlin_tree.specs.declared.types.KTypeArguments.{KTypeArguments}
use Rattle.kotlin_tree.specs.declared.types.KType.{KType}
use Rattle.kotlin_tree.specs.declared.expressions.KLiteral.{KLiteral}
use Rattle.kotlin_tree.specs.declared.expressions.KLiteral.TheVariants as literal
use Rattle.kotlin_tree.specs.declared.expressions.KBinary.{KBinary}
use Rattle.kotlin_tree.specs.declared.expressions.KBinary.TheVariants as op
use Rattle.kotlin_tree.specs.declared.expressions.KPrefix.{KPrefix}
use Rattle.kotlin_tree.specs.declared.expressions.KPrefix.TheVariants as prefix
use Rattle.kotlin_tree.specs.declared.expressions.KPostfix.{KPostfix}
use Rattle.kotlin_tree.specs.declared.expressions.KPostfix.TheVariants as postfix
use Rattle.kotlin_lexer.specs.Nesting.{Open}
use Rattle.kotlin_lexer.specs.declared.nesting.Form.TheVariants as f
use Rattle.kotlin_layout.specs.declared.glyphs.Glyph.TheVariants as g
use Rattle.kotlin_layout.specs.declared.parens.Place.{Place}
use Rattle.kotlin_layout.specs.Parens.{needs_by, level, joins, postfix_level, is_level, as_level, free_place, list_place, operand_place, left_place, right_place, prefix_place}
use Rattle.kotlin_layout.specs.Roles.{Role, Roles, fixed, name, listed, comma, next, lines, opened, closed}
use Rattle.kotlin_layout.specs.Names.{is_quoted}
use Rattle.kotlin_lexed_text.specs.Lexable.{front, is_other, ends_word, ends_mark, ends_literal, literal_first, is_lexable}
use Rattle.kotlin_layout.specs.Shown.{Placed, at_place, qualified_roles, type_roles, type_arguments_roles, operator_glyph, prefix_mark, postfix_mark, in_round, headed, arguments_roles, else_value, class_of, lambda_names, name_of, bare_by, expression_by, labels}
use Rattle.std.proofs.Common.{arith}
use Rattle.std.proofs.lemmas.Bool.Decides.{nat_tests}
use Rattle.kotlin_tree.specs.declared.expressions.KHeadAt.{KHeadAt}
use Rattle.kotlin_tree.specs.declared.expressions.KElseAt.{KElseAt}
use Rattle.kotlin_tree.specs.declared.expressions.KClassAt.{KClassAt}
use Rattle.kotlin_tree.specs.declared.expressions.KSuperAt.{KSuperAt}
use Rattle.kotlin_tree.specs.declared.expressions.KLambdaNames.{KLambdaNames}
use Rattle.kotlin_tree.specs.declared.expressions.KExpr.TheOpen.{KExpr-F}
use Rattle.kotlin_text_apart.proofs.Parts.{safe, Safe, quoted_safe, both, and_true, Calm, Flows, Stands, behind, seq, name_flows, in_round_flows, keyword_headed, braced_flows, AllFlow, AllStand, comma_flows, next_stands, lines_stand, line_goes, qualified_flows, typed, arguments_flow, arguments_calm}

safe_behind : (q : KPrefix) (b : Option ℕ) → safe b ≡ true → ends_mark (prefix_mark q) b ≡ true
unfolding ends_mark
safe_behind prefix.Plus b h = (both (is_other 43 b) (is_other 62 b) (both (is_other 43 b && is_other 62 b) (is_other 45 b) (both (is_other 33 b && is_other 61 b) ((is_other 43 b && is_other 62 b) && is_other 45 b) h).1).0).0
safe_behind prefix.Minus b h =
    let k = both (is_other 43 b && is_other 62 b) (is_other 45 b) (both (is_other 33 b && is_other 61 b) ((is_other 43 b && is_other 62 b) && is_other 45 b) h).1 in
    and_true (is_other 62 b) (is_other 45 b) (both (is_other 43 b) (is_other 62 b) k.0).1 k.1
safe_behind prefix.Not b h = (both (is_other 33 b && is_other 61 b) ((is_other 43 b && is_other 62 b) && is_other 45 b) h).0
safe_behind prefix.Increment b h = refl
safe_behind prefix.Decrement b h = refl

pub record Good (x : Placed) : Type 0 where
  pub flows : (p : Place) → Flows (x p)
  -- where only what binds most tightly stands as it is
  pub tight : (p : Place) → nat_lt 10 p.level ≡ true → Safe (x p)
  pub behind : (q : KPrefix) (p : Place) (zs : Roles) → ends_mark (prefix_mark q) (front (x (prefix_place q p) ++ zs)) ≡ true

abbrev pub AllGood : List Placed → Type 0
AllGood [] = Unit {0}
AllGood (x ∷ xs) = Good x × AllGood xs

listed_flow : (xs : List Placed) → AllGood xs → AllFlow (map (at_place list_place) xs)
listed_flow [] all = tt
listed_flow (x ∷ xs) all = (all.0.flows list_place, listed_flow xs all.1)

pub arguments_flows : (xs : List Placed) → AllGood xs → Flows (arguments_roles xs)
arguments_flows xs all = in_round_flows (listed comma (map (at_place list_place) xs)) (comma_flows (map (at_place list_place) xs) (listed_flow xs all))

pub arguments_calm_round : (xs : List Placed) → Calm (arguments_roles xs)
unfolding front
arguments_calm_round xs zs = refl

pub labels_flow : (xs : List Placed) → AllGood xs → Flows (labels (map (at_place list_place) xs))
unfolding is_lexable front ends_mark
labels_flow xs all = seq (listed comma (map (at_place list_place) xs)) (fixed (g.Blank ∷ g.Mark m.Arrow ∷ [])) (comma_flows (map (at_place list_place) xs) (listed_flow xs all)) (λ zs. refl) (record { goes = λ o zs c h. h })

-- ---- parentheses where they are needed

module _ (x : KExpr-F Placed Roles Roles Roles Roles) where
  -- as it is, it stands anywhere
  abbrev pub Bare : Type 0
  Bare = (p : Place) → Flows (bare_by p x)

  if_flows : (v : Bool) (p : Place) → Bare → Flows (if v then in_round (bare_by free_place x) else bare_by p x)
  if_flows true p h = in_round_flows (bare_by free_place x) (h free_place)
  if_flows false p h = h p

  if_safe : (v : Bool) (p : Place) → ((p : Place) → Safe (bare_by p x)) → Safe (if v then in_round (bare_by free_place x) else bare_by p x)
  unfolding front
  if_safe true p h zs = refl
  if_safe false p h zs = h p zs

  needed_safe : (v : Bool) (p : Place) → v ≡ true → Safe (if v then in_round (bare_by free_place x) else bare_by p x)
  unfolding front
  needed_safe true p h zs = refl
  needed_safe false p h zs = absurd (cc h)

  -- a form that binds most tightly
  pub tight_good : Bare → ((p : Place) → Safe (bare_by p x)) → Good (expression_by x)
  tight_good flows safe = record {
    flows = λ p. if_flows (needs_by p x) p flows;
    tight = λ p lt. if_safe (needs_by p x) p safe;
    behind = λ q p zs. safe_behind q (front (expression_by x (prefix_place q p) ++ zs)) (if_safe (needs_by (prefix_place q p) x) (prefix_place q p) safe zs);
  }

  -- a form that needs parentheses there
  pub loose_good : Bare → ((p : Place) → nat_lt 10 p.level ≡ true → needs_by p x ≡ true) → ((q : KPrefix) (p : Place) → needs_by (prefix_place q p) x ≡ true) → Good (expression_by x)
  loose_good flows tight behind = record {
    flows = λ p. if_flows (needs_by p x) p flows;
    tight = λ p lt. needed_safe (needs_by p x) p (tight p lt);
    behind = λ q p zs. safe_behind q (front (expression_by x (prefix_place q p) ++ zs)) (needed_safe (needs_by (prefix_place q p) x) (prefix_place q p) (behind q p) zs);
  }

or_true : (a b c : Bool) → a ≡ true → (a || b || c) ≡ true
or_true a b c h = ap (λ z. z || b || c) h

under : (l n : ℕ) → nat_lt l 11 ≡ true → nat_lt 10 n ≡ true → nat_lt l n ≡ true
under l n h i = grind (arith, nat_tests)

level_low : (o : KBinary) → nat_lt (level o) 10 ≡ true
level_low op.OrElse = refl
level_low op.AndAlso = refl
level_low op.Equal = refl
level_low op.NotEqual = refl
level_low op.Same = refl
level_low op.NotSame = refl
level_low op.Less = refl
level_low op.Greater = refl
level_low op.LessEqual = refl
level_low op.GreaterEqual = refl
level_low op.ShiftLeft = refl
level_low op.ShiftRight = refl
level_low op.ShiftUnsigned = refl
level_low op.BitAnd = refl
level_low op.BitOr = refl
level_low op.BitXor = refl
level_low op.Add = refl
level_low op.Subtract = refl
level_low op.Multiply = refl
level_low op.Divide = refl
level_low op.Remainder = refl

low_more : (l : ℕ) → nat_lt l 10 ≡ true → nat_lt l 11 ≡ true
low_more l h = grind (arith, nat_tests)

-- ---- the forms

literal_ends : (x : KLiteral) (b : Option ℕ) → ends_word b ≡ true → ends_literal x b ≡ true
literal_ends (literal.Integer x) b h = h
literal_ends (literal.Long x) b h = refl
literal_ends (literal.Character x) b h = refl
literal_ends (literal.Text x) b h = refl
literal_ends literal.True b h = h
literal_ends literal.False b h = h
literal_ends literal.Null b h = h

literal_safe : (x : KLiteral) → safe (Some (literal_first x)) ≡ true
literal_safe (literal.Integer x) = refl
literal_safe (literal.Long x) = refl
literal_safe (literal.Character x) = refl
literal_safe (literal.Text x) = refl
literal_safe literal.True = refl
literal_safe literal.False = refl
literal_safe literal.Null = refl

literal_flows : (x : KLiteral) → Flows (Role.Literal x ∷ [])
unfolding is_lexable
literal_flows x = record { goes = λ o zs c h. and_true (ends_literal x (front zs)) (is_lexable o zs) (literal_ends x (front zs) (both (ends_word (front zs)) (is_other 61 (front zs)) c).0) h }

keyword_flows : (x : Keyword) → Flows (fixed (g.Keyword x ∷ []))
unfolding is_lexable
keyword_flows x = record { goes = λ o zs c h. and_true (ends_word (front zs)) (is_lexable o zs) (both (ends_word (front zs)) (is_other 61 (front zs)) c).0 h }

name_safe : (n : List ℕ) → Safe (name n)
unfolding front
name_safe n zs = quoted_safe (is_quoted n)

pub form_Literal : (x : KLiteral) (at : Position) → Good (expression_by (KExpr-F.Literal x at))
unfolding front
form_Literal x at = tight_good (KExpr-F.Literal x at) (λ p. literal_flows x) (λ p zs. literal_safe x)

pub form_Name : (x : KName) → Good (expression_by (KExpr-F.Name x))
form_Name x = tight_good (KExpr-F.Name x) (λ p. name_flows x.name) (λ p. name_safe x.name)

pub form_This : (at : Position) → Good (expression_by (KExpr-F.This at))
unfolding front
form_This at = tight_good (KExpr-F.This at) (λ p. keyword_flows k.This) (λ p zs. refl)

pub form_Paren : (round : Brackets) (v : Placed) → Good v → Good (expression_by (KExpr-F.Paren round v))
unfolding front
form_Paren round v h = tight_good (KExpr-F.Paren round v) (λ p. in_round_flows (v free_place) (h.flows free_place)) (λ p zs. refl)

named : (n : List ℕ) (types : Option KTypeArguments) → Flows (name n ++ type_arguments_roles types)
named n None = name_flows n
named n (Some x) = seq (name n) (type_arguments_roles (Some x)) (name_flows n) (arguments_calm x) (arguments_flow x)

pub form_Call : (x : KName) (types : Option KTypeArguments) (round : Brackets) (vs : List Placed) (commas : List Position) → AllGood vs → Good (expression_by (KExpr-F.Call x types round vs commas))
unfolding front
form_Call x types round vs commas all = tight_good (KExpr-F.Call x types round vs commas)
    (λ p. seq (name x.name ++ type_arguments_roles types) (arguments_roles vs) (named x.name types) (arguments_calm_round vs) (arguments_flows vs all))
    (λ p zs. quoted_safe (is_quoted x.name))

-- a word, a dot and what stands behind it
super_flows : (R : Roles) → Flows R → Flows (fixed (g.Keyword k.Super ∷ g.Mark m.Dot ∷ []) ++ R)
unfolding is_lexable front ends_mark
super_flows R h = record { goes = λ o zs c i. h.goes o zs c i }

pub form_SuperCall : (at : KSuperAt) (x : KName) (round : Brackets) (vs : List Placed) (commas : List Position) → AllGood vs → Good (expression_by (KExpr-F.SuperCall at x round vs commas))
unfolding front
form_SuperCall at x round vs commas all = tight_good (KExpr-F.SuperCall at x round vs commas)
    (λ p. super_flows (name x.name ++ arguments_roles vs) (seq (name x.name) (arguments_roles vs) (name_flows x.name) (arguments_calm_round vs) (arguments_flows vs all)))
    (λ p zs. refl)

dot_flows : Flows (fixed (g.Mark m.Dot ∷ []))
unfolding is_lexable ends_mark
dot_flows = record { goes = λ o zs c h. h }

-- behind a dot a name may stand
dotted : (A : Roles) (n : List ℕ) → Flows A → Flows ((A ++ fixed (g.Mark m.Dot ∷ [])) ++ name n)
unfolding is_lexable front ends_mark
dotted A n a = record {
  goes = λ o zs c h.
      let d = fixed (g.Mark m.Dot ∷ []) in
      behind o (A ++ d) (name n) zs (behind o A d (name n ++ zs) (a.goes o (Role.Fixed (g.Mark m.Dot) ∷ Role.Name n ∷ zs) refl ((name_flows n).goes o zs c h)));
}

pub form_Field : (v : Placed) (dot : Position) (x : KName) → Good v → Good (expression_by (KExpr-F.Field v dot x))
form_Field v dot x h = tight_good (KExpr-F.Field v dot x) (λ p. dotted (v (operand_place postfix_level p)) x.name (h.flows (operand_place postfix_level p)))
    (λ p zs. ap (λ z. safe (front z)) (append_assoc (v (operand_place postfix_level p) ++ fixed (g.Mark m.Dot ∷ [])) (name x.name) zs ∙ append_assoc (v (operand_place postfix_level p)) (fixed (g.Mark m.Dot ∷ [])) (name x.name ++ zs))
    ∙ h.tight (operand_place postfix_level p) refl _)

typed_name : (A : Roles) (types : Option KTypeArguments) → Flows A → Flows (A ++ type_arguments_roles types)
typed_name A None a = subst Flows (sym (append-nil A)) a
typed_name A (Some x) a = seq A (type_arguments_roles (Some x)) a (arguments_calm x) (arguments_flow x)

pub form_Method : (v : Placed) (dot : Position) (x : KName) (types : Option KTypeArguments) (round : Brackets) (vs : List Placed) (commas : List Position) → Good v → AllGood vs → Good (expression_by (KExpr-F.Method v dot x types round vs commas))
form_Method v dot x types round vs commas h all = tight_good (KExpr-F.Method v dot x types round vs commas)
    (λ p.
    let a = v (operand_place postfix_level p) in
    let b = (a ++ fixed (g.Mark m.Dot ∷ [])) ++ name x.name in
    seq (b ++ type_arguments_roles types) (arguments_roles vs) (typed_name b types (dotted a x.name (h.flows (operand_place postfix_level p)))) (arguments_calm_round vs) (arguments_flows vs all))
    (λ p zs.
    let a = v (operand_place postfix_level p) in
    let d = fixed (g.Mark m.Dot ∷ []) in
    let n = name x.name in
    let t = type_arguments_roles types in
    let r = arguments_roles vs in
    ap (λ z. safe (front z)) (append_assoc (((a ++ d) ++ n) ++ t) r zs ∙ append_assoc ((a ++ d) ++ n) t (r ++ zs) ∙ append_assoc (a ++ d) n (t ++ (r ++ zs)) ∙ append_assoc a d (n ++ (t ++ (r ++ zs))))
    ∙ h.tight (operand_place postfix_level p) refl _)

indexed : (A X : Roles) → Flows A → Flows X → Flows (((A ++ fixed (g.Mark m.OpenSquare ∷ [])) ++ X) ++ fixed (g.Mark m.CloseSquare ∷ []))
unfolding is_lexable front ends_mark
indexed A X a x = record {
  goes = λ o zs c h.
      let u = fixed (g.Mark m.OpenSquare ∷ []) in
      let v = fixed (g.Mark m.CloseSquare ∷ []) in
      behind o ((A ++ u) ++ X) v zs (behind o (A ++ u) X (v ++ zs) (behind o A u (X ++ (v ++ zs))
      (a.goes o (Role.Fixed (g.Mark m.OpenSquare) ∷ (X ++ (v ++ zs))) refl (x.goes (f.Square ∷ o) (Role.Fixed (g.Mark m.CloseSquare) ∷ zs) refl h))));
}

pub form_Element : (v : Placed) (square : Brackets) (u : Placed) → Good v → Good u → Good (expression_by (KExpr-F.Element v square u))
form_Element v square u h i = tight_good (KExpr-F.Element v square u)
    (λ p. indexed (v (operand_place postfix_level p)) (u free_place) (h.flows (operand_place postfix_level p)) (i.flows free_place))
    (λ p zs.
    let a = v (operand_place postfix_level p) in
    let b = fixed (g.Mark m.OpenSquare ∷ []) in
    let c = fixed (g.Mark m.CloseSquare ∷ []) in
    ap (λ z. safe (front z)) (append_assoc ((a ++ b) ++ u free_place) c zs ∙ append_assoc (a ++ b) (u free_place) (c ++ zs) ∙ append_assoc a b (u free_place ++ (c ++ zs)))
    ∙ h.tight (operand_place postfix_level p) refl _)

postfix_flows : (o : KPostfix) → Flows (fixed (g.Mark (postfix_mark o) ∷ []))
unfolding is_lexable ends_mark
postfix_flows postfix.NotNull = record { goes = λ o zs c h. h }
postfix_flows postfix.Increment = record { goes = λ o zs c h. h }
postfix_flows postfix.Decrement = record { goes = λ o zs c h. h }

postfix_calm : (o : KPostfix) → Calm (fixed (g.Mark (postfix_mark o) ∷ []))
unfolding front
postfix_calm postfix.NotNull zs = refl
postfix_calm postfix.Increment zs = refl
postfix_calm postfix.Decrement zs = refl

pub form_Postfix : (v : Placed) (o : KPostfix) (at : Position) → Good v → Good (expression_by (KExpr-F.Postfix v o at))
form_Postfix v o at h = tight_good (KExpr-F.Postfix v o at)
    (λ p. seq (v (operand_place postfix_level p)) (fixed (g.Mark (postfix_mark o) ∷ [])) (h.flows (operand_place postfix_level p)) (postfix_calm o) (postfix_flows o))
    (λ p zs. ap (λ z. safe (front z)) (append_assoc (v (operand_place postfix_level p)) (fixed (g.Mark (postfix_mark o) ∷ [])) zs) ∙ h.tight (operand_place postfix_level p) refl _)

prefix_goes : (o : KPrefix) (n : Open) (zs : Roles) → ends_mark (prefix_mark o) (front zs) ≡ true → is_lexable n zs ≡ true → is_lexable n (Role.Fixed (g.Mark (prefix_mark o)) ∷ zs) ≡ true
unfolding is_lexable
prefix_goes prefix.Plus n zs e h = and_true (ends_mark (prefix_mark prefix.Plus) (front zs)) (is_lexable n zs) e h
prefix_goes prefix.Minus n zs e h = and_true (ends_mark (prefix_mark prefix.Minus) (front zs)) (is_lexable n zs) e h
prefix_goes prefix.Not n zs e h = and_true (ends_mark (prefix_mark prefix.Not) (front zs)) (is_lexable n zs) e h
prefix_goes prefix.Increment n zs e h = and_true (ends_mark (prefix_mark prefix.Increment) (front zs)) (is_lexable n zs) e h
prefix_goes prefix.Decrement n zs e h = and_true (ends_mark (prefix_mark prefix.Decrement) (front zs)) (is_lexable n zs) e h

prefix_by : (q o : KPrefix) (v : Bool) (X Y zs : Roles) → joins q o ≡ v → ends_mark (prefix_mark q) (front ((if v then in_round X else (Role.Fixed (g.Mark (prefix_mark o)) ∷ Y)) ++ zs)) ≡ true
unfolding front ends_mark
prefix_by prefix.Plus o true X Y zs is = refl
prefix_by prefix.Minus o true X Y zs is = refl
prefix_by prefix.Not o true X Y zs is = refl
prefix_by prefix.Increment o true X Y zs is = refl
prefix_by prefix.Decrement o true X Y zs is = refl
prefix_by prefix.Plus prefix.Plus false X Y zs is = absurd (cc is)
prefix_by prefix.Plus prefix.Minus false X Y zs is = refl
prefix_by prefix.Plus prefix.Not false X Y zs is = refl
prefix_by prefix.Plus prefix.Increment false X Y zs is = absurd (cc is)
prefix_by prefix.Plus prefix.Decrement false X Y zs is = refl
prefix_by prefix.Minus prefix.Plus false X Y zs is = refl
prefix_by prefix.Minus prefix.Minus false X Y zs is = absurd (cc is)
prefix_by prefix.Minus prefix.Not false X Y zs is = refl
prefix_by prefix.Minus prefix.Increment false X Y zs is = refl
prefix_by prefix.Minus prefix.Decrement false X Y zs is = absurd (cc is)
prefix_by prefix.Not prefix.Plus false X Y zs is = refl
prefix_by prefix.Not prefix.Minus false X Y zs is = refl
prefix_by prefix.Not prefix.Not false X Y zs is = absurd (cc is)
prefix_by prefix.Not prefix.Increment false X Y zs is = refl
prefix_by prefix.Not prefix.Decrement false X Y zs is = refl
prefix_by prefix.Increment prefix.Plus false X Y zs is = refl
prefix_by prefix.Increment prefix.Minus false X Y zs is = refl
prefix_by prefix.Increment prefix.Not false X Y zs is = refl
prefix_by prefix.Increment prefix.Increment false X Y zs is = refl
prefix_by prefix.Increment prefix.Decrement false X Y zs is = refl
prefix_by prefix.Decrement prefix.Plus false X Y zs is = refl
prefix_by prefix.Decrement prefix.Minus false X Y zs is = refl
prefix_by prefix.Decrement prefix.Not false X Y zs is = refl
prefix_by prefix.Decrement prefix.Increment false X Y zs is = refl
prefix_by prefix.Decrement prefix.Decrement false X Y zs is = refl

no_mix : (v j : Bool) → ((v && false) || j) ≡ j
no_mix true j = refl
no_mix false j = refl

prefix_needs : (q o : KPrefix) (at : Position) (v : Placed) (p : Place) → needs_by {B = Roles} {C = Roles} {D = Roles} {E = Roles} (prefix_place q p) (KExpr-F.Prefix o at v) ≡ joins q o
prefix_needs q o at v p = no_mix p.in_list (joins q o)

pub form_Prefix : (o : KPrefix) (at : Position) (v : Placed) → Good v → Good (expression_by (KExpr-F.Prefix o at v))
form_Prefix o at v h =
    let x = KExpr-F.Prefix o at v in
    let bare : (p : Place) → Flows (bare_by p x) = λ p. record { goes = λ n zs c i. prefix_goes o n (v (prefix_place o p) ++ zs) (h.behind o p zs) ((h.flows (prefix_place o p)).goes n zs c i) } in
    record {
      flows = λ p. if_flows x (needs_by p x) p bare;
      tight = λ p lt. needed_safe x (needs_by p x) p (or_true (nat_lt 10 p.level) _ _ lt);
      behind = λ q p zs.
          ap (λ z. ends_mark (prefix_mark q) (front ((if z then in_round (bare_by free_place x) else bare_by (prefix_place q p) x) ++ zs))) (prefix_needs q o at v p)
          ∙ prefix_by q o (joins q o) (bare_by free_place x) (v (prefix_place o (prefix_place q p))) zs refl;
    }

spaced_type : (x : Keyword) (kind : KType) → Flows (fixed (g.Blank ∷ g.Keyword x ∷ g.Blank ∷ []) ++ type_roles kind)
unfolding is_lexable front
spaced_type x kind = record { goes = λ o zs c h. (typed kind).flows.goes o zs c h }

typed_behind : (A : Roles) (x : Keyword) (kind : KType) → Flows A → Flows ((A ++ fixed (g.Blank ∷ g.Keyword x ∷ g.Blank ∷ [])) ++ type_roles kind)
unfolding front
typed_behind A x kind a =
    let b = fixed (g.Blank ∷ g.Keyword x ∷ g.Blank ∷ []) in
    subst Flows (sym (append_assoc A b (type_roles kind))) (seq A (b ++ type_roles kind) a (λ zs. refl) (spaced_type x kind))

pub form_As : (v : Placed) (at : Position) (kind : KType) → Good v → Good (expression_by (KExpr-F.As v at kind))
form_As v at kind h = loose_good (KExpr-F.As v at kind) (λ p. typed_behind (v (operand_place as_level p)) k.As kind (h.flows (operand_place as_level p)))
    (λ p lt. or_true (nat_lt 0 p.level) _ _ (under 0 p.level refl lt)) (λ q p. refl)

pub form_Is : (v : Placed) (at : Position) (kind : KType) → Good v → Good (expression_by (KExpr-F.Is v at kind))
form_Is v at kind h = loose_good (KExpr-F.Is v at kind) (λ p. typed_behind (v (operand_place is_level p)) k.Is kind (h.flows (operand_place is_level p)))
    (λ p lt. or_true (nat_lt 5 p.level) _ _ (under 5 p.level refl lt)) (λ q p. refl)

operator_goes : (x : KBinary) (o : Open) (zs : Roles) → is_lexable o zs ≡ true → is_lexable o (Role.Fixed g.Blank ∷ Role.Fixed (operator_glyph x) ∷ Role.Fixed g.Blank ∷ zs) ≡ true
unfolding is_lexable front ends_mark
operator_goes op.OrElse o zs h = h
operator_goes op.AndAlso o zs h = h
operator_goes op.Equal o zs h = h
operator_goes op.NotEqual o zs h = h
operator_goes op.Same o zs h = h
operator_goes op.NotSame o zs h = h
operator_goes op.Less o zs h = h
operator_goes op.Greater o zs h = h
operator_goes op.LessEqual o zs h = h
operator_goes op.GreaterEqual o zs h = h
operator_goes op.ShiftLeft o zs h = h
operator_goes op.ShiftRight o zs h = h
operator_goes op.ShiftUnsigned o zs h = h
operator_goes op.BitAnd o zs h = h
operator_goes op.BitOr o zs h = h
operator_goes op.BitXor o zs h = h
operator_goes op.Add o zs h = h
operator_goes op.Subtract o zs h = h
operator_goes op.Multiply o zs h = h
operator_goes op.Divide o zs h = h
operator_goes op.Remainder o zs h = h

operator_flows : (x : KBinary) (R : Roles) → Flows R → Flows (fixed (g.Blank ∷ operator_glyph x ∷ g.Blank ∷ []) ++ R)
operator_flows x R r = record { goes = λ o zs c h. operator_goes x o (R ++ zs) (r.goes o zs c h) }

pub form_Binary : (v : Placed) (x : KBinary) (at : Position) (u : Placed) → Good v → Good u → Good (expression_by (KExpr-F.Binary v x at u))
unfolding front
form_Binary v x at u h i = loose_good (KExpr-F.Binary v x at u)
    (λ p.
    let a = v (left_place x p) in
    let b = fixed (g.Blank ∷ operator_glyph x ∷ g.Blank ∷ []) in
    let c = u (right_place x p) in
    subst Flows (sym (append_assoc a b c)) (seq a (b ++ c) (h.flows (left_place x p)) (λ zs. refl) (operator_flows x c (i.flows (right_place x p)))))
    (λ p lt. or_true (nat_lt (level x) p.level) _ _ (under (level x) p.level (low_more (level x) (level_low x)) lt))
    (λ q p. or_true (nat_lt (level x) 10) _ _ (level_low x))

pub spaced_flows : (R : Roles) → Flows R → Flows (fixed (g.Blank ∷ []) ++ R)
unfolding is_lexable front
spaced_flows R r = record { goes = λ o zs c h. r.goes o zs c h }

else_flows : (R : Roles) → Flows R → Flows (fixed (g.Blank ∷ g.Keyword k.Else ∷ g.Blank ∷ []) ++ R)
unfolding is_lexable front
else_flows R r = record { goes = λ o zs c h. r.goes o zs c h }

pub form_IfValue : (at : KHeadAt) (v : Placed) (u : Placed) (else_at : Position) (w : Placed) → Good v → Good u → Good w → Good (expression_by (KExpr-F.IfValue at v u else_at w))
unfolding front
form_IfValue at v u else_at w h i j = loose_good (KExpr-F.IfValue at v u else_at w)
    (λ p.
    let a = headed (g.Keyword k.If) (v free_place) in
    let b = fixed (g.Blank ∷ []) in
    let c = u (operand_place zero p) in
    let d = fixed (g.Blank ∷ g.Keyword k.Else ∷ g.Blank ∷ []) in
    let e = w (operand_place zero p) in
    subst Flows (sym (append_assoc ((a ++ b) ++ c) d e))
    (seq ((a ++ b) ++ c) (d ++ e)
    (subst Flows (sym (append_assoc a b c)) (seq a (b ++ c) (keyword_headed k.If (v free_place) (h.flows free_place)) (λ zs. refl) (spaced_flows c (i.flows (operand_place zero p)))))
    (λ zs. refl) (else_flows e (j.flows (operand_place zero p)))))
    (λ p lt. or_true (nat_lt 0 p.level) _ _ (under 0 p.level refl lt)) (λ q p. refl)

-- lines, and then an alternative for all else, in braces
else_stands : (ps : List Roles) (R : Roles) → AllStand ps → Flows R → Stands ((lines ps ++ fixed else_value) ++ R)
unfolding is_lexable front ends_mark
else_stands ps R all r = record {
  goes = λ o zs free c h.
      behind o (lines ps ++ fixed else_value) R zs (behind o (lines ps) (fixed else_value) (R ++ zs)
      ((lines_stand ps all).goes o (fixed else_value ++ (R ++ zs)) free refl (line_goes o (Role.Fixed (g.Keyword k.Else) ∷ Role.Fixed g.Blank ∷ Role.Fixed (g.Mark m.Arrow) ∷ Role.Fixed g.Blank ∷ (R ++ zs)) free (r.goes o zs c h))));
}

pub form_WhenValue : (at : KHeadAt) (v : Placed) (curly : Brackets) (cs : List Roles) (else_at : KElseAt) (w : Placed) → Good v → AllStand cs → Good w → Good (expression_by (KExpr-F.WhenValue at v curly cs else_at w))
unfolding front
form_WhenValue at v curly cs else_at w h all j = tight_good (KExpr-F.WhenValue at v curly cs else_at w)
    (λ p.
    let a = headed (g.Keyword k.When) (v free_place) in
    let b = fixed opened in
    let c = lines cs in
    let d = fixed else_value in
    let e = w free_place in
    let z = fixed closed in
    subst Flows (sym (ap (λ u. u ++ z) (append_assoc (a ++ b ++ c) d e ∙ append_assoc (a ++ b) c (d ++ e) ∙ append_assoc a b (c ++ (d ++ e)) ∙ ap (λ u. a ++ (b ++ u)) (sym (append_assoc c d e))) ∙ append_assoc a (b ++ ((c ++ d) ++ e)) z))
    (seq a ((b ++ ((c ++ d) ++ e)) ++ z) (keyword_headed k.When (v free_place) (h.flows free_place)) (λ zs. refl) (braced_flows ((c ++ d) ++ e) (else_stands cs e all (j.flows free_place)))))
    (λ p zs. refl)

name_list : (xs : List KName) → AllFlow (map name_of xs)
name_list [] = tt
name_list (x ∷ xs) = (name_flows x.name, name_list xs)

-- the names of a lambda, and the statements on lines of their own
lambda_stands : (xs : List KName) (ps : List Roles) → AllStand ps → Stands (lambda_names xs ++ (fixed (g.Deeper ∷ []) ++ lines ps))
unfolding is_lexable front ends_mark
lambda_stands [] ps all = record { goes = λ o zs free c h. (lines_stand ps all).goes o zs free c h }
lambda_stands (x ∷ xs) ps all = record {
  goes = λ o zs free c h.
      let n = listed comma (map name_of (x ∷ xs)) in
      let a = fixed (g.Blank ∷ g.Mark m.Arrow ∷ []) in
      let l = fixed (g.Deeper ∷ []) ++ lines ps in
      behind o (n ++ a) l zs (behind o n a (l ++ zs) ((comma_flows (map name_of (x ∷ xs)) (name_list (x ∷ xs))).goes o (a ++ (l ++ zs)) refl ((lines_stand ps all).goes o zs free c h)));
}

-- `{` without a line, what stands within, `}`
curly_flows : (X : Roles) → Stands X → Flows ((fixed (g.Blank ∷ g.Mark m.OpenCurly ∷ []) ++ X) ++ fixed closed)
unfolding is_lexable front ends_mark
curly_flows X x = record { goes = λ o zs c h. behind (f.Curly ∷ o) X (fixed closed) zs (x.goes (f.Curly ∷ o) (fixed closed ++ zs) refl refl h) }

type_safe : (x : KType) → Safe (type_roles x)
type_safe x zs = (typed x).safe zs

pub form_Lambda : (face : KType) (curly : Brackets) (names : KLambdaNames) (ss : List Roles) → AllStand ss → Good (expression_by (KExpr-F.Lambda face curly names ss))
unfolding front
form_Lambda face curly names ss all = tight_good (KExpr-F.Lambda face curly names ss)
    (λ p.
    let a = type_roles face in
    let b = fixed (g.Blank ∷ g.Mark m.OpenCurly ∷ []) in
    let c = lambda_names names.items in
    let d = fixed (g.Deeper ∷ []) in
    let e = lines ss in
    let z = fixed closed in
    subst Flows (sym (ap (λ u. u ++ z) (append_assoc (a ++ b ++ c) d e ∙ append_assoc (a ++ b) c (d ++ e) ∙ append_assoc a b (c ++ (d ++ e))) ∙ append_assoc a (b ++ (c ++ (d ++ e))) z))
    (seq a ((b ++ (c ++ (d ++ e))) ++ z) (typed face).flows (λ zs. refl) (curly_flows (c ++ (d ++ e)) (lambda_stands names.items ss all))))
    (λ p zs.
    let a = type_roles face in
    let b = fixed (g.Blank ∷ g.Mark m.OpenCurly ∷ []) in
    let c = lambda_names names.items in
    let d = fixed (g.Deeper ∷ []) in
    let e = lines ss in
    let y = fixed closed in
    ap (λ u. safe (front (u ++ zs))) (ap (λ u. u ++ y) (append_assoc (a ++ b ++ c) d e ∙ append_assoc (a ++ b) c (d ++ e) ∙ append_assoc a b (c ++ (d ++ e))) ∙ append_assoc a (b ++ (c ++ (d ++ e))) y)
    ∙ ap (λ u. safe (front u)) (append_assoc a ((b ++ (c ++ (d ++ e))) ++ y) zs) ∙ type_safe face _)

pub form_Run : (at : Position) (curly : Brackets) (ss : List Roles) → AllStand ss → Good (expression_by (KExpr-F.Run at curly ss))
unfolding is_lexable front ends_mark
form_Run at curly ss all = tight_good (KExpr-F.Run at curly ss)
    (λ p. record {
      goes = λ o zs c h.
          let z = fixed (g.Blank ∷ g.Mark m.CloseCurly ∷ []) in
          behind (f.Curly ∷ o) (listed next ss) z zs ((next_stands ss all).goes (f.Curly ∷ o) (z ++ zs) refl refl h);
    })
    (λ p zs. refl)

class_flows : Flows (fixed class_of)
unfolding is_lexable front ends_mark
class_flows = record { goes = λ o zs c h. and_true (ends_word (front zs)) (is_lexable o zs) (both (ends_word (front zs)) (is_other 61 (front zs)) c).0 h }

pub form_Class : (x : KQualified) (at : KClassAt) → Good (expression_by (KExpr-F.Class x at))
unfolding front
form_Class x at = tight_good (KExpr-F.Class x at) (λ p. seq (qualified_roles x) (fixed class_of) (qualified_flows x) (λ zs. refl) class_flows) (λ p zs. quoted_safe (is_quoted x.first.name))
