-- Lists of modifiers and of names, one at a time.
use Rattle.std.proofs.Common.{◌≡◌, ℕ, Bool, true, false, not, ◌&&◌, ◌||◌, nat_eq, nat_lt, List, [], ◌∷◌, Option, Some, None, refl, ap}
use Rattle.java_tree.specs.declared.tokens.Position.{Position}
use Rattle.java_statement_grammar.specs.declared.declarations.JDeclarator.{JDeclarator}
use Rattle.java_statement_grammar.specs.declared.declarations.JValue.{JValue}
use Rattle.java_member_grammar.specs.declared.homes.JHome.{JHome}
use Rattle.java_member_grammar.specs.declared.homes.JHome.TheVariants as home
use Rattle.java_member_grammar.specs.declared.modifiers.JModifier.{JModifier}
use Rattle.java_member_grammar.specs.declared.modifiers.ModifierKind.{ModifierKind}
use Rattle.java_member_grammar.specs.declared.modifiers.ModifierKind.TheVariants as modifier
use Rattle.java_member_grammar.specs.Modifiers as mo
use Rattle.java_modifier_rules.specs.Fits.{clash, has_value, in_place}

pub has_hit : (n : ℕ) (x : JModifier) (xs : List JModifier) → nat_eq n (mo.number x.kind) ≡ true → mo.has n (x ∷ xs) ≡ true
has_hit n x xs e = rw e refl

pub has_miss : (n : ℕ) (x : JModifier) (xs : List JModifier) → nat_eq n (mo.number x.kind) ≡ false → mo.has n (x ∷ xs) ≡ mo.has n xs
has_miss n x xs e = rw e refl

pub access_hit : (x : JModifier) (xs : List JModifier) → nat_lt (mo.number x.kind) 3 ≡ true → mo.has_access (x ∷ xs) ≡ true
access_hit x xs e = rw e refl

pub access_miss : (x : JModifier) (xs : List JModifier) → nat_lt (mo.number x.kind) 3 ≡ false → mo.has_access (x ∷ xs) ≡ mo.has_access xs
access_miss x xs e = rw e refl

not_or : (a b c : Bool) → (not a && (not b && c)) ≡ (not (a || b) && c)
not_or true b c = refl
not_or false b c = refl

differ_is : (x : JModifier) (xs : List JModifier) → mo.differ (x ∷ xs) ≡ (not (clash x.kind xs) && mo.differ xs)
differ_is x xs = not_or (mo.has (mo.number x.kind) xs) (nat_lt (mo.number x.kind) 3 && mo.has_access xs) (mo.differ xs)

pub differ_hit : (x : JModifier) (xs : List JModifier) → clash x.kind xs ≡ true → mo.differ (x ∷ xs) ≡ false
differ_hit x xs e = rw (differ_is x xs, e) refl

pub differ_miss : (x : JModifier) (xs : List JModifier) → clash x.kind xs ≡ false → mo.differ (x ∷ xs) ≡ mo.differ xs
differ_miss x xs e = rw (differ_is x xs, e) refl

pub among_hit : (f : ModifierKind → Bool) (x : JModifier) (xs : List JModifier) → f x.kind ≡ true → mo.among f (x ∷ xs) ≡ mo.among f xs
among_hit f x xs e = rw e refl

pub among_miss : (f : ModifierKind → Bool) (x : JModifier) (xs : List JModifier) → f x.kind ≡ false → mo.among f (x ∷ xs) ≡ false
among_miss f x xs e = rw e refl

values_by : (n : List ℕ) (at : Position) (v : Option JValue) (xs : List JDeclarator) → mo.have_values (record { name = n; at = at; value = v } ∷ xs) ≡ (has_value v && mo.have_values xs)
values_by n at None xs = refl
values_by n at (Some v) xs = refl

pub values_hit : (x : JDeclarator) (xs : List JDeclarator) → has_value x.value ≡ true → mo.have_values (x ∷ xs) ≡ mo.have_values xs
values_hit x xs e = rw (values_by x.name x.at x.value xs, e) refl

pub values_miss : (x : JDeclarator) (xs : List JDeclarator) → has_value x.value ≡ false → mo.have_values (x ∷ xs) ≡ false
values_miss x xs e = rw (values_by x.name x.at x.value xs, e) refl

-- what a place adds
pub home_is : (place : JHome) (f : ModifierKind → Bool) (kind : ModifierKind) → mo.in_home place f kind ≡ in_place place kind (f kind)
home_is home.File f kind = refl
home_is home.Class f modifier.Static = refl
home_is home.Class f modifier.Protected = refl
home_is home.Class f modifier.Private = refl
home_is home.Class f _ = refl
home_is home.Interface f modifier.Static = refl
home_is home.Interface f _ = refl

pub ruleset lists = (has_hit, has_miss, access_hit, access_miss, differ_hit, differ_miss, among_hit, among_miss, values_hit, values_miss)
