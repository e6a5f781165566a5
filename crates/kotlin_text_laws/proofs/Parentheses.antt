-- Where no parentheses are missing, the text is that of the form.
use Rattle.std.proofs.Common.{◌≡◌, ◌≤◌, ℕ, Bool, true, false, refl, ap, sym, ◌∙◌, arith}
use Rattle.std.specs.Prelude.{if◌then◌else◌, nat_lt, ◌&&◌, ◌||◌}
use Rattle.std.proofs.lemmas.Bool.Decides.{nat_tests}
use Rattle.kotlin_tree.specs.declared.places.Brackets.{Brackets}
use Rattle.kotlin_tree.specs.declared.expressions.KExpr.{KExpr, out-KExpr, out-roll-KExpr}
use Rattle.kotlin_tree.specs.declared.expressions.KExpr.TheOpen.{KExpr-F}
use Rattle.kotlin_tree.specs.declared.expressions.KExpr.TheVariants as e
use Rattle.kotlin_tree.specs.declared.expressions.KChoice.{KChoice}
use Rattle.kotlin_tree.specs.declared.statements.KStmt.{KStmt}
use Rattle.kotlin_tree.specs.declared.statements.KBranch.{KBranch}
use Rattle.kotlin_tree.specs.declared.statements.KCatch.{KCatch}
use Rattle.kotlin_layout.specs.declared.parens.Place.{Place}
use Rattle.kotlin_layout.specs.declared.parens.Neighbor.{Neighbor}
use Rattle.kotlin_layout.specs.declared.parens.Neighbor.TheVariants as beside
use Rattle.kotlin_layout.specs.Parens.{free_place, needs_parens, needs_by, is_looser, is_looser_by, is_as, outer_level, compares, mixes_by, clashes, is_is, compares_less, joins_prefix, clashes_by, postfix_level}
use Rattle.kotlin_layout.specs.Shown.{bare_roles, expression_roles, in_round}
use Rattle.kotlin_layout.proofs.LawsToCite.{expression_is}

pub as_it_is : (x : KExpr) (p : Place) → needs_parens p x ≡ false → expression_roles x p ≡ bare_roles p x
as_it_is x p none = expression_is x p ∙ ap (λ z. if z then in_round (bare_roles free_place x) else bare_roles p x) none

pub in_parentheses : (x : KExpr) (p : Place) → needs_parens p x ≡ true → expression_roles x p ≡ in_round (bare_roles free_place x)
in_parentheses x p some = expression_is x p ∙ ap (λ z. if z then in_round (bare_roles free_place x) else bare_roles p x) some

not_below_zero : (b : Bool) (n : ℕ) → (if b then nat_lt 0 0 else nat_lt n 0) ≡ false
not_below_zero true n = refl
not_below_zero false n = grind (arith, nat_tests)

pub none_where_free : (x : KExpr) → needs_parens free_place x ≡ false
unfolding needs_parens is_looser
none_where_free x = ap (λ z. z || false || false) (not_below_zero (is_as x) (outer_level x))

clashes_is : (n : Neighbor) (x : KExpr) → clashes n x ≡ clashes_by n (out-KExpr x)
unfolding is_is compares_less joins_prefix
clashes_is beside.Other x = refl
clashes_is (beside.Prefix first) x = refl
clashes_is beside.Less x = refl
clashes_is beside.Greater x = refl

needs_is : (p : Place) (x : KExpr) → needs_parens p x ≡ needs_by p (out-KExpr x)
unfolding needs_parens is_looser is_as outer_level compares
needs_is p x = ap (λ z. is_looser_by p (out-KExpr x) || mixes_by p (out-KExpr x) || z) (clashes_is p.neighbor x)

abbrev paren : Brackets → KExpr → KExpr-F KExpr KStmt KChoice KBranch KCatch
paren round x = KExpr-F.Paren round x

no_clash : (n : Neighbor) (round : Brackets) (x : KExpr) → clashes_by n (paren round x) ≡ false
no_clash beside.Other round x = refl
no_clash (beside.Prefix first) round x = refl
no_clash beside.Less round x = refl
no_clash beside.Greater round x = refl

not_above : (n : ℕ) → n ≤ postfix_level → nat_lt postfix_level n ≡ false
not_above n within = grind (arith, nat_tests)

nor : (b : Bool) → (b && false) ≡ false
nor true = refl
nor false = refl

paren_needs : (p : Place) (round : Brackets) (x : KExpr) → p.level ≤ postfix_level → needs_by p (paren round x) ≡ false
paren_needs p round x within =
    ap (λ z. z || (p.in_list && false) || clashes_by p.neighbor (paren round x)) (not_above p.level within)
    ∙ ap (λ z. z || clashes_by p.neighbor (paren round x)) (nor p.in_list)
    ∙ no_clash p.neighbor round x

pub none_around : (round : Brackets) (x : KExpr) (p : Place) → p.level ≤ postfix_level → needs_parens p (e.Paren round x) ≡ false
none_around round x p within =
    needs_is p (e.Paren round x)
    ∙ ap (λ z. needs_by p z) (ap out-KExpr (sym (e.rolls-Paren round x)) ∙ out-roll-KExpr (paren round x))
    ∙ paren_needs p round x within
