-- What is said by the parts of a type and of an expression, and by lists of parts.
use Rattle.std.proofs.Common.{◌≡◌, ℕ, ◌+◌, ◌<◌, List, [], ◌∷◌, ◌++◌, map, take, length, get_or, refl, ap, sym, ◌∙◌, append_assoc, append-nil}
use Rattle.std.proofs.lemmas.List.{take_more, map-append}
use Rattle.java_tree.specs.declared.types.JType.{JType, fold_out-JType}
use Rattle.java_tree.specs.declared.exprs.JExpr.{JExpr, fold_out-JExpr}
use Rattle.java_name_uses.specs.Uses.{Uses, all, type_by, type_uses, type_form, uses_by, uses, form, value, values}

pub type_out : (x : JType) → type_uses x ≡ type_form x
unfolding type_uses
type_out x = fold_out-JType Uses type_by x

pub out : (x : JExpr) → uses x ≡ form x
unfolding uses
out x = fold_out-JExpr Uses uses_by x

all-append : (xs ys : List Uses) → all (xs ++ ys) ≡ all xs ++ all ys
all-append [] ys = refl
all-append (x ∷ xs) ys = ap (λ l. x ++ l) (all-append xs ys) ∙ sym (append_assoc x (all xs) (all ys))

all_ended : (xs : List Uses) (x : Uses) → all (xs ++ x ∷ []) ≡ all xs ++ x
all_ended xs x = all-append xs (x ∷ []) ∙ ap (λ l. all xs ++ l) (append-nil x)

each_ended : {A : Type 0} (f : A → Uses) (xs : List A) (x : A) → all (map f (xs ++ x ∷ [])) ≡ all (map f xs) ++ f x
each_ended f xs x = ap all (map-append f xs (x ∷ [])) ∙ all_ended (map f xs) (f x)

values_ended : (xs : List JExpr) (x : JExpr) → values (map uses (xs ++ x ∷ [])) ≡ values (map uses xs) ++ value (uses x)
values_ended xs x =
    ap values (map-append uses xs (x ∷ [])) ∙ ap all (map-append value (map uses xs) (uses x ∷ []))
    ∙ all_ended (map value (map uses xs)) (value (uses x))

-- a loop that says what each of a list says
told_by : {A : Type 0} (whole : List A → Uses) (f : A → Uses) → ((ys : List A) (y : A) → whole (ys ++ y ∷ []) ≡ whole ys ++ f y) →
    (xs : List A) (i : ℕ) (x : A) (old out next : Uses) → i < length xs → x ≡ get_or xs i x →
    out ≡ old ++ whole (take i xs) → next ≡ out ++ f x → next ≡ old ++ whole (take (i + 1) xs)
told_by whole f ended xs i x old out next within here before now =
    now ∙ ap (λ l. l ++ f x) before ∙ append_assoc old (whole (take i xs)) (f x)
    ∙ ap (λ y. old ++ (whole (take i xs) ++ f y)) here
    ∙ ap (λ l. old ++ l) (sym (ended (take i xs) (get_or xs i x)))
    ∙ ap (λ l. old ++ whole l) (sym (take_more xs i x within))

pub told : {A : Type 0} (f : A → Uses) (xs : List A) (i : ℕ) (x : A) (old out next : Uses) → i < length xs → x ≡ get_or xs i x →
    out ≡ old ++ all (map f (take i xs)) → next ≡ out ++ f x → next ≡ old ++ all (map f (take (i + 1) xs))
told f = told_by (λ l. all (map f l)) f (each_ended f)

pub told_values : (xs : List JExpr) (i : ℕ) (x : JExpr) (old out next : Uses) → i < length xs → x ≡ get_or xs i x →
    out ≡ old ++ values (map uses (take i xs)) → next ≡ out ++ value (uses x) → next ≡ old ++ values (map uses (take (i + 1) xs))
told_values = told_by (λ l. values (map uses l)) (λ x. value (uses x)) values_ended

-- two, one after the other
pub both : (a b old out next : Uses) → out ≡ old ++ a → next ≡ out ++ b → next ≡ old ++ (a ++ b)
both a b old out next first second = second ∙ ap (λ l. l ++ b) first ∙ append_assoc old a b

pub ruleset of_types = (type_out, append_assoc, append-nil)

pub ruleset of_exprs = (out, append_assoc, append-nil)
