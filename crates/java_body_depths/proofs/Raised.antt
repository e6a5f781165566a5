-- How levels are made of those of the parts.
use Rattle.std.proofs.Common.{◌≡◌, ℕ, suc, ◌+◌, ◌-◌, ◌<◌, ◌≤◌, get_or, take, drop, List, [], ◌∷◌, ◌++◌, map, length, Option, Some, None, refl, ap, sym, ◌∙◌, append_assoc, add-zero, arith}
use Rattle.std.proofs.lemmas.List.{append-nil, map-append, take_all}
use Rattle.java_tree.specs.declared.exprs.JExpr.{JExpr, out-JExpr, map-JExpr, fold_out-JExpr}
use Rattle.java_tree.specs.declared.exprs.JExpr.TheOpen.{JExpr-F}
use Rattle.java_expr_grammar.proofs.LawsToCite.{expr_parts as depths}
use Rattle.java_unit_grammar.specs.Levels.{Levels, all_levels, deeper, levels, levels_by, declarator_levels}
use Rattle.java_unit_grammar.specs.Standing.{initial_levels}
use Rattle.java_statement_grammar.specs.declared.declarations.JDeclarator.{JDeclarator}
use Rattle.java_tree.specs.Trees.{depth, deepest}
use Rattle.java_body_depths.specs.Parts.{raised, parts, parts_by, own, own_by}

pub raised_none : (n : ℕ) → raised n [] ≡ []
unfolding raised
raised_none n = refl

pub raised_first : (n level : ℕ) (xs : Levels) → raised n (level ∷ xs) ≡ (level + n) ∷ raised n xs
unfolding raised
raised_first n level xs = refl

pub raised_joins : (n : ℕ) (xs ys : Levels) → raised n (xs ++ ys) ≡ raised n xs ++ raised n ys
unfolding raised
raised_joins n xs ys = map-append (λ level. level + n) xs ys

pub raised_deeper : (n : ℕ) (xs : Levels) → raised n (deeper xs) ≡ raised (n + 1) xs
raised_deeper n [] = raised_none n ∙ sym (raised_none (n + 1))
raised_deeper n (x ∷ xs) =
    let here : suc x + n ≡ x + (n + 1) = omega arith in
    raised_first n (suc x) (deeper xs) ∙ ap (λ y. y ∷ raised n (deeper xs)) here
    ∙ ap (λ ys. (x + (n + 1)) ∷ ys) (raised_deeper n xs) ∙ sym (raised_first (n + 1) x xs)

layer : (x : JExpr-F Levels) → levels_by x ≡ deeper (parts_by x) ++ own_by x
layer (JExpr-F.Name n at) = refl
layer (JExpr-F.Literal literal at) = refl
layer (JExpr-F.This at) = refl
layer (JExpr-F.Paren lp inner rp) = sym (append-nil _)
layer (JExpr-F.Call n at lp args commas rp) = sym (append-nil _)
layer (JExpr-F.SuperCall above dot n at lp args commas rp) = sym (append-nil _)
layer (JExpr-F.Field left dot n at) = sym (append-nil _)
layer (JExpr-F.Method left dot n at lp args commas rp) = sym (append-nil _)
layer (JExpr-F.Element left lp index rp) = sym (append-nil _)
layer (JExpr-F.Postfix left op at) = sym (append-nil _)
layer (JExpr-F.Prefix op at inner) = sym (append-nil _)
layer (JExpr-F.MinusLeast minus literal at) = refl
layer (JExpr-F.Cast lp to rp inner) = sym (append-nil _)
layer (JExpr-F.Binary left op at right) = sym (append-nil _)
layer (JExpr-F.Instanceof left at to) = sym (append-nil _)
layer (JExpr-F.Conditional left question then_ colon else_) = sym (append-nil _)
layer (JExpr-F.Assign left op at right) = sym (append-nil _)
layer (JExpr-F.Lambda params arrow body) = sym (append-nil _)
layer (JExpr-F.LambdaBlock params arrow body) = refl
layer (JExpr-F.New at made lp args commas rp body) = refl
layer (JExpr-F.NewArray at of lb size rb more) = sym (append-nil _)
layer (JExpr-F.NewFilled at of brackets lc inits commas more rc) = sym (append-nil _)
layer (JExpr-F.Braces lc inits commas more rc) = sym (append-nil _)

out : (x : JExpr) → levels x ≡ deeper (parts x) ++ own x
unfolding levels
out x = fold_out-JExpr Levels levels_by x ∙ layer (map-JExpr JExpr Levels levels (out-JExpr x))

pub raised_out : (n : ℕ) (x : JExpr) → raised n (levels x) ≡ raised (n + 1) (parts x) ++ raised n (own x)
raised_out n x =
    ap (raised n) (out x) ∙ raised_joins n (deeper (parts x)) (own x)
    ∙ ap (λ l. l ++ raised n (own x)) (raised_deeper n (parts x))

pub raised_zero : (xs : Levels) → raised 0 xs ≡ xs
raised_zero [] = raised_none 0
raised_zero (x ∷ xs) = raised_first 0 x xs ∙ ap (λ y. y ∷ raised 0 xs) (add-zero x) ∙ ap (λ ys. x ∷ ys) (raised_zero xs)

pub raised_one : (xs : Levels) → raised 1 xs ≡ deeper xs
raised_one xs = sym (raised_deeper 0 xs) ∙ raised_zero (deeper xs)

pub raised_two : (xs : Levels) → raised 2 xs ≡ deeper (deeper xs)
raised_two xs = sym (raised_deeper 1 xs) ∙ raised_one (deeper xs)

-- ---- of the names of a declaration

all_deeper : (xs : List JDeclarator) → all_levels (map declarator_levels xs) ≡ deeper (all_levels (map initial_levels xs))
all_deeper [] = refl
all_deeper (x ∷ xs) =
    ap (λ l. declarator_levels x ++ l) (all_deeper xs) ∙ sym (map-append suc (initial_levels x) (all_levels (map initial_levels xs)))

pub declared_two : (xs : List JDeclarator) → deeper (all_levels (map declarator_levels xs)) ≡ raised 2 (all_levels (map initial_levels xs))
declared_two xs = ap deeper (all_deeper xs) ∙ sym (raised_two (all_levels (map initial_levels xs)))

-- ---- a list, one after the other

module _ (A : Type 0) (of : A → Levels) where
  pub list_done : (n : ℕ) (xs : List A) (found whole : Levels) → length xs < 1 → found ++ raised n (all_levels (map of xs)) ≡ whole → found ≡ whole
  list_done n [] found whole none same = sym (append-nil found) ∙ ap (λ l. found ++ l) (sym (raised_none n)) ∙ same
  list_done n (x ∷ xs) found whole none same = absurd (omega arith)

  pub list_step : (n m k : ℕ) (x : A) (xs : List A) (found next whole : Levels) → 1 ≤ length xs → x ≡ get_or xs 0 x → k ≡ length xs → m ≡ n
      → next ≡ found ++ raised n (of x) → found ++ raised n (all_levels (map of xs)) ≡ whole
      → next ++ raised m (all_levels (map of (take (k - 1) (drop 1 xs)))) ≡ whole
  list_step n m k x [] found next whole some here long same first all = absurd (omega arith)
  list_step n m k x (y ∷ ys) found next whole some here long same first all =
      let rest : take (k - 1) ys ≡ ys = take_all (k - 1) ys (omega arith) in
      ap (λ l. next ++ raised m (all_levels (map of l))) rest
      ∙ ap (λ d. next ++ raised d (all_levels (map of ys))) same ∙ ap (λ l. l ++ raised n (all_levels (map of ys))) first
      ∙ append_assoc found (raised n (of x)) (raised n (all_levels (map of ys)))
      ∙ ap (λ l. found ++ l) (sym (raised_joins n (of x) (all_levels (map of ys))))
      ∙ ap (λ z. found ++ raised n (of z ++ all_levels (map of ys))) here ∙ all

pub list_within : (k d : ℕ) (xs : List JExpr) → k ≡ length xs → deepest (map depth xs) ≤ d → deepest (map depth (take (k - 1) (drop 1 xs))) ≤ d
list_within k d [] long within =
    let none : take {A = JExpr} (k - 1) [] ≡ [] = take_all {A = JExpr} (k - 1) [] (omega arith) in
    rw none within
list_within k d (y ∷ ys) long within =
    let rest : take (k - 1) ys ≡ ys = take_all (k - 1) ys (omega arith) in
    let less : deepest (map depth ys) ≤ d = omega arith in
    rw rest less

pub ruleset steps = (append_assoc, append-nil, depths, raised_none, raised_first, raised_joins, raised_out)

pub ruleset heads = (append_assoc, append-nil, raised_none, raised_joins, raised_zero, raised_one, declared_two)
