-- The depth of each form, and turns of a loop.
use Rattle.std.proofs.Common.{◌≡◌, ◌<◌, ◌≤◌, ◌+◌, ◌-◌, ℕ, suc, max, Bool, ◌++◌, List, [], ◌∷◌, map, ap, sym, ◌∙◌, arith}
use Rattle.java_tree.specs.declared.tokens.Position.{Position}
use Rattle.java_tree.specs.declared.types.Primitive.{Primitive}
use Rattle.java_tree.specs.declared.types.JQualified.{JQualified}
use Rattle.java_tree.specs.declared.types.JBrackets.{JBrackets}
use Rattle.java_tree.specs.declared.types.JType.{JType, fold-roll-JType}
use Rattle.java_tree.specs.declared.types.JType.TheVariants as ty
use Rattle.java_tree.specs.declared.types.JType.TheOpen.{JType-F}
use Rattle.java_tree.specs.Trees.{type_depth, type_depth_by, deepest}
use Rattle.java_expr_grammar.proofs.Seen.{length_seen}

pub one_more : {X : Type 0} {x : X} (f : ℕ → X) (n at : ℕ) → at < n → x ≡ f (n - at) → x ≡ f (suc (n - (at + 1)))
one_more f n at below e = let turn : n - at ≡ suc (n - (at + 1)) = omega arith in e ∙ ap f turn

pub no_more : {X : Type 0} {x : X} (f : ℕ → X) (n at : ℕ) → n ≤ at → x ≡ f (n - at) → x ≡ f 0
no_more f n at done e = let none : n - at ≡ 0 = omega arith in e ∙ ap f none

pub deeper : {X : Type 0} (f : ℕ → X) (n : ℕ) → 0 < n → f n ≡ f (suc (n - 1))
deeper f n some = let e : n ≡ suc (n - 1) = omega arith in ap f e

pub depth_Primitive : (p : Primitive) (at : Position) → type_depth (ty.Primitive p at) ≡ 1
unfolding type_depth
depth_Primitive p at = ap type_depth (sym (ty.rolls-Primitive p at)) ∙ fold-roll-JType ℕ type_depth_by (JType-F.Primitive p at)

pub depth_Class : (q : JQualified) → type_depth (ty.Class q) ≡ 1
unfolding type_depth
depth_Class q = ap type_depth (sym (ty.rolls-Class q)) ∙ fold-roll-JType ℕ type_depth_by (JType-F.Class q)

pub depth_Applied : (q : JQualified) (lp : Position) (args : List JType) (commas : List Position) (j : Bool) (close : Position) → type_depth (ty.Applied q lp args commas j close) ≡ suc (deepest (map type_depth args))
unfolding type_depth
depth_Applied q lp args commas j close = ap type_depth (sym (ty.rolls-Applied q lp args commas j close)) ∙ fold-roll-JType ℕ type_depth_by (JType-F.Applied q lp args commas j close)

pub depth_Array : (x : JType) (pairs : List JBrackets) → type_depth (ty.Array x pairs) ≡ suc (type_depth x)
unfolding type_depth
depth_Array x pairs = ap type_depth (sym (ty.rolls-Array x pairs)) ∙ fold-roll-JType ℕ type_depth_by (JType-F.Array x pairs)

pub deepest_more : {A : Type 0} (f : A → ℕ) (xs : List A) (x : A) → deepest (map f (xs ++ x ∷ [])) ≡ max (deepest (map f xs)) (f x)
deepest_more f [] x = omega arith
deepest_more f (y ∷ ys) x = omega (arith, deepest_more f ys x)

pub ruleset parts = (depth_Primitive, depth_Class, depth_Applied, depth_Array, deepest_more, length_seen)
