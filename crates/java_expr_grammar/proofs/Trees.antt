-- One layer of a tree: what it spells, its depth, and a tree that stands at another depth.
use Rattle.std.proofs.Common.{◌≡◌, ◌≤◌, ℕ, zero, suc, List, [], ◌∷◌, map, ap, arith}
use Rattle.std.specs.List.{AllByRecursion}
use Rattle.java_tree.specs.declared.types.JType.{JType, out-JType, map-JType, fold_out-JType}
use Rattle.java_tree.specs.declared.types.JType.TheOpen.{JType-F}
use Rattle.java_tree.specs.declared.exprs.JTypedParam.{JTypedParam}
use Rattle.java_tree.specs.declared.exprs.JParams.{JParams}
use Rattle.java_tree.specs.declared.exprs.JParams.TheVariants as params
use Rattle.java_tree.specs.declared.exprs.JCreated.{JCreated}
use Rattle.java_tree.specs.declared.exprs.JCreated.TheVariants as created
use Rattle.java_tree.specs.declared.exprs.JExpr.{JExpr, out-JExpr, roll-JExpr, out-roll-JExpr, map-JExpr, fold-roll-JExpr, fold_out-JExpr}
use Rattle.java_tree.specs.declared.exprs.JExpr.TheOpen.{JExpr-F}
use Rattle.java_tree.specs.Seen.{Tokens}
use Rattle.java_tree.specs.Trees.{tokens, tokens_by, depth, depth_by, deepest, top, top_by, is_left, is_left_by, is_test, is_test_by, is_sized, is_sized_by, type_depth, type_depth_by, type_stands_by, TypeStands, typed_depth, TypedStands, params_depth, params_stand, created_depth, created_stands, stands_by, Stands}

pub spelled : (x : JExpr-F JExpr) → tokens (roll-JExpr x) ≡ tokens_by (map-JExpr JExpr Tokens tokens x)
unfolding tokens
spelled x = fold-roll-JExpr Tokens tokens_by x

pub deep : (x : JExpr-F JExpr) → depth (roll-JExpr x) ≡ depth_by (map-JExpr JExpr ℕ depth x)
unfolding depth
deep x = fold-roll-JExpr ℕ depth_by x

pub deep_out : (x : JExpr) → depth x ≡ depth_by (map-JExpr JExpr ℕ depth (out-JExpr x))
unfolding depth
deep_out x = fold_out-JExpr ℕ depth_by x

pub top_roll : (x : JExpr-F JExpr) → top (roll-JExpr x) ≡ top_by x
unfolding top
top_roll x = ap top_by (out-roll-JExpr x)

pub left_roll : (x : JExpr-F JExpr) → is_left (roll-JExpr x) ≡ is_left_by x
unfolding is_left
left_roll x = ap is_left_by (out-roll-JExpr x)

pub test_roll : (x : JExpr-F JExpr) → is_test (roll-JExpr x) ≡ is_test_by x
unfolding is_test
test_roll x = ap is_test_by (out-roll-JExpr x)

pub sized_roll : (x : JExpr-F JExpr) → is_sized (roll-JExpr x) ≡ is_sized_by x
unfolding is_sized
sized_roll x = ap is_sized_by (out-roll-JExpr x)

pub type_deep_out : (x : JType) → type_depth x ≡ type_depth_by (map-JType JType ℕ type_depth (out-JType x))
unfolding type_depth
type_deep_out x = fold_out-JType ℕ type_depth_by x

-- ---- lists of parts

deepest_within : {A : Type 0} (P : A → Type 0) (f : A → ℕ) (d : ℕ) → ((x : A) → P x → f x ≤ d) → (xs : List A) → AllByRecursion P xs → deepest (map f xs) ≤ d
deepest_within P f d h [] all = omega arith
deepest_within P f d h (x ∷ xs) all = omega (arith, h x all.0, deepest_within P f d h xs all.1)

pub all_resized : {A : Type 0} (P Q : A → Type 0) (f : A → ℕ) (e : ℕ) → ((x : A) → P x → f x ≤ e → Q x) → (xs : List A) → AllByRecursion P xs → deepest (map f xs) ≤ e → AllByRecursion Q xs
all_resized P Q f e h [] all fits = tt
all_resized P Q f e h (x ∷ xs) all fits = (h x all.0 (omega arith), all_resized P Q f e h xs all.1 (omega arith))

-- ---- types

type_layer_within : (d : ℕ) → ((x : JType) → TypeStands d x → type_depth x ≤ d) → (x : JType-F JType) → type_stands_by (TypeStands d) x → type_depth_by (map-JType JType ℕ type_depth x) ≤ suc d
type_layer_within d h (JType-F.Primitive p at) s = omega arith
type_layer_within d h (JType-F.Class q) s = omega arith
type_layer_within d h (JType-F.Applied q lp args commas j rp) s = let k : deepest (map type_depth args) ≤ d = deepest_within (TypeStands d) type_depth d h args s.2 in omega arith
type_layer_within d h (JType-F.Array element brackets) s = omega (arith, h element s.2)

pub type_within : (d : ℕ) (x : JType) → TypeStands d x → type_depth x ≤ d
unfolding TypeStands
type_within zero x s = absurd s
type_within (suc d) x s = rw (type_deep_out x) (type_layer_within d (type_within d) (out-JType x) s)

type_layer_resize : (d e : ℕ) → ((x : JType) → TypeStands d x → type_depth x ≤ e → TypeStands e x) → (x : JType-F JType) → type_stands_by (TypeStands d) x
    → type_depth_by (map-JType JType ℕ type_depth x) ≤ suc e → type_stands_by (TypeStands e) x
type_layer_resize d e h (JType-F.Primitive p at) s fits = tt
type_layer_resize d e h (JType-F.Class q) s fits = tt
type_layer_resize d e h (JType-F.Applied q lp args commas j rp) s fits = (s.0, s.1, all_resized (TypeStands d) (TypeStands e) type_depth e h args s.2 (omega arith))
type_layer_resize d e h (JType-F.Array element brackets) s fits = (s.0, s.1, h element s.2 (omega arith))

pub type_deep_pos : (x : JType-F ℕ) → 1 ≤ type_depth_by x
type_deep_pos (JType-F.Primitive p at) = omega arith
type_deep_pos (JType-F.Class q) = omega arith
type_deep_pos (JType-F.Applied q lp args commas j rp) = omega arith
type_deep_pos (JType-F.Array element brackets) = omega arith

pub type_resize : (d e : ℕ) (x : JType) → TypeStands d x → type_depth x ≤ e → TypeStands e x
unfolding TypeStands
type_resize zero e x s fits = absurd s
type_resize (suc d) zero x s fits = absurd (omega (arith, type_deep_pos (map-JType JType ℕ type_depth (out-JType x)), type_deep_out x))
type_resize (suc d) (suc e) x s fits = type_layer_resize d e (type_resize d e) (out-JType x) s (rw (type_deep_out x) at fits)

-- ---- parameters, and what is created

pub typed_within : (d : ℕ) (p : JTypedParam) → TypedStands d p → typed_depth p ≤ d
unfolding TypedStands
typed_within zero p s = absurd s
typed_within (suc d) p s = omega (arith, type_within d p.kind s)

pub typed_resize : (d e : ℕ) (p : JTypedParam) → TypedStands d p → typed_depth p ≤ e → TypedStands e p
unfolding TypedStands
typed_resize zero e p s fits = absurd s
typed_resize (suc d) zero p s fits = absurd (omega arith)
typed_resize (suc d) (suc e) p s fits = type_resize d e p.kind s (omega arith)

-- A part that is 1 deep has room.
params_within : (d : ℕ) (ps : JParams) → params_stand (TypedStands d) ps → 1 ≤ d → params_depth ps ≤ d
params_within d (params.One p) s room = room
params_within d (params.Several lp ps commas rp) s room = room
params_within d (params.Typed lp ps commas rp) s room = deepest_within (TypedStands d) typed_depth d (typed_within d) ps s.1

params_resize : (d e : ℕ) (ps : JParams) → params_stand (TypedStands d) ps → params_depth ps ≤ e → params_stand (TypedStands e) ps
params_resize d e (params.One p) s fits = tt
params_resize d e (params.Several lp ps commas rp) s fits = s
params_resize d e (params.Typed lp ps commas rp) s fits = (s.0, all_resized (TypedStands d) (TypedStands e) typed_depth e (typed_resize d e) ps s.1 fits)

created_within : (d : ℕ) (made : JCreated) → created_stands d made → created_depth made ≤ d
created_within d (created.Type x) s = omega (arith, type_within (suc d) x s.0)
created_within d (created.Inferred q lp j close) s = omega arith

created_resize : (d e : ℕ) (made : JCreated) → created_stands d made → created_depth made ≤ e → created_stands e made
created_resize d e (created.Type x) s fits = (type_resize (suc d) (suc e) x s.0 (omega (arith, fits)), s.1)
created_resize d e (created.Inferred q lp j close) s fits = tt

-- ---- expressions

pub deep_pos : (x : JExpr-F ℕ) → 1 ≤ depth_by x
deep_pos (JExpr-F.Name n at) = omega arith
deep_pos (JExpr-F.Literal n at) = omega arith
deep_pos (JExpr-F.This at) = omega arith
deep_pos (JExpr-F.Paren lp inner rp) = omega arith
deep_pos (JExpr-F.Call n at lp args commas rp) = omega arith
deep_pos (JExpr-F.SuperCall above dot n at lp args commas rp) = omega arith
deep_pos (JExpr-F.Field left dot n at) = omega arith
deep_pos (JExpr-F.Method left dot n at lp args commas rp) = omega arith
deep_pos (JExpr-F.Element left lp index rp) = omega arith
deep_pos (JExpr-F.Postfix left op at) = omega arith
deep_pos (JExpr-F.Instanceof left at to) = omega arith
deep_pos (JExpr-F.Prefix op at inner) = omega arith
deep_pos (JExpr-F.Cast lp to rp inner) = omega arith
deep_pos (JExpr-F.Binary left op at right) = omega arith
deep_pos (JExpr-F.Conditional left question then_ colon else_) = omega arith
deep_pos (JExpr-F.Assign left op at right) = omega arith
deep_pos (JExpr-F.Lambda params arrow body) = omega arith
deep_pos (JExpr-F.MinusLeast minus literal at) = omega arith
deep_pos (JExpr-F.LambdaBlock params arrow body) = omega arith
deep_pos (JExpr-F.New at made lp args commas rp body) = omega arith
deep_pos (JExpr-F.NewArray at of lb size rb more) = omega arith
deep_pos (JExpr-F.NewFilled at of brackets lc inits commas more rc) = omega arith
deep_pos (JExpr-F.Braces lc inits commas more rc) = omega arith

pub depth_pos : (x : JExpr) → 1 ≤ depth x
depth_pos x = rw (deep_out x) (deep_pos (map-JExpr JExpr ℕ depth (out-JExpr x)))

pub layer_within : (d : ℕ) → ((l : ℕ) (x : JExpr) → Stands d l x → depth x ≤ d) → (x : JExpr-F JExpr) → stands_by d (TypeStands d) (TypedStands d) (Stands d) x → depth_by (map-JExpr JExpr ℕ depth x) ≤ suc d
layer_within d h (JExpr-F.Name n at) s = omega arith
layer_within d h (JExpr-F.Literal n at) s = omega arith
layer_within d h (JExpr-F.This at) s = omega arith
layer_within d h (JExpr-F.Paren lp inner rp) s = omega (arith, h _ inner s)
layer_within d h (JExpr-F.Call n at lp args commas rp) s = let k : deepest (map depth args) ≤ d = deepest_within (Stands d 1) depth d (h 1) args s.1 in omega arith
layer_within d h (JExpr-F.SuperCall above dot n at lp args commas rp) s = let k : deepest (map depth args) ≤ d = deepest_within (Stands d 1) depth d (h 1) args s.1 in omega arith
layer_within d h (JExpr-F.Field left dot n at) s = omega (arith, h _ left s)
layer_within d h (JExpr-F.Method left dot n at lp args commas rp) s = let k : deepest (map depth args) ≤ d = deepest_within (Stands d 1) depth d (h 1) args s.2 in omega (arith, h _ left s.0)
layer_within d h (JExpr-F.Element left lp index rp) s = omega (arith, h _ left s.0, h _ index s.2)
layer_within d h (JExpr-F.Postfix left op at) s = omega (arith, h _ left s)
layer_within d h (JExpr-F.Instanceof left at to) s = omega (arith, h _ left s.0, type_within d to s.1)
layer_within d h (JExpr-F.Prefix op at inner) s = omega (arith, h _ inner s)
layer_within d h (JExpr-F.Cast lp to rp inner) s = omega (arith, type_within d to s.0, h _ inner s.1)
layer_within d h (JExpr-F.Binary left op at right) s = omega (arith, h _ left s.0, h _ right s.1)
layer_within d h (JExpr-F.Conditional left question then_ colon else_) s = omega (arith, h _ left s.0, h _ then_ s.1, h _ else_ s.2)
layer_within d h (JExpr-F.Assign left op at right) s = omega (arith, h _ left s.0, h _ right s.2)
layer_within d h (JExpr-F.MinusLeast minus literal at) s = omega (arith, s.1)
layer_within d h (JExpr-F.Lambda params arrow body) s = let k = h _ body s.1 in omega (arith, k, params_within d params s.0 (omega (arith, k, depth_pos body)))
layer_within d h (JExpr-F.LambdaBlock params arrow body) s = omega (arith, s.1, params_within d params s.0 s.1)
layer_within d h (JExpr-F.New at made lp args commas rp body) s = let k : deepest (map depth args) ≤ d = deepest_within (Stands d 1) depth d (h 1) args s.2 in omega (arith, created_within d made s.0)
layer_within d h (JExpr-F.NewArray at of lb size rb more) s = omega (arith, type_within (suc d) of s.0, h _ size s.2)
layer_within d h (JExpr-F.NewFilled at of brackets lc inits commas more rc) s = let k : deepest (map depth inits) ≤ d = deepest_within (Stands d 0) depth d (h 0) inits s.4 in omega (arith, type_within (suc d) of s.0)
layer_within d h (JExpr-F.Braces lc inits commas more rc) s = let k : deepest (map depth inits) ≤ d = deepest_within (Stands d 0) depth d (h 0) inits s.1 in omega arith

pub within : (d l : ℕ) (x : JExpr) → Stands d l x → depth x ≤ d
unfolding Stands
within zero l x s = absurd s
within (suc d) l x s = rw (deep_out x) (layer_within d (within d) (out-JExpr x) s.1)

pub layer_resize : (d e : ℕ) → ((l : ℕ) (x : JExpr) → Stands d l x → depth x ≤ e → Stands e l x) → (x : JExpr-F JExpr) → stands_by d (TypeStands d) (TypedStands d) (Stands d) x
    → depth_by (map-JExpr JExpr ℕ depth x) ≤ suc e → stands_by e (TypeStands e) (TypedStands e) (Stands e) x
layer_resize d e h (JExpr-F.Name n at) s fits = tt
layer_resize d e h (JExpr-F.Literal n at) s fits = s
layer_resize d e h (JExpr-F.This at) s fits = tt
layer_resize d e h (JExpr-F.Paren lp inner rp) s fits = h _ inner s (omega arith)
layer_resize d e h (JExpr-F.Call n at lp args commas rp) s fits = (s.0, all_resized (Stands d 1) (Stands e 1) depth e (h 1) args s.1 (omega arith))
layer_resize d e h (JExpr-F.SuperCall above dot n at lp args commas rp) s fits = (s.0, all_resized (Stands d 1) (Stands e 1) depth e (h 1) args s.1 (omega arith))
layer_resize d e h (JExpr-F.Field left dot n at) s fits = h _ left s (omega arith)
layer_resize d e h (JExpr-F.Method left dot n at lp args commas rp) s fits = (h _ left s.0 (omega arith), s.1, all_resized (Stands d 1) (Stands e 1) depth e (h 1) args s.2 (omega arith))
layer_resize d e h (JExpr-F.Element left lp index rp) s fits = (h _ left s.0 (omega arith), s.1, h _ index s.2 (omega arith))
layer_resize d e h (JExpr-F.Postfix left op at) s fits = h _ left s (omega arith)
layer_resize d e h (JExpr-F.Instanceof left at to) s fits = (h _ left s.0 (omega arith), type_resize d e to s.1 (omega arith))
layer_resize d e h (JExpr-F.Prefix op at inner) s fits = h _ inner s (omega arith)
layer_resize d e h (JExpr-F.Cast lp to rp inner) s fits = (type_resize d e to s.0 (omega arith), h _ inner s.1 (omega arith), s.2)
layer_resize d e h (JExpr-F.Binary left op at right) s fits = (h _ left s.0 (omega arith), h _ right s.1 (omega arith), s.2)
layer_resize d e h (JExpr-F.Conditional left question then_ colon else_) s fits = (h _ left s.0 (omega arith), h _ then_ s.1 (omega arith), h _ else_ s.2 (omega arith))
layer_resize d e h (JExpr-F.Assign left op at right) s fits = (h _ left s.0 (omega arith), s.1, h _ right s.2 (omega arith))
layer_resize d e h (JExpr-F.MinusLeast minus literal at) s fits = (s.0, omega arith)
layer_resize d e h (JExpr-F.Lambda params arrow body) s fits = (params_resize d e params s.0 (omega arith), h _ body s.1 (omega arith))
layer_resize d e h (JExpr-F.LambdaBlock params arrow body) s fits = (params_resize d e params s.0 (omega arith), omega arith)
layer_resize d e h (JExpr-F.New at made lp args commas rp body) s fits = (created_resize d e made s.0 (omega arith), s.1, all_resized (Stands d 1) (Stands e 1) depth e (h 1) args s.2 (omega arith))
layer_resize d e h (JExpr-F.NewArray at of lb size rb more) s fits = (type_resize (suc d) (suc e) of s.0 (omega arith), s.1, h _ size s.2 (omega arith))
layer_resize d e h (JExpr-F.NewFilled at of brackets lc inits commas more rc) s fits = (type_resize (suc d) (suc e) of s.0 (omega arith), s.1, s.2, s.3, all_resized (Stands d 0) (Stands e 0) depth e (h 0) inits s.4 (omega arith))
layer_resize d e h (JExpr-F.Braces lc inits commas more rc) s fits = (s.0, all_resized (Stands d 0) (Stands e 0) depth e (h 0) inits s.1 (omega arith))

-- A tree that stands, and whose depth fits a number, stands with that.
pub resize : (d e l : ℕ) (x : JExpr) → Stands d l x → depth x ≤ e → Stands e l x
unfolding Stands
resize zero e l x s fits = absurd s
resize (suc d) zero l x s fits = absurd (omega (arith, deep_pos (map-JExpr JExpr ℕ depth (out-JExpr x)), deep_out x))
resize (suc d) (suc e) l x s fits = (s.0, layer_resize d e (resize d e) (out-JExpr x) s.1 (rw (deep_out x) at fits))

pub at_level : (d l k : ℕ) (x : JExpr) → Stands d l x → k ≤ top x → Stands d k x
unfolding Stands
at_level zero l k x s h = absurd s
at_level (suc d) l k x s h = (h, s.1)

pub level_is : (d l : ℕ) (x : JExpr) → Stands d l x → l ≤ top x
unfolding Stands
level_is zero l x s = absurd s
level_is (suc d) l x s = s.0
