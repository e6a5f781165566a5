-- What expressions use (JLS 15).
use Rattle.std.specs.Prelude.{ℕ, Bool, true, false, ◌&&◌, List, [], ◌∷◌, Option, Some, None}
use Rattle.java_typed.specs.declared.types.ClassRef.{ClassRef}
use Rattle.java_typed.specs.declared.types.ClassRef.TheVariants as class
use Rattle.java_typed.specs.declared.types.TResult.{TResult}
use Rattle.java_typed.specs.declared.members.MemberRef.{MemberRef}
use Rattle.java_typed.specs.declared.exprs.TExpr.{TExpr, fold-TExpr, map-TExpr}
use Rattle.java_typed.specs.declared.exprs.TExpr.TheOpen.{TExpr-F}
use Rattle.java_typed.specs.Reading.{type_by}
use Rattle.facts.specs.Uses.{Use, Uses, Reads, Writes, Calls, This, Further, Used, none, one, both, where_so, using, this_used, null_used, constant_used, paren_used, member, lambda, mentions_this}
use Rattle.java_facts.specs.Kinds.{value_is_zero, keeps_zero, result_sort, is_object, is_box_conversion}

-- classes by what they are, members by their places
abbrev pub JavaUses : Type 0
JavaUses = Uses ClassRef ℕ

abbrev pub JavaUsed : Type 0
JavaUsed = Used ClassRef ℕ

-- Of an expression: its type; what its value uses; as a target, what is used when it is stored to without being read.
pub record Seen : Type 0 where
  pub kind : TResult
  pub used : JavaUsed
  pub stored : JavaUses

-- what methods are, as far as uses ask: whether a method is an accessor that is read as its field, whether an object of a class holds
-- one of the class around it
pub record Known : Type 0 where
  pub is_accessor : MemberRef → Bool
  pub is_inner : ClassRef → Bool

abbrev pub all_uses : List Seen → JavaUses
all_uses [] = none
all_uses (x ∷ more) = both x.used.uses (all_uses more)

-- of the library's statics only constants are none
abbrev pub of_static : (ClassRef → ℕ → Use ClassRef ℕ) → MemberRef → JavaUses
of_static made m = by m.class
  where
    by : ClassRef → JavaUses
    by (class.Library n) = one Further
    by (class.Project n) = one (made m.class m.place)

-- own rule: making a text of an object of the project is a further use
abbrev pub text_of : Seen → JavaUses
text_of x = where_so (is_object (result_sort x.kind)) (one Further)

-- in implicit conversions a constant stays one; null isn't converted (JLS 5.1)
abbrev pub converted_used : Bool → JavaUsed → JavaUsed
converted_used keeps e = record { is_this = false; is_zero = keeps && e.is_zero; is_null = false; uses = e.uses }

-- a call on an object: an accessor is read as its field, the values of boxes are conversions, all else is a further use
abbrev pub call_uses : Bool → Bool → JavaUsed → JavaUses → JavaUses
call_uses true is_conversion object arguments = both (member object) arguments
call_uses false true object arguments = both object.uses arguments
call_uses false false object arguments = both (both object.uses arguments) (one Further)

-- `new`: the library's objects are made of their arguments alone; an anonymous object and an inner one of the project hold `this`
-- (JLS 15.9.2)
abbrev pub new_uses : ClassRef → Bool → Option ℕ → JavaUses
new_uses c is_inner (Some body) = both (one Further) (one This)
new_uses (class.Library n) is_inner None = none
new_uses (class.Project n) is_inner None = both (one Further) (where_so is_inner (one This))

module _ (k : Known) (bodies : ℕ → JavaUses) where
  abbrev pub used_by : TExpr-F Seen → JavaUsed
  used_by (TExpr-F.Literal v at) = constant_used (value_is_zero v)
  used_by (TExpr-F.Null at) = null_used
  -- a constant expression counts as its value (JLS 15.28)
  used_by (TExpr-F.Constant v inner) = constant_used (value_is_zero v)
  used_by (TExpr-F.This at is_written kind) = this_used
  used_by (TExpr-F.Paren at inner) = paren_used inner.used
  used_by (TExpr-F.Local name at kind) = using none
  used_by (TExpr-F.Static first m at kind) = using (of_static Reads m)
  used_by (TExpr-F.Field object m at kind) = using (member object.used)
  used_by (TExpr-F.Length array at) = using (both array.used.uses (one Further))
  used_by (TExpr-F.Element array index kind) = using (both (both array.used.uses index.used.uses) (one Further))
  used_by (TExpr-F.StaticCall first m at arguments r) = using (both (all_uses arguments) (of_static Calls m))
  used_by (TExpr-F.VirtualCall object m at arguments r) = using (call_uses (k.is_accessor m) (is_box_conversion m) object.used (all_uses arguments))
  used_by (TExpr-F.ExactCall object is_super m at arguments r) = using (call_uses (k.is_accessor m) false object.used (all_uses arguments))
  used_by (TExpr-F.Through object m) = using (both object.used.uses m.used.uses)
  used_by (TExpr-F.Step is_prefix o at target kind) = using (both target.used.uses target.stored)
  used_by (TExpr-F.Unary o at inner) = using inner.used.uses
  used_by (TExpr-F.Binary left o at right) = using (both left.used.uses right.used.uses)
  used_by (TExpr-F.Concat left at right) = using (both (both left.used.uses right.used.uses) (both (text_of left) (text_of right)))
  used_by (TExpr-F.Same left is_equal at right) = using (both left.used.uses right.used.uses)
  used_by (TExpr-F.Instanceof inner at kind) = using inner.used.uses
  -- a cast to a box is no constant, nor is one of null the literal null
  used_by (TExpr-F.Cast at kind inner) = using inner.used.uses
  used_by (TExpr-F.Convert c inner) = converted_used (keeps_zero c) inner.used
  used_by (TExpr-F.Conditional test first second kind) = using (both test.used.uses (both first.used.uses second.used.uses))
  used_by (TExpr-F.Assign target at v) = using (both target.stored v.used.uses)
  used_by (TExpr-F.Compound target o kind at v) = using (both (both target.used.uses target.stored) v.used.uses)
  used_by (TExpr-F.Append target at v) = using (both (both target.used.uses target.stored) (both v.used.uses (both (text_of target) (text_of v))))
  -- a lambda holds `this` where its body names it (JLS 15.27.2)
  used_by (TExpr-F.Lambda l inner) = using (lambda (mentions_this inner.used.uses))
  used_by (TExpr-F.LambdaBlock l number) = using (lambda (mentions_this (bodies number)))
  used_by (TExpr-F.New at kind m arguments body) = using (both (all_uses arguments) (new_uses m.class (k.is_inner m.class) body))
  used_by (TExpr-F.NewArray at kind size) = using (both size.used.uses (one Further))
  used_by (TExpr-F.NewFilled at kind elements) = using (both (all_uses elements) (one Further))

  -- a static that is stored to isn't read; of another target its object, its array and its index are used
  abbrev pub stored_by : TExpr-F Seen → JavaUses
  stored_by (TExpr-F.Static first m at kind) = of_static Writes m
  stored_by (TExpr-F.Paren at inner) = inner.stored
  stored_by (TExpr-F.Through object m) = both object.used.uses m.stored
  stored_by x = (used_by x).uses

  abbrev pub seen_by : TExpr-F Seen → Seen
  seen_by x = record { kind = type_by (map-TExpr Seen TResult (λ s. s.kind) x); used = used_by x; stored = stored_by x }

  unfoldable pub seen : TExpr → Seen
  seen = fold-TExpr Seen seen_by

  abbrev pub uses_of : TExpr → JavaUses
  uses_of x = (seen x).used.uses
