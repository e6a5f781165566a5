-- Types as values.
use Rattle.std.specs.Prelude.{ℕ, Bool, true, false, ◌&&◌, ◌==◌, if◌then◌else◌, List, [], ◌∷◌, slice_get, unwrap_or}
use Rattle.j2k_base.specs.declared.constants.Kind.{Kind}
use Rattle.j2k_base.specs.declared.constants.Kind.TheVariants as kind
use Rattle.java_typed.specs.declared.types.ClassRef.{ClassRef}
use Rattle.java_typed.specs.declared.types.ClassRef.TheVariants as class
use Rattle.java_typed.specs.declared.types.TType.{TType, fold-TType, out-TType}
use Rattle.java_typed.specs.declared.types.TType.TheOpen.{TType-F}
use Rattle.java_typed.specs.declared.types.TType.TheVariants as t

-- ---- sameness

abbrev pub same_kind : Kind → Kind → Bool
same_kind kind.Byte kind.Byte = true
same_kind kind.Short kind.Short = true
same_kind kind.Char kind.Char = true
same_kind kind.Int kind.Int = true
same_kind kind.Long kind.Long = true
same_kind k l = false

abbrev pub same_class : ClassRef → ClassRef → Bool
same_class (class.Library a) (class.Library b) = a == b
same_class (class.Project a) (class.Project b) = a == b
same_class c d = false

abbrev pub same_each : List (TType → Bool) → List TType → Bool
same_each [] [] = true
same_each [] (y ∷ ys) = false
same_each (f ∷ fs) [] = false
same_each (f ∷ fs) (y ∷ ys) = f y && same_each fs ys

abbrev pub same_forms : TType-F (TType → Bool) → TType-F TType → Bool
same_forms (TType-F.Number k) (TType-F.Number l) = same_kind k l
same_forms TType-F.Boolean TType-F.Boolean = true
same_forms TType-F.Null TType-F.Null = true
same_forms (TType-F.Class c fs) (TType-F.Class d ys) = same_class c d && same_each fs ys
same_forms (TType-F.Variable c n) (TType-F.Variable d m) = same_class c d && n == m
same_forms (TType-F.Array f) (TType-F.Array y) = f y
same_forms x y = false

-- whether two types are the same (JLS 4.3.4)
unfoldable pub same : TType → TType → Bool
same = fold-TType (TType → Bool) (λ x y. same_forms x (out-TType y))

-- ---- type arguments in the place of type parameters

-- what stands in the place of a parameter: its argument; the parameter of another class, or one that has no argument, stays
abbrev pub argument : ClassRef → List TType → ClassRef → ℕ → TType
argument c args d n = if same_class c d then unwrap_or (slice_get args n) (t.Variable d n) else t.Variable d n

abbrev pub put_by : ClassRef → List TType → TType-F TType → TType
put_by c args (TType-F.Number k) = t.Number k
put_by c args TType-F.Boolean = t.Boolean
put_by c args TType-F.Null = t.Null
put_by c args (TType-F.Class d inner) = t.Class d inner
put_by c args (TType-F.Variable d n) = argument c args d n
put_by c args (TType-F.Array element) = t.Array element

-- the type with the arguments of a class in the place of its parameters (JLS 4.5)
unfoldable pub put : ClassRef → List TType → TType → TType
put c args = fold-TType TType (put_by c args)
