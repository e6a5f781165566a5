-- Types by their forms.
use Rattle.std.proofs.Common.{◌≡◌, ℕ, List, sym, ap, ◌∙◌}
use Rattle.j2k_base.specs.declared.constants.Kind.{Kind}
use Rattle.java_typed.specs.declared.types.ClassRef.{ClassRef}
use Rattle.java_typed.specs.declared.types.TType.{TType, roll-TType, out-TType, map-TType, fold-roll-TType, out-roll-TType, roll-out-TType}
use Rattle.java_typed.specs.declared.types.TType.TheOpen.{TType-F}
use Rattle.java_typed.specs.declared.types.TType.TheVariants as t
use Rattle.java_type_relations.specs.Types.{put, put_by, same, same_forms}
use Rattle.std.specs.Prelude.{Bool}

pub out_number : (k : Kind) → out-TType (t.Number k) ≡ TType-F.Number k
out_number k = ap out-TType (sym (t.rolls-Number k)) ∙ out-roll-TType (TType-F.Number k)

pub out_boolean : out-TType t.Boolean ≡ TType-F.Boolean
out_boolean = ap out-TType (sym t.rolls-Boolean) ∙ out-roll-TType TType-F.Boolean

pub out_null : out-TType t.Null ≡ TType-F.Null
out_null = ap out-TType (sym t.rolls-Null) ∙ out-roll-TType TType-F.Null

pub out_class : (c : ClassRef) (xs : List TType) → out-TType (t.Class c xs) ≡ TType-F.Class c xs
out_class c xs = ap out-TType (sym (t.rolls-Class c xs)) ∙ out-roll-TType (TType-F.Class c xs)

pub out_variable : (c : ClassRef) (n : ℕ) → out-TType (t.Variable c n) ≡ TType-F.Variable c n
out_variable c n = ap out-TType (sym (t.rolls-Variable c n)) ∙ out-roll-TType (TType-F.Variable c n)

pub out_array : (x : TType) → out-TType (t.Array x) ≡ TType-F.Array x
out_array x = ap out-TType (sym (t.rolls-Array x)) ∙ out-roll-TType (TType-F.Array x)

-- a type of which the form is known
pub class_from : (x : TType) (c : ClassRef) (xs : List TType) → out-TType x ≡ TType-F.Class c xs → x ≡ t.Class c xs
class_from x c xs e = sym (roll-out-TType x) ∙ ap roll-TType e ∙ t.rolls-Class c xs

pub variable_from : (x : TType) (c : ClassRef) (n : ℕ) → out-TType x ≡ TType-F.Variable c n → x ≡ t.Variable c n
variable_from x c n e = sym (roll-out-TType x) ∙ ap roll-TType e ∙ t.rolls-Variable c n

pub same_at : (x : TType-F TType) (y : TType) → same (roll-TType x) y ≡ same_forms (map-TType TType (TType → Bool) same x) (out-TType y)
unfolding same
same_at x y = ap (λ (f : TType → Bool). f y) (fold-roll-TType (TType → Bool) (λ x y. same_forms x (out-TType y)) x)

pub put_at : (c : ClassRef) (args : List TType) (x : TType-F TType) → put c args (roll-TType x) ≡ put_by c args (map-TType TType TType (put c args) x)
unfolding put
put_at c args x = fold-roll-TType TType (put_by c args) x
