-- Primitive types by their views.
use Rattle.std.proofs.Common.{◌≡◌, ◌≢◌, ℕ, List, Some, None, refl, sym, ap, ◌∙◌}
use Rattle.j2k_base.specs.declared.constants.Kind.{Kind}
use Rattle.java_typed.specs.declared.types.ClassRef.{ClassRef}
use Rattle.java_typed.specs.declared.types.TType.{TType, out-TType, out-roll-TType}
use Rattle.java_typed.specs.declared.types.TType.TheOpen.{TType-F}
use Rattle.java_typed.specs.declared.types.TType.TheVariants as t
use Rattle.java_typed.specs.declared.types.TypeView.{TypeView}
use Rattle.java_typed.specs.declared.types.TypeView.TheVariants as view
use Rattle.java_typed.specs.Reading.{shown}
use Rattle.java_type_relations.specs.declared.kinds.Simple.TheVariants as simple
use Rattle.java_type_relations.specs.Kinds.{simple_by, simple_of}
use Rattle.java_type_relations.proofs.LawsToCite.{out_array, out_boolean, out_class, out_null, out_number, out_variable}

pub simple_boolean : simple_of t.Boolean ≡ Some simple.Boolean
unfolding simple_of
simple_boolean = ap simple_by out_boolean

pub simple_number : (k : Kind) → simple_of (t.Number k) ≡ Some (simple.Number k)
unfolding simple_of
simple_number k = ap simple_by (out_number k)

pub simple_none : (x : TypeView) → ((k : Kind) → x ≢ view.Number k) → (x ≢ view.Boolean) → simple_of (shown x) ≡ None
unfolding simple_of
simple_none (view.Number k) h g = absurd (h k refl)
simple_none view.Boolean h g = absurd (g refl)
simple_none view.Null h g = ap simple_by out_null
simple_none (view.Class c xs) h g = ap simple_by (out_class c xs.now)
simple_none (view.Variable c n) h g = ap simple_by (out_variable c n)
simple_none (view.Array y) h g = ap simple_by (out_array y.now)
