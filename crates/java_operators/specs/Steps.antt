-- The conversions of an operand to the type that its operator works in (JLS 5.6), and of a result to a variable's type.
use Rattle.std.specs.Prelude.{Option, Some, None, if◌then◌else◌}
use Rattle.java_typed.specs.declared.types.TType.{TType}
use Rattle.java_typed.specs.declared.exprs.Conversion.{Conversion}
use Rattle.java_typed.specs.declared.exprs.Conversion.TheVariants as to
use Rattle.java_type_relations.specs.declared.kinds.Simple.{Simple}
use Rattle.java_type_relations.specs.declared.kinds.Simple.TheVariants as simple
use Rattle.java_type_relations.specs.Kinds.{simple_in, simple_of, unboxed}
use Rattle.java_type_relations.specs.Types.{same_kind}
use Rattle.java_operators.specs.declared.steps.Steps.{Steps}

-- out of a box (JLS 5.1.8), and into one (JLS 5.1.7)
abbrev pub unboxing : Simple → Conversion
unboxing (simple.Number k) = to.Unbox k
unboxing simple.Boolean = to.UnboxBoolean

abbrev pub boxing : Simple → Conversion
boxing (simple.Number k) = to.Box k
boxing simple.Boolean = to.BoxBoolean

-- between primitive types (JLS 5.1.2 to 5.1.4); none where they are the same
abbrev pub between : Simple → Simple → Option Conversion
between (simple.Number k) (simple.Number l) = if same_kind k l then None else Some (to.Number k l)
between p q = None

abbrev pub held : TType → Option Simple → Option Simple
held x (Some p) = None
held x None = unboxed x

-- what a box holds, where a type is that of boxes
abbrev pub box_in : TType → Option Simple
box_in x = held x (simple_of x)

abbrev pub by_box : (Simple → Conversion) → Option Simple → Option Conversion
by_box f None = None
by_box f (Some p) = Some (f p)

abbrev pub from_some : Option Simple → Simple → Option Conversion
from_some None q = None
from_some (Some p) q = between p q

abbrev pub to_some : Simple → Option Simple → Option Conversion
to_some p None = None
to_some p (Some q) = between p q

-- an operand: out of its box, and to the type that its operator works in
abbrev pub operand_steps : TType → Simple → Steps
operand_steps x q = record { first = by_box unboxing (box_in x); second = from_some (simple_in x) q }

-- a result: to the primitive type of the variable or of its box, and into that (JLS 15.14.2, 15.15.1, 15.26.2)
abbrev pub stored_steps : Simple → TType → Steps
stored_steps p x = record { first = to_some p (simple_in x); second = by_box boxing (box_in x) }
