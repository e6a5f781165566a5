-- What Java's texts read, assign and reach, and where they jump.
use Rattle.std.specs.Prelude.{ℕ, Bool, true, false, ◌&&◌, ◌==◌, List}
use Rattle.std.specs.Str.{bytes_eq}
use Rattle.java_tree.specs.declared.tokens.Position.{Position}
use Rattle.java_typed.specs.declared.types.ClassRef.{ClassRef}
use Rattle.java_typed.specs.declared.types.ClassRef.TheVariants as class
use Rattle.java_typed.specs.declared.members.MemberRef.{MemberRef}
use Rattle.flow.specs.Acts.{Act, Test, Does}
use Rattle.flow.specs.Analyses.{Use, Reaches}

-- A variable as a text names it: a local; a field by its simple name, by `this` and a dot before it, or in another way, in which
-- it is neither known to be assigned nor may a final one be assigned (JLS 16).
pub data Variable : Type 0 where
  Local : List ℕ → Variable
  Simple : MemberRef → Variable
  OfThis : MemberRef → Variable
  Distant : MemberRef → Variable

-- where a jump goes: behind the innermost loop or switch, behind the statement of a label (JLS 14.15), to the next round of the
-- innermost loop, or of that of a label (JLS 14.16), out of the body (JLS 14.17)
pub data Target : Type 0 where
  Behind : Target
  BehindLabel : List ℕ → Target
  Next : Target
  NextLabel : List ℕ → Target
  Out : Target

abbrev pub same_target : Target → Target → Bool
same_target Behind Behind = true
same_target (BehindLabel x) (BehindLabel y) = bytes_eq x y
same_target Next Next = true
same_target (NextLabel x) (NextLabel y) = bytes_eq x y
same_target Out Out = true
same_target _ _ = false

abbrev pub JavaUse : Type 0
JavaUse = Use Variable Position

abbrev pub JavaAct : Type 0
JavaAct = Act JavaUse Target

abbrev pub JavaTest : Type 0
JavaTest = Test JavaUse Target

-- a statement begins
abbrev pub reached : Position → JavaAct
reached at = Does (Reaches at)

-- ---- one variable

abbrev pub same_class : ClassRef → ClassRef → Bool
same_class (class.Library m) (class.Library n) = m == n
same_class (class.Project m) (class.Project n) = m == n
same_class _ _ = false

abbrev pub same_member : MemberRef → MemberRef → Bool
same_member m n = same_class m.class n.class && (m.place == n.place)

abbrev pub is_local : List ℕ → Variable → Bool
is_local name (Local x) = bytes_eq name x
is_local name _ = false

-- `this.f` counts as `f` (JLS 16)
abbrev pub is_field : MemberRef → Variable → Bool
is_field member (Simple m) = same_member member m
is_field member (OfThis m) = same_member member m
is_field member _ = false
