-- The initializers of a class as items, in the order of the text (JLS 8.3.2, 8.6, 8.7).
use Rattle.std.specs.Prelude.{ℕ, Bool, true, false, not, ◌&&◌, ◌==◌, List, [], ◌∷◌, Option, Some, None, slice_get, if◌then◌else◌}
use Rattle.java_typed.specs.declared.types.ClassRef.{ClassRef}
use Rattle.java_typed.specs.declared.exprs.TExpr.{TExpr, fold-TExpr}
use Rattle.java_typed.specs.declared.exprs.TExpr.TheOpen.{TExpr-F}
use Rattle.java_typed.specs.declared.statements.TBody.{TBody}
use Rattle.java_typed.specs.declared.exprs.Conversion.{Conversion}
use Rattle.java_typed.specs.declared.exprs.Conversion.TheVariants as to
use Rattle.java_typed.specs.declared.units.TField.{TField}
use Rattle.java_typed.specs.declared.units.TInitializer.{TInitializer}
use Rattle.java_typed.specs.declared.units.TInitializer.TheVariants as part
use Rattle.java_typed.specs.declared.units.TMember.{TMember}
use Rattle.java_typed.specs.declared.units.TMember.TheVariants as m
use Rattle.java_typed.specs.declared.units.TClass.{TClass}
use Rattle.facts.specs.Items.{Item, Unset, Declared, Constant, Default, Late, Given, Block}
use Rattle.java_facts.specs.Kinds.{Sort, Primitive, Boxed, Text, sort_of}
use Rattle.java_facts.specs.Expressions.{JavaUses, JavaUsed, Known, seen}
use Rattle.java_facts.specs.Statements.{nth, body_uses, statements_use}

abbrev pub JavaItem : Type 0
JavaItem = Item ClassRef ℕ

-- ---- constant variables (JLS 4.12.4)

abbrev pub is_number : Conversion → Bool
is_number (to.Number from kind) = true
is_number _ = false

-- a constant expression, converted to the type of its variable (JLS 15.28)
abbrev pub constant_by : TExpr-F Bool → Bool
constant_by (TExpr-F.Literal v at) = true
constant_by (TExpr-F.Constant v inner) = true
constant_by (TExpr-F.Paren at inner) = inner
constant_by (TExpr-F.Convert c inner) = inner && is_number c
constant_by _ = false

unfoldable pub is_constant : TExpr → Bool
is_constant = fold-TExpr Bool constant_by

abbrev pub may_be_constant : Sort → Bool
may_be_constant Primitive = true
may_be_constant Text = true
may_be_constant _ = false

abbrev pub is_constant_variable : TField → TExpr → Bool
is_constant_variable f x = f.modifiers.is_final && may_be_constant (sort_of f.kind.kind) && is_constant x

-- ---- items

-- of a box null is what it has when nothing was stored
abbrev pub box_item : Bool → Bool → ℕ → JavaUses → JavaItem
box_item true is_zero place uses = Default place
box_item false true place uses = Late place
box_item false false place uses = Given place uses

-- by what a variable of the field's type has when nothing was stored (JLS 4.12.5): null, for a box too
abbrev pub given_item : Sort → ℕ → JavaUsed → JavaItem
given_item Primitive place e = if e.is_zero then Default place else Given place e.uses
given_item Boxed place e = box_item e.is_null e.is_zero place e.uses
given_item _ place e = if e.is_null then Default place else Given place e.uses

module _ (k : Known) (is_set : ℕ → TField → Bool) (c : TClass) where
  -- the value that stands with a field's declaration
  abbrev pub value_of : ℕ → List TInitializer → Option (TExpr × List TBody)
  value_of place [] = None
  value_of place (part.Value n x bodies ∷ more) = if n == place then Some (x, bodies) else value_of place more
  value_of place (part.Block at b xs ∷ more) = value_of place more

  abbrev pub bodies_use : List TBody → List JavaUses
  bodies_use [] = []
  bodies_use (b ∷ more) = body_uses k b ∷ bodies_use more

  abbrev pub field_item : ℕ → TField → Option (TExpr × List TBody) → JavaItem
  field_item place f None = if is_set place f then Declared place else Unset place
  field_item place f (Some v) = if f.modifiers.is_static && is_constant_variable f v.0 then Constant place ((seen k (nth (bodies_use v.1)) v.0).used.is_zero) else given_item (sort_of f.kind.kind) place ((seen k (nth (bodies_use v.1)) v.0).used)

  abbrev pub equal : Bool → Bool → Bool
  equal true b = b
  equal false b = not b

  -- where it is of the part that is asked, of the class or of its objects
  abbrev pub field_items : Bool → ℕ → Option TField → List JavaItem → List JavaItem
  field_items is_static place None more = more
  field_items is_static place (Some f) more = if equal is_static f.modifiers.is_static then field_item place f (value_of place c.initializers) ∷ more else more

  abbrev pub block_items : Bool → Option TInitializer → List JavaItem → List JavaItem
  block_items is_static None more = more
  block_items is_static (Some (part.Value n x bodies)) more = more
  block_items is_static (Some (part.Block at b xs)) more = if equal is_static b then Block (statements_use k xs) ∷ more else more

  abbrev pub items : Bool → List TMember → List JavaItem
  items is_static [] = []
  items is_static (m.Field place ∷ more) = field_items is_static place (slice_get c.fields place) (items is_static more)
  items is_static (m.Initializer place ∷ more) = block_items is_static (slice_get c.initializers place) (items is_static more)
  items is_static (m.Method place ∷ more) = items is_static more
  items is_static (m.Constructor place ∷ more) = items is_static more
  items is_static (m.Type place ∷ more) = items is_static more
