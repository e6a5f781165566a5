-- A fold's parts: what a tree gave, beside the units that it appended.
use Rattle.std.specs.Prelude.{◌≡◌, ℕ, Bool, not, List, ◌++◌, Option, Some, None, take, drop}
use Rattle.j2k_base.specs.declared.constants.Op2.{Op2}
use Rattle.j2k_base.specs.declared.constants.Op2.TheVariants as by
use Rattle.j2k_base.specs.declared.constants.Const.{Const}
use Rattle.j2k_base.specs.declared.constants.Const.TheVariants as constant
use Rattle.j2k_base.specs.declared.constants.Value.{Value}
use Rattle.j2k_base.specs.declared.constants.Value.TheVariants as value
use Rattle.const_fold.specs.declared.folding.Part.{Part}
use Rattle.const_fold.specs.declared.folding.Part.TheVariants.{Number, Text}
use Rattle.const_fold.specs.Constants.{text_of, value2, same_text, chosen_number}

-- a part stands for a value, where `old` are the units before it and `new` those after it
abbrev pub HasPart : Option Value → List ℕ → List ℕ → Option Part → Type 0
HasPart v old new None = v ≡ None
HasPart v old new (Some (Number c)) = (v ≡ Some (value.Number c)) × (new ≡ old)
HasPart v old new (Some Text) = (text : List ℕ) × (v ≡ Some (value.Text text)) × (new ≡ old ++ text)

-- a number or a truth value as a part
abbrev pub as_part : Option Const → Option Part
as_part (Some c) = Some (Number c)
as_part None = None

-- an operation on a number or a truth value
abbrev pub on_part : (Const → Option Const) → Option Part → Option Part
on_part f (Some (Number c)) = as_part (f c)
on_part f _ = None

-- the units before the right operand: `+` has appended the text of a number
abbrev pub before_right : Part → Op2 → List ℕ → List ℕ
before_right (Number c) by.Add units = units ++ text_of c
before_right (Number c) _ units = units
before_right Text op units = units

-- what a text and a number give
abbrev pub joined_part : Op2 → Option Part
joined_part by.Add = Some Text
joined_part _ = None

-- what two texts give
abbrev pub texts_part : Op2 → List ℕ → List ℕ → Option Part
texts_part by.Add s t = Some Text
texts_part by.Eq s t = Some (Number (constant.Bool (same_text s t)))
texts_part by.Ne s t = Some (Number (constant.Bool (not (same_text s t))))
texts_part _ s t = None

-- the units after two texts
abbrev pub texts_units : Op2 → ℕ → List ℕ → List ℕ
texts_units by.Eq start units = take start units
texts_units by.Ne start units = take start units
texts_units _ start units = units

-- what two operands give, where the left one's units begin at `start` and the right one's at `middle`
abbrev pub two_part : Part → Part → Op2 → ℕ → ℕ → List ℕ → Option Part
two_part (Number a) (Number b) op start middle units = as_part (value2 op a b)
two_part (Number a) Text op start middle units = joined_part op
two_part Text (Number b) op start middle units = joined_part op
two_part Text Text op start middle units = texts_part op (drop start (take middle units)) (drop middle units)

-- the units after two operands
abbrev pub two_units : Part → Part → Op2 → ℕ → List ℕ → List ℕ
two_units (Number a) (Number b) op start units = take start units
two_units (Number a) Text op start units = units
two_units Text (Number b) op start units = units ++ text_of b
two_units Text Text op start units = texts_units op start units

-- what a conditional gives
abbrev pub chosen_part : Bool → Option Part → Option Part → Option Part
chosen_part p (Some (Number a)) (Some (Number b)) = as_part (chosen_number p a b)
chosen_part p (Some Text) (Some Text) = Some Text
chosen_part p _ _ = None
