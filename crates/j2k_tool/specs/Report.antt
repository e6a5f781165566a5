-- The choices of a conversion, and the report on them.
use Rattle.std.specs.Prelude.{ℕ, List, [], ◌∷◌, ◌++◌, length, Bool, true, false, if◌then◌else◌, codes}
use Rattle.std.specs.Fmt.{decimal}
use Rattle.std.specs.List.{flat_map, list_any}
use Rattle.j2k_base.specs.declared.choices.ChoiceKind.{ChoiceKind}
use Rattle.j2k_base.specs.declared.choices.ChoiceKind.TheVariants.{Companion, Property, Rename, Widen, Nullable, When, Chain, Range, While, Bind, Copy, Fold, Drop}
use Rattle.j2k_base.specs.declared.choices.Choice.{Choice}
use Rattle.java_tree.specs.declared.tokens.Position.{Position}
use Rattle.java_typed.specs.declared.units.TMethod.{TMethod}
use Rattle.java_typed.specs.declared.units.TClass.{TClass}
use Rattle.j2k_tool.specs.declared.files.TakenFile.{TakenFile}
use Rattle.j2k_faults.specs.Faults.{place_text, line_end}

abbrev pub kind_text : ChoiceKind → List ℕ
kind_text Companion = codes "companion"
kind_text Property = codes "property"
kind_text Rename = codes "rename"
kind_text Widen = codes "widen"
kind_text Nullable = codes "nullable"
kind_text When = codes "when"
kind_text Chain = codes "chain"
kind_text Range = codes "range"
kind_text While = codes "while"
kind_text Bind = codes "bind"
kind_text Copy = codes "copy"
kind_text Fold = codes "fold"
kind_text Drop = codes "drop"

-- the text of a choice behind a blank; what is dropped has none
abbrev pub choice_text : ChoiceKind → List ℕ → List ℕ
choice_text Drop text = []
choice_text _ text = codes " " ++ text

-- a line of the report: `PATH:LINE:COLUMN KIND TEXT`
abbrev pub choice_line : Choice → List ℕ
choice_line choice = place_text choice.place ++ codes " " ++ kind_text choice.kind ++ choice_text choice.kind choice.text ++ line_end

-- the report on so many files and these choices
unfoldable pub ReportText : ℕ → List Choice → List ℕ
ReportText files choices =
    codes "j2k-report 1" ++ line_end ++ codes "files " ++ decimal files ++ line_end ++ codes "choices " ++ decimal (length choices) ++ line_end ++ flat_map choice_line choices

-- a companion, at a position of the file of a path
abbrev pub companion : List ℕ → Position → List ℕ → Choice
companion path at name = record {
  kind = Companion;
  place = record { path = path; offset = at.offset; line = at.line; column = at.column };
  text = name;
}

-- a class has one where a method of it is static
abbrev pub companions : List ℕ → TClass → List Choice
companions path c = if list_any (λ (m : TMethod). m.modifiers.is_static) c.methods then companion path c.at c.name ∷ [] else []

abbrev pub class_choices : List ℕ → List TClass → List Choice
class_choices path [] = []
class_choices path (c ∷ cs) = companions path c

-- the choices of a file that is taken, at the name of its class
abbrev pub Choices : TakenFile → List Choice
Choices taken = class_choices taken.path taken.typed.classes

abbrev pub holds_class : List TClass → Bool
holds_class [] = false
holds_class (c ∷ cs) = true

-- a class stands in the file
unfoldable pub has_class : TakenFile → Bool
has_class taken = holds_class taken.typed.classes
