-- When files of Kotlin are well typed: nothing is noted of the names and types in them, of bodies, of the flow through them, and
-- of declarations.
use Rattle.std.specs.Prelude.{◌≡◌, ℕ, List, [], ◌∷◌, ◌++◌}
use Rattle.j2k_base.specs.declared.places.Fault.{Fault}
use Rattle.judged.specs.Notes.{IsFirst, faults_in}
use Rattle.kotlin_tree.specs.declared.files.KFile.{KFile}
use Rattle.kotlin_flow.specs.Faults.{AssignedAgain, FlowCode, FlowFault, Missing, NotAssigned}
use Rattle.kotlin_flow.specs.Files.{class_faults}
use Rattle.kotlin_typing.specs.Notes.{Notes, noted}
use Rattle.kotlin_typing.specs.Bodies.{members_notes}
use Rattle.kotlin_project.specs.Declared.{Numbered, declared, numbered, ref}
use Rattle.kotlin_project.specs.Tables.{Library, tables}
use Rattle.kotlin_project.specs.Twice.{twice_from}
use Rattle.kotlin_declarations.specs.Classes.{class_notes, import_notes}

-- ---- what flow finds

abbrev pub flow_number : FlowCode → ℕ
flow_number AssignedAgain = 10
flow_number NotAssigned = 11
flow_number Missing = 12

abbrev pub flow_notes : List ℕ → List FlowFault → Notes
flow_notes path [] = []
flow_notes path (x ∷ xs) = noted path (flow_number x.code) x.at ++ flow_notes path xs

module _ (library : Library) (files : List KFile) where
  -- ---- a class: its bodies, the flow through them, its declarations

  abbrev pub bodies_notes : Numbered → Notes
  bodies_notes n = members_notes (tables library files n) n.is.class.members n.is.file.path (ref n)

  abbrev pub typed_class : Numbered → Notes
  typed_class n = bodies_notes n ++ (flow_notes n.is.file.path (class_faults n.is.class) ++ class_notes library files n)

  abbrev pub typed_classes : List Numbered → Notes
  typed_classes [] = []
  typed_classes (n ∷ ns) = typed_class n ++ typed_classes ns

  abbrev pub imports_notes : List KFile → Notes
  imports_notes [] = []
  imports_notes (f ∷ fs) = import_notes library files f.path f.imports ++ imports_notes fs

  -- ---- files

  abbrev pub typed_notes : Notes
  typed_notes = twice_from [] (declared files) ++ (imports_notes files ++ typed_classes (numbered files))

  -- no fault is noted
  abbrev pub IsWellTyped : Type 0
  IsWellTyped = faults_in typed_notes ≡ []

  -- a first fault: by the bytes of the path, then the place, then the number of the code
  abbrev pub IsFirstFault : Fault → Type 0
  IsFirstFault fault = IsFirst typed_notes fault
