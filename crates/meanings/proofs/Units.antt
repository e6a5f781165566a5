-- What a unit that is taken holds.
use Rattle.std.proofs.Common.{◌≡◌, true, ◌&&◌, List, [], ◌∷◌, Option, Some, None, is_none}
use Rattle.std.specs.List.{cons_option}
use Rattle.java_typed.specs.declared.units.TMethod.{TMethod}
use Rattle.java_typed.specs.declared.units.TClass.{TClass}
use Rattle.java_typed.specs.declared.units.TUnit.{TUnit}
use Rattle.meanings.specs.Taken.{are_taken, MainMethod, main_of_method, main_in, MainClass, class_among, class_in, classes_in, is_empty, is_taken_main, are_taken_methods, are_unwritten, are_taken_classes, is_taken_unit, AllTaken}
use Rattle.meanings.proofs.Layers.{both_are}

-- the statements of a `main`, where there is one, are taken
abbrev pub MainTaken : Option MainMethod → Type 0
MainTaken None = Unit {0}
MainTaken (Some main) = are_taken main.body ≡ true

abbrev pub ClassTaken : Option MainClass → Type 0
ClassTaken None = Unit {0}
ClassTaken (Some class) = MainTaken class.main

abbrev pub ClassesTaken : List MainClass → Type 0
ClassesTaken [] = Unit {0}
ClassesTaken (class ∷ classes) = MainTaken class.main × ClassesTaken classes

main_taken : (o : Option MainMethod) → is_taken_main o ≡ true → MainTaken o
main_taken None h = tt
main_taken (Some main) h = h

methods_taken : (ms : List TMethod) → are_taken_methods ms ≡ true → MainTaken (main_in ms)
methods_taken [] h = tt
methods_taken (m ∷ []) h = main_taken (main_of_method m) h
methods_taken (m ∷ n ∷ ms) h = cc

classes_are_taken : (cs : List TClass) → are_taken_classes cs ≡ true → ClassTaken (class_among cs)
classes_are_taken [] h = tt
classes_are_taken (c ∷ []) h =
    methods_taken c.methods (both_are (are_taken_methods c.methods) (is_none c.above && (is_empty c.faces && (is_empty c.type_params && (is_empty c.fields && (is_empty c.initializers && are_unwritten c.constructors))))) h).0
classes_are_taken (c ∷ d ∷ cs) h = cc

pub unit_taken : (u : TUnit) → is_taken_unit u ≡ true → ClassTaken (class_in u)
unfolding is_taken_unit
unit_taken u h = classes_are_taken u.classes h

one_more : (o : Option MainClass) (classes : List MainClass) → ClassTaken o → ClassesTaken classes → ClassesTaken (cons_option o classes)
one_more None classes h more = more
one_more (Some class) classes h more = (h, more)

pub all_classes_taken : (units : List TUnit) → AllTaken units → ClassesTaken (classes_in units)
all_classes_taken [] h = tt
all_classes_taken (u ∷ units) h = one_more (class_in u) (classes_in units) (unit_taken u h.0) (all_classes_taken units h.1)
