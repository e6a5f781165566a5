-- Which methods take some arguments (JLS 15.12.2), each method by the types of its parameters.
use Rattle.std.specs.Prelude.{Bool, true, false, ◌&&◌, List, [], ◌∷◌}
use Rattle.std.specs.List.{filter}
use Rattle.java_typed.specs.declared.types.TType.{TType}
use Rattle.java_type_relations.specs.declared.heads.Heads.{Heads}
use Rattle.java_type_relations.specs.Subtypes.{is_subtype}
use Rattle.java_type_relations.specs.Contexts.{is_loose}

abbrev pub all_go : (TType → TType → Bool) → List TType → List TType → Bool
all_go goes [] [] = true
all_go goes [] (p ∷ ps) = false
all_go goes (a ∷ args) [] = false
all_go goes (a ∷ args) (p ∷ ps) = goes a p && all_go goes args ps

-- by strict invocation, to supertypes alone (JLS 15.12.2.2)
abbrev pub takes_strictly : Heads → List TType → List TType → Bool
takes_strictly heads args params = all_go (is_subtype heads) args params

-- by loose invocation, with boxing and unboxing (JLS 15.12.2.3)
abbrev pub takes_loosely : Heads → List TType → List TType → Bool
takes_loosely heads args params = all_go (is_loose heads) args params

abbrev pub or_later : List (List TType) → List (List TType) → List (List TType)
or_later [] later = later
or_later (m ∷ ms) later = m ∷ ms

-- those of the first phase in which there are any
abbrev pub applicable : Heads → List TType → List (List TType) → List (List TType)
applicable heads args methods = or_later (filter (takes_strictly heads args) methods) (filter (takes_loosely heads args) methods)
