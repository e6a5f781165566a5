-- Type parameters that depend on themselves (JLS 8.1.2).
use Rattle.std.specs.Prelude.{ℕ, ◌+◌, if◌then◌else◌, List, [], ◌∷◌, ◌++◌, Option, Some, None}
use Rattle.std.specs.Str.{bytes_eq}
use Rattle.java_tree.specs.declared.types.JDotted.{JDotted}
use Rattle.java_tree.specs.declared.types.JType.{JType, out-JType}
use Rattle.java_tree.specs.declared.types.JType.TheOpen.{JType-F}
use Rattle.java_member_grammar.specs.declared.parts.JBound.{JBound}
use Rattle.java_member_grammar.specs.declared.parts.JTypeParam.{JTypeParam}
use Rattle.java_classes.specs.declared.faults.NameFault.{NameFault}
use Rattle.java_classes.specs.Faults.{fault_if}
use Rattle.java_cycles.specs.declared.edges.Edge.{Edge}
use Rattle.java_cycles.specs.Cycles.{is_cyclic}

-- a name without dots
abbrev pub simple : List ℕ → List JDotted → Option (List ℕ)
simple name [] = Some name
simple name (x ∷ xs) = None

abbrev pub name_by : JType-F JType → Option (List ℕ)
name_by (JType-F.Class name) = simple name.name name.rest
name_by _ = None

unfoldable pub bound_name : JType → Option (List ℕ)
bound_name x = name_by (out-JType x)

abbrev pub number_from : List ℕ → ℕ → List JTypeParam → Option ℕ
number_from name number [] = None
number_from name number (x ∷ xs) = if bytes_eq x.name name then Some number else number_from name (number + 1) xs

-- the first of a name
abbrev pub number_of : List JTypeParam → List ℕ → Option ℕ
number_of xs name = number_from name 0 xs

abbrev pub numbered : List JTypeParam → Option (List ℕ) → Option ℕ
numbered xs None = None
numbered xs (Some name) = number_of xs name

-- the type parameter that is the bound of one
abbrev pub bound_number : List JTypeParam → Option JBound → Option ℕ
bound_number xs None = None
bound_number xs (Some bound) = numbered xs (bound_name bound.kind)

abbrev pub edge_to : ℕ → Option ℕ → List Edge
edge_to number None = []
edge_to number (Some to) = record { from = number; to = to } ∷ []

abbrev pub edges_from : List JTypeParam → ℕ → List JTypeParam → List Edge
edges_from all number [] = []
edges_from all number (x ∷ xs) = edge_to number (bound_number all x.bound) ++ edges_from all (number + 1) xs

abbrev pub bound_edges : List JTypeParam → List Edge
bound_edges xs = edges_from xs 0 xs

abbrev pub cycles_from : ℕ → List Edge → ℕ → List JTypeParam → List NameFault
cycles_from unit edges number [] = []
cycles_from unit edges number (x ∷ xs) = fault_if (is_cyclic edges number) unit x.at 3 ++ cycles_from unit edges (number + 1) xs

-- at the name of each type parameter that depends on itself
abbrev pub bound_cycles : ℕ → List JTypeParam → List NameFault
bound_cycles unit xs = cycles_from unit (bound_edges xs) 0 xs
