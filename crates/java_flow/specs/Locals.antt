-- What is at fault with a local in its scope.
use Rattle.std.specs.Prelude.{Bool, true, false, not, ◌&&◌, ◌||◌, ◌==◌, List, [], ◌∷◌, if◌then◌else◌}
use Rattle.std.specs.List.{filter}
use Rattle.java_tree.specs.declared.tokens.Position.{Position}
use Rattle.java_typed.specs.declared.units.TParam.{TParam}
use Rattle.flow.specs.Acts.{Then, Does}
use Rattle.flow.specs.Standing.{stands, stands_later}
use Rattle.flow.specs.Analyses.{Reads, Assigns, Reaches}
use Rattle.java_flow.specs.Variables.{Variable, Local, is_local, JavaUse, JavaAct}
use Rattle.java_flow.specs.Faults.{unassigned_reads, assigned_again}
use Rattle.java_flow.specs.Scopes.{Declared, Scope}

abbrev pub same_place : Position → Position → Bool
same_place p q = p.offset == q.offset

abbrev pub is_empty : List JavaUse → Bool
is_empty [] = true
is_empty (x ∷ more) = false

-- it reads or assigns the variable
abbrev pub names : (Variable → Bool) → JavaUse → Bool
names is (Reads v p) = is v
names is (Assigns v p) = is v
names is (Reaches p) = false

-- it assigns the variable elsewhere than at its declaration
abbrev pub assigns_elsewhere : (Variable → Bool) → Position → JavaUse → Bool
assigns_elsewhere is at (Reads v p) = false
assigns_elsewhere is at (Assigns v p) = is v && not (same_place p at)
assigns_elsewhere is at (Reaches p) = false

-- the reads that don't find it assigned (JLS 16)
abbrev pub unassigned : Scope → List JavaUse
unassigned s = unassigned_reads (is_local s.local.name) false s.does

-- the assignments that it wouldn't take if it were final: where its declaration gives it a value every other, else those that
-- don't find it unassigned (JLS 4.12.4)
abbrev pub refused : Scope → List JavaUse
refused s = if s.local.has_value then filter (assigns_elsewhere (is_local s.local.name) s.local.at) (stands s.does) else assigned_again (is_local s.local.name) true s.does

-- those of a final local
abbrev pub assigned_twice : Scope → List JavaUse
assigned_twice s = if s.local.is_final then refused s else []

-- the uses in lambdas (JLS 15.27.2)
abbrev pub captured : Scope → List JavaUse
captured s = filter (names (is_local s.local.name)) (stands_later s.does)

-- those of a local that isn't final and couldn't be (JLS 4.12.4)
abbrev pub captured_in_vain : Scope → List JavaUse
captured_in_vain s = if s.local.is_final || is_empty (refused s) then [] else captured s

-- ---- the parameters of a method (JLS 8.4.1)

abbrev pub of_param : TParam → Declared
of_param p = record { name = p.name; at = p.at; is_final = p.is_final; has_value = true }

-- they are in scope in its body, and have their values there
abbrev pub param_scopes : JavaAct → List TParam → List Scope
param_scopes body [] = []
param_scopes body (p ∷ more) = record { local = of_param p; does = Then (Does (Assigns (Local p.name) p.at)) body } ∷ param_scopes body more
