-- What one file is, is found in one way.
use Rattle.std.proofs.Common.{◌≡◌, ℕ, List, Some, None, sym, ◌∙◌, ap}
use Rattle.j2k_base.specs.declared.places.Fault.{Fault}
use Rattle.j2k_base.specs.declared.series.SourceFile.{SourceFile}
use Rattle.java_project.specs.Files.{HasUnit}
use Rattle.java_project.proofs.LawsToCite.{one_unit}
use Rattle.java_unit_grammar.specs.declared.units.JUnit.{JUnit}
use Rattle.java_typed.specs.declared.units.TUnit.{TUnit}
use Rattle.java_taken.specs.Judged.{Judged}
use Rattle.java_taken.specs.Units.{unit}
use Rattle.j2k_tool.specs.declared.files.TakenFile.{TakenFile}
use Rattle.j2k_tool.specs.declared.files.Found.{Found}
use Rattle.j2k_tool.specs.declared.files.Found.TheVariants as found
use Rattle.j2k_faults.specs.Faults.{not_built}
use Rattle.j2k_tool.specs.Projects.{open_form}
use Rattle.j2k_tool.specs.Sources.{HasOpenForm, IsTaken, IsFound}
use Rattle.j2k_tool.proofs.Firsts.{HasOnly}

-- ---- what is judged of a unit

abbrev taken_as : List ℕ → TUnit → TakenFile
taken_as path typed = record { path = path; typed = typed }

module _ (classes earlier : List (List ℕ)) (file : SourceFile) where
  same_judged : (u v : JUnit) → HasUnit file u → HasUnit file v → unit classes earlier u ≡ unit classes earlier v
  same_judged u v p q = ap (unit classes earlier) (one_unit file u v p q)

  pub form_once : (f g : Fault) → HasOpenForm classes earlier file f → HasOpenForm classes earlier file g → f ≡ g
  form_once f g p q =
      let e : Judged.Open p.at ≡ Judged.Open q.at = sym p.opened ∙ same_judged p.spelled q.spelled p.has q.has ∙ q.opened in
      let at : p.at ≡ q.at = cc in
      p.is ∙ ap (not_built file.path) at ∙ sym q.is

  pub form_apart : (taken : TakenFile) (fault : Fault) → IsTaken classes earlier file taken → HasOpenForm classes earlier file fault → ⊥
  form_apart taken fault p q =
      let e : Judged.Typed taken.typed ≡ Judged.Open q.at = sym p.typed ∙ same_judged p.spelled q.spelled p.has q.has ∙ q.opened in cc

  pub taken_once : (a b : TakenFile) → IsTaken classes earlier file a → IsTaken classes earlier file b → a ≡ b
  taken_once a b p q =
      let e : Judged.Typed a.typed ≡ Judged.Typed b.typed = sym p.typed ∙ same_judged p.spelled q.spelled p.has q.has ∙ q.typed in
      let typed : a.typed ≡ b.typed = cc in
      ap (λ (x : List ℕ). taken_as x a.typed) (p.path ∙ sym q.path) ∙ ap (λ (x : TUnit). taken_as b.path x) typed

  -- ---- what is found

  pub found_form : (x : Found) → IsFound classes earlier file x → HasOnly (HasOpenForm classes) earlier file (open_form x)
  found_form (found.Open f) h = h
  found_form (found.Taken t) h = λ fault q. form_apart t fault h q
