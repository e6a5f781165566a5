-- Where no fault of a rule is in the list, no class breaks the rule.
use Rattle.std.proofs.Common.{◌≡◌, ◌≢◌, ℕ, suc, ◌+◌, Bool, true, false, not, ◌&&◌, List, [], ◌∷◌, ◌++◌, map, length, refl, ap, subst, arith}
use Rattle.std.specs.List.{AllByRecursion}
use Rattle.j2k_base.specs.declared.places.Phase.TheVariants.{P}
use Rattle.j2k_base.specs.declared.places.Fault.{Fault}
use Rattle.java_tree.specs.declared.tokens.Position.{Position}
use Rattle.java_typed.specs.declared.types.TWritten.{TWritten}
use Rattle.java_typed.specs.declared.members.MemberRef.{MemberRef}
use Rattle.java_typed.specs.declared.units.TField.{TField}
use Rattle.java_typed.specs.declared.units.TClass.{TClass}
use Rattle.java_typed.specs.declared.units.TUnit.{TUnit}
use Rattle.java_type_relations.specs.declared.heads.Heads.{Heads}
use Rattle.java_facts.specs.Project.{classes_of, is_interface_sort}
use Rattle.java_profile.specs.Faults as rules
use Rattle.java_profile.specs.Faults.{Rule, P11, P16, P17, number_of, told}
use Rattle.java_profile.specs.Classes as c
use Rattle.java_profile.specs.Unset.{AllKept, NoneLate}
use Rattle.java_project_faults.specs.Order.{in_order}
use Rattle.java_project_faults.specs.Project as p
use Rattle.java_project_faults.specs.Project.{flow_told, inner, rule_fault}
use Rattle.java_project_faults.specs.Kept.{EachClass, EachField, HoldsConstants, IsOf, Lacks, NoneOpen, NotTold}
use Rattle.java_project_faults.proofs.Order.{all_left, all_right, from_order}

each_both : (says : ℕ → TClass → Type 0) (n : ℕ) (xs ys : List TClass) → EachClass says n xs → EachClass says (n + length xs) ys → EachClass says n (xs ++ ys)
each_both says n [] ys h k = subst (λ (j : ℕ). EachClass says j ys) (omega arith) k
each_both says n (x ∷ xs) ys h k = (h.0, each_both says (suc n) xs ys h.1 (subst (λ (j : ℕ). EachClass says j ys) (omega arith) k))

each_by : (says so : ℕ → TClass → Type 0) → ((n : ℕ) (x : TClass) → says n x → so n x) → (n : ℕ) (xs : List TClass) → EachClass says n xs → EachClass so n xs
each_by says so step n [] h = tt
each_by says so step n (x ∷ xs) h = (step n x h.0, each_by says so step (suc n) xs h.1)

told_not : (b : Bool) (rule : Rule) (at : Position) → Lacks rule (told b rule at) → b ≡ false
told_not true rule at h = absurd (h.0 refl)
told_not false rule at h = refl

lacks_from : (rule : Rule) (path : List ℕ) (xs : List rules.Fault) → NotTold P (number_of rule) (map (rule_fault path) xs) → Lacks rule xs
lacks_from rule path [] h = tt
lacks_from rule path (x ∷ xs) h = ((λ e. h.0 (refl, ap number_of e)), lacks_from rule path xs h.1)

abbrev Other : Rule → Fault → Type 0
Other rule x = IsOf P (number_of rule) x → ⊥

abbrev Differs : Rule → rules.Fault → Type 0
Differs rule x = x.rule ≢ rule

module _ (is_accessor : MemberRef → Bool) (heads : Heads) (supers : ℕ → List TWritten) (units : List TUnit) where
  abbrev class_lacks : Rule → ℕ → TClass → Type 0
  class_lacks rule number x = Lacks rule (p.class_rules is_accessor heads supers units number x)

  classes_kept : (rule : Rule) (path : List ℕ) (number : ℕ) (xs : List TClass) → NotTold P (number_of rule) (p.classes_told is_accessor heads supers units path number xs) → EachClass (class_lacks rule) number xs
  classes_kept rule path number [] h = tt
  classes_kept rule path number (x ∷ xs) h =
      let own = map (rule_fault path) (p.class_rules is_accessor heads supers units number x) in
      let rest = p.classes_told is_accessor heads supers units path (suc number) xs in
      (lacks_from rule path (p.class_rules is_accessor heads supers units number x) (all_left (Other rule) own rest h), classes_kept rule path (suc number) xs (all_right (Other rule) own rest h))

  units_kept : (rule : Rule) (number : ℕ) (us : List TUnit) → NotTold P (number_of rule) (p.units_told is_accessor heads supers units number us) → EachClass (class_lacks rule) number (classes_of us)
  units_kept rule number [] h = tt
  units_kept rule number (u ∷ us) h =
      let own = p.classes_told is_accessor heads supers units u.path number u.classes in
      let rest = p.units_told is_accessor heads supers units (number + length u.classes) us in
      each_both (class_lacks rule) number u.classes (classes_of us) (classes_kept rule u.path number u.classes (all_left (Other rule) own rest h)) (units_kept rule (number + length u.classes) us (all_right (Other rule) own rest h))

  pub each : (rule : Rule) → NotTold P (number_of rule) (p.project_faults is_accessor heads supers units) → EachClass (class_lacks rule) 0 (classes_of units)
  each rule h =
      units_kept rule 0 units
      (from_order (Other rule) (p.rules_told is_accessor heads supers units) (all_right (Other rule) (in_order (flow_told units)) (in_order (p.rules_told is_accessor heads supers units)) h))

  -- ---- fields

  abbrev fields_faults : ℕ → TClass → ℕ → List TField → List rules.Fault
  fields_faults = c.fields_faults is_accessor (inner units) units

  fields_lack : (rule : Rule) (number : ℕ) (x : TClass) → class_lacks rule number x → Lacks rule (fields_faults number x 0 x.fields)
  fields_lack rule number x h = all_left (Differs rule) (fields_faults number x 0 x.fields) _ (all_left (Differs rule) (c.class_faults is_accessor (inner units) units number x) _ h)

  module _ (number : ℕ) (x : TClass) where
    abbrev is_no_constant : ℕ → TField → Bool
    is_no_constant place f = is_interface_sort x.sort && not (c.constant_by f (c.value_at place x.initializers))

    abbrev is_open : ℕ → TField → Bool
    is_open place f = not f.modifiers.is_static && (c.is_unset is_accessor (inner units) units number x place f && not (c.fields_lead is_accessor (inner units) units number x))

    abbrev is_late : ℕ → TField → Bool
    is_late = c.is_late_static is_accessor (inner units) units number x

    abbrev behind : ℕ → TField → List rules.Fault
    behind place f = told (is_open place f) P16 f.at ++ told (is_late place f) P17 f.at

    abbrev own : ℕ → TField → List rules.Fault
    own place f = told (is_no_constant place f) P11 f.at ++ behind place f

    constants_from : (place : ℕ) (fs : List TField) → Lacks P11 (fields_faults number x place fs) → EachField (λ n f. is_no_constant n f ≡ false) place fs
    constants_from place [] h = tt
    constants_from place (f ∷ fs) h =
        let rest = fields_faults number x (suc place) fs in
        (told_not (is_no_constant place f) P11 f.at (all_left (Differs P11) (told (is_no_constant place f) P11 f.at) (behind place f) (all_left (Differs P11) (own place f) rest h)), constants_from (suc place) fs (all_right (Differs P11) (own place f) rest h))

    open_from : (place : ℕ) (fs : List TField) → Lacks P16 (fields_faults number x place fs) → EachField (λ n f. is_open n f ≡ false) place fs
    open_from place [] h = tt
    open_from place (f ∷ fs) h =
        let rest = fields_faults number x (suc place) fs in
        (told_not (is_open place f) P16 f.at (all_left (Differs P16) (told (is_open place f) P16 f.at) (told (is_late place f) P17 f.at) (all_right (Differs P16) (told (is_no_constant place f) P11 f.at) (behind place f) (all_left (Differs P16) (own place f) rest h))), open_from (suc place) fs (all_right (Differs P16) (own place f) rest h))

    late_from : (place : ℕ) (fs : List TField) → Lacks P17 (fields_faults number x place fs) → NoneLate is_accessor (inner units) units number x place fs
    late_from place [] h = tt
    late_from place (f ∷ fs) h =
        let rest = fields_faults number x (suc place) fs in
        (told_not (is_late place f) P17 f.at (all_right (Differs P17) (told (is_open place f) P16 f.at) (told (is_late place f) P17 f.at) (all_right (Differs P17) (told (is_no_constant place f) P11 f.at) (behind place f) (all_left (Differs P17) (own place f) rest h))), late_from (suc place) fs (all_right (Differs P17) (own place f) rest h))

  pub constants : NotTold P 11 (p.project_faults is_accessor heads supers units) → EachClass HoldsConstants 0 (classes_of units)
  constants h = each_by (class_lacks P11) HoldsConstants (λ n x k. constants_from n x 0 x.fields (fields_lack P11 n x k)) 0 (classes_of units) (each P11 h)

  pub fields : NotTold P 16 (p.project_faults is_accessor heads supers units) → EachClass (NoneOpen is_accessor units) 0 (classes_of units)
  fields h = each_by (class_lacks P16) (NoneOpen is_accessor units) (λ n x k. open_from n x 0 x.fields (fields_lack P16 n x k)) 0 (classes_of units) (each P16 h)

  kept_from : (number : ℕ) (xs : List TClass) → EachClass (class_lacks P17) number xs → AllKept is_accessor (inner units) units number xs
  kept_from number [] h = tt
  kept_from number (x ∷ xs) h = (late_from number x 0 x.fields (fields_lack P17 number x h.0), kept_from (suc number) xs h.1)

  pub statics : NotTold P 17 (p.project_faults is_accessor heads supers units) → AllKept is_accessor (inner units) units 0 (classes_of units)
  statics h = kept_from 0 (classes_of units) (each P17 h)
