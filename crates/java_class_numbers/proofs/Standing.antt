-- Each declaration stands where it says, and what stands there is declared.
use Rattle.std.proofs.Common.{◌≡◌, ℕ, ◌+◌, List, [], ◌∷◌, ◌++◌, ◌⊎◌, inl, inr, Option, Some, None, suc, zero, slice_get, refl, ap, sym, subst, ◌∙◌, arith}
use Rattle.std.proofs.lemmas.Option.{none-some, same_Some}
use Rattle.java_unit_grammar.specs.declared.statements.JBody.{JBody}
use Rattle.java_unit_grammar.specs.declared.statements.JCase.{JCase}
use Rattle.java_unit_grammar.specs.declared.statements.JCaseGroup.{JCaseGroup}
use Rattle.java_unit_grammar.specs.declared.statements.JCatch.{JCatch}
use Rattle.java_unit_grammar.specs.declared.statements.JMember.{JMember, out-JMember}
use Rattle.java_unit_grammar.specs.declared.statements.JStatement.{JStatement}
use Rattle.java_unit_grammar.specs.declared.statements.JBody.TheOpen.{JMember-F}
use Rattle.java_unit_grammar.specs.declared.units.JUnit.{JUnit}
use Rattle.java_class_numbers.specs.Declarations.{Declaration, IsType, StandsIn, declarations, declared_by, declared_from, declared_in, files_from}
use Rattle.java_class_numbers.proofs.Lists.{get_left, get_right, get_split}

abbrev Form : Type 0
Form = JMember-F JBody JMember JStatement JCase JCaseGroup JCatch

-- ---- what is declared stands there

record Here (number : ℕ) (file : JUnit) (top : ℕ) (x : JMember) (d : Declaration) : Type 0 where
  is_number : d.number ≡ number
  is_file : d.file ≡ file
  is_top : d.top ≡ top
  is : IsType x d.head d.members

record InFile (number : ℕ) (file : JUnit) (top : ℕ) (xs : List JMember) (d : Declaration) : Type 0 where
  place : ℕ
  member : JMember
  at : slice_get xs place ≡ Some member
  here : Here number file (top + place) member d

record InFiles (number : ℕ) (units : List JUnit) (d : Declaration) : Type 0 where
  index : ℕ
  file : JUnit
  at : slice_get units index ≡ Some file
  inside : InFile (number + index) file 0 file.types d

here_form : (number : ℕ) (file : JUnit) (top : ℕ) (x : JMember) (f : Form) → out-JMember x ≡ f → (k : ℕ) (d : Declaration) → slice_get (declared_by number file top f) k ≡ Some d → Here number file top x d
here_form number file top x (JMember-F.Type head left constants bodies members right) o zero d get =
    let made : Declaration = record { number = number; file = file; top = top; head = head; members = members } in
    let e : made ≡ d = same_Some made d get in
    subst (λ z. Here number file top x z) e
    (record {
      is_number = refl;
      is_file = refl;
      is_top = refl;
      is = record { left = left; constants = constants; bodies = bodies; right = right; is = o };
    })
here_form number file top x (JMember-F.Type head left constants bodies members right) o (suc k) d get = absurd (none-some d get)
here_form number file top x (JMember-F.Declared h bodies end) o k d get = absurd (none-some d get)
here_form number file top x (JMember-F.Bodied h left xs right) o k d get = absurd (none-some d get)

here_in : (number : ℕ) (file : JUnit) (top : ℕ) (x : JMember) (k : ℕ) (d : Declaration) → slice_get (declared_in number file top x) k ≡ Some d → Here number file top x d
unfolding declared_in
here_in number file top x k d get = here_form number file top x (out-JMember x) refl k d get

in_file : (number : ℕ) (file : JUnit) (top : ℕ) (xs : List JMember) (k : ℕ) (d : Declaration) → slice_get (declared_from number file top xs) k ≡ Some d → InFile number file top xs d
in_file number file top [] k d get = absurd (none-some d get)
in_file number file top (x ∷ xs) k d get =
    elim (get_split (declared_in number file top x) (declared_from number file (top + 1) xs) k d get) [
      | inl h ↦ (let e : top ≡ top + 0 = omega arith in
          record { place = 0; member = x; at = refl; here = subst (λ z. Here number file z x d) e (here_in number file top x k d h) })
      | inr h ↦ (let r : InFile number file (top + 1) xs d = in_file number file (top + 1) xs h.0 d h.1 in
          let e : (top + 1) + r.place ≡ top + suc r.place = omega arith in
          record { place = suc r.place; member = r.member; at = r.at; here = subst (λ z. Here number file z r.member d) e r.here })
    ]

in_files : (number : ℕ) (units : List JUnit) (k : ℕ) (d : Declaration) → slice_get (files_from number units) k ≡ Some d → InFiles number units d
in_files number [] k d get = absurd (none-some d get)
in_files number (x ∷ xs) k d get =
    elim (get_split (declared_from number x 0 x.types) (files_from (number + 1) xs) k d get) [
      | inl h ↦ (let e : number ≡ number + 0 = omega arith in
          record { index = 0; file = x; at = refl; inside = subst (λ z. InFile z x 0 x.types d) e (in_file number x 0 x.types k d h) })
      | inr h ↦ (let r : InFiles (number + 1) xs d = in_files (number + 1) xs h.0 d h.1 in
          let e : (number + 1) + r.index ≡ number + suc r.index = omega arith in
          record { index = suc r.index; file = r.file; at = r.at; inside = subst (λ z. InFile z r.file 0 r.file.types d) e r.inside })
    ]

pub declarations_stand : (units : List JUnit) (k : ℕ) (d : Declaration) → slice_get (declarations units) k ≡ Some d → StandsIn units d
declarations_stand units k d get =
    let r : InFiles 0 units d = in_files 0 units k d get in
    let h : Here (0 + r.index) r.file (0 + r.inside.place) r.inside.member d = r.inside.here in
    let i : 0 + r.index ≡ r.index = omega arith in
    let j : 0 + r.inside.place ≡ r.inside.place = omega arith in
    record {
      declared = r.inside.member;
      file = ap (λ z. slice_get units z) (h.is_number ∙ i) ∙ r.at ∙ ap Some (sym h.is_file);
      place = ap (λ (z : JUnit). slice_get z.types d.top) h.is_file ∙ ap (λ z. slice_get r.file.types z) (h.is_top ∙ j) ∙ r.inside.at;
      is = h.is;
    }

-- ---- what stands there is declared

pub there_in : (d : Declaration) (x : JMember) → IsType x d.head d.members → slice_get (declared_in d.number d.file d.top x) 0 ≡ Some d
unfolding declared_in
there_in d x is = ap (λ z. slice_get (declared_by d.number d.file d.top z) 0) is.is

there_file : (d : Declaration) (x : JMember) → IsType x d.head d.members → (top : ℕ) (xs : List JMember) (i : ℕ) → d.top ≡ top + i → slice_get xs i ≡ Some x → (k : ℕ) × (slice_get (declared_from d.number d.file top xs) k ≡ Some d)
there_file d x is top [] i e get = absurd (none-some x get)
there_file d x is top (y ∷ xs) zero e get =
    let s : y ≡ x = same_Some y x get in
    let t : d.top ≡ top = omega (arith, e) in
    let h : slice_get (declared_in d.number d.file top y) 0 ≡ Some d =
    ap (λ z. slice_get (declared_in d.number d.file z y) 0) (sym t) ∙ ap (λ z. slice_get (declared_in d.number d.file d.top z) 0) s ∙ there_in d x is
    in
    (0, get_left (declared_in d.number d.file top y) (declared_from d.number d.file (top + 1) xs) 0 d h)
there_file d x is top (y ∷ xs) (suc i) e get =
    let t : d.top ≡ (top + 1) + i = omega (arith, e) in
    let r : (k : ℕ) × (slice_get (declared_from d.number d.file (top + 1) xs) k ≡ Some d) = there_file d x is (top + 1) xs i t get in
    get_right (declared_in d.number d.file top y) (declared_from d.number d.file (top + 1) xs) r.0 d r.1

there_files : (d : Declaration) (inner : (k : ℕ) × (slice_get (declared_from d.number d.file 0 d.file.types) k ≡ Some d)) (number : ℕ) (units : List JUnit) (i : ℕ) → d.number ≡ number + i → slice_get units i ≡ Some d.file → (k : ℕ) × (slice_get (files_from number units) k ≡ Some d)
there_files d inner number [] i e get = absurd (none-some d.file get)
there_files d inner number (y ∷ ys) zero e get =
    let s : y ≡ d.file = same_Some y d.file get in
    let t : d.number ≡ number = omega (arith, e) in
    let h : slice_get (declared_from number y 0 y.types) inner.0 ≡ Some d =
    ap (λ z. slice_get (declared_from z y 0 y.types) inner.0) (sym t) ∙ ap (λ (z : JUnit). slice_get (declared_from d.number z 0 z.types) inner.0) s ∙ inner.1
    in
    (inner.0, get_left (declared_from number y 0 y.types) (files_from (number + 1) ys) inner.0 d h)
there_files d inner number (y ∷ ys) (suc i) e get =
    let t : d.number ≡ (number + 1) + i = omega (arith, e) in
    let r : (k : ℕ) × (slice_get (files_from (number + 1) ys) k ≡ Some d) = there_files d inner (number + 1) ys i t get in
    get_right (declared_from number y 0 y.types) (files_from (number + 1) ys) r.0 d r.1

pub all_declared : (units : List JUnit) (d : Declaration) → StandsIn units d → (k : ℕ) × (slice_get (declarations units) k ≡ Some d)
all_declared units d s =
    let t : d.top ≡ 0 + d.top = omega arith in
    let n : d.number ≡ 0 + d.number = omega arith in
    there_files d (there_file d s.declared s.is 0 d.file.types d.top t s.place) 0 units d.number n s.file
