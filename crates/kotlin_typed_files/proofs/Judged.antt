-- Files are well typed or have one first fault.
use Rattle.std.proofs.Common.{◌≡◌, ◌≢◌, ◌⊎◌, inl, inr, ℕ, List, [], ◌∷◌, ◌++◌, refl, sym, subst}
use Rattle.j2k_base.specs.declared.places.Fault.{Fault}
use Rattle.judged.specs.Notes.{AreSame, IsAmong, IsFirst, faults_in}
use Rattle.judged.proofs.LawsToCite.{has_first, one_first}
use Rattle.kotlin_tree.specs.declared.files.KFile.{KFile}
use Rattle.kotlin_flow.specs.Faults.{FlowFault}
use Rattle.kotlin_flow.specs.Files.{class_faults}
use Rattle.kotlin_typing.specs.Notes.{Notes}
use Rattle.kotlin_typing.proofs.LawsToCite.{clean_left, clean_right}
use Rattle.kotlin_project.specs.Declared.{Numbered, declared, numbered}
use Rattle.kotlin_project.specs.Tables.{Library}
use Rattle.kotlin_project.specs.Twice.{AreApart, IsIn, twice_from}
use Rattle.kotlin_project.proofs.LawsToCite.{apart_told}
use Rattle.kotlin_declarations.specs.Classes.{class_notes}
use Rattle.kotlin_typed_files.specs.TypedFiles.{IsFirstFault, IsWellTyped, bodies_notes, flow_notes, imports_notes, typed_class, typed_classes, typed_notes}

no_cons : {A : Type 0} (x : A) (xs : List A) → (x ∷ xs) ≢ []
no_cons x xs h = cc

either_by : (notes : Notes) (fs : List Fault) → faults_in notes ≡ fs → (faults_in notes ≡ []) ⊎ ((fault : Fault) × IsFirst notes fault)
either_by notes [] e = inl e
either_by notes (f ∷ fs) e = inr (has_first notes (subst (λ z. z ≢ []) (sym e) (no_cons f fs)))

no_flow : (path : List ℕ) (xs : List FlowFault) → faults_in (flow_notes path xs) ≡ [] → xs ≡ []
no_flow path [] h = refl
no_flow path (x ∷ xs) h = cc

module _ (library : Library) (files : List KFile) where
  pub either : IsWellTyped library files ⊎ ((fault : Fault) × IsFirstFault library files fault)
  either = either_by (typed_notes library files) (faults_in (typed_notes library files)) refl

  pub never_both : (fault : Fault) → IsWellTyped library files → IsFirstFault library files fault → ⊥
  never_both fault h first = subst (IsAmong fault) h first.among

  pub one : (a b : Fault) → IsFirstFault library files a → IsFirstFault library files b → AreSame a b
  one a b h i = one_first (typed_notes library files) a b h i

  pub apart : IsWellTyped library files → AreApart [] (declared files)
  apart h = apart_told [] (declared files) (clean_left (twice_from [] (declared files)) (imports_notes library files files ++ typed_classes library files (numbered files)) h)

  behind_names : IsWellTyped library files → faults_in (imports_notes library files files ++ typed_classes library files (numbered files)) ≡ []
  behind_names h = clean_right (twice_from [] (declared files)) (imports_notes library files files ++ typed_classes library files (numbered files)) h

  pub imports : IsWellTyped library files → faults_in (imports_notes library files files) ≡ []
  imports h = clean_left (imports_notes library files files) (typed_classes library files (numbered files)) (behind_names h)

  class_clean : (n : Numbered) (ns : List Numbered) → IsIn n ns → faults_in (typed_classes library files ns) ≡ [] → faults_in (typed_class library files n) ≡ []
  class_clean n [] i h = absurd i
  class_clean n (m ∷ ns) (inl i) h = subst (λ (z : Numbered). faults_in (typed_class library files z) ≡ []) (sym i) (clean_left (typed_class library files m) (typed_classes library files ns) h)
  class_clean n (m ∷ ns) (inr i) h = class_clean n ns i (clean_right (typed_class library files m) (typed_classes library files ns) h)

  one_class : (n : Numbered) → IsIn n (numbered files) → IsWellTyped library files → faults_in (typed_class library files n) ≡ []
  one_class n i h = class_clean n (numbered files) i (clean_right (imports_notes library files files) (typed_classes library files (numbered files)) (behind_names h))

  pub bodies : (n : Numbered) → IsIn n (numbered files) → IsWellTyped library files → faults_in (bodies_notes library files n) ≡ []
  bodies n i h = clean_left (bodies_notes library files n) (flow_notes n.is.file.path (class_faults n.is.class) ++ class_notes library files n) (one_class n i h)

  behind_bodies : (n : Numbered) → IsIn n (numbered files) → IsWellTyped library files → faults_in (flow_notes n.is.file.path (class_faults n.is.class) ++ class_notes library files n) ≡ []
  behind_bodies n i h = clean_right (bodies_notes library files n) (flow_notes n.is.file.path (class_faults n.is.class) ++ class_notes library files n) (one_class n i h)

  pub flows : (n : Numbered) → IsIn n (numbered files) → IsWellTyped library files → class_faults n.is.class ≡ []
  flows n i h = no_flow n.is.file.path (class_faults n.is.class) (clean_left (flow_notes n.is.file.path (class_faults n.is.class)) (class_notes library files n) (behind_bodies n i h))

  pub declarations : (n : Numbered) → IsIn n (numbered files) → IsWellTyped library files → faults_in (class_notes library files n) ≡ []
  declarations n i h = clean_right (flow_notes n.is.file.path (class_faults n.is.class)) (class_notes library files n) (behind_bodies n i h)
