-- A simple name means one class.
use Rattle.std.proofs.Common.{◌≡◌, ℕ, true, false, List, [], ◌∷◌, Some, None, refl, sym, subst, ◌∙◌, cond}
use Rattle.std.proofs.lemmas.Bool.{eq-eqb}
use Rattle.std.specs.Option.{option_or}
use Rattle.java_classes.specs.declared.rows.ClassRow.{ClassRow}
use Rattle.java_type_names.specs.declared.classes.Meant.{Meant}
use Rattle.java_type_names.specs.declared.classes.Meant.TheVariants.{Library, Project}
use Rattle.java_type_names.specs.declared.scopes.FileScope.{FileScope}
use Rattle.java_type_names.specs.declared.scopes.Found.TheVariants as f
use Rattle.java_type_names.specs.Classes.{seen_at}
use Rattle.java_type_names.specs.Scopes.{is_same, met, demanded_from, demanded, single, nearest, simple_class, Agrees, AllAgree, OfPackage, IsOnly}

same_itself : (c : Meant) → is_same c c ≡ true
same_itself (Library x) = eq-eqb x x refl
same_itself (Project x) = eq-eqb x x refl

module _ (rows : List ClassRow) (from name : List ℕ) where
  several : (homes : List (List ℕ)) → demanded_from rows from name f.Several homes ≡ f.Several
  several [] = refl
  several (home ∷ homes) =
      (elim (seen_at rows from home name) as (λ o. demanded_from rows from name (met f.Several o) homes ≡ f.Several)
      [ None ↦ several homes | Some k ↦ several homes ])

  stays : (c class : Meant) (homes : List (List ℕ)) → demanded_from rows from name (f.One c) homes ≡ f.One class → (c ≡ class) × AllAgree rows from name c homes
  stays c class [] e = let is : c ≡ class = cc in (is, tt)
  stays c class (home ∷ homes) e =
      (elim (seen_at rows from home name)
      as (λ o. demanded_from rows from name (met (f.One c) o) homes ≡ f.One class → (c ≡ class) × (Agrees c o × AllAgree rows from name c homes)) [
        | None ↦ λ g. (let r : (c ≡ class) × AllAgree rows from name c homes = stays c class homes g in (r.0, (tt, r.1)))
        | Some k ↦ λ g.
            (elim (is_same c k)
            as (λ b. is_same c k ≡ b → demanded_from rows from name (cond b (f.One c) f.Several) homes ≡ f.One class → (c ≡ class) × ((is_same c k ≡ true) × AllAgree rows from name c homes)) [
              | true ↦ λ s h. (let r : (c ≡ class) × AllAgree rows from name c homes = stays c class homes h in (r.0, (s, r.1)))
              | false ↦ λ s h. (let no : f.Several ≡ f.One class = sym (several homes) ∙ h in absurd (cc))
            ]) refl g
      ]) e

  only : (class : Meant) (homes : List (List ℕ)) → demanded_from rows from name f.Nothing homes ≡ f.One class → AllAgree rows from name class homes
  only class [] e = tt
  only class (home ∷ homes) e =
      (elim (seen_at rows from home name)
      as (λ o. demanded_from rows from name (met f.Nothing o) homes ≡ f.One class → Agrees class o × AllAgree rows from name class homes) [
        | None ↦ λ g. (tt, only class homes g)
        | Some k ↦ λ g.
            (let r : (k ≡ class) × AllAgree rows from name k homes = stays k class homes g in
            (subst (λ c. is_same c k ≡ true) r.0 (same_itself k), subst (λ c. AllAgree rows from name c homes) r.0 r.1))
      ]) e

pub is_only : (rows : List ClassRow) (scope : FileScope) (name : List ℕ) (class : Meant) → simple_class rows scope name ≡ f.One class → IsOnly rows scope name class
is_only rows scope name class e =
    (elim (single name scope.singles)
    as (λ o. nearest (option_or o (seen_at rows scope.home scope.home name)) (demanded rows scope.home name scope.demands) ≡ f.One class →
    OfPackage o class (OfPackage (seen_at rows scope.home scope.home name) class (AllAgree rows scope.home name class scope.demands))) [
      | Some c ↦ λ g. (let h : f.One c ≡ f.One class = g in cc)
      | None ↦ λ g.
          (elim (seen_at rows scope.home scope.home name)
          as (λ o. nearest o (demanded rows scope.home name scope.demands) ≡ f.One class → OfPackage o class (AllAgree rows scope.home name class scope.demands)) [
            | Some c ↦ λ k. (let h : f.One c ≡ f.One class = k in cc)
            | None ↦ λ k. only rows scope.home name class scope.demands k
          ]) g
    ]) e
