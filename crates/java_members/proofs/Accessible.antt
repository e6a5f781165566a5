-- What a class has may be named in it.
use Rattle.std.proofs.Common.{◌≡◌, inr, ℕ, suc, Bool, true, false, ◌&&◌, ◌||◌, not, List, refl, subst}
use Rattle.std.specs.Str.{bytes_eq}
use Rattle.std.proofs.lemmas.Slice.Eq.{bytes_eq-Decides}
use Rattle.java_members.specs.declared.classes.Access.{Access}
use Rattle.java_members.specs.declared.classes.Access.TheVariants as access
use Rattle.java_members.specs.declared.classes.Class.{Class}
use Rattle.java_members.specs.declared.classes.Member.{Member}
use Rattle.java_members.specs.declared.classes.Sort.{Sort}
use Rattle.java_members.specs.Members.{HasMember, Own, Inherited, stays, is_open, is_of_package, is_same_package}
use Rattle.java_members.specs.Access.{IsAbove, Itself, Above, AreOfOnePackage, IsAccessible}
use Rattle.java_members.proofs.Levels.{false_true}

private_stays : (s same : Bool) → (not s && (is_open access.Private || (is_of_package access.Private && same))) ≡ true → ⊥
private_stays true same h = false_true h
private_stays false same h = false_true h

package_is : (s same : Bool) → (not s && (is_open access.Package || (is_of_package access.Package && same))) ≡ true → same ≡ true
package_is true same h = absurd (false_true h)
package_is false same h = h

module _ (table : List Class) (sort : Sort) (name : List ℕ) where
  stands_above : (k a c : ℕ) (member : Member) → HasMember table sort name k a c member → IsAbove table a c
  stands_above _ a _ member (Own get is) = Itself
  stands_above (suc k) a c member (Inherited {b} get shown up has get_d pass) = Above get up (stands_above k b c member has)

  pub of_itself : (k a c : ℕ) (member : Member) → HasMember table sort name k a c member → member.access ≡ access.Private → a ≡ c
  of_itself _ a _ member (Own get is) e = refl
  of_itself (suc k) a c member (Inherited {class} {declaring} get shown up has get_d pass) e =
      absurd (private_stays (stays sort declaring member) (is_same_package class declaring)
      (subst (λ z. (not (stays sort declaring member) && (is_open z || (is_of_package z && is_same_package class declaring))) ≡ true) e pass))

  one_package : (k a c : ℕ) (member : Member) → HasMember table sort name k a c member → member.access ≡ access.Package → AreOfOnePackage table a c
  one_package _ a _ member (Own {class} get is) e = (class, class, get, get, refl)
  one_package (suc k) a c member (Inherited {class} {declaring} get shown up has get_d pass) e =
      let same : bytes_eq class.home declaring.home ≡ true =
      package_is (stays sort declaring member) (is_same_package class declaring)
      (subst (λ z. (not (stays sort declaring member) && (is_open z || (is_of_package z && is_same_package class declaring))) ≡ true) e pass) in
      (class, declaring, get, get_d, (bytes_eq-Decides class.home declaring.home).0 same)

  by : (x : Access) (k a c : ℕ) (member : Member) → HasMember table sort name k a c member → member.access ≡ x → IsAccessible table a c x
  by access.Public k a c member has e = tt
  by access.Protected k a c member has e = inr (stands_above k a c member has)
  by access.Package k a c member has e = one_package k a c member has e
  by access.Private k a c member has e = of_itself k a c member has e

  pub accessible : (k a c : ℕ) (member : Member) → HasMember table sort name k a c member → IsAccessible table a c member.access
  accessible k a c member has = by member.access k a c member has refl
