-- What a written type means is what it names.
use Rattle.std.proofs.Common.{◌≡◌, ℕ, Bool, true, false, List, [], ◌∷◌, map, Option, Some, None, refl, sym, ap, subst, ◌∙◌}
use Rattle.std.specs.Prelude.{if◌then◌else◌}
use Rattle.judged.specs.Judged.{after, begun, each}
use Rattle.kotlin_tree.specs.declared.places.Position.{Position}
use Rattle.kotlin_tree.specs.declared.types.KType.{KType, roll-KType, ind-KType, map-KType, fold-roll-KType}
use Rattle.kotlin_tree.specs.declared.types.KType.TheOpen.{KType-F}
use Rattle.kotlin_types.specs.declared.kinds.KClassRef.{KClassRef}
use Rattle.kotlin_types.specs.declared.kinds.KHead.{KHead}
use Rattle.kotlin_types.specs.declared.kinds.Nullability.{Nullability}
use Rattle.kotlin_types.specs.declared.kinds.KKind.{KKind}
use Rattle.kotlin_typing.specs.declared.tables.KTypeVariable.{KTypeVariable}
use Rattle.kotlin_typing.specs.declared.tables.KTables.{KTables}
use Rattle.kotlin_typing.specs.Notes.{Typed}
use Rattle.kotlin_typing.specs.Written as wr
use Rattle.kotlin_typing.specs.Written.{Path, written}
use Rattle.kotlin_typing.proofs.LawsToCite.{some_same, type_at}
use Rattle.kotlin_project.specs.Named as nm
use Rattle.kotlin_project.specs.Named.{named}

-- what the judgement gives is what the name gives
abbrev Agrees : Typed KKind → Option KKind → Type 0
Agrees j o = (k : KKind) → j.result ≡ Some k → o ≡ Some k

class_agrees : (w : KTables) (path : List ℕ) (at : Position) (n : Nullability) (args : List KKind) (o : Option KClassRef) → Agrees (wr.class_written w path at n args o) (nm.class_named n args o)
class_agrees w path at n args None k h = cc
class_agrees w path at n args (Some c) k h = by_fit (wr.fits_class w c args) h
  where
    by_fit : (b : Bool) → (if b then record { result = nm.class_named n args (Some c); notes = [] } else wr.bad path 3 at).result ≡ Some k → nm.class_named n args (Some c) ≡ Some k
    by_fit true h = h
    by_fit false h = cc

head_agrees : (w : KTables) (path : List ℕ) (at : Position) (n : Nullability) (name : Path) (o : Option KHead) → Agrees (wr.head_written w path at n name o) (nm.head_named w n name o)
head_agrees w path at n name None k h = class_agrees w path at n [] (wr.class_at w name) k h
head_agrees w path at n name (Some x) k h = h

plain_agrees : (w : KTables) (path : List ℕ) (at : Position) (name : Path) (q : Option Position) (o : Option KTypeVariable) → Agrees (wr.plain_written w path at name q o) (nm.plain_named w name q o)
plain_agrees w path at name q None k h = head_agrees w path at (wr.marked q) name (wr.array_named name) k h
plain_agrees w path at name q (Some v) k h = h

array_agrees : (path : List ℕ) (at : Position) (n : Nullability) (args : List KKind) → Agrees (wr.array_written path at n args) (nm.array_of n args)
array_agrees path at n [] k h = cc
array_agrees path at n (x ∷ []) k h = h
array_agrees path at n (x ∷ y ∷ xs) k h = cc

applied_agrees : (w : KTables) (path : List ℕ) (at : Position) (n : Nullability) (name : Path) (args : List KKind) → Agrees (wr.applied_written w path at n name args) (nm.applied_named w n name (Some args))
applied_agrees w path at n name args k h = by_array (wr.is_array_named name) h
  where
    by_array : (b : Bool) → (if b then wr.array_written path at n args else wr.class_written w path at n args (wr.class_at w name)).result ≡ Some k →
        (if b then nm.array_of n args else nm.class_named n args (wr.class_at w name)) ≡ Some k
    by_array true h = array_agrees path at n args k h
    by_array false h = class_agrees w path at n args (wr.class_at w name) k h

both_begun : (a : Option KKind) (more : Option (List KKind)) (ks : List KKind) → begun a more ≡ Some ks →
    (k : KKind) × (rest : List KKind) × (a ≡ Some k) × (more ≡ Some rest) × (ks ≡ k ∷ rest)
both_begun None more ks h = cc
both_begun (Some a) None ks h = cc
both_begun (Some a) (Some more) ks h = (a, more, refl, refl, sym (some_same (a ∷ more) ks h))

from_some : (o : Option (List KKind)) (next : List KKind → Typed KKind) (k : KKind) → (after o next).result ≡ Some k → (ks : List KKind) × (o ≡ Some ks) × ((next ks).result ≡ Some k)
from_some None next k h = cc
from_some (Some ks) next k h = (ks, refl, h)

module _ (w : KTables) where
  abbrev IsNamed : KType → Type 0
  IsNamed x = (path : List ℕ) → Agrees (written w x path) (named w x)

  abbrev Part : Type 0
  Part = (x : KType) × IsNamed x

  named_at : (x : KType-F KType) → named w (roll-KType x) ≡ nm.named_by w (map-KType KType (Option KKind) (named w) x)
  unfolding named
  named_at x = fold-roll-KType (Option KKind) (nm.named_by w) x

  all_named : (xs : List Part) (path : List ℕ) (ks : List KKind) → (each (map (wr.judged_type path) (map (written w) (map (λ (x : Part). x.0) xs)))).result ≡ Some ks →
      nm.all_of (map (named w) (map (λ (x : Part). x.0) xs)) ≡ Some ks
  all_named [] path ks h = h
  all_named (x ∷ xs) path ks h =
      let parts = both_begun (written w x.0 path).result (each (map (wr.judged_type path) (map (written w) (map (λ (x : Part). x.0) xs)))).result ks h in
      ap (λ o. begun o (nm.all_of (map (named w) (map (λ (x : Part). x.0) xs)))) (x.1 path parts.0 parts.2)
      ∙ (ap (begun (Some parts.0)) (all_named xs path parts.1 parts.3) ∙ ap Some (sym parts.4))

  type_from : (x : KType) (f : List ℕ → Typed KKind) (o : Option KKind) → written w x ≡ f → named w x ≡ o → ((path : List ℕ) → Agrees (f path) o) → IsNamed x
  type_from x f o e i h = subst (λ (g : List ℕ → Typed KKind). (path : List ℕ) → Agrees (g path) (named w x)) (sym e) (subst (λ z. (path : List ℕ) → Agrees (f path) z) (sym i) h)

  type_case : (y : KType-F Part) → IsNamed (roll-KType (map-KType Part KType (λ x. x.0) y))
  type_case (KType-F.Plain name q v) = type_from _ _ _ (type_at w (KType-F.Plain name q v)) (named_at (KType-F.Plain name q v))
      (λ path. plain_agrees w path name.first.at (wr.path_of name) q (wr.variable_at w (wr.path_of name)))
  type_case (KType-F.Applied name angles args commas q) =
      type_from _ _ _ (type_at w (KType-F.Applied name angles (map (λ (x : Part). x.0) args) commas q)) (named_at (KType-F.Applied name angles (map (λ (x : Part). x.0) args) commas q))
      (λ path k h. applied_case path k h)
    where
      applied_case : (path : List ℕ) (k : KKind) →
          (after (each (map (wr.judged_type path) (map (written w) (map (λ (x : Part). x.0) args)))).result (wr.applied_written w path name.first.at (wr.marked q) (wr.path_of name))).result ≡ Some k →
          nm.applied_named w (wr.marked q) (wr.path_of name) (nm.all_of (map (named w) (map (λ (x : Part). x.0) args))) ≡ Some k
      applied_case path k h =
          let parts = from_some (each (map (wr.judged_type path) (map (written w) (map (λ (x : Part). x.0) args)))).result (wr.applied_written w path name.first.at (wr.marked q) (wr.path_of name)) k h in
          ap (nm.applied_named w (wr.marked q) (wr.path_of name)) (all_named args path parts.0 parts.1)
          ∙ applied_agrees w path name.first.at (wr.marked q) (wr.path_of name) parts.0 k parts.2

  pub type_named : (x : KType) → IsNamed x
  type_named = ind-KType IsNamed (λ x y is. subst (λ (z : KType-F KType). IsNamed (roll-KType z)) is (type_case y))

  pub meant_named : (x : KType) (k : KKind) → wr.meant w x ≡ Some k → named w x ≡ Some k
  meant_named x k h = type_named x [] k h
