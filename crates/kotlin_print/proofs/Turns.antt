-- Turns of loops.
use Rattle.std.proofs.Common.{◌≡◌, ℕ, ◌+◌, Bool, false, List, [], ◌∷◌, ◌++◌, map, refl, ap, sym, ◌∙◌, ◌<◌, length, take, get_or, append_assoc}
use Rattle.std.proofs.lemmas.List.{append-nil, map-append, take_more}
use Rattle.kotlin_tree.specs.declared.files.KClass.{KClass}
use Rattle.kotlin_layout.specs.Roles.{Roles, joined}
use Rattle.kotlin_layout.specs.Shown.{class_part, classes_part}
use Rattle.kotlin_layout.specs.Layout.{Printed, laid}
use Rattle.kotlin_layout.proofs.LawsToCite.{laid_append}

joined_snoc : (parts : List Roles) (part : Roles) → joined (parts ++ part ∷ []) ≡ joined parts ++ part
joined_snoc [] part = append-nil part
joined_snoc (x ∷ parts) part = ap (λ z. x ++ z) (joined_snoc parts part) ∙ sym (append_assoc x (joined parts) part)

-- a turn of a loop over parts
pub each_at : {A : Type 0} (f : A → Roles) (list : List A) (i : ℕ) (d : A) (p q v : Printed)
    → i < length list → q ≡ laid (joined (map f (take i list))) p → v ≡ laid (f (get_or list i d)) q → v ≡ laid (joined (map f (take (i + 1) list))) p
each_at f list i d p q v lt inv then =
    rw (take_more list i d lt) (
    then ∙ ap (λ z. laid (f (get_or list i d)) z) inv ∙ sym (laid_append (joined (map f (take i list))) (f (get_or list i d)) p)
    ∙ ap (λ z. laid z p) (sym (joined_snoc (map f (take i list)) (f (get_or list i d))) ∙ ap joined (sym (map-append f (take i list) (get_or list i d ∷ []))))
    )

-- whether the next class is the first part
abbrev pub still : Bool → List KClass → Bool
still first [] = first
still first (x ∷ xs) = false

not_still : (first : Bool) (xs : List KClass) (x : KClass) → false ≡ still first (xs ++ x ∷ [])
not_still first [] x = refl
not_still first (y ∷ xs) x = refl

classes_snoc : (first : Bool) (xs : List KClass) (x : KClass) → classes_part first (xs ++ x ∷ []) ≡ classes_part first xs ++ class_part (still first xs) x
classes_snoc first [] x = append-nil (class_part first x)
classes_snoc first (y ∷ ys) x =
    ap (λ z. class_part first y ++ z) (ap joined (map-append (class_part false) ys (x ∷ [])) ∙ joined_snoc (map (class_part false) ys) (class_part false x))
    ∙ sym (append_assoc (class_part first y) (joined (map (class_part false) ys)) (class_part false x))

-- a turn of the loop over classes
pub class_more : (list : List KClass) (i : ℕ) (x : KClass) (first b : Bool) (p q v : Printed)
    → i < length list → x ≡ get_or list i x → (q ≡ laid (classes_part first (take i list)) p) × (b ≡ still first (take i list)) → v ≡ laid (class_part b x) q
    → (v ≡ laid (classes_part first (take (i + 1) list)) p) × (false ≡ still first (take (i + 1) list))
class_more list i x first b p q v lt is inv then =
    let more : take (i + 1) list ≡ take i list ++ x ∷ [] = take_more list i x lt ∙ ap (λ z. take i list ++ z ∷ []) (sym is) in
    rw more (
      then ∙ ap (λ z. laid (class_part z x) q) inv.1 ∙ ap (λ z. laid (class_part (still first (take i list)) x) z) inv.0
          ∙ sym (laid_append (classes_part first (take i list)) (class_part (still first (take i list)) x) p)
          ∙ ap (λ z. laid z p) (sym (classes_snoc first (take i list) x)),
      not_still first (take i list) x,
    )
