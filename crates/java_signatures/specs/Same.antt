-- What it means that methods or constructors of a class are the same by their signatures.
use Rattle.std.specs.Prelude.{◌≡◌, ◌⊎◌, ℕ, List, [], ◌∷◌, ◌++◌}
use Rattle.java_classes.specs.declared.faults.NameFault.{NameFault}
use Rattle.java_signatures.specs.declared.erasure.Piece.{Piece}
use Rattle.java_signatures.specs.declared.erasure.Piece.TheVariants as piece
use Rattle.java_signatures.specs.declared.signatures.Signature.{Signature}

abbrev pub IsIn : {A : Type 0} → A → List A → Type 0
IsIn x [] = ⊥
IsIn x (y ∷ ys) = (x ≡ y) ⊎ IsIn x ys

abbrev pub IsKnown : Piece → Type 0
IsKnown piece.Unknown = ⊥
IsKnown _ = Unit {0}

abbrev pub AreKnown : List Piece → Type 0
AreKnown [] = Unit {0}
AreKnown (x ∷ xs) = IsKnown x × AreKnown xs

-- Both are constructors, or both are methods of one name; and after erasure they have the same types of parameters, which are
-- known (JLS 4.6, 8.4.2, 8.4.8.3, 8.8.2).
abbrev pub HaveSameErasure : Signature → Signature → Type 0
HaveSameErasure x y = (x.is_constructor ≡ y.is_constructor) × ((x.name ≡ y.name) × ((x.kinds ≡ y.kinds) × AreKnown x.kinds))

-- it stands behind one of the same erasure
abbrev pub IsSecond : List Signature → Signature → Type 0
IsSecond xs x = (before : List Signature) × ((after : List Signature) × ((xs ≡ before ++ x ∷ after) × ((y : Signature) × (IsIn y before × HaveSameErasure x y))))

-- declared twice (N2), at its name
abbrev pub second_at : ℕ → Signature → NameFault
second_at unit x = record { unit = unit; at = x.at; number = 2 }
