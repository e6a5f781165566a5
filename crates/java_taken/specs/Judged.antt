-- What a part of a unit is judged to be.
use Rattle.std.specs.Prelude.{◌≡◌, List, ◌++◌, Result, Ok, Err}
use Rattle.java_tree.specs.declared.tokens.Position.{Position}
use Rattle.java_taken.specs.declared.judged.Refusal.{Refusal}
use Rattle.java_taken.specs.declared.judged.Refusal.TheVariants as refusal

-- an open form, by the position of its first token, or a typed tree
pub data Judged (A : Type 0) : Type 0 where
  Open : Position → Judged A
  Typed : A → Judged A

-- the first open form is the first of the parts in the order of the text
infixl 10 ◌>>=◌
abbrev pub ◌>>=◌ : {A B : Type 0} → Judged A → (A → Judged B) → Judged B
(Judged.Typed x) >>= f = f x
(Judged.Open at) >>= f = Judged.Open at

-- what is judged of the rest, behind what is found
abbrev pub continued : {A : Type 0} → List A → Judged (List A) → Judged (List A)
continued found judged = judged >>= λ more. Judged.Typed (found ++ more)

-- what the code answers, unless memory runs out
abbrev pub Judges : {A : Type 0} → Judged A → Result A Refusal → Type 0
Judges judged (Ok x) = judged ≡ Judged.Typed x
Judges judged (Err (refusal.Open at)) = judged ≡ Judged.Open at
Judges judged (Err refusal.Memory) = Unit {0}
