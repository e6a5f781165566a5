-- The scope of a local, from its declaration to the end of the innermost scope that is open there (JLS 6.3).
use Rattle.std.specs.Prelude.{◌≡◌, ◌≤◌, ℕ, suc, zero, List, [], ◌∷◌, ◌++◌}
use Rattle.java_tree.specs.declared.tokens.Position.{Position}
use Rattle.java_name_uses.specs.declared.uses.Sign.{Sign}
use Rattle.java_name_uses.specs.declared.uses.Sign.TheVariants as sign
use Rattle.java_name_uses.specs.declared.uses.Naming.{Naming}
use Rattle.java_name_uses.specs.declared.uses.Naming.TheVariants as n
use Rattle.java_name_uses.specs.declared.uses.Use.{Use}
use Rattle.java_name_uses.specs.declared.uses.Use.TheVariants as use_

-- ---- how many scopes are open behind a use, where so many are before it

abbrev pub one_less : ℕ → ℕ
one_less zero = zero
one_less (suc depth) = depth

abbrev pub behind_sign : ℕ → Sign → ℕ
behind_sign depth sign.Open = suc depth
behind_sign depth sign.OpenLoop = suc depth
behind_sign depth sign.OpenSwitch = suc depth
behind_sign depth sign.OpenLambda = suc depth
behind_sign depth sign.OpenArguments = suc depth
behind_sign depth sign.Close = one_less depth
behind_sign depth sign.Value = depth
behind_sign depth sign.TypeEnd = depth
behind_sign depth sign.Block = depth
behind_sign depth sign.Skipped = depth

-- a labeled statement is a scope of its label (JLS 14.7)
abbrev pub behind_name : ℕ → Naming → ℕ
behind_name depth n.Label = suc depth
behind_name depth _ = depth

abbrev pub behind_use : ℕ → Use → ℕ
behind_use depth (use_.Sign x) = behind_sign depth x
behind_use depth (use_.Word x at) = depth
behind_use depth (use_.Name x name at) = behind_name depth x

abbrev pub behind_all : ℕ → List Use → ℕ
behind_all depth [] = depth
behind_all depth (x ∷ xs) = behind_all (behind_use depth x) xs

-- a text in which none of the outermost scopes ends, so many, where so many are open before it
abbrev pub EndsNone : ℕ → ℕ → List Use → Type 0
EndsNone outer depth [] = Unit {0}
EndsNone outer depth (x ∷ xs) = (outer ≤ behind_use depth x) × EndsNone outer (behind_use depth x) xs

-- the end of a text is in the scope of a local: it declares it, and no scope that was open at the declaration ended since
pub record IsInScope (name : List ℕ) (at : Position) (xs : List Use) : Type 0 where
  pub before : List Use
  pub since : List Use
  pub is_split : xs ≡ before ++ use_.Name n.Variable name at ∷ since
  pub is_still : EndsNone (behind_all 0 before) (behind_all 0 before) since
