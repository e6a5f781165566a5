-- Statements and names one after the other.
use Rattle.std.proofs.Common.{◌≡◌, ◌<◌, ◌≤◌, ◌+◌, ℕ, Bool, true, false, not, cond, List, [], ◌∷◌, ◌++◌, length, drop, get_or, refl, sym, ap, ◌∙◌, append_assoc}
use Rattle.std.proofs.lemmas.List.{append-nil, drop_more, drop_all}
use Rattle.java_tree.specs.declared.tokens.Position.{Position}
use Rattle.java_unit_grammar.specs.declared.statements.JStatement.{JStatement}
use Rattle.java_typed.specs.declared.statements.TStatement.{TStatement}
use Rattle.java_taken.specs.Judged.{Judged, ◌>>=◌, continued}
use Rattle.java_taken.specs.Statements.{names_after, statement, statements}

pub not_if : {A : Type 0} (b : Bool) (x y : A) → cond (not b) x y ≡ cond b y x
not_if true x y = refl
not_if false x y = refl

module _ (classes : List (List ℕ)) (parameter : List ℕ) where
  rest_is : (xs : List JStatement) (i : ℕ) (x : JStatement) → i < length xs → x ≡ get_or xs i x → drop i xs ≡ x ∷ drop (i + 1) xs
  rest_is xs i x h is = drop_more xs i x h ∙ ap (λ (y : JStatement). y ∷ drop (i + 1) xs) (sym is)

  behind : (found : List TStatement) (s : TStatement) (j : Judged (List TStatement)) → continued (found ++ s ∷ []) j ≡ continued found (j >>= λ more. Judged.Typed (s ∷ more))
  behind found s (Judged.Open at) = refl
  behind found s (Judged.Typed more) = ap Judged.Typed (append_assoc found (s ∷ []) more)

  module _ (xs : List JStatement) (i : ℕ) (x : JStatement) (h : i < length xs) (is : x ≡ get_or xs i x) (names : List (List ℕ)) (found : List TStatement) (whole : Judged (List TStatement))
      (before : continued found (statements classes parameter names (drop i xs)) ≡ whole) where
    here : continued found (statement classes parameter names x >>= λ s. statements classes parameter (names_after names s) (drop (i + 1) xs) >>= λ more. Judged.Typed (s ∷ more)) ≡ whole
    here = ap (λ ys. continued found (statements classes parameter names ys)) (sym (rest_is xs i x h is)) ∙ before

    pub typed_next : (s : TStatement) → statement classes parameter names x ≡ Judged.Typed s → continued (found ++ s ∷ []) (statements classes parameter (names_after names s) (drop (i + 1) xs)) ≡ whole
    typed_next s typed =
        behind found s (statements classes parameter (names_after names s) (drop (i + 1) xs))
        ∙ ap (λ (j : Judged TStatement). continued found (j >>= λ s. statements classes parameter (names_after names s) (drop (i + 1) xs) >>= λ more. Judged.Typed (s ∷ more))) (sym typed) ∙ here

    pub open_next : (at : Position) → statement classes parameter names x ≡ Judged.Open at → whole ≡ Judged.Open at
    open_next at open_at =
        sym here ∙ ap (λ (j : Judged TStatement). continued found (j >>= λ s. statements classes parameter (names_after names s) (drop (i + 1) xs) >>= λ more. Judged.Typed (s ∷ more))) open_at

  pub all_typed : (xs : List JStatement) (i : ℕ) (names : List (List ℕ)) (found : List TStatement) (whole : Judged (List TStatement)) → length xs ≤ i
      → continued found (statements classes parameter names (drop i xs)) ≡ whole → whole ≡ Judged.Typed found
  all_typed xs i names found whole h before =
      sym before ∙ ap (λ ys. continued found (statements classes parameter names ys)) (drop_all i xs h) ∙ ap Judged.Typed (append-nil found)
