-- What follows what is read is no longer.
use Rattle.std.proofs.Common.{◌≡◌, ◌≤◌, ◌-◌, ℕ, zero, suc, Bool, true, false, List, [], ◌∷◌, length, drop, Option, Some, None, inl, inr, refl, ap, subst, length-take, length-drop, arith}
use Rattle.std.proofs.lemmas.List.{length-append}
use Rattle.java_tree.specs.declared.tokens.Mark.TheVariants as m
use Rattle.java_tree.specs.declared.exprs.Span.{Span}
use Rattle.java_tree.specs.Seen.{Token, Tokens, body}
use Rattle.java_expr_grammar.proofs.LawsToCite.{bind_some, maybe_is, some_same}
use Rattle.java_unit_grammar.specs.Cutting.{Stop, token_weight, turn, is_raw, behind, Cut, cut_step, cut_raw, cut_by, cut}
use Rattle.java_unit_grammar.proofs.LawsToCite.{found}

-- no text of the list is longer
abbrev pub AllWithin : ℕ → List Tokens → Type 0
AllWithin n [] = Unit {0}
AllWithin n (t ∷ ts) = (length t ≤ n) × AllWithin n ts

pub record CutWithin (n : ℕ) (c : Cut) : Type 0 where
  pub rest : length c.rest ≤ n
  pub bodies : AllWithin n c.bodies

raw_some : (b : Bool) (o : Option Cut) (c : Cut) → cut_raw b o ≡ Some c → o ≡ Some c
raw_some true o c e = e
raw_some false o c e = absurd (cc e)

behind_body : (x : Token) (end : ℕ) (ts : Tokens) (b : Span × Tokens) → behind x end ts ≡ Some b → body end ts ≡ Some b
behind_body (Token.Sign m.Arrow at) end ts b e = e
behind_body (Token.Sign m.CloseRound at) end ts b e = e
behind_body _ end ts b e = absurd (cc e)

body_rest : (end : ℕ) (ts : Tokens) (b : Span × Tokens) → body end ts ≡ Some b → length b.1 ≤ length ts
body_rest end ts b e =
    let f = found end ts b.0 b.1 e in
    let l = ap length f.is in
    let k = length-append f.mid (Token.Sign m.CloseCurly b.0.closes ∷ b.1) in
    omega (arith, l, k)

step_within : (n end : ℕ) (x : Token) (ts : Tokens) (go : Tokens → Option Cut) (c : Cut) → length ts ≤ n
    → ((us : Tokens) (c : Cut) → length us ≤ n → go us ≡ Some c → CutWithin n c)
    → (o : Option (Span × Tokens)) → behind x end ts ≡ o → cut_step x ts o go ≡ Some c → CutWithin n c
step_within n end x ts go c within h None is e =
    let a = bind_some (go ts) _ _ e in
    let i = h ts a.0 within a.1 in
    subst (CutWithin n) (some_same a.2) (record { rest = i.rest; bodies = i.bodies })
step_within n end x ts go c within h (Some b) is e =
    let a = bind_some (go b.1) _ _ e in
    let k = body_rest end ts b (behind_body x end ts b is) in
    let i = h b.1 a.0 (omega (arith, k, within)) a.1 in
    let t = length-take (b.0.to - b.0.from) (drop 1 ts) in
    let d = length-drop 1 ts in
    subst (CutWithin n) (some_same a.2) (record { rest = i.rest; bodies = (omega (arith, t, d, within), i.bodies) })

cut_by_within : (stop : Stop) (f end k n : ℕ) (ts : Tokens) (c : Cut) → length ts ≤ n → cut_by stop f end k ts ≡ Some c → CutWithin n c
unfolding cut_by
cut_by_within stop zero end k n ts c within e = absurd (cc e)
cut_by_within stop (suc f) end k n [] c within e = absurd (cc e)
cut_by_within stop (suc f) end k n (x ∷ ts) c within e = elim (maybe_is (turn (token_weight x stop) k) _ _ _ e) [
  | inl h ↦ subst (CutWithin n) (some_same h.1) (record { rest = within; bodies = tt })
  | inr h ↦
      step_within n end x ts (cut_by stop f end h.0) c (omega (arith, within)) (λ us c w e. cut_by_within stop f end h.0 n us c w e) (behind x end ts) refl
      (raw_some (is_raw x) _ c h.2)
]

pub cut_within : (stop : Stop) (ts : Tokens) (c : Cut) → cut stop ts ≡ Some c → CutWithin (length ts) c
cut_within stop ts c e = cut_by_within stop (length ts) (length ts) 0 (length ts) ts c (omega arith) e
