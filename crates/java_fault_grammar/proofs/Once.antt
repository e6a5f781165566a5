-- Where a place takes at most one form, at most one run is the first at fault.
use Rattle.std.proofs.Common.{◌≡◌, ◌≤◌, ◌-◌, ◌⊎◌, ℕ, List, [], ◌∷◌, length, inl, inr, ap, sym, ◌∙◌, subst, arith}
use Rattle.std.proofs.lemmas.List.{length-append}
use Rattle.java_tree.specs.Seen.{Tokens}
use Rattle.java_fault_grammar.specs.Walk.{State, start, Form, form_tokens, next, Stands, Lead, IsFault, IsSpelled}

shorter : (fs : List Form) (s : State) (ts : Tokens) (t : State) (rest : Tokens) → Lead s ts fs t rest → length rest ≤ length ts
shorter [] s ts t rest l = let e = ap length l.1 in omega (arith, e)
shorter (f ∷ fs) s ts t rest l =
    let h = shorter fs (next s f) l.0 t rest l.2 in
    let e = ap length l.1.same in
    omega (arith, h, e, length-append (form_tokens f) l.0)

abbrev pub One : Type 0
One = (s : State) (f g : Form) (ts rest more : Tokens) → Stands s f ts rest → Stands s g ts more → (f ≡ g) × (rest ≡ more)

module _ (one : One) where
  -- Of two leads from one state one goes on from the other.
  meet : (fs gs : List Form) (s : State) (ts : Tokens) (t u : State) (rest more : Tokens) → Lead s ts fs t rest → Lead s ts gs u more
      → ((hs : List Form) × Lead t rest hs u more) ⊎ ((hs : List Form) × Lead u more hs t rest)
  meet [] gs s ts t u rest more l k =
      let P : State → Type 0 = λ z. Lead z ts gs u more in
      let Q : Tokens → Type 0 = λ z. Lead t z gs u more in
      inl (gs, subst Q l.1 (subst P l.0 k))
  meet (f ∷ fs) [] s ts t u rest more l k =
      let P : State → Type 0 = λ z. Lead z ts (f ∷ fs) t rest in
      let Q : Tokens → Type 0 = λ z. Lead u z (f ∷ fs) t rest in
      inr (f ∷ fs, subst Q k.1 (subst P k.0 l))
  meet (f ∷ fs) (g ∷ gs) s ts t u rest more l k =
      let e = one s f g ts l.0 k.0 l.1 k.1 in
      let P : Form → Type 0 = λ z. Lead (next s z) k.0 gs u more in
      let Q : Tokens → Type 0 = λ z. Lead (next s f) z gs u more in
      meet fs gs (next s f) l.0 t u rest more l.2 (subst Q (sym e.1) (subst P (sym e.0) k.2))

  same_rest : (hs : List Form) (t u : State) (rest more : Tokens) → ((f : Form) (behind : Tokens) → Stands t f rest behind → ⊥) → Lead t rest hs u more → rest ≡ more
  same_rest [] t u rest more none l = l.1
  same_rest (h ∷ hs) t u rest more none l = absurd (none h l.0 l.1)

  pub fault_once : (ts : Tokens) (i j : ℕ) → IsFault ts i → IsFault ts j → i ≡ j
  fault_once ts i j x y =
      let e : x.rest ≡ y.rest =
      elim (meet x.forms y.forms start ts x.state y.state x.rest y.rest x.leads y.leads) [
        | inl h ↦ same_rest h.0 x.state y.state x.rest y.rest x.unspelled h.1
        | inr h ↦ sym (same_rest h.0 y.state x.state y.rest x.rest y.unspelled h.1)
      ] in
      x.number ∙ (ap (λ (l : Tokens). length ts - length l) e ∙ sym y.number)

  pub fault_none : (ts : Tokens) (i : ℕ) → IsFault ts i → IsSpelled ts → ⊥
  fault_none ts i x y =
      let none : length x.rest ≤ 0 =
      elim (meet x.forms y.forms start ts x.state y.state x.rest [] x.leads y.leads) [
        | inl h ↦ let e = ap length (same_rest h.0 x.state y.state x.rest [] x.unspelled h.1) in omega (arith, e)
        | inr h ↦ shorter h.0 y.state [] x.state x.rest h.1
      ] in
      let n = x.number in
      let b = x.begins in
      omega (arith, none, n, b)
