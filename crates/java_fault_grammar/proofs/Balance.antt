-- Where no bracket is at fault, no body of a type is open behind the last run.
use Rattle.std.proofs.Common.{◌≡◌, ◌≤◌, ◌+◌, List, [], ◌∷◌, length, refl, ap, arith}
use Rattle.java_tree.specs.declared.tokens.Position.{Position}
use Rattle.java_tree.specs.Seen.{Tokens}
use Rattle.java_member_grammar.specs.Heads.{type_head_tokens}
use Rattle.java_unit_grammar.specs.Standing.{Owner}
use Rattle.java_fault_grammar.specs.Walk.{Spot, State, start, Form, form_tokens, takes_at, outer, behind_member, next, Stands, Lead}
use Rattle.java_fault_grammar.proofs.Counts.{opening, closing, total, total_append, Flawless, as_many, text_counts, last_left}

ends_in : (spot : Spot) (around : List Owner) (at : Position) → takes_at spot around (Form.Ends at) → 1 ≤ length around
ends_in Spot.Start around at h = absurd h
ends_in Spot.Lines around at h = absurd h
ends_in Spot.Top around at h = absurd h
ends_in Spot.Constants around at h = absurd h
ends_in Spot.Member [] at h = absurd h
ends_in Spot.Member (x ∷ around) at h = omega arith

outer_less : (around : List Owner) → 1 ≤ length around → 1 + length (outer around).around ≡ length around
outer_less [] h = absurd (omega (arith, h))
outer_less (x ∷ []) h = refl
outer_less (x ∷ y ∷ around) h = omega arith

behind_same : (around : List Owner) → length (behind_member around).around ≡ length around
behind_same [] = refl
behind_same (x ∷ around) = refl

-- what one form counts
form_counts : (s : State) (f : Form) (ts rest : Tokens) → Stands s f ts rest
    → total closing (form_tokens f) + length (next s f).around ≤ total opening (form_tokens f) + length s.around
form_counts s (Form.Package x) ts rest st = let h = text_counts ts (form_tokens (Form.Package x)) st.whole in omega (arith, h)
form_counts s (Form.Import x) ts rest st = let h = text_counts ts (form_tokens (Form.Import x)) st.whole in omega (arith, h)
form_counts s (Form.Head x left) ts rest st =
    let h = text_counts ts (form_tokens (Form.Head x left)) st.whole in
    let l = last_left (type_head_tokens x) left in
    omega (arith, h, l)
form_counts s (Form.Member x) ts rest st =
    let h = text_counts ts (form_tokens (Form.Member x)) st.whole in
    let e = behind_same s.around in
    omega (arith, h, e)
form_counts s (Form.Constants x bodies) ts rest st = let h = text_counts ts (form_tokens (Form.Constants x bodies)) st.whole in omega (arith, h)
form_counts s (Form.Ends at) ts rest st =
    let n = ends_in s.spot s.around at st.taken in
    let e = outer_less s.around n in
    omega (arith, e)

lead_counts : (fs : List Form) (s : State) (ts : Tokens) (t : State) → Lead s ts fs t [] → total closing ts + length t.around ≤ total opening ts + length s.around
lead_counts [] s ts t l =
    let c = ap (total closing) l.1 in
    let o = ap (total opening) l.1 in
    let e = ap (λ (z : State). length z.around) l.0 in
    omega (arith, c, o, e)
lead_counts (f ∷ fs) s ts t l =
    let h = lead_counts fs (next s f) l.0 t l.2 in
    let g = form_counts s f ts l.0 l.1 in
    let c = ap (total closing) l.1.same in
    let o = ap (total opening) l.1.same in
    omega (arith, h, g, c, o, total_append closing (form_tokens f) l.0, total_append opening (form_tokens f) l.0)

no_owner : (xs : List Owner) → length xs ≡ 0 → xs ≡ []
no_owner [] h = refl
no_owner (x ∷ xs) h = absurd (omega (arith, h))

pub none_left : (ts : Tokens) (fs : List Form) (s : State) → Flawless ts → Lead start ts fs s [] → s.around ≡ []
none_left ts fs s sound l =
    let h = lead_counts fs start ts s l in
    let e = as_many ts sound in
    no_owner s.around (omega (arith, h, e))
