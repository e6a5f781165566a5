-- What two operands give by their parts.
use Rattle.std.proofs.Common.{◌≡◌, ℕ, Bool, true, false, List, ◌++◌, length, take, drop, refl, sym, ap, subst, ◌∙◌, append_assoc, arith}
use Rattle.std.specs.Prelude.{Option, Some, None, Result, Ok, Err, IfOk, OnOk, not, if◌then◌else◌}
use Rattle.std.proofs.lemmas.Grind.{common_steps}
use Rattle.j2k_base.specs.declared.constants.Op2.{Op2}
use Rattle.j2k_base.specs.declared.constants.Op2.TheVariants as by
use Rattle.j2k_base.specs.declared.constants.Const.{Const}
use Rattle.j2k_base.specs.declared.constants.Const.TheVariants as constant
use Rattle.j2k_base.specs.declared.constants.Value.{Value}
use Rattle.j2k_base.specs.declared.constants.CExpr.{CExpr, CExpr-F, Two, Choose, fold-roll-CExpr}
use Rattle.j2k_base.specs.declared.constants.CExpr.TheVariants.{rolls-Two, rolls-Choose}
use Rattle.j2k_base.specs.declared.constants.Value.TheVariants as value
use Rattle.const_fold.specs.declared.folding.Part.{Part}
use Rattle.const_fold.specs.declared.folding.Part.TheVariants.{Number, Text}
use Rattle.const_fold.specs.Constants.{text_of, value2, as_value, joined, on_texts, two_value, on_two, chosen_number, chosen_value, on_three, value_at, value_of}
use Rattle.const_fold.specs.Parts.{HasPart, as_part, before_right, joined_part, texts_part, texts_units, two_part, two_units, chosen_part}

-- equal values, parts and units
moved : (v v' : Option Value) (old new new' : List ℕ) (p p' : Option Part) → v' ≡ v → p' ≡ p → new' ≡ new → HasPart v old new p → HasPart v' old new' p'
moved v v' old new new' p p' ev ep en h =
    subst (λ (x : Option Value). HasPart x old new' p') (sym ev)
    (subst (λ (x : Option Part). HasPart v old new' x) (sym ep)
    (subst (λ (x : List ℕ). HasPart v old x p) (sym en) h))

-- a number leaves the units
number_has : (c : Option Const) (old : List ℕ) → HasPart (as_value c) old old (as_part c)
number_has None old = refl
number_has (Some c) old = (refl, refl)

front : (old s : List ℕ) → take (length old) (old ++ s) ≡ old
front old s = grind (arith, common_steps)

back : (old s : List ℕ) → drop (length old) (old ++ s) ≡ s
back old s = grind (arith, common_steps)

whole : (old : List ℕ) → take (length old) old ≡ old
whole old = grind (arith, common_steps)

-- the text of a number on the left is cut off again
cut_back : (a : Const) (op : Op2) (old : List ℕ) → take (length old) (before_right (Number a) op old) ≡ old
cut_back a by.Add old = front old (text_of a)
cut_back a _ old = whole old

number_before_text : (a : Const) (op : Op2) (old t : List ℕ) → HasPart (joined op (text_of a) t) old (before_right (Number a) op old ++ t) (joined_part op)
number_before_text a by.Add old t = (text_of a ++ t, refl, append_assoc old (text_of a) t)
number_before_text a _ old t = refl

text_before_number : (op : Op2) (old s t : List ℕ) → HasPart (joined op s t) old ((old ++ s) ++ t) (joined_part op)
text_before_number by.Add old s t = (s ++ t, refl, append_assoc old s t)
text_before_number _ old s t = refl

left_text : (old s t : List ℕ) → drop (length old) (take (length (old ++ s)) ((old ++ s) ++ t)) ≡ s
left_text old s t = ap (drop (length old)) (front (old ++ s) t) ∙ back old s

first_units : (old s t : List ℕ) → take (length old) ((old ++ s) ++ t) ≡ old
first_units old s t = ap (take (length old)) (append_assoc old s t) ∙ front old (s ++ t)

text_before_text : (op : Op2) (old s t : List ℕ) → HasPart (on_texts op s t) old (texts_units op (length old) ((old ++ s) ++ t)) (texts_part op s t)
text_before_text by.Add old s t = (s ++ t, refl, append_assoc old s t)
text_before_text by.Eq old s t = (refl, first_units old s t)
text_before_text by.Ne old s t = (refl, first_units old s t)
text_before_text _ old s t = refl

-- two operands have their value
pub two_has : (op : Op2) (v w : Option Value) (left right : Part) (old u1 u2 u3 new : List ℕ) (part : Option Part) → HasPart v old u1 (Some left) → u2 ≡ before_right left op u1 → HasPart w u2 u3 (Some right) → part ≡ two_part left right op (length old) (length u2) u3 → new ≡ two_units left right op (length old) u3 → HasPart (on_two (two_value op) v w) old new part
two_has op v w (Number a) (Number b) old u1 u2 u3 new part g e h ep en =
    let is : new ≡ old = en ∙ ap (take (length old)) (h.1 ∙ e ∙ ap (before_right (Number a) op) g.1) ∙ cut_back a op old in
    moved (as_value (value2 op a b)) (on_two (two_value op) v w) old old new (as_part (value2 op a b)) part
    (ap (λ (x : Option Value). on_two (two_value op) x w) g.0 ∙ ap (on_two (two_value op) (Some (value.Number a))) h.0) ep is (number_has (value2 op a b) old)
two_has op v w (Number a) Text old u1 u2 u3 new part g e (t, ew, eu) ep en =
    moved (joined op (text_of a) t) (on_two (two_value op) v w) old (before_right (Number a) op old ++ t) new (joined_part op) part
    (ap (λ (x : Option Value). on_two (two_value op) x w) g.0 ∙ ap (on_two (two_value op) (Some (value.Number a))) ew) ep
    (en ∙ eu ∙ ap (λ (x : List ℕ). x ++ t) (e ∙ ap (before_right (Number a) op) g.1))
    (number_before_text a op old t)
two_has op v w Text (Number b) old u1 u2 u3 new part (s, ev, eu) e h ep en =
    moved (joined op s (text_of b)) (on_two (two_value op) v w) old ((old ++ s) ++ text_of b) new (joined_part op) part
    (ap (λ (x : Option Value). on_two (two_value op) x w) ev ∙ ap (on_two (two_value op) (Some (value.Text s))) h.0) ep
    (en ∙ ap (λ (x : List ℕ). x ++ text_of b) (h.1 ∙ e ∙ eu))
    (text_before_number op old s (text_of b))
two_has op v w Text Text old u1 u2 u3 new part (s, ev, eu) e (t, ew, fu) ep en =
    let is2 : u2 ≡ old ++ s = e ∙ eu in
    let is3 : u3 ≡ (old ++ s) ++ t = fu ∙ ap (λ (x : List ℕ). x ++ t) is2 in
    let l : drop (length old) (take (length u2) u3) ≡ s = ap (λ (x : List ℕ). drop (length old) (take (length x) u3)) is2 ∙ ap (λ (x : List ℕ). drop (length old) (take (length (old ++ s)) x)) is3 ∙ left_text old s t in
    let r : drop (length u2) u3 ≡ t = ap (λ (x : List ℕ). drop (length x) u3) is2 ∙ ap (drop (length (old ++ s))) is3 ∙ back (old ++ s) t in
    moved (on_texts op s t) (on_two (two_value op) v w) old (texts_units op (length old) ((old ++ s) ++ t)) new (texts_part op s t) part
    (ap (λ (x : Option Value). on_two (two_value op) x w) ev ∙ ap (on_two (two_value op) (Some (value.Text s))) ew)
    (ep ∙ ap (λ (x : List ℕ). texts_part op x (drop (length u2) u3)) l ∙ ap (texts_part op s) r)
    (en ∙ ap (texts_units op (length old)) is3)
    (text_before_text op old s t)

no_left : (f : Value → Value → Option Value) (w : Option Value) → on_two f None w ≡ None
no_left f None = refl
no_left f (Some w) = refl

no_right : (f : Value → Value → Option Value) (v : Option Value) → on_two f v None ≡ None
no_right f None = refl
no_right f (Some v) = refl

-- the texts of a conditional
kept : (p : Bool) (old s t m1 u3 new : List ℕ) → m1 ≡ (if not p then take (length old) (old ++ s) else (old ++ s)) → u3 ≡ m1 ++ t → new ≡ (if p then take (length m1) u3 else u3) → new ≡ old ++ (if p then s else t)
kept true old s t m1 u3 new em e en = en ∙ ap (take (length m1)) e ∙ front m1 t ∙ em
kept false old s t m1 u3 new em e en = en ∙ e ∙ ap (λ (x : List ℕ). x ++ t) (em ∙ front old s)

-- numbers leave the units of a conditional
unmoved : (p : Bool) (old u1 m1 u3 new : List ℕ) → u1 ≡ old → m1 ≡ (if not p then take (length old) u1 else u1) → u3 ≡ m1 → new ≡ (if p then take (length m1) u3 else u3) → new ≡ old
unmoved true old u1 m1 u3 new e em f en = en ∙ ap (take (length m1)) f ∙ whole m1 ∙ em ∙ e
unmoved false old u1 m1 u3 new e em f en = en ∙ f ∙ em ∙ ap (take (length old)) e ∙ whole old

-- a conditional has its value
pub chosen_has : (p : Bool) (v w : Option Value) (left right : Option Part) (old u1 m1 u3 new : List ℕ) (part : Option Part) → HasPart v old u1 left → m1 ≡ (if not p then take (length old) u1 else u1) → HasPart w m1 u3 right → new ≡ (if p then take (length m1) u3 else u3) → part ≡ chosen_part p left right → HasPart (on_two (chosen_value p) v w) old new part
chosen_has p v w None right old u1 m1 u3 new part g em h en ep =
    moved None (on_two (chosen_value p) v w) old new new None part (ap (λ (x : Option Value). on_two (chosen_value p) x w) g ∙ no_left (chosen_value p) w) ep refl refl
chosen_has p v w (Some (Number a)) None old u1 m1 u3 new part g em h en ep =
    moved None (on_two (chosen_value p) v w) old new new None part (ap (on_two (chosen_value p) v) h ∙ no_right (chosen_value p) v) ep refl refl
chosen_has p v w (Some (Number a)) (Some (Number b)) old u1 m1 u3 new part g em h en ep =
    moved (as_value (chosen_number p a b)) (on_two (chosen_value p) v w) old old new (as_part (chosen_number p a b)) part
    (ap (λ (x : Option Value). on_two (chosen_value p) x w) g.0 ∙ ap (on_two (chosen_value p) (Some (value.Number a))) h.0) ep (unmoved p old u1 m1 u3 new g.1 em h.1 en) (number_has (chosen_number p a b) old)
chosen_has p v w (Some (Number a)) (Some Text) old u1 m1 u3 new part g em (t, ew, eu) en ep =
    moved None (on_two (chosen_value p) v w) old new new None part
    (ap (λ (x : Option Value). on_two (chosen_value p) x w) g.0 ∙ ap (on_two (chosen_value p) (Some (value.Number a))) ew) ep refl refl
chosen_has p v w (Some Text) None old u1 m1 u3 new part g em h en ep =
    moved None (on_two (chosen_value p) v w) old new new None part (ap (on_two (chosen_value p) v) h ∙ no_right (chosen_value p) v) ep refl refl
chosen_has p v w (Some Text) (Some (Number b)) old u1 m1 u3 new part (s, ev, eu) em h en ep =
    moved None (on_two (chosen_value p) v w) old new new None part
    (ap (λ (x : Option Value). on_two (chosen_value p) x w) ev ∙ ap (on_two (chosen_value p) (Some (value.Text s))) h.0) ep refl refl
chosen_has p v w (Some Text) (Some Text) old u1 m1 u3 new part (s, ev, eu) em (t, ew, fu) en ep =
    moved (Some (value.Text (if p then s else t))) (on_two (chosen_value p) v w) old (old ++ (if p then s else t)) new (Some Text) part
    (ap (λ (x : Option Value). on_two (chosen_value p) x w) ev ∙ ap (on_two (chosen_value p) (Some (value.Text s))) ew) ep
    (kept p old s t m1 u3 new (em ∙ ap (λ (x : List ℕ). if not p then take (length old) x else x) eu) fu en)
    ((if p then s else t), refl, refl)

pub value_of-Two : (op : Op2) (a b : CExpr) → value_of (Two op a b) ≡ on_two (two_value op) (value_of a) (value_of b)
value_of-Two op a b = ap value_of (sym (rolls-Two op a b)) ∙ fold-roll-CExpr (Option Value) value_at (CExpr-F.Two op a b)

pub value_of-Choose : (c a b : CExpr) → value_of (Choose c a b) ≡ on_three (value_of c) (value_of a) (value_of b)
value_of-Choose c a b = ap value_of (sym (rolls-Choose c a b)) ∙ fold-roll-CExpr (Option Value) value_at (CExpr-F.Choose c a b)

-- the value of a tree of two operands
pub two_tree : (e : CExpr) (op : Op2) (a b : CExpr) (l r part : Option Part) (left right : Part) (old u1 u2 u3 new : List ℕ) (start middle : ℕ) → e ≡ Two op a b → HasPart (value_of a) old u1 l → l ≡ Some left → start ≡ length old → u2 ≡ before_right left op u1 → middle ≡ length u2 → HasPart (value_of b) u2 u3 r → r ≡ Some right → part ≡ two_part left right op start middle u3 → new ≡ two_units left right op start u3 → HasPart (value_of e) old new part
two_tree e op a b l r part left right old u1 u2 u3 new start middle is g el es eu em h er ep en =
    moved (on_two (two_value op) (value_of a) (value_of b)) (value_of e) old new new part part (ap value_of is ∙ value_of-Two op a b) refl refl
    (two_has op (value_of a) (value_of b) left right old u1 u2 u3 new part
    (subst (λ (x : Option Part). HasPart (value_of a) old u1 x) el g) eu
    (subst (λ (x : Option Part). HasPart (value_of b) u2 u3 x) er h)
    (ep ∙ ap (λ (n : ℕ). two_part left right op n middle u3) es ∙ ap (λ (n : ℕ). two_part left right op (length old) n u3) em)
    (en ∙ ap (λ (n : ℕ). two_units left right op n u3) es))

-- the value of a conditional
pub choose_tree : (e c a b : CExpr) (pc left right part : Option Part) (p : Bool) (u0 old u1 m1 u3 new : List ℕ) (start middle : ℕ) → e ≡ Choose c a b → HasPart (value_of c) u0 old pc → pc ≡ Some (Number (constant.Bool p)) → start ≡ length old → HasPart (value_of a) old u1 left → m1 ≡ (if not p then take start u1 else u1) → middle ≡ length m1 → HasPart (value_of b) m1 u3 right → new ≡ (if p then take middle u3 else u3) → part ≡ chosen_part p left right → HasPart (value_of e) u0 new part
choose_tree e c a b pc left right part p u0 old u1 m1 u3 new start middle is f ec es g em el h en ep =
    let cond : HasPart (value_of c) u0 old (Some (Number (constant.Bool p))) = subst (λ (x : Option Part). HasPart (value_of c) u0 old x) ec f in
    let whole_value : value_of e ≡ on_two (chosen_value p) (value_of a) (value_of b) = ap value_of is ∙ value_of-Choose c a b ∙ ap (λ (x : Option Value). on_three x (value_of a) (value_of b)) cond.0 in
    let there : HasPart (on_two (chosen_value p) (value_of a) (value_of b)) old new part =
    chosen_has p (value_of a) (value_of b) left right old u1 m1 u3 new part g
    (em ∙ ap (λ (n : ℕ). if not p then take n u1 else u1) es) h
    (en ∙ ap (λ (n : ℕ). if p then take n u3 else u3) el) ep in
    moved (on_two (chosen_value p) (value_of a) (value_of b)) (value_of e) u0 new new part part whole_value refl refl
    (subst (λ (x : List ℕ). HasPart (on_two (chosen_value p) (value_of a) (value_of b)) x new part) cond.1 there)

-- what holds of a value in an Ok
pub if_ok : {A E : Type 0} (r : Result A E) (P Q : A → Type 0) (R : Type 0) → IfOk r P → OnOk r R → ((x : A) → P x → R → Q x) → IfOk r Q
if_ok (Ok x) P Q R p q f = f x p q
if_ok (Err e) P Q R p q f = tt
