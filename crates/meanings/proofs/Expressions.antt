-- Expressions are read from their text in one way. Reading goes from the left: an operand of a higher level, then the operators of the level as far as they stand.
use Rattle.std.proofs.Common.{◌≡◌, ℕ, zero, suc, ◌+◌, ◌<◌, ◌≤◌, false, List, [], ◌∷◌, ◌++◌, refl, sym, ap, ◌∙◌, subst, arith, append_assoc}
use Rattle.std.proofs.lemmas.List.{append_cancel_left}
use Rattle.std.specs.Prelude.{slice_index}
use Rattle.meanings.specs.declared.operators.Operator.{Operator}
use Rattle.meanings.specs.declared.operators.Operator.TheVariants.{Plus, Minus, Times}
use Rattle.meanings.specs.declared.kotlin.KExpr.{KExpr, out-KExpr}
use Rattle.meanings.specs.declared.kotlin.KExpr.TheOpen.{KExpr-F}
use Rattle.meanings.specs.Levels.{level}
use Rattle.meanings.specs.KText.{is_word_byte, operator_text, expression_text}
use Rattle.meanings.specs.KSpells.{level_by, level_of, stands_by, IsExpression}
use Rattle.meanings.proofs.Layers.{k_local, k_number, k_paren, k_binary, kotlin_induct, text_at, level_at, here, in_paren, in_binary}
use Rattle.meanings.proofs.Words.{Stops, differ, Word, AName, ANumber, IsOperand, word_text, word_tree, operand_cut, no_paren}

-- ---- operators

operator_stops : (operator : Operator) (r : List ℕ) → Stops (operator_text operator ++ r)
operator_stops Plus r = refl
operator_stops Minus r = refl
operator_stops Times r = refl

at_one : {x y : List ℕ} → x ≡ y → slice_index x 1 ≡ slice_index y 1
at_one e = ap (λ (l : List ℕ). slice_index l 1) e

operator_same : (o p : Operator) (r s : List ℕ) → operator_text o ++ r ≡ operator_text p ++ s → (o ≡ p) × (r ≡ s)
operator_same Plus Plus r s e = (refl, append_cancel_left (operator_text Plus) r s e)
operator_same Minus Minus r s e = (refl, append_cancel_left (operator_text Minus) r s e)
operator_same Times Times r s e = (refl, append_cancel_left (operator_text Times) r s e)
operator_same Plus Minus r s e = absurd (differ 43 45 refl (at_one e))
operator_same Plus Times r s e = absurd (differ 43 42 refl (at_one e))
operator_same Minus Plus r s e = absurd (differ 45 43 refl (at_one e))
operator_same Minus Times r s e = absurd (differ 45 42 refl (at_one e))
operator_same Times Plus r s e = absurd (differ 42 43 refl (at_one e))
operator_same Times Minus r s e = absurd (differ 42 45 refl (at_one e))

no_operator : (o : Operator) (d : ℕ) (r s : List ℕ) → (d ≡ 32 → ⊥) → d ∷ r ≡ operator_text o ++ s → ⊥
no_operator Plus d r s h e = h (cc)
no_operator Minus d r s h e = h (cc)
no_operator Times d r s h e = h (cc)

level_below : (o : Operator) → level o < 2
level_below Plus = omega arith
level_below Minus = omega arith
level_below Times = omega arith

-- ---- reading

-- no operator of the level stands at the front
abbrev NoOperator : ℕ → List ℕ → Type 0
NoOperator l y = (o : Operator) (z : List ℕ) → level o ≡ l → y ≡ operator_text o ++ z → ⊥

mutual
  -- at a level, bytes are read as an expression, and these remain
  data Reads : ℕ → List ℕ → KExpr → List ℕ → Type 0 where
    word : {l : ℕ} {x : List ℕ} {e : KExpr} {r : List ℕ} (w : Word) → IsOperand w → l ≡ 2 → x ≡ word_text w ++ r → Stops r → e ≡ word_tree w → Reads l x e r
    paren : {l : ℕ} {x : List ℕ} {e : KExpr} {r : List ℕ} (inner : KExpr) (y : List ℕ) → l ≡ 2 → x ≡ 40 ∷ y → Reads 0 y inner (41 ∷ r) → e ≡ k_paren inner → Reads l x e r
    up : {l : ℕ} {x : List ℕ} {e : KExpr} {r : List ℕ} (a : KExpr) (y : List ℕ) → l < 2 → Reads (l + 1) x a y → Climbs l a y e r → Reads l x e r

  -- behind an operand, the operators of the level are read
  data Climbs : ℕ → KExpr → List ℕ → KExpr → List ℕ → Type 0 where
    stop : {l : ℕ} {a : KExpr} {y : List ℕ} {e : KExpr} {r : List ℕ} → e ≡ a → r ≡ y → NoOperator l y → Climbs l a y e r
    more : {l : ℕ} {a : KExpr} {y : List ℕ} {e : KExpr} {r : List ℕ} (o : Operator) (b : KExpr) (z w : List ℕ) → level o ≡ l → y ≡ operator_text o ++ z → Reads (l + 1) z b w → Climbs l (k_binary a o b) w e r → Climbs l a y e r

tail_same : {b c : ℕ} {x y : List ℕ} → b ∷ x ≡ c ∷ y → x ≡ y
tail_same e = cc

binary_same : {a b c d : KExpr} {o p : Operator} → a ≡ c → o ≡ p → b ≡ d → k_binary a o b ≡ k_binary c p d
binary_same left operator right = cc

no_two : {l k : ℕ} → l ≡ 2 → k < 2 → l ≡ k → ⊥
no_two e h same = omega arith

-- they are read in one way
mutual
  reads_same : {l m : ℕ} {x y : List ℕ} {e f : KExpr} {r s : List ℕ} → Reads l x e r → Reads m y f s → l ≡ m → x ≡ y → (e ≡ f) × (r ≡ s)
  reads_same {r = r} {s = s} (word v h top is stops tree) (word w g top' is' stops' tree') level same =
      let parts : (v ≡ w) × (r ≡ s) = operand_cut v w r s h g stops stops' (sym is ∙ same ∙ is') in
      (tree ∙ ap word_tree parts.0 ∙ sym tree', parts.1)
  reads_same {r = r} (word v h top is stops tree) (paren inner y top' is' inside tree') level same = absurd (no_paren v r y h (sym is ∙ same ∙ is'))
  reads_same (word v h top is stops tree) (up a y low first climbs) level same = absurd (no_two top low level)
  reads_same {s = s} (paren inner y top is inside tree) (word w g top' is' stops' tree') level same = absurd (no_paren w s y g (sym is' ∙ sym same ∙ is))
  reads_same (paren inner y top is inside tree) (paren other z top' is' inside' tree') level same =
      let parts = reads_same inside inside' refl (tail_same (sym is ∙ same ∙ is')) in
      (tree ∙ ap k_paren parts.0 ∙ sym tree', tail_same parts.1)
  reads_same (paren inner y top is inside tree) (up a z low first climbs) level same = absurd (no_two top low level)
  reads_same (up a y low first climbs) (word w g top' is' stops' tree') level same = absurd (no_two top' low (sym level))
  reads_same (up a y low first climbs) (paren other z top' is' inside' tree') level same = absurd (no_two top' low (sym level))
  reads_same (up a y low first climbs) (up b z low' first' climbs') level same =
      let parts = reads_same first first' (ap (λ (n : ℕ). n + 1) level) same in
      climbs_same climbs climbs' level parts.0 parts.1

  climbs_same : {l m : ℕ} {a b : KExpr} {x y : List ℕ} {e f : KExpr} {r s : List ℕ} → Climbs l a x e r → Climbs m b y f s → l ≡ m → a ≡ b → x ≡ y → (e ≡ f) × (r ≡ s)
  climbs_same (stop tree rest none) (stop tree' rest' none') level left same = (tree ∙ left ∙ sym tree', rest ∙ same ∙ sym rest')
  climbs_same (stop tree rest none) (more o b z w at is right on) level left same = absurd (none o z (at ∙ sym level) (same ∙ is))
  climbs_same (more o b z w at is right on) (stop tree' rest' none') level left same = absurd (none' o z (at ∙ level) (sym same ∙ is))
  climbs_same (more o b z w at is right on) (more p c u v at' is' right' on') level left same =
      let operators : (o ≡ p) × (z ≡ u) = operator_same o p z u (sym is ∙ same ∙ is') in
      let parts = reads_same right right' (ap (λ (n : ℕ). n + 1) level) operators.1 in
      climbs_same on on' level (binary_same left operators.0 parts.0) parts.1

-- ---- what stands is read again

-- what may follow an expression at a level: no letter, no digit and no operator of a level above
record Free (l : ℕ) (r : List ℕ) : Type 0 where
  stops : Stops r
  none : (o : Operator) (z : List ℕ) → l < level o → r ≡ operator_text o ++ z → ⊥

free_above : (l : ℕ) (r : List ℕ) → Free l r → Free (l + 1) r
free_above l r h = record { stops = h.stops; none = λ o z above is. h.none o z (omega arith) is }

none_above : (l : ℕ) (r : List ℕ) → Free l r → NoOperator (l + 1) r
none_above l r h o z at is = h.none o z (omega arith) is

free_operator : (o : Operator) (r : List ℕ) → Free (level o) (operator_text o ++ r)
free_operator o r = record {
  stops = operator_stops o r;
  none = λ p z above is. let same : o ≡ p = (operator_same o p r z is).0 in absurd (omega (arith, ap level same));
}

-- before a byte that neither goes on a word nor begins an operator
free_byte : (l d : ℕ) (r : List ℕ) → is_word_byte d ≡ false → (d ≡ 32 → ⊥) → Free l (d ∷ r)
free_byte l d r stops blank = record { stops = stops; none = λ o z above is. no_operator o d r z blank is }

none_byte : (l d : ℕ) (r : List ℕ) → (d ≡ 32 → ⊥) → NoOperator l (d ∷ r)
none_byte l d r blank o z at is = no_operator o d r z blank is

record Again (e : KExpr) : Type 0 where
  primary : level_of e ≡ 2 → (r : List ℕ) → Stops r → Reads 2 (expression_text e ++ r) e r
  on : (l : ℕ) → l < 2 → l ≤ level_of e → (r : List ℕ) → Free l r → (f : KExpr) (s : List ℕ) → Climbs l e r f s → Reads l (expression_text e ++ r) f s

level_by_least : (x : KExpr-F KExpr) → level_by x ≤ 2
level_by_least (KExpr-F.Local name) = omega arith
level_by_least (KExpr-F.Number n) = omega arith
level_by_least (KExpr-F.Paren e) = omega arith
level_by_least (KExpr-F.Binary a o b) = omega (arith, level_below o)

level_least : (e : KExpr) → level_of e ≤ 2
unfolding level_of
level_least e = level_by_least (out-KExpr e)

-- a whole expression at a level, where no operator of the level follows
whole : (e : KExpr) → Again e → (l : ℕ) → l ≤ level_of e → (r : List ℕ) → Free l r → NoOperator l r → Reads l (expression_text e ++ r) e r
whole e again zero at r free none = again.on 0 (omega arith) at r free e r (stop refl refl none)
whole e again (suc zero) at r free none = again.on 1 (omega arith) at r free e r (stop refl refl none)
whole e again (suc (suc zero)) at r free none = again.primary (omega (arith, level_least e)) r free.stops
whole e again (suc (suc (suc n))) at r free none = absurd (omega (arith, level_least e))

-- a primary expression at each level
primary_again : (e : KExpr) → ((r : List ℕ) → Stops r → Reads 2 (expression_text e ++ r) e r) → Again e
primary_again e h = record {
  primary = λ top. h;
  on = climbing;
}
  where
    climbing : (l : ℕ) → l < 2 → l ≤ level_of e → (r : List ℕ) → Free l r → (f : KExpr) (s : List ℕ) → Climbs l e r f s → Reads l (expression_text e ++ r) f s
    climbing zero low at r free f s climbs = up e r low (up e r (omega arith) (h r free.stops) (stop refl refl (none_above 0 r free))) climbs
    climbing (suc zero) low at r free f s climbs = up e r low (h r free.stops) climbs
    climbing (suc (suc n)) low at r free f s climbs = absurd (omega arith)

regroup : (a b c r : List ℕ) → (a ++ b ++ c) ++ r ≡ a ++ (b ++ (c ++ r))
regroup a b c r = simp append_assoc

binary_text : (a b : KExpr) (o : Operator) (r : List ℕ) → expression_text (k_binary a o b) ++ r ≡ expression_text a ++ (operator_text o ++ (expression_text b ++ r))
binary_text a b o r = ap (λ (t : List ℕ). t ++ r) (text_at (KExpr-F.Binary a o b)) ∙ regroup (expression_text a) (operator_text o) (expression_text b) r

paren_text : (e : KExpr) (r : List ℕ) → expression_text (k_paren e) ++ r ≡ 40 ∷ (expression_text e ++ (41 ∷ r))
paren_text e r = ap (λ (t : List ℕ). t ++ r) (text_at (KExpr-F.Paren e)) ∙ regroup (40 ∷ []) (expression_text e) (41 ∷ []) r

-- an operator at its own level
module _ (a b : KExpr) (o : Operator) (left : Again a) (right : Again b) (stands : level o ≤ level_of a) (stands' : level o + 1 ≤ level_of b) where
  own_level : (r : List ℕ) → Free (level o) r → (f : KExpr) (s : List ℕ) → Climbs (level o) (k_binary a o b) r f s → Reads (level o) (expression_text (k_binary a o b) ++ r) f s
  own_level r free f s climbs =
      subst (λ (t : List ℕ). Reads (level o) t f s) (sym (binary_text a b o r))
      (left.on (level o) (level_below o) stands (operator_text o ++ (expression_text b ++ r)) (free_operator o (expression_text b ++ r)) f s
      (more o b (expression_text b ++ r) r refl refl (whole b right (level o + 1) stands' r (free_above (level o) r free) (none_above (level o) r free)) climbs))

-- and below it
binary_on : (o : Operator) (a b : KExpr) → Again a → Again b → level o ≤ level_of a → level o + 1 ≤ level_of b → (l : ℕ) → l ≤ level o → (r : List ℕ) → Free l r
    → (f : KExpr) (s : List ℕ) → Climbs l (k_binary a o b) r f s → Reads l (expression_text (k_binary a o b) ++ r) f s
binary_on Plus a b left right stands stands' zero at r free f s climbs = own_level a b Plus left right stands stands' r free f s climbs
binary_on Minus a b left right stands stands' zero at r free f s climbs = own_level a b Minus left right stands stands' r free f s climbs
binary_on Times a b left right stands stands' zero at r free f s climbs =
    up (k_binary a Times b) r (omega arith) (own_level a b Times left right stands stands' r (free_above 0 r free) (k_binary a Times b) r (stop refl refl (none_above 0 r free))) climbs
binary_on Times a b left right stands stands' (suc zero) at r free f s climbs = own_level a b Times left right stands stands' r free f s climbs
binary_on Plus a b left right stands stands' (suc n) at r free f s climbs = absurd (omega arith)
binary_on Minus a b left right stands stands' (suc n) at r free f s climbs = absurd (omega arith)
binary_on Times a b left right stands stands' (suc (suc n)) at r free f s climbs = absurd (omega arith)

binary_again : (a b : KExpr) (o : Operator) → Again a → Again b → level o ≤ level_of a → level o + 1 ≤ level_of b → Again (k_binary a o b)
binary_again a b o left right stands stands' = record {
  primary = λ top. absurd (omega (arith, level_below o, level_at (KExpr-F.Binary a o b)));
  on = λ l low at. binary_on o a b left right stands stands' l (rw (level_at (KExpr-F.Binary a o b)) at at);
}

word_again : (w : Word) → IsOperand w → (r : List ℕ) → expression_text (word_tree w) ≡ word_text w → Stops r → Reads 2 (expression_text (word_tree w) ++ r) (word_tree w) r
word_again w h r same stops = word w h refl (ap (λ (t : List ℕ). t ++ r) same) stops refl

paren_again : (e : KExpr) → Again e → (r : List ℕ) → Stops r → Reads 2 (expression_text (k_paren e) ++ r) (k_paren e) r
paren_again e again r stops =
    paren e (expression_text e ++ (41 ∷ r)) refl (paren_text e r)
    (whole e again 0 (omega arith) (41 ∷ r) (free_byte 0 41 r refl (differ 41 32 refl)) (none_byte 0 41 r (differ 41 32 refl))) refl

read_again : (e : KExpr) → IsExpression e → Again e
unfolding IsExpression
read_again = kotlin_induct (λ e. IsExpression e → Again e) (record {
  local = λ name h. primary_again (k_local name) (λ r stops. word_again (AName name) (here stands_by (KExpr-F.Local name) h) r (text_at (KExpr-F.Local name)) stops);
  number = λ n h. primary_again (k_number n) (λ r stops. word_again (ANumber n) (here stands_by (KExpr-F.Number n) h) r (text_at (KExpr-F.Number n)) stops);
  paren = λ e again h. primary_again (k_paren e) (paren_again e (again (in_paren stands_by e h)));
  binary = λ a o b left right h.
      let stands = here stands_by (KExpr-F.Binary a o b) h in
      let parts = in_binary stands_by a b o h in
      binary_again a b o (left parts.0) (right parts.1) stands.0 stands.1;
})

-- ---- expressions, before a byte that is no word's and no blank

pub expression_same : (d : ℕ) (r s : List ℕ) → is_word_byte d ≡ false → (d ≡ 32 → ⊥) → (e f : KExpr) → IsExpression e → IsExpression f →
    expression_text e ++ (d ∷ r) ≡ expression_text f ++ (d ∷ s) → (e ≡ f) × (r ≡ s)
expression_same d r s stops blank e f h g same =
    let parts = reads_same
    (whole e (read_again e h) 0 (omega arith) (d ∷ r) (free_byte 0 d r stops blank) (none_byte 0 d r blank))
    (whole f (read_again f g) 0 (omega arith) (d ∷ s) (free_byte 0 d s stops blank) (none_byte 0 d s blank)) refl same in
    (parts.0, tail_same parts.1)
