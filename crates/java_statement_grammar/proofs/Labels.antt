-- Locks, and labels of a switch: what is read is spelled so, and what is spelled so is read.
use Rattle.std.proofs.Common.{◌≡◌, ◌<◌, ℕ, zero, suc, ◌++◌, [], ◌∷◌, Some, inl, inr, refl, ap, sym, ◌∙◌, subst, append_assoc, arith}
use Rattle.std.proofs.lemmas.List.{append-nil}
use Rattle.java_tree.specs.declared.tokens.Position.{Position}
use Rattle.java_tree.specs.declared.tokens.Mark.TheVariants as m
use Rattle.java_tree.specs.declared.tokens.Keyword.TheVariants as w
use Rattle.java_tree.specs.Seen.{Token, Tokens}
use Rattle.java_tree.specs.declared.types.JQualified.{JQualified}
use Rattle.java_tree.specs.declared.exprs.JExpr.{JExpr}
use Rattle.java_tree.specs.Trees.{qualified_tokens, tokens, any_level, Stands}
use Rattle.java_expr_grammar.specs.Reading as r
use Rattle.java_expr_grammar.specs.Reading.{◌>>=◌, maybe, whole}
use Rattle.java_expr_grammar.proofs.LawsToCite.{bind_some, maybe_is, some_same, qualified_sound, qualified_again, sound, colon_only, after}
use Rattle.java_statement_grammar.specs.declared.statements.JLock.{JLock}
use Rattle.java_statement_grammar.specs.declared.statements.JLock.TheVariants as lock
use Rattle.java_statement_grammar.specs.declared.statements.JSwitchLabel.{JSwitchLabel}
use Rattle.java_statement_grammar.specs.declared.statements.JSwitchLabel.TheVariants as label
use Rattle.java_statement_grammar.specs.Heads.{lock_tokens, LockStands, switch_tokens, SwitchStands}
use Rattle.java_statement_grammar.specs.Reading.{class_of, class_lock, lock_read, case_of, switch_step, switch_read}
use Rattle.java_statement_grammar.proofs.Whole.{whole_only, read_sound, any_again, read_again}
use Rattle.java_statement_grammar.proofs.Begins.{no_class_lock}

-- ---- locks

-- It spells the tokens, and stands.
abbrev Locks : ℕ → Tokens → JLock → Type 0
Locks d ts x = (lock_tokens x ≡ ts) × LockStands d x

class_of_sound : (d : ℕ) (q : JQualified) (ts : Tokens) (x : JLock) → class_of q ts ≡ Some x → Locks d (qualified_tokens q ++ ts) x
class_of_sound d q (Token.Sign m.Dot dot ∷ Token.Word w.Class at ∷ []) x e =
    subst (Locks d (qualified_tokens q ++ Token.Sign m.Dot dot ∷ Token.Word w.Class at ∷ [])) (some_same e) (refl, tt)
class_of_sound d q _ x e = absurd (cc e)

class_sound : (d : ℕ) (ts : Tokens) (x : JLock) → class_lock ts ≡ Some x → Locks d ts x
class_sound d (Token.Id n at ∷ rest) x e =
    subst (λ ts. Locks d ts x) (sym (qualified_sound n at rest)) (class_of_sound d (r.qualified n at rest).0 (r.qualified n at rest).1 x e)
class_sound d _ x e = absurd (cc e)

-- What is read is spelled so, and stands.
pub lock_is_spelled : (d : ℕ) (ts : Tokens) (x : JLock) → lock_read d ts ≡ Some x → (lock_tokens x ≡ ts) × LockStands d x
unfolding lock_read
lock_is_spelled d ts x e = elim (maybe_is (class_lock ts) _ _ _ e) [
  | inl a ↦ (let b = bind_some (whole (r.read d any_level ts)) _ _ a.1 in subst (Locks d ts) (some_same b.2) (read_sound d any_level ts b.0 b.1))
  | inr a ↦ class_sound d ts x (a.1 ∙ a.2)
]

class_again : (q : JQualified) (dot at : Position) → class_lock (qualified_tokens q ++ Token.Sign m.Dot dot ∷ Token.Word w.Class at ∷ []) ≡ Some (lock.Class q dot at)
class_again q dot at = ap (λ (y : JQualified × Tokens). class_of y.0 y.1) (qualified_again q (Token.Sign m.Dot dot ∷ Token.Word w.Class at ∷ []) refl)

lock_again : (d : ℕ) (x : JLock) → LockStands d x → lock_read d (lock_tokens x) ≡ Some x
unfolding lock_read
lock_again d (lock.Expression x) s = rw (ap class_lock (sym (append-nil (tokens x))) ∙ no_class_lock d any_level x s, read_again d x s) refl
lock_again d (lock.Class q dot at) s = rw (class_again q dot at) refl

-- What is spelled so is read.
pub lock_is_read : (d : ℕ) (ts : Tokens) (x : JLock) → LockStands d x → lock_tokens x ≡ ts → lock_read d ts ≡ Some x
lock_is_read d ts x s same = subst (λ ts. lock_read d ts ≡ Some x) same (lock_again d x s)

-- ---- labels of a switch

abbrev Labels : ℕ → Tokens → JSwitchLabel × Tokens → Type 0
Labels d ts x = (ts ≡ switch_tokens x.0 ++ x.1) × SwitchStands (suc d) x.0

case_sound : (d : ℕ) (at : Position) (ts : Tokens) (x : JSwitchLabel × Tokens) → case_of d at ts ≡ Some x → Labels d (Token.Word w.Case at ∷ ts) x
unfolding case_of SwitchStands
case_sound d at ts x e =
    let a = bind_some (r.read d any_level ts) _ _ e in
    let c = bind_some (r.colon a.0.1) _ _ a.2 in
    let i = sound d any_level ts a.0 a.1 in
    subst (Labels d (Token.Word w.Case at ∷ ts)) (some_same c.2) (
      ap (λ r. Token.Word w.Case at ∷ r) (i.0 ∙ ap (λ r. tokens a.0.0 ++ r) (colon_only a.0.1 c.0 c.1) ∙ sym (append_assoc (tokens a.0.0) (Token.Sign m.Colon c.0.0 ∷ []) c.0.1)),
      i.1,
    )

step_sound : (d : ℕ) (ts : Tokens) (x : JSwitchLabel × Tokens) → switch_step d ts ≡ Some x → Labels d ts x
unfolding SwitchStands
step_sound d (Token.Word w.Case at ∷ rest) x e = case_sound d at rest x e
step_sound d (Token.Word w.Default at ∷ rest) x e =
    let c = bind_some (r.colon rest) _ _ e in
    subst (Labels d (Token.Word w.Default at ∷ rest)) (some_same c.2) (ap (λ r. Token.Word w.Default at ∷ r) (colon_only rest c.0 c.1), tt)
step_sound d _ x e = absurd (cc e)

-- What is read is spelled so, and stands.
pub switch_is_spelled : (d : ℕ) (ts : Tokens) (x : JSwitchLabel) → switch_read d ts ≡ Some x → (switch_tokens x ≡ ts) × SwitchStands d x
unfolding switch_read
switch_is_spelled zero ts x e = absurd (cc e)
switch_is_spelled (suc d) ts x e = let i = step_sound d ts (x, []) (whole_only (switch_step d ts) x e) in (sym (i.0 ∙ append-nil (switch_tokens x)), i.1)

after_colon : (at : Position) (rest : Tokens) → after (Token.Sign m.Colon at ∷ rest) < 2
unfolding r.suffix
after_colon at rest = omega arith

case_again : (d : ℕ) (at : Position) (x : JExpr) (colon : Position) → Stands d any_level x → case_of d at (tokens x ++ Token.Sign m.Colon colon ∷ []) ≡ Some (label.Case at x colon, [])
unfolding case_of
case_again d at x colon s = rw (any_again d x s (Token.Sign m.Colon colon ∷ []) (after_colon colon [])) refl

switch_again : (d : ℕ) (x : JSwitchLabel) → SwitchStands d x → switch_read d (switch_tokens x) ≡ Some x
unfolding switch_read SwitchStands
switch_again zero x s = absurd s
switch_again (suc d) (label.Case at x colon) s = rw (case_again d at x colon s) refl
switch_again (suc d) (label.Default at colon) s = refl

-- What is spelled so is read.
pub switch_is_read : (d : ℕ) (ts : Tokens) (x : JSwitchLabel) → SwitchStands d x → switch_tokens x ≡ ts → switch_read d ts ≡ Some x
switch_is_read d ts x s same = subst (λ ts. switch_read d ts ≡ Some x) same (switch_again d x s)
