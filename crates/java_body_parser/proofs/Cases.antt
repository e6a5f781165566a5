-- A label is read a step at a time.
use Rattle.std.proofs.Common.{◌≡◌, ◌+◌, ◌∷◌, ◌++◌, [], ℕ, suc, Option, Some, None, refl, subst, arith}
use Rattle.java_tree.specs.declared.tokens.Position.{Position}
use Rattle.java_tree.specs.declared.tokens.Mark.TheVariants as m
use Rattle.java_tree.specs.Seen.{Token, Tokens}
use Rattle.java_expr_grammar.specs.Reading.{Read, ◌>>=◌, colon}
use Rattle.java_statement_grammar.specs.declared.statements.JSwitchLabel.{JSwitchLabel}
use Rattle.java_statement_grammar.specs.Reading.{switch_read}
use Rattle.java_unit_grammar.specs.declared.statements.JCase.{JCase, roll-JCase}
use Rattle.java_unit_grammar.specs.Cutting.{Stop, Cut, cut}
use Rattle.java_unit_grammar.specs.Levels.{switch_levels}
use Rattle.java_unit_grammar.specs.Standing.{spans}
use Rattle.java_unit_grammar.specs.Reading as r
use Rattle.java_body_parser.specs.Cases.{label_read, label_case_read}

bind_bind : {A B C : Type 0} (o : Option A) (f : A → Option B) (g : B → Option C) → (o >>= f) >>= g ≡ (o >>= λ x. f x >>= g)
bind_bind None f g = refl
bind_bind (Some x) f g = refl

module _ (R : r.Readers) (d : ℕ) (c : Cut) where
  abbrev After : Type 0
  After = JSwitchLabel × Tokens

  abbrev after : After → Read JCase
  after x = r.bodies_by R.body d (switch_levels x.0) (spans c.text) c.bodies >>= λ xs. Some (roll-JCase (record { label = x.0; bodies = xs }), x.1)

  labeled : (o : Option JSwitchLabel) (ts : Tokens) → ((o >>= λ x. Option.Some (x, ts)) >>= after) ≡ (o >>= λ x. after (x, ts))
  labeled None ts = refl
  labeled (Some x) ts = refl

  ended : (o : Read Position) → ((o >>= λ end. switch_read (d + 1) (c.text ++ Token.Sign m.Colon end.0 ∷ []) >>= λ x. Option.Some (x, end.1)) >>= after)
      ≡ (o >>= λ end. switch_read (d + 1) (c.text ++ Token.Sign m.Colon end.0 ∷ []) >>= λ x. after (x, end.1))
  ended None = refl
  ended (Some end) = labeled (switch_read (d + 1) (c.text ++ Token.Sign m.Colon end.0 ∷ [])) end.1

one_more : (d : ℕ) → d + 1 ≡ suc d
one_more d = omega arith

cut_case : (R : r.Readers) (d : ℕ) (o : Option Cut)
    → (o >>= λ c. label_read d c.text c.rest >>= after R d c)
    ≡ (o >>= λ c. colon c.rest >>= λ end. switch_read (suc d) (c.text ++ Token.Sign m.Colon end.0 ∷ []) >>= λ x. after R d c (x, end.1))
cut_case R d None = refl
cut_case R d (Some c) =
    subst (λ (k : ℕ). (label_read d c.text c.rest >>= after R d c) ≡ (colon c.rest >>= λ end. switch_read k (c.text ++ Token.Sign m.Colon end.0 ∷ []) >>= λ x. after R d c (x, end.1)))
    (one_more d) (ended R d c (colon c.rest))

pub label_is : (R : r.Readers) (d : ℕ) (ts : Tokens) → label_case_read R d ts ≡ r.label_step R d ts
unfolding r.label_step
label_is R d ts = cut_case R d (cut Stop.Colon ts)
