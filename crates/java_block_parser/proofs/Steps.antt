-- Blocks and statements, a step at a time.
use Rattle.std.proofs.Common.{◌≡◌, ◌≢◌, ◌<◌, ◌-◌, ℕ, zero, suc, List, [], ◌∷◌, Some, None, refl, ap, arith}
use Rattle.java_tree.specs.declared.tokens.Position.{Position}
use Rattle.java_tree.specs.Seen.{Tokens}
use Rattle.java_unit_grammar.specs.declared.statements.JCatch.{JCatch}
use Rattle.java_unit_grammar.specs.declared.statements.JStatement.{JStatement}
use Rattle.java_unit_grammar.specs.declared.statements.JStatement.TheVariants as st
use Rattle.java_unit_grammar.specs.Reading.{Readers, Braced, braced, block, first_block, inner_list, first_list, try_alone}

pub block_none : (R : Readers) (d : ℕ) (ts : Tokens) → d ≡ 0 → block R d ts ≡ None
unfolding block
block_none R zero ts e = refl
block_none R (suc d) ts e = absurd (omega arith)

pub block_some : (R : Readers) (d : ℕ) (ts : Tokens) → 0 < d → block R d ts ≡ braced (inner_list R (d - 1)) ts
unfolding block
block_some R zero ts h = absurd (omega arith)
block_some R (suc d) ts h = let e : d ≡ suc d - 1 = omega arith in ap (λ i. braced (inner_list R i) ts) e

pub first_none : (R : Readers) (d : ℕ) (ts : Tokens) → d ≡ 0 → first_block R d ts ≡ None
unfolding first_block
first_none R zero ts e = refl
first_none R (suc d) ts e = absurd (omega arith)

pub first_some : (R : Readers) (d : ℕ) (ts : Tokens) → 0 < d → first_block R d ts ≡ braced (first_list R (d - 1)) ts
unfolding first_block
first_some R zero ts h = absurd (omega arith)
first_some R (suc d) ts h = let e : d ≡ suc d - 1 = omega arith in ap (λ i. braced (first_list R i) ts) e

pub alone_none : (R : Readers) (d : ℕ) (at : Position) (x : Braced JStatement) (xs : List JCatch) (ts : Tokens) → xs ≡ [] → try_alone R d at x xs ts ≡ None
alone_none R d at x [] ts e = refl
alone_none R d at x (y ∷ ys) ts e = absurd (cc e)

pub alone_some : (R : Readers) (d : ℕ) (at : Position) (x : Braced JStatement) (xs : List JCatch) (ts : Tokens) → xs ≢ [] → try_alone R d at x xs ts ≡ Some (st.Try at x.opens x.items x.closes xs, ts)
alone_some R d at x [] ts e = absurd (e refl)
alone_some R d at x (y ∷ ys) ts e = refl

pub ruleset blocks = (block_none, block_some, first_none, first_some)

pub ruleset ends = (alone_none, alone_some)
