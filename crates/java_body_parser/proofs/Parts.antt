-- A reader of parts, a step at a time.
use Rattle.std.proofs.Common.{◌≡◌, ◌+◌, ℕ, zero, suc, None, refl, ap, ◌∙◌, arith}
use Rattle.java_tree.specs.Seen.{Tokens}
use Rattle.java_unit_grammar.specs.Reading.{readers}
use Rattle.java_block_parser.specs.declared.asks.Ask.{Ask}
use Rattle.java_block_parser.specs.declared.asks.Ask.TheVariants as ask
use Rattle.java_block_parser.specs.Asks.{asked, stepped}

one_step : (n d : ℕ) (x : Ask) (ts : Tokens) → asked (readers (suc n)) x (suc d) ts ≡ stepped (readers n) d x ts
unfolding readers
one_step n d (ask.Body b) ts = refl
one_step n d ask.Label ts = refl
one_step n d (ask.Statement place) ts = refl
one_step n d (ask.Member owner) ts = refl

pub asked_more : (n d m e : ℕ) (x : Ask) (ts : Tokens) → m + 1 ≡ n → e + 1 ≡ d → asked (readers n) x d ts ≡ stepped (readers m) e x ts
asked_more n d m e x ts h k =
    let a : n ≡ suc m = omega arith in
    let b : d ≡ suc e = omega arith in
    ap (λ i. asked (readers i) x d ts) a ∙ ap (λ i. asked (readers (suc m)) x i ts) b ∙ one_step m e x ts

pub none_by : (n d : ℕ) (x : Ask) (ts : Tokens) → n ≡ 0 → asked (readers n) x d ts ≡ None
unfolding readers
none_by zero d (ask.Body b) ts h = refl
none_by zero d ask.Label ts h = refl
none_by zero d (ask.Statement place) ts h = refl
none_by zero d (ask.Member owner) ts h = refl
none_by (suc n) d x ts h = absurd (omega arith)

pub none_deep : (n d : ℕ) (x : Ask) (ts : Tokens) → d ≡ 0 → asked (readers n) x d ts ≡ None
unfolding readers
none_deep zero d x ts h = none_by zero d x ts refl
none_deep (suc n) zero (ask.Body b) ts h = refl
none_deep (suc n) zero ask.Label ts h = refl
none_deep (suc n) zero (ask.Statement place) ts h = refl
none_deep (suc n) zero (ask.Member owner) ts h = refl
none_deep (suc n) (suc d) x ts h = absurd (omega arith)

pub ruleset stops = (none_by, none_deep)
