-- What stands in the parentheses of a `for`, a step at a time.
use Rattle.std.proofs.Common.{◌≡◌, ℕ, Option, Some, None, refl}
use Rattle.java_tree.specs.declared.tokens.Position.{Position}
use Rattle.java_tree.specs.Seen.{Tokens}
use Rattle.java_tree.specs.declared.exprs.JExpr.{JExpr}
use Rattle.java_expr_grammar.specs.Reading.{Read, Listed, ◌>>=◌, whole}
use Rattle.java_statement_grammar.specs.declared.statements.JForStart.{JForStart}
use Rattle.java_statement_grammar.specs.declared.statements.JForHead.{JForHead}
use Rattle.java_statement_grammar.specs.declared.statements.JForHead.TheVariants as for
use Rattle.java_statement_grammar.specs.Reading.{semicolon, condition, expressions, basic, for_read}
use Rattle.java_declaration_parser.proofs.LawsToCite.{whole_end, whole_more}
use Rattle.java_statement_parser.specs.Basic.{Tests, tests_read, updates_read, for_first}

abbrev headed : JForStart → Tests → Listed JExpr × Tokens → Read JForHead
headed start t u = Some (for.Basic start t.0.0 t.0.1 t.1 u.0.0 u.0.1, u.1)

abbrev made : Position → Option JExpr → Position × Tokens → Read Tests
made first test s = Some (((first, test), s.0), s.1)

abbrev pub updated : ℕ → JForStart → Tests × Tokens → Read JForHead
updated d start x = updates_read d start x.0 x.1

ended : (d : ℕ) (start : JForStart) (first : Position) (test : Option JExpr) (o : Read Position)
    → (o >>= λ s. expressions d s.1 >>= headed start ((first, test), s.0)) ≡ ((o >>= made first test) >>= updated d start)
ended d start first test None = refl
ended d start first test (Some s) = refl

tested : (d : ℕ) (start : JForStart) (first : Position) (o : Read (Option JExpr))
    → (o >>= λ t. semicolon t.1 >>= λ s. expressions d s.1 >>= headed start ((first, t.0), s.0)) ≡ ((o >>= λ t. semicolon t.1 >>= made first t.0) >>= updated d start)
tested d start first None = refl
tested d start first (Some t) = ended d start first t.0 (semicolon t.1)

started : (d : ℕ) (start : JForStart) (o : Read Position)
    → (o >>= λ f. condition d f.1 >>= λ t. semicolon t.1 >>= λ s. expressions d s.1 >>= headed start ((f.0, t.0), s.0))
    ≡ ((o >>= λ f. condition d f.1 >>= λ t. semicolon t.1 >>= made f.0 t.0) >>= updated d start)
started d start None = refl
started d start (Some f) = tested d start f.0 (condition d f.1)

pub basic_is : (d : ℕ) (start : JForStart) (ts : Tokens) → basic d start ts ≡ (tests_read d ts >>= updated d start)
unfolding basic
basic_is d start ts = started d start (semicolon ts)

pub for_is : (d : ℕ) (ts : Tokens) → for_read d ts ≡ whole (for_first d ts)
unfolding for_read for_first
for_is d ts = refl

pub ruleset basics = (basic_is)

pub ruleset fors = (for_is, whole_end, whole_more)
