-- A label of a switch, a step at a time.
use Rattle.std.specs.Prelude.{ℕ, ◌+◌, Bool, List, ◌∷◌, ◌++◌, [], Some}
use Rattle.java_tree.specs.declared.tokens.Mark.TheVariants as m
use Rattle.java_tree.specs.Seen.{Token, Tokens}
use Rattle.java_expr_grammar.specs.Reading.{Read, Reader, ◌>>=◌, colon}
use Rattle.java_statement_grammar.specs.declared.statements.JSwitchLabel.{JSwitchLabel}
use Rattle.java_statement_grammar.specs.Reading.{switch_read}
use Rattle.java_unit_grammar.specs.declared.statements.JCase.{JCase, roll-JCase}
use Rattle.java_unit_grammar.specs.Cutting.{Cut, Stop, cut}
use Rattle.java_unit_grammar.specs.Levels.{switch_levels}
use Rattle.java_unit_grammar.specs.Standing.{spans}
use Rattle.java_unit_grammar.specs.Reading.{Readers, bodies_by}

-- the label that the text is, and what follows
abbrev pub label_by : ℕ → Tokens → Reader JSwitchLabel
label_by d text ts = switch_read (d + 1) text >>= λ x. Some (x, ts)

-- the label with that text and the `:` that comes first
abbrev pub label_read : ℕ → Tokens → Reader JSwitchLabel
label_read d text ts = colon ts >>= λ end. switch_read (d + 1) (text ++ Token.Sign m.Colon end.0 ∷ []) >>= λ x. Some (x, end.1)

-- the label with the bodies of its value, of these kinds and with these texts
abbrev pub label_bodied : Readers → ℕ → List Bool → List Tokens → JSwitchLabel → Reader JCase
label_bodied R d ks us x ts = bodies_by R.body d (switch_levels x) ks us >>= λ xs. Some (roll-JCase (record { label = x; bodies = xs }), ts)

-- a label that was cut off
abbrev pub label_cut : Readers → ℕ → Cut → Read JCase
label_cut R d c = label_read d c.text c.rest >>= λ x. label_bodied R d (spans c.text) c.bodies x.0 x.1

abbrev pub label_case_read : Readers → ℕ → Reader JCase
label_case_read R d ts = cut Stop.Colon ts >>= λ c. label_cut R d c
