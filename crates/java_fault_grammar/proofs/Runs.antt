-- The run that begins the tokens, and what follows it, are all of them.
use Rattle.std.proofs.Common.{◌≡◌, ◌≤◌, [], ◌∷◌, ◌++◌, length, None, refl, ap, sym, ◌∙◌, arith}
use Rattle.std.proofs.lemmas.List.{append_cancel_left}
use Rattle.java_tree.specs.declared.tokens.Mark.TheVariants as m
use Rattle.java_tree.specs.Seen.{Token, Tokens}
use Rattle.java_unit_grammar.specs.Reading.{close_curly}
use Rattle.java_fault_grammar.specs.Runs.{Run, Place, Turn, start, kind, turned, run_turn, run_from, run}
use Rattle.java_fault_grammar.specs.Walk.{Form, form_tokens, IsRun}

turn_parts : (x : Token) (ts : Tokens) (t : Turn) (go : Place → Run) → ((p : Place) → ts ≡ (go p).text ++ (go p).rest) → x ∷ ts ≡ (run_turn x ts t go).text ++ (run_turn x ts t go).rest
turn_parts x ts (Turn.On p) go h = ap (λ (l : Tokens). x ∷ l) (h p)
turn_parts x ts (Turn.Stop end) go h = refl
turn_parts x ts Turn.Left go h = refl

from_parts : (p : Place) (ts : Tokens) → ts ≡ (run_from p ts).text ++ (run_from p ts).rest
unfolding run_from
from_parts p [] = refl
from_parts p (x ∷ ts) = turn_parts x ts (turned p (kind x)) (λ q. run_from q ts) (λ q. from_parts q ts)

pub run_parts : (ts : Tokens) → ts ≡ (run ts).text ++ (run ts).rest
run_parts ts = from_parts start ts

-- what follows the run, where it is known
pub run_rest : (ts text rest : Tokens) → (run ts).text ≡ text → ts ≡ text ++ rest → (run ts).rest ≡ rest
run_rest ts text rest h same =
    append_cancel_left text (run ts).rest rest (ap (λ (l : Tokens). l ++ (run ts).rest) (sym h) ∙ sym (run_parts ts) ∙ same)

-- no run begins with a `}`
pub run_open : (ts : Tokens) → 1 ≤ length (run ts).text → close_curly ts ≡ None
unfolding run_from
run_open (Token.Sign m.CloseCurly at ∷ ts) h = absurd (omega (arith, h))
run_open _ h = refl

pub is_run : (f : Form) (ts : Tokens) → (run ts).text ≡ form_tokens f → IsRun f ts
is_run (Form.Package x) ts h = h
is_run (Form.Import x) ts h = h
is_run (Form.Head x left) ts h = h
is_run (Form.Member x) ts h = h
is_run (Form.Constants x bodies) ts h = h
is_run (Form.Ends at) ts h = tt
