-- What tokens spell, by what is read and what is left.
use Rattle.std.proofs.Common.{◌≡◌, suc, Bool, false, [], ◌∷◌, Option, Some, None, is_some, refl, ap, ◌∙◌}
use Rattle.java_tree.specs.declared.tokens.Position.{Position}
use Rattle.java_tree.specs.declared.tokens.Mark.TheVariants as m
use Rattle.java_tree.specs.Seen.{Token, Tokens}
use Rattle.java_tree.specs.Trees.{max_depth}
use Rattle.java_expr_grammar.specs.Reading.{Read, ◌>>=◌, whole}
use Rattle.java_expr_grammar.proofs.LawsToCite.{some_same}
use Rattle.java_body_parser.specs.Tops.{past}
use Rattle.java_member_grammar.specs.declared.lines.JConstants.{JConstants}
use Rattle.java_unit_grammar.specs.declared.statements.JMember.{JMember}
use Rattle.java_unit_grammar.specs.Standing.{Owner, steps, top_levels}
use Rattle.java_unit_grammar.specs.Reading.{Headed, is_end, close_curly, readers, declared, bodied, constants_list}
use Rattle.java_fault_grammar.specs.Walk as w
use Rattle.java_fault_grammar.specs.Forms as f
use Rattle.java_fault_finder.specs.Walks.{lone_end, are_constants}

-- ---- a `}` alone

end_by : (at : Position) (rest : Tokens) → is_some (whole (Option.Some (at, rest))) ≡ is_end rest
end_by at [] = refl
end_by at (x ∷ rest) = refl

pub lone_none : (ts : Tokens) → close_curly ts ≡ None → lone_end ts ≡ false
lone_none ts e = ap (λ (o : Read Position). is_some (whole o)) e

pub lone_some : (ts rest : Tokens) (at : Position) → close_curly ts ≡ Some (at, rest) → lone_end ts ≡ is_end rest
lone_some ts rest at e = ap (λ (o : Read Position). is_some (whole o)) e ∙ end_by at rest

pub ruleset lone = (lone_none, lone_some)

-- ---- members

abbrev made : Read JMember → Bool
made o = is_some (whole o >>= λ x. Some (w.Form.Member x))

made_by : (x : JMember) (rest : Tokens) → made (Option.Some (x, rest)) ≡ is_end rest
made_by x [] = refl
made_by x (y ∷ rest) = refl

made_none : (o : Read JMember) → (o >>= λ x. Some x.1) ≡ None → made o ≡ false
made_none None e = refl
made_none (Some x) e = absurd (cc e)

made_some : (o : Read JMember) (rest : Tokens) → (o >>= λ x. Some x.1) ≡ Some rest → made o ≡ is_end rest
made_some None rest e = absurd (cc e)
made_some (Some x) rest e = made_by x.0 x.1 ∙ ap is_end (some_same e)

pub declared_none : (owner : Owner) (ts : Tokens) → past (declared (readers steps) max_depth (suc max_depth) 199 top_levels owner) ts ≡ None → is_some (f.declared_form owner ts) ≡ false
declared_none owner ts e = made_none (declared (readers steps) max_depth (suc max_depth) 199 top_levels owner ts) e

pub declared_some : (owner : Owner) (ts rest : Tokens) → past (declared (readers steps) max_depth (suc max_depth) 199 top_levels owner) ts ≡ Some rest → is_some (f.declared_form owner ts) ≡ is_end rest
declared_some owner ts rest e = made_some (declared (readers steps) max_depth (suc max_depth) 199 top_levels owner ts) rest e

pub bodied_none : (owner : Owner) (ts : Tokens) → past (bodied (readers steps) max_depth (suc max_depth) max_depth owner) ts ≡ None → is_some (f.bodied_form owner ts) ≡ false
bodied_none owner ts e = made_none (bodied (readers steps) max_depth (suc max_depth) max_depth owner ts) e

pub bodied_some : (owner : Owner) (ts rest : Tokens) → past (bodied (readers steps) max_depth (suc max_depth) max_depth owner) ts ≡ Some rest → is_some (f.bodied_form owner ts) ≡ is_end rest
bodied_some owner ts rest e = made_some (bodied (readers steps) max_depth (suc max_depth) max_depth owner ts) rest e

-- ---- constants

abbrev closes : Read (Headed JConstants) → Bool
closes o = is_some (o >>= λ x. f.constants_by x)

closes_by : (x : Headed JConstants) (rest : Tokens) → is_some (f.constants_by (x, rest)) ≡ lone_end rest
closes_by x [] = refl
closes_by x (Token.Sign m.CloseCurly at ∷ []) = refl
closes_by x (Token.Sign m.CloseCurly at ∷ y ∷ rest) = refl
closes_by x (_ ∷ rest) = refl

closes_none : (o : Read (Headed JConstants)) → (o >>= λ x. Some x.1) ≡ None → closes o ≡ false
closes_none None e = refl
closes_none (Some x) e = absurd (cc e)

closes_some : (o : Read (Headed JConstants)) (rest : Tokens) → (o >>= λ x. Some x.1) ≡ Some rest → closes o ≡ lone_end rest
closes_some None rest e = absurd (cc e)
closes_some (Some x) rest e = closes_by x.0 x.1 ∙ ap lone_end (some_same e)

pub constants_none : (ts : Tokens) → past (constants_list (readers steps)) ts ≡ None → are_constants ts ≡ false
constants_none ts e = closes_none (constants_list (readers steps) ts) e

pub constants_some : (ts rest : Tokens) → past (constants_list (readers steps)) ts ≡ Some rest → are_constants ts ≡ lone_end rest
constants_some ts rest e = closes_some (constants_list (readers steps) ts) rest e

pub ruleset spelled = (declared_none, declared_some, bodied_none, bodied_some, constants_none, constants_some)
