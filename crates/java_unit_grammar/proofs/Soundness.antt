-- What is read in any number of steps is spelled so, and stands.
use Rattle.std.proofs.Common.{◌≡◌, ℕ, zero, suc, Bool, ◌++◌, Some}
use Rattle.java_tree.specs.Seen.{Tokens}
use Rattle.java_unit_grammar.specs.declared.statements.JBody.{JBody}
use Rattle.java_unit_grammar.specs.declared.statements.JCase.{JCase}
use Rattle.java_unit_grammar.specs.declared.statements.JMember.{JMember}
use Rattle.java_unit_grammar.specs.declared.statements.JStatement.{JStatement}
use Rattle.java_unit_grammar.specs.Tokens.{whole_member_tokens, statement_tokens}
use Rattle.java_unit_grammar.specs.Standing.{Role, Owner, Node, NodeStands}
use Rattle.java_unit_grammar.specs.Reading as r
use Rattle.java_unit_grammar.proofs.Texts.{case_tokens}
use Rattle.java_unit_grammar.proofs.StatementSoundness.{Sounds, BodyIs, StatementIs, body_sound, label_sound, statement_sound}
use Rattle.java_unit_grammar.proofs.MemberSoundness.{member_sound}

module _ (n : ℕ) (R : r.Readers) (S : Sounds (NodeStands n) R) where
  body_at : (d : ℕ) (kind : Bool) (ts : Tokens) (x : JBody) → r.body_at R d kind ts ≡ Some x → BodyIs (NodeStands (suc n) d) kind ts x
  unfolding NodeStands
  body_at zero kind ts x e = absurd (cc e)
  body_at (suc d) kind ts x e = let i = body_sound (NodeStands n) R S d kind ts x e in record { same = i.same; kind = i.kind; stands = i.stands }

  label_at : (d : ℕ) (ts : Tokens) (y : JCase × Tokens) → r.label_at R d ts ≡ Some y → (ts ≡ case_tokens y.0 ++ y.1) × NodeStands (suc n) d (Node.Case y.0)
  unfolding NodeStands
  label_at zero ts y e = absurd (cc e)
  label_at (suc d) ts y e = label_sound (NodeStands n) R S d ts y e

  statement_at : (d : ℕ) (place : Role) (ts : Tokens) (y : JStatement × Tokens) → r.statement_at R d place ts ≡ Some y → StatementIs (NodeStands (suc n) d) place ts y
  unfolding NodeStands
  statement_at zero place ts y e = absurd (cc e)
  statement_at (suc d) place ts y e = let i = statement_sound (NodeStands n) R S d place ts y e in record { same = i.same; stands = i.stands; shut = i.shut }

  member_at : (d : ℕ) (owner : Owner) (ts : Tokens) (y : JMember × Tokens) → r.member_at R d owner ts ≡ Some y → (ts ≡ whole_member_tokens y.0 ++ y.1) × NodeStands (suc n) d (Node.Member owner y.0)
  unfolding NodeStands
  member_at zero owner ts y e = absurd (cc e)
  member_at (suc d) owner ts y e = let i = member_sound (NodeStands n) R S d owner ts y e in (i.same, i.stands)

pub sounds : (n : ℕ) → Sounds (NodeStands n) (r.readers n)
unfolding r.readers
sounds zero = record {
  body = λ d kind ts x e. absurd (cc e);
  label = λ d ts y e. absurd (cc e);
  statement = λ d place ts y e. absurd (cc e);
  member = λ d owner ts y e. absurd (cc e);
}
sounds (suc n) = record {
  body = body_at n (r.readers n) (sounds n);
  label = label_at n (r.readers n) (sounds n);
  statement = statement_at n (r.readers n) (sounds n);
  member = member_at n (r.readers n) (sounds n);
}

-- What is read of a statement is spelled so, and stands.
pub statement_is_spelled : (n d : ℕ) (place : Role) (ts : Tokens) (y : JStatement × Tokens) → r.statement_read n d place ts ≡ Some y
    → (ts ≡ statement_tokens y.0 ++ y.1) × NodeStands n d (Node.Statement place y.0)
unfolding r.statement_read
statement_is_spelled n d place ts y e = let i = (sounds n).statement d place ts y e in (i.same, i.stands)
