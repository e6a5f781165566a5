-- What stands is read again in any number of steps, so that tokens spell at most one tree.
use Rattle.std.proofs.Common.{◌≡◌, ◌≤◌, ◌+◌, ℕ, zero, suc, true, false, List, [], ◌∷◌, ◌++◌, length, map, Some, None, refl, ap, sym, ◌∙◌, arith}
use Rattle.std.proofs.lemmas.List.{append-nil}
use Rattle.java_tree.specs.Seen.{Tokens}
use Rattle.java_expr_grammar.proofs.LawsToCite.{some_same}
use Rattle.java_unit_grammar.specs.declared.statements.JBody.{JBody}
use Rattle.java_unit_grammar.specs.declared.statements.JCase.{JCase}
use Rattle.java_unit_grammar.specs.declared.statements.JMember.{JMember}
use Rattle.java_unit_grammar.specs.declared.statements.JStatement.{JStatement}
use Rattle.java_unit_grammar.specs.Tokens.{joined, whole_member_tokens, statement_tokens, body_tokens}
use Rattle.java_unit_grammar.specs.Standing.{Role, Owner, Node, NodeStands, is_block, StatementSpells, StatementsSpell, MembersSpell}
use Rattle.java_unit_grammar.specs.Reading as r
use Rattle.java_unit_grammar.proofs.Texts.{case_tokens}
use Rattle.java_unit_grammar.proofs.StatementCompleteness.{Items, Agains, Follows, Fresh, Member_begins, statement_again, statement_fresh, body_again, label_again, case_begins, inner_items, until_again, goes_on, fresh_end}
use Rattle.java_unit_grammar.proofs.MemberCompleteness.{member_again, inner_begins}
use Rattle.java_unit_grammar.proofs.Monotone.{all_wider, wider}

nothing : (d : ℕ) (x : Node) → NodeStands 0 d x → ⊥
unfolding NodeStands
nothing d x s = s

module _ (n : ℕ) (R : r.Readers) (S : Agains (NodeStands n) R) where
  body_at : (d : ℕ) (x : JBody) → NodeStands (suc n) d (Node.Body x) → r.body_at R d (is_block x) (body_tokens x) ≡ Some x
  unfolding NodeStands
  body_at zero x s = absurd s
  body_at (suc d) x s = body_again (NodeStands n) R S d x s

  label_at : (d : ℕ) (x : JCase) → NodeStands (suc n) d (Node.Case x) → (rest : Tokens) → r.label_at R d (case_tokens x ++ rest) ≡ Some (x, rest)
  unfolding NodeStands
  label_at zero x s rest = absurd s
  label_at (suc d) x s rest = label_again (NodeStands n) R S d x rest s

  label_begins_at : (d : ℕ) (x : JCase) → NodeStands (suc n) d (Node.Case x) → (rest : Tokens) → r.begins_case (case_tokens x ++ rest) ≡ true
  unfolding NodeStands
  label_begins_at zero x s rest = absurd s
  label_begins_at (suc d) x s rest = case_begins (NodeStands n) R S d x rest

  statement_at : (d : ℕ) (place : Role) (x : JStatement) → NodeStands (suc n) d (Node.Statement place x) → (rest : Tokens) → Follows x rest → r.statement_at R d place (statement_tokens x ++ rest) ≡ Some (x, rest)
  unfolding NodeStands
  statement_at zero place x s rest f = absurd s
  statement_at (suc d) place x s rest f = statement_again (NodeStands n) R S d place x rest s f

  fresh_at : (d : ℕ) (place : Role) (x : JStatement) → NodeStands (suc n) d (Node.Statement place x) → (rest : Tokens) → Fresh (statement_tokens x ++ rest)
  unfolding NodeStands
  fresh_at zero place x s rest = absurd s
  fresh_at (suc d) place x s rest = statement_fresh (NodeStands n) R S d place x rest s

  member_at : (d : ℕ) (owner : Owner) (x : JMember) → NodeStands (suc n) d (Node.Member owner x) → (rest : Tokens) → r.member_at R d owner (whole_member_tokens x ++ rest) ≡ Some (x, rest)
  unfolding NodeStands
  member_at zero owner x s rest = absurd s
  member_at (suc d) owner x s rest = member_again (NodeStands n) R S d owner x rest s

  begins_at : (d : ℕ) (owner : Owner) (x : JMember) → NodeStands (suc n) d (Node.Member owner x) → Member_begins (whole_member_tokens x)
  unfolding NodeStands
  begins_at zero owner x s = absurd s
  begins_at (suc d) owner x s = inner_begins (NodeStands n) R S d owner x s

pub agains : (n : ℕ) → Agains (NodeStands n) (r.readers n)
unfolding r.readers
agains zero = record {
  body = λ d x s. absurd (nothing d (Node.Body x) s);
  label = λ d x s rest. absurd (nothing d (Node.Case x) s);
  label_begins = λ d x s rest. absurd (nothing d (Node.Case x) s);
  statement = λ d place x s rest f. absurd (nothing d (Node.Statement place x) s);
  fresh = λ d place x s rest. absurd (nothing d (Node.Statement place x) s);
  member = λ d owner x s rest. absurd (nothing d (Node.Member owner x) s);
  member_begins = λ d owner x s. absurd (nothing d (Node.Member owner x) s);
}
agains (suc n) = record {
  body = body_at n (r.readers n) (agains n);
  label = label_at n (r.readers n) (agains n);
  label_begins = label_begins_at n (r.readers n) (agains n);
  statement = statement_at n (r.readers n) (agains n);
  fresh = fresh_at n (r.readers n) (agains n);
  member = member_at n (r.readers n) (agains n);
  member_begins = begins_at n (r.readers n) (agains n);
}

-- What stands is read, where no `catch` or `finally` follows, and no `else` where an `if` is open.
pub statement_is_read : (n d : ℕ) (place : Role) (x : JStatement) (rest : Tokens) → NodeStands n d (Node.Statement place x) → Follows x rest → r.statement_read n d place (statement_tokens x ++ rest) ≡ Some (x, rest)
unfolding r.statement_read
statement_is_read n d place x rest s f = (agains n).statement d place x s rest f

ends_follows : (x : JStatement) → Follows x []
ends_follows x = record { handles = refl; shut = λ h. refl }

read_whole : (n d : ℕ) (place : Role) (x : JStatement) (ts : Tokens) → StatementSpells n d place x ts → r.statement_read n d place ts ≡ Some (x, [])
read_whole n d place x ts s = ap (r.statement_read n d place) (sym s.same ∙ sym (append-nil (statement_tokens x))) ∙ statement_is_read n d place x [] s.stands (ends_follows x)

same_steps : (n d : ℕ) (place : Role) (x y : JStatement) (ts : Tokens) → StatementSpells n d place x ts → StatementSpells n d place y ts → x ≡ y
same_steps n d place x y ts s t = ap (λ (z : JStatement × Tokens). z.0) (some_same (sym (read_whole n d place x ts s) ∙ read_whole n d place y ts t))

list_whole : (n d : ℕ) (xs : List JStatement) (ts : Tokens) → StatementsSpell n d xs ts → r.until r.is_end ((r.readers n).statement d Role.Inner) ts ≡ Some (xs, [])
list_whole n d xs ts s =
    let item = (r.readers n).statement d Role.Inner in
    ap (r.until r.is_end item) (sym s.same ∙ sym (append-nil (joined (map statement_tokens xs))))
    ∙ until_again JStatement statement_tokens (λ x. NodeStands n d (Node.Statement Role.Inner x)) r.is_end item goes_on (inner_items (NodeStands n) (r.readers n) (agains n) d r.is_end fresh_end) xs [] s.stand refl refl

list_steps : (n d : ℕ) (xs ys : List JStatement) (ts : Tokens) → StatementsSpell n d xs ts → StatementsSpell n d ys ts → xs ≡ ys
list_steps n d xs ys ts s t = ap (λ (z : List JStatement × Tokens). z.0) (some_same (sym (list_whole n d xs ts s) ∙ list_whole n d ys ts t))

runs : (ts rest : Tokens) → 1 ≤ length ts → r.is_end (ts ++ rest) ≡ false
runs [] rest h = absurd (omega (arith, h))
runs (t ∷ ts) rest h = refl

member_items : (n d : ℕ) (owner : Owner) → Items JMember whole_member_tokens (λ x. NodeStands n d (Node.Member owner x)) r.is_end ((r.readers n).member d owner) (λ ts. true)
member_items n d owner = record {
  reads = λ x s rest h. (agains n).member d owner x s rest;
  full = λ x s. ((agains n).member_begins d owner x s).full;
  runs = λ x s rest. runs (whole_member_tokens x) rest ((agains n).member_begins d owner x s).full;
  follows = λ x s rest. refl;
}

members_whole : (n d : ℕ) (xs : List JMember) (ts : Tokens) → MembersSpell n d xs ts → r.until r.is_end ((r.readers n).member d (Owner.Class None)) ts ≡ Some (xs, [])
members_whole n d xs ts s =
    let item = (r.readers n).member d (Owner.Class None) in
    ap (r.until r.is_end item) (sym s.same ∙ sym (append-nil (joined (map whole_member_tokens xs))))
    ∙ until_again JMember whole_member_tokens (λ x. NodeStands n d (Node.Member (Owner.Class None) x)) r.is_end item (λ ts. true) (member_items n d (Owner.Class None)) xs [] s.stand refl refl

members_steps : (n d : ℕ) (xs ys : List JMember) (ts : Tokens) → MembersSpell n d xs ts → MembersSpell n d ys ts → xs ≡ ys
members_steps n d xs ys ts s t = ap (λ (z : List JMember × Tokens). z.0) (some_same (sym (members_whole n d xs ts s) ∙ members_whole n d ys ts t))

-- ---- in whichever numbers of steps

pub statement_one : (n k d : ℕ) (place : Role) (x y : JStatement) (ts : Tokens) → StatementSpells n d place x ts → StatementSpells k d place y ts → x ≡ y
statement_one n k d place x y ts s t =
    same_steps (n + k) d place x y ts (record { stands = wider n (n + k) d (Node.Statement place x) (omega arith) s.stands; same = s.same })
    (record { stands = wider k (n + k) d (Node.Statement place y) (omega arith) t.stands; same = t.same })

list_wider : (n k d : ℕ) (xs : List JStatement) (ts : Tokens) → n ≤ k → StatementsSpell n d xs ts → StatementsSpell k d xs ts
list_wider n k d xs ts h s = record {
  stand = all_wider (λ x. NodeStands n d (Node.Statement Role.Inner x)) (λ x. NodeStands k d (Node.Statement Role.Inner x)) (λ x s. wider n k d (Node.Statement Role.Inner x) h s) xs s.stand;
  same = s.same;
}

pub statements_one : (n k d : ℕ) (xs ys : List JStatement) (ts : Tokens) → StatementsSpell n d xs ts → StatementsSpell k d ys ts → xs ≡ ys
statements_one n k d xs ys ts s t = list_steps (n + k) d xs ys ts (list_wider n (n + k) d xs ts (omega arith) s) (list_wider k (n + k) d ys ts (omega arith) t)

members_wider : (n k d : ℕ) (xs : List JMember) (ts : Tokens) → n ≤ k → MembersSpell n d xs ts → MembersSpell k d xs ts
members_wider n k d xs ts h s = record {
  stand = all_wider (λ x. NodeStands n d (Node.Member (Owner.Class None) x)) (λ x. NodeStands k d (Node.Member (Owner.Class None) x)) (λ x s. wider n k d (Node.Member (Owner.Class None) x) h s) xs s.stand;
  same = s.same;
}

pub members_one : (n k d : ℕ) (xs ys : List JMember) (ts : Tokens) → MembersSpell n d xs ts → MembersSpell k d ys ts → xs ≡ ys
members_one n k d xs ys ts s t = members_steps (n + k) d xs ys ts (members_wider n (n + k) d xs ts (omega arith) s) (members_wider k (n + k) d ys ts (omega arith) t)
