-- What the readers answer, seen as reading gives it.
use Rattle.std.specs.Prelude.{◌≡◌, ℕ, Bool, Option, Some, None, List}
use Rattle.java_tree.specs.Seen.{Tokens}
use Rattle.java_expr_grammar.specs.Reading.{Read, ◌>>=◌}
use Rattle.java_member_grammar.specs.declared.parts.JTypeList.{JTypeList}
use Rattle.java_member_grammar.specs.declared.heads.JMemberHead.{JMemberHead}
use Rattle.java_member_grammar.specs.Heads.{member_tokens, MemberStands, MemberSpells}

-- the list, as one that may stand
abbrev pub list_found : Read JTypeList → Read (Option JTypeList)
list_found o = o >>= λ x. Some (Some x.0, x.1)

-- The head has the tokens and stands, and each that spells them before a block, or before a `;`, is the same. Where there is
-- none, none spells them so.
abbrev pub TheMember : ℕ → ℕ → Bool → Tokens → Option JMemberHead → Type 0
TheMember d e has_body ts None = (x : JMemberHead) → ¬ (MemberSpells d e has_body x ts)
TheMember d e has_body ts (Some x) = (member_tokens x ≡ ts) × MemberStands d e x × ((y : JMemberHead) → MemberSpells d e has_body y ts → y ≡ x)
