-- What stands of a member is read again.
use Rattle.std.proofs.Common.{◌≡◌, ℕ, zero, suc, Bool, true, false, List, [], ◌∷◌, ◌++◌, length, map, Option, Some, None, refl, ap, sym, ◌∙◌, subst, append_assoc, arith}
use Rattle.std.specs.List.{AllByRecursion}
use Rattle.std.proofs.lemmas.List.{length-append}
use Rattle.java_tree.specs.declared.tokens.Position.{Position}
use Rattle.java_tree.specs.declared.tokens.Mark.TheVariants as m
use Rattle.java_tree.specs.Seen.{Token, Tokens, pieces}
use Rattle.java_expr_grammar.specs.Reading.{Reader}
use Rattle.java_unit_grammar.specs.declared.statements.JBody.{JBody}
use Rattle.java_unit_grammar.specs.declared.statements.JCase.{JCase}
use Rattle.java_unit_grammar.specs.declared.statements.JCaseGroup.{JCaseGroup}
use Rattle.java_unit_grammar.specs.declared.statements.JCatch.{JCatch}
use Rattle.java_unit_grammar.specs.declared.statements.JMember.{JMember}
use Rattle.java_unit_grammar.specs.declared.statements.JStatement.{JStatement}
use Rattle.java_unit_grammar.specs.declared.statements.JBody.TheOpen.{JMember-F}
use Rattle.java_unit_grammar.specs.Tokens.{joined, filled, braced, statement_tokens, body_tokens, whole_member_tokens}
use Rattle.java_unit_grammar.specs.Levels.{Levels, levels}
use Rattle.java_unit_grammar.specs.Cutting.{Stop}
use Rattle.java_unit_grammar.specs.Standing.{Role, Owner, spans, counts, Node, HeadStands, all_stand, first_stand, first_block_stands, node_stands}
use Rattle.java_unit_grammar.specs.Reading as r
use Rattle.java_tree.specs.Trees.{max_depth, listed, trailing}
use Rattle.java_member_grammar.specs.declared.homes.JHome.{JHome}
use Rattle.java_member_grammar.specs.declared.heads.JMemberHead.{JMemberHead}
use Rattle.java_member_grammar.specs.declared.heads.JMemberHead.TheVariants as head
use Rattle.java_member_grammar.specs.declared.heads.JTypeHead.{JTypeHead}
use Rattle.java_member_grammar.specs.declared.heads.JTypeHead.TheVariants as kind
use Rattle.java_member_grammar.specs.declared.lines.JConstants.{JConstants}
use Rattle.java_member_grammar.specs.Heads.{member_tokens, type_head_tokens, constants_tokens, constant_tokens, end_tokens, may_precede, MemberStands, TypeHeadStands, ConstantsStand}
use Rattle.java_member_grammar.specs.Modifiers.{type_fits}
use Rattle.java_member_grammar.specs.Reading.{before_semicolon}
use Rattle.java_member_grammar.proofs.LawsToCite.{semicolon_is_read, block_is_read, class_precedes, interface_precedes, type_is_read, constants_are_read}
use Rattle.java_unit_grammar.specs.declared.statements.JMember.{out-JMember, roll-JMember, roll-out-JMember}
use Rattle.java_unit_grammar.specs.declared.statements.JMember.TheVariants as member
use Rattle.java_unit_grammar.specs.Tokens.{constants_by}
use Rattle.java_unit_grammar.specs.Levels.{constants_levels}
use Rattle.java_unit_grammar.specs.Standing.{owner_of, home_of, member_fits, member_levels, member_block, constants_stand, follow_end, follow, member_stands}
use Rattle.java_unit_grammar.proofs.Texts.{tokens_Declared, tokens_Bodied, tokens_Type}
use Rattle.java_unit_grammar.proofs.Cuts.{Ends, cut_kept, Tail, no_tail, mark_tail, spans_end, counts_end, filled_end}
use Rattle.java_unit_grammar.proofs.Passing.{Passes, passed}
use Rattle.java_unit_grammar.proofs.Quiet.{Quiet, member_quiet, head_quiet, declared_past, curly_past, close_past, Declares, member_declares, member_no_type, head_is_type, member_passes, constants_pass}
use Rattle.java_unit_grammar.proofs.StatementCompleteness.{Items, until_again, braced_again, on_follows, goes_on, fresh_on, fresh_group, group_close, Member_begins, Agains, bodies_again, head_again, inner_again, block_again}

abbrev pub Layer : Type 0
Layer = JMember-F JBody JMember JStatement JCase JCaseGroup JCatch

pub fits_precede : (owner : Owner) (has_body : Bool) (x : JMemberHead) → member_fits owner has_body x ≡ true → may_precede has_body x ≡ true
fits_precede (Owner.Class n) has_body x h = class_precedes n has_body x h
fits_precede Owner.Interface has_body x h = interface_precedes has_body x h

module _ (P : ℕ → Node → Type 0) (R : r.Readers) (S : Agains P R) where
  pub declared_again : (d e h : ℕ) (levels : JMemberHead → Levels) (owner : Owner) (x : JMemberHead) (xs : List JBody) (end : Position) (rest : Tokens) → member_fits owner false x ≡ true → MemberStands d e x
      → HeadStands P h (member_tokens x) (levels x) xs
      → r.declared R d e h levels owner ((filled (member_tokens x) (map body_tokens xs) ++ Token.Sign m.Semicolon end ∷ []) ++ rest) ≡ Some (member.Declared x xs end, rest)
  unfolding r.declared
  declared_again d e h levels owner x xs end rest fits stands heads =
      let text : Tokens = filled (member_tokens x) (map body_tokens xs) in
      let more : Tokens = Token.Sign m.Semicolon end ∷ rest in
      let ends : Ends Stop.Semicolon more = record { head = Token.Sign m.Semicolon end; tail = rest; is = refl; closes = refl } in
      let law = semicolon_is_read d e (member_tokens x) x (fits_precede owner false x fits) stands refl in
      let a = head_again P R S JMemberHead member_tokens levels h Stop.Semicolon (before_semicolon d e) x xs more law (member_passes Stop.Semicolon d e x stands) ends heads in
      ap (r.declared R d e h levels owner) (append_assoc text (Token.Sign m.Semicolon end ∷ []) rest) ∙ rw (a, fits) refl

  -- ---- blocks

  first_list_again : (d : ℕ) (xs : List JStatement) (right : Position) (rest : Tokens) → first_stand P d xs
      → r.first_list R d (joined (map statement_tokens xs) ++ Token.Sign m.CloseCurly right ∷ rest) ≡ Some (xs, Token.Sign m.CloseCurly right ∷ rest)
  unfolding r.first_list
  first_list_again d [] right rest s = refl
  first_list_again d (x ∷ xs) right rest s =
      let end : Tokens = Token.Sign m.CloseCurly right ∷ rest in
      let more : Tokens = joined (map statement_tokens xs) ++ end in
      let f = S.fresh d Role.First x s.0 more in
      let c = group_close (statement_tokens x ++ more) (fresh_group (statement_tokens x ++ more) f) in
      let a = S.statement d Role.First x s.0 more (on_follows x more (next xs s.1)) in
      let b = inner_again P R S d xs end s.1 refl in
      ap (r.first_list R d) (append_assoc (statement_tokens x) (joined (map statement_tokens xs)) end) ∙ rw (c, a, b) refl
    where
      next : (xs : List JStatement) → all_stand P d Role.Inner xs → goes_on (joined (map statement_tokens xs) ++ Token.Sign m.CloseCurly right ∷ rest) ≡ true
      next [] all = refl
      next (y ∷ ys) all =
          let us : Tokens = joined (map statement_tokens ys) ++ Token.Sign m.CloseCurly right ∷ rest in
          ap goes_on (append_assoc (statement_tokens y) (joined (map statement_tokens ys)) (Token.Sign m.CloseCurly right ∷ rest)) ∙ fresh_on (statement_tokens y ++ us) (S.fresh d Role.Inner y all.0 us)

  first_block_again : (d : ℕ) (left : Position) (xs : List JStatement) (right : Position) (rest : Tokens) → first_block_stands P d xs
      → r.first_block R d (braced left (map statement_tokens xs) right ++ rest) ≡ Some (record { opens = left; items = xs; closes = right }, rest)
  unfolding r.first_block
  first_block_again zero left xs right rest s = absurd s
  first_block_again (suc d) left xs right rest s = braced_again JStatement statement_tokens (r.first_list R d) left xs right rest (first_list_again d xs right rest s)

  member_block_again : (d : ℕ) (x : JMemberHead) (left : Position) (xs : List JStatement) (right : Position) (rest : Tokens) → member_block P d x xs
      → r.member_block R d x (braced left (map statement_tokens xs) right ++ rest) ≡ Some (record { opens = left; items = xs; closes = right }, rest)
  member_block_again d (head.Constructor mods n at formals throws) left xs right rest s = first_block_again d left xs right rest s
  member_block_again d (head.Empty) left xs right rest s = block_again P R S d left xs right rest s
  member_block_again d (head.Field mods x) left xs right rest s = block_again P R S d left xs right rest s
  member_block_again d (head.Method mods params result n at formals throws) left xs right rest s = block_again P R S d left xs right rest s
  member_block_again d (head.Initializer static) left xs right rest s = block_again P R S d left xs right rest s

  pub bodied_again : (d e h : ℕ) (owner : Owner) (x : JMemberHead) (left : Position) (xs : List JStatement) (right : Position) (rest : Tokens) → member_fits owner true x ≡ true → MemberStands d e x → member_block P h x xs
      → r.bodied R d e h owner ((member_tokens x ++ braced left (map statement_tokens xs) right) ++ rest) ≡ Some (member.Bodied x left xs right, rest)
  unfolding r.bodied
  bodied_again d e h owner x left xs right rest fits stands block =
      let B : Tokens = braced left (map statement_tokens xs) right in
      let may = fits_precede owner true x fits in
      let c : r.before_curly (member_tokens x ++ (B ++ rest)) ≡ (member_tokens x, B ++ rest) = curly_past (member_tokens x) left ((joined (map statement_tokens xs) ++ Token.Sign m.CloseCurly right ∷ []) ++ rest) (member_quiet d e x may stands) in
      let law = block_is_read d e (member_tokens x) x may stands refl in
      ap (r.bodied R d e h owner) (append_assoc (member_tokens x) B rest) ∙ rw (c, law, member_block_again h x left xs right rest block, fits) refl

  -- ---- types

  constants_text : (x : JConstants) (xs : List JBody) (text z rest : Tokens) → constants_tokens x ≡ text ++ z → Tail z → Passes Stop.Constants text → Ends Stop.Constants (z ++ rest)
      → r.constants_end (z ++ rest) ≡ (z, rest) → ConstantsStand max_depth x → HeadStands P 199 (constants_tokens x) (constants_levels x) xs
      → r.constants_list R (filled (constants_tokens x) (map body_tokens xs) ++ rest) ≡ Some (record { head = x; bodies = xs }, rest)
  unfolding r.constants_list
  constants_text x xs text z rest same t passes ends split stands heads =
      let bs : List Tokens = map body_tokens xs in
      let F : Tokens → Type 0 = λ l. HeadStands P 199 l (constants_levels x) xs in
      let h : HeadStands P 199 (text ++ z) (constants_levels x) xs = subst F same heads in
      let counted : map length bs ≡ counts text = h.are.counted ∙ counts_end text z t in
      let fill = filled_end text z bs t counted in
      let p : pieces (length (filled text bs ++ z)) (filled text bs ++ z) ≡ text ++ z = ap (λ (l : Tokens). pieces (length l) l) (sym fill) ∙ sym h.are.numbered in
      let c = cut_kept Stop.Constants text bs z rest z (passed Stop.Constants text passes) ends counted p in
      let law = constants_are_read max_depth (text ++ z) x stands same in
      let b = bodies_again P R S 199 (constants_levels x) (spans text) xs (h.are.each ∙ spans_end text z t) h.stand in
      ap (λ (l : Tokens). r.constants_list R (l ++ rest)) (ap (λ (l : Tokens). filled l bs) same ∙ fill) ∙ ap (r.constants_list R) (append_assoc (filled text bs) z rest) ∙ rw (c, split, law, b) refl

  constants_end_is : (right : Position) (rest : Tokens) (x : JConstants) (end : Option Position) → x.end ≡ end
      → constants_tokens x ≡ (listed x.commas (map constant_tokens x.items) ++ trailing x.more) ++ end_tokens end
  constants_end_is right rest x end h =
      ap (λ e. listed x.commas (map constant_tokens x.items) ++ (trailing x.more ++ end_tokens e)) h ∙ sym (append_assoc (listed x.commas (map constant_tokens x.items)) (trailing x.more) (end_tokens end))

  -- where a `}` or a `;` follows
  pub constants_again : (x : JConstants) (xs : List JBody) (end : Option Position) (rest : Tokens) → x.end ≡ end → (end ≡ None → r.begins_close rest ≡ true) → ConstantsStand max_depth x
      → HeadStands P 199 (constants_tokens x) (constants_levels x) xs → r.constants_list R (filled (constants_tokens x) (map body_tokens xs) ++ rest) ≡ Some (record { head = x; bodies = xs }, rest)
  constants_again x xs (Some at) rest is closes stands heads =
      constants_text x xs (listed x.commas (map constant_tokens x.items) ++ trailing x.more) (Token.Sign m.Semicolon at ∷ []) rest (constants_end_is at rest x (Some at) is) (mark_tail m.Semicolon at refl)
      (constants_pass Stop.Constants max_depth x stands) (record { head = Token.Sign m.Semicolon at; tail = rest; is = refl; closes = refl }) refl stands heads
  constants_again x xs None (Token.Sign m.CloseCurly right ∷ rest) is closes stands heads =
      constants_text x xs (listed x.commas (map constant_tokens x.items) ++ trailing x.more) [] (Token.Sign m.CloseCurly right ∷ rest) (constants_end_is right rest x None is) no_tail
      (constants_pass Stop.Constants max_depth x stands) (record { head = Token.Sign m.CloseCurly right; tail = rest; is = refl; closes = refl }) refl stands heads
  constants_again x xs None rest is closes stands heads = let e = closes refl in absurd (cc e)

  module _ (N : JMember → Type 0) (list : Reader (List JMember)) (right : Position) (rest : Tokens)
      (lists : (xs : List JMember) → AllByRecursion N xs → list (joined (map whole_member_tokens xs) ++ Token.Sign m.CloseCurly right ∷ rest) ≡ Some (xs, Token.Sign m.CloseCurly right ∷ rest)) where
    abbrev end : Tokens
    end = Token.Sign m.CloseCurly right ∷ rest

    abbrev inside_of : Option JConstants → List JBody → List JMember → r.Inside
    inside_of cs bodies xs = record { constants = cs; bodies = bodies; members = xs }

    behind_again : (e : Option Position) (xs : List JMember) → follow_end e xs → AllByRecursion N xs → r.members_behind e list (joined (map whole_member_tokens xs) ++ end) ≡ Some (xs, end)
    behind_again None xs f all = ap (λ (l : List JMember). r.members_behind None list (joined (map whole_member_tokens l) ++ end)) f ∙ ap (λ (l : List JMember). Option.Some (l, end)) (sym f)
    behind_again (Some at) xs f all = lists xs all

    closes_behind : (e : Option Position) (xs : List JMember) → follow_end e xs → e ≡ None → r.begins_close (joined (map whole_member_tokens xs) ++ end) ≡ true
    closes_behind None xs f h = ap (λ (l : List JMember). r.begins_close (joined (map whole_member_tokens l) ++ end)) f
    closes_behind (Some at) xs f h = absurd (cc h)

    enum_again : (c : JConstants) (bodies : List JBody) (xs : List JMember) → ConstantsStand max_depth c → HeadStands P 199 (constants_tokens c) (constants_levels c) bodies → follow_end c.end xs → AllByRecursion N xs
        → r.enum_inside R list (filled (constants_tokens c) (map body_tokens bodies) ++ (joined (map whole_member_tokens xs) ++ end)) ≡ Some (inside_of (Some c) bodies xs, end)
    unfolding r.enum_inside
    enum_again c bodies xs stands heads f all =
        rw (constants_again c bodies c.end (joined (map whole_member_tokens xs) ++ end) refl (closes_behind c.end xs f) stands heads, behind_again c.end xs f all) refl

    plain_again : (bodies : List JBody) (xs : List JMember) → bodies ≡ [] → AllByRecursion N xs → r.plain_inside R list (joined (map whole_member_tokens xs) ++ end) ≡ Some (inside_of None bodies xs, end)
    unfolding r.plain_inside
    plain_again bodies xs h all = rw (lists xs all) (ap (λ (l : List JBody). Option.Some (inside_of None l xs, end)) (sym h))

    inside_again : (x : JTypeHead) (cs : Option JConstants) (bodies : List JBody) (xs : List JMember) → constants_stand P x cs bodies → follow cs xs → AllByRecursion N xs
        → r.inside R x list (constants_by cs (map body_tokens bodies) ++ (joined (map whole_member_tokens xs) ++ end)) ≡ Some (inside_of cs bodies xs, end)
    inside_again (kind.Enum mods at n nat faces) (Some c) bodies xs s f all = enum_again c bodies xs s.0 s.1 f all
    inside_again (kind.Enum mods at n nat faces) None bodies xs s f all = absurd s
    inside_again (kind.Class mods at n nat params above faces) None bodies xs s f all = plain_again bodies xs s all
    inside_again (kind.Class mods at n nat params above faces) (Some c) bodies xs s f all = absurd s
    inside_again (kind.Interface mods at n nat params above) None bodies xs s f all = plain_again bodies xs s all
    inside_again (kind.Interface mods at n nat params above) (Some c) bodies xs s f all = absurd s

  -- how readers of members read again
  pub record Nested (nested : Owner → Reader JMember) (N : Owner → JMember → Type 0) : Type 0 where
    pub reads : (owner : Owner) (x : JMember) → N owner x → (rest : Tokens) → nested owner (whole_member_tokens x ++ rest) ≡ Some (x, rest)
    pub begins : (owner : Owner) (x : JMember) → N owner x → Member_begins (whole_member_tokens x)

  pub type_again : (d : ℕ) (nested : Owner → Reader JMember) (N : Owner → JMember → Type 0) → Nested nested N → (place : JHome) (x : JTypeHead) (left : Position) (cs : Option JConstants) (bodies : List JBody)
      (xs : List JMember) (right : Position) (rest : Tokens) → type_fits place x ≡ true → TypeHeadStands d x → constants_stand P x cs bodies → follow cs xs → AllByRecursion (N (owner_of x)) xs
      → r.typed R d nested place ((type_head_tokens x ++ Token.Sign m.OpenCurly left ∷ (constants_by cs (map body_tokens bodies) ++ (joined (map whole_member_tokens xs) ++ Token.Sign m.CloseCurly right ∷ []))) ++ rest)
      ≡ Some (member.Type x left cs bodies xs right, rest)
  unfolding r.typed
  type_again d nested N i place x left cs bodies xs right rest fits stands cstands f all =
      let T : Tokens = type_head_tokens x in
      let C : Tokens = constants_by cs (map body_tokens bodies) in
      let M : Tokens = joined (map whole_member_tokens xs) in
      let end : Tokens = Token.Sign m.CloseCurly right ∷ rest in
      let items : Items JMember whole_member_tokens (N (owner_of x)) r.begins_close (nested (owner_of x)) (λ ts. true) = record {
        reads = λ y s rest h. i.reads (owner_of x) y s rest;
        full = λ y s. (i.begins (owner_of x) y s).full;
        runs = λ y s rest. (i.begins (owner_of x) y s).runs rest;
        follows = λ y s rest. refl;
      } in
      let flat : (T ++ Token.Sign m.OpenCurly left ∷ (C ++ (M ++ Token.Sign m.CloseCurly right ∷ []))) ++ rest ≡ T ++ Token.Sign m.OpenCurly left ∷ (C ++ (M ++ end)) =
      append_assoc T (Token.Sign m.OpenCurly left ∷ (C ++ (M ++ Token.Sign m.CloseCurly right ∷ []))) rest
      ∙ ap (λ (l : Tokens). T ++ Token.Sign m.OpenCurly left ∷ l) (append_assoc C (M ++ Token.Sign m.CloseCurly right ∷ []) rest ∙ ap (λ (l : Tokens). C ++ l) (append_assoc M (Token.Sign m.CloseCurly right ∷ []) rest)) in
      let c = curly_past T left (C ++ (M ++ end)) (head_quiet d x stands) in
      let a = inside_again (N (owner_of x)) (r.until r.begins_close (nested (owner_of x))) right rest
      (λ ys all. until_again JMember whole_member_tokens (N (owner_of x)) r.begins_close (nested (owner_of x)) (λ ts. true) items ys end all refl refl) x cs bodies xs cstands f all in
      ap (r.typed R d nested place) flat ∙ rw (c, type_is_read d T x stands refl, a, fits) refl

  -- ---- any member

  -- from what a constructor makes to the layer, where `step` reads it
  pub carried : (step : Reader JMember) (layer : Layer) (x : JMember) (text rest : Tokens) → roll-JMember layer ≡ x → whole_member_tokens x ≡ text → step (text ++ rest) ≡ Some (x, rest)
      → step (whole_member_tokens (roll-JMember layer) ++ rest) ≡ Some (roll-JMember layer, rest)
  carried step layer x text rest rolls spelled reads =
      let G : JMember → Type 0 = λ z. step (whole_member_tokens z ++ rest) ≡ Some (z, rest) in
      subst G (sym rolls) (ap (λ (l : Tokens). step (l ++ rest)) spelled ∙ reads)

  pub declared_goes : (d e : ℕ) (owner : Owner) (x : JMemberHead) (xs : List JBody) (end : Position) (rest : Tokens) → member_fits owner false x ≡ true → MemberStands d e x
      → Declares ((filled (member_tokens x) (map body_tokens xs) ++ Token.Sign m.Semicolon end ∷ []) ++ rest)
  declared_goes d e owner x xs end rest fits stands =
      let text : Tokens = filled (member_tokens x) (map body_tokens xs) in
      subst Declares (sym (append_assoc text (Token.Sign m.Semicolon end ∷ []) rest)) (member_declares d e x (map body_tokens xs) end rest (fits_precede owner false x fits) stands)

  pub curly_declared : (a : Tokens) (at : Position) (b rest : Tokens) → Quiet a → r.goes_declared ((a ++ Token.Sign m.OpenCurly at ∷ b) ++ rest) ≡ false
  curly_declared a at b rest q = ap r.goes_declared (append_assoc a (Token.Sign m.OpenCurly at ∷ b) rest) ∙ declared_past a (Token.Sign m.OpenCurly at ∷ (b ++ rest)) q

  module _ (d : ℕ) where
    nested_members : Nested (R.member d) (λ owner x. P d (Node.Member owner x))
    nested_members = record { reads = λ owner x s rest. S.member d owner x s rest; begins = λ owner x s. S.member_begins d owner x s }

    declared_step : (owner : Owner) (x : JMemberHead) (xs : List JBody) (end : Position) (rest : Tokens) → member_stands P d owner (JMember-F.Declared x xs end)
        → r.member_step R d owner ((filled (member_tokens x) (map body_tokens xs) ++ Token.Sign m.Semicolon end ∷ []) ++ rest) ≡ Some (member.Declared x xs end, rest)
    unfolding r.member_step
    declared_step owner x xs end rest s = rw (declared_goes d d owner x xs end rest s.0 s.1).goes (declared_again d d d member_levels owner x xs end rest s.0 s.1 s.2)

    bodied_step : (owner : Owner) (x : JMemberHead) (left : Position) (xs : List JStatement) (right : Position) (rest : Tokens) → member_stands P d owner (JMember-F.Bodied x left xs right)
        → r.member_step R d owner ((member_tokens x ++ braced left (map statement_tokens xs) right) ++ rest) ≡ Some (member.Bodied x left xs right, rest)
    unfolding r.member_step
    bodied_step owner x left xs right rest s =
        let may = fits_precede owner true x s.0 in
        let inner : Tokens = joined (map statement_tokens xs) ++ Token.Sign m.CloseCurly right ∷ [] in
        let g = curly_declared (member_tokens x) left inner rest (member_quiet d d x may s.1) in
        let t : r.goes_type ((member_tokens x ++ braced left (map statement_tokens xs) right) ++ rest) ≡ false =
        ap r.goes_type (append_assoc (member_tokens x) (braced left (map statement_tokens xs) right) rest) ∙ member_no_type d d x left (inner ++ rest) may s.1 in
        rw (g, t) (bodied_again d d d owner x left xs right rest s.0 s.1 s.2)

    type_step : (owner : Owner) (x : JTypeHead) (left : Position) (cs : Option JConstants) (bodies : List JBody) (xs : List JMember) (right : Position) (rest : Tokens)
        → member_stands P d owner (JMember-F.Type x left cs bodies xs right)
        → r.member_step R d owner ((type_head_tokens x ++ Token.Sign m.OpenCurly left ∷ (constants_by cs (map body_tokens bodies) ++ (joined (map whole_member_tokens xs) ++ Token.Sign m.CloseCurly right ∷ []))) ++ rest)
        ≡ Some (member.Type x left cs bodies xs right, rest)
    unfolding r.member_step
    type_step owner x left cs bodies xs right rest s =
        let inner : Tokens = constants_by cs (map body_tokens bodies) ++ (joined (map whole_member_tokens xs) ++ Token.Sign m.CloseCurly right ∷ []) in
        let g = curly_declared (type_head_tokens x) left inner rest (head_quiet d x s.1) in
        let t : r.goes_type ((type_head_tokens x ++ Token.Sign m.OpenCurly left ∷ inner) ++ rest) ≡ true =
        ap r.goes_type (append_assoc (type_head_tokens x) (Token.Sign m.OpenCurly left ∷ inner) rest) ∙ head_is_type x (Token.Sign m.OpenCurly left ∷ (inner ++ rest)) in
        rw (g, t) (type_again d (R.member d) (λ owner x. P d (Node.Member owner x)) nested_members (home_of owner) x left cs bodies xs right rest s.0 s.1 s.2 s.3 s.4)

    member_layer : (owner : Owner) (layer : Layer) (rest : Tokens) → member_stands P d owner layer → r.member_step R d owner (whole_member_tokens (roll-JMember layer) ++ rest) ≡ Some (roll-JMember layer, rest)
    member_layer owner (JMember-F.Declared x xs end) rest s =
        carried (r.member_step R d owner) (JMember-F.Declared x xs end) (member.Declared x xs end) _ rest (member.rolls-Declared x xs end) (tokens_Declared x xs end) (declared_step owner x xs end rest s)
    member_layer owner (JMember-F.Bodied x left xs right) rest s =
        carried (r.member_step R d owner) (JMember-F.Bodied x left xs right) (member.Bodied x left xs right) _ rest (member.rolls-Bodied x left xs right) (tokens_Bodied x left xs right)
        (bodied_step owner x left xs right rest s)
    member_layer owner (JMember-F.Type x left cs bodies xs right) rest s =
        carried (r.member_step R d owner) (JMember-F.Type x left cs bodies xs right) (member.Type x left cs bodies xs right) _ rest (member.rolls-Type x left cs bodies xs right)
        (tokens_Type x left cs bodies xs right) (type_step owner x left cs bodies xs right rest s)

    pub member_again : (owner : Owner) (x : JMember) (rest : Tokens) → node_stands P d (Node.Member owner x) → r.member_step R d owner (whole_member_tokens x ++ rest) ≡ Some (x, rest)
    member_again owner x rest s =
        subst (λ (z : JMember). r.member_step R d owner (whole_member_tokens z ++ rest) ≡ Some (z, rest)) (roll-out-JMember x) (member_layer owner (out-JMember x) rest s)

-- ---- what members begin with

begins_end : (text : Tokens) (end : Position) → ((rest : Tokens) → Declares ((text ++ Token.Sign m.Semicolon end ∷ []) ++ rest)) → Member_begins (text ++ Token.Sign m.Semicolon end ∷ [])
begins_end text end h = record { full = let l = length-append text (Token.Sign m.Semicolon end ∷ []) in omega (arith, l); runs = λ rest. (h rest).runs }

begins_curly : (a : Tokens) (at : Position) (b : Tokens) → Quiet a → Member_begins (a ++ Token.Sign m.OpenCurly at ∷ b)
begins_curly a at b q = record {
  full = let l = length-append a (Token.Sign m.OpenCurly at ∷ b) in omega (arith, l);
  runs = λ rest. ap r.begins_close (append_assoc a (Token.Sign m.OpenCurly at ∷ b) rest) ∙ close_past a (Token.Sign m.OpenCurly at ∷ (b ++ rest)) q refl;
}

begins_made : (layer : Layer) (x : JMember) (text : Tokens) → roll-JMember layer ≡ x → whole_member_tokens x ≡ text → Member_begins text → Member_begins (whole_member_tokens (roll-JMember layer))
begins_made layer x text rolls spelled h = subst Member_begins (sym (ap whole_member_tokens rolls ∙ spelled)) h

-- a member whose parts are at these depths
abbrev pub Begins_by : (d e : ℕ) (owner : Owner) (layer : Layer) → Type 0
Begins_by d e owner (JMember-F.Declared x xs at) = (member_fits owner false x ≡ true) × MemberStands d e x
Begins_by d e owner (JMember-F.Bodied x left xs right) = (member_fits owner true x ≡ true) × MemberStands d e x
Begins_by d e owner (JMember-F.Type x left cs bodies xs right) = TypeHeadStands d x

begins_layer : (P : ℕ → Node → Type 0) (R : r.Readers) (S : Agains P R) (d e : ℕ) (owner : Owner) (layer : Layer) → Begins_by d e owner layer → Member_begins (whole_member_tokens (roll-JMember layer))
begins_layer P R S d e owner (JMember-F.Declared x xs at) s =
    begins_made (JMember-F.Declared x xs at) (member.Declared x xs at) _ (member.rolls-Declared x xs at) (tokens_Declared x xs at)
    (begins_end (filled (member_tokens x) (map body_tokens xs)) at (λ rest. declared_goes P R S d e owner x xs at rest s.0 s.1))
begins_layer P R S d e owner (JMember-F.Bodied x left xs right) s =
    begins_made (JMember-F.Bodied x left xs right) (member.Bodied x left xs right) _ (member.rolls-Bodied x left xs right) (tokens_Bodied x left xs right)
    (begins_curly (member_tokens x) left (joined (map statement_tokens xs) ++ Token.Sign m.CloseCurly right ∷ []) (member_quiet d e x (fits_precede owner true x s.0) s.1))
begins_layer P R S d e owner (JMember-F.Type x left cs bodies xs right) s =
    begins_made (JMember-F.Type x left cs bodies xs right) (member.Type x left cs bodies xs right) _ (member.rolls-Type x left cs bodies xs right) (tokens_Type x left cs bodies xs right)
    (begins_curly (type_head_tokens x) left (constants_by cs (map body_tokens bodies) ++ (joined (map whole_member_tokens xs) ++ Token.Sign m.CloseCurly right ∷ [])) (head_quiet d x s))

pub member_begins : (P : ℕ → Node → Type 0) (R : r.Readers) (S : Agains P R) (d e : ℕ) (owner : Owner) (x : JMember) → Begins_by d e owner (out-JMember x) → Member_begins (whole_member_tokens x)
member_begins P R S d e owner x s = subst (λ (z : JMember). Member_begins (whole_member_tokens z)) (roll-out-JMember x) (begins_layer P R S d e owner (out-JMember x) s)

-- what stands in an expression
by_layer : (P : ℕ → Node → Type 0) (d : ℕ) (owner : Owner) (layer : Layer) → member_stands P d owner layer → Begins_by d d owner layer
by_layer P d owner (JMember-F.Declared x xs at) s = (s.0, s.1)
by_layer P d owner (JMember-F.Bodied x left xs right) s = (s.0, s.1)
by_layer P d owner (JMember-F.Type x left cs bodies xs right) s = s.1

pub inner_begins : (P : ℕ → Node → Type 0) (R : r.Readers) (S : Agains P R) (d : ℕ) (owner : Owner) (x : JMember) → node_stands P d (Node.Member owner x) → Member_begins (whole_member_tokens x)
inner_begins P R S d owner x s = member_begins P R S d d owner x (by_layer P d owner (out-JMember x) s)
