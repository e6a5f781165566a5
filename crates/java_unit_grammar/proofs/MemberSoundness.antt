-- What is read of a member is spelled so, and stands.
use Rattle.std.proofs.Common.{◌≡◌, ℕ, zero, suc, true, false, List, [], ◌∷◌, ◌++◌, length, map, Option, Some, None, inl, inr, refl, ap, sym, ◌∙◌, subst, append_assoc, arith}
use Rattle.std.specs.List.{AllByRecursion}
use Rattle.std.proofs.lemmas.List.{length-map}
use Rattle.java_tree.specs.declared.tokens.Position.{Position}
use Rattle.java_tree.specs.declared.tokens.Mark.TheVariants as m
use Rattle.java_tree.specs.Seen.{Token, Tokens}
use Rattle.java_expr_grammar.specs.Reading.{Reader, open_curly}
use Rattle.java_expr_grammar.proofs.LawsToCite.{bind_some, guard_some, cond_is, some_same}
use Rattle.java_statement_grammar.specs.Reading.{semicolon}
use Rattle.java_unit_grammar.specs.declared.statements.JBody.{JBody}
use Rattle.java_unit_grammar.specs.declared.statements.JCase.{JCase}
use Rattle.java_unit_grammar.specs.declared.statements.JCaseGroup.{JCaseGroup}
use Rattle.java_unit_grammar.specs.declared.statements.JCatch.{JCatch}
use Rattle.java_unit_grammar.specs.declared.statements.JMember.{JMember}
use Rattle.java_unit_grammar.specs.declared.statements.JStatement.{JStatement}
use Rattle.java_unit_grammar.specs.declared.statements.JBody.TheOpen.{JMember-F}
use Rattle.java_unit_grammar.specs.Tokens.{joined, filled, braced, statement_tokens, body_tokens, whole_member_tokens}
use Rattle.java_unit_grammar.specs.Levels.{Levels, levels}
use Rattle.java_unit_grammar.specs.Cutting.{Stop, cut}
use Rattle.java_unit_grammar.specs.Standing.{Role, Owner, spans, Node, HeadStands, first_stand, block_stands, first_block_stands}
use Rattle.java_unit_grammar.specs.Reading as r
use Rattle.java_unit_grammar.proofs.Cuts.{cut_is, Tail, no_tail, mark_tail, filled_end}
use Rattle.java_tree.specs.Trees.{max_depth}
use Rattle.java_member_grammar.specs.declared.homes.JHome.{JHome}
use Rattle.java_member_grammar.specs.declared.heads.JMemberHead.{JMemberHead}
use Rattle.java_member_grammar.specs.declared.heads.JMemberHead.TheVariants as head
use Rattle.java_member_grammar.specs.declared.heads.JTypeHead.{JTypeHead}
use Rattle.java_member_grammar.specs.declared.heads.JTypeHead.TheVariants as kind
use Rattle.java_member_grammar.specs.declared.lines.JConstants.{JConstants}
use Rattle.java_member_grammar.specs.Heads.{member_tokens, type_head_tokens, constants_tokens, MemberStands, TypeHeadStands, ConstantsStand}
use Rattle.java_member_grammar.specs.Modifiers.{type_fits}
use Rattle.java_member_grammar.specs.Reading.{before_semicolon, before_block, type_head, constants}
use Rattle.java_member_grammar.proofs.LawsToCite.{semicolon_is_spelled, block_is_spelled, type_is_spelled, constants_are_spelled}
use Rattle.java_unit_grammar.specs.declared.statements.JMember.{out-JMember, roll-JMember}
use Rattle.java_unit_grammar.specs.declared.statements.JMember.TheVariants as member
use Rattle.java_unit_grammar.specs.Tokens.{constants_by}
use Rattle.java_unit_grammar.specs.Levels.{constants_levels}
use Rattle.java_unit_grammar.specs.Standing.{owner_of, home_of, member_fits, member_levels, member_block, constants_stand, follow_end, follow, member_stands}
use Rattle.java_unit_grammar.proofs.Texts.{tokens_Declared, tokens_Bodied, tokens_Type, out_member}
use Rattle.java_unit_grammar.proofs.StatementSoundness.{open_curly_only, close_curly_only, semicolon_only, ManyIs, many_sound, braced_any, spans_counts, tail_bodies, Sounds, bodies_sound, head_sound, block_sound, inner_sound}

abbrev pub Layer : Type 0
Layer = JMember-F JBody JMember JStatement JCase JCaseGroup JCatch

pub record MemberIs (Q : Layer → Type 0) (ts : Tokens) (y : JMember × Tokens) : Type 0 where
  pub same : ts ≡ whole_member_tokens y.0 ++ y.1
  pub stands : Q (out-JMember y.0)

curly_text : (ts : Tokens) → ts ≡ (r.before_curly ts).0 ++ (r.before_curly ts).1
curly_text [] = refl
curly_text (Token.Sign m.OpenCurly at ∷ rest) = refl
curly_text (x ∷ rest) = ap (λ (l : Tokens). x ∷ l) (curly_text rest)

module _ (P : ℕ → Node → Type 0) (R : r.Readers) (S : Sounds P R) where
  pub member_made : (Q : Layer → Type 0) (layer : Layer) (x : JMember) (ts rest text : Tokens) → roll-JMember layer ≡ x
      → whole_member_tokens x ≡ text → ts ≡ text ++ rest → Q layer → MemberIs Q ts (x, rest)
  member_made Q layer x ts rest text rolls spelled same stands = record {
    same = same ∙ ap (λ l. l ++ rest) (sym spelled);
    stands = subst Q (sym (out_member layer x rolls)) stands;
  }

  pub declared_sound : (d e h : ℕ) (levels : JMemberHead → Levels) (owner : Owner) (Q : Layer → Type 0)
      → ((x : JMemberHead) (bodies : List JBody) (end : Position) → member_fits owner false x ≡ true → MemberStands d e x → HeadStands P h (member_tokens x) (levels x) bodies → Q (JMember-F.Declared x bodies end))
      → (ts : Tokens) (y : JMember × Tokens) → r.declared R d e h levels owner ts ≡ Some y → MemberIs Q ts y
  unfolding r.declared
  declared_sound d e h levels owner Q builds ts y eq =
      let a = bind_some (r.head_read R.body h Stop.Semicolon (before_semicolon d e) levels ts) _ _ eq in
      let b = bind_some (semicolon a.0.1) _ _ a.2 in
      let g = guard_some (member_fits owner false a.0.0.head) _ y b.2 in
      let i = head_sound P R S JMemberHead member_tokens (MemberStands d e) levels h Stop.Semicolon (before_semicolon d e) (semicolon_is_spelled d e) ts a.0 a.1 in
      let x = a.0.0 in
      let text : Tokens = filled (member_tokens x.head) (map body_tokens x.bodies) in
      subst (MemberIs Q ts) (some_same g.1)
      (member_made Q (JMember-F.Declared x.head x.bodies b.0.0) _ ts b.0.1 (text ++ Token.Sign m.Semicolon b.0.0 ∷ []) (member.rolls-Declared x.head x.bodies b.0.0) (tokens_Declared x.head x.bodies b.0.0)
      (i.same ∙ ap (λ (l : Tokens). text ++ l) (semicolon_only a.0.1 b.0 b.1) ∙ sym (append_assoc text (Token.Sign m.Semicolon b.0.0 ∷ []) b.0.1))
      (builds x.head x.bodies b.0.0 g.0 i.head i.bodies))

  -- ---- blocks of members

  first_list_sound : (d : ℕ) (ts : Tokens) (y : List JStatement × Tokens) → r.first_list R d ts ≡ Some y → (ts ≡ joined (map statement_tokens y.0) ++ y.1) × first_stand P d y.0
  unfolding r.first_list
  first_list_sound d ts y e =
      let Q : List JStatement × Tokens → Type 0 = λ y. (ts ≡ joined (map statement_tokens y.0) ++ y.1) × first_stand P d y.0 in
      elim (cond_is (r.begins_close ts) _ _ _ e) [
        | inl h ↦ subst Q (some_same h.1) (refl, tt)
        | inr h ↦
            let a = bind_some (R.statement d Role.First ts) _ _ h.1 in
            let b = bind_some (r.inner_list R d a.0.1) _ _ a.2 in
            let i = S.statement d Role.First ts a.0 a.1 in
            let j = inner_sound P R S d d a.0.1 b.0 b.1 in
            subst Q (some_same b.2) (
              i.same ∙ ap (λ (l : Tokens). statement_tokens a.0.0 ++ l) j.same ∙ sym (append_assoc (statement_tokens a.0.0) (joined (map statement_tokens b.0.0)) b.0.1),
              (i.stands, j.all),
            )
      ]

  -- what stands of a block, where Q says which statements do
  record BlockOf (Q : List JStatement → Type 0) (ts : Tokens) (y : r.Braced JStatement × Tokens) : Type 0 where
    same : ts ≡ braced y.0.opens (map statement_tokens y.0.items) y.0.closes ++ y.1
    all : Q y.0.items

  first_block_sound : (d : ℕ) (ts : Tokens) (y : r.Braced JStatement × Tokens) → r.first_block R d ts ≡ Some y → BlockOf (first_block_stands P d) ts y
  unfolding r.first_block
  first_block_sound zero ts y e = absurd (cc e)
  first_block_sound (suc d) ts y e =
      let i = braced_any JStatement statement_tokens (λ x. P d (Node.Statement Role.Inner x)) (first_stand P d) (r.first_list R d) (first_list_sound d) ts y e in
      record { same = i.same; all = i.all }

  other_block_sound : (d : ℕ) (ts : Tokens) (y : r.Braced JStatement × Tokens) → r.block R d ts ≡ Some y → BlockOf (block_stands P d) ts y
  other_block_sound d ts y e = let i = block_sound P R S d d ts y e in record { same = i.same; all = i.all }

  member_block_sound : (d : ℕ) (x : JMemberHead) (ts : Tokens) (y : r.Braced JStatement × Tokens) → r.member_block R d x ts ≡ Some y → BlockOf (member_block P d x) ts y
  member_block_sound d (head.Constructor mods n at formals throws) ts y e = first_block_sound d ts y e
  member_block_sound d (head.Empty) ts y e = other_block_sound d ts y e
  member_block_sound d (head.Field mods x) ts y e = other_block_sound d ts y e
  member_block_sound d (head.Method mods params result n at formals throws) ts y e = other_block_sound d ts y e
  member_block_sound d (head.Initializer static) ts y e = other_block_sound d ts y e

  pub bodied_sound : (d e h : ℕ) (owner : Owner) (Q : Layer → Type 0)
      → ((x : JMemberHead) (left : Position) (xs : List JStatement) (right : Position) → member_fits owner true x ≡ true → MemberStands d e x → member_block P h x xs → Q (JMember-F.Bodied x left xs right))
      → (ts : Tokens) (y : JMember × Tokens) → r.bodied R d e h owner ts ≡ Some y → MemberIs Q ts y
  unfolding r.bodied
  bodied_sound d e h owner Q builds ts y eq =
      let a = bind_some (before_block d e (r.before_curly ts).0) _ _ eq in
      let b = bind_some (r.member_block R h a.0 (r.before_curly ts).1) _ _ a.2 in
      let g = guard_some (member_fits owner true a.0) _ y b.2 in
      let i = block_is_spelled d e (r.before_curly ts).0 a.0 a.1 in
      let j = member_block_sound h a.0 (r.before_curly ts).1 b.0 b.1 in
      let z = b.0.0 in
      let text : Tokens = braced z.opens (map statement_tokens z.items) z.closes in
      subst (MemberIs Q ts) (some_same g.1)
      (member_made Q (JMember-F.Bodied a.0 z.opens z.items z.closes) _ ts b.0.1 (member_tokens a.0 ++ text) (member.rolls-Bodied a.0 z.opens z.items z.closes) (tokens_Bodied a.0 z.opens z.items z.closes)
      (curly_text ts ∙ ap (λ (l : Tokens). l ++ (r.before_curly ts).1) (sym i.0) ∙ ap (λ (l : Tokens). member_tokens a.0 ++ l) j.same ∙ sym (append_assoc (member_tokens a.0) text b.0.1))
      (builds a.0 z.opens z.items z.closes g.0 i.1 j.all))

  -- ---- types

  end_tail : (ts : Tokens) → Tail (r.constants_end ts).0
  end_tail (Token.Sign m.Semicolon at ∷ rest) = mark_tail m.Semicolon at refl
  end_tail _ = no_tail

  end_text : (ts : Tokens) → ts ≡ (r.constants_end ts).0 ++ (r.constants_end ts).1
  end_text (Token.Sign m.Semicolon at ∷ rest) = refl
  end_text _ = refl

  pub record ConstantsAre (ts : Tokens) (y : r.Headed JConstants × Tokens) : Type 0 where
    pub same : ts ≡ filled (constants_tokens y.0.head) (map body_tokens y.0.bodies) ++ y.1
    pub head : ConstantsStand max_depth y.0.head
    pub bodies : HeadStands P 199 (constants_tokens y.0.head) (constants_levels y.0.head) y.0.bodies

  pub constants_sound : (ts : Tokens) (y : r.Headed JConstants × Tokens) → r.constants_list R ts ≡ Some y → ConstantsAre ts y
  unfolding r.constants_list
  constants_sound ts y e =
      let a = bind_some (cut Stop.Constants ts) _ _ e in
      let z : Tokens = (r.constants_end a.0.rest).0 in
      let more : Tokens = (r.constants_end a.0.rest).1 in
      let b = bind_some (constants max_depth (a.0.text ++ z)) _ _ a.2 in
      let k = bind_some (r.bodies_by R.body 199 (constants_levels b.0) (spans a.0.text) a.0.bodies) _ _ b.2 in
      let i = cut_is Stop.Constants ts a.0 a.1 in
      let j = constants_are_spelled max_depth (a.0.text ++ z) b.0 b.1 in
      let l1 = length-map a.0.bodies length in
      let l2 = ap length i.counted in
      let l3 = spans_counts a.0.text in
      let n = bodies_sound P R S 199 (constants_levels b.0) (spans a.0.text) a.0.bodies k.0 (omega (arith, l1, l2, l3)) k.1 in
      let t : Tail z = end_tail a.0.rest in
      let are = tail_bodies ts a.0 z more k.0 i (end_text a.0.rest) t n.same n.kinds in
      let F : Tokens → Type 0 = λ l. HeadStands P 199 l (constants_levels b.0) k.0 in
      subst (ConstantsAre ts) (some_same k.2) (record {
        same =
            i.same ∙ ap (λ (l : Tokens). filled a.0.text a.0.bodies ++ l) (end_text a.0.rest) ∙ sym (append_assoc (filled a.0.text a.0.bodies) z more)
            ∙ ap (λ (l : Tokens). l ++ more) (sym (filled_end a.0.text z a.0.bodies t i.counted) ∙ ap (λ (l : Tokens). filled l a.0.bodies) (sym j.0) ∙ ap (λ l. filled (constants_tokens b.0) l) (sym n.same));
        head = j.1;
        bodies = subst F (sym j.0) (record { are = are; stand = n.stand });
      })

  module _ (Q : JMember → Type 0) (list : Reader (List JMember)) (lists : (ts : Tokens) (y : List JMember × Tokens) → list ts ≡ Some y → ManyIs JMember whole_member_tokens Q ts y) where
    record InsideIs (x : JTypeHead) (ts : Tokens) (y : r.Inside × Tokens) : Type 0 where
      same : ts ≡ constants_by y.0.constants (map body_tokens y.0.bodies) ++ (joined (map whole_member_tokens y.0.members) ++ y.1)
      constants : constants_stand P x y.0.constants y.0.bodies
      follows : follow y.0.constants y.0.members
      all : AllByRecursion Q y.0.members

    record BehindIs (end : Option Position) (ts : Tokens) (y : List JMember × Tokens) : Type 0 where
      many : ManyIs JMember whole_member_tokens Q ts y
      follows : follow_end end y.0

    behind_sound : (end : Option Position) (ts : Tokens) (y : List JMember × Tokens) → r.members_behind end list ts ≡ Some y → BehindIs end ts y
    behind_sound None ts y e = subst (BehindIs None ts) (some_same e) (record { many = record { same = refl; all = tt }; follows = refl })
    behind_sound (Some at) ts y e = record { many = lists ts y e; follows = tt }

    enum_sound : (mods : List _) (at : Position) (n : List ℕ) (nat : Position) (faces : Option _) (ts : Tokens) (y : r.Inside × Tokens) → r.enum_inside R list ts ≡ Some y
        → InsideIs (kind.Enum mods at n nat faces) ts y
    unfolding r.enum_inside
    enum_sound mods at n nat faces ts y e =
        let a = bind_some (r.constants_list R ts) _ _ e in
        let b = bind_some (r.members_behind a.0.0.head.end list a.0.1) _ _ a.2 in
        let i = constants_sound ts a.0 a.1 in
        let j = behind_sound a.0.0.head.end a.0.1 b.0 b.1 in
        subst (InsideIs (kind.Enum mods at n nat faces) ts) (some_same b.2) (record {
          same = i.same ∙ ap (λ (l : Tokens). filled (constants_tokens a.0.0.head) (map body_tokens a.0.0.bodies) ++ l) j.many.same;
          constants = (i.head, i.bodies);
          follows = j.follows;
          all = j.many.all;
        })

    plain_sound : (x : JTypeHead) (ts : Tokens) (y : r.Inside × Tokens) → constants_stand P x None [] → r.plain_inside R list ts ≡ Some y → InsideIs x ts y
    unfolding r.plain_inside
    plain_sound x ts y none e =
        let a = bind_some (list ts) _ _ e in
        let i = lists ts a.0 a.1 in
        subst (InsideIs x ts) (some_same a.2) (record { same = i.same; constants = none; follows = tt; all = i.all })

    inside_sound : (x : JTypeHead) (ts : Tokens) (y : r.Inside × Tokens) → r.inside R x list ts ≡ Some y → InsideIs x ts y
    inside_sound (kind.Enum mods at n nat faces) ts y e = enum_sound mods at n nat faces ts y e
    inside_sound (kind.Class mods at n nat params above faces) ts y e = plain_sound (kind.Class mods at n nat params above faces) ts y refl e
    inside_sound (kind.Interface mods at n nat params above) ts y e = plain_sound (kind.Interface mods at n nat params above) ts y refl e

  pub type_sound : (d : ℕ) (nested : Owner → Reader JMember) (N : Owner → JMember → Type 0)
      → ((owner : Owner) (ts : Tokens) (y : JMember × Tokens) → nested owner ts ≡ Some y → (ts ≡ whole_member_tokens y.0 ++ y.1) × N owner y.0)
      → (place : JHome) (Q : Layer → Type 0)
      → ((x : JTypeHead) (left : Position) (cs : Option JConstants) (bodies : List JBody) (xs : List JMember) (right : Position) → type_fits place x ≡ true → TypeHeadStands d x
      → constants_stand P x cs bodies → follow cs xs → AllByRecursion (N (owner_of x)) xs → Q (JMember-F.Type x left cs bodies xs right))
      → (ts : Tokens) (y : JMember × Tokens) → r.typed R d nested place ts ≡ Some y → MemberIs Q ts y
  unfolding r.typed
  type_sound d nested N sounds place Q builds ts y e =
      let a = bind_some (type_head d (r.before_curly ts).0) _ _ e in
      let lc = bind_some (open_curly (r.before_curly ts).1) _ _ a.2 in
      let list : Reader (List JMember) = r.until r.begins_close (nested (owner_of a.0)) in
      let b = bind_some (r.inside R a.0 list lc.0.1) _ _ lc.2 in
      let rc = bind_some (r.close_curly b.0.1) _ _ b.2 in
      let g = guard_some (type_fits place a.0) _ y rc.2 in
      let i = type_is_spelled d (r.before_curly ts).0 a.0 a.1 in
      let j = inside_sound (N (owner_of a.0)) list
      (λ ts y h. (many_sound JMember whole_member_tokens (N (owner_of a.0)) r.begins_close (nested (owner_of a.0)) (sounds (owner_of a.0)) (length ts) ts y h).many) a.0 lc.0.1 b.0 b.1 in
      let z = b.0.0 in
      let C : Tokens = constants_by z.constants (map body_tokens z.bodies) in
      let M : Tokens = joined (map whole_member_tokens z.members) in
      let end : Tokens = Token.Sign m.CloseCurly rc.0.0 ∷ [] in
      let text : Tokens = Token.Sign m.OpenCurly lc.0.0 ∷ (C ++ (M ++ end)) in
      let flat : (C ++ (M ++ end)) ++ rc.0.1 ≡ C ++ (M ++ (Token.Sign m.CloseCurly rc.0.0 ∷ rc.0.1)) =
      append_assoc C (M ++ end) rc.0.1 ∙ ap (λ (l : Tokens). C ++ l) (append_assoc M end rc.0.1) in
      subst (MemberIs Q ts) (some_same g.1)
      (member_made Q (JMember-F.Type a.0 lc.0.0 z.constants z.bodies z.members rc.0.0) _ ts rc.0.1 (type_head_tokens a.0 ++ text)
      (member.rolls-Type a.0 lc.0.0 z.constants z.bodies z.members rc.0.0) (tokens_Type a.0 lc.0.0 z.constants z.bodies z.members rc.0.0)
      (curly_text ts ∙ ap (λ (l : Tokens). l ++ (r.before_curly ts).1) (sym i.0)
      ∙ ap (λ (l : Tokens). type_head_tokens a.0 ++ l) (
      open_curly_only (r.before_curly ts).1 lc.0 lc.1
      ∙ ap (λ (l : Tokens). Token.Sign m.OpenCurly lc.0.0 ∷ l) (j.same ∙ ap (λ (l : Tokens). C ++ (M ++ l)) (close_curly_only b.0.1 rc.0 rc.1) ∙ sym flat)
      )
      ∙ sym (append_assoc (type_head_tokens a.0) text rc.0.1))
      (builds a.0 lc.0.0 z.constants z.bodies z.members rc.0.0 g.0 i.1 j.constants j.follows j.all))

  pub member_sound : (d : ℕ) (owner : Owner) (ts : Tokens) (y : JMember × Tokens) → r.member_step R d owner ts ≡ Some y → MemberIs (member_stands P d owner) ts y
  unfolding r.member_step
  member_sound d owner ts y e = elim (cond_is (r.goes_declared ts) _ _ _ e) [
    | inl h ↦ declared_sound d d d member_levels owner (member_stands P d owner) (λ x bodies end fits stands heads. (fits, stands, heads)) ts y h.1
    | inr h ↦ elim (cond_is (r.goes_type ts) _ _ _ h.1) [
      | inl g ↦ type_sound d (R.member d) (λ owner x. P d (Node.Member owner x)) (S.member d) (home_of owner) (member_stands P d owner)
          (λ x left cs bodies xs right fits stands constants follows all. (fits, stands, constants, follows, all)) ts y g.1
      | inr g ↦ bodied_sound d d d owner (member_stands P d owner) (λ x left xs right fits stands block. (fits, stands, block)) ts y g.1
    ]
  ]
