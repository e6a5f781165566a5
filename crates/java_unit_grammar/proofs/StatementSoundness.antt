-- What is read is spelled so, and stands.
use Rattle.std.proofs.Common.{◌≡◌, ◌≤◌, ◌-◌, ℕ, zero, suc, Bool, true, false, not, List, [], ◌∷◌, ◌++◌, length, map, Option, Some, None, inl, inr, refl, ap, sym, ◌∙◌, subst, append_assoc, arith}
use Rattle.std.specs.List.{AllByRecursion}
use Rattle.std.proofs.lemmas.List.{append-nil, length-append, length-map}
use Rattle.java_tree.specs.declared.tokens.Position.{Position}
use Rattle.java_tree.specs.declared.tokens.Mark.TheVariants as m
use Rattle.java_tree.specs.declared.tokens.Keyword.{Keyword}
use Rattle.java_tree.specs.declared.tokens.Keyword.TheVariants as w
use Rattle.java_tree.specs.Seen.{Token, Tokens, pieces}
use Rattle.java_tree.specs.declared.exprs.JExpr.{JExpr}
use Rattle.java_tree.specs.Trees.{tokens, typed_tokens, any_level, Stands, TypedStands}
use Rattle.java_expr_grammar.specs.Reading.{Reader, whole, open_round, close, colon, open_curly, typed_read, read}
use Rattle.java_expr_grammar.proofs.LawsToCite.{bind_some, guard_some, cond_is, some_same, typed_sound, close_only, colon_only}
use Rattle.java_token_cursor.proofs.LawsToCite.{pieces_none}
use Rattle.java_statement_grammar.specs.declared.statements.JSimple.{JSimple}
use Rattle.java_statement_grammar.specs.declared.statements.JForHead.{JForHead}
use Rattle.java_statement_grammar.specs.declared.statements.JLock.{JLock}
use Rattle.java_statement_grammar.specs.Heads.{simple_tokens, for_tokens, lock_tokens, switch_tokens, SimpleStands, ForStands, LockStands}
use Rattle.java_statement_grammar.specs.Reading.{semicolon, simple_read, for_read, lock_read, switch_read}
use Rattle.java_statement_grammar.proofs.LawsToCite.{whole_only, read_sound, simple_is_spelled, for_is_spelled, lock_is_spelled, switch_is_spelled}
use Rattle.java_unit_grammar.specs.declared.statements.JBody.{JBody}
use Rattle.java_unit_grammar.specs.declared.statements.JBody.TheVariants as body
use Rattle.java_unit_grammar.specs.declared.statements.JCase.{JCase, out-roll-JCase}
use Rattle.java_unit_grammar.specs.declared.statements.JCaseGroup.{JCaseGroup, out-JCaseGroup, out-roll-JCaseGroup}
use Rattle.java_unit_grammar.specs.declared.statements.JCatch.{JCatch, out-JCatch, out-roll-JCatch}
use Rattle.java_unit_grammar.specs.declared.statements.JMember.{JMember}
use Rattle.java_unit_grammar.specs.declared.statements.JStatement.{JStatement, roll-JStatement}
use Rattle.java_unit_grammar.specs.declared.statements.JStatement.TheVariants as st
use Rattle.java_unit_grammar.specs.declared.statements.JBody.TheOpen.{JBody-F, JCase-F, JCaseGroup-F, JCatch-F, JStatement-F}
use Rattle.java_unit_grammar.specs.Tokens.{joined, filled, braced, headed, statement_tokens, body_tokens, whole_member_tokens}
use Rattle.java_unit_grammar.specs.Levels.{Levels, simple_levels, for_levels, lock_levels, switch_levels}
use Rattle.java_unit_grammar.specs.Cutting.{Stop, Cut, cut}
use Rattle.java_unit_grammar.specs.Standing.{ends_open, Role, may_stand, Owner, is_block, is_block_by, spans, counts, AreBodies, Node, bodies_stand, HeadStands, block_stands, case_stands, group_stands, full_before, catch_stands, statement_stands, body_stands, node_stands}
use Rattle.java_unit_grammar.specs.Reading as r
use Rattle.java_unit_grammar.proofs.Texts.{case_tokens, group_tokens, catch_tokens, tokens_Simple, tokens_Block, tokens_Labeled, tokens_If, tokens_IfElse, tokens_While, tokens_Do, tokens_For, tokens_Switch, tokens_Synchronized, tokens_Try, tokens_TryFinally, tokens_Statements, tokens_Members, tokens_Case, tokens_CaseGroup, tokens_Catch, out_statement, out_body, open_Simple, open_Block, open_Labeled, open_IfElse, open_While, open_Do, open_For, open_Switch, open_Synchronized, open_Try, open_TryFinally}
use Rattle.java_unit_grammar.proofs.Cuts.{CutIs, cut_is, Tail, mark_tail, spans_end, counts_end, filled_end}

-- ---- one token

pub open_round_only : (ts : Tokens) (c : Position × Tokens) → open_round ts ≡ Some c → ts ≡ Token.Sign m.OpenRound c.0 ∷ c.1
open_round_only (Token.Sign m.OpenRound at ∷ rest) c e = let same : (at, rest) ≡ c = some_same e in ap (λ (x : Position × Tokens). Token.Sign m.OpenRound x.0 ∷ x.1) same
open_round_only _ c e = absurd (cc e)

pub open_curly_only : (ts : Tokens) (c : Position × Tokens) → open_curly ts ≡ Some c → ts ≡ Token.Sign m.OpenCurly c.0 ∷ c.1
open_curly_only (Token.Sign m.OpenCurly at ∷ rest) c e = let same : (at, rest) ≡ c = some_same e in ap (λ (x : Position × Tokens). Token.Sign m.OpenCurly x.0 ∷ x.1) same
open_curly_only _ c e = absurd (cc e)

pub close_curly_only : (ts : Tokens) (c : Position × Tokens) → r.close_curly ts ≡ Some c → ts ≡ Token.Sign m.CloseCurly c.0 ∷ c.1
close_curly_only (Token.Sign m.CloseCurly at ∷ rest) c e = let same : (at, rest) ≡ c = some_same e in ap (λ (x : Position × Tokens). Token.Sign m.CloseCurly x.0 ∷ x.1) same
close_curly_only _ c e = absurd (cc e)

pub semicolon_only : (ts : Tokens) (c : Position × Tokens) → semicolon ts ≡ Some c → ts ≡ Token.Sign m.Semicolon c.0 ∷ c.1
semicolon_only (Token.Sign m.Semicolon at ∷ rest) c e = let same : (at, rest) ≡ c = some_same e in ap (λ (x : Position × Tokens). Token.Sign m.Semicolon x.0 ∷ x.1) same
semicolon_only _ c e = absurd (cc e)

while_only : (ts : Tokens) (c : Position × Tokens) → r.while_word ts ≡ Some c → ts ≡ Token.Word w.While c.0 ∷ c.1
while_only (Token.Word w.While at ∷ rest) c e = let same : (at, rest) ≡ c = some_same e in ap (λ (x : Position × Tokens). Token.Word w.While x.0 ∷ x.1) same
while_only _ c e = absurd (cc e)

catch_only : (ts : Tokens) (c : Position × Tokens) → r.catch_word ts ≡ Some c → ts ≡ Token.Word w.Catch c.0 ∷ c.1
catch_only (Token.Word w.Catch at ∷ rest) c e = let same : (at, rest) ≡ c = some_same e in ap (λ (x : Position × Tokens). Token.Word w.Catch x.0 ∷ x.1) same
catch_only _ c e = absurd (cc e)

abbrev pub begins_else : Tokens → Bool
begins_else (Token.Word w.Else at ∷ rest) = true
begins_else _ = false

-- ---- lists

pub record ManyIs (A : Type 0) (text : A → Tokens) (P : A → Type 0) (ts : Tokens) (y : List A × Tokens) : Type 0 where
  pub same : ts ≡ joined (map text y.0) ++ y.1
  pub all : AllByRecursion P y.0

pub record Stopped (A : Type 0) (text : A → Tokens) (P : A → Type 0) (stop : Tokens → Bool) (ts : Tokens) (y : List A × Tokens) : Type 0 where
  pub many : ManyIs A text P ts y
  pub stops : stop y.1 ≡ true

module _ (A : Type 0) (text : A → Tokens) (P : A → Type 0) where
  one_more : (ts : Tokens) (x : A × Tokens) (xs : List A × Tokens) → ts ≡ text x.0 ++ x.1 → P x.0 → ManyIs A text P x.1 xs → ManyIs A text P ts (x.0 ∷ xs.0, xs.1)
  one_more ts x xs same good more = record {
    same = same ∙ ap (λ l. text x.0 ++ l) more.same ∙ sym (append_assoc (text x.0) (joined (map text xs.0)) xs.1);
    all = (good, more.all);
  }

  no_more : (ts : Tokens) → ManyIs A text P ts ([], ts)
  no_more ts = record { same = refl; all = tt }

  pub many_sound : (stop : Tokens → Bool) (item : Reader A) → ((ts : Tokens) (y : A × Tokens) → item ts ≡ Some y → (ts ≡ text y.0 ++ y.1) × P y.0)
      → (n : ℕ) (ts : Tokens) (y : List A × Tokens) → r.many stop item n ts ≡ Some y → Stopped A text P stop ts y
  unfolding r.many
  many_sound stop item sounds zero ts y e =
      let g = guard_some (stop ts) _ y e in
      subst (Stopped A text P stop ts) (some_same g.1) (record { many = no_more ts; stops = g.0 })
  many_sound stop item sounds (suc n) ts y e = elim (cond_is (stop ts) _ _ _ e) [
    | inl h ↦ subst (Stopped A text P stop ts) (some_same h.1) (record { many = no_more ts; stops = h.0 })
    | inr h ↦
        let a = bind_some (item ts) _ _ h.1 in
        let b = bind_some (r.many stop item n a.0.1) _ _ a.2 in
        let i = sounds ts a.0 a.1 in
        let j = many_sound stop item sounds n a.0.1 b.0 b.1 in
        subst (Stopped A text P stop ts) (some_same b.2) (record { many = one_more ts a.0 b.0 i.0 i.1 j.many; stops = j.stops })
  ]

  pub record BracedIs (Q : List A → Type 0) (ts : Tokens) (y : r.Braced A × Tokens) : Type 0 where
    pub same : ts ≡ braced y.0.opens (map text y.0.items) y.0.closes ++ y.1
    pub all : Q y.0.items

  pub braced_any : (Q : List A → Type 0) (list : Reader (List A)) → ((ts : Tokens) (y : List A × Tokens) → list ts ≡ Some y → (ts ≡ joined (map text y.0) ++ y.1) × Q y.0)
      → (ts : Tokens) (y : r.Braced A × Tokens) → r.braced list ts ≡ Some y → BracedIs Q ts y
  unfolding r.braced
  braced_any Q list sounds ts y e =
      let a = bind_some (open_curly ts) _ _ e in
      let b = bind_some (list a.0.1) _ _ a.2 in
      let c = bind_some (r.close_curly b.0.1) _ _ b.2 in
      let i = sounds a.0.1 b.0 b.1 in
      subst (BracedIs Q ts) (some_same c.2) (record {
        same =
            open_curly_only ts a.0 a.1
            ∙ ap (λ (l : Tokens). Token.Sign m.OpenCurly a.0.0 ∷ l) (i.0 ∙ ap (λ (l : Tokens). joined (map text b.0.0) ++ l) (close_curly_only b.0.1 c.0 c.1) ∙ sym (append_assoc (joined (map text b.0.0)) (Token.Sign m.CloseCurly c.0.0 ∷ []) c.0.1));
        all = i.1;
      })

  pub braced_sound : (list : Reader (List A)) → ((ts : Tokens) (y : List A × Tokens) → list ts ≡ Some y → ManyIs A text P ts y)
      → (ts : Tokens) (y : r.Braced A × Tokens) → r.braced list ts ≡ Some y → BracedIs (AllByRecursion P) ts y
  braced_sound list sounds ts y e = braced_any (AllByRecursion P) list (λ ts y h. let i = sounds ts y h in (i.same, i.all)) ts y e

-- ---- heads

pub spans_counts : (ts : Tokens) → length (spans ts) ≡ length (counts ts)
spans_counts [] = refl
spans_counts (Token.ArrowBody at span ∷ ts) = ap suc (spans_counts ts)
spans_counts (Token.CloseBody at span ∷ ts) = ap suc (spans_counts ts)
spans_counts (Token.Sign mark at ∷ ts) = spans_counts ts
spans_counts (Token.Word word at ∷ ts) = spans_counts ts
spans_counts (Token.Id n at ∷ ts) = spans_counts ts
spans_counts (Token.Literal x at ∷ ts) = spans_counts ts

-- the pieces of what is cut off, with the tokens `z` that follow it
pub cut_pieces : (ts : Tokens) (c : Cut) (z more : Tokens) → CutIs (length ts) ts c → c.rest ≡ z ++ more
    → pieces (length (filled c.text c.bodies ++ z)) (filled c.text c.bodies ++ z) ≡ c.text ++ pieces (length (filled c.text c.bodies ++ z)) z
cut_pieces ts c z more i h =
    let l1 = ap length (i.same ∙ ap (λ (l : Tokens). filled c.text c.bodies ++ l) h ∙ sym (append_assoc (filled c.text c.bodies) z more)) in
    let l2 = length-append (filled c.text c.bodies ++ z) more in
    i.numbered z more (length (filled c.text c.bodies ++ z)) h (omega (arith, l1, l2))

pub are_bodies : (text : Tokens) (texts : List Tokens) (xs : List JBody) → map body_tokens xs ≡ texts → map is_block xs ≡ spans text → map length texts ≡ counts text
    → text ≡ pieces (length (filled text texts)) (filled text texts) → AreBodies text xs
are_bodies text texts xs same kinds counted numbered =
    let N : List Tokens → Type 0 = λ l. text ≡ pieces (length (filled text l)) (filled text l) in
    record { each = kinds; counted = ap (map length) same ∙ counted; numbered = subst N (sym same) numbered }

-- the bodies of a head that a token of its own ends
pub tail_bodies : (ts : Tokens) (c : Cut) (z more : Tokens) (xs : List JBody) → CutIs (length ts) ts c → c.rest ≡ z ++ more → Tail z → map body_tokens xs ≡ c.bodies → map is_block xs ≡ spans c.text
    → AreBodies (c.text ++ z) xs
tail_bodies ts c z more xs i h t same kinds =
    let f = filled_end c.text z c.bodies t i.counted in
    are_bodies (c.text ++ z) c.bodies xs same (kinds ∙ sym (spans_end c.text z t)) (i.counted ∙ sym (counts_end c.text z t))
    (sym (ap (λ (l : Tokens). pieces (length l) l) f ∙ cut_pieces ts c z more i h ∙ ap (λ (l : Tokens). c.text ++ l) (t.pieces (length (filled c.text c.bodies ++ z)))))

whole_pieces : (ts : Tokens) (c : Cut) → CutIs (length ts) ts c → c.text ≡ pieces (length (filled c.text c.bodies)) (filled c.text c.bodies)
whole_pieces ts c i =
    let p = cut_pieces ts c [] c.rest i refl in
    sym (ap (λ (l : Tokens). pieces (length l) l) (sym (append-nil (filled c.text c.bodies))) ∙ p ∙ ap (λ (l : Tokens). c.text ++ l) (pieces_none (length (filled c.text c.bodies ++ []))) ∙ append-nil c.text)

pub record BodyIs (P : Node → Type 0) (block : Bool) (ts : Tokens) (x : JBody) : Type 0 where
  pub same : ts ≡ body_tokens x
  pub kind : is_block x ≡ block
  pub stands : P (Node.Body x)

pub record StatementIs (P : Node → Type 0) (place : Role) (ts : Tokens) (y : JStatement × Tokens) : Type 0 where
  pub same : ts ≡ statement_tokens y.0 ++ y.1
  pub stands : P (Node.Statement place y.0)
  pub shut : ends_open y.0 ≡ true → begins_else y.1 ≡ false

pub record Sounds (P : ℕ → Node → Type 0) (R : r.Readers) : Type 0 where
  pub body : (d : ℕ) (kind : Bool) (ts : Tokens) (x : JBody) → R.body d kind ts ≡ Some x → BodyIs (P d) kind ts x
  pub label : (d : ℕ) (ts : Tokens) (y : JCase × Tokens) → R.label d ts ≡ Some y → (ts ≡ case_tokens y.0 ++ y.1) × P d (Node.Case y.0)
  pub statement : (d : ℕ) (place : Role) (ts : Tokens) (y : JStatement × Tokens) → R.statement d place ts ≡ Some y → StatementIs (P d) place ts y
  pub member : (d : ℕ) (owner : Owner) (ts : Tokens) (y : JMember × Tokens) → R.member d owner ts ≡ Some y → (ts ≡ whole_member_tokens y.0 ++ y.1) × P d (Node.Member owner y.0)

-- what a reader of a whole head promises
abbrev pub Reads : (H : Type 0) → (H → Tokens) → (H → Type 0) → (Tokens → Option H) → Type 0
Reads H text Q of = (ts : Tokens) (x : H) → of ts ≡ Some x → (text x ≡ ts) × Q x

pub record BodiesAre (P : ℕ → Node → Type 0) (d : ℕ) (ls : Levels) (ks : List Bool) (ts : List Tokens) (xs : List JBody) : Type 0 where
  pub same : map body_tokens xs ≡ ts
  pub kinds : map is_block xs ≡ ks
  pub stand : bodies_stand P d ls xs

module _ (P : ℕ → Node → Type 0) (R : r.Readers) (S : Sounds P R) where
  pub bodies_sound : (d : ℕ) (ls : Levels) (ks : List Bool) (ts : List Tokens) (xs : List JBody) → length ks ≡ length ts → r.bodies_by R.body d ls ks ts ≡ Some xs
      → BodiesAre P d ls ks ts xs
  bodies_sound d ls [] [] xs l e = subst (BodiesAre P d ls [] []) (some_same e) (record { same = refl; kinds = refl; stand = tt })
  bodies_sound d ls (k ∷ ks) [] xs l e = absurd (omega (arith, l))
  bodies_sound d [] ks (t ∷ ts) xs l e = absurd (cc e)
  bodies_sound d (n ∷ ls) [] (t ∷ ts) xs l e = absurd (cc e)
  bodies_sound d (n ∷ ls) (k ∷ ks) (t ∷ ts) xs l e =
      let a = bind_some (R.body (suc (suc d) - n) k t) _ _ e in
      let b = bind_some (r.bodies_by R.body d ls ks ts) _ _ a.2 in
      let i = S.body (suc (suc d) - n) k t a.0 a.1 in
      let j = bodies_sound d ls ks ts b.0 (omega (arith, l)) b.1 in
      subst (BodiesAre P d (n ∷ ls) (k ∷ ks) (t ∷ ts)) (some_same b.2) (record {
        same = ap (λ z. z ∷ map body_tokens b.0) (sym i.same) ∙ ap (λ z. t ∷ z) j.same;
        kinds = ap (λ z. z ∷ map is_block b.0) i.kind ∙ ap (λ z. k ∷ z) j.kinds;
        stand = (i.stands, j.stand);
      })

  module _ (H : Type 0) (text : H → Tokens) (Q : H → Type 0) (levels : H → Levels) (d : ℕ) where
    pub record HeadIs (ts : Tokens) (y : r.Headed H × Tokens) : Type 0 where
      pub same : ts ≡ filled (text y.0.head) (map body_tokens y.0.bodies) ++ y.1
      pub head : Q y.0.head
      pub bodies : HeadStands P d (text y.0.head) (levels y.0.head) y.0.bodies

    pub head_sound : (stop : Stop) (of : Tokens → Option H) → Reads H text Q of → (ts : Tokens) (y : r.Headed H × Tokens) → r.head_read R.body d stop of levels ts ≡ Some y → HeadIs ts y
    unfolding r.head_read
    head_sound stop of law ts y e =
        let a = bind_some (cut stop ts) _ _ e in
        let b = bind_some (of a.0.text) _ _ a.2 in
        let k = bind_some (r.bodies_by R.body d (levels b.0) (spans a.0.text) a.0.bodies) _ _ b.2 in
        let i = cut_is stop ts a.0 a.1 in
        let j = law a.0.text b.0 b.1 in
        let l1 = length-map a.0.bodies length in
        let l2 = ap length i.counted in
        let l3 = spans_counts a.0.text in
        let n = bodies_sound d (levels b.0) (spans a.0.text) a.0.bodies k.0 (omega (arith, l1, l2, l3)) k.1 in
        let made : AreBodies a.0.text k.0 = are_bodies a.0.text a.0.bodies k.0 n.same n.kinds i.counted (whole_pieces ts a.0 i) in
        let F : Tokens → Type 0 = λ l. HeadStands P d l (levels b.0) k.0 in
        subst (HeadIs ts) (some_same k.2) (record {
          same = i.same ∙ ap (λ l. filled l a.0.bodies ++ a.0.rest) (sym j.0) ∙ ap (λ l. filled (text b.0) l ++ a.0.rest) (sym n.same);
          head = j.1;
          bodies = subst F (sym j.0) (record { are = made; stand = n.stand });
        })

    pub record RoundedIs (ts : Tokens) (y : r.Rounded H × Tokens) : Type 0 where
      pub same : ts ≡ Token.Sign m.OpenRound y.0.opens ∷ (filled (text y.0.head) (map body_tokens y.0.bodies) ++ Token.Sign m.CloseRound y.0.closes ∷ y.1)
      pub head : Q y.0.head
      pub bodies : HeadStands P d (text y.0.head) (levels y.0.head) y.0.bodies

    rounded_sound : (of : Tokens → Option H) → Reads H text Q of → (ts : Tokens) (y : r.Rounded H × Tokens) → r.rounded R.body d of levels ts ≡ Some y → RoundedIs ts y
    unfolding r.rounded
    rounded_sound of law ts y e =
        let a = bind_some (open_round ts) _ _ e in
        let b = bind_some (r.head_read R.body d Stop.Close of levels a.0.1) _ _ a.2 in
        let c = bind_some (close b.0.1) _ _ b.2 in
        let i = head_sound Stop.Close of law a.0.1 b.0 b.1 in
        subst (RoundedIs ts) (some_same c.2) (record {
          same =
              open_round_only ts a.0 a.1
              ∙ ap (λ (l : Tokens). Token.Sign m.OpenRound a.0.0 ∷ l) (i.same ∙ ap (λ (l : Tokens). filled (text b.0.0.head) (map body_tokens b.0.0.bodies) ++ l) (close_only b.0.1 c.0 c.1));
          head = i.head;
          bodies = i.bodies;
        })

-- ---- statements

headed_then : (word : Token) (lp : Position) (text : Tokens) (rp : Position) (more rest : Tokens)
    → headed word lp text rp more ++ rest ≡ word ∷ Token.Sign m.OpenRound lp ∷ (text ++ Token.Sign m.CloseRound rp ∷ (more ++ rest))
headed_then word lp text rp more rest = ap (λ (l : Tokens). word ∷ Token.Sign m.OpenRound lp ∷ l) (append_assoc text (Token.Sign m.CloseRound rp ∷ more) rest)

module _ (P : ℕ → Node → Type 0) (R : r.Readers) (S : Sounds P R) (d : ℕ) where
  made : (place : Role) (layer : JStatement-F JBody JMember JStatement JCase JCaseGroup JCatch) (x : JStatement) (ts rest text : Tokens) → roll-JStatement layer ≡ x
      → statement_tokens x ≡ text → ts ≡ text ++ rest → statement_stands P d place layer → (ends_open x ≡ true → begins_else rest ≡ false) → StatementIs (node_stands P d) place ts (x, rest)
  made place layer x ts rest text rolls spelled same stands shut = record {
    same = same ∙ ap (λ l. l ++ rest) (sym spelled);
    stands = subst (statement_stands P d place) (sym (out_statement layer x rolls)) stands;
    shut = shut;
  }

  never : (x : JStatement) (rest : Tokens) → ends_open x ≡ false → ends_open x ≡ true → begins_else rest ≡ false
  never x rest h g = let e = sym h ∙ g in absurd (cc e)

  pub inner_sound : (e : ℕ) (ts : Tokens) (y : List JStatement × Tokens) → r.inner_list R e ts ≡ Some y → ManyIs JStatement statement_tokens (λ x. P e (Node.Statement Role.Inner x)) ts y
  inner_sound e ts y h =
      (many_sound JStatement statement_tokens (λ x. P e (Node.Statement Role.Inner x)) r.begins_close (R.statement e Role.Inner)
      (λ ts y h. let i = S.statement e Role.Inner ts y h in (i.same, i.stands)) (length ts) ts y h).many

  pub record BlockIs (e : ℕ) (ts : Tokens) (y : r.Braced JStatement × Tokens) : Type 0 where
    pub same : ts ≡ braced y.0.opens (map statement_tokens y.0.items) y.0.closes ++ y.1
    pub all : block_stands P e y.0.items

  pub block_sound : (e : ℕ) (ts : Tokens) (y : r.Braced JStatement × Tokens) → r.block R e ts ≡ Some y → BlockIs e ts y
  unfolding r.block
  block_sound zero ts y h = absurd (cc h)
  block_sound (suc e) ts y h =
      let i = braced_sound JStatement statement_tokens (λ x. P e (Node.Statement Role.Inner x)) (r.inner_list R e) (inner_sound e) ts y h in
      record { same = i.same; all = i.all }

  simple_sound : (place : Role) (ts : Tokens) (y : JStatement × Tokens) → r.simple R d place ts ≡ Some y → StatementIs (node_stands P d) place ts y
  unfolding r.simple
  simple_sound place ts y e =
      let a = bind_some (r.head_read R.body d Stop.Semicolon (simple_read d) simple_levels ts) _ _ e in
      let b = bind_some (semicolon a.0.1) _ _ a.2 in
      let g = guard_some (may_stand place a.0.0.head) _ y b.2 in
      let i = head_sound P R S JSimple simple_tokens (SimpleStands d) simple_levels d Stop.Semicolon (simple_read d) (simple_is_spelled d) ts a.0 a.1 in
      let text : Tokens = filled (simple_tokens a.0.0.head) (map body_tokens a.0.0.bodies) in
      subst (StatementIs (node_stands P d) place ts) (some_same g.1)
      (made place (JStatement-F.Simple a.0.0.head a.0.0.bodies b.0.0) _ ts b.0.1 (text ++ Token.Sign m.Semicolon b.0.0 ∷ []) (st.rolls-Simple a.0.0.head a.0.0.bodies b.0.0) (tokens_Simple a.0.0.head a.0.0.bodies b.0.0)
      (i.same ∙ ap (λ (l : Tokens). text ++ l) (semicolon_only a.0.1 b.0 b.1) ∙ sym (append_assoc text (Token.Sign m.Semicolon b.0.0 ∷ []) b.0.1))
      (g.0, i.head, i.bodies) (never _ b.0.1 (open_Simple a.0.0.head a.0.0.bodies b.0.0)))

  block_statement_sound : (place : Role) (ts : Tokens) (y : JStatement × Tokens) → r.block_statement R d ts ≡ Some y → StatementIs (node_stands P d) place ts y
  unfolding r.block_statement
  block_statement_sound place ts y e =
      let a = bind_some (r.braced (r.inner_list R d) ts) _ _ e in
      let i = braced_sound JStatement statement_tokens (λ x. P d (Node.Statement Role.Inner x)) (r.inner_list R d) (inner_sound d) ts a.0 a.1 in
      subst (StatementIs (node_stands P d) place ts) (some_same a.2)
      (made place (JStatement-F.Block a.0.0.opens a.0.0.items a.0.0.closes) _ ts a.0.1 (braced a.0.0.opens (map statement_tokens a.0.0.items) a.0.0.closes) (st.rolls-Block a.0.0.opens a.0.0.items a.0.0.closes)
      (tokens_Block a.0.0.opens a.0.0.items a.0.0.closes) i.same i.all (never _ a.0.1 (open_Block a.0.0.opens a.0.0.items a.0.0.closes)))

  labeled_sound : (place : Role) (n : List ℕ) (at colon : Position) (ts : Tokens) (y : JStatement × Tokens) → r.labeled R d n at colon ts ≡ Some y
      → StatementIs (node_stands P d) place (Token.Id n at ∷ Token.Sign m.Colon colon ∷ ts) y
  unfolding r.labeled
  labeled_sound place n at colon ts y e =
      let a = bind_some (R.statement d Role.Sole ts) _ _ e in
      let i = S.statement d Role.Sole ts a.0 a.1 in
      subst (StatementIs (node_stands P d) place (Token.Id n at ∷ Token.Sign m.Colon colon ∷ ts)) (some_same a.2)
      (made place (JStatement-F.Labeled n at colon a.0.0) _ _ a.0.1 (Token.Id n at ∷ Token.Sign m.Colon colon ∷ statement_tokens a.0.0) (st.rolls-Labeled n at colon a.0.0) (tokens_Labeled n at colon a.0.0)
      (ap (λ (l : Tokens). Token.Id n at ∷ Token.Sign m.Colon colon ∷ l) i.same) i.stands (λ h. i.shut (sym (open_Labeled n at colon a.0.0) ∙ h)))

  condition_sound : (ts : Tokens) (y : r.Rounded JExpr × Tokens) → r.condition R d ts ≡ Some y → RoundedIs P R S JExpr tokens (Stands d any_level) r.condition_levels d ts y
  condition_sound ts y e = rounded_sound P R S JExpr tokens (Stands d any_level) r.condition_levels d (λ ts. whole (read d any_level ts)) (read_sound d any_level) ts y e

  -- a word, what stands in parentheses, and the tokens behind it
  behind_head : (word : Token) (ts : Tokens) (lp : Position) (text : Tokens) (rp : Position) (rest more after : Tokens)
      → ts ≡ Token.Sign m.OpenRound lp ∷ (text ++ Token.Sign m.CloseRound rp ∷ rest) → rest ≡ more ++ after → word ∷ ts ≡ headed word lp text rp more ++ after
  behind_head word ts lp text rp rest more after same further =
      ap (λ (l : Tokens). word ∷ l) (same ∙ ap (λ (l : Tokens). Token.Sign m.OpenRound lp ∷ (text ++ Token.Sign m.CloseRound rp ∷ l)) further) ∙ sym (headed_then word lp text rp more after)

  if_end_sound : (place : Role) (at : Position) (x : r.Rounded JExpr) (ts us : Tokens) (then_ : JStatement) (y : JStatement × Tokens)
      → RoundedIs P R S JExpr tokens (Stands d any_level) r.condition_levels d ts (x, statement_tokens then_ ++ us) → P d (Node.Statement Role.Sole then_)
      → (ends_open then_ ≡ true → begins_else us ≡ false) → r.if_end R d at x then_ us ≡ Some y → StatementIs (node_stands P d) place (Token.Word w.If at ∷ ts) y
  unfolding r.else_read
  if_end_sound place at x ts (Token.Word w.Else else_at ∷ rest) then_ y i good shut e =
      let a = bind_some (R.statement d Role.Sole rest) _ _ e in
      let j = S.statement d Role.Sole rest a.0 a.1 in
      let text : Tokens = filled (tokens x.head) (map body_tokens x.bodies) in
      let more : Tokens = statement_tokens then_ ++ Token.Word w.Else else_at ∷ statement_tokens a.0.0 in
      subst (StatementIs (node_stands P d) place (Token.Word w.If at ∷ ts)) (some_same a.2)
      (made place (JStatement-F.IfElse at x.opens x.head x.bodies x.closes then_ else_at a.0.0) _ _ a.0.1 (headed (Token.Word w.If at) x.opens text x.closes more)
      (st.rolls-IfElse at x.opens x.head x.bodies x.closes then_ else_at a.0.0) (tokens_IfElse at x.opens x.head x.bodies x.closes then_ else_at a.0.0)
      (behind_head (Token.Word w.If at) ts x.opens text x.closes _ more a.0.1 i.same
      (ap (λ (l : Tokens). statement_tokens then_ ++ Token.Word w.Else else_at ∷ l) j.same ∙ sym (append_assoc (statement_tokens then_) (Token.Word w.Else else_at ∷ statement_tokens a.0.0) a.0.1)))
      ((i.head, i.bodies), good, not_open (ends_open then_) refl, j.stands)
      (λ h. j.shut (sym (open_IfElse at x.opens x.head x.bodies x.closes then_ else_at a.0.0) ∙ h)))
    where
      not_open : (b : Bool) → ends_open then_ ≡ b → ends_open then_ ≡ false
      not_open true h = let g = shut h in absurd (cc g)
      not_open false h = h
  if_end_sound place at x ts us then_ y i good shut e =
      let text : Tokens = filled (tokens x.head) (map body_tokens x.bodies) in
      subst (StatementIs (node_stands P d) place (Token.Word w.If at ∷ ts)) (some_same e)
      (made place (JStatement-F.If at x.opens x.head x.bodies x.closes then_) _ _ us (headed (Token.Word w.If at) x.opens text x.closes (statement_tokens then_))
      (st.rolls-If at x.opens x.head x.bodies x.closes then_) (tokens_If at x.opens x.head x.bodies x.closes then_)
      (behind_head (Token.Word w.If at) ts x.opens text x.closes _ (statement_tokens then_) us i.same refl)
      ((i.head, i.bodies), good) (λ h. refl))

  if_sound : (place : Role) (at : Position) (ts : Tokens) (y : JStatement × Tokens) → r.if_read R d at ts ≡ Some y → StatementIs (node_stands P d) place (Token.Word w.If at ∷ ts) y
  unfolding r.if_read
  if_sound place at ts y e =
      let a = bind_some (r.condition R d ts) _ _ e in
      let b = bind_some (R.statement d Role.Sole a.0.1) _ _ a.2 in
      let i = condition_sound ts a.0 a.1 in
      let j = S.statement d Role.Sole a.0.1 b.0 b.1 in
      let K : Tokens → Type 0 = λ l. RoundedIs P R S JExpr tokens (Stands d any_level) r.condition_levels d ts (a.0.0, l) in
      if_end_sound place at a.0.0 ts b.0.1 b.0.0 y (subst K j.same i) j.stands j.shut b.2

  while_sound : (place : Role) (at : Position) (ts : Tokens) (y : JStatement × Tokens) → r.while_read R d at ts ≡ Some y → StatementIs (node_stands P d) place (Token.Word w.While at ∷ ts) y
  unfolding r.while_read
  while_sound place at ts y e =
      let a = bind_some (r.condition R d ts) _ _ e in
      let b = bind_some (R.statement d Role.Sole a.0.1) _ _ a.2 in
      let i = condition_sound ts a.0 a.1 in
      let j = S.statement d Role.Sole a.0.1 b.0 b.1 in
      let x = a.0.0 in
      subst (StatementIs (node_stands P d) place (Token.Word w.While at ∷ ts)) (some_same b.2)
      (made place (JStatement-F.While at x.opens x.head x.bodies x.closes b.0.0) _ _ b.0.1 (headed (Token.Word w.While at) x.opens (filled (tokens x.head) (map body_tokens x.bodies)) x.closes (statement_tokens b.0.0))
      (st.rolls-While at x.opens x.head x.bodies x.closes b.0.0) (tokens_While at x.opens x.head x.bodies x.closes b.0.0)
      (behind_head (Token.Word w.While at) ts x.opens (filled (tokens x.head) (map body_tokens x.bodies)) x.closes a.0.1 (statement_tokens b.0.0) b.0.1 i.same j.same)
      ((i.head, i.bodies), j.stands) (λ h. j.shut (sym (open_While at x.opens x.head x.bodies x.closes b.0.0) ∙ h)))

  loop_sound : (place : Role) (at : Position) (ts : Tokens) (y : JStatement × Tokens) → r.loop_read R d at ts ≡ Some y → StatementIs (node_stands P d) place (Token.Word w.For at ∷ ts) y
  unfolding r.loop_read
  loop_sound place at ts y e =
      let a = bind_some (r.rounded R.body d (for_read d) for_levels ts) _ _ e in
      let b = bind_some (R.statement d Role.Sole a.0.1) _ _ a.2 in
      let i = rounded_sound P R S JForHead for_tokens (ForStands d) for_levels d (for_read d) (for_is_spelled d) ts a.0 a.1 in
      let j = S.statement d Role.Sole a.0.1 b.0 b.1 in
      let x = a.0.0 in
      subst (StatementIs (node_stands P d) place (Token.Word w.For at ∷ ts)) (some_same b.2)
      (made place (JStatement-F.For at x.opens x.head x.bodies x.closes b.0.0) _ _ b.0.1 (headed (Token.Word w.For at) x.opens (filled (for_tokens x.head) (map body_tokens x.bodies)) x.closes (statement_tokens b.0.0))
      (st.rolls-For at x.opens x.head x.bodies x.closes b.0.0) (tokens_For at x.opens x.head x.bodies x.closes b.0.0)
      (behind_head (Token.Word w.For at) ts x.opens (filled (for_tokens x.head) (map body_tokens x.bodies)) x.closes a.0.1 (statement_tokens b.0.0) b.0.1 i.same j.same)
      (i.head, i.bodies, j.stands) (λ h. j.shut (sym (open_For at x.opens x.head x.bodies x.closes b.0.0) ∙ h)))

  do_sound : (place : Role) (at : Position) (ts : Tokens) (y : JStatement × Tokens) → r.do_read R d at ts ≡ Some y → StatementIs (node_stands P d) place (Token.Word w.Do at ∷ ts) y
  unfolding r.do_read
  do_sound place at ts y e =
      let b = bind_some (R.statement d Role.Sole ts) _ _ e in
      let c = bind_some (r.while_word b.0.1) _ _ b.2 in
      let a = bind_some (r.condition R d c.0.1) _ _ c.2 in
      let g = bind_some (semicolon a.0.1) _ _ a.2 in
      let j = S.statement d Role.Sole ts b.0 b.1 in
      let i = condition_sound c.0.1 a.0 a.1 in
      let x = a.0.0 in
      let text : Tokens = filled (tokens x.head) (map body_tokens x.bodies) in
      let tail : Tokens = headed (Token.Word w.While c.0.0) x.opens text x.closes (Token.Sign m.Semicolon g.0.0 ∷ []) in
      let behind : b.0.1 ≡ tail ++ g.0.1 =
      while_only b.0.1 c.0 c.1 ∙ behind_head (Token.Word w.While c.0.0) c.0.1 x.opens text x.closes a.0.1 (Token.Sign m.Semicolon g.0.0 ∷ []) g.0.1 i.same (semicolon_only a.0.1 g.0 g.1) in
      subst (StatementIs (node_stands P d) place (Token.Word w.Do at ∷ ts)) (some_same g.2)
      (made place (JStatement-F.Do at b.0.0 c.0.0 x.opens x.head x.bodies x.closes g.0.0) _ _ g.0.1 (Token.Word w.Do at ∷ (statement_tokens b.0.0 ++ tail))
      (st.rolls-Do at b.0.0 c.0.0 x.opens x.head x.bodies x.closes g.0.0) (tokens_Do at b.0.0 c.0.0 x.opens x.head x.bodies x.closes g.0.0)
      (ap (λ (l : Tokens). Token.Word w.Do at ∷ l) (j.same ∙ ap (λ (l : Tokens). statement_tokens b.0.0 ++ l) behind ∙ sym (append_assoc (statement_tokens b.0.0) tail g.0.1)))
      (j.stands, (i.head, i.bodies)) (never _ g.0.1 (open_Do at b.0.0 c.0.0 x.opens x.head x.bodies x.closes g.0.0)))

  abbrev pub GroupStands : JCaseGroup → Type 0
  GroupStands x = group_stands P d (out-JCaseGroup x)

  abbrev pub CatchStands : JCatch → Type 0
  CatchStands x = catch_stands P d (out-JCatch x)

  -- where a `case` or `default` comes first there is a label
  some_label : (n : ℕ) (ts : Tokens) (y : List JCase × Tokens) → r.begins_case ts ≡ true → r.many r.no_case (R.label d) n ts ≡ Some y → 1 ≤ length y.0
  unfolding r.many
  some_label zero ts y h e = let g = guard_some (r.no_case ts) _ y e in let k : false ≡ true = ap not (sym h) ∙ g.0 in absurd (cc k)
  some_label (suc n) ts y h e = elim (cond_is (r.no_case ts) _ _ _ e) [
    | inl g ↦ let k : false ≡ true = ap not (sym h) ∙ g.0 in absurd (cc k)
    | inr g ↦
        let a = bind_some (R.label d ts) _ _ g.1 in
        let b = bind_some (r.many r.no_case (R.label d) n a.0.1) _ _ a.2 in
        let l = ap (λ (z : List JCase × Tokens). length z.0) (some_same b.2) in
        omega (arith, l)
  ]

  record GroupIs (ts : Tokens) (y : JCaseGroup × Tokens) : Type 0 where
    same : ts ≡ group_tokens y.0 ++ y.1
    stands : GroupStands y.0
    begins : r.begins_case ts ≡ true
    -- behind labels alone no further one follows
    alone : length (out-JCaseGroup y.0).statements ≡ 0 → r.begins_case y.1 ≡ false

  not_true : (b : Bool) → not b ≡ true → b ≡ false
  not_true true h = absurd (cc h)
  not_true false h = refl

  alone_by : (xs : List JStatement) (ts rest : Tokens) → ts ≡ joined (map statement_tokens xs) ++ rest → r.no_case ts ≡ true → length xs ≡ 0 → r.begins_case rest ≡ false
  alone_by [] ts rest same stops none = ap r.begins_case (sym same) ∙ not_true (r.begins_case ts) stops
  alone_by (x ∷ xs) ts rest same stops none = absurd (omega (arith, none))

  group_sound : (ts : Tokens) (y : JCaseGroup × Tokens) → r.group_read R d ts ≡ Some y → GroupIs ts y
  unfolding r.group_read
  group_sound ts y e =
      let g = guard_some (r.begins_case ts) _ y e in
      let a = bind_some (r.until r.no_case (R.label d) ts) _ _ g.1 in
      let b = bind_some (r.until r.ends_group (R.statement d Role.Inner) a.0.1) _ _ a.2 in
      let s = many_sound JCase case_tokens (λ x. P d (Node.Case x)) r.no_case (R.label d) (S.label d) (length ts) ts a.0 a.1 in
      let i = s.many in
      let j = (many_sound JStatement statement_tokens (λ x. P d (Node.Statement Role.Inner x)) r.ends_group (R.statement d Role.Inner)
      (λ ts y h. let i = S.statement d Role.Inner ts y h in (i.same, i.stands)) (length a.0.1) a.0.1 b.0 b.1).many in
      let layer : JCaseGroup-F JBody JMember JStatement JCase JCaseGroup JCatch = record { labels = a.0.0; statements = b.0.0 } in
      let G : JCaseGroup-F JBody JMember JStatement JCase JCaseGroup JCatch → Type 0 = λ l. group_stands P d l in
      let A : JCaseGroup-F JBody JMember JStatement JCase JCaseGroup JCatch → Type 0 = λ l. length l.statements ≡ 0 → r.begins_case b.0.1 ≡ false in
      subst (GroupIs ts) (some_same b.2) (record {
        same =
            i.same ∙ ap (λ (l : Tokens). joined (map case_tokens a.0.0) ++ l) j.same ∙ sym (append_assoc (joined (map case_tokens a.0.0)) (joined (map statement_tokens b.0.0)) b.0.1)
            ∙ ap (λ (l : Tokens). l ++ b.0.1) (sym (tokens_CaseGroup layer));
        stands = subst G (sym (out-roll-JCaseGroup layer)) (some_label (length ts) ts a.0 g.0 a.1, i.all, j.all);
        begins = g.0;
        alone = subst A (sym (out-roll-JCaseGroup layer)) (alone_by b.0.0 a.0.1 b.0.1 j.same s.stops);
      })

  record GroupsAre (ts : Tokens) (y : List JCaseGroup × Tokens) : Type 0 where
    many : ManyIs JCaseGroup group_tokens GroupStands ts y
    full : full_before y.0
    begins : 1 ≤ length y.0 → r.begins_case ts ≡ true

  full_more : (x : JCaseGroup) (ts : Tokens) (xs : List JCaseGroup) → (length (out-JCaseGroup x).statements ≡ 0 → r.begins_case ts ≡ false) → (1 ≤ length xs → r.begins_case ts ≡ true) → full_before xs
      → full_before (x ∷ xs)
  full_more x ts [] alone begins full = tt
  full_more x ts (y ∷ xs) alone begins full = (by (length (out-JCaseGroup x).statements) refl, full)
    where
      by : (n : ℕ) → length (out-JCaseGroup x).statements ≡ n → 1 ≤ length (out-JCaseGroup x).statements
      by zero h = let e = sym (alone h) ∙ begins (omega arith) in absurd (cc e)
      by (suc n) h = omega (arith, h)

  groups_sound : (n : ℕ) (ts : Tokens) (y : List JCaseGroup × Tokens) → r.many r.begins_close (r.group_read R d) n ts ≡ Some y → GroupsAre ts y
  unfolding r.many
  groups_sound zero ts y e =
      let g = guard_some (r.begins_close ts) _ y e in
      subst (GroupsAre ts) (some_same g.1) (record { many = no_more JCaseGroup group_tokens GroupStands ts; full = tt; begins = λ h. absurd (omega (arith, h)) })
  groups_sound (suc n) ts y e = elim (cond_is (r.begins_close ts) _ _ _ e) [
    | inl h ↦ subst (GroupsAre ts) (some_same h.1) (record { many = no_more JCaseGroup group_tokens GroupStands ts; full = tt; begins = λ h. absurd (omega (arith, h)) })
    | inr h ↦
        let a = bind_some (r.group_read R d ts) _ _ h.1 in
        let b = bind_some (r.many r.begins_close (r.group_read R d) n a.0.1) _ _ a.2 in
        let i = group_sound ts a.0 a.1 in
        let j = groups_sound n a.0.1 b.0 b.1 in
        subst (GroupsAre ts) (some_same b.2) (record {
          many = one_more JCaseGroup group_tokens GroupStands ts a.0 b.0 i.same i.stands j.many;
          full = full_more a.0.0 a.0.1 b.0.0 i.alone j.begins j.full;
          begins = λ h. i.begins;
        })
  ]

  switch_sound : (place : Role) (at : Position) (ts : Tokens) (y : JStatement × Tokens) → r.switch_statement R d at ts ≡ Some y → StatementIs (node_stands P d) place (Token.Word w.Switch at ∷ ts) y
  unfolding r.switch_statement
  switch_sound place at ts y e =
      let a = bind_some (r.condition R d ts) _ _ e in
      let b = bind_some (r.braced (r.until r.begins_close (r.group_read R d)) a.0.1) _ _ a.2 in
      let i = condition_sound ts a.0 a.1 in
      let j = braced_any JCaseGroup group_tokens GroupStands (λ xs. AllByRecursion GroupStands xs × full_before xs) (r.until r.begins_close (r.group_read R d))
      (λ ts y h. let k = groups_sound (length ts) ts y h in (k.many.same, (k.many.all, k.full))) a.0.1 b.0 b.1 in
      let x = a.0.0 in
      let z = b.0.0 in
      subst (StatementIs (node_stands P d) place (Token.Word w.Switch at ∷ ts)) (some_same b.2)
      (made place (JStatement-F.Switch at x.opens x.head x.bodies x.closes z.opens z.items z.closes) _ _ b.0.1
      (headed (Token.Word w.Switch at) x.opens (filled (tokens x.head) (map body_tokens x.bodies)) x.closes (braced z.opens (map group_tokens z.items) z.closes))
      (st.rolls-Switch at x.opens x.head x.bodies x.closes z.opens z.items z.closes) (tokens_Switch at x.opens x.head x.bodies x.closes z.opens z.items z.closes)
      (behind_head (Token.Word w.Switch at) ts x.opens (filled (tokens x.head) (map body_tokens x.bodies)) x.closes a.0.1 (braced z.opens (map group_tokens z.items) z.closes) b.0.1 i.same j.same)
      ((i.head, i.bodies), j.all.0, j.all.1) (never _ b.0.1 (open_Switch at x.opens x.head x.bodies x.closes z.opens z.items z.closes)))

  synchronized_sound : (place : Role) (at : Position) (ts : Tokens) (y : JStatement × Tokens) → r.synchronized R d at ts ≡ Some y
      → StatementIs (node_stands P d) place (Token.Word w.Synchronized at ∷ ts) y
  unfolding r.synchronized
  synchronized_sound place at ts y e =
      let a = bind_some (r.rounded R.body d (lock_read d) lock_levels ts) _ _ e in
      let b = bind_some (r.block R d a.0.1) _ _ a.2 in
      let i = rounded_sound P R S JLock lock_tokens (LockStands d) lock_levels d (lock_read d) (lock_is_spelled d) ts a.0 a.1 in
      let j = block_sound d a.0.1 b.0 b.1 in
      let x = a.0.0 in
      let z = b.0.0 in
      subst (StatementIs (node_stands P d) place (Token.Word w.Synchronized at ∷ ts)) (some_same b.2)
      (made place (JStatement-F.Synchronized at x.opens x.head x.bodies x.closes z.opens z.items z.closes) _ _ b.0.1
      (headed (Token.Word w.Synchronized at) x.opens (filled (lock_tokens x.head) (map body_tokens x.bodies)) x.closes (braced z.opens (map statement_tokens z.items) z.closes))
      (st.rolls-Synchronized at x.opens x.head x.bodies x.closes z.opens z.items z.closes) (tokens_Synchronized at x.opens x.head x.bodies x.closes z.opens z.items z.closes)
      (behind_head (Token.Word w.Synchronized at) ts x.opens (filled (lock_tokens x.head) (map body_tokens x.bodies)) x.closes a.0.1 (braced z.opens (map statement_tokens z.items) z.closes) b.0.1 i.same j.same)
      (i.head, i.bodies, j.all) (never _ b.0.1 (open_Synchronized at x.opens x.head x.bodies x.closes z.opens z.items z.closes)))

  catch_sound : (ts : Tokens) (y : JCatch × Tokens) → r.catch_read R d ts ≡ Some y → (ts ≡ catch_tokens y.0 ++ y.1) × CatchStands y.0
  unfolding r.catch_read TypedStands
  catch_sound ts y e =
      let a = bind_some (r.catch_word ts) _ _ e in
      let lp = bind_some (open_round a.0.1) _ _ a.2 in
      let p = bind_some (typed_read (suc d) lp.0.1) _ _ lp.2 in
      let rp = bind_some (close p.0.1) _ _ p.2 in
      let b = bind_some (r.block R d rp.0.1) _ _ rp.2 in
      let i = typed_sound (suc d) lp.0.1 p.0 p.1 in
      let j = block_sound d rp.0.1 b.0 b.1 in
      let x = p.0.0 in
      let z = b.0.0 in
      let layer : JCatch-F JBody JMember JStatement JCase JCaseGroup JCatch =
      record { at = a.0.0; opens = lp.0.0; caught = x; closes = rp.0.0; left = z.opens; statements = z.items; right = z.closes } in
      let Q : JCatch × Tokens → Type 0 = λ y. (ts ≡ catch_tokens y.0 ++ y.1) × CatchStands y.0 in
      let G : JCatch-F JBody JMember JStatement JCase JCaseGroup JCatch → Type 0 = λ l. catch_stands P d l in
      subst Q (some_same b.2) (
        catch_only ts a.0 a.1
            ∙ ap (λ (l : Tokens). Token.Word w.Catch a.0.0 ∷ l) (
            open_round_only a.0.1 lp.0 lp.1
            ∙ ap (λ (l : Tokens). Token.Sign m.OpenRound lp.0.0 ∷ l) (
            i.0 ∙ ap (λ (l : Tokens). typed_tokens x ++ l) (close_only p.0.1 rp.0 rp.1 ∙ ap (λ (l : Tokens). Token.Sign m.CloseRound rp.0.0 ∷ l) j.same)
            ∙ sym (append_assoc (typed_tokens x) (Token.Sign m.CloseRound rp.0.0 ∷ braced z.opens (map statement_tokens z.items) z.closes) b.0.1)
            )
            )
            ∙ ap (λ (l : Tokens). l ++ b.0.1) (sym (tokens_Catch layer)),
        subst G (sym (out-roll-JCatch layer)) (i.1, j.all),
      )

  -- `try`, its block, the catches and what follows
  try_text : (at : Position) (x : r.Braced JStatement) (ts us : Tokens) (catches : List JCatch) (more rest : Tokens) → ts ≡ braced x.opens (map statement_tokens x.items) x.closes ++ us
      → us ≡ joined (map catch_tokens catches) ++ (more ++ rest)
      → Token.Word w.Try at ∷ ts ≡ (Token.Word w.Try at ∷ (braced x.opens (map statement_tokens x.items) x.closes ++ (joined (map catch_tokens catches) ++ more))) ++ rest
  try_text at x ts us catches more rest same further =
      ap (λ (l : Tokens). Token.Word w.Try at ∷ l) (
      same ∙ ap (λ (l : Tokens). braced x.opens (map statement_tokens x.items) x.closes ++ l) (further ∙ sym (append_assoc (joined (map catch_tokens catches)) more rest))
      ∙ sym (append_assoc (braced x.opens (map statement_tokens x.items) x.closes) (joined (map catch_tokens catches) ++ more) rest)
      )

  try_alone_sound : (place : Role) (at : Position) (x : r.Braced JStatement) (ts us : Tokens) (catches : List JCatch) (rest : Tokens) (y : JStatement × Tokens) → BlockIs d ts (x, us)
      → ManyIs JCatch catch_tokens CatchStands us (catches, rest) → r.try_alone R d at x catches rest ≡ Some y → StatementIs (node_stands P d) place (Token.Word w.Try at ∷ ts) y
  try_alone_sound place at x ts us [] rest y i j e = absurd (cc e)
  try_alone_sound place at x ts us (c ∷ cs) rest y i j e =
      let catches : List JCatch = c ∷ cs in
      subst (StatementIs (node_stands P d) place (Token.Word w.Try at ∷ ts)) (some_same e)
      (made place (JStatement-F.Try at x.opens x.items x.closes catches) _ _ rest (Token.Word w.Try at ∷ (braced x.opens (map statement_tokens x.items) x.closes ++ joined (map catch_tokens catches)))
      (st.rolls-Try at x.opens x.items x.closes catches) (tokens_Try at x.opens x.items x.closes catches)
      (try_text at x ts us catches [] rest i.same j.same
      ∙ ap (λ (l : Tokens). (Token.Word w.Try at ∷ (braced x.opens (map statement_tokens x.items) x.closes ++ l)) ++ rest) (append-nil (joined (map catch_tokens catches))))
      (i.all, omega arith, j.all) (never _ rest (open_Try at x.opens x.items x.closes catches)))

  finally_sound : (place : Role) (at : Position) (x : r.Braced JStatement) (ts us : Tokens) (catches : List JCatch) (last : Position) (rest : Tokens) (y : JStatement × Tokens) → BlockIs d ts (x, us)
      → ManyIs JCatch catch_tokens CatchStands us (catches, Token.Word w.Finally last ∷ rest) → r.finally_read R d at x catches last rest ≡ Some y
      → StatementIs (node_stands P d) place (Token.Word w.Try at ∷ ts) y
  unfolding r.finally_read
  finally_sound place at x ts us catches last rest y i j e =
      let b = bind_some (r.block R d rest) _ _ e in
      let k = block_sound d rest b.0 b.1 in
      let z = b.0.0 in
      let more : Tokens = Token.Word w.Finally last ∷ braced z.opens (map statement_tokens z.items) z.closes in
      subst (StatementIs (node_stands P d) place (Token.Word w.Try at ∷ ts)) (some_same b.2)
      (made place (JStatement-F.TryFinally at x.opens x.items x.closes catches last z.opens z.items z.closes) _ _ b.0.1
      (Token.Word w.Try at ∷ (braced x.opens (map statement_tokens x.items) x.closes ++ (joined (map catch_tokens catches) ++ more)))
      (st.rolls-TryFinally at x.opens x.items x.closes catches last z.opens z.items z.closes) (tokens_TryFinally at x.opens x.items x.closes catches last z.opens z.items z.closes)
      (try_text at x ts us catches more b.0.1 i.same (j.same ∙ ap (λ (l : Tokens). joined (map catch_tokens catches) ++ Token.Word w.Finally last ∷ l) k.same))
      (i.all, j.all, k.all) (never _ b.0.1 (open_TryFinally at x.opens x.items x.closes catches last z.opens z.items z.closes)))

  try_end_sound : (place : Role) (at : Position) (x : r.Braced JStatement) (ts us : Tokens) (catches : List JCatch) (rest : Tokens) (y : JStatement × Tokens) → BlockIs d ts (x, us)
      → ManyIs JCatch catch_tokens CatchStands us (catches, rest) → r.try_end R d at x catches rest ≡ Some y → StatementIs (node_stands P d) place (Token.Word w.Try at ∷ ts) y
  try_end_sound place at x ts us catches (Token.Word w.Finally last ∷ rest) y i j e = finally_sound place at x ts us catches last rest y i j e
  try_end_sound place at x ts us catches rest y i j e = try_alone_sound place at x ts us catches rest y i j e

  try_sound : (place : Role) (at : Position) (ts : Tokens) (y : JStatement × Tokens) → r.try_read R d at ts ≡ Some y → StatementIs (node_stands P d) place (Token.Word w.Try at ∷ ts) y
  unfolding r.try_read
  try_sound place at ts y e =
      let a = bind_some (r.block R d ts) _ _ e in
      let b = bind_some (r.until r.no_catch (r.catch_read R d) a.0.1) _ _ a.2 in
      let i = block_sound d ts a.0 a.1 in
      let j = (many_sound JCatch catch_tokens CatchStands r.no_catch (r.catch_read R d) catch_sound (length a.0.1) a.0.1 b.0 b.1).many in
      try_end_sound place at a.0.0 ts a.0.1 b.0.0 b.0.1 y i j b.2

  worded_sound : (place : Role) (word : Keyword) (at : Position) (rest : Tokens) (y : JStatement × Tokens) → r.worded R d place word at rest ≡ Some y
      → StatementIs (node_stands P d) place (Token.Word word at ∷ rest) y
  worded_sound place w.If at rest y e = if_sound place at rest y e
  worded_sound place w.While at rest y e = while_sound place at rest y e
  worded_sound place w.Do at rest y e = do_sound place at rest y e
  worded_sound place w.For at rest y e = loop_sound place at rest y e
  worded_sound place w.Switch at rest y e = switch_sound place at rest y e
  worded_sound place w.Synchronized at rest y e = synchronized_sound place at rest y e
  worded_sound place w.Try at rest y e = try_sound place at rest y e
  worded_sound place word at rest y e = simple_sound place (Token.Word word at ∷ rest) y e

  pub statement_sound : (place : Role) (ts : Tokens) (y : JStatement × Tokens) → r.statement_step R d place ts ≡ Some y → StatementIs (node_stands P d) place ts y
  statement_sound place (Token.Sign m.OpenCurly at ∷ rest) y e = block_statement_sound place (Token.Sign m.OpenCurly at ∷ rest) y e
  statement_sound place (Token.Word word at ∷ rest) y e = worded_sound place word at rest y e
  statement_sound place (Token.Id n at ∷ Token.Sign m.Colon colon ∷ rest) y e = labeled_sound place n at colon rest y e
  statement_sound place ts y e = simple_sound place ts y e

  -- ---- labels and bodies

  pub label_sound : (ts : Tokens) (y : JCase × Tokens) → r.label_step R d ts ≡ Some y → (ts ≡ case_tokens y.0 ++ y.1) × node_stands P d (Node.Case y.0)
  unfolding r.label_step
  label_sound ts y e =
      let a = bind_some (cut Stop.Colon ts) _ _ e in
      let c = bind_some (colon a.0.rest) _ _ a.2 in
      let b = bind_some (switch_read (suc d) (a.0.text ++ Token.Sign m.Colon c.0.0 ∷ [])) _ _ c.2 in
      let k = bind_some (r.bodies_by R.body d (switch_levels b.0) (spans a.0.text) a.0.bodies) _ _ b.2 in
      let i = cut_is Stop.Colon ts a.0 a.1 in
      let z : Tokens = Token.Sign m.Colon c.0.0 ∷ [] in
      let j = switch_is_spelled (suc d) (a.0.text ++ z) b.0 b.1 in
      let l1 = length-map a.0.bodies length in
      let l2 = ap length i.counted in
      let l3 = spans_counts a.0.text in
      let n = bodies_sound P R S d (switch_levels b.0) (spans a.0.text) a.0.bodies k.0 (omega (arith, l1, l2, l3)) k.1 in
      let t : Tail z = mark_tail m.Colon c.0.0 refl in
      let rest : a.0.rest ≡ z ++ c.0.1 = colon_only a.0.rest c.0 c.1 in
      let are = tail_bodies ts a.0 z c.0.1 k.0 i rest t n.same n.kinds in
      let F : Tokens → Type 0 = λ l. HeadStands P d l (switch_levels b.0) k.0 in
      let layer : JCase-F JBody JMember JStatement JCase JCaseGroup JCatch = record { label = b.0; bodies = k.0 } in
      let Q : JCase × Tokens → Type 0 = λ y. (ts ≡ case_tokens y.0 ++ y.1) × node_stands P d (Node.Case y.0) in
      let G : JCase-F JBody JMember JStatement JCase JCaseGroup JCatch → Type 0 = λ l. case_stands P d l in
      subst Q (some_same k.2) (
        i.same ∙ ap (λ (l : Tokens). filled a.0.text a.0.bodies ++ l) rest ∙ sym (append_assoc (filled a.0.text a.0.bodies) z c.0.1)
            ∙ ap (λ (l : Tokens). l ++ c.0.1) (
            sym (filled_end a.0.text z a.0.bodies t i.counted) ∙ ap (λ (l : Tokens). filled l a.0.bodies) (sym j.0) ∙ ap (λ l. filled (switch_tokens b.0) l) (sym n.same) ∙ sym (tokens_Case layer)
            ),
        subst G (sym (out-roll-JCase layer)) (j.1, subst F (sym j.0) (record { are = are; stand = n.stand })),
      )

  statements_body : (ts : Tokens) (x : JBody) → r.body_step R d true ts ≡ Some x → BodyIs (node_stands P d) true ts x
  unfolding r.body_step
  statements_body ts x e =
      let a = bind_some (whole (r.until r.is_end (R.statement d Role.Inner) ts)) _ _ e in
      let i = (many_sound JStatement statement_tokens (λ x. P d (Node.Statement Role.Inner x)) r.is_end (R.statement d Role.Inner)
      (λ ts y h. let i = S.statement d Role.Inner ts y h in (i.same, i.stands)) (length ts) ts (a.0, []) (whole_only (r.until r.is_end (R.statement d Role.Inner) ts) a.0 a.1)).many in
      let out = out_body (JBody-F.Statements a.0) (body.Statements a.0) (body.rolls-Statements a.0) in
      let G : JBody-F JBody JMember JStatement JCase JCaseGroup JCatch → Type 0 = λ l. body_stands P d l in
      subst (BodyIs (node_stands P d) true ts) (some_same a.2) (record {
        same = i.same ∙ append-nil (joined (map statement_tokens a.0)) ∙ sym (tokens_Statements a.0);
        kind = ap is_block_by out;
        stands = subst G (sym out) i.all;
      })

  members_body : (ts : Tokens) (x : JBody) → r.body_step R d false ts ≡ Some x → BodyIs (node_stands P d) false ts x
  unfolding r.body_step
  members_body ts x e =
      let item = R.member (suc d) (Owner.Class None) in
      let a = bind_some (whole (r.until r.is_end item ts)) _ _ e in
      let i = (many_sound JMember whole_member_tokens (λ x. P (suc d) (Node.Member (Owner.Class None) x)) r.is_end item
      (S.member (suc d) (Owner.Class None)) (length ts) ts (a.0, []) (whole_only (r.until r.is_end item ts) a.0 a.1)).many in
      let out = out_body (JBody-F.Members a.0) (body.Members a.0) (body.rolls-Members a.0) in
      let G : JBody-F JBody JMember JStatement JCase JCaseGroup JCatch → Type 0 = λ l. body_stands P d l in
      subst (BodyIs (node_stands P d) false ts) (some_same a.2) (record {
        same = i.same ∙ append-nil (joined (map whole_member_tokens a.0)) ∙ sym (tokens_Members a.0);
        kind = ap is_block_by out;
        stands = subst G (sym out) i.all;
      })

  pub body_sound : (kind : Bool) (ts : Tokens) (x : JBody) → r.body_step R d kind ts ≡ Some x → BodyIs (node_stands P d) kind ts x
  body_sound true ts x e = statements_body ts x e
  body_sound false ts x e = members_body ts x e
